-- Commands that are fair but for their automation or helper, and fair ones.
use Rattle.std.proofs.Common.{◌≡◌, true, false, cond, refl, rules, sym, IsTrue}
use Rattle.std.specs.Prelude.{Bool, None, Option, Some, not}
use Rattle.std.specs.Str.{is_utf8}
use Rattle.ha_value.specs.declared.value.EntityId.{EntityId}
use Rattle.ha_config.specs.declared.command.Cmd.{Cmd}
use Rattle.ha_config.specs.declared.config.Config.{Config}
use Rattle.ha_config.specs.Words.{Text}
use Rattle.ha_config.specs.Fair.{IsFairAmong, as_read, prepared, put_among, put_reload}
use Rattle.flow_printed.specs.Printed.{IsFairButForName}

is-true : (b : Bool) → b ≡ true → IsTrue b
is-true b e = search (rules, e)

module _ (has : Text → Bool) (helps : EntityId → Bool) (more : Bool) where
  pub fair_anywhere : (c : Cmd) → IsFairAmong has helps more c → IsFairButForName (as_read c)
  fair_anywhere (Cmd.Report entity text attributes) fair = fair.0
  fair_anywhere (Cmd.Gone entity) fair = fair.0
  fair_anywhere (Cmd.Event kind pairs) fair = fair
  fair_anywhere (Cmd.Moment at) fair = fair
  fair_anywhere (Cmd.Switch name on stop) fair = fair.0
  fair_anywhere (Cmd.Trigger name skip) fair = fair.0
  fair_anywhere Cmd.Restart fair = fair
  fair_anywhere (Cmd.Reload text config) fair = (fair.0, refl)
  fair_anywhere (Cmd.Refused code) fair = fair
  fair_anywhere Cmd.Lost fair = fair
  fair_anywhere Cmd.TooLong fair = fair

  put_named : (name : Text) (c : Cmd) → (IsTrue (has name) → IsFairAmong has helps more c) → IsFairAmong has helps more (cond (has name) c (Cmd.Refused 9))
  put_named name c fair =
      (elim (has name) as (λ b. has name ≡ b → IsFairAmong has helps more (cond b c (Cmd.Refused 9))) [
        | true ↦ λ e. fair e
        | false ↦ λ e. refl
      ]) refl

  put_reported : (e : EntityId) (c : Cmd) → (IsTrue (not (helps e)) → IsFairAmong has helps more c) → IsFairAmong has helps more (cond (helps e) (Cmd.Refused 14) c)
  put_reported e c fair = by (helps e) fair
    where
      by : (b : Bool) → (IsTrue (not b) → IsFairAmong has helps more c) → IsFairAmong has helps more (cond b (Cmd.Refused 14) c)
      by true fair = refl
      by false fair = fair refl

  reload_put : (text : Text) (lets : Bool) (o : Option Config) → lets ≡ more → IsTrue (is_utf8 text) → IsFairAmong has helps more (put_reload lets text o)
  reload_put text lets None e u = refl
  reload_put text true (Some config) e u = (u, refl, is-true more (sym e))
  reload_put text false (Some config) e u = refl

  pub fair_once_put : (read : Text → Option Config) (c : Cmd) → IsFairButForName c → IsFairAmong has helps more (put_among has helps more (prepared read c))
  fair_once_put read (Cmd.Report entity text attributes) fair = put_reported entity (Cmd.Report entity text attributes) (λ free. (fair, free))
  fair_once_put read (Cmd.Gone entity) fair = put_reported entity (Cmd.Gone entity) (λ free. (fair, free))
  fair_once_put read (Cmd.Event kind pairs) fair = fair
  fair_once_put read (Cmd.Moment at) fair = fair
  fair_once_put read (Cmd.Switch name on stop) fair = put_named name (Cmd.Switch name on stop) (λ there. (fair, there))
  fair_once_put read (Cmd.Trigger name skip) fair = put_named name (Cmd.Trigger name skip) (λ there. (fair, there))
  fair_once_put read Cmd.Restart fair = fair
  fair_once_put read (Cmd.Reload text config) fair = reload_put text more (read text) refl fair.0
  fair_once_put read (Cmd.Refused code) fair = fair
  fair_once_put read Cmd.Lost fair = fair
  fair_once_put read Cmd.TooLong fair = fair
