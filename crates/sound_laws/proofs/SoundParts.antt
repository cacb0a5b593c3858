-- The parts that automations and scripts have alike: how many runs may be live, and the actions.
use Rattle.std.proofs.Common.{◌≡◌, ◌∙◌, ap, sym, subst, refl, ℕ, Bool, true, false, cond, List, [], ◌∷◌, Option, Some, None}
use Rattle.std.specs.Prelude.{◌&&◌, nat_le, unwrap_or, option_and_then}
use Rattle.ha_clock.specs.SpanText.{number_of}
use Rattle.ha_config.specs.declared.config.Action.{Action}
use Rattle.ha_config.specs.declared.config.ActionKind.TheVariants as does
use Rattle.ha_config.specs.declared.config.ActionKind.TheOpen.{ActionKind-F}
use Rattle.ha_config.specs.declared.config.ActionKind.TheFolds.{fold-ActionKind, fold-roll-ActionKind, fold_out-Action}
use Rattle.ha_config.specs.Sound.{are_sound_actions, is_sound_action, sound_kind_step}
use Rattle.yaml_scan.specs.declared.fault.Code.TheVariants as code
use Rattle.conf_field.specs.declared.key.Key.TheVariants as key
use Rattle.conf_field.specs.Holds.{IfThere}
use Rattle.conf_field.specs.Kinds.{within}
use Rattle.conf_laws.proofs.Joined.{pair}
use Rattle.conf_laws.proofs.Parts.{Passes, Reads, of_scalar}
use Rattle.action_laws.proofs.SoundActions.{actions_sound}
use Rattle.conf_auto.specs.Automations.{actions_in, most_of, most_runs, script_of}

abbrev pub in_most : ℕ → Bool
in_most n = nat_le 1 n && nat_le n 1_000

runs_sound : (t : List ℕ) (n : ℕ) → most_of t ≡ Some n → in_most n ≡ true
runs_sound t n h = by (number_of t) h
  where
    kept : (m : ℕ) (b : Bool) → in_most m ≡ b → cond b (Some m) None ≡ Some n → in_most n ≡ true
    kept m true e k = let here : m ≡ n = cc in subst (λ x. in_most x ≡ true) here e
    kept m false e k = absurd cc

    by : (o : Option ℕ) → option_and_then (within 1 1_000) o ≡ Some n → in_most n ≡ true
    by (Some m) k = kept m (in_most m) refl k
    by None k = absurd cc

pub reads_runs : Reads (Passes in_most) most_runs
reads_runs line n s = of_scalar (Passes in_most) code.Number most_of runs_sound line n

pub default_runs : (o : Option ℕ) → IfThere (Passes in_most) o → in_most (unwrap_or o 10) ≡ true
default_runs (Some n) h = h
default_runs None h = refl

abbrev block : Action
block = record { kind = does.Block [] }

block_sound : is_sound_action block ≡ true
block_sound =
    fold_out-Action Bool Bool sound_kind_step (λ a. a.kind) block
    ∙ ap (fold-ActionKind Bool Bool sound_kind_step (λ a. a.kind)) (sym (does.rolls-Block [])) ∙ fold-roll-ActionKind Bool Bool sound_kind_step (λ a. a.kind) (ActionKind-F.Block [])

pub script_sound : (as' : List Action) → are_sound_actions as' ≡ true → are_sound_actions (script_of as') ≡ true
script_sound [] h = pair true (is_sound_action block && true) refl (pair (is_sound_action block) true block_sound refl)
script_sound (a ∷ as') h = h

pub reads_script : Reads (λ xs. are_sound_actions xs ≡ true) actions_in
reads_script line n s = actions_sound n s
