-- Commands as they are put, where the text of a Reload is read.
use Rattle.std.proofs.Common.{◌≡◌, Bool, true, false, refl, sym, ap, ◌∙◌}
use Rattle.std.specs.Prelude.{Option, Some, None, is_some, if◌then◌else◌}
use Rattle.ha_config.specs.declared.command.Cmd.{Cmd}
use Rattle.ha_config.specs.declared.config.Config.{Config}
use Rattle.ha_value.specs.declared.value.EntityId.{EntityId}
use Rattle.ha_config.specs.Helpers.{is_helper}
use Rattle.ha_config.specs.Fair.{IsFairAmong, as_read, prepared, put_reload}
use Rattle.ha_config.specs.Words.{Text}
use Rattle.ha_config.proofs.ListLemmas.{true-false}
use Rattle.ha_journal.specs.Commands.{IsFair, has_automation, lets_reload, put_as}
use Rattle.ha_journal.specs.Entries.{reloads_to, restarts}
use Rattle.ha_journal.specs.Journal.{Journal, helpers}

module _ (read : Text → Option Config) where
  -- what a text is read as makes no command a Restart
  pub read-restarts : (c : Cmd) → restarts (prepared read c) ≡ restarts c
  read-restarts (Cmd.Report entity text attributes) = refl
  read-restarts (Cmd.Gone entity) = refl
  read-restarts (Cmd.Event kind pairs) = refl
  read-restarts (Cmd.Moment at) = refl
  read-restarts (Cmd.Switch name on stop) = refl
  read-restarts (Cmd.Trigger name skip) = refl
  read-restarts Cmd.Restart = refl
  read-restarts (Cmd.Reload text config) = refl
  read-restarts (Cmd.Refused code) = refl
  read-restarts Cmd.Lost = refl
  read-restarts Cmd.TooLong = refl

  reload-read : (text : Text) (more : Bool) (o : Option Config) → read text ≡ o → prepared read (put_reload more text o) ≡ put_reload more text o
  reload-read text more None e = refl
  reload-read text true (Some c) e = ap (Cmd.Reload text) e
  reload-read text false (Some c) e = refl

  named-read : (c : Cmd) (b : Bool) → prepared read c ≡ c → prepared read (if b then c else Cmd.Refused 9) ≡ (if b then c else Cmd.Refused 9)
  named-read c true e = e
  named-read c false e = refl

  helped-read : (c : Cmd) (b : Bool) → prepared read c ≡ c → prepared read (if b then Cmd.Refused 14 else c) ≡ (if b then Cmd.Refused 14 else c)
  helped-read c true e = refl
  helped-read c false e = e

  -- LAW: what is put for a command that was read stays the same where it is read again
  pub put-read : (j : Journal) (c : Cmd) → prepared read (put_as j (prepared read c)) ≡ put_as j (prepared read c)
  put-read j (Cmd.Report entity text attributes) = helped-read (Cmd.Report entity text attributes) (is_helper (helpers j) entity) refl
  put-read j (Cmd.Gone entity) = helped-read (Cmd.Gone entity) (is_helper (helpers j) entity) refl
  put-read j (Cmd.Event kind pairs) = refl
  put-read j (Cmd.Moment at) = refl
  put-read j (Cmd.Switch name on stop) = named-read (Cmd.Switch name on stop) (has_automation j name) refl
  put-read j (Cmd.Trigger name skip) = named-read (Cmd.Trigger name skip) (has_automation j name) refl
  put-read j Cmd.Restart = refl
  put-read j (Cmd.Reload text config) = reload-read text (lets_reload j) (read text) refl
  put-read j (Cmd.Refused code) = refl
  put-read j Cmd.Lost = refl
  put-read j Cmd.TooLong = refl

-- where nothing is read, no Reload is put
none-named : (c : Cmd) (b : Bool) → reloads_to c ≡ None → reloads_to (if b then c else Cmd.Refused 9) ≡ None
none-named c true e = e
none-named c false e = refl

none-helped : (c : Cmd) (b : Bool) → reloads_to c ≡ None → reloads_to (if b then Cmd.Refused 14 else c) ≡ None
none-helped c true e = refl
none-helped c false e = e

pub none-put : (j : Journal) (c : Cmd) → reloads_to (put_as j (as_read c)) ≡ None
none-put j (Cmd.Report entity text attributes) = none-helped (Cmd.Report entity text attributes) (is_helper (helpers j) entity) refl
none-put j (Cmd.Gone entity) = none-helped (Cmd.Gone entity) (is_helper (helpers j) entity) refl
none-put j (Cmd.Event kind pairs) = refl
none-put j (Cmd.Moment at) = refl
none-put j (Cmd.Switch name on stop) = none-named (Cmd.Switch name on stop) (has_automation j name) refl
none-put j (Cmd.Trigger name skip) = none-named (Cmd.Trigger name skip) (has_automation j name) refl
none-put j Cmd.Restart = refl
none-put j (Cmd.Reload text config) = refl
none-put j (Cmd.Refused code) = refl
none-put j Cmd.Lost = refl
none-put j Cmd.TooLong = refl

-- a fair command that reloads nothing asks for no room
pub fair-unreloaded : (has : Text → Bool) (helps : EntityId → Bool) (a b : Bool) (c : Cmd) → reloads_to c ≡ None → IsFairAmong has helps a c → IsFairAmong has helps b c
fair-unreloaded has helps a b (Cmd.Report entity text attributes) none h = h
fair-unreloaded has helps a b (Cmd.Gone entity) none h = h
fair-unreloaded has helps a b (Cmd.Event kind pairs) none h = h
fair-unreloaded has helps a b (Cmd.Moment at) none h = h
fair-unreloaded has helps a b (Cmd.Switch name on stop) none h = h
fair-unreloaded has helps a b (Cmd.Trigger name skip) none h = h
fair-unreloaded has helps a b Cmd.Restart none h = h
fair-unreloaded has helps a b (Cmd.Reload text None) none h = absurd (let e = h.1 in cc)
fair-unreloaded has helps a b (Cmd.Reload text (Some config)) none h = absurd (cc)
fair-unreloaded has helps a b (Cmd.Refused code) none h = h
fair-unreloaded has helps a b Cmd.Lost none h = h
fair-unreloaded has helps a b Cmd.TooLong none h = h

-- ---- room for a Reload

-- LAW: a fair Reload has room
pub fair-lets : (j : Journal) (c : Cmd) → IsFair j c → is_some (reloads_to c) ≡ true → lets_reload j ≡ true
fair-lets j (Cmd.Report entity text attributes) fair e = absurd (true-false (sym e))
fair-lets j (Cmd.Gone entity) fair e = absurd (true-false (sym e))
fair-lets j (Cmd.Event kind pairs) fair e = absurd (true-false (sym e))
fair-lets j (Cmd.Moment at) fair e = absurd (true-false (sym e))
fair-lets j (Cmd.Switch name on stop) fair e = absurd (true-false (sym e))
fair-lets j (Cmd.Trigger name skip) fair e = absurd (true-false (sym e))
fair-lets j Cmd.Restart fair e = absurd (true-false (sym e))
fair-lets j (Cmd.Refused code) fair e = absurd (true-false (sym e))
fair-lets j Cmd.Lost fair e = absurd (true-false (sym e))
fair-lets j Cmd.TooLong fair e = absurd (true-false (sym e))
fair-lets j (Cmd.Reload text config) fair e = fair.2

named-lets : (c : Cmd) (b : Bool) → reloads_to c ≡ None → is_some (reloads_to (if b then c else Cmd.Refused 9)) ≡ false
named-lets c true e = (λ i. is_some (e i))
named-lets c false e = refl

helped-lets : (c : Cmd) (b : Bool) → reloads_to c ≡ None → is_some (reloads_to (if b then Cmd.Refused 14 else c)) ≡ false
helped-lets c true e = refl
helped-lets c false e = (λ i. is_some (e i))

-- LAW: and so has one that is put
pub put-lets : (j : Journal) (c : Cmd) → is_some (reloads_to (put_as j c)) ≡ true → lets_reload j ≡ true
put-lets j (Cmd.Report entity text attributes) e = absurd (true-false (sym e ∙ helped-lets (Cmd.Report entity text attributes) (is_helper (helpers j) entity) refl))
put-lets j (Cmd.Gone entity) e = absurd (true-false (sym e ∙ helped-lets (Cmd.Gone entity) (is_helper (helpers j) entity) refl))
put-lets j (Cmd.Event kind pairs) e = absurd (true-false (sym e))
put-lets j (Cmd.Moment at) e = absurd (true-false (sym e))
put-lets j (Cmd.Switch name on stop) e = absurd (true-false (sym e ∙ named-lets (Cmd.Switch name on stop) (has_automation j name) refl))
put-lets j (Cmd.Trigger name skip) e = absurd (true-false (sym e ∙ named-lets (Cmd.Trigger name skip) (has_automation j name) refl))
put-lets j Cmd.Restart e = absurd (true-false (sym e))
put-lets j (Cmd.Refused code) e = absurd (true-false (sym e))
put-lets j Cmd.Lost e = absurd (true-false (sym e))
put-lets j Cmd.TooLong e = absurd (true-false (sym e))
put-lets j (Cmd.Reload text None) e = absurd (true-false (sym e))
put-lets j (Cmd.Reload text (Some config)) e = by (lets_reload j) refl e
  where
    by : (b : Bool) → lets_reload j ≡ b → is_some (reloads_to (put_reload b text (Some config))) ≡ true → lets_reload j ≡ true
    by true f e = f
    by false f e = absurd (true-false (sym e))
