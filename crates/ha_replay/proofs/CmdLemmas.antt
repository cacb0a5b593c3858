-- Commands that are fair but for their names and helpers, and what is put for them.
use Rattle.std.proofs.Common.{◌≡◌, ◌∙◌, ℕ, List, [], ◌∷◌, refl, ap, Bool, true, false, rules, subst, sym}
use Rattle.std.specs.Prelude.{IsTrue, None, Option, Some, if◌then◌else◌, is_some, map, not, slice_get}
use Rattle.std.specs.List.{list_any}
use Rattle.ha_value.specs.declared.value.EntityId.{EntityId}
use Rattle.ha_config.specs.declared.command.Cmd.{Cmd}
use Rattle.ha_config.specs.declared.config.Automation.{Automation}
use Rattle.ha_config.specs.declared.config.Config.{Config}
use Rattle.ha_config.specs.CommandText.{cmd_text}
use Rattle.ha_config.specs.Fair.{IsFairAmong, as_read, no_automation, of_helper, prepared, put_reload}
use Rattle.ha_config.specs.Helpers.{is_helper}
use Rattle.ha_config.specs.Names.{named_among}
use Rattle.ha_config.specs.Words.{Text, same}
use Rattle.ha_config.proofs.ListLemmas.{none-some, some-same, true-false}
use Rattle.ha_journal.specs.declared.entry.Entry.{Entry}
use Rattle.ha_journal.specs.Commands.{IsFair, has_automation, lets_reload, put_as}
use Rattle.ha_journal.specs.Entries.{reloads_to, restarts}
use Rattle.ha_journal.specs.Journal.{Journal, automations, helpers, in_force}
use Rattle.ha_journal.proofs.ForceLaws.{in-force-are}
use Rattle.flow_printed.specs.Printed.{IsFairButForName}
use Rattle.ha_replay.specs.Steps.{is_named, reloads}

pub is-true : (b : Bool) → b ≡ true → IsTrue b
is-true b e = search (rules, e)

pub of-true : (b : Bool) → IsTrue b → b ≡ true
of-true b e = search (rules, e)

-- ---- the helpers of the first entry

pub first-helpers : (j : Journal) (x : Entry) → Some x ≡ slice_get j 0 → helpers (x ∷ []) ≡ helpers j
first-helpers [] x e = absurd (none-some x (sym e))
first-helpers (y ∷ ys) x e = ap (λ (z : Entry). helpers (z ∷ [])) (some-same x y e)

pub no-helpers : (j : Journal) (id : EntityId) → None ≡ slice_get j 0 → false ≡ is_helper (helpers j) id
no-helpers [] id e = refl
no-helpers (y ∷ ys) id e = absurd (none-some y e)

-- ---- names in force

abbrev NamePairs : Type 0
NamePairs = List (ℕ × Automation)

named-in : (ps : NamePairs) (name : Text) → is_some (named_among ps name) ≡ list_any (λ (a : Automation). same a.name name) (map {A = ℕ × Automation} {B = Automation} (λ p. p.1) ps)
named-in [] name = refl
named-in (p ∷ ps) name = by (same p.1.name name) refl (named-in ps name)
  where
    by : (b : Bool) → same p.1.name name ≡ b → is_some (named_among ps name) ≡ list_any (λ (a : Automation). same a.name name) (map {A = ℕ × Automation} {B = Automation} (λ q. q.1) ps)
        → is_some (named_among (p ∷ ps) name) ≡ list_any (λ (a : Automation). same a.name name) (map {A = ℕ × Automation} {B = Automation} (λ q. q.1) (p ∷ ps))
    by true e rest = rw e refl
    by false e rest = rw e rest

-- an automation has the name exactly where one of the configuration in force has it
pub has-by : (j : Journal) (name : Text) → has_automation j name ≡ list_any (λ (a : Automation). same a.name name) (automations j)
has-by j name = named-in (in_force j) name ∙ (λ i. list_any (λ (a : Automation). same a.name name) (in-force-are j i))

-- ---- fair commands

-- a fair command is, as it is read, fair but for its name, and its name is there
pub fair-but : (j : Journal) (c : Cmd) → IsFair j c → IsFairButForName (as_read c)
fair-but j (Cmd.Report entity text attributes) h = h.0
fair-but j (Cmd.Gone entity) h = h.0
fair-but j (Cmd.Event kind pairs) h = h
fair-but j (Cmd.Moment at) h = h
fair-but j (Cmd.Switch name on stop) h = h.0
fair-but j (Cmd.Trigger name skip) h = h.0
fair-but j Cmd.Restart h = h
fair-but j (Cmd.Reload text config) h = (h.0, refl)
fair-but j (Cmd.Refused code) h = h
fair-but j Cmd.Lost h = h
fair-but j Cmd.TooLong h = h

pub fair-named : (j : Journal) (c : Cmd) → IsFair j c → is_named j (as_read c) ≡ true
fair-named j (Cmd.Report entity text attributes) h = of-true (not (is_helper (helpers j) entity)) h.1
fair-named j (Cmd.Gone entity) h = of-true (not (is_helper (helpers j) entity)) h.1
fair-named j (Cmd.Event kind pairs) h = refl
fair-named j (Cmd.Moment at) h = refl
fair-named j (Cmd.Switch name on stop) h = of-true (has_automation j name) h.1
fair-named j (Cmd.Trigger name skip) h = of-true (has_automation j name) h.1
fair-named j Cmd.Restart h = refl
fair-named j (Cmd.Reload text config) h = refl
fair-named j (Cmd.Refused code) h = refl
fair-named j Cmd.Lost h = refl
fair-named j Cmd.TooLong h = refl

-- a command that is fair among some names is so among others that are the same, where one Reload more may stand among these
pub fair-moved : (has has' : Text → Bool) (helps helps' : EntityId → Bool) (a b : Bool) (c : Cmd) → has ≡ has' → helps ≡ helps' → (is_some (reloads_to c) ≡ true → b ≡ true) → IsFairAmong has helps a c → IsFairAmong has' helps' b c
fair-moved has has' helps helps' a b (Cmd.Report entity text attributes) e same lets h = (h.0, subst (λ (f : EntityId → Bool). IsTrue (not (f entity))) same h.1)
fair-moved has has' helps helps' a b (Cmd.Gone entity) e same lets h = (h.0, subst (λ (f : EntityId → Bool). IsTrue (not (f entity))) same h.1)
fair-moved has has' helps helps' a b (Cmd.Event kind pairs) e same lets h = h
fair-moved has has' helps helps' a b (Cmd.Moment at) e same lets h = h
fair-moved has has' helps helps' a b (Cmd.Switch name on stop) e same lets h = (h.0, subst (λ (f : Text → Bool). IsTrue (f name)) e h.1)
fair-moved has has' helps helps' a b (Cmd.Trigger name skip) e same lets h = (h.0, subst (λ (f : Text → Bool). IsTrue (f name)) e h.1)
fair-moved has has' helps helps' a b Cmd.Restart e same lets h = h
fair-moved has has' helps helps' a b (Cmd.Reload text config) e same lets h = (h.0, h.1, is-true b (lets (of-true (is_some config) h.1)))
fair-moved has has' helps helps' a b (Cmd.Refused code) e same lets h = h
fair-moved has has' helps helps' a b Cmd.Lost e same lets h = h
fair-moved has has' helps helps' a b Cmd.TooLong e same lets h = h

-- ---- as they are read

-- a command shows the same as it is read
pub read-text : (c : Cmd) → cmd_text (as_read c) ≡ cmd_text c
read-text (Cmd.Report entity text attributes) = refl
read-text (Cmd.Gone entity) = refl
read-text (Cmd.Event kind pairs) = refl
read-text (Cmd.Moment at) = refl
read-text (Cmd.Switch name on stop) = refl
read-text (Cmd.Trigger name skip) = refl
read-text Cmd.Restart = refl
read-text (Cmd.Reload text config) = refl
read-text (Cmd.Refused code) = refl
read-text Cmd.Lost = refl
read-text Cmd.TooLong = refl

pub reloads-read : (c : Cmd) → reloads (as_read c) ≡ reloads c
reloads-read (Cmd.Report entity text attributes) = refl
reloads-read (Cmd.Gone entity) = refl
reloads-read (Cmd.Event kind pairs) = refl
reloads-read (Cmd.Moment at) = refl
reloads-read (Cmd.Switch name on stop) = refl
reloads-read (Cmd.Trigger name skip) = refl
reloads-read Cmd.Restart = refl
reloads-read (Cmd.Reload text config) = refl
reloads-read (Cmd.Refused code) = refl
reloads-read Cmd.Lost = refl
reloads-read Cmd.TooLong = refl

-- a command that restarts is the one that does
pub restart-is : (c : Cmd) → restarts c ≡ true → c ≡ Cmd.Restart
restart-is (Cmd.Report entity text attributes) e = absurd (true-false (sym e))
restart-is (Cmd.Gone entity) e = absurd (true-false (sym e))
restart-is (Cmd.Event kind pairs) e = absurd (true-false (sym e))
restart-is (Cmd.Moment at) e = absurd (true-false (sym e))
restart-is (Cmd.Switch name on stop) e = absurd (true-false (sym e))
restart-is (Cmd.Trigger name skip) e = absurd (true-false (sym e))
restart-is Cmd.Restart e = refl
restart-is (Cmd.Reload text config) e = absurd (true-false (sym e))
restart-is (Cmd.Refused code) e = absurd (true-false (sym e))
restart-is Cmd.Lost e = absurd (true-false (sym e))
restart-is Cmd.TooLong e = absurd (true-false (sym e))

-- one that reloads does not restart
pub reload-goes-on : (c : Cmd) → reloads c ≡ true → restarts c ≡ false
reload-goes-on (Cmd.Report entity text attributes) e = absurd (true-false (sym e))
reload-goes-on (Cmd.Gone entity) e = absurd (true-false (sym e))
reload-goes-on (Cmd.Event kind pairs) e = absurd (true-false (sym e))
reload-goes-on (Cmd.Moment at) e = absurd (true-false (sym e))
reload-goes-on (Cmd.Switch name on stop) e = absurd (true-false (sym e))
reload-goes-on (Cmd.Trigger name skip) e = absurd (true-false (sym e))
reload-goes-on Cmd.Restart e = absurd (true-false (sym e))
reload-goes-on (Cmd.Reload text config) e = refl
reload-goes-on (Cmd.Refused code) e = absurd (true-false (sym e))
reload-goes-on Cmd.Lost e = absurd (true-false (sym e))
reload-goes-on Cmd.TooLong e = absurd (true-false (sym e))

-- ---- as they are put

helped-text : (c : Cmd) (b : Bool) → not b ≡ true → cmd_text (if b then Cmd.Refused of_helper else c) ≡ cmd_text c
helped-text c true e = absurd (true-false (sym e))
helped-text c false e = refl

helped-put : (c : Cmd) (b : Bool) → not b ≡ true → (if b then Cmd.Refused of_helper else c) ≡ c
helped-put c true e = absurd (true-false (sym e))
helped-put c false e = refl

named-text : (c : Cmd) (b : Bool) → b ≡ true → cmd_text (if b then c else Cmd.Refused no_automation) ≡ cmd_text c
named-text c true e = refl
named-text c false e = absurd (true-false (sym e))

module _ (read : Text → Option Config) (j : Journal) where
  -- what is put for a command shows the same, but for a Reload that is refused
  pub put-shown : (c : Cmd) → is_named j c ≡ true → (reloads c ≡ true → reloads (put_as j (prepared read c)) ≡ true) → cmd_text (put_as j (prepared read c)) ≡ cmd_text c
  put-shown (Cmd.Report entity text attributes) e h = helped-text (Cmd.Report entity text attributes) (is_helper (helpers j) entity) e
  put-shown (Cmd.Gone entity) e h = helped-text (Cmd.Gone entity) (is_helper (helpers j) entity) e
  put-shown (Cmd.Event kind pairs) e h = refl
  put-shown (Cmd.Moment at) e h = refl
  put-shown (Cmd.Switch name on stop) e h = named-text (Cmd.Switch name on stop) (has_automation j name) e
  put-shown (Cmd.Trigger name skip) e h = named-text (Cmd.Trigger name skip) (has_automation j name) e
  put-shown Cmd.Restart e h = refl
  put-shown (Cmd.Reload text config) e h = by (lets_reload j) (read text) (h refl)
    where
      by : (b : Bool) (o : Option Config) → reloads (put_reload b text o) ≡ true → cmd_text (put_reload b text o) ≡ cmd_text (Cmd.Reload text config)
      by b None r = absurd (true-false (sym r))
      by true (Some d) r = refl
      by false (Some d) r = absurd (true-false (sym r))
  put-shown (Cmd.Refused code) e h = refl
  put-shown Cmd.Lost e h = refl
  put-shown Cmd.TooLong e h = refl

  -- a fair command whose text is read so is what is put for it
  pub put-fair : (c : Cmd) → IsFair j c → prepared read c ≡ c → put_as j (prepared read (as_read c)) ≡ c
  put-fair (Cmd.Report entity text attributes) h is = helped-put (Cmd.Report entity text attributes) (is_helper (helpers j) entity) (of-true (not (is_helper (helpers j) entity)) h.1)
  put-fair (Cmd.Gone entity) h is = helped-put (Cmd.Gone entity) (is_helper (helpers j) entity) (of-true (not (is_helper (helpers j) entity)) h.1)
  put-fair (Cmd.Event kind pairs) h is = refl
  put-fair (Cmd.Moment at) h is = refl
  put-fair (Cmd.Switch name on stop) h is = (λ i. if of-true (has_automation j name) h.1 i then Cmd.Switch name on stop else Cmd.Refused no_automation)
  put-fair (Cmd.Trigger name skip) h is = (λ i. if of-true (has_automation j name) h.1 i then Cmd.Trigger name skip else Cmd.Refused no_automation)
  put-fair Cmd.Restart h is = refl
  put-fair (Cmd.Reload text config) h is = by config (ap reloads_to is) (of-true (is_some config) h.1)
    where
      by : (o : Option Config) → read text ≡ o → is_some o ≡ true → put_reload (lets_reload j) text (read text) ≡ Cmd.Reload text o
      by None e some = absurd (true-false (sym some))
      by (Some d) e some = (λ i. put_reload (of-true (lets_reload j) h.2 i) text (e i))
  put-fair (Cmd.Refused code) h is = refl
  put-fair Cmd.Lost h is = refl
  put-fair Cmd.TooLong h is = refl
