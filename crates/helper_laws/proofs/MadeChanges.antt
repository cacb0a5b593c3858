-- Each change in a right journal is one that a service makes of what its place sees.
use Rattle.std.proofs.Common.{◌≡◌, ℕ, ◌+◌, List, [], ◌∷◌, ◌++◌, length, refl, sym, ◌∙◌}
use Rattle.std.specs.Prelude.{Option, Some, None, option_and_then}
use Rattle.ha_config.specs.Words.{EachAfter, last_of}
use Rattle.ha_config.proofs.ListLemmas.{none-some}
use Rattle.ha_sight.specs.declared.item.Item.{Item}
use Rattle.ha_sight.specs.Scripts.{Branch, Outcome, Spot, is_open}
use Rattle.ha_journal.specs.declared.entry.Entry.{Entry}
use Rattle.ha_journal.specs.declared.entry.Entry.TheVariants.{Boot, Line, Step, Again}
use Rattle.ha_journal.specs.Entries.{changes_in}
use Rattle.ha_journal.specs.Journal.{HasEntry, IsJournal, Journal, more, units}
use Rattle.ha_journal.specs.Moves.{sight}
use Rattle.ha_model.specs.declared.record.Record.{Record}
use Rattle.ha_model.specs.Lawful.{IsRightEntry, Right}
use Rattle.ha_model.specs.Records.{Records, actions_of, next_spot, ran, spots}
use Rattle.ha_model.proofs.StepLaws.{ran-step}
use Rattle.script_laws.specs.Made.{AreMade}
use Rattle.script_laws.proofs.ByScript.{script-stands, script-used}
use Rattle.script_laws.proofs.StandLemmas.{last-stands}

-- what an entry changes behind a journal is made of what is seen there
abbrev pub ChangesMade : Journal → Entry → Type 0
ChangesMade before x = AreMade (sight before (length before)) (changes_in x)

module _ (j : Journal) (worker serial : ℕ) (b : Branch) (item : Item) (some : HasEntry j) where
  abbrev step : Entry
  step = Step worker serial b item

  by-outcome : (r : Record) → r.serial ≡ serial → (o : Option Outcome) → ran (more j step) r ≡ o → option_and_then (λ z. last_of z.items) o ≡ Some item → ChangesMade j step
  by-outcome r own None f e = absurd (none-some item e)
  by-outcome r own (Some o) f e =
      let ps : List Spot = spots j r.serial ++ (next_spot j b ∷ []) in
      let given = sym (ran-step j worker serial b item r some own) ∙ f in
      (last-stands (is_open o.status) (spots j r.serial) (next_spot j b) o.items item (script-used (actions_of (units j) r.automation) r.env ps o given)
      (script-stands (actions_of (units j) r.automation) r.env ps o given) e).helps

-- LAW: what a right entry changes is made
pub entry-made : (rs : Records) (j : Journal) (x : Entry) → HasEntry j → IsRightEntry rs j x → ChangesMade j x
entry-made rs j (Boot text config stored start zone carry) some right = tt
entry-made rs j (Again number start stored carry) some right = tt
entry-made rs j (Line source number cmd) some right = tt
entry-made rs j (Step worker serial b item) some right =
    by-outcome j worker serial b item some right.0 right.2 (ran (more j (Step worker serial b item)) right.0) refl right.3.item_is

pub more-has : (j : Journal) (x : Entry) → HasEntry j → HasEntry (more j x)
more-has [] x h = absurd h
more-has (y ∷ ys) x h = tt

-- so it is of the entries behind a journal
made-behind : (rs : Records) (before xs : Journal) → HasEntry before → EachAfter (IsRightEntry rs) before xs → EachAfter ChangesMade before xs
made-behind rs before [] some h = tt
made-behind rs before (x ∷ xs) some h = (entry-made rs before x some h.0, made-behind rs (more before x) xs (more-has before x some) h.1)

-- LAW: and of all entries of a right journal
pub changes-made : (j : Journal) (rs : Records) → Right j rs → EachAfter ChangesMade [] j
changes-made j rs right = by j right.journal right.entries
  where
    first : (x : Entry) (xs : Journal) → IsJournal (x ∷ xs) → ChangesMade [] x
    first (Boot text config stored start zone carry) xs is = tt
    first (Again number start stored carry) xs is = tt
    first (Line source number cmd) xs is = tt
    first (Step worker serial b item) xs is = absurd is.0

    by : (k : Journal) → IsJournal k → EachAfter (IsRightEntry rs) [] k → EachAfter ChangesMade [] k
    by [] is h = absurd is
    by (x ∷ xs) is h = (first x xs is, made-behind rs (x ∷ []) xs tt h.1)
