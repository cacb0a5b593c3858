-- A right journal with one more entry, whose turn it is, is lawful with its records.
use Rattle.std.proofs.Common.{◌≡◌, ℕ, suc, ◌-◌, List, [], ◌∷◌, ◌++◌, length, refl, sym, subst, ◌∙◌, arith, append_assoc, length-append}
use Rattle.std.specs.Prelude.{IsTrue, option_and_then}
use Rattle.ha_sight.specs.declared.item.Item.{Item}
use Rattle.ha_journal.specs.declared.entry.Entry.{Entry}
use Rattle.ha_journal.specs.declared.entry.Entry.TheVariants.{Boot, Line, Step, Again}
use Rattle.ha_config.specs.Words.{last_of, EachAfter, EachFrom}
use Rattle.ha_journal.specs.Journal.{Journal, IsJournal, HasEntry, more, units}
use Rattle.ha_journal.specs.Entries.{BeginsSegment}
use Rattle.ha_sight.specs.Scripts.{Branch, whole}
use Rattle.ha_model.specs.Records.{Records, spots, actions_of}
use Rattle.ha_model.specs.RecordSteps.{records_after}
use Rattle.ha_model.specs.Lawful.{is_running, IsRightEntry, Right, IsTurn, IsBusy, Lawful, Running}
use Rattle.ha_config.proofs.ListLemmas.{append-nil}
use Rattle.ha_model.proofs.AppendLemmas.{SameUpTo}
use Rattle.ha_model.proofs.FoldLaws.{records-more}
use Rattle.ha_journal.proofs.MoreLemmas.{has-entry}
use Rattle.ha_model.proofs.LawfulLaws.{same-after, running-more, closing-more}
use Rattle.ha_laws.proofs.OneAnswer.{back-same}

-- the fact on the last member
pub each-last : {X : Type 0} (P : List X → X → Type 0) (before xs : List X) (x : X) → EachAfter P before (xs ++ (x ∷ [])) → P (before ++ xs) x
each-last P before [] x h = subst (λ l. P l x) (sym (append-nil before)) h.0
each-last P before (y ∷ ys) x h = subst (λ l. P l x) (append_assoc before (y ∷ []) ys) (each-last P (before ++ (y ∷ [])) ys x h.1)

from-last : {X : Type 0} (P : X → Type 0) (n : ℕ) (xs : List X) (x : X) → EachFrom (λ m y. P y) n (xs ++ (x ∷ [])) → P x
from-last P n [] x h = h.0
from-last P n (y ∷ ys) x h = from-last P (suc n) ys x h.1

-- behind an entry none begins a segment
no-begin : (j : Journal) (x : Entry) → HasEntry j → IsJournal (more j x) → BeginsSegment x → ⊥
no-begin [] x some h = absurd some
no-begin (e ∷ es) x some h = from-last (λ y. BeginsSegment y → ⊥) 1 es x h.1

-- what makes an entry right by the new records makes it so by the old ones
pub right-back : (n : ℕ) (rs rs' : Records) → SameUpTo n rs rs' → (d : Journal) (y : Entry) → length d ≡ n → IsRightEntry rs' d y → IsRightEntry rs d y
right-back n rs rs' s d (Boot text config stored start zone carry) le h = tt
right-back n rs rs' s d (Again number start stored carry) le h = tt
right-back n rs rs' s d (Line source number cmd) le h = h
right-back n rs rs' s d (Step worker serial branch item) le h =
    let y : Entry = Step worker serial branch item in
    let place : length (d ++ (y ∷ [])) - 1 ≡ n = omega (arith, le, length-append d (y ∷ [])) in
    let back = back-same n rs rs' (serial - 1) h.0 s h.1 ((λ i. is_running (sym place i) h.0) ∙ h.3.runs) in (
      back.0,
      back.1,
      back.2.serial ∙ h.2,
      record {
        runs = subst IsTrue (sym (back.2.running (length (d ++ (y ∷ [])) - 1) (omega (arith, place)))) h.3.runs;
        item_is = (λ i. option_and_then (λ o. last_of o.items) (whole (actions_of (units (d ++ (y ∷ []))) (back.2.automation i)) (back.2.env i) (spots (d ++ (y ∷ [])) (back.2.serial i)))) ∙ h.3.item_is;
      },
    )

new-records : (j : Journal) (rs rs' : Records) (x : Entry) → Right j rs → Right (more j x) rs' → rs' ≡ records_after j rs x
new-records j rs rs' x old new = new.records_are ∙ records-more j x ∙ (λ i. records_after j (sym old.records_are i) x)

-- what stands last in a right journal is right after what stood before it
last-right : (j : Journal) (rs rs' : Records) (x : Entry) → Right j rs → Right (more j x) rs' → IsRightEntry rs j x
last-right j rs rs' x old new =
    let same : SameUpTo (length j) rs rs' = subst (SameUpTo (length j) rs) (sym (new-records j rs rs' x old new)) (same-after j rs x old.journal old.records_are) in
    right-back (length j) rs rs' same j x refl (each-last (IsRightEntry rs') [] j x new.entries)

-- LAW: a lawful journal without closing steps, and right with one more entry whose turn it is and whose worker is busy, is so with the new records
pub right-runs : (j : Journal) (rs rs' : Records) (x : Entry) → Running j rs → Right (more j x) rs' → IsTurn rs j x → IsBusy rs j x → Running (more j x) rs'
right-runs j rs rs' x run new turn busy =
    let old = run.lawful.right in
    let e = new-records j rs rs' x old new in
    subst (Running (more j x)) (sym e) (running-more j rs x run (no-begin j x (has-entry j old.journal) new.journal) (last-right j rs rs' x old new) turn busy)

-- LAW: a lawful journal, and right with one more step of worker 0 whose turn it is, is lawful with the new records
pub right-closes : (j : Journal) (rs rs' : Records) (serial : ℕ) (branch : Branch) (item : Item) → Lawful j rs → Right (more j (Step 0 serial branch item)) rs' → IsTurn rs j (Step 0 serial branch item)
    → Lawful (more j (Step 0 serial branch item)) rs'
right-closes j rs rs' serial branch item lawful new turn =
    let x : Entry = Step 0 serial branch item in
    let e = new-records j rs rs' x lawful.right new in
    subst (Lawful (more j x)) (sym e) (closing-more j rs serial branch item lawful (last-right j rs rs' x lawful.right new) turn)
