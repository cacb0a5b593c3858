-- Triggers and runs at a Reload of what is in force.
use Rattle.std.proofs.Common.{◌≡◌, ℕ, zero, suc, ◌-◌, true, [], ◌∷◌, length, refl, sym, ◌∙◌, arith}
use Rattle.std.specs.Prelude.{Option, Some, None, slice_get}
use Rattle.ha_value.specs.declared.value.EntityId.{EntityId}
use Rattle.ha_config.specs.declared.config.Trigger.{Trigger}
use Rattle.ha_config.proofs.ListLemmas.{some-same}
use Rattle.ha_journal.specs.declared.entry.Entry.{Entry}
use Rattle.ha_journal.specs.Attempts.{attempts}
use Rattle.ha_journal.specs.Force.{force, has_unit}
use Rattle.ha_journal.specs.Holds.{fired_from}
use Rattle.ha_journal.specs.Journal.{Journal, more}
use Rattle.ha_journal.specs.Moves.{sight}
use Rattle.ha_model.specs.declared.record.Record.{Record}
use Rattle.ha_model.specs.Lawful.{Right, record_of}
use Rattle.ha_model.specs.Records.{Records, records_of}
use Rattle.ha_past.specs.Holds.{pending}
use Rattle.reload_laws.specs.Same.{ReloadsTheSame}
use Rattle.reload_laws.proofs.LiveLemmas.{live-in-force}
use Rattle.reload_laws.proofs.ReloadLine.{IsOnly, reload-only}
use Rattle.reload_laws.proofs.SameForce.{force-same}
use Rattle.reload_laws.proofs.SameHolds.{attempts-here, fires-none, passing-here, pending-same}
use Rattle.reload_laws.proofs.SameRuns.{none-new, run-same}
use Rattle.reload_laws.proofs.SameSight.{sight-same}

-- records that are as many, and of which each one is found at its place, are the same
same-list : (xs ys : Records) → length xs ≡ length ys → ((n : ℕ) (r : Record) → slice_get ys n ≡ Some r → slice_get xs n ≡ Some r) → xs ≡ ys
same-list [] [] len h = refl
same-list [] (y ∷ ys) len h = absurd (omega (arith, len))
same-list (x ∷ xs) [] len h = absurd (omega (arith, len))
same-list (x ∷ xs) (y ∷ ys) len h =
    let first = some-same x y (h zero y refl) in
    let later = same-list xs ys (omega (arith, len)) (λ n r e. h (suc n) r e) in
    (λ i. first i ∷ later i)

module _ (j : Journal) (x : Entry) (s : ReloadsTheSame j x) where
  only : IsOnly x
  only = reload-only x s.config s.reloads

  seen : sight (more j x) (suc (length j)) ≡ sight (more j x) (length j)
  seen = sight-same j x s.config s.some s.reloads s.sound s.alike

  pub fires-same : (t : Trigger) (e : Option EntityId) (from : ℕ) → fired_from (more j x) t e from (length j) ≡ None
  fires-same t e from = fires-none j x s.some only seen t e from

  pub attempts-same : attempts (more j x) (length j) ≡ []
  attempts-same = attempts-here j x s.some only seen

  pub holds-same : (t : Trigger) (e : Option EntityId) (from : ℕ) → pending (more j x) t e from ≡ pending j t e from
  holds-same t e from = pending-same j x s.some only seen t e from

  pub runs-same : (n : ℕ) (r : Record) → record_of (records_of j) n ≡ Some r → (r.end ≡ None → has_unit (force j) r.automation ≡ true) → record_of (records_of (more j x)) n ≡ Some r
  runs-same n r found there =
      run-same j x s.config s.reloads (passing-here j x s.some only seen) n r found
      (λ live. (λ i. has_unit (force-same j x s.config s.some s.reloads s.sound s.alike i) r.automation) ∙ there live)

  pub new-same : length (records_of (more j x)) ≡ length (records_of j)
  new-same = none-new j x s.config s.reloads (passing-here j x s.some only seen)

  -- LAW: so all records of a right journal stay
  pub records-same : (rs : Records) → Right j rs → records_of (more j x) ≡ records_of j
  records-same rs right = same-list (records_of (more j x)) (records_of j) new-same at
    where
      at : (n : ℕ) (r : Record) → slice_get (records_of j) n ≡ Some r → slice_get (records_of (more j x)) n ≡ Some r
      at n r e =
          let back : suc n - 1 ≡ n = omega arith in
          let found : record_of (records_of j) (suc n) ≡ Some r = (λ i. slice_get (records_of j) (back i)) ∙ e in
          (λ i. slice_get (records_of (more j x)) (sym back i))
          ∙ runs-same (suc n) r found (λ live. live-in-force j rs right (suc n) r ((λ i. record_of (right.records_are i) (suc n)) ∙ found) live)
