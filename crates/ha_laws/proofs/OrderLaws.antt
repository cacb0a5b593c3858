-- On right journals the runs of an automation of mode queued end in their order.
use Rattle.std.proofs.Common.{◌≡◌, ℕ, [], ◌∷◌, ◌++◌, length, Bool, true, false, refl, sym, subst, ◌∙◌, rules, arith, Option, append_assoc}
use Rattle.std.specs.Prelude.{Some, None, not, slice_get, is_none, nat_eq, nat_le, nat_lt, ◌&&◌, ◌||◌, if◌then◌else◌}
use Rattle.std.specs.List.{list_any}
use Rattle.std.specs.Option.{option_map_or}
use Rattle.ha_config.specs.declared.config.Mode.{Mode}
use Rattle.ha_model.specs.declared.record.EndCause.{EndCause}
use Rattle.ha_model.specs.declared.record.Record.{Record}
use Rattle.ha_journal.specs.Journal.{Journal, units}
use Rattle.ha_model.specs.Records.{Records, mode_of, next_place, records_of, last_record}
use Rattle.ha_model.specs.Lawful.{Right}
use Rattle.ha_laws.specs.Told.{has_ended_by, is_unended}
use Rattle.ha_config.proofs.EqualLemmas.{and_left}
use Rattle.ha_model.proofs.RecordGrowth.{is-at-most}
use Rattle.ha_model.proofs.StepLaws.{serial-at}
use Rattle.ha_model.proofs.FoldLaws.{records-passes}
use Rattle.ha_model.proofs.Passes.{with_ends, bare, with_begins}
use Rattle.ha_laws.proofs.ToldSteps.{step-runs}
use Rattle.ha_laws.proofs.ToldBegins.{SortedFrom, sorted-bare, Carried, past-later, get-middle, E, e, B, f, RunsAt, carry}
use Rattle.ha_laws.specs.Order.{is_live, InOrderBehind, InOrder}

equal-self : (a : ℕ) → nat_eq a a ≡ true
equal-self a = search rules

-- ---- a live record is unended

or-right : (a b : Bool) → (a || b) ≡ false → b ≡ false
or-right true b e = cc
or-right false b e = e

live-unended : (a q : ℕ) (rs : Records) → list_any (is_live a) rs ≡ true → list_any (is_unended a q) rs ≡ true
live-unended a q [] h = h
live-unended a q (r ∷ rs) h = by (nat_eq r.automation a) r.end refl (live-unended a q rs) h
  where
    by : (b : Bool) (o : Option (ℕ × EndCause)) → r.end ≡ o → (list_any (is_live a) rs ≡ true → list_any (is_unended a q) rs ≡ true)
        → ((b && is_none o) || list_any (is_live a) rs) ≡ true → ((b && not (has_ended_by q r)) || list_any (is_unended a q) rs) ≡ true
    by true None g ih h = (λ i. not (option_map_or (λ e. nat_le e.0 q) (g i) false) || list_any (is_unended a q) rs)
    by true (Some x) g ih h = or-true (not (has_ended_by q r)) (list_any (is_unended a q) rs) (ih h)
      where
        or-true : (a b : Bool) → b ≡ true → (a || b) ≡ true
        or-true true b e = refl
        or-true false b e = e
    by false o g ih h = ih h

-- ---- the walk along the records

order-from : (j : Journal) (right : Right j (records_of j)) (m : ℕ) (rs back told : Records) → SortedFrom m rs → Carried j m back told → records_of j ≡ told ++ with_begins j back (with_ends j rs)
    → InOrderBehind (units j) (λ a. list_any (is_live a) back) (with_begins j back (with_ends j rs))
order-from j right m [] back told sorted carried whole = tt
order-from j right m (r ∷ rs) back told sorted carried whole =
    let next = next_place r.automation rs in
    let one = e j r next back told in
    let made = f j r next back told in
    let index : slice_get (records_of j) (length told) ≡ Some made
    = (λ i. slice_get (whole i) (length told)) ∙ get-middle told made (with_begins j (one ∷ back) (with_ends j rs)) in
    let runs : RunsAt j r next back told = λ q lt step.
    and_left (option_map_or (λ b. nat_lt b q) (B j r next back told) false) (option_map_or (λ e. nat_le q e.0) (E j r next back told) true)
    (step-runs j (records_of j) (length told) q made right.entries lt index (serial-at j (length told) made index) step) in
    let here : Carried j r.place back told = record { past = past-later j m r.place sorted.0 back carried.past; unended = carried.unended; last = carried.last; queue = carried.queue } in
    let grown : Carried j r.place (one ∷ back) (told ++ (made ∷ [])) = carry j r next back told runs here in
    let rest = order-from j right r.place rs (one ∷ back) (told ++ (made ∷ [])) sorted.1 grown
    (whole ∙ sym (append_assoc told (made ∷ []) (with_begins j (one ∷ back) (with_ends j rs)))) in
    (λ queued live. by grown queued live (E j r next back told) refl, rest)
  where
    by : Carried j r.place (e j r (next_place r.automation rs) back told ∷ back) (told ++ (f j r (next_place r.automation rs) back told ∷ [])) → mode_of (units j) r.automation ≡ Mode.Queued
        → list_any (is_live r.automation) back ≡ true → (o : Option (ℕ × EndCause)) → E j r (next_place r.automation rs) back told ≡ o → E j r (next_place r.automation rs) back told ≡ None
    by grown queued live None g = g
    by grown queued live (Some (q, c)) g =
        let one = e j r (next_place r.automation rs) back told in
        let last : last_record r.automation (one ∷ back) ≡ Some one = (λ i. if equal-self r.automation i then Some one else last_record r.automation back) in
        let ended : has_ended_by q one ≡ true = (λ i. option_map_or (λ e. nat_le e.0 q) (g i) false) ∙ is-at-most q q (omega arith) in
        let none = or-right (is_unended r.automation q one) (list_any (is_unended r.automation q) back) (grown.queue r.automation q one queued last ended) in
        let e : false ≡ true = sym none ∙ live-unended r.automation q back live in
        cc

in-order-of : (j : Journal) → Right j (records_of j) → InOrder (units j) (records_of j)
in-order-of j right =
    subst (InOrder (units j)) (sym (records-passes j))
    (order-from j right 0 (bare j) [] [] (sorted-bare j (length j) (omega arith)).sorted
    (record { past = tt; unended = λ a p. refl; last = λ a. refl; queue = λ a p y m h. absurd (none y h) }) (records-passes j))
  where
    none : (y : Record) → None ≡ Some y → ⊥
    none y e = cc

-- LAW: on a right journal they do
pub in-order : (j : Journal) (rs : Records) → Right j rs → InOrder (units j) rs
in-order j rs right = subst (InOrder (units j)) (sym right.records_are) (in-order-of j (subst (Right j) right.records_are right))
