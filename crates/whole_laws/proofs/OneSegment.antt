-- A journal without a Restart is its one segment, and means what it means alone.
use Rattle.std.proofs.Common.{◌≡◌, ℕ, ◌+◌, ◌-◌, [], ◌∷◌, ◌++◌, refl, sym, subst, ◌∙◌, arith, Option, append_assoc}
use Rattle.std.specs.Prelude.{Some, None, option_map, unwrap_or}
use Rattle.ha_model.specs.declared.record.EndCause.{EndCause}
use Rattle.ha_journal.specs.declared.entry.Entry.{Entry}
use Rattle.ha_journal.specs.declared.entry.Entry.TheVariants.{Boot, Line, Step, Again}
use Rattle.ha_model.specs.declared.record.Record.{Record}
use Rattle.ha_config.specs.Words.{Text}
use Rattle.ha_whole.specs.Named.{named}
use Rattle.ha_journal.specs.Journal.{Journal, HasEntry, more, units}
use Rattle.ha_config.specs.Names.{name_of}
use Rattle.ha_model.specs.Records as all
use Rattle.ha_model.specs.Records.{Records}
use Rattle.ha_whole.specs.Segments.{entries_in, alone, carried, carried_number, counted_from, cut, front, segment}
use Rattle.ha_whole.specs.Whole.{records_from, AreEntries, IsFirst, placed, placed_all, records_of}
use Rattle.ha_config.proofs.ListLemmas.{append-nil}
use Rattle.whole_laws.specs.Segments.{HasNoAgain}
use Rattle.whole_laws.proofs.CutLemmas.{closed-on, records-cut, segment-on, carried-on}
use Rattle.ha_laws.proofs.PrefixLaws.{has-more}

pub less-zero : (a : ℕ) → a - 0 ≡ a
less-zero a = omega arith

pub plus-zero : (a : ℕ) → 0 + a ≡ a
plus-zero a = omega arith

pub counted-zero : (x : Entry) → counted_from 0 x ≡ x
counted-zero (Boot text config stored start zone carry) = refl
counted-zero (Line source number cmd) = refl
counted-zero (Step worker serial branch item) = (λ i. Step worker (less-zero serial i) branch item)
counted-zero (Again number start stored carry) = refl

pub record IsOne (j : Journal) : Type 0 where
  pub is : segment j ≡ j
  pub closed : (cut j).closed ≡ []

one-from : (before xs : Journal) → HasEntry before → IsOne before → carried before ≡ 0 → HasNoAgain xs → IsOne (before ++ xs)
one-from before [] h o c none = subst IsOne (sym (append-nil before)) o
one-from before (x ∷ xs) h o c none =
    let on : segment (more before x) ≡ more before x
    = segment-on before x none.0 ∙ (λ i. more (o.is i) (alone (o.is i) x)) ∙ (λ i. more before (counted_from (c i) x)) ∙ (λ i. more before (counted-zero x i)) in
    subst IsOne (append_assoc before (x ∷ []) xs)
    (one-from (more before x) xs (has-more before x h) (record { is = on; closed = closed-on before x none.0 ∙ o.closed }) (carried-on before x h ∙ c) none.1)

pub record CarriesNone (j : Journal) : Type 0 where
  pub serials : carried j ≡ 0
  pub numbers : (name : Text) → carried_number j name ≡ 0

pub first-carries : (e : Entry) (es : Journal) → IsFirst e → CarriesNone (e ∷ es)
first-carries (Boot text config stored start zone carry) es h = record { serials = h.serials; numbers = λ name. (λ i. unwrap_or (named name (h.numbers i)) 0) }
first-carries (Line source number cmd) es h = absurd h
first-carries (Step worker serial branch item) es h = absurd h
first-carries (Again number start stored carry) es h = absurd h

placed-zero : (s : Journal) → CarriesNone s → (r : Record) → placed 0 s r ≡ r
placed-zero s c r = λ i. record r {
  serial = ((λ i. c.serials i + r.serial) ∙ plus-zero r.serial) i;
  number = ((λ i. c.numbers (name_of (units s) r.automation) i + r.number) ∙ plus-zero r.number) i;
  place = plus-zero r.place i;
  begin = begins r.begin i;
  end = ends r.end i;
}
  where
    begins : (o : Option ℕ) → option_map (λ p. 0 + p) o ≡ o
    begins None = refl
    begins (Some p) = (λ i. Some (plus-zero p i))

    ends : (o : Option (ℕ × EndCause)) → option_map {T = ℕ × EndCause} (λ e. (0 + e.0, e.1)) o ≡ o
    ends None = refl
    ends (Some e) = (λ i. Some (plus-zero e.0 i, e.1))

placed-all-zero : (s : Journal) → CarriesNone s → (rs : Records) → placed_all 0 s rs ≡ rs
placed-all-zero s c [] = refl
placed-all-zero s c (r ∷ rs) = (λ i. placed-zero s c r i ∷ placed-all-zero s c rs i)

-- the first entry alone is a segment
pub first-one : (e : Entry) → IsFirst e → IsOne (e ∷ [])
first-one (Boot text config stored start zone carry) h = record { is = refl; closed = refl }
first-one (Line source number cmd) h = absurd h
first-one (Step worker serial branch item) h = absurd h
first-one (Again number start stored carry) h = absurd h

pub record MeansAlone (j : Journal) : Type 0 where
  pub segment_is : segment j ≡ j
  pub records_are : records_of j ≡ all.records_of j

-- LAW: a journal without an Again is its one segment, and its records are that segment's
pub one-segment : (j : Journal) → AreEntries j → HasNoAgain j → MeansAlone j
one-segment [] h none = absurd h
one-segment (e ∷ es) h none =
    let c = first-carries e es h.0 in
    let o : IsOne (e ∷ es) = one-from (e ∷ []) es tt (first-one e h.0) (first-zero e h.0) none.1 in
    let nothing : front (e ∷ es) ≡ 0 = (λ i. entries_in (o.closed i)) in
    record {
      segment_is = o.is;
      records_are =
          records-cut (e ∷ es)
          ∙ (λ i. records_from 0 (o.closed i) ++ placed_all (nothing i) (o.is i) (all.records_of (o.is i)))
          ∙ placed-all-zero (e ∷ es) c (all.records_of (e ∷ es));
    }
  where
    first-zero : (e : Entry) → IsFirst e → carried (e ∷ []) ≡ 0
    first-zero e h = (first-carries e [] h).serials
