-- What a pair that goes or comes leaves of other callers' pairs.
use Rattle.std.proofs.Common.{◌≡◌, ℕ, Bool, true, false, refl, ◌∙◌, arith, nat_cmp}
use Rattle.std.specs.Prelude.{nat_eq, if◌then◌else◌}
use Rattle.std.specs.BTreeMap.{is_at}
use Rattle.std.specs.BTreeSet.{BTreeSet, Updates}
use Rattle.std.specs.Ordering.{is_eq, ordering_then}
use Rattle.std.specs.declared.cmp.Ordering.{Ordering}
use Rattle.std.specs.declared.cmp.Ordering.TheVariants.{Less, Equal, Greater}
use Rattle.std.proofs.lemmas.Bool.Decides.{nat_tests}
use Rattle.wait_set.specs.Runs.{Pair, has_pair, pair_cmp}

apart-pair : (s o : ℕ) (p : Pair) → nat_eq s p.0 ≡ false → is_at (pair_cmp (s, o)) p ≡ false
apart-pair s o p other = by (nat_cmp s p.0) apart
  where
    apart : is_eq (nat_cmp s p.0) ≡ false
    apart = grind (arith, nat_tests, other)

    by : (c : Ordering) → is_eq c ≡ false → is_eq (ordering_then c (nat_cmp o p.1)) ≡ false
    by Less h = refl
    by Equal h = absurd (let bad : ◌≡◌ {A = Bool} true false = h in cc)
    by Greater h = refl

-- LEMMA: what an update of the pairs says of other callers
pub pairs-apart : (old new : BTreeSet Pair) (s o : ℕ) (b : Bool) → Updates pair_cmp old new (s, o) b → (t n : ℕ) → nat_eq s t ≡ false → has_pair new t n ≡ has_pair old t n
pairs-apart old new s o b updates t n apart = updates.0 (t, n) ∙ (λ i. if apart-pair s o (t, n) apart i then b else has_pair old t n)
