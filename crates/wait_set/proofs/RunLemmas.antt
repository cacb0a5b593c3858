-- The waits of a run, from one to the next.
use Rattle.std.proofs.Common.{◌≡◌, ℕ, zero, suc, ◌+◌, ◌<◌, ◌≤◌, List, [], ◌∷◌, length, drop, get_or, map, filter, Bool, true, false, refl, sym, subst, ◌∙◌, arith, inl, inr, All}
use Rattle.std.specs.Prelude.{Some, None, nat_eq, ◌&&◌, if◌then◌else◌}
use Rattle.std.specs.BTreeSet.{BTreeSet}
use Rattle.std.proofs.lemmas.Bool.{cases_lt, eqb-true}
use Rattle.std.proofs.lemmas.Bool.Decides.{eqb_tells}
use Rattle.wait_set.specs.declared.asked.Asked.{Asked}
use Rattle.ha_config.specs.Words.{same}
use Rattle.ha_sight.specs.Scripts.{Branch}
use Rattle.wait_set.specs.Asked.{is_of, owners_of, wait_of}
use Rattle.wait_set.specs.Concern.{Ascend}
use Rattle.wait_set.specs.Runs.{HasNone, IsOfRun, IsPaired, Pair, has_pair}

-- ---- the first from a place on

module _ (runs : BTreeSet Pair) (serial : ℕ) (asks : List Asked) (paired : All (IsPaired runs) asks) where
  -- LEMMA: a wait is of another run where the pair of this one and its owner is not listed, if it has to be
  pub passed : (low n : ℕ) (d : Asked) → n < length asks → (nat_eq (get_or asks n d).ask.serial serial ≡ true → low ≤ (get_or asks n d).owner)
      → (low ≤ (get_or asks n d).owner → has_pair runs serial (get_or asks n d).owner ≡ false) → nat_eq (get_or asks n d).ask.serial serial ≡ false
  passed low n d lt from none = by (nat_eq (get_or asks n d).ask.serial serial) refl
    where
      by : (b : Bool) → nat_eq (get_or asks n d).ask.serial serial ≡ b → nat_eq (get_or asks n d).ask.serial serial ≡ false
      by true e = absurd (let bad : ◌≡◌ {A = Bool} true false = sym (paired n d lt) ∙ (λ k. has_pair runs (eqb-true (get_or asks n d).ask.serial serial e k) (get_or asks n d).owner) ∙ none (from e) in cc)
      by false e = e

  module _ (order : Ascend asks) (low owner : ℕ) (next : (n : ℕ) → low ≤ n → n < owner → has_pair runs serial n ≡ false) where
    -- LEMMA: those before the next listed one's are
    pub before : (place n : ℕ) (d : Asked) → n < place → place < length asks → (get_or asks place d).owner ≡ owner
        → (nat_eq (get_or asks n d).ask.serial serial ≡ true → low ≤ (get_or asks n d).owner) → nat_eq (get_or asks n d).ask.serial serial ≡ false
    before place n d lt within own from = passed low n d (omega (arith, lt, within)) from (λ le. (let up = order n place d lt within in next (get_or asks n d).owner le (omega (arith, up, own))))

    -- LEMMA: and where it has none, all that come are behind it
    pub behind : (n : ℕ) (d : Asked) → n < length asks → ((get_or asks n d).owner ≡ owner → nat_eq (get_or asks n d).ask.serial serial ≡ false)
        → low ≤ (get_or asks n d).owner → nat_eq (get_or asks n d).ask.serial serial ≡ true → owner + 1 ≤ (get_or asks n d).owner
    behind n d lt other le is = elim (cases_lt (get_or asks n d).owner owner) [
      | inl under ↦ absurd (never (passed low n d lt (λ e. le) (λ from. next (get_or asks n d).owner from under)))
      | inr over ↦ elim (eqb_tells (get_or asks n d).owner owner) [
        | inl same ↦ absurd (never (other same.1))
        | inr apart ↦ (let differ = apart.1 in omega (arith, over, differ))
      ]
    ]
      where
        never : nat_eq (get_or asks n d).ask.serial serial ≡ false → ⊥
        never none = (let bad : ◌≡◌ {A = Bool} true false = sym is ∙ none in cc)

-- LEMMA: the first owner from a place on is the least
pub least-from : (asks : List Asked) (from n : ℕ) (d : Asked) → Ascend asks → from ≤ n → n < length asks → (get_or asks from d).owner ≤ (get_or asks n d).owner
least-from asks from n d asc le lt = elim (eqb_tells from n) [
  | inl same ↦ subst (λ (k : ℕ). (get_or asks from d).owner ≤ (get_or asks k d).owner) same.1 (omega arith)
  | inr other ↦ (let apart = other.1 in let up = asc from n d (omega (arith, le, apart)) lt in omega (arith, up))
]

-- ---- their owners

-- LEMMA: those that are passed are none of the run's
pub owners-skip : (s : ℕ) (asks : List Asked) (from to : ℕ) → from ≤ to → HasNone asks s from to → owners_of s (drop from asks) ≡ owners_of s (drop to asks)
owners-skip s [] zero zero le none = refl
owners-skip s [] zero (suc to) le none = refl
owners-skip s [] (suc from) zero le none = refl
owners-skip s [] (suc from) (suc to) le none = refl
owners-skip s (z ∷ zs) zero zero le none = refl
owners-skip s (z ∷ zs) zero (suc to) le none =
    (λ k. map {A = Asked} {B = ℕ} (λ a. a.owner) (if none zero z (omega arith) (omega arith) (omega arith) k then z ∷ filter (λ a. nat_eq a.ask.serial s) zs else filter (λ a. nat_eq a.ask.serial s) zs))
    ∙ owners-skip s zs zero to (omega arith) (λ n d low high lt. none (suc n) d (omega arith) (omega (arith, high)) (omega (arith, lt)))
owners-skip s (z ∷ zs) (suc from) zero le none = absurd (omega (arith, le))
owners-skip s (z ∷ zs) (suc from) (suc to) le none =
    owners-skip s zs from to (omega (arith, le)) (λ n d low high lt. none (suc n) d (omega (arith, low)) (omega (arith, high)) (omega (arith, lt)))

-- LEMMA: the owner of one of the run is the first from there on
pub owners-here : (s : ℕ) (asks : List Asked) (at owner : ℕ) → at < length asks → IsOfRun asks s at → ((d : Asked) → owner ≡ (get_or asks at d).owner) → owners_of s (drop at asks) ≡ owner ∷ owners_of s (drop (at + 1) asks)
owners-here s asks at owner lt of own = here asks at lt of own ∙ (λ k. owner ∷ owners_of s (drop (one k) asks))
  where
    one : suc at ≡ at + 1
    one = omega arith

    here : (asks : List Asked) (at : ℕ) → at < length asks → IsOfRun asks s at → ((d : Asked) → owner ≡ (get_or asks at d).owner) → owners_of s (drop at asks) ≡ owner ∷ owners_of s (drop (suc at) asks)
    here [] at lt of own = absurd (omega (arith, lt))
    here (z ∷ zs) zero lt of own =
        (λ k. map {A = Asked} {B = ℕ} (λ a. a.owner) (if of z (omega arith) k then z ∷ filter (λ a. nat_eq a.ask.serial s) zs else filter (λ a. nat_eq a.ask.serial s) zs))
        ∙ sym (λ k. own z k ∷ owners_of s zs)
    here (z ∷ zs) (suc at) lt of own = here zs at (omega (arith, lt)) (λ d within. of d (omega (arith, within))) own

-- LEMMA: there is none behind all
pub owners-end : (s : ℕ) (asks : List Asked) (at : ℕ) → length asks ≤ at → owners_of s (drop at asks) ≡ []
owners-end s [] zero le = refl
owners-end s [] (suc at) le = refl
owners-end s (z ∷ zs) zero le = absurd (omega (arith, le))
owners-end s (z ∷ zs) (suc at) le = owners-end s zs at (omega (arith, le))

-- ---- the one in a branch

-- LEMMA: those that are passed are not it
pub wait-skip : (s : ℕ) (b : Branch) (asks : List Asked) (from to : ℕ) → from ≤ to → HasNone asks s from to → wait_of s b (drop from asks) ≡ wait_of s b (drop to asks)
wait-skip s b [] zero zero le none = refl
wait-skip s b [] zero (suc to) le none = refl
wait-skip s b [] (suc from) zero le none = refl
wait-skip s b [] (suc from) (suc to) le none = refl
wait-skip s b (z ∷ zs) zero zero le none = refl
wait-skip s b (z ∷ zs) zero (suc to) le none =
    (λ k. if none zero z (omega arith) (omega arith) (omega arith) k && same z.ask.branch b then Some z else wait_of s b zs)
    ∙ wait-skip s b zs zero to (omega arith) (λ n d low high lt. none (suc n) d (omega arith) (omega (arith, high)) (omega (arith, lt)))
wait-skip s b (z ∷ zs) (suc from) zero le none = absurd (omega (arith, le))
wait-skip s b (z ∷ zs) (suc from) (suc to) le none =
    wait-skip s b zs from to (omega (arith, le)) (λ n d low high lt. none (suc n) d (omega (arith, low)) (omega (arith, high)) (omega (arith, lt)))

-- LEMMA: it is the first from its place on
pub wait-here : (s : ℕ) (b : Branch) (asks : List Asked) (at : ℕ) (x : Asked) → at < length asks → x ≡ get_or asks at x → is_of s b x ≡ true → Some x ≡ wait_of s b (drop at asks)
wait-here s b [] at x lt is found = absurd (omega (arith, lt))
wait-here s b (z ∷ zs) zero x lt is found = (λ k. Some (is k)) ∙ sym (λ k. if (sym (λ m. is_of s b (is m)) ∙ found) k then Some z else wait_of s b zs)
wait-here s b (z ∷ zs) (suc at) x lt is found = wait-here s b zs at x (omega (arith, lt)) is found

-- LEMMA: behind another, past those of other runs, it is the same
pub wait-more : (s : ℕ) (b : Branch) (asks : List Asked) (at next : ℕ) (x : Asked) → at < length asks → x ≡ get_or asks at x → is_of s b x ≡ false → at + 1 ≤ next → HasNone asks s (at + 1) next
    → wait_of s b (drop next asks) ≡ wait_of s b (drop at asks)
wait-more s b asks at next x lt is other le none =
    sym (wait-skip s b asks (at + 1) next le none) ∙ (λ k. wait_of s b (drop (one k) asks)) ∙ passed-one asks at lt is
  where
    one : at + 1 ≡ suc at
    one = omega arith

    passed-one : (asks : List Asked) (at : ℕ) → at < length asks → x ≡ get_or asks at x → wait_of s b (drop (suc at) asks) ≡ wait_of s b (drop at asks)
    passed-one [] at lt is = absurd (omega (arith, lt))
    passed-one (z ∷ zs) zero lt is = sym (λ k. if (sym (λ m. is_of s b (is m)) ∙ other) k then Some z else wait_of s b zs)
    passed-one (z ∷ zs) (suc at) lt is = passed-one zs at (omega (arith, lt)) is

-- LEMMA: there is none behind all
pub wait-none : (s : ℕ) (b : Branch) (asks : List Asked) (at : ℕ) → length asks ≤ at → None ≡ wait_of s b (drop at asks)
wait-none s b [] zero le = refl
wait-none s b [] (suc at) le = refl
wait-none s b (z ∷ zs) zero le = absurd (omega (arith, le))
wait-none s b (z ∷ zs) (suc at) le = wait-none s b zs at (omega (arith, le))
