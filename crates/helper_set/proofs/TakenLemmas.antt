-- One place more is taken out of a set, and its timer finishes.
use Rattle.std.proofs.Common.{◌≡◌, ℕ, ◌+◌, ◌<◌, ◌≤◌, List, [], ◌∷◌, ◌++◌, length, take, drop, Bool, true, false, refl, sym, ap, subst, ◌∙◌, arith, nat_cmp, inl, inr, append-nil}
use Rattle.std.specs.Prelude.{Option, None, Result, Ok, Err, IfOk, OnOk, IsTrue, nat_eq, flat_map, slice_get, option_map, if◌then◌else◌}
use Rattle.std.specs.Option.{option_map_or}
use Rattle.std.specs.BTreeSet.{BTreeSet, IsLowerBound}
use Rattle.std.proofs.lemmas.Bool.Decides.{eqb_tells}
use Rattle.std.proofs.lemmas.List.{take-append-le, take_all}
use Rattle.ha_value.specs.declared.value.EntityId.{EntityId}
use Rattle.ha_config.specs.Words.{up_to}
use Rattle.helper_set.specs.declared.kept.Kept.{Kept}
use Rattle.helper_set.specs.Passes.{Turns, entity_at, has, idled}
use Rattle.helper_set.proofs.BootLemmas.{past}
use Rattle.helper_set.proofs.PlaceSets.{flat-skip, flat-up, left-before, left-else, left-here}

pub ok-then : {T E : Type 0} {P Q : Type 0} (r : Result T E) → (P → Q) → OnOk r P → OnOk r Q
ok-then (Ok x) f h = f h
ok-then (Err x) f h = h

pub if-ok : {T E : Type 0} {P Q : T → Type 0} (r : Result T E) → ((x : T) → P x → Q x) → IfOk r P → IfOk r Q
if-ok (Ok x) f h = f x h
if-ok (Err x) f h = h

-- what a place has once some are taken: as at first while it is left, else as it will be
abbrev pub taken_as : {X : Type 0} → Bool → Bool → X → X → X
taken_as left first before after = if left then before else (if first then after else before)

module _ (first old new : BTreeSet ℕ) (p : ℕ) (there : IsTrue (has old p)) (updates : Turns old new p false) (least : IsLowerBound nat_cmp old p)
    (gone : (n : ℕ) → has first n ≡ false → has old n ≡ false) where
  held : has old p ≡ true
  held = by (has old p) there
    where
      by : (b : Bool) → IsTrue b → b ≡ true
      by true h = refl
      by false h = absurd (let bad : ◌≡◌ {A = Bool} false true = h in cc)

  at_first : has first p ≡ true
  at_first = by (has first p) refl
    where
      by : (b : Bool) → has first p ≡ b → b ≡ true
      by true h = refl
      by false h = absurd (let bad : ◌≡◌ {A = Bool} true false = sym held ∙ gone p h in cc)

  pub gone-more : (n : ℕ) → has first n ≡ false → has new n ≡ false
  gone-more n none = elim (eqb_tells p n) [
    | inl same ↦ subst (λ m. has new m ≡ false) same.1 (left-here old new p updates least)
    | inr other ↦ left-else old new p updates least n other.0 ∙ gone n none
  ]

  -- LAW: what is changed at that place alone, as it will be, is as it should with one place more taken
  pub taken-more : {X : Type 0} (start now next : ℕ → X) (f : X → X) → ((n : ℕ) → now n ≡ taken_as (has old n) (has first n) (start n) (f (start n)))
      → ((n : ℕ) → next n ≡ (if nat_eq p n then f (now n) else now n)) → (n : ℕ) → next n ≡ taken_as (has new n) (has first n) (start n) (f (start n))
  taken-more start now next f h step n = elim (eqb_tells p n) [
    | inl same ↦ subst (λ m. next m ≡ taken_as (has new m) (has first m) (start m) (f (start m))) same.1
        (step p ∙ (let own : nat_eq p p ≡ true = subst (λ m. nat_eq p m ≡ true) (sym same.1) same.0 in λ i. if own i then f (now p) else now p)
        ∙ ap f (h p ∙ (λ i. taken_as (held i) (has first p) (start p) (f (start p))))
        ∙ (λ i. taken_as (sym (left-here old new p updates least) i) (sym at_first i) (start p) (f (start p))))
    | inr other ↦
        step n ∙ (λ i. if other.0 i then f (now n) else now n) ∙ h n
        ∙ (λ i. taken_as (sym (left-else old new p updates least n other.0) i) (has first n) (start n) (f (start n)))
  ]

  -- LAW: and what was found goes up to that place
  pub found-more : (start now : List Kept) (found more : List EntityId) (next : ℕ) → next ≤ p → ((n : ℕ) → next ≤ n → has old n ≡ has first n)
      → found ≡ flat_map (λ n. if has first n then entity_at start n else []) (up_to next)
      → slice_get now p ≡ slice_get start p
      → more ≡ found ++ entity_at now p
      → more ≡ flat_map (λ n. if has first n then entity_at start n else []) (up_to (p + 1))
  found-more start now found more next from behind found_is same more_is =
      more_is
      ∙ (λ i. found_is i ++ here i)
      ∙ (λ i. sym (flat-skip f next p from none) i ++ f p)
      ∙ sym (flat-up f p)
    where
      f : ℕ → List EntityId
      f n = if has first n then entity_at start n else []

      here : entity_at now p ≡ (if has first p then entity_at start p else [])
      here = same_entity_at ∙ (λ i. if sym at_first i then entity_at start p else [])
        where
          by : (o q : Option Kept) → o ≡ q → option_map_or (λ (k : Kept). k.helper.entity ∷ []) o [] ≡ option_map_or (λ (k : Kept). k.helper.entity ∷ []) q []
          by o q e = ap (λ (x : Option Kept). option_map_or (λ (k : Kept). k.helper.entity ∷ []) x []) e

          same_entity_at : entity_at now p ≡ entity_at start p
          same_entity_at = by (slice_get now p) (slice_get start p) same

      none : (n : ℕ) → next ≤ n → n < p → f n ≡ []
      none n le lt = (λ i. if (sym (behind n le) ∙ left-before old new p updates least n lt) i then entity_at start n else [])

-- LAW: behind the last place there is nothing to find or to finish
pub found-past : (kept : List Kept) (n : ℕ) (found : List EntityId) → length kept ≤ n → found ≡ found ++ entity_at kept n
found-past kept n found le = sym (append-nil found) ∙ (λ i. found ++ option_map_or (λ (k : Kept). k.helper.entity ∷ []) (sym (past kept n le) i) [])

pub kept-past : (kept : List Kept) (p : ℕ) → length kept ≤ p → (n : ℕ) → slice_get kept n ≡ (if nat_eq p n then option_map idled (slice_get kept n) else slice_get kept n)
kept-past kept p le n = elim (eqb_tells p n) [
  | inl same ↦
      (let none : slice_get kept n ≡ None = subst (λ m. slice_get kept m ≡ None) same.1 (past kept p le) in
      none ∙ (λ i. if sym same.0 i then option_map idled (sym none i) else slice_get kept n))
  | inr other ↦ (λ i. if sym other.0 i then option_map idled (slice_get kept n) else slice_get kept n)
]

pub found-beyond : (kept : List Kept) (b : Bool) (n : ℕ) → length kept ≤ n → (if b then entity_at kept n else []) ≡ []
found-beyond kept true n le = (λ i. option_map_or (λ (k : Kept). k.helper.entity ∷ []) (past kept n le i) [])
found-beyond kept false n le = refl

-- LAW: what was written through a slice is what the slice then has
pub written : {X : Type 0} (len : ℕ) (new old : List X) → len ≡ length new → take len (new ++ drop (length new) old) ≡ new
written len new old e =
    (λ i. take (e i) (new ++ drop (length new) old))
    ∙ take-append-le (length new) new (drop (length new) old) (omega arith)
    ∙ take_all (length new) new (omega arith)
