-- The keys of a map: the first few, and those behind them with their marks.
use Rattle.std.proofs.Common.{◌≡◌, ℕ, ◌≤◌, ◌<◌, Bool, true, false, ◌||◌, ◌&&◌, List, [], ◌∷◌, ◌++◌, ◌⊎◌, inl, inr, length, take, drop, refl, sym, ap, subst, ◌∙◌, arith, length-append}
use Rattle.std.specs.Prelude.{nat_eq}
use Rattle.std.specs.Str.{bytes_eq}
use Rattle.std.proofs.lemmas.Bool.{eqb-true}
use Rattle.std.proofs.lemmas.Slice.Eq.{bytes_eq-Decides}
use Rattle.std.proofs.lemmas.List.{take-append-drop, drop-append-le}
use Rattle.std.proofs.lemmas.List.Folds.{list_any-append}
use Rattle.std.proofs.Math.ListN.{drop_of_length-le}
use Rattle.ha_value.specs.declared.value.Value.{Value}
use Rattle.flow_line.specs.Marks.{mark_of}
use Rattle.flow_line.specs.Reading.{has_key}

abbrev pub Pair : Type 0
Pair = List ℕ × Value

pub in_parts : (n : ℕ) (pairs : List Pair) (q : List ℕ) → has_key pairs q ≡ (has_key (take n pairs) q || has_key (drop n pairs) q)
in_parts n pairs q = ap (λ (ps : List Pair). has_key ps q) (sym (take-append-drop n pairs)) ∙ list_any-append (λ (pair : Pair). bytes_eq pair.0 q) (take n pairs) (drop n pairs)

-- each key behind the first few has its mark
abbrev pub AreMarked : ℕ → List Pair → (ℕ → Bool) → Type 0
AreMarked n pairs marked = (q : List ℕ) → has_key (drop n pairs) q ≡ true → marked (mark_of q) ≡ true

one_of : (a b : Bool) → (a || (b || false)) ≡ true → (a ≡ true) ⊎ (b ≡ true)
one_of true b h = inl refl
one_of false true h = inr refl
one_of false false h = absurd cc

-- what has its mark keeps it
still : (mark : ℕ) (old new : ℕ → Bool) → new mark ≡ true → ((m : ℕ) → nat_eq mark m ≡ false → new m ≡ old m)
    → (m : ℕ) → old m ≡ true → new m ≡ true
still mark old new own others m h =
    by (nat_eq mark m) refl
  where
    by : (same : Bool) → nat_eq mark m ≡ same → new m ≡ true
    by true e = subst (λ (k : ℕ). new k ≡ true) (eqb-true mark m e) own
    by false e = others m e ∙ h

-- one key more behind the first few
pub marked_later : (n : ℕ) (pairs : List Pair) (x : Pair) (old new : ℕ → Bool) → n ≤ length pairs → AreMarked n pairs old → new (mark_of x.0) ≡ true
    → ((m : ℕ) → nat_eq (mark_of x.0) m ≡ false → new m ≡ old m) → AreMarked n (pairs ++ x ∷ []) new
marked_later n pairs x old new h so own others q there =
    let parts : (has_key (drop n pairs) q || (bytes_eq x.0 q || false)) ≡ true =
    sym (list_any-append (λ (pair : Pair). bytes_eq pair.0 q) (drop n pairs) (x ∷ [])) ∙ ap (λ (ps : List Pair). has_key ps q) (sym (drop-append-le n pairs (x ∷ []) h)) ∙ there in
    elim (one_of (has_key (drop n pairs) q) (bytes_eq x.0 q) parts) [
      | inl e ↦ still (mark_of x.0) old new own others (mark_of q) (so q e)
      | inr e ↦ subst (λ (key : List ℕ). new (mark_of key) ≡ true) ((bytes_eq-Decides x.0 q).0 e) own
    ]

-- one of the first few
pub marked_early : (n : ℕ) (pairs : List Pair) (x : Pair) (marked : ℕ → Bool) → length pairs < n → AreMarked n (pairs ++ x ∷ []) marked
marked_early n pairs x marked h q there =
    let none : drop n (pairs ++ x ∷ []) ≡ [] = drop_of_length-le (pairs ++ x ∷ []) (omega (arith, length-append pairs (x ∷ []))) in
    let e : false ≡ true = ap (λ (ps : List Pair). has_key ps q) (sym none) ∙ there in
    absurd cc

-- where what is there has its mark, the mark and the look-up say what the look-up says
pub told : (marked there : Bool) → (there ≡ true → marked ≡ true) → (marked && there) ≡ there
told true there h = refl
told false true h = absurd (let e = h refl in cc)
told false false h = refl
