-- One byte more of a line.
use Rattle.std.proofs.Common.{◌≡◌, ℕ, ◌+◌, ◌-◌, ◌≤◌, ◌<◌, Bool, true, false, cond, List, [], ◌∷◌, ◌++◌, length, take, drop, get_or, refl, sym, ap, ◌∙◌, append_assoc, arith, length-take, drop-cons, add-one, ◌⊎◌, inl, inr}
use Rattle.std.specs.Prelude.{◌==◌}
use Rattle.std.proofs.Math.ListN.{drop_of_length-le}
use Rattle.std.proofs.lemmas.Bool.{eqb-true}
use Rattle.std.proofs.lemmas.List.{drop-append-le, take_more, drop-take}
use Rattle.yaml_scan.specs.declared.line.RawLine.{RawLine}
use Rattle.yaml_scan.specs.Lines.{lines_from, line_of, without_cr}

-- the bytes of a line so far, and one more
pub grown : (text : List ℕ) (start i : ℕ) → start ≤ i → i < length text → drop start (take (i + 1) text) ≡ drop start (take i text) ++ get_or text i 0 ∷ []
grown text start i le lt =
    let h : start ≤ length (take i text) = omega (arith, length-take {A = ℕ}) in
    ap (drop start) (take_more text i 0 lt) ∙ drop-append-le start (take i text) (get_or text i 0 ∷ []) h

decides : (b : Bool) → (b ≡ true) ⊎ (b ≡ false)
decides true = inl refl
decides false = inr refl

next : (n : ℕ) (raw text : List ℕ) (i : ℕ) → i < length text → lines_from n raw (drop i text) ≡ cond (get_or text i 0 == 10) (line_of n (without_cr raw) ∷ lines_from (n + 1) [] (drop (i + 1) text)) (lines_from n (raw ++ get_or text i 0 ∷ []) (drop (i + 1) text))
unfolding lines_from
next n raw text i lt = rw (add-one i, drop-cons text i 0) refl

differs : (a b : ℕ) → (a ≡ b → ⊥) → (a == b) ≡ false
differs a b h = elim (decides (a == b)) [
  | inl y ↦ absurd (h (eqb-true a b y))
  | inr z ↦ z
]

-- the two ways to write a part
pub parted : (text : List ℕ) (start i : ℕ) → start ≤ i → take (i - start) (drop start text) ≡ drop start (take i text)
parted text start i le = sym (drop-take start (i - start) text) ∙ ap (λ (k : ℕ). drop start (take k text)) (omega arith)

-- the loop's step at an LF
pub at_end : (found more : List RawLine) (n m : ℕ) (text raw : List ℕ) (line : RawLine) (start start' i : ℕ) (total : List RawLine) → start ≤ i → i < length text → get_or text i 0 ≡ 10
    → raw ≡ without_cr (take (i - start) (drop start text)) → line ≡ line_of n raw → more ≡ found ++ line ∷ [] → m ≡ n + 1 → start' ≡ i + 1
    → found ++ lines_from n (drop start (take i text)) (drop i text) ≡ total
    → more ++ lines_from m (drop start' (take (i + 1) text)) (drop (i + 1) text) ≡ total
at_end found more n m text raw line start start' i total le lt b r is pushed counted begun so =
    let front : List ℕ = drop start (take i text) in
    let step : lines_from n front (drop i text) ≡ line_of n (without_cr front) ∷ lines_from (n + 1) [] (drop (i + 1) text) = next n front text i lt ∙ rw b refl in
    let none : drop start' (take (i + 1) text) ≡ [] = drop_of_length-le (take (i + 1) text) (omega (arith, length-take {A = ℕ})) in
    let line_is : line ≡ line_of n (without_cr front) = is ∙ ap (line_of n) r ∙ ap (λ (x : List ℕ). line_of n (without_cr x)) (parted text start i le) in
    rw (none, pushed, counted, line_is) (append_assoc found (line_of n (without_cr front) ∷ []) (lines_from (n + 1) [] (drop (i + 1) text)) ∙ ap (λ (x : List RawLine). found ++ x) (sym step) ∙ so)

-- and at another byte
pub at_other : (found : List RawLine) (n : ℕ) (text : List ℕ) (start i : ℕ) (total : List RawLine) → start ≤ i → i < length text → (get_or text i 0 ≡ 10 → ⊥)
    → found ++ lines_from n (drop start (take i text)) (drop i text) ≡ total
    → found ++ lines_from n (drop start (take (i + 1) text)) (drop (i + 1) text) ≡ total
at_other found n text start i total le lt b so =
    let step : lines_from n (drop start (take i text)) (drop i text) ≡ lines_from n (drop start (take i text) ++ get_or text i 0 ∷ []) (drop (i + 1) text) = next n (drop start (take i text)) text i lt ∙ rw (differs (get_or text i 0) 10 b) refl in
    ap (λ (x : List ℕ). found ++ lines_from n x (drop (i + 1) text)) (grown text start i le lt) ∙ ap (λ (x : List RawLine). found ++ x) (sym step) ∙ so
