-- Texts without the blanks and breaks at their ends.
use Rattle.std.proofs.Common.{◌≡◌, ℕ, zero, suc, ◌-◌, ◌≤◌, ◌<◌, Bool, true, false, cond, List, [], ◌∷◌, ◌++◌, length, get_or, take, Some, refl, sym, ap, subst, ◌∙◌, arith, inl, inr, length-append, IsUtf8}
use Rattle.std.specs.Prelude.{reverse, ◌==◌}
use Rattle.std.specs.List.{slice_get}
use Rattle.std.proofs.lemmas.List.{reverse-append, reverse-reverse, length-reverse, get_or-reverse}
use Rattle.std.proofs.lemmas.Bool.{eqb-true}
use Rattle.std.proofs.lemmas.Option.{slice_get_within, get_or_from_slice_get}
use Rattle.std.proofs.lemmas.Str.{IsUtf8-past_char, IsUtf8-take, IsCharBoundary-before_ascii, encode_ascii}
use Rattle.std.proofs.Math.Seq.{take-append_seam, take-suc}
use Rattle.reading.proofs.Basics.{chosen_is}
use Rattle.ha_value.specs.Truth.{is_blank_or_break}
use Rattle.tpl_parse.specs.Token.{spaces}
use Rattle.tpl_parse.specs.declared.token.Token.{Token}
use Rattle.tpl_parse.specs.Pieces.{Choosing, none_open, statements, trimmed}

-- ---- the last of a list is the first of the reversed one

begins : {A : Type 0} (ys : List A) (x : A) → 0 < length ys → get_or ys 0 x ≡ x → (outer : List A) × (ys ≡ x ∷ outer)
begins [] x lt e = absurd (omega arith)
begins (y ∷ ys) x lt e = (ys, ap (λ z. z ∷ ys) e)

pub reverse_last : {A : Type 0} (xs : List A) (x : A) → slice_get xs (length xs - 1) ≡ Some x → (outer : List A) × (reverse xs ≡ x ∷ outer)
reverse_last xs x e =
    let lt : 0 < length xs = omega (arith, slice_get_within xs (length xs - 1) x e) in
    let last : length xs - 1 - 0 ≡ length xs - 1 = omega arith in
    begins (reverse xs) x (omega (arith, length-reverse xs)) (get_or-reverse xs 0 x lt ∙ ap (λ k. get_or xs k x) last ∙ get_or_from_slice_get xs (length xs - 1) x x e)

reverse_take : (text : List ℕ) (n : ℕ) → n < length text → reverse (take (suc n) text) ≡ get_or text n 0 ∷ reverse (take n text)
reverse_take text n lt = ap reverse (take-suc text n 0 lt) ∙ reverse-append (take n text) (get_or text n 0 ∷ [])

-- ---- the loop from the end

pub trim_on : (text : List ℕ) (to : ℕ) → 0 < to → to ≤ length text → is_blank_or_break (get_or text (to - 1) 0) ≡ true → spaces (reverse (take (to - 1) text)) ≡ spaces (reverse (take to text))
unfolding spaces
trim_on text zero some le e = absurd (omega arith)
trim_on text (suc n) some le e =
    let back : suc n - 1 ≡ n = omega arith in
    let space : is_blank_or_break (get_or text n 0) ≡ true = rw back at e in
    rw (back, reverse_take text n (omega arith), space) refl

pub trim_ends : (text : List ℕ) (to : ℕ) → to ≤ length text → (0 < to → is_blank_or_break (get_or text (to - 1) 0) ≡ false) → spaces (reverse (take to text)) ≡ spaces (reverse text) → take to text ≡ reverse (spaces (reverse text))
unfolding spaces
trim_ends text zero le last e = rw (← e) refl
trim_ends text (suc n) le last e =
    let back : suc n - 1 ≡ n = omega arith in
    let none : is_blank_or_break (get_or text n 0) ≡ false = rw back at (last (omega arith)) in
    let stays : spaces (reverse (take (suc n) text)) ≡ reverse (take (suc n) text) = rw (reverse_take text n (omega arith), none) refl in
    sym (reverse-reverse (take (suc n) text)) ∙ ap reverse (sym stays ∙ e)

-- ---- what is left is UTF-8

space_low : (b : ℕ) → is_blank_or_break b ≡ true → b < 128
space_low b h = grind (arith, h)

pub front_utf8 : (text : List ℕ) → IsUtf8 text → IsUtf8 (spaces text)
unfolding spaces
front_utf8 [] u = u
front_utf8 (b ∷ text) u = elim (chosen_is (is_blank_or_break b)) [
  | inl h ↦ rw h (front_utf8 text (IsUtf8-past_char (b ∷ text) text b u (ap (λ (t : List ℕ). t ++ text) (sym (encode_ascii b (space_low b h))))))
  | inr h ↦ rw h u
]

seam : (xs : List ℕ) (b : ℕ) → get_or (xs ++ b ∷ []) (length xs) 0 ≡ b
seam [] b = refl
seam (x ∷ xs) b = seam xs b

last_ascii : (xs : List ℕ) (b : ℕ) → b < 128 → IsUtf8 (xs ++ b ∷ []) → IsUtf8 xs
last_ascii xs b low u =
    subst IsUtf8 (take-append_seam xs (b ∷ [])) (IsUtf8-take (xs ++ b ∷ []) (length xs) u (IsCharBoundary-before_ascii (xs ++ b ∷ []) (length xs) (omega (arith, length-append xs (b ∷ []))) (omega (arith, seam xs b, low))))

end_utf8 : (back : List ℕ) → IsUtf8 (reverse back) → IsUtf8 (reverse (spaces back))
unfolding spaces
end_utf8 [] u = u
end_utf8 (b ∷ back) u = elim (chosen_is (is_blank_or_break b)) [
  | inl h ↦ rw h (end_utf8 back (last_ascii (reverse back) b (space_low b h) (subst IsUtf8 (reverse-append (b ∷ []) back) u)))
  | inr h ↦ rw h u
]

pub trimmed_utf8 : (front end : Bool) (text : List ℕ) → IsUtf8 text → IsUtf8 (trimmed front end text)
trimmed_utf8 front end text u = by_end end (by_front front) where
  by_front : (front : Bool) → IsUtf8 (cond front (spaces text) text)
  by_front true = front_utf8 text u
  by_front false = u

  by_end : (end : Bool) → IsUtf8 (cond front (spaces text) text) → IsUtf8 (trimmed front end text)
  by_end true k = end_utf8 (reverse (cond front (spaces text) text)) (subst IsUtf8 (sym (reverse-reverse (cond front (spaces text) text))) k)
  by_end false k = k

-- ---- the innermost choice is the last

pub statements_last : (xs : List Choosing) (x : Choosing) (found : List Token) → slice_get xs (length xs - 1) ≡ Some x → ((outer : List Choosing) → found ≡ statements (x ∷ outer)) → found ≡ statements (reverse xs)
statements_last xs x found e h = let r = reverse_last xs x e in h r.0 ∙ ap statements (sym r.1)

none_length : (ys : List Choosing) → (length ys == 0) ≡ none_open ys
none_length [] = refl
none_length (y ∷ ys) = elim (chosen_is (length (y ∷ ys) == 0)) [ inl h ↦ absurd (let e = eqb-true (length (y ∷ ys)) 0 h in omega arith) | inr h ↦ h ]

pub none_of_length : (xs : List Choosing) (n : ℕ) → n ≡ length xs → (n == 0) ≡ none_open (reverse xs)
none_of_length xs n e = ap (λ n. n == 0) (e ∙ sym (length-reverse xs)) ∙ none_length (reverse xs)
