-- What a text that was cut off may still become: a token that it is the front of, or one that the next byte may make longer.
use Rattle.std.proofs.Common.{◌≡◌, ℕ, suc, ◌+◌, ◌≤◌, Bool, true, false, cond, not, ◌&&◌, ◌||◌, inl, inr, List, [], ◌∷◌, ◌++◌, length, drop, refl, sym, ap, ◌∙◌, subst, arith}
use Rattle.std.specs.Prelude.{◌==◌, nat_eq, max, Option, Some, None}
use Rattle.std.specs.List.{fold}
use Rattle.std.proofs.lemmas.Bool.{and_parts, eqb-true, eq-eqb}
use Rattle.reading.specs.Answer.{front}
use Rattle.reading.proofs.Basics.{chosen_is}
use Rattle.tpl_parse.specs.declared.token.Token.{Token}
use Rattle.tpl_parse.specs.Token.{common, is_longer, ends_before, stands, reach, text_of}
use Rattle.tpl_parse.proofs.Apart.{is_false}

-- a longer token may begin with this one
abbrev pub grows : Token → Bool
grows Token.Minus = true
grows Token.Modulo = true
grows Token.Over = true
grows Token.Less = true
grows Token.More = true
grows Token.Assign = true
grows Token.Set = true
grows Token.If = true
grows Token.Elif = true
grows Token.Else = true
grows Token.Endif = true
grows Token.Or = true
grows Token.And = true
grows Token.Not = true
grows Token.In = true
grows Token.Is = true
grows Token.None = true
grows Token.Defined = true
grows Token.True = true
grows Token.False = true
grows Token.PrintedNone = true
grows Token.PrintedTrue = true
grows Token.PrintedFalse = true
grows _ = false

no_longer : (token : Token) → grows token ≡ false → (b : ℕ) → is_longer token b ≡ false
no_longer Token.Set h b = absurd cc
no_longer Token.If h b = absurd cc
no_longer Token.Elif h b = absurd cc
no_longer Token.Else h b = absurd cc
no_longer Token.Endif h b = absurd cc
no_longer Token.Or h b = absurd cc
no_longer Token.And h b = absurd cc
no_longer Token.Not h b = absurd cc
no_longer Token.In h b = absurd cc
no_longer Token.Is h b = absurd cc
no_longer Token.None h b = absurd cc
no_longer Token.Defined h b = absurd cc
no_longer Token.True h b = absurd cc
no_longer Token.False h b = absurd cc
no_longer Token.PrintedNone h b = absurd cc
no_longer Token.PrintedTrue h b = absurd cc
no_longer Token.PrintedFalse h b = absurd cc
no_longer Token.Equal h b = refl
no_longer Token.Unequal h b = refl
no_longer Token.Less h b = absurd cc
no_longer Token.AtMost h b = refl
no_longer Token.More h b = absurd cc
no_longer Token.AtLeast h b = refl
no_longer Token.Plus h b = refl
no_longer Token.Minus h b = absurd cc
no_longer Token.Join h b = refl
no_longer Token.Times h b = refl
no_longer Token.Over h b = absurd cc
no_longer Token.Floor h b = refl
no_longer Token.Modulo h b = absurd cc
no_longer Token.Bar h b = refl
no_longer Token.Dot h b = refl
no_longer Token.Comma h b = refl
no_longer Token.Assign h b = absurd cc
no_longer Token.OpenList h b = refl
no_longer Token.CloseList h b = refl
no_longer Token.OpenGroup h b = refl
no_longer Token.CloseGroup h b = refl
no_longer Token.ShowEnd h b = refl
no_longer Token.TrimShowEnd h b = refl
no_longer Token.TagEnd h b = refl
no_longer Token.TrimTagEnd h b = refl

-- ---- a token byte by byte

abbrev pub starts : Token → List ℕ → List ℕ → Bool
starts token [] t = ends_before token (front t)
starts token (x ∷ xs) [] = false
starts token (x ∷ xs) (y ∷ t) = cond (x == y) (starts token xs t) false

suc_eq : (m n : ℕ) → nat_eq (suc m) (suc n) ≡ nat_eq m n
suc_eq m n = elim (chosen_is (nat_eq m n)) [
  | inl h ↦ eq-eqb (suc m) (suc n) (ap suc (eqb-true m n h)) ∙ sym h
  | inr h ↦ is_false (nat_eq (suc m) (suc n)) (λ k. (let e : m ≡ n = omega (arith, eqb-true (suc m) (suc n) k) in let w = eq-eqb m n e in cc)) ∙ sym h
]

zero_eq : (n : ℕ) → nat_eq 0 (suc n) ≡ false
zero_eq n = is_false (nat_eq 0 (suc n)) (λ k. omega (arith, eqb-true 0 (suc n) k))

starts_is : (token : Token) (xs t : List ℕ) → (nat_eq (common xs t) (length xs) && ends_before token (front (drop (length xs) t))) ≡ starts token xs t
unfolding common
starts_is token [] t = refl
starts_is token (x ∷ xs) [] = rw (zero_eq (length xs)) refl
starts_is token (x ∷ xs) (y ∷ t) = elim (chosen_is (x == y)) [
  | inl h ↦ rw (h, suc_eq (common xs t) (length xs)) (starts_is token xs t)
  | inr h ↦ rw (h, zero_eq (length xs)) refl
]

pub stands_is : (token : Token) (t : List ℕ) → stands token t ≡ starts token (text_of token) t
unfolding stands
stands_is token t = starts_is token (text_of token) t

-- the text is the front of the token, or all of it where a longer one may begin so
abbrev pub ahead : Token → List ℕ → List ℕ → Bool
ahead token [] [] = grows token
ahead token [] (y ∷ d) = false
ahead token (x ∷ xs) [] = true
ahead token (x ∷ xs) (y ∷ d) = cond (x == y) (ahead token xs d) false

abbrev pub is_ahead : Token → List ℕ → Bool
is_ahead token d = ahead token (text_of token) d

pub ends_alike : (token : Token) → grows token ≡ false → (o : Option ℕ) → ends_before token o ≡ true
ends_alike token h None = refl
ends_alike token h (Some b) = ap not (no_longer token h b)

-- where nothing is ahead, what follows changes nothing
pub starts_same : (token : Token) (xs d a b : List ℕ) → ahead token xs d ≡ false → starts token xs (d ++ a) ≡ starts token xs (d ++ b)
starts_same token [] [] a b h = ends_alike token h (front a) ∙ sym (ends_alike token h (front b))
starts_same token [] (y ∷ d) a b h = refl
starts_same token (x ∷ xs) [] a b h = absurd cc
starts_same token (x ∷ xs) (y ∷ d) a b h = elim (chosen_is (x == y)) [
  | inl k ↦ rw k (starts_same token xs d a b (rw k at h))
  | inr k ↦ rw k refl
]

pub starts_past : (token : Token) (xs d a z : List ℕ) → ahead token xs d ≡ false → starts token xs (d ++ a) ≡ true → drop (length xs) (d ++ z) ≡ drop (length xs) d ++ z
starts_past token [] d a z h s = refl
starts_past token (x ∷ xs) [] a z h s = absurd cc
starts_past token (x ∷ xs) (y ∷ d) a z h s = elim (chosen_is (x == y)) [
  | inl k ↦ starts_past token xs d a z (rw k at h) (rw k at s)
  | inr k ↦ absurd (let w = rw k at s in cc)
]

-- ---- how far the text reaches

ahead_common : (token : Token) (xs d a : List ℕ) → ahead token xs d ≡ true → length d ≤ common xs (d ++ a)
unfolding common
ahead_common token [] [] a h = omega arith
ahead_common token [] (y ∷ d) a h = absurd cc
ahead_common token (x ∷ xs) [] a h = omega arith
ahead_common token (x ∷ xs) (y ∷ d) a h = elim (chosen_is (x == y)) [
  | inl k ↦ rw k (omega (arith, ahead_common token xs d a (rw k at h)))
  | inr k ↦ absurd (let w = rw k at h in cc)
]

abbrev pub any_ahead : List Token → List ℕ → Bool
any_ahead [] d = false
any_ahead (token ∷ tokens) d = is_ahead token d || any_ahead tokens d

fold_grows : (tokens : List Token) (t : List ℕ) (n : ℕ) → n ≤ fold (λ far token. max far (common (text_of token) t)) n tokens
fold_grows [] t n = omega arith
fold_grows (token ∷ tokens) t n = omega (arith, fold_grows tokens t (max n (common (text_of token) t)))

fold_reaches : (tokens : List Token) (d a : List ℕ) (n : ℕ) → any_ahead tokens d ≡ true → length d ≤ fold (λ far token. max far (common (text_of token) (d ++ a))) n tokens
fold_reaches [] d a n h = absurd cc
fold_reaches (token ∷ tokens) d a n h = elim (chosen_is (is_ahead token d)) [
  | inl k ↦ omega (arith, ahead_common token (text_of token) d a k, fold_grows tokens (d ++ a) (max n (common (text_of token) (d ++ a))))
  | inr k ↦ fold_reaches tokens d a (max n (common (text_of token) (d ++ a))) (rw k at h)
]

pub reaches : (tokens : List Token) (d a : List ℕ) → any_ahead tokens d ≡ true → length d ≤ reach tokens (d ++ a)
reaches tokens d a h = fold_reaches tokens d a 0 h

-- ---- a token that stands takes all of what was ahead

-- the second token is not cut off within the first
abbrev clear : Token → List ℕ → List ℕ → Bool
clear token [] ys = true
clear token (x ∷ xs) [] = is_longer token x
clear token (x ∷ xs) (y ∷ ys) = cond (x == y) (clear token xs ys) true

abbrev pub all_clear : List Token → Token → Bool
all_clear [] token = true
all_clear (first ∷ more) token = clear token (text_of first) (text_of token) && all_clear more token

clear_long : (first token : Token) (xs ys d a : List ℕ) → ahead first xs d ≡ true → clear token xs ys ≡ true → starts token ys (d ++ a) ≡ true → length d ≤ length ys
clear_long first token xs ys [] a h c s = omega arith
clear_long first token [] ys (e ∷ d) a h c s = absurd cc
clear_long first token (x ∷ xs) [] (e ∷ d) a h c s = elim (chosen_is (x == e)) [
  | inl k ↦ absurd (let w : is_longer token e ≡ true = subst (λ (z : ℕ). is_longer token z ≡ true) (eqb-true x e k) c in let v : not true ≡ true = rw w at s in cc)
  | inr k ↦ absurd (let w = rw k at h in cc)
]
clear_long first token (x ∷ xs) (y ∷ ys) (e ∷ d) a h c s = elim (chosen_is (x == e)) [
  | inl k ↦ elim (chosen_is (y == e)) [
    | inl m ↦ (let n : (x == y) ≡ true = eq-eqb x y (eqb-true x e k ∙ sym (eqb-true y e m)) in omega (arith, clear_long first token xs ys d a (rw k at h) (rw n at c) (rw m at s)))
    | inr m ↦ absurd (let w = rw m at s in cc)
  ]
  | inr k ↦ absurd (let w = rw k at h in cc)
]

pub stands_long : (tokens : List Token) (token : Token) (d a : List ℕ) → any_ahead tokens d ≡ true → all_clear tokens token ≡ true → stands token (d ++ a) ≡ true → length d ≤ length (text_of token)
stands_long [] token d a h c s = absurd cc
stands_long (first ∷ more) token d a h c s =
    let p = and_parts (clear token (text_of first) (text_of token)) (all_clear more token) c in
    elim (chosen_is (is_ahead first d)) [
      | inl k ↦ clear_long first token (text_of first) (text_of token) d a k p.0 (sym (stands_is token (d ++ a)) ∙ s)
      | inr k ↦ stands_long more token d a (rw k at h) p.1 s
    ]
