-- At one place at most one token stands: where one stands next, those that are apart from it do not.
use Rattle.std.proofs.Common.{◌≡◌, ℕ, suc, Bool, true, false, not, ◌&&◌, inl, inr, List, [], ◌∷◌, ◌++◌, length, drop, refl, sym, ap, ◌∙◌, subst, arith}
use Rattle.std.specs.Prelude.{◌==◌, nat_eq}
use Rattle.std.proofs.lemmas.Bool.{and_parts, eqb-true, eq-eqb}
use Rattle.reading.specs.Answer.{front}
use Rattle.reading.proofs.Basics.{chosen}
use Rattle.tpl_parse.specs.declared.token.Token.{Token}
use Rattle.tpl_parse.specs.Token.{common, is_longer, ends_before, spaces, stands, next_is, text_of}

-- ---- a token that stands is at the front

-- the text begins with this one
abbrev pub BeginsWith : List ℕ → List ℕ → Type 0
BeginsWith a t = t ≡ a ++ drop (length a) t

common_all : (a t : List ℕ) → common a t ≡ length a → BeginsWith a t
unfolding common
common_all [] t e = refl
common_all (x ∷ a) [] e = absurd (omega arith)
common_all (x ∷ a) (y ∷ t) e = elim (chosen (x == y) (suc (common a t)) 0 (suc (length a)) e) [
  | inl h ↦ (let same : x ≡ y = eqb-true x y h.0 in let more = common_all a t (let k = h.1 in omega arith) in (λ i. sym same i ∷ more i))
  | inr h ↦ absurd (let k = h.1 in omega arith)
]

pub stands_parts : (token : Token) (t : List ℕ) → stands token t ≡ true → BeginsWith (text_of token) t × (ends_before token (front (drop (length (text_of token)) t)) ≡ true)
unfolding stands
stands_parts token t e =
    let p = and_parts (nat_eq (common (text_of token) t) (length (text_of token))) (ends_before token (front (drop (length (text_of token)) t))) e in
    (common_all (text_of token) t (eqb-true (common (text_of token) t) (length (text_of token)) p.0), p.1)

-- ---- two tokens that cannot stand at one place

abbrev unless_same : Bool → Bool → Bool
unless_same true r = r
unless_same false r = true

-- two texts differ within the shorter one, or the longer one goes on with a byte that makes the shorter one's token a longer one
abbrev pub differ : Token → Token → List ℕ → List ℕ → Bool
differ a b [] [] = false
differ a b [] (y ∷ ys) = is_longer a y
differ a b (x ∷ xs) [] = is_longer b x
differ a b (x ∷ xs) (y ∷ ys) = unless_same (x == y) (differ a b xs ys)

abbrev pub apart : Token → Token → Bool
apart a b = differ a b (text_of a) (text_of b)

longer_not : (l : Bool) → not l ≡ true → l ≡ true → ⊥
longer_not true h k = cc
longer_not false h k = cc

same_front : (x y : ℕ) (xs ys : List ℕ) → x ∷ xs ≡ y ∷ ys → (x ≡ y) × (xs ≡ ys)
same_front x y xs ys e = (ap (λ (l : List ℕ). cap l) e, ap (λ (l : List ℕ). drop 1 l) e)
  where
    cap : List ℕ → ℕ
    cap [] = x
    cap (z ∷ zs) = z

not_both : (a b : Token) (xs ys r s : List ℕ) → differ a b xs ys ≡ true → xs ++ r ≡ ys ++ s → ends_before a (front r) ≡ true → ends_before b (front s) ≡ true → ⊥
not_both a b [] [] r s d e p q = absurd cc
not_both a b [] (y ∷ ys) r s d e p q = longer_not (is_longer a y) (subst (λ (t : List ℕ). ends_before a (front t) ≡ true) e p) d
not_both a b (x ∷ xs) [] r s d e p q = longer_not (is_longer b x) (subst (λ (t : List ℕ). ends_before b (front t) ≡ true) (sym e) q) d
not_both a b (x ∷ xs) (y ∷ ys) r s d e p q =
    let f = same_front x y (xs ++ r) (ys ++ s) e in
    not_both a b xs ys r s (rw (eq-eqb x y f.0) at d) f.1 p q

pub is_false : (x : Bool) → (x ≡ true → ⊥) → x ≡ false
is_false true h = absurd (h refl)
is_false false h = refl

-- where one token stands, one that is apart from it does not
pub not_at : (a b : Token) (t : List ℕ) → apart a b ≡ true → stands a t ≡ true → stands b t ≡ false
not_at a b t d h = is_false (stands b t) (λ k.
    let p = stands_parts a t h in
    let q = stands_parts b t k in
    not_both a b (text_of a) (text_of b) (drop (length (text_of a)) t) (drop (length (text_of b)) t) d (sym p.0 ∙ q.0) p.1 q.1)

-- ---- tokens of which none stands next

abbrev pub Quiet : List Token → List ℕ → Type 0
Quiet [] rest = Unit {0}
Quiet (token ∷ tokens) rest = (next_is token rest ≡ false) × Quiet tokens rest

abbrev pub all_apart : Token → List Token → Bool
all_apart a [] = true
all_apart a (token ∷ tokens) = apart a token && all_apart a tokens

pub quiet_at : (a : Token) (tokens : List Token) (t : List ℕ) → all_apart a tokens ≡ true → next_is a t ≡ true → Quiet tokens t
quiet_at a [] t d h = tt
quiet_at a (token ∷ tokens) t d h = let p = and_parts (apart a token) (all_apart a tokens) d in (not_at a token (spaces t) p.0 h, quiet_at a tokens t p.1 h)
