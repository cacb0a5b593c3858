-- Tokens: one that was taken is taken again, and one of which the text has the front can be completed.
use Rattle.std.proofs.Common.{◌≡◌, ℕ, suc, Bool, true, false, not, ◌⊎◌, inl, inr, List, [], ◌∷◌, ◌++◌, length, drop, Some, refl, sym, ap, ◌∙◌, subst, arith, append_assoc}
use Rattle.std.specs.Prelude.{◌==◌, ◌&&◌, max}
use Rattle.std.specs.List.{fold}
use Rattle.std.proofs.lemmas.Bool.{and_parts, eqb-true, eq-eqb, cases_lt}
use Rattle.reading.specs.Answer.{front}
use Rattle.reading.proofs.Basics.{chosen_is}
use Rattle.tpl_parse.specs.declared.token.Token.{Token}
use Rattle.ha_value.specs.Truth.{is_blank_or_break}
use Rattle.tpl_parse.specs.Token.{common, is_longer, ends_before, spaces, stands, next_is, past, reach, text_of}
use Rattle.tpl_parse.specs.Grammar.{Takes, takes}
use Rattle.tpl_parse.proofs.Apart.{stands_parts}
use Rattle.tpl_parse.proofs.Ahead.{starts, stands_is}
use Rattle.tpl_parse.proofs.Next.{Alike}
use Rattle.tpl_laws.proofs.Likes.{Like, like_blank, like_from, like_behind}
use Rattle.tpl_laws.proofs.Outcomes.{Open, like_put}

-- ---- blanks and breaks

pub record Blanks (u : List ℕ) : Type 0 where
  pub blanks : List ℕ
  pub parts : u ≡ blanks ++ spaces u
  pub gone : (o : List ℕ) → spaces (blanks ++ o) ≡ spaces o

pub blanks_of : (u : List ℕ) → Blanks u
unfolding spaces
blanks_of [] = record { blanks = []; parts = refl; gone = λ o. refl }
blanks_of (b ∷ u) =
    let p = blanks_of u in
    elim (chosen_is (is_blank_or_break b)) [
      | inl h ↦ record { blanks = b ∷ p.blanks; parts = rw h (ap (λ (v : List ℕ). b ∷ v) p.parts); gone = λ o. rw h (p.gone o) }
      | inr h ↦ record { blanks = []; parts = rw h refl; gone = λ o. refl }
    ]

-- a text that no blank begins
abbrev pub is_solid : List ℕ → Bool
is_solid [] = false
is_solid (b ∷ w) = not (is_blank_or_break b)

pub solid_at : (w r : List ℕ) → is_solid w ≡ true → spaces (w ++ r) ≡ w ++ r
unfolding spaces
solid_at [] r h = absurd cc
solid_at (b ∷ w) r h = elim (chosen_is (is_blank_or_break b)) [ inl k ↦ absurd (let v = rw k at h in cc) | inr k ↦ rw k refl ]

-- no blank, and no dot but alone
abbrev pub is_begun : List ℕ → Bool
is_begun [] = false
is_begun (b ∷ []) = not (is_blank_or_break b)
is_begun (b ∷ c ∷ w) = not (is_blank_or_break b) && not (b == 46)

pub token_begun : (token : Token) → is_begun (text_of token) ≡ true
token_begun Token.Set = refl
token_begun _ = refl

pub begun_solid : (w : List ℕ) → is_begun w ≡ true → is_solid w ≡ true
begun_solid [] h = absurd cc
begun_solid (b ∷ []) h = h
begun_solid (b ∷ c ∷ w) h = (and_parts (not (is_blank_or_break b)) (not (b == 46)) h).0

-- a blank makes no token longer
never_longer : (token : Token) → is_longer token 32 ≡ false
never_longer Token.Set = refl
never_longer _ = refl

-- ---- a token that was taken

starts_all : (token : Token) (xs o : List ℕ) → ends_before token (front o) ≡ true → starts token xs (xs ++ o) ≡ true
starts_all token [] o h = h
starts_all token (x ∷ xs) o h = rw (eq-eqb x x refl) (starts_all token xs o h)

drop_front : (w o : List ℕ) → drop (length w) (w ++ o) ≡ o
drop_front [] o = refl
drop_front (b ∷ w) o = drop_front w o

pub takes_where : (token : Token) (t o : List ℕ) → spaces t ≡ text_of token ++ o → ends_before token (front o) ≡ true → Takes token t o
takes_where token t o at h =
    let here : next_is token t ≡ true = ap (stands token) at ∙ stands_is token (text_of token ++ o) ∙ starts_all token (text_of token) o h in
    subst (λ (r : List ℕ). Takes token t r) (ap (λ (s : List ℕ). drop (length (text_of token)) s) at ∙ drop_front (text_of token) o) (takes here)

-- a token with a blank behind it
pub takes_at : (token : Token) (t r : List ℕ) → spaces t ≡ text_of token ++ 32 ∷ r → Takes token t (32 ∷ r)
takes_at token t r at = takes_where token t (32 ∷ r) at (ap not (never_longer token))

ends_alike : (token : Token) (rest o : List ℕ) → ends_before token (front rest) ≡ true → (front o ≡ front rest) ⊎ (front o ≡ Some 32) → ends_before token (front o) ≡ true
ends_alike token rest o h (inl e) = ap (ends_before token) e ∙ h
ends_alike token rest o h (inr e) = ap (ends_before token) e ∙ ap not (never_longer token)

pub record Took (token : Token) (u left : List ℕ) : Type 0 where
  pub before : List ℕ
  pub parts : u ≡ before ++ left
  pub again : (o : List ℕ) → Like left o → Takes token (before ++ o) o

pub took_token : (token : Token) (t u : List ℕ) → Alike u t → next_is token t ≡ true → Took token u (past token t)
took_token token t u alike h =
    let b = blanks_of u in
    let w : List ℕ = text_of token in
    let p = stands_parts token (spaces t) h in
    let solid : is_solid w ≡ true = begun_solid w (token_begun token) in
    record {
      before = b.blanks ++ w;
      parts = b.parts ∙ ap (λ (v : List ℕ). b.blanks ++ v) (alike ∙ p.0) ∙ sym (append_assoc b.blanks w (past token t));
      again = λ o l. takes_where token ((b.blanks ++ w) ++ o) o (ap spaces (append_assoc b.blanks w o) ∙ b.gone (w ++ o) ∙ solid_at w o solid)
          (ends_alike token (past token t) o p.1 l.first);
    }

-- ---- a word of which the text has the front

-- what is behind a word: nothing, or a blank and more
pub data Spaced : List ℕ → Type 0 where
  bare : Spaced []
  spaced : (e : List ℕ) → Spaced (32 ∷ e)

pub record Begun (w u : List ℕ) : Type 0 where
  pub before : List ℕ
  pub rest : List ℕ
  pub more : List ℕ
  pub parts : u ≡ before ++ rest
  pub left : length rest ≡ length (drop (common w (spaces u)) (spaces u))
  pub at : (r : List ℕ) → spaces (before ++ (more ++ r)) ≡ w ++ r
  pub like : (r : List ℕ) → Like u (before ++ (more ++ 32 ∷ r))

-- the front that both have, and what is behind it in each
common_take : (w s : List ℕ) → (d : List ℕ) × (w ≡ d ++ drop (common w s) w) × (s ≡ d ++ drop (common w s) s)
unfolding common
common_take [] s = ([], refl, refl)
common_take (x ∷ w) [] = ([], refl, refl)
common_take (x ∷ w) (y ∷ s) = elim (chosen_is (x == y)) [
  | inl h ↦ (let p = common_take w s in rw h (x ∷ p.0, ap (λ (v : List ℕ). x ∷ v) p.1, (λ i. sym (eqb-true x y h) i ∷ p.2 i)))
  | inr h ↦ rw h ([], refl, refl)
]

no_common : (x y : ℕ) (w s : List ℕ) → (x == y) ≡ false → common (x ∷ w) (y ∷ s) ≡ 0
unfolding common
no_common x y w s h = rw h refl

nothing_common : (x : ℕ) (w : List ℕ) → common (x ∷ w) [] ≡ 0
unfolding common
nothing_common x w = refl

one_common : (x : ℕ) (w s : List ℕ) → common (x ∷ w) (x ∷ s) ≡ suc (common w s)
unfolding common
one_common x w s = rw (eq-eqb x x refl) refl

pub blank_gone : (v : List ℕ) → spaces (32 ∷ v) ≡ spaces v
unfolding spaces
blank_gone v = refl

-- the word is all to come
afresh : (w u : List ℕ) → is_solid w ≡ true → common w (spaces u) ≡ 0 → Begun w u
afresh w u solid none =
    let b = blanks_of u in
    record {
      before = b.blanks;
      rest = spaces u;
      more = 32 ∷ w;
      parts = b.parts;
      left = ap (λ (n : ℕ). length (drop n (spaces u))) (sym none);
      at = λ r. b.gone (32 ∷ (w ++ r)) ∙ blank_gone (w ++ r) ∙ solid_at w r solid;
      like = λ r. like_put b.blanks b.parts (like_blank (spaces u) (w ++ 32 ∷ r));
    }

-- some of it stands there
module _ (x : ℕ) (w s u : List ℕ) (at : spaces u ≡ x ∷ s) (solid : is_solid (x ∷ w) ≡ true) (alone : (e r : List ℕ) → w ≡ e → Like (x ∷ s) (x ∷ (e ++ 32 ∷ r))) where
  partly : Begun (x ∷ w) u
  partly =
      let b = blanks_of u in
      let p = common_take w s in
      let d : List ℕ = p.0 in
      let m : List ℕ = drop (common w s) w in
      let rest : List ℕ = drop (common w s) s in
      let whole : (r : List ℕ) → (b.blanks ++ x ∷ d) ++ (m ++ r) ≡ b.blanks ++ (x ∷ ((d ++ m) ++ r)) = λ r. append_assoc b.blanks (x ∷ d) (m ++ r) ∙ ap (λ (v : List ℕ). b.blanks ++ x ∷ v) (sym (append_assoc d m r)) in
      let word : (r : List ℕ) → (b.blanks ++ x ∷ d) ++ (m ++ r) ≡ b.blanks ++ (x ∷ (w ++ r)) = λ r. whole r ∙ ap (λ (v : List ℕ). b.blanks ++ (x ∷ (v ++ r))) (sym p.1) in
      record {
        before = b.blanks ++ x ∷ d;
        rest = rest;
        more = m;
        parts = b.parts ∙ ap (λ (v : List ℕ). b.blanks ++ v) (at ∙ ap (λ (v : List ℕ). x ∷ v) p.2) ∙ sym (append_assoc b.blanks (x ∷ d) rest);
        left = sym (ap (λ (v : List ℕ). length (drop (common (x ∷ w) v) v)) at ∙ ap (λ (n : ℕ). length (drop n (x ∷ s))) (one_common x w s));
        at = λ r. ap spaces (word r) ∙ b.gone (x ∷ (w ++ r)) ∙ solid_at (x ∷ w) r solid;
        like = λ r.
            subst (λ (v : List ℕ). Like u v) (sym (word (32 ∷ r))) (like_put b.blanks (b.parts ∙ ap (λ (v : List ℕ). b.blanks ++ v) at) (alone w r refl));
      }

dot_alone : (x : ℕ) (w s : List ℕ) → is_begun (x ∷ w) ≡ true → (e r : List ℕ) → w ≡ e → Like (x ∷ s) (x ∷ (e ++ 32 ∷ r))
dot_alone x [] s h [] r is = like_behind (x ∷ []) (like_blank s r)
dot_alone x [] s h (b ∷ e) r is = absurd cc
dot_alone x (c ∷ w) s h e r is = like_from x s (e ++ 32 ∷ r) (let k = (and_parts (not (is_blank_or_break x)) (not (x == 46)) h).1 in no_dot (x == 46) k) where
  no_dot : (t : Bool) → not t ≡ true → t ≡ false
  no_dot true h = absurd cc
  no_dot false h = refl

pub begun_of : (w u : List ℕ) → is_begun w ≡ true → Begun w u
begun_of [] u h = absurd cc
begun_of (x ∷ w) u h = by (spaces u) refl where
  by : (s : List ℕ) → spaces u ≡ s → Begun (x ∷ w) u
  by [] at = afresh (x ∷ w) u (begun_solid (x ∷ w) h) (ap (common (x ∷ w)) at ∙ nothing_common x w)
  by (y ∷ s) at = elim (chosen_is (x == y)) [
    | inl k ↦ partly x w s u (at ∙ ap (λ (z : ℕ). z ∷ s) (sym (eqb-true x y k))) (begun_solid (x ∷ w) h) (dot_alone x w s h)
    | inr k ↦ afresh (x ∷ w) u (begun_solid (x ∷ w) h) (ap (common (x ∷ w)) at ∙ no_common x y w s k)
  ]

-- ---- one of some words, of which the text has most

pub data Nearest {I : Type 0} (word : I → List ℕ) (P : I → Type 0) (s : List ℕ) (n : ℕ) : Type 0 where
  nearest : (i : I) → P i → common (word i) s ≡ n → Nearest word P s n

pub greater : {I : Type 0} (word : I → List ℕ) (P : I → Type 0) (s : List ℕ) (m n : ℕ) → Nearest word P s m → Nearest word P s n → Nearest word P s (max m n)
greater word P s m n (nearest i p e) (nearest j q f) = elim (cases_lt m n) [
  | inl lt ↦ nearest j q (omega (arith, f, lt))
  | inr le ↦ nearest i p (omega (arith, e, le))
]

abbrev pub Every : (Token → Type 0) → List Token → Type 0
Every P [] = Unit {0}
Every P (token ∷ tokens) = P token × Every P tokens

pub every_nearest : (P : Token → Type 0) (s : List ℕ) (tokens : List Token) (n : ℕ) → Every P tokens → Nearest text_of P s n → Nearest text_of P s (fold (λ far token. max far (common (text_of token) s)) n tokens)
every_nearest P s [] n each h = h
every_nearest P s (token ∷ tokens) n each h =
    every_nearest P s tokens (max n (common (text_of token) s)) each.1 (greater text_of P s n (common (text_of token) s) h (nearest token each.0 refl))

pub reach_nearest : (P : Token → Type 0) (s : List ℕ) (token : Token) (tokens : List Token) → Every P (token ∷ tokens) → Nearest text_of P s (reach (token ∷ tokens) s)
reach_nearest P s token tokens each = every_nearest P s tokens (max 0 (common (text_of token) s)) each.1 (nearest token each.0 (omega arith))

-- ---- faults at a place

module _ {B : Type 0} (Q : List ℕ → B → List ℕ → Type 0) (u b rest : List ℕ) (parts : u ≡ b ++ rest) where
  -- where one of the words is to come, of which the text has most
  pub word_open : {I : Type 0} (word : I → List ℕ) (P : I → Type 0) (s : List ℕ) (n : ℕ) → spaces rest ≡ s → ((i : I) → is_begun (word i) ≡ true)
      → ((i : I) → P i → (e : List ℕ) × Spaced e × ((o q : List ℕ) → Like rest o → spaces o ≡ word i ++ (e ++ 32 ∷ q) → (y : B) × Q (b ++ o) y (32 ∷ q)))
      → Nearest word P s n → Open Q u (record { left = length (drop n s); code = tt })
  word_open word P s n at begins each (nearest i p far) =
      let h : Begun (word i) rest = begun_of (word i) rest (begins i) in
      let k = each i p in
      let same : (v : List ℕ) → b ++ (h.before ++ v) ≡ (b ++ h.before) ++ v = λ v. sym (append_assoc b h.before v) in
      let text : (q : List ℕ) → h.before ++ ((h.more ++ k.0) ++ 32 ∷ q) ≡ h.before ++ (h.more ++ (k.0 ++ 32 ∷ q)) = λ q. ap (λ (v : List ℕ). h.before ++ v) (append_assoc h.more k.0 (32 ∷ q)) in
      let all : (q : List ℕ) → b ++ (h.before ++ (h.more ++ (k.0 ++ 32 ∷ q))) ≡ (b ++ h.before) ++ ((h.more ++ k.0) ++ 32 ∷ q) = λ q. ap (λ (v : List ℕ). b ++ v) (sym (text q)) ∙ same ((h.more ++ k.0) ++ 32 ∷ q) in
      record {
        before = b ++ h.before;
        rest = h.rest;
        parts = parts ∙ ap (λ (v : List ℕ). b ++ v) h.parts ∙ same h.rest;
        left = sym (h.left ∙ ap (λ (v : List ℕ). length (drop (common (word i) v) v)) at ∙ ap (λ (m : ℕ). length (drop m s)) far);
        more = h.more ++ k.0;
        like = λ q. subst (λ (v : List ℕ). Like u v) (all q) (like_put b parts (by_end h.before h.more k.0 k.1 q h.like));
        spelled = λ q. subst (λ (v : List ℕ). (y : B) × Q v y (32 ∷ q)) (all q) (k.2 (h.before ++ (h.more ++ (k.0 ++ 32 ∷ q))) q (by_end h.before h.more k.0 k.1 q h.like) (h.at (k.0 ++ 32 ∷ q)));
      } where
        by_end : (before more e : List ℕ) → Spaced e → (q : List ℕ) → ((r : List ℕ) → Like rest (before ++ (more ++ 32 ∷ r))) → Like rest (before ++ (more ++ (e ++ 32 ∷ q)))
        by_end before more e bare q l = l q
        by_end before more e (spaced d) q l = l (d ++ 32 ∷ q)

  -- where something is to come of which the text has nothing
  pub place_open : (s : List ℕ) → spaces rest ≡ s → (e : List ℕ) → ((o q : List ℕ) → Like rest o → spaces o ≡ spaces (e ++ 32 ∷ q) → (y : B) × Q (b ++ o) y (32 ∷ q)) → Open Q u (record { left = length s; code = tt })
  place_open s at e put =
      let h = blanks_of rest in
      let same : (v : List ℕ) → b ++ (h.blanks ++ v) ≡ (b ++ h.blanks) ++ v = λ v. sym (append_assoc b h.blanks v) in
      let like : (q : List ℕ) → Like rest (h.blanks ++ 32 ∷ (e ++ 32 ∷ q)) = λ q. like_put h.blanks h.parts (like_blank (spaces rest) (e ++ 32 ∷ q)) in
      record {
        before = b ++ h.blanks;
        rest = spaces rest;
        parts = parts ∙ ap (λ (v : List ℕ). b ++ v) h.parts ∙ same (spaces rest);
        left = ap length (sym at);
        more = 32 ∷ e;
        like = λ q. subst (λ (v : List ℕ). Like u v) (same (32 ∷ (e ++ 32 ∷ q))) (like_put b parts (like q));
        spelled = λ q.
            subst (λ (v : List ℕ). (y : B) × Q v y (32 ∷ q)) (same (32 ∷ (e ++ 32 ∷ q))) (put (h.blanks ++ 32 ∷ (e ++ 32 ∷ q)) q (like q) (h.gone (32 ∷ (e ++ 32 ∷ q)) ∙ blank_gone (e ++ 32 ∷ q)));
      }
