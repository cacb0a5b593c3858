-- A rule on two texts that begin alike: it gives the same on both, or fails on the second, or on the first it stops nowhere before
-- the place where they part.
use Rattle.std.proofs.Common.{◌≡◌, ℕ, ◌+◌, ◌≤◌, true, false, inl, inr, List, [], ◌∷◌, ◌++◌, length, drop, Ok, Err, refl, sym, ap, ◌∙◌, subst, arith, length-append}
use Rattle.std.proofs.Math.ListN.{length-drop}
use Rattle.reading.specs.Answer.{◌>>=◌, made}
use Rattle.reading.proofs.Basics.{chosen_is}
use Rattle.tpl_parse.specs.declared.token.Token.{Token}
use Rattle.ha_value.specs.Truth.{is_blank_or_break}
use Rattle.tpl_parse.specs.Token.{Reads, spaces, stands, next_is, past, reach, text_of}
use Rattle.tpl_parse.proofs.Next.{Fault}
use Rattle.tpl_parse.proofs.Shorter.{Read, Within, Keeps, made_within, later, length-spaces}
use Rattle.tpl_parse.proofs.Ahead.{starts, stands_is, is_ahead, any_ahead, all_clear, reaches, stands_long, starts_same, starts_past}

-- nothing is ahead
abbrev pub Nothing : {A : Type 0} → A → List ℕ → Type 0
Nothing x d = ⊥

-- A fault or a rest is not before the place where `a` begins; or what is read leaves the front of what may still come.
pub data Late {A : Type 0} (E : A → List ℕ → Type 0) (a : List ℕ) (r : Read A) : Type 0 where
  beyond : Within (length a) r → Late E a r
  begun : (x : A) (rest d : List ℕ) → r ≡ Ok (x, rest) → spaces rest ≡ d ++ a → E x d → Late E a r

pub data Agree {A : Type 0} (E : A → List ℕ → Type 0) (a b : List ℕ) (r s : Read A) : Type 0 where
  same : (x : A) (d : List ℕ) → r ≡ Ok (x, d ++ a) → s ≡ Ok (x, d ++ b) → Agree E a b r s
  fails : (f : Fault) → s ≡ Err f → Agree E a b r s
  late : Late E a r → Agree E a b r s

abbrev pub Local : {A : Type 0} → (A → List ℕ → Type 0) → Reads A → Type 0
Local E rule = (c a b : List ℕ) → Agree E a b (rule (c ++ a)) (rule (c ++ b))

-- the rule begins by skipping blanks and breaks
abbrev pub Skips : {A : Type 0} → Reads A → Type 0
Skips rule = (t : List ℕ) → rule (spaces t) ≡ rule t

pub late_is : {A : Type 0} {E : A → List ℕ → Type 0} {a : List ℕ} {r s : Read A} → r ≡ s → Late E a s → Late E a r
late_is {A} {E} {a} e h = subst (λ (x : Read A). Late E a x) (sym e) h

pub agree_is : {A : Type 0} {E : A → List ℕ → Type 0} {a b : List ℕ} {r r' s s' : Read A} → r ≡ r' → s ≡ s' → Agree E a b r' s' → Agree E a b r s
agree_is {A} {E} {a} {b} {r} {r'} {s} {s'} e f h = subst (λ (x : Read A). Agree E a b x s) (sym e) (subst (λ (y : Read A). Agree E a b r' y) (sym f) h)

within_bind : {A B : Type 0} (n : ℕ) (q : A × List ℕ → Read B) (r : Read A) → ((x : A) (rest : List ℕ) → length rest ≤ n → Within n (q (x, rest))) → Within n r → Within n (r >>= q)
within_bind n q (Ok x) h w = h x.0 x.1 w
within_bind n q (Err f) h w = w

pub within_then : {A B : Type 0} (n : ℕ) (q : A × List ℕ → Read B) (r : Read A) → ((x : A) → Keeps (λ t. q (x, t))) → Within n r → Within n (r >>= q)
within_then n q r h w = within_bind n q r (λ x rest le. later (λ t. q (x, t)) (h x) rest n le) w

module _ {A B : Type 0} (E : A → List ℕ → Type 0) (D : B → List ℕ → Type 0) (a b : List ℕ) where
  pub agree_bind : (q q' : A × List ℕ → Read B) (r s : Read A) → ((x : A) → Keeps (λ t. q (x, t)))
      → ((x : A) (rest d : List ℕ) → spaces rest ≡ d ++ a → E x d → Late D a (q (x, rest)))
      → ((x : A) (d : List ℕ) → r ≡ Ok (x, d ++ a) → Agree D a b (q (x, d ++ a)) (q' (x, d ++ b)))
      → Agree E a b r s → Agree D a b (r >>= q) (s >>= q')
  agree_bind q q' r s keeps goes on (same x d e f) = agree_is (ap (λ (z : Read A). z >>= q) e) (ap (λ (z : Read A). z >>= q') f) (on x d e)
  agree_bind q q' r s keeps goes on (fails f e) = fails f (ap (λ (z : Read A). z >>= q') e)
  agree_bind q q' r s keeps goes on (late (beyond w)) = late (beyond (within_then (length a) q r keeps w))
  agree_bind q q' r s keeps goes on (late (begun x rest d e at k)) = late (late_is (ap (λ (z : Read A). z >>= q) e) (goes x rest d at k))

  -- where what was read says more
  pub agree_from : (q q' : A × List ℕ → Read B) (r s : Read A) → ((x : A) → Keeps (λ t. q (x, t)))
      → ((x : A) (rest d : List ℕ) → r ≡ Ok (x, rest) → spaces rest ≡ d ++ a → E x d → Late D a (q (x, rest)))
      → ((x : A) (d : List ℕ) → r ≡ Ok (x, d ++ a) → Agree D a b (q (x, d ++ a)) (q' (x, d ++ b)))
      → Agree E a b r s → Agree D a b (r >>= q) (s >>= q')
  agree_from q q' r s keeps goes on (same x d e f) = agree_is (ap (λ (z : Read A). z >>= q) e) (ap (λ (z : Read A). z >>= q') f) (on x d e)
  agree_from q q' r s keeps goes on (fails f e) = fails f (ap (λ (z : Read A). z >>= q') e)
  agree_from q q' r s keeps goes on (late (beyond w)) = late (beyond (within_then (length a) q r keeps w))
  agree_from q q' r s keeps goes on (late (begun x rest d e at k)) = late (late_is (ap (λ (z : Read A). z >>= q) e) (goes x rest d e at k))

  pub agree_made : (m : A → B) (r s : Read A) → ((x : A) (d : List ℕ) → E x d → D (m x) d) → Agree E a b r s → Agree D a b (made m r) (made m s)
  agree_made m r s h (same x d e f) = same (m x) d (ap (λ (z : Read A). made m z) e) (ap (λ (z : Read A). made m z) f)
  agree_made m r s h (fails f e) = fails f (ap (λ (z : Read A). made m z) e)
  agree_made m r s h (late (beyond w)) = late (beyond (made_within (length a) m r w))
  agree_made m r s h (late (begun x rest d e at k)) = late (begun (m x) rest d (ap (λ (z : Read A). made m z) e) at (h x d k))

pub agree_plain : {A B : Type 0} (D : B → List ℕ → Type 0) (a b : List ℕ) (m : A → B) (r s : Read A) → Agree Nothing a b r s → Agree D a b (made m r) (made m s)
agree_plain D a b m r s h = agree_made Nothing D a b m r s (λ x d k. absurd k) h

-- ---- blanks

pub data Split (c : List ℕ) : Type 0 where
  blank : ((x : List ℕ) → spaces (c ++ x) ≡ spaces x) → Split c
  shown : (e : ℕ) (d : List ℕ) → ((x : List ℕ) → spaces (c ++ x) ≡ e ∷ (d ++ x)) → Split c

split_more : (b : ℕ) (c : List ℕ) → is_blank_or_break b ≡ true → Split c → Split (b ∷ c)
unfolding spaces
split_more b c h (blank s) = blank (λ x. rw h (s x))
split_more b c h (shown e d s) = shown e d (λ x. rw h (s x))

pub split : (c : List ℕ) → Split c
unfolding spaces
split [] = blank (λ x. refl)
split (b ∷ c) = elim (chosen_is (is_blank_or_break b)) [ inl h ↦ split_more b c h (split c) | inr h ↦ shown b c (λ x. rw h refl) ]

pub all_blank : {A : Type 0} (rule : Reads A) → Skips rule → Keeps rule → (c a : List ℕ) → spaces (c ++ a) ≡ spaces a → Within (length a) (rule (c ++ a))
all_blank {A} rule skips keeps c a s = subst (λ (r : Read A). Within (length a) r) (ap rule (sym s) ∙ skips (c ++ a)) (later rule keeps (spaces a) (length a) (length-spaces a))

-- ---- a token that is looked for

pub data Looks (token : Token) (c : List ℕ) : Type 0 where
  nothing : ((x : List ℕ) → spaces (c ++ x) ≡ spaces x) → Looks token c
  partly : (e : ℕ) (d : List ℕ) → ((x : List ℕ) → spaces (c ++ x) ≡ e ∷ (d ++ x)) → is_ahead token (e ∷ d) ≡ true → Looks token c
  there : (u : List ℕ) → ((x : List ℕ) → next_is token (c ++ x) ≡ true) → ((x : List ℕ) → past token (c ++ x) ≡ u ++ x) → Looks token c
  other : (e : ℕ) (d : List ℕ) → ((x : List ℕ) → spaces (c ++ x) ≡ e ∷ (d ++ x)) → ((x : List ℕ) → next_is token (c ++ x) ≡ false) → Looks token c

looks_by : (token : Token) (c : List ℕ) (e : ℕ) (d : List ℕ) → ((x : List ℕ) → spaces (c ++ x) ≡ e ∷ (d ++ x)) → is_ahead token (e ∷ d) ≡ false → Looks token c
looks_by token c e d s h =
    let at : (x : List ℕ) → next_is token (c ++ x) ≡ starts token (text_of token) ((e ∷ d) ++ []) = λ x. ap (stands token) (s x) ∙ stands_is token (e ∷ (d ++ x)) ∙ starts_same token (text_of token) (e ∷ d) x [] h in
    elim (chosen_is (starts token (text_of token) ((e ∷ d) ++ []))) [
      | inl k ↦ there (drop (length (text_of token)) (e ∷ d)) (λ x. at x ∙ k) (λ x. ap (λ (t : List ℕ). drop (length (text_of token)) t) (s x) ∙ starts_past token (text_of token) (e ∷ d) [] x h k)
      | inr k ↦ other e d s (λ x. at x ∙ k)
    ]

pub looks : (token : Token) (c : List ℕ) → Looks token c
looks token c = elim (split c) [
  | blank s ↦ nothing s
  | shown e d s ↦ elim (chosen_is (is_ahead token (e ∷ d))) [ inl h ↦ partly e d s h | inr h ↦ looks_by token c e d s h ]
]

-- a token of one byte that no longer one begins with
abbrev pub Sharp : Token → Type 0
Sharp token = (e : ℕ) (d : List ℕ) → is_ahead token (e ∷ d) ≡ false

-- ---- where tokens are ahead

pub past_late : (tokens : List Token) (token : Token) (t d a : List ℕ) → spaces t ≡ d ++ a → any_ahead tokens d ≡ true → all_clear tokens token ≡ true → next_is token t ≡ true → length (past token t) ≤ length a
past_late tokens token t d a at h clear stands' =
    let long : length d ≤ length (text_of token) = stands_long tokens token d a h clear (ap (stands token) (sym at) ∙ stands') in
    omega (arith, length-drop (length (text_of token)) (spaces t), ap length at, length-append d a, long)

pub reach_late : (tokens : List Token) (t d a : List ℕ) → spaces t ≡ d ++ a → any_ahead tokens d ≡ true → length (drop (reach tokens (spaces t)) (spaces t)) ≤ length a
reach_late tokens t d a at h =
    let far : length d ≤ reach tokens (spaces t) = subst (λ (u : List ℕ). length d ≤ reach tokens u) (sym at) (reaches tokens d a h) in
    omega (arith, length-drop (reach tokens (spaces t)) (spaces t), ap length at, length-append d a, far)
