-- Each rule leaves a shorter text: what a rule leaves, and how rules are joined that leave so much.
use Rattle.std.proofs.Common.{◌≡◌, ℕ, zero, suc, ◌+◌, ◌≤◌, ◌<◌, Bool, true, false, cond, List, [], ◌∷◌, ◌++◌, length, drop, Ok, Err, refl, ap, subst, arith}
use Rattle.std.specs.Prelude.{codes}
use Rattle.reading.specs.declared.fault.Bad.{Bad}
use Rattle.reading.specs.Answer.{◌>>=◌, Answer, Rule, made}
use Rattle.reading.specs.Bytes.{sees, skip, expect}
use Rattle.reading.specs.Rows.{repeat, row, closed_by}
use Rattle.reading.proofs.Basics.{IsShorter}
use Rattle.reading.proofs.Bytes.{length-skip, sees_front}

-- what is left behind a value is P, or a fault is Q
pub data Leaves {T F A : Type 0} (P : List T → Type 0) (Q : F → Type 0) : Answer T F A → Type 0 where
  kept : {x : A × List T} → P x.1 → Leaves P Q (Ok x)
  refused : {f : F} → Q f → Leaves P Q (Err f)

-- one rule, and then another behind it
pub bind : {T F A B : Type 0} {P R : List T → Type 0} {Q : F → Type 0} {r : Answer T F A} {f : A × List T → Answer T F B} → Leaves P Q r → ((x : A × List T) → P x.1 → Leaves R Q (f x)) → Leaves R Q (r >>= f)
bind (kept {x = x} h) next = next x h
bind (refused h) next = refused h

module _ {T F A : Type 0} {P : List T → Type 0} {Q : F → Type 0} where
  pub either : (b : Bool) {r s : Answer T F A} → Leaves P Q r → Leaves P Q s → Leaves P Q (cond b r s)
  either true h k = h
  either false h k = k

  pub tested : (b : Bool) {r s : Answer T F A} → (b ≡ true → Leaves P Q r) → (b ≡ false → Leaves P Q s) → Leaves P Q (cond b r s)
  tested true h k = h refl
  tested false h k = k refl

  pub left : {x : A × List T} → Leaves P Q (Ok x) → P x.1
  left (kept h) = h

  pub fault : {f : F} → Leaves {A = A} P Q (Err f) → Q f
  fault (refused h) = h

  pub left_by : {r : Answer T F A} (x : A × List T) → Leaves P Q r → r ≡ Ok x → P x.1
  left_by x h e = left (subst (λ r. Leaves P Q r) e h)

  pub fault_by : {r : Answer T F A} (f : F) → Leaves P Q r → r ≡ Err f → Q f
  fault_by f h e = fault (subst (λ r. Leaves P Q r) e h)

pub made_leaves : {T F A B : Type 0} {P : List T → Type 0} {Q : F → Type 0} (m : A → B) {r : Answer T F A} → Leaves P Q r → Leaves P Q (made m r)
made_leaves m (kept h) = kept h
made_leaves m (refused h) = refused h

-- what is weaker holds too
pub weaker : {T F A : Type 0} {P R : List T → Type 0} {Q S : F → Type 0} {r : Answer T F A} → ((t : List T) → P t → R t) → ((f : F) → Q f → S f) → Leaves P Q r → Leaves R S r
weaker p q (kept {x = x} h) = kept (p x.1 h)
weaker p q (refused {f = f} h) = refused (q f h)

-- items as long as a test says so
module _ {T F A : Type 0} {P : List T → Type 0} {Q : F → Type 0} (over : F) (on : List A → Rule T F Bool) (item : List A → Rule T F A) (last : Q over) (tests : (found : List A) (t : List T) → P t → Leaves P Q (on found t))
    (items : (found : List A) (t : List T) → P t → Leaves P Q (item found t)) where
  pub repeat_leaves : (n : ℕ) (found : List A) (t : List T) → P t → Leaves P Q (repeat over on item n found t)
  unfolding repeat
  repeat_leaves zero found t h = refused last
  repeat_leaves (suc n) found t h = bind (tests found t h) (λ go k. either _ (bind (items found go.1 k) (λ x l. repeat_leaves n (found ++ x.0 ∷ []) x.1 l)) (kept k))

-- ---- at most n tokens

-- a value leaves n at most, and so does a fault
abbrev pub Within : {T C A : Type 0} → ℕ → Answer T (Bad C) A → Type 0
Within n r = Leaves (λ t. length t ≤ n) (λ f. f.left ≤ n) r

-- a value leaves fewer
abbrev pub Below : {T C A : Type 0} → ℕ → Answer T (Bad C) A → Type 0
Below n r = Leaves (λ t. length t < n) (λ f. f.left ≤ n) r

pub below_within : {T C A : Type 0} (n m : ℕ) {r : Answer T (Bad C) A} → n ≤ m → Below n r → Within m r
below_within n m le = weaker (λ t h. omega arith) (λ f h. omega arith)

pub larger : {T C A : Type 0} (n m : ℕ) {r : Answer T (Bad C) A} → n ≤ m → Within n r → Within m r
larger n m le = weaker (λ t h. omega arith) (λ f h. omega arith)

module _ {T C A : Type 0} (rule : Rule T (Bad C) A) where
  pub below_of : IsShorter rule → ((t : List T) (f : Bad C) → rule t ≡ Err f → f.left ≤ length t) → (t : List T) → Below (length t) (rule t)
  below_of shorter within t = by_answer (rule t) refl where
    by_answer : (a : Answer T (Bad C) A) → rule t ≡ a → Below (length t) a
    by_answer (Ok x) e = kept (shorter t x.0 x.1 e)
    by_answer (Err f) e = refused (within t f e)

  pub below_shorter : ((t : List T) → Below (length t) (rule t)) → IsShorter rule
  below_shorter h t x rest e = left_by (x, rest) (h t) e

-- a fault is at what is left, or whatever faults are
module _ {C : Type 0} (code : C) (n : ℕ) (Q : Bad C → Type 0) (halts : (m : ℕ) → m ≤ n → Q (record { left = m; code = code })) where
  pub expect_leaves : (ws t : List ℕ) (m : ℕ) → m ≤ n → length t ≤ m → Leaves (λ u. length ws + length u ≤ m) Q (expect code ws t)
  unfolding expect
  expect_leaves [] t m most le = kept (omega arith)
  expect_leaves (w ∷ ws) [] m most le = refused (halts 0 (omega arith))
  expect_leaves (w ∷ ws) (b ∷ t) zero most le = absurd (omega arith)
  expect_leaves (w ∷ ws) (b ∷ t) (suc m) most le = either _ (weaker (λ u h. omega arith) (λ f h. h) (expect_leaves ws t m (omega arith) (omega arith))) (refused (halts (suc (length t)) (omega arith)))

  -- lists in brackets
  module _ {A : Type 0} (end : ℕ) (item : List A → Rule ℕ (Bad C) A) (items : (found : List A) (t : List ℕ) → length t ≤ n → Leaves (λ u. length u ≤ n) Q (item found t)) where
    end_taken : (t : List ℕ) → sees end (skip t) ≡ true → length t ≤ n → length (drop 1 (skip t)) < n
    end_taken t h le = omega (arith, ap length (sees_front end (skip t) h), length-skip t)

    row_leaves : (turns : ℕ) (found : List A) (t : List ℕ) → length t ≤ n → Leaves (λ u. length u < n) Q (row code end item turns found t)
    unfolding row
    row_leaves zero found t le = refused (halts (length t) le)
    row_leaves (suc turns) found t le =
        bind (items found t le) (λ x h.
        tested _ (λ e. kept (end_taken x.1 e h)) (λ _.
        bind (expect_leaves (codes ",") (skip x.1) n (omega arith) (omega (arith, length-skip x.1))) (λ comma k. row_leaves turns (found ++ x.0 ∷ []) (skip comma.1) (omega (arith, length-skip comma.1)))))

    pub closed_leaves : (t : List ℕ) → length t ≤ n → Leaves (λ u. length u < n) Q (closed_by code end item t)
    unfolding closed_by
    closed_leaves t le = tested _ (λ e. kept (end_taken t e le)) (λ _. row_leaves (suc (length (skip t))) [] (skip t) (omega (arith, length-skip t)))
