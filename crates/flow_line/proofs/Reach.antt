-- How far a reader comes: within the text, and past a place.
use Rattle.std.proofs.Common.{ℕ, zero, suc, ◌<◌, ◌≤◌, Bool, true, false, cond, List, [], ◌∷◌, ◌++◌, length, drop, Ok, Err, ap, arith, length-append}
use Rattle.std.specs.Prelude.{codes}
use Rattle.ha_value.specs.declared.value.Value.{Value}
use Rattle.reading.specs.Answer.{◌>>=◌, Answer, front, stop}
use Rattle.reading.specs.Bytes.{sees, skip, expect}
use Rattle.reading.specs.Faults.{IsAlike}
use Rattle.reading.specs.Rows.{after_item, row}
use Rattle.reading.proofs.Bytes.{length-skip, length-drop_one}
use Rattle.reading.proofs.Local.{Local, expect_local}
use Rattle.flow_line.specs.declared.fault.Code.TheVariants.{Syntax}
use Rattle.flow_line.specs.Text.{Reads}
use Rattle.flow_line.specs.Reading.{ended}
use Rattle.flow_line.specs.Refused.{Like}
use Rattle.flow_line.proofs.ByteRanges.{Fault}
use Rattle.flow_line.proofs.StringLaws.{like_front, IsLocal}

-- within a text, and past the place from which so many bytes are left
unfoldable pub Inside : {A : Type 0} → List ℕ → Answer ℕ Fault A → Type 0
Inside t (Ok x) = length x.1 ≤ length t
Inside t (Err f) = f.left ≤ length t

unfoldable pub Beyond : {A : Type 0} → ℕ → Answer ℕ Fault A → Type 0
Beyond n (Ok x) = length x.1 < n
Beyond n (Err f) = f.left < n

abbrev pub Insides : {A : Type 0} → Reads A → Type 0
Insides p = (t : List ℕ) → Inside t (p t)

inside_on : {A : Type 0} (t u : List ℕ) (a : Answer ℕ Fault A) → length u ≤ length t → Inside u a → Inside t a
unfolding Inside
inside_on t u (Ok x) h k = omega arith
inside_on t u (Err f) h k = omega arith

pub beyond_on : {A : Type 0} (n : ℕ) (u : List ℕ) (a : Answer ℕ Fault A) → length u < n → Inside u a → Beyond n a
unfolding Inside Beyond
beyond_on n u (Ok x) h k = omega arith
beyond_on n u (Err f) h k = omega arith

pub local_inside : {A : Type 0} (p : Reads A) → IsLocal p → Insides p
unfolding Local Inside
local_inside {A} p local t = by_answer (p t) (local t) where
  by_answer : (a : Answer ℕ Fault A) → IsAlike Like p t a → Inside t a
  by_answer (Ok x) l = omega (arith, ap length l.parts, length-append l.before x.1)
  by_answer (Err f) l = omega (arith, l.left, ap length l.parts, length-append l.before l.rest)

pub bind_inside : {A B : Type 0} (p : Reads A) (q : A → Reads B) → Insides p → ((x : A) → Insides (q x)) → Insides (λ t. p t >>= λ x. q x.0 x.1)
unfolding Inside
bind_inside {A} {B} p q ip iq t = step (p t) (ip t) where
  step : (a : Answer ℕ Fault A) → Inside t a → Inside t (a >>= λ x. q x.0 x.1)
  step (Ok x) h = inside_on t x.1 (q x.0 x.1) h (iq x.0 x.1)
  step (Err f) h = h

pub ok_inside : {A : Type 0} (x : A) → Insides (λ t. Ok (x, t))
unfolding Inside
ok_inside x t = omega arith

drop_inside : {A : Type 0} (x : A) → Insides (λ t. Ok (x, drop 1 t))
unfolding Inside
drop_inside x t = length-drop_one t

cond_inside : {A : Type 0} (c : List ℕ → Bool) (p q : Reads A) → Insides p → Insides q → Insides (λ t. cond (c t) (p t) (q t))
cond_inside c p q ip iq t = step (c t) where
  step : (b : Bool) → Inside t (cond b (p t) (q t))
  step true = ip t
  step false = iq t

pub skip_inside : {A : Type 0} (p : Reads A) → Insides p → Insides (λ t. p (skip t))
skip_inside p ip t = inside_on t (skip t) (p (skip t)) (length-skip t) (ip (skip t))

pub expect_inside : (ws : List ℕ) → Insides (expect Syntax ws)
expect_inside ws = local_inside (expect Syntax ws) (expect_local Like like_front Syntax ws)

pub after_inside : {A : Type 0} (end : ℕ) (all : List A) (next : Reads (List A)) → Insides next → Insides (after_item Syntax end all next)
after_inside end all next i =
    skip_inside (λ u. cond (sees end u) (Ok (all, drop 1 u)) (expect Syntax (codes ",") u >>= λ comma. next (skip comma.1)))
    (cond_inside (sees end) (λ u. Ok (all, drop 1 u)) (λ u. expect Syntax (codes ",") u >>= λ comma. next (skip comma.1)) (drop_inside all)
    (bind_inside (expect Syntax (codes ",")) (λ _ u. next (skip u)) (expect_inside (codes ",")) (λ _. skip_inside next i)))

stop_inside : (A : Type 0) → Insides {A = A} (stop Syntax)
unfolding Inside
stop_inside A t = omega arith

pub row_inside : {A : Type 0} (end : ℕ) (item : List A → Reads A) → ((found : List A) → Insides (item found)) → (n : ℕ) (found : List A) → Insides (row Syntax end item n found)
unfolding row
row_inside {A} end item i zero found = stop_inside (List A)
row_inside end item i (suc n) found =
    bind_inside (item found) (λ x. after_item Syntax end (found ++ x ∷ []) (row Syntax end item n (found ++ x ∷ []))) (i found)
    (λ x. after_inside end (found ++ x ∷ []) (row Syntax end item n (found ++ x ∷ [])) (row_inside end item i n (found ++ x ∷ [])))

-- the end of a whole text
pub end_inside : (v : Value) → Insides (λ u. cond (ended (front u)) (Ok (v, u)) (stop Syntax u))
end_inside v = cond_inside (λ u. ended (front u)) (λ u. Ok (v, u)) (stop Syntax) (ok_inside v) (stop_inside Value)
