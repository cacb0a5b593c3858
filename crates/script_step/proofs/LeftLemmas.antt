-- The innermost block of which something is left, frame by frame.
use Rattle.std.proofs.Common.{◌≡◌, ◌∙◌, ℕ, suc, ◌<◌, Bool, true, false, List, [], ◌∷◌, ◌++◌, length, refl, sym, ap, arith}
use Rattle.std.specs.Prelude.{Option, Some, None, if◌then◌else◌}
use Rattle.ha_config.specs.declared.config.Action.{Action}
use Rattle.script_step.specs.declared.thread.Frame.{Frame}
use Rattle.script_step.specs.declared.thread.Thread.{Thread}
use Rattle.script_step.specs.Parts.{inner_list, list_in}
use Rattle.script_step.specs.Continuation.{has_next}
use Rattle.script_step.specs.OpenBlocks.{is_left, last_left, open_at}

abbrev else_first : Option ℕ → Bool → Option ℕ
else_first (Some k) b = Some (suc k)
else_first None b = if b then Some 0 else None

left-by : (list : List Action) (f : Frame) (fs : List Frame) → last_left list (f ∷ fs) ≡ else_first (last_left (inner_list list f) fs) (is_left list f)
left-by list f fs = by (last_left (inner_list list f) fs) refl
  where
    by : (o : Option ℕ) → last_left (inner_list list f) fs ≡ o → last_left list (f ∷ fs) ≡ else_first o (is_left list f)
    by None e = rw e refl
    by (Some k) e = rw e refl

pub left-snoc : (list : List Action) (fs : List Frame) (f : Frame) → last_left list (fs ++ (f ∷ [])) ≡ (if is_left (list_in list fs) f then Some (length fs) else last_left list fs)
left-snoc list [] f = refl
left-snoc list (g ∷ fs) f =
    left-by list g (fs ++ (f ∷ [])) ∙ ap (λ o. else_first o (is_left list g)) (left-snoc (inner_list list g) fs f) ∙ by (is_left (list_in (inner_list list g) fs) f)
    ∙ (λ k. if is_left (list_in (inner_list list g) fs) f then Some (suc (length fs)) else sym (left-by list g fs) k)
  where
    by : (b : Bool) → else_first (if b then Some (length fs) else last_left (inner_list list g) fs) (is_left list g)
        ≡ (if b then Some (suc (length fs)) else else_first (last_left (inner_list list g) fs) (is_left list g))
    by true = refl
    by false = refl

left-within : (list : List Action) (fs : List Frame) (k : ℕ) → last_left list fs ≡ Some k → k < length fs
left-within list [] k e = absurd (cc)
left-within list (f ∷ fs) k e = by (last_left (inner_list list f) fs) (is_left list f) refl (sym (left-by list f fs) ∙ e) (left-within (inner_list list f) fs)
  where
    by : (o : Option ℕ) (b : Bool) → last_left (inner_list list f) fs ≡ o → else_first o b ≡ Some k → ((j : ℕ) → last_left (inner_list list f) fs ≡ Some j → j < length fs) → k < length (f ∷ fs)
    by (Some j) b q h more = (let z : suc j ≡ k = cc in omega (arith, z, more j q))
    by None true q h more = (let z : 0 ≡ k = cc in omega (arith, z))
    by None false q h more = absurd (cc)

-- nothing is left of a block that is not the one
pub not-open : (list : List Action) (t : Thread) (found : Option ℕ) → found ≡ open_at list t → (found ≡ Some (length t.outer) → ⊥) → has_next list t ≡ false
not-open list t found is off = by (has_next list t) refl
  where
    by : (b : Bool) → has_next list t ≡ b → b ≡ false
    by false e = refl
    by true e = absurd (off (is ∙ (λ k. if e k then Some (length t.outer) else last_left list t.outer)))

-- something is left of the one
pub is-open : (list : List Action) (t : Thread) (found : Option ℕ) → found ≡ open_at list t → found ≡ Some (length t.outer) → has_next list t ≡ true
is-open list t found is at = by (has_next list t) refl
  where
    by : (b : Bool) → has_next list t ≡ b → b ≡ true
    by true e = refl
    by false e = absurd (omega (arith, left-within list t.outer (length t.outer) (sym (is ∙ (λ k. if e k then Some (length t.outer) else last_left list t.outer)) ∙ at)))

-- the one stays where a block of which nothing is left is left
pub open-stays : (list : List Action) (t new : Thread) (f : Frame) (found : Option ℕ) → found ≡ open_at list t → has_next list t ≡ false → t.outer ≡ new.outer ++ (f ∷ []) → new.here ≡ f
    → found ≡ open_at list new
open-stays list t new f found is none popped here =
    is ∙ (λ k. if none k then Some (length t.outer) else last_left list t.outer) ∙ ap (last_left list) popped ∙ left-snoc list new.outer f
    ∙ (λ k. if is_left (list_in list new.outer) (sym here k) then Some (length new.outer) else last_left list new.outer)
