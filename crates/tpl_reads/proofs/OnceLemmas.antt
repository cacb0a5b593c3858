-- Entities, each once.
use Rattle.std.proofs.Common.{◌≡◌, ◌∙◌, ap, Bool, true, false, List, [], ◌∷◌, ◌++◌, refl, sym}
use Rattle.std.specs.Prelude.{◌||◌, if◌then◌else◌}
use Rattle.std.specs.List.{list_any}
use Rattle.ha_value.specs.declared.value.EntityId.{EntityId}
use Rattle.ha_config.specs.Words.{same_entity}
use Rattle.ha_config.proofs.EqualLemmas.{entity-sound}
use Rattle.ha_sight.specs.Rules.{each_once, without_entity}

-- what is left of a list without an entity, and that entity, have all that the list has
without-any : (x f : EntityId) (xs : List EntityId)
    → (same_entity x f || list_any (λ g. same_entity g f) (without_entity x xs)) ≡ (same_entity x f || list_any (λ g. same_entity g f) xs)
without-any x f [] = refl
without-any x f (y ∷ ys) = by (same_entity x y) refl (without-any x f ys)
  where
    again : (p q r : Bool) → p ≡ q → (p || r) ≡ (p || (q || r))
    again true q r e = refl
    again false true r e = absurd (cc)
    again false false r e = refl

    aside : (p q r s : Bool) → (p || r) ≡ (p || s) → (p || (q || r)) ≡ (p || (q || s))
    aside true q r s e = refl
    aside false q r s e = ap (λ o. q || o) e

    by : (c : Bool) → same_entity x y ≡ c
        → (same_entity x f || list_any (λ g. same_entity g f) (without_entity x ys)) ≡ (same_entity x f || list_any (λ g. same_entity g f) ys)
        → (same_entity x f || list_any (λ g. same_entity g f) (if c then without_entity x ys else y ∷ without_entity x ys))
        ≡ (same_entity x f || (same_entity y f || list_any (λ g. same_entity g f) ys))
    by true is e =
        e ∙ again (same_entity x f) (same_entity y f) (list_any (λ g. same_entity g f) ys) (ap (λ (z : EntityId). same_entity z f) (entity-sound x y is))
    by false is e = aside (same_entity x f) (same_entity y f) (list_any (λ g. same_entity g f) (without_entity x ys)) (list_any (λ g. same_entity g f) ys) e

-- LAW: each once, a list has the same entities
pub once-any : (f : EntityId) (xs : List EntityId) → list_any (λ g. same_entity g f) (each_once xs) ≡ list_any (λ g. same_entity g f) xs
once-any f [] = refl
once-any f (x ∷ xs) = without-any x f (each_once xs) ∙ ap (λ o. same_entity x f || o) (once-any f xs)

without-snoc : (y x : EntityId) (xs : List EntityId)
    → without_entity y (xs ++ (x ∷ [])) ≡ (if same_entity y x then without_entity y xs else without_entity y xs ++ (x ∷ []))
without-snoc y x [] = refl
without-snoc y x (z ∷ zs) = by (same_entity y z) (same_entity y x) (without-snoc y x zs)
  where
    by : (a b : Bool) → without_entity y (zs ++ (x ∷ [])) ≡ (if b then without_entity y zs else without_entity y zs ++ (x ∷ []))
        → (if a then without_entity y (zs ++ (x ∷ [])) else z ∷ without_entity y (zs ++ (x ∷ [])))
        ≡ (if b then (if a then without_entity y zs else z ∷ without_entity y zs) else (if a then without_entity y zs else z ∷ without_entity y zs) ++ (x ∷ []))
    by true true e = e
    by true false e = e
    by false true e = ap (λ l. z ∷ l) e
    by false false e = ap (λ l. z ∷ l) e

-- one more entity counts where none before is the same
once-more : (xs : List EntityId) (x : EntityId)
    → each_once (xs ++ (x ∷ [])) ≡ (if list_any (λ e. same_entity e x) xs then each_once xs else each_once xs ++ (x ∷ []))
once-more [] x = refl
once-more (y ∷ ys) x = by (list_any (λ e. same_entity e x) ys) (same_entity y x) (once-more ys x) (without-snoc y x (each_once ys))
  where
    by : (a b : Bool) → each_once (ys ++ (x ∷ [])) ≡ (if a then each_once ys else each_once ys ++ (x ∷ []))
        → without_entity y (each_once ys ++ (x ∷ [])) ≡ (if b then without_entity y (each_once ys) else without_entity y (each_once ys) ++ (x ∷ []))
        → y ∷ without_entity y (each_once (ys ++ (x ∷ [])))
        ≡ (if b || a then y ∷ without_entity y (each_once ys) else (y ∷ without_entity y (each_once ys)) ++ (x ∷ []))
    by true true e f = ap (λ l. y ∷ without_entity y l) e
    by true false e f = ap (λ l. y ∷ without_entity y l) e
    by false true e f = ap (λ l. y ∷ without_entity y l) e ∙ ap (λ l. y ∷ l) f
    by false false e f = ap (λ l. y ∷ without_entity y l) e ∙ ap (λ l. y ∷ l) f

module _ (found : List EntityId) (x : EntityId) (start : List EntityId) (h : found ≡ each_once start) where
  is-among : list_any (λ e. same_entity e x) start ≡ list_any (λ e. same_entity e x) found
  is-among = sym (once-any x start) ∙ ap (list_any (λ e. same_entity e x)) (sym h)

  -- LAW: an entity that is in the list is not put in again
  pub found-again : list_any (λ e. same_entity e x) found ≡ true → found ≡ each_once (start ++ (x ∷ []))
  found-again is =
      h ∙ sym (once-more start x ∙ (λ i. if (is-among ∙ is) i then each_once start else each_once start ++ (x ∷ [])))

  -- LAW: and one that is not is put behind
  pub found-new : list_any (λ e. same_entity e x) found ≡ false → found ++ (x ∷ []) ≡ each_once (start ++ (x ∷ []))
  found-new is =
      ap (λ l. l ++ (x ∷ [])) h
      ∙ sym (once-more start x ∙ (λ i. if (is-among ∙ is) i then each_once start else each_once start ++ (x ∷ [])))
