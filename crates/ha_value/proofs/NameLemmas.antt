-- A text that is an id, by what follows its longest front of bytes of names.
use Rattle.std.proofs.Common.{◌≡◌, ℕ, suc, ◌+◌, ◌<◌, Bool, true, false, cond, nat_eq, nat_lt, refl, sym, ◌∙◌, arith}
use Rattle.std.proofs.Common.{List, [], ◌∷◌, length, Some, None}
use Rattle.std.specs.Prelude.{Option, is_some}
use Rattle.std.proofs.lemmas.Bool.Decides.{nat_tests}
use Rattle.std.specs.List.{list_all}
use Rattle.ha_value.specs.declared.value.EntityId.{EntityId}
use Rattle.ha_value.specs.Ids.{dot_and_name, entity_from, is_name, is_name_byte, read_entity}
use Rattle.ha_value.specs.Lists.{after_first, after_front, before_first}

no_dot : (x : ℕ) → is_name_byte x ≡ true → nat_eq x 46 ≡ false
no_dot x h = grind (arith, nat_tests)

-- of a text: there is no dot in it, it is cut at its dot, or another byte stands before the dot
data Cut : (before : List ℕ) (after : Option (List ℕ)) (rest text : List ℕ) → Type 0 where
  whole : (before text : List ℕ) → Cut before None [] text
  dot : (before object text : List ℕ) (c : ℕ) → nat_eq c 46 ≡ true → list_all is_name_byte before ≡ true
      → length before + suc (length object) ≡ length text → Cut before (Some object) (c ∷ object) text
  other : (before : List ℕ) (after : Option (List ℕ)) (c : ℕ) (rest text : List ℕ) → nat_eq c 46 ≡ false
      → list_all is_name_byte before ≡ false → Cut before after (c ∷ rest) text

grow : (x : ℕ) (before : List ℕ) (after : Option (List ℕ)) (rest text : List ℕ) → is_name_byte x ≡ true → Cut before after rest text
    → Cut (x ∷ before) after rest (x ∷ text)
grow x _ _ _ _ h (whole before text) = whole (x ∷ before) (x ∷ text)
grow x _ _ _ _ h (dot before object text c d all len) = dot (x ∷ before) object (x ∷ text) c d (rw h all) (omega (arith, len))
grow x _ _ _ _ h (other before after c rest text d all) = other (x ∷ before) after c rest (x ∷ text) d (rw h all)

step : (x : ℕ) (xs : List ℕ) (p d : Bool) → is_name_byte x ≡ p → nat_eq x 46 ≡ d
    → Cut (before_first 46 xs) (after_first 46 xs) (after_front is_name_byte xs) xs
    → Cut (cond d [] (x ∷ before_first 46 xs)) (cond d (Some xs) (after_first 46 xs))
    (cond p (after_front is_name_byte xs) (x ∷ xs)) (x ∷ xs)
step x xs true true p d k = absurd (both (sym (no_dot x p) ∙ d))
  where
    both : false ≡ true → ⊥
    both e = absurd (cc)
step x xs true false p d k = grow x _ _ _ _ p k
step x xs false true p d k = dot [] xs (x ∷ xs) x d refl (omega arith)
step x xs false false p d k = other (x ∷ before_first 46 xs) (after_first 46 xs) x xs (x ∷ xs) d (rw p refl)

cut_of : (text : List ℕ) → Cut (before_first 46 text) (after_first 46 text) (after_front is_name_byte text) text
cut_of [] = whole [] []
cut_of (x ∷ xs) = step x xs (is_name_byte x) (nat_eq x 46) refl refl (cut_of xs)

some_by : (b : Bool) (e : EntityId) → is_some (cond b (Some e) None) ≡ b
some_by true e = refl
some_by false e = refl

told : (before : List ℕ) (after : Option (List ℕ)) (rest text : List ℕ) → Cut before after rest text
    → is_some (entity_from before after) ≡ dot_and_name (nat_lt (length rest) (length text)) rest
told _ _ _ _ (whole before text) = refl
told _ _ _ _ (other before None c rest text d all) = rw d refl
told _ _ _ _ (other [] (Some object) c rest text d all) = absurd (cc)
told _ _ _ _ (other (x ∷ xs) (Some object) c rest text d all) = rw (d, all) refl
told _ _ _ _ (dot [] object text c d all len) = rw (d, equal_not_less (suc (length object)) (length text) (omega (arith, len))) refl
  where
    equal_not_less : (a b : ℕ) → a ≡ b → nat_lt a b ≡ false
    equal_not_less a b e = grind (arith, nat_tests)
told _ _ _ _ (dot (x ∷ xs) object text c d all len) =
    rw (d, all, less (suc (length object)) (length text) (omega (arith, len)))
    (some_by (is_name object) (record { domain = x ∷ xs; object = object }))
  where
    less : (a b : ℕ) → a < b → nat_lt a b ≡ true
    less a b e = grind (arith, nat_tests)

-- LAW: a text is an id exactly where a dot and a name follow its longest front of bytes of names, and this is not empty
pub is_id : (text : List ℕ) → is_some (read_entity text)
    ≡ dot_and_name (nat_lt (length (after_front is_name_byte text)) (length text)) (after_front is_name_byte text)
unfolding read_entity
is_id text = told _ _ _ _ (cut_of text)
