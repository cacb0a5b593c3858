-- Templates that are read, the lengths of lists that are read, and lists of answers.
use Rattle.std.proofs.Common.{◌≡◌, ◌+◌, ap, refl, ℕ, Bool, List, [], ◌∷◌, map, length, Option, Some, None, Ok, Err, arith, length-append}
use Rattle.std.specs.Prelude.{◌&&◌, nat_lt}
use Rattle.std.proofs.lemmas.List.{length-map}
use Rattle.std.proofs.lemmas.List.Folds.{list_all-map}
use Rattle.ha_config.specs.Sound.{all_short, is_sound_template}
use Rattle.conf_field.specs.Holds.{Holds}
use Rattle.conf_field.specs.Kinds.{template_by}
use Rattle.conf_field.specs.Readings.{Read, behind, each, each_behind}
use Rattle.conf_laws.proofs.Parts.{Passes, weaker}
use Rattle.conf_laws.proofs.Templates.{sound_template_text}

-- ---- templates

pub templates : (line : ℕ) (o : Option (List ℕ)) → Holds (Passes is_sound_template) (template_by line o)
templates line (Some t) = sound_template_text line t
templates line None = tt

-- ---- two facts of one value

pub and_too : {A : Type 0} (P Q : A → Type 0) (r : Read A) → Holds P r → Holds Q r → Holds (λ x. P x × Q x) r
and_too P Q (Ok x) p q = (p, q)
and_too P Q (Err f) p q = tt

-- ---- a list of answers is short, and all hold, where the answers on the members do

pub short_map : {X Y : Type 0} (test : Y → Bool) (f : X → Y) (xs : List X) → all_short test (map f xs) ≡ all_short (λ x. test (f x)) xs
short_map test f xs = λ i. nat_lt (length-map xs f i) 4_294_967_296 && list_all-map test f xs i

pub map_twice : {X Y Z : Type 0} (f : Y → Z) (g : X → Y) (xs : List X) → map f (map g xs) ≡ map (λ x. f (g x)) xs
map_twice f g [] = refl
map_twice f g (x ∷ xs) = ap (λ ys. f (g x) ∷ ys) (map_twice f g xs)

-- ---- as many as there are items

abbrev pub HasLength : {A : Type 0} → ℕ → List A → Type 0
HasLength m xs = length xs ≡ m

one_longer : {A : Type 0} (m : ℕ) (before : Read (List A)) (r : Read A) → Holds (HasLength m) before → Holds (HasLength (m + 1)) (behind before r)
one_longer m (Ok xs) (Ok x) h = omega (arith, length-append xs (x ∷ []))
one_longer m (Ok xs) (Err f) h = tt
one_longer m (Err f) (Ok x) h = tt
one_longer m (Err f) (Err g) h = tt

module _ {X A : Type 0} (read : X → Read A) where
  longer_from : (m : ℕ) (before : Read (List A)) (xs : List X) → Holds (HasLength m) before → Holds (HasLength (m + length xs)) (each_behind read before xs)
  unfolding each_behind
  longer_from m before [] h = weaker (HasLength m) (HasLength (m + 0)) before (λ xs k. omega (arith, k)) h
  longer_from m before (x ∷ xs) h =
      weaker (HasLength (m + 1 + length xs)) (HasLength (m + length (x ∷ xs))) (each_behind read (behind before (read x)) xs) (λ ys k. omega (arith, k))
      (longer_from (m + 1) (behind before (read x)) xs (one_longer m before (read x) h))

  pub each_many : (xs : List X) → Holds (HasLength (length xs)) (each read xs)
  each_many xs = weaker (HasLength (0 + length xs)) (HasLength (length xs)) (each read xs) (λ ys k. omega (arith, k)) (longer_from 0 (Ok []) xs refl)
