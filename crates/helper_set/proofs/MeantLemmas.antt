-- The places of helpers that targets name, each once.
use Rattle.std.proofs.Common.{◌≡◌, ◌∙◌, ap, ℕ, zero, suc, ◌+◌, ◌<◌, Bool, true, false, cond, refl, List, [], ◌∷◌, length, get_or, take}
use Rattle.std.specs.Prelude.{Option, Some, None, not, ◌||◌, nat_lt, map, slice_get, option_map, option_and_then, if◌then◌else◌}
use Rattle.std.specs.List.{list_any, position_or_len}
use Rattle.std.specs.Option.{option_map_or}
use Rattle.ha_value.specs.declared.value.EntityId.{EntityId}
use Rattle.ha_sight.specs.declared.helped.HelperService.{HelperService}
use Rattle.ha_config.specs.Words.{same_entity}
use Rattle.ha_sight.specs.Once.{with_number}
use Rattle.ha_sight.proofs.OnceLemmas.{once-with}
use Rattle.ha_sight.specs.Known.{Known}
use Rattle.ha_sight.specs.Services.{if_for, is_for, place_as, place_meant, places_meant}
use Rattle.helper_set.specs.declared.kept.Kept.{Kept}
use Rattle.helper_set.specs.Kept.{place_in, shown}

-- ---- the helpers of one more target

pub named-more : (all : List Known) (s : HelperService) (ts : List EntityId) (i : ℕ) (t : EntityId) → i < length ts → t ≡ get_or ts i t
    → places_meant all s (take (i + 1) ts) ≡ with_number (place_meant all s t) (places_meant all s (take i ts))
named-more all s ts i t lt is = once-with (place_meant all s) ts i t lt is

-- ---- what is kept, and what is shown of it

pub any-shown : (p : Known → Bool) (kept : List Kept) → list_any p (map shown kept) ≡ list_any (λ k. p (shown k)) kept
any-shown p [] = refl
any-shown p (k ∷ ks) = (λ i. p (shown k) || any-shown p ks i)

pub get-shown : (kept : List Kept) (n : ℕ) → slice_get (map shown kept) n ≡ option_map shown (slice_get kept n)
get-shown [] n = refl
get-shown (k ∷ ks) zero = refl
get-shown (k ∷ ks) (suc n) = get-shown ks n

length-shown : (kept : List Kept) → length (map shown kept) ≡ length kept
length-shown [] = refl
length-shown (k ∷ ks) = ap suc (length-shown ks)

at-shown : (p : Known → Bool) (kept : List Kept) → position_or_len p (map shown kept) ≡ position_or_len (λ k. p (shown k)) kept
at-shown p [] = refl
at-shown p (k ∷ ks) = by (p (shown k)) (at-shown p ks)
  where
    by : (b : Bool) → position_or_len p (map shown ks) ≡ position_or_len (λ k. p (shown k)) ks → cond (not b) (1 + position_or_len p (map shown ks)) 0 ≡ cond (not b) (1 + position_or_len (λ k. p (shown k)) ks) 0
    by true h = refl
    by false h = ap (λ n. 1 + n) h

pub place-shown : (kept : List Kept) (e : EntityId) → place_as (map shown kept) e ≡ place_in kept e
place-shown kept e =
    (let at = at-shown (λ k. same_entity k.helper.entity e) kept in let len = length-shown kept in
    λ i. cond (nat_lt (at i) (len i)) (Some (at i)) None)

-- the place that a target names, by what is kept
pub meant-shown : (kept : List Kept) (s : HelperService) (e : EntityId) → place_meant (map shown kept) s e
    ≡ option_and_then (λ n. if option_map_or (λ k. is_for s k.helper.kind) (slice_get kept n) false then Some n else None) (place_in kept e)
meant-shown kept s e = (λ i. option_and_then (if_for (map shown kept) s) (place-shown kept e i)) ∙ by (place_in kept e)
  where
    for_it : (o : Option Kept) → option_map_or (λ (k : Known). is_for s k.helper.kind) (option_map shown o) false ≡ option_map_or (λ k. is_for s k.helper.kind) o false
    for_it None = refl
    for_it (Some k) = refl

    by : (o : Option ℕ) → option_and_then (if_for (map shown kept) s) o ≡ option_and_then (λ n. if option_map_or (λ k. is_for s k.helper.kind) (slice_get kept n) false then Some n else None) o
    by None = refl
    by (Some n) =
        (λ i. if option_map_or (λ (k : Known). is_for s k.helper.kind) (get-shown kept n i) false then Some n else None)
        ∙ (λ i. if for_it (slice_get kept n) i then Some n else None)
