-- What a call makes, by what is kept and by what is seen.
use Rattle.std.proofs.Common.{◌≡◌, ℕ, List, map, true, false, refl, ap, subst, ◌∙◌}
use Rattle.std.specs.Prelude.{Option, Some, None, Ok, Err, MatchOption, filter_map, slice_get, option_map, option_and_then, if◌then◌else◌}
use Rattle.std.specs.List.{list_all}
use Rattle.std.specs.Option.{option_map_or}
use Rattle.ha_value.specs.declared.value.EntityId.{EntityId}
use Rattle.ha_sight.specs.declared.helped.HelperService.{HelperService}
use Rattle.ha_sight.specs.declared.steps.Inner.{Inner}
use Rattle.ha_sight.specs.declared.helped.Wanted.{Wanted}
use Rattle.ha_sight.specs.Checks.{checked_then}
use Rattle.ha_sight.specs.Inner.{helped, helped_by}
use Rattle.ha_sight.specs.Services.{change_at, change_by, change_seen, changes_made, changes_for, fits, fits_at, is_configured, places_meant, text_seen, wanted}
use Rattle.ha_sight.specs.Sight.{Sight}
use Rattle.ha_config.specs.Words.{Pairs}
use Rattle.helper_set.specs.declared.kept.Kept.{Kept}
use Rattle.helper_set.specs.Kept.{AreSeen, IsTimely, shown}
use Rattle.helper_set.proofs.MeantLemmas.{get-shown}

module _ (kept : List Kept) (sight : Sight) (at : ℕ) (seen : AreSeen kept sight at) where
  get-seen : (n : ℕ) → slice_get sight.helpers n ≡ option_map shown (slice_get kept n)
  get-seen n = ap (λ l. slice_get l n) seen.helpers ∙ get-shown kept n

  pub fits-seen : (w : Wanted) (n : ℕ) → fits_at sight w n ≡ option_map_or (λ k. fits w (shown k)) (slice_get kept n) true
  fits-seen w n = ap (λ o. option_map_or (fits w) o true) (get-seen n) ∙ by (slice_get kept n)
    where
      by : (o : Option Kept) → option_map_or (fits w) (option_map shown o) true ≡ option_map_or (λ k. fits w (shown k)) o true
      by None = refl
      by (Some k) = refl

  pub timely-seen : (n : ℕ) (k : Kept) → slice_get kept n ≡ Some k → IsTimely at k
  timely-seen n k get = (subst (λ o. MatchOption o (Unit {0}) (λ k. (text_seen sight (shown k) ≡ k.text) × IsTimely at k)) get (seen.texts n)).1

  pub change-none : (s : HelperService) (w : Wanted) (n : ℕ) → slice_get kept n ≡ None → change_at sight s w n ≡ None
  change-none s w n get = ap (option_and_then (change_seen sight s w)) (get-seen n ∙ ap (option_map shown) get)

  pub change-some : (s : HelperService) (w : Wanted) (n : ℕ) (k : Kept) → slice_get kept n ≡ Some k → change_at sight s w n ≡ change_by s w at k.text (shown k)
  change-some s w n k get =
      ap (option_and_then (change_seen sight s w)) (get-seen n ∙ ap (option_map shown) get)
      ∙ (let t = (subst (λ o. MatchOption o (Unit {0}) (λ k. (text_seen sight (shown k) ≡ k.text) × IsTimely at k)) get (seen.texts n)).0 in λ i. change_by s w (seen.now i) (t i) (shown k))

  -- LAW: what becomes of a call of a service, by its cases
  pub not-configured : (s : HelperService) (targets : List EntityId) (ps : Pairs) → is_configured (map shown kept) s ≡ false → helped_by sight targets ps (Some s) ≡ Inner.Outer
  not-configured s targets ps h = (λ i. if (ap (λ l. is_configured l s) seen.helpers ∙ h) i then helped (changes_made sight s targets ps) else Inner.Outer)

  configured : (s : HelperService) (targets : List EntityId) (ps : Pairs) → is_configured (map shown kept) s ≡ true → helped_by sight targets ps (Some s) ≡ helped (changes_made sight s targets ps)
  configured s targets ps h = (λ i. if (ap (λ l. is_configured l s) seen.helpers ∙ h) i then helped (changes_made sight s targets ps) else Inner.Outer)

  pub bad-data : (s : HelperService) (targets : List EntityId) (ps : Pairs) (code : ℕ) → is_configured (map shown kept) s ≡ true → wanted s ps ≡ Err code → helped_by sight targets ps (Some s) ≡ Inner.Fails code
  bad-data s targets ps code h e = configured s targets ps h ∙ (λ i. helped (checked_then (changes_for sight s (places_meant sight.helpers s targets)) (e i)))

  pub good-data : (s : HelperService) (targets : List EntityId) (ps : Pairs) (w : Wanted) → is_configured (map shown kept) s ≡ true → wanted s ps ≡ Ok w
      → helped_by sight targets ps (Some s) ≡ helped (changes_for sight s (places_meant (map shown kept) s targets) w)
  good-data s targets ps w h e =
      configured s targets ps h
      ∙ (λ i. helped (checked_then (changes_for sight s (places_meant (seen.helpers i) s targets)) (e i)))

pub all-fit : (sight : Sight) (s : HelperService) (places : List ℕ) (w : Wanted) → list_all (fits_at sight w) places ≡ true → changes_for sight s places w ≡ Ok (filter_map (change_at sight s w) places)
all-fit sight s places w h = (λ i. if h i then Ok (filter_map (change_at sight s w) places) else Err 7)

pub one-unfit : (sight : Sight) (s : HelperService) (places : List ℕ) (w : Wanted) → list_all (fits_at sight w) places ≡ false → changes_for sight s places w ≡ Err 7
one-unfit sight s places w h = (λ i. if h i then Ok (filter_map (change_at sight s w) places) else Err 7)
