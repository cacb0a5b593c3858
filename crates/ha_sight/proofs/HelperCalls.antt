-- Which calls are of helpers; and where a place sees none, what the core does with calls is as it is without them.
use Rattle.std.proofs.Common.{◌≡◌, List, [], Bool, true, false, refl, ap}
use Rattle.std.specs.Prelude.{Option, Some, None, Ok, Err, if◌then◌else◌}
use Rattle.std.specs.Option.{option_map_or}
use Rattle.ha_value.specs.declared.value.EntityId.{EntityId}
use Rattle.ha_sight.specs.declared.helped.HelperChange.{HelperChange}
use Rattle.ha_sight.specs.declared.helped.HelperService.{HelperService}
use Rattle.ha_sight.specs.declared.item.Item.{Item}
use Rattle.ha_sight.specs.declared.steps.Inner.{Inner}
use Rattle.ha_config.specs.Words.{Text, Pairs}
use Rattle.ha_sight.specs.Checks.{Checked}
use Rattle.ha_sight.specs.Inner.{helped, helped_by, inner_of, inner_of_helpers, own_item}
use Rattle.ha_sight.specs.Services.{changes_made, is_configured, is_of_helpers, service_named}
use Rattle.ha_sight.specs.Sight.{Sight}

not-outer : (r : Checked (List HelperChange)) → helped r ≡ Inner.Outer → ⊥
not-outer (Ok changes) e = (let bad : ◌≡◌ {A = Inner} (Inner.Does (Item.Helped changes)) Inner.Outer = e in cc)
not-outer (Err code) e = (let bad : ◌≡◌ {A = Inner} (Inner.Fails code) Inner.Outer = e in cc)

module _ (s : Sight) (service : Text) (targets : List EntityId) (fields : Pairs) where
  -- LAW: helpers leave a call as it is exactly where it is no such service
  pub left-if : is_of_helpers s service ≡ false → inner_of_helpers s service targets fields ≡ Inner.Outer
  left-if h = by (service_named service) h
    where
      by : (o : Option HelperService) → option_map_or (is_configured s.helpers) o false ≡ false → helped_by s targets fields o ≡ Inner.Outer
      by None h = refl
      by (Some f) h = (λ i. if h i then helped (changes_made s f targets fields) else Inner.Outer)

  pub left-only : inner_of_helpers s service targets fields ≡ Inner.Outer → is_of_helpers s service ≡ false
  left-only e = by (service_named service) e
    where
      two : (r : Checked (List HelperChange)) (b : Bool) → (if b then helped r else Inner.Outer) ≡ Inner.Outer → b ≡ false
      two r false e = refl
      two r true e = absurd (not-outer r e)

      by : (o : Option HelperService) → helped_by s targets fields o ≡ Inner.Outer → option_map_or (is_configured s.helpers) o false ≡ false
      by None e = refl
      by (Some f) e = two (changes_made s f targets fields) (is_configured s.helpers f) e

module _ (s : Sight) (service : Text) (targets : List EntityId) (fields : Pairs) (none : s.helpers ≡ []) where
  -- LAW: no call is one of helpers
  pub no-helpers : inner_of_helpers s service targets fields ≡ Inner.Outer
  no-helpers = by (service_named service)
    where
      by : (o : Option HelperService) → helped_by s targets fields o ≡ Inner.Outer
      by None = refl
      by (Some f) = (λ i. if is_configured (none i) f then helped (changes_made s f targets fields) else Inner.Outer)

  -- LAW: a call is done by the core exactly where it is one of scripts
  pub scripts-alone : inner_of s service targets fields ≡ option_map_or Inner.Does (own_item s.scripts service targets fields) Inner.Outer
  scripts-alone = ap (option_map_or Inner.Does (own_item s.scripts service targets fields)) no-helpers
