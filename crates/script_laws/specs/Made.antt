-- Changes that services of helpers make of what a place sees.
use Rattle.std.specs.Prelude.{◌≡◌, Bool, true, List, [], ◌∷◌, map, Option, Some, find}
use Rattle.std.specs.List.{list_all}
use Rattle.ha_value.specs.declared.value.EntityId.{EntityId}
use Rattle.ha_config.specs.Helpers.{is_helper}
use Rattle.ha_config.specs.Words.{same_entity}
use Rattle.ha_sight.specs.declared.helped.HelperChange.{HelperChange}
use Rattle.ha_sight.specs.declared.helped.HelperService.{HelperService}
use Rattle.ha_sight.specs.declared.helped.Wanted.{Wanted}
use Rattle.ha_sight.specs.Known.{Known}
use Rattle.ha_sight.specs.Services.{change_seen, fits, is_for}
use Rattle.ha_sight.specs.Sight.{Sight}

-- what a place sees of the helper that has this id
abbrev pub known_as : List Known → EntityId → Option Known
known_as all e = find (λ k. same_entity k.helper.entity e) all

-- the change is the one that a service makes of a helper that the place sees: of a kind for which it is, and in whose bounds a value is that is asked for
pub record IsMade (sight : Sight) (c : HelperChange) : Type 0 where
  pub service : HelperService
  pub want : Wanted
  pub seen : Known
  pub is_seen : known_as sight.helpers c.entity ≡ Some seen
  pub is_meant : is_for service seen.helper.kind ≡ true
  pub is_fit : fits want seen ≡ true
  pub is_it : change_seen sight service want seen ≡ Some c

abbrev pub AreMade : Sight → List HelperChange → Type 0
AreMade sight [] = Unit {0}
AreMade sight (c ∷ cs) = IsMade sight c × AreMade sight cs

-- a place sees a helper of this id; and of each of these changes
abbrev pub sees_helper : Sight → EntityId → Bool
sees_helper sight e = is_helper (map (λ k. k.helper) sight.helpers) e

abbrev pub sees_all : Sight → List HelperChange → Bool
sees_all sight = list_all (λ c. sees_helper sight c.entity)
