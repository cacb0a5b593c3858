-- A script that is one call of literal texts.
use Rattle.std.specs.Prelude.{ℕ, ◌≡◌, true, not, nat_le, List, [], ◌∷◌, length, codes}
use Rattle.ha_value.specs.declared.value.EntityId.{EntityId}
use Rattle.ha_value.specs.Ids.{entity_text, is_entity}
use Rattle.ha_config.specs.declared.template.Template.{Template}
use Rattle.ha_config.specs.declared.template.Piece.TheVariants as piece
use Rattle.ha_config.specs.declared.config.Action.{Action}
use Rattle.ha_config.specs.declared.config.ActionKind.TheVariants.{Call}
use Rattle.ha_sight.specs.declared.item.Item.{Item}
use Rattle.ha_config.specs.Words.{Text, same}
use Rattle.ha_sight.specs.Scripts.{Outcome, Status}

abbrev pub literal_text : Text → Template
literal_text text = record { pieces = piece.Text text ∷ [] }

-- one call of a service for one target, without data
abbrev pub one_call : Text → Text → List Action
one_call service target = record { kind = Call (literal_text service) (literal_text target ∷ []) [] } ∷ []

-- an entity id of another domain than `automation`, short enough for a template to give it
pub record IsCallable (id : EntityId) : Type 0 where
  pub form : is_entity id ≡ true
  pub outside : not (same id.domain (codes "automation")) ≡ true
  pub short : nat_le (length (entity_text id)) 65_536 ≡ true

-- where scripts are in force, an entity id of another domain than `script`
abbrev pub IsNoScript : List (Text × ℕ) → EntityId → Type 0
IsNoScript [] id = Unit {0}
IsNoScript (s ∷ ss) id = not (same id.domain (codes "script")) ≡ true

-- what the script gives at its one place
abbrev pub call_made : EntityId → EntityId → Outcome
call_made service target = record { items = Item.Call (entity_text service) (target ∷ []) [] ∷ []; status = Status.Done }
