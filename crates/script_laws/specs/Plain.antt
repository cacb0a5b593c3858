-- What a script means where no script is configured: each call is one of the services of helpers or of automations, or is written, and none
-- waits.
use Rattle.std.specs.Prelude.{ℕ, ◌≡◌, List, [], ◌∷◌, map, Option, option_map, ok_or, if◌then◌else◌}
use Rattle.ha_config.specs.declared.template.Template.{Template}
use Rattle.ha_config.specs.declared.config.Form.{Form}
use Rattle.ha_config.specs.declared.config.Action.{Action}
use Rattle.ha_config.specs.declared.config.ActionKind.TheOpen.{ActionKind-F}
use Rattle.ha_config.specs.declared.config.ActionKind.TheFolds.{fold-Action}
use Rattle.ha_config.specs.Words.{Text, Pairs}
use Rattle.ha_sight.specs.declared.item.Item.{Item}
use Rattle.ha_sight.specs.declared.waiting.WaitEnd.{WaitEnd}
use Rattle.ha_sight.specs.Sight.{Sight}
use Rattle.ha_sight.specs.Calls.{checked_then, done_by, fields_of, item_of, item_or_failed, service_of, targets_of, template_fault}
use Rattle.ha_sight.specs.Inner.{inner_of_helpers}
use Rattle.ha_sight.specs.Scripts.{Outcome, Spot, flat}
use Rattle.script_laws.specs.Direct.{Effect, action_effect, all_used, does, in_turn, kind_effect, outcome_of}

-- the item of a call: service, then each target, then the data; the first that fails decides the code
abbrev pub plain_item : Sight → Pairs → Template → List Template → List (Text × Form) → Item
plain_item s env service target fields = item_or_failed s env (
    checked_then
    (λ name. checked_then
    (λ es. checked_then (λ ps. done_by (inner_of_helpers s name es ps) (item_of s.automations name es ps)) (ok_or (fields_of s env fields) template_fault))
    (targets_of s env target))
    (service_of s env service))

-- a call gives its item, and each other action is as it is
abbrev pub plain_effect : ActionKind-F (Spot → Effect) Effect → Spot → Effect
plain_effect (ActionKind-F.Call service target fields) p scopes b rest = does (plain_item p.sight (flat scopes) service target fields) scopes rest
plain_effect other p scopes b rest = kind_effect other p scopes b rest

abbrev pub plain_by_action : Action → Effect
plain_by_action = fold-Action (Spot → Effect) Effect plain_effect action_effect

abbrev pub plain_by : List Action → Effect
plain_by actions = in_turn (map plain_by_action actions)

abbrev pub plain_script : List Action → Pairs → List Spot → Option Outcome
plain_script actions env ps = option_map outcome_of (all_used (plain_by actions (env ∷ []) [] ps))

-- ---- places where no script is configured

-- the places see no script
abbrev pub SeeNone : List Spot → Type 0
SeeNone [] = Unit {0}
SeeNone (p ∷ ps) = (p.sight.scripts ≡ []) × SeeNone ps

-- a place that says of runs that were called what is told of them there
abbrev pub told_of : (ℕ → ℕ → Option WaitEnd) → Spot → Spot
told_of told p = record p { wait_end = λ ask q. if ask.called then told p.place q else p.wait_end ask q }
