-- Each change of a call is made of what its place sees.
use Rattle.std.proofs.Common.{◌≡◌, ℕ, Bool, true, false, List, [], ◌∷◌, map, refl, sym, subst}
use Rattle.std.specs.Prelude.{Option, Some, None, Ok, Err, not, ok_or, option_map, codes, if◌then◌else◌}
use Rattle.std.specs.Option.{option_map_or}
use Rattle.ha_value.specs.declared.value.EntityId.{EntityId}
use Rattle.ha_config.specs.declared.template.Template.{Template}
use Rattle.ha_config.specs.declared.config.Form.{Form}
use Rattle.ha_config.specs.Words.{Pairs, Text, same}
use Rattle.ha_sight.specs.declared.helped.HelperChange.{HelperChange}
use Rattle.ha_sight.specs.declared.helped.HelperService.{HelperService}
use Rattle.ha_sight.specs.declared.item.Item.{Item}
use Rattle.ha_sight.specs.declared.steps.Inner.{Inner}
use Rattle.ha_sight.specs.Calls.{Checked, automations_of, call_item, checked_then, done_by, fields_of, flag_named, item_of, item_or_failed, service_of, switched_to, targets_of, template_fault, was_on}
use Rattle.ha_sight.specs.Inner.{Scripts, helped, helped_by, inner_of, inner_of_helpers, own_item, script_called, scripts_named, variables_in}
use Rattle.ha_sight.specs.Items.{changes_by}
use Rattle.ha_sight.specs.Services.{changes_made, is_configured, service_named}
use Rattle.ha_sight.specs.Sight.{Automations, Sight}
use Rattle.script_laws.specs.Made.{AreMade}
use Rattle.script_laws.proofs.MadeLemmas.{AllMade, all-made}

-- LEMMA: what holds of a call that helpers leave, of changes of helpers that are made of what is seen, and of a failure, holds of what becomes of a call
pub helped-cases : (s : Sight) (name : Text) (es : List EntityId) (ps : Pairs) (outer : Item) (P : Checked Item → Type 0)
    → P (Ok outer) → ((changes : List HelperChange) → AreMade s changes → P (Ok (Item.Helped changes))) → ((code : ℕ) → P (Err code))
    → P (done_by (inner_of_helpers s name es ps) outer)
helped-cases s name es ps outer P left does fails = by (service_named name)
  where
    made : (r : Checked (List HelperChange)) → AllMade s r → P (done_by (helped r) outer)
    made (Ok changes) h = does changes h
    made (Err code) h = fails code

    two : (f : HelperService) (b : Bool) → P (done_by (if b then helped (changes_made s f es ps) else Inner.Outer) outer)
    two f true = made (changes_made s f es ps) (all-made s f es ps)
    two f false = left

    by : (o : Option HelperService) → P (done_by (helped_by s es ps o) outer)
    by None = left
    by (Some f) = two f (is_configured s.helpers f)

-- ---- the items of calls that are not of helpers

abbrev ChangesNone : Option Item → Type 0
ChangesNone None = Unit {0}
ChangesNone (Some item) = changes_by item ≡ []

own-changes : (scripts : Scripts) (name : Text) (es : List EntityId) (ps : Pairs) → ChangesNone (own_item scripts name es ps)
own-changes [] name es ps = tt
own-changes (s ∷ ss) name es ps =
    by (same name (codes "script.turn_on")) (same name (codes "script.turn_off")) (same name (codes "script.toggle")) (script_called (s ∷ ss) name)
  where
    by : (a b c : Bool) (o : Option ℕ) → ChangesNone (
        if a then Some (Item.Started (scripts_named (s ∷ ss) es) (variables_in ps) false)
        else if b then Some (Item.Halted (scripts_named (s ∷ ss) es))
        else if c then None
        else option_map (λ n. Item.Started (n ∷ []) ps true) o)
    by true b c o = refl
    by false true c o = refl
    by false false true o = tt
    by false false false None = tt
    by false false false (Some n) = refl

outer-changes : (all : Automations) (name : Text) (es : List EntityId) (ps : Pairs) → changes_by (item_of all name es ps) ≡ []
outer-changes all name es ps = by (same name (codes "automation.turn_on")) (same name (codes "automation.turn_off")) (same name (codes "automation.toggle")) (same name (codes "automation.trigger"))
  where
    by : (a b c d : Bool) → changes_by (
        if a then Item.Switched (map (switched_to true ps) (automations_of all es))
        else if b then Item.Switched (map (switched_to false ps) (automations_of all es))
        else if c then Item.Switched (map (λ n. switched_to (not (was_on all n)) ps n) (automations_of all es))
        else if d then Item.Triggered (automations_of all es) (flag_named (codes "skip_condition") ps)
        else Item.Call name es ps) ≡ []
    by true b c d = refl
    by false true c d = refl
    by false false true d = refl
    by false false false true = refl
    by false false false false = refl

-- LEMMA: what a call's item changes is made
pub call-helps : (s : Sight) (env : Pairs) (service : Template) (target : List Template) (fields : List (Text × Form)) → AreMade s (changes_by (call_item s env service target fields))
call-helps s env service target fields = by-service (service_of s env service)
  where
    none-made : (item : Item) → changes_by item ≡ [] → AreMade s (changes_by item)
    none-made item h = subst (AreMade s) (sym h) tt

    by-own : (name : Text) (es : List EntityId) (ps : Pairs) (o : Option Item) → ChangesNone o
        → AreMade s (changes_by (item_or_failed s env (done_by (option_map_or Inner.Does o (inner_of_helpers s name es ps)) (item_of s.automations name es ps))))
    by-own name es ps None h =
        helped-cases s name es ps (item_of s.automations name es ps) (λ r. AreMade s (changes_by (item_or_failed s env r)))
        (none-made (item_of s.automations name es ps) (outer-changes s.automations name es ps)) (λ changes made. made) (λ code. tt)
    by-own name es ps (Some item) h = none-made item h

    by-fields : (name : Text) (es : List EntityId) (r : Checked Pairs)
        → AreMade s (changes_by (item_or_failed s env (checked_then (λ ps. done_by (inner_of s name es ps) (item_of s.automations name es ps)) r)))
    by-fields name es (Ok ps) = by-own name es ps (own_item s.scripts name es ps) (own-changes s.scripts name es ps)
    by-fields name es (Err code) = tt

    by-targets : (name : Text) (r : Checked (List EntityId))
        → AreMade s (changes_by (item_or_failed s env (checked_then (λ es. checked_then (λ ps. done_by (inner_of s name es ps) (item_of s.automations name es ps)) (ok_or (fields_of s env fields) template_fault)) r)))
    by-targets name (Ok es) = by-fields name es (ok_or (fields_of s env fields) template_fault)
    by-targets name (Err code) = tt

    by-service : (r : Checked Text)
        → AreMade s (changes_by (item_or_failed s env (checked_then (λ n. checked_then (λ es. checked_then (λ ps. done_by (inner_of s n es ps) (item_of s.automations n es ps)) (ok_or (fields_of s env fields) template_fault)) (targets_of s env target)) r)))
    by-service (Ok name) = by-targets name (targets_of s env target)
    by-service (Err code) = tt
