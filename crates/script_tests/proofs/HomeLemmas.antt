-- The first automation and the first script of a sound configuration are sound, and the actions of a sound one have few lists.
use Rattle.std.proofs.Common.{◌≡◌, ◌∙◌, ap, Bool, true, false, ◌&&◌, refl, sym, true≢false, List, [], ◌∷◌, length, map}
use Rattle.std.specs.Prelude.{nat_le, Option, Some}
use Rattle.std.specs.List.{list_all, slice_get}
use Rattle.std.specs.Option.{option_map_or}
use Rattle.ha_value.specs.Ids.{is_name}
use Rattle.ha_config.specs.declared.config.Automation.{Automation}
use Rattle.ha_config.specs.declared.config.Config.{Config}
use Rattle.ha_config.specs.declared.config.Script.{Script}
use Rattle.ha_config.specs.ValueFacts.{all_distinct}
use Rattle.ha_config.specs.Sound.{IsSoundConfig, are_sound_actions, are_sound_conditions, are_sound_triggers, is_sound_automation, is_sound_script, are_sound_automations, are_sound_helpers, are_sound_scripts}
use Rattle.script_step.specs.Few.{has_few_lists}
use Rattle.script_step.proofs.SoundFew.{sound-few}

left : (a b : Bool) → (a && b) ≡ true → a ≡ true
left true b h = refl
left false b h = h

right : (a b : Bool) → (a && b) ≡ true → b ≡ true
right true b h = h
right false b h = absurd (true≢false (sym h))

pub few-of : (a : Automation) → is_sound_automation a ≡ true → has_few_lists a.actions ≡ true
few-of a h =
    sound-few a.actions
    (right (is_name a.name && nat_le 1 a.max && nat_le a.max 1_000 && are_sound_triggers a.triggers && are_sound_conditions a.tests) (are_sound_actions a.actions) h)

abbrev if_sound : Option Automation → Bool
if_sound o = option_map_or is_sound_automation o true

first-sound : (all : List Automation) → list_all is_sound_automation all ≡ true → if_sound (slice_get all 0) ≡ true
first-sound [] h = refl
first-sound (a ∷ all) h = left (is_sound_automation a) (list_all is_sound_automation all) h

pub sound-first : (config : Config) (a : Automation) → IsSoundConfig config → Some a ≡ slice_get config.automations 0 → is_sound_automation a ≡ true
sound-first config a h e =
    ap if_sound e
    ∙ first-sound config.automations
    (right (nat_le (length config.automations) 1_024 && all_distinct (map (λ (b : Automation). b.name) config.automations)) (list_all is_sound_automation config.automations)
    (left (are_sound_automations config.automations) (are_sound_scripts config.scripts && are_sound_helpers config.helpers) h))

-- ---- scripts

pub few-called : (s : Script) → is_sound_script s ≡ true → has_few_lists s.actions ≡ true
few-called s h = sound-few s.actions (right (is_name s.name && nat_le 1 s.max && nat_le s.max 1_000) (are_sound_actions s.actions) h)

abbrev if_sound_script : Option Script → Bool
if_sound_script o = option_map_or is_sound_script o true

first-called : (all : List Script) → list_all is_sound_script all ≡ true → if_sound_script (slice_get all 0) ≡ true
first-called [] h = refl
first-called (s ∷ all) h = left (is_sound_script s) (list_all is_sound_script all) h

pub sound-called : (config : Config) (s : Script) → IsSoundConfig config → Some s ≡ slice_get config.scripts 0 → is_sound_script s ≡ true
sound-called config s h e =
    ap if_sound_script e
    ∙ first-called config.scripts
    (right (nat_le (length config.scripts) 1_024 && all_distinct (map (λ (x : Script). x.name) config.scripts)) (list_all is_sound_script config.scripts)
    (left (are_sound_scripts config.scripts) (are_sound_helpers config.helpers)
    (right (are_sound_automations config.automations) (are_sound_scripts config.scripts && are_sound_helpers config.helpers) h)))
