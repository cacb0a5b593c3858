-- What comes into force by a Reload is sound where its configuration and the one before are; and what is alike but for helpers.
use Rattle.std.proofs.Common.{◌≡◌, Bool, true, refl, sym, ap, subst, ◌∙◌, rules}
use Rattle.std.specs.Prelude.{Some, None, IsTrue, ◌&&◌}
use Rattle.ha_config.specs.declared.config.Config.{Config}
use Rattle.ha_config.specs.Sound.{IsSoundConfig, are_sound_automations, are_sound_helpers, are_sound_scripts, is_sound_config}
use Rattle.ha_config.proofs.EqualLemmas.{and_left, and_right}
use Rattle.ha_journal.specs.declared.entry.Entry.{Entry}
use Rattle.ha_journal.specs.Entries.{reload_in}
use Rattle.ha_journal.specs.Force.{IsAlike, in_place_of}
use Rattle.ha_journal.specs.Journal.{HasEntry, Journal, configured, more}
use Rattle.ha_journal.proofs.ForceLaws.{configured-more, configured-reloaded}

-- ---- the parts of a sound configuration

is-true : (b : Bool) → IsTrue b → b ≡ true
is-true b h = search (rules, h)

true-is : (b : Bool) → b ≡ true → IsTrue b
true-is b h = search (rules, h)

pub sound-rules : (c : Config) → IsSoundConfig c → are_sound_automations c.automations ≡ true
sound-rules c h = and_left (are_sound_automations c.automations) (are_sound_scripts c.scripts && are_sound_helpers c.helpers) (is-true (is_sound_config c) h)

sound-others : (c : Config) → IsSoundConfig c → (are_sound_scripts c.scripts && are_sound_helpers c.helpers) ≡ true
sound-others c h = and_right (are_sound_automations c.automations) (are_sound_scripts c.scripts && are_sound_helpers c.helpers) (is-true (is_sound_config c) h)

pub sound-scripts : (c : Config) → IsSoundConfig c → are_sound_scripts c.scripts ≡ true
sound-scripts c h = and_left (are_sound_scripts c.scripts) (are_sound_helpers c.helpers) (sound-others c h)

pub sound-helpers : (c : Config) → IsSoundConfig c → are_sound_helpers c.helpers ≡ true
sound-helpers c h = and_right (are_sound_scripts c.scripts) (are_sound_helpers c.helpers) (sound-others c h)

joined : (a b c : Bool) → a ≡ true → b ≡ true → c ≡ true → (a && (b && c)) ≡ true
joined a b c x y z = (λ i. x i && (y i && z i))

-- LAW: a configuration with the helpers of another is sound where both are
pub sound-in-place : (d c : Config) → IsSoundConfig d → IsSoundConfig c → IsSoundConfig (in_place_of d c)
sound-in-place d c old new =
    true-is (is_sound_config (in_place_of d c))
    (joined (are_sound_automations c.automations) (are_sound_scripts c.scripts) (are_sound_helpers d.helpers) (sound-rules c new) (sound-scripts c new) (sound-helpers d old))

-- LAW: what is in force behind a Reload is sound
pub sound-reloaded : (j : Journal) (x : Entry) (c : Config) → HasEntry j → reload_in x ≡ Some c → IsSoundConfig (configured j) → IsSoundConfig c → IsSoundConfig (configured (more j x))
sound-reloaded j x c has reloads old new = subst IsSoundConfig (sym (configured-reloaded j x c has reloads)) (sound-in-place (configured j) c old new)

-- LAW: and behind an entry that is none
pub sound-still : (j : Journal) (x : Entry) → HasEntry j → reload_in x ≡ None → IsSoundConfig (configured j) → IsSoundConfig (configured (more j x))
sound-still j x has none = subst IsSoundConfig (configured-more j x has none)

-- ---- equal but for helpers

pub alike-itself : (c : Config) → IsAlike c c
alike-itself c = refl

pub alike-in-place : (d c : Config) → IsAlike c (in_place_of d c)
alike-in-place d c = refl

-- LAW: the automations are the same, and the scripts
pub alike-rules : (c d : Config) → IsAlike c d → c.automations ≡ d.automations
alike-rules c d h = ap (λ (e : Config). e.automations) h

pub alike-scripts : (c d : Config) → IsAlike c d → c.scripts ≡ d.scripts
alike-scripts c d h = ap (λ (e : Config). e.scripts) h

-- LAW: so they are sound where one of the two is
pub rules-alike : (c d : Config) → IsAlike c d → IsSoundConfig d → are_sound_automations c.automations ≡ true
rules-alike c d h sound = (λ i. are_sound_automations (alike-rules c d h i)) ∙ sound-rules d sound

pub scripts-alike : (c d : Config) → IsAlike c d → IsSoundConfig d → are_sound_scripts c.scripts ≡ true
scripts-alike c d h sound = (λ i. are_sound_scripts (alike-scripts c d h i)) ∙ sound-scripts d sound

-- LAW: what is alike what is in force is so behind an entry that is no Reload
pub alike-more : (j : Journal) (x : Entry) (c : Config) → HasEntry j → reload_in x ≡ None → IsAlike c (configured j) → IsAlike c (configured (more j x))
alike-more j x c has none = subst (IsAlike c) (configured-more j x has none)

-- LAW: and what a Reload brings is alike what is then in force
pub alike-reloaded : (j : Journal) (x : Entry) (c : Config) → HasEntry j → reload_in x ≡ Some c → IsAlike c (configured (more j x))
alike-reloaded j x c has reloads = subst (IsAlike c) (sym (configured-reloaded j x c has reloads)) (alike-in-place (configured j) c)
