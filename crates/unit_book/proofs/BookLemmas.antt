-- What a book says of the units, and that it goes on.
use Rattle.std.proofs.Common.{◌≡◌, ℕ, zero, suc, ◌+◌, ◌-◌, List, [], ◌∷◌, ◌++◌, length, map, Bool, true, false, refl, sym, ap, subst, ◌∙◌, Option}
use Rattle.std.specs.Prelude.{Some, None, IfSome, nat_le, nat_lt, slice_get, option_and_then, option_map, ◌&&◌, if◌then◌else◌}
use Rattle.std.specs.List.{list_all}
use Rattle.std.specs.Option.{option_map_or}
use Rattle.ha_config.specs.declared.config.Action.{Action}
use Rattle.ha_config.specs.declared.config.Automation.{Automation}
use Rattle.ha_config.specs.declared.config.Config.{Config}
use Rattle.ha_config.specs.declared.config.Script.{Script}
use Rattle.ha_config.specs.Names.{unit_of}
use Rattle.ha_config.specs.Sound.{IsSoundConfig, are_sound_actions, are_sound_automations, are_sound_helpers, are_sound_scripts, is_sound_automation, is_sound_config, is_sound_script}
use Rattle.ha_config.specs.ValueFacts.{all_distinct}
use Rattle.ha_value.specs.Ids.{is_name}
use Rattle.ha_config.specs.Units.{units_of}
use Rattle.ha_config.specs.Words.{Text}
use Rattle.ha_config.proofs.EqualLemmas.{and_left, and_right}
use Rattle.ha_config.proofs.ListLemmas.{none-some, some-same}
use Rattle.ha_config.proofs.NumberedLemmas.{get-front, get-within}
use Rattle.ha_journal.specs.declared.entry.Entry.{Entry}
use Rattle.ha_journal.specs.Force.{Force, IsAlike, in_place_of}
use Rattle.ha_model.specs.Records.{actions_of}
use Rattle.unit_book.specs.declared.book.UnitBook.{UnitBook}
use Rattle.unit_book.specs.Book.{AreAt, Holds, Origin, config_at, config_in, script_in, unit_at, unit_by}

pub some-bind : {A B : Type 0} (f : A → Option B) (o : Option A) (y : B) → option_and_then f o ≡ Some y → (x : A) × (o ≡ Some x) × (f x ≡ Some y)
some-bind f None y e = absurd (none-some y e)
some-bind f (Some x) y e = (x, refl, e)

-- a configuration that stands there is the one in force, but for its helpers
pub alike-there : (d : Config) (o : Option Config) → option_map (in_place_of d) o ≡ Some d → (c : Config) × (o ≡ Some c) × IsAlike c d
alike-there d None e = absurd (none-some d e)
alike-there d (Some c) e = (c, refl, some-same (in_place_of d c) d e)

-- ---- with more entries

pub config-front : (es t : List Entry) (a : ℕ) (c : Config) → config_at es a ≡ Some c → config_at (es ++ t) a ≡ Some c
config-front es t a c e =
    let got = some-bind config_in (slice_get es a) c e in
    ap (option_and_then config_in) (get-front es t a (get-within es a got.0 got.1) ∙ got.1) ∙ got.2

like-front : (es t : List Entry) (a : ℕ) (d : Config) → option_map (in_place_of d) (config_at es a) ≡ Some d → option_map (in_place_of d) (config_at (es ++ t) a) ≡ Some d
like-front es t a d h = by (config_at es a) refl h
  where
    by : (o : Option Config) → config_at es a ≡ o → option_map (in_place_of d) o ≡ Some d → option_map (in_place_of d) (config_at (es ++ t) a) ≡ Some d
    by None e h = absurd (none-some d h)
    by (Some c) e h = (λ i. option_map (in_place_of d) (config-front es t a c e i)) ∙ h

pub unit-front : (es t : List Entry) (o : Origin) (u : Automation) → unit_at es o ≡ Some u → unit_at (es ++ t) o ≡ Some u
unit-front es t o u e =
    let got = some-bind (λ c. unit_of (units_of c) o.1) (config_at es o.0) u e in
    ap (option_and_then (λ c. unit_of (units_of c) o.1)) (config-front es t o.0 got.0 got.1) ∙ got.2

sound-front : (es t : List Entry) (o : Origin) (u : Automation) → unit_at es o ≡ Some u → IfSome (config_at es o.0) IsSoundConfig → IfSome (config_at (es ++ t) o.0) IsSoundConfig
sound-front es t o u e h =
    let got = some-bind (λ c. unit_of (units_of c) o.1) (config_at es o.0) u e in
    subst (λ k. IfSome k IsSoundConfig) (got.1 ∙ sym (config-front es t o.0 got.0 got.1)) h

pub at-front : (es t : List Entry) (os : List Origin) (us : List Automation) → AreAt es os us → AreAt (es ++ t) os us
at-front es t [] [] h = tt
at-front es t (o ∷ os) (u ∷ us) h = (unit-front es t o u h.0, sound-front es t o u h.0 h.1, at-front es t os us h.2)
at-front es t [] (u ∷ us) h = h
at-front es t (o ∷ os) [] h = h

-- LAW: a book holds with more entries what it held
pub holds-front : (es t : List Entry) (f : Force) (b : UnitBook) → Holds es f b → Holds (es ++ t) f b
holds-front es t f b h = record {
  config_is = like-front es t b.latest f.config h.config_is;
  units_are = at-front es t b.origins.items f.units h.units_are;
  names_are = h.names_are;
  firsts_are = h.firsts_are;
  listed_are = h.listed_are;
  sound =
      let got = alike-there f.config (config_at es b.latest) h.config_is in
      subst (λ k. IfSome k IsSoundConfig) (got.1 ∙ sym (config-front es t b.latest got.0 got.1)) h.sound;
}

-- ---- the unit of a number

pub at-length : (es : List Entry) (os : List Origin) (us : List Automation) → AreAt es os us → length os ≡ length us
at-length es [] [] h = refl
at-length es (o ∷ os) (u ∷ us) h = ap suc (at-length es os us h.2)
at-length es [] (u ∷ us) h = absurd h
at-length es (o ∷ os) [] h = absurd h

pub at-join : (es : List Entry) (os ps : List Origin) (us vs : List Automation) → AreAt es os us → AreAt es ps vs → AreAt es (os ++ ps) (us ++ vs)
at-join es [] ps [] vs h g = g
at-join es (o ∷ os) ps (u ∷ us) vs h g = (h.0, h.1, at-join es os ps us vs h.2 g)
at-join es [] ps (u ∷ us) vs h g = absurd h
at-join es (o ∷ os) ps [] vs h g = absurd h

-- LAW: the unit of a number stands at its origin
pub at-number : (es : List Entry) (os : List Origin) (us : List Automation) (a : ℕ) → AreAt es os us → unit_by es os a ≡ unit_of us a
at-number es [] [] a h = refl
at-number es (o ∷ os) (u ∷ us) zero h = h.0
at-number es (o ∷ os) (u ∷ us) (suc a) h = at-number es os us a h.2
at-number es [] (u ∷ us) a h = absurd h
at-number es (o ∷ os) [] a h = absurd h

pub at-sound : (es : List Entry) (os : List Origin) (us : List Automation) (a : ℕ) (o : Origin) → AreAt es os us → slice_get os a ≡ Some o → IfSome (config_at es o.0) IsSoundConfig
at-sound es [] us a o h e = absurd (none-some o e)
at-sound es (p ∷ os) [] a o h e = absurd h
at-sound es (p ∷ os) (u ∷ us) zero o h e = subst (λ (q : Option Origin). IfSome q (λ r. IfSome (config_at es r.0) IsSoundConfig)) e h.1
at-sound es (p ∷ os) (u ∷ us) (suc a) o h e = at-sound es os us a o h.2 e

pub number-at : (es : List Entry) (os : List Origin) (us : List Automation) (a : ℕ) (o : Option Origin) → AreAt es os us → slice_get os a ≡ o → option_and_then (unit_at es) o ≡ unit_of us a
number-at es os us a o h e = ap (option_and_then (unit_at es)) (sym e) ∙ at-number es os us a h

pub actions-at : (es : List Entry) (os : List Origin) (us : List Automation) (a : ℕ) (o : Option Origin) → AreAt es os us → slice_get os a ≡ o
    → option_map_or {T = Automation} {U = List Action} (λ (u : Automation). u.actions) (option_and_then (unit_at es) o) [] ≡ actions_of us a
actions-at es os us a o h e = ap (λ (u : Option Automation). option_map_or {T = Automation} {U = List Action} (λ x. x.actions) u []) (number-at es os us a o h e)

-- ---- soundness of what stands there

all-at : {A : Type 0} (test : A → Bool) (xs : List A) (i : ℕ) → list_all test xs ≡ true → IfSome (slice_get xs i) (λ x. test x ≡ true)
all-at test [] i h = tt
all-at test (x ∷ xs) zero h = and_left (test x) (list_all test xs) h
all-at test (x ∷ xs) (suc i) h = all-at test xs i (and_right (test x) (list_all test xs) h)

-- LAW: an automation of a sound configuration is sound
pub sound-rule : (c : Config) → is_sound_config c ≡ true → (at : ℕ) → IfSome (slice_get c.automations at) (λ a. is_sound_automation a ≡ true)
sound-rule c h at =
    let own : are_sound_automations c.automations ≡ true = and_left (are_sound_automations c.automations) (are_sound_scripts c.scripts && are_sound_helpers c.helpers) h in
    all-at is_sound_automation c.automations at (and_right (nat_le (length c.automations) 1_024 && all_distinct (map {A = Automation} {B = Text} (λ a. a.name) c.automations)) (list_all is_sound_automation c.automations) own)

-- LAW: and so are the actions of a script
pub sound-script : (c : Config) → is_sound_config c ≡ true → (at : ℕ) → IfSome (script_in c at) (λ s. are_sound_actions s.actions ≡ true)
sound-script c h at = by (nat_lt at (length c.automations))
  where
    own : are_sound_scripts c.scripts ≡ true
    own =
        and_left (are_sound_scripts c.scripts) (are_sound_helpers c.helpers)
        (and_right (are_sound_automations c.automations) (are_sound_scripts c.scripts && are_sound_helpers c.helpers) h)

    acts : (o : Option Script) → IfSome o (λ s. is_sound_script s ≡ true) → IfSome o (λ s. are_sound_actions s.actions ≡ true)
    acts None e = tt
    acts (Some s) e = and_right (is_name s.name && nat_le 1 s.max && nat_le s.max 1_000) (are_sound_actions s.actions) e

    by : (b : Bool) → IfSome (if b then None else slice_get c.scripts (at - length c.automations)) (λ s. are_sound_actions s.actions ≡ true)
    by true = tt
    by false = acts (slice_get c.scripts (at - length c.automations))
        (all-at is_sound_script c.scripts (at - length c.automations)
        (and_right (nat_le (length c.scripts) 1_024 && all_distinct (map {A = Script} {B = Text} (λ s. s.name) c.scripts)) (list_all is_sound_script c.scripts) own))
