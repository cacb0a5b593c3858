-- The latest numbers of entities and their attributes.
use Rattle.std.specs.Prelude.{◌≡◌, Bool, false, List, Option, None, Some, String, [], ◌∷◌, filter_map, is_some, option_and_then, if◌then◌else◌}
use Rattle.std.specs.BTreeSet.{BTreeSet, contains_text}
use Rattle.std.specs.BTreeMap.{BTreeMap, get_by_text}
use Rattle.ha_value.specs.declared.value.EntityId.{EntityId}
use Rattle.ha_value.specs.declared.value.Num.{Num}
use Rattle.ha_value.specs.Ids.{for_id}
use Rattle.ha_value.specs.Numbers.{begins_number}
use Rattle.ha_sight.specs.Conditions.{number_watched}
use Rattle.ha_sight.specs.declared.helped.HelperChange.{HelperChange}
use Rattle.ha_config.specs.Words.{or_else, Text, Pairs, first_of_list, first_pair, same, same_entity}
use Rattle.ha_journal.specs.declared.entry.Entry.{Entry}
use Rattle.ha_journal.specs.Entries.{report_in}
use Rattle.ha_journal.specs.Moves.{number_in_text}
use Rattle.trig_set.specs.declared.numbers.Latest.{Latest}
use Rattle.trig_set.specs.declared.numbers.Numbers.{Numbers}

abbrev pub number_of : Option Text → Latest → Option Num
number_of None l = l.own
number_of (Some name) l = get_by_text l.attributes name

-- the same, of the entity whose id is this text
abbrev pub numbers_in : {Y : Type 0} → BTreeMap (String Y) Latest → Text → Option Text → Option Num
numbers_in entities q name = option_and_then (number_of name) (get_by_text entities q)

-- the number of the entity, or of its attribute
abbrev pub number_at : Numbers → EntityId → Option Text → Option Num
number_at t e name = option_and_then (number_of name) (for_id None (get_by_text t.entities) e)

-- the number that an entry gives of e as a Report
abbrev pub number_reported : EntityId → Option Text → Entry → Option Num
number_reported e name x = option_and_then (number_in_text e name) (report_in x)

-- the number that a change gives of e
abbrev pub number_changed : EntityId → Option Text → HelperChange → Option Num
number_changed e name c = if same_entity c.entity e then number_watched name c.text [] else None

-- the first number that one of these changes gives of e
abbrev pub number_among : EntityId → Option Text → List HelperChange → Option Num
number_among e name cs = first_of_list (filter_map (number_changed e name) cs)

-- the number that a report gives, where its state text gives this one
abbrev pub number_given : Option Num → Pairs → Option Text → Option Num
number_given own ps None = own
number_given own ps (Some name) = number_watched (Some name) [] ps

-- the text begins with a sign or a digit: no other is a number
abbrev pub begins_as_number : Text → Bool
begins_as_number [] = false
begins_as_number (c ∷ cs) = begins_number c

-- with the names of these pairs, and the numbers that they give over those before
pub record SoFar {Y Z : Type 0} (seen : BTreeSet (String Z))
    (numbers : BTreeMap (String Y) Num) (before : Text → Option Num) (ps : Pairs) : Type 0 where
  pub names : (q : Text) → contains_text seen q ≡ is_some (first_pair q ps)
  pub given : (q : Text) → get_by_text numbers q ≡ or_else (number_watched (Some q) [] ps) (before q)

-- the new map has this value at the name, and is as the old one at the others
abbrev pub ChangesName : {X Y : Type 0} → BTreeMap (String Y) X → BTreeMap (String Y) X → Text → Option X → Type 0
ChangesName old new name value = (q : Text) → get_by_text new q ≡ (if same name q then value else get_by_text old q)
