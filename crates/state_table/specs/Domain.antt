-- What a report changes, and how a map with text keys changes at one key.
use Rattle.std.specs.Prelude.{◌≡◌, Option, Some, None, String, if◌then◌else◌}
use Rattle.std.specs.BTreeMap.{BTreeMap, get_by_text}
use Rattle.ha_sight.specs.declared.state.StateObject.{StateObject}
use Rattle.ha_sight.specs.declared.state.Change.{Change}
use Rattle.ha_config.specs.Words.{Text, Pairs, same}
use Rattle.ha_config.specs.Equal.{same_pairs}

-- what a report of a text and attributes changes in the state before it
abbrev pub change_of : Option StateObject → Text → Pairs → Change
change_of None text attributes = Change.Appeared
change_of (Some o) text attributes =
    if same o.text text then (if same_pairs o.attributes attributes then Change.Same else Change.Attributes) else Change.Text

-- the new map has this value at the name, and is as the old one at the others
abbrev pub ChangesName : {X Y : Type 0} → BTreeMap (String Y) X → BTreeMap (String Y) X → Text → Option X → Type 0
ChangesName old new name value = (q : Text) → get_by_text new q ≡ (if same name q then value else get_by_text old q)

-- two maps have the same at each name
abbrev pub SaysTheSame : {X Y : Type 0} → BTreeMap (String Y) X → BTreeMap (String Y) X → Type 0
SaysTheSame old new = (q : Text) → get_by_text new q ≡ get_by_text old q
