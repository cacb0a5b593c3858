-- What one Report makes of a state.
use Rattle.std.specs.Prelude.{ℕ, ◌&&◌, Option, Some, None, if◌then◌else◌}
use Rattle.ha_sight.specs.declared.state.StateObject.{StateObject}
use Rattle.ha_config.specs.Words.{Text, Pairs, same}
use Rattle.ha_config.specs.Equal.{same_pairs}

-- what a Report makes of an object, if there is one
abbrev pub next_object : Option StateObject → Text → Pairs → ℕ → StateObject
next_object None text attributes at = record { text = text; attributes = attributes; changed = at; updated = at }
next_object (Some o) text attributes at = record {
  text = text;
  attributes = attributes;
  changed = if same o.text text then o.changed else at;
  updated = if same o.text text && same_pairs o.attributes attributes then o.updated else at;
}
