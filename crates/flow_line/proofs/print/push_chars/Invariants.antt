use Rattle.std.proofs.Common.{◌≡◌, ◌++◌, flat_map, length, IsUtf8}
use Rattle.ha_config.specs.ValueText.{escaped_byte}
use Rattle.flow_line.proofs.print.push_chars.Given as goal

abbrev pub invariant-runs : goal.invariant-runs
invariant-runs l = record {
  utf8 : IsUtf8 l.rest;
  shown : l.text ++ flat_map escaped_byte l.rest ≡ l.initial.text ++ flat_map escaped_byte l.fn.shown;
}

abbrev pub decreases-runs : goal.decreases-runs
decreases-runs l = length l.rest
