use Rattle.std.proofs.Common.{◌≡◌, ◌≤◌, ◌-◌, [], drop, length}
use Rattle.ha_text.specs.Lines.{lines_of, whole_lines}
use Rattle.ha_text.proofs.lines.LineCut.finish.Given as goal

abbrev pub invariant-blank : goal.invariant-blank
invariant-blank l = record { within : l.start ≤ length l.self-inside.held.items; same : lines_of (drop l.start l.self-inside.held.items) ≡ lines_of l.fn.self; whole : whole_lines (drop l.start l.self-inside.held.items) ≡ []; still : drop l.self-inside.start l.self-inside.held.items ≡ l.fn.self }

abbrev pub decreases-blank : goal.decreases-blank
decreases-blank l = length l.self-inside.held.items - l.start
