use Rattle.std.proofs.Common.{◌≡◌, ◌≤◌, ◌-◌, true, drop, length}
use Rattle.ha_text.specs.Lines.{SameLines, is_open, whole_lines}
use Rattle.ha_text.proofs.lines.LineCut.take.Given as goal

abbrev pub invariant-lines : goal.invariant-lines
invariant-lines l = record {
  order : l.start ≤ l.self-inside.begun;
  fits : l.self-inside.begun ≤ length l.self-inside.held.items;
  last : is_open (drop l.self-inside.begun l.self-inside.held.items) ≡ true;
  same : SameLines (drop l.start l.self-inside.held.items) l.fn.self;
  whole : whole_lines (drop l.start l.self-inside.held.items) ≡ whole_lines l.fn.self;
  still : drop l.self-inside.start l.self-inside.held.items ≡ l.fn.self;
  before : l.self-inside.start ≤ l.self-inside.begun;
}

abbrev pub decreases-lines : goal.decreases-lines
decreases-lines l = l.self-inside.begun - l.start
