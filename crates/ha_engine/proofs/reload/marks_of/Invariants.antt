use Rattle.std.proofs.Common.{◌≡◌, ◌≤◌, false, drop}
use Rattle.std.specs.Prelude.{replicate}
use Rattle.ha_engine.specs.Reloads.{marked, marks_of}
use Rattle.ha_engine.proofs.reload.marks_of.Given as goal

abbrev pub invariant-units : goal.invariant-units
invariant-units l = (l.marks.items ≡ replicate l._at false) × (l._at ≤ l.count)

abbrev pub invariant-numbers : goal.invariant-numbers
invariant-numbers l = marked (drop l.number-index l.numbers) l.marks.items ≡ marks_of l.numbers l.count
