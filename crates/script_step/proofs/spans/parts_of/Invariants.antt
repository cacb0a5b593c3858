use Rattle.std.proofs.Common.{◌≤◌, ◌*◌, drop}
use Rattle.ha_sight.specs.Calls.{part_lengths}
use Rattle.script_step.proofs.SpanLemmas.{Totals}
use Rattle.script_step.proofs.spans.parts_of.Given as goal

abbrev pub invariant-loop-i : goal.invariant-loop-i
invariant-loop-i g l = record {
  so_far : Totals (g.A.Answers.sight l.answers) l.env part_lengths l.parts (drop l.i part_lengths) (drop l.i l.parts) l.total;
  bound : l.total ≤ 86400000000000000000 * l.i;
}
