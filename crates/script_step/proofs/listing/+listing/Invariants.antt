use Rattle.std.proofs.Common.{◌≡◌, ◌<◌, ◌++◌, length, map, drop, true}
use Rattle.script_step.specs.Continuation.{last_action, lists_of}
use Rattle.script_step.specs.Few.{has_few_lists}
use Rattle.script_step.specs.Ready.{readies, readies_from}
use Rattle.script_step.specs.Sides.{all_settled, standing}
use Rattle.script_step.proofs.listing.+listing.Given as goal

abbrev pub invariant-add_sides-loop-i : goal.invariant-add_sides-loop-i
invariant-add_sides-loop-i g l =
    length l.strands < 4_294_967_296 → has_few_lists l.list ≡ true → all_settled 0 (map standing l.strands) (lists_of (last_action l.list l.thread)) ≡ true
    → l.initial.found ++ map (λ c. l.branch ++ c) (readies_from 0 (map readies l.strands) (lists_of (last_action l.list l.thread)) l.now (λ c. g.E.Ended.ends l.ended l.serial (l.branch ++ c)))
    ≡ l.found ++ map (λ c. l.branch ++ c) (readies_from l.i (map readies (drop l.i l.strands)) (lists_of (last_action l.list l.thread)) l.now (λ c. g.E.Ended.ends l.ended l.serial (l.branch ++ c)))
