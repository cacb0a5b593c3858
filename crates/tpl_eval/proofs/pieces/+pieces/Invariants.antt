use Rattle.std.proofs.Common.{◌≤◌, ◌++◌, length}
use Rattle.ha_sight.specs.Sight.{Sight}
use Rattle.ha_config.specs.Words.{Pairs}
use Rattle.tpl_eval.specs.Pieces.{Alike}
use Rattle.tpl_eval.specs.Seen.{Sees}
use Rattle.tpl_eval.proofs.PieceLemmas.{written, Follows}
use Rattle.tpl_eval.proofs.pieces.+pieces.Given as goal

abbrev pub invariant-write_template-loop-i : goal.invariant-write_template-loop-i
invariant-write_template-loop-i l = record {
  short : (sight : Sight) → Sees sight l.states → length l.initial.page.text ≤ 65_536 → length l.page.text ≤ 65_536;
  follows : (sight : Sight) → Sees sight l.states → (whole : Pairs) → Alike whole (l.env ++ l.initial.page.set)
      → (left : Pairs) × Alike left (l.env ++ l.page.set) × Follows sight l.initial.page.text (written sight l.pieces whole) l.page.text l.pieces l.i left;
}
