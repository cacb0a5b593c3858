use Rattle.std.proofs.Common.{ℕ, List, sym, ap, subst, ◌∙◌}
use Rattle.ha_sight.specs.Scripts.{Branch}
use Rattle.engine_parts.specs.Lower.{Ascends, lower}
use Rattle.engine_parts.proofs.OverLemmas.{one-said, put-over}
use Rattle.engine_parts.proofs.PutLemmas.{pairs-ascend}
use Rattle.engine_parts.proofs.ready.set_run.Goals as goal

pub returns-then-is_one : goal.returns-then-is_one
returns-then-is_one c m by old low high =
    let s : ℕ = c.args.serial in
    let pairs : List (ℕ × Branch) = c.args.ready.now.pairs.items in
    let before : Ascends 0 pairs = subst (Ascends 0) (sym old) (pairs-ascend 0 m by) in
    let whole = c.as_slice.ensures.value in
    let at = c.lower-at.ensures.lower (subst (Ascends 0) (sym whole) before) ∙ ap (lower s) whole in
    let said = one-said s c.lower-at.result c.args.branches pairs c.is_one.result c.is_one.ensures c.if-is_one.true in
    c.put_over.ensures ∙ put-over s 0 c.lower-at.result c.args.branches c.only.result pairs before at c.only.ensures said.1
