use Rattle.std.proofs.Common.{sym, ap, ◌∙◌, arith, length, ◌-◌, ◌<◌, ◌≤◌}
use Rattle.yaml_tree.specs.Pieces.{floor}
use Rattle.yaml_tree.proofs.Floors.{floor_is, none_left}
use Rattle.yaml_tree.proofs.pieces.Pieces.floor.Goals as goal

pub returns-in-None : goal.returns-in-None
returns-in-None c =
    let short : length c.as_slice.result.now ≤ 0 = c.in-None.ensures.item.3 in
    none_left c.args.self.now.found.items (omega (arith, ap length c.as_slice.ensures.value))

pub returns-in-Some : goal.returns-in-Some
returns-in-Some c =
    let some : 0 < length c.as_slice.result.now = c.in-Some.ensures.item.3.0 in
    c.right_of.ensures ∙ sym (floor_is c.as_slice.result.now c.in-Some.piece.now (length c.as_slice.result.now - 1) (omega arith) c.in-Some.ensures.item.1) ∙ ap floor c.as_slice.ensures.value
