use Rattle.std.proofs.Common.{◌≡◌, take}
use Rattle.ha_config.proofs.copies.template.+copy_template.Given as goal

abbrev pub invariant-copy_pieces-loop-i : goal.invariant-copy_pieces-loop-i
invariant-copy_pieces-loop-i l = l.all ≡ take l.i l.pieces

abbrev pub invariant-copy_piece-loop-i : goal.invariant-copy_piece-loop-i
invariant-copy_piece-loop-i l = l.all ≡ take l.i l.items
