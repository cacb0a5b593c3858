use Rattle.std.proofs.Common.{◌≡◌, take, length}
use Rattle.ha_config.proofs.copies.template.+same_template.Given as goal

abbrev pub invariant-same_pieces-loop-i : goal.invariant-same_pieces-loop-i
invariant-same_pieces-loop-i l = record { long : length l.left ≡ length l.right; same_front : take l.i l.left ≡ take l.i l.right }

abbrev pub invariant-same_piece-loop-i : goal.invariant-same_piece-loop-i
invariant-same_piece-loop-i l = record { long : length l.a ≡ length l.b; same_front : take l.i l.a ≡ take l.i l.b }
