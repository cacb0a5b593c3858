use Rattle.std.proofs.Common.{arith}
use Rattle.script_tests.proofs.play.note.Goals as goal

pub note-requires : goal.note-requires
note-requires c = record { quiet = λ n d lt t none test off. absurd (let below = (c.in_ok-tested.ensures n d lt t none test off).before in omega (arith, below)) }
