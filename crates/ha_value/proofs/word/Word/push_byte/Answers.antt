use Rattle.std.proofs.Common.{ℕ, zero, suc, ◌<◌, ◌∷◌, [], arith}
use Rattle.std.specs.Str.{IsAscii}
use Rattle.std.proofs.lemmas.Str.{IsUtf8-from_ascii}
use Rattle.ha_value.proofs.word.Word.push_byte.Goals as goal

one_ascii : (byte : ℕ) → byte < 128 → IsAscii (byte ∷ [])
one_ascii byte below zero = below
one_ascii byte below (suc i) = omega arith

pub text_of-requires : goal.text_of-requires
text_of-requires c = IsUtf8-from_ascii (c.args.byte ∷ []) (one_ascii c.args.byte c.requires)
