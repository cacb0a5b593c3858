-- The size of a pair: its key's bytes, its value, and one more.
use Rattle.std.specs.Prelude.{ℕ, ◌+◌, length}
use Rattle.conf_field.specs.Fields.{Pair}
use Rattle.conf_field.specs.Sizes.{size}

abbrev pub pair_size : Pair → ℕ
pair_size p = 1 + length p.0 + size p.2
