use Rattle.std.proofs.Common.{◌≡◌, drop}
use Rattle.conf_field.specs.Fields.{field}
use Rattle.conf_field.proofs.table.field_at.Given as goal

abbrev pub invariant-pairs : goal.invariant-pairs
invariant-pairs l = field l.row l.pairs ≡ field l.row (drop l.i l.pairs)
