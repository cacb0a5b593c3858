use Rattle.std.proofs.Common.{◌≡◌, None, [], ◌++◌, take, drop}
use Rattle.conf_field.specs.Fields as fields
use Rattle.conf_field.proofs.table.keys_fault.Given as goal

abbrev pub invariant-pairs : goal.invariant-pairs
invariant-pairs l = fields.keys_fault (l.common ++ l.own) None [] l.pairs ≡ fields.keys_fault (l.common ++ l.own) l.found (take l.i l.pairs) (drop l.i l.pairs)
