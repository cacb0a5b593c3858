use Rattle.std.proofs.Common.{◌≡◌, drop, []}
use Rattle.yaml_tree.specs.Readers.{texts_from}
use Rattle.yaml_tree.proofs.readers.texts_of.Given as goal

abbrev pub invariant-items : goal.invariant-items
invariant-items l = texts_from l.found (drop l.i l.items) ≡ texts_from [] l.items
