use Rattle.std.proofs.Common.{◌≡◌, drop, []}
use Rattle.yaml_tree.specs.Entities.{items_ids}
use Rattle.yaml_tree.proofs.entities.items_ids.Given as goal

abbrev pub invariant-items : goal.invariant-items
invariant-items l = items_ids l.found (drop l.i l.items) ≡ items_ids [] l.items
