use Rattle.std.proofs.Common.{◌≡◌, drop, []}
use Rattle.yaml_tree.specs.Entities.{split_from}
use Rattle.yaml_tree.proofs.entities.split_ids.Given as goal

abbrev pub invariant-text : goal.invariant-text
invariant-text l = split_from l.line l.found l.part.items (drop l.b-index l.text) ≡ split_from l.line l.fn.found [] l.text
