use Rattle.std.proofs.Common.{[]}
use Rattle.yaml_tree.specs.Entities.{items_ids}
use Rattle.yaml_tree.proofs.entities.list_ids.Goals as goal

pub returns : goal.returns
returns c = c.some_ids.ensures (items_ids [] c.args.items.now) c.items_ids.ensures
