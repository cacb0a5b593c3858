use Rattle.conf_auto.proofs.TreeSizes.{list_left, map_left}
use Rattle.conf_auto.proofs.size.+size.Goals as goal

pub behind_node-returns-in-Some : goal.behind_node-returns-in-Some
behind_node-returns-in-Some t c =
    list_left c.behind_items.result c.args.node.now c.in-List.items c.as_slice.result.now c.in-Some.rest c.args.left c.in-List.is c.as_slice.ensures c.in-Some.ensures c.behind_items.ensures

pub behind_node-returns-in-Some-one_and : goal.behind_node-returns-in-Some-one_and
behind_node-returns-in-Some-one_and t c =
    map_left c.behind_pairs.result c.args.node.now c.in-Map.pairs c.as_slice-in-Some-one_and.result.now c.in-Some-one_and.rest c.args.left c.in-Map.is c.as_slice-in-Some-one_and.ensures
    c.in-Some-one_and.ensures c.behind_pairs.ensures
