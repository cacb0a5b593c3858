use Rattle.std.proofs.lemmas.Result.{err_from_is_err_and}
use Rattle.std.proofs.Common.{◌∙◌, sym, subst, arith, Ok, ap}
use Rattle.yaml_tree.specs.declared.node.Node.{Node}
use Rattle.yaml_tree.specs.Layout.{Answer, Gives, list_on, map_on, item, pair, list, map, node}
use Rattle.yaml_tree.proofs.Rows.{ends, misplaced, item_fails, goes_on}
use Rattle.yaml_tree.proofs.NodeLeaf.{node_leaf}
use Rattle.yaml_tree.proofs.layout.Layout.+read.Goals as goal

pub list-items-preserved : goal.list-items-preserved
list-items-preserved t c = record {
  so_far = goes_on (list_on c.args.column) (λ _. item (node c.args.depth)) c.items.items c.items.self (list (node c.args.depth) c.args.column c.args.self.now) c.items.invariant.so_far
      (c.in_ok-list_goes_on.ensures ∙ ap Ok c.if-not-branch.false) c.push.new.self c.in_ok-item.item c.item.new.self c.in_ok-item.ensures.exact c.in_ok-push.ensures.ok c.in_ok-item.ensures.shorter;
  shorter = omega (arith, c.in_ok-item.ensures.shorter);
}

pub list-returns-in_err-list_goes_on-clause-exact : goal.list-returns-in_err-list_goes_on-clause-exact
list-returns-in_err-list_goes_on-clause-exact t c =
    let p = err_from_is_err_and c.from_residual.result c.from_residual.ensures.1 in
    rw (p.1, p.2) (misplaced (list_on c.args.column) (λ _. item (node c.args.depth)) c.items.items c.items.self (list (node c.args.depth) c.args.column c.args.self.now) c.items.invariant.so_far c.in_err-list_goes_on.field-0.0 c.items.self c.in_err-list_goes_on.ensures)

pub list-returns-then-not-branch-clause-exact : goal.list-returns-then-not-branch-clause-exact
list-returns-then-not-branch-clause-exact t c =
    ends (list_on c.args.column) (λ _. item (node c.args.depth)) c.items.items c.items.self (list (node c.args.depth) c.args.column c.args.self.now) c.items.invariant.so_far (c.in_ok-list_goes_on.ensures ∙ ap Ok c.if-not-branch.true)

pub list-returns-in_err-item-clause-exact : goal.list-returns-in_err-item-clause-exact
list-returns-in_err-item-clause-exact t c =
    let p = err_from_is_err_and c.from_residual-in_err-item.result c.from_residual-in_err-item.ensures.1 in
    rw (p.1, p.2) (item_fails (list_on c.args.column) (λ _. item (node c.args.depth)) c.items.items c.items.self (list (node c.args.depth) c.args.column c.args.self.now) c.items.invariant.so_far
    (c.in_ok-list_goes_on.ensures ∙ ap Ok c.if-not-branch.false) c.in_err-item.field-0.0 c.item.new.self c.in_err-item.ensures.exact)

pub map-pairs-preserved : goal.map-pairs-preserved
map-pairs-preserved t c = record {
  so_far = goes_on (map_on c.args.column) (pair (node c.args.depth)) c.pairs.pairs c.pairs.self (map (node c.args.depth) c.args.column c.args.self.now) c.pairs.invariant.so_far
      (c.in_ok-map_goes_on.ensures ∙ ap Ok c.if-not-branch.false) c.in_ok-pairs.pairs c.in_ok-pair.pair c.pair.new.self c.in_ok-pair.ensures.exact c.in_ok-pairs.ensures c.in_ok-pair.ensures.shorter;
  shorter = omega (arith, c.in_ok-pair.ensures.shorter);
}

pub map-returns-in_err-map_goes_on-clause-exact : goal.map-returns-in_err-map_goes_on-clause-exact
map-returns-in_err-map_goes_on-clause-exact t c =
    let p = err_from_is_err_and c.from_residual.result c.from_residual.ensures.1 in
    rw (p.1, p.2) (misplaced (map_on c.args.column) (pair (node c.args.depth)) c.pairs.pairs c.pairs.self (map (node c.args.depth) c.args.column c.args.self.now) c.pairs.invariant.so_far c.in_err-map_goes_on.field-0.0 c.pairs.self c.in_err-map_goes_on.ensures)

pub map-returns-then-not-branch-clause-exact : goal.map-returns-then-not-branch-clause-exact
map-returns-then-not-branch-clause-exact t c =
    ends (map_on c.args.column) (pair (node c.args.depth)) c.pairs.pairs c.pairs.self (map (node c.args.depth) c.args.column c.args.self.now) c.pairs.invariant.so_far (c.in_ok-map_goes_on.ensures ∙ ap Ok c.if-not-branch.true)

pub map-returns-in_err-pair-clause-exact : goal.map-returns-in_err-pair-clause-exact
map-returns-in_err-pair-clause-exact t c =
    let p = err_from_is_err_and c.from_residual-in_err-pair.result c.from_residual-in_err-pair.ensures.1 in
    rw (p.1, p.2) (item_fails (map_on c.args.column) (pair (node c.args.depth)) c.pairs.pairs c.pairs.self (map (node c.args.depth) c.args.column c.args.self.now) c.pairs.invariant.so_far
    (c.in_ok-map_goes_on.ensures ∙ ap Ok c.if-not-branch.false) c.in_err-pair.field-0.0 c.pair.new.self c.in_err-pair.ensures.exact)

pub node-returns-in-Leaf-clause-exact : goal.node-returns-in-Leaf-clause-exact
node-returns-in-Leaf-clause-exact t c =
    let same = node_leaf c.args.depth c.args.line c.args.floor c.args.self.now c.head-head.result (omega arith) c.head-head.ensures c.in-Leaf.is in
    subst (λ (a : Answer Node). Gives a c.leaf.result c.leaf.new.self) (sym same) c.leaf.ensures.exact
