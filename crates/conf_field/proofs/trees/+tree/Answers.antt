use Rattle.std.proofs.Common.{sym, ◌∙◌, subst}
use Rattle.yaml_scan.specs.Answers.{Gives}
use Rattle.conf_field.specs.Readings.{Read, made, each, behind}
use Rattle.conf_field.specs.Fields.{Pair}
use Rattle.conf_field.specs.Trees.{tree, fields_of}
use Rattle.conf_field.proofs.Made.{one_more}
use Rattle.conf_field.proofs.TreeLaws.{tree_of_list, tree_of_map}
use Rattle.conf_field.proofs.trees.+tree.Goals as goal

pub tree-returns-in-List : goal.tree-returns-in-List
tree-returns-in-List g t c =
    let read = tree g.B.Build.leaf g.B.Build.listed g.B.Build.mapped in
    let Whole : Read _ → Type 0 = λ r. Gives r c.made_list.result in
    subst Whole (sym (tree_of_list g.B.Build.leaf g.B.Build.listed g.B.Build.mapped c.args.node.now c.in-List.items c.as_slice.result.now c.in-List.is c.as_slice.ensures))
    (c.made_list.ensures (each read c.as_slice.result.now) c.items_of.ensures)

pub tree-returns-in-Map : goal.tree-returns-in-Map
tree-returns-in-Map g t c =
    let read = tree g.B.Build.leaf g.B.Build.listed g.B.Build.mapped in
    let Whole : Read _ → Type 0 = λ r. Gives r c.made_map.result in
    subst Whole (sym (tree_of_map g.B.Build.leaf g.B.Build.listed g.B.Build.mapped c.args.node.now c.in-Map.pairs c.as_slice-in-Map.result.now c.in-Map.is c.as_slice-in-Map.ensures))
    (c.made_map.ensures (fields_of read c.as_slice-in-Map.result.now) c.fields_of.ensures)

pub items_of-items-preserved : goal.items_of-items-preserved
items_of-items-preserved g t c =
    let read = tree g.B.Build.leaf g.B.Build.listed g.B.Build.mapped in
    let old = c.items.invariant in
    let x = c.index-items-i.result in (
      behind old.0 (read x),
      c.behind-found.ensures old.0 (read x) old.1 c.tree.ensures,
      sym (one_more read old.0 c.args.items.now c.items.i x c.items-test.true (sym c.index-items-i.is)) ∙ old.2,
    )

pub fields_of-pairs-preserved : goal.fields_of-pairs-preserved
fields_of-pairs-preserved g t c =
    let read = tree g.B.Build.leaf g.B.Build.listed g.B.Build.mapped in
    let field = λ (p : Pair). made (λ v. (p.0, v)) (read p.2) in
    let old = c.pairs.invariant in
    let x = c.index-pairs-i.result in (
      behind old.0 (field x),
      c.behind-found.ensures old.0 (field x) old.1 (c.with_key.ensures (read x.2) c.tree.ensures),
      sym (one_more field old.0 c.args.pairs.now c.pairs.i x c.pairs-test.true (sym c.index-pairs-i.is)) ∙ old.2,
    )
