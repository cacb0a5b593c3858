use Rattle.std.proofs.Common.{◌≡◌, List, drop}
use Rattle.yaml_scan.specs.Answers.{Gives}
use Rattle.conf_field.specs.Readings.{Read, each, each_behind, made}
use Rattle.conf_field.specs.Trees.{tree, fields_of}
use Rattle.conf_field.proofs.trees.+tree.Given as goal

abbrev pub invariant-fields_of-pairs : goal.invariant-fields_of-pairs
invariant-fields_of-pairs g l =
    (before : Read (List _)) × (Gives before l.found)
    × (each_behind (λ p. made (λ v. (p.0, v)) (tree g.B.Build.leaf g.B.Build.listed g.B.Build.mapped p.2)) before (drop l.i l.pairs) ≡ fields_of (tree g.B.Build.leaf g.B.Build.listed g.B.Build.mapped) l.pairs)

abbrev pub invariant-items_of-items : goal.invariant-items_of-items
invariant-items_of-items g l =
    (before : Read (List _)) × (Gives before l.found)
    × (each_behind (tree g.B.Build.leaf g.B.Build.listed g.B.Build.mapped) before (drop l.i l.items) ≡ each (tree g.B.Build.leaf g.B.Build.listed g.B.Build.mapped) l.items)
