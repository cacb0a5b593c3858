-- A value of any shape by its node.
use Rattle.std.proofs.Common.{◌≡◌, ◌∙◌, ap, refl, sym, ℕ, List, [], ◌∷◌, map, Ok}
use Rattle.yaml_tree.specs.declared.node.Node.{Node}
use Rattle.yaml_tree.specs.declared.node.NodeKind.{NodeKind}
use Rattle.yaml_tree.specs.declared.node.NodeKind.TheOpen.{NodeKind-F}
use Rattle.yaml_tree.specs.declared.node.NodeKind.TheViews.{out-Node, out-NodeKind}
use Rattle.yaml_tree.specs.declared.node.NodeKind.TheVariants as kinds
use Rattle.yaml_tree.specs.declared.node.NodeKind.TheFolds.{fold-NodeKind, fold_out-Node, fold_out-NodeKind, map-NodeKind}
use Rattle.yaml_tree.specs.Readers.{Shape, line_of, shape_of}
use Rattle.conf_field.specs.Readings.{Read, made, behind, each, each_behind}
use Rattle.conf_field.specs.Fields.{Pair}
use Rattle.conf_field.specs.Trees.{Leaf, Fields, tree, tree_step, fields_of}

pub each_map : {X Y A : Type 0} (f : Y → Read A) (g : X → Y) (before : Read (List A)) (xs : List X) → each_behind f before (map g xs) ≡ each_behind (λ x. f (g x)) before xs
unfolding each_behind
each_map f g before [] = refl
each_map f g before (x ∷ xs) = each_map f g (behind before (f (g x))) xs

module _ {A : Type 0} (leaf : Leaf A) (listed : List A → A) (mapped : Fields A → A) where
  abbrev whole : Node → Read A
  whole = tree leaf listed mapped

  abbrev below : NodeKind → ℕ → Read A
  below = fold-NodeKind (ℕ → Read A) (Read A) (tree_step leaf listed mapped) (λ n. n.kind n.line)

  abbrev pub tree_by : ℕ → Shape → Read A
  tree_by line (NodeKind-F.Scalar t plain) = leaf line t plain
  tree_by line (NodeKind-F.List items) = made listed (each whole items)
  tree_by line (NodeKind-F.Map pairs) = made mapped (fields_of whole pairs)

  by_shape : (line : ℕ) (s : Shape) → tree_step leaf listed mapped (map-NodeKind NodeKind Node (ℕ → Read A) (Read A) below whole s) line ≡ tree_by line s
  by_shape line (NodeKind-F.Scalar t plain) = refl
  by_shape line (NodeKind-F.List items) = ap (made listed) (each_map (λ r. r) whole (Ok []) items)
  by_shape line (NodeKind-F.Map pairs) =
      ap (made mapped) (each_map (λ p. made (λ v. (p.0, v)) p.2) (λ p. (p.0, p.1, whole p.2)) (Ok []) pairs)

  pub tree-out : (n : Node) → whole n ≡ tree_by (line_of n) (shape_of n)
  tree-out n =
      fold_out-Node (ℕ → Read A) (Read A) (tree_step leaf listed mapped) (λ x. x.kind x.line) n
      ∙ ap (λ f. f (line_of n)) (fold_out-NodeKind (ℕ → Read A) (Read A) (tree_step leaf listed mapped) (λ x. x.kind x.line) (out-Node n).kind)
      ∙ by_shape (line_of n) (shape_of n)

  pub tree_of_list : (n : Node) (items more : List Node) → (out-Node n).kind ≡ kinds.List items → more ≡ items → whole n ≡ made listed (each whole more)
  tree_of_list n items more h e =
      let e-list : out-NodeKind (kinds.List items) ≡ NodeKind-F.List items = simp kinds.outs-List in
      tree-out n ∙ ap (tree_by (line_of n)) (ap out-NodeKind h ∙ e-list) ∙ (λ k. made listed (each whole (sym e k)))

  pub tree_of_map : (n : Node) (pairs more : List Pair) → (out-Node n).kind ≡ kinds.Map pairs → more ≡ pairs → whole n ≡ made mapped (fields_of whole more)
  tree_of_map n pairs more h e =
      let e-map : out-NodeKind (kinds.Map pairs) ≡ NodeKind-F.Map pairs = simp kinds.outs-Map in
      tree-out n ∙ ap (tree_by (line_of n)) (ap out-NodeKind h ∙ e-map) ∙ (λ k. made mapped (fields_of whole (sym e k)))
