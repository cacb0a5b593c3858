-- A definition by the parts of a node, at a node: each node inside stands beside its own meaning.
use Rattle.std.proofs.Common.{◌≡◌, ◌∙◌, ap, refl, sym, subst, ℕ, List, [], ◌∷◌, map}
use Rattle.yaml_tree.specs.declared.node.Node.{Node}
use Rattle.yaml_tree.specs.declared.node.Node.{Node-F}
use Rattle.yaml_tree.specs.declared.node.NodeKind.{NodeKind}
use Rattle.yaml_tree.specs.declared.node.NodeKind.TheOpen.{NodeKind-F}
use Rattle.yaml_tree.specs.declared.node.NodeKind.TheVariants as kinds
use Rattle.yaml_tree.specs.declared.node.NodeKind.TheViews.{out-Node, roll-Node, roll-NodeKind}
use Rattle.yaml_tree.specs.declared.node.NodeKind.TheFolds.{fold-NodeKind, fold_out-Node, fold_out-NodeKind, fold-roll-Node, fold-roll-NodeKind, map-NodeKind, map-Node, ind-Node}
use Rattle.yaml_tree.specs.Readers.{Shape, line_of, shape_of}
use Rattle.conf_field.specs.Parts.{Part, Level, Inner, bare, part_of, meaning}

module _ (M : Type 0) (step : ℕ → Inner M → M) where
  abbrev at_level : Inner M → Level M
  at_level s = record { kind = bare s; at = λ line. step line s }

  abbrev at_node : Node-F (Level M) (Part M) → Part M
  at_node n = record { node = record { line = n.line; kind = n.kind.kind }; means = n.kind.at n.line }

  abbrev level : NodeKind → Level M
  level = fold-NodeKind (Level M) (Part M) at_level at_node

  abbrev part : Node → Part M
  part = part_of M step

  -- ---- the node beside a meaning is the node

  abbrev SameKind : NodeKind → Type 0
  SameKind k = (level k).kind ≡ k

  abbrev SameNode : Node → Type 0
  SameNode n = (part n).node ≡ n

  same_items : (es : List ((n : Node) × SameNode n)) → map (λ x. x.node) (map part (map (λ e. e.0) es)) ≡ map (λ e. e.0) es
  same_items [] = refl
  same_items (e ∷ es) = λ i. e.1 i ∷ same_items es i

  abbrev drop_fact : List ℕ × ℕ × ((n : Node) × SameNode n) → List ℕ × ℕ × Node
  drop_fact p = (p.0, p.1, p.2.0)

  abbrev part_pair : List ℕ × ℕ × Node → List ℕ × ℕ × Part M
  part_pair p = (p.0, p.1, part p.2)

  abbrev pub bare_pair : List ℕ × ℕ × Part M → List ℕ × ℕ × Node
  bare_pair p = (p.0, p.1, p.2.node)

  same_pairs : (es : List (List ℕ × ℕ × ((n : Node) × SameNode n))) → map bare_pair (map part_pair (map drop_fact es)) ≡ map drop_fact es
  same_pairs [] = refl
  same_pairs (e ∷ es) = λ i. (e.0, e.1, e.2.1 i) ∷ same_pairs es i

  kind_layer : (y : NodeKind-F ((k : NodeKind) × SameKind k) ((n : Node) × SameNode n))
      → SameKind (roll-NodeKind (map-NodeKind ((k : NodeKind) × SameKind k) ((n : Node) × SameNode n) NodeKind Node (λ e. e.0) (λ e. e.0) y))
  kind_layer (NodeKind-F.Scalar t plain) =
      ap (λ l. l.kind) (fold-roll-NodeKind (Level M) (Part M) at_level at_node (NodeKind-F.Scalar t plain)) ∙ sym (kinds.rolls-Scalar t plain)
  kind_layer (NodeKind-F.List es) =
      ap (λ l. l.kind) (fold-roll-NodeKind (Level M) (Part M) at_level at_node (NodeKind-F.List (map (λ e. e.0) es)))
      ∙ ap kinds.List (same_items es) ∙ sym (kinds.rolls-List (map (λ e. e.0) es))
  kind_layer (NodeKind-F.Map es) =
      ap (λ l. l.kind) (fold-roll-NodeKind (Level M) (Part M) at_level at_node (NodeKind-F.Map (map drop_fact es)))
      ∙ ap kinds.Map (same_pairs es) ∙ sym (kinds.rolls-Map (map drop_fact es))

  node_layer : (y : Node-F ((k : NodeKind) × SameKind k) ((n : Node) × SameNode n))
      → SameNode (roll-Node (map-Node ((k : NodeKind) × SameKind k) ((n : Node) × SameNode n) NodeKind Node (λ e. e.0) (λ e. e.0) y))
  node_layer y =
      ap (λ p. p.node) (fold-roll-Node (Level M) (Part M) at_level at_node (record { line = y.line; kind = y.kind.0 }))
      ∙ (λ i. roll-Node (record { line = y.line; kind = y.kind.1 i }))

  same_node : (n : Node) → SameNode n
  same_node = ind-Node SameKind SameNode
      (λ x y is. subst (λ z. SameKind (roll-NodeKind z)) is (kind_layer y))
      (λ x y is. subst (λ z. SameNode (roll-Node z)) is (node_layer y))

  -- ---- a node's meaning

  abbrev pub beside : Node → Part M
  beside n = record { node = n; means = meaning M step n }

  part_is : (n : Node) → part n ≡ beside n
  part_is n = λ i. record { node = same_node n i; means = meaning M step n }

  abbrev pub beside_pair : List ℕ × ℕ × Node → List ℕ × ℕ × Part M
  beside_pair p = (p.0, p.1, beside p.2)

  -- each node inside, beside its meaning
  abbrev pub inner : Shape → Inner M
  inner (NodeKind-F.Scalar t plain) = NodeKind-F.Scalar t plain
  inner (NodeKind-F.List items) = NodeKind-F.List (map beside items)
  inner (NodeKind-F.Map pairs) = NodeKind-F.Map (map beside_pair pairs)

  besides : (items : List Node) → map part items ≡ map beside items
  besides [] = refl
  besides (n ∷ ns) = λ i. part_is n i ∷ besides ns i

  pairs_besides : (pairs : List (List ℕ × ℕ × Node)) → map part_pair pairs ≡ map beside_pair pairs
  pairs_besides [] = refl
  pairs_besides (p ∷ ps) = λ i. (p.0, p.1, part_is p.2 i) ∷ pairs_besides ps i

  inner_is : (s : Shape) → map-NodeKind NodeKind Node (Level M) (Part M) level part s ≡ inner s
  inner_is (NodeKind-F.Scalar t plain) = refl
  inner_is (NodeKind-F.List items) = ap NodeKind-F.List (besides items)
  inner_is (NodeKind-F.Map pairs) = ap NodeKind-F.Map (pairs_besides pairs)

  pub meaning-out : (n : Node) → meaning M step n ≡ step (line_of n) (inner (shape_of n))
  meaning-out n =
      ap (λ p. p.means) (fold_out-Node (Level M) (Part M) at_level at_node n)
      ∙ ap (λ l. l.at (line_of n)) (fold_out-NodeKind (Level M) (Part M) at_level at_node (out-Node n).kind)
      ∙ ap (step (line_of n)) (inner_is (shape_of n))
