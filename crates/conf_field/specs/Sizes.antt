-- Trees whose maps have distinct keys, and which are so small that every list that is read of them is short.
use Rattle.std.specs.Prelude.{ℕ, ◌+◌, ◌<◌, Bool, true, ◌&&◌, IsTrue, List, [], ◌∷◌, length, map}
use Rattle.std.specs.List.{list_all}
use Rattle.ha_config.specs.ValueFacts.{all_distinct}
use Rattle.yaml_tree.specs.declared.node.Node.{Node}
use Rattle.yaml_tree.specs.declared.node.NodeKind.TheOpen.{NodeKind-F}
use Rattle.yaml_tree.specs.declared.node.NodeKind.TheFolds.{fold-Node}

abbrev pub total : {X : Type 0} → (X → ℕ) → List X → ℕ
total f [] = 0
total f (x ∷ xs) = f x + total f xs

-- a scalar counts its bytes, a key its own, and each node and key one more
abbrev pub size_step : NodeKind-F ℕ ℕ → ℕ
size_step (NodeKind-F.Scalar t plain) = 1 + length t
size_step (NodeKind-F.List ns) = 1 + total (λ n. n) ns
size_step (NodeKind-F.Map ps) = 1 + total (λ p. 1 + length p.0 + p.2) ps

abbrev pub size : Node → ℕ
size = fold-Node ℕ ℕ size_step (λ n. n.kind)

abbrev pub distinct_step : NodeKind-F Bool Bool → Bool
distinct_step (NodeKind-F.Scalar t plain) = true
distinct_step (NodeKind-F.List bs) = list_all (λ b. b) bs
distinct_step (NodeKind-F.Map ps) = all_distinct (map (λ p. p.0) ps) && list_all (λ p. p.2) ps

-- no key stands twice in a map, at any depth
abbrev pub has_distinct_keys : Node → Bool
has_distinct_keys = fold-Node Bool Bool distinct_step (λ n. n.kind)

-- Two lists that are joined are still short.
pub record IsSoundTree (n : Node) : Type 0 where
  pub distinct : IsTrue (has_distinct_keys n)
  pub small : size n < 2_147_483_648
