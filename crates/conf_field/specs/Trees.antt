-- Values of any shape: scalars, lists of values, and maps from texts to values.
use Rattle.std.specs.Prelude.{ℕ, ◌&&◌, Bool, if◌then◌else◌, List, [], Ok}
use Rattle.yaml_scan.specs.declared.fault.Code.TheVariants as code
use Rattle.yaml_tree.specs.declared.node.Node.{Node}
use Rattle.yaml_tree.specs.declared.node.NodeKind.TheOpen.{NodeKind-F}
use Rattle.yaml_tree.specs.declared.node.NodeKind.TheFolds.{fold-Node}
use Rattle.yaml_tree.specs.Readers.{Shape, shape_of, is_null_word}
use Rattle.conf_field.specs.Readings.{Read, bad, made, each}
use Rattle.conf_field.specs.Fields.{Meaning, Pair}

-- what a scalar on a line is, by its text and whether it is plain
abbrev pub Leaf : Type 0 → Type 0
Leaf A = ℕ → List ℕ → Bool → Read A

abbrev pub Fields : Type 0 → Type 0
Fields A = List (List ℕ × A)

-- one level, with each value inside already read
abbrev pub tree_step : {A : Type 0} → Leaf A → (List A → A) → (Fields A → A) → NodeKind-F (ℕ → Read A) (Read A) → ℕ → Read A
tree_step leaf listed mapped (NodeKind-F.Scalar t plain) line = leaf line t plain
tree_step leaf listed mapped (NodeKind-F.List items) line = made listed (each (λ r. r) items)
tree_step leaf listed mapped (NodeKind-F.Map pairs) line = made mapped (each (λ p. made (λ v. (p.0, v)) p.2) pairs)

abbrev pub tree : {A : Type 0} → Leaf A → (List A → A) → (Fields A → A) → Node → Read A
tree {A} leaf listed mapped = fold-Node (ℕ → Read A) (Read A) (tree_step leaf listed mapped) (λ n. n.kind n.line)

-- the keys of a map with what their values are
abbrev pub fields_of : {A : Type 0} → (Node → Read A) → List Pair → Read (Fields A)
fields_of read pairs = each (λ p. made (λ v. (p.0, v)) (read p.2)) pairs

abbrev pub data_by : {A : Type 0} → (Node → Read A) → ℕ → Shape → Read (Fields A)
data_by read line (NodeKind-F.Scalar t plain) = if plain && is_null_word t then Ok [] else bad line code.Kind
data_by read line (NodeKind-F.List items) = bad line code.Kind
data_by read line (NodeKind-F.Map pairs) = fields_of read pairs

-- a map, or null for none
abbrev pub data_of : {A : Type 0} → (Node → Read A) → Meaning (Fields A)
data_of read line n = data_by read line (shape_of n)
