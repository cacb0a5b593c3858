-- Nodes, and the pairs of a map.
use Rattle.std.specs.Prelude.{ℕ, Bool, true, List, [], map}
use Rattle.std.specs.List.{list_any}
use Rattle.std.specs.Str.{bytes_eq}
use Rattle.std.specs.Str.Lossy.{utf8_lossy}
use Rattle.yaml_tree.specs.declared.node.Node.{Node}
use Rattle.yaml_tree.specs.declared.node.NodeKind.TheVariants.{Scalar, List as ListNode, Map as MapNode}

-- a key as it stands, its line, and the value
abbrev pub Pair : Type 0
Pair = List ℕ × ℕ × Node

abbrev pub null : ℕ → Node
null line = record { line = line; kind = Scalar [] true }

-- The text of these bytes: they themselves where they are UTF-8. Where they are not, the text as a whole is refused.
abbrev pub word : List ℕ → List ℕ
word bytes = utf8_lossy bytes

abbrev pub scalar_node : ℕ → List ℕ → Bool → Node
scalar_node line bytes plain = record { line = line; kind = Scalar (word bytes) plain }

abbrev pub listed : ℕ → List Node → Node
listed line items = record { line = line; kind = ListNode items }

-- the same with the key's text
abbrev pub worded : Pair → Pair
worded p = (word p.0, p.1, p.2)

abbrev pub mapped : ℕ → List Pair → Node
mapped line pairs = record { line = line; kind = MapNode (map worded pairs) }

-- Keys are compared as they stand.
abbrev pub has_key : List Pair → List ℕ → Bool
has_key pairs key = list_any (λ pair. bytes_eq pair.0 key) pairs
