-- What a node is read as by the fields of a configuration.
use Rattle.std.specs.Prelude.{◌+◌, ℕ, Bool, true, false, ◌||◌, ◌&&◌, ◌==◌, if◌then◌else◌, List, [], ◌∷◌, ◌++◌, Result, Ok, Err}
use Rattle.yaml_scan.specs.declared.fault.Fault.{Fault}
use Rattle.yaml_scan.specs.declared.fault.Code.TheVariants.{Kind}
use Rattle.yaml_scan.specs.Answers.{stop}
use Rattle.yaml_tree.specs.declared.node.Node.{Node}
use Rattle.yaml_tree.specs.declared.node.NodeKind.{NodeKind}
use Rattle.yaml_tree.specs.declared.node.NodeKind.TheOpen.{NodeKind-F}
use Rattle.yaml_tree.specs.declared.node.NodeKind.TheViews.{out-Node, out-NodeKind}

-- a node's line, and what it is
abbrev pub line_of : Node → ℕ
line_of n = (out-Node n).line

abbrev pub Shape : Type 0
Shape = NodeKind-F NodeKind Node

abbrev pub shape_of : Node → Shape
shape_of n = out-NodeKind (out-Node n).kind

-- this letter, small or capital
abbrev pub is_letter : ℕ → ℕ → Bool
is_letter small b = b == small || b + 32 == small

-- nothing, `~`, or `null` in any case of its letters
abbrev pub is_null_word : List ℕ → Bool
is_null_word [] = true
is_null_word (a ∷ []) = a == 126
is_null_word (a ∷ b ∷ []) = false
is_null_word (a ∷ b ∷ c ∷ []) = false
is_null_word (a ∷ b ∷ c ∷ d ∷ []) = is_letter 110 a && is_letter 117 b && is_letter 108 c && is_letter 108 d
is_null_word (a ∷ b ∷ c ∷ d ∷ e ∷ rest) = false

abbrev pub null_by : Shape → Bool
null_by (NodeKind-F.Scalar text plain) = plain && is_null_word text
null_by (NodeKind-F.List items) = false
null_by (NodeKind-F.Map pairs) = false

-- Null is a plain scalar.
abbrev pub is_null : Node → Bool
is_null n = null_by (shape_of n)

-- a text: a scalar that is not null, as written
abbrev pub text_by : ℕ → Shape → Result (List ℕ) Fault
text_by line (NodeKind-F.Scalar text plain) = if plain && is_null_word text then stop line Kind else Ok text
text_by line (NodeKind-F.List items) = stop line Kind
text_by line (NodeKind-F.Map pairs) = stop line Kind

abbrev pub text : Node → Result (List ℕ) Fault
text n = text_by (line_of n) (shape_of n)

abbrev pub then_more : Result (List ℕ) Fault → (List ℕ → Result (List (List ℕ)) Fault) → Result (List (List ℕ)) Fault
then_more (Ok t) more = more t
then_more (Err f) more = Err f

-- the texts of a list, behind those that were found
unfoldable pub texts_from : List (List ℕ) → List Node → Result (List (List ℕ)) Fault
texts_from found [] = Ok found
texts_from found (n ∷ ns) = then_more (text n) (λ t. texts_from (found ++ t ∷ []) ns)

abbrev pub texts_by : Node → Shape → Result (List (List ℕ)) Fault
texts_by n (NodeKind-F.Scalar t plain) = then_more (text n) (λ x. Ok (x ∷ []))
texts_by n (NodeKind-F.List items) = texts_from [] items
texts_by n (NodeKind-F.Map pairs) = stop (line_of n) Kind

-- a text, or a list of texts
abbrev pub texts : Node → Result (List (List ℕ)) Fault
texts n = texts_by n (shape_of n)
