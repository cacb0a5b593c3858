-- The size of a node by what it is, and of the rest of a list one item further.
use Rattle.std.proofs.Common.{◌≡◌, ◌∙◌, ap, sym, ℕ, ◌+◌, ◌<◌, List, ◌∷◌, length, drop, get_or, Option, Some, None, arith}
use Rattle.std.specs.Prelude.{IfSome}
use Rattle.std.proofs.lemmas.List.{drop_more}
use Rattle.yaml_tree.specs.declared.node.Node.{Node}
use Rattle.yaml_tree.specs.declared.node.NodeKind.TheOpen.{NodeKind-F}
use Rattle.yaml_tree.specs.declared.node.NodeKind.TheVariants as kinds
use Rattle.yaml_tree.specs.declared.node.NodeKind.TheViews.{out-Node, out-NodeKind}
use Rattle.conf_field.specs.Fields.{Pair}
use Rattle.conf_field.specs.Sizes.{size, total}
use Rattle.conf_laws.proofs.Down.{size-out, size_by}
use Rattle.conf_auto.specs.Sizes.{pair_size}

pub scalar_size : (n : Node) (t : List ℕ) (plain : _) → (out-Node n).kind ≡ kinds.Scalar t plain → size n ≡ 1 + length t
scalar_size n t plain h = let e : out-NodeKind (kinds.Scalar t plain) ≡ NodeKind-F.Scalar t plain = simp kinds.outs-Scalar in size-out n ∙ ap size_by (ap out-NodeKind h ∙ e)

pub list_size : (n : Node) (items : List Node) → (out-Node n).kind ≡ kinds.List items → size n ≡ 1 + total size items
list_size n items h = let e : out-NodeKind (kinds.List items) ≡ NodeKind-F.List items = simp kinds.outs-List in size-out n ∙ ap size_by (ap out-NodeKind h ∙ e)

pub map_size : (n : Node) (pairs : List Pair) → (out-Node n).kind ≡ kinds.Map pairs → size n ≡ 1 + total pair_size pairs
map_size n pairs h = let e : out-NodeKind (kinds.Map pairs) ≡ NodeKind-F.Map pairs = simp kinds.outs-Map in size-out n ∙ ap size_by (ap out-NodeKind h ∙ e)

pub total_more : {X : Type 0} (f : X → ℕ) (xs : List X) (i : ℕ) (x : X) → i < length xs → get_or xs i x ≡ x → total f (drop i xs) ≡ f x + total f (drop (i + 1) xs)
total_more f xs i x within here = ap (total f) (drop_more xs i x within ∙ ap (λ v. v ∷ drop (i + 1) xs) here)

-- behind a node whose lists are counted, one less is left
pub left_behind : (o : Option ℕ) (n inner whole left : ℕ) → n ≡ 1 + whole → inner + (1 + 0) ≡ left → IfSome o (λ x. x + whole ≡ inner) → IfSome o (λ x. x + n ≡ left)
left_behind None n inner whole left e f h = tt
left_behind (Some x) n inner whole left e f h = omega arith

pub list_left : (o : Option ℕ) (n : Node) (items more : List Node) (inner left : ℕ) → (out-Node n).kind ≡ kinds.List items → more ≡ items → inner + (1 + 0) ≡ left
    → IfSome o (λ x. x + total size more ≡ inner) → IfSome o (λ x. x + size n ≡ left)
list_left o n items more inner left k same f h = left_behind o (size n) inner (total size more) left (list_size n items k ∙ ap (λ xs. 1 + total size xs) (sym same)) f h

pub map_left : (o : Option ℕ) (n : Node) (pairs more : List Pair) (inner left : ℕ) → (out-Node n).kind ≡ kinds.Map pairs → more ≡ pairs → inner + (1 + 0) ≡ left
    → IfSome o (λ x. x + total pair_size more ≡ inner) → IfSome o (λ x. x + size n ≡ left)
map_left o n pairs more inner left k same f h = left_behind o (size n) inner (total pair_size more) left (map_size n pairs k ∙ ap (λ xs. 1 + total pair_size xs) (sym same)) f h
