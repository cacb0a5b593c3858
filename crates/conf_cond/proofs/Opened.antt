-- What a node is, by what the nodes inside are.
use Rattle.std.proofs.Common.{◌≡◌, ◌∙◌, ap, refl, sym, ℕ, Bool, true, false, ◌&&◌, if◌then◌else◌, List, [], ◌∷◌, map, Option, Some, None, Ok}
use Rattle.std.specs.Prelude.{option_map}
use Rattle.ha_config.specs.declared.config.Condition.{Condition}
use Rattle.yaml_tree.specs.declared.node.Node.{Node}
use Rattle.yaml_tree.specs.declared.node.NodeKind.TheOpen.{NodeKind-F}
use Rattle.yaml_tree.specs.declared.node.NodeKind.TheViews.{out-Node, out-NodeKind}
use Rattle.yaml_tree.specs.declared.node.NodeKind.TheVariants as kinds
use Rattle.yaml_tree.specs.Readers.{Shape, line_of, shape_of, is_null_word}
use Rattle.yaml_scan.specs.declared.fault.Code.TheVariants as code
use Rattle.conf_field.specs.declared.table.Row.{Row}
use Rattle.conf_field.specs.Readings.{Read, alone, bad, kept}
use Rattle.conf_field.specs.Fields.{Pair, field, names}
use Rattle.conf_field.proofs.Finds.{find_changed}
use Rattle.conf_field.proofs.Made.{kept_changed}
use Rattle.conf_field.proofs.PartLaws.{beside, beside_pair, inner, meaning-out}
use Rattle.conf_cond.specs.Conditions.{Means, PartPair, all_at, all_by, all_of, condition, condition_map, inside, inside_parts, means, means_all, means_one, means_step, nodes, of_map, of_scalar, one_by, read_conditions}

abbrev part_pair : Pair → PartPair
part_pair = beside_pair Means means_step

same_nodes : (pairs : List Pair) → nodes (map part_pair pairs) ≡ pairs
same_nodes [] = refl
same_nodes (p ∷ ps) = λ i. p ∷ same_nodes ps i

by_field : (line : ℕ) (o : Option Pair) → all_of line (option_map (λ p. p.2) (option_map part_pair o)) ≡ all_at line o
by_field line None = refl
by_field line (Some p) = refl

same_inside : (line : ℕ) (pairs : List Pair) (r : Row) → inside_parts line (map part_pair pairs) r ≡ inside line pairs r
same_inside line pairs r =
    ap (λ o. all_of line (option_map (λ p. p.2) o)) (find_changed (λ p. names r p.0) part_pair pairs) ∙ by_field line (field r pairs)

one_shape : (action : Bool) (line : ℕ) (s : Shape) → means_one line (inner Means means_step s) action ≡ one_by action line s
one_shape action line (NodeKind-F.Scalar t plain) = refl
one_shape action line (NodeKind-F.List items) = refl
one_shape action line (NodeKind-F.Map pairs) = λ i. of_map action line (same_nodes pairs i) (λ r. same_inside line pairs r i)

pub one-out : (action : Bool) (n : Node) → condition action n ≡ one_by action (line_of n) (shape_of n)
one-out action n = ap (λ m. m.one action) (meaning-out Means means_step n) ∙ one_shape action (line_of n) (shape_of n)

all_shape : (one : Read (Option Condition)) (s : Shape) → means_all one (inner Means means_step s) ≡ all_by one s
all_shape one (NodeKind-F.Scalar t plain) = refl
all_shape one (NodeKind-F.List items) = kept_changed (λ x. x.means.one false) (beside Means means_step) (Ok []) items
all_shape one (NodeKind-F.Map pairs) = refl

pub all-out : (n : Node) → read_conditions n ≡ all_by (condition false n) (shape_of n)
all-out n =
    ap (λ m. m.all) (meaning-out Means means_step n)
    ∙ all_shape (means_one (line_of n) (inner Means means_step (shape_of n)) false) (shape_of n)
    ∙ ap (λ one. all_by one (shape_of n)) (sym (ap (λ m. m.one false) (meaning-out Means means_step n)))

-- ---- by the kind of the node

module _ (n : Node) where
  abbrev line : ℕ
  line = line_of n

  scalar_shape : (t : List ℕ) (plain : Bool) → (out-Node n).kind ≡ kinds.Scalar t plain → shape_of n ≡ NodeKind-F.Scalar t plain
  scalar_shape t plain h = let e : out-NodeKind (kinds.Scalar t plain) ≡ NodeKind-F.Scalar t plain = simp kinds.outs-Scalar in ap out-NodeKind h ∙ e

  list_shape : (items : List Node) → (out-Node n).kind ≡ kinds.List items → shape_of n ≡ NodeKind-F.List items
  list_shape items h = let e : out-NodeKind (kinds.List items) ≡ NodeKind-F.List items = simp kinds.outs-List in ap out-NodeKind h ∙ e

  map_shape : (pairs : List Pair) → (out-Node n).kind ≡ kinds.Map pairs → shape_of n ≡ NodeKind-F.Map pairs
  map_shape pairs h = let e : out-NodeKind (kinds.Map pairs) ≡ NodeKind-F.Map pairs = simp kinds.outs-Map in ap out-NodeKind h ∙ e

  pub one_scalar : (action : Bool) (t more : List ℕ) (plain : Bool) → (out-Node n).kind ≡ kinds.Scalar t plain → more ≡ t → condition action n ≡ of_scalar line more plain
  one_scalar action t more plain h e = one-out action n ∙ ap (one_by action line) (scalar_shape t plain h) ∙ ap (λ x. of_scalar line x plain) (sym e)

  pub one_list : (action : Bool) (items : List Node) → (out-Node n).kind ≡ kinds.List items → condition action n ≡ bad line code.Kind
  one_list action items h = one-out action n ∙ ap (one_by action line) (list_shape items h)

  pub one_map : (action : Bool) (pairs more : List Pair) → (out-Node n).kind ≡ kinds.Map pairs → more ≡ pairs → condition action n ≡ condition_map action line more
  one_map action pairs more h e = one-out action n ∙ ap (one_by action line) (map_shape pairs h) ∙ ap (condition_map action line) (sym e)

  abbrev alone_one : Read (List Condition)
  alone_one = alone (condition false n)

  pub all_null : (t : List ℕ) (plain : Bool) → (out-Node n).kind ≡ kinds.Scalar t plain → (plain && is_null_word t) ≡ true → read_conditions n ≡ Ok []
  all_null t plain h yes-null = all-out n ∙ ap (all_by (condition false n)) (scalar_shape t plain h) ∙ ap (λ b. if b then Ok [] else alone_one) yes-null

  pub all_scalar : (t : List ℕ) (plain : Bool) → (out-Node n).kind ≡ kinds.Scalar t plain → (plain && is_null_word t) ≡ false → read_conditions n ≡ alone_one
  all_scalar t plain h no-null = all-out n ∙ ap (all_by (condition false n)) (scalar_shape t plain h) ∙ ap (λ b. if b then Ok [] else alone_one) no-null

  pub all_list : (items more : List Node) → (out-Node n).kind ≡ kinds.List items → more ≡ items → read_conditions n ≡ kept (condition false) more
  all_list items more h e = all-out n ∙ ap (all_by (condition false n)) (list_shape items h) ∙ ap (kept (condition false)) (sym e)

  pub all_map : (pairs : List Pair) → (out-Node n).kind ≡ kinds.Map pairs → read_conditions n ≡ alone_one
  all_map pairs h = all-out n ∙ ap (all_by (condition false n)) (map_shape pairs h)
