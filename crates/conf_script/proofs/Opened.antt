-- What a node is, by what the nodes inside are.
use Rattle.std.proofs.Common.{◌≡◌, ◌∙◌, ap, refl, sym, ℕ, Bool, true, false, ◌&&◌, if◌then◌else◌, List, [], ◌∷◌, map, length, get_or, ◌<◌, Option, Some, None, Ok}
use Rattle.std.specs.Prelude.{option_map, slice_get}
use Rattle.ha_config.specs.declared.config.Action.{Action}
use Rattle.yaml_scan.specs.declared.fault.Code.TheVariants as code
use Rattle.yaml_tree.specs.declared.node.Node.{Node}
use Rattle.yaml_tree.specs.declared.node.NodeKind.TheOpen.{NodeKind-F}
use Rattle.yaml_tree.specs.declared.node.NodeKind.TheVariants as kinds
use Rattle.yaml_tree.specs.declared.node.NodeKind.TheViews.{out-Node, out-NodeKind}
use Rattle.yaml_tree.specs.Readers.{Shape, line_of, shape_of, is_null_word}
use Rattle.conf_field.specs.declared.table.Row.{Row}
use Rattle.conf_field.specs.Readings.{Read, alone, bad, each, kept, made}
use Rattle.conf_field.specs.Fields.{Pair, field, names, place}
use Rattle.conf_field.proofs.Finds.{at_index, find_changed}
use Rattle.conf_field.proofs.Made.{kept_changed}
use Rattle.conf_field.proofs.PartLaws.{beside, beside_pair, inner, meaning-out}
use Rattle.conf_field.proofs.TreeLaws.{each_map}
use Rattle.conf_script.specs.Actions as a
use Rattle.conf_script.specs.Actions.{Means, means_step}

abbrev part_pair : Pair → a.PartPair
part_pair = beside_pair Means means_step

same_nodes : (pairs : List Pair) → a.nodes (map part_pair pairs) ≡ pairs
same_nodes [] = refl
same_nodes (p ∷ ps) = λ i. p ∷ same_nodes ps i

by_field : (o : Option Pair) → option_map a.found (option_map part_pair o) ≡ option_map a.found_at o
by_field None = refl
by_field (Some p) = refl

same_inside : (pairs : List Pair) (r : Row) → a.inside_parts (map part_pair pairs) r ≡ a.inside pairs r
same_inside pairs r = ap (option_map a.found) (find_changed (λ p. names r p.0) part_pair pairs) ∙ by_field (field r pairs)

-- a role of a field that is there, at its place
pub in_field : {A : Type 0} (missing : Read A) (read : ℕ → Means → Read A) (pairs : List Pair) (r : Row) (i : ℕ) (x : Pair)
    → field r pairs ≡ slice_get pairs i → i < length pairs → get_or pairs i x ≡ x
    → a.or_missing missing read (a.inside pairs r) ≡ read (place x) (a.means x.2)
in_field missing read pairs r i x value within here = ap (λ o. a.or_missing missing read (option_map a.found_at o)) (value ∙ at_index pairs i x within here)

module _ (n : Node) where
  abbrev line : ℕ
  line = line_of n

  abbrev inside_of : Shape → a.Means
  inside_of s = means_step line (inner Means means_step s)

  opened : a.means n ≡ inside_of (shape_of n)
  opened = meaning-out Means means_step n

  abbrev own : Read (Option Action)
  own = a.one_action n

  -- ---- by the node's kind

  scalar_shape : (t : List ℕ) (plain : Bool) → (out-Node n).kind ≡ kinds.Scalar t plain → shape_of n ≡ NodeKind-F.Scalar t plain
  scalar_shape t plain h = let e : out-NodeKind (kinds.Scalar t plain) ≡ NodeKind-F.Scalar t plain = simp kinds.outs-Scalar in ap out-NodeKind h ∙ e

  list_shape : (items : List Node) → (out-Node n).kind ≡ kinds.List items → shape_of n ≡ NodeKind-F.List items
  list_shape items h = let e : out-NodeKind (kinds.List items) ≡ NodeKind-F.List items = simp kinds.outs-List in ap out-NodeKind h ∙ e

  map_shape : (pairs : List Pair) → (out-Node n).kind ≡ kinds.Map pairs → shape_of n ≡ NodeKind-F.Map pairs
  map_shape pairs h = let e : out-NodeKind (kinds.Map pairs) ≡ NodeKind-F.Map pairs = simp kinds.outs-Map in ap out-NodeKind h ∙ e

  -- a scalar's meaning, a list's and a map's
  at_scalar : (t : List ℕ) (plain : Bool) → (out-Node n).kind ≡ kinds.Scalar t plain → a.means n ≡ inside_of (NodeKind-F.Scalar t plain)
  at_scalar t plain h = opened ∙ ap inside_of (scalar_shape t plain h)

  at_list : (items : List Node) → (out-Node n).kind ≡ kinds.List items → a.means n ≡ inside_of (NodeKind-F.List items)
  at_list items h = opened ∙ ap inside_of (list_shape items h)

  at_map : (pairs : List Pair) → (out-Node n).kind ≡ kinds.Map pairs → a.means n ≡ inside_of (NodeKind-F.Map pairs)
  at_map pairs h = opened ∙ ap inside_of (map_shape pairs h)

  -- ---- one action

  pub one_scalar : (t more : List ℕ) (plain : Bool) → (out-Node n).kind ≡ kinds.Scalar t plain → more ≡ t → a.one_action n ≡ a.of_scalar line more plain
  one_scalar t more plain h e = ap (λ m. m.one) (at_scalar t plain h) ∙ ap (λ x. a.of_scalar line x plain) (sym e)

  pub one_list : (items : List Node) → (out-Node n).kind ≡ kinds.List items → a.one_action n ≡ bad line code.Kind
  one_list items h = ap (λ m. m.one) (at_list items h)

  same_map : (pairs : List Pair) → a.of_map line (a.nodes (map part_pair pairs)) (a.inside_parts (map part_pair pairs)) ≡ a.action_map line pairs
  same_map pairs = λ i. a.of_map line (same_nodes pairs i) (λ r. same_inside pairs r i)

  pub one_map : (pairs more : List Pair) → (out-Node n).kind ≡ kinds.Map pairs → more ≡ pairs → a.one_action n ≡ a.action_map line more
  one_map pairs more h e = ap (λ m. m.one) (at_map pairs h) ∙ same_map pairs ∙ ap (a.action_map line) (sym e)

  -- ---- lists of actions

  pub all_null : (t : List ℕ) (plain : Bool) → (out-Node n).kind ≡ kinds.Scalar t plain → (plain && is_null_word t) ≡ true → a.actions n ≡ Ok []
  all_null t plain h null = ap (λ m. m.all) (at_scalar t plain h) ∙ ap (λ b. if b then Ok [] else alone (a.of_scalar line t plain)) null

  pub all_scalar : (t : List ℕ) (plain : Bool) → (out-Node n).kind ≡ kinds.Scalar t plain → (plain && is_null_word t) ≡ false → a.actions n ≡ alone own
  all_scalar t plain h some =
      ap (λ m. m.all) (at_scalar t plain h) ∙ ap (λ b. if b then Ok [] else alone (a.of_scalar line t plain)) some ∙ ap alone (sym (one_scalar t t plain h refl))

  pub all_list : (items more : List Node) → (out-Node n).kind ≡ kinds.List items → more ≡ items → a.actions n ≡ kept a.one_action more
  all_list items more h e =
      ap (λ m. m.all) (at_list items h) ∙ kept_changed (λ x. x.means.one) (beside Means means_step) (Ok []) items ∙ ap (kept a.one_action) (sym e)

  pub all_map : (pairs : List Pair) → (out-Node n).kind ≡ kinds.Map pairs → a.actions n ≡ alone own
  all_map pairs h = ap (λ m. m.all) (at_map pairs h) ∙ ap alone (sym (ap (λ m. m.one) (at_map pairs h)))

  -- ---- branches

  pub branch_scalar : (t : List ℕ) (plain : Bool) → (out-Node n).kind ≡ kinds.Scalar t plain → a.one_branch n ≡ made a.branch_of own
  branch_scalar t plain h = ap (λ m. m.branch) (at_scalar t plain h) ∙ ap (made a.branch_of) (sym (ap (λ m. m.one) (at_scalar t plain h)))

  pub branch_list : (items : List Node) → (out-Node n).kind ≡ kinds.List items → a.one_branch n ≡ made a.some_branch (a.actions n)
  branch_list items h = ap (λ m. m.branch) (at_list items h) ∙ ap (made a.some_branch) (sym (ap (λ m. m.all) (at_list items h)))

  pub branch_map : (pairs : List Pair) → (out-Node n).kind ≡ kinds.Map pairs → a.one_branch n ≡ made a.branch_of own
  branch_map pairs h = ap (λ m. m.branch) (at_map pairs h) ∙ ap (made a.branch_of) (sym (ap (λ m. m.one) (at_map pairs h)))

  pub branches_null : (t : List ℕ) (plain : Bool) → (out-Node n).kind ≡ kinds.Scalar t plain → (plain && is_null_word t) ≡ true → a.all_branches n ≡ Ok []
  branches_null t plain h null =
      ap (λ m. m.branches) (at_scalar t plain h) ∙ ap (λ b. if b then Ok [] else alone (made a.branch_of (a.of_scalar line t plain))) null

  pub branches_scalar : (t : List ℕ) (plain : Bool) → (out-Node n).kind ≡ kinds.Scalar t plain → (plain && is_null_word t) ≡ false → a.all_branches n ≡ alone (a.one_branch n)
  branches_scalar t plain h some =
      ap (λ m. m.branches) (at_scalar t plain h) ∙ ap (λ b. if b then Ok [] else alone (made a.branch_of (a.of_scalar line t plain))) some
      ∙ ap alone (sym (ap (λ m. m.branch) (at_scalar t plain h)))

  pub branches_list : (items more : List Node) → (out-Node n).kind ≡ kinds.List items → more ≡ items → a.all_branches n ≡ kept a.one_branch more
  branches_list items more h e =
      ap (λ m. m.branches) (at_list items h) ∙ kept_changed (λ x. x.means.branch) (beside Means means_step) (Ok []) items ∙ ap (kept a.one_branch) (sym e)

  pub branches_map : (pairs : List Pair) → (out-Node n).kind ≡ kinds.Map pairs → a.all_branches n ≡ alone (a.one_branch n)
  branches_map pairs h = ap (λ m. m.branches) (at_map pairs h) ∙ ap alone (sym (ap (λ m. m.branch) (at_map pairs h)))

  -- ---- options and turns

  pub option_scalar : (t : List ℕ) (plain : Bool) → (out-Node n).kind ≡ kinds.Scalar t plain → a.option n ≡ bad line code.Kind
  option_scalar t plain h = ap (λ m. m.chosen) (at_scalar t plain h)

  pub option_list : (items : List Node) → (out-Node n).kind ≡ kinds.List items → a.option n ≡ bad line code.Kind
  option_list items h = ap (λ m. m.chosen) (at_list items h)

  pub option_map_is : (pairs more : List Pair) → (out-Node n).kind ≡ kinds.Map pairs → more ≡ pairs → a.option n ≡ a.option_of line more (a.inside more)
  option_map_is pairs more h e =
      ap (λ m. m.chosen) (at_map pairs h) ∙ (λ i. a.option_of line (same_nodes pairs i) (λ r. same_inside pairs r i)) ∙ ap (λ ps. a.option_of line ps (a.inside ps)) (sym e)

  module _ (at : ℕ) where
    abbrev all_options : Read (List a.Chosen)
    all_options = (a.means n).choices at

    pub options_scalar : (t : List ℕ) (plain : Bool) → (out-Node n).kind ≡ kinds.Scalar t plain → all_options ≡ bad at code.Kind
    options_scalar t plain h = ap (λ m. m.choices at) (at_scalar t plain h)

    pub options_list : (items more : List Node) → (out-Node n).kind ≡ kinds.List items → more ≡ items → all_options ≡ each a.option more
    options_list items more h e =
        ap (λ m. m.choices at) (at_list items h) ∙ each_map (λ x. x.means.chosen) (beside Means means_step) (Ok []) items ∙ ap (each a.option) (sym e)

    pub options_map : (pairs : List Pair) → (out-Node n).kind ≡ kinds.Map pairs → all_options ≡ made (λ o. o ∷ []) (a.option n)
    options_map pairs h = ap (λ m. m.choices at) (at_map pairs h) ∙ ap (made (λ o. o ∷ [])) (sym (ap (λ m. m.chosen) (at_map pairs h)))

    pub turns_scalar : (t : List ℕ) (plain : Bool) → (out-Node n).kind ≡ kinds.Scalar t plain → (a.means n).turns at ≡ bad at code.Kind
    turns_scalar t plain h = ap (λ m. m.turns at) (at_scalar t plain h)

    pub turns_list : (items : List Node) → (out-Node n).kind ≡ kinds.List items → (a.means n).turns at ≡ bad at code.Kind
    turns_list items h = ap (λ m. m.turns at) (at_list items h)

    pub turns_map : (pairs more : List Pair) → (out-Node n).kind ≡ kinds.Map pairs → more ≡ pairs → (a.means n).turns at ≡ a.turns_in line more (a.inside more)
    turns_map pairs more h e =
        ap (λ m. m.turns at) (at_map pairs h) ∙ (λ i. a.turns_in line (same_nodes pairs i) (λ r. same_inside pairs r i)) ∙ ap (λ ps. a.turns_in line ps (a.inside ps)) (sym e)
