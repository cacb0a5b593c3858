-- Nodes as lists of entity ids.
use Rattle.std.specs.Prelude.{ℕ, ◌==◌, if◌then◌else◌, List, [], ◌∷◌, ◌++◌, Option, Some, None, Result, Ok, Err}
use Rattle.ha_value.specs.declared.value.EntityId.{EntityId as Id}
use Rattle.ha_value.specs.Ids.{read_entity}
use Rattle.yaml_scan.specs.declared.fault.Fault.{Fault}
use Rattle.yaml_scan.specs.declared.fault.Code.TheVariants.{EntityId}
use Rattle.yaml_scan.specs.Answers.{stop}
use Rattle.yaml_scan.specs.Words.{trimmed, without_blanks}
use Rattle.yaml_tree.specs.declared.node.Node.{Node}
use Rattle.yaml_tree.specs.declared.node.NodeKind.TheOpen.{NodeKind-F}
use Rattle.yaml_tree.specs.Readers.{Shape, line_of, shape_of, text}

abbrev pub Ids : Type 0
Ids = Result (List Id) Fault

abbrev pub then_ids : Ids → (List Id → Ids) → Ids
then_ids (Ok ids) more = more ids
then_ids (Err f) more = Err f

abbrev pub with_id : ℕ → List Id → Option Id → Ids
with_id line found (Some id) = Ok (found ++ id ∷ [])
with_id line found None = stop line EntityId

-- one id more; the blanks at its two ends are dropped
abbrev pub part_id : ℕ → List Id → List ℕ → Ids
part_id line found part = with_id line found (read_entity (trimmed (without_blanks part)))

-- the ids of a text that is split at commas, behind those that were found; these bytes of the next one were read
unfoldable pub split_from : ℕ → List Id → List ℕ → List ℕ → Ids
split_from line found part [] = part_id line found part
split_from line found part (b ∷ rest) =
    if b == 44 then then_ids (part_id line found part) (λ ids. split_from line ids [] rest) else split_from line found (part ++ b ∷ []) rest

abbrev pub split_by : ℕ → List Id → Result (List ℕ) Fault → Ids
split_by line found (Ok t) = split_from line found [] t
split_by line found (Err f) = stop line EntityId

-- the ids of a node that is a text
abbrev pub text_ids : List Id → Node → Ids
text_ids found n = split_by (line_of n) found (text n)

unfoldable pub items_ids : List Id → List Node → Ids
items_ids found [] = Ok found
items_ids found (n ∷ ns) = then_ids (text_ids found n) (λ ids. items_ids ids ns)

-- at least one
abbrev pub some_ids : ℕ → Ids → Ids
some_ids line (Ok []) = stop line EntityId
some_ids line (Ok (id ∷ ids)) = Ok (id ∷ ids)
some_ids line (Err f) = Err f

abbrev pub ids_by : Node → Shape → Ids
ids_by n (NodeKind-F.Scalar t plain) = text_ids [] n
ids_by n (NodeKind-F.List items) = some_ids (line_of n) (items_ids [] items)
ids_by n (NodeKind-F.Map pairs) = stop (line_of n) EntityId

-- a text or a list of texts, each split at commas, with at least one id
abbrev pub entities : Node → Ids
entities n = ids_by n (shape_of n)
