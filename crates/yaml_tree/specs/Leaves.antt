-- Scalars and flow as the last piece of a line.
use Rattle.std.specs.Prelude.{◌≡◌, ℕ, Bool, true, false, not, ◌&&◌, ◌==◌, if◌then◌else◌, List, [], ◌∷◌, Result, Ok, Err}
use Rattle.yaml_scan.specs.declared.line.RawLine.{RawLine}
use Rattle.yaml_scan.specs.declared.fault.Code.{Code}
use Rattle.yaml_scan.specs.declared.fault.Code.TheVariants.{Structure, LeftOut as left_out_code, RepeatedKey}
use Rattle.yaml_scan.specs.Answers.{Reading}
use Rattle.yaml_scan.specs.Words.{breaks, nothing_left, without_blanks}
use Rattle.yaml_scan.specs.Plain.{plain}
use Rattle.yaml_scan.specs.Quoted.{quoted}
use Rattle.yaml_scan.specs.Block.{block}
use Rattle.yaml_tree.specs.declared.node.Node.{Node}
use Rattle.yaml_tree.specs.declared.leaf.Wrong.{Wrong}
use Rattle.yaml_tree.specs.declared.leaf.Trouble.{Trouble}
use Rattle.yaml_tree.specs.declared.leaf.Trouble.TheVariants as troubles
use Rattle.yaml_tree.specs.declared.starts.Start.{Start}
use Rattle.yaml_tree.specs.declared.starts.Start.TheVariants as starts
use Rattle.yaml_tree.specs.Nodes.{scalar_node}
use Rattle.yaml_tree.specs.Starts.{start}
use Rattle.yaml_tree.specs.Flow.{Ended, flow}

-- what a scalar or flow gives: a node, how many nodes stand in one another in it, and the lines behind it
abbrev pub Leafs : Type 0
Leafs = Result ((Node × ℕ) × List RawLine) Wrong

-- What a method returned and left is what reading gives, unless memory ran out.
abbrev pub ReadsLeaf : Leafs → Result (Node × ℕ) Trouble → List RawLine → Type 0
ReadsLeaf meant (Ok x) behind = meant ≡ Ok (x, behind)
ReadsLeaf meant (Err troubles.Memory) behind = Unit {0}
ReadsLeaf meant (Err (troubles.Bad w)) behind = meant ≡ Err w

abbrev pub wrong : {A : Type 0} → ℕ → Code → Bool → Result A Wrong
wrong line code out = Err (record { fault = record { line = line; code = code }; left_out = out })

abbrev pub scalar : ℕ → Bool → Reading (List ℕ) → Leafs
scalar n is_plain (Ok x) = Ok ((scalar_node n x.0 is_plain, 1), x.1)
scalar n is_plain (Err f) = Err (record { fault = f; left_out = false })

abbrev pub colon_behind : List ℕ → Bool
colon_behind [] = false
colon_behind (b ∷ rest) = b == 58 && breaks rest

-- Where a key may stand, flow with a colon behind it is a complex key.
abbrev pub flow_by : Bool → ℕ → Result Ended Code → List RawLine → Leafs
flow_by fresh n (Err code) ls = wrong n code false
flow_by fresh n (Ok f) ls =
    if fresh && colon_behind (without_blanks f.rest) then wrong n left_out_code true else
    (if not (nothing_left false f.rest) then wrong n Structure false else
    (if f.repeated then wrong n RepeatedKey false else Ok ((f.node, f.height), ls)))

abbrev pub leaf_by : Start → ℕ → Bool → ℕ → ℕ → List ℕ → List RawLine → Leafs
leaf_by starts.InQuotes floor fresh n b rest ls = scalar n false (quoted floor n b rest ls)
leaf_by starts.InBrackets floor fresh n b rest ls = flow_by fresh n (flow n (b == 123) rest) ls
leaf_by starts.InLines floor fresh n b rest ls = scalar n false (block floor n (b == 62) rest ls)
leaf_by starts.LeftOut floor fresh n b rest ls = wrong n left_out_code true
leaf_by starts.Refused floor fresh n b rest ls = wrong n Structure false
leaf_by starts.Plain floor fresh n b rest ls = scalar n true (plain floor n (b ∷ rest) ls)

abbrev pub leaf_of : ℕ → Bool → ℕ → List ℕ → List RawLine → Leafs
leaf_of floor fresh n [] ls = wrong n Structure false
leaf_of floor fresh n (b ∷ rest) ls = leaf_by (start b rest) floor fresh n b rest ls
