-- Scalars and flow, read and in their grammar.
use Rattle.std.proofs.Common.{◌≡◌, ℕ, ◌≤◌, Bool, true, false, ◌&&◌, inl, inr, List, [], ◌∷◌, Result, Ok, Err, refl, sym, ap, subst, ◌∙◌}
use Rattle.std.specs.Prelude.{◌==◌}
use Rattle.std.proofs.lemmas.Bool.{eqb-true, and_right}
use Rattle.yaml_scan.specs.declared.line.RawLine.{RawLine}
use Rattle.yaml_scan.specs.declared.fault.Code.{Code}
use Rattle.yaml_scan.specs.declared.fault.Code.TheVariants.{Structure, LeftOut as left_out_code, RepeatedKey}
use Rattle.yaml_scan.specs.Answers.{Reading}
use Rattle.yaml_scan.specs.Words.{is_blank, breaks, nothing_left, without_blanks}
use Rattle.yaml_scan.specs.Plain.{plain}
use Rattle.yaml_scan.specs.Quoted.{quoted}
use Rattle.yaml_scan.specs.Block.{block}
use Rattle.yaml_tree.specs.declared.node.Node.{Node}
use Rattle.yaml_tree.specs.declared.starts.Start.{Start}
use Rattle.yaml_tree.specs.declared.starts.Start.TheVariants as starts
use Rattle.yaml_tree.specs.Nodes.{scalar_node}
use Rattle.yaml_tree.specs.Starts.{start}
use Rattle.yaml_tree.specs.Flow.{Ended, flow}
use Rattle.yaml_tree.specs.Leaves.{Leafs, scalar, wrong, colon_behind, flow_by, leaf_by, leaf_of}
use Rattle.yaml_tree.specs.Spelling.{IsLeaf, in_quotes, in_lines, is_plain, in_brackets}
use Rattle.yaml_tree.proofs.LinesFound.{tested, and_true}
use Rattle.yaml_tree.proofs.BlocksFound.{block_found, block_read}
use Rattle.yaml_tree.proofs.BracketSteps.{quote_is}
use Rattle.yaml_tree.proofs.BracketsFound.{flow_found}
use Rattle.yaml_tree.proofs.BracketsRead.{flow_told}
use Rattle.yaml_tree.proofs.PlainsFound.{plain_found, plain_read}
use Rattle.yaml_tree.proofs.QuotesFound.{quoted_found}
use Rattle.yaml_tree.proofs.QuotesRead.{quoted_read}

-- ---- read, and so in the grammar

scalar_parts : (n : ℕ) (as_is : Bool) (r : Reading (List ℕ)) (x : Node) (height : ℕ) (behind : List RawLine) → scalar n as_is r ≡ Ok ((x, height), behind) → (s : List ℕ) × (r ≡ Ok (s, behind)) × (scalar_node n s as_is ≡ x) × (1 ≡ height)
scalar_parts n as_is (Ok y) x height behind e =
    let p : ((scalar_node n y.0 as_is, 1), y.1) ≡ ((x, height), behind) = cc in
    (y.0, ap (λ (z : (Node × ℕ) × List RawLine). Ok (y.0, z.1)) p, ap (λ (z : (Node × ℕ) × List RawLine). z.0.0) p, ap (λ (z : (Node × ℕ) × List RawLine). z.0.1) p)
scalar_parts n as_is (Err f) x height behind e = absurd cc

given : {right n : ℕ} {bytes : List ℕ} {ls ls' : List RawLine} (x y : Node) (h k : ℕ) → x ≡ y → h ≡ k → IsLeaf right n bytes ls x h ls' → IsLeaf right n bytes ls y k ls'
given {right = right} {n = n} {bytes = bytes} {ls = ls} {ls' = ls'} x y h k e f l = subst (λ (z : Node). IsLeaf right n bytes ls z k ls') e (subst (λ (z : ℕ). IsLeaf right n bytes ls x z ls') f l)

brackets_found : (right : ℕ) (fresh : Bool) (n b : ℕ) (rest : List ℕ) (ls : List RawLine) (x : Node) (height : ℕ) (behind : List RawLine) (r : Result Ended Code) → start b rest ≡ starts.InBrackets → flow n (b == 123) rest ≡ r
    → height ≤ 64 → flow_by fresh n r ls ≡ Ok ((x, height), behind) → IsLeaf right n (b ∷ rest) ls x height behind
brackets_found right fresh n b rest ls x height behind (Err code) i r low e = absurd cc
brackets_found right fresh n b rest ls x height behind (Ok f) i r low e =
    elim (tested (fresh && colon_behind (without_blanks f.rest))) [
      | inl c ↦ absurd (let q : wrong n left_out_code true ≡ Ok ((x, height), behind) = rw c at e in cc)
      | inr c ↦ elim (tested (nothing_left false f.rest)) [
        | inr d ↦ absurd (let q : wrong n Structure false ≡ Ok ((x, height), behind) = rw (c, d) at e in cc)
        | inl d ↦ elim (tested f.repeated) [
          | inl k ↦ absurd (let q : wrong n RepeatedKey false ≡ Ok ((x, height), behind) = rw (c, d, k) at e in cc)
          | inr k ↦
              let q : Ok ((f.node, f.height), ls) ≡ Ok ((x, height), behind) = rw (c, d, k) at e in
              let p : ((f.node, f.height), ls) ≡ ((x, height), behind) = cc in
              let high : f.height ≡ height = ap (λ (z : (Node × ℕ) × List RawLine). z.0.1) p in
              subst (λ (z : (Node × ℕ) × List RawLine). IsLeaf right n (b ∷ rest) ls z.0.0 z.0.1 z.1) p (in_brackets i (flow_found n b rest f i r k (subst (λ (h : ℕ). h ≤ 64) (sym high) low)) d)
        ]
      ]
    ]

by_start : (right : ℕ) (fresh : Bool) (n b : ℕ) (rest : List ℕ) (ls : List RawLine) (x : Node) (height : ℕ) (behind : List RawLine) (s : Start) → start b rest ≡ s → height ≤ 64 → leaf_by s right fresh n b rest ls ≡ Ok ((x, height), behind)
    → IsLeaf right n (b ∷ rest) ls x height behind
by_start right fresh n b rest ls x height behind starts.InQuotes i low e =
    let p = scalar_parts n false (quoted right n b rest ls) x height behind e in
    given (scalar_node n p.0 false) x 1 height p.2 p.3 (in_quotes i (quoted_found b right n (quote_is b rest i) rest ls p.0 behind p.1))
by_start right fresh n b rest ls x height behind starts.InLines i low e =
    let p = scalar_parts n false (block right n (b == 62) rest ls) x height behind e in
    given (scalar_node n p.0 false) x 1 height p.2 p.3 (in_lines i (block_found right (b == 62) n rest ls p.0 behind p.1))
by_start right fresh n b rest ls x height behind starts.Plain i low e =
    let p = scalar_parts n true (plain right n (b ∷ rest) ls) x height behind e in
    given (scalar_node n p.0 true) x 1 height p.2 p.3 (is_plain i (plain_found right n (b ∷ rest) ls p.0 behind p.1))
by_start right fresh n b rest ls x height behind starts.InBrackets i low e = brackets_found right fresh n b rest ls x height behind (flow n (b == 123) rest) i refl low e
by_start right fresh n b rest ls x height behind starts.LeftOut i low e = absurd cc
by_start right fresh n b rest ls x height behind starts.Refused i low e = absurd cc

pub leaf_found_is : (right : ℕ) (fresh : Bool) (n b : ℕ) (rest : List ℕ) (ls : List RawLine) (x : Node) (height : ℕ) (behind : List RawLine) → height ≤ 64 → leaf_of right fresh n (b ∷ rest) ls ≡ Ok ((x, height), behind)
    → IsLeaf right n (b ∷ rest) ls x height behind
leaf_found_is right fresh n b rest ls x height behind low e = by_start right fresh n b rest ls x height behind (start b rest) refl low e

-- ---- in the grammar, and so read

abbrev By : ℕ → Bool → ℕ → ℕ → List ℕ → List RawLine → Start → Leafs
By right fresh n b rest ls s = leaf_by s right fresh n b rest ls

-- where nothing is left there is no colon
no_colon : (bytes : List ℕ) (spaced : Bool) → nothing_left spaced bytes ≡ true → colon_behind (without_blanks bytes) ≡ false
unfolding nothing_left without_blanks
no_colon [] spaced e = refl
no_colon (b ∷ bytes) spaced e = elim (tested (is_blank b)) [
  | inl h ↦ rw h (no_colon bytes (b == 32) (rw h at e))
  | inr h ↦
      let sign : (b == 35 && spaced) ≡ true = rw h at e in
      rw h (ap (λ (c : ℕ). c == 58 && breaks bytes) (eqb-true b 35 (and_true (b == 35) spaced sign).0))
]

pub leaf_told : (right : ℕ) (fresh : Bool) (n b : ℕ) (rest : List ℕ) (ls : List RawLine) (x : Node) (height : ℕ) (behind : List RawLine) → height ≤ 64 → IsLeaf right n (b ∷ rest) ls x height behind → leaf_of right fresh n (b ∷ rest) ls ≡ Ok ((x, height), behind)
leaf_told right fresh n b rest ls x height behind low (in_quotes {s = s} i q) = ap (By right fresh n b rest ls) i ∙ ap (scalar n false) (quoted_read b right n (quote_is b rest i) rest ls s behind q)
leaf_told right fresh n b rest ls x height behind low (in_lines i l) = ap (By right fresh n b rest ls) i ∙ ap (scalar n false) (block_read right (b == 62) l n)
leaf_told right fresh n b rest ls x height behind low (is_plain i p) = ap (By right fresh n b rest ls) i ∙ ap (scalar n true) (plain_read right p n)
leaf_told right fresh n b rest ls x height behind low (in_brackets {rest = left} i f d) =
    ap (By right fresh n b rest ls) i ∙ ap (λ (r : Result Ended Code). flow_by fresh n r ls) (flow_told n b rest x height _ f i low) ∙ rw (and_right fresh (colon_behind (without_blanks left)) (no_colon left false d), d) refl

begins_so : (s : Start) (b : ℕ) (rest : List ℕ) → start b rest ≡ s → (starts.Refused ≡ s → ⊥) → (b == 35) ≡ false
begins_so s b rest i other = elim (tested (b == 35)) [
  | inr h ↦ h
  | inl h ↦ absurd (other (subst (λ (c : ℕ). start c rest ≡ s) (eqb-true b 35 h) i))
]

-- no scalar or flow begins by `#`
pub leaf_no_comment : (right n b : ℕ) (rest : List ℕ) (ls : List RawLine) (x : Node) (height : ℕ) (behind : List RawLine) → IsLeaf right n (b ∷ rest) ls x height behind → (b == 35) ≡ false
leaf_no_comment right n b rest ls x height behind (in_quotes i q) = begins_so starts.InQuotes b rest i (λ e. cc)
leaf_no_comment right n b rest ls x height behind (in_lines i l) = begins_so starts.InLines b rest i (λ e. cc)
leaf_no_comment right n b rest ls x height behind (is_plain i p) = begins_so starts.Plain b rest i (λ e. cc)
leaf_no_comment right n b rest ls x height behind (in_brackets i f d) = begins_so starts.InBrackets b rest i (λ e. cc)
