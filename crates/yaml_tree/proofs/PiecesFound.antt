-- The pieces that are read are in the grammar.
use Rattle.std.proofs.Common.{◌≡◌, ℕ, ◌+◌, ◌-◌, ◌≤◌, Bool, true, false, ◌&&◌, inl, inr, List, [], ◌∷◌, ◌++◌, length, take, drop, Option, Some, None, Ok, Err, refl, sym, ap, subst, ◌∙◌, append_assoc, arith}
use Rattle.std.specs.Prelude.{◌==◌}
use Rattle.std.proofs.lemmas.List.{append-nil}
use Rattle.yaml_scan.specs.declared.line.RawLine.{RawLine}
use Rattle.yaml_scan.specs.declared.fault.Code.TheVariants.{Structure, LeftOut}
use Rattle.yaml_scan.specs.Words.{is_blank, is_empty, is_some, breaks, nothing_left, colon_at, trimmed, without_blanks}
use Rattle.yaml_scan.specs.Quoted.{State, opened, run}
use Rattle.yaml_tree.specs.declared.node.Node.{Node}
use Rattle.yaml_tree.specs.declared.piece.Piece.{Piece}
use Rattle.yaml_tree.specs.declared.starts.Start.{Start}
use Rattle.yaml_tree.specs.declared.starts.Start.TheVariants as starts
use Rattle.yaml_tree.specs.Nodes.{scalar_node}
use Rattle.yaml_tree.specs.Starts.{start, is_merge}
use Rattle.yaml_tree.specs.Leaves.{Leafs, leaf_by, colon_behind}
use Rattle.yaml_tree.specs.Keys.{IsKey}
use Rattle.yaml_tree.specs.Pieces.{Found, found, dash, key, leaf, floor, leaf_found, leaf_at, value_at, keyed, plain_key, quoted_key, node_by, heads}
use Rattle.yaml_tree.specs.Spelling.{IsAt, here, blank, is_dash, IsLeaf, in_quotes, in_lines, is_plain, in_brackets, IsHeads, nothing, dash as dash_is, leaf as leaf_is, key as key_is, key_value}
use Rattle.yaml_tree.proofs.LinesFound.{tested}
use Rattle.yaml_tree.proofs.KeysFound.{plain_key_found, quoted_key_found}
use Rattle.yaml_tree.proofs.LeafFound.{leaf_found_is, leaf_told}
use Rattle.yaml_tree.proofs.Shorter.{IsEnd, all, leaf_end}
use Rattle.yaml_tree.proofs.Low.{Low, low_parts}

-- no fault was found, and no leaf has more than 64 nodes in one another
abbrev pub Passes : Found → Type 0
Passes f = (f.fault ≡ None) × Low f.pieces

-- more pieces and lines behind them, of which something holds
abbrev pub Good : Found → List Piece → (List Piece → List RawLine → Type 0) → Type 0
Good f ps Holds = (qs : List Piece) × (ls : List RawLine) × (f ≡ found (ps ++ qs) ls) × Holds qs ls

pub floor_more : (ps : List Piece) (p : Piece) → floor (ps ++ p ∷ []) ≡ p.column + 1
unfolding floor
floor_more [] p = refl
floor_more (q ∷ []) p = refl
floor_more (q ∷ r ∷ ps) p = floor_more (r ∷ ps) p

-- ---- blanks

pub no_longer : (bytes : List ℕ) → length (without_blanks bytes) ≤ length bytes
unfolding without_blanks
no_longer [] = omega arith
no_longer (b ∷ bytes) = elim (tested (is_blank b)) [
  | inl h ↦ let more = no_longer bytes in rw h (omega arith)
  | inr h ↦ rw h (omega arith)
]

pub at_found : (bytes : List ℕ) (column b : ℕ) (rest : List ℕ) → without_blanks bytes ≡ b ∷ rest → IsAt column bytes (column + (length bytes - length (b ∷ rest))) (b ∷ rest)
unfolding without_blanks
at_found [] column b rest e = absurd cc
at_found (c ∷ bytes) column b rest e =
    elim (tested (is_blank c)) [
      | inl h ↦
          let e' : without_blanks bytes ≡ b ∷ rest = rw h at e in
          let fewer : length (b ∷ rest) ≤ length bytes = subst (λ (x : List ℕ). length x ≤ length bytes) e' (no_longer bytes) in
          let same : column + 1 + (length bytes - length (b ∷ rest)) ≡ column + (length (c ∷ bytes) - length (b ∷ rest)) = omega arith in
          blank h (subst (λ (at : ℕ). IsAt (column + 1) bytes at (b ∷ rest)) same (at_found bytes (column + 1) b rest e'))
      | inr h ↦
          let e' : c ∷ bytes ≡ b ∷ rest = rw h at e in
          let same : column ≡ column + (length (c ∷ bytes) - length (c ∷ bytes)) = omega arith in
          subst (λ (x : List ℕ). IsAt column (c ∷ bytes) (column + (length (c ∷ bytes) - length x)) x) e' (subst (λ (at : ℕ). IsAt column (c ∷ bytes) at (c ∷ bytes)) same (here h))
    ]

pub all_blank : (bytes : List ℕ) (spaced : Bool) → without_blanks bytes ≡ [] → nothing_left spaced bytes ≡ true
unfolding without_blanks nothing_left
all_blank [] spaced e = refl
all_blank (b ∷ bytes) spaced e = elim (tested (is_blank b)) [
  | inl h ↦ rw h (all_blank bytes (b == 32) (rw h at e))
  | inr h ↦ absurd (let q : b ∷ bytes ≡ [] = rw h at e in cc)
]

heads_blank : (n right column b : ℕ) (spaced : Bool) (bytes : List ℕ) (ls ls' : List RawLine) (qs : List Piece) → is_blank b ≡ true → IsHeads n right (b == 32) (column + 1) bytes ls qs ls' → IsHeads n right spaced column (b ∷ bytes) ls qs ls'
unfolding nothing_left
heads_blank n right column b spaced bytes ls ls' qs h (nothing e) = nothing (rw h e)
heads_blank n right column b spaced bytes ls ls' qs h (dash_is a d r) = dash_is (blank h a) d r
heads_blank n right column b spaced bytes ls ls' qs h (leaf_is a d l) = leaf_is (blank h a) d l
heads_blank n right column b spaced bytes ls ls' qs h (key_is a d k e) = key_is (blank h a) d k e
heads_blank n right column b spaced bytes ls ls' qs h (key_value a d k v l) = key_value (blank h a) d k v l

-- ---- scalars and flow

leaf_ok : (r : Leafs) (ps : List Piece) (n column : ℕ) (ls : List RawLine) → Passes (leaf_found ps n column r ls)
    → (x : Node) × (height : ℕ) × (behind : List RawLine) × (r ≡ Ok ((x, height), behind)) × (height ≤ 64) × (leaf_found ps n column r ls ≡ found (ps ++ leaf n column x height false ∷ []) behind)
leaf_ok (Ok y) ps n column ls e = (y.0.0, y.0.1, y.1, refl, (low_parts ps (leaf n column y.0.0 y.0.1 false ∷ []) e.1).1.0, refl)
leaf_ok (Err w) ps n column ls e = absurd (let q : Some w.fault ≡ None = e.0 in cc)

leaf_here : (ps : List Piece) (n : ℕ) (fresh : Bool) (column b : ℕ) (rest : List ℕ) (ls : List RawLine) → Passes (leaf_at ps n fresh column (b ∷ rest) ls)
    → (x : Node) × (height : ℕ) × (behind : List RawLine) × IsLeaf (floor ps) n (b ∷ rest) ls x height behind × (leaf_at ps n fresh column (b ∷ rest) ls ≡ found (ps ++ leaf n column x height false ∷ []) behind)
leaf_here ps n fresh column b rest ls e =
    let l = leaf_ok (leaf_by (start b rest) (floor ps) fresh n b rest ls) ps n column ls e in
    (l.0, l.1, l.2, leaf_found_is (floor ps) fresh n b rest ls l.0 l.1 l.2 l.4 l.3, l.5)

fresh_leaf : (ps : List Piece) (n column b : ℕ) (spaced : Bool) (rest : List ℕ) (ls : List RawLine) → is_blank b ≡ false → is_dash (b ∷ rest) ≡ false → Passes (leaf_at ps n true column (b ∷ rest) ls)
    → Good (leaf_at ps n true column (b ∷ rest) ls) ps (λ qs behind. IsHeads n (floor ps) spaced column (b ∷ rest) ls qs behind)
fresh_leaf ps n column b spaced rest ls no_blank no_dash e =
    let l = leaf_here ps n true column b rest ls e in
    (leaf n column l.0 l.1 false ∷ [], l.2, l.4, leaf_is (here no_blank) no_dash l.3)

-- ---- keys

-- what stands behind a key: nothing, or a leaf
data Behind (ps : List Piece) (n column : ℕ) (bytes : List ℕ) (ls : List RawLine) (f : Found) : Type 0 where
  empty : nothing_left false bytes ≡ true → f ≡ found ps ls → Behind ps n column bytes ls f
  value : {at height : ℕ} {rest : List ℕ} {x : Node} {behind : List RawLine}
      → IsAt column bytes at rest → IsLeaf (floor ps) n rest ls x height behind → f ≡ found (ps ++ leaf n at x height false ∷ []) behind → Behind ps n column bytes ls f

value_here : (ps : List Piece) (n column : ℕ) (bytes : List ℕ) (ls : List RawLine) (w : List ℕ) → without_blanks bytes ≡ w → nothing_left false bytes ≡ false
    → Passes (leaf_at ps n false (column + (length bytes - length w)) w ls) → Behind ps n column bytes ls (leaf_at ps n false (column + (length bytes - length w)) w ls)
value_here ps n column bytes ls [] is some e = absurd (let q : true ≡ false = sym (all_blank bytes false is) ∙ some in cc)
value_here ps n column bytes ls (b ∷ rest) is some e =
    let l = leaf_here ps n false (column + (length bytes - length (b ∷ rest))) b rest ls e in
    value (at_found bytes column b rest is) l.3 l.4

value_found : (ps : List Piece) (n column : ℕ) (bytes : List ℕ) (ls : List RawLine) → Passes (value_at ps n column bytes ls) → Behind ps n column bytes ls (value_at ps n column bytes ls)
value_found ps n column bytes ls e =
    elim (tested (nothing_left false bytes)) [
      | inl h ↦ empty h (rw h refl)
      | inr h ↦ rw h (value_here ps n column bytes ls (without_blanks bytes) refl h (rw h at e))
    ]

pushed : (ps : List Piece) (p q : Piece) → (ps ++ p ∷ []) ++ q ∷ [] ≡ ps ++ p ∷ q ∷ []
pushed ps p q = append_assoc ps (p ∷ []) (q ∷ [])

behind_key : (ps : List Piece) (n right column at : ℕ) (spaced : Bool) (bytes rest k : List ℕ) (behind : ℕ) (after : List ℕ) (ls : List RawLine) (f : Found)
    → IsAt column bytes at rest → is_dash rest ≡ false → IsKey at rest k behind after → Behind (ps ++ key n at k ∷ []) n behind after ls f
    → Good f ps (λ qs ls'. IsHeads n right spaced column bytes ls qs ls')
behind_key ps n right column at spaced bytes rest k behind after ls f a d is (empty h e) = (key n at k ∷ [], ls, e, key_is a d is h)
behind_key ps n right column at spaced bytes rest k behind after ls f a d is (value {at = v} {height = height} {rest = bytes'} {x = x} {behind = ls'} p l e) = (
  key n at k ∷ leaf n v x height false ∷ [],
  ls',
  e ∙ ap (λ (qs : List Piece). found qs ls') (pushed ps (key n at k) (leaf n v x height false)),
  key_value a d is p (subst (λ (right : ℕ). IsLeaf right n bytes' ls x height ls') (floor_more ps (key n at k)) l),
)

key_found : (ps : List Piece) (n column b : ℕ) (spaced : Bool) (rest k : List ℕ) (behind : ℕ) (after : List ℕ) (ls : List RawLine)
    → is_blank b ≡ false → is_dash (b ∷ rest) ≡ false → (is_empty k ≡ false → IsKey column (b ∷ rest) k behind after) → Passes (keyed ps n column k behind after ls)
    → Good (keyed ps n column k behind after ls) ps (λ qs ls'. IsHeads n (floor ps) spaced column (b ∷ rest) ls qs ls')
key_found ps n column b spaced rest k behind after ls no_blank no_dash is e =
    elim (tested (is_empty k)) [
      | inl h ↦ absurd (let q : Some (record { line = n; code = Structure }) ≡ None = rw h at e.0 in cc)
      | inr h ↦ rw h (behind_key ps n (floor ps) column column spaced (b ∷ rest) (b ∷ rest) k behind after ls (value_at (ps ++ key n column k ∷ []) n behind after ls) (here no_blank) no_dash (is h)
          (value_found (ps ++ key n column k ∷ []) n behind after ls (rw h at e)))
    ]

plain_found : (ps : List Piece) (n column b : ℕ) (spaced : Bool) (rest : List ℕ) (ls : List RawLine) (c : Option ℕ) → start b rest ≡ starts.Plain → colon_at false 0 (b ∷ rest) ≡ c → is_blank b ≡ false → is_dash (b ∷ rest) ≡ false
    → Passes (plain_key ps n column (b ∷ rest) c ls) → Good (plain_key ps n column (b ∷ rest) c ls) ps (λ qs ls'. IsHeads n (floor ps) spaced column (b ∷ rest) ls qs ls')
plain_found ps n column b spaced rest ls None s c no_blank no_dash e = fresh_leaf ps n column b spaced rest ls no_blank no_dash e
plain_found ps n column b spaced rest ls (Some at) s c no_blank no_dash e =
    elim (tested (is_merge (trimmed (take at (b ∷ rest))))) [
      | inl h ↦ absurd (let q : Some (record { line = n; code = LeftOut }) ≡ None = rw h at e.0 in cc)
      | inr h ↦ rw h (key_found ps n column b spaced rest (trimmed (take at (b ∷ rest))) (column + at + 1) (drop (at + 1) (b ∷ rest)) ls no_blank no_dash (λ some. plain_key_found column b rest at s c h some) (rw h at e))
    ]

no_bad : (bad : Option ℕ) → is_some bad ≡ false → bad ≡ None
no_bad None e = refl
no_bad (Some n) e = absurd cc

quoted_found : (ps : List Piece) (n column b : ℕ) (spaced : Bool) (rest : List ℕ) (ls : List RawLine) (s : State) (end : Option (List ℕ)) → start b rest ≡ starts.InQuotes → run (opened b n) rest ≡ (s, end) → is_blank b ≡ false → is_dash (b ∷ rest) ≡ false
    → Passes (quoted_key ps n column (b ∷ rest) s end ls) → Good (quoted_key ps n column (b ∷ rest) s end ls) ps (λ qs ls'. IsHeads n (floor ps) spaced column (b ∷ rest) ls qs ls')
quoted_found ps n column b spaced rest ls s None i r no_blank no_dash e = fresh_leaf ps n column b spaced rest ls no_blank no_dash e
quoted_found ps n column b spaced rest ls s (Some behind) i r no_blank no_dash e =
    elim (tested (colon_behind behind)) [
      | inr h ↦ rw h (fresh_leaf ps n column b spaced rest ls no_blank no_dash (rw h at e))
      | inl h ↦ elim (tested (is_some s.bad)) [
        | inl k ↦ absurd (let q : Some (record { line = n; code = Structure }) ≡ None = rw (h, k) at e.0 in cc)
        | inr k ↦ rw (h, k) (key_found ps n column b spaced rest s.text (column + (length (b ∷ rest) - length behind) + 1) (drop 1 behind) ls no_blank no_dash (λ some. quoted_key_found n column b rest s behind i r (no_bad s.bad k) h some) (rw (h, k) at e))
      ]
    ]

node_found : (ps : List Piece) (n column b : ℕ) (spaced : Bool) (rest : List ℕ) (ls : List RawLine) (s : Start) → start b rest ≡ s → is_blank b ≡ false → is_dash (b ∷ rest) ≡ false
    → Passes (node_by s ps n column b rest ls) → Good (node_by s ps n column b rest ls) ps (λ qs ls'. IsHeads n (floor ps) spaced column (b ∷ rest) ls qs ls')
node_found ps n column b spaced rest ls starts.InQuotes i no_blank no_dash e = quoted_found ps n column b spaced rest ls (run (opened b n) rest).0 (run (opened b n) rest).1 i refl no_blank no_dash e
node_found ps n column b spaced rest ls starts.Plain i no_blank no_dash e = plain_found ps n column b spaced rest ls (colon_at false 0 (b ∷ rest)) i refl no_blank no_dash e
node_found ps n column b spaced rest ls starts.InBrackets i no_blank no_dash e = fresh_leaf ps n column b spaced rest ls no_blank no_dash e
node_found ps n column b spaced rest ls starts.InLines i no_blank no_dash e = fresh_leaf ps n column b spaced rest ls no_blank no_dash e
node_found ps n column b spaced rest ls starts.LeftOut i no_blank no_dash e = fresh_leaf ps n column b spaced rest ls no_blank no_dash e
node_found ps n column b spaced rest ls starts.Refused i no_blank no_dash e = fresh_leaf ps n column b spaced rest ls no_blank no_dash e

-- ---- a line

after_dash : (ps : List Piece) (n column b : ℕ) (spaced : Bool) (rest : List ℕ) (ls : List RawLine) (f : Found) → is_blank b ≡ false → is_dash (b ∷ rest) ≡ true
    → Good f (ps ++ dash n column ∷ []) (λ qs ls'. IsHeads n (floor (ps ++ dash n column ∷ [])) false (column + 1) rest ls qs ls')
    → Good f ps (λ qs ls'. IsHeads n (floor ps) spaced column (b ∷ rest) ls qs ls')
after_dash ps n column b spaced rest ls f no_blank is g = (
  dash n column ∷ g.0,
  g.1,
  g.2 ∙ ap (λ (qs : List Piece). found qs g.1) (append_assoc ps (dash n column ∷ []) g.0),
  dash_is (here no_blank) is (subst (λ (right : ℕ). IsHeads n right false (column + 1) rest ls g.0 g.1) (floor_more ps (dash n column)) g.3),
)

pub heads_found : (bytes : List ℕ) (ps : List Piece) (n : ℕ) (spaced : Bool) (column : ℕ) (ls : List RawLine) → Passes (heads ps n spaced column bytes ls)
    → Good (heads ps n spaced column bytes ls) ps (λ qs ls'. IsHeads n (floor ps) spaced column bytes ls qs ls')
unfolding heads nothing_left
heads_found [] ps n spaced column ls e = ([], ls, ap (λ (qs : List Piece). found qs ls) (sym (append-nil ps)), nothing refl)
heads_found (b ∷ rest) ps n spaced column ls e =
    elim (tested (is_blank b)) [
      | inl h ↦
          let g = heads_found rest ps n (b == 32) (column + 1) ls (rw h at e) in
          rw h (g.0, g.1, g.2, heads_blank n (floor ps) column b spaced rest ls g.1 g.0 h g.3)
      | inr h ↦ elim (tested (b == 35 && spaced)) [
        | inl k ↦ rw (h, k) ([], ls, ap (λ (qs : List Piece). found qs ls) (sym (append-nil ps)), nothing {spaced = spaced} {bytes = b ∷ rest} (rw (h, k) refl))
        | inr k ↦ elim (tested (b == 45 && breaks rest)) [
          | inl d ↦ rw (h, k, d) (after_dash ps n column b spaced rest ls (heads (ps ++ dash n column ∷ []) n false (column + 1) rest ls) h d (heads_found rest (ps ++ dash n column ∷ []) n false (column + 1) ls (rw (h, k, d) at e)))
          | inr d ↦ rw (h, k, d) (node_found ps n column b spaced rest ls (start b rest) refl h d (rw (h, k, d) at e))
        ]
      ]
    ]

-- ---- the lines behind

pub at_longer : {column at : ℕ} {bytes rest : List ℕ} → IsAt column bytes at rest → (b : ℕ) × (more : List ℕ) × (rest ≡ b ∷ more)
at_longer (here {b = b} {bytes = bytes} h) = (b, bytes, refl)
at_longer (blank h a) = at_longer a

leaf_lines : {right n height : ℕ} {bytes : List ℕ} {x : Node} {ls ls' : List RawLine} → IsLeaf right n bytes ls x height ls' → IsEnd ls' ls
leaf_lines {right = right} {n = n} {ls = ls} {ls' = ls'} (in_quotes {b = b} {bytes = bytes} {s = s} i q) =
    leaf_end right false n b bytes ls (scalar_node n s false, 1) ls' (leaf_told right false n b bytes ls (scalar_node n s false) 1 ls' (omega arith) (in_quotes i q))
leaf_lines {right = right} {n = n} {ls = ls} {ls' = ls'} (in_lines {b = b} {bytes = bytes} {s = s} i q) =
    leaf_end right false n b bytes ls (scalar_node n s false, 1) ls' (leaf_told right false n b bytes ls (scalar_node n s false) 1 ls' (omega arith) (in_lines i q))
leaf_lines {right = right} {n = n} {ls = ls} {ls' = ls'} (is_plain {b = b} {bytes = bytes} {s = s} i q) =
    leaf_end right false n b bytes ls (scalar_node n s true, 1) ls' (leaf_told right false n b bytes ls (scalar_node n s true) 1 ls' (omega arith) (is_plain i q))
leaf_lines (in_brackets i f d) = all

pub heads_end : {n right column : ℕ} {spaced : Bool} {bytes : List ℕ} {ls ls' : List RawLine} {qs : List Piece} → IsHeads n right spaced column bytes ls qs ls' → IsEnd ls' ls
heads_end (nothing e) = all
heads_end (dash_is a d r) = heads_end r
heads_end (leaf_is a d l) = leaf_lines l
heads_end (key_is a d k e) = all
heads_end (key_value a d k v l) = leaf_lines l
