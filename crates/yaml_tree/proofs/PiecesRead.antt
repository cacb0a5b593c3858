-- What is in the grammar of pieces is read.
use Rattle.std.proofs.Common.{◌≡◌, ℕ, ◌+◌, ◌-◌, ◌≤◌, Bool, true, false, cond, ◌&&◌, inl, inr, List, [], ◌∷◌, ◌++◌, length, Option, Some, None, Ok, Err, refl, sym, ap, subst, ◌∙◌, append_assoc, arith}
use Rattle.std.specs.Prelude.{◌==◌}
use Rattle.std.proofs.lemmas.Bool.{eqb-true}
use Rattle.std.proofs.lemmas.List.{append-nil}
use Rattle.yaml_scan.specs.declared.line.RawLine.{RawLine}
use Rattle.yaml_scan.specs.declared.fault.Code.TheVariants.{Structure}
use Rattle.yaml_scan.specs.Answers.{Reading, stop}
use Rattle.yaml_scan.specs.Words.{is_blank, is_some, breaks, nothing_left, colon_at, has_colon, without_blanks}
use Rattle.yaml_scan.specs.Plain.{plain}
use Rattle.yaml_scan.specs.Quoted.{State, opened, run, led, finished_by, quoted, further as quoted_further}
use Rattle.yaml_tree.specs.declared.node.Node.{Node}
use Rattle.yaml_tree.specs.declared.piece.Piece.{Piece}
use Rattle.yaml_tree.specs.declared.starts.Start.{Start}
use Rattle.yaml_tree.specs.declared.starts.Start.TheVariants as starts
use Rattle.yaml_tree.specs.Nodes.{scalar_node}
use Rattle.yaml_tree.specs.Starts.{start}
use Rattle.yaml_tree.specs.Leaves.{Leafs, scalar, leaf_by, colon_behind}
use Rattle.yaml_tree.specs.Keys.{IsKey, plain as plain_is, quoted as quoted_is}
use Rattle.yaml_tree.specs.Pieces.{found, dash, key, leaf, floor, leaf_found, leaf_at, value_at, plain_key, quoted_key, node_by, heads}
use Rattle.yaml_tree.specs.Spelling.{IsAt, here, blank, is_dash, IsLeaf, IsHeads, nothing, dash as dash_is, leaf as leaf_is, key as key_is, key_value}
use Rattle.yaml_tree.proofs.BracketSteps.{quote_is}
use Rattle.yaml_tree.proofs.KeyTexts.{key_text_read}
use Rattle.yaml_tree.proofs.LeafFound.{leaf_told, leaf_no_comment}
use Rattle.yaml_tree.proofs.LinesFound.{tested, and_true}
use Rattle.yaml_tree.proofs.Low.{Low}
use Rattle.yaml_tree.proofs.OneLine.{inside_read, inside_shorter}
use Rattle.yaml_tree.proofs.PiecesFound.{floor_more}

-- ---- blanks

nothing_read : (bytes : List ℕ) (ps : List Piece) (n column : ℕ) (spaced : Bool) (ls : List RawLine) → nothing_left spaced bytes ≡ true → heads ps n spaced column bytes ls ≡ found ps ls
unfolding heads nothing_left
nothing_read [] ps n column spaced ls e = refl
nothing_read (b ∷ bytes) ps n column spaced ls e = elim (tested (is_blank b)) [
  | inl h ↦ rw h (nothing_read bytes ps n (column + 1) (b == 32) ls (rw h at e))
  | inr h ↦ let k : (b == 35 && spaced) ≡ true = rw h at e in rw (h, k) refl
]

at_no_blank : {column at b : ℕ} {bytes rest : List ℕ} → IsAt column bytes at (b ∷ rest) → is_blank b ≡ false
at_no_blank (here h) = h
at_no_blank (blank h a) = at_no_blank a

-- reading goes on at the first byte that is no blank
at_read : {column at : ℕ} {bytes rest : List ℕ} → IsAt column bytes at rest → (ps : List Piece) (n : ℕ) (spaced : Bool) (ls : List RawLine) → (spaced' : Bool) × (heads ps n spaced column bytes ls ≡ heads ps n spaced' at rest ls)
unfolding heads
at_read (here h) ps n spaced ls = (spaced, refl)
at_read (blank {b = b} h a) ps n spaced ls =
    let r = at_read a ps n (b == 32) ls in
    (r.0, rw h r.1)

step : (ps : List Piece) (n at b : ℕ) (spaced : Bool) (rest : List ℕ) (ls : List RawLine) → is_blank b ≡ false → (b == 35) ≡ false
    → heads ps n spaced at (b ∷ rest) ls ≡ cond (is_dash (b ∷ rest)) (heads (ps ++ dash n at ∷ []) n false (at + 1) rest ls) (node_by (start b rest) ps n at b rest ls)
unfolding heads
step ps n at b spaced rest ls h k = rw (h, k) refl

at_is : {column at : ℕ} {bytes rest : List ℕ} → IsAt column bytes at rest → (rest ≡ without_blanks bytes) × (at ≡ column + (length bytes - length rest)) × (length rest ≤ length bytes)
unfolding without_blanks
at_is (here {column = column} {b = b} {bytes = bytes} h) = (rw h refl, omega arith, omega arith)
at_is (blank {column = column} {at = at} {b = b} {bytes = bytes} {rest = rest} h a) =
    let r = at_is a in
    (rw h r.0, omega (arith, r.1, r.2), omega (arith, r.2))

some_left : {column at b : ℕ} {bytes rest : List ℕ} → IsAt column bytes at (b ∷ rest) → (b == 35) ≡ false → (spaced : Bool) → nothing_left spaced bytes ≡ false
unfolding nothing_left
some_left (here h) k spaced = rw (h, k) refl
some_left (blank {b = b} h a) k spaced = rw h (some_left a k (b == 32))

-- ---- scalars and flow

leaf_read : (ps : List Piece) (n : ℕ) (fresh : Bool) (column b height : ℕ) (rest : List ℕ) (x : Node) (ls behind : List RawLine) → height ≤ 64 → IsLeaf (floor ps) n (b ∷ rest) ls x height behind
    → leaf_at ps n fresh column (b ∷ rest) ls ≡ found (ps ++ leaf n column x height false ∷ []) behind
leaf_read ps n fresh column b height rest x ls behind low l = ap (λ (r : Leafs). leaf_found ps n column r ls) (leaf_told (floor ps) fresh n b rest ls x height behind low l)

scalar_ok : (n : ℕ) (is_plain : Bool) (r : Reading (List ℕ)) (x : Node × ℕ) (behind : List RawLine) → scalar n is_plain r ≡ Ok (x, behind) → (t : List ℕ) × (r ≡ Ok (t, behind))
scalar_ok n is_plain (Ok y) x behind e =
    let p : ((scalar_node n y.0 is_plain, 1), y.1) ≡ (x, behind) = cc in
    (y.0, ap (λ (z : (Node × ℕ) × List RawLine). Ok (y.0, z.1)) p)
scalar_ok n is_plain (Err f) x behind e = absurd cc

not_some : {A : Type 0} (o : Option A) → is_some o ≡ false → o ≡ None
not_some None e = refl
not_some (Some x) e = absurd cc

plain_no_colon : (floor n : ℕ) (bytes : List ℕ) (ls : List RawLine) (x : List ℕ × List RawLine) → plain floor n bytes ls ≡ Ok x → colon_at false 0 bytes ≡ None
unfolding plain
plain_no_colon floor n bytes ls x e =
    elim (tested (has_colon bytes)) [
      | inl h ↦ absurd (let q : stop n Structure ≡ Ok x = rw h at e in cc)
      | inr h ↦ not_some (colon_at false 0 bytes) h
    ]

no_colon_left : (rest : List ℕ) → nothing_left false rest ≡ true → colon_behind rest ≡ false
unfolding nothing_left
no_colon_left [] e = refl
no_colon_left (b ∷ rest) e =
    elim (tested (b == 58)) [
      | inr h ↦ rw h refl
      | inl h ↦ absurd (let q : nothing_left false (58 ∷ rest) ≡ true = subst (λ (c : ℕ). nothing_left false (c ∷ rest) ≡ true) (eqb-true b 58 h) e in cc)
    ]

finished_left : (bad : Option ℕ) (s : State) (rest : List ℕ) (ls : List RawLine) (x : List ℕ × List RawLine) → finished_by bad s rest ls ≡ Ok x → nothing_left false rest ≡ true
finished_left (Some n) s rest ls x e = absurd cc
finished_left None s rest ls x e =
    elim (tested (nothing_left false rest)) [
      | inl h ↦ h
      | inr h ↦ absurd (let q : stop s.line Structure ≡ Ok x = rw h at e in cc)
    ]

quoted_no_key : (ps : List Piece) (n column : ℕ) (bytes : List ℕ) (s : State) (end : Option (List ℕ)) (ls : List RawLine) (more : Reading (List ℕ)) (x : List ℕ × List RawLine) → led s end ls more ≡ Ok x
    → quoted_key ps n column bytes s end ls ≡ leaf_at ps n true column bytes ls
quoted_no_key ps n column bytes s None ls more x e = refl
quoted_no_key ps n column bytes s (Some rest) ls more x e = rw (no_colon_left rest (finished_left s.bad s rest ls x e)) refl

-- where a leaf stands no key does
no_key : (s : Start) (ps : List Piece) (n column b : ℕ) (rest : List ℕ) (ls : List RawLine) (x : Node × ℕ) (behind : List RawLine) → leaf_by s (floor ps) true n b rest ls ≡ Ok (x, behind)
    → node_by s ps n column b rest ls ≡ leaf_at ps n true column (b ∷ rest) ls
unfolding quoted
no_key starts.InQuotes ps n column b rest ls x behind e =
    let q = scalar_ok n false (quoted (floor ps) n b rest ls) x behind e in
    quoted_no_key ps n column (b ∷ rest) (run (opened b n) rest).0 (run (opened b n) rest).1 ls (quoted_further (floor ps) n 0 (run (opened b n) rest).0 ls) (q.0, behind) q.1
no_key starts.Plain ps n column b rest ls x behind e =
    let q = scalar_ok n true (plain (floor ps) n (b ∷ rest) ls) x behind e in
    ap (λ (c : Option ℕ). plain_key ps n column (b ∷ rest) c ls) (plain_no_colon (floor ps) n (b ∷ rest) ls (q.0, behind) q.1)
no_key starts.InBrackets ps n column b rest ls x behind e = refl
no_key starts.InLines ps n column b rest ls x behind e = refl
no_key starts.LeftOut ps n column b rest ls x behind e = refl
no_key starts.Refused ps n column b rest ls x behind e = refl

-- ---- keys

pub key_no_comment : {column b : ℕ} {rest k after : List ℕ} {behind : ℕ} → IsKey column (b ∷ rest) k behind after → (b == 35) ≡ false
key_no_comment (plain_is {b = b} {bytes = rest} s i m some) =
    elim (tested (b == 35)) [
      | inr h ↦ h
      | inl h ↦ absurd (let q : start 35 rest ≡ starts.Plain = subst (λ (x : ℕ). start x rest ≡ starts.Plain) (eqb-true b 35 h) s in cc)
    ]
key_no_comment (quoted_is {b = b} {bytes = rest} s i c some) =
    elim (tested (b == 35)) [
      | inr h ↦ h
      | inl h ↦ absurd (let q : start 35 rest ≡ starts.InQuotes = subst (λ (x : ℕ). start x rest ≡ starts.InQuotes) (eqb-true b 35 h) s in cc)
    ]

key_read : {column b : ℕ} {rest k after : List ℕ} {behind : ℕ} → IsKey column (b ∷ rest) k behind after → (n : ℕ) (ps : List Piece) (ls : List RawLine)
    → node_by (start b rest) ps n column b rest ls ≡ value_at (ps ++ key n column k ∷ []) n behind after ls
key_read {column = column} (plain_is {b = b} {behind = behind} {bytes = rest} {s = k} {rest = after} s i m some) n ps ls =
    let r = key_text_read i in
    ap (λ (x : Start). node_by x ps n column b rest ls) s ∙ ap (λ (o : Option ℕ). plain_key ps n column (b ∷ rest) o ls) r.1 ∙ rw (r.2, m, some, r.4) (ap (λ (x : ℕ). value_at (ps ++ key n column k ∷ []) n x after ls) r.3)
key_read {column = column} (quoted_is {b = b} {bytes = rest} {s = k} {rest = after} s i c some) n ps ls =
    let two = quote_is b rest s in
    let lt = inside_shorter b two i in
    let same : column + (length (b ∷ rest) - length (58 ∷ after)) + 1 ≡ column + (length (b ∷ rest) - length after) = omega arith in
    ap (λ (x : Start). node_by x ps n column b rest ls) s ∙ ap (λ (x : State × Option (List ℕ)). quoted_key ps n column (b ∷ rest) x.0 x.1 ls) (inside_read b two rest k (58 ∷ after) n i) ∙ rw (c, some) (ap (λ (x : ℕ). value_at (ps ++ key n column k ∷ []) n x after ls) same)

value_read : (ps : List Piece) (n column at height : ℕ) (bytes rest : List ℕ) (x : Node) (ls behind : List RawLine) → IsAt column bytes at rest → height ≤ 64 → IsLeaf (floor ps) n rest ls x height behind
    → value_at ps n column bytes ls ≡ found (ps ++ leaf n at x height false ∷ []) behind
value_read ps n column at height bytes [] x ls behind a low l = elim l [ ]
value_read ps n column at height bytes (b ∷ rest) x ls behind a low l =
    let some = some_left a (leaf_no_comment (floor ps) n b rest ls x height behind l) false in
    let is = at_is a in
    rw some (ap (λ (w : List ℕ). leaf_at ps n false (column + (length bytes - length w)) w ls) (sym is.0) ∙ ap (λ (c : ℕ). leaf_at ps n false c (b ∷ rest) ls) (sym is.1) ∙ leaf_read ps n false at b height rest x ls behind low l)

-- ---- a line

pushed : (ps : List Piece) (p q : Piece) → (ps ++ p ∷ []) ++ q ∷ [] ≡ ps ++ p ∷ q ∷ []
pushed ps p q = append_assoc ps (p ∷ []) (q ∷ [])

-- what begins at this column and is no dash
here_read : {column at : ℕ} {bytes rest : List ℕ} → IsAt column bytes at rest → (ps : List Piece) (n : ℕ) (spaced : Bool) (ls : List RawLine) (b : ℕ) (more : List ℕ) → rest ≡ b ∷ more → is_dash rest ≡ false → (b == 35) ≡ false
    → heads ps n spaced column bytes ls ≡ node_by (start b more) ps n at b more ls
here_read {column = column} {at = at} {bytes = bytes} {rest = rest} a ps n spaced ls b more is no_dash no_comment =
    let r = at_read a ps n spaced ls in
    let a' : IsAt column bytes at (b ∷ more) = subst (λ (x : List ℕ). IsAt column bytes at x) is a in
    let d : is_dash (b ∷ more) ≡ false = ap is_dash (sym is) ∙ no_dash in
    r.1 ∙ ap (λ (x : List ℕ). heads ps n r.0 at x ls) is ∙ step ps n at b r.0 more ls (at_no_blank a') no_comment ∙ rw d refl

front_of : {column at : ℕ} {bytes rest : List ℕ} → IsAt column bytes at rest → (b : ℕ) × (more : List ℕ) × (rest ≡ b ∷ more)
front_of (here {b = b} {bytes = bytes} h) = (b, bytes, refl)
front_of (blank h a) = front_of a

dash_no_comment : (b : ℕ) (rest : List ℕ) → is_dash (b ∷ rest) ≡ true → (b == 35) ≡ false
dash_no_comment b rest e = ap (λ (c : ℕ). c == 35) (eqb-true b 45 (and_true (b == 45) (breaks rest) e).0)

pub heads_read : {n right column : ℕ} {spaced : Bool} {bytes : List ℕ} {ls ls' : List RawLine} {qs : List Piece} → IsHeads n right spaced column bytes ls qs ls' → (ps : List Piece) → right ≡ floor ps → Low qs → heads ps n spaced column bytes ls ≡ found (ps ++ qs) ls'
heads_read {n = n} {column = column} {spaced = spaced} {bytes = bytes} {ls = ls} (nothing e) ps f low = nothing_read bytes ps n column spaced ls e ∙ ap (λ (qs : List Piece). found qs ls) (sym (append-nil ps))
heads_read {n = n} {column = column} {spaced = spaced} {bytes = bytes} {ls = ls} {ls' = ls'} (dash_is {at = at} {b = b} {rest = rest} {ps = qs} a d r) ps f low =
    let w = at_read a ps n spaced ls in
    let more = heads_read r (ps ++ dash n at ∷ []) (sym (floor_more ps (dash n at))) low.1 in
    w.1 ∙ step ps n at b w.0 rest ls (at_no_blank a) (dash_no_comment b rest d) ∙ rw d (more ∙ ap (λ (x : List Piece). found x ls') (append_assoc ps (dash n at ∷ []) qs))
heads_read {n = n} {column = column} {spaced = spaced} {bytes = bytes} {ls = ls} {ls' = ls'} (leaf_is {right = right} {at = at} {height = height} {rest = rest} {x = x} a d l) ps f low =
    let r = front_of a in
    let l' : IsLeaf (floor ps) n (r.0 ∷ r.1) ls x height ls' = subst (λ (k : ℕ). IsLeaf k n (r.0 ∷ r.1) ls x height ls') f (subst (λ (bytes : List ℕ). IsLeaf right n bytes ls x height ls') r.2 l) in
    here_read a ps n spaced ls r.0 r.1 r.2 d (leaf_no_comment (floor ps) n r.0 r.1 ls x height ls' l')
    ∙ no_key (start r.0 r.1) ps n at r.0 r.1 ls (x, height) ls' (leaf_told (floor ps) true n r.0 r.1 ls x height ls' low.0 l') ∙ leaf_read ps n true at r.0 height r.1 x ls ls' low.0 l'
heads_read {n = n} {column = column} {spaced = spaced} {ls = ls} (key_is {at = at} {behind = behind} {rest = rest} {k = k} {after = after} a d key' e) ps f low =
    let r = front_of a in
    let key'' : IsKey at (r.0 ∷ r.1) k behind after = subst (λ (x : List ℕ). IsKey at x k behind after) r.2 key' in
    here_read a ps n spaced ls r.0 r.1 r.2 d (key_no_comment key'') ∙ key_read key'' n ps ls ∙ rw e refl
heads_read {n = n} {column = column} {spaced = spaced} {ls = ls} {ls' = ls'} (key_value {at = at} {behind = behind} {value = value} {height = height} {rest = rest} {k = k} {after = after} {bytes' = bytes'} {x = x} a d key' v l) ps f low =
    let r = front_of a in
    let key'' : IsKey at (r.0 ∷ r.1) k behind after = subst (λ (x : List ℕ). IsKey at x k behind after) r.2 key' in
    let l' : IsLeaf (floor (ps ++ key n at k ∷ [])) n bytes' ls x height ls' = subst (λ (right : ℕ). IsLeaf right n bytes' ls x height ls') (sym (floor_more ps (key n at k))) l in
    here_read a ps n spaced ls r.0 r.1 r.2 d (key_no_comment key'') ∙ key_read key'' n ps ls
    ∙ value_read (ps ++ key n at k ∷ []) n behind value height after bytes' x ls ls' v low.1.0 l' ∙ ap (λ (qs : List Piece). found qs ls') (pushed ps (key n at k) (leaf n value x height false))
