-- The pieces of the notation are read, but for what their flow holds, up to flow in which a key is repeated.
use Rattle.std.proofs.Common.{◌≡◌, ℕ, suc, zero, ◌+◌, ◌-◌, ◌<◌, ◌≤◌, Bool, true, false, cond, ◌&&◌, ◌||◌, inl, inr, List, [], ◌∷◌, ◌++◌, length, Option, Some, None, Result, Ok, Err, refl, sym, ap, subst, ◌∙◌, append_assoc, arith}
use Rattle.std.specs.Prelude.{◌==◌, not, min}
use Rattle.std.proofs.lemmas.Bool.{eqb-true, and_right}
use Rattle.std.proofs.lemmas.List.{append-nil}
use Rattle.yaml_scan.specs.declared.line.RawLine.{RawLine}
use Rattle.yaml_scan.specs.declared.fault.Code.{Code}
use Rattle.yaml_scan.specs.declared.fault.Code.TheVariants.{RepeatedKey}
use Rattle.yaml_scan.specs.Words.{is_blank, breaks, nothing_left, without_blanks}
use Rattle.yaml_scan.specs.Lines.{is_blank_line}
use Rattle.yaml_scan.specs.Quoted.{State}
use Rattle.yaml_tree.specs.declared.node.Node.{Node}
use Rattle.yaml_tree.specs.declared.piece.Piece.{Piece}
use Rattle.yaml_tree.specs.declared.piece.What.{What}
use Rattle.yaml_tree.specs.declared.piece.What.TheVariants.{Dash, Key, Leaf}
use Rattle.yaml_tree.specs.declared.starts.Start.{Start}
use Rattle.yaml_tree.specs.declared.starts.Start.TheVariants as starts
use Rattle.yaml_tree.specs.Starts.{start}
use Rattle.yaml_tree.specs.Flow.{Ended}
use Rattle.yaml_tree.specs.Keys.{IsKey, plain as plain_is, quoted as quoted_is}
use Rattle.yaml_tree.specs.Leaves.{Leafs, flow_by, leaf_by, colon_behind}
use Rattle.yaml_tree.specs.Pieces.{Found, found, dash, key, leaf, floor, leaf_found, leaf_at, value_at, plain_key, quoted_key, node_by, heads, line_heads, is_begun, go_on, pieces}
use Rattle.yaml_tree.specs.Spelling.{IsAt, here, blank, is_dash, in_quotes, in_lines, is_plain, in_brackets as strict_brackets, nothing as strict_nothing, leaf as strict_leaf, key as strict_key, key_value as strict_value}
use Rattle.yaml_tree.proofs.BracketSteps.{quote_is}
use Rattle.yaml_tree.proofs.KeyTexts.{key_text_read}
use Rattle.yaml_tree.proofs.LinesFound.{tested, and_true}
use Rattle.yaml_tree.proofs.OneLine.{inside_read, inside_shorter}
use Rattle.yaml_tree.proofs.PiecesFound.{floor_more, at_longer}
use Rattle.yaml_tree.proofs.PiecesRead.{heads_read, key_no_comment}
use Rattle.yaml_tree.proofs.Shorter.{end_shorter}
use Rattle.yaml_laws.proofs.FollowedLines.{go_none, go_some}
use Rattle.yaml_rules.specs.LooseFlow.{IsFlow}
use Rattle.yaml_rules.specs.LooseText.{AreOrderly, of_grammar, in_brackets, IsLooseHeads, nothing, dash as dash_is, leaf as leaf_is, key as key_is, key_value, IsLoosePieces, none as no_pieces, line as a_line}
use Rattle.yaml_rules.proofs.Spelled.{loose_end}
use Rattle.yaml_rules.proofs.LooseHeads.{the_repeated}
use Rattle.yaml_rules.proofs.LooseLines.{or_left, or_right, still_orderly, not_over, orderly_line, orderly_behind, blank_heads, line_is}
use Rattle.yaml_codes.proofs.LooseOf.{flow_loosely}
use Rattle.yaml_codes.proofs.LooseTold.{flow_read}

-- ---- pieces that are the same but for their flow

-- where it is exact, flow that is not too high is the same too
pub data SameWhat (exact : Bool) : What → What → Type 0 where
  same_dash : SameWhat exact Dash Dash
  same_key : {k : List ℕ} → SameWhat exact (Key k) (Key k)
  same_leaf : {x y : Node} {height other : ℕ} {out out' : Bool} → (exact ≡ true → height ≤ 64 → y ≡ x) → SameWhat exact (Leaf y height out) (Leaf x other out')

pub data Same (exact : Bool) : List Piece → List Piece → Type 0 where
  no_more : Same exact [] []
  one_more : {line column : ℕ} {w v : What} {ps qs : List Piece} → SameWhat exact w v → Same exact ps qs
      → Same exact (record { line = line; column = column; what = w } ∷ ps) (record { line = line; column = column; what = v } ∷ qs)

less_what : {w v : What} → SameWhat true w v → SameWhat false w v
less_what same_dash = same_dash
less_what same_key = same_key
less_what (same_leaf h) = same_leaf (λ e. absurd cc)

pub less_exact : {ps qs : List Piece} → Same true ps qs → Same false ps qs
less_exact no_more = no_more
less_exact (one_more w s) = one_more (less_what w) (less_exact s)

same_append : {exact : Bool} {ps qs xs ys : List Piece} → Same exact ps qs → Same exact xs ys → Same exact (ps ++ xs) (qs ++ ys)
same_append no_more b = b
same_append (one_more w a) b = one_more w (same_append a b)

same_floor : {exact : Bool} {ps qs : List Piece} → Same exact ps qs → floor ps ≡ floor qs
unfolding floor
same_floor no_more = refl
same_floor (one_more w no_more) = refl
same_floor {exact = exact} (one_more w (one_more {line = l} {column = c} {w = x} {v = y} {ps = ps} {qs = qs} v a)) = same_floor {exact = exact} (one_more {line = l} {column = c} {w = x} {v = y} {ps = ps} {qs = qs} v a)

-- ---- scalars and flow

-- where nothing is left there is no colon
no_colon : (bytes : List ℕ) (spaced : Bool) → nothing_left spaced bytes ≡ true → colon_behind (without_blanks bytes) ≡ false
unfolding nothing_left without_blanks
no_colon [] spaced e = refl
no_colon (b ∷ bytes) spaced e = elim (tested (is_blank b)) [
  | inl h ↦ rw h (no_colon bytes (b == 32) (rw h at e))
  | inr h ↦
      let sign : (b == 35 && spaced) ≡ true = rw h at e in
      rw h (ap (λ (c : ℕ). c == 58 && breaks bytes) (eqb-true b 35 (and_true (b == 35) spaced sign).0))
]

module _ (n : ℕ) where
  -- a leaf is read, or a key is repeated in it
  data LeafAs (x : Node) (ls : List RawLine) : Leafs → Type 0 where
    read_as : {y : Node} {height : ℕ} → (height ≤ 64 → y ≡ x) → LeafAs x ls (Ok ((y, height), ls))
    repeated : LeafAs x ls (Err (the_repeated n))

  flow_as : (fresh : Bool) (ls : List RawLine) (x : Node) (height : ℕ) (e : Ended) → nothing_left false e.rest ≡ true → (height ≤ 64 → e.node ≡ x) → min height 65 ≤ e.height → LeafAs x ls (flow_by fresh n (Ok e) ls)
  flow_as fresh ls x height e left same tall = rw (and_right fresh (colon_behind (without_blanks e.rest)) (no_colon e.rest false left), left) (by e.repeated)
    where
      by : (b : Bool) → LeafAs x ls (cond b (Err (the_repeated n)) (Ok ((e.node, e.height), ls)))
      by true = repeated
      by false = read_as (λ le. same (omega (arith, le, tall)))

  bracket_as : (right : ℕ) (fresh : Bool) (b height : ℕ) (rest left : List ℕ) (ls : List RawLine) (x : Node) → start b rest ≡ starts.InBrackets → IsFlow n (b ∷ rest) x height left → nothing_left false left ≡ true
      → LeafAs x ls (leaf_by (start b rest) right fresh n b rest ls)
  bracket_as right fresh b height rest left ls x s f d =
      let r = flow_read n b rest x height left f s in
      let is : leaf_by (start b rest) right fresh n b rest ls ≡ flow_by fresh n (Ok r.ended_as) ls =
      ap (λ (t : Start). leaf_by t right fresh n b rest ls) s ∙ ap (λ (z : Result Ended Code). flow_by fresh n z ls) r.is in
      let d' : nothing_left false r.ended_as.rest ≡ true = ap (nothing_left false) r.left ∙ d in
      subst (LeafAs x ls) (sym is) (flow_as fresh ls x height r.ended_as d' r.same r.tall)

  -- ---- a line

  pub data HeadsAs (ps whole : List Piece) (ls : List RawLine) (f : Found) : Type 0 where
    reads_as : (qs : List Piece) → f ≡ found (ps ++ qs) ls → Same true qs whole → HeadsAs ps whole ls f
    stops_as : (qs : List Piece) → f.pieces ≡ ps ++ qs → f.fault ≡ Some (the_repeated n).fault → Same false qs whole → HeadsAs ps whole ls f

  found_as : (ps : List Piece) (column height : ℕ) (x : Node) (ls ls' : List RawLine) (r : Leafs) → LeafAs x ls' r → HeadsAs ps (leaf n column x height false ∷ []) ls' (leaf_found ps n column r ls)
  found_as ps column height x ls ls' (Ok z) (read_as {y = y} {height = own} same) = reads_as (leaf n column y own false ∷ []) refl (one_more (same_leaf (λ e le. same le)) no_more)
  found_as ps column height x ls ls' (Err w) repeated = stops_as (_ ∷ []) refl refl (one_more (same_leaf (λ e. absurd cc)) no_more)

  -- a dash or a key before
  more_as : (ps whole : List Piece) (p : Piece) (ls : List RawLine) (f : Found) → ((exact : Bool) → SameWhat exact p.what p.what) → HeadsAs (ps ++ p ∷ []) whole ls f → HeadsAs ps (p ∷ whole) ls f
  more_as ps whole p ls f like (reads_as qs e s) = reads_as (p ∷ qs) (e ∙ ap (λ (xs : List Piece). found xs ls) (append_assoc ps (p ∷ []) qs)) (one_more (like true) s)
  more_as ps whole p ls f like (stops_as qs e e' s) = stops_as (p ∷ qs) (e ∙ append_assoc ps (p ∷ []) qs) e' (one_more (like false) s)

  as_leaf : (ps : List Piece) (column own height : ℕ) (x : Node) (ls : List RawLine) (f : Found) → f ≡ found (ps ++ leaf n column x own false ∷ []) ls → HeadsAs ps (leaf n column x height false ∷ []) ls f
  as_leaf ps column own height x ls f e = reads_as (leaf n column x own false ∷ []) e (one_more (same_leaf (λ e le. refl)) no_more)

  as_value : (ps : List Piece) (at column own height : ℕ) (k : List ℕ) (x : Node) (ls : List RawLine) (f : Found) → f ≡ found (ps ++ key n at k ∷ leaf n column x own false ∷ []) ls → HeadsAs ps (key n at k ∷ leaf n column x height false ∷ []) ls f
  as_value ps at column own height k x ls f e = reads_as (key n at k ∷ leaf n column x own false ∷ []) e (one_more same_key (one_more (same_leaf (λ e le. refl)) no_more))

  -- ---- where a node begins

  at_no_blank : {column at b : ℕ} {bytes rest : List ℕ} → IsAt column bytes at (b ∷ rest) → is_blank b ≡ false
  at_no_blank (here h) = h
  at_no_blank (blank h a) = at_no_blank a

  at_read : {column at : ℕ} {bytes rest : List ℕ} → IsAt column bytes at rest → (ps : List Piece) (spaced : Bool) (ls : List RawLine) → (spaced' : Bool) × (heads ps n spaced column bytes ls ≡ heads ps n spaced' at rest ls)
  unfolding heads
  at_read (here h) ps spaced ls = (spaced, refl)
  at_read (blank {b = b} h a) ps spaced ls =
      let r = at_read a ps (b == 32) ls in
      (r.0, rw h r.1)

  step : (ps : List Piece) (at b : ℕ) (spaced : Bool) (rest : List ℕ) (ls : List RawLine) → is_blank b ≡ false → (b == 35) ≡ false
      → heads ps n spaced at (b ∷ rest) ls ≡ cond (is_dash (b ∷ rest)) (heads (ps ++ dash n at ∷ []) n false (at + 1) rest ls) (node_by (start b rest) ps n at b rest ls)
  unfolding heads
  step ps at b spaced rest ls h k = rw (h, k) refl

  at_is : {column at : ℕ} {bytes rest : List ℕ} → IsAt column bytes at rest → (rest ≡ without_blanks bytes) × (at ≡ column + (length bytes - length rest)) × (length rest ≤ length bytes)
  unfolding without_blanks
  at_is (here {column = column} {b = b} {bytes = bytes} h) = (rw h refl, omega arith, omega arith)
  at_is (blank {column = column} {at = at} {b = b} {bytes = bytes} {rest = rest} h a) =
      let r = at_is a in
      (rw h r.0, omega (arith, r.1, r.2), omega (arith, r.2))

  some_left : {column at b : ℕ} {bytes rest : List ℕ} → IsAt column bytes at (b ∷ rest) → (b == 35) ≡ false → (spaced : Bool) → nothing_left spaced bytes ≡ false
  unfolding nothing_left
  some_left (here h) k spaced = rw (h, k) refl
  some_left (blank {b = b} h a) k spaced = rw h (some_left a k (b == 32))

  key_read : {column b : ℕ} {rest k after : List ℕ} {behind : ℕ} → IsKey column (b ∷ rest) k behind after → (ps : List Piece) (ls : List RawLine)
      → node_by (start b rest) ps n column b rest ls ≡ value_at (ps ++ key n column k ∷ []) n behind after ls
  key_read {column = column} (plain_is {b = b} {behind = behind} {bytes = rest} {s = k} {rest = after} s i m some) ps ls =
      let r = key_text_read i in
      ap (λ (x : Start). node_by x ps n column b rest ls) s ∙ ap (λ (o : Option ℕ). plain_key ps n column (b ∷ rest) o ls) r.1 ∙ rw (r.2, m, some, r.4) (ap (λ (x : ℕ). value_at (ps ++ key n column k ∷ []) n x after ls) r.3)
  key_read {column = column} (quoted_is {b = b} {bytes = rest} {s = k} {rest = after} s i c some) ps ls =
      let two = quote_is b rest s in
      let lt = inside_shorter b two i in
      let same : column + (length (b ∷ rest) - length (58 ∷ after)) + 1 ≡ column + (length (b ∷ rest) - length after) = omega arith in
      ap (λ (x : Start). node_by x ps n column b rest ls) s ∙ ap (λ (x : State × Option (List ℕ)). quoted_key ps n column (b ∷ rest) x.0 x.1 ls) (inside_read b two rest k (58 ∷ after) n i) ∙ rw (c, some) (ap (λ (x : ℕ). value_at (ps ++ key n column k ∷ []) n x after ls) same)

  -- what begins at this column and is no dash
  here_read : {column at : ℕ} {bytes rest : List ℕ} → IsAt column bytes at rest → (ps : List Piece) (spaced : Bool) (ls : List RawLine) (b : ℕ) (more : List ℕ) → rest ≡ b ∷ more → is_dash rest ≡ false → (b == 35) ≡ false
      → heads ps n spaced column bytes ls ≡ node_by (start b more) ps n at b more ls
  here_read {column = column} {at = at} {bytes = bytes} {rest = rest} a ps spaced ls b more is no_dash no_comment =
      let r = at_read a ps spaced ls in
      let a' : IsAt column bytes at (b ∷ more) = subst (λ (x : List ℕ). IsAt column bytes at x) is a in
      let d : is_dash (b ∷ more) ≡ false = ap is_dash (sym is) ∙ no_dash in
      r.1 ∙ ap (λ (x : List ℕ). heads ps n r.0 at x ls) is ∙ step ps at b r.0 more ls (at_no_blank a') no_comment ∙ rw d refl

  dash_no_comment : (b : ℕ) (rest : List ℕ) → is_dash (b ∷ rest) ≡ true → (b == 35) ≡ false
  dash_no_comment b rest e = ap (λ (c : ℕ). c == 35) (eqb-true b 45 (and_true (b == 45) (breaks rest) e).0)

  bracket_no_comment : (b : ℕ) (rest : List ℕ) → start b rest ≡ starts.InBrackets → (b == 35) ≡ false
  bracket_no_comment b rest s = elim (tested (b == 35)) [
    | inr h ↦ h
    | inl h ↦ absurd (let q : start 35 rest ≡ starts.InBrackets = subst (λ (c : ℕ). start c rest ≡ starts.InBrackets) (eqb-true b 35 h) s in cc)
  ]

  -- flow where a node begins, and behind a key
  bracket_leaf : (spaced : Bool) {column at height own b : ℕ} {bytes rest left : List ℕ} {x : Node} {ls : List RawLine} → IsAt column bytes at (b ∷ rest) → is_dash (b ∷ rest) ≡ false → start b rest ≡ starts.InBrackets
      → IsFlow n (b ∷ rest) x own left → nothing_left false left ≡ true → (ps : List Piece) → HeadsAs ps (leaf n at x height false ∷ []) ls (heads ps n spaced column bytes ls)
  bracket_leaf spaced {at = at} {height = height} {own = own} {b = b} {rest = rest} {left = left} {x = x} {ls = ls} a d s f e ps =
      let is = here_read a ps spaced ls b rest refl d (bracket_no_comment b rest s) ∙ ap (λ (t : Start). node_by t ps n at b rest ls) s in
      subst (HeadsAs ps (leaf n at x height false ∷ []) ls) (sym is) (found_as ps at height x ls ls (leaf_by (start b rest) (floor ps) true n b rest ls) (bracket_as (floor ps) true b own rest left ls x s f e))

  bracket_value : (spaced : Bool) {column at behind value height own b : ℕ} {bytes rest k after more left : List ℕ} {x : Node} {ls : List RawLine} → IsAt column bytes at rest → is_dash rest ≡ false → IsKey at rest k behind after
      → IsAt behind after value (b ∷ more) → start b more ≡ starts.InBrackets → IsFlow n (b ∷ more) x own left → nothing_left false left ≡ true → (ps : List Piece)
      → HeadsAs ps (key n at k ∷ leaf n value x height false ∷ []) ls (heads ps n spaced column bytes ls)
  bracket_value spaced {at = at} {behind = behind} {value = value} {height = height} {own = own} {b = b} {rest = rest} {k = k} {after = after} {more = more} {left = left} {x = x} {ls = ls} a d key' v s f e ps =
      let r = at_longer a in
      let key'' : IsKey at (r.0 ∷ r.1) k behind after = subst (λ (y : List ℕ). IsKey at y k behind after) r.2 key' in
      let some = some_left v (bracket_no_comment b more s) false in
      let w = at_is v in
      let value_is : value_at (ps ++ key n at k ∷ []) n behind after ls ≡ leaf_at (ps ++ key n at k ∷ []) n false value (b ∷ more) ls =
      rw some (ap (λ (y : List ℕ). leaf_at (ps ++ key n at k ∷ []) n false (behind + (length after - length y)) y ls) (sym w.0) ∙ ap (λ (c : ℕ). leaf_at (ps ++ key n at k ∷ []) n false c (b ∷ more) ls) (sym w.1)) in
      let is = here_read a ps spaced ls r.0 r.1 r.2 d (key_no_comment key'') ∙ key_read key'' ps ls ∙ value_is in
      more_as ps (leaf n value x height false ∷ []) (key n at k) ls (heads ps n spaced _ _ ls) (λ exact. same_key)
      (subst (HeadsAs (ps ++ key n at k ∷ []) (leaf n value x height false ∷ []) ls) (sym is)
      (found_as (ps ++ key n at k ∷ []) value height x ls ls (leaf_by (start b more) (floor (ps ++ key n at k ∷ [])) false n b more ls) (bracket_as (floor (ps ++ key n at k ∷ [])) false b own more left ls x s f e)))

  pub heads_as : {right column : ℕ} {spaced : Bool} {bytes : List ℕ} {ls ls' : List RawLine} {whole : List Piece} → IsLooseHeads n right spaced column bytes ls whole ls' → (ps : List Piece) → right ≡ floor ps → HeadsAs ps whole ls' (heads ps n spaced column bytes ls)
  heads_as {ls = ls} (nothing {right = right} e) ps f = reads_as [] (heads_read (strict_nothing {right = right} e) ps f tt) no_more
  heads_as {column = column} {spaced = spaced} {bytes = bytes} {ls = ls} {ls' = ls'} (dash_is {at = at} {b = b} {rest = rest} {ps = whole} a d r) ps f =
      let w = at_read a ps spaced ls in
      let is : heads ps n spaced column bytes ls ≡ heads (ps ++ dash n at ∷ []) n false (at + 1) rest ls = w.1 ∙ step ps at b w.0 rest ls (at_no_blank a) (dash_no_comment b rest d) ∙ rw d refl in
      more_as ps whole (dash n at) ls' (heads ps n spaced column bytes ls) (λ exact. same_dash)
      (subst (HeadsAs (ps ++ dash n at ∷ []) whole ls') (sym is) (heads_as r (ps ++ dash n at ∷ []) (sym (floor_more ps (dash n at)))))
  heads_as {ls' = ls'} (leaf_is {at = at} {height = height} {spaced = spaced} {x = x} a d (of_grammar (in_quotes s q))) ps f = as_leaf ps at 1 height x ls' _ (heads_read (strict_leaf {spaced = spaced} a d (in_quotes s q)) ps f (omega arith, tt))
  heads_as {ls' = ls'} (leaf_is {at = at} {height = height} {spaced = spaced} {x = x} a d (of_grammar (in_lines s q))) ps f = as_leaf ps at 1 height x ls' _ (heads_read (strict_leaf {spaced = spaced} a d (in_lines s q)) ps f (omega arith, tt))
  heads_as {ls' = ls'} (leaf_is {at = at} {height = height} {spaced = spaced} {x = x} a d (of_grammar (is_plain s q))) ps f = as_leaf ps at 1 height x ls' _ (heads_read (strict_leaf {spaced = spaced} a d (is_plain s q)) ps f (omega arith, tt))
  heads_as (leaf_is {spaced = spaced} a d (of_grammar (strict_brackets s g e))) ps f = bracket_leaf spaced a d s (flow_loosely g) e ps
  heads_as (leaf_is {spaced = spaced} a d (in_brackets s g e)) ps f = bracket_leaf spaced a d s g e ps
  heads_as {ls = ls} (key_is {right = right} {at = at} {spaced = spaced} {k = k} a d i e) ps f = reads_as (key n at k ∷ []) (heads_read (strict_key {right = right} {spaced = spaced} a d i e) ps f (tt, tt)) (one_more same_key no_more)
  heads_as {ls' = ls'} (key_value {right = right} {at = at} {value = v} {height = height} {spaced = spaced} {k = k} {x = x} a d i w (of_grammar (in_quotes s q))) ps f =
      as_value ps at v 1 height k x ls' _ (heads_read (strict_value {right = right} {spaced = spaced} a d i w (in_quotes s q)) ps f (tt, (omega arith, tt)))
  heads_as {ls' = ls'} (key_value {right = right} {at = at} {value = v} {height = height} {spaced = spaced} {k = k} {x = x} a d i w (of_grammar (in_lines s q))) ps f =
      as_value ps at v 1 height k x ls' _ (heads_read (strict_value {right = right} {spaced = spaced} a d i w (in_lines s q)) ps f (tt, (omega arith, tt)))
  heads_as {ls' = ls'} (key_value {right = right} {at = at} {value = v} {height = height} {spaced = spaced} {k = k} {x = x} a d i w (of_grammar (is_plain s q))) ps f =
      as_value ps at v 1 height k x ls' _ (heads_read (strict_value {right = right} {spaced = spaced} a d i w (is_plain s q)) ps f (tt, (omega arith, tt)))
  heads_as (key_value {spaced = spaced} a d i w (of_grammar (strict_brackets s g e))) ps f = bracket_value spaced a d i w s (flow_loosely g) e ps
  heads_as (key_value {spaced = spaced} a d i w (in_brackets s g e)) ps f = bracket_value spaced a d i w s g e ps

-- ---- all lines

-- the pieces are those of the notation, or a front of them up to flow in which a key is repeated
pub data PiecesAs (whole : List Piece) (f : Found) : Type 0 where
  all_as : f.fault ≡ None → Same true f.pieces whole → PiecesAs whole f
  front_as : (m : ℕ) (front tail : List Piece) → f.fault ≡ Some (record { line = m; code = RepeatedKey }) → whole ≡ front ++ tail → Same false f.pieces front → PiecesAs whole f

loose_front : {before whole : List Piece} {ls : List RawLine} → IsLoosePieces before ls whole → (tail : List Piece) × (whole ≡ before ++ tail)
loose_front (no_pieces {found = before}) = ([], sym (append-nil before))
loose_front (a_line {found = before} {ps = ps} i r) =
    let t = loose_front r in
    (ps ++ t.0, t.1 ∙ append_assoc before ps t.0)

pub pieces_as : (turns : ℕ) (ps before : List Piece) (begun : Bool) (ls : List RawLine) (whole : List Piece) → length ls < turns → (is_begun ps ≡ true → begun ≡ true) → AreOrderly begun ls → Same true ps before → IsLoosePieces before ls whole → PiecesAs whole (pieces turns ps ls)
unfolding pieces
pieces_as zero ps before begun ls whole lt some c s p = absurd (omega arith)
pieces_as (suc turns) ps before begun [] whole lt some c s no_pieces = all_as refl s
pieces_as (suc turns) ps before begun (l ∷ ls) whole lt some c s (a_line {ps = new} {ls' = ls'} i r) =
    let over = not_over ps begun l ls some c in
    let is = line_is ps l ls (orderly_line c) in
    let le = end_shorter (loose_end i) in
    let next = still_orderly (loose_end i) (begun || not (is_blank_line l)) (orderly_behind c) in
    rw over (by (line_heads ps l ls) (subst (HeadsAs l.line ps new ls') (sym is) (heads_as l.line i ps (sym (same_floor s)))) (λ blank. is ∙ blank_heads l.content ps l.line l.indent ls blank)
    (λ qs some' same. pieces_as turns (ps ++ qs) (before ++ new) next.0 ls' whole (omega (arith, le, lt)) (λ h. next.1 (some' h)) next.2 (same_append s same) r))
  where
    by : (f : Found) → HeadsAs l.line ps new ls' f → (is_blank_line l ≡ true → f ≡ found ps ls)
        → ((qs : List Piece) → (is_begun (ps ++ qs) ≡ true → (begun || not (is_blank_line l)) ≡ true) → Same true qs new → PiecesAs whole (pieces turns (ps ++ qs) ls')) → PiecesAs whole (go_on f f.fault (pieces turns))
    by f (stops_as qs e e' same) empty go =
        let t = loose_front r in
        subst (PiecesAs whole) (sym (go_some f f.fault (record { line = l.line; code = RepeatedKey }) (pieces turns) e'))
        (front_as l.line (before ++ new) t.0 e' t.1 (subst (λ (xs : List Piece). Same false xs (before ++ new)) (sym e) (same_append (less_exact s) same)))
    by f (reads_as qs e same) empty go =
        let grows : is_begun (ps ++ qs) ≡ true → (begun || not (is_blank_line l)) ≡ true = λ h. elim (tested (is_blank_line l)) [
          | inr n ↦ rw n (or_right begun)
          | inl y ↦
              let both : found (ps ++ qs) ls' ≡ found ps ls = sym e ∙ empty y in
              let are : ps ++ qs ≡ ps = ap (λ (x : Found). x.pieces) both in
              or_left begun (not (is_blank_line l)) (some (ap is_begun (sym are) ∙ h))
        ] in
        let goes : go_on f f.fault (pieces turns) ≡ pieces turns (ps ++ qs) ls' = go_none f f.fault (pieces turns) (ap (λ (x : Found). x.fault) e) ∙ ap (λ (x : Found). pieces turns x.pieces x.rest) e in
        subst (PiecesAs whole) (sym goes) (go qs grows same)
