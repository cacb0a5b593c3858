-- The pieces of some lines, and of these with further ones behind them.
use Rattle.std.proofs.Common.{◌≡◌, ℕ, ◌+◌, ◌-◌, ◌≤◌, Bool, true, false, cond, ◌&&◌, List, [], ◌∷◌, ◌++◌, length, take, drop, Option, Some, None, Ok, Err, refl, sym, subst, ◌∙◌}
use Rattle.std.specs.Prelude.{◌==◌, not}
use Rattle.yaml_scan.specs.declared.line.RawLine.{RawLine}
use Rattle.yaml_scan.specs.declared.fault.Fault.{Fault}
use Rattle.yaml_scan.specs.declared.fault.Code.TheVariants.{Structure}
use Rattle.yaml_scan.specs.Words.{sees, is_blank, is_empty, is_some, breaks, nothing_left, colon_at, trimmed, without_blanks}
use Rattle.yaml_scan.specs.Quoted.{State, opened, run}
use Rattle.yaml_tree.specs.declared.node.Node.{Node}
use Rattle.yaml_tree.specs.declared.piece.Piece.{Piece}
use Rattle.yaml_tree.specs.declared.piece.What.{What}
use Rattle.yaml_tree.specs.declared.piece.What.TheVariants.{Leaf}
use Rattle.yaml_tree.specs.declared.starts.Start.{Start}
use Rattle.yaml_tree.specs.declared.starts.Start.TheVariants as starts
use Rattle.yaml_tree.specs.Starts.{start, is_merge}
use Rattle.yaml_tree.specs.Nodes.{null}
use Rattle.yaml_tree.specs.Leaves.{Leafs, colon_behind}
use Rattle.yaml_tree.specs.Pieces.{Found, found, floor, dash, key, leaf as leaf_piece, leaf_found, leaf_at, value_at, keyed, plain_key, quoted_key, node_by, heads, is_spaced, line_heads}
use Rattle.yaml_laws.proofs.Followed.{LikeWhat, leaf, like_itself, Alike, none, more}
use Rattle.yaml_laws.proofs.FollowedScalars.{AllLate, From, Goes, ends, wrong, LateFault, From_line, LeafAlong, same, fails, runs, opens, leaf_along}

-- no fault, and what is left stands behind the first lines; or a fault of a kind
pub data Further (k : ℕ) (G : Fault → Type 0) (g : Found) : Type 0 where
  clean : g.fault ≡ None → AllLate k g.rest → Further k G g
  spoilt : {v : Fault} → g.fault ≡ Some v → G v → Further k G g

pub data Beside (k : ℕ) (a : List RawLine) : Found → Found → Type 0 where
  same_found : {f g : Found} → f.fault ≡ None → g ≡ found f.pieces (f.rest ++ a) → Beside k a f g
  both_fail : {f g : Found} {o : Fault} → f.fault ≡ Some o → g.fault ≡ Some o → g.pieces ≡ f.pieces → Beside k a f g
  runs_out : {f g : Found} → f.fault ≡ None → f.rest ≡ [] → Alike f.pieces g.pieces → Further k (LateFault k) g → Beside k a f g
  is_open : {f g : Found} {o : Fault} → f.fault ≡ Some o → o.code ≡ Structure → Alike f.pieces g.pieces → Further k (From_line o.line) g → Beside k a f g

alike_last : (ps : List Piece) (n column : ℕ) (w v : What) → LikeWhat w v → Alike (ps ++ record { line = n; column = column; what = w } ∷ []) (ps ++ record { line = n; column = column; what = v } ∷ [])
alike_last [] n column w v l = more l none
alike_last (p ∷ ps) n column w v l = more (like_itself p.what) (alike_last ps n column w v l)

like_leaves : (x y : Node) (h h' : ℕ) (out out' : Bool) → h ≡ h' → out ≡ out' → LikeWhat (Leaf x h out) (Leaf y h' out')
like_leaves x y h h' out out' e e' = subst (λ (m : ℕ). LikeWhat (Leaf x h out) (Leaf y m out')) e (subst (λ (b : Bool). LikeWhat (Leaf x h out) (Leaf y h b)) e' leaf)

module _ (k : ℕ) (a : List RawLine) (late : AllLate k a) where
  either : (b : Bool) (f f' g g' : Found) → Beside k a f g → Beside k a f' g' → Beside k a (cond b f f') (cond b g g')
  either true f f' g g' p q = p
  either false f f' g g' p q = q

  as_they_were : (ps : List Piece) (ls : List RawLine) → Beside k a (found ps ls) (found ps (ls ++ a))
  as_they_were ps ls = same_found refl refl

  -- ---- leaves

  goes_further : (G : Fault → Type 0) (s : Leafs) (ps : List Piece) (n column : ℕ) (ls : List RawLine) → Goes k G s → Further k G (leaf_found ps n column s ls)
  goes_further G (Ok y) ps n column ls (ends h late_lines) = clean refl late_lines
  goes_further G (Err w) ps n column ls (wrong h g) = spoilt refl g

  goes_alike : (G : Fault → Type 0) (s : Leafs) (ps : List Piece) (n column : ℕ) (ls : List RawLine) (x : Node) (h : ℕ) (out : Bool) → h ≡ 1 → out ≡ false → Goes k G s
      → Alike (ps ++ leaf_piece n column x h out ∷ []) (leaf_found ps n column s ls).pieces
  goes_alike G (Ok y) ps n column ls x h out e e' (ends high late_lines) = alike_last ps n column _ _ (like_leaves x y.0.0 h y.0.1 out false (e ∙ sym high) e')
  goes_alike G (Err w) ps n column ls x h out e e' (wrong out_is g) = alike_last ps n column _ _ (like_leaves x (null n) h 1 out w.left_out e (e' ∙ sym out_is))

  found_beside : (r s : Leafs) (ps : List Piece) (n column : ℕ) (ls : List RawLine) → LeafAlong k a r s → Beside k a (leaf_found ps n column r ls) (leaf_found ps n column s (ls ++ a))
  found_beside (Ok x) (Ok y) ps n column ls (same e e') = same_found refl (rw (e, e') refl)
  found_beside (Err w) (Err v) ps n column ls fails = both_fail {o = w.fault} refl refl refl
  found_beside (Ok x) s ps n column ls (runs e high g) = runs_out refl e (goes_alike (LateFault k) s ps n column (ls ++ a) x.0.0 x.0.1 false high refl g) (goes_further (LateFault k) s ps n column (ls ++ a) g)
  found_beside (Err w) s ps n column ls (opens out code le g) =
      is_open {o = w.fault} refl code (goes_alike (From_line w.fault.line) s ps n column (ls ++ a) (null n) 1 w.left_out refl out g) (goes_further (From_line w.fault.line) s ps n column (ls ++ a) g)

  leaf_beside : (ps : List Piece) (n : ℕ) (fresh : Bool) (column : ℕ) (bytes : List ℕ) (ls : List RawLine) → n ≤ k → From n ls → Beside k a (leaf_at ps n fresh column bytes ls) (leaf_at ps n fresh column bytes (ls ++ a))
  leaf_beside ps n fresh column [] ls le from = as_they_were ps ls
  leaf_beside ps n fresh column (b ∷ rest) ls le from = found_beside _ _ ps n column ls (leaf_along k a late (start b rest) (floor ps) fresh n b rest ls le from)

  -- ---- keys

  value_beside : (ps : List Piece) (n column : ℕ) (bytes : List ℕ) (ls : List RawLine) → n ≤ k → From n ls → Beside k a (value_at ps n column bytes ls) (value_at ps n column bytes (ls ++ a))
  value_beside ps n column bytes ls le from = either (nothing_left false bytes) _ _ _ _ (as_they_were ps ls) (leaf_beside ps n false (column + (length bytes - length (without_blanks bytes))) (without_blanks bytes) ls le from)

  keyed_beside : (ps : List Piece) (n column : ℕ) (text : List ℕ) (behind : ℕ) (bytes : List ℕ) (ls : List RawLine) → n ≤ k → From n ls
      → Beside k a (keyed ps n column text behind bytes ls) (keyed ps n column text behind bytes (ls ++ a))
  keyed_beside ps n column text behind bytes ls le from =
      either (is_empty text) _ _ _ _ (both_fail {o = _} refl refl refl) (value_beside (ps ++ key n column text ∷ []) n behind bytes ls le from)

  plain_beside : (ps : List Piece) (n column : ℕ) (bytes : List ℕ) (c : Option ℕ) (ls : List RawLine) → n ≤ k → From n ls → Beside k a (plain_key ps n column bytes c ls) (plain_key ps n column bytes c (ls ++ a))
  plain_beside ps n column bytes None ls le from = leaf_beside ps n true column bytes ls le from
  plain_beside ps n column bytes (Some at) ls le from =
      either (is_merge (trimmed (take at bytes))) _ _ _ _ (both_fail {o = _} refl refl refl) (keyed_beside ps n column (trimmed (take at bytes)) (column + at + 1) (drop (at + 1) bytes) ls le from)

  quoted_beside : (ps : List Piece) (n column : ℕ) (bytes : List ℕ) (q : State) (end : Option (List ℕ)) (ls : List RawLine) → n ≤ k → From n ls
      → Beside k a (quoted_key ps n column bytes q end ls) (quoted_key ps n column bytes q end (ls ++ a))
  quoted_beside ps n column bytes q None ls le from = leaf_beside ps n true column bytes ls le from
  quoted_beside ps n column bytes q (Some rest) ls le from =
      either (not (colon_behind rest)) _ _ _ _ (leaf_beside ps n true column bytes ls le from)
      (either (is_some q.bad) _ _ _ _ (both_fail {o = _} refl refl refl) (keyed_beside ps n column q.text (column + (length bytes - length rest) + 1) (drop 1 rest) ls le from))

  start_beside : (t : Start) (ps : List Piece) (n column b : ℕ) (rest : List ℕ) (ls : List RawLine) → n ≤ k → From n ls → Beside k a (node_by t ps n column b rest ls) (node_by t ps n column b rest (ls ++ a))
  start_beside starts.InQuotes ps n column b rest ls le from = quoted_beside ps n column (b ∷ rest) (run (opened b n) rest).0 (run (opened b n) rest).1 ls le from
  start_beside starts.Plain ps n column b rest ls le from = plain_beside ps n column (b ∷ rest) (colon_at false 0 (b ∷ rest)) ls le from
  start_beside starts.InBrackets ps n column b rest ls le from = leaf_beside ps n true column (b ∷ rest) ls le from
  start_beside starts.InLines ps n column b rest ls le from = leaf_beside ps n true column (b ∷ rest) ls le from
  start_beside starts.LeftOut ps n column b rest ls le from = leaf_beside ps n true column (b ∷ rest) ls le from
  start_beside starts.Refused ps n column b rest ls le from = leaf_beside ps n true column (b ∷ rest) ls le from

  -- ---- lines

  heads_beside : (bytes : List ℕ) (ps : List Piece) (n : ℕ) (spaced : Bool) (column : ℕ) (ls : List RawLine) → n ≤ k → From n ls → Beside k a (heads ps n spaced column bytes ls) (heads ps n spaced column bytes (ls ++ a))
  unfolding heads
  heads_beside [] ps n spaced column ls le from = as_they_were ps ls
  heads_beside (b ∷ rest) ps n spaced column ls le from =
      either (is_blank b) _ _ _ _ (heads_beside rest ps n (b == 32) (column + 1) ls le from)
      (either (b == 35 && spaced) _ _ _ _ (as_they_were ps ls)
      (either (b == 45 && breaks rest) _ _ _ _ (heads_beside rest (ps ++ dash n column ∷ []) n false (column + 1) ls le from) (start_beside (start b rest) ps n column b rest ls le from)))

  pub line_beside : (l : RawLine) (ps : List Piece) (ls : List RawLine) → l.line ≤ k → From l.line ls → Beside k a (line_heads ps l ls) (line_heads ps l (ls ++ a))
  unfolding line_heads
  line_beside l ps ls le from =
      either (sees 9 l.content) _ _ _ _ (heads_beside (without_blanks l.content) ps l.line (is_spaced true l.content) l.indent ls le from) (heads_beside l.content ps l.line true l.indent ls le from)
