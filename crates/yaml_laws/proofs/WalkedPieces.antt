-- Pieces of lines of a kind: they stand on such lines, such lines are left, and a fault stands on such a line.
use Rattle.std.proofs.Common.{◌≡◌, ℕ, zero, suc, ◌+◌, ◌-◌, Bool, true, false, cond, ◌&&◌, List, [], ◌∷◌, ◌++◌, length, take, drop, Option, Some, None, Result, Ok, Err, refl, sym, ap, ◌∙◌, append_assoc}
use Rattle.std.specs.Prelude.{◌==◌, not}
use Rattle.std.proofs.lemmas.List.{append-nil}
use Rattle.yaml_scan.specs.declared.line.RawLine.{RawLine}
use Rattle.yaml_scan.specs.declared.fault.Fault.{Fault}
use Rattle.yaml_scan.specs.declared.fault.Code.{Code}
use Rattle.yaml_scan.specs.Answers.{Reading}
use Rattle.yaml_scan.specs.Words.{sees, is_blank, is_empty, is_some, breaks, nothing_left, colon_at, trimmed, without_blanks}
use Rattle.yaml_scan.specs.Plain.{plain}
use Rattle.yaml_scan.specs.Quoted.{State, opened, run, quoted}
use Rattle.yaml_scan.specs.Block.{block}
use Rattle.yaml_tree.specs.declared.piece.Piece.{Piece}
use Rattle.yaml_tree.specs.declared.leaf.Wrong.{Wrong}
use Rattle.yaml_tree.specs.declared.starts.Start.{Start}
use Rattle.yaml_tree.specs.declared.starts.Start.TheVariants as starts
use Rattle.yaml_tree.specs.Starts.{start, is_merge}
use Rattle.yaml_tree.specs.Flow.{Ended, flow}
use Rattle.yaml_tree.specs.Leaves.{Leafs, scalar, flow_by, leaf_by, colon_behind}
use Rattle.yaml_tree.specs.Pieces.{Found, floor, dash, key, leaf, leaf_found, leaf_at, value_at, keyed, plain_key, quoted_key, node_by, heads, is_spaced, line_heads, is_over, go_on, pieces}
use Rattle.yaml_laws.proofs.Laid.{AllOn}
use Rattle.yaml_laws.proofs.Walked.{Ends, leaves, stops, it, ends_either, closes_ends, plain_ends, quoted_closes, block_ends}

abbrev pub of_wrong : Wrong → Fault
of_wrong w = w.fault

abbrev pub OnFault : (ℕ → Type 0) → Option Fault → Type 0
OnFault P None = Unit {0}
OnFault P (Some f) = P f.line

-- Pieces of such lines are added, and lines of a kind are left; a fault stands on such a line.
pub record Adds (P : ℕ → Type 0) (S : List RawLine → Type 0) (ps : List Piece) (f : Found) : Type 0 where
  pub new : List Piece
  pub are : f.pieces ≡ ps ++ new
  pub on_lines : AllOn P new
  pub on_fault : OnFault P f.fault
  pub left : S f.rest

module _ (P : ℕ → Type 0) (S : List RawLine → Type 0) (parts : (l : RawLine) (ls : List RawLine) → S (l ∷ ls) → P l.line × S ls) where
  either : {ps : List Piece} (b : Bool) (f g : Found) → Adds P S ps f → Adds P S ps g → Adds P S ps (cond b f g)
  either true f g p q = p
  either false f g p q = q

  as_they_were : (ps : List Piece) (ls : List RawLine) → S ls → Adds P S ps (record { pieces = ps; fault = None; rest = ls })
  as_they_were ps ls s = record { new = []; are = sym (append-nil ps); on_lines = tt; on_fault = tt; left = s }

  one_more : (ps : List Piece) (p : Piece) (o : Option Fault) (ls : List RawLine) → P p.line → OnFault P o → S ls → Adds P S ps (record { pieces = ps ++ p ∷ []; fault = o; rest = ls })
  one_more ps p o ls h f s = record { new = p ∷ []; are = refl; on_lines = (h, tt); on_fault = f; left = s }

  before_one : (ps : List Piece) (p : Piece) (f : Found) → P p.line → Adds P S (ps ++ p ∷ []) f → Adds P S ps f
  before_one ps p f h a = record { new = p ∷ a.new; are = a.are ∙ append_assoc ps (p ∷ []) a.new; on_lines = (h, a.on_lines); on_fault = a.on_fault; left = a.left }

  -- ---- leaves

  pub scalar_ends : (n : ℕ) (is_plain : Bool) (r : Reading (List ℕ)) → Ends it P S r → Ends of_wrong P S (scalar n is_plain r)
  scalar_ends n is_plain (Ok x) (leaves s) = leaves s
  scalar_ends n is_plain (Err f) (stops p) = stops p

  flow_ends : (fresh : Bool) (n : ℕ) (r : Result Ended Code) (ls : List RawLine) → P n → S ls → Ends of_wrong P S (flow_by fresh n r ls)
  flow_ends fresh n (Err code) ls p s = stops p
  flow_ends fresh n (Ok f) ls p s =
      ends_either (fresh && colon_behind (without_blanks f.rest)) _ _ (stops p)
      (ends_either (not (nothing_left false f.rest)) _ _ (stops p) (ends_either f.repeated _ _ (stops p) (leaves s)))

  pub leaf_ends : (t : Start) (right : ℕ) (fresh : Bool) (n b : ℕ) (rest : List ℕ) (ls : List RawLine) → P n → S ls → Ends of_wrong P S (leaf_by t right fresh n b rest ls)
  leaf_ends starts.InQuotes right fresh n b rest ls p s = scalar_ends n false (quoted right n b rest ls) (closes_ends (quoted right n b rest ls) (quoted_closes P S parts right n b rest ls p s))
  leaf_ends starts.InBrackets right fresh n b rest ls p s = flow_ends fresh n (flow n (b == 123) rest) ls p s
  leaf_ends starts.InLines right fresh n b rest ls p s = scalar_ends n false (block right n (b == 62) rest ls) (block_ends P S parts right n (b == 62) rest ls p s)
  leaf_ends starts.LeftOut right fresh n b rest ls p s = stops p
  leaf_ends starts.Refused right fresh n b rest ls p s = stops p
  leaf_ends starts.Plain right fresh n b rest ls p s = scalar_ends n true (plain right n (b ∷ rest) ls) (plain_ends P S parts right n (b ∷ rest) ls p s)

  adds_leaf : (r : Leafs) (ps : List Piece) (n column : ℕ) (ls : List RawLine) → P n → S ls → Ends of_wrong P S r → Adds P S ps (leaf_found ps n column r ls)
  adds_leaf (Ok x) ps n column ls p s (leaves h) = one_more ps (leaf n column x.0.0 x.0.1 false) None x.1 p tt h
  adds_leaf (Err w) ps n column ls p s (stops h) = one_more ps _ (Some w.fault) ls p h s

  adds_leaf_at : (ps : List Piece) (n : ℕ) (fresh : Bool) (column : ℕ) (bytes : List ℕ) (ls : List RawLine) → P n → S ls → Adds P S ps (leaf_at ps n fresh column bytes ls)
  adds_leaf_at ps n fresh column [] ls p s = as_they_were ps ls s
  adds_leaf_at ps n fresh column (b ∷ rest) ls p s = adds_leaf (leaf_by (start b rest) (floor ps) fresh n b rest ls) ps n column ls p s (leaf_ends (start b rest) (floor ps) fresh n b rest ls p s)

  -- ---- keys

  adds_value : (ps : List Piece) (n column : ℕ) (bytes : List ℕ) (ls : List RawLine) → P n → S ls → Adds P S ps (value_at ps n column bytes ls)
  adds_value ps n column bytes ls p s = either (nothing_left false bytes) _ _ (as_they_were ps ls s) (adds_leaf_at ps n false _ (without_blanks bytes) ls p s)

  adds_keyed : (ps : List Piece) (n column : ℕ) (text : List ℕ) (behind : ℕ) (bytes : List ℕ) (ls : List RawLine) → P n → S ls → Adds P S ps (keyed ps n column text behind bytes ls)
  adds_keyed ps n column text behind bytes ls p s =
      either (is_empty text) _ _ (one_more ps _ _ ls p p s) (before_one ps (key n column text) _ p (adds_value (ps ++ key n column text ∷ []) n behind bytes ls p s))

  adds_plain_key : (ps : List Piece) (n column : ℕ) (bytes : List ℕ) (c : Option ℕ) (ls : List RawLine) → P n → S ls → Adds P S ps (plain_key ps n column bytes c ls)
  adds_plain_key ps n column bytes None ls p s = adds_leaf_at ps n true column bytes ls p s
  adds_plain_key ps n column bytes (Some at) ls p s =
      either (is_merge (trimmed (take at bytes))) _ _ (one_more ps _ _ ls p p s) (adds_keyed ps n column (trimmed (take at bytes)) (column + at + 1) (drop (at + 1) bytes) ls p s)

  adds_quoted_key : (ps : List Piece) (n column : ℕ) (bytes : List ℕ) (q : State) (end : Option (List ℕ)) (ls : List RawLine) → P n → S ls → Adds P S ps (quoted_key ps n column bytes q end ls)
  adds_quoted_key ps n column bytes q None ls p s = adds_leaf_at ps n true column bytes ls p s
  adds_quoted_key ps n column bytes q (Some rest) ls p s =
      either (not (colon_behind rest)) _ _ (adds_leaf_at ps n true column bytes ls p s)
      (either (is_some q.bad) _ _ (one_more ps _ _ ls p p s) (adds_keyed ps n column q.text (column + (length bytes - length rest) + 1) (drop 1 rest) ls p s))

  adds_start : (t : Start) (ps : List Piece) (n column b : ℕ) (rest : List ℕ) (ls : List RawLine) → P n → S ls → Adds P S ps (node_by t ps n column b rest ls)
  adds_start starts.InQuotes ps n column b rest ls p s = adds_quoted_key ps n column (b ∷ rest) (run (opened b n) rest).0 (run (opened b n) rest).1 ls p s
  adds_start starts.Plain ps n column b rest ls p s = adds_plain_key ps n column (b ∷ rest) (colon_at false 0 (b ∷ rest)) ls p s
  adds_start starts.InBrackets ps n column b rest ls p s = adds_leaf_at ps n true column (b ∷ rest) ls p s
  adds_start starts.InLines ps n column b rest ls p s = adds_leaf_at ps n true column (b ∷ rest) ls p s
  adds_start starts.LeftOut ps n column b rest ls p s = adds_leaf_at ps n true column (b ∷ rest) ls p s
  adds_start starts.Refused ps n column b rest ls p s = adds_leaf_at ps n true column (b ∷ rest) ls p s

  -- ---- lines

  adds_heads : (bytes : List ℕ) (ps : List Piece) (n : ℕ) (spaced : Bool) (column : ℕ) (ls : List RawLine) → P n → S ls → Adds P S ps (heads ps n spaced column bytes ls)
  unfolding heads
  adds_heads [] ps n spaced column ls p s = as_they_were ps ls s
  adds_heads (b ∷ rest) ps n spaced column ls p s =
      either (is_blank b) _ _ (adds_heads rest ps n (b == 32) (column + 1) ls p s)
      (either (b == 35 && spaced) _ _ (as_they_were ps ls s)
      (either (b == 45 && breaks rest) _ _ (before_one ps (dash n column) _ p (adds_heads rest (ps ++ dash n column ∷ []) n false (column + 1) ls p s)) (adds_start (start b rest) ps n column b rest ls p s)))

  pub adds_line : (l : RawLine) (ps : List Piece) (ls : List RawLine) → P l.line → S ls → Adds P S ps (line_heads ps l ls)
  unfolding line_heads
  adds_line l ps ls p s =
      either (sees 9 l.content) _ _ (adds_heads (without_blanks l.content) ps l.line (is_spaced true l.content) l.indent ls p s) (adds_heads l.content ps l.line true l.indent ls p s)

  gone_on : (ps : List Piece) (f : Found) (o : Option Fault) (go : List Piece → List RawLine → Found) → Adds P S ps f → (S f.rest → Adds P S f.pieces (go f.pieces f.rest)) → Adds P S ps (go_on f o go)
  gone_on ps f (Some fault) go h later = h
  gone_on ps f None go h later =
      let a = later h.left in
      record { new = h.new ++ a.new; are = a.are ∙ ap (λ (qs : List Piece). qs ++ a.new) h.are ∙ append_assoc ps h.new a.new; on_lines = both h.new a.new h.on_lines a.on_lines; on_fault = a.on_fault; left = a.left }
    where
      both : (qs rs : List Piece) → AllOn P qs → AllOn P rs → AllOn P (qs ++ rs)
      both [] rs a b = b
      both (q ∷ qs) rs a b = (a.0, both qs rs a.1 b)

  pub adds_pieces : (k : ℕ) (ps : List Piece) (ls : List RawLine) → S ls → Adds P S ps (pieces k ps ls)
  unfolding pieces
  adds_pieces zero ps ls s = as_they_were ps ls s
  adds_pieces (suc k) ps [] s = as_they_were ps [] s
  adds_pieces (suc k) ps (l ∷ ls) s =
      let h = parts l ls s in
      let f : Found = line_heads ps l ls in
      either (is_over ps l) _ _ (as_they_were ps (l ∷ ls) s) (gone_on ps f f.fault (pieces k) (adds_line l ps ls h.0 h.1) (adds_pieces k f.pieces f.rest))
