-- The pieces of lines that may end within a quoted scalar: there is no fault, or a line with the closing quote leaves none, or whatever
-- follows there is one in these lines.
use Rattle.std.proofs.Common.{◌≡◌, ℕ, ◌+◌, ◌-◌, ◌≤◌, Bool, true, false, cond, ◌||◌, ◌&&◌, ◌⊎◌, inl, inr, List, [], ◌∷◌, ◌++◌, length, take, drop, Option, Some, None, Result, Ok, Err, refl, ap}
use Rattle.std.specs.Prelude.{◌==◌, not}
use Rattle.std.proofs.lemmas.Bool.{eqb-true}
use Rattle.yaml_scan.specs.declared.line.RawLine.{RawLine}
use Rattle.yaml_scan.specs.declared.fault.Fault.{Fault}
use Rattle.yaml_scan.specs.declared.fault.Code.{Code}
use Rattle.yaml_scan.specs.declared.fault.Code.TheVariants.{Structure, LeftOut as left_out_code, RepeatedKey}
use Rattle.yaml_scan.specs.Words.{sees, is_blank, is_empty, is_some, breaks, nothing_left, colon_at, trimmed, without_blanks}
use Rattle.yaml_scan.specs.Plain.{plain}
use Rattle.yaml_scan.specs.Quoted.{State, opened, run, quoted}
use Rattle.yaml_scan.specs.Block.{block}
use Rattle.yaml_tree.specs.declared.node.Node.{Node}
use Rattle.yaml_tree.specs.declared.piece.Piece.{Piece}
use Rattle.yaml_tree.specs.declared.leaf.Wrong.{Wrong}
use Rattle.yaml_tree.specs.declared.starts.Start.{Start}
use Rattle.yaml_tree.specs.declared.starts.Start.TheVariants as starts
use Rattle.yaml_tree.specs.Starts.{start, is_merge, left_out, no_plain}
use Rattle.yaml_tree.specs.Flow.{Ended, flow}
use Rattle.yaml_tree.specs.Leaves.{Leafs, scalar, flow_by, leaf_by, colon_behind}
use Rattle.yaml_tree.specs.Pieces.{Found, floor, dash, key, leaf, leaf_found, leaf_at, value_at, keyed, plain_key, quoted_key, node_by, heads, is_spaced, line_heads}
use Rattle.yaml_tree.specs.Keys.{IsKey}
use Rattle.yaml_tree.specs.Nodes.{null}
use Rattle.yaml_tree.proofs.KeysFound.{plain_key_found, quoted_key_found}
use Rattle.yaml_tree.proofs.PiecesFound.{at_found}
use Rattle.yaml_laws.specs.Refused.{IsOpen, Opens, here, blank, dash as behind_dash, value}
use Rattle.yaml_laws.proofs.Orders.{tested}
use Rattle.yaml_laws.proofs.Walked.{AllIn, Ends, leaves, stops, it}
use Rattle.yaml_laws.proofs.WalkedPieces.{of_wrong, scalar_ends}
use Rattle.yaml_laws.proofs.FollowedPieces.{Further, clean, spoilt}
use Rattle.yaml_laws.proofs.FollowedScalars.{AllLate}
use Rattle.yaml_laws.proofs.Closing.{IsClosing, Rest, OwnLine, own_fault, own_parts, Closable, reads, never, closing, either as scalar_either, stopped, plain_closable, quoted_closable, block_closable}

module _ (k : ℕ) where
  abbrev Firsts : List RawLine → Type 0
  Firsts ls = AllIn (λ m. m ≤ k) ls

  -- the fault of a quote that is open on the line n, as one of a leaf
  abbrev own_wrong : ℕ → Wrong
  own_wrong n = record { fault = own_fault n; left_out = false }

  -- ---- leaves

  scalar_closable : {V W : Type 0} (m n : ℕ) (is_plain : Bool) (R : Rest (List ℕ) Fault) → (V → W) → Closable k (own_fault m) it V R → Closable k (own_wrong m) of_wrong W (λ a. scalar n is_plain (R a))
  scalar_closable m n is_plain R go (reads e) = reads (ap (scalar n is_plain) e)
  scalar_closable m n is_plain R go (never h) = never (λ a late. let f = h a late in (record { fault = f.0; left_out = false }, ap (scalar n is_plain) f.1, f.2))
  scalar_closable m n is_plain R go (closing x c t e s v) =
      closing x c _ (ap (scalar n is_plain) e)
      (record { first = ap (scalar n is_plain) s.first; others = λ a late. scalar_ends (OwnLine k m) (AllLate k) (own_parts k m) n is_plain (R a) (s.others a late) }) (go v)

  flow_closable : {own : Wrong} {W : Type 0} (fresh : Bool) (n : ℕ) (r : Result Ended Code) (ls : List RawLine) → n ≤ k → Closable k own of_wrong W (λ a. flow_by fresh n r (ls ++ a))
  flow_closable fresh n (Err code) ls le = stopped (record { fault = record { line = n; code = code }; left_out = false }) le
  flow_closable fresh n (Ok f) ls le =
      scalar_either (fresh && colon_behind (without_blanks f.rest)) _ _ (stopped (record { fault = record { line = n; code = left_out_code }; left_out = true }) le)
      (scalar_either (not (nothing_left false f.rest)) _ _ (stopped (record { fault = record { line = n; code = Structure }; left_out = false }) le)
      (scalar_either f.repeated _ _ (stopped (record { fault = record { line = n; code = RepeatedKey }; left_out = false }) le) (reads refl)))

  pub leaf_closable : (t : Start) (right : ℕ) (fresh : Bool) (n b : ℕ) (rest : List ℕ) (ls : List RawLine) → n ≤ k → Firsts ls → (t ≡ starts.InQuotes → (b ≡ 34) ⊎ (b ≡ 39))
      → Closable k (own_wrong n) of_wrong (IsOpen n (b ∷ rest)) (λ a. leaf_by t right fresh n b rest (ls ++ a))
  leaf_closable starts.InQuotes right fresh n b rest ls le f q =
      scalar_closable n n false (λ a. quoted right n b rest (ls ++ a)) (λ e. (q refl, e)) (quoted_closable k right n b rest ls (q refl) le f)
  leaf_closable starts.InBrackets right fresh n b rest ls le f q = flow_closable fresh n (flow n (b == 123) rest) ls le
  leaf_closable starts.InLines right fresh n b rest ls le f q = scalar_closable n n false (λ a. block right n (b == 62) rest (ls ++ a)) (λ i. i) (block_closable k right n (b == 62) rest ls le)
  leaf_closable starts.LeftOut right fresh n b rest ls le f q = stopped (record { fault = record { line = n; code = left_out_code }; left_out = true }) le
  leaf_closable starts.Refused right fresh n b rest ls le f q = stopped (record { fault = record { line = n; code = Structure }; left_out = false }) le
  leaf_closable starts.Plain right fresh n b rest ls le f q = scalar_closable n n true (λ a. plain right n (b ∷ rest) (ls ++ a)) (λ i. i) (plain_closable k right n (b ∷ rest) ls le f)

  -- ---- pieces of a line

  -- The piece of the open quote is the last one, on the line n. Where lines follow, a fault stands on that line or behind the first k.
  pub record OpenOn (n : ℕ) (R : List RawLine → Found) : Type 0 where
    pub front : List Piece
    pub column : ℕ
    pub last : (R []).pieces ≡ front ++ leaf n column (null n) 1 false ∷ []
    pub others : (a : List RawLine) → AllLate k a → Further k (λ (f : Fault). OwnLine k n f.line) (R a)

  pub data Whole (n : ℕ) (W : Type 0) (R : List RawLine → Found) : Type 0 where
    clear : (R []).fault ≡ None → Whole n W R
    lost : ((a : List RawLine) → AllLate k a → (f : Fault) × ((R a).fault ≡ Some f) × (f.line ≤ k)) → Whole n W R
    closed : (x : RawLine) → IsClosing k x → (R (x ∷ [])).fault ≡ None → (R (x ∷ [])).rest ≡ [] → OpenOn n R → W → Whole n W R

  either : {n : ℕ} {W : Type 0} (b : Bool) (R S : List RawLine → Found) → (b ≡ true → Whole n W R) → (b ≡ false → Whole n W S) → Whole n W (λ a. cond b (R a) (S a))
  either true R S p q = p refl
  either false R S p q = q refl

  further : {n : ℕ} {V W : Type 0} (R : List RawLine → Found) → (V → W) → Whole n V R → Whole n W R
  further R go (clear e) = clear e
  further R go (lost h) = lost h
  further R go (closed x c none rest o v) = closed x c none rest o (go v)

  spoils : {n : ℕ} {W : Type 0} (ps : List Piece) (f : Fault) (ls : List RawLine) → f.line ≤ k → Whole n W (λ a. record { pieces = ps; fault = Some f; rest = ls ++ a })
  spoils ps f ls le = lost (λ a late. (f, refl, le))

  leaf_further : (m : ℕ) (ps : List Piece) (n column : ℕ) (r : Leafs) (ls : List RawLine) → Ends of_wrong (OwnLine k m) (AllLate k) r → Further k (λ (f : Fault). OwnLine k m f.line) (leaf_found ps n column r ls)
  leaf_further m ps n column (Ok x) ls (leaves h) = clean refl h
  leaf_further m ps n column (Err w) ls (stops h) = spoilt refl h

  found_whole : {V W : Type 0} (ps : List Piece) (n column : ℕ) (ls : List RawLine) (R : Rest (Node × ℕ) Wrong) → (V → W) → Closable k (own_wrong n) of_wrong V R → Whole n W (λ a. leaf_found ps n column (R a) (ls ++ a))
  found_whole ps n column ls R go (reads e) = clear (ap (λ (r : Leafs). (leaf_found ps n column r (ls ++ [])).fault) e)
  found_whole ps n column ls R go (never h) = lost (λ a late. let f = h a late in (f.0.fault, ap (λ (r : Leafs). (leaf_found ps n column r (ls ++ a)).fault) f.1, f.2))
  found_whole ps n column ls R go (closing x c t e s v) =
      closed x c (ap (λ (r : Leafs). (leaf_found ps n column r (ls ++ x ∷ [])).fault) e) (ap (λ (r : Leafs). (leaf_found ps n column r (ls ++ x ∷ [])).rest) e)
      (record {
        front = ps;
        column = column;
        last = ap (λ (r : Leafs). (leaf_found ps n column r (ls ++ [])).pieces) s.first;
        others = λ a late. leaf_further n ps n column (R a) (ls ++ a) (s.others a late);
      }) (go v)

  one_of_two : (p q r s t u : Bool) → cond (p || q) starts.InQuotes (cond r starts.InBrackets (cond s starts.InLines (cond t starts.LeftOut (cond u starts.Refused starts.Plain)))) ≡ starts.InQuotes
      → (p ≡ true) ⊎ (q ≡ true)
  one_of_two true q r s t u e = inl refl
  one_of_two false true r s t u e = inr refl
  one_of_two false false true s t u e = absurd cc
  one_of_two false false false true t u e = absurd cc
  one_of_two false false false false true u e = absurd cc
  one_of_two false false false false false true e = absurd cc
  one_of_two false false false false false false e = absurd cc

  in_quotes : (b : ℕ) (rest : List ℕ) → start b rest ≡ starts.InQuotes → (b ≡ 34) ⊎ (b ≡ 39)
  in_quotes b rest e =
      elim (one_of_two (b == 34) (b == 39) (b == 91 || b == 123) (b == 124 || b == 62) (left_out b rest) (no_plain b rest) e) [
        | inl h ↦ inl (eqb-true b 34 h)
        | inr h ↦ inr (eqb-true b 39 h)
      ]

  leaf_whole : {W : Type 0} (ps : List Piece) (n : ℕ) (fresh : Bool) (column : ℕ) (bytes : List ℕ) (ls : List RawLine) → n ≤ k → Firsts ls → (IsOpen n bytes → W) → Whole n W (λ a. leaf_at ps n fresh column bytes (ls ++ a))
  leaf_whole ps n fresh column [] ls le f go = clear refl
  leaf_whole ps n fresh column (b ∷ rest) ls le f go =
      found_whole ps n column ls (λ a. leaf_by (start b rest) (floor ps) fresh n b rest (ls ++ a)) go (leaf_closable (start b rest) (floor ps) fresh n b rest ls le f (in_quotes b rest))

  value_whole : {W : Type 0} (ps : List Piece) (n column : ℕ) (bytes : List ℕ) (ls : List RawLine) → n ≤ k → Firsts ls → (IsOpen n (without_blanks bytes) → W) → Whole n W (λ a. value_at ps n column bytes (ls ++ a))
  value_whole ps n column bytes ls le f go =
      either (nothing_left false bytes) _ _ (λ e. clear refl) (λ e. leaf_whole ps n false (column + (length bytes - length (without_blanks bytes))) (without_blanks bytes) ls le f go)

  -- what stands where a node begins
  opens_value : (n column behind : ℕ) (bytes s after : List ℕ) → IsKey column bytes s behind after → IsOpen n (without_blanks after) → Opens n bytes
  opens_value n column behind bytes s after is o = by (without_blanks after) refl o
    where
      by : (left : List ℕ) → without_blanks after ≡ left → IsOpen n left → Opens n bytes
      by [] e o = absurd o
      by (c ∷ rest) e o = value is (at_found after behind c rest e) o

  no_bad : (bad : Option ℕ) → is_some bad ≡ false → bad ≡ None
  no_bad None e = refl
  no_bad (Some x) e = absurd cc

  colon_or_not : (c : Bool) → not c ≡ false → c ≡ true
  colon_or_not true e = refl
  colon_or_not false e = absurd cc

  module _ (n b : ℕ) (rest : List ℕ) (ls : List RawLine) (le : n ≤ k) (f : Firsts ls) where
    keyed_whole : (ps : List Piece) (column : ℕ) (text : List ℕ) (behind : ℕ) (after : List ℕ) → (is_empty text ≡ false → IsKey column (b ∷ rest) text behind after)
        → Whole n (Opens n (b ∷ rest)) (λ a. keyed ps n column text behind after (ls ++ a))
    keyed_whole ps column text behind after is =
        either (is_empty text) _ _ (λ e. spoils _ _ ls le) (λ e. value_whole (ps ++ key n column text ∷ []) n behind after ls le f (opens_value n column behind (b ∷ rest) text after (is e)))

    plain_whole : (ps : List Piece) (column : ℕ) (c : Option ℕ) → start b rest ≡ starts.Plain → colon_at false 0 (b ∷ rest) ≡ c → Whole n (Opens n (b ∷ rest)) (λ a. plain_key ps n column (b ∷ rest) c (ls ++ a))
    plain_whole ps column None i c = leaf_whole ps n true column (b ∷ rest) ls le f here
    plain_whole ps column (Some at) i c =
        either (is_merge (trimmed (take at (b ∷ rest)))) _ _ (λ e. spoils _ _ ls le)
        (λ e. keyed_whole ps column (trimmed (take at (b ∷ rest))) (column + at + 1) (drop (at + 1) (b ∷ rest)) (λ some. plain_key_found column b rest at i c e some))

    quoted_whole : (ps : List Piece) (column : ℕ) (q : State) (end : Option (List ℕ)) → start b rest ≡ starts.InQuotes → run (opened b n) rest ≡ (q, end) → Whole n (Opens n (b ∷ rest)) (λ a. quoted_key ps n column (b ∷ rest) q end (ls ++ a))
    quoted_whole ps column q None i r = leaf_whole ps n true column (b ∷ rest) ls le f here
    quoted_whole ps column q (Some behind) i r =
        either (not (colon_behind behind)) _ _ (λ e. leaf_whole ps n true column (b ∷ rest) ls le f here)
        (λ c. either (is_some q.bad) _ _ (λ e. spoils _ _ ls le)
        (λ e. keyed_whole ps column q.text (column + (length (b ∷ rest) - length behind) + 1) (drop 1 behind)
        (λ some. quoted_key_found n column b rest q behind i r (no_bad q.bad e) (colon_or_not (colon_behind behind) c) some)))

    start_whole : (t : Start) (ps : List Piece) (column : ℕ) → start b rest ≡ t → Whole n (Opens n (b ∷ rest)) (λ a. node_by t ps n column b rest (ls ++ a))
    start_whole starts.InQuotes ps column i = quoted_whole ps column (run (opened b n) rest).0 (run (opened b n) rest).1 i refl
    start_whole starts.Plain ps column i = plain_whole ps column (colon_at false 0 (b ∷ rest)) i refl
    start_whole starts.InBrackets ps column i = leaf_whole ps n true column (b ∷ rest) ls le f here
    start_whole starts.InLines ps column i = leaf_whole ps n true column (b ∷ rest) ls le f here
    start_whole starts.LeftOut ps column i = leaf_whole ps n true column (b ∷ rest) ls le f here
    start_whole starts.Refused ps column i = leaf_whole ps n true column (b ∷ rest) ls le f here

  heads_whole : (bytes : List ℕ) (ps : List Piece) (n : ℕ) (spaced : Bool) (column : ℕ) (ls : List RawLine) → n ≤ k → Firsts ls → Whole n (Opens n bytes) (λ a. heads ps n spaced column bytes (ls ++ a))
  unfolding heads
  heads_whole [] ps n spaced column ls le f = clear refl
  heads_whole (b ∷ rest) ps n spaced column ls le f =
      either (is_blank b) _ _ (λ e. further _ (blank e) (heads_whole rest ps n (b == 32) (column + 1) ls le f))
      (λ e. either (b == 35 && spaced) _ _ (λ e. clear refl)
      (λ e. either (b == 45 && breaks rest) _ _ (λ e. further _ (behind_dash e) (heads_whole rest (ps ++ dash n column ∷ []) n false (column + 1) ls le f)) (λ e. start_whole n b rest ls le f (start b rest) ps column refl)))

  opens_behind : (n : ℕ) (bytes : List ℕ) → Opens n (without_blanks bytes) → Opens n bytes
  unfolding without_blanks
  opens_behind n [] o = o
  opens_behind n (b ∷ bytes) o = elim (tested (is_blank b)) [
    | inl e ↦ blank e (opens_behind n bytes (rw e at o))
    | inr e ↦ rw e at o
  ]

  pub line_whole : (l : RawLine) (ps : List Piece) (ls : List RawLine) → l.line ≤ k → Firsts ls → Whole l.line (Opens l.line l.content) (λ a. line_heads ps l (ls ++ a))
  unfolding line_heads
  line_whole l ps ls le f =
      either (sees 9 l.content) _ _ (λ e. further _ (opens_behind l.line l.content) (heads_whole (without_blanks l.content) ps l.line (is_spaced true l.content) l.indent ls le f))
      (λ e. heads_whole l.content ps l.line true l.indent ls le f)
