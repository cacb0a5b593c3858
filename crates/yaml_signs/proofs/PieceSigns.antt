-- Lines whose pieces are refused with C3 have a sign of what is left out; and a piece that is marked as left out is refused so.
use Rattle.std.proofs.Common.{◌≡◌, ℕ, zero, suc, ◌+◌, ◌-◌, Bool, true, false, cond, ◌&&◌, inl, inr, List, [], ◌∷◌, ◌++◌, length, drop, take, Option, Some, None, Ok, Err, refl, sym, ap, subst, ◌∙◌, append_assoc}
use Rattle.std.specs.Prelude.{◌==◌, not}
use Rattle.yaml_scan.specs.declared.line.RawLine.{RawLine}
use Rattle.yaml_scan.specs.declared.fault.Fault.{Fault}
use Rattle.yaml_scan.specs.declared.fault.Code.{Code}
use Rattle.yaml_scan.specs.declared.fault.Code.TheVariants.{Structure, LeftOut}
use Rattle.yaml_scan.specs.Words.{sees, is_blank, is_empty, is_some, breaks, nothing_left, colon_at, trimmed, without_blanks}
use Rattle.yaml_scan.specs.Quoted.{State, opened, run}
use Rattle.yaml_tree.specs.declared.piece.Piece.{Piece}
use Rattle.yaml_tree.specs.declared.piece.What.{What}
use Rattle.yaml_tree.specs.declared.piece.What.TheVariants.{Dash, Key, Leaf}
use Rattle.yaml_tree.specs.declared.starts.Start.{Start}
use Rattle.yaml_tree.specs.declared.starts.Start.TheVariants as starts
use Rattle.yaml_tree.specs.Keys.{IsKeyText, IsKey}
use Rattle.yaml_tree.specs.Leaves.{Leafs, leaf_by, colon_behind}
use Rattle.yaml_tree.specs.Starts.{start, is_merge}
use Rattle.yaml_tree.specs.Pieces.{Found, found, floor, dash, key as key_piece, leaf, leaf_found, leaf_at, value_at, keyed, plain_key, quoted_key, node_by, heads, is_spaced, line_heads, is_over, go_on, pieces, all_pieces}
use Rattle.yaml_tree.proofs.KeysFound.{plain_key_found, quoted_key_found}
use Rattle.yaml_tree.proofs.KeyTexts.{key_text_found}
use Rattle.yaml_tree.proofs.PiecesFound.{at_found}
use Rattle.yaml_laws.proofs.Orders.{tested}
use Rattle.yaml_laws.proofs.WalkedPieces.{Adds, adds_line}
use Rattle.yaml_signs.specs.Signs.{Begins, here, blank, dash as behind_dash, value}
use Rattle.yaml_signs.proofs.LeafSigns.{Fails, IsTold}

-- ---- pieces that are marked as left out

-- a leaf that is marked stands on such a line
abbrev pub IfOut : (ℕ → Type 0) → ℕ → What → Type 0
IfOut P n Dash = Unit {0}
IfOut P n (Key k) = Unit {0}
IfOut P n (Leaf x height out) = out ≡ true → P n

abbrev pub AllOut : (ℕ → Type 0) → List Piece → Type 0
AllOut P [] = Unit {0}
AllOut P (p ∷ ps) = IfOut P p.line p.what × AllOut P ps

abbrev pub Nowhere : ℕ → Type 0
Nowhere n = ⊥

-- the fault that a line has where something is left out
abbrev pub Marked : Option Fault → ℕ → Type 0
Marked o n = o ≡ Some (record { line = n; code = LeftOut })

if_weaker : (P Q : ℕ → Type 0) → ((n : ℕ) → P n → Q n) → (n : ℕ) (w : What) → IfOut P n w → IfOut Q n w
if_weaker P Q go n Dash h = tt
if_weaker P Q go n (Key k) h = tt
if_weaker P Q go n (Leaf x height out) h = λ e. go n (h e)

weaker : (P Q : ℕ → Type 0) → ((n : ℕ) → P n → Q n) → (ps : List Piece) → AllOut P ps → AllOut Q ps
weaker P Q go [] h = tt
weaker P Q go (p ∷ ps) h = (if_weaker P Q go p.line p.what h.0, weaker P Q go ps h.1)

one_more : (P : ℕ → Type 0) (ps : List Piece) (p : Piece) → AllOut P ps → IfOut P p.line p.what → AllOut P (ps ++ p ∷ [])
one_more P [] p h i = (i, tt)
one_more P (q ∷ qs) p h i = (h.0, one_more P qs p h.1 i)

never : (P : ℕ → Type 0) (n : ℕ) → Nowhere n → P n
never P n h = absurd h

-- ---- what is told

-- A fault with such a code has a reason, and what is marked has a fault with C3.
pub record Says (W : Code → Type 0) (Reason : Fault → Type 0) (r : Found) : Type 0 where
  pub reason : (f : Fault) → r.fault ≡ Some f → W f.code → Reason f
  pub marked : AllOut (Marked r.fault) r.pieces

-- the line with this number, among these lines, and where on it a node begins that has this
pub record Shown (X : ℕ → Bool → List ℕ → Type 0) (all : List RawLine) (n : ℕ) : Type 0 where
  pub before : List RawLine
  pub l : RawLine
  pub behind : List RawLine
  pub are : all ≡ before ++ l ∷ behind
  pub number : l.line ≡ n
  pub key : Bool
  pub left : List ℕ
  pub begins : Begins key l.content left
  pub has : X l.line key left

-- the last ones of all lines
abbrev pub IsLast : List RawLine → List RawLine → Type 0
IsLast all ls = (before : List RawLine) × (all ≡ before ++ ls)

pub last_less : (all : List RawLine) (l : RawLine) (ls : List RawLine) → IsLast all (l ∷ ls) → IsLast all ls
last_less all l ls h = (h.0 ++ l ∷ [], h.1 ∙ sym (append_assoc h.0 (l ∷ []) ls))

last_parts : (all : List RawLine) (l : RawLine) (ls : List RawLine) → IsLast all (l ∷ ls) → Unit {0} × IsLast all ls
last_parts all l ls h = (tt, last_less all l ls h)

no_bad : (bad : Option ℕ) → is_some bad ≡ false → bad ≡ None
no_bad None e = refl
no_bad (Some x) e = absurd cc

colon_or_not : (c : Bool) → not c ≡ false → c ≡ true
colon_or_not true e = refl
colon_or_not false e = absurd cc

behind_blanks : (bytes : List ℕ) (key : Bool) (rest : List ℕ) → Begins key (without_blanks bytes) rest → Begins key bytes rest
unfolding without_blanks
behind_blanks [] key rest g = g
behind_blanks (b ∷ bytes) key rest g = elim (tested (is_blank b)) [
  | inl e ↦ blank e (behind_blanks bytes key rest (rw e at g))
  | inr e ↦ rw e at g
]

-- What scalars, flow and the key `<<` give for such codes (W) where they are refused: a reason (T).
module _ (W : Code → Type 0) (T : ℕ → Bool → List ℕ → Type 0) (other : W Structure → ⊥)
    (tells : (t : Start) (floor : ℕ) (key : Bool) (n b : ℕ) (bytes : List ℕ) (ls : List RawLine) → start b bytes ≡ t → Fails (IsTold n W (T n key (b ∷ bytes))) (leaf_by t floor key n b bytes ls))
    (merges : (n column behind : ℕ) (bytes k after : List ℕ) → W LeftOut → IsKeyText column bytes k behind after → is_merge k ≡ true → T n true bytes) where
  module _ {Reason : Fault → Type 0} where
    either : (b : Bool) (r s : Found) → (b ≡ true → Says W Reason r) → (b ≡ false → Says W Reason s) → Says W Reason (cond b r s)
    either true r s p q = p refl
    either false r s p q = q refl

    says_found : (ps : List Piece) (ls : List RawLine) → AllOut Nowhere ps → Says W Reason (found ps ls)
    says_found ps ls h = record { reason = λ f e c. absurd cc; marked = weaker Nowhere (Marked None) (never (Marked None)) ps h }

    leaf_says : (n : ℕ) (U : Type 0) → ((f : Fault) → f.line ≡ n → U → Reason f) → (ps : List Piece) (column : ℕ) (r : Leafs) (ls : List RawLine) → AllOut Nowhere ps
        → Fails (IsTold n W U) r → Says W Reason (leaf_found ps n column r ls)
    leaf_says n U go ps column (Ok x) ls h told =
        says_found (ps ++ leaf n column x.0.0 x.0.1 false ∷ []) x.1 (one_more Nowhere ps (leaf n column x.0.0 x.0.1 false) h (λ e. absurd cc))
    leaf_says n U go ps column (Err w) ls h told =
        record {
          reason = λ f e c.
              (let same : w.fault ≡ f = cc in
              let r = told.0 (subst (λ (z : Fault). W z.code) (sym same) c) in
              go f (ap (λ (z : Fault). z.line) (sym same) ∙ r.0) r.1);
          marked = one_more (Marked (Some w.fault)) ps _ (weaker Nowhere (Marked (Some w.fault)) (never (Marked (Some w.fault))) ps h) (λ e. ap (λ (z : Fault). Some z) (told.1 e));
        }

  -- ---- a line

  module _ (n : ℕ) (content : List ℕ) (Reason : Fault → Type 0)
      (reasons : (key : Bool) (rest : List ℕ) → Begins key content rest → (f : Fault) → f.line ≡ n → T n key rest → Reason f) where
    leaf_at_says : (key : Bool) (ps : List Piece) (column : ℕ) (bytes : List ℕ) (ls : List RawLine) → AllOut Nowhere ps → ((b : ℕ) (rest : List ℕ) → bytes ≡ b ∷ rest → Begins key content (b ∷ rest))
        → Says W Reason (leaf_at ps n key column bytes ls)
    leaf_at_says key ps column [] ls h begins = says_found ps ls h
    leaf_at_says key ps column (b ∷ rest) ls h begins =
        leaf_says n (T n key (b ∷ rest)) (reasons key (b ∷ rest) (begins b rest refl)) ps column (leaf_by (start b rest) (floor ps) key n b rest ls) ls h
        (tells (start b rest) (floor ps) key n b rest ls refl)

    spoiled_says : (ps : List Piece) (column : ℕ) (ls : List RawLine) → AllOut Nowhere ps
        → Says W Reason (leaf_found ps n column (Err (record { fault = record { line = n; code = Structure }; left_out = false })) ls)
    spoiled_says ps column ls h =
        leaf_says n ⊥ (λ f is s. absurd s) ps column (Err (record { fault = record { line = n; code = Structure }; left_out = false })) ls h ((λ c. absurd (other c)), λ o. absurd cc)

    value_says : (ps : List Piece) (column : ℕ) (bytes : List ℕ) (ls : List RawLine) → AllOut Nowhere ps → ((b : ℕ) (rest : List ℕ) → without_blanks bytes ≡ b ∷ rest → Begins false content (b ∷ rest))
        → Says W Reason (value_at ps n column bytes ls)
    value_says ps column bytes ls h begins =
        either (nothing_left false bytes) _ _ (λ e. says_found ps ls h) (λ e. leaf_at_says false ps (column + (length bytes - length (without_blanks bytes))) (without_blanks bytes) ls h begins)

    -- what stands where a node begins
    module _ (b : ℕ) (rest : List ℕ) (wrap : (key : Bool) (r : List ℕ) → Begins key (b ∷ rest) r → Begins key content r) (begins : Begins true (b ∷ rest) (b ∷ rest)) where
      keyed_says : (ps : List Piece) (column : ℕ) (text : List ℕ) (behind : ℕ) (after : List ℕ) (ls : List RawLine) → AllOut Nowhere ps → (is_empty text ≡ false → IsKey column (b ∷ rest) text behind after)
          → Says W Reason (keyed ps n column text behind after ls)
      keyed_says ps column text behind after ls h is =
          either (is_empty text) _ _ (λ e. spoiled_says ps column ls h)
          (λ e. value_says (ps ++ key_piece n column text ∷ []) behind after ls (one_more Nowhere ps (key_piece n column text) h tt)
          (λ c r i. wrap false (c ∷ r) (value (is e) (at_found after behind c r i))))

      node_begins : (c : ℕ) (r : List ℕ) → b ∷ rest ≡ c ∷ r → Begins true content (c ∷ r)
      node_begins c r e = subst (Begins true content) e (wrap true (b ∷ rest) begins)

      plain_says : (ps : List Piece) (column : ℕ) (o : Option ℕ) (ls : List RawLine) → AllOut Nowhere ps → start b rest ≡ starts.Plain → colon_at false 0 (b ∷ rest) ≡ o
          → Says W Reason (plain_key ps n column (b ∷ rest) o ls)
      plain_says ps column None ls h s c = leaf_at_says true ps column (b ∷ rest) ls h node_begins
      plain_says ps column (Some at) ls h s c =
          either (is_merge (trimmed (take at (b ∷ rest)))) _ _
          (λ e. leaf_says n (T n true (b ∷ rest)) (reasons true (b ∷ rest) (node_begins b rest refl)) ps column (Err (record { fault = record { line = n; code = LeftOut }; left_out = true })) ls h
          ((λ q. (refl, merges n column (column + at + 1) (b ∷ rest) (trimmed (take at (b ∷ rest))) (drop (at + 1) (b ∷ rest)) q (key_text_found (b ∷ rest) at column c) e)), λ o. refl))
          (λ e. keyed_says ps column (trimmed (take at (b ∷ rest))) (column + at + 1) (drop (at + 1) (b ∷ rest)) ls h (λ some. plain_key_found column b rest at s c e some))

      quoted_says : (ps : List Piece) (column : ℕ) (s : State) (o : Option (List ℕ)) (ls : List RawLine) → AllOut Nowhere ps → start b rest ≡ starts.InQuotes → run (opened b n) rest ≡ (s, o)
          → Says W Reason (quoted_key ps n column (b ∷ rest) s o ls)
      quoted_says ps column s None ls h i r = leaf_at_says true ps column (b ∷ rest) ls h node_begins
      quoted_says ps column s (Some behind) ls h i r =
          either (not (colon_behind behind)) _ _ (λ e. leaf_at_says true ps column (b ∷ rest) ls h node_begins)
          (λ c. either (is_some s.bad) _ _ (λ e. spoiled_says ps column ls h)
          (λ e. keyed_says ps column s.text (column + (length (b ∷ rest) - length behind) + 1) (drop 1 behind) ls h
          (λ some. quoted_key_found n column b rest s behind i r (no_bad s.bad e) (colon_or_not (colon_behind behind) c) some)))

      node_says : (t : Start) (ps : List Piece) (column : ℕ) (ls : List RawLine) → AllOut Nowhere ps → start b rest ≡ t → Says W Reason (node_by t ps n column b rest ls)
      node_says starts.InQuotes ps column ls h s = quoted_says ps column (run (opened b n) rest).0 (run (opened b n) rest).1 ls h s refl
      node_says starts.Plain ps column ls h s = plain_says ps column (colon_at false 0 (b ∷ rest)) ls h s refl
      node_says starts.InBrackets ps column ls h s = leaf_at_says true ps column (b ∷ rest) ls h node_begins
      node_says starts.InLines ps column ls h s = leaf_at_says true ps column (b ∷ rest) ls h node_begins
      node_says starts.LeftOut ps column ls h s = leaf_at_says true ps column (b ∷ rest) ls h node_begins
      node_says starts.Refused ps column ls h s = leaf_at_says true ps column (b ∷ rest) ls h node_begins

    heads_says : (bytes : List ℕ) (ps : List Piece) (spaced : Bool) (column : ℕ) (ls : List RawLine) → AllOut Nowhere ps → ((key : Bool) (rest : List ℕ) → Begins key bytes rest → Begins key content rest)
        → Says W Reason (heads ps n spaced column bytes ls)
    unfolding heads
    heads_says [] ps spaced column ls h wrap = says_found ps ls h
    heads_says (b ∷ rest) ps spaced column ls h wrap =
        either (is_blank b) _ _ (λ e. heads_says rest ps (b == 32) (column + 1) ls h (λ key r i. wrap key r (blank e i)))
        (λ no_blank. either (b == 35 && spaced) _ _ (λ e. says_found ps ls h)
        (λ e. either (b == 45 && breaks rest) _ _ (λ d. heads_says rest (ps ++ dash n column ∷ []) false (column + 1) ls (one_more Nowhere ps (dash n column) h tt) (λ key r i. wrap key r (behind_dash d i)))
        (λ d. node_says b rest wrap (here no_blank d) (start b rest) ps column ls h refl)))

  -- ---- all lines

  module _ (all : List RawLine) where
    abbrev Tells : Found → Type 0
    Tells r = Says W (λ (f : Fault). Shown T all f.line) r

    line_says : (l : RawLine) (ps : List Piece) (ls : List RawLine) → IsLast all (l ∷ ls) → AllOut Nowhere ps → Tells (line_heads ps l ls)
    unfolding line_heads
    line_says l ps ls last h =
        let reasons : (key : Bool) (rest : List ℕ) → Begins key l.content rest → (f : Fault) → f.line ≡ l.line → T l.line key rest → Shown T all f.line = λ key rest i f same t.
        record { before = last.0; l = l; behind = ls; are = last.1; number = sym same; key = key; left = rest; begins = i; has = t } in
        either (sees 9 l.content) _ _ (λ e. heads_says l.line l.content (λ f. Shown T all f.line) reasons (without_blanks l.content) ps (is_spaced true l.content) l.indent ls h (behind_blanks l.content))
        (λ e. heads_says l.line l.content (λ f. Shown T all f.line) reasons l.content ps true l.indent ls h (λ key rest i. i))

    go_says : (f : Found) (o : Option Fault) (more : List Piece → List RawLine → Found) → f.fault ≡ o → Tells f → (AllOut Nowhere f.pieces → Tells (more f.pieces f.rest)) → Tells (go_on f o more)
    go_says f None more e s go = go (weaker (Marked f.fault) Nowhere (λ n h. absurd (let q : None ≡ Some (record { line = n; code = LeftOut }) = sym e ∙ h in cc)) f.pieces s.marked)
    go_says f (Some v) more e s go = s

    pub pieces_say : (k : ℕ) (ps : List Piece) (ls : List RawLine) → AllOut Nowhere ps → IsLast all ls → Says W (λ (f : Fault). Shown T all f.line) (pieces k ps ls)
    unfolding pieces
    pieces_say zero ps ls h last = says_found ps ls h
    pieces_say (suc k) ps [] h last = says_found ps [] h
    pieces_say (suc k) ps (l ∷ ls) h last =
        let f : Found = line_heads ps l ls in
        let d : Adds (λ (m : ℕ). Unit {0}) (IsLast all) ps f = adds_line (λ m. Unit {0}) (IsLast all) (last_parts all) l ps ls tt (last_less all l ls last) in
        let s : Says W (λ (f : Fault). Shown T all f.line) f = line_says l ps ls last h in
        either (is_over ps l) _ _ (λ e. says_found ps (l ∷ ls) h) (λ e. go_says f f.fault (pieces k) refl s (λ h'. pieces_say k f.pieces f.rest h' d.left))

    pub all_say : (ls : List RawLine) → IsLast all ls → Says W (λ (f : Fault). Shown T all f.line) (all_pieces ls)
    all_say ls last = pieces_say (suc (length ls)) [] ls tt last
