-- A key that is repeated in flow is repeated in the tree, and no piece stands behind its line.
use Rattle.std.proofs.Common.{◌≡◌, ℕ, zero, suc, ◌+◌, ◌≤◌, ◌<◌, Bool, true, false, cond, ◌⊎◌, inl, inr, List, [], ◌∷◌, ◌++◌, Some, refl, sym, ap, subst, ◌∙◌, arith}
use Rattle.yaml_scan.specs.declared.line.RawLine.{RawLine}
use Rattle.yaml_scan.specs.declared.fault.Fault.{Fault}
use Rattle.yaml_scan.specs.declared.fault.Code.TheVariants.{RepeatedKey}
use Rattle.yaml_scan.specs.Words.{sees, without_blanks}
use Rattle.yaml_tree.specs.declared.node.Node.{Node}
use Rattle.yaml_tree.specs.declared.piece.Piece.{Piece}
use Rattle.yaml_tree.specs.Nodes.{Pair}
use Rattle.yaml_tree.specs.Pieces.{Found, found, heads, is_spaced, line_heads, is_over, go_on, pieces}
use Rattle.yaml_laws.proofs.Followed.{Alike, none as no_piece, more as more_alike}
use Rattle.yaml_laws.proofs.FollowedScalars.{Late}
use Rattle.yaml_laws.proofs.FollowedLines.{go_none, go_some}
use Rattle.yaml_laws.proofs.Laid.{AllOn}
use Rattle.yaml_rules.specs.LooseText.{IsLooseHeads}
use Rattle.yaml_rules.specs.Notation as n
use Rattle.yaml_rules.proofs.Chains.{AllSized}
use Rattle.yaml_signs.proofs.LeafSigns.{IsRule}
use Rattle.yaml_rules.proofs.Spelled.{Ascends, ascends_end, loose_end, line_fits}
use Rattle.yaml_rules.proofs.LooseSpots.{Among, first, later as later_item, Again, inside, next, among_has, again_has}
use Rattle.yaml_rules.proofs.LooseHeads.{AnyRepeats, Ends, reads, again, other, heads_end}

-- ---- a key that is repeated in flow is repeated in the tree

module _ (k : ℕ) where
  mutual
    node_has : {line floor : ℕ} {ps rest : List Piece} {x : Node} → n.IsNode line floor ps x rest → AnyRepeats k ps → n.Has (n.Repeats k) x ⊎ AnyRepeats k rest
    node_has (n.absent a) h = inr h
    node_has (n.one_leaf le) (inl h) = inl h
    node_has (n.one_leaf le) (inr h) = inr h
    node_has (n.list {n = m} {xs = xs} le i) h = elim (items_has i h) [
      | inl a ↦ inl (among_has k m [] xs a)
      | inr r ↦ inr r
    ]
    node_has (n.map {n = m} {xs = xs} le i) h = elim (pairs_has i h) [
      | inl a ↦ inl (again_has k m [] [] xs (λ l e. absurd cc) (a []))
      | inr r ↦ inr r
    ]

    items_has : {indent : ℕ} {ps rest : List Piece} {xs : List Node} → n.IsItems indent ps xs rest → AnyRepeats k ps → Among k xs ⊎ AnyRepeats k rest
    items_has (n.no_item o) h = inr h
    items_has (n.item x i) (inl h) = absurd h
    items_has (n.item x i) (inr h) = elim (node_has x h) [
      | inl a ↦ inl (first a)
      | inr r ↦ elim (items_has i r) [ inl a ↦ inl (later_item a) | inr r ↦ inr r ]
    ]

    value_has : {indent line : ℕ} {ps rest : List Piece} {x : Node} → n.IsValue indent line ps x rest → AnyRepeats k ps → n.Has (n.Repeats k) x ⊎ AnyRepeats k rest
    value_has (n.own_list x) h = node_has x h
    value_has (n.deeper d x) h = node_has x h

    pairs_has : {indent : ℕ} {ps rest : List Piece} {xs : List Pair} → n.IsPairs indent ps xs rest → AnyRepeats k ps → ((found : List Pair) → Again k found xs) ⊎ AnyRepeats k rest
    pairs_has (n.no_pair o) h = inr h
    pairs_has (n.pair x i) (inl h) = absurd h
    pairs_has (n.pair {n = m} {k = l} {x = y} x i) (inr h) = elim (value_has x h) [
      | inl a ↦ inl (λ found. inside a)
      | inr r ↦ elim (pairs_has i r) [ inl a ↦ inl (λ found. next y (a (found ++ (l, m, y) ∷ []))) | inr r ↦ inr r ]
    ]

  pub notation_has : (ps : List Piece) (root : Node) → n.IsNotation ps root → AnyRepeats k ps → n.Has (n.Repeats k) root
  notation_has ps root h a = elim (node_has h a) [ inl r ↦ r | inr r ↦ absurd r ]

-- ---- where flow repeats a key no piece stands behind its line

on_back : (P : ℕ → Type 0) {ps qs : List Piece} → Alike ps qs → AllOn P qs → AllOn P ps
on_back P no_piece h = h
on_back P (more_alike w a) h = (h.0, on_back P a h.1)

pub on_on : (P : ℕ → Type 0) {ps qs : List Piece} → Alike ps qs → AllOn P ps → AllOn P qs
on_on P no_piece h = h
on_on P (more_alike w a) h = (h.0, on_on P a h.1)

on_append : (P : ℕ → Type 0) (ps qs : List Piece) → AllOn P ps → AllOn P qs → AllOn P (ps ++ qs)
on_append P [] qs a b = b
on_append P (p ∷ ps) qs a b = (a.0, on_append P ps qs a.1 b)

pub on_front : (P : ℕ → Type 0) (ps qs : List Piece) → AllOn P (ps ++ qs) → AllOn P qs
on_front P [] qs h = h
on_front P (p ∷ ps) qs h = on_front P ps qs h.1

on_as : (P Q : ℕ → Type 0) → ((m : ℕ) → P m → Q m) → (ps : List Piece) → AllOn P ps → AllOn Q ps
on_as P Q to [] h = tt
on_as P Q to (p ∷ ps) h = (to p.line h.0, on_as P Q to ps h.1)

-- what stands on a line by its heads
abbrev OneLine : ℕ → List RawLine → List Piece → List RawLine → Type 0
OneLine line ls qs ls' = (right : ℕ) × (spaced : Bool) × (column : ℕ) × (bytes : List ℕ) × IsLooseHeads line right spaced column bytes ls qs ls'

line_ends : (ps : List Piece) (l : RawLine) (ls : List RawLine) → Ends l.line (OneLine l.line ls) ps (line_heads ps l ls)
unfolding line_heads
line_ends ps l ls = by (sees 9 l.content)
  where
    held : {right column : ℕ} {spaced : Bool} {bytes : List ℕ} {f : Found} → Ends l.line (IsLooseHeads l.line right spaced column bytes ls) ps f → Ends l.line (OneLine l.line ls) ps f
    held {right = right} {column = column} {spaced = spaced} {bytes = bytes} (reads qs whole ls' e a s i) = reads qs whole ls' e a s (right, spaced, column, bytes, i)
    held {right = right} {column = column} {spaced = spaced} {bytes = bytes} (again qs whole e e' a s r i) = again qs whole e e' a s r (right, spaced, column, bytes, i)
    held (other g e h) = other g e h

    by : (b : Bool) → Ends l.line (OneLine l.line ls) ps (cond b (heads ps l.line (is_spaced true l.content) l.indent (without_blanks l.content) ls) (heads ps l.line true l.indent l.content ls))
    by true = held (heads_end l.line (without_blanks l.content) ps (is_spaced true l.content) l.indent ls)
    by false = held (heads_end l.line l.content ps true l.indent ls)

on_its_line : (at line : ℕ) (ls : List RawLine) (qs whole : List Piece) (ls' : List RawLine) → Alike qs whole → AllSized whole → OneLine line ls whole ls' → AllOn (λ m. m ≡ line) qs
on_its_line at line ls qs whole ls' a s i = on_back (λ m. m ≡ line) a (line_fits at i.4 s).on_line

pub early_pieces : (turns : ℕ) (ps : List Piece) (ls : List RawLine) (m : ℕ) → Ascends m ls → AllOn (λ j. j < m) ps → (g : Fault) → (pieces turns ps ls).fault ≡ Some g → IsRule g.code → AllOn (λ j. j ≤ g.line) (pieces turns ps ls).pieces
unfolding pieces
early_pieces zero ps ls m up before g e rule = absurd cc
early_pieces (suc turns) ps [] m up before g e rule = absurd cc
early_pieces (suc turns) ps (l ∷ ls) m up before g e rule =
    by (is_over ps l) (line_heads ps l ls) (line_ends ps l ls) (λ qs ls' up' before' e'. early_pieces turns (ps ++ qs) ls' (l.line + 1) up' before' g e' rule) e
  where
    from : m ≤ l.line
    from = up.0

    Early : Found → Type 0
    Early f = AllOn (λ j. j ≤ g.line) f.pieces

    Go : Type 0
    Go = (qs : List Piece) (ls' : List RawLine) → Ascends (l.line + 1) ls' → AllOn (λ j. j < l.line + 1) (ps ++ qs) → (pieces turns (ps ++ qs) ls').fault ≡ Some g → Early (pieces turns (ps ++ qs) ls')

    here : (f : Found) → Ends l.line (OneLine l.line ls) ps f → Go → (go_on f f.fault (pieces turns)).fault ≡ Some g → Early (go_on f f.fault (pieces turns))
    here f (reads qs whole ls' is a s i) go e =
        let same : go_on f f.fault (pieces turns) ≡ pieces turns (ps ++ qs) ls' = go_none f f.fault (pieces turns) (ap (λ (x : Found). x.fault) is) ∙ ap (λ (x : Found). pieces turns x.pieces x.rest) is in
        subst Early (sym same)
        (go qs ls' (ascends_end (l.line + 1) (loose_end i.4) up.1)
        (on_append (λ j. j < l.line + 1) ps qs (on_as (λ j. j < m) (λ j. j < l.line + 1) (λ j lt. let le = from in omega (arith, lt, le)) ps before)
        (on_as (λ j. j ≡ l.line) (λ j. j < l.line + 1) (λ j q. omega (arith, q)) qs (on_its_line l.line l.line ls qs whole ls' a s i)))
        (ap (λ (x : Found). x.fault) (sym same) ∙ e))
    here f (again qs whole is v a s r i) go e =
        let same : go_on f f.fault (pieces turns) ≡ f = go_some f f.fault (record { line = l.line; code = RepeatedKey }) (pieces turns) v in
        let it : Some (record { line = l.line; code = RepeatedKey }) ≡ Some g = sym v ∙ ap (λ (x : Found). x.fault) (sym same) ∙ e in
        let fault_is_it : record { line = l.line; code = RepeatedKey } ≡ g = cc in
        let at : l.line ≡ g.line = ap (λ (z : Fault). z.line) fault_is_it in
        subst Early (sym same)
        (subst (λ (xs : List Piece). AllOn (λ j. j ≤ g.line) xs) (sym is)
        (on_append (λ j. j ≤ g.line) ps qs (on_as (λ j. j < m) (λ j. j ≤ g.line) (λ j lt. let le = from in omega (arith, lt, le, at)) ps before)
        (on_as (λ j. j ≡ l.line) (λ j. j ≤ g.line) (λ j q. omega (arith, q, at)) qs (on_its_line l.line l.line ls qs whole f.rest a s i))))
    here f (other h v bars) go e =
        let same : go_on f f.fault (pieces turns) ≡ f = go_some f f.fault h (pieces turns) v in
        let it : Some h ≡ Some g = sym v ∙ ap (λ (x : Found). x.fault) (sym same) ∙ e in
        let fault_is_it : h ≡ g = cc in
        absurd (bars (subst (λ (z : Fault). IsRule z.code) (sym fault_is_it) rule))

    by : (b : Bool) (f : Found) → Ends l.line (OneLine l.line ls) ps f → Go → (cond b (found ps (l ∷ ls)) (go_on f f.fault (pieces turns))).fault ≡ Some g → Early (cond b (found ps (l ∷ ls)) (go_on f f.fault (pieces turns)))
    by true f h go e = absurd cc
    by false f h go e = here f h go e

pub late_none : (k : ℕ) (tail : List Piece) → AllOn (λ j. j ≤ k) tail → AllOn (Late k) tail → tail ≡ []
late_none k [] a b = refl
late_none k (p ∷ tail) a b = absurd (let x = a.0 in let y = b.0 in omega (arith, x, y))
