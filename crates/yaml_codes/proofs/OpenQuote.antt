-- What C2 tells of its line where some text of the loose notation goes on from it: a quote is open.
use Rattle.std.proofs.Common.{◌≡◌, ℕ, suc, ◌≤◌, ◌<◌, Bool, true, false, cond, ◌||◌, ◌&&◌, ◌⊎◌, inl, inr, List, [], ◌∷◌, ◌++◌, length, take, drop, Option, Some, None, Err, refl, sym, ap, subst, ◌∙◌, append_assoc, arith, length-append}
use Rattle.std.specs.Prelude.{not}
use Rattle.std.specs.Str.{is_utf8}
use Rattle.std.proofs.lemmas.List.{length-take-le}
use Rattle.yaml_scan.specs.declared.line.RawLine.{RawLine}
use Rattle.yaml_scan.specs.declared.fault.Fault.{Fault}
use Rattle.yaml_scan.specs.declared.fault.Code.{Code}
use Rattle.yaml_scan.specs.declared.fault.Code.TheVariants.{Tab, LeftOut, RepeatedKey, Limit, NotUtf8, Structure}
use Rattle.yaml_scan.specs.Codes.{number_of}
use Rattle.yaml_scan.specs.Words.{sees}
use Rattle.yaml_scan.specs.Lines.{lines, fault, tab_fault, mark_fault, utf8_fault, one_fault, or_else, least, fault_from, line_fault, is_blank_line, is_mark, is_directive, without_mark, without_start}
use Rattle.yaml_tree.specs.declared.node.Node.{Node}
use Rattle.yaml_tree.specs.declared.piece.Piece.{Piece}
use Rattle.yaml_tree.specs.Nodes.{null}
use Rattle.yaml_tree.specs.Layout.{document}
use Rattle.yaml_tree.specs.Pieces.{Found, found, all_pieces}
use Rattle.yaml_tree.specs.Spelling.{none as no_byte, IsLines}
use Rattle.yaml_tree.specs.Tree.{tree, fault_of}
use Rattle.yaml_tree.proofs.Low.{Low}
use Rattle.yaml_tree.proofs.LinesFound.{lines_found}
use Rattle.yaml_laws.specs.Refused.{SameLines, IsOneOf, IsLineOf, OpensQuote}
use Rattle.yaml_laws.proofs.Closing.{IsClosing}
use Rattle.yaml_laws.proofs.Followed.{Alike, none, more, alike_itself}
use Rattle.yaml_laws.proofs.Laid.{AllOn}
use Rattle.yaml_laws.proofs.Walked.{AllIn}
use Rattle.yaml_laws.proofs.WalkedPieces.{OnFault}
use Rattle.yaml_laws.proofs.FollowedScalars.{Late, AllLate}
use Rattle.yaml_laws.proofs.FollowedLines.{Rises, Fits, gone, behind, later, Follows, comes, stays, deeper, closes, Ahead, pieces_follow, start_in, faults_on, Starts, start_follows}
use Rattle.yaml_laws.proofs.Numbers.{Numbered, numbered_rises, numbered_front, numbered_behind}
use Rattle.yaml_laws.proofs.Orders.{least_in}
use Rattle.yaml_laws.proofs.Whole.{read_lines, in_tree, told, Become}
use Rattle.yaml_laws.proofs.Cuts.{one_of, no_later_each, numbered_become, early_lines, all_numbered, told_text, cut, cut_same, on_a_line}
use Rattle.yaml_laws.proofs.Completed.{lines_keep, closing_keeps, start_behind, nothing_read}
use Rattle.yaml_laws.proofs.Outcomes.{OpenIn, Outcome, is_clear, is_lost, is_closed, pieces_come}
use Rattle.yaml_laws.proofs.Written.{completed_text}
use Rattle.yaml_laws.proofs.QuoteLines.{begins_there, opens_there, last_alike}
use Rattle.yaml_rules.specs.LooseText.{AreOrderly, none as no_more_lines, line as one_line, IsLoosePieces}
use Rattle.yaml_rules.specs.Notation as n
use Rattle.yaml_rules.proofs.Firsts.{on_pieces}
use Rattle.yaml_rules.proofs.KeysAgain.{on_on}
use Rattle.yaml_rules.proofs.Layouts.{Fit}
use Rattle.yaml_rules.proofs.LooseLines.{closing_orderly, Whole, all_read, key_again, refused}
use Rattle.yaml_rules.proofs.Spelled.{Ascends, ascends_start, numbered_ascends, pieces_fit}
use Rattle.yaml_codes.specs.OpenText.{IsUtf8At, loosely_spelled, EndsLoosely}
use Rattle.yaml_codes.proofs.ClosedLines.{alike_then, whole_of, early_closed, ascends_closed}
use Rattle.yaml_codes.proofs.Codes.{low_or_not, low_back, low_on, Plain, notation_read, spelled_text}
use Rattle.yaml_codes.proofs.FirstPieces.{alike_between, first_notation}
use Rattle.yaml_codes.proofs.HighLeaf.{high_refused, LastLow, last_low, before_line}
use Rattle.yaml_codes.proofs.LooseCodes.{IsOfRule, if_none, Loosely, loosely_read, read_notation, each_of_rule}
use Rattle.yaml_codes.proofs.LooseOf.{notation_loosely}

-- ---- lines

orderly_front : (p b : List RawLine) (begun : Bool) → AreOrderly begun (p ++ b) → AreOrderly begun p
orderly_front [] b begun o = no_more_lines
orderly_front (l ∷ p) b begun (one_line t d m r) = one_line t d m (orderly_front p b (begun || not (is_blank_line l)) r)

in_front : (p b : List RawLine) (l : RawLine) → IsOneOf p l → IsOneOf (p ++ b) l
in_front [] b l h = absurd h
in_front (x ∷ p) b l (inl e) = inl e
in_front (x ∷ p) b l (inr h) = inr (in_front p b l h)

unless_so : (b : Bool) (d g : Fault) → cond b None (Some d) ≡ Some g → (b ≡ false) × (d ≡ g)
unless_so true d g h = absurd cc
unless_so false d g h = let q : d ≡ g = cc in (refl, q)

one_bad : (begun : Bool) (l : RawLine) (g : Fault) → sees 9 l.content ≡ false → is_directive l ≡ false → (begun && is_mark l) ≡ false → one_fault begun l ≡ Some g → (l.line ≡ g.line) × (is_utf8 l.content ≡ false)
one_bad begun l g t d m e =
    elim (least_in (tab_fault l) (least (mark_fault begun l) (utf8_fault l)) g e) [
      | inl h ↦ absurd (if_none (sees 9 l.content) (fault l.line Tab) g t h)
      | inr h ↦ elim (least_in (mark_fault begun l) (utf8_fault l) g h) [
        | inl i ↦ absurd (if_none (is_directive l || (begun && is_mark l)) (fault l.line LeftOut) g (rw (d, m) refl) i)
        | inr i ↦
            let r = unless_so (is_utf8 l.content) (fault l.line NotUtf8) g i in
            (ap (λ (z : Fault). z.line) r.1, r.0)
      ]
    ]

-- the line of a fault of orderly lines alone is not UTF-8
bad_line : (ls : List RawLine) (begun : Bool) (g : Fault) → AreOrderly begun ls → fault_from begun ls ≡ Some g → (l : RawLine) × IsOneOf ls l × (l.line ≡ g.line) × (is_utf8 l.content ≡ false)
unfolding fault_from
bad_line [] begun g o e = absurd cc
bad_line (l ∷ ls) begun g (one_line t d m r) e = by (one_fault begun l) refl e (λ q. bad_line ls (begun || not (is_blank_line l)) g r q)
  where
    by : (o : Option Fault) → one_fault begun l ≡ o → or_else o (fault_from (begun || not (is_blank_line l)) ls) ≡ Some g
        → (fault_from (begun || not (is_blank_line l)) ls ≡ Some g → (x : RawLine) × IsOneOf ls x × (x.line ≡ g.line) × (is_utf8 x.content ≡ false))
        → (x : RawLine) × IsOneOf (l ∷ ls) x × (x.line ≡ g.line) × (is_utf8 x.content ≡ false)
    by None is e go = let r = go e in (r.0, inr r.1, r.2, r.3)
    by (Some h) is e go = let r = one_bad begun l g t d m (is ∙ e) in (l, inl refl, r.0, r.1)

-- ---- pieces

record Split (ps qs zs : List Piece) : Type 0 where
  former : List Piece
  latter : List Piece
  are : zs ≡ former ++ latter
  alike : Alike ps former

alike_split : (ps qs zs : List Piece) → Alike (ps ++ qs) zs → Split ps qs zs
alike_split [] qs zs a = record { former = []; latter = zs; are = refl; alike = none }
alike_split (p ∷ ps) qs zs (more {line = line} {column = column} {v = v} {qs = left} w a) =
    let r = alike_split ps qs left a in
    record { former = record { line = line; column = column; what = v } ∷ r.former; latter = r.latter; are = ap (λ (xs : List Piece). record { line = line; column = column; what = v } ∷ xs) r.are; alike = more w r.alike }

low_append : (ps qs : List Piece) → Low ps → Low qs → Low (ps ++ qs)
low_append [] qs a b = b
low_append (p ∷ ps) qs a b = (a.0, low_append ps qs a.1 b)

no_rule : (c : Code) → c ≡ Structure → IsOfRule c → ⊥
no_rule c s (inl h) = let q : Structure ≡ RepeatedKey = sym s ∙ h in cc
no_rule c s (inr (inl h)) = let q : Structure ≡ Limit = sym s ∙ h in cc
no_rule c s (inr (inr h)) = let q : Structure ≡ NotUtf8 = sym s ∙ h in cc

module _ (text other : List ℕ) (f : Fault) (root : Node) (same : SameLines f.line text other) (e : tree text ≡ Err f) (structure : f.code ≡ Structure) (in_it : n.IsLooseText other root) where
  abbrev Front : List RawLine
  Front = take f.line (lines text)

  abbrev Behind : List RawLine
  Behind = drop f.line (lines text)

  abbrev Instead : List RawLine
  Instead = drop f.line (lines other)

  front_long : length Front ≡ f.line
  front_long = length-take-le f.line (lines text) (on_a_line text f e)

  own_lines : Numbered 1 (Front ++ Behind)
  own_lines = all_numbered text (Front ++ Behind) (cut f.line (lines text))

  own_late : AllLate (length Front) Behind
  own_late = numbered_behind 1 (length Front) Front Behind (omega arith) own_lines

  other_are : lines other ≡ Front ++ Instead
  other_are = cut_same f.line text other same

  other_lines : Numbered 1 (Front ++ Instead)
  other_lines = all_numbered other (Front ++ Instead) other_are

  other_late : AllLate (length Front) Instead
  other_late = numbered_behind 1 (length Front) Front Instead (omega arith) other_lines

  loose_other : Loosely (Front ++ Instead) root
  loose_other = loosely_read other root (Front ++ Instead) other_are in_it

  other_codes : (g : Fault) → (line_fault (Front ++ Instead) ≡ Some g) ⊎ (((read_lines (Front ++ Instead)).fault ≡ Some g) ⊎ (in_tree (Front ++ Instead) ≡ Some g)) → IsOfRule g.code
  other_codes g h = each_of_rule (Front ++ Instead) root g loose_other h

  front_early : AllIn (λ m. m ≤ length Front) Front
  front_early = early_lines Front Behind own_lines

  front_rises : Rises Front
  front_rises = numbered_rises 1 Front (numbered_front 1 Front Behind own_lines)

  front_ascends : Ascends 1 Front
  front_ascends = numbered_ascends 1 Front (numbered_front 1 Front Behind own_lines)

  front_fits : Fits (length Front) (length (without_start Front)) (without_start Front)
  front_fits = (start_in (AllIn (λ m. m ≤ length Front)) (λ l rest i. i.1) Front front_early, start_in Rises (λ l rest i. i.1) Front front_rises, omega arith)

  front_orderly : AreOrderly false Front
  front_orderly = orderly_front Front Instead false loose_other.orderly

  on_front : AllOn (λ m. m ≤ length Front) (read_lines Front).pieces
  on_front = on_pieces (length Front) Front front_early front_rises

  -- the pieces of the first lines, and those of lines behind them
  ahead : (b : List RawLine) → AllLate (length Front) b → Ahead (length Front) (read_lines Front) (read_lines (Front ++ b))
  ahead b late =
      let k : ℕ = length Front in
      let s : Starts k (without_start Front) (without_start (Front ++ b)) = start_follows k b late Front in
      let h : Ahead k (all_pieces (without_start Front)) (all_pieces (without_start Front ++ s.behind_them)) =
      pieces_follow k s.behind_them s.late (suc (length (without_start Front))) (suc (length (without_start Front ++ s.behind_them))) [] (without_start Front) (omega arith) (omega (arith, length-append (without_start Front) s.behind_them)) front_fits in
      subst (λ (ls : List RawLine). Ahead k (all_pieces (without_start Front)) (all_pieces ls)) (sym s.are) h

  own_become : Become (length Front) Front (Front ++ Behind)
  own_become = numbered_become Front Behind own_lines

  other_become : Become (length Front) Front (Front ++ Instead)
  other_become = numbered_become Front Instead other_lines

  own_told : told (Front ++ Behind) ≡ Some f
  own_told = told_text text (Front ++ Behind) f (cut f.line (lines text)) e

  -- ---- what the refusal is

  not_late : (g : Fault) → g ≡ f → length Front < g.line → ⊥
  not_late g is lt = let l = front_long in let same_line : g.line ≡ f.line = ap (λ (z : Fault). z.line) is in omega (arith, l, same_line, lt)

  some_fault : (g h : Fault) → Some g ≡ Some h → g ≡ h
  some_fault g h q = cc

  late_no : (o : Option Fault) → OnFault (Late (length Front)) o → o ≡ Some f → ⊥
  late_no None l q = cc
  late_no (Some g) l q = not_late g (some_fault g f q) l

  -- what was no fault of the first lines is none of them when lines follow
  stays_none : (x y : Option Fault) → x ≡ None → Follows (length Front) x y → y ≡ Some f → ⊥
  stays_none x y q (comes l) z = late_no y l z
  stays_none x y q stays z = cc
  stays_none x y q (deeper c lt) z = cc
  stays_none x y q (closes c o) z = cc

  -- the first lines have a fault of this code among those of their kind
  was_structure : (x y : Option Fault) → Follows (length Front) x y → y ≡ Some f → (h : Fault) × (x ≡ Some h) × (h.code ≡ Structure)
  was_structure x y (comes l) z = absurd (late_no y l z)
  was_structure x y (stays {f = h}) z = (h, refl, subst (λ (g : Fault). g.code ≡ Structure) (sym (some_fault h f z)) structure)
  was_structure x y (deeper {f = h} {g = g} c lt) z = absurd (not_late g (some_fault g f z) lt)
  was_structure x y (closes {f = h} c o) z = (h, refl, c)

  -- it is no fault of a line alone, and none of the tree
  no_line : (o : Option Fault) → line_fault Front ≡ o → line_fault (Front ++ Behind) ≡ Some f → ⊥
  no_line None q j = stays_none (line_fault Front) (line_fault (Front ++ Behind)) q own_become.alone j
  no_line (Some g) q j =
      let is : g ≡ f = some_fault g f (sym (lines_keep Behind Front false g q) ∙ j) in
      no_rule g.code (ap (λ (z : Fault). z.code) is ∙ structure) (other_codes g (inl (lines_keep Instead Front false g q)))

  no_tree_fault : (h : Fault) → in_tree Front ≡ Some h → h.code ≡ Structure → ⊥
  no_tree_fault h i c =
      elim (other_become.too_deep_only h i) [
        | inl j ↦ no_rule h.code c (other_codes h (inr (inr j)))
        | inr l ↦ let q : 2 ≡ 12 = sym (ap number_of c) ∙ ap number_of l in omega (arith, q)
      ]

  no_tree : in_tree (Front ++ Behind) ≡ Some f → ⊥
  no_tree j = let h = was_structure (in_tree Front) (in_tree (Front ++ Behind)) own_become.of_tree j in no_tree_fault h.0 h.1 h.2

  of_piece : (read_lines (Front ++ Behind)).fault ≡ Some f
  of_piece =
      elim (one_of (Front ++ Behind) f own_told) [
        | inl j ↦ absurd (no_line (line_fault Front) refl j)
        | inr r ↦ elim r [ inl j ↦ j | inr j ↦ absurd (no_tree j) ]
      ]

  not_clear : (read_lines Front).fault ≡ None → ⊥
  not_clear is = stays_none (read_lines Front).fault (read_lines (Front ++ Behind)).fault is own_become.of_piece of_piece

  -- a fault of the code stays one of it, or is not on the first lines
  still_structure : (h v : Fault) (x y : Option Fault) → Follows (length Front) x y → x ≡ Some h → h.code ≡ Structure → y ≡ Some v → v.line ≤ length Front → v.code ≡ Structure
  still_structure h v x y (comes l) i c j le = absurd cc
  still_structure h v x y (stays {f = d}) i c j le = ap (λ (z : Fault). z.code) (sym (some_fault d v j) ∙ some_fault d h i) ∙ c
  still_structure h v x y (deeper {f = d} {g = g} l lt) i c j le = absurd (let q : g.line ≡ v.line = ap (λ (z : Fault). z.line) (some_fault g v j) in omega (arith, lt, q, le))
  still_structure h v x y (closes l gone) i c j le = absurd cc
  still_structure h v x y (closes l (behind {g = g} lt)) i c j le = absurd (let q : g.line ≡ v.line = ap (λ (z : Fault). z.line) (some_fault g v j) in omega (arith, lt, q, le))
  still_structure h v x y (closes l (later {g = g} s at)) i c j le = ap (λ (z : Fault). z.code) (sym (some_fault g v j)) ∙ s

  not_lost : (v : Fault) → (read_lines (Front ++ Instead)).fault ≡ Some v → v.line ≤ length Front → ⊥
  not_lost v is le =
      let h = was_structure (read_lines Front).fault (read_lines (Front ++ Behind)).fault own_become.of_piece of_piece in
      no_rule v.code (still_structure h.0 v (read_lines Front).fault (read_lines (Front ++ Instead)).fault other_become.of_piece h.1 h.2 is le) (other_codes v (inr (inl is)))

  -- ---- with a line that closes the quote

  -- the pieces of the first lines are in the notation, whatever their leaves hold
  first_tree : (qs : List Piece) → Alike (read_lines Front).pieces qs → (x : Node) × n.IsNotation qs x
  first_tree qs al =
      let h = ahead Instead other_late in
      let t = read_notation (Front ++ Instead) root loose_other in
      first_notation h.tail h.front qs t.0 (subst (λ (ps : List Piece). n.IsNotation ps t.0) h.are t.1) (alike_between h.alike al)

  -- no leaf of them is too high, else it were told before the quote
  not_high : (whole : List Piece) → Alike (read_lines Front).pieces whole → Fit (length Front) whole → n.EndsOn (length Front) whole → (Low (read_lines Front).pieces → ⊥) → ⊥
  not_high whole al fit last high =
      let on : AllOn (λ m. m ≤ length Front) whole = on_on (λ m. m ≤ length Front) al on_front in
      let ends : LastLow whole = subst LastLow (sym last.3) (last_low (length Front) last.1 last.2 last.0) in
      let b = before_line (length Front) whole on fit ends in
      let h = ahead Behind own_late in
      let s : Split b.0 b.1 h.front = alike_split b.0 b.1 h.front (subst (λ (ps : List Piece). Alike ps h.front) b.2 (alike_between al h.alike)) in
      let t = first_tree h.front h.alike in
      let t' = first_notation s.latter s.former s.former t.0 (subst (λ (ps : List Piece). n.IsNotation ps t.0) s.are t.1) (alike_itself s.former) in
      let before_high : Low s.former → ⊥ = λ l. high (low_back al (subst Low (sym b.2) (low_append b.0 b.1 (low_back s.alike l) b.4))) in
      let g = high_refused (λ m. m < length Front) (s.latter ++ h.tail) s.former t'.0 t'.1 (on_on (λ m. m < length Front) s.alike b.3) before_high in
      let are : (read_lines (Front ++ Behind)).pieces ≡ s.former ++ (s.latter ++ h.tail) = h.are ∙ ap (λ (ps : List Piece). ps ++ h.tail) s.are ∙ append_assoc s.former s.latter h.tail in
      let tree_is : in_tree (Front ++ Behind) ≡ Some g.0 = ap (λ (ps : List Piece). fault_of (document ps)) are ∙ ap fault_of g.1 in
      let before = g.2 in
      let long = front_long in
      elim (no_later_each (Front ++ Behind) f g.0 own_told (inr (inr tree_is))) [
        | inl lt ↦ omega (arith, lt, before, long)
        | inr at ↦ let at' = at.0 in omega (arith, at', before, long)
      ]

  abbrev Quoted : Type 0
  Quoted = EndsLoosely f.line text × (line_fault Front ≡ None → n.EndsQuoted f.line text)

  module _ (x : RawLine) (c : IsClosing (length Front) x) where
    abbrev Closed : List RawLine
    Closed = Front ++ x ∷ []

    closed_orderly : AreOrderly false Closed
    closed_orderly = closing_orderly (length Front) x c Front false front_orderly

    closed_ascends : Ascends 1 Closed
    closed_ascends = ascends_closed (length Front) x c Front 1 (omega arith) front_ascends front_early

    closed_whole : Whole (suc (length Front)) [] (without_start Closed) (read_lines Closed)
    closed_whole = whole_of (suc (length Front)) Closed closed_orderly closed_ascends (early_closed (length Front) x c Front front_early)

    module _ (q : OpenIn (length Front) [] (without_start Front) (all_pieces (without_start Front))) (qs : List Piece) (read_is : read_lines Closed ≡ found qs []) (al : Alike (read_lines Front).pieces qs) where
      begins : q.l.line ≡ length Front
      begins = begins_there (length Front) Front Behind own_late f (sym front_long) own_told (no_line (line_fault Front) refl) no_tree q

      pieces_are : (read_lines Closed).pieces ≡ qs
      pieces_are = ap (λ (g : Found). g.pieces) read_is

      closed_text : (t : List ℕ) × (lines t ≡ Closed)
      closed_text = completed_text text Front Behind (x ∷ []) (cut f.line (lines text)) (inr (x, c, refl))

      opens : OpensQuote f.line text
      opens = opens_there text f.line (length Front) Front Behind (cut f.line (lines text)) q (begins ∙ front_long)

      -- they end with a leaf of this line
      ends_on : (ps : List Piece) → Alike (read_lines Front).pieces ps → n.EndsOn (length Front) ps
      ends_on ps a =
          let r = last_alike q.front q.l.line q.column 1 false (null q.l.line) (read_lines Front).pieces ps q.last a in
          subst (λ (m : ℕ). n.EndsOn m ps) begins (r.0, q.column, r.1, r.2)

      strictly : Low (read_lines Front).pieces → line_fault Front ≡ None → n.EndsQuoted f.line text
      strictly low clean =
          let plain : Plain Closed =
          record {
            clean = closing_keeps (length Front) x c Front false clean;
            read = ap (λ (g : Found). g.fault) read_is;
            low = subst Low (sym pieces_are) (low_on al low);
          } in
          record {
            closed = closed_text.0;
            close = x;
            pieces = (read_lines Closed).pieces;
            lines_are = closed_text.1;
            quote = c.1;
            is_spelled = (spelled_text closed_text.0 Closed closed_text.1 plain).0;
            root = (first_tree qs al).0;
            in_notation = subst (λ (ps : List Piece). n.IsNotation ps (first_tree qs al).0) (sym pieces_are) (first_tree qs al).1;
            last = subst (λ (m : ℕ). n.EndsOn m (read_lines Closed).pieces) front_long (subst (λ (ps : List Piece). n.EndsOn (length Front) ps) (sym pieces_are) (ends_on qs al));
            opens = opens;
          }

      loosely : (whole : List Piece) → Alike (read_lines Front).pieces whole → IsLoosePieces [] (without_start Closed) whole → EndsLoosely f.line text
      loosely whole a are =
          record {
            closed = closed_text.0;
            close = x;
            pieces = whole;
            lines_are = closed_text.1;
            quote = c.1;
            root = (first_tree whole a).0;
            is_spelled = loosely_spelled (subst (λ (xs : List RawLine). IsLines 1 (without_mark closed_text.0) xs) closed_text.1 (lines_found (without_mark closed_text.0) [] 1 no_byte)) closed_orderly are;
            in_notation = (first_tree whole a).1;
            last = subst (λ (m : ℕ). n.EndsOn m whole) front_long (ends_on whole a);
            opens = opens;
          }

      by_whole : Whole (suc (length Front)) [] (without_start Closed) (read_lines Closed) → Quoted
      by_whole (key_again m whole h a s any p) = absurd (let q : None ≡ Some (record { line = m; code = RepeatedKey }) = sym (ap (λ (g : Found). g.fault) read_is) ∙ h in cc)
      by_whole (refused g h bars) = absurd (let q : None ≡ Some g = sym (ap (λ (g : Found). g.fault) read_is) ∙ h in cc)
      by_whole (all_read whole clear a sized are) =
          let a' : Alike (read_lines Front).pieces whole = alike_then al (subst (λ (ps : List Piece). Alike ps whole) pieces_are a) in
          let on = on_on (λ m. m ≤ length Front) a' on_front in
          let fit : Fit (length Front) whole = pieces_fit (length Front) are 1 (start_in (Ascends 1) ascends_start Closed closed_ascends) tt sized on tt in
          let low : Low (read_lines Front).pieces = elim (low_or_not (read_lines Front).pieces) [ inl l ↦ l | inr high ↦ absurd (not_high whole a' fit (ends_on whole a') high) ] in
          (loosely whole a' are, strictly low)

  quoted_by : Outcome (length Front) [] (without_start Front) (all_pieces (without_start Front)) → Quoted
  quoted_by (is_clear clear) = absurd (not_clear clear)
  quoted_by (is_lost h) =
      let s : Starts (length Front) (without_start Front) (without_start (Front ++ Instead)) = start_follows (length Front) Instead other_late Front in
      let v = h s.behind_them s.late (suc (length (without_start Front ++ s.behind_them))) (omega (arith, length-append (without_start Front) s.behind_them)) in
      absurd (not_lost v.0 (ap (λ (ls : List RawLine). (all_pieces ls).fault) s.are ∙ v.1) v.2)
  quoted_by (is_closed x c h q) =
      let r = h (suc (length (without_start Front ++ x ∷ []))) (omega (arith, length-append (without_start Front) (x ∷ []))) in
      by_whole x c q r.0 (ap all_pieces (starts (without_start Front) refl) ∙ r.1) r.2 (closed_whole x c)
    where
      starts : (q : List RawLine) → without_start Front ≡ q → without_start (Front ++ x ∷ []) ≡ without_start Front ++ x ∷ []
      starts [] i = absurd (not_clear (nothing_read (without_start Front) i))
      starts (y ∷ ys) i = start_behind (x ∷ []) Front y ys i

  quoted : Quoted
  quoted = quoted_by (pieces_come (length Front) (suc (length (without_start Front))) [] (without_start Front) (omega arith) front_fits)

  -- where the refused line is UTF-8, all of them are
  clean_front : IsUtf8At f.line text → (o : Option Fault) → line_fault Front ≡ o → line_fault Front ≡ None
  clean_front utf8 None q = q
  clean_front utf8 (Some g) q =
      let b = bad_line Front false g front_orderly q in
      let le : g.line ≤ length Front = subst (OnFault (λ m. m ≤ length Front)) q (faults_on (λ m. m ≤ length Front) Front false front_early) in
      let long = front_long in
      let at : g.line ≡ f.line =
      elim (no_later_each (Front ++ Behind) f g own_told (inl (lines_keep Behind Front false g q))) [
        | inl lt ↦ absurd (omega (arith, lt, le, long))
        | inr h ↦ sym h.0
      ] in
      let one : IsLineOf text b.0 = subst (λ (ls : List RawLine). IsOneOf ls b.0) (sym (cut f.line (lines text))) (in_front Front Behind b.0 b.1) in
      absurd (let z : true ≡ false = sym (utf8 b.0 one (b.2 ∙ at)) ∙ b.3 in cc)

  open_by : EndsLoosely f.line text × (IsUtf8At f.line text → n.EndsQuoted f.line text)
  open_by = (quoted.0, λ u. quoted.1 (clean_front u (line_fault Front) refl))

  -- and where the other text is in the notation, so they are
  open_strictly : line_fault (Front ++ Instead) ≡ None → n.EndsQuoted f.line text
  open_strictly clean = quoted.1 (front_clean (line_fault Front) refl)
    where
      front_clean : (o : Option Fault) → line_fault Front ≡ o → line_fault Front ≡ None
      front_clean None q = q
      front_clean (Some g) q = absurd (let z : Some g ≡ None = sym (lines_keep Instead Front false g q) ∙ clean in cc)

pub open_loosely : (text other : List ℕ) (f : Fault) (root : Node) → SameLines f.line text other → tree text ≡ Err f → f.code ≡ Structure → n.IsLooseText other root
    → EndsLoosely f.line text × (IsUtf8At f.line text → n.EndsQuoted f.line text)
open_loosely text other f root same e structure i = open_by text other f root same e structure i

pub open_quote : (text other : List ℕ) (f : Fault) (root : Node) → SameLines f.line text other → tree text ≡ Err f → f.code ≡ Structure → n.IsNotationText other root → n.EndsQuoted f.line text
open_quote text other f root same e structure i =
    open_strictly text other f root same e structure (notation_loosely other root i) (notation_read other root (take f.line (lines text) ++ drop f.line (lines other)) (cut_same f.line text other same) i).clean
