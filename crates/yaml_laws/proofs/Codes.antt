-- The codes of pieces and of their tree are few: those of a line alone are not among them.
use Rattle.std.proofs.Common.{◌≡◌, ℕ, zero, suc, ◌+◌, ◌-◌, Bool, true, false, cond, ◌||◌, ◌&&◌, List, [], ◌∷◌, ◌++◌, length, take, drop, Option, Some, None, Result, Ok, Err, refl}
use Rattle.std.specs.Prelude.{◌==◌, not, nat_lt}
use Rattle.yaml_scan.specs.declared.line.RawLine.{RawLine}
use Rattle.yaml_scan.specs.declared.fault.Fault.{Fault}
use Rattle.yaml_scan.specs.declared.fault.Code.{Code}
use Rattle.yaml_scan.specs.Codes.{number_of}
use Rattle.yaml_scan.specs.Answers.{Reading}
use Rattle.yaml_scan.specs.Words.{sees, is_blank, is_empty, is_some, breaks, nothing_left, times, folded, has_colon, has_comment, colon_at, trimmed, only_blanks, without_blanks}
use Rattle.yaml_scan.specs.Plain.{text_of, further, plain}
use Rattle.yaml_scan.specs.Quoted.{State, opened, run, led, finished_by, next_line, further as quoted_further, quoted}
use Rattle.yaml_scan.specs.Block.{State as Block, added, begun, body, opening, headed, block}
use Rattle.yaml_tree.specs.declared.node.Node.{Node}
use Rattle.yaml_tree.specs.declared.flow.Frame.{Frame}
use Rattle.yaml_tree.specs.declared.piece.Piece.{Piece}
use Rattle.yaml_tree.specs.declared.starts.Start.{Start}
use Rattle.yaml_tree.specs.declared.starts.Start.TheVariants as starts
use Rattle.yaml_tree.specs.Starts.{start, is_merge, left_out, no_plain}
use Rattle.yaml_tree.specs.Flow.{Machine, Ended, Step, on, ended, fails, behind, closed, holding, keyed as flow_keyed, alone, colon_behind as flow_colon, wants_key, quoted_here, quoted_by, word_end, plain_key as flow_key, plain_by, scalar as flow_scalar, closing, after_step, item_step, token, step_by, step, ran, run as flow_run, flow}
use Rattle.yaml_tree.specs.Leaves.{Leafs, scalar, flow_by, leaf_by, colon_behind}
use Rattle.yaml_tree.specs.Nodes.{null}
use Rattle.yaml_tree.specs.Pieces.{Found, floor, dash, key, leaf_found, leaf_at, value_at, keyed, plain_key, quoted_key, node_by, heads, is_spaced, line_heads, is_over, go_on, pieces}
use Rattle.yaml_laws.proofs.WalkedPieces.{of_wrong}
use Rattle.yaml_laws.proofs.Walked.{it}

-- one of C2, C3, C4 and C12
abbrev pub IsFew : Code → Type 0
IsFew c = (number_of c == 2 || number_of c == 3 || number_of c == 4 || number_of c == 12) ≡ true

abbrev pub Few : {A F : Type 0} → (F → Fault) → Result A F → Type 0
Few at (Ok x) = Unit {0}
Few at (Err f) = IsFew (at f).code

pub few_either : {A F : Type 0} (at : F → Fault) (b : Bool) (r s : Result A F) → Few at r → Few at s → Few at (cond b r s)
few_either at true r s p q = p
few_either at false r s p q = q

few_further : (floor : ℕ) (ls : List RawLine) (text : List ℕ) (blanks : ℕ) → Few it (further floor text blanks ls)
unfolding further
few_further floor [] text blanks = tt
few_further floor (l ∷ ls) text blanks =
    few_either it (is_empty l.content) _ _ (few_further floor ls text (blanks + 1))
    (few_either it (sees 35 l.content || nat_lt l.indent floor) _ _ tt
    (few_either it (has_colon l.content) _ _ refl
    (few_either it (has_comment l.content) _ _ tt
    (few_further floor ls (text ++ folded blanks ++ text_of l.content) 0))))

few_plain : (floor n : ℕ) (bytes : List ℕ) (ls : List RawLine) → Few it (plain floor n bytes ls)
unfolding plain
few_plain floor n bytes ls = few_either it (has_colon bytes) _ _ refl (few_either it (has_comment bytes) _ _ tt (few_further floor ls (text_of bytes) 0))

few_finished : (bad : Option ℕ) (s : State) (rest : List ℕ) (ls : List RawLine) → Few it (finished_by bad s rest ls)
few_finished (Some n) s rest ls = refl
few_finished None s rest ls = few_either it (nothing_left false rest) _ _ tt refl

few_led : (s : State) (end : Option (List ℕ)) (ls : List RawLine) (more : Reading (List ℕ)) → Few it more → Few it (led s end ls more)
few_led s (Some rest) ls more h = few_finished s.bad s rest ls
few_led s None ls more h = h

few_quoted_further : (floor first : ℕ) (ls : List RawLine) (blanks : ℕ) (s : State) → Few it (quoted_further floor first blanks s ls)
unfolding quoted_further
few_quoted_further floor first [] blanks s = refl
few_quoted_further floor first (l ∷ ls) blanks s =
    let r : State × Option (List ℕ) = run (next_line s blanks l.line) (without_blanks l.content) in
    few_either it (only_blanks l.content) _ _ (few_quoted_further floor first ls (blanks + 1) s)
    (few_either it (nat_lt l.indent floor) _ _ refl (few_led r.0 r.1 ls (quoted_further floor first 0 r.0 ls) (few_quoted_further floor first ls 0 r.0)))

few_quoted : (floor n quote : ℕ) (bytes : List ℕ) (ls : List RawLine) → Few it (quoted floor n quote bytes ls)
unfolding quoted
few_quoted floor n quote bytes ls =
    let r : State × Option (List ℕ) = run (opened quote n) bytes in
    few_led r.0 r.1 ls (quoted_further floor n 0 r.0 ls) (few_quoted_further floor n ls 0 r.0)

few_body : (strip : Bool) (indent : ℕ) (ls : List RawLine) (b : Block) → Few it (body strip indent b ls)
unfolding body
few_body strip indent [] b = tt
few_body strip indent (l ∷ ls) b = few_either it (not (is_empty l.content) && nat_lt l.indent indent) _ _ tt (few_body strip indent ls (added b (times (l.indent - indent) 32 ++ l.content)))

few_opening : (fold strip : Bool) (floor : ℕ) (ls : List RawLine) (n : ℕ) → Few it (opening fold strip floor n ls)
unfolding opening
few_opening fold strip floor [] n = tt
few_opening fold strip floor (l ∷ ls) n =
    few_either it (is_empty l.content) _ _ (few_opening fold strip floor ls (n + 1)) (few_either it (nat_lt l.indent floor) _ _ tt (few_body strip l.indent (l ∷ ls) (begun fold n)))

few_headed : (fold strip : Bool) (floor n : ℕ) (head : List ℕ) (ls : List RawLine) → Few it (headed fold strip floor n head ls)
few_headed fold strip floor n head ls = few_either it (nothing_left false head) _ _ (few_opening fold strip floor ls 0) refl

few_block : (floor n : ℕ) (fold : Bool) (head : List ℕ) (ls : List RawLine) → Few it (block floor n fold head ls)
unfolding block
few_block floor n fold head ls = few_either it (sees 45 head) _ _ (few_headed fold true floor n (drop 1 head) ls) (few_headed fold false floor n head ls)

-- ---- flow

abbrev FewStep : Step → Type 0
FewStep (on m) = Unit {0}
FewStep (ended e) = Unit {0}
FewStep (fails code) = IsFew code

step_either : (b : Bool) (r s : Step) → FewStep r → FewStep s → FewStep (cond b r s)
step_either true r s p q = p
step_either false r s p q = q

few_closed : (m : Machine) (node : Node) (frames : List Frame) → FewStep (closed m node frames)
few_closed m node [] = tt
few_closed m node (f ∷ fs) = tt

few_keyed : (m : Machine) (k : List ℕ) → FewStep (flow_keyed m k)
few_keyed m k = step_either (is_empty k) _ _ refl tt

few_alone : (m : Machine) (k : List ℕ) → FewStep (alone m k)
few_alone m k = step_either (is_empty k) _ _ refl tt

few_here : (m : Machine) (text : List ℕ) → FewStep (quoted_here m text)
few_here m text = step_either (not (wants_key m.frame)) _ _ tt (step_either (flow_colon m.rest) _ _ (few_keyed (behind m false (drop 1 m.rest)) text) (few_alone m text))

few_quoted_by : (m : Machine) (s : State) (end : Option (List ℕ)) → FewStep (quoted_by m s end)
few_quoted_by m s None = refl
few_quoted_by m s (Some rest) = step_either (is_some s.bad) _ _ refl (few_here (behind m false rest) s.text)

few_key : (m : Machine) (w : List ℕ) (count : ℕ) (at : Option ℕ) → FewStep (flow_key m w count at)
few_key m w count None = step_either (is_merge (trimmed w)) _ _ refl (few_alone (behind m true (drop count m.rest)) (trimmed w))
few_key m w count (Some at) = step_either (is_merge (trimmed (take at w))) _ _ refl (few_keyed (behind m false (drop at m.rest)) (trimmed (take at w)))

few_plain_by : (m : Machine) (w : List ℕ) (count : ℕ) → FewStep (plain_by m w count)
few_plain_by m w count = step_either (wants_key m.frame) _ _ (few_key m w count (colon_at false 0 w)) (step_either (has_colon w) _ _ refl tt)

few_flow_scalar : (m : Machine) (b : ℕ) → FewStep (flow_scalar m b)
few_flow_scalar m b =
    step_either (b == 34 || b == 39) _ _ (few_quoted_by m (run (opened b m.line) m.rest).0 (run (opened b m.line) m.rest).1)
    (step_either (left_out b m.rest) _ _ refl (step_either (no_plain b m.rest) _ _ refl (few_plain_by m (take (word_end false 0 m.rest + 1) (b ∷ m.rest)) (word_end false 0 m.rest))))

few_after : (m : Machine) (b : ℕ) → FewStep (after_step m b)
few_after m b = step_either (b == 44) _ _ tt (step_either (b == closing m.frame) _ _ (few_closed m _ m.frames) refl)

few_item : (m : Machine) (b : ℕ) → FewStep (item_step m b)
few_item m b =
    step_either (is_some m.frame.key && (b == 44 || b == 125)) _ _ (few_after (holding m (null m.line)) b)
    (step_either (b == closing m.frame) _ _ (few_closed m _ m.frames)
    (step_either (b == 91 || b == 123) _ _ (step_either (wants_key m.frame) _ _ refl tt) (few_flow_scalar m b)))

few_token : (m : Machine) (spaced : Bool) (b : ℕ) → FewStep (token m spaced b)
few_token m spaced b = step_either (is_blank b) _ _ tt (step_either (b == 35 && spaced) _ _ refl (step_either m.after _ _ (few_after m b) (few_item m b)))

few_step : (m : Machine) (bytes : List ℕ) → FewStep (step_by m bytes)
few_step m [] = refl
few_step m (b ∷ rest) = few_token (behind m (b == 32) rest) m.spaced b

abbrev FewCode : Result Ended Code → Type 0
FewCode (Ok e) = Unit {0}
FewCode (Err code) = IsFew code

few_ran : (s : Step) (more : Machine → Result Ended Code) → FewStep s → ((m : Machine) → FewCode (more m)) → FewCode (ran s more)
few_ran (on m) more h go = go m
few_ran (ended e) more h go = tt
few_ran (fails code) more h go = h

few_run : (n : ℕ) (m : Machine) → FewCode (flow_run n m)
unfolding flow_run
few_run zero m = refl
few_run (suc n) m = few_ran (step m) (flow_run n) (few_step m m.rest) (few_run n)

few_flow : (line : ℕ) (is_map : Bool) (bytes : List ℕ) → FewCode (flow line is_map bytes)
unfolding flow
few_flow line is_map bytes = few_run _ _

-- ---- leaves

few_scalar : (n : ℕ) (is_plain : Bool) (r : Reading (List ℕ)) → Few it r → Few of_wrong (scalar n is_plain r)
few_scalar n is_plain (Ok x) h = tt
few_scalar n is_plain (Err f) h = h

few_flow_by : (fresh : Bool) (n : ℕ) (r : Result Ended Code) (ls : List RawLine) → FewCode r → Few of_wrong (flow_by fresh n r ls)
few_flow_by fresh n (Err code) ls h = h
few_flow_by fresh n (Ok f) ls h =
    few_either of_wrong (fresh && colon_behind (without_blanks f.rest)) _ _ refl (few_either of_wrong (not (nothing_left false f.rest)) _ _ refl (few_either of_wrong f.repeated _ _ refl tt))

few_leaf : (t : Start) (right : ℕ) (fresh : Bool) (n b : ℕ) (rest : List ℕ) (ls : List RawLine) → Few of_wrong (leaf_by t right fresh n b rest ls)
few_leaf starts.InQuotes right fresh n b rest ls = few_scalar n false (quoted right n b rest ls) (few_quoted right n b rest ls)
few_leaf starts.InBrackets right fresh n b rest ls = few_flow_by fresh n (flow n (b == 123) rest) ls (few_flow n (b == 123) rest)
few_leaf starts.InLines right fresh n b rest ls = few_scalar n false (block right n (b == 62) rest ls) (few_block right n (b == 62) rest ls)
few_leaf starts.LeftOut right fresh n b rest ls = refl
few_leaf starts.Refused right fresh n b rest ls = refl
few_leaf starts.Plain right fresh n b rest ls = few_scalar n true (plain right n (b ∷ rest) ls) (few_plain right n (b ∷ rest) ls)

-- ---- pieces

abbrev pub FewFault : Option Fault → Type 0
FewFault None = Unit {0}
FewFault (Some f) = IsFew f.code

found_either : (b : Bool) (f g : Found) → FewFault f.fault → FewFault g.fault → FewFault (cond b f g).fault
found_either true f g p q = p
found_either false f g p q = q

few_found : (r : Leafs) (ps : List Piece) (n column : ℕ) (ls : List RawLine) → Few of_wrong r → FewFault (leaf_found ps n column r ls).fault
few_found (Ok x) ps n column ls h = tt
few_found (Err w) ps n column ls h = h

few_leaf_at : (ps : List Piece) (n : ℕ) (fresh : Bool) (column : ℕ) (bytes : List ℕ) (ls : List RawLine) → FewFault (leaf_at ps n fresh column bytes ls).fault
few_leaf_at ps n fresh column [] ls = tt
few_leaf_at ps n fresh column (b ∷ rest) ls = few_found (leaf_by (start b rest) (floor ps) fresh n b rest ls) ps n column ls (few_leaf (start b rest) (floor ps) fresh n b rest ls)

few_value : (ps : List Piece) (n column : ℕ) (bytes : List ℕ) (ls : List RawLine) → FewFault (value_at ps n column bytes ls).fault
few_value ps n column bytes ls = found_either (nothing_left false bytes) _ _ tt (few_leaf_at ps n false _ (without_blanks bytes) ls)

few_block_key : (ps : List Piece) (n column : ℕ) (text : List ℕ) (at : ℕ) (bytes : List ℕ) (ls : List RawLine) → FewFault (keyed ps n column text at bytes ls).fault
few_block_key ps n column text at bytes ls = found_either (is_empty text) _ _ refl (few_value (ps ++ key n column text ∷ []) n at bytes ls)

few_plain_key : (ps : List Piece) (n column : ℕ) (bytes : List ℕ) (c : Option ℕ) (ls : List RawLine) → FewFault (plain_key ps n column bytes c ls).fault
few_plain_key ps n column bytes None ls = few_leaf_at ps n true column bytes ls
few_plain_key ps n column bytes (Some at) ls =
    found_either (is_merge (trimmed (take at bytes))) _ _ refl (few_block_key ps n column (trimmed (take at bytes)) (column + at + 1) (drop (at + 1) bytes) ls)

few_quoted_key : (ps : List Piece) (n column : ℕ) (bytes : List ℕ) (q : State) (end : Option (List ℕ)) (ls : List RawLine) → FewFault (quoted_key ps n column bytes q end ls).fault
few_quoted_key ps n column bytes q None ls = few_leaf_at ps n true column bytes ls
few_quoted_key ps n column bytes q (Some rest) ls =
    found_either (not (colon_behind rest)) _ _ (few_leaf_at ps n true column bytes ls)
    (found_either (is_some q.bad) _ _ refl (few_block_key ps n column q.text (column + (length bytes - length rest) + 1) (drop 1 rest) ls))

few_start : (t : Start) (ps : List Piece) (n column b : ℕ) (rest : List ℕ) (ls : List RawLine) → FewFault (node_by t ps n column b rest ls).fault
few_start starts.InQuotes ps n column b rest ls = few_quoted_key ps n column (b ∷ rest) (run (opened b n) rest).0 (run (opened b n) rest).1 ls
few_start starts.Plain ps n column b rest ls = few_plain_key ps n column (b ∷ rest) (colon_at false 0 (b ∷ rest)) ls
few_start starts.InBrackets ps n column b rest ls = few_leaf_at ps n true column (b ∷ rest) ls
few_start starts.InLines ps n column b rest ls = few_leaf_at ps n true column (b ∷ rest) ls
few_start starts.LeftOut ps n column b rest ls = few_leaf_at ps n true column (b ∷ rest) ls
few_start starts.Refused ps n column b rest ls = few_leaf_at ps n true column (b ∷ rest) ls

few_heads : (bytes : List ℕ) (ps : List Piece) (n : ℕ) (spaced : Bool) (column : ℕ) (ls : List RawLine) → FewFault (heads ps n spaced column bytes ls).fault
unfolding heads
few_heads [] ps n spaced column ls = tt
few_heads (b ∷ rest) ps n spaced column ls =
    found_either (is_blank b) _ _ (few_heads rest ps n (b == 32) (column + 1) ls)
    (found_either (b == 35 && spaced) _ _ tt
    (found_either (b == 45 && breaks rest) _ _ (few_heads rest (ps ++ dash n column ∷ []) n false (column + 1) ls) (few_start (start b rest) ps n column b rest ls)))

few_line : (l : RawLine) (ps : List Piece) (ls : List RawLine) → FewFault (line_heads ps l ls).fault
unfolding line_heads
few_line l ps ls = found_either (sees 9 l.content) _ _ (few_heads (without_blanks l.content) ps l.line (is_spaced true l.content) l.indent ls) (few_heads l.content ps l.line true l.indent ls)

few_go_on : (f : Found) (o : Option Fault) (go : List Piece → List RawLine → Found) → FewFault f.fault → FewFault (go f.pieces f.rest).fault → FewFault (go_on f o go).fault
few_go_on f (Some v) go h more = h
few_go_on f None go h more = more

pub few_pieces : (k : ℕ) (ps : List Piece) (ls : List RawLine) → FewFault (pieces k ps ls).fault
unfolding pieces
few_pieces zero ps ls = tt
few_pieces (suc k) ps [] = tt
few_pieces (suc k) ps (l ∷ ls) =
    let f : Found = line_heads ps l ls in
    found_either (is_over ps l) _ _ tt (few_go_on f f.fault (pieces k) (few_line l ps ls) (few_pieces k f.pieces f.rest))
