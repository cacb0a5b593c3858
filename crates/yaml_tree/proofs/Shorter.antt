-- Behind a scalar or flow an end of the lines is left.
use Rattle.std.proofs.Common.{◌≡◌, ℕ, ◌+◌, ◌-◌, ◌≤◌, Bool, true, false, ◌||◌, ◌&&◌, List, [], ◌∷◌, ◌++◌, length, drop, Option, Some, None, Result, Ok, Err, arith}
use Rattle.std.specs.Prelude.{◌==◌, not, nat_lt}
use Rattle.reading.specs.Answer.{Answer}
use Rattle.reading.proofs.Shorter.{Leaves, kept, refused, either, weaker, left, left_by}
use Rattle.yaml_scan.specs.declared.line.RawLine.{RawLine}
use Rattle.yaml_scan.specs.declared.fault.Code.{Code}
use Rattle.yaml_scan.specs.Answers.{Reading}
use Rattle.yaml_scan.specs.Words.{sees, is_empty, nothing_left, times, folded, has_colon, has_comment, only_blanks, without_blanks}
use Rattle.yaml_scan.specs.Plain.{text_of, further, plain}
use Rattle.yaml_scan.specs.Quoted.{State, opened, run, led, finished_by, next_line, further as quoted_further, quoted}
use Rattle.yaml_scan.specs.Block.{State as Block, added, begun, body, opening, headed, block}
use Rattle.yaml_tree.specs.declared.node.Node.{Node}
use Rattle.yaml_tree.specs.declared.starts.Start.{Start}
use Rattle.yaml_tree.specs.declared.starts.Start.TheVariants as starts
use Rattle.yaml_tree.specs.Flow.{Ended, flow}
use Rattle.yaml_tree.specs.Starts.{start}
use Rattle.yaml_tree.specs.Leaves.{scalar, flow_by, colon_behind, leaf_by, leaf_of}

-- the lines from one of these on, or none
pub data IsEnd : List RawLine → List RawLine → Type 0 where
  all : {ls : List RawLine} → IsEnd ls ls
  later : {l : RawLine} {ls ls' : List RawLine} → IsEnd ls' ls → IsEnd ls' (l ∷ ls)

pub end_shorter : {ls ls' : List RawLine} → IsEnd ls' ls → length ls' ≤ length ls
end_shorter all = omega arith
end_shorter (later i) = let le = end_shorter i in omega arith

-- an end of these lines is left, or a fault
abbrev NoLonger : {A F : Type 0} → Answer RawLine F A → List RawLine → Type 0
NoLonger r ls = Leaves (λ behind. IsEnd behind ls) (λ _. Unit {0}) r

one_more : {A F : Type 0} {r : Answer RawLine F A} (l : RawLine) (ls : List RawLine) → NoLonger r ls → NoLonger r (l ∷ ls)
one_more l ls = weaker (λ _ i. later i) (λ _ h. h)

further_shorter : (floor : ℕ) (ls : List RawLine) (text : List ℕ) (blanks : ℕ) → NoLonger (further floor text blanks ls) ls
unfolding further
further_shorter floor [] text blanks = kept all
further_shorter floor (l ∷ ls) text blanks =
    either (is_empty l.content) (one_more _ _ (further_shorter floor ls text (blanks + 1)))
    (either (sees 35 l.content || nat_lt l.indent floor) (kept all)
    (either (has_colon l.content) (refused tt)
    (either (has_comment l.content) (kept (later all))
    (one_more _ _ (further_shorter floor ls (text ++ folded blanks ++ text_of l.content) 0)))))

plain_shorter : (floor n : ℕ) (bytes : List ℕ) (ls : List RawLine) → NoLonger (plain floor n bytes ls) ls
unfolding plain
plain_shorter floor n bytes ls =
    either (has_colon bytes) (refused tt) (either (has_comment bytes) (kept all) (further_shorter floor ls (text_of bytes) 0))

finished_shorter : (bad : Option ℕ) (s : State) (rest : List ℕ) (ls : List RawLine) → NoLonger (finished_by bad s rest ls) ls
finished_shorter (Some line) s rest ls = refused tt
finished_shorter None s rest ls = either (nothing_left false rest) (kept all) (refused tt)

led_shorter : (s : State) (end : Option (List ℕ)) (ls : List RawLine) (more : Reading (List ℕ)) → NoLonger more ls → NoLonger (led s end ls more) ls
led_shorter s (Some rest) ls more h = finished_shorter s.bad s rest ls
led_shorter s None ls more h = h

quoted_further_shorter : (floor first : ℕ) (ls : List RawLine) (blanks : ℕ) (s : State) → NoLonger (quoted_further floor first blanks s ls) ls
unfolding quoted_further
quoted_further_shorter floor first [] blanks s = refused tt
quoted_further_shorter floor first (l ∷ ls) blanks s =
    let r : State × Option (List ℕ) = run (next_line s blanks l.line) (without_blanks l.content) in
    either (only_blanks l.content) (one_more _ _ (quoted_further_shorter floor first ls (blanks + 1) s))
    (either (nat_lt l.indent floor) (refused tt) (one_more _ _ (led_shorter r.0 r.1 ls (quoted_further floor first 0 r.0 ls) (quoted_further_shorter floor first ls 0 r.0))))

quoted_shorter : (floor n quote : ℕ) (bytes : List ℕ) (ls : List RawLine) → NoLonger (quoted floor n quote bytes ls) ls
unfolding quoted
quoted_shorter floor n quote bytes ls =
    let r : State × Option (List ℕ) = run (opened quote n) bytes in
    led_shorter r.0 r.1 ls (quoted_further floor n 0 r.0 ls) (quoted_further_shorter floor n ls 0 r.0)

body_shorter : (strip : Bool) (indent : ℕ) (ls : List RawLine) (s : Block) → NoLonger (body strip indent s ls) ls
unfolding body
body_shorter strip indent [] s = kept all
body_shorter strip indent (l ∷ ls) s =
    either (not (is_empty l.content) && nat_lt l.indent indent) (kept all) (one_more _ _ (body_shorter strip indent ls (added s (times (l.indent - indent) 32 ++ l.content))))

opening_shorter : (fold strip : Bool) (floor : ℕ) (ls : List RawLine) (n : ℕ) → NoLonger (opening fold strip floor n ls) ls
unfolding opening
opening_shorter fold strip floor [] n = kept all
opening_shorter fold strip floor (l ∷ ls) n =
    either (is_empty l.content) (one_more _ _ (opening_shorter fold strip floor ls (n + 1)))
    (either (nat_lt l.indent floor) (kept all) (body_shorter strip l.indent (l ∷ ls) (begun fold n)))

headed_shorter : (fold strip : Bool) (floor n : ℕ) (head : List ℕ) (ls : List RawLine) → NoLonger (headed fold strip floor n head ls) ls
headed_shorter fold strip floor n head ls = either (nothing_left false head) (opening_shorter fold strip floor ls 0) (refused tt)

block_shorter : (floor n : ℕ) (fold : Bool) (head : List ℕ) (ls : List RawLine) → NoLonger (block floor n fold head ls) ls
unfolding block
block_shorter floor n fold head ls = either (sees 45 head) (headed_shorter fold true floor n (drop 1 head) ls) (headed_shorter fold false floor n head ls)

scalar_shorter : (n : ℕ) (k : List RawLine) (is_plain : Bool) (r : Reading (List ℕ)) → NoLonger r k → NoLonger (scalar n is_plain r) k
scalar_shorter n k is_plain (Ok x) h = kept (left h)
scalar_shorter n k is_plain (Err f) h = refused tt

flow_shorter : (fresh : Bool) (n : ℕ) (r : Result Ended Code) (ls : List RawLine) → NoLonger (flow_by fresh n r ls) ls
flow_shorter fresh n (Err code) ls = refused tt
flow_shorter fresh n (Ok f) ls =
    either (fresh && colon_behind (without_blanks f.rest)) (refused tt)
    (either (not (nothing_left false f.rest)) (refused tt) (either f.repeated (refused tt) (kept all)))

by_start : (s : Start) (floor : ℕ) (fresh : Bool) (n b : ℕ) (rest : List ℕ) (ls : List RawLine) → NoLonger (leaf_by s floor fresh n b rest ls) ls
by_start starts.InQuotes floor fresh n b rest ls = scalar_shorter n ls false (quoted floor n b rest ls) (quoted_shorter floor n b rest ls)
by_start starts.InBrackets floor fresh n b rest ls = flow_shorter fresh n (flow n (b == 123) rest) ls
by_start starts.InLines floor fresh n b rest ls = scalar_shorter n ls false (block floor n (b == 62) rest ls) (block_shorter floor n (b == 62) rest ls)
by_start starts.LeftOut floor fresh n b rest ls = refused tt
by_start starts.Refused floor fresh n b rest ls = refused tt
by_start starts.Plain floor fresh n b rest ls = scalar_shorter n ls true (plain floor n (b ∷ rest) ls) (plain_shorter floor n (b ∷ rest) ls)

pub leaf_end : (floor : ℕ) (fresh : Bool) (n b : ℕ) (rest : List ℕ) (ls : List RawLine) (x : Node × ℕ) (behind : List RawLine) → leaf_of floor fresh n (b ∷ rest) ls ≡ Ok (x, behind) → IsEnd behind ls
leaf_end floor fresh n b rest ls x behind e = left_by (x, behind) (by_start (start b rest) floor fresh n b rest ls) e
