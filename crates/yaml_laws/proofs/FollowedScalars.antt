-- Scalars over some lines, and over these with further ones behind them.
use Rattle.std.proofs.Common.{◌≡◌, ℕ, ◌+◌, ◌-◌, ◌≤◌, ◌<◌, Bool, true, false, cond, ◌||◌, ◌&&◌, List, [], ◌∷◌, ◌++◌, drop, Option, Some, None, Result, Ok, Err, refl, arith}
use Rattle.std.specs.Prelude.{◌==◌, not, nat_lt}
use Rattle.yaml_scan.specs.declared.line.RawLine.{RawLine}
use Rattle.yaml_scan.specs.declared.fault.Fault.{Fault}
use Rattle.yaml_scan.specs.declared.fault.Code.{Code}
use Rattle.yaml_scan.specs.declared.fault.Code.TheVariants.{Structure}
use Rattle.yaml_scan.specs.Answers.{Reading}
use Rattle.yaml_scan.specs.Words.{sees, is_empty, nothing_left, times, folded, has_colon, has_comment, only_blanks, without_blanks}
use Rattle.yaml_scan.specs.Plain.{text_of, further, plain}
use Rattle.yaml_scan.specs.Quoted.{State, opened, run, led, finished_by, next_line, further as quoted_further, quoted}
use Rattle.yaml_scan.specs.Block.{State as Block, added, begun, body, opening, headed, block}
use Rattle.yaml_tree.specs.declared.node.Node.{Node}
use Rattle.yaml_tree.specs.declared.leaf.Wrong.{Wrong}
use Rattle.yaml_tree.specs.declared.starts.Start.{Start}
use Rattle.yaml_tree.specs.declared.starts.Start.TheVariants as starts
use Rattle.yaml_tree.specs.Flow.{Ended, flow}
use Rattle.yaml_tree.specs.Leaves.{Leafs, scalar, flow_by, leaf_by, colon_behind}
use Rattle.yaml_laws.proofs.Walked.{AllIn, Ends, Closes, leaves, stops, it, further_ends, body_ends, opening_ends, Fair, further_closes, opened_fair, next_fair, run_fair}

-- a line behind the first k
abbrev pub Late : ℕ → ℕ → Type 0
Late k n = k < n

abbrev pub AllLate : ℕ → List RawLine → Type 0
AllLate k ls = AllIn (Late k) ls

-- all stand on this line or behind it
abbrev pub From : ℕ → List RawLine → Type 0
From n ls = AllIn (λ m. n ≤ m) ls

late_parts : (k : ℕ) (l : RawLine) (ls : List RawLine) → AllLate k (l ∷ ls) → Late k l.line × AllLate k ls
late_parts k l ls h = h

-- What lines give (r), and what they give with the lines `a` behind them (s): the same, with the same left; or the first are used up,
-- and what the second give is told by the lines behind; or a quote is open at the end of the first.
pub data Along (k : ℕ) (a : List RawLine) : Reading (List ℕ) → Reading (List ℕ) → Type 0 where
  same : {x y : List ℕ × List RawLine} → y.0 ≡ x.0 → y.1 ≡ x.1 ++ a → Along k a (Ok x) (Ok y)
  fails : {f : Fault} → Along k a (Err f) (Err f)
  runs : {x : List ℕ × List RawLine} {s : Reading (List ℕ)} → x.1 ≡ [] → Ends it (Late k) (AllLate k) s → Along k a (Ok x) s
  opens : {n : ℕ} {s : Reading (List ℕ)} → n ≤ k → Closes (λ m. n ≤ m) (AllLate k) s → Along k a (Err (record { line = n; code = Structure })) s

either : {k : ℕ} {a : List RawLine} (b : Bool) (r r' s s' : Reading (List ℕ)) → Along k a r s → Along k a r' s' → Along k a (cond b r r') (cond b s s')
either true r r' s s' p q = p
either false r r' s s' p q = q

module _ (k : ℕ) (a : List RawLine) (late : AllLate k a) where
  further_along : (floor : ℕ) (ls : List RawLine) (text : List ℕ) (blanks : ℕ) → Along k a (further floor text blanks ls) (further floor text blanks (ls ++ a))
  unfolding further
  further_along floor [] text blanks = runs refl (further_ends (Late k) (AllLate k) (late_parts k) floor a text blanks late)
  further_along floor (l ∷ ls) text blanks =
      either (is_empty l.content) _ _ _ _ (further_along floor ls text (blanks + 1))
      (either (sees 35 l.content || nat_lt l.indent floor) _ _ _ _ (same refl refl)
      (either (has_colon l.content) _ _ _ _ fails
      (either (has_comment l.content) _ _ _ _ (same refl refl)
      (further_along floor ls (text ++ folded blanks ++ text_of l.content) 0))))

  plain_along : (floor n : ℕ) (bytes : List ℕ) (ls : List RawLine) → Along k a (plain floor n bytes ls) (plain floor n bytes (ls ++ a))
  unfolding plain
  plain_along floor n bytes ls = either (has_colon bytes) _ _ _ _ fails (either (has_comment bytes) _ _ _ _ (same refl refl) (further_along floor ls (text_of bytes) 0))

  -- ---- quoted scalars

  finished_along : (bad : Option ℕ) (s : State) (rest : List ℕ) (ls : List RawLine) → Along k a (finished_by bad s rest ls) (finished_by bad s rest (ls ++ a))
  finished_along (Some n) s rest ls = fails
  finished_along None s rest ls = either (nothing_left false rest) _ _ _ _ (same refl refl) fails

  led_along : (s : State) (end : Option (List ℕ)) (ls : List RawLine) (more more' : Reading (List ℕ)) → Along k a more more' → Along k a (led s end ls more) (led s end (ls ++ a) more')
  led_along s (Some rest) ls more more' h = finished_along s.bad s rest ls
  led_along s None ls more more' h = h

  closing_parts : (first : ℕ) → first ≤ k → (l : RawLine) (ls : List RawLine) → AllLate k (l ∷ ls) → (first ≤ l.line) × AllLate k ls
  closing_parts first le l ls h = let q = h.0 in (omega (arith, le, q), h.1)

  quoted_further_along : (floor first : ℕ) (ls : List RawLine) (blanks : ℕ) (s : State) → first ≤ k → Fair (λ m. first ≤ m) (From first) (λ l ls h. h) s → From first ls
      → Along k a (quoted_further floor first blanks s ls) (quoted_further floor first blanks s (ls ++ a))
  unfolding quoted_further
  quoted_further_along floor first [] blanks s le fair from =
      opens le (further_closes (λ m. first ≤ m) (AllLate k) (closing_parts first le) floor first a blanks s (omega arith) fair late)
  quoted_further_along floor first (l ∷ ls) blanks s le fair from =
      let r : State × Option (List ℕ) = run (next_line s blanks l.line) (without_blanks l.content) in
      let fair' : Fair (λ m. first ≤ m) (From first) (λ l ls h. h) r.0 = run_fair (λ m. first ≤ m) (From first) (λ l ls h. h) (without_blanks l.content) (next_line s blanks l.line) (next_fair (λ m. first ≤ m) (From first) (λ l ls h. h) s blanks l.line fair from.0) in
      either (only_blanks l.content) _ _ _ _ (quoted_further_along floor first ls (blanks + 1) s le fair from.1)
      (either (nat_lt l.indent floor) _ _ _ _ fails
      (led_along r.0 r.1 ls (quoted_further floor first 0 r.0 ls) (quoted_further floor first 0 r.0 (ls ++ a)) (quoted_further_along floor first ls 0 r.0 le fair' from.1)))

  quoted_along : (floor n quote : ℕ) (bytes : List ℕ) (ls : List RawLine) → n ≤ k → From n ls → Along k a (quoted floor n quote bytes ls) (quoted floor n quote bytes (ls ++ a))
  unfolding quoted
  quoted_along floor n quote bytes ls le from =
      let r : State × Option (List ℕ) = run (opened quote n) bytes in
      let fair : Fair (λ m. n ≤ m) (From n) (λ l ls h. h) r.0 = opened_fair (λ m. n ≤ m) (From n) (λ l ls h. h) quote n bytes (omega arith) in
      led_along r.0 r.1 ls (quoted_further floor n 0 r.0 ls) (quoted_further floor n 0 r.0 (ls ++ a)) (quoted_further_along floor n ls 0 r.0 le fair from)

  -- ---- block scalars

  body_along : (strip : Bool) (indent : ℕ) (ls : List RawLine) (b : Block) → Along k a (body strip indent b ls) (body strip indent b (ls ++ a))
  unfolding body
  body_along strip indent [] b = runs refl (body_ends (Late k) (AllLate k) (late_parts k) strip indent a b late)
  body_along strip indent (l ∷ ls) b =
      either (not (is_empty l.content) && nat_lt l.indent indent) _ _ _ _ (same refl refl) (body_along strip indent ls (added b (times (l.indent - indent) 32 ++ l.content)))

  opening_along : (fold strip : Bool) (floor : ℕ) (ls : List RawLine) (n : ℕ) → Along k a (opening fold strip floor n ls) (opening fold strip floor n (ls ++ a))
  unfolding opening
  opening_along fold strip floor [] n = runs refl (opening_ends (Late k) (AllLate k) (late_parts k) fold strip floor a n late)
  opening_along fold strip floor (l ∷ ls) n =
      either (is_empty l.content) _ _ _ _ (opening_along fold strip floor ls (n + 1)) (either (nat_lt l.indent floor) _ _ _ _ (same refl refl) (body_along strip l.indent (l ∷ ls) (begun fold n)))

  headed_along : (fold strip : Bool) (floor n : ℕ) (head : List ℕ) (ls : List RawLine) → Along k a (headed fold strip floor n head ls) (headed fold strip floor n head (ls ++ a))
  headed_along fold strip floor n head ls = either (nothing_left false head) _ _ _ _ (opening_along fold strip floor ls 0) fails

  block_along : (floor n : ℕ) (fold : Bool) (head : List ℕ) (ls : List RawLine) → Along k a (block floor n fold head ls) (block floor n fold head (ls ++ a))
  unfolding block
  block_along floor n fold head ls = either (sees 45 head) _ _ _ _ (headed_along fold true floor n (drop 1 head) ls) (headed_along fold false floor n head ls)

-- ---- leaves

-- a scalar that ends behind the first lines, or a fault of a kind
pub data Goes (k : ℕ) (G : Fault → Type 0) : Leafs → Type 0 where
  ends : {x : (Node × ℕ) × List RawLine} → x.0.1 ≡ 1 → AllLate k x.1 → Goes k G (Ok x)
  wrong : {w : Wrong} → w.left_out ≡ false → G w.fault → Goes k G (Err w)

abbrev pub LateFault : ℕ → Fault → Type 0
LateFault k f = k < f.line

-- one of the structure on this line or behind it
abbrev pub From_line : ℕ → Fault → Type 0
From_line n f = (f.code ≡ Structure) × (n ≤ f.line)

pub data LeafAlong (k : ℕ) (a : List RawLine) : Leafs → Leafs → Type 0 where
  same : {x y : (Node × ℕ) × List RawLine} → y.0 ≡ x.0 → y.1 ≡ x.1 ++ a → LeafAlong k a (Ok x) (Ok y)
  fails : {w : Wrong} → LeafAlong k a (Err w) (Err w)
  runs : {x : (Node × ℕ) × List RawLine} {s : Leafs} → x.1 ≡ [] → x.0.1 ≡ 1 → Goes k (LateFault k) s → LeafAlong k a (Ok x) s
  opens : {w : Wrong} {s : Leafs} → w.left_out ≡ false → w.fault.code ≡ Structure → w.fault.line ≤ k → Goes k (From_line w.fault.line) s → LeafAlong k a (Err w) s

leaf_either : {k : ℕ} {a : List RawLine} (b : Bool) (r r' s s' : Leafs) → LeafAlong k a r s → LeafAlong k a r' s' → LeafAlong k a (cond b r r') (cond b s s')
leaf_either true r r' s s' p q = p
leaf_either false r r' s s' p q = q

goes_late : (k n : ℕ) (is_plain : Bool) (s : Reading (List ℕ)) → Ends it (Late k) (AllLate k) s → Goes k (LateFault k) (scalar n is_plain s)
goes_late k n is_plain (Ok x) (leaves h) = ends refl h
goes_late k n is_plain (Err f) (stops h) = wrong refl h

goes_from : (k m n : ℕ) (is_plain : Bool) (s : Reading (List ℕ)) → Closes (λ j. m ≤ j) (AllLate k) s → Goes k (From_line m) (scalar n is_plain s)
goes_from k m n is_plain (Ok x) (leaves h) = ends refl h
goes_from k m n is_plain s (stops h) = wrong refl (refl, h)

scalar_along : (k : ℕ) (a : List RawLine) (n : ℕ) (is_plain : Bool) (r s : Reading (List ℕ)) → Along k a r s → LeafAlong k a (scalar n is_plain r) (scalar n is_plain s)
scalar_along k a n is_plain (Ok x) (Ok y) (same e h) = same (rw e refl) h
scalar_along k a n is_plain r s fails = fails
scalar_along k a n is_plain (Ok x) s (runs e h) = runs e refl (goes_late k n is_plain s h)
scalar_along k a n is_plain r s (opens {n = m} le h) = opens refl refl le (goes_from k m n is_plain s h)

flow_along : (k : ℕ) (a : List RawLine) (fresh : Bool) (n : ℕ) (r : Result Ended Code) (ls : List RawLine) → LeafAlong k a (flow_by fresh n r ls) (flow_by fresh n r (ls ++ a))
flow_along k a fresh n (Err code) ls = fails
flow_along k a fresh n (Ok f) ls =
    leaf_either (fresh && colon_behind (without_blanks f.rest)) _ _ _ _ fails
    (leaf_either (not (nothing_left false f.rest)) _ _ _ _ fails (leaf_either f.repeated _ _ _ _ fails (same refl refl)))

pub leaf_along : (k : ℕ) (a : List RawLine) → AllLate k a → (t : Start) (right : ℕ) (fresh : Bool) (n b : ℕ) (rest : List ℕ) (ls : List RawLine) → n ≤ k → From n ls
    → LeafAlong k a (leaf_by t right fresh n b rest ls) (leaf_by t right fresh n b rest (ls ++ a))
leaf_along k a late starts.InQuotes right fresh n b rest ls le from = scalar_along k a n false _ _ (quoted_along k a late right n b rest ls le from)
leaf_along k a late starts.InBrackets right fresh n b rest ls le from = flow_along k a fresh n (flow n (b == 123) rest) ls
leaf_along k a late starts.InLines right fresh n b rest ls le from = scalar_along k a n false _ _ (block_along k a late right n (b == 62) rest ls)
leaf_along k a late starts.LeftOut right fresh n b rest ls le from = fails
leaf_along k a late starts.Refused right fresh n b rest ls le from = fails
leaf_along k a late starts.Plain right fresh n b rest ls le from = scalar_along k a n true _ _ (plain_along k a late right n (b ∷ rest) ls)
