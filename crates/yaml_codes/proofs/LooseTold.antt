-- What is in the grammar of flow without the two rules is read, with as many nodes in one another as it has, up to the limit.
use Rattle.std.proofs.Common.{◌≡◌, ℕ, suc, ◌+◌, ◌<◌, ◌≤◌, Bool, true, false, cond, ◌||◌, ◌⊎◌, inl, inr, List, [], ◌∷◌, ◌++◌, length, take, drop, length-drop, Option, Some, None, Ok, refl, sym, ap, subst, ◌∙◌, append_assoc, arith}
use Rattle.std.specs.Prelude.{◌==◌, min}
use Rattle.std.proofs.lemmas.Bool.{eqb-true}
use Rattle.std.proofs.lemmas.List.{append-nil}
use Rattle.yaml_scan.specs.declared.quoted.Last.TheVariants.{Quote}
use Rattle.yaml_scan.specs.Words.{sees, is_blank, is_some, has_colon, colon_at, trimmed}
use Rattle.yaml_scan.specs.Quoted.{State}
use Rattle.yaml_tree.specs.declared.node.Node.{Node}
use Rattle.yaml_tree.specs.declared.flow.Frame.{Frame}
use Rattle.yaml_tree.specs.declared.starts.Start.TheVariants as starts
use Rattle.yaml_tree.specs.Nodes.{Pair, null, scalar_node, listed, mapped, has_key}
use Rattle.yaml_tree.specs.Starts.{start, left_out, no_plain}
use Rattle.yaml_tree.specs.Quotes.{IsInside}
use Rattle.yaml_tree.specs.Brackets.{IsAfter, here, blank, ends_key, IsKey, plain_key as plain_key_is, quoted_key}
use Rattle.yaml_tree.specs.Flow.{Machine, Ended, on, held, wants_key, raised, kept, plain, plain_by, plain_key, quoted, quoted_by, run, step, flow}
use Rattle.yaml_tree.proofs.LinesFound.{tested}
use Rattle.yaml_tree.proofs.QuotesFound.{at_last}
use Rattle.yaml_tree.proofs.BracketWords.{cut, Told, alone, before, word_told, next_of}
use Rattle.yaml_tree.proofs.OneLine.{inside_read, inside_shorter}
use Rattle.yaml_tree.proofs.BracketSteps.{list_frame, map_frame, Goes, there, by, goes_on, quote_is, run_goes, kept_is, is_spaced, after_no_blank, after_no_colon, cut_is, plain_is}
use Rattle.yaml_rules.specs.LooseFlow.{IsFlow, plain as plain_is_flow, quoted as quoted_is, list as list_is, map as map_is, IsItems, no_item, last_item, more_items, IsPair, key_alone, no_value, key_value, IsPairs, no_pair, last_pair, more_pairs}
use Rattle.yaml_rules.proofs.LooseSteps.{at, shuts, scalar_step, list_opens, map_opens, list_closes, map_closes, key_closes, key_goes_on}

-- ---- how a token begins

unsigned : (b c : ℕ) (bytes : List ℕ) → start b bytes ≡ starts.Plain → (start c bytes ≡ starts.Plain → ⊥) → (b == c) ≡ false
unsigned b c bytes s other = elim (tested (b == c)) [
  | inr h ↦ h
  | inl h ↦ absurd (other (subst (λ (x : ℕ). start x bytes ≡ starts.Plain) (eqb-true b c h) s))
]

last_two : (b : ℕ) (bytes : List ℕ) → start b bytes ≡ starts.Plain → (left_out b bytes ≡ false) × (no_plain b bytes ≡ false)
last_two b bytes e = by' (b == 34 || b == 39) (b == 91 || b == 123) (b == 124 || b == 62) (left_out b bytes) (no_plain b bytes) e
  where
    by' : (p q r s t : Bool) → cond p starts.InQuotes (cond q starts.InBrackets (cond r starts.InLines (cond s starts.LeftOut (cond t starts.Refused starts.Plain)))) ≡ starts.Plain → (s ≡ false) × (t ≡ false)
    by' true q r s t e = absurd cc
    by' false true r s t e = absurd cc
    by' false false true s t e = absurd cc
    by' false false false true t e = absurd cc
    by' false false false false true e = absurd cc
    by' false false false false false e = (refl, refl)

plain_step : (n : ℕ) (f : Frame) (fs : List Frame) (height : ℕ) (again : Bool) (b : ℕ) (spaced : Bool) (bytes : List ℕ) → is_blank b ≡ false → start b bytes ≡ starts.Plain
    → step (at n f fs false height again spaced (b ∷ bytes)) ≡ plain (at n f fs false height again (b == 32) bytes) b
plain_step n f fs height again b spaced bytes no_blank s =
    let comment = unsigned b 35 bytes s (λ q. cc) in
    let comma = unsigned b 44 bytes s (λ q. cc) in
    let brace = unsigned b 125 bytes s (λ q. cc) in
    let bracket = unsigned b 93 bytes s (λ q. cc) in
    let open_bracket = unsigned b 91 bytes s (λ q. cc) in
    let open_brace = unsigned b 123 bytes s (λ q. cc) in
    let double = unsigned b 34 bytes s (λ q. cc) in
    let single = unsigned b 39 bytes s (λ q. cc) in
    let opening : (b == 91 || b == 123) ≡ false = rw (open_bracket, open_brace) refl in
    let quote : (b == 34 || b == 39) ≡ false = rw (double, single) refl in
    let two = last_two b bytes s in
    scalar_step n f fs height again b spaced bytes no_blank comment comma brace bracket opening ∙ rw (quote, two.0, two.1) refl

quoted_step : (n : ℕ) (f : Frame) (fs : List Frame) (height : ℕ) (again : Bool) (b : ℕ) (spaced : Bool) (bytes : List ℕ) → (b ≡ 39) ⊎ (b ≡ 34)
    → step (at n f fs false height again spaced (b ∷ bytes)) ≡ quoted (at n f fs false height again (b == 32) bytes) b
quoted_step n f fs height again b spaced bytes two = elim two [
  | inl e ↦ subst (λ (c : ℕ). step (at n f fs false height again spaced (c ∷ bytes)) ≡ quoted (at n f fs false height again (c == 32) bytes) c) (sym e) (scalar_step n f fs height again 39 spaced bytes refl refl refl refl refl refl)
  | inr e ↦ subst (λ (c : ℕ). step (at n f fs false height again spaced (c ∷ bytes)) ≡ quoted (at n f fs false height again (c == 32) bytes) c) (sym e) (scalar_step n f fs height again 34 spaced bytes refl refl refl refl refl refl)
]

blanks_go : {bytes rest : List ℕ} → IsAfter bytes rest → (n : ℕ) (f : Frame) (fs : List Frame) (after : Bool) (height : ℕ) (again spaced : Bool) → (spaced' : Bool) × Goes (at n f fs after height again spaced bytes) (at n f fs after height again spaced' rest)
blanks_go (here h) n f fs after height again spaced = (spaced, there)
blanks_go (blank {b = b} h a) n f fs after height again spaced =
    let g = blanks_go a n f fs after height again (b == 32) in
    (g.0, by (rw h refl) (omega arith) g.1)

-- ---- plain scalars

drop_less : (count : ℕ) (bytes rest : List ℕ) → drop count bytes ≡ rest → length rest ≤ length bytes
drop_less count bytes rest e = omega (arith, length-drop count bytes, ap length e)

-- what is left where a scalar ends, and what it is
record Whole (b : ℕ) (bytes w rest : List ℕ) : Type 0 where
  word_is : b ∷ cut false bytes ≡ w
  no_colon : colon_at false 0 w ≡ None
  left : drop (length (cut false bytes)) bytes ≡ rest

whole_of : (b : ℕ) (bytes w rest : List ℕ) → cut false (b ∷ bytes) ≡ b ∷ cut false bytes → cut false (b ∷ bytes) ≡ w → colon_at false 0 w ≡ None → drop (length w) (b ∷ bytes) ≡ rest → Whole b bytes w rest
whole_of b bytes w rest c is n d =
    let same : b ∷ cut false bytes ≡ w = sym c ∙ is in
    record { word_is = same; no_colon = n; left = ap (λ (x : List ℕ). drop (length x) (b ∷ bytes)) same ∙ d }

plain_told : (n : ℕ) (f : Frame) (fs : List Frame) (height : ℕ) (again : Bool) (b : ℕ) (bytes w rest : List ℕ) → wants_key f ≡ false → Whole b bytes w rest
    → plain (at n f fs false height again (b == 32) bytes) b ≡ on (at n (held f n (scalar_node n (trimmed w) true)) fs true (raised height (length fs)) again true rest)
plain_told n f fs height again b bytes w rest wants whole =
    let none : has_colon w ≡ false = ap is_some whole.no_colon in
    let by_word : plain_by (at n f fs false height again (b == 32) bytes) w (length (cut false bytes)) ≡ on (at n (held f n (scalar_node n (trimmed w) true)) fs true (raised height (length fs)) again true rest) =
    rw (wants, none) (ap (λ (x : List ℕ). on (at n (held f n (scalar_node n (trimmed w) true)) fs true (raised height (length fs)) again true x)) whole.left) in
    plain_is (at n f fs false height again (b == 32) bytes) b ∙ ap (λ (x : List ℕ). plain_by (at n f fs false height again (b == 32) bytes) x (length (cut false bytes))) whole.word_is ∙ by_word

read_quotes : (n : ℕ) (f : Frame) (fs : List Frame) (height : ℕ) (again : Bool) (b : ℕ) (spaced : Bool) (bytes s rest : List ℕ) → (b ≡ 39) ⊎ (b ≡ 34) → IsInside b 0 bytes [] s rest []
    → step (at n f fs false height again spaced (b ∷ bytes)) ≡ quoted_by (at n f fs false height again (b == 32) bytes) (at_last b n Quote s [] None) (Some rest)
read_quotes n f fs height again b spaced bytes s rest two i =
    quoted_step n f fs height again b spaced bytes two ∙ ap (λ (r : State × Option (List ℕ)). quoted_by (at n f fs false height again (b == 32) bytes) r.0 r.1) (inside_read b two bytes s rest n i)

-- ---- keys

-- with no colon behind it, a key has the value null
alone_told : {bytes k rest : List ℕ} → IsKey bytes k rest → (n : ℕ) (ps : List Pair) (fs : List Frame) (height : ℕ) (again spaced : Bool) → is_spaced bytes ≡ false → sees 58 rest ≡ false
    → (spaced' : Bool) × (step (at n (map_frame ps None) fs false height again spaced bytes) ≡ on (at n (map_frame (ps ++ (k, n, null n) ∷ []) None) fs true (raised height (length fs)) (again || has_key ps k) spaced' rest)) × (length rest < length bytes)
alone_told (plain_key_is {b = b} {bytes = bytes} {w = w} {rest = rest} s i merge some) n ps fs height again spaced no_blank no_colon = at_end (word_told i 0)
  where
    at_end : Told false 0 (b ∷ bytes) w rest
        → (spaced' : Bool) × (step (at n (map_frame ps None) fs false height again spaced (b ∷ bytes)) ≡ on (at n (map_frame (ps ++ (trimmed w, n, null n) ∷ []) None) fs true (raised height (length fs)) (again || has_key ps (trimmed w)) spaced' rest)) × (length rest < suc (length bytes))
    at_end (before is c t d) = absurd (let q : true ≡ false = sym (ap (sees 58) is) ∙ no_colon in cc)
    at_end (alone is none d end) =
        let whole = whole_of b bytes w rest (cut_is b bytes no_blank s) is none d in
        let m : Machine = at n (map_frame ps None) fs false height again (b == 32) bytes in
        let by_word : plain_key m w (length (cut false bytes)) None ≡ on (at n (map_frame (ps ++ (trimmed w, n, null n) ∷ []) None) fs true (raised height (length fs)) (again || has_key ps (trimmed w)) true rest) =
        rw (merge, some) (ap (λ (x : List ℕ). on (at n (map_frame (ps ++ (trimmed w, n, null n) ∷ []) None) fs true (raised height (length fs)) (again || has_key ps (trimmed w)) true x)) whole.left) in
        let shorter = drop_less (length (cut false bytes)) bytes rest whole.left in (
          true,
          plain_step n (map_frame ps None) fs height again b spaced bytes no_blank s ∙ plain_is m b ∙ ap (λ (x : List ℕ). plain_key m x (length (cut false bytes)) (colon_at false 0 x)) whole.word_is
              ∙ ap (plain_key m w (length (cut false bytes))) none ∙ by_word,
          omega arith,
        )
alone_told (quoted_key {b = b} {bytes = bytes} {s = s} {rest = rest} q i some) n ps fs height again spaced no_blank no_colon =
    let two = quote_is b bytes q in
    (false, read_quotes n (map_frame ps None) fs height again b spaced bytes s rest two i ∙ by_rest rest no_colon, shorter_so two)
  where
    shorter_so : (b ≡ 39) ⊎ (b ≡ 34) → length rest < suc (length bytes)
    shorter_so two = let lt = inside_shorter b two i in omega arith

    by_rest : (rest : List ℕ) → sees 58 rest ≡ false
        → quoted_by (at n (map_frame ps None) fs false height again (b == 32) bytes) (at_last b n Quote s [] None) (Some rest) ≡ on (at n (map_frame (ps ++ (s, n, null n) ∷ []) None) fs true (raised height (length fs)) (again || has_key ps s) false rest)
    by_rest [] e = rw some refl
    by_rest (c ∷ rest) e = rw (e, some) refl

-- with a colon behind it, a key waits for its value
colon_told : {bytes k rest : List ℕ} → IsKey bytes k rest → (n : ℕ) (ps : List Pair) (fs : List Frame) (height : ℕ) (again spaced : Bool) (r : List ℕ) → is_spaced bytes ≡ false → rest ≡ 58 ∷ r → ends_key r ≡ true
    → (step (at n (map_frame ps None) fs false height again spaced bytes) ≡ on (at n (map_frame ps (Some k)) fs false height (again || has_key ps k) false r)) × (length r < length bytes)
colon_told (plain_key_is {b = b} {bytes = bytes} {w = w} {rest = rest} s i merge some) n ps fs height again spaced r no_blank rest_is ends = at_end (word_told i 0)
  where
    at_end : Told false 0 (b ∷ bytes) w rest → (step (at n (map_frame ps None) fs false height again spaced (b ∷ bytes)) ≡ on (at n (map_frame ps (Some (trimmed w))) fs false height (again || has_key ps (trimmed w)) false r)) × (length r < suc (length bytes))
    at_end (alone is none d no_colon) = absurd (let q : true ≡ false = sym (ap (sees 58) rest_is) ∙ no_colon in cc)
    at_end (before is c t d) =
        let cuts = cut_is b bytes no_blank s in
        let m : Machine = at n (map_frame ps None) fs false height again (b == 32) bytes in
        let left : drop (length w) bytes ≡ r = next_of (length w) b bytes r (d ∙ rest_is) in
        let colon : colon_at false 0 (b ∷ cut false bytes) ≡ Some (0 + length w) = ap (colon_at false 0) (sym cuts) ∙ c in
        let zero_add : 0 + length w ≡ length w = omega arith in
        let taken : take (length w) (b ∷ cut false bytes) ≡ w = ap (take (length w)) (sym cuts) ∙ t in
        let by_word : plain_key m (b ∷ cut false bytes) (length (cut false bytes)) (Some (length w)) ≡ on (at n (map_frame ps (Some (trimmed w))) fs false height (again || has_key ps (trimmed w)) false r) =
        rw (taken, merge, some) (ap (λ (x : List ℕ). on (at n (map_frame ps (Some (trimmed w))) fs false height (again || has_key ps (trimmed w)) false x)) left) in
        let shorter = drop_less (length w) bytes r left in (
          plain_step n (map_frame ps None) fs height again b spaced bytes no_blank s ∙ plain_is m b ∙ ap (plain_key m (b ∷ cut false bytes) (length (cut false bytes))) (colon ∙ ap Some zero_add) ∙ by_word,
          omega arith,
        )
colon_told (quoted_key {b = b} {bytes = bytes} {s = s} {rest = rest} q i some) n ps fs height again spaced r no_blank rest_is ends =
    let two = quote_is b bytes q in
    (read_quotes n (map_frame ps None) fs height again b spaced bytes s rest two i ∙ by_rest rest rest_is, shorter_so two)
  where
    shorter_so : (b ≡ 39) ⊎ (b ≡ 34) → length r < suc (length bytes)
    shorter_so two = let lt = inside_shorter b two i in omega (arith, ap length rest_is)

    by_rest : (rest : List ℕ) → rest ≡ 58 ∷ r → quoted_by (at n (map_frame ps None) fs false height again (b == 32) bytes) (at_last b n Quote s [] None) (Some rest) ≡ on (at n (map_frame ps (Some s)) fs false height (again || has_key ps s) false r)
    by_rest rest e = rw (e, ends, some) refl

-- ---- flow

-- Step by step the bracket of this machine is closed, and the node is the outer one's.
data Shut (m : Machine) (n height : ℕ) (again : Bool) (rest : List ℕ) (node : Node) (fs : List Frame) : Type 0 where
  shut : {m' : Machine} → Goes m m' → length rest < length m'.rest → step m' ≡ shuts n height again rest node fs → Shut m n height again rest node fs

behind_steps : {m m' : Machine} {n height : ℕ} {again : Bool} {rest : List ℕ} {node : Node} {fs : List Frame} → Goes m m' → Shut m' n height again rest node fs → Shut m n height again rest node fs
behind_steps g (shut h lt e) = shut (goes_on g h) lt e

shut_goes : {m : Machine} {n height : ℕ} {again : Bool} {rest : List ℕ} {node : Node} {f : Frame} {fs : List Frame} → Shut m n height again rest node (f ∷ fs) → Goes m (at n (held f n node) fs true height again false rest)
shut_goes (shut g lt e) = goes_on g (by e lt there)

-- With so many brackets around, what was read is this node, where it is not too deep; its height was counted, and what was before.
record Counts (around low height high : ℕ) (node x : Node) : Type 0 where
  same : around + 1 + height ≤ 64 → node ≡ x
  tall : min (around + 1 + height) 65 ≤ high
  more : low ≤ high

-- a bracket that is closed
record Closes (m : Machine) (n low height : ℕ) (rest : List ℕ) (x : Node) (fs : List Frame) : Type 0 where
  node : Node
  high : ℕ
  again : Bool
  is_shut : Shut m n high again rest node fs
  counts : Counts (length fs) low height high node x

-- a value that is read
record Values (n : ℕ) (f : Frame) (fs : List Frame) (low : ℕ) (m : Machine) (x : Node) (height : ℕ) (rest : List ℕ) : Type 0 where
  node : Node
  high : ℕ
  again : Bool
  spaced : Bool
  goes : Goes m (at n (held f n node) fs true high again spaced rest)
  counts : Counts (length fs) low height high node x

-- a pair was read, or a key that waits for its value
data Ready (n : ℕ) (ps : List Pair) (fs : List Frame) (height : ℕ) (again : Bool) (p : Pair) (rest : List ℕ) : Machine → Type 0 where
  is_held : {spaced : Bool} → Ready n ps fs height again p rest (at n (map_frame (ps ++ p ∷ []) None) fs true height again spaced rest)
  waits : {low : ℕ} {spaced : Bool} (k : List ℕ) → (k, n, null n) ≡ p → raised low (length fs) ≡ height → Ready n ps fs height again p rest (at n (map_frame ps (Some k)) fs false low again spaced rest)

ready_comma : {n height : ℕ} {ps : List Pair} {fs : List Frame} {again : Bool} {p : Pair} {rest more : List ℕ} {m : Machine} → Ready n ps fs height again p rest m → IsAfter rest (44 ∷ more) → Goes m (at n (map_frame (ps ++ p ∷ []) None) fs false height again false more)
ready_comma {n = n} {height = height} {ps = ps} {fs = fs} {again = again} {p = p} (is_held {spaced = spaced}) a =
    let g = blanks_go a n (map_frame (ps ++ p ∷ []) None) fs true height again spaced in
    goes_on g.1 (by refl (omega arith) there)
ready_comma {n = n} {height = height} {ps = ps} {fs = fs} {again = again} {p = p} {more = more} (waits {low = low} {spaced = spaced} k pair high) a =
    let g = blanks_go a n (map_frame ps (Some k)) fs false low again spaced in
    goes_on g.1
    (by
    (key_goes_on n ps k fs low again g.0 more ∙ ap (λ (q : Pair). on (at n (map_frame (ps ++ q ∷ []) None) fs false (raised low (length fs)) again false more)) pair ∙ ap (λ (h : ℕ). on (at n (map_frame (ps ++ p ∷ []) None) fs false h again false more)) high)
    (omega arith) there)

ready_closes : {n height : ℕ} {ps : List Pair} {fs : List Frame} {again : Bool} {p : Pair} {rest more : List ℕ} {m : Machine} → Ready n ps fs height again p rest m → IsAfter rest (125 ∷ more)
    → Shut m n height again more (kept (length fs) n (mapped n (ps ++ p ∷ []))) fs
ready_closes {n = n} {height = height} {ps = ps} {fs = fs} {again = again} {p = p} {more = more} (is_held {spaced = spaced}) a =
    let g = blanks_go a n (map_frame (ps ++ p ∷ []) None) fs true height again spaced in
    shut g.1 (omega arith) (map_closes n (ps ++ p ∷ []) fs true height again g.0 more)
ready_closes {n = n} {height = height} {ps = ps} {fs = fs} {again = again} {p = p} {more = more} (waits {low = low} {spaced = spaced} k pair high) a =
    let g = blanks_go a n (map_frame ps (Some k)) fs false low again spaced in
    shut g.1 (omega arith)
    (key_closes n ps k fs low again g.0 more ∙ ap (λ (q : Pair). shuts n (raised low (length fs)) again more (kept (length fs) n (mapped n (ps ++ q ∷ []))) fs) pair ∙ ap (λ (h : ℕ). shuts n h again more (kept (length fs) n (mapped n (ps ++ p ∷ []))) fs) high)

record OnePair (n : ℕ) (found : List Pair) (fs : List Frame) (low height : ℕ) (start_at : Machine) (p : Pair) (rest : List ℕ) : Type 0 where
  m : Machine
  pair : Pair
  high : ℕ
  again : Bool
  goes : Goes start_at m
  ready : Ready n found fs high again pair rest m
  same : length fs + 1 + height ≤ 64 → pair ≡ p
  tall : min (length fs + 1 + height) 65 ≤ high
  more : low ≤ high

-- a bracket whose content is read
bracket_told : (n : ℕ) (f inner : Frame) (fs : List Frame) (low height : ℕ) (again : Bool) (bytes rest all : List ℕ) (spaced : Bool) (x : Node) → step (at n f fs false low again spaced all) ≡ on (at n inner (f ∷ fs) false (raised low (length fs)) again false bytes)
    → length bytes < length all → Closes (at n inner (f ∷ fs) false (raised low (length fs)) again false bytes) n (raised low (length fs)) height rest x (f ∷ fs) → Values n f fs low (at n f fs false low again spaced all) x (suc height) rest
bracket_told n f inner fs low height again bytes rest all spaced x e shorter c =
    let t = c.counts.tall in
    let m = c.counts.more in
    record {
      node = c.node;
      high = c.high;
      again = c.again;
      spaced = false;
      goes = by e shorter (shut_goes c.is_shut);
      counts = record { same = λ le. c.counts.same (omega (arith, le)); tall = omega (arith, t); more = omega (arith, m) };
    }

plain_value : (n : ℕ) (f : Frame) (fs : List Frame) (low : ℕ) (again : Bool) (b : ℕ) (spaced : Bool) (bytes w rest : List ℕ) → wants_key f ≡ false → is_blank b ≡ false → start b bytes ≡ starts.Plain → sees 58 rest ≡ false → Told false 0 (b ∷ bytes) w rest
    → Values n f fs low (at n f fs false low again spaced (b ∷ bytes)) (scalar_node n (trimmed w) true) 1 rest
plain_value n f fs low again b spaced bytes w rest wants no_blank s no_colon (alone is none d end) =
    let whole = whole_of b bytes w rest (cut_is b bytes no_blank s) is none d in
    let shorter = drop_less (length (cut false bytes)) bytes rest whole.left in
    record {
      node = scalar_node n (trimmed w) true;
      high = raised low (length fs);
      again = again;
      spaced = true;
      goes = by (plain_step n f fs low again b spaced bytes no_blank s ∙ plain_told n f fs low again b bytes w rest wants whole) (omega arith) there;
      counts = record { same = λ le. refl; tall = omega arith; more = omega arith };
    }
plain_value n f fs low again b spaced bytes w rest wants no_blank s no_colon (before is c t d) = absurd (let q : true ≡ false = sym (ap (sees 58) is) ∙ no_colon in cc)

quoted_value : (n : ℕ) (f : Frame) (fs : List Frame) (low : ℕ) (again : Bool) (b : ℕ) (spaced : Bool) (bytes s rest : List ℕ) → wants_key f ≡ false → (b ≡ 39) ⊎ (b ≡ 34) → IsInside b 0 bytes [] s rest []
    → Values n f fs low (at n f fs false low again spaced (b ∷ bytes)) (scalar_node n s false) 1 rest
quoted_value n f fs low again b spaced bytes s rest wants two i =
    let shorter = inside_shorter b two i in
    record {
      node = scalar_node n s false;
      high = raised low (length fs);
      again = again;
      spaced = false;
      goes = by (read_quotes n f fs low again b spaced bytes s rest two i ∙ rw wants refl) (omega arith) there;
      counts = record { same = λ le. refl; tall = omega arith; more = omega arith };
    }

kept_as : (n : ℕ) (fs : List Frame) (height : ℕ) (y x : Node) → (length fs + 1 + height ≤ 64 → y ≡ x) → length fs + 1 + height ≤ 64 → kept (length fs) n y ≡ x
kept_as n fs height y x same le = kept_is (length fs) n y (omega (arith, le)) ∙ same le

mutual
  value_told : {n height : ℕ} {bytes rest : List ℕ} {x : Node} → IsFlow n bytes x height rest → (f : Frame) (fs : List Frame) (low : ℕ) (again spaced : Bool) → wants_key f ≡ false → is_spaced bytes ≡ false → sees 58 rest ≡ false
      → Values n f fs low (at n f fs false low again spaced bytes) x height rest
  value_told {n = n} (plain_is_flow {b = b} {bytes = bytes} {w = w} {rest = rest} s i) f fs low again spaced wants no_blank no_colon = plain_value n f fs low again b spaced bytes w rest wants no_blank s no_colon (word_told i 0)
  value_told {n = n} (quoted_is {b = b} {bytes = bytes} {s = s} {rest = rest} q i) f fs low again spaced wants no_blank no_colon = quoted_value n f fs low again b spaced bytes s rest wants (quote_is b bytes q) i
  value_told {n = n} (list_is {height = height} {bytes = bytes} {rest = rest} {xs = xs} i) f fs low again spaced wants no_blank no_colon =
      bracket_told n f (list_frame []) fs low height again bytes rest (91 ∷ bytes) spaced (listed n xs) (list_opens n f fs low again spaced bytes wants) (omega arith) (items_told i [] (f ∷ fs) (raised low (length fs)) again false (omega arith))
  value_told {n = n} (map_is {height = height} {bytes = bytes} {rest = rest} {ps = ps} i) f fs low again spaced wants no_blank no_colon =
      bracket_told n f (map_frame [] None) fs low height again bytes rest (123 ∷ bytes) spaced (mapped n ps) (map_opens n f fs low again spaced bytes wants) (omega arith) (pairs_told i [] (f ∷ fs) (raised low (length fs)) again false (omega arith))

  items_told : {n height : ℕ} {bytes rest : List ℕ} {xs : List Node} → IsItems n bytes xs height rest → (found : List Node) (fs : List Frame) (low : ℕ) (again spaced : Bool) → min (length fs + 1) 65 ≤ low
      → Closes (at n (list_frame found) fs false low again spaced bytes) n low height rest (listed n (found ++ xs)) fs
  items_told {n = n} (no_item {bytes = bytes} {rest = rest} a) found fs low again spaced high =
      let g = blanks_go a n (list_frame found) fs false low again spaced in
      record {
        node = kept (length fs) n (listed n found);
        high = low;
        again = again;
        is_shut = shut g.1 (omega arith) (list_closes n found fs false low again g.0 rest);
        counts = record { same = kept_as n fs 0 (listed n found) (listed n (found ++ [])) (λ le. ap (listed n) (sym (append-nil found))); tall = omega (arith, high); more = omega arith };
      }
  items_told {n = n} (last_item {height = height} {bytes = bytes} {item = item} {behind = behind} {rest = rest} {x = x} a v c) found fs low again spaced high =
      let g = blanks_go a n (list_frame found) fs false low again spaced in
      let h = value_told v (list_frame found) fs low again g.0 refl (after_no_blank a) (after_no_colon c refl) in
      let k = blanks_go c n (list_frame (found ++ h.node ∷ [])) fs true h.high h.again h.spaced in
      record {
        node = kept (length fs) n (listed n (found ++ h.node ∷ []));
        high = h.high;
        again = h.again;
        is_shut = shut (goes_on g.1 (goes_on h.goes k.1)) (omega arith) (list_closes n (found ++ h.node ∷ []) fs true h.high h.again k.0 rest);
        counts = record {
          same = kept_as n fs height (listed n (found ++ h.node ∷ [])) (listed n (found ++ x ∷ [])) (λ le. ap (λ (y : Node). listed n (found ++ y ∷ [])) (h.counts.same le));
          tall = h.counts.tall;
          more = h.counts.more;
        };
      }
  items_told {n = n} (more_items {height = height} {others = others} {bytes = bytes} {item = item} {behind = behind} {more = more} {rest = rest} {x = x} {xs = xs} a v c i) found fs low again spaced high =
      let g = blanks_go a n (list_frame found) fs false low again spaced in
      let h = value_told v (list_frame found) fs low again g.0 refl (after_no_blank a) (after_no_colon c refl) in
      let k = blanks_go c n (list_frame (found ++ h.node ∷ [])) fs true h.high h.again h.spaced in
      let hm = h.counts.more in
      let ht = h.counts.tall in
      let s = items_told i (found ++ h.node ∷ []) fs h.high h.again false (omega (arith, high, hm)) in
      let sm = s.counts.more in
      let st = s.counts.tall in
      record {
        node = s.node;
        high = s.high;
        again = s.again;
        is_shut = behind_steps (goes_on g.1 (goes_on h.goes (goes_on k.1 (by refl (omega arith) there)))) s.is_shut;
        counts = record {
          same = λ le. s.counts.same (omega (arith, le)) ∙ ap (listed n) (append_assoc found (h.node ∷ []) xs) ∙ ap (λ (y : Node). listed n (found ++ y ∷ xs)) (h.counts.same (omega (arith, le)));
          tall = omega (arith, ht, st, sm);
          more = omega (arith, hm, sm);
        };
      }

  pair_told : {n height : ℕ} {bytes rest : List ℕ} {p : Pair} → IsPair n bytes p height rest → (found : List Pair) (fs : List Frame) (low : ℕ) (again spaced : Bool) → is_spaced bytes ≡ false → sees 58 rest ≡ false
      → OnePair n found fs low height (at n (map_frame found None) fs false low again spaced bytes) p rest
  pair_told {n = n} (key_alone {k = k} {rest = rest} i) found fs low again spaced no_blank no_colon =
      let t = alone_told i n found fs low again spaced no_blank no_colon in
      record {
        m = at n (map_frame (found ++ (k, n, null n) ∷ []) None) fs true (raised low (length fs)) (again || has_key found k) t.0 rest;
        pair = (k, n, null n);
        high = raised low (length fs);
        again = again || has_key found k;
        goes = by t.1 t.2 there;
        ready = is_held;
        same = λ le. refl;
        tall = omega arith;
        more = omega arith;
      }
  pair_told {n = n} (no_value {k = k} {rest = rest} i ends) found fs low again spaced no_blank no_colon =
      let t = colon_told i n found fs low again spaced rest no_blank refl ends in
      record {
        m = at n (map_frame found (Some k)) fs false low (again || has_key found k) false rest;
        pair = (k, n, null n);
        high = raised low (length fs);
        again = again || has_key found k;
        goes = by t.0 t.1 there;
        ready = waits k refl refl;
        same = λ le. refl;
        tall = omega arith;
        more = omega arith;
      }
  pair_told {n = n} (key_value {height = height} {k = k} {behind = behind} {value = value} {rest = rest} {x = x} i ends a v) found fs low again spaced no_blank no_colon =
      let t = colon_told i n found fs low again spaced behind no_blank refl ends in
      let g = blanks_go a n (map_frame found (Some k)) fs false low (again || has_key found k) false in
      let h = value_told v (map_frame found (Some k)) fs low (again || has_key found k) g.0 refl (after_no_blank a) no_colon in
      record {
        m = at n (map_frame (found ++ (k, n, h.node) ∷ []) None) fs true h.high h.again h.spaced rest;
        pair = (k, n, h.node);
        high = h.high;
        again = h.again;
        goes = by t.0 t.1 (goes_on g.1 h.goes);
        ready = is_held;
        same = λ le. ap (λ (y : Node). (k, n, y)) (h.counts.same le);
        tall = h.counts.tall;
        more = h.counts.more;
      }

  pairs_told : {n height : ℕ} {bytes rest : List ℕ} {ps : List Pair} → IsPairs n bytes ps height rest → (found : List Pair) (fs : List Frame) (low : ℕ) (again spaced : Bool) → min (length fs + 1) 65 ≤ low
      → Closes (at n (map_frame found None) fs false low again spaced bytes) n low height rest (mapped n (found ++ ps)) fs
  pairs_told {n = n} (no_pair {bytes = bytes} {rest = rest} a) found fs low again spaced high =
      let g = blanks_go a n (map_frame found None) fs false low again spaced in
      record {
        node = kept (length fs) n (mapped n found);
        high = low;
        again = again;
        is_shut = shut g.1 (omega arith) (map_closes n found fs false low again g.0 rest);
        counts = record { same = kept_as n fs 0 (mapped n found) (mapped n (found ++ [])) (λ le. ap (mapped n) (sym (append-nil found))); tall = omega (arith, high); more = omega arith };
      }
  pairs_told {n = n} (last_pair {height = height} {p = p} a i c) found fs low again spaced high =
      let g = blanks_go a n (map_frame found None) fs false low again spaced in
      let t = pair_told i found fs low again g.0 (after_no_blank a) (after_no_colon c refl) in
      record {
        node = kept (length fs) n (mapped n (found ++ t.pair ∷ []));
        high = t.high;
        again = t.again;
        is_shut = behind_steps (goes_on g.1 t.goes) (ready_closes t.ready c);
        counts = record {
          same = kept_as n fs height (mapped n (found ++ t.pair ∷ [])) (mapped n (found ++ p ∷ [])) (λ le. ap (λ (q : Pair). mapped n (found ++ q ∷ [])) (t.same le));
          tall = t.tall;
          more = t.more;
        };
      }
  pairs_told {n = n} (more_pairs {height = height} {others = others} {p = p} {ps = ps} a i c r) found fs low again spaced high =
      let g = blanks_go a n (map_frame found None) fs false low again spaced in
      let t = pair_told i found fs low again g.0 (after_no_blank a) (after_no_colon c refl) in
      let hm = t.more in
      let ht = t.tall in
      let s = pairs_told r (found ++ t.pair ∷ []) fs t.high t.again false (omega (arith, high, hm)) in
      let sm = s.counts.more in
      let st = s.counts.tall in
      record {
        node = s.node;
        high = s.high;
        again = s.again;
        is_shut = behind_steps (goes_on g.1 (goes_on t.goes (ready_comma t.ready c))) s.is_shut;
        counts = record {
          same = λ le. s.counts.same (omega (arith, le)) ∙ ap (mapped n) (append_assoc found (t.pair ∷ []) ps) ∙ ap (λ (q : Pair). mapped n (found ++ q ∷ ps)) (t.same (omega (arith, le)));
          tall = omega (arith, ht, st, sm);
          more = omega (arith, hm, sm);
        };
      }

-- what flow in the grammar without the two rules is read as
pub record IsReadAs (n b : ℕ) (bytes : List ℕ) (x : Node) (height : ℕ) (rest : List ℕ) : Type 0 where
  pub ended_as : Ended
  pub is : flow n (b == 123) bytes ≡ Ok ended_as
  pub left : ended_as.rest ≡ rest
  pub same : height ≤ 64 → ended_as.node ≡ x
  pub tall : min height 65 ≤ ended_as.height

all_told : (n : ℕ) (bytes rest : List ℕ) (f : Frame) (node : Node) (high : ℕ) (again : Bool) → Shut (at n f [] false 1 false false bytes) n high again rest node []
    → run (suc (length bytes)) (at n f [] false 1 false false bytes) ≡ Ok (record { node = node; height = high; repeated = again; rest = rest })
all_told n bytes rest f node high again (shut g lt e) = run_goes g (record { node = node; height = high; repeated = again; rest = rest }) e (suc (length bytes)) (omega arith)

pub flow_read : (n b : ℕ) (bytes : List ℕ) (x : Node) (height : ℕ) (rest : List ℕ) → IsFlow n (b ∷ bytes) x height rest → start b bytes ≡ starts.InBrackets → IsReadAs n b bytes x height rest
unfolding flow
flow_read n b bytes x height rest (plain_is_flow s i) e = absurd (let q : starts.Plain ≡ starts.InBrackets = sym s ∙ e in cc)
flow_read n b bytes x height rest (quoted_is s i) e = absurd (let q : starts.InQuotes ≡ starts.InBrackets = sym s ∙ e in cc)
flow_read n b bytes x height rest (list_is {height = inner} {xs = xs} i) e =
    let c = items_told i [] [] 1 false false (omega arith) in
    let t = c.counts.tall in
    record {
      ended_as = record { node = c.node; height = c.high; repeated = c.again; rest = rest };
      is = all_told n bytes rest (list_frame []) c.node c.high c.again c.is_shut;
      left = refl;
      same = λ le. c.counts.same (omega (arith, le));
      tall = omega (arith, t);
    }
flow_read n b bytes x height rest (map_is {height = inner} {ps = ps} i) e =
    let c = pairs_told i [] [] 1 false false (omega arith) in
    let t = c.counts.tall in
    record {
      ended_as = record { node = c.node; height = c.high; repeated = c.again; rest = rest };
      is = all_told n bytes rest (map_frame [] None) c.node c.high c.again c.is_shut;
      left = refl;
      same = λ le. c.counts.same (omega (arith, le));
      tall = omega (arith, t);
    }
