-- What is in the grammar of flow is read, up to 64 nodes in one another.
use Rattle.std.proofs.Common.{◌≡◌, ℕ, suc, ◌+◌, ◌<◌, ◌≤◌, Bool, true, false, ◌⊎◌, List, [], ◌∷◌, ◌++◌, length, take, drop, length-drop, Option, Some, None, Ok, refl, sym, ap, subst, ◌∙◌, append_assoc, arith}
use Rattle.std.specs.Prelude.{◌==◌, max}
use Rattle.std.proofs.lemmas.List.{append-nil}
use Rattle.yaml_scan.specs.declared.quoted.Last.TheVariants.{Quote}
use Rattle.yaml_scan.specs.Words.{sees, is_blank, is_some, has_colon, colon_at, trimmed}
use Rattle.yaml_scan.specs.Quoted.{State}
use Rattle.yaml_tree.specs.declared.node.Node.{Node}
use Rattle.yaml_tree.specs.declared.flow.Frame.{Frame}
use Rattle.yaml_tree.specs.declared.starts.Start.TheVariants as starts
use Rattle.yaml_tree.specs.Nodes.{Pair, null, scalar_node, listed, mapped, has_key}
use Rattle.yaml_tree.specs.Starts.{start}
use Rattle.yaml_tree.specs.Quotes.{IsInside}
use Rattle.yaml_tree.specs.Brackets.{IsAfter, ends_key, IsKey, plain_key as plain_key_is, quoted_key, IsFlow, plain as plain_is_flow, quoted as quoted_is, list as list_is, map as map_is, IsItems, no_item, last_item, more_items, IsPair, key_alone, no_value, key_value, IsPairs, no_pair, last_pair, more_pairs}
use Rattle.yaml_tree.specs.Flow.{Machine, on, held, wants_key, raised, kept, behind, plain, plain_by, plain_key, quoted_by, ended, run, step, flow}
use Rattle.yaml_tree.proofs.QuotesFound.{at_last}
use Rattle.yaml_tree.proofs.BracketWords.{cut, Told, alone, before, word_told, next_of}
use Rattle.yaml_tree.proofs.OneLine.{inside_read, inside_shorter}
use Rattle.yaml_tree.proofs.BracketSteps.{at, list_frame, map_frame, Goes, there, by, goes_on, quote_is, run_goes, shuts, raised_is, max_more, kept_is, is_spaced, after_no_blank, after_no_colon, blanks_go, plain_step, quoted_step, list_opens, map_opens, list_closes, map_closes, key_closes, key_goes_on, cut_is, plain_is}
use Rattle.yaml_tree.proofs.BracketKeys.{Apart, apart_none, apart_new, apart_next}

-- ---- plain scalars

drop_less : (count : ℕ) (bytes rest : List ℕ) → drop count bytes ≡ rest → length rest ≤ length bytes
drop_less count bytes rest e = omega (arith, length-drop count bytes, ap length e)

-- what is left where a scalar ends, and what it is
record Whole (b : ℕ) (bytes w rest : List ℕ) : Type 0 where
  word_is : b ∷ cut false bytes ≡ w
  no_colon : colon_at false 0 w ≡ None
  left : drop (length (cut false bytes)) bytes ≡ rest

whole_of : (b : ℕ) (bytes w rest : List ℕ) → cut false (b ∷ bytes) ≡ b ∷ cut false bytes → cut false (b ∷ bytes) ≡ w → colon_at false 0 w ≡ None → drop (length w) (b ∷ bytes) ≡ rest → Whole b bytes w rest
whole_of b bytes w rest c is n d =
    let same : b ∷ cut false bytes ≡ w = sym c ∙ is in
    record { word_is = same; no_colon = n; left = ap (λ (x : List ℕ). drop (length x) (b ∷ bytes)) same ∙ d }

-- a value that is plain
plain_told : (n : ℕ) (f : Frame) (fs : List Frame) (height b : ℕ) (bytes w rest : List ℕ) → wants_key f ≡ false → length fs + 1 + 1 ≤ 64 → Whole b bytes w rest
    → plain (at n f fs false height (b == 32) bytes) b ≡ on (at n (held f n (scalar_node n (trimmed w) true)) fs true (max height (length fs + 1 + 1)) true rest)
plain_told n f fs height b bytes w rest wants lt whole =
    let none : has_colon w ≡ false = ap is_some whole.no_colon in
    let by_word : plain_by (at n f fs false height (b == 32) bytes) w (length (cut false bytes)) ≡ on (at n (held f n (scalar_node n (trimmed w) true)) fs true (max height (length fs + 1 + 1)) true rest) =
    rw (wants, none) (ap (λ (x : List ℕ). on (at n (held f n (scalar_node n (trimmed w) true)) fs true (raised height (length fs)) true x)) whole.left ∙ ap (λ (h : ℕ). on (at n (held f n (scalar_node n (trimmed w) true)) fs true h true rest)) (raised_is height (length fs) lt)) in
    plain_is (at n f fs false height (b == 32) bytes) b ∙ ap (λ (x : List ℕ). plain_by (at n f fs false height (b == 32) bytes) x (length (cut false bytes))) whole.word_is ∙ by_word

-- ---- quoted scalars

-- what reading in quotes leaves
read_quotes : (n : ℕ) (f : Frame) (fs : List Frame) (height b : ℕ) (spaced : Bool) (bytes s rest : List ℕ) → (b ≡ 39) ⊎ (b ≡ 34) → IsInside b 0 bytes [] s rest []
    → step (at n f fs false height spaced (b ∷ bytes)) ≡ quoted_by (at n f fs false height (b == 32) bytes) (at_last b n Quote s [] None) (Some rest)
read_quotes n f fs height b spaced bytes s rest two i =
    quoted_step n f fs height b spaced bytes two ∙ ap (λ (r : State × Option (List ℕ)). quoted_by (at n f fs false height (b == 32) bytes) r.0 r.1) (inside_read b two bytes s rest n i)

-- ---- keys

-- with no colon behind it, a key has the value null
pub alone_told : {bytes k rest : List ℕ} → IsKey bytes k rest → (n : ℕ) (ps : List Pair) (fs : List Frame) (height : ℕ) (spaced : Bool) → is_spaced bytes ≡ false → sees 58 rest ≡ false → has_key ps k ≡ false → length fs + 1 + 1 ≤ 64
    → (spaced' : Bool) × (step (at n (map_frame ps None) fs false height spaced bytes) ≡ on (at n (map_frame (ps ++ (k, n, null n) ∷ []) None) fs true (max height (length fs + 1 + 1)) spaced' rest)) × (length rest < length bytes)
alone_told (plain_key_is {b = b} {bytes = bytes} {w = w} {rest = rest} s i merge some) n ps fs height spaced no_blank no_colon new lt = at_end (word_told i 0)
  where
    at_end : Told false 0 (b ∷ bytes) w rest
        → (spaced' : Bool) × (step (at n (map_frame ps None) fs false height spaced (b ∷ bytes)) ≡ on (at n (map_frame (ps ++ (trimmed w, n, null n) ∷ []) None) fs true (max height (length fs + 1 + 1)) spaced' rest)) × (length rest < suc (length bytes))
    at_end (before is c t d) = absurd (let q : true ≡ false = sym (ap (sees 58) is) ∙ no_colon in cc)
    at_end (alone is none d end) =
        let whole = whole_of b bytes w rest (cut_is b bytes no_blank s) is none d in
        let m : Machine = at n (map_frame ps None) fs false height (b == 32) bytes in
        let by_word : plain_key m w (length (cut false bytes)) None ≡ on (at n (map_frame (ps ++ (trimmed w, n, null n) ∷ []) None) fs true (max height (length fs + 1 + 1)) true rest) =
        rw (merge, some, new) (ap (λ (x : List ℕ). on (at n (map_frame (ps ++ (trimmed w, n, null n) ∷ []) None) fs true (raised height (length fs)) true x)) whole.left
        ∙ ap (λ (h : ℕ). on (at n (map_frame (ps ++ (trimmed w, n, null n) ∷ []) None) fs true h true rest)) (raised_is height (length fs) lt)) in
        let shorter = drop_less (length (cut false bytes)) bytes rest whole.left in (
          true,
          plain_step n (map_frame ps None) fs height b spaced bytes no_blank s ∙ plain_is m b ∙ ap (λ (x : List ℕ). plain_key m x (length (cut false bytes)) (colon_at false 0 x)) whole.word_is
              ∙ ap (plain_key m w (length (cut false bytes))) none ∙ by_word,
          omega arith,
        )
alone_told (quoted_key {b = b} {bytes = bytes} {s = s} {rest = rest} q i some) n ps fs height spaced no_blank no_colon new lt =
    let two = quote_is b bytes q in
    (false, read_quotes n (map_frame ps None) fs height b spaced bytes s rest two i ∙ by_rest rest no_colon, inside_shorter_so two)
  where
    inside_shorter_so : (b ≡ 39) ⊎ (b ≡ 34) → length rest < suc (length bytes)
    inside_shorter_so two = let lt = inside_shorter b two i in omega arith

    by_rest : (rest : List ℕ) → sees 58 rest ≡ false
        → quoted_by (at n (map_frame ps None) fs false height (b == 32) bytes) (at_last b n Quote s [] None) (Some rest) ≡ on (at n (map_frame (ps ++ (s, n, null n) ∷ []) None) fs true (max height (length fs + 1 + 1)) false rest)
    by_rest [] e = rw (some, new) (ap (λ (h : ℕ). on (at n (map_frame (ps ++ (s, n, null n) ∷ []) None) fs true h false [])) (raised_is height (length fs) lt))
    by_rest (c ∷ rest) e = rw (e, some, new) (ap (λ (h : ℕ). on (at n (map_frame (ps ++ (s, n, null n) ∷ []) None) fs true h false (c ∷ rest))) (raised_is height (length fs) lt))

-- with a colon behind it, a key waits for its value
pub colon_told : {bytes k rest : List ℕ} → IsKey bytes k rest → (n : ℕ) (ps : List Pair) (fs : List Frame) (height : ℕ) (spaced : Bool) (r : List ℕ) → is_spaced bytes ≡ false → rest ≡ 58 ∷ r → ends_key r ≡ true → has_key ps k ≡ false
    → (step (at n (map_frame ps None) fs false height spaced bytes) ≡ on (at n (map_frame ps (Some k)) fs false height false r)) × (length r < length bytes)
colon_told (plain_key_is {b = b} {bytes = bytes} {w = w} {rest = rest} s i merge some) n ps fs height spaced r no_blank rest_is ends new = at_end (word_told i 0)
  where
    at_end : Told false 0 (b ∷ bytes) w rest → (step (at n (map_frame ps None) fs false height spaced (b ∷ bytes)) ≡ on (at n (map_frame ps (Some (trimmed w))) fs false height false r)) × (length r < suc (length bytes))
    at_end (alone is none d no_colon) = absurd (let q : true ≡ false = sym (ap (sees 58) rest_is) ∙ no_colon in cc)
    at_end (before is c t d) =
        let cuts = cut_is b bytes no_blank s in
        let m : Machine = at n (map_frame ps None) fs false height (b == 32) bytes in
        let left : drop (length w) bytes ≡ r = next_of (length w) b bytes r (d ∙ rest_is) in
        let colon : colon_at false 0 (b ∷ cut false bytes) ≡ Some (0 + length w) = ap (colon_at false 0) (sym cuts) ∙ c in
        let zero_add : 0 + length w ≡ length w = omega arith in
        let taken : take (length w) (b ∷ cut false bytes) ≡ w = ap (take (length w)) (sym cuts) ∙ t in
        let by_word : plain_key m (b ∷ cut false bytes) (length (cut false bytes)) (Some (length w)) ≡ on (at n (map_frame ps (Some (trimmed w))) fs false height false r) =
        rw (taken, merge, some, new) (ap (λ (x : List ℕ). on (at n (map_frame ps (Some (trimmed w))) fs false height false x)) left) in
        let shorter = drop_less (length w) bytes r left in (
          plain_step n (map_frame ps None) fs height b spaced bytes no_blank s ∙ plain_is m b ∙ ap (plain_key m (b ∷ cut false bytes) (length (cut false bytes))) (colon ∙ ap Some zero_add) ∙ by_word,
          omega arith,
        )
colon_told (quoted_key {b = b} {bytes = bytes} {s = s} {rest = rest} q i some) n ps fs height spaced r no_blank rest_is ends new =
    let two = quote_is b bytes q in
    (read_quotes n (map_frame ps None) fs height b spaced bytes s rest two i ∙ by_rest rest rest_is, inside_shorter_so two)
  where
    inside_shorter_so : (b ≡ 39) ⊎ (b ≡ 34) → length r < suc (length bytes)
    inside_shorter_so two = let lt = inside_shorter b two i in omega (arith, ap length rest_is)

    by_rest : (rest : List ℕ) → rest ≡ 58 ∷ r → quoted_by (at n (map_frame ps None) fs false height (b == 32) bytes) (at_last b n Quote s [] None) (Some rest) ≡ on (at n (map_frame ps (Some s)) fs false height false r)
    by_rest rest e = rw (e, ends, some, new) refl

-- ---- flow

-- Step by step the bracket of this machine is closed, and the node is the outer one's.
data Shut (m : Machine) (n height : ℕ) (rest : List ℕ) (node : Node) (fs : List Frame) : Type 0 where
  shut : {m' : Machine} → Goes m m' → length rest < length m'.rest → step m' ≡ shuts n height rest node fs → Shut m n height rest node fs

behind_steps : {m m' : Machine} {n height : ℕ} {rest : List ℕ} {node : Node} {fs : List Frame} → Goes m m' → Shut m' n height rest node fs → Shut m n height rest node fs
behind_steps g (shut h lt e) = shut (goes_on g h) lt e

shut_goes : {m : Machine} {n height : ℕ} {rest : List ℕ} {node : Node} {f : Frame} {fs : List Frame} → Shut m n height rest node (f ∷ fs) → Goes m (at n (held f n node) fs true height false rest)
shut_goes (shut g lt e) = goes_on g (by e lt there)

-- a pair was read, or a key that waits for its value
data Ready (n : ℕ) (ps : List Pair) (fs : List Frame) (height : ℕ) (p : Pair) (rest : List ℕ) : Machine → Type 0 where
  is_held : {spaced : Bool} → Ready n ps fs height p rest (at n (map_frame (ps ++ p ∷ []) None) fs true height spaced rest)
  waits : {low : ℕ} {spaced : Bool} (k : List ℕ) → (k, n, null n) ≡ p → raised low (length fs) ≡ height → Ready n ps fs height p rest (at n (map_frame ps (Some k)) fs false low spaced rest)

ready_comma : {n height : ℕ} {ps : List Pair} {fs : List Frame} {p : Pair} {rest more : List ℕ} {m : Machine} → Ready n ps fs height p rest m → IsAfter rest (44 ∷ more) → Goes m (at n (map_frame (ps ++ p ∷ []) None) fs false height false more)
ready_comma {n = n} {height = height} {ps = ps} {fs = fs} {p = p} (is_held {spaced = spaced}) a =
    let g = blanks_go a n (map_frame (ps ++ p ∷ []) None) fs true height spaced in
    goes_on g.1 (by refl (omega arith) there)
ready_comma {n = n} {height = height} {ps = ps} {fs = fs} {p = p} {more = more} (waits {low = low} {spaced = spaced} k pair high) a =
    let g = blanks_go a n (map_frame ps (Some k)) fs false low spaced in
    goes_on g.1
    (by
    (key_goes_on n ps k fs low g.0 more ∙ ap (λ (q : Pair). on (at n (map_frame (ps ++ q ∷ []) None) fs false (raised low (length fs)) false more)) pair ∙ ap (λ (h : ℕ). on (at n (map_frame (ps ++ p ∷ []) None) fs false h false more)) high)
    (omega arith) there)

ready_closes : {n height : ℕ} {ps : List Pair} {fs : List Frame} {p : Pair} {rest more : List ℕ} {m : Machine} → Ready n ps fs height p rest m → IsAfter rest (125 ∷ more) → Shut m n height more (kept (length fs) n (mapped n (ps ++ p ∷ []))) fs
ready_closes {n = n} {height = height} {ps = ps} {fs = fs} {p = p} {more = more} (is_held {spaced = spaced}) a =
    let g = blanks_go a n (map_frame (ps ++ p ∷ []) None) fs true height spaced in
    shut g.1 (omega arith) (map_closes n (ps ++ p ∷ []) fs true height g.0 more)
ready_closes {n = n} {height = height} {ps = ps} {fs = fs} {p = p} {more = more} (waits {low = low} {spaced = spaced} k pair high) a =
    let g = blanks_go a n (map_frame ps (Some k)) fs false low spaced in
    shut g.1 (omega arith)
    (key_closes n ps k fs low g.0 more ∙ ap (λ (q : Pair). shuts n (raised low (length fs)) more (kept (length fs) n (mapped n (ps ++ q ∷ []))) fs) pair ∙ ap (λ (h : ℕ). shuts n h more (kept (length fs) n (mapped n (ps ++ p ∷ []))) fs) high)

abbrev Valued : ℕ → Frame → List Frame → ℕ → Bool → List ℕ → Node → ℕ → List ℕ → Type 0
Valued n f fs low spaced bytes x height rest = (spaced' : Bool) × Goes (at n f fs false low spaced bytes) (at n (held f n x) fs true (max low (length fs + 1 + height)) spaced' rest)

-- a bracket whose content is read
bracket_told : (n : ℕ) (f inner : Frame) (fs : List Frame) (low height : ℕ) (bytes rest all : List ℕ) (spaced : Bool) (x : Node) → length fs + 1 + suc height ≤ 64 → step (at n f fs false low spaced all) ≡ on (at n inner (f ∷ fs) false (raised low (length fs)) false bytes)
    → length bytes < length all → Shut (at n inner (f ∷ fs) false (raised low (length fs)) false bytes) n (max (raised low (length fs)) (length (f ∷ fs) + 1 + height)) rest (kept (length (f ∷ fs)) n x) (f ∷ fs) → Valued n f fs low spaced all x (suc height) rest
bracket_told n f inner fs low height bytes rest all spaced x lt e shorter s =
    let node : kept (suc (length fs)) n x ≡ x = kept_is (suc (length fs)) n x (omega arith) in
    let high : max (raised low (length fs)) (suc (length fs) + 1 + height) ≡ max low (length fs + 1 + suc height) = omega arith in
    let g : Goes (at n f fs false low spaced all) (at n (held f n (kept (suc (length fs)) n x)) fs true (max (raised low (length fs)) (suc (length fs) + 1 + height)) false rest) = by e shorter (shut_goes s) in (
      false,
      subst (λ (h : ℕ). Goes (at n f fs false low spaced all) (at n (held f n x) fs true h false rest)) high
          (subst (λ (y : Node). Goes (at n f fs false low spaced all) (at n (held f n y) fs true (max (raised low (length fs)) (suc (length fs) + 1 + height)) false rest)) node g),
    )

shut_as : {m : Machine} {n low high : ℕ} {rest : List ℕ} {x y : Node} {fs : List Frame} → low ≡ high → x ≡ y → Shut m n low rest x fs → Shut m n high rest y fs
shut_as {m = m} {n = n} {low = low} {rest = rest} {y = y} {fs = fs} e f s = subst (λ (h : ℕ). Shut m n h rest y fs) e (subst (λ (z : Node). Shut m n low rest z fs) f s)

plain_value : (n : ℕ) (f : Frame) (fs : List Frame) (low b : ℕ) (spaced : Bool) (bytes w rest : List ℕ) → wants_key f ≡ false → is_blank b ≡ false → length fs + 1 + 1 ≤ 64 → start b bytes ≡ starts.Plain → sees 58 rest ≡ false → Told false 0 (b ∷ bytes) w rest
    → Valued n f fs low spaced (b ∷ bytes) (scalar_node n (trimmed w) true) 1 rest
plain_value n f fs low b spaced bytes w rest wants no_blank lt s no_colon (alone is none d end) =
    let whole = whole_of b bytes w rest (cut_is b bytes no_blank s) is none d in
    let shorter = drop_less (length (cut false bytes)) bytes rest whole.left in
    (true, by (plain_step n f fs low b spaced bytes no_blank s ∙ plain_told n f fs low b bytes w rest wants lt whole) (omega arith) there)
plain_value n f fs low b spaced bytes w rest wants no_blank lt s no_colon (before is c t d) = absurd (let q : true ≡ false = sym (ap (sees 58) is) ∙ no_colon in cc)

quoted_value : (n : ℕ) (f : Frame) (fs : List Frame) (low b : ℕ) (spaced : Bool) (bytes s rest : List ℕ) → wants_key f ≡ false → length fs + 1 + 1 ≤ 64 → (b ≡ 39) ⊎ (b ≡ 34) → IsInside b 0 bytes [] s rest []
    → Valued n f fs low spaced (b ∷ bytes) (scalar_node n s false) 1 rest
quoted_value n f fs low b spaced bytes s rest wants lt two i =
    let shorter = inside_shorter b two i in (
      false,
      by
          (read_quotes n f fs low b spaced bytes s rest two i ∙ rw wants (ap (λ (h : ℕ). on (at n (held f n (scalar_node n s false)) fs true h false rest)) (raised_is low (length fs) lt)))
          (omega arith) there,
    )

all_told : (n : ℕ) (bytes rest : List ℕ) (f : Frame) (x : Node) (height : ℕ) → Shut (at n f [] false 1 false bytes) n (max 1 (0 + 1 + height)) rest x [] → run (suc (length bytes)) (at n f [] false 1 false bytes) ≡ Ok (record { node = x; height = suc height; repeated = false; rest = rest })
all_told n bytes rest f x height (shut g lt e) =
    let same : max 1 (0 + 1 + height) ≡ suc height = omega arith in
    run_goes g (record { node = x; height = suc height; repeated = false; rest = rest }) (e ∙ ap (λ (h : ℕ). ended (record { node = x; height = h; repeated = false; rest = rest })) same) (suc (length bytes)) (omega arith)

mutual
  value_told : {n height : ℕ} {bytes rest : List ℕ} {x : Node} → IsFlow n bytes x height rest → (f : Frame) (fs : List Frame) (low : ℕ) (spaced : Bool) → wants_key f ≡ false → is_spaced bytes ≡ false → sees 58 rest ≡ false → length fs + 1 + height ≤ 64
      → Valued n f fs low spaced bytes x height rest
  value_told {n = n} (plain_is_flow {b = b} {bytes = bytes} {w = w} {rest = rest} s i) f fs low spaced wants no_blank no_colon lt = plain_value n f fs low b spaced bytes w rest wants no_blank lt s no_colon (word_told i 0)
  value_told {n = n} (quoted_is {b = b} {bytes = bytes} {s = s} {rest = rest} q i) f fs low spaced wants no_blank no_colon lt = quoted_value n f fs low b spaced bytes s rest wants lt (quote_is b bytes q) i
  value_told {n = n} (list_is {height = height} {bytes = bytes} {rest = rest} {xs = xs} i) f fs low spaced wants no_blank no_colon lt =
      bracket_told n f (list_frame []) fs low height bytes rest (91 ∷ bytes) spaced (listed n xs) lt (list_opens n f fs low spaced bytes wants) (omega arith) (items_told i [] (f ∷ fs) (raised low (length fs)) false (omega arith) (omega arith))
  value_told {n = n} (map_is {height = height} {bytes = bytes} {rest = rest} {ps = ps} i) f fs low spaced wants no_blank no_colon lt =
      bracket_told n f (map_frame [] None) fs low height bytes rest (123 ∷ bytes) spaced (mapped n ps) lt (map_opens n f fs low spaced bytes wants) (omega arith)
      (pairs_told i [] (f ∷ fs) (raised low (length fs)) false (omega arith) (omega arith) (apart_none ps))

  items_told : {n height : ℕ} {bytes rest : List ℕ} {xs : List Node} → IsItems n bytes xs height rest → (found : List Node) (fs : List Frame) (low : ℕ) (spaced : Bool) → length fs + 1 ≤ low → length fs + 1 + height ≤ 64
      → Shut (at n (list_frame found) fs false low spaced bytes) n (max low (length fs + 1 + height)) rest (kept (length fs) n (listed n (found ++ xs))) fs
  items_told {n = n} (no_item {bytes = bytes} {rest = rest} a) found fs low spaced high lt =
      let g = blanks_go a n (list_frame found) fs false low spaced in
      let same : low ≡ max low (length fs + 1 + 0) = omega arith in
      shut_as same (ap (λ (ys : List Node). kept (length fs) n (listed n ys)) (sym (append-nil found))) (shut g.1 (omega arith) (list_closes n found fs false low g.0 rest))
  items_told {n = n} (last_item {height = height} {bytes = bytes} {item = item} {behind = behind} {rest = rest} {x = x} a v c) found fs low spaced high lt =
      let g = blanks_go a n (list_frame found) fs false low spaced in
      let h = value_told v (list_frame found) fs low g.0 refl (after_no_blank a) (after_no_colon c refl) lt in
      let k = blanks_go c n (list_frame (found ++ x ∷ [])) fs true (max low (length fs + 1 + height)) h.0 in
      shut (goes_on g.1 (goes_on h.1 k.1)) (omega arith) (list_closes n (found ++ x ∷ []) fs true (max low (length fs + 1 + height)) k.0 rest)
  items_told {n = n} (more_items {height = height} {others = others} {bytes = bytes} {item = item} {behind = behind} {more = more} {rest = rest} {x = x} {xs = xs} a v c i) found fs low spaced high lt =
      let g = blanks_go a n (list_frame found) fs false low spaced in
      let h = value_told v (list_frame found) fs low g.0 refl (after_no_blank a) (after_no_colon c refl) (omega arith) in
      let k = blanks_go c n (list_frame (found ++ x ∷ [])) fs true (max low (length fs + 1 + height)) h.0 in
      let s = items_told i (found ++ x ∷ []) fs (max low (length fs + 1 + height)) false (omega arith) (omega arith) in
      shut_as (max_more low (length fs) height others) (ap (λ (ys : List Node). kept (length fs) n (listed n ys)) (append_assoc found (x ∷ []) xs)) (behind_steps (goes_on g.1 (goes_on h.1 (goes_on k.1 (by refl (omega arith) there)))) s)

  pair_told : {n height : ℕ} {bytes rest : List ℕ} {p : Pair} → IsPair n bytes p height rest → (found : List Pair) (fs : List Frame) (low : ℕ) (spaced : Bool) → is_spaced bytes ≡ false → sees 58 rest ≡ false → has_key found p.0 ≡ false
      → length fs + 1 + height ≤ 64 → (m : Machine) × Goes (at n (map_frame found None) fs false low spaced bytes) m × Ready n found fs (max low (length fs + 1 + height)) p rest m
  pair_told {n = n} (key_alone {k = k} {rest = rest} i) found fs low spaced no_blank no_colon new lt =
      let t = alone_told i n found fs low spaced no_blank no_colon new lt in
      (at n (map_frame (found ++ (k, n, null n) ∷ []) None) fs true (max low (length fs + 1 + 1)) t.0 rest, by t.1 t.2 there, is_held)
  pair_told {n = n} (no_value {k = k} {rest = rest} i ends) found fs low spaced no_blank no_colon new lt =
      let t = colon_told i n found fs low spaced rest no_blank refl ends new in
      (at n (map_frame found (Some k)) fs false low false rest, by t.0 t.1 there, waits k refl (raised_is low (length fs) lt))
  pair_told {n = n} (key_value {height = height} {k = k} {behind = behind} {value = value} {rest = rest} {x = x} i ends a v) found fs low spaced no_blank no_colon new lt =
      let t = colon_told i n found fs low spaced behind no_blank refl ends new in
      let g = blanks_go a n (map_frame found (Some k)) fs false low false in
      let h = value_told v (map_frame found (Some k)) fs low g.0 refl (after_no_blank a) no_colon lt in
      (at n (map_frame (found ++ (k, n, x) ∷ []) None) fs true (max low (length fs + 1 + height)) h.0 rest, by t.0 t.1 (goes_on g.1 h.1), is_held)

  pairs_told : {n height : ℕ} {bytes rest : List ℕ} {ps : List Pair} → IsPairs n bytes ps height rest → (found : List Pair) (fs : List Frame) (low : ℕ) (spaced : Bool) → length fs + 1 ≤ low → length fs + 1 + height ≤ 64 → Apart found ps
      → Shut (at n (map_frame found None) fs false low spaced bytes) n (max low (length fs + 1 + height)) rest (kept (length fs) n (mapped n (found ++ ps))) fs
  pairs_told {n = n} (no_pair {bytes = bytes} {rest = rest} a) found fs low spaced high lt apart =
      let g = blanks_go a n (map_frame found None) fs false low spaced in
      let same : low ≡ max low (length fs + 1 + 0) = omega arith in
      shut_as same (ap (λ (ys : List Pair). kept (length fs) n (mapped n ys)) (sym (append-nil found))) (shut g.1 (omega arith) (map_closes n found fs false low g.0 rest))
  pairs_told {n = n} (last_pair {height = height} {p = p} a i c) found fs low spaced high lt apart =
      let g = blanks_go a n (map_frame found None) fs false low spaced in
      let t = pair_told i found fs low g.0 (after_no_blank a) (after_no_colon c refl) (apart_new found [] p apart) lt in
      behind_steps (goes_on g.1 t.1) (ready_closes t.2 c)
  pairs_told {n = n} (more_pairs {height = height} {others = others} {p = p} {ps = ps} a i c r new) found fs low spaced high lt apart =
      let g = blanks_go a n (map_frame found None) fs false low spaced in
      let t = pair_told i found fs low g.0 (after_no_blank a) (after_no_colon c refl) (apart_new found ps p apart) (omega arith) in
      let s = pairs_told r (found ++ p ∷ []) fs (max low (length fs + 1 + height)) false (omega arith) (omega arith) (apart_next found ps p apart new) in
      shut_as (max_more low (length fs) height others) (ap (λ (ys : List Pair). kept (length fs) n (mapped n ys)) (append_assoc found (p ∷ []) ps)) (behind_steps (goes_on g.1 (goes_on t.1 (ready_comma t.2 c))) s)

pub flow_told : (n b : ℕ) (bytes : List ℕ) (x : Node) (height : ℕ) (rest : List ℕ) → IsFlow n (b ∷ bytes) x height rest → start b bytes ≡ starts.InBrackets → height ≤ 64
    → flow n (b == 123) bytes ≡ Ok (record { node = x; height = height; repeated = false; rest = rest })
unfolding flow
flow_told n b bytes x height rest (plain_is_flow s i) e lt = absurd (let q : starts.Plain ≡ starts.InBrackets = sym s ∙ e in cc)
flow_told n b bytes x height rest (quoted_is s i) e lt = absurd (let q : starts.InQuotes ≡ starts.InBrackets = sym s ∙ e in cc)
flow_told n b bytes x height rest (list_is {height = inner} {xs = xs} i) e lt = all_told n bytes rest (list_frame []) x inner (items_told i [] [] 1 false (omega arith) (omega arith))
flow_told n b bytes x height rest (map_is {height = inner} {ps = ps} i) e lt = all_told n bytes rest (map_frame [] None) x inner (pairs_told i [] [] 1 false (omega arith) (omega arith) (apart_none ps))
