-- Flow that is read is in its grammar without the two rules. It is as high as was counted, and where a key was repeated, one is.
use Rattle.std.proofs.Common.{◌≡◌, ℕ, zero, suc, ◌+◌, ◌<◌, ◌≤◌, Bool, true, false, cond, ◌||◌, ◌⊎◌, inl, inr, List, [], ◌∷◌, ◌++◌, length, take, drop, Option, Some, None, Ok, Err, refl, sym, ap, subst, ◌∙◌, arith}
use Rattle.std.specs.Prelude.{◌==◌, max}
use Rattle.std.proofs.lemmas.Bool.{eqb-true}
use Rattle.yaml_scan.specs.declared.fault.Code.{Code}
use Rattle.yaml_scan.specs.declared.fault.Code.TheVariants.{Structure, LeftOut}
use Rattle.yaml_scan.specs.Words.{is_blank, is_empty, is_some, has_colon, colon_at, trimmed}
use Rattle.yaml_scan.specs.Quoted.{State, opened, run as quoted_run}
use Rattle.yaml_tree.specs.declared.node.Node.{Node}
use Rattle.yaml_tree.specs.declared.flow.Frame.{Frame}
use Rattle.yaml_tree.specs.declared.starts.Start.TheVariants as starts
use Rattle.yaml_tree.specs.Nodes.{Pair, null, scalar_node, listed, mapped, has_key}
use Rattle.yaml_tree.specs.Starts.{start, left_out, no_plain, is_merge}
use Rattle.yaml_tree.specs.Brackets.{here, IsWord, ends_key, IsKey, plain_key as plain_key_is, quoted_key}
use Rattle.yaml_tree.specs.Flow.{Machine, Ended, Step, on, fails, held, wants_key, raised, kept, behind, keyed, alone, colon_behind, quoted_by, plain_key, plain_by, plain, scalar, step, ran, run, flow}
use Rattle.yaml_tree.proofs.LinesFound.{tested, and_true}
use Rattle.yaml_tree.proofs.BracketWords.{cut, Cut, whole, keyed as keyed_cut, word_found, next_of}
use Rattle.yaml_tree.proofs.OneLine.{inside_found}
use Rattle.yaml_tree.proofs.BracketSpots.{Spot, items, item_end, pairs, pair_end, value, frame_of, is_after}
use Rattle.yaml_tree.proofs.BracketSteps.{list_frame, map_frame, quote_is, begins_plain, cut_is, plain_is}
use Rattle.yaml_rules.specs.Notation.{Has, Repeats}
use Rattle.yaml_rules.specs.LooseFlow.{IsFlow, plain as plain_is_flow, quoted as quoted_is, list as list_is, map as map_is, no_item, key_alone, IsPairs, no_pair}
use Rattle.yaml_rules.proofs.LooseSteps.{at, shuts, scalar_step, comment_fails, list_opens, map_opens, list_closes, map_closes, key_closes, key_goes_on}
use Rattle.yaml_rules.proofs.LooseSpots.{first as first_item, later as later_item, inside, next, among_has, again_has, Says, says_as, says_more, says_key, items_stop, items_go_on, pairs_stop, pairs_go_on, no_more, a_value, item_more, pair_more, key_more, Content, blank_content}

-- ---- small facts

no_bad : (bad : Option ℕ) → is_some bad ≡ false → bad ≡ None
no_bad None e = refl
no_bad (Some x) e = absurd cc

colon_rest : (rest : List ℕ) → colon_behind rest ≡ true → (r : List ℕ) × (rest ≡ 58 ∷ r) × (ends_key r ≡ true)
colon_rest [] e = absurd cc
colon_rest (b ∷ r) e = let h = and_true (b == 58) (ends_key r) e in (r, ap (λ (c : ℕ). c ∷ r) (eqb-true b 58 h.0), h.1)

whole_word : {bytes w : List ℕ} → Cut false 0 bytes w None → IsWord false bytes w (drop (length w) bytes)
whole_word (whole i) = i

is_quote : (b : ℕ) (bytes : List ℕ) → (b == 34 || b == 39) ≡ true → start b bytes ≡ starts.InQuotes
is_quote b bytes h = rw h refl

module _ (n : ℕ) (e : Ended) where
  -- the bracket is closed, and the machine goes on with the outer ones
  pub data Closed (j : ℕ) (s : Spot) (fs : List Frame) (low : ℕ) (again : Bool) (bytes : List ℕ) : Type 0 where
    closed_by : (height high : ℕ) (then : Bool) (rest : List ℕ) (node : Node) (i : ℕ) → i < j → Content n s again then bytes height rest → high ≤ max low (length fs + 1 + height) → ran (shuts n high then rest node fs) (run i) ≡ Ok e
        → Closed j s fs low again bytes

  abbrev pub Reads : ℕ → Spot → List Frame → ℕ → Bool → List ℕ → Type 0
  Reads j s fs low again bytes = (spaced : Bool) → run j (at n (frame_of s) fs (is_after s) low again spaced bytes) ≡ Ok e → Closed j s fs low again bytes

  abbrev pub Before : ℕ → Type 0
  Before j = (i : ℕ) → i < j → (s : Spot) (fs : List Frame) (low : ℕ) (again : Bool) (bytes : List ℕ) → Reads i s fs low again bytes

  first : (k : ℕ) (m : Machine) (s : Step) → step m ≡ s → run (suc k) m ≡ Ok e → ran s (run k) ≡ Ok e
  unfolding run
  first k m s is q = ap (λ (x : Step). ran x (run k)) (sym is) ∙ q

  refuses : (k : ℕ) (m : Machine) (c : Code) → step m ≡ fails c → run (suc k) m ≡ Ok e → ⊥
  refuses k m c is q = let z : Err c ≡ Ok e = first k m (fails c) is q in cc

  -- ---- values

  -- a value is read, which the machine holds perhaps as another node
  pub data Value (j : ℕ) (f : Frame) (fs : List Frame) (low : ℕ) (again : Bool) (bytes : List ℕ) : Type 0 where
    value_by : (height high : ℕ) (then : Bool) (rest : List ℕ) (x y : Node) (spaced : Bool) (i : ℕ) → i < j → IsFlow n bytes x height rest → high ≤ max low (length fs + 1 + height) → Says again then (Has (Repeats n) x)
        → run i (at n (held f n y) fs true high then spaced rest) ≡ Ok e → Value j f fs low again bytes

  -- what stands in a bracket, as a node
  abbrev Wraps : Spot → ℕ → List ℕ → Type 0
  Wraps s b r = (again then : Bool) (height : ℕ) (rest : List ℕ) → Content n s again then r height rest → (x : Node) × IsFlow n (b ∷ r) x (suc height) rest × Says again then (Has (Repeats n) x)

  list_wraps : (r : List ℕ) → Wraps (items []) 91 r
  list_wraps r again then height rest c = (listed n c.0, list_is c.1, says_as (among_has n n [] c.0) c.2)

  map_wraps : (r : List ℕ) → Wraps (pairs []) 123 r
  map_wraps r again then height rest c = (mapped n c.0, map_is c.1, says_as (again_has n n [] [] c.0 (λ k e. absurd cc)) c.2)

  bracket_found : (k : ℕ) → Before (suc k) → (s : Spot) (f : Frame) (fs : List Frame) (low : ℕ) (again : Bool) (b : ℕ) (r : List ℕ) → Wraps s b r → run k (at n (frame_of s) (f ∷ fs) (is_after s) (raised low (length fs)) again false r) ≡ Ok e
      → Value (suc k) f fs low again (b ∷ r)
  bracket_found k before s f fs low again b r wraps q = around (before k (omega arith) s (f ∷ fs) (raised low (length fs)) again r false q)
    where
      around : Closed k s (f ∷ fs) (raised low (length fs)) again r → Value (suc k) f fs low again (b ∷ r)
      around (closed_by height high then rest node i lt c le q') =
          let w = wraps again then height rest c in
          value_by (suc height) high then rest w.0 node false i (omega arith) w.1 (omega arith) w.2 q'

  held_by : (k : ℕ) (f : Frame) (fs : List Frame) (low : ℕ) (again : Bool) (b : ℕ) (r rest : List ℕ) (x : Node) (spaced : Bool) → IsFlow n (b ∷ r) x 1 rest → run k (at n (held f n x) fs true (raised low (length fs)) again spaced rest) ≡ Ok e
      → Value (suc k) f fs low again (b ∷ r)
  held_by k f fs low again b r rest x spaced i q = value_by 1 (raised low (length fs)) again rest x x spaced k (omega arith) i (omega arith) (λ h. inl h) q

  quoted_value : (k : ℕ) (f : Frame) (fs : List Frame) (low : ℕ) (again : Bool) (b : ℕ) (r : List ℕ) (s : State) (o : Option (List ℕ)) → wants_key f ≡ false → (b == 34 || b == 39) ≡ true → quoted_run (opened b n) r ≡ (s, o)
      → ran (quoted_by (at n f fs false low again (b == 32) r) s o) (run k) ≡ Ok e → Value (suc k) f fs low again (b ∷ r)
  quoted_value k f fs low again b r s None wants h is q = absurd cc
  quoted_value k f fs low again b r s (Some rest) wants h is q =
      elim (tested (is_some s.bad)) [
        | inl x ↦ absurd (let z : Err Structure ≡ Ok e = rw x at q in cc)
        | inr x ↦
            let q' : run k (at n (held f n (scalar_node n s.text false)) fs true (raised low (length fs)) again false rest) ≡ Ok e = rw (x, wants) at q in
            held_by k f fs low again b r rest (scalar_node n s.text false) false (quoted_is (is_quote b r h) (inside_found b (quote_is b r (is_quote b r h)) r rest n s is (no_bad s.bad x))) q'
      ]

  plain_value : (k : ℕ) (f : Frame) (fs : List Frame) (low : ℕ) (again : Bool) (b : ℕ) (r : List ℕ) → wants_key f ≡ false → is_blank b ≡ false → start b r ≡ starts.Plain → ran (plain (at n f fs false low again (b == 32) r) b) (run k) ≡ Ok e
      → Value (suc k) f fs low again (b ∷ r)
  plain_value k f fs low again b r wants no_blank s q =
      let q1 : ran (plain_by (at n f fs false low again (b == 32) r) (b ∷ cut false r) (length (cut false r))) (run k) ≡ Ok e = ap (λ (x : Step). ran x (run k)) (sym (plain_is (at n f fs false low again (b == 32) r) b)) ∙ q in
      elim (tested (has_colon (b ∷ cut false r))) [
        | inl x ↦ absurd (let z : Err Structure ≡ Ok e = rw (wants, x) at q1 in cc)
        | inr x ↦
            let q2 : run k (at n (held f n (scalar_node n (trimmed (b ∷ cut false r)) true)) fs true (raised low (length fs)) again true (drop (length (cut false r)) r)) ≡ Ok e = rw (wants, x) at q1 in
            let cuts = cut_is b r no_blank s in
            let c : Cut false 0 (b ∷ r) (b ∷ cut false r) None = subst (λ (w : List ℕ). Cut false 0 (b ∷ r) w None) cuts (word_found (b ∷ r) false 0 None (ap (colon_at false 0) cuts ∙ no_bad (colon_at false 0 (b ∷ cut false r)) x)) in
            held_by k f fs low again b r (drop (length (cut false r)) r) (scalar_node n (trimmed (b ∷ cut false r)) true) true (plain_is_flow s (whole_word c)) q2
      ]

  scalar_value : (k : ℕ) (f : Frame) (fs : List Frame) (low : ℕ) (again : Bool) (b : ℕ) (r : List ℕ) → wants_key f ≡ false → is_blank b ≡ false → ran (scalar (at n f fs false low again (b == 32) r) b) (run k) ≡ Ok e → Value (suc k) f fs low again (b ∷ r)
  scalar_value k f fs low again b r wants no_blank q =
      elim (tested (b == 34 || b == 39)) [
        | inl h ↦ quoted_value k f fs low again b r (quoted_run (opened b n) r).0 (quoted_run (opened b n) r).1 wants h refl (rw h at q)
        | inr h ↦ elim (tested (left_out b r)) [
          | inl i ↦ absurd (let z : Err LeftOut ≡ Ok e = rw (h, i) at q in cc)
          | inr i ↦ elim (tested (no_plain b r)) [
            | inl j ↦ absurd (let z : Err Structure ≡ Ok e = rw (h, i, j) at q in cc)
            | inr j ↦ plain_value k f fs low again b r wants no_blank (begins_plain b r h i j) (rw (h, i, j) at q)
          ]
        ]
      ]

  pub value_found : (k : ℕ) → Before (suc k) → (f : Frame) (fs : List Frame) (low : ℕ) (again : Bool) (b : ℕ) (spaced : Bool) (r : List ℕ) → wants_key f ≡ false → is_blank b ≡ false → (b == 35) ≡ false → (b == 44) ≡ false → (b == 125) ≡ false
      → (b == 93) ≡ false → run (suc k) (at n f fs false low again spaced (b ∷ r)) ≡ Ok e → Value (suc k) f fs low again (b ∷ r)
  value_found k before f fs low again b spaced r wants no_blank no_comment no_comma no_brace no_bracket q =
      elim (tested (b == 91)) [
        | inl h ↦
            let is : b ≡ 91 = eqb-true b 91 h in
            subst (λ (c : ℕ). Value (suc k) f fs low again (c ∷ r)) (sym is)
            (bracket_found k before (items []) f fs low again 91 r (list_wraps r)
            (first k (at n f fs false low again spaced (91 ∷ r)) (on (at n (list_frame []) (f ∷ fs) false (raised low (length fs)) again false r)) (list_opens n f fs low again spaced r wants) (subst (λ (c : ℕ). run (suc k) (at n f fs false low again spaced (c ∷ r)) ≡ Ok e) is q)))
        | inr h ↦ elim (tested (b == 123)) [
          | inl i ↦
              let is : b ≡ 123 = eqb-true b 123 i in
              subst (λ (c : ℕ). Value (suc k) f fs low again (c ∷ r)) (sym is)
              (bracket_found k before (pairs []) f fs low again 123 r (map_wraps r)
              (first k (at n f fs false low again spaced (123 ∷ r)) (on (at n (map_frame [] None) (f ∷ fs) false (raised low (length fs)) again false r)) (map_opens n f fs low again spaced r wants) (subst (λ (c : ℕ). run (suc k) (at n f fs false low again spaced (c ∷ r)) ≡ Ok e) is q)))
          | inr i ↦
              let no_open : (b == 91 || b == 123) ≡ false = rw (h, i) refl in
              scalar_value k f fs low again b r wants no_blank
              (first k (at n f fs false low again spaced (b ∷ r)) (scalar (at n f fs false low again (b == 32) r) b) (scalar_step n f fs low again b spaced r no_blank no_comment no_comma no_brace no_bracket no_open) q)
        ]
      ]

  -- ---- keys

  pub data Keyed (j : ℕ) (ps : List Pair) (fs : List Frame) (low : ℕ) (again : Bool) (bytes : List ℕ) : Type 0 where
    lone : (k rest : List ℕ) (spaced : Bool) (i : ℕ) → i < j → IsKey bytes k rest → run i (at n (map_frame (ps ++ (k, n, null n) ∷ []) None) fs true (raised low (length fs)) (again || has_key ps k) spaced rest) ≡ Ok e → Keyed j ps fs low again bytes
    waits : (k r : List ℕ) (i : ℕ) → i < j → IsKey bytes k (58 ∷ r) → ends_key r ≡ true → run i (at n (map_frame ps (Some k)) fs false low (again || has_key ps k) false r) ≡ Ok e → Keyed j ps fs low again bytes

  lone_found : (k : ℕ) (ps : List Pair) (fs : List Frame) (low : ℕ) (again spaced : Bool) (bytes key rest : List ℕ) → (is_empty key ≡ false → IsKey bytes key rest) → ran (alone (at n (map_frame ps None) fs false low again spaced rest) key) (run k) ≡ Ok e
      → Keyed (suc k) ps fs low again bytes
  lone_found k ps fs low again spaced bytes key rest is q = elim (tested (is_empty key)) [
    | inl h ↦ absurd (let z : Err Structure ≡ Ok e = rw h at q in cc)
    | inr h ↦ lone key rest spaced k (omega arith) (is h) (rw h at q)
  ]

  waits_found : (k : ℕ) (ps : List Pair) (fs : List Frame) (low : ℕ) (again : Bool) (bytes key r : List ℕ) → ends_key r ≡ true → (is_empty key ≡ false → IsKey bytes key (58 ∷ r)) → ran (keyed (at n (map_frame ps None) fs false low again false r) key) (run k) ≡ Ok e
      → Keyed (suc k) ps fs low again bytes
  waits_found k ps fs low again bytes key r ends is q = elim (tested (is_empty key)) [
    | inl h ↦ absurd (let z : Err Structure ≡ Ok e = rw h at q in cc)
    | inr h ↦ waits key r k (omega arith) (is h) ends (rw h at q)
  ]

  quoted_keyed : (k : ℕ) (ps : List Pair) (fs : List Frame) (low : ℕ) (again : Bool) (b : ℕ) (r : List ℕ) (s : State) (o : Option (List ℕ)) → (b == 34 || b == 39) ≡ true → quoted_run (opened b n) r ≡ (s, o)
      → ran (quoted_by (at n (map_frame ps None) fs false low again (b == 32) r) s o) (run k) ≡ Ok e → Keyed (suc k) ps fs low again (b ∷ r)
  quoted_keyed k ps fs low again b r s None h is q = absurd cc
  quoted_keyed k ps fs low again b r s (Some rest) h is q =
      elim (tested (is_some s.bad)) [
        | inl x ↦ absurd (let z : Err Structure ≡ Ok e = rw x at q in cc)
        | inr x ↦
            let key : is_empty s.text ≡ false → IsKey (b ∷ r) s.text rest = λ some. quoted_key (is_quote b r h) (inside_found b (quote_is b r (is_quote b r h)) r rest n s is (no_bad s.bad x)) some in
            elim (tested (colon_behind rest)) [
              | inr c ↦ lone_found k ps fs low again false (b ∷ r) s.text rest key (rw (x, c) at q)
              | inl c ↦
                  let p = colon_rest rest c in
                  let q1 : ran (keyed (at n (map_frame ps None) fs false low again false (drop 1 rest)) s.text) (run k) ≡ Ok e = rw (x, c) at q in
                  waits_found k ps fs low again (b ∷ r) s.text p.0 p.2 (λ some. subst (λ (y : List ℕ). IsKey (b ∷ r) s.text y) p.1 (key some))
                  (subst (λ (y : List ℕ). ran (keyed (at n (map_frame ps None) fs false low again false y) s.text) (run k) ≡ Ok e) (ap (drop 1) p.1) q1)
            ]
      ]

  plain_keyed : (k : ℕ) (ps : List Pair) (fs : List Frame) (low : ℕ) (again : Bool) (b : ℕ) (r w : List ℕ) (count : ℕ) (c : Option ℕ) → start b r ≡ starts.Plain → Cut false 0 (b ∷ r) w c → drop (length w) (b ∷ r) ≡ drop count r
      → ran (plain_key (at n (map_frame ps None) fs false low again (b == 32) r) w count c) (run k) ≡ Ok e → Keyed (suc k) ps fs low again (b ∷ r)
  plain_keyed k ps fs low again b r w count None s (whole i) left q =
      elim (tested (is_merge (trimmed w))) [
        | inl h ↦ absurd (let z : Err LeftOut ≡ Ok e = rw h at q in cc)
        | inr h ↦ lone_found k ps fs low again true (b ∷ r) (trimmed w) (drop count r) (λ some. subst (λ (x : List ℕ). IsKey (b ∷ r) (trimmed w) x) left (plain_key_is s i h some)) (rw h at q)
      ]
  plain_keyed k ps fs low again b r w count (Some p) s (keyed_cut {r = r'} j i d ends is) left q =
      let same : p ≡ j = omega (arith, is) in
      elim (tested (is_merge (trimmed (take p w)))) [
        | inl h ↦ absurd (let z : Err LeftOut ≡ Ok e = rw h at q in cc)
        | inr h ↦
            let q1 : ran (keyed (at n (map_frame ps None) fs false low again false (drop p r)) (trimmed (take p w))) (run k) ≡ Ok e = rw h at q in
            let i' : IsWord false (b ∷ r) (take p w) (58 ∷ r') = subst (λ (x : ℕ). IsWord false (b ∷ r) (take x w) (58 ∷ r')) (sym same) i in
            let left_is : drop p r ≡ r' = next_of p b r r' (ap (λ (x : ℕ). drop x (b ∷ r)) same ∙ d) in
            waits_found k ps fs low again (b ∷ r) (trimmed (take p w)) r' ends (λ some. plain_key_is s i' h some) (subst (λ (x : List ℕ). ran (keyed (at n (map_frame ps None) fs false low again false x) (trimmed (take p w))) (run k) ≡ Ok e) left_is q1)
      ]

  scalar_keyed : (k : ℕ) (ps : List Pair) (fs : List Frame) (low : ℕ) (again : Bool) (b : ℕ) (r : List ℕ) → is_blank b ≡ false → ran (scalar (at n (map_frame ps None) fs false low again (b == 32) r) b) (run k) ≡ Ok e → Keyed (suc k) ps fs low again (b ∷ r)
  scalar_keyed k ps fs low again b r no_blank q =
      elim (tested (b == 34 || b == 39)) [
        | inl h ↦ quoted_keyed k ps fs low again b r (quoted_run (opened b n) r).0 (quoted_run (opened b n) r).1 h refl (rw h at q)
        | inr h ↦ elim (tested (left_out b r)) [
          | inl i ↦ absurd (let z : Err LeftOut ≡ Ok e = rw (h, i) at q in cc)
          | inr i ↦ elim (tested (no_plain b r)) [
            | inl j ↦ absurd (let z : Err Structure ≡ Ok e = rw (h, i, j) at q in cc)
            | inr j ↦
                let s = begins_plain b r h i j in
                let q1 : ran (plain (at n (map_frame ps None) fs false low again (b == 32) r) b) (run k) ≡ Ok e = rw (h, i, j) at q in
                let q2 : ran (plain_key (at n (map_frame ps None) fs false low again (b == 32) r) (b ∷ cut false r) (length (cut false r)) (colon_at false 0 (b ∷ cut false r))) (run k) ≡ Ok e =
                ap (λ (x : Step). ran x (run k)) (sym (plain_is (at n (map_frame ps None) fs false low again (b == 32) r) b)) ∙ q1 in
                let cuts = cut_is b r no_blank s in
                let c : Cut false 0 (b ∷ r) (b ∷ cut false r) (colon_at false 0 (b ∷ cut false r)) = subst (λ (w : List ℕ). Cut false 0 (b ∷ r) w (colon_at false 0 w)) cuts (word_found (b ∷ r) false 0 (colon_at false 0 (cut false (b ∷ r))) refl) in
                plain_keyed k ps fs low again b r (b ∷ cut false r) (length (cut false r)) (colon_at false 0 (b ∷ cut false r)) s c refl q2
          ]
        ]
      ]

  -- ---- what comes next

  abbrev pub Spotted : ℕ → Spot → List Frame → ℕ → Bool → ℕ → List ℕ → Type 0
  Spotted k s fs low again b r = (spaced : Bool) → run (suc k) (at n (frame_of s) fs (is_after s) low again spaced (b ∷ r)) ≡ Ok e → Closed (suc k) s fs low again (b ∷ r)

  -- this byte comes next
  next_is : (k : ℕ) (s : Spot) (fs : List Frame) (low : ℕ) (again : Bool) (b c : ℕ) (r : List ℕ) → (b == c) ≡ true → Spotted k s fs low again c r → Spotted k s fs low again b r
  next_is k s fs low again b c r h here' = subst (λ (x : ℕ). Spotted k s fs low again x r) (sym (eqb-true b c h)) here'

  never : (k : ℕ) (s : Spot) (fs : List Frame) (low : ℕ) (again : Bool) (b : ℕ) (r : List ℕ) (c : Code) → ((spaced : Bool) → step (at n (frame_of s) fs (is_after s) low again spaced (b ∷ r)) ≡ fails c) → Spotted k s fs low again b r
  never k s fs low again b r c is spaced q = absurd (refuses k (at n (frame_of s) fs (is_after s) low again spaced (b ∷ r)) c (is spaced) q)

  list_ends : (k : ℕ) (found : List Node) (fs : List Frame) (low : ℕ) (again : Bool) (r : List ℕ) (after spaced : Bool) → run (suc k) (at n (list_frame found) fs after low again spaced (93 ∷ r)) ≡ Ok e
      → ran (shuts n low again r (kept (length fs) n (listed n found)) fs) (run k) ≡ Ok e
  list_ends k found fs low again r after spaced q = first k (at n (list_frame found) fs after low again spaced (93 ∷ r)) (shuts n low again r (kept (length fs) n (listed n found)) fs) (list_closes n found fs after low again spaced r) q

  map_ends : (k : ℕ) (found : List Pair) (fs : List Frame) (low : ℕ) (again : Bool) (r : List ℕ) (after spaced : Bool) → run (suc k) (at n (map_frame found None) fs after low again spaced (125 ∷ r)) ≡ Ok e
      → ran (shuts n low again r (kept (length fs) n (mapped n found)) fs) (run k) ≡ Ok e
  map_ends k found fs low again r after spaced q = first k (at n (map_frame found None) fs after low again spaced (125 ∷ r)) (shuts n low again r (kept (length fs) n (mapped n found)) fs) (map_closes n found fs after low again spaced r) q

  -- ---- lists

  an_item : (k : ℕ) → Before (suc k) → (found : List Node) (fs : List Frame) (low : ℕ) (again : Bool) (b : ℕ) (r : List ℕ) → is_blank b ≡ false → Value (suc k) (list_frame found) fs low again (b ∷ r) → Closed (suc k) (items found) fs low again (b ∷ r)
  an_item k before found fs low again b r no_blank (value_by own high then behind x y spaced i lt v le says q) = goes (before i lt (item_end (found ++ y ∷ [])) fs high then behind spaced q)
    where
      goes : Closed i (item_end (found ++ y ∷ [])) fs high then behind → Closed (suc k) (items found) fs low again (b ∷ r)
      goes (closed_by others top last rest node i' lt' c le' q') = closed_by (max own others) top last rest node i' (omega arith) (x ∷ c.0, item_more (here no_blank) v c.1, says_more first_item later_item says c.2) (omega arith) q'

  items_found : (k : ℕ) → Before (suc k) → (found : List Node) (fs : List Frame) (low : ℕ) (again : Bool) (b : ℕ) (r : List ℕ) → is_blank b ≡ false → (b == 35) ≡ false → Spotted k (items found) fs low again b r
  items_found k before found fs low again b r no_blank no_comment spaced q =
      elim (tested (b == 93)) [
        | inl h ↦
            next_is k (items found) fs low again b 93 r h
            (λ spaced q. closed_by 0 low again r (kept (length fs) n (listed n found)) k (omega arith) ([], no_item (here refl), λ t. inl t) (omega arith) (list_ends k found fs low again r false spaced q)) spaced q
        | inr h ↦ elim (tested (b == 44)) [
          | inl i ↦ next_is k (items found) fs low again b 44 r i (never k (items found) fs low again 44 r Structure (λ spaced. refl)) spaced q
          | inr i ↦ elim (tested (b == 125)) [
            | inl j ↦ next_is k (items found) fs low again b 125 r j (never k (items found) fs low again 125 r Structure (λ spaced. refl)) spaced q
            | inr j ↦ an_item k before found fs low again b r no_blank (value_found k before (list_frame found) fs low again b spaced r refl no_blank no_comment i j h q)
          ]
        ]
      ]

  item_end_found : (k : ℕ) → Before (suc k) → (found : List Node) (fs : List Frame) (low : ℕ) (again : Bool) (b : ℕ) (r : List ℕ) → is_blank b ≡ false → (b == 35) ≡ false → Spotted k (item_end found) fs low again b r
  item_end_found k before found fs low again b r no_blank no_comment spaced q =
      elim (tested (b == 93)) [
        | inl h ↦
            next_is k (item_end found) fs low again b 93 r h
            (λ spaced q. closed_by 0 low again r (kept (length fs) n (listed n found)) k (omega arith) ([], items_stop (here refl), λ t. inl t) (omega arith) (list_ends k found fs low again r true spaced q)) spaced q
        | inr h ↦ elim (tested (b == 44)) [
          | inl i ↦
              next_is k (item_end found) fs low again b 44 r i
              (λ spaced q. goes (before k (omega arith) (items found) fs low again r false (first k (at n (list_frame found) fs true low again spaced (44 ∷ r)) (on (at n (list_frame found) fs false low again false r)) refl q))) spaced q
          | inr i ↦ never k (item_end found) fs low again b r Structure (λ spaced. rw (no_blank, no_comment, i, h) refl) spaced q
        ]
      ]
    where
      goes : Closed k (items found) fs low again r → Closed (suc k) (item_end found) fs low again (44 ∷ r)
      goes (closed_by height high then rest node i lt c le q') = closed_by height high then rest node i (omega arith) (c.0, items_go_on (here refl) c.1, c.2) le q'

  -- ---- maps

  one_pair : (k : ℕ) → Before (suc k) → (found : List Pair) (fs : List Frame) (low : ℕ) (again : Bool) (b : ℕ) (r : List ℕ) → is_blank b ≡ false → Keyed (suc k) found fs low again (b ∷ r) → Closed (suc k) (pairs found) fs low again (b ∷ r)
  one_pair k before found fs low again b r no_blank (lone key behind spaced i lt is q) = goes (before i lt (pair_end (found ++ (key, n, null n) ∷ [])) fs (raised low (length fs)) (again || has_key found key) behind spaced q)
    where
      goes : Closed i (pair_end (found ++ (key, n, null n) ∷ [])) fs (raised low (length fs)) (again || has_key found key) behind → Closed (suc k) (pairs found) fs low again (b ∷ r)
      goes (closed_by others high then rest node i' lt' c le q') =
          closed_by (max 1 others) high then rest node i' (omega arith)
          ((key, n, null n) ∷ c.0, pair_more (here no_blank) (key_alone is) c.1, says_key n found c.0 key (null n) again then (says_as (next (null n)) c.2)) (omega arith) q'
  one_pair k before found fs low again b r no_blank (waits key r' i lt is ends q) = goes (before i lt (value found key) fs low (again || has_key found key) r' false q)
    where
      goes : Closed i (value found key) fs low (again || has_key found key) r' → Closed (suc k) (pairs found) fs low again (b ∷ r)
      goes (closed_by height high then rest node i' lt' c le q') =
          let p : Pair = (key, n, c.0) in
          let whole_pairs : IsPairs n (b ∷ r) (p ∷ c.1) (max c.2 c.3) rest = pair_more (here no_blank) (key_more is ends c.5) c.6 in
          closed_by height high then rest node i' (omega arith)
          (p ∷ c.1, subst (λ (h : ℕ). IsPairs n (b ∷ r) (p ∷ c.1) h rest) (sym c.7) whole_pairs, says_key n found c.1 key c.0 again then c.8) le q'

  pairs_found : (k : ℕ) → Before (suc k) → (found : List Pair) (fs : List Frame) (low : ℕ) (again : Bool) (b : ℕ) (r : List ℕ) → is_blank b ≡ false → (b == 35) ≡ false → Spotted k (pairs found) fs low again b r
  pairs_found k before found fs low again b r no_blank no_comment spaced q =
      elim (tested (b == 125)) [
        | inl h ↦
            next_is k (pairs found) fs low again b 125 r h
            (λ spaced q. closed_by 0 low again r (kept (length fs) n (mapped n found)) k (omega arith) ([], no_pair (here refl), λ t. inl t) (omega arith) (map_ends k found fs low again r false spaced q)) spaced q
        | inr h ↦ elim (tested (b == 44)) [
          | inl i ↦ next_is k (pairs found) fs low again b 44 r i (never k (pairs found) fs low again 44 r Structure (λ spaced. refl)) spaced q
          | inr i ↦ elim (tested (b == 93)) [
            | inl j ↦ next_is k (pairs found) fs low again b 93 r j (never k (pairs found) fs low again 93 r Structure (λ spaced. refl)) spaced q
            | inr j ↦ elim (tested (b == 91)) [
              | inl l ↦ next_is k (pairs found) fs low again b 91 r l (never k (pairs found) fs low again 91 r Structure (λ spaced. refl)) spaced q
              | inr l ↦ elim (tested (b == 123)) [
                | inl o ↦ next_is k (pairs found) fs low again b 123 r o (never k (pairs found) fs low again 123 r Structure (λ spaced. refl)) spaced q
                | inr o ↦
                    let no_open : (b == 91 || b == 123) ≡ false = rw (l, o) refl in
                    one_pair k before found fs low again b r no_blank
                    (scalar_keyed k found fs low again b r no_blank
                    (first k (at n (map_frame found None) fs false low again spaced (b ∷ r)) (scalar (at n (map_frame found None) fs false low again (b == 32) r) b)
                    (scalar_step n (map_frame found None) fs low again b spaced r no_blank no_comment i h j no_open) q))
              ]
            ]
          ]
        ]
      ]

  pair_end_found : (k : ℕ) → Before (suc k) → (found : List Pair) (fs : List Frame) (low : ℕ) (again : Bool) (b : ℕ) (r : List ℕ) → is_blank b ≡ false → (b == 35) ≡ false → Spotted k (pair_end found) fs low again b r
  pair_end_found k before found fs low again b r no_blank no_comment spaced q =
      elim (tested (b == 125)) [
        | inl h ↦
            next_is k (pair_end found) fs low again b 125 r h
            (λ spaced q. closed_by 0 low again r (kept (length fs) n (mapped n found)) k (omega arith) ([], pairs_stop (here refl), λ t. inl t) (omega arith) (map_ends k found fs low again r true spaced q)) spaced q
        | inr h ↦ elim (tested (b == 44)) [
          | inl i ↦
              next_is k (pair_end found) fs low again b 44 r i
              (λ spaced q. goes (before k (omega arith) (pairs found) fs low again r false (first k (at n (map_frame found None) fs true low again spaced (44 ∷ r)) (on (at n (map_frame found None) fs false low again false r)) refl q))) spaced q
          | inr i ↦ never k (pair_end found) fs low again b r Structure (λ spaced. rw (no_blank, no_comment, i, h) refl) spaced q
        ]
      ]
    where
      goes : Closed k (pairs found) fs low again r → Closed (suc k) (pair_end found) fs low again (44 ∷ r)
      goes (closed_by height high then rest node i lt c le q') = closed_by height high then rest node i (omega arith) (c.0, pairs_go_on (here refl) c.1, c.2) le q'

  its_value : (k : ℕ) → Before (suc k) → (found : List Pair) (key : List ℕ) (fs : List Frame) (low : ℕ) (again : Bool) (b : ℕ) (r : List ℕ) → is_blank b ≡ false → Value (suc k) (map_frame found (Some key)) fs low again (b ∷ r) → Closed (suc k) (value found key) fs low again (b ∷ r)
  its_value k before found key fs low again b r no_blank (value_by own high then behind x y spaced i lt v le says q) = goes (before i lt (pair_end (found ++ (key, n, y) ∷ [])) fs high then behind spaced q)
    where
      goes : Closed i (pair_end (found ++ (key, n, y) ∷ [])) fs high then behind → Closed (suc k) (value found key) fs low again (b ∷ r)
      goes (closed_by others top last rest node i' lt' c le' q') = closed_by (max own others) top last rest node i' (omega arith) (x, c.0, own, others, behind, a_value (here no_blank) v, c.1, refl, says_more inside (next y) says c.2) (omega arith) q'

  value_spotted : (k : ℕ) → Before (suc k) → (found : List Pair) (key : List ℕ) (fs : List Frame) (low : ℕ) (again : Bool) (b : ℕ) (r : List ℕ) → is_blank b ≡ false → (b == 35) ≡ false → Spotted k (value found key) fs low again b r
  value_spotted k before found key fs low again b r no_blank no_comment spaced q =
      elim (tested (b == 125)) [
        | inl h ↦ next_is k (value found key) fs low again b 125 r h closes spaced q
        | inr h ↦ elim (tested (b == 44)) [
          | inl i ↦ next_is k (value found key) fs low again b 44 r i comma spaced q
          | inr i ↦ elim (tested (b == 93)) [
            | inl j ↦ next_is k (value found key) fs low again b 93 r j (never k (value found key) fs low again 93 r Structure (λ spaced. refl)) spaced q
            | inr j ↦ its_value k before found key fs low again b r no_blank (value_found k before (map_frame found (Some key)) fs low again b spaced r refl no_blank no_comment i h j q)
          ]
        ]
      ]
    where
      closes : Spotted k (value found key) fs low again 125 r
      closes spaced q =
          let q1 = first k (at n (map_frame found (Some key)) fs false low again spaced (125 ∷ r)) (shuts n (raised low (length fs)) again r (kept (length fs) n (mapped n (found ++ (key, n, null n) ∷ []))) fs) (key_closes n found key fs low again spaced r) q in
          closed_by 1 (raised low (length fs)) again r (kept (length fs) n (mapped n (found ++ (key, n, null n) ∷ []))) k (omega arith) (null n, [], 1, 0, 125 ∷ r, no_more, pairs_stop (here refl), omega arith, λ t. inl t) (omega arith) q1

      goes : Closed k (pairs (found ++ (key, n, null n) ∷ [])) fs (raised low (length fs)) again r → Closed (suc k) (value found key) fs low again (44 ∷ r)
      goes (closed_by others high then rest node i lt c le q') =
          closed_by (max 1 others) high then rest node i (omega arith) (null n, c.0, 1, others, 44 ∷ r, no_more, pairs_go_on (here refl) c.1, refl, says_as (next (null n)) c.2) (omega arith) q'

      comma : Spotted k (value found key) fs low again 44 r
      comma spaced q =
          let m : Machine = at n (map_frame (found ++ (key, n, null n) ∷ []) None) fs false (raised low (length fs)) again false r in
          let q1 = first k (at n (map_frame found (Some key)) fs false low again spaced (44 ∷ r)) (on m) (key_goes_on n found key fs low again spaced r) q in
          goes (before k (omega arith) (pairs (found ++ (key, n, null n) ∷ [])) fs (raised low (length fs)) again r false q1)

  -- ---- all

  spotted : (k : ℕ) → Before (suc k) → (s : Spot) (fs : List Frame) (low : ℕ) (again : Bool) (b : ℕ) (r : List ℕ) → is_blank b ≡ false → (b == 35) ≡ false → Spotted k s fs low again b r
  spotted k before (items found) = items_found k before found
  spotted k before (item_end found) = item_end_found k before found
  spotted k before (pairs found) = pairs_found k before found
  spotted k before (pair_end found) = pair_end_found k before found
  spotted k before (value found key) = value_spotted k before found key

  blank_before : (k : ℕ) (s : Spot) (fs : List Frame) (low : ℕ) (again : Bool) (b : ℕ) (r : List ℕ) → is_blank b ≡ true → Closed k s fs low again r → Closed (suc k) s fs low again (b ∷ r)
  blank_before k s fs low again b r h (closed_by height high then rest node i lt c le q) = closed_by height high then rest node i (omega arith) (blank_content n b s again then r height rest h c) le q

  one_step : (k : ℕ) → Before k → (s : Spot) (fs : List Frame) (low : ℕ) (again : Bool) (bytes : List ℕ) → Reads k s fs low again bytes
  unfolding run
  one_step zero before s fs low again bytes spaced q = absurd cc
  one_step (suc k) before s fs low again [] spaced q = absurd cc
  one_step (suc k) before s fs low again (b ∷ r) spaced q =
      elim (tested (is_blank b)) [
        | inl h ↦ blank_before k s fs low again b r h (before k (omega arith) s fs low again r (b == 32) (rw h at q))
        | inr h ↦ elim (tested (b == 35)) [
          | inl i ↦
              let is : b ≡ 35 = eqb-true b 35 i in
              let f = comment_fails n (frame_of s) fs (is_after s) low again spaced r in
              absurd (refuses k (at n (frame_of s) fs (is_after s) low again spaced (35 ∷ r)) f.0 f.1 (subst (λ (c : ℕ). run (suc k) (at n (frame_of s) fs (is_after s) low again spaced (c ∷ r)) ≡ Ok e) is q))
          | inr i ↦ spotted k before s fs low again b r h i spaced q
        ]
      ]

  all_steps : (k : ℕ) → Before k
  all_steps zero i lt = absurd (omega arith)
  all_steps (suc k) i lt = one_step i (λ j lt'. all_steps k j (omega arith))

  pub steps_found : (k : ℕ) (s : Spot) (fs : List Frame) (low : ℕ) (again : Bool) (bytes : List ℕ) → Reads k s fs low again bytes
  steps_found k = all_steps (suc k) k (omega arith)

-- ---- flow

bracket_is : (b : ℕ) (bytes : List ℕ) → start b bytes ≡ starts.InBrackets → (b ≡ 91) ⊎ (b ≡ 123)
bracket_is b bytes e =
    elim (tested (b == 34 || b == 39)) [
      | inl h ↦ absurd (let q : starts.InQuotes ≡ starts.InBrackets = rw h at e in cc)
      | inr h ↦ elim (tested (b == 91 || b == 123)) [
        | inl i ↦ which i
        | inr i ↦ elim (tested (b == 124 || b == 62)) [
          | inl k ↦ absurd (let q : starts.InLines ≡ starts.InBrackets = rw (h, i, k) at e in cc)
          | inr k ↦ absurd (last_two (left_out b bytes) (no_plain b bytes) (rw (h, i, k) at e))
        ]
      ]
    ]
  where
    which : (b == 91 || b == 123) ≡ true → (b ≡ 91) ⊎ (b ≡ 123)
    which h = elim (tested (b == 91)) [
      | inl p ↦ inl (eqb-true b 91 p)
      | inr p ↦ inr (eqb-true b 123 (rw p at h))
    ]

    last_two : (x y : Bool) → cond x starts.LeftOut (cond y starts.Refused starts.Plain) ≡ starts.InBrackets → ⊥
    last_two true y q = cc
    last_two false true q = cc
    last_two false false q = cc

-- what was read is a node in the grammar without the two rules
pub record IsLoose (n : ℕ) (bytes : List ℕ) (e : Ended) : Type 0 where
  pub node : Node
  pub height : ℕ
  pub is_flow : IsFlow n bytes node height e.rest
  pub high : e.height ≤ height
  pub repeats : e.repeated ≡ true → Has (Repeats n) node

whole_flow : (n b : ℕ) (bytes : List ℕ) (e : Ended) (s : Spot) → ((again then : Bool) (height : ℕ) (rest : List ℕ) → Content n s again then bytes height rest → (x : Node) × IsFlow n (b ∷ bytes) x (suc height) rest × Says again then (Has (Repeats n) x))
    → Closed n e (suc (length bytes)) s [] 1 false bytes → IsLoose n (b ∷ bytes) e
whole_flow n b bytes e s wraps (closed_by height high then rest node i lt c le q) =
    let same : record { node = node; height = high; repeated = then; rest = rest } ≡ e = cc in
    let w = wraps false then height rest c in
    subst (IsLoose n (b ∷ bytes)) same (record { node = w.0; height = suc height; is_flow = w.1; high = omega arith; repeats = λ h. elim (w.2 h) [ inl z ↦ absurd cc | inr z ↦ z ] })

pub flow_loose : (n b : ℕ) (bytes : List ℕ) (e : Ended) → start b bytes ≡ starts.InBrackets → flow n (b == 123) bytes ≡ Ok e → IsLoose n (b ∷ bytes) e
unfolding flow
flow_loose n b bytes e s q = elim (bracket_is b bytes s) [
  | inl is ↦
      let q' : run (suc (length bytes)) (at n (list_frame []) [] false 1 false false bytes) ≡ Ok e = subst (λ (c : ℕ). flow n (c == 123) bytes ≡ Ok e) is q in
      subst (λ (c : ℕ). IsLoose n (c ∷ bytes) e) (sym is) (whole_flow n 91 bytes e (items []) (list_wraps n e bytes) (steps_found n e (suc (length bytes)) (items []) [] 1 false bytes false q'))
  | inr is ↦
      let q' : run (suc (length bytes)) (at n (map_frame [] None) [] false 1 false false bytes) ≡ Ok e = subst (λ (c : ℕ). flow n (c == 123) bytes ≡ Ok e) is q in
      subst (λ (c : ℕ). IsLoose n (c ∷ bytes) e) (sym is) (whole_flow n 123 bytes e (pairs []) (map_wraps n e bytes) (steps_found n e (suc (length bytes)) (pairs []) [] 1 false bytes false q'))
]
