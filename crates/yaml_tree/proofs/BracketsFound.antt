-- Flow that is read, with at most 64 nodes in one another and no key that comes twice, is in its grammar.
use Rattle.std.proofs.Common.{◌≡◌, ℕ, zero, suc, ◌+◌, ◌<◌, ◌≤◌, Bool, true, false, cond, ◌||◌, ◌⊎◌, inl, inr, List, [], ◌∷◌, ◌++◌, length, take, drop, Option, Some, None, Ok, Err, refl, sym, ap, subst, ◌∙◌, append_assoc, arith}
use Rattle.std.specs.Prelude.{◌==◌, max}
use Rattle.std.proofs.lemmas.Bool.{eqb-true}
use Rattle.std.proofs.lemmas.List.{append-nil}
use Rattle.yaml_scan.specs.declared.fault.Code.{Code}
use Rattle.yaml_scan.specs.declared.fault.Code.TheVariants.{Structure, LeftOut}
use Rattle.yaml_scan.specs.Words.{is_blank, is_empty, is_some, has_colon, colon_at, trimmed}
use Rattle.yaml_scan.specs.Quoted.{State, opened, run as quoted_run}
use Rattle.yaml_tree.specs.declared.node.Node.{Node}
use Rattle.yaml_tree.specs.declared.flow.Frame.{Frame}
use Rattle.yaml_tree.specs.declared.starts.Start.TheVariants as starts
use Rattle.yaml_tree.specs.Nodes.{Pair, null, scalar_node, listed, mapped, has_key}
use Rattle.yaml_tree.specs.Starts.{start, left_out, no_plain, is_merge}
use Rattle.yaml_tree.specs.Brackets.{here, IsWord, ends_key, IsKey, plain_key as plain_key_is, quoted_key, IsFlow, plain as plain_is_flow, quoted as quoted_is, list as list_is, map as map_is, no_item, key_alone, IsPairs, no_pair}
use Rattle.yaml_tree.specs.Flow.{Machine, Ended, Step, on, fails, held, wants_key, raised, kept, behind, holding, awaiting, keyed, alone, colon_behind, quoted_by, plain_key, plain_by, plain, scalar, step, ran, run, flow}
use Rattle.yaml_tree.proofs.LinesFound.{tested, and_true}
use Rattle.yaml_tree.proofs.BracketWords.{cut, Cut, whole, keyed as keyed_cut, word_found, next_of}
use Rattle.yaml_tree.proofs.OneLine.{inside_found}
use Rattle.yaml_tree.proofs.BracketKeys.{apart_first, apart_more, apart_last}
use Rattle.yaml_tree.proofs.BracketSpots.{items_stop, items_go_on, pairs_stop, pairs_go_on, no_more, a_value, item_more, pair_more, key_more, Spot, items, item_end, pairs, pair_end, value, frame_of, is_after, Content, blank_content}
use Rattle.yaml_tree.proofs.BracketRuns.{run_grows}
use Rattle.yaml_tree.proofs.BracketSteps.{at, list_frame, map_frame, shuts, quote_is, max_more, kept_is, comment_fails, begins_plain, scalar_step, list_opens, map_opens, list_closes, map_closes, key_closes, key_goes_on, cut_is, plain_is}

-- ---- small facts

no_bad : (bad : Option ℕ) → is_some bad ≡ false → bad ≡ None
no_bad None e = refl
no_bad (Some x) e = absurd cc

colon_rest : (rest : List ℕ) → colon_behind rest ≡ true → (r : List ℕ) × (rest ≡ 58 ∷ r) × (ends_key r ≡ true)
colon_rest [] e = absurd cc
colon_rest (b ∷ r) e = let h = and_true (b == 58) (ends_key r) e in (r, ap (λ (c : ℕ). c ∷ r) (eqb-true b 58 h.0), h.1)

raised_exact : (low around : ℕ) → raised low around ≤ 64 → raised low around ≡ max low (around + 1 + 1)
raised_exact low around le = omega arith

whole_word : {bytes w : List ℕ} → Cut false 0 bytes w None → IsWord false bytes w (drop (length w) bytes)
whole_word (whole i) = i

is_quote : (b : ℕ) (bytes : List ℕ) → (b == 34 || b == 39) ≡ true → start b bytes ≡ starts.InQuotes
is_quote b bytes h = rw h refl

module _ (n : ℕ) (e : Ended) (once : e.repeated ≡ false) (low_enough : e.height ≤ 64) where
  -- the bracket is closed, and the machine goes on with the outer ones
  pub data Closed (j : ℕ) (s : Spot) (fs : List Frame) (low : ℕ) (bytes : List ℕ) : Type 0 where
    closed_by : (height : ℕ) (rest : List ℕ) (node : Node) (i : ℕ) → i < j → Content n s bytes node height rest → ran (shuts n (max low (length fs + 1 + height)) rest (kept (length fs) n node) fs) (run i) ≡ Ok e → Closed j s fs low bytes

  abbrev pub Reads : ℕ → Spot → List Frame → ℕ → List ℕ → Type 0
  Reads j s fs low bytes = (spaced : Bool) → length fs + 1 ≤ low → run j (at n (frame_of s) fs (is_after s) low spaced bytes) ≡ Ok e → Closed j s fs low bytes

  abbrev pub Before : ℕ → Type 0
  Before j = (i : ℕ) → i < j → (s : Spot) (fs : List Frame) (low : ℕ) (bytes : List ℕ) → Reads i s fs low bytes

  not_repeated : (k : ℕ) (m : Machine) → run k m ≡ Ok e → m.repeated ≡ false
  not_repeated k m q = elim (tested m.repeated) [
    | inr h ↦ h
    | inl h ↦ absurd (let z : true ≡ false = sym ((run_grows k m e q).1 h) ∙ once in cc)
  ]

  fits : (k : ℕ) (m : Machine) → run k m ≡ Ok e → m.height ≤ 64
  fits k m q = let g = run_grows k m e q in omega (arith, g.0, low_enough)

  shuts_fit : (k high : ℕ) (rest : List ℕ) (node : Node) (fs : List Frame) → ran (shuts n high rest node fs) (run k) ≡ Ok e → high ≤ 64
  shuts_fit k high rest node [] q =
      let same : record { node = node; height = high; repeated = false; rest = rest } ≡ e = cc in
      let h : high ≡ e.height = ap (λ (x : Ended). x.height) same in
      omega (arith, h, low_enough)
  shuts_fit k high rest node (f ∷ fs) q = fits k (at n (held f n node) fs true high false rest) q

  first : (k : ℕ) (m : Machine) (s : Step) → step m ≡ s → run (suc k) m ≡ Ok e → ran s (run k) ≡ Ok e
  unfolding run
  first k m s is q = ap (λ (x : Step). ran x (run k)) (sym is) ∙ q

  refuses : (k : ℕ) (m : Machine) (c : Code) → step m ≡ fails c → run (suc k) m ≡ Ok e → ⊥
  refuses k m c is q = let z : Err c ≡ Ok e = first k m (fails c) is q in cc

  -- ---- values

  pub data Value (j : ℕ) (f : Frame) (fs : List Frame) (low : ℕ) (bytes : List ℕ) : Type 0 where
    value_by : (height : ℕ) (rest : List ℕ) (x : Node) (spaced : Bool) (i : ℕ) → i < j → IsFlow n bytes x height rest → run i (at n (held f n x) fs true (max low (length fs + 1 + height)) spaced rest) ≡ Ok e → Value j f fs low bytes

  bracket_found : (k : ℕ) → Before (suc k) → (s : Spot) (f : Frame) (fs : List Frame) (low b : ℕ) (r : List ℕ) → ((node : Node) (height : ℕ) (rest : List ℕ) → Content n s r node height rest → IsFlow n (b ∷ r) node (suc height) rest)
      → run k (at n (frame_of s) (f ∷ fs) (is_after s) (raised low (length fs)) false r) ≡ Ok e → Value (suc k) f fs low (b ∷ r)
  bracket_found k before s f fs low b r wraps q =
      let high : raised low (length fs) ≤ 64 = fits k (at n (frame_of s) (f ∷ fs) (is_after s) (raised low (length fs)) false r) q in
      around (before k (omega arith) s (f ∷ fs) (raised low (length fs)) r false (omega arith) q)
    where
      around : Closed k s (f ∷ fs) (raised low (length fs)) r → Value (suc k) f fs low (b ∷ r)
      around (closed_by height rest node i lt c q') =
          let h : max (raised low (length fs)) (suc (length fs) + 1 + height) ≤ 64 = fits i (at n (held f n (kept (suc (length fs)) n node)) fs true (max (raised low (length fs)) (suc (length fs) + 1 + height)) false rest) q' in
          let node_is : kept (suc (length fs)) n node ≡ node = kept_is (suc (length fs)) n node (omega arith) in
          let same : max (raised low (length fs)) (suc (length fs) + 1 + height) ≡ max low (length fs + 1 + suc height) = omega arith in
          value_by (suc height) rest node false i (omega arith) (wraps node height rest c)
          (subst (λ (x : ℕ). run i (at n (held f n node) fs true x false rest) ≡ Ok e) same (subst (λ (y : Node). run i (at n (held f n y) fs true (max (raised low (length fs)) (suc (length fs) + 1 + height)) false rest) ≡ Ok e) node_is q'))

  held_by : (k : ℕ) (f : Frame) (fs : List Frame) (low b : ℕ) (r rest : List ℕ) (x : Node) (spaced : Bool) → IsFlow n (b ∷ r) x 1 rest → run k (at n (held f n x) fs true (raised low (length fs)) spaced rest) ≡ Ok e → Value (suc k) f fs low (b ∷ r)
  held_by k f fs low b r rest x spaced i q =
      let same = raised_exact low (length fs) (fits k (at n (held f n x) fs true (raised low (length fs)) spaced rest) q) in
      value_by 1 rest x spaced k (omega arith) i (subst (λ (h : ℕ). run k (at n (held f n x) fs true h spaced rest) ≡ Ok e) same q)

  quoted_value : (k : ℕ) (f : Frame) (fs : List Frame) (low b : ℕ) (r : List ℕ) (s : State) (o : Option (List ℕ)) → wants_key f ≡ false → (b == 34 || b == 39) ≡ true → quoted_run (opened b n) r ≡ (s, o)
      → ran (quoted_by (at n f fs false low (b == 32) r) s o) (run k) ≡ Ok e → Value (suc k) f fs low (b ∷ r)
  quoted_value k f fs low b r s None wants h is q = absurd cc
  quoted_value k f fs low b r s (Some rest) wants h is q =
      elim (tested (is_some s.bad)) [
        | inl x ↦ absurd (let z : Err Structure ≡ Ok e = rw x at q in cc)
        | inr x ↦
            let q' : run k (at n (held f n (scalar_node n s.text false)) fs true (raised low (length fs)) false rest) ≡ Ok e = rw (x, wants) at q in
            held_by k f fs low b r rest (scalar_node n s.text false) false (quoted_is (is_quote b r h) (inside_found b (quote_is b r (is_quote b r h)) r rest n s is (no_bad s.bad x))) q'
      ]

  plain_value : (k : ℕ) (f : Frame) (fs : List Frame) (low b : ℕ) (r : List ℕ) → wants_key f ≡ false → is_blank b ≡ false → start b r ≡ starts.Plain → ran (plain (at n f fs false low (b == 32) r) b) (run k) ≡ Ok e → Value (suc k) f fs low (b ∷ r)
  plain_value k f fs low b r wants no_blank s q =
      let q1 : ran (plain_by (at n f fs false low (b == 32) r) (b ∷ cut false r) (length (cut false r))) (run k) ≡ Ok e = ap (λ (x : Step). ran x (run k)) (sym (plain_is (at n f fs false low (b == 32) r) b)) ∙ q in
      elim (tested (has_colon (b ∷ cut false r))) [
        | inl x ↦ absurd (let z : Err Structure ≡ Ok e = rw (wants, x) at q1 in cc)
        | inr x ↦
            let q2 : run k (at n (held f n (scalar_node n (trimmed (b ∷ cut false r)) true)) fs true (raised low (length fs)) true (drop (length (cut false r)) r)) ≡ Ok e = rw (wants, x) at q1 in
            let cuts = cut_is b r no_blank s in
            let c : Cut false 0 (b ∷ r) (b ∷ cut false r) None = subst (λ (w : List ℕ). Cut false 0 (b ∷ r) w None) cuts (word_found (b ∷ r) false 0 None (ap (colon_at false 0) cuts ∙ no_bad (colon_at false 0 (b ∷ cut false r)) x)) in
            held_by k f fs low b r (drop (length (cut false r)) r) (scalar_node n (trimmed (b ∷ cut false r)) true) true (plain_is_flow s (whole_word c)) q2
      ]

  scalar_value : (k : ℕ) (f : Frame) (fs : List Frame) (low b : ℕ) (r : List ℕ) → wants_key f ≡ false → is_blank b ≡ false → ran (scalar (at n f fs false low (b == 32) r) b) (run k) ≡ Ok e → Value (suc k) f fs low (b ∷ r)
  scalar_value k f fs low b r wants no_blank q =
      elim (tested (b == 34 || b == 39)) [
        | inl h ↦ quoted_value k f fs low b r (quoted_run (opened b n) r).0 (quoted_run (opened b n) r).1 wants h refl (rw h at q)
        | inr h ↦ elim (tested (left_out b r)) [
          | inl i ↦ absurd (let z : Err LeftOut ≡ Ok e = rw (h, i) at q in cc)
          | inr i ↦ elim (tested (no_plain b r)) [
            | inl j ↦ absurd (let z : Err Structure ≡ Ok e = rw (h, i, j) at q in cc)
            | inr j ↦ plain_value k f fs low b r wants no_blank (begins_plain b r h i j) (rw (h, i, j) at q)
          ]
        ]
      ]

  pub value_found : (k : ℕ) → Before (suc k) → (f : Frame) (fs : List Frame) (low b : ℕ) (spaced : Bool) (r : List ℕ) → wants_key f ≡ false → is_blank b ≡ false → (b == 35) ≡ false → (b == 44) ≡ false → (b == 125) ≡ false → (b == 93) ≡ false
      → run (suc k) (at n f fs false low spaced (b ∷ r)) ≡ Ok e → Value (suc k) f fs low (b ∷ r)
  value_found k before f fs low b spaced r wants no_blank no_comment no_comma no_brace no_bracket q =
      elim (tested (b == 91)) [
        | inl h ↦
            let is : b ≡ 91 = eqb-true b 91 h in
            subst (λ (c : ℕ). Value (suc k) f fs low (c ∷ r)) (sym is)
            (bracket_found k before (items []) f fs low 91 r (λ node height rest c. subst (λ (y : Node). IsFlow n (91 ∷ r) y (suc height) rest) (sym c.2) (list_is c.1))
            (first k (at n f fs false low spaced (91 ∷ r)) (on (at n (list_frame []) (f ∷ fs) false (raised low (length fs)) false r)) (list_opens n f fs low spaced r wants) (subst (λ (c : ℕ). run (suc k) (at n f fs false low spaced (c ∷ r)) ≡ Ok e) is q)))
        | inr h ↦ elim (tested (b == 123)) [
          | inl i ↦
              let is : b ≡ 123 = eqb-true b 123 i in
              subst (λ (c : ℕ). Value (suc k) f fs low (c ∷ r)) (sym is)
              (bracket_found k before (pairs []) f fs low 123 r (λ node height rest c. subst (λ (y : Node). IsFlow n (123 ∷ r) y (suc height) rest) (sym c.3) (map_is c.1))
              (first k (at n f fs false low spaced (123 ∷ r)) (on (at n (map_frame [] None) (f ∷ fs) false (raised low (length fs)) false r)) (map_opens n f fs low spaced r wants) (subst (λ (c : ℕ). run (suc k) (at n f fs false low spaced (c ∷ r)) ≡ Ok e) is q)))
          | inr i ↦
              let no_open : (b == 91 || b == 123) ≡ false = rw (h, i) refl in
              scalar_value k f fs low b r wants no_blank
              (first k (at n f fs false low spaced (b ∷ r)) (scalar (at n f fs false low (b == 32) r) b) (scalar_step n f fs low b spaced r no_blank no_comment no_comma no_brace no_bracket no_open) q)
        ]
      ]

  -- ---- keys

  pub data Keyed (j : ℕ) (ps : List Pair) (fs : List Frame) (low : ℕ) (bytes : List ℕ) : Type 0 where
    lone : (k rest : List ℕ) (spaced : Bool) (i : ℕ) → i < j → IsKey bytes k rest → has_key ps k ≡ false → run i (at n (map_frame (ps ++ (k, n, null n) ∷ []) None) fs true (max low (length fs + 1 + 1)) spaced rest) ≡ Ok e → Keyed j ps fs low bytes
    waits : (k r : List ℕ) (i : ℕ) → i < j → IsKey bytes k (58 ∷ r) → ends_key r ≡ true → has_key ps k ≡ false → run i (at n (map_frame ps (Some k)) fs false low false r) ≡ Ok e → Keyed j ps fs low bytes

  lone_found : (k : ℕ) (ps : List Pair) (fs : List Frame) (low : ℕ) (spaced : Bool) (bytes key rest : List ℕ) → (is_empty key ≡ false → IsKey bytes key rest) → ran (alone (at n (map_frame ps None) fs false low spaced rest) key) (run k) ≡ Ok e → Keyed (suc k) ps fs low bytes
  lone_found k ps fs low spaced bytes key rest is q =
      elim (tested (is_empty key)) [
        | inl h ↦ absurd (let z : Err Structure ≡ Ok e = rw h at q in cc)
        | inr h ↦
            let q1 : run k (holding (awaiting (at n (map_frame ps None) fs false low spaced rest) key) (null n)) ≡ Ok e = rw h at q in
            let new : has_key ps key ≡ false = not_repeated k (holding (awaiting (at n (map_frame ps None) fs false low spaced rest) key) (null n)) q1 in
            let q2 : run k (at n (map_frame (ps ++ (key, n, null n) ∷ []) None) fs true (raised low (length fs)) spaced rest) ≡ Ok e = rw new at q1 in
            let same = raised_exact low (length fs) (fits k (at n (map_frame (ps ++ (key, n, null n) ∷ []) None) fs true (raised low (length fs)) spaced rest) q2) in
            lone key rest spaced k (omega arith) (is h) new (subst (λ (x : ℕ). run k (at n (map_frame (ps ++ (key, n, null n) ∷ []) None) fs true x spaced rest) ≡ Ok e) same q2)
      ]

  waits_found : (k : ℕ) (ps : List Pair) (fs : List Frame) (low : ℕ) (bytes key r : List ℕ) → ends_key r ≡ true → (is_empty key ≡ false → IsKey bytes key (58 ∷ r)) → ran (keyed (at n (map_frame ps None) fs false low false r) key) (run k) ≡ Ok e → Keyed (suc k) ps fs low bytes
  waits_found k ps fs low bytes key r ends is q =
      elim (tested (is_empty key)) [
        | inl h ↦ absurd (let z : Err Structure ≡ Ok e = rw h at q in cc)
        | inr h ↦
            let q1 : run k (awaiting (at n (map_frame ps None) fs false low false r) key) ≡ Ok e = rw h at q in
            let new : has_key ps key ≡ false = not_repeated k (awaiting (at n (map_frame ps None) fs false low false r) key) q1 in
            let q2 : run k (at n (map_frame ps (Some key)) fs false low false r) ≡ Ok e = rw new at q1 in
            waits key r k (omega arith) (is h) ends new q2
      ]

  quoted_keyed : (k : ℕ) (ps : List Pair) (fs : List Frame) (low b : ℕ) (r : List ℕ) (s : State) (o : Option (List ℕ)) → (b == 34 || b == 39) ≡ true → quoted_run (opened b n) r ≡ (s, o)
      → ran (quoted_by (at n (map_frame ps None) fs false low (b == 32) r) s o) (run k) ≡ Ok e → Keyed (suc k) ps fs low (b ∷ r)
  quoted_keyed k ps fs low b r s None h is q = absurd cc
  quoted_keyed k ps fs low b r s (Some rest) h is q =
      elim (tested (is_some s.bad)) [
        | inl x ↦ absurd (let z : Err Structure ≡ Ok e = rw x at q in cc)
        | inr x ↦
            let key : is_empty s.text ≡ false → IsKey (b ∷ r) s.text rest = λ some. quoted_key (is_quote b r h) (inside_found b (quote_is b r (is_quote b r h)) r rest n s is (no_bad s.bad x)) some in
            elim (tested (colon_behind rest)) [
              | inr c ↦ lone_found k ps fs low false (b ∷ r) s.text rest key (rw (x, c) at q)
              | inl c ↦
                  let p = colon_rest rest c in
                  let q1 : ran (keyed (at n (map_frame ps None) fs false low false (drop 1 rest)) s.text) (run k) ≡ Ok e = rw (x, c) at q in
                  waits_found k ps fs low (b ∷ r) s.text p.0 p.2 (λ some. subst (λ (y : List ℕ). IsKey (b ∷ r) s.text y) p.1 (key some))
                  (subst (λ (y : List ℕ). ran (keyed (at n (map_frame ps None) fs false low false y) s.text) (run k) ≡ Ok e) (ap (drop 1) p.1) q1)
            ]
      ]

  plain_keyed : (k : ℕ) (ps : List Pair) (fs : List Frame) (low b : ℕ) (r w : List ℕ) (count : ℕ) (c : Option ℕ) → start b r ≡ starts.Plain → Cut false 0 (b ∷ r) w c → drop (length w) (b ∷ r) ≡ drop count r
      → ran (plain_key (at n (map_frame ps None) fs false low (b == 32) r) w count c) (run k) ≡ Ok e → Keyed (suc k) ps fs low (b ∷ r)
  plain_keyed k ps fs low b r w count None s (whole i) left q =
      elim (tested (is_merge (trimmed w))) [
        | inl h ↦ absurd (let z : Err LeftOut ≡ Ok e = rw h at q in cc)
        | inr h ↦ lone_found k ps fs low true (b ∷ r) (trimmed w) (drop count r) (λ some. subst (λ (x : List ℕ). IsKey (b ∷ r) (trimmed w) x) left (plain_key_is s i h some)) (rw h at q)
      ]
  plain_keyed k ps fs low b r w count (Some p) s (keyed_cut {r = r'} j i d ends is) left q =
      let same : p ≡ j = omega (arith, is) in
      elim (tested (is_merge (trimmed (take p w)))) [
        | inl h ↦ absurd (let z : Err LeftOut ≡ Ok e = rw h at q in cc)
        | inr h ↦
            let q1 : ran (keyed (at n (map_frame ps None) fs false low false (drop p r)) (trimmed (take p w))) (run k) ≡ Ok e = rw h at q in
            let i' : IsWord false (b ∷ r) (take p w) (58 ∷ r') = subst (λ (x : ℕ). IsWord false (b ∷ r) (take x w) (58 ∷ r')) (sym same) i in
            let left_is : drop p r ≡ r' = next_of p b r r' (ap (λ (x : ℕ). drop x (b ∷ r)) same ∙ d) in
            waits_found k ps fs low (b ∷ r) (trimmed (take p w)) r' ends (λ some. plain_key_is s i' h some) (subst (λ (x : List ℕ). ran (keyed (at n (map_frame ps None) fs false low false x) (trimmed (take p w))) (run k) ≡ Ok e) left_is q1)
      ]

  scalar_keyed : (k : ℕ) (ps : List Pair) (fs : List Frame) (low b : ℕ) (r : List ℕ) → is_blank b ≡ false → ran (scalar (at n (map_frame ps None) fs false low (b == 32) r) b) (run k) ≡ Ok e → Keyed (suc k) ps fs low (b ∷ r)
  scalar_keyed k ps fs low b r no_blank q =
      elim (tested (b == 34 || b == 39)) [
        | inl h ↦ quoted_keyed k ps fs low b r (quoted_run (opened b n) r).0 (quoted_run (opened b n) r).1 h refl (rw h at q)
        | inr h ↦ elim (tested (left_out b r)) [
          | inl i ↦ absurd (let z : Err LeftOut ≡ Ok e = rw (h, i) at q in cc)
          | inr i ↦ elim (tested (no_plain b r)) [
            | inl j ↦ absurd (let z : Err Structure ≡ Ok e = rw (h, i, j) at q in cc)
            | inr j ↦
                let s = begins_plain b r h i j in
                let q1 : ran (plain (at n (map_frame ps None) fs false low (b == 32) r) b) (run k) ≡ Ok e = rw (h, i, j) at q in
                let q2 : ran (plain_key (at n (map_frame ps None) fs false low (b == 32) r) (b ∷ cut false r) (length (cut false r)) (colon_at false 0 (b ∷ cut false r))) (run k) ≡ Ok e =
                ap (λ (x : Step). ran x (run k)) (sym (plain_is (at n (map_frame ps None) fs false low (b == 32) r) b)) ∙ q1 in
                let cuts = cut_is b r no_blank s in
                let c : Cut false 0 (b ∷ r) (b ∷ cut false r) (colon_at false 0 (b ∷ cut false r)) = subst (λ (w : List ℕ). Cut false 0 (b ∷ r) w (colon_at false 0 w)) cuts (word_found (b ∷ r) false 0 (colon_at false 0 (cut false (b ∷ r))) refl) in
                plain_keyed k ps fs low b r (b ∷ cut false r) (length (cut false r)) (colon_at false 0 (b ∷ cut false r)) s c refl q2
          ]
        ]
      ]

  -- ---- what comes next

  abbrev pub Spotted : ℕ → Spot → List Frame → ℕ → ℕ → List ℕ → Type 0
  Spotted k s fs low b r = (spaced : Bool) → length fs + 1 ≤ low → run (suc k) (at n (frame_of s) fs (is_after s) low spaced (b ∷ r)) ≡ Ok e → Closed (suc k) s fs low (b ∷ r)

  -- this byte comes next
  next_is : (k : ℕ) (s : Spot) (fs : List Frame) (low b c : ℕ) (r : List ℕ) → (b == c) ≡ true → Spotted k s fs low c r → Spotted k s fs low b r
  next_is k s fs low b c r h here' = subst (λ (x : ℕ). Spotted k s fs low x r) (sym (eqb-true b c h)) here'

  never : (k : ℕ) (s : Spot) (fs : List Frame) (low b : ℕ) (r : List ℕ) (c : Code) → ((spaced : Bool) → step (at n (frame_of s) fs (is_after s) low spaced (b ∷ r)) ≡ fails c) → Spotted k s fs low b r
  never k s fs low b r c is spaced high q = absurd (refuses k (at n (frame_of s) fs (is_after s) low spaced (b ∷ r)) c (is spaced) q)

  lowest : (k low : ℕ) (fs : List Frame) (rest : List ℕ) (node : Node) → length fs + 1 ≤ low → ran (shuts n low rest node fs) (run k) ≡ Ok e → ran (shuts n (max low (length fs + 1 + 0)) rest node fs) (run k) ≡ Ok e
  lowest k low fs rest node high q =
      let same : low ≡ max low (length fs + 1 + 0) = omega arith in
      subst (λ (h : ℕ). ran (shuts n h rest node fs) (run k) ≡ Ok e) same q

  list_ends : (k : ℕ) (found : List Node) (fs : List Frame) (low : ℕ) (r : List ℕ) (after spaced : Bool) → length fs + 1 ≤ low → run (suc k) (at n (list_frame found) fs after low spaced (93 ∷ r)) ≡ Ok e
      → ran (shuts n (max low (length fs + 1 + 0)) r (kept (length fs) n (listed n found)) fs) (run k) ≡ Ok e
  list_ends k found fs low r after spaced high q =
      lowest k low fs r (kept (length fs) n (listed n found)) high
      (first k (at n (list_frame found) fs after low spaced (93 ∷ r)) (shuts n low r (kept (length fs) n (listed n found)) fs) (list_closes n found fs after low spaced r) q)

  map_ends : (k : ℕ) (found : List Pair) (fs : List Frame) (low : ℕ) (r : List ℕ) (after spaced : Bool) → length fs + 1 ≤ low → run (suc k) (at n (map_frame found None) fs after low spaced (125 ∷ r)) ≡ Ok e
      → ran (shuts n (max low (length fs + 1 + 0)) r (kept (length fs) n (mapped n found)) fs) (run k) ≡ Ok e
  map_ends k found fs low r after spaced high q =
      lowest k low fs r (kept (length fs) n (mapped n found)) high
      (first k (at n (map_frame found None) fs after low spaced (125 ∷ r)) (shuts n low r (kept (length fs) n (mapped n found)) fs) (map_closes n found fs after low spaced r) q)

  on_by : (i low own others : ℕ) (fs : List Frame) (rest : List ℕ) (node : Node) → ran (shuts n (max (max low (length fs + 1 + own)) (length fs + 1 + others)) rest (kept (length fs) n node) fs) (run i) ≡ Ok e
      → ran (shuts n (max low (length fs + 1 + max own others)) rest (kept (length fs) n node) fs) (run i) ≡ Ok e
  on_by i low own others fs rest node q = subst (λ (h : ℕ). ran (shuts n h rest (kept (length fs) n node) fs) (run i) ≡ Ok e) (max_more low (length fs) own others) q

  -- ---- lists

  an_item : (k : ℕ) → Before (suc k) → (found : List Node) (fs : List Frame) (low b : ℕ) (r : List ℕ) → is_blank b ≡ false → length fs + 1 ≤ low → Value (suc k) (list_frame found) fs low (b ∷ r) → Closed (suc k) (items found) fs low (b ∷ r)
  an_item k before found fs low b r no_blank high (value_by own behind x spaced i lt v q) = goes (before i lt (item_end (found ++ x ∷ [])) fs (max low (length fs + 1 + own)) behind spaced (omega arith) q)
    where
      goes : Closed i (item_end (found ++ x ∷ [])) fs (max low (length fs + 1 + own)) behind → Closed (suc k) (items found) fs low (b ∷ r)
      goes (closed_by others rest node i' lt' c q') =
          closed_by (max own others) rest node i' (omega arith) (x ∷ c.0, item_more (here no_blank) v c.1, c.2 ∙ ap (listed n) (append_assoc found (x ∷ []) c.0)) (on_by i' low own others fs rest node q')

  items_found : (k : ℕ) → Before (suc k) → (found : List Node) (fs : List Frame) (low b : ℕ) (r : List ℕ) → is_blank b ≡ false → (b == 35) ≡ false → Spotted k (items found) fs low b r
  items_found k before found fs low b r no_blank no_comment spaced high q =
      elim (tested (b == 93)) [
        | inl h ↦
            next_is k (items found) fs low b 93 r h
            (λ spaced high q. closed_by 0 r (listed n found) k (omega arith) ([], no_item (here refl), ap (listed n) (sym (append-nil found))) (list_ends k found fs low r false spaced high q)) spaced high q
        | inr h ↦ elim (tested (b == 44)) [
          | inl i ↦ next_is k (items found) fs low b 44 r i (never k (items found) fs low 44 r Structure (λ spaced. refl)) spaced high q
          | inr i ↦ elim (tested (b == 125)) [
            | inl j ↦ next_is k (items found) fs low b 125 r j (never k (items found) fs low 125 r Structure (λ spaced. refl)) spaced high q
            | inr j ↦ an_item k before found fs low b r no_blank high (value_found k before (list_frame found) fs low b spaced r refl no_blank no_comment i j h q)
          ]
        ]
      ]

  item_end_found : (k : ℕ) → Before (suc k) → (found : List Node) (fs : List Frame) (low b : ℕ) (r : List ℕ) → is_blank b ≡ false → (b == 35) ≡ false → Spotted k (item_end found) fs low b r
  item_end_found k before found fs low b r no_blank no_comment spaced high q =
      elim (tested (b == 93)) [
        | inl h ↦
            next_is k (item_end found) fs low b 93 r h
            (λ spaced high q. closed_by 0 r (listed n found) k (omega arith) ([], items_stop (here refl), ap (listed n) (sym (append-nil found))) (list_ends k found fs low r true spaced high q)) spaced high q
        | inr h ↦ elim (tested (b == 44)) [
          | inl i ↦
              next_is k (item_end found) fs low b 44 r i
              (λ spaced high q. goes (before k (omega arith) (items found) fs low r false high (first k (at n (list_frame found) fs true low spaced (44 ∷ r)) (on (at n (list_frame found) fs false low false r)) refl q))) spaced high q
          | inr i ↦ never k (item_end found) fs low b r Structure (λ spaced. rw (no_blank, no_comment, i, h) refl) spaced high q
        ]
      ]
    where
      goes : Closed k (items found) fs low r → Closed (suc k) (item_end found) fs low (44 ∷ r)
      goes (closed_by height rest node i lt c q') = closed_by height rest node i (omega arith) (c.0, items_go_on (here refl) c.1, c.2) q'

  -- ---- maps

  one_pair : (k : ℕ) → Before (suc k) → (found : List Pair) (fs : List Frame) (low b : ℕ) (r : List ℕ) → is_blank b ≡ false → length fs + 1 ≤ low → Keyed (suc k) found fs low (b ∷ r) → Closed (suc k) (pairs found) fs low (b ∷ r)
  one_pair k before found fs low b r no_blank high (lone key behind spaced i lt is new q) = goes (before i lt (pair_end (found ++ (key, n, null n) ∷ [])) fs (max low (length fs + 1 + 1)) behind spaced (omega arith) q)
    where
      goes : Closed i (pair_end (found ++ (key, n, null n) ∷ [])) fs (max low (length fs + 1 + 1)) behind → Closed (suc k) (pairs found) fs low (b ∷ r)
      goes (closed_by others rest node i' lt' c q') =
          closed_by (max 1 others) rest node i' (omega arith)
          ((key, n, null n) ∷ c.0, pair_more (here no_blank) (key_alone is) c.1 (apart_first found c.0 (key, n, null n) c.2), apart_more found c.0 (key, n, null n) new c.2, c.3 ∙ ap (mapped n) (append_assoc found ((key, n, null n) ∷ []) c.0))
          (on_by i' low 1 others fs rest node q')
  one_pair k before found fs low b r no_blank high (waits key r' i lt is ends new q) = goes (before i lt (value found key) fs low r' false high q)
    where
      goes : Closed i (value found key) fs low r' → Closed (suc k) (pairs found) fs low (b ∷ r)
      goes (closed_by height rest node i' lt' c q') =
          let p : Pair = (key, n, c.0) in
          let whole_pairs : IsPairs n (b ∷ r) (p ∷ c.1) (max c.2 c.3) rest = pair_more (here no_blank) (key_more is ends c.5) c.6 (apart_first found c.1 p c.7) in
          closed_by height rest node i' (omega arith)
          (p ∷ c.1, subst (λ (h : ℕ). IsPairs n (b ∷ r) (p ∷ c.1) h rest) (sym c.8) whole_pairs, apart_more found c.1 p new c.7, c.9 ∙ ap (mapped n) (append_assoc found (p ∷ []) c.1)) q'

  pairs_found : (k : ℕ) → Before (suc k) → (found : List Pair) (fs : List Frame) (low b : ℕ) (r : List ℕ) → is_blank b ≡ false → (b == 35) ≡ false → Spotted k (pairs found) fs low b r
  pairs_found k before found fs low b r no_blank no_comment spaced high q =
      elim (tested (b == 125)) [
        | inl h ↦
            next_is k (pairs found) fs low b 125 r h
            (λ spaced high q. closed_by 0 r (mapped n found) k (omega arith) ([], no_pair (here refl), apart_last found, ap (mapped n) (sym (append-nil found))) (map_ends k found fs low r false spaced high q)) spaced high q
        | inr h ↦ elim (tested (b == 44)) [
          | inl i ↦ next_is k (pairs found) fs low b 44 r i (never k (pairs found) fs low 44 r Structure (λ spaced. refl)) spaced high q
          | inr i ↦ elim (tested (b == 93)) [
            | inl j ↦ next_is k (pairs found) fs low b 93 r j (never k (pairs found) fs low 93 r Structure (λ spaced. refl)) spaced high q
            | inr j ↦ elim (tested (b == 91)) [
              | inl l ↦ next_is k (pairs found) fs low b 91 r l (never k (pairs found) fs low 91 r Structure (λ spaced. refl)) spaced high q
              | inr l ↦ elim (tested (b == 123)) [
                | inl o ↦ next_is k (pairs found) fs low b 123 r o (never k (pairs found) fs low 123 r Structure (λ spaced. refl)) spaced high q
                | inr o ↦
                    let no_open : (b == 91 || b == 123) ≡ false = rw (l, o) refl in
                    one_pair k before found fs low b r no_blank high
                    (scalar_keyed k found fs low b r no_blank
                    (first k (at n (map_frame found None) fs false low spaced (b ∷ r)) (scalar (at n (map_frame found None) fs false low (b == 32) r) b) (scalar_step n (map_frame found None) fs low b spaced r no_blank no_comment i h j no_open) q))
              ]
            ]
          ]
        ]
      ]

  pair_end_found : (k : ℕ) → Before (suc k) → (found : List Pair) (fs : List Frame) (low b : ℕ) (r : List ℕ) → is_blank b ≡ false → (b == 35) ≡ false → Spotted k (pair_end found) fs low b r
  pair_end_found k before found fs low b r no_blank no_comment spaced high q =
      elim (tested (b == 125)) [
        | inl h ↦
            next_is k (pair_end found) fs low b 125 r h
            (λ spaced high q. closed_by 0 r (mapped n found) k (omega arith) ([], pairs_stop (here refl), apart_last found, ap (mapped n) (sym (append-nil found))) (map_ends k found fs low r true spaced high q)) spaced high q
        | inr h ↦ elim (tested (b == 44)) [
          | inl i ↦
              next_is k (pair_end found) fs low b 44 r i
              (λ spaced high q. goes (before k (omega arith) (pairs found) fs low r false high (first k (at n (map_frame found None) fs true low spaced (44 ∷ r)) (on (at n (map_frame found None) fs false low false r)) refl q))) spaced high q
          | inr i ↦ never k (pair_end found) fs low b r Structure (λ spaced. rw (no_blank, no_comment, i, h) refl) spaced high q
        ]
      ]
    where
      goes : Closed k (pairs found) fs low r → Closed (suc k) (pair_end found) fs low (44 ∷ r)
      goes (closed_by height rest node i lt c q') = closed_by height rest node i (omega arith) (c.0, pairs_go_on (here refl) c.1, c.2, c.3) q'

  its_value : (k : ℕ) → Before (suc k) → (found : List Pair) (key : List ℕ) (fs : List Frame) (low b : ℕ) (r : List ℕ) → is_blank b ≡ false → length fs + 1 ≤ low → Value (suc k) (map_frame found (Some key)) fs low (b ∷ r) → Closed (suc k) (value found key) fs low (b ∷ r)
  its_value k before found key fs low b r no_blank high (value_by own behind x spaced i lt v q) = goes (before i lt (pair_end (found ++ (key, n, x) ∷ [])) fs (max low (length fs + 1 + own)) behind spaced (omega arith) q)
    where
      goes : Closed i (pair_end (found ++ (key, n, x) ∷ [])) fs (max low (length fs + 1 + own)) behind → Closed (suc k) (value found key) fs low (b ∷ r)
      goes (closed_by others rest node i' lt' c q') = closed_by (max own others) rest node i' (omega arith) (x, c.0, own, others, behind, a_value (here no_blank) v, c.1, c.2, refl, c.3) (on_by i' low own others fs rest node q')

  value_spotted : (k : ℕ) → Before (suc k) → (found : List Pair) (key : List ℕ) (fs : List Frame) (low b : ℕ) (r : List ℕ) → is_blank b ≡ false → (b == 35) ≡ false → Spotted k (value found key) fs low b r
  value_spotted k before found key fs low b r no_blank no_comment spaced high q =
      elim (tested (b == 125)) [
        | inl h ↦ next_is k (value found key) fs low b 125 r h closes spaced high q
        | inr h ↦ elim (tested (b == 44)) [
          | inl i ↦ next_is k (value found key) fs low b 44 r i comma spaced high q
          | inr i ↦ elim (tested (b == 93)) [
            | inl j ↦ next_is k (value found key) fs low b 93 r j (never k (value found key) fs low 93 r Structure (λ spaced. refl)) spaced high q
            | inr j ↦ its_value k before found key fs low b r no_blank high (value_found k before (map_frame found (Some key)) fs low b spaced r refl no_blank no_comment i h j q)
          ]
        ]
      ]
    where
      closes : Spotted k (value found key) fs low 125 r
      closes spaced high q =
          let q1 = first k (at n (map_frame found (Some key)) fs false low spaced (125 ∷ r)) (shuts n (raised low (length fs)) r (kept (length fs) n (mapped n (found ++ (key, n, null n) ∷ []))) fs) (key_closes n found key fs low spaced r) q in
          let same = raised_exact low (length fs) (shuts_fit k (raised low (length fs)) r (kept (length fs) n (mapped n (found ++ (key, n, null n) ∷ []))) fs q1) in
          closed_by 1 r (mapped n (found ++ (key, n, null n) ∷ [])) k (omega arith)
          (null n, [], 1, 0, 125 ∷ r, no_more, pairs_stop (here refl), apart_last (found ++ (key, n, null n) ∷ []), omega arith, ap (mapped n) (sym (append-nil (found ++ (key, n, null n) ∷ []))))
          (subst (λ (h : ℕ). ran (shuts n h r (kept (length fs) n (mapped n (found ++ (key, n, null n) ∷ []))) fs) (run k) ≡ Ok e) same q1)

      goes : raised low (length fs) ≡ max low (length fs + 1 + 1) → Closed k (pairs (found ++ (key, n, null n) ∷ [])) fs (raised low (length fs)) r → Closed (suc k) (value found key) fs low (44 ∷ r)
      goes same (closed_by others rest node i lt c q') =
          closed_by (max 1 others) rest node i (omega arith) (null n, c.0, 1, others, 44 ∷ r, no_more, pairs_go_on (here refl) c.1, c.2, refl, c.3)
          (on_by i low 1 others fs rest node (subst (λ (h : ℕ). ran (shuts n (max h (length fs + 1 + others)) rest (kept (length fs) n node) fs) (run i) ≡ Ok e) same q'))

      comma : Spotted k (value found key) fs low 44 r
      comma spaced high q =
          let m : Machine = at n (map_frame (found ++ (key, n, null n) ∷ []) None) fs false (raised low (length fs)) false r in
          let q1 = first k (at n (map_frame found (Some key)) fs false low spaced (44 ∷ r)) (on m) (key_goes_on n found key fs low spaced r) q in
          goes (raised_exact low (length fs) (fits k m q1)) (before k (omega arith) (pairs (found ++ (key, n, null n) ∷ [])) fs (raised low (length fs)) r false (omega arith) q1)

  -- ---- all

  spotted : (k : ℕ) → Before (suc k) → (s : Spot) (fs : List Frame) (low b : ℕ) (r : List ℕ) → is_blank b ≡ false → (b == 35) ≡ false → Spotted k s fs low b r
  spotted k before (items found) = items_found k before found
  spotted k before (item_end found) = item_end_found k before found
  spotted k before (pairs found) = pairs_found k before found
  spotted k before (pair_end found) = pair_end_found k before found
  spotted k before (value found key) = value_spotted k before found key

  blank_before : (k : ℕ) (s : Spot) (fs : List Frame) (low b : ℕ) (r : List ℕ) → is_blank b ≡ true → Closed k s fs low r → Closed (suc k) s fs low (b ∷ r)
  blank_before k s fs low b r h (closed_by height rest node i lt c q) = closed_by height rest node i (omega arith) (blank_content n b s r node height rest h c) q

  one_step : (k : ℕ) → Before k → (s : Spot) (fs : List Frame) (low : ℕ) (bytes : List ℕ) → Reads k s fs low bytes
  unfolding run
  one_step zero before s fs low bytes spaced high q = absurd cc
  one_step (suc k) before s fs low [] spaced high q = absurd cc
  one_step (suc k) before s fs low (b ∷ r) spaced high q =
      elim (tested (is_blank b)) [
        | inl h ↦ blank_before k s fs low b r h (before k (omega arith) s fs low r (b == 32) high (rw h at q))
        | inr h ↦ elim (tested (b == 35)) [
          | inl i ↦
              let is : b ≡ 35 = eqb-true b 35 i in
              let f = comment_fails n (frame_of s) fs (is_after s) low spaced r in
              absurd (refuses k (at n (frame_of s) fs (is_after s) low spaced (35 ∷ r)) f.0 f.1 (subst (λ (c : ℕ). run (suc k) (at n (frame_of s) fs (is_after s) low spaced (c ∷ r)) ≡ Ok e) is q))
          | inr i ↦ spotted k before s fs low b r h i spaced high q
        ]
      ]

  all_steps : (k : ℕ) → Before k
  all_steps zero i lt = absurd (omega arith)
  all_steps (suc k) i lt = one_step i (λ j lt'. all_steps k j (omega arith))

  pub steps_found : (k : ℕ) (s : Spot) (fs : List Frame) (low : ℕ) (bytes : List ℕ) → Reads k s fs low bytes
  steps_found k = all_steps (suc k) k (omega arith)

-- ---- flow

bracket_is : (b : ℕ) (bytes : List ℕ) → start b bytes ≡ starts.InBrackets → (b ≡ 91) ⊎ (b ≡ 123)
bracket_is b bytes e =
    elim (tested (b == 34 || b == 39)) [
      | inl h ↦ absurd (let q : starts.InQuotes ≡ starts.InBrackets = rw h at e in cc)
      | inr h ↦ elim (tested (b == 91 || b == 123)) [
        | inl i ↦ which i
        | inr i ↦ elim (tested (b == 124 || b == 62)) [
          | inl k ↦ absurd (let q : starts.InLines ≡ starts.InBrackets = rw (h, i, k) at e in cc)
          | inr k ↦ absurd (last_two (left_out b bytes) (no_plain b bytes) (rw (h, i, k) at e))
        ]
      ]
    ]
  where
    which : (b == 91 || b == 123) ≡ true → (b ≡ 91) ⊎ (b ≡ 123)
    which h = elim (tested (b == 91)) [
      | inl p ↦ inl (eqb-true b 91 p)
      | inr p ↦ inr (eqb-true b 123 (rw p at h))
    ]

    last_two : (x y : Bool) → cond x starts.LeftOut (cond y starts.Refused starts.Plain) ≡ starts.InBrackets → ⊥
    last_two true y q = cc
    last_two false true q = cc
    last_two false false q = cc

list_whole : (n : ℕ) (bytes : List ℕ) (e : Ended) (once : e.repeated ≡ false) (low_enough : e.height ≤ 64) → Closed n e once low_enough (suc (length bytes)) (items []) [] 1 bytes → IsFlow n (91 ∷ bytes) e.node e.height e.rest
list_whole n bytes e once low_enough (closed_by height rest node i lt c q) =
    let same : record { node = node; height = max 1 (0 + 1 + height); repeated = false; rest = rest } ≡ e = cc in
    let high : suc height ≡ max 1 (0 + 1 + height) = omega arith in
    subst (λ (z : Ended). IsFlow n (91 ∷ bytes) z.node z.height z.rest) same (subst (λ (h : ℕ). IsFlow n (91 ∷ bytes) node h rest) high (subst (λ (y : Node). IsFlow n (91 ∷ bytes) y (suc height) rest) (sym c.2) (list_is c.1)))

map_whole : (n : ℕ) (bytes : List ℕ) (e : Ended) (once : e.repeated ≡ false) (low_enough : e.height ≤ 64) → Closed n e once low_enough (suc (length bytes)) (pairs []) [] 1 bytes → IsFlow n (123 ∷ bytes) e.node e.height e.rest
map_whole n bytes e once low_enough (closed_by height rest node i lt c q) =
    let same : record { node = node; height = max 1 (0 + 1 + height); repeated = false; rest = rest } ≡ e = cc in
    let high : suc height ≡ max 1 (0 + 1 + height) = omega arith in
    subst (λ (z : Ended). IsFlow n (123 ∷ bytes) z.node z.height z.rest) same (subst (λ (h : ℕ). IsFlow n (123 ∷ bytes) node h rest) high (subst (λ (y : Node). IsFlow n (123 ∷ bytes) y (suc height) rest) (sym c.3) (map_is c.1)))

pub flow_found : (n b : ℕ) (bytes : List ℕ) (e : Ended) → start b bytes ≡ starts.InBrackets → flow n (b == 123) bytes ≡ Ok e → e.repeated ≡ false → e.height ≤ 64 → IsFlow n (b ∷ bytes) e.node e.height e.rest
unfolding flow
flow_found n b bytes e s q once low_enough = elim (bracket_is b bytes s) [
  | inl is ↦
      let q' : run (suc (length bytes)) (at n (list_frame []) [] false 1 false bytes) ≡ Ok e = subst (λ (c : ℕ). flow n (c == 123) bytes ≡ Ok e) is q in
      subst (λ (c : ℕ). IsFlow n (c ∷ bytes) e.node e.height e.rest) (sym is) (list_whole n bytes e once low_enough (steps_found n e once low_enough (suc (length bytes)) (items []) [] 1 bytes false (omega arith) q'))
  | inr is ↦
      let q' : run (suc (length bytes)) (at n (map_frame [] None) [] false 1 false bytes) ≡ Ok e = subst (λ (c : ℕ). flow n (c == 123) bytes ≡ Ok e) is q in
      subst (λ (c : ℕ). IsFlow n (c ∷ bytes) e.node e.height e.rest) (sym is) (map_whole n bytes e once low_enough (steps_found n e once low_enough (suc (length bytes)) (pairs []) [] 1 bytes false (omega arith) q'))
]
