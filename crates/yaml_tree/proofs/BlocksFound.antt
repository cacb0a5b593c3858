-- Block scalars, read and in their grammar.
use Rattle.std.proofs.Common.{◌≡◌, ℕ, ◌+◌, ◌-◌, ◌≤◌, Bool, true, false, inl, inr, List, [], ◌∷◌, ◌++◌, drop, Some, Ok, refl, sym, ap, subst, ◌∙◌, append_assoc, zero-add, arith}
use Rattle.std.specs.Prelude.{◌==◌, nat_lt}
use Rattle.std.proofs.lemmas.Bool.{eqb-true, ltb-true, ltb-false, lt-ltb, le-ltb}
use Rattle.std.proofs.lemmas.List.{append-nil}
use Rattle.yaml_scan.specs.declared.line.RawLine.{RawLine}
use Rattle.yaml_scan.specs.declared.fault.Code.TheVariants.{LeftOut}
use Rattle.yaml_scan.specs.Answers.{stop}
use Rattle.yaml_scan.specs.Words.{sees, is_empty, nothing_left, times}
use Rattle.yaml_scan.specs.Block.{State, added, begun, ended, body, opening, headed, block}
use Rattle.yaml_tree.specs.Blocks.{IsHead, clipped, stripped, IsAbsent, none as no_line, blank as blank_absent, left as left_absent, IsFirst, blank as blank_first, here as first_here, IsContent, none as content_ends, left as left_content, spaces, line, AreEmpty, none as none_empty, empty as one_empty, IsNext, empty as empty_next, here as next_here, between, IsJoined, last, next, at_end, IsBlock, absent, content}
use Rattle.yaml_tree.proofs.LinesFound.{tested}

-- ---- lines of the content

adds : State → List (List ℕ) → State
adds s [] = s
adds s (x ∷ xs) = adds (added s x) xs

-- behind a line, and so many empty ones behind it
abbrev at_line : Bool → List ℕ → List ℕ → ℕ → State
at_line fold text x k = record { fold = fold; text = text; last = Some (sees 32 x); empties = k }

module _ (fold : Bool) where
  -- what the lines behind one add to its text, with so many empty ones in between
  data Follows (x : List ℕ) (k : ℕ) (xs : List (List ℕ)) (t : List ℕ) : Type 0 where
    over : AreEmpty xs → t ≡ [] → Follows x k xs t
    more : {y text : List ℕ} {rest : List (List ℕ)} {j : ℕ} → IsNext xs j y rest → IsJoined fold y rest text → t ≡ between fold x y (k + j) ++ text → Follows x k xs t

  joined : (x : List ℕ) (xs : List (List ℕ)) (t : List ℕ) → Follows x 0 xs t → IsJoined fold x xs (x ++ t)
  joined x xs t (over a e) = subst (λ (w : List ℕ). IsJoined fold x xs w) (sym (append-nil x) ∙ ap (λ (w : List ℕ). x ++ w) (sym e)) (last a)
  joined x xs t (more {y = y} {text = text} {j = j} n i e) =
      subst (λ (w : List ℕ). IsJoined fold x xs w) (ap (λ (w : List ℕ). x ++ w) (sym (e ∙ ap (λ (m : ℕ). between fold x y m ++ text) (zero-add j)))) (next n i)

  one_more : (x : List ℕ) (k : ℕ) (xs : List (List ℕ)) (t : List ℕ) → Follows x (k + 1) xs t → Follows x k ([] ∷ xs) t
  one_more x k xs t (over a e) = over (one_empty a) e
  one_more x k xs t (more {y = y} {text = text} {j = j} n i e) =
      let same : k + 1 + j ≡ k + (j + 1) = omega arith in
      more (empty_next n) i (e ∙ ap (λ (m : ℕ). between fold x y m ++ text) same)

  line_behind : (text piece y t : List ℕ) → ((text ++ piece) ++ y) ++ t ≡ text ++ (piece ++ (y ++ t))
  line_behind text piece y t = append_assoc (text ++ piece) y t ∙ append_assoc text piece (y ++ t)

  adds_found : (xs : List (List ℕ)) (text x : List ℕ) (k : ℕ) → (t : List ℕ) × Follows x k xs t × ((adds (at_line fold text x k) xs).text ≡ text ++ t)
  unfolding adds
  adds_found [] text x k = ([], over none_empty refl, sym (append-nil text))
  adds_found ([] ∷ xs) text x k =
      let r = adds_found xs text x (k + 1) in
      (r.0, one_more x k xs r.0 r.1, r.2)
  adds_found ((b ∷ y) ∷ xs) text x k =
      let r = adds_found xs ((text ++ between fold x (b ∷ y) k) ++ b ∷ y) (b ∷ y) 0 in
      let same : k ≡ k + 0 = omega arith in (
        between fold x (b ∷ y) k ++ (b ∷ y ++ r.0),
        more (next_here refl) (joined (b ∷ y) xs r.0 r.1) (ap (λ (m : ℕ). between fold x (b ∷ y) m ++ (b ∷ y ++ r.0)) same),
        r.2 ∙ line_behind text (between fold x (b ∷ y) k) (b ∷ y) r.0,
      )

  empty_read : {xs : List (List ℕ)} → AreEmpty xs → (text x : List ℕ) (k : ℕ) → (adds (at_line fold text x k) xs).text ≡ text
  unfolding adds
  empty_read none_empty text x k = refl
  empty_read (one_empty a) text x k = empty_read a text x (k + 1)

  next_read : {xs rest : List (List ℕ)} {j : ℕ} {y : List ℕ} → IsNext xs j y rest → (text x : List ℕ) (k : ℕ) → adds (at_line fold text x k) xs ≡ adds (at_line fold ((text ++ between fold x y (k + j)) ++ y) y 0) rest
  unfolding adds
  next_read (empty_next {rest = rest} {k = j} {x = y} n) text x k =
      let same : k + 1 + j ≡ k + (j + 1) = omega arith in
      next_read n text x (k + 1) ∙ ap (λ (m : ℕ). adds (at_line fold ((text ++ between fold x y m) ++ y) y 0) rest) same
  next_read (next_here {x = y} {xs = rest} h) text x k =
      let same : k ≡ k + 0 = omega arith in
      rw h (ap (λ (m : ℕ). adds (at_line fold ((text ++ between fold x y m) ++ y) y 0) rest) same)

  joined_read : {x t : List ℕ} {xs : List (List ℕ)} → IsJoined fold x xs t → (front : List ℕ) → (adds (at_line fold (front ++ x) x 0) xs).text ≡ front ++ t
  joined_read (last {x = x} a) front = empty_read a (front ++ x) x 0
  joined_read (next {x = x} {y = y} {text = text} {k = k} n i) front =
      ap (λ (s : State). s.text) (next_read n (front ++ x) x 0) ∙ joined_read i ((front ++ x) ++ between fold x y (0 + k)) ∙ ap (λ (m : ℕ). ((front ++ x) ++ between fold x y m) ++ text) (zero-add k)
      ∙ append_assoc (front ++ x) (between fold x y k) text ∙ append_assoc front x (between fold x y k ++ text)

-- ---- the content

empty_is : (bytes : List ℕ) → is_empty bytes ≡ true → bytes ≡ []
empty_is [] e = refl
empty_is (b ∷ bytes) e = absurd cc

spaces_only : (l : RawLine) (indent : ℕ) → is_empty l.content ≡ true → times (l.indent - indent) 32 ++ l.content ≡ times (l.indent - indent) 32
spaces_only l indent h = ap (λ (x : List ℕ). times (l.indent - indent) 32 ++ x) (empty_is l.content h) ∙ append-nil (times (l.indent - indent) 32)

module _ (strip : Bool) (indent : ℕ) where
  body_found : (ls : List RawLine) (s : State) (t : List ℕ) (ls' : List RawLine) → body strip indent s ls ≡ Ok (t, ls') → (xs : List (List ℕ)) × IsContent indent ls xs ls' × (ended strip (adds s xs) ≡ t)
  unfolding body adds
  body_found [] s t ls' e =
      let p : (ended strip s, []) ≡ (t, ls') = cc in
      ([], subst (λ (z : List ℕ × List RawLine). IsContent indent [] [] z.1) p content_ends, ap (λ (z : List ℕ × List RawLine). z.0) p)
  body_found (l ∷ ls) s t ls' e =
      elim (tested (is_empty l.content)) [
        | inl h ↦
            let r = body_found ls (added s (times (l.indent - indent) 32 ++ l.content)) t ls' (rw h at e) in
            (times (l.indent - indent) 32 ∷ r.0, spaces h r.1, ap (λ (x : List ℕ). ended strip (adds (added s x) r.0)) (sym (spaces_only l indent h)) ∙ r.2)
        | inr h ↦ elim (tested (nat_lt l.indent indent)) [
          | inl c ↦
              let q : Ok (ended strip s, l ∷ ls) ≡ Ok (t, ls') = rw (h, c) at e in
              let p : (ended strip s, l ∷ ls) ≡ (t, ls') = cc in
              ([], subst (λ (z : List ℕ × List RawLine). IsContent indent (l ∷ ls) [] z.1) p (left_content h (ltb-true l.indent indent c)), ap (λ (z : List ℕ × List RawLine). z.0) p)
          | inr c ↦
              let r = body_found ls (added s (times (l.indent - indent) 32 ++ l.content)) t ls' (rw (h, c) at e) in
              ((times (l.indent - indent) 32 ++ l.content) ∷ r.0, line h (ltb-false l.indent indent c) r.1, r.2)
        ]
      ]

  body_read : {ls ls' : List RawLine} {xs : List (List ℕ)} → IsContent indent ls xs ls' → (s : State) → body strip indent s ls ≡ Ok (ended strip (adds s xs), ls')
  unfolding body adds
  body_read content_ends s = refl
  body_read (left_content {l = l} h lt) s = rw (h, lt-ltb l.indent indent lt) refl
  body_read (spaces {l = l} {rest = ls'} {xs = xs} h i) s =
      rw h (body_read i (added s (times (l.indent - indent) 32 ++ l.content)) ∙ ap (λ (x : List ℕ). Ok (ended strip (adds (added s x) xs), ls')) (spaces_only l indent h))
  body_read (line {l = l} h le i) s = rw (h, le-ltb l.indent indent le) (body_read i (added s (times (l.indent - indent) 32 ++ l.content)))

-- ---- the first line

some_front : (xs ys : List ℕ) → is_empty xs ≡ false → is_empty (xs ++ ys) ≡ false
some_front [] ys e = absurd cc
some_front (x ∷ xs) ys e = refl

some_end : (xs ys : List ℕ) → is_empty ys ≡ false → is_empty (xs ++ ys) ≡ false
some_end [] ys e = e
some_end (x ∷ xs) ys e = refl

ended_is : (strip : Bool) (s : State) → is_empty s.text ≡ false → ended strip s ≡ s.text ++ at_end strip
ended_is true s e = sym (append-nil s.text)
ended_is false s e = rw e refl

module _ (fold strip : Bool) (floor : ℕ) where
  -- The first line stands at its own indent.
  first_line : (l : RawLine) (ls : List RawLine) (n : ℕ) → is_empty l.content ≡ false → body strip l.indent (begun fold n) (l ∷ ls) ≡ body strip l.indent (at_line fold (times n 10 ++ l.content) l.content 0) ls
  unfolding body times
  first_line l ls n h =
      let none : l.indent - l.indent ≡ 0 = omega arith in
      rw (h, le-ltb l.indent l.indent (omega arith), none, h) refl

  -- what is read behind so many blank lines
  data Opens (n : ℕ) (ls : List RawLine) (t : List ℕ) (ls' : List RawLine) : Type 0 where
    no_content : IsAbsent floor ls ls' → t ≡ [] → Opens n ls t ls'
    begins : {k : ℕ} {l : RawLine} {behind : List RawLine} {xs : List (List ℕ)} {text : List ℕ}
        → IsFirst floor ls k l behind → IsContent l.indent behind xs ls' → IsJoined fold l.content xs text → t ≡ (times (n + k) 10 ++ text) ++ at_end strip → Opens n ls t ls'

  one_blank : (n : ℕ) (l : RawLine) (ls : List RawLine) (t : List ℕ) (ls' : List RawLine) → is_empty l.content ≡ true → Opens (n + 1) ls t ls' → Opens n (l ∷ ls) t ls'
  one_blank n l ls t ls' h (no_content a e) = no_content (blank_absent h a) e
  one_blank n l ls t ls' h (begins {k = k} {text = text} f c j e) =
      let same : n + 1 + k ≡ n + (k + 1) = omega arith in
      begins (blank_first h f) c j (e ∙ ap (λ (m : ℕ). (times m 10 ++ text) ++ at_end strip) same)

  content_here : (n : ℕ) (l : RawLine) (ls : List RawLine) (t : List ℕ) (ls' : List RawLine) → is_empty l.content ≡ false → floor ≤ l.indent → body strip l.indent (at_line fold (times n 10 ++ l.content) l.content 0) ls ≡ Ok (t, ls') → Opens n (l ∷ ls) t ls'
  content_here n l ls t ls' h le e =
      let r = body_found strip l.indent ls (at_line fold (times n 10 ++ l.content) l.content 0) t ls' e in
      let a = adds_found fold r.0 (times n 10 ++ l.content) l.content 0 in
      let s : State = adds (at_line fold (times n 10 ++ l.content) l.content 0) r.0 in
      let some : is_empty s.text ≡ false = ap is_empty a.2 ∙ some_front (times n 10 ++ l.content) a.0 (some_end (times n 10) l.content h) in
      let same : n ≡ n + 0 = omega arith in
      begins (first_here h le) r.1 (joined fold l.content r.0 a.0 a.1)
      (sym r.2 ∙ ended_is strip s some ∙ ap (λ (x : List ℕ). x ++ at_end strip) (a.2 ∙ append_assoc (times n 10) l.content a.0) ∙ ap (λ (m : ℕ). (times m 10 ++ (l.content ++ a.0)) ++ at_end strip) same)

  opening_found : (ls : List RawLine) (n : ℕ) (t : List ℕ) (ls' : List RawLine) → opening fold strip floor n ls ≡ Ok (t, ls') → Opens n ls t ls'
  unfolding opening
  opening_found [] n t ls' e =
      let p : ([], []) ≡ (t, ls') = cc in
      subst (λ (z : List ℕ × List RawLine). Opens n [] z.0 z.1) p (no_content no_line refl)
  opening_found (l ∷ ls) n t ls' e =
      elim (tested (is_empty l.content)) [
        | inl h ↦ one_blank n l ls t ls' h (opening_found ls (n + 1) t ls' (rw h at e))
        | inr h ↦ elim (tested (nat_lt l.indent floor)) [
          | inl c ↦
              let q : Ok ([], l ∷ ls) ≡ Ok (t, ls') = rw (h, c) at e in
              let p : ([], l ∷ ls) ≡ (t, ls') = cc in
              subst (λ (z : List ℕ × List RawLine). Opens n (l ∷ ls) z.0 z.1) p (no_content (left_absent h (ltb-true l.indent floor c)) refl)
          | inr c ↦ content_here n l ls t ls' h (ltb-false l.indent floor c) (sym (first_line l ls n h) ∙ (rw (h, c) at e))
        ]
      ]

  absent_read : {ls ls' : List RawLine} → IsAbsent floor ls ls' → (n : ℕ) → opening fold strip floor n ls ≡ Ok ([], ls')
  unfolding opening
  absent_read no_line n = refl
  absent_read (blank_absent h a) n = rw h (absent_read a (n + 1))
  absent_read (left_absent {l = l} h lt) n = rw (h, lt-ltb l.indent floor lt) refl

  first_some : {ls behind : List RawLine} {k : ℕ} {l : RawLine} → IsFirst floor ls k l behind → is_empty l.content ≡ false
  first_some (blank_first h f) = first_some f
  first_some (first_here h le) = h

  first_read : {ls behind : List RawLine} {k : ℕ} {l : RawLine} → IsFirst floor ls k l behind → (n : ℕ) → opening fold strip floor n ls ≡ body strip l.indent (at_line fold (times (n + k) 10 ++ l.content) l.content 0) behind
  unfolding opening
  first_read (blank_first {first = l} {rest = behind} {k = k} h f) n =
      let same : n + 1 + k ≡ n + (k + 1) = omega arith in
      rw h (first_read f (n + 1) ∙ ap (λ (m : ℕ). body strip l.indent (at_line fold (times m 10 ++ l.content) l.content 0) behind) same)
  first_read (first_here {l = l} {ls = behind} h le) n =
      let same : n ≡ n + 0 = omega arith in
      rw (h, le-ltb l.indent floor le) (first_line l behind n h ∙ ap (λ (m : ℕ). body strip l.indent (at_line fold (times m 10 ++ l.content) l.content 0) behind) same)

  content_read : {ls behind ls' : List RawLine} {k : ℕ} {l : RawLine} {xs : List (List ℕ)} {text : List ℕ} → IsFirst floor ls k l behind → IsContent l.indent behind xs ls' → IsJoined fold l.content xs text
      → opening fold strip floor 0 ls ≡ Ok ((times k 10 ++ text) ++ at_end strip, ls')
  content_read {ls' = ls'} {k = k} {l = l} {xs = xs} {text = text} f c j =
      let s : State = adds (at_line fold (times (0 + k) 10 ++ l.content) l.content 0) xs in
      let text_is : s.text ≡ times (0 + k) 10 ++ text = joined_read fold j (times (0 + k) 10) in
      let a = adds_found fold xs (times (0 + k) 10 ++ l.content) l.content 0 in
      let some : is_empty s.text ≡ false = ap is_empty a.2 ∙ some_front (times (0 + k) 10 ++ l.content) a.0 (some_end (times (0 + k) 10) l.content (first_some f)) in
      first_read f 0 ∙ body_read strip l.indent c (at_line fold (times (0 + k) 10 ++ l.content) l.content 0)
      ∙ ap (λ (x : List ℕ). Ok (x, ls')) (ended_is strip s some ∙ ap (λ (x : List ℕ). x ++ at_end strip) text_is ∙ ap (λ (m : ℕ). (times m 10 ++ text) ++ at_end strip) (zero-add k))

-- ---- what stands behind the sign

no_dash : (bytes : List ℕ) → nothing_left false bytes ≡ true → sees 45 bytes ≡ false
unfolding nothing_left
no_dash [] e = refl
no_dash (b ∷ bytes) e = elim (tested (b == 45)) [
  | inr h ↦ h
  | inl h ↦ absurd (let q : nothing_left false (45 ∷ bytes) ≡ true = subst (λ (c : ℕ). nothing_left false (c ∷ bytes) ≡ true) (eqb-true b 45 h) e in cc)
]

dash_is : (bytes : List ℕ) → sees 45 bytes ≡ true → 45 ∷ drop 1 bytes ≡ bytes
dash_is [] e = absurd cc
dash_is (b ∷ bytes) e = ap (λ (c : ℕ). c ∷ bytes) (sym (eqb-true b 45 e))

module _ (floor : ℕ) (fold : Bool) where
  headed_found : (strip : Bool) (n : ℕ) (bytes : List ℕ) (ls : List RawLine) (x : List ℕ × List RawLine) → headed fold strip floor n bytes ls ≡ Ok x → (nothing_left false bytes ≡ true) × (opening fold strip floor 0 ls ≡ Ok x)
  headed_found strip n bytes ls x e = elim (tested (nothing_left false bytes)) [
    | inl h ↦ (h, rw h at e)
    | inr h ↦ absurd (let q : stop n LeftOut ≡ Ok x = rw h at e in cc)
  ]

  opened : (strip : Bool) (bytes : List ℕ) (ls : List RawLine) (t : List ℕ) (ls' : List RawLine) → IsHead bytes strip → Opens fold strip floor 0 ls t ls' → IsBlock floor fold bytes ls t ls'
  opened strip bytes ls t ls' h (no_content a e) = subst (λ (x : List ℕ). IsBlock floor fold bytes ls x ls') (sym e) (absent h a)
  opened strip bytes ls t ls' h (begins {k = k} {text = text} f c j e) =
      subst (λ (x : List ℕ). IsBlock floor fold bytes ls x ls') (sym (e ∙ ap (λ (m : ℕ). (times m 10 ++ text) ++ at_end strip) (zero-add k))) (content h f c j)

  pub block_found : (n : ℕ) (bytes : List ℕ) (ls : List RawLine) (t : List ℕ) (ls' : List RawLine) → block floor n fold bytes ls ≡ Ok (t, ls') → IsBlock floor fold bytes ls t ls'
  unfolding block
  block_found n bytes ls t ls' e =
      elim (tested (sees 45 bytes)) [
        | inl h ↦
            let r = headed_found true n (drop 1 bytes) ls (t, ls') (rw h at e) in
            opened true bytes ls t ls' (subst (λ (x : List ℕ). IsHead x true) (dash_is bytes h) (stripped r.0)) (opening_found fold true floor ls 0 t ls' r.1)
        | inr h ↦
            let r = headed_found false n bytes ls (t, ls') (rw h at e) in
            opened false bytes ls t ls' (clipped r.0) (opening_found fold false floor ls 0 t ls' r.1)
      ]

  head_read : {bytes : List ℕ} {strip : Bool} → IsHead bytes strip → (n : ℕ) (ls : List RawLine) → block floor n fold bytes ls ≡ opening fold strip floor 0 ls
  unfolding block
  head_read (clipped {bytes = bytes} e) n ls = rw (no_dash bytes e, e) refl
  head_read (stripped e) n ls = rw e refl

  pub block_read : {bytes t : List ℕ} {ls ls' : List RawLine} → IsBlock floor fold bytes ls t ls' → (n : ℕ) → block floor n fold bytes ls ≡ Ok (t, ls')
  block_read (absent {ls = ls} {strip = strip} h a) n = head_read h n ls ∙ absent_read fold strip floor a 0
  block_read (content {ls = ls} {strip = strip} h f c j) n = head_read h n ls ∙ content_read fold strip floor f c j
