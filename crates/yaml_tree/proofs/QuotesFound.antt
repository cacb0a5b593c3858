-- Quoted scalars that are read are in their grammar.
use Rattle.std.proofs.Common.{◌≡◌, ℕ, zero, suc, ◌+◌, ◌-◌, ◌*◌, ◌≤◌, ◌<◌, Bool, true, false, cond, ◌||◌, ◌&&◌, ◌⊎◌, inl, inr, List, [], ◌∷◌, ◌++◌, length, Option, Some, None, Ok, refl, sym, ap, subst, ◌∙◌, append_assoc, zero-add, arith}
use Rattle.std.specs.Prelude.{◌==◌, nat_lt, nat_le, encode_utf8}
use Rattle.std.proofs.lemmas.Bool.{eqb-true, ltb-true, ltb-false, lt-ltb, le-ltb, lt-leb}
use Rattle.std.proofs.lemmas.List.{append-nil}
use Rattle.yaml_scan.specs.declared.line.RawLine.{RawLine}
use Rattle.yaml_scan.specs.declared.fault.Code.TheVariants.{Structure}
use Rattle.yaml_scan.specs.declared.quoted.Last.{Last}
use Rattle.yaml_scan.specs.declared.quoted.Last.TheVariants.{Usual, Quote, Backslash, Digits}
use Rattle.yaml_scan.specs.Answers.{Reading, stop}
use Rattle.yaml_scan.specs.Words.{sees, is_blank, is_some, nothing_left, without_blanks, only_blanks}
use Rattle.yaml_scan.specs.Quoted.{State, escape, digits_behind, hex, shifted, is_character, noted, added, awaits, spoiled, waits, usual_step, character, escaped, digit_step, step_by, step, is_backslash, is_digits, is_closed, run, break, next_line, finished, led, further, quoted}
use Rattle.yaml_tree.specs.Quotes.{IsNext, blank, here, IsDigits, none, digit, IsInside, close, doubled, byte, escaped as escaped_is, numbered, broken, joined, IsQuoted, quoted as quoted_is}
use Rattle.yaml_tree.proofs.LinesFound.{tested, and_true}

-- ---- a bad escape is never forgotten

noted_some : (o : Option ℕ) (n : ℕ) → is_some (noted o n) ≡ true
noted_some None n = refl
noted_some (Some k) n = refl

pick_bad : (c : Bool) (x y : State) → is_some x.bad ≡ true → is_some y.bad ≡ true → is_some (cond c x y).bad ≡ true
pick_bad true x y p q = p
pick_bad false x y p q = q

pub usual_bad : (s : State) (b : ℕ) → is_some s.bad ≡ true → is_some (usual_step s b).bad ≡ true
usual_bad s b h =
    pick_bad (b == s.quote) (awaits s Quote) (cond (b == 92 && s.quote == 34) (awaits s Backslash) (cond (is_blank b) (waits s b) (added s (b ∷ [])))) h
    (pick_bad (b == 92 && s.quote == 34) (awaits s Backslash) (cond (is_blank b) (waits s b) (added s (b ∷ []))) h (pick_bad (is_blank b) (waits s b) (added s (b ∷ [])) h h))

character_bad : (s : State) (n : ℕ) → is_some s.bad ≡ true → is_some (character s n).bad ≡ true
character_bad s n h = pick_bad (is_character n) (added s (encode_utf8 n)) (spoiled s) h (noted_some s.bad s.line)

escaped_bad : (s : State) (o : Option ℕ) → is_some s.bad ≡ true → is_some (escaped s o).bad ≡ true
escaped_bad s (Some n) h = character_bad s n h
escaped_bad s None h = noted_some s.bad s.line

digit_bad : (s : State) (wanted value b : ℕ) (o : Option ℕ) → is_some s.bad ≡ true → is_some (digit_step s wanted value b o).bad ≡ true
digit_bad s wanted value b (Some d) h = pick_bad (nat_le wanted 1) (character s (shifted value d)) (awaits s (Digits (wanted - 1) (shifted value d))) (character_bad s (shifted value d) h) h
digit_bad s wanted value b None h = usual_bad (spoiled s) b (noted_some s.bad s.line)

step_bad : (l : Last) (s : State) (b : ℕ) → is_some s.bad ≡ true → is_some (step_by l s b).bad ≡ true
step_bad Usual s b h = usual_bad s b h
step_bad Quote s b h = h
step_bad Backslash s b h = pick_bad (digits_behind b == 0) (escaped s (escape b)) (awaits s (Digits (digits_behind b) 0)) (escaped_bad s (escape b) h) h
step_bad (Digits wanted value) s b h = digit_bad s wanted value b (hex b) h

pub run_bad : (bytes : List ℕ) (s : State) → is_some s.bad ≡ true → is_some (run s bytes).0.bad ≡ true
unfolding run
run_bad [] s h = h
run_bad (b ∷ bytes) s h = elim (tested (is_closed s b)) [
  | inl k ↦ rw k h
  | inr k ↦ rw k (run_bad bytes (step s b) (step_bad s.last s b h))
]

led_bad : (s : State) (bad : Option ℕ) (end : Option (List ℕ)) (ls : List RawLine) (more : Reading (List ℕ)) (x : List ℕ × List RawLine) → s.bad ≡ bad → is_some bad ≡ true → (more ≡ Ok x → ⊥) → led s end ls more ≡ Ok x → ⊥
led_bad s None end ls more x is h m e = cc
led_bad s (Some n) None ls more x is h m e = m e
led_bad s (Some n) (Some rest) ls more x is h m e = let q : stop n Structure ≡ Ok x = rw is at e in cc

-- what reading from here on gives
abbrev Go : ℕ → ℕ → State → List ℕ → List RawLine → Reading (List ℕ)
Go floor first s bytes ls = led (run s bytes).0 (run s bytes).1 ls (further floor first 0 (run s bytes).0 ls)

next_bad : (s : State) (k n : ℕ) → is_some s.bad ≡ true → is_some (next_line s k n).bad ≡ true
next_bad s k n h = elim (tested (is_digits s.last)) [
  | inl d ↦ rw d (noted_some s.bad s.line)
  | inr d ↦ rw d h
]

further_bad : (floor first : ℕ) (ls : List RawLine) (k : ℕ) (s : State) (x : List ℕ × List RawLine) → is_some s.bad ≡ true → further floor first k s ls ≡ Ok x → ⊥
unfolding further
further_bad floor first [] k s x h e = cc
further_bad floor first (l ∷ ls) k s x h e =
    elim (tested (only_blanks l.content)) [
      | inl b ↦ further_bad floor first ls (k + 1) s x h (rw b at e)
      | inr b ↦ elim (tested (nat_lt l.indent floor)) [
        | inl c ↦ let q : stop first Structure ≡ Ok x = rw (b, c) at e in cc
        | inr c ↦
            let r : State × Option (List ℕ) = run (next_line s k l.line) (without_blanks l.content) in
            let bad = run_bad (without_blanks l.content) (next_line s k l.line) (next_bad s k l.line h) in
            led_bad r.0 r.0.bad r.1 ls (further floor first 0 r.0 ls) x refl bad (further_bad floor first ls 0 r.0 x bad) (rw (b, c) at e)
      ]
    ]

go_bad : (floor first : ℕ) (s : State) (bytes : List ℕ) (ls : List RawLine) (x : List ℕ × List RawLine) → is_some s.bad ≡ true → Go floor first s bytes ls ≡ Ok x → ⊥
go_bad floor first s bytes ls x h e =
    let bad = run_bad bytes s h in
    led_bad (run s bytes).0 (run s bytes).0.bad (run s bytes).1 ls (further floor first 0 (run s bytes).0 ls) x refl bad (further_bad floor first ls 0 (run s bytes).0 x bad) e

-- ---- numbers of characters

-- the number so far, which is no longer exact where it is past the last character
abbrev pub Near : ℕ → ℕ → Type 0
Near value exact = (value ≡ exact) ⊎ ((1114111 < value) × (1114111 < exact))

pub near_more : (value exact d : ℕ) → Near value exact → Near (shifted value d) (16 * exact + d)
near_more value exact d (inl e) =
    elim (tested (nat_lt 1114111 value)) [
      | inl h ↦ let lt : 1114111 < value = ltb-true 1114111 value h in rw h (inr (lt, omega arith))
      | inr h ↦ rw h (inl (ap (λ (x : ℕ). 16 * x + d) e))
    ]
near_more value exact d (inr p) = rw (lt-ltb 1114111 value p.0) (inr (p.0, omega (arith, p.1)))

past_false : (a b : Bool) → (a || (b && false)) ≡ true → a ≡ false → ⊥
past_false true b e f = cc
past_false false true e f = cc
past_false false false e f = cc

pub past_no_character : (value : ℕ) → 1114111 < value → is_character value ≡ true → ⊥
past_no_character value lt h =
    let small = le-ltb value 55296 (omega arith) in
    let big = le-ltb value 1114112 (omega arith) in
    let q : (nat_lt value 55296 || (nat_lt 57343 value && false)) ≡ true = rw big at h in
    past_false (nat_lt value 55296) (nat_lt 57343 value) q small

pub near_character : (value exact : ℕ) → Near value exact → is_character value ≡ true → value ≡ exact
near_character value exact (inl e) h = e
near_character value exact (inr p) h = absurd (past_no_character value p.0 h)

-- ---- scalars

abbrev pub at_last : ℕ → ℕ → Last → List ℕ → List ℕ → Option ℕ → State
at_last quote n last text blanks bad = record { quote = quote; line = n; last = last; text = text; blanks = blanks; bad = bad }

-- blanks that wait are dropped where the line ends
abbrev pub kept : List ℕ → List ℕ → List ℕ
kept blanks bytes = cond (only_blanks bytes) [] blanks

pub kept_none : (bytes : List ℕ) → kept [] bytes ≡ []
kept_none bytes = elim (tested (only_blanks bytes)) [ inl h ↦ rw h refl | inr h ↦ rw h refl ]

none_of : (o : Option ℕ) → (is_some o ≡ true → ⊥) → o ≡ None
none_of None h = refl
none_of (Some n) h = absurd (h refl)

digits_none : (d : Bool) (bad : Option ℕ) (n : ℕ) → cond d (noted bad n) bad ≡ None → (d ≡ false) × (bad ≡ None)
digits_none true None n e = absurd cc
digits_none true (Some k) n e = absurd cc
digits_none false bad n e = (refl, e)

module _ (quote floor first : ℕ) (two : (quote ≡ 39) ⊎ (quote ≡ 34)) where
  -- what is read from this state on
  data Says (text blanks bytes : List ℕ) (ls : List RawLine) (t : List ℕ) (ls' : List RawLine) : Type 0 where
    says : {body rest : List ℕ} → IsInside quote floor bytes ls body rest ls' → nothing_left false rest ≡ true → t ≡ (text ++ kept blanks bytes) ++ body → Says text blanks bytes ls t ls'

  -- what is read from the next lines on
  data Goes (k : ℕ) (last : Last) (text : List ℕ) (bad : Option ℕ) (ls : List RawLine) (t : List ℕ) (ls' : List RawLine) : Type 0 where
    goes : {j : ℕ} {next body rest : List ℕ} {behind : List RawLine} → IsNext floor ls j next behind → IsInside quote floor next behind body rest ls' → nothing_left false rest ≡ true
        → t ≡ (text ++ break (is_backslash last) (k + j)) ++ body → bad ≡ None → is_digits last ≡ false → Goes k last text bad ls t ls'

  abbrev Inner : List RawLine → Type 0
  Inner ls = (n : ℕ) (text blanks bytes t : List ℕ) (ls' : List RawLine) → Go floor first (at_last quote n Usual text blanks None) bytes ls ≡ Ok (t, ls') → Says text blanks bytes ls t ls'

  abbrev Outer : List RawLine → Type 0
  Outer ls = (k n : ℕ) (last : Last) (text blanks : List ℕ) (bad : Option ℕ) (t : List ℕ) (ls' : List RawLine) → further floor first k (at_last quote n last text blanks bad) ls ≡ Ok (t, ls') → Goes k last text bad ls t ls'

  no_blank_quote : is_blank quote ≡ false
  no_blank_quote = elim two [ inl e ↦ rw e refl | inr e ↦ rw e refl ]

  -- one line more
  goes_blank : (k : ℕ) (last : Last) (text : List ℕ) (bad : Option ℕ) (l : RawLine) (ls : List RawLine) (t : List ℕ) (ls' : List RawLine) → only_blanks l.content ≡ true → Goes (k + 1) last text bad ls t ls' → Goes k last text bad (l ∷ ls) t ls'
  goes_blank k last text bad l ls t ls' h (goes {j = j} {body = body} n i e f b d) =
      let same : k + 1 + j ≡ k + (j + 1) = omega arith in
      goes (blank h n) i e (f ∙ ap (λ (m : ℕ). (text ++ break (is_backslash last) m) ++ body) same) b d

  goes_here : (k : ℕ) (last : Last) (text : List ℕ) (bad : Option ℕ) (l : RawLine) (ls : List RawLine) (t : List ℕ) (ls' : List RawLine) → only_blanks l.content ≡ false → floor ≤ l.indent → bad ≡ None → is_digits last ≡ false
      → Says (text ++ break (is_backslash last) k) [] (without_blanks l.content) ls t ls' → Goes k last text bad (l ∷ ls) t ls'
  goes_here k last text bad l ls t ls' h le b d (says {body = body} i e f) =
      let same : k ≡ k + 0 = omega arith in
      goes (here h le) i e (f ∙ ap (λ (x : List ℕ). ((text ++ break (is_backslash last) k) ++ x) ++ body) (kept_none (without_blanks l.content)) ∙ ap (λ (x : List ℕ). x ++ body) (append-nil (text ++ break (is_backslash last) k)) ∙ ap (λ (m : ℕ). (text ++ break (is_backslash last) m) ++ body) same) b d

  outer_more : (l : RawLine) (ls : List RawLine) → Inner ls → Outer ls → Outer (l ∷ ls)
  unfolding further
  outer_more l ls inner outer k n last text blanks bad t ls' e =
      elim (tested (only_blanks l.content)) [
        | inl h ↦ goes_blank k last text bad l ls t ls' h (outer (k + 1) n last text blanks bad t ls' (rw h at e))
        | inr h ↦ elim (tested (nat_lt l.indent floor)) [
          | inl c ↦ absurd (let q : stop first Structure ≡ Ok (t, ls') = rw (h, c) at e in cc)
          | inr c ↦
              let s : State = at_last quote n last text blanks bad in
              let e' : Go floor first (next_line s k l.line) (without_blanks l.content) ls ≡ Ok (t, ls') = rw (h, c) at e in
              let no_bad : (next_line s k l.line).bad ≡ None = none_of (next_line s k l.line).bad (λ b. go_bad floor first (next_line s k l.line) (without_blanks l.content) ls (t, ls') b e') in
              let parts = digits_none (is_digits last) bad n no_bad in
              let e'' : Go floor first (at_last quote l.line Usual (text ++ break (is_backslash last) k) [] None) (without_blanks l.content) ls ≡ Ok (t, ls') =
              subst (λ (o : Option ℕ). Go floor first (at_last quote l.line Usual (text ++ break (is_backslash last) k) [] o) (without_blanks l.content) ls ≡ Ok (t, ls')) no_bad e' in
              goes_here k last text bad l ls t ls' h (ltb-false l.indent floor c) parts.1 parts.0 (inner l.line (text ++ break (is_backslash last) k) [] (without_blanks l.content) t ls' e'')
        ]
      ]

  -- ---- on one line

  -- at the end of a line
  ends : (text blanks : List ℕ) (ls : List RawLine) (t : List ℕ) (ls' : List RawLine) → Goes 0 Usual text None ls t ls' → Says text blanks [] ls t ls'
  unfolding only_blanks
  ends text blanks ls t ls' (goes {j = j} {body = body} n i e f b d) =
      says (broken refl n i) e
      (f ∙ ap (λ (m : ℕ). (text ++ break false m) ++ body) (zero-add j) ∙ append_assoc text (break false j) body ∙ ap (λ (x : List ℕ). x ++ (break false j ++ body)) (sym (append-nil text)))

  -- a closing quote
  closed : (s : State) (text blanks rest : List ℕ) (b : ℕ) (ls : List RawLine) (t : List ℕ) (ls' : List RawLine) → s.bad ≡ None → s.text ≡ text ++ blanks → (b == quote) ≡ true → (quote == 39 && sees 39 rest) ≡ false
      → finished s rest ls ≡ Ok (t, ls') → Says text blanks (b ∷ rest) ls t ls'
  unfolding only_blanks
  closed s text blanks rest b ls t ls' bad is h no_more e =
      elim (tested (nothing_left false rest)) [
        | inr c ↦ absurd (let q : stop s.line Structure ≡ Ok (t, ls') = rw (bad, c) at e in cc)
        | inl c ↦
            let q : Ok (s.text, ls) ≡ Ok (t, ls') = rw (bad, c) at e in
            let p : (s.text, ls) ≡ (t, ls') = cc in
            let text_is : s.text ≡ t = ap (λ (z : List ℕ × List RawLine). z.0) p in
            let lines_are : ls ≡ ls' = ap (λ (z : List ℕ × List RawLine). z.1) p in
            let b_is : b ≡ quote = eqb-true b quote h in
            let no_blank : is_blank b ≡ false = ap is_blank b_is ∙ no_blank_quote in
            let some : kept blanks (b ∷ rest) ≡ blanks = rw no_blank refl in
            let i : IsInside quote floor (b ∷ rest) ls [] rest ls' = subst (λ (x : ℕ). IsInside quote floor (x ∷ rest) ls [] rest ls') (sym b_is) (subst (λ (x : List RawLine). IsInside quote floor (quote ∷ rest) ls [] rest x) lines_are (close no_more)) in
            says i c (sym text_is ∙ is ∙ ap (λ (x : List ℕ). text ++ x) (sym some) ∙ sym (append-nil (text ++ kept blanks (b ∷ rest))))
      ]

  -- something that is no blank, and what stands behind it
  after : (text blanks bytes more piece : List ℕ) (b : ℕ) (ls : List RawLine) (t : List ℕ) (ls' : List RawLine) → is_blank b ≡ false
      → ((body rest : List ℕ) → IsInside quote floor more ls body rest ls' → IsInside quote floor (b ∷ bytes) ls (piece ++ body) rest ls')
      → Says ((text ++ blanks) ++ piece) [] more ls t ls' → Says text blanks (b ∷ bytes) ls t ls'
  unfolding only_blanks
  after text blanks bytes more piece b ls t ls' no_blank wraps (says {body = body} {rest = rest} i e f) =
      let some : kept blanks (b ∷ bytes) ≡ blanks = rw no_blank refl in
      says (wraps body rest i) e
      (f ∙ ap (λ (x : List ℕ). (((text ++ blanks) ++ piece) ++ x) ++ body) (kept_none more) ∙ ap (λ (x : List ℕ). x ++ body) (append-nil ((text ++ blanks) ++ piece)) ∙ append_assoc (text ++ blanks) piece body
      ∙ ap (λ (x : List ℕ). (text ++ x) ++ (piece ++ body)) (sym some))

  -- Blanks before a break are dropped with it.
  widen : {bytes s rest : List ℕ} {ls ls' : List RawLine} (b : ℕ) → is_blank b ≡ true → only_blanks bytes ≡ true → IsInside quote floor bytes ls s rest ls' → IsInside quote floor (b ∷ bytes) ls s rest ls'
  unfolding only_blanks
  widen b h o (close {rest = rest} c) = absurd (let q : false ≡ true = sym (rw no_blank_quote refl) ∙ o in cc)
  widen b h o (doubled q i) = absurd cc
  widen b h o (byte p q r i) = absurd (let z : true ≡ false = sym o ∙ r in cc)
  widen b h o (escaped_is q c i) = absurd cc
  widen b h o (numbered q d n c i) = absurd cc
  widen b h o (broken r n i) = broken (rw h o) n i
  widen b h o (joined q n i) = absurd cc

  after_blank : (text blanks bytes : List ℕ) (b : ℕ) (ls : List RawLine) (t : List ℕ) (ls' : List RawLine) → (b == quote) ≡ false → (b == 92 && quote == 34) ≡ false → is_blank b ≡ true
      → Says text (blanks ++ b ∷ []) bytes ls t ls' → Says text blanks (b ∷ bytes) ls t ls'
  unfolding only_blanks
  after_blank text blanks bytes b ls t ls' p q h (says {body = body} i e f) =
      elim (tested (only_blanks bytes)) [
        | inl o ↦ says (widen b h o i) e (rw (h, o) (rw o at f))
        | inr o ↦
            let f' : t ≡ (text ++ (blanks ++ b ∷ [])) ++ body = rw o at f in
            let some : only_blanks (b ∷ bytes) ≡ false = rw (h, o) refl in
            says (byte p q some i) e (rw some (f' ∙ ap (λ (x : List ℕ). x ++ body) (sym (append_assoc text blanks (b ∷ []))) ∙ append_assoc (text ++ blanks) (b ∷ []) body))
      ]

  -- ---- digits

  data Numbered (wanted exact : ℕ) (bytes text : List ℕ) (ls : List RawLine) (n : ℕ) (t : List ℕ) (ls' : List RawLine) : Type 0 where
    numbers : {all : ℕ} {behind : List ℕ} → IsDigits wanted exact bytes all behind → is_character all ≡ true → length behind ≤ length bytes
        → Go floor first (at_last quote n Usual (text ++ encode_utf8 all) [] None) behind ls ≡ Ok (t, ls') → Numbered wanted exact bytes text ls n t ls'

  one_digit : (exact d b : ℕ) (bytes text : List ℕ) (ls : List RawLine) (n : ℕ) (t : List ℕ) (ls' : List RawLine) (value : ℕ) → hex b ≡ Some d → Near value (16 * exact + d)
      → Go floor first (character (at_last quote n (Digits 1 0) text [] None) value) bytes ls ≡ Ok (t, ls') → Numbered (suc zero) exact (b ∷ bytes) text ls n t ls'
  one_digit exact d b bytes text ls n t ls' value h near e =
      elim (tested (is_character value)) [
        | inr c ↦ absurd (go_bad floor first (at_last quote n Usual (text ++ []) [] (Some n)) bytes ls (t, ls') refl (rw c at e))
        | inl c ↦
            let e' : Go floor first (at_last quote n Usual ((text ++ []) ++ encode_utf8 value) [] None) bytes ls ≡ Ok (t, ls') = rw c at e in
            let same = near_character value (16 * exact + d) near c in
            numbers (digit h none) (ap is_character (sym same) ∙ c) (omega arith)
            (subst (λ (v : ℕ). Go floor first (at_last quote n Usual (text ++ encode_utf8 v) [] None) bytes ls ≡ Ok (t, ls')) same
            (subst (λ (x : List ℕ). Go floor first (at_last quote n Usual (x ++ encode_utf8 value) [] None) bytes ls ≡ Ok (t, ls')) (append-nil text) e'))
      ]

  more_digits : (wanted exact d b : ℕ) (bytes text : List ℕ) (ls : List RawLine) (n : ℕ) (t : List ℕ) (ls' : List RawLine) → hex b ≡ Some d → Numbered (suc wanted) (16 * exact + d) bytes text ls n t ls' → Numbered (suc (suc wanted)) exact (b ∷ bytes) text ls n t ls'
  more_digits wanted exact d b bytes text ls n t ls' h (numbers i c le e) = numbers (digit h i) c (omega arith) e

  abbrev Digit : ℕ → List ℕ → List RawLine → List ℕ → List RawLine → Type 0
  Digit n bytes ls t ls' = (wanted value exact : ℕ) (text : List ℕ) → Near value exact → Go floor first (at_last quote n (Digits (suc wanted) value) text [] None) bytes ls ≡ Ok (t, ls') → Numbered (suc wanted) exact bytes text ls n t ls'

  by_hex : (b : ℕ) (bytes : List ℕ) (ls : List RawLine) (n : ℕ) (t : List ℕ) (ls' : List RawLine) (o : Option ℕ) → hex b ≡ o → Digit n bytes ls t ls' → (wanted value exact : ℕ) (text : List ℕ) → Near value exact
      → Go floor first (digit_step (at_last quote n (Digits (suc wanted) value) text [] None) (suc wanted) value b o) bytes ls ≡ Ok (t, ls') → Numbered (suc wanted) exact (b ∷ bytes) text ls n t ls'
  by_hex b bytes ls n t ls' None h rec wanted value exact text near e = absurd (go_bad floor first (usual_step (spoiled (at_last quote n (Digits (suc wanted) value) text [] None)) b) bytes ls (t, ls') (usual_bad (spoiled (at_last quote n (Digits (suc wanted) value) text [] None)) b refl) e)
  by_hex b bytes ls n t ls' (Some d) h rec zero value exact text near e = one_digit exact d b bytes text ls n t ls' (shifted value d) h (near_more value exact d near) e
  by_hex b bytes ls n t ls' (Some d) h rec (suc wanted) value exact text near e =
      let not_one : nat_le (suc (suc wanted)) 1 ≡ false = lt-leb (suc (suc wanted)) 1 (omega arith) in
      let one_less : suc (suc wanted) - 1 ≡ suc wanted = omega arith in
      let e' : Go floor first (at_last quote n (Digits (suc (suc wanted) - 1) (shifted value d)) (text ++ []) [] None) bytes ls ≡ Ok (t, ls') = rw not_one at e in
      let e'' : Go floor first (at_last quote n (Digits (suc wanted) (shifted value d)) text [] None) bytes ls ≡ Ok (t, ls') =
      subst (λ (w : ℕ). Go floor first (at_last quote n (Digits w (shifted value d)) text [] None) bytes ls ≡ Ok (t, ls')) one_less
      (subst (λ (x : List ℕ). Go floor first (at_last quote n (Digits (suc (suc wanted) - 1) (shifted value d)) x [] None) bytes ls ≡ Ok (t, ls')) (append-nil text) e') in
      more_digits wanted exact d b bytes text ls n t ls' h (rec wanted (shifted value d) (16 * exact + d) text (near_more value exact d near) e'')

  no_digits : (wanted value exact : ℕ) (text : List ℕ) (ls : List RawLine) (n : ℕ) (t : List ℕ) (ls' : List RawLine) → Goes 0 (Digits (suc wanted) value) text None ls t ls' → Numbered (suc wanted) exact [] text ls n t ls'
  no_digits wanted value exact text ls n t ls' (goes i j e f b d) = absurd cc

  digits_found : (bytes : List ℕ) (n : ℕ) (ls : List RawLine) (t : List ℕ) (ls' : List RawLine) → Outer ls → Digit n bytes ls t ls'
  unfolding run
  digits_found [] n ls t ls' outer wanted value exact text near e = no_digits wanted value exact text ls n t ls' (outer 0 n (Digits (suc wanted) value) text [] None t ls' e)
  digits_found (b ∷ bytes) n ls t ls' outer wanted value exact text near e = by_hex b bytes ls n t ls' (hex b) refl (digits_found bytes n ls t ls' outer) wanted value exact text near e

  -- ---- the bytes of a line

  abbrev Before : ℕ → List RawLine → Type 0
  Before k ls = (n : ℕ) (text blanks bytes t : List ℕ) (ls' : List RawLine) → length bytes < k → Go floor first (at_last quote n Usual text blanks None) bytes ls ≡ Ok (t, ls') → Says text blanks bytes ls t ls'

  and_none : (a : Bool) → (a && false) ≡ false
  and_none true = refl
  and_none false = refl

  at_quote : (k : ℕ) (ls : List RawLine) → Before k ls → (rest : List ℕ) (b n : ℕ) (text blanks t : List ℕ) (ls' : List RawLine) → length rest < k → (b == quote) ≡ true
      → Go floor first (at_last quote n Quote (text ++ blanks) [] None) rest ls ≡ Ok (t, ls') → Says text blanks (b ∷ rest) ls t ls'
  unfolding run
  at_quote k ls before [] b n text blanks t ls' lt h e = closed (at_last quote n Quote (text ++ blanks) [] None) text blanks [] b ls t ls' refl refl h (and_none (quote == 39)) e
  at_quote k ls before (c ∷ more) b n text blanks t ls' lt h e =
      elim (tested (quote == 39 && c == 39)) [
        | inr q ↦ closed (at_last quote n Quote (text ++ blanks) [] None) text blanks (c ∷ more) b ls t ls' refl refl h q (rw q at e)
        | inl q ↦
            let parts = and_true (quote == 39) (c == 39) q in
            let quote_is : quote ≡ 39 = eqb-true quote 39 parts.0 in
            let c_is : c ≡ 39 = eqb-true c 39 parts.1 in
            let b_is : b ≡ quote = eqb-true b quote h in
            let e' : Go floor first (at_last quote n Usual (((text ++ blanks) ++ []) ++ c ∷ []) [] None) more ls ≡ Ok (t, ls') = rw q at e in
            let e'' : Go floor first (at_last quote n Usual ((text ++ blanks) ++ c ∷ []) [] None) more ls ≡ Ok (t, ls') = subst (λ (x : List ℕ). Go floor first (at_last quote n Usual (x ++ c ∷ []) [] None) more ls ≡ Ok (t, ls')) (append-nil (text ++ blanks)) e' in
            after text blanks (c ∷ more) more (c ∷ []) b ls t ls' (ap is_blank b_is ∙ no_blank_quote)
            (λ body rest i. subst (λ (x : ℕ). IsInside quote floor (b ∷ x ∷ more) ls (x ∷ body) rest ls') (sym c_is) (subst (λ (x : ℕ). IsInside quote floor (x ∷ 39 ∷ more) ls (39 ∷ body) rest ls') (sym (b_is ∙ quote_is)) (doubled quote_is i)))
            (before n ((text ++ blanks) ++ c ∷ []) [] more t ls' (omega arith) e'')
      ]

  joins : (b : ℕ) (text blanks : List ℕ) (ls : List RawLine) (t : List ℕ) (ls' : List RawLine) → b ≡ 92 → quote ≡ 34 → Goes 0 Backslash (text ++ blanks) None ls t ls' → Says text blanks (b ∷ []) ls t ls'
  unfolding only_blanks
  joins b text blanks ls t ls' b_is quote_is (goes {j = j} {body = body} {rest = rest} n i e f x d) =
      let no_blank : is_blank b ≡ false = ap is_blank b_is in
      let some : kept blanks (b ∷ []) ≡ blanks = rw no_blank refl in
      says (subst (λ (x : ℕ). IsInside quote floor (x ∷ []) ls (break true j ++ body) rest ls') (sym b_is) (joined quote_is n i)) e
      (f ∙ ap (λ (m : ℕ). ((text ++ blanks) ++ break true m) ++ body) (zero-add j) ∙ append_assoc (text ++ blanks) (break true j) body ∙ ap (λ (x : List ℕ). (text ++ x) ++ (break true j ++ body)) (sym some))

  by_escape : (k : ℕ) (ls : List RawLine) → Before k ls → (more : List ℕ) (b c n : ℕ) (text blanks t : List ℕ) (ls' : List RawLine) (o : Option ℕ) → length more < k → b ≡ 92 → quote ≡ 34 → escape c ≡ o
      → Go floor first (escaped (at_last quote n Backslash (text ++ blanks) [] None) o) more ls ≡ Ok (t, ls') → Says text blanks (b ∷ c ∷ more) ls t ls'
  by_escape k ls before more b c n text blanks t ls' None lt b_is quote_is h e = absurd (go_bad floor first (spoiled (at_last quote n Backslash (text ++ blanks) [] None)) more ls (t, ls') refl e)
  by_escape k ls before more b c n text blanks t ls' (Some v) lt b_is quote_is h e =
      elim (tested (is_character v)) [
        | inr x ↦ absurd (go_bad floor first (spoiled (at_last quote n Backslash (text ++ blanks) [] None)) more ls (t, ls') refl (rw x at e))
        | inl x ↦
            let e' : Go floor first (at_last quote n Usual (((text ++ blanks) ++ []) ++ encode_utf8 v) [] None) more ls ≡ Ok (t, ls') = rw x at e in
            let e'' : Go floor first (at_last quote n Usual ((text ++ blanks) ++ encode_utf8 v) [] None) more ls ≡ Ok (t, ls') = subst (λ (x : List ℕ). Go floor first (at_last quote n Usual (x ++ encode_utf8 v) [] None) more ls ≡ Ok (t, ls')) (append-nil (text ++ blanks)) e' in
            after text blanks (c ∷ more) more (encode_utf8 v) b ls t ls' (ap is_blank b_is)
            (λ body rest i. subst (λ (x : ℕ). IsInside quote floor (x ∷ c ∷ more) ls (encode_utf8 v ++ body) rest ls') (sym b_is) (escaped_is quote_is h i))
            (before n ((text ++ blanks) ++ encode_utf8 v) [] more t ls' lt e'')
      ]

  by_number : (k : ℕ) (ls : List RawLine) → Before k ls → (more : List ℕ) (b c w n : ℕ) (text blanks t : List ℕ) (ls' : List RawLine) → length more < k → b ≡ 92 → quote ≡ 34 → digits_behind c ≡ suc w
      → Numbered (suc w) 0 more (text ++ blanks) ls n t ls' → Says text blanks (b ∷ c ∷ more) ls t ls'
  by_number k ls before more b c w n text blanks t ls' lt b_is quote_is d (numbers {all = v} {behind = behind} i x le e) =
      after text blanks (c ∷ more) behind (encode_utf8 v) b ls t ls' (ap is_blank b_is)
      (λ body rest j. subst (λ (x : ℕ). IsInside quote floor (x ∷ c ∷ more) ls (encode_utf8 v ++ body) rest ls') (sym b_is) (numbered quote_is d i x j))
      (before n ((text ++ blanks) ++ encode_utf8 v) [] behind t ls' (omega arith) e)

  not_zero : (m : ℕ) → (m == 0) ≡ false → (w : ℕ) × (m ≡ suc w)
  not_zero zero e = absurd cc
  not_zero (suc w) e = (w, refl)

  at_backslash : (k : ℕ) (ls : List RawLine) → Outer ls → Before k ls → (rest : List ℕ) (b n : ℕ) (text blanks t : List ℕ) (ls' : List RawLine) → length rest < k → b ≡ 92 → quote ≡ 34
      → Go floor first (at_last quote n Backslash (text ++ blanks) [] None) rest ls ≡ Ok (t, ls') → Says text blanks (b ∷ rest) ls t ls'
  unfolding run
  at_backslash k ls outer before [] b n text blanks t ls' lt b_is quote_is e = joins b text blanks ls t ls' b_is quote_is (outer 0 n Backslash (text ++ blanks) [] None t ls' e)
  at_backslash k ls outer before (c ∷ more) b n text blanks t ls' lt b_is quote_is e =
      elim (tested (digits_behind c == 0)) [
        | inl z ↦ by_escape k ls before more b c n text blanks t ls' (escape c) (omega arith) b_is quote_is refl (rw z at e)
        | inr z ↦
            let w = not_zero (digits_behind c) z in
            let e' : Go floor first (at_last quote n (Digits (digits_behind c) 0) ((text ++ blanks) ++ []) [] None) more ls ≡ Ok (t, ls') = rw z at e in
            let e'' : Go floor first (at_last quote n (Digits (suc w.0) 0) (text ++ blanks) [] None) more ls ≡ Ok (t, ls') =
            subst (λ (m : ℕ). Go floor first (at_last quote n (Digits m 0) (text ++ blanks) [] None) more ls ≡ Ok (t, ls')) w.1
            (subst (λ (x : List ℕ). Go floor first (at_last quote n (Digits (digits_behind c) 0) x [] None) more ls ≡ Ok (t, ls')) (append-nil (text ++ blanks)) e') in
            by_number k ls before more b c w.0 n text blanks t ls' (omega arith) b_is quote_is w.1 (digits_found more n ls t ls' outer w.0 0 0 (text ++ blanks) (inl refl) e'')
      ]

  inner_found : (k : ℕ) (ls : List RawLine) → Outer ls → Before k ls
  unfolding run only_blanks
  inner_found zero ls outer n text blanks bytes t ls' lt e = absurd (omega arith)
  inner_found (suc k) ls outer n text blanks [] t ls' lt e = ends text blanks ls t ls' (outer 0 n Usual text blanks None t ls' e)
  inner_found (suc k) ls outer n text blanks (b ∷ rest) t ls' lt e =
      elim (tested (b == quote)) [
        | inl p ↦ at_quote k ls (inner_found k ls outer) rest b n text blanks t ls' (omega arith) p (rw p at e)
        | inr p ↦ elim (tested (b == 92 && quote == 34)) [
          | inl q ↦
              let parts = and_true (b == 92) (quote == 34) q in
              at_backslash k ls outer (inner_found k ls outer) rest b n text blanks t ls' (omega arith) (eqb-true b 92 parts.0) (eqb-true quote 34 parts.1) (rw (p, q) at e)
          | inr q ↦ elim (tested (is_blank b)) [
            | inl h ↦ after_blank text blanks rest b ls t ls' p q h (inner_found k ls outer n text (blanks ++ b ∷ []) rest t ls' (omega arith) (rw (p, q, h) at e))
            | inr h ↦
                let some : only_blanks (b ∷ rest) ≡ false = rw h refl in
                after text blanks rest rest (b ∷ []) b ls t ls' h (λ body end i. byte p q some i) (inner_found k ls outer n ((text ++ blanks) ++ b ∷ []) [] rest t ls' (omega arith) (rw (p, q, h) at e))
          ]
        ]
      ]

  outer_found : (ls : List RawLine) → Outer ls
  unfolding further
  outer_found [] k n last text blanks bad t ls' e = absurd cc
  outer_found (l ∷ ls) k n last text blanks bad t ls' e = outer_more l ls (λ n text blanks bytes t ls' e. inner_found (suc (length bytes)) ls (outer_found ls) n text blanks bytes t ls' (omega arith) e) (outer_found ls) k n last text blanks bad t ls' e

  begins : (bytes : List ℕ) (ls : List RawLine) (t : List ℕ) (ls' : List RawLine) → Says [] [] bytes ls t ls' → IsQuoted floor quote bytes ls t ls'
  begins bytes ls t ls' (says {body = body} {rest = rest} i e f) =
      let same : t ≡ body = f ∙ ap (λ (x : List ℕ). x ++ body) (kept_none bytes) in
      quoted_is (subst (λ (x : List ℕ). IsInside quote floor bytes ls x rest ls') (sym same) i) e

pub quoted_found : (quote floor n : ℕ) → (quote ≡ 39) ⊎ (quote ≡ 34) → (bytes : List ℕ) (ls : List RawLine) (t : List ℕ) (ls' : List RawLine) → quoted floor n quote bytes ls ≡ Ok (t, ls') → IsQuoted floor quote bytes ls t ls'
unfolding quoted
quoted_found quote floor n two bytes ls t ls' e =
    begins quote floor n two bytes ls t ls' (inner_found quote floor n two (suc (length bytes)) ls (outer_found quote floor n two ls) n [] [] bytes t ls' (omega arith) e)
