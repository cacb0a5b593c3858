-- Quoted scalars on one line, as they are read and in their grammar.
use Rattle.std.proofs.Common.{◌≡◌, ℕ, zero, suc, ◌+◌, ◌-◌, ◌*◌, ◌≤◌, ◌<◌, Bool, true, false, ◌&&◌, ◌⊎◌, inl, inr, List, [], ◌∷◌, ◌++◌, length, Option, Some, None, refl, eq-eqb, sym, ap, subst, ◌∙◌, append_assoc, arith}
use Rattle.std.specs.Prelude.{◌==◌, nat_le, encode_utf8}
use Rattle.std.proofs.lemmas.Bool.{eqb-true, lt-leb}
use Rattle.std.proofs.lemmas.List.{append-nil}
use Rattle.yaml_scan.specs.declared.line.RawLine.{RawLine}
use Rattle.yaml_scan.specs.declared.quoted.Last.TheVariants.{Usual, Quote, Backslash, Digits}
use Rattle.yaml_scan.specs.Words.{sees, is_blank, is_some, only_blanks}
use Rattle.yaml_scan.specs.Quoted.{State, opened, escape, digits_behind, hex, shifted, is_character, spoiled, usual_step, character, escaped, digit_step, run}
use Rattle.yaml_tree.specs.Quotes.{IsNext, IsDigits, none, digit, IsInside, close, doubled, byte, escaped as escaped_is, numbered, broken, joined}
use Rattle.yaml_tree.proofs.LinesFound.{tested, and_true}
use Rattle.yaml_tree.proofs.QuotesFound.{usual_bad, run_bad, Near, near_more, near_character, at_last}
use Rattle.yaml_tree.proofs.QuotesRead.{escape_is, no_blank_quote, suc_not_zero, digits_read}

-- the text and what stands behind the closing quote, unless an escape is bad
abbrev ended_by : Option ℕ → State → List ℕ → Option (List ℕ × List ℕ)
ended_by None s rest = Some (s.text, rest)
ended_by (Some n) s rest = None

abbrev ended : State → Option (List ℕ) → Option (List ℕ × List ℕ)
ended s None = None
ended s (Some rest) = ended_by s.bad s rest

abbrev Go : State → List ℕ → Option (List ℕ × List ℕ)
Go s bytes = ended (run s bytes).0 (run s bytes).1

ended_bad : (s : State) (bad : Option ℕ) (end : Option (List ℕ)) (x : List ℕ × List ℕ) → s.bad ≡ bad → is_some bad ≡ true → ended s end ≡ Some x → ⊥
ended_bad s None end x is h e = cc
ended_bad s (Some n) None x is h e = cc
ended_bad s (Some n) (Some rest) x is h e = let q : None ≡ Some x = rw is at e in cc

go_bad : (s : State) (bytes : List ℕ) (x : List ℕ × List ℕ) → is_some s.bad ≡ true → Go s bytes ≡ Some x → ⊥
go_bad s bytes x h e = ended_bad (run s bytes).0 (run s bytes).0.bad (run s bytes).1 x refl (run_bad bytes s h) e

module _ (quote : ℕ) (two : (quote ≡ 39) ⊎ (quote ≡ 34)) where
  -- ---- read, and so in the grammar

  -- what is read from this state on
  data Says (text blanks bytes t rest : List ℕ) : Type 0 where
    says : {body : List ℕ} → IsInside quote 0 bytes [] body rest [] → t ≡ (text ++ blanks) ++ body → Says text blanks bytes t rest

  no_line : {k : ℕ} {next : List ℕ} {ls : List RawLine} → IsNext 0 [] k next ls → ⊥
  no_line i = elim i [ ]

  some_left : {bytes body rest : List ℕ} → IsInside quote 0 bytes [] body rest [] → only_blanks bytes ≡ false
  unfolding only_blanks
  some_left (close c) = rw (no_blank_quote quote 0 0 two) refl
  some_left (doubled q i) = refl
  some_left (byte p q some i) = some
  some_left (escaped_is q c i) = refl
  some_left (numbered q d n c i) = refl
  some_left (broken o n i) = absurd (no_line n)
  some_left (joined q n i) = absurd (no_line n)

  closed : (s : State) (text blanks behind : List ℕ) (b : ℕ) (t rest : List ℕ) → s.bad ≡ None → s.text ≡ text ++ blanks → (b == quote) ≡ true → (quote == 39 && sees 39 behind) ≡ false → ended s (Some behind) ≡ Some (t, rest)
      → Says text blanks (b ∷ behind) t rest
  closed s text blanks behind b t rest bad is h no_more e =
      let q : Some (s.text, behind) ≡ Some (t, rest) = rw bad at e in
      let p : (s.text, behind) ≡ (t, rest) = cc in
      let text_is : s.text ≡ t = ap (λ (z : List ℕ × List ℕ). z.0) p in
      let rest_is : behind ≡ rest = ap (λ (z : List ℕ × List ℕ). z.1) p in
      let i : IsInside quote 0 (b ∷ behind) [] [] rest [] = subst (λ (x : ℕ). IsInside quote 0 (x ∷ behind) [] [] rest []) (sym (eqb-true b quote h)) (subst (λ (x : List ℕ). IsInside quote 0 (quote ∷ behind) [] [] x []) rest_is (close no_more)) in
      says i (sym text_is ∙ is ∙ sym (append-nil (text ++ blanks)))

  -- something that is no blank, and what stands behind it
  after : (text blanks bytes more piece : List ℕ) (b : ℕ) (t rest : List ℕ) → ((body : List ℕ) → IsInside quote 0 more [] body rest [] → IsInside quote 0 (b ∷ bytes) [] (piece ++ body) rest [])
      → Says ((text ++ blanks) ++ piece) [] more t rest → Says text blanks (b ∷ bytes) t rest
  after text blanks bytes more piece b t rest wraps (says {body = body} i f) =
      says (wraps body i) (f ∙ ap (λ (x : List ℕ). x ++ body) (append-nil ((text ++ blanks) ++ piece)) ∙ append_assoc (text ++ blanks) piece body)

  after_blank : (text blanks bytes : List ℕ) (b : ℕ) (t rest : List ℕ) → (b == quote) ≡ false → (b == 92 && quote == 34) ≡ false → is_blank b ≡ true → Says text (blanks ++ b ∷ []) bytes t rest → Says text blanks (b ∷ bytes) t rest
  unfolding only_blanks
  after_blank text blanks bytes b t rest p q h (says {body = body} i f) =
      let some : only_blanks (b ∷ bytes) ≡ false = rw (h, some_left i) refl in
      says (byte p q some i) (f ∙ ap (λ (x : List ℕ). x ++ body) (sym (append_assoc text blanks (b ∷ []))) ∙ append_assoc (text ++ blanks) (b ∷ []) body)

  data Numbered (wanted exact : ℕ) (bytes text : List ℕ) (n : ℕ) (t rest : List ℕ) : Type 0 where
    numbers : {all : ℕ} {behind : List ℕ} → IsDigits wanted exact bytes all behind → is_character all ≡ true → length behind ≤ length bytes → Go (at_last quote n Usual (text ++ encode_utf8 all) [] None) behind ≡ Some (t, rest)
        → Numbered wanted exact bytes text n t rest

  one_digit : (exact d b : ℕ) (bytes text : List ℕ) (n : ℕ) (t rest : List ℕ) (value : ℕ) → hex b ≡ Some d → Near value (16 * exact + d) → Go (character (at_last quote n (Digits 1 0) text [] None) value) bytes ≡ Some (t, rest)
      → Numbered (suc zero) exact (b ∷ bytes) text n t rest
  one_digit exact d b bytes text n t rest value h near e =
      elim (tested (is_character value)) [
        | inr c ↦ absurd (go_bad (at_last quote n Usual (text ++ []) [] (Some n)) bytes (t, rest) refl (rw c at e))
        | inl c ↦
            let e' : Go (at_last quote n Usual ((text ++ []) ++ encode_utf8 value) [] None) bytes ≡ Some (t, rest) = rw c at e in
            let same = near_character value (16 * exact + d) near c in
            numbers (digit h none) (ap is_character (sym same) ∙ c) (omega arith)
            (subst (λ (v : ℕ). Go (at_last quote n Usual (text ++ encode_utf8 v) [] None) bytes ≡ Some (t, rest)) same
            (subst (λ (x : List ℕ). Go (at_last quote n Usual (x ++ encode_utf8 value) [] None) bytes ≡ Some (t, rest)) (append-nil text) e'))
      ]

  more_digits : (wanted exact d b : ℕ) (bytes text : List ℕ) (n : ℕ) (t rest : List ℕ) → hex b ≡ Some d → Numbered (suc wanted) (16 * exact + d) bytes text n t rest → Numbered (suc (suc wanted)) exact (b ∷ bytes) text n t rest
  more_digits wanted exact d b bytes text n t rest h (numbers i c le e) = numbers (digit h i) c (omega arith) e

  abbrev Digit : ℕ → List ℕ → List ℕ → List ℕ → Type 0
  Digit n bytes t rest = (wanted value exact : ℕ) (text : List ℕ) → Near value exact → Go (at_last quote n (Digits (suc wanted) value) text [] None) bytes ≡ Some (t, rest) → Numbered (suc wanted) exact bytes text n t rest

  by_hex : (b : ℕ) (bytes : List ℕ) (n : ℕ) (t rest : List ℕ) (o : Option ℕ) → hex b ≡ o → Digit n bytes t rest → (wanted value exact : ℕ) (text : List ℕ) → Near value exact
      → Go (digit_step (at_last quote n (Digits (suc wanted) value) text [] None) (suc wanted) value b o) bytes ≡ Some (t, rest) → Numbered (suc wanted) exact (b ∷ bytes) text n t rest
  by_hex b bytes n t rest None h rec wanted value exact text near e =
      absurd (go_bad (usual_step (spoiled (at_last quote n (Digits (suc wanted) value) text [] None)) b) bytes (t, rest) (usual_bad (spoiled (at_last quote n (Digits (suc wanted) value) text [] None)) b refl) e)
  by_hex b bytes n t rest (Some d) h rec zero value exact text near e = one_digit exact d b bytes text n t rest (shifted value d) h (near_more value exact d near) e
  by_hex b bytes n t rest (Some d) h rec (suc wanted) value exact text near e =
      let not_one : nat_le (suc (suc wanted)) 1 ≡ false = lt-leb (suc (suc wanted)) 1 (omega arith) in
      let one_less : suc (suc wanted) - 1 ≡ suc wanted = omega arith in
      let e' : Go (at_last quote n (Digits (suc (suc wanted) - 1) (shifted value d)) (text ++ []) [] None) bytes ≡ Some (t, rest) = rw not_one at e in
      let e'' : Go (at_last quote n (Digits (suc wanted) (shifted value d)) text [] None) bytes ≡ Some (t, rest) =
      subst (λ (w : ℕ). Go (at_last quote n (Digits w (shifted value d)) text [] None) bytes ≡ Some (t, rest)) one_less
      (subst (λ (x : List ℕ). Go (at_last quote n (Digits (suc (suc wanted) - 1) (shifted value d)) x [] None) bytes ≡ Some (t, rest)) (append-nil text) e') in
      more_digits wanted exact d b bytes text n t rest h (rec wanted (shifted value d) (16 * exact + d) text (near_more value exact d near) e'')

  digits_found : (bytes : List ℕ) (n : ℕ) (t rest : List ℕ) → Digit n bytes t rest
  unfolding run
  digits_found [] n t rest wanted value exact text near e = absurd cc
  digits_found (b ∷ bytes) n t rest wanted value exact text near e = by_hex b bytes n t rest (hex b) refl (digits_found bytes n t rest) wanted value exact text near e

  abbrev Before : ℕ → Type 0
  Before k = (n : ℕ) (text blanks bytes t rest : List ℕ) → length bytes < k → Go (at_last quote n Usual text blanks None) bytes ≡ Some (t, rest) → Says text blanks bytes t rest

  and_none : (a : Bool) → (a && false) ≡ false
  and_none true = refl
  and_none false = refl

  at_quote : (k : ℕ) → Before k → (behind : List ℕ) (b n : ℕ) (text blanks t rest : List ℕ) → length behind < k → (b == quote) ≡ true → Go (at_last quote n Quote (text ++ blanks) [] None) behind ≡ Some (t, rest)
      → Says text blanks (b ∷ behind) t rest
  unfolding run
  at_quote k before [] b n text blanks t rest lt h e = closed (at_last quote n Quote (text ++ blanks) [] None) text blanks [] b t rest refl refl h (and_none (quote == 39)) e
  at_quote k before (c ∷ more) b n text blanks t rest lt h e =
      elim (tested (quote == 39 && c == 39)) [
        | inr q ↦ closed (at_last quote n Quote (text ++ blanks) [] None) text blanks (c ∷ more) b t rest refl refl h q (rw q at e)
        | inl q ↦
            let parts = and_true (quote == 39) (c == 39) q in
            let quote_is : quote ≡ 39 = eqb-true quote 39 parts.0 in
            let c_is : c ≡ 39 = eqb-true c 39 parts.1 in
            let b_is : b ≡ quote = eqb-true b quote h in
            let e' : Go (at_last quote n Usual (((text ++ blanks) ++ []) ++ c ∷ []) [] None) more ≡ Some (t, rest) = rw q at e in
            let e'' : Go (at_last quote n Usual ((text ++ blanks) ++ c ∷ []) [] None) more ≡ Some (t, rest) = subst (λ (x : List ℕ). Go (at_last quote n Usual (x ++ c ∷ []) [] None) more ≡ Some (t, rest)) (append-nil (text ++ blanks)) e' in
            after text blanks (c ∷ more) more (c ∷ []) b t rest
            (λ body i. subst (λ (x : ℕ). IsInside quote 0 (b ∷ x ∷ more) [] (x ∷ body) rest []) (sym c_is) (subst (λ (x : ℕ). IsInside quote 0 (x ∷ 39 ∷ more) [] (39 ∷ body) rest []) (sym (b_is ∙ quote_is)) (doubled quote_is i)))
            (before n ((text ++ blanks) ++ c ∷ []) [] more t rest (omega arith) e'')
      ]

  by_escape : (k : ℕ) → Before k → (more : List ℕ) (b c n : ℕ) (text blanks t rest : List ℕ) (o : Option ℕ) → length more < k → b ≡ 92 → quote ≡ 34 → escape c ≡ o
      → Go (escaped (at_last quote n Backslash (text ++ blanks) [] None) o) more ≡ Some (t, rest) → Says text blanks (b ∷ c ∷ more) t rest
  by_escape k before more b c n text blanks t rest None lt b_is quote_is h e = absurd (go_bad (spoiled (at_last quote n Backslash (text ++ blanks) [] None)) more (t, rest) refl e)
  by_escape k before more b c n text blanks t rest (Some v) lt b_is quote_is h e =
      elim (tested (is_character v)) [
        | inr x ↦ absurd (go_bad (spoiled (at_last quote n Backslash (text ++ blanks) [] None)) more (t, rest) refl (rw x at e))
        | inl x ↦
            let e' : Go (at_last quote n Usual (((text ++ blanks) ++ []) ++ encode_utf8 v) [] None) more ≡ Some (t, rest) = rw x at e in
            let e'' : Go (at_last quote n Usual ((text ++ blanks) ++ encode_utf8 v) [] None) more ≡ Some (t, rest) = subst (λ (x : List ℕ). Go (at_last quote n Usual (x ++ encode_utf8 v) [] None) more ≡ Some (t, rest)) (append-nil (text ++ blanks)) e' in
            after text blanks (c ∷ more) more (encode_utf8 v) b t rest (λ body i. subst (λ (x : ℕ). IsInside quote 0 (x ∷ c ∷ more) [] (encode_utf8 v ++ body) rest []) (sym b_is) (escaped_is quote_is h i))
            (before n ((text ++ blanks) ++ encode_utf8 v) [] more t rest lt e'')
      ]

  by_number : (k : ℕ) → Before k → (more : List ℕ) (b c w n : ℕ) (text blanks t rest : List ℕ) → length more < k → b ≡ 92 → quote ≡ 34 → digits_behind c ≡ suc w → Numbered (suc w) 0 more (text ++ blanks) n t rest → Says text blanks (b ∷ c ∷ more) t rest
  by_number k before more b c w n text blanks t rest lt b_is quote_is d (numbers {all = v} {behind = behind} i x le e) =
      after text blanks (c ∷ more) behind (encode_utf8 v) b t rest (λ body j. subst (λ (x : ℕ). IsInside quote 0 (x ∷ c ∷ more) [] (encode_utf8 v ++ body) rest []) (sym b_is) (numbered quote_is d i x j))
      (before n ((text ++ blanks) ++ encode_utf8 v) [] behind t rest (omega arith) e)

  not_zero : (m : ℕ) → (m == 0) ≡ false → (w : ℕ) × (m ≡ suc w)
  not_zero zero e = absurd cc
  not_zero (suc w) e = (w, refl)

  at_backslash : (k : ℕ) → Before k → (behind : List ℕ) (b n : ℕ) (text blanks t rest : List ℕ) → length behind < k → b ≡ 92 → quote ≡ 34 → Go (at_last quote n Backslash (text ++ blanks) [] None) behind ≡ Some (t, rest)
      → Says text blanks (b ∷ behind) t rest
  unfolding run
  at_backslash k before [] b n text blanks t rest lt b_is quote_is e = absurd cc
  at_backslash k before (c ∷ more) b n text blanks t rest lt b_is quote_is e =
      elim (tested (digits_behind c == 0)) [
        | inl z ↦ by_escape k before more b c n text blanks t rest (escape c) (omega arith) b_is quote_is refl (rw z at e)
        | inr z ↦
            let w = not_zero (digits_behind c) z in
            let e' : Go (at_last quote n (Digits (digits_behind c) 0) ((text ++ blanks) ++ []) [] None) more ≡ Some (t, rest) = rw z at e in
            let e'' : Go (at_last quote n (Digits (suc w.0) 0) (text ++ blanks) [] None) more ≡ Some (t, rest) =
            subst (λ (m : ℕ). Go (at_last quote n (Digits m 0) (text ++ blanks) [] None) more ≡ Some (t, rest)) w.1
            (subst (λ (x : List ℕ). Go (at_last quote n (Digits (digits_behind c) 0) x [] None) more ≡ Some (t, rest)) (append-nil (text ++ blanks)) e') in
            by_number k before more b c w.0 n text blanks t rest (omega arith) b_is quote_is w.1 (digits_found more n t rest w.0 0 0 (text ++ blanks) (inl refl) e'')
      ]

  inner_found : (k : ℕ) → Before k
  unfolding run only_blanks
  inner_found zero n text blanks bytes t rest lt e = absurd (omega arith)
  inner_found (suc k) n text blanks [] t rest lt e = absurd cc
  inner_found (suc k) n text blanks (b ∷ behind) t rest lt e =
      elim (tested (b == quote)) [
        | inl p ↦ at_quote k (inner_found k) behind b n text blanks t rest (omega arith) p (rw p at e)
        | inr p ↦ elim (tested (b == 92 && quote == 34)) [
          | inl q ↦
              let parts = and_true (b == 92) (quote == 34) q in
              at_backslash k (inner_found k) behind b n text blanks t rest (omega arith) (eqb-true b 92 parts.0) (eqb-true quote 34 parts.1) (rw (p, q) at e)
          | inr q ↦ elim (tested (is_blank b)) [
            | inl h ↦ after_blank text blanks behind b t rest p q h (inner_found k n text (blanks ++ b ∷ []) behind t rest (omega arith) (rw (p, q, h) at e))
            | inr h ↦
                let some : only_blanks (b ∷ behind) ≡ false = rw h refl in
                after text blanks behind behind (b ∷ []) b t rest (λ body i. byte p q some i) (inner_found k n ((text ++ blanks) ++ b ∷ []) [] behind t rest (omega arith) (rw (p, q, h) at e))
          ]
        ]
      ]

  begins : (bytes t rest : List ℕ) → Says [] [] bytes t rest → IsInside quote 0 bytes [] t rest []
  begins bytes t rest (says i f) = subst (λ (x : List ℕ). IsInside quote 0 bytes [] x rest []) (sym f) i

  pub inside_found : (bytes rest : List ℕ) (n : ℕ) (s : State) → run (opened quote n) bytes ≡ (s, Some rest) → s.bad ≡ None → IsInside quote 0 bytes [] s.text rest []
  inside_found bytes rest n s e bad =
      let go : Go (opened quote n) bytes ≡ Some (s.text, rest) = ap (λ (x : State × Option (List ℕ)). ended x.0 x.1) e ∙ ap (λ (o : Option ℕ). ended_by o s rest) bad in
      begins bytes s.text rest (inner_found (suc (length bytes)) n [] [] bytes s.text rest (omega arith) go)

  -- ---- in the grammar, and so read

  closes : (n : ℕ) (text rest : List ℕ) → (quote == 39 && sees 39 rest) ≡ false → run (at_last quote n Quote text [] None) rest ≡ (at_last quote n Quote text [] None, Some rest)
  unfolding run
  closes n text [] c = refl
  closes n text (b ∷ rest) c = rw c refl

  abbrev Ends : ℕ → List ℕ → List ℕ → State × Option (List ℕ)
  Ends n text rest = (at_last quote n Quote text [] None, Some rest)

  -- the text that is read is the one that is meant
  joins : (n : ℕ) (text blanks piece body rest : List ℕ) → Ends n ((((text ++ blanks) ++ piece) ++ []) ++ body) rest ≡ Ends n ((text ++ blanks) ++ (piece ++ body)) rest
  joins n text blanks piece body rest = ap (λ (x : List ℕ). Ends n x rest) (ap (λ (x : List ℕ). x ++ body) (append-nil ((text ++ blanks) ++ piece)) ∙ append_assoc (text ++ blanks) piece body)

  inside_goes : {bytes body rest : List ℕ} → IsInside quote 0 bytes [] body rest [] → (n : ℕ) (text blanks : List ℕ) → run (at_last quote n Usual text blanks None) bytes ≡ Ends n ((text ++ blanks) ++ body) rest
  unfolding run
  inside_goes (close {rest = rest} c) n text blanks = rw (eq-eqb quote quote refl) (closes n (text ++ blanks) rest c) ∙ ap (λ (x : List ℕ). Ends n x rest) (sym (append-nil (text ++ blanks)))
  inside_goes (doubled {bytes = more} {s = body} {rest = rest} q i) n text blanks =
      let is_quote : (39 == quote) ≡ true = eq-eqb 39 quote (sym q) in
      let single : (quote == 39) ≡ true = eq-eqb quote 39 q in
      rw (is_quote, single) (ap (λ (x : List ℕ). run (at_last quote n Usual (x ++ 39 ∷ []) [] None) more) (append-nil (text ++ blanks)) ∙ inside_goes i n ((text ++ blanks) ++ 39 ∷ []) []) ∙ joins n text blanks (39 ∷ []) body rest
  inside_goes (byte {b = b} {bytes = more} {s = body} {rest = rest} p q some i) n text blanks =
      elim (tested (is_blank b)) [
        | inl h ↦ rw (p, q, h) (inside_goes i n text (blanks ++ b ∷ []) ∙ ap (λ (x : List ℕ). Ends n x rest) (ap (λ (x : List ℕ). x ++ body) (sym (append_assoc text blanks (b ∷ []))) ∙ append_assoc (text ++ blanks) (b ∷ []) body))
        | inr h ↦ rw (p, q, h) (inside_goes i n ((text ++ blanks) ++ b ∷ []) [] ∙ joins n text blanks (b ∷ []) body rest)
      ]
  inside_goes (escaped_is {b = b} {c = c} {bytes = more} {s = body} {rest = rest} q h i) n text blanks =
      let no_quote : (92 == quote) ≡ false = rw q refl in
      let double : (quote == 34) ≡ true = eq-eqb quote 34 q in
      let is = escape_is b c h in
      let none_behind : (digits_behind b == 0) ≡ true = eq-eqb (digits_behind b) 0 is.1 in
      rw (no_quote, double, none_behind, h, is.0) (ap (λ (x : List ℕ). run (at_last quote n Usual (x ++ encode_utf8 c) [] None) more) (append-nil (text ++ blanks)) ∙ inside_goes i n ((text ++ blanks) ++ encode_utf8 c) [])
      ∙ joins n text blanks (encode_utf8 c) body rest
  inside_goes (numbered {b = b} {n = w} {value = all} {bytes = bytes} {behind = more} {s = body} {rest = rest} q d i c j) n text blanks =
      let no_quote : (92 == quote) ≡ false = rw q refl in
      let double : (quote == 34) ≡ true = eq-eqb quote 34 q in
      let some_behind : (digits_behind b == 0) ≡ false = rw d (suc_not_zero quote 0 0 two w) in
      rw (no_quote, double, some_behind) (ap (λ (x : List ℕ). run (at_last quote n (Digits (digits_behind b) 0) x [] None) bytes) (append-nil (text ++ blanks)) ∙ ap (λ (m : ℕ). run (at_last quote n (Digits m 0) (text ++ blanks) [] None) bytes) d
      ∙ digits_read quote 0 0 two i w 0 n (text ++ blanks) refl (inl refl) c ∙ inside_goes j n ((text ++ blanks) ++ encode_utf8 all) [])
      ∙ joins n text blanks (encode_utf8 all) body rest
  inside_goes (broken o n i) m text blanks = absurd (no_line n)
  inside_goes (joined q n i) m text blanks = absurd (no_line n)

  pub inside_read : (bytes t rest : List ℕ) (n : ℕ) → IsInside quote 0 bytes [] t rest [] → run (opened quote n) bytes ≡ (at_last quote n Quote t [] None, Some rest)
  inside_read bytes t rest n i = inside_goes i n [] []

  -- ---- something is read

  digits_no_longer : {wanted value all : ℕ} {bytes rest : List ℕ} → IsDigits wanted value bytes all rest → length rest ≤ length bytes
  digits_no_longer none = omega arith
  digits_no_longer (digit h i) = let le = digits_no_longer i in omega arith

  pub inside_shorter : {bytes body rest : List ℕ} → IsInside quote 0 bytes [] body rest [] → length rest < length bytes
  inside_shorter (close c) = omega arith
  inside_shorter (doubled q i) = let lt = inside_shorter i in omega arith
  inside_shorter (byte p q some i) = let lt = inside_shorter i in omega arith
  inside_shorter (escaped_is q h i) = let lt = inside_shorter i in omega arith
  inside_shorter (numbered q d i c j) = let le = digits_no_longer i in let lt = inside_shorter j in omega arith
  inside_shorter (broken o n i) = absurd (no_line n)
  inside_shorter (joined q n i) = absurd (no_line n)
