-- What is in the grammar of quoted scalars is read.
use Rattle.std.proofs.Common.{◌≡◌, ℕ, zero, suc, ◌+◌, ◌-◌, ◌*◌, Bool, true, false, cond, ◌&&◌, ◌⊎◌, inl, inr, List, [], ◌∷◌, ◌++◌, Option, Some, None, Ok, refl, eq-eqb, sym, ap, subst, ◌∙◌, append_assoc, arith}
use Rattle.std.specs.Prelude.{◌==◌, nat_le, encode_utf8}
use Rattle.std.proofs.lemmas.Bool.{eqb-true, le-ltb, lt-leb}
use Rattle.std.proofs.lemmas.List.{append-nil}
use Rattle.yaml_scan.specs.declared.line.RawLine.{RawLine}
use Rattle.yaml_scan.specs.declared.quoted.Last.{Last}
use Rattle.yaml_scan.specs.declared.quoted.Last.TheVariants.{Usual, Quote, Backslash, Digits}
use Rattle.yaml_scan.specs.Answers.{Reading}
use Rattle.yaml_scan.specs.Words.{sees, is_blank, nothing_left, without_blanks, only_blanks}
use Rattle.yaml_scan.specs.Quoted.{State, escape, digits_behind, hex, shifted, is_character, digit_step, is_backslash, is_digits, noted, run, break, led, further, quoted}
use Rattle.yaml_tree.specs.Quotes.{IsNext, blank, here, IsDigits, none, digit, IsInside, close, doubled, byte, escaped as escaped_is, numbered, broken, joined, IsQuoted, quoted as quoted_is}
use Rattle.yaml_tree.proofs.LinesFound.{tested, and_true}
use Rattle.yaml_tree.proofs.QuotesFound.{at_last, kept, kept_none, Near, near_more, past_no_character}

abbrev Go : ℕ → ℕ → State → List ℕ → List RawLine → Reading (List ℕ)
Go floor first s bytes ls = led (run s bytes).0 (run s bytes).1 ls (further floor first 0 (run s bytes).0 ls)

-- ---- escapes

at_letter : (b c letter v : ℕ) → b ≡ letter → escape letter ≡ Some v → is_character v ≡ true → digits_behind letter ≡ 0 → escape b ≡ Some c → (is_character c ≡ true) × (digits_behind b ≡ 0)
at_letter b c letter v is gives_v ok none_behind e =
    let q : Some v ≡ Some c = sym gives_v ∙ ap escape (sym is) ∙ e in
    let same : v ≡ c = cc in
    (ap is_character (sym same) ∙ ok, ap digits_behind is ∙ none_behind)

pub escape_is : (b c : ℕ) → escape b ≡ Some c → (is_character c ≡ true) × (digits_behind b ≡ 0)
escape_is b c e =
    elim (tested (b == 92)) [
      | inl h0 ↦ at_letter b c 92 92 (eqb-true b 92 h0) refl refl refl e
      | inr h0 ↦
          elim (tested (b == 34)) [
            | inl h1 ↦ at_letter b c 34 34 (eqb-true b 34 h1) refl refl refl e
            | inr h1 ↦
                elim (tested (b == 47)) [
                  | inl h2 ↦ at_letter b c 47 47 (eqb-true b 47 h2) refl refl refl e
                  | inr h2 ↦
                      elim (tested (b == 32)) [
                        | inl h3 ↦ at_letter b c 32 32 (eqb-true b 32 h3) refl refl refl e
                        | inr h3 ↦
                            elim (tested (b == 110)) [
                              | inl h4 ↦ at_letter b c 110 10 (eqb-true b 110 h4) refl refl refl e
                              | inr h4 ↦
                                  elim (tested (b == 114)) [
                                    | inl h5 ↦ at_letter b c 114 13 (eqb-true b 114 h5) refl refl refl e
                                    | inr h5 ↦
                                        elim (tested (b == 116)) [
                                          | inl h6 ↦ at_letter b c 116 9 (eqb-true b 116 h6) refl refl refl e
                                          | inr h6 ↦
                                              elim (tested (b == 48)) [
                                                | inl h7 ↦ at_letter b c 48 0 (eqb-true b 48 h7) refl refl refl e
                                                | inr h7 ↦
                                                    elim (tested (b == 101)) [
                                                      | inl h8 ↦ at_letter b c 101 27 (eqb-true b 101 h8) refl refl refl e
                                                      | inr h8 ↦
                                                          elim (tested (b == 95)) [
                                                            | inl h9 ↦ at_letter b c 95 160 (eqb-true b 95 h9) refl refl refl e
                                                            | inr h9 ↦
                                                                absurd (let q : None ≡ Some c = rw (h0, h1, h2, h3, h4, h5, h6, h7, h8, h9) at e in cc)
                                                          ]
                                                    ]
                                              ]
                                        ]
                                  ]
                            ]
                      ]
                ]
          ]
    ]

-- ---- scalars

module _ (quote floor first : ℕ) (two : (quote ≡ 39) ⊎ (quote ≡ 34)) where
  pub no_blank_quote : is_blank quote ≡ false
  no_blank_quote = elim two [ inl e ↦ rw e refl | inr e ↦ rw e refl ]

  differs : (b : ℕ) → is_blank b ≡ true → (b == quote) ≡ false
  differs b h = elim (tested (b == quote)) [
    | inr p ↦ p
    | inl p ↦ absurd (let q : true ≡ false = sym h ∙ ap is_blank (eqb-true b quote p) ∙ no_blank_quote in cc)
  ]

  no_backslash : (b : ℕ) → is_blank b ≡ true → (b == 92 && quote == 34) ≡ false
  no_backslash b h = elim (tested (b == 92)) [
    | inr p ↦ rw p refl
    | inl p ↦ absurd (let q : true ≡ false = sym h ∙ ap is_blank (eqb-true b 92 p) in cc)
  ]

  closes : (n : ℕ) (text rest : List ℕ) (ls : List RawLine) → (quote == 39 && sees 39 rest) ≡ false → nothing_left false rest ≡ true → Go floor first (at_last quote n Quote text [] None) rest ls ≡ Ok (text, ls)
  unfolding run
  closes n text [] ls c e = rw e refl
  closes n text (b ∷ rest) ls c e = rw (c, e) refl

  -- blanks wait for what follows them
  waits_all : (bytes : List ℕ) (n : ℕ) (text blanks : List ℕ) (ls : List RawLine) → only_blanks bytes ≡ true → Go floor first (at_last quote n Usual text blanks None) bytes ls ≡ further floor first 0 (at_last quote n Usual text (blanks ++ bytes) None) ls
  unfolding run only_blanks
  waits_all [] n text blanks ls o = ap (λ (w : List ℕ). further floor first 0 (at_last quote n Usual text w None) ls) (sym (append-nil blanks))
  waits_all (b ∷ bytes) n text blanks ls o =
      let parts = and_true (is_blank b) (only_blanks bytes) o in
      rw (differs b parts.0, no_backslash b parts.0, parts.0) (waits_all bytes n text (blanks ++ b ∷ []) ls parts.1 ∙ ap (λ (w : List ℕ). further floor first 0 (at_last quote n Usual text w None) ls) (append_assoc blanks (b ∷ []) bytes))

  next_read : {ls behind : List RawLine} {k : ℕ} {next : List ℕ} → IsNext floor ls k next behind → (j n : ℕ) (last : Last) (text blanks : List ℕ) → is_digits last ≡ false
      → (m : ℕ) × (further floor first j (at_last quote n last text blanks None) ls ≡ Go floor first (at_last quote m Usual (text ++ break (is_backslash last) (j + k)) [] None) next behind)
  unfolding further
  next_read (blank {ls = ls} {rest = behind} {k = k} {bytes = next} h i) j n last text blanks d =
      let r = next_read i (j + 1) n last text blanks d in
      let same : j + 1 + k ≡ j + (k + 1) = omega arith in
      (r.0, rw h (r.1 ∙ ap (λ (x : ℕ). Go floor first (at_last quote r.0 Usual (text ++ break (is_backslash last) x) [] None) next behind) same))
  next_read (here {l = l} {ls = behind} h le) j n last text blanks d =
      let same : j ≡ j + 0 = omega arith in
      (l.line, rw (h, le-ltb l.indent floor le) (goes_so (is_digits last) d (without_blanks l.content) behind l.line (text ++ break (is_backslash last) j) None n ∙ ap (λ (x : ℕ). Go floor first (at_last quote l.line Usual (text ++ break (is_backslash last) x) [] None) (without_blanks l.content) behind) same))
    where
      goes_so : (digits : Bool) → digits ≡ false → (next : List ℕ) (behind : List RawLine) (m : ℕ) (text : List ℕ) (bad : Option ℕ) (n : ℕ)
          → Go floor first (at_last quote m Usual text [] (cond digits (noted bad n) bad)) next behind ≡ Go floor first (at_last quote m Usual text [] bad) next behind
      goes_so digits d next behind m text bad n = rw d refl

  -- ---- digits

  one_digit : (exact d b w value n : ℕ) (text : List ℕ) → w ≡ 0 → hex b ≡ Some d → Near value exact → is_character (16 * exact + d) ≡ true
      → digit_step (at_last quote n (Digits (suc w) value) text [] None) (suc w) value b (hex b) ≡ at_last quote n Usual (text ++ encode_utf8 (16 * exact + d)) [] None
  one_digit exact d b w value n text z h near c =
      elim (near_more value exact d near) [
        | inr p ↦ absurd (past_no_character (16 * exact + d) p.1 c)
        | inl p ↦
            let c' : is_character (shifted value d) ≡ true = ap is_character p ∙ c in
            rw (h, z, c') (ap (λ (v : ℕ). at_last quote n Usual ((text ++ []) ++ encode_utf8 v) [] None) p ∙ ap (λ (x : List ℕ). at_last quote n Usual (x ++ encode_utf8 (16 * exact + d)) [] None) (append-nil text))
      ]

  more_digits : (d b w value n : ℕ) (text : List ℕ) → hex b ≡ Some d → digit_step (at_last quote n (Digits (suc (suc w)) value) text [] None) (suc (suc w)) value b (hex b) ≡ at_last quote n (Digits (suc w) (shifted value d)) text [] None
  more_digits d b w value n text h =
      let not_one : nat_le (suc (suc w)) 1 ≡ false = lt-leb (suc (suc w)) 1 (omega arith) in
      let one_less : suc (suc w) - 1 ≡ suc w = omega arith in
      rw (h, not_one) (ap (λ (x : ℕ). at_last quote n (Digits x (shifted value d)) (text ++ []) [] None) one_less ∙ ap (λ (x : List ℕ). at_last quote n (Digits (suc w) (shifted value d)) x [] None) (append-nil text))

  none_is : {wanted value all : ℕ} {bytes rest : List ℕ} → IsDigits wanted value bytes all rest → wanted ≡ 0 → (value ≡ all) × (bytes ≡ rest)
  none_is none e = (refl, refl)
  none_is (digit h i) e = absurd (omega arith)

  pub digits_read : {wanted exact all : ℕ} {bytes rest : List ℕ} → IsDigits wanted exact bytes all rest → (w value n : ℕ) (text : List ℕ) → wanted ≡ suc w → Near value exact → is_character all ≡ true
      → run (at_last quote n (Digits (suc w) value) text [] None) bytes ≡ run (at_last quote n Usual (text ++ encode_utf8 all) [] None) rest
  unfolding run
  digits_read none w value n text s near c = absurd (omega arith)
  digits_read (digit {wanted = zero} {value = exact} {all = all} {b = b} {d = d} {bytes = bytes} {rest = rest} h i) w value n text s near c =
      let end = none_is i refl in
      let c' : is_character (16 * exact + d) ≡ true = ap is_character end.0 ∙ c in
      ap (λ (x : State). run x bytes) (one_digit exact d b w value n text (omega arith) h near c' ∙ ap (λ (v : ℕ). at_last quote n Usual (text ++ encode_utf8 v) [] None) end.0) ∙ ap (λ (x : List ℕ). run (at_last quote n Usual (text ++ encode_utf8 all) [] None) x) end.1
  digits_read (digit {wanted = suc k} {value = exact} {b = b} {d = d} {bytes = bytes} h i) w value n text s near c =
      let w_is : w ≡ suc k = omega arith in
      let more = digits_read i k (shifted value d) n text refl (near_more value exact d near) c in
      subst (λ (x : ℕ). run (digit_step (at_last quote n (Digits (suc x) value) text [] None) (suc x) value b (hex b)) bytes ≡ run (at_last quote n (Digits (suc k) (shifted value d)) text [] None) bytes) (sym w_is) (ap (λ (x : State). run x bytes) (more_digits d b k value n text h)) ∙ more

  -- ---- all

  -- the text that is read is the one that is meant
  after : (text blanks piece more body : List ℕ) → (((text ++ blanks) ++ piece) ++ kept [] more) ++ body ≡ (text ++ blanks) ++ (piece ++ body)
  after text blanks piece more body = ap (λ (x : List ℕ). (((text ++ blanks) ++ piece) ++ x) ++ body) (kept_none more) ∙ ap (λ (x : List ℕ). x ++ body) (append-nil ((text ++ blanks) ++ piece)) ∙ append_assoc (text ++ blanks) piece body

  answer : (t t' : List ℕ) (ls : List RawLine) (r : Reading (List ℕ)) → r ≡ Ok (t, ls) → t ≡ t' → r ≡ Ok (t', ls)
  answer t t' ls r e s = e ∙ ap (λ (x : List ℕ). Ok (x, ls)) s

  kept_all : (blanks bytes : List ℕ) → only_blanks bytes ≡ false → kept blanks bytes ≡ blanks
  kept_all blanks bytes o = rw o refl

  pub suc_not_zero : (w : ℕ) → (suc w == 0) ≡ false
  suc_not_zero w = elim (tested (suc w == 0)) [
    | inr h ↦ h
    | inl h ↦ absurd (let q : suc w ≡ 0 = eqb-true (suc w) 0 h in omega arith)
  ]

  inside_read : {bytes body rest : List ℕ} {ls ls' : List RawLine} → IsInside quote floor bytes ls body rest ls' → nothing_left false rest ≡ true → (n : ℕ) (text blanks : List ℕ)
      → Go floor first (at_last quote n Usual text blanks None) bytes ls ≡ Ok ((text ++ kept blanks bytes) ++ body, ls')
  unfolding run only_blanks
  inside_read (close {rest = rest} {ls = ls} c) e n text blanks =
      answer (text ++ blanks) ((text ++ kept blanks (quote ∷ rest)) ++ []) ls _ (rw (eq-eqb quote quote refl) (closes n (text ++ blanks) rest ls c e))
      (ap (λ (x : List ℕ). text ++ x) (sym (kept_all blanks (quote ∷ rest) (rw no_blank_quote refl))) ∙ sym (append-nil (text ++ kept blanks (quote ∷ rest))))
  inside_read (doubled {bytes = more} {s = body} {ls = ls} {ls' = ls'} q i) e n text blanks =
      let is_quote : (39 == quote) ≡ true = eq-eqb 39 quote (sym q) in
      let single : (quote == 39) ≡ true = eq-eqb quote 39 q in
      answer ((((text ++ blanks) ++ 39 ∷ []) ++ kept [] more) ++ body) ((text ++ blanks) ++ 39 ∷ body) ls' _
      (rw (is_quote, single) (ap (λ (x : List ℕ). Go floor first (at_last quote n Usual (x ++ 39 ∷ []) [] None) more ls) (append-nil (text ++ blanks)) ∙ inside_read i e n ((text ++ blanks) ++ 39 ∷ []) []))
      (after text blanks (39 ∷ []) more body)
  inside_read (byte {b = b} {bytes = more} {s = body} {ls = ls} {ls' = ls'} p q some i) e n text blanks =
      elim (tested (is_blank b)) [
        | inl h ↦
            let more_some : only_blanks more ≡ false = rw h at some in
            answer ((text ++ kept (blanks ++ b ∷ []) more) ++ body) ((text ++ kept blanks (b ∷ more)) ++ b ∷ body) ls' _ (rw (p, q, h) (inside_read i e n text (blanks ++ b ∷ [])))
            (ap (λ (x : List ℕ). (text ++ x) ++ body) (kept_all (blanks ++ b ∷ []) more more_some) ∙ ap (λ (x : List ℕ). x ++ body) (sym (append_assoc text blanks (b ∷ []))) ∙ append_assoc (text ++ blanks) (b ∷ []) body
            ∙ ap (λ (x : List ℕ). (text ++ x) ++ b ∷ body) (sym (kept_all blanks (b ∷ more) some)))
        | inr h ↦
            answer ((((text ++ blanks) ++ b ∷ []) ++ kept [] more) ++ body) ((text ++ kept blanks (b ∷ more)) ++ b ∷ body) ls' _ (rw (p, q, h) (inside_read i e n ((text ++ blanks) ++ b ∷ []) []))
            (after text blanks (b ∷ []) more body ∙ ap (λ (x : List ℕ). (text ++ x) ++ b ∷ body) (sym (kept_all blanks (b ∷ more) some)))
      ]
  inside_read (escaped_is {b = b} {c = c} {bytes = more} {s = body} {ls = ls} {ls' = ls'} q h i) e n text blanks =
      let no_quote : (92 == quote) ≡ false = rw q refl in
      let double : (quote == 34) ≡ true = eq-eqb quote 34 q in
      let is = escape_is b c h in
      let none_behind : (digits_behind b == 0) ≡ true = eq-eqb (digits_behind b) 0 is.1 in
      answer ((((text ++ blanks) ++ encode_utf8 c) ++ kept [] more) ++ body) ((text ++ blanks) ++ (encode_utf8 c ++ body)) ls' _
      (rw (no_quote, double, none_behind, h, is.0) (ap (λ (x : List ℕ). Go floor first (at_last quote n Usual (x ++ encode_utf8 c) [] None) more ls) (append-nil (text ++ blanks)) ∙ inside_read i e n ((text ++ blanks) ++ encode_utf8 c) []))
      (after text blanks (encode_utf8 c) more body)
  inside_read (numbered {b = b} {n = w} {value = all} {bytes = bytes} {behind = more} {s = body} {ls = ls} {ls' = ls'} q d i c j) e n text blanks =
      let no_quote : (92 == quote) ≡ false = rw q refl in
      let double : (quote == 34) ≡ true = eq-eqb quote 34 q in
      let some_behind : (digits_behind b == 0) ≡ false = rw d (suc_not_zero w) in
      answer ((((text ++ blanks) ++ encode_utf8 all) ++ kept [] more) ++ body) ((text ++ blanks) ++ (encode_utf8 all ++ body)) ls' _
      (rw (no_quote, double, some_behind) (ap (λ (x : List ℕ). Go floor first (at_last quote n (Digits (digits_behind b) 0) x [] None) bytes ls) (append-nil (text ++ blanks)) ∙ ap (λ (m : ℕ). Go floor first (at_last quote n (Digits m 0) (text ++ blanks) [] None) bytes ls) d
      ∙ ap (λ (r : State × Option (List ℕ)). led r.0 r.1 ls (further floor first 0 r.0 ls)) (digits_read i w 0 n (text ++ blanks) refl (inl refl) c) ∙ inside_read j e n ((text ++ blanks) ++ encode_utf8 all) []))
      (after text blanks (encode_utf8 all) more body)
  inside_read (broken {bytes = bytes} {next = next} {s = body} {ls = ls} {ls' = behind} {ls'' = ls'} {k = k} o i j) e n text blanks =
      let r = next_read i 0 n Usual text (blanks ++ bytes) refl in
      let same : 0 + k ≡ k = omega arith in
      answer (((text ++ break false (0 + k)) ++ kept [] next) ++ body) ((text ++ kept blanks bytes) ++ (break false k ++ body)) ls' _ (waits_all bytes n text blanks ls o ∙ r.1 ∙ inside_read j e r.0 (text ++ break false (0 + k)) [])
      (ap (λ (x : List ℕ). ((text ++ break false (0 + k)) ++ x) ++ body) (kept_none next) ∙ ap (λ (x : List ℕ). x ++ body) (append-nil (text ++ break false (0 + k))) ∙ append_assoc text (break false (0 + k)) body
      ∙ ap (λ (x : ℕ). text ++ (break false x ++ body)) same ∙ ap (λ (x : List ℕ). x ++ (break false k ++ body)) (sym (append-nil text)) ∙ ap (λ (x : List ℕ). (text ++ x) ++ (break false k ++ body)) (sym (rw o refl)))
  inside_read (joined {next = next} {s = body} {ls = ls} {ls' = behind} {ls'' = ls'} {k = k} q i j) e n text blanks =
      let no_quote : (92 == quote) ≡ false = rw q refl in
      let double : (quote == 34) ≡ true = eq-eqb quote 34 q in
      let r = next_read i 0 n Backslash (text ++ blanks) [] refl in
      let same : 0 + k ≡ k = omega arith in
      answer ((((text ++ blanks) ++ break true (0 + k)) ++ kept [] next) ++ body) ((text ++ blanks) ++ (break true k ++ body)) ls' _ (rw (no_quote, double) (r.1 ∙ inside_read j e r.0 ((text ++ blanks) ++ break true (0 + k)) []))
      (ap (λ (x : List ℕ). (((text ++ blanks) ++ break true (0 + k)) ++ x) ++ body) (kept_none next) ∙ ap (λ (x : List ℕ). x ++ body) (append-nil ((text ++ blanks) ++ break true (0 + k))) ∙ append_assoc (text ++ blanks) (break true (0 + k)) body
      ∙ ap (λ (x : ℕ). (text ++ blanks) ++ (break true x ++ body)) same)

pub quoted_read : (quote floor n : ℕ) → (quote ≡ 39) ⊎ (quote ≡ 34) → (bytes : List ℕ) (ls : List RawLine) (t : List ℕ) (ls' : List RawLine) → IsQuoted floor quote bytes ls t ls' → quoted floor n quote bytes ls ≡ Ok (t, ls')
unfolding quoted
quoted_read quote floor n two bytes ls t ls' (quoted_is i e) = inside_read quote floor n two i e n [] [] ∙ ap (λ (x : List ℕ). Ok (x ++ t, ls')) (kept_none bytes)
