-- Plain scalars, read and in their grammar.
use Rattle.std.proofs.Common.{◌≡◌, ℕ, ◌+◌, Bool, true, false, cond, ◌||◌, ◌&&◌, inl, inr, List, [], ◌∷◌, ◌++◌, Option, Some, None, Ok, refl, sym, ap, subst, ◌∙◌, append_assoc, zero-add, arith}
use Rattle.std.specs.Prelude.{◌==◌, nat_lt, not}
use Rattle.std.proofs.lemmas.Bool.{eqb-true, ltb-true, ltb-false, lt-ltb, le-ltb, or_right}
use Rattle.yaml_scan.specs.declared.line.RawLine.{RawLine}
use Rattle.yaml_scan.specs.declared.fault.Code.TheVariants.{Structure}
use Rattle.yaml_scan.specs.Answers.{Reading, stop}
use Rattle.yaml_scan.specs.Words.{sees, is_blank, is_empty, is_some, nothing_left, only_blanks, breaks, colon_at, folded, has_colon, has_comment}
use Rattle.yaml_scan.specs.Plain.{text_of, further, plain}
use Rattle.yaml_tree.specs.Plains.{IsLine, ends, comment, byte, IsNext, blank as blank_before, here, IsOver, none, blank as blank_over, comment as comment_over, left, IsPlain, commented as comment_ends, last, broken}
use Rattle.yaml_tree.proofs.LinesFound.{tested, or_false}
use Rattle.yaml_tree.proofs.Trims.{trim, trim_blanks, trim_more, cut, commented, text_is, has_comment_is, cut_blanks, nothing_blanks, commented_is, no_stop, same_left}

-- ---- a line

pub not_some : {A : Type 0} (o : Option A) → is_some o ≡ false → o ≡ None
not_some None e = refl
not_some (Some x) e = absurd cc

-- where the text of a line ends
closed : (bytes s : List ℕ) (c : Bool) → s ≡ [] → nothing_left false bytes ≡ true → c ≡ not (only_blanks bytes) → IsLine bytes s c
closed bytes s c is n e =
    subst (λ (x : List ℕ). IsLine bytes x c) (sym is)
    (elim (tested (only_blanks bytes)) [
      | inl o ↦ subst (λ (x : Bool). IsLine bytes [] x) (sym (e ∙ ap not o)) (ends o)
      | inr o ↦ subst (λ (x : Bool). IsLine bytes [] x) (sym (e ∙ ap not o)) (comment o n)
    ])

line_found_at : (bytes : List ℕ) (spaced : Bool) (at : ℕ) → nothing_left spaced bytes ≡ nothing_left false bytes → colon_at spaced at bytes ≡ None → IsLine bytes (trim (cut spaced bytes)) (commented spaced bytes)
unfolding colon_at cut commented nothing_left only_blanks
line_found_at [] spaced at same e = closed [] (trim []) false (trim_blanks [] refl) refl refl
line_found_at (b ∷ bytes) spaced at same e =
    elim (tested (nothing_left spaced (b ∷ bytes))) [
      | inl n ↦ closed (b ∷ bytes) (trim (cut spaced (b ∷ bytes))) (commented spaced (b ∷ bytes)) (trim_blanks (cut spaced (b ∷ bytes)) (cut_blanks (b ∷ bytes) spaced ∙ n)) (sym same ∙ n) (commented_is (b ∷ bytes) spaced n)
      | inr n ↦
          let go : (b == 35 && spaced) ≡ false = no_stop b bytes spaced n in
          let some : only_blanks (b ∷ cut (b == 32) bytes) ≡ false = rw go at (cut_blanks (b ∷ bytes) spaced ∙ n) in
          let e' : cond (b == 58 && breaks bytes) (Some at) (colon_at (b == 32) (at + 1) bytes) ≡ None = rw go at e in
          let text : trim (cut spaced (b ∷ bytes)) ≡ b ∷ trim (cut (b == 32) bytes) = rw go (trim_more b (cut (b == 32) bytes) some) in
          let c : commented spaced (b ∷ bytes) ≡ commented (b == 32) bytes = rw go refl in
          let n' : nothing_left false (b ∷ bytes) ≡ false = sym same ∙ n in
          let rest : (b == 58 && breaks bytes) ≡ false → IsLine (b ∷ bytes) (b ∷ trim (cut (b == 32) bytes)) (commented (b == 32) bytes) =
          λ k. byte n' k (line_found_at bytes (b == 32) (at + 1) (same_left b bytes n') (rw k at e')) in
          subst (λ (x : List ℕ). IsLine (b ∷ bytes) x (commented spaced (b ∷ bytes))) (sym text) (subst (λ (x : Bool). IsLine (b ∷ bytes) (b ∷ trim (cut (b == 32) bytes)) x) (sym c)
          (elim (tested (b == 58 && breaks bytes)) [
            | inr k ↦ rest k
            | inl k ↦ absurd (let q : Some at ≡ None = rw k at e' in cc)
          ]))
    ]

-- what a line without a key's colon adds
pub line_found : (bytes : List ℕ) → has_colon bytes ≡ false → IsLine bytes (text_of bytes) (has_comment bytes)
line_found bytes h =
    subst (λ (x : List ℕ). IsLine bytes x (has_comment bytes)) (sym (text_is bytes))
    (subst (λ (x : Bool). IsLine bytes (trim (cut false bytes)) x) (sym (has_comment_is bytes)) (line_found_at bytes false 0 refl (not_some (colon_at false 0 bytes) h)))

line_found_as : (bytes : List ℕ) (c : Bool) → has_colon bytes ≡ false → has_comment bytes ≡ c → IsLine bytes (text_of bytes) c
line_found_as bytes c h e = subst (λ (x : Bool). IsLine bytes (text_of bytes) x) e (line_found bytes h)

pub blank_no_colon : (b : ℕ) → is_blank b ≡ true → (b == 58) ≡ false
blank_no_colon b h = elim (tested (b == 58)) [
  | inr k ↦ k
  | inl k ↦ absurd (let q : false ≡ true = sym (ap is_blank (eqb-true b 58 k)) ∙ h in cc)
]

no_colon : (bytes : List ℕ) (spaced : Bool) (at : ℕ) → nothing_left spaced bytes ≡ true → colon_at spaced at bytes ≡ None
unfolding nothing_left colon_at
no_colon [] spaced at n = refl
no_colon (b ∷ bytes) spaced at n = elim (tested (b == 35 && spaced)) [
  | inl h ↦ rw h refl
  | inr h ↦ elim (tested (is_blank b)) [
    | inl k ↦ rw (h, blank_no_colon b k) (no_colon bytes (b == 32) (at + 1) (rw k at n))
    | inr k ↦ absurd (let q : false ≡ true = rw (k, h) at n in cc)
  ]
]

line_read_at : {bytes s : List ℕ} {c : Bool} → IsLine bytes s c → (spaced : Bool) (at : ℕ) → nothing_left spaced bytes ≡ nothing_left false bytes
    → (colon_at spaced at bytes ≡ None) × (trim (cut spaced bytes) ≡ s) × (commented spaced bytes ≡ c)
unfolding colon_at cut commented
line_read_at (ends {bytes = bytes} o) spaced at same =
    let n = nothing_blanks bytes spaced o in
    (no_colon bytes spaced at n, trim_blanks (cut spaced bytes) (cut_blanks bytes spaced ∙ n), commented_is bytes spaced n ∙ ap not o)
line_read_at (comment {bytes = bytes} o e) spaced at same =
    let n = same ∙ e in
    (no_colon bytes spaced at n, trim_blanks (cut spaced bytes) (cut_blanks bytes spaced ∙ n), commented_is bytes spaced n ∙ ap not o)
line_read_at (byte {b = b} {bytes = bytes} {s = s} n k i) spaced at same =
    let go : (b == 35 && spaced) ≡ false = no_stop b bytes spaced (same ∙ n) in
    let some : only_blanks (b ∷ cut (b == 32) bytes) ≡ false = rw go at (cut_blanks (b ∷ bytes) spaced ∙ same ∙ n) in
    let r = line_read_at i (b == 32) (at + 1) (same_left b bytes n) in
    (rw (go, k) r.0, rw go (trim_more b (cut (b == 32) bytes) some ∙ ap (λ (x : List ℕ). b ∷ x) r.1), rw go r.2)

pub line_read : {bytes s : List ℕ} {c : Bool} → IsLine bytes s c → (has_colon bytes ≡ false) × (text_of bytes ≡ s) × (has_comment bytes ≡ c)
line_read {bytes = bytes} i =
    let r = line_read_at i false 0 refl in
    (ap (λ (o : Option ℕ). is_some o) r.0, text_is bytes ∙ r.1, has_comment_is bytes ∙ r.2)

-- ---- lines, read and so in the grammar

module _ (floor : ℕ) where
  -- what lines add to the text so far, behind so many blank ones
  data Adds (text : List ℕ) (k : ℕ) (ls : List RawLine) (t : List ℕ) (ls' : List RawLine) : Type 0 where
    over : IsOver floor ls ls' → t ≡ text → Adds text k ls t ls'
    more : {j : ℕ} {next s : List ℕ} {behind : List RawLine} → IsNext floor ls j next behind → IsPlain floor next behind s ls' → t ≡ text ++ (folded (k + j) ++ s) → Adds text k ls t ls'

  one_more : (text : List ℕ) (k : ℕ) (l : RawLine) (ls : List RawLine) (t : List ℕ) (ls' : List RawLine) → is_empty l.content ≡ true → Adds text (k + 1) ls t ls' → Adds text k (l ∷ ls) t ls'
  one_more text k l ls t ls' h (over o e) = over (blank_over h o) e
  one_more text k l ls t ls' h (more {j = j} {s = s} n p e) =
      let same : k + 1 + j ≡ k + (j + 1) = omega arith in
      more (blank_before h n) p (e ∙ ap (λ (m : ℕ). text ++ (folded m ++ s)) same)

  -- a line that goes on, and is not ended by a comment
  goes_on : (text : List ℕ) (k : ℕ) (l : RawLine) (ls : List RawLine) (t : List ℕ) (ls' : List RawLine) → IsNext floor (l ∷ ls) 0 l.content ls → IsLine l.content (text_of l.content) false
      → Adds (text ++ folded k ++ text_of l.content) 0 ls t ls' → Adds text k (l ∷ ls) t ls'
  goes_on text k l ls t ls' n i (over o e) =
      let same : k ≡ k + 0 = omega arith in
      more n (last i o) (e ∙ append_assoc text (folded k) (text_of l.content) ∙ ap (λ (m : ℕ). text ++ (folded m ++ text_of l.content)) same)
  goes_on text k l ls t ls' n i (more {j = j} {s = s} m p e) =
      let same : k ≡ k + 0 = omega arith in
      let w : List ℕ = text_of l.content in
      more n (broken i m p) (e ∙ ap (λ (x : ℕ). ((text ++ folded k) ++ w) ++ (folded x ++ s)) (zero-add j) ∙ ap (λ (x : List ℕ). x ++ (folded j ++ s)) (append_assoc text (folded k) w) ∙ append_assoc text (folded k ++ w) (folded j ++ s) ∙ ap (λ (x : List ℕ). text ++ x) (append_assoc (folded k) w (folded j ++ s))
      ∙ ap (λ (x : ℕ). text ++ (folded x ++ (w ++ (folded j ++ s)))) same)

  further_found : (ls : List RawLine) (text : List ℕ) (k : ℕ) (t : List ℕ) (ls' : List RawLine) → further floor text k ls ≡ Ok (t, ls') → Adds text k ls t ls'
  unfolding further
  further_found [] text k t ls' e =
      let p : (text, []) ≡ (t, ls') = cc in
      subst (λ (z : List ℕ × List RawLine). Adds text k [] z.0 z.1) p (over none refl)
  further_found (l ∷ ls) text k t ls' e =
      elim (tested (is_empty l.content)) [
        | inl h ↦ one_more text k l ls t ls' h (further_found ls text (k + 1) t ls' (rw h at e))
        | inr h ↦ elim (tested (sees 35 l.content || nat_lt l.indent floor)) [
          | inl o ↦
              let q : Ok (text, l ∷ ls) ≡ Ok (t, ls') = rw (h, o) at e in
              let p : (text, l ∷ ls) ≡ (t, ls') = cc in
              subst (λ (z : List ℕ × List RawLine). Adds text k (l ∷ ls) z.0 z.1) p (over (is_over l ls h o) refl)
          | inr o ↦
              let parts = or_false (sees 35 l.content) (nat_lt l.indent floor) o in
              let n : IsNext floor (l ∷ ls) 0 l.content ls = here h parts.0 (ltb-false l.indent floor parts.1) in
              elim (tested (has_colon l.content)) [
                | inl c ↦ absurd (let q : stop l.line Structure ≡ Ok (t, ls') = rw (h, o, c) at e in cc)
                | inr c ↦ elim (tested (has_comment l.content)) [
                  | inl d ↦
                      let same : k ≡ k + 0 = omega arith in
                      let q : Ok (text ++ folded k ++ text_of l.content, ls) ≡ Ok (t, ls') = rw (h, o, c, d) at e in
                      let p : (text ++ folded k ++ text_of l.content, ls) ≡ (t, ls') = cc in
                      subst (λ (z : List ℕ × List RawLine). Adds text k (l ∷ ls) z.0 z.1) p (more n (comment_ends (line_found_as l.content true c d)) (append_assoc text (folded k) (text_of l.content) ∙ ap (λ (m : ℕ). text ++ (folded m ++ text_of l.content)) same))
                  | inr d ↦ goes_on text k l ls t ls' n (line_found_as l.content false c d) (further_found ls (text ++ folded k ++ text_of l.content) 0 t ls' (rw (h, o, c, d) at e))
                ]
              ]
        ]
      ]
    where
      is_over : (l : RawLine) (ls : List RawLine) → is_empty l.content ≡ false → (sees 35 l.content || nat_lt l.indent floor) ≡ true → IsOver floor (l ∷ ls) (l ∷ ls)
      is_over l ls h o = elim (tested (sees 35 l.content)) [
        | inl c ↦ comment_over c
        | inr c ↦ left h (ltb-true l.indent floor (rw c at o))
      ]

  begins : (bytes : List ℕ) (ls : List RawLine) (t : List ℕ) (ls' : List RawLine) → IsLine bytes (text_of bytes) false → Adds (text_of bytes) 0 ls t ls' → IsPlain floor bytes ls t ls'
  begins bytes ls t ls' i (over o e) = subst (λ (x : List ℕ). IsPlain floor bytes ls x ls') (sym e) (last i o)
  begins bytes ls t ls' i (more {j = j} {s = s} n p e) =
      subst (λ (x : List ℕ). IsPlain floor bytes ls x ls') (sym (e ∙ ap (λ (m : ℕ). text_of bytes ++ (folded m ++ s)) (zero-add j))) (broken i n p)

  pub plain_found : (n : ℕ) (bytes : List ℕ) (ls : List RawLine) (t : List ℕ) (ls' : List RawLine) → plain floor n bytes ls ≡ Ok (t, ls') → IsPlain floor bytes ls t ls'
  unfolding plain
  plain_found n bytes ls t ls' e =
      elim (tested (has_colon bytes)) [
        | inl c ↦ absurd (let q : stop n Structure ≡ Ok (t, ls') = rw c at e in cc)
        | inr c ↦ elim (tested (has_comment bytes)) [
          | inl d ↦
              let q : Ok (text_of bytes, ls) ≡ Ok (t, ls') = rw (c, d) at e in
              let p : (text_of bytes, ls) ≡ (t, ls') = cc in
              subst (λ (z : List ℕ × List RawLine). IsPlain floor bytes ls z.0 z.1) p (comment_ends (line_found_as bytes true c d))
          | inr d ↦ begins bytes ls t ls' (line_found_as bytes false c d) (further_found ls (text_of bytes) 0 t ls' (rw (c, d) at e))
        ]
      ]

  -- ---- lines, in the grammar and so read

  over_read : {ls ls' : List RawLine} → IsOver floor ls ls' → (text : List ℕ) (k : ℕ) → further floor text k ls ≡ Ok (text, ls')
  unfolding further
  over_read none text k = refl
  over_read (blank_over h o) text k = rw h (over_read o text (k + 1))
  over_read (comment_over {l = l} c) text k = rw (some_seen l.content c, c) refl
    where
      some_seen : (bytes : List ℕ) → sees 35 bytes ≡ true → is_empty bytes ≡ false
      some_seen [] e = absurd cc
      some_seen (b ∷ bytes) e = refl
  over_read (left {l = l} h lt) text k = rw (h, lt-ltb l.indent floor lt, or_right (sees 35 l.content) true refl) refl

  -- what reading a line with these bytes gives, behind the text so far
  abbrev Go : List ℕ → ℕ → List ℕ → List RawLine → Reading (List ℕ)
  Go text n bytes ls = cond (has_colon bytes) (stop n Structure) (cond (has_comment bytes) (Ok (text ++ text_of bytes, ls)) (further floor (text ++ text_of bytes) 0 ls))

  next_read : {ls behind : List RawLine} {k : ℕ} {next : List ℕ} → IsNext floor ls k next behind → (text : List ℕ) (j : ℕ) → (n : ℕ) × (further floor text j ls ≡ Go (text ++ folded (j + k)) n next behind)
  unfolding further
  next_read (blank_before {rest = behind} {k = k} {bytes = next} h i) text j =
      let r = next_read i text (j + 1) in
      let same : j + 1 + k ≡ j + (k + 1) = omega arith in
      (r.0, rw h (r.1 ∙ ap (λ (m : ℕ). Go (text ++ folded m) r.0 next behind) same))
  next_read (here {l = l} {ls = behind} h c le) text j =
      let same : j ≡ j + 0 = omega arith in
      (l.line, rw (h, c, le-ltb l.indent floor le) (ap (λ (m : ℕ). Go (text ++ folded m) l.line l.content behind) same))

  plain_go : {bytes t : List ℕ} {ls ls' : List RawLine} → IsPlain floor bytes ls t ls' → (text : List ℕ) (n : ℕ) → Go text n bytes ls ≡ Ok (text ++ t, ls')
  plain_go (comment_ends {ls = ls} i) text n = let r = line_read i in rw (r.0, r.2) (ap (λ (x : List ℕ). Ok (text ++ x, ls)) r.1)
  plain_go (last {ls' = ls'} i o) text n = let r = line_read i in rw (r.0, r.2, r.1) (over_read o (text ++ _) 0)
  plain_go (broken {bytes = bytes} {s = s} {next = next} {t = t} {ls = ls} {behind = behind} {ls' = ls'} {k = k} i m p) text n =
      let r = line_read i in
      let w = next_read m (text ++ s) 0 in
      rw (r.0, r.2, r.1) (w.1 ∙ plain_go p ((text ++ s) ++ folded (0 + k)) w.0
      ∙ ap (λ (x : ℕ). Ok (((text ++ s) ++ folded x) ++ t, ls')) (zero-add k) ∙ ap (λ (x : List ℕ). Ok (x, ls')) (append_assoc (text ++ s) (folded k) t ∙ append_assoc text s (folded k ++ t)))

  pub plain_read : {bytes t : List ℕ} {ls ls' : List RawLine} → IsPlain floor bytes ls t ls' → (n : ℕ) → plain floor n bytes ls ≡ Ok (t, ls')
  unfolding plain
  plain_read p n = plain_go p [] n
