-- A text with the first lines of another, and lines of one's own behind them.
use Rattle.std.proofs.Common.{◌≡◌, ℕ, zero, suc, ◌+◌, false, ◌⊎◌, inl, inr, List, [], ◌∷◌, ◌++◌, length, drop, refl, sym, ap, subst, ◌∙◌, arith}
use Rattle.std.specs.Prelude.{◌==◌}
use Rattle.std.proofs.lemmas.Bool.{le-leb}
use Rattle.yaml_scan.specs.declared.line.RawLine.{RawLine}
use Rattle.yaml_scan.specs.Words.{times}
use Rattle.ha_value.specs.Lists.{without_cr}
use Rattle.yaml_scan.specs.Lines.{spaces, line_of, lines_from, lines, without_mark}
use Rattle.yaml_tree.specs.Spelling.{IsUnbroken, none as no_byte, byte, IsLines, none, last, line as a_line}
use Rattle.yaml_tree.proofs.LinesFound.{lines_found, lines_read}
use Rattle.yaml_laws.proofs.Closing.{IsClosing}

unbroken_more : (bytes : List ℕ) → IsUnbroken bytes → IsUnbroken (bytes ++ 13 ∷ [])
unbroken_more bytes no_byte = byte refl no_byte
unbroken_more bytes (byte {b = b} {bytes = rest} h r) = byte h (unbroken_more rest r)

cr_dropped : (bytes : List ℕ) → without_cr (bytes ++ 13 ∷ []) ≡ bytes
unfolding without_cr
cr_dropped [] = refl
cr_dropped (b ∷ []) = refl
cr_dropped (b ∷ c ∷ rest) = ap (λ (x : List ℕ). b ∷ x) (cr_dropped (c ∷ rest))

first_is : (x y : RawLine) (xs ys : List RawLine) → x ∷ xs ≡ y ∷ ys → x ≡ y
first_is x y xs ys e = cc

rest_is : (x y : RawLine) (xs ys : List RawLine) → x ∷ xs ≡ y ∷ ys → xs ≡ ys
rest_is x y xs ys e = cc

at_number : (m n : ℕ) (t : List ℕ) (c : List RawLine) → m ≡ n → IsLines m t c → IsLines n t c
at_number m n t c e h = subst (λ (k : ℕ). IsLines k t c) e h

-- the first lines, each ended by a break, and then others
front_lines : (p : List RawLine) (n : ℕ) (t : List ℕ) (ls : List RawLine) → IsLines n t ls → (a : List RawLine) → ls ≡ p ++ a → (t' : List ℕ) (c : List RawLine) → IsLines (n + length p) t' c
    → (u : List ℕ) × IsLines n u (p ++ c)
front_lines [] n t ls i a e t' c h = (t', at_number (n + 0) n t' c (omega arith) h)
front_lines (l ∷ p) n t ls none a e t' c h = absurd cc
front_lines (l ∷ []) n t ls (last {b = b} {bytes = bytes} u) a e t' c h =
    let is : line_of n (without_cr ((b ∷ bytes) ++ 13 ∷ [])) ≡ l = ap (line_of n) (cr_dropped (b ∷ bytes)) ∙ first_is _ l [] a e in
    (((b ∷ bytes) ++ 13 ∷ []) ++ 10 ∷ t', subst (λ (x : RawLine). IsLines n (((b ∷ bytes) ++ 13 ∷ []) ++ 10 ∷ t') (x ∷ c)) is (a_line (unbroken_more (b ∷ bytes) u) (at_number (n + length (l ∷ [])) (n + 1) t' c (omega arith) h)))
front_lines (l ∷ m ∷ p) n t ls (last {b = b} {bytes = bytes} u) a e t' c h = absurd (let q : [] ≡ m ∷ (p ++ a) = rest_is _ l [] (m ∷ (p ++ a)) e in cc)
front_lines (l ∷ p) n t ls (a_line {bytes = bytes} {rest = rest} {ls = more_lines} u r) a e t' c h =
    let more = front_lines p (n + 1) rest more_lines r a (rest_is _ l more_lines (p ++ a) e) t' c (at_number (n + length (l ∷ p)) (n + 1 + length p) t' c (omega arith) h) in
    (bytes ++ 10 ∷ more.0, subst (λ (x : RawLine). IsLines n (bytes ++ 10 ∷ more.0) (x ∷ (p ++ c))) (first_is _ l more_lines (p ++ a) e) (a_line u more.1))

-- behind a mark the text may begin with anything
marked : (u : List ℕ) → without_mark (239 ∷ 187 ∷ 191 ∷ u) ≡ u
marked u = rw (le-leb 3 (length (239 ∷ 187 ∷ 191 ∷ u)) (omega arith)) refl

-- ---- the line that closes a quote

spaces_are : (n b : ℕ) → (b == 32) ≡ false → spaces (times n 32 ++ b ∷ []) ≡ n
unfolding spaces times
spaces_are zero b e = rw e refl
spaces_are (suc n) b e = rw (spaces_are n b e) (omega arith)

behind_spaces : (n b : ℕ) → drop n (times n 32 ++ b ∷ []) ≡ b ∷ []
unfolding times
behind_spaces zero b = refl
behind_spaces (suc n) b = behind_spaces n b

spaces_unbroken : (n b : ℕ) → (b == 10) ≡ false → IsUnbroken (times n 32 ++ b ∷ [])
unfolding times
spaces_unbroken zero b e = byte e no_byte
spaces_unbroken (suc n) b e = byte refl (spaces_unbroken n b e)

written : (n indent b : ℕ) → (b == 32) ≡ false → line_of n (times indent 32 ++ b ∷ []) ≡ record { line = n; indent = indent; content = b ∷ [] }
written n indent b e = rw (spaces_are indent b e, behind_spaces indent b) refl

line_text : (n indent b : ℕ) → (b == 32) ≡ false → (b == 10) ≡ false → (t : List ℕ) × IsLines n t (record { line = n; indent = indent; content = b ∷ [] } ∷ [])
line_text n indent b e e' =
    let raw : List ℕ = times indent 32 ++ b ∷ [] in
    let is : line_of n (without_cr (raw ++ 13 ∷ [])) ≡ record { line = n; indent = indent; content = b ∷ [] } = ap (line_of n) (cr_dropped raw) ∙ written n indent b e in
    ((raw ++ 13 ∷ []) ++ 10 ∷ [], subst (λ (x : RawLine). IsLines n ((raw ++ 13 ∷ []) ++ 10 ∷ []) (x ∷ [])) is (a_line (unbroken_more raw (spaces_unbroken indent b e')) none))

closing_text : (k : ℕ) (x : RawLine) → IsClosing k x → (t : List ℕ) × IsLines (suc k) t (x ∷ [])
closing_text k x c = elim c.1 [ inl e ↦ by 34 e (line_text (suc k) x.indent 34 refl refl) | inr e ↦ by 39 e (line_text (suc k) x.indent 39 refl refl) ]
  where
    by : (b : ℕ) → x.content ≡ b ∷ [] → ((t : List ℕ) × IsLines (suc k) t (record { line = suc k; indent = x.indent; content = b ∷ [] } ∷ [])) → (t : List ℕ) × IsLines (suc k) t (x ∷ [])
    by b e w =
        let is : record { line = suc k; indent = x.indent; content = b ∷ [] } ≡ x = rw (sym e, sym c.0) refl in
        (w.0, subst (λ (y : RawLine). IsLines (suc k) w.0 (y ∷ [])) is w.1)

-- ---- texts

text_of : (u : List ℕ) (ls : List RawLine) → IsLines 1 u ls → (other : List ℕ) × (lines other ≡ ls)
text_of u ls i = (239 ∷ 187 ∷ 191 ∷ u, ap (lines_from 1 []) (marked u) ∙ lines_read i)

pub completed_text : (text : List ℕ) (p a c : List RawLine) → lines text ≡ p ++ a → (c ≡ []) ⊎ ((x : RawLine) × IsClosing (length p) x × (c ≡ x ∷ [])) → (other : List ℕ) × (lines other ≡ p ++ c)
completed_text text p a c e h =
    let i : IsLines 1 (without_mark text) (lines text) = lines_found (without_mark text) [] 1 no_byte in
    let front = λ (t : List ℕ) (w : IsLines (suc (length p)) t c). front_lines p 1 (without_mark text) (lines text) i a e t c (at_number (suc (length p)) (1 + length p) t c (omega arith) w) in
    let u : (u : List ℕ) × IsLines 1 u (p ++ c) =
    elim h [
      | inl is ↦ front [] (subst (λ (ls : List RawLine). IsLines (suc (length p)) [] ls) (sym is) none)
      | inr x ↦
          let w = closing_text (length p) x.0 x.1 in
          front w.0 (subst (λ (ls : List RawLine). IsLines (suc (length p)) w.0 ls) (sym x.2) w.1)
    ] in
    text_of u.0 (p ++ c) u.1
