-- Lines and their faults, read and in the grammar.
use Rattle.std.proofs.Common.{◌≡◌, ℕ, ◌+◌, Bool, true, false, cond, ◌||◌, ◌&&◌, ◌⊎◌, inl, inr, List, [], ◌∷◌, ◌++◌, Option, Some, None, refl, sym, ap, subst, ◌∙◌, append_assoc}
use Rattle.std.specs.Prelude.{◌==◌, not}
use Rattle.std.specs.Str.{is_utf8}
use Rattle.std.proofs.lemmas.Bool.{eqb-true}
use Rattle.std.proofs.lemmas.List.{append-nil}
use Rattle.yaml_scan.specs.declared.line.RawLine.{RawLine}
use Rattle.yaml_scan.specs.declared.fault.Fault.{Fault}
use Rattle.yaml_scan.specs.declared.fault.Code.TheVariants.{Tab, LeftOut, NotUtf8}
use Rattle.yaml_scan.specs.Words.{sees}
use Rattle.yaml_scan.specs.Lines.{lines_from, last_line, line_of, without_cr, least, fault, tab_fault, mark_fault, utf8_fault, one_fault, or_else, fault_from, is_blank_line, is_mark, is_directive}
use Rattle.yaml_tree.specs.Spelling.{IsUnbroken, none as no_byte, byte, IsLines, none as no_line, last, line as a_line, AreClean, none as no_fault, line as clean_line}

pub tested : (b : Bool) → (b ≡ true) ⊎ (b ≡ false)
tested true = inl refl
tested false = inr refl

pub or_false : (a b : Bool) → (a || b) ≡ false → (a ≡ false) × (b ≡ false)
or_false true b e = absurd cc
or_false false b e = (refl, e)

pub and_true : (a b : Bool) → (a && b) ≡ true → (a ≡ true) × (b ≡ true)
and_true true b e = (refl, e)
and_true false b e = absurd cc

-- ---- lines

more_unbroken : {bytes : List ℕ} (b : ℕ) → (b == 10) ≡ false → IsUnbroken bytes → IsUnbroken (bytes ++ b ∷ [])
more_unbroken b h no_byte = byte h no_byte
more_unbroken b h (byte k u) = byte k (more_unbroken b h u)

pub lines_found : (text raw : List ℕ) (n : ℕ) → IsUnbroken raw → IsLines n (raw ++ text) (lines_from n raw text)
unfolding lines_from
lines_found [] [] n u = no_line
lines_found [] (b ∷ raw) n u = subst (λ (t : List ℕ). IsLines n t (line_of n (b ∷ raw) ∷ [])) (sym (append-nil (b ∷ raw))) (last u)
lines_found (b ∷ text) raw n u =
    elim (tested (b == 10)) [
      | inl h ↦
          let is : b ≡ 10 = eqb-true b 10 h in
          rw h (subst (λ (c : ℕ). IsLines n (raw ++ c ∷ text) (line_of n (without_cr raw) ∷ lines_from (n + 1) [] text)) (sym is) (a_line u (lines_found text [] (n + 1) no_byte)))
      | inr h ↦ rw h (subst (λ (t : List ℕ). IsLines n t (lines_from n (raw ++ b ∷ []) text)) (append_assoc raw (b ∷ []) text) (lines_found text (raw ++ b ∷ []) n (more_unbroken b h u)))
    ]

a_line_read : (bytes so_far rest : List ℕ) (n : ℕ) → IsUnbroken bytes → lines_from n so_far (bytes ++ 10 ∷ rest) ≡ line_of n (without_cr (so_far ++ bytes)) ∷ lines_from (n + 1) [] rest
unfolding lines_from
a_line_read [] so_far rest n u = ap (λ (x : List ℕ). line_of n (without_cr x) ∷ lines_from (n + 1) [] rest) (sym (append-nil so_far))
a_line_read (b ∷ bytes) so_far rest n (byte h u) = rw h (a_line_read bytes (so_far ++ b ∷ []) rest n u ∙ ap (λ (x : List ℕ). line_of n (without_cr x) ∷ lines_from (n + 1) [] rest) (append_assoc so_far (b ∷ []) bytes))

last_read : (bytes so_far : List ℕ) (n : ℕ) → IsUnbroken bytes → lines_from n so_far bytes ≡ last_line n (so_far ++ bytes)
unfolding lines_from
last_read [] so_far n u = ap (last_line n) (sym (append-nil so_far))
last_read (b ∷ bytes) so_far n (byte h u) = rw h (last_read bytes (so_far ++ b ∷ []) n u ∙ ap (last_line n) (append_assoc so_far (b ∷ []) bytes))

pub lines_read : {n : ℕ} {text : List ℕ} {ls : List RawLine} → IsLines n text ls → lines_from n [] text ≡ ls
unfolding lines_from
lines_read no_line = refl
lines_read (last {n = n} {b = b} {bytes = bytes} u) = last_read (b ∷ bytes) [] n u
lines_read (a_line {n = n} {bytes = bytes} {rest = rest} u r) = a_line_read bytes [] rest n u ∙ ap (λ (ls : List RawLine). line_of n (without_cr bytes) ∷ ls) (lines_read r)

-- ---- the faults of lines

picked : (b : Bool) (f g : Fault) → cond b (Some f) (Some g) ≡ None → ⊥
picked true f g e = cc
picked false f g e = cc

pub least_none : (a b : Option Fault) → least a b ≡ None → (a ≡ None) × (b ≡ None)
least_none None b e = (refl, e)
least_none (Some f) None e = absurd cc
least_none (Some f) (Some g) e = absurd (picked _ g f e)

first_none : (a b : Option Fault) → or_else a b ≡ None → (a ≡ None) × (b ≡ None)
first_none None b e = (refl, e)
first_none (Some f) b e = absurd cc

not_if : (b : Bool) (f : Fault) → cond b (Some f) None ≡ None → b ≡ false
not_if true f e = absurd cc
not_if false f e = refl

if_not : (b : Bool) (f : Fault) → cond b None (Some f) ≡ None → b ≡ true
if_not true f e = refl
if_not false f e = absurd cc

pub clean_found : (ls : List RawLine) (begun : Bool) → fault_from begun ls ≡ None → AreClean begun ls
unfolding fault_from
clean_found [] begun e = no_fault
clean_found (l ∷ ls) begun e =
    let h = first_none (one_fault begun l) (fault_from (begun || not (is_blank_line l)) ls) e in
    let a = least_none (tab_fault l) (least (mark_fault begun l) (utf8_fault l)) h.0 in
    let b = least_none (mark_fault begun l) (utf8_fault l) a.1 in
    let m = or_false (is_directive l) (begun && is_mark l) (not_if (is_directive l || (begun && is_mark l)) (fault l.line LeftOut) b.0) in
    clean_line (not_if (sees 9 l.content) (fault l.line Tab) a.0) m.0 m.1 (if_not (is_utf8 l.content) (fault l.line NotUtf8) b.1) (clean_found ls (begun || not (is_blank_line l)) h.1)

one_clean : (tab directive mark utf8 : Bool) (f g h : Fault) (more : Option Fault) → tab ≡ false → directive ≡ false → mark ≡ false → utf8 ≡ true → more ≡ None
    → or_else (least (cond tab (Some f) None) (least (cond (directive || mark) (Some g) None) (cond utf8 None (Some h)))) more ≡ None
one_clean tab directive mark utf8 f g h more t d m u e = rw (t, d, m, u, e) refl

pub clean_read : (ls : List RawLine) (begun : Bool) → AreClean begun ls → fault_from begun ls ≡ None
unfolding fault_from
clean_read [] begun no_fault = refl
clean_read (l ∷ ls) begun (clean_line t d m u r) =
    one_clean (sees 9 l.content) (is_directive l) (begun && is_mark l) (is_utf8 l.content) (fault l.line Tab) (fault l.line LeftOut) (fault l.line NotUtf8) (fault_from (begun || not (is_blank_line l)) ls) t d m u (clean_read ls (begun || not (is_blank_line l)) r)
