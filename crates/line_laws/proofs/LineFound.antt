-- The map of a line is the one that the grammar has, and no other.
use Rattle.std.proofs.Common.{◌≡◌, ℕ, ◌≤◌, true, List, [], length, Ok, Err, refl, sym, ap, subst, ◌∙◌, inl, inr}
use Rattle.std.specs.Prelude.{nat_lt}
use Rattle.std.specs.Str.{is_utf8}
use Rattle.std.proofs.lemmas.Bool.{cond-false, cond-true, le-ltb, ltb-false}
use Rattle.reading.specs.declared.fault.Bad.{Bad}
use Rattle.reading.specs.Answer.{Answer}
use Rattle.reading.proofs.Basics.{chosen}
use Rattle.ha_value.specs.declared.value.Value
use Rattle.ha_value.specs.declared.value.Value.{Value}
use Rattle.ha_value.specs.declared.value.Value.TheOpen.{Value-F}
use Rattle.ha_value.specs.declared.value.Value.TheViews.{out-Value, roll-Value, roll-out-Value}
use Rattle.ha_value.specs.declared.value.Value.TheVariants.{outs-Pairs, rolls-Pairs}
use Rattle.ha_config.specs.Words.{Text, Pairs}
use Rattle.flow_line.specs.declared.fault.Code.{Code}
use Rattle.flow_line.specs.declared.refusal.Refusal.TheVariants.{LongLine, NotUtf8}
use Rattle.flow_line.specs.Command.{Checked, ◌>>=◌, as_map, map_read, pairs_of, short_line, utf8_line}
use Rattle.flow_line.specs.Grammar.{IsDocument}
use Rattle.flow_line.specs.Reading.{document}
use Rattle.flow_line.proofs.Whole.{document_found, document_read}
use Rattle.line_laws.specs.Lines.{IsLine}

abbrev ok_of : {X : Type 0} → X → Checked X
ok_of x = Ok x

ok_same : {X : Type 0} (x y : X) → ok_of x ≡ ok_of y → x ≡ y
ok_same x y e = cc

bound : {X Y : Type 0} (r : Checked X) (f : X → Checked Y) (y : Y) → (r >>= f) ≡ Ok y → (x : X) × (r ≡ Ok x) × (f x ≡ Ok y)
bound (Ok x) f y e = (x, refl, e)
bound (Err refusal) f y e = absurd cc

-- ---- the two tests of a line

not_long : (line kept : Text) → short_line line ≡ Ok kept → (length line ≤ 65_536) × (line ≡ kept)
not_long line kept e = elim (chosen (nat_lt 65_536 (length line)) (Err LongLine) (Ok line) (Ok kept) e) [
  | inl h ↦ absurd (let k = h.1 in cc)
  | inr h ↦ (ltb-false 65_536 (length line) h.0, ok_same line kept h.1)
]

in_utf8 : (line kept : Text) → utf8_line line ≡ Ok kept → (is_utf8 line ≡ true) × (line ≡ kept)
in_utf8 line kept e = elim (chosen (is_utf8 line) (Ok line) (Err NotUtf8) (Ok kept) e) [
  | inl h ↦ (h.0, ok_same line kept h.1)
  | inr h ↦ absurd (let k = h.1 in cc)
]

short_passes : (line : Text) → length line ≤ 65_536 → short_line line ≡ Ok line
short_passes line h = cond-false (nat_lt 65_536 (length line)) (Err LongLine) (Ok line) (le-ltb 65_536 (length line) h)

utf8_passes : (line : Text) → is_utf8 line ≡ true → utf8_line line ≡ Ok line
utf8_passes line h = cond-true (is_utf8 line) (Ok line) (Err NotUtf8) h

-- ---- a value that is a map

layer_is : (x : Value-F Value) (pairs : Pairs) → as_map x ≡ Ok pairs → x ≡ Value-F.Pairs pairs
layer_is (Value-F.Pairs ps) pairs e = ap Value-F.Pairs (ok_same ps pairs e)
layer_is Value-F.Null pairs e = absurd cc
layer_is (Value-F.Flag b) pairs e = absurd cc
layer_is (Value-F.Number n) pairs e = absurd cc
layer_is (Value-F.Text t) pairs e = absurd cc
layer_is (Value-F.Items vs) pairs e = absurd cc

value_is : (v : Value) (pairs : Pairs) → as_map (out-Value v) ≡ Ok pairs → v ≡ Value.Pairs pairs
value_is v pairs e = sym (roll-out-Value v) ∙ ap roll-Value (layer_is (out-Value v) pairs e) ∙ rolls-Pairs pairs

answer_is : (a : Answer ℕ (Bad Code) Value) (pairs : Pairs) → map_read a ≡ Ok pairs → (rest : List ℕ) × (a ≡ Ok (Value.Pairs pairs, rest))
answer_is (Ok read) pairs e = (read.1, ap (λ (v : Value). Ok (v, read.1)) (value_is read.0 pairs e))
answer_is (Err fault) pairs e = absurd cc

map_is : (pairs : Pairs) (rest : List ℕ) → map_read (Ok (Value.Pairs pairs, rest)) ≡ Ok pairs
map_is pairs rest = ap as_map (outs-Pairs pairs)

-- ---- the line

pub line_found : (line : Text) (pairs : Pairs) → pairs_of line ≡ Ok pairs → IsLine line pairs
unfolding pairs_of
line_found line pairs e =
    let s = bound (short_line line) (λ short. utf8_line short >>= λ text. map_read (document text)) pairs e in
    let u = bound (utf8_line s.0) (λ text. map_read (document text)) pairs s.2 in
    let p = not_long line s.0 s.1 in
    let q = in_utf8 s.0 u.0 u.1 in
    let d = answer_is (document u.0) pairs u.2 in
    record {
      short = p.0;
      utf8 = ap is_utf8 p.1 ∙ q.0;
      map = subst (λ (t : Text). IsDocument t (Value.Pairs pairs)) (sym (p.1 ∙ q.1)) (document_found u.0 (Value.Pairs pairs) d.0 d.1);
    }

pub line_read : (line : Text) (pairs : Pairs) → IsLine line pairs → pairs_of line ≡ Ok pairs
unfolding pairs_of
line_read line pairs l =
    ap (λ (c : Checked Text). c >>= λ short. utf8_line short >>= λ text. map_read (document text)) (short_passes line l.short)
    ∙ ap (λ (c : Checked Text). c >>= λ text. map_read (document text)) (utf8_passes line l.utf8)
    ∙ ap map_read (document_read line (Value.Pairs pairs) l.map) ∙ map_is pairs []
