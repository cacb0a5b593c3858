-- Expressions of the grammar are sound: their numbers are in range, and no list in one is longer than its text.
use Rattle.std.proofs.Common.{◌≡◌, ◌∙◌, ap, sym, subst, refl, ℕ, ◌+◌, ◌≤◌, ◌<◌, Bool, true, false, cond, List, [], ◌∷◌, ◌++◌, length, map, Some, None, arith, length-append}
use Rattle.std.specs.Prelude.{◌&&◌, ◌||◌, codes, bytes_eq}
use Rattle.std.specs.List.{list_all}
use Rattle.ha_value.specs.declared.value.Num.{Num}
use Rattle.ha_value.specs.declared.value.Value.{Value}
use Rattle.ha_value.specs.declared.value.Value.TheVariants as values
use Rattle.ha_value.specs.Numbers.{is_in_range}
use Rattle.ha_config.specs.declared.template.Op.{Op}
use Rattle.ha_config.specs.declared.template.Expr.{Expr}
use Rattle.ha_config.specs.declared.template.Expr.TheVariants as exprs
use Rattle.ha_config.specs.declared.template.Expr.TheOpen.{Expr-F}
use Rattle.ha_config.specs.declared.template.Expr.TheViews.{roll-Expr}
use Rattle.ha_config.specs.declared.template.Expr.TheFolds.{fold-roll-Expr, map-Expr}
use Rattle.ha_config.specs.Sound.{all_true, is_plain_value, is_sound_expr, sound_expr_step}
use Rattle.tpl_parse.specs.declared.expression.Level.{Level}
use Rattle.tpl_parse.specs.declared.table.Filter.{Filter}
use Rattle.tpl_parse.specs.declared.table.Function.{Function}
use Rattle.tpl_parse.specs.Token.{spaces}
use Rattle.tpl_parse.specs.Names.{filter_row, function_row}
use Rattle.tpl_parse.specs.Reading.{constant}
use Rattle.tpl_parse.specs.Grammar.{operand_of, IsNumber, number, Holder, made_of, of_list, of_call, of_filter, Phrase, an_expression, a_negation, a_comparison, with_filters, with_sign, with_parts, an_atom, operands, more_operands, more_filters, more_parts, in_brackets, more_items, Is, chosen, chosen_if, chosen_else, chain, no_operand, one_operand, negated, compared, alone, compare, outside, tested, filtered, no_filter, bare_filter, one_filter, negative, unsigned, asked, no_part, one_key, one_place, of_number, of_string, of_constant, of_name, of_function, of_items, of_group, no_items, some_items, last_item, one_item}
use Rattle.tpl_parse.proofs.Next.{spaces_within}
use Rattle.tpl_parse.proofs.Runs.{word_read}
use Rattle.tpl_parse.proofs.Starts.{less, name_within, sizes}
use Rattle.conf_laws.proofs.Joined.{all_mapped, one_more, pair}
use Rattle.conf_laws.proofs.Values.{flag_plain, null_plain, number_plain, read_in_range, text_plain}

abbrev pub Sound : Expr → Type 0
Sound e = is_sound_expr e ≡ true

sound_at : (x : Expr-F Expr) → is_sound_expr (roll-Expr x) ≡ sound_expr_step (map-Expr Expr Bool is_sound_expr x)
sound_at x = fold-roll-Expr Bool sound_expr_step x

of_plain : (v : Value) → is_plain_value v ≡ true → Sound (exprs.Plain v)
of_plain v h = ap is_sound_expr (sym (exprs.rolls-Plain v)) ∙ sound_at (Expr-F.Plain v) ∙ h

of_variable : (name : List ℕ) → Sound (exprs.Name name)
of_variable name = ap is_sound_expr (sym (exprs.rolls-Name name)) ∙ sound_at (Expr-F.Name name)

of_field : (base : Expr) (name : List ℕ) → Sound base → Sound (exprs.Field base name)
of_field base name h = ap is_sound_expr (sym (exprs.rolls-Field base name)) ∙ sound_at (Expr-F.Field base name) ∙ h

of_place : (base index : Expr) → Sound base → Sound index → Sound (exprs.At base index)
of_place base index h k = ap is_sound_expr (sym (exprs.rolls-At base index)) ∙ sound_at (Expr-F.At base index) ∙ pair (is_sound_expr base) (is_sound_expr index) h k

of_negate : (e : Expr) → Sound e → Sound (exprs.Negate e)
of_negate e h = ap is_sound_expr (sym (exprs.rolls-Negate e)) ∙ sound_at (Expr-F.Negate e) ∙ h

of_not : (e : Expr) → Sound e → Sound (exprs.Not e)
of_not e h = ap is_sound_expr (sym (exprs.rolls-Not e)) ∙ sound_at (Expr-F.Not e) ∙ h

of_none : (e : Expr) (holds : Bool) → Sound e → Sound (exprs.IsNone e holds)
of_none e holds h = ap is_sound_expr (sym (exprs.rolls-IsNone e holds)) ∙ sound_at (Expr-F.IsNone e holds) ∙ h

of_pair : (op : Op) (l r : Expr) → Sound l → Sound r → Sound (exprs.Pair op l r)
of_pair op l r h k = ap is_sound_expr (sym (exprs.rolls-Pair op l r)) ∙ sound_at (Expr-F.Pair op l r) ∙ pair (is_sound_expr l) (is_sound_expr r) h k

of_pick : (q y : Expr) → Sound q → Sound y → Sound (exprs.Pick q y None)
of_pick q y h k =
    ap is_sound_expr (sym (exprs.rolls-Pick q y None)) ∙ sound_at (Expr-F.Pick q y None)
    ∙ pair (is_sound_expr q && is_sound_expr y) true (pair (is_sound_expr q) (is_sound_expr y) h k) refl

of_pick_else : (q y n : Expr) → Sound q → Sound y → Sound n → Sound (exprs.Pick q y (Some n))
of_pick_else q y n h k l =
    ap is_sound_expr (sym (exprs.rolls-Pick q y (Some n))) ∙ sound_at (Expr-F.Pick q y (Some n))
    ∙ pair (is_sound_expr q && is_sound_expr y) (is_sound_expr n) (pair (is_sound_expr q) (is_sound_expr y) h k) l

abbrev pub AllSound : List Expr → Type 0
AllSound es = list_all is_sound_expr es ≡ true

abbrev Base : Holder → Type 0
Base of_list = Unit {0}
Base (of_call function) = Unit {0}
Base (of_filter filter base) = Sound base

held : (h : Holder) (es : List Expr) → Base h → AllSound es → length es < 4_294_967_296 → Sound (made_of h es)
held of_list es base all few = ap is_sound_expr (sym (exprs.rolls-List es)) ∙ sound_at (Expr-F.List es) ∙ all_mapped is_sound_expr es all few
held (of_call f) es base all few =
    ap is_sound_expr (sym (exprs.rolls-Function (function_row f).number es)) ∙ sound_at (Expr-F.Function (function_row f).number es) ∙ all_mapped is_sound_expr es all few
held (of_filter f b) es base all few =
    ap is_sound_expr (sym (exprs.rolls-Filter (filter_row f).number b es)) ∙ sound_at (Expr-F.Filter (filter_row f).number b es)
    ∙ pair (is_sound_expr b) (all_true (map is_sound_expr es)) base (all_mapped is_sound_expr es all few)

number_sound : {t rest : List ℕ} {n : Num} → IsNumber t n rest → is_in_range n ≡ true
number_sound {n = n} (number {digits = digits} numeral e) = read_in_range digits n e

constant_by : (p q r : Bool) (v : Value)
    → cond p (Some (values.Flag true)) (cond q (Some (values.Flag false)) (cond r (Some values.Null) None)) ≡ Some v → is_plain_value v ≡ true
constant_by true q r v h = let e : values.Flag true ≡ v = cc in subst (λ x. is_plain_value x ≡ true) e (flag_plain true)
constant_by false true r v h = let e : values.Flag false ≡ v = cc in subst (λ x. is_plain_value x ≡ true) e (flag_plain false)
constant_by false false true v h = let e : values.Null ≡ v = cc in subst (λ x. is_plain_value x ≡ true) e null_plain
constant_by false false false v h = cc

constant_plain : (word : List ℕ) (v : Value) → constant word ≡ Some v → is_plain_value v ≡ true
constant_plain word v h =
    constant_by (bytes_eq word (codes "true") || bytes_eq word (codes "True")) (bytes_eq word (codes "false") || bytes_eq word (codes "False"))
    (bytes_eq word (codes "none") || bytes_eq word (codes "None")) v h

-- ---- phrases, of texts of so many bytes

module _ (few : ℕ) (is_few : few < 4_294_967_296) where
  abbrev Given : Phrase → List ℕ → Type 0
  Given an_expression t = Unit {0}
  Given a_negation t = Unit {0}
  Given a_comparison t = Unit {0}
  Given with_filters t = Unit {0}
  Given with_sign t = Unit {0}
  Given with_parts t = Unit {0}
  Given an_atom t = Unit {0}
  Given (operands level) t = Unit {0}
  Given (more_operands level left) t = Sound left
  Given (more_filters base) t = Sound base
  Given (more_parts base) t = Sound base
  Given (in_brackets holder) t = Base holder
  Given (more_items holder found) t = Base holder × AllSound found × (length found + length (spaces t) ≤ few)

  none_needed : (level : Level) (t : List ℕ) → Given (operand_of level) t
  none_needed Level.Or t = tt
  none_needed Level.And t = tt
  none_needed Level.Sum t = tt
  none_needed Level.Join t = tt
  none_needed Level.Product t = tt

  pub expr_sound : {r : Phrase} {d : ℕ} {t rest : List ℕ} {e : Expr} → Is r d t e rest → length (spaces t) ≤ few → Given r t → Sound e
  expr_sound (chosen a) le g = expr_sound a le tt
  expr_sound (chosen_if {yes' = y} {test' = q} a i b) le g = of_pick q y (expr_sound b (omega (arith, le, sizes a, less i)) tt) (expr_sound a le tt)
  expr_sound (chosen_else {yes' = y} {test' = q} {other' = n} a i b j c) le g =
      of_pick_else q y n (expr_sound b (omega (arith, le, sizes a, less i)) tt) (expr_sound a le tt) (expr_sound c (omega (arith, le, sizes a, less i, sizes b, less j)) tt)
  expr_sound (chain {level = level} {text = t} a b) le g = expr_sound b (omega (arith, le, sizes a)) (expr_sound a le (none_needed level t))
  expr_sound no_operand le g = g
  expr_sound (one_operand {level = level} {op = op} {a = u} {left = left} {right = right} k i a b) le g =
      expr_sound b (omega (arith, le, less i, sizes a)) (of_pair op left right g (expr_sound a (omega (arith, le, less i)) (none_needed level u)))
  expr_sound (negated {e = e} i a) le g = of_not e (expr_sound a (omega (arith, le, less i)) tt)
  expr_sound (compared a) le g = expr_sound a le tt
  expr_sound (alone a) le g = expr_sound a le tt
  expr_sound (compare {op = op} {left = left} {right = right} a k i b) le g =
      of_pair op left right (expr_sound a le tt) (expr_sound b (omega (arith, le, sizes a, less i)) tt)
  expr_sound (outside {left = left} {right = right} a i j b) le g =
      of_pair Op.Outside left right (expr_sound a le tt) (expr_sound b (omega (arith, le, sizes a, less i, less j)) tt)
  expr_sound (tested {base = base} {holds = holds} a i h) le g = of_none base holds (expr_sound a le tt)
  expr_sound (filtered a b) le g = expr_sound b (omega (arith, le, sizes a)) (expr_sound a le tt)
  expr_sound no_filter le g = g
  expr_sound (bare_filter {b = b} {base = base} {filter = f} i w k l m) le g =
      expr_sound m (omega (arith, le, less i, (word_read w).within, spaces_within b)) (held (of_filter f base) [] g refl (omega arith))
  expr_sound (one_filter {b = b} i w k j m o) le g =
      expr_sound o (omega (arith, le, less i, (word_read w).within, spaces_within b, less j, sizes m))
      (expr_sound m (omega (arith, le, less i, (word_read w).within, spaces_within b, less j)) g)
  expr_sound (negative {a = u} {e = e} is a) le g = of_negate e (expr_sound a (omega (arith, le, ap length is, spaces_within u)) tt)
  expr_sound (unsigned a) le g = expr_sound a le tt
  expr_sound (asked a b) le g = expr_sound b (omega (arith, le, sizes a)) (expr_sound a le tt)
  expr_sound no_part le g = g
  expr_sound (one_key {b = b} {word = word} {base = base} i n a) le g =
      expr_sound a (omega (arith, le, less i, name_within n, spaces_within b)) (of_field base word g)
  expr_sound (one_place {base = base} {index = index} i a j b) le g =
      expr_sound b (omega (arith, le, less i, sizes a, less j)) (of_place base index g (expr_sound a (omega (arith, le, less i)) tt))
  expr_sound (of_number {n = n} h) le g = of_plain (values.Number n) (number_plain n (number_sound h))
  expr_sound (of_string {s = s} e q h) le g = of_plain (values.Text s) (text_plain s)
  expr_sound (of_constant {word = word} {value = v} w c) le g = of_plain v (constant_plain word v c)
  expr_sound (of_name {word = word} n v) le g = of_variable word
  expr_sound (of_function {a = u} n k i b) le g = expr_sound b (omega (arith, le, name_within n, spaces_within u, less i)) tt
  expr_sound (of_items i a) le g = expr_sound a (omega (arith, le, less i)) tt
  expr_sound (of_group i a j) le g = expr_sound a (omega (arith, le, less i)) tt
  expr_sound (no_items {holder = holder} k i) le g = held holder [] g refl (omega arith)
  expr_sound (some_items a) le g = expr_sound a le (g, refl, omega (arith, le))
  expr_sound (last_item {holder = holder} {found = found} {e = e} a k i) le g =
      held holder (found ++ e ∷ []) g.0 (one_more is_sound_expr found e g.1 (expr_sound a le tt))
      (omega (arith, length-append found (e ∷ []), sizes a, less i, g.2, is_few))
  expr_sound (one_item {holder = holder} {found = found} {e = e} a i b) le g =
      expr_sound b (omega (arith, le, sizes a, less i))
      (g.0, one_more is_sound_expr found e g.1 (expr_sound a le tt), omega (arith, length-append found (e ∷ []), sizes a, less i, g.2))
