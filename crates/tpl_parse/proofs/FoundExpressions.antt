-- What is read as an expression is in the grammar.
use Rattle.std.proofs.Common.{◌≡◌, ℕ, suc, zero, Bool, true, false, cond, not, ◌⊎◌, inl, inr, List, [], ◌∷◌, length, drop, Option, Some, None, Ok, refl, sym, ap, ◌∙◌, subst}
use Rattle.std.specs.Prelude.{◌==◌, ◌||◌, ◌&&◌, is_some}
use Rattle.std.proofs.lemmas.Bool.{and_parts}
use Rattle.ha_config.specs.declared.template.Op.{Op}
use Rattle.ha_config.specs.declared.template.Expr.{Expr}
use Rattle.ha_config.specs.declared.template.Expr
use Rattle.reading.specs.Answer.{◌>>=◌, made, stop}
use Rattle.reading.specs.Bytes.{sees}
use Rattle.reading.proofs.Basics.{bind_ok, ok_parts, made_ok, chosen as chosen_of, chosen_is}
use Rattle.reading.proofs.Bytes.{sees_front}
use Rattle.tpl_parse.specs.declared.token.Token.{Token}
use Rattle.tpl_parse.specs.declared.table.Counts.{Counts}
use Rattle.tpl_parse.specs.declared.table.Filter.{Filter}
use Rattle.tpl_parse.specs.declared.expression.Level.{Level}
use Rattle.tpl_parse.specs.declared.expression.Last.{Last}
use Rattle.tpl_parse.specs.declared.expression.Part.{Part}
use Rattle.tpl_parse.specs.Token.{Reads, spaces, stands, next_is, past, behind, want, text_of, none_of}
use Rattle.tpl_parse.specs.Names.{filter_row, filter_named, may_stand}
use Rattle.tpl_parse.specs.Literal.{name, word, skip_word, filter_or, filter_name, standing}
use Rattle.tpl_parse.specs.Reading.{Inner, operators, comparisons, operator, operator_of, behind_operator, part_of, ending, pair, enclosed, arguments, at_place, part_turns, reached, atom, signed, filter_arguments, filter_turns, filtered, after_operator, operand_turns, chain, product, joined, sum, tested, tested_printed, tested_last, none_test, any_operator, comparator, with_right, compared, comparison, negation, conjunction, disjunction, chosen, with_else, expression, inside, opened}
use Rattle.tpl_parse.specs.Grammar.{Takes, takes, IsWord, Joins, or, and, plus, minus, join, times, over, floor, modulo, Compares, equal, unequal, less, at_most, greater, at_least, within, IsNoneToken, plain_none, printed_none, IsTest, is_none, is_defined, is_not_none, is_not_defined, of_filter, Phrase, an_expression, a_negation, a_comparison, with_filters, with_sign, with_parts, operands, more_operands, more_filters, more_parts, operand_of, Is, chosen as chosen_is_in, chosen_if, chosen_else, chain as chain_is, no_operand, one_operand, negated, compared as compared_is, alone, compare, outside, tested as tested_is, filtered as filtered_is, no_filter, bare_filter, one_filter, negative, unsigned, asked, no_part, one_key, one_place}
use Rattle.tpl_parse.proofs.Tokens.{spaces_twice}
use Rattle.tpl_parse.proofs.Next.{Fault, Alike, took}
use Rattle.tpl_parse.proofs.Runs.{word_found, name_found}
use Rattle.tpl_parse.proofs.FoundAtoms.{Spelled, PartSound, ExprSound, InnerSound, Depth, deepest, deeper, enclosed_found, arguments_found, atom_found, none_allowed}

-- where nothing more is read, the phrase ends
ended : {r : Phrase} {d : ℕ} {t u : List ℕ} {e x : Expr} {left : List ℕ} → Is r d u e u → Alike u t → e ≡ x → t ≡ left → Spelled r d u x left
ended {r} {d} {t} {u} is alike same rest = record { rest = u; is = subst (λ (y : Expr). Is r d u y u) same is; alike = alike ∙ ap spaces rest }

-- ---- keys and places

module _ {d : ℕ} {o : Option Inner} (depth : Depth d o) where
  place_found : (n : ℕ) (base : Expr) (t u : List ℕ) → Alike u t → (e : Expr) (left : List ℕ)
      → ((base' : Expr) (t' u' : List ℕ) → Alike u' t' → (e' : Expr) (left' : List ℕ) → part_turns n o base' t' ≡ Ok (e', left') → Spelled (more_parts base') d u' e' left')
      → at_place o (part_turns n o) base t ≡ Ok (e, left) → Spelled (more_parts base) d u e left
  place_found n base t u alike e left again h = by_depth depth again h
    where
      by_depth : {d : ℕ} {o : Option Inner} → Depth d o → ((base' : Expr) (t' u' : List ℕ) → Alike u' t' → (e' : Expr) (left' : List ℕ) → part_turns n o base' t' ≡ Ok (e', left') → Spelled (more_parts base') d u' e' left')
          → at_place o (part_turns n o) base t ≡ Ok (e, left) → Spelled (more_parts base) d u e left
      by_depth deepest again h = let p = ok_parts {F = Fault} (base, spaces t) (e, left) h in ended no_part (alike ∙ sym (spaces_twice t)) p.0 p.1
      by_depth (deeper {inner = inner} sound) again h =
          elim (chosen_of (next_is Token.OpenList t) (enclosed inner Token.CloseList (behind Token.OpenList t) >>= λ index. part_turns n (Some inner) (Expr.At base index.0) index.1) (Ok (base, spaces t)) (Ok (e, left)) h) [
            | inl k ↦
                let b = bind_ok (enclosed inner Token.CloseList (behind Token.OpenList t)) (λ index. part_turns n (Some inner) (Expr.At base index.0) index.1) (e, left) k.1 in
                let c = enclosed_found sound Token.CloseList (behind Token.OpenList t) (behind Token.OpenList t) refl b.0.0 b.0.1 b.1 in
                let s = again (Expr.At base b.0.0) b.0.1 b.0.1 refl e left b.2 in
                record { rest = s.rest; is = one_place (took Token.OpenList u t alike k.0) c.is c.end s.is; alike = s.alike }
            | inr k ↦ (let p = ok_parts {F = Fault} (base, spaces t) (e, left) k.1 in ended no_part (alike ∙ sym (spaces_twice t)) p.0 p.1)
          ]

  parts_found : (n : ℕ) (base : Expr) (t u : List ℕ) → Alike u t → (e : Expr) (left : List ℕ) → part_turns n o base t ≡ Ok (e, left) → Spelled (more_parts base) d u e left
  unfolding part_turns name
  parts_found zero base t u alike e left h = absurd cc
  parts_found (suc n) base t u alike e left h =
      elim (chosen_of (next_is Token.Dot t) (name (behind Token.Dot t) >>= λ key. part_turns n o (Expr.Field base key.0) key.1) (at_place o (part_turns n o) base (spaces t)) (Ok (e, left)) h) [
        | inl k ↦
            let b = bind_ok (name (behind Token.Dot t)) (λ key. part_turns n o (Expr.Field base key.0) key.1) (e, left) k.1 in
            let s = parts_found n (Expr.Field base b.0.0) b.0.1 b.0.1 refl e left b.2 in
            record { rest = s.rest; is = one_key (took Token.Dot u t alike k.0) (name_found (spaces (behind Token.Dot t)) b.0.0 b.0.1 b.1) s.is; alike = s.alike }
        | inr k ↦ place_found n base (spaces t) u (alike ∙ sym (spaces_twice t)) e left (parts_found n) k.1
      ]

  reached_found : ExprSound with_parts d (reached o)
  unfolding reached
  reached_found t u alike e left h =
      let b = bind_ok (atom o t) (λ base. part_turns (suc (length base.1)) o base.0 base.1) (e, left) h in
      let a = atom_found depth t u alike b.0.0 b.0.1 b.1 in
      let s = parts_found (suc (length b.0.1)) b.0.0 b.0.1 a.rest a.alike e left b.2 in
      record { rest = s.rest; is = asked a.is s.is; alike = s.alike }

unsigned_found : {d : ℕ} {o : Option Inner} → Depth d o → (t u : List ℕ) → Alike u t → (e : Expr) (left : List ℕ) → reached o (spaces t) ≡ Ok (e, left) → Spelled with_sign d u e left
unsigned_found depth t u alike e left h = let s = reached_found depth (spaces t) u (alike ∙ sym (spaces_twice t)) e left h in record { rest = s.rest; is = unsigned s.is; alike = s.alike }

signed_found : {d : ℕ} {o : Option Inner} → Depth d o → ExprSound with_sign d (signed o)
unfolding signed
signed_found deepest t u alike e left h = unsigned_found deepest t u alike e left h
signed_found (deeper {d = d} {inner = inner} sound) t u alike e left h =
    elim (chosen_of (sees 45 (spaces t)) (made Expr.Negate (inner.signed (drop 1 (spaces t)))) (reached (Some inner) (spaces t)) (Ok (e, left)) h) [
      | inl k ↦
          let m = made_ok {F = Fault} Expr.Negate (inner.signed (drop 1 (spaces t))) e left k.1 in
          let s = sound.signed (drop 1 (spaces t)) (drop 1 (spaces t)) refl m.0 left m.1 in
          record { rest = s.rest; is = subst (λ (x : Expr). Is with_sign (suc d) u x s.rest) m.2 (negative (alike ∙ sees_front 45 (spaces t) k.0) s.is); alike = s.alike }
      | inr k ↦ unsigned_found (deeper sound) t u alike e left k.1
    ]

-- ---- filters

named_filter : (opens : Bool) (o : Option Filter) (s : List ℕ) (f : Filter) (left : List ℕ) → filter_or opens o s ≡ Ok (f, left) → (o ≡ Some f) × (skip_word s ≡ left)
named_filter opens None s f left h = absurd cc
named_filter opens (Some g) s f left h = let p = ok_parts {F = Fault} (g, skip_word s) (f, left) h in (ap (λ (x : Filter). Some x) p.0, p.1)

was_named : (opens : Bool) (o : Option Filter) (f : Filter) → standing opens o ≡ Some f → o ≡ Some f
was_named opens None f h = absurd cc
was_named opens (Some g) f h = elim (chosen_of (may_stand opens g) (Some g) None (Some f) h) [ inl k ↦ k.1 | inr k ↦ absurd (let x = k.1 in cc) ]

filter_name_found : (opens : Bool) (t : List ℕ) (f : Filter) (left : List ℕ) → filter_name opens t ≡ Ok (f, left) → (w : List ℕ) × IsWord (spaces t) w left × (filter_named w ≡ Some f)
unfolding filter_name
filter_name_found opens t f left h =
    let p = named_filter opens (standing opens (filter_named (word (spaces t)))) (spaces t) f left h in
    (word (spaces t), subst (λ (r : List ℕ). IsWord (spaces t) (word (spaces t)) r) p.1 (word_found (spaces t)), was_named opens (filter_named (word (spaces t))) f p.0)

module _ {d : ℕ} {o : Option Inner} (depth : Depth d o) where
  filters_found : (n : ℕ) (base : Expr) (t u : List ℕ) → Alike u t → (e : Expr) (left : List ℕ) → filter_turns n o base t ≡ Ok (e, left) → Spelled (more_filters base) d u e left
  unfolding filter_turns filter_arguments
  filters_found zero base t u alike e left h = absurd cc
  filters_found (suc n) base t u alike e left h =
      elim (chosen_of (next_is Token.Bar t) (filter_name (is_some o) (behind Token.Bar t) >>= λ filter. filter_arguments o (filter_row filter.0).counts filter.1 >>= λ args. filter_turns n o (Expr.Filter (filter_row filter.0).number base args.0) args.1) (Ok (base, spaces t)) (Ok (e, left)) h) [
        | inr k ↦ (let p = ok_parts {F = Fault} (base, spaces t) (e, left) k.1 in ended no_filter (alike ∙ sym (spaces_twice t)) p.0 p.1)
        | inl k ↦
            let b = bind_ok (filter_name (is_some o) (behind Token.Bar t)) (λ filter. filter_arguments o (filter_row filter.0).counts filter.1 >>= λ args. filter_turns n o (Expr.Filter (filter_row filter.0).number base args.0) args.1) (e, left) k.1 in
            let f : Filter = b.0.0 in
            let counts : Counts = (filter_row f).counts in
            let w = filter_name_found (is_some o) (behind Token.Bar t) f b.0.1 b.1 in
            let c = bind_ok (filter_arguments o counts b.0.1) (λ args. filter_turns n o (Expr.Filter (filter_row f).number base args.0) args.1) (e, left) b.2 in
            let bar = took Token.Bar u t alike k.0 in
            elim (chosen_of ((counts.least == 0 || is_some o) && next_is Token.OpenGroup b.0.1) (arguments o Token.CloseGroup counts (behind Token.OpenGroup b.0.1)) _ (Ok c.0) c.1) [
              | inl m ↦
                  let q = and_parts (counts.least == 0 || is_some o) (next_is Token.OpenGroup b.0.1) m.0 in
                  let a = arguments_found (of_filter f base) depth (behind Token.OpenGroup b.0.1) (behind Token.OpenGroup b.0.1) refl c.0.0 c.0.1 m.1 in
                  let s = filters_found n (Expr.Filter (filter_row f).number base c.0.0) c.0.1 a.rest a.alike e left c.2 in
                  record { rest = s.rest; is = one_filter bar w.1 w.2 (took Token.OpenGroup b.0.1 b.0.1 refl q.1) a.is s.is; alike = s.alike }
              | inr m ↦ elim (chosen_of (counts.least == 0) (Ok ([], spaces b.0.1)) (stop tt (spaces b.0.1)) (Ok c.0) m.1) [
                | inl l ↦
                    let p = ok_parts {F = Fault} ([], spaces b.0.1) c.0 l.1 in
                    let here : filter_turns n o (Expr.Filter (filter_row f).number base []) (spaces b.0.1) ≡ Ok (e, left) = (λ i. filter_turns n o (Expr.Filter (filter_row f).number base (p.0 i)) (p.1 i)) ∙ c.2 in
                    let s = filters_found n (Expr.Filter (filter_row f).number base []) (spaces b.0.1) b.0.1 (sym (spaces_twice b.0.1)) e left here in
                    record { rest = s.rest; is = bare_filter bar w.1 w.2 (none_allowed counts l.0) s.is; alike = s.alike }
                | inr l ↦ absurd (let x = l.1 in cc)
              ]
            ]
      ]

  filtered_found : ExprSound with_filters d (filtered o)
  unfolding filtered
  filtered_found t u alike e left h =
      let b = bind_ok (signed o t) (λ base. filter_turns (suc (length base.1)) o base.0 base.1) (e, left) h in
      let a = signed_found depth t u alike b.0.0 b.0.1 b.1 in
      let s = filters_found (suc (length b.0.1)) b.0.0 b.0.1 a.rest a.alike e left b.2 in
      record { rest = s.rest; is = filtered_is a.is s.is; alike = s.alike }

-- ---- operators

abbrev Row : Type 0
Row = Token × Op

abbrev AllRows : (Token → Op → Type 0) → List Row → Type 0
AllRows P [] = Unit {0}
AllRows P (row ∷ rows) = P row.0 row.1 × AllRows P rows

some_is : (x y : Row) → Some x ≡ Some y → x ≡ y
some_is x y e = cc

-- an operator that was found stands next and is one of the rows
row_found : (P : Token → Op → Type 0) (rows : List Row) (t : List ℕ) (row : Row) → AllRows P rows → operator rows t ≡ Some row → P row.0 row.1 × (next_is row.0 t ≡ true)
row_found P [] t row all e = absurd cc
row_found P (r ∷ rows) t row all e = elim (chosen_of (next_is r.0 t) (Some r) (operator rows t) (Some row) e) [
  | inl h ↦ (let same = some_is r row h.1 in (subst (λ (x : Row). P x.0 x.1) same all.0, ap (λ (x : Row). next_is x.0 t) (sym same) ∙ h.0))
  | inr h ↦ row_found P rows t row all.1 h.1
]

all_join : (level : Level) → AllRows (Joins level) (operators level)
all_join Level.Or = (or, tt)
all_join Level.And = (and, tt)
all_join Level.Sum = (plus, (minus, tt))
all_join Level.Join = (join, tt)
all_join Level.Product = (times, (over, (floor, (modulo, tt))))

all_compare : AllRows Compares comparisons
all_compare = (equal, (unequal, (less, (at_most, (greater, (at_least, (within, tt)))))))

module _ (level : Level) {d : ℕ} (rule : Reads Part) (sound : PartSound (operand_of level) d rule) where
  turns_by : (n : ℕ) (part : Part) (t u : List ℕ) → Alike u t → (k : Option Row) → operator (operators level) t ≡ k → (x : Part) (left : List ℕ)
      → ((part' : Part) (t' u' : List ℕ) → Alike u' t' → (x' : Part) (left' : List ℕ) → operand_turns n (operators level) rule part' t' ≡ Ok (x', left') → Spelled (more_operands level part'.expr) d u' x'.expr left')
      → after_operator k rule (operand_turns n (operators level) rule) part t ≡ Ok (x, left) → Spelled (more_operands level part.expr) d u x.expr left
  turns_by n part t u alike None is x left again h = let p = ok_parts {F = Fault} (part, spaces t) (x, left) h in ended no_operand (alike ∙ sym (spaces_twice t)) (ap (λ (y : Part). y.expr) p.0) p.1
  turns_by n part t u alike (Some row) is x left again h =
      let b = bind_ok (rule (past row.0 t)) (λ right. operand_turns n (operators level) rule (pair row.1 part right.0) right.1) (x, left) h in
      let r = row_found (Joins level) (operators level) t row (all_join level) is in
      let past_is : past row.0 t ≡ past row.0 u = ap (λ (s : List ℕ). drop (length (text_of row.0)) s) (sym alike) in
      let s = sound (past row.0 t) (past row.0 u) (ap spaces (sym past_is)) b.0.0 b.0.1 b.1 in
      let v = again (pair row.1 part b.0.0) b.0.1 s.rest s.alike x left b.2 in
      record { rest = v.rest; is = one_operand r.0 (takes (ap (stands row.0) alike ∙ r.1)) s.is v.is; alike = v.alike }

  turns_found : (n : ℕ) (part : Part) (t u : List ℕ) → Alike u t → (x : Part) (left : List ℕ) → operand_turns n (operators level) rule part t ≡ Ok (x, left) → Spelled (more_operands level part.expr) d u x.expr left
  unfolding operand_turns
  turns_found zero part t u alike x left h = absurd cc
  turns_found (suc n) part t u alike x left h = turns_by n part t u alike (operator (operators level) t) refl x left (turns_found n) h

  chain_found : PartSound (operands level) d (chain (operators level) rule)
  unfolding chain
  chain_found t u alike x left h =
      let b = bind_ok (rule t) (λ first. operand_turns (suc (length first.1)) (operators level) rule first.0 first.1) (x, left) h in
      let a = sound t u alike b.0.0 b.0.1 b.1 in
      let s = turns_found (suc (length b.0.1)) b.0.0 b.0.1 a.rest a.alike x left b.2 in
      record { rest = s.rest; is = chain_is a.is s.is; alike = s.alike }

-- ---- levels

module _ {d : ℕ} {o : Option Inner} (depth : Depth d o) where
  operand_found : PartSound with_filters d (λ rest. made (λ e. ending e Last.Operand) (filtered o rest))
  operand_found t u alike x left h =
      let m = made_ok {F = Fault} (λ e. ending e Last.Operand) (filtered o t) x left h in
      let s = filtered_found depth t u alike m.0 left m.1 in
      record { rest = s.rest; is = subst (λ (y : Expr). Is with_filters d u y s.rest) (ap (λ (p : Part). p.expr) m.2) s.is; alike = s.alike }

  product_found : PartSound (operands Level.Product) d (product o)
  unfolding product
  product_found = chain_found Level.Product (λ rest. made (λ e. ending e Last.Operand) (filtered o rest)) operand_found

  joined_found : PartSound (operands Level.Join) d (joined o)
  unfolding joined
  joined_found = chain_found Level.Join (product o) product_found

  sum_found : PartSound (operands Level.Sum) d (sum o)
  unfolding sum
  sum_found = chain_found Level.Sum (joined o) joined_found

-- ---- tests behind `is`

tested_found : (turned : Bool) (t u : List ℕ) → Alike u t → (h : Bool) (left : List ℕ) → tested turned t ≡ Ok (h, left) → ((token : Token) × IsNoneToken token × Takes token u left × (not turned ≡ h)) ⊎ (Takes Token.Defined u left × (turned ≡ h))
tested_found turned t u alike h left e = elim (chosen_of (next_is Token.None t) (Ok (not turned, behind Token.None t)) (tested_printed turned (spaces t)) (Ok (h, left)) e) [
  | inl k ↦ (let p = ok_parts {F = Fault} (not turned, behind Token.None t) (h, left) k.1 in inl (Token.None, plain_none, subst (λ (r : List ℕ). Takes Token.None u r) p.1 (took Token.None u t alike k.0), p.0))
  | inr k ↦ elim (chosen_of (next_is Token.PrintedNone (spaces t)) (Ok (not turned, behind Token.PrintedNone (spaces t))) (tested_last turned (spaces (spaces t))) (Ok (h, left)) k.1) [
    | inl l ↦
        let p = ok_parts {F = Fault} (not turned, behind Token.PrintedNone (spaces t)) (h, left) l.1 in
        inl (Token.PrintedNone, printed_none, subst (λ (r : List ℕ). Takes Token.PrintedNone u r) p.1 (took Token.PrintedNone u (spaces t) (alike ∙ sym (spaces_twice t)) l.0), p.0)
    | inr l ↦ elim (chosen_of (next_is Token.Defined (spaces (spaces t))) (Ok (turned, behind Token.Defined (spaces (spaces t)))) _ (Ok (h, left)) l.1) [
      | inl m ↦
          let p = ok_parts {F = Fault} (turned, behind Token.Defined (spaces (spaces t))) (h, left) m.1 in
          inr (subst (λ (r : List ℕ). Takes Token.Defined u r) p.1 (took Token.Defined u (spaces (spaces t)) (alike ∙ sym (spaces_twice t) ∙ sym (spaces_twice (spaces t))) m.0), p.0)
      | inr m ↦ absurd (let w = m.1 in cc)
    ]
  ]
]

test_found : (t : List ℕ) (h : Bool) (left : List ℕ) → none_test t ≡ Ok (h, left) → IsTest h t left
unfolding none_test
test_found t h left e = elim (chosen_is (next_is Token.Not t)) [
  | inl k ↦
      let i = took Token.Not t t refl k in
      elim (tested_found true (behind Token.Not t) (behind Token.Not t) refl h left (ap (λ (b : Bool). tested b (behind Token.Not t)) (sym k) ∙ e)) [
        | inl m ↦ subst (λ (b : Bool). IsTest b t left) m.3 (is_not_none i m.1 m.2)
        | inr m ↦ subst (λ (b : Bool). IsTest b t left) m.1 (is_not_defined i m.0)
      ]
  | inr k ↦
      let at : tested false (spaces t) ≡ Ok (h, left) = (λ j. tested (sym k j) (cond (sym k j) (past Token.Not t) (spaces t))) ∙ e in
      elim (tested_found false (spaces t) t (sym (spaces_twice t)) h left at) [
        | inl m ↦ subst (λ (b : Bool). IsTest b t left) m.3 (is_none m.1 m.2)
        | inr m ↦ subst (λ (b : Bool). IsTest b t left) m.1 (is_defined m.0)
      ]
]

-- ---- comparisons

pub want_found : (token : Token) (t : List ℕ) (u : Unit {0}) (left : List ℕ) → want token t ≡ Ok (u, left) → Takes token t left
unfolding want
want_found token t u left e = elim (chosen_of (next_is token t) (Ok (tt, behind token t)) (none_of (token ∷ []) (spaces t)) (Ok (u, left)) e) [
  | inl k ↦ (let p = ok_parts {F = Fault} (tt, behind token t) (u, left) k.1 in subst (λ (r : List ℕ). Takes token t r) p.1 (took token t t refl k.0))
  | inr k ↦ absurd (let w = k.1 in cc)
]

module _ {d : ℕ} {o : Option Inner} (depth : Depth d o) where
  -- two sums that are compared
  module _ (part : Part) (u : List ℕ) (s : List ℕ) (first : Is (operands Level.Sum) d u part.expr s) where
    right_found : (op : Op) (t : List ℕ) (x : Part) (left : List ℕ) → ((right : Expr) (rest : List ℕ) → Is (operands Level.Sum) d t right rest → Is a_comparison d u (Expr.Pair op part.expr right) rest)
        → with_right o part (Some op) t ≡ Ok (x, left) → Spelled a_comparison d u x.expr left
    right_found op t x left put h =
        let m = made_ok {F = Fault} (λ right. ending (Expr.Pair op part.expr right.expr) Last.Compared) (sum o t) x left h in
        let v = sum_found depth t t refl m.0 left m.1 in
        record { rest = v.rest; is = subst (λ (y : Expr). Is a_comparison d u y v.rest) (ap (λ (p : Part). p.expr) m.2) (put m.0.expr v.rest v.is); alike = v.alike }

    by_row : (t : List ℕ) → Alike s t → (k : Option Row) → operator comparisons (spaces t) ≡ k → (x : Part) (left : List ℕ) → with_right o part (operator_of k) (behind_operator k (spaces t)) ≡ Ok (x, left) → Spelled a_comparison d u x.expr left
    by_row t alike None is x left h =
        let p = ok_parts {F = Fault} (part, spaces (spaces t)) (x, left) h in
        record { rest = s; is = subst (λ (y : Expr). Is a_comparison d u y s) (ap (λ (q : Part). q.expr) p.0) (alone first); alike = alike ∙ sym (spaces_twice t) ∙ sym (spaces_twice (spaces t)) ∙ ap spaces p.1 }
    by_row t alike (Some row) is x left h =
        let r = row_found Compares comparisons (spaces t) row all_compare is in
        let same : Alike s (spaces t) = alike ∙ sym (spaces_twice t) in
        let past_is : past row.0 (spaces t) ≡ past row.0 s = ap (λ (v : List ℕ). drop (length (text_of row.0)) v) (sym same) in
        let here : Takes row.0 s (past row.0 (spaces t)) = subst (λ (v : List ℕ). Takes row.0 s v) (sym past_is) (takes (ap (stands row.0) same ∙ r.1)) in
        right_found row.1 (past row.0 (spaces t)) x left (λ right rest is. compare first r.0 here is) h

    compared_found : (t : List ℕ) → Alike s t → (x : Part) (left : List ℕ) → compared o part t ≡ Ok (x, left) → Spelled a_comparison d u x.expr left
    unfolding comparator
    compared_found t alike x left h =
        let b = bind_ok (comparator t) (λ op. with_right o part op.0 op.1) (x, left) h in
        elim (chosen_of (next_is Token.Not t) (made (λ _. Some Op.Outside) (want Token.In (behind Token.Not t))) (any_operator comparisons (spaces t)) (Ok b.0) b.1) [
          | inl k ↦
              let m = made_ok {F = Fault} (λ _. Some Op.Outside) (want Token.In (behind Token.Not t)) b.0.0 b.0.1 k.1 in
              let in' = want_found Token.In (behind Token.Not t) m.0 b.0.1 m.1 in
              right_found Op.Outside b.0.1 x left (λ right rest is. outside first (took Token.Not s t alike k.0) in' is) (ap (λ (op : Option Op). with_right o part op b.0.1) m.2 ∙ b.2)
          | inr k ↦
              let p = ok_parts {F = Fault} (operator_of (operator comparisons (spaces t)), behind_operator (operator comparisons (spaces t)) (spaces t)) b.0 k.1 in
              by_row t alike (operator comparisons (spaces t)) refl x left ((λ i. with_right o part (p.0 i) (p.1 i)) ∙ b.2)
        ]

  comparison_found : PartSound a_comparison d (comparison o)
  unfolding comparison
  comparison_found t u alike x left h =
      let b = bind_ok (sum o t) (λ left. cond (next_is Token.Is left.1) (made (λ holds. ending (Expr.IsNone left.0.expr holds) Last.Tested) (none_test (behind Token.Is left.1))) (compared o left.0 (spaces left.1))) (x, left) h in
      let s = sum_found depth t u alike b.0.0 b.0.1 b.1 in
      elim (chosen_of (next_is Token.Is b.0.1) (made (λ holds. ending (Expr.IsNone b.0.0.expr holds) Last.Tested) (none_test (behind Token.Is b.0.1))) (compared o b.0.0 (spaces b.0.1)) (Ok (x, left)) b.2) [
        | inl k ↦
            let m = made_ok {F = Fault} (λ holds. ending (Expr.IsNone b.0.0.expr holds) Last.Tested) (none_test (behind Token.Is b.0.1)) x left k.1 in
            let v = test_found (behind Token.Is b.0.1) m.0 left m.1 in
            record { rest = left; is = subst (λ (y : Expr). Is a_comparison d u y left) (ap (λ (p : Part). p.expr) m.2) (tested_is s.is (took Token.Is s.rest b.0.1 s.alike k.0) v); alike = refl }
        | inr k ↦ compared_found b.0.0 u s.rest s.is (spaces b.0.1) (s.alike ∙ sym (spaces_twice b.0.1)) x left k.1
      ]

-- ---- `not`, `and`, `or`

plain_found : {d : ℕ} {o : Option Inner} → Depth d o → (t u : List ℕ) → Alike u t → (x : Part) (left : List ℕ) → comparison o t ≡ Ok (x, left) → Spelled a_negation d u x.expr left
plain_found depth t u alike x left h = let s = comparison_found depth t u alike x left h in record { rest = s.rest; is = compared_is s.is; alike = s.alike }

negation_found : {d : ℕ} {o : Option Inner} → Depth d o → PartSound a_negation d (negation o)
unfolding negation
negation_found deepest t u alike x left h = plain_found deepest t u alike x left h
negation_found (deeper {d = d} {inner = inner} sound) t u alike x left h =
    elim (chosen_of (next_is Token.Not t) (made (λ part. ending (Expr.Not part.expr) part.last) (inner.negation (behind Token.Not t))) (comparison (Some inner) (spaces t)) (Ok (x, left)) h) [
      | inl k ↦
          let m = made_ok {F = Fault} (λ part. ending (Expr.Not part.expr) part.last) (inner.negation (behind Token.Not t)) x left k.1 in
          let s = sound.negation (behind Token.Not t) (behind Token.Not t) refl m.0 left m.1 in
          record { rest = s.rest; is = subst (λ (y : Expr). Is a_negation (suc d) u y s.rest) (ap (λ (p : Part). p.expr) m.2) (negated (took Token.Not u t alike k.0) s.is); alike = s.alike }
      | inr k ↦ plain_found (deeper sound) (spaces t) u (alike ∙ sym (spaces_twice t)) x left k.1
    ]

conjunction_found : {d : ℕ} {o : Option Inner} → Depth d o → PartSound (operands Level.And) d (conjunction o)
unfolding conjunction
conjunction_found {o = o} depth = chain_found Level.And (negation o) (negation_found depth)

disjunction_found : {d : ℕ} {o : Option Inner} → Depth d o → PartSound (operands Level.Or) d (disjunction o)
unfolding disjunction
disjunction_found {o = o} depth = chain_found Level.Or (conjunction o) (conjunction_found depth)

-- ---- expressions

part_expr : {x y : Part} → x ≡ y → x.expr ≡ y.expr
part_expr e = ap (λ (p : Part). p.expr) e

else_found : {d : ℕ} {o : Option Inner} → Depth d o → (u a b c : List ℕ) (yes' test' : Part) → Is (operands Level.Or) d u yes'.expr a → Takes Token.If a b → Is (operands Level.Or) d b test'.expr c
    → (t : List ℕ) → Alike c t → (x : Part) (left : List ℕ) → with_else o yes' test' t ≡ Ok (x, left) → Spelled an_expression d u x.expr left
else_found {d} deepest u a b c yes' test' first i second t alike x left h =
    let p = ok_parts {F = Fault} (ending (chosen yes' test' None) test'.last, t) (x, left) h in
    record { rest = c; is = subst (λ (y : Expr). Is an_expression d u y c) (part_expr p.0) (chosen_if first i second); alike = alike ∙ ap spaces p.1 }
else_found (deeper {d = d} {inner = inner} sound) u a b c yes' test' first i second t alike x left h =
    elim (chosen_of (next_is Token.Else t) (made (λ other. part_of (chosen yes' test' (Some other.expr)) other.last other.choice) (inner.expression (behind Token.Else t))) (Ok (part_of (chosen yes' test' None) test'.last (Some Token.Else), spaces t)) (Ok (x, left)) h) [
      | inl k ↦
          let m = made_ok {F = Fault} (λ other. part_of (chosen yes' test' (Some other.expr)) other.last other.choice) (inner.expression (behind Token.Else t)) x left k.1 in
          let s = sound.expression (behind Token.Else t) (behind Token.Else t) refl m.0 left m.1 in
          record { rest = s.rest; is = subst (λ (y : Expr). Is an_expression (suc d) u y s.rest) (part_expr m.2) (chosen_else first i second (took Token.Else c t alike k.0) s.is); alike = s.alike }
      | inr k ↦
          let p = ok_parts {F = Fault} (part_of (chosen yes' test' None) test'.last (Some Token.Else), spaces t) (x, left) k.1 in
          record { rest = c; is = subst (λ (y : Expr). Is an_expression (suc d) u y c) (part_expr p.0) (chosen_if first i second); alike = alike ∙ sym (spaces_twice t) ∙ ap spaces p.1 }
    ]

expression_by : {d : ℕ} {o : Option Inner} → Depth d o → PartSound an_expression d (expression o)
unfolding expression
expression_by {d} {o} depth t u alike x left h =
    let b = bind_ok (disjunction o t) (λ yes'. cond (next_is Token.If yes'.1) (disjunction o (behind Token.If yes'.1) >>= λ test'. with_else o yes'.0 test'.0 test'.1) (Ok (part_of yes'.0.expr yes'.0.last (Some Token.If), spaces yes'.1))) (x, left) h in
    let s = disjunction_found depth t u alike b.0.0 b.0.1 b.1 in
    elim (chosen_of (next_is Token.If b.0.1) (disjunction o (behind Token.If b.0.1) >>= λ test'. with_else o b.0.0 test'.0 test'.1) (Ok (part_of b.0.0.expr b.0.0.last (Some Token.If), spaces b.0.1)) (Ok (x, left)) b.2) [
      | inl k ↦
          let c = bind_ok (disjunction o (behind Token.If b.0.1)) (λ test'. with_else o b.0.0 test'.0 test'.1) (x, left) k.1 in
          let v = disjunction_found depth (behind Token.If b.0.1) (behind Token.If b.0.1) refl c.0.0 c.0.1 c.1 in
          else_found depth u s.rest (behind Token.If b.0.1) v.rest b.0.0 c.0.0 s.is (took Token.If s.rest b.0.1 s.alike k.0) v.is c.0.1 v.alike x left c.2
      | inr k ↦
          let p = ok_parts {F = Fault} (part_of b.0.0.expr b.0.0.last (Some Token.If), spaces b.0.1) (x, left) k.1 in
          record { rest = s.rest; is = subst (λ (y : Expr). Is an_expression d u y s.rest) (part_expr p.0) (chosen_is_in s.is); alike = s.alike ∙ sym (spaces_twice b.0.1) ∙ ap spaces p.1 }
    ]

inside_sound : {d : ℕ} {o : Option Inner} → Depth d o → InnerSound d (inside o)
inside_sound depth = record { expression = expression_by depth; negation = negation_found depth; signed = signed_found depth }

depth_of : (d : ℕ) → Depth d (opened d)
unfolding opened
depth_of zero = deepest
depth_of (suc d) = deeper (inside_sound (depth_of d))

pub expression_found : (d : ℕ) → PartSound an_expression d (expression (opened d))
expression_found d = expression_by (depth_of d)
