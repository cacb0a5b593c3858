-- What is read as an atom, or between brackets, is in the grammar.
use Rattle.std.proofs.Common.{◌≡◌, ℕ, suc, zero, Bool, true, false, cond, inl, inr, List, [], ◌∷◌, ◌++◌, length, drop, Option, Some, None, Ok, refl, sym, ap, ◌∙◌, subst, arith, length-append}
use Rattle.std.specs.Prelude.{◌==◌, ◌||◌, ◌&&◌, nat_le}
use Rattle.std.specs.Char.{is_ascii_digit}
use Rattle.std.proofs.lemmas.Bool.{and_parts, le-leb, eqb-true}
use Rattle.ha_value.specs.declared.value.Value.{Value}
use Rattle.ha_config.specs.declared.template.Expr.{Expr}
use Rattle.ha_config.specs.declared.template.Expr
use Rattle.reading.specs.Answer.{made, front}
use Rattle.reading.proofs.Basics.{bind_ok, ok_parts, made_ok, chosen as chosen_of}
use Rattle.tpl_parse.specs.declared.token.Token.{Token}
use Rattle.tpl_parse.specs.declared.table.Counts.{Counts}
use Rattle.tpl_parse.specs.declared.table.Function.{Function}
use Rattle.tpl_parse.specs.declared.expression.Part.{Part}
use Rattle.tpl_parse.specs.Token.{Reads, spaces, stands, next_is, behind, begins_name, is_reserved, common}
use Rattle.tpl_parse.specs.Names.{function_row, function_named, takes_behind, any_from}
use Rattle.tpl_parse.specs.Literal.{number, string, word, skip_word}
use Rattle.tpl_parse.specs.Reading.{Inner, no_end, enclosed, after_item, item_turns, items_in, arguments, constant, not_called, call_or_name, by_word, word_atom, Start, numeric, bracket, group, letter, nothing, quoted, start_of, in_group, atom_by, atom}
use Rattle.tpl_parse.specs.Grammar.{Takes, takes, is_quote, IsNumber, IsWord, IsName, name as name_is, is_variable, Holder, of_list, of_call, closing, counts_of, made_of, is_within, allows, Phrase, an_expression, a_negation, with_sign, an_atom, in_brackets, more_items, Is, of_number, of_string, of_constant, of_name, of_function, of_items, of_group, no_items, some_items, last_item, one_item}
use Rattle.tpl_parse.proofs.Tokens.{spaces_twice}
use Rattle.tpl_parse.proofs.Next.{Fault, Alike, took}
use Rattle.tpl_parse.proofs.Runs.{word_found, number_found}
use Rattle.tpl_parse.proofs.StringLaws.{string_found}

-- a phrase of the grammar, and then what was left, but for blanks and breaks at its front
pub record Spelled (r : Phrase) (d : ℕ) (t : List ℕ) (e : Expr) (left : List ℕ) : Type 0 where
  pub rest : List ℕ
  pub is : Is r d t e rest
  pub alike : Alike rest left

abbrev pub PartSound : Phrase → ℕ → Reads Part → Type 0
PartSound r d rule = (t u : List ℕ) → Alike u t → (x : Part) (left : List ℕ) → rule t ≡ Ok (x, left) → Spelled r d u x.expr left

abbrev pub ExprSound : Phrase → ℕ → Reads Expr → Type 0
ExprSound r d rule = (t u : List ℕ) → Alike u t → (e : Expr) (left : List ℕ) → rule t ≡ Ok (e, left) → Spelled r d u e left

pub record InnerSound (d : ℕ) (inner : Inner) : Type 0 where
  pub expression : PartSound an_expression d inner.expression
  pub negation : PartSound a_negation d inner.negation
  pub signed : ExprSound with_sign d inner.signed

-- what may be opened inside is sound
pub data Depth : ℕ → Option Inner → Type 0 where
  deepest : Depth zero None
  deeper : {d : ℕ} {inner : Inner} → InnerSound d inner → Depth (suc d) (Some inner)

-- ---- brackets

pub record Closed (d : ℕ) (u : List ℕ) (e : Expr) (close : Token) (left : List ℕ) : Type 0 where
  pub after : List ℕ
  pub is : Is an_expression d u e after
  pub end : Takes close after left

pub enclosed_found : {d : ℕ} {inner : Inner} → InnerSound d inner → (close : Token) (t u : List ℕ) → Alike u t → (e : Expr) (left : List ℕ) → enclosed inner close t ≡ Ok (e, left) → Closed d u e close left
unfolding enclosed
enclosed_found {d} {inner} sound close t u alike e left h =
    let b = bind_ok (inner.expression t) (λ part. cond (next_is close part.1) (Ok (part.0.expr, behind close part.1)) (no_end part.0.last part.0.choice (close ∷ []) (spaces part.1))) (e, left) h in
    let s = sound.expression t u alike b.0.0 b.0.1 b.1 in
    elim (chosen_of (next_is close b.0.1) (Ok (b.0.0.expr, behind close b.0.1)) (no_end b.0.0.last b.0.0.choice (close ∷ []) (spaces b.0.1)) (Ok (e, left)) b.2) [
      | inl k ↦
          let p = ok_parts {F = Fault} (b.0.0.expr, behind close b.0.1) (e, left) k.1 in
          record { after = s.rest; is = subst (λ (x : Expr). Is an_expression d u x s.rest) p.0 s.is; end = subst (λ (r : List ℕ). Takes close s.rest r) p.1 (took close s.rest b.0.1 s.alike k.0) }
      | inr k ↦ absurd (let w = k.1 in cc)
    ]

zero_within : (most : Option ℕ) → is_within most 0 ≡ true
zero_within None = refl
zero_within (Some most) = le-leb 0 most (omega arith)

both : (a b : Bool) → a ≡ true → b ≡ true → (a && b) ≡ true
both true b p q = q
both false b p q = absurd cc

pub none_allowed : (counts : Counts) → (counts.least == 0) ≡ true → allows counts 0 ≡ true
none_allowed counts h = both (nat_le counts.least 0) (is_within counts.most 0) (le-leb counts.least 0 (let k = eqb-true counts.least 0 h in omega arith)) (zero_within counts.most)

one_longer : (found : List Expr) (e : Expr) → length (found ++ e ∷ []) ≡ suc (length found)
one_longer found e = omega (arith, length-append found (e ∷ []))

more_within : (most : Option ℕ) (n : ℕ) → takes_behind most n ≡ true → is_within most (suc n) ≡ true
more_within None n h = refl
more_within (Some most) n h = h

module _ (holder : Holder) {d : ℕ} {inner : Inner} (sound : InnerSound d inner) where
  turns_found : (n : ℕ) (found : List Expr) (t u : List ℕ) → Alike u t → takes_behind (counts_of holder).most (length found) ≡ true → (items : List Expr) (left : List ℕ)
      → item_turns n inner.expression (closing holder) (counts_of holder) found t ≡ Ok (items, left) → Spelled (more_items holder found) d u (made_of holder items) left
  unfolding item_turns
  turns_found zero found t u alike room items left e = absurd cc
  turns_found (suc n) found t u alike room items left e =
      let counts : Counts = counts_of holder in
      let b = bind_ok (inner.expression t) (λ part. after_item (closing holder) counts (item_turns n inner.expression (closing holder) counts) (found ++ part.0.expr ∷ []) part.0 part.1) (items, left) e in
      let s = sound.expression t u alike b.0.0 b.0.1 b.1 in
      let all : List Expr = found ++ b.0.0.expr ∷ [] in
      elim (chosen_of (nat_le counts.least (length all) && next_is (closing holder) b.0.1) (Ok (all, behind (closing holder) b.0.1)) _ (Ok (items, left)) b.2) [
        | inl k ↦
            let p = ok_parts {F = Fault} (all, behind (closing holder) b.0.1) (items, left) k.1 in
            let q = and_parts (nat_le counts.least (length all)) (next_is (closing holder) b.0.1) k.0 in
            let fits : is_within counts.most (length all) ≡ true = ap (is_within counts.most) (one_longer found b.0.0.expr) ∙ more_within counts.most (length found) room in
            let here : Is (more_items holder found) d u (made_of holder all) (behind (closing holder) b.0.1) =
            last_item s.is (both (nat_le counts.least (length all)) (is_within counts.most (length all)) q.0 fits) (took (closing holder) s.rest b.0.1 s.alike q.1) in
            record { rest = left; is = subst (λ (xs : List Expr). Is (more_items holder found) d u (made_of holder xs) left) p.0 (subst (λ (r : List ℕ). Is (more_items holder found) d u (made_of holder all) r) p.1 here); alike = refl }
        | inr k ↦ elim (chosen_of (takes_behind counts.most (length all) && next_is Token.Comma b.0.1) _ _ (Ok (items, left)) k.1) [
          | inl m ↦
              let q = and_parts (takes_behind counts.most (length all)) (next_is Token.Comma b.0.1) m.0 in
              let v = turns_found n all (behind Token.Comma b.0.1) (behind Token.Comma b.0.1) refl q.0 items left m.1 in
              record { rest = v.rest; is = one_item s.is (took Token.Comma s.rest b.0.1 s.alike q.1) v.is; alike = v.alike }
          | inr m ↦ absurd (let w = m.1 in cc)
        ]
      ]

items_found : (holder : Holder) {d : ℕ} {o : Option Inner} → Depth d o → (t u : List ℕ) → Alike u t → (items : List Expr) (left : List ℕ) → items_in o (closing holder) (counts_of holder) t ≡ Ok (items, left)
    → Spelled (in_brackets holder) d u (made_of holder items) left
items_found holder deepest t u alike items left e = absurd cc
items_found holder (deeper {inner = inner} sound) t u alike items left e =
    elim (chosen_of (takes_behind (counts_of holder).most 0) (item_turns (suc (length t)) inner.expression (closing holder) (counts_of holder) [] t) _ (Ok (items, left)) e) [
      | inl k ↦ (let s = turns_found holder sound (suc (length t)) [] t u alike k.0 items left k.1 in record { rest = s.rest; is = some_items s.is; alike = s.alike })
      | inr k ↦ absurd (let w = k.1 in cc)
    ]

pub arguments_found : (holder : Holder) {d : ℕ} {o : Option Inner} → Depth d o → (t u : List ℕ) → Alike u t → (items : List Expr) (left : List ℕ) → arguments o (closing holder) (counts_of holder) t ≡ Ok (items, left)
    → Spelled (in_brackets holder) d u (made_of holder items) left
unfolding arguments
arguments_found holder {d} {o} depth t u alike items left e =
    let counts : Counts = counts_of holder in
    elim (chosen_of (counts.least == 0 && next_is (closing holder) t) (Ok ([], behind (closing holder) t)) (items_in o (closing holder) counts (spaces t)) (Ok (items, left)) e) [
      | inl k ↦
          let p = ok_parts {F = Fault} ([], behind (closing holder) t) (items, left) k.1 in
          let q = and_parts (counts.least == 0) (next_is (closing holder) t) k.0 in
          let here : Is (in_brackets holder) d u (made_of holder []) (behind (closing holder) t) = no_items (none_allowed counts q.0) (took (closing holder) u t alike q.1) in
          record { rest = left; is = subst (λ (xs : List Expr). Is (in_brackets holder) d u (made_of holder xs) left) p.0 (subst (λ (r : List ℕ). Is (in_brackets holder) d u (made_of holder []) r) p.1 here); alike = refl }
      | inr k ↦ items_found holder depth (spaces t) u (alike ∙ sym (spaces_twice t)) items left k.1
    ]

-- ---- atoms

-- how a byte begins an atom
data View (b : ℕ) : Start → Type 0 where
  a_digit : is_ascii_digit b ≡ true → View b numeric
  a_quote : is_quote b ≡ true → View b (quoted b)
  a_bracket : b ≡ 91 → View b bracket
  a_group : b ≡ 40 → View b group
  a_letter : begins_name b ≡ true → View b letter
  no_start : View b nothing

by_test : (b : ℕ) (x : Bool) (s k : Start) → (x ≡ true → View b s) → (x ≡ false → View b k) → View b (cond x s k)
by_test b true s k p q = p refl
by_test b false s k p q = q refl

view : (b : ℕ) → View b (start_of (Some b))
view b =
    by_test b (is_ascii_digit b) _ _ a_digit (λ _. by_test b (b == 34 || b == 39) _ _ a_quote (λ _. by_test b (b == 91) _ _ (λ h. a_bracket (eqb-true b 91 h)) (λ _.
    by_test b (b == 40) _ _ (λ h. a_group (eqb-true b 40 h)) (λ _. by_test b (begins_name b) _ _ a_letter (λ _. no_start)))))

list_stands : (s : List ℕ) → stands Token.OpenList (91 ∷ s) ≡ true
unfolding stands common
list_stands [] = refl
list_stands (b ∷ s) = refl

group_stands : (s : List ℕ) → stands Token.OpenGroup (40 ∷ s) ≡ true
unfolding stands common
group_stands [] = refl
group_stands (b ∷ s) = refl

not_called_found : (f : Function) (w rest : List ℕ) (e : Expr) (left : List ℕ) → not_called f w rest ≡ Ok (e, left) → (is_variable (Some f) ≡ true) × (Expr.Name w ≡ e) × (rest ≡ left)
not_called_found Function.States w rest e left h = absurd cc
not_called_found _ w rest e left h = let p = ok_parts {F = Fault} (Expr.Name w, rest) (e, left) h in (refl, p.0, p.1)

module _ {d : ℕ} (u : List ℕ) where
  variable : (w rest : List ℕ) (e : Expr) (left : List ℕ) → IsName (spaces u) w rest → (o : Option Function) → function_named w ≡ o → is_variable o ≡ true → Expr.Name w ≡ e → Alike rest left → Spelled an_atom d u e left
  variable w rest e left n o is v same alike = record { rest = rest; is = subst (λ (x : Expr). Is an_atom d u x rest) same (of_name n (ap is_variable is ∙ v)); alike = alike }

  uncalled : (w rest rest' : List ℕ) (e : Expr) (left : List ℕ) → IsName (spaces u) w rest → (f : Function) → function_named w ≡ Some f → Alike rest rest' → not_called f w rest' ≡ Ok (e, left) → Spelled an_atom d u e left
  uncalled w rest rest' e left n f is alike h =
      let p = not_called_found f w rest' e left h in
      variable w rest e left n (Some f) is p.0 p.1 (alike ∙ ap spaces p.2)

named_found : {d : ℕ} {o : Option Inner} → Depth d o → (u w rest : List ℕ) (e : Expr) (left : List ℕ) → IsName (spaces u) w rest → (k : Option Function) → function_named w ≡ k → call_or_name k o w rest ≡ Ok (e, left) → Spelled an_atom d u e left
named_found depth u w rest e left n None is h = let p = ok_parts {F = Fault} (Expr.Name w, rest) (e, left) h in variable u w rest e left n None is refl p.0 (ap spaces p.1)
named_found deepest u w rest e left n (Some f) is h = uncalled u w rest rest e left n f is refl h
named_found {d} (deeper {inner = inner} sound) u w rest e left n (Some f) is h =
    elim (chosen_of (next_is Token.OpenGroup rest) (made (Expr.Function (function_row f).number) (arguments (Some inner) Token.CloseGroup (function_row f).counts (behind Token.OpenGroup rest))) (not_called f w (spaces rest)) (Ok (e, left)) h) [
      | inl k ↦
          let m = made_ok {F = Fault} (Expr.Function (function_row f).number) (arguments (Some inner) Token.CloseGroup (function_row f).counts (behind Token.OpenGroup rest)) e left k.1 in
          let s = arguments_found (of_call f) (deeper sound) (behind Token.OpenGroup rest) (behind Token.OpenGroup rest) refl m.0 left m.1 in
          record { rest = s.rest; is = subst (λ (x : Expr). Is an_atom d u x s.rest) m.2 (of_function n is (took Token.OpenGroup rest rest refl k.0) s.is); alike = s.alike }
      | inr k ↦ uncalled u w rest (spaces rest) e left n f is (sym (spaces_twice rest)) k.1
    ]

word_atom_found : {d : ℕ} {o : Option Inner} → Depth d o → (b : ℕ) (s u : List ℕ) → spaces u ≡ b ∷ s → begins_name b ≡ true → (k : Option Value) → constant (word (b ∷ s)) ≡ k → (e : Expr) (left : List ℕ)
    → by_word k o (word (b ∷ s)) (skip_word (b ∷ s)) ≡ Ok (e, left) → Spelled an_atom d u e left
word_atom_found {d} depth b s u at first (Some v) is e left h =
    let p = ok_parts {F = Fault} (Expr.Plain v, skip_word (b ∷ s)) (e, left) h in
    let run : IsWord (spaces u) (word (b ∷ s)) (skip_word (b ∷ s)) = subst (λ (x : List ℕ). IsWord x (word (b ∷ s)) (skip_word (b ∷ s))) (sym at) (word_found (b ∷ s)) in
    record { rest = skip_word (b ∷ s); is = subst (λ (x : Expr). Is an_atom d u x (skip_word (b ∷ s))) p.0 (of_constant run is); alike = ap spaces p.1 }
word_atom_found {d} {o} depth b s u at first None is e left h =
    let w : List ℕ = word (b ∷ s) in
    elim (chosen_of (is_reserved w) _ (call_or_name (function_named w) o w (skip_word (b ∷ s))) (Ok (e, left)) h) [
      | inl k ↦ absurd (let x = k.1 in cc)
      | inr k ↦
          let n : IsName (spaces u) w (skip_word (b ∷ s)) = subst (λ (x : List ℕ). IsName x w (skip_word (b ∷ s))) (sym at) (name_is first (word_found (b ∷ s)) k.0) in
          named_found depth u w (skip_word (b ∷ s)) e left n (function_named w) refl k.1
    ]

group_found : {d : ℕ} {o : Option Inner} → Depth d o → (s u : List ℕ) → spaces u ≡ 40 ∷ s → (e : Expr) (left : List ℕ) → in_group o (40 ∷ s) ≡ Ok (e, left) → Spelled an_atom d u e left
group_found deepest s u at e left h = absurd cc
group_found (deeper sound) s u at e left h =
    let c = enclosed_found sound Token.CloseGroup s s refl e left h in
    let open' : Takes Token.OpenGroup u s = subst (λ (r : List ℕ). Takes Token.OpenGroup u r) (ap (λ (x : List ℕ). drop 1 x) at) (takes (ap (stands Token.OpenGroup) at ∙ group_stands s)) in
    record { rest = left; is = of_group open' c.is c.end; alike = refl }

by_view : {d : ℕ} {o : Option Inner} → Depth d o → (b : ℕ) (s u : List ℕ) → spaces u ≡ b ∷ s → (k : Start) → View b k → (e : Expr) (left : List ℕ) → atom_by k o (b ∷ s) ≡ Ok (e, left) → Spelled an_atom d u e left
unfolding word_atom
by_view {d} depth b s u at k (a_digit first) e left h =
    let m = made_ok {F = Fault} (λ n. Expr.Plain (Value.Number n)) (number (b ∷ s)) e left h in
    record { rest = left; is = subst (λ (x : Expr). Is an_atom d u x left) m.2 (of_number (subst (λ (x : List ℕ). IsNumber x m.0 left) (sym at) (number_found b s m.0 left first m.1))); alike = refl }
by_view {d} depth b s u at k (a_quote is) e left h =
    let m = made_ok {F = Fault} (λ t. Expr.Plain (Value.Text t)) (string b s) e left h in
    record { rest = left; is = subst (λ (x : Expr). Is an_atom d u x left) m.2 (of_string at is (string_found b s m.0 left m.1)); alike = refl }
by_view {d} {o} depth b s u at k (a_bracket is) e left h =
    let at' : spaces u ≡ 91 ∷ s = at ∙ ap (λ (x : ℕ). x ∷ s) is in
    let m = made_ok {F = Fault} Expr.List (arguments o Token.CloseList (any_from 0) s) e left h in
    let a = arguments_found of_list depth s s refl m.0 left m.1 in
    let open' : Takes Token.OpenList u s = subst (λ (r : List ℕ). Takes Token.OpenList u r) (ap (λ (x : List ℕ). drop 1 x) at') (takes (ap (stands Token.OpenList) at' ∙ list_stands s)) in
    record { rest = a.rest; is = subst (λ (x : Expr). Is an_atom d u x a.rest) m.2 (of_items open' a.is); alike = a.alike }
by_view {o = o} depth b s u at k (a_group is) e left h =
    group_found depth s u (at ∙ ap (λ (x : ℕ). x ∷ s) is) e left (ap (λ (x : ℕ). in_group o (x ∷ s)) (sym is) ∙ h)
by_view depth b s u at k (a_letter first) e left h = word_atom_found depth b s u at first (constant (word (b ∷ s))) refl e left h
by_view depth b s u at k no_start e left h = absurd cc

by_front : {d : ℕ} {o : Option Inner} → Depth d o → (s u : List ℕ) → spaces u ≡ s → (e : Expr) (left : List ℕ) → atom_by (start_of (front s)) o s ≡ Ok (e, left) → Spelled an_atom d u e left
by_front depth [] u at e left h = absurd cc
by_front depth (b ∷ s) u at e left h = by_view depth b s u at (start_of (Some b)) (view b) e left h

pub atom_found : {d : ℕ} {o : Option Inner} → Depth d o → ExprSound an_atom d (atom o)
unfolding atom
atom_found depth t u alike e left h = by_front depth (spaces t) u alike e left h
