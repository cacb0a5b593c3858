-- How long a phrase of the grammar is, and how it begins.
use Rattle.std.proofs.Common.{◌≡◌, ℕ, ◌≤◌, ◌<◌, Bool, true, false, ◌⊎◌, inl, inr, List, [], ◌∷◌, ◌++◌, length, drop, Option, Some, None, refl, sym, ap, ◌∙◌, arith}
use Rattle.std.specs.Prelude.{◌==◌, ◌||◌, codes, nat_eq}
use Rattle.std.specs.Str.{bytes_eq}
use Rattle.std.specs.Char.{is_ascii_digit}
use Rattle.std.proofs.lemmas.Bool.{and_parts, eqb-true, not-true}
use Rattle.ha_value.specs.declared.value.Value.{Value}
use Rattle.ha_config.specs.declared.template.Expr.{Expr}
use Rattle.reading.specs.Answer.{front}
use Rattle.reading.specs.Bytes.{sees}
use Rattle.reading.proofs.Basics.{chosen as chosen_of}
use Rattle.tpl_parse.specs.declared.token.Token.{Token}
use Rattle.tpl_parse.specs.declared.expression.Level.{Level}
use Rattle.tpl_parse.specs.Token.{begins_name, in_name, is_reserved, ends_before, spaces, stands, next_is, text_of}
use Rattle.tpl_parse.specs.Literal.{word}
use Rattle.tpl_parse.specs.Reading.{constant}
use Rattle.tpl_parse.specs.Grammar.{Takes, takes, operand_of, end, other, more, IsWord, IsName, name, whole, places, IsNumber, number, is_quote, IsTest, is_none, is_defined, is_not_none, is_not_defined, Holder, closing, of_list, of_call, of_filter, Phrase, an_expression, a_negation, a_comparison, with_filters, with_sign, with_parts, an_atom, operands, more_operands, more_filters, more_parts, in_brackets, more_items, Is, chosen, chosen_if, chosen_else, chain, no_operand, one_operand, negated, compared, alone, compare, outside, tested, filtered, no_filter, bare_filter, one_filter, negative, unsigned, asked, no_part, one_key, one_place, of_number, of_string, of_constant, of_name, of_function, of_items, of_group, no_items, some_items, last_item, one_item}
use Rattle.tpl_parse.proofs.Apart.{apart, not_at, stands_parts, is_false}
use Rattle.tpl_parse.proofs.Next.{taken, spaces_within}
use Rattle.tpl_parse.proofs.Runs.{word_read, numeral_within}
use Rattle.tpl_parse.proofs.StringLaws.{string_within}

-- ---- sizes

pub less : {token : Token} {t rest : List ℕ} → Takes token t rest → length (spaces rest) < length (spaces t)
less {token} {t} h = (taken {t = t} refl h).less

number_within : {t rest : List ℕ} {n : _} → IsNumber t n rest → length rest ≤ length t
number_within (number numeral e) = numeral_within numeral

pub name_within : {t w rest : List ℕ} → IsName t w rest → length rest ≤ length t
name_within (name first run free) = (word_read run).within

pub test_within : {holds : Bool} {t rest : List ℕ} → IsTest holds t rest → length (spaces rest) ≤ length (spaces t)
test_within (is_none k h) = omega (arith, less h)
test_within (is_defined h) = omega (arith, less h)
test_within (is_not_none h k l) = omega (arith, less h, less l)
test_within (is_not_defined h l) = omega (arith, less h, less l)

-- what follows a phrase is no longer than what it begins with
pub sizes : {r : Phrase} {d : ℕ} {t rest : List ℕ} {e : Expr} → Is r d t e rest → length (spaces rest) ≤ length (spaces t)
sizes (chosen a) = sizes a
sizes (chosen_if a i b) = omega (arith, sizes a, less i, sizes b)
sizes (chosen_else a i b j c) = omega (arith, sizes a, less i, sizes b, less j, sizes c)
sizes (chain a b) = omega (arith, sizes a, sizes b)
sizes no_operand = omega arith
sizes (one_operand k i a b) = omega (arith, less i, sizes a, sizes b)
sizes (negated i a) = omega (arith, less i, sizes a)
sizes (compared a) = sizes a
sizes (alone a) = sizes a
sizes (compare a k i b) = omega (arith, sizes a, less i, sizes b)
sizes (outside a i j b) = omega (arith, sizes a, less i, less j, sizes b)
sizes (tested a i h) = omega (arith, sizes a, less i, test_within h)
sizes (filtered a b) = omega (arith, sizes a, sizes b)
sizes no_filter = omega arith
sizes (bare_filter {a = a} {b = b} i w k l m) = omega (arith, less i, (word_read w).within, spaces_within b, sizes m)
sizes (one_filter {a = a} {b = b} i w k j m o) = omega (arith, less i, (word_read w).within, spaces_within b, less j, sizes m, sizes o)
sizes (negative {a = u} e a) = omega (arith, ap length e, spaces_within u, sizes a)
sizes (unsigned a) = sizes a
sizes (asked a b) = omega (arith, sizes a, sizes b)
sizes no_part = omega arith
sizes (one_key {b = b} i n a) = omega (arith, less i, name_within n, spaces_within b, sizes a)
sizes (one_place i a j b) = omega (arith, less i, sizes a, less j, sizes b)
sizes (of_number {rest = rest} n) = omega (arith, number_within n, spaces_within rest)
sizes (of_string {a = u} {rest = rest} e q s) = omega (arith, ap length e, string_within s, spaces_within rest)
sizes (of_constant {rest = rest} w c) = omega (arith, (word_read w).within, spaces_within rest)
sizes (of_name {rest = rest} n v) = omega (arith, name_within n, spaces_within rest)
sizes (of_function {a = u} n k i b) = omega (arith, name_within n, spaces_within u, less i, sizes b)
sizes (of_items i a) = omega (arith, less i, sizes a)
sizes (of_group i a j) = omega (arith, less i, sizes a, less j)
sizes (no_items k i) = omega (arith, less i)
sizes (some_items a) = sizes a
sizes (last_item a k i) = omega (arith, sizes a, less i)
sizes (one_item a i b) = omega (arith, sizes a, less i, sizes b)

-- ---- first bytes

abbrev pub is_first : ℕ → Bool
is_first b = is_ascii_digit b || (is_quote b || (b == 91 || (b == 40 || begins_name b)))

abbrev pub starts_atom : Option ℕ → Bool
starts_atom None = false
starts_atom (Some b) = is_first b

abbrev pub starts_operand : Option ℕ → Bool
starts_operand None = false
starts_operand (Some b) = b == 45 || is_first b

or_right : (a b : Bool) → b ≡ true → (a || b) ≡ true
or_right true b h = refl
or_right false b h = h

or_left : (a b : Bool) → a ≡ true → (a || b) ≡ true
or_left true b h = refl
or_left false b h = absurd cc

atom_is_operand : (o : Option ℕ) → starts_atom o ≡ true → starts_operand o ≡ true
atom_is_operand None h = absurd cc
atom_is_operand (Some b) h = or_right (b == 45) (is_first b) h

-- the byte at which a token begins
pub stands_front : (token : Token) (b : ℕ) (bs : List ℕ) (t : List ℕ) → text_of token ≡ b ∷ bs → stands token t ≡ true → front t ≡ Some b
stands_front token b bs t e h =
    let p = (stands_parts token t h).0 in
    ap front (p ∙ ap (λ (x : List ℕ). x ++ drop (length (text_of token)) t) e)

no_token : (token : Token) (b : ℕ) (bs : List ℕ) (t : List ℕ) → text_of token ≡ b ∷ bs → starts_operand (Some b) ≡ false → starts_operand (front t) ≡ true → stands token t ≡ false
no_token token b bs t e f h = is_false (stands token t) (λ k. let w : true ≡ false = sym h ∙ ap starts_operand (stands_front token b bs t e k) ∙ f in cc)

-- no operand begins with a closing bracket
pub no_closing : (holder : Holder) (t : List ℕ) → starts_operand (front (spaces t)) ≡ true → next_is (closing holder) t ≡ false
no_closing of_list t h = no_token Token.CloseList 93 [] (spaces t) refl refl h
no_closing (of_call f) t h = no_token Token.CloseGroup 41 [] (spaces t) refl refl h
no_closing (of_filter f b) t h = no_token Token.CloseGroup 41 [] (spaces t) refl refl h

pub no_sign : (t : List ℕ) → starts_atom (front t) ≡ true → sees 45 t ≡ false
no_sign [] h = absurd cc
no_sign (b ∷ t) h = is_false (b == 45) (λ k. let e : b ≡ 45 = eqb-true b 45 k in let w : true ≡ false = sym h ∙ ap is_first e in cc)

-- ---- words that are not `not`

nothing_more : (t : List ℕ) → ends_before Token.Not (front t) ≡ true → IsWord t [] t
nothing_more [] h = end
nothing_more (b ∷ t) h = other (not-true (in_name b) h)

not_word : (t w rest : List ℕ) → IsWord t w rest → stands Token.Not t ≡ true → w ≡ codes "not"
not_word t w rest run h =
    let p = stands_parts Token.Not t h in
    let u : List ℕ = drop 3 t in
    let here : IsWord (110 ∷ 111 ∷ 116 ∷ u) (110 ∷ 111 ∷ 116 ∷ []) u = more refl (more refl (more refl (nothing_more u p.1))) in
    sym (word_read run).word_is ∙ ap word p.0 ∙ (word_read here).word_is

name_not : {t w rest : List ℕ} → IsName t w rest → stands Token.Not t ≡ false
name_not {t} {w} {rest} (name first run free) = is_false (stands Token.Not t) (λ k. let e = not_word t w rest run k in let v : false ≡ true = sym free ∙ ap is_reserved e in cc)

constant_not : {t w rest : List ℕ} (v : Value) → IsWord t w rest → constant w ≡ Some v → stands Token.Not t ≡ false
constant_not {t} {w} {rest} v run e = is_false (stands Token.Not t) (λ k. let f = not_word t w rest run k in let n : Some v ≡ None = sym e ∙ ap constant f in cc)

first_is : (b c : ℕ) (w u : List ℕ) → bytes_eq (b ∷ w) (c ∷ u) ≡ true → b ≡ c
first_is b c w u e = eqb-true b c (and_parts (nat_eq b c) (bytes_eq w u) e).0

one_of_two : (b c d : ℕ) (w u v : List ℕ) → (bytes_eq (b ∷ w) (c ∷ u) || bytes_eq (b ∷ w) (d ∷ v)) ≡ true → (b ≡ c) ⊎ (b ≡ d)
one_of_two b c d w u v e = by_first (bytes_eq (b ∷ w) (c ∷ u)) refl e
  where
    by_first : (x : Bool) → bytes_eq (b ∷ w) (c ∷ u) ≡ x → (x || bytes_eq (b ∷ w) (d ∷ v)) ≡ true → (b ≡ c) ⊎ (b ≡ d)
    by_first true h k = inl (first_is b c w u h)
    by_first false h k = inr (first_is b d w v k)

letter_of : (b c d : ℕ) (w u v : List ℕ) → starts_atom (Some c) ≡ true → starts_atom (Some d) ≡ true → (bytes_eq (b ∷ w) (c ∷ u) || bytes_eq (b ∷ w) (d ∷ v)) ≡ true → starts_atom (Some b) ≡ true
letter_of b c d w u v p q e = elim (one_of_two b c d w u v e) [ inl h ↦ ap is_first h ∙ p | inr h ↦ ap is_first h ∙ q ]

letter : (b : ℕ) (w : List ℕ) (v : Value) → constant (b ∷ w) ≡ Some v → starts_atom (Some b) ≡ true
letter b w v e = elim (chosen_of (bytes_eq (b ∷ w) (codes "true") || bytes_eq (b ∷ w) (codes "True")) _ _ (Some v) e) [
  | inl h ↦ letter_of b 116 84 w _ _ refl refl h.0
  | inr h ↦ elim (chosen_of (bytes_eq (b ∷ w) (codes "false") || bytes_eq (b ∷ w) (codes "False")) _ _ (Some v) h.1) [
    | inl k ↦ letter_of b 102 70 w _ _ refl refl k.0
    | inr k ↦ elim (chosen_of (bytes_eq (b ∷ w) (codes "none") || bytes_eq (b ∷ w) (codes "None")) _ _ (Some v) k.1) [
      | inl l ↦ letter_of b 110 78 w _ _ refl refl l.0
      | inr l ↦ absurd (let m = l.1 in cc)
    ]
  ]
]

word_starts : {t w rest : List ℕ} → IsWord t w rest → (v : Value) → constant w ≡ Some v → starts_atom (front t) ≡ true
word_starts end v e = absurd cc
word_starts (other h) v e = absurd cc
word_starts (more {b = b} {run = run} h r) v e = letter b run v e

name_starts : {t w rest : List ℕ} → IsName t w rest → starts_atom (front t) ≡ true
name_starts (name {b = b} first run free) = or_right (is_ascii_digit b) _ (or_right (is_quote b) _ (or_right (b == 91) _ (or_right (b == 40) (begins_name b) first)))

number_starts : {t rest : List ℕ} {n : _} → IsNumber t n rest → starts_atom (front t) ≡ true
number_starts (number (whole {b = b} h run bare) e) = or_left (is_ascii_digit b) _ h
number_starts (number (places {b = b} h run digit run2) e) = or_left (is_ascii_digit b) _ h

-- ---- how a phrase begins

pub record BeginsOperand (t : List ℕ) : Type 0 where
  pub first : starts_operand (front (spaces t)) ≡ true

pub record BeginsSum (t : List ℕ) : Type 0 where
  pub first : starts_operand (front (spaces t)) ≡ true
  pub no_not : next_is Token.Not t ≡ false

pub record BeginsAtom (t : List ℕ) : Type 0 where
  pub first : starts_atom (front (spaces t)) ≡ true
  pub no_not : next_is Token.Not t ≡ false

abbrev level_begins : Level → List ℕ → Type 0
level_begins Level.Or = BeginsOperand
level_begins Level.And = BeginsOperand
level_begins Level.Sum = BeginsSum
level_begins Level.Join = BeginsSum
level_begins Level.Product = BeginsSum

abbrev pub Begins : Phrase → List ℕ → Type 0
Begins an_expression t = BeginsOperand t
Begins a_negation t = BeginsOperand t
Begins a_comparison t = BeginsSum t
Begins with_filters t = BeginsSum t
Begins with_sign t = BeginsSum t
Begins with_parts t = BeginsAtom t
Begins an_atom t = BeginsAtom t
Begins (operands level) t = level_begins level t
Begins (more_operands level left) t = Unit {0}
Begins (more_filters base) t = Unit {0}
Begins (more_parts base) t = Unit {0}
Begins (in_brackets holder) t = Unit {0}
Begins (more_items holder found) t = BeginsOperand t

by_level : (level : Level) (t : List ℕ) → Begins (operand_of level) t → level_begins level t
by_level Level.Or t h = h
by_level Level.And t h = h
by_level Level.Sum t h = h
by_level Level.Join t h = h
by_level Level.Product t h = h

at_token : (token : Token) (b : ℕ) (bs t rest : List ℕ) → text_of token ≡ b ∷ bs → starts_operand (Some b) ≡ true → Takes token t rest → starts_operand (front (spaces t)) ≡ true
at_token token b bs t rest e s (takes h) = ap starts_operand (stands_front token b bs (spaces t) e h) ∙ s

atom_token : (token : Token) (b : ℕ) (bs t rest : List ℕ) → text_of token ≡ b ∷ bs → starts_atom (Some b) ≡ true → apart token Token.Not ≡ true → Takes token t rest → BeginsAtom t
atom_token token b bs t rest e s d (takes h) = record { first = ap starts_atom (stands_front token b bs (spaces t) e h) ∙ s; no_not = not_at token Token.Not (spaces t) d h }

byte_not : (b : ℕ) (t : List ℕ) → (b ≡ 110 → ⊥) → stands Token.Not (b ∷ t) ≡ false
byte_not b t h = is_false (stands Token.Not (b ∷ t)) (λ k. h (some_is b 110 (stands_front Token.Not 110 (111 ∷ 116 ∷ []) (b ∷ t) refl k)))
  where
    some_is : (m n : ℕ) → Some m ≡ Some n → m ≡ n
    some_is m n e = cc

digit_not : (b : ℕ) (t : List ℕ) → is_ascii_digit b ≡ true → stands Token.Not (b ∷ t) ≡ false
digit_not b t h = byte_not b t (λ e. let w : true ≡ false = sym h ∙ ap is_ascii_digit e in cc)

no_quote : (b : ℕ) → is_quote b ≡ true → b ≡ 110 → ⊥
no_quote b h e = let w : true ≡ false = sym h ∙ ap is_quote e in cc

number_not : {t rest : List ℕ} {n : _} → IsNumber t n rest → stands Token.Not t ≡ false
number_not (number (whole {b = b} {text = t} h run bare) e) = digit_not b t h
number_not (number (places {b = b} {text = t} h run digit run2) e) = digit_not b t h

sum_of_atom : {t : List ℕ} → BeginsAtom t → BeginsSum t
sum_of_atom {t} h = record { first = atom_is_operand (front (spaces t)) h.first; no_not = h.no_not }

operand_of_sum : {t : List ℕ} → BeginsSum t → BeginsOperand t
operand_of_sum h = record { first = h.first }

pub begins : {r : Phrase} {d : ℕ} {t rest : List ℕ} {e : Expr} → Is r d t e rest → Begins r t
begins (chosen a) = begins a
begins (chosen_if a i b) = begins a
begins (chosen_else a i b j c) = begins a
begins (chain {level = l} {text = t} a b) = by_level l t (begins a)
begins no_operand = tt
begins (one_operand k i a b) = tt
begins (negated {text = t} {a = u} i a) = record { first = at_token Token.Not 110 _ t u refl refl i }
begins (compared a) = operand_of_sum (begins a)
begins (alone a) = begins a
begins (compare a k i b) = begins a
begins (outside a i j b) = begins a
begins (tested a i h) = begins a
begins (filtered a b) = begins a
begins no_filter = tt
begins (bare_filter i w k l m) = tt
begins (one_filter i w k j m o) = tt
begins (negative {a = u} e a) = record { first = ap (λ (v : List ℕ). starts_operand (front v)) e; no_not = ap (stands Token.Not) e ∙ byte_not 45 u (λ k. omega arith) }
begins (unsigned a) = sum_of_atom (begins a)
begins (asked a b) = begins a
begins no_part = tt
begins (one_key i n a) = tt
begins (one_place i a j b) = tt
begins (of_number n) = record { first = number_starts n; no_not = number_not n }
begins (of_string {quote = q} {a = u} e is s) = record { first = ap (λ (v : List ℕ). starts_atom (front v)) e ∙ or_right (is_ascii_digit q) _ (or_left (is_quote q) _ is); no_not = ap (stands Token.Not) e ∙ byte_not q u (no_quote q is) }
begins (of_constant {value = v} w c) = record { first = word_starts w v c; no_not = constant_not v w c }
begins (of_name n v) = record { first = name_starts n; no_not = name_not n }
begins (of_function n k i b) = record { first = name_starts n; no_not = name_not n }
begins (of_items {text = t} {a = u} i a) = atom_token Token.OpenList 91 _ t u refl refl refl i
begins (of_group {text = t} {a = u} i a j) = atom_token Token.OpenGroup 40 _ t u refl refl refl i
begins (no_items k i) = tt
begins (some_items a) = tt
begins (last_item a k i) = begins a
begins (one_item a i b) = begins a
