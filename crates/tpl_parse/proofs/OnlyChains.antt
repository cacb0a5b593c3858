-- Operators, comparisons and choices in the grammar are read.
use Rattle.std.proofs.Common.{◌≡◌, ℕ, suc, zero, Bool, true, false, not, List, [], ◌∷◌, ◌++◌, length, drop, Option, Some, None, Ok, refl, ap, ◌∙◌}
use Rattle.std.proofs.lemmas.Bool.{cond-false}
use Rattle.ha_config.specs.declared.template.Op.{Op}
use Rattle.ha_config.specs.declared.template.Expr.{Expr}
use Rattle.ha_config.specs.declared.template.Expr
use Rattle.tpl_parse.specs.declared.token.Token.{Token}
use Rattle.tpl_parse.specs.declared.expression.Last.{Last}
use Rattle.tpl_parse.specs.Token.{spaces, stands, next_is, past, want, text_of}
use Rattle.tpl_parse.specs.Reading.{comparisons, operator, operator_of, behind_operator, opened, expression, negation, comparison, comparator, any_operator, disjunction, sum, none_test, tested, part_of, ending, chosen}
use Rattle.tpl_parse.specs.Grammar.{Takes, takes, Compares, equal, unequal, less as less_than, at_most, greater, at_least, within, IsNoneToken, plain_none, printed_none, IsTest, is_none, is_defined, is_not_none, is_not_defined}
use Rattle.tpl_parse.proofs.Tokens.{spaces_twice}
use Rattle.tpl_parse.proofs.Apart.{Quiet, apart, not_at}
use Rattle.tpl_parse.proofs.Next.{Alike, taken, not_next, quiet_alike}
use Rattle.tpl_parse.proofs.Continues.{behind_comparison, comparator_apart, behind_expression, GivenPart}

-- ---- `a if test else b`

pub chosen_read : (d : ℕ) (t : List ℕ) {e : Expr} {rest : List ℕ} → GivenPart (disjunction (opened d) t) e rest → Quiet behind_expression rest → GivenPart (expression (opened d) t) e rest
unfolding expression
chosen_read d t {e} {rest} h q = record {
  part = part_of h.part.expr h.part.last (Some Token.If);
  left = spaces h.left;
  is = rw (h.is, not_next Token.If h.left rest h.alike q.0) refl;
  expr = h.expr;
  alike = spaces_twice h.left ∙ h.alike;
}

pub choice_read : (d : ℕ) (t : List ℕ) {yes' test' : Expr} {a b rest : List ℕ}
    → GivenPart (disjunction (opened d) t) yes' a → Takes Token.If a b → GivenPart (disjunction (opened d) b) test' rest → Quiet behind_expression rest
    → GivenPart (expression (opened d) t) (Expr.Pick test' yes' None) rest
unfolding expression opened
choice_read zero t {yes'} {test'} {a} {b} {rest} h i g q =
    let k = taken {t = h.left} h.alike i in
    record {
      part = ending (chosen h.part g.part None) g.part.last;
      left = g.left;
      is = rw (h.is, k.rest_is, k.next, g.is) refl;
      expr = λ i. Expr.Pick (g.expr i) (h.expr i) None;
      alike = g.alike;
    }
choice_read (suc d) t {yes'} {test'} {a} {b} {rest} h i g q =
    let k = taken {t = h.left} h.alike i in
    record {
      part = part_of (chosen h.part g.part None) g.part.last (Some Token.Else);
      left = spaces g.left;
      is = rw (h.is, k.rest_is, k.next, g.is, not_next Token.Else g.left rest g.alike q.1.0) refl;
      expr = λ i. Expr.Pick (g.expr i) (h.expr i) None;
      alike = spaces_twice g.left ∙ g.alike;
    }

pub else_read : (d : ℕ) (t : List ℕ) {yes' test' other' : Expr} {a b c d' rest : List ℕ}
    → GivenPart (disjunction (opened (suc d)) t) yes' a → Takes Token.If a b → GivenPart (disjunction (opened (suc d)) b) test' c → Takes Token.Else c d' → GivenPart (expression (opened d) d') other' rest
    → GivenPart (expression (opened (suc d)) t) (Expr.Pick test' yes' (Some other')) rest
unfolding expression opened
else_read d t h i g j o =
    let k = taken {t = h.left} h.alike i in
    let l = taken {t = g.left} g.alike j in
    record {
      part = part_of (chosen h.part g.part (Some o.part.expr)) o.part.last o.part.choice;
      left = o.left;
      is = rw (h.is, k.rest_is, k.next, g.is, l.rest_is, l.next, o.is) refl;
      expr = λ i. Expr.Pick (g.expr i) (h.expr i) (Some (o.expr i));
      alike = o.alike;
    }

-- ---- `not`

pub not_read : (d : ℕ) (t : List ℕ) {e : Expr} {u a rest : List ℕ} → Alike t u → Takes Token.Not u a → GivenPart (negation (opened d) a) e rest → GivenPart (negation (opened (suc d)) t) (Expr.Not e) rest
unfolding negation opened
not_read d t {u = u} alike i h =
    let k = taken {t = t} alike i in
    record { part = ending (Expr.Not h.part.expr) h.part.last; left = h.left; is = rw (k.rest_is, k.next, h.is) refl; expr = λ i. Expr.Not (h.expr i); alike = h.alike }

-- a comparison that does not begin with `not`, wherever blanks end
pub compared_read : (d : ℕ) (t : List ℕ) {e : Expr} {rest : List ℕ} → next_is Token.Not t ≡ false → GivenPart (comparison (opened d) t) e rest → GivenPart (comparison (opened d) (spaces t)) e rest → GivenPart (negation (opened d) t) e rest
unfolding negation opened
compared_read zero t no_not h g = h
compared_read (suc d) t no_not h g = record { part = g.part; left = g.left; is = rw no_not g.is; expr = g.expr; alike = g.alike }

-- ---- comparisons

-- the operator whose token stands next, where those before it are apart from it
abbrev pub AllApart : Token → List (Token × Op) → Type 0
AllApart token [] = Unit {0}
AllApart token (row ∷ rows) = (apart token row.0 ≡ true) × AllApart token rows

abbrev pub Row : Type 0
Row = Token × Op

pub find_row : (token : Token) (op : Op) (before rest : List Row) (t : List ℕ) → AllApart token before → next_is token t ≡ true → operator (before ++ (token, op) ∷ rest) t ≡ Some (token, op)
find_row token op [] rest t a h = rw h refl
find_row token op (row ∷ before) rest t a h = rw (not_at token row.0 (spaces t) a.0 h) (find_row token op before rest t a.1 h)

abbrev pub NoneNext : List Row → List ℕ → Type 0
NoneNext [] t = Unit {0}
NoneNext (row ∷ rows) t = (next_is row.0 t ≡ false) × NoneNext rows t

pub find_none : (rows : List Row) (t : List ℕ) → NoneNext rows t → operator rows t ≡ None
find_none [] t a = refl
find_none (row ∷ rows) t a = rw a.0 (find_none rows t a.1)

none_alike : (rows : List Row) (t u : List ℕ) → Alike t u → NoneNext rows u → NoneNext rows t
none_alike [] t u alike a = tt
none_alike (row ∷ rows) t u alike a = (not_next row.0 t u alike a.0, none_alike rows t u alike a.1)

any_none : (rows : List Row) (t : List ℕ) → NoneNext rows t → any_operator rows (spaces t) ≡ Ok (None, spaces t)
any_none rows t a =
    ap (λ (o : Option Row). Ok (operator_of o, behind_operator o (spaces t))) (find_none rows (spaces t) (none_alike rows (spaces t) t (spaces_twice t) a)) ∙ ap (λ (s : List ℕ). Ok (None, s)) (spaces_twice t)

any_row : (token : Token) (op : Op) (before rest : List Row) (t : List ℕ) → AllApart token before → next_is token t ≡ true → any_operator (before ++ (token, op) ∷ rest) (spaces t) ≡ Ok (Some op, past token t)
any_row token op before rest t a h =
    ap (λ (o : Option Row). Ok (operator_of o, behind_operator o (spaces t))) (find_row token op before rest (spaces t) a (ap (stands token) (spaces_twice t) ∙ h))
    ∙ ap (λ (s : List ℕ). Ok (Some op, drop (length (text_of token)) s)) (spaces_twice t)

compares_none : (t : List ℕ) → Quiet behind_comparison t → NoneNext comparisons t
compares_none t q = let r = q.1.1 in (r.0, (r.1.0, (r.1.1.0, (r.1.1.1.0, (r.1.1.1.1.0, (r.1.1.1.1.1.0, (r.1.1.1.1.1.1.0, tt)))))))

comparator_none : (t : List ℕ) → Quiet behind_comparison t → comparator t ≡ Ok (None, spaces t)
unfolding comparator
comparator_none t q = rw q.1.0 (any_none comparisons t (compares_none t q))

comparator_by : (token : Token) (op : Op) (before rest : List Row) (t : List ℕ) → comparisons ≡ before ++ (token, op) ∷ rest → apart token Token.Not ≡ true → AllApart token before → next_is token t ≡ true
    → comparator t ≡ Ok (Some op, past token t)
unfolding comparator
comparator_by token op before rest t rows d a h =
    cond-false (next_is Token.Not t) _ _ (not_at token Token.Not (spaces t) d h) ∙ ap (λ (rs : List Row). any_operator rs (spaces t)) rows ∙ any_row token op before rest t a h

abbrev e1 : List Row
e1 = (Token.Equal, Op.Equal) ∷ []

abbrev e2 : List Row
e2 = (Token.Equal, Op.Equal) ∷ (Token.Unequal, Op.Unequal) ∷ []

abbrev e3 : List Row
e3 = (Token.Equal, Op.Equal) ∷ (Token.Unequal, Op.Unequal) ∷ (Token.Less, Op.Less) ∷ []

abbrev e4 : List Row
e4 = (Token.Equal, Op.Equal) ∷ (Token.Unequal, Op.Unequal) ∷ (Token.Less, Op.Less) ∷ (Token.AtMost, Op.AtMost) ∷ []

abbrev e5 : List Row
e5 = (Token.Equal, Op.Equal) ∷ (Token.Unequal, Op.Unequal) ∷ (Token.Less, Op.Less) ∷ (Token.AtMost, Op.AtMost) ∷ (Token.More, Op.More) ∷ []

abbrev e6 : List Row
e6 = (Token.Equal, Op.Equal) ∷ (Token.Unequal, Op.Unequal) ∷ (Token.Less, Op.Less) ∷ (Token.AtMost, Op.AtMost) ∷ (Token.More, Op.More) ∷ (Token.AtLeast, Op.AtLeast) ∷ []

comparator_row : {token : Token} {op : Op} → Compares token op → (t : List ℕ) → next_is token t ≡ true → comparator t ≡ Ok (Some op, past token t)
comparator_row equal t h = comparator_by Token.Equal Op.Equal [] _ t refl refl tt h
comparator_row unequal t h = comparator_by Token.Unequal Op.Unequal e1 _ t refl refl (refl, tt) h
comparator_row less_than t h = comparator_by Token.Less Op.Less e2 _ t refl refl (refl, (refl, tt)) h
comparator_row at_most t h = comparator_by Token.AtMost Op.AtMost e3 _ t refl refl (refl, (refl, (refl, tt))) h
comparator_row greater t h = comparator_by Token.More Op.More e4 _ t refl refl (refl, (refl, (refl, (refl, tt)))) h
comparator_row at_least t h = comparator_by Token.AtLeast Op.AtLeast e5 _ t refl refl (refl, (refl, (refl, (refl, (refl, tt))))) h
comparator_row within t h = comparator_by Token.In Op.Within e6 _ t refl refl (refl, (refl, (refl, (refl, (refl, (refl, tt)))))) h

comparator_outside : (t : List ℕ) {u a b : List ℕ} → Alike t u → Takes Token.Not u a → Takes Token.In a b → comparator t ≡ Ok (Some Op.Outside, b)
unfolding comparator want
comparator_outside t {u} {a} {b} alike i j =
    let k = taken {t = t} alike i in
    let l = taken {t = a} refl j in
    rw (k.rest_is, k.next, l.rest_is, l.next) refl

-- ---- tests behind `is`

tested_none : {token : Token} (turned : Bool) (t : List ℕ) {u rest : List ℕ} → IsNoneToken token → Alike t u → Takes token u rest → tested turned t ≡ Ok (not turned, rest)
tested_none turned t {u} plain_none alike i = let k = taken {t = t} alike i in rw (k.rest_is, k.next) refl
tested_none turned t {u} printed_none alike i =
    let k = taken {t = t} alike i in
    let l = taken {t = spaces t} (spaces_twice t ∙ alike) i in
    rw (not_at Token.PrintedNone Token.None (spaces t) refl k.next, l.rest_is, l.next) refl

tested_defined : (turned : Bool) (t : List ℕ) {u rest : List ℕ} → Alike t u → Takes Token.Defined u rest → tested turned t ≡ Ok (turned, rest)
tested_defined turned t {u} alike i =
    let k = taken {t = t} alike i in
    let l = taken {t = spaces t} (spaces_twice t ∙ alike) i in
    let m = taken {t = spaces (spaces t)} (spaces_twice (spaces t) ∙ spaces_twice t ∙ alike) i in
    rw (not_at Token.Defined Token.None (spaces t) refl k.next, not_at Token.Defined Token.PrintedNone (spaces (spaces t)) refl l.next, m.rest_is, m.next) refl

not_turned : {t : List ℕ} (token : Token) {rest : List ℕ} (r : Bool) → Takes token t rest → apart token Token.Not ≡ true → tested false (spaces t) ≡ Ok (r, rest) → none_test t ≡ Ok (r, rest)
unfolding none_test
not_turned {t} token r (takes h) d e = rw (not_at token Token.Not (spaces t) d h) e

pub test_read : {holds : Bool} {t rest : List ℕ} → IsTest holds t rest → none_test t ≡ Ok (holds, rest)
unfolding none_test
test_read {t = t} (is_none plain_none i) = not_turned Token.None true i refl (tested_none false (spaces t) plain_none (spaces_twice t) i)
test_read {t = t} (is_none printed_none i) = not_turned Token.PrintedNone true i refl (tested_none false (spaces t) printed_none (spaces_twice t) i)
test_read {t = t} (is_defined i) = not_turned Token.Defined false i refl (tested_defined false (spaces t) (spaces_twice t) i)
test_read {t = t} (is_not_none {behind = b} i none j) = let k = taken {t = t} refl i in rw (k.rest_is, k.next) (tested_none true b none refl j)
test_read {t = t} (is_not_defined {behind = b} i j) = let k = taken {t = t} refl i in rw (k.rest_is, k.next) (tested_defined true b refl j)

pub alone_read : (d : ℕ) (t : List ℕ) {e : Expr} {rest : List ℕ} → GivenPart (sum (opened d) t) e rest → Quiet behind_comparison rest → GivenPart (comparison (opened d) t) e rest
unfolding comparison
alone_read d t {e} {rest} h q =
    let c = comparator_none (spaces h.left) (quiet_alike behind_comparison (spaces h.left) rest (spaces_twice h.left ∙ h.alike) q) in
    record {
      part = h.part;
      left = spaces (spaces h.left);
      is = rw (h.is, not_next Token.Is h.left rest h.alike q.0, c) refl;
      expr = h.expr;
      alike = spaces_twice (spaces h.left) ∙ spaces_twice h.left ∙ h.alike;
    }

compared_by : (d : ℕ) (t : List ℕ) (op : Op) {left right : Expr} {a b rest : List ℕ}
    → (h : GivenPart (sum (opened d) t) left a) → next_is Token.Is h.left ≡ false → comparator (spaces h.left) ≡ Ok (Some op, b) → GivenPart (sum (opened d) b) right rest
    → GivenPart (comparison (opened d) t) (Expr.Pair op left right) rest
unfolding comparison
compared_by d t op h no_is c g = record {
  part = ending (Expr.Pair op h.part.expr g.part.expr) Last.Compared;
  left = g.left;
  is = rw (h.is, no_is, c, g.is) refl;
  expr = λ i. Expr.Pair op (h.expr i) (g.expr i);
  alike = g.alike;
}

pub compare_read : (d : ℕ) (t : List ℕ) {token : Token} {op : Op} {left right : Expr} {a b rest : List ℕ}
    → GivenPart (sum (opened d) t) left a → Compares token op → Takes token a b → GivenPart (sum (opened d) b) right rest → GivenPart (comparison (opened d) t) (Expr.Pair op left right) rest
compare_read d t {token} {op} h k i g =
    let m = taken {t = h.left} h.alike i in
    let n = taken {t = spaces h.left} (spaces_twice h.left ∙ h.alike) i in
    compared_by d t op h (comparator_apart k h.left m.next).0 (comparator_row k (spaces h.left) n.next ∙ ap (λ (r : List ℕ). Ok (Some op, r)) n.past_is) g

pub outside_read : (d : ℕ) (t : List ℕ) {left right : Expr} {a b c rest : List ℕ}
    → GivenPart (sum (opened d) t) left a → Takes Token.Not a b → Takes Token.In b c → GivenPart (sum (opened d) c) right rest → GivenPart (comparison (opened d) t) (Expr.Pair Op.Outside left right) rest
outside_read d t h i j g =
    let m = taken {t = h.left} h.alike i in
    compared_by d t Op.Outside h (not_at Token.Not Token.Is (spaces h.left) refl m.next) (comparator_outside (spaces h.left) (spaces_twice h.left ∙ h.alike) i j) g

pub tested_read : (d : ℕ) (t : List ℕ) {base : Expr} {holds : Bool} {a b rest : List ℕ}
    → GivenPart (sum (opened d) t) base a → Takes Token.Is a b → IsTest holds b rest → GivenPart (comparison (opened d) t) (Expr.IsNone base holds) rest
unfolding comparison
tested_read d t {holds = holds} {rest = rest} h i k =
    let m = taken {t = h.left} h.alike i in
    record {
      part = ending (Expr.IsNone h.part.expr holds) Last.Tested;
      left = rest;
      is = rw (h.is, m.rest_is, m.next, test_read k) refl;
      expr = λ i. Expr.IsNone (h.expr i) holds;
      alike = refl;
    }
