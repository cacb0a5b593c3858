-- With which tokens a phrase could go on, and what is owed for `only`: a phrase behind which none of them stands is read.
use Rattle.std.proofs.Common.{◌≡◌, ℕ, ◌<◌, true, List, [], ◌∷◌, length, Ok, refl, ap}
use Rattle.ha_config.specs.declared.template.Op.{Op}
use Rattle.ha_config.specs.declared.template.Expr.{Expr}
use Rattle.reading.specs.Answer.{Answer, made}
use Rattle.tpl_parse.specs.declared.token.Token.{Token}
use Rattle.tpl_parse.specs.declared.expression.Level.{Level}
use Rattle.tpl_parse.specs.declared.expression.Last.{Last}
use Rattle.tpl_parse.specs.declared.expression.Part.{Part}
use Rattle.tpl_parse.specs.Token.{spaces, next_is}
use Rattle.tpl_parse.specs.Reading.{operators, operand_turns, chain, operand, opened, expression, negation, comparison, conjunction, joined, product, sum, disjunction, filtered, filter_turns, signed, reached, part_turns, atom, arguments, item_turns, ending}
use Rattle.tpl_parse.specs.Grammar.{takes, Joins, or, and, plus, minus, join, times, over, floor, modulo, Compares, equal, unequal, less, at_most, greater, at_least, within, closing, counts_of, made_of, Phrase, an_expression, a_negation, a_comparison, with_filters, with_sign, with_parts, an_atom, operands, more_operands, more_filters, more_parts, in_brackets, more_items, operand_of, Is, no_operand, one_operand, no_filter, bare_filter, one_filter, no_part, one_key, one_place}
use Rattle.tpl_parse.proofs.Apart.{Quiet, quiet_at}
use Rattle.tpl_parse.proofs.Next.{Fault, Alike}

-- ---- the tokens, each list with those that stand for what binds stronger at its end

abbrev pub behind_atom : List Token
behind_atom = Token.OpenGroup ∷ []

abbrev pub behind_parts : List Token
behind_parts = Token.Dot ∷ Token.OpenList ∷ behind_atom

abbrev pub behind_filters : List Token
behind_filters = Token.Bar ∷ behind_parts

abbrev pub behind_product : List Token
behind_product = Token.Times ∷ Token.Over ∷ Token.Floor ∷ Token.Modulo ∷ behind_filters

abbrev pub behind_join : List Token
behind_join = Token.Join ∷ behind_product

abbrev pub behind_sum : List Token
behind_sum = Token.Plus ∷ Token.Minus ∷ behind_join

abbrev pub behind_comparison : List Token
behind_comparison = Token.Is ∷ Token.Not ∷ Token.Equal ∷ Token.Unequal ∷ Token.Less ∷ Token.AtMost ∷ Token.More ∷ Token.AtLeast ∷ Token.In ∷ behind_sum

abbrev pub behind_and : List Token
behind_and = Token.And ∷ behind_comparison

abbrev pub behind_or : List Token
behind_or = Token.Or ∷ behind_and

abbrev pub behind_expression : List Token
behind_expression = Token.If ∷ Token.Else ∷ behind_or

abbrev pub behind_level : Level → List Token
behind_level Level.Or = behind_or
behind_level Level.And = behind_and
behind_level Level.Sum = behind_sum
behind_level Level.Join = behind_join
behind_level Level.Product = behind_product

abbrev pub continues : Phrase → List Token
continues an_expression = behind_expression
continues a_negation = behind_comparison
continues a_comparison = behind_comparison
continues with_filters = behind_filters
continues with_sign = behind_parts
continues with_parts = behind_parts
continues an_atom = behind_atom
continues (operands level) = behind_level level
continues (more_operands level left) = behind_level level
continues (more_filters base) = behind_filters
continues (more_parts base) = behind_parts
continues (in_brackets holder) = []
continues (more_items holder found) = []

-- ---- what a rule of the reader gives for a phrase

pub record Given (answer : Answer ℕ Fault Expr) (e : Expr) (rest : List ℕ) : Type 0 where
  pub left : List ℕ
  pub is : answer ≡ Ok (e, left)
  pub alike : Alike left rest

pub record GivenPart (answer : Answer ℕ Fault Part) (e : Expr) (rest : List ℕ) : Type 0 where
  pub part : Part
  pub left : List ℕ
  pub is : answer ≡ Ok (part, left)
  pub expr : part.expr ≡ e
  pub alike : Alike left rest

-- as the reader reads a phrase at a text
abbrev pub Read : Phrase → ℕ → List ℕ → Expr → List ℕ → Type 0
Read an_expression d t e rest = GivenPart (expression (opened d) t) e rest
Read a_negation d t e rest = GivenPart (negation (opened d) t) e rest
Read a_comparison d t e rest = GivenPart (comparison (opened d) t) e rest
Read with_filters d t e rest = Given (filtered (opened d) t) e rest
Read with_sign d t e rest = Given (signed (opened d) t) e rest
Read with_parts d t e rest = Given (reached (opened d) t) e rest
Read an_atom d t e rest = Given (atom (opened d) t) e rest
Read (operands level) d t e rest = GivenPart (chain (operators level) (operand level (opened d)) t) e rest
Read (more_operands level left) d t e rest = (n : ℕ) (part : Part) → length (spaces t) < n → part.expr ≡ left → GivenPart (operand_turns n (operators level) (operand level (opened d)) part t) e rest
Read (more_filters base) d t e rest = (n : ℕ) → length (spaces t) < n → Given (filter_turns n (opened d) base t) e rest
Read (more_parts base) d t e rest = (n : ℕ) → length (spaces t) < n → Given (part_turns n (opened d) base t) e rest
Read (in_brackets holder) d t e rest = Given (made (made_of holder) (arguments (opened d) (closing holder) (counts_of holder) t)) e rest
Read (more_items holder found) d t e rest =
    (n : ℕ) → length (spaces t) < n → Given (made (made_of holder) (item_turns n (expression (opened d)) (closing holder) (counts_of holder) found t)) e rest

-- a text that begins as the phrase's is read, where the phrase cannot go on behind it
abbrev pub Reads : Phrase → ℕ → List ℕ → Expr → List ℕ → Type 0
Reads r d u e rest = (t : List ℕ) → Alike t u → Quiet (continues r) rest → Read r d t e rest

-- ---- the operands of a level

as_product : {answer : Answer ℕ Fault Expr} {e : Expr} {rest : List ℕ} → Given answer e rest → GivenPart (made (λ e. ending e Last.Operand) answer) e rest
as_product {answer} {e} {rest} g = record { part = ending e Last.Operand; left = g.left; is = ap (made (λ e. ending e Last.Operand)) g.is; expr = refl; alike = g.alike }

pub as_operand : (level : Level) (d : ℕ) (t : List ℕ) {rest : List ℕ} {e : Expr} → Read (operand_of level) d t e rest → GivenPart (operand level (opened d) t) e rest
unfolding conjunction joined product
as_operand Level.Or d t g = g
as_operand Level.And d t g = g
as_operand Level.Sum d t g = g
as_operand Level.Join d t g = g
as_operand Level.Product d t g = as_product g

pub as_sum : (d : ℕ) (t : List ℕ) {rest : List ℕ} {e : Expr} → Read (operands Level.Sum) d t e rest → GivenPart (sum (opened d) t) e rest
unfolding sum
as_sum d t g = g

pub as_or : (d : ℕ) (t : List ℕ) {rest : List ℕ} {e : Expr} → Read (operands Level.Or) d t e rest → GivenPart (disjunction (opened d) t) e rest
unfolding disjunction
as_or d t g = g

-- ---- what stands where further parts begin

stronger : (level : Level) (t : List ℕ) → Quiet (behind_level level) t → Quiet (continues (operand_of level)) t
stronger Level.Or t q = q.1
stronger Level.And t q = q.1
stronger Level.Sum t q = q.1.1
stronger Level.Join t q = q.1
stronger Level.Product t q = q.1.1.1.1

operator_apart : {level : Level} {token : Token} {op : Op} → Joins level token op → (t : List ℕ) → next_is token t ≡ true → Quiet (continues (operand_of level)) t
operator_apart or t h = quiet_at Token.Or behind_and t refl h
operator_apart and t h = quiet_at Token.And behind_comparison t refl h
operator_apart plus t h = quiet_at Token.Plus behind_join t refl h
operator_apart minus t h = quiet_at Token.Minus behind_join t refl h
operator_apart join t h = quiet_at Token.Join behind_product t refl h
operator_apart times t h = quiet_at Token.Times behind_filters t refl h
operator_apart over t h = quiet_at Token.Over behind_filters t refl h
operator_apart floor t h = quiet_at Token.Floor behind_filters t refl h
operator_apart modulo t h = quiet_at Token.Modulo behind_filters t refl h

pub before_operands : {level : Level} {left e : Expr} {d : ℕ} {t rest : List ℕ} → Is (more_operands level left) d t e rest → Quiet (behind_level level) rest → Quiet (continues (operand_of level)) t
before_operands {level} {t = t} no_operand q = stronger level t q
before_operands {t = t} (one_operand k (takes h) a b) q = operator_apart k t h

pub before_filters : {base e : Expr} {d : ℕ} {t rest : List ℕ} → Is (more_filters base) d t e rest → Quiet behind_filters rest → Quiet behind_parts t
before_filters no_filter q = q.1
before_filters {t = t} (bare_filter (takes h) w k l m) q = quiet_at Token.Bar behind_parts t refl h
before_filters {t = t} (one_filter (takes h) w k j m o) q = quiet_at Token.Bar behind_parts t refl h

pub before_parts : {base e : Expr} {d : ℕ} {t rest : List ℕ} → Is (more_parts base) d t e rest → Quiet behind_parts rest → Quiet behind_atom t
before_parts no_part q = q.1.1
before_parts {t = t} (one_key (takes h) n a) q = quiet_at Token.Dot behind_atom t refl h
before_parts {t = t} (one_place (takes h) a j b) q = quiet_at Token.OpenList behind_atom t refl h

pub comparator_apart : {token : Token} {op : Op} → Compares token op → (t : List ℕ) → next_is token t ≡ true → Quiet (Token.Is ∷ Token.Not ∷ behind_sum) t
comparator_apart equal t h = quiet_at Token.Equal (Token.Is ∷ Token.Not ∷ behind_sum) t refl h
comparator_apart unequal t h = quiet_at Token.Unequal (Token.Is ∷ Token.Not ∷ behind_sum) t refl h
comparator_apart less t h = quiet_at Token.Less (Token.Is ∷ Token.Not ∷ behind_sum) t refl h
comparator_apart at_most t h = quiet_at Token.AtMost (Token.Is ∷ Token.Not ∷ behind_sum) t refl h
comparator_apart greater t h = quiet_at Token.More (Token.Is ∷ Token.Not ∷ behind_sum) t refl h
comparator_apart at_least t h = quiet_at Token.AtLeast (Token.Is ∷ Token.Not ∷ behind_sum) t refl h
comparator_apart within t h = quiet_at Token.In (Token.Is ∷ Token.Not ∷ behind_sum) t refl h
