-- No rule of an expression leaves a longer text than it was given, and no fault stands before it.
use Rattle.std.proofs.Common.{◌≡◌, ℕ, zero, suc, ◌≤◌, Bool, cond, inl, inr, List, [], ◌∷◌, ◌++◌, length, drop, Option, Some, None, Ok, Err, arith}
use Rattle.std.specs.Prelude.{◌&&◌, is_some}
use Rattle.std.proofs.Math.ListN.{length-drop}
use Rattle.ha_value.specs.declared.value.Num.{Num}
use Rattle.ha_value.specs.declared.value.Value.{Value}
use Rattle.ha_value.specs.Numbers.{read_number}
use Rattle.ha_config.specs.declared.template.Op.{Op}
use Rattle.ha_config.specs.declared.template.Expr.{Expr}
use Rattle.ha_config.specs.declared.template.Expr
use Rattle.reading.specs.declared.fault.Bad.{Bad}
use Rattle.reading.specs.Answer.{Answer, front, made}
use Rattle.reading.specs.Bytes.{skip_digits}
use Rattle.reading.proofs.Basics.{chosen_is}
use Rattle.reading.proofs.Bytes.{length-skip_digits}
use Rattle.reading.proofs.Characters.{character_shorter as utf8_shorter, character_solid as utf8_solid}
use Rattle.reading.proofs.Shorter.{Leaves, kept, refused, bind, either, left_by, made_leaves, below_of, below_within}
use Rattle.reading.proofs.Solid.{stops_within}
use Rattle.tpl_parse.specs.declared.token.Token.{Token}
use Rattle.tpl_parse.specs.declared.table.Counts.{Counts}
use Rattle.tpl_parse.specs.declared.table.Filter.{Filter}
use Rattle.tpl_parse.specs.declared.table.Function.{Function}
use Rattle.tpl_parse.specs.declared.expression.Last.{Last}
use Rattle.tpl_parse.specs.declared.expression.Level.{Level}
use Rattle.tpl_parse.specs.declared.expression.Part.{Part}
use Rattle.ha_value.specs.Truth.{is_blank_or_break}
use Rattle.tpl_parse.specs.Token.{Reads, text_of, spaces, reach, next_is, past, behind, in_name, want}
use Rattle.tpl_parse.specs.Names.{any_from, filter_named, filter_row, filters_reach, function_named, function_row, takes_behind}
use Rattle.tpl_parse.specs.Literal.{before, before_range_end, begins_places, behind_number, character, escape_at, filter_name, filter_or, standing, in_range, name, number, plain_or, skip_word, string, string_character, string_turns, unreserved, word}
use Rattle.tpl_parse.specs.Reading.{Inner, Start, numeric, quoted, bracket, group, letter, nothing, after_item, after_operator, arguments, at_place, atom, atom_by, behind_operator, by_word, call_or_name, chain, comparator, compared, comparison, comparisons, conjunction, constant, disjunction, enclosed, ending, expression, filter_arguments, filter_turns, filtered, in_group, inside, item_turns, items_in, joined, negation, not_called, opened, operand, operand_turns, operator, operators, pair, part_turns, product, reached, signed, start_of, sum, none_test, tested, with_else, with_right, word_atom, no_end, tested_last, tested_printed}

abbrev pub Read : Type 0 → Type 0
Read A = Answer ℕ (Bad (Unit {0})) A

-- what is left, or what a fault leaves, is no longer than this
abbrev pub Within : {A : Type 0} → ℕ → Read A → Type 0
Within n (Ok x) = length x.1 ≤ n
Within n (Err f) = f.left ≤ n

abbrev pub Keeps : {A : Type 0} → Reads A → Type 0
Keeps rule = (m : ℕ) (t : List ℕ) → length t ≤ m → Leaves (λ u. length u ≤ m) (λ f. f.left ≤ m) (rule t)

pub made_within : {A B : Type 0} (n : ℕ) (m : A → B) (r : Read A) → Within n r → Within n (made m r)
made_within n m (Ok x) h = h
made_within n m (Err f) h = h

seen : {A : Type 0} (n : ℕ) (r : Read A) → Leaves (λ u. length u ≤ n) (λ f. f.left ≤ n) r → Within n r
seen n (Ok x) (kept h) = h
seen n (Err f) (refused h) = h

-- the rule on what is left of a longer text
pub later : {A : Type 0} (rule : Reads A) → Keeps rule → (t : List ℕ) (n : ℕ) → length t ≤ n → Within n (rule t)
later rule h t n le = seen n (rule t) (h n t le)

pub no_longer_than : {A : Type 0} (rule : Reads A) → Keeps rule → (t : List ℕ) (x : A) (rest : List ℕ) → rule t ≡ Ok (x, rest) → length rest ≤ length t
no_longer_than rule h t x rest e = left_by (x, rest) (h (length t) t (omega arith)) e

-- ---- blanks and tokens
pub length-drop_some : (n : ℕ) (t : List ℕ) → length (drop n t) ≤ length t
length-drop_some n t = omega (arith, length-drop n t)

pub length-spaces : (t : List ℕ) → length (spaces t) ≤ length t
unfolding spaces
length-spaces [] = omega arith
length-spaces (b ∷ t) = elim (chosen_is (is_blank_or_break b)) [ inl h ↦ rw h (omega (arith, length-spaces t)) | inr h ↦ rw h (omega arith) ]

pub length-past : (token : Token) (t : List ℕ) → length (past token t) ≤ length t
length-past token t = omega (arith, length-drop_some (length (text_of token)) (spaces t), length-spaces t)

pub length-behind : (token : Token) (t : List ℕ) → length (behind token t) ≤ length t
length-behind token t = elim (chosen_is (next_is token t)) [ inl h ↦ rw h (length-past token t) | inr h ↦ rw h (length-spaces t) ]

-- ---- literals

pub character_keeps : Keeps character
character_keeps m t le = below_within (length t) m le (below_of character (λ t x rest e. utf8_shorter tt t x rest e) (stops_within tt character (utf8_solid tt)) t)

plain_or_keeps : (o : Option ℕ) → Keeps (plain_or o)
plain_or_keeps (Some meant) m t le = kept (omega (arith, length-drop_some 2 t))
plain_or_keeps None m t le = bind (character_keeps m t le) (λ x h. kept h)

pub string_character_keeps : Keeps string_character
unfolding string_character
string_character_keeps m t le = plain_or_keeps (escape_at t) m t le

pub string_turns_keeps : (n quote : ℕ) (found : List ℕ) → Keeps (string_turns n quote found)
unfolding string_turns
string_turns_keeps zero quote found m t le = refused le
string_turns_keeps (suc n) quote found m t le =
    either _ (kept (omega (arith, length-drop_some 1 t))) (bind (string_character_keeps m t le) (λ x h. string_turns_keeps n quote (found ++ x.0) m x.1 h))

pub string_keeps : (quote : ℕ) → Keeps (string quote)
unfolding string
string_keeps quote m t le = string_turns_keeps (suc (length t)) quote [] m t le

pub length-behind_number : (t : List ℕ) → length (behind_number t) ≤ length t
length-behind_number t =
    elim (chosen_is (begins_places (skip_digits t))) [
      | inl h ↦ rw h (omega (arith, length-skip_digits (drop 1 (skip_digits t)), length-drop_some 1 (skip_digits t), length-skip_digits t))
      | inr h ↦ rw h (length-skip_digits t)
    ]

in_range_keeps : (o : Option Num) (digits t left : List ℕ) (m : ℕ) → length left ≤ m → length t ≤ m → Leaves (λ u. length u ≤ m) (λ f. f.left ≤ m) (in_range o digits t left)
in_range_keeps (Some n) digits t left m h le = kept h
in_range_keeps None digits t left m h le = refused (omega (arith, length-drop_some (before_range_end 0 digits digits) t))

pub number_keeps : Keeps number
unfolding number
number_keeps m t le = in_range_keeps (read_number (before t (behind_number t))) (before t (behind_number t)) t (behind_number t) m (omega (arith, length-behind_number t)) le

pub length-skip_word : (t : List ℕ) → length (skip_word t) ≤ length t
unfolding skip_word
length-skip_word [] = omega arith
length-skip_word (b ∷ t) = elim (chosen_is (in_name b)) [ inl h ↦ rw h (omega (arith, length-skip_word t)) | inr h ↦ rw h (omega arith) ]

pub unreserved_keeps : Keeps unreserved
unfolding unreserved
unreserved_keeps m t le = either _ (refused (omega (arith, length-skip_word t))) (kept (omega (arith, length-skip_word t)))

pub name_keeps : Keeps name
unfolding name
name_keeps m t le = either _ (unreserved_keeps m (spaces t) (omega (arith, length-spaces t))) (refused (omega (arith, length-spaces t)))

filter_or_keeps : (opens : Bool) (o : Option Filter) → Keeps (filter_or opens o)
filter_or_keeps opens (Some filter) m t le = kept (omega (arith, length-skip_word t))
filter_or_keeps opens None m t le = refused (omega (arith, length-drop_some (filters_reach opens t) t))

pub filter_name_keeps : (opens : Bool) → Keeps (filter_name opens)
unfolding filter_name
filter_name_keeps opens m t le = filter_or_keeps opens (standing opens (filter_named (word (spaces t)))) m (spaces t) (omega (arith, length-spaces t))

pub want_keeps : (token : Token) → Keeps (want token)
unfolding want
want_keeps token m t le = either _ (kept (omega (arith, length-behind token t))) (refused (omega (arith, length-drop_some (reach (token ∷ []) (spaces t)) (spaces t), length-spaces t)))

-- ---- arguments

-- what may be opened keeps to its text
pub record Opens (inner : Inner) : Type 0 where
  pub expression : Keeps inner.expression
  pub negation : Keeps inner.negation
  pub signed : Keeps inner.signed

abbrev pub IsOpen : Option Inner → Type 0
IsOpen None = Unit {0}
IsOpen (Some inner) = Opens inner

pub closes_keeps : (close : Token) (part : Part) → Keeps (λ t. cond (next_is close t) (Ok (part.expr, behind close t)) (no_end part.last part.choice (close ∷ []) (spaces t)))
closes_keeps close part m t le = either _ (kept (omega (arith, length-behind close t))) (refused (omega (arith, length-drop {A = ℕ}, length-spaces t)))

pub enclosed_keeps : (inner : Inner) → Opens inner → (close : Token) → Keeps (enclosed inner close)
unfolding enclosed
enclosed_keeps inner h close m t le = bind (h.expression m t le) (λ x k. closes_keeps close x.0 m x.1 k)

pub commas_keeps : (counts : Counts) (more : List Expr → Reads (List Expr)) (items : List Expr) (part : Part) → Keeps (more items)
    → Keeps (λ t. cond (takes_behind counts.most (length items) && next_is Token.Comma t) (more items (behind Token.Comma t)) (no_end part.last part.choice [] (spaces t)))
commas_keeps counts more items part h m t le = either _ (h m (behind Token.Comma t) (omega (arith, length-behind Token.Comma t))) (refused (omega (arith, length-drop {A = ℕ}, length-spaces t)))

pub after_item_keeps : (close : Token) (counts : Counts) (more : List Expr → Reads (List Expr)) (items : List Expr) (part : Part) → Keeps (more items) → Keeps (after_item close counts more items part)
after_item_keeps close counts more items part h m t le = either _ (kept (omega (arith, length-behind close t))) (commas_keeps counts more items part h m t le)

pub item_turns_keeps : (n : ℕ) (expression : Reads Part) → Keeps expression → (close : Token) (counts : Counts) (found : List Expr) → Keeps (item_turns n expression close counts found)
unfolding item_turns
item_turns_keeps zero expression h close counts found m t le = refused le
item_turns_keeps (suc n) expression h close counts found m t le =
    bind (h m t le) (λ x k.
    let all : List Expr = found ++ x.0.expr ∷ [] in
    after_item_keeps close counts (item_turns n expression close counts) all x.0 (item_turns_keeps n expression h close counts all) m x.1 k)

pub items_in_keeps : (inner : Option Inner) → IsOpen inner → (close : Token) (counts : Counts) → Keeps (items_in inner close counts)
items_in_keeps None h close counts m t le = refused le
items_in_keeps (Some inner) h close counts m t le = either _ (item_turns_keeps (suc (length t)) inner.expression h.expression close counts [] m t le) (refused le)

pub arguments_keeps : (inner : Option Inner) → IsOpen inner → (close : Token) (counts : Counts) → Keeps (arguments inner close counts)
unfolding arguments
arguments_keeps inner h close counts m t le = either _ (kept (omega (arith, length-behind close t))) (items_in_keeps inner h close counts m (spaces t) (omega (arith, length-spaces t)))

-- ---- atoms

pub not_called_keeps : (function : Function) (name : List ℕ) → Keeps (not_called function name)
not_called_keeps Function.States name m t le = refused le
not_called_keeps _ name m t le = kept le

pub call_or_name_keeps : (function : Option Function) (inner : Option Inner) → IsOpen inner → (name : List ℕ) → Keeps (call_or_name function inner name)
call_or_name_keeps None inner h name m t le = kept le
call_or_name_keeps (Some function) None h name m t le = not_called_keeps function name m t le
call_or_name_keeps (Some function) (Some inner) h name m t le =
    either _ (made_leaves _ (arguments_keeps (Some inner) h Token.CloseGroup (function_row function).counts m (behind Token.OpenGroup t) (omega (arith, length-behind Token.OpenGroup t)))) (not_called_keeps function name m (spaces t) (omega (arith, length-spaces t)))

pub by_word_keeps : (value : Option Value) (inner : Option Inner) → IsOpen inner → (name : List ℕ) → Keeps (by_word value inner name)
by_word_keeps (Some value) inner h name m t le = kept le
by_word_keeps None inner h name m t le = either _ (refused le) (call_or_name_keeps (function_named name) inner h name m t le)

pub word_atom_keeps : (inner : Option Inner) → IsOpen inner → Keeps (word_atom inner)
unfolding word_atom
word_atom_keeps inner h m t le = by_word_keeps (constant (word t)) inner h (word t) m (skip_word t) (omega (arith, length-skip_word t))

pub in_group_keeps : (inner : Option Inner) → IsOpen inner → Keeps (in_group inner)
in_group_keeps None h m t le = refused le
in_group_keeps (Some inner) h m t le = enclosed_keeps inner h Token.CloseGroup m (drop 1 t) (omega (arith, length-drop_some 1 t))

pub atom_by_keeps : (start : Start) (inner : Option Inner) → IsOpen inner → Keeps (atom_by start inner)
atom_by_keeps numeric inner h m t le = made_leaves _ (number_keeps m t le)
atom_by_keeps (quoted quote) inner h m t le = made_leaves _ (string_keeps quote m (drop 1 t) (omega (arith, length-drop_some 1 t)))
atom_by_keeps bracket inner h m t le = made_leaves _ (arguments_keeps inner h Token.CloseList (any_from 0) m (drop 1 t) (omega (arith, length-drop_some 1 t)))
atom_by_keeps group inner h m t le = in_group_keeps inner h m t le
atom_by_keeps letter inner h m t le = word_atom_keeps inner h m t le
atom_by_keeps nothing inner h m t le = refused le

pub atom_keeps : (inner : Option Inner) → IsOpen inner → Keeps (atom inner)
unfolding atom
atom_keeps inner h m t le = atom_by_keeps (start_of (front (spaces t))) inner h m (spaces t) (omega (arith, length-spaces t))

-- ---- keys and places, signs, filters

pub at_place_keeps : (inner : Option Inner) → IsOpen inner → (more : Expr → Reads Expr) → ((base : Expr) → Keeps (more base)) → (base : Expr) → Keeps (at_place inner more base)
at_place_keeps None h more k base m t le = kept (omega (arith, length-spaces t))
at_place_keeps (Some inner) h more k base m t le =
    either _ (bind (enclosed_keeps inner h Token.CloseList m (behind Token.OpenList t) (omega (arith, length-behind Token.OpenList t))) (λ x l. k (Expr.At base x.0) m x.1 l)) (kept (omega (arith, length-spaces t)))

pub part_turns_keeps : (n : ℕ) (inner : Option Inner) → IsOpen inner → (base : Expr) → Keeps (part_turns n inner base)
unfolding part_turns
part_turns_keeps zero inner h base m t le = refused le
part_turns_keeps (suc n) inner h base m t le =
    either _ (bind (name_keeps m (behind Token.Dot t) (omega (arith, length-behind Token.Dot t))) (λ x k. part_turns_keeps n inner h (Expr.Field base x.0) m x.1 k))
    (at_place_keeps inner h (part_turns n inner) (λ e. part_turns_keeps n inner h e) base m (spaces t) (omega (arith, length-spaces t)))

pub reached_keeps : (inner : Option Inner) → IsOpen inner → Keeps (reached inner)
unfolding reached
reached_keeps inner h m t le = bind (atom_keeps inner h m t le) (λ x k. part_turns_keeps (suc (length x.1)) inner h x.0 m x.1 k)

pub signed_keeps : (inner : Option Inner) → IsOpen inner → Keeps (signed inner)
unfolding signed
signed_keeps None h m t le = reached_keeps None tt m (spaces t) (omega (arith, length-spaces t))
signed_keeps (Some inner) h m t le =
    either _ (made_leaves _ (h.signed m (drop 1 (spaces t)) (omega (arith, length-drop_some 1 (spaces t), length-spaces t)))) (reached_keeps (Some inner) h m (spaces t) (omega (arith, length-spaces t)))

pub filter_arguments_keeps : (inner : Option Inner) → IsOpen inner → (counts : Counts) → Keeps (filter_arguments inner counts)
unfolding filter_arguments
filter_arguments_keeps inner h counts m t le =
    either _ (arguments_keeps inner h Token.CloseGroup counts m (behind Token.OpenGroup t) (omega (arith, length-behind Token.OpenGroup t)))
    (either _ (kept (omega (arith, length-spaces t))) (refused (omega (arith, length-spaces t))))

pub filter_turns_keeps : (n : ℕ) (inner : Option Inner) → IsOpen inner → (base : Expr) → Keeps (filter_turns n inner base)
unfolding filter_turns
filter_turns_keeps zero inner h base m t le = refused le
filter_turns_keeps (suc n) inner h base m t le =
    either _ (bind (filter_name_keeps (is_some inner) m (behind Token.Bar t) (omega (arith, length-behind Token.Bar t))) (λ x k.
    bind (filter_arguments_keeps inner h (filter_row x.0).counts m x.1 k) (λ y l. filter_turns_keeps n inner h (Expr.Filter (filter_row x.0).number base y.0) m y.1 l))) (kept (omega (arith, length-spaces t)))

pub filtered_keeps : (inner : Option Inner) → IsOpen inner → Keeps (filtered inner)
unfolding filtered
filtered_keeps inner h m t le = bind (signed_keeps inner h m t le) (λ x k. filter_turns_keeps (suc (length x.1)) inner h x.0 m x.1 k)

-- ---- operands and operators

pub after_operator_keeps : (found : Option (Token × Op)) (operand : Reads Part) → Keeps operand → (more : Part → Reads Part) → ((left : Part) → Keeps (more left)) → (left : Part) → Keeps (after_operator found operand more left)
after_operator_keeps None operand h more k left m t le = kept (omega (arith, length-spaces t))
after_operator_keeps (Some row) operand h more k left m t le = bind (h m (past row.0 t) (omega (arith, length-past row.0 t))) (λ x l. k (pair row.1 left x.0) m x.1 l)

pub operand_turns_keeps : (n : ℕ) (rows : List (Token × Op)) (operand : Reads Part) → Keeps operand → (left : Part) → Keeps (operand_turns n rows operand left)
unfolding operand_turns
operand_turns_keeps zero rows operand h left m t le = refused le
operand_turns_keeps (suc n) rows operand h left m t le = after_operator_keeps (operator rows t) operand h (operand_turns n rows operand) (λ e. operand_turns_keeps n rows operand h e) left m t le

pub chain_keeps : (rows : List (Token × Op)) (operand : Reads Part) → Keeps operand → Keeps (chain rows operand)
unfolding chain
chain_keeps rows operand h m t le = bind (h m t le) (λ x k. operand_turns_keeps (suc (length x.1)) rows operand h x.0 m x.1 k)

pub factor_keeps : (inner : Option Inner) → IsOpen inner → Keeps (operand Level.Product inner)
factor_keeps inner h m t le = made_leaves _ (filtered_keeps inner h m t le)

pub product_keeps : (inner : Option Inner) → IsOpen inner → Keeps (product inner)
unfolding product
product_keeps inner h = chain_keeps (operators Level.Product) (operand Level.Product inner) (factor_keeps inner h)

pub joined_keeps : (inner : Option Inner) → IsOpen inner → Keeps (joined inner)
unfolding joined
joined_keeps inner h = chain_keeps (operators Level.Join) (product inner) (product_keeps inner h)

pub sum_keeps : (inner : Option Inner) → IsOpen inner → Keeps (sum inner)
unfolding sum
sum_keeps inner h = chain_keeps (operators Level.Sum) (joined inner) (joined_keeps inner h)

pub last_keeps : (turned : Bool) → Keeps (tested_last turned)
last_keeps turned m t le = either _ (kept (omega (arith, length-behind Token.Defined t))) (refused (omega (arith, length-drop {A = ℕ}, length-spaces t)))

pub printed_keeps : (turned : Bool) → Keeps (tested_printed turned)
printed_keeps turned m t le = either _ (kept (omega (arith, length-behind Token.PrintedNone t))) (last_keeps turned m (spaces t) (omega (arith, length-spaces t)))

pub tested_keeps : (turned : Bool) → Keeps (tested turned)
tested_keeps turned m t le = either _ (kept (omega (arith, length-behind Token.None t))) (printed_keeps turned m (spaces t) (omega (arith, length-spaces t)))

pub test_keeps : Keeps none_test
unfolding none_test
test_keeps m t le = tested_keeps (next_is Token.Not t) m (behind Token.Not t) (omega (arith, length-behind Token.Not t))

pub length-behind_operator : (found : Option (Token × Op)) (t : List ℕ) → length (behind_operator found t) ≤ length t
length-behind_operator None t = length-spaces t
length-behind_operator (Some row) t = length-past row.0 t

pub comparator_keeps : Keeps comparator
unfolding comparator
comparator_keeps m t le =
    either _ (made_leaves _ (want_keeps Token.In m (behind Token.Not t) (omega (arith, length-behind Token.Not t)))) (kept (omega (arith, length-behind_operator (operator comparisons (spaces t)) (spaces t), length-spaces t)))

pub with_right_keeps : (inner : Option Inner) → IsOpen inner → (left : Part) (op : Option Op) → Keeps (with_right inner left op)
with_right_keeps inner h left None m t le = kept le
with_right_keeps inner h left (Some op) m t le = made_leaves _ (sum_keeps inner h m t le)

pub compared_keeps : (inner : Option Inner) → IsOpen inner → (left : Part) → Keeps (compared inner left)
compared_keeps inner h left m t le = bind (comparator_keeps m t le) (λ x k. with_right_keeps inner h left x.0 m x.1 k)

pub after_sum_keeps : (inner : Option Inner) → IsOpen inner → (left : Part)
    → Keeps (λ t. cond (next_is Token.Is t) (made (λ holds. ending (Expr.IsNone left.expr holds) Last.Tested) (none_test (behind Token.Is t))) (compared inner left (spaces t)))
after_sum_keeps inner h left m t le = either _ (made_leaves _ (test_keeps m (behind Token.Is t) (omega (arith, length-behind Token.Is t)))) (compared_keeps inner h left m (spaces t) (omega (arith, length-spaces t)))

pub comparison_keeps : (inner : Option Inner) → IsOpen inner → Keeps (comparison inner)
unfolding comparison
comparison_keeps inner h m t le = bind (sum_keeps inner h m t le) (λ x k. after_sum_keeps inner h x.0 m x.1 k)

pub negation_keeps : (inner : Option Inner) → IsOpen inner → Keeps (negation inner)
unfolding negation
negation_keeps None h m t le = comparison_keeps None tt m t le
negation_keeps (Some inner) h m t le =
    either _ (made_leaves _ (h.negation m (behind Token.Not t) (omega (arith, length-behind Token.Not t)))) (comparison_keeps (Some inner) h m (spaces t) (omega (arith, length-spaces t)))

pub conjunction_keeps : (inner : Option Inner) → IsOpen inner → Keeps (conjunction inner)
unfolding conjunction
conjunction_keeps inner h = chain_keeps (operators Level.And) (negation inner) (negation_keeps inner h)

pub disjunction_keeps : (inner : Option Inner) → IsOpen inner → Keeps (disjunction inner)
unfolding disjunction
disjunction_keeps inner h = chain_keeps (operators Level.Or) (conjunction inner) (conjunction_keeps inner h)

pub operand_keeps : (level : Level) (inner : Option Inner) → IsOpen inner → Keeps (operand level inner)
operand_keeps Level.Or inner h = conjunction_keeps inner h
operand_keeps Level.And inner h = negation_keeps inner h
operand_keeps Level.Sum inner h = joined_keeps inner h
operand_keeps Level.Join inner h = product_keeps inner h
operand_keeps Level.Product inner h = factor_keeps inner h

-- ---- expressions

pub with_else_keeps : (inner : Option Inner) → IsOpen inner → (yes' test' : Part) → Keeps (with_else inner yes' test')
with_else_keeps None h yes' test' m t le = kept le
with_else_keeps (Some inner) h yes' test' m t le = either _ (made_leaves _ (h.expression m (behind Token.Else t) (omega (arith, length-behind Token.Else t)))) (kept (omega (arith, length-spaces t)))

pub expression_keeps : (inner : Option Inner) → IsOpen inner → Keeps (expression inner)
unfolding expression
expression_keeps inner h m t le =
    bind (disjunction_keeps inner h m t le) (λ x k.
    either _ (bind (disjunction_keeps inner h m (behind Token.If x.1) (omega (arith, length-behind Token.If x.1))) (λ y l. with_else_keeps inner h x.0 y.0 m y.1 l)) (kept (omega (arith, length-spaces x.1))))

pub inside_opens : (inner : Option Inner) → IsOpen inner → Opens (inside inner)
inside_opens inner h = record { expression = expression_keeps inner h; negation = negation_keeps inner h; signed = signed_keeps inner h }

-- at any depth
pub opened_opens : (depth : ℕ) → IsOpen (opened depth)
unfolding opened
opened_opens zero = tt
opened_opens (suc depth) = inside_opens (opened depth) (opened_opens depth)
