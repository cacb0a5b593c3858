-- A phrase of the grammar is read, where none of the tokens stands behind it with which it could go on.
use Rattle.std.proofs.Common.{◌≡◌, ℕ, suc, ◌≤◌, ◌<◌, true, false, List, length, refl, ap, ◌∙◌, arith}
use Rattle.ha_config.specs.declared.template.Expr.{Expr}
use Rattle.ha_config.specs.declared.template.Op.{Op}
use Rattle.reading.specs.Answer.{front}
use Rattle.reading.specs.Bytes.{sees}
use Rattle.tpl_parse.specs.declared.token.Token.{Token}
use Rattle.tpl_parse.specs.Token.{spaces}
use Rattle.tpl_parse.specs.Grammar.{Takes, takes, Compares, Holder, closing, Phrase, Is, chosen, chosen_if, chosen_else, chain, no_operand, one_operand, negated, compared, alone, compare, outside, tested, filtered, no_filter, bare_filter, one_filter, negative, unsigned, asked, no_part, one_key, one_place, of_number, of_string, of_constant, of_name, of_function, of_items, of_group, no_items, some_items, last_item, one_item}
use Rattle.tpl_parse.proofs.Tokens.{spaces_twice}
use Rattle.tpl_parse.proofs.Apart.{Quiet, quiet_at}
use Rattle.tpl_parse.proofs.Next.{Alike, not_next}
use Rattle.tpl_parse.proofs.Starts.{less, sizes, begins, no_sign, starts_atom, name_within}
use Rattle.tpl_parse.proofs.Continues.{behind_expression, behind_sum, behind_or, Reads, as_operand, as_sum, as_or, before_operands, before_filters, before_parts, comparator_apart}
use Rattle.tpl_parse.proofs.OnlyChains.{chosen_read, choice_read, else_read, not_read, compared_read, alone_read, compare_read, outside_read, tested_read}
use Rattle.tpl_parse.proofs.OnlyOperands.{chain_read, no_operand_read, one_operand_read, may_open, filtered_read, no_filter_read, bare_filter_read, one_filter_read, negative_read, unsigned_read, reached_read, no_part_read, one_key_read, one_place_read}
use Rattle.tpl_parse.proofs.OnlyAtoms.{number_atom, string_atom, constant_atom, name_atom, call_atom, list_atom, group_atom, may_follow, no_items_read, some_items_read, behind_item, last_item_read, one_item_read}

at_if : {t rest : List ℕ} → Takes Token.If t rest → Quiet behind_or t
at_if {t} (takes h) = quiet_at Token.If behind_or t refl h

at_else : {t rest : List ℕ} → Takes Token.Else t rest → Quiet behind_or t
at_else {t} (takes h) = quiet_at Token.Else behind_or t refl h

at_is : {t rest : List ℕ} → Takes Token.Is t rest → Quiet behind_sum t
at_is {t} (takes h) = quiet_at Token.Is behind_sum t refl h

at_not : {t rest : List ℕ} → Takes Token.Not t rest → Quiet behind_sum t
at_not {t} (takes h) = quiet_at Token.Not behind_sum t refl h

at_place_end : {t rest : List ℕ} → Takes Token.CloseList t rest → Quiet behind_expression t
at_place_end {t} (takes h) = quiet_at Token.CloseList behind_expression t refl h

at_group_end : {t rest : List ℕ} → Takes Token.CloseGroup t rest → Quiet behind_expression t
at_group_end {t} (takes h) = quiet_at Token.CloseGroup behind_expression t refl h

at_comma : {t rest : List ℕ} → Takes Token.Comma t rest → Quiet behind_expression t
at_comma {t} (takes h) = quiet_at Token.Comma behind_expression t refl h

at_closing : (holder : Holder) {t rest : List ℕ} → Takes (closing holder) t rest → Quiet behind_expression t
at_closing holder {t} (takes h) = behind_item holder t h

at_comparator : {token : Token} {op : Op} {t rest : List ℕ} → Compares token op → Takes token t rest → Quiet behind_sum t
at_comparator {t = t} k (takes h) = (comparator_apart k t h).1.1

no_sign_at : (t u : List ℕ) → Alike t u → starts_atom (front (spaces u)) ≡ true → sees 45 (spaces t) ≡ false
no_sign_at t u alike h = no_sign (spaces t) (ap (λ (s : List ℕ). starts_atom (front s)) alike ∙ h)

place_size : {l m n : ℕ} → m ≤ l → n < m → n ≤ l
place_size p q = omega arith

item_size : (t u a : List ℕ) → Alike t u → length (spaces a) ≤ length (spaces u) → length (spaces a) ≤ length (spaces t)
item_size t u a alike h = omega (arith, ap length alike)

pub only : {r : Phrase} {d : ℕ} {u rest : List ℕ} {e : Expr} → Is r d u e rest → Reads r d u e rest
only (chosen {depth = d} a) = λ t alike q. chosen_read d t (as_or d t (only a t alike q.1.1)) q
only (chosen_if {depth = d} {b = b} x i y) = λ t alike q. choice_read d t (as_or d t (only x t alike (at_if i))) i (as_or d b (only y b refl q.1.1)) q
only (chosen_else {depth = d} {b = b} {d = c} x i y j z) = λ t alike q.
    else_read d t (as_or (suc d) t (only x t alike (at_if i))) i (as_or (suc d) b (only y b refl (at_else j))) j (only z c refl q)
only (chain {level = l} {depth = d} x y) = λ t alike q. chain_read l d t (as_operand l d t (only x t alike (before_operands y q))) (only y) q
only (no_operand {level = l} {depth = d} {text = u} {left = left}) = λ t alike q. no_operand_read l d t u left alike q
only (one_operand {level = l} {depth = d} {a = a} j i x y) = λ t alike q. one_operand_read l d t j alike i (as_operand l d a (only x a refl (before_operands y q))) (sizes x) (only y) q
only (negated {depth = d} {a = a} i x) = λ t alike q. not_read d t alike i (only x a refl q)
only (compared {depth = d} {text = u} x) = λ t alike q. compared_read d t (not_next Token.Not t u alike (begins x).no_not) (only x t alike q) (only x (spaces t) (spaces_twice t ∙ alike) q)
only (alone {depth = d} x) = λ t alike q. alone_read d t (as_sum d t (only x t alike q.1.1.1.1.1.1.1.1.1)) q
only (compare {depth = d} {b = b} x k i y) = λ t alike q. compare_read d t (as_sum d t (only x t alike (at_comparator k i))) k i (as_sum d b (only y b refl q.1.1.1.1.1.1.1.1.1))
only (outside {depth = d} {c = c} x i j y) = λ t alike q. outside_read d t (as_sum d t (only x t alike (at_not i))) i j (as_sum d c (only y c refl q.1.1.1.1.1.1.1.1.1))
only (tested {depth = d} x i k) = λ t alike q. tested_read d t (as_sum d t (only x t alike (at_is i))) i k
only (filtered {depth = d} x y) = λ t alike q. filtered_read d t (only x t alike (before_filters y q)) (only y) q
only (no_filter {depth = d} {text = u} {base = base}) = λ t alike q. no_filter_read d t u base alike q
only (bare_filter {depth = d} {base = base} i w k l x) = λ t alike q. bare_filter_read d t base alike i w k l (before_filters x q) (only x) q
only (one_filter {depth = d} {c = c} {base = base} i w k j x y) = λ t alike q. one_filter_read d t base alike i w k j (may_open x) (only x c refl tt) (sizes x) (only y) q
only (negative {depth = d} {text = u} {a = a} e x) = λ t alike q. negative_read d t u alike e (only x a refl q)
only (unsigned {depth = d} {text = u} x) = λ t alike q.
    unsigned_read d t (no_sign_at t u alike (begins x).first) (only x (spaces t) (spaces_twice t ∙ alike) q)
only (asked {depth = d} x y) = λ t alike q. reached_read d t (only x t alike (before_parts y q)) (only y) q
only (no_part {depth = d} {text = u} {base = base}) = λ t alike q. no_part_read d t u base alike q
only (one_key {depth = d} {base = base} i n x) = λ t alike q. one_key_read d t base alike i n (name_within n) (only x) q
only (one_place {depth = d} {a = a} {base = base} i x j y) = λ t alike q. one_place_read d t base alike i (only x a refl (at_place_end j)) j (place_size (sizes x) (less j)) (only y) q
only (of_number {depth = d} {text = u} n) = λ t alike q. number_atom d t u alike n
only (of_string {depth = d} {text = u} e is s) = λ t alike q. string_atom d t u alike e is s
only (of_constant {depth = d} {text = u} w c) = λ t alike q. constant_atom d t u alike w c
only (of_name {depth = d} {text = u} n v) = λ t alike q. name_atom d t u alike n v q
only (of_function {depth = d} {text = u} {b = b} n k i x) = λ t alike q. call_atom d t u alike n k i x (only x b refl tt)
only (of_items {depth = d} {text = u} {a = a} i x) = λ t alike q. list_atom d t u alike i (only x a refl tt)
only (of_group {depth = d} {text = u} {a = a} i x j) = λ t alike q. group_atom d t u alike i (only x a refl (at_group_end j)) j
only (no_items {holder = h} {depth = d} {text = u} k i) = λ t alike q. no_items_read h d t u alike k i
only (some_items {holder = h} {depth = d} {text = u} x) = λ t alike q. some_items_read h d t u alike (begins x) (may_follow x) (only x)
only (last_item {holder = h} {depth = d} {found = found} x k i) = λ t alike q. last_item_read h found d t (only x t alike (at_closing h i)) k i
only (one_item {holder = h} {depth = d} {found = found} {text = u} {a = a} x i y) = λ t alike q.
    one_item_read h found d t (only x t alike (at_comma i)) i (may_follow y) (item_size t u a alike (sizes x)) (only y)
