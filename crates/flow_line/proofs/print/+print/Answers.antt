use Rattle.std.proofs.Common.{List, [], ◌∷◌, ◌++◌, ap, ◌∙◌}
use Rattle.std.proofs.lemmas.Result.{on_ok_weaker}
use Rattle.ha_value.specs.declared.value.Value.{Value}
use Rattle.ha_config.specs.Words.{Text}
use Rattle.ha_config.specs.ValueText.{comma_joined, pair_text, print_value}
use Rattle.flow_line.proofs.Joined.{all_joined, each_pair, of_pairs, one_further, pair_shown}
use Rattle.flow_line.proofs.print.+print.Goals as goal

pub push_value-returns-in-Pairs : goal.push_value-returns-in-Pairs
push_value-returns-in-Pairs t c = rw (c.in-Pairs.is, of_pairs) (rw c.as_slice-in-Pairs.ensures at c.push_pairs.ensures)

pub push_items-loop-i-preserved : goal.push_items-loop-i-preserved
push_items-loop-i-preserved t c =
    one_further print_value c.push_byte.new.self c.loop-i.text c.push_comma.new.text c.push_value.new.text c.args.items.now c.loop-i.i c.index-items-i.result c.loop-i-test.true c.index-items-i.is
    c.loop-i.invariant c.in_ok-push_comma.ensures c.in_ok-push_value.ensures

pub push_pairs-loop-i-preserved : goal.push_pairs-loop-i-preserved
push_pairs-loop-i-preserved t c =
    one_further (λ (p : Text × Value). pair_text p.0 (print_value p.1)) c.push_byte.new.self c.loop-i.text c.push_comma.new.text c.push_value.new.text c.args.pairs.now c.loop-i.i c.index-pairs-i.result c.loop-i-test.true c.index-pairs-i.is
    c.loop-i.invariant c.in_ok-push_comma.ensures
    (pair_shown c.push_comma.new.text c.push_quoted.new.text c.push_byte-in-loop-i.new.self c.push_value.new.text c.index-pairs-i.result.0 c.index-pairs-i.result.1
    (rw c.as_str.ensures.value at c.in_ok-push_quoted.ensures) c.in_ok-push_byte-2.ensures.ok c.in_ok-push_value.ensures)

pub push_pairs-returns : goal.push_pairs-returns
push_pairs-returns t c =
    on_ok_weaker _ (λ last. all_joined (λ (p : Text × Value). pair_text p.0 (print_value p.1)) 123 125 c.args.text.now c.push_byte.new.self c.loop-i.text c.push_byte-2.new.self c.args.pairs.now c.loop-i.i c.loop-i-test.false c.in_ok-push_byte.ensures.ok c.loop-i.invariant last
    ∙ ap (λ (r : List Text). c.args.text.now ++ 123 ∷ (comma_joined r ++ 125 ∷ [])) (each_pair c.args.pairs.now)) c.push_byte-2.ensures.ok
