use Rattle.std.proofs.Common.{ℕ, List, [], ◌∷◌, ◌++◌, ap, ◌∙◌}
use Rattle.std.proofs.lemmas.Result.{on_ok_weaker}
use Rattle.ha_clock.specs.Print.{moment_text}
use Rattle.ha_config.specs.Words.{Text}
use Rattle.ha_config.specs.ValueText.{comma_joined, pair_text, quoted}
use Rattle.flow_line.proofs.Joined.{all_joined, one_further}
use Rattle.ha_texts.proofs.LineLemmas.{each_in_time, each_moment, shown_pair}
use Rattle.ha_texts.proofs.names.push_moments.Goals as goal

pub push_moment-requires : goal.push_moment-requires
push_moment-requires c = each_in_time c.args.moments.now c.loop-i.i c.index-moments-i.result c.requires c.loop-i-test.true c.index-moments-i.is

pub loop-i-preserved : goal.loop-i-preserved
loop-i-preserved c =
    one_further (λ (p : Text × ℕ). pair_text p.0 (quoted (moment_text p.1))) c.push_byte.new.self c.loop-i.text c.push_comma.new.text c.push_moment.new.text c.args.moments.now c.loop-i.i c.index-moments-i.result c.loop-i-test.true c.index-moments-i.is
    c.loop-i.invariant c.in_ok-push_comma.ensures
    (shown_pair c.push_comma.new.text c.push_quoted.new.text c.push_byte-in-loop-i.new.self c.push_moment.new.text c.index-moments-i.result.0 (quoted (moment_text c.index-moments-i.result.1))
    (rw c.as_str.ensures.value at c.in_ok-push_quoted.ensures) c.in_ok-push_byte-2.ensures.ok c.in_ok-push_moment.ensures)

pub returns : goal.returns
returns c =
    on_ok_weaker _ (λ last. all_joined (λ (p : Text × ℕ). pair_text p.0 (quoted (moment_text p.1))) 123 125 c.args.text.now c.push_byte.new.self c.loop-i.text c.push_byte-2.new.self c.args.moments.now c.loop-i.i c.loop-i-test.false c.in_ok-push_byte.ensures.ok c.loop-i.invariant last
    ∙ ap (λ (r : List Text). c.args.text.now ++ 123 ∷ (comma_joined r ++ 125 ∷ [])) (each_moment c.args.moments.now)) c.push_byte-2.ensures.ok
