use Rattle.std.proofs.Common.{ℕ, List, Option, get_or, arith}
use Rattle.std.specs.Prelude.{None, slice_get, unwrap_or}
use Rattle.std.proofs.lemmas.List.{get_or_default}
use Rattle.named_runs.specs.Named.{first_in}
use Rattle.ha_engine.proofs.NameLoops.{each-done, each-more}
use Rattle.ha_engine.proofs.lasts.lasts_of_rules.Goals as goal

pub numbers-init : goal.numbers-init
numbers-init c = c.in_ok-made.ensures.items

pub numbers-preserved : goal.numbers-preserved
numbers-preserved c =
    let f : ℕ → Option ℕ = λ n. unwrap_or (slice_get c.args.lasts.now (first_in c.args.firsts.now n)) None in
    let ns : List ℕ = c.args.numbers.now in
    let n : ℕ = get_or ns c.numbers.at 0 in
    each-more f ns c.numbers.at n _ _ c.last_of_unit.result c.numbers-test.true c.numbers.invariant (get_or_default ns c.numbers.at 0 n c.numbers-test.true) c.last_of_unit.ensures c.in_ok-push.ensures.items

pub returns : goal.returns
returns c =
    let f : ℕ → Option ℕ = λ n. unwrap_or (slice_get c.args.lasts.now (first_in c.args.firsts.now n)) None in
    each-done f c.args.numbers.now c.numbers.at _ (omega (arith, c.numbers-test.false)) c.numbers.invariant
