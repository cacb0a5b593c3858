use Rattle.std.proofs.Common.{◌≡◌, ℕ, Bool, not, ◌||◌, get_or, length, refl, sym, ap, ◌∙◌, arith}
use Rattle.std.specs.Prelude.{Some, slice_get, unwrap_or}
use Rattle.ha_config.specs.declared.config.Automation.{Automation}
use Rattle.ha_config.specs.Equal.{same_flag}
use Rattle.ha_journal.specs.Journal.{in_force}
use Rattle.ha_journal.specs.Switches.{is_on}
use Rattle.engine_entry.proofs.NamedLemmas.{read-here}
use Rattle.ha_engine.proofs.RestartLine.{any-all, any-more, zip-at, zip-many, zip-number}
use Rattle.ha_engine.proofs.restart.moves_any.Goals as goal

pub bounds-numbers-at : goal.bounds-numbers-at
bounds-numbers-at c = omega (arith, c.rules-test.true, c.requires)

pub rules-preserved : goal.rules-preserved
rules-preserved c j stands are =
    let n : ℕ = get_or c.args.numbers.now c.rules.at 0 in
    let x = c.index-rules-at.result in
    let at = c.rules.at in
    let test : ℕ × Automation → Bool = λ p. not (same_flag (is_on j p.0) (unwrap_or p.1.initial (is_on j p.0))) in
    let number : slice_get c.args.numbers.now at ≡ Some n = read-here c.args.numbers.now at 0 n (omega (arith, c.rules-test.true, c.requires)) refl in
    let rule : slice_get c.args.rules.now at ≡ Some x = read-here c.args.rules.now at x x c.rules-test.true c.index-rules-at.is in
    let here : slice_get (in_force j) at ≡ Some (n, x) = (λ i. slice_get (sym are i) at) ∙ zip-at c.args.numbers.now c.args.rules.now at n x number rule in
    c.either-changed.ensures
    ∙ (λ i. c.rules.invariant j stands are i || c.moves-moved.ensures j stands (zip-number (in_force j) at n x here) i)
    ∙ sym (any-more test (in_force j) at (n, x) here)

pub returns : goal.returns
returns c j stands are =
    let test : ℕ × Automation → Bool = λ p. not (same_flag (is_on j p.0) (unwrap_or p.1.initial (is_on j p.0))) in
    let many = zip-many c.args.numbers.now c.args.rules.now c.requires in
    c.rules.invariant j stands are ∙ any-all test (in_force j) c.rules.at (omega (arith, c.rules-test.false, many, ap length are))
