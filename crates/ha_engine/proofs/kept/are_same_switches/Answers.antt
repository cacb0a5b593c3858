use Rattle.std.proofs.Common.{◌≡◌, ℕ, ◌+◌, List, Bool, Option, true, false, get_or, length, refl, sym, ◌∙◌, rules, arith}
use Rattle.std.specs.Prelude.{option_and_then, slice_get, is_some, ◌&&◌, if◌then◌else◌}
use Rattle.std.specs.Option.{option_map_or}
use Rattle.ha_config.specs.Names.{names_of}
use Rattle.ha_config.specs.Words.{same}
use Rattle.ha_config.specs.Equal.{same_flag}
use Rattle.ha_sight.specs.Sight.{switch_at}
use Rattle.ha_engine.proofs.KeptLemmas.{pairs-end, pairs-few, pairs-step, pairs-stop, places-at}
use Rattle.ha_engine.proofs.kept.are_same_switches.Goals as goal

pub places-init : goal.places-init
places-init c = record { same = refl; small = omega arith; within = omega arith }

pub name_at-requires : goal.name_at-requires
name_at-requires c = places-at (length c.args.rules.now) c.args.order.now c.places.place-index 0 c.requires c.places-test.true

pub overflow_add-passed : goal.overflow_add-passed
overflow_add-passed c = (let few = pairs-few c.flag_at-on.result in omega (arith, c.count_flag-passed.ensures, c.places.invariant.small, few, c.places-test.true))

pub places-preserved : goal.places-preserved
places-preserved c =
    let order : List ℕ = c.args.order.now in
    let i : ℕ = c.places.place-index in
    let value : ℕ → Option Bool = λ a. option_and_then (switch_at c.args.switches.now) (slice_get c.args.numbers.now a) in
    let agree : c.agrees_flag.result ≡ true = search (rules, c.if-not-agrees_flag.false) in
    let agreed = sym (c.agrees_flag.ensures ∙ (λ k. option_map_or (λ v. option_map_or (λ p. same p.0 (c.name_at.ensures k) && same_flag p.1 v) (c.flag_kept.ensures k) false) (c.flag_at-on.ensures k) true)) ∙ agree in
    let more : c.places.passed + c.count_flag-passed.result ≡ c.places.passed + (if is_some (value (get_or order i 0)) then 1 else 0)
    = (λ k. c.places.passed + (c.count_flag-passed.ensures ∙ (λ m. if is_some (c.flag_at-on.ensures m) then 1 else 0)) k) in
    let got = pairs-step same_flag (names_of c.args.rules.now) value c.args.kept.now order i c.places.passed (c.places.passed + c.count_flag-passed.result) c.places-test.true c.places.invariant.within agreed more in
    let few = pairs-few c.flag_at-on.result in
    record {
      same = got.0 ∙ c.places.invariant.same;
      small = omega (arith, c.count_flag-passed.ensures, few, c.places.invariant.small);
      within = got.1;
    }

pub returns-then-not-agrees_flag : goal.returns-then-not-agrees_flag
returns-then-not-agrees_flag c =
    let order : List ℕ = c.args.order.now in
    let i : ℕ = c.places.place-index in
    let value : ℕ → Option Bool = λ a. option_and_then (switch_at c.args.switches.now) (slice_get c.args.numbers.now a) in
    let other : c.agrees_flag.result ≡ false = search (rules, c.if-not-agrees_flag.true) in
    let differs = sym (c.agrees_flag.ensures ∙ (λ k. option_map_or (λ v. option_map_or (λ p. same p.0 (c.name_at.ensures k) && same_flag p.1 v) (c.flag_kept.ensures k) false) (c.flag_at-on.ensures k) true)) ∙ other in
    sym (pairs-stop same_flag (names_of c.args.rules.now) value c.args.kept.now order i c.places.passed c.places-test.true differs) ∙ c.places.invariant.same

pub returns : goal.returns
returns c =
    let value : ℕ → Option Bool = λ a. option_and_then (switch_at c.args.switches.now) (slice_get c.args.numbers.now a) in
    c.is_count.ensures
    ∙ sym (pairs-end same_flag (names_of c.args.rules.now) value c.args.kept.now c.args.order.now c.places.place-index c.places.passed (omega (arith, c.places-test.false)) c.places.invariant.within)
    ∙ c.places.invariant.same
