use Rattle.std.proofs.Common.{◌≡◌, ℕ, List, [], ◌∷◌, refl, sym, subst, ◌∙◌}
use Rattle.std.specs.Prelude.{Option, Some, None}
use Rattle.std.specs.Option.{option_map_or}
use Rattle.ha_config.specs.Names.{named_among}
use Rattle.ha_config.specs.Words.{Pairs}
use Rattle.ha_journal.specs.Attempts.{by_hand, passes}
use Rattle.ha_journal.specs.Journal.{in_force, last_place}
use Rattle.ha_engine.specs.declared.admit.Prepared.{Prepared}
use Rattle.ha_engine.specs.Admits.{ArePassing, IsPut, asked_for}
use Rattle.ha_engine.proofs.PrepareLemmas.{passing-next}
use Rattle.ha_engine.proofs.prepare.prepare_named.Goals as goal

pub returns-in_ok-prepare_one-in-Some : goal.returns-in_ok-prepare_one-in-Some
returns-in_ok-prepare_one-in-Some g c k seen known =
    let a : ℕ = c.in-Some.automation in
    let found : named_among (in_force k) c.args.name.now ≡ Some a = sym (c.number_named.ensures k known.config_is known.numbers_are) ∙ c.in-Some.is in
    let put = subst (λ (e : Pairs). IsPut (passes k (last_place k) (asked_for a e c.args.skip)) k (0, asked_for a e c.args.skip) c.new-stack.result.items c.prepare_one.new.stack.items) c.in_ok-env-in-Some.ensures (c.in_ok-prepare_one-in-Some.ensures k seen known) in
    subst (λ (o : Option ℕ). ArePassing k 0 (option_map_or (λ n. asked_for n by_hand c.args.skip ∷ []) o []) c.prepare_one.new.stack.items) (sym found)
    (passing-next k 0 1 (asked_for a by_hand c.args.skip) [] c.new-stack.result.items c.prepare_one.new.stack.items refl put (subst (λ (l : List Prepared). ArePassing k 1 [] l) (sym c.new-stack.ensures.items) tt))

pub returns-in-None : goal.returns-in-None
returns-in-None g c k seen known =
    let found : named_among (in_force k) c.args.name.now ≡ None = sym (c.number_named.ensures k known.config_is known.numbers_are) ∙ c.in-None.is in
    subst (λ (o : Option ℕ). ArePassing k 0 (option_map_or (λ n. asked_for n by_hand c.args.skip ∷ []) o []) c.new-stack.result.items) (sym found) (subst (λ (l : List Prepared). ArePassing k 0 [] l) (sym c.new-stack.ensures.items) tt)
