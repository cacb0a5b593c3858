use Rattle.std.proofs.Common.{◌≡◌, ℕ, true, false, sym, subst, ◌∙◌}
use Rattle.std.specs.Prelude.{Some, ◌||◌}
use Rattle.std.specs.Option.{option_map_or}
use Rattle.ha_config.specs.declared.config.Automation.{Automation}
use Rattle.ha_journal.specs.Attempts.{passes}
use Rattle.ha_sight.specs.Conditions.{hold_all}
use Rattle.ha_journal.specs.Journal.{last_place}
use Rattle.ha_engine.specs.Admits.{IsPut, asked_for}
use Rattle.ha_engine.proofs.PrepareLemmas.{ready-prepared}
use Rattle.ha_engine.proofs.prepare.prepare_rule.Goals as goal

pub returns-in_ok-put : goal.returns-in_ok-put
returns-in_ok-put g c k seen unit =
    let a : ℕ = c.args.automation in
    let on : passes k (last_place k) (asked_for a c.args.env c.args.skip) ≡ true
    = (λ i. option_map_or (λ (x : Automation). c.args.skip || hold_all (sym seen i) x.tests c.args.env) (unit i) false) ∙ sym c.in_ok-holds.ensures ∙ c.if-holds.true in
    let put = c.in_ok-put.ensures in
    subst (λ b. IsPut b k (c.args.order, asked_for a c.args.env c.args.skip) c.args.stack.now.items c.put.new.stack.items) (sym on)
    (put.0, put.1, ready-prepared k a c.args.order c.args.env c.args.skip put.0 (Some c.args.rule.now) unit put.2)
