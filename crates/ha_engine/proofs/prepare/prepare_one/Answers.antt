use Rattle.std.proofs.Common.{◌≡◌, sym, ap, ◌∙◌}
use Rattle.std.specs.Prelude.{Some, option_map}
use Rattle.std.specs.Option.{option_copied}
use Rattle.ha_config.specs.Names.{unit_of}
use Rattle.ha_config.specs.Units.{as_unit}
use Rattle.ha_journal.specs.Force.{force}
use Rattle.ha_journal.specs.Journal.{units}
use Rattle.ha_model.proofs.LastEntry.{ok-then}
use Rattle.unit_book.specs.Book.{unit_told}
use Rattle.ha_engine.proofs.PrepareLemmas.{called-put, rule-acts, script-acts}
use Rattle.ha_engine.proofs.prepare.prepare_one.Goals as goal

pub prepare_rule-requires : goal.prepare_rule-requires
prepare_rule-requires g c = rule-acts (option_copied c.unit-found.result.0) c.in-Some.rule.now (c.unit-found.ensures.rule (force c.requires.0) c.requires.1.holds) (ap option_copied c.in-Some.is)

pub put_called-requires : goal.put_called-requires
put_called-requires g c = script-acts (option_copied c.unit-found.result.1) (c.unit-found.ensures.script (force c.requires.0) c.requires.1.holds)

pub returns-in-Some : goal.returns-in-Some
returns-in-Some g c =
    ok-then c.prepare_rule.result
    (λ h k seen known.
    (let unit : unit_of (units k) c.args.unit ≡ Some c.in-Some.rule.now
    = sym (c.unit-found.ensures.unit (force k) known.holds) ∙ (λ i. unit_told (ap option_copied c.in-Some.is i) (option_copied c.unit-found.result.1)) in
    h k seen unit)) c.prepare_rule.ensures

pub returns-in-None : goal.returns-in-None
returns-in-None g c =
    ok-then c.put_called.result
    (λ h k seen known.
    (let unit : unit_of (units k) c.args.unit ≡ option_map as_unit (option_copied c.unit-found.result.1)
    = sym (c.unit-found.ensures.unit (force k) known.holds) ∙ (λ i. unit_told (ap option_copied c.in-None.is i) (option_copied c.unit-found.result.1)) in
    h k seen unit))
    (called-put (g.A.Answers.sight c.args.answers.now) c.put_called.result (option_copied c.unit-found.result.1) c.args.unit c.args.order c.args.env c.args.skip c.args.stack.now.items c.put_called.new.stack.items
    c.put_called.ensures.there c.put_called.ensures.none)
