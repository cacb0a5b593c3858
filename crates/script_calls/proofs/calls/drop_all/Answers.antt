use Rattle.std.proofs.Common.{◌∙◌}
use Rattle.script_calls.proofs.CallLemmas.{none-left}
use Rattle.script_calls.proofs.calls.drop_all.Goals as goal

pub returns-clause-rest : goal.returns-clause-rest
returns-clause-rest c x =
    none-left c.drop_one.new.callers c.drop_one.new.pairs c.args.caller c.drop_one.ensures.kept (c.drop_one.ensures.none c.calls-test.false) x
    ∙ c.drop_one.ensures.rest x ∙ c.calls.invariant.rest x
