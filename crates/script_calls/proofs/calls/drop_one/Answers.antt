use Rattle.script_calls.proofs.CallLemmas.{dropped}
use Rattle.script_calls.proofs.calls.drop_one.Goals as goal

pub returns-clause-kept : goal.returns-clause-kept
returns-clause-kept c =
    dropped c.args.callers.now c.drop_call.new.callers c.args.pairs.now c.unlist.new.pairs c.args.caller c.in-Some.called c.drop_call.ensures.change c.unlist.ensures.gone c.unlist.ensures.others c.unlist.ensures.apart c.requires
