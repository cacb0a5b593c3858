use Rattle.std.proofs.Common.{◌∙◌, ap, sym}
use Rattle.script_calls.specs.Waiting.{caller_of, unless_by}
use Rattle.script_calls.proofs.CallLemmas.{found-is}
use Rattle.script_calls.proofs.calls.Calls.drop_run.Goals as goal

pub returns-clause-rest : goal.returns-clause-rest
returns-clause-rest c x =
    sym (found-is x c.drop_all.new.callers.entries) ∙ c.drop_all.ensures.rest x
    ∙ ap (unless_by c.args.caller) (found-is x c.self.inside.callers.entries ∙ ap (caller_of x) c.self.view_is)
