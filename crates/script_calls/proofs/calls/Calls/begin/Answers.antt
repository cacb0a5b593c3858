use Rattle.std.proofs.Common.{◌∙◌, nat_eq}
use Rattle.std.specs.Prelude.{Some, if◌then◌else◌}
use Rattle.script_calls.specs.Waiting.{caller_of}
use Rattle.script_calls.proofs.CallLemmas.{updated-list}
use Rattle.script_calls.proofs.calls.Calls.begin.Goals as goal

pub returns-in-Ok-clause-ok : goal.returns-in-Ok-clause-ok
returns-in-Ok-clause-ok c x =
    updated-list c.self.inside.callers c.insert.new.self c.args.called (Some (c.args.caller, c.args.branch)) c.in-Ok.ensures.updates x
    ∙ (λ i. if nat_eq c.args.called x then Some (c.args.caller, c.args.branch) else caller_of x (c.self.view_is i))
