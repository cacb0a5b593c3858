use Rattle.std.proofs.Common.{◌≡◌, suc, length, true}
use Rattle.std.specs.Prelude.{◌==◌}
use Rattle.std.proofs.lemmas.Bool.{eqb-true}
use Rattle.yaml_tree.specs.Flow.{run}
use Rattle.yaml_tree.proofs.FlowRuns.{goes_on, stops, fails_so, nothing}
use Rattle.yaml_tree.proofs.flow.Flow.read.Goals as goal

pub tokens-preserved : goal.tokens-preserved
tokens-preserved c =
    goes_on c.tokens.self c.step.new.self (run (suc (length c.args.self.now.rest)) c.args.self.now) c.tokens.invariant (rw c.in-On.is at c.in_ok-step.ensures.exact) c.in_ok-step.ensures.shorter

pub returns-in-Ended : goal.returns-in-Ended
returns-in-Ended c =
    stops c.tokens.self _ (run (suc (length c.args.self.now.rest)) c.args.self.now) c.tokens.invariant (rw c.in-Ended.is at c.in_ok-step.ensures.exact)

pub returns-in-Fails : goal.returns-in-Fails
returns-in-Fails c =
    fails_so c.tokens.self c.in-Fails.code (run (suc (length c.args.self.now.rest)) c.args.self.now) c.tokens.invariant (rw c.in-Fails.is at c.in_ok-step.ensures.exact)

pub returns : goal.returns
returns c =
    let none : (length c.tokens.self.rest == 0) ≡ true = cc in
    nothing c.tokens.self (run (suc (length c.args.self.now.rest)) c.args.self.now) c.tokens.invariant (eqb-true (length c.tokens.self.rest) 0 none)
