use Rattle.std.proofs.Common.{◌+◌, drop}
use Rattle.ha_sight.specs.Calls.{target_of}
use Rattle.script_step.proofs.EachLemmas.{drop-at, drop-past}
use Rattle.script_step.proofs.TargetLemmas.{names-more, names-fault, names-all}
use Rattle.script_step.proofs.targets.targets_of.Goals as goal

pub returns-in-Err : goal.returns-in-Err
returns-in-Err g c =
    let sight = g.A.Answers.sight c.args.answers.now in
    let env = c.args.env.now in
    let ts = c.args.targets.now in
    let i = c.loop-i.i in
    let t = c.index-targets-i.result in
    names-fault sight env ts (drop i ts) (drop (i + 1) ts) c.loop-i.all t c.in-Err.fault c.loop-i.invariant (drop-at ts i t c.loop-i-test.true c.index-targets-i.is)
    (c.in-Err.ensures (target_of sight env t) c.target_of.ensures)

pub loop-i-preserved : goal.loop-i-preserved
loop-i-preserved g c =
    let sight = g.A.Answers.sight c.args.answers.now in
    let env = c.args.env.now in
    let ts = c.args.targets.now in
    let i = c.loop-i.i in
    let t = c.index-targets-i.result in
    names-more sight env ts (drop i ts) (drop (i + 1) ts) c.loop-i.all c.add_all.new.all t c.loop-i.invariant (drop-at ts i t c.loop-i-test.true c.index-targets-i.is)
    (c.in-Ok.ensures (target_of sight env t) c.target_of.ensures)

pub returns : goal.returns
returns g c =
    let ts = c.args.targets.now in
    names-all (g.A.Answers.sight c.args.answers.now) c.args.env.now ts (drop c.loop-i.i ts) c.loop-i.all c.loop-i.invariant (drop-past c.loop-i.i ts c.loop-i-test.false)
