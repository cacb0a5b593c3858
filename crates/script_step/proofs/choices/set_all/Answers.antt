use Rattle.std.proofs.Common.{◌∙◌, ◌+◌, ap, drop}
use Rattle.ha_sight.specs.Scripts.{set_all}
use Rattle.script_step.proofs.EachLemmas.{drop-at}
use Rattle.script_step.proofs.NameLemmas.{set-more, set-fault}
use Rattle.script_step.proofs.choices.set_all.Goals as goal

pub loop-i-preserved : goal.loop-i-preserved
loop-i-preserved g c =
    let sight = g.A.Answers.sight c.args.answers.now in
    let ps = c.args.pairs.now in
    let i = c.loop-i.i in
    let p = c.index-pairs-i.result in
    c.loop-i.invariant ∙ ap (λ l. set_all l sight c.loop-i.scopes) (drop-at ps i p c.loop-i-test.true c.index-pairs-i.is)
    ∙ set-more sight (drop (i + 1) ps) p c.loop-i.scopes c.set_one.new.scopes c.in-Ok.ensures.ok

pub returns-in-Err-clause-fault : goal.returns-in-Err-clause-fault
returns-in-Err-clause-fault g c =
    let sight = g.A.Answers.sight c.args.answers.now in
    let ps = c.args.pairs.now in
    let i = c.loop-i.i in
    let p = c.index-pairs-i.result in
    λ h. c.loop-i.invariant ∙ ap (λ l. set_all l sight c.loop-i.scopes) (drop-at ps i p c.loop-i-test.true c.index-pairs-i.is)
    ∙ set-fault sight (drop (i + 1) ps) p c.loop-i.scopes (c.in-Err.ensures.fault h)
