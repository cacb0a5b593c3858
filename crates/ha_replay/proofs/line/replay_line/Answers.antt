use Rattle.std.proofs.Common.{◌∙◌, Bool, false, rules, subst, sym}
use Rattle.std.specs.Prelude.{Err}
use Rattle.ha_config.proofs.ListLemmas.{none-some, some-same}
use Rattle.ha_replay.specs.Traces.{Answers, Stands, reached}
use Rattle.ha_replay.proofs.AnswerLemmas.{no-reader, none-due, unfit-answer}
use Rattle.ha_replay.proofs.line.replay_line.Goals as goal

pub put_worker-requires-clause-whose : goal.put_worker-requires-clause-whose
put_worker-requires-clause-whose g c κs within = λ k lt of. sym (some-same c.in-Some.worker k (c.in-Some.ensures.found k lt of))

pub returns-in-Ok-None-clause-answer : goal.returns-in-Ok-None-clause-answer
returns-in-Ok-None-clause-answer g c =
    let j = g.C.Core.entries c.args.core.now in
    let rs = g.C.Core.runs c.args.core.now in
    let r = reached j rs c.args.closing.now false in
    let stands = subst (λ (a : Bool). Stands (reached j rs c.args.closing.now a)) c.if-again.false c.requires.stands in
    subst (λ (a : Bool). Answers g.C.Prepare.Prepare.reads c.args.line.now (reached j rs c.args.closing.now a) r (Err c.unfit.result)) (sym c.if-again.false)
    (unfit-answer g.C.Prepare.Prepare.reads r r c.args.line.now c.unfit.result c.unfit.ensures.fault (λ end. search (rules, c.in-Ok-false.ensures.1 end, c.in-Ok-false.field-0-test))
    (no-reader g.C.Prepare.Prepare.reads r c.args.line.now stands c.unfit.ensures.size (λ k lt of. c.in_default.not-Some k (c.worker_of.ensures.found k lt of))
    (λ l a b print. none-some l (sym c.in-Ok-None.field-0-is ∙ c.in-Ok-None.ensures.only l a b print)))
    (none-due j rs c.args.closing.now c.args.line.now))
