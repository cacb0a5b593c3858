use Rattle.std.proofs.Common.{◌≡◌, ◌∙◌, refl, subst, List, [], Some}
use Rattle.std.specs.Prelude.{option_map}
use Rattle.ha_config.specs.declared.config.Action.{Action}
use Rattle.ha_sight.specs.Scripts.{Branch}
use Rattle.script_step.specs.Continuation.{asks, placed}
use Rattle.script_step.specs.Frames.{asked_by}
use Rattle.script_step.specs.Gates.{Gate, fronts, fronts_of, gate_at}
use Rattle.script_step.specs.Step.{IsStep}
use Rattle.script_step.specs.Told.{Tells}
use Rattle.script_step.proofs.TellLemmas.{are-told}
use Rattle.script_step.proofs.frames.Frames.step.Goals as goal

pub returns-clause-told : goal.returns-clause-told
returns-clause-told g c = λ began place.
    let sight = g.A.Answers.sight c.args.answers.now in
    let f = c.args.self.now in
    let branch = c.args.branch.now in
    let path = c.as_slice.result.now in
    let root = c.step_here.new.strand in
    let asked =
    c.in_ok-ask.ensures ∙ (λ i. option_map (asked_by f.serial branch (c.now-now.ensures i)) (asks root (c.requires.script i) (c.as_slice-2.ensures i))) in
    let by_list = subst (λ (l : List Action). (d : Branch) (q : Gate) → gate_at d (fronts root l (placed path place began)) ≡ Some q → Tells path (fronts f.root l began) d q)
    c.requires.script (λ d q. c.in_ok-item.ensures.told began place d q) in
    let told = subst (λ (b : Branch). (d : Branch) (q : Gate) → gate_at d (fronts root f.script.value (placed b place began)) ≡ Some q → Tells b (fronts f.root f.script.value began) d q)
    c.as_slice.ensures by_list in
    are-told f.serial place sight.now branch (fronts_of f began) root f.script.value began (record { item = c.in_ok-item.item; progress = c.progress-progress.result; wait = c.in_ok-ask.ask }) asked told

pub returns-clause-step : goal.returns-clause-step
returns-clause-step g c =
    let sight = g.A.Answers.sight c.args.answers.now in
    let f = c.args.self.now in
    let path = c.as_slice.result.now in
    let root = c.step_here.new.strand in
    let item = c.in_ok-item.item in
    let by_list = subst (λ (l : List Action). IsStep sight l path c.args.wait f.root item root) c.requires.script c.in_ok-item.ensures.step in
    let step = subst (λ (b : Branch). IsStep sight f.script.value b c.args.wait f.root item root) c.as_slice.ensures by_list in
    record { script = refl; goes = λ began s rest seen here tells. step [] began s rest seen here tells }
