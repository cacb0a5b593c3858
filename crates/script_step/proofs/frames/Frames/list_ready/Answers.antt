use Rattle.std.proofs.Common.{◌∙◌, ◌++◌, ap, map}
use Rattle.script_step.specs.Few.{has_few_lists}
use Rattle.script_step.specs.Ready.{readies, ready_of}
use Rattle.script_step.specs.Sides.{is_settled}
use Rattle.script_step.proofs.ReadyLemmas.{map-same}
use Rattle.script_step.proofs.frames.Frames.list_ready.Goals as goal

pub returns : goal.returns
returns g c script =
    let f = c.args.self.now in
    let ends = g.E.Ended.ends c.args.ended.now f.serial in
    c.in_ok-add_ready.ensures (ap has_few_lists script ∙ f.few) ((λ i. is_settled (script i) f.root) ∙ f.settled)
    ∙ (λ i. c.make-found.ensures i ++ map (λ d. c.make.ensures i ++ d) (readies f.root (script i) c.args.now (λ d. ends (c.make.ensures i ++ d))))
    ∙ map-same (ready_of f c.args.now ends)
