use Rattle.std.proofs.Common.{◌∙◌, ap}
use Rattle.ha_journal.specs.Moves.{sight}
use Rattle.ha_journal.specs.Journal.{more}
use Rattle.std.proofs.Common.{length, suc}
use Rattle.ha_past.specs.Looks.{moves_with}
use Rattle.ha_journal.specs.Holds.{watches}
use Rattle.trig_set.proofs.KeptLemmas.{step-moved}
use Rattle.trig_set.proofs.spot.step.Goals as goal

pub returns-clause-moved : goal.returns-clause-moved
returns-clause-moved c j shows well true-now keeps =
    let x = c.args.scene.now.entry.now in
    let t = c.args.trigger.now in
    step-moved j x t c.args.since c.args.scene.now.to c.args.is c.stays-stayed.result c.in_ok-given.given c.args.spot.now c.settle.new.spot
    c.settle.ensures well true-now keeps
    (λ lt may. c.stays-stayed.ensures j c.args.since shows lt true-now (keeps.was lt) may ∙ ap (λ e. watches (sight j (length j)) (sight (more j x) (suc (length j))) j (more j x) t.rule e) c.as_ref-2.ensures.value)
    (c.in_ok-given.ensures j shows well true-now keeps.was ∙ ap (λ e. moves_with j x t e c.args.since) c.as_ref.ensures.value)
    shows.to
