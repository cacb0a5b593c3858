use Rattle.std.proofs.Common.{◌≡◌, length, sym, subst, ◌∙◌}
use Rattle.ha_sight.specs.Sight.{Sight}
use Rattle.ha_journal.specs.Moves.{sight}
use Rattle.std.specs.Prelude.{option_map}
use Rattle.script_step.specs.Continuation.{asks}
use Rattle.script_step.specs.Frames.{asked_by}
use Rattle.script_step.specs.Taken.{out_of}
use Rattle.ha_journal.proofs.MoreLemmas.{has-entry}
use Rattle.script_calls.specs.Seen as shown
use Rattle.engine_entry.specs.Stepping.{IsRunStep}
use Rattle.engine_parts.proofs.ViewLemmas.{helpers-shown, place-seen, units-numbered}
use Rattle.engine_entry.proofs.step_run.step_frames.Goals as goal

pub returns : goal.returns
returns c =
    let j = c.args.journal.now in
    let sees : shown.sees c.make-view.result ≡ sight j (length j)
    = c.make-view.ensures.sees
    ∙ place-seen j c.args.states.now c.args.numbers.now c.configuration.result.now c.args.zone.now c.args.at c.args.helpers.now c.requires.looks c.requires.sound (has-entry j c.requires.journal) c.requires.helpers
    c.configuration.ensures.configured in
    let made : IsRunStep (shown.sees c.make-view.result) c.args.branch.now c.args.wait c.args.run.now c.step.new.self (out_of c.in_ok-out.out)
    = record {
      steps = c.in_ok-out.ensures.step;
      told = c.in_ok-out.ensures.told;
      progress = c.in_ok-out.ensures.progress;
      wait_is = c.in_ok-out.ensures.wait ∙ (λ i. option_map (asked_by c.args.run.now.serial c.args.branch.now (shown.sees c.make-view.result).now) (asks c.step.new.self.root (sym c.in_ok-out.ensures.step.script i) c.args.branch.now));
      serial = c.in_ok-out.ensures.serial;
      automation = c.in_ok-out.ensures.automation;
    } in
    subst (λ (s : Sight). IsRunStep s c.args.branch.now c.args.wait c.args.run.now c.step.new.self (out_of c.in_ok-out.out)) sees made

pub make-view-requires-clause-numbered : goal.make-view-requires-clause-numbered
make-view-requires-clause-numbered c = units-numbered c.args.journal.now c.args.numbers.now c.configuration.result.now c.requires.looks.numbers_are c.configuration.ensures.configured

pub make-view-requires-clause-seen : goal.make-view-requires-clause-seen
make-view-requires-clause-seen c =
    helpers-shown c.args.journal.now c.args.states.now c.args.numbers.now c.configuration.result.now c.args.zone.now c.args.at c.args.helpers.now c.requires.looks c.requires.sound (has-entry c.args.journal.now c.requires.journal)
    c.requires.helpers c.configuration.ensures.configured
