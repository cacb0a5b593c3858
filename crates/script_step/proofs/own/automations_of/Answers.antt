use Rattle.std.proofs.Common.{◌∙◌, sym, ap, subst, List, ℕ}
use Rattle.ha_sight.specs.Calls.{automation_at}
use Rattle.ha_sight.specs.Once.{with_number}
use Rattle.ha_sight.proofs.OnceLemmas.{once-with}
use Rattle.script_step.proofs.OwnLemmas.{AreSeen, automation-seen, seen-with}
use Rattle.script_step.proofs.own.automations_of.Goals as goal

pub loop-i-preserved : goal.loop-i-preserved
loop-i-preserved g c =
    let all = (g.A.Answers.sight c.args.answers.now).automations in
    let t = c.index-targets-i.result in
    let made = c.in_ok-add_once.ensures ∙ (λ k. with_number (c.automation.ensures k) c.loop-i.found) in
    record {
      found =
          made ∙ ap (with_number _) c.loop-i.invariant.found
          ∙ sym (once-with (automation_at all) c.args.targets.now c.loop-i.i t c.loop-i-test.true c.index-targets-i.is);
      known = subst (λ (l : List ℕ). AreSeen all l) (sym made) (seen-with all c.loop-i.found _ c.loop-i.invariant.known (λ a h. automation-seen all t a h));
    }
