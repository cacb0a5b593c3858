-- What each stage means.
use Rattle.std.proofs.Common.{◌≡◌, ℕ, List, [], ap, ◌∙◌}
use Rattle.std.specs.Prelude.{Option, map}
use Rattle.ha_config.specs.declared.config.Action.{Action}
use Rattle.ha_sight.specs.Scripts.{Branch, Spot, Scopes, Next, Outcome, flat, ends, delayed, waited, side_by_side}
use Rattle.script_step.specs.declared.strand.End.{End}
use Rattle.script_step.specs.declared.strand.Strand.{Strand}
use Rattle.script_step.specs.declared.strand.Stage.{Stage}
use Rattle.script_step.specs.declared.strand.Stage.TheOpen.{Stage-F}
use Rattle.script_step.specs.declared.strand.Stage.TheViews.{out-Stage, out-Strand}
use Rattle.script_step.specs.declared.strand.Stage.TheVariants.{Sides, outs-Ready, outs-Delay, outs-Wait, outs-Sides, outs-Ended}
use Rattle.script_step.specs.declared.strand.Stage.TheFolds.{fold_out-Stage, fold_out-Strand, map-Stage}
use Rattle.script_step.specs.Continuation.{Began, Meaning, StageMeaning, ask_in, may_go_on, status_of, lists_of, sides_from, stage_step, strand_step, continuation}
use Rattle.script_step.specs.Step.{stage_meaning, thread_on}

module _ (a : Option Action) (next : Next) (scopes : Scopes) (b : Branch) (began : Began) (ps : List Spot) where
  pub stage-out : (k : Stage) → stage_meaning k a next scopes b began ps
      ≡ stage_step (map-Stage Stage Strand StageMeaning Meaning stage_meaning continuation (out-Stage k)) a next scopes b began ps
  stage-out k = ap (λ f. f a next scopes b began ps) (fold_out-Stage StageMeaning Meaning stage_step strand_step k)

  abbrev pub stage_at : Stage-F Stage Strand → Option Outcome
  stage_at k = stage_step (map-Stage Stage Strand StageMeaning Meaning stage_meaning continuation k) a next scopes b began ps

  pub stage-ready : stage_meaning Stage.Ready a next scopes b began ps ≡ next scopes ps
  stage-ready = stage-out Stage.Ready ∙ ap stage_at outs-Ready

  pub stage-ended : (e : End) → stage_meaning (Stage.Ended e) a next scopes b began ps ≡ ends (status_of e) ps
  stage-ended e = stage-out (Stage.Ended e) ∙ ap stage_at (outs-Ended e)

  pub stage-delay : (due : ℕ) → stage_meaning (Stage.Delay due) a next scopes b began ps ≡ delayed due next scopes b ps
  stage-delay due = stage-out (Stage.Delay due) ∙ ap stage_at (outs-Delay due)

  pub stage-wait : (timeout : Option ℕ) → stage_meaning (Stage.Wait timeout) a next scopes b began ps
      ≡ waited (ask_in a timeout (flat scopes)) (may_go_on a) (began []) next scopes b ps
  stage-wait timeout = stage-out (Stage.Wait timeout) ∙ ap stage_at (outs-Wait timeout)

  pub stage-sides : (strands : List Strand) → stage_meaning (Sides strands) a next scopes b began ps
      ≡ side_by_side b (sides_from 0 (map continuation strands) (lists_of a) b began) (next scopes) ps
  stage-sides strands = stage-out (Sides strands) ∙ ap stage_at (outs-Sides strands)

-- a strand means what its stage does on its thread
pub strand-out : (x : Strand) (list : List Action) (b : Branch) (began : Began) (ps : List Spot)
    → continuation x list b began ps ≡ thread_on list (out-Strand x).thread (out-Strand x).stage b began ps
strand-out x list b began ps = ap (λ f. f list b began ps) (fold_out-Strand StageMeaning Meaning stage_step strand_step x)
