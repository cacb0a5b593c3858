-- The lists of a parallel block: how they begin, and how the block ends with them.
use Rattle.std.specs.Prelude.{ℕ, suc, Bool, true, false, not, ◌&&◌, nat_eq, List, [], ◌∷◌, ◌++◌, length, map, Option, Some, None, is_some}
use Rattle.std.specs.List.{list_all}
use Rattle.ha_config.specs.declared.config.Action.{Action}
use Rattle.ha_sight.specs.declared.steps.Progress.{Progress}
use Rattle.ha_sight.specs.Scripts.{Scopes}
use Rattle.script_step.specs.declared.thread.Thread.{Thread}
use Rattle.script_step.specs.declared.strand.End.{End}
use Rattle.script_step.specs.declared.strand.Stage.{Stage}
use Rattle.script_step.specs.declared.strand.Strand.{Strand}
use Rattle.script_step.specs.declared.strand.Stage.TheOpen.{Stage-F}
use Rattle.script_step.specs.declared.strand.Stage.TheViews.{out-Stage, out-Strand}
use Rattle.script_step.specs.declared.strand.Stage.TheFolds.{fold-Strand, fold-Stage}
use Rattle.script_step.specs.Continuation.{has_next, last_action, lists_of, nth_list}

-- ---- how a list begins

abbrev pub first_stage : List Action → Stage
first_stage [] = Stage.Ended End.Done
first_stage (a ∷ as') = Stage.Ready

abbrev pub first_thread : Scopes → Thread
first_thread scopes = record { scopes = scopes; outer = []; here = record { inside = 0; at = 0; turn = None } }

abbrev pub side_of : Scopes → List Action → Strand
side_of scopes list = record { thread = first_thread (scopes ++ ([] ∷ [])); stage = first_stage list }

-- ---- how a block ends

abbrev pub end_in : Stage-F Stage Strand → Option End
end_in (Stage-F.Ended e) = Some e
end_in Stage-F.Ready = None
end_in (Stage-F.Delay due) = None
end_in (Stage-F.Wait timeout) = None
end_in (Stage-F.Sides strands) = None

abbrev pub end_of : Strand → Option End
end_of x = end_in (out-Stage (out-Strand x).stage)

-- how far a run is
abbrev pub progress_by : Option End → Progress
progress_by None = Progress.Going
progress_by (Some End.Done) = Progress.Done
progress_by (Some End.Stopped) = Progress.Stopped
progress_by (Some End.Faulted) = Progress.Faulted

-- all have ended
abbrev pub all_over : List Strand → Bool
all_over [] = true
all_over (x ∷ xs) = is_some (end_of x) && all_over xs

-- the first that stopped or faulted
abbrev pub halts : Option End → Option End → Option End
halts (Some End.Stopped) later = Some End.Stopped
halts (Some End.Faulted) later = Some End.Faulted
halts (Some End.Done) later = later
halts None later = later

abbrev pub halt_of : List Strand → Option End
halt_of [] = None
halt_of (x ∷ xs) = halts (end_of x) (halt_of xs)

-- ---- what holds of a strand between its steps: where it is ready there is something to do, and a parallel block is one whose lists have
-- not all ended

pub record Standing : Type 0 where
  pub settled : Bool
  pub over : Bool

abbrev pub Standings : Type 0
Standings = List Action → Standing

abbrev pub all_settled : ℕ → List Standings → List (List Action) → Bool
all_settled i [] lists = true
all_settled i (m ∷ ms) lists = (m (nth_list lists i)).settled && all_settled (suc i) ms lists

abbrev pub each_over : List Standings → Bool
each_over [] = true
each_over (m ∷ ms) = (m []).over && each_over ms

abbrev pub stage_standing : Stage-F (List Action → Thread → Standing) Standings → List Action → Thread → Standing
stage_standing Stage-F.Ready list t = record { settled = has_next list t; over = false }
stage_standing (Stage-F.Delay due) list t = record { settled = true; over = false }
stage_standing (Stage-F.Wait timeout) list t = record { settled = true; over = false }
stage_standing (Stage-F.Sides ms) list t = record {
  settled =
      nat_eq (length ms) (length (lists_of (last_action list t)))
      && (all_settled 0 ms (lists_of (last_action list t)) && not (each_over ms));
  over = false;
}
stage_standing (Stage-F.Ended e) list t = record { settled = true; over = true }

abbrev pub standing : Strand → Standings
standing = fold-Strand (List Action → Thread → Standing) Standings stage_standing (λ x list. x.stage list x.thread)

abbrev pub is_settled : List Action → Strand → Bool
is_settled list x = (standing x list).settled

-- ---- what holds of a stage that a step gives, before blocks of which nothing is left are left

-- a parallel block has as many lists as its action, and each is settled
abbrev pub whole_in : Stage-F Stage Strand → List Action → Thread → Bool
whole_in (Stage-F.Sides xs) list t =
    nat_eq (length xs) (length (lists_of (last_action list t))) && all_settled 0 (map standing xs) (lists_of (last_action list t))
whole_in Stage-F.Ready list t = true
whole_in (Stage-F.Delay due) list t = true
whole_in (Stage-F.Wait timeout) list t = true
whole_in (Stage-F.Ended e) list t = true

abbrev pub is_whole : Stage → List Action → Thread → Bool
is_whole k list t = whole_in (out-Stage k) list t

-- no parallel block
abbrev pub plain_in : Stage-F Stage Strand → Bool
plain_in (Stage-F.Sides xs) = false
plain_in Stage-F.Ready = true
plain_in (Stage-F.Delay due) = true
plain_in (Stage-F.Wait timeout) = true
plain_in (Stage-F.Ended e) = true

abbrev pub is_plain : Stage → Bool
is_plain k = plain_in (out-Stage k)

-- nothing waits but its own branch: the lists of a parallel block are at their begins, or have ended
abbrev pub begun_in : Stage-F Stage Strand → Bool
begun_in Stage-F.Ready = true
begun_in (Stage-F.Delay due) = false
begun_in (Stage-F.Wait timeout) = false
begun_in (Stage-F.Sides xs) = false
begun_in (Stage-F.Ended e) = true

abbrev pub is_begun : Strand → Bool
is_begun x = begun_in (out-Stage (out-Strand x).stage)

abbrev pub fresh_in : Stage-F Stage Strand → Bool
fresh_in (Stage-F.Sides xs) = list_all is_begun xs
fresh_in Stage-F.Ready = true
fresh_in (Stage-F.Delay due) = true
fresh_in (Stage-F.Wait timeout) = true
fresh_in (Stage-F.Ended e) = true

abbrev pub is_fresh : Stage → Bool
is_fresh k = fresh_in (out-Stage k)

-- a thread in a stage is settled
abbrev pub stage_settled : Stage → List Action → Thread → Bool
stage_settled k list t =
    (fold-Stage (List Action → Thread → Standing) Standings stage_standing (λ x l. x.stage l x.thread) k list t).settled
