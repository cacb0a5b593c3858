-- How a run's script stands behind a step, by its frames.
use Rattle.std.proofs.Common.{◌≡◌, Bool, true, false, List, [], ◌∷◌, ◌++◌, map, refl, sym, ap, subst, ◌∙◌}
use Rattle.std.specs.Prelude.{Option, Some, None, option_map, if◌then◌else◌}
use Rattle.std.specs.List.{list_any}
use Rattle.std.specs.Option.{option_map_or}
use Rattle.ha_config.specs.declared.config.Action.{Action}
use Rattle.ha_sight.specs.declared.item.Item.{Item}
use Rattle.ha_config.specs.Words.{last_of}
use Rattle.ha_sight.specs.Scripts.{Branch, Spot, Scopes, Next, Outcome, Status, ends, exec, first_halt, is_open, outer, prefixed, after_lists, all_allowed, each_on, joined_lists, side_by_side}
use Rattle.ha_sight.proofs.Rolls.{run_action-out}
use Rattle.script_step.specs.declared.strand.End.{End}
use Rattle.script_step.specs.declared.strand.Strand.{Strand}
use Rattle.script_step.specs.declared.strand.Stage.{Stage}
use Rattle.script_step.specs.declared.strand.Stage.TheOpen.{Stage-F}
use Rattle.script_step.specs.declared.strand.Stage.TheViews.{out-Stage, out-Strand}
use Rattle.script_step.specs.declared.strand.Stage.TheFolds.{map-Stage}
use Rattle.script_step.specs.Blocks.{Round, Block, at_end, goes_on}
use Rattle.script_step.specs.Continuation.{Began, Meaning, StageMeaning, continuation, last_action, lists_of, open_blocks, sides_from, stage_step, status_of, thread_next}
use Rattle.script_step.specs.Sides.{Standings, end_in, end_of, stage_standing, standing}
use Rattle.script_step.specs.Step.{stage_meaning}
use Rattle.script_step.proofs.SettledLemmas.{StageStanding, open-strand, stage_stands, standing-out}
use Rattle.script_step.proofs.StageLemmas.{stage-out, strand-out}

-- what is given on no places has no items
abbrev NoItems : Option Outcome → Type 0
NoItems None = Unit {0}
NoItems (Some o) = o.items ≡ []

part-none : (actions : List Action) (end : Next) (scopes : Scopes) (b : Branch) → NoItems (end scopes []) → NoItems (exec actions end scopes b [])
part-none [] end scopes b h = h
part-none (a ∷ rest) end scopes b h = subst NoItems (sym (run_action-out a (λ s p. exec rest end s b p) end scopes b [])) refl

blocks-none : (b : Branch) (xs : List Block) (scopes : Scopes) → NoItems (goes_on b xs scopes [])
blocks-none b [] scopes = refl
blocks-none b (x ∷ xs) scopes = part-none x.left (at_end b x.round (goes_on b xs)) scopes b (by x.round (blocks-none b xs (outer scopes)))
  where
    by : (r : Option Round) → NoItems (goes_on b xs (outer scopes) []) → NoItems (at_end b r (goes_on b xs) scopes [])
    by None h = h
    by (Some r) h = refl

prefixed-none : (o : Option Outcome) → NoItems o → NoItems (prefixed [] o)
prefixed-none None h = tt
prefixed-none (Some o) h = h

sides-none : (b : Branch) (lists : List (List Spot → Option Outcome)) (next : List Spot → Option Outcome) → NoItems (next []) → NoItems (side_by_side b lists next [])
sides-none b lists next h = by (all_allowed (each_on b 0 lists []))
  where
    behind : (os : List Outcome) (t : Bool) (halt : Option Status) → NoItems (if t then ends Status.Open [] else option_map_or (λ status. ends status []) halt (next []))
    behind os true halt = refl
    behind os false None = h
    behind os false (Some status) = refl

    by : (r : Option (List Outcome)) → NoItems (joined_lists b next [] [] r)
    by None = tt
    by (Some os) = prefixed-none (after_lists os next []) (behind os (list_any (λ o. is_open o.status) os) (first_halt os))

abbrev pub status_by : Option End → Status
status_by None = Status.Open
status_by (Some e) = status_of e

module _ (x : Strand) (list : List Action) (b : Branch) (began : Began) where
  abbrev next_of : Next
  next_of = thread_next b list (out-Strand x).thread.outer (out-Strand x).thread.here

  abbrev means_at : Stage-F Stage Strand → Option Outcome
  means_at k = stage_step (map-Stage Stage Strand StageMeaning Meaning stage_meaning continuation k) (last_action list (out-Strand x).thread) next_of (out-Strand x).thread.scopes b began []

  means : continuation x list b began [] ≡ means_at (out-Stage (out-Strand x).stage)
  means = strand-out x list b began [] ∙ stage-out (last_action list (out-Strand x).thread) next_of (out-Strand x).thread.scopes b began [] (out-Strand x).stage

  none-at : (k : Stage-F Stage Strand) → NoItems (means_at k)
  none-at Stage-F.Ready = blocks-none b (open_blocks list (out-Strand x).thread.outer (out-Strand x).thread.here) (out-Strand x).thread.scopes
  none-at (Stage-F.Delay due) = refl
  none-at (Stage-F.Wait timeout) = refl
  none-at (Stage-F.Sides xs) =
      sides-none b (sides_from 0 (map continuation xs) (lists_of (last_action list (out-Strand x).thread)) b began) (next_of (out-Strand x).thread.scopes)
      (blocks-none b (open_blocks list (out-Strand x).thread.outer (out-Strand x).thread.here) (out-Strand x).thread.scopes)
  none-at (Stage-F.Ended e) = refl

  over-at : (k : Stage-F Stage Strand) → end_in k ≡ None → (stage_standing (map-Stage Stage Strand StageStanding Standings stage_stands standing k) list (out-Strand x).thread).over ≡ false
  over-at Stage-F.Ready e = refl
  over-at (Stage-F.Delay due) e = refl
  over-at (Stage-F.Wait timeout) e = refl
  over-at (Stage-F.Sides xs) e = refl
  over-at (Stage-F.Ended end) e = absurd (let bad : ◌≡◌ {A = Option End} (Some end) None = e in cc)

  opened : (o : Option Outcome) → NoItems o → option_map (λ r. is_open r.status) o ≡ Some true → o ≡ Some (record { items = []; status = Status.Open })
  opened None h e = absurd (let bad : ◌≡◌ {A = Option Bool} None (Some true) = e in cc)
  opened (Some o) h e = (let open' : is_open o.status ≡ true = cc in λ i. Some (record { items = h i; status = is o.status open' i }))
    where
      is : (s : Status) → is_open s ≡ true → s ≡ Status.Open
      is Status.Open e = refl
      is Status.Done e = absurd (let bad : ◌≡◌ {A = Bool} false true = e in cc)
      is Status.Stopped e = absurd (let bad : ◌≡◌ {A = Bool} false true = e in cc)
      is Status.Faulted e = absurd (let bad : ◌≡◌ {A = Bool} false true = e in cc)

  -- LAW: on no places a settled strand gives nothing, and has the status that its stage says
  pub on-nothing : (standing x list).settled ≡ true → continuation x list b began [] ≡ Some (record { items = []; status = status_by (end_of x) })
  on-nothing settled = by (out-Stage (out-Strand x).stage) refl
    where
      not-over : end_of x ≡ None → continuation x list b began [] ≡ Some (record { items = []; status = Status.Open })
      not-over e =
          opened (continuation x list b began []) (subst NoItems (sym means) (none-at (out-Stage (out-Strand x).stage)))
          (open-strand x list b began settled (ap (λ z. z.over) (standing-out x list) ∙ over-at (out-Stage (out-Strand x).stage) e))

      at : (o : Option End) → end_of x ≡ o → continuation x list b began [] ≡ Some (record { items = []; status = status_by o }) → continuation x list b began [] ≡ Some (record { items = []; status = status_by (end_of x) })
      at o e h = h ∙ (λ i. Some (record { items = []; status = status_by (sym e i) }))

      by : (k : Stage-F Stage Strand) → out-Stage (out-Strand x).stage ≡ k → continuation x list b began [] ≡ Some (record { items = []; status = status_by (end_of x) })
      by Stage-F.Ready e = at None (ap end_in e) (not-over (ap end_in e))
      by (Stage-F.Delay due) e = at None (ap end_in e) (not-over (ap end_in e))
      by (Stage-F.Wait timeout) e = at None (ap end_in e) (not-over (ap end_in e))
      by (Stage-F.Sides xs) e = at None (ap end_in e) (not-over (ap end_in e))
      by (Stage-F.Ended end) e = at (Some end) (ap end_in e) (means ∙ ap means_at e)

pub last-snoc : (items : List Item) (item : Item) → last_of (items ++ (item ∷ [])) ≡ Some item
last-snoc [] item = refl
last-snoc (x ∷ []) item = refl
last-snoc (x ∷ y ∷ items) item = last-snoc (y ∷ items) item
