-- The place behind a turn.
use Rattle.std.proofs.Common.{◌≡◌, suc, ◌-◌, ◌<◌, ◌≤◌, true, false, List, [], ◌∷◌, ◌++◌, length, sym, ap, ◌∙◌, arith}
use Rattle.std.specs.Prelude.{Some, option_map, codes}
use Rattle.ha_config.specs.declared.config.Action.{Action}
use Rattle.ha_config.specs.declared.config.Condition.{Condition}
use Rattle.ha_sight.specs.declared.item.Item.{Item}
use Rattle.ha_sight.specs.Sight.{Sight}
use Rattle.ha_sight.specs.Scripts.{Branch, Spot, gives, outer}
use Rattle.script_step.specs.declared.thread.Turn.{Turn}
use Rattle.script_step.specs.declared.thread.Frame.{Frame}
use Rattle.script_step.specs.declared.thread.Thread.{Thread}
use Rattle.script_step.specs.declared.strand.End.{End}
use Rattle.script_step.specs.declared.strand.Stage.{Stage}
use Rattle.script_step.specs.Blocks.{Round, Block, goes_on}
use Rattle.script_step.specs.Parts.{tests_at, loop_by, round_of, block_of, blocks_of}
use Rattle.script_step.specs.Continuation.{Began, own_list, last_action, thread_next, placed}
use Rattle.script_step.specs.Turns.{turn_value}
use Rattle.script_step.specs.Step.{IsTaken, thread_on}
use Rattle.script_step.proofs.BlockLemmas.{next-turn, last-turn, too-many}
use Rattle.script_step.proofs.ThreadLemmas.{nothing-behind}
use Rattle.script_step.proofs.WalkLemmas.{blocks-snoc}
use Rattle.script_step.proofs.StageLemmas.{stage-ready, stage-ended}
use Rattle.script_step.proofs.KindLemmas.{turn-variables}

-- leaving to the next block
pub left-to : (list : List Action) (out : List Frame) (new : Thread) (f : Frame) → out ≡ new.outer ++ (f ∷ []) → new.here ≡ f
    → (b : Branch) (began : Began) (ps : List Spot) → goes_on b (blocks_of list [] out []) new.scopes ps ≡ thread_on list new Stage.Ready b began ps
left-to list out new f popped here b began ps =
    (λ i. goes_on b (blocks_of list [] (popped i) []) new.scopes ps)
    ∙ (λ i. goes_on b (blocks-snoc list [] new.outer (sym here i) [] i) new.scopes ps)
    ∙ sym (stage-ready (last_action list new) (thread_next b list new.outer new.here) new.scopes b began ps)

module _ (sight : Sight) (list : List Action) (t : Thread) (turn : Turn) (is : t.here.turn ≡ Some turn) (over : length (own_list list t) ≤ t.here.at) where
  own : List Action
  own = own_list list t

  tests : List Condition
  tests = tests_at list [] t.outer

  round : Round
  round = round_of own tests turn

  out : List Block
  out = blocks_of list [] t.outer []

  turn-block : block_of own tests t.here ≡ record { left = []; round = Some round }
  unfolding own tests round
  turn-block = (λ i. record { left = nothing-behind t.here.at own over i; round = option_map (round_of own tests) (is i) })

  pub turn-over : (new : Thread) (stage : Stage) → (loop_by turn.rounds turn.most (tests_at list [] t.outer)).enters (suc turn.index) (outer t.scopes) sight ≡ false
      → ((b : Branch) (began : Began) (ps : List Spot) → goes_on b (blocks_of list [] t.outer []) (outer t.scopes) ps ≡ thread_on list new stage b began ps)
      → IsTaken sight list (λ b ps. thread_next b list t.outer t.here t.scopes ps) Item.Nothing new stage
  unfolding own tests round out turn-block
  turn-over new stage ends-here leaves b began s rest seen here =
      (λ i. goes_on b (turn-block i ∷ out) t.scopes (s ∷ rest))
      ∙ last-turn b round out s t.scopes rest here ((λ i. round.loop.enters (suc turn.index) (outer t.scopes) (seen i)) ∙ ends-here)
      ∙ ap (gives Item.Nothing) (leaves b (placed [] s.place began) rest)

  pub turn-too-many : (new : Thread) → (loop_by turn.rounds turn.most (tests_at list [] t.outer)).enters (suc turn.index) (outer t.scopes) sight ≡ true → turn.index ≡ turn.most
      → IsTaken sight list (λ b ps. thread_next b list t.outer t.here t.scopes ps) (Item.Failed 6) new (Stage.Ended End.Faulted)
  unfolding own tests round out turn-block
  turn-too-many new yes' last b began s rest seen here =
      (λ i. goes_on b (turn-block i ∷ out) t.scopes (s ∷ rest))
      ∙ too-many b round out s t.scopes rest here (omega (arith, last)) ((λ i. round.loop.enters (suc turn.index) (outer t.scopes) (seen i)) ∙ yes')
      ∙ ap (gives (Item.Failed 6)) (sym (stage-ended (last_action list new) (thread_next b list new.outer new.here) new.scopes b (placed [] s.place began) rest End.Faulted))

  pub turn-next : (new : Thread) (next : Turn) → (loop_by turn.rounds turn.most (tests_at list [] t.outer)).enters (suc turn.index) (outer t.scopes) sight ≡ true → turn.index < turn.most
      → next.rounds ≡ turn.rounds → next.index ≡ suc turn.index → next.most ≡ turn.most
      → new.outer ≡ t.outer → new.here ≡ record { inside = 0; at = 0; turn = Some next }
      → new.scopes ≡ outer t.scopes ++ (((codes "repeat", turn_value next.rounds next.most next.index) ∷ []) ∷ [])
      → IsTaken sight list (λ b ps. thread_next b list t.outer t.here t.scopes ps) Item.Nothing new Stage.Ready
  unfolding own tests round out turn-block
  turn-next new next yes' less rounds index most outer_is here_is scopes_is b began s rest seen here =
      let more : turn.most - turn.index ≡ suc (turn.most - suc turn.index) = omega (arith, less) in
      (λ i. goes_on b (turn-block i ∷ out) t.scopes (s ∷ rest))
      ∙ next-turn b round out s t.scopes rest here (turn.most - suc turn.index) more ((λ i. round.loop.enters (suc turn.index) (outer t.scopes) (seen i)) ∙ yes')
      ∙ ap (gives Item.Nothing)
      ((λ i. goes_on b (record { left = own; round = Some (record { loop = loop_by (sym rounds i) (sym most i) tests; body = own; index = sym index i; more = sym most i - sym index i }) } ∷ out)
      (outer t.scopes ++ ((loop_by (sym rounds i) (sym most i) tests).variables (sym index i) ∷ [])) rest)
      ∙ (λ i. goes_on b (record { left = own; round = Some (round_of own tests next) } ∷ out) (outer t.scopes ++ (turn-variables next tests i ∷ [])) rest)
      ∙ (λ i. thread_next b list (sym outer_is i) (sym here_is i) (sym scopes_is i) rest)
      ∙ sym (stage-ready (last_action list new) (thread_next b list new.outer new.here) new.scopes b (placed [] s.place began) rest))
