-- The lists that stand in an action, and the open blocks of a thread, which are named by where they stand.
use Rattle.std.specs.Prelude.{ℕ, zero, suc, ◌-◌, List, [], ◌∷◌, drop, Option, None, slice_get, option_map}
use Rattle.std.specs.Option.{option_map_or}
use Rattle.ha_config.specs.declared.config.Condition.{Condition}
use Rattle.ha_config.specs.declared.config.RepeatKind.{RepeatKind}
use Rattle.ha_config.specs.declared.config.Action.{Action}
use Rattle.ha_config.specs.declared.config.ActionKind.{ActionKind}
use Rattle.ha_config.specs.declared.config.ActionKind.TheOpen.{ActionKind-F}
use Rattle.ha_config.specs.declared.config.ActionKind.TheViews.{out-ActionKind, out-Action}
use Rattle.ha_sight.specs.Scripts.{Loop, count_loop, each_loop, while_loop, until_loop}
use Rattle.script_step.specs.declared.thread.Rounds.{Rounds}
use Rattle.script_step.specs.declared.thread.Turn.{Turn}
use Rattle.script_step.specs.declared.thread.Frame.{Frame}
use Rattle.script_step.specs.Blocks.{Round, Block}

-- what an action does, opened
abbrev pub kind_of : Action → ActionKind-F ActionKind Action
kind_of a = out-ActionKind (out-Action a).kind

-- one of the options, else the fallback
abbrev pub option_list : List (List Condition × List Action) → List Action → ℕ → List Action
option_list options fallback k = option_map_or (λ x. x.1) (slice_get options k) fallback

-- list k of an action that goes into a list
abbrev pub part_in : ActionKind-F ActionKind Action → ℕ → List Action
part_in (ActionKind-F.Choose options fallback) k = option_list options fallback k
part_in (ActionKind-F.If tests yes' no') zero = yes'
part_in (ActionKind-F.If tests yes' no') (suc k) = no'
part_in (ActionKind-F.Repeat kind body) k = body
part_in (ActionKind-F.Block body) k = body
part_in _ k = []

-- the conditions of a loop
abbrev pub conditions_in : RepeatKind → List Condition
conditions_in (RepeatKind.While cs) = cs
conditions_in (RepeatKind.Until cs) = cs
conditions_in (RepeatKind.Count t) = []
conditions_in (RepeatKind.Each fs) = []

abbrev pub tests_in : ActionKind-F ActionKind Action → List Condition
tests_in (ActionKind-F.Repeat kind body) = conditions_in kind
tests_in _ = []

-- the lists of a parallel block
abbrev pub lists_in : ActionKind-F ActionKind Action → List (List Action)
lists_in (ActionKind-F.Parallel lists) = lists
lists_in _ = []

-- the action before a place of a list
abbrev pub before : List Action → ℕ → Option Action
before list zero = None
before list (suc i) = slice_get list i

-- the list that a frame's action before its place has entered, and the conditions of the loop that this is
abbrev pub inner_list : List Action → Frame → List Action
inner_list list f = option_map_or (λ a. part_in (kind_of a) f.inside) (before list f.at) []

abbrev pub inner_tests : List Action → Frame → List Condition
inner_tests list f = option_map_or (λ a. tests_in (kind_of a)) (before list f.at) []

-- the list that some frames, the outermost first, lead to
abbrev pub list_in : List Action → List Frame → List Action
list_in list [] = list
list_in list (f ∷ fs) = list_in (inner_list list f) fs

abbrev pub tests_at : List Action → List Condition → List Frame → List Condition
tests_at list tests [] = tests
tests_at list tests (f ∷ fs) = tests_at (inner_list list f) (inner_tests list f) fs

-- a turn's loop, by its conditions
abbrev pub loop_by : Rounds → ℕ → List Condition → Loop
loop_by Rounds.Count most tests = count_loop most
loop_by (Rounds.Each values) most tests = each_loop values
loop_by Rounds.While most tests = while_loop tests
loop_by Rounds.Until most tests = until_loop tests

abbrev pub round_of : List Action → List Condition → Turn → Round
round_of list tests t = record { loop = loop_by t.rounds t.most tests; body = list; index = t.index; more = t.most - t.index }

-- a frame whose list is this
abbrev pub block_of : List Action → List Condition → Frame → Block
block_of list tests f = record { left = drop f.at list; round = option_map (round_of list tests) f.turn }

-- the blocks that some frames, the outermost first, stand for, the innermost first
abbrev pub blocks_of : List Action → List Condition → List Frame → List Block → List Block
blocks_of list tests [] out = out
blocks_of list tests (f ∷ fs) out = blocks_of (inner_list list f) (inner_tests list f) fs (block_of list tests f ∷ out)
