-- The way through some frames, and one more.
use Rattle.std.proofs.Common.{◌≡◌, List, [], ◌∷◌, ◌++◌, refl}
use Rattle.ha_config.specs.declared.config.Action.{Action}
use Rattle.ha_config.specs.declared.config.Condition.{Condition}
use Rattle.script_step.specs.declared.thread.Frame.{Frame}
use Rattle.script_step.specs.Blocks.{Block}
use Rattle.script_step.specs.Parts.{inner_list, inner_tests, list_in, tests_at, block_of, blocks_of}

pub list-snoc : (list : List Action) (fs : List Frame) (f : Frame) → list_in list (fs ++ (f ∷ [])) ≡ inner_list (list_in list fs) f
list-snoc list [] f = refl
list-snoc list (g ∷ fs) f = list-snoc (inner_list list g) fs f

pub tests-snoc : (list : List Action) (tests : List Condition) (fs : List Frame) (f : Frame)
    → tests_at list tests (fs ++ (f ∷ [])) ≡ inner_tests (list_in list fs) f
tests-snoc list tests [] f = refl
tests-snoc list tests (g ∷ fs) f = tests-snoc (inner_list list g) (inner_tests list g) fs f

pub blocks-snoc : (list : List Action) (tests : List Condition) (fs : List Frame) (f : Frame) (out : List Block)
    → blocks_of list tests (fs ++ (f ∷ [])) out ≡ block_of (list_in list fs) (tests_at list tests fs) f ∷ blocks_of list tests fs out
blocks-snoc list tests [] f out = refl
blocks-snoc list tests (g ∷ fs) f out = blocks-snoc (inner_list list g) (inner_tests list g) fs f (block_of list tests g ∷ out)
