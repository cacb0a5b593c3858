-- The innermost block of which something is left.
use Rattle.std.specs.Prelude.{ℕ, suc, Bool, ◌||◌, nat_lt, is_some, length, List, [], ◌∷◌, Option, Some, None, if◌then◌else◌}
use Rattle.ha_config.specs.declared.config.Action.{Action}
use Rattle.script_step.specs.declared.thread.Frame.{Frame}
use Rattle.script_step.specs.declared.thread.Thread.{Thread}
use Rattle.script_step.specs.Parts.{inner_list}
use Rattle.script_step.specs.Continuation.{has_next}

-- a block whose list is this has an action left, or is a turn
abbrev pub is_left : List Action → Frame → Bool
is_left list f = is_some f.turn || nat_lt f.at (length list)

-- the last of some frames, the outermost first, of whose block something is left
abbrev pub last_left : List Action → List Frame → Option ℕ
last_left list [] = None
last_left list (f ∷ fs) = else_this (last_left (inner_list list f) fs)
  where
    else_this : Option ℕ → Option ℕ
    else_this (Some k) = Some (suc k)
    else_this None = if is_left list f then Some 0 else None

-- how many frames are round the innermost block of which something is left
abbrev pub open_at : List Action → Thread → Option ℕ
open_at list t = if has_next list t then Some (length t.outer) else last_left list t.outer
