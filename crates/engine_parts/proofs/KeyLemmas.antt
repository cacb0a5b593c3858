-- The keys of a queue.
use Rattle.std.proofs.Common.{ℕ, ◌≤◌, List, [], ◌∷◌, Bool, true, false, arith}
use Rattle.std.specs.Prelude.{nat_le, if◌then◌else◌}
use Rattle.timer_queue.specs.Timers.{Timer, after_due}
use Rattle.engine_parts.specs.Kept.{KeysBelow}

-- LAW: they stay below where one is popped
pub keys_after : (at n : ℕ) (ts : List Timer) → KeysBelow n ts → KeysBelow n (after_due at ts)
keys_after at n [] h = tt
keys_after at n (t ∷ ts) h = by (nat_le t.0 at)
  where
    by : (c : Bool) → KeysBelow n (if c then ts else t ∷ ts)
    by true = h.1
    by false = h

pub keys_more : (n m : ℕ) (ts : List Timer) → n ≤ m → KeysBelow n ts → KeysBelow m ts
keys_more n m [] le h = tt
keys_more n m (t ∷ ts) le h = (omega (arith, le, h.0), keys_more n m ts le h.1)
