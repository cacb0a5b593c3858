-- The waits of a set, by run and branch, and what a set tells of a journal.
use Rattle.std.specs.Prelude.{◌≡◌, ℕ, suc, false, ◌||◌, nat_eq, List, take, is_some, Option, Some, None, option_map, if◌then◌else◌}
use Rattle.std.specs.List.{list_any}
use Rattle.ha_sight.specs.declared.waiting.WaitAsk.{WaitAsk}
use Rattle.ha_sight.specs.declared.waiting.WaitEnd.{WaitEnd}
use Rattle.ha_journal.specs.Journal.{Journal, now}
use Rattle.ha_sight.specs.Scripts.{Ask, Branch}
use Rattle.ha_journal.specs.Waits.{wait_end}
use Rattle.script_step.specs.Told.{IsAsk}
use Rattle.wait_set.specs.declared.asked.Asked as wait
use Rattle.wait_set.specs.Asked.{WaitTable, wait_of, end_of, is_bare}

-- an ask that was taken in: its owner, the place where its wait began, what it asks, and, where it is bare, the end that was named for it
pub record Asked : Type 0 where
  pub owner : ℕ
  pub place : ℕ
  pub ask : WaitAsk
  pub named : Option WaitEnd

abbrev pub named_of : wait.Asked → Option WaitEnd
named_of a = if is_bare a.ask then a.end else None

abbrev pub asked : wait.Asked → Asked
asked a = record { owner = a.owner; place = a.place; ask = a.ask; named = named_of a }

-- the ask of a run in a branch
abbrev pub asked_at : WaitTable → ℕ → Branch → Option Asked
asked_at w serial branch = option_map {T = wait.Asked} {U = Asked} asked (wait_of serial branch w.asks)

-- how its wait ended, if it has
abbrev pub ends : WaitTable → ℕ → Branch → Option WaitEnd
ends w serial branch = end_of w.asks serial branch

-- the owners of the waits that ended at the entry noted last
abbrev pub fresh : WaitTable → List ℕ
fresh w = w.fresh

-- the set tells how the waits of the journal ended; of a bare one the end is named, and the journal tells none
abbrev pub TellsEnds : WaitTable → Journal → Type 0
TellsEnds w j =
    (serial : ℕ) (branch : Branch) (a : Asked) (ask : Ask)
    → asked_at w serial branch ≡ Some a → is_bare a.ask ≡ false → IsAsk (now (take (suc a.place) j)) ask a.ask
    → ends w serial branch ≡ wait_end j ask a.place

-- the asks of a run are the same
abbrev pub AsksKept : WaitTable → WaitTable → ℕ → Type 0
AsksKept w w' s = (b : Branch) → asked_at w' s b ≡ asked_at w s b

-- whose waits ended at the entry
abbrev pub EndsGrow : WaitTable → WaitTable → ℕ → Type 0
EndsGrow w w' s =
    (b : Branch) (a : Asked) → asked_at w s b ≡ Some a
    → is_some (ends w' s b) ≡ (is_some (ends w s b) || list_any (nat_eq a.owner) (fresh w'))
