-- What contracts see of a keeper in memory.
use Rattle.std.specs.Prelude.{ℕ, List, Option, Some}
use Rattle.ha_io.specs.Counts.{one_more}

pub record KeeperState : Type 0 where
  pub kept : Option (List ℕ)  -- the text that it holds, if any
  pub fails : List ℕ  -- the numbers of its calls that fail, from 1
  pub calls : ℕ  -- the calls so far, of both kinds
  pub faults : ℕ  -- those that failed

abbrev pub new_keeper : Option (List ℕ) → List ℕ → KeeperState
new_keeper kept fails = record { kept = kept; fails = fails; calls = 0; faults = 0 }

-- after a load that gave the text
abbrev pub after_load : KeeperState → KeeperState
after_load keeper = record keeper { calls = one_more keeper.calls }

-- after a save of these bytes
abbrev pub after_save : KeeperState → List ℕ → KeeperState
after_save keeper bytes = record keeper { kept = Some bytes; calls = one_more keeper.calls }

-- after a call that failed
abbrev pub after_failed_call : KeeperState → KeeperState
after_failed_call keeper = record keeper { calls = one_more keeper.calls; faults = one_more keeper.faults }
