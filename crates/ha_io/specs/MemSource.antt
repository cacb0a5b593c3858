-- What contracts see of a source in memory.
use Rattle.std.specs.Prelude.{ℕ, List, drop}
use Rattle.ha_io.specs.Counts.{one_more}

pub record SourceState : Type 0 where
  pub name : List ℕ
  pub left : List ℕ  -- the bytes still to come
  pub fails : List ℕ  -- the numbers of its calls that fail, from 1
  pub calls : ℕ  -- the calls so far
  pub faults : ℕ  -- those that failed

abbrev pub new_source : List ℕ → List ℕ → List ℕ → SourceState
new_source name bytes fails = record { name = name; left = bytes; fails = fails; calls = 0; faults = 0 }

-- after a read that gave this many bytes
abbrev pub after_read : SourceState → ℕ → SourceState
after_read source count = record source { left = drop count source.left; calls = one_more source.calls }

-- after a read that failed
abbrev pub after_failed_read : SourceState → SourceState
after_failed_read source = record source { calls = one_more source.calls; faults = one_more source.faults }
