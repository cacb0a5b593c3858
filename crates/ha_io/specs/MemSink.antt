-- What contracts see of a sink in memory.
use Rattle.std.specs.Prelude.{◌==◌, ℕ, Bool, List, ◌++◌, Option, if◌then◌else◌}
use Rattle.std.specs.List.{list_any}
use Rattle.ha_io.specs.Counts.{one_more}

pub record SinkState : Type 0 where
  pub name : Option (List ℕ)  -- the name that a place made it for
  pub written : List ℕ  -- all bytes that it took
  pub fails : List ℕ  -- the numbers of its calls that fail, from 1
  pub takes_none : List ℕ  -- the numbers of its calls that take no byte, where they don't fail
  pub calls : ℕ  -- the calls so far
  pub faults : ℕ  -- those that failed
  pub zeros : ℕ  -- those that took no byte and didn't fail

abbrev pub new_sink : Option (List ℕ) → List ℕ → List ℕ → List ℕ → SinkState
new_sink name written fails takes_none =
    record { name = name; written = written; fails = fails; takes_none = takes_none; calls = 0; faults = 0; zeros = 0 }

-- whether the next call takes no byte, where it doesn't fail
abbrev pub takes_none_next : SinkState → Bool
takes_none_next sink = list_any (λ number. number == one_more sink.calls) sink.takes_none

-- how many bytes of so many the next call takes, where it doesn't fail
abbrev pub taken_count : SinkState → ℕ → ℕ
taken_count sink count = if takes_none_next sink then 0 else count

-- after a write that took the whole piece
abbrev pub after_full_write : SinkState → List ℕ → SinkState
after_full_write sink bytes = record sink { written = sink.written ++ bytes; calls = one_more sink.calls }

-- after a write that took no byte
abbrev pub after_zero_write : SinkState → SinkState
after_zero_write sink = record sink { calls = one_more sink.calls; zeros = one_more sink.zeros }

-- after a write that didn't fail
abbrev pub after_write : SinkState → List ℕ → SinkState
after_write sink bytes = if takes_none_next sink then after_zero_write sink else after_full_write sink bytes

-- after a write that failed
abbrev pub after_failed_write : SinkState → SinkState
after_failed_write sink = record sink { calls = one_more sink.calls; faults = one_more sink.faults }
