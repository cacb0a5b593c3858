-- What contracts see of a sink over the system.
use Rattle.std.specs.Prelude.{ℕ, length}
use Rattle.std.specs.Io.Buffered.{writer_buffer}
use Rattle.ha_io.specs.declared.file_sink.Outlet.{Outlet}

pub record SinkCounts : Type 0 where
  pub faults : ℕ  -- the writes that failed
  pub zeros : ℕ  -- those of a piece that isn't empty that took no byte
  pub kept : ℕ  -- the bytes that it took and has not handed on

abbrev pub no_counts : SinkCounts
no_counts = record { faults = 0; zeros = 0; kept = 0 }

-- a file's pieces are kept, those of a stream are not
abbrev pub kept_in : Outlet → ℕ
kept_in (Outlet.File file) = length (writer_buffer file)
kept_in _ = 0
