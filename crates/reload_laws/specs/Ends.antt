-- Where runs end.
use Rattle.std.specs.Prelude.{ℕ, Option, None}
use Rattle.std.specs.Option.{option_map_or}
use Rattle.ha_model.specs.declared.record.EndCause.{EndCause}
use Rattle.ha_model.specs.Lawful.{record_of}
use Rattle.ha_model.specs.Records.{Records}

-- the place and the cause of the end of the run with a serial, if it has ended
abbrev pub end_of : Records → ℕ → Option (ℕ × EndCause)
end_of rs serial = option_map_or (λ r. r.end) (record_of rs serial) None
