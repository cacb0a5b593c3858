-- When automations last triggered.
use Rattle.std.specs.Prelude.{ℕ, List, [], ◌∷◌, filter, filter_map, Option, option_map}
use Rattle.std.specs.Option.{option_map_or}
use Rattle.ha_model.specs.declared.record.Record.{Record}
use Rattle.ha_config.specs.Words.{Text, last_of, or_else}
use Rattle.ha_whole.specs.Named.{named}
use Rattle.ha_journal.specs.Entries.{boot_of}
use Rattle.ha_journal.specs.Journal.{Journal, in_force, now, through}
use Rattle.ha_model.specs.Records.{Records, has_name, records_of}

-- the moments that the segment's Boot carries, by name
abbrev pub lasts_carried : Journal → List (Text × ℕ)
lasts_carried [] = []
lasts_carried (e ∷ es) = option_map_or (λ b. b.carry.last) (boot_of e) []

-- the last record of the units of a name
abbrev pub last_run : Journal → Text → Records → Option Record
last_run j name rs = last_of (filter (has_name j name) rs)

-- Now after the entry of the last attempt of a name that was admitted, else what was carried for it
abbrev pub last_triggered : Journal → Text → Option ℕ
last_triggered j name = or_else (option_map (λ r. now (through j r.place)) (last_run j name (records_of j))) (named name (lasts_carried j))

-- each automation in force that has one, with its name
abbrev pub lasts : Journal → List (Text × ℕ)
lasts j = filter_map (λ p. option_map (λ at. (p.1.name, at)) (last_triggered j p.1.name)) (in_force j)
