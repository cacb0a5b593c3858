use Rattle.std.proofs.Common.{◌≡◌, drop}
use Rattle.std.specs.List.{enumerate_from}
use Rattle.ha_config.specs.Names.{automation_named, named_among}
use Rattle.engine_entry.proofs.names.place_named.Given as goal

abbrev pub invariant-rules : goal.invariant-rules
invariant-rules l = automation_named l.all l.name ≡ named_among (enumerate_from l.at (drop l.at l.all)) l.name
