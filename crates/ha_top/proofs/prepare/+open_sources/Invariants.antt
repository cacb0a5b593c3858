use Rattle.std.proofs.Common.{length}
use Rattle.ha_top.proofs.prepare.+open_sources.Given as goal

abbrev pub decreases-open_sources : goal.decreases-open_sources
decreases-open_sources g l = length l.names.now
