use Rattle.ha_clock.proofs.RoundTrip.{moment_read}
use Rattle.ha_clock.proofs.laws.printed_moment_is_read.Goals as goal

pub returns : goal.returns
returns c = moment_read c.args.at c.requires
