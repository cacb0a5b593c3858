use Rattle.ha_clock.proofs.LocalLemmas.{utc_second, utc_weekday}
use Rattle.ha_clock.proofs.laws.utc_shows.Goals as goal

pub returns-clause-second : goal.returns-clause-second
returns-clause-second c = utc_second c.args.at

pub returns-clause-weekday : goal.returns-clause-weekday
returns-clause-weekday c = utc_weekday c.args.at
