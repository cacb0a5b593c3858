use Rattle.std.proofs.Common.{drop, refl}
use Rattle.ha_laws.specs.WorkedHall as hall
use Rattle.ha_laws.proofs.HallLightTests.{it_is_lawful}
use Rattle.whole_laws.proofs.OneLawful.{no-restart, one-lawful}
use Rattle.whole_laws.proofs.laws.one_segment_is_lawful.Goals as goal

pub returns-clause-whole : goal.returns-clause-whole
returns-clause-whole c = one-lawful

pub returns-clause-hall_light : goal.returns-clause-hall_light
returns-clause-hall_light c =
    let behind = drop 1 hall.journal in
    one-lawful _ behind hall.records (record { serials = refl; numbers = refl; lines = refl; shut = refl; last = refl; ordered = refl }) (no-restart behind refl) it_is_lawful
