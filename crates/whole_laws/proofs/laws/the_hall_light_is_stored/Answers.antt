use Rattle.std.proofs.Common.{ℕ, sym}
use Rattle.std.specs.Prelude.{filter_map, option_map}
use Rattle.ha_config.specs.StoreText.{in_name_order, store_of}
use Rattle.ha_config.specs.Words.{Text, or_else}
use Rattle.ha_journal.specs.Journal.{in_force, now, through}
use Rattle.ha_journal.specs.States.{switches_of}
use Rattle.ha_whole.specs.Lasts.{last_run, lasts_carried}
use Rattle.ha_whole.specs.Named.{named}
use Rattle.ha_laws.specs.WorkedHall as hall
use Rattle.ha_laws.proofs.HallLightTests.{it_is_lawful}
use Rattle.whole_laws.proofs.laws.the_hall_light_is_stored.Goals as goal

pub returns : goal.returns
returns c = λ i. store_of (switches_of hall.journal) (in_name_order (filter_map (λ p. option_map {T = ℕ} {U = Text × ℕ} (λ at. (p.1.name, at))
    (or_else (option_map (λ r. now (through hall.journal r.place)) (last_run hall.journal p.1.name (sym it_is_lawful.right.records_are i))) (named p.1.name (lasts_carried hall.journal))))
    (in_force hall.journal)))
