use Rattle.std.proofs.Common.{length}
use Rattle.ha_journal.specs.Journal.{units}
use Rattle.ha_model.specs.Records.{records_of}
use Rattle.ha_model.proofs.KnownLaws.{all-known, known-at}
use Rattle.ha_laws.proofs.laws.each_record_has_a_unit.Goals as goal

pub returns : goal.returns
returns c = λ j n. known-at (length (units j)) (records_of j) n (all-known j)
