use Rattle.std.proofs.Common.{◌≡◌, drop}
use Rattle.ha_journal.specs.Journal.{Journal}
use Rattle.trig_set.specs.Stands.{StandsFor, attached}
use Rattle.engine_entry.specs.Reloaded.{without_all}
use Rattle.engine_entry.proofs.reload.detach_gone.Given as goal

abbrev pub invariant-gone : goal.invariant-gone
invariant-gone l = record {
  owners : without_all (drop l.at l.gone) (attached l.triggers) ≡ without_all l.gone (attached l.initial.triggers);
  stands : (j : Journal) → StandsFor l.initial.triggers j → StandsFor l.triggers j;
}
