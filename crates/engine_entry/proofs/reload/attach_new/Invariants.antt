use Rattle.std.proofs.Common.{◌≡◌, ◌≤◌, drop, length}
use Rattle.std.specs.Prelude.{zip}
use Rattle.ha_journal.specs.Journal.{Journal}
use Rattle.trig_set.specs.Stands.{StandsFor, attached}
use Rattle.engine_entry.specs.Reloaded.{AreFresh, with_new}
use Rattle.engine_entry.proofs.reload.attach_new.Given as goal

abbrev pub invariant-rules : goal.invariant-rules
invariant-rules l = record {
  owners : with_new l.switches l.free l.place (zip (drop l.at l.numbers) (drop l.at l.rules)) (attached l.triggers) ≡ with_new l.switches l.free l.place (zip l.numbers l.rules) (attached l.initial.triggers);
  stands : (j : Journal) → StandsFor l.initial.triggers j → length j ≤ l.place → StandsFor l.triggers j;
  fresh : AreFresh l.free (attached l.triggers) (drop l.at l.numbers);
}
