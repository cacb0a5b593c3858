use Rattle.std.proofs.Common.{ℕ, List, ◌++◌, length}
use Rattle.ha_model.specs.Records.{CallEnds, Records}
use Rattle.engine_parts.specs.Kept.{KeysBelow}
use Rattle.engine_parts.specs.Runs.{Waking}
use Rattle.ha_ready.specs.Agree.{AgreesBut, touched}
use Rattle.engine_parts.specs.Touched.{QueueKept, due_places}
use Rattle.engine_parts.proofs.wake.wake_delays.Given as goal

abbrev pub invariant-due : goal.invariant-due
invariant-due l = record {
  queue : QueueKept l.now l.initial.delays l.delays;
  early : (n : ℕ) → KeysBelow n l.initial.delays → KeysBelow n l.delays;
  agree : (told : CallEnds) (rs : Records) (left : List ℕ) → Waking told rs l.journal l.waits l.frames.items l.now
      → AgreesBut told (touched l.journal (due_places l.now l.initial.delays ++ left)) rs l.journal l.initial.ready.pairs.items → AgreesBut told (touched l.journal (due_places l.now l.delays ++ left)) rs l.journal l.ready.pairs.items;
}

abbrev pub decreases-due : goal.decreases-due
decreases-due l = length l.delays
