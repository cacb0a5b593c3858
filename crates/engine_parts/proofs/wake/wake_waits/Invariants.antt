use Rattle.std.proofs.Common.{ℕ, List, ◌++◌, drop}
use Rattle.ha_model.specs.Records.{CallEnds, Records}
use Rattle.engine_parts.specs.Runs.{Waking}
use Rattle.ha_ready.specs.Agree.{AgreesBut, touched}
use Rattle.engine_parts.specs.Touched.{wait_places}
use Rattle.engine_parts.proofs.wake.wake_waits.Given as goal

abbrev pub invariant-owners : goal.invariant-owners
invariant-owners l = (told : CallEnds) (rs : Records) (left : List ℕ) → Waking told rs l.journal l.waits l.frames.items l.now
    → AgreesBut told (touched l.journal (wait_places l.owners ++ left)) rs l.journal l.initial.ready.pairs.items → AgreesBut told (touched l.journal (wait_places (drop l.owner-index l.owners) ++ left)) rs l.journal l.ready.pairs.items
