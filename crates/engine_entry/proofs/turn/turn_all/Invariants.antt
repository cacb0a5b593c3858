use Rattle.std.proofs.Common.{◌≡◌, ℕ, ◌≤◌, drop}
use Rattle.trig_set.specs.Stands.{attached}
use Rattle.engine_parts.specs.Owners.{AreBelow}
use Rattle.engine_parts.specs.Runs.{first_wait}
use Rattle.engine_entry.specs.Between.{Between, TurnsAll}
use Rattle.engine_entry.specs.Turned.{is_target}
use Rattle.engine_entry.proofs.turn.turn_all.Given as goal

abbrev pub invariant-targets : goal.invariant-targets
invariant-targets l = record {
  turned : (h : TurnsAll l.config l.targets l.place l.initial.parts l.initial.before) → Between h.j h.x (is_target (drop l.at l.targets)) l.parts l.before;
  rest : l.parts ≡ record l.initial.parts { states = l.parts.states; switches = l.parts.switches; triggers = l.parts.triggers; changed = l.parts.changed };
  below : (n : ℕ) → first_wait ≤ n → AreBelow n (attached l.initial.parts.triggers) → AreBelow n (attached l.parts.triggers);
}
