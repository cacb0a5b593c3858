use Rattle.std.proofs.Common.{◌≡◌, ◌-◌, None, ℕ, [], length}
use Rattle.std.specs.List.{list_any}
use Rattle.ha_model.specs.Lawful.{shuts}
use Rattle.ha_worker.specs.Came.{Came, IsAt}
use Rattle.ha_worker.proofs.puts.put_steps.Given as goal

abbrev pub invariant-steps : goal.invariant-steps
invariant-steps g l = record {
  free : l.bus.first ≡ None;
  came : (n : ℕ) → IsAt n l.id l.initial.bus → Came l.id n n [] l.initial.bus l.bus;
  shut : (k : ℕ) → list_any (shuts k) l.bus.journal ≡ list_any (shuts k) l.initial.bus.journal;
}

abbrev pub decreases-steps : goal.decreases-steps
decreases-steps g l = 4_194_304 - length l.bus.journal
