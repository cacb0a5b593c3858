use Rattle.std.proofs.Common.{◌≡◌, ◌≤◌, ◌<◌, ◌++◌, ℕ, Bool, true, false, take, drop, length, get_or}
use Rattle.wait_set.specs.declared.asked.Asked.{Asked}
use Rattle.wait_set.specs.Asked.{noted, owners_ended}
use Rattle.wait_set.specs.Concern.{IsStill, has}
use Rattle.wait_set.specs.Timers.{AreKept}
use Rattle.wait_set.proofs.note.note_some.Given as goal

abbrev pub decreases-places : goal.decreases-places
decreases-places g l = length l.left.keys

abbrev pub invariant-places : goal.invariant-places
invariant-places g l = record {
  next : ℕ;
  ahead : (n : ℕ) → has l.left n ≡ true → next ≤ n;
  still : (n : ℕ) (d : Asked) → next ≤ n → n < length l.asks.items → has l.left n ≡ false → IsStill l.place (g.A.Answers.sight l.answers) l.fired (get_or l.asks.items n d);
  rest : take next l.asks.items ++ noted l.place (g.A.Answers.sight l.answers) l.fired (drop next l.asks.items) ≡ noted l.place (g.A.Answers.sight l.answers) l.fired l.initial.asks.items;
  fresh : l.fresh.items ++ owners_ended l.place (g.A.Answers.sight l.answers) l.fired (drop next l.asks.items) ≡ l.initial.fresh.items ++ owners_ended l.place (g.A.Answers.sight l.answers) l.fired l.initial.asks.items;
  kept : (ordered : Bool) → AreKept l.initial.asks.items l.initial.pending.timers l.initial.pending.readers l.initial.pending.runs ordered → AreKept l.asks.items l.pending.timers l.pending.readers l.pending.runs ordered;
}
