use Rattle.std.proofs.Common.{◌≡◌, ◌≤◌, ℕ, length}
use Rattle.script_calls.specs.Waiting.{AreListed, caller_in, unless_by}
use Rattle.script_calls.proofs.calls.drop_all.Given as goal

abbrev pub invariant-calls : goal.invariant-calls
invariant-calls l = record {
  kept : AreListed l.callers l.pairs;
  rest : (c : ℕ) → unless_by l.caller (caller_in l.callers c) ≡ unless_by l.caller (caller_in l.initial.callers c);
  most : length l.callers.entries ≤ length l.initial.callers.entries;
}

abbrev pub decreases-calls : goal.decreases-calls
decreases-calls l = length l.pairs.keys
