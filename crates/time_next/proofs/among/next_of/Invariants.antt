use Rattle.std.proofs.Common.{◌<◌, ℕ, IfSome, MatchOption, slice_get}
use Rattle.time_next.specs.Next.{Sleeps}
use Rattle.time_next.proofs.among.next_of.Given as goal

abbrev pub invariant-loop-place : goal.invariant-loop-place
invariant-loop-place l = record {
  asleep : (k : ℕ) → k < l.place → MatchOption (slice_get l.triggers k) (Unit {0}) (λ t. Sleeps l.zone l.after l.next t.rule);
  later : IfSome l.next (λ d. l.after < d);
}
