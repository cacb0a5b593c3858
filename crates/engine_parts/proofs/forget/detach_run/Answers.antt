use Rattle.std.proofs.Common.{ℕ, zero, suc, List, [], drop, sym, ap, ◌∙◌}
use Rattle.std.specs.Prelude.{slice_get}
use Rattle.trig_set.specs.Stands.{attached}
use Rattle.wait_set.specs.Asked.{WaitTable, owners_of, without_run}
use Rattle.engine_parts.specs.Without.{without_owners}
use Rattle.engine_parts.proofs.forget.detach_run.Goals as goal

pub asks-preserved : goal.asks-preserved
asks-preserved c =
    let serial : ℕ = c.args.serial in
    let first = c.in-Some.ensures.first in
    let behind : List ℕ = owners_of serial (drop c.in-Some.found.1 c.args.waits.now.asks) in
    record {
      rest =
          ap (without_owners behind) c.detach.ensures.rest
          ∙ sym (ap (λ l. without_owners l (attached c.asks.triggers)) first) ∙ c.asks.invariant.rest;
      stands = λ j h. c.detach.ensures.stands j (c.asks.invariant.stands j h);
      owned = λ j apart h.
          (let now = c.asks.invariant.owned j apart h in
          let known = now.0 zero c.in-Some.found.0 (λ k. slice_get (first k) zero) in
          let rest : WaitTable = record { asks = without_run serial c.args.waits.now.asks; fresh = c.args.waits.now.fresh } in
          (λ i o e. now.0 (suc i) o ((λ k. slice_get (first k) (suc i)) ∙ e), c.detach.ensures.owned j [] rest known.0 known.1 now.1));
    }
