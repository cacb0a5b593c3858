use Rattle.std.proofs.Common.{◌+◌, List, [], ◌∷◌, ◌++◌, length, sym, ap, subst, ◌∙◌, arith, append_assoc}
use Rattle.ha_journal.specs.declared.firing.Firing.{Firing}
use Rattle.ha_engine.specs.declared.admit.Prepared.{Prepared}
use Rattle.ha_engine.specs.Admits.{ArePassing}
use Rattle.engine_parts.specs.Owners.{attempts_by}
use Rattle.ha_config.proofs.ListLemmas.{append-nil}
use Rattle.ha_engine.proofs.PrepareLemmas.{attempts-weigh}
use Rattle.ha_engine.proofs.prepare.prepare_fired.Goals as goal

pub firings-init : goal.firings-init
firings-init g c = record {
  rest = [];
  split = sym (append-nil c.args.fired);
  order = c.count_attempts-order.ensures ∙ ap (λ (l : List Firing). length (attempts_by l)) c.as_slice.ensures;
  done = λ k seen known. subst (λ (l : List Prepared). ArePassing k c.count_attempts-order.result [] l) (sym c.new-stack.ensures.items) tt;
}

pub prepare_firing-requires-clause-left : goal.prepare_firing-requires-clause-left
prepare_firing-requires-clause-left g c =
    omega (arith, c.firings.invariant.order, ap (λ (l : List Firing). length (attempts_by l)) c.in-Some.ensures, attempts-weigh c.pop.new.self c.in-Some.firing)

pub firings-preserved : goal.firings-preserved
firings-preserved g c =
    let f : Firing = c.in-Some.firing in
    let rest : List Firing = c.firings.invariant.rest in
    record {
      rest = f ∷ rest;
      split = c.firings.invariant.split ∙ ap (λ (l : List Firing). l ++ rest) c.in-Some.ensures ∙ append_assoc c.pop.new.self (f ∷ []) rest;
      order = omega (arith, c.in_ok-order.ensures.order, c.firings.invariant.order, ap (λ (l : List Firing). length (attempts_by l)) c.in-Some.ensures, attempts-weigh c.pop.new.self f);
      done = λ k seen known. c.in_ok-order.ensures.done k rest seen known (c.firings.invariant.done k seen known);
    }
