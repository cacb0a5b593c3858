use Rattle.std.proofs.Common.{refl}
use Rattle.event_bus.proofs.ListLemmas.{err-then, on-then}
use Rattle.event_bus.proofs.IndexLemmas.{each-subject}
use Rattle.event_bus.proofs.index.Index.put_entries.Goals as goal

pub returns-clause-own : goal.returns-clause-own
returns-clause-own c = on-then _ _ c.put.result (λ h. each-subject _ (λ e. refl) (λ q. refl) refl h) c.put.ensures.own

pub returns-clause-others : goal.returns-clause-others
returns-clause-others c = each-subject _ (λ e n apart. refl) (λ q n apart. refl) (λ n apart. refl) c.put.ensures.others

pub returns-clause-err : goal.returns-clause-err
returns-clause-err c = err-then _ _ c.put.result (λ same. each-subject _ (λ e n. refl) (λ q n. refl) (λ n. refl) same) c.put.ensures.err
