use Rattle.std.proofs.Common.{refl}
use Rattle.event_bus.proofs.ListLemmas.{on-then}
use Rattle.event_bus.proofs.IndexLemmas.{each-subject}
use Rattle.event_bus.proofs.index.Index.put_kinds.Goals as goal

pub returns-clause-own : goal.returns-clause-own
returns-clause-own c = on-then _ _ c.put_names.result (λ h. each-subject _ (λ e. refl) (λ q. h q) refl refl) c.put_names.ensures.own

pub returns-clause-others : goal.returns-clause-others
returns-clause-others c = each-subject _ (λ e n apart. refl) (λ q n apart. c.put_names.ensures.others q n apart) (λ n apart. refl) (λ n apart. refl)

pub returns-clause-part : goal.returns-clause-part
returns-clause-part c = each-subject _ (λ e h. h) (λ q. c.put_names.ensures.part q) (λ h. h) (λ h. h)

pub returns-clause-kept : goal.returns-clause-kept
returns-clause-kept c = each-subject _ (λ e h. h) (λ q. c.put_names.ensures.kept q) (λ h. h) (λ h. h)
