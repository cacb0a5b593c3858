use Rattle.std.proofs.Common.{refl}
use Rattle.event_bus.proofs.IndexLemmas.{each-subject}
use Rattle.event_bus.proofs.index.Index.take_kinds.Goals as goal

pub returns-clause-own : goal.returns-clause-own
returns-clause-own c = each-subject _ (λ e. refl) (λ q. c.take_names.ensures.own q) refl refl

pub returns-clause-others : goal.returns-clause-others
returns-clause-others c = each-subject _ (λ e n apart. refl) (λ q n apart. c.take_names.ensures.others q n apart) (λ n apart. refl) (λ n apart. refl)
