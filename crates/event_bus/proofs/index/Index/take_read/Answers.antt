use Rattle.std.proofs.Common.{◌∙◌, ap, refl}
use Rattle.std.specs.Prelude.{not, ◌&&◌}
use Rattle.std.specs.List.{list_any}
use Rattle.std.specs.Option.{option_copied}
use Rattle.ha_config.specs.Words.{same_entity}
use Rattle.event_bus.specs.Lists.{has_for}
use Rattle.event_bus.proofs.IndexLemmas.{each-subject, read-taken}
use Rattle.event_bus.proofs.index.Index.take_read.Goals as goal

pub returns-in-Some-clause-own : goal.returns-in-Some-clause-own
returns-in-Some-clause-own c =
    read-taken c.args.self.now (record c.args.self.now { entities = c.take_each.new.lists }) c.args.owner (option_copied c.args.read) c.in-Some.entities.now (ap option_copied c.in-Some.is) refl refl refl
    (λ e. c.take_each.ensures.own e ∙ (λ i. not (list_any (λ f. same_entity f e) (c.as_slice.ensures i)) && has_for c.args.self.now.entities e c.args.owner))

pub returns-in-Some-clause-others : goal.returns-in-Some-clause-others
returns-in-Some-clause-others c = each-subject _ (λ e n apart. c.take_each.ensures.others e n apart) (λ q n apart. refl) (λ n apart. refl) (λ n apart. refl)
