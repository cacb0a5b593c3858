use Rattle.std.proofs.Common.{◌∙◌, ap, refl, sym}
use Rattle.std.specs.Prelude.{◌||◌}
use Rattle.std.specs.List.{list_any}
use Rattle.std.specs.Option.{option_copied}
use Rattle.ha_config.specs.Words.{same_entity}
use Rattle.event_bus.specs.Lists.{has_for}
use Rattle.event_bus.proofs.ListLemmas.{on-then}
use Rattle.event_bus.proofs.IndexLemmas.{each-subject, read-part, read-put}
use Rattle.event_bus.proofs.index.Index.put_read.Goals as goal

pub returns-in-Some-clause-own : goal.returns-in-Some-clause-own
returns-in-Some-clause-own c =
    on-then _ _ c.put_each.result
    (λ own. read-put c.args.self.now (record c.args.self.now { entities = c.put_each.new.lists }) c.args.owner (option_copied c.args.read) c.in-Some.entities.now (ap option_copied c.in-Some.is) refl refl refl
    (λ e. own e ∙ (λ i. list_any (λ f. same_entity f e) (c.as_slice.ensures i) || has_for c.args.self.now.entities e c.args.owner)))
    c.put_each.ensures.own

pub returns-in-Some-clause-part : goal.returns-in-Some-clause-part
returns-in-Some-clause-part c =
    read-part c.args.self.now (record c.args.self.now { entities = c.put_each.new.lists }) c.args.owner (option_copied c.args.read) c.in-Some.entities.now (ap option_copied c.in-Some.is) refl refl refl
    (λ e h. (λ i. list_any (λ f. same_entity f e) (sym c.as_slice.ensures i) || has_for c.args.self.now.entities e c.args.owner) ∙ c.put_each.ensures.part e h)

pub returns-in-Some-clause-kept : goal.returns-in-Some-clause-kept
returns-in-Some-clause-kept c = each-subject _ (λ e. c.put_each.ensures.kept e) (λ q h. h) (λ h. h) (λ h. h)

pub returns-in-Some-clause-others : goal.returns-in-Some-clause-others
returns-in-Some-clause-others c = each-subject _ (λ e n apart. c.put_each.ensures.others e n apart) (λ q n apart. refl) (λ n apart. refl) (λ n apart. refl)
