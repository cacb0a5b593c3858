use Rattle.std.proofs.Common.{◌≡◌, ◌∙◌, [], ap, subst, sym}
use Rattle.std.specs.Prelude.{Some}
use Rattle.std.specs.Option.{option_map_or}
use Rattle.ha_config.specs.declared.config.Automation.{Automation}
use Rattle.ha_config.specs.Words.{Text}
use Rattle.unit_book.specs.Book.{Origin, unit_at}
use Rattle.unit_book.proofs.StepLemmas.{name-more, names-done, unit-there}
use Rattle.unit_book.proofs.grown.names_at.Goals as goal

pub name_at-requires : goal.name_at-requires
name_at-requires c =
    subst (λ (o : Origin). (u : Automation) × (unit_at c.args.journal.now o ≡ Some u)) (sym c.origin_at.ensures)
    (unit-there c.args.journal.now c.args.origins.now c.requires.0 c.origins.at (0, 0) c.requires.1 c.origins-test.true)

pub origins-preserved : goal.origins-preserved
origins-preserved c us h =
    name-more c.args.journal.now c.args.origins.now us c.origins.at (0, 0) _ _ _ h c.origins-test.true (c.origins.invariant us h)
    (c.in_ok-name.ensures ∙ ap (λ (o : Origin). option_map_or {T = Automation} {U = Text} (λ (u : Automation). u.name) (unit_at c.args.journal.now o) []) c.origin_at.ensures) c.in_ok-push.ensures.ok

pub returns : goal.returns
returns c us h = names-done c.args.journal.now c.args.origins.now us c.origins.at _ h c.origins-test.false (c.origins.invariant us h)
