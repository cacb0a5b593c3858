use Rattle.std.proofs.Common.{◌∙◌}
use Rattle.std.specs.Prelude.{is_some}
use Rattle.ha_config.specs.Names.{automation_named}
use Rattle.ha_engine.proofs.PlainLemmas.{has-settled}
use Rattle.ha_engine.proofs.settle.is_named.Goals as goal

pub configuration-requires : goal.configuration-requires
configuration-requires c = (c.requires.f, c.requires.holds)

pub returns : goal.returns
returns c =
    c.is_automation.ensures ∙ (λ i. is_some (automation_named (c.as_slice.ensures i) c.args.name.now))
    ∙ has-settled c.args.journal.now c.args.book.now c.requires c.configuration.result.now c.args.name.now (c.configuration.ensures c.requires.f c.requires.holds)
