use Rattle.std.proofs.Common.{sym, ◌∙◌}
use Rattle.conf_auto.specs.Automations.{automation}
use Rattle.conf_auto.specs.Names.{joined}
use Rattle.conf_auto.proofs.Lists.{one_more}
use Rattle.conf_auto.proofs.config.automations_from.Goals as goal

pub items-preserved : goal.items-preserved
items-preserved c =
    let old = c.items.invariant in
    let x = c.index-items-i.result in (
      joined old.0 (automation x),
      c.joined-found.ensures old.0 (automation x) old.1 c.automation.ensures,
      sym (one_more old.0 c.args.items.now c.items.i x c.items-test.true (sym c.index-items-i.is)) ∙ old.2,
    )
