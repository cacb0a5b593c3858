use Rattle.std.proofs.Common.{sym, ◌∙◌}
use Rattle.conf_field.specs.Readings as readings
use Rattle.conf_trigger.specs.Triggers as triggers
use Rattle.conf_trigger.proofs.Lists.{one_more}
use Rattle.conf_trigger.proofs.triggers.triggers_from.Goals as goal

pub items-preserved : goal.items-preserved
items-preserved c =
    let old = c.items.invariant in
    let x = c.index-items-i.result in
    let item = triggers.trigger c.items.i x in (
      readings.keep old.0 item,
      c.keep-found.ensures old.0 item old.1 c.trigger.ensures,
      sym (one_more old.0 c.args.items.now c.items.i x c.items-test.true (sym c.index-items-i.is)) ∙ old.2,
    )
