use Rattle.std.proofs.Common.{sym, ◌∙◌}
use Rattle.flow_printed.proofs.PlainReports.{plain_print}
use Rattle.flow_printed.proofs.plain.read_plain.Goals as goal

pub returns-in-Ok : goal.returns-in-Ok
returns-in-Ok c = plain_print c.args.text.now _ _ c.in-Ok.made c.in-Some.ensures (sym c.all_stand_as_is.ensures ∙ c.if-not-all_stand_as_is.false) (sym c.all_stand_as_is-2.ensures ∙ c.if-not-all_stand_as_is-2.false) c.in-Ok.ensures.utf8 c.in-Ok.ensures.exact
