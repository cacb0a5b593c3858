use Rattle.std.proofs.Common.{◌∙◌, ap, sym, []}
use Rattle.std.specs.Prelude.{Ok, option_map}
use Rattle.ha_sight.specs.Rules.{each_once}
use Rattle.tpl_reads.proofs.pieces.entities_read.Goals as goal

pub returns-in-Ok-true : goal.returns-in-Ok-true
returns-in-Ok-true c = sym (rw (c.in-Ok-true.is ∙ ap Ok c.in-Ok-true.field-0-test) at (c.add_template.ensures [] c.make-found.ensures))

pub returns-in-Ok-false : goal.returns-in-Ok-false
returns-in-Ok-false c = sym (ap (option_map each_once) (rw (c.in-Ok-false.is ∙ ap Ok c.in-Ok-false.field-0-test) at (c.add_template.ensures [] c.make-found.ensures)))
