use Rattle.std.proofs.Common.{◌∙◌, ap, sym, ◌++◌}
use Rattle.std.specs.Prelude.{Err, Some, option_to_list}
use Rattle.ha_value.specs.Ids.{read_entity}
use Rattle.ha_sight.specs.Rules.{each_once}
use Rattle.tpl_reads.proofs.FindLemmas.{along-none}
use Rattle.tpl_reads.proofs.found.add_text.Goals as goal

pub returns-in-Ok-add : goal.returns-in-Ok-add
returns-in-Ok-add c = λ start h.
    let e = ap read_entity (sym c.bytes.ensures.value) ∙ rw c.in-Ok.is at c.read.ensures.ok in
    let f = rw c.in-Ok-add.is at c.add.ensures in
    ap Some (ap (λ o. each_once (start ++ option_to_list o)) e ∙ sym (f start h))

pub returns-in-Err-Shape : goal.returns-in-Err-Shape
returns-in-Err-Shape c =
    along-none c.args.found.now (Some (option_to_list (read_entity c.args.text.now)))
    (ap (λ o. Some (option_to_list o)) (ap read_entity (sym c.bytes.ensures.value) ∙ c.read.ensures.shape.0 (c.in-Err-Shape.is ∙ ap Err c.in-Err-Shape.field-0-is)))
