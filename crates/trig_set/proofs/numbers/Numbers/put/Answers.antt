use Rattle.std.proofs.Common.{◌∙◌, ap, refl, sym}
use Rattle.std.specs.Prelude.{None, if◌then◌else◌}
use Rattle.ha_past.specs.Looks.{or_else}
use Rattle.ha_config.specs.Words.{same, same_entity}
use Rattle.ha_config.proofs.IdLemmas.{turns}
use Rattle.trig_set.specs.Table.{number_given, numbers_in}
use Rattle.trig_set.proofs.OnLemmas.{on-then}
use Rattle.trig_set.proofs.TableLemmas.{number-here}
use Rattle.trig_set.proofs.numbers.Numbers.put.Goals as goal

pub returns : goal.returns
returns c =
    on-then _ _ c.put_in.result
    (λ h e name.
    let made = number_given c.args.own c.args.attributes.now name in
    let m = c.args.self.now.entities in
    let n = c.put_in.new.entities in
    number-here n e name
    ∙ turns None (λ q. numbers_in m q name) (λ q. numbers_in n q name) c.args.entity.now c.text.ensures.domain (λ b x. or_else (if b then made else None) x) refl
    (λ q. h q name ∙ ap (λ t. or_else (if same t q then made else None) (numbers_in m q name)) c.text.ensures.value) e
    ∙ ap (or_else (if same_entity c.args.entity.now e then made else None)) (sym (number-here m e name)))
    c.put_in.ensures
