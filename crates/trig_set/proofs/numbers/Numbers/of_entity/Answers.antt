use Rattle.std.proofs.Common.{◌∙◌, ap, sym}
use Rattle.std.specs.Prelude.{None}
use Rattle.std.specs.BTreeMap.{get_by_text}
use Rattle.ha_config.proofs.IdLemmas.{here}
use Rattle.trig_set.proofs.numbers.Numbers.of_entity.Goals as goal

pub returns : goal.returns
returns c =
    let m = c.args.self.now.entities in
    c.get.ensures.value ∙ ap (get_by_text m) c.text.ensures.value ∙ sym (here None (get_by_text m) c.args.entity.now c.text.ensures.domain)
