use Rattle.std.proofs.Common.{◌∙◌, ap, sym}
use Rattle.ha_value.specs.declared.value.Value.TheVariants.{Pairs}
use Rattle.tpl_eval.proofs.SizeLemmas.{pairs-left}
use Rattle.tpl_eval.proofs.sizes.+size.Goals as goal

pub take_size-returns-in-Pairs : goal.take_size-returns-in-Pairs
take_size-returns-in-Pairs t c =
    let is = c.in-Pairs.is ∙ ap Pairs (sym c.as_slice-in-Pairs.ensures) in
    c.take_pairs.ensures
    ∙ pairs-left c.args.value.now c.as_slice-in-Pairs.result.now c.args.left c.in-Some.left is (sym c.take_one.ensures ∙ c.in-Some.is)
