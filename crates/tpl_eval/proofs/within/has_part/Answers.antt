use Rattle.std.proofs.lemmas.Str.Pattern.{contains_text}
use Rattle.tpl_eval.proofs.PartLemmas.{part-decided}
use Rattle.tpl_eval.proofs.within.has_part.Goals as goal

pub returns : goal.returns
returns c = part-decided c.contains.result c.args.part.now c.args.text.now (contains_text c.contains.result c.args.part.now c.args.text.now c.contains.ensures.cases)
