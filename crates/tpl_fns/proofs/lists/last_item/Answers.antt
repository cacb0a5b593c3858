use Rattle.std.proofs.Common.{◌∙◌}
use Rattle.tpl_fns.proofs.ListLemmas.{last_is}
use Rattle.tpl_fns.proofs.lists.last_item.Goals as goal

pub returns : goal.returns
returns c = c.last.ensures.value ∙ last_is c.args.items.now
