use Rattle.std.proofs.Common.{rules}
use Rattle.std.proofs.lemmas.Slice.{overwrites}
use Rattle.ha_value.proofs.id_text.put.Goals as goal

pub returns : goal.returns
returns c = search (rules, overwrites)
