use Rattle.std.proofs.Common.{IsUtf8, subst, sym}
use Rattle.std.proofs.lemmas.Str.{IsUtf8-append}
use Rattle.ha_value.proofs.held.push_here.Goals as goal

pub returns-clause-text : goal.returns-clause-text
returns-clause-text c front more = (c.requires, subst IsUtf8 (sym c.put.ensures) (IsUtf8-append _ c.args.more.now front more))
