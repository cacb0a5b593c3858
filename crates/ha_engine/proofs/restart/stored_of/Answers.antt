use Rattle.std.proofs.Common.{sym, ◌∙◌}
use Rattle.ha_engine.proofs.restart.stored_of.Goals as goal

pub unreachable-requires : goal.unreachable-requires
unreachable-requires c = c.in_default.not-Again c.requires.0 c.requires.1 c.requires.2 c.requires.3 c.requires.4

pub returns : goal.returns
returns c number start stored carry is = (let e = sym c.in-Again.is ∙ is in cc)
