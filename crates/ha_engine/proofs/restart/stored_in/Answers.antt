use Rattle.std.proofs.Common.{length, ap, arith}
use Rattle.ha_journal.specs.declared.entry.Entry.TheVariants.{Again}
use Rattle.ha_journal.proofs.MoreLemmas.{length-more}
use Rattle.ha_engine.proofs.restart.stored_in.Goals as goal

pub last_of-requires : goal.last_of-requires
last_of-requires c =
    let h = c.requires in
    omega (arith, ap length h.5, length-more h.0 (Again h.1 h.2 h.3 h.4))

pub stored_of-requires : goal.stored_of-requires
stored_of-requires c =
    let h = c.requires in
    (h.1, h.2, h.3, h.4, c.last_of.ensures h.0 (Again h.1 h.2 h.3 h.4) h.5)

pub returns : goal.returns
returns c k number start stored carry is = c.stored_of.ensures number start stored carry (c.last_of.ensures k (Again number start stored carry) is)
