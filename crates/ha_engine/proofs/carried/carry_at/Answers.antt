use Rattle.std.proofs.Common.{◌∙◌, sym, subst, ap}
use Rattle.std.specs.Option.{option_copied}
use Rattle.ha_config.proofs.ListLemmas.{none-some, some-same}
use Rattle.ha_journal.specs.declared.entry.Entry.{Entry}
use Rattle.ha_journal.specs.Entries.{BeginsSegment}
use Rattle.segment_carry.specs.Sources.{carry_in}
use Rattle.ha_engine.proofs.carried.carry_at.Goals as goal

pub carry_of-requires : goal.carry_of-requires
carry_of-requires c =
    let there = sym c.entry_at.ensures ∙ ap option_copied c.in-Some.is in
    subst (λ (e : Entry). BeginsSegment e) (some-same c.requires.0 c.in-Some.opening.now (sym c.requires.1 ∙ there)) c.requires.2

pub unreachable-requires : goal.unreachable-requires
unreachable-requires c = none-some c.requires.0 (sym (ap option_copied c.in-None.is) ∙ c.entry_at.ensures ∙ c.requires.1)

pub returns : goal.returns
returns c e there =
    let here = sym c.entry_at.ensures ∙ ap option_copied c.in-Some.is in
    c.carry_of.ensures ∙ ap carry_in (sym (some-same e c.in-Some.opening.now (sym there ∙ here)))
