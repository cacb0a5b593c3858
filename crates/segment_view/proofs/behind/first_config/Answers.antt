use Rattle.std.proofs.Common.{◌∙◌, ap, sym}
use Rattle.std.specs.Option.{option_copied}
use Rattle.ha_config.proofs.ListLemmas.{none-some}
use Rattle.segment_view.proofs.ViewLemmas.{boot-config}
use Rattle.segment_view.proofs.behind.first_config.Goals as goal

pub unreachable-requires : goal.unreachable-requires
unreachable-requires c =
    let there = boot-config c.args.journal.now c.requires in
    none-some there.0 (sym (ap option_copied c.in-None.is) ∙ c.config_at.ensures ∙ there.1)

pub returns : goal.returns
returns c = sym c.config_at.ensures ∙ ap option_copied c.in-Some.is
