use Rattle.std.proofs.Common.{◌∙◌, sym}
use Rattle.std.proofs.lemmas.Option.{slice_get-get_or}
use Rattle.ha_config.proofs.ListLemmas.{none-some}
use Rattle.named_runs.proofs.counts.first_of.Goals as goal

pub unreachable-requires : goal.unreachable-requires
unreachable-requires c = none-some _ (sym c.in-None.is ∙ c.slot_at.ensures ∙ slice_get-get_or c.args.firsts.now c.args.unit 0 c.requires)

pub returns : goal.returns
returns c = sym c.slot_at.ensures ∙ c.in-Some.is
