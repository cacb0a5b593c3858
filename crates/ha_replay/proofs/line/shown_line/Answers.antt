use Rattle.std.proofs.Common.{◌∙◌}
use Rattle.std.proofs.lemmas.Result.{on_ok_weaker}
use Rattle.ha_journal.specs.EntryText.{trace_line}
use Rattle.ha_replay.proofs.line.shown_line.Goals as goal

pub returns : goal.returns
returns g c = on_ok_weaker c.trace_line.result (λ e. e ∙ (λ i. trace_line (c.units.ensures i) c.args.entry.now)) c.trace_line.ensures
