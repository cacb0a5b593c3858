use Rattle.std.proofs.Common.{length, sym, ap, ◌∙◌}
use Rattle.ha_ready.specs.RestedFlags.{flags_from}
use Rattle.engine_parts.proofs.CutLemmas.{written}
use Rattle.engine_parts.proofs.rested.note_flags.Goals as goal

pub returns : goal.returns
returns c =
    let v = c.as_mut_slice.ensures.value in
    written c.args.flags.now.len c.note_rested.new.flags c.args.flags.now.items (c.args.flags.now.ok.0 ∙ ap length (sym v) ∙ sym c.note_rested.auto.flags)
    ∙ c.note_rested.ensures ∙ ap (flags_from c.args.source c.args.quiet 0) v
