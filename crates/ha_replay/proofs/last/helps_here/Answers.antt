use Rattle.std.proofs.Common.{[], ◌∷◌, ◌∙◌, ap, sym}
use Rattle.ha_config.specs.Helpers.{is_helper}
use Rattle.ha_journal.specs.declared.entry.Entry.{Entry}
use Rattle.ha_journal.specs.Journal.{helpers}
use Rattle.ha_replay.proofs.last.helps_here.Goals as goal

pub returns-in-Boot : goal.returns-in-Boot
returns-in-Boot c =
    c.is_helper.ensures ∙ (λ i. is_helper (c.as_slice.ensures i) c.args.entity.now) ∙ ap (λ (x : Entry). is_helper (helpers (x ∷ [])) c.args.entity.now) (sym c.in-Boot.is)
