use Rattle.std.proofs.Common.{◌≡◌, sym, ◌∙◌}
use Rattle.ha_journal.specs.declared.entry.Entry.{Entry}
use Rattle.ha_journal.specs.declared.entry.Entry.TheVariants.{Step}
use Rattle.ha_engine.proofs.step_conclude.tell_records.Goals as goal

pub tell_step-requires-clause-told : goal.tell_step-requires-clause-told
tell_step-requires-clause-told c =
    let h = c.requires.told in
    let e : ◌≡◌ {A = Entry} (Step h.worker h.serial h.branch h.out.item) (Step c.in-Step.worker c.in-Step.serial c.in-Step.branch c.in-Step.item)
    = sym (c.last_entry.ensures h.j (Step h.worker h.serial h.branch h.out.item) h.journal_is) ∙ c.in-Step.is in
    record { told = h; serial_is = cc; item_is = cc }
