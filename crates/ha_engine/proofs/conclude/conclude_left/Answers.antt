use Rattle.std.proofs.Common.{◌≡◌, sym, subst}
use Rattle.ha_journal.specs.declared.entry.Entry.{Entry}
use Rattle.ha_journal.specs.declared.entry.Entry.TheVariants.{Line}
use Rattle.ha_journal.specs.Journal.{Journal}
use Rattle.ha_model.specs.Records.{Records, call_end}
use Rattle.ha_model.specs.RecordSteps.{records_after}
use Rattle.ha_model.specs.Lawful.{Right}
use Rattle.engine_parts.specs.Kept.{GoingWith, Kept, nobody}
use Rattle.ha_engine.proofs.ConcludeLemmas.{line-whole, none-told, plain-right}
use Rattle.ha_engine.proofs.conclude.conclude_left.Goals as goal

pub returns : goal.returns
returns c rs h none =
    let k : Journal = c.args.journal.now in
    let x : Entry = Line h.source h.number h.cmd in
    let rs' : Records = records_after h.j rs x in
    let same : rs ≡ rs' = none-told k h.j rs h.source h.number h.cmd h.journal_is h.right h.plain h.fair none in
    let right : Right k rs' = subst (λ (i : Journal). Right i rs') (sym h.journal_is) (plain-right h.j rs h.source h.number h.cmd h.right h.fair) in
    let whole : GoingWith (call_end rs) nobody k rs c.args.parts.now = line-whole k h.j rs h.source h.number h.cmd c.args.parts.now h.journal_is h.right h.going in
    let going : GoingWith (call_end rs') nobody k rs' c.args.parts.now = subst (λ (l : Records). GoingWith (call_end l) nobody k l c.args.parts.now) same whole in
    let kept : Kept k rs' c.note_source.new.parts = c.note_source.ensures h.j x rs h.journal_is h.right h.known h.rested_is right going in
    (subst (λ (l : Records). Right k l) (sym same) right, subst (λ (l : Records). Kept k l c.note_source.new.parts) (sym same) kept)
