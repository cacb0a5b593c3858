-- Who is rested, by whether the journal is quiet.
use Rattle.std.proofs.Common.{◌≡◌, ℕ, true, false, refl}
use Rattle.ha_config.specs.declared.command.Cmd.{Cmd}
use Rattle.ha_journal.specs.declared.entry.Entry.TheVariants.{Line}
use Rattle.ha_journal.specs.Journal.{Journal, more}
use Rattle.ha_model.specs.Records.{Records}
use Rattle.ha_whole.specs.Segments.{segment}
use Rattle.ha_whole.specs.Whole.{AreEntries, is_quiet, is_rested, own}
use Rattle.ha_journal.proofs.MoreLemmas.{has-entry}
use Rattle.ha_laws.proofs.OneStep as one
use Rattle.whole_laws.proofs.CutLemmas.{is-cut, segment-on}

-- LAW: where the journal is quiet each source is rested
pub quiet-rested : (j : Journal) (rs : Records) (k : ℕ) → AreEntries j → is_quiet rs j ≡ true → is_rested rs k j ≡ true
quiet-rested j rs k h quiet = one.quiet-rested (own j rs) k (segment j) (has-entry (segment j) (is-cut j h).alone) quiet

-- LAW: behind a line that leaves the journal busy its source is not rested
pub line-busy : (before : Journal) (rs : Records) (k number : ℕ) (cmd : Cmd) → is_quiet rs (more before (Line k number cmd)) ≡ false → is_rested rs k (more before (Line k number cmd)) ≡ false
line-busy before rs k number cmd busy =
    let j = more before (Line k number cmd) in one.line-busy (own j rs) k number cmd (segment j) (segment before) (segment-on before (Line k number cmd) refl) busy
