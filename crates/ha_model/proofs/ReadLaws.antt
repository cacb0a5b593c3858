-- Journals whose Reloads are what their texts are read as.
use Rattle.std.specs.Prelude.{[], Option}
use Rattle.ha_config.specs.declared.config.Config.{Config}
use Rattle.ha_config.specs.Words.{Text}
use Rattle.ha_journal.specs.declared.entry.Entry.{Entry}
use Rattle.ha_journal.specs.Commands.{AreRead, IsReadEntry}
use Rattle.ha_journal.specs.Journal.{Journal, more}
use Rattle.ha_model.proofs.AppendLemmas.{each-snoc}

-- LAW: so it is with one more entry
pub read-more : (read : Text → Option Config) (j : Journal) (x : Entry) → AreRead read j → IsReadEntry read x → AreRead read (more j x)
read-more read j x all one = each-snoc (λ before y. IsReadEntry read y) [] j x all one
