-- What an opening of a journal is told with.
use Rattle.std.specs.Prelude.{◌≡◌, [], ◌∷◌}
use Rattle.ha_journal.specs.declared.entry.Entry.{Entry}
use Rattle.ha_config.specs.Words.{Text}
use Rattle.ha_journal.specs.Entries.{IsBoot}
use Rattle.ha_journal.specs.Journal.{zone_of}
use Rattle.ha_sight.specs.Sight.{Sight}
use Rattle.ha_journal.specs.Moves.{sight}

-- the entry is a Boot in this zone, after which this is seen
pub record Opens (x : Entry) (named : Text) (shown : Sight) : Type 0 where
  pub boot : IsBoot x
  pub zone : zone_of (x ∷ []) ≡ named
  pub sees : shown ≡ sight (x ∷ []) 1
