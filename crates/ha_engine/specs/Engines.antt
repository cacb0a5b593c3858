-- The fields of a machine.
use Rattle.std.specs.Prelude.{◌≡◌, true, false, count_by, Option, Some, None}
use Rattle.ha_journal.specs.Entries.{is_reload}
use Rattle.ha_journal.specs.Journal.{Journal, automations}
use Rattle.ha_journal.specs.States.{switches_of}
use Rattle.ha_model.specs.Records.{last_is}
use Rattle.ha_whole.specs.Lasts.{lasts}
use Rattle.ha_whole.specs.Named.{in_name_order}
use Rattle.ha_whole.specs.Segments.{segment}
use Rattle.ha_whole.specs.Whole.{before_put}
use Rattle.segment_carry.specs.ByName.{rule_order}
use Rattle.segment_runs.specs.Segment.{all_of}
use Rattle.ha_engine.specs.Core.{Core}
use Rattle.ha_engine.specs.Noted.{AreNoted}
use Rattle.ha_engine.specs.Told.{IsFollowed, IsTold}
use Rattle.ha_engine.specs.declared.kept.Kept.{Kept}
use Rattle.ha_engine.specs.declared.engine.Machine.TheInside.{Inside}

abbrev pub core_of : Inside → Core
core_of e = record { entries = e.journal.items; runs = all_of e.runs.closed e.runs.list; is_spent = e.spent }

-- behind a Reload, what the store kept before it is held
abbrev pub IsStored : Journal → Option Kept → Type 0
IsStored j None = last_is is_reload j ≡ false
IsStored j (Some k) = (last_is is_reload j ≡ true)
    × (k.switches ≡ in_name_order (switches_of (segment (before_put j)))) × (k.moments ≡ in_name_order (lasts (segment (before_put j))))

-- its journal and records are right, and where memory never ran out in a put, all is kept
pub record IsKept (e : Inside) : Type 0 where
  pub told : IsTold e.journal.items e.bounds e.book e.runs
  pub reloads_are : e.reloads ≡ count_by is_reload e.journal.items
  pub followed : e.spent ≡ false → IsFollowed e.journal.items e.book e.runs e.parts e.lasts.items e.reset
  pub noted : e.spent ≡ false → AreNoted e.journal.items e.lasts.items e.moved
  pub stored : e.spent ≡ false → IsStored e.journal.items e.kept
  pub ordered : e.spent ≡ false → e.order ≡ rule_order (automations e.journal.items)
