-- What stands for a whole journal goes on to stand for it with an entry more that changes nothing of what is in force.
use Rattle.std.specs.Prelude.{◌≡◌, Bool, false, ℕ, List, Option, count_by}
use Rattle.ha_journal.specs.Entries.{is_reload}
use Rattle.ha_journal.specs.Journal.{Journal, automations}
use Rattle.ha_model.specs.Records.{last_is}
use Rattle.named_runs.specs.Named.{NamedTable}
use Rattle.unit_book.specs.declared.book.UnitBook.{UnitBook}
use Rattle.engine_parts.specs.declared.parts.Parts.{Parts}
use Rattle.ha_engine.specs.declared.bounds.Bounds.{Bounds}
use Rattle.ha_engine.specs.Noted.{AreNoted}
use Rattle.ha_engine.specs.Told.{IsFollowed, IsTold}

pub record GoesOn (j k : Journal) (b : Bounds) (u : UnitBook) (t : NamedTable) (p : Parts) (lasts : List (Option ℕ)) (reset moved : Bool) : Type 0 where
  pub told : IsTold k b u t
  pub followed : IsFollowed k u t p lasts reset
  pub noted : AreNoted k lasts moved
  pub plain : last_is is_reload k ≡ false
  pub reloads : count_by is_reload k ≡ count_by is_reload j
  pub same : automations j ≡ automations k
