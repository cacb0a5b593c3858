-- What the next segment begins with, where nothing was changed yet.
use Rattle.std.specs.Prelude.{◌≡◌, ◌≤◌, ℕ, [], map, vec_len}
use Rattle.ha_journal.specs.Attempts.{passing}
use Rattle.ha_journal.specs.Force.{force}
use Rattle.ha_journal.specs.Journal.{Journal}
use Rattle.ha_whole.specs.Lasts.{lasts_carried}
use Rattle.ha_whole.specs.Segments.{carried_number, segment}
use Rattle.named_runs.specs.Opening.{IsOpening}
use Rattle.unit_book.specs.Book.{Holds}
use Rattle.engine_parts.specs.Kept.{Going, nobody}
use Rattle.engine_parts.specs.Records.{HasRoom}
use Rattle.ha_engine.specs.declared.restart.Next.{Next}
use Rattle.ha_engine.specs.Admits.{ArePrepared, from_end}
use Rattle.ha_engine.specs.Begun.{trues}
use Rattle.ha_engine.specs.Noted.{known_lasts}

pub record IsNextSegment (n : Journal) (spare : ℕ) (x : Next) : Type 0 where
  pub holds : Holds n (force (segment n)) x.book
  pub going : Going nobody (segment n) [] x.parts
  pub rested : x.parts.rested.items ≡ trues 16
  pub prepared : ArePrepared (segment n) (passing (segment n)) (from_end x.stack.items)
  pub room_runs : vec_len x.stack ≤ spare
  pub room : HasRoom (vec_len x.stack) x.parts
  pub opens : IsOpening x.opening.firsts.items x.opening.numbers x.opening
  pub firsts_are : x.opening.firsts.items ≡ x.book.firsts.items
  pub numbers_are : x.opening.numbers ≡ map (carried_number (segment n)) x.book.names
  pub lasts_are : x.lasts.items ≡ known_lasts [] x.book.names (lasts_carried (segment n))
