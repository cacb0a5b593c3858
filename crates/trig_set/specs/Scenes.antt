-- What an entry is told with, and the journals of which that is true.
use Rattle.std.specs.Prelude.{◌≡◌, ℕ, true, false, nat_lt, List, [], ◌∷◌, Option, MatchOption, find, length, option_map}
use Rattle.std.specs.Option.{option_copied}
use Rattle.ha_value.specs.declared.value.EntityId.{EntityId}
use Rattle.ha_journal.specs.declared.entry.Entry.{Entry}
use Rattle.ha_sight.specs.declared.state.StateObject.{StateObject}
use Rattle.ha_config.specs.Words.{Text, Pairs, same_entity}
use Rattle.ha_journal.specs.Journal.{Journal, IsJournal, zone_of, now, more}
use Rattle.ha_journal.specs.States.{states}
use Rattle.ha_journal.specs.Helpers.{helper_events}
use Rattle.ha_journal.specs.Moves.{latest_number}
use Rattle.trig_set.specs.declared.scene.Shift.{Shift}
use Rattle.trig_set.specs.declared.scene.Shifts.{Shifts}
use Rattle.trig_set.specs.declared.scene.Scene.{Scene}
use Rattle.trig_set.specs.Table.{number_at}
use Rattle.trig_set.specs.Next.{reports}

-- the text and attributes of a state
abbrev pub face : Option StateObject → Option (Text × Pairs)
face s = option_map (λ o. (o.text, o.attributes)) s

abbrev pub shifts_in : Shifts → List Shift
shifts_in (Shifts.One b) = b.value ∷ []
shifts_in (Shifts.Several cs) = cs

abbrev pub shift_of : List Shift → EntityId → Option Shift
shift_of shifts e = find (λ c. same_entity c.entity e) shifts

-- the changes are those of the entry
abbrev pub AreShifts : List Shift → Journal → Entry → Type 0
AreShifts shifts j x = (e : EntityId) → MatchOption (shift_of shifts e) ((states (more j x) e ≡ states j e) × (reports e x ≡ false))
    (λ c. (face c.old ≡ face (states j e)) × (face c.new ≡ face (states (more j x) e)))

-- the scene shows what the entry is behind a journal; what it changes is asked of an owner that was attached before it alone
pub record Shows (s : Scene) (j : Journal) (since : ℕ) : Type 0 where
  pub at : s.place ≡ length j
  pub journal : IsJournal (more j s.entry.now)
  pub shifts : nat_lt since (length j) ≡ true → AreShifts s.shifts.now j s.entry.now
  pub events : s.events.now ≡ helper_events j s.entry.now
  pub zone : MatchOption (option_copied s.zone) ⊥ (λ z. z ≡ zone_of (more j s.entry.now))
  pub from : s.from ≡ now j
  pub to : s.to ≡ now (more j s.entry.now)
  pub numbers : (e : EntityId) (name : Option Text) → number_at s.numbers.now e name ≡ latest_number e name j
