-- Which owners an entry was noted with.
use Rattle.std.specs.Prelude.{◌≡◌, ℕ, Bool, true, ◌||◌, nat_le, nat_lt, List}
use Rattle.std.specs.List.{list_all}
use Rattle.event_bus.specs.Lists.{has}
use Rattle.ha_past.specs.Firings.{Owner}
use Rattle.trig_set.specs.declared.recent.Recent.{Recent}

-- the owner is recent, or an entry behind its place was noted, of those before this one
abbrev pub is_noted : Recent → ℕ → Owner → Bool
is_noted recent place o = has recent.owners o.owner || nat_lt o.since place

-- so are all owners; and none is attached at a place behind the latest
pub record AreNoted (recent : Recent) (place : ℕ) (owners : List Owner) : Type 0 where
  pub noted : list_all (is_noted recent place) owners ≡ true
  pub latest : list_all (λ o. nat_le o.since recent.latest) owners ≡ true
