-- Scripts alone that call scripts: what a call of one gives, and where its caller goes on.
use Rattle.std.proofs.Common.{◌≡◌, ℕ, [], ◌∷◌, true, false}
use Rattle.std.specs.Prelude.{List, Option, Some, None, codes, if◌then◌else◌}
use Rattle.ha_value.specs.Ids.{read_entity}
use Rattle.ha_value.specs.declared.value.EntityId.{EntityId}
use Rattle.ha_config.specs.declared.config.Action.{Action}
use Rattle.ha_config.specs.Words.{Text}
use Rattle.ha_sight.specs.declared.item.Item.{Item}
use Rattle.ha_sight.specs.declared.waiting.WaitEnd.{WaitEnd}
use Rattle.ha_sight.specs.Scripts.{Outcome, Spot, Status, whole}
use Rattle.ha_sight.proofs.Rolls.{rolls}
use Rattle.ha_laws.specs.WorkedHall.{call}
use Rattle.ha_laws.specs.WorkedScripts.{N, at, seen}

-- the script greet is unit 2
abbrev there : Option WaitEnd → ℕ → Spot
there ended n = record {
  place = n;
  branch = [];
  sight = record (seen n) { scripts = (codes "greet", 2) ∷ [] };
  wait_end = λ ask p. if ask.called then ended else None;
}

abbrev at_3 : Option WaitEnd
at_3 = Some (record { place = 3; done = true; remaining = None; trigger = None })

abbrev caller : Text → List Action
caller service = call service (codes "script.greet, script.none,script.greet") [] ∷ call (codes "notify.a") [] [] ∷ []

abbrev greet : EntityId
greet = record { domain = codes "script"; object = codes "greet" }

abbrev none : EntityId
none = record { domain = codes "script"; object = codes "none" }

abbrev told : Item
told = Item.Call (codes "notify.a") [] []

waits : ◌≡◌ {A = Option Outcome} (whole (caller (codes "script.greet")) [] (there None 1 ∷ []))
    (Some (record { items = Item.Started (2 ∷ []) [] true ∷ []; status = Status.Open }))
unfolding read_entity
waits = simp (rolls)

not_before : ◌≡◌ {A = Option Outcome} (whole (caller (codes "script.greet")) [] (there None 1 ∷ there None 2 ∷ [])) None
unfolding read_entity
not_before = simp (rolls)

goes_on : ◌≡◌ {A = Option Outcome} (whole (caller (codes "script.greet")) [] (there None 1 ∷ there at_3 4 ∷ there at_3 5 ∷ []))
    (Some (record { items = Item.Started (2 ∷ []) [] true ∷ N ∷ told ∷ []; status = Status.Done }))
unfolding read_entity
goes_on = simp (rolls)

turned_on : ◌≡◌ {A = Option Outcome} (whole (caller (codes "script.turn_on")) [] (there None 1 ∷ there None 2 ∷ []))
    (Some (record { items = Item.Started (2 ∷ []) [] false ∷ told ∷ []; status = Status.Done }))
unfolding read_entity
turned_on = simp (rolls)

turned_off : ◌≡◌ {A = Option Outcome} (whole (caller (codes "script.turn_off")) [] (there None 1 ∷ there None 2 ∷ []))
    (Some (record { items = Item.Halted (2 ∷ []) ∷ told ∷ []; status = Status.Done }))
unfolding read_entity
turned_off = simp (rolls)

-- a service that is no script's is written, and so is each where no script is configured
toggled : ◌≡◌ {A = Option Outcome} (whole (caller (codes "script.toggle")) [] (there None 1 ∷ there None 2 ∷ []))
    (Some (record { items = Item.Call (codes "script.toggle") (greet ∷ none ∷ greet ∷ []) [] ∷ told ∷ []; status = Status.Done }))
unfolding read_entity
toggled = simp (rolls)

not_there : ◌≡◌ {A = Option Outcome} (whole (caller (codes "script.none")) [] (there None 1 ∷ there None 2 ∷ []))
    (Some (record { items = Item.Call (codes "script.none") (greet ∷ none ∷ greet ∷ []) [] ∷ told ∷ []; status = Status.Done }))
unfolding read_entity
not_there = simp (rolls)

not_configured : ◌≡◌ {A = Option Outcome} (whole (caller (codes "script.greet")) [] (at 1 [] ∷ at 2 [] ∷ []))
    (Some (record { items = Item.Call (codes "script.greet") (greet ∷ none ∷ greet ∷ []) [] ∷ told ∷ []; status = Status.Done }))
unfolding read_entity
not_configured = simp (rolls)
