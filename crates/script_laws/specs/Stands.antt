-- How each item of a script stands among its places: what it has to do with scripts that are called, and what it changes of helpers.
use Rattle.std.specs.Prelude.{ℕ, ◌≡◌, Bool, true, List, [], ◌∷◌, Option, Some, None, find, bytes_eq, nat_eq}
use Rattle.std.specs.List.{list_all, list_any}
use Rattle.ha_sight.specs.declared.item.Item.{Item}
use Rattle.ha_sight.specs.declared.waiting.WaitEnd.{WaitEnd}
use Rattle.ha_sight.specs.Inner.{Scripts}
use Rattle.ha_sight.specs.Items.{awaits_end, changes_by}
use Rattle.ha_sight.specs.Scripts.{Branch, Scopes, Spot, call_ask}
use Rattle.ha_sight.specs.Sight.{Automations, Sight}
use Rattle.script_laws.specs.Made.{AreMade}

-- by what place s says, the run has ended that was started at place p
abbrev pub HasEnded : ℕ → Spot → Type 0
HasEnded p s = (scopes : Scopes) × (e : WaitEnd) × (s.wait_end (call_ask scopes) p ≡ Some e)

-- the first of these places that is of this branch
abbrev pub next_in : Branch → List Spot → Option Spot
next_in b ps = find (λ s. bytes_eq s.branch b) ps

-- at the caller's next place the run has ended that it started at place p; only an open script may have no such place yet
abbrev pub GoesOn : Bool → ℕ → Option Spot → Type 0
GoesOn unended p None = unended ≡ true
GoesOn unended p (Some s) = HasEnded p s

-- an item that neither starts nor ends runs of scripts
abbrev pub NamesNoScript : Item → Type 0
NamesNoScript (Item.Started scripts fields waits) = ⊥
NamesNoScript (Item.Halted scripts) = ⊥
NamesNoScript (Item.Helped changes) = Unit {0}
NamesNoScript Item.Nothing = Unit {0}
NamesNoScript (Item.Call service target fields) = Unit {0}
NamesNoScript (Item.Fired kind pairs) = Unit {0}
NamesNoScript (Item.Switched targets) = Unit {0}
NamesNoScript (Item.Triggered automations skip) = Unit {0}
NamesNoScript (Item.Failed code) = Unit {0}

-- the number is of one of these automations, and of one of these scripts
abbrev pub is_automation_in : Automations → ℕ → Bool
is_automation_in all a = list_any (λ p. nat_eq p.0 a) all

abbrev pub is_script_in : Scripts → ℕ → Bool
is_script_in scripts a = list_any (λ p. nat_eq p.1 a) scripts

-- each automation and each script whose number the item names is one of these
abbrev pub names_in : Automations → Scripts → Item → Bool
names_in all scripts (Item.Switched targets) = list_all (λ t. is_automation_in all t.0) targets
names_in all scripts (Item.Triggered automations skip) = list_all (is_automation_in all) automations
names_in all scripts (Item.Started chosen fields waits) = list_all (is_script_in scripts) chosen
names_in all scripts (Item.Halted chosen) = list_all (is_script_in scripts) chosen
names_in all scripts (Item.Helped changes) = true
names_in all scripts Item.Nothing = true
names_in all scripts (Item.Call service target fields) = true
names_in all scripts (Item.Fired kind pairs) = true
names_in all scripts (Item.Failed code) = true

-- and is seen
abbrev pub sees_named : Sight → Item → Bool
sees_named sight item = names_in sight.automations sight.scripts item

-- the item of a place before these
pub record Stands (unended : Bool) (p : Spot) (item : Item) (behind : List Spot) : Type 0 where
  -- behind a call that waits the branch goes on where the run that it started has ended
  pub waits : awaits_end item ≡ true → GoesOn unended p.place (next_in p.branch behind)
  -- where the place sees no script, the item names none
  pub names : p.sight.scripts ≡ [] → NamesNoScript item
  -- each change of it is one that a service makes of a helper that the place sees
  pub helps : AreMade p.sight (changes_by item)
  -- each automation and each script that it names is one that the place sees
  pub sees : sees_named p.sight item ≡ true

abbrev pub EachStands : Bool → List Spot → List Item → Type 0
EachStands unended [] items = Unit {0}
EachStands unended (p ∷ ps) [] = Unit {0}
EachStands unended (p ∷ ps) (item ∷ items) = Stands unended p item ps × EachStands unended ps items
