-- The rule of the channel: what lies in it, and what each pass knows.
use Rattle.std.specs.Prelude.{◌≡◌, ℕ, ◌+◌, ◌<◌, ◌≤◌, ◌⊎◌, Bool, true, false, cond, List, [], ◌∷◌, ◌++◌}
use Rattle.std.specs.Prelude.{length, take, drop, map, Option, Some, None, IsSomeAnd, Contains}
use mathlib.Core.Option.{some}
use mathlib.Core.Option as maybe
use lib.ListN.{get_elem?}
use Rattle.ha_config.specs.declared.command.Cmd.{Cmd}
use Rattle.ha_journal.specs.declared.entry.Entry.{Entry}
use Rattle.ha_journal.specs.declared.entry.Entry.TheVariants.{Boot, Line, Step, Again}
use Rattle.ha_journal.specs.Commands.{put_as}
use Rattle.ha_journal.specs.Entries.{is_again, restarts}
use Rattle.ha_journal.specs.Journal.{Journal}
use Rattle.ha_whole.specs.Whole.{IsFull}
use Rattle.bus_turn.specs.declared.fault.BusFault.{BusFault}
use Rattle.bus_pass.specs.Journal.{is_of, placed}
use Rattle.bus_pass.specs.Reads.{Reading, Reads, due_in, reads}
use Rattle.bus_pass.specs.declared.hand.Given.{Given}
use Rattle.bus_pass.specs.declared.hand.Stood.{Stood}
use Rattle.bus_pass.specs.declared.hand.Origin.{Origin}
use Rattle.bus_pass.specs.declared.hand.Hand.{Hand}

abbrev pub given : ℕ → Entry → Option Cmd → Given
given place entry read = record { place = place; entry = entry; read = read }

abbrev pub stood : ℕ → List Given → Stood
stood worker given = record { worker = worker; given = given }

abbrev pub Dues : Type 0
Dues = List (ℕ × Cmd)

abbrev pub hand : Bool → ℕ → List Stood → Option Journal → Option BusFault → Dues → Option Origin → Hand
hand first made stands taken noted dues origin =
    record { first = first; made = made; stands = stands; taken = taken; noted = noted; dues = dues; origin = origin }

-- ---- the lists of the workers

-- the entries of worker k among those that one give added from the place n on
abbrev pub notes : ℕ → ℕ → Reads → List Entry → List Given
notes k n read [] = []
notes k n read (e ∷ es) = cond (is_of k e) (given n e (read e) ∷ notes k (n + 1) read es) (notes k (n + 1) read es)

abbrev pub bare : List Given → List (ℕ × Entry)
bare gs = map (λ (g : Given). (g.place, g.entry)) gs

-- l is the list of worker k among these
abbrev pub Stands : List Stood → ℕ → List Given → Type 0
Stands [] k l = ⊥
Stands (s ∷ ss) k l = ((s.worker ≡ k) × (s.given ≡ l)) ⊎ Stands ss k l

-- these lists, with what one give added
abbrev pub grown : ℕ → Reads → List Entry → List Stood → List Stood
grown n read more [] = []
grown n read more (s ∷ ss) = stood s.worker (s.given ++ notes s.worker n read more) ∷ grown n read more ss

-- a line is what stands at its place for the command that was read
abbrev pub IsPutAs : Journal → Entry → Option Cmd → Type 0
IsPutAs before (Boot text config stored start zone carry) read = Unit {0}
IsPutAs before (Again number start stored carry) read = Unit {0}
IsPutAs before (Line source number cmd) read = (c : Cmd) × (read ≡ Some c) × (cmd ≡ put_as before c)
IsPutAs before (Step worker serial branch item) read = Unit {0}

pub record Told (j : Journal) (g : Given) : Type 0 where
  pub within : g.place < length j
  pub line : IsPutAs (take g.place j) g.entry g.read

abbrev pub AllTold : Journal → List Given → Type 0
AllTold j [] = Unit {0}
AllTold j (g ∷ gs) = Told j g × AllTold j gs

-- the list is that of worker k in the journal
pub record IsList (j : Journal) (k : ℕ) (l : List Given) : Type 0 where
  pub entries : bare l ≡ placed k 0 j
  pub told : AllTold j l

-- ---- the rule

-- What the pass at this number knows is so. `lead` is the number of the first pass, `made` how many workers were split off, `seat` who
-- stands for each, `now` the journal, `holder` who holds the bus, `alarm` the first fault that it keeps, `owed` the command that was due
-- where the journal was found full, with its worker, `base` what never changes of the bus.
pub record Fits (lead made : ℕ) (seat : ℕ → ℕ) (now : Journal) (holder : maybe.Option ℕ) (alarm : Option BusFault) (owed : Option (ℕ × Cmd))
    (base : Option Origin) (port : ℕ) (v : Hand) : Type 0 where
  pub idle : (v.taken ≡ None) ⊎ (holder ≡ some port)
  pub holds : holder ≡ some port → (v.taken ≡ Some now) × (v.noted ≡ alarm) × (v.origin ≡ base)
  pub heard : (f : BusFault) → v.noted ≡ Some f → alarm ≡ Some f
  pub begun : (o : Origin) → v.origin ≡ Some o → base ≡ Some o
  pub owes : (d : ℕ × Cmd) → owed ≡ Some d → seat d.0 ≡ port → Contains v.dues d
  pub leads : v.first ≡ true → (port ≡ lead) × (v.made ≡ made)
  pub stands : (k : ℕ) (l : List Given) → Stands v.stands k l → (k < made) × (seat k ≡ port) × IsList now k l
  pub sits : (k : ℕ) → k < made → seat k ≡ port → (l : List Given) × Stands v.stands k l

-- a command that was due may have had no room: the journal is full, or the command is a Restart
abbrev pub MayLackRoom : Journal → Cmd → Type 0
MayLackRoom j c = IsFull j ⊎ (restarts c ≡ true)

-- a message T holds a bus with this journal, this first fault and this origin; where it keeps `Full`, the journal is full and can go on, or
-- a command was due that may have had no room
module _ {T : Type 0} (GoesOn : Journal → Type 0) (journal : T → Journal) (first : T → Option BusFault) (origin : T → Origin) where
  -- the bus lies in the channel, or some pass holds it
  abbrev pub Lies : List T → List Hand → Journal → maybe.Option ℕ → Option BusFault → Option Origin → Type 0
  Lies items views now maybe.none alarm base = (m : T) × (items ≡ m ∷ []) × (journal m ≡ now) × (first m ≡ alarm) × (base ≡ Some (origin m))
  Lies items views now (maybe.some h) alarm base = (items ≡ []) × (h < length views)

  pub record Kept (items : List T) (views : List Hand) : Type 0 where
    pub lead : ℕ
    pub made : ℕ
    pub seat : ℕ → ℕ
    pub now : Journal
    pub holder : maybe.Option ℕ
    pub alarm : Option BusFault
    pub owed : Option (ℕ × Cmd)
    pub base : Option Origin
    pub lies : Lies items views now holder alarm base
    pub full : alarm ≡ Some BusFault.Full → (IsFull now × GoesOn now) ⊎ IsSomeAnd owed (λ d. MayLackRoom now d.1)
    pub owing : (d : ℕ × Cmd) → owed ≡ Some d → d.0 < made
    pub fresh : (k : ℕ) → made ≤ k → placed k 0 now ≡ []
    pub seated : (k : ℕ) → k < made → seat k < length views
    pub each : (port : ℕ) (v : Hand) → get_elem? views port ≡ some v → Fits lead made seat now holder alarm owed base port v

-- ---- the steps

-- the first view: it holds the bus, which has nothing yet
abbrev pub opening : Hand
opening = hand true 0 [] (Some []) None [] None

-- the view that took the bus with this journal, this first fault and this origin
abbrev pub took : Hand → Journal → Option BusFault → Origin → Hand
took v j first origin = hand v.first v.made v.stands (Some j) first v.dues (Some origin)

-- how many entries the taken journal has
abbrev pub size_of : Option Journal → ℕ
size_of None = 0
size_of (Some j) = length j

abbrev pub is_full : Option BusFault → Bool
is_full (Some BusFault.Full) = true
is_full _ = false

-- the command is due for the one worker
abbrev pub due_of : List Stood → Option Cmd → Dues
due_of (s ∷ ss) (Some c) = (s.worker, c) ∷ []
due_of _ _ = []

-- a pass that finds the journal full notes the first command that was not put
abbrev pub dues_after : Hand → Reading → Option BusFault → Dues
dues_after v read first = cond (is_full first) (cond (is_full v.noted) v.dues (due_of v.stands (due_in read) ++ v.dues)) v.dues

-- the view that gave the bus with this journal, for the commands that were read, with this first fault and this origin
abbrev pub gave : Hand → Journal → Reading → Option BusFault → Origin → Hand
gave v j read first origin =
    hand v.first v.made (grown (size_of v.taken) (reads read) (drop (size_of v.taken) j) v.stands) None first
    (dues_after v read first) (Some origin)

abbrev pub parent : Hand → Hand
parent v = hand v.first (v.made + 1) v.stands v.taken v.noted v.dues v.origin

abbrev pub child : Hand → Hand
child v = hand false 0 (stood v.made [] ∷ []) None None [] v.origin

-- the fault that one of two passes noted
abbrev pub heard_by : Option BusFault → Option BusFault → Option BusFault
heard_by None g = g
heard_by (Some f) g = Some f

abbrev pub both : Hand → Hand → Hand
both v w = hand v.first v.made (v.stands ++ w.stands) v.taken (heard_by v.noted w.noted) (v.dues ++ w.dues) v.origin

abbrev pub spent : Hand
spent = hand false 0 [] None None [] None

-- ---- what a pass learns, and what it may give

-- the pass is the first, and stands for every worker that was split off
pub record StandsForAll (v : Hand) : Type 0 where
  pub first : v.first ≡ true
  pub each : (k : ℕ) → k < v.made → (l : List Given) × Stands v.stands k l

-- what a pass with this view learns of the bus when it takes it
pub record Tells (GoesOn : Journal → Type 0) (v : Hand) (j : Journal) (first : Option BusFault) (origin : Origin) : Type 0 where
  pub lists : (k : ℕ) (l : List Given) → Stands v.stands k l → IsList j k l
  pub fresh : v.first ≡ true → (k : ℕ) → v.made ≤ k → placed k 0 j ≡ []
  pub fault : (f : BusFault) → v.noted ≡ Some f → first ≡ Some f
  pub same_origin : (o : Origin) → v.origin ≡ Some o → origin ≡ o
  pub full : first ≡ Some BusFault.Full → StandsForAll v
      → (IsFull j × GoesOn j) ⊎ ((d : ℕ × Cmd) × (d.0 < v.made) × Contains v.dues d × MayLackRoom j d.1)

-- entries of worker k, but for the Agains behind its Restarts, which stand behind those before, and each line of them as it was read
abbrev pub AreAsRead : ℕ → Reads → Journal → List Entry → Type 0
AreAsRead k read before [] = Unit {0}
AreAsRead k read before (e ∷ es) = (is_again e ≡ false → is_of k e ≡ true) × IsPutAs before e (read e) × AreAsRead k read (before ++ e ∷ []) es

-- more entries of worker k, and each line as it was read
pub record More (k : ℕ) (read : Reads) (old new : Journal) : Type 0 where
  pub entries : List Entry
  pub longer : new ≡ old ++ entries
  pub as_read : AreAsRead k read old entries

-- A pass with this view holds the bus, and may give it back with this journal, for the commands that were read, with this first fault and
-- this origin: with entries of its worker more, put where it kept no fault, or with none; a fault that was noted is still kept, and the
-- origin is the same; where the bus is newly full, the journal is full and can go on, or a command was not put that may have had no room.
pub record MayGive (GoesOn : Journal → Type 0) (v : Hand) (j : Journal)
    (read : Reading) (first : Option BusFault) (origin : Origin) : Type 0 where
  pub worker : ℕ
  pub list : List Given
  pub old : Journal
  pub holds : v.taken ≡ Some old
  pub stands : v.stands ≡ stood worker list ∷ []
  pub put : (j ≡ old) ⊎ ((v.noted ≡ None) × More worker (reads read) old j)
  pub fault : (f : BusFault) → v.noted ≡ Some f → first ≡ Some f
  pub same_origin : v.origin ≡ Some origin
  pub full : first ≡ Some BusFault.Full
      → (v.noted ≡ Some BusFault.Full) ⊎ ((IsFull j × GoesOn j) ⊎ IsSomeAnd (due_in read) (MayLackRoom j))
