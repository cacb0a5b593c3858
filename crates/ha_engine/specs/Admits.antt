-- What is ready for an attempt that passes, and who goes for it.
use Rattle.std.specs.Prelude.{◌≡◌, ℕ, Bool, true, false, nat_eq, List, [], ◌∷◌, ◌++◌, filter, Option, Some, if◌then◌else◌}
use Rattle.std.specs.List.{enumerate_from, list_any}
use Rattle.ha_config.specs.declared.config.Action.{Action}
use Rattle.ha_config.specs.declared.config.Mode.{Mode}
use Rattle.ha_journal.specs.Attempts.{Attempt, passes}
use Rattle.ha_journal.specs.Journal.{Journal, last_place, units}
use Rattle.ha_model.specs.Records.{Records, actions_of, mode_of, max_of}
use Rattle.ha_model.specs.RunSteps.{replace_all}
use Rattle.ha_sight.specs.declared.item.Item.{Item}
use Rattle.ha_config.specs.Words.{Pairs}
use Rattle.ha_sight.specs.Scripts.{Branch, Spot}
use Rattle.run_modes.specs.declared.admission.Admission.{Admission}
use Rattle.run_modes.specs.Table.{live_of}
use Rattle.script_step.specs.declared.frames.Frames.{Frames}
use Rattle.ha_ready.specs.ReadyPairs.{pairs_of}
use Rattle.script_step.specs.Continuation.{Began}
use Rattle.script_step.specs.Frames as run
use Rattle.script_step.specs.Gates.{first_fronts, fronts_of}
use Rattle.ha_engine.specs.declared.admit.Prepared.{Prepared}
use Rattle.engine_parts.specs.Fronts.{Stands, fronts}
use Rattle.engine_parts.specs.Kept.{Gone, nobody}

-- the runs with these serials
abbrev pub are_in : List ℕ → Gone
are_in serials s = list_any (nat_eq s) serials

-- in mode restart a new run replaces the live ones of its automation
abbrev pub gone_by : Mode → ℕ → Records → Gone
gone_by Mode.Restart a rs = are_in (live_of a rs)
gone_by Mode.Single a rs = nobody
gone_by Mode.Queued a rs = nobody
gone_by Mode.Parallel a rs = nobody

-- the records of which the replaced ones have ended
abbrev pub left_by : Bool → ℕ → ℕ → Records → Records
left_by restart a place rs = if restart then replace_all a place rs else rs

abbrev pub has_action : List Action → Bool
has_action [] = false
has_action (a ∷ rest) = true

-- it has what the attempt, at its order, and its automation say, and frames at the begin of the script
pub record IsPrepared (k : Journal) (x : ℕ × Attempt) (p : Prepared) : Type 0 where
  pub automation : p.automation ≡ x.1.automation
  pub mode : p.mode ≡ mode_of (units k) x.1.automation
  pub max : p.max ≡ max_of (units k) x.1.automation
  pub order : p.order ≡ x.0
  pub env : p.env ≡ x.1.env
  pub script : p.frames.value.automation ≡ x.1.automation
  pub stands : Stands p.frames.value (actions_of (units k) x.1.automation) x.1.env []
  pub first : fronts p.frames.value [] ≡ first_fronts (actions_of (units k) x.1.automation)
  pub acts : p.acts ≡ has_action (actions_of (units k) x.1.automation)

-- the attempt of an automation that is asked for
abbrev pub asked_for : ℕ → Pairs → Bool → Attempt
asked_for automation env skip = record { automation = automation; env = env; skip = skip }

-- it has these, and frames at the begin of this script
pub record IsReady (a n : ℕ) (pairs : Pairs) (way : Mode) (most : ℕ) (actions : List Action) (p : Prepared) : Type 0 where
  pub automation : p.automation ≡ a
  pub mode : p.mode ≡ way
  pub max : p.max ≡ most
  pub order : p.order ≡ n
  pub env : p.env ≡ pairs
  pub script : p.frames.value.automation ≡ a
  pub stands : Stands p.frames.value actions pairs []
  pub first : fronts p.frames.value [] ≡ first_fronts actions
  pub acts : p.acts ≡ has_action actions

-- an attempt that passes is put behind the others, and one that does not is none
abbrev pub IsPut : Bool → Journal → ℕ × Attempt → List Prepared → List Prepared → Type 0
IsPut true k x old new = (p : Prepared) × (new ≡ old ++ (p ∷ [])) × IsPrepared k x p
IsPut false k x old new = new ≡ old

-- these are prepared for the attempts, in order
abbrev pub ArePrepared : Journal → List (ℕ × Attempt) → List Prepared → Type 0
ArePrepared k [] [] = Unit {0}
ArePrepared k [] (p ∷ ps) = ⊥
ArePrepared k (x ∷ xs) [] = ⊥
ArePrepared k (x ∷ xs) (p ∷ ps) = IsPrepared k x p × ArePrepared k xs ps

-- from the last on
abbrev pub from_end : {X : Type 0} → List X → List X
from_end [] = []
from_end (x ∷ xs) = from_end xs ++ (x ∷ [])

-- of these attempts of the last entry, the first of which has order n, those that pass are prepared, the first of them last
abbrev pub ArePassing : Journal → ℕ → List Attempt → List Prepared → Type 0
ArePassing k n tries stack = ArePrepared k (filter (λ x. passes k (last_place k) x.1) (enumerate_from n tries)) (from_end stack)

-- the outer branch of a run, where it may step
abbrev pub branches_if : Bool → List Branch
branches_if true = [] ∷ []
branches_if false = []

-- the same frames, but of the run with this serial
pub record IsNumbered (number : ℕ) (f g : Frames) : Type 0 where
  pub serial : g.serial ≡ number
  pub automation : g.automation ≡ f.automation
  pub stands : (actions : List Action) (env : Pairs) (given : List Spot) (items : List Item)
      → run.Stands f actions env given items → run.Stands g actions env given items
  pub fronts : (began : Began) → fronts_of g began ≡ fronts_of f began

-- these frames have a slot behind the others, under this serial
abbrev pub OneSlot : ℕ → Frames → List (Option Frames) → List (Option Frames) → Type 0
OneSlot s f old new = (g : Frames) × (new ≡ old ++ (Some g ∷ [])) × IsNumbered s f g

-- the slot and the pairs of an attempt, by what it is told
abbrev pub SlotsBy : Admission → Frames → List (Option Frames) → List (Option Frames) → Type 0
SlotsBy (Admission.Begun s) f old new = OneSlot s f old new
SlotsBy (Admission.Queued s) f old new = OneSlot s f old new
SlotsBy (Admission.Replaces s o) f old new = OneSlot s f old new
SlotsBy Admission.Refused f old new = new ≡ old

abbrev pub pairs_by : Admission → Bool → List (ℕ × Branch)
pairs_by (Admission.Begun s) acts = pairs_of s (branches_if acts)
pairs_by (Admission.Queued s) acts = pairs_of s (branches_if false)
pairs_by (Admission.Replaces s old) acts = pairs_of s (branches_if acts)
pairs_by Admission.Refused acts = []
