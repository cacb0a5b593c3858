-- Why a command ended as it did, where the cause is the outside's.
use Rattle.std.specs.Prelude.{ℕ, ◌≡◌, ◌≤◌, ◌<◌, ◌⊎◌, true, false, List, length, Option, Some, None, slice_get, IfSome, Contains}
use Rattle.ha_io.specs.Counts.{Rose}
use Rattle.ha_io.specs.declared.place.Opening.{Opening}
use Rattle.ha_status.specs.declared.status.Status.{Status}
use Rattle.ha_status.specs.StatusLine.{Text}

-- ---- counts

-- one of two counts rose in the call
abbrev pub OneRose : ℕ → ℕ → ℕ → ℕ → Type 0
OneRose before after before' after' = Rose before after ⊎ Rose before' after'

-- the counts of a sink did not fall
pub record NeverFall (faults faults' zeros zeros' : ℕ) : Type 0 where
  pub faults_stay : faults ≤ faults'
  pub zeros_stay : zeros ≤ zeros'

-- ---- a file that was not opened

-- the place failed in this call, and where it tells its last failure, that was to open this file for this
pub record IsUnopened (name : Text) (opening : Opening) (faults faults' : ℕ) (last : Option (Option (Text × Opening))) : Type 0 where
  pub rose : Rose faults faults'
  pub last_is : IfSome last (λ l. l ≡ Some (name, opening))

-- it is one of these files, which are read
abbrev pub OpenCause : List Text → ℕ → ℕ → Option (Option (Text × Opening)) → Status → Type 0
OpenCause names faults faults' last (Status.OpenFault name) = Contains names name × IsUnopened name Opening.Reading faults faults' last
OpenCause names faults faults' last _ = Unit {0}

-- ---- a source that was not read

-- Reading the source at this place of a list failed: its count is above 0, and it has this name, where it is told. The list is given
-- by the counts and the names of its sources.
pub record IsUnread (name : Text) (place : ℕ) (faults : List ℕ) (names : List (Option Text)) : Type 0 where
  pub count : ℕ
  pub told : Option Text
  pub count_is : slice_get faults place ≡ Some count
  pub failed : 0 < count
  pub told_is : slice_get names place ≡ Some told
  pub name_is : IfSome told (λ t. t ≡ name)

-- the source of the configuration, which is then the only one, or that source of the words
abbrev pub ReadCause : Text → List Text → List ℕ → List (Option Text) → Status → Type 0
ReadCause config sources faults names (Status.ReadFault None) = (length faults ≡ 1) × IsUnread config 0 faults names
ReadCause config sources faults names (Status.ReadFault (Some k)) =
    (name : Text) × (slice_get sources k ≡ Some name) × IsUnread name k faults names
ReadCause config sources faults names _ = Unit {0}

-- ---- a text that was not written

-- a write failed, or took no byte
abbrev pub WriteCause : Type 0 → Type 0 → Status → Type 0
WriteCause failed took_none (Status.WriteFault false) = failed
WriteCause failed took_none (Status.WriteFault true) = took_none
WriteCause failed took_none _ = Unit {0}

-- ---- the store

-- the keeper failed
abbrev pub KeepCause : ℕ → ℕ → Status → Type 0
KeepCause faults faults' Status.KeepFault = Rose faults faults'
KeepCause faults faults' _ = Unit {0}
