-- What is kept of helpers, and which journals it stands for.
use Rattle.std.specs.Prelude.{◌≡◌, ◌≤◌, ℕ, false, List, Option, Some, None, MatchOption, map, slice_get, option_map, option_and_then, codes}
use Rattle.std.specs.List.{position}
use Rattle.ha_value.specs.declared.value.EntityId.{EntityId}
use Rattle.ha_config.specs.declared.helper.Helper.{Helper}
use Rattle.ha_config.specs.Words.{same, same_entity}
use Rattle.ha_journal.specs.Journal.{Journal, helpers, now}
use Rattle.ha_sight.specs.Known.{Changed, Known}
use Rattle.ha_journal.specs.Helpers.{due_in, last_change, text_of}
use Rattle.ha_config.specs.Helpers.{first_text}
use Rattle.ha_sight.specs.Services.{text_seen}
use Rattle.ha_sight.specs.Sight.{Sight}
use Rattle.timer_queue.specs.Timers.{Timer, due_of as timer_of}
use Rattle.helper_set.specs.declared.kept.Kept.{Kept}
use Rattle.helper_set.specs.declared.kept.Last.{Last}
use Rattle.helper_set.specs.declared.set.Helpers.{Helpers}

abbrev pub changed : Last → Changed
changed l = record { change = l.change; at = l.at }

-- what a place sees of a helper that is kept so
abbrev pub shown : Kept → Known
shown k = record { helper = k.helper; last = option_map changed k.last }

-- its last change is no later than this moment
abbrev pub IsTimely : ℕ → Kept → Type 0
IsTimely at k = MatchOption k.last (Unit {0}) (λ l. l.at ≤ at)

-- the place of a helper among those that are kept
abbrev pub place_in : List Kept → EntityId → Option ℕ
place_in all e = position (λ k. same_entity k.helper.entity e) all

-- each is found by its id
abbrev pub AreApart : List Kept → Type 0
AreApart all = (n : ℕ) → MatchOption (slice_get all n) (Unit {0}) (λ k. place_in all k.helper.entity ≡ Some n)

-- a helper as it is kept at the Boot
abbrev pub first_kept : Helper → Kept
first_kept h = record { helper = h; text = first_text h.kind; last = None }

-- a helper is kept as it is after a journal
pub record KeepsIt (j : Journal) (h : Helper) (k : Kept) : Type 0 where
  pub helper : k.helper ≡ h
  pub text : k.text ≡ text_of j h
  pub last : option_map changed k.last ≡ last_change j h.entity
  pub timely : IsTimely (now j) k

-- the helper at a place of the configuration, if there is one
abbrev pub At : List Helper → List Kept → ℕ → (Helper → Kept → Type 0) → Type 0
At all kept n P = MatchOption (slice_get all n) (slice_get kept n ≡ None) (λ h. MatchOption (slice_get kept n) ⊥ (P h))

-- the helpers are those of the configuration, each as it is after the journal, and the timers are those of the active ones
pub record Stands (kept : List Kept) (timers : List Timer) (j : Journal) : Type 0 where
  pub apart : AreApart kept
  pub each : (n : ℕ) → At (helpers j) kept n (KeepsIt j)
  pub timed : (n : ℕ) → timer_of n timers ≡ option_and_then (λ h. due_in j h.entity) (slice_get (helpers j) n)

abbrev pub StandsFor : Helpers → Journal → Type 0
StandsFor s j = Stands s.kept.items s.timers j

-- a place sees these helpers, at this moment
pub record AreSeen (kept : List Kept) (sight : Sight) (at : ℕ) : Type 0 where
  pub helpers : sight.helpers ≡ map shown kept
  pub now : sight.now ≡ at
  pub texts : (n : ℕ) → MatchOption (slice_get kept n) (Unit {0}) (λ k. (text_seen sight (shown k) ≡ k.text) × IsTimely at k)

-- what a value keeps, and what a place sees of it
abbrev pub kept_in : Helpers → List Kept
kept_in s = s.kept.items

abbrev pub known_of : Helpers → List Known
known_of s = map shown (kept_in s)

-- no helper has the domain of automations
abbrev pub AreOutside : List Helper → Type 0
AreOutside hs = (n : ℕ) → MatchOption (slice_get hs n) (Unit {0}) (λ h. same h.entity.domain (codes "automation") ≡ false)
