-- What a moment makes of the timers.
use Rattle.std.specs.Prelude.{◌≡◌, ℕ, Bool, false, List, [], ◌∷◌, None, slice_get, nat_le, option_map, codes, if◌then◌else◌}
use Rattle.std.specs.BTreeMap.{is_at}
use Rattle.std.specs.BTreeSet.{BTreeSet, contains}
use Rattle.std.specs.Option.{option_map_or}
use Rattle.std.specs.Ordering.{nat_cmp}
use Rattle.ha_value.specs.declared.value.EntityId.{EntityId}
use Rattle.timer_queue.specs.Timers.{Timer, due_of as timer_of}
use Rattle.helper_set.specs.declared.kept.Kept.{Kept}

-- the timer of a place is due
abbrev pub is_over : ℕ → List Timer → ℕ → Bool
is_over at timers n = option_map_or (λ due. nat_le due at) (timer_of n timers) false

abbrev pub idled : Kept → Kept
idled k = record k { text = codes "idle" }

abbrev pub entity_at : List Kept → ℕ → List EntityId
entity_at kept n = option_map_or (λ k. k.helper.entity ∷ []) (slice_get kept n) []

-- the helpers whose timers are due, in order
abbrev pub over_at : ℕ → List Timer → List Kept → ℕ → List EntityId
over_at at timers kept n = if is_over at timers n then entity_at kept n else []

-- each timer that is due finishes
pub record Passes (at : ℕ) (before after : List Timer) (old new : List Kept) : Type 0 where
  pub timers : (n : ℕ) → timer_of n after ≡ (if is_over at before n then None else timer_of n before)
  pub kept : (n : ℕ) → slice_get new n ≡ (if is_over at before n then option_map idled (slice_get old n) else slice_get old n)

-- ---- sets of places

abbrev pub has : BTreeSet ℕ → ℕ → Bool
has set n = contains nat_cmp set n

-- of the second set this place is one or not, as said, and the others are as in the first
abbrev pub Turns : BTreeSet ℕ → BTreeSet ℕ → ℕ → Bool → Type 0
Turns old new p b = (n : ℕ) → has new n ≡ (if is_at (nat_cmp p) n then b else has old n)
