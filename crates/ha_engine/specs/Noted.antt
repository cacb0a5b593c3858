-- When automations last triggered, by the first unit of their name, once more runs were admitted.
use Rattle.std.specs.Prelude.{◌≡◌, ℕ, Bool, true, false, ◌&&◌, ◌||◌, not, nat_eq, nat_le, List, [], ◌∷◌, drop, Option, Some, None, length, map, slice_get, slice_index_or, slice_set, take, ◌++◌}
use Rattle.std.specs.List.{list_all}
use Rattle.std.specs.Option.{option_map_or}
use Rattle.ha_clock.specs.Local.{last_moment}
use Rattle.ha_config.specs.Equal.{same_flag}
use Rattle.ha_config.specs.Words.{Text}
use Rattle.ha_journal.specs.Journal.{Journal}
use Rattle.ha_journal.specs.States.{switches_of}
use Rattle.ha_journal.specs.Entries.{is_reload}
use Rattle.ha_model.specs.Records.{Records, last_is}
use Rattle.ha_whole.specs.Lasts.{lasts, lasts_carried}
use Rattle.ha_whole.specs.Named.{in_name_order, named}
use Rattle.ha_whole.specs.Segments.{segment}
use Rattle.ha_whole.specs.Whole.{before_put, same_pairs_by}
use Rattle.named_runs.specs.Named.{first_in}

-- no moment, or the same one
abbrev pub same_moment : Option ℕ → Option ℕ → Bool
same_moment None None = true
same_moment (Some x) (Some y) = nat_eq x y
same_moment None (Some y) = false
same_moment (Some x) None = false

abbrev pub noted_if : ℕ → Option ℕ → List (Option ℕ) → List (Option ℕ)
noted_if at None lasts = lasts
noted_if at (Some first) lasts = slice_set lasts first (Some at)

-- the moments, where these runs were admitted at one
abbrev pub noted : ℕ → List ℕ → Records → List (Option ℕ) → List (Option ℕ)
noted at firsts [] lasts = lasts
noted at firsts (r ∷ rs) lasts = noted at firsts rs (slice_set lasts (first_in firsts r.automation) (Some at))

-- whether that changes the moment of a name that an automation in force has
abbrev pub moves_at : ℕ → List Bool → ℕ → List (Option ℕ) → Bool
moves_at at listed first lasts = slice_index_or listed first false && option_map_or (λ last. not (same_moment last (Some at))) (slice_get lasts first) false

abbrev pub moved_if : ℕ → List Bool → Option ℕ → List (Option ℕ) → Bool
moved_if at listed None lasts = false
moved_if at listed (Some first) lasts = moves_at at listed first lasts

-- whether these runs change one
abbrev pub moved_by : ℕ → List ℕ → List Bool → Records → List (Option ℕ) → Bool
moved_by at firsts listed [] lasts = false
moved_by at firsts listed (r ∷ rs) lasts =
    moves_at at listed (first_in firsts r.automation) lasts || moved_by at firsts listed rs (slice_set lasts (first_in firsts r.automation) (Some at))

-- by unit: what is known, and for more units what was carried for their names
abbrev pub known_lasts : List (Option ℕ) → List Text → List (Text × ℕ) → List (Option ℕ)
known_lasts known names carried = take (length names) known ++ map (λ name. named name carried) (drop (length known) names)

-- ---- what the last put changed

-- a switch in force: so it is of a journal that is the boot alone
abbrev pub changes_switches : Journal → Bool
changes_switches j =
    nat_eq (length j) 1
    || not (same_pairs_by same_flag (in_name_order (switches_of (segment (before_put j)))) (in_name_order (switches_of (segment j))))

-- when an automation in force last triggered
abbrev pub changes_lasts : Journal → Bool
changes_lasts j = not (same_pairs_by nat_eq (in_name_order (lasts (segment (before_put j)))) (in_name_order (lasts (segment j))))

-- no moment is past the last one that has a text
abbrev pub are_in_time : List (Option ℕ) → Bool
are_in_time lasts = list_all (λ last. option_map_or (λ at. nat_le at last_moment) last true) lasts

-- what is known beside that of the moments, and of whether the last put, where it is no Reload, changed one
pub record AreNoted (j : Journal) (lasts : List (Option ℕ)) (moved : Bool) : Type 0 where
  pub in_time : are_in_time lasts ≡ true
  pub carried : list_all (λ p. nat_le p.1 last_moment) (lasts_carried (segment j)) ≡ true
  pub moved_is : (length j ≡ 1 → ⊥) → last_is is_reload j ≡ false → changes_lasts j ≡ moved
