-- A timer and a counter, computed on short journals: when the timer finishes, and what calls of their services change.
use Rattle.std.proofs.Common.{◌≡◌, ℕ, [], ◌∷◌, ◌++◌, refl}
use Rattle.std.specs.Prelude.{Option, Some, None, codes, pos}
use Rattle.std.specs.Fmt.{digits}
use Rattle.ha_value.specs.Numbers.{print_number, read_number}
use Rattle.ha_config.specs.declared.helper.Helper.{Helper}
use Rattle.ha_config.specs.declared.helper.HelperKind.{HelperKind}
use Rattle.ha_config.specs.declared.command.Cmd.{Cmd}
use Rattle.ha_config.specs.Words.{Text}
use Rattle.ha_sight.specs.declared.helped.HelperChange.{HelperChange}
use Rattle.ha_sight.specs.declared.helped.HelperService.{HelperService}
use Rattle.ha_sight.specs.declared.item.Item.{Item}
use Rattle.ha_sight.specs.Known.{Known}
use Rattle.ha_sight.specs.Services.{change_by, nothing}
use Rattle.ha_journal.specs.declared.entry.Entry.{Entry}
use Rattle.ha_journal.specs.Entries.{first_carry}
use Rattle.ha_journal.specs.Helpers.{finished, text_of}
use Rattle.ha_journal.specs.Journal.{Journal}

abbrev tea : Helper
tea = record { entity = record { domain = codes "timer"; object = codes "tea" }; kind = HelperKind.Timer 5_000 }

abbrev guests : Helper
guests = record { entity = record { domain = codes "counter"; object = codes "guests" }; kind = HelperKind.Counter (pos 0) (pos 2) (pos 0) (pos 3) }

abbrev boot : Entry
boot = Entry.Boot [] (record { automations = []; scripts = []; helpers = tea ∷ guests ∷ [] }) None 0 (codes "UTC") (first_carry [])

abbrev clock : ℕ → Entry
clock at = Entry.Line 0 0 (Cmd.Moment at)

abbrev started : Journal
started = boot ∷ Entry.Step 0 1 [] (Item.Helped (record { entity = tea.entity; text = codes "active"; span = Some 5_000; event = Some (codes "timer.started") } ∷ [])) ∷ []

-- ---- when it finishes

idle_first : text_of (boot ∷ []) tea ≡ codes "idle"
idle_first = refl

too_early : finished started (clock 4_999) ≡ []
too_early = refl

at_its_due : finished started (clock 5_000) ≡ tea.entity ∷ []
at_its_due = refl

after_its_due : finished (started ++ (clock 4_999 ∷ [])) (clock 9_000) ≡ tea.entity ∷ []
after_its_due = refl

-- no later moment finishes it again
never_again : finished (started ++ (clock 5_000 ∷ [])) (clock 9_000) ≡ []
never_again = refl

idle_then : text_of (started ++ (clock 5_000 ∷ [])) tea ≡ codes "idle"
idle_then = refl

active_before : text_of (started ++ (clock 4_999 ∷ [])) tea ≡ codes "active"
active_before = refl

-- ---- what calls change

-- as it is seen once it was started at 0
abbrev running : Known
running = record { helper = tea; last = Some (record { change = record { entity = tea.entity; text = codes "active"; span = Some 5_000; event = Some (codes "timer.started") }; at = 0 }) }

abbrev timer_change : Text → Option ℕ → Text → Option HelperChange
timer_change text span event = Some (record { entity = tea.entity; text = text; span = span; event = Some event })

paused_with_the_rest : change_by HelperService.Pause nothing 3_000 (codes "active") running ≡ timer_change (codes "paused") (Some 2_000) (codes "timer.paused")
paused_with_the_rest = refl

not_under_0 : change_by HelperService.Pause nothing 9_000 (codes "active") running ≡ timer_change (codes "paused") (Some 0) (codes "timer.paused")
not_under_0 = refl

idle_is_not_paused : change_by HelperService.Pause nothing 9_000 (codes "idle") running ≡ None
idle_is_not_paused = refl

restarted_anew : change_by HelperService.Start nothing 3_000 (codes "active") running ≡ timer_change (codes "active") (Some 5_000) (codes "timer.restarted")
restarted_anew = refl

started_after_it_finished : change_by HelperService.Start nothing 9_000 (codes "idle") running ≡ timer_change (codes "active") (Some 5_000) (codes "timer.started")
started_after_it_finished = refl

abbrev counted : Known
counted = record { helper = guests; last = None }

abbrev counter_change : Text → Option HelperChange
counter_change text = Some (record { entity = guests.entity; text = text; span = None; event = None })

one_step_up : change_by HelperService.Increment nothing 0 (codes "0") counted ≡ counter_change (codes "2")
unfolding print_number read_number digits
one_step_up = refl

held_at_its_bound : change_by HelperService.Increment nothing 0 (codes "2") counted ≡ counter_change (codes "3")
unfolding print_number read_number digits
held_at_its_bound = refl

held_at_the_lower_one : change_by HelperService.Decrement nothing 0 (codes "1") counted ≡ counter_change (codes "0")
unfolding print_number read_number digits
held_at_the_lower_one = refl
