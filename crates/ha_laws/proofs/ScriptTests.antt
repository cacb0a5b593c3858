-- Scripts alone: loops, blocks, parallel lists, calls of automations, and failures.
use Rattle.std.proofs.Common.{◌≡◌, [], ◌∷◌, true, false}
use Rattle.std.specs.Fmt.{digits}
use Rattle.std.specs.Prelude.{Option, Some, None, codes}
use Rattle.ha_value.specs.declared.value.Value.{Value}
use Rattle.ha_value.specs.declared.value.Value.TheVariants.{outs-Flag, outs-Number, outs-Pairs}
use Rattle.ha_value.specs.declared.value.Value.TheViews.{out-roll-Value}
use Rattle.ha_value.specs.Ids.{read_entity}
use Rattle.ha_value.specs.Numbers.{read_number, print_number}
use Rattle.ha_value.specs.Arithmetic.{add}
use Rattle.ha_clock.specs.SpanText.{span_of, span_seconds, number_of, number_from}
use Rattle.ha_config.specs.declared.config.Form.TheOpen.{Form-F}
use Rattle.ha_config.specs.declared.config.Form.TheViews.{roll-Form}
use Rattle.ha_config.specs.declared.config.SpanForm.{SpanForm}
use Rattle.ha_config.specs.declared.config.RepeatKind.{RepeatKind}
use Rattle.ha_config.specs.declared.config.ActionKind.TheOpen.{ActionKind-F}
use Rattle.ha_sight.specs.declared.item.Item.{Item}
use Rattle.ha_sight.specs.Scripts.{Outcome, Status, whole, turns}
use Rattle.ha_laws.specs.WorkedHall.{text_template, act, call}
use Rattle.ha_sight.proofs.Rolls.{rolls}
use Rattle.ha_laws.specs.WorkedScripts.{at, number, notify, N, apart, colours, raised, false_inside, delays}

pub six_steps : (whole apart [] (at 1 [] ∷ at 2 [] ∷ at 3 (0 ∷ []) ∷ at 4 (1 ∷ []) ∷ at 5 (0 ∷ []) ∷ at 6 [] ∷ []))
    ≡ Some (record { items = N ∷ N ∷ N ∷ notify (codes "notify.b") 1 ∷ notify (codes "notify.a") 2 ∷ notify (codes "notify.c") 1 ∷ []; status = Status.Done })
unfolding digits read_number print_number read_entity
six_steps = simp (rolls, out-roll-Value, outs-Number)

-- a place of a list that is done is not allowed
no_seventh : (whole apart [] (at 1 [] ∷ at 2 [] ∷ at 3 (1 ∷ []) ∷ at 4 (1 ∷ []) ∷ [])) ≡ None
unfolding digits read_number print_number read_entity
no_seventh = simp (rolls, out-roll-Value, outs-Number)

five_steps : ◌≡◌ {A = Option Outcome} (whole colours [] (at 5 [] ∷ at 6 [] ∷ at 7 [] ∷ at 8 [] ∷ at 9 [] ∷ [])) (Some (record { items = N ∷ notify (codes "notify.c") 7 ∷ N ∷ notify (codes "notify.c") 8 ∷ N ∷ []; status = Status.Done }))
unfolding digits turns read_number print_number read_entity
five_steps = simp (rolls, outs-Number, outs-Pairs)

pub raised_once : ◌≡◌ {A = Option Outcome} (whole raised [] (at 1 [] ∷ at 2 [] ∷ at 3 [] ∷ at 4 [] ∷ at 5 [] ∷ [])) (Some (record { items = N ∷ N ∷ N ∷ N ∷ notify (codes "notify.x") 5 ∷ []; status = Status.Done }))
unfolding digits turns read_number print_number read_entity add
raised_once = simp (rolls, out-roll-Value, outs-Number)

pub goes_on_behind : ◌≡◌ {A = Option Outcome} (whole false_inside ((codes "n", number 4) ∷ []) (at 1 [] ∷ at 2 [] ∷ at 3 [] ∷ [])) (Some (record { items = N ∷ N ∷ notify (codes "notify.x") 4 ∷ []; status = Status.Done }))
unfolding digits read_number print_number read_entity
goes_on_behind = simp (rolls, outs-Number)

-- ---- the services of automations: each named one once, in the order of the targets; others are passed over

toggled : ◌≡◌ {A = Option Outcome} (whole (call (codes "automation.toggle") (codes "automation.b, automation.a,automation.b, light.x") [] ∷ []) [] (at 1 [] ∷ []))
    (Some (record { items = Item.Switched ((1, true, false) ∷ (0, false, true) ∷ []) ∷ []; status = Status.Done }))
unfolding read_entity
toggled = simp (rolls)

turned_off : ◌≡◌ {A = Option Outcome} (whole (call (codes "automation.turn_off") (codes "automation.a") ((codes "stop_actions", roll-Form (Form-F.Plain (Value.Flag false))) ∷ []) ∷ []) [] (at 1 [] ∷ []))
    (Some (record { items = Item.Switched ((0, false, false) ∷ []) ∷ []; status = Status.Done }))
unfolding read_entity
turned_off = simp (rolls, outs-Flag)

none_named : ◌≡◌ {A = Option Outcome} (whole (call (codes "automation.trigger") [] [] ∷ []) [] (at 1 [] ∷ [])) (Some (record { items = Item.Triggered [] true ∷ []; status = Status.Done }))
unfolding read_entity
none_named = simp (rolls)

-- ---- failures

no_service : ◌≡◌ {A = Option Outcome} (whole (call (codes "notify") (codes "x") [] ∷ []) [] (at 1 [] ∷ [])) (Some (record { items = Item.Failed 2 ∷ []; status = Status.Faulted }))
unfolding read_entity
no_service = simp (rolls)

empty_part : ◌≡◌ {A = Option Outcome} (whole (call (codes "notify.x") (codes "a.b,") [] ∷ []) [] (at 1 [] ∷ [])) (Some (record { items = Item.Failed 3 ∷ []; status = Status.Faulted }))
unfolding read_entity
empty_part = simp (rolls)

no_count : ◌≡◌ {A = Option Outcome} (whole (act (ActionKind-F.Repeat (RepeatKind.Count (text_template (codes "1.0"))) []) ∷ []) [] (at 1 [] ∷ [])) (Some (record { items = Item.Failed 5 ∷ []; status = Status.Faulted }))
unfolding read_number
no_count = simp (rolls)

below_none : ◌≡◌ {A = Option Outcome} (whole (act (ActionKind-F.Repeat (RepeatKind.Count (text_template (codes "-2"))) []) ∷ []) [] (at 1 [] ∷ [])) (Some (record { items = N ∷ []; status = Status.Done }))
unfolding read_number
below_none = simp (rolls)

delayed : ◌≡◌ {A = Option Outcome} (whole (delays (SpanForm.Text (text_template (codes "00:01:30")))) [] (at 0 [] ∷ at 90000 [] ∷ [])) (Some (record { items = N ∷ N ∷ []; status = Status.Done }))
unfolding span_of span_seconds number_of number_from
delayed = simp (rolls)

too_early : ◌≡◌ {A = Option Outcome} (whole (delays (SpanForm.Parts (text_template (codes "0") ∷ text_template (codes "0") ∷ text_template (codes "1") ∷ text_template (codes "30") ∷ text_template (codes "0") ∷ []))) [] (at 0 [] ∷ at 89999 [] ∷ [])) None
unfolding read_number
too_early = simp (rolls)

no_duration : ◌≡◌ {A = Option Outcome} (whole (delays (SpanForm.Text (text_template (codes "1:75")))) [] (at 0 [] ∷ [])) (Some (record { items = Item.Failed 4 ∷ []; status = Status.Faulted }))
unfolding span_of span_seconds number_of number_from
no_duration = simp (rolls)
