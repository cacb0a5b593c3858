-- The texts of the hall light's journal, and of some commands and items.
use Rattle.std.proofs.Common.{◌≡◌, ℕ, List, [], ◌∷◌, ◌++◌, true, false, refl}
use Rattle.std.specs.Prelude.{codes}
use Rattle.std.specs.Fmt.{digits}
use Rattle.ha_value.specs.Numbers.{print_number}
use Rattle.ha_config.specs.declared.command.Cmd.{Cmd}
use Rattle.ha_sight.specs.declared.item.Item.{Item}
use Rattle.ha_journal.specs.declared.entry.Entry.{Entry}
use Rattle.ha_journal.specs.Commands.{put_as}
use Rattle.ha_config.specs.CommandText.{cmd_text}
use Rattle.ha_sight.specs.ItemText.{item_text}
use Rattle.ha_model.specs.Texts.{call_text, rehearse_text}
use Rattle.ha_journal.specs.EntryText.{error_text}
use Rattle.ha_config.specs.CheckText.{check_text}
use Rattle.ha_laws.specs.WorkedHall.{journal, records, hall_light}
use Rattle.ha_sight.proofs.Rolls.{rolls}

-- a line, with the LF that ends it
abbrev a_line : List ℕ → List ℕ
a_line t = t ++ 10 ∷ []

pub calls : call_text journal records ≡ a_line (codes "{\"run\":\"hall_light\",\"number\":1,\"call\":1,\"service\":\"light.turn_on\",\"target\":[\"light.hall\"],\"data\":{\"brightness\":128}}")
    ++ a_line (codes "{\"run\":\"hall_light\",\"number\":1,\"call\":2,\"service\":\"light.turn_off\",\"target\":[\"light.hall\"],\"data\":{}}")
unfolding digits print_number
calls = simp rolls

no_errors : error_text journal ≡ []
no_errors = refl

errors : error_text (Entry.Line 3 7 (Cmd.Refused 5) ∷ Entry.Line 0 1 Cmd.TooLong ∷ Entry.Step 0 4 [] (Item.Failed 6) ∷ [])
    ≡ a_line (codes "source 3 line 7: L5") ++ a_line (codes "source 0 line 1: too long") ++ a_line (codes "run 4 failed F6")
unfolding digits
errors = refl

checked : check_text (record { automations = hall_light ∷ []; scripts = []; helpers = [] }) ≡ a_line (codes "automation.hall_light restart 10 triggers 1 conditions 0 actions 3") ++ a_line (codes "ok 1")
unfolding digits
checked = refl

counted : rehearse_text journal records ≡ a_line (codes "lines 3") ++ a_line (codes "entries 8") ++ a_line (codes "runs 1") ++ a_line (codes "calls 2")
unfolding digits
counted = refl

switch_printed : cmd_text (Cmd.Switch (codes "a") false true) ≡ codes "{\"switch\":\"automation.a\",\"to\":\"off\",\"stop_actions\":true}"
switch_printed = refl

switched_printed : item_text (codes "hall_light" ∷ []) (Item.Switched ((0, true, false) ∷ [])) ≡ codes "{\"switched\":[{\"automation\":\"hall_light\",\"on\":true,\"stop\":false}]}"
switched_printed = refl

triggered_printed : item_text (codes "hall_light" ∷ []) (Item.Triggered (0 ∷ []) true) ≡ codes "{\"triggered\":{\"automations\":[\"hall_light\"],\"skip_condition\":true}}"
triggered_printed = refl

-- a script by its own name, without that of its runs' domain
started_printed : item_text (codes "hall_light" ∷ codes "script.greet" ∷ []) (Item.Started (1 ∷ []) [] true) ≡ codes "{\"started\":{\"scripts\":[\"greet\"],\"data\":{},\"waits\":true}}"
started_printed = refl

halted_printed : item_text (codes "hall_light" ∷ codes "script.greet" ∷ []) (Item.Halted (1 ∷ [])) ≡ codes "{\"halted\":[\"greet\"]}"
halted_printed = refl

not_named : put_as journal (Cmd.Trigger (codes "none") true) ≡ Cmd.Refused 9
not_named = refl

named : put_as journal (Cmd.Trigger (codes "hall_light") true) ≡ Cmd.Trigger (codes "hall_light") true
named = refl
