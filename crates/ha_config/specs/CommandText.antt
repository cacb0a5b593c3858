-- Commands as they are printed in a trace, with all keys in their order.
use Rattle.std.specs.Prelude.{ℕ, true, [], ◌∷◌, ◌++◌, decimal, codes, if◌then◌else◌}
use Rattle.ha_value.specs.declared.value.EntityId.{EntityId}
use Rattle.ha_value.specs.Ids.{entity_text}
use Rattle.ha_clock.specs.Print.{moment_text}
use Rattle.ha_config.specs.declared.command.Cmd.{Cmd}
use Rattle.ha_config.specs.Words.{Text}
use Rattle.ha_config.specs.ValueText.{quoted, map_text, flag_text, print_pairs}

-- a map of one key
abbrev pub one_key : Text → Text → Text
one_key key shown = map_text ((key, shown) ∷ [])

abbrev pub id_text : EntityId → Text
id_text e = quoted (entity_text e)

abbrev pub automation_text : Text → Text
automation_text name = quoted (codes "automation." ++ name)

-- the code of a refused line, and of a failed step
abbrev pub line_code : ℕ → Text
line_code code = codes "L" ++ decimal code

abbrev pub cmd_text : Cmd → Text
cmd_text (Cmd.Report entity text attributes) =
    map_text ((codes "report", id_text entity) ∷ (codes "state", quoted text) ∷ (codes "attributes", print_pairs attributes) ∷ [])
cmd_text (Cmd.Gone entity) = one_key (codes "gone") (id_text entity)
cmd_text (Cmd.Event kind pairs) = map_text ((codes "event", quoted kind) ∷ (codes "data", print_pairs pairs) ∷ [])
cmd_text (Cmd.Moment at) = one_key (codes "moment") (quoted (moment_text at))
cmd_text (Cmd.Switch name on stop) =
    map_text ((codes "switch", automation_text name)
    ∷ (codes "to", if on then quoted (codes "on") else quoted (codes "off"))
    ∷ (codes "stop_actions", flag_text stop) ∷ [])
cmd_text (Cmd.Trigger name skip) = map_text ((codes "trigger", automation_text name) ∷ (codes "skip_condition", flag_text skip) ∷ [])
cmd_text Cmd.Restart = one_key (codes "restart") (flag_text true)
cmd_text (Cmd.Reload text config) = one_key (codes "reload") (quoted text)
cmd_text (Cmd.Refused code) = one_key (codes "refused") (quoted (line_code code))
cmd_text Cmd.Lost = one_key (codes "lost") (flag_text true)
cmd_text Cmd.TooLong = one_key (codes "too_long") (flag_text true)
