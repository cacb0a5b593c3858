-- The print of a report without attributes, whose texts are printed as they are.
use Rattle.std.specs.Prelude.{◌++◌, [], codes, Option, Some}
use Rattle.ha_value.specs.Ids.{read_entity}
use Rattle.ha_config.specs.declared.command.Cmd.{Cmd}
use Rattle.ha_config.specs.declared.command.Cmd.TheVariants as cmd
use Rattle.ha_config.specs.Words.{Text}
use Rattle.flow_printed.specs.Map.{◌>>=◌, reportable, short_state}

-- with the texts of its id and its state
abbrev pub plain_text : Text → Text → Text
plain_text id state = codes "{\"report\":\"" ++ (id ++ (codes "\",\"state\":\"" ++ (state ++ codes "\",\"attributes\":{}}")))

-- the report that these texts give
unfoldable pub plain_report : Text → Text → Option Cmd
plain_report id state = do
  entity ← reportable (read_entity id)
  text ← short_state state
  Some (cmd.Report entity text [])
