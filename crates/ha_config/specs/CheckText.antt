-- The lines that `check` writes, and lines and counts in general.
use Rattle.std.specs.Prelude.{ℕ, [], ◌∷◌, ◌++◌, length, map, decimal, codes}
use Rattle.std.specs.List.{concat}
use Rattle.ha_config.specs.declared.config.Config.{Config}
use Rattle.ha_config.specs.declared.config.Automation.{Automation}
use Rattle.ha_config.specs.declared.config.Mode.{Mode}
use Rattle.ha_config.specs.Words.{Text}

-- a line ends by LF
abbrev pub as_line : Text → Text
as_line t = t ++ 10 ∷ []

-- ---- what `check` writes

abbrev pub mode_text : Mode → Text
mode_text Mode.Single = codes "single"
mode_text Mode.Restart = codes "restart"
mode_text Mode.Queued = codes "queued"
mode_text Mode.Parallel = codes "parallel"

abbrev pub check_line : Automation → Text
check_line a = as_line (codes "automation." ++ a.name ++ codes " " ++ mode_text a.mode ++ codes " " ++ decimal a.max
    ++ codes " triggers " ++ decimal (length a.triggers) ++ codes " conditions " ++ decimal (length a.tests)
    ++ codes " actions " ++ decimal (length a.actions))

-- a line for each automation, counted at the top level, and the count of automations
abbrev pub check_text : Config → Text
check_text c = concat (map check_line c.automations) ++ as_line (codes "ok " ++ decimal (length c.automations))

-- ---- counts

abbrev pub count_line : Text → ℕ → Text
count_line what n = as_line (what ++ codes " " ++ decimal n)
