-- The two parts of an automation's line, as they are written one after the other.
use Rattle.std.specs.Prelude.{◌∷◌, [], ◌++◌, codes, decimal, length}
use Rattle.ha_config.specs.declared.config.Automation.{Automation}
use Rattle.ha_config.specs.CheckText.{mode_text}
use Rattle.ha_status.specs.StatusLine.{Text}

abbrev pub line_head : Automation → Text
line_head a = codes "automation." ++ (a.name ++ (codes " " ++ (mode_text a.mode ++ (codes " " ++ decimal a.max))))

abbrev pub line_counts : Automation → Text
line_counts a =
    codes " triggers " ++ (decimal (length a.triggers)
    ++ (codes " conditions " ++ (decimal (length a.tests) ++ (codes " actions " ++ (decimal (length a.actions) ++ (10 ∷ []))))))
