-- Whether two values are equal in every field.
use base.Stored.{Gv, gnil, gnum, gcons, Coded}
use Rattle.std.specs.Prelude.{Bool, true, false, ◌&&◌, nat_eq}
use Rattle.ha_config.specs.declared.config.Automation.{Automation}
use Rattle.ha_config.specs.declared.config.Script.{Script}
use Rattle.ha_config.specs.contracts.config.Automation as rule
use Rattle.ha_config.specs.contracts.config.Script as script

-- codes are one to one: two values are equal exactly where their codes are
abbrev pub same_code : Gv → Gv → Bool
same_code gnil gnil = true
same_code (gnum m) (gnum n) = nat_eq m n
same_code (gcons a b) (gcons c d) = same_code a c && same_code b d
same_code _ _ = false

abbrev pub is_equal : {A : Type 0} → Coded A → A → A → Bool
is_equal c x y = same_code (c.code x) (c.code y)

unfoldable pub same_automation : Automation → Automation → Bool
same_automation x y = is_equal (rule.the_row).coded x y

unfoldable pub same_script : Script → Script → Bool
same_script x y = is_equal (script.the_row).coded x y
