-- Which units a configuration keeps that comes into force behind another.
use Rattle.std.specs.Prelude.{ℕ, Bool, ◌&&◌, ◌||◌, nat_eq, List}
use Rattle.std.specs.List.{list_any}
use Rattle.ha_config.specs.declared.config.Config.{Config}
use Rattle.ha_config.specs.Equality.{same_automation, same_script}
use Rattle.ha_journal.specs.Force.{Force}

-- the one of this number is equal in every field to one of the new ones
abbrev pub stands_again : {A : Type 0} → (A → A → Bool) → List (ℕ × A) → List A → ℕ → Bool
stands_again equal old new a = list_any (λ p. nat_eq p.0 a && list_any (equal p.1) new) old

-- the unit of this number is in force, and the configuration has one of its kind that is equal to it in every field
abbrev pub is_kept : Force → Config → ℕ → Bool
is_kept f c a = stands_again same_automation f.rules c.automations a || stands_again same_script f.scripts c.scripts a
