-- What becomes of numbers where a configuration comes into force behind another.
use Rattle.std.specs.Prelude.{◌≡◌, ℕ, Bool, ◌+◌, ◌++◌, not, List, length, map, filter, zip, take, drop}
use Rattle.ha_config.specs.declared.config.Automation.{Automation}
use Rattle.ha_config.specs.declared.config.Config.{Config}
use Rattle.ha_config.specs.declared.config.Script.{Script}
use Rattle.ha_config.specs.Equality.{same_automation, same_script}
use Rattle.ha_config.specs.Numbered.{numbered, fresh, keeps_number}
use Rattle.conf_reload.specs.declared.outcome.Plan.{Plan}

abbrev pub numbers_of : {A : Type 0} → List (ℕ × A) → List ℕ
numbers_of ps = map (λ p. p.0) ps

-- of the numbers of a kind those that one which comes into force keeps, and those that none keeps
abbrev pub kept_of : {A : Type 0} → (A → A → Bool) → List (ℕ × A) → List ℕ → List A → List ℕ
kept_of equal old numbers new = filter (keeps_number equal old new) numbers

abbrev pub gone_of : {A : Type 0} → (A → A → Bool) → List (ℕ × A) → List ℕ → List A → List ℕ
gone_of equal old numbers new = filter (λ n. not (keeps_number equal old new n)) numbers

-- the plan of one kind, from what is in force of it to what comes into force, where `free` is the next free number
pub record IsPlanOf {A : Type 0} (equal : A → A → Bool) (old : List (ℕ × A)) (numbers : List ℕ) (free : ℕ) (new : List A) (p : Plan) : Type 0 where
  pub numbers_are : p.numbers ≡ numbers_of (numbered equal old free new)
  pub kept_are : p.kept ≡ kept_of equal old numbers new
  pub gone_are : p.gone ≡ gone_of equal old numbers new
  pub free_is : p.free ≡ free + length (fresh equal old new)

-- the numbers of a configuration's automations, and behind them those of its scripts
abbrev pub rule_numbers : Config → List ℕ → List ℕ
rule_numbers c numbers = take (length c.automations) numbers

abbrev pub script_numbers : Config → List ℕ → List ℕ
script_numbers c numbers = drop (length c.automations) numbers

-- the automations in force, and the scripts in force, each with its number
abbrev pub rules_in : Config → List ℕ → List (ℕ × Automation)
rules_in c numbers = zip (rule_numbers c numbers) c.automations

abbrev pub scripts_in : Config → List ℕ → List (ℕ × Script)
scripts_in c numbers = zip (script_numbers c numbers) c.scripts

-- the next free number behind the new automations: the first of the new scripts gets it
abbrev pub free_behind : Config → List ℕ → ℕ → Config → ℕ
free_behind old numbers free new = free + length (fresh same_automation (rules_in old numbers) new.automations)

-- the plan from a configuration whose units have these numbers, its automations first, to another one
pub record IsPlan (old : Config) (numbers : List ℕ) (free : ℕ) (new : Config) (p : Plan) : Type 0 where
  pub numbers_are : p.numbers ≡ numbers_of (numbered same_automation (rules_in old numbers) free new.automations)
      ++ numbers_of (numbered same_script (scripts_in old numbers) (free_behind old numbers free new) new.scripts)
  pub kept_are : p.kept ≡ kept_of same_automation (rules_in old numbers) (rule_numbers old numbers) new.automations
      ++ kept_of same_script (scripts_in old numbers) (script_numbers old numbers) new.scripts
  pub gone_are : p.gone ≡ gone_of same_automation (rules_in old numbers) (rule_numbers old numbers) new.automations
      ++ gone_of same_script (scripts_in old numbers) (script_numbers old numbers) new.scripts
  pub free_is : p.free ≡ free_behind old numbers free new + length (fresh same_script (scripts_in old numbers) new.scripts)
