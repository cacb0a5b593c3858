-- The numbers of what is in force.
use Rattle.std.specs.Prelude.{ℕ, suc, ◌+◌, ◌*◌, ◌≤◌, Bool, true, ◌&&◌, ◌++◌, nat_le, List, [], ◌∷◌, count_by, length, map}
use Rattle.ha_config.specs.declared.config.Automation.{Automation}
use Rattle.ha_config.specs.declared.config.Script.{Script}
use Rattle.ha_config.specs.Fair.{most_reloads}
use Rattle.ha_journal.specs.Entries.{is_reload}
use Rattle.ha_journal.specs.Force.{force}
use Rattle.ha_journal.specs.Journal.{Journal, in_force, units}

-- of the automations in force, as configured
abbrev pub rule_numbers : Journal → List ℕ
rule_numbers j = map {A = ℕ × Automation} {B = ℕ} (λ p. p.0) (in_force j)

-- of all units in force, automations first
abbrev pub numbers_in : Journal → List ℕ
numbers_in j = rule_numbers j ++ map {A = ℕ × Script} {B = ℕ} (λ p. p.0) (force j).scripts

-- they ascend, from n on
abbrev pub ascends_from : ℕ → List ℕ → Bool
ascends_from n [] = true
ascends_from n (m ∷ ms) = nat_le n m && ascends_from (suc m) ms

abbrev pub is_ascending : List ℕ → Bool
is_ascending = ascends_from 0

-- there are few units: each configuration has at most 1,024 automations and 1,024 scripts
pub record AreFew (j : Journal) : Type 0 where
  pub reloads : count_by is_reload j ≤ most_reloads
  pub units : length (units j) ≤ 2048 * suc (count_by is_reload j)
