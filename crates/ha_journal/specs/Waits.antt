-- The end of a wait.
use Rattle.std.specs.Prelude.{ℕ, suc, ◌+◌, ◌*◌, ◌-◌, Bool, false, ◌||◌, nat_le, List, Option, is_some, find, length, map, option_map, pos}
use Rattle.std.specs.Option.{option_map_or}
use Rattle.ha_value.specs.declared.value.Num.{Num}
use Rattle.ha_value.specs.declared.value.Value.{Value}
use Rattle.ha_sight.specs.declared.waiting.WaitEnd.{WaitEnd}
use Rattle.ha_config.specs.Words.{first_of_list}
use Rattle.ha_journal.specs.Journal.{Journal}
use Rattle.ha_sight.specs.Templates.{rendered, says}
use Rattle.ha_journal.specs.Moves.{sight}
use Rattle.ha_journal.specs.Holds.{between}
use Rattle.ha_journal.specs.Triggers.{firings}
use Rattle.ha_sight.specs.Scripts.{Ask}

module _ (j : Journal) where
  -- what the listed triggers that fire at place q give, in order of trigger and entity
  abbrev pub all_fired : Ask → ℕ → ℕ → List Value
  all_fired ask p q = map (λ f. f.variables) (firings j ask.triggers p q)

  -- the wait that began at p completes at q
  abbrev pub completes : Ask → ℕ → ℕ → Bool
  completes ask p q =
      option_map_or (λ t. says (rendered (sight j (suc q)) t ask.env)) ask.test false
      || is_some (first_of_list (all_fired ask p q))

  -- its timeout is over at q
  abbrev pub is_over : Ask → ℕ → ℕ → Bool
  is_over ask p q = option_map_or (λ d. nat_le ((sight j (suc p)).now + d) (sight j (suc q)).now) ask.timeout false

  abbrev pub end_at : Ask → ℕ → ℕ → WaitEnd
  end_at ask p q = record {
    place = q;
    done = completes ask p q;
    remaining = option_map (λ d. Num.Fixed (pos (1000 * ((sight j (suc p)).now + d - (sight j (suc q)).now)))) ask.timeout;
    trigger = first_of_list (all_fired ask p q);
  }

  -- the end, within the journal, of a wait that began at place p: its first place
  abbrev pub wait_end : Ask → ℕ → Option WaitEnd
  wait_end ask p = option_map (end_at ask p) (find (λ q. completes ask p q || is_over ask p q) (between j p (length j - 1)))
