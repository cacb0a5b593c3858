-- What is in force, with one more entry that is no Reload.
use Rattle.std.proofs.Common.{◌≡◌, ℕ, ◌+◌, List, [], ◌∷◌, ◌++◌, length, map, cond, Bool, refl, ap, ◌∙◌, arith}
use Rattle.std.specs.Prelude.{None, count_by, fold, is_some}
use Rattle.ha_config.specs.declared.config.Automation.{Automation}
use Rattle.ha_config.specs.declared.config.Script.{Script}
use Rattle.ha_journal.specs.declared.entry.Entry.{Entry}
use Rattle.ha_journal.specs.Entries.{is_reload, reload_in}
use Rattle.ha_journal.specs.Force.{Force}
use Rattle.ha_journal.specs.Journal.{HasEntry, Journal, more, units}
use Rattle.ha_journal.proofs.ForceLaws.{force-still, units-more}
use Rattle.engine_parts.specs.Numbers.{AreFew, is_ascending, numbers_in, rule_numbers}

abbrev rules_of : Force → List ℕ
rules_of f = map {A = ℕ × Automation} {B = ℕ} (λ p. p.0) f.rules

abbrev numbers_of : Force → List ℕ
numbers_of f = rules_of f ++ map {A = ℕ × Script} {B = ℕ} (λ p. p.0) f.scripts

count-snoc : {X : Type 0} (p : X → Bool) (n : ℕ) (xs : List X) (x : X) → fold (λ m y. m + cond (p y) 1 0) n (xs ++ (x ∷ [])) ≡ fold (λ m y. m + cond (p y) 1 0) n xs + cond (p x) 1 0
count-snoc p n [] x = refl
count-snoc p n (y ∷ ys) x = count-snoc p (n + cond (p y) 1 0) ys x

module _ (j : Journal) (x : Entry) (some : HasEntry j) (reloads : reload_in x ≡ None) where
  abbrev k : Journal
  k = more j x

  -- LAW: the numbers are the same
  pub numbers-more : numbers_in j ≡ numbers_in k
  numbers-more = (λ i. numbers_of (force-still j x some reloads i))

  pub ascending-more : is_ascending (rule_numbers j) ≡ is_ascending (rule_numbers k)
  ascending-more = (λ i. is_ascending (rules_of (force-still j x some reloads i)))

  pub count-more : count_by is_reload k ≡ count_by is_reload j
  count-more = count-snoc is_reload 0 j x ∙ (λ i. count_by is_reload j + cond (is_some (reloads i)) 1 0) ∙ omega arith

  -- LAW: and so few are the units
  pub few-more : AreFew j → AreFew k
  few-more few = record {
    reloads = omega (arith, few.reloads, count-more);
    units = (let same = ap length (units-more j x some reloads) in omega (arith, few.units, same, count-more));
  }

  pub free-more : (free : ℕ) → free ≡ length (units j) → free ≡ length (units k)
  free-more free is = is ∙ ap length (units-more j x some reloads)
