-- At a Restart no trigger fires, so nothing is attempted there.
use Rattle.std.proofs.Common.{◌≡◌, ℕ, suc, List, [], ◌∷◌, length, Bool, true, false, refl, ◌∙◌, Option}
use Rattle.std.specs.Prelude.{Some, None, ◌&&◌, ◌||◌, find, nat_eq, nat_lt, if◌then◌else◌}
use Rattle.ha_value.specs.declared.value.EntityId.{EntityId}
use Rattle.ha_config.specs.declared.command.Cmd.{Cmd}
use Rattle.ha_config.specs.declared.config.Automation.{Automation}
use Rattle.ha_config.specs.declared.config.Trigger.{Trigger}
use Rattle.ha_config.specs.Words.{up_to}
use Rattle.ha_config.proofs.ListLemmas.{get-last}
use Rattle.ha_journal.specs.declared.entry.Entry.TheVariants.{Line}
use Rattle.ha_journal.specs.Journal.{Journal, automations, more}
use Rattle.ha_journal.specs.Holds.{fires}
use Rattle.ha_journal.specs.Attempts.{attempts, passing}
use Rattle.ha_journal.proofs.FiringLaws.{FiresNot, EachOf, EachTrigger, attempts-none, passing-none}

find-none : (f : ℕ → Bool) (xs : List ℕ) → ((x : ℕ) → f x ≡ false) → find f xs ≡ None
find-none f [] h = refl
find-none f (x ∷ xs) h = (λ i. if h x i then Some x else find f xs) ∙ find-none f xs h

module _ (j : Journal) (source number : ℕ) where
  abbrev restarted : Journal
  restarted = more j (Line source number Cmd.Restart)

  fires-not-at : (t : Trigger) (h : Option ℕ) (e : Option EntityId) (s i : ℕ) → fires restarted (record t { hold = h }) e s (length j) i ≡ false
  fires-not-at t None e s i = rw (get-last j (Line source number Cmd.Restart)) (no (nat_eq i (length j)) (nat_lt s (length j) || _))
    where
      no : (a b : Bool) → ((a && false) && b) ≡ false
      no true b = refl
      no false b = refl
  fires-not-at t (Some d) e s i = rw (get-last j (Line source number Cmd.Restart)) (no (nat_lt s i) _ _ _ _)
    where
      no : (a b c d f : Bool) → (((((a && b) && false) && c) && d) && f) ≡ false
      no true true c d f = refl
      no true false c d f = refl
      no false b c d f = refl

  -- LAW: at a Restart no trigger fires
  pub fires-not : (t : Trigger) → FiresNot restarted (length j) t
  fires-not t e s = find-none (fires restarted t e s (length j)) (up_to (suc (length j))) (λ i. fires-not-at t t.hold e s i)

  each-of : (ts : List Trigger) → EachOf (FiresNot restarted (length j)) ts
  each-of [] = tt
  each-of (t ∷ ts) = (fires-not t, each-of ts)

  each-trigger : (all : List Automation) → EachTrigger (FiresNot restarted (length j)) all
  each-trigger [] = tt
  each-trigger (a ∷ all) = (each-of a.triggers, each-trigger all)

  -- LAW: a Restart has no attempts
  pub restart-attempts-none : attempts restarted (length j) ≡ []
  restart-attempts-none = attempts-none j (Line source number Cmd.Restart) refl (each-trigger (automations restarted))

  -- LAW: so none passes there
  pub restart-passes-none : passing restarted ≡ []
  restart-passes-none = passing-none j (Line source number Cmd.Restart) restart-attempts-none
