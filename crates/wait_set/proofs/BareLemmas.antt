-- A wait without template, triggers and due is ended by no entry.
use Rattle.std.proofs.Common.{◌≡◌, ℕ, suc, ◌+◌, ◌-◌, List, [], ◌∷◌, length, Bool, true, false, refl, sym, ap, ◌∙◌, Option, ◌||◌, arith}
use Rattle.std.proofs.lemmas.Bool.Decides.{nat_tests}
use Rattle.std.specs.Prelude.{Some, None, ◌&&◌, find, is_none, is_some, map, nat_eq, nat_le, option_map, if◌then◌else◌}
use Rattle.std.specs.Option.{option_map_or}
use Rattle.ha_config.specs.declared.config.Trigger.{Trigger}
use Rattle.ha_config.specs.declared.template.Template.{Template}
use Rattle.ha_config.specs.Words.{first_of_list, or_else}
use Rattle.ha_config.proofs.EqualLemmas.{and_left, and_right}
use Rattle.ha_journal.specs.Holds.{between}
use Rattle.ha_journal.specs.Journal.{Journal}
use Rattle.ha_journal.specs.Moves.{sight}
use Rattle.ha_journal.specs.Triggers.{firings}
use Rattle.ha_journal.specs.Waits.{completes, end_at, is_over, wait_end}
use Rattle.ha_journal.specs.declared.firing.Firing.{Firing}
use Rattle.ha_sight.specs.declared.waiting.WaitAsk.{WaitAsk}
use Rattle.ha_sight.specs.declared.waiting.WaitEnd.{WaitEnd}
use Rattle.ha_sight.specs.Scripts.{Ask, Branch}
use Rattle.ha_sight.specs.Sight.{Sight}
use Rattle.ha_sight.specs.Templates.{rendered, says}
use Rattle.wait_set.specs.declared.asked.Asked.{Asked}
use Rattle.wait_set.specs.Asked.{end_now, end_with, fired_values, is_bare, is_of, noted, noted_one, wait_of}
use Rattle.wait_set.specs.Stands.{IsAsk}

find-none : (f : ℕ → Bool) (xs : List ℕ) → ((x : ℕ) → f x ≡ false) → find f xs ≡ None
find-none f [] h = refl
find-none f (x ∷ xs) h = (λ i. if h x i then Some x else find f xs) ∙ find-none f xs h

module _ (j : Journal) (ask : Ask) (p : ℕ) (test : ask.test ≡ None) (triggers : ask.triggers ≡ []) (timeout : ask.timeout ≡ None) where
  never : (q : ℕ) → (completes j ask p q || is_over j ask p q) ≡ false
  never q = λ i.
      (option_map_or (λ t. says (rendered (sight j (suc q)) t ask.env)) (test i) false || is_some (first_of_list (map (λ f. f.variables) (firings j (triggers i) p q))))
      || option_map_or (λ d. nat_le ((sight j (suc p)).now + d) (sight j (suc q)).now) (timeout i) false

  bare-ends : wait_end j ask p ≡ None
  bare-ends = ap (option_map (end_at j ask p)) (find-none (λ q. completes j ask p q || is_over j ask p q) (between j p (length j - 1)) never)

pub no-test : (o : Option Template) → is_none o ≡ true → o ≡ None
no-test None h = refl
no-test (Some t) h = absurd (let bad : ◌≡◌ {A = Bool} false true = h in cc)

pub no-time : (o : Option ℕ) → is_none o ≡ true → o ≡ None
no-time None h = refl
no-time (Some d) h = absurd (let bad : ◌≡◌ {A = Bool} false true = h in cc)

some-long : (n : ℕ) → nat_eq (suc n) 0 ≡ false
some-long n = grind (arith, nat_tests)

pub no-trigger : (xs : List Trigger) → nat_eq (length xs) 0 ≡ true → xs ≡ []
no-trigger [] h = refl
no-trigger (x ∷ xs) h = absurd (let bad : ◌≡◌ {A = Bool} false true = sym (some-long (length xs)) ∙ h in cc)

-- the timeout of an ask whose due is none
no-due : (n : ℕ) (o : Option ℕ) → option_map (λ d. n + d) o ≡ None → o ≡ None
no-due n None h = refl
no-due n (Some d) h = absurd (let bad : ◌≡◌ {A = Option ℕ} (Some (n + d)) None = h in cc)

-- LAW: whatever script asked a bare wait, by its definition it never ends
pub bare-never : (j : Journal) (p : ℕ) (given : WaitAsk) (ask : Ask) → is_bare given ≡ true → IsAsk j p given ask → wait_end j ask p ≡ None
bare-never j p given ask bare is =
    let front = and_left (is_none given.test && nat_eq (length given.triggers) 0) (is_none given.due) bare in
    let due = no-time given.due (and_right (is_none given.test && nat_eq (length given.triggers) 0) (is_none given.due) bare) in
    bare-ends j ask p
    (sym is.test ∙ no-test given.test (and_left (is_none given.test) (nat_eq (length given.triggers) 0) front))
    (sym is.triggers ∙ no-trigger given.triggers (and_right (is_none given.test) (nat_eq (length given.triggers) 0) front))
    (no-due (sight j (suc p)).now ask.timeout (sym is.due ∙ due))

-- ---- behind an entry

none-else : (e : Option WaitEnd) → or_else e None ≡ e
none-else None = refl
none-else (Some w) = refl

module _ (q : ℕ) (s : Sight) (fired : List Firing) where
  ends-none : (a : Asked) → is_bare a.ask ≡ true → fired_values a.owner fired ≡ [] → end_now q s (fired_values a.owner fired) a.ask ≡ None
  ends-none a bare none =
      let front = and_left (is_none a.ask.test && nat_eq (length a.ask.triggers) 0) (is_none a.ask.due) bare in
      let test = no-test a.ask.test (and_left (is_none a.ask.test) (nat_eq (length a.ask.triggers) 0) front) in
      let due = no-time a.ask.due (and_right (is_none a.ask.test && nat_eq (length a.ask.triggers) 0) (is_none a.ask.due) bare) in
      (λ i. if (option_map_or (λ t. says (rendered s t a.ask.env)) (test i) false || is_some (first_of_list (none i))) || option_map_or (λ d. nat_le d s.now) (due i) false
      then Some (end_with q s (fired_values a.owner fired) a.ask) else None)

  stays : (a : Asked) → is_bare a.ask ≡ true → fired_values a.owner fired ≡ [] → noted_one q s fired a ≡ a
  stays a bare none = (λ i. record { owner = a.owner; place = a.place; ask = a.ask; end = (ap (or_else a.end) (ends-none a bare none) ∙ none-else a.end) i })

  -- LAW: an entry at which nothing fires for it leaves a bare wait as it is
  pub bare-left : (n : ℕ) (b : Branch) (asks : List Asked) (a : Asked) → wait_of n b asks ≡ Some a → is_bare a.ask ≡ true → fired_values a.owner fired ≡ []
      → wait_of n b (noted q s fired asks) ≡ Some a
  bare-left n b [] a found bare none = absurd (let bad : ◌≡◌ {A = Option Asked} None (Some a) = found in cc)
  bare-left n b (z ∷ zs) a found bare none = by (is_of n b z) refl found (λ rest. bare-left n b zs a rest bare none)
    where
      same : Some z ≡ Some a → z ≡ a
      same h = cc

      by : (t : Bool) → is_of n b z ≡ t → (if t then Some z else wait_of n b zs) ≡ Some a → (wait_of n b zs ≡ Some a → wait_of n b (noted q s fired zs) ≡ Some a)
          → wait_of n b (noted q s fired (z ∷ zs)) ≡ Some a
      by true e got more =
          (λ k. if e k then Some (noted_one q s fired z) else wait_of n b (noted q s fired zs))
          ∙ ap (λ (x : Asked). Some (noted_one q s fired x)) (same got) ∙ ap Some (stays a bare none)
      by false e got more = (λ k. if e k then Some (noted_one q s fired z) else wait_of n b (noted q s fired zs)) ∙ more got
