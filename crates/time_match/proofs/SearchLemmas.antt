-- The search through seconds: one step of it, where no second fits, and that it is the one of passed seconds.
use Rattle.std.proofs.Common.{◌≡◌, ◌∙◌, ap, sym, refl, arith, ℕ, zero, suc, ◌-◌, ◌*◌, ◌/◌, ◌<◌, Bool, true, false, ◌||◌, List}
use Rattle.ha_clock.specs.Local.{second_of_day}
use Rattle.ha_clock.specs.Passed.{holds_in, passes_second, passed_count}
use Rattle.ha_config.specs.declared.config.TriggerRule.{TriggerRule}
use Rattle.ha_sight.specs.Rules.{passed, second_fits, has_times}

-- the second that is looked at fits
pub found : (test : ℕ → Bool) (zone : List ℕ) (n s : ℕ) → 0 < n → test (second_of_day zone (s * 1000)) ≡ true → holds_in zone test s n ≡ true
unfolding holds_in
found test zone zero s some h = absurd (omega arith)
found test zone (suc n) s some h = ap (λ b. b || holds_in zone test (s - 1) n) h

-- it does not, and the rest decides
pub behind : (test : ℕ → Bool) (zone : List ℕ) (n s : ℕ) → 0 < n → test (second_of_day zone (s * 1000)) ≡ false → holds_in zone test (s - 1) (n - 1) ≡ holds_in zone test s n
unfolding holds_in
behind test zone zero s some h = absurd (omega arith)
behind test zone (suc n) s some h =
    let less : suc n - 1 ≡ n = omega arith in
    ap (holds_in zone test (s - 1)) less ∙ sym (ap (λ b. b || holds_in zone test (s - 1) n) h)

-- no second is left
pub none_left : (test : ℕ → Bool) (zone : List ℕ) (n s : ℕ) → n ≡ 0 → holds_in zone test s n ≡ false
unfolding holds_in
none_left test zone zero s e = refl
none_left test zone (suc n) s e = absurd (omega arith)

-- where the test never holds
never : (test : ℕ → Bool) (zone : List ℕ) → ((s : ℕ) → test s ≡ false) → (n s : ℕ) → holds_in zone test s n ≡ false
unfolding holds_in
never test zone none zero s = refl
never test zone none (suc n) s = ap (λ b. b || holds_in zone test (s - 1) n) (none (second_of_day zone (s * 1000))) ∙ never test zone none n (s - 1)

no_time : (rule : TriggerRule) (s : ℕ) → has_times rule ≡ false → second_fits rule s ≡ false
no_time (TriggerRule.Time seconds) s h = absurd (cc)
no_time (TriggerRule.Pattern hours minutes seconds) s h = absurd (cc)
no_time (TriggerRule.State entities attribute from to) s h = refl
no_time (TriggerRule.Numeric entities attribute above below) s h = refl
no_time (TriggerRule.Event kinds pairs) s h = refl
no_time (TriggerRule.Template t) s h = refl
no_time TriggerRule.Start s h = refl

-- LAW: what is passed is found by the search
pub searched : (rule : TriggerRule) (zone : List ℕ) (from to : ℕ) → passed rule zone from to ≡ holds_in zone (second_fits rule) (to / 1000) (passed_count from to)
unfolding passes_second
searched rule zone from to = refl

-- LAW: no second fits a rule that has no times
pub no_times : (rule : TriggerRule) (zone : List ℕ) (from to : ℕ) → has_times rule ≡ false → passed rule zone from to ≡ false
no_times rule zone from to h = searched rule zone from to ∙ never (second_fits rule) zone (λ k. no_time rule k h) (passed_count from to) (to / 1000)
