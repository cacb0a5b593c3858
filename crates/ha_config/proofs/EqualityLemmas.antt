-- Two automations, and two scripts, are the same where they are equal, and only there.
use Rattle.std.proofs.Common.{◌≡◌, ℕ, Bool, true, false, refl, sym, ap, subst, ◌∙◌, rules}
use Rattle.std.specs.Prelude.{nat_eq, ◌&&◌, IsTrue, ◌↔◌}
use Rattle.std.proofs.lemmas.Bool.{eqb-true}
use base.Stored.{Gv, gnil, gnum, gcons}
use Rattle.ha_config.specs.declared.config.Automation.{Automation}
use Rattle.ha_config.specs.declared.config.Script.{Script}
use Rattle.ha_config.specs.contracts.config.Automation as rule
use Rattle.ha_config.specs.contracts.config.Script as script
use Rattle.ha_config.specs.Equality.{same_code, same_automation, same_script}

code-sound : (a b : Gv) → same_code a b ≡ true → a ≡ b
code-sound gnil gnil h = refl
code-sound gnil (gnum n) h = cc
code-sound gnil (gcons c d) h = cc
code-sound (gnum m) gnil h = cc
code-sound (gnum m) (gnum n) h = ap gnum (eqb-true m n h)
code-sound (gnum m) (gcons c d) h = cc
code-sound (gcons a b) gnil h = cc
code-sound (gcons a b) (gnum n) h = cc
code-sound (gcons a b) (gcons c d) h = (let e = code-sound a c (left (same_code a c) (same_code b d) h) in let f = code-sound b d (right (same_code a c) (same_code b d) h) in λ i. gcons (e i) (f i))
  where
    left : (p q : Bool) → (p && q) ≡ true → p ≡ true
    left true q h = refl
    left false q h = cc

    right : (p q : Bool) → (p && q) ≡ true → q ≡ true
    right true q h = h
    right false q h = cc

number-refl : (n : ℕ) → nat_eq n n ≡ true
number-refl n = search rules

code-refl : (a : Gv) → same_code a a ≡ true
code-refl gnil = refl
code-refl (gnum n) = number-refl n
code-refl (gcons a b) = (λ i. code-refl a i && same_code b b) ∙ code-refl b

pub rule-sound : (x y : Automation) → same_automation x y ≡ true → x ≡ y
unfolding same_automation
rule-sound x y h = (rule.the_row).coded.inj x y (code-sound ((rule.the_row).coded.code x) ((rule.the_row).coded.code y) h)

pub rule-refl : (x : Automation) → same_automation x x ≡ true
unfolding same_automation
rule-refl x = code-refl ((rule.the_row).coded.code x)

pub script-sound : (x y : Script) → same_script x y ≡ true → x ≡ y
unfolding same_script
script-sound x y h = (script.the_row).coded.inj x y (code-sound ((script.the_row).coded.code x) ((script.the_row).coded.code y) h)

pub script-refl : (x : Script) → same_script x x ≡ true
unfolding same_script
script-refl x = code-refl ((script.the_row).coded.code x)

-- LAW: a test of equality is the definition's
pub decided : {A : Type 0} (equal : A → A → Bool) (sound : (x y : A) → equal x y ≡ true → x ≡ y) (itself : (x : A) → equal x x ≡ true)
    → (b : Bool) (x y : A) → (IsTrue b ↔ (x ≡ y)) → b ≡ equal x y
decided equal sound itself true x y h = sym (subst (λ z. equal x z ≡ true) (h.0 refl) (itself x))
decided equal sound itself false x y h = by (equal x y) refl
  where
    by : (c : Bool) → equal x y ≡ c → false ≡ equal x y
    by true e = absurd (let bad : ◌≡◌ {A = Bool} false true = h.1 (sound x y e) in cc)
    by false e = sym e
