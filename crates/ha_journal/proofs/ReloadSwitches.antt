-- The switches after a Reload, from those before it: what is kept has its switch, and what comes into force its initial state, else the
-- switch of its name, else on.
use Rattle.std.proofs.Common.{◌≡◌, ℕ, ◌≤◌, ◌⊎◌, inl, inr, List, [], ◌∷◌, length, map, Bool, true, false, refl, sym, ap, subst, ◌∙◌, arith, Option}
use Rattle.std.specs.Prelude.{Some, None, nat_eq, find, slice_get, option_map, unwrap_or, ◌||◌, if◌then◌else◌}
use Rattle.std.specs.Option.{option_map_or}
use Rattle.std.proofs.lemmas.Bool.{eqb-true}
use Rattle.ha_config.specs.declared.config.Automation.{Automation}
use Rattle.ha_config.specs.declared.config.Config.{Config}
use Rattle.ha_config.specs.Equality.{same_automation}
use Rattle.ha_config.specs.Names.{named_among, stored_switch}
use Rattle.ha_config.specs.Numbered.{AreUnits, has_number, numbered}
use Rattle.ha_config.specs.Words.{Text, same}
use Rattle.ha_config.proofs.ListLemmas.{true-false}
use Rattle.ha_config.proofs.NumberedLemmas.{AreNumbers, are-numbers, number-below}
use Rattle.ha_journal.specs.declared.entry.Entry.{Entry}
use Rattle.ha_journal.specs.Entries.{reload_in}
use Rattle.ha_journal.specs.Force.{Force}
use Rattle.ha_journal.specs.Journal.{HasEntry, Journal, in_force, more, units}
use Rattle.ha_journal.specs.States.{switches_of}
use Rattle.ha_journal.specs.Switches.{is_on}
use Rattle.ha_journal.proofs.ForceLaws.{force-reloaded, in-force-units}
use Rattle.ha_journal.proofs.SinceLaws.{on-kept}
use Rattle.ha_journal.proofs.SwitchLemmas.{on-enters}

-- the switch of a number, among those in force
abbrev pub flag_at : (ℕ → Bool) → List (ℕ × Automation) → ℕ → Option Bool
flag_at on old n = option_map (λ p. on p.0) (find (λ p. nat_eq p.0 n) old)

abbrev pub switches_by : (ℕ → Bool) → List (ℕ × Automation) → List (Text × Bool)
switches_by on old = map (λ p. (p.1.name, on p.0)) old

-- the switch with which one of the new configuration goes on
abbrev pub flag_after : (ℕ → Bool) → List (ℕ × Automation) → ℕ × Automation → Bool
flag_after on old p = unwrap_or (flag_at on old p.0) (unwrap_or p.1.initial (unwrap_or (stored_switch p.1.name (switches_by on old)) true))

stored-named : (on : ℕ → Bool) (old : List (ℕ × Automation)) (name : Text) → stored_switch name (switches_by on old) ≡ option_map on (named_among old name)
stored-named on [] name = refl
stored-named on (p ∷ old) name = (λ i. if same p.1.name name then Some (on p.0) else stored-named on old name i) ∙ by (same p.1.name name)
  where
    by : (b : Bool) → (if b then Some (on p.0) else option_map on (named_among old name))
        ≡ option_map on (option_map {T = ℕ × Automation} (λ q. q.0) (if b then Some p else find (λ q. same q.1.name name) old))
    by true = refl
    by false = refl

flag-there : (on : ℕ → Bool) (old : List (ℕ × Automation)) (n : ℕ) → has_number old n ≡ true → flag_at on old n ≡ Some (on n)
flag-there on [] n h = absurd (true-false (sym h))
flag-there on (p ∷ old) n h = by (nat_eq p.0 n) refl (λ g. flag-there on old n g)
  where
    by : (b : Bool) → nat_eq p.0 n ≡ b → (has_number old n ≡ true → flag_at on old n ≡ Some (on n)) → flag_at on (p ∷ old) n ≡ Some (on n)
    by true e rec = (λ i. option_map {T = ℕ × Automation} (λ q. on q.0) (if e i then Some p else find (λ q. nat_eq q.0 n) old)) ∙ ap (λ m. Some (on m)) (eqb-true p.0 n e)
    by false e rec =
        (λ i. option_map {T = ℕ × Automation} (λ q. on q.0) (if e i then Some p else find (λ q. nat_eq q.0 n) old))
        ∙ rec ((λ i. sym e i || has_number old n) ∙ h)

flag-none : (on : ℕ → Bool) (old : List (ℕ × Automation)) (n : ℕ) → has_number old n ≡ false → flag_at on old n ≡ None
flag-none on [] n h = refl
flag-none on (p ∷ old) n h = by (nat_eq p.0 n) refl (λ g. flag-none on old n g)
  where
    by : (b : Bool) → nat_eq p.0 n ≡ b → (has_number old n ≡ false → flag_at on old n ≡ None) → flag_at on (p ∷ old) n ≡ None
    by true e rec = absurd (true-false ((λ i. sym e i || has_number old n) ∙ h))
    by false e rec =
        (λ i. option_map {T = ℕ × Automation} (λ q. on q.0) (if e i then Some p else find (λ q. nat_eq q.0 n) old))
        ∙ rec ((λ i. sym e i || has_number old n) ∙ h)

module _ (j : Journal) (x : Entry) (c : Config) (some : HasEntry j) (e : reload_in x ≡ Some c) where
  one : (p : ℕ × Automation) → (has_number (in_force j) p.0 ≡ true) ⊎ (length (units j) ≤ p.0) → slice_get (units (more j x)) p.0 ≡ Some p.1
      → flag_after (is_on j) (in_force j) p ≡ is_on (more j x) p.0
  one p (inl h) at =
      (λ i. unwrap_or (flag-there (is_on j) (in_force j) p.0 h i) (unwrap_or p.1.initial (unwrap_or (stored_switch p.1.name (switches_by (is_on j) (in_force j))) true)))
      ∙ sym (on-kept j x c p.0 some e (number-below (λ (z : Automation). z) (units j) (in_force j) p.0 (in-force-units j) h))
  one p (inr le) at = by (has_number (in_force j) p.0) refl
    where
      by : (b : Bool) → has_number (in_force j) p.0 ≡ b → flag_after (is_on j) (in_force j) p ≡ is_on (more j x) p.0
      by true h = absurd (omega (arith, le, number-below (λ (z : Automation). z) (units j) (in_force j) p.0 (in-force-units j) h))
      by false h =
          (λ i. unwrap_or (flag-none (is_on j) (in_force j) p.0 h i) (unwrap_or p.1.initial (unwrap_or (stored-named (is_on j) (in_force j) p.1.name i) true)))
          ∙ (λ i. unwrap_or p.1.initial (mapped (named_among (in_force j) p.1.name) i))
          ∙ sym (on-enters j x c p.0 p.1 some e le at)
        where
          mapped : (o : Option ℕ) → unwrap_or (option_map (is_on j) o) true ≡ option_map_or (is_on j) o true
          mapped None = refl
          mapped (Some a) = refl

  all : (ps : List (ℕ × Automation)) → AreNumbers same_automation (in_force j) (length (units j)) ps → AreUnits (λ (z : Automation). z) (units (more j x)) ps
      → map {A = ℕ × Automation} {B = Text × Bool} (λ p. (p.1.name, flag_after (is_on j) (in_force j) p)) ps ≡ map {A = ℕ × Automation} {B = Text × Bool} (λ p. (p.1.name, is_on (more j x) p.0)) ps
  all [] h are = refl
  all (p ∷ ps) h are = λ i. (p.1.name, one p h.0 are.0 i) ∷ all ps h.1 are.1 i

  now-in-force : in_force (more j x) ≡ numbered same_automation (in_force j) (length (units j)) c.automations
  now-in-force = ap (λ (f : Force). f.rules) (force-reloaded j x c some e)

  -- LAW: the switches after a Reload
  pub switches-reloaded : map {A = ℕ × Automation} {B = Text × Bool} (λ p. (p.1.name, flag_after (is_on j) (in_force j) p)) (in_force (more j x)) ≡ switches_of (more j x)
  switches-reloaded =
      all (in_force (more j x))
      (subst (AreNumbers same_automation (in_force j) (length (units j))) (sym now-in-force) (are-numbers same_automation (in_force j) (length (units j)) c.automations))
      (in-force-units (more j x))
