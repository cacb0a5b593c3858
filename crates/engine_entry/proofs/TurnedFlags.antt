-- The switches of automations that an entry turns, one after the other.
use Rattle.std.proofs.Common.{◌≡◌, ℕ, ◌-◌, ◌<◌, List, [], ◌∷◌, length, take, Bool, true, false, refl, sym, ap, ◌∙◌, arith}
use Rattle.std.specs.Prelude.{Some, None, find, is_some, map, not, nat_eq, option_map, ◌&&◌, ◌||◌, if◌then◌else◌}
use Rattle.std.specs.List.{list_any}
use Rattle.std.specs.Option.{option_map_or}
use Rattle.ha_config.specs.declared.config.Automation.{Automation}
use Rattle.ha_config.specs.Equal.{same_flag}
use Rattle.ha_config.specs.Numbered.{has_number}
use Rattle.ha_config.specs.Words.{Text, last_of}
use Rattle.ha_journal.specs.declared.entry.Entry.{Entry}
use Rattle.ha_journal.specs.Entries.{is_reload, reload_in}
use Rattle.ha_journal.specs.Journal.{Journal, HasEntry, in_force, more}
use Rattle.ha_journal.specs.Sights.{changes_switch, renames}
use Rattle.ha_journal.specs.Switches.{is_on}
use Rattle.ha_journal.proofs.ForceLaws.{in-force-more}
use Rattle.ha_journal.proofs.MoreLemmas.{length-more}
use Rattle.ha_journal.proofs.SinceLaws.{take-before}
use Rattle.ha_journal.proofs.StateLemmas.{last_of-snoc}
use Rattle.ha_sight.specs.Sight.{Automations, switch_at}
use Rattle.switch_book.specs.Book.{StandsFor, Switch, with_switch}
use Rattle.engine_entry.specs.Turned.{FlagsBetween, is_target, less, stage}
use Rattle.engine_entry.proofs.PlaceLemmas.{apart-of, eq-of, eq-self}

flag-self : (b : Bool) → not (same_flag b b) ≡ false
flag-self true = refl
flag-self false = refl

-- automations with their numbers
abbrev Rules : Type 0
Rules = List (ℕ × Automation)

none-of : (test : ℕ × Automation → Bool) (ps : Rules) → ((p : ℕ × Automation) → has_number ps p.0 ≡ true → test p ≡ false) → list_any test ps ≡ false
none-of test [] none = refl
none-of test (p ∷ ps) none =
    (λ i. none p (λ k. eq-self p.0 k || has_number ps p.0) i || none-of test ps (λ q there. none q ((λ k. nat_eq p.0 q.0 || there k) ∙ or-true (nat_eq p.0 q.0))) i)
  where
    or-true : (b : Bool) → (b || true) ≡ true
    or-true true = refl
    or-true false = refl

-- ---- what a call of `set` says

-- LAW: the answer says whether the switch was another
pub moved-from : (was on moved : Bool) → was ≡ same_flag on (not moved) → moved ≡ not (same_flag was on)
moved-from true true true e = absurd (let bad : ◌≡◌ {A = Bool} true false = e in cc)
moved-from true true false e = refl
moved-from true false true e = refl
moved-from true false false e = absurd (let bad : ◌≡◌ {A = Bool} true false = e in cc)
moved-from false true true e = refl
moved-from false true false e = absurd (let bad : ◌≡◌ {A = Bool} false true = e in cc)
moved-from false false true e = absurd (let bad : ◌≡◌ {A = Bool} false true = e in cc)
moved-from false false false e = refl

-- ---- whether one passes, with one number more

module _ (P Q : ℕ × Automation → Bool) (a : ℕ) (v : Bool) (same : (p : ℕ × Automation) → nat_eq p.0 a ≡ false → Q p ≡ P p) (none : (p : ℕ × Automation) → nat_eq p.0 a ≡ true → P p ≡ false)
    (own : (p : ℕ × Automation) → nat_eq p.0 a ≡ true → Q p ≡ v) where
  any-least : (ps : Rules) → list_any Q ps ≡ (if has_number ps a && v then true else list_any P ps)
  any-least [] = refl
  any-least (p ∷ ps) = (λ i. Q p || any-least ps i) ∙ by (nat_eq p.0 a) refl (has_number ps a)
    where
      here : (w c l : Bool) → (w || (if c && w then true else l)) ≡ (if w then true else (false || l))
      here true c l = refl
      here false true l = refl
      here false false l = refl

      later : (u c w l : Bool) → (u || (if c && w then true else l)) ≡ (if c && w then true else (u || l))
      later true true true l = refl
      later true true false l = refl
      later true false w l = refl
      later false true true l = refl
      later false true false l = refl
      later false false w l = refl

      by : (b : Bool) → nat_eq p.0 a ≡ b → (c : Bool) → (Q p || (if c && v then true else list_any P ps)) ≡ (if (b || c) && v then true else (P p || list_any P ps))
      by true e c = (λ i. own p e i || (if c && v then true else list_any P ps)) ∙ here v c (list_any P ps) ∙ sym (λ i. if v then true else (none p e i || list_any P ps))
      by false e c = (λ i. same p e i || (if c && v then true else list_any P ps)) ∙ later (P p) c v (list_any P ps)

  pub any-more : (ps : Rules) → has_number ps a ≡ true → list_any Q ps ≡ (if v then true else list_any P ps)
  any-more ps there = any-least ps ∙ (λ i. if there i && v then true else list_any P ps)

-- ---- between two journals

-- the switches of automations in force, where each is so
abbrev pub told : Rules → (ℕ → Bool) → Automations
told ps on = map {A = ℕ × Automation} {B = ℕ × Text × Bool} (λ p. (p.0, p.1.name, on p.0)) ps

told-same : (ps : Rules) (f g : ℕ → Bool) → ((p : ℕ × Automation) → has_number ps p.0 ≡ true → f p.0 ≡ g p.0) → told ps f ≡ told ps g
told-same [] f g h = refl
told-same (p ∷ ps) f g h =
    (λ i. (p.0, p.1.name, h p (λ k. eq-self p.0 k || has_number ps p.0) i) ∷ told-same ps f g (λ q there. h q ((λ k. nat_eq p.0 q.0 || there k) ∙ or-true (nat_eq p.0 q.0))) i)
  where
    or-true : (b : Bool) → (b || true) ≡ true
    or-true true = refl
    or-true false = refl

told-set : (ps : Rules) (f : ℕ → Bool) (a : ℕ) (on : Bool) → with_switch a on (told ps f) ≡ told ps (λ b. if nat_eq b a then on else f b)
told-set [] f a on = refl
told-set (p ∷ ps) f a on = ap (λ l. (p.0, p.1.name, if nat_eq p.0 a then on else f p.0) ∷ l) (told-set ps f a on)

told-at : (ps : Rules) (f : ℕ → Bool) (a : ℕ) → has_number ps a ≡ true → switch_at (told ps f) a ≡ Some (f a)
told-at [] f a e = absurd (let bad : ◌≡◌ {A = Bool} false true = e in cc)
told-at (p ∷ ps) f a e = by (nat_eq p.0 a) refl e (told-at ps f a)
  where
    by : (b : Bool) → nat_eq p.0 a ≡ b → (b || has_number ps a) ≡ true → (has_number ps a ≡ true → switch_at (told ps f) a ≡ Some (f a))
        → option_map {T = Switch} (λ q. q.2) (if b then Some (p.0, p.1.name, f p.0) else find (λ q. nat_eq q.0 a) (told ps f)) ≡ Some (f a)
    by true is h rec = (λ i. Some (f (eq-of p.0 a is i)))
    by false is h rec = rec h

module _ (j : Journal) (x : Entry) (some : HasEntry j) (reloads : reload_in x ≡ None) where
  -- LAW: those that are not left are as they were
  pub flags-begin : (left : ℕ → Bool) → ((a : ℕ) → has_number (in_force j) a ≡ true → left a ≡ false → is_on (more j x) a ≡ is_on j a) → (s : Automations) → StandsFor s j → FlagsBetween j (more j x) left s false
  flags-begin left others s stands = record {
    flags_are = stands ∙ told-same (in_force j) (is_on j) (λ b. is_on (stage left j (more j x) b) b) (λ p there. by p there (left p.0) refl);
    changed_is = sym (none-of (λ p. not (left p.0) && not (same_flag (is_on j p.0) (is_on (more j x) p.0))) (in_force j) (λ p there. none p there (left p.0) refl));
  }
    where
      by : (p : ℕ × Automation) → has_number (in_force j) p.0 ≡ true → (b : Bool) → left p.0 ≡ b → is_on j p.0 ≡ is_on (if b then j else more j x) p.0
      by p there true e = refl
      by p there false e = sym (others p.0 there e)

      none : (p : ℕ × Automation) → has_number (in_force j) p.0 ≡ true → (b : Bool) → left p.0 ≡ b → (not b && not (same_flag (is_on j p.0) (is_on (more j x) p.0))) ≡ false
      none p there true e = refl
      none p there false e = (λ i. not (same_flag (is_on j p.0) (others p.0 there e i))) ∙ flag-self (is_on j p.0)

  module _ (left : ℕ → Bool) (a : ℕ) (is_left : left a ≡ true) (known : has_number (in_force j) a ≡ true) (on : Bool) (is : is_on (more j x) a ≡ on) where
    own-done : less left a a ≡ false
    own-done = (λ i. is_left i && not (eq-self a i))

    -- LAW: the switch of the number is there
    pub flag-there : (s : Automations) (changed : Bool) → FlagsBetween j (more j x) left s changed → switch_at s a ≡ Some (is_on j a)
    flag-there s changed h =
        (λ i. switch_at (h.flags_are i) a) ∙ told-at (in_force j) (λ b. is_on (stage left j (more j x) b) b) a known ∙ (λ i. Some (is_on (if is_left i then j else more j x) a))

    -- LAW: whether the switch moves
    pub flag-moves : (s : Automations) (changed moved : Bool) → FlagsBetween j (more j x) left s changed → switch_at s a ≡ Some (same_flag on (not moved)) → moved ≡ not (same_flag (is_on j a) (is_on (more j x) a))
    flag-moves s changed moved h e =
        (let was : Some (is_on j a) ≡ Some (same_flag on (not moved)) = sym (flag-there s changed h) ∙ e in
        let own : is_on j a ≡ same_flag on (not moved) = cc in
        moved-from (is_on j a) on moved own ∙ (λ i. not (same_flag (is_on j a) (sym is i))))

    -- LAW: with one switch set
    pub flags-set : (s s' : Automations) (changed moved : Bool) → FlagsBetween j (more j x) left s changed → s' ≡ with_switch a on s → switch_at s a ≡ Some (same_flag on (not moved))
        → FlagsBetween j (more j x) (less left a) s' (if moved then true else changed)
    flags-set s s' changed moved h are e = record {
      flags_are = are ∙ ap (with_switch a on) h.flags_are ∙ told-set (in_force j) (λ b. is_on (stage left j (more j x) b) b) a on
          ∙ told-same (in_force j) (λ b. if nat_eq b a then on else is_on (stage left j (more j x) b) b) (λ b. is_on (stage (less left a) j (more j x) b) b) (λ p there. by p.0 (nat_eq p.0 a) refl (left p.0));
      changed_is = (λ i. if moved then true else h.changed_is i)
          ∙ sym (any-more (λ p. not (left p.0) && not (same_flag (is_on j p.0) (is_on (more j x) p.0))) (λ p. not (less left a p.0) && not (same_flag (is_on j p.0) (is_on (more j x) p.0))) a moved others own-none own-moved (in_force j) known);
    }
      where
        keep : (u : Bool) → (u && true) ≡ u
        keep true = refl
        keep false = refl

        gone : (u : Bool) → (u && false) ≡ false
        gone true = refl
        gone false = refl

        others : (p : ℕ × Automation) → nat_eq p.0 a ≡ false → (not (less left a p.0) && not (same_flag (is_on j p.0) (is_on (more j x) p.0))) ≡ (not (left p.0) && not (same_flag (is_on j p.0) (is_on (more j x) p.0)))
        others p off = (λ i. not (((λ k. left p.0 && not (off k)) ∙ keep (left p.0)) i) && not (same_flag (is_on j p.0) (is_on (more j x) p.0)))

        own-none : (p : ℕ × Automation) → nat_eq p.0 a ≡ true → (not (left p.0) && not (same_flag (is_on j p.0) (is_on (more j x) p.0))) ≡ false
        own-none p at = (λ i. not ((ap left (eq-of p.0 a at) ∙ is_left) i) && not (same_flag (is_on j p.0) (is_on (more j x) p.0)))

        own-moved : (p : ℕ × Automation) → nat_eq p.0 a ≡ true → (not (less left a p.0) && not (same_flag (is_on j p.0) (is_on (more j x) p.0))) ≡ moved
        own-moved p at =
            (λ i. not (less left a (eq-of p.0 a at i)) && not (same_flag (is_on j (eq-of p.0 a at i)) (is_on (more j x) (eq-of p.0 a at i))))
            ∙ (λ i. not (own-done i) && not (same_flag (is_on j a) (is_on (more j x) a))) ∙ sym (flag-moves s changed moved h e)

        by : (b : ℕ) (c : Bool) → nat_eq b a ≡ c → (u : Bool) → (if c then on else is_on (if u then j else more j x) b) ≡ is_on (if u && not c then j else more j x) b
        by b true at u =
            sym is ∙ ap (is_on (more j x)) (sym (eq-of b a at)) ∙ (λ i. is_on (if sym (gone u) i then j else more j x) b)
        by b false at u = (λ i. is_on (if sym (keep u) i then j else more j x) b)

  has-length : (i : Journal) → HasEntry i → 0 < length i
  has-length [] h = absurd h
  has-length (e ∷ es) h = omega arith

  -- LAW: when none is left they are those behind the entry
  pub flags-end : (s : Automations) (changed : Bool) → FlagsBetween j (more j x) (is_target []) s changed → StandsFor s (more j x) × (changed ≡ changes_switch (more j x))
  flags-end s changed h =
      (let first : nat_eq (length (more j x)) 1 ≡ false = apart-of (length (more j x)) 1 (λ e. omega (arith, e, length-more j x, has-length j some)) in
      let before : take (length (more j x) - 1) (more j x) ≡ j = (let n : length (more j x) - 1 ≡ length j = omega (arith, length-more j x) in ap (λ m. take m (more j x)) n ∙ take-before j x) in
      let plain : option_map_or is_reload (last_of (more j x)) false ≡ false = (λ i. option_map_or is_reload (last_of-snoc j x i) false) ∙ none-reloads reloads in
      let same : in_force j ≡ in_force (more j x) = in-force-more j x some reloads in (
        h.flags_are ∙ (λ i. told (same i) (is_on (more j x))),
        h.changed_is
            ∙ (λ i. list_any (λ p. not (same_flag (is_on j p.0) (is_on (more j x) p.0))) (same i))
            ∙ sym ((λ i. first i || changed_by (option_map_or is_reload (last_of (more j x)) false) (take (length (more j x) - 1) (more j x)))
            ∙ (λ i. changed_by (plain i) (before i))),
      ))
    where
      none-reloads : reload_in x ≡ None → is_reload x ≡ false
      none-reloads e = ap is_some e

      changed_by : Bool → Journal → Bool
      changed_by b was = if b then renames was (more j x) else list_any (λ p. not (same_flag (is_on was p.0) (is_on (more j x) p.0))) (in_force (more j x))
