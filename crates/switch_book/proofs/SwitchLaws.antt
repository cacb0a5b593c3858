-- The switches, entry by entry, stand for the journal.
use Rattle.std.proofs.Common.{◌≡◌, ℕ, suc, ◌+◌, List, [], ◌∷◌, map, Bool, true, false, not, ◌&&◌, ◌||◌, refl, sym, ap, ◌∙◌, arith, Option}
use Rattle.std.specs.Prelude.{Some, None, nat_eq, find, unwrap_or, slice_get, option_map, if◌then◌else◌}
use Rattle.std.specs.List.{list_any, enumerate_from}
use Rattle.std.specs.Option.{option_map_or}
use Rattle.std.proofs.lemmas.Bool.{eqb-true}
use Rattle.std.proofs.lemmas.Bool.Decides.{nat_tests}
use Rattle.ha_config.specs.declared.config.Automation.{Automation}
use Rattle.ha_config.specs.declared.config.Config.{Config}
use Rattle.ha_config.specs.declared.command.Cmd.{Cmd}
use Rattle.ha_config.specs.Words.{Text, same}
use Rattle.ha_config.specs.ValueFacts.{all_distinct, keys_of}
use Rattle.ha_config.specs.Names.{initial_of, name_of, names_of, stored_switch, unit_of}
use Rattle.ha_config.specs.Numbered.{AreUnits, has_number}
use Rattle.ha_config.specs.Units.{units_of}
use Rattle.ha_config.proofs.EqualLemmas.{same-refl, same-sound}
use Rattle.ha_config.proofs.ListLemmas.{true-false}
use Rattle.ha_journal.specs.declared.carry.Carry.{Carry}
use Rattle.ha_journal.specs.declared.entry.Entry.{Entry}
use Rattle.ha_journal.specs.declared.entry.Entry.TheVariants.{Boot, Line}
use Rattle.ha_journal.specs.Entries.{reload_in}
use Rattle.ha_journal.specs.Journal.{Journal, HasEntry, automations, in_force, more, units}
use Rattle.ha_journal.specs.States.{switches_of}
use Rattle.ha_journal.specs.Sights.{switch_of}
use Rattle.ha_journal.specs.Switches.{switched, is_on, on_after}
use Rattle.ha_journal.proofs.ForceLaws.{in-force-are, in-force-more, in-force-units}
use Rattle.ha_journal.proofs.ReloadSwitches.{flag_after, flag_at, switches-reloaded}
use Rattle.ha_journal.proofs.SwitchLemmas.{on-more}
use Rattle.ha_sight.specs.Sight.{Automations, switch_at}
use Rattle.store_text.specs.Store.{Switches, by_names}
use Rattle.switch_book.specs.Book.{StandsFor, Switch, each_from, goes_on, opening, reloaded, reset, restarted, restored, set_each, with_switch}

-- automations with their numbers
abbrev pub Rules : Type 0
Rules = List (ℕ × Automation)

-- each by its number and name, with the switch of its number
abbrev pub seen_by : (ℕ → Bool) → Rules → Automations
seen_by on ps = map {A = ℕ × Automation} {B = Switch} (λ p. (p.0, p.1.name, on p.0)) ps

-- ---- numbers, names and switches of a list

pairs-in : (on : ℕ → Bool) (ps : Rules) → by_names (seen_by on ps) ≡ map {A = ℕ × Automation} {B = Text × Bool} (λ p. (p.1.name, on p.0)) ps
pairs-in on [] = refl
pairs-in on (p ∷ ps) = λ i. (p.1.name, on p.0) ∷ pairs-in on ps i

numbers-in : (on : ℕ → Bool) (ps : Rules) → map {A = Switch} {B = ℕ} (λ p. p.0) (seen_by on ps) ≡ map {A = ℕ × Automation} {B = ℕ} (λ p. p.0) ps
numbers-in on [] = refl
numbers-in on (p ∷ ps) = λ i. p.0 ∷ numbers-in on ps i

names-in : (on : ℕ → Bool) (ps : Rules) → keys_of (map {A = ℕ × Automation} {B = Text × Bool} (λ p. (p.1.name, on p.0)) ps) ≡ names_of (map {A = ℕ × Automation} {B = Automation} (λ p. p.1) ps)
names-in on [] = refl
names-in on (p ∷ ps) = λ i. p.1.name ∷ names-in on ps i

switch-in : (on : ℕ → Bool) (ps : Rules) (a : ℕ) → switch_at (seen_by on ps) a ≡ (if has_number ps a then Some (on a) else None)
switch-in on [] a = refl
switch-in on (p ∷ ps) a = by (nat_eq p.0 a) refl (switch-in on ps a)
  where
    first : (b : Bool) → nat_eq p.0 a ≡ b → switch_at (seen_by on (p ∷ ps)) a
        ≡ option_map {T = Switch} {U = Bool} (λ q. q.2) (if b then Some (p.0, p.1.name, on p.0) else find (λ q. nat_eq q.0 a) (seen_by on ps))
    first b e = λ i. option_map {T = Switch} {U = Bool} (λ q. q.2) (if e i then Some (p.0, p.1.name, on p.0) else find (λ q. nat_eq q.0 a) (seen_by on ps))

    by : (b : Bool) → nat_eq p.0 a ≡ b → switch_at (seen_by on ps) a ≡ (if has_number ps a then Some (on a) else None)
        → switch_at (seen_by on (p ∷ ps)) a ≡ (if has_number (p ∷ ps) a then Some (on a) else None)
    by true e rest = first true e ∙ ap (λ n. Some (on n)) (eqb-true p.0 a e) ∙ (λ i. if (sym e i || has_number ps a) then Some (on a) else None)
    by false e rest = first false e ∙ rest ∙ (λ i. if (sym e i || has_number ps a) then Some (on a) else None)

-- LAW: switches that stand for a journal have the numbers, the names and the switches of the automations in force
pub pairs-of-journal : (s : Automations) (j : Journal) → StandsFor s j → by_names s ≡ switches_of j
pairs-of-journal s j h = ap by_names h ∙ pairs-in (is_on j) (in_force j)

pub numbers-of-journal : (s : Automations) (j : Journal) → StandsFor s j → map {A = Switch} {B = ℕ} (λ p. p.0) s ≡ map {A = ℕ × Automation} {B = ℕ} (λ p. p.0) (in_force j)
numbers-of-journal s j h = ap (map {A = Switch} {B = ℕ} (λ p. p.0)) h ∙ numbers-in (is_on j) (in_force j)

pub names-of-journal : (s : Automations) (j : Journal) → StandsFor s j → keys_of (by_names s) ≡ names_of (automations j)
names-of-journal s j h = ap keys_of (pairs-of-journal s j h) ∙ names-in (is_on j) (in_force j) ∙ ap names_of (in-force-are j)

pub switch-of-journal : (s : Automations) (j : Journal) → StandsFor s j → (a : ℕ) → switch_at s a ≡ switch_of j a
switch-of-journal s j h a = ap (λ l. switch_at l a) h ∙ switch-in (is_on j) (in_force j) a

-- ---- at the Boot

-- the switch at the Boot by the number
abbrev opened_by : List Automation → Option Switches → ℕ → Bool
opened_by us stored a = unwrap_or (initial_of us a) (unwrap_or (stored_switch (name_of us a) (unwrap_or stored [])) true)

opened-each : (us : List Automation) (stored : Option Switches) (ps : Rules) → AreUnits (λ (x : Automation). x) us ps
    → map {A = ℕ × Automation} {B = Switch} (λ p. (p.0, p.1.name, opening stored p.1)) ps ≡ seen_by (opened_by us stored) ps
opened-each us stored [] h = refl
opened-each us stored (p ∷ ps) h = λ i. (p.0, p.1.name, one i) ∷ opened-each us stored ps h.1 i
  where
    one : opening stored p.1 ≡ opened_by us stored p.0
    one = λ i. unwrap_or (option_map_or (λ (x : Automation). x.initial) (sym h.0 i) None) (unwrap_or (stored_switch (option_map_or (λ (x : Automation). x.name) (sym h.0 i) []) (unwrap_or stored [])) true)

-- LAW: the switches at the Boot
pub boot-stands : (text : Text) (config : Config) (stored : Option Switches) (start : ℕ) (zone : Text) (carry : Carry) → StandsFor (restored stored config.automations) (Boot text config stored start zone carry ∷ [])
boot-stands text config stored start zone carry =
    opened-each (units_of config) stored (enumerate_from 0 config.automations) (in-force-units (Boot text config stored start zone carry ∷ []))

-- ---- with one entry more

moved-each : (f : ℕ → Bool → Bool) (on after : ℕ → Bool) → ((a : ℕ) → f a (on a) ≡ after a) → (ps : Rules)
    → map {A = Switch} {B = Switch} (λ p. (p.0, p.1, f p.0 p.2)) (seen_by on ps) ≡ seen_by after ps
moved-each f on after same [] = refl
moved-each f on after same (p ∷ ps) = λ i. (p.0, p.1.name, same p.0 i) ∷ moved-each f on after same ps i

-- LAW: the switches with one more entry that is no Reload, each from the one before
pub more-stands : (s : Automations) (j : Journal) (x : Entry) → HasEntry j → reload_in x ≡ None → StandsFor s j
    → StandsFor (map {A = Switch} {B = Switch} (λ p. (p.0, p.1, on_after (units j) p.0 p.2 x)) s) (more j x)
more-stands s j x h none stands =
    ap (map {A = Switch} {B = Switch} (λ p. (p.0, p.1, on_after (units j) p.0 p.2 x))) stands
    ∙ moved-each (λ a before. on_after (units j) a before x) (is_on j) (is_on (more j x)) (λ a. sym (on-more j x a h none)) (in_force j)
    ∙ (λ i. seen_by (is_on (more j x)) (in-force-more j x h none i))

-- ---- with a Reload

find-in : (on : ℕ → Bool) (ps : Rules) (n : ℕ) → switch_at (seen_by on ps) n ≡ flag_at on ps n
find-in on [] n = refl
find-in on (p ∷ ps) n = by (nat_eq p.0 n) (find-in on ps n)
  where
    by : (b : Bool) → switch_at (seen_by on ps) n ≡ flag_at on ps n
        → option_map {T = Switch} {U = Bool} (λ q. q.2) (if b then Some (p.0, p.1.name, on p.0) else find (λ q. nat_eq q.0 n) (seen_by on ps))
        ≡ option_map {T = ℕ × Automation} (λ q. on q.0) (if b then Some p else find (λ q. nat_eq q.0 n) ps)
    by true rest = refl
    by false rest = rest

goes-so : (on : ℕ → Bool) (old : Rules) (p : ℕ × Automation) → goes_on (seen_by on old) p ≡ flag_after on old p
goes-so on old p = λ i. unwrap_or (find-in on old p.0 i) (unwrap_or p.1.initial (unwrap_or (stored_switch p.1.name (pairs-in on old i)) true))

abbrev tail : {X : Type 0} → List X → List X
tail [] = []
tail (x ∷ xs) = xs

abbrev head_or : {X : Type 0} → X → List X → X
head_or d [] = d
head_or d (x ∷ xs) = x

-- alike pairs under the same names are alike beside numbers too
with-numbers : (f g : ℕ × Automation → Bool) (ps : Rules)
    → map {A = ℕ × Automation} {B = Text × Bool} (λ p. (p.1.name, f p)) ps ≡ map {A = ℕ × Automation} {B = Text × Bool} (λ p. (p.1.name, g p)) ps
    → map {A = ℕ × Automation} {B = Switch} (λ p. (p.0, p.1.name, f p)) ps ≡ map {A = ℕ × Automation} {B = Switch} (λ p. (p.0, p.1.name, g p)) ps
with-numbers f g [] e = refl
with-numbers f g (p ∷ ps) e =
    λ i. (p.0, p.1.name, (head_or (p.1.name, f p) (e i)).1) ∷ with-numbers f g ps (ap tail e) i

gone-on : (on : ℕ → Bool) (old ps : Rules) → reloaded (seen_by on old) ps ≡ map {A = ℕ × Automation} {B = Switch} (λ p. (p.0, p.1.name, flag_after on old p)) ps
gone-on on old [] = refl
gone-on on old (p ∷ ps) = λ i. (p.0, p.1.name, goes-so on old p i) ∷ gone-on on old ps i

-- LAW: the switches behind a Reload
pub reload-stands : (s : Automations) (j : Journal) (x : Entry) (c : Config) → HasEntry j → reload_in x ≡ Some c → StandsFor s j → StandsFor (reloaded s (in_force (more j x))) (more j x)
reload-stands s j x c h e stands =
    (λ i. reloaded (stands i) (in_force (more j x)))
    ∙ gone-on (is_on j) (in_force j) (in_force (more j x))
    ∙ with-numbers (flag_after (is_on j) (in_force j)) (λ p. is_on (more j x) p.0) (in_force (more j x)) (switches-reloaded j x c h e)

-- ---- at a Restart

module _ (us all : List Automation) (on : ℕ → Bool) where
  reset-each : (n : ℕ) (ps : Rules) → AreUnits (λ (x : Automation). x) us ps
      → ((i : ℕ) (x : Automation) → slice_get (map {A = ℕ × Automation} {B = Automation} (λ p. p.1) ps) i ≡ Some x → slice_get all (n + i) ≡ Some x)
      → each_from (reset all) n (seen_by on ps) ≡ seen_by (λ a. unwrap_or (initial_of us a) (on a)) ps
  reset-each n [] are at = refl
  reset-each n (p ∷ ps) are at =
      λ i. (p.0, p.1.name, one i)
      ∷ reset-each (suc n) ps are.1 (λ k x is. (let e : suc n + k ≡ n + suc k = omega arith in ap (slice_get all) e ∙ at (suc k) x is)) i
    where
      here : slice_get all n ≡ Some p.1
      here = (let e : n ≡ n + 0 = omega arith in ap (slice_get all) e ∙ at 0 p.1 refl)

      one : unwrap_or (initial_of all n) (on p.0) ≡ unwrap_or (initial_of us p.0) (on p.0)
      one =
          (λ i. unwrap_or (option_map_or (λ (x : Automation). x.initial) (here i) None) (on p.0))
          ∙ (λ i. unwrap_or (option_map_or (λ (x : Automation). x.initial) (sym are.0 i) None) (on p.0))

-- LAW: the switches at a Restart
pub restart-stands : (s : Automations) (j : Journal) (source number : ℕ) → HasEntry j → StandsFor s j → StandsFor (restarted (automations j) s) (more j (Line source number Cmd.Restart))
restart-stands s j source number h stands =
    (λ i. restarted (automations j) (stands i))
    ∙ reset-each (units j) (automations j) (is_on j) 0 (in_force j) (in-force-units j)
    (λ i x is. (let e : 0 + i ≡ i = omega arith in ap (slice_get (automations j)) e ∙ (λ k. slice_get (sym (in-force-are j) k) i) ∙ is))
    ∙ switched-each (in_force j)
    ∙ (λ i. seen_by (is_on (more j (Line source number Cmd.Restart))) (in-force-more j (Line source number Cmd.Restart) h refl i))
  where
    switched-each : (ps : Rules) → seen_by (λ a. unwrap_or (initial_of (units j) a) (is_on j a)) ps ≡ seen_by (is_on (more j (Line source number Cmd.Restart))) ps
    switched-each [] = refl
    switched-each (p ∷ ps) = λ i. (p.0, p.1.name, sym (on-more j (Line source number Cmd.Restart) p.0 h refl) i) ∷ switched-each ps i

-- ---- several switches of one entry

turn-same : (m n : ℕ) → nat_eq m n ≡ nat_eq n m
turn-same m n = grind (arith, nat_tests)

stay-so : (s : Automations) → s ≡ map {A = Switch} {B = Switch} (λ p. (p.0, p.1, p.2)) s
stay-so [] = refl
stay-so (p ∷ s) = λ i. p ∷ stay-so s i

-- LAW: the targets of a Switched item, set in turn: the last value of each stands
pub each-set : (targets : List (ℕ × Bool × Bool)) (s : Automations) → set_each s targets ≡ map {A = Switch} {B = Switch} (λ p. (p.0, p.1, unwrap_or (switched p.0 targets) p.2)) s
each-set [] s = stay-so s
each-set (t ∷ ts) s = each-set ts (with_switch t.0 t.1 s) ∙ joined s
  where
    one : (a : ℕ) (before : Bool) → unwrap_or (switched a ts) (if nat_eq a t.0 then t.1 else before) ≡ unwrap_or (switched a (t ∷ ts)) before
    one a before = (λ i. unwrap_or (switched a ts) (if turn-same a t.0 i then t.1 else before)) ∙ by (switched a ts) refl (nat_eq t.0 a) refl
      where
        by : (later : Option Bool) → switched a ts ≡ later → (b : Bool) → nat_eq t.0 a ≡ b
            → unwrap_or (switched a ts) (if nat_eq t.0 a then t.1 else before) ≡ unwrap_or (switched a (t ∷ ts)) before
        by (Some v) e b f = rw e refl
        by None e true f = rw (e, f) refl
        by None e false f = rw (e, f) refl

    joined : (s : Automations) → map {A = Switch} {B = Switch} (λ p. (p.0, p.1, unwrap_or (switched p.0 ts) p.2)) (with_switch t.0 t.1 s)
        ≡ map {A = Switch} {B = Switch} (λ p. (p.0, p.1, unwrap_or (switched p.0 (t ∷ ts)) p.2)) s
    joined [] = refl
    joined (p ∷ s) = λ i. (p.0, p.1, one p.0 p.2 i) ∷ joined s i

-- ---- a switch by its name

parts : (a b : Bool) → (not a && b) ≡ true → (a ≡ false) × (b ≡ true)
parts true b h = absurd (true-false (sym h))
parts false b h = (refl, h)

either : (a b : Bool) → (a || b) ≡ false → (a ≡ false) × (b ≡ false)
either true b h = absurd (true-false h)
either false b h = (refl, h)

flipped : (s t : Text) → same s t ≡ false → same t s ≡ false
flipped s t h = by (same t s) refl
  where
    by : (b : Bool) → same t s ≡ b → same t s ≡ false
    by true e = absurd (true-false (sym (sym h ∙ (λ i. same (sym (same-sound t s e) i) t) ∙ same-refl t)))
    by false e = e

name-there : (all : List Automation) (a : ℕ) (x : Automation) → unit_of all a ≡ Some x → name_of all a ≡ x.name
name-there all a x e = ap (λ o. option_map_or (λ (z : Automation). z.name) o []) e

abbrev names_in : Rules → List Text
names_in ps = names_of (map {A = ℕ × Automation} {B = Automation} (λ p. p.1) ps)

module _ (us : List Automation) where
  -- a name that none of these has is not that of a number among them
  not-among : (t : Text) (ps : Rules) (b : ℕ) → AreUnits (λ (x : Automation). x) us ps → list_any (same t) (names_in ps) ≡ false → has_number ps b ≡ true → same t (name_of us b) ≡ false
  not-among t [] b are h has = absurd (true-false (sym has))
  not-among t (p ∷ ps) b are h has =
      let own = either (same t p.1.name) (list_any (same t) (names_in ps)) h in
      by (nat_eq p.0 b) refl own (λ later. not-among t ps b are.1 own.1 later)
    where
      by : (c : Bool) → nat_eq p.0 b ≡ c → (same t p.1.name ≡ false) × (list_any (same t) (names_in ps) ≡ false) → (has_number ps b ≡ true → same t (name_of us b) ≡ false) → same t (name_of us b) ≡ false
      by true e own rest =
          (λ i. same t (name_of us (sym (eqb-true p.0 b e) i))) ∙ (λ i. same t (name-there us p.0 p.1 are.0 i)) ∙ own.0
      by false e own rest = rest ((λ i. sym e i || has_number ps b) ∙ has)

  -- two numbers among automations whose names differ have different names
  apart : (ps : Rules) (a b : ℕ) → AreUnits (λ (x : Automation). x) us ps → all_distinct (names_in ps) ≡ true → has_number ps a ≡ true → has_number ps b ≡ true → nat_eq b a ≡ false
      → same (name_of us a) (name_of us b) ≡ false
  apart [] a b are d ha hb differ = absurd (true-false (sym ha))
  apart (p ∷ ps) a b are d ha hb differ =
      let own = parts (list_any (same p.1.name) (names_in ps)) (all_distinct (names_in ps)) d in
      by (nat_eq p.0 a) (nat_eq p.0 b) refl refl own (λ has_a has_b. apart ps a b are.1 own.1 has_a has_b differ)
    where
      named : (n : ℕ) → nat_eq p.0 n ≡ true → name_of us n ≡ p.1.name
      named n e = (λ i. name_of us (sym (eqb-true p.0 n e) i)) ∙ name-there us p.0 p.1 are.0

      later : (n : ℕ) → nat_eq p.0 n ≡ false → has_number (p ∷ ps) n ≡ true → has_number ps n ≡ true
      later n e has = (λ i. sym e i || has_number ps n) ∙ has

      one-number : nat_eq p.0 a ≡ true → nat_eq p.0 b ≡ true → nat_eq b a ≡ true
      one-number e f = grind (arith, nat_tests)

      by : (x y : Bool) → nat_eq p.0 a ≡ x → nat_eq p.0 b ≡ y → (list_any (same p.1.name) (names_in ps) ≡ false) × (all_distinct (names_in ps) ≡ true)
          → (has_number ps a ≡ true → has_number ps b ≡ true → same (name_of us a) (name_of us b) ≡ false) → same (name_of us a) (name_of us b) ≡ false
      by true true e f own rest = absurd (true-false (sym (one-number e f) ∙ differ))
      by true false e f own rest = (λ i. same (named a e i) (name_of us b)) ∙ not-among p.1.name ps b are.1 own.0 (later b f hb)
      by false true e f own rest =
          (λ i. same (name_of us a) (named b f i)) ∙ flipped p.1.name (name_of us a) (not-among p.1.name ps a are.1 own.0 (later a e ha))
      by false false e f own rest = rest (later a e ha) (later b f hb)

  by-number : (ps : Rules) (a b : ℕ) (x : Automation) → AreUnits (λ (x : Automation). x) us ps → all_distinct (names_in ps) ≡ true → has_number ps a ≡ true → has_number ps b ≡ true
      → unit_of us a ≡ Some x → same x.name (name_of us b) ≡ nat_eq b a
  by-number ps a b x are d ha hb is = (λ i. same (sym (name-there us a x is) i) (name_of us b)) ∙ by (nat_eq b a) refl
    where
      by : (c : Bool) → nat_eq b a ≡ c → same (name_of us a) (name_of us b) ≡ nat_eq b a
      by true e = (λ i. same (name_of us a) (name_of us (eqb-true b a e i))) ∙ same-refl (name_of us a) ∙ sym e
      by false e = apart ps a b are d ha hb e ∙ sym e

-- LAW: a switch command sets one switch, that of the automation in force with its name
pub named-one : (j : Journal) (a b : ℕ) (x : Automation) (source number : ℕ) (before on stop : Bool) → all_distinct (names_of (automations j)) ≡ true
    → has_number (in_force j) a ≡ true → has_number (in_force j) b ≡ true → unit_of (units j) a ≡ Some x
    → on_after (units j) b before (Line source number (Cmd.Switch x.name on stop)) ≡ (if nat_eq b a then on else before)
named-one j a b x source number before on stop d ha hb is =
    let distinct : all_distinct (names_in (in_force j)) ≡ true = (λ i. all_distinct (names_of (in-force-are j i))) ∙ d in
    λ i. if by-number (units j) (in_force j) a b x (in-force-units j) distinct ha hb is i then on else before
