-- Attempts that are prepared, from the last on.
use Rattle.std.proofs.Common.{◌≡◌, ℕ, zero, suc, ◌+◌, ◌<◌, ◌≤◌, List, [], ◌∷◌, ◌++◌, length, map, filter, take, get_or, Bool, true, false, refl, sym, ap, subst, ◌∙◌, arith}
use Rattle.std.specs.Prelude.{Option, Some, None, IfSome, IsTrue, OnOk, Result, nat_le, option_map, slice_get, ◌-◌, ◌&&◌, ◌||◌, if◌then◌else◌}
use Rattle.std.specs.List.{enumerate_from, list_all}
use Rattle.std.specs.Option.{option_map_or}
use Rattle.ha_sight.specs.Sight.{Sight}
use Rattle.ha_sight.specs.Conditions.{hold_all}
use Rattle.ha_journal.specs.Moves.{sight}
use Rattle.ha_model.proofs.LastEntry.{ok-then}
use Rattle.ha_config.specs.declared.config.Automation.{Automation}
use Rattle.ha_config.specs.declared.config.Config.{Config}
use Rattle.ha_config.specs.declared.config.Mode.{Mode}
use Rattle.ha_journal.specs.declared.entry.Entry.{Entry}
use Rattle.ha_journal.specs.declared.firing.Firing.{Firing}
use Rattle.ha_journal.specs.Attempts.{Attempt, passes}
use Rattle.ha_config.specs.ValueFacts.{all_distinct}
use Rattle.ha_journal.specs.Journal.{Journal, IsJournal, units, more, last_place}
use Rattle.ha_config.specs.Names.{unit_of}
use Rattle.ha_value.specs.Ids.{is_name}
use Rattle.ha_config.specs.declared.config.Script.{Script}
use Rattle.ha_config.specs.Units.{as_unit, units_of}
use Rattle.ha_config.specs.Sound.{IsSoundConfig, is_sound_script, are_sound_actions, are_sound_conditions, are_sound_triggers, is_sound_automation}
use Rattle.ha_config.specs.Words.{Pairs}
use Rattle.script_step.specs.Gates.{first_fronts}
use Rattle.ha_engine.specs.declared.admit.Prepared.{Prepared}
use Rattle.ha_engine.specs.Admits.{ArePassing, ArePrepared, IsPrepared, IsPut, IsReady, asked_for, from_end, has_action}
use Rattle.engine_parts.specs.Fronts.{Stands}
use Rattle.engine_parts.specs.Owners.{attempt_by, attempts_by, is_attempt}
use Rattle.ha_engine.proofs.AdmitLemmas.{from-end-snoc}
use Rattle.engine_parts.proofs.ViewLemmas.{both, sound-automations, sound-scripts, true-of}

-- ---- one attempt

put-prepared : (k : Journal) (b : Bool) (y : ℕ × Attempt) (ys : List (ℕ × Attempt)) (old new : List Prepared) → IsPut b k y old new → ArePrepared k ys (from_end old) → ArePrepared k (if b then y ∷ ys else ys) (from_end new)
put-prepared k true y ys old new put h =
    subst (λ (l : List Prepared). ArePrepared k (y ∷ ys) (from_end l)) (sym put.1) (subst (λ (l : List Prepared). ArePrepared k (y ∷ ys) l) (sym (from-end-snoc old put.0)) (put.2, h))
put-prepared k false y ys old new put h = subst (λ (l : List Prepared). ArePrepared k ys (from_end l)) (sym put) h

-- LAW: an attempt more, in front of those that are prepared
pub passing-next : (k : Journal) (n m : ℕ) (x : Attempt) (xs : List Attempt) (old new : List Prepared) → m ≡ n + 1 → IsPut (passes k (last_place k) x) k (n, x) old new → ArePassing k m xs old → ArePassing k n (x ∷ xs) new
passing-next k n m x xs old new next put h =
    put-prepared k (passes k (last_place k) x) (n, x) (filter (λ (y : ℕ × Attempt). passes k (last_place k) y.1) (enumerate_from (n + 1) xs)) old new put (subst (λ q. ArePassing k q xs old) next h)

-- LAW: what was put together for the unit is prepared
pub ready-prepared : (k : Journal) (a n : ℕ) (env : Pairs) (skip : Bool) (p : Prepared) (rule : Option Automation) → unit_of (units k) a ≡ rule
    → IsReady a n env (option_map_or (λ (x : Automation). x.mode) rule Mode.Single) (option_map_or (λ (x : Automation). x.max) rule 0) (option_map_or (λ (x : Automation). x.actions) rule []) p
    → IsPrepared k (n, asked_for a env skip) p
ready-prepared k a n env skip p rule e h = record {
  automation = h.automation;
  mode = h.mode ∙ (λ i. option_map_or (λ (x : Automation). x.mode) (sym e i) Mode.Single);
  max = h.max ∙ (λ i. option_map_or (λ (x : Automation). x.max) (sym e i) 0);
  order = h.order;
  env = h.env;
  script = h.script;
  stands = subst (λ (o : Option Automation). Stands p.frames.value (option_map_or (λ (x : Automation). x.actions) o []) env []) (sym e) h.stands;
  first = h.first ∙ (λ i. first_fronts (option_map_or (λ (x : Automation). x.actions) (sym e i) []));
  acts = h.acts ∙ (λ i. has_action (option_map_or (λ (x : Automation). x.actions) (sym e i) []));
}

-- ---- a sound configuration

last-of : (a b : Bool) → (a && b) ≡ true → b ≡ true
last-of a b h = (both a b h).1

pub sound-all : (c : Config) → IsSoundConfig c → list_all is_sound_automation c.automations ≡ true
sound-all c h =
    last-of (nat_le (length c.automations) 1_024 && all_distinct (map (λ (a : Automation). a.name) c.automations)) (list_all is_sound_automation c.automations)
    (sound-automations c h)

-- LAW: each automation that it has is sound
pub sound-at : (all : List Automation) (n : ℕ) → list_all is_sound_automation all ≡ true → option_map_or (λ (a : Automation). are_sound_actions a.actions) (slice_get all n) true ≡ true
sound-at [] n h = refl
sound-at (a ∷ all) zero h =
    last-of ((((is_name a.name && nat_le 1 a.max) && nat_le a.max 1_000) && are_sound_triggers a.triggers) && are_sound_conditions a.tests) (are_sound_actions a.actions)
    (both (is_sound_automation a) (list_all is_sound_automation all) h).0
sound-at (a ∷ all) (suc n) h = sound-at all n (both (is_sound_automation a) (list_all is_sound_automation all) h).1

-- the actions of a unit are sound
abbrev pub acts_soundly : Option Automation → Bool
acts_soundly o = option_map_or (λ (a : Automation). are_sound_actions a.actions) o true

scripts-at : (ss : List Script) (n : ℕ) → list_all is_sound_script ss ≡ true → acts_soundly (slice_get (map {A = Script} {B = Automation} as_unit ss) n) ≡ true
scripts-at [] n h = refl
scripts-at (s ∷ ss) zero h =
    last-of ((is_name s.name && nat_le 1 s.max) && nat_le s.max 1_000) (are_sound_actions s.actions) (both (is_sound_script s) (list_all is_sound_script ss) h).0
scripts-at (s ∷ ss) (suc n) h = scripts-at ss n (both (is_sound_script s) (list_all is_sound_script ss) h).1

behind-at : (all : List Automation) (ss : List Script) (n : ℕ) → list_all is_sound_automation all ≡ true → list_all is_sound_script ss ≡ true
    → acts_soundly (slice_get (all ++ map {A = Script} {B = Automation} as_unit ss) n) ≡ true
behind-at [] ss n h k = scripts-at ss n k
behind-at (a ∷ all) ss zero h k = sound-at (a ∷ all) zero h
behind-at (a ∷ all) ss (suc n) h k = behind-at all ss n (both (is_sound_automation a) (list_all is_sound_automation all) h).1 k

-- LAW: of a sound configuration each unit's actions are sound
pub unit-sound : (c : Config) (n : ℕ) → IsSoundConfig c → acts_soundly (slice_get (units_of c) n) ≡ true
unit-sound c n h =
    behind-at c.automations c.scripts n (sound-all c h)
    (last-of (nat_le (length c.scripts) 1_024 && all_distinct (map (λ (s : Script). s.name) c.scripts)) (list_all is_sound_script c.scripts) (sound-scripts c h))

-- ---- units by their numbers

-- LAW: the actions of an automation that is sound are, and so are those of a script
pub rule-acts : (o : Option Automation) (x : Automation) → IfSome o (λ a. IsTrue (is_sound_automation a)) → o ≡ Some x → are_sound_actions x.actions ≡ true
rule-acts o x h e =
    last-of ((((is_name x.name && nat_le 1 x.max) && nat_le x.max 1_000) && are_sound_triggers x.triggers) && are_sound_conditions x.tests) (are_sound_actions x.actions)
    (true-of (is_sound_automation x) (subst (λ (p : Option Automation). IfSome p (λ a. IsTrue (is_sound_automation a))) e h))

pub script-acts : (o : Option Script) → IfSome o (λ s. IsTrue (are_sound_actions s.actions)) → option_map_or (λ (s : Script). are_sound_actions s.actions) o true ≡ true
script-acts None h = refl
script-acts (Some s) h = true-of (are_sound_actions s.actions) h

or-true : (b : Bool) → (b || true) ≡ true
or-true true = refl
or-true false = refl

-- LAW: an attempt of a unit that is no automation is put there where there is its script
pub called-put : (S : Sight) {E : Type 0} (r : Result (Unit {0}) E) (script : Option Script) (n order : ℕ) (env : Pairs) (skip : Bool) (old new : List Prepared)
    → ((s : Script) → script ≡ Some s → OnOk r ((p : Prepared) × (new ≡ old ++ (p ∷ [])) × IsReady n order env s.mode s.max s.actions p)) → (script ≡ None → OnOk r (new ≡ old))
    → OnOk r ((k : Journal) → S ≡ sight k (suc (last_place k)) → unit_of (units k) n ≡ option_map {T = Script} {U = Automation} as_unit script
    → IsPut (passes k (last_place k) (asked_for n env skip)) k (order, asked_for n env skip) old new)
called-put S r (Some s) n order env skip old new there none = ok-then r (λ h k seen unit.
    (let on : passes k (last_place k) (asked_for n env skip) ≡ true
    = (λ i. option_map_or (λ (x : Automation). skip || hold_all (sight k (suc (last_place k))) x.tests env) (unit i) false) ∙ or-true skip in
    subst (λ b. IsPut b k (order, asked_for n env skip) old new) (sym on) (h.0, h.1, ready-prepared k n order env skip h.0 (Some (as_unit s)) unit h.2))) (there s refl)
called-put S r None n order env skip old new there none = ok-then r (λ h k seen unit.
    (let off : passes k (last_place k) (asked_for n env skip) ≡ false
    = (λ i. option_map_or (λ (x : Automation). skip || hold_all (sight k (suc (last_place k))) x.tests env) (unit i) false) in
    subst (λ b. IsPut b k (order, asked_for n env skip) old new) (sym off) h)) (none refl)

-- ---- firings

filter-snoc : {X : Type 0} (p : X → Bool) (xs : List X) (x : X) → filter p (xs ++ (x ∷ [])) ≡ filter p xs ++ (if p x then x ∷ [] else [])
filter-snoc p [] x = refl
filter-snoc p (y ∷ xs) x = by (p y) (filter-snoc p xs x)
  where
    by : (b : Bool) → filter p (xs ++ (x ∷ [])) ≡ filter p xs ++ (if p x then x ∷ [] else [])
        → (if b then y ∷ filter p (xs ++ (x ∷ [])) else filter p (xs ++ (x ∷ []))) ≡ (if b then y ∷ filter p xs else filter p xs) ++ (if p x then x ∷ [] else [])
    by true e = ap (λ l. y ∷ l) e
    by false e = e

length-map : {X Y : Type 0} (f : X → Y) (xs : List X) → length (map f xs) ≡ length xs
length-map f [] = refl
length-map f (x ∷ xs) = ap suc (length-map f xs)

length-snoc : {X : Type 0} (xs : List X) (x : X) → length (xs ++ (x ∷ [])) ≡ suc (length xs)
length-snoc [] x = refl
length-snoc (y ∷ xs) x = ap suc (length-snoc xs x)

append-nil : {X : Type 0} (xs : List X) → xs ++ [] ≡ xs
append-nil [] = refl
append-nil (x ∷ xs) = ap (λ l. x ∷ l) (append-nil xs)

-- LAW: how many attempts there are with a firing more
pub attempts-more : (fs : List Firing) (f : Firing) → is_attempt f ≡ true → length (attempts_by (fs ++ (f ∷ []))) ≡ suc (length (attempts_by fs))
attempts-more fs f on =
    length-map attempt_by (filter is_attempt (fs ++ (f ∷ [])))
    ∙ ap length (filter-snoc is_attempt fs f ∙ (λ i. filter is_attempt fs ++ (if on i then f ∷ [] else [])))
    ∙ length-snoc (filter is_attempt fs) f ∙ ap suc (sym (length-map attempt_by (filter is_attempt fs)))

pub attempts-same : (fs : List Firing) (f : Firing) → is_attempt f ≡ false → length (attempts_by (fs ++ (f ∷ []))) ≡ length (attempts_by fs)
attempts-same fs f off =
    ap (λ (l : List Firing). length (map {A = Firing} {B = Attempt} attempt_by l)) (filter-snoc is_attempt fs f ∙ (λ i. filter is_attempt fs ++ (if off i then f ∷ [] else [])) ∙ append-nil (filter is_attempt fs))

pub first-attempt : (f : Firing) (fs : List Firing) → is_attempt f ≡ true → attempts_by (f ∷ fs) ≡ attempt_by f ∷ attempts_by fs
first-attempt f fs on = (λ i. map {A = Firing} {B = Attempt} attempt_by (if on i then f ∷ filter is_attempt fs else filter is_attempt fs))

pub weight-small : (f : Firing) → (if is_attempt f then 1 else 0) ≤ 1
weight-small f = by (is_attempt f)
  where
    by : (b : Bool) → (if b then 1 else 0) ≤ 1
    by true = omega arith
    by false = omega arith

pub attempts-weigh : (fs : List Firing) (f : Firing) → length (attempts_by (fs ++ (f ∷ []))) ≡ length (attempts_by fs) + (if is_attempt f then 1 else 0)
attempts-weigh fs f = by (is_attempt f) refl
  where
    by : (b : Bool) → is_attempt f ≡ b → length (attempts_by (fs ++ (f ∷ []))) ≡ length (attempts_by fs) + (if b then 1 else 0)
    by true e = omega (arith, attempts-more fs f e)
    by false e = omega (arith, attempts-same fs f e)

-- LAW: the firings so far with one more
pub take-at : {X : Type 0} (xs : List X) (i : ℕ) (x : X) → i < length xs → x ≡ get_or xs i x → take (i + 1) xs ≡ take i xs ++ (x ∷ [])
take-at xs i x lt at = (let e : i + 1 ≡ suc i = omega arith in ap (λ n. take n xs) e ∙ by xs i lt at)
  where
    by : {X : Type 0} (xs : List X) (i : ℕ) {x : X} → i < length xs → x ≡ get_or xs i x → take (suc i) xs ≡ take i xs ++ (x ∷ [])
    by [] i lt at = absurd (omega (arith, lt))
    by (y ∷ xs) zero lt at = (λ k. sym at k ∷ [])
    by (y ∷ xs) (suc i) lt at = ap (λ l. y ∷ l) (by xs i (omega (arith, lt)) at)

-- ---- the last entry

-- LAW: a journal with an entry is one more
pub last-split : (k : Journal) → 0 < length k → (j : Journal) × (x : Entry) × (k ≡ more j x)
last-split [] some = absurd (omega (arith, some))
last-split (e ∷ []) some = ([], e, refl)
last-split (e ∷ f ∷ k) some = (let rest = last-split (f ∷ k) (omega arith) in (e ∷ rest.0, rest.1, ap (λ l. e ∷ l) rest.2))

pub journal-some : (k : Journal) → IsJournal k → 0 < length k
journal-some [] h = absurd h
journal-some (e ∷ k) h = omega arith
