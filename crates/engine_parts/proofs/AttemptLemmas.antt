-- The attempts of an entry are the firings of the automations in force that are on, and the item of a step is its script's.
use Rattle.std.proofs.Common.{◌≡◌, ℕ, List, [], ◌∷◌, ◌++◌, map, filter, Bool, true, false, refl, sym, ◌∙◌, append_assoc, append-nil}
use Rattle.std.specs.Prelude.{Some, ◌&&◌, nat_lt, flat_map, option_and_then, if◌then◌else◌}
use Rattle.std.specs.List.{enumerate_from}
use Rattle.ha_config.specs.declared.config.Automation.{Automation}
use Rattle.ha_config.specs.Numbered.{has_number}
use Rattle.ha_model.specs.declared.record.Record.{Record}
use Rattle.ha_journal.specs.declared.firing.Firing.{Firing}
use Rattle.ha_sight.specs.declared.steps.StepOut.{StepOut}
use Rattle.ha_config.specs.Words.{last_of}
use Rattle.ha_journal.specs.Journal.{Journal, in_force, through, units}
use Rattle.ha_journal.specs.Switches.{is_on, since}
use Rattle.ha_journal.specs.Triggers.{Fired, firings as fired_by}
use Rattle.ha_journal.specs.Attempts.{Attempt, attempt_for, fired_for, fired}
use Rattle.ha_sight.specs.Scripts.{Branch}
use Rattle.ha_model.specs.Records.{actions_of, spots, next_spot}
use Rattle.ha_model.specs.NextPlace.{next_item}
use Rattle.ha_past.specs.Firings.{Owner, firing_by, firings_of, firings}
use Rattle.ha_journal.proofs.ForceLaws.{in-force-units}
use Rattle.engine_parts.specs.Fronts.{IsGiven}
use Rattle.engine_parts.specs.Numbers.{is_ascending, rule_numbers}
use Rattle.engine_parts.specs.Owners.{owner_on, owners_on, attempt_by, is_automation, is_attempt, attempts_by}
use Rattle.engine_parts.specs.Runs.{first_wait}
use Rattle.engine_parts.proofs.RuleLemmas.{Rules, chosen, first-number, later-number, stand-first}

pub map-append : {X Y : Type 0} (f : X → Y) (xs ys : List X) → map f (xs ++ ys) ≡ map f xs ++ map f ys
map-append f [] ys = refl
map-append f (x ∷ xs) ys = (λ i. f x ∷ map-append f xs ys i)

pub filter-append : {X : Type 0} (p : X → Bool) (xs ys : List X) → filter p (xs ++ ys) ≡ filter p xs ++ filter p ys
filter-append p [] ys = refl
filter-append p (x ∷ xs) ys = by (p x) (filter-append p xs ys)
  where
    by : (b : Bool) → filter p (xs ++ ys) ≡ filter p xs ++ filter p ys → (if b then x ∷ filter p (xs ++ ys) else filter p (xs ++ ys)) ≡ (if b then x ∷ filter p xs else filter p xs) ++ filter p ys
    by true e = (λ i. x ∷ e i)
    by false e = e

-- a test of the owner keeps all firings of an owner, or none
pub kept-by : (test : ℕ → Bool) (o : Owner) (b : Bool) → test o.owner ≡ b → (fs : List Fired) → filter (λ (f : Firing). test f.owner) (map (firing_by o) fs) ≡ (if b then map (firing_by o) fs else [])
kept-by test o true e [] = refl
kept-by test o false e [] = refl
kept-by test o true e (f ∷ fs) = (λ i. if e i then firing_by o f ∷ kept-by test o true e fs i else kept-by test o true e fs i)
kept-by test o false e (f ∷ fs) = (λ i. if e i then firing_by o f ∷ kept-by test o false e fs i else kept-by test o false e fs i)

module _ (j : Journal) (p : ℕ) where
  made-attempts : (o : Owner) (fs : List Fired) → map {A = Firing} {B = Attempt} attempt_by (map (firing_by o) fs) ≡ map (attempt_for o.owner) fs
  made-attempts o [] = refl
  made-attempts o (f ∷ fs) = (λ i. attempt_for o.owner f ∷ made-attempts o fs i)

  abbrev pub known : ℕ × Automation → Bool
  known x = has_number (in_force (through j p)) x.0

  -- what a unit fires with
  abbrev pub gives : ℕ × Automation → List Firing
  gives x = flat_map (firings_of j p) (owner_on j p x)

  -- one that is in force gives its attempts
  pub one-automation : (x : ℕ × Automation) → known x ≡ true → map {A = Firing} {B = Attempt} attempt_by (gives x) ≡ fired_for j p x
  one-automation x e =
      (λ i. map {A = Firing} {B = Attempt} attempt_by (flat_map (firings_of j p) (if e i && is_on (through j p) x.0 then record { owner = x.0; triggers = x.1.triggers; since = since (through j p) x.0 } ∷ [] else [])))
      ∙ by (is_on (through j p) x.0)
    where
      by : (b : Bool) → map {A = Firing} {B = Attempt} attempt_by (flat_map (firings_of j p) (if true && b then record { owner = x.0; triggers = x.1.triggers; since = since (through j p) x.0 } ∷ [] else []))
          ≡ (if b then map (attempt_for x.0) (fired_by j x.1.triggers (since (through j p) x.0) p) else [])
      by true =
          (λ i. map {A = Firing} {B = Attempt} attempt_by (append-nil (firings_of j p (record { owner = x.0; triggers = x.1.triggers; since = since (through j p) x.0 })) i))
          ∙ made-attempts (record { owner = x.0; triggers = x.1.triggers; since = since (through j p) x.0 }) (fired_by j x.1.triggers (since (through j p) x.0) p)
      by false = refl

  -- another gives nothing
  pub none-given : (x : ℕ × Automation) → known x ≡ false → gives x ≡ []
  none-given x e = (λ i. flat_map (firings_of j p) (if e i && is_on (through j p) x.0 then record { owner = x.0; triggers = x.1.triggers; since = since (through j p) x.0 } ∷ [] else []))

  flat-append : {X Y : Type 0} (f : X → List Y) (xs ys : List X) → flat_map f (xs ++ ys) ≡ flat_map f xs ++ flat_map f ys
  flat-append f [] ys = refl
  flat-append f (x ∷ xs) ys = (λ i. f x ++ flat-append f xs ys i) ∙ sym (append_assoc (f x) (flat_map f xs) (flat_map f ys))

  all-given : (xs : List (ℕ × Automation)) → firings j p (flat_map (owner_on j p) xs) ≡ flat_map gives xs
  all-given [] = refl
  all-given (x ∷ xs) = flat-append (firings_of j p) (owner_on j p x) (flat_map (owner_on j p) xs) ∙ (λ i. gives x ++ all-given xs i)

  automation-firings : (os : List Owner) → filter is_attempt (firings j p os) ≡ firings j p (filter is_automation os)
  automation-firings [] = refl
  automation-firings (o ∷ os) =
      filter-append is_attempt (firings_of j p o) (firings j p os)
      ∙ (λ i. kept-by (λ n. nat_lt n first_wait) o (is_automation o) refl (fired_by j o.triggers o.since p) i ++ automation-firings os i)
      ∙ by (is_automation o)
    where
      by : (b : Bool) → (if b then firings_of j p o else []) ++ firings j p (filter is_automation os) ≡ firings j p (if b then o ∷ filter is_automation os else filter is_automation os)
      by true = refl
      by false = refl

  -- the attempts of those in force
  pub attempts-given : (whole : Rules) → ((n : ℕ) → has_number whole n ≡ true → has_number (in_force (through j p)) n ≡ true) → map {A = Firing} {B = Attempt} attempt_by (flat_map gives whole) ≡ flat_map (fired_for j p) whole
  attempts-given [] has = refl
  attempts-given (x ∷ xs) has =
      map-append attempt_by (gives x) (flat_map gives xs)
      ∙ (λ i. one-automation x (has x.0 (first-number x xs)) i ++ attempts-given xs (λ n h. has n (later-number x xs n h)) i)

  -- LAW: where the numbers of those in force ascend, the firings of those that are attached, which are those that are on, are in their order
  -- the attempts by triggers
  pub attempts-fired : (os : List Owner) → is_ascending (rule_numbers (through j p)) ≡ true → filter is_automation os ≡ owners_on j p → attempts_by (firings j p os) ≡ fired j p
  attempts-fired os up on =
      (λ i. map {A = Firing} {B = Attempt} attempt_by (automation-firings os i)) ∙ (λ i. map {A = Firing} {B = Attempt} attempt_by (firings j p (on i)))
      ∙ (λ i. map {A = Firing} {B = Attempt} attempt_by (all-given (enumerate_from 0 (units (through j p))) i))
      ∙ (λ i. map {A = Firing} {B = Attempt} attempt_by (chosen gives 0 (units (through j p)) (in_force (through j p)) up (stand-first (units (through j p)) (in_force (through j p)) (in-force-units (through j p))) (λ m u le none. none-given (m, u) none) i))
      ∙ attempts-given (in_force (through j p)) (λ n h. h)

-- LAW: the item that the frames give at the next place is the script's
pub given-item : (j : Journal) (r : Record) (b : Branch) (out : StepOut) → IsGiven (actions_of (units j) r.automation) r.env (spots j r.serial) (next_spot j b) out → next_item j r b ≡ Some out.item
given-item j r b out given = (λ i. option_and_then (λ o. last_of o.items) (given.whole_is i)) ∙ given.item
