-- Which triggers fire at one more entry, and which attempts it has by them.
use Rattle.std.proofs.Common.{◌≡◌, ℕ, zero, suc, ◌+◌, ◌<◌, ◌≤◌, List, [], ◌∷◌, ◌++◌, length, take, filter, Bool, true, false, cond, refl, sym, subst, ◌∙◌, rules, arith, Option}
use Rattle.std.specs.Prelude.{Some, None, not, nat_eq, nat_lt, is_some, slice_get, find, map, filter_map, flat_map, option_map, codes, ◌&&◌, ◌||◌, if◌then◌else◌}
use Rattle.std.specs.List.{enumerate_from, cons_option}
use Rattle.std.specs.Option.{option_map_or}
use Rattle.ha_value.specs.declared.value.EntityId.{EntityId}
use Rattle.ha_value.specs.declared.value.Value.{Value}
use Rattle.ha_config.specs.declared.config.Automation.{Automation}
use Rattle.ha_config.specs.declared.config.Match.{Match}
use Rattle.ha_config.specs.declared.config.Trigger.{Trigger}
use Rattle.ha_config.specs.declared.config.TriggerRule.{TriggerRule}
use Rattle.ha_journal.specs.declared.entry.Entry.{Entry}
use Rattle.ha_sight.specs.declared.state.StateObject.{StateObject}
use Rattle.ha_config.specs.Words.{Text, same, first_pair, numbers_from}
use Rattle.ha_journal.specs.Entries.{Asked, asked_in, Turning, turning, boot_of, report_in, gone_in, is_restart, opens_segment}
use Rattle.ha_journal.specs.Journal.{Journal, HasEntry, automations, helpers, in_force, now, last_place, more, through, units}
use Rattle.ha_journal.specs.Switches.{is_on, since, switched_at}
use Rattle.ha_config.specs.declared.helper.Helper.{Helper}
use Rattle.ha_config.specs.Helpers.{helper_named}
use Rattle.ha_journal.specs.Helpers.{text_of}
use Rattle.ha_journal.specs.States.{states, reported, of_helper, of_automation as state_of_automation}
use Rattle.ha_config.specs.Names.{named_among}
use Rattle.ha_sight.specs.Conditions.{hold_all, watched_text}
use Rattle.ha_journal.specs.Moves.{sight, moves}
use Rattle.ha_sight.specs.Rules.{matches, is_absent, same_optional, state_moves, starts}
use Rattle.ha_journal.specs.Holds.{fires, fired_from}
use Rattle.ha_journal.specs.Variables.{variables}
use Rattle.ha_journal.specs.Triggers.{Fired, entities_at, firing_for, firings_by}
use Rattle.ha_journal.specs.Attempts.{Attempt, attempt_for, fired_for, fired, attempts_asked, attempts_of, attempts, passes, passing}
use Rattle.ha_config.proofs.EqualLemmas.{same-refl, same_value-refl, same_pairs-refl}
use Rattle.ha_journal.proofs.StateLemmas.{reported-other}
use Rattle.ha_journal.proofs.ForceLaws.{in-force-are, in-force-more}
use Rattle.ha_journal.proofs.MoreLemmas.{helpers-more, length-more, through-last}
use Rattle.ha_journal.proofs.HelperLaws.{helper-left}
use Rattle.ha_journal.proofs.SinceLaws.{take-more, take-before, on-left, switched-left, switched-within}
use Rattle.ha_journal.proofs.SwitchLemmas.{leaves-none}
use Rattle.ha_config.proofs.ListLemmas.{get-last}

-- ---- where a trigger without `for` fires

and-false : (b : Bool) → (b && false) ≡ false
and-false true = refl
and-false false = refl

or-false : (b : Bool) → (b || false) ≡ b
or-false true = refl
or-false false = refl

or-true : (b : Bool) → (b || true) ≡ true
or-true true = refl
or-true false = refl

-- the first number up to p that passes, where none below p does
find-last : (test : ℕ → Bool) (p low n : ℕ) → low + n ≡ suc p → low ≤ p → ((i : ℕ) → i < p → test i ≡ false) → find test (numbers_from low n) ≡ (if test p then Some p else None)
find-last test p low zero e le h = absurd (omega (arith, e, le))
find-last test p low (suc zero) e le h = let at : low ≡ p = omega (arith, e) in (λ i. cond (test (at i)) (Some (at i)) None)
find-last test p low (suc (suc n)) e le h =
    (λ i. cond (h low (omega (arith, e)) i) (Some low) (find test (numbers_from (low + 1) (suc n))))
    ∙ find-last test p (low + 1) (suc n) (omega (arith, e)) (omega (arith, e)) h

abbrev at_once : Trigger → Trigger
at_once t = record t { hold = None }

fired-none-held : (j : Journal) (t : Trigger) (e : Option EntityId) (s p : ℕ)
    → fired_from j (at_once t) e s p ≡ (if moves j (at_once t) e p && (nat_lt s p || starts t.rule) then Some p else None)
fired-none-held j t e s p =
    find-last (fires j (at_once t) e s p) p 0 (suc p) (omega arith) (omega arith) elsewhere
    ∙ (λ i. if (here i && moves j (at_once t) e p) && (nat_lt s p || starts t.rule) then Some p else None)
  where
    here : nat_eq p p ≡ true
    here = search rules

    elsewhere : (i : ℕ) → i < p → fires j (at_once t) e s p i ≡ false
    elsewhere i lt = (let other : nat_eq i p ≡ false = search rules in λ q. (other q && moves j (at_once t) e p) && (nat_lt s p || starts t.rule))

-- LAW: a trigger without `for` fires exactly where it moves, after its since or as a start trigger
pub fired-at-once : (j : Journal) (t : Trigger) (e : Option EntityId) (s p : ℕ) → t.hold ≡ None
    → fired_from j t e s p ≡ (if moves j t e p && (nat_lt s p || starts t.rule) then Some p else None)
fired-at-once j t e s p none =
    let same : t ≡ at_once t = (λ i. record t { hold = none i }) in
    subst (λ (u : Trigger). fired_from j u e s p ≡ (if moves j u e p && (nat_lt s p || starts u.rule) then Some p else None)) (sym same) (fired-none-held j t e s p)

-- ---- the state rule

same_optional-refl : (a : Option Value) → same_optional a a ≡ true
same_optional-refl None = refl
same_optional-refl (Some v) = same_value-refl v

-- LAW: a state trigger does not move where the state stays as it was
pub state-stays : (attribute : Option Text) (from to : Match) (held : Bool) (s : Option StateObject) → state_moves attribute from to held s s ≡ false
state-stays attribute from to held None = by attribute
  where
    by : (a : Option Text) → state_moves a from to held None None ≡ false
    by None = refl
    by (Some name) = refl
state-stays (Some name) from to held (Some s) =
    let same_one = same_optional-refl (first_pair name s.attributes) in
    (λ i. (not (same_one i) && matches from (watched_text (Some name) s)) && matches to (watched_text (Some name) s))
state-stays None from to held (Some s) =
    let text = same-refl s.text in
    let pairs = same_pairs-refl s.attributes in
    (λ i. ((not (text i) || (((is_absent from && is_absent to) && not held) && not (pairs i))) && matches from (Some s.text)) && matches to (Some s.text))
    ∙ (λ i. (and-false ((is_absent from && is_absent to) && not held) i && matches from (Some s.text)) && matches to (Some s.text))

-- the state of an entity that is no automation and no helper is the one that was reported
pub states-outside : (j : Journal) (e : EntityId) → same e.domain (codes "automation") ≡ false → helper_named (helpers j) e ≡ None → states j e ≡ reported j e
states-outside j e outside none =
    (λ i. if outside i then option_map (state_of_automation j) (named_among (in_force j) e.object) else option_map_or (of_helper j) (none i) (reported j e))

-- LAW: an entry that reports nothing, at which no entity goes, and that turns no switch, opens no segment and gives the helper of this id no
-- new text leaves its state as it was
pub states-left : (j : Journal) (x : Entry) (e : EntityId) → HasEntry j → report_in x ≡ None → gone_in x ≡ None → turning x ≡ Turning.Leaves → opens_segment x ≡ false
    → ((h : Helper) → helper_named (helpers j) e ≡ Some h → text_of (more j x) h ≡ text_of j h) → states (more j x) e ≡ states j e
states-left j x e h report gone leaves opens still =
    (λ i. if same e.domain (codes "automation") then option_map (state_of_automation (more j x)) (named_among (sym (in-force-more j x h (leaves-none x leaves)) i) e.object)
    else option_map_or (of_helper (more j x)) (helper_named (sym (helpers-more j x h) i) e) (reported-other j e x report gone (or-right (is_some (boot_of x)) (is_restart x) opens) i))
    ∙ (λ i. if same e.domain (codes "automation") then option_map (state_of_automation (more j x)) (named_among (in_force j) e.object)
    else helpers-left (helper_named (helpers j) e) refl i)
    ∙ by (named_among (in_force j) e.object)
  where
    helpers-left : (o : Option Helper) → helper_named (helpers j) e ≡ o → option_map_or (of_helper (more j x)) o (reported j e) ≡ option_map_or (of_helper j) o (reported j e)
    helpers-left None q = refl
    helpers-left (Some a) q = helper-left j x a h (still a q)

    or-right : (a b : Bool) → (a || b) ≡ false → b ≡ false
    or-right true b q = cc
    or-right false b q = q

    automation_left : (a : ℕ) → state_of_automation (more j x) a ≡ state_of_automation j a
    automation_left a =
        let at = switched-left j x a h leaves opens in
        (λ i. record {
          text = if on-left j x a h leaves i then codes "on" else codes "off";
          attributes = [];
          changed = now (take (suc (at i)) (more j x));
          updated = now (take (suc (at i)) (more j x));
        })
        ∙ (let place = take-more j x (suc (switched_at j a)) (switched-within j a h) in λ i. record {
          text = if is_on j a then codes "on" else codes "off";
          attributes = [];
          changed = now (place i);
          updated = now (place i);
        })

    by : (o : Option ℕ) → (if same e.domain (codes "automation") then option_map (state_of_automation (more j x)) o else option_map_or (of_helper j) (helper_named (helpers j) e) (reported j e))
        ≡ (if same e.domain (codes "automation") then option_map (state_of_automation j) o else option_map_or (of_helper j) (helper_named (helpers j) e) (reported j e))
    by None = refl
    by (Some a) = (λ i. if same e.domain (codes "automation") then Some (automation_left a i) else option_map_or (of_helper j) (helper_named (helpers j) e) (reported j e))

-- a trigger on states
abbrev state_rule : Trigger → List EntityId → Option Text → Match → Match → Trigger
state_rule t entities attribute from to = record t { rule = TriggerRule.State entities attribute from to }

-- LAW: the state rule reads the states before and after the new entry
pub moves-state : (j : Journal) (x : Entry) (t : Trigger) (entities : List EntityId) (attribute : Option Text) (from to : Match) (e : EntityId) → t.rule ≡ TriggerRule.State entities attribute from to → opens_segment x ≡ false
    → moves (more j x) t (Some e) (length j) ≡ state_moves attribute from to (is_some t.hold) (states j e) (states (more j x) e)
moves-state j x t entities attribute from to e rule opens =
    let same : t ≡ state_rule t entities attribute from to = (λ i. record t { rule = rule i }) in
    subst (λ (u : Trigger). moves (more j x) u (Some e) (length j) ≡ state_moves attribute from to (is_some u.hold) (states j e) (states (more j x) e)) (sym same)
    (rw (get-last j x) (rw opens (λ i. state_moves attribute from to (is_some t.hold) (states (take-before j x i) e) (states (through-last j x i) e))))

-- it has entities, so it does not move for none
pub moves-state-none : (j : Journal) (x : Entry) (t : Trigger) (entities : List EntityId) (attribute : Option Text) (from to : Match) → t.rule ≡ TriggerRule.State entities attribute from to → opens_segment x ≡ false
    → moves (more j x) t None (length j) ≡ false
moves-state-none j x t entities attribute from to rule opens =
    let same : t ≡ state_rule t entities attribute from to = (λ i. record t { rule = rule i }) in
    subst (λ (u : Trigger). moves (more j x) u None (length j) ≡ false) (sym same)
    (rw (get-last j x) (rw opens refl))

-- ---- attempts

-- LAW: the attempts of an entry that names nobody are those of the triggers that fire at it
pub attempts-unasked : (j : Journal) (x : Entry) → asked_in x ≡ Asked.Nobody → attempts (more j x) (length j) ≡ fired (more j x) (length j)
attempts-unasked j x nobody =
    (λ i. option_map_or (attempts_of (more j x) (length j)) (get-last j x i) [])
    ∙ (λ i. attempts_asked (more j x) (length j) (nobody i))

-- what holds of each trigger of these automations
abbrev pub EachOf : (Trigger → Type 0) → List Trigger → Type 0
EachOf P [] = Unit {0}
EachOf P (t ∷ ts) = P t × EachOf P ts

abbrev pub EachTrigger : (Trigger → Type 0) → List Automation → Type 0
EachTrigger P [] = Unit {0}
EachTrigger P (a ∷ all) = EachOf P a.triggers × EachTrigger P all

-- the trigger fires for no entity, since any place
abbrev pub FiresNot : Journal → ℕ → Trigger → Type 0
FiresNot j p t = (e : Option EntityId) (s : ℕ) → fired_from j t e s p ≡ None

abbrev nobody : List Attempt
nobody = []

module _ (j : Journal) (p : ℕ) where
  none-for : (since : ℕ) (t : ℕ × Trigger) → FiresNot j p t.1 → (es : List (Option EntityId)) → filter_map (firing_for j since p t) es ≡ []
  none-for since t h [] = refl
  none-for since t h (e ∷ es) = (λ i. cons_option (option_map {T = ℕ} {U = Fired} (λ q. record { trigger = t.0; entity = e; variables = variables j t.1 e q }) (h e since i)) (none-for since t h es i))

  none-of : (since n : ℕ) (ts : List Trigger) → EachOf (FiresNot j p) ts → flat_map (firings_by j since p) (enumerate_from n ts) ≡ []
  none-of since n [] h = refl
  none-of since n (t ∷ ts) h = (λ i. none-for since (n, t) h.0 (entities_at j p t.rule) i ++ none-of since (n + 1) ts h.1 i)

  none-from : (ps : List (ℕ × Automation)) → EachTrigger (FiresNot j p) (map {A = ℕ × Automation} {B = Automation} (λ q. q.1) ps) → flat_map (fired_for j p) ps ≡ []
  none-from [] h = refl
  none-from (a ∷ all) h =
      (λ i. (if is_on (take (suc p) j) a.0 then map (attempt_for a.0) (none-of (since (take (suc p) j) a.0) 0 a.1.triggers h.0 i) else []) ++ none-from all h.1 i)
      ∙ by (is_on (take (suc p) j) a.0)
    where
      by : (b : Bool) → (if b then nobody else nobody) ++ nobody ≡ nobody
      by true = refl
      by false = refl

-- LAW: an entry that names nobody, and at which no trigger fires, has no attempts
pub attempts-none : (j : Journal) (x : Entry) → asked_in x ≡ Asked.Nobody → EachTrigger (FiresNot (more j x) (length j)) (automations (more j x)) → attempts (more j x) (length j) ≡ []
attempts-none j x nobody h =
    let at : map {A = ℕ × Automation} {B = Automation} (λ q. q.1) (in_force (through (more j x) (length j))) ≡ automations (more j x)
    = (λ i. map {A = ℕ × Automation} {B = Automation} (λ q. q.1) (in_force (through-last j x i))) ∙ in-force-are (more j x) in
    attempts-unasked j x nobody
    ∙ none-from (more j x) (length j) (in_force (through (more j x) (length j))) (subst (EachTrigger (FiresNot (more j x) (length j))) (sym at) h)

-- ---- state triggers where nothing changes

-- a state trigger without `for`
pub record IsBareState (t : Trigger) : Type 0 where
  pub hold : t.hold ≡ None
  pub entities : List EntityId
  pub attribute : Option Text
  pub from : Match
  pub to : Match
  pub rule : t.rule ≡ TriggerRule.State entities attribute from to

-- LAW: it fires at an entry, after its since, exactly where its rule holds between the states before and after it
pub bare-fires : (j : Journal) (x : Entry) (t : Trigger) (b : IsBareState t) (e : EntityId) (s : ℕ) → opens_segment x ≡ false
    → fired_from (more j x) t (Some e) s (length j) ≡ (if state_moves b.attribute b.from b.to false (states j e) (states (more j x) e) && nat_lt s (length j) then Some (length j) else None)
bare-fires j x t b e s opens =
    fired-at-once (more j x) t (Some e) s (length j) b.hold
    ∙ (λ i. if moves-state j x t b.entities b.attribute b.from b.to e b.rule opens i && (nat_lt s (length j) || starts (b.rule i)) then Some (length j) else None)
    ∙ (λ i. if state_moves b.attribute b.from b.to (is_some (b.hold i)) (states j e) (states (more j x) e) && (or-false (nat_lt s (length j)) i) then Some (length j) else None)

-- LAW: it does not fire at an entry that changes no state
pub bare-fires-not : (j : Journal) (x : Entry) (t : Trigger) → opens_segment x ≡ false → ((e : EntityId) → states (more j x) e ≡ states j e) → IsBareState t → FiresNot (more j x) (length j) t
bare-fires-not j x t opens same b e s =
    fired-at-once (more j x) t e s (length j) b.hold
    ∙ (λ i. if still e i && (nat_lt s (length j) || starts t.rule) then Some (length j) else None)
  where
    still : (e : Option EntityId) → moves (more j x) t e (length j) ≡ false
    still None = moves-state-none j x t b.entities b.attribute b.from b.to b.rule opens
    still (Some e) =
        moves-state j x t b.entities b.attribute b.from b.to e b.rule opens
        ∙ (λ i. state_moves b.attribute b.from b.to (is_some t.hold) (states j e) (same e i))
        ∙ state-stays b.attribute b.from b.to (is_some t.hold) (states j e)

each-then : (P Q : Trigger → Type 0) → ((t : Trigger) → P t → Q t) → (ts : List Trigger) → EachOf P ts → EachOf Q ts
each-then P Q f [] h = tt
each-then P Q f (t ∷ ts) h = (f t h.0, each-then P Q f ts h.1)

each-trigger-then : (P Q : Trigger → Type 0) → ((t : Trigger) → P t → Q t) → (all : List Automation) → EachTrigger P all → EachTrigger Q all
each-trigger-then P Q f [] h = tt
each-trigger-then P Q f (a ∷ all) h = (each-then P Q f a.triggers h.0, each-trigger-then P Q f all h.1)

-- LAW: where all triggers are such, an entry that names nobody and changes no state has no attempts
pub attempts-still : (j : Journal) (x : Entry) → EachTrigger IsBareState (automations (more j x)) → asked_in x ≡ Asked.Nobody → opens_segment x ≡ false → ((e : EntityId) → states (more j x) e ≡ states j e)
    → attempts (more j x) (length j) ≡ []
attempts-still j x bare nobody opens same =
    attempts-none j x nobody (each-trigger-then IsBareState (FiresNot (more j x) (length j)) (λ t. bare-fires-not j x t opens same) (automations (more j x)) bare)

-- ---- which of them pass

-- the attempts of the last entry that pass
pub passing-last : (j : Journal) (x : Entry) → passing (more j x) ≡ filter (λ y. passes (more j x) (length j) y.1) (enumerate_from 0 (attempts (more j x) (length j)))
passing-last j x =
    let at : last_place (more j x) ≡ length j = omega (arith, length-more j x) in
    (λ i. filter (λ y. passes (more j x) (at i) y.1) (enumerate_from 0 (attempts (more j x) (at i))))

-- LAW: so none passes there
pub passing-none : (j : Journal) (x : Entry) → attempts (more j x) (length j) ≡ [] → passing (more j x) ≡ []
passing-none j x none = passing-last j x ∙ (λ i. filter (λ y. passes (more j x) (length j) y.1) (enumerate_from 0 (none i)))

-- LAW: an attempt of an automation without conditions passes
pub passes-untested : (j : Journal) (p : ℕ) (x : Attempt) (a : Automation) → slice_get (units j) x.automation ≡ Some a → a.tests ≡ [] → passes j p x ≡ true
passes-untested j p x a at untested =
    (λ i. option_map_or (λ b. x.skip || hold_all (sight j (suc p)) b.tests x.env) (at i) false)
    ∙ (λ i. x.skip || hold_all (sight j (suc p)) (untested i) x.env)
    ∙ or-true x.skip
