-- What event triggers fire with for the events of helpers.
use Rattle.std.proofs.Common.{◌≡◌, ℕ, zero, suc, List, [], ◌∷◌, ◌++◌, length, map, Bool, true, false, refl, sym, ap, ◌∙◌}
use Rattle.std.specs.Prelude.{Option, Some, None, MatchOption, codes, filter_map, is_some, nat_lt, option_map, option_and_then, slice_get, ◌&&◌, ◌||◌, if◌then◌else◌}
use Rattle.std.specs.List.{cons_option, list_all}
use Rattle.std.specs.Option.{option_map_or}
use Rattle.ha_value.specs.declared.value.EntityId.{EntityId}
use Rattle.ha_value.specs.declared.value.Value.{Value}
use Rattle.ha_value.specs.declared.value.Value.TheVariants.{Pairs as Map}
use Rattle.ha_config.specs.declared.command.Cmd.{Cmd}
use Rattle.ha_config.specs.declared.config.Trigger.{Trigger}
use Rattle.ha_config.specs.declared.config.TriggerRule.{TriggerRule}
use Rattle.ha_config.specs.Sound.{may_hold}
use Rattle.ha_config.specs.Words.{Pairs, Text, one_of}
use Rattle.ha_sight.specs.declared.helped.HelperChange.{HelperChange}
use Rattle.ha_sight.specs.Rules.{entities_of, event_value, head_pairs, is_event, pair_holds}
use Rattle.ha_journal.specs.declared.entry.Entry.{Entry}
use Rattle.ha_journal.specs.declared.entry.Entry.TheVariants.{Again, Boot, Line, Step}
use Rattle.ha_journal.specs.declared.event.BusEvent.{BusEvent}
use Rattle.ha_journal.specs.declared.firing.Firing.{Firing}
use Rattle.ha_journal.specs.Entries.{changes_in, is_moment, opens_segment}
use Rattle.ha_journal.specs.Helpers.{event_for, event_of_change, finished, helper_events, is_of, timer_event}
use Rattle.ha_journal.specs.Journal.{Journal, more}
use Rattle.ha_journal.specs.Moves.{moves, sight}
use Rattle.ha_journal.specs.Variables.{variables}
use Rattle.ha_journal.proofs.EventLaws.{helps-none}
use Rattle.ha_journal.proofs.FiringLaws.{fired-at-once}
use Rattle.ha_past.specs.Firings.{Owner, firing_for}
use Rattle.ha_past.specs.Looks.{moves_after, moves_with}
use Rattle.ha_past.proofs.EventLaws.{event-starts}
use Rattle.event_bus.specs.Subjects.{Subject, concerns}
use Rattle.trig_set.specs.Kept.{holds_well}
use Rattle.trig_set.specs.Timed.{given_for, names_event, timed_by, timed_firing, timed_for, timed_of}
use Rattle.trig_set.proofs.MovedLemmas.{moves-by, timer-told, timer_target}

never : (b : Bool) → b ≡ true → b ≡ false → ⊥
never b h k = (let bad : ◌≡◌ {A = Bool} true false = sym h ∙ k in cc)

pub filter-mapped : {X Y Z : Type 0} (f : Y → Option Z) (h : X → Y) (xs : List X) → filter_map (λ x. f (h x)) xs ≡ filter_map f (map h xs)
filter-mapped f h [] = refl
filter-mapped f h (x ∷ xs) = (λ i. cons_option (f (h x)) (filter-mapped f h xs i))

-- ---- event triggers

event-may : (rule : TriggerRule) → is_event rule ≡ true → may_hold rule ≡ false
event-may (TriggerRule.State entities attribute from to) e = cc
event-may (TriggerRule.Numeric entities attribute above below) e = cc
event-may (TriggerRule.Event kinds pairs) e = refl
event-may (TriggerRule.Time seconds) e = refl
event-may (TriggerRule.Pattern hours minutes seconds) e = refl
event-may (TriggerRule.Template u) e = cc
event-may TriggerRule.Start e = refl

-- LAW: one that is sound has no `for`
pub event-holds : (t : Trigger) → holds_well t → is_event t.rule ≡ true → t.hold ≡ None
event-holds t well event = by t.hold refl
  where
    by : (o : Option ℕ) → t.hold ≡ o → o ≡ None
    by None is = refl
    by (Some d) is = absurd (never (may_hold t.rule) (well.0 (ap is_some is)) (event-may t.rule event))

pub event-entities : (rule : TriggerRule) → is_event rule ≡ true → entities_of rule ≡ None ∷ []
event-entities (TriggerRule.State entities attribute from to) e = cc
event-entities (TriggerRule.Numeric entities attribute above below) e = cc
event-entities (TriggerRule.Event kinds pairs) e = refl
event-entities (TriggerRule.Time seconds) e = refl
event-entities (TriggerRule.Pattern hours minutes seconds) e = refl
event-entities (TriggerRule.Template u) e = refl
event-entities TriggerRule.Start e = refl

-- ---- whose the events of helpers are

abbrev ents_of : Journal → Entry → List EntityId
ents_of j x = filter_map (λ c. option_map (λ k. c.entity) c.event) (changes_in x) ++ finished j x

abbrev IsOf : Journal → Entry → List BusEvent → List EntityId → Type 0
IsOf j x vs es = map (λ (v : BusEvent). v.entity) (vs ++ map (timer_event (codes "timer.finished")) (finished j x)) ≡ map Some (es ++ finished j x)

-- each is somebody's
owned : (j : Journal) (x : Entry) → map (λ v. v.entity) (helper_events j x) ≡ map Some (ents_of j x)
owned j x = changed (changes_in x)
  where
    ended : (es : List EntityId) → map (λ (v : BusEvent). v.entity) (map (timer_event (codes "timer.finished")) es) ≡ map Some es
    ended [] = refl
    ended (e ∷ es) = (λ i. Some e ∷ ended es i)

    one : (c : HelperChange) (o : Option Text) (vs : List BusEvent) (es : List EntityId) → IsOf j x vs es → IsOf j x (cons_option (option_map (λ k. timer_event k c.entity) o) vs) (cons_option (option_map (λ k. c.entity) o) es)
    one c None vs es rest = rest
    one c (Some k) vs es rest = (λ i. Some c.entity ∷ rest i)

    changed : (cs : List HelperChange) → IsOf j x (filter_map event_of_change cs) (filter_map (λ c. option_map (λ k. c.entity) c.event) cs)
    changed [] = ended (finished j x)
    changed (c ∷ cs) = one c c.event (filter_map event_of_change cs) (filter_map (λ d. option_map (λ k. d.entity) d.event) cs) (changed cs)

opens-quiet : (x : Entry) → opens_segment x ≡ true → (changes_in x ≡ []) × (is_moment x ≡ false)
opens-quiet (Boot text config stored start zone carry) h = (refl, refl)
opens-quiet (Again number start stored carry) h = (refl, refl)
opens-quiet (Line k n Cmd.Restart) h = (refl, refl)
opens-quiet (Line k n (Cmd.Reload text config)) h = (refl, refl)
opens-quiet (Line k n (Cmd.Report entity text attributes)) h = (refl, refl)
opens-quiet (Line k n (Cmd.Gone entity)) h = (refl, refl)
opens-quiet (Line k n (Cmd.Event kind pairs)) h = (refl, refl)
opens-quiet (Line k n (Cmd.Moment at)) h = absurd (let bad : ◌≡◌ {A = Bool} false true = h in cc)
opens-quiet (Line k n (Cmd.Switch name on stop)) h = (refl, refl)
opens-quiet (Line k n (Cmd.Trigger name skip)) h = (refl, refl)
opens-quiet (Line k n (Cmd.Refused code)) h = (refl, refl)
opens-quiet (Line k n Cmd.Lost) h = (refl, refl)
opens-quiet (Line k n Cmd.TooLong) h = (refl, refl)
opens-quiet (Step worker serial branch item) h = absurd (let bad : ◌≡◌ {A = Bool} false true = h in cc)

-- LAW: where a segment opens there is no event of a helper
pub opens-events : (j : Journal) (x : Entry) → opens_segment x ≡ true → helper_events j x ≡ []
opens-events j x opens = (let q = opens-quiet x opens in helps-none j x q.0 q.1)

-- ---- what they fire with

module _ (j : Journal) (x : Entry) (o : Owner) (n : ℕ) (t : Trigger) (event : is_event t.rule ≡ true) (hold : t.hold ≡ None) where
  abbrev made : Option EntityId → Value → Firing
  made e v = timed_firing o.owner n e v

  fires-moved : (e : Option EntityId) → firing_for (more j x) (length j) o (n, t) e ≡ option_map (made e) (moves_with j x t e o.since)
  fires-moved e = ap (option_map (λ i. made e (variables (more j x) t e i))) (fired-at-once (more j x) t e o.since (length j) hold) ∙ by (moves_after j x t e o.since)
    where
      by : (b : Bool) → option_map (λ i. made e (variables (more j x) t e i)) (if b then Some (length j) else None) ≡ option_map (made e) (if b then Some (variables (more j x) t e (length j)) else None)
      by true = refl
      by false = refl

  told : (y : EntityId) (rule : TriggerRule) → t.rule ≡ rule → is_event rule ≡ true → given_for t (helper_events j x) (Some y) ≡ timer_target (sight j (length j)) (sight (more j x) (suc (length j))) j x t y
  told y (TriggerRule.State entities attribute from to) is e = cc
  told y (TriggerRule.Numeric entities attribute above below) is e = cc
  told y (TriggerRule.Event kinds pairs) is e = timer-told (sight j (length j)) (sight (more j x) (suc (length j))) j x t y kinds pairs is (helper_events j x) refl
  told y (TriggerRule.Time seconds) is e = cc
  told y (TriggerRule.Pattern hours minutes seconds) is e = cc
  told y (TriggerRule.Template u) is e = cc
  told y TriggerRule.Start is e = cc

  -- for one of the events
  one : opens_segment x ≡ false → nat_lt o.since (length j) ≡ true → (y : EntityId) → timed_for o.owner n t (helper_events j x) (Some y) ≡ firing_for (more j x) (length j) o (n, t) (Some y)
  one opens lt y =
      ap (option_map (made (Some y))) (told y t.rule refl event ∙ sym (moves-by j x t (Some y) o.since opens lt))
      ∙ sym (fires-moved (Some y))

  abbrev fired : Type 0
  fired = timed_by o.owner n t (helper_events j x) ≡ filter_map (firing_for (more j x) (length j) o (n, t)) (map (λ v. v.entity) (helper_events j x))

  later : nat_lt o.since (length j) ≡ true → fired
  later lt = by (opens_segment x) refl
    where
      each : opens_segment x ≡ false → (es : List EntityId) → filter_map (timed_for o.owner n t (helper_events j x)) (map Some es) ≡ filter_map (firing_for (more j x) (length j) o (n, t)) (map Some es)
      each opens [] = refl
      each opens (y ∷ ys) = (λ i. cons_option (one opens lt y i) (each opens ys i))

      by : (b : Bool) → opens_segment x ≡ b → fired
      by true opens =
          let none = opens-events j x opens in
          (λ i. filter_map (timed_for o.owner n t (none i)) (map (λ v. v.entity) (none i)))
          ∙ (λ i. filter_map (firing_for (more j x) (length j) o (n, t)) (map (λ v. v.entity) (sym none i)))
      by false opens =
          (λ i. filter_map (timed_for o.owner n t (helper_events j x)) (owned j x i))
          ∙ each opens (ents_of j x)
          ∙ sym (λ i. filter_map (firing_for (more j x) (length j) o (n, t)) (owned j x i))

  -- before its since it fires for none
  early : nat_lt o.since (length j) ≡ false → (es : List (Option EntityId)) → [] ≡ filter_map (firing_for (more j x) (length j) o (n, t)) es
  early lt [] = refl
  early lt (e ∷ es) = early lt es ∙ (λ i. cons_option (sym none i) (filter_map (firing_for (more j x) (length j) o (n, t)) es))
    where
      not-both : (b : Bool) → (if b && (false || false) then Some (variables (more j x) t e (length j)) else None) ≡ None
      not-both true = refl
      not-both false = refl

      none : firing_for (more j x) (length j) o (n, t) e ≡ None
      none =
          fires-moved e
          ∙ (λ i. option_map (made e) (if moves (more j x) t e (length j) && (lt i || event-starts t.rule event i) then Some (variables (more j x) t e (length j)) else None))
          ∙ ap (option_map (made e)) (not-both (moves (more j x) t e (length j)))

  -- LAW: an event trigger fires for each event of a helper
  pub timed-fires : timed_of o (length j) (helper_events j x) n t ≡ filter_map (firing_for (more j x) (length j) o (n, t)) (map (λ v. v.entity) (helper_events j x))
  timed-fires = by (nat_lt o.since (length j)) refl
    where
      by : (b : Bool) → nat_lt o.since (length j) ≡ b → timed_of o (length j) (helper_events j x) n t ≡ filter_map (firing_for (more j x) (length j) o (n, t)) (map (λ v. v.entity) (helper_events j x))
      by true lt = (λ i. if event i && lt i then timed_by o.owner n t (helper_events j x) else []) ∙ later lt
      by false lt = (λ i. if event i && lt i then timed_by o.owner n t (helper_events j x) else []) ∙ early lt (map (λ v. v.entity) (helper_events j x))

-- ---- events that concern nobody

-- the kind of the event doesn't concern the rule
unnamed-by : (rule : TriggerRule) (e : Option EntityId) (v : BusEvent) → concerns rule e (Subject.Event v.kind) ≡ false → names_event rule v ≡ false
unnamed-by (TriggerRule.State entities attribute from to) e v h = refl
unnamed-by (TriggerRule.Numeric entities attribute above below) e v h = refl
unnamed-by (TriggerRule.Event kinds pairs) e v h = (λ i. h i && list_all (pair_holds v.pairs) pairs)
unnamed-by (TriggerRule.Time seconds) e v h = refl
unnamed-by (TriggerRule.Pattern hours minutes seconds) e v h = refl
unnamed-by (TriggerRule.Template u) e v h = refl
unnamed-by TriggerRule.Start e v h = refl

abbrev pub AreUnnamed : TriggerRule → Option EntityId → List BusEvent → Type 0
AreUnnamed rule e events = (k : ℕ) → MatchOption (slice_get events k) (Unit {0}) (λ v. concerns rule e (Subject.Event v.kind) ≡ false)

-- LAW: an event trigger that names none of the events is not moved by one
pub others-off : (kinds : List Text) (pairs : Pairs) (e : Option EntityId) (events : List BusEvent) → AreUnnamed (TriggerRule.Event kinds pairs) e events
    → option_map_or (λ v. one_of v.kind kinds && list_all (pair_holds v.pairs) pairs) (event_for e events) false ≡ false
others-off kinds pairs e [] h = refl
others-off kinds pairs e (v ∷ vs) h = by (is_of e v) (others-off kinds pairs e vs (λ k. h (suc k)))
  where
    by : (b : Bool) → option_map_or (λ (v : BusEvent). one_of v.kind kinds && list_all (pair_holds v.pairs) pairs) (event_for e vs) false ≡ false
        → option_map_or (λ (v : BusEvent). one_of v.kind kinds && list_all (pair_holds v.pairs) pairs) (if b then Some v else event_for e vs) false ≡ false
    by true rest = (λ i. h zero i && list_all (pair_holds v.pairs) pairs)
    by false rest = rest

module _ (o : Owner) (place : ℕ) (events : List BusEvent) (n : ℕ) (t : Trigger) (e : Option EntityId) (none : AreUnnamed t.rule e events) where
  given-off : (f : Option EntityId) → given_for t events f ≡ None
  given-off f = by events none
    where
      by : (vs : List BusEvent) → AreUnnamed t.rule e vs → given_for t vs f ≡ None
      by [] h = refl
      by (v ∷ vs) h = of (is_of f v) (by vs (λ k. h (suc k)))
        where
          of : (b : Bool) → given_for t vs f ≡ None
              → option_and_then (λ (w : BusEvent). if names_event t.rule w then Some (Map (head_pairs (codes "event") t ++ ((codes "event", event_value (Some (w.kind, w.pairs))) ∷ []))) else None) (if b then Some v else event_for f vs) ≡ None
          of true rest = (λ i. if unnamed-by t.rule e v (h zero) i then Some (Map (head_pairs (codes "event") t ++ ((codes "event", event_value (Some (v.kind, v.pairs))) ∷ []))) else None)
          of false rest = rest

  -- LAW: it fires with nothing
  pub timed-off : timed_of o place events n t ≡ []
  timed-off = by (is_event t.rule && nat_lt o.since place)
    where
      all-off : (es : List (Option EntityId)) → filter_map (timed_for o.owner n t events) es ≡ []
      all-off [] = refl
      all-off (f ∷ fs) = (λ i. cons_option (option_map (timed_firing o.owner n f) (given-off f i)) (all-off fs i))

      by : (b : Bool) → (if b then timed_by o.owner n t events else []) ≡ []
      by true = all-off (map (λ v. v.entity) events)
      by false = refl
