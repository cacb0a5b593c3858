-- A line that was refused, or that says that its source failed or gave too much, changes nothing that is known.
use Rattle.std.proofs.Common.{◌≡◌, ℕ, suc, ◌+◌, ◌-◌, ◌<◌, max, List, [], ◌∷◌, length, take, map, Bool, true, false, cond, refl, sym, ◌∙◌, rules, arith, Option}
use Rattle.std.specs.Prelude.{Some, None, not, is_some, is_none, slice_get, find, option_and_then, nat_eq, nat_lt, nat_le, ◌&&◌, ◌||◌, if◌then◌else◌}
use Rattle.std.specs.List.{list_all, list_any, enumerate_from}
use Rattle.std.specs.Option.{option_map_or}
use Rattle.ha_value.specs.declared.value.EntityId.{EntityId}
use Rattle.ha_config.specs.declared.config.Automation.{Automation}
use Rattle.ha_config.specs.declared.config.Trigger.{Trigger}
use Rattle.ha_config.specs.declared.config.TriggerRule.{TriggerRule}
use Rattle.ha_config.specs.declared.command.Cmd.{Cmd}
use Rattle.ha_model.specs.declared.record.EndCause.{EndCause}
use Rattle.ha_journal.specs.declared.entry.Entry.{Entry}
use Rattle.ha_journal.specs.declared.entry.Entry.TheVariants.{Line}
use Rattle.ha_model.specs.declared.record.Record.{Record}
use Rattle.ha_config.specs.Words.{one_of, up_to, or_else}
use Rattle.ha_config.specs.Numbers.{in_bounds}
use Rattle.ha_journal.specs.Entries.{Asked, asked_in, Turning, turning, report_in, gone_in, event_in, is_boot, is_moment, is_reload, is_restart, opens_segment, reload_in, step_of, halted_in, changes_in}
use Rattle.ha_journal.specs.Force.{force, has_unit}
use Rattle.ha_journal.specs.Journal.{Journal, HasEntry, automations, brings, zone_of, now, last_place, more, in_force, scripts_in, units}
use Rattle.ha_journal.specs.Switches.{is_on}
use Rattle.ha_journal.specs.States.{states, switches_seen}
use Rattle.ha_sight.specs.Templates.{rendered, says}
use Rattle.ha_sight.specs.Rules.{state_moves, pair_holds, passed, starts}
use Rattle.ha_journal.specs.Moves.{latest_number, before, after, rule_moves, moves}
use Rattle.ha_journal.specs.Holds.{same_watched, between, fires}
use Rattle.ha_journal.specs.Attempts.{Attempt, attempts}
use Rattle.ha_model.specs.Records.{Records, mode_of, script_end, ran, stops, stops_turned, own_cause, next_place, is_restart_mode, is_step_of, calls_of, begin_of, last_record, records_of}
use Rattle.ha_sight.specs.Items.{is_call}
use Rattle.ha_journal.proofs.StateLemmas.{now-snoc}
use Rattle.ha_journal.proofs.SinceLaws.{take-before, on-left}
use Rattle.ha_config.proofs.ListLemmas.{get-last}
use Rattle.ha_model.proofs.RecordGrowth.{AllBelow, below-bare}
use Rattle.ha_journal.proofs.ForceLaws.{in-force-more, scripts-in-more, units-more}
use Rattle.ha_journal.proofs.MoreLemmas.{length-more, through-last}
use Rattle.ha_model.proofs.RecordLaws.{at_place, ended-more}
use Rattle.ha_model.proofs.FoldLaws.{records-passes}
use Rattle.ha_model.proofs.Passes.{end_here, with_ends, with_begins, bare, ended, end_now, admit_now}
use Rattle.ha_journal.specs.declared.event.BusEvent.{BusEvent}
use Rattle.ha_journal.specs.Helpers.{event_for, known}
use Rattle.ha_journal.proofs.EventLaws.{events-none, number-none}
use Rattle.ha_journal.proofs.HelperLaws.{known-left, text-left}
use Rattle.ha_journal.proofs.FiringLaws.{EachOf, EachTrigger, FiresNot, state-stays, states-left, attempts-none, passing-none}
use Rattle.ha_model.proofs.LastEntry.{last-is, or-none, calls-more}
use Rattle.ha_laws.specs.IdleLines.{IsIdle, NothingChanges}

-- an entry that reports, turns, asks and makes nothing, and brings no moment
record IsStill (x : Entry) : Type 0 where
  report : report_in x ≡ None
  gone : gone_in x ≡ None
  event : event_in x ≡ None
  moment : is_moment x ≡ false
  start : brings x ≡ 0
  turns : turning x ≡ Turning.Leaves
  restart : is_restart x ≡ false
  opens : opens_segment x ≡ false
  reload : reload_in x ≡ None
  asks : asked_in x ≡ Asked.Nobody
  step : step_of x ≡ None
  halts : halted_in x ≡ []
  helps : changes_in x ≡ []

idle-still : (source number : ℕ) (cmd : Cmd) → IsIdle cmd → IsStill (Line source number cmd)
idle-still source number (Cmd.Report entity text attributes) h = absurd h
idle-still source number (Cmd.Gone entity) h = absurd h
idle-still source number (Cmd.Event kind pairs) h = absurd h
idle-still source number (Cmd.Moment at) h = absurd h
idle-still source number (Cmd.Switch name on stop) h = absurd h
idle-still source number (Cmd.Trigger name skip) h = absurd h
idle-still source number Cmd.Restart h = absurd h
idle-still source number (Cmd.Reload text config) h = absurd h
idle-still source number (Cmd.Refused code) h = record { report = refl; gone = refl; event = refl; moment = refl; start = refl; turns = refl; restart = refl; opens = refl; reload = refl; asks = refl; step = refl; halts = refl; helps = refl }
idle-still source number Cmd.Lost h = record { report = refl; gone = refl; event = refl; moment = refl; start = refl; turns = refl; restart = refl; opens = refl; reload = refl; asks = refl; step = refl; halts = refl; helps = refl }
idle-still source number Cmd.TooLong h = record { report = refl; gone = refl; event = refl; moment = refl; start = refl; turns = refl; restart = refl; opens = refl; reload = refl; asks = refl; step = refl; halts = refl; helps = refl }

find-none : (test : ℕ → Bool) (ns : List ℕ) → ((n : ℕ) → test n ≡ false) → find test ns ≡ None
find-none test [] h = refl
find-none test (n ∷ ns) h = (λ i. if h n i then Some n else find test ns) ∙ find-none test ns h

each-of : (P : Trigger → Type 0) → ((t : Trigger) → P t) → (ts : List Trigger) → EachOf P ts
each-of P f [] = tt
each-of P f (t ∷ ts) = (f t, each-of P f ts)

each-trigger : (P : Trigger → Type 0) → ((t : Trigger) → P t) → (all : List Automation) → EachTrigger P all
each-trigger P f [] = tt
each-trigger P f (a ∷ all) = (each-of P f a.triggers, each-trigger P f all)

not-itself : (b : Bool) → (b && not b) ≡ false
not-itself true = refl
not-itself false = refl

and-false : (b : Bool) → (b && false) ≡ false
and-false true = refl
and-false false = refl

not-equal : (a b : ℕ) → a < b → nat_eq a b ≡ false
not-equal a b lt = search rules

below-with-ends : (k : Journal) (n : ℕ) (rs : Records) → AllBelow n rs → AllBelow n (with_ends k rs)
below-with-ends k n [] h = tt
below-with-ends k n (r ∷ rs) h = (h.0, below-with-ends k n rs h.1)

module _ (j : Journal) (x : Entry) (h : HasEntry j) (s : IsStill x) where
  abbrev k : Journal
  k = more j x

  abbrev p : ℕ
  p = length j

  -- ---- what is seen

  now-still : now k ≡ now j
  now-still = now-snoc j x ∙ (λ i. max (now j) (s.start i)) ∙ omega arith

  on-still : (a : ℕ) → is_on k a ≡ is_on j a
  on-still a = on-left j x a h s.turns

  states-still : (e : EntityId) → states k e ≡ states j e
  states-still e = states-left j x e h s.report s.gone s.turns s.opens (λ a named. text-left j x (record { changes = s.helps; moment = s.moment }) a)

  switches-still : switches_seen k ≡ switches_seen j
  switches-still = (λ i. map (λ p. (p.0, p.1.name, on-still p.0 i)) (sym (in-force-more j x h s.reload) i))

  sight-still : after k p ≡ before k p
  sight-still =
      (let all = through-last j x in λ i. record { states = states (all i); now = now (all i); zone = zone_of k; automations = switches_seen (all i); scripts = scripts_in (all i); helpers = known (all i) })
      ∙ (λ i. record { states = λ e. states-still e i; now = now-still i; zone = zone_of k; automations = switches-still i; scripts = sym (scripts-in-more j x h s.reload) i; helpers = known-left j x h s.helps i })
      ∙ (let all = sym (take-before j x) in λ i. record { states = states (all i); now = now (all i); zone = zone_of k; automations = switches_seen (all i); scripts = scripts_in (all i); helpers = known (all i) })

  -- ---- nothing moves, and nothing fires

  rule-still : (rule : TriggerRule) (held : Bool) (e : Option EntityId) → rule_moves k rule held e p x ≡ false
  rule-still (TriggerRule.State entities attribute from to) held (Some e) =
      (λ i. state_moves attribute from to held ((before k p).states e) ((sight-still i).states e)) ∙ state-stays attribute from to held ((before k p).states e)
  rule-still (TriggerRule.State entities attribute from to) held None = refl
  rule-still (TriggerRule.Numeric entities attribute above below) held (Some e) =
      (λ i. option_map_or (in_bounds above below) (number-none e attribute x s.report s.helps i) false
      && not (option_map_or (in_bounds above below) (latest_number e attribute (take p k)) false))
  rule-still (TriggerRule.Numeric entities attribute above below) held None = refl
  rule-still (TriggerRule.Event kinds pairs) held e =
      (λ i. option_map_or (λ v. one_of v.kind kinds && list_all (pair_holds v.pairs) pairs) (event_for e (events-none (take p k) x s.event s.helps s.moment i)) false) ∙ nobody e
    where
      nobody : (e : Option EntityId) → option_map_or (λ (v : BusEvent). one_of v.kind kinds && list_all (pair_holds v.pairs) pairs) (event_for e []) false ≡ false
      nobody None = refl
      nobody (Some f) = refl
  rule-still (TriggerRule.Time seconds) held (Some e) = refl
  rule-still (TriggerRule.Time seconds) held None = (λ i. s.moment i && passed (TriggerRule.Time seconds) (before k p).zone (before k p).now (after k p).now)
  rule-still (TriggerRule.Pattern hours minutes seconds) held (Some e) = refl
  rule-still (TriggerRule.Pattern hours minutes seconds) held None =
      (λ i. s.moment i && passed (TriggerRule.Pattern hours minutes seconds) (before k p).zone (before k p).now (after k p).now)
  rule-still (TriggerRule.Template t) held (Some e) = refl
  rule-still (TriggerRule.Template t) held None = (λ i. says (rendered (sight-still i) t []) && not (says (rendered (before k p) t []))) ∙ not-itself (says (rendered (before k p) t []))
  rule-still TriggerRule.Start held e = refl

  moves-still : (t : Trigger) (e : Option EntityId) → moves k t e p ≡ false
  moves-still t e =
      (λ i. option_map_or (λ y. if opens_segment y then is_boot y && starts t.rule && is_none e else rule_moves k t.rule (is_some t.hold) e p y) (get-last j x i) false)
      ∙ (λ i. if s.opens i then is_boot x && starts t.rule && is_none e else rule_moves k t.rule (is_some t.hold) e p x)
      ∙ rule-still t.rule (is_some t.hold) e

  abbrev with_hold : Trigger → Option ℕ → Trigger
  with_hold t hold = record t { hold = hold }

  fires-still : (t : Trigger) (hold : Option ℕ) (e : Option EntityId) (since i : ℕ) → fires k (with_hold t hold) e since p i ≡ false
  fires-still t None e since i = (λ q. (nat_eq i p && moves-still (with_hold t None) e q) && (nat_lt since p || starts t.rule)) ∙ first (nat_eq i p)
    where
      first : (b : Bool) → ((b && false) && (nat_lt since p || starts t.rule)) ≡ false
      first true = refl
      first false = refl
  fires-still t (Some d) e since i =
      (λ q. (((nat_lt since i && moves k (with_hold t (Some d)) e i) && option_map_or is_moment (get-last j x q) false) && nat_le ((after k i).now + d) (after k p).now)
      && not (list_any (λ q. option_map_or is_moment (slice_get k q) false && nat_le ((after k i).now + d) (after k q).now) (between k i (p - 1)))
      && list_all (same_watched k t.rule e i) (between k i p))
      ∙ (λ q. (((nat_lt since i && moves k (with_hold t (Some d)) e i) && s.moment q) && nat_le ((after k i).now + d) (after k p).now)
      && not (list_any (λ q. option_map_or is_moment (slice_get k q) false && nat_le ((after k i).now + d) (after k q).now) (between k i (p - 1)))
      && list_all (same_watched k t.rule e i) (between k i p))
      ∙ second (nat_lt since i && moves k (with_hold t (Some d)) e i)
    where
      second : (b : Bool) → (((b && false) && nat_le ((after k i).now + d) (after k p).now)
          && not (list_any (λ q. option_map_or is_moment (slice_get k q) false && nat_le ((after k i).now + d) (after k q).now) (between k i (p - 1)))
          && list_all (same_watched k t.rule e i) (between k i p)) ≡ false
      second true = refl
      second false = refl

  fired-still : (t : Trigger) → FiresNot k p t
  fired-still t e since = find-none (fires k t e since p) (up_to (suc p)) (λ i. fires-still t t.hold e since i)

  attempts-still : attempts k p ≡ []
  attempts-still = attempts-none j x s.asks (each-trigger (FiresNot k p) fired-still (automations k))

  -- ---- the records stay

  cause-still : (r : Record) → own_cause k r ≡ None
  cause-still r =
      (λ i. or_else (if last-is (is_step_of r.serial) j x i then option_and_then (λ o. script_end o.status) (ran k r) else None)
      (if last-is (stops (units k) r.automation) j x i then Some EndCause.SwitchedOff
      else if last-is is_restart j x i then Some EndCause.Restarted
      else if last-is is_reload j x i && not (has_unit (force k) r.automation) then Some EndCause.Reloaded
      else None))
      ∙ (λ i. or_else (if option_map_or (λ y. nat_eq y.serial r.serial) (s.step i) false then option_and_then (λ o. script_end o.status) (ran k r) else None)
      (if stops_turned (units k) r.automation (s.turns i) || list_any (nat_eq r.automation) (s.halts i) then Some EndCause.SwitchedOff
      else if s.restart i then Some EndCause.Restarted
      else if is_some (s.reload i) && not (has_unit (force k) r.automation) then Some EndCause.Reloaded
      else None))

  -- none of these has the place of the entry
  next-earlier : (a : ℕ) (rs : Records) → AllBelow p rs → option_map_or (λ q. nat_eq q (last_place k)) (next_place a rs) false ≡ false
  next-earlier a [] b = refl
  next-earlier a (r ∷ rs) b = by (nat_eq r.automation a) (next-earlier a rs b.1)
    where
      by : (c : Bool) → option_map_or (λ q. nat_eq q (last_place k)) (next_place a rs) false ≡ false → option_map_or (λ q. nat_eq q (last_place k)) (if c then Some r.place else next_place a rs) false ≡ false
      by true ih = not-equal r.place (last_place k) (omega (arith, b.0, length-more j x))
      by false ih = ih

  here-still : (r : Record) (rs : Records) → AllBelow p rs → end_here k r (next_place r.automation rs) ≡ None
  here-still r rs b =
      (λ i. at_place (last_place k) (or_else (if nat_lt r.place (last_place k) then cause-still r i else None)
      (if is_restart_mode (mode_of (units k) r.automation) && next-earlier r.automation rs b i then Some EndCause.Replaced else None)))
      ∙ by (nat_lt r.place (last_place k)) (is_restart_mode (mode_of (units k) r.automation))
    where
      by : (a c : Bool) → at_place (last_place k) (or_else (if a then None else None) (if c && false then Some EndCause.Replaced else None)) ≡ None
      by true true = refl
      by true false = refl
      by false true = refl
      by false false = refl

  ends-still : (rs : Records) → AllBelow p rs → end_now k rs ≡ rs
  ends-still [] b = refl
  ends-still (r ∷ rs) b =
      (λ i. record r { end = or_else r.end (here-still r rs b.1 i) } ∷ ends-still rs b.1 i)
      ∙ (λ i. record r { end = or-none r.end i } ∷ rs)

  calls-still : (serial : ℕ) → calls_of k serial ≡ calls_of j serial
  calls-still serial = calls-more j x serial ∙ (λ i. calls_of j serial + cond (option_map_or (λ y. nat_eq y.serial serial && is_call y.item) (s.step i) false) 1 0) ∙ omega arith

  begins-still : (back rs : Records) → with_begins k back rs ≡ with_begins j back rs
  begins-still back [] = refl
  begins-still back (r ∷ rs) =
      (λ i. record r { begin = begin_of (mode_of (sym (units-more j x h s.reload) i) r.automation) (last_record r.automation back) r; calls = calls-still r.serial i } ∷ begins-still (r ∷ back) rs i)

  abbrev admit_these : List (ℕ × Attempt) → Records
  admit_these xs = admit_now k (end_now k (ended j)) xs

  records-still : records_of k ≡ records_of j
  records-still =
      records-passes k
      ∙ (λ i. with_begins k [] (ended-more j x i))
      ∙ (λ i. with_begins k [] (admit_these (passing-none j x attempts-still i)))
      ∙ (λ i. with_begins k [] (ends-still (ended j) (below-with-ends j p (bare j) (below-bare j p p (omega arith) (omega arith))) i))
      ∙ begins-still [] (ended j)
      ∙ sym (records-passes j)

-- LAW: such a line changes nothing that is known
pub idle-changes-nothing : (j : Journal) (source number : ℕ) (cmd : Cmd) → HasEntry j → IsIdle cmd → NothingChanges j (more j (Line source number cmd))
idle-changes-nothing j source number cmd h idle =
    let x : Entry = Line source number cmd in
    let s = idle-still source number cmd idle in
    record {
      states_stay = states-still j x h s;
      now_stays = now-still j x h s;
      switches_stay = on-still j x h s;
      no_attempts = attempts-still j x h s;
      records_stay = records-still j x h s;
    }
