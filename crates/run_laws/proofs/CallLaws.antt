-- LAW of the calls for one entry: after its calls, ends, stops and attempts, in this order, the records are those of the journal with it.
use Rattle.std.proofs.Common.{◌≡◌, ℕ, zero, suc, ◌+◌, ◌-◌, ◌<◌, List, [], ◌∷◌, length, map, Bool, true, false, cond, refl, sym, ap, subst, ◌∙◌, rules, arith, Option}
use Rattle.std.specs.Prelude.{Some, None, not, nat_eq, is_none, slice_get, fold, option_map, option_and_then, ◌&&◌, ◌||◌, if◌then◌else◌}
use Rattle.std.specs.List.{list_any}
use Rattle.std.specs.Option.{option_map_or}
use Rattle.std.proofs.lemmas.Bool.{eqb-true}
use Rattle.ha_config.specs.declared.config.Mode.{Mode}
use Rattle.ha_config.specs.declared.config.Automation.{Automation}
use Rattle.ha_sight.specs.declared.item.Item.{Item}
use Rattle.ha_config.specs.declared.command.Cmd.{Cmd}
use Rattle.ha_journal.specs.declared.entry.Entry.{Entry}
use Rattle.ha_journal.specs.declared.entry.Entry.TheVariants.{Boot, Line, Step, Again}
use Rattle.ha_model.specs.declared.record.EndCause.{EndCause}
use Rattle.ha_model.specs.declared.record.Record.{Record}
use Rattle.ha_journal.specs.Entries.{Turning, turning, halted_in, step_of, is_reload, is_restart}
use Rattle.ha_journal.specs.Force.{force, has_unit}
use Rattle.ha_sight.specs.Items.{is_call}
use Rattle.ha_journal.specs.Journal.{Journal, HasEntry, last_place, more, units}
use Rattle.ha_sight.specs.Scripts.{Branch}
use Rattle.ha_model.specs.Records.{Records, mode_of, own_cause, last_record, begin_of, is_step_of, is_call_of, ended_by_script, script_end, ran, stops, stops_turned, calls_of}
use Rattle.ha_config.specs.Words.{or_else, same}
use Rattle.ha_model.specs.RunSteps.{ends_for, own_ends, begins_here, begin_at, settled}
use Rattle.ha_model.specs.NextPlace.{next_end}
use Rattle.ha_model.specs.Lawful.{record_of}
use Rattle.ha_journal.proofs.ForceLaws.{unit-more}
use Rattle.ha_journal.proofs.MoreLemmas.{length-more}
use Rattle.ha_model.proofs.KnownLaws.{AllKnown}
use Rattle.ha_model.proofs.LastEntry.{last-is, calls-more}
use Rattle.ha_model.proofs.StepLaws.{ran-step}
use Rattle.run_modes.specs.Table.{is_live, begin_first, begins_at, end_one, stopped, called_on, ended_at}
use Rattle.ha_laws.specs.Order.{InOrderBehind, InOrder}
use Rattle.run_modes.specs.Fits.{AreNumbered}
use Rattle.run_modes.specs.Calls.{stop_cause, stop_turned, stops_done, AreTurned}
use Rattle.run_laws.proofs.OldLaws.{BegunIn, OldOne, AllOld, AllCounted}
use Rattle.run_laws.proofs.EndsLaws.{ending, lazy, begun_behind, stopper, stop_by, NoOwn, plain, ends-at}
use Rattle.run_modes.proofs.StopLemmas.{lanes-end, end_of}

not-equal : (a b : ℕ) → a < b → nat_eq a b ≡ false
not-equal a b lt = search rules

abbrev no_cause : Option EndCause
no_cause = None

never : (b : Bool) → (if b then no_cause else no_cause) ≡ no_cause
never true = refl
never false = refl

-- ---- two lists of records that agree on units and ends

abbrev pub AlikeEnds : Records → Records → Type 0
AlikeEnds [] [] = Unit {0}
AlikeEnds (t ∷ ts) (e ∷ es) = (t.automation ≡ e.automation) × (t.end ≡ e.end) × AlikeEnds ts es
AlikeEnds _ _ = ⊥

abbrev pub LastAlike : Option Record → Option Record → Type 0
LastAlike None None = Unit {0}
LastAlike (Some t) (Some e) = t.end ≡ e.end
LastAlike _ _ = ⊥

pub last-alike : (a : ℕ) (ts es : Records) → AlikeEnds ts es → LastAlike (last_record a ts) (last_record a es)
last-alike a [] [] h = tt
last-alike a [] (e ∷ es) h = absurd h
last-alike a (t ∷ ts) [] h = absurd h
last-alike a (t ∷ ts) (e ∷ es) h = by (nat_eq t.automation a) (nat_eq e.automation a) (λ i. nat_eq (h.0 i) a) (last-alike a ts es h.2)
  where
    by : (b b' : Bool) → b ≡ b' → LastAlike (last_record a ts) (last_record a es) → LastAlike (if b then Some t else last_record a ts) (if b' then Some e else last_record a es)
    by true true q g = h.1
    by false false q g = g
    by true false q g = cc
    by false true q g = cc

pub here-alike : (p : ℕ) (mode : Mode) (x y : Option Record) (own : Option (ℕ × EndCause)) → LastAlike x y → begins_here p mode x own ≡ begins_here p mode y own
here-alike p Mode.Queued None None r h = refl
here-alike p Mode.Queued None (Some y) r h = absurd h
here-alike p Mode.Queued (Some x) None r h = absurd h
here-alike p Mode.Queued (Some x) (Some y) r h = (λ i. if option_map_or (λ e. nat_eq e.0 p) (h i) false && is_none r then Some p else None)
here-alike p Mode.Single x y r h = refl
here-alike p Mode.Restart x y r h = refl
here-alike p Mode.Parallel x y r h = refl

abbrev pub recounted : Journal → Record → Record
recounted k r = record r { calls = calls_of k r.serial }

-- ---- settling is the lazy table

module _ (k : Journal) (p s : ℕ) (cause : Option EndCause) (stop : ℕ → Option EndCause) where
  -- what the entry itself does to each of them is told by its own run and the stops
  abbrev pub AllCaused : Records → Type 0
  AllCaused [] = Unit {0}
  AllCaused (r ∷ rs) = (own_cause k r ≡ ending (units k) p s cause stop r) × AllCaused rs

  settle-one : last_place k ≡ p → (back back' : Records) → AlikeEnds back back' → (r : Record) → own_cause k r ≡ ending (units k) p s cause stop r → OldOne (units k) p r
      → record (ends_for (last_place k) (own_cause k r) r) {
        begin = begin_at (last_place k) (mode_of (units k) r.automation) (last_record r.automation back) (ends_for (last_place k) (own_cause k r) r);
        calls = calls_of k r.serial;
      } ≡ begun_behind (units k) p s cause stop back' (ends_for p (ending (units k) p s cause stop r) (recounted k r))
  settle-one at back back' alike r caused old =
      let e = ends_for p (ending (units k) p s cause stop r) (recounted k r) in
      let early : nat_eq r.place p ≡ false = not-equal r.place p old.place in
      (λ i. record (ends_for (at i) (caused i) r) {
        begin = begin_at (at i) (mode_of (units k) r.automation) (last_record r.automation back) (ends_for (at i) (caused i) r);
        calls = calls_of k r.serial;
      })
      ∙ (λ i. record e { begin = if early i then begin_of (mode_of (units k) r.automation) (last_record r.automation back) (ends_for p (ending (units k) p s cause stop r) r) else or_else r.begin (begins_here p (mode_of (units k) r.automation) (last_record r.automation back) e.end) })
      ∙ (λ i. record e { begin = or_else r.begin (here-alike p (mode_of (units k) r.automation) (last_record r.automation back) (last_record r.automation back') e.end (last-alike r.automation back back' alike) i) })

  settle-lazy : last_place k ≡ p → (back back' : Records) → AlikeEnds back back' → (rs : Records) → AllCaused rs → AllOld (units k) p rs
      → settled k back (own_ends k rs) ≡ lazy (units k) p s cause stop back' (map {A = Record} {B = Record} (recounted k) rs)
  settle-lazy at back back' alike [] caused old = refl
  settle-lazy at back back' alike (r ∷ rs) caused old =
      let one = settle-one at back back' alike r caused.0 old.0 in
      let now = begun_behind (units k) p s cause stop back' (ends_for p (ending (units k) p s cause stop r) (recounted k r)) in
      let more_alike : AlikeEnds (ends_for (last_place k) (own_cause k r) r ∷ back) (now ∷ back')
      = (refl, (λ i. or_else r.end (option_map {T = EndCause} (λ c. (at i, c)) (caused.0 i))), alike) in
      (λ i. one i ∷ settled k (ends_for (last_place k) (own_cause k r) r ∷ back) (own_ends k rs)) ∙ ap (λ t. now ∷ t) (settle-lazy at (ends_for (last_place k) (own_cause k r) r ∷ back) (now ∷ back') more_alike rs caused.1 old.1)

-- ---- a call that is counted leaves all else

module _ (s : ℕ) where
  abbrev pub counted_one : Record → Record
  counted_one r = if nat_eq r.serial s then record r { calls = suc r.calls } else r

  pub called-recounted : (k : Journal) (rs : Records) → map {A = Record} {B = Record} (recounted k) (called_on s rs) ≡ map {A = Record} {B = Record} (recounted k) rs
  called-recounted k [] = refl
  called-recounted k (r ∷ rs) = (λ i. by (nat_eq r.serial s) i ∷ called-recounted k rs i)
    where
      by : (b : Bool) → recounted k (if b then record r { calls = suc r.calls } else r) ≡ recounted k r
      by true = refl
      by false = refl

  called-caused : (k : Journal) (p t : ℕ) (cause : Option EndCause) (stop : ℕ → Option EndCause) (rs : Records) → AllCaused k p t cause stop rs → AllCaused k p t cause stop (called_on s rs)
  called-caused k p t cause stop [] h = tt
  called-caused k p t cause stop (r ∷ rs) h = by (called-caused k p t cause stop rs h.1) (nat_eq r.serial s)
    where
      by : AllCaused k p t cause stop (called_on s rs) → (b : Bool) → AllCaused k p t cause stop ((if b then record r { calls = suc r.calls } else r) ∷ called_on s rs)
      by ih true = (h.0, ih)
      by ih false = (h.0, ih)

  pub called-old : (all : List Automation) (n : ℕ) (rs : Records) → AllOld all n rs → AllOld all n (called_on s rs)
  called-old all n [] h = tt
  called-old all n (r ∷ rs) h = by (called-old all n rs h.1) (nat_eq r.serial s)
    where
      by : AllOld all n (called_on s rs) → (b : Bool) → AllOld all n ((if b then record r { calls = suc r.calls } else r) ∷ called_on s rs)
      by ih true = (record { place = h.0.place; end = h.0.end; begin = h.0.begin; begun = h.0.begun }, ih)
      by ih false = (h.0, ih)

  pub called-order : (all : List Automation) (live : ℕ → Bool) (rs : Records) → InOrderBehind all live rs → InOrderBehind all live (called_on s rs)
  called-order all live [] h = tt
  called-order all live (r ∷ rs) h = by (called-order all (λ a. is_live a r || live a) rs h.1) (nat_eq r.serial s)
    where
      by : InOrderBehind all (λ a. is_live a r || live a) (called_on s rs) → (b : Bool) → InOrderBehind all live ((if b then record r { calls = suc r.calls } else r) ∷ called_on s rs)
      by ih true = (h.0, ih)
      by ih false = (h.0, ih)

  pub called-get : (i : ℕ) (rs : Records) (r : Record) → slice_get rs i ≡ Some r → slice_get (called_on s rs) i ≡ Some (counted_one r)
  called-get i [] r e = cc
  called-get zero (y ∷ ys) r e = (let same : y ≡ r = cc in ap (λ z. Some (counted_one z)) same)
  called-get (suc i) (y ∷ ys) r e = called-get i ys r e

  pub counted-end : (r : Record) → (counted_one r).end ≡ r.end
  counted-end r = by (nat_eq r.serial s)
    where
      by : (b : Bool) → (if b then record r { calls = suc r.calls } else r).end ≡ r.end
      by true = refl
      by false = refl

-- where the calls are counted, they stay
pub recounted-same : (k : Journal) (rs : Records) → AllCounted k rs → map {A = Record} {B = Record} (recounted k) rs ≡ rs
recounted-same k [] h = refl
recounted-same k (r ∷ rs) h = (λ i. record r { calls = sym h.0 i } ∷ recounted-same k rs h.1 i)

-- the calls of the journal with the entry
pub plain-counted : (j : Journal) (x : Entry) (rs : Records) → ((serial : ℕ) → is_call_of serial x ≡ false) → AllCounted j rs → AllCounted (more j x) rs
plain-counted j x [] none h = tt
plain-counted j x (r ∷ rs) none h = (h.0 ∙ one, plain-counted j x rs none h.1)
  where
    one : calls_of j r.serial ≡ calls_of (more j x) r.serial
    one = (let e : calls_of j r.serial + cond (is_call_of r.serial x) 1 0 ≡ calls_of j r.serial = (λ i. calls_of j r.serial + cond (none r.serial i) 1 0) ∙ omega arith in sym (calls-more j x r.serial ∙ e))

pub step-counted : (j : Journal) (w s : ℕ) (branch : Branch) (item : Item) (rs : Records) → is_call item ≡ true → AllCounted j rs → AllCounted (more j (Step w s branch item)) (called_on s rs)
step-counted j w s branch item [] made h = tt
step-counted j w s branch item (r ∷ rs) made h = by (step-counted j w s branch item rs made h.1) (nat_eq r.serial s) refl
  where
    x : Entry
    x = Step w s branch item

    back : (b : Bool) → nat_eq r.serial s ≡ b → nat_eq s r.serial ≡ b
    back true e = search (rules, e)
    back false e = search (rules, e)

    by : AllCounted (more j (Step w s branch item)) (called_on s rs) → (b : Bool) → nat_eq r.serial s ≡ b → AllCounted (more j (Step w s branch item)) ((if b then record r { calls = suc r.calls } else r) ∷ called_on s rs)
    by ih true e = (
      let one : suc (calls_of j r.serial) ≡ calls_of j r.serial + 1 = omega arith in
          ap suc h.0 ∙ one ∙ (λ i. calls_of j r.serial + cond (sym (back true e) i && sym made i) 1 0) ∙ sym (calls-more j (Step w s branch item) r.serial),
      ih,
    )
    by ih false e = (
      let one : calls_of j r.serial ≡ calls_of j r.serial + 0 = omega arith in
          h.0 ∙ one ∙ (λ i. calls_of j r.serial + cond (sym (back false e) i && is_call item) 1 0) ∙ sym (calls-more j (Step w s branch item) r.serial),
      ih,
    )

-- ---- the stops

abbrev pub stop_for : Entry → List ℕ → ℕ → Option EndCause
stop_for x turned a = if list_any (λ b. nat_eq b a) turned then Some (stop_cause x) else if is_restart x then Some EndCause.Restarted else None

-- an entry that restarts, or reloads, turns off none
abbrev TurnsNone : Entry → Type 0
TurnsNone x = (all : List Automation) (a : ℕ) → stops all a x ≡ false

restart-turns-none : (x : Entry) → is_restart x ≡ true → TurnsNone x
restart-turns-none (Boot text config stored start zone carry) e all a = refl
restart-turns-none (Again number start stored carry) e all a = refl
restart-turns-none (Step worker serial branch item) e all a = cc
restart-turns-none (Line source number (Cmd.Report entity text attributes)) e all a = refl
restart-turns-none (Line source number (Cmd.Gone entity)) e all a = refl
restart-turns-none (Line source number (Cmd.Event kind pairs)) e all a = refl
restart-turns-none (Line source number (Cmd.Moment m)) e all a = refl
restart-turns-none (Line source number (Cmd.Switch name on stop)) e all a = cc
restart-turns-none (Line source number (Cmd.Trigger name skip)) e all a = refl
restart-turns-none (Line source number Cmd.Restart) e all a = refl
restart-turns-none (Line source number (Cmd.Reload text config)) e all a = refl
restart-turns-none (Line source number (Cmd.Refused code)) e all a = refl
restart-turns-none (Line source number Cmd.Lost) e all a = refl
restart-turns-none (Line source number Cmd.TooLong) e all a = refl

reload-turns-none : (x : Entry) → is_reload x ≡ true → TurnsNone x
reload-turns-none (Boot text config stored start zone carry) e all a = refl
reload-turns-none (Again number start stored carry) e all a = refl
reload-turns-none (Step worker serial branch item) e all a = cc
reload-turns-none (Line source number (Cmd.Report entity text attributes)) e all a = refl
reload-turns-none (Line source number (Cmd.Gone entity)) e all a = refl
reload-turns-none (Line source number (Cmd.Event kind pairs)) e all a = refl
reload-turns-none (Line source number (Cmd.Moment m)) e all a = refl
reload-turns-none (Line source number (Cmd.Switch name on stop)) e all a = cc
reload-turns-none (Line source number (Cmd.Trigger name skip)) e all a = refl
reload-turns-none (Line source number Cmd.Restart) e all a = refl
reload-turns-none (Line source number (Cmd.Reload text config)) e all a = refl
reload-turns-none (Line source number (Cmd.Refused code)) e all a = refl
reload-turns-none (Line source number Cmd.Lost) e all a = refl
reload-turns-none (Line source number Cmd.TooLong) e all a = refl

or-none : (b : Bool) → (b || false) ≡ b
or-none true = refl
or-none false = refl

-- no entry is both
reload-no-restart : (x : Entry) → is_reload x ≡ true → is_restart x ≡ false
reload-no-restart (Boot text config stored start zone carry) e = refl
reload-no-restart (Again number start stored carry) e = refl
reload-no-restart (Step worker serial branch item) e = refl
reload-no-restart (Line source number (Cmd.Report entity text attributes)) e = refl
reload-no-restart (Line source number (Cmd.Gone entity)) e = refl
reload-no-restart (Line source number (Cmd.Event kind pairs)) e = refl
reload-no-restart (Line source number (Cmd.Moment m)) e = refl
reload-no-restart (Line source number (Cmd.Switch name on stop)) e = refl
reload-no-restart (Line source number (Cmd.Trigger name skip)) e = refl
reload-no-restart (Line source number Cmd.Restart) e = cc
reload-no-restart (Line source number (Cmd.Reload text config)) e = refl
reload-no-restart (Line source number (Cmd.Refused code)) e = refl
reload-no-restart (Line source number Cmd.Lost) e = refl
reload-no-restart (Line source number Cmd.TooLong) e = refl

restart-no-reload : (x : Entry) → is_restart x ≡ true → is_reload x ≡ false
restart-no-reload (Boot text config stored start zone carry) e = refl
restart-no-reload (Again number start stored carry) e = refl
restart-no-reload (Step worker serial branch item) e = refl
restart-no-reload (Line source number (Cmd.Report entity text attributes)) e = refl
restart-no-reload (Line source number (Cmd.Gone entity)) e = refl
restart-no-reload (Line source number (Cmd.Event kind pairs)) e = refl
restart-no-reload (Line source number (Cmd.Moment m)) e = refl
restart-no-reload (Line source number (Cmd.Switch name on stop)) e = refl
restart-no-reload (Line source number (Cmd.Trigger name skip)) e = refl
restart-no-reload (Line source number Cmd.Restart) e = refl
restart-no-reload (Line source number (Cmd.Reload text config)) e = cc
restart-no-reload (Line source number (Cmd.Refused code)) e = refl
restart-no-reload (Line source number Cmd.Lost) e = refl
restart-no-reload (Line source number Cmd.TooLong) e = refl

module _ (all : List Automation) (j : Journal) (x : Entry) (turned : List ℕ) (p s : ℕ) (cause : Option EndCause) where
  stops-all : AreTurned j x turned → is_restart x ≡ true → (rs : Records) → AllKnown (length (units j)) rs
      → stopped None p EndCause.Restarted rs ≡ map {A = Record} {B = Record} (stopper all p s cause (stop_for x turned)) rs
  stops-all are e [] known = refl
  stops-all are e (r ∷ rs) known = (λ i. one i ∷ stops-all are e rs known.1 i)
    where
      none : list_any (λ b. nat_eq b r.automation) turned ≡ false
      none =
          sym (are r.automation known.0)
          ∙ (λ i. restart-turns-none x e (units j) r.automation i || (restart-no-reload x e i && not (has_unit (force (more j x)) r.automation)))

      one : (if is_none r.end then end_one true p EndCause.Restarted r else r) ≡ stopper all p s cause (stop_for x turned) r
      one = (λ i. if is_none r.end then stop_by p (if sym none i then Some (stop_cause x) else if sym e i then Some EndCause.Restarted else None) r else r)

  stops-some : is_restart x ≡ false → (rs : Records) → map {A = Record} {B = Record} (end_of p (stop_cause x) turned) rs ≡ map {A = Record} {B = Record} (stopper all p s cause (stop_for x turned)) rs
  stops-some e [] = refl
  stops-some e (r ∷ rs) = (λ i. by (list_any (λ b. nat_eq b r.automation) turned) refl (is_none r.end) refl i ∷ stops-some e rs i)
    where
      by : (b : Bool) → list_any (λ b. nat_eq b r.automation) turned ≡ b → (c : Bool) → is_none r.end ≡ c
          → (if b && c then end_one true p (stop_cause x) r else r) ≡ stopper all p s cause (stop_for x turned) r
      by true f true g = (λ i. if sym g i then stop_by p (if sym f i then Some (stop_cause x) else if is_restart x then Some EndCause.Restarted else None) r else r)
      by false f true g = (λ i. if sym g i then stop_by p (if sym f i then Some (stop_cause x) else if sym e i then Some EndCause.Restarted else None) r else r)
      by true f false g = (λ i. if sym g i then stop_by p (stop_for x turned r.automation) r else r)
      by false f false g = (λ i. if sym g i then stop_by p (stop_for x turned r.automation) r else r)

  stops-map : AreTurned j x turned → (rs : Records) → AllKnown (length (units j)) rs → stops_done p x turned rs ≡ map {A = Record} {B = Record} (stopper all p s cause (stop_for x turned)) rs
  stops-map are rs known = by (is_restart x) refl
    where
      by : (b : Bool) → is_restart x ≡ b → (if b then stopped None p EndCause.Restarted rs else fold (stop_turned p (stop_cause x)) rs turned) ≡ map {A = Record} {B = Record} (stopper all p s cause (stop_for x turned)) rs
      by true e = stops-all are e rs known
      by false e = lanes-end p (stop_cause x) turned rs ∙ stops-some e rs

-- ---- why each record ends

-- the script of each ends with this cause where the record has this serial, and none else
abbrev pub EachOwn : Journal → ℕ → Option EndCause → Records → Type 0
EachOwn k s cause [] = Unit {0}
EachOwn k s cause (r ∷ rs) = (ended_by_script k r ≡ (if nat_eq r.serial s then cause else None)) × EachOwn k s cause rs

module _ (j : Journal) (x : Entry) (turned : List ℕ) (some : HasEntry j) (are : AreTurned j x turned) where
  abbrev k : Journal
  k = more j x

  -- what turns off a unit that there is before the entry
  turned-known : (a : ℕ) → a < length (units j) → (t : Turning) → stops_turned (units (more j x)) a t ≡ stops_turned (units j) a t
  turned-known a lt (Turning.Opens stored) = refl
  turned-known a lt Turning.Restarts = refl
  turned-known a lt (Turning.Turns name on stop) =
      (let e = unit-more j x a lt in λ i. same name (option_map_or (λ (y : Automation). y.name) (e i) []) && not on && stop)
  turned-known a lt (Turning.TurnsEach targets) = refl
  turned-known a lt Turning.Reloads = refl
  turned-known a lt Turning.Leaves = refl

  outer-caused : (r : Record) → r.automation < length (units j) → own_cause (more j x) r ≡ or_else (ended_by_script (more j x) r) (stop_for x turned r.automation)
  outer-caused r lt =
      (λ i. or_else (ended_by_script (more j x) r)
      (if last-is (stops (units (more j x)) r.automation) j x i then Some EndCause.SwitchedOff
      else if last-is is_restart j x i then Some EndCause.Restarted
      else if last-is is_reload j x i && not (has_unit (force (more j x)) r.automation) then Some EndCause.Reloaded
      else None))
      ∙ (λ i. or_else (ended_by_script (more j x) r)
      (if turned-known r.automation lt (turning x) i || list_any (nat_eq r.automation) (halted_in x) then Some EndCause.SwitchedOff
      else if is_restart x then Some EndCause.Restarted
      else if is_reload x && not (has_unit (force (more j x)) r.automation) then Some EndCause.Reloaded
      else None))
      ∙ (λ i. or_else (ended_by_script (more j x) r) (by (is_reload x) refl i))
    where
      by : (l : Bool) → is_reload x ≡ l
          → (if stops (units j) r.automation x then Some EndCause.SwitchedOff
          else if is_restart x then Some EndCause.Restarted
          else if is_reload x && not (has_unit (force (more j x)) r.automation) then Some EndCause.Reloaded
          else None) ≡ stop_for x turned r.automation
      by true e =
          let quiet = reload-turns-none x e (units j) r.automation in
          let told : list_any (λ b. nat_eq b r.automation) turned ≡ not (has_unit (force (more j x)) r.automation)
          = sym (are r.automation lt) ∙ (λ i. quiet i || (e i && not (has_unit (force (more j x)) r.automation))) in
          let no_restart : is_restart x ≡ false = reload-no-restart x e in
          (λ i. if quiet i then Some EndCause.SwitchedOff
          else if no_restart i then Some EndCause.Restarted
          else if e i && not (has_unit (force (more j x)) r.automation) then Some EndCause.Reloaded
          else None)
          ∙ (λ i. if sym told i then Some (if sym e i then EndCause.Reloaded else EndCause.SwitchedOff) else if sym no_restart i then Some EndCause.Restarted else None)
      by false e =
          let told : list_any (λ b. nat_eq b r.automation) turned ≡ stops (units j) r.automation x
          = sym (are r.automation lt) ∙ (λ i. stops (units j) r.automation x || (e i && not (has_unit (force (more j x)) r.automation))) ∙ or-none (stops (units j) r.automation x) in
          (λ i. if stops (units j) r.automation x then Some EndCause.SwitchedOff
          else if is_restart x then Some EndCause.Restarted
          else if e i && not (has_unit (force (more j x)) r.automation) then Some EndCause.Reloaded
          else None)
          ∙ (λ i. if sym told i then Some (if sym e i then EndCause.Reloaded else EndCause.SwitchedOff) else if is_restart x then Some EndCause.Restarted else None)

  all-caused : (s : ℕ) (cause : Option EndCause) (rs : Records) → AllKnown (length (units j)) rs → EachOwn (more j x) s cause rs → AllCaused (more j x) (length j) s cause (stop_for x turned) rs
  all-caused s cause [] known h = tt
  all-caused s cause (r ∷ rs) known h = (outer-caused r known.0 ∙ (λ i. or_else (h.0 i) (stop_for x turned r.automation)), all-caused s cause rs known.1 h.1)

-- an entry that is no Step ends no script
pub no-script : (j : Journal) (x : Entry) → step_of x ≡ None → (rs : Records) → EachOwn (more j x) 0 None rs
no-script j x none [] = tt
no-script j x none (r ∷ rs) = ((λ i. if ((last-is (is_step_of r.serial) j x) ∙ (λ i. option_map_or (λ s. nat_eq s.serial r.serial) (none i) false)) i then option_and_then (λ o. script_end o.status) (ran (more j x) r) else None) ∙ sym (never (nat_eq r.serial 0)), no-script j x none rs)

-- a Step ends that of its own run
pub own-script : (j : Journal) (w s : ℕ) (branch : Branch) (item : Item) → HasEntry j → (whole : Records) (n : ℕ) (rs : Records) → ((i : ℕ) (r : Record) → slice_get rs i ≡ Some r → slice_get whole (n + i) ≡ Some r) → AreNumbered n rs
    → EachOwn (more j (Step w s branch item)) s (option_and_then (λ r. next_end j r branch) (record_of whole s)) rs
own-script j w s branch item some whole n [] at numbered = tt
own-script j w s branch item some whole n (r ∷ rs) at numbered =
    (by (nat_eq r.serial s) refl, own-script j w s branch item some whole (suc n) rs (λ i q e. (λ k. slice_get whole (shift i k)) ∙ at (suc i) q e) numbered.1)
  where
    x : Entry
    x = Step w s branch item

    shift : (i : ℕ) → suc n + i ≡ n + suc i
    shift i = omega arith

    back : (b : Bool) → nat_eq r.serial s ≡ b → nat_eq s r.serial ≡ b
    back true e = search (rules, e)
    back false e = search (rules, e)

    by : (b : Bool) → nat_eq r.serial s ≡ b → ended_by_script (more j (Step w s branch item)) r ≡ (if b then option_and_then (λ r. next_end j r branch) (record_of whole s) else None)
    by true e =
        let same = eqb-true r.serial s e in
        let place : s - 1 ≡ n + 0 = omega (arith, same, numbered.0) in
        let found : record_of whole s ≡ Some r = (λ i. slice_get whole (place i)) ∙ at 0 r refl in
        (λ i. if (last-is (is_step_of r.serial) j (Step w s branch item) ∙ back true e) i then option_and_then (λ o. script_end o.status) (ran (more j (Step w s branch item)) r) else None)
        ∙ (λ i. option_and_then (λ o. script_end o.status) (ran-step j w s branch item r some same i))
        ∙ (λ i. option_and_then (λ r. next_end j r branch) (sym found i))
    by false e = (λ i. if (last-is (is_step_of r.serial) j (Step w s branch item) ∙ back false e) i then option_and_then (λ o. script_end o.status) (ran (more j (Step w s branch item)) r) else None)

-- ---- the modes of their units stay

mode-grown : (j : Journal) (x : Entry) (a : ℕ) → a < length (units j) → mode_of (units j) a ≡ mode_of (units (more j x)) a
mode-grown j x a lt = (let e = sym (unit-more j x a lt) in λ i. option_map_or (λ (y : Automation). y.mode) (e i) Mode.Single)

old-grown : (j : Journal) (x : Entry) (n : ℕ) (rs : Records) → AllKnown (length (units j)) rs → AllOld (units j) n rs → AllOld (units (more j x)) n rs
old-grown j x n [] known h = tt
old-grown j x n (r ∷ rs) known h =
    (record { place = h.0.place; end = h.0.end; begin = h.0.begin; begun = subst (λ (m : Mode). BegunIn m r.begin) (mode-grown j x r.automation known.0) h.0.begun }, old-grown j x n rs known.1 h.1)

order-grown : (j : Journal) (x : Entry) (live : ℕ → Bool) (rs : Records) → AllKnown (length (units j)) rs → InOrderBehind (units j) live rs → InOrderBehind (units (more j x)) live rs
order-grown j x live [] known h = tt
order-grown j x live (r ∷ rs) known h =
    ((λ queued alive. h.0 (mode-grown j x r.automation known.0 ∙ queued) alive), order-grown j x (λ a. is_live a r || live a) rs known.1 h.1)

pub called-known : (s n : ℕ) (rs : Records) → AllKnown n rs → AllKnown n (called_on s rs)
called-known s n [] h = tt
called-known s n (r ∷ rs) h = by (called-known s n rs h.1) (nat_eq r.serial s)
  where
    by : AllKnown n (called_on s rs) → (b : Bool) → AllKnown n ((if b then record r { calls = suc r.calls } else r) ∷ called_on s rs)
    by ih true = (h.0, ih)
    by ih false = (h.0, ih)

first-known : (n a p : ℕ) (rs : Records) → AllKnown n rs → AllKnown n (begin_first a p rs)
first-known n a p [] h = tt
first-known n a p (r ∷ rs) h = by (is_live a r) (first-known n a p rs h.1)
  where
    by : (b : Bool) → AllKnown n (begin_first a p rs) → AllKnown n (if b then begins_at p r ∷ rs else r ∷ begin_first a p rs)
    by true ih = (h.0, h.1)
    by false ih = (h.0, ih)

ended-known : (n s p : ℕ) (c : EndCause) (rs : Records) → AllKnown n rs → AllKnown n (ended_at s p c rs)
ended-known n s p c [] h = tt
ended-known n s p c (r ∷ rs) h = by (nat_eq r.serial s) (ended-known n s p c rs h.1)
  where
    by : (b : Bool) → AllKnown n (ended_at s p c rs) → AllKnown n (if b then record r { end = Some (p, c) } ∷ begin_first r.automation p rs else r ∷ ended_at s p c rs)
    by true ih = (h.0, first-known n r.automation p rs h.1)
    by false ih = (h.0, ih)

-- ---- THE LAW of the ends

ends-none : (all : List Automation) (p s : ℕ) (stop : ℕ → Option EndCause) (rs : Records) → NoOwn all p s None stop rs
ends-none all p s stop [] = tt
ends-none all p s stop (r ∷ rs) = (never (nat_eq r.serial s), ends-none all p s stop rs)

module _ (j : Journal) (x : Entry) (turned : List ℕ) (some : HasEntry j) (are : AreTurned j x turned) where
  place : last_place (more j x) ≡ length j
  place = omega (arith, length-more j x)

  -- where no run ends by itself
  pub settled-plain : (s : ℕ) (rs counted : Records) → EachOwn (more j x) s None rs → AllKnown (length (units j)) rs → AllKnown (length (units j)) counted
      → AllOld (units j) (length j) rs → AllOld (units j) (length j) counted
      → map {A = Record} {B = Record} (recounted (more j x)) rs ≡ counted → stops_done (length j) x turned counted ≡ settled (more j x) [] (own_ends (more j x) rs)
  settled-plain s rs counted own known known' old old' is =
      let stop = stop_for x turned in
      let all = units (more j x) in
      let lazily = settle-lazy (more j x) (length j) s None stop place [] [] tt rs (all-caused j x turned some are s None rs known own) (old-grown j x (length j) rs known old) in
      stops-map all j x turned (length j) s None are counted known'
      ∙ sym (plain all (length j) s None stop [] counted (ends-none all (length j) s stop counted) (old-grown j x (length j) counted known' old') (λ a h m. refl))
      ∙ (λ i. lazy all (length j) s None stop [] (sym is i))
      ∙ sym lazily

  -- where the run with this serial does
  pub settled-ends : (s i : ℕ) (c : EndCause) (r : Record) (rs counted : Records) → EachOwn (more j x) s (Some c) rs → AllKnown (length (units j)) rs → AllKnown (length (units j)) counted
      → AllOld (units j) (length j) rs → AllOld (units j) (length j) counted
      → map {A = Record} {B = Record} (recounted (more j x)) rs ≡ counted → AreNumbered 0 counted → InOrder (units j) counted → slice_get counted i ≡ Some r → s ≡ suc i → r.end ≡ None
      → stops_done (length j) x turned (ended_at s (length j) c counted) ≡ settled (more j x) [] (own_ends (more j x) rs)
  settled-ends s i c r rs counted own known known' old old' is numbered order found at live =
      let stop = stop_for x turned in
      let all = units (more j x) in
      let lazily = settle-lazy (more j x) (length j) s (Some c) stop place [] [] tt rs (all-caused j x turned some are s (Some c) rs known own) (old-grown j x (length j) rs known old) in
      stops-map all j x turned (length j) s (Some c) are (ended_at s (length j) c counted) (ended-known (length (units j)) s (length j) c counted known')
      ∙ sym (ends-at all (length j) s (Some c) stop c refl (λ a. false) [] counted 0 i r numbered found (omega (arith, at)) live (old-grown j x (length j) counted known' old')
      (order-grown j x (λ a. false) counted known' order) (λ a h m. refl))
      ∙ (λ i. lazy all (length j) s (Some c) stop [] (sym is i))
      ∙ sym lazily
