-- An attempt that its mode admits has a run, and the runs are kept.
use Rattle.std.proofs.Common.{◌≡◌, ℕ, suc, ◌+◌, ◌-◌, ◌<◌, ◌⊎◌, inl, inr, List, [], ◌∷◌, ◌++◌, length, Bool, true, false, refl, sym, ap, subst, ◌∙◌, rules, arith}
use Rattle.std.specs.Prelude.{Option, Some, None, count_by, nat_eq, nat_lt, ◌&&◌, if◌then◌else◌}
use Rattle.std.specs.Option.{option_map_or}
use Rattle.timer_queue.specs.Timers.{Timer}
use Rattle.ha_config.specs.declared.config.Action.{Action}
use Rattle.ha_config.specs.declared.config.Mode.{Mode}
use Rattle.ha_model.specs.declared.record.Record.{Record}
use Rattle.ha_config.specs.Names.{name_of}
use Rattle.ha_config.specs.Words.{Pairs}
use Rattle.ha_journal.specs.Journal.{Journal, last_place, names, units}
use Rattle.ha_sight.specs.Scripts.{Branch}
use Rattle.ha_model.specs.Records.{CallEnds, Records, actions_of, has_name, spots, is_restart_mode, lets_in, live_count}
use Rattle.ha_model.specs.RunSteps.{joined}
use Rattle.run_modes.specs.Fits.{AreNumbered}
use Rattle.run_modes.specs.Table.{admission, attempted, begin_now, live_of, new_run, told as says}
use Rattle.script_step.specs.Frames.{began_by, begins}
use Rattle.script_step.specs.Gates.{first_fronts}
use Rattle.script_step.specs.declared.frames.Frames.{Frames}
use Rattle.wait_set.specs.Asked.{WaitTable as Waits}
use Rattle.ha_journal.specs.Attempts.{Attempt}
use Rattle.run_modes.specs.Calls.{tried}
use Rattle.run_modes.specs.declared.admission.Admission.{Admission}
use Rattle.run_modes.specs.Lanes.{first_of}
use Rattle.run_modes.proofs.TableLemmas.{live-length}
use Rattle.ha_journal.specs.Attempts.{passing}
use Rattle.ha_model.proofs.KnownPasses.{AllNamed, passing-named}
use Rattle.unit_book.proofs.FirstLemmas.{firsts-many, names-many}
use Rattle.ha_engine.specs.Named.{AreFirsts, AreKnown}
use Rattle.ha_engine.specs.declared.admit.Prepared.{Prepared}
use Rattle.ha_engine.specs.Admits.{ArePrepared, IsPrepared, branches_if, from_end, gone_by, has_action, left_by, pairs_by, IsNumbered, OneSlot, SlotsBy}
use Rattle.engine_parts.specs.Fronts.{Stands, fronts}
use Rattle.script_calls.specs.Waiting.{Waiting}
use Rattle.engine_parts.specs.Called.{AreAlike, AreAwaited, CallsKept, told_by}
use Rattle.engine_parts.specs.Kept.{Gone, RunsKept, SlotBut, nobody}
use Rattle.ha_ready.specs.RunPast.{AllPast, BeginBefore, IsPast}
use Rattle.ha_ready.specs.ReadyPairs.{ready_with, pairs_of}
use Rattle.engine_parts.specs.Records.{AreEnded, IsTable, first_branches}
use Rattle.engine_parts.proofs.ToldLemmas.{ended-alike, told-alike, told-joined}
use Rattle.engine_parts.proofs.CalledLemmas.{calls-alike, calls-joined}
use Rattle.engine_parts.proofs.ForgetLemmas.{slots-length}
use Rattle.engine_parts.proofs.FreshLemmas.{fresh-branches, fresh-live, nowhere, run-added}
use Rattle.engine_parts.proofs.GoneLemmas.{gone-ended}
use Rattle.ha_engine.proofs.LiveLemmas.{replaced-ended, replaced-numbered, replaced-length, replaced-past, same-ended}
use Rattle.ha_ready.proofs.RunPast.{queued-rests, resting-with}

left-length : (restart : Bool) (a place : ℕ) (rs : Records) → length (left_by restart a place rs) ≡ length rs
left-length true a place rs = replaced-length a place rs
left-length false a place rs = refl

-- LAW: those that are replaced went
pub left-ended : (mode : Mode) (a place : ℕ) (rs : Records) → AreNumbered 0 rs → AreEnded (gone_by mode a rs) place rs (left_by (is_restart_mode mode) a place rs)
left-ended Mode.Restart a place rs num = replaced-ended a place 0 rs num
left-ended Mode.Single a place rs num = same-ended place rs
left-ended Mode.Queued a place rs num = same-ended place rs
left-ended Mode.Parallel a place rs num = same-ended place rs

pub left-table : (restart : Bool) (a place : ℕ) (k : Journal) (rs : Records) → place < length k → IsTable k rs → IsTable k (left_by restart a place rs)
left-table true a place k rs lt table = record {
  numbered = replaced-numbered a place 0 rs table.numbered;
  past = replaced-past a place (length k) rs lt table.past;
  unstepped = λ s p behind. table.unstepped s p (subst (λ n. n < s) (replaced-length a place rs) behind);
}
left-table false a place k rs lt table = table

numbered-snoc : (n : ℕ) (rs : Records) (r : Record) → AreNumbered n rs → r.serial ≡ suc (n + length rs) → AreNumbered n (rs ++ (r ∷ []))
numbered-snoc n [] r num is = (omega (arith, is), tt)
numbered-snoc n (y ∷ rs) r num is = (num.0, numbered-snoc (suc n) rs r num.1 (omega (arith, is)))

past-snoc : (n : ℕ) (rs : Records) (r : Record) → AllPast n rs → IsPast n r → AllPast n (rs ++ (r ∷ []))
past-snoc n [] r h one = (one, tt)
past-snoc n (y ∷ rs) r h one = (h.0, past-snoc n rs r h.1 one)

length-snoc : (rs : Records) (r : Record) → length (rs ++ (r ∷ [])) ≡ suc (length rs)
length-snoc [] r = refl
length-snoc (y ∷ rs) r = ap suc (length-snoc rs r)

module _ (k : Journal) (rs : Records) (table : IsTable k rs) (a : ℕ) (mode : Mode) (place order number : ℕ) (env : Pairs) (here : place < length k) where
  abbrev new : Record
  new = new_run rs a mode place order number env

  abbrev left : Records
  left = left_by (is_restart_mode mode) a place rs

  is-less : (x y : ℕ) → x < y → nat_lt x y ≡ true
  is-less x y lt = search (rules, lt)

  new-past : IsPast (length k) new
  new-past = record { place = here; begin = by (begin_now mode (live_count a rs) place) refl; end = tt }
    where
      at-place : (m : Mode) (n b : ℕ) → begin_now m n place ≡ Some b → b ≡ place
      at-place Mode.Single n b e = cc
      at-place Mode.Restart n b e = cc
      at-place Mode.Queued n b e = one (nat_eq n 0) e
        where
          one : (c : Bool) → (if c then Some place else None) ≡ Some b → b ≡ place
          one true is = cc
          one false is = absurd (let bad : ◌≡◌ {A = Option ℕ} None (Some b) = is in cc)
      at-place Mode.Parallel n b e = cc

      by : (o : Option ℕ) → begin_now mode (live_count a rs) place ≡ o → BeginBefore (length k) o
      by None e = tt
      by (Some b) e = (let same : b ≡ place = at-place mode (live_count a rs) b e in omega (arith, same, here))

  -- LAW: with the new record it is a table again
  pub joined-table : IsTable k (left ++ (new ∷ []))
  joined-table =
      let mid = left-table (is_restart_mode mode) a place k rs here table in
      record {
        numbered = numbered-snoc 0 left new mid.numbered (let size = left-length (is_restart_mode mode) a place rs in omega (arith, size));
        past = past-snoc (length k) left new mid.past new-past;
        unstepped = λ s p behind. mid.unstepped s p (omega (arith, behind, length-snoc left new));
      }

  module _ (f : Frames) (serial : f.serial ≡ suc (length rs)) (stands : Stands f (actions_of (units k) a) env []) (first : fronts f [] ≡ first_fronts (actions_of (units k) a)) where
    mid : IsTable k left
    mid = left-table (is_restart_mode mode) a place k rs here table

    own : new.serial ≡ suc (length left)
    own = ap suc (sym (left-length (is_restart_mode mode) a place rs))

    -- LAW: the new run is kept, with its outer branch where it begins, and with none where it waits
    pub joined-kept : (told : CallEnds) → f.automation ≡ a → (delays : List Timer) (w : Waits) (os : List (Option Frames)) (pairs : List (ℕ × Branch)) (bs : List Branch) → ready_with told k new ≡ bs → RunsKept told (gone_by mode a rs) k rs delays w os pairs
        → RunsKept told nobody k (left ++ (new ∷ [])) delays w (os ++ (Some f ∷ [])) (pairs ++ pairs_of (suc (length rs)) bs)
    joined-kept told whose delays w os pairs bs is kept =
        subst (λ n. RunsKept told nobody k (left ++ (new ∷ [])) delays w (os ++ (Some f ∷ [])) (pairs ++ pairs_of (suc n) bs)) (left-length (is_restart_mode mode) a place rs)
        (run-added told k left delays w new f os pairs bs (fresh-live told k left mid new f own stands first delays w refl serial whose) is
        (gone-ended told (gone_by mode a rs) place k delays w rs left os pairs mid.past table.numbered (left-ended mode a place rs table.numbered) kept))

    pub begun-branches : (told : CallEnds) → begin_now mode (live_count a rs) place ≡ Some place → ready_with told k new ≡ first_branches (actions_of (units k) a)
    begun-branches told begun = fresh-branches told k left mid new f own stands first
        ((λ i. option_map_or (λ b. nat_lt b (length k)) (begun i) false && true) ∙ (λ i. is-less place (length k) here i && true))

    pub waiting-branches : (told : CallEnds) → begin_now mode (live_count a rs) place ≡ None → ready_with told k new ≡ []
    waiting-branches told waits = resting-with told k new (queued-rests (length k) new waits)

-- ---- what an attempt is told

append-nil : {X : Type 0} (xs : List X) → xs ++ [] ≡ xs
append-nil [] = refl
append-nil (x ∷ xs) = ap (λ l. x ∷ l) (append-nil xs)

not-restart : (mode : Mode) (max n a : ℕ) (rs : Records) → lets_in mode max n ≡ false → gone_by mode a rs ≡ nobody
not-restart Mode.Restart max n a rs e = absurd (let bad : ◌≡◌ {A = Bool} true false = e in cc)
not-restart Mode.Single max n a rs e = refl
not-restart Mode.Queued max n a rs e = refl
not-restart Mode.Parallel max n a rs e = refl

first-is : (actions : List Action) → first_branches actions ≡ branches_if (has_action actions)
first-is [] = refl
first-is (a ∷ rest) = refl

-- the slot and the pairs of an admitted attempt: it begins, or waits
record Begins (mode : Mode) (live place s : ℕ) (f : Frames) (acts : Bool) (said : Admission) : Type 0 where
  begun : begin_now mode live place ≡ Some place
  slots : (os os' : List (Option Frames)) → SlotsBy said f os os' → OneSlot s f os os'
  pairs : pairs_by said acts ≡ pairs_of s (branches_if acts)

record Waits' (mode : Mode) (live place s : ℕ) (f : Frames) (acts : Bool) (said : Admission) : Type 0 where
  waiting : begin_now mode live place ≡ None
  slots : (os os' : List (Option Frames)) → SlotsBy said f os os' → OneSlot s f os os'
  pairs : pairs_by said acts ≡ []

begins-or-waits : (mode : Mode) (live : List ℕ) (place s : ℕ) (f : Frames) (acts : Bool) → Begins mode (length live) place s f acts (says mode s (first_of live)) ⊎ Waits' mode (length live) place s f acts (says mode s (first_of live))
begins-or-waits Mode.Single live place s f acts = inl (record { begun = refl; slots = λ os os' h. h; pairs = refl })
begins-or-waits Mode.Parallel live place s f acts = inl (record { begun = refl; slots = λ os os' h. h; pairs = refl })
begins-or-waits Mode.Restart [] place s f acts = inl (record { begun = refl; slots = λ os os' h. h; pairs = refl })
begins-or-waits Mode.Restart (o ∷ live) place s f acts = inl (record { begun = refl; slots = λ os os' h. h; pairs = refl })
begins-or-waits Mode.Queued [] place s f acts = inl (record { begun = refl; slots = λ os os' h. h; pairs = refl })
begins-or-waits Mode.Queued (o ∷ live) place s f acts = inr (record { waiting = (let off : nat_eq (suc (length live)) 0 ≡ false = search rules in λ i. if off i then Some place else None); slots = λ os os' h. h; pairs = refl })

module _ (k : Journal) (rs : Records) (table : IsTable k rs) (a : ℕ) (mode : Mode) (place order number : ℕ) (env : Pairs) (here : place < length k) (f : Frames) (acts : Bool)
    (stands : Stands f (actions_of (units k) a) env []) (first : fronts f [] ≡ first_fronts (actions_of (units k) a)) (act : acts ≡ has_action (actions_of (units k) a)) (whose : f.automation ≡ a) where
  own_stands : (g : Frames) → IsNumbered (suc (length rs)) f g → Stands g (actions_of (units k) a) env []
  own_stands g same = record { items = stands.items; stands = same.stands (actions_of (units k) a) env [] stands.items stands.stands }

  own_first : (g : Frames) → IsNumbered (suc (length rs)) f g → fronts g [] ≡ first_fronts (actions_of (units k) a)
  own_first g same = same.fronts (began_by begins []) ∙ first

  -- LAW: behind an attempt that is admitted
  admitted-kept : (told : CallEnds) → (delays : List Timer) (w : Waits) (os os' : List (Option Frames)) (pairs : List (ℕ × Branch)) (said : Admission) → said ≡ says mode (suc (length rs)) (first_of (live_of a rs)) → SlotsBy said f os os'
      → RunsKept told (gone_by mode a rs) k rs delays w os pairs → RunsKept told nobody k (joined mode a place rs (new_run rs a mode place order number env)) delays w os' (pairs ++ pairs_by said acts)
  admitted-kept told delays w os os' pairs said is slots kept =
      subst (λ (t : Admission). RunsKept told nobody k (joined mode a place rs (new_run rs a mode place order number env)) delays w os' (pairs ++ pairs_by t acts)) (sym is)
      (by (says mode (suc (length rs)) (first_of (live_of a rs))) (begins-or-waits mode (live_of a rs) place (suc (length rs)) f acts) (subst (λ (t : Admission). SlotsBy t f os os') is slots))
    where
      count : length (live_of a rs) ≡ live_count a rs
      count = sym (live-length a rs)

      by : (t : Admission) → Begins mode (length (live_of a rs)) place (suc (length rs)) f acts t ⊎ Waits' mode (length (live_of a rs)) place (suc (length rs)) f acts t → SlotsBy t f os os'
          → RunsKept told nobody k (joined mode a place rs (new_run rs a mode place order number env)) delays w os' (pairs ++ pairs_by t acts)
      by t (inl b) slots =
          (let begun : begin_now mode (live_count a rs) place ≡ Some place = ap (λ n. begin_now mode n place) (sym count) ∙ b.begun in
          let bs : List Branch = first_branches (actions_of (units k) a) in
          let one : OneSlot (suc (length rs)) f os os' = b.slots os os' slots in
          let made = joined-kept k rs table a mode place order number env here one.0 one.2.serial (own_stands one.0 one.2) (own_first one.0 one.2) told (one.2.automation ∙ whose) delays w os pairs bs
          (begun-branches k rs table a mode place order number env here one.0 one.2.serial (own_stands one.0 one.2) (own_first one.0 one.2) told begun) kept in
          let more : pairs_of (suc (length rs)) bs ≡ pairs_by t acts = ap (pairs_of (suc (length rs))) (first-is (actions_of (units k) a) ∙ ap branches_if (sym act)) ∙ sym b.pairs in
          subst (λ (l : List (Option Frames)). RunsKept told nobody k (joined mode a place rs (new_run rs a mode place order number env)) delays w l (pairs ++ pairs_by t acts)) (sym one.1)
          (subst (λ (l : List (ℕ × Branch)). RunsKept told nobody k (joined mode a place rs (new_run rs a mode place order number env)) delays w (os ++ (Some one.0 ∷ [])) (pairs ++ l)) more made))
      by t (inr b) slots =
          (let waits : begin_now mode (live_count a rs) place ≡ None = ap (λ n. begin_now mode n place) (sym count) ∙ b.waiting in
          let one : OneSlot (suc (length rs)) f os os' = b.slots os os' slots in
          let made = joined-kept k rs table a mode place order number env here one.0 one.2.serial (own_stands one.0 one.2) (own_first one.0 one.2) told (one.2.automation ∙ whose) delays w os pairs []
          (waiting-branches k rs table a mode place order number env here one.0 one.2.serial (own_stands one.0 one.2) (own_first one.0 one.2) told waits) kept in
          subst (λ (l : List (Option Frames)). RunsKept told nobody k (joined mode a place rs (new_run rs a mode place order number env)) delays w l (pairs ++ pairs_by t acts)) (sym one.1)
          (subst (λ (l : List (ℕ × Branch)). RunsKept told nobody k (joined mode a place rs (new_run rs a mode place order number env)) delays w (os ++ (Some one.0 ∷ [])) (pairs ++ l)) (sym b.pairs) made))

  -- LAW: behind an attempt all runs are kept
  pub attempted-runs : (told : CallEnds) (max : ℕ) (said : Admission) → said ≡ admission a mode max rs → (delays : List Timer) (w : Waits) (os os' : List (Option Frames)) (pairs : List (ℕ × Branch)) → SlotsBy said f os os'
      → RunsKept told (gone_by mode a rs) k rs delays w os pairs
      → IsTable k (attempted a mode max place order number env rs) × RunsKept told nobody k (attempted a mode max place order number env rs) delays w os' (pairs ++ pairs_by said acts)
  attempted-runs told max said answer delays w os os' pairs slots kept = by (lets_in mode max (live_count a rs)) refl answer
    where
      by : (b : Bool) → lets_in mode max (live_count a rs) ≡ b → said ≡ (if b then says mode (suc (length rs)) (first_of (live_of a rs)) else Admission.Refused)
          → IsTable k (if b then joined mode a place rs (new_run rs a mode place order number env) else rs)
          × RunsKept told nobody k (if b then joined mode a place rs (new_run rs a mode place order number env) else rs) delays w os' (pairs ++ pairs_by said acts)
      by true e is = (joined-table k rs table a mode place order number env here, admitted-kept told delays w os os' pairs said is slots kept)
      by false e is = (
        table,
        subst (λ (t : Admission). RunsKept told nobody k rs delays w os' (pairs ++ pairs_by t acts)) (sym is)
            (let same : os' ≡ os = subst (λ (t : Admission). SlotsBy t f os os') is slots in
            subst (λ (l : List (Option Frames)). RunsKept told nobody k rs delays w l (pairs ++ [])) (sym same)
            (subst (λ (l : List (ℕ × Branch)). RunsKept told nobody k rs delays w os l) (sym (append-nil pairs))
            (subst (λ (g : Gone). RunsKept told g k rs delays w os pairs) (not-restart mode max (live_count a rs) a rs e) kept))),
      )

  -- LAW: what is told of called runs is the same
  pub attempted-told : (max : ℕ) → place ≡ last_place k → told_by (gone_by mode a rs) k rs ≡ told_by nobody k (attempted a mode max place order number env rs)
  attempted-told max at = by (lets_in mode max (live_count a rs)) refl
    where
      ended : AreAlike (gone_by mode a rs) (last_place k) rs (left_by (is_restart_mode mode) a place rs)
      ended = ended-alike (gone_by mode a rs) (last_place k) rs (left_by (is_restart_mode mode) a place rs)
          (subst (λ q. AreEnded (gone_by mode a rs) q rs (left_by (is_restart_mode mode) a place rs)) at (left-ended mode a place rs table.numbered))

      by : (b : Bool) → lets_in mode max (live_count a rs) ≡ b → told_by (gone_by mode a rs) k rs ≡ told_by nobody k (if b then joined mode a place rs (new_run rs a mode place order number env) else rs)
      by true e =
          told-alike (gone_by mode a rs) k rs (left_by (is_restart_mode mode) a place rs) ended
          ∙ sym (told-joined k (left_by (is_restart_mode mode) a place rs) (new_run rs a mode place order number env) at refl)
      by false e = ap (λ (g : Gone). told_by g k rs) (not-restart mode max (live_count a rs) a rs e)

  -- at a begin nothing is awaited
  first-awaited : (told : CallEnds) (all : Records) (waiting : Waiting) (s : ℕ) (actions : List Action) → AreAwaited told all waiting s (first_fronts actions)
  first-awaited told all waiting s [] = tt
  first-awaited told all waiting s (x ∷ rest) = (tt, tt)

  -- LAW: and so is who waits
  pub attempted-calls : (max : ℕ) (said : Admission) → said ≡ admission a mode max rs → place ≡ last_place k → (delays : List Timer) (w : Waits) (os os' : List (Option Frames)) (pairs : List (ℕ × Branch)) (waiting : Waiting) → SlotsBy said f os os'
      → RunsKept (told_by (gone_by mode a rs) k rs) (gone_by mode a rs) k rs delays w os pairs → CallsKept (told_by (gone_by mode a rs) k rs) k rs waiting os
      → CallsKept (told_by nobody k (attempted a mode max place order number env rs)) k (attempted a mode max place order number env rs) waiting os'
  attempted-calls max said answer at delays w os os' pairs waiting slots kept calls = by (lets_in mode max (live_count a rs)) refl answer
    where
      ended : AreAlike (gone_by mode a rs) (last_place k) rs (left_by (is_restart_mode mode) a place rs)
      ended = ended-alike (gone_by mode a rs) (last_place k) rs (left_by (is_restart_mode mode) a place rs)
          (subst (λ q. AreEnded (gone_by mode a rs) q rs (left_by (is_restart_mode mode) a place rs)) at (left-ended mode a place rs table.numbered))

      mid : IsTable k (left_by (is_restart_mode mode) a place rs)
      mid = left-table (is_restart_mode mode) a place k rs here table

      behind : CallsKept (told_by nobody k (left_by (is_restart_mode mode) a place rs)) k (left_by (is_restart_mode mode) a place rs) waiting os
      behind = calls-alike (gone_by mode a rs) k rs (left_by (is_restart_mode mode) a place rs) delays w os waiting table.numbered ended kept.slots calls

      own : (new_run rs a mode place order number env).serial ≡ suc (length (left_by (is_restart_mode mode) a place rs))
      own = ap suc (sym (left-length (is_restart_mode mode) a place rs))

      size : length os ≡ length (left_by (is_restart_mode mode) a place rs)
      size = slots-length (SlotBut (gone_by mode a rs) (told_by (gone_by mode a rs) k rs) k delays w) rs os kept.slots ∙ sym (left-length (is_restart_mode mode) a place rs)

      with-one : (g : Frames) → IsNumbered (suc (length rs)) f g → CallsKept (told_by nobody k (joined mode a place rs (new_run rs a mode place order number env))) k (joined mode a place rs (new_run rs a mode place order number env)) waiting (os ++ (Some g ∷ []))
      with-one g same =
          (let none : spots k (new_run rs a mode place order number env).serial ≡ [] = nowhere (told_by nobody k rs) k (left_by (is_restart_mode mode) a place rs) mid (new_run rs a mode place order number env) g own in
          calls-joined k (left_by (is_restart_mode mode) a place rs) (new_run rs a mode place order number env) g os waiting at refl own size
          (subst (λ F. AreAwaited (told_by nobody k (left_by (is_restart_mode mode) a place rs)) (joined mode a place rs (new_run rs a mode place order number env)) waiting (suc (length rs)) F)
          (sym (ap (fronts g) none ∙ own_first g same))
          (first-awaited (told_by nobody k (left_by (is_restart_mode mode) a place rs)) (joined mode a place rs (new_run rs a mode place order number env)) waiting (suc (length rs)) (actions_of (units k) a))) behind)

      one-slot : Begins mode (length (live_of a rs)) place (suc (length rs)) f acts said ⊎ Waits' mode (length (live_of a rs)) place (suc (length rs)) f acts said → OneSlot (suc (length rs)) f os os'
      one-slot (inl b) = b.slots os os' slots
      one-slot (inr b) = b.slots os os' slots

      by : (b : Bool) → lets_in mode max (live_count a rs) ≡ b → said ≡ (if b then says mode (suc (length rs)) (first_of (live_of a rs)) else Admission.Refused)
          → CallsKept (told_by nobody k (if b then joined mode a place rs (new_run rs a mode place order number env) else rs)) k (if b then joined mode a place rs (new_run rs a mode place order number env) else rs) waiting os'
      by true e is =
          (let one = one-slot (subst (λ (t : Admission). Begins mode (length (live_of a rs)) place (suc (length rs)) f acts t ⊎ Waits' mode (length (live_of a rs)) place (suc (length rs)) f acts t) (sym is)
          (begins-or-waits mode (live_of a rs) place (suc (length rs)) f acts)) in
          subst (λ (l : List (Option Frames)). CallsKept (told_by nobody k (joined mode a place rs (new_run rs a mode place order number env))) k (joined mode a place rs (new_run rs a mode place order number env)) waiting l) (sym one.1) (with-one one.0 one.2))
      by false e is =
          (let same : os' ≡ os = subst (λ (t : Admission). SlotsBy t f os os') is slots in
          subst (λ (l : List (Option Frames)). CallsKept (told_by nobody k rs) k rs waiting l) (sym same)
          (subst (λ (g : Gone). CallsKept (told_by g k rs) k rs waiting os) (not-restart mode max (live_count a rs) a rs e) calls))

-- LAW: so it is with one that is prepared
pub prepared-kept : (told : CallEnds) (k : Journal) (rs : Records) → IsTable k rs → (x : ℕ × Attempt) (p : Prepared) → IsPrepared k x p → (place number : ℕ) → place < length k → (said : Admission) → said ≡ admission p.automation p.mode p.max rs
    → (delays : List Timer) (w : Waits) (os os' : List (Option Frames)) (pairs : List (ℕ × Branch)) → SlotsBy said p.frames.value os os' → RunsKept told (gone_by p.mode p.automation rs) k rs delays w os pairs
    → IsTable k (attempted p.automation p.mode p.max place p.order number p.env rs) × RunsKept told nobody k (attempted p.automation p.mode p.max place p.order number p.env rs) delays w os' (pairs ++ pairs_by said p.acts)
prepared-kept told k rs table x p is place number here said answer delays w os os' pairs slots kept =
    let script : actions_of (units k) x.1.automation ≡ actions_of (units k) p.automation = ap (actions_of (units k)) (sym is.automation) in
    attempted-runs k rs table p.automation p.mode place p.order number p.env here p.frames.value p.acts
    (subst (λ (actions : List Action). Stands p.frames.value actions p.env []) script (subst (λ (env : Pairs). Stands p.frames.value (actions_of (units k) x.1.automation) env []) (sym is.env) is.stands))
    (is.first ∙ ap first_fronts script) (is.acts ∙ ap has_action script) (is.script ∙ sym is.automation) told p.max said answer delays w os os' pairs slots kept

-- LAW: and what is told of called runs, and who waits, is so too
pub prepared-calls : (k : Journal) (rs : Records) → IsTable k rs → (x : ℕ × Attempt) (p : Prepared) → IsPrepared k x p → (place number : ℕ) → place < length k → place ≡ last_place k → (said : Admission) → said ≡ admission p.automation p.mode p.max rs
    → (delays : List Timer) (w : Waits) (os os' : List (Option Frames)) (pairs : List (ℕ × Branch)) (waiting : Waiting) → SlotsBy said p.frames.value os os'
    → RunsKept (told_by (gone_by p.mode p.automation rs) k rs) (gone_by p.mode p.automation rs) k rs delays w os pairs → CallsKept (told_by (gone_by p.mode p.automation rs) k rs) k rs waiting os
    → (told_by (gone_by p.mode p.automation rs) k rs ≡ told_by nobody k (attempted p.automation p.mode p.max place p.order number p.env rs))
    × CallsKept (told_by nobody k (attempted p.automation p.mode p.max place p.order number p.env rs)) k (attempted p.automation p.mode p.max place p.order number p.env rs) waiting os'
prepared-calls k rs table x p is place number here at said answer delays w os os' pairs waiting slots kept calls =
    let script : actions_of (units k) x.1.automation ≡ actions_of (units k) p.automation = ap (actions_of (units k)) (sym is.automation) in
    let stands : Stands p.frames.value (actions_of (units k) p.automation) p.env []
    = subst (λ (actions : List Action). Stands p.frames.value actions p.env []) script (subst (λ (env : Pairs). Stands p.frames.value (actions_of (units k) x.1.automation) env []) (sym is.env) is.stands) in (
      attempted-told k rs table p.automation p.mode place p.order number p.env here p.frames.value p.acts stands (is.first ∙ ap first_fronts script) (is.acts ∙ ap has_action script) (is.script ∙ sym is.automation) p.max at,
      attempted-calls k rs table p.automation p.mode place p.order number p.env here p.frames.value p.acts stands (is.first ∙ ap first_fronts script) (is.acts ∙ ap has_action script) (is.script ∙ sym is.automation) p.max said answer at
          delays w os os' pairs waiting slots kept calls,
    )

-- LAW: the call is that of the definition, where the run is numbered by its name
pub prepared-tried : (k : Journal) (rs : Records) (x : ℕ × Attempt) (p : Prepared) → IsPrepared k x p → (place number : ℕ) → place ≡ last_place k → number ≡ suc (count_by (has_name k (name_of (units k) p.automation)) rs)
    → attempted p.automation p.mode p.max place p.order number p.env rs ≡ tried k rs x
prepared-tried k rs x p is place number at num =
    (λ i. attempted p.automation p.mode p.max place p.order (num i) p.env rs)
    ∙ (λ i. attempted (is.automation i) (is.mode i) (is.max i) (at i) (is.order i) (suc (count_by (has_name k (name_of (units k) (is.automation i))) rs)) (is.env i) rs)

-- ---- a stack

pub from-end-snoc : {X : Type 0} (xs : List X) (x : X) → from_end (xs ++ (x ∷ [])) ≡ x ∷ from_end xs
from-end-snoc [] x = refl
from-end-snoc (y ∷ xs) x = ap (λ l. l ++ (y ∷ [])) (from-end-snoc xs x)

pub next-prepared : (k : Journal) (ys : List (ℕ × Attempt)) (p : Prepared) (ps : List Prepared) → ArePrepared k ys (p ∷ ps)
    → (x : ℕ × Attempt) × (zs : List (ℕ × Attempt)) × (ys ≡ x ∷ zs) × IsPrepared k x p × ArePrepared k zs ps
next-prepared k [] p ps h = absurd h
next-prepared k (x ∷ zs) p ps h = (x, zs, refl, h.0, h.1)

pub none-prepared : (k : Journal) (ys : List (ℕ × Attempt)) → ArePrepared k ys [] → ys ≡ []
none-prepared k [] h = refl
none-prepared k (x ∷ zs) h = absurd h

pub no-items : (xs : List Prepared) → length xs ≡ 0 → xs ≡ []
no-items [] e = refl
no-items (x ∷ xs) e = absurd (omega (arith, e))

-- ---- known units

pub known-snoc : (n : ℕ) (ps : List Prepared) (p : Prepared) → AreKnown n (ps ++ (p ∷ [])) → AreKnown n ps × (p.automation < n)
known-snoc n [] p h = (tt, h.0)
known-snoc n (q ∷ ps) p h = let rest = known-snoc n ps p h.1 in ((h.0, rest.0), rest.1)

known-join : (n : ℕ) (ps : List Prepared) (p : Prepared) → AreKnown n ps → p.automation < n → AreKnown n (ps ++ (p ∷ []))
known-join n [] p h lt = (lt, tt)
known-join n (q ∷ ps) p h lt = (h.0, known-join n ps p h.1 lt)

-- LAW: those that pass are of units that were in force at some time
pub known-prepared : (k : Journal) (xs : List (ℕ × Attempt)) (ps : List Prepared) → ArePrepared k xs ps → AllNamed (length (units k)) xs → AreKnown (length (units k)) ps
known-prepared k [] [] h named = tt
known-prepared k [] (p ∷ ps) h named = absurd h
known-prepared k (x ∷ xs) [] h named = absurd h
known-prepared k (x ∷ xs) (p ∷ ps) h named = (subst (λ a. a < length (units k)) (sym h.0.automation) named.0, known-prepared k xs ps h.1 named.1)

known-turned : (n : ℕ) (ps : List Prepared) → AreKnown n (from_end ps) → AreKnown n ps
known-turned n [] h = tt
known-turned n (p ∷ ps) h = let parts = known-snoc n (from_end ps) p h in (parts.1, known-turned n ps parts.0)

-- LAW: so it is of a stack
pub known-stack : (k : Journal) (firsts : List ℕ) (ps : List Prepared) → AreFirsts k firsts → ArePrepared k (passing k) (from_end ps) → AreKnown (length firsts) ps
known-stack k firsts ps is h =
    let many : length firsts ≡ length (units k) = ap length is ∙ firsts-many (names k) ∙ names-many k in
    known-turned (length firsts) ps (subst (λ n. AreKnown n (from_end ps)) (sym many) (known-prepared k (passing k) (from_end ps) h (passing-named k)))
