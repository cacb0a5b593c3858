-- A run that just begins, or waits.
use Rattle.std.proofs.Common.{◌≡◌, ℕ, zero, suc, ◌+◌, ◌-◌, ◌<◌, ◌≤◌, List, [], ◌∷◌, ◌++◌, length, true, false, refl, sym, ap, subst, ◌∙◌, arith, append_assoc, append-nil}
use Rattle.std.specs.Prelude.{Option, Some, None, nat_eq, slice_get, if◌then◌else◌}
use Rattle.std.specs.Option.{option_map_or}
use Rattle.timer_queue.specs.Timers.{Timer}
use Rattle.ha_config.specs.declared.config.Action.{Action}
use Rattle.ha_model.specs.declared.record.Record.{Record}
use Rattle.ha_journal.specs.Entries.{Stepped, step_of}
use Rattle.ha_journal.specs.Journal.{Journal, units}
use Rattle.ha_sight.specs.Scripts.{Branch}
use Rattle.ha_model.specs.Records.{Records, actions_of, spots, spots_from, next_spot, CallEnds, spot_with}
use Rattle.ha_model.specs.Lawful.{is_running}
use Rattle.script_step.specs.Gates.{first_fronts}
use Rattle.script_step.specs.declared.frames.Frames.{Frames}
use Rattle.wait_set.specs.Asked.{WaitTable as Waits}
use Rattle.engine_parts.specs.Fronts.{AreFronts, Stands, fronts}
use Rattle.script_step.specs.Gates.{open_branches}
use Rattle.engine_parts.specs.Kept.{RunsKept, nobody}
use Rattle.ha_ready.specs.ReadyPairs.{pairs_of, pairs_from, branches_with, ready_with}
use Rattle.engine_parts.specs.Records.{IsTable, first_branches}
use Rattle.engine_parts.specs.Runs.{GatesKept, LiveKept, SlotKept, SlotsWith}
use Rattle.ha_ready.specs.Agree.{step_at}
use Rattle.engine_parts.proofs.FrontWords.{fronts-are}
use Rattle.engine_parts.proofs.HeldLemmas.{held-snoc}
use Rattle.ha_ready.proofs.ReadyLemmas.{pairs-same}
use Rattle.engine_parts.proofs.ReadyOneMore.{front-branches}

-- a run of which no Step stands in the journal has no places
no-places : (s : ℕ) (before j : Journal) → ((p : ℕ) → step_at j s p ≡ false) → spots_from s before j ≡ []
no-places s before [] h = refl
no-places s before (x ∷ xs) h = (λ i. one (step_of x) (h 0) i ++ no-places s (before ++ (x ∷ [])) xs (λ p. h (suc p)) i)
  where
    one : (o : Option Stepped) → option_map_or (λ t. nat_eq t.serial s) o false ≡ false → option_map_or (λ t. if nat_eq t.serial s then next_spot before t.branch ∷ [] else []) o [] ≡ []
    one None e = refl
    one (Some t) e = (λ i. if e i then next_spot before t.branch ∷ [] else [])

module _ (told : CallEnds) (k : Journal) (rs : Records) (table : IsTable k rs) (new : Record) (f : Frames) (numbered : new.serial ≡ suc (length rs)) where
  pub nowhere : spots k new.serial ≡ []
  nowhere = no-places new.serial [] k (λ p. table.unstepped new.serial p (omega (arith, numbered)))

  module _ (stands : Stands f (actions_of (units k) new.automation) new.env []) (first : fronts f [] ≡ first_fronts (actions_of (units k) new.automation)) where
    free-gates : (delays : List Timer) (w : Waits) (actions : List Action) → GatesKept told k delays w new.serial (first_fronts actions)
    free-gates delays w [] = tt
    free-gates delays w (a ∷ rest) = (tt, tt)

    -- LAW: its frames are kept
    pub fresh-live : (delays : List Timer) (w : Waits) → new.end ≡ None → f.serial ≡ new.serial → f.automation ≡ new.automation → LiveKept told k delays w new f
    fresh-live delays w end serial automation = record {
      live = end;
      serial = serial;
      automation = automation;
      stands = subst (λ ss. Stands f (actions_of (units k) new.automation) new.env ss) (sym nowhere) stands;
      gates = subst (λ ss. GatesKept told k delays w new.serial (fronts f ss)) (sym nowhere) (subst (GatesKept told k delays w new.serial) (sym first) (free-gates delays w (actions_of (units k) new.automation)));
    }

    open-first : (actions : List Action) → open_branches (spot_with told k) (first_fronts actions) ≡ first_branches actions
    open-first [] = refl
    open-first (a ∷ rest) = refl

    -- LAW: where it runs, the outer branch of a script with an action may step
    pub fresh-branches : is_running (length k) new ≡ true → ready_with told k new ≡ first_branches (actions_of (units k) new.automation)
    fresh-branches on =
        let actions : List Action = actions_of (units k) new.automation in
        front-branches told k new (fronts f []) on (subst (λ ss. AreFronts actions new.env ss (fronts f [])) (sym nowhere) (fronts-are f actions new.env [] stands))
        ∙ ap (open_branches (spot_with told k)) first
        ∙ open-first actions

-- ---- one record more

get-append : {X : Type 0} (xs ys : List X) (i : ℕ) → i < length xs → slice_get (xs ++ ys) i ≡ slice_get xs i
get-append [] ys i lt = absurd (omega (arith, lt))
get-append (x ∷ xs) ys zero lt = refl
get-append (x ∷ xs) ys (suc i) lt = get-append xs ys i (omega (arith, lt))

get-end : {X : Type 0} (xs : List X) (y : X) → slice_get (xs ++ (y ∷ [])) (length xs) ≡ Some y
get-end [] y = refl
get-end (x ∷ xs) y = get-end xs y

length-snoc : {X : Type 0} (xs : List X) (y : X) → length (xs ++ (y ∷ [])) ≡ suc (length xs)
length-snoc [] y = refl
length-snoc (x ∷ xs) y = ap suc (length-snoc xs y)

slots-snoc : (P : Record → Option Frames → Type 0) (rs : Records) (os : List (Option Frames)) (r : Record) (o : Option Frames) → SlotsWith P rs os → P r o → SlotsWith P (rs ++ (r ∷ [])) (os ++ (o ∷ []))
slots-snoc P [] [] r o h one = (one, tt)
slots-snoc P [] (p ∷ os) r o h one = absurd h
slots-snoc P (q ∷ rs) [] r o h one = absurd h
slots-snoc P (q ∷ rs) (p ∷ os) r o h one = (h.0, slots-snoc P rs os r o h.1 one)

-- the pairs of one run more
pairs-snoc : (n m : ℕ) (by : ℕ → List Branch) → pairs_from n (suc m) by ≡ pairs_from n m by ++ pairs_of (suc (n + m)) (by (suc (n + m)))
pairs-snoc n zero by = append-nil (pairs_of (suc n) (by (suc n))) ∙ (let at : n ≡ n + 0 = omega arith in λ i. pairs_of (suc (at i)) (by (suc (at i))))
pairs-snoc n (suc m) by =
    (λ i. pairs_of (suc n) (by (suc n)) ++ pairs-snoc (suc n) m by i)
    ∙ sym (append_assoc (pairs_of (suc n) (by (suc n))) (pairs_from (suc n) m by) (pairs_of (suc (suc n + m)) (by (suc (suc n + m)))))
    ∙ (let at : suc n + m ≡ n + suc m = omega arith in λ i. (pairs_of (suc n) (by (suc n)) ++ pairs_from (suc n) m by) ++ pairs_of (suc (at i)) (by (suc (at i))))

module _ (told : CallEnds) (k : Journal) (rs : Records) (delays : List Timer) (w : Waits) (new : Record) (f : Frames) where
  old-branches : (q : ℕ) → 0 < q → q ≤ 0 + length rs → branches_with told rs k q ≡ branches_with told (rs ++ (new ∷ [])) k q
  old-branches q low high = ap (λ o. option_map_or (ready_with told k) o []) (sym (get-append rs (new ∷ []) (q - 1) (omega (arith, low, high))))

  new-branches : branches_with told (rs ++ (new ∷ [])) k (suc (0 + length rs)) ≡ ready_with told k new
  new-branches =
      (let at : suc (0 + length rs) - 1 ≡ length rs = omega arith in λ i. option_map_or (ready_with told k) (slice_get (rs ++ (new ∷ [])) (at i)) [])
      ∙ ap (λ o. option_map_or (ready_with told k) o []) (get-end rs new)

  -- LAW: one run more is kept with its branches
  pub run-added : (os : List (Option Frames)) (pairs : List (ℕ × Branch)) (bs : List Branch) → LiveKept told k delays w new f → ready_with told k new ≡ bs → RunsKept told nobody k rs delays w os pairs
      → RunsKept told nobody k (rs ++ (new ∷ [])) delays w (os ++ (Some f ∷ [])) (pairs ++ pairs_of (suc (length rs)) bs)
  run-added os pairs bs live is kept = record {
    slots = slots-snoc (SlotKept told k delays w) rs os new (Some f) kept.slots live;
    held = held-snoc k os (Some f) w.asks kept.held;
    pairs_are =
        (λ i. kept.pairs_are i ++ pairs_of (suc (length rs)) (sym is i))
        ∙ (λ i. pairs-same 0 (length rs) (branches_with told rs k) (branches_with told (rs ++ (new ∷ [])) k) old-branches i ++ pairs_of (suc (length rs)) (ready_with told k new))
        ∙ (let at : length rs ≡ 0 + length rs = omega arith in λ i. pairs_from 0 (length rs) (branches_with told (rs ++ (new ∷ [])) k) ++ pairs_of (suc (at i)) (sym new-branches i))
        ∙ sym (pairs-snoc 0 (length rs) (branches_with told (rs ++ (new ∷ [])) k))
        ∙ (λ i. pairs_from 0 (sym (length-snoc rs new) i) (branches_with told (rs ++ (new ∷ [])) k));
  }
