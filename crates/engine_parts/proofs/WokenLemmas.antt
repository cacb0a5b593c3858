-- The run that waits for a run goes on where that one ends: all runs.
use Rattle.std.proofs.Common.{◌≡◌, ℕ, suc, ◌+◌, ◌-◌, ◌<◌, ◌≤◌, List, [], ◌∷◌, length, take, Bool, true, false, refl, sym, ap, subst, ◌∙◌, arith, true≢false}
use Rattle.std.specs.Prelude.{Option, Some, None, nat_eq, option_map, slice_get, if◌then◌else◌}
use Rattle.std.specs.Option.{option_map_or}
use Rattle.timer_queue.specs.Timers.{Timer}
use Rattle.ha_journal.specs.Journal.{Journal, now, units}
use Rattle.ha_journal.specs.Waits.{wait_end}
use Rattle.ha_model.specs.declared.record.Record.{Record}
use Rattle.ha_model.specs.Lawful.{is_running, record_of}
use Rattle.ha_model.specs.Records.{CallEnds, Records, actions_of, spot_with, spots}
use Rattle.ha_ready.specs.ReadyPairs.{branches_with, changed_at, pairs_from, ready_with}
use Rattle.ha_ready.proofs.ReadyLemmas.{pairs-same}
use Rattle.ha_ready.proofs.RunPast.{past-at, resting-with}
use Rattle.ha_sight.specs.Scripts.{Branch}
use Rattle.run_modes.specs.Fits.{AreNumbered}
use Rattle.script_calls.specs.Waiting.{Waiting, caller_of}
use Rattle.script_step.specs.declared.frames.Frames.{Frames}
use Rattle.script_step.specs.Gates.{Fronts, Gate, open_branches}
use Rattle.script_step.proofs.ListedLemmas.{fronts-ascend, names}
use Rattle.script_step.proofs.OrderLemmas.{Ascends}
use Rattle.script_step.specs.Frames.{began_by, begins}
use Rattle.wait_set.specs.declared.asked.Asked as wait
use Rattle.wait_set.specs.Asked.{WaitTable as Waits, finished, is_bare, wait_of}
use Rattle.engine_parts.specs.Called.{AreAwaited, CallsKept, IsCaller, SlotAwaited, placed}
use Rattle.engine_parts.specs.Fronts.{AreFronts, fronts}
use Rattle.engine_parts.specs.Kept.{Gone, RunsKept, SlotBut, left_branches, left_if, slot_if}
use Rattle.engine_parts.specs.Records.{IsTable}
use Rattle.engine_parts.specs.Runs.{AreHeld, GateKept, GatesKept, HasEnd, SlotsWith, first_wait}
use Rattle.std.proofs.lemmas.Option.{slice_get_within}
use Rattle.engine_parts.specs.Waiting.{Asked, asked, asked_at}
use Rattle.engine_parts.proofs.CalledLemmas.{LiveSlot, each-at, live-gates, live-slot, numbered-at}
use Rattle.engine_parts.proofs.FrontWords.{fronts-are}
use Rattle.engine_parts.proofs.GateLemmas.{called-bare}
use Rattle.engine_parts.proofs.ReadyOneMore.{front-branches}
use Rattle.engine_parts.proofs.SlotLemmas.{ended-off, slots-at}
use Rattle.engine_parts.proofs.StepRight.{gate-known}
use Rattle.engine_parts.proofs.ToldLemmas.{eq-of, none-some, self}
use Rattle.engine_parts.proofs.EndedCallLemmas.{Goes, asks-other, each-none, ends_so, gates-stay, goes-on, open-stays, other-run, so}
use Rattle.engine_parts.proofs.FinishedLemmas.{held-finished}

-- ---- all runs

module _ (gone : Gone) (told : CallEnds) (k : Journal) (rs : Records) (table : IsTable k rs) (called q : ℕ) (waiting : Waiting) (delays : List Timer) (w w' : Waits) (os : List (Option Frames))
    (slots : SlotsWith (SlotBut gone told k delays w) rs os) (calls : CallsKept told k rs waiting os) where
  abbrev so-then : CallEnds
  so-then = so told k rs called q waiting

  known : (s : ℕ) (f : Frames) → 0 < s → slice_get os (s - 1) ≡ Some (Some f) → LiveSlot gone told k delays w rs s f
  known s f low e = live-slot gone told k delays w rs os table.numbered slots s f low e

  waits : (s : ℕ) (f : Frames) → 0 < s → slice_get os (s - 1) ≡ Some (Some f) → AreAwaited told rs waiting s (fronts f (spots k s))
  waits s f low e = each-at (SlotAwaited told rs waiting k) 0 os calls.awaited s f low e

  -- what is kept of each live run goes along
  slots-from : (n : ℕ) (rs' : Records) (os' : List (Option Frames)) → AreNumbered n rs'
      → ((s : ℕ) (f : Frames) → n < s → slice_get os' (s - suc n) ≡ Some (Some f) → GatesKept told k delays w s (fronts f (spots k s)) → GatesKept so-then k delays w' s (fronts f (spots k s)))
      → SlotsWith (SlotBut gone told k delays w) rs' os' → SlotsWith (SlotBut gone so-then k delays w') rs' os'
  slots-from n [] [] num g h = tt
  slots-from n [] (o ∷ os') num g h = absurd h
  slots-from n (r ∷ rs') [] num g h = absurd h
  slots-from n (r ∷ rs') (o ∷ os') num g h = (
    one o (λ f e own. g (suc n) f (omega arith) (first ∙ ap Some e) own) (gone r.serial) h.0,
    slots-from (suc n) rs' os' num.1 (λ s f lt e. g s f (omega (arith, lt)) (next s lt ∙ e)) h.1,
  )
    where
      first : slice_get (o ∷ os') (suc n - suc n) ≡ Some o
      first = (let at : suc n - suc n ≡ 0 = omega arith in ap (slice_get (o ∷ os')) at)

      next : (s : ℕ) → suc n < s → slice_get (o ∷ os') (s - suc n) ≡ slice_get os' (s - suc (suc n))
      next s lt = (let e : s - suc n ≡ suc (s - suc (suc n)) = omega (arith, lt) in ap (slice_get (o ∷ os')) e)

      one : (o : Option Frames) → ((f : Frames) → o ≡ Some f → GatesKept told k delays w (suc n) (fronts f (spots k (suc n))) → GatesKept so-then k delays w' (suc n) (fronts f (spots k (suc n)))) → (b : Bool)
          → slot_if b told k delays w r o → slot_if b so-then k delays w' r o
      one o f true e = e
      one None f false e = e
      one (Some y) f false e = record {
        live = e.live;
        serial = e.serial;
        automation = e.automation;
        stands = e.stands;
        gates = subst (λ m. GatesKept so-then k delays w' m (fronts y (spots k m))) (sym num.0) (f y refl (subst (λ m. GatesKept told k delays w m (fronts y (spots k m))) num.0 e.gates));
      }

  -- the branches of a run that may step
  branches-are : (told' : CallEnds) (s : ℕ) (r : Record) → record_of rs s ≡ Some r → branches_with told' rs k s ≡ ready_with told' k r
  branches-are told' s r e = (λ i. option_map_or (ready_with told' k) (e i) [])

  stand-so : (s : ℕ) (f : Frames) → (h : LiveSlot gone told k delays w rs s f) → AreFronts (actions_of (units k) h.run.automation) h.run.env (spots k h.run.serial) (fronts f (spots k h.run.serial))
  stand-so s f h = fronts-are f (actions_of (units k) h.run.automation) h.run.env (spots k h.run.serial) h.live.stands

  -- those of a run that does not go on
  others-stay : (s : ℕ) → 0 < s → s ≤ 0 + length rs → ((b : Branch) → caller_of called waiting ≡ Some (s, b) → ⊥) → left_branches gone told rs k s ≡ left_branches gone so-then rs k s
  others-stay s low high not-it = by (gone s) refl (record_of rs s) refl
    where
      by : (b : Bool) → gone s ≡ b → (o : Option Record) → record_of rs s ≡ o → left_if b told rs k s ≡ left_if b so-then rs k s
      by true e o found = refl
      by false e None found = (λ i. option_map_or (ready_with told k) (found i) []) ∙ (λ i. option_map_or (ready_with so-then k) (sym found i) [])
      by false e (Some r) found =
          (let slot = slots-at (SlotBut gone told k delays w) rs os (s - 1) r slots found in
          branches-are told s r found ∙ one slot.0 slot.1 slot.2 ∙ sym (branches-are so-then s r found))
        where
          own : r.serial ≡ s
          own = (let at = numbered-at 0 (s - 1) rs r table.numbered found in omega (arith, at, low))

          one : (o : Option Frames) → slice_get os (s - 1) ≡ Some o → SlotBut gone told k delays w r o → ready_with told k r ≡ ready_with so-then k r
          one None there h =
              (let ended : HasEnd r.end = subst (λ b. slot_if b told k delays w r None) (ap gone own ∙ e) h in
              let off = ended-off (length k) (length k) (omega arith) r ended (past-at (length k) rs (s - 1) r table.past found) in
              resting-with told k r off ∙ sym (resting-with so-then k r off))
          one (Some f) there h = runs (is_running (length k) r) refl
            where
              live : LiveSlot gone told k delays w rs s f
              live = known s f low there

              same : live.run ≡ r
              same = (let e' = sym live.found ∙ found in cc)

              stand : AreFronts (actions_of (units k) r.automation) r.env (spots k r.serial) (fronts f (spots k r.serial))
              stand = subst (λ (y : Record). AreFronts (actions_of (units k) y.automation) y.env (spots k y.serial) (fronts f (spots k y.serial))) same (stand-so s f live)

              runs : (b : Bool) → is_running (length k) r ≡ b → ready_with told k r ≡ ready_with so-then k r
              runs false off = resting-with told k r off ∙ sym (resting-with so-then k r off)
              runs true on =
                  front-branches told k r (fronts f (spots k r.serial)) on stand
                  ∙ sym (open-stays told k rs called q waiting delays w w s (λ c none. refl) (fronts f (spots k r.serial))
                  (subst (λ m. AreAwaited told rs waiting s (fronts f (spots k m))) (sym own) (waits s f low there))
                  (each-none told k rs called q waiting delays w w s (λ c none. refl) (fronts f (spots k r.serial)) not-it))
                  ∙ sym (front-branches so-then k r (fronts f (spots k r.serial)) on stand)

  -- LAW: where nobody waits for the run all is as before
  pub unwoken-runs : caller_of called waiting ≡ None → (pairs : List (ℕ × Branch)) → pairs ≡ pairs_from 0 (length rs) (left_branches gone told rs k) → AreHeld k os w.asks → w' ≡ w
      → RunsKept so-then gone k rs delays w os pairs
  unwoken-runs none pairs is held same = record {
    slots = subst (λ (v : Waits). SlotsWith (SlotBut gone so-then k delays v) rs os) same
        (slots-from 0 rs os table.numbered (λ s f low there g. subst (λ (v : Waits). GatesKept so-then k delays v s (fronts f (spots k s))) (sym same)
        (gates-stay told k rs called q waiting delays w w s (λ c off. refl) (fronts f (spots k s)) (waits s f low there)
        (each-none told k rs called q waiting delays w w s (λ c off. refl) (fronts f (spots k s)) (λ b e. none-some (s, b) (sym none ∙ e))) g)) slots);
    pairs_are = is ∙ pairs-same 0 (length rs) (left_branches gone told rs k) (left_branches gone so-then rs k) (λ s low high. others-stay s low high (λ b e. none-some (s, b) (sym none ∙ e)));
    held = held;
  }

-- ---- the run that goes on, among all

module _ (gone : Gone) (told : CallEnds) (k : Journal) (rs : Records) (table : IsTable k rs) (called q : ℕ) (waiting : Waiting) (delays : List Timer) (w : Waits) (os : List (Option Frames))
    (slots : SlotsWith (SlotBut gone told k delays w) rs os) (calls : CallsKept told k rs waiting os) (s : ℕ) (b : Branch) (caller : caller_of called waiting ≡ Some (s, b)) where
  abbrev pub it : IsCaller told k rs os called s b
  it = calls.callers called s b caller

  abbrev pub v : Waits
  v = record { asks = finished s b q w.asks; fresh = w.fresh }

  live : LiveSlot gone told k delays w rs s it.frames
  live = live-slot gone told k delays w rs os table.numbered slots s it.frames it.low it.there

  gates : GatesKept told k delays w s (fronts it.frames (spots k s))
  gates = live-gates gone told k delays w rs s it.frames live

  gate : GateKept told k delays w s (b, Gate.Behind it.ask it.place)
  gate = gate-known told k delays w s (fronts it.frames (spots k s)) b (Gate.Behind it.ask it.place) it.gate gates

  -- LAW: its wait is there, bare and pending
  pub pending : (a : wait.Asked) × (wait_of s b w.asks ≡ Some a) × (a.end ≡ None) × (is_bare a.ask ≡ true) × (a.owner ≡ first_wait + it.place) × (a.place < length k)
  pending = by (wait_of s b w.asks) refl gate.1
    where
      bare : is_bare gate.0.ask ≡ true
      bare = called-bare (now (take (suc it.place) k)) it.ask gate.0.ask gate.6 it.calls

      none : gate.0.named ≡ None
      none = gate.7 bare ∙ (λ i. if it.calls i then option_map ends_so (told it.place) else wait_end k it.ask it.place) ∙ ap (option_map ends_so) it.opened

      by : (o : Option wait.Asked) → wait_of s b w.asks ≡ o → option_map {T = wait.Asked} {U = Asked} asked o ≡ Some gate.0
          → (a : wait.Asked) × (wait_of s b w.asks ≡ Some a) × (a.end ≡ None) × (is_bare a.ask ≡ true) × (a.owner ≡ first_wait + it.place) × (a.place < length k)
      by None e is = absurd (let bad : ◌≡◌ {A = Option Asked} None (Some gate.0) = is in cc)
      by (Some x) e is =
          (let same : asked x ≡ gate.0 = cc in
          let own : is_bare x.ask ≡ true = ap (λ (y : Asked). is_bare y.ask) same ∙ bare in
          let at : x.place ≡ it.place = ap (λ (y : Asked). y.place) same ∙ gate.2 in (
            x,
            e,
            (λ i. if sym own i then x.end else None) ∙ ap (λ (y : Asked). y.named) same ∙ none,
            own,
            ap (λ (y : Asked). y.owner) same ∙ gate.3,
            omega (arith, at, gate.4),
          ))

  awaits : AreAwaited told rs waiting s (fronts it.frames (spots k s))
  awaits = each-at (SlotAwaited told rs waiting k) 0 os calls.awaited s it.frames it.low it.there

  up : Ascends (names (fronts it.frames (spots k s)))
  up = fronts-ascend it.frames.root it.frames.script.value (began_by begins (spots k s))

  own-goes : Goes told k rs called q waiting delays w s b caller it.ask it.place it.calls it.called_is it.opened (fronts it.frames (spots k s))
  own-goes = goes-on told k rs called q waiting delays w s b caller it.ask it.place it.calls it.called_is it.opened (fronts it.frames (spots k s)) up it.gate awaits gates

  abbrev pub so-told : CallEnds
  so-told = so told k rs called q waiting

  off-run : (r : ℕ) → (r ≡ s → ⊥) → (c : Branch) → caller_of called waiting ≡ Some (r, c) → ⊥
  off-run r off c e = other-run told k rs called q waiting delays w s b caller it.ask it.place it.calls it.called_is it.opened r off c e

  off-asks : (r : ℕ) → (r ≡ s → ⊥) → (c : Branch) → asked_at v r c ≡ asked_at w r c
  off-asks r off c = asks-other told k rs called q waiting delays w s b caller it.ask it.place it.calls it.called_is it.opened r c (λ e f. off e)

  each-gate : (r : ℕ) (f : Frames) → 0 < r → slice_get os (r - 1) ≡ Some (Some f) → GatesKept told k delays w r (fronts f (spots k r)) → GatesKept so-told k delays v r (fronts f (spots k r))
  each-gate r f low there g = by (nat_eq r s) refl
    where
      by : (c : Bool) → nat_eq r s ≡ c → GatesKept so-told k delays v r (fronts f (spots k r))
      by true e =
          (let at : r ≡ s = eq-of r s e in
          let same : f ≡ it.frames = (let got : Some (Some f) ≡ Some (Some it.frames) = sym there ∙ ap (λ m. slice_get os (m - 1)) at ∙ it.there in cc) in
          subst (λ m. GatesKept so-told k delays v m (fronts f (spots k m))) (sym at) (subst (λ (y : Frames). GatesKept so-told k delays v s (fronts y (spots k s))) (sym same) own-goes.0))
      by false e =
          (let off : r ≡ s → ⊥ = (λ same. true≢false (sym (self r s same) ∙ e)) in
          gates-stay told k rs called q waiting delays w v r (λ c not-it. off-asks r off c) (fronts f (spots k r)) (each-at (SlotAwaited told rs waiting k) 0 os calls.awaited r f low there)
          (each-none told k rs called q waiting delays w v r (λ c not-it. off-asks r off c) (fronts f (spots k r)) (off-run r off)) g)

  own-branches : branches_with so-told rs k s ≡ placed b (branches_with told rs k s)
  own-branches =
      (let r = live.run in
      let same : r ≡ it.run = (let e = sym live.found ∙ it.found in cc) in
      let on : is_running (length k) r ≡ true = ap (is_running (length k)) same ∙ it.running in
      let F : Fronts = fronts it.frames (spots k r.serial) in
      let stand : AreFronts (actions_of (units k) r.automation) r.env (spots k r.serial) F = fronts-are it.frames (actions_of (units k) r.automation) r.env (spots k r.serial) live.live.stands in
      let own : F ≡ fronts it.frames (spots k s) = (λ i. fronts it.frames (spots k (live.serial i))) in
      (λ i. option_map_or (ready_with so-told k) (live.found i) [])
      ∙ front-branches so-told k r F on stand
      ∙ ap (open_branches (spot_with so-told k)) own
      ∙ own-goes.1
      ∙ ap (placed b) (ap (open_branches (spot_with told k)) (sym own) ∙ sym (front-branches told k r F on stand) ∙ (λ i. option_map_or (ready_with told k) (sym live.found i) [])))

  -- LAW: it goes on, and all others are as before
  pub woken-runs : (pairs : List (ℕ × Branch)) → pairs ≡ pairs_from 0 (length rs) (changed_at s (placed b (left_branches gone told rs k s)) (left_branches gone told rs k)) → AreHeld k os w.asks
      → RunsKept so-told gone k rs delays v os pairs
  woken-runs pairs is held = record {
    slots = slots-from gone told k rs table called q waiting delays w v os slots calls 0 rs os table.numbered each-gate slots;
    pairs_are = is ∙ pairs-same 0 (length rs) (changed_at s (placed b (left_branches gone told rs k s)) (left_branches gone told rs k)) (left_branches gone so-told rs k) (λ r low high. one r low high (nat_eq r s) refl);
    held = held-finished s q b k os w.asks held;
  }
    where
      one : (r : ℕ) → 0 < r → r ≤ 0 + length rs → (c : Bool) → nat_eq r s ≡ c → (if c then placed b (left_branches gone told rs k s) else left_branches gone told rs k r) ≡ left_branches gone so-told rs k r
      one r low high true e =
          (λ i. placed b (left_if (live.stays i) told rs k s)) ∙ sym own-branches ∙ (λ i. left_if (sym live.stays i) so-told rs k s) ∙ (λ i. left_branches gone so-told rs k (sym (eq-of r s e) i))
      one r low high false e = others-stay gone told k rs table called q waiting delays w v os slots calls r low high (off-run r (λ same. true≢false (sym (self r s same) ∙ e)))

  -- LAW: the run that waits is one of those that there are
  pub within : s ≤ length rs
  within = (let lt = slice_get_within rs (s - 1) it.run it.found in omega (arith, lt))
