-- The frames of the live runs with one more entry, and the runs that it does not touch.
use Rattle.std.proofs.Common.{◌≡◌, ℕ, zero, suc, ◌+◌, ◌-◌, ◌<◌, ◌≤◌, List, [], ◌∷◌, ◌++◌, length, set, Bool, true, false, refl, sym, ap, subst, ◌∙◌, rules, arith}
use Rattle.std.specs.Prelude.{MatchOption, Option, Some, None, nat_eq, nat_lt, nat_le, slice_get, ◌&&◌, if◌then◌else◌}
use Rattle.std.specs.Option.{option_map_or}
use Rattle.timer_queue.specs.Timers.{Timer}
use Rattle.ha_model.specs.declared.record.EndCause.{EndCause}
use Rattle.ha_journal.specs.declared.entry.Entry.{Entry}
use Rattle.ha_model.specs.declared.record.Record.{Record}
use Rattle.ha_journal.specs.Entries.{Stepped, step_of}
use Rattle.ha_journal.specs.Journal.{Journal, HasEntry, now, more, units}
use Rattle.ha_model.specs.Records.{Records, actions_of, spots, spot_of, next_spot, CallEnds}
use Rattle.ha_model.specs.Lawful.{Right, is_running, record_of}
use Rattle.ha_config.proofs.ListLemmas.{append-nil, get-last}
use Rattle.ha_journal.proofs.MoreLemmas.{has-entry, length-more}
use Rattle.ha_model.proofs.KnownLaws.{AllKnown, all-known, known-at}
use Rattle.ha_model.proofs.StepLaws.{serial-at, Numbered}
use Rattle.ha_model.proofs.FoldLaws.{spots-more}
use Rattle.script_step.specs.Gates.{open_now}
use Rattle.engine_parts.specs.Fronts.{fronts, Stands}
use Rattle.engine_parts.proofs.FrontWords.{fronts-are}
use Rattle.script_step.specs.declared.frames.Frames.{Frames}
use Rattle.engine_parts.specs.Waiting.{ends, fresh, TellsEnds, AsksKept, EndsGrow}
use Rattle.wait_set.specs.Asked.{WaitTable as Waits}
use Rattle.ha_ready.specs.RunPast.{IsPast, EndBefore}
use Rattle.ha_ready.specs.ReadyPairs.{ready_branches, branches_at, branches_with, ends_at, ready_with}
use Rattle.engine_parts.specs.Runs.{GatesKept, LiveKept, SlotKept, SlotsWith, SlotsKept, HasEnd}
use Rattle.ha_ready.specs.Agree.{step_at, touched}
use Rattle.engine_parts.specs.Touched.{due_places, wait_places, QueueKept}
use Rattle.engine_parts.proofs.GateLemmas.{gates-more, gates-stay, open-kept}
use Rattle.ha_ready.proofs.RunPast.{all-past, past-at, resting, resting-with}
use Rattle.engine_parts.proofs.ReadyOneMore.{front-branches, branches-stay}

-- ---- slots

pub slots-at : (P : Record → Option Frames → Type 0) (rs : Records) (os : List (Option Frames)) (i : ℕ) (r : Record) → SlotsWith P rs os → slice_get rs i ≡ Some r
    → (o : Option Frames) × (slice_get os i ≡ Some o) × P r o
slots-at P [] os i r h e = absurd (let bad : ◌≡◌ {A = Option Record} None (Some r) = e in cc)
slots-at P (y ∷ rs) [] i r h e = absurd h
slots-at P (y ∷ rs) (o ∷ os) zero r h e = (o, refl, (let at : y ≡ r = cc in subst (λ z. P z o) at h.0))
slots-at P (y ∷ rs) (o ∷ os) (suc i) r h e = slots-at P rs os i r h.1 e

other : (a b : ℕ) → (a ≡ b → ⊥) → nat_eq a b ≡ false
other a b h = search (rules, h)

slots-rest : (P Q : Record → Option Frames → Type 0) (s n : ℕ) → ((r : Record) (o : Option Frames) → nat_eq r.serial s ≡ false → P r o → Q r o)
    → (rs : Records) (os : List (Option Frames)) → Numbered n rs → s ≤ n → SlotsWith P rs os → SlotsWith Q rs os
unfolding Numbered
slots-rest P Q s n f [] [] num le h = tt
slots-rest P Q s n f [] (o ∷ os) num le h = absurd h
slots-rest P Q s n f (r ∷ rs) [] num le h = absurd h
slots-rest P Q s n f (r ∷ rs) (o ∷ os) num le h =
    (f r o (other r.serial s (λ e. omega (arith, e, num.0, le))) h.0, slots-rest P Q s (suc n) f rs os num.1 (omega (arith, le)) h.1)

-- LAW: one slot is set, and each other one becomes what it should
pub slots-set : (P Q : Record → Option Frames → Type 0) (s n i : ℕ) → ((r : Record) (o : Option Frames) → nat_eq r.serial s ≡ false → P r o → Q r o)
    → (rs : Records) (os : List (Option Frames)) (r : Record) (o : Option Frames) → Numbered n rs → SlotsWith P rs os → slice_get rs i ≡ Some r → s ≡ suc (n + i) → Q r o → SlotsWith Q rs (set os i o)
unfolding Numbered
slots-set P Q s n i f [] os r o num h e at new = absurd (let bad : ◌≡◌ {A = Option Record} None (Some r) = e in cc)
slots-set P Q s n i f (y ∷ rs) [] r o num h e at new = absurd h
slots-set P Q s n zero f (y ∷ rs) (p ∷ os) r o num h e at new =
    ((let same : r ≡ y = cc in subst (λ z. Q z o) same new), slots-rest P Q s (suc n) f rs os num.1 (omega (arith, at)) h.1)
slots-set P Q s n (suc i) f (y ∷ rs) (p ∷ os) r o num h e at new =
    (f y p (other y.serial s (λ same. omega (arith, same, num.0, at))) h.0, slots-set P Q s (suc n) i f rs os r o num.1 h.1 e (omega (arith, at)) new)

-- ---- one more entry

-- an entry that is no Step of a run is no place of it
pub no-spot : (j : Journal) (x : Entry) (s : ℕ) → step_at (more j x) s (length j) ≡ false → spot_of s j x ≡ []
no-spot j x s h = by (step_of x) ((λ i. option_map_or (λ y. option_map_or (λ t. nat_eq t.serial s) (step_of y) false) (sym (get-last j x) i) false) ∙ h)
  where
    by : (o : Option Stepped) → option_map_or (λ t. nat_eq t.serial s) o false ≡ false → option_map_or (λ t. if nat_eq t.serial s then next_spot j t.branch ∷ [] else []) o [] ≡ []
    by None e = refl
    by (Some t) e = (λ i. if e i then next_spot j t.branch ∷ [] else [])

module _ (told told' : CallEnds) (j : Journal) (x : Entry) (same : (p : ℕ) → p < length j → told' p ≡ told p) (delays delays' : List Timer) (w w' : Waits) (h : HasEntry j) (queue : QueueKept (now (more j x)) delays delays') where
  -- LAW: the frames of a run that makes no step stand for its script behind the entry too
  pub live-more : (r : Record) (f : Frames) → actions_of (units j) r.automation ≡ actions_of (units (more j x)) r.automation → spot_of r.serial j x ≡ [] → AsksKept w w' r.serial → LiveKept told j delays w r f → LiveKept told' (more j x) delays' w' r f
  live-more r f script none asks live =
      let places : spots j r.serial ≡ spots (more j x) r.serial
      = sym (append-nil (spots j r.serial)) ∙ (λ i. spots j r.serial ++ sym none i) ∙ sym (spots-more j x r.serial) in
      record {
        live = live.live;
        serial = live.serial;
        automation = live.automation;
        stands = subst (λ ss. Stands f (actions_of (units (more j x)) r.automation) r.env ss) places (subst (λ actions. Stands f actions r.env (spots j r.serial)) script live.stands);
        gates = subst (λ ss. GatesKept told' (more j x) delays' w' r.serial (fronts f ss)) places (gates-more told told' j x same delays delays' w w' r.serial (fronts f (spots j r.serial)) queue asks live.gates);
      }

  pub slot-more : (r : Record) (o : Option Frames) → actions_of (units j) r.automation ≡ actions_of (units (more j x)) r.automation → spot_of r.serial j x ≡ [] → AsksKept w w' r.serial → SlotKept told j delays w r o → SlotKept told' (more j x) delays' w' r o
  slot-more r None script none asks live = live
  slot-more r (Some f) script none asks live = live-more r f script none asks live

-- LAW: a record is of a unit that is known
pub known-record : (j : Journal) (rs : Records) → Right j rs → (s : ℕ) (r : Record) → record_of rs s ≡ Some r → r.automation < length (units j)
known-record j rs right s r e =
    subst (λ (o : Option Record). MatchOption o (Unit {0}) (λ y. y.automation < length (units j))) e
    (known-at (length (units j)) rs (s - 1) (subst (AllKnown (length (units j))) (sym right.records_are) (all-known j)))

-- slots of records of known units
pub slots-known : (P Q : Record → Option Frames → Type 0) (n : ℕ) → ((r : Record) (o : Option Frames) → r.automation < n → P r o → Q r o) → (rs : Records) (os : List (Option Frames)) → AllKnown n rs → SlotsWith P rs os → SlotsWith Q rs os
slots-known P Q n f [] [] known h = tt
slots-known P Q n f [] (o ∷ os) known h = absurd h
slots-known P Q n f (r ∷ rs) [] known h = absurd h
slots-known P Q n f (r ∷ rs) (o ∷ os) known h = (f r o known.0 h.0, slots-known P Q n f rs os known.1 h.1)

over : (a b : ℕ) → b < a → nat_le a b ≡ false
over a b lt = search rules

and-false : (b : Bool) → (b && false) ≡ false
and-false true = refl
and-false false = refl

-- a run that has ended before n does not run from there on
pub ended-off : (n m : ℕ) → n ≤ m → (r : Record) → HasEnd r.end → IsPast n r → is_running m r ≡ false
ended-off n m le r h past = by (option_map_or (λ b. nat_lt b m) r.begin false) r.end h past.end
  where
    by : (c : Bool) (e : Option (ℕ × EndCause)) → HasEnd e → EndBefore n e → (c && option_map_or (λ y. nat_le m y.0) e true) ≡ false
    by c None h past = absurd h
    by c (Some e) h past = (let off = over m e.0 (omega (arith, past, le)) in λ i. c && off i) ∙ and-false c

module _ (told' : CallEnds) (j : Journal) (x : Entry) (same : (p : ℕ) → p < length j → told' p ≡ ends_at j p) (delays : List Timer) (w w' : Waits) (rs : Records) (os : List (Option Frames)) (right : Right j rs)
    (stood : TellsEnds w j) (stands : TellsEnds w' (more j x)) (kept : SlotsKept (ends_at j) j delays w rs os) where
  -- LAW: a run that the entry does not touch has the branches that may step which it had
  pub untouched-stays : (s : ℕ) → 0 < s → AsksKept w w' s → EndsGrow w w' s → step_at (more j x) s (length j) ≡ false
      → touched (more j x) (due_places (now (more j x)) delays ++ wait_places (fresh w')) s ≡ false → branches_at rs j s ≡ branches_with told' rs (more j x) s
  untouched-stays s low asks grow no_step none = by (record_of rs s) refl
    where
      by : (o : Option Record) → record_of rs s ≡ o → branches_at rs j s ≡ branches_with told' rs (more j x) s
      by None e = (λ i. option_map_or (ready_branches rs j) (e i) []) ∙ (λ i. option_map_or (ready_with told' (more j x)) (sym e i) [])
      by (Some r) e =
          let slot = slots-at (SlotKept (ends_at j) j delays w) rs os (s - 1) r kept e in
          let numbered : r.serial ≡ suc (s - 1) = serial-at j (s - 1) r (ap (λ l. slice_get l (s - 1)) (sym right.records_are) ∙ e) in
          let own : s ≡ r.serial = omega (arith, numbered, low) in
          let past : IsPast (length j) r = past-at (length j) rs (s - 1) r (all-past j rs right) e in
          (λ i. option_map_or (ready_branches rs j) (e i) []) ∙ one slot.0 slot.2 own past ∙ (λ i. option_map_or (ready_with told' (more j x)) (sym e i) [])
        where
          known : r.automation < length (units j)
          known = known-record j rs right s r e

          one : (o : Option Frames) → SlotKept (ends_at j) j delays w r o → s ≡ r.serial → IsPast (length j) r → ready_branches rs j r ≡ ready_with told' (more j x) r
          one None ended own past =
              resting rs j r (ended-off (length j) (length j) (omega arith) r ended past)
              ∙ sym (resting-with told' (more j x) r (ended-off (length j) (length (more j x)) (omega (arith, length-more j x)) r ended past))
          one (Some f) live own past =
              sym (branches-stay (ends_at j) told' j x r r (fronts f (spots j r.serial)) (has-entry j right.journal) past known (record { serial = refl; automation = refl; env = refl }) refl refl
              (no-spot j x r.serial (subst (λ q. step_at (more j x) q (length j) ≡ false) own no_step))
              (fronts-are f (actions_of (units j) r.automation) r.env (spots j r.serial) live.stands)
              (gates-stay (ends_at j) told' j x same delays w w' r.serial stood stands (subst (AsksKept w w') own asks) (subst (EndsGrow w w') own grow)
              (subst (λ q. touched (more j x) (due_places (now (more j x)) delays ++ wait_places (fresh w')) q ≡ false) own none) (fronts f (spots j r.serial)) live.gates))

-- LAW: the branches of a running run that may step are those that its frames list
pub listed-branches : (told : CallEnds) (j : Journal) (delays : List Timer) (w : Waits) (r : Record) (f : Frames) → TellsEnds w j → is_running (length j) r ≡ true → LiveKept told j delays w r f
    → ready_with told j r ≡ open_now (now j) (ends w r.serial) (fronts f (spots j r.serial))
listed-branches told j delays w r f stands on live =
    front-branches told j r (fronts f (spots j r.serial)) on (fronts-are f (actions_of (units j) r.automation) r.env (spots j r.serial) live.stands)
    ∙ open-kept told j delays w r.serial stands (fronts f (spots j r.serial)) live.gates
