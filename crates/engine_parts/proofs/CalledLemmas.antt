-- Who waits for which run, where an entry comes and its records are told.
use Rattle.std.proofs.Common.{◌≡◌, ℕ, zero, suc, ◌+◌, ◌-◌, ◌<◌, ◌≤◌, List, [], ◌∷◌, ◌++◌, length, set, Bool, true, false, refl, sym, ap, subst, ◌∙◌, rules, arith, true≢false}
use Rattle.std.specs.Prelude.{Option, Some, None, nat_eq, slice_get, if◌then◌else◌}
use Rattle.std.specs.Option.{option_map_or}
use Rattle.timer_queue.specs.Timers.{Timer}
use Rattle.ha_config.specs.declared.command.Cmd.{Cmd}
use Rattle.ha_config.proofs.ListLemmas.{append-nil}
use Rattle.ha_journal.specs.declared.entry.Entry.TheVariants.{Line}
use Rattle.ha_journal.specs.Journal.{Journal, last_place, more}
use Rattle.ha_journal.proofs.MoreLemmas.{length-more}
use Rattle.ha_model.specs.declared.record.Record.{Record}
use Rattle.ha_model.specs.Lawful.{Right, record_of}
use Rattle.ha_model.specs.Records.{CallEnds, Records, spots}
use Rattle.ha_model.proofs.FoldLaws.{spots-more}
use Rattle.ha_model.proofs.StepLaws.{Numbered, numbered-of}
use Rattle.ha_sight.specs.Scripts.{Branch}
use Rattle.run_modes.specs.Fits.{AreNumbered}
use Rattle.script_calls.specs.Waiting.{Caller, Waiting, caller_of, unless_by}
use Rattle.ha_ready.specs.Agree.{step_at}
use Rattle.script_step.specs.declared.frames.Frames.{Frames}
use Rattle.script_step.specs.Gates.{Gate, Fronts, gate_at}
use Rattle.wait_set.specs.Asked.{WaitTable as Waits}
use Rattle.engine_parts.specs.Called.{Alike, AreAlike, AreAwaited, CallsKept, EachSlot, IsAwaited, IsCaller, SlotAwaited, called_by, ended_in, run_at, told_by}
use Rattle.engine_parts.specs.Fronts.{fronts}
use Rattle.engine_parts.specs.Kept.{Gone, SlotBut, nobody, slot_if}
use Rattle.engine_parts.specs.Runs.{GateKept, GatesKept, LiveKept, SlotsKept, SlotsWith}
use Rattle.engine_parts.proofs.HeldLemmas.{get-set-other}
use Rattle.engine_parts.proofs.StepRight.{gate-known}
use Rattle.engine_parts.proofs.SteppersRun.{still-runs}
use Rattle.engine_parts.proofs.ToldLemmas.{apart, called-alike, called-joined, eq-of, found-within, none-some, self, told-alike, told-joined}

-- ---- slots

later : {X : Type 0} (o : X) (os : List X) (n s : ℕ) → suc n < s → slice_get (o ∷ os) (s - suc n) ≡ slice_get os (s - suc (suc n))
later o os n s lt = (let e : s - suc n ≡ suc (s - suc (suc n)) = omega (arith, lt) in ap (slice_get (o ∷ os)) e)

-- LAW: what holds of each live run, by its serial, gives what holds else
pub each-map : (P Q : ℕ → Frames → Type 0) (n : ℕ) (os : List (Option Frames)) → ((s : ℕ) (f : Frames) → n < s → slice_get os (s - suc n) ≡ Some (Some f) → P s f → Q s f) → EachSlot P n os → EachSlot Q n os
each-map P Q n [] g h = tt
each-map P Q n (None ∷ os) g h = each-map P Q (suc n) os (λ s f lt e p. g s f (omega (arith, lt)) (later None os n s lt ∙ e) p) h
each-map P Q n (Some f ∷ os) g h =
    (let first : suc n - suc n ≡ 0 = omega arith in
    (g (suc n) f (omega arith) (ap (slice_get (Some f ∷ os)) first) h.0, each-map P Q (suc n) os (λ s f' lt e p. g s f' (omega (arith, lt)) (later (Some f) os n s lt ∙ e) p) h.1))

-- LAW: what holds at each of them holds of all
pub each-slots : (Q : ℕ → Frames → Type 0) (n : ℕ) (os : List (Option Frames)) → ((s : ℕ) (f : Frames) → n < s → slice_get os (s - suc n) ≡ Some (Some f) → Q s f) → EachSlot Q n os
each-slots Q n [] g = tt
each-slots Q n (None ∷ os) g = each-slots Q (suc n) os (λ s f lt e. g s f (omega (arith, lt)) (later None os n s lt ∙ e))
each-slots Q n (Some f ∷ os) g =
    (let first : suc n - suc n ≡ 0 = omega arith in
    (g (suc n) f (omega arith) (ap (slice_get (Some f ∷ os)) first), each-slots Q (suc n) os (λ s f' lt e. g s f' (omega (arith, lt)) (later (Some f) os n s lt ∙ e))))

-- LAW: what holds of one of them
pub each-at : (P : ℕ → Frames → Type 0) (n : ℕ) (os : List (Option Frames)) → EachSlot P n os → (s : ℕ) (f : Frames) → n < s → slice_get os (s - suc n) ≡ Some (Some f) → P s f
each-at P n [] h s f lt e = absurd (none-some (Some f) e)
each-at P n (o ∷ os) h s f lt e = by (nat_eq s (suc n)) refl (λ less there. each-at P (suc n) os (rest o h) s f less there)
  where
    rest : (o : Option Frames) → EachSlot P n (o ∷ os) → EachSlot P (suc n) os
    rest None g = g
    rest (Some y) g = g.1

    here : (o : Option Frames) → EachSlot P n (o ∷ os) → o ≡ Some f → P (suc n) f
    here None g is = absurd (let bad : ◌≡◌ {A = Option Frames} None (Some f) = is in cc)
    here (Some y) g is = (let same : y ≡ f = cc in subst (P (suc n)) same g.0)

    above : n < s → nat_eq s (suc n) ≡ false → suc n < s
    above m off = search (rules, m, off)

    by : (c : Bool) → nat_eq s (suc n) ≡ c → (suc n < s → slice_get os (s - suc (suc n)) ≡ Some (Some f) → P s f) → P s f
    by true at later' =
        (let own : s ≡ suc n = eq-of s (suc n) at in
        let first : s - suc n ≡ 0 = omega (arith, own) in
        let is : o ≡ Some f = (let got : Some o ≡ Some (Some f) = ap (slice_get (o ∷ os)) (sym first) ∙ e in cc) in
        subst (λ m. P m f) (sym own) (here o h is))
    by false at later' = (let less : suc n < s = above lt at in later' less (sym (later o os n s less) ∙ e))

pub numbered-at : (n i : ℕ) (rs : Records) (r : Record) → AreNumbered n rs → slice_get rs i ≡ Some r → r.serial ≡ suc (n + i)
numbered-at n i [] r num e = absurd (none-some r e)
numbered-at n zero (y ∷ rs) r num e = (let same : y ≡ r = cc in let own : y.serial ≡ r.serial = ap (λ (z : Record). z.serial) same in omega (arith, own, num.0))
numbered-at n (suc i) (y ∷ rs) r num e = (let rest = numbered-at (suc n) i rs r num.1 e in omega (arith, rest))

slots-of : (P : Record → Option Frames → Type 0) (rs : Records) (os : List (Option Frames)) (i : ℕ) (o : Option Frames) → SlotsWith P rs os → slice_get os i ≡ Some o → (r : Record) × (slice_get rs i ≡ Some r) × P r o
slots-of P [] [] i o h e = absurd (none-some o e)
slots-of P [] (y ∷ os) i o h e = absurd h
slots-of P (r ∷ rs) [] i o h e = absurd h
slots-of P (r ∷ rs) (y ∷ os) zero o h e = (r, refl, (let same : y ≡ o = cc in subst (P r) same h.0))
slots-of P (r ∷ rs) (y ∷ os) (suc i) o h e = slots-of P rs os i o h.1 e

-- a run whose slot has frames: its record, which did not go, and what is kept of it
pub record LiveSlot (gone : Gone) (told : CallEnds) (k : Journal) (delays : List Timer) (w : Waits) (rs : Records) (s : ℕ) (f : Frames) : Type 0 where
  pub run : Record
  pub found : record_of rs s ≡ Some run
  pub serial : run.serial ≡ s
  pub stays : gone s ≡ false
  pub live : LiveKept told k delays w run f

pub live-slot : (gone : Gone) (told : CallEnds) (k : Journal) (delays : List Timer) (w : Waits) (rs : Records) (os : List (Option Frames)) → AreNumbered 0 rs → SlotsWith (SlotBut gone told k delays w) rs os
    → (s : ℕ) (f : Frames) → 0 < s → slice_get os (s - 1) ≡ Some (Some f) → LiveSlot gone told k delays w rs s f
live-slot gone told k delays w rs os num slots s f low e =
    (let slot = slots-of (SlotBut gone told k delays w) rs os (s - 1) (Some f) slots e in
    let at = numbered-at 0 (s - 1) rs slot.0 num slot.1 in
    let own : slot.0.serial ≡ s = omega (arith, at, low) in
    by slot.0 slot.1 own (gone slot.0.serial) refl slot.2)
  where
    by : (r : Record) → slice_get rs (s - 1) ≡ Some r → r.serial ≡ s → (b : Bool) → gone r.serial ≡ b → slot_if b told k delays w r (Some f) → LiveSlot gone told k delays w rs s f
    by r found own true at h = absurd (let bad : ◌≡◌ {A = Option Frames} (Some f) None = h in cc)
    by r found own false at h = record { run = r; found = found; serial = own; stays = (λ i. gone (sym own i)) ∙ at; live = h }

-- its gates
pub live-gates : (gone : Gone) (told : CallEnds) (k : Journal) (delays : List Timer) (w : Waits) (rs : Records) (s : ℕ) (f : Frames) → LiveSlot gone told k delays w rs s f → GatesKept told k delays w s (fronts f (spots k s))
live-gates gone told k delays w rs s f h = subst (λ q. GatesKept told k delays w q (fronts f (spots k q))) h.serial h.live.gates

numbered-as : (n : ℕ) (rs : Records) → Numbered n rs → AreNumbered n rs
unfolding Numbered
numbered-as n [] h = tt
numbered-as n (r ∷ rs) h = (h.0, numbered-as (suc n) rs h.1)

pub right-numbered : (j : Journal) (rs : Records) → Right j rs → AreNumbered 0 rs
right-numbered j rs right = numbered-as 0 rs (subst (Numbered 0) (sym right.records_are) (numbered-of j))

-- ---- one more line

pub fronts-awaited : (told told' : CallEnds) (j : Journal) → ((p : ℕ) → p < length j → told' p ≡ told p) → (delays : List Timer) (w : Waits) (rs : Records) (waiting : Waiting) (s : ℕ) (F : Fronts)
    → GatesKept told j delays w s F → AreAwaited told rs waiting s F → AreAwaited told' rs waiting s F
fronts-awaited told told' j same delays w rs waiting s [] gates h = tt
fronts-awaited told told' j same delays w rs waiting s (x ∷ F) gates h = (one x gates.0 h.0, fronts-awaited told told' j same delays w rs waiting s F gates.1 h.1)
  where
    one : (x : Branch × Gate) → GateKept told j delays w s x → IsAwaited told rs waiting s x → IsAwaited told' rs waiting s x
    one (b, Gate.Free) gate h = tt
    one (b, Gate.From due) gate h = tt
    one (b, Gate.Behind ask p) gate h = λ calls none. h calls (sym (same p gate.4) ∙ none)

-- a caller where the run's slot and places are the same
pub caller-moved : (told told' : CallEnds) (j k : Journal) → ((p : ℕ) → p < length j → told' p ≡ told p) → length j ≤ length k → (delays : List Timer) (w : Waits) (rs : Records) (os os' : List (Option Frames))
    → AreNumbered 0 rs → SlotsKept told j delays w rs os → (called s : ℕ) (b : Branch) → spots k s ≡ spots j s → slice_get os' (s - 1) ≡ slice_get os (s - 1) → IsCaller told j rs os called s b → IsCaller told' k rs os' called s b
caller-moved told told' j k same le delays w rs os os' num slots called s b places slot c =
    (let known = live-slot nobody told j delays w rs os num slots s c.frames c.low c.there in
    let gate : GateKept told j delays w s (b, Gate.Behind c.ask c.place) = gate-known told j delays w s (fronts c.frames (spots j s)) b (Gate.Behind c.ask c.place) c.gate (live-gates nobody told j delays w rs s c.frames known) in
    let run : known.run ≡ c.run = (let e = sym known.found ∙ c.found in cc) in
    let live : c.run.end ≡ None = subst (λ (r : Record). r.end ≡ None) run known.live.live in
    record {
      low = c.low;
      run = c.run;
      found = c.found;
      running = still-runs (length j) (length k) le c.run c.running live;
      frames = c.frames;
      there = slot ∙ c.there;
      ask = c.ask;
      place = c.place;
      gate = (λ i. gate_at b (fronts c.frames (places i))) ∙ c.gate;
      calls = c.calls;
      called_is = c.called_is;
      opened = same c.place gate.4 ∙ c.opened;
    })

-- LAW: behind a line who waits is the same
pub calls-line : (told told' : CallEnds) (j : Journal) (source number : ℕ) (cmd : Cmd) → ((p : ℕ) → p < length j → told' p ≡ told p) → (rs : Records) (delays : List Timer) (w : Waits) (os : List (Option Frames)) → Right j rs
    → SlotsKept told j delays w rs os → (waiting : Waiting) → CallsKept told j rs waiting os → CallsKept told' (more j (Line source number cmd)) rs waiting os
calls-line told told' j source number cmd same rs delays w os right slots waiting calls = record {
  awaited = each-map (SlotAwaited told rs waiting j) (SlotAwaited told' rs waiting (more j (Line source number cmd))) 0 os
      (λ s f lt e h. subst (λ ss. AreAwaited told' rs waiting s (fronts f ss)) (sym (places s))
      (fronts-awaited told told' j same delays w rs waiting s (fronts f (spots j s)) (live-gates nobody told j delays w rs s f (live-slot nobody told j delays w rs os num slots s f lt e)) h))
      calls.awaited;
  callers = λ called s b e. caller-moved told told' j (more j (Line source number cmd)) same (omega (arith, length-more j (Line source number cmd))) delays w rs os os num slots called s b (places s) refl (calls.callers called s b e);
}
  where
    places : (s : ℕ) → spots (more j (Line source number cmd)) s ≡ spots j s
    places s = spots-more j (Line source number cmd) s ∙ append-nil (spots j s)

    num : AreNumbered 0 rs
    num = right-numbered j rs right

-- ---- a run that goes

each-clear : (P Q : ℕ → Frames → Type 0) (n i : ℕ) (os : List (Option Frames)) → ((r : ℕ) (f : Frames) → n < r → (r ≡ suc (n + i) → ⊥) → P r f → Q r f) → EachSlot P n os → EachSlot Q n (set os i None)
each-clear P Q n i [] g h = tt
each-clear P Q n zero (o ∷ os) g h = each-map P Q (suc n) os (λ r f lt e p. g r f (omega (arith, lt)) (λ same. omega (arith, same, lt)) p) (rest o h)
  where
    rest : (o : Option Frames) → EachSlot P n (o ∷ os) → EachSlot P (suc n) os
    rest None k = k
    rest (Some y) k = k.1
each-clear P Q n (suc i) (None ∷ os) g h = each-clear P Q (suc n) i os (λ r f lt off p. g r f (omega (arith, lt)) (λ same. off (omega (arith, same))) p) h
each-clear P Q n (suc i) (Some f ∷ os) g h =
    (g (suc n) f (omega arith) (λ same. omega (arith, same)) h.0, each-clear P Q (suc n) i os (λ r f' lt off p. g r f' (omega (arith, lt)) (λ same. off (omega (arith, same))) p) h.1)

-- LAW: the others wait as before
pub calls-forgot : (told : CallEnds) (k : Journal) (rs : Records) (waiting waiting' : Waiting) (os : List (Option Frames)) (s : ℕ) → 0 < s
    → ((c : ℕ) → caller_of c waiting' ≡ unless_by s (caller_of c waiting)) → CallsKept told k rs waiting os → CallsKept told k rs waiting' (set os (s - 1) None)
calls-forgot told k rs waiting waiting' os s low rest h = record {
  awaited = each-clear (SlotAwaited told rs waiting k) (SlotAwaited told rs waiting' k) 0 (s - 1) os (λ r f lt off p. fronts-left r (λ same. off (omega (arith, same, low))) (fronts f (spots k r)) p) h.awaited;
  callers = λ c r b e. left c r b (caller_of c waiting) refl (sym (rest c) ∙ e);
}
  where
    kept : (r : ℕ) (b : Branch) → (r ≡ s → ⊥) → unless_by s (Some (r, b)) ≡ Some (r, b)
    kept r b off = (λ i. if apart s r (λ same. off (sym same)) i then None else Some (r, b))

    fronts-left : (r : ℕ) → (r ≡ s → ⊥) → (F : Fronts) → AreAwaited told rs waiting r F → AreAwaited told rs waiting' r F
    fronts-left r off [] p = tt
    fronts-left r off (x ∷ F) p = (one x p.0, fronts-left r off F p.1)
      where
        one : (x : Branch × Gate) → IsAwaited told rs waiting r x → IsAwaited told rs waiting' r x
        one (b, Gate.Free) g = tt
        one (b, Gate.From due) g = tt
        one (b, Gate.Behind ask p) g = λ calls none. rest (called_by rs p) ∙ ap (unless_by s) (g calls none) ∙ kept r b off

    left : (c r : ℕ) (b : Branch) (o : Option Caller) → caller_of c waiting ≡ o → unless_by s (caller_of c waiting) ≡ Some (r, b) → IsCaller told k rs (set os (s - 1) None) c r b
    left c r b None e is = absurd (none-some (r, b) (ap (unless_by s) (sym e) ∙ is))
    left c r b (Some w) e is = by (nat_eq s w.0) refl (ap (unless_by s) (sym e) ∙ is)
      where
        by : (t : Bool) → nat_eq s w.0 ≡ t → (if nat_eq s w.0 then None else Some w) ≡ Some (r, b) → IsCaller told k rs (set os (s - 1) None) c r b
        by true f q = absurd (none-some (r, b) ((λ i. if sym f i then None else Some w) ∙ q))
        by false f q =
            (let same : w ≡ (r, b) = (let got : Some w ≡ Some (r, b) = (λ i. if sym f i then None else Some w) ∙ q in cc) in
            let old = h.callers c r b (e ∙ ap Some same) in
            let off : r - 1 ≡ s - 1 → ⊥ = (λ at. (let here : w.0 ≡ r = ap (λ (x : Caller). x.0) same in true≢false (sym (self s w.0 (omega (arith, at, here, old.low, low))) ∙ f))) in
            record {
              low = old.low;
              run = old.run;
              found = old.found;
              running = old.running;
              frames = old.frames;
              there = get-set-other os (s - 1) (r - 1) None off ∙ old.there;
              ask = old.ask;
              place = old.place;
              gate = old.gate;
              calls = old.calls;
              called_is = old.called_is;
              opened = old.opened;
            })

-- ---- records that are told anew

fronts-alike : (told : CallEnds) (rs rs' : Records) (waiting : Waiting) (s : ℕ) → ((p : ℕ) → told p ≡ None → called_by rs' p ≡ called_by rs p) → (F : Fronts) → AreAwaited told rs waiting s F → AreAwaited told rs' waiting s F
fronts-alike told rs rs' waiting s same [] h = tt
fronts-alike told rs rs' waiting s same (x ∷ F) h = (one x h.0, fronts-alike told rs rs' waiting s same F h.1)
  where
    one : (x : Branch × Gate) → IsAwaited told rs waiting s x → IsAwaited told rs' waiting s x
    one (b, Gate.Free) g = tt
    one (b, Gate.From due) g = tt
    one (b, Gate.Behind ask p) g = λ calls none. ap (λ c. caller_of c waiting) (same p none) ∙ g calls none

alike-at : (gone : Gone) (q i : ℕ) (rs rs' : Records) (r : Record) → AreAlike gone q rs rs' → slice_get rs i ≡ Some r → (r' : Record) × (slice_get rs' i ≡ Some r') × Alike gone q r r'
alike-at gone q i [] rs' r h e = absurd (none-some r e)
alike-at gone q i (y ∷ rs) [] r h e = absurd h
alike-at gone q zero (y ∷ rs) (y' ∷ rs') r h e = (y', refl, (let same : y ≡ r = cc in subst (λ (z : Record). Alike gone q z y') same h.0))
alike-at gone q (suc i) (y ∷ rs) (y' ∷ rs') r h e = alike-at gone q i rs rs' r h.1 e

-- LAW: where the runs that went end, and the others run as before, who waits is the same
pub calls-alike : (gone : Gone) (k : Journal) (rs rs' : Records) (delays : List Timer) (w : Waits) (os : List (Option Frames)) (waiting : Waiting) → AreNumbered 0 rs → AreAlike gone (last_place k) rs rs'
    → SlotsWith (SlotBut gone (told_by gone k rs) k delays w) rs os → CallsKept (told_by gone k rs) k rs waiting os → CallsKept (told_by nobody k rs') k rs' waiting os
calls-alike gone k rs rs' delays w os waiting num alike slots h = subst (λ (t : CallEnds). CallsKept t k rs' waiting os) (told-alike gone k rs rs' alike) (record {
  awaited = each-map (SlotAwaited (told_by gone k rs) rs waiting k) (SlotAwaited (told_by gone k rs) rs' waiting k) 0 os (λ s f lt e p. fronts-alike (told_by gone k rs) rs rs' waiting s (λ p none. sym (called-alike gone (last_place k) rs rs' alike p)) (fronts f (spots k s)) p) h.awaited;
  callers = λ c s b e. moved c s b (h.callers c s b e);
})
  where
    moved : (c s : ℕ) (b : Branch) → IsCaller (told_by gone k rs) k rs os c s b → IsCaller (told_by gone k rs) k rs' os c s b
    moved c s b old =
        (let live = live-slot gone (told_by gone k rs) k delays w rs os num slots s old.frames old.low old.there in
        let run : live.run ≡ old.run = (let got = sym live.found ∙ old.found in cc) in
        let stays : gone old.run.serial ≡ false = ap (λ (r : Record). gone r.serial) (sym run) ∙ ap gone live.serial ∙ live.stays in
        let there = alike-at gone (last_place k) (s - 1) rs rs' old.run alike old.found in
        record {
          low = old.low;
          run = there.0;
          found = there.1;
          running = there.2.runs (length k) stays old.running;
          frames = old.frames;
          there = old.there;
          ask = old.ask;
          place = old.place;
          gate = old.gate;
          calls = old.calls;
          called_is = old.called_is ∙ called-alike gone (last_place k) rs rs' alike old.place;
          opened = old.opened;
        })

-- ---- one run more

each-snoc : (P : ℕ → Frames → Type 0) (n : ℕ) (os : List (Option Frames)) (f : Frames) → EachSlot P n os → P (suc (n + length os)) f → EachSlot P n (os ++ (Some f ∷ []))
each-snoc P n [] f h new = ((let at : suc (n + 0) ≡ suc n = omega arith in subst (λ m. P m f) at new), tt)
each-snoc P n (None ∷ os) f h new = each-snoc P (suc n) os f h (let at : suc (n + suc (length os)) ≡ suc (suc n + length os) = omega arith in subst (λ m. P m f) at new)
each-snoc P n (Some y ∷ os) f h new = (h.0, each-snoc P (suc n) os f h.1 (let at : suc (n + suc (length os)) ≡ suc (suc n + length os) = omega arith in subst (λ m. P m f) at new))

get-first : {X : Type 0} (xs ys : List X) (i : ℕ) (x : X) → slice_get xs i ≡ Some x → slice_get (xs ++ ys) i ≡ Some x
get-first [] ys i x e = absurd (none-some x e)
get-first (y ∷ xs) ys zero x e = e
get-first (y ∷ xs) ys (suc i) x e = get-first xs ys i x e

-- LAW: with a run that has no place yet who waits is the same
pub calls-joined : (k : Journal) (rs : Records) (new : Record) (g : Frames) (os : List (Option Frames)) (waiting : Waiting) → new.place ≡ last_place k → new.end ≡ None → new.serial ≡ suc (length rs) → length os ≡ length rs
    → AreAwaited (told_by nobody k rs) (rs ++ (new ∷ [])) waiting new.serial (fronts g (spots k new.serial))
    → CallsKept (told_by nobody k rs) k rs waiting os → CallsKept (told_by nobody k (rs ++ (new ∷ []))) k (rs ++ (new ∷ [])) waiting (os ++ (Some g ∷ []))
calls-joined k rs new g os waiting here open' own size fresh h = subst (λ (t : CallEnds). CallsKept t k (rs ++ (new ∷ [])) waiting (os ++ (Some g ∷ []))) (sym (told-joined k rs new here open')) (record {
  awaited = each-snoc (SlotAwaited (told_by nobody k rs) (rs ++ (new ∷ [])) waiting k) 0 os g
      (each-map (SlotAwaited (told_by nobody k rs) rs waiting k) (SlotAwaited (told_by nobody k rs) (rs ++ (new ∷ [])) waiting k) 0 os (λ s f lt e p. fronts-alike (told_by nobody k rs) rs (rs ++ (new ∷ [])) waiting s (called-joined k rs new here own) (fronts f (spots k s)) p) h.awaited)
      (let at : new.serial ≡ suc (0 + length os) = omega (arith, own, size) in subst (λ m. SlotAwaited (told_by nobody k rs) (rs ++ (new ∷ [])) waiting k m g) at fresh);
  callers = λ c s b e. moved c s b (h.callers c s b e);
})
  where
    moved : (c s : ℕ) (b : Branch) → IsCaller (told_by nobody k rs) k rs os c s b → IsCaller (told_by nobody k rs) k (rs ++ (new ∷ [])) (os ++ (Some g ∷ [])) c s b
    moved c s b old = record {
      low = old.low;
      run = old.run;
      found = get-first rs (new ∷ []) (s - 1) old.run old.found;
      running = old.running;
      frames = old.frames;
      there = get-first os (Some g ∷ []) (s - 1) (Some old.frames) old.there;
      ask = old.ask;
      place = old.place;
      gate = old.gate;
      calls = old.calls;
      called_is = old.called_is ∙ sym (called-joined k rs new here own old.place old.opened);
      opened = old.opened;
    }

-- ---- all is told

-- LAW: where the last entry is a step of no run, nobody waits for the run that comes next
pub none-waits : (k : Journal) (rs : Records) (delays : List Timer) (w : Waits) (os : List (Option Frames)) (waiting : Waiting) → AreNumbered 0 rs → ((s : ℕ) → step_at k s (last_place k) ≡ false)
    → SlotsWith (SlotBut nobody (told_by nobody k rs) k delays w) rs os → CallsKept (told_by nobody k rs) k rs waiting os → caller_of (suc (length rs)) waiting ≡ None
none-waits k rs delays w os waiting num plain slots h = by (caller_of (suc (length rs)) waiting) refl
  where
    by : (o : Option Caller) → caller_of (suc (length rs)) waiting ≡ o → o ≡ None
    by None e = refl
    by (Some (s, b)) e = absurd (at-last c.place c.called_is c.opened gate.5)
      where
        c : IsCaller (told_by nobody k rs) k rs os (suc (length rs)) s b
        c = h.callers (suc (length rs)) s b e

        gate : GateKept (told_by nobody k rs) k delays w s (b, Gate.Behind c.ask c.place)
        gate = gate-known (told_by nobody k rs) k delays w s (fronts c.frames (spots k s)) b (Gate.Behind c.ask c.place) c.gate
            (live-gates nobody (told_by nobody k rs) k delays w rs s c.frames (live-slot nobody (told_by nobody k rs) k delays w rs os num slots s c.frames c.low c.there))

        at-last : (p : ℕ) → suc (length rs) ≡ called_by rs p → told_by nobody k rs p ≡ None → step_at k s p ≡ true → ⊥
        at-last p own none step = one (run_at p rs) refl own none
          where
            one : (o : Option Record) → run_at p rs ≡ o → suc (length rs) ≡ option_map_or (λ (r : Record). r.serial) o (suc (length rs))
                → option_map_or (ended_in nobody k) o (if nat_eq p (last_place k) then None else Some p) ≡ None → ⊥
            one (Some r) f same q = (let in' = found-within p 0 rs r num f in omega (arith, same, in'.1))
            one None f same q = two (nat_eq p (last_place k)) refl q
              where
                two : (c : Bool) → nat_eq p (last_place k) ≡ c → (if c then None else Some p) ≡ None → ⊥
                two true at r = true≢false (sym step ∙ ap (step_at k s) (eq-of p (last_place k) at) ∙ plain s)
                two false at r = none-some p (sym r)
