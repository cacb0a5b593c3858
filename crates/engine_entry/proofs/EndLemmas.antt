-- A run ends by its script, and the one that was queued behind it begins.
use Rattle.std.proofs.Common.{◌≡◌, ℕ, zero, suc, ◌+◌, ◌-◌, ◌<◌, ◌≤◌, List, [], ◌∷◌, length, Bool, true, false, refl, sym, ap, subst, ◌∙◌, rules, arith}
use Rattle.std.specs.Prelude.{Option, Some, None, ◌||◌, nat_eq, slice_get, option_map, if◌then◌else◌}
use Rattle.std.specs.Option.{option_map_or}
use Rattle.timer_queue.specs.Timers.{Timer}
use Rattle.ha_model.specs.declared.record.EndCause.{EndCause}
use Rattle.ha_model.specs.declared.record.Record.{Record}
use Rattle.ha_journal.specs.Journal.{Journal}
use Rattle.ha_model.specs.Lawful.{is_running, record_of}
use Rattle.ha_model.specs.Records.{CallEnds, Records}
use Rattle.ha_config.specs.Words.{or_else}
use Rattle.ha_sight.specs.Scripts.{Branch}
use Rattle.ha_ready.specs.ReadyPairs.{branches_with, changed_at, pairs_from, ready_with}
use Rattle.ha_ready.specs.RunPast.{AllPast, BeginBefore, IsPast}
use Rattle.ha_ready.proofs.ReadyLemmas.{pairs-same}
use Rattle.ha_ready.proofs.RunPast.{ended-rests, queued-rests, resting-with}
use Rattle.run_modes.specs.Changes.{after_end}
use Rattle.run_modes.specs.Fits.{AreNumbered}
use Rattle.run_modes.specs.Table.{begin_first, begins_at, begun_by, called_on, ended_at, is_live}
use Rattle.run_modes.proofs.ChangeLaws.{ended-record}
use Rattle.run_modes.proofs.EndLemmas.{ended-numbered}
use Rattle.run_modes.proofs.StopLemmas.{called-numbered}
use Rattle.script_step.specs.declared.frames.Frames.{Frames}
use Rattle.wait_set.specs.Asked.{WaitTable as Waits}
use Rattle.engine_parts.specs.Called.{Alike, AreAlike, place_of}
use Rattle.engine_parts.specs.Kept.{RunsKept, SlotBut, left_branches, left_if, nobody, slot_if}
use Rattle.engine_parts.specs.Records.{AreEnded, EndsIf, IsTable, also}
use Rattle.engine_parts.specs.Runs.{SlotKept, SlotsWith}
use Rattle.engine_entry.proofs.QueuedLemmas.{Queued, begun-found}

eq-of : (a b : ℕ) → nat_eq a b ≡ true → a ≡ b
eq-of a b e = search (rules, e)

-- ---- a call is counted

-- LAW: nobody ends
pub called-ended : (q s : ℕ) (rs : Records) → AreEnded nobody q rs (called_on s rs)
called-ended q s [] = tt
called-ended q s (r ∷ rs) = (one (nat_eq r.serial s), called-ended q s rs)
  where
    one : (c : Bool) → EndsIf false q r (if c then record r { calls = suc r.calls } else r)
    one true = (record { script = record { serial = refl; automation = refl; env = refl }; begin = refl; end = refl }, refl)
    one false = (record { script = record { serial = refl; automation = refl; env = refl }; begin = refl; end = refl }, refl)

called-past : (s n : ℕ) (rs : Records) → AllPast n rs → AllPast n (called_on s rs)
called-past s n [] h = tt
called-past s n (r ∷ rs) h = (one (nat_eq r.serial s), called-past s n rs h.1)
  where
    one : (c : Bool) → IsPast n (if c then record r { calls = suc r.calls } else r)
    one true = record { place = h.0.place; begin = h.0.begin; end = h.0.end }
    one false = h.0

pub called-length : (s : ℕ) (rs : Records) → length (called_on s rs) ≡ length rs
called-length s [] = refl
called-length s (r ∷ rs) = ap suc (called-length s rs)

-- LAW: the records are a table still
pub called-table : (s : ℕ) (k : Journal) (rs : Records) → IsTable k rs → IsTable k (called_on s rs)
called-table s k rs h = record {
  numbered = called-numbered s 0 rs h.numbered;
  past = called-past s (length k) rs h.past;
  unstepped = λ q p behind. h.unstepped q p (omega (arith, behind, called-length s rs));
}

-- ---- an end

begun-past : (a place n : ℕ) (rs : Records) → place < n → AllPast n rs → AllPast n (begin_first a place rs)
begun-past a place n [] lt h = tt
begun-past a place n (r ∷ rs) lt h = by (is_live a r) (begun-past a place n rs lt h.1)
  where
    begins : (b : Option ℕ) → BeginBefore n b → BeginBefore n (or_else b (Some place))
    begins None g = lt
    begins (Some b) g = g

    by : (c : Bool) → AllPast n (begin_first a place rs) → AllPast n (if c then begins_at place r ∷ rs else r ∷ begin_first a place rs)
    by true rest = (record { place = h.0.place; begin = begins r.begin h.0.begin; end = h.0.end }, h.1)
    by false rest = (h.0, rest)

ended-past : (s place n : ℕ) (cause : EndCause) (rs : Records) → place < n → AllPast n rs → AllPast n (ended_at s place cause rs)
ended-past s place n cause [] lt h = tt
ended-past s place n cause (r ∷ rs) lt h = by (nat_eq r.serial s) (ended-past s place n cause rs lt h.1)
  where
    by : (c : Bool) → AllPast n (ended_at s place cause rs) → AllPast n (if c then record r { end = Some (place, cause) } ∷ begin_first r.automation place rs else r ∷ ended_at s place cause rs)
    by true rest = (record { place = h.0.place; begin = h.0.begin; end = lt }, begun-past r.automation place n rs lt h.1)
    by false rest = (h.0, rest)

begun-length : (a place : ℕ) (rs : Records) → length (begin_first a place rs) ≡ length rs
begun-length a place [] = refl
begun-length a place (r ∷ rs) = by (is_live a r) (begun-length a place rs)
  where
    by : (c : Bool) → length (begin_first a place rs) ≡ length rs → length (if c then begins_at place r ∷ rs else r ∷ begin_first a place rs) ≡ suc (length rs)
    by true e = refl
    by false e = ap suc e

pub ended-length : (s place : ℕ) (cause : EndCause) (rs : Records) → length (ended_at s place cause rs) ≡ length rs
ended-length s place cause [] = refl
ended-length s place cause (r ∷ rs) = by (nat_eq r.serial s) (ended-length s place cause rs)
  where
    by : (c : Bool) → length (ended_at s place cause rs) ≡ length rs → length (if c then record r { end = Some (place, cause) } ∷ begin_first r.automation place rs else r ∷ ended_at s place cause rs) ≡ suc (length rs)
    by true e = ap suc (begun-length r.automation place rs)
    by false e = ap suc e

-- LAW: the records are a table still
pub ended-table : (s place : ℕ) (cause : EndCause) (k : Journal) (rs : Records) → place < length k → IsTable k rs → IsTable k (ended_at s place cause rs)
ended-table s place cause k rs lt h = record {
  numbered = ended-numbered place cause s 0 rs h.numbered;
  past = ended-past s place (length k) cause rs lt h.past;
  unstepped = λ q p behind. h.unstepped q p (omega (arith, behind, ended-length s place cause rs));
}

-- ---- what is told of called runs

-- a run that did not go, as it is and where it begins
stays-alike : (s q place : ℕ) (r : Record) → nat_eq r.serial s ≡ false → Alike (also nobody s) q r r × Alike (also nobody s) q r (begins_at place r)
stays-alike s q place r off = (
  record { serial = refl; place = refl; ends = sym (or-none (place_of r.end)) ∙ (λ i. or_else (place_of r.end) (if sym off i then Some q else None)); runs = λ n stays run. run },
  record { serial = refl; place = refl; ends = sym (or-none (place_of r.end)) ∙ (λ i. or_else (place_of r.end) (if sym off i then Some q else None)); runs = λ n stays run. begun r.begin n run },
)
  where
    or-none : (o : Option ℕ) → or_else o None ≡ o
    or-none None = refl
    or-none (Some n) = refl

    begun : (b : Option ℕ) (n : ℕ) → is_running n (record r { begin = b }) ≡ true → is_running n (record r { begin = or_else b (Some place) }) ≡ true
    begun None n run = absurd (let bad : ◌≡◌ {A = Bool} false true = run in cc)
    begun (Some b) n run = run

above : (n s : ℕ) (r : Record) → r.serial ≡ suc n → s ≤ n → nat_eq r.serial s ≡ false
above n s r own le = apart r.serial s (omega (arith, own, le))
  where
    apart : (a b : ℕ) → b < a → nat_eq a b ≡ false
    apart a b lt = search (rules, lt)

rest-alike : (s q n : ℕ) (rs : Records) → AreNumbered n rs → s ≤ n → AreAlike (also nobody s) q rs rs
rest-alike s q n [] num le = tt
rest-alike s q n (r ∷ rs) num le = ((stays-alike s q q r (above n s r num.0 le)).0, rest-alike s q (suc n) rs num.1 (omega (arith, le)))

begun-alike : (s q a place n : ℕ) (rs : Records) → AreNumbered n rs → s ≤ n → AreAlike (also nobody s) q rs (begin_first a place rs)
begun-alike s q a place n [] num le = tt
begun-alike s q a place n (r ∷ rs) num le = by (is_live a r) (begun-alike s q a place (suc n) rs num.1 (omega (arith, le)))
  where
    by : (c : Bool) → AreAlike (also nobody s) q rs (begin_first a place rs) → AreAlike (also nobody s) q (r ∷ rs) (if c then begins_at place r ∷ rs else r ∷ begin_first a place rs)
    by true rest = ((stays-alike s q place r (above n s r num.0 le)).1, rest-alike s q (suc n) rs num.1 (omega (arith, le)))
    by false rest = ((stays-alike s q place r (above n s r num.0 le)).0, rest)

-- LAW: a run that had not ended ends there, and the others are alike
pub end-alike : (s place n : ℕ) (cause : EndCause) (rs : Records) → AreNumbered n rs → ((i : ℕ) (r : Record) → slice_get rs i ≡ Some r → r.serial ≡ s → r.end ≡ None) → AreAlike (also nobody s) place rs (ended_at s place cause rs)
end-alike s place n cause [] num live = tt
end-alike s place n cause (r ∷ rs) num live = by (nat_eq r.serial s) refl (end-alike s place (suc n) cause rs num.1 (λ i x e. live (suc i) x e))
  where
    by : (c : Bool) → nat_eq r.serial s ≡ c → AreAlike (also nobody s) place rs (ended_at s place cause rs)
        → AreAlike (also nobody s) place (r ∷ rs) (if c then record r { end = Some (place, cause) } ∷ begin_first r.automation place rs else r ∷ ended_at s place cause rs)
    by true at rest =
        (let own : r.serial ≡ s = eq-of r.serial s at in
        let open' : r.end ≡ None = live 0 r refl own in (
          record {
            serial = refl;
            place = refl;
            ends = (λ i. or_else (place_of (sym open' i)) (if sym at i then Some place else None));
            runs = λ n stays run. absurd (let bad : ◌≡◌ {A = Bool} true false = sym at ∙ stays in cc);
          },
          begun-alike s place r.automation place (suc n) rs num.1 (omega (arith, own, num.0)),
        ))
    by false off rest = ((stays-alike s place place r off).0, rest)

-- ---- the slots

-- slots that are right place by place
slots-by : (Q : Record → Option Frames → Type 0) (rs' : Records) (os : List (Option Frames)) → length os ≡ length rs'
    → ((i : ℕ) (r' : Record) (o : Option Frames) → slice_get rs' i ≡ Some r' → slice_get os i ≡ Some o → Q r' o) → SlotsWith Q rs' os
slots-by Q [] [] e h = tt
slots-by Q [] (o ∷ os) e h = absurd (omega (arith, e))
slots-by Q (r ∷ rs) [] e h = absurd (omega (arith, e))
slots-by Q (r ∷ rs) (o ∷ os) e h = (h 0 r o refl refl, slots-by Q rs os (omega (arith, e)) (λ i r' o' a b. h (suc i) r' o' a b))

slots-length : (P : Record → Option Frames → Type 0) (rs : Records) (os : List (Option Frames)) → SlotsWith P rs os → length os ≡ length rs
slots-length P [] [] h = refl
slots-length P [] (o ∷ os) h = absurd h
slots-length P (r ∷ rs) [] h = absurd h
slots-length P (r ∷ rs) (o ∷ os) h = ap suc (slots-length P rs os h.1)

slots-both : (P : Record → Option Frames → Type 0) (rs : Records) (os : List (Option Frames)) (i : ℕ) (r : Record) (o : Option Frames) → SlotsWith P rs os → slice_get rs i ≡ Some r → slice_get os i ≡ Some o → P r o
slots-both P [] os i r o h e f = absurd (let bad : ◌≡◌ {A = Option Record} None (Some r) = e in cc)
slots-both P (x ∷ rs) [] i r o h e f = absurd h
slots-both P (x ∷ rs) (p ∷ os) zero r o h e f = (let a : x ≡ r = cc in let b : p ≡ o = cc in subst (λ (y : Record). P y o) a (subst (λ (y : Option Frames). P x y) b h.0))
slots-both P (x ∷ rs) (p ∷ os) (suc i) r o h e f = slots-both P rs os i r o h.1 e f

numbered-get : (n i : ℕ) (rs : Records) (r : Record) → AreNumbered n rs → slice_get rs i ≡ Some r → r.serial ≡ suc (n + i)
numbered-get n i [] r h e = absurd (let bad : ◌≡◌ {A = Option Record} None (Some r) = e in cc)
numbered-get n zero (x ∷ rs) r h e = (let same : x ≡ r = cc in omega (arith, h.0, ap (λ (y : Record). y.serial) same))
numbered-get n (suc i) (x ∷ rs) r h e = omega (arith, numbered-get (suc n) i rs r h.1 e)

-- ---- all runs behind an end

module _ (told : CallEnds) (k : Journal) (delays : List Timer) (w : Waits) (rs : Records) (numbered : AreNumbered 0 rs) (s place : ℕ) (cause : EndCause) (last : length k ≡ suc place) (os : List (Option Frames)) (pairs : List (ℕ × Branch))
    (kept : RunsKept told (also nobody s) k rs delays w os pairs) where
  abbrev next : Option ℕ
  next = begun_by s rs

  abbrev rs' : Records
  rs' = ended_at s place cause rs

  -- the record at a place, before and behind
  old-at : (i : ℕ) (r' : Record) → slice_get rs' i ≡ Some r' → (r : Record) × (slice_get rs i ≡ Some r) × (r' ≡ after_end s place cause next r)
  old-at i r' e = by (slice_get rs i) refl (sym e ∙ ap (slice_get rs') (let n : i ≡ suc i - 1 = omega arith in n) ∙ ended-record s (suc i) place cause rs numbered ∙ ap (λ m. option_map (after_end s place cause next) (slice_get rs m)) (let n : suc i - 1 ≡ i = omega arith in n))
    where
      by : (o : Option Record) → slice_get rs i ≡ o → Some r' ≡ option_map (after_end s place cause next) o → (r : Record) × (slice_get rs i ≡ Some r) × (r' ≡ after_end s place cause next r)
      by None f g = absurd (let bad : ◌≡◌ {A = Option Record} (Some r') None = g in cc)
      by (Some r) f g = (r, f, (let same : r' ≡ after_end s place cause next r = cc in same))

  begun-slot : (r : Record) (o : Option Frames) → SlotKept told k delays w r o → SlotKept told k delays w (begins_at place r) o
  begun-slot r None h = h
  begun-slot r (Some f) h = record { live = h.live; serial = h.serial; automation = h.automation; stands = h.stands; gates = h.gates }

  slot-behind : (r : Record) (o : Option Frames) → SlotBut (also nobody s) told k delays w r o → SlotKept told k delays w (after_end s place cause next r) o
  slot-behind r o h = by (nat_eq r.serial s) (option_map_or (nat_eq r.serial) next false) h
    where
      by : (c d : Bool) → slot_if (false || c) told k delays w r o → SlotKept told k delays w (if c then record r { end = Some (place, cause) } else if d then begins_at place r else r) o
      by true d gone = subst (SlotKept told k delays w (record r { end = Some (place, cause) })) (sym gone) tt
      by false true slot = begun-slot r o slot
      by false false slot = slot

  slots : SlotsWith (SlotKept told k delays w) rs' os
  slots =
      slots-by (SlotKept told k delays w) rs' os (slots-length (SlotBut (also nobody s) told k delays w) rs os kept.slots ∙ sym (ended-length s place cause rs))
      (λ i r' o e f. (let old = old-at i r' e in subst (λ (y : Record). SlotKept told k delays w y o) (sym old.2) (slot-behind old.0 o (slots-both (SlotBut (also nobody s) told k delays w) rs os i old.0 o kept.slots old.1 f))))

  -- the branches of a run that neither ends nor begins, and of the one that ends
  other-branches : (q : ℕ) → 0 < q → option_map_or (nat_eq q) next false ≡ false → left_branches (also nobody s) told rs k q ≡ branches_with told rs' k q
  other-branches q low off = by (record_of rs q) refl ∙ ap (λ o. option_map_or (ready_with told k) o []) (sym (ended-record s q place cause rs numbered))
    where
      one : (r : Record) → r.serial ≡ q → record_of rs q ≡ Some r → left_if (nat_eq q s) told rs k q ≡ ready_with told k (after_end s place cause next r)
      one r own found =
          (λ i. left_if (nat_eq (sym own i) s) told rs k q) ∙ cases (nat_eq r.serial s) (option_map_or (nat_eq r.serial) next false) (ap (λ n. option_map_or (nat_eq n) next false) own ∙ off)
        where
          cases : (c d : Bool) → d ≡ false → left_if c told rs k q ≡ ready_with told k (if c then record r { end = Some (place, cause) } else if d then begins_at place r else r)
          cases true d e =
              sym (resting-with told k (record r { end = Some (place, cause) })
              ((λ i. is_running (last i) (record r { end = Some (place, cause) })) ∙ ended-rests place place cause (record r { end = Some (place, cause) }) refl (omega arith)))
          cases false true e = absurd (let bad : ◌≡◌ {A = Bool} true false = e in cc)
          cases false false e = ap (λ o. option_map_or (ready_with told k) o []) found

      by : (o : Option Record) → record_of rs q ≡ o → left_branches (also nobody s) told rs k q ≡ option_map_or (ready_with told k) (option_map (after_end s place cause next) o) []
      by None e = cases (nat_eq q s)
        where
          cases : (c : Bool) → left_if c told rs k q ≡ []
          cases true = refl
          cases false = ap (λ o. option_map_or (ready_with told k) o []) e
      by (Some r) e = one r (omega (arith, numbered-get 0 (q - 1) rs r numbered e, low)) e

  -- LAW: where nobody waited for it, all runs are kept
  pub none-begun : next ≡ None → RunsKept told nobody k rs' delays w os pairs
  none-begun none = record {
    slots = slots;
    pairs_are = kept.pairs_are
        ∙ pairs-same 0 (length rs) (left_branches (also nobody s) told rs k) (branches_with told rs' k) (λ q low high. other-branches q low (ap (λ o. option_map_or (nat_eq q) o false) none))
        ∙ (λ i. pairs_from 0 (sym (ended-length s place cause rs) i) (branches_with told rs' k));
    held = kept.held;
  }

  -- LAW: where one begins, they are with its branches
  pub one-begun : (q : ℕ) (bs : List Branch) (pairs' : List (ℕ × Branch)) → next ≡ Some q → branches_with told rs' k q ≡ bs → pairs' ≡ pairs_from 0 (length rs) (changed_at q bs (left_branches (also nobody s) told rs k))
      → RunsKept told nobody k rs' delays w os pairs'
  one-begun q bs pairs' is branches put = record {
    slots = slots;
    pairs_are = put ∙ pairs-same 0 (length rs) (changed_at q bs (left_branches (also nobody s) told rs k)) (branches_with told rs' k) (λ p low high. one p low (nat_eq p q) refl)
        ∙ (λ i. pairs_from 0 (sym (ended-length s place cause rs) i) (branches_with told rs' k));
    held = kept.held;
  }
    where
      one : (p : ℕ) → 0 < p → (c : Bool) → nat_eq p q ≡ c → (if c then bs else left_branches (also nobody s) told rs k p) ≡ branches_with told rs' k p
      one p low true e = sym branches ∙ ap (branches_with told rs' k) (sym (eq-of p q e))
      one p low false e = other-branches p low (ap (λ o. option_map_or (nat_eq p) o false) is ∙ e)

  -- the run that begins had no pairs
  pub none-before : (q : ℕ) → next ≡ Some q → left_branches (also nobody s) told rs k q ≡ []
  none-before q is = by (nat_eq q s)
    where
      by : (c : Bool) → left_if c told rs k q ≡ []
      by true = refl
      by false =
          (let h : Queued 0 q rs = (begun-found s 0 q rs numbered is).0 in
          (λ i. option_map_or (ready_with told k) (slice_get rs (at h i)) []) ∙ ap (λ o. option_map_or (ready_with told k) o []) h.found ∙ resting-with told k h.run (queued-rests (length k) h.run h.waits))
        where
          at : (h : Queued 0 q rs) → q - 1 ≡ h.index
          at h = omega (arith, h.place)
