-- A run that goes.
use Rattle.std.proofs.Common.{◌≡◌, ℕ, zero, suc, ◌+◌, ◌-◌, ◌<◌, ◌≤◌, inl, List, [], ◌∷◌, ◌++◌, length, map, filter, set, Bool, true, false, refl, sym, ap, subst, ◌∙◌, rules, arith}
use Rattle.std.specs.Prelude.{Option, Some, None, not, nat_eq, slice_get, option_map, ◌||◌, if◌then◌else◌}
use Rattle.std.specs.List.{list_any}
use Rattle.timer_queue.specs.Timers.{Timer}
use Rattle.ha_model.specs.declared.record.Record.{Record}
use Rattle.ha_journal.specs.Journal.{Journal}
use Rattle.ha_sight.specs.Scripts.{Branch}
use Rattle.ha_model.specs.Records.{Records, CallEnds}
use Rattle.run_modes.specs.Fits.{AreNumbered}
use Rattle.script_step.specs.declared.frames.Frames.{Frames}
use Rattle.ha_past.specs.Firings.{Owner}
use Rattle.trig_set.specs.declared.set.TrigSet.{TrigSet}
use Rattle.trig_set.specs.Stands as triggers
use Rattle.wait_set.specs.declared.asked.Asked as wait
use Rattle.wait_set.specs.Asked.{WaitTable, owners_of, wait_of, without_run}
use Rattle.wait_set.specs.Timers.{AreApart}
use Rattle.wait_set.specs.Stands as waits
use Rattle.wait_set.proofs.FindLemmas.{wait-dropped}
use Rattle.engine_parts.specs.Waiting.{Asked, asked, AsksKept}
use Rattle.engine_parts.specs.Pending.{AreOthers}
use Rattle.engine_parts.specs.Kept.{AreOwned, Owned, Gone, RunsKept, SlotBut, slot_if, left_branches, left_if}
use Rattle.ha_ready.specs.ReadyPairs.{changed_at, pairs_of, pairs_from}
use Rattle.engine_parts.specs.Records.{also}
use Rattle.engine_parts.specs.Runs.{AreHeld, SlotsWith, first_wait}
use Rattle.ha_ready.proofs.ReadyLemmas.{pairs-same}
use Rattle.engine_parts.proofs.SlotChangeLemmas.{slot-changed}

or-left : (a b : Bool) → (a || b) ≡ false → a ≡ false
or-left true b h = absurd (let bad : ◌≡◌ {A = Bool} true false = h in cc)
or-left false b h = refl

or-right : (a b : Bool) → (a || b) ≡ false → b ≡ false
or-right true b h = absurd (let bad : ◌≡◌ {A = Bool} true false = h in cc)
or-right false b h = h

or-false : (a b : Bool) → a ≡ false → b ≡ false → (a || b) ≡ false
or-false a b p q = (λ i. p i || q i)

-- ---- its waits

none-without : (s o : ℕ) (asks : List wait.Asked) → list_any (λ b. nat_eq b.owner o) asks ≡ false → list_any (λ b. nat_eq b.owner o) (without_run s asks) ≡ false
none-without s o [] h = refl
none-without s o (a ∷ asks) h = by (nat_eq a.ask.serial s) (none-without s o asks (or-right (nat_eq a.owner o) (list_any (λ b. nat_eq b.owner o) asks) h))
  where
    by : (c : Bool) → list_any (λ b. nat_eq b.owner o) (without_run s asks) ≡ false → list_any (λ b. nat_eq b.owner o) (if not c then a ∷ without_run s asks else without_run s asks) ≡ false
    by true e = e
    by false e = or-false (nat_eq a.owner o) (list_any (λ b. nat_eq b.owner o) (without_run s asks)) (or-left (nat_eq a.owner o) (list_any (λ b. nat_eq b.owner o) asks) h) e

-- the owner of one of a run's waits is none that no wait has
owner-other : (s i o c : ℕ) (asks : List wait.Asked) → slice_get (owners_of s asks) i ≡ Some o → list_any (λ b. nat_eq b.owner c) asks ≡ false → nat_eq c o ≡ false
owner-other s i o c [] e h = absurd (let bad : ◌≡◌ {A = Option ℕ} None (Some o) = e in cc)
owner-other s i o c (a ∷ asks) e h = by (nat_eq a.ask.serial s) i e (λ n later. owner-other s n o c asks later (or-right (nat_eq a.owner c) (list_any (λ b. nat_eq b.owner c) asks) h))
  where
    turned : (a c o : ℕ) → a ≡ o → nat_eq a c ≡ false → nat_eq c o ≡ false
    turned a c o e h = search (rules, e, h)

    by : (d : Bool) (i : ℕ) → slice_get (map {A = wait.Asked} {B = ℕ} (λ b. b.owner) (if d then a ∷ filter (λ b. nat_eq b.ask.serial s) asks else filter (λ b. nat_eq b.ask.serial s) asks)) i ≡ Some o
        → ((n : ℕ) → slice_get (owners_of s asks) n ≡ Some o → nat_eq c o ≡ false) → nat_eq c o ≡ false
    by true zero is rec = (let same : a.owner ≡ o = cc in turned a.owner c o same (or-left (nat_eq a.owner c) (list_any (λ b. nat_eq b.owner c) asks) h))
    by true (suc n) is rec = rec n is
    by false n is rec = rec n is

-- LAW: the owners of a run's waits are owners of waits, and no other wait has them
pub owners-apart : (s n : ℕ) (owners : List Owner) (asks : List wait.Asked) → AreApart asks → AreOwned n owners asks → (i o : ℕ) → slice_get (owners_of s asks) i ≡ Some o
    → (first_wait ≤ o) × (list_any (λ b. nat_eq b.owner o) (without_run s asks) ≡ false)
owners-apart s n owners [] apart owned i o e = absurd (let bad : ◌≡◌ {A = Option ℕ} None (Some o) = e in cc)
owners-apart s n owners (a ∷ asks) apart owned i o e = by (nat_eq a.ask.serial s) i e (owners-apart s n owners asks apart.1 owned.1) (λ m later. owner-other s m o a.owner asks later apart.0)
  where
    by : (d : Bool) (i : ℕ) → slice_get (map {A = wait.Asked} {B = ℕ} (λ b. b.owner) (if d then a ∷ filter (λ b. nat_eq b.ask.serial s) asks else filter (λ b. nat_eq b.ask.serial s) asks)) i ≡ Some o
        → ((m p : ℕ) → slice_get (owners_of s asks) m ≡ Some p → (first_wait ≤ p) × (list_any (λ b. nat_eq b.owner p) (without_run s asks) ≡ false))
        → ((m : ℕ) → slice_get (owners_of s asks) m ≡ Some o → nat_eq a.owner o ≡ false)
        → (first_wait ≤ o) × (list_any (λ b. nat_eq b.owner o) (if not d then a ∷ without_run s asks else without_run s asks) ≡ false)
    by true zero is rec other =
        (let same : a.owner ≡ o = cc in
        (omega (arith, same, owned.0.owner_is), none-without s o asks (subst (λ q. list_any (λ b. nat_eq b.owner q) asks ≡ false) same apart.0)))
    by true (suc m) is rec other = rec m o is
    by false m is rec other = (let later = rec m o is in (later.0, or-false (nat_eq a.owner o) (list_any (λ b. nat_eq b.owner o) (without_run s asks)) (other m is) later.1))

-- LAW: so none of the others is theirs
pub others-one : (o : ℕ) (asks : List wait.Asked) → list_any (λ b. nat_eq b.owner o) asks ≡ false → AreOthers (o ∷ []) asks
others-one o [] h = tt
others-one o (a ∷ asks) h =
    ((λ e. or-false (nat_eq a.owner o) false (or-left (nat_eq a.owner o) (list_any (λ b. nat_eq b.owner o) asks) h) refl), others-one o asks (or-right (nat_eq a.owner o) (list_any (λ b. nat_eq b.owner o) asks) h))

apart-without : (s : ℕ) (asks : List wait.Asked) → AreApart asks → AreApart (without_run s asks)
apart-without s [] h = tt
apart-without s (a ∷ asks) h = by (nat_eq a.ask.serial s) (apart-without s asks h.1)
  where
    by : (c : Bool) → AreApart (without_run s asks) → AreApart (if not c then a ∷ without_run s asks else without_run s asks)
    by true rest = rest
    by false rest = (none-without s a.owner asks h.0, rest)

owned-dropped : (s n : ℕ) (owners : List Owner) (asks : List wait.Asked) → AreOwned n owners asks → AreOwned n owners (without_run s asks)
owned-dropped s n owners [] h = tt
owned-dropped s n owners (a ∷ asks) h = by (nat_eq a.ask.serial s) (owned-dropped s n owners asks h.1)
  where
    by : (c : Bool) → AreOwned n owners (without_run s asks) → AreOwned n owners (if not c then a ∷ without_run s asks else without_run s asks)
    by true rest = rest
    by false rest = (h.0, rest)

-- LAW: the other waits are owned
pub owned-left : (s : ℕ) (j : Journal) (t : TrigSet) (w : WaitTable) → Owned j t w → Owned j t (record { asks = without_run s w.asks; fresh = w.fresh })
owned-left s j t w owned = record {
  automations_attached = owned.automations_attached;
  ascend = owned.ascend;
  early = owned.early;
  waits_owned = owned-dropped s (length j) (triggers.attached t) w.asks owned.waits_owned;
  apart = apart-without s w.asks owned.apart;
}

-- LAW: and the asks of other runs are the same
pub asks-left : (s : ℕ) (w : WaitTable) (q : ℕ) → nat_eq q s ≡ false → AsksKept w (record { asks = without_run s w.asks; fresh = w.fresh }) q
asks-left s w q other b = ap (option_map {T = wait.Asked} {U = Asked} asked) (wait-dropped s q b w.asks ∙ (λ i. if other i then None else wait_of q b w.asks))

-- ---- its slot

module _ (told : CallEnds) (gone : Gone) (s : ℕ) (k : Journal) (delays : List Timer) (w w' : WaitTable) (asks : (q : ℕ) → nat_eq q s ≡ false → AsksKept w w' q) where
  or-none : (b : Bool) → (b || false) ≡ b
  or-none true = refl
  or-none false = refl

  or-all : (b : Bool) → (b || true) ≡ true
  or-all true = refl
  or-all false = refl

  other-slot : (r : Record) (o : Option Frames) → nat_eq r.serial s ≡ false → SlotBut gone told k delays w r o → SlotBut (also gone s) told k delays w' r o
  other-slot r o apart h = subst (λ b. slot_if (gone r.serial || b) told k delays w' r o) (sym apart) (subst (λ b. slot_if b told k delays w' r o) (sym (or-none (gone r.serial))) (by (gone r.serial) h))
    where
      by : (b : Bool) → slot_if b told k delays w r o → slot_if b told k delays w' r o
      by true e = e
      by false e = slot-changed told k delays w w' r r o o (record { serial = refl; automation = refl; env = refl }, inl (refl, refl)) (λ none. asks r.serial apart) e

  own-slot : (r : Record) → nat_eq r.serial s ≡ true → SlotBut (also gone s) told k delays w' r None
  own-slot r own = subst (λ b. slot_if (gone r.serial || b) told k delays w' r None) (sym own) (subst (λ b. slot_if b told k delays w' r None) (sym (or-all (gone r.serial))) refl)

  is-not : (a b : ℕ) → (a ≡ b → ⊥) → nat_eq a b ≡ false
  is-not a b h = search (rules, h)

  is-so : (a b : ℕ) → a ≡ b → nat_eq a b ≡ true
  is-so a b h = search (rules, h)

  slots-behind : (n : ℕ) (rs : Records) (os : List (Option Frames)) → AreNumbered n rs → s ≤ n → SlotsWith (SlotBut gone told k delays w) rs os → SlotsWith (SlotBut (also gone s) told k delays w') rs os
  slots-behind n [] [] num le h = tt
  slots-behind n [] (o ∷ os) num le h = absurd h
  slots-behind n (r ∷ rs) [] num le h = absurd h
  slots-behind n (r ∷ rs) (o ∷ os) num le h = (other-slot r o (is-not r.serial s (λ e. omega (arith, e, num.0, le))) h.0, slots-behind (suc n) rs os num.1 (omega (arith, le)) h.1)

  -- LAW: its slot is emptied, and the others stay
  pub slots-cleared : (n i : ℕ) (rs : Records) (os : List (Option Frames)) → AreNumbered n rs → s ≡ suc (n + i) → SlotsWith (SlotBut gone told k delays w) rs os → SlotsWith (SlotBut (also gone s) told k delays w') rs (set os i None)
  slots-cleared n i [] [] num at h = tt
  slots-cleared n i [] (o ∷ os) num at h = absurd h
  slots-cleared n i (r ∷ rs) [] num at h = absurd h
  slots-cleared n zero (r ∷ rs) (o ∷ os) num at h = (own-slot r (is-so r.serial s (omega (arith, num.0, at))), slots-behind (suc n) rs os num.1 (omega (arith, at)) h.1)
  slots-cleared n (suc i) (r ∷ rs) (o ∷ os) num at h =
      (other-slot r o (is-not r.serial s (λ e. omega (arith, e, num.0, at))) h.0, slots-cleared (suc n) i rs os num.1 (omega (arith, at)) h.1)

-- ---- its pairs

-- the pairs of a run without those of a serial
kept-pairs : (s q : ℕ) (bs : List Branch) → nat_eq q s ≡ false → filter (λ (x : ℕ × Branch). not (nat_eq x.0 s)) (pairs_of q bs) ≡ pairs_of q bs
kept-pairs s q [] e = refl
kept-pairs s q (b ∷ bs) e = (λ i. if not (e i) then (q, b) ∷ filter (λ (x : ℕ × Branch). not (nat_eq x.0 s)) (pairs_of q bs) else filter (λ (x : ℕ × Branch). not (nat_eq x.0 s)) (pairs_of q bs)) ∙ ap (λ l. (q, b) ∷ l) (kept-pairs s q bs e)

lost-pairs : (s q : ℕ) (bs : List Branch) → nat_eq q s ≡ true → filter (λ (x : ℕ × Branch). not (nat_eq x.0 s)) (pairs_of q bs) ≡ []
lost-pairs s q [] e = refl
lost-pairs s q (b ∷ bs) e = (λ i. if not (e i) then (q, b) ∷ filter (λ (x : ℕ × Branch). not (nat_eq x.0 s)) (pairs_of q bs) else filter (λ (x : ℕ × Branch). not (nat_eq x.0 s)) (pairs_of q bs)) ∙ lost-pairs s q bs e

filter-append : {X : Type 0} (p : X → Bool) (xs ys : List X) → filter p (xs ++ ys) ≡ filter p xs ++ filter p ys
filter-append p [] ys = refl
filter-append p (x ∷ xs) ys = by (p x) (filter-append p xs ys)
  where
    by : (b : Bool) → filter p (xs ++ ys) ≡ filter p xs ++ filter p ys → (if b then x ∷ filter p (xs ++ ys) else filter p (xs ++ ys)) ≡ (if b then x ∷ filter p xs else filter p xs) ++ filter p ys
    by true e = ap (λ l. x ∷ l) e
    by false e = e

-- LAW: the pairs without those of a run
pub pairs-without : (s n m : ℕ) (by : ℕ → List Branch) → filter (λ (x : ℕ × Branch). not (nat_eq x.0 s)) (pairs_from n m by) ≡ pairs_from n m (changed_at s [] by)
pairs-without s n zero by = refl
pairs-without s n (suc m) by =
    filter-append (λ (x : ℕ × Branch). not (nat_eq x.0 s)) (pairs_of (suc n) (by (suc n))) (pairs_from (suc n) m by)
    ∙ (λ i. one (nat_eq (suc n) s) refl i ++ pairs-without s (suc n) m by i)
  where
    one : (b : Bool) → nat_eq (suc n) s ≡ b → filter (λ (x : ℕ × Branch). not (nat_eq x.0 s)) (pairs_of (suc n) (by (suc n))) ≡ pairs_of (suc n) (if b then [] else by (suc n))
    one true e = lost-pairs s (suc n) (by (suc n)) e
    one false e = kept-pairs s (suc n) (by (suc n)) e

-- ---- all of it

module _ (told : CallEnds) (gone : Gone) (s : ℕ) (k : Journal) (rs : Records) (numbered : AreNumbered 0 rs) (low : 0 < s) where
  left-also : (q : ℕ) → changed_at s [] (left_branches gone told rs k) q ≡ left_branches (also gone s) told rs k q
  left-also q = by (gone q) (nat_eq q s)
    where
      by : (b c : Bool) → (if c then [] else left_if b told rs k q) ≡ left_if (b || c) told rs k q
      by true true = refl
      by true false = refl
      by false true = refl
      by false false = refl

  -- LAW: the run went
  pub run-gone : (delays : List Timer) (w w' : WaitTable) (os : List (Option Frames)) (pairs : List (ℕ × Branch)) → ((q : ℕ) → nat_eq q s ≡ false → AsksKept w w' q)
      → (AreHeld k os w.asks → AreHeld k (set os (s - 1) None) w'.asks) → RunsKept told gone k rs delays w os pairs
      → RunsKept told (also gone s) k rs delays w' (set os (s - 1) None) (filter (λ (x : ℕ × Branch). not (nat_eq x.0 s)) pairs)
  run-gone delays w w' os pairs asks held kept = record {
    slots = slots-cleared told gone s k delays w w' asks 0 (s - 1) rs os numbered (omega (arith, low)) kept.slots;
    pairs_are = ap (filter (λ (x : ℕ × Branch). not (nat_eq x.0 s))) kept.pairs_are ∙ pairs-without s 0 (length rs) (left_branches gone told rs k)
        ∙ pairs-same 0 (length rs) (changed_at s [] (left_branches gone told rs k)) (left_branches (also gone s) told rs k) (λ q lo hi. left-also q);
    held = held kept.held;
  }

pub slots-length : (P : Record → Option Frames → Type 0) (rs : Records) (os : List (Option Frames)) → SlotsWith P rs os → length os ≡ length rs
slots-length P [] [] h = refl
slots-length P [] (o ∷ os) h = absurd h
slots-length P (r ∷ rs) [] h = absurd h
slots-length P (r ∷ rs) (o ∷ os) h = ap suc (slots-length P rs os h.1)
