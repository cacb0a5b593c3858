-- The waits of runs where one of them is finished.
use Rattle.std.proofs.Common.{◌≡◌, ℕ, List, [], ◌∷◌, length, map, filter, Bool, true, false, refl, sym, ap, ◌∙◌, rules, true≢false}
use Rattle.std.specs.Prelude.{Option, Some, None, ◌||◌, nat_eq, if◌then◌else◌}
use Rattle.std.specs.List.{list_any}
use Rattle.std.specs.Option.{option_map_or}
use Rattle.ha_journal.specs.Journal.{Journal}
use Rattle.ha_past.specs.Firings.{Owner}
use Rattle.ha_sight.specs.Scripts.{Branch}
use Rattle.script_calls.specs.Waiting.{Caller, Waiting, caller_of}
use Rattle.script_step.specs.declared.frames.Frames.{Frames}
use Rattle.wait_set.specs.declared.asked.Asked as wait
use Rattle.wait_set.specs.Asked.{WaitTable as Waits, finished, is_of, named_end, owners_of, wait_of, with_end}
use Rattle.wait_set.specs.Timers.{AreApart}
use Rattle.engine_parts.specs.Called.{woken_asks}
use Rattle.engine_parts.specs.Kept.{AreOwned, Owned}
use Rattle.engine_parts.specs.Pending.{AreOthers}
use Rattle.engine_parts.specs.Runs.{AreHeld}
use Rattle.trig_set.specs.declared.set.TrigSet.{TrigSet}
use Rattle.trig_set.specs.Stands as triggers
use Rattle.engine_parts.proofs.ForgetLemmas.{others-one}
use Rattle.engine_parts.proofs.ToldLemmas.{none-some}

-- ---- the waits where one is finished

pub held-finished : (s q : ℕ) (b : Branch) (k : Journal) (os : List (Option Frames)) (asks : List wait.Asked) → AreHeld k os asks → AreHeld k os (finished s b q asks)
held-finished s q b k os [] h = tt
held-finished s q b k os (a ∷ asks) h = by (is_of s b a) (held-finished s q b k os asks h.2)
  where
    alike : (r : ℕ) (c : Branch) (l : List wait.Asked) → list_any (is_of r c) (finished s b q l) ≡ list_any (is_of r c) l
    alike r c [] = refl
    alike r c (x ∷ l) = one (is_of s b x) (alike r c l)
      where
        one : (t : Bool) → list_any (is_of r c) (finished s b q l) ≡ list_any (is_of r c) l → list_any (is_of r c) (if t then with_end q x ∷ l else x ∷ finished s b q l) ≡ list_any (is_of r c) (x ∷ l)
        one true e = refl
        one false e = (λ i. is_of r c x || e i)

    by : (t : Bool) → AreHeld k os (finished s b q asks) → AreHeld k os (if t then with_end q a ∷ asks else a ∷ finished s b q asks)
    by true rest = ((λ e. absurd (none-some (named_end q) (sym e))), h.1, h.2)
    by false rest = (h.0, alike a.ask.serial a.ask.branch asks ∙ h.1, rest)

owned-finished : (s q : ℕ) (b : Branch) (n : ℕ) (owners : List Owner) (asks : List wait.Asked) → AreOwned n owners asks → AreOwned n owners (finished s b q asks)
owned-finished s q b n owners [] h = tt
owned-finished s q b n owners (a ∷ asks) h = by (is_of s b a) (owned-finished s q b n owners asks h.1)
  where
    by : (t : Bool) → AreOwned n owners (finished s b q asks) → AreOwned n owners (if t then with_end q a ∷ asks else a ∷ finished s b q asks)
    by true rest = (record { owner_is = h.0.owner_is; early = h.0.early; attached = λ e. absurd (none-some (named_end q) (sym e)) }, h.1)
    by false rest = (h.0, rest)

owners-finished : (s q : ℕ) (b : Branch) (o : ℕ) (asks : List wait.Asked) → list_any (λ a. nat_eq a.owner o) (finished s b q asks) ≡ list_any (λ a. nat_eq a.owner o) asks
owners-finished s q b o [] = refl
owners-finished s q b o (a ∷ asks) = by (is_of s b a) (owners-finished s q b o asks)
  where
    by : (t : Bool) → list_any (λ a. nat_eq a.owner o) (finished s b q asks) ≡ list_any (λ a. nat_eq a.owner o) asks
        → list_any (λ a. nat_eq a.owner o) (if t then with_end q a ∷ asks else a ∷ finished s b q asks) ≡ list_any (λ a. nat_eq a.owner o) (a ∷ asks)
    by true e = refl
    by false e = (λ i. nat_eq a.owner o || e i)

apart-finished : (s q : ℕ) (b : Branch) (asks : List wait.Asked) → AreApart asks → AreApart (finished s b q asks)
apart-finished s q b [] h = tt
apart-finished s q b (a ∷ asks) h = by (is_of s b a) (apart-finished s q b asks h.1)
  where
    by : (t : Bool) → AreApart (finished s b q asks) → AreApart (if t then with_end q a ∷ asks else a ∷ finished s b q asks)
    by true rest = (h.0, h.1)
    by false rest = (owners-finished s q b a.owner asks ∙ h.0, rest)

-- LAW: the owners of the waits of each run are the same
pub owners-woken : (r called q : ℕ) (waiting : Waiting) (asks : List wait.Asked) → owners_of r (woken_asks called q waiting asks) ≡ owners_of r asks
owners-woken r called q waiting asks = by (caller_of called waiting)
  where
    same-owners : (s : ℕ) (b : Branch) (l : List wait.Asked) → owners_of r (finished s b q l) ≡ owners_of r l
    same-owners s b [] = refl
    same-owners s b (a ∷ l) = one (is_of s b a) (same-owners s b l)
      where
        one : (t : Bool) → owners_of r (finished s b q l) ≡ owners_of r l → owners_of r (if t then with_end q a ∷ l else a ∷ finished s b q l) ≡ owners_of r (a ∷ l)
        one true e = two (nat_eq a.ask.serial r)
          where
            two : (c : Bool) → map {A = wait.Asked} {B = ℕ} (λ x. x.owner) (if c then with_end q a ∷ filter (λ x. nat_eq x.ask.serial r) l else filter (λ x. nat_eq x.ask.serial r) l)
                ≡ map {A = wait.Asked} {B = ℕ} (λ x. x.owner) (if c then a ∷ filter (λ x. nat_eq x.ask.serial r) l else filter (λ x. nat_eq x.ask.serial r) l)
            two true = refl
            two false = refl
        one false e = two (nat_eq a.ask.serial r)
          where
            two : (c : Bool) → map {A = wait.Asked} {B = ℕ} (λ x. x.owner) (if c then a ∷ filter (λ x. nat_eq x.ask.serial r) (finished s b q l) else filter (λ x. nat_eq x.ask.serial r) (finished s b q l))
                ≡ map {A = wait.Asked} {B = ℕ} (λ x. x.owner) (if c then a ∷ filter (λ x. nat_eq x.ask.serial r) l else filter (λ x. nat_eq x.ask.serial r) l)
            two true = ap (λ (n : List ℕ). a.owner ∷ n) e
            two false = e

    by : (o : Option Caller) → owners_of r (option_map_or (λ w. finished w.0 w.1 q asks) o asks) ≡ owners_of r asks
    by None = refl
    by (Some w) = same-owners w.0 w.1 asks

-- LAW: its owner is none of those whose waits are pending
pub others-finished : (s q : ℕ) (b : Branch) (x : wait.Asked) (asks : List wait.Asked) → AreApart asks → wait_of s b asks ≡ Some x → AreOthers (x.owner ∷ []) (finished s b q asks)
others-finished s q b x [] h e = tt
others-finished s q b x (a ∷ asks) h e = by (is_of s b a) e (others-finished s q b x asks h.1)
  where
    found-owner : (l : List wait.Asked) → wait_of s b l ≡ Some x → list_any (λ y. nat_eq y.owner a.owner) l ≡ false → nat_eq a.owner x.owner ≡ false
    found-owner [] is none = absurd (none-some x is)
    found-owner (y ∷ l) is none = one (is_of s b y) is (or-parts (nat_eq y.owner a.owner) (list_any (λ z. nat_eq z.owner a.owner) l) none) (found-owner l)
      where
        or-parts : (m n : Bool) → (m || n) ≡ false → (m ≡ false) × (n ≡ false)
        or-parts true n e = absurd (true≢false e)
        or-parts false n e = (refl, e)

        turned : (m n : ℕ) → nat_eq m n ≡ false → nat_eq n m ≡ false
        turned m n e = search (rules, e)

        one : (t : Bool) → (if t then Some y else wait_of s b l) ≡ Some x → (nat_eq y.owner a.owner ≡ false) × (list_any (λ z. nat_eq z.owner a.owner) l ≡ false)
            → (wait_of s b l ≡ Some x → list_any (λ z. nat_eq z.owner a.owner) l ≡ false → nat_eq a.owner x.owner ≡ false) → nat_eq a.owner x.owner ≡ false
        one true is parts rec = (let it : y ≡ x = cc in turned x.owner a.owner (ap (λ (z : wait.Asked). nat_eq z.owner a.owner) (sym it) ∙ parts.0))
        one false is parts rec = rec is parts.1

    by : (t : Bool) → (if t then Some a else wait_of s b asks) ≡ Some x → (wait_of s b asks ≡ Some x → AreOthers (x.owner ∷ []) (finished s b q asks))
        → AreOthers (x.owner ∷ []) (if t then with_end q a ∷ asks else a ∷ finished s b q asks)
    by true is rec =
        (let it : a ≡ x = cc in
        ((λ f. absurd (none-some (named_end q) (sym f))), others-one x.owner asks (ap (λ (z : wait.Asked). list_any (λ y. nat_eq y.owner z.owner) asks) (sym it) ∙ h.0)))
    by false is rec = ((λ f. (λ i. found-owner asks is h.0 i || false)), rec is)

-- LAW: the waits are owned as before
pub owned-woken : (s q : ℕ) (b : Branch) (k : Journal) (t : TrigSet) (w : Waits) → Owned k t w → Owned k t (record { asks = finished s b q w.asks; fresh = w.fresh })
owned-woken s q b k t w h = record {
  automations_attached = h.automations_attached;
  ascend = h.ascend;
  early = h.early;
  waits_owned = owned-finished s q b (length k) (triggers.attached t) w.asks h.waits_owned;
  apart = apart-finished s q b w.asks h.apart;
}
