-- Gates with one more entry: what is kept of them, and which of them open.
use Rattle.std.proofs.Common.{◌≡◌, ℕ, zero, suc, ◌+◌, ◌-◌, ◌<◌, ◌≤◌, ◌⊎◌, inl, inr, List, [], ◌∷◌, ◌++◌, length, map, filter, take, Bool, true, false, refl, sym, ap, subst, ◌∙◌, rules, arith}
use Rattle.std.specs.Prelude.{Option, Some, None, nat_eq, nat_le, ◌&&◌, ◌||◌, is_some, if◌then◌else◌, is_none, option_and_then, option_map}
use Rattle.std.specs.List.{list_any}
use Rattle.std.specs.Option.{option_map_or}
use Rattle.std.proofs.lemmas.Bool.Decides.{nat_tests}
use Rattle.std.proofs.lemmas.List.{take_all}
use Rattle.timer_queue.specs.Timers.{Timer, due_of}
use Rattle.ha_journal.specs.declared.entry.Entry.{Entry}
use Rattle.ha_journal.specs.Entries.{step_of}
use Rattle.ha_journal.specs.Journal.{Journal, now, more}
use Rattle.ha_sight.specs.Scripts.{Branch, Ask}
use Rattle.ha_journal.specs.Waits.{wait_end}
use Rattle.ha_journal.proofs.MoreLemmas.{length-more}
use Rattle.ha_journal.proofs.SinceLaws.{take-more}
use Rattle.ha_config.proofs.ListLemmas.{get-more}
use Rattle.ha_journal.proofs.StateLemmas.{now-snoc}
use Rattle.script_step.specs.Gates.{Gate, Fronts, opens, is_open, open_now}
use Rattle.script_step.specs.Gates.{open_branches}
use Rattle.script_step.specs.Told.{IsAsk}
use Rattle.engine_parts.specs.Waiting.{Asked, asked, ends, fresh, TellsEnds, AsksKept, EndsGrow, asked_at}
use Rattle.wait_set.specs.declared.asked.Asked as wait
use Rattle.wait_set.specs.Asked.{WaitTable as Waits, is_bare, wait_of}
use Rattle.wait_set.specs.Stands as waits
use Rattle.wait_set.proofs.BareLemmas.{bare-never}
use Rattle.engine_parts.specs.OneMore.{StaysAt, FrontsStay}
use Rattle.engine_parts.specs.Runs.{GateKept, GatesKept, first_wait}
use Rattle.ha_ready.specs.Agree.{step_at, touched}
use Rattle.engine_parts.specs.Touched.{due_places, wait_places, QueueKept}
use Rattle.ha_model.specs.Records.{next_spot, CallEnds, ask_end, spot_with}
use Rattle.ha_sight.specs.declared.waiting.WaitAsk.{WaitAsk}
use Rattle.ha_sight.specs.declared.waiting.WaitEnd.{WaitEnd}

later-now : (j : Journal) (x : Entry) → now j ≤ now (more j x)
later-now j x = omega (arith, now-snoc j x)

-- the end of a called run, as a wait has it
abbrev ends_so : ℕ → WaitEnd
ends_so q = record { place = q; done = true; remaining = None; trigger = None }

within : (j : Journal) (s p : ℕ) → step_at j s p ≡ true → p < length j
within [] s p h = absurd (let bad : ◌≡◌ {A = Bool} false true = h in cc)
within (e ∷ es) s zero h = omega arith
within (e ∷ es) s (suc p) h = omega (arith, within es s p h)

step-more : (j : Journal) (x : Entry) (s p : ℕ) → step_at j s p ≡ true → step_at (more j x) s p ≡ true
step-more j x s p h = (λ i. option_map_or (λ y. option_map_or (λ t. nat_eq t.serial s) (step_of y) false) (get-more j x p (within j s p h) i) false) ∙ h

-- what a bare wait is told: the end that is there where called runs ended so, and by the definition none where it is for no called run
bare-told : (told told' : CallEnds) (j k : Journal) (p : ℕ) (ask : Ask) (given : WaitAsk) → is_bare given ≡ true → IsAsk (now (take (suc p) j)) ask given → IsAsk (now (take (suc p) k)) ask given
    → told' p ≡ told p → ask_end told j ask p ≡ ask_end told' k ask p
bare-told told told' j k p ask given bare before behind same = by ask.called
  where
    again : (i : Journal) → IsAsk (now (take (suc p) i)) ask given → waits.IsAsk i p given ask
    again i is = record { test = is.test; triggers = is.triggers; env = is.env; due = is.due }

    by : (c : Bool) → (if c then option_map ends_so (told p) else wait_end j ask p) ≡ (if c then option_map ends_so (told' p) else wait_end k ask p)
    by true = ap (option_map ends_so) (sym same)
    by false = bare-never j p given ask bare (again j before) ∙ sym (bare-never k p given ask bare (again k behind))

-- LAW: a bare wait that just begins has not ended where nothing is told of what was called at its place
pub begins-bare : (told : CallEnds) (k : Journal) (p : ℕ) (ask : Ask) (given : WaitAsk) → is_bare given ≡ true → IsAsk (now (take (suc p) k)) ask given → told p ≡ None → ask_end told k ask p ≡ None
begins-bare told k p ask given bare is none = by ask.called
  where
    by : (c : Bool) → (if c then option_map ends_so (told p) else wait_end k ask p) ≡ None
    by true = ap (option_map ends_so) none
    by false = bare-never k p given ask bare (record { test = is.test; triggers = is.triggers; env = is.env; due = is.due })

-- LAW: what is known of a gate is known behind one more entry
pub gate-more : (told told' : CallEnds) (j : Journal) (x : Entry) → ((p : ℕ) → p < length j → told' p ≡ told p) → (delays delays' : List Timer) (w w' : Waits) (s : ℕ) (g : Branch × Gate)
    → QueueKept (now (more j x)) delays delays' → AsksKept w w' s → GateKept told j delays w s g → GateKept told' (more j x) delays' w' s g
gate-more told told' j x same delays delays' w w' s (b, Gate.Free) queue asks h = tt
gate-more told told' j x same delays delays' w w' s (b, Gate.From due) queue asks (inl early) = inl (omega (arith, early, later-now j x))
gate-more told told' j x same delays delays' w w' s (b, Gate.From due) queue asks (inr known) = by (queue known.0 due known.1)
  where
    by : (due ≤ now (more j x)) ⊎ (due_of known.0 delays' ≡ Some due) → (due ≤ now (more j x)) ⊎ ((p : ℕ) × (due_of p delays' ≡ Some due) × (step_at (more j x) s p ≡ true))
    by (inl over) = inl over
    by (inr still) = inr (known.0, still, step-more j x s known.0 known.2)
gate-more told told' j x same delays delays' w w' s (b, Gate.Behind ask p) queue asks h =
    let place : take (suc p) (more j x) ≡ take (suc p) j = take-more j x (suc p) (omega (arith, h.4)) in
    let behind : IsAsk (now (take (suc p) (more j x))) ask h.0.ask = subst (λ n. IsAsk n ask h.0.ask) (λ i. now (sym place i)) h.6 in (
      h.0,
      asks b ∙ h.1,
      h.2,
      h.3,
      omega (arith, h.4, length-more j x),
      step-more j x s p h.5,
      behind,
      λ bare. h.7 bare ∙ bare-told told told' j (more j x) p ask h.0.ask bare h.6 behind (same p h.4),
    )

pub gates-more : (told told' : CallEnds) (j : Journal) (x : Entry) → ((p : ℕ) → p < length j → told' p ≡ told p) → (delays delays' : List Timer) (w w' : Waits) (s : ℕ) (F : Fronts)
    → QueueKept (now (more j x)) delays delays' → AsksKept w w' s → GatesKept told j delays w s F → GatesKept told' (more j x) delays' w' s F
gates-more told told' j x same delays delays' w w' s [] queue asks h = tt
gates-more told told' j x same delays delays' w w' s (g ∷ F) queue asks h =
    (gate-more told told' j x same delays delays' w w' s g queue asks h.0, gates-more told told' j x same delays delays' w w' s F queue asks h.1)

-- ---- how the wait behind a gate ended

-- LAW: a wait for a called run is bare
pub called-bare : (n : ℕ) (ask : Ask) (given : WaitAsk) → IsAsk n ask given → ask.called ≡ true → is_bare given ≡ true
called-bare n ask given is calls =
    (let bare = is.bare calls in
    let no_due : given.due ≡ None = is.due ∙ (λ i. option_map (λ d. n + d) (bare.timeout i)) in
    (λ i. is_none ((is.test ∙ bare.test) i) && nat_eq (length ((is.triggers ∙ bare.triggers) i)) 0 && is_none (no_due i)))

-- a wait that asks for something is for no called run
not-called : (n : ℕ) (ask : Ask) (given : WaitAsk) → IsAsk n ask given → is_bare given ≡ false → ask.called ≡ false
not-called n ask given is full = by ask.called refl
  where
    by : (c : Bool) → ask.called ≡ c → c ≡ false
    by false e = refl
    by true e = absurd (let bad : ◌≡◌ {A = Bool} true false = sym (called-bare n ask given is e) ∙ full in cc)

-- the end of a bare wait is the one that was named
pub named-end : (w : Waits) (s : ℕ) (b : Branch) (a : Asked) → asked_at w s b ≡ Some a → is_bare a.ask ≡ true → ends w s b ≡ a.named
named-end w s b a found bare = by (wait_of s b w.asks) refl found
  where
    by : (o : Option wait.Asked) → wait_of s b w.asks ≡ o → option_map {T = wait.Asked} {U = Asked} asked o ≡ Some a → ends w s b ≡ a.named
    by None e bad = absurd (let none : ◌≡◌ {A = Option Asked} None (Some a) = bad in cc)
    by (Some x) e some =
        (let same : asked x ≡ a = cc in
        let own : is_bare x.ask ≡ true = ap (λ (y : Asked). is_bare y.ask) same ∙ bare in
        ap (λ (y : Option wait.Asked). option_and_then {T = wait.Asked} {U = WaitEnd} (λ z. z.end) y) e
        ∙ (λ i. if sym own i then x.end else None)
        ∙ ap (λ (y : Asked). y.named) same)

-- LAW: the end that is kept is the one that a place is told
pub gate-ends : (told : CallEnds) (j : Journal) (delays : List Timer) (w : Waits) (s : ℕ) → TellsEnds w j → (b : Branch) (ask : Ask) (p : ℕ) → GateKept told j delays w s (b, Gate.Behind ask p)
    → ends w s b ≡ ask_end told j ask p
gate-ends told j delays w s stands b ask p h = by (is_bare h.0.ask) refl
  where
    own : IsAsk (now (take (suc h.0.place) j)) ask h.0.ask
    own = subst (λ q. IsAsk (now (take (suc q) j)) ask h.0.ask) (sym h.2) h.6

    by : (c : Bool) → is_bare h.0.ask ≡ c → ends w s b ≡ ask_end told j ask p
    by true e = named-end w s b h.0 h.1 e ∙ h.7 e
    by false e =
        stands s b h.0 ask h.1 e own ∙ (λ i. wait_end j ask (h.2 i))
        ∙ (λ i. if sym (not-called (now (take (suc p) j)) ask h.0.ask h.6 e) i then option_map ends_so (told p) else wait_end j ask p)

-- ---- gates that stay as they are

any-append : {X : Type 0} (p : X → Bool) (xs ys : List X) → list_any p (xs ++ ys) ≡ (list_any p xs || list_any p ys)
any-append p [] ys = refl
any-append p (x ∷ xs) ys = by (p x) (any-append p xs ys)
  where
    by : (b : Bool) → list_any p (xs ++ ys) ≡ (list_any p xs || list_any p ys) → (b || list_any p (xs ++ ys)) ≡ ((b || list_any p xs) || list_any p ys)
    by true e = refl
    by false e = e

or-left : (a b : Bool) → (a || b) ≡ false → a ≡ false
or-left true b h = absurd (let bad : ◌≡◌ {A = Bool} true false = h in cc)
or-left false b h = refl

or-right : (a b : Bool) → (a || b) ≡ false → b ≡ false
or-right true b h = absurd (let bad : ◌≡◌ {A = Bool} true false = h in cc)
or-right false b h = h

eq-of : (a b : ℕ) → nat_eq a b ≡ true → a ≡ b
eq-of a b e = search (rules, e)

is-at-most : (a b : ℕ) → a ≤ b → nat_le a b ≡ true
is-at-most a b le = search rules

or-true : (b : Bool) → (b || true) ≡ true
or-true true = refl
or-true false = refl

-- a delay that is over has its place among the due ones
due-place : (test : ℕ → Bool) (at : ℕ) (delays : List Timer) (p due : ℕ) → due_of p delays ≡ Some due → due ≤ at → test p ≡ true → list_any test (due_places at delays) ≡ true
due-place test at [] p due h le passes = absurd (let bad : ◌≡◌ {A = Option ℕ} None (Some due) = h in cc)
due-place test at (t ∷ ts) p due h le passes = by (nat_eq t.1 p) refl (nat_le t.0 at) refl h (λ later. due-place test at ts p due later le passes)
  where
    by : (c : Bool) → nat_eq t.1 p ≡ c → (d : Bool) → nat_le t.0 at ≡ d → (if c then Some t.0 else due_of p ts) ≡ Some due → (due_of p ts ≡ Some due → list_any test (due_places at ts) ≡ true)
        → list_any test (map (λ (y : ℕ × ℕ). y.1) (if d then t ∷ filter (λ y. nat_le y.0 at) ts else filter (λ y. nat_le y.0 at) ts)) ≡ true
    by true e true f h' rec = (λ i. test (eq-of t.1 p e i) || list_any test (due_places at ts)) ∙ (λ i. passes i || list_any test (due_places at ts))
    by true e false f h' rec = absurd (let same : t.0 ≡ due = cc in let bad : ◌≡◌ {A = Bool} true false = sym (is-at-most t.0 at (omega (arith, same, le))) ∙ f in cc)
    by false e true f h' rec = (λ i. test t.1 || rec h' i) ∙ or-true (test t.1)
    by false e false f h' rec = rec h'

fresh-place : (test : ℕ → Bool) (owners : List ℕ) (owner p : ℕ) → owner ≡ first_wait + p → list_any (nat_eq owner) owners ≡ true → test p ≡ true → list_any test (wait_places owners) ≡ true
fresh-place test [] owner p at h passes = absurd (let bad : ◌≡◌ {A = Bool} false true = h in cc)
fresh-place test (o ∷ os) owner p at h passes = by (nat_eq owner o) refl h (λ later. fresh-place test os owner p at later passes)
  where
    by : (c : Bool) → nat_eq owner o ≡ c → (c || list_any (nat_eq owner) os) ≡ true → (list_any (nat_eq owner) os ≡ true → list_any test (wait_places os) ≡ true) → (test (o - first_wait) || list_any test (wait_places os)) ≡ true
    by true e h' rec =
        let place : o - first_wait ≡ p = omega (arith, at, eq-of owner o e) in
        (λ i. test (place i) || list_any test (wait_places os)) ∙ (λ i. passes i || list_any test (wait_places os))
    by false e h' rec = (λ i. test (o - first_wait) || rec h' i) ∙ or-true (test (o - first_wait))

or-false : (b : Bool) → (b || false) ≡ b
or-false true = refl
or-false false = refl

at-most-of : (a b : ℕ) → nat_le a b ≡ true → a ≤ b
at-most-of a b e = search (rules, e)

not-yet : (due a b : ℕ) → a ≤ b → nat_le due b ≡ false → nat_le due a ≡ false
not-yet due a b le e = grind (arith, nat_tests)

pub next-now : (j : Journal) (b : Branch) → (next_spot j b).sight.now ≡ now j
next-now j b = (λ i. now (take_all (length j) j (omega arith) i))

false-of : (b : Bool) → (b ≡ true → ⊥) → b ≡ false
false-of true h = absurd (h refl)
false-of false h = refl

module _ (told told' : CallEnds) (j : Journal) (x : Entry) (same : (p : ℕ) → p < length j → told' p ≡ told p) (delays : List Timer) (w w' : Waits) (s : ℕ) (stood : TellsEnds w j) (stands : TellsEnds w' (more j x))
    (asks : AsksKept w w' s) (grow : EndsGrow w w' s) where
  abbrev k : Journal
  k = more j x

  abbrev left : List ℕ
  left = due_places (now k) delays ++ wait_places (fresh w')

  -- LAW: a gate of a run that the entry does not touch stays as it was
  pub gate-stays : touched k left s ≡ false → (g : Branch × Gate) → GateKept told j delays w s g → StaysAt told told' j k g
  gate-stays none (b, Gate.Free) h = refl
  gate-stays none (b, Gate.From due) (inl early) =
      (λ i. nat_le due (next-now k b i)) ∙ is-at-most due (now k) (omega (arith, early, later-now j x)) ∙ sym (is-at-most due (now j) early) ∙ (λ i. nat_le due (sym (next-now j b) i))
  gate-stays none (b, Gate.From due) (inr known) =
      (λ i. nat_le due (next-now k b i)) ∙ by (nat_le due (now k)) refl ∙ (λ i. nat_le due (sym (next-now j b) i))
    where
      by : (c : Bool) → nat_le due (now k) ≡ c → nat_le due (now k) ≡ nat_le due (now j)
      by true e =
          let over : list_any (step_at k s) (due_places (now k) delays) ≡ true = due-place (step_at k s) (now k) delays known.0 due known.1 (at-most-of due (now k) e) (step-more j x s known.0 known.2) in
          let apart : list_any (step_at k s) (due_places (now k) delays) ≡ false = or-left (list_any (step_at k s) (due_places (now k) delays)) (list_any (step_at k s) (wait_places (fresh w'))) (sym (any-append (step_at k s) (due_places (now k) delays) (wait_places (fresh w'))) ∙ none) in
          absurd (let bad : ◌≡◌ {A = Bool} true false = sym over ∙ apart in cc)
      by false e = e ∙ sym (not-yet due (now j) (now k) (later-now j x) e)
  gate-stays none (b, Gate.Behind ask p) h =
      let before : ends w s b ≡ ask_end told j ask p = gate-ends told j delays w s stood b ask p h in
      let moved : GateKept told' k delays w' s (b, Gate.Behind ask p) = gate-more told told' j x same delays delays w w' s (b, Gate.Behind ask p) (λ q due e. inr e) asks h in
      let after : ends w' s b ≡ ask_end told' k ask p = gate-ends told' k delays w' s stands b ask p moved in
      let at : step_at k s p ≡ true = step-more j x s p h.5 in
      let apart : list_any (step_at k s) (wait_places (fresh w')) ≡ false = or-right (list_any (step_at k s) (due_places (now k) delays)) (list_any (step_at k s) (wait_places (fresh w'))) (sym (any-append (step_at k s) (due_places (now k) delays) (wait_places (fresh w'))) ∙ none) in
      let old : list_any (nat_eq h.0.owner) (fresh w') ≡ false = false-of (list_any (nat_eq h.0.owner) (fresh w')) (λ now_there. let bad : ◌≡◌ {A = Bool} true false = sym (fresh-place (step_at k s) (fresh w') h.0.owner p h.3 now_there at) ∙ apart in cc) in
      (λ i. is_some (sym after i)) ∙ grow b h.0 h.1 ∙ (λ i. is_some (ends w s b) || old i) ∙ or-false (is_some (ends w s b)) ∙ (λ i. is_some (before i))

  pub gates-stay : touched k left s ≡ false → (F : Fronts) → GatesKept told j delays w s F → FrontsStay told told' j k F
  gates-stay none [] h = tt
  gates-stay none (g ∷ F) h = (gate-stays none g h.0, gates-stay none F h.1)

-- ---- which branches are open, by what is known of the gates

open-one : (told : CallEnds) (j : Journal) (delays : List Timer) (w : Waits) (s : ℕ) → TellsEnds w j → (g : Branch × Gate) → GateKept told j delays w s g
    → opens g.1 (spot_with told j g.0) ≡ is_open (now j) (ends w s g.0) g.1
open-one told j delays w s stands (b, Gate.Free) h = refl
open-one told j delays w s stands (b, Gate.From due) h = (λ i. nat_le due (next-now j b i))
open-one told j delays w s stands (b, Gate.Behind ask p) h = (λ i. is_some (sym (gate-ends told j delays w s stands b ask p h) i))

-- LAW: the fronts whose gates are open at a journal are those that are open at its Now and by the ends of waits that are kept
pub open-kept : (told : CallEnds) (j : Journal) (delays : List Timer) (w : Waits) (s : ℕ) → TellsEnds w j → (F : Fronts) → GatesKept told j delays w s F
    → open_branches (spot_with told j) F ≡ open_now (now j) (ends w s) F
open-kept told j delays w s stands [] h = refl
open-kept told j delays w s stands (g ∷ F) h =
    (λ i. map (λ y. y.0) (if open-one told j delays w s stands g h.0 i then g ∷ filter (λ y. opens y.1 (spot_with told j y.0)) F else filter (λ y. opens y.1 (spot_with told j y.0)) F))
    ∙ by (is_open (now j) (ends w s g.0) g.1) (open-kept told j delays w s stands F h.1)
  where
    by : (c : Bool) → open_branches (spot_with told j) F ≡ open_now (now j) (ends w s) F
        → map (λ (y : Branch × Gate). y.0) (if c then g ∷ filter (λ y. opens y.1 (spot_with told j y.0)) F else filter (λ y. opens y.1 (spot_with told j y.0)) F)
        ≡ map (λ (y : Branch × Gate). y.0) (if c then g ∷ filter (λ y. is_open (now j) (ends w s y.0) y.1) F else filter (λ y. is_open (now j) (ends w s y.0) y.1) F)
    by true e = (λ i. g.0 ∷ e i)
    by false e = e
