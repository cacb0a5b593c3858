-- Where a called run ends: the others wait as before, and the branch of the run that waits for it goes on.
use Rattle.std.proofs.Common.{◌≡◌, ℕ, suc, List, [], ◌∷◌, map, filter, take, Bool, true, false, refl, sym, ap, subst, ◌∙◌, true≢false}
use Rattle.std.specs.Prelude.{Option, Some, None, ◌&&◌, bytes_eq, find, is_some, nat_eq, option_map, if◌then◌else◌}
use Rattle.timer_queue.specs.Timers.{Timer}
use Rattle.ha_config.specs.Words.{comes_before, or_else, same}
use Rattle.ha_config.proofs.EqualLemmas.{same-refl, same-sound}
use Rattle.ha_journal.specs.Journal.{Journal, now}
use Rattle.ha_journal.specs.Waits.{wait_end}
use Rattle.ha_model.specs.Records.{CallEnds, Records, ask_end, spot_with, spots}
use Rattle.ha_sight.specs.declared.waiting.WaitEnd.{WaitEnd}
use Rattle.ha_sight.specs.Scripts.{Ask, Branch, Spot}
use Rattle.script_calls.specs.Waiting.{Caller, Waiting, caller_of}
use Rattle.script_step.specs.declared.frames.Frames.{Frames}
use Rattle.script_step.specs.Gates.{Fronts, Gate, gate_at, open_branches, opens}
use Rattle.script_step.proofs.ListedLemmas.{found-front, names, same-true, stands-in}
use Rattle.script_step.proofs.OrderLemmas.{AllAfter, Ascends, In, after-in, irrefl, trans}
use Rattle.wait_set.specs.declared.asked.Asked as wait
use Rattle.wait_set.specs.Asked.{WaitTable as Waits, finished, is_bare, is_of, named_end, wait_of, with_end}
use Rattle.engine_parts.specs.Called.{AreAwaited, CallsKept, IsAwaited, IsCaller, SlotAwaited, called_by, placed, told_after}
use Rattle.engine_parts.specs.Fronts.{fronts}
use Rattle.engine_parts.specs.OneMore.{StaysAt}
use Rattle.engine_parts.specs.Runs.{GateKept, GatesKept}
use Rattle.engine_parts.specs.Waiting.{Asked, asked, asked_at}
use Rattle.engine_parts.proofs.CalledLemmas.{each-map}
use Rattle.engine_parts.proofs.GateLemmas.{called-bare}
use Rattle.engine_parts.proofs.ToldLemmas.{apart, eq-of, none-some, self}

abbrev pub ends_so : ℕ → WaitEnd
ends_so q = record { place = q; done = true; remaining = None; trigger = None }

-- neither gives an end
or-nothing : (o : Option ℕ) (c : Bool) (q : ℕ) → or_else o (if c then Some q else None) ≡ None → (o ≡ None) × (c ≡ false)
or-nothing (Some n) c q h = absurd (none-some n (sym h))
or-nothing None true q h = absurd (none-some q (sym h))
or-nothing None false q h = (refl, refl)

module _ (told : CallEnds) (k : Journal) (rs : Records) (called q : ℕ) (waiting : Waiting) where
  abbrev pub so : CallEnds
  so = told_after called q told rs

  -- ---- who waits

  -- who waits for another run is the same
  others-wait : (waiting' : Waiting) → ((c : ℕ) → caller_of c waiting' ≡ (if nat_eq called c then None else caller_of c waiting)) → (c : ℕ) → nat_eq c called ≡ false → caller_of c waiting' ≡ caller_of c waiting
  others-wait waiting' rest c off = rest c ∙ (λ i. if apart called c (λ e. true≢false (sym (self c called (sym e)) ∙ off)) i then None else caller_of c waiting)

  awaited-after : (waiting' : Waiting) → ((c : ℕ) → caller_of c waiting' ≡ (if nat_eq called c then None else caller_of c waiting)) → (s : ℕ) (F : Fronts)
      → AreAwaited told rs waiting s F → AreAwaited so rs waiting' s F
  awaited-after waiting' rest s [] h = tt
  awaited-after waiting' rest s (x ∷ F) h = (one x h.0, awaited-after waiting' rest s F h.1)
    where
      one : (x : Branch × Gate) → IsAwaited told rs waiting s x → IsAwaited so rs waiting' s x
      one (b, Gate.Free) g = tt
      one (b, Gate.From due) g = tt
      one (b, Gate.Behind ask p) g = λ calls none.
          (let parts = or-nothing (told p) (nat_eq (called_by rs p) called) q none in
          others-wait waiting' rest (called_by rs p) parts.1 ∙ g calls parts.0)

  -- LAW: behind the end the others wait as before
  pub calls-after : (waiting' : Waiting) → ((c : ℕ) → caller_of c waiting' ≡ (if nat_eq called c then None else caller_of c waiting)) → (os : List (Option Frames))
      → CallsKept told k rs waiting os → CallsKept so k rs waiting' os
  calls-after waiting' rest os h = record {
    awaited = each-map (SlotAwaited told rs waiting k) (SlotAwaited so rs waiting' k) 0 os (λ s f lt e g. awaited-after waiting' rest s (fronts f (spots k s)) g) h.awaited;
    callers = λ c s b e. by c s b (nat_eq called c) refl (sym (rest c) ∙ e);
  }
    where
      by : (c s : ℕ) (b : Branch) (t : Bool) → nat_eq called c ≡ t → (if nat_eq called c then None else caller_of c waiting) ≡ Some (s, b) → IsCaller so k rs os c s b
      by c s b true f e = absurd (none-some (s, b) ((λ i. if sym f i then None else caller_of c waiting) ∙ e))
      by c s b false f e =
          (let old = h.callers c s b ((λ i. if sym f i then None else caller_of c waiting) ∙ e) in
          let other : nat_eq (called_by rs old.place) called ≡ false = apart (called_by rs old.place) called (λ is. true≢false (sym (self called c (sym is ∙ sym old.called_is)) ∙ f)) in
          record {
            low = old.low;
            run = old.run;
            found = old.found;
            running = old.running;
            frames = old.frames;
            there = old.there;
            ask = old.ask;
            place = old.place;
            gate = old.gate;
            calls = old.calls;
            called_is = old.called_is;
            opened = (λ i. or_else (old.opened i) (if other i then Some q else None));
          })

  -- ---- what a front of another run or branch asks for

  ask-stays : (s : ℕ) (b : Branch) (ask : Ask) (p : ℕ) → IsAwaited told rs waiting s (b, Gate.Behind ask p) → (caller_of called waiting ≡ Some (s, b) → ⊥) → ask_end so k ask p ≡ ask_end told k ask p
  ask-stays s b ask p h not-it = by ask.called refl
    where
      one : ask.called ≡ true → (o : Option ℕ) → told p ≡ o → (c : Bool) → nat_eq (called_by rs p) called ≡ c → so p ≡ told p
      one on (Some n) e c f = (λ i. or_else (e i) (if nat_eq (called_by rs p) called then Some q else None)) ∙ sym e
      one on None e true f = absurd (not-it (ap (λ c. caller_of c waiting) (sym (eq-of (called_by rs p) called f)) ∙ h on e))
      one on None e false f = (λ i. or_else (e i) (if f i then Some q else None)) ∙ sym e

      by : (c : Bool) → ask.called ≡ c → (if c then option_map ends_so (so p) else wait_end k ask p) ≡ (if c then option_map ends_so (told p) else wait_end k ask p)
      by true e = ap (option_map ends_so) (one e (told p) refl (nat_eq (called_by rs p) called) refl)
      by false e = refl

  stays-open : (s : ℕ) (x : Branch × Gate) → IsAwaited told rs waiting s x → (caller_of called waiting ≡ Some (s, x.0) → ⊥) → StaysAt told so k k x
  stays-open s (b, Gate.Free) h not-it = refl
  stays-open s (b, Gate.From due) h not-it = refl
  stays-open s (b, Gate.Behind ask p) h not-it = ap is_some (ask-stays s b ask p h not-it)

  module _ (delays : List Timer) (w w' : Waits) (s : ℕ) (asks : (c : Branch) → (caller_of called waiting ≡ Some (s, c) → ⊥) → asked_at w' s c ≡ asked_at w s c) where
    gate-stays : (x : Branch × Gate) → IsAwaited told rs waiting s x → (caller_of called waiting ≡ Some (s, x.0) → ⊥) → GateKept told k delays w s x → GateKept so k delays w' s x
    gate-stays (b, Gate.Free) h not-it g = tt
    gate-stays (b, Gate.From due) h not-it g = g
    gate-stays (b, Gate.Behind ask p) h not-it g = (g.0, asks b not-it ∙ g.1, g.2, g.3, g.4, g.5, g.6, λ bare. g.7 bare ∙ sym (ask-stays s b ask p h not-it))

    -- where none of the branches is the one that goes on
    abbrev pub NoneGoes : Fronts → Type 0
    NoneGoes [] = Unit {0}
    NoneGoes (x ∷ F) = (caller_of called waiting ≡ Some (s, x.0) → ⊥) × NoneGoes F

    pub gates-stay : (F : Fronts) → AreAwaited told rs waiting s F → NoneGoes F → GatesKept told k delays w s F → GatesKept so k delays w' s F
    gates-stay [] h none g = tt
    gates-stay (x ∷ F) h none g = (gate-stays x h.0 none.0 g.0, gates-stay F h.1 none.1 g.1)

    pub open-stays : (F : Fronts) → AreAwaited told rs waiting s F → NoneGoes F → open_branches (spot_with so k) F ≡ open_branches (spot_with told k) F
    open-stays [] h none = refl
    open-stays (x ∷ F) h none =
        (λ i. map (λ y. y.0) (if stays-open s x h.0 none.0 i then x ∷ filter (λ y. opens y.1 (spot_with so k y.0)) F else filter (λ y. opens y.1 (spot_with so k y.0)) F))
        ∙ by (opens x.1 (spot_with told k x.0)) (open-stays F h.1 none.1)
      where
        by : (c : Bool) → open_branches (spot_with so k) F ≡ open_branches (spot_with told k) F
            → map (λ (y : Branch × Gate). y.0) (if c then x ∷ filter (λ y. opens y.1 (spot_with so k y.0)) F else filter (λ y. opens y.1 (spot_with so k y.0)) F)
            ≡ map (λ (y : Branch × Gate). y.0) (if c then x ∷ filter (λ y. opens y.1 (spot_with told k y.0)) F else filter (λ y. opens y.1 (spot_with told k y.0)) F)
        by true e = (λ i. x.0 ∷ e i)
        by false e = e

    pub each-none : (F : Fronts) → ((b : Branch) → caller_of called waiting ≡ Some (s, b) → ⊥) → NoneGoes F
    each-none [] h = tt
    each-none (x ∷ F) h = (h x.0, each-none F h)

  -- ---- the run that goes on

  module _ (delays : List Timer) (w : Waits) (s : ℕ) (b : Branch) (caller : caller_of called waiting ≡ Some (s, b)) (ask : Ask) (place : ℕ) (calls : ask.called ≡ true) (called_is : called ≡ called_by rs place)
      (opened : told place ≡ None) where
    abbrev pub w' : Waits
    w' = record { asks = finished s b q w.asks; fresh = w.fresh }

    pair-of : (x y : Caller) → Some x ≡ Some y → x ≡ y
    pair-of x y e = cc

    other-branch : (c : Branch) → (c ≡ b → ⊥) → caller_of called waiting ≡ Some (s, c) → ⊥
    other-branch c off e = off (ap (λ (x : Caller). x.1) (pair-of (s, c) (s, b) (sym e ∙ caller)))

    pub other-run : (r : ℕ) → (r ≡ s → ⊥) → (c : Branch) → caller_of called waiting ≡ Some (r, c) → ⊥
    other-run r off c e = off (ap (λ (x : Caller). x.0) (pair-of (r, c) (s, b) (sym e ∙ caller)))

    -- its wait has the end, and the others are the same
    is-it : (r : ℕ) (c : Branch) (x : wait.Asked) → is_of s b x ≡ true → is_of r c x ≡ true → (r ≡ s) × (c ≡ b)
    is-it r c x e f =
        (let own = both (nat_eq x.ask.serial s) (same x.ask.branch b) e in
        let this = both (nat_eq x.ask.serial r) (same x.ask.branch c) f in
        (sym (eq-of x.ask.serial r this.0) ∙ eq-of x.ask.serial s own.0, sym (same-sound x.ask.branch c this.1) ∙ same-sound x.ask.branch b own.1))
      where
        both : (m n : Bool) → (m && n) ≡ true → (m ≡ true) × (n ≡ true)
        both true n e = (refl, e)
        both false n e = absurd (true≢false (sym e))

    wait-other : (r : ℕ) (c : Branch) (asks : List wait.Asked) → (r ≡ s → c ≡ b → ⊥) → wait_of r c (finished s b q asks) ≡ wait_of r c asks
    wait-other r c [] off = refl
    wait-other r c (x ∷ asks) off = by (is_of s b x) refl (wait-other r c asks off)
      where
        by : (t : Bool) → is_of s b x ≡ t → wait_of r c (finished s b q asks) ≡ wait_of r c asks → wait_of r c (if t then with_end q x ∷ asks else x ∷ finished s b q asks) ≡ wait_of r c (x ∷ asks)
        by true e rest =
            (let no : is_of r c x ≡ false = not-true (is_of r c x) (λ f. (let it = is-it r c x e f in off it.0 it.1)) in
            (λ i. if no i then Some (with_end q x) else wait_of r c asks) ∙ (λ i. if sym no i then Some x else wait_of r c asks))
          where
            not-true : (t : Bool) → (t ≡ true → ⊥) → t ≡ false
            not-true true h = absurd (h refl)
            not-true false h = refl
        by false e rest = (λ i. if is_of r c x then Some x else rest i)

    wait-own : (x : wait.Asked) (asks : List wait.Asked) → wait_of s b asks ≡ Some x → wait_of s b (finished s b q asks) ≡ Some (with_end q x)
    wait-own x [] e = absurd (none-some x e)
    wait-own x (y ∷ asks) e = by (is_of s b y) refl e (wait-own x asks)
      where
        by : (t : Bool) → is_of s b y ≡ t → (if t then Some y else wait_of s b asks) ≡ Some x → (wait_of s b asks ≡ Some x → wait_of s b (finished s b q asks) ≡ Some (with_end q x))
            → wait_of s b (if t then with_end q y ∷ asks else y ∷ finished s b q asks) ≡ Some (with_end q x)
        by true f is rec = (λ i. if f i then Some (with_end q y) else wait_of s b asks) ∙ (let it : y ≡ x = cc in λ i. Some (with_end q (it i)))
        by false f is rec = (λ i. if f i then Some y else wait_of s b (finished s b q asks)) ∙ rec is

    pub asks-other : (r : ℕ) (c : Branch) → (r ≡ s → c ≡ b → ⊥) → asked_at w' r c ≡ asked_at w r c
    asks-other r c off = ap (option_map {T = wait.Asked} {U = Asked} asked) (wait-other r c w.asks off)

    asked-own : (a : Asked) → asked_at w s b ≡ Some a → is_bare a.ask ≡ true → asked_at w' s b ≡ Some (record a { named = Some (named_end q) })
    asked-own a e bare = by (wait_of s b w.asks) refl e
      where
        by : (o : Option wait.Asked) → wait_of s b w.asks ≡ o → option_map {T = wait.Asked} {U = Asked} asked o ≡ Some a → asked_at w' s b ≡ Some (record a { named = Some (named_end q) })
        by None f is = absurd (let bad : ◌≡◌ {A = Option Asked} None (Some a) = is in cc)
        by (Some x) f is =
            (let it : asked x ≡ a = cc in
            let own : is_bare x.ask ≡ true = ap (λ (y : Asked). is_bare y.ask) it ∙ bare in
            ap (option_map {T = wait.Asked} {U = Asked} asked) (wait-own x w.asks f)
            ∙ (λ i. Some (record { owner = x.owner; place = x.place; ask = x.ask; named = if own i then Some (named_end q) else None }))
            ∙ (λ i. Some (record (it i) { named = Some (named_end q) })))

    -- the end is there now
    so-there : so place ≡ Some q
    so-there = (λ i. or_else (opened i) (if self (called_by rs place) called (sym called_is) i then Some q else None))

    ask-there : ask_end so k ask place ≡ Some (ends_so q)
    ask-there = (λ i. if calls i then option_map ends_so (so place) else wait_end k ask place) ∙ ap (option_map ends_so) so-there

    ask-none : ask_end told k ask place ≡ None
    ask-none = (λ i. if calls i then option_map ends_so (told place) else wait_end k ask place) ∙ ap (option_map ends_so) opened

    own-gate : GateKept told k delays w s (b, Gate.Behind ask place) → GateKept so k delays w' s (b, Gate.Behind ask place)
    own-gate g = (
      record g.0 { named = Some (named_end q) },
      asked-own g.0 g.1 (called-bare (now (take (suc place) k)) ask g.0.ask g.6 calls),
      g.2,
      g.3,
      g.4,
      g.5,
      g.6,
      λ again. sym ask-there,
    )

    -- its branch goes on, and no other one
    abbrev pub Goes : Fronts → Type 0
    Goes F = GatesKept so k delays w' s F × (open_branches (spot_with so k) F ≡ placed b (open_branches (spot_with told k) F))

    other-asks : (c : Branch) → (caller_of called waiting ≡ Some (s, c) → ⊥) → asked_at w' s c ≡ asked_at w s c
    other-asks c off = asks-other s c (λ e f. off (caller ∙ (λ i. Some (s, sym f i))))

    rest-none : (F : Fronts) → AllAfter b (names F) → NoneGoes delays w w' s other-asks F
    rest-none [] h = tt
    rest-none (x ∷ F) h = (other-branch x.0 (λ e. irrefl b (ap (comes_before b) (sym e) ∙ h.0)), rest-none F h.1)

    -- put before all that comes behind it
    placed-first : (cs : List Branch) → AllAfter b cs → placed b cs ≡ b ∷ cs
    placed-first [] h = refl
    placed-first (c ∷ cs) h = (λ i. if not-after c h.0 i then c ∷ placed b cs else b ∷ c ∷ cs)
      where
        not-true : (t : Bool) → (t ≡ true → ⊥) → t ≡ false
        not-true true h = absurd (h refl)
        not-true false h = refl

        not-after : (c : Branch) → comes_before b c ≡ true → comes_before c b ≡ false
        not-after c lt = not-true (comes_before c b) (λ back. irrefl b (trans b c b lt back))

    open-after : (F : Fronts) (spot : Branch → Spot) → AllAfter b (names F) → AllAfter b (open_branches spot F)
    open-after [] spot h = tt
    open-after (x ∷ F) spot h = by (opens x.1 (spot x.0)) (open-after F spot h.1)
      where
        by : (t : Bool) → AllAfter b (open_branches spot F) → AllAfter b (map (λ (y : Branch × Gate). y.0) (if t then x ∷ filter (λ y. opens y.1 (spot y.0)) F else filter (λ y. opens y.1 (spot y.0)) F))
        by true rest = (h.0, rest)
        by false rest = rest

    branch-in : (F : Fronts) (g : Gate) → gate_at b F ≡ Some g → In b (names F)
    branch-in F g e = stands-in F b g (found-front F b g e)

    -- LAW: so it is of the fronts of the run
    pub goes-on : (F : Fronts) → Ascends (names F) → gate_at b F ≡ Some (Gate.Behind ask place) → AreAwaited told rs waiting s F → GatesKept told k delays w s F → Goes F
    goes-on [] up e aw g = absurd (none-some (Gate.Behind ask place) e)
    goes-on (x ∷ F) up e aw g = by (bytes_eq x.0 b) refl e (goes-on F up.1)
      where
        by : (t : Bool) → bytes_eq x.0 b ≡ t → option_map (λ (y : Branch × Gate). y.1) (if t then Some x else find (λ y. bytes_eq y.0 b) F) ≡ Some (Gate.Behind ask place)
            → (gate_at b F ≡ Some (Gate.Behind ask place) → AreAwaited told rs waiting s F → GatesKept told k delays w s F → Goes F) → Goes (x ∷ F)
        by true f is rec =
            (let gate : x.1 ≡ Gate.Behind ask place = cc in
            let it : x ≡ (b, Gate.Behind ask place) = (λ i. (same-true x.0 b f i, gate i)) in
            let none = rest-none F (subst (λ c. AllAfter c (names F)) (same-true x.0 b f) up.0) in
            let shut : opens x.1 (spot_with told k x.0) ≡ false = (λ i. opens (it i).1 (spot_with told k (it i).0)) ∙ ap is_some ask-none in
            let free : opens x.1 (spot_with so k x.0) ≡ true = (λ i. opens (it i).1 (spot_with so k (it i).0)) ∙ ap is_some ask-there in
            let first : x.0 ≡ b = same-true x.0 b f in (
              (subst (λ y. GateKept so k delays w' s y) (sym it) (own-gate (subst (λ y. GateKept told k delays w s y) it g.0)), gates-stay delays w w' s other-asks F aw.1 none g.1),
              (λ i. map (λ (y : Branch × Gate). y.0) (if free i then x ∷ filter (λ y. opens y.1 (spot_with so k y.0)) F else filter (λ y. opens y.1 (spot_with so k y.0)) F))
                  ∙ (λ i. first i ∷ open-stays delays w w' s other-asks F aw.1 none i)
                  ∙ sym (placed-first (open_branches (spot_with told k) F) (open-after F (spot_with told k) (subst (λ c. AllAfter c (names F)) (same-true x.0 b f) up.0)))
                  ∙ (λ i. placed b (map (λ (y : Branch × Gate). y.0) (if sym shut i then x ∷ filter (λ y. opens y.1 (spot_with told k y.0)) F else filter (λ y. opens y.1 (spot_with told k y.0)) F))),
            ))
        by false f is rec =
            (let off : x.0 ≡ b → ⊥ = (λ is-b. true≢false (sym (ap (λ c. bytes_eq c b) is-b ∙ same-refl b) ∙ f)) in
            let not-it = other-branch x.0 off in
            let rest = rec is aw.1 g.1 in
            let before : comes_before x.0 b ≡ true = after-in x.0 b (names F) up.0 (branch-in F (Gate.Behind ask place) is) in (
              (gate-stays delays w w' s other-asks x aw.0 not-it g.0, rest.0),
              (λ i. map (λ (y : Branch × Gate). y.0) (if stays-open s x aw.0 not-it i then x ∷ filter (λ y. opens y.1 (spot_with so k y.0)) F else filter (λ y. opens y.1 (spot_with so k y.0)) F))
                  ∙ one (opens x.1 (spot_with told k x.0)) before rest.1,
            ))
          where
            one : (t : Bool) → comes_before x.0 b ≡ true → open_branches (spot_with so k) F ≡ placed b (open_branches (spot_with told k) F)
                → map (λ (y : Branch × Gate). y.0) (if t then x ∷ filter (λ y. opens y.1 (spot_with so k y.0)) F else filter (λ y. opens y.1 (spot_with so k y.0)) F)
                ≡ placed b (map (λ (y : Branch × Gate). y.0) (if t then x ∷ filter (λ y. opens y.1 (spot_with told k y.0)) F else filter (λ y. opens y.1 (spot_with told k y.0)) F))
            one true lt e' = (λ i. x.0 ∷ e' i) ∙ (λ i. if sym lt i then x.0 ∷ placed b (open_branches (spot_with told k) F) else b ∷ x.0 ∷ open_branches (spot_with told k) F)
            one false lt e' = e'
