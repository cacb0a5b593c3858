-- Who waits for which run behind a step.
use Rattle.std.proofs.Common.{◌≡◌, ℕ, zero, suc, ◌+◌, ◌-◌, ◌<◌, ◌≤◌, ◌⊎◌, inl, inr, List, [], ◌∷◌, ◌++◌, length, set, take, Bool, true, false, refl, sym, ap, subst, ◌∙◌, rules, arith, true≢false}
use Rattle.std.specs.Prelude.{Option, Some, None, ◌≢◌, ◌&&◌, ◌||◌, bytes_eq, nat_eq, is_none, option_and_then, option_map, slice_get, if◌then◌else◌}
use Rattle.std.specs.List.{list_any}
use Rattle.std.specs.Option.{option_map_or}
use Rattle.timer_queue.specs.Timers.{Timer}
use Rattle.ha_config.proofs.EqualLemmas.{same-refl}
use Rattle.ha_config.proofs.ListLemmas.{append-nil}
use Rattle.ha_journal.specs.declared.entry.Entry.{Entry}
use Rattle.ha_journal.specs.declared.entry.Entry.TheVariants.{Step}
use Rattle.ha_journal.specs.Journal.{Journal, last_place, more, now}
use Rattle.ha_journal.proofs.MoreLemmas.{length-more}
use Rattle.ha_sight.specs.declared.steps.StepOut.{StepOut}
use Rattle.ha_sight.specs.declared.waiting.WaitEnd.{WaitEnd}
use Rattle.ha_sight.specs.Scripts.{Ask, Branch, Spot}
use Rattle.ha_model.specs.declared.record.Record.{Record}
use Rattle.ha_model.specs.Records.{CallEnds, Records, next_spot, spots}
use Rattle.ha_model.specs.Lawful.{Right, is_running}
use Rattle.ha_model.proofs.FoldLaws.{spots-more}
use Rattle.ha_ready.specs.Picked.{IsPicked}
use Rattle.ha_ready.specs.ReadyPairs.{ends_at}
use Rattle.ha_ready.specs.RunPast.{AllPast}
use Rattle.ha_ready.proofs.RunPast.{all-past}
use Rattle.run_modes.specs.Fits.{AreNumbered}
use Rattle.script_calls.specs.Waiting.{Waiting, caller_of}
use Rattle.script_step.specs.declared.frames.Frames.{Frames}
use Rattle.script_step.specs.Continuation.{asks}
use Rattle.script_step.specs.Frames.{ask_of, began_by, begins}
use Rattle.script_step.specs.Gates.{Fronts, Gate, gate_at, wait_of}
use Rattle.script_step.specs.Told.{AreTold, EachTold, IsTold, StandsIn}
use Rattle.script_step.proofs.ListedLemmas.{StandsOf, found-front, front-found, fronts-ascend, same-true}
use Rattle.script_step.proofs.ToldLemmas.{wait-gate}
use Rattle.wait_set.specs.declared.asked.Asked as wait
use Rattle.wait_set.specs.Asked.{WaitTable, is_bare, is_of}
use Rattle.wait_set.specs.Asked as set
use Rattle.engine_parts.specs.Called.{AreAwaited, CallsKept, EachSlot, IsAwaited, IsCaller, SlotAwaited, called_by, ended_in, run_at, told_by}
use Rattle.engine_parts.specs.Fronts.{fronts}
use Rattle.engine_parts.specs.Kept.{nobody}
use Rattle.engine_parts.specs.Runs.{GateKept, GatesKept, IsWait, LiveKept, SlotsKept}
use Rattle.engine_parts.specs.Waiting.{Asked, asked, ends}
use Rattle.engine_parts.proofs.ToldLemmas.{called-last, found-within, told-first, told-last}
use Rattle.engine_parts.proofs.CalledLemmas.{caller-moved, each-at, each-slots, fronts-awaited, live-gates, live-slot, right-numbered}
use Rattle.engine_parts.proofs.GateLemmas.{begins-bare, called-bare, named-end}
use Rattle.engine_parts.proofs.HeldLemmas.{get-set-other}
use Rattle.engine_parts.proofs.StepRight.{gate-known}
use Rattle.engine_parts.proofs.SteppersRun.{still-runs}
use Rattle.engine_entry.specs.Stepping.{CallBegun}

eq-of : (a b : ℕ) → nat_eq a b ≡ true → a ≡ b
eq-of a b e = search (rules, e)

apart : (a b : ℕ) → (a ≡ b → ⊥) → nat_eq a b ≡ false
apart a b h = search (rules, h)

self : (a b : ℕ) → a ≡ b → nat_eq a b ≡ true
self a b e = search (rules, e)

none-some : {X : Type 0} (x : X) → None ≡ Some x → ⊥
none-some {X} x e = (let bad : ◌≡◌ {A = Option X} None (Some x) = e in cc)

some-none : {X : Type 0} (x : X) → Some x ≡ None → ⊥
some-none {X} x e = (let bad : ◌≡◌ {A = Option X} (Some x) None = e in cc)

-- two pairs that are the same are so part by part
first-same : {X Y : Type 0} (x x' : X) (y y' : Y) → ◌≡◌ {A = Option (X × Y)} (Some (x, y)) (Some (x', y')) → x ≡ x'
first-same {X} {Y} x x' y y' e = ap (λ (o : Option (X × Y)). option_map_or {T = X × Y} {U = X} (λ z. z.0) o x) e

second-same : {X Y : Type 0} (x x' : X) (y y' : Y) → ◌≡◌ {A = Option (X × Y)} (Some (x, y)) (Some (x', y')) → y ≡ y'
second-same {X} {Y} x x' y y' e = ap (λ (o : Option (X × Y)). option_map_or {T = X × Y} {U = Y} (λ z. z.1) o y) e

decide : (b c : Branch) → (c ≡ b) ⊎ (c ≢ b)
decide b c = by (bytes_eq c b) refl
  where
    by : (t : Bool) → bytes_eq c b ≡ t → (c ≡ b) ⊎ (c ≢ b)
    by true e = inl (same-true c b e)
    by false e = inr (λ h. absurd (true≢false (sym (ap (λ d. bytes_eq d b) h ∙ same-refl b) ∙ e)))

-- ---- fronts

stands-of : (c : Branch) (g : Gate) (F : Fronts) → StandsIn (c, g) F → StandsOf c g F
stands-of c g [] h = absurd h
stands-of c g (x ∷ F) (inl e) = inl e
stands-of c g (x ∷ F) (inr later) = inr (stands-of c g F later)

-- the fronts of a run are found by their branches
front-at : (f : Frames) (ss : List Spot) (c : Branch) (g : Gate) → StandsOf c g (fronts f ss) → gate_at c (fronts f ss) ≡ Some g
front-at f ss c g h = front-found (fronts f ss) c g (fronts-ascend f.root f.script.value (began_by begins ss)) h

-- what is told of one of them
told-at : (serial place now : ℕ) (b : Branch) (old new : Fronts) (out : StepOut) (c : Branch) (g : Gate) (F : Fronts) → EachTold serial place now b old new out F → StandsOf c g F → IsTold serial place now b old new out (c, g)
told-at serial place now b old new out c g [] told h = absurd h
told-at serial place now b old new out c g (x ∷ F) told (inl e) = subst (IsTold serial place now b old new out) e told.0
told-at serial place now b old new out c g (x ∷ F) told (inr later) = told-at serial place now b old new out c g F told.1 later

-- what is awaited at one of them
awaited-at : (told : CallEnds) (rs : Records) (waiting : Waiting) (s : ℕ) (c : Branch) (g : Gate) (F : Fronts) → AreAwaited told rs waiting s F → StandsOf c g F → IsAwaited told rs waiting s (c, g)
awaited-at told rs waiting s c g [] h there = absurd there
awaited-at told rs waiting s c g (x ∷ F) h (inl e) = subst (IsAwaited told rs waiting s) e h.0
awaited-at told rs waiting s c g (x ∷ F) h (inr later) = awaited-at told rs waiting s c g F h.1 later

-- so it is at all, where it is at each that stands there
each-awaited : (told : CallEnds) (rs : Records) (waiting : Waiting) (s : ℕ) (F : Fronts) → ((c : Branch) (g : Gate) → StandsOf c g F → IsAwaited told rs waiting s (c, g)) → AreAwaited told rs waiting s F
each-awaited told rs waiting s [] h = tt
each-awaited told rs waiting s (x ∷ F) h = (h x.0 x.1 (inl refl), each-awaited told rs waiting s F (λ c g later. h c g (inr later)))

-- what the branch of a run asks whose gate this is
asked-gate : (f : Frames) (ss : List Spot) (c : Branch) (ask : Ask) (p : ℕ) → gate_at c (fronts f ss) ≡ Some (Gate.Behind ask p) → ask_of f c ≡ Some ask
asked-gate f ss c ask p e = by (ask_of f c) refl (wait-gate c f.root f.script.value (began_by begins ss) ∙ ap (option_and_then wait_of) e)
  where
    by : (o : Option Ask) → ask_of f c ≡ o → option_map {U = Ask × ℕ} (λ a. (a, began_by begins ss c)) o ≡ Some (ask, p) → ask_of f c ≡ Some ask
    by None q h = absurd (none-some (ask, p) h)
    by (Some a) q h = q ∙ ap Some (first-same a ask (began_by begins ss c) p h)

-- the gate of a branch of a run that asks this
gate-asked : (f : Frames) (ss : List Spot) (c : Branch) (ask : Ask) → ask_of f c ≡ Some ask → (p : ℕ) × (gate_at c (fronts f ss) ≡ Some (Gate.Behind ask p))
gate-asked f ss c ask e = by (gate_at c (fronts f ss)) refl (sym (ap (option_map {T = Ask} {U = Ask × ℕ} (λ a. (a, began_by begins ss c))) e) ∙ wait-gate c f.root f.script.value (began_by begins ss))
  where
    by : (o : Option Gate) → gate_at c (fronts f ss) ≡ o → Some (ask, began_by begins ss c) ≡ option_and_then wait_of o → (p : ℕ) × (gate_at c (fronts f ss) ≡ Some (Gate.Behind ask p))
    by None q h = absurd (some-none (ask, began_by begins ss c) h)
    by (Some Gate.Free) q h = absurd (some-none (ask, began_by begins ss c) h)
    by (Some (Gate.From due)) q h = absurd (some-none (ask, began_by begins ss c) h)
    by (Some (Gate.Behind a p)) q h = (let same : a ≡ ask = sym (first-same ask a (began_by begins ss c) p h) in (p, q ∙ (λ i. Some (Gate.Behind (same i) p))))

-- a gate that is a wait's
wait-there : (o : Option Gate) → IsWait o → (ask : Ask) × (p : ℕ) × (o ≡ Some (Gate.Behind ask p))
wait-there None h = absurd h
wait-there (Some Gate.Free) h = absurd h
wait-there (Some (Gate.From due)) h = absurd h
wait-there (Some (Gate.Behind ask p)) h = (ask, p, refl)

-- a wait of a run in a branch that is found without an end is a pending one
any-pending : (s : ℕ) (b : Branch) (asks : List wait.Asked) (a : wait.Asked) → set.wait_of s b asks ≡ Some a → a.end ≡ None → list_any (λ y. is_of s b y && is_none y.end) asks ≡ true
any-pending s b [] a q h = absurd (none-some a q)
any-pending s b (y ∷ asks) a q h = by (is_of s b y) refl q (λ later. any-pending s b asks a later h)
  where
    by : (c : Bool) → is_of s b y ≡ c → (if c then Some y else set.wait_of s b asks) ≡ Some a → (set.wait_of s b asks ≡ Some a → list_any (λ z. is_of s b z && is_none z.end) asks ≡ true)
        → ((is_of s b y && is_none y.end) || list_any (λ z. is_of s b z && is_none z.end) asks) ≡ true
    by true at got rec =
        (let same : y ≡ a = cc in
        (λ i. (at i && is_none (ap (λ (z : wait.Asked). z.end) same i)) || list_any (λ z. is_of s b z && is_none z.end) asks) ∙ (λ i. is_none (h i) || list_any (λ z. is_of s b z && is_none z.end) asks))
    by false at got rec = (λ i. (at i && is_none y.end) || list_any (λ z. is_of s b z && is_none z.end) asks) ∙ rec got

-- ---- slots

pub get-set : {X : Type 0} (xs : List X) (i : ℕ) (x y : X) → slice_get xs i ≡ Some x → slice_get (set xs i y) i ≡ Some y
get-set {X} [] i x y e = absurd (none-some x e)
get-set (z ∷ xs) zero x y e = refl
get-set (z ∷ xs) (suc i) x y e = get-set xs i x y e

set-at : (xs : List (Option Frames)) (i : ℕ) (f z : Frames) → slice_get (set xs i (Some f)) i ≡ Some (Some z) → f ≡ z
set-at [] i f z q = absurd (none-some (Some z) q)
set-at (x ∷ xs) zero f z q = (let got : Some (Some f) ≡ Some (Some z) = q in cc)
set-at (x ∷ xs) (suc i) f z q = set-at xs i f z q

-- what holds of each live run, where one slot is another's
each-set : (P Q : ℕ → Frames → Type 0) (n i : ℕ) (f : Frames) (os : List (Option Frames)) → ((r : ℕ) (g : Frames) → n < r → (r ≡ suc (n + i) → ⊥) → slice_get os (r - suc n) ≡ Some (Some g) → P r g → Q r g)
    → Q (suc (n + i)) f → EachSlot P n os → EachSlot Q n (set os i (Some f))
each-set P Q n i f os g own h = each-slots Q n (set os i (Some f)) (λ r y lt e. by r y lt e (nat_eq r (suc (n + i))) refl)
  where
    place : (r : ℕ) → n < r → nat_eq r (suc (n + i)) ≡ false → r - suc n ≡ i → ⊥
    place r lt off same = true≢false (sym (self r (suc (n + i)) (omega (arith, same, lt))) ∙ off)

    within : (r : ℕ) (y : Frames) → r ≡ suc (n + i) → slice_get (set os i (Some f)) (r - suc n) ≡ Some (Some y) → f ≡ y
    within r y same e = (let at : r - suc n ≡ i = omega (arith, same) in set-at os i f y (ap (slice_get (set os i (Some f))) (sym at) ∙ e))

    by : (r : ℕ) (y : Frames) → n < r → slice_get (set os i (Some f)) (r - suc n) ≡ Some (Some y) → (c : Bool) → nat_eq r (suc (n + i)) ≡ c → Q r y
    by r y lt e true at = (let same = eq-of r (suc (n + i)) at in subst (λ m. Q m y) (sym same) (subst (Q (suc (n + i))) (within r y same e) own))
    by r y lt e false off =
        (let old : slice_get os (r - suc n) ≡ Some (Some y) = sym (get-set-other os i (r - suc n) (Some f) (place r lt off)) ∙ e in
        g r y lt (λ same. true≢false (sym (self r (suc (n + i)) same) ∙ off)) old (each-at P n os h r y lt old))

-- ---- the step

module _ (j : Journal) (rs : Records) (worker s : ℕ) (b : Branch) (out : StepOut) (right : Right j rs) (picked : IsPicked rs j s b) (low : 0 < s) (own : picked.run.serial ≡ s)
    (delays : List Timer) (w : WaitTable) (os : List (Option Frames)) (slots : SlotsKept (ends_at j) j delays w rs os) (count : length os ≡ length rs) (waiting waiting' : Waiting) (calls : CallsKept (ends_at j) j rs waiting os)
    (old new : Frames) (there : slice_get os (s - 1) ≡ Some (Some old)) (live : LiveKept (ends_at j) j delays w picked.run old)
    (told : AreTold s (length j) (now j) b (fronts old (spots j s)) (fronts new (spots j s ++ (next_spot j b ∷ []))) out)
    (others : (c : Branch) → c ≢ b → IsWait (gate_at c (fronts old (spots j s))) → IsWait (gate_at c (fronts new (spots j s ++ (next_spot j b ∷ [])))))
    (free : list_any (λ a. is_of s b a && is_none a.end) w.asks ≡ false)
    (begun : CallBegun (option_map_or (λ ask. ask.called) (ask_of new b) false) (length os) s b waiting waiting') where
  abbrev x : Entry
  x = Step worker s b out.item

  abbrev k : Journal
  k = more j x

  abbrev so : CallEnds
  so = told_by nobody k rs

  abbrev olds : Fronts
  olds = fronts old (spots j s)

  abbrev news : Fronts
  news = fronts new (spots j s ++ (next_spot j b ∷ []))

  past : AllPast (length j) rs
  past = all-past j rs right

  num : AreNumbered 0 rs
  num = right-numbered j rs right

  same-told : (p : ℕ) → p < length j → so p ≡ ends_at j p
  same-told p lt = told-first j x rs right.records_are p lt

  own-places : spots k s ≡ spots j s ++ (next_spot j b ∷ [])
  own-places = spots-more j x s ∙ (λ i. spots j s ++ (if self s s refl i then next_spot j b ∷ [] else []))

  other-places : (q : ℕ) → (s ≡ q → ⊥) → spots k q ≡ spots j q
  other-places q off = spots-more j x q ∙ (λ i. spots j q ++ (if apart s q off i then next_spot j b ∷ [] else [])) ∙ append-nil (spots j q)

  -- a run that was called before the step is one of those that are there
  known-run : (p : ℕ) → p < length j → so p ≡ None → called_by rs p ≤ length rs
  known-run p lt none = by (run_at p rs) refl none
    where
      by : (o : Option Record) → run_at p rs ≡ o → option_map_or (ended_in nobody k) o (if nat_eq p (last_place k) then None else Some p) ≡ None → called_by rs p ≤ length rs
      by None e h = absurd (some-none p ((λ i. if sym (apart p (last_place k) (λ same. omega (arith, same, lt, length-more j x))) i then None else Some p) ∙ h))
      by (Some r) e h = (let found = found-within p 0 rs r num e in let is : called_by rs p ≡ r.serial = ap (λ o. option_map_or (λ (y : Record). y.serial) o (suc (length rs))) e in omega (arith, found.1, is))

  -- so who waits for it is the same
  old-caller : (c : ℕ) → c ≤ length rs → caller_of c waiting' ≡ caller_of c waiting
  old-caller c le =
      begun c
      ∙ (λ i. if option_map_or (λ ask. ask.called) (ask_of new b) false && apart (suc (length os)) c (λ same. omega (arith, same, le, count)) i then Some (s, b) else caller_of c waiting)
      ∙ never (option_map_or (λ ask. ask.called) (ask_of new b) false)
    where
      never : (t : Bool) → (if t && false then Some (s, b) else caller_of c waiting) ≡ caller_of c waiting
      never true = refl
      never false = refl

  -- an awaited front of a run with fronts of the journal before
  moved-fronts : (q : ℕ) (f : Frames) → (s ≡ q → ⊥) → 0 < q → slice_get os (q - 1) ≡ Some (Some f) → SlotAwaited (ends_at j) rs waiting j q f → SlotAwaited so rs waiting' k q f
  moved-fronts q f off some e h =
      (let run = live-slot nobody (ends_at j) j delays w rs os num slots q f some e in
      let gates = live-gates nobody (ends_at j) j delays w rs q f run in
      let before : AreAwaited so rs waiting q (fronts f (spots j q)) = fronts-awaited (ends_at j) so j same-told delays w rs waiting q (fronts f (spots j q)) gates h in
      subst (λ ss. AreAwaited so rs waiting' q (fronts f ss)) (sym (other-places q off))
      (each-awaited so rs waiting' q (fronts f (spots j q)) (λ c g stands. one c g stands (gate-known (ends_at j) j delays w q (fronts f (spots j q)) c g (front-at f (spots j q) c g stands) gates) (awaited-at so rs waiting q c g (fronts f (spots j q)) before stands))))
    where
      one : (c : Branch) (g : Gate) → StandsOf c g (fronts f (spots j q)) → GateKept (ends_at j) j delays w q (c, g) → IsAwaited so rs waiting q (c, g) → IsAwaited so rs waiting' q (c, g)
      one c Gate.Free stands gate h = tt
      one c (Gate.From due) stands gate h = tt
      one c (Gate.Behind ask p) stands gate h = λ is none. old-caller (called_by rs p) (known-run p gate.4 none) ∙ h is none

  -- those of the run that stepped
  own-fronts : AreAwaited so rs waiting' s news
  own-fronts = each-awaited so rs waiting' s news (λ c g stands. one c g stands (told-at s (length j) (now j) b olds news out c g news told stands))
    where
      gates : GatesKept (ends_at j) j delays w s olds
      gates = subst (λ q. GatesKept (ends_at j) j delays w q (fronts old (spots j q))) own live.gates

      before : AreAwaited (ends_at j) rs waiting s olds
      before = each-at (SlotAwaited (ends_at j) rs waiting j) 0 os calls.awaited s old low there

      stayed : (c : Branch) (ask : Ask) (p : ℕ) → StandsIn (c, Gate.Behind ask p) olds → IsAwaited so rs waiting' s (c, Gate.Behind ask p)
      stayed c ask p in' is none =
          (let stands = stands-of c (Gate.Behind ask p) olds in' in
          let gate : GateKept (ends_at j) j delays w s (c, Gate.Behind ask p) = gate-known (ends_at j) j delays w s olds c (Gate.Behind ask p) (front-at old (spots j s) c (Gate.Behind ask p) stands) gates in
          old-caller (called_by rs p) (known-run p gate.4 none)
          ∙ awaited-at (ends_at j) rs waiting s c (Gate.Behind ask p) olds before stands is (sym (same-told p gate.4) ∙ none))

      begins-here : (c : Branch) (ask : Ask) (p : ℕ) → StandsOf c (Gate.Behind ask p) news → c ≡ b → p ≡ length j → IsAwaited so rs waiting' s (c, Gate.Behind ask p)
      begins-here c ask p stands at here is none =
          (let asks-it : ask_of new b ≡ Some ask = ap (ask_of new) (sym at) ∙ asked-gate new (spots j s ++ (next_spot j b ∷ [])) c ask p (front-at new (spots j s ++ (next_spot j b ∷ [])) c (Gate.Behind ask p) stands) in
          let next : called_by rs p ≡ suc (length os) = ap (called_by rs) here ∙ called-last j rs past ∙ ap suc (sym count) in
          ap (λ n. caller_of n waiting') next
          ∙ begun (suc (length os))
          ∙ (λ i. if option_map_or (λ a. a.called) (asks-it i) false && self (suc (length os)) (suc (length os)) refl i then Some (s, b) else caller_of (suc (length os)) waiting)
          ∙ (λ i. if is i && true then Some (s, b) else caller_of (suc (length os)) waiting)
          ∙ (λ i. Some (s, sym at i)))

      one : (c : Branch) (g : Gate) → StandsOf c g news → IsTold s (length j) (now j) b olds news out (c, g) → IsAwaited so rs waiting' s (c, g)
      one c Gate.Free stands told' = tt
      one c (Gate.From due) stands told' = tt
      one c (Gate.Behind ask p) stands (inl stays) = stayed c ask p stays.1
      one c (Gate.Behind ask p) stands (inr here) = begins-here c ask p stands here.0 here.1

  slot-new : slice_get (set os (s - 1) (Some new)) (s - 1) ≡ Some (Some new)
  slot-new = get-set os (s - 1) (Some old) (Some new) there

  -- a gate of another branch that was a wait is the same
  same-gate : (c : Branch) (ask : Ask) (p : ℕ) → c ≢ b → gate_at c olds ≡ Some (Gate.Behind ask p) → gate_at c news ≡ Some (Gate.Behind ask p)
  same-gate c ask p off e =
      (let still = wait-there (gate_at c news) (others c off (subst IsWait (sym e) tt)) in
      by still.0 still.1 still.2 (told-at s (length j) (now j) b olds news out c (Gate.Behind still.0 still.1) news told (found-front news c (Gate.Behind still.0 still.1) still.2)))
    where
      by : (a : Ask) (q : ℕ) → gate_at c news ≡ Some (Gate.Behind a q) → IsTold s (length j) (now j) b olds news out (c, Gate.Behind a q) → gate_at c news ≡ Some (Gate.Behind ask p)
      by a q at (inl stays) = at ∙ sym (front-at old (spots j s) c (Gate.Behind a q) (stands-of c (Gate.Behind a q) olds stays.1)) ∙ e
      by a q at (inr here) = absurd (off here.0)

  -- where the branch could step it waited for no run that had not ended
  not-waiting : (ask : Ask) (p : ℕ) → gate_at b olds ≡ Some (Gate.Behind ask p) → ask.called ≡ true → ends_at j p ≡ None → ⊥
  not-waiting ask p e is none =
      (let gate : GateKept (ends_at j) j delays w s (b, Gate.Behind ask p) = gate-known (ends_at j) j delays w s olds b (Gate.Behind ask p) e (subst (λ q. GatesKept (ends_at j) j delays w q (fronts old (spots j q))) own live.gates) in
      let bare : is_bare gate.0.ask ≡ true = called-bare (now (take (suc p) j)) ask gate.0.ask gate.6 is in
      let open' : ends w s b ≡ None = named-end w s b gate.0 gate.1 bare ∙ gate.7 bare ∙ begins-bare (ends_at j) j p ask gate.0.ask bare gate.6 none in
      by gate.0 (set.wait_of s b w.asks) refl gate.1 open')
    where
      by : (known : Asked) (o : Option wait.Asked) → set.wait_of s b w.asks ≡ o → option_map {T = wait.Asked} {U = Asked} asked o ≡ Some known → ends w s b ≡ None → ⊥
      by known None q h open' = absurd (none-some known h)
      by known (Some a) q h open' = true≢false (sym (any-pending s b w.asks a q (sym (ap (option_and_then {T = wait.Asked} {U = WaitEnd} (λ z. z.end)) q) ∙ open')) ∙ free)

  running-on : is_running (length k) picked.run ≡ true
  running-on = still-runs (length j) (length k) (omega (arith, length-more j x)) picked.run picked.running live.live

  -- the run that stepped waits where its branch calls
  new-caller : (ask : Ask) → ask_of new b ≡ Some ask → ask.called ≡ true → IsCaller so k rs (set os (s - 1) (Some new)) (suc (length os)) s b
  new-caller ask e is =
      (let gate = gate-asked new (spots j s ++ (next_spot j b ∷ [])) b ask e in
      let here : gate.0 ≡ length j = by gate.0 gate.1 (told-at s (length j) (now j) b olds news out b (Gate.Behind ask gate.0) news told (found-front news b (Gate.Behind ask gate.0) gate.1)) in
      record {
        low = low;
        run = picked.run;
        found = picked.found;
        running = running-on;
        frames = new;
        there = slot-new;
        ask = ask;
        place = gate.0;
        gate = ap (λ ss. gate_at b (fronts new ss)) own-places ∙ gate.1;
        calls = is;
        called_is = sym (ap (called_by rs) here ∙ called-last j rs past ∙ ap suc (sym count));
        opened = ap so here ∙ told-last j x rs past;
      })
    where
      by : (p : ℕ) → gate_at b news ≡ Some (Gate.Behind ask p) → IsTold s (length j) (now j) b olds news out (b, Gate.Behind ask p) → p ≡ length j
      by p at (inl stays) = absurd (stays.0 refl)
      by p at (inr here) = here.1

  -- a caller of before is one still
  old-callers : (c q : ℕ) (d : Branch) → IsCaller (ends_at j) j rs os c q d → IsCaller so k rs (set os (s - 1) (Some new)) c q d
  old-callers c q d h = by (nat_eq s q) refl
    where
      same-frames : s ≡ q → h.frames ≡ old
      same-frames at = (let got : Some (Some h.frames) ≡ Some (Some old) = sym h.there ∙ ap (λ n. slice_get os (n - 1)) (sym at) ∙ there in cc)

      own-gate : (at : s ≡ q) → gate_at d olds ≡ Some (Gate.Behind h.ask h.place)
      own-gate at = ap (λ (f : Frames). gate_at d (fronts f (spots j s))) (sym (same-frames at)) ∙ ap (λ n. gate_at d (fronts h.frames (spots j n))) at ∙ h.gate

      known : (at : s ≡ q) → h.place < length j
      known at = (gate-known (ends_at j) j delays w s olds d (Gate.Behind h.ask h.place) (own-gate at) (subst (λ n. GatesKept (ends_at j) j delays w n (fronts old (spots j n))) own live.gates)).4

      mine : (at : s ≡ q) → (d ≡ b) ⊎ (d ≢ b) → IsCaller so k rs (set os (s - 1) (Some new)) c q d
      mine at (inl here) = absurd (not-waiting h.ask h.place (ap (λ e. gate_at e olds) (sym here) ∙ own-gate at) h.calls h.opened)
      mine at (inr off) = subst (λ n. IsCaller so k rs (set os (s - 1) (Some new)) c n d) at (record {
        low = low;
        run = picked.run;
        found = picked.found;
        running = running-on;
        frames = new;
        there = slot-new;
        ask = h.ask;
        place = h.place;
        gate = ap (λ ss. gate_at d (fronts new ss)) own-places ∙ same-gate d h.ask h.place off (own-gate at);
        calls = h.calls;
        called_is = h.called_is;
        opened = same-told h.place (known at) ∙ h.opened;
      })

      by : (t : Bool) → nat_eq s q ≡ t → IsCaller so k rs (set os (s - 1) (Some new)) c q d
      by true at = mine (eq-of s q at) (decide b d)
      by false at =
          (let off : s ≡ q → ⊥ = λ same. true≢false (sym (self s q same) ∙ at) in
          caller-moved (ends_at j) so j k same-told (omega (arith, length-more j x)) delays w rs os (set os (s - 1) (Some new)) num slots c q d (other-places q off)
          (get-set-other os (s - 1) (q - 1) (Some new) (λ same. off (omega (arith, same, low, h.low)))) h)

  -- LAW: behind the step who waits is known, where the one whose branch calls is
  pub calls-stepped : CallsKept so k rs waiting' (set os (s - 1) (Some new))
  calls-stepped = record {
    awaited = each-set (SlotAwaited (ends_at j) rs waiting j) (SlotAwaited so rs waiting' k) 0 (s - 1) new os
        (λ q f lt off e h. moved-fronts q f (λ same. off (omega (arith, same, low))) lt e h)
        (let at : s ≡ suc (0 + (s - 1)) = omega (arith, low) in subst (λ n. SlotAwaited so rs waiting' k n new) at (subst (λ ss. AreAwaited so rs waiting' s (fronts new ss)) (sym own-places) own-fronts)) calls.awaited;
    callers = λ c q d e. by c q d (option_map_or (λ ask. ask.called) (ask_of new b) false) refl (sym (begun c) ∙ e);
  }
    where
      asked-one : (o : Option Ask) → option_map_or (λ (ask : Ask). ask.called) o false ≡ true → (ask : Ask) × (o ≡ Some ask) × (ask.called ≡ true)
      asked-one None h = absurd (true≢false (sym h))
      asked-one (Some ask) h = (ask, refl, h)

      by : (c q : ℕ) (d : Branch) (t : Bool) → option_map_or (λ ask. ask.called) (ask_of new b) false ≡ t
          → (if option_map_or (λ ask. ask.called) (ask_of new b) false && nat_eq (suc (length os)) c then Some (s, b) else caller_of c waiting) ≡ Some (q, d) → IsCaller so k rs (set os (s - 1) (Some new)) c q d
      by c q d false is h = old-callers c q d (calls.callers c q d ((λ i. if sym is i && nat_eq (suc (length os)) c then Some (s, b) else caller_of c waiting) ∙ h))
      by c q d true is h = turn (nat_eq (suc (length os)) c) refl ((λ i. if sym is i && nat_eq (suc (length os)) c then Some (s, b) else caller_of c waiting) ∙ h)
        where
          turn : (t : Bool) → nat_eq (suc (length os)) c ≡ t → (if nat_eq (suc (length os)) c then Some (s, b) else caller_of c waiting) ≡ Some (q, d) → IsCaller so k rs (set os (s - 1) (Some new)) c q d
          turn false off g = old-callers c q d (calls.callers c q d ((λ i. if sym off i then Some (s, b) else caller_of c waiting) ∙ g))
          turn true at g =
              (let got : ◌≡◌ {A = Option (ℕ × Branch)} (Some (s, b)) (Some (q, d)) = (λ i. if sym at i then Some (s, b) else caller_of c waiting) ∙ g in
              let one = asked-one (ask_of new b) is in
              let mine : IsCaller so k rs (set os (s - 1) (Some new)) (suc (length os)) s b = new-caller one.0 one.1 one.2 in
              pair got (subst (λ n. IsCaller so k rs (set os (s - 1) (Some new)) n s b) (eq-of (suc (length os)) c at) mine))
            where
              pair : ◌≡◌ {A = Option (ℕ × Branch)} (Some (s, b)) (Some (q, d)) → IsCaller so k rs (set os (s - 1) (Some new)) c s b → IsCaller so k rs (set os (s - 1) (Some new)) c q d
              pair same h = subst (λ (n : ℕ). IsCaller so k rs (set os (s - 1) (Some new)) c n d) (first-same s q b d same) (subst (λ (e : Branch). IsCaller so k rs (set os (s - 1) (Some new)) c s e) (second-same s q b d same) h)
