-- The two meanings of each kind of action are the same, where those of its lists are.
use Rattle.std.proofs.Common.{◌≡◌, ℕ, zero, suc, ◌-◌, Bool, true, false, List, [], ◌∷◌, ◌++◌, length, refl, sym, ap, ◌∙◌, arith}
use Rattle.std.specs.Prelude.{Option, Some, None, nat_le, ◌||◌, if◌then◌else◌}
use Rattle.std.specs.Option.{option_map_or}
use Rattle.ha_config.specs.declared.template.Template.{Template}
use Rattle.ha_config.specs.declared.config.Trigger.{Trigger}
use Rattle.ha_config.specs.declared.config.SpanForm.{SpanForm}
use Rattle.ha_config.specs.declared.config.RepeatKind.{RepeatKind}
use Rattle.ha_sight.specs.declared.item.Item.{Item}
use Rattle.ha_sight.specs.declared.waiting.WaitEnd.{WaitEnd}
use Rattle.ha_sight.specs.Calls.{spans_of, count_of, forms_of}
use Rattle.ha_sight.specs.Scripts.{Branch, Scopes, Ask, Spot, Status, Next, Part, Loop, flat, outer, gives, ends, on_checked, after_turn, turns, looped, count_loop, each_loop, while_loop, until_loop, most_turns, repeated, goes_into, delayed, wait_for, call_ask, scopes_behind, waited, called, behind_call}
use Rattle.script_laws.specs.Direct.{Standing, Left, Effect, leaves, at_place, items_then, and_then, does, delays, waited_for, waits, begins_wait, calls, in_block, turns_from, repeats}
use Rattle.script_laws.specs.Followed.{followed}
use Rattle.script_laws.proofs.FollowLemmas.{one-item, item-follows, place-follows, done-follows, field-follows, option-follows, block-follows, block-then}
use Rattle.script_laws.proofs.BesideLemmas.{SameList}

-- ---- kinds that have no list

module _ (next end : Next) (scopes : Scopes) (b : Branch) where
  pub delay-same : (due : ℕ) (rest : List Spot) → delayed due next scopes b rest ≡ followed next end (delays due scopes b rest)
  delay-same due =
      place-follows next end b scopes (λ s after. if nat_le due s.sight.now then gives Item.Nothing (next scopes after) else None)
      (λ s after. if nat_le due s.sight.now then does Item.Nothing scopes after else None) (λ s after. by (nat_le due s.sight.now) after)
    where
      by : (c : Bool) (after : List Spot) → (if c then gives Item.Nothing (next scopes after) else None) ≡ followed next end (if c then does Item.Nothing scopes after else None)
      by true after = done-follows next end Item.Nothing scopes after
      by false after = refl

  pub wait-same : (ask : Ask) (go_on : Bool) (p : ℕ) (rest : List Spot) → waited ask go_on p next scopes b rest ≡ followed next end (waits ask go_on p scopes b rest)
  wait-same ask go_on p =
      place-follows next end b scopes
      (λ s after. option_map_or (λ e. gives Item.Nothing (if e.done || go_on then next (scopes_behind ask e scopes) after else ends Status.Stopped after)) (s.wait_end ask p) None)
      (λ s after. option_map_or (λ e. waited_for ask e go_on scopes after) (s.wait_end ask p) None) (λ s after. by (s.wait_end ask p) after)
    where
      ended : (e : WaitEnd) (c : Bool) (after : List Spot)
          → gives Item.Nothing (if c then next (scopes_behind ask e scopes) after else ends Status.Stopped after)
          ≡ followed next end (if c then does Item.Nothing (scopes_behind ask e scopes) after else leaves (Item.Nothing ∷ []) Standing.Stopped scopes after)
      ended e true after = done-follows next end Item.Nothing (scopes_behind ask e scopes) after
      ended e false after = one-item Item.Nothing (ends Status.Stopped after)

      by : (o : Option WaitEnd) (after : List Spot)
          → option_map_or (λ e. gives Item.Nothing (if e.done || go_on then next (scopes_behind ask e scopes) after else ends Status.Stopped after)) o None
          ≡ followed next end (option_map_or (λ e. waited_for ask e go_on scopes after) o None)
      by None after = refl
      by (Some e) after = ended e (e.done || go_on) after

  pub begins-same : (test : Option Template) (triggers : List Trigger) (timeout : Option SpanForm) (go_on : Bool) (p : Spot) (rest : List Spot)
      → on_checked (λ d. gives Item.Nothing (waited (wait_for test triggers d scopes) go_on p.place next scopes b rest)) (spans_of p.sight (flat scopes) timeout) rest
      ≡ followed next end (begins_wait test triggers timeout go_on p scopes b rest)
  begins-same test triggers timeout go_on p rest =
      field-follows next end (λ d. gives Item.Nothing (waited (ask d) go_on p.place next scopes b rest)) (λ d. items_then (Item.Nothing ∷ []) (waits (ask d) go_on p.place scopes b rest))
      (λ d. ap (gives Item.Nothing) (wait-same (ask d) go_on p.place rest) ∙ item-follows next end Item.Nothing (waits (ask d) go_on p.place scopes b rest))
      (spans_of p.sight (flat scopes) timeout) scopes rest
    where
      ask : Option ℕ → Ask
      ask d = wait_for test triggers d scopes

  -- a call that waits, or not
  pub call-same : (item : Item) (p : ℕ) (rest : List Spot) → called item (behind_call item p next scopes b rest) rest ≡ followed next end (calls item p scopes b rest)
  call-same (Item.Started scripts fields true) p rest =
      ap (gives (Item.Started scripts fields true)) (wait-same (call_ask scopes) true p rest)
      ∙ item-follows next end (Item.Started scripts fields true) (waits (call_ask scopes) true p scopes b rest)
  call-same (Item.Started scripts fields false) p rest = done-follows next end (Item.Started scripts fields false) scopes rest
  call-same (Item.Halted scripts) p rest = done-follows next end (Item.Halted scripts) scopes rest
  call-same (Item.Helped changes) p rest = done-follows next end (Item.Helped changes) scopes rest
  call-same (Item.Failed code) p rest = done-follows next end (Item.Failed code) scopes rest
  call-same Item.Nothing p rest = done-follows next end Item.Nothing scopes rest
  call-same (Item.Call service target fields) p rest = done-follows next end (Item.Call service target fields) scopes rest
  call-same (Item.Fired kind pairs) p rest = done-follows next end (Item.Fired kind pairs) scopes rest
  call-same (Item.Switched targets) p rest = done-follows next end (Item.Switched targets) scopes rest
  call-same (Item.Triggered automations skip) p rest = done-follows next end (Item.Triggered automations skip) scopes rest

  pub test-same : (c : Bool) (rest : List Spot) → gives Item.Nothing (if c then next scopes rest else end scopes rest)
      ≡ followed next end (leaves (Item.Nothing ∷ []) (if c then Standing.Done else Standing.ListDone) scopes rest)
  test-same true rest = one-item Item.Nothing (next scopes rest)
  test-same false rest = one-item Item.Nothing (end scopes rest)

-- ---- kinds that go into lists

pub into-same : (part : Part) (list : Effect) → SameList part list → (next end : Next) (scopes : Scopes) (b : Branch) (rest : List Spot)
    → goes_into part next scopes b rest ≡ followed next end (items_then (Item.Nothing ∷ []) (in_block [] list scopes b rest))
into-same part list same next end scopes b rest =
    let inside = scopes ++ ([] ∷ []) in
    ap (gives Item.Nothing) (same.0 (λ s p. next (outer s) p) inside b rest ∙ block-follows next end (list inside b rest) (same.1 inside b rest))
    ∙ item-follows next end Item.Nothing (in_block [] list scopes b rest)

pub either-same : (c : Bool) (part part' : Part) (list list' : Effect) → SameList part list → SameList part' list' → SameList (if c then part else part') (if c then list else list')
either-same true part part' list list' h k = h
either-same false part part' list list' h k = k

module _ (body : Part) (list : Effect) (same : SameList body list) (loop : Loop) (b : Branch) (next end : Next) where
  -- the turns behind the place that enters turn i
  abbrev entered : ℕ → ℕ → Scopes → List Spot → Option Left
  entered more i scopes rest = and_then (in_block (loop.variables i) list scopes b rest) (λ s after. at_place b s after (λ q later. turns_from list loop b more (suc i) s q later))

  abbrev again : ℕ → ℕ → Next
  again zero i s rest = gives (Item.Failed 6) (ends Status.Faulted rest)
  again (suc more) i s rest = gives Item.Nothing (turns body loop b next more (suc i) s rest)

  turn-opens : (more i : ℕ) (scopes : Scopes) (ps : List Spot) → turns body loop b next more i scopes ps ≡ body (after_turn body loop b next i (again more i)) (scopes ++ (loop.variables i ∷ [])) b ps
  unfolding turns
  turn-opens zero i scopes ps = refl
  turn-opens (suc more) i scopes ps = refl

  -- turn i, and those behind it
  abbrev TurnsSame : ℕ → ℕ → Type 0
  TurnsSame more i = (scopes : Scopes) (rest : List Spot) → turns body loop b next more i scopes rest ≡ followed next end (entered more i scopes rest)

  abbrev LaterSame : ℕ → ℕ → Type 0
  LaterSame zero i = Unit {0}
  LaterSame (suc more) i = TurnsSame more (suc i)

  -- a place at which turn i + 1 is entered, or the repeat ends
  place-same : (more i : ℕ) → LaterSame more i → (scopes : Scopes) (q : Spot) (later : List Spot)
      → (if loop.enters (suc i) scopes q.sight then again more i scopes later else gives Item.Nothing (next scopes later))
      ≡ followed next end (turns_from list loop b more (suc i) scopes q later)
  unfolding turns_from
  place-same zero i h scopes q later = by (loop.enters (suc i) scopes q.sight)
    where
      by : (c : Bool) → (if c then gives (Item.Failed 6) (ends Status.Faulted later) else gives Item.Nothing (next scopes later))
          ≡ followed next end (if c then does (Item.Failed 6) scopes later else does Item.Nothing scopes later)
      by true = one-item (Item.Failed 6) (ends Status.Faulted later)
      by false = one-item Item.Nothing (next scopes later)
  place-same (suc more) i h scopes q later = by (loop.enters (suc i) scopes q.sight)
    where
      by : (c : Bool) → (if c then gives Item.Nothing (turns body loop b next more (suc i) scopes later) else gives Item.Nothing (next scopes later))
          ≡ followed next end (if c then items_then (Item.Nothing ∷ []) (entered more (suc i) scopes later) else does Item.Nothing scopes later)
      by true = ap (gives Item.Nothing) (h scopes later) ∙ item-follows next end Item.Nothing (entered more (suc i) scopes later)
      by false = one-item Item.Nothing (next scopes later)

  turn-same : (more i : ℕ) → LaterSame more i → TurnsSame more i
  turn-same more i h scopes rest =
      let inside = scopes ++ (loop.variables i ∷ []) in
      turn-opens more i scopes rest
      ∙ same.0 (after_turn body loop b next i (again more i)) inside b rest
      ∙ block-then next end (after_turn body loop b next i (again more i)) (λ s after. at_place b s after (λ q later. turns_from list loop b more (suc i) s q later))
      (λ s ps. place-follows next end b (outer s) (λ q later. if loop.enters (suc i) (outer s) q.sight then again more i (outer s) later else gives Item.Nothing (next (outer s) later))
      (λ q later. turns_from list loop b more (suc i) (outer s) q later) (place-same more i h (outer s)) ps)
      (list inside b rest) (same.1 inside b rest)

  turns-same : (more i : ℕ) → TurnsSame more i
  turns-same zero i = turn-same zero i tt
  turns-same (suc more) i = turn-same (suc more) i (turns-same more (suc i))

  -- the repeat from its own place on, with so many turns at most
  loop-same : (scopes : Scopes) (p : Spot) (rest : List Spot) (n : ℕ) → (n ≡ 0 → loop.enters 1 scopes p.sight ≡ false)
      → looped body loop b next (loop.enters 1 scopes p.sight) (n - 1) scopes rest ≡ followed next end (turns_from list loop b n 1 scopes p rest)
  unfolding turns_from
  loop-same scopes p rest zero h =
      (λ i. looped body loop b next (h refl i) 0 scopes rest)
      ∙ one-item Item.Nothing (next scopes rest)
      ∙ (λ i. followed next end (if sym (h refl) i then does (Item.Failed 6) scopes rest else does Item.Nothing scopes rest))
  loop-same scopes p rest (suc more) h =
      let less : suc more - 1 ≡ more = omega arith in
      (λ i. looped body loop b next (loop.enters 1 scopes p.sight) (less i) scopes rest)
      ∙ by (loop.enters 1 scopes p.sight)
      ∙ place-same (suc more) 0 (turns-same more 1) scopes p rest
    where
      by : (c : Bool) → looped body loop b next c more scopes rest ≡ (if c then gives Item.Nothing (turns body loop b next more 1 scopes rest) else gives Item.Nothing (next scopes rest))
      by true = refl
      by false = refl

pub repeat-same : (kind : RepeatKind) (body : Part) (list : Effect) → SameList body list → (p : Spot) (next end : Next) (scopes : Scopes) (b : Branch) (rest : List Spot)
    → repeated kind body p next scopes b rest ≡ followed next end (repeats kind list p scopes b rest)
repeat-same (RepeatKind.Count t) body list same p next end scopes b rest =
    field-follows next end (λ n. looped body (count_loop n) b next (nat_le 1 n) (n - 1) scopes rest) (λ n. turns_from list (count_loop n) b n 1 scopes p rest)
    (λ n. loop-same body list same (count_loop n) b next end scopes p rest n (ap (nat_le 1))) (count_of p.sight (flat scopes) t) scopes rest
repeat-same (RepeatKind.Each fs) body list same p next end scopes b rest =
    option-follows next end (λ vs. looped body (each_loop vs) b next (nat_le 1 (length vs)) (length vs - 1) scopes rest) (λ vs. turns_from list (each_loop vs) b (length vs) 1 scopes p rest)
    (λ vs. loop-same body list same (each_loop vs) b next end scopes p rest (length vs) (ap (nat_le 1))) (forms_of p.sight (flat scopes) fs) scopes rest
repeat-same (RepeatKind.While cs) body list same p next end scopes b rest =
    loop-same body list same (while_loop cs) b next end scopes p rest most_turns (λ e. absurd (omega (arith, e)))
repeat-same (RepeatKind.Until cs) body list same p next end scopes b rest =
    loop-same body list same (until_loop cs) b next end scopes p rest most_turns (λ e. absurd (omega (arith, e)))
