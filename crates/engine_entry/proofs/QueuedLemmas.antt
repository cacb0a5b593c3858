-- A queued run that begins where the one before it ends.
use Rattle.std.proofs.Common.{◌≡◌, ℕ, zero, suc, ◌+◌, ◌-◌, ◌<◌, ◌⊎◌, inl, inr, List, [], ◌∷◌, ◌++◌, length, Bool, true, false, refl, sym, ap, subst, ◌∙◌, rules, arith}
use Rattle.std.specs.Prelude.{Option, Some, None, ◌&&◌, is_none, nat_eq, slice_get, if◌then◌else◌}
use Rattle.std.specs.Option.{option_map_or}
use Rattle.ha_config.specs.declared.config.Action.{Action}
use Rattle.ha_journal.specs.declared.entry.Entry.TheVariants.{Step}
use Rattle.ha_sight.specs.declared.item.Item.{Item}
use Rattle.ha_model.specs.declared.record.Record.{Record}
use Rattle.ha_journal.specs.Entries.{Stepped, step_of}
use Rattle.ha_journal.specs.Journal.{Journal, more, units}
use Rattle.ha_model.specs.Lawful.{Right, is_running, record_of}
use Rattle.ha_model.specs.Records.{CallEnds, Records, actions_of, spot_with, spots, spots_from}
use Rattle.ha_model.specs.Records.{next_spot}
use Rattle.ha_sight.specs.Scripts.{Branch, Spot}
use Rattle.ha_config.specs.Words.{Pairs}
use Rattle.ha_ready.specs.Agree.{step_at}
use Rattle.ha_ready.specs.ReadyPairs.{ready_with}
use Rattle.ha_ready.proofs.RunPast.{queued-rests}
use Rattle.run_modes.specs.Fits.{AreNumbered}
use Rattle.run_modes.specs.Table.{begun_by, is_live, waiting_first}
use Rattle.script_step.specs.declared.frames.Frames.{Frames}
use Rattle.script_step.specs.Continuation.{continuation}
use Rattle.script_step.specs.Few.{has_few_lists}
use Rattle.script_step.specs.Frames.{begins}
use Rattle.script_step.specs.Frames as run
use Rattle.script_step.specs.Gates.{first_fronts, open_branches}
use Rattle.script_step.specs.Sides.{first_stage, first_thread}
use Rattle.script_step.proofs.GateLemmas.{fresh-fronts, fresh-settled}
use Rattle.script_step.proofs.ListedLemmas.{fronts-are}
use Rattle.script_step.proofs.ParallelLemmas.{begun-in, prefixed-none}
use Rattle.engine_parts.specs.Fronts.{AreFronts}
use Rattle.engine_parts.specs.Records.{first_branches}
use Rattle.engine_parts.proofs.ReadyOneMore.{front-branches}
use Rattle.engine_parts.proofs.SteppersRun.{stepper-runs}

-- ---- which one begins

both : (p q : Bool) → (p && q) ≡ true → (p ≡ true) × (q ≡ true)
both true q e = (refl, e)
both false q e = absurd (let bad : ◌≡◌ {A = Bool} false true = e in cc)

none-of : {X : Type 0} (o : Option X) → is_none o ≡ true → o ≡ None
none-of None h = refl
none-of (Some x) h = absurd (let bad : ◌≡◌ {A = Bool} false true = h in cc)

-- a live run that has not begun, at index i of those behind n
pub record Queued (n q : ℕ) (rs : Records) : Type 0 where
  pub index : ℕ
  pub run : Record
  pub found : slice_get rs index ≡ Some run
  pub own : run.serial ≡ q
  pub place : q ≡ suc (n + index)
  pub waits : run.begin ≡ None
  pub live : run.end ≡ None

later-queued : (n q : ℕ) (r : Record) (rs : Records) → Queued (suc n) q rs → Queued n q (r ∷ rs)
later-queued n q r rs h = record { index = suc h.index; run = h.run; found = h.found; own = h.own; place = omega (arith, h.place); waits = h.waits; live = h.live }

waiting-found : (a n q : ℕ) (rs : Records) → AreNumbered n rs → waiting_first a rs ≡ Some q → Queued n q rs
waiting-found a n q [] num e = absurd (let bad : ◌≡◌ {A = Option ℕ} None (Some q) = e in cc)
waiting-found a n q (r ∷ rs) num e = by (is_live a r) refl (is_none r.begin) refl e (waiting-found a (suc n) q rs num.1)
  where
    by : (c : Bool) → is_live a r ≡ c → (d : Bool) → is_none r.begin ≡ d → (if c then (if d then Some r.serial else None) else waiting_first a rs) ≡ Some q
        → (waiting_first a rs ≡ Some q → Queued (suc n) q rs) → Queued n q (r ∷ rs)
    by true live true waits is rec =
        (let same : r.serial ≡ q = cc in
        record {
          index = 0;
          run = r;
          found = refl;
          own = same;
          place = omega (arith, num.0, same);
          waits = none-of r.begin waits;
          live = none-of r.end (both (nat_eq r.automation a) (is_none r.end) live).1;
        })
    by true live false waits is rec = absurd (let bad : ◌≡◌ {A = Option ℕ} None (Some q) = is in cc)
    by false live d waits is rec = later-queued n q r rs (rec is)

-- LAW: the run that begins was queued, behind the one that ends
pub begun-found : (s n q : ℕ) (rs : Records) → AreNumbered n rs → begun_by s rs ≡ Some q → Queued n q rs × (s < q)
begun-found s n q [] num e = absurd (let bad : ◌≡◌ {A = Option ℕ} None (Some q) = e in cc)
begun-found s n q (r ∷ rs) num e = by (nat_eq r.serial s) refl e (begun-found s (suc n) q rs num.1)
  where
    eq-of : (a b : ℕ) → nat_eq a b ≡ true → a ≡ b
    eq-of a b e = search (rules, e)

    by : (c : Bool) → nat_eq r.serial s ≡ c → (if c then waiting_first r.automation rs else begun_by s rs) ≡ Some q → (begun_by s rs ≡ Some q → Queued (suc n) q rs × (s < q)) → Queued n q (r ∷ rs) × (s < q)
    by true own is rec = (let found = waiting-found r.automation (suc n) q rs num.1 is in (later-queued n q r rs found, omega (arith, eq-of r.serial s own, num.0, found.place)))
    by false own is rec = (let later = rec is in (later-queued n q r rs later.0, later.1))

-- ---- it has no places

no-places : (s : ℕ) (before j : Journal) → ((p : ℕ) → step_at j s p ≡ false) → spots_from s before j ≡ []
no-places s before [] h = refl
no-places s before (x ∷ xs) h = (λ i. one (step_of x) (h 0) i ++ no-places s (before ++ (x ∷ [])) xs (λ p. h (suc p)) i)
  where
    one : (o : Option Stepped) → option_map_or (λ t. nat_eq t.serial s) o false ≡ false → option_map_or (λ t. if nat_eq t.serial s then next_spot before t.branch ∷ [] else []) o [] ≡ []
    one None e = refl
    one (Some t) e = (λ i. if e i then next_spot before t.branch ∷ [] else [])

pub step-where : (worker s : ℕ) (b : Branch) (item : Item) (i : Journal) (q p : ℕ) → step_at (more i (Step worker s b item)) q p ≡ true → (step_at i q p ≡ true) ⊎ (s ≡ q)
step-where worker s b item [] q zero h = inr (eq-of s q h)
  where
    eq-of : (a c : ℕ) → nat_eq a c ≡ true → a ≡ c
    eq-of a c e = search (rules, e)
step-where worker s b item [] q (suc p) h = absurd (let bad : ◌≡◌ {A = Bool} false true = h in cc)
step-where worker s b item (e ∷ es) q zero h = inl h
step-where worker s b item (e ∷ es) q (suc p) h = step-where worker s b item es q p h

-- LAW: a queued run has made no step
pub queued-nowhere : (j : Journal) (rs : Records) (worker s : ℕ) (b : Branch) (item : Item) (q : ℕ) (r : Record) → Right j rs → record_of rs q ≡ Some r → r.begin ≡ None → r.end ≡ None → (s ≡ q → ⊥)
    → spots (more j (Step worker s b item)) q ≡ []
queued-nowhere j rs worker s b item q r right found begin end apart = no-places q [] (more j (Step worker s b item)) (λ p. none p (step_at (more j (Step worker s b item)) q p) refl)
  where
    refuted : (p : ℕ) → (step_at j q p ≡ true) ⊎ (s ≡ q) → ⊥
    refuted p (inr same) = apart same
    refuted p (inl step) =
        (let run = stepper-runs j rs q p right step in
        let is = sym run.1 ∙ found in
        let same : run.0 ≡ r = cc in
        let runs : is_running (length j) r ≡ true = subst (λ (y : Record). y.end ≡ None → is_running (length j) y ≡ true) same run.4 end in
        let bad : ◌≡◌ {A = Bool} true false = sym runs ∙ queued-rests (length j) r begin in
        cc)

    none : (p : ℕ) (c : Bool) → step_at (more j (Step worker s b item)) q p ≡ c → c ≡ false
    none p false e = refl
    none p true e = absurd (refuted p (step-where worker s b item j q p e))

-- ---- its outer branch

-- frames at the begin of a script
fresh : (actions : List Action) (env : Pairs) → has_few_lists actions ≡ true → Frames
fresh actions env few = record {
  serial = 0;
  automation = 0;
  script = record { marker = record {}; value = actions };
  root = record { thread = first_thread (env ∷ []); stage = first_stage actions };
  few = few;
  settled = fresh-settled (env ∷ []) actions;
}

fresh-stands : (actions : List Action) (env : Pairs) (few : has_few_lists actions ≡ true) → run.Stands (fresh actions env few) actions env [] []
unfolding fresh
fresh-stands actions env few = record {
  script = refl;
  goes = λ ps.
      sym (prefixed-none (continuation (record { thread = first_thread (env ∷ []); stage = first_stage actions }) actions [] begins ps)
      ∙ begun-in (env ∷ []) actions [] begins ps);
}

first-open : (actions : List Action) (env : Pairs) → has_few_lists actions ≡ true → AreFronts actions env [] (first_fronts actions)
unfolding fresh
first-open actions env few at own = fronts-are (fresh actions env few) actions env [] [] at own (fresh-stands actions env few) ∙ ap (open_branches at) (fresh-fronts (env ∷ []) actions begins)

open-first : (told : CallEnds) (k : Journal) (actions : List Action) → open_branches (spot_with told k) (first_fronts actions) ≡ first_branches actions
open-first told k [] = refl
open-first told k (a ∷ rest) = refl

-- LAW: a run without places that runs has its outer branch, where its script has an action
pub first-ready : (told : CallEnds) (k : Journal) (r : Record) → is_running (length k) r ≡ true → spots k r.serial ≡ [] → has_few_lists (actions_of (units k) r.automation) ≡ true
    → ready_with told k r ≡ first_branches (actions_of (units k) r.automation)
first-ready told k r on nowhere few =
    let actions : List Action = actions_of (units k) r.automation in
    front-branches told k r (first_fronts actions) on (subst (λ (ss : List Spot). AreFronts actions r.env ss (first_fronts actions)) (sym nowhere) (first-open actions r.env few))
    ∙ open-first told k actions
