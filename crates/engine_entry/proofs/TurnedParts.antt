-- The parts while the automations that an entry turns are turned, one after the other.
use Rattle.std.proofs.Common.{◌≡◌, ℕ, zero, suc, ◌+◌, ◌-◌, ◌<◌, ◌≤◌, List, [], ◌∷◌, ◌++◌, length, drop, drop-cons, get_or, Bool, true, false, true≢false, refl, sym, ap, subst, ◌∙◌, rules, arith}
use Rattle.std.proofs.Math.Path.{fun_ext}
use Rattle.std.specs.Prelude.{Option, Some, None, IsNone, IsSome, MatchOption, is_some, not, nat_eq, ◌&&◌, ◌||◌, if◌then◌else◌}
use Rattle.std.specs.List.{list_all}
use Rattle.ha_clock.specs.Zone as clock
use Rattle.ha_value.specs.declared.value.EntityId.{EntityId}
use Rattle.ha_config.specs.declared.config.Automation.{Automation}
use Rattle.ha_sight.specs.declared.state.StateObject.{StateObject}
use Rattle.ha_config.specs.declared.config.Config.{Config}
use Rattle.ha_config.specs.Names.{unit_of}
use Rattle.ha_config.specs.Numbered.{has_number}
use Rattle.ha_config.proofs.NumberedLemmas.{get-within}
use Rattle.ha_config.specs.Equal.{same_flag}
use Rattle.ha_journal.specs.Journal.{Journal, HasEntry, in_force, helpers, now, units, zone_of, more}
use Rattle.ha_config.specs.Helpers.{is_helper}
use Rattle.ha_journal.specs.declared.event.BusEvent.{BusEvent}
use Rattle.ha_journal.specs.Helpers.{last_events}
use Rattle.ha_journal.proofs.EventLaws.{helps-none, last-events}
use Rattle.helper_set.specs.Kept as helped
use Rattle.helper_set.proofs.SightLemmas.{left-stands}
use Rattle.ha_journal.specs.Sights.{changes_switch}
use Rattle.ha_journal.specs.States.{states}
use Rattle.ha_journal.specs.Switches.{is_on}
use Rattle.ha_journal.proofs.MoreLemmas.{length-more}
use Rattle.ha_past.specs.Firings.{Owner, owner_named, placed, without_owner}
use Rattle.state_table.specs.Anew.{switch_object}
use Rattle.state_table.specs.Table.{ChangesAt, at}
use Rattle.state_laws.specs.Stands.{StandsFor}
use Rattle.state_table.specs.declared.table.StateTable.{StateTable}
use Rattle.ha_sight.specs.Sight.{Automations, switch_at}
use Rattle.segment_view.specs.Views.{IsShown}
use Rattle.switch_book.specs.Book.{with_switch}
use Rattle.switch_book.specs.Book as switches
use Rattle.trig_set.specs.Next.{Listed, state_listed}
use Rattle.trig_set.specs.Stands as triggers
use Rattle.trig_set.specs.declared.set.TrigSet.{TrigSet}
use Rattle.wait_set.specs.declared.asked.Asked.{Asked}
use Rattle.engine_parts.specs.declared.parts.Parts.{Parts}
use Rattle.engine_entry.specs.Between.{Between, Turning, TurnsAll, TurnsOne}
use Rattle.engine_parts.specs.Kept.{AreOwned, AreSound, Owned}
use Rattle.engine_parts.specs.Owners.{AreAscending, AreBelow}
use Rattle.engine_parts.specs.Runs.{first_wait}
use Rattle.engine_parts.specs.Stages.{Entered}
use Rattle.engine_entry.specs.Turned.{AreOnce, AreSet, FlagsBetween, OwnersBetween, Target, entity_named, is_target, less}
use Rattle.engine_parts.proofs.DetachLemmas.{ascend-without, below-more, below-without, named-without}
use Rattle.engine_entry.proofs.EnterLemmas.{now-left, sound-more, zone-more}
use Rattle.engine_parts.proofs.KeyLemmas.{keys_more}
use Rattle.engine_entry.proofs.ForceMore.{ascending-more, few-more, free-more, numbers-more}
use Rattle.engine_parts.specs.Numbers.{AreFew, is_ascending, numbers_in, rule_numbers}
use Rattle.engine_parts.proofs.OrderLemmas.{unit-low}
use Rattle.engine_entry.proofs.PlaceLemmas.{apart-of, ascend-placed, below-placed, eq-self, named-placed}
use Rattle.engine_entry.proofs.TurnedFlags.{flag-moves, flag-there, flags-begin, flags-end, flags-set}
use Rattle.engine_entry.proofs.TurnedOwners.{owner-none, owners-begin, owners-end, owners-off, owners-on, owners-stay}
use Rattle.engine_entry.proofs.TurnedStates.{listed-end, seen_at, listed-turned, states-begin, states-end, states-stay, states-turned}

-- ---- lists of targets

pub less-target : (t : Target) (ts : List Target) → is_target ts t.0 ≡ false → less (is_target (t ∷ ts)) t.0 ≡ is_target ts
less-target t ts once = fun_ext (λ b. by b (nat_eq t.0 b) refl (nat_eq b t.0) refl)
  where
    turned : (b c : ℕ) → nat_eq b c ≡ true → nat_eq c b ≡ true
    turned b c e = search (rules, e)

    here : (b : ℕ) → nat_eq b t.0 ≡ true → is_target ts b ≡ false
    here b e = (let same : b ≡ t.0 = search (rules, e) in ap (is_target ts) same ∙ once)

    keep : (u : Bool) → (u && true) ≡ u
    keep true = refl
    keep false = refl

    by : (b : ℕ) (u : Bool) → nat_eq t.0 b ≡ u → (v : Bool) → nat_eq b t.0 ≡ v → ((u || is_target ts b) && not v) ≡ is_target ts b
    by b true e true f = sym (here b f)
    by b true e false f = absurd (let bad : ◌≡◌ {A = Bool} true false = sym (turned t.0 b e) ∙ f in cc)
    by b false e true f = absurd (let bad : ◌≡◌ {A = Bool} true false = sym (turned b t.0 f) ∙ e in cc)
    by b false e false f = keep (is_target ts b)

pub own-target : (t : Target) (ts : List Target) → is_target (t ∷ ts) t.0 ≡ true
own-target t ts = (λ i. eq-self t.0 i || is_target ts t.0)

pub once-drop : (i : ℕ) (ts : List Target) → AreOnce ts → AreOnce (drop i ts)
once-drop zero ts h = h
once-drop (suc i) [] h = tt
once-drop (suc i) (t ∷ ts) h = once-drop i ts h.1

pub set-drop : (on n : ℕ → Bool) (i : ℕ) (ts : List Target) → AreSet on n ts → AreSet on n (drop i ts)
set-drop on n zero ts h = h
set-drop on n (suc i) [] h = tt
set-drop on n (suc i) (t ∷ ts) h = set-drop on n i ts h.2

-- ---- the waits' owners

owned-placed : (n : ℕ) (o : Owner) (os : List Owner) (asks : List Asked) → o.owner < first_wait → AreOwned n os asks → AreOwned n (placed o os) asks
owned-placed n o os [] low h = tt
owned-placed n o os (a ∷ asks) low h =
    (record { owner_is = h.0.owner_is; early = h.0.early; attached = λ e. named-placed o a.owner os (apart-of o.owner a.owner (λ same. omega (arith, same, low, h.0.owner_is))) ∙ h.0.attached e }, owned-placed n o os asks low h.1)

owned-lost : (n b : ℕ) (os : List Owner) (asks : List Asked) → b < first_wait → AreOwned n os asks → AreOwned n (without_owner b os) asks
owned-lost n b os [] low h = tt
owned-lost n b os (a ∷ asks) low h =
    (record { owner_is = h.0.owner_is; early = h.0.early; attached = λ e. named-without b a.owner os (apart-of a.owner b (λ same. omega (arith, same, low, h.0.owner_is))) ∙ h.0.attached e }, owned-lost n b os asks low h.1)

owned-more : (n m : ℕ) (os : List Owner) (asks : List Asked) → n ≤ m → AreOwned n os asks → AreOwned m os asks
owned-more n m os [] le h = tt
owned-more n m os (a ∷ asks) le h = (record { owner_is = h.0.owner_is; early = omega (arith, le, h.0.early); attached = h.0.attached }, owned-more n m os asks le h.1)

has-length : (j : Journal) → HasEntry j → 0 < length j
has-length [] h = absurd h
has-length (e ∷ es) h = omega arith

-- ---- the begin

-- LAW: before the first is turned, all that the entry turns are left
pub turning-begins : (k : Journal) (targets : List Target) (p : Parts) (h : Turning k targets p) → (v : List BusEvent) → Between h.j h.x (is_target targets) (record p { given = v; changed = false }) []
turning-begins k targets p h v =
    let only = h.turn.only in
    record {
      now_is = h.sees.looks.now_is ∙ sym (now-left h.j h.x only.moment);
      flags = flags-begin h.j h.x only.some only.reloads (is_target targets) h.turn.others p.switches h.sees.switches_stand;
      states = record {
        stand = λ e. h.sees.looks.states_stand e ∙ states-begin h.j h.x only.some only.report only.gone only.restart only.opens only.reloads only.still only.changes (is_target targets) h.turn.others e;
        listed = λ e. sym (states-begin h.j h.x only.some only.report only.gone only.restart only.opens only.reloads only.still only.changes (is_target targets) h.turn.others e);
      };
      owners = owners-begin h.j h.x only.some only.reloads (is_target targets) only.opens (has-length h.j only.some) h.turn.others (triggers.attached p.triggers) h.owned.automations_attached;
      ascend = h.owned.ascend;
      early = below-more (first_wait + length h.j) (first_wait + length (more h.j h.x)) (triggers.attached p.triggers) (omega (arith, length-more h.j h.x)) h.owned.early;
      waits_owned = owned-more (length h.j) (length (more h.j h.x)) (triggers.attached p.triggers) p.waits.asks (omega (arith, length-more h.j h.x)) h.owned.waits_owned;
      stand = h.triggers_stand;
    }

-- ---- one of them

module _ (y : Automation) (a : ℕ) (on : Bool) (place : ℕ) (p : Parts) (before : Listed) (h : TurnsOne y a on place p before) where
  abbrev k : Journal
  k = more h.j h.x

  -- LAW: its number is below those of the owners of waits
  pub low-number : a < first_wait
  low-number = unit-low h.j a h.few (get-within (units h.j) a y h.here)

  -- LAW: its switch is there
  pub switch-there : IsSome (switch_at p.switches a)
  switch-there = subst IsSome (sym (flag-there h.j h.x h.only.some h.only.reloads h.left a h.is_left h.known on h.on_is p.switches p.changed h.between.flags)) refl

  -- what `set` says of it
  moves : (moved : Bool) → switch_at p.switches a ≡ Some (same_flag on (not moved)) → moved ≡ not (same_flag (is_on h.j a) (is_on k a))
  moves moved e = flag-moves h.j h.x h.only.some h.only.reloads h.left a h.is_left h.known on h.on_is p.switches p.changed moved h.between.flags e

  set-flags : (s' : Automations) (moved : Bool) → s' ≡ with_switch a on p.switches → switch_at p.switches a ≡ Some (same_flag on (not moved))
      → FlagsBetween h.j k (less h.left a) s' (if moved then true else p.changed)
  set-flags s' moved are e = flags-set h.j h.x h.only.some h.only.reloads h.left a h.is_left h.known on h.on_is p.switches s' p.changed moved h.between.flags are e

  same-of : (u v : Bool) → false ≡ not (same_flag u v) → v ≡ u
  same-of true true e = refl
  same-of true false e = absurd (let bad : ◌≡◌ {A = Bool} false true = e in cc)
  same-of false true e = absurd (let bad : ◌≡◌ {A = Bool} false true = e in cc)
  same-of false false e = refl

  other-of : (u v : Bool) → true ≡ not (same_flag u v) → u ≡ not v
  other-of true true e = absurd (let bad : ◌≡◌ {A = Bool} true false = e in cc)
  other-of true false e = refl
  other-of false true e = refl
  other-of false false e = absurd (let bad : ◌≡◌ {A = Bool} true false = e in cc)

  fine-as : (e : EntityId) (o : Option (Option StateObject)) → seen_at h.j h.x h.left e ≡ seen_at h.j h.x (less h.left a) e
      → MatchOption o (seen_at h.j h.x h.left e ≡ states h.j e) (λ o. o ≡ states h.j e) → MatchOption o (seen_at h.j h.x (less h.left a) e ≡ states h.j e) (λ o. o ≡ states h.j e)
  fine-as e (Some o) same g = g
  fine-as e None same g = sym same ∙ g

  -- LAW: where its switch stays, nothing else changes
  pub turned-none : (s' : Automations) → s' ≡ with_switch a on p.switches → switch_at p.switches a ≡ Some (same_flag on (not false))
      → Between h.j h.x (less h.left a) (record p { switches = s' }) before
  turned-none s' are e =
      let same : is_on k a ≡ is_on h.j a = same-of (is_on h.j a) (is_on k a) (moves false e) in
      let stay = states-stay h.j h.x h.only.some h.only.report h.only.gone h.only.restart h.only.opens h.only.reloads h.only.still h.only.changes h.left a same in
      record {
        now_is = h.between.now_is;
        flags = set-flags s' false are e;
        states = record { stand = λ q. h.between.states.stand q ∙ stay q; listed = λ q. fine-as q (state_listed before q) (stay q) (h.between.states.listed q) };
        owners = owners-stay h.j h.x h.only.some h.only.reloads h.left h.only.opens a same (triggers.attached p.triggers) h.between.owners;
        ascend = h.between.ascend;
        early = h.between.early;
        waits_owned = h.between.waits_owned;
        stand = h.between.stand;
      }

  module _ (e : switch_at p.switches a ≡ Some (same_flag on (not true))) where
    was : is_on h.j a ≡ not on
    was = other-of (is_on h.j a) (is_on k a) (moves true e) ∙ (λ i. not (h.on_is i))

    turned : same_flag (is_on h.j a) (is_on k a) ≡ false
    turned = not-true (same_flag (is_on h.j a) (is_on k a)) (moves true e)
      where
        not-true : (b : Bool) → true ≡ not b → b ≡ false
        not-true true f = absurd (let bad : ◌≡◌ {A = Bool} true false = f in cc)
        not-true false f = refl

    -- LAW: where it is turned on, its triggers are not attached
    pub fresh-on : on ≡ true → IsNone (owner_named a (triggers.attached p.triggers))
    fresh-on is = subst IsNone (sym (owner-none h.j h.x h.only.some h.only.reloads h.left a h.is_left (was ∙ (λ i. not (is i))) low-number (triggers.attached p.triggers) h.between.owners)) refl

    -- the owners, where it is turned
    record Attaches (os : List Owner) : Type 0 where
      owners : OwnersBetween h.j k (less h.left a) os
      ascend : AreAscending 0 os
      early : AreBelow (first_wait + length k) os
      waits_owned : AreOwned (length k) os p.waits.asks

    attaches : (b : Bool) → on ≡ b → Attaches (if b then placed (record { owner = a; triggers = y.triggers; since = place }) (triggers.attached p.triggers) else without_owner a (triggers.attached p.triggers))
    attaches true is =
        let own : Owner = record { owner = a; triggers = y.triggers; since = place } in
        let os = triggers.attached p.triggers in
        let off : is_on h.j a ≡ false = was ∙ (λ i. not (is i)) in
        let none = owner-none h.j h.x h.only.some h.only.reloads h.left a h.is_left off low-number os h.between.owners in
        record {
          owners = subst (λ (n : ℕ). OwnersBetween h.j k (less h.left a) (placed (record { owner = a; triggers = y.triggers; since = n }) os)) (sym h.at)
              (owners-on h.j h.x h.only.some h.only.reloads h.left a h.is_left h.known off (h.on_is ∙ is) low-number y h.here os h.between.ascend h.between.owners);
          ascend = ascend-placed own 0 os (omega arith) none h.between.ascend;
          early = below-placed own (first_wait + length k) os (omega (arith, low-number)) h.between.early;
          waits_owned = owned-placed (length k) own os p.waits.asks low-number h.between.waits_owned;
        }
    attaches false is =
        let os = triggers.attached p.triggers in
        record {
          owners = owners-off h.j h.x h.only.some h.only.reloads h.left a (h.on_is ∙ is) os h.between.owners;
          ascend = ascend-without a 0 os h.between.ascend;
          early = below-without a (first_wait + length k) os h.between.early;
          waits_owned = owned-lost (length k) a os p.waits.asks low-number h.between.waits_owned;
        }

    -- LAW: with its switch, its state and its triggers it is done
    pub turned-some : (s' : Automations) → s' ≡ with_switch a on p.switches
        → (t' : StateTable) → ChangesAt p.states t' (entity_named y.name) (Some (switch_object on p.at)) → (before' : Listed) → before' ≡ before ++ ((entity_named y.name, at p.states (entity_named y.name)) ∷ [])
        → (g' : TrigSet) → triggers.attached g' ≡ (if on then placed (record { owner = a; triggers = y.triggers; since = place }) (triggers.attached p.triggers) else without_owner a (triggers.attached p.triggers))
        → triggers.StandsFor g' h.j → Between h.j h.x (less h.left a) (record p { switches = s'; states = t'; triggers = g'; changed = true }) before'
    turned-some s' are t' changes before' listed g' attached' stands' =
        let own : Attaches (triggers.attached g') = subst Attaches (sym attached') (attaches on refl) in
        record {
          now_is = h.between.now_is;
          flags = set-flags s' true are e;
          states = record {
            stand = states-turned h.j h.x h.only.some h.only.report h.only.gone h.only.restart h.only.opens h.only.reloads h.only.still h.only.changes h.sound h.left a y h.known h.here h.is_left on p.at turned h.on_is h.between.now_is (at p.states) (at t') changes h.between.states.stand;
            listed = λ q. subst (λ (l : Listed). MatchOption (state_listed l q) (seen_at h.j h.x (less h.left a) q ≡ states h.j q) (λ o. o ≡ states h.j q)) (sym listed)
                (listed-turned h.j h.x h.only.some h.only.report h.only.gone h.only.restart h.only.opens h.only.reloads h.only.still h.only.changes h.sound h.left a y h.known h.here h.is_left (at p.states) before h.between.states.stand h.between.states.listed q);
          };
          owners = own.owners;
          ascend = own.ascend;
          early = own.early;
          waits_owned = own.waits_owned;
          stand = stands';
        }

-- ---- the end

-- LAW: when all are turned, the parts are those behind the entry, of which the triggers and the waits have still to be told
pub turning-ends : (k : Journal) (targets : List Target) (p : Parts) (h : Turning k targets p) (s : Automations) (t : StateTable) (g : TrigSet) (v : List BusEvent) (c : Bool) (before : Listed) → v ≡ []
    → Between h.j h.x (is_target []) (record p { switches = s; states = t; triggers = g; given = v; changed = c }) before → Entered k (record p { switches = s; states = t; triggers = g; given = v; changed = c }) before
turning-ends k targets p h s t g v c before quiet b =
    let only = h.turn.only in
    let longer : more h.j h.x ≡ k = sym h.journal_is in
    let done = flags-end h.j h.x only.some only.reloads s c b.flags in
    record {
      sees = record {
        looks = record {
          now_is = b.now_is ∙ ap now longer;
          in_time = h.sees.looks.in_time;
          zone_is = h.sees.looks.zone_is ∙ sym (zone-more h.j h.x only.some) ∙ ap zone_of longer;
          zone_read = subst (λ z. IsSome (clock.zone_of z)) (sym (zone-more h.j h.x only.some) ∙ ap zone_of longer) h.sees.looks.zone_read;
          states_stand = subst (StandsFor t) longer (states-end h.j h.x only.some only.report only.gone only.restart only.opens only.reloads only.still only.changes (at t) b.states.stand);
          numbers_are = h.sees.looks.numbers_are ∙ numbers-more h.j h.x only.some only.reloads ∙ ap (λ (i : Journal). numbers_in i) longer;
        };
        helpers_stand = subst (helped.StandsFor p.helpers) longer (left-stands h.j only.some p.helpers.kept.items p.helpers.timers h.sees.helpers_stand h.x only.changes only.still);
        switches_stand = subst (switches.StandsFor s) longer done.0;
        changed_is = λ plain. done.1 ∙ ap (λ (i : Journal). changes_switch i) longer;
        sound = subst AreSound longer (sound-more h.j h.x only.some only.reloads h.sees.sound);
        few = subst AreFew longer (few-more h.j h.x only.some only.reloads h.sees.few);
        free_is = free-more h.j h.x only.some only.reloads p.free h.sees.free_is ∙ ap (λ (i : Journal). length (units i)) longer;
        ascending_is = h.sees.ascending_is ∙ ascending-more h.j h.x only.some only.reloads ∙ ap (λ (i : Journal). is_ascending (rule_numbers i)) longer;
      };
      untold = record {
        j = h.j;
        x = h.x;
        journal_is = h.journal_is;
        journal = h.journal;
        some = only.some;
        triggers_stand = b.stand;
        waits_stand = h.waits_stand;
        owned = subst (λ (i : Journal). Owned i g p.waits) longer (record {
          automations_attached = owners-end h.j h.x only.some only.reloads (triggers.attached g) b.owners;
          ascend = b.ascend;
          early = b.early;
          waits_owned = b.waits_owned;
          apart = h.owned.apart;
        });
        listed = λ earlier. listed-end h.j h.x only.some only.report only.gone only.restart only.opens only.reloads only.still only.changes before b.states.listed;
        apart = λ spared. absurd (true≢false (sym spared ∙ (λ i. only.opens i || is_some (only.report i) || is_some (only.gone i))));
        helped = (λ i. list_all (λ a. is_helper (helpers (more h.j h.x)) a.entity) (only.changes i));
      };
      given_is = quiet ∙ sym (helps-none h.j h.x only.changes only.still) ∙ sym (last-events h.j h.x) ∙ ap last_events longer;
      keys_early = keys_more (length h.j) (length k) p.delays (omega (arith, length-more h.j h.x, ap length h.journal_is)) h.keys_early;
    }

-- ---- the next of them

module _ (config : Config) (targets : List Target) (place : ℕ) (p : Parts) (before : Listed) (h : TurnsAll config targets place p before) (i : ℕ) (lt : i < length targets) where
  abbrev t : Target
  t = get_or targets i (0, false, false)

  pub cut : drop i targets ≡ t ∷ drop (i + 1) targets
  cut = drop-cons targets i (0, false, false) lt ∙ (let e : suc i ≡ i + 1 = omega arith in ap (λ n. t ∷ drop n targets) e)

  pub fits : AreSet (is_on (more h.j h.x)) (has_number (in_force h.j)) (t ∷ drop (i + 1) targets)
  fits = subst (AreSet (is_on (more h.j h.x)) (has_number (in_force h.j))) cut (set-drop (is_on (more h.j h.x)) (has_number (in_force h.j)) i targets h.set)

  once : is_target (drop (i + 1) targets) t.0 ≡ false
  once = (let here : AreOnce (t ∷ drop (i + 1) targets) = subst AreOnce cut (once-drop i targets h.once) in here.0)

  -- LAW: it is in force
  pub next-known : has_number (in_force h.j) t.0 ≡ true
  next-known = fits.0

  pub next-shown : IsShown h.j config p.numbers
  next-shown = record { some = h.only.some; config_is = h.config_is; numbers_are = h.numbers_are }

  -- LAW: it is to be turned
  abbrev pub next-turns : (q : Parts) (before' : Listed) → Between h.j h.x (is_target (drop i targets)) q before' → (y : Automation) → unit_of (units h.j) t.0 ≡ Some y → TurnsOne y t.0 t.1 place q before'
  next-turns q before' between y here = record {
    j = h.j;
    x = h.x;
    left = is_target (drop i targets);
    only = h.only;
    sound = h.sound;
    few = h.few;
    here = here;
    known = fits.0;
    is_left = ap (λ (l : List Target). is_target l t.0) cut ∙ own-target t (drop (i + 1) targets);
    on_is = fits.1;
    at = h.at;
    between = between;
  }

  -- LAW: when it is turned, the others are left
  pub next-done : (q : Parts) (before' : Listed) → Between h.j h.x (less (is_target (drop i targets)) t.0) q before' → Between h.j h.x (is_target (drop (i + 1) targets)) q before'
  next-done q before' between =
      subst (λ (left : ℕ → Bool). Between h.j h.x left q before')
      ((λ n. less (is_target (cut n)) t.0) ∙ less-target t (drop (i + 1) targets) once) between
