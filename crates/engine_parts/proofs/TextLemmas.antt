-- The texts that an entry gives helpers, one after the other, and what they make of the states.
use Rattle.std.proofs.Common.{◌≡◌, ℕ, zero, suc, ◌<◌, List, [], ◌∷◌, ◌++◌, length, take, get_or, map, Bool, true, false, true≢false, refl, sym, ap, subst, ◌∙◌, arith, append-nil}
use Rattle.std.specs.Prelude.{Option, Some, None, MatchOption, codes, filter_map, find, is_some, option_map, not, ◌&&◌, ◌||◌, if◌then◌else◌}
use Rattle.std.specs.List.{list_all, list_any}
use Rattle.std.specs.Option.{option_map_or}
use Rattle.ha_value.specs.declared.value.EntityId.{EntityId}
use Rattle.ha_config.specs.declared.helper.Helper.{Helper}
use Rattle.ha_config.specs.Helpers.{helper_named, is_helper}
use Rattle.ha_config.specs.Words.{Text, same, same_entity}
use Rattle.ha_config.proofs.EqualLemmas.{and_left, and_right, entity-sound}
use Rattle.ha_sight.specs.declared.helped.HelperChange.{HelperChange}
use Rattle.ha_sight.specs.declared.state.StateObject.{StateObject}
use Rattle.ha_sight.specs.StateStep.{next_object}
use Rattle.ha_config.specs.declared.config.Config.{Config}
use Rattle.ha_journal.specs.declared.carry.Carry.{Carry}
use Rattle.ha_journal.specs.declared.entry.Entry.{Entry}
use Rattle.ha_journal.specs.declared.entry.Entry.TheVariants.{Boot}
use Rattle.ha_journal.specs.Entries.{change_of, changes_in, gone_in, is_boot, is_moment, is_restart, report_in}
use Rattle.ha_journal.specs.Helpers.{event_of_change, finished, finishes, text_of, timer_event}
use Rattle.ha_journal.specs.Journal.{Journal, HasEntry, helpers, more, now}
use Rattle.ha_journal.specs.States.{states}
use Rattle.ha_journal.proofs.EventLaws.{helps-none, none-finish}
use Rattle.ha_journal.proofs.HelperLaws.{finishes-not, no-change, text-more, text_with}
use Rattle.ha_journal.proofs.NamedLaws.{before-is, finished-is, finished-nobody, named-is}
use Rattle.ha_journal.proofs.MoreLemmas.{helpers-more}
use Rattle.entity_places.specs.declared.places.Places.{Places}
use Rattle.entity_places.specs.Placed.{ArePlaced, place_in}
use Rattle.entity_places.proofs.PlaceLemmas.{placed-has}
use Rattle.helper_set.specs.Kept.{AreOutside}
use Rattle.state_laws.specs.Stands.{StandsFor, gives_text, sets_anew}
use Rattle.state_laws.proofs.StateLaws.{states-helper, states-other}
use Rattle.state_table.specs.Anew.{is_automation}
use Rattle.state_table.specs.Table.{at}
use Rattle.state_table.specs.declared.table.StateTable.{StateTable}
use Rattle.trig_set.specs.Next.{AreListed, Listed, changes_helpers, lists, reports, state_listed}
use Rattle.trig_set.proofs.TabledLemmas.{same-turned}
use Rattle.engine_parts.specs.Texts.{AreGiven, AreTold, IsGiven, change_is_of, first_change, first_of, idle_change}

-- ---- lists

pub map-next : {X Y : Type 0} (f : X → Y) (d : X) (xs : List X) (n : ℕ) → n < length xs → map f (take (suc n) xs) ≡ map f (take n xs) ++ (f (get_or xs n d) ∷ [])
map-next f d [] n lt = absurd (omega (arith, lt))
map-next f d (x ∷ xs) zero lt = refl
map-next f d (x ∷ xs) (suc n) lt = (λ i. f x ∷ map-next f d xs n (omega (arith, lt)) i)

abbrev either_of : {X : Type 0} → Option X → Option X → Option X
either_of o p = option_map_or Some o p

first-snoc : (cs : List HelperChange) (c : HelperChange) (e : EntityId) → first_of (cs ++ (c ∷ [])) e ≡ either_of (first_of cs e) (if same_entity c.entity e then Some c else None)
first-snoc [] c e = refl
first-snoc (d ∷ ds) c e = by (same_entity d.entity e) (first-snoc ds c e)
  where
    by : (b : Bool) → first_of (ds ++ (c ∷ [])) e ≡ either_of (first_of ds e) (if same_entity c.entity e then Some c else None)
        → (if b then Some d else first_of (ds ++ (c ∷ [])) e) ≡ either_of (if b then Some d else first_of ds e) (if same_entity c.entity e then Some c else None)
    by true rest = refl
    by false rest = rest

listed-snoc : (ps : Listed) (p : EntityId × Option StateObject) (e : EntityId) → state_listed (ps ++ (p ∷ [])) e ≡ either_of (state_listed ps e) (if same_entity p.0 e then Some p.1 else None)
listed-snoc [] p e = by (same_entity p.0 e)
  where
    by : (b : Bool) → option_map {T = EntityId × Option StateObject} {U = Option StateObject} (λ q. q.1) (if b then Some p else None) ≡ (if b then Some p.1 else None)
    by true = refl
    by false = refl
listed-snoc (q ∷ qs) p e = by (same_entity q.0 e) (listed-snoc qs p e)
  where
    by : (b : Bool) → state_listed (qs ++ (p ∷ [])) e ≡ either_of (state_listed qs e) (if same_entity p.0 e then Some p.1 else None)
        → option_map {T = EntityId × Option StateObject} {U = Option StateObject} (λ r. r.1) (if b then Some q else find (λ r. same_entity r.0 e) (qs ++ (p ∷ [])))
        ≡ either_of (option_map {T = EntityId × Option StateObject} {U = Option StateObject} (λ r. r.1) (if b then Some q else find (λ r. same_entity r.0 e) qs)) (if same_entity p.0 e then Some p.1 else None)
    by true rest = refl
    by false rest = rest

pub lists-is : (ps : Listed) (e : EntityId) → lists ps e ≡ is_some (state_listed ps e)
lists-is [] e = refl
lists-is (q ∷ qs) e = by (same_entity q.0 e) (lists-is qs e)
  where
    by : (b : Bool) → lists qs e ≡ is_some (state_listed qs e)
        → (b || lists qs e) ≡ is_some (option_map {T = EntityId × Option StateObject} {U = Option StateObject} (λ r. r.1) (if b then Some q else find (λ r. same_entity r.0 e) qs))
    by true rest = refl
    by false rest = rest

some-mapped : {X Y : Type 0} (f : X → Y) (o : Option X) → is_some (option_map f o) ≡ is_some o
some-mapped f None = refl
some-mapped f (Some x) = refl

none-of : {X : Type 0} (o : Option X) → is_some o ≡ false → o ≡ None
none-of None h = refl
none-of (Some x) h = absurd (true≢false h)

found-any : {X : Type 0} (p : X → Bool) (xs : List X) → is_some (find p xs) ≡ list_any p xs
found-any p [] = refl
found-any p (x ∷ xs) = by (p x) (found-any p xs)
  where
    by : (b : Bool) → is_some (find p xs) ≡ list_any p xs → is_some (if b then Some x else find p xs) ≡ (b || list_any p xs)
    by true rest = refl
    by false rest = rest

-- ---- texts told one after the other

module _ (at-now : ℕ) (old : EntityId → Option StateObject) where
  abbrev told_by : EntityId → Option HelperChange → Option StateObject
  told_by e o = option_map_or (λ c. Some (next_object (old e) c.text [] at-now)) o (old e)

  abbrev old_by : EntityId → Option HelperChange → Option (Option StateObject)
  old_by e o = option_map {T = HelperChange} {U = Option StateObject} (λ c. old e) o

  pub told-none : (table : StateTable) → ((e : EntityId) → at table e ≡ old e) → AreTold at-now old [] table []
  told-none table same = record { states = same; listed = λ e. refl }

  module _ (cs : List HelperChange) (c : HelperChange) (table : StateTable) (before : Listed) (h : AreTold at-now old cs table before) where
    -- whether it is among those before
    among : lists before c.entity ≡ is_some (first_of cs c.entity)
    among = lists-is before c.entity ∙ ap is_some (h.listed c.entity) ∙ some-mapped (λ d. old c.entity) (first_of cs c.entity)

    -- LAW: the same, by a table that has the places of those before
    pub listed-placed : (places : Places) → ArePlaced places change_is_of cs → lists before c.entity ≡ is_some (place_in places c.entity)
    listed-placed places placed = among ∙ found-any (change_is_of c.entity) cs ∙ sym (placed-has places change_is_of cs placed c.entity)

    -- LAW: a change of a helper that is listed already counts for nothing
    pub told-again : lists before c.entity ≡ true → AreTold at-now old (cs ++ (c ∷ [])) table before
    told-again there = record {
      states = λ e. h.states e ∙ ap (told_by e) (same-first e);
      listed = λ e. h.listed e ∙ ap (old_by e) (same-first e);
    }
      where
        same-first : (e : EntityId) → first_of cs e ≡ first_of (cs ++ (c ∷ [])) e
        same-first e = by (first_of cs e) refl (same_entity c.entity e) refl ∙ sym (first-snoc cs c e)
          where
            by : (o : Option HelperChange) → first_of cs e ≡ o → (b : Bool) → same_entity c.entity e ≡ b → first_of cs e ≡ either_of (first_of cs e) (if same_entity c.entity e then Some c else None)
            by (Some d) found b is = found ∙ sym (λ i. either_of (found i) (if same_entity c.entity e then Some c else None))
            by None found true is = absurd (true≢false (sym there ∙ among ∙ ap (λ f. is_some (first_of cs f)) (entity-sound c.entity e is) ∙ ap is_some found))
            by None found false is = found ∙ sym (λ i. either_of (found i) (if is i then Some c else None))

    -- LAW: one of another changes its state, which is listed as it was
    pub told-more : lists before c.entity ≡ false → (table' : StateTable) (before' : Listed)
        → ((e : EntityId) → at table' e ≡ (if same_entity c.entity e then Some (next_object (at table c.entity) c.text [] at-now) else at table e))
        → before' ≡ before ++ ((c.entity, at table c.entity) ∷ []) → AreTold at-now old (cs ++ (c ∷ [])) table' before'
    told-more new table' before' changes more_listed = record {
      states = λ e. changes e ∙ state e (same_entity c.entity e) refl ∙ sym (ap (told_by e) (first-snoc cs c e));
      listed = λ e. ap (λ l. state_listed l e) more_listed ∙ listed-snoc before (c.entity, at table c.entity) e ∙ was e (same_entity c.entity e) refl ∙ sym (ap (old_by e) (first-snoc cs c e));
    }
      where
        none-yet : first_of cs c.entity ≡ None
        none-yet = none-of (first_of cs c.entity) (sym among ∙ new)

        own : at table c.entity ≡ old c.entity
        own = h.states c.entity ∙ ap (told_by c.entity) none-yet

        kept : {X : Type 0} (o : Option X) → o ≡ either_of o None
        kept None = refl
        kept (Some x) = refl

        state : (e : EntityId) (b : Bool) → same_entity c.entity e ≡ b
            → (if same_entity c.entity e then Some (next_object (at table c.entity) c.text [] at-now) else at table e) ≡ told_by e (either_of (first_of cs e) (if same_entity c.entity e then Some c else None))
        state e true is =
            let id = entity-sound c.entity e is in
            (λ i. if is i then Some (next_object (own i) c.text [] at-now) else at table e)
            ∙ (λ i. Some (next_object (old (id i)) c.text [] at-now))
            ∙ sym (λ i. told_by e (either_of ((ap (first_of cs) (sym id) ∙ none-yet) i) (if is i then Some c else None)))
        state e false is =
            (λ i. if is i then Some (next_object (at table c.entity) c.text [] at-now) else at table e)
            ∙ h.states e ∙ ap (told_by e) (kept (first_of cs e))
            ∙ sym (λ i. told_by e (either_of (first_of cs e) (if is i then Some c else None)))

        was : (e : EntityId) (b : Bool) → same_entity c.entity e ≡ b
            → either_of (state_listed before e) (if same_entity c.entity e then Some (at table c.entity) else None) ≡ old_by e (either_of (first_of cs e) (if same_entity c.entity e then Some c else None))
        was e true is =
            let id = entity-sound c.entity e is in
            let first : first_of cs e ≡ None = ap (first_of cs) (sym id) ∙ none-yet in
            (λ i. either_of ((h.listed e ∙ ap (old_by e) first) i) (if is i then Some (own i) else None))
            ∙ (λ i. Some (old (id i)))
            ∙ sym (λ i. old_by e (either_of (first i) (if is i then Some c else None)))
        was e false is =
            (λ i. either_of (state_listed before e) (if is i then Some (at table c.entity) else None))
            ∙ sym (kept (state_listed before e)) ∙ h.listed e ∙ ap (old_by e) (kept (first_of cs e))
            ∙ sym (λ i. old_by e (either_of (first_of cs e) (if is i then Some c else None)))

-- ---- what an entry gives

-- whether a timer is made idle
abbrev Found : EntityId → Bool → Option HelperChange → Type 0
Found e true o = o ≡ Some (idle_change e)
Found e false o = o ≡ None

-- a helper of the configuration has no id of an automation
outside-named : (hs : List Helper) (e : EntityId) (h : Helper) → AreOutside hs → helper_named hs e ≡ Some h → is_automation e ≡ false
outside-named [] e h outside q = cc
outside-named (a ∷ hs) e h outside q = by (same_entity a.entity e) refl q (outside-named hs e h (λ n. outside (suc n)))
  where
    by : (b : Bool) → same_entity a.entity e ≡ b → (if b then Some a else helper_named hs e) ≡ Some h → (helper_named hs e ≡ Some h → is_automation e ≡ false) → is_automation e ≡ false
    by true one k rest = ap is_automation (sym (entity-sound a.entity e one)) ∙ outside zero
    by false one k rest = rest k

-- no text is given where an entry changes no helper, and no timer finishes
texts-none : (j : Journal) (x : Entry) (e : EntityId) → is_boot x ≡ false → change_of e x ≡ None → ((h : Helper) → helper_named (helpers (more j x)) e ≡ Some h → finishes j x h ≡ false) → gives_text j x e ≡ false
texts-none j x e boot none still = by (is_automation e) (helper_named (helpers (more j x)) e) refl
  where
    by : (b : Bool) (o : Option Helper) → helper_named (helpers (more j x)) e ≡ o → (not b && option_map_or (λ h. is_boot x || is_some (change_of e x) || finishes j x h) o false) ≡ false
    by true o q = refl
    by false None q = refl
    by false (Some h) q = (λ i. boot i || is_some (none i) || still h q i)

pub texts-left : (j : Journal) (x : Entry) (e : EntityId) → is_boot x ≡ false → changes_in x ≡ [] → is_moment x ≡ false → gives_text j x e ≡ false
texts-left j x e boot none still = texts-none j x e boot (no-change x e none) (λ h q. finishes-not j x h still)

-- LAW: the state of an entity that is given these texts
pub told-at : (j : Journal) (x : Entry) (cs : List HelperChange) → AreGiven j x cs → AreOutside (helpers (more j x)) → report_in x ≡ None → gone_in x ≡ None → is_restart x ≡ false
    → (e : EntityId) → sets_anew j x e ≡ false → (was : Option StateObject) → was ≡ states j e
    → option_map_or (λ c. Some (next_object was c.text [] (now (more j x)))) (first_of cs e) was ≡ states (more j x) e
told-at j x cs given outside report gone restart e anew was is = by (first_of cs e) (given.texts e)
  where
    by : (o : Option HelperChange) → MatchOption o ((gives_text j x e ≡ false) × (change_of e x ≡ None)) (IsGiven j x e) → option_map_or (λ c. Some (next_object was c.text [] (now (more j x)))) o was ≡ states (more j x) e
    by None g = is ∙ sym (states-other j e x report gone restart anew g.0)
    by (Some c) g =
        (λ i. Some (next_object (is i) (sym g.text i) [] (now (more j x))))
        ∙ sym (states-helper j e x g.helper (outside-named (helpers (more j x)) e g.helper outside g.named) g.named)

-- ---- an opening

first-named : (hs : List Helper) (e : EntityId) → first_of (map first_change hs) e ≡ option_map first_change (helper_named hs e)
first-named [] e = refl
first-named (a ∷ hs) e = by (same_entity a.entity e) (first-named hs e)
  where
    by : (b : Bool) → first_of (map first_change hs) e ≡ option_map first_change (helper_named hs e)
        → (if b then Some (first_change a) else first_of (map first_change hs) e) ≡ option_map first_change (if b then Some a else helper_named hs e)
    by true rest = refl
    by false rest = rest

first-silent : (hs : List Helper) → filter_map event_of_change (map first_change hs) ≡ []
first-silent [] = refl
first-silent (a ∷ hs) = first-silent hs

module _ (text : Text) (config : Config) (stored : Option (List (Text × Bool))) (start : ℕ) (zone : Text) (carry : Carry) where
  abbrev boot : Entry
  boot = Boot text config stored start zone carry

  -- LAW: at a Boot the helpers have their first texts
  pub begin-given : AreGiven [] boot (map first_change config.helpers)
  begin-given = record {
    texts = λ e. subst (λ o. MatchOption o ((gives_text [] boot e ≡ false) × (change_of e boot ≡ None)) (IsGiven [] boot e)) (sym (first-named config.helpers e)) (by e (helper_named config.helpers e) refl);
    events = first-silent config.helpers ∙ sym (helps-none [] boot refl refl);
  }
    where
      nothing : (b : Bool) → (not b && false) ≡ false
      nothing true = refl
      nothing false = refl

      by : (e : EntityId) (o : Option Helper) → helper_named config.helpers e ≡ o → MatchOption (option_map first_change o) ((gives_text [] boot e ≡ false) × (change_of e boot ≡ None)) (IsGiven [] boot e)
      by e None q = ((λ i. not (is_automation e) && option_map_or (λ h. is_boot boot || is_some (change_of e boot) || finishes [] boot h) (q i) false) ∙ nothing (is_automation e), refl)
      by e (Some h) q = record {
        helper = h;
        named = q;
        text = text-more [] boot h ∙ (λ i. if finishes-not [] boot h refl i then codes "idle" else text_of [] h);
      }

module _ (j : Journal) (x : Entry) (some : HasEntry j) where
  -- LAW: a step gives the texts of its changes
  pub changes-given : is_boot x ≡ false → is_moment x ≡ false → changes_helpers j x ≡ true → AreGiven j x (changes_in x)
  changes-given boot still helped = record {
    texts = λ e. by e (change_of e x) refl (helper_named (helpers (more j x)) e) refl;
    events = sym (append-nil (filter_map event_of_change (changes_in x))) ∙ (λ i. filter_map event_of_change (changes_in x) ++ map (timer_event (codes "timer.finished")) (sym (none-finish j x still) i));
  }
    where
      -- what is changed is a helper
      found-helped : (all : List Helper) (cs : List HelperChange) (e : EntityId) (c : HelperChange) → list_all (λ d. is_helper all d.entity) cs ≡ true → first_of cs e ≡ Some c → is_helper all e ≡ true
      found-helped all [] e c h q = cc
      found-helped all (d ∷ ds) e c h q = of (same_entity d.entity e) refl q (found-helped all ds e c (and_right (is_helper all d.entity) (list_all (λ g. is_helper all g.entity) ds) h))
        where
          of : (b : Bool) → same_entity d.entity e ≡ b → (if b then Some d else first_of ds e) ≡ Some c → (first_of ds e ≡ Some c → is_helper all e ≡ true) → is_helper all e ≡ true
          of true one k rest = ap (is_helper all) (sym (entity-sound d.entity e one)) ∙ and_left (is_helper all d.entity) (list_all (λ g. is_helper all g.entity) ds) h
          of false one k rest = rest k

      by : (e : EntityId) (o : Option HelperChange) → change_of e x ≡ o → (p : Option Helper) → helper_named (helpers (more j x)) e ≡ p → MatchOption o ((gives_text j x e ≡ false) × (change_of e x ≡ None)) (IsGiven j x e)
      by e None q p named = (texts-none j x e boot q (λ h k. finishes-not j x h still), q)
      by e (Some c) q None named = absurd (true≢false (sym (found-helped (helpers (more j x)) (changes_in x) e c helped q) ∙ ap is_some named))
      by e (Some c) q (Some h) named = record {
        helper = h;
        named = named;
        text = text-more j x h ∙ (λ i. text_with ((ap (λ v. change_of v x) (named-is (helpers (more j x)) e h named) ∙ q) i) (if finishes j x h then codes "idle" else text_of j h));
      }

  -- LAW: a moment makes the timers idle that finish
  pub moment-given : is_boot x ≡ false → is_moment x ≡ true → changes_in x ≡ [] → AreGiven j x (map idle_change (finished j x))
  moment-given boot moment none = record {
    texts = λ e. by e (list_any (same_entity e) (finished j x)) refl (helper_named (helpers (more j x)) e) refl;
    events = events-idle (finished j x) ∙ (λ i. filter_map event_of_change (sym none i) ++ map (timer_event (codes "timer.finished")) (finished j x));
  }
    where
      events-idle : (es : List EntityId) → filter_map event_of_change (map idle_change es) ≡ map (timer_event (codes "timer.finished")) es
      events-idle [] = refl
      events-idle (e ∷ es) = (λ i. timer_event (codes "timer.finished") e ∷ events-idle es i)

      first-idle : (es : List EntityId) (e : EntityId) → Found e (list_any (same_entity e) es) (first_of (map idle_change es) e)
      first-idle [] e = refl
      first-idle (f ∷ fs) e = subst (λ b. Found e (b || list_any (same_entity e) fs) (if same_entity f e then Some (idle_change f) else first_of (map idle_change fs) e)) (sym (same-turned e f)) (of (same_entity f e) refl (first-idle fs e))
        where
          of : (b : Bool) → same_entity f e ≡ b → Found e (list_any (same_entity e) fs) (first_of (map idle_change fs) e) → Found e (b || list_any (same_entity e) fs) (if b then Some (idle_change f) else first_of (map idle_change fs) e)
          of true one rest = (λ i. Some (idle_change (entity-sound f e one i)))
          of false one rest = rest

      nobody-before : (e : EntityId) → helper_named (helpers (more j x)) e ≡ None → helper_named (helpers j) e ≡ None
      nobody-before e named = (λ i. helper_named (helpers-more j x some i) e) ∙ named

      of-finished : (e : EntityId) (h : Helper) → helper_named (helpers (more j x)) e ≡ Some h → list_any (same_entity e) (finished j x) ≡ finishes j x h
      of-finished e h named = finished-is j x e h moment (before-is j x e h some named)

      by : (e : EntityId) (b : Bool) → list_any (same_entity e) (finished j x) ≡ b → (p : Option Helper) → helper_named (helpers (more j x)) e ≡ p
          → MatchOption (first_of (map idle_change (finished j x)) e) ((gives_text j x e ≡ false) × (change_of e x ≡ None)) (IsGiven j x e)
      by e true any (Some h) named =
          subst (λ o. MatchOption o ((gives_text j x e ≡ false) × (change_of e x ≡ None)) (IsGiven j x e)) (sym (subst (λ b. Found e b (first_of (map idle_change (finished j x)) e)) any (first-idle (finished j x) e)))
          (record {
            helper = h;
            named = named;
            text = text-more j x h ∙ (λ i. text_with (no-change x h.entity none i) (if (sym (of-finished e h named) ∙ any) i then codes "idle" else text_of j h));
          })
      by e true any None named = absurd (true≢false (sym any ∙ finished-nobody j x e moment (nobody-before e named)))
      by e false any p named =
          subst (λ o. MatchOption o ((gives_text j x e ≡ false) × (change_of e x ≡ None)) (IsGiven j x e)) (sym (subst (λ b. Found e b (first_of (map idle_change (finished j x)) e)) any (first-idle (finished j x) e)))
          (texts-none j x e boot (no-change x e none) (λ h k. sym (of-finished e h k) ∙ any), no-change x e none)

  -- told of them, the table stands for the journal with the entry, and what changes is listed
  module _ (cs : List HelperChange) (given : AreGiven j x cs) (outside : AreOutside (helpers (more j x))) (report : report_in x ≡ None) (gone : gone_in x ≡ None) (restart : is_restart x ≡ false)
      (anew : (e : EntityId) → sets_anew j x e ≡ false) (table table' : StateTable) (before : Listed) (stands : StandsFor table j) (told : AreTold (now (more j x)) (at table) cs table' before) where
    pub told-stands : StandsFor table' (more j x)
    told-stands e = told.states e ∙ told-at j x cs given outside report gone restart e (anew e) (at table e) (stands e)

    pub told-listed : AreListed j x before
    told-listed e = subst (λ o. MatchOption o ((states (more j x) e ≡ states j e) × (reports e x ≡ false)) (λ old. old ≡ states j e)) (sym (told.listed e)) (by (first_of cs e) (given.texts e))
      where
        by : (o : Option HelperChange) → MatchOption o ((gives_text j x e ≡ false) × (change_of e x ≡ None)) (IsGiven j x e)
            → MatchOption (option_map {T = HelperChange} {U = Option StateObject} (λ c. at table e) o) ((states (more j x) e ≡ states j e) × (reports e x ≡ false)) (λ old. old ≡ states j e)
        by None g = (states-other j e x report gone restart (anew e) g.0, (λ i. is_some (g.1 i) || option_map_or (λ r. same_entity r.entity e) (report i) false))
        by (Some c) g = stands e
