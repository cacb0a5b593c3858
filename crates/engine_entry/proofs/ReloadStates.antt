-- The states of automations behind a Reload: those of names that go, and those of names that come with a switch or another one.
use Rattle.std.proofs.Common.{◌≡◌, ℕ, zero, suc, ◌+◌, ◌<◌, List, [], ◌∷◌, ◌++◌, length, get_or, take, find, Bool, true, false, refl, sym, ap, subst, ◌∙◌, arith}
use Rattle.std.specs.Prelude.{Option, Some, None, MatchOption, not, is_some, codes, option_map, option_and_then, slice_index_or, zip, ◌&&◌, ◌||◌, if◌then◌else◌}
use Rattle.std.specs.Option.{option_map_or}
use Rattle.ha_value.specs.declared.value.EntityId.{EntityId}
use Rattle.ha_config.specs.declared.command.Cmd.{Cmd}
use Rattle.ha_config.specs.declared.config.Automation.{Automation}
use Rattle.ha_config.specs.declared.config.Config.{Config}
use Rattle.ha_config.specs.Helpers.{helper_named}
use Rattle.ha_config.specs.Names.{named_among}
use Rattle.ha_config.specs.Numbered.{has_number}
use Rattle.ha_config.specs.ValueFacts.{all_distinct}
use Rattle.ha_config.specs.Words.{Text, same, same_entity}
use Rattle.ha_config.proofs.EqualLemmas.{entity-refl, entity-sound, same-sound}
use Rattle.ha_config.proofs.ListLemmas.{none-some, true-false}
use Rattle.ha_config.proofs.NumberedLemmas.{named-there}
use Rattle.ha_sight.specs.declared.state.StateObject.{StateObject}
use Rattle.ha_sight.specs.Sight.{Automations, switch_at}
use Rattle.ha_journal.specs.declared.entry.Entry.{Entry}
use Rattle.ha_journal.specs.declared.entry.Entry.TheVariants.{Boot, Line, Step, Again}
use Rattle.ha_journal.specs.Entries.{changes_in, gone_in, is_boot, is_moment, is_restart, opens_segment, reload_in, report_in}
use Rattle.ha_journal.specs.Journal.{HasEntry, Journal, brings, helpers, in_force, more, now}
use Rattle.ha_journal.specs.States.{of_automation, of_helper, reported, states}
use Rattle.ha_journal.specs.Switches.{is_on, same_switch, switch_named}
use Rattle.ha_journal.proofs.HelperLaws.{no-change}
use Rattle.cond_eval.proofs.NameLemmas.{EachIn, each-named, names_in}
use Rattle.state_laws.specs.Stands.{is_named, sets_anew, turns}
use Rattle.state_laws.proofs.StateLaws.{states-anew, states-other}
use Rattle.state_table.specs.Anew.{is_automation, switch_object}
use Rattle.state_table.specs.Table.{ChangesAt, at}
use Rattle.state_table.specs.declared.table.StateTable.{StateTable}
use Rattle.switch_book.specs.Book as switches
use Rattle.switch_book.proofs.SwitchLaws.{switch-of-journal}
use Rattle.trig_set.specs.Next.{AreListed, Listed, reports, state_listed}
use Rattle.engine_parts.proofs.TextLemmas.{texts-left}
use Rattle.engine_entry.specs.Reloaded.{Entering, Halfway, HaveEntered, HaveLeft, IsSettled, Leaving, has_name, switch_by}
use Rattle.engine_entry.specs.Turned.{entity_named}
use Rattle.engine_entry.proofs.NamedLemmas.{same-self}
use Rattle.engine_entry.proofs.NameNumbers.{AreNumbered, each-at, has-known, number-known}
use Rattle.engine_entry.proofs.TurnedStates.{found-more, none-more}

-- ---- what a Reload is not

-- LAW: of what an entry may be beside a Reload it is nothing
pub record IsQuiet (x : Entry) : Type 0 where
  pub report : report_in x ≡ None
  pub gone : gone_in x ≡ None
  pub restart : is_restart x ≡ false
  pub boot : is_boot x ≡ false
  pub opens : opens_segment x ≡ false
  pub moment : is_moment x ≡ false
  pub still : brings x ≡ 0
  pub changes : changes_in x ≡ []

pub reload-quiet : (x : Entry) (c : Config) → reload_in x ≡ Some c → IsQuiet x
reload-quiet (Line source number (Cmd.Reload text config)) c h = record { report = refl; gone = refl; restart = refl; boot = refl; opens = refl; moment = refl; still = refl; changes = refl }
reload-quiet (Boot text config stored start zone carry) c h = absurd (none-some c h)
reload-quiet (Again number start stored carry) c h = absurd (none-some c h)
reload-quiet (Line source number Cmd.Restart) c h = absurd (none-some c h)
reload-quiet (Line source number (Cmd.Report entity text attributes)) c h = absurd (none-some c h)
reload-quiet (Line source number (Cmd.Gone entity)) c h = absurd (none-some c h)
reload-quiet (Line source number (Cmd.Event kind pairs)) c h = absurd (none-some c h)
reload-quiet (Line source number (Cmd.Moment at)) c h = absurd (none-some c h)
reload-quiet (Line source number (Cmd.Switch name on stop)) c h = absurd (none-some c h)
reload-quiet (Line source number (Cmd.Trigger name skip)) c h = absurd (none-some c h)
reload-quiet (Line source number (Cmd.Refused code)) c h = absurd (none-some c h)
reload-quiet (Line source number Cmd.Lost) c h = absurd (none-some c h)
reload-quiet (Line source number Cmd.TooLong) c h = absurd (none-some c h)
reload-quiet (Step worker serial branch item) c h = absurd (none-some c h)

-- ---- one place further

pub take-next : (all : List Automation) (i : ℕ) (y : Automation) → i < length all → y ≡ get_or all i y → take (i + 1) all ≡ take i all ++ (y ∷ [])
take-next all i y lt is = (let up : i + 1 ≡ suc i = omega arith in λ n. take (up n) all) ∙ next all i y lt is
  where
    next : (l : List Automation) (m : ℕ) (z : Automation) → m < length l → z ≡ get_or l m z → take (suc m) l ≡ take m l ++ (z ∷ [])
    next [] m z below e = absurd (omega (arith, below))
    next (u ∷ us) zero z below e = (λ n. sym e n ∷ [])
    next (u ∷ us) (suc m) z below e = (λ n. u ∷ next us m z (omega (arith, below)) e n)

-- ---- the lists while states change

module _ (j k : Journal) where
  abbrev HalfAt : StateTable → EntityId → Option (Option StateObject) → Type 0
  HalfAt t q o = MatchOption o (at t q ≡ states j q) (λ old. (old ≡ states j q) × (at t q ≡ states k q))

  abbrev SettledAt : EntityId → Option (Option StateObject) → Type 0
  SettledAt q o = MatchOption o (states k q ≡ states j q) (λ old. Unit {0})

  -- LAW: one more state is that behind the entry, and is listed as it was
  pub halfway-more : (e : EntityId) (v : Option StateObject) (t t' : StateTable) (before before' : Listed) → ChangesAt t t' e v → before' ≡ before ++ ((e, at t e) ∷ []) → states k e ≡ v → Halfway j k t before → Halfway j k t' before'
  halfway-more e v t t' before before' changes listed is half = subst (Halfway j k t') (sym listed) (λ q. by q (same_entity e q) refl (state_listed before q) refl (half q))
    where
      by : (q : EntityId) (b : Bool) → same_entity e q ≡ b → (o : Option (Option StateObject)) → state_listed before q ≡ o → HalfAt t q o
          → HalfAt t' q (state_listed (before ++ ((e, at t e) ∷ [])) q)
      by q true own (Some old) f h =
          (let same : e ≡ q = entity-sound e q own in
          let now' : at t' q ≡ states k q = changes q ∙ (λ i. if own i then v else at t q) ∙ sym is ∙ ap (states k) same in
          subst (HalfAt t' q) (sym (found-more before (e, at t e) q old f)) (h.0, now'))
      by q true own None f h =
          (let same : e ≡ q = entity-sound e q own in
          let now' : at t' q ≡ states k q = changes q ∙ (λ i. if own i then v else at t q) ∙ sym is ∙ ap (states k) same in
          let one : state_listed (before ++ ((e, at t e) ∷ [])) q ≡ Some (at t e)
          = none-more before (e, at t e) q f ∙ (λ i. option_map {T = EntityId × Option StateObject} {U = Option StateObject} (λ r. r.1) (if own i then Some (e, at t e) else None)) in
          subst (HalfAt t' q) (sym one) (ap (at t) same ∙ h, now'))
      by q false other (Some old) f h =
          (let stays : at t' q ≡ at t q = changes q ∙ (λ i. if other i then v else at t q) in
          subst (HalfAt t' q) (sym (found-more before (e, at t e) q old f)) (h.0, stays ∙ h.1))
      by q false other None f h =
          (let stays : at t' q ≡ at t q = changes q ∙ (λ i. if other i then v else at t q) in
          let none : state_listed (before ++ ((e, at t e) ∷ [])) q ≡ None
          = none-more before (e, at t e) q f ∙ (λ i. option_map {T = EntityId × Option StateObject} {U = Option StateObject} (λ r. r.1) (if other i then Some (e, at t e) else None)) in
          subst (HalfAt t' q) (sym none) (stays ∙ h))

  -- LAW: what is listed stays so
  pub settled-more : (p : EntityId × Option StateObject) (before : Listed) (q : EntityId) → IsSettled j k before q → IsSettled j k (before ++ (p ∷ [])) q
  settled-more p before q h = by (state_listed before q) refl h
    where
      one : (b : Bool) → states k q ≡ states j q → SettledAt q (option_map {T = EntityId × Option StateObject} {U = Option StateObject} (λ r. r.1) (if b then Some p else None))
      one true e = tt
      one false e = e

      by : (o : Option (Option StateObject)) → state_listed before q ≡ o → SettledAt q o → SettledAt q (state_listed (before ++ (p ∷ [])) q)
      by (Some old) f g = subst (SettledAt q) (sym (found-more before p q old f)) tt
      by None f g = subst (SettledAt q) (sym (none-more before p q f)) (one (same_entity p.0 q) g)

  -- LAW: the last of the list is settled
  pub settled-last : (e : EntityId) (old : Option StateObject) (before : Listed) → IsSettled j k (before ++ ((e, old) ∷ [])) e
  settled-last e old before = by (state_listed before e) refl
    where
      by : (o : Option (Option StateObject)) → state_listed before e ≡ o → SettledAt e (state_listed (before ++ ((e, old) ∷ [])) e)
      by (Some was) f = subst (SettledAt e) (sym (found-more before (e, old) e was f)) tt
      by None f =
          (let one : state_listed (before ++ ((e, old) ∷ [])) e ≡ Some old
          = none-more before (e, old) e f ∙ (λ i. option_map {T = EntityId × Option StateObject} {U = Option StateObject} (λ r. r.1) (if entity-refl e i then Some (e, old) else None)) in
          subst (SettledAt e) (sym one) tt)

  -- LAW: and so is one whose state stays
  pub settled-same : (e : EntityId) (before : Listed) → states k e ≡ states j e → IsSettled j k before e
  settled-same e before same = by (state_listed before e)
    where
      by : (o : Option (Option StateObject)) → MatchOption o (states k e ≡ states j e) (λ old. Unit {0})
      by None = same
      by (Some old) = tt

  -- ---- names that go

  -- LAW: with one name more
  pub left-next : (new : Config) (all : List Automation) (i : ℕ) (y : Automation) (t t' t0 : StateTable) (before before' before0 : Listed) → i < length all → y ≡ get_or all i y → Leaving j k new t0 before0
      → (has_name new y.name ≡ false → ChangesAt t t' (entity_named y.name) None × (before' ≡ before ++ ((entity_named y.name, at t (entity_named y.name)) ∷ [])))
      → (has_name new y.name ≡ true → (t' ≡ t) × (before' ≡ before))
      → Halfway j k t before × HaveLeft j k new before (take i all) → Halfway j k t' before' × HaveLeft j k new before' (take (i + 1) all)
  left-next new all i y t t' t0 before before' before0 lt is leaving left same h = by (has_name new y.name) refl
    where
      grown : (p : EntityId × Option StateObject) (ys : List Automation) → HaveLeft j k new before ys → HaveLeft j k new (before ++ (p ∷ [])) ys
      grown p [] g = tt
      grown p (z ∷ zs) g = (λ e. settled-more p before (entity_named z.name) (g.0 e), grown p zs g.1)

      snoc : (l : Listed) (ys : List Automation) → HaveLeft j k new l ys → (has_name new y.name ≡ false → IsSettled j k l (entity_named y.name)) → HaveLeft j k new l (ys ++ (y ∷ []))
      snoc l [] g e = (e, tt)
      snoc l (z ∷ zs) g e = (g.0, snoc l zs g.1 e)

      longer : take (i + 1) all ≡ take i all ++ (y ∷ [])
      longer = take-next all i y lt is

      by : (b : Bool) → has_name new y.name ≡ b → Halfway j k t' before' × HaveLeft j k new before' (take (i + 1) all)
      by true e =
          (let stays = same e in (
            subst (λ (z : StateTable). Halfway j k z before') (sym stays.0) (subst (Halfway j k t) (sym stays.1) h.0),
            subst (λ (l : List Automation). HaveLeft j k new before' l) (sym longer)
                (snoc before' (take i all) (subst (λ (l : Listed). HaveLeft j k new l (take i all)) (sym stays.1) h.1) (λ none. absurd (true-false (sym e ∙ none)))),
          ))
      by false e =
          (let goes = left e in
          let p : EntityId × Option StateObject = (entity_named y.name, at t (entity_named y.name)) in (
            halfway-more (entity_named y.name) None t t' before before' goes.0 goes.1 (leaving.gone y.name e) h.0,
            subst (λ (l : List Automation). HaveLeft j k new before' l) (sym longer)
                (subst (λ (l : Listed). HaveLeft j k new l (take i all ++ (y ∷ []))) (sym goes.1)
                (snoc (before ++ (p ∷ [])) (take i all) (grown p (take i all) h.1) (λ none. settled-last (entity_named y.name) (at t (entity_named y.name)) before))),
          ))

  -- ---- names that come

  -- LAW: with one automation more
  pub entered-next : (old : Config) (had : List ℕ) (was : Automations) (all : List Automation) (numbers : List ℕ) (s : Automations) (at_now : ℕ) (i : ℕ) (y : Automation) (on : Bool)
      (t t' : StateTable) (before before' before0 : Listed) → i < length all → y ≡ get_or all i y → Entering j k old had was all numbers s at_now
      → ((l : Journal) → switches.StandsFor s l → has_number (in_force l) (slice_index_or numbers i 0) ≡ true → on ≡ is_on l (slice_index_or numbers i 0))
      → (same_switch (switch_by was had old y.name) (Some on) ≡ false
      → ChangesAt t t' (entity_named y.name) (Some (switch_object on at_now)) × (before' ≡ before ++ ((entity_named y.name, at t (entity_named y.name)) ∷ [])))
      → (same_switch (switch_by was had old y.name) (Some on) ≡ true → (t' ≡ t) × (before' ≡ before))
      → Halfway j k t before × HaveEntered j k before (take i all) × ((e : EntityId) → IsSettled j k before0 e → IsSettled j k before e)
      → Halfway j k t' before' × HaveEntered j k before' (take (i + 1) all) × ((e : EntityId) → IsSettled j k before0 e → IsSettled j k before' e)
  entered-next old had was all numbers s at_now i y on t t' before before' before0 lt is entering flag changed same h = by (same_switch (switch_by was had old y.name) (Some on)) refl
    where
      n : ℕ
      n = slice_index_or numbers i 0

      named : named_among (in_force k) y.name ≡ Some n
      named = entering.behind i y lt is

      on-is : switch_named k y.name ≡ Some on
      on-is = (λ p. option_map (is_on k) (named p)) ∙ (λ p. Some (sym (flag k entering.stand (named-there (in_force k) y.name n named)) p))

      grown : (p : EntityId × Option StateObject) (ys : List Automation) → HaveEntered j k before ys → HaveEntered j k (before ++ (p ∷ [])) ys
      grown p [] g = tt
      grown p (z ∷ zs) g = (settled-more p before (entity_named z.name) g.0, grown p zs g.1)

      snoc : (l : Listed) (ys : List Automation) → HaveEntered j k l ys → IsSettled j k l (entity_named y.name) → HaveEntered j k l (ys ++ (y ∷ []))
      snoc l [] g e = (e, tt)
      snoc l (z ∷ zs) g e = (g.0, snoc l zs g.1 e)

      longer : take (i + 1) all ≡ take i all ++ (y ∷ [])
      longer = take-next all i y lt is

      before-is : (b : Bool) → same_switch (switch_by was had old y.name) (Some on) ≡ b → same_switch (switch_named j y.name) (Some on) ≡ b
      before-is b e = (λ p. same_switch (sym (entering.before y.name) p) (Some on)) ∙ e

      by : (b : Bool) → same_switch (switch_by was had old y.name) (Some on) ≡ b → Halfway j k t' before' × HaveEntered j k before' (take (i + 1) all) × ((e : EntityId) → IsSettled j k before0 e → IsSettled j k before' e)
      by true e =
          (let stays = same e in (
            subst (λ (z : StateTable). Halfway j k z before') (sym stays.0) (subst (Halfway j k t) (sym stays.1) h.0),
            subst (λ (l : List Automation). HaveEntered j k before' l) (sym longer)
                (snoc before' (take i all) (subst (λ (l : Listed). HaveEntered j k l (take i all)) (sym stays.1) h.1) (settled-same (entity_named y.name) before' (entering.same y.name on on-is (before-is true e)))),
            λ q g. subst (λ (l : Listed). IsSettled j k l q) (sym stays.1) (h.2 q g),
          ))
      by false e =
          (let goes = changed e in
          let p : EntityId × Option StateObject = (entity_named y.name, at t (entity_named y.name)) in (
            halfway-more (entity_named y.name) (Some (switch_object on at_now)) t t' before before' goes.0 goes.1 (entering.anew y.name on on-is (before-is false e)) h.0,
            subst (λ (l : List Automation). HaveEntered j k before' l) (sym longer)
                (subst (λ (l : Listed). HaveEntered j k l (take i all ++ (y ∷ []))) (sym goes.1)
                (snoc (before ++ (p ∷ [])) (take i all) (grown p (take i all) h.1) (settled-last (entity_named y.name) (at t (entity_named y.name)) before))),
            λ q g. subst (λ (l : Listed). IsSettled j k l q) (sym goes.1) (settled-more p before q (h.2 q g)),
          ))

-- ---- names in force

automation-id : (name : Text) → is_automation (entity_named name) ≡ true
automation-id name = same-self (codes "automation")

-- LAW: where no automation in force has a name, it has no state
pub none-state : (i : Journal) (name : Text) → named_among (in_force i) name ≡ None → states i (entity_named name) ≡ None
none-state i name none =
    (λ q. if automation-id name q then option_map (of_automation i) (none q) else option_map_or (of_helper i) (helper_named (helpers i) (entity_named name)) (reported i (entity_named name)))

-- LAW: the switch of a name, by the number
pub switch-known : (i : Journal) (s : Automations) (c : Config) (ns : List ℕ) (name : Text) → switches.StandsFor s i → AreNumbered i c.automations ns → switch_by s ns c name ≡ switch_named i name
switch-known i s c ns name stands are = ap (option_and_then (switch_at s)) (number-known i c ns name are) ∙ by (named_among (in_force i) name) refl
  where
    by : (o : Option ℕ) → named_among (in_force i) name ≡ o → option_and_then (switch_at s) o ≡ option_map (is_on i) o
    by None e = refl
    by (Some a) e = switch-of-journal s i stands a ∙ (λ q. if named-there (in_force i) name a e q then Some (is_on i a) else None)

none-of-some : (o : Option ℕ) → is_some o ≡ false → o ≡ None
none-of-some None h = refl
none-of-some (Some n) h = absurd (true-false h)

module _ (j : Journal) (x : Entry) (new : Config) (some : HasEntry j) (reloads : reload_in x ≡ Some new) where
  abbrev k : Journal
  k = more j x

  quiet : IsQuiet x
  quiet = reload-quiet x new reloads

  -- LAW: the state of a name whose switch comes or is another one
  pub state-anew : (name : Text) (on : Bool) → switch_named k name ≡ Some on → same_switch (switch_named j name) (Some on) ≡ false → states k (entity_named name) ≡ Some (switch_object on (now k))
  state-anew name on is other = states-anew j (entity_named name) x anew ∙ (λ q. option_map (λ (b : Bool). switch_object b (now k)) (is q))
    where
      or-true : (b : Bool) → (b || true) ≡ true
      or-true true = refl
      or-true false = refl

      there : is_named j x name ≡ true
      there = (λ q. is_some (switch_named j name) || is_some (is q)) ∙ or-true (is_some (switch_named j name))

      turned : turns j x name ≡ true
      turned = (λ q. quiet.opens q || not (same_switch (switch_named j name) (is q))) ∙ (λ q. not (other q))

      anew : sets_anew j x (entity_named name) ≡ true
      anew = (λ q. (automation-id name q && there q) && turned q)

  -- an entity that the Reload does not set anew keeps its state
  state-left : (e : EntityId) → sets_anew j x e ≡ false → states k e ≡ states j e
  state-left e s = states-other j e x quiet.report quiet.gone quiet.restart s (texts-left j x e quiet.boot quiet.changes quiet.moment)

  -- LAW: the state of a name that keeps its switch
  pub state-same : (name : Text) (on : Bool) → switch_named k name ≡ Some on → same_switch (switch_named j name) (Some on) ≡ true → states k (entity_named name) ≡ states j (entity_named name)
  state-same name on is alike = state-left (entity_named name) ((λ q. (is_automation (entity_named name) && is_named j x name) && turned q) ∙ and-false (is_automation (entity_named name) && is_named j x name))
    where
      and-false : (b : Bool) → (b && false) ≡ false
      and-false true = refl
      and-false false = refl

      turned : turns j x name ≡ false
      turned = (λ q. quiet.opens q || not (same_switch (switch_named j name) (is q))) ∙ (λ q. not (alike q))

  module _ (old c : Config) (had own : List ℕ) (old_are : AreNumbered j old.automations had) (new_are : AreNumbered k c.automations own) where
    -- LAW: the automations whose names go
    pub leaving : (t : StateTable) (before : Listed) → Halfway j k t before → Leaving j k c t before
    leaving t before half = record {
      gone = λ name none. none-state k name (none-of-some (named_among (in_force k) name) (sym (has-known k c own name new_are) ∙ none));
      halfway = half;
    }

    -- LAW: and those that come into force
    pub entering : (was s : Automations) (at_now : ℕ) → switches.StandsFor was j → switches.StandsFor s k → all_distinct (names_in (in_force k)) ≡ true → at_now ≡ now k → Entering j k old had was c.automations own s at_now
    entering was s at_now was_stand stand differ now_is = record {
      before = λ name. switch-known j was old had name was_stand old_are;
      behind = λ i y lt is.
          each-at (λ n z. named_among (in_force k) z.name ≡ Some n) own c.automations i y lt new_are.within is
          (subst (EachIn (λ n z. named_among (in_force k) z.name ≡ Some n)) (sym new_are.are) (each-named (in_force k) differ));
      stand = stand;
      anew = λ name on is other. state-anew name on is other ∙ (λ q. Some (switch_object on (sym now_is q)));
      same = state-same;
    }

    entered-found : (before : Listed) (ns : List ℕ) (us : List Automation) (name : Text) (a : ℕ) → named_among (zip ns us) name ≡ Some a → HaveEntered j k before us → IsSettled j k before (entity_named name)
    entered-found before [] us name a e h = absurd (none-some a e)
    entered-found before (n ∷ ns) [] name a e h = absurd (none-some a e)
    entered-found before (n ∷ ns) (u ∷ us) name a e h = by (same u.name name) refl e (λ f. entered-found before ns us name a f h.1)
      where
        by : (b : Bool) → same u.name name ≡ b → option_map {T = ℕ × Automation} {U = ℕ} (λ p. p.0) (if b then Some (n, u) else find (λ p. same p.1.name name) (zip ns us)) ≡ Some a
            → (named_among (zip ns us) name ≡ Some a → IsSettled j k before (entity_named name)) → IsSettled j k before (entity_named name)
        by true is f rec = subst (λ (t : Text). IsSettled j k before (entity_named t)) (same-sound u.name name is) h.0
        by false is f rec = rec f

    left-found : (before : Listed) (ns : List ℕ) (us : List Automation) (name : Text) (a : ℕ) → named_among (zip ns us) name ≡ Some a → has_name c name ≡ false → HaveLeft j k c before us → IsSettled j k before (entity_named name)
    left-found before [] us name a e none h = absurd (none-some a e)
    left-found before (n ∷ ns) [] name a e none h = absurd (none-some a e)
    left-found before (n ∷ ns) (u ∷ us) name a e none h = by (same u.name name) refl e (λ f. left-found before ns us name a f none h.1)
      where
        by : (b : Bool) → same u.name name ≡ b → option_map {T = ℕ × Automation} {U = ℕ} (λ p. p.0) (if b then Some (n, u) else find (λ p. same p.1.name name) (zip ns us)) ≡ Some a
            → (named_among (zip ns us) name ≡ Some a → IsSettled j k before (entity_named name)) → IsSettled j k before (entity_named name)
        by true is f rec =
            (let own' : u.name ≡ name = same-sound u.name name is in
            subst (λ (t : Text). IsSettled j k before (entity_named t)) own' (h.0 (ap (λ (t : Text). has_name c t) own' ∙ none)))
        by false is f rec = rec f

    module _ (t : StateTable) (before : Listed) (half : Halfway j k t before) (have_left : HaveLeft j k c before old.automations) (have_entered : HaveEntered j k before c.automations) where
      -- LAW: then all that changes is listed
      pub settled-all : (e : EntityId) → IsSettled j k before e
      settled-all e = by (is_automation e) refl
        where
          id-of : is_automation e ≡ true → entity_named e.object ≡ e
          id-of auto = (λ q. record { domain = sym (same-sound e.domain (codes "automation") auto) q; object = e.object })

          named : (name : Text) (o p : Option ℕ) → named_among (in_force k) name ≡ o → named_among (in_force j) name ≡ p → IsSettled j k before (entity_named name)
          named name (Some a) p f g = entered-found before own c.automations name a ((λ q. named_among (new_are.are q) name) ∙ f) have_entered
          named name None (Some a) f g =
              left-found before had old.automations name a ((λ q. named_among (old_are.are q) name) ∙ g) (has-known k c own name new_are ∙ (λ q. is_some (f q))) have_left
          named name None None f g = settled-same j k (entity_named name) before (none-state k name f ∙ sym (none-state j name g))

          by : (b : Bool) → is_automation e ≡ b → IsSettled j k before e
          by true auto = subst (IsSettled j k before) (id-of auto) (named e.object (named_among (in_force k) e.object) (named_among (in_force j) e.object) refl refl)
          by false other = settled-same j k e before (state-left e (λ q. (other q && is_named j x e.object) && turns j x e.object))

      -- LAW: the table stands for the journal with the Reload, and what changed is listed
      pub states-behind : (e : EntityId) → at t e ≡ states k e
      states-behind e = by (state_listed before e) (half e) (settled-all e)
        where
          by : (o : Option (Option StateObject)) → MatchOption o (at t e ≡ states j e) (λ old. (old ≡ states j e) × (at t e ≡ states k e)) → MatchOption o (states k e ≡ states j e) (λ old. Unit {0}) → at t e ≡ states k e
          by None h g = h ∙ sym g
          by (Some was) h g = h.1

      pub listed-behind : AreListed j x before
      listed-behind e = by (state_listed before e) (half e) (settled-all e)
        where
          none : reports e x ≡ false
          none = (λ q. is_some (no-change x e quiet.changes q) || option_map_or (λ r. same_entity r.entity e) (quiet.report q) false)

          by : (o : Option (Option StateObject)) → MatchOption o (at t e ≡ states j e) (λ old. (old ≡ states j e) × (at t e ≡ states k e)) → MatchOption o (states k e ≡ states j e) (λ old. Unit {0})
              → MatchOption o ((states k e ≡ states j e) × (reports e x ≡ false)) (λ old. old ≡ states j e)
          by None h g = (g, none)
          by (Some was) h g = h.0
