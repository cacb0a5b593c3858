-- The states of entities after one more entry, by the entry and what is seen after it.
use Rattle.std.proofs.Common.{◌≡◌, ℕ, List, [], ◌∷◌, ◌++◌, length, Bool, true, false, true≢false, refl, sym, ap, subst, ◌∙◌, rules}
use Rattle.std.proofs.Math.Seq.{take-length}
use Rattle.std.specs.Prelude.{IsSome, Option, Some, None, MatchOption, find, is_some, map, nat_eq, option_map, option_and_then, codes, ◌||◌, if◌then◌else◌}
use Rattle.std.specs.List.{list_all}
use Rattle.std.specs.Option.{option_map_or}
use Rattle.ha_value.specs.declared.value.EntityId.{EntityId}
use Rattle.ha_config.specs.declared.config.Automation.{Automation}
use Rattle.ha_config.specs.declared.command.Cmd.{Cmd}
use Rattle.ha_journal.specs.declared.entry.Entry.{Entry}
use Rattle.ha_journal.specs.declared.entry.Entry.TheVariants.{Boot, Line, Step, Again}
use Rattle.ha_sight.specs.declared.state.StateObject.{StateObject}
use Rattle.ha_sight.specs.Calls.{automation_at}
use Rattle.ha_config.specs.declared.helper.Helper.{Helper}
use Rattle.ha_config.specs.Helpers.{helper_named, is_helper}
use Rattle.ha_sight.specs.declared.helped.HelperChange.{HelperChange}
use Rattle.ha_journal.specs.declared.event.BusEvent.{BusEvent}
use Rattle.ha_journal.specs.Entries.{change_of, changes_in, report_in, gone_in, is_boot, is_restart, opens_segment}
use Rattle.ha_journal.specs.Helpers.{finishes, helper_events, text_of}
use Rattle.ha_journal.specs.Journal.{Journal, HasEntry, helpers, in_force, now, more}
use Rattle.ha_sight.specs.Sight.{Automations, switch_at, switch_seen, Sight}
use Rattle.ha_config.specs.Names.{named_among}
use Rattle.ha_journal.specs.States.{of_automation, of_helper, reported, states, switches_seen}
use Rattle.ha_sight.specs.StateStep.{next_object}
use Rattle.ha_journal.specs.Switches.{is_on}
use Rattle.ha_journal.specs.Moves.{sight}
use Rattle.ha_config.specs.Words.{Text, Pairs, same, same_entity}
use Rattle.ha_config.proofs.EqualLemmas.{and_left, and_right, entity-sound}
use Rattle.ha_journal.proofs.HelperLaws.{IsBare, helper-more, helper-seen, text-more, text_with}
use Rattle.ha_journal.proofs.NamedLaws.{before-is, event-finishes, event-nobody, named-is, none-before, some-has}
use Rattle.ha_journal.proofs.StateLemmas.{reported-report, reported-gone, reported-restart, reported-other}
use Rattle.trig_set.specs.declared.scene.Shift.{Shift}
use Rattle.trig_set.specs.Next.{Listed, changes_helpers, names_helper, reports, spares_helpers, state_listed}
use Rattle.trig_set.specs.Scenes.{face, shift_of}
use Rattle.trig_set.specs.Shifts.{AreMade, IsMade, changed_face, face_after, face_of_switch, is_automation, next_face, removes, reported_face}

-- ---- switches

eq-self : (a b : ℕ) → a ≡ b → nat_eq a b ≡ true
eq-self a b e = search (rules, e)

eq-of : (a b : ℕ) → nat_eq a b ≡ true → a ≡ b
eq-of a b e = search (rules, e)

-- one that is found is found by its number
found-seen : (test : ℕ × Text × Bool → Bool) (all : Automations) (a : ℕ) → option_map (λ (p : ℕ × Text × Bool). p.0) (find test all) ≡ Some a → IsSome (switch_at all a)
found-seen test [] a h = absurd (let bad : ◌≡◌ {A = Option ℕ} None (Some a) = h in cc)
found-seen test (p ∷ ps) a h = by (nat_eq p.0 a) (test p) refl h (found-seen test ps a)
  where
    by : (b c : Bool) → nat_eq p.0 a ≡ b → option_map (λ (q : ℕ × Text × Bool). q.0) (if c then Some p else find test ps) ≡ Some a
        → (option_map (λ (q : ℕ × Text × Bool). q.0) (find test ps) ≡ Some a → IsSome (switch_at ps a))
        → IsSome (option_map (λ (q : ℕ × Text × Bool). q.2) (if b then Some p else find (λ q. nat_eq q.0 a) ps))
    by true c e g rec = refl
    by false true e g rec = (let own : p.0 ≡ a = cc in absurd (let bad : ◌≡◌ {A = Bool} true false = sym (eq-self p.0 a own) ∙ e in cc))
    by false false e g rec = rec g

-- LAW: an automation that is seen has a switch
pub automation-seen : (all : Automations) (e : EntityId) (a : ℕ) → automation_at all e ≡ Some a → IsSome (switch_at all a)
automation-seen all e a h = by (same e.domain (codes "automation")) h
  where
    by : (b : Bool) → (if b then option_map (λ (p : ℕ × Text × Bool). p.0) (find (λ (p : ℕ × Text × Bool). same p.1 e.object) all) else None) ≡ Some a → IsSome (switch_at all a)
    by true g = found-seen (λ p. same p.1 e.object) all a g
    by false g = absurd (let bad : ◌≡◌ {A = Option ℕ} None (Some a) = g in cc)

module _ (j : Journal) (name : Text) where
  abbrev Rules : Type 0
  Rules = List (ℕ × Automation)

  -- automations with their switches
  abbrev shown : Rules → Automations
  shown ps = map {A = ℕ × Automation} {B = ℕ × Text × Bool} (λ p. (p.0, p.1.name, is_on j p.0)) ps

  abbrev numbered : Automations → Option ℕ
  numbered all = option_map (λ (p : ℕ × Text × Bool). p.0) (find (λ (p : ℕ × Text × Bool). same p.1 name) all)

  -- the same is found under a name
  same-number : (ps : Rules) → numbered (shown ps) ≡ named_among ps name
  same-number [] = refl
  same-number (p ∷ ps) = by (same p.1.name name) (same-number ps)
    where
      by : (b : Bool) → numbered (shown ps) ≡ named_among ps name
          → option_map (λ (q : ℕ × Text × Bool). q.0) (if b then Some (p.0, p.1.name, is_on j p.0) else find (λ (q : ℕ × Text × Bool). same q.1 name) (shown ps))
          ≡ option_map (λ (q : ℕ × Automation). q.0) (if b then Some p else find (λ (q : ℕ × Automation). same q.1.name name) ps)
      by true h = refl
      by false h = h

  -- and its switch is seen
  switch-of : (ps : Rules) (a : ℕ) → named_among ps name ≡ Some a → switch_at (shown ps) a ≡ Some (is_on j a)
  switch-of [] a h = absurd (let bad : ◌≡◌ {A = Option ℕ} None (Some a) = h in cc)
  switch-of (p ∷ ps) a h = by (nat_eq p.0 a) (same p.1.name name) refl h (switch-of ps a)
    where
      by : (b c : Bool) → nat_eq p.0 a ≡ b → option_map (λ (q : ℕ × Automation). q.0) (if c then Some p else find (λ (q : ℕ × Automation). same q.1.name name) ps) ≡ Some a
          → (named_among ps name ≡ Some a → switch_at (shown ps) a ≡ Some (is_on j a))
          → option_map (λ (q : ℕ × Text × Bool). q.2) (if b then Some (p.0, p.1.name, is_on j p.0) else find (λ (q : ℕ × Text × Bool). nat_eq q.0 a) (shown ps)) ≡ Some (is_on j a)
      by true c e g rec = (let own : p.0 ≡ a = eq-of p.0 a e in λ i. Some (is_on j (own i)))
      by false true e g rec = (let own : p.0 ≡ a = cc in absurd (let bad : ◌≡◌ {A = Bool} true false = sym (eq-self p.0 a own) ∙ e in cc))
      by false false e g rec = rec g

  -- LAW: the switch that is seen of a name is that of the automation in force of that name
  switch-seen : option_and_then (switch_at (switches_seen j)) (numbered (switches_seen j)) ≡ option_map (is_on j) (named_among (in_force j) name)
  switch-seen = (λ i. option_and_then (switch_at (switches_seen j)) (same-number (in_force j) i)) ∙ by (named_among (in_force j) name) refl
    where
      by : (o : Option ℕ) → named_among (in_force j) name ≡ o → option_and_then (switch_at (switches_seen j)) o ≡ option_map (is_on j) o
      by None e = refl
      by (Some a) e = switch-of (in_force j) a e

faces : (j : Journal) (o : Option ℕ) → face (option_map (of_automation j) o) ≡ option_map face_of_switch (option_map (is_on j) o)
faces j None = refl
faces j (Some a) = refl

automation-face : (j : Journal) (e : EntityId) → is_automation e ≡ true → face (states j e) ≡ option_map face_of_switch (option_and_then (switch_seen (sight j (length j))) (automation_at (sight j (length j)).automations e))
automation-face j e h =
    (λ i. face (if h i then option_map (of_automation j) (named_among (in_force j) e.object) else option_map_or (of_helper j) (helper_named (helpers j) e) (reported j e)))
    ∙ faces j (named_among (in_force j) e.object)
    ∙ ap (option_map face_of_switch) (sym (switch-seen j e.object))
    ∙ (let all = sym (take-length j) in λ i. option_map face_of_switch (option_and_then (switch_at (switches_seen (all i))) (if sym h i then option_map (λ (p : ℕ × Text × Bool). p.0) (find (λ (p : ℕ × Text × Bool). same p.1 e.object) (switches_seen (all i))) else None)))

-- ---- other entities

next-object-face : (o : Option StateObject) (text : Text) (attributes : Pairs) (at : ℕ) → face (Some (next_object o text attributes at)) ≡ Some (text, attributes)
next-object-face None text attributes at = refl
next-object-face (Some o) text attributes at = refl

either : (a b : Bool) → (a || b) ≡ false → (a ≡ false) × (b ≡ false)
either true b h = absurd (true≢false h)
either false b h = (refl, h)

none-of : {X : Type 0} (o : Option X) → is_some o ≡ false → o ≡ None
none-of None h = refl
none-of (Some v) h = absurd (true≢false h)

module _ (j : Journal) (e : EntityId) where
  -- those of an entity that is no helper
  abbrev plain_face : Entry → Option (Text × Pairs) → Option (Text × Pairs)
  plain_face x old = option_map_or (λ r. Some r) (reported_face x e) (if removes x e then None else old)

  other : (x : Entry) → report_in x ≡ None → gone_in x ≡ None → is_restart x ≡ false → face (reported (more j x) e) ≡ plain_face x (face (reported j e))
  other x r g s =
      ap face (reported-other j e x r g s)
      ∙ (λ i. option_map_or (λ r. Some r) (option_and_then (λ r. if same_entity r.entity e then Some (r.text, r.attributes) else None) (sym r i))
      (if sym s i || option_map_or (λ y. same_entity y e) (sym g i) false then None else face (reported j e)))

  next : (x : Entry) → face (reported (more j x) e) ≡ plain_face x (face (reported j e))
  next (Boot text config stored start zone carry) = other (Boot text config stored start zone carry) refl refl refl
  next (Again number start stored carry) = other (Again number start stored carry) refl refl refl
  next (Step worker serial branch item) = other (Step worker serial branch item) refl refl refl
  next (Line k n (Cmd.Report entity text attributes)) = ap face (reported-report j e k n entity text attributes) ∙ by (same_entity entity e)
    where
      by : (b : Bool) → face (if b then Some (next_object (reported j e) text attributes (now (more j (Line k n (Cmd.Report entity text attributes))))) else reported j e)
          ≡ option_map_or (λ r. Some r) (if b then Some (text, attributes) else None) (face (reported j e))
      by true = next-object-face (reported j e) text attributes (now (more j (Line k n (Cmd.Report entity text attributes))))
      by false = refl
  next (Line k n (Cmd.Gone entity)) = ap face (reported-gone j e k n entity) ∙ by (same_entity entity e)
    where
      by : (b : Bool) → face (if b then None else reported j e) ≡ (if b then None else face (reported j e))
      by true = refl
      by false = refl
  next (Line k n Cmd.Restart) = ap face (reported-restart j e k n)
  next (Line k n (Cmd.Reload text config)) = other (Line k n (Cmd.Reload text config)) refl refl refl
  next (Line k n (Cmd.Event kind pairs)) = other (Line k n (Cmd.Event kind pairs)) refl refl refl
  next (Line k n (Cmd.Moment at)) = other (Line k n (Cmd.Moment at)) refl refl refl
  next (Line k n (Cmd.Switch name on stop)) = other (Line k n (Cmd.Switch name on stop)) refl refl refl
  next (Line k n (Cmd.Trigger name skip)) = other (Line k n (Cmd.Trigger name skip)) refl refl refl
  next (Line k n (Cmd.Refused code)) = other (Line k n (Cmd.Refused code)) refl refl refl
  next (Line k n Cmd.Lost) = other (Line k n Cmd.Lost) refl refl refl
  next (Line k n Cmd.TooLong) = other (Line k n Cmd.TooLong) refl refl refl

  -- ---- helpers

  -- only helpers are changed
  unhelped : (all : List Helper) (cs : List HelperChange) → helper_named all e ≡ None → list_all (λ c. is_helper all c.entity) cs ≡ true → find (λ c. same_entity c.entity e) cs ≡ None
  unhelped all [] none h = refl
  unhelped all (c ∷ cs) none h = by (same_entity c.entity e) refl (unhelped all cs none (and_right (is_helper all c.entity) _ h))
    where
      by : (b : Bool) → same_entity c.entity e ≡ b → find (λ (d : HelperChange). same_entity d.entity e) cs ≡ None → (if b then Some c else find (λ (d : HelperChange). same_entity d.entity e) cs) ≡ None
      by true one rest =
          let is : is_helper all c.entity ≡ true = and_left (is_helper all c.entity) _ h in
          absurd (true≢false (sym is ∙ ap (is_helper all) (entity-sound c.entity e one) ∙ ap is_some none))
      by false one rest = rest

  module _ (x : Entry) (plain : is_automation e ≡ false) where
    abbrev named : Journal → Option Helper
    named k = helper_named (helpers k) e

    states-by : (k : Journal) → states k e ≡ option_map_or (of_helper k) (named k) (reported k e)
    states-by k = (λ i. if plain i then option_map (of_automation k) (named_among (in_force k) e.object) else option_map_or (of_helper k) (named k) (reported k e))

    of-nobody : named (more j x) ≡ None → changes_helpers j x ≡ true → face (states (more j x) e) ≡ next_face (helper_events j x) x e (face (states j e))
    of-nobody none helped =
        ap face (states-by (more j x) ∙ (λ i. option_map_or (of_helper (more j x)) (none i) (reported (more j x) e)))
        ∙ next x
        ∙ (λ i. plain_face x (face (sym (states-by j ∙ (λ i. option_map_or (of_helper j) (none-before j x e none i) (reported j e))) i)))
        ∙ sym (λ i. option_map_or (λ r. Some r) (reported_face x e)
        (option_map_or (λ r. Some r) (option_map {T = HelperChange} {U = Text × Pairs} (λ c. (c.text, [])) (unhelped (helpers (more j x)) (changes_in x) none helped i))
        (if event-nobody j x e (none-before j x e none) i then Some (codes "idle", []) else (if removes x e then None else face (states j e)))))

    module _ (h : Helper) (is : named (more j x) ≡ Some h) (spared : spares_helpers x ≡ false) where
      kinds : ((is_boot x ≡ false) × (is_restart x ≡ false)) × ((report_in x ≡ None) × (gone_in x ≡ None))
      kinds =
          let all = either (opens_segment x || is_some (report_in x)) (is_some (gone_in x)) spared in
          let first = either (opens_segment x) (is_some (report_in x)) all.0 in
          (either (is_boot x) (is_restart x) first.0, (none-of (report_in x) first.1, none-of (gone_in x) all.1))

      some : HasEntry j
      some = some-has j x e h kinds.0.0 is

      before : named j ≡ Some h
      before = before-is j x e h some is

      id : h.entity ≡ e
      id = named-is (helpers j) e h before

      -- the state before has its text
      bare-face : (o : Option StateObject) (text : Text) → IsBare o text → face o ≡ Some (text, [])
      bare-face o text bare = ap face bare.is ∙ (λ i. Some (bare.text_is i, bare.attributes_are i))

      old-face : face (states j e) ≡ Some (text_of j h, [])
      old-face = ap face (states-by j ∙ (λ i. option_map_or (of_helper j) (before i) (reported j e))) ∙ bare-face (of_helper j h) (text_of j h) (helper-seen j h some)

      texted : (o : Option HelperChange) (b : Bool) (text : Text)
          → Some (text_with o (if b then codes "idle" else text), []) ≡ option_map_or (λ r. Some r) (option_map {T = HelperChange} {U = Text × Pairs} (λ c. (c.text, [])) o) (if b then Some (codes "idle", []) else Some (text, []))
      texted None true text = refl
      texted None false text = refl
      texted (Some c) b text = refl

      of-helped : face (states (more j x) e) ≡ next_face (helper_events j x) x e (face (states j e))
      of-helped =
          ap face (states-by (more j x) ∙ (λ i. option_map_or (of_helper (more j x)) (is i) (reported (more j x) e)) ∙ helper-more j x h)
          ∙ next-object-face (of_helper j h) (text_of (more j x) h) [] (now (more j x))
          ∙ (λ i. Some ((text-more j x h ∙ (λ k. text_with (change_of (id k) x) (if finishes j x h then codes "idle" else text_of j h))) i, []))
          ∙ texted (change_of e x) (finishes j x h) (text_of j h)
          ∙ sym (λ i. option_map_or (λ r. Some r) (option_and_then (λ r. if same_entity r.entity e then Some (r.text, r.attributes) else None) (kinds.1.0 i))
          (option_map_or (λ r. Some r) (changed_face x e)
          (if event-finishes j x e h before i then Some (codes "idle", []) else (if kinds.0.1 i || option_map_or (λ g. same_entity g e) (kinds.1.1 i) false then None else old-face i))))

    -- where helpers keep their texts, it is none
    next-plain : changes_helpers j x ≡ true → (spares_helpers x ≡ true → is_helper (helpers (more j x)) e ≡ false) → face (states (more j x) e) ≡ next_face (helper_events j x) x e (face (states j e))
    next-plain helped apart = by (named (more j x)) refl
      where
        by : (o : Option Helper) → named (more j x) ≡ o → face (states (more j x) e) ≡ next_face (helper_events j x) x e (face (states j e))
        by None none = of-nobody none helped
        by (Some h) is = of (spares_helpers x) refl
          where
            of : (b : Bool) → spares_helpers x ≡ b → face (states (more j x) e) ≡ next_face (helper_events j x) x e (face (states j e))
            of true spared = absurd (true≢false (sym (ap is_some is) ∙ apart spared))
            of false spared = of-helped h is spared

-- LAW: the text and attributes of an entity after one more entry
pub after-face : (j : Journal) (x : Entry) (events : List BusEvent) (seen : Sight) (e : EntityId) → events ≡ helper_events j x → seen ≡ sight (more j x) (length (more j x)) → changes_helpers j x ≡ true
    → (spares_helpers x ≡ true → is_helper (helpers (more j x)) e ≡ false) → face (states (more j x) e) ≡ face_after events x seen e (face (states j e))
after-face j x events seen e are sees helped apart = by (is_automation e) refl
  where
    by : (b : Bool) → is_automation e ≡ b
        → face (states (more j x) e) ≡ (if b then option_map face_of_switch (option_and_then (switch_seen seen) (automation_at seen.automations e)) else next_face events x e (face (states j e)))
    by true h = automation-face (more j x) e h ∙ (λ i. option_map face_of_switch (option_and_then (switch_seen (sym sees i)) (automation_at (sym sees i).automations e)))
    by false h = next-plain j e x h helped apart ∙ (λ i. next_face (sym are i) x e (face (states j e)))

-- ---- lists of changes

module _ (events : List BusEvent) (x : Entry) (seen : Sight) where
  -- LAW: one more change
  pub made-more : (ps : Listed) (cs : List Shift) (p : EntityId × Option StateObject) (c : Shift) → AreMade events x seen ps cs → IsMade events x seen p c → AreMade events x seen (ps ++ (p ∷ [])) (cs ++ (c ∷ []))
  made-more [] [] p c all one = (one, tt)
  made-more [] (b ∷ bs) p c all one = absurd all
  made-more (q ∷ qs) [] p c all one = absurd all
  made-more (q ∷ qs) (b ∷ bs) p c all one = (all.0, made-more qs bs p c all.1 one)

  module _ (j : Journal) (are : events ≡ helper_events j x) (sees : seen ≡ sight (more j x) (length (more j x))) (helped : changes_helpers j x ≡ true) (e : EntityId) where
    abbrev Told : Option (Option StateObject) → Option Shift → Type 0
    Told listed made =
        MatchOption listed ((states (more j x) e ≡ states j e) × (reports e x ≡ false)) (λ old. old ≡ states j e)
        → MatchOption made ((states (more j x) e ≡ states j e) × (reports e x ≡ false)) (λ c. (face c.old ≡ face (states j e)) × (face c.new ≡ face (states (more j x) e)))

    abbrev Apart : Listed → Type 0
    Apart ps = spares_helpers x ≡ true → names_helper (more j x) ps ≡ false

    told : (p : EntityId × Option StateObject) (c : Shift) → IsMade events x seen p c → same_entity p.0 e ≡ true → (spares_helpers x ≡ true → is_helper (helpers (more j x)) p.0 ≡ false) → Told (Some p.1) (Some c)
    told p c made h apart old =
        let is : p.0 ≡ e = entity-sound p.0 e h in (
          ap face (made.1 ∙ old),
          made.2 ∙ (λ i. face_after events x seen (is i) (face (old i)))
              ∙ sym (after-face j x events seen e are sees helped (λ spared. ap (is_helper (helpers (more j x))) (sym is) ∙ apart spared)),
        )

    one-apart : (p : EntityId × Option StateObject) (ps : Listed) → Apart (p ∷ ps) → spares_helpers x ≡ true → is_helper (helpers (more j x)) p.0 ≡ false
    one-apart p ps apart spared = (either (is_helper (helpers (more j x)) p.0) (names_helper (more j x) ps) (apart spared)).0

    rest-apart : (p : EntityId × Option StateObject) (ps : Listed) → Apart (p ∷ ps) → Apart ps
    rest-apart p ps apart spared = (either (is_helper (helpers (more j x)) p.0) (names_helper (more j x) ps) (apart spared)).1

    pub made-shifts : (ps : Listed) (cs : List Shift) → AreMade events x seen ps cs → Apart ps → Told (state_listed ps e) (shift_of cs e)
    made-shifts [] [] all apart = λ h. h
    made-shifts [] (c ∷ cs) all apart = absurd all
    made-shifts (p ∷ ps) [] all apart = absurd all
    made-shifts (p ∷ ps) (c ∷ cs) all apart =
        subst (λ (d : EntityId). Told (option_map (λ p. p.1) (if same_entity p.0 e then Some p else find (λ p. same_entity p.0 e) ps)) (if same_entity d e then Some c else find (λ c. same_entity c.entity e) cs)) (sym all.0.0)
        (by (same_entity p.0 e) refl (made-shifts ps cs all.1 (rest-apart p ps apart)))
      where
        by : (b : Bool) → same_entity p.0 e ≡ b → Told (state_listed ps e) (shift_of cs e) → Told (option_map (λ p. p.1) (if b then Some p else find (λ p. same_entity p.0 e) ps)) (if b then Some c else find (λ c. same_entity c.entity e) cs)
        by true h rest = told p c all.0 h (one-apart p ps apart)
        by false h rest = rest
