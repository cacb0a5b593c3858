-- How the states of entities change with one more entry.
use Rattle.std.proofs.Common.{◌≡◌, [], ◌∷◌, ℕ, Bool, true, false, true≢false, ◌&&◌, ◌||◌, refl, sym, ap, ◌∙◌}
use Rattle.std.specs.Prelude.{Option, Some, None, not, codes, is_some, option_map, if◌then◌else◌}
use Rattle.std.specs.Option.{option_map_or}
use Rattle.ha_value.specs.declared.value.EntityId.{EntityId}
use Rattle.ha_config.specs.declared.command.Cmd.{Cmd}
use Rattle.ha_journal.specs.declared.entry.Entry.{Entry}
use Rattle.ha_journal.specs.declared.entry.Entry.TheVariants.{Line}
use Rattle.ha_config.specs.Words.{Text, Pairs, same_entity}
use Rattle.ha_config.specs.declared.helper.Helper.{Helper}
use Rattle.ha_config.specs.Helpers.{helper_named, is_helper}
use Rattle.ha_config.specs.Names.{named_among}
use Rattle.ha_config.proofs.EqualLemmas.{and_left, and_right, entity-sound}
use Rattle.ha_journal.specs.Entries.{report_in, gone_in, change_of, changes_in, is_boot, is_moment, is_restart, opens_segment, Turning, turning}
use Rattle.ha_journal.specs.Helpers.{finishes, text_of}
use Rattle.ha_journal.specs.Journal.{Journal, HasEntry, helpers, in_force, now, more}
use Rattle.ha_journal.specs.Switches.{is_on, same_switch, switch_named}
use Rattle.ha_journal.specs.States.{of_automation, of_helper, reported, since_moment, states, switch_state}
use Rattle.ha_sight.specs.StateStep.{next_object}
use Rattle.ha_sight.specs.declared.state.StateObject.{StateObject}
use Rattle.ha_journal.proofs.HelperLaws.{helper-left, helper-more, text-left, text-more, text_with}
use Rattle.ha_journal.proofs.MoreLemmas.{helpers-more}
use Rattle.ha_journal.proofs.NamedLaws.{before-is, before-state, named-is, none-before, some-has}
use Rattle.ha_journal.proofs.NamedStates as named
use Rattle.ha_journal.proofs.NamedStates.{states-named, states-stay}
use Rattle.ha_journal.proofs.SinceLaws.{named-left}
use Rattle.ha_journal.proofs.StateLemmas.{reported-report, reported-gone, reported-restart, reported-other}
use Rattle.state_table.specs.Anew.{is_automation, switch_object}
use Rattle.state_laws.specs.Stands.{gives_text, is_named, sets_anew, turns}

-- ---- flags

pub or_left : (a b : Bool) → (a || b) ≡ false → a ≡ false
or_left true b h = cc
or_left false b h = refl

pub or_right : (a b : Bool) → (a || b) ≡ false → b ≡ false
or_right true b h = cc
or_right false b h = h

not-false : (a : Bool) → not a ≡ false → a ≡ true
not-false true h = refl
not-false false h = cc

switch-itself : (o : Option Bool) → same_switch o o ≡ true
switch-itself None = refl
switch-itself (Some true) = refl
switch-itself (Some false) = refl

-- ---- the automations' states

-- where no automation has the name before or after, there is no state
nothing-named : (j : Journal) (e : EntityId) → is_automation e ≡ true → is_some (switch_named j e.object) ≡ false → states j e ≡ None
nothing-named j e domain h = states-named j e domain ∙ by (switch_named j e.object) h
  where
    by : (o : Option Bool) → is_some o ≡ false → option_map (switch_state (since_moment j e.object)) o ≡ None
    by None h = refl
    by (Some b) h = cc

module _ (j : Journal) (x : Entry) (e : EntityId) (domain : is_automation e ≡ true) where
  abbrev before : Bool
  before = is_some (switch_named j e.object)

  abbrev behind : Bool
  behind = is_some (switch_named (more j x) e.object)

  -- no automation has the name, or the entry leaves its switch
  unset : sets_anew j x e ≡ false → (is_named j x e.object && turns j x e.object) ≡ false
  unset s = (λ i. sym domain i && is_named j x e.object && turns j x e.object) ∙ s

  unnamed : is_named j x e.object ≡ false → states (more j x) e ≡ states j e
  unnamed h = nothing-named (more j x) e domain (or_right before behind h) ∙ sym (nothing-named j e domain (or_left before behind h))

-- the first entry: where it leaves the switch of a name, there is none
first-left : (x : Entry) (e : EntityId) → is_automation e ≡ true → turns [] x e.object ≡ false → states (more [] x) e ≡ states [] e
first-left x e domain h =
    nothing-named (more [] x) e domain (by (switch_named (more [] x) e.object) (not-false (same_switch None (switch_named (more [] x) e.object)) (or_right (opens_segment x) (not (same_switch None (switch_named (more [] x) e.object))) h)))
    ∙ sym (nothing-named [] e domain refl)
  where
    by : (o : Option Bool) → same_switch None o ≡ true → is_some o ≡ false
    by None h = refl
    by (Some b) h = cc

left : (j : Journal) (x : Entry) (e : EntityId) → is_automation e ≡ true → turns j x e.object ≡ false → states (more j x) e ≡ states j e
left [] x e domain h = first-left x e domain h
left (y ∷ ys) x e domain h =
    let j : Journal = y ∷ ys in
    let changes : Bool = not (same_switch (switch_named j e.object) (switch_named (more j x) e.object)) in
    states-stay j x e tt domain (or_left (opens_segment x) changes h)
    (not-false (same_switch (switch_named j e.object) (switch_named (more j x) e.object)) (or_right (opens_segment x) changes h))

kept : (j : Journal) (x : Entry) (e : EntityId) → is_automation e ≡ true → sets_anew j x e ≡ false → states (more j x) e ≡ states j e
kept j x e domain s = by (is_named j x e.object) refl (unset j x e domain s)
  where
    by : (b : Bool) → is_named j x e.object ≡ b → (b && turns j x e.object) ≡ false → states (more j x) e ≡ states j e
    by true f h = left j x e domain h
    by false f h = unnamed j x e domain f

-- an entry that turns no switch, and is no Boot or Restart
plain : (j : Journal) (x : Entry) (e : EntityId) → is_automation e ≡ true → turning x ≡ Turning.Leaves → opens_segment x ≡ false → named_among (in_force (x ∷ [])) e.object ≡ None → states (more j x) e ≡ states j e
plain [] x e domain t o first = nothing-named (x ∷ []) e domain (λ i. is_some (option_map (is_on (x ∷ [])) (first i))) ∙ sym (nothing-named [] e domain refl)
plain (y ∷ ys) x e domain t o first =
    let j : Journal = y ∷ ys in
    states-stay j x e tt domain o ((λ i. same_switch (switch_named j e.object) (named-left j x e.object tt t i)) ∙ switch-itself (switch_named j e.object))

-- ---- the helpers' states

none-of-some : {X : Type 0} (o : Option X) → is_some o ≡ false → o ≡ None
none-of-some None h = refl
none-of-some (Some x) h = absurd (true≢false h)

-- a line has the helpers of the journal before it
helpers-line : (j : Journal) (k n : ℕ) (cmd : Cmd) → helpers (more j (Line k n cmd)) ≡ helpers j
helpers-line [] k n cmd = refl
helpers-line (y ∷ ys) k n cmd = sym (helpers-more (y ∷ ys) (Line k n cmd) tt)

-- a helper that is given no text keeps its state
helper-untold : (j : Journal) (x : Entry) (e : EntityId) (h : Helper) → HasEntry j → helper_named (helpers (more j x)) e ≡ Some h → change_of e x ≡ None → finishes j x h ≡ false
    → of_helper (more j x) h ≡ of_helper j h
helper-untold j x e h some q none still =
    helper-left j x h some
    (text-more j x h
    ∙ (λ i. text_with ((ap (λ v. change_of v x) (named-is (helpers (more j x)) e h q) ∙ none) i) (if still i then codes "idle" else text_of j h)))

-- the state of an entity that is no automation
other-states : (j : Journal) (e : EntityId) → is_automation e ≡ false → states j e ≡ option_map_or (of_helper j) (helper_named (helpers j) e) (reported j e)
other-states j e h = (λ i. if h i then option_map (of_automation j) (named_among (in_force j) e.object) else option_map_or (of_helper j) (helper_named (helpers j) e) (reported j e))

-- ---- states

-- the states after one more entry, where the entity is no automation that it sets anew
module _ (j : Journal) (e : EntityId) (x : Entry) where
  abbrev helper_in : Journal → Option Helper
  helper_in k = helper_named (helpers k) e

  texted : is_automation e ≡ false → gives_text j x e ≡ false → option_map_or (λ h. is_boot x || is_some (change_of e x) || finishes j x h) (helper_in (more j x)) false ≡ false
  texted h g = (λ i. not (sym h i) && option_map_or (λ h. is_boot x || is_some (change_of e x) || finishes j x h) (helper_in (more j x)) false) ∙ g

  -- the helper of this id, if there is one, keeps its state
  helper-kept : report_in x ≡ None → gone_in x ≡ None → is_restart x ≡ false → option_map_or (λ h. is_boot x || is_some (change_of e x) || finishes j x h) (helper_in (more j x)) false ≡ false
      → option_map_or (of_helper (more j x)) (helper_in (more j x)) (reported (more j x) e) ≡ option_map_or (of_helper j) (helper_in j) (reported j e)
  helper-kept report gone restart g = by (helper_in (more j x)) refl g
    where
      by : (o : Option Helper) → helper_in (more j x) ≡ o → option_map_or (λ h. is_boot x || is_some (change_of e x) || finishes j x h) o false ≡ false
          → option_map_or (of_helper (more j x)) o (reported (more j x) e) ≡ option_map_or (of_helper j) (helper_in j) (reported j e)
      by None q g = reported-other j e x report gone restart ∙ sym (λ i. option_map_or (of_helper j) (none-before j x e q i) (reported j e))
      by (Some h) q g =
          let both = or_left (is_boot x || is_some (change_of e x)) (finishes j x h) g in
          let some = some-has j x e h (or_left (is_boot x) (is_some (change_of e x)) both) q in
          helper-untold j x e h some q (none-of-some (change_of e x) (or_right (is_boot x) (is_some (change_of e x)) both))
          (or_right (is_boot x || is_some (change_of e x)) (finishes j x h) g)
          ∙ sym (λ i. option_map_or (of_helper j) (before-is j x e h some q i) (reported j e))

  pub states-other : report_in x ≡ None → gone_in x ≡ None → is_restart x ≡ false → sets_anew j x e ≡ false → gives_text j x e ≡ false → states (more j x) e ≡ states j e
  states-other report gone restart s g = by (is_automation e) refl
    where
      by : (b : Bool) → is_automation e ≡ b → states (more j x) e ≡ states j e
      by true h = kept j x e h s
      by false h = other-states (more j x) e h ∙ helper-kept report gone restart (texted h g) ∙ sym (other-states j e h)

  -- LAW: the state of a helper is what a report of its text would make of the state before
  pub states-helper : (h : Helper) → is_automation e ≡ false → helper_in (more j x) ≡ Some h → states (more j x) e ≡ Some (next_object (states j e) (text_of (more j x) h) [] (now (more j x)))
  states-helper h other q =
      other-states (more j x) e other
      ∙ (λ i. option_map_or (of_helper (more j x)) (q i) (reported (more j x) e))
      ∙ helper-more j x h
      ∙ (λ i. Some (next_object (before-state j x e h q i) (text_of (more j x) h) [] (now (more j x))))
      ∙ (λ i. Some (next_object (sym (other-states j e other) i) (text_of (more j x) h) [] (now (more j x))))

  -- and where it is
  pub states-anew : sets_anew j x e ≡ true → states (more j x) e ≡ option_map (λ on. switch_object on (now (more j x))) (switch_named (more j x) e.object)
  states-anew s =
      let there : Bool = is_automation e && is_named j x e.object in
      named.states-anew j x e (and_left (is_automation e) (is_named j x e.object) (and_left there (turns j x e.object) s)) (and_right there (turns j x e.object) s)

-- two ids are not the same where one is of an automation and the other is not
apart : (entity e : EntityId) → is_automation entity ≡ false → is_automation e ≡ true → same_entity entity e ≡ false
apart entity e h k = by (same_entity entity e) refl
  where
    by : (b : Bool) → same_entity entity e ≡ b → b ≡ false
    by true q = (let s = ap is_automation (entity-sound entity e q) in cc)
    by false q = refl

module _ (j : Journal) (e entity : EntityId) (k n : ℕ) (other : is_automation entity ≡ false) (free : is_helper (helpers j) entity ≡ false) where
  -- another entity than a helper
  not-helper : (h : Helper) → helper_named (helpers j) e ≡ Some h → same_entity entity e ≡ false
  not-helper h q = by (same_entity entity e) refl
    where
      by : (b : Bool) → same_entity entity e ≡ b → b ≡ false
      by true one = absurd (true≢false (sym (ap is_some (ap (helper_named (helpers j)) (entity-sound entity e one) ∙ q)) ∙ free))
      by false one = refl

  has-some : (l : Journal) (h : Helper) → helper_named (helpers l) e ≡ Some h → HasEntry l
  has-some [] h q = cc
  has-some (y ∷ ys) h q = tt

  module _ (cmd : Cmd) (w : Option StateObject → Option StateObject) where
    abbrev line : Entry
    line = Line k n cmd

    -- the helpers of the other ids keep their states
    helpers-left : changes_in line ≡ [] → is_moment line ≡ false
        → reported (more j line) e ≡ (if same_entity entity e then w (reported j e) else reported j e)
        → option_map_or (of_helper (more j line)) (helper_named (helpers (more j line)) e) (reported (more j line) e)
        ≡ (if same_entity entity e then w (option_map_or (of_helper j) (helper_named (helpers j) e) (reported j e)) else option_map_or (of_helper j) (helper_named (helpers j) e) (reported j e))
    helpers-left none still told =
        (λ i. option_map_or (of_helper (more j line)) (helper_named (helpers-line j k n cmd i) e) (reported (more j line) e)) ∙ by (helper_named (helpers j) e) refl
      where
        by : (o : Option Helper) → helper_named (helpers j) e ≡ o
            → option_map_or (of_helper (more j line)) o (reported (more j line) e)
            ≡ (if same_entity entity e then w (option_map_or (of_helper j) o (reported j e)) else option_map_or (of_helper j) o (reported j e))
        by None q = told
        by (Some h) q =
            helper-left j line h (has-some j h q) (text-left j line (record { changes = none; moment = still }) h)
            ∙ sym (λ i. if not-helper h q i then w (of_helper j h) else of_helper j h)

  pub states-report : (text : Text) (attributes : Pairs)
      → states (more j (Line k n (Cmd.Report entity text attributes))) e
      ≡ (if same_entity entity e then Some (next_object (states j e) text attributes (now (more j (Line k n (Cmd.Report entity text attributes))))) else states j e)
  states-report text attributes = by (is_automation e) refl
    where
      x : Entry
      x = Line k n (Cmd.Report entity text attributes)

      at : ℕ
      at = now (more j (Line k n (Cmd.Report entity text attributes)))

      by : (b : Bool) → is_automation e ≡ b → states (more j (Line k n (Cmd.Report entity text attributes))) e
          ≡ (if same_entity entity e then Some (next_object (states j e) text attributes (now (more j (Line k n (Cmd.Report entity text attributes))))) else states j e)
      by true h =
          plain j (Line k n (Cmd.Report entity text attributes)) e h refl refl refl
          ∙ sym (λ i. if apart entity e other h i then Some (next_object (states j e) text attributes at) else states j e)
      by false h =
          other-states (more j (Line k n (Cmd.Report entity text attributes))) e h
          ∙ helpers-left (Cmd.Report entity text attributes) (λ o. Some (next_object o text attributes at)) refl refl (reported-report j e k n entity text attributes)
          ∙ (λ i. if same_entity entity e then Some (next_object (sym (other-states j e h) i) text attributes at) else sym (other-states j e h) i)

  pub states-gone : states (more j (Line k n (Cmd.Gone entity))) e ≡ (if same_entity entity e then None else states j e)
  states-gone = by (is_automation e) refl
    where
      by : (b : Bool) → is_automation e ≡ b → states (more j (Line k n (Cmd.Gone entity))) e ≡ (if same_entity entity e then None else states j e)
      by true h =
          plain j (Line k n (Cmd.Gone entity)) e h refl refl refl
          ∙ sym (λ i. if apart entity e other h i then None else states j e)
      by false h =
          other-states (more j (Line k n (Cmd.Gone entity))) e h
          ∙ helpers-left (Cmd.Gone entity) (λ o. None) refl refl (reported-gone j e k n entity)
          ∙ (λ i. if same_entity entity e then None else sym (other-states j e h) i)

pub states-restart : (j : Journal) (e : EntityId) (k n : ℕ) → sets_anew j (Line k n Cmd.Restart) e ≡ false → is_helper (helpers j) e ≡ false → states (more j (Line k n Cmd.Restart)) e ≡ None
states-restart j e k n s free = by (is_automation e) refl
  where
    x : Entry
    x = Line k n Cmd.Restart

    -- it sets anew each automation that there is
    none : (b : Bool) → (b && true) ≡ false → b ≡ false
    none true h = h
    none false h = refl

    by : (b : Bool) → is_automation e ≡ b → states (more j (Line k n Cmd.Restart)) e ≡ None
    by true h =
        let unnamed : is_named j (Line k n Cmd.Restart) e.object ≡ false = none (is_named j (Line k n Cmd.Restart) e.object) (unset j (Line k n Cmd.Restart) e h s) in
        nothing-named (more j (Line k n Cmd.Restart)) e h (or_right (is_some (switch_named j e.object)) (is_some (switch_named (more j (Line k n Cmd.Restart)) e.object)) unnamed)
    by false h =
        (let nobody : helper_named (helpers (more j x)) e ≡ None = (λ i. helper_named (helpers-line j k n Cmd.Restart i) e) ∙ none-of-some (helper_named (helpers j) e) free in
        other-states (more j x) e h ∙ (λ i. option_map_or (of_helper (more j x)) (nobody i) (reported (more j x) e)))
        ∙ reported-restart j e k n

-- LAW: a helper keeps its state at a Restart
pub restart-keeps : (j : Journal) (e : EntityId) (k n : ℕ) (h : Helper) → is_automation e ≡ false → helper_named (helpers j) e ≡ Some h → states (more j (Line k n Cmd.Restart)) e ≡ states j e
restart-keeps j e k n h other q =
    other-states (more j x) e other
    ∙ (λ i. option_map_or (of_helper (more j x)) (after i) (reported (more j x) e))
    ∙ helper-left j x h (some j q) (text-left j x (record { changes = refl; moment = refl }) h)
    ∙ sym (λ i. option_map_or (of_helper j) (q i) (reported j e))
    ∙ sym (other-states j e other)
  where
    x : Entry
    x = Line k n Cmd.Restart

    after : helper_named (helpers (more j x)) e ≡ Some h
    after = (λ i. helper_named (helpers-line j k n Cmd.Restart i) e) ∙ q

    some : (l : Journal) → helper_named (helpers l) e ≡ Some h → HasEntry l
    some [] q = cc
    some (y ∷ ys) q = tt

-- nothing is known before the first entry
pub states-empty : (e : EntityId) → states [] e ≡ None
states-empty e = by (is_automation e) refl
  where
    by : (b : Bool) → is_automation e ≡ b → states [] e ≡ None
    by true h = nothing-named [] e h refl
    by false h = other-states [] e h
