-- With which variables an entry moves a trigger, by what is seen before and after it.
use Rattle.std.proofs.lemmas.List.{take_all}
use Rattle.std.proofs.Common.{◌≡◌, ℕ, suc, ◌<◌, ◌≤◌, List, [], ◌∷◌, ◌++◌, length, map, Bool, true, false, refl, sym, ap, ◌∙◌, arith}
use Rattle.std.specs.Prelude.{codes, Option, Some, None, find, filter_map, not, is_some, is_none, nat_lt, option_map, option_and_then, ◌&&◌, ◌||◌, if◌then◌else◌}
use Rattle.std.specs.Option.{option_map_or, option_to_list}
use Rattle.std.proofs.lemmas.Bool.Decides.{nat_tests}
use Rattle.ha_value.specs.declared.value.EntityId.{EntityId}
use Rattle.ha_value.specs.declared.value.Value.{Value}
use Rattle.ha_value.specs.declared.value.Value.TheVariants.{Pairs as Map}
use Rattle.ha_config.specs.declared.config.Match.{Match}
use Rattle.ha_config.specs.declared.config.Trigger.{Trigger}
use Rattle.ha_config.specs.declared.config.TriggerRule.{TriggerRule}
use Rattle.ha_journal.specs.declared.entry.Entry.{Entry}
use Rattle.ha_journal.specs.declared.event.BusEvent.{BusEvent}
use Rattle.ha_journal.specs.Helpers.{event_for, events_of, helper_events, own_event}
use Rattle.ha_journal.proofs.EventLaws.{nobodys-given, nobodys-named}
use Rattle.ha_sight.specs.declared.helped.HelperChange.{HelperChange}
use Rattle.ha_sight.specs.declared.state.StateObject.{StateObject}
use Rattle.ha_config.specs.Equal.{same_pairs}
use Rattle.ha_sight.specs.Conditions.{attribute_text, number_watched}
use Rattle.ha_value.specs.Ids.{entity_text}
use Rattle.ha_journal.proofs.FiringLaws.{state-stays}
use Rattle.ha_config.specs.Words.{Text, Pairs, first_of_list, same, same_entity, first_pair, one_of}
use Rattle.std.specs.List.{cons_option, list_all}
use Rattle.ha_config.specs.Numbers.{in_bounds}
use Rattle.ha_value.specs.declared.value.Num.{Num}
use Rattle.ha_journal.specs.declared.entry.Entry.TheVariants.{Boot, Line, Step, Again}
use Rattle.ha_journal.specs.Journal.{Journal, HasEntry, IsJournal, zone_of, now, more}
use Rattle.ha_sight.specs.Sight.{Sight}
use Rattle.ha_journal.specs.States.{states}
use Rattle.ha_journal.specs.Entries.{change_of, changes_in, is_boot, is_restart, opens_segment, Reported, report_in, event_in, is_moment, text_given}
use Rattle.ha_journal.specs.Moves.{sight, number_in_text, report_number, latest_number, moves, rule_moves, looks}
use Rattle.ha_sight.specs.Rules.{matches, is_absent, same_optional, event_value, state_value, text_or_null, number_or_null, passed, pair_holds, state_moves, starts, is_state, head_pairs, given, given_by}
use Rattle.ha_journal.specs.Variables.{variables}
use Rattle.ha_config.proofs.EqualLemmas.{same-refl, same_value-refl}
use Rattle.ha_journal.proofs.MoreLemmas.{through-last}
use Rattle.ha_config.proofs.ListLemmas.{get-last}
use Rattle.trig_state.specs.States as rule_of
use Rattle.ha_config.specs.declared.config.Unit as unit
use Rattle.ha_config.specs.declared.template.Template.{Template}
use Rattle.trig_set.specs.Kept.{is_true}
use Rattle.ha_past.specs.Looks.{moves_with}
use Rattle.ha_journal.specs.Holds.{watches}
use Rattle.trig_set.specs.Next.{reports}
use Rattle.trig_set.specs.Scenes.{face}
use Rattle.trig_set.specs.Timed.{event_seen, given_for, given_with, names_event}
use Rattle.ha_past.proofs.PastLemmas.{events-last, sight-more, sight-whole, zone-more, has-place}
use Rattle.ha_past.proofs.EntryLaws.{moves-at}

module _ (j : Journal) (x : Entry) where
  pub seen_now : (sight j (length j)).states ≡ states j
  seen_now = ap states (take_all (length j) j (omega arith))

  pub seen_then : (sight (more j x) (suc (length j))).states ≡ states (more j x)
  seen_then = ap states (through-last j x)

  -- LAW: where no segment opens, a trigger that was attached before moves where its rule holds by what is seen before and after
  pub moves-by : (t : Trigger) (e : Option EntityId) (since : ℕ) → opens_segment x ≡ false → nat_lt since (length j) ≡ true
      → moves_with j x t e since ≡ (if looks (sight j (length j)) (sight (more j x) (suc (length j))) j t.rule (is_some t.hold) e x then Some (given (sight j (length j)) (sight (more j x) (suc (length j))) (event_seen j x e) t e) else None)
  moves-by t e since opens lt =
      let some : 0 < length j = grind (arith, nat_tests, lt) in
      let h = has-place j 0 some in
      let here = sight-more j x h (length j) (omega arith) in
      (λ i. if moves-at j x h t e i && (lt i || starts t.rule) then Some (variables (more j x) t e (length j)) else None)
      ∙ (λ i. if (if opens i then is_boot x && starts t.rule && is_none e else looks (sight j (length j)) (sight (more j x) (suc (length j))) j t.rule (is_some t.hold) e x) && true then Some (given (here i) (sight (more j x) (suc (length j))) (option_map {T = BusEvent} {U = Text × Pairs} (λ v. (v.kind, v.pairs)) (event_for e (events-last j x i))) t e) else None)
      ∙ by (looks (sight j (length j)) (sight (more j x) (suc (length j))) j t.rule (is_some t.hold) e x)
    where
      by : (b : Bool) → (if b && true then Some (given (sight j (length j)) (sight (more j x) (suc (length j))) (event_seen j x e) t e) else None) ≡ (if b then Some (given (sight j (length j)) (sight (more j x) (suc (length j))) (event_seen j x e) t e) else None)
      by true = refl
      by false = refl

  -- LAW: it does not move before its since, but as a start trigger
  pub moves-not : (t : Trigger) (e : Option EntityId) (since : ℕ) → HasEntry j → opens_segment x ≡ false → nat_lt since (length j) ≡ false → moves_with j x t e since ≡ None
  moves-not t e since h opens lt =
      (λ i. if moves-at j x h t e i && (lt i || starts t.rule) then Some (variables (more j x) t e (length j)) else None)
      ∙ (λ i. if (if opens i then is_boot x && starts t.rule && is_none e else looks (sight j (length j)) (sight (more j x) (suc (length j))) j t.rule (is_some t.hold) e x) && starts t.rule then Some (variables (more j x) t e (length j)) else None)
      ∙ (λ i. if none t.rule i then Some (variables (more j x) t e (length j)) else None)
    where
      and-false : (b : Bool) → (b && false) ≡ false
      and-false true = refl
      and-false false = refl

      none : (rule : TriggerRule) → (looks (sight j (length j)) (sight (more j x) (suc (length j))) j rule (is_some t.hold) e x && starts rule) ≡ false
      none (TriggerRule.State entities attribute from to) = and-false (looks (sight j (length j)) (sight (more j x) (suc (length j))) j (TriggerRule.State entities attribute from to) (is_some t.hold) e x)
      none (TriggerRule.Numeric entities attribute above below) = and-false (looks (sight j (length j)) (sight (more j x) (suc (length j))) j (TriggerRule.Numeric entities attribute above below) (is_some t.hold) e x)
      none (TriggerRule.Event kinds pairs) = and-false (looks (sight j (length j)) (sight (more j x) (suc (length j))) j (TriggerRule.Event kinds pairs) (is_some t.hold) e x)
      none (TriggerRule.Time seconds) = and-false (looks (sight j (length j)) (sight (more j x) (suc (length j))) j (TriggerRule.Time seconds) (is_some t.hold) e x)
      none (TriggerRule.Pattern hours minutes seconds) = and-false (looks (sight j (length j)) (sight (more j x) (suc (length j))) j (TriggerRule.Pattern hours minutes seconds) (is_some t.hold) e x)
      none (TriggerRule.Template u) = and-false (looks (sight j (length j)) (sight (more j x) (suc (length j))) j (TriggerRule.Template u) (is_some t.hold) e x)
      none TriggerRule.Start = refl

-- ---- numbers that are not given

not-either : (a b : Bool) → (a || b) ≡ false → (a ≡ false) × (b ≡ false)
not-either true b h = absurd (let bad : ◌≡◌ {A = Bool} true false = h in cc)
not-either false b h = (refl, h)

module _ (e : EntityId) (name : Option Text) where
  none-changed : (cs : List HelperChange) → is_some (find (λ c. same_entity c.entity e) cs) ≡ false → filter_map (number_in_text e name) (map text_given cs) ≡ []
  none-changed [] h = refl
  none-changed (c ∷ cs) h = by (same_entity c.entity e) refl h (none-changed cs)
    where
      by : (b : Bool) → same_entity c.entity e ≡ b → is_some (if b then Some c else find (λ c. same_entity c.entity e) cs) ≡ false
          → (is_some (find (λ c. same_entity c.entity e) cs) ≡ false → filter_map (number_in_text e name) (map text_given cs) ≡ [])
          → cons_option (number_in_text e name (text_given c)) (filter_map (number_in_text e name) (map text_given cs)) ≡ []
      by true s h rest = absurd (let bad : ◌≡◌ {A = Bool} true false = h in cc)
      by false s h rest = (λ i. cons_option (if s i then number_watched name c.text [] else None) (rest h i))

  -- LAW: an entry gives no number of an entity that it doesn't report, nor changes as a helper
  pub unreported : (x : Entry) → reports e x ≡ false → report_number e name x ≡ None
  unreported x h = by (report_in x) both.1
    where
      both : (is_some (change_of e x) ≡ false) × (option_map_or (λ r. same_entity r.entity e) (report_in x) false ≡ false)
      both = not-either (is_some (change_of e x)) (option_map_or (λ r. same_entity r.entity e) (report_in x) false) h

      by : (o : Option Reported) → option_map_or (λ r. same_entity r.entity e) o false ≡ false → first_of_list (filter_map (number_in_text e name) (option_to_list o ++ map text_given (changes_in x))) ≡ None
      by None k = ap first_of_list (none-changed (changes_in x) both.0)
      by (Some r) k = (λ i. first_of_list (cons_option (if k i then number_watched name r.text r.attributes else None) (none-changed (changes_in x) both.0 i)))

-- ---- states that are not listed

optional-refl : (a : Option Value) → same_optional a a ≡ true
optional-refl None = refl
optional-refl (Some v) = same_value-refl v

text-refl : (a : Option StateObject) → rule_of.text_stays a a ≡ true
text-refl None = refl
text-refl (Some s) = same-refl s.text

-- a state rule watches the two states
pub state-watches : (b a : Sight) (k n : Journal) (rule : TriggerRule) (e : EntityId) → is_state rule ≡ true → watches b a k n rule (Some e) ≡ rule_of.rule_stays rule (b.states e) (a.states e)
state-watches b a k n (TriggerRule.State entities (Some name) from to) e h = refl
state-watches b a k n (TriggerRule.State entities None from to) e h = refl
state-watches b a k n (TriggerRule.Numeric entities attribute above below) e h = cc
state-watches b a k n (TriggerRule.Event kinds pairs) e h = cc
state-watches b a k n (TriggerRule.Time seconds) e h = cc
state-watches b a k n (TriggerRule.Pattern hours minutes seconds) e h = cc
state-watches b a k n (TriggerRule.Template t) e h = cc
state-watches b a k n TriggerRule.Start e h = cc

stays-refl : (rule : TriggerRule) (s : Option StateObject) → is_state rule ≡ true → rule_of.rule_stays rule s s ≡ true
stays-refl (TriggerRule.State entities (Some name) from to) s h = optional-refl (rule_of.attribute_in name s)
stays-refl (TriggerRule.State entities None from to) s h = text-refl s
stays-refl (TriggerRule.Numeric entities attribute above below) s h = cc
stays-refl (TriggerRule.Event kinds pairs) s h = cc
stays-refl (TriggerRule.Time seconds) s h = cc
stays-refl (TriggerRule.Pattern hours minutes seconds) s h = cc
stays-refl (TriggerRule.Template t) s h = cc
stays-refl TriggerRule.Start s h = cc

-- only the text and the attributes of the states count
abbrev Face : Type 0
Face = Option (Text × Pairs)

stays_by : TriggerRule → Face → Face → Bool
stays_by (TriggerRule.State entities (Some name) from to) a b = same_optional (option_and_then (λ p. first_pair name p.1) a) (option_and_then (λ p. first_pair name p.1) b)
stays_by (TriggerRule.State entities None from to) a b = option_map_or (λ q. option_map_or (λ p. same p.0 q.0) a false) b (is_none a)
stays_by _ a b = false

faced : (rule : TriggerRule) (a b : Option StateObject) → rule_of.rule_stays rule a b ≡ stays_by rule (face a) (face b)
unfolding stays_by
faced (TriggerRule.State entities (Some name) from to) None None = refl
faced (TriggerRule.State entities (Some name) from to) None (Some b) = refl
faced (TriggerRule.State entities (Some name) from to) (Some a) None = refl
faced (TriggerRule.State entities (Some name) from to) (Some a) (Some b) = refl
faced (TriggerRule.State entities None from to) None None = refl
faced (TriggerRule.State entities None from to) None (Some b) = refl
faced (TriggerRule.State entities None from to) (Some a) None = refl
faced (TriggerRule.State entities None from to) (Some a) (Some b) = refl
faced (TriggerRule.Numeric entities attribute above below) a b = refl
faced (TriggerRule.Event kinds pairs) a b = refl
faced (TriggerRule.Time seconds) a b = refl
faced (TriggerRule.Pattern hours minutes seconds) a b = refl
faced (TriggerRule.Template t) a b = refl
faced TriggerRule.Start a b = refl

pub stays-face : (rule : TriggerRule) (a b c d : Option StateObject) → face a ≡ face c → face b ≡ face d → rule_of.rule_stays rule a b ≡ rule_of.rule_stays rule c d
stays-face rule a b c d p q = faced rule a b ∙ (λ i. stays_by rule (p i) (q i)) ∙ sym (faced rule c d)

module _ (j : Journal) (x : Entry) (rule : TriggerRule) (e : EntityId) (is : is_state rule ≡ true) where
  abbrev stays_seen : Bool
  stays_seen = watches (sight j (length j)) (sight (more j x) (suc (length j))) j (more j x) rule (Some e)

  seen-states : stays_seen ≡ rule_of.rule_stays rule (states j e) (states (more j x) e)
  seen-states = state-watches (sight j (length j)) (sight (more j x) (suc (length j))) j (more j x) rule e is ∙ (λ i. rule_of.rule_stays rule (seen_now j x i e) (seen_then j x i e))

  -- LAW: of an entity that is not listed what is watched stays
  pub unlisted-stays : states (more j x) e ≡ states j e → true ≡ stays_seen
  unlisted-stays same = sym (seen-states ∙ ap (rule_of.rule_stays rule (states j e)) same ∙ stays-refl rule (states j e) is)

  -- LAW: of one that is listed it is told by the listed states
  pub listed-stays : (old new : Option StateObject) → face old ≡ face (states j e) → face new ≡ face (states (more j x) e) → rule_of.rule_stays rule old new ≡ stays_seen
  listed-stays old new p q = stays-face rule old new (states j e) (states (more j x) e) p q ∙ sym seen-states

-- ---- where a segment opens

module _ (j : Journal) (x : Entry) (t : Trigger) (e : Option EntityId) (since : ℕ) where
  opened : opens_segment x ≡ true → moves (more j x) t e (length j) ≡ (is_boot x && starts t.rule && is_none e)
  opened opens =
      (λ i. option_map_or (λ y. if opens_segment y then is_boot y && starts t.rule && is_none e else rule_moves (more j x) t.rule (is_some t.hold) e (length j) y) (get-last j x i) false)
      ∙ (λ i. if opens i then is_boot x && starts t.rule && is_none e else rule_moves (more j x) t.rule (is_some t.hold) e (length j) x)

  bare-start : (rule : TriggerRule) → starts rule ≡ true → given_by (sight (more j x) (length j)) (sight (more j x) (suc (length j))) (event_seen j x e) t rule e ≡ head_pairs (codes "homeassistant") t
  bare-start (TriggerRule.State entities attribute from to) s = cc
  bare-start (TriggerRule.Numeric entities attribute above below) s = cc
  bare-start (TriggerRule.Event kinds pairs) s = cc
  bare-start (TriggerRule.Time seconds) s = cc
  bare-start (TriggerRule.Pattern hours minutes seconds) s = cc
  bare-start (TriggerRule.Template u) s = cc
  bare-start TriggerRule.Start s = refl

  -- LAW: at a Boot only start triggers move, and they have no variables of their own
  pub moves-boot : is_boot x ≡ true → moves_with j x t e since ≡ (if starts t.rule && is_none e then Some (Map (head_pairs (codes "homeassistant") t)) else None)
  moves-boot boot =
      (λ i. if (opened (λ k. boot k || is_restart x) ∙ (λ k. boot k && starts t.rule && is_none e)) i && (nat_lt since (length j) || starts t.rule) then Some (variables (more j x) t e (length j)) else None)
      ∙ (λ i. if (starts t.rule && is_none e) && (nat_lt since (length j) || starts t.rule) then Some (given (sight (more j x) (length j)) (sight (more j x) (suc (length j))) (option_map {T = BusEvent} {U = Text × Pairs} (λ v. (v.kind, v.pairs)) (event_for e (events-last j x i))) t e) else None)
      ∙ by (starts t.rule) refl
    where
      by : (b : Bool) → starts t.rule ≡ b → (if (b && is_none e) && (nat_lt since (length j) || b) then Some (Map (given_by (sight (more j x) (length j)) (sight (more j x) (suc (length j))) (event_seen j x e) t t.rule e)) else None) ≡ (if b && is_none e then Some (Map (head_pairs (codes "homeassistant") t)) else None)
      by true s = also (is_none e) (nat_lt since (length j)) ∙ (λ i. if is_none e then Some (Map (bare-start t.rule s i)) else None)
        where
          also : (a b : Bool) → (if a && (b || true) then Some (Map (given_by (sight (more j x) (length j)) (sight (more j x) (suc (length j))) (event_seen j x e) t t.rule e)) else None) ≡ (if a then Some (Map (given_by (sight (more j x) (length j)) (sight (more j x) (suc (length j))) (event_seen j x e) t t.rule e)) else None)
          also true true = refl
          also true false = refl
          also false b = refl
      by false s = refl

  -- LAW: at a Restart none moves
  pub moves-restart : opens_segment x ≡ true → is_boot x ≡ false → moves_with j x t e since ≡ None
  moves-restart opens boot =
      (λ i. if (opened opens ∙ (λ k. boot k && starts t.rule && is_none e)) i && (nat_lt since (length j) || starts t.rule) then Some (variables (more j x) t e (length j)) else None)

-- where no segment opens there is an entry before
pub has-past : (j : Journal) (x : Entry) → IsJournal (more j x) → opens_segment x ≡ false → HasEntry j
has-past [] (Boot text config stored start zone carry) journal opens = cc
has-past [] (Again number start stored carry) journal opens = absurd journal.0
has-past [] (Line source number cmd) journal opens = absurd journal.0
has-past [] (Step worker serial branch item) journal opens = absurd journal.0
has-past (y ∷ ys) x journal opens = tt

pub lt-is : (a b : ℕ) → a < b → nat_lt a b ≡ true
lt-is a b h = grind (arith, nat_tests, h)

pub lt-isnt : (a b : ℕ) → b ≤ a → nat_lt a b ≡ false
lt-isnt a b h = grind (arith, nat_tests, h)

-- ---- only the text and the attributes of the states count for what moves

abbrev texts_move : Match → Match → Bool → Face → Face → Bool
texts_move from to held old None = false
texts_move from to held old (Some s) =
    option_map_or (λ o. not (same o.0 s.0) || (is_absent from && is_absent to && not held && not (same_pairs o.1 s.1))) old true
    && matches from (option_map (λ o. o.0) old) && matches to (Some s.0)

abbrev attribute_moves : Text → Match → Match → Face → Face → Bool
attribute_moves name from to old None = false
attribute_moves name from to old (Some s) =
    not (same_optional (option_and_then (λ o. first_pair name o.1) old) (first_pair name s.1))
    && matches from (option_and_then (λ o. option_and_then attribute_text (first_pair name o.1)) old) && matches to (option_and_then attribute_text (first_pair name s.1))

moved-face : (attribute : Option Text) (from to : Match) (held : Bool) (a b : Option StateObject) → state_moves attribute from to held a b ≡ option_map_or (λ name. attribute_moves name from to (face a) (face b)) attribute (texts_move from to held (face a) (face b))
moved-face (Some name) from to held None None = refl
moved-face (Some name) from to held None (Some b) = refl
moved-face (Some name) from to held (Some a) None = refl
moved-face (Some name) from to held (Some a) (Some b) = refl
moved-face None from to held None None = refl
moved-face None from to held None (Some b) = refl
moved-face None from to held (Some a) None = refl
moved-face None from to held (Some a) (Some b) = refl

-- LAW: a state rule holds alike on states of the same text and attributes
pub moves-face : (attribute : Option Text) (from to : Match) (held : Bool) (a b c d : Option StateObject) → face a ≡ face c → face b ≡ face d → state_moves attribute from to held a b ≡ state_moves attribute from to held c d
moves-face attribute from to held a b c d p q =
    moved-face attribute from to held a b
    ∙ (λ i. option_map_or (λ name. attribute_moves name from to (p i) (q i)) attribute (texts_move from to held (p i) (q i)))
    ∙ sym (moved-face attribute from to held c d)

value_of : EntityId → Face → Value
value_of e f = option_map_or (λ o. Map ((codes "entity_id", Value.Text (entity_text e)) ∷ (codes "domain", Value.Text e.domain) ∷ (codes "object_id", Value.Text e.object) ∷ (codes "state", Value.Text o.0) ∷ (codes "attributes", Map o.1) ∷ [])) f Value.Null

valued-face : (e : EntityId) (s : Option StateObject) → state_value e s ≡ value_of e (face s)
unfolding value_of
valued-face e None = refl
valued-face e (Some s) = refl

-- LAW: and is the same value
pub value-face : (e : EntityId) (a c : Option StateObject) → face a ≡ face c → state_value e a ≡ state_value e c
value-face e a c p = valued-face e a ∙ ap (value_of e) p ∙ sym (valued-face e c)

module _ (j : Journal) (x : Entry) (t : Trigger) (e : EntityId) (entities : List EntityId) (attribute : Option Text) (from to : Match) (is : t.rule ≡ TriggerRule.State entities attribute from to) where
  -- what a state trigger gives, by its sights and by two states
  abbrev pub state_target : Option Value
  state_target = if looks (sight j (length j)) (sight (more j x) (suc (length j))) j t.rule (is_some t.hold) (Some e) x then Some (given (sight j (length j)) (sight (more j x) (suc (length j))) (event_seen j x (Some e)) t (Some e)) else None

  abbrev pub state_made : Option StateObject → Option StateObject → Option Value
  state_made old new = if state_moves attribute from to (is_some t.hold) old new then Some (Map (head_pairs (codes "state") t ++ ((codes "entity_id", Value.Text (entity_text e)) ∷ (codes "from_state", state_value e old) ∷ (codes "to_state", state_value e new) ∷ (codes "attribute", text_or_null attribute) ∷ []))) else None

  target-is : state_target ≡ state_made (states j e) (states (more j x) e)
  target-is =
      (λ i. if looks (sight j (length j)) (sight (more j x) (suc (length j))) j (is i) (is_some t.hold) (Some e) x then Some (Map (given_by (sight j (length j)) (sight (more j x) (suc (length j))) (event_seen j x (Some e)) t (is i) (Some e))) else None)
      ∙ (λ i. state_made (seen_now j x i e) (seen_then j x i e))

  -- LAW: of an entity that is not listed a state trigger does not move
  pub unlisted-moves : states (more j x) e ≡ states j e → None ≡ state_target
  unlisted-moves same =
      sym (target-is
      ∙ (λ i. if state_moves attribute from to (is_some t.hold) (states j e) (same i) then Some (Map (head_pairs (codes "state") t ++ ((codes "entity_id", Value.Text (entity_text e)) ∷ (codes "from_state", state_value e (states j e)) ∷ (codes "to_state", state_value e (same i)) ∷ (codes "attribute", text_or_null attribute) ∷ []))) else None)
      ∙ (λ i. if state-stays attribute from to (is_some t.hold) (states j e) i then Some (Map (head_pairs (codes "state") t ++ ((codes "entity_id", Value.Text (entity_text e)) ∷ (codes "from_state", state_value e (states j e)) ∷ (codes "to_state", state_value e (states j e)) ∷ (codes "attribute", text_or_null attribute) ∷ []))) else None))

  -- LAW: of one that is listed the listed states tell it
  pub listed-moves : (old new : Option StateObject) → face old ≡ face (states j e) → face new ≡ face (states (more j x) e) → state_made old new ≡ state_target
  listed-moves old new p q =
      (λ i. if moves-face attribute from to (is_some t.hold) old new (states j e) (states (more j x) e) p q i then Some (Map (head_pairs (codes "state") t ++ ((codes "entity_id", Value.Text (entity_text e)) ∷ (codes "from_state", value-face e old (states j e) p i) ∷ (codes "to_state", value-face e new (states (more j x) e) q i) ∷ (codes "attribute", text_or_null attribute) ∷ []))) else None)
      ∙ sym target-is

module _ (j : Journal) (x : Entry) (t : Trigger) (e : EntityId) (entities : List EntityId) (attribute : Option Text) (above below : Option Num) (is : t.rule ≡ TriggerRule.Numeric entities attribute above below) where
  -- what a numeric trigger gives, by its sights, and by two states
  abbrev pub number_target : Option Value
  number_target = if looks (sight j (length j)) (sight (more j x) (suc (length j))) j t.rule (is_some t.hold) (Some e) x then Some (given (sight j (length j)) (sight (more j x) (suc (length j))) (event_seen j x (Some e)) t (Some e)) else None

  abbrev pub number_crosses : Bool
  number_crosses = option_map_or (in_bounds above below) (report_number e attribute x) false && not (option_map_or (in_bounds above below) (latest_number e attribute j) false)

  abbrev pub number_made : Bool → Option StateObject → Option StateObject → Option Value
  number_made crosses old new = if crosses then Some (Map (head_pairs (codes "numeric_state") t ++ ((codes "entity_id", Value.Text (entity_text e)) ∷ (codes "from_state", state_value e old) ∷ (codes "to_state", state_value e new) ∷ (codes "above", number_or_null above) ∷ (codes "below", number_or_null below) ∷ []))) else None

  number-is : number_target ≡ number_made number_crosses (states j e) (states (more j x) e)
  number-is =
      (λ i. if looks (sight j (length j)) (sight (more j x) (suc (length j))) j (is i) (is_some t.hold) (Some e) x then Some (Map (given_by (sight j (length j)) (sight (more j x) (suc (length j))) (event_seen j x (Some e)) t (is i) (Some e))) else None)
      ∙ (λ i. number_made number_crosses (seen_now j x i e) (seen_then j x i e))

  -- LAW: of an entity that is not reported a numeric trigger does not move
  pub unlisted-number : reports e x ≡ false → None ≡ number_target
  unlisted-number h =
      sym (number-is
      ∙ (λ i. number_made (option_map_or (in_bounds above below) (unreported e attribute x h i) false && not (option_map_or (in_bounds above below) (latest_number e attribute j) false)) (states j e) (states (more j x) e)))

  -- LAW: of one that is listed the listed states tell what it gives
  pub listed-number : (crosses : Bool) (old new : Option StateObject) → crosses ≡ number_crosses → face old ≡ face (states j e) → face new ≡ face (states (more j x) e) → number_made crosses old new ≡ number_target
  listed-number crosses old new b p q =
      (λ i. if b i then Some (Map (head_pairs (codes "numeric_state") t ++ ((codes "entity_id", Value.Text (entity_text e)) ∷ (codes "from_state", value-face e old (states j e) p i) ∷ (codes "to_state", value-face e new (states (more j x) e) q i) ∷ (codes "above", number_or_null above) ∷ (codes "below", number_or_null below) ∷ []))) else None)
      ∙ sym number-is

-- ---- events

both-parts : (o : Option (Text × Pairs)) (kind : Text) (fields : Pairs) → Some kind ≡ option_map (λ v. v.0) o → Some fields ≡ option_map (λ v. v.1) o → o ≡ Some (kind, fields)
both-parts None kind fields k d = cc
both-parts (Some v) kind fields k d = (let a : v.0 ≡ kind = cc in let b : v.1 ≡ fields = cc in λ i. Some (a i, b i))

no-kind : (o : Option (Text × Pairs)) → None ≡ option_map {U = Text} (λ v. v.0) o → o ≡ None
no-kind None k = refl
no-kind (Some v) k = cc

no-data : (o : Option (Text × Pairs)) → None ≡ option_map {U = Pairs} (λ v. v.1) o → o ≡ None
no-data None k = refl
no-data (Some v) k = cc

module _ (b a : Sight) (j : Journal) (x : Entry) (t : Trigger) (kinds : List Text) (pairs : Pairs) (is : t.rule ≡ TriggerRule.Event kinds pairs) where
  abbrev pub event_target : Option Value
  event_target = if looks b a j t.rule (is_some t.hold) None x then Some (given b a (event_seen j x None) t None) else None

  abbrev event_made : Option (Text × Pairs) → Option Value
  event_made o = if option_map_or (λ v. one_of v.0 kinds && list_all (pair_holds v.1) pairs) o false then Some (Map (head_pairs (codes "event") t ++ ((codes "event", option_map_or (λ v. Map ((codes "event_type", Value.Text v.0) ∷ (codes "data", Map v.1) ∷ [])) o Value.Null) ∷ []))) else None

  event-is : event_target ≡ event_made (event_in x)
  event-is =
      (λ i. if looks b a j (is i) (is_some t.hold) None x then Some (Map (given_by b a (event_seen j x None) t (is i) None)) else None)
      ∙ (λ i. if nobodys-named j x kinds pairs i then Some (Map (head_pairs (codes "event") t ++ ((codes "event", event_value (nobodys-given j x i)) ∷ []))) else None)

  -- LAW: what is no event moves no event trigger
  pub kindless : None ≡ option_map {U = Text} (λ v. v.0) (event_in x) → None ≡ event_target
  kindless h = sym (event-is ∙ ap event_made (no-kind (event_in x) h))

  pub dataless : None ≡ option_map {U = Pairs} (λ v. v.1) (event_in x) → None ≡ event_target
  dataless h = sym (event-is ∙ ap event_made (no-data (event_in x) h))

  -- LAW: an event moves one that names it
  pub event-told : (kind : Text) (fields : Pairs) (named : Bool) → Some kind ≡ option_map (λ v. v.0) (event_in x) → Some fields ≡ option_map (λ v. v.1) (event_in x)
      → named ≡ (one_of kind kinds && list_all (pair_holds fields) pairs)
      → (if named then Some (Map (head_pairs (codes "event") t ++ ((codes "event", Map ((codes "event_type", Value.Text kind) ∷ (codes "data", Map fields) ∷ [])) ∷ []))) else None) ≡ event_target
  event-told kind fields named k d n =
      (λ i. if n i then Some (Map (head_pairs (codes "event") t ++ ((codes "event", Map ((codes "event_type", Value.Text kind) ∷ (codes "data", Map fields) ∷ [])) ∷ []))) else None)
      ∙ sym (event-is ∙ ap event_made (both-parts (event_in x) kind fields k d))

-- the events of helpers

-- LAW: the entry's own event is nobody's
pub own-skipped : (j : Journal) (x : Entry) (e : EntityId) → event_for (Some e) (events_of j x) ≡ event_for (Some e) (helper_events j x)
own-skipped j x e = by (event_in x)
  where
    by : (o : Option (Text × Pairs)) → event_for (Some e) (map own_event (option_to_list o) ++ helper_events j x) ≡ event_for (Some e) (helper_events j x)
    by None = refl
    by (Some v) = refl

module _ (b a : Sight) (j : Journal) (x : Entry) (t : Trigger) (e : EntityId) where
  abbrev pub timer_target : Option Value
  timer_target = if looks b a j t.rule (is_some t.hold) (Some e) x then Some (given b a (event_seen j x (Some e)) t (Some e)) else None

  -- LAW: the event of a helper moves a trigger that names it
  pub timer-told : (kinds : List Text) (pairs : Pairs) → t.rule ≡ TriggerRule.Event kinds pairs → (events : List BusEvent) → events ≡ helper_events j x → given_for t events (Some e) ≡ timer_target
  timer-told kinds pairs is events are =
      (λ i. option_and_then (given_with t) (event_for (Some e) (are i)))
      ∙ (λ i. option_and_then (given_with t) (sym (own-skipped j x e) i))
      ∙ by (event_for (Some e) (events_of j x))
      ∙ sym (λ i. if looks b a j (is i) (is_some t.hold) (Some e) x then Some (Map (given_by b a (event_seen j x (Some e)) t (is i) (Some e))) else None)
    where
      by : (o : Option BusEvent) → option_and_then (given_with t) o
          ≡ (if option_map_or (λ (v : BusEvent). one_of v.kind kinds && list_all (pair_holds v.pairs) pairs) o false
          then Some (Map (head_pairs (codes "event") t ++ ((codes "event", event_value (option_map {T = BusEvent} {U = Text × Pairs} (λ v. (v.kind, v.pairs)) o)) ∷ []))) else None)
      by None = refl
      by (Some v) = (λ i. if names_event (is i) v then Some (Map (head_pairs (codes "event") t ++ ((codes "event", event_value (Some (v.kind, v.pairs))) ∷ []))) else None)

-- ---- times and templates

module _ (j : Journal) (x : Entry) (t : Trigger) where
  abbrev pub bare_target : Option Value
  bare_target = if looks (sight j (length j)) (sight (more j x) (suc (length j))) j t.rule (is_some t.hold) None x then Some (given (sight j (length j)) (sight (more j x) (suc (length j))) (event_seen j x None) t None) else None

  target-by : (rule : TriggerRule) → t.rule ≡ rule → bare_target ≡ (if looks (sight j (length j)) (sight (more j x) (suc (length j))) j rule (is_some t.hold) None x then Some (Map (given_by (sight j (length j)) (sight (more j x) (suc (length j))) (event_seen j x None) t rule None)) else None)
  target-by rule is = (λ i. if looks (sight j (length j)) (sight (more j x) (suc (length j))) j (is i) (is_some t.hold) None x then Some (Map (given_by (sight j (length j)) (sight (more j x) (suc (length j))) (event_seen j x None) t (is i) None)) else None)

  module _ (h : HasEntry j) (zone : Text) (from to : ℕ) (zone-is : zone ≡ zone_of (more j x)) (from-is : from ≡ now j) (to-is : to ≡ now (more j x)) where
    seen_zone : zone ≡ (sight j (length j)).zone
    seen_zone = zone-is ∙ zone-more j x h

    seen_from : from ≡ (sight j (length j)).now
    seen_from = from-is ∙ ap now (sym (take_all (length j) j (omega arith)))

    seen_to : to ≡ (sight (more j x) (suc (length j))).now
    seen_to = to-is ∙ ap now (sym (through-last j x))

    pub time-target : (seconds : List ℕ) → t.rule ≡ TriggerRule.Time seconds → (if is_moment x && passed t.rule zone from to then Some (Map (head_pairs (codes "time") t)) else None) ≡ bare_target
    time-target seconds is =
        (λ i. if is_moment x && passed (is i) (seen_zone i) (seen_from i) (seen_to i) then Some (Map (head_pairs (codes "time") t)) else None)
        ∙ sym (target-by (TriggerRule.Time seconds) is)

    pub pattern-target : (hours minutes seconds : unit.Unit) → t.rule ≡ TriggerRule.Pattern hours minutes seconds → (if is_moment x && passed t.rule zone from to then Some (Map (head_pairs (codes "time_pattern") t)) else None) ≡ bare_target
    pattern-target hours minutes seconds is =
        (λ i. if is_moment x && passed (is i) (seen_zone i) (seen_from i) (seen_to i) then Some (Map (head_pairs (codes "time_pattern") t)) else None)
        ∙ sym (target-by (TriggerRule.Pattern hours minutes seconds) is)

  pub template-target : (u : Template) (now-true was-true : Bool) → t.rule ≡ TriggerRule.Template u → now-true ≡ is_true (sight (more j x) (length (more j x))) t.rule → was-true ≡ is_true (sight j (length j)) t.rule
      → (if now-true && not was-true then Some (Map (head_pairs (codes "template") t)) else None) ≡ bare_target
  template-target u now-true was-true is a b =
      (λ i. if ((a ∙ (λ k. is_true (sym (sight-whole j x) k) (is k))) i) && not ((b ∙ (λ k. is_true (sight j (length j)) (is k))) i) then Some (Map (head_pairs (codes "template") t)) else None)
      ∙ sym (target-by (TriggerRule.Template u) is)

pub past-of : (j : Journal) (since : ℕ) → nat_lt since (length j) ≡ true → HasEntry j
past-of j since lt = (let some : 0 < length j = grind (arith, nat_tests, lt) in has-place j 0 some)
