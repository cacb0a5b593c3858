-- How a table changes at one entity, and which journals it then stands for.
use Rattle.std.proofs.Common.{◌≡◌, Bool, true, false, ◌&&◌, Option, subst, sym, refl, ap, ◌∙◌, nat_cmp}
use Rattle.std.specs.Prelude.{Some, None, String, Result, IfOk, is_some, if◌then◌else◌}
use Rattle.std.specs.BTreeMap.{BTreeMap, IsEmpty, get_by_text, is_at}
use Rattle.std.specs.Map.{lookup}
use Rattle.std.specs.Cmp.Lexicographic.{slice_cmp}
use Rattle.std.specs.String.{string_bytes}
use Rattle.ha_value.specs.declared.value.EntityId.{EntityId}
use Rattle.ha_value.specs.Ids.{entity_text, for_id}
use Rattle.ha_value.specs.Lists.{after_first}
use Rattle.ha_sight.specs.declared.state.StateObject.{StateObject}
use Rattle.ha_config.specs.Words.{Text, same, same_entity}
use Rattle.ha_config.proofs.EqualLemmas.{same-refl, same-sound, entity-sound}
use Rattle.ha_config.proofs.IdLemmas.{IsPlain, agrees, here, turns}
use Rattle.state_table.specs.Anew.{is_automation}

get_by_text-empty : {X Y : Type 0} (m : BTreeMap (String Y) X) → IsEmpty m → (q : Text) → get_by_text m q ≡ None
get_by_text-empty m empty q = ap (lookup (is_at (λ k. slice_cmp nat_cmp q (string_bytes k)))) empty

pub ok-along : {T E : Type 0} (r : Result T E) (f : Option StateObject → T) (a b : Option StateObject) → a ≡ b → IfOk r (λ x. x ≡ f a) → IfOk r (λ x. x ≡ f b)
ok-along r f a b e h = subst (λ o. IfOk r (λ x. x ≡ f o)) e h

-- ---- a table's states, seen as a function

abbrev pub Seen : Type 0
Seen = EntityId → Option StateObject

-- ---- the states of automations by name, and of all others by id

abbrev pub Named : Type 0
Named = Text → Option StateObject

abbrev pub seen_in : Named → Named → Seen
seen_in automations others e = if is_automation e then automations e.object else for_id None others e

apart-by : (a b : Bool) → a ≡ true → b ≡ false → a ≡ b → ⊥
apart-by a b p q r = absurd (cc)

both-automations : (e q : EntityId) → is_automation e ≡ true → is_automation q ≡ true → same_entity e q ≡ same e.object q.object
both-automations e q h k =
    let is : q.domain ≡ e.domain = same-sound _ _ k ∙ sym (same-sound _ _ h) in
    ap (λ b. b && same e.object q.object) (ap (same e.domain) is ∙ same-refl e.domain)

kinds-apart : (e q : EntityId) → (is_automation e ≡ is_automation q → ⊥) → same_entity e q ≡ false
kinds-apart e q never = by (same_entity e q) refl
  where
    by : (b : Bool) → same_entity e q ≡ b → b ≡ false
    by true s = absurd (never (ap is_automation (entity-sound e q s)))
    by false s = refl

module _ (automations others : Named) (e : EntityId) where
  pub automation-here : is_automation e ≡ true → seen_in automations others e ≡ automations e.object
  automation-here is = ap (λ b. if b then automations e.object else for_id None others e) is

  pub other-here : is_automation e ≡ false → IsPlain e → seen_in automations others e ≡ others (entity_text e)
  other-here is plain = ap (λ b. if b then automations e.object else for_id None others e) is ∙ here None others e plain

  -- LAW: a change at the name of an automation is one at its entity
  pub automation-changes : (new : Named) (name : Text) (made w : Option StateObject) → made ≡ w → is_automation e ≡ true → name ≡ e.object
      → ((q : Text) → new q ≡ (if same name q then made else automations q)) → (q : EntityId) → seen_in new others q ≡ (if same_entity e q then w else seen_in automations others q)
  automation-changes new name made w equal is named c q = by (is_automation q) refl
    where
      by : (b : Bool) → is_automation q ≡ b → (if b then new q.object else for_id None others q) ≡ (if same_entity e q then w else (if b then automations q.object else for_id None others q))
      by true h = c q.object ∙ (λ i. if same (named i) q.object then equal i else automations q.object)
          ∙ ap (λ b. if b then w else automations q.object) (sym (both-automations e q is h))
      by false h = ap (λ b. if b then w else for_id None others q) (sym (kinds-apart e q (apart-by _ _ is h)))

  -- LAW: a change at the text of another id is one at its entity
  pub other-changes : (new : Named) (text : Text) (made w : Option StateObject) → made ≡ w → is_automation e ≡ false → IsPlain e → text ≡ entity_text e
      → ((q : Text) → new q ≡ (if same text q then made else others q)) → (q : EntityId) → seen_in automations new q ≡ (if same_entity e q then w else seen_in automations others q)
  other-changes new text made w equal is plain written c q = by (is_automation q) refl
    where
      by : (b : Bool) → is_automation q ≡ b → (if b then automations q.object else for_id None new q) ≡ (if same_entity e q then w else (if b then automations q.object else for_id None others q))
      by true h = ap (λ b. if b then w else automations q.object) (sym (kinds-apart e q (λ s. apart-by _ _ h is (sym s))))
      by false h = turns None others new e plain (λ b x. if b then w else x) refl (λ t. c t ∙ (λ i. if same (written i) t then equal i else others t)) q

module _ (automations others new : Named) where
  pub automations-agree : ((q : Text) → new q ≡ automations q) → (q : EntityId) → seen_in new others q ≡ seen_in automations others q
  automations-agree c q = ap (λ x. if is_automation q then x else for_id None others q) (c q.object)

  pub others-agree : ((q : Text) → new q ≡ others q) → (q : EntityId) → seen_in automations new q ≡ seen_in automations others q
  others-agree c q = ap (λ x. if is_automation q then automations q.object else x) (agrees None others new c q)

-- LAW: where nothing is kept there are no states
pub empty-seen : {X Y : Type 0} (automations : BTreeMap (String X) StateObject) (others : BTreeMap (String Y) StateObject) → IsEmpty automations → IsEmpty others
    → (q : EntityId) → seen_in (get_by_text automations) (get_by_text others) q ≡ None
empty-seen automations others a o q = by (is_automation q) (after_first 46 q.domain)
  where
    by : (b : Bool) (dot : Option Text) → (if b then get_by_text automations q.object else (if is_some dot then None else get_by_text others (entity_text q))) ≡ None
    by true dot = get_by_text-empty automations a q.object
    by false (Some rest) = refl
    by false None = get_by_text-empty others o (entity_text q)
