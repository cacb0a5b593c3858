-- What a table by the texts of ids has for each id.
use Rattle.std.proofs.Common.{◌≡◌, ◌∙◌, Bool, true, false, refl, sym, ap}
use Rattle.std.specs.Prelude.{Option, Some, None, is_some, if◌then◌else◌}
use Rattle.ha_value.specs.declared.value.EntityId.{EntityId}
use Rattle.ha_value.specs.Entities.{entity_in}
use Rattle.ha_value.specs.Ids.{entity_text, for_id}
use Rattle.ha_value.specs.Lists.{after_first}
use Rattle.ha_value.proofs.EntityLemmas.{parts_joined}
use Rattle.ha_config.specs.Words.{Text, same, same_entity}
use Rattle.ha_config.proofs.EqualLemmas.{same-sound, same-refl, entity-sound, entity-along}

-- no dot stands in the domain
abbrev pub IsPlain : EntityId → Type 0
IsPlain e = after_first 46 e.domain ≡ None

text-is : (d e : EntityId) → IsPlain d → IsPlain e → entity_text d ≡ entity_text e → d ≡ e
text-is d e p q t = sym (parts_joined d.domain d.object p) ∙ ap entity_in t ∙ parts_joined e.domain e.object q

-- LAW: two such ids are the same where their texts are
pub text-tells : (d e : EntityId) → IsPlain d → IsPlain e → same (entity_text d) (entity_text e) ≡ same_entity d e
text-tells d e p q = by (same (entity_text d) (entity_text e)) (same_entity d e) refl refl
  where
    by : (b a : Bool) → same (entity_text d) (entity_text e) ≡ b → same_entity d e ≡ a → b ≡ a
    by true true t s = refl
    by false false t s = refl
    by false true t s = sym t ∙ ap (λ (x : EntityId). same (entity_text d) (entity_text x)) (sym (entity-sound d e s)) ∙ same-refl (entity_text d)
    by true false t s = sym (entity-along d e (text-is d e p q (same-sound (entity_text d) (entity_text e) t))) ∙ s

none-some : {X : Type 0} (o : Option X) (x : X) → o ≡ None → o ≡ Some x → ⊥
none-some o x n s = absurd (cc)

pub apart : (d e : EntityId) (rest : Text) → IsPlain d → after_first 46 e.domain ≡ Some rest → same_entity d e ≡ false
apart d e rest p h = by (same_entity d e) refl
  where
    by : (b : Bool) → same_entity d e ≡ b → b ≡ false
    by false s = refl
    by true s = absurd (none-some (after_first 46 e.domain) rest (ap (λ (x : EntityId). after_first 46 x.domain) (sym (entity-sound d e s)) ∙ p) h)

-- LAW: a change at the text of an id is one at this id alone
pub turns : {X : Type 0} (none : X) (old new : Text → X) (e : EntityId) → IsPlain e → (turn : Bool → X → X) → turn false none ≡ none
    → ((q : Text) → new q ≡ turn (same (entity_text e) q) (old q)) → (q : EntityId) → for_id none new q ≡ turn (same_entity e q) (for_id none old q)
turns none old new e plain turn still written q = by (after_first 46 q.domain) refl
  where
    by : (o : Option Text) → after_first 46 q.domain ≡ o
        → (if is_some o then none else new (entity_text q)) ≡ turn (same_entity e q) (if is_some o then none else old (entity_text q))
    by (Some rest) h = sym still ∙ ap (λ b. turn b none) (sym (apart e q rest plain h))
    by None h = written (entity_text q) ∙ ap (λ b. turn b (old (entity_text q))) (text-tells e q plain h)

-- LAW: two tables that agree do so for each id
pub agrees : {X : Type 0} (none : X) (old new : Text → X) → ((q : Text) → new q ≡ old q) → (q : EntityId) → for_id none new q ≡ for_id none old q
agrees none old new same_texts q = ap (λ x. if is_some (after_first 46 q.domain) then none else x) (same_texts (entity_text q))

-- LAW: what a table has for an id that is kept
pub here : {X : Type 0} (none : X) (table : Text → X) (e : EntityId) → IsPlain e → for_id none table e ≡ table (entity_text e)
here none table e plain = ap (λ o. if is_some o then none else table (entity_text e)) plain
