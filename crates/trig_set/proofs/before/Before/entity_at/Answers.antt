use Rattle.std.proofs.Common.{◌≡◌, ◌∙◌, ℕ, zero, suc, ◌<◌, ◌∷◌, [], ap, arith, get_or, length, refl, sym, subst}
use Rattle.std.specs.Prelude.{Option}
use Rattle.ha_value.specs.declared.value.EntityId.{EntityId}
use Rattle.ha_sight.specs.declared.state.StateObject.{StateObject}
use Rattle.trig_set.specs.declared.scene.Shift.{Shift}
use Rattle.trig_set.specs.Before.{listed_of}
use Rattle.trig_set.specs.Next.{Listed}
use Rattle.trig_set.proofs.before.Before.entity_at.Goals as goal

alone-at : (x d : EntityId × Option StateObject) (at : ℕ) (l : Listed) → x ∷ [] ≡ l → at < length l → x.0 ≡ (get_or l at d).0
alone-at x d at l is lt = subst (λ (m : Listed). at < length m → x.0 ≡ (get_or m at d).0) is (here at) lt
  where
    here : (n : ℕ) → n < 1 → x.0 ≡ (get_or (x ∷ []) n d).0
    here zero lt = refl
    here (suc n) lt = absurd (omega (arith, lt))

pub returns-in-Some : goal.returns-in-Some
returns-in-Some c d =
    ap (λ (s : Shift). s.entity) c.deref.ensures ∙
    alone-at (c.in-Some.alone.value.entity, c.in-Some.alone.value.old) d c.args.at c.args.self.now
    (sym (ap (λ o. listed_of o c.self.inside.several) c.in-Some.is) ∙ c.self.view_is) c.requires

pub entity_in-requires : goal.entity_in-requires
entity_in-requires c =
    subst (λ (l : Listed). c.args.at < length l) (sym c.self.view_is ∙ ap (λ o. listed_of o c.self.inside.several) c.in-None.is ∙ sym c.as_slice.ensures) c.requires

pub returns-in-None : goal.returns-in-None
returns-in-None c d =
    c.entity_in.ensures d
    ∙ ap (λ (l : Listed). (get_or l c.args.at d).0) (c.as_slice.ensures ∙ sym (ap (λ o. listed_of o c.self.inside.several) c.in-None.is) ∙ c.self.view_is)
