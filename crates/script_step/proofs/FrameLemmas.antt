-- Frames that stand for a script after some places, and one more.
use Rattle.std.proofs.Common.{◌≡◌, List, [], ◌∷◌, ◌++◌, refl, sym, ap, ◌∙◌, append_assoc}
use Rattle.std.specs.Prelude.{Option, Some, None}
use Rattle.ha_config.specs.declared.config.Action.{Action}
use Rattle.ha_sight.specs.declared.item.Item.{Item}
use Rattle.ha_sight.specs.declared.waiting.WaitEnd.{WaitEnd}
use Rattle.ha_config.specs.Words.{Pairs}
use Rattle.ha_sight.specs.Sight.{Sight}
use Rattle.ha_sight.specs.Scripts.{Spot, Outcome, Ask, gives, prefixed, whole}
use Rattle.script_step.specs.declared.frames.Frames.{Frames}
use Rattle.script_step.specs.Continuation.{Began, placed}
use Rattle.script_step.specs.Frames.{continues, ask_of, Steps, began_by, begins, Stands}

began-snoc : (before : Began) (given : List Spot) (s : Spot) → began_by before (given ++ (s ∷ [])) ≡ placed s.branch s.place (began_by before given)
began-snoc before [] s = refl
began-snoc before (x ∷ given) s = began-snoc (placed x.branch x.place before) given s

prefixed-gives : (items : List Item) (item : Item) (o : Option Outcome) → prefixed items (gives item o) ≡ prefixed (items ++ (item ∷ [])) o
prefixed-gives items item None = refl
prefixed-gives items item (Some o) = ap (λ l. Some (record o { items = l })) (sym (append_assoc items (item ∷ []) o.items))

pub stands-step : (actions : List Action) (env : Pairs) (given : List Spot) (items : List Item) (old new : Frames) (item : Item) (sight : Sight) (end : Option WaitEnd) (s : Spot)
    → Stands old actions env given items → Steps sight s.branch end old item new → s.sight ≡ sight
    → ((ask : Ask) → ask_of old s.branch ≡ Some ask → s.wait_end ask (began_by begins given s.branch) ≡ end)
    → Stands new actions env (given ++ (s ∷ [])) (items ++ (item ∷ []))
stands-step actions env given items old new item sight end s stands steps seen tells = record {
  script = steps.script ∙ stands.script;
  goes = λ ps.
      ap (whole actions env) (append_assoc given (s ∷ []) ps)
      ∙ stands.goes (s ∷ ps)
      ∙ ap (prefixed items) (steps.goes (began_by begins given) s ps seen refl tells)
      ∙ prefixed-gives items item (continues new (placed s.branch s.place (began_by begins given)) ps)
      ∙ (λ i. prefixed (items ++ (item ∷ [])) (continues new (sym (began-snoc begins given s) i) ps));
}
