-- What a map has under a name, where its pairs are two lists, one behind the other.
use Rattle.std.proofs.Common.{◌≡◌, ◌∙◌, ap, Bool, true, false, refl, [], ◌∷◌, ◌++◌, sym}
use Rattle.std.specs.Prelude.{Option, Some, None, option_and_then, unwrap_or, if◌then◌else◌}
use Rattle.ha_value.specs.declared.value.Value.{Value}
use Rattle.ha_value.specs.declared.value.Value.TheOpen.{Value-F}
use Rattle.ha_value.specs.declared.value.Value.TheViews.{out-Value}
use Rattle.ha_value.specs.declared.value.Value.TheVariants.{Pairs as Map, outs-Pairs}
use Rattle.ha_sight.specs.Values.{field_of, pairs_in}
use Rattle.ha_config.specs.Words.{Text, Pairs, same, first_pair}

stays : (b : Bool) (v w : Value) (first second : Option Value) → (first ≡ Some w → second ≡ Some w)
    → (if b then Some v else first) ≡ Some w → (if b then Some v else second) ≡ Some w
stays true v w first second f h = h
stays false v w first second f h = f h

passes : (b : Bool) (v : Value) (first second third : Option Value) → (first ≡ None → second ≡ third)
    → (if b then Some v else first) ≡ None → (if b then Some v else second) ≡ third
passes true v first second third f h = absurd (cc)
passes false v first second third f h = f h

module _ (name : Text) where
  front : (ps qs : Pairs) (v : Value) → first_pair name ps ≡ Some v → first_pair name (ps ++ qs) ≡ Some v
  front [] qs v h = absurd (cc)
  front (p ∷ ps) qs v h = stays (same p.0 name) p.1 v (first_pair name ps) (first_pair name (ps ++ qs)) (front ps qs v) h

  behind : (ps qs : Pairs) → first_pair name ps ≡ None → first_pair name (ps ++ qs) ≡ first_pair name qs
  behind [] qs h = refl
  behind (p ∷ ps) qs h =
      passes (same p.0 name) p.1 (first_pair name ps) (first_pair name (ps ++ qs)) (first_pair name qs) (behind ps qs) h

  of_map : (ps : Pairs) → field_of (Map ps) name ≡ unwrap_or (first_pair name ps) Value.Null
  of_map ps =
      let e : out-Value (Map ps) ≡ Value-F.Pairs ps = simp outs-Pairs in
      ap (λ o. unwrap_or (option_and_then (first_pair name) (pairs_in o)) Value.Null) e

  module _ (ps qs : Pairs) (found : Option Value) (known : found ≡ first_pair name ps) where
    -- it is in the first list
    pub field-front : (v : Value) → found ≡ Some v → v ≡ field_of (Map (ps ++ qs)) name
    field-front v h = sym (of_map (ps ++ qs) ∙ ap (λ o. unwrap_or o Value.Null) (front ps qs v (sym known ∙ h)))

    -- it is not, and the second list decides
    pub field-behind : found ≡ None → unwrap_or (first_pair name qs) Value.Null ≡ field_of (Map (ps ++ qs)) name
    field-behind h = sym (of_map (ps ++ qs) ∙ ap (λ o. unwrap_or o Value.Null) (behind ps qs (sym known ∙ h)))
