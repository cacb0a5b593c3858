use Rattle.std.proofs.Common.{◌≡◌, ◌∙◌, refl, [], ◌∷◌}
use Rattle.std.specs.Prelude.{Result, Ok, Err, Some, None, IfOk, option_map}
use Rattle.ha_value.specs.declared.value.Value.{Value}
use Rattle.ha_sight.specs.Seen.{seen_value}
use Rattle.ha_config.specs.Words.{Text, Pairs, first_of_list}
use Rattle.wait_set.specs.Asked.{value_of}
use Rattle.wait_set.proofs.asked.first_value.Goals as goal

first-is : (ps : Pairs) (v : Value) → Some v ≡ option_map (λ (p : Text × Value). p.1) (first_of_list ps) → v ≡ value_of ps
first-is [] v h = absurd (cc)
first-is (p ∷ ps) v h = cc

first-none : (ps : Pairs) → None ≡ option_map (λ (p : Text × Value). p.1) (first_of_list ps) → Value.Null ≡ value_of ps
first-none [] h = refl
first-none (p ∷ ps) h = absurd (cc)

if-same : {E : Type 0} (r : Result Value E) (v w : Value) → v ≡ w → IfOk r (λ x. x ≡ v) → IfOk r (λ x. x ≡ w)
if-same (Ok x) v w e h = h ∙ e
if-same (Err f) v w e h = tt

pub returns-in-Some : goal.returns-in-Some
returns-in-Some c = if-same c.value.result _ _ (first-is c.args.env.now (seen_value c.in-Some.seen) c.in-Some.ensures) c.value.ensures

pub returns-in-None : goal.returns-in-None
returns-in-None c = first-none c.args.env.now c.in-None.ensures
