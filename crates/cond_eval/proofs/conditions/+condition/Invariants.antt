use Rattle.std.proofs.Common.{◌≡◌, drop}
use Rattle.std.specs.List.{list_all, list_any}
use Rattle.ha_sight.specs.Conditions as conditions
use Rattle.cond_eval.specs.Seen.{seen}
use Rattle.cond_eval.proofs.conditions.+condition.Given as goal

abbrev pub invariant-all_hold-loop-i : goal.invariant-all_hold-loop-i
invariant-all_hold-loop-i l = list_all (λ c. conditions.holds (seen l.view) c l.env) l.inside ≡ list_all (λ c. conditions.holds (seen l.view) c l.env) (drop l.i l.inside)

abbrev pub invariant-one_holds-loop-i : goal.invariant-one_holds-loop-i
invariant-one_holds-loop-i l = list_any (λ c. conditions.holds (seen l.view) c l.env) l.inside ≡ list_any (λ c. conditions.holds (seen l.view) c l.env) (drop l.i l.inside)
