use Rattle.ha_sight.specs.Sight.{Sight}
use Rattle.tpl_eval.specs.Scope.{variables}
use Rattle.tpl_eval.specs.Seen.{Sees}
use Rattle.tpl_eval.proofs.ItemLemmas.{GoesOn}
use Rattle.tpl_eval.proofs.ListLemmas.{Continues}
use Rattle.tpl_eval.proofs.value.+value.Given as goal

abbrev pub invariant-values_of-loop-i : goal.invariant-values_of-loop-i
invariant-values_of-loop-i l = (sight : Sight) → Sees sight l.scope.states.now → Continues sight (variables l.scope) l.exprs l.i l.all

abbrev pub invariant-items_of-loop-i : goal.invariant-items_of-loop-i
invariant-items_of-loop-i l = (sight : Sight) → Sees sight l.scope.states.now → GoesOn sight (variables l.scope) l.exprs l.i l.left l.all
