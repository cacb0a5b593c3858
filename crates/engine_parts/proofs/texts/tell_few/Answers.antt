use Rattle.std.proofs.Common.{[], refl, subst, sym, arith}
use Rattle.std.proofs.lemmas.List.{take_all}
use Rattle.state_table.specs.Table.{at}
use Rattle.trig_set.specs.Next.{Listed}
use Rattle.engine_parts.specs.Texts.{AreTold}
use Rattle.engine_parts.proofs.TextLemmas.{told-none}
use Rattle.engine_parts.proofs.texts.tell_few.Goals as goal

pub loop-place-init : goal.loop-place-init
loop-place-init c = subst (λ (l : Listed). AreTold c.args.now (at c.args.states.now) [] c.args.states.now l) (sym c.make-before.ensures) (told-none c.args.now (at c.args.states.now) c.args.states.now (λ e. refl))

pub returns : goal.returns
returns c = subst (λ cs. AreTold c.args.now (at c.args.states.now) cs c.loop-place.states c.loop-place.before) (take_all c.loop-place.place c.args.changes.now (omega arith)) c.loop-place.invariant
