use Rattle.std.proofs.Common.{refl, sym, subst}
use Rattle.std.specs.Prelude.{IsNone}
use Rattle.engine_entry.proofs.DelayLemmas.{none_due}
use Rattle.engine_entry.proofs.EndLemmas as ends
use Rattle.engine_entry.proofs.step_take.take_delay.Goals as goal

pub insert-requires : goal.insert-requires
insert-requires c = subst IsNone (sym (none_due c.args.place c.args.delays.now c.requires)) refl
