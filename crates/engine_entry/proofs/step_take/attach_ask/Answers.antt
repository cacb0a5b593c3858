use Rattle.std.proofs.Common.{◌+◌, refl, sym, subst, arith}
use Rattle.std.specs.Prelude.{IsNone}
use Rattle.ha_past.specs.Firings.{Owner}
use Rattle.trig_set.specs.Stands.{attached}
use Rattle.engine_entry.proofs.TakeLemmas.{none-named, untold-taken}
use Rattle.engine_entry.proofs.step_take.attach_ask.Goals as goal
use Rattle.engine_parts.specs.Runs.{first_wait}

pub attach-requires-clause-fresh : goal.attach-requires-clause-fresh
attach-requires-clause-fresh c =
    let o : Owner = record { owner = first_wait + c.args.place; triggers = c.args.ask.triggers; since = c.args.place } in
    subst IsNone (sym (none-named o (attached c.args.triggers.now) c.requires.below)) refl

pub returns-clause-untold : goal.returns-clause-untold
returns-clause-untold c k before h at =
    untold-taken k c.args.triggers.now c.attach.new.self c.args.waits.now c.add.new.self before h c.args.place c.args.ask at c.requires.below c.requires.early
    c.in_ok-attach.ensures.ok c.in_ok-add.ensures.ok (c.in_ok-attach.ensures.stands h.j h.triggers_stand (omega (arith, at))) (c.in_ok-add.ensures.stands h.j h.some h.waits_stand (sym at))
