use Rattle.std.proofs.Common.{◌+◌, ◌<◌, ◌∙◌, drop, length, refl, sym, subst, arith}
use Rattle.std.specs.Prelude.{IsNone}
use Rattle.trig_set.specs.Stands.{attached}
use Rattle.engine_entry.specs.Reloaded.{AreFresh}
use Rattle.engine_entry.proofs.NamedLemmas.{read-here, sound-triggers, sound-each}
use Rattle.engine_entry.proofs.ReloadSteps.{attach-next, attach-none, fresh-here, fresh-later}
use Rattle.engine_entry.proofs.reload.attach_new.Goals as goal

pub attach_if-requires-clause-fresh : goal.attach_if-requires-clause-fresh
attach_if-requires-clause-fresh c belongs =
    subst IsNone
    (sym (fresh-here c.args.switches.now c.args.free c.args.place c.args.numbers.now c.rules.at 0 (omega (arith, c.rules-test.true, c.requires.numbered)) (attached c.rules.triggers) c.rules.invariant.fresh
    (sym c.is_new_on-belongs.ensures ∙ belongs)))
    refl

pub attach_if-requires-clause-sound : goal.attach_if-requires-clause-sound
attach_if-requires-clause-sound c =
    sound-triggers c.index-rules-at.result
    (sound-each c.args.rules.now c.rules.at c.index-rules-at.result c.requires.sound (read-here c.args.rules.now c.rules.at c.index-rules-at.result c.index-rules-at.result c.rules-test.true c.index-rules-at.is))

pub rules-preserved : goal.rules-preserved
rules-preserved c =
    let lt : c.rules.at < length c.args.numbers.now = omega (arith, c.rules-test.true, c.requires.numbered) in
    let one = attach-next c.args.switches.now c.args.free c.args.place c.args.numbers.now c.args.rules.now c.rules.at 0 c.index-rules-at.result c.rules-test.true c.requires.numbered c.index-rules-at.is
    (attached c.rules.triggers) (attached c.attach_if.new.triggers) c.is_new_on-belongs.result c.is_new_on-belongs.ensures c.in_ok-attach_if.ensures.owners in
    record {
      owners = one.0 ∙ c.rules.invariant.owners;
      stands = λ j h le. c.in_ok-attach_if.ensures.stands j (c.rules.invariant.stands j h le) le;
      fresh = subst (λ os. AreFresh c.args.free os (drop (c.rules.at + 1) c.args.numbers.now)) (sym one.1)
          (fresh-later c.args.switches.now c.args.free c.args.place c.args.numbers.now c.rules.at 0 lt c.index-rules-at.result (attached c.rules.triggers) c.rules.invariant.fresh);
    }

pub returns-clause-owners : goal.returns-clause-owners
returns-clause-owners c = attach-none c.args.switches.now c.args.free c.args.place c.args.numbers.now c.args.rules.now c.rules.at c.rules-test.false (attached c.rules.triggers) ∙ c.rules.invariant.owners

pub returns-clause-stands : goal.returns-clause-stands
returns-clause-stands c = c.rules.invariant.stands
