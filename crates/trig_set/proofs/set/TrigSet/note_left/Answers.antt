use Rattle.std.proofs.Common.{refl}
use Rattle.trig_set.proofs.AloneLemmas.{left-fires, left-stands}
use Rattle.trig_set.proofs.set.TrigSet.note_left.Goals as goal

pub returns-clause-fired : goal.returns-clause-fired
returns-clause-fired c j k n place old seen stands next =
    left-fires c.args.self.now c.args.entity.now c.args.text.now c.args.attributes.now c.requires.left j k n place old seen stands next

pub returns-clause-stands : goal.returns-clause-stands
returns-clause-stands c j k n place old seen stands next at =
    left-stands c.args.self.now c.args.entity.now c.args.text.now c.args.attributes.now c.requires.left j k n place old seen stands next _ refl refl refl refl refl at c.in_ok-report.ensures

pub returns-in_err-report-clause-fired : goal.returns-in_err-report-clause-fired
returns-in_err-report-clause-fired c j k n place old seen stands next =
    left-fires c.args.self.now c.args.entity.now c.args.text.now c.args.attributes.now c.requires.left j k n place old seen stands next
