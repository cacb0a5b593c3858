use Rattle.std.proofs.Common.{◌∙◌, ap, subst, sym}
use Rattle.script_step.specs.declared.frames.Frames.{Frames}
use Rattle.script_step.specs.Frames as run
use Rattle.script_step.specs.Gates.{fronts_of}
use Rattle.ha_engine.proofs.admit.put_run.Goals as goal

pub returns-then-first-clause-slots : goal.returns-then-first-clause-slots
returns-then-first-clause-slots c = (
  c.set_serial.new.self,
  c.push.ensures.items,
  record {
    serial = c.set_serial.ensures.serial;
    automation = c.set_serial.ensures.automation ∙ ap (λ (f : Frames). f.automation) c.deref_mut.ensures.value;
    stands = λ actions env given items s. c.set_serial.ensures.stands actions env given items (subst (λ (f : Frames). run.Stands f actions env given items) (sym c.deref_mut.ensures.value) s);
    fronts = λ began. c.set_serial.ensures.fronts began ∙ ap (λ (f : Frames). fronts_of f began) c.deref_mut.ensures.value;
  },
)

pub returns-else-first-clause-slots : goal.returns-else-first-clause-slots
returns-else-first-clause-slots c = (
  c.set_serial.new.self,
  c.push.ensures.items,
  record {
    serial = c.set_serial.ensures.serial;
    automation = c.set_serial.ensures.automation ∙ ap (λ (f : Frames). f.automation) c.deref_mut.ensures.value;
    stands = λ actions env given items s. c.set_serial.ensures.stands actions env given items (subst (λ (f : Frames). run.Stands f actions env given items) (sym c.deref_mut.ensures.value) s);
    fronts = λ began. c.set_serial.ensures.fronts began ∙ ap (λ (f : Frames). fronts_of f began) c.deref_mut.ensures.value;
  },
)
