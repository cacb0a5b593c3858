use Rattle.std.proofs.Common.{append-nil, map, sym}
use Rattle.event_bus.specs.Subjects.{Subject}
use Rattle.trig_set.specs.Kept.{place_of}
use Rattle.trig_set.proofs.blank.add_many.Goals as goal

pub loop-place-init : goal.loop-place-init
loop-place-init c = record {
  seen = λ e. c.make-seen.ensures (Subject.Entity e) 0;
  places = sym (append-nil (map place_of c.args.spots.now.items));
  blank = λ h. h;
}
