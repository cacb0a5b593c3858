use Rattle.std.proofs.Common.{◌≡◌, ◌∙◌, ◌++◌, [], ap, sym, subst, map, true}
use Rattle.ha_config.specs.Sound.{is_short, is_sound_trigger}
use Rattle.std.specs.List.{list_all}
use Rattle.trig_set.specs.Blank.{are_blank}
use Rattle.trig_set.specs.Kept.{AreTimed, place_of, places_of}
use Rattle.trig_set.specs.Reads.{AreRead}
use Rattle.trig_set.proofs.BlankLemmas.{both, sound-well, blank-kept, blank-timed}
use Rattle.timer_queue.specs.Timers.{IsLeast, due_of}
use Rattle.trig_set.specs.Stands.{OwnerStands}
use Rattle.trig_set.proofs.owners.fresh.Goals as goal

pub returns-clause-stands : goal.returns-clause-stands
returns-clause-stands c j le =
    let ts = c.args.triggers.now in
    let spots = c.add_triggers.new.spots in
    let blank : are_blank spots.items ≡ true = c.in_ok-add_triggers.ensures.blank (ap are_blank c.new-spots.ensures.items) in
    subst (λ l. OwnerStands j (record { owner = c.args.owner; since = c.args.since; triggers = l; spots = spots; timers = c.make.result; listed = c.in_ok-listed.listed; reads = c.in_ok-reads.reads })) (sym c.in_ok-copy.ensures)
    (record {
      well = sound-well ts (both (is_short ts) (list_all is_sound_trigger ts) c.requires).1;
      spots = record {
        kept = blank-kept j ts c.args.since le spots.items blank;
        places = c.in_ok-add_triggers.ensures.places ∙ (λ i. map place_of (c.new-spots.ensures.items i) ++ places_of [] (c.as_slice.ensures i));
        timed = subst (λ l. AreTimed l spots.items) (sym c.make.ensures) (blank-timed spots.items blank);
      };
      listed = c.in_ok-listed.ensures;
      reads = c.in_ok-reads.ensures;
    })

pub returns-clause-due : goal.returns-clause-due
returns-clause-due c queue = subst (IsLeast (due_of c.args.owner queue)) (sym c.make.ensures) (λ key. tt)

pub returns-clause-reads : goal.returns-clause-reads
returns-clause-reads c = subst (λ l. AreRead l c.in_ok-reads.reads) (sym c.in_ok-copy.ensures) c.in_ok-reads.ensures
