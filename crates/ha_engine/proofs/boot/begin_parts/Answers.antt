use Rattle.ha_engine.proofs.OpeningLemmas.{begun-is}
use Rattle.ha_engine.proofs.boot.begin_parts.Goals as goal

pub prepare_opening-requires : goal.prepare_opening-requires
prepare_opening-requires c =
    let sees = c.in_ok-parts.ensures.going.sees in
    record {
      begun = begun-is c.args.journal.now c.args.switches c.args.zone c.args.start c.requires.begun;
      sees = record { looks = sees.looks; helpers_stand = sees.helpers_stand; switches_stand = sees.switches_stand; changed_is = sees.changed_is; sound = sees.sound; few = sees.few; free_is = sees.free_is; ascending_is = sees.ascending_is };
      fired = c.in_ok-parts.ensures.fired;
    }
