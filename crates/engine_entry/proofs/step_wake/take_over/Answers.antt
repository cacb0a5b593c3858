use Rattle.std.proofs.Common.{◌≡◌, ◌+◌, ◌-◌, ◌<◌, false, length, sym, subst, arith}
use Rattle.std.specs.Prelude.{nat_eq}
use Rattle.std.specs.List.{list_any}
use Rattle.trig_set.specs.Stands.{attached}
use Rattle.engine_parts.specs.Kept.{KeysBelow}
use Rattle.engine_parts.specs.Owners.{AreBelow}
use Rattle.engine_parts.specs.Runs.{first_wait}
use Rattle.engine_entry.proofs.DelayLemmas.{keys-added}
use Rattle.engine_entry.proofs.step_wake.take_over.Goals as goal

pub take_wait-requires : goal.take_wait-requires
take_wait-requires c =
    let h = c.requires in
    let n = length h.entered.untold.j in
    let at : n ≡ c.place-place.result = omega (arith, h.here, c.place-place.ensures.place) in
    record {
      room = subst (λ m. m < 1048576) at h.room;
      below = subst (λ m. AreBelow (first_wait + m) (attached c.args.parts.now.triggers)) at h.below;
      early = subst (λ m. list_any (λ a. nat_eq a.owner (first_wait + m)) c.args.parts.now.waits.asks ≡ false) at h.early;
      taken = h.taken;
    }

pub take_delay-requires : goal.take_delay-requires
take_delay-requires c =
    let h = c.requires in
    let at : length h.entered.untold.j ≡ c.place-place.result = omega (arith, h.here, c.place-place.ensures.place) in
    subst (λ m. KeysBelow m c.args.parts.now.delays) at h.keys_early

pub returns-clause-entered : goal.returns-clause-entered
returns-clause-entered c =
    let h = c.requires in
    let k = c.args.journal.now in
    let at : length h.entered.untold.j ≡ c.place-place.result = omega (arith, h.here, c.place-place.ensures.place) in
    let sees = h.entered.sees in
    record {
      sees = record { looks = sees.looks; helpers_stand = sees.helpers_stand; switches_stand = sees.switches_stand; changed_is = sees.changed_is; sound = sees.sound; few = sees.few; free_is = sees.free_is; ascending_is = sees.ascending_is };
      untold = c.in_ok-take_wait.ensures.untold k c.args.before.now h.entered.untold at;
      given_is = h.entered.given_is;
      keys_early = subst (KeysBelow (length k)) (sym c.in_ok-take_delay.ensures)
          (keys-added (length k) c.place-place.result c.args.due c.args.parts.now.delays (omega (arith, h.here, c.place-place.ensures.place)) h.entered.keys_early);
    }
