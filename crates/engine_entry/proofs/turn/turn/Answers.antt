use Rattle.std.proofs.Common.{◌≡◌, ℕ, ◌<◌, List, Bool, true, false, subst, sym, arith}
use Rattle.std.specs.Prelude.{if◌then◌else◌}
use Rattle.ha_past.specs.Firings.{Owner, placed, without_owner}
use Rattle.trig_set.specs.Stands.{attached}
use Rattle.engine_parts.specs.Owners.{AreBelow}
use Rattle.engine_parts.proofs.DetachLemmas.{below-without}
use Rattle.engine_entry.proofs.PlaceLemmas.{below-placed}
use Rattle.engine_entry.proofs.ForceNames.{force-sound}
use Rattle.engine_entry.proofs.NamedLemmas.{sound-triggers}
use Rattle.engine_entry.proofs.TurnedParts.{fresh-on, low-number, switch-there, turned-none, turned-some}
use Rattle.engine_entry.proofs.turn.turn.Goals as goal

pub set-requires : goal.set-requires
set-requires c = switch-there c.args.rule.now c.args.automation c.args.on c.args.place c.args.parts.now c.args.before.now c.requires

pub attach_switch-requires-clause-fresh : goal.attach_switch-requires-clause-fresh
attach_switch-requires-clause-fresh c =
    fresh-on c.args.rule.now c.args.automation c.args.on c.args.place c.args.parts.now c.args.before.now c.requires c.if-set.ensures.changed

pub attach_switch-requires-clause-sound : goal.attach_switch-requires-clause-sound
attach_switch-requires-clause-sound c = sound-triggers c.args.rule.now (force-sound c.requires.j c.requires.sound c.args.automation c.args.rule.now c.requires.known c.requires.here)

pub returns-in_ok-attach_switch-clause-turned : goal.returns-in_ok-attach_switch-clause-turned
returns-in_ok-attach_switch-clause-turned c h =
    turned-some c.args.rule.now c.args.automation c.args.on c.args.place c.args.parts.now c.args.before.now h c.if-set.ensures.changed c.set.new.self c.if-set.ensures.switches
    c.see_switch.new.states c.in_ok-see_switch.ensures.changes c.see_switch.new.before c.in_ok-see_switch.ensures.listed
    c.attach_switch.new.triggers c.in_ok-attach_switch.ensures.owners (c.in_ok-attach_switch.ensures.stands h.j h.between.stand (omega (arith, h.at)))

pub returns-else-set-clause-turned : goal.returns-else-set-clause-turned
returns-else-set-clause-turned c h =
    turned-none c.args.rule.now c.args.automation c.args.on c.args.place c.args.parts.now c.args.before.now h c.set.new.self c.if-set.ensures.switches c.if-set.ensures.changed

turned-below : (on : Bool) (o : Owner) (n : ℕ) (os os' : List Owner) → o.owner < n → AreBelow n os → os' ≡ (if on then placed o os else without_owner o.owner os) → AreBelow n os'
turned-below true o n os os' lt h e = subst (AreBelow n) (sym e) (below-placed o n os lt h)
turned-below false o n os os' lt h e = subst (AreBelow n) (sym e) (below-without o.owner n os h)

pub returns-in_ok-attach_switch-clause-below : goal.returns-in_ok-attach_switch-clause-below
returns-in_ok-attach_switch-clause-below c n le h =
    let low = low-number c.args.rule.now c.args.automation c.args.on c.args.place c.args.parts.now c.args.before.now c.requires in
    let own : Owner = record { owner = c.args.automation; triggers = c.args.rule.now.triggers; since = c.args.place } in
    turned-below c.args.on own n (attached c.args.parts.now.triggers) (attached c.attach_switch.new.triggers) (omega (arith, low, le)) h c.in_ok-attach_switch.ensures.owners
