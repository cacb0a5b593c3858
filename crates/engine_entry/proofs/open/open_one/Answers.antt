use Rattle.state_table.specs.Table.{at}
use Rattle.state_laws.proofs.StandLemmas.{stands-switch}
use Rattle.std.proofs.Common.{◌≡◌, ◌∙◌, Bool, ◌&&◌, not, refl, sym, subst, arith}
use Rattle.std.specs.Prelude.{Some, IsNone, if◌then◌else◌}
use Rattle.ha_value.specs.declared.value.EntityId.{EntityId}
use Rattle.ha_journal.specs.Journal.{Journal, more, configured}
use Rattle.ha_journal.specs.States.{states}
use Rattle.ha_config.specs.Words.{same_entity}
use Rattle.ha_past.specs.Firings.{placed}
use Rattle.state_table.specs.Anew.{switch_object}
use Rattle.state_laws.specs.Stands.{StandsBut}
use Rattle.trig_set.specs.Stands.{attached}
use Rattle.engine_entry.specs.Opened.{left_from, placed_rules}
use Rattle.engine_entry.specs.Turned.{is_left}
use Rattle.engine_entry.proofs.NamedLemmas.{sound-at, sound-triggers}
use Rattle.engine_entry.proofs.OpenLemmas.{open-next, open-none, open-state}
use Rattle.engine_entry.proofs.open.open_one.Goals as goal

pub attach_on-requires-clause-fresh : goal.attach_on-requires-clause-fresh
attach_on-requires-clause-fresh c =
    subst IsNone (sym (open-none c.requires.j c.requires.x c.requires.opens c.requires.numbered c.args.automation (attached c.args.triggers.now) c.requires.opened.owners)) refl

pub attach_on-requires-clause-sound : goal.attach_on-requires-clause-sound
attach_on-requires-clause-sound c = sound-triggers c.args.rule.now (sound-at (configured (more c.requires.j c.requires.x)) c.requires.sound c.args.automation c.args.rule.now c.requires.here)

pub returns : goal.returns
returns c h =
    let k : Journal = more h.j h.x in
    let own = c.in_ok-entity.ensures in
    let left : EntityId → Bool = is_left (placed_rules k) (left_from c.args.automation) in
    let state : states k c.in_ok-entity.entity ≡ Some (switch_object c.args.on c.args.now)
    = (λ i. states k (own i)) ∙ open-state h.j h.x h.opens h.numbered h.sound c.args.automation c.args.rule.now h.here ∙ (λ i. Some (switch_object (h.on_is i) (sym h.at_is i))) in
    open-next h.j h.x h.opens h.numbered h.sound c.args.automation c.args.rule.now h.here c.args.states.now c.set_switch.new.self c.args.triggers.now c.attach_on.new.triggers
    (subst (λ (v : EntityId). StandsBut (λ e. left e && not (same_entity v e)) c.set_switch.new.self k) own (stands-switch (at c.args.states.now) (at c.set_switch.new.self) c.in_ok-entity.entity (switch_object c.args.on c.args.now) c.in_ok-set_switch.ensures.ok k left h.opened.stand state))
    (c.in_ok-attach_on.ensures.owners
    ∙ (λ i. if sym h.on_is i then placed (record { owner = c.args.automation; triggers = c.args.rule.now.triggers; since = h.place_is i }) (attached c.args.triggers.now) else attached c.args.triggers.now))
    (c.in_ok-attach_on.ensures.stands h.j h.opened.triggers_stand (omega (arith, h.place_is))) h.opened
