use Rattle.std.proofs.Common.{◌≡◌, ◌≤◌, ◌-◌, ◌∙◌, List, length, subst, sym, ap, arith}
use Rattle.std.specs.List.{list_all}
use Rattle.ha_config.specs.declared.config.Automation.{Automation}
use Rattle.ha_config.specs.Sound.{is_sound_automation}
use Rattle.ha_journal.proofs.MoreLemmas.{length-more}
use Rattle.trig_set.specs.Stands.{attached}
use Rattle.engine_entry.specs.Reloaded.{AreFresh, without_all}
use Rattle.engine_entry.proofs.ReloadParts.{each-sound, fresh-own, own-are, own-within, reload-done, rules-sound, rules-within, some-before}
use Rattle.engine_entry.proofs.reload.enter_reload.Goals as goal

pub rule_numbers-own-requires : goal.rule_numbers-own-requires
rule_numbers-own-requires c =
    rules-within c.args.journal.now c.args.old.now c.requires.0 c.args.plan c.args.parts.now c.requires.1 c.configuration-new.result.now c.configuration-new.ensures.configured

pub reload-requires-clause-sound : goal.reload-requires-clause-sound
reload-requires-clause-sound c =
    rules-sound c.args.journal.now c.args.old.now c.requires.0 c.args.plan c.args.parts.now c.requires.1 c.configuration-new.result.now c.configuration-new.ensures.configured

pub reload-requires-clause-numbered : goal.reload-requires-clause-numbered
reload-requires-clause-numbered c =
    own-within c.args.journal.now c.args.old.now c.requires.0 c.args.plan c.args.parts.now c.requires.1 c.configuration-new.result.now c.configuration-new.ensures.configured
    c.rule_numbers-own.result.now c.rule_numbers-own.ensures

pub enter_all-requires : goal.enter_all-requires
enter_all-requires c =
    subst (λ (l : List Automation). length l ≤ length c.rule_numbers-own.result.now) (sym c.as_slice-rules.ensures)
    (own-within c.args.journal.now c.args.old.now c.requires.0 c.args.plan c.args.parts.now c.requires.1 c.configuration-new.result.now c.configuration-new.ensures.configured
    c.rule_numbers-own.result.now c.rule_numbers-own.ensures)

pub attach_new-requires-clause-numbered : goal.attach_new-requires-clause-numbered
attach_new-requires-clause-numbered c =
    subst (λ (l : List Automation). length l ≤ length c.rule_numbers-own.result.now) (sym c.as_slice-rules.ensures)
    (own-within c.args.journal.now c.args.old.now c.requires.0 c.args.plan c.args.parts.now c.requires.1 c.configuration-new.result.now c.configuration-new.ensures.configured
    c.rule_numbers-own.result.now c.rule_numbers-own.ensures)

pub attach_new-requires-clause-sound : goal.attach_new-requires-clause-sound
attach_new-requires-clause-sound c =
    ap (list_all is_sound_automation) c.as_slice-rules.ensures
    ∙ each-sound c.args.journal.now c.args.old.now c.requires.0 c.args.plan c.args.parts.now c.requires.1 c.configuration-new.result.now c.configuration-new.ensures.configured

pub attach_new-requires-clause-fresh : goal.attach_new-requires-clause-fresh
attach_new-requires-clause-fresh c =
    let h = c.requires.1 in
    let conf = c.configuration-new.result.now in
    let own = c.rule_numbers-own.result.now in
    let stands = c.in_ok-switches.ensures.stands h.j h.x c.requires.0 (some-before c.args.journal.now c.args.old.now c.requires.0 c.args.plan c.args.parts.now h) h.reloads
    (own-are c.args.journal.now c.args.old.now c.requires.0 c.args.plan c.args.parts.now h conf c.configuration-new.ensures.configured own c.rule_numbers-own.ensures) h.sees.switches_stand in
    subst (λ os. AreFresh c.args.parts.now.free os own) (sym (c.detach_gone.ensures.owners ∙ ap (λ ns. without_all ns (attached c.args.parts.now.triggers)) c.as_slice-2.ensures))
    (fresh-own c.args.journal.now c.args.old.now c.requires.0 c.args.plan c.args.parts.now h conf c.configuration-new.ensures.configured own c.rule_numbers-own.ensures c.in_ok-switches.switches stands)

pub returns-clause-entered : goal.returns-clause-entered
returns-clause-entered c =
    let k = c.args.journal.now in
    let h = c.requires.1 in
    let conf = c.configuration-new.result.now in
    let own = c.rule_numbers-own.result.now in
    let stands = c.in_ok-switches.ensures.stands h.j h.x c.requires.0 (some-before k c.args.old.now c.requires.0 c.args.plan c.args.parts.now h) h.reloads
    (own-are k c.args.old.now c.requires.0 c.args.plan c.args.parts.now h conf c.configuration-new.ensures.configured own c.rule_numbers-own.ensures) h.sees.switches_stand in
    let at : c.place.result ≡ length h.j = omega (arith, c.place.ensures.place, ap length h.journal_is, length-more h.j h.x) in
    reload-done k c.args.old.now c.requires.0 c.args.plan c.args.parts.now h conf c.configuration-new.ensures.configured own c.rule_numbers-own.ensures c.in_ok-switches.switches stands
    c.as_slice-rules.result.now c.as_slice.result.now c.as_slice-rules.ensures c.as_slice.ensures
    c.leave_all.new.states c.enter_all.new.states c.make-before.result c.leave_all.new.before c.enter_all.new.before c.make-before.ensures
    c.in_ok-leave_all.ensures c.in_ok-enter_all.ensures
    c.as_slice-2.result.now c.as_slice-2.ensures c.place.result at c.detach_gone.new.triggers c.attach_new.new.triggers c.detach_gone.ensures.owners c.in_ok-attach_new.ensures.owners
    (c.in_ok-attach_new.ensures.stands h.j (c.detach_gone.ensures.stands h.j h.triggers_stand) (omega (arith, at)))
    c.make.result c.make.ensures c.is_ascending-parts.result c.is_ascending-parts.ensures
