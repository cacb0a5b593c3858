use Rattle.std.proofs.Common.{◌∙◌, refl, sym, suc, length, None, Some}
use Rattle.std.specs.Prelude.{is_some, if◌then◌else◌}
use Rattle.std.specs.Option.{option_copied}
use Rattle.ha_journal.specs.Journal.{zone_of, more}
use Rattle.ha_journal.specs.Moves.{sight, looks}
use Rattle.ha_sight.specs.Rules.{given}
use Rattle.trig_set.specs.Timed.{event_seen}
use Rattle.trig_set.proofs.OnLemmas.{ok-then}
use Rattle.trig_set.proofs.MovedLemmas.{past-of, pattern-target, template-target, time-target, timer-told}
use Rattle.trig_set.proofs.moving.ruled.Goals as goal

pub returns-in-Some-entity-2 : goal.returns-in-Some-entity-2
returns-in-Some-entity-2 c =
    ok-then _ _ c.given_for.result
    (λ v e j since shows lt well now-true was.
    let x = c.args.scene.now.entry.now in
    let t = c.args.trigger.now in
    e
    ∙ timer-told (sight j (length j)) (sight (more j x) (suc (length j))) j x t c.in-Some-entity-2.entity.now c.in-Event.kinds c.in-Event.pairs c.in-Event.is c.args.scene.now.events.now shows.events
    ∙ (λ i. if looks (sight j (length j)) (sight (more j x) (suc (length j))) j t.rule (is_some t.hold) (option_copied (sym c.in-Some-entity-2.is i)) x then Some (given (sight j (length j)) (sight (more j x) (suc (length j))) (event_seen j x (option_copied (sym c.in-Some-entity-2.is i))) t (option_copied (sym c.in-Some-entity-2.is i))) else None))
    c.given_for.ensures

pub returns-in-None-entity-3 : goal.returns-in-None-entity-3
returns-in-None-entity-3 c =
    ok-then _ _ c.of_time.result
    (λ v e j since shows lt well now-true was.
    let x = c.args.scene.now.entry.now in
    let t = c.args.trigger.now in
    e (zone_of (more j x)) shows.zone
    ∙ time-target j x t (past-of j since lt) (zone_of (more j x)) c.args.scene.now.from c.args.scene.now.to refl shows.from shows.to c.in-Time.field-0 c.in-Time.is
    ∙ (λ i. if looks (sight j (length j)) (sight (more j x) (suc (length j))) j t.rule (is_some t.hold) (option_copied (sym c.in-None-entity-3.is i)) x then Some (given (sight j (length j)) (sight (more j x) (suc (length j))) (event_seen j x (option_copied (sym c.in-None-entity-3.is i))) t (option_copied (sym c.in-None-entity-3.is i))) else None))
    c.of_time.ensures

pub returns-in-None-entity-4 : goal.returns-in-None-entity-4
returns-in-None-entity-4 c =
    ok-then _ _ c.of_time-in-None-entity-4.result
    (λ v e j since shows lt well now-true was.
    let x = c.args.scene.now.entry.now in
    let t = c.args.trigger.now in
    e (zone_of (more j x)) shows.zone
    ∙ pattern-target j x t (past-of j since lt) (zone_of (more j x)) c.args.scene.now.from c.args.scene.now.to refl shows.from shows.to c.in-Pattern.hours c.in-Pattern.minutes c.in-Pattern.seconds c.in-Pattern.is
    ∙ (λ i. if looks (sight j (length j)) (sight (more j x) (suc (length j))) j t.rule (is_some t.hold) (option_copied (sym c.in-None-entity-4.is i)) x then Some (given (sight j (length j)) (sight (more j x) (suc (length j))) (event_seen j x (option_copied (sym c.in-None-entity-4.is i))) t (option_copied (sym c.in-None-entity-4.is i))) else None))
    c.of_time-in-None-entity-4.ensures

pub returns-in-None-entity-5 : goal.returns-in-None-entity-5
returns-in-None-entity-5 c =
    ok-then _ _ c.of_template.result
    (λ v e j since shows lt well now-true was.
    let x = c.args.scene.now.entry.now in
    let t = c.args.trigger.now in
    e ∙ template-target j x t c.in-Template.field-0 c.args.is c.args.was c.in-Template.is now-true was
    ∙ (λ i. if looks (sight j (length j)) (sight (more j x) (suc (length j))) j t.rule (is_some t.hold) (option_copied (sym c.in-None-entity-5.is i)) x then Some (given (sight j (length j)) (sight (more j x) (suc (length j))) (event_seen j x (option_copied (sym c.in-None-entity-5.is i))) t (option_copied (sym c.in-None-entity-5.is i))) else None))
    c.of_template.ensures
