use Rattle.std.proofs.Common.{◌≡◌, ◌∙◌, sym, length, false, arith}
use Rattle.std.specs.Option.{option_copied}
use Rattle.ha_journal.specs.Entries.{opens_segment}
use Rattle.trig_set.proofs.OnLemmas.{ok-then}
use Rattle.trig_set.proofs.MovedLemmas.{moves-boot, moves-by, moves-not, moves-restart, has-past, lt-is, lt-isnt}
use Rattle.trig_set.proofs.moving.given.Goals as goal

pub returns-then-boots : goal.returns-then-boots
returns-then-boots c =
    ok-then _ _ c.started.result
    (λ v e j shows well now-true was. e ∙ sym (moves-boot j c.args.scene.now.entry.now c.args.trigger.now (option_copied c.args.entity) c.args.since (sym c.boots.ensures ∙ c.if-boots.true)))
    c.started.ensures

pub returns-then-opens : goal.returns-then-opens
returns-then-opens c j shows well now-true was =
    sym (moves-restart j c.args.scene.now.entry.now c.args.trigger.now (option_copied c.args.entity) c.args.since (sym c.opens.ensures ∙ c.if-opens.true) (sym c.boots.ensures ∙ c.if-boots.false))

pub returns-then-scene-since : goal.returns-then-scene-since
returns-then-scene-since c j shows well now-true was =
    let opens : opens_segment c.args.scene.now.entry.now ≡ false = sym c.opens.ensures ∙ c.if-opens.false in
    let at = shows.at in
    sym (moves-not j c.args.scene.now.entry.now c.args.trigger.now (option_copied c.args.entity) c.args.since (has-past j c.args.scene.now.entry.now shows.journal opens) opens
    (lt-isnt c.args.since (length j) (omega (arith, at))))

pub returns : goal.returns
returns c =
    ok-then _ _ c.ruled.result
    (λ v e j shows well now-true was.
    let opens : opens_segment c.args.scene.now.entry.now ≡ false = sym c.opens.ensures ∙ c.if-opens.false in
    let at = shows.at in
    let lt = lt-is c.args.since (length j) (omega (arith, at)) in
    e j c.args.since shows lt well now-true (was lt) ∙ sym (moves-by j c.args.scene.now.entry.now c.args.trigger.now (option_copied c.args.entity) c.args.since opens lt))
    c.ruled.ensures
