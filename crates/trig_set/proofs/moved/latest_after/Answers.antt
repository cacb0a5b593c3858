use Rattle.std.proofs.Common.{◌∙◌, sym, None}
use Rattle.std.specs.Prelude.{if◌then◌else◌}
use Rattle.std.specs.Option.{option_copied}
use Rattle.ha_journal.specs.Moves.{latest_number, report_number}
use Rattle.ha_past.specs.Looks.{or_else}
use Rattle.ha_journal.proofs.HeldLaws.{latest-more}
use Rattle.trig_set.proofs.moved.latest_after.Goals as goal

pub returns-then-opens : goal.returns-then-opens
returns-then-opens c j since shows =
    let x = c.args.scene.now.entry.now in
    let e = c.args.entity.now in
    let name = option_copied c.args.attribute in
    sym (latest-more j x e name ∙ (λ i. if (sym c.opens.ensures ∙ c.if-opens.true) i then None else or_else (report_number e name x) (latest_number e name j)))

pub returns-in-Some : goal.returns-in-Some
returns-in-Some c j since shows =
    let x = c.args.scene.now.entry.now in
    let e = c.args.entity.now in
    let name = option_copied c.args.attribute in
    sym (latest-more j x e name ∙ (λ i. if (sym c.opens.ensures ∙ c.if-opens.false) i then None else or_else ((sym c.reported_number.ensures ∙ c.in-Some.is) i) (latest_number e name j)))

pub returns-in-None : goal.returns-in-None
returns-in-None c j since shows =
    let x = c.args.scene.now.entry.now in
    let e = c.args.entity.now in
    let name = option_copied c.args.attribute in
    c.latest.ensures ∙ shows.numbers e name
    ∙ sym (latest-more j x e name ∙ (λ i. if (sym c.opens.ensures ∙ c.if-opens.false) i then None else or_else ((sym c.reported_number.ensures ∙ c.in-None.is) i) (latest_number e name j)))
