use Rattle.std.proofs.Common.{◌≡◌, map, true, false, true≢false, ap, refl, sym, subst, ◌∙◌}
use Rattle.std.specs.Prelude.{None}
use Rattle.ha_config.specs.declared.command.Cmd.{Cmd}
use Rattle.ha_config.specs.Fair.{IsPlain}
use Rattle.ha_journal.specs.declared.entry.Entry.{Entry}
use Rattle.ha_journal.specs.declared.entry.Entry.TheVariants.{Line}
use Rattle.ha_journal.specs.Entries.{gone_in, is_moment, is_restart, report_in}
use Rattle.ha_journal.specs.Helpers.{finished}
use Rattle.ha_journal.specs.Journal.{now, more}
use Rattle.ha_journal.proofs.MoreLemmas.{has-entry}
use Rattle.state_table.specs.Table.{at}
use Rattle.trig_set.specs.Next.{spares_helpers}
use Rattle.engine_parts.specs.Texts.{AreGiven, AreTold, idle_change}
use Rattle.engine_parts.proofs.TextLemmas.{moment-given, told-listed, told-stands}
use Rattle.engine_entry.proofs.EnterPlain.{line-outside, moment-now, not-anew, plain-entered}
use Rattle.engine_entry.proofs.enter.enter_moment.Goals as goal

pub returns-clause-entered : goal.returns-clause-entered
returns-clause-entered c k rs h is =
    let p = c.args.parts.now in
    let j = h.j in
    let x : Entry = Line h.source h.number h.cmd in
    let plain : IsPlain h.cmd = subst IsPlain (sym is) tt in
    let report : report_in x ≡ None = ap (λ (cmd : Cmd). report_in (Line h.source h.number cmd)) is in
    let gone : gone_in x ≡ None = ap (λ (cmd : Cmd). gone_in (Line h.source h.number cmd)) is in
    let moment : is_moment x ≡ true = ap (λ (cmd : Cmd). is_moment (Line h.source h.number cmd)) is in
    let restart : is_restart x ≡ false = ap (λ (cmd : Cmd). is_restart (Line h.source h.number cmd)) is in
    let unspared : spares_helpers x ≡ false = ap (λ (cmd : Cmd). spares_helpers (Line h.source h.number cmd)) is in
    let later = moment-now k rs p h c.args.at c.later-now.result is c.later-now.ensures in
    let at-now : c.later-now.result ≡ now (more j x) = later.0 ∙ ap (λ (cmd : Cmd). now (more j (Line h.source h.number cmd))) (sym is) in
    let some = has-entry j h.right.journal in
    let old = h.kept.going.sees in
    let cs = c.as_slice-idle.result.now in
    let cs-are : cs ≡ map idle_change (finished j x)
    = c.as_slice-idle.ensures ∙ c.in_ok-changes.ensures ∙ ap (map idle_change) (c.as_slice-ended.ensures ∙ c.in_ok-finished.ensures.finish j x old.helpers_stand moment at-now) in
    let given : AreGiven j x cs = subst (AreGiven j x) (sym cs-are) (moment-given j x some refl moment refl) in
    let told : AreTold (now (more j x)) (at p.states) cs c.tell_all.new.states c.in_ok-before.before = subst (λ n. AreTold n (at p.states) cs c.tell_all.new.states c.in_ok-before.before) at-now c.in_ok-before.ensures in
    let outside = line-outside k rs p h plain in
    plain-entered k rs p h plain c.tell_all.new.states c.pass.new.self c.in_ok-events.events c.later-now.result c.in_ok-before.before
    (told-stands j x some cs given outside report gone restart (not-anew k rs p h plain) p.states c.tell_all.new.states c.in_ok-before.before old.looks.states_stand told)
    (c.in_ok-finished.ensures.stands j x some old.helpers_stand refl moment at-now)
    (c.in_ok-events.ensures ∙ given.events) at-now later.1
    (told-listed j x some cs given outside report gone restart (not-anew k rs p h plain) p.states c.tell_all.new.states c.in_ok-before.before old.looks.states_stand told)
    (λ spared. absurd (true≢false (sym spared ∙ unspared)))
