use Rattle.std.proofs.Common.{◌≡◌, ◌∙◌, ap, sym, subst, false}
use Rattle.std.specs.Prelude.{MatchOption}
use Rattle.std.specs.Option.{option_copied}
use Rattle.ha_journal.specs.States.{states}
use Rattle.ha_journal.specs.Journal.{more}
use Rattle.trig_state.specs.States.{rule_stays}
use Rattle.trig_set.specs.Next.{reports}
use Rattle.trig_set.specs.Scenes.{face}
use Rattle.trig_set.proofs.MovedLemmas.{unlisted-stays, listed-stays}
use Rattle.trig_set.proofs.moved.state_stays_in.Goals as goal

pub returns-in-Some : goal.returns-in-Some
returns-in-Some c j since shows lt =
    let x = c.args.scene.now.entry.now in
    let e = c.args.entity.now in
    let f = subst
    (λ o. MatchOption o ((states (more j x) e ≡ states j e) × (reports e x ≡ false)) (λ s. (face s.old ≡ face (states j e)) × (face s.new ≡ face (states (more j x) e))))
    (sym c.shift_of.ensures ∙ ap option_copied c.in-Some.is) (shows.shifts lt e) in
    c.state_stays.ensures ∙ (λ i. rule_stays c.args.rule.now (c.as_ref.ensures.value i) (c.as_ref-in-Some.ensures.value i))
    ∙ listed-stays j x c.args.rule.now e c.requires c.in-Some.shift.now.old c.in-Some.shift.now.new f.0 f.1

pub returns-in-None : goal.returns-in-None
returns-in-None c j since shows lt =
    let x = c.args.scene.now.entry.now in
    let e = c.args.entity.now in
    let f = subst
    (λ o. MatchOption o ((states (more j x) e ≡ states j e) × (reports e x ≡ false)) (λ s. (face s.old ≡ face (states j e)) × (face s.new ≡ face (states (more j x) e))))
    (sym c.shift_of.ensures ∙ ap option_copied c.in-None.is) (shows.shifts lt e) in
    unlisted-stays j x c.args.rule.now e c.requires f.0
