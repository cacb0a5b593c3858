use Rattle.std.proofs.Common.{◌≡◌, ◌∙◌, ap, sym, subst, false}
use Rattle.std.specs.Prelude.{MatchOption, not, ◌&&◌}
use Rattle.std.specs.Option.{option_copied, option_map_or}
use Rattle.ha_config.specs.Numbers.{in_bounds}
use Rattle.ha_journal.specs.Moves.{report_number, latest_number}
use Rattle.ha_journal.specs.States.{states}
use Rattle.ha_journal.specs.Journal.{more}
use Rattle.trig_set.specs.Next.{reports}
use Rattle.trig_set.specs.Scenes.{face}
use Rattle.trig_set.proofs.OnLemmas.{ok-then}
use Rattle.trig_set.proofs.MovedLemmas.{unlisted-number, listed-number}
use Rattle.trig_set.proofs.moving.of_number.Goals as goal

pub returns : goal.returns
returns c =
    ok-then _ _ c.of_crossing.result
    (λ v is j since shows lt.
    let x = c.args.scene.now.entry.now in
    let e = c.args.entity.now in
    let t = c.args.trigger.now in
    let old = c.in-Some.shift.now.old in
    let new = c.in-Some.shift.now.new in
    let f = subst
    (λ o. MatchOption o ((states (more j x) e ≡ states j e) × (reports e x ≡ false)) (λ s. (face s.old ≡ face (states j e)) × (face s.new ≡ face (states (more j x) e))))
    (sym c.shift_of.ensures ∙ ap option_copied c.in-Some.is) (shows.shifts lt e) in
    is
    ∙ listed-number j x t e c.in-Numeric.entities c.in-Numeric.attribute c.in-Numeric.above c.in-Numeric.below c.in-Numeric.is _ old new
    (c.crosses-moves.ensures j since shows
    ∙ (λ i. option_map_or (in_bounds c.in-Numeric.above c.in-Numeric.below) (report_number e (c.as_ref.ensures.value i) x) false
    && not (option_map_or (in_bounds c.in-Numeric.above c.in-Numeric.below) (latest_number e (c.as_ref.ensures.value i) j) false)))
    f.0 f.1)
    c.of_crossing.ensures

pub returns-in_default-shift_of : goal.returns-in_default-shift_of
returns-in_default-shift_of c j since shows lt =
    let x = c.args.scene.now.entry.now in
    let e = c.args.entity.now in
    let f = subst
    (λ o. MatchOption o ((states (more j x) e ≡ states j e) × (reports e x ≡ false)) (λ s. (face s.old ≡ face (states j e)) × (face s.new ≡ face (states (more j x) e))))
    (sym c.shift_of.ensures ∙ ap option_copied c.in_default-shift_of.is) (shows.shifts lt e) in
    unlisted-number j x c.args.trigger.now e c.in-Numeric.entities c.in-Numeric.attribute c.in-Numeric.above c.in-Numeric.below c.in-Numeric.is f.1
