use Rattle.std.proofs.Common.{◌≡◌, ◌∙◌, ◌∷◌, ◌++◌, [], ap, sym, subst, None, Some, false}
use Rattle.std.specs.Prelude.{MatchOption, codes, is_some, if◌then◌else◌}
use Rattle.std.specs.Option.{option_copied}
use Rattle.ha_value.specs.declared.value.Value.{Value}
use Rattle.ha_value.specs.declared.value.Value.TheVariants.{Pairs as Map}
use Rattle.ha_value.specs.Ids.{entity_text}
use Rattle.ha_journal.specs.States.{states}
use Rattle.ha_journal.specs.Journal.{more}
use Rattle.ha_sight.specs.Rules.{head_pairs, state_value, text_or_null}
use Rattle.trig_state.specs.States.{rule_moves}
use Rattle.trig_set.specs.Next.{reports}
use Rattle.trig_set.specs.Scenes.{face}
use Rattle.trig_set.proofs.OnLemmas.{ok-then}
use Rattle.trig_set.proofs.MovedLemmas.{unlisted-moves, listed-moves}
use Rattle.trig_set.proofs.moving.of_state.Goals as goal

pub returns : goal.returns
returns c =
    ok-then _ _ c.of_shift.result
    (λ v is j since shows lt.
    let x = c.args.scene.now.entry.now in
    let e = c.args.entity.now in
    let t = c.args.trigger.now in
    let old = c.in-Some.shift.now.old in
    let new = c.in-Some.shift.now.new in
    let f = subst
    (λ o. MatchOption o ((states (more j x) e ≡ states j e) × (reports e x ≡ false)) (λ s. (face s.old ≡ face (states j e)) × (face s.new ≡ face (states (more j x) e))))
    (sym c.shift_of.ensures ∙ ap option_copied c.in-Some.is) (shows.shifts lt e) in
    is
    ∙ (λ i. if rule_moves (c.in-State.is i) (is_some t.hold) old new then Some (Map (head_pairs (codes "state") t ++ ((codes "entity_id", Value.Text (entity_text e)) ∷ (codes "from_state", state_value e old) ∷ (codes "to_state", state_value e new) ∷ (codes "attribute", text_or_null c.in-State.attribute) ∷ []))) else None)
    ∙ listed-moves j x t e c.in-State.entities c.in-State.attribute c.in-State.from c.in-State.to c.in-State.is old new f.0 f.1)
    c.of_shift.ensures

pub returns-in_default-shift_of : goal.returns-in_default-shift_of
returns-in_default-shift_of c j since shows lt =
    let x = c.args.scene.now.entry.now in
    let e = c.args.entity.now in
    let f = subst
    (λ o. MatchOption o ((states (more j x) e ≡ states j e) × (reports e x ≡ false)) (λ s. (face s.old ≡ face (states j e)) × (face s.new ≡ face (states (more j x) e))))
    (sym c.shift_of.ensures ∙ ap option_copied c.in_default-shift_of.is) (shows.shifts lt e) in
    unlisted-moves j x c.args.trigger.now e c.in-State.entities c.in-State.attribute c.in-State.from c.in-State.to c.in-State.is f.0
