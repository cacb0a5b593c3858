use Rattle.std.proofs.Common.{◌≡◌, ℕ, List, ap, subst, sym, ◌∙◌}
use Rattle.engine_parts.specs.declared.parts.Parts.{Parts}
use Rattle.segment_view.specs.Views.{IsShown}
use Rattle.engine_entry.proofs.TurnedParts.{next-done, next-known, next-shown, next-turns}
use Rattle.engine_entry.proofs.turn.turn_all.Goals as goal

pub rule_of-rule-requires : goal.rule_of-rule-requires
rule_of-rule-requires c =
    let h = c.requires in
    let same : c.targets.parts.numbers ≡ c.args.parts.now.numbers = ap (λ (q : Parts). q.numbers) c.targets.invariant.rest in (
      h.j,
      subst (λ (l : List ℕ). IsShown h.j c.args.config.now l) (sym (c.as_slice.ensures ∙ same)) (next-shown c.args.config.now c.args.targets.now c.args.place c.args.parts.now c.args.before.now h c.targets.at c.targets-test.true),
      next-known c.args.config.now c.args.targets.now c.args.place c.args.parts.now c.args.before.now h c.targets.at c.targets-test.true,
    )

pub turn-requires : goal.turn-requires
turn-requires c =
    let h = c.requires in
    let same : c.targets.parts.numbers ≡ c.args.parts.now.numbers = ap (λ (q : Parts). q.numbers) c.targets.invariant.rest in
    next-turns c.args.config.now c.args.targets.now c.args.place c.args.parts.now c.args.before.now h c.targets.at c.targets-test.true c.targets.parts c.targets.before (c.targets.invariant.turned h)
    c.rule_of-rule.result.now
    (c.rule_of-rule.ensures h.j (subst (λ (l : List ℕ). IsShown h.j c.args.config.now l) (sym (c.as_slice.ensures ∙ same)) (next-shown c.args.config.now c.args.targets.now c.args.place c.args.parts.now c.args.before.now h c.targets.at c.targets-test.true))
    (next-known c.args.config.now c.args.targets.now c.args.place c.args.parts.now c.args.before.now h c.targets.at c.targets-test.true))

pub targets-preserved : goal.targets-preserved
targets-preserved c =
    let same : c.targets.parts.numbers ≡ c.args.parts.now.numbers = ap (λ (q : Parts). q.numbers) c.targets.invariant.rest in
    record {
      turned = λ h.
          (next-done c.args.config.now c.args.targets.now c.args.place c.args.parts.now c.args.before.now h c.targets.at c.targets-test.true c.turn.new.parts c.turn.new.before
          (c.in_ok-turn.ensures.turned
          (next-turns c.args.config.now c.args.targets.now c.args.place c.args.parts.now c.args.before.now h c.targets.at c.targets-test.true c.targets.parts c.targets.before (c.targets.invariant.turned h)
          c.rule_of-rule.result.now
          (c.rule_of-rule.ensures h.j (subst (λ (l : List ℕ). IsShown h.j c.args.config.now l) (sym (c.as_slice.ensures ∙ same)) (next-shown c.args.config.now c.args.targets.now c.args.place c.args.parts.now c.args.before.now h c.targets.at c.targets-test.true))
          (next-known c.args.config.now c.args.targets.now c.args.place c.args.parts.now c.args.before.now h c.targets.at c.targets-test.true)))));
      rest = c.in_ok-turn.ensures.rest ∙ (λ i. record (c.targets.invariant.rest i) { states = c.turn.new.parts.states; switches = c.turn.new.parts.switches; triggers = c.turn.new.parts.triggers; changed = c.turn.new.parts.changed });
      below = λ n le h. c.in_ok-turn.ensures.below n le (c.targets.invariant.below n le h);
    }
