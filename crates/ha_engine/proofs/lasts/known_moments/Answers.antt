use Rattle.std.proofs.Common.{◌∙◌, ◌++◌, ◌∷◌, [], ap, cond, sym, take, ℕ}
use Rattle.std.specs.Prelude.{is_some}
use Rattle.std.proofs.lemmas.List.Elements.{filter_more}
use Rattle.ha_config.specs.Names.{automation_named, of_automations}
use Rattle.ha_config.specs.Words.{Text}
use Rattle.ha_engine.proofs.lasts.known_moments.Goals as goal

pub moments-preserved : goal.moments-preserved
moments-preserved c =
    let all = c.args.automations.now in
    let keep = λ (p : Text × ℕ). is_some (automation_named all p.0) in
    let one : Text × ℕ = c.pair-item.result in
    c.in_ok-keep_known.ensures
    ∙ ap (λ kept. kept ++ cond (keep one) (one ∷ []) []) c.moments.invariant
    ∙ (λ i. of_automations all (take c.moments.pair-index c.args.last.now) ++ cond (keep (c.pair-item.is i)) (c.pair-item.is i ∷ []) [])
    ∙ sym (filter_more keep c.args.last.now c.moments.pair-index one c.moments-test.true)
