use Rattle.std.proofs.Common.{◌≡◌, ◌<◌, ◌∙◌, ◌++◌, ◌∷◌, ◌+◌, [], ap, arith, length, map, suc, sym, take}
use Rattle.std.proofs.lemmas.List.{take_all}
use Rattle.engine_parts.specs.Texts.{first_change}
use Rattle.engine_parts.proofs.TextLemmas.{map-next}
use Rattle.engine_parts.proofs.texts.first_all.Goals as goal

pub loop-place-preserved : goal.loop-place-preserved
loop-place-preserved c =
    let n = c.loop-place.place in
    let all = c.args.helpers.now in
    let d = c.index-helpers-place.result in
    let lt : n < length all = omega arith in
    c.in_ok-push_first.ensures
    ∙ (λ i. c.loop-place.invariant i ++ (first_change (c.index-helpers-place.is i) ∷ []))
    ∙ sym (map-next first_change d all n lt)
    ∙ (let q : suc n ≡ n + 1 = omega arith in λ i. map first_change (take (q i) all))

pub returns : goal.returns
returns c = c.loop-place.invariant ∙ ap (map first_change) (take_all c.loop-place.place c.args.helpers.now (omega arith))
