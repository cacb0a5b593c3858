use Rattle.std.proofs.Common.{◌≡◌, ◌<◌, ◌∙◌, sym, ap, arith, length, ◌++◌, ◌∷◌, [], map, eqb-true}
use Rattle.std.proofs.lemmas.Result.{on_ok_weaker}
use Rattle.script_step.specs.Few.{has_few_lists}
use Rattle.script_step.specs.Continuation.{last_action, lists_of}
use Rattle.script_step.specs.Ready.{readies, readies_from}
use Rattle.script_step.specs.Sides.{all_settled, is_settled, stage_settled, standing}
use Rattle.script_step.proofs.EachLemmas.{get-at}
use Rattle.script_step.proofs.FewLemmas.{few-lists, few-side}
use Rattle.script_step.proofs.FrontLemmas.{readies-sides}
use Rattle.script_step.proofs.ReadyLemmas.{ready-next}
use Rattle.script_step.proofs.WholeLemmas.{settled-get, strand-stands, whole-lists}
use Rattle.script_step.proofs.listing.+listing.Goals as goal

pub add_sides-loop-i-preserved : goal.add_sides-loop-i-preserved
add_sides-loop-i-preserved g t c = λ small few settled.
    let ends = g.E.Ended.ends c.args.ended.now c.args.serial in
    let branch = c.args.branch.now in
    let i = c.loop-i.i in
    let x = c.index-strands-i.result in
    let list = c.args.list.now in
    let th = c.args.thread.now in
    let lists = lists_of (last_action list th) in
    let number : c.number_of.result ≡ i = c.number_of.ensures (omega (arith, small, c.loop-i-test.true)) in
    let below : c.in_ok-below.below ≡ branch ++ (i ∷ []) = c.in_ok-below.ensures ∙ (λ k. branch ++ (number k ∷ [])) in
    let own_few = ap has_few_lists c.side_list.ensures ∙ few-side list th i few in
    let own_settled = (λ k. is_settled (c.side_list.ensures k) x) ∙ settled-get c.args.strands.now i lists x settled (get-at c.args.strands.now i x c.loop-i-test.true c.index-strands-i.is) in
    ready-next c.args.strands.now i x branch lists c.args.now ends _ c.loop-i.found c.add_ready.new.found c.loop-i-test.true c.index-strands-i.is
    (c.loop-i.invariant small few settled)
    (c.in_ok-add_ready.ensures own_few own_settled ∙ (λ k. c.loop-i.found ++ map (λ d. below k ++ d) (readies x (c.side_list.ensures k) c.args.now (λ d. ends (below k ++ d)))))

pub add_ready-returns-in-Sides : goal.add_ready-returns-in-Sides
add_ready-returns-in-Sides g t c = λ few settled.
    let list = c.args.list.now in
    let x = c.args.strand.now in
    let known = whole-lists list x.thread c.in-Sides.strands
    ((λ i. stage_settled (sym c.in-Sides.is i) list x.thread) ∙ ap (λ z. z.settled) (sym (strand-stands x list)) ∙ settled) in
    let many : length c.in-Sides.strands ≡ length (lists_of (last_action list x.thread)) = eqb-true _ _ known.0 in
    let small : length c.as_slice.result.now < 4_294_967_296 = omega (arith, many, few-lists list x.thread few, ap length c.as_slice.ensures) in
    let all = (λ k. all_settled 0 (map standing (c.as_slice.ensures k)) (lists_of (last_action list x.thread))) ∙ known.1 in
    let ends = g.E.Ended.ends c.args.ended.now c.args.serial in
    let branch = c.args.branch.now in
    let lists = lists_of (last_action list x.thread) in
    on_ok_weaker c.add_sides.result
    (λ e. e
    ∙ (λ k. c.args.found.now ++ map (λ d. branch ++ d) (readies_from 0 (map readies (c.as_slice.ensures k)) lists c.args.now (λ d. ends (branch ++ d))))
    ∙ ap (λ l. c.args.found.now ++ map (λ d. branch ++ d) l) (sym (readies-sides x c.in-Sides.strands list c.args.now (λ d. ends (branch ++ d)) c.in-Sides.is)))
    (c.add_sides.ensures small few all)
