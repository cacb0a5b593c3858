use Rattle.std.proofs.Common.{length, map, ◌≡◌, ◌∙◌, ◌+◌, ◌*◌, ◌<◌, ◌≤◌, sym, ap, subst, arith, rules, true, List, ◌∷◌, ℕ, Some, insert}
use Rattle.std.proofs.lemmas.List.Edits.{length-remove}
use Rattle.ha_config.specs.declared.config.Action.{Action}
use Rattle.script_step.specs.declared.strand.Strand.{Strand}
use Rattle.script_step.specs.Continuation.{last_action, lists_of, may_step}
use Rattle.script_step.specs.Step.{IsStep, IsSide}
use Rattle.script_step.proofs.StepLemmas.{may-inner, may-ready, may-wait, step-ready, step-wait, step-sides, side-done, put-back, within}
use Rattle.std.specs.Prelude.{nat_eq}
use Rattle.script_step.specs.Sides.{all_settled, standing, is_settled, stage_settled}
use Rattle.script_step.proofs.WholeLemmas.{plain-whole, whole-lists, whole-sides, strand-stands, settled-set, settled-get, set-many}
use Rattle.ha_sight.specs.Scripts.{Branch}
use Rattle.script_step.specs.declared.strand.Stage.TheVariants.{Sides}
use Rattle.script_step.specs.Continuation.{Began, placed}
use Rattle.script_step.specs.Gates.{Fronts, Gate, fronts, fronts_from, fronts_on, gate_at}
use Rattle.script_step.specs.Told.{Tells}
use Rattle.script_step.proofs.StepTold.{block-told, fronts-of-sides, fronts-sides, own-told, plain-fresh, ready-told, side-told}
use Rattle.script_step.proofs.step.+step.Goals as goal

pub step-returns-in_ok-item-in-Ready-clause-step : goal.step-returns-in_ok-item-in-Ready-clause-step
step-returns-in_ok-item-in-Ready-clause-step g t c =
    let sight = g.A.Answers.sight c.args.answers.now in
    let may = may-ready c.args.strand c.args.list.now c.args.path.now sight.now c.args.end c.requires.may c.in-Ready.is in
    step-ready sight c.args.list.now c.args.path.now c.args.end c.args.strand c.behind.result c.advance.new.thread c.in_ok-item-in-Ready.stage c.behind.ensures.means
    c.in_ok-item-in-Ready.item c.in-Ready.is may.0 c.in_ok-item-in-Ready.ensures.step

pub step-returns-in_ok-stage-in-Some-clause-step : goal.step-returns-in_ok-stage-in-Some-clause-step
step-returns-in_ok-stage-in-Some-clause-step g t c =
    let sight = g.A.Answers.sight c.args.answers.now in
    let may = may-wait c.args.strand c.args.list.now c.args.path.now sight.now c.args.end c.requires.may c.in-Wait.field-0 c.in-Wait.is in
    step-wait sight c.args.list.now c.args.path.now c.args.end c.args.strand c.behind-in-Some.result c.in-Wait.field-0 c.in-Some.end c.end_wait.new.thread c.in_ok-stage-in-Some.stage
    c.in-Wait.is may.0 c.in-Some.is c.in_ok-stage-in-Some.ensures.waited c.behind-in-Some.ensures.means

pub step-returns-in_ok-strands-in-Sides-clause-step : goal.step-returns-in_ok-strands-in-Sides-clause-step
step-returns-in_ok-strands-in-Sides-clause-step g t c =
    let sight = g.A.Answers.sight c.args.answers.now in
    step-sides sight c.args.list.now c.args.path.now c.args.end c.args.strand c.behind-in-Sides.result c.in_ok-strands-in-Sides.item c.in-Sides.strands c.in_ok-strands-in-Sides.strands
    c.in-Sides.is c.in_ok-strands-in-Sides.ensures.step c.behind-in-Sides.ensures.means

pub step_side-step-requires : goal.step_side-step-requires
step_side-step-requires g t c κs lives =
    let sight = g.A.Answers.sight c.args.answers.now in
    let lists = lists_of (last_action c.args.list.now c.args.thread.now) in
    let i = c.in-Some.first.now in
    let rest = c.in-Some.rest.now in
    let inner = c.remove-inner.result in
    let path_is = c.in-Some.ensures.cases.0 in
    let measure : 2 * length c.args.path.now ≡ t = c.decreases in
    let less : 2 * length rest + 1 < t = omega (arith, measure, ap length path_is) in
    let may : may_step inner c.side_list.result.now rest sight.now c.args.end ≡ true =
    (λ k. may_step inner (c.side_list.ensures k) rest sight.now c.args.end)
    ∙ may-inner c.args.strands lists c.args.path.now rest i sight.now c.args.end inner path_is c.requires.may c.remove-inner.ensures.item in
    (less, (search rules, (may, c.requires.moment)))

pub step_side-insert-requires : goal.step_side-insert-requires
step_side-insert-requires g t c =
    let i = c.in-Some.first.now in
    let lt = within c.args.strands i c.remove-inner.result c.remove-inner.ensures.item in
    let room : i ≤ length c.remove-inner.new.self = omega (arith, lt, length-remove c.args.strands i lt, ap length c.remove-inner.ensures.rest) in
    room

pub step_side-returns-clause-step : goal.step_side-returns-clause-step
step_side-returns-clause-step g t c =
    let sight = g.A.Answers.sight c.args.answers.now in
    let lists = lists_of (last_action c.args.list.now c.args.thread.now) in
    let i = c.in-Some.first.now in
    let old = c.args.strands in
    let inner = c.remove-inner.result in
    let new = c.in_ok-inner.inner in
    let item = c.in_ok-inner.item in
    let get = c.remove-inner.ensures.item in
    let step = subst (λ (l : List Action). IsStep sight l c.in-Some.rest.now c.args.end inner item new) c.side_list.ensures c.in_ok-inner.ensures.step in
    let put = c.in_ok-insert.ensures.ok ∙ ap (λ l. insert l i new) c.remove-inner.ensures.rest ∙ put-back old i new (within old i inner get) in
    subst (λ (l : List Strand). IsSide sight lists c.args.path.now c.args.end old item l) (sym put)
    (side-done sight lists c.args.path.now c.in-Some.rest.now i c.args.end old inner new item c.in-Some.ensures.cases.0 get step)

pub step-returns-in_ok-item-in-Ready-clause-settled : goal.step-returns-in_ok-item-in-Ready-clause-settled
step-returns-in_ok-item-in-Ready-clause-settled g t c = λ settled. c.behind.ensures.settled c.in_ok-item-in-Ready.ensures.whole

pub step-returns-in_ok-stage-in-Some-clause-settled : goal.step-returns-in_ok-stage-in-Some-clause-settled
step-returns-in_ok-stage-in-Some-clause-settled g t c = λ settled.
    c.behind-in-Some.ensures.settled (plain-whole c.in_ok-stage-in-Some.stage c.args.list.now c.end_wait.new.thread c.in_ok-stage-in-Some.ensures.plain)

pub step-returns-in_ok-strands-in-Sides-clause-settled : goal.step-returns-in_ok-strands-in-Sides-clause-settled
step-returns-in_ok-strands-in-Sides-clause-settled g t c = λ settled.
    let list = c.args.list.now in
    let th = c.args.strand.thread in
    let lists = lists_of (last_action list th) in
    let known = whole-lists list th c.in-Sides.strands
    ((λ i. stage_settled (sym c.in-Sides.is i) list th) ∙ ap (λ z. z.settled) (sym (strand-stands c.args.strand list)) ∙ settled) in
    c.behind-in-Sides.ensures.settled
    (whole-sides list th c.in_ok-strands-in-Sides.strands
    ((λ i. nat_eq (c.in_ok-strands-in-Sides.ensures.many i) (length lists)) ∙ known.0)
    (c.in_ok-strands-in-Sides.ensures.settled known.1))

pub step_side-returns-clause-many : goal.step_side-returns-clause-many
step_side-returns-clause-many g t c =
    let i = c.in-Some.first.now in
    let old = c.args.strands in
    let new = c.in_ok-inner.inner in
    let put = c.in_ok-insert.ensures.ok ∙ ap (λ l. insert l i new) c.remove-inner.ensures.rest ∙ put-back old i new (within old i c.remove-inner.result c.remove-inner.ensures.item) in
    ap length put ∙ set-many old i new

pub step_side-returns-clause-settled : goal.step_side-returns-clause-settled
step_side-returns-clause-settled g t c = λ all.
    let i = c.in-Some.first.now in
    let old = c.args.strands in
    let inner = c.remove-inner.result in
    let new = c.in_ok-inner.inner in
    let get = c.remove-inner.ensures.item in
    let lists = lists_of (last_action c.args.list.now c.args.thread.now) in
    let put = c.in_ok-insert.ensures.ok ∙ ap (λ l. insert l i new) c.remove-inner.ensures.rest ∙ put-back old i new (within old i inner get) in
    let one = (λ j. is_settled (sym c.side_list.ensures j) new) ∙ c.in_ok-inner.ensures.settled ((λ j. is_settled (c.side_list.ensures j) inner) ∙ settled-get old i lists inner all get) in
    (λ j. all_settled 0 (map standing (put j)) lists) ∙ settled-set old i lists new all one

pub step-returns-in_ok-item-in-Ready-clause-told : goal.step-returns-in_ok-item-in-Ready-clause-told
step-returns-in_ok-item-in-Ready-clause-told g t c = λ began n b gate e.
    let sight = g.A.Answers.sight c.args.answers.now in
    let list = c.args.list.now in
    let path = c.args.path.now in
    let may = may-ready c.args.strand list path sight.now c.args.end c.requires.may c.in-Ready.is in
    own-told path b gate (fronts c.args.strand list began) c.in_ok-item-in-Ready.stage list c.advance.new.thread (placed path n began) may.0 c.in_ok-item-in-Ready.ensures.fresh
    (c.behind.ensures.told (placed path n began) b gate e)

pub step-returns-in-Delay-clause-told : goal.step-returns-in-Delay-clause-told
step-returns-in-Delay-clause-told g t c = λ began n b gate e.
    let list = c.args.list.now in
    let path = c.args.path.now in
    ready-told path b gate (fronts c.args.strand list began) list c.args.strand.thread (placed path n began) (c.behind-in-Delay.ensures.told (placed path n began) b gate e)

pub step-returns-in_ok-stage-in-Some-clause-told : goal.step-returns-in_ok-stage-in-Some-clause-told
step-returns-in_ok-stage-in-Some-clause-told g t c = λ began n b gate e.
    let sight = g.A.Answers.sight c.args.answers.now in
    let list = c.args.list.now in
    let path = c.args.path.now in
    let may = may-wait c.args.strand list path sight.now c.args.end c.requires.may c.in-Wait.field-0 c.in-Wait.is in
    own-told path b gate (fronts c.args.strand list began) c.in_ok-stage-in-Some.stage list c.end_wait.new.thread (placed path n began) may.0
    (plain-fresh c.in_ok-stage-in-Some.stage c.in_ok-stage-in-Some.ensures.plain) (c.behind-in-Some.ensures.told (placed path n began) b gate e)

pub step-returns-in_ok-strands-in-Sides-clause-told : goal.step-returns-in_ok-strands-in-Sides-clause-told
step-returns-in_ok-strands-in-Sides-clause-told g t c = λ began n b gate e.
    let list = c.args.list.now in
    let path = c.args.path.now in
    let old = c.in-Sides.strands in
    let new = c.in_ok-strands-in-Sides.strands in
    let th = c.args.strand.thread in
    let lists = lists_of (last_action list th) in
    subst (λ (o : Fronts). Tells path o b gate) (sym (fronts-of-sides c.args.strand list old began c.in-Sides.is))
    (block-told path b gate (fronts_from 0 (map fronts old) lists began) (fronts_on (Sides new) list th (placed path n began))
    (λ h. c.in_ok-strands-in-Sides.ensures.told began n b gate (sym (ap (gate_at b) (fronts-sides new list th (placed path n began))) ∙ h))
    (c.behind-in-Sides.ensures.told (placed path n began) b gate e))

pub step_side-returns-clause-told : goal.step_side-returns-clause-told
step_side-returns-clause-told g t c = λ began n b gate e.
    let i = c.in-Some.first.now in
    let rest = c.in-Some.rest.now in
    let old = c.args.strands in
    let inner = c.remove-inner.result in
    let new = c.in_ok-inner.inner in
    let get = c.remove-inner.ensures.item in
    let lists = lists_of (last_action c.args.list.now c.args.thread.now) in
    let put = c.in_ok-insert.ensures.ok ∙ ap (λ l. insert l i new) c.remove-inner.ensures.rest ∙ put-back old i new (within old i inner get) in
    let told = subst (λ (l : List Action). (bg : Began) (m : ℕ) (d : Branch) (q : Gate) → gate_at d (fronts new l (placed rest m bg)) ≡ Some q → Tells rest (fronts inner l bg) d q)
    c.side_list.ensures c.in_ok-inner.ensures.told in
    let path_is = c.in-Some.ensures.cases.0 in
    subst (λ (p : Branch). Tells p (fronts_from 0 (map fronts old) lists began) b gate) (sym path_is)
    (side-told lists i n rest old inner new get began (told (λ d. began (i ∷ d)) n) b gate
    ((λ k. gate_at b (fronts_from 0 (map fronts (sym put k)) lists (placed (sym path_is k) n began))) ∙ e))
