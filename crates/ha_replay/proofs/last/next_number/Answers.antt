use Rattle.std.proofs.Common.{◌≡◌, ◌∙◌, ◌-◌, ◌+◌, ◌<◌, suc, ap, sym, arith, length, get_or}
use Rattle.std.specs.Prelude.{None, Some}
use Rattle.std.proofs.lemmas.List.Sums.{count_by-le-length}
use Rattle.ha_model.specs.Lawful.{is_line_of}
use Rattle.ha_replay.specs.Steps.{line_by}
use Rattle.ha_replay.proofs.LastLemmas.{Said, none-at-all, none-before, said-at}
use Rattle.ha_replay.proofs.last.next_number.Goals as goal

said : (c : goal.Else-shuts) → Said c.args.source c.in-Some.number c.in-Some.shuts c.args.journal.now
said c =
    let j = c.args.journal.now in
    let x = c.index-journal-journal.result in
    let a = length j - 1 - c.loop-i.i in
    let within : a < length j = omega (arith, c.loop-i-test.true) in
    let next : length j - c.loop-i.i ≡ suc a = omega (arith, c.loop-i-test.true) in
    let found : line_by c.args.source (get_or j a x) ≡ Some (c.in-Some.number, c.in-Some.shuts) = ap (line_by c.args.source) (sym c.index-journal-journal.is) ∙ sym c.line_by.ensures ∙ c.in-Some.is in
    said-at c.requires.lawful.0 c.args.source c.in-Some.number c.in-Some.shuts j a (length j - c.loop-i.i) x within next c.requires.lawful.1.turns found c.loop-i.invariant

pub overflow_add-result : goal.overflow_add-result
overflow_add-result c =
    let next = (said c).next in
    let most = count_by-le-length (is_line_of c.args.source) c.args.journal.now in
    omega (arith, next, most, c.requires.size)

pub returns-else-shuts-clause-next : goal.returns-else-shuts-clause-next
returns-else-shuts-clause-next c = (sym (said c).next, (said c).shut_is ∙ c.if-shuts.false)

pub returns-clause-next : goal.returns-clause-next
returns-clause-next c = none-at-all c.args.source c.args.journal.now (length c.args.journal.now - c.loop-i.i) (omega (arith, c.loop-i-test.false)) c.loop-i.invariant

pub loop-i-preserved : goal.loop-i-preserved
loop-i-preserved c =
    let j = c.args.journal.now in
    let x = c.index-journal-journal.result in
    let a = length j - (c.loop-i.i + 1) in
    let place : length j - 1 - c.loop-i.i ≡ a = omega (arith, c.loop-i-test.true) in
    let within : a < length j = omega (arith, c.loop-i-test.true) in
    let next : length j - c.loop-i.i ≡ suc a = omega (arith, c.loop-i-test.true) in
    let none : line_by c.args.source (get_or j a x) ≡ None = (λ i. line_by c.args.source (get_or j (sym place i) x)) ∙ ap (line_by c.args.source) (sym c.index-journal-journal.is) ∙ sym c.line_by.ensures ∙ c.in_default.is in
    none-before c.args.source j a (length j - c.loop-i.i) x within next none c.loop-i.invariant
