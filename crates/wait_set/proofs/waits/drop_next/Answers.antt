use Rattle.std.proofs.Common.{◌∙◌, ◌<◌, sym, subst, ap, arith, is_some, length, get_or, nat_eq, not}
use Rattle.wait_set.specs.Asked.{without_run}
use Rattle.wait_set.specs.Readers.{is_reader}
use Rattle.wait_set.specs.Runs.{AreUnlisted, has_pair}
use Rattle.wait_set.specs.Timers.{AreKept}
use Rattle.wait_set.proofs.DropLemmas.{cut-other, kept-cut, unlisted-cut, unlisted-same}
use Rattle.wait_set.proofs.waits.drop_next.Goals as goal

pub returns-clause-rest : goal.returns-clause-rest
returns-clause-rest c =
    let place = c.next_place-at.result in
    let asks = c.args.asks.now.items in
    let lt : place < length asks = omega (arith, c.if-at-len.false, c.len.ensures) in
    let len = ap length c.as_slice.ensures.value in
    ap (without_run c.args.serial) c.cut.ensures.items
    ∙ cut-other (λ a. not (nat_eq a.ask.serial c.args.serial)) place asks lt
    (λ d. (λ k. not (nat_eq (get_or (sym c.as_slice.ensures.value k) place d).ask.serial c.args.serial)) ∙ ap not (c.next_place-at.ensures.of_run d (omega (arith, lt, len))))

pub returns-clause-kept : goal.returns-clause-kept
returns-clause-kept c =
    let place = c.next_place-at.result in
    let asks = c.args.asks.now.items in
    let old = c.args.pending.now in
    let new = c.settle.new.pending in
    let runs = c.unlist.new.runs in
    let lt : place < length asks = omega (arith, c.if-at-len.false, c.len.ensures) in
    subst (λ xs. AreKept xs new.timers new.readers runs c.args.ordered) (sym c.cut.ensures.items)
    (kept-cut place c.owner_in-owner.result asks old.timers new.timers old.readers new.readers old.runs runs c.args.ordered lt
    (λ d. c.owner_in-owner.ensures d ∙ (λ k. (get_or (c.as_slice-2.ensures.value k) place d).owner))
    c.settle.ensures.timers c.settle.ensures.readers (λ s n other. c.unlist.ensures.others s n other ∙ (λ k. has_pair (c.settle.ensures.runs k) s n)) c.requires.kept)

pub returns-clause-unlisted : goal.returns-clause-unlisted
returns-clause-unlisted c =
    let place = c.next_place-at.result in
    let asks = c.args.asks.now.items in
    let serial = c.args.serial in
    let old = c.args.pending.now.runs in
    let new = c.unlist.new.runs in
    let lt : place < length asks = omega (arith, c.if-at-len.false, c.len.ensures) in
    subst (λ xs. AreUnlisted asks xs (has_pair old serial) (has_pair new serial)) (sym c.cut.ensures.items)
    (unlisted-cut place c.owner_in-owner.result asks (has_pair old serial) (has_pair new serial) lt
    (λ d. c.owner_in-owner.ensures d ∙ (λ k. (get_or (c.as_slice-2.ensures.value k) place d).owner))
    c.unlist.ensures.gone (λ o other. c.unlist.ensures.others serial o other ∙ (λ k. has_pair (c.settle.ensures.runs k) serial o)))

pub returns-clause-settled : goal.returns-clause-settled
returns-clause-settled c =
    let place = c.next_place-at.result in
    let asks = c.args.asks.now.items in
    let old = c.args.pending.now.readers in
    let new = c.settle.new.pending.readers in
    let lt : place < length asks = omega (arith, c.if-at-len.false, c.len.ensures) in
    subst (λ xs. AreUnlisted asks xs (is_reader old) (is_reader new)) (sym c.cut.ensures.items)
    (unlisted-cut place c.owner_in-owner.result asks (is_reader old) (is_reader new) lt
    (λ d. c.owner_in-owner.ensures d ∙ (λ k. (get_or (c.as_slice-2.ensures.value k) place d).owner))
    (ap is_some c.settle.ensures.gone) (λ o other. ap is_some (c.settle.ensures.readers o other)))

pub returns-then-at-len-clause-unlisted : goal.returns-then-at-len-clause-unlisted
returns-then-at-len-clause-unlisted c = unlisted-same c.args.asks.now.items (has_pair c.args.pending.now.runs c.args.serial)

pub returns-then-at-len-clause-settled : goal.returns-then-at-len-clause-settled
returns-then-at-len-clause-settled c = unlisted-same c.args.asks.now.items (is_reader c.args.pending.now.readers)
