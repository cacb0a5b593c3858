use Rattle.std.proofs.Common.{◌≡◌, ◌∙◌, ◌<◌, false, sym, subst, ap, arith, length, get_or, filter, nat_eq, not}
use Rattle.std.specs.List.{list_any}
use Rattle.wait_set.specs.declared.asked.Asked.{Asked}
use Rattle.wait_set.specs.Asked.{is_of}
use Rattle.wait_set.specs.Runs.{AreUnlisted, has_pair}
use Rattle.wait_set.specs.Timers.{AreFound}
use Rattle.wait_set.proofs.CutLemmas.{any-cut}
use Rattle.wait_set.proofs.DropLemmas.{cut-same, found-cut, unlisted-cut, unlisted-same}
use Rattle.wait_set.proofs.TimedLemmas.{other-owner}
use Rattle.wait_set.proofs.waits.drop_next_ended.Goals as goal

pub returns-clause-rest : goal.returns-clause-rest
returns-clause-rest c =
    let place = c.next_place-at.result in
    let asks = c.args.asks.now.items in
    let lt : place < length asks = omega (arith, c.if-at-len.false, c.len.ensures) in
    (λ k. filter (λ b. not (is_of c.args.asked.now.ask.serial c.args.asked.now.ask.branch b)) (c.cut.ensures.items k))
    ∙ cut-same (λ b. not (is_of c.args.asked.now.ask.serial c.args.asked.now.ask.branch b)) place asks c.index.result.now lt c.index.ensures (ap not (sym c.is_of.ensures ∙ c.if-not-is_of.false))

pub returns-clause-found : goal.returns-clause-found
returns-clause-found c =
    let place = c.next_place-at.result in
    let asks = c.args.asks.now.items in
    let lt : place < length asks = omega (arith, c.if-at-len.false, c.len.ensures) in
    subst (λ xs. AreFound xs c.unlist.new.runs c.args.ordered) (sym c.cut.ensures.items)
    (found-cut place c.owner_in.result asks c.args.runs.now c.unlist.new.runs c.args.ordered lt
    (λ d. c.owner_in.ensures d ∙ (λ k. (get_or (c.as_slice-2.ensures.value k) place d).owner)) c.unlist.ensures.others c.requires.found)

pub returns-clause-others : goal.returns-clause-others
returns-clause-others c o none =
    let place = c.next_place-at.result in
    let asks = c.args.asks.now.items in
    let lt : place < length asks = omega (arith, c.if-at-len.false, c.len.ensures) in
    let x = c.index.result.now in
    let own : c.owner_in.result ≡ x.owner = c.owner_in.ensures x ∙ (λ k. (get_or (c.as_slice-2.ensures.value k) place x).owner) ∙ sym (ap (λ (a : Asked). a.owner) c.index.ensures) in (
      (λ k. list_any (λ a. nat_eq a.owner o) (c.cut.ensures.items k)) ∙ any-cut o place asks none,
      λ s. c.unlist.ensures.others s o ((λ k. nat_eq (own k) o) ∙ other-owner place asks x o lt c.index.ensures none),
    )

pub returns-clause-unlisted : goal.returns-clause-unlisted
returns-clause-unlisted c =
    let place = c.next_place-at.result in
    let asks = c.args.asks.now.items in
    let serial = c.args.asked.now.ask.serial in
    let old = c.args.runs.now in
    let new = c.unlist.new.runs in
    let lt : place < length asks = omega (arith, c.if-at-len.false, c.len.ensures) in
    subst (λ xs. AreUnlisted asks xs (has_pair old serial) (has_pair new serial)) (sym c.cut.ensures.items)
    (unlisted-cut place c.owner_in.result asks (has_pair old serial) (has_pair new serial) lt
    (λ d. c.owner_in.ensures d ∙ (λ k. (get_or (c.as_slice-2.ensures.value k) place d).owner))
    c.unlist.ensures.gone (c.unlist.ensures.others serial))

pub returns-then-at-len-clause-unlisted : goal.returns-then-at-len-clause-unlisted
returns-then-at-len-clause-unlisted c = unlisted-same c.args.asks.now.items (has_pair c.args.runs.now c.args.asked.now.ask.serial)

pub returns-then-not-is_of-clause-unlisted : goal.returns-then-not-is_of-clause-unlisted
returns-then-not-is_of-clause-unlisted c = unlisted-same c.args.asks.now.items (has_pair c.args.runs.now c.args.asked.now.ask.serial)
