use Rattle.std.proofs.Common.{◌≡◌, ◌∙◌, ◌++◌, ◌∷◌, [], true, false, sym, ap, refl, subst, arith, append-nil}
use Rattle.wait_set.specs.Timers.{AreKept}
use Rattle.wait_set.proofs.KeptLemmas.{asking-kept, kept-ended, kept-noted, set-read}
use Rattle.wait_set.proofs.NotedLemmas.{none-ends, none-noted, one-ends, set-noted}
use Rattle.wait_set.proofs.OnLemmas.{on-any, on-then}
use Rattle.wait_set.proofs.TimedLemmas.{due-kept, ends-none, ends-some, stays-some}
use Rattle.wait_set.proofs.note.note_at.Goals as goal

pub returns-then-at-len-clause-ok : goal.returns-then-at-len-clause-ok
returns-then-at-len-clause-ok g c =
    sym (none-noted c.args.place (g.A.Answers.sight c.args.answers.now) c.args.fired.now c.args.at c.args.asks.now.items (omega (arith, c.if-at-len.true, c.len.ensures)))

pub returns-then-at-len-clause-fresh : goal.returns-then-at-len-clause-fresh
returns-then-at-len-clause-fresh g c =
    sym ((λ k. c.args.fresh.now.items ++ none-ends c.args.place (g.A.Answers.sight c.args.answers.now) c.args.fired.now c.args.at c.args.asks.now.items (omega (arith, c.if-at-len.true, c.len.ensures)) k)
    ∙ append-nil c.args.fresh.now.items)

pub returns-in_err-ends-clause-kept : goal.returns-in_err-ends-clause-kept
returns-in_err-ends-clause-kept g c ordered kept =
    subst (λ xs. AreKept xs c.args.pending.now.timers c.args.pending.now.readers c.args.pending.now.runs ordered)
    (sym (set-read c.args.at c.args.asks.now.items c.index_mut-asked.result.now c.note_one.new.asked (omega (arith, c.if-at-len.false, c.len.ensures)) c.index_mut-asked.ensures.value c.in_err-ends.ensures.err)) kept

pub returns-then-not-ends-clause-ok : goal.returns-then-not-ends-clause-ok
returns-then-not-ends-clause-ok g c =
    set-noted c.args.place (g.A.Answers.sight c.args.answers.now) c.args.fired.now c.args.at c.args.asks.now.items c.index_mut-asked.result.now c.note_one.new.asked
    (omega (arith, c.if-at-len.false, c.len.ensures)) c.index_mut-asked.ensures.value c.in_ok-ends.ensures.ok

pub returns-then-not-ends-clause-fresh : goal.returns-then-not-ends-clause-fresh
returns-then-not-ends-clause-fresh g c =
    let none = one-ends c.args.place (g.A.Answers.sight c.args.answers.now) c.args.fired.now c.args.at c.args.asks.now.items c.index_mut-asked.result.now c.note_one.new.asked false
    (omega (arith, c.if-at-len.false, c.len.ensures)) c.index_mut-asked.ensures.value c.in_ok-ends.ensures.ok (sym c.in_ok-ends.ensures.ends ∙ c.if-not-ends.true) in
    sym ((λ k. c.args.fresh.now.items ++ none k) ∙ append-nil c.args.fresh.now.items)

pub returns-then-not-ends-clause-kept : goal.returns-then-not-ends-clause-kept
returns-then-not-ends-clause-kept g c ordered kept =
    let x = c.index_mut-asked.result.now in
    let y = c.note_one.new.asked in
    let same = c.in_ok-ends.ensures.ok in
    let stays = ends-none x y c.in_ok-ends.ends c.in_ok-ends.ensures.ends c.if-not-ends.true in
    let some = stays-some x y _ (ap (λ a. a.end) same) in
    kept-noted c.args.at c.args.asks.now.items x y c.args.pending.now.timers c.args.pending.now.readers c.args.pending.now.runs ordered kept (omega (arith, c.if-at-len.false, c.len.ensures)) c.index_mut-asked.ensures.value (ap (λ a. a.owner) same)
    (ap (λ a. a.ask) same) (due-kept x y (ap (λ a. a.ask) same) stays x.end refl some) (asking-kept x y (ap (λ a. a.ask) same) some)

pub returns-clause-ok : goal.returns-clause-ok
returns-clause-ok g c =
    on-any _ c.mark.result
    (set-noted c.args.place (g.A.Answers.sight c.args.answers.now) c.args.fired.now c.args.at c.args.asks.now.items c.index_mut-asked.result.now c.note_one.new.asked
    (omega (arith, c.if-at-len.false, c.len.ensures)) c.index_mut-asked.ensures.value c.in_ok-ends.ensures.ok)

pub returns-clause-fresh : goal.returns-clause-fresh
returns-clause-fresh g c =
    let one = one-ends c.args.place (g.A.Answers.sight c.args.answers.now) c.args.fired.now c.args.at c.args.asks.now.items c.index_mut-asked.result.now c.note_one.new.asked true
    (omega (arith, c.if-at-len.false, c.len.ensures)) c.index_mut-asked.ensures.value c.in_ok-ends.ensures.ok (sym c.in_ok-ends.ensures.ends ∙ c.if-not-ends.false) in
    on-then (c.mark.new.fresh.items ≡ c.args.fresh.now.items ++ (c.index_mut-asked.result.now.owner ∷ [])) _ c.mark.result (λ pushed. pushed ∙ (λ k. c.args.fresh.now.items ++ sym one k)) c.mark.ensures.fresh

pub returns-clause-kept : goal.returns-clause-kept
returns-clause-kept g c ordered kept =
    let x = c.index_mut-asked.result.now in
    let y = c.note_one.new.asked in
    kept-ended c.args.at c.args.asks.now.items x y c.args.pending.now.timers c.mark.new.pending.timers c.args.pending.now.readers c.mark.new.pending.readers c.args.pending.now.runs c.mark.new.pending.runs ordered kept
    (omega (arith, c.if-at-len.false, c.len.ensures)) c.index_mut-asked.ensures.value (ap (λ a. a.owner) c.in_ok-ends.ensures.ok) (ap (λ a. a.ask) c.in_ok-ends.ensures.ok)
    (ends-some x y c.in_ok-ends.ends c.in_ok-ends.ensures.ends c.if-not-ends.false) c.mark.ensures.timers c.mark.ensures.readers c.mark.ensures.runs
