use Rattle.std.proofs.Common.{◌≡◌, ◌∙◌, ◌+◌, ap, length, ℕ, arith}
use Rattle.switch_book.specs.Book.{Switch, reset}
use Rattle.switch_book.proofs.BookLemmas.{all-changed, each_to, one-changed, to-length}
use Rattle.switch_book.proofs.book.reset_all.Goals as goal

pub switches-preserved : goal.switches-preserved
switches-preserved c =
    let f : ℕ → Switch → Switch = reset c.args.automations.now in
    let done : c.reset_at.new.switches.items ≡ each_to f 0 (c.switches.at + 1) c.args.switches.now.items
    = one-changed f c.switches.at c.args.switches.now.items c.switches.switches.items _ (omega (arith, c.switches-test.true, c.switches.invariant.len, c.len-at-end.ensures)) c.switches.invariant.done c.reset_at.ensures in
    record { len = ap length done ∙ to-length f 0 (c.switches.at + 1) c.args.switches.now.items; done = done }

pub returns : goal.returns
returns c =
    all-changed (reset c.args.automations.now) c.switches.at c.args.switches.now.items c.switches.switches.items
    (omega (arith, c.switches-test.false, c.switches.invariant.len, c.len-at-end.ensures)) c.switches.invariant.done
