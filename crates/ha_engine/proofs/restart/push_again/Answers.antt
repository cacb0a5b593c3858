use Rattle.std.proofs.Common.{sym, subst, ◌∙◌}
use Rattle.ha_journal.specs.Journal.{Journal, more}
use Rattle.ha_whole.specs.Whole.{again_of}
use Rattle.ha_engine.specs.Restarts.{ClosesWith}
use Rattle.ha_engine.proofs.restart.push_again.Goals as goal

pub make_again-requires : goal.make_again-requires
make_again-requires c = subst (λ (i : Journal). ClosesWith i c.args.bounds c.args.book.now c.args.runs.now c.args.parts.now c.args.lasts.now) (sym c.as_slice.ensures.value) c.requires.stands

pub returns-clause-put : goal.returns-clause-put
returns-clause-put c =
    let j : Journal = c.args.journal.now.items in
    c.push_reserved.ensures.items ∙ (λ i. more j (c.in_ok-entry.ensures i)) ∙ (λ i. more j (again_of (c.as_slice.ensures.value i)))
