use Rattle.std.proofs.Common.{◌∙◌, ap, subst, sym}
use Rattle.ha_journal.specs.Force.{force}
use Rattle.ha_journal.specs.Journal.{Journal, helpers}
use Rattle.unit_book.specs.Book.{Holds}
use Rattle.segment_view.proofs.ViewLemmas.{helpers-seen}
use Rattle.segment_view.proofs.behind.Behind.make.Goals as goal

pub invariant_of-result : goal.invariant_of-result
invariant_of-result c = record {
  held = record {
    some = c.make-entries.ensures.some;
    holds = subst (λ (j : Journal). Holds c.args.journal.now (force j) c.args.book.now) (sym c.make-entries.ensures.seen) c.requires.held;
  };
  boots = c.requires.boot;
  helpers_are = λ d there. helpers-seen c.args.journal.now c.args.front c.args.base d c.requires.boot c.requires.front there ∙ ap (λ (j : Journal). helpers j) (sym c.make-entries.ensures.seen);
}
