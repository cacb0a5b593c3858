-- A table of runs that has what another one has, but for the numbers of units that came behind it.
use Rattle.std.proofs.Common.{◌≡◌, ◌<◌, ℕ, length, sym, ap, ◌∙◌, arith}
use Rattle.ha_journal.specs.Journal.{Journal, names, units}
use Rattle.ha_whole.specs.Segments.{segment}
use Rattle.segment_runs.specs.Segment.{all_of, number_at}
use Rattle.named_runs.specs.Named.{NamedTable}
use Rattle.unit_book.specs.declared.book.UnitBook.{UnitBook}
use Rattle.unit_book.proofs.FirstLemmas.{firsts-many, names-many}
use Rattle.ha_engine.specs.declared.bounds.Bounds.{Bounds}
use Rattle.ha_engine.specs.Told.{AreRuns, IsTold}
use Rattle.ha_engine.proofs.FollowedLemmas.{firsts-told}
use Rattle.ha_engine.proofs.WholeLemmas.{all-records}

-- LAW: it has the same records of all segments
pub parted-all : (j : Journal) (b : Bounds) (u : UnitBook) (t t' : NamedTable) → IsTold j b u t → t.firsts ≡ u.firsts.items → t'.list ≡ t.list → t'.closed.records ≡ t.closed.records → t'.closed.entries ≡ t.closed.entries
    → ((a : ℕ) → a < length t.firsts → number_at t'.closed.numbers a ≡ number_at t.closed.numbers a) → all_of t'.closed t'.list ≡ all_of t.closed t.list
parted-all j b u t t' h firsts list records entries numbers =
    let many : length t.firsts ≡ length (units (segment j)) = ap length (firsts ∙ firsts-told j (segment j) u h.holds) ∙ firsts-many (names (segment j)) ∙ names-many (segment j) in
    let runs : AreRuns j t'
    = record {
      own = list ∙ h.runs.own;
      records = records ∙ h.runs.records;
      entries = entries ∙ h.runs.entries;
      numbers = λ a lt. numbers a (omega (arith, lt, many)) ∙ h.runs.numbers a lt;
    } in
    sym (all-records j t' h.lies.entries runs) ∙ all-records j t h.lies.entries h.runs
