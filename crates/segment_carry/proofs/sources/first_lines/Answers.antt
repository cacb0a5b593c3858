use Rattle.std.specs.Prelude.{slice_index}
use Rattle.segment_carry.proofs.SourceLemmas.{pushed-more}
use Rattle.segment_carry.proofs.sources.first_lines.Goals as goal

pub sources-preserved : goal.sources-preserved
sources-preserved c = pushed-more (λ k. slice_index c.args.before.now k) c.sources.source _ _ _ c.sources.invariant c.lines_at.ensures c.in_ok-push.ensures.items
