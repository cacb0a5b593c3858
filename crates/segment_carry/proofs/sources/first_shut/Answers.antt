use Rattle.std.specs.Prelude.{nat_eq}
use Rattle.std.specs.List.{list_any}
use Rattle.segment_carry.proofs.SourceLemmas.{pushed-more}
use Rattle.segment_carry.proofs.sources.first_shut.Goals as goal

pub sources-preserved : goal.sources-preserved
sources-preserved c = pushed-more (λ k. list_any (nat_eq k) c.args.before.now) c.sources.source _ _ _ c.sources.invariant c.is_among.ensures c.in_ok-push.ensures.items
