use Rattle.std.proofs.Common.{◌∙◌, ◌++◌, ◌∷◌, []}
use Rattle.std.specs.Prelude.{if◌then◌else◌}
use Rattle.segment_carry.specs.Sources.{is_true_at}
use Rattle.segment_carry.proofs.SourceLemmas.{filter-more}
use Rattle.segment_carry.proofs.sources.shut_list.Goals as goal

pub sources-preserved : goal.sources-preserved
sources-preserved c =
    let at = c.sources.source in
    c.in_ok-put_shut.ensures ∙ (λ k. c.sources.invariant k ++ (if is_true_at c.args.shut.now at then at ∷ [] else [])) ∙ filter-more (is_true_at c.args.shut.now) at
