use Rattle.named_runs.proofs.counts.copied.Goals as goal

pub returns : goal.returns
returns c = c.in_ok-made.ensures.items_if_clones_equal (λ x y same. same)
