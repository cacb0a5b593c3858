use Rattle.std.proofs.Common.{◌∙◌, sym}
use Rattle.std.specs.Prelude.{◌&&◌}
use Rattle.ha_config.proofs.EqualLemmas.{and_left, and_right}
use Rattle.trig_set.proofs.left.leaves_entries.Goals as goal

pub returns : goal.returns
returns c =
    let a = c.is_empty.result in
    let b = c.is_empty-2.result in (
      λ is. (c.is_empty.ensures.0 (and_left a b (sym c.both.ensures ∙ is)), c.is_empty-2.ensures.0 (and_right a b (sym c.both.ensures ∙ is))),
      λ h. c.both.ensures ∙ (λ i. c.is_empty.ensures.1 h.0 i && b) ∙ c.is_empty-2.ensures.1 h.1,
    )
