use Rattle.std.proofs.Common.{◌∙◌, ap, sym, subst, length}
use Rattle.segment_runs.specs.Goes.{AllEnded}
use Rattle.segment_runs.specs.Segment.{all_of}
use Rattle.segment_runs.proofs.OverLemmas.{over-close}
use Rattle.segment_runs.proofs.segment.SegmentRuns.close.Goals as goal

pub invariant_of-self : goal.invariant_of-self
invariant_of-self c =
    (over-close c.self.inside.front c.self.inside.base c.self.inside.numbers c.self.inside.all.list c.self.invariant c.args.front c.count_of.result c.args.numbers (c.count_of.ensures ∙ ap length c.list.ensures) (subst (λ t. AllEnded t.list) (sym c.self.view_is) c.requires.ended) c.requires.front).over

pub returns-clause-list : goal.returns-clause-list
returns-clause-list c =
    (over-close c.self.inside.front c.self.inside.base c.self.inside.numbers c.self.inside.all.list c.self.invariant c.args.front c.count_of.result c.args.numbers (c.count_of.ensures ∙ ap length c.list.ensures) (subst (λ t. AllEnded t.list) (sym c.self.view_is) c.requires.ended) c.requires.front).list

pub returns-clause-closed : goal.returns-clause-closed
returns-clause-closed c =
    (over-close c.self.inside.front c.self.inside.base c.self.inside.numbers c.self.inside.all.list c.self.invariant c.args.front c.count_of.result c.args.numbers (c.count_of.ensures ∙ ap length c.list.ensures) (subst (λ t. AllEnded t.list) (sym c.self.view_is) c.requires.ended) c.requires.front).closed
    ∙ (λ i. record { records = all_of (c.self.view_is i).closed (c.self.view_is i).list; entries = c.args.front; numbers = c.args.numbers })
