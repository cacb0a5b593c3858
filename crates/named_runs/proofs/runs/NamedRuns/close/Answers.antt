use Rattle.std.proofs.Common.{◌∙◌, refl, sym, subst}
use Rattle.segment_runs.specs.Goes.{AllEnded}
use Rattle.segment_runs.specs.Segment.{all_of}
use Rattle.named_runs.specs.Named.{NamedTable}
use Rattle.named_runs.proofs.TableLemmas.{counted-opened}
use Rattle.named_runs.proofs.runs.NamedRuns.close.Goals as goal

pub close-requires-clause-ended : goal.close-requires-clause-ended
close-requires-clause-ended c = subst (λ (t : NamedTable). AllEnded t.list) (sym c.self.view_is) c.requires.ended

pub invariant_of-self : goal.invariant_of-self
invariant_of-self c = counted-opened c.args.opening c.close.new.self _ c.requires.opens c.close.ensures.list c.close.ensures.closed refl

pub returns-clause-closed : goal.returns-clause-closed
returns-clause-closed c =
    c.close.ensures.closed
    ∙ (λ i. record { records = all_of (c.self.view_is i).closed (c.self.view_is i).list; entries = c.args.front; numbers = c.args.opening.numbers })

pub returns-clause-spare : goal.returns-clause-spare
returns-clause-spare c = c.close.ensures.spare ∙ (λ i. (c.self.view_is i).spare)
