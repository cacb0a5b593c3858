use Rattle.std.proofs.Common.{◌≡◌, ◌<◌, ◌∙◌, sym, subst, length}
use Rattle.std.specs.Prelude.{Some, slice_get}
use Rattle.named_runs.specs.Named.{NamedTable, first_in}
use Rattle.named_runs.proofs.CountLemmas.{first-is}
use Rattle.named_runs.proofs.runs.NamedRuns.first_unit.Goals as goal

pub first_of-requires : goal.first_of-requires
first_of-requires c = subst (λ fs. c.args.unit < length fs) (sym c.as_slice.ensures.value) (subst (λ (t : NamedTable). c.args.unit < length t.firsts) (sym c.self.view_is) c.requires)

pub returns : goal.returns
returns c =
    sym (first-is c.self.inside.firsts.items c.args.unit c.first_of.result (subst (λ fs. slice_get fs c.args.unit ≡ Some c.first_of.result) c.as_slice.ensures.value c.first_of.ensures))
    ∙ (λ i. first_in (c.self.view_is i).firsts c.args.unit)
