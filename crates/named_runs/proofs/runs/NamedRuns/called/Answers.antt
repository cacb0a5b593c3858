use Rattle.std.proofs.Common.{◌≡◌, ◌<◌, ◌-◌, ◌∙◌, ap, sym, subst}
use Rattle.std.specs.Prelude.{◌^◌, Some}
use Rattle.ha_model.specs.declared.record.Record.{Record}
use Rattle.ha_model.specs.Lawful.{record_of}
use Rattle.run_modes.specs.Table.{called_on}
use Rattle.named_runs.specs.Named.{NamedTable}
use Rattle.named_runs.proofs.CountLemmas.{units-called, units_of}
use Rattle.named_runs.proofs.TableLemmas.{counted-alike}
use Rattle.named_runs.proofs.runs.NamedRuns.called.Goals as goal

pub called-requires : goal.called-requires
called-requires c =
    subst (λ (t : NamedTable). (r : Record) × (record_of t.list c.args.serial ≡ Some r) × (r.serial ≡ c.args.serial) × (r.calls < 2 ^ 64 - 1)) (sym c.self.view_is) c.requires

pub invariant_of-self : goal.invariant_of-self
invariant_of-self c =
    counted-alike c.self.inside.firsts.items c.self.inside.counts.items c.self.inside.runs c.called.new.self
    (ap units_of c.called.ensures.list ∙ units-called c.args.serial c.self.inside.runs.list) c.called.ensures.closed c.self.invariant

pub returns-clause-list : goal.returns-clause-list
returns-clause-list c = c.called.ensures.list ∙ (λ i. called_on c.args.serial (c.self.view_is i).list)

pub returns-clause-spare : goal.returns-clause-spare
returns-clause-spare c = c.called.ensures.spare ∙ (λ i. (c.self.view_is i).spare)

pub returns-clause-closed : goal.returns-clause-closed
returns-clause-closed c = c.called.ensures.closed ∙ (λ i. (c.self.view_is i).closed)

pub returns-clause-firsts : goal.returns-clause-firsts
returns-clause-firsts c = λ i. (c.self.view_is i).firsts
