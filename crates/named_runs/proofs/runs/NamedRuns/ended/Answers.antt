use Rattle.std.proofs.Common.{◌≡◌, ◌∙◌, ap, sym, subst}
use Rattle.std.specs.Prelude.{Some, None}
use Rattle.ha_model.specs.declared.record.Record.{Record}
use Rattle.ha_model.specs.Lawful.{record_of}
use Rattle.run_modes.specs.Table.{HasBegun, begun_by, ended_at}
use Rattle.named_runs.specs.Named.{NamedTable}
use Rattle.named_runs.proofs.CountLemmas.{units-ended, units_of}
use Rattle.named_runs.proofs.TableLemmas.{counted-alike}
use Rattle.named_runs.proofs.runs.NamedRuns.ended.Goals as goal

pub ended-requires-clause-run : goal.ended-requires-clause-run
ended-requires-clause-run c =
    subst (λ (t : NamedTable). (r : Record) × (record_of t.list c.args.serial ≡ Some r) × (r.serial ≡ c.args.serial) × HasBegun r.begin × (r.end ≡ None)) (sym c.self.view_is) c.requires.run

pub invariant_of-self : goal.invariant_of-self
invariant_of-self c =
    counted-alike c.self.inside.firsts.items c.self.inside.counts.items c.self.inside.runs c.ended.new.self
    (ap units_of c.ended.ensures.list ∙ units-ended c.args.serial c.args.place c.args.cause c.self.inside.runs.list) c.ended.ensures.closed c.self.invariant

pub returns-clause-list : goal.returns-clause-list
returns-clause-list c = c.ended.ensures.list ∙ (λ i. ended_at c.args.serial c.args.place c.args.cause (c.self.view_is i).list)

pub returns-clause-answer : goal.returns-clause-answer
returns-clause-answer c = c.ended.ensures.answer ∙ (λ i. begun_by c.args.serial (c.self.view_is i).list)

pub returns-clause-spare : goal.returns-clause-spare
returns-clause-spare c = rw (← c.self.view_is) c.ended.ensures.spare

pub returns-clause-closed : goal.returns-clause-closed
returns-clause-closed c = c.ended.ensures.closed ∙ (λ i. (c.self.view_is i).closed)

pub returns-clause-firsts : goal.returns-clause-firsts
returns-clause-firsts c = λ i. (c.self.view_is i).firsts
