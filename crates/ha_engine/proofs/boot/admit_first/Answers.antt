use Rattle.std.proofs.Common.{◌≡◌, [], length, List, sym, ap, subst, ◌∙◌, arith}
use Rattle.std.specs.Prelude.{Bool}
use Rattle.std.specs.Global.{Vec}
use Rattle.ha_journal.specs.Attempts.{passing}
use Rattle.ha_model.specs.Records.{CallEnds, Records, call_end, records_of}
use Rattle.ha_model.specs.Lawful.{Right}
use Rattle.run_modes.specs.Calls.{all_tried}
use Rattle.ha_ready.specs.RestedFlags.{RestedKept}
use Rattle.engine_parts.specs.Kept.{Going, GoingWith, nobody}
use Rattle.engine_parts.specs.Records.{IsTable}
use Rattle.ha_engine.specs.Begun.{trues}
use Rattle.ha_engine.proofs.OpeningLemmas.{begun-length, begun-records, begun-rested, begun-right, begun-table}
use Rattle.ha_engine.proofs.boot.admit_first.Goals as goal

pub admit_all-requires-clause-place : goal.admit_all-requires-clause-place
admit_all-requires-clause-place c = omega arith

pub drop_refused-requires : goal.drop_refused-requires
drop_refused-requires c = c.admit_all.ensures.room

pub returns-clause-begun : goal.returns-clause-begun
returns-clause-begun c k begun firsts going rested prepared =
    let old : c.args.runs.now.list ≡ [] = c.requires.none in
    let size : length k ≡ 1 = begun-length k begun in
    let table : IsTable k c.args.runs.now.list = subst (λ (l : Records). IsTable k l) (sym old) (begun-table k begun) in
    let told = c.admit_all.ensures.all k (passing k) prepared firsts (omega (arith, size)) (omega (arith, size)) table (subst (λ (l : Records). Going nobody k l c.args.parts.now) (sym old) going) in
    let list : c.admit_all.new.runs.list ≡ records_of k = told.0 ∙ (λ i. all_tried k (old i) (passing k)) ∙ begun-records k begun in
    let flags : c.drop_refused.new.parts.rested.items ≡ trues 16 = ap (λ (v : Vec Bool). v.items) (c.drop_refused.ensures.rested ∙ c.admit_all.ensures.rested) ∙ rested in
    let all : GoingWith (call_end c.admit_all.new.runs.list) nobody k c.admit_all.new.runs.list c.drop_refused.new.parts
    = c.drop_refused.ensures.going k c.admit_all.new.runs.list (omega (arith, size)) told.1 told.2 in (
      list,
      subst (λ (l : Records). Right k l) (sym list) (begun-right k begun),
      record {
        going = subst (λ (t : CallEnds). GoingWith t nobody k c.admit_all.new.runs.list c.drop_refused.new.parts) (ap call_end list) all;
        rested_is = subst (λ (l : List Bool). RestedKept k c.admit_all.new.runs.list l) (sym flags) (begun-rested c.admit_all.new.runs.list k begun);
      },
    )
