use Rattle.std.proofs.Common.{◌≡◌, ◌-◌, length, sym, ap, subst, ◌∙◌}
use Rattle.std.specs.Prelude.{Bool, None, Some}
use Rattle.std.specs.Global.{Vec}
use Rattle.ha_model.specs.declared.record.Record.{Record}
use Rattle.ha_sight.specs.Items.{is_call}
use Rattle.ha_model.specs.Lawful.{record_of}
use Rattle.ha_model.specs.Records.{Records}
use Rattle.ha_ready.specs.RestedFlags.{RestedKept}
use Rattle.run_modes.specs.Calls.{call_counted, own_ended}
use Rattle.run_modes.specs.Table.{HasBegun}
use Rattle.engine_parts.specs.Kept.{Going, nobody}
use Rattle.engine_entry.specs.Stepping.{StepEnds, stops_by}
use Rattle.ha_engine.proofs.TellLemmas.{going-counted, journal-right, run-counts, run-lives, step-ends, told-stopped}
use Rattle.ha_engine.proofs.step_conclude.tell_step.Goals as goal

pub count_call-requires : goal.count_call-requires
count_call-requires c = run-counts c.args.journal.now c.args.runs.now.list c.args.parts.now c.args.progress c.args.serial c.args.item.now c.requires.told

pub end_if-requires : goal.end_if-requires
end_if-requires c =
    let k = c.args.journal.now in
    let rs = c.args.runs.now.list in
    let told = c.requires.told in
    record {
      journal = (journal-right k rs c.args.parts.now c.args.progress c.args.serial c.args.item.now told).journal;
      some = (step-ends k rs c.args.parts.now c.args.progress c.args.serial c.args.item.now told (is_call c.args.item.now)).some;
      run = subst (λ (l : Records). (r : Record) × (record_of l c.args.serial ≡ Some r) × (r.serial ≡ c.args.serial) × HasBegun r.begin × (r.end ≡ None)) (sym c.count_call.ensures.list)
          (run-lives k rs c.args.parts.now c.args.progress c.args.serial c.args.item.now told (is_call c.args.item.now));
      room = c.requires.room;
    }

pub returns-clause-stopped : goal.returns-clause-stopped
returns-clause-stopped c =
    let k = c.args.journal.now in
    let rs : Records = c.args.runs.now.list in
    let p = c.args.parts.now in
    let s = c.args.serial in
    let item = c.args.item.now in
    let told = c.requires.told in
    let counted : c.count_call.new.runs.list ≡ call_counted (is_call item) s rs = c.count_call.ensures.list in
    let ends : StepEnds k c.count_call.new.runs.list s = subst (λ (l : Records). StepEnds k l s) (sym counted) (step-ends k rs p c.args.progress s item told (is_call item)) in
    let going : Going nobody k c.count_call.new.runs.list p = subst (λ (l : Records). Going nobody k l p) (sym counted) (going-counted k rs p c.args.progress s item told (is_call item)) in
    let ended = c.end_if.ensures.kept ends going in
    let at : c.place.result ≡ length k - 1 = c.place.ensures.place in
    let stopped = c.stop_switched.ensures.kept k at ends.some ended.0 ended.1 in
    told-stopped k rs p c.args.progress s item told c.stop_switched.new.runs.list c.stop_switched.new.parts
    (c.stop_switched.ensures.list ∙ (λ i. stops_by (at i) item c.end_if.new.runs.list) ∙ ap (stops_by (length k - 1) item) (c.end_if.ensures.list ∙ (λ i. own_ended (length k - 1) s (c.cause_of.ensures i) (counted i))))
    stopped.0 stopped.1
    (subst (λ (v : Vec Bool). RestedKept told.told.j rs v.items) (sym (c.stop_switched.ensures.rested ∙ c.end_if.ensures.rested)) told.told.rested_is)

pub returns-clause-room : goal.returns-clause-room
returns-clause-room c n h = c.stop_switched.ensures.room n (c.end_if.ensures.room n h)

pub stop_switched-requires-clause-room : goal.stop_switched-requires-clause-room
stop_switched-requires-clause-room c = c.end_if.ensures.room 0 c.requires.room
