use Rattle.std.proofs.Common.{◌≡◌, suc, ◌-◌, ◌<◌, length, sym, ap, ◌∙◌, arith}
use Rattle.std.specs.Prelude.{IfOk, Ok, Err, Result, Some, slice_get}
use Rattle.ha_journal.specs.Journal.{Journal, last_place}
use Rattle.ha_journal.specs.Moves.{sight}
use Rattle.ha_journal.proofs.MoreLemmas.{has-entry, length-more}
use Rattle.ha_config.proofs.ListLemmas.{get-last}
use Rattle.script_calls.specs.Seen as shown
use Rattle.ha_engine.proofs.PrepareLemmas.{journal-some, last-split}
use Rattle.engine_parts.proofs.ViewLemmas.{helpers-shown, place-seen, units-numbered}
use Rattle.ha_engine.proofs.prepare.prepare.Goals as goal

if-then : {T E : Type 0} {P Q : T → Type 0} (r : Result T E) → ((x : T) → P x → Q x) → IfOk r P → IfOk r Q
if-then (Ok x) f h = f x h
if-then (Err e) f h = h

pub make-view-requires-clause-numbered : goal.make-view-requires-clause-numbered
make-view-requires-clause-numbered c = units-numbered c.args.journal.now c.args.parts.now.numbers c.configuration-config.result.now c.requires.sees.looks.numbers_are c.configuration-config.ensures.configured

pub make-view-requires-clause-seen : goal.make-view-requires-clause-seen
make-view-requires-clause-seen c =
    let p = c.args.parts.now in
    helpers-shown c.args.journal.now p.states p.numbers c.configuration-config.result.now p.zone p.at p.helpers c.requires.sees.looks c.requires.sees.sound (has-entry c.args.journal.now c.requires.journal)
    c.requires.sees.helpers_stand c.configuration-config.ensures.configured

pub prepare_asked-requires : goal.prepare_asked-requires
prepare_asked-requires c =
    (c.args.journal.now, record { holds = c.known.ensures; config_is = c.configuration-config.ensures.automations; numbers_are = c.requires.sees.looks.numbers_are })

pub returns : goal.returns
returns c =
    let k : Journal = c.args.journal.now in
    let p = c.args.parts.now in
    let some : 0 < length k = journal-some k c.requires.journal in
    let last = last-split k some in
    let at : last_place k ≡ length last.0 = omega (arith, length-more last.0 last.1, ap length last.2) in
    let sees : shown.sees c.make-view.result ≡ sight k (suc (last_place k))
    = c.make-view.ensures.sees
    ∙ place-seen k p.states p.numbers c.configuration-config.result.now p.zone p.at p.helpers c.requires.sees.looks c.requires.sees.sound (has-entry k c.requires.journal) c.requires.sees.helpers_stand c.configuration-config.ensures.configured
    ∙ (let e : length k ≡ suc (last_place k) = omega (arith, some) in ap (sight k) e) in
    let entry : slice_get k (last_place k) ≡ Some c.last_entry.result.now
    = (λ i. slice_get (last.2 i) (at i)) ∙ get-last last.0 last.1 ∙ ap Some (sym (c.last_entry.ensures last.0 last.1 last.2)) in
    if-then c.prepare_asked.result
    (λ stack h. h k sees (record { holds = c.known.ensures; config_is = c.configuration-config.ensures.automations; numbers_are = c.requires.sees.looks.numbers_are }) entry c.requires.fired) c.prepare_asked.ensures
