use Rattle.std.proofs.Common.{◌≡◌, List, suc, ◌-◌, length, sym, ap, subst, ◌∙◌, arith}
use Rattle.std.specs.Prelude.{IfOk, Ok, Err, Result}
use Rattle.ha_journal.specs.Attempts.{Attempt, attempts}
use Rattle.ha_journal.specs.Journal.{Journal, last_place}
use Rattle.ha_journal.specs.Moves.{sight}
use Rattle.script_calls.specs.Seen as shown
use Rattle.ha_engine.specs.Admits.{ArePassing}
use Rattle.ha_engine.specs.declared.admit.Prepared.{Prepared}
use Rattle.ha_engine.proofs.OpeningLemmas.{begun-attempts, begun-length, begun-some}
use Rattle.engine_parts.specs.Owners.{attempts_by}
use Rattle.engine_parts.proofs.ViewLemmas.{helpers-shown, place-seen, units-numbered}
use Rattle.ha_engine.proofs.prepare.prepare_opening.Goals as goal

if-then : {T E : Type 0} {P Q : T → Type 0} (r : Result T E) → ((x : T) → P x → Q x) → IfOk r P → IfOk r Q
if-then (Ok x) f h = f x h
if-then (Err e) f h = h

tries-same : (k : Journal) (xs ys : List Attempt) (stack : List Prepared) → xs ≡ ys → ArePassing k 0 xs stack → ArePassing k 0 ys stack
tries-same k xs ys stack e h = subst (λ (zs : List Attempt). ArePassing k 0 zs stack) e h

pub make-view-requires-clause-numbered : goal.make-view-requires-clause-numbered
make-view-requires-clause-numbered c = units-numbered c.args.journal.now c.args.parts.now.numbers c.configuration-config.result.now c.requires.sees.looks.numbers_are c.configuration-config.ensures.configured

pub make-view-requires-clause-seen : goal.make-view-requires-clause-seen
make-view-requires-clause-seen c =
    let p = c.args.parts.now in
    helpers-shown c.args.journal.now p.states p.numbers c.configuration-config.result.now p.zone p.at p.helpers c.requires.sees.looks c.requires.sees.sound (begun-some c.args.journal.now c.requires.begun)
    c.requires.sees.helpers_stand c.configuration-config.ensures.configured

pub prepare_fired-requires : goal.prepare_fired-requires
prepare_fired-requires c =
    (c.args.journal.now, record { holds = c.known.ensures; config_is = c.configuration-config.ensures.automations; numbers_are = c.requires.sees.looks.numbers_are })

pub returns : goal.returns
returns c =
    let k : Journal = c.args.journal.now in
    let p = c.args.parts.now in
    let sees : shown.sees c.make-view.result ≡ sight k (suc (last_place k))
    = c.make-view.ensures.sees
    ∙ place-seen k p.states p.numbers c.configuration-config.result.now p.zone p.at p.helpers c.requires.sees.looks c.requires.sees.sound (begun-some k c.requires.begun) c.requires.sees.helpers_stand c.configuration-config.ensures.configured
    ∙ (let e : length k ≡ suc (last_place k) = omega (arith, begun-length k c.requires.begun) in ap (sight k) e) in
    let tries : attempts_by c.args.fired ≡ attempts k (last_place k) = c.requires.fired ∙ sym (begun-attempts k c.requires.begun) in
    if-then c.prepare_fired.result
    (λ stack h. tries-same k (attempts_by c.args.fired) (attempts k (last_place k)) stack.items tries
    (h k sees (record { holds = c.known.ensures; config_is = c.configuration-config.ensures.automations; numbers_are = c.requires.sees.looks.numbers_are }))) c.prepare_fired.ensures
