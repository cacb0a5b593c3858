use Rattle.std.proofs.Common.{ℕ, List, [], ◌++◌, refl, sym, subst, ap, ◌∙◌}
use Rattle.ha_config.proofs.ListLemmas.{append-nil}
use Rattle.engine_parts.specs.Waiting.{fresh}
use Rattle.trig_set.specs.Stands.{attached}
use Rattle.engine_parts.specs.Pending.{AreOthers, AreWaits}
use Rattle.engine_parts.specs.Without.{without_owners}
use Rattle.ha_ready.specs.Agree.{AgreesBut, touched}
use Rattle.engine_parts.specs.Touched.{wait_places}
use Rattle.ha_ready.proofs.AgreeLemmas.{agree-all}
use Rattle.engine_parts.proofs.wake.wake.Goals as goal

pub returns-clause-pairs : goal.returns-clause-pairs
returns-clause-pairs c told rs waking h =
    let places : List ℕ = wait_places (fresh c.args.waits.now) in
    let behind : AgreesBut told (touched c.args.journal.now (places ++ [])) rs c.args.journal.now c.wake_delays.new.ready.pairs.items
    = subst (λ left. AgreesBut told (touched c.args.journal.now left) rs c.args.journal.now c.wake_delays.new.ready.pairs.items) (sym (append-nil places)) (c.in_ok-wake_delays.ensures.agree told rs places waking h) in
    agree-all told (touched c.args.journal.now []) rs c.args.journal.now c.wake_waits.new.ready.pairs.items (λ s. refl) (c.in_ok-wake_waits.ensures told rs [] waking behind)

pub returns-clause-owned : goal.returns-clause-owned
returns-clause-owned c j told others owned =
    c.detach_all.ensures.owned j c.args.waits.now (subst (λ (l : List ℕ). AreWaits l) (sym c.ended_now.ensures) told) (subst (λ (l : List ℕ). AreOthers l c.args.waits.now.asks) (sym c.ended_now.ensures) others) owned

pub returns-clause-rest : goal.returns-clause-rest
returns-clause-rest c = c.detach_all.ensures.rest ∙ ap (λ l. without_owners l (attached c.args.triggers.now)) c.ended_now.ensures
