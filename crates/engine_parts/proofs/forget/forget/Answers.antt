use Rattle.std.proofs.Common.{◌≡◌, ℕ, sym, ap, subst, ◌∙◌}
use Rattle.ha_model.specs.Records.{CallEnds}
use Rattle.trig_set.specs.Stands.{attached}
use Rattle.wait_set.specs.Asked.{owners_of, without_run}
use Rattle.engine_parts.specs.Called.{told_after, told_by, woken_owners}
use Rattle.engine_parts.specs.Kept.{GoingWith}
use Rattle.engine_parts.specs.Records.{also}
use Rattle.engine_parts.specs.Without.{without_owners}
use Rattle.engine_parts.proofs.ToldLemmas.{told-also}
use Rattle.engine_parts.proofs.FinishedLemmas.{owners-woken}
use Rattle.engine_parts.proofs.forget.forget.Goals as goal

pub returns-clause-going : goal.returns-clause-going
returns-clause-going c gone k rs last table low high going =
    let s : ℕ = c.args.serial in
    let told : told_after s c.args.place (told_by gone k rs) rs ≡ told_by (also gone s) k rs = (λ i. told_after s (last i) (told_by gone k rs) rs) ∙ sym (told-also gone k rs s high) in
    subst (λ (t : CallEnds). GoingWith t (also gone s) k rs c.clear_run.new.parts) told
    (c.clear_run.ensures.going (told_after s c.args.place (told_by gone k rs) rs) gone k rs table.numbered low high (c.wake_caller.ensures.going (told_by gone k rs) gone k rs table going))

pub returns-clause-rest : goal.returns-clause-rest
returns-clause-rest c =
    let p = c.args.parts.now in
    let s : ℕ = c.args.serial in
    c.clear_run.ensures.rest
    ∙ (λ i. without_owners (owners_of s (c.wake_caller.ensures.waits i)) (c.wake_caller.ensures.attached i))
    ∙ (λ i. without_owners (owners-woken s s c.args.place p.calls p.waits.asks i) (without_owners (woken_owners s p.calls p.waits.asks) (attached p.triggers)))

pub returns-clause-waits : goal.returns-clause-waits
returns-clause-waits c = c.clear_run.ensures.waits ∙ ap (without_run c.args.serial) c.wake_caller.ensures.waits

pub returns-clause-room : goal.returns-clause-room
returns-clause-room c n h = c.clear_run.ensures.room n (c.wake_caller.ensures.room n h)
