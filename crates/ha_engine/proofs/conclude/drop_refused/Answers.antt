use Rattle.std.proofs.Common.{◌≡◌, suc, length, ap, subst, ◌∙◌}
use Rattle.ha_model.specs.Records.{CallEnds, call_end}
use Rattle.engine_parts.specs.Called.{told_after, told_by}
use Rattle.engine_parts.specs.Kept.{GoingWith, SlotBut, nobody}
use Rattle.engine_parts.proofs.ToldLemmas.{told-whole}
use Rattle.engine_parts.proofs.ForgetLemmas.{slots-length}
use Rattle.ha_engine.proofs.conclude.drop_refused.Goals as goal

pub returns-clause-going : goal.returns-clause-going
returns-clause-going c k rs at table going =
    let p = c.args.parts.now in
    let size : length p.frames.items ≡ length rs = slots-length (SlotBut nobody (told_by nobody k rs) k p.delays p.waits) rs p.frames.items going.runs_kept.slots in
    let next : c.next_serial-next.result ≡ suc (length rs) = c.next_serial-next.ensures ∙ ap suc size in
    let whole : told_after c.next_serial-next.result c.args.place (told_by nobody k rs) rs ≡ call_end rs
    = (λ i. told_after (next i) (at i) (told_by nobody k rs) rs) ∙ told-whole k rs table.numbered in
    subst (λ (t : CallEnds). GoingWith t nobody k rs c.wake_caller.new.parts) whole (c.wake_caller.ensures.going (told_by nobody k rs) nobody k rs table going)
