use Rattle.std.proofs.Common.{Err, ap, inl, inr, ◌∙◌}
use Rattle.ha_io.specs.declared.whole.Unwritten.{Unwritten}
use Rattle.ha_status.specs.Causes.{OneRose}
use Rattle.ha_status.proofs.WrittenLemmas.{took_front, took_some}
use Rattle.ha_status.proofs.tell.told.Goals as goal

pub returns-in-Err-Failed-clause-line : goal.returns-in-Err-Failed-clause-line
returns-in-Err-Failed-clause-line g c =
    took_front (OneRose (g.K.Sink.faults c.args.err.now) (g.K.Sink.faults c.write_whole.new.sink) (g.K.Sink.zeros c.args.err.now) (g.K.Sink.zeros c.write_whole.new.sink)) c.args.status _ _ _
    (inl (c.write_whole.ensures.failed (c.in-Err-Failed.is ∙ ap (λ (x : Unwritten). Err x) c.in-Err-Failed.field-0-is)))
    (c.as_bytes.ensures.value ∙ c.in-Ok.ensures) c.in-Err-Failed.ensures.front

pub returns-in-Err-Zero-clause-line : goal.returns-in-Err-Zero-clause-line
returns-in-Err-Zero-clause-line g c =
    took_front (OneRose (g.K.Sink.faults c.args.err.now) (g.K.Sink.faults c.write_whole.new.sink) (g.K.Sink.zeros c.args.err.now) (g.K.Sink.zeros c.write_whole.new.sink)) c.args.status _ _ _
    (inr (c.write_whole.ensures.zero (c.in-Err-Zero.is ∙ ap (λ (x : Unwritten). Err x) c.in-Err-Zero.field-0-is)))
    (c.as_bytes.ensures.value ∙ c.in-Ok.ensures) c.in-Err-Zero.ensures.front

pub returns-in-Err-Memory-clause-line : goal.returns-in-Err-Memory-clause-line
returns-in-Err-Memory-clause-line g c = took_some _ c.args.status _ _ _ (c.as_bytes.ensures.value ∙ c.in-Ok.ensures) c.in-Err-Memory.ensures.front
