use Rattle.engine_parts.proofs.called.resume.Goals as goal

pub returns-clause-asks : goal.returns-clause-asks
returns-clause-asks c = λ i. record { asks = c.finish.ensures.asks i; fresh = c.finish.ensures.fresh i }
