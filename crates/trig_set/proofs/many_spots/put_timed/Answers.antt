use Rattle.std.proofs.Common.{◌∙◌, sym}
use Rattle.ha_journal.specs.Entries.{is_moment}
use Rattle.trig_set.proofs.CalmLemmas.{never}
use Rattle.trig_set.proofs.OnLemmas.{on-then}
use Rattle.trig_set.proofs.many_spots.put_timed.Goals as goal

pub returns-then-is_moment-clause-aside : goal.returns-then-is_moment-clause-aside
returns-then-is_moment-clause-aside c = on-then _ _ c.put_listed.result (λ aside n none moment. aside n none) c.put_listed.ensures.aside

pub returns-else-is_moment-clause-aside : goal.returns-else-is_moment-clause-aside
returns-else-is_moment-clause-aside c n none moment = absurd (never (is_moment c.args.entry.now) moment (sym c.is_moment.ensures ∙ c.if-is_moment.false))
