use Rattle.std.proofs.Common.{ℕ, List, subst, sym}
use Rattle.ha_journal.specs.Journal.{more}
use Rattle.wait_set.specs.declared.asked.Asked.{Asked}
use Rattle.wait_set.specs.Asked.{noted}
use Rattle.wait_set.specs.Timers.{AreApart}
use Rattle.engine_parts.specs.Pending.{AreOthers, AreWaits}
use Rattle.engine_parts.specs.Kept.{AreOwned}
use Rattle.engine_parts.proofs.WaitWords.{asks-noted, grow-noted, owned-noted, apart-noted, others-noted, waits-noted}
use Rattle.engine_parts.specs.Runs.{AreHeld}
use Rattle.engine_parts.proofs.HeldLemmas.{held-noted}
use Rattle.engine_parts.proofs.note.note_waits.Goals as goal

pub returns-clause-asks : goal.returns-clause-asks
returns-clause-asks g c j x next = asks-noted (more j x) c.args.place (g.A.Answers.sight c.args.answers.now) c.args.fired.now c.args.waits.now c.note.new.self c.in_ok-note.ensures.ok next.fires

pub returns-clause-grow : goal.returns-clause-grow
returns-clause-grow g c = grow-noted c.args.waits.now c.note.new.self c.in_ok-note.ensures.told

pub returns-clause-owned : goal.returns-clause-owned
returns-clause-owned g c n owners h =
    subst (λ (l : List Asked). AreOwned n owners l) (sym c.in_ok-note.ensures.ok)
    (owned-noted c.args.place (g.A.Answers.sight c.args.answers.now) c.args.fired.now n owners c.args.waits.now.asks h)

pub returns-clause-told : goal.returns-clause-told
returns-clause-told g c n owners h =
    subst (λ (l : List ℕ). AreWaits l) (sym c.in_ok-note.ensures.fresh)
    (waits-noted c.args.place (g.A.Answers.sight c.args.answers.now) c.args.fired.now n owners c.args.waits.now.asks h)

pub returns-clause-apart : goal.returns-clause-apart
returns-clause-apart g c h =
    subst (λ (l : List Asked). AreApart l) (sym c.in_ok-note.ensures.ok)
    (apart-noted c.args.place (g.A.Answers.sight c.args.answers.now) c.args.fired.now c.args.waits.now.asks h)

pub returns-clause-others : goal.returns-clause-others
returns-clause-others g c h =
    subst (λ (l : List Asked). AreOthers c.note.new.self.fresh l) (sym c.in_ok-note.ensures.ok)
    (subst (λ (o : List ℕ). AreOthers o (noted c.args.place (g.A.Answers.sight c.args.answers.now) c.args.fired.now c.args.waits.now.asks)) (sym c.in_ok-note.ensures.fresh)
    (others-noted c.args.place (g.A.Answers.sight c.args.answers.now) c.args.fired.now c.args.waits.now.asks h))

pub returns-clause-held : goal.returns-clause-held
returns-clause-held g c i os h =
    subst (λ (l : List Asked). AreHeld i os l) (sym c.in_ok-note.ensures.ok)
    (held-noted c.args.place (g.A.Answers.sight c.args.answers.now) c.args.fired.now i os c.args.waits.now.asks h)
