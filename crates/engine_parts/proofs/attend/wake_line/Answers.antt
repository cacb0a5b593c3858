use Rattle.engine_parts.proofs.WakeLine.{woken}
use Rattle.engine_parts.proofs.attend.wake_line.Goals as goal

pub returns-clause-going : goal.returns-clause-going
returns-clause-going c rs w noted before =
    woken rs w c.args.parts.now c.wake.new.delays c.wake.new.triggers c.wake.new.ready c.args.journal.now noted before (
      c.in_ok-wake.ensures.stands,
      c.in_ok-wake.ensures.owned,
      c.in_ok-wake.ensures.queue,
      c.in_ok-wake.ensures.early,
      c.in_ok-wake.ensures.pairs,
    )
