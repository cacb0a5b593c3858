use Rattle.ha_replay.proofs.OrderLemmas.{text-order}
use Rattle.ha_replay.proofs.stored.comes_before.Goals as goal

pub returns : goal.returns
returns c = rw (← c.bytes.ensures.value, ← c.bytes-2.ensures.value) (text-order c.bytes.result.now c.bytes-2.result.now c.lt.result c.lt.ensures)
