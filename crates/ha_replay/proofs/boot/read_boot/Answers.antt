use Rattle.ha_replay.proofs.BootLemmas.{boot-spelled, reads-line, value_of}
use Rattle.ha_replay.proofs.boot.read_boot.Goals as goal

pub returns-in-Ok : goal.returns-in-Ok
returns-in-Ok c = reads-line c.args.line.now c.in-Ok.value c.boot_of_value.result (λ v doc. c.in-Ok.ensures.only v doc) c.boot_of_value.ensures

pub returns-in-Err-Bad : goal.returns-in-Err-Bad
returns-in-Err-Bad c = λ b is u. rw c.in-Err-Bad.field-0-is at (c.in-Err-Bad.ensures.only (value_of b) (boot-spelled c.args.line.now b is u))
