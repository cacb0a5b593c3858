use Rattle.std.proofs.Common.{◌∙◌, ap, sym}
use Rattle.conf_auto.specs.Config.{config_of, if_read}
use Rattle.conf_reader.proofs.reader.ReaderPrepare.read.Goals as goal

pub returns-in-Ok-clause-value : goal.returns-in-Ok-clause-value
returns-in-Ok-clause-value c = sym (ap if_read (ap config_of (sym c.bytes.ensures.value) ∙ c.in-Ok.ensures.exact))

pub returns-in-Err-Bad-clause-value : goal.returns-in-Err-Bad-clause-value
returns-in-Err-Bad-clause-value c =
    let bad = rw c.in-Err-Bad.field-0-is at c.in-Err-Bad.ensures.exact in sym (ap if_read (ap config_of (sym c.bytes.ensures.value) ∙ bad))

pub returns-in-Ok-clause-sound : goal.returns-in-Ok-clause-sound
returns-in-Ok-clause-sound c = c.what_is_read_is_sound.ensures c.bytes.result.now c.in-Ok.config c.in-Ok.ensures.read
