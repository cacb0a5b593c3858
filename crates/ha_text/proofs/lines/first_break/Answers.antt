use Rattle.memchr.specs.Find.{is_byte}
use Rattle.ha_text.proofs.FirstPlace.{first_place}
use Rattle.ha_text.proofs.lines.first_break.Goals as goal

pub returns : goal.returns
returns c = first_place (is_byte 10) c.args.bytes.now c.memchr.result c.memchr.ensures
