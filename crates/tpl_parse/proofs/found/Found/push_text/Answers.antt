use Rattle.tpl_parse.proofs.Trims.{trimmed_utf8}
use Rattle.tpl_parse.proofs.found.Found.push_text.Goals as goal

pub from_bytes-requires : goal.from_bytes-requires
from_bytes-requires c = rw c.trimmed-text.ensures (trimmed_utf8 c.self.inside.trims c.args.sign c.args.text.now c.requires)
