use Rattle.std.proofs.Common.{subst, sym, ◌∙◌}
use Rattle.std.specs.Str.{IsUtf8}
use Rattle.rehearsal.proofs.Ascii.{moment_utf8}
use Rattle.rehearsal.proofs.line.moment_line.Goals as goal

pub from_bytes-requires : goal.from_bytes-requires
from_bytes-requires c = subst IsUtf8 (sym (c.as_slice.ensures.value ∙ c.in-Ok.ensures.text)) (moment_utf8 c.args.at)
