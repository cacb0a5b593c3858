use Rattle.std.proofs.Common.{◌∙◌, subst, sym, IsUtf8}
use Rattle.store_text.proofs.OrderLemmas.{moment_utf8}
use Rattle.store_text.proofs.write.moment_value.Goals as goal

pub from_bytes-requires : goal.from_bytes-requires
from_bytes-requires c = subst IsUtf8 (sym (c.as_slice.ensures.value ∙ c.in-Ok.ensures.text)) (moment_utf8 c.args.at)
