use Rattle.std.proofs.Common.{ap, ◌∙◌}
use Rattle.std.specs.Str.{is_utf8}
use Rattle.std.proofs.lemmas.Str.{IsUtf8-from_is_utf8}
use Rattle.yaml_scan.proofs.text.seen.Goals as goal

pub from_bytes-requires : goal.from_bytes-requires
from_bytes-requires c = IsUtf8-from_is_utf8 _ (ap is_utf8 c.bytes.ensures ∙ c.requires)
