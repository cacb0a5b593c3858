use Rattle.std.proofs.Common.{ap, nat_cmp}
use Rattle.std.specs.List.{list_any}
use Rattle.std.specs.BTreeMap.{is_at}
use Rattle.std.proofs.lemmas.List.{nil_from_length}
use Rattle.trig_set.proofs.LeftLemmas.{has-nothing}
use Rattle.trig_set.proofs.left.is_empty.Goals as goal

pub returns : goal.returns
returns c = (
  λ is n. ap (list_any (is_at (nat_cmp n))) (nil_from_length c.args.listed.now.keys (c.is_empty.ensures.0 is)),
  λ none. c.is_empty.ensures.1 (has-nothing c.args.listed.now.keys none),
)
