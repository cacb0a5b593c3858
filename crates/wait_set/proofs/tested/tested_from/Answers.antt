use Rattle.std.proofs.Common.{◌∙◌, false, get_or, sym}
use Rattle.ha_value.specs.declared.value.EntityId.{EntityId}
use Rattle.wait_set.specs.Concern.{has}
use Rattle.wait_set.specs.Tested.{TestedOrSpared}
use Rattle.wait_set.proofs.TestedLemmas.{none-there, spared-first}
use Rattle.wait_set.proofs.tested.tested_from.Goals as goal

pub returns-then-is_empty : goal.returns-then-is_empty
returns-then-is_empty c = none-there (TestedOrSpared c.args.from (λ (e : EntityId). false) (has c.new-tested.result)) c.args.asks.now (sym c.is_empty.ensures ∙ c.if-is_empty.true)

pub returns : goal.returns
returns c n d lt t none test off =
    let a = get_or c.args.asks.now n d in
    let place = c.in_ok-put_from.ensures n d lt (c.in_ok-add_unknown.ensures.kept a.owner off) in
    spared-first c.args.readers.now a t c.args.from (c.requires.listed n d lt) none test (c.first_from.ensures n d place lt) (c.in_ok-add_unknown.ensures.added a.owner off)
