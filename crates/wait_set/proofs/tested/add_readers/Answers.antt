use Rattle.std.proofs.Common.{◌∙◌, get_or, sym}
use Rattle.std.specs.Prelude.{◌||◌}
use Rattle.ha_value.specs.declared.value.EntityId.{EntityId}
use Rattle.ha_config.specs.Words.{same_entity}
use Rattle.wait_set.specs.Concern.{has}
use Rattle.wait_set.specs.Tested.{TestedOrSpared}
use Rattle.wait_set.proofs.TestedLemmas.{none-there, spared-more}
use Rattle.wait_set.proofs.tested.add_readers.Goals as goal

pub returns-then-is_empty : goal.returns-then-is_empty
returns-then-is_empty c from changes all =
    none-there (TestedOrSpared from (λ (e : EntityId). same_entity c.args.entity.now e || changes e) (has c.args.tested.now)) c.args.asks.now (sym c.is_empty.ensures ∙ c.if-is_empty.true)

pub returns : goal.returns
returns c from changes all n d lt t none test off =
    let a = get_or c.args.asks.now n d in
    spared-more c.args.readers.now a t from changes c.args.entity.now (c.requires n d lt) none test (c.in_ok-add_readers.ensures.added a.owner off)
    (all n d lt t none test (c.in_ok-add_readers.ensures.kept a.owner off))
