use Rattle.ha_top.specs.Answered.{StoreCause}
use Rattle.ha_top.specs.Opening.{IsTextRefused}
use Rattle.ha_top.proofs.StoreLemmas.{if_err, store_refusal}
use Rattle.ha_top.proofs.prepare.load_store.Goals as goal

pub returns-in-Ok-Some-clause-refused : goal.returns-in-Ok-Some-clause-refused
returns-in-Ok-Some-clause-refused g c =
    let given = rw c.in-Ok-Some.field-0-is at c.in-Ok-Some.ensures.gives in
    if_err (IsTextRefused c.as_slice.result.now) (StoreCause (g.Q.Keeper.kept c.args.keep.now)) c.read_text.result
    (store_refusal (g.Q.Keeper.kept c.args.keep.now) _ c.as_slice.result.now given c.as_slice.ensures.value) c.read_text.ensures.refused
