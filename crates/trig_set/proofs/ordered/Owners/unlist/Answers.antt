use Rattle.std.proofs.Common.{◌∙◌, map, subst, sym}
use Rattle.ha_past.specs.Firings.{without_owner}
use Rattle.trig_set.specs.Known.{AreKnown}
use Rattle.trig_set.specs.Order.{owner_of}
use Rattle.trig_set.specs.Reads.{AreRead}
use Rattle.trig_set.specs.Stands.{AllOwners}
use Rattle.trig_set.proofs.ordered.Owners.unlist.Goals as goal

pub returns : goal.returns
returns c reads known =
    let v = c.as_slice.ensures.value ∙ c.self.view_is in
    subst (λ l. AreKnown c.unlist_owner.new.index (without_owner c.args.owner (map owner_of l))) v
    (c.unlist_owner.ensures (subst (λ l. AllOwners l (λ a. AreRead a.triggers a.reads)) (sym v) reads) (subst (λ l. AreKnown c.args.index.now (map owner_of l)) (sym v) known))
