use Rattle.std.proofs.Common.{◌∙◌, ap, sym, subst}
use Rattle.ha_sight.specs.Inner.{helped}
use Rattle.ha_sight.specs.Services.{changes_for}
use Rattle.helper_set.specs.Kept.{AreSeen}
use Rattle.helper_set.proofs.TakenLemmas.{if-ok}
use Rattle.helper_set.proofs.set.resolved.Goals as goal

pub returns : goal.returns
returns c =
    if-ok c.resolved_at.result
    (λ inner is sight seen.
    is sight (subst (λ l. AreSeen l sight c.args.now) (sym c.as_slice.ensures) seen)
    ∙ ap (λ l. helped (changes_for sight c.args.service l c.args.wished.now)) (c.deref.ensures.value ∙ c.in_ok-places.ensures))
    c.resolved_at.ensures
