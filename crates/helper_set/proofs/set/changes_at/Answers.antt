use Rattle.std.proofs.Common.{◌∙◌, ◌++◌, get_or, sym}
use Rattle.std.specs.Option.{option_to_list}
use Rattle.ha_sight.specs.Services.{change_at}
use Rattle.helper_set.proofs.ListLemmas.{filter-more, same-or}
use Rattle.helper_set.proofs.set.changes_at.Goals as goal

pub loop-i-preserved : goal.loop-i-preserved
loop-i-preserved c sight seen =
    let places = c.args.places.now in
    let i = c.loop-i.i in
    let p = get_or places i 0 in
    c.in_ok-push_change.ensures
    ∙ (λ k. c.loop-i.invariant sight seen k ++ option_to_list (c.in_ok-change_at.ensures sight seen k))
    ∙ sym (filter-more (change_at sight c.args.service c.args.wanted.now) places i p c.loop-i-test.true (same-or places i 0 p c.loop-i-test.true))
