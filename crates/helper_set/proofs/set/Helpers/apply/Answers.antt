use Rattle.std.proofs.Common.{subst}
use Rattle.helper_set.specs.Changes.{Changes}
use Rattle.helper_set.proofs.StandLemmas.{changes-stand}
use Rattle.helper_set.proofs.TakenLemmas.{ok-then}
use Rattle.helper_set.proofs.set.Helpers.apply.Goals as goal

pub returns : goal.returns
returns c =
    let kept = c.args.self.now.kept in
    let new = c.change_all.new.kept in
    ok-then c.change_all.result
    (λ made j x some stands changes still is.
    changes-stand j x some kept.items new.items c.args.self.now.timers c.change_all.new.timers stands c.args.changes.now c.args.now changes still is
    (subst (λ l. Changes c.args.now l c.args.self.now.timers c.change_all.new.timers kept.items new.items) c.as_slice.ensures (made stands.apart)))
    c.change_all.ensures
