use Rattle.std.proofs.Common.{◌≤◌, ℕ, ◌-◌, arith, subst, sym}
use Rattle.ha_clock.specs.Local.{last_moment}
use Rattle.ha_config.specs.Words.{Text}
use Rattle.store_text.proofs.OrderLemmas.{moment-at}
use Rattle.store_text.proofs.write.moments_object.Goals as goal

pub moment_value-requires : goal.moment_value-requires
moment_value-requires c =
    let before = c.loop-left.left - 1 in
    subst (λ (p : Text × ℕ). p.1 ≤ last_moment) (sym c.index-last-left.is)
    (moment-at c.args.last.now before c.index-last-left.result c.requires.in_time (omega (arith, c.loop-left.invariant.within, c.loop-left-test.true)))
