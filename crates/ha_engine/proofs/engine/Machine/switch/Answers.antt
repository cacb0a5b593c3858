use Rattle.std.proofs.Common.{◌∙◌, ap}
use Rattle.ha_whole.specs.Segments.{segment}
use Rattle.ha_whole.specs.Whole.{switch_of}
use Rattle.ha_engine.specs.Core.{Core}
use Rattle.ha_engine.proofs.engine.Machine.switch.Goals as goal

pub returns : goal.returns
returns c =
    let followed = c.self.invariant.followed (ap (λ (v : Core). v.is_spent) c.self.view_is ∙ c.requires) in
    c.is_on.ensures.stands (segment c.self.inside.journal.items) followed.kept.going.sees.switches_stand ∙ ap (λ (v : Core). switch_of v.entries c.args.automation) c.self.view_is
