use Rattle.std.proofs.Common.{◌∙◌, ap}
use Rattle.ha_model.specs.Lawful.{is_empty}
use Rattle.ha_whole.specs.Segments.{segment}
use Rattle.ha_whole.specs.Whole.{is_quiet}
use Rattle.engine_parts.proofs.KeptLemmas.{kept-ready, counted}
use Rattle.ha_engine.specs.Core.{Core}
use Rattle.ha_engine.proofs.FollowedLemmas.{told-quiet}
use Rattle.ha_engine.proofs.engine.Machine.is_quiet.Goals as goal

pub returns : goal.returns
returns c =
    let j = c.self.inside.journal.items in
    let t = c.self.inside.runs in
    let told = c.self.invariant.told in
    let followed = c.self.invariant.followed (ap (λ (v : Core). v.is_spent) c.self.view_is ∙ c.requires) in
    counted c.self.inside.parts.ready.pairs.items c.len.result (c.len.ensures ∙ c.self.inside.parts.ready.pairs.ok.0)
    ∙ ap is_empty (kept-ready (segment j) t.list c.self.inside.parts told.own_right followed.kept)
    ∙ told-quiet j c.self.inside.bounds c.self.inside.book t told
    ∙ ap (λ (v : Core). is_quiet v.runs v.entries) c.self.view_is
