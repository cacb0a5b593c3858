use Rattle.std.proofs.Common.{◌∙◌, ap}
use Rattle.std.specs.Prelude.{◌&&◌}
use Rattle.ha_journal.specs.Commands.{lets_reload}
use Rattle.ha_engine.specs.Core.{Core}
use Rattle.ha_engine.proofs.PlainLemmas.{lets-told}
use Rattle.ha_engine.proofs.engine.Machine.enters.Goals as goal

pub returns : goal.returns
returns c =
    let lets = c.lets_more.ensures ∙ lets-told c.self.inside.journal.items c.self.inside.reloads c.self.invariant.reloads_are ∙ ap (λ (v : Core). lets_reload v.entries) c.self.view_is in
    c.both.ensures ∙ (λ i. c.brings.ensures i && lets i)
