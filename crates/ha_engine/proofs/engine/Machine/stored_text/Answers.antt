use Rattle.std.proofs.Common.{◌∙◌, ap, sym}
use Rattle.std.proofs.lemmas.Result.{IfOk-weaker}
use Rattle.ha_config.specs.StoreText.{in_name_order, store_of}
use Rattle.ha_config.specs.Words.{Text}
use Rattle.ha_journal.specs.Journal.{Journal}
use Rattle.ha_journal.specs.States.{switches_of}
use Rattle.ha_whole.specs.Lasts.{lasts}
use Rattle.ha_whole.specs.Segments.{segment}
use Rattle.ha_whole.specs.Whole.{store_text}
use Rattle.ha_engine.specs.Core.{Core}
use Rattle.ha_engine.proofs.engine.Machine.stored_text.Goals as goal

pub returns : goal.returns
returns c =
    let j : Journal = c.self.inside.journal.items in
    let followed = c.self.invariant.followed (ap (λ (v : Core). v.is_spent) c.self.view_is ∙ c.requires) in
    let moments = c.in_ok-last.ensures.moments ∙ ap (λ (v : Core). in_name_order (lasts (segment v.entries))) (sym c.self.view_is) in
    IfOk-weaker c.store_text.result _ _
    (λ (w : Text) h. h (segment j) followed.kept.going.sees.switches_stand ∙ (λ i. store_of (switches_of (segment j)) (moments i)) ∙ ap (λ (v : Core). store_text v.entries) c.self.view_is)
    c.store_text.ensures.stands
