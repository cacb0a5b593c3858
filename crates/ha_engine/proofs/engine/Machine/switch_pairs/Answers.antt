use Rattle.std.proofs.Common.{◌∙◌, ap, subst}
use Rattle.std.proofs.lemmas.Result.{IfOk-weaker}
use Rattle.ha_config.specs.Names.{names_of}
use Rattle.ha_journal.specs.Journal.{Journal}
use Rattle.ha_whole.specs.Segments.{segment}
use Rattle.segment_carry.specs.ByName.{listed}
use Rattle.segment_carry.specs.Closing.{flag_in}
use Rattle.switch_book.specs.Book.{StandsFor}
use Rattle.ha_engine.specs.Core.{Core}
use Rattle.ha_engine.proofs.SameLemmas.{switches-placed}
use Rattle.ha_engine.proofs.engine.Machine.switch_pairs.Goals as goal

pub returns : goal.returns
returns c =
    let followed = c.self.invariant.followed (ap (λ (v : Core). v.is_spent) c.self.view_is ∙ c.requires) in
    let s : Journal = segment c.args.self.now.entries in
    let stands : StandsFor c.self.inside.parts.switches s = subst (λ (v : Core). StandsFor c.self.inside.parts.switches (segment v.entries)) c.self.view_is followed.kept.going.sees.switches_stand in
    let names = c.as_slice.ensures ∙ c.in_ok-names.ensures ∙ ap names_of c.rules.ensures in
    IfOk-weaker c.switches.result _ _
    (λ made h. h ∙ (λ i. listed (names i) (flag_in c.self.inside.parts.switches) (c.ordered.ensures i)) ∙ switches-placed s c.self.inside.parts.switches stands) c.switches.ensures
