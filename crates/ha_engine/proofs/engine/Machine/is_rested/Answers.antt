use Rattle.std.proofs.Common.{◌≡◌, List, Bool, refl, ap, subst, ◌∙◌}
use Rattle.std.specs.Prelude.{slice_get, Some, None}
use Rattle.std.proofs.lemmas.Option.{slice_get_past, slice_get_read}
use Rattle.ha_whole.specs.Segments.{segment}
use Rattle.ha_whole.specs.Whole.{is_rested}
use Rattle.ha_engine.specs.Core.{Core}
use Rattle.ha_engine.proofs.FollowedLemmas.{told-rested}
use Rattle.ha_engine.proofs.RestedLemmas.{flag-is, no-flag}
use Rattle.ha_engine.proofs.engine.Machine.is_rested.Goals as goal

pub returns-in-Some : goal.returns-in-Some
returns-in-Some c =
    let j = c.self.inside.journal.items in
    let t = c.self.inside.runs in
    let told = c.self.invariant.told in
    let followed = c.self.invariant.followed (ap (λ (v : Core). v.is_spent) c.self.view_is ∙ c.requires) in
    let there = subst (λ (l : List Bool). slice_get l c.args.source ≡ Some c.in-Some.flag.now) c.deref.ensures.value
    (slice_get_read _ _ _ c.in-Some.flag.now refl c.in-Some.ensures.lookup.3.0 c.in-Some.ensures.lookup.1) in
    flag-is (segment j) t.list c.self.inside.parts.rested.items followed.kept.rested_is c.args.source c.in-Some.flag.now there
    ∙ told-rested j c.self.inside.bounds c.self.inside.book t told c.args.source
    ∙ ap (λ (v : Core). is_rested v.runs c.args.source v.entries) c.self.view_is

pub returns-in-None : goal.returns-in-None
returns-in-None c =
    let j = c.self.inside.journal.items in
    let t = c.self.inside.runs in
    let told = c.self.invariant.told in
    let followed = c.self.invariant.followed (ap (λ (v : Core). v.is_spent) c.self.view_is ∙ c.requires) in
    let there = subst (λ (l : List Bool). slice_get l c.args.source ≡ None) c.deref.ensures.value (slice_get_past _ _ c.in-None.ensures.lookup.3) in
    no-flag (segment j) t.list c.self.inside.parts.rested.items followed.kept.rested_is c.args.source there
    ∙ told-rested j c.self.inside.bounds c.self.inside.book t told c.args.source
    ∙ ap (λ (v : Core). is_rested v.runs c.args.source v.entries) c.self.view_is
