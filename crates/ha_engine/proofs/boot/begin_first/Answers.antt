use Rattle.std.proofs.Common.{◌≡◌, List, ℕ, sym, subst, ap, ◌∙◌, arith}
use Rattle.std.specs.Prelude.{IfOk}
use Rattle.ha_journal.specs.Force.{force}
use Rattle.ha_journal.specs.Journal.{Journal}
use Rattle.ha_model.specs.Records.{records_of}
use Rattle.ha_model.specs.Lawful.{Right}
use Rattle.unit_book.specs.Book.{Holds}
use Rattle.engine_parts.specs.Kept.{Kept}
use Rattle.engine_parts.specs.Numbers.{numbers_in}
use Rattle.ha_engine.specs.Begun.{Begun}
use Rattle.ha_engine.specs.Named.{AreFirsts}
use Rattle.ha_engine.proofs.FollowedLemmas.{firsts-told}
use Rattle.ha_engine.proofs.OpeningLemmas.{begun-boot, begun-is, begun-length, begun-seen}
use Rattle.ha_engine.proofs.boot.begin_first.Goals as goal

pub make-segment-requires-clause-boot : goal.make-segment-requires-clause-boot
make-segment-requires-clause-boot c = begun-boot c.args.journal.now (begun-is c.args.journal.now c.args.switches c.args.zone c.args.start c.requires.begun)

pub make-segment-requires-clause-front : goal.make-segment-requires-clause-front
make-segment-requires-clause-front c = omega (arith, begun-length c.args.journal.now (begun-is c.args.journal.now c.args.switches c.args.zone c.args.start c.requires.begun))

pub make-segment-requires-clause-few : goal.make-segment-requires-clause-few
make-segment-requires-clause-few c = omega (arith, begun-length c.args.journal.now (begun-is c.args.journal.now c.args.switches c.args.zone c.args.start c.requires.begun))

pub make-segment-requires-clause-held : goal.make-segment-requires-clause-held
make-segment-requires-clause-held c =
    let is = begun-seen c.args.journal.now (begun-is c.args.journal.now c.args.switches c.args.zone c.args.start c.requires.begun) in
    subst (λ (i : Journal). Holds c.args.journal.now (force i) c.args.book.now) (sym is) c.requires.holds

pub begin-requires-clause-begun : goal.begin-requires-clause-begun
begin-requires-clause-begun c =
    let is = c.make-segment.ensures ∙ begun-seen c.args.journal.now (begun-is c.args.journal.now c.args.switches c.args.zone c.args.start c.requires.begun) in
    subst (λ (i : Journal). Begun i c.args.switches c.args.zone c.args.start) (sym is) c.requires.begun

pub begin-requires-clause-numbers : goal.begin-requires-clause-numbers
begin-requires-clause-numbers c =
    let is = c.make-segment.ensures ∙ begun-seen c.args.journal.now (begun-is c.args.journal.now c.args.switches c.args.zone c.args.start c.requires.begun) in
    c.requires.numbers ∙ ap numbers_in (sym is)

pub begin-requires-clause-firsts : goal.begin-requires-clause-firsts
begin-requires-clause-firsts c =
    let is = c.make-segment.ensures ∙ begun-seen c.args.journal.now (begun-is c.args.journal.now c.args.switches c.args.zone c.args.start c.requires.begun) in
    let own : AreFirsts c.args.journal.now c.firsts.result.now = c.firsts.ensures ∙ firsts-told c.args.journal.now c.args.journal.now c.args.book.now c.requires.holds in
    subst (λ (i : Journal). AreFirsts i c.firsts.result.now) (sym is) own

pub returns-clause-runs : goal.returns-clause-runs
returns-clause-runs c =
    let is = c.make-segment.ensures ∙ begun-seen c.args.journal.now (begun-is c.args.journal.now c.args.switches c.args.zone c.args.start c.requires.begun) in
    subst (λ (i : Journal). IfOk c.begin.result (λ x. x.0.list ≡ records_of i)) is c.begin.ensures.runs

pub returns-clause-right : goal.returns-clause-right
returns-clause-right c =
    let is = c.make-segment.ensures ∙ begun-seen c.args.journal.now (begun-is c.args.journal.now c.args.switches c.args.zone c.args.start c.requires.begun) in
    subst (λ (i : Journal). IfOk c.begin.result (λ x. Right i x.0.list)) is c.begin.ensures.right

pub returns-clause-kept : goal.returns-clause-kept
returns-clause-kept c =
    let is = c.make-segment.ensures ∙ begun-seen c.args.journal.now (begun-is c.args.journal.now c.args.switches c.args.zone c.args.start c.requires.begun) in
    subst (λ (i : Journal). IfOk c.begin.result (λ x. Kept i x.0.list x.1)) is c.begin.ensures.kept

pub returns-clause-firsts : goal.returns-clause-firsts
returns-clause-firsts c = subst (λ (l : List ℕ). IfOk c.begin.result (λ x. x.0.firsts ≡ l)) c.firsts.ensures c.begin.ensures.firsts
