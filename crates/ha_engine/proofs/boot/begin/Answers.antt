use Rattle.std.proofs.Common.{[], ◌∙◌, ap, length}
use Rattle.std.specs.Prelude.{Bool, nat_lt}
use Rattle.std.specs.List.{list_all}
use Rattle.std.specs.Global.{Vec}
use Rattle.ha_journal.specs.Journal.{names}
use Rattle.unit_book.proofs.FirstLemmas.{firsts-within}
use Rattle.ha_engine.proofs.AdmitLemmas.{known-stack}
use Rattle.ha_engine.proofs.OpeningLemmas.{begun-is}
use Rattle.ha_engine.proofs.boot.begin.Goals as goal

pub make-requires : goal.make-requires
make-requires c = (λ i. list_all (λ n. nat_lt n (length (c.requires.firsts i))) (c.requires.firsts i)) ∙ firsts-within (names c.args.journal.now)

pub admit_first-requires-clause-known : goal.admit_first-requires-clause-known
admit_first-requires-clause-known c =
    known-stack c.args.journal.now c.make_room.new.runs.firsts c.in_ok-parts.stack.items (c.make_room.ensures.firsts ∙ c.in_ok-runs.ensures.firsts ∙ c.requires.firsts) c.in_ok-parts.ensures.prepared

pub returns-clause-runs : goal.returns-clause-runs
returns-clause-runs c =
    let k = c.args.journal.now in
    (c.admit_first.ensures.begun k (begun-is k c.args.switches c.args.zone c.args.start c.requires.begun) (c.make_room.ensures.firsts ∙ c.in_ok-runs.ensures.firsts ∙ c.requires.firsts)
    (c.in_ok-make_room.ensures.going k [] c.in_ok-parts.ensures.going)
    (ap (λ (v : Vec Bool). v.items) c.in_ok-make_room.ensures.rested ∙ c.in_ok-parts.ensures.rested) c.in_ok-parts.ensures.prepared).0

pub returns-clause-right : goal.returns-clause-right
returns-clause-right c =
    let k = c.args.journal.now in
    (c.admit_first.ensures.begun k (begun-is k c.args.switches c.args.zone c.args.start c.requires.begun) (c.make_room.ensures.firsts ∙ c.in_ok-runs.ensures.firsts ∙ c.requires.firsts)
    (c.in_ok-make_room.ensures.going k [] c.in_ok-parts.ensures.going)
    (ap (λ (v : Vec Bool). v.items) c.in_ok-make_room.ensures.rested ∙ c.in_ok-parts.ensures.rested) c.in_ok-parts.ensures.prepared).1

pub returns-clause-kept : goal.returns-clause-kept
returns-clause-kept c =
    let k = c.args.journal.now in
    (c.admit_first.ensures.begun k (begun-is k c.args.switches c.args.zone c.args.start c.requires.begun) (c.make_room.ensures.firsts ∙ c.in_ok-runs.ensures.firsts ∙ c.requires.firsts)
    (c.in_ok-make_room.ensures.going k [] c.in_ok-parts.ensures.going)
    (ap (λ (v : Vec Bool). v.items) c.in_ok-make_room.ensures.rested ∙ c.in_ok-parts.ensures.rested) c.in_ok-parts.ensures.prepared).2

pub returns-clause-firsts : goal.returns-clause-firsts
returns-clause-firsts c = c.admit_first.ensures.firsts ∙ c.make_room.ensures.firsts ∙ c.in_ok-runs.ensures.firsts
