use Rattle.std.proofs.Common.{◌∙◌, ℕ, refl, sym, ap, subst}
use Rattle.std.specs.Prelude.{Some}
use Rattle.event_bus.specs.Subjects.{by_read, knows}
use Rattle.tpl_reads.specs.Reads.{Written}
use Rattle.wait_set.specs.Readers.{AreIndexed, hears, read_by}
use Rattle.wait_set.proofs.ReaderLemmas.{all-taken, indexed-one, read-here, read-others}
use Rattle.wait_set.proofs.readers.put_in.Goals as goal

pub list-requires : goal.list-requires
list-requires c s = c.requires.indexed s c.args.owner ∙ ap (hears s) c.requires.none

pub returns-in_err-list-clause-indexed : goal.returns-in_err-list-clause-indexed
returns-in_err-list-clause-indexed c =
    let reads = c.args.reads.now.entries in
    indexed-one c.args.owner reads reads (knows c.args.index.now) (knows c.list.new.index)
    (λ s. c.in_err-list.ensures.err s ∙ ap (hears s) (sym c.requires.none)) (λ n apart. refl) c.list.ensures.others c.requires.indexed

pub returns-in-Ok-clause-indexed : goal.returns-in-Ok-clause-indexed
returns-in-Ok-clause-indexed c =
    let old = c.args.reads.now in
    let new = c.insert.new.self in
    let updates = c.in-Ok.ensures.updates in
    indexed-one c.args.owner old.entries new.entries (knows c.args.index.now) (knows c.list.new.index)
    (λ s. c.in_ok-list.ensures.own s ∙ ap (hears s) (sym (read-here old new c.args.owner (Some c.args.read) updates)))
    (read-others old new c.args.owner (Some c.args.read) updates) c.list.ensures.others c.requires.indexed

pub returns-in-Ok-clause-own : goal.returns-in-Ok-clause-own
returns-in-Ok-clause-own c = read-here c.args.reads.now c.insert.new.self c.args.owner (Some c.args.read) c.in-Ok.ensures.updates

pub returns-in-Ok-clause-others : goal.returns-in-Ok-clause-others
returns-in-Ok-clause-others c = read-others c.args.reads.now c.insert.new.self c.args.owner (Some c.args.read) c.in-Ok.ensures.updates

pub returns-clause-indexed : goal.returns-clause-indexed
returns-clause-indexed c =
    let reads = c.args.reads.now.entries in
    subst (λ es. AreIndexed es (knows c.unlist.new.index)) (sym c.in-Err.ensures.err)
    (indexed-one c.args.owner reads reads (knows c.args.index.now) (knows c.unlist.new.index)
    (λ s. all-taken (by_read c.in-Err.failed.value.1 s) (knows c.list.new.index s c.args.owner) (knows c.unlist.new.index s c.args.owner)
    (c.in_ok-list.ensures.own s ∙ ap (λ (pair : ℕ × Written). by_read pair.1 s) (sym c.in-Err.ensures.value_returned)) (c.unlist.ensures.own s) ∙ ap (hears s) (sym c.requires.none))
    (λ n apart. refl) (λ s n apart. c.unlist.ensures.others s n apart ∙ c.list.ensures.others s n apart) c.requires.indexed)

pub returns-clause-others : goal.returns-clause-others
returns-clause-others c n apart = ap (read_by n) c.in-Err.ensures.err
