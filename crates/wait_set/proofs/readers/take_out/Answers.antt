use Rattle.std.proofs.Common.{◌≡◌, ◌∙◌, ap, refl, sym}
use Rattle.std.specs.Prelude.{Some, None}
use Rattle.event_bus.specs.Subjects.{knows}
use Rattle.wait_set.specs.Readers.{hears, read_by}
use Rattle.wait_set.proofs.ReaderLemmas.{found-is, indexed-one, known-none, read-here, read-others}
use Rattle.wait_set.proofs.readers.take_out.Goals as goal

pub returns-in-Some-clause-indexed : goal.returns-in-Some-clause-indexed
returns-in-Some-clause-indexed c =
    let old = c.args.reads.now in
    let new = c.remove.new.self in
    let o = c.args.owner in
    let updates = c.remove.ensures.updates in
    let there : read_by o old.entries ≡ Some c.in-Some.read = sym (c.in-Some.ensures.value ∙ found-is o old.entries) in
    indexed-one o old.entries new.entries (knows c.args.index.now) (knows c.unlist.new.index)
    (λ s. known-none s c.in-Some.read o old.entries new.entries (knows c.args.index.now s o) (knows c.unlist.new.index s o) there (read-here old new o None updates) (c.requires s o) (c.unlist.ensures.own s))
    (read-others old new o None updates) c.unlist.ensures.others c.requires

pub returns-in-Some-clause-gone : goal.returns-in-Some-clause-gone
returns-in-Some-clause-gone c = read-here c.args.reads.now c.remove.new.self c.args.owner None c.remove.ensures.updates

pub returns-in-Some-clause-others : goal.returns-in-Some-clause-others
returns-in-Some-clause-others c = read-others c.args.reads.now c.remove.new.self c.args.owner None c.remove.ensures.updates

pub returns-in-None-clause-indexed : goal.returns-in-None-clause-indexed
returns-in-None-clause-indexed c =
    let old = c.args.reads.now in
    let new = c.remove.new.self in
    let o = c.args.owner in
    let updates = c.remove.ensures.updates in
    let none : read_by o old.entries ≡ None = sym (c.in-None.ensures.value ∙ found-is o old.entries) in
    indexed-one o old.entries new.entries (knows c.args.index.now) (knows c.args.index.now)
    (λ s. c.requires s o ∙ ap (hears s) (none ∙ sym (read-here old new o None updates))) (read-others old new o None updates) (λ s n apart. refl) c.requires

pub returns-in-None-clause-gone : goal.returns-in-None-clause-gone
returns-in-None-clause-gone c = read-here c.args.reads.now c.remove.new.self c.args.owner None c.remove.ensures.updates

pub returns-in-None-clause-others : goal.returns-in-None-clause-others
returns-in-None-clause-others c = read-others c.args.reads.now c.remove.new.self c.args.owner None c.remove.ensures.updates
