use Rattle.std.proofs.Common.{◌<◌, List, length, take, sym, ap, subst, ◌∙◌}
use Rattle.std.specs.Prelude.{◌^◌}
use Rattle.unit_book.specs.Book.{AreAt, Origin, config_at, firsts_of, listed_in}
use Rattle.unit_book.proofs.BookLemmas.{alike-there}
use Rattle.unit_book.proofs.FirstLemmas.{names-count}
use Rattle.unit_book.proofs.book.made.Goals as goal

pub names_at-requires : goal.names_at-requires
names_at-requires c = (c.requires.us, subst (λ (os : List Origin). AreAt c.args.journal.now os c.requires.us) (sym c.as_slice.ensures.value) c.requires.units_are)

pub firsts_of-requires-clause-few : goal.firsts_of-requires-clause-few
firsts_of-requires-clause-few c =
    let us = c.requires.us in
    let names = c.in_ok-names.ensures us (subst (λ (os : List Origin). AreAt c.args.journal.now os us) (sym c.as_slice.ensures.value) c.requires.units_are) in
    subst (λ n. n < 2 ^ 32) (sym (ap length (c.as_slice-2.ensures ∙ names) ∙ names-count us)) c.requires.few

pub firsts_of-requires-clause-known : goal.firsts_of-requires-clause-known
firsts_of-requires-clause-known c =
    let us = c.requires.us in
    let names = c.in_ok-names.ensures us (subst (λ (os : List Origin). AreAt c.args.journal.now os us) (sym c.as_slice.ensures.value) c.requires.units_are) in
    c.requires.known_are ∙ (λ i. take (length c.args.known.now) (firsts_of (sym (c.as_slice-2.ensures ∙ names) i)))

pub returns : goal.returns
returns c f config sound units =
    let names = c.in_ok-names.ensures f.units (subst (λ (os : List Origin). AreAt c.args.journal.now os f.units) (sym c.as_slice.ensures.value) units) in
    let there = alike-there f.config (config_at c.args.journal.now c.args.latest) config in
    record {
      config_is = config;
      units_are = units;
      names_are = names;
      firsts_are = c.in_ok-firsts.ensures ∙ ap firsts_of c.as_slice-2.ensures;
      sound = sound;
      listed_are = c.in_ok-listed.ensures there.0 there.1 ∙ (λ i. listed_in (there.2 i) (c.as_slice-3.ensures i));
    }
