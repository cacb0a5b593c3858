use Rattle.std.proofs.Common.{◌≡◌, ◌≤◌, ◌<◌, ◌+◌, ◌∙◌, sym, subst, arith, length, map}
use Rattle.std.specs.Prelude.{◌^◌, slice_index_or}
use Rattle.ha_config.specs.Words.{up_to}
use Rattle.segment_runs.specs.Segment.{number_at}
use Rattle.named_runs.specs.Named.{first_in, runs_named}
use Rattle.named_runs.proofs.CountLemmas.{numbers-more}
use Rattle.named_runs.proofs.TableLemmas.{count-few, count-of}
use Rattle.named_runs.proofs.counts.last_numbers.Goals as goal

pub first_of-first-requires : goal.first_of-first-requires
first_of-first-requires c = c.units-test.true

pub number_of-requires-clause-few : goal.number_of-requires-clause-few
number_of-requires-clause-few c =
    subst (λ n. slice_index_or c.args.counts.now c.first_of-first.result 0 ≤ n) (sym c.count-all.ensures.value)
    (count-few c.args.firsts.now c.args.counts.now c.args.runs.now c.units.at c.first_of-first.result c.requires c.first_of-first.ensures)

pub number_of-requires-clause-small : goal.number_of-requires-clause-small
number_of-requires-clause-small c = c.count-all.ensures.few

pub number_of-requires-clause-before : goal.number_of-requires-clause-before
number_of-requires-clause-before c = subst (λ n. n < 2 ^ 62) (sym c.carried-before.ensures) (c.requires.small c.units.at)

pub units-preserved : goal.units-preserved
units-preserved c =
    let fs = c.args.firsts.now in
    let t = c.args.runs.now in
    numbers-more (λ a. number_at t.closed.numbers a + runs_named fs (first_in fs a) t.list) c.units.at c.units.made.items _ c.number_of.result c.units.invariant
    (c.number_of.ensures ∙ (λ i. c.carried-before.ensures i + count-of fs c.args.counts.now t c.units.at c.first_of-first.result c.requires c.first_of-first.ensures i)) c.in_ok-push.ensures.items

pub returns : goal.returns
returns c =
    let end : c.units.at ≡ length c.args.firsts.now = omega (arith, c.units.auto.at-end, c.units-test.false) in
    c.units.invariant
    ∙ (λ i. map (λ a. number_at c.args.runs.now.closed.numbers a + runs_named c.args.firsts.now (first_in c.args.firsts.now a) c.args.runs.now.list) (up_to (end i)))
