use Rattle.std.proofs.Common.{◌∙◌, sym, refl, arith, not}
use Rattle.wait_set.specs.Asked.{is_of}
use Rattle.wait_set.specs.Runs.{has_pair}
use Rattle.wait_set.proofs.DropLemmas.{all-stay, unlisted-same, unlisted-then}
use Rattle.wait_set.proofs.waits.drop_ended.Goals as goal

pub asks-init : goal.asks-init
asks-init c = record {
  fits = omega arith;
  rest = refl;
  before = λ n d lt within. absurd (omega (arith, lt));
  found = c.requires;
  unlisted = unlisted-same c.args.asks.now.items (has_pair c.args.runs.now c.args.asked.now.ask.serial);
  others = λ o none. (none, λ s. refl);
  len = omega arith;
  capacity = refl;
}

pub asks-preserved : goal.asks-preserved
asks-preserved c =
    let inv = c.asks.invariant in
    let next = c.drop_next_ended-at.ensures in
    let serial = c.args.asked.now.ask.serial in
    let below = next.len in
    let under = inv.len in
    record {
      fits = next.fits;
      rest = next.rest ∙ inv.rest;
      before = next.before inv.before;
      found = next.found;
      unlisted =
          unlisted-then c.args.asks.now.items c.asks.asks.items c.drop_next_ended-at.new.asks.items
          (has_pair c.args.runs.now serial) (has_pair c.asks.runs serial) (has_pair c.drop_next_ended-at.new.runs serial)
          inv.unlisted next.unlisted;
      others = λ o none. (let here = inv.others o none in let then = next.others o here.0 in (then.0, λ s. then.1 s ∙ here.1 s));
      len = omega (arith, below, under);
      capacity = next.capacity ∙ inv.capacity;
    }

pub returns-clause-rest : goal.returns-clause-rest
returns-clause-rest c =
    let inv = c.asks.invariant in
    let test = c.asks-test.false in
    sym (all-stay (λ b. not (is_of c.args.asked.now.ask.serial c.args.asked.now.ask.branch b)) c.asks.asks.items c.asks.at (omega (arith, test)) inv.before) ∙ inv.rest
