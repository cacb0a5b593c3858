use Rattle.std.proofs.Common.{◌≡◌, ◌≤◌, ◌+◌, ◌∙◌, ℕ, List, Some, ap, arith, length, refl, subst, sym}
use Rattle.ha_io.proofs.CountLemmas.{Rose-within}
use Rattle.ha_io.proofs.ToldLemmas.{Gives-nothing}
use Rattle.replay_file.specs.declared.front.FrontEnd.{FrontEnd}
use Rattle.replay_file.proofs.FrontLemmas.{goes_on, is_cut, is_longer, is_read, stays}
use Rattle.replay_file.proofs.front.read_front.Goals as goal

pub loop-source-init : goal.loop-source-init
loop-source-init g c = record {
  read = rw c.new-text.ensures.items (Gives-nothing _);
  within = rw c.new-text.ensures.items (omega arith);
  buffer = omega (arith, c.in-Ok.ensures.len);
  faults = omega arith;
  named = refl;
}

pub loop-source-preserved : goal.loop-source-preserved
loop-source-preserved g c =
    let more = rw c.in-Ok-None.field-0-is at c.in-Ok-None.ensures.read in
    record {
      read = goes_on (c.args.bound + 1) _ _ _ c.loop-source.text.items c.read_more.new.text.items c.loop-source.invariant.read more;
      within = more.3;
      buffer = c.loop-source.invariant.buffer;
      faults = omega (arith, c.loop-source.invariant.faults, c.in-Ok-None.ensures.never_falls);
      named = c.in-Ok-None.ensures.same_name ∙ c.loop-source.invariant.named;
    }

pub loop-source-smaller : goal.loop-source-smaller
loop-source-smaller g c =
    let more = rw c.in-Ok-None.field-0-is at c.in-Ok-None.ensures.read in
    let longer = is_longer (c.args.bound + 1) _ _ c.loop-source.text.items c.read_more.new.text.items more in
    omega (arith, longer, c.loop-source-test.true, c.len.ensures)

pub returns-in-Ok-Some-clause-read : goal.returns-in-Ok-Some-clause-read
returns-in-Ok-Some-clause-read g c =
    let last = rw c.in-Ok-Some.field-0-is at c.in-Ok-Some.ensures.read in
    is_read c.args.bound (c.args.bound + 1) _ _ _ c.loop-source.text.items c.read_more.new.text.items c.in-Ok-Some.end c.loop-source.invariant.read last

pub returns-in-Ok-Some-clause-short : goal.returns-in-Ok-Some-clause-short
returns-in-Ok-Some-clause-short g c =
    let last = rw c.in-Ok-Some.field-0-is at c.in-Ok-Some.ensures.read in
    let same = stays (c.args.bound + 1) _ _ c.loop-source.text.items c.read_more.new.text.items c.in-Ok-Some.end last in
    let low : length c.loop-source.text.items ≤ c.args.bound = omega (arith, c.loop-source-test.true, c.len.ensures) in
    subst (λ (t : List ℕ). length t ≤ c.args.bound) (sym same) low

pub returns-in-Ok-Some-clause-failed : goal.returns-in-Ok-Some-clause-failed
returns-in-Ok-Some-clause-failed g c = λ e.
    Rose-within _ _ _ _ c.loop-source.invariant.faults (c.in-Ok-Some.ensures.failed (c.in-Ok-Some.field-0-is ∙ ap (λ (x : FrontEnd). Some x) e)) (omega arith)

pub returns-clause-failed : goal.returns-clause-failed
returns-clause-failed g c = λ e. absurd (let bad : ◌≡◌ {A = FrontEnd} FrontEnd.TooLong FrontEnd.Failed = e in cc)

pub returns-clause-read : goal.returns-clause-read
returns-clause-read g c = is_cut c.args.bound _ _ c.loop-source.text.items c.truncate.new.self.items c.loop-source.invariant.read (omega (arith, c.loop-source-test.false, c.len.ensures)) c.loop-source.invariant.within c.truncate.ensures.items
