use Rattle.std.proofs.Common.{◌≡◌, ◌<◌, length, get_or, true, false, sym, arith, rules}
use Rattle.std.specs.Char.{is_ascii_digit}
use Rattle.conf_field.proofs.DigitSteps.{counted-empty, progress_end, progress_next, progress_other}
use Rattle.conf_field.proofs.count.digits.Goals as goal

pub returns-then-is_empty-clause-value : goal.returns-then-is_empty-clause-value
returns-then-is_empty-clause-value c =
    let empty : length c.args.text.now ≡ 0 = search rules in
    sym (counted-empty c.args.most c.args.text.now empty)

pub returns-then-not-is_ascii_digit-clause-value : goal.returns-then-not-is_ascii_digit-clause-value
returns-then-not-is_ascii_digit-clause-value c =
    let other : is_ascii_digit (get_or c.args.text.now c.loop-byte.byte-index 0) ≡ false = search rules in
    sym (progress_other c.args.most c.args.text.now _ _ c.loop-byte.invariant c.loop-byte-test.true other)

pub loop-byte-preserved : goal.loop-byte-preserved
loop-byte-preserved c =
    let digit : is_ascii_digit (get_or c.args.text.now c.loop-byte.byte-index 0) ≡ true = search rules in
    progress_next c.args.most c.args.text.now _ _ _ c.loop-byte.invariant c.loop-byte-test.true digit c.next-number.ensures.value

pub returns-clause-value : goal.returns-clause-value
returns-clause-value c =
    let ended : c.loop-byte.byte-index ≡ length c.args.text.now = omega arith in
    let some : 0 < length c.args.text.now = search rules in
    progress_end c.args.most c.args.text.now _ _ c.loop-byte.invariant ended some
