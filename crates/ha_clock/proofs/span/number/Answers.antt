use Rattle.std.proofs.Common.{◌≡◌, ◌<◌, length, get_or, true, false, refl, sym, ap, arith, rules}
use Rattle.std.specs.Char.{is_ascii_digit}
use Rattle.ha_clock.specs.SpanText.{within_bound}
use Rattle.ha_clock.proofs.SpanLemmas.{number_of-empty, progress_end, progress_next, progress_other, progress_over}
use Rattle.ha_clock.proofs.span.number.Goals as goal

pub returns-then-is_empty-clause-value : goal.returns-then-is_empty-clause-value
returns-then-is_empty-clause-value c =
    let empty : length c.args.text.now ≡ 0 = search rules in
    sym (ap within_bound (number_of-empty c.args.text.now empty))

pub returns-then-not-is_ascii_digit-clause-value :
    goal.returns-then-not-is_ascii_digit-clause-value
returns-then-not-is_ascii_digit-clause-value c =
    let other : is_ascii_digit (get_or c.args.text.now c.loop-byte.byte-index 0) ≡ false = search rules in
    sym (progress_other c.args.text.now _ _ c.loop-byte.invariant c.loop-byte-test.true other)

pub returns-then-number-gt-MOST_SECONDS-clause-value :
    goal.returns-then-number-gt-MOST_SECONDS-clause-value
returns-then-number-gt-MOST_SECONDS-clause-value c =
    let digit : is_ascii_digit (get_or c.args.text.now c.loop-byte.byte-index 0) ≡ true = search rules in
    sym (progress_over c.args.text.now _ _ _ c.loop-byte.invariant c.loop-byte-test.true digit refl c.if-number-gt-MOST_SECONDS.true)

pub loop-byte-preserved : goal.loop-byte-preserved
loop-byte-preserved c =
    let digit : is_ascii_digit (get_or c.args.text.now c.loop-byte.byte-index 0) ≡ true = search rules in
    progress_next c.args.text.now _ _ _ c.loop-byte.invariant c.loop-byte-test.true digit refl c.if-number-gt-MOST_SECONDS.false

pub returns-clause-value : goal.returns-clause-value
returns-clause-value c =
    let ended : c.loop-byte.byte-index ≡ length c.args.text.now = omega arith in
    let some : 0 < length c.args.text.now = search rules in
    progress_end c.args.text.now _ _ c.loop-byte.invariant ended some
