use Rattle.std.proofs.Common.{◌≡◌, ◌∙◌, ◌+◌, ap, sym, true}
use Rattle.conf_auto.specs.Names as names
use Rattle.conf_auto.proofs.Numbers.{number_further}
use Rattle.conf_auto.proofs.names.with_number.Goals as goal

pub numbers-preserved : goal.numbers-preserved
numbers-preserved c =
    let all = c.args.all.now in
    let name = c.args.name.now in
    let k = c.numbers.k in
    let same = ap (names.is_taken all) (c.bytes.ensures.value ∙ c.in_ok-candidate.ensures) in
    let taken : names.is_taken all (names.numbered name (k + 2)) ≡ true = sym same ∙ sym c.is_taken_by.ensures ∙ c.if-not-is_taken_by.false in
    c.numbers.invariant ∙ number_further all name k c.numbers-test.true taken
