use Rattle.std.proofs.Common.{◌∙◌, ap, sym}
use Rattle.conf_field.specs.Fields.{Pair, names}
use Rattle.conf_field.proofs.Finds.{at_index, found_here}
use Rattle.conf_field.proofs.table.field_at.Goals as goal

pub returns-then-names-clause-value : goal.returns-then-names-clause-value
returns-then-names-clause-value c =
    let pairs = c.args.pairs.now in
    let row = c.args.row in
    let x = c.index-pairs-i.result in
    let test = λ (p : Pair). names row p.0 in
    let here = sym c.index-pairs-i.is in
    let passes = ap (names row) (sym c.bytes.ensures.value) ∙ sym c.names.ensures ∙ c.if-names.true in
    c.pairs.invariant ∙ found_here test pairs c.pairs.i x c.pairs-test.true here passes ∙ sym (at_index pairs c.pairs.i x c.pairs-test.true here)
