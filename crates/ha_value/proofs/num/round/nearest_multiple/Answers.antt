use Rattle.std.proofs.Common.{◌≡◌, ◌≤◌, ◌∙◌, unsigned_abs, ◌*◌, arith}
use Rattle.std.proofs.lemmas.Int.{ints}
use Rattle.ha_value.specs.Numbers.{nearest}
use Rattle.ha_value.proofs.NumberLemmas.{negative_multiple, nearest_multiple-le}
use Rattle.ha_value.proofs.num.round.nearest_multiple.Goals as goal

pub returns-then-value-lt0-clause-value : goal.returns-then-value-lt0-clause-value
returns-then-value-lt0-clause-value c =
    let size : c.unsigned_abs.result ≡ unsigned_abs c.args.value = grind (arith, ints) in
    let is : c.nearest.result ≡ nearest (unsigned_abs c.args.value) c.args.place = rw (← size) c.nearest.ensures in
    let room : nearest (unsigned_abs c.args.value) c.args.place * c.args.place ≤ 1_000_000_000_000_000_000 =
    nearest_multiple-le (unsigned_abs c.args.value) c.args.place _ c.requires.place c.requires.divides c.requires.value_room in
    let multiple : c.nearest.result * c.args.place ≤ 1_000_000_000_000_000_000 = rw is room in
    rw is (grind (arith, ints)) ∙ negative_multiple c.args.value c.args.place (grind (arith, ints))
