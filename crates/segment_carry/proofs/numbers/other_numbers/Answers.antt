use Rattle.std.proofs.Common.{◌∙◌, sym}
use Rattle.segment_carry.proofs.JoinLemmas.{short-behind}
use Rattle.segment_carry.proofs.numbers.other_numbers.Goals as goal

pub returns-then-is_short : goal.returns-then-is_short
returns-then-is_short c = short-behind c.args.last.now c.args.count (sym c.is_short.ensures ∙ c.if-is_short.true)
