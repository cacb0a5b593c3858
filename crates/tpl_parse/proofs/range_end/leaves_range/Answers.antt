use Rattle.std.proofs.Common.{◌∙◌, get_or, sym, ap}
use Rattle.std.specs.Prelude.{◌==◌, is_none}
use Rattle.std.proofs.lemmas.Bool.{and_parts, eqb-true}
use Rattle.tpl_parse.proofs.RangeWalks.{zero_stays, dot_stays, none_is, tried}
use Rattle.tpl_parse.proofs.range_end.leaves_range.Goals as goal

pub returns-then-b-eq46 : goal.returns-then-b-eq46
returns-then-b-eq46 c = sym (dot_stays c.args.digits.now c.args.count c.if-b-eq46.true)

pub returns-then-is_idle : goal.returns-then-is_idle
returns-then-is_idle c =
    let idle = and_parts c.args.placed (get_or c.args.digits.now c.args.count 0 == 48) (sym c.is_idle.ensures ∙ c.if-is_idle.true) in
    sym (zero_stays c.args.digits.now c.args.count c.requires.within (eqb-true (get_or c.args.digits.now c.args.count 0) 48 idle.1) (c.requires.dot idle.0) (c.requires.number idle.0))

pub returns : goal.returns
returns c = none_is c.read.result c.is_none.result c.is_none.ensures ∙ ap is_none c.read.ensures.value ∙ tried c.args.digits.now c.args.count c.if-b-eq46.false
