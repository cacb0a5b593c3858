use Rattle.std.proofs.Common.{rules, sym, ap}
use Rattle.tpl_parse.specs.Reading.{operator_of}
use Rattle.tpl_parse.proofs.Tokens.{found_operator}
use Rattle.tpl_parse.proofs.parser.Parser.operator.Goals as goal

pub returns-in-Some-clause-op : goal.returns-in-Some-clause-op
returns-in-Some-clause-op c =
    ap operator_of (sym (found_operator c.args.operators.now c.rest.result.now c.args.self.now c.skip_spaces.new.self c.standing.result c.in-Some.row c.rest.ensures c.skip_spaces.ensures c.standing.ensures.exact c.in-Some.is))

pub returns-in-Some-clause-rest : goal.returns-in-Some-clause-rest
returns-in-Some-clause-rest c =
    rw (found_operator c.args.operators.now c.rest.result.now c.args.self.now c.skip_spaces.new.self c.standing.result c.in-Some.row c.rest.ensures c.skip_spaces.ensures c.standing.ensures.exact c.in-Some.is) (search rules)
