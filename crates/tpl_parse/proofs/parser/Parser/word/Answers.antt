use Rattle.std.proofs.Common.{rules}
use Rattle.tpl_parse.proofs.Words.{word_is_utf8}
use Rattle.tpl_parse.proofs.parser.Parser.word.Goals as goal

pub returns-clause-utf8 : goal.returns-clause-utf8
returns-clause-utf8 c = word_is_utf8 c.args.self.now c.before-2.result.now (search rules)
