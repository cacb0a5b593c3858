use Rattle.std.proofs.lemmas.Result.{err_from_is_err_and}
use Rattle.tpl_parse.proofs.Strings.{string_ends, string_fails, string_smaller, string_goes_on}
use Rattle.tpl_parse.proofs.parser.Parser.string.Goals as goal

pub characters-smaller : goal.characters-smaller
characters-smaller c =
    string_smaller c.args.quote c.args.self.now c.characters.text c.characters.self c.characters.invariant c.eat.result c.eat.new.self c.eat.ensures.found c.eat.ensures.rest
    c.string_character.new.text c.string_character.new.self c.characters-test.true c.in_ok-string_character.ensures

pub characters-preserved : goal.characters-preserved
characters-preserved c =
    string_goes_on c.args.quote c.args.self.now c.characters.text c.characters.self c.characters.invariant c.eat.result c.eat.new.self c.eat.ensures.found c.eat.ensures.rest
    c.string_character.new.text c.string_character.new.self c.characters-test.true c.in_ok-string_character.ensures

pub returns-in_err-string_character : goal.returns-in_err-string_character
returns-in_err-string_character c =
    let p = err_from_is_err_and c.from_residual.result c.from_residual.ensures.1 in
    rw (p.1, p.2) (string_fails c.args.quote c.args.self.now c.characters.text c.characters.self c.characters.invariant c.eat.result c.eat.new.self c.eat.ensures.found c.eat.ensures.rest
    c.in_err-string_character.field-0.0 c.string_character.new.text c.string_character.new.self c.characters-test.true c.in_err-string_character.ensures)

pub returns : goal.returns
returns c =
    string_ends c.args.quote c.args.self.now c.characters.text c.characters.self c.characters.invariant c.eat.result c.eat.new.self c.eat.ensures.found c.eat.ensures.rest c.characters-test.false
