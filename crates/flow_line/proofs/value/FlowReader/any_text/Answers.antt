use Rattle.std.proofs.Common.{string_bytes}
use Rattle.std.proofs.lemmas.Result.{err_from_is_err_and}
use Rattle.flow_line.proofs.Strings.{character_fails, shorter_now, one_further, whole_text}
use Rattle.flow_line.proofs.value.FlowReader.any_text.Goals as goal

pub returns-in_err-c : goal.returns-in_err-c
returns-in_err-c c =
    let p = err_from_is_err_and c.from_residual.result c.from_residual.ensures.1 in
    rw (p.1, p.2) (character_fails c.args.self.now c.characters.self c.eat.new.self c.characters.invariant.0 c.eat.result c.characters.invariant.2 c.eat.ensures.found c.eat.ensures.rest c.characters-test.true c.in_err-c.field-0.0 c.character.new.self c.in_err-c.ensures)

pub characters-smaller : goal.characters-smaller
characters-smaller c =
    shorter_now c.args.self.now c.characters.self c.eat.new.self c.characters.invariant.0 c.eat.result c.characters.invariant.2 c.eat.ensures.found c.eat.ensures.rest c.characters-test.true c.in_ok-c.c c.character.new.self c.in_ok-c.ensures

pub characters-preserved : goal.characters-preserved
characters-preserved c =
    one_further c.args.self.now c.characters.self c.eat.new.self c.characters.invariant.0 c.eat.result c.characters.invariant.2 c.eat.ensures.found c.eat.ensures.rest c.characters-test.true c.in_ok-c.c c.character.new.self
    (string_bytes c.characters.text) (string_bytes c.push.new.self) c.in_ok-c.ensures c.characters.invariant.1 c.in_ok-push.ensures.bytes

pub returns : goal.returns
returns c =
    whole_text c.args.self.now c.characters.self c.eat.new.self c.characters.invariant.0 c.eat.result c.characters.invariant.2 c.eat.ensures.found c.eat.ensures.rest c.characters-test.false c.in_ok-word.word (string_bytes c.characters.text) c.characters.invariant.1 c.in_ok-word.ensures
