use Rattle.std.proofs.Common.{ap, sym, ◌∙◌}
use Rattle.std.proofs.lemmas.Result.{err_from_is_err_and}
use Rattle.tpl_parse.specs.Pieces.{tag_at}
use Rattle.tpl_parse.proofs.Utf8.{more_chars, character_found}
use Rattle.tpl_parse.proofs.Texts.{text_tag, text_ends, text_goes_on, text_fails, front_none, front_some}
use Rattle.tpl_parse.proofs.parser.Parser.text.Goals as goal

pub returns-in-Some-clause-exact : goal.returns-in-Some-clause-exact
returns-in-Some-clause-exact c = text_tag c.args.self.now c.characters.self c.characters.invariant.reads c.in-Some.tag (ap tag_at (sym c.rest.ensures) ∙ sym c.tag_at.ensures.exact ∙ c.in-Some.is)

pub returns-in-None-clause-exact : goal.returns-in-None-clause-exact
returns-in-None-clause-exact c = text_ends c.args.self.now c.characters.self c.characters.invariant.reads (ap tag_at (sym c.rest.ensures) ∙ sym c.tag_at.ensures.exact ∙ c.in_default.is) (front_none c.characters.self (sym c.peek.ensures ∙ c.in-None.is))

pub characters-smaller : goal.characters-smaller
characters-smaller c = (character_found c.characters.self c.in_ok-character-in-Some-peek.field-0 c.character.new.self c.in_ok-character-in-Some-peek.ensures).shorter

pub characters-preserved : goal.characters-preserved
characters-preserved c = record {
  reads = text_goes_on c.args.self.now c.characters.self c.characters.invariant.reads c.in_ok-character-in-Some-peek.field-0 c.character.new.self (ap tag_at (sym c.rest.ensures) ∙ sym c.tag_at.ensures.exact ∙ c.in_default.is) (front_some c.characters.self c.in-Some-peek.field-0 (sym c.peek.ensures ∙ c.in-Some-peek.is)) c.in_ok-character-in-Some-peek.ensures;
  chars = more_chars c.args.self.now c.characters.self c.character.new.self c.characters.invariant.chars (character_found c.characters.self c.in_ok-character-in-Some-peek.field-0 c.character.new.self c.in_ok-character-in-Some-peek.ensures).chars;
}

pub returns-in_err-character-in-Some-peek-clause-exact : goal.returns-in_err-character-in-Some-peek-clause-exact
returns-in_err-character-in-Some-peek-clause-exact c =
    let p = err_from_is_err_and c.from_residual.result c.from_residual.ensures.1 in
    rw (p.1, p.2) (text_fails c.args.self.now c.characters.self c.characters.invariant.reads c.in_err-character-in-Some-peek.field-0.0 c.character.new.self (ap tag_at (sym c.rest.ensures) ∙ sym c.tag_at.ensures.exact ∙ c.in_default.is) (front_some c.characters.self c.in-Some-peek.field-0 (sym c.peek.ensures ∙ c.in-Some-peek.is)) c.in_err-character-in-Some-peek.ensures)
