use Rattle.std.proofs.Common.{ap, drop, sym, ◌∙◌, ◌&&◌}
use Rattle.std.proofs.lemmas.Result.{err_from_is_err_and}
use Rattle.reading.specs.Bytes.{sees}
use Rattle.tpl_parse.specs.Pieces.{comment_ends}
use Rattle.tpl_parse.proofs.Utf8.{character_found}
use Rattle.tpl_parse.proofs.Texts.{comment_closed, comment_trims, comment_goes_on, comment_fails}
use Rattle.tpl_parse.proofs.parser.Parser.comment.Goals as goal

pub returns-then-comment_ends : goal.returns-then-comment_ends
returns-then-comment_ends c = rw c.take_bytes.ensures (comment_closed c.args.self.now c.characters.self c.characters.invariant (ap comment_ends (sym c.rest.ensures) ∙ sym c.comment_ends.ensures.exact ∙ c.if-comment_ends.true))

pub returns-then-trimming_ends : goal.returns-then-trimming_ends
returns-then-trimming_ends c =
    rw c.take_bytes-then-trimming_ends.ensures (comment_trims c.args.self.now c.characters.self c.characters.invariant (ap comment_ends (sym c.rest.ensures) ∙ sym c.comment_ends.ensures.exact ∙ c.if-comment_ends.false)
    (ap (λ t. sees 45 t && comment_ends (drop 1 t)) (sym c.rest-in-characters.ensures) ∙ sym c.trimming_ends.ensures.exact ∙ c.if-trimming_ends.true))

pub characters-smaller : goal.characters-smaller
characters-smaller c = (character_found c.characters.self c.in_ok-character.field-0 c.character.new.self c.in_ok-character.ensures).shorter

pub characters-preserved : goal.characters-preserved
characters-preserved c =
    comment_goes_on c.args.self.now c.characters.self c.characters.invariant c.in_ok-character.field-0 c.character.new.self (ap comment_ends (sym c.rest.ensures) ∙ sym c.comment_ends.ensures.exact ∙ c.if-comment_ends.false)
    (ap (λ t. sees 45 t && comment_ends (drop 1 t)) (sym c.rest-in-characters.ensures) ∙ sym c.trimming_ends.ensures.exact ∙ c.if-trimming_ends.false) c.in_ok-character.ensures

pub returns-in_err-character : goal.returns-in_err-character
returns-in_err-character c =
    let p = err_from_is_err_and c.from_residual.result c.from_residual.ensures.1 in
    rw (p.1, p.2) (comment_fails c.args.self.now c.characters.self c.characters.invariant c.in_err-character.field-0.0 c.character.new.self (ap comment_ends (sym c.rest.ensures) ∙ sym c.comment_ends.ensures.exact ∙ c.if-comment_ends.false)
    (ap (λ t. sees 45 t && comment_ends (drop 1 t)) (sym c.rest-in-characters.ensures) ∙ sym c.trimming_ends.ensures.exact ∙ c.if-trimming_ends.false) c.in_err-character.ensures)
