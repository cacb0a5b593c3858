use Rattle.std.proofs.Common.{◌≡◌, ◌∙◌, ap}
use Rattle.std.proofs.lemmas.Result.{err_from_is_err_and}
use Rattle.tpl_parse.specs.Literal.{before}
use Rattle.tpl_parse.proofs.Texts.{no_text, last_gives, no_piece, piece_smaller, piece_goes_on}
use Rattle.tpl_parse.proofs.parser.Parser.template.Goals as goal

pub returns-in_err-tag : goal.returns-in_err-tag
returns-in_err-tag c =
    let p = err_from_is_err_and c.from_residual.result c.from_residual.ensures.1 in
    rw (p.1, p.2) (no_text c.args.self.now c.pieces.found c.pieces.self c.pieces.invariant c.in_err-tag.field-0.0 c.text.new.self c.in_err-tag.ensures.exact)

pub returns-in_default : goal.returns-in_default
returns-in_default c =
    let same : c.before-text.result.now ≡ before c.pieces.self c.text.new.self = c.before-text.ensures ∙ ap (λ r. before r c.text.new.self) c.rest-rest.ensures in
    last_gives c.args.self.now c.pieces.found c.pieces.self c.pieces.invariant c.text.new.self c.before-text.result.now c.finished.result (rw c.in_default.is at c.in_ok-tag.ensures.exact) same c.finished.ensures

pub pieces-smaller : goal.pieces-smaller
pieces-smaller c =
    let same : c.before-text.result.now ≡ before c.pieces.self c.text.new.self = c.before-text.ensures ∙ ap (λ r. before r c.text.new.self) c.rest-rest.ensures in
    piece_smaller c.args.self.now c.pieces.found c.pieces.self c.pieces.invariant c.in-Some.tag c.text.new.self (rw c.in-Some.is at c.in_ok-tag.ensures.exact) c.piece.new.found c.piece.new.self (rw c.in-Some.is at c.in_ok-tag.ensures.within) (rw same at c.in_ok-piece.ensures)

pub pieces-preserved : goal.pieces-preserved
pieces-preserved c =
    let same : c.before-text.result.now ≡ before c.pieces.self c.text.new.self = c.before-text.ensures ∙ ap (λ r. before r c.text.new.self) c.rest-rest.ensures in
    piece_goes_on c.args.self.now c.pieces.found c.pieces.self c.pieces.invariant c.in-Some.tag c.text.new.self (rw c.in-Some.is at c.in_ok-tag.ensures.exact) c.piece.new.found c.piece.new.self (rw c.in-Some.is at c.in_ok-tag.ensures.within) (rw same at c.in_ok-piece.ensures)

pub returns-in_err-piece : goal.returns-in_err-piece
returns-in_err-piece c =
    let same : c.before-text.result.now ≡ before c.pieces.self c.text.new.self = c.before-text.ensures ∙ ap (λ r. before r c.text.new.self) c.rest-rest.ensures in
    let p = err_from_is_err_and c.from_residual-in_err-piece.result c.from_residual-in_err-piece.ensures.1 in
    rw (p.1, p.2) (no_piece c.args.self.now c.pieces.found c.pieces.self c.pieces.invariant c.in-Some.tag c.text.new.self (rw c.in-Some.is at c.in_ok-tag.ensures.exact) c.before-text.result.now same c.in_err-piece.field-0.0 c.piece.new.found c.piece.new.self c.in_err-piece.ensures)
