use Rattle.std.proofs.Common.{◌≡◌, ◌∙◌, sym, ap, Some, None}
use Rattle.std.specs.List.{find}
use Rattle.tpl_parse.specs.Token.{spaces, stands}
use Rattle.tpl_parse.proofs.Texts.{first_of, none_stands}
use Rattle.tpl_parse.proofs.parser.Parser.one_of.Goals as goal

pub returns-in-Some : goal.returns-in-Some
returns-in-Some c =
    let found : find (λ t. stands t (spaces c.args.self.now)) c.args.tokens.now ≡ Some c.in-Some.token =
    ap (λ r. find (λ t. stands t r) c.args.tokens.now) (sym (c.rest.ensures ∙ c.skip_spaces.ensures)) ∙ sym c.standing.ensures.exact ∙ c.in-Some.is in
    rw (c.take_bytes.ensures, c.text.ensures, c.skip_spaces.ensures) (first_of c.args.tokens.now c.args.tokens.now c.args.self.now c.in-Some.token found)

pub returns-in-None : goal.returns-in-None
returns-in-None c =
    let none : find (λ t. stands t (spaces c.args.self.now)) c.args.tokens.now ≡ None =
    ap (λ r. find (λ t. stands t r) c.args.tokens.now) (sym (c.rest.ensures ∙ c.skip_spaces.ensures)) ∙ sym c.standing.ensures.exact ∙ c.in-None.is in
    rw (c.none_of.ensures, c.skip_spaces.ensures) (none_stands c.args.tokens.now c.args.tokens.now c.args.self.now none)
