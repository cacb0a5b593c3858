use Rattle.std.proofs.Common.{◌≡◌, ◌-◌, ◌∙◌, sym, ap, Some, length}
use Rattle.std.specs.List.{slice_get}
use Rattle.std.specs.Option.{option_copied}
use Rattle.tpl_parse.specs.Pieces.{Found, statements}
use Rattle.tpl_parse.proofs.Trims.{statements_last}
use Rattle.tpl_parse.proofs.found.Found.statements.Goals as goal

pub returns-in-Some : goal.returns-in-Some
returns-in-Some c =
    let last : slice_get c.self.inside.open (length c.self.inside.open - 1) ≡ Some c.in-Some.choosing.now =
    ap (λ xs. slice_get xs (length xs - 1)) (sym c.as_slice.ensures) ∙ sym c.last.ensures.value ∙ ap option_copied c.in-Some.is in
    statements_last c.self.inside.open c.in-Some.choosing.now c.statements.result.now last c.statements.ensures ∙ ap (λ (f : Found). statements f.open') c.self.view_is
