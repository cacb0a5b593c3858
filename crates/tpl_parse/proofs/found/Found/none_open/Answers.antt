use Rattle.std.proofs.Common.{◌∙◌, ap}
use Rattle.tpl_parse.specs.Pieces.{Found, none_open}
use Rattle.tpl_parse.proofs.Trims.{none_of_length}
use Rattle.tpl_parse.proofs.found.Found.none_open.Goals as goal

pub returns : goal.returns
returns c = none_of_length c.self.inside.open c.len.result c.len.ensures ∙ ap (λ (f : Found). none_open f.open') c.self.view_is
