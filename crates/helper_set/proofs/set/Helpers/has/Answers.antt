use Rattle.std.proofs.Common.{◌∙◌, ap}
use Rattle.std.specs.Prelude.{is_some}
use Rattle.helper_set.proofs.BootLemmas.{has-place}
use Rattle.helper_set.proofs.set.Helpers.has.Goals as goal

pub returns : goal.returns
returns c j stands =
    c.is_some.ensures ∙ ap is_some c.place_in.ensures
    ∙ has-place j c.args.entity.now c.args.self.now.kept.items stands.each
