use Rattle.std.proofs.Common.{◌∙◌, ap}
use Rattle.std.specs.Prelude.{Some, option_map}
use Rattle.helper_set.proofs.BootLemmas.{text-found}
use Rattle.helper_set.proofs.set.Helpers.text.Goals as goal

pub returns-in_ok-text-in-Some : goal.returns-in_ok-text-in-Some
returns-in_ok-text-in-Some c j stands =
    (λ k. Some (c.in_ok-text-in-Some.ensures k))
    ∙ ap (option_map (λ k. k.text)) c.in-Some.ensures
    ∙ text-found j c.args.entity.now c.args.self.now.kept.items stands.each

pub returns-in-None : goal.returns-in-None
returns-in-None c j stands =
    ap (option_map (λ k. k.text)) c.in-None.ensures
    ∙ text-found j c.args.entity.now c.args.self.now.kept.items stands.each
