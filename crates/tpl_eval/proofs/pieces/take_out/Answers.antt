use Rattle.std.proofs.Common.{◌∙◌, ap, sym}
use Rattle.std.specs.Prelude.{position}
use Rattle.ha_config.specs.Words.{Pairs, same}
use Rattle.tpl_eval.proofs.SetLemmas.{taken-out}
use Rattle.tpl_eval.proofs.pieces.take_out.Goals as goal

pub returns-in-Some : goal.returns-in-Some
returns-in-Some c = λ value.
    let found = ap (λ (l : Pairs). position (λ p. same p.0 c.args.name.now) l) (sym c.as_slice.ensures) ∙ sym c.place_of.ensures.place ∙ c.in-Some.is in
    taken-out c.args.set.now c.remove.new.self c.in-Some.place c.args.name.now value found c.remove.ensures.rest
