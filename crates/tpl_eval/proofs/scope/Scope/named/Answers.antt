use Rattle.std.proofs.Common.{ap, ◌∙◌, sym}
use Rattle.std.specs.Prelude.{Option, unwrap_or}
use Rattle.ha_value.specs.declared.value.Value.{Value}
use Rattle.ha_config.proofs.NameLemmas.{last-first, last-second}
use Rattle.tpl_eval.proofs.scope.Scope.named.Goals as goal

-- it was set
pub returns-in-Some : goal.returns-in-Some
returns-in-Some c =
    let e = last-second c.args.name.now c.args.self.now.env.now c.args.self.now.set.now c.in-Some.value.now (sym (rw c.in-Some.is at c.last_pair.ensures)) in
    ap (λ (o : Option Value). unwrap_or o Value.Null) (sym e)

-- it is one of the run, or there is none
pub returns-in-None : goal.returns-in-None
returns-in-None c =
    let e = last-first c.args.name.now c.args.self.now.env.now c.args.self.now.set.now (sym (rw c.in-None.is at c.last_pair.ensures)) in
    c.part_in.ensures ∙ ap (λ (o : Option Value). unwrap_or o Value.Null) (sym e)
