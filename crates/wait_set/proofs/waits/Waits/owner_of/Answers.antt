use Rattle.std.proofs.Common.{◌∙◌, ap, Option}
use Rattle.std.specs.Prelude.{option_map}
use Rattle.wait_set.specs.declared.asked.Asked.{Asked}
use Rattle.wait_set.specs.Asked.{wait_of}
use Rattle.wait_set.proofs.waits.Waits.owner_of.Goals as goal

pub returns-in-Some : goal.returns-in-Some
returns-in-Some c =
    ap (λ (o : Option Asked). option_map (λ (a : Asked). a.owner) o)
    (c.in-Some.ensures ∙ ap (λ asks. wait_of c.args.serial c.args.branch.now asks) (c.as_slice.ensures.value ∙ ap (λ t. t.asks) c.self.view_is))

pub returns-in-None : goal.returns-in-None
returns-in-None c =
    ap (λ (o : Option Asked). option_map (λ (a : Asked). a.owner) o)
    (c.in-None.ensures ∙ ap (λ asks. wait_of c.args.serial c.args.branch.now asks) (c.as_slice.ensures.value ∙ ap (λ t. t.asks) c.self.view_is))
