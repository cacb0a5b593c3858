use Rattle.std.proofs.Common.{◌∙◌, ap, sym, arith, refl}
use Rattle.ha_config.specs.Words.{same}
use Rattle.unit_book.proofs.StepLemmas.{first-there, first-next, first-none}
use Rattle.unit_book.proofs.grown.first_named.Goals as goal

pub names-init : goal.names-init
names-init c = (refl, omega arith)

pub names-preserved : goal.names-preserved
names-preserved c =
    (c.names.invariant.0 ∙ first-next c.args.name.now c.args.names.now c.names.at c.index-names-at.result c.names-test.true (ap (λ t. same t c.args.name.now) (sym c.index-names-at.is) ∙ sym c.same_text.ensures ∙ c.if-same_text.false), omega (arith, c.names-test.true))

pub returns-then-same_text : goal.returns-then-same_text
returns-then-same_text c = sym (c.names.invariant.0 ∙ first-there c.args.name.now c.args.names.now c.names.at c.index-names-at.result c.names-test.true (ap (λ t. same t c.args.name.now) (sym c.index-names-at.is) ∙ sym c.same_text.ensures ∙ c.if-same_text.true))

pub returns : goal.returns
returns c = sym (c.names.invariant.0 ∙ first-none c.args.name.now c.args.names.now c.names.at c.names.invariant.1 c.names-test.false)
