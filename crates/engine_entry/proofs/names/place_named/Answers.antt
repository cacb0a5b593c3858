use Rattle.std.proofs.Common.{◌∙◌, sym}
use Rattle.ha_config.specs.Words.{same}
use Rattle.engine_entry.proofs.NameNumbers.{named-here, named-none, named-on}
use Rattle.engine_entry.proofs.names.place_named.Goals as goal

pub returns-then-same_text : goal.returns-then-same_text
returns-then-same_text c =
    sym (c.rules.invariant ∙ named-here c.args.all.now c.rules.at c.index-all-at.result c.args.name.now c.rules-test.true c.index-all-at.is ((λ i. same (c.index-all-at.is i).name c.args.name.now) ∙ sym c.same_text.ensures ∙ c.if-same_text.true))

pub rules-preserved : goal.rules-preserved
rules-preserved c =
    c.rules.invariant ∙ named-on c.args.all.now c.rules.at c.index-all-at.result c.args.name.now c.rules-test.true c.index-all-at.is ((λ i. same (c.index-all-at.is i).name c.args.name.now) ∙ sym c.same_text.ensures ∙ c.if-same_text.false)

pub returns : goal.returns
returns c = sym (c.rules.invariant ∙ named-none c.args.all.now c.rules.at c.args.name.now c.rules-test.false)
