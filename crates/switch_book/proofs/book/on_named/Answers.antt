use Rattle.std.proofs.Common.{◌∙◌, sym, drop, add-one}
use Rattle.ha_config.specs.Names.{stored_switch}
use Rattle.store_text.specs.Store.{by_names}
use Rattle.switch_book.proofs.BookLemmas.{name-found, name-passed}
use Rattle.switch_book.proofs.book.on_named.Goals as goal

pub returns-then-same_text : goal.returns-then-same_text
returns-then-same_text c =
    name-found c.args.name.now c.args.switches.now c.loop-switch.switch-index c.switch-item.result c.loop-switch-test.true c.switch-item.is (sym c.same_text.ensures ∙ c.if-same_text.true) ∙ c.loop-switch.invariant

pub loop-switch-preserved : goal.loop-switch-preserved
loop-switch-preserved c =
    (λ k. stored_switch c.args.name.now (by_names (drop (add-one c.loop-switch.switch-index k) c.args.switches.now)))
    ∙ name-passed c.args.name.now c.args.switches.now c.loop-switch.switch-index c.switch-item.result c.loop-switch-test.true c.switch-item.is (sym c.same_text.ensures ∙ c.if-same_text.false) ∙ c.loop-switch.invariant
