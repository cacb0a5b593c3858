use Rattle.std.proofs.Common.{◌≡◌, drop}
use Rattle.ha_config.specs.Names.{stored_switch}
use Rattle.store_text.specs.Store.{by_names}
use Rattle.switch_book.proofs.book.on_named.Given as goal

abbrev pub invariant-loop-switch : goal.invariant-loop-switch
invariant-loop-switch l = stored_switch l.name (by_names (drop l.switch-index l.switches)) ≡ stored_switch l.name (by_names l.switches)
