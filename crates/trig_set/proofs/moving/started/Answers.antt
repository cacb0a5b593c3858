use Rattle.std.proofs.Common.{◌∙◌, ap, sym, Some, None}
use Rattle.std.specs.Prelude.{codes, is_none, ◌&&◌, if◌then◌else◌}
use Rattle.std.specs.Option.{option_copied}
use Rattle.ha_value.specs.declared.value.Value.TheVariants.{Pairs as Map}
use Rattle.ha_sight.specs.Rules.{starts, head_pairs}
use Rattle.trig_set.proofs.moving.started.Goals as goal

pub returns-in_ok-bare-in-Start-None : goal.returns-in_ok-bare-in-Start-None
returns-in_ok-bare-in-Start-None c =
    ap Some c.in_ok-bare-in-Start-None.ensures
    ∙ sym (λ i. if starts (c.in-Start-None.is-0 i) && is_none (option_copied (c.in-Start-None.is-1 i)) then Some (Map (head_pairs (codes "homeassistant") c.args.trigger.now)) else None)
