use Rattle.std.proofs.Common.{◌∙◌, sym, ap, refl}
use Rattle.ha_sight.specs.declared.item.Item.{Item}
use Rattle.ha_sight.specs.Scripts.{gives}
use Rattle.script_step.specs.Continuation.{last_action, thread_next}
use Rattle.script_step.proofs.KindLemmas.{first-turn}
use Rattle.script_step.proofs.StageLemmas.{stage-ready}
use Rattle.script_step.proofs.loops.enter_first.Goals as goal

pub returns-clause-step : goal.returns-clause-step
returns-clause-step c = λ list a is b began rest.
    let new = c.enter_turn.new.self in
    ap (gives Item.Nothing)
    (first-turn list c.args.thread.now new a _ is refl c.in_ok-enter_turn.ensures.outer c.in_ok-enter_turn.ensures.here c.in_ok-enter_turn.ensures.scopes b rest
    ∙ sym (stage-ready (last_action list new) (thread_next b list new.outer new.here) new.scopes b began rest))
