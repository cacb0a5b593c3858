use Rattle.std.proofs.Common.{◌≡◌, ◌+◌, false, sym, subst}
use Rattle.std.specs.Prelude.{IsTrue, None, OnOk, ◌&&◌, is_none}
use Rattle.std.specs.List.{list_any}
use Rattle.ha_sight.specs.declared.waiting.WaitAsk.{WaitAsk}
use Rattle.ha_config.specs.Sound.{are_sound_triggers}
use Rattle.wait_set.specs.Asked.{added, is_of}
use Rattle.engine_entry.proofs.step_take.attach_wait.Goals as goal
use Rattle.engine_parts.specs.Runs.{first_wait}

pub attach_ask-requires-clause-sound : goal.attach_ask-requires-clause-sound
attach_ask-requires-clause-sound c = subst (λ (a : WaitAsk). IsTrue (are_sound_triggers a.triggers)) (sym c.taken-taken.ensures) c.requires.sound

pub attach_ask-requires-clause-free : goal.attach_ask-requires-clause-free
attach_ask-requires-clause-free c =
    subst (λ (a : WaitAsk). list_any (λ b. is_of a.serial a.branch b && is_none b.end) c.args.waits.now.asks ≡ false) (sym c.taken-taken.ensures) c.requires.free

pub returns-clause-asks : goal.returns-clause-asks
returns-clause-asks c =
    subst (λ (a : WaitAsk). OnOk c.attach_ask.result (c.attach_ask.new.waits.asks ≡ added (record { owner = first_wait + c.args.place; place = c.args.place; ask = a; end = None }) c.args.waits.now.asks))
    c.taken-taken.ensures c.attach_ask.ensures.asks
