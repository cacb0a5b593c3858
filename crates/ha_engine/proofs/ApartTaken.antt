-- A step leaves the gates of other branches that wait.
use Rattle.std.proofs.Common.{◌≡◌, true, sym, ◌∙◌}
use Rattle.std.specs.Prelude.{Option, Some, ◌≢◌}
use Rattle.ha_sight.specs.declared.item.Item.{Item}
use Rattle.ha_sight.specs.declared.waiting.WaitEnd.{WaitEnd}
use Rattle.ha_sight.specs.Scripts.{Ask, Branch, Spot}
use Rattle.ha_sight.specs.Sight.{Sight}
use Rattle.script_step.specs.declared.frames.Frames.{Frames}
use Rattle.script_step.specs.Continuation.{Began, placed}
use Rattle.script_step.specs.Frames.{Steps, ask_of, may}
use Rattle.script_step.specs.Gates.{fronts_of, gate_at}
use Rattle.script_step.proofs.GateLemmas.{gated}
use Rattle.engine_parts.specs.Runs.{IsWait}
use Rattle.engine_parts.proofs.ApartLemmas.{others-wait}

pub other-stays : (old new : Frames) (began : Began) (s : Spot) (item : Item) (end : Option WaitEnd) (sight : Sight) → Steps sight s.branch end old item new → s.sight ≡ sight
    → ((ask : Ask) → ask_of old s.branch ≡ Some ask → s.wait_end ask (began s.branch) ≡ end) → may old s.branch s.sight.now end ≡ true → (c : Branch) → c ≢ s.branch → IsWait (gate_at c (fronts_of old began))
    → IsWait (gate_at c (fronts_of new (placed s.branch s.place began)))
other-stays old new began s item end sight steps seen tells may_it c apart at =
    others-wait old new began s item end sight steps seen tells (sym (gated s.branch old.root old.script.value began s end tells) ∙ may_it) c (λ e. apart (sym e)) at
