use Rattle.std.proofs.Common.{refl}
use Rattle.ha_engine.specs.declared.admit.Prepared.{Prepared}
use Rattle.ha_engine.proofs.prepare.put_script.Goals as goal

pub returns : goal.returns
returns c =
    let p : Prepared = record {
      automation = c.args.automation;
      mode = c.args.mode;
      max = c.args.max;
      order = c.args.order;
      env = c.fitted-env.result;
      frames = c.in_ok-frames.frames;
      acts = c.has_action-acts.result;
    } in (
      p,
      c.in_ok-push.ensures.items,
      record {
        automation = refl;
        mode = refl;
        max = refl;
        order = refl;
        env = c.fitted-env.ensures;
        script = c.in_ok-frames.ensures.automation;
        stands = c.in_ok-frames.ensures.stands;
        first = c.in_ok-frames.ensures.first;
        acts = c.has_action-acts.ensures;
      },
    )
