use Rattle.std.proofs.Common.{sym, subst, ◌∙◌}
use Rattle.std.specs.Prelude.{Bool}
use Rattle.std.specs.Global.{Vec}
use Rattle.ha_config.specs.Fair.{IsPlain}
use Rattle.ha_ready.specs.RestedFlags.{RestedKept}
use Rattle.trig_set.specs.Next.{Listed}
use Rattle.engine_parts.specs.Stages.{Entered, RunsBefore}
use Rattle.ha_engine.proofs.follow.follow_plain.Goals as goal

pub attend-requires : goal.attend-requires
attend-requires c =
    subst (λ (b : Listed). Entered c.args.journal.now c.enter_plain.new.parts b) (sym c.look_at.ensures)
    (c.in_ok-before.ensures.entered c.args.journal.now c.args.runs.now.list c.requires.pushed.pushed c.requires.pushed.cmd_is c.requires.plain)

pub conclude-requires : goal.conclude-requires
conclude-requires c =
    let h = c.requires.pushed.pushed in
    let before : RunsBefore c.args.journal.now c.args.runs.now.list c.args.parts.now.waits c.args.parts.now.delays c.args.parts.now.frames.items c.args.parts.now.ready.pairs.items c.args.parts.now.calls
    = record { j = h.j; source = h.source; number = h.number; cmd = h.cmd; journal_is = h.journal_is; right = h.right; waits_stand = h.kept.going.waits_stand; runs_kept = h.kept.going.runs_kept; calls_kept = h.kept.going.calls_kept } in
    record {
      told = record {
        j = h.j;
        source = h.source;
        number = h.number;
        cmd = h.cmd;
        journal_is = h.journal_is;
        known = h.known;
        fair = h.fair;
        plain = subst IsPlain (sym c.requires.pushed.cmd_is) c.requires.plain;
        right = h.right;
        going = c.in_ok-fired.ensures.going c.args.runs.now.list (c.in_ok-before.ensures.runs c.args.journal.now c.args.runs.now.list before);
        rested_is = subst (λ (v : Vec Bool). RestedKept h.j c.args.runs.now.list v.items) (sym (c.in_ok-fired.ensures.rested ∙ c.in_ok-before.ensures.rested)) h.kept.rested_is;
      };
      named = c.requires.named;
      fired = c.in_ok-fired.ensures.fired;
    }
