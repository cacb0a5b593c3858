use Rattle.std.proofs.Common.{ap, sym, subst, ◌∙◌}
use Rattle.std.specs.Prelude.{Bool}
use Rattle.std.specs.Global.{Vec}
use Rattle.ha_config.specs.Fair.{IsPlain}
use Rattle.ha_ready.specs.RestedFlags.{RestedKept}
use Rattle.engine_parts.specs.declared.parts.Parts.{Parts}
use Rattle.trig_set.specs.Next.{Listed}
use Rattle.engine_parts.specs.Stages.{Entered, RunsBefore}
use Rattle.ha_engine.proofs.follow.follow_seen.Goals as goal

pub attend-requires : goal.attend-requires
attend-requires c =
    subst (λ (b : Listed). Entered c.args.journal.now c.enter_report.new.parts b) (sym c.look_at.ensures)
    (c.in_ok-before.ensures.entered c.args.journal.now c.args.runs.now.list c.requires.pushed.pushed c.requires.pushed.cmd_is)

pub conclude-requires : goal.conclude-requires
conclude-requires c =
    let h = c.requires.pushed.pushed in
    let k = c.args.journal.now in
    let rs = c.args.runs.now.list in
    let old = c.args.parts.now in
    let before : RunsBefore k rs old.waits old.delays old.frames.items old.ready.pairs.items old.calls
    = record { j = h.j; source = h.source; number = h.number; cmd = h.cmd; journal_is = h.journal_is; right = h.right; waits_stand = h.kept.going.waits_stand; runs_kept = h.kept.going.runs_kept; calls_kept = h.kept.going.calls_kept } in
    let rest = c.in_ok-before.ensures.rest in
    record {
      told = record {
        j = h.j;
        source = h.source;
        number = h.number;
        cmd = h.cmd;
        journal_is = h.journal_is;
        known = h.known;
        fair = h.fair;
        plain = subst IsPlain (sym c.requires.pushed.cmd_is) tt;
        right = h.right;
        going = c.in_ok-fired.ensures.going rs (subst (λ (p : Parts). RunsBefore k rs p.waits p.delays p.frames.items p.ready.pairs.items p.calls) (sym rest) before);
        rested_is = subst (λ (v : Vec Bool). RestedKept h.j rs v.items) (sym (c.in_ok-fired.ensures.rested ∙ ap (λ (p : Parts). p.rested) rest)) h.kept.rested_is;
      };
      named = c.requires.named;
      fired = c.in_ok-fired.ensures.fired;
    }
