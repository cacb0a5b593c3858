use Rattle.std.proofs.Common.{◌≡◌, [], ap, arith, sym, subst, ◌∙◌}
use Rattle.std.specs.Prelude.{Bool, vec_len}
use Rattle.std.specs.Global.{Vec}
use Rattle.ha_config.specs.declared.command.Cmd.{Cmd}
use Rattle.ha_journal.specs.declared.entry.Entry.TheVariants.{Line}
use Rattle.ha_config.specs.Fair.{IsPlain}
use Rattle.ha_journal.specs.Attempts.{passing}
use Rattle.ha_journal.specs.Journal.{more}
use Rattle.ha_ready.specs.RestedFlags.{RestedKept}
use Rattle.engine_parts.specs.declared.parts.Parts.{Parts}
use Rattle.engine_parts.specs.Stages.{LineTold, RunsBefore}
use Rattle.ha_engine.proofs.ConcludeLemmas.{none-passing}
use Rattle.ha_engine.proofs.follow.follow_left.Goals as goal

pub attend_left-requires : goal.attend_left-requires
attend_left-requires c = c.in_ok-enter_left.ensures.entered c.args.journal.now c.args.runs.now.list c.requires.pushed.pushed c.requires.pushed.cmd_is c.requires.left

pub conclude_left-requires : goal.conclude_left-requires
conclude_left-requires c =
    let same = ap (λ v. vec_len v) (c.in_ok-attend_left.ensures.rested ∙ ap (λ (p : Parts). p.rested) c.in_ok-enter_left.ensures.rest) in
    omega (arith, same, c.requires.pushed.pushed.kept.rested_is.count, c.args.parts.now.rested.ok.0)

pub returns-clause-ok : goal.returns-clause-ok
returns-clause-ok c =
    let h = c.requires.pushed.pushed in
    let k = c.args.journal.now in
    let rs = c.args.runs.now.list in
    let old = c.args.parts.now in
    let before : RunsBefore k rs old.waits old.delays old.frames.items old.ready.pairs.items old.calls
    = record { j = h.j; source = h.source; number = h.number; cmd = h.cmd; journal_is = h.journal_is; right = h.right; waits_stand = h.kept.going.waits_stand; runs_kept = h.kept.going.runs_kept; calls_kept = h.kept.going.calls_kept } in
    let rest = c.in_ok-enter_left.ensures.rest in
    let told : LineTold k rs c.attend_left.new.parts
    = record {
      j = h.j;
      source = h.source;
      number = h.number;
      cmd = h.cmd;
      journal_is = h.journal_is;
      known = h.known;
      fair = h.fair;
      plain = subst IsPlain (sym c.requires.pushed.cmd_is) tt;
      right = h.right;
      going = c.in_ok-attend_left.ensures.going rs (subst (λ (p : Parts). RunsBefore k rs p.waits p.delays p.frames.items p.ready.pairs.items p.calls) (sym rest) before);
      rested_is = subst (λ (v : Vec Bool). RestedKept h.j rs v.items) (sym (c.in_ok-attend_left.ensures.rested ∙ ap (λ (p : Parts). p.rested) rest)) h.kept.rested_is;
    } in
    let none : passing k ≡ []
    = none-passing k h.j h.source h.number c.args.entity.now c.args.text.now c.args.attributes.now
    (h.journal_is ∙ ap (λ (cmd : Cmd). more h.j (Line h.source h.number cmd)) c.requires.pushed.cmd_is) c.attend_left.ensures.fired in
    c.conclude_left.ensures rs told none
