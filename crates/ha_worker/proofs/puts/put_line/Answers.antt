use Rattle.std.proofs.Common.{◌≡◌, ◌∙◌, [], ◌∷◌, length, arith, refl, rules, subst, sym, Bool}
use Rattle.std.proofs.lemmas.Bool.{false≢true}
use Rattle.ha_config.specs.declared.command.Cmd.{Cmd}
use Rattle.ha_config.specs.Fair.{prepared}
use Rattle.ha_journal.specs.Entries.{restarts}
use Rattle.ha_journal.proofs.ReloadLemmas.{read-restarts}
use Rattle.bus_turn.specs.Buses.{Puts}
use Rattle.ha_worker.proofs.CameLemmas.{few_lines, line_refused, line_some, line_unshut}
use Rattle.ha_worker.proofs.TurnLemmas.{IsLineOf, read_shuts}
use Rattle.ha_worker.proofs.puts.put_line.Goals as goal

pub returns-then-journal-before-clause-some : goal.returns-then-journal-before-clause-some
returns-then-journal-before-clause-some g c =
    let same : length c.line.new.self.journal ≡ length c.args.bus.now.journal = search rules in
    let r = c.requires in
    let x : Cmd = prepared g.C.Prepare.Prepare.reads c.args.cmd in
    let put : Puts (restarts x) (IsLineOf c.args.next.now c.args.id x c.args.bus.now) c.args.bus.now c.line.new.self =
    subst (λ (b : Bool). Puts b (IsLineOf c.args.next.now c.args.id x c.args.bus.now) c.args.bus.now c.line.new.self) (sym (read-restarts g.C.Prepare.Prepare.reads c.args.cmd)) c.line.ensures in (
      x ∷ [],
      (line_refused c.args.id c.args.next.now c.args.bus.now c.line.new.self x r.at r.known r.rested r.unshut c.first-fault-2.ensures.stands.right put same).0,
      λ e. absurd (false≢true e),
    )

pub returns-then-journal-before-clause-unshut : goal.returns-then-journal-before-clause-unshut
returns-then-journal-before-clause-unshut g c =
    let r = c.requires in
    let x : Cmd = prepared g.C.Prepare.Prepare.reads c.args.cmd in
    let put : Puts (restarts x) (IsLineOf c.args.next.now c.args.id x c.args.bus.now) c.args.bus.now c.line.new.self =
    subst (λ (b : Bool). Puts b (IsLineOf c.args.next.now c.args.id x c.args.bus.now) c.args.bus.now c.line.new.self) (sym (read-restarts g.C.Prepare.Prepare.reads c.args.cmd)) c.line.ensures in
    λ leaves. line_unshut c.args.id c.args.next.now c.args.bus.now c.line.new.self x r.at r.known r.rested r.unshut c.first-fault-2.ensures.stands.right put
    (read_shuts g.C.Prepare.Prepare.reads c.args.cmd ∙ leaves)

pub returns-then-journal-before-clause-fault : goal.returns-then-journal-before-clause-fault
returns-then-journal-before-clause-fault g c =
    let same : length c.line.new.self.journal ≡ length c.args.bus.now.journal = search rules in
    let r = c.requires in
    let x : Cmd = prepared g.C.Prepare.Prepare.reads c.args.cmd in
    let put : Puts (restarts x) (IsLineOf c.args.next.now c.args.id x c.args.bus.now) c.args.bus.now c.line.new.self =
    subst (λ (b : Bool). Puts b (IsLineOf c.args.next.now c.args.id x c.args.bus.now) c.args.bus.now c.line.new.self) (sym (read-restarts g.C.Prepare.Prepare.reads c.args.cmd)) c.line.ensures in
    sym (line_refused c.args.id c.args.next.now c.args.bus.now c.line.new.self x r.at r.known r.rested r.unshut c.first-fault-2.ensures.stands.right put same).1

pub line-requires-clause-fair : goal.line-requires-clause-fair
line-requires-clause-fair g c κs within = c.requires.fair g.C.Prepare.Prepare.reads c.args.bus.now.journal

pub overflow_add-next : goal.overflow_add-next
overflow_add-next g c = omega (arith, few_lines c.args.id c.args.next.now c.args.bus.now c.requires.at c.first-fault.ensures.stands.room)

pub returns-clause-some : goal.returns-clause-some
returns-clause-some g c =
    let here : length c.journal.result.now ≡ length c.line.new.self.journal = search rules in
    let before : length c.journal-before.result.now ≡ length c.args.bus.now.journal = search rules in
    let r = c.requires in
    let x : Cmd = prepared g.C.Prepare.Prepare.reads c.args.cmd in
    let put : Puts (restarts x) (IsLineOf c.args.next.now c.args.id x c.args.bus.now) c.args.bus.now c.line.new.self =
    subst (λ (b : Bool). Puts b (IsLineOf c.args.next.now c.args.id x c.args.bus.now) c.args.bus.now c.line.new.self) (sym (read-restarts g.C.Prepare.Prepare.reads c.args.cmd)) c.line.ensures in (
      [],
      line_some c.args.id c.args.next.now c.args.bus.now c.line.new.self x r.at r.known r.rested r.unshut c.first-fault-2.ensures.stands.right put (λ e. c.if-journal-before.false (here ∙ e ∙ sym before)),
      λ e. refl,
    )

pub returns-clause-unshut : goal.returns-clause-unshut
returns-clause-unshut g c =
    let r = c.requires in
    let x : Cmd = prepared g.C.Prepare.Prepare.reads c.args.cmd in
    let put : Puts (restarts x) (IsLineOf c.args.next.now c.args.id x c.args.bus.now) c.args.bus.now c.line.new.self =
    subst (λ (b : Bool). Puts b (IsLineOf c.args.next.now c.args.id x c.args.bus.now) c.args.bus.now c.line.new.self) (sym (read-restarts g.C.Prepare.Prepare.reads c.args.cmd)) c.line.ensures in
    λ leaves. line_unshut c.args.id c.args.next.now c.args.bus.now c.line.new.self x r.at r.known r.rested r.unshut c.first-fault-2.ensures.stands.right put
    (read_shuts g.C.Prepare.Prepare.reads c.args.cmd ∙ leaves)
