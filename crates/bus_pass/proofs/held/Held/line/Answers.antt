use Rattle.std.proofs.Common.{◌≡◌, true, rules, subst, sym}
use Rattle.ha_journal.specs.declared.entry.Entry.{Entry}
use Rattle.ha_config.specs.Fair.{prepared}
use Rattle.ha_journal.specs.Commands.{put_as}
use Rattle.ha_journal.specs.Entries.{restarts}
use Rattle.ha_whole.specs.Whole.{is_rested}
use Rattle.bus_turn.specs.Buses.{Puts}
use Rattle.bus_turn.specs.Shown.{BusView}
use Rattle.bus_pass.proofs.held.Held.line.Goals as goal

pub line-requires-clause-rested : goal.line-requires-clause-rested
line-requires-clause-rested g c κs within =
    let same : c.as_mut.result.now ≡ c.args.self.now = search rules in
    subst (λ (b : BusView). is_rested b.records c.args.source b.journal ≡ true) (sym same) c.requires.rested

pub returns : goal.returns
returns g c =
    let same : c.as_mut.result.now ≡ c.args.self.now = search rules in
    subst (λ (b : BusView). Puts (restarts c.args.cmd) (λ x. x ≡ Entry.Line c.args.source c.args.number (put_as b.journal (prepared g.C.Prepare.Prepare.reads c.args.cmd))) b c.line.new.self) same c.line.ensures
