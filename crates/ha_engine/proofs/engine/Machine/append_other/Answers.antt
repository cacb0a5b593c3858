use Rattle.std.proofs.Common.{◌∙◌, sym, subst}
use Rattle.std.specs.Prelude.{is_some}
use Rattle.ha_config.proofs.EqualLemmas.{and_left, and_right}
use Rattle.ha_journal.specs.Commands.{IsFair, lets_reload, put_as}
use Rattle.ha_journal.specs.Entries.{reloads_to}
use Rattle.ha_engine.proofs.AnswerLemmas.{put-alike}
use Rattle.ha_engine.proofs.PlainLemmas.{put-same}
use Rattle.ha_engine.proofs.engine.Machine.append_other.Goals as goal

pub append_reload-requires-clause-fair : goal.append_reload-requires-clause-fair
append_reload-requires-clause-fair c =
    let j = c.args.self.now.entries in
    let both = sym c.enters.ensures ∙ c.if-enters.true in
    let same = put-same j c.args.cmd (and_left (is_some (reloads_to c.args.cmd)) (lets_reload j) both) (and_right (is_some (reloads_to c.args.cmd)) (lets_reload j) both) in
    subst (IsFair j) same c.requires.fair

pub append_reload-requires-clause-reloads : goal.append_reload-requires-clause-reloads
append_reload-requires-clause-reloads c = and_left (is_some (reloads_to c.args.cmd)) (lets_reload c.args.self.now.entries) (sym c.enters.ensures ∙ c.if-enters.true)

pub append_plain-requires-clause-quiet : goal.append_plain-requires-clause-quiet
append_plain-requires-clause-quiet c = sym c.enters.ensures ∙ c.if-enters.false

pub returns-then-enters-clause-put : goal.returns-then-enters-clause-put
returns-then-enters-clause-put c =
    let j = c.args.self.now.entries in
    let both = sym c.enters.ensures ∙ c.if-enters.true in
    let same = put-same j c.args.cmd (and_left (is_some (reloads_to c.args.cmd)) (lets_reload j) both) (and_right (is_some (reloads_to c.args.cmd)) (lets_reload j) both) in
    put-alike c.append_reload.result c.append_reload.new.self.entries j c.args.source c.args.number c.args.cmd (put_as j c.args.cmd) same c.append_reload.ensures.put
