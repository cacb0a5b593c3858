use Rattle.std.proofs.Common.{◌≡◌, ◌∙◌, List, [], ◌∷◌, Some, map, option_to_list, rules, sym}
use Rattle.std.proofs.lemmas.Bool.{false≢true}
use Rattle.ha_config.specs.declared.command.Cmd.{Cmd}
use Rattle.ha_config.specs.Fair.{prepared}
use Rattle.ha_worker.proofs.CameLemmas.{held_still, none_came, none_of, some_came}
use Rattle.ha_worker.proofs.puts.put_held.Goals as goal

pub returns-then-not-put_steps-clause-some : goal.returns-then-not-put_steps-clause-some
returns-then-not-put_steps-clause-some g c =
    let s = c.put_steps.ensures in
    let all : List Cmd = map (prepared g.C.Prepare.Prepare.reads) (option_to_list c.args.held.now) in (
      all,
      none_came c.args.id c.args.next.now all c.args.bus.now c.put_steps.new.bus (s.came c.args.next.now c.requires.at) s.full,
      λ e. absurd (false≢true e),
    )

pub returns-then-not-put_steps-clause-unshut : goal.returns-then-not-put_steps-clause-unshut
returns-then-not-put_steps-clause-unshut g c = held_still c.args.held.now _ (c.put_steps.ensures.shut c.args.id ∙ c.requires.unshut)

pub put_line-requires-clause-open : goal.put_line-requires-clause-open
put_line-requires-clause-open g c κs within = none_of c.put_steps.new.bus.first (sym c.put_steps.ensures.fault ∙ c.if-not-put_steps.false)

pub put_line-requires-clause-at : goal.put_line-requires-clause-at
put_line-requires-clause-at g c κs within = (c.put_steps.ensures.came c.args.next.now c.requires.at).at

pub put_line-requires-clause-rested : goal.put_line-requires-clause-rested
put_line-requires-clause-rested g c κs within = c.put_steps.ensures.rested c.if-not-put_steps.false

pub put_line-requires-clause-unshut : goal.put_line-requires-clause-unshut
put_line-requires-clause-unshut g c κs within = c.put_steps.ensures.shut c.args.id ∙ c.requires.unshut

pub returns-clause-some : goal.returns-clause-some
returns-clause-some g c =
    let held : c.args.held.now ≡ Some c.in-Some.cmd = search rules in
    let p = c.put_line.ensures.some in
    rw held
    (p.0, some_came c.args.id c.args.next.now c.args.next.now c.put_line.new.next [] (prepared g.C.Prepare.Prepare.reads c.in-Some.cmd ∷ []) p.0 c.args.bus.now c.put_steps.new.bus c.put_line.new.bus (c.put_steps.ensures.came c.args.next.now c.requires.at) p.1, p.2)

pub returns-clause-unshut : goal.returns-clause-unshut
returns-clause-unshut g c =
    let held : c.args.held.now ≡ Some c.in-Some.cmd = search rules in
    rw held c.put_line.ensures.unshut
