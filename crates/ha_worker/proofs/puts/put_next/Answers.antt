use Rattle.std.proofs.Common.{◌≡◌, ◌∙◌, List, [], ◌∷◌, ◌++◌, ap, arith, length, map, rules, sym}
use Rattle.std.proofs.lemmas.Bool.{false≢true}
use Rattle.ha_config.specs.declared.command.Cmd.{Cmd}
use Rattle.ha_config.specs.Fair.{prepared}
use Rattle.ha_worker.proofs.CameLemmas.{none_came, none_of, some_came, some_of_more}
use Rattle.ha_worker.proofs.puts.put_next.Goals as goal

pub returns-then-not-put_steps-clause-some : goal.returns-then-not-put_steps-clause-some
returns-then-not-put_steps-clause-some g c =
    let s = c.put_steps.ensures in
    let all : List Cmd = map (prepared g.C.Prepare.Prepare.reads) c.args.cmds.now.items in (
      all,
      none_came c.args.id c.args.next.now all c.args.bus.now c.put_steps.new.bus (s.came c.args.next.now c.requires.at) s.full,
      λ e. absurd (false≢true e),
    )

pub returns-then-not-put_steps-clause-unshut : goal.returns-then-not-put_steps-clause-unshut
returns-then-not-put_steps-clause-unshut g c = c.put_steps.ensures.shut c.args.id ∙ c.requires.unshut

pub returns-then-not-put_steps-clause-fewer : goal.returns-then-not-put_steps-clause-fewer
returns-then-not-put_steps-clause-fewer g c = λ e. absurd (false≢true e)

pub put_line-requires-clause-open : goal.put_line-requires-clause-open
put_line-requires-clause-open g c κs within = none_of c.put_steps.new.bus.first (sym c.put_steps.ensures.fault ∙ c.if-not-put_steps.false)

pub put_line-requires-clause-at : goal.put_line-requires-clause-at
put_line-requires-clause-at g c κs within = (c.put_steps.ensures.came c.args.next.now c.requires.at).at

pub put_line-requires-clause-rested : goal.put_line-requires-clause-rested
put_line-requires-clause-rested g c κs within = c.put_steps.ensures.rested c.if-not-put_steps.false

pub put_line-requires-clause-unshut : goal.put_line-requires-clause-unshut
put_line-requires-clause-unshut g c κs within = c.put_steps.ensures.shut c.args.id ∙ c.requires.unshut

pub put_line-requires-clause-fair : goal.put_line-requires-clause-fair
put_line-requires-clause-fair g c κs within =
    let parts : c.args.cmds.now.items ≡ c.in-Some.cmd ∷ c.pop_front.new.self.items = search rules in
    (rw parts at c.requires.open_all).0.1

pub returns-clause-some : goal.returns-clause-some
returns-clause-some g c =
    let parts : c.args.cmds.now.items ≡ c.in-Some.cmd ∷ c.pop_front.new.self.items = search rules in
    let rest : List Cmd = map (prepared g.C.Prepare.Prepare.reads) c.pop_front.new.self.items in
    let first : Cmd = prepared g.C.Prepare.Prepare.reads c.in-Some.cmd in
    let p = c.put_line.ensures.some in
    rw parts (
      p.0 ++ rest,
      some_of_more c.args.id c.args.next.now c.put_line.new.next (first ∷ []) rest p.0 c.args.bus.now c.put_line.new.bus
          (some_came c.args.id c.args.next.now c.args.next.now c.put_line.new.next [] (first ∷ []) p.0 c.args.bus.now c.put_steps.new.bus c.put_line.new.bus (c.put_steps.ensures.came c.args.next.now c.requires.at) p.1),
      λ e. ap (λ (z : List Cmd). z ++ rest) (p.2 e),
    )

pub returns-clause-unshut : goal.returns-clause-unshut
returns-clause-unshut g c =
    let parts : c.args.cmds.now.items ≡ c.in-Some.cmd ∷ c.pop_front.new.self.items = search rules in
    c.put_line.ensures.unshut (rw parts at c.requires.open_all).0.0

pub returns-clause-open_all : goal.returns-clause-open_all
returns-clause-open_all g c =
    let parts : c.args.cmds.now.items ≡ c.in-Some.cmd ∷ c.pop_front.new.self.items = search rules in
    (rw parts at c.requires.open_all).1

pub returns-clause-fewer : goal.returns-clause-fewer
returns-clause-fewer g c =
    let parts : c.args.cmds.now.items ≡ c.in-Some.cmd ∷ c.pop_front.new.self.items = search rules in
    λ _. omega (arith, ap length parts)
