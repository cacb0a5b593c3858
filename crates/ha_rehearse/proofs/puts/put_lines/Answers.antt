use Rattle.std.proofs.Common.{◌≡◌, ◌∙◌, ◌+◌, ap, arith, subst, sym}
use Rattle.rehearsal.specs.Generated.{next_x, x_at}
use Rattle.ha_rehearse.specs.Puts.{On}
use Rattle.ha_rehearse.proofs.PutLemmas.{failed_more, memory_failed, one_more_is}
use Rattle.ha_rehearse.proofs.puts.put_lines.Goals as goal

pub returns-in-Err-clause-failed : goal.returns-in-Err-clause-failed
returns-in-Err-clause-failed g c = λ boot o.
    let next = c.lines-test.true in
    memory_failed boot c.lines.i c.args.lines c.in-Err.fault (g.C.Core.entries c.lines.core) (g.C.Core.runs c.lines.core) c.in-Err.ensures.memory (omega (arith, next)) (c.lines.invariant.on boot o)

pub put_cmd-requires-clause-on : goal.put_cmd-requires-clause-on
put_cmd-requires-clause-on g c κs within = (c.requires.on.0, c.lines.invariant.on c.requires.on.0 c.requires.on.1)

pub returns-in-Err-put_cmd-clause-failed : goal.returns-in-Err-put_cmd-clause-failed
returns-in-Err-put_cmd-clause-failed g c = λ boot o.
    let next = c.lines-test.true in
    failed_more boot (c.lines.i + 1) c.args.lines c.in-Err-put_cmd.fault (g.C.Core.entries c.put_cmd.new.core) (g.C.Core.runs c.put_cmd.new.core) (omega (arith, next))
    (c.in-Err-put_cmd.ensures.failed boot (c.lines.invariant.on boot o))

pub lines-preserved : goal.lines-preserved
lines-preserved g c = record {
  usable = c.in-Ok-put_cmd.ensures.usable;
  rested = c.in-Ok-put_cmd.ensures.rested;
  x_is = c.next_x-x.ensures ∙ ap next_x c.lines.invariant.x_is ∙ ap x_at (sym (one_more_is c.lines.i));
  on = λ boot o. c.in-Ok-put_cmd.ensures.on boot (c.lines.invariant.on boot o);
}

pub returns-clause-on : goal.returns-clause-on
returns-clause-on g c = λ boot o.
    let over = c.lines-test.false in
    let within = c.lines.auto.i-end in
    let all : c.lines.i ≡ c.args.lines = omega (arith, over, within) in
    subst (λ n. On boot n (g.C.Core.entries c.lines.core) (g.C.Core.runs c.lines.core)) all (c.lines.invariant.on boot o)
