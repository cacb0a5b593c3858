use Rattle.std.proofs.Common.{sym, ◌∙◌}
use Rattle.conf_field.specs.Readings as readings
use Rattle.conf_field.proofs.Made.{one_more}
use Rattle.conf_auto.specs.Scripts.{script}
use Rattle.conf_auto.proofs.scripts.each_script.Goals as goal

pub pairs-preserved : goal.pairs-preserved
pairs-preserved c =
    let old = c.pairs.invariant in
    let x = c.index-pairs-i.result in (
      readings.behind old.0 (script x),
      c.behind-found.ensures old.0 (script x) old.1 c.script.ensures,
      sym (one_more script old.0 c.args.pairs.now c.pairs.i x c.pairs-test.true (sym c.index-pairs-i.is)) ∙ old.2,
    )
