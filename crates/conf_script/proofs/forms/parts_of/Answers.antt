use Rattle.std.proofs.Common.{sym, ap, ◌∙◌, None, get_or}
use Rattle.std.proofs.lemmas.List.{drop_more}
use Rattle.conf_field.specs.declared.key.Key.TheVariants as key
use Rattle.conf_field.specs.declared.table.Row.{Row}
use Rattle.conf_field.specs.Readings.{behind, each_behind}
use Rattle.conf_script.specs.Forms.{part_at}
use Rattle.conf_script.proofs.forms.parts_of.Goals as goal

pub rows-preserved : goal.rows-preserved
unfolding each_behind
rows-preserved c =
    let read = part_at c.args.pairs.now in
    let old = c.rows.invariant in
    let outside : Row = record { key = key.Above; also = None } in
    let x = get_or c.args.rows.now c.rows.i outside in (
      behind old.0 (read x),
      c.behind-found.ensures old.0 (read x) old.1 c.part_at.ensures,
      sym (ap (each_behind read old.0) (drop_more c.args.rows.now c.rows.i outside c.rows-test.true)) ∙ old.2,
    )
