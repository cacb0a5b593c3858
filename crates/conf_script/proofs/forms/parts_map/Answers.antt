use Rattle.conf_field.specs.Readings.{both, each}
use Rattle.conf_field.specs.Fields.{keys}
use Rattle.conf_field.specs.Spans.{span_rows}
use Rattle.conf_script.specs.Forms as forms
use Rattle.conf_script.proofs.forms.parts_map.Goals as goal

pub returns : goal.returns
returns c =
    let pairs = c.args.pairs.now in
    let known = keys span_rows pairs in
    let all = each (forms.part_at pairs) span_rows in
    c.made_parts.ensures (both known all)
    (c.both.ensures known all c.keys-known.ensures c.parts_of.ensures)
