use Rattle.conf_field.specs.declared.key.Key.TheVariants as key
use Rattle.conf_field.specs.Readings.{both}
use Rattle.conf_field.specs.Fields.{get, keys, row}
use Rattle.conf_script.specs.Calls as calls
use Rattle.std.proofs.Common.{◌∷◌, []}
use Rattle.conf_script.proofs.calls.map_target.Goals as goal

pub returns : goal.returns
returns c =
    let pairs = c.args.pairs.now in
    let known = keys (row key.EntityId ∷ []) pairs in
    let given = get key.EntityId pairs calls.targets in
    c.made_target.ensures (both known given)
    (c.both.ensures known given c.keys-known.ensures c.optional.ensures)
