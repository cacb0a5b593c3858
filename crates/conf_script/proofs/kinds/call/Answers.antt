use Rattle.conf_field.specs.declared.key.Key.TheVariants as key
use Rattle.conf_field.specs.Readings.{both}
use Rattle.conf_field.specs.Fields.{field, get, needed}
use Rattle.conf_script.specs.Actions as actions
use Rattle.conf_script.specs.Calls as calls
use Rattle.conf_script.specs.Forms as forms
use Rattle.conf_script.specs.declared.name.ActionName.{ActionName}
use Rattle.conf_script.proofs.kinds.call.Goals as goal

pub returns : goal.returns
returns c =
    let pairs = c.args.pairs.now in
    let service = needed calls.service c.args.line (field (actions.row_of ActionName.OfCall) pairs) in
    let target = get key.Target pairs calls.target in
    let ids = get key.EntityId pairs calls.targets in
    let given = get key.Data pairs forms.fields in
    c.made_call.ensures (both service (both target (both ids given)))
    (c.both-3.ensures service (both target (both ids given)) c.needed-service.ensures (c.both-2.ensures target (both ids given) c.optional-target.ensures (c.both.ensures ids given c.optional-ids.ensures c.optional-given.ensures)))
