use Rattle.std.proofs.Common.{◌≡◌, List, [], drop}
use Rattle.ha_config.specs.declared.template.Template.{Template}
use Rattle.yaml_scan.specs.Answers.{Gives}
use Rattle.conf_field.specs.Readings.{Read}
use Rattle.conf_script.specs.Calls.{ids_from}
use Rattle.conf_script.proofs.calls.ids_of.Given as goal

-- whatever the ids before mean, what was found goes on as they do
abbrev pub invariant-text : goal.invariant-text
invariant-text l = (m : Read (List Template)) → Gives m l.fn.before
    → (now : Read (List Template)) × (Gives now l.found) × (ids_from l.line now l.part.items (drop l.b-index l.text) ≡ ids_from l.line m [] l.text)
