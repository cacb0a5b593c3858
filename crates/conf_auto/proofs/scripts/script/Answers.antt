use Rattle.std.proofs.Common.{Option, subst}
use Rattle.yaml_scan.specs.Answers.{Gives}
use Rattle.yaml_scan.specs.declared.fault.Fault.{Fault}
use Rattle.yaml_tree.specs.Readers.{shape_of}
use Rattle.conf_field.specs.Fields.{place}
use Rattle.conf_field.specs.Readings.{both, unless}
use Rattle.conf_auto.specs.Scripts as scripts
use Rattle.conf_auto.proofs.scripts.script.Goals as goal

pub returns : goal.returns
returns c =
    let P : Option Fault → Type 0 = λ f. Gives (unless f) c.unless-named.result in
    let p = c.args.pair.now in
    let named = unless (scripts.name_fault p) in
    let read = scripts.script_by p.0 (place p) (shape_of p.2) in
    c.behind_name.ensures (both named read)
    (c.both.ensures named read (subst P c.name_fault.ensures c.unless-named.ensures) (subst (λ n. Gives (scripts.script_by p.0 n (shape_of p.2)) c.script_by-read.result) c.place.ensures c.script_by-read.ensures))
