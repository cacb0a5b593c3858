use Rattle.std.proofs.Common.{Option, subst}
use Rattle.yaml_scan.specs.Answers.{Gives}
use Rattle.yaml_scan.specs.declared.fault.Fault.{Fault}
use Rattle.conf_field.specs.Readings.{both, unless}
use Rattle.conf_field.specs.Fields.{keys}
use Rattle.conf_field.specs.Spans.{span_rows, none_there, all_parts}
use Rattle.conf_field.proofs.spans.span_map.Goals as goal

pub returns : goal.returns
returns c =
    let P : Option Fault → Type 0 = λ f. Gives (unless f) c.unless-some.result in
    let pairs = c.args.pairs.now in
    let known = keys span_rows pairs in
    let some = unless (none_there c.args.line pairs) in
    let all = all_parts c.args.line pairs in
    c.third.ensures (both known (both some all))
    (c.both-2.ensures known (both some all) c.keys-known.ensures
    (c.both.ensures some all (subst P c.none_there.ensures c.unless-some.ensures) c.parts.ensures))
