use Rattle.std.proofs.Common.{◌∙◌, refl}
use Rattle.segment_carry.specs.Closing.{carry_made}
use Rattle.segment_carry.specs.Sources.{lines_with, shut_with}
use Rattle.segment_carry.proofs.AgainLemmas.{carry-is, made-same}
use Rattle.segment_carry.proofs.closing.carry.Goals as goal

pub returns : goal.returns
returns c =
    let entries = c.args.entries.now in
    let lines = c.lines.view_is ∙ c.in_ok-lines.ensures.lines ∙ (λ k. lines_with (c.as_slice.ensures k) entries) in
    let shut = c.shut.view_is ∙ c.in_ok-lines.ensures.shut ∙ (λ k. shut_with (c.as_slice-2.ensures k) entries) in
    let is = carry-is c.args.names.now c.args.rules.now c.args.by_rule.now c.args.before.now entries c.args.serials c.args.last.now c.args.lasts.now _ refl c.in_ok-numbers.ensures lines shut c.in_ok-moments.ensures in
    made-same c.new.result _ (carry_made c.args.names.now c.args.rules.now c.args.by_rule.now c.args.before.now entries c.args.serials c.args.last.now c.args.lasts.now) is c.new.ensures
