use Rattle.std.proofs.Common.{◌∙◌, sym, true}
use Rattle.conf_field.specs.Kinds as kinds
use Rattle.yaml_tree.specs.Readers.{line_of}
use Rattle.conf_script.specs.Calls as calls
use Rattle.conf_script.proofs.Steps.{target_more}
use Rattle.conf_script.proofs.calls.each_target.Goals as goal

pub items-preserved : goal.items-preserved
items-preserved c =
    let old = c.items.invariant in
    let x = c.index-items-i.result in (
      calls.targets_text old.0 (line_of x) (kinds.scalar x),
      c.targets_text-found.ensures old.0 old.1,
      sym (target_more old.0 c.args.items.now c.items.i x c.items-test.true (sym c.index-items-i.is)) ∙ old.2,
    )
