use Rattle.std.proofs.Common.{◌≤◌, length, subst, sym}
use Rattle.std.specs.Prelude.{List, drop, ℕ}
use Rattle.ha_config.specs.declared.config.Script.{Script}
use Rattle.script_calls.proofs.ResolveLemmas.{length-behind}
use Rattle.script_calls.proofs.services.resolve.Goals as goal

pub own_item-requires : goal.own_item-requires
own_item-requires c =
    subst (λ (ns : List ℕ). length c.as_slice-scripts.result.now ≤ length ns) (sym c.numbers_of-own.ensures)
    (subst (λ (xs : List Script). length xs ≤ length (drop (length c.args.config.now.automations) c.args.numbers.now)) (sym c.as_slice-scripts.ensures)
    (length-behind (length c.args.config.now.automations) c.args.numbers.now (length c.args.config.now.scripts) c.requires))
