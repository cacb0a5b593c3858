use Rattle.std.proofs.Common.{◌≤◌, ℕ, List, length, sym, subst, ◌∙◌}
use Rattle.std.specs.Prelude.{zip}
use Rattle.ha_config.specs.declared.config.Automation.{Automation}
use Rattle.ha_engine.proofs.restart.reset_switches.Goals as goal

pub moves_any-changed-requires : goal.moves_any-changed-requires
moves_any-changed-requires c =
    subst (λ (l : List Automation). length l ≤ length c.as_slice.result.now) (sym c.as_slice-2.ensures) (subst (λ (l : List ℕ). length c.args.config.now.automations ≤ length l) (sym c.as_slice.ensures) c.requires)

pub returns-clause-changed : goal.returns-clause-changed
returns-clause-changed c j stand same = c.moves_any-changed.ensures j stand ((λ i. zip (c.as_slice.ensures i) (c.as_slice-2.ensures i)) ∙ same)
