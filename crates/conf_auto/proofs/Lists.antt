-- One automation further in a list.
use Rattle.std.proofs.Common.{◌≡◌, ◌∙◌, ◌<◌, ◌+◌, ap, refl, ℕ, Ok, Err, List, ◌∷◌, length, drop, get_or}
use Rattle.std.proofs.lemmas.List.{drop_more}
use Rattle.ha_config.specs.declared.config.Automation.{Automation}
use Rattle.yaml_tree.specs.declared.node.Node.{Node}
use Rattle.conf_field.specs.Readings.{Read, both, made}
use Rattle.conf_auto.specs.Automations.{automation}
use Rattle.conf_auto.specs.Names.{joined}
use Rattle.conf_auto.specs.Config.{automations_from}

pub one_more : (before : Read (List Automation)) (xs : List Node) (i : ℕ) (x : Node)
    → i < length xs → get_or xs i x ≡ x → automations_from before (drop i xs) ≡ automations_from (joined before (automation x)) (drop (i + 1) xs)
unfolding automations_from
one_more before xs i x within here =
    ap (automations_from before) (drop_more xs i x within ∙ ap (λ v. v ∷ drop (i + 1) xs) here)

-- where the limit has no fault, the list is what it is
pub within_limit : {A : Type 0} (r : Read A) → made (λ x. x.1) (both {A = Unit {0}} (Ok tt) r) ≡ r
within_limit (Ok x) = refl
within_limit (Err f) = refl
