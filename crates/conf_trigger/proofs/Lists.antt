-- One trigger further in a list.
use Rattle.std.proofs.Common.{◌≡◌, Ok, Err, refl, ◌<◌, ◌+◌, ℕ, List, ◌∷◌, length, drop, get_or, ap, ◌∙◌}
use Rattle.std.proofs.lemmas.List.{drop_more}
use Rattle.ha_config.specs.declared.config.Trigger.{Trigger}
use Rattle.yaml_tree.specs.declared.node.Node.{Node}
use Rattle.conf_field.specs.Readings.{Read, both, keep, made}
use Rattle.conf_trigger.specs.Triggers.{trigger, triggers_from}

pub one_more : (before : Read (List Trigger)) (xs : List Node) (i : ℕ) (x : Node)
    → i < length xs → get_or xs i x ≡ x → triggers_from i before (drop i xs) ≡ triggers_from (i + 1) (keep before (trigger i x)) (drop (i + 1) xs)
unfolding triggers_from
one_more before xs i x within here =
    ap (triggers_from i before) (drop_more xs i x within ∙ ap (λ v. v ∷ drop (i + 1) xs) here)

-- where the limit has no fault, the list is what it is
pub within_limit : {A : Type 0} (r : Read A) → made (λ x. x.1) (both {A = Unit {0}} (Ok tt) r) ≡ r
within_limit (Ok x) = refl
within_limit (Err f) = refl
