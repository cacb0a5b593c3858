use Rattle.std.proofs.Common.{◌≡◌, ◌∙◌, ℕ, zero, suc, List, [], ◌∷◌, ◌++◌, get_or, refl}
use Rattle.std.specs.Prelude.{None, slice_get, unwrap_or}
use Rattle.std.specs.Option.{option_map_or}
use Rattle.ha_config.specs.declared.config.Automation.{Automation}
use Rattle.ha_config.specs.Names.{name_in, name_of, names_of}
use Rattle.ha_config.specs.Words.{Text}
use Rattle.segment_carry.proofs.ByNameLemmas.{listed-next}
use Rattle.segment_carry.proofs.lists.rule_moments.Goals as goal

-- the name of an automation is that at its place
named-so : (all : List Automation) (a : ℕ) → name_of all a ≡ name_in (names_of all) a
named-so [] a = refl
named-so (x ∷ all) zero = refl
named-so (x ∷ all) (suc a) = named-so all a

pub chosen-preserved : goal.chosen-preserved
chosen-preserved c =
    let all : List Automation = c.args.automations.now in
    let at : ℕ = get_or c.args.order.now c.chosen.at-index 0 in
    listed-next {X = ℕ} (names_of all) (λ a. unwrap_or (slice_get c.args.lasts.now a) None) c.args.order.now c.chosen.at-index _ _ _
    c.chosen-test.true c.chosen.invariant c.moment_at-last.ensures
    (c.in_ok-put_moment.ensures ∙ (λ i. c.chosen.made ++ option_map_or {T = ℕ} {U = List (Text × ℕ)} (λ v. (named-so all at i, v) ∷ []) c.moment_at-last.result []))
