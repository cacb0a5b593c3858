use Rattle.std.proofs.Common.{◌≡◌, ◌∙◌, ap, sym, subst, fold, ℕ}
use Rattle.ha_config.specs.declared.config.TriggerRule.{TriggerRule}
use Rattle.time_next.specs.Day.{IsFirst, nearer}
use Rattle.time_next.proofs.DayLemmas.{listed-first}
use Rattle.time_next.proofs.day.first_from.Goals as goal

pub returns-in-Time : goal.returns-in-Time
returns-in-Time c =
    let seconds = c.in-Time.seconds in
    let found : c.first_listed.result ≡ fold (nearer c.args.first) 86_400 seconds = c.first_listed.ensures ∙ ap (fold (nearer c.args.first) 86_400) c.as_slice.ensures in
    subst (λ (r : TriggerRule). IsFirst r c.args.first c.first_listed.result) (sym c.in-Time.is)
    (subst (λ (n : ℕ). IsFirst (TriggerRule.Time seconds) c.args.first n) (sym found) (listed-first seconds c.args.first c.requires))
