use Rattle.std.proofs.Common.{◌≡◌, ◌∙◌, ◌↔◌, ◌&&◌, nat_le, nat_lt, true, ap, sym, subst}
use Rattle.std.specs.List.{list_any}
use Rattle.ha_config.specs.declared.config.TriggerRule.{TriggerRule}
use Rattle.time_match.specs.Times.{HasTime}
use Rattle.time_match.proofs.DayLemmas.{listed}
use Rattle.time_match.proofs.day.has_time.Goals as goal

pub returns-in-Time : goal.returns-in-Time
returns-in-Time c =
    let seconds = c.in-Time.seconds in
    subst (λ (r : TriggerRule). (c.lists_between.result ≡ true) ↔ HasTime r c.args.first c.args.end) (sym c.in-Time.is) (
      λ h. (listed seconds c.args.first c.args.end).0 (sym (c.lists_between.ensures ∙ ap (list_any (λ s. nat_le c.args.first s && nat_lt s c.args.end)) c.as_slice.ensures) ∙ h),
      λ p. (c.lists_between.ensures ∙ ap (list_any (λ s. nat_le c.args.first s && nat_lt s c.args.end)) c.as_slice.ensures) ∙ (listed seconds c.args.first c.args.end).1 p,
    )
