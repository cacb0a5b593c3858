use Rattle.std.proofs.Common.{◌≡◌, ◌≤◌, List, ℕ, length, map, take, sym, ap, subst, ◌∙◌}
use Rattle.std.specs.Prelude.{Option, None, slice_get, unwrap_or}
use Rattle.ha_config.specs.declared.config.Automation.{Automation}
use Rattle.ha_config.specs.declared.config.Config.{Config}
use Rattle.ha_journal.specs.Force.{IsAlike, force}
use Rattle.ha_journal.specs.Journal.{Journal, automations, configured}
use Rattle.ha_whole.specs.Lasts.{last_triggered}
use Rattle.ha_whole.specs.Segments.{segment}
use Rattle.segment_carry.specs.Closing.{last_number}
use Rattle.segment_runs.specs.Segment.{all_of}
use Rattle.named_runs.specs.Named.{first_in}
use Rattle.engine_entry.proofs.NamedLemmas.{sound-few}
use Rattle.engine_parts.specs.Numbers.{rule_numbers}
use Rattle.ha_engine.proofs.RestartLine.{numbers-many}
use Rattle.ha_engine.proofs.StoredLemmas.{first-numbers, rules-last}
use Rattle.ha_engine.proofs.restart.make_again.Goals as goal

pub configuration-config-requires : goal.configuration-config-requires
configuration-config-requires c = (force (segment c.args.journal.now), c.requires.holds)

pub rule_numbers-rules-requires : goal.rule_numbers-rules-requires
rule_numbers-rules-requires c =
    let s : Journal = segment c.args.journal.now in
    let config : IsAlike c.configuration-config.result.now (configured s) = c.configuration-config.ensures (force s) c.requires.holds in
    let rules : c.configuration-config.result.now.automations ≡ automations s = ap (λ (d : Config). d.automations) config in
    subst (λ (xs : List Automation). length xs ≤ length c.args.parts.now.numbers) (sym rules) (numbers-many s c.args.parts.now.numbers c.requires.numbers_are)

pub again-requires : goal.again-requires
again-requires c =
    let s : Journal = segment c.args.journal.now in
    let h = c.requires in
    let u = c.args.book.now in
    let config : IsAlike c.configuration-config.result.now (configured s) = c.configuration-config.ensures (force s) h.holds in
    let rules : c.configuration-config.result.now.automations ≡ automations s = ap (λ (d : Config). d.automations) config in
    let chosen : c.rule_numbers-rules.result.now ≡ rule_numbers s
    = c.rule_numbers-rules.ensures ∙ (λ i. take (length (rules i)) c.args.parts.now.numbers) ∙ first-numbers s c.args.parts.now.numbers h.numbers_are in
    let names : c.as_slice.result.now ≡ u.names = c.as_slice.ensures ∙ c.names.ensures in
    let last : c.as_slice-2.result.now ≡ map (last_number s) u.names = c.as_slice-2.ensures.value ∙ c.in_ok-last.ensures ∙ h.last_are in
    let lasts : c.as_slice-3.result.now ≡ map {A = Automation} {B = Option ℕ} (λ x. last_triggered s x.name) (automations s)
    = c.as_slice-3.ensures.value ∙ c.in_ok-lasts.ensures ∙ (λ i. map {A = ℕ} {B = Option ℕ} (λ n. unwrap_or (slice_get c.args.lasts.now (first_in (c.firsts.ensures i) n)) None) (chosen i)) ∙ rules-last s u c.args.lasts.now h.lasts_are in
    record {
      entries = h.entries;
      small = h.small;
      config_is = config;
      few = subst (λ (xs : List Automation). length xs ≤ 1_024) (sym rules) (sound-few (configured s) h.sound);
      front_is = h.lies.front_is;
      count_is = h.count_is;
      at_is = h.at_is;
      runs_are = (λ i. length (all_of (c.table.ensures.closed i) (c.table.ensures.list i))) ∙ h.runs_are;
      names_are = names ∙ h.holds.names_are;
      last_are = last ∙ (λ i. map (last_number s) (sym names i));
      switches_are = h.switches_are;
      lasts_are = lasts;
    }
