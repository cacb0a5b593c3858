use Rattle.std.proofs.Common.{◌≡◌, ◌-◌, ◌≤◌, List, [], ap, length, sym, subst, ◌∙◌, arith}
use Rattle.std.specs.Prelude.{option_map}
use Rattle.std.specs.Option.{option_map_or}
use Rattle.ha_config.specs.declared.config.Automation.{Automation}
use Rattle.ha_config.specs.declared.config.Config.{Config}
use Rattle.ha_config.specs.Sound.{IsSoundConfig}
use Rattle.ha_config.proofs.ListLemmas.{some-same}
use Rattle.ha_journal.specs.declared.carry.Carry.{Carry}
use Rattle.ha_journal.proofs.MoreLemmas.{length-more}
use Rattle.segment_carry.specs.ByName.{rule_order}
use Rattle.segment_carry.specs.Sources.{carry_in}
use Rattle.unit_book.specs.Book.{config_at}
use Rattle.engine_entry.proofs.NamedLemmas.{sound-few}
use Rattle.ha_engine.specs.Noted.{known_lasts}
use Rattle.ha_engine.specs.Reloads.{lasts_at}
use Rattle.ha_engine.proofs.ReloadLemmas.{bring-reloads}
use Rattle.ha_engine.proofs.reload.next_of.Goals as goal

pub reloaded-requires : goal.reloaded-requires
reloaded-requires c = bring-reloads c.args.journal.now c.args.bounds c.args.book.now c.args.numbers.now c.requires

pub config_in-config-requires : goal.config_in-config-requires
config_in-config-requires c =
    let h = c.requires in
    let at : length c.args.journal.now - 1 ≡ length h.j = omega (arith, ap length h.journal_is, length-more h.j h.x) in
    (h.new, (λ i. config_at c.args.journal.now (at i)) ∙ h.new_is)

pub rule_order-requires : goal.rule_order-requires
rule_order-requires c =
    let h = c.requires in
    let at : length c.args.journal.now - 1 ≡ length h.j = omega (arith, ap length h.journal_is, length-more h.j h.x) in
    let is : h.new ≡ c.config_in-config.result.now = some-same h.new c.config_in-config.result.now (sym h.new_is ∙ (λ i. config_at c.args.journal.now (sym at i)) ∙ c.config_in-config.ensures) in
    subst (λ (all : List Automation). length all ≤ 1_024) (sym c.as_slice.ensures) (sound-few c.config_in-config.result.now (subst IsSoundConfig is h.sound))

pub carry_at-requires : goal.carry_at-requires
carry_at-requires c = c.requires.opens

pub returns : goal.returns
returns c = record {
  holds = λ h. c.in_ok-next.ensures (bring-reloads c.args.journal.now c.args.bounds c.args.book.now c.args.numbers.now h);
  order_is = λ h. (let at : length c.args.journal.now - 1 ≡ length h.j = omega (arith, ap length h.journal_is, length-more h.j h.x) in
      let is : c.config_in-config.result.now ≡ h.new = some-same c.config_in-config.result.now h.new (sym c.config_in-config.ensures ∙ (λ i. config_at c.args.journal.now (at i)) ∙ h.new_is) in
      c.in_ok-order.ensures ∙ (λ i. rule_order ((c.as_slice.ensures ∙ ap (λ (d : Config). d.automations) is) i)));
  lasts_are = λ h. (let carried : c.as_slice-carried.result.now ≡ lasts_at c.args.journal.now c.args.bounds.front
      = c.as_slice-carried.ensures ∙ ap (λ (v : Carry). v.last) (c.carry_at.ensures c.requires.opens.0 c.requires.opens.1)
      ∙ (λ i. option_map_or (λ (v : Carry). v.last) (option_map carry_in (sym c.requires.opens.1 i)) []) in
      c.in_ok-known.ensures ∙ (λ i. known_lasts c.args.lasts.now ((c.as_slice-2.ensures ∙ c.names.ensures) i) ((carried ∙ h.front) i)));
}
