use Rattle.std.proofs.Common.{◌≡◌, ◌≤◌, List, [], ◌∷◌, Bool, true, ap, length, sym, subst, ◌∙◌, rules, arith, IsTrue}
use Rattle.std.specs.Prelude.{IsSome, Option}
use Rattle.ha_clock.specs.Zone.{zone_of}
use Rattle.ha_journal.specs.declared.entry.Entry.TheVariants.{Boot}
use Rattle.ha_journal.specs.Entries.{first_carry}
use Rattle.ha_journal.specs.Journal.{Journal, automations}
use Rattle.ha_config.specs.declared.config.Automation.{Automation}
use Rattle.ha_config.specs.Names.{of_automations}
use Rattle.ha_config.specs.Words.{Text, up_to}
use Rattle.ha_config.specs.Sound.{are_sound_automations, is_sound_config}
use Rattle.ha_config.proofs.UnitLemmas.{units-few}
use Rattle.engine_parts.proofs.ViewLemmas.{sound-automations, true-of}
use Rattle.store_text.specs.Store.{Switches}
use Rattle.switch_book.specs.Book.{StandsFor}
use Rattle.ha_whole.specs.Whole.{records_of}
use Rattle.segment_carry.specs.ByName.{rule_order}
use Rattle.engine_parts.specs.Numbers.{numbers_in}
use Rattle.engine_entry.proofs.NamedLemmas.{sound-few}
use Rattle.ha_engine.proofs.BeginLemmas.{boot-up-to}
use Rattle.ha_engine.proofs.BootLemmas.{booted}
use Rattle.ha_engine.proofs.engine.Machine.boot.Goals as goal

pub rule_order-requires : goal.rule_order-requires
rule_order-requires c = subst (λ (all : List Automation). length all ≤ 1_024) (sym c.as_slice-automations.ensures) (sound-few c.args.config c.requires.config)

true-is : (b : Bool) → b ≡ true → IsTrue b
true-is b h = search (rules, h)

pub restore-requires : goal.restore-requires
restore-requires c = true-is (are_sound_automations c.args.config.automations) (sound-automations c.args.config c.requires.config)

pub unit_count-requires : goal.unit_count-requires
unit_count-requires c = units-few c.args.config (true-of (is_sound_config c.args.config) c.requires.config)

pub first_numbers-requires : goal.first_numbers-requires
first_numbers-requires c = omega (arith, c.unit_count.ensures.few)

pub first_machine-requires-clause-boots : goal.first_machine-requires-clause-boots
first_machine-requires-clause-boots c =
    let all = c.args.config.automations in
    let read : c.in_ok-read.read ≡ c.args.zone = c.in_ok-read.ensures in
    let known : c.in_ok-known.known ≡ of_automations all c.args.last = c.in_ok-known.ensures ∙ (λ i. of_automations (c.as_slice-automations.ensures i) (c.as_slice.ensures i)) in
    let carry : c.in_ok-carry.carry ≡ first_carry (of_automations all c.args.last) = c.in_ok-carry.ensures ∙ ap first_carry known in
    let at : c.in_ok-journal.journal.items ≡ booted c.args.text c.args.config c.args.stored c.args.start c.in_ok-read.read c.args.last
    = c.in_ok-journal.ensures ∙ (λ i. Boot c.args.text c.args.config c.args.stored c.args.start (sym read i) (carry i) ∷ []) in
    record {
      text = c.args.text;
      config = c.args.config;
      stored = c.args.stored;
      last = c.args.last;
      journal_is = at;
      sound = c.requires.config;
      moments = c.requires.last;
      zone_read = subst (λ (z : Text). IsSome (zone_of z)) (sym read) c.requires.zone;
      in_time = c.requires.start;
      switches_stand = subst (λ (i : Journal). StandsFor c.in_ok-switches.switches i) (sym at)
          (subst (λ (o : Option Switches). StandsFor c.in_ok-switches.switches (booted c.args.text c.args.config o c.args.start c.in_ok-read.read c.args.last)) c.as_ref.ensures.value
          (c.in_ok-switches.ensures.stands c.args.text c.args.start c.in_ok-read.read (first_carry (of_automations all c.args.last))));
    }

pub first_machine-requires-clause-order : goal.first_machine-requires-clause-order
first_machine-requires-clause-order c = c.in_ok-order.ensures ∙ (λ i. rule_order (c.as_slice-automations.ensures i)) ∙ ap (λ (j : Journal). rule_order (automations j)) (sym c.in_ok-journal.ensures)

pub first_machine-requires-clause-numbers : goal.first_machine-requires-clause-numbers
first_machine-requires-clause-numbers c =
    c.in_ok-numbers.ensures ∙ ap up_to c.unit_count.ensures.count ∙ sym (boot-up-to c.args.text c.args.config c.args.stored c.args.start c.args.zone c.in_ok-carry.carry) ∙ ap numbers_in (sym c.in_ok-journal.ensures)

pub returns-clause-entries : goal.returns-clause-entries
returns-clause-entries c =
    let all = c.args.config.automations in
    let known : c.in_ok-known.known ≡ of_automations all c.args.last = c.in_ok-known.ensures ∙ (λ i. of_automations (c.as_slice-automations.ensures i) (c.as_slice.ensures i)) in
    let carry : c.in_ok-carry.carry ≡ first_carry (of_automations all c.args.last) = c.in_ok-carry.ensures ∙ ap first_carry known in
    c.in_ok-machine.ensures.entries ∙ c.in_ok-journal.ensures ∙ (λ i. Boot c.args.text c.args.config c.args.stored c.args.start c.args.zone (carry i) ∷ [])

pub returns-clause-runs : goal.returns-clause-runs
returns-clause-runs c =
    let all = c.args.config.automations in
    let known : c.in_ok-known.known ≡ of_automations all c.args.last = c.in_ok-known.ensures ∙ (λ i. of_automations (c.as_slice-automations.ensures i) (c.as_slice.ensures i)) in
    let carry : c.in_ok-carry.carry ≡ first_carry (of_automations all c.args.last) = c.in_ok-carry.ensures ∙ ap first_carry known in
    c.in_ok-machine.ensures.runs ∙ ap records_of (c.in_ok-journal.ensures ∙ (λ i. Boot c.args.text c.args.config c.args.stored c.args.start c.args.zone (carry i) ∷ []))
