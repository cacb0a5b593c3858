use Rattle.std.proofs.Common.{[], map, ap, subst, ◌∙◌}
use Rattle.std.specs.Prelude.{None, Some}
use Rattle.std.specs.Option.{option_map_or}
use Rattle.ha_journal.specs.Journal.{Journal, automations, helpers}
use Rattle.ha_sight.specs.StateStep.{next_object}
use Rattle.switch_book.specs.Book.{StandsFor}
use Rattle.engine_parts.specs.Texts.{first_change, first_of}
use Rattle.ha_engine.proofs.BeginLemmas.{boot-opening}
use Rattle.ha_engine.proofs.boot.open_first.Goals as goal

pub open_all-requires : goal.open_all-requires
open_all-requires c =
    let h = c.requires in
    let listed = c.as_slice.ensures ∙ c.first_configuration.ensures ∙ ap helpers h.journal_is in
    boot-opening h.text h.config h.stored c.args.start c.args.zone.now h.carry h.sound c.args.switches.now (subst (λ (i : Journal). StandsFor c.args.switches.now i) h.journal_is h.switches_stand)
    c.in_ok-states.states c.make-triggers.result
    (λ e. c.in_ok-states.ensures e ∙ (λ i. option_map_or (λ d. Some (next_object None d.text [] c.args.start)) (first_of (map first_change (listed i)) e) None))
    c.make-triggers.ensures.empty c.make-triggers.ensures.stands c.as_slice-2.result.now
    (c.as_slice-2.ensures ∙ c.configuration.ensures.automations ∙ ap automations h.journal_is)

pub returns : goal.returns
returns c =
    let h = c.requires in
    let listed = c.as_slice.ensures ∙ c.first_configuration.ensures ∙ ap helpers h.journal_is in
    record {
      begun = record {
        text = h.text;
        config = h.config;
        stored = h.stored;
        carry = h.carry;
        journal_is = h.journal_is;
        sound = h.sound;
        zone_read = h.zone_read;
        in_time = h.in_time;
        switches_stand = h.switches_stand;
      };
      opened = c.in_ok-open_all.ensures
          (boot-opening h.text h.config h.stored c.args.start c.args.zone.now h.carry h.sound c.args.switches.now (subst (λ (i : Journal). StandsFor c.args.switches.now i) h.journal_is h.switches_stand)
          c.in_ok-states.states c.make-triggers.result
          (λ e. c.in_ok-states.ensures e ∙ (λ i. option_map_or (λ d. Some (next_object None d.text [] c.args.start)) (first_of (map first_change (listed i)) e) None))
          c.make-triggers.ensures.empty c.make-triggers.ensures.stands c.as_slice-2.result.now
          (c.as_slice-2.ensures ∙ c.configuration.ensures.automations ∙ ap automations h.journal_is));
    }
