use Rattle.std.proofs.Common.{◌≡◌, [], refl, sym, ap, subst, ◌∙◌}
use Rattle.std.specs.Prelude.{Some, count_by, option_map, slice_get, true}
use Rattle.ha_config.specs.Names.{of_automations}
use Rattle.ha_journal.specs.declared.entry.Entry.{Entry}
use Rattle.ha_journal.specs.declared.entry.Entry.TheVariants.{Boot}
use Rattle.ha_journal.specs.Entries.{first_carry, is_reload}
use Rattle.ha_journal.specs.Force.{force, in_place_of}
use Rattle.ha_journal.specs.Journal.{Journal}
use Rattle.ha_model.specs.Records.{last_is, records_of}
use Rattle.ha_whole.specs.Whole.{Right as RightWhole, records_of as records_whole}
use Rattle.segment_runs.specs.Segment.{all_of}
use Rattle.unit_book.specs.Book.{Holds, config_at}
use Rattle.unit_book.specs.Opens.{Opens}
use Rattle.engine_parts.specs.Kept.{Kept}
use Rattle.engine_parts.specs.Numbers.{numbers_in}
use Rattle.ha_engine.specs.Begun.{Begun}
use Rattle.ha_engine.specs.Noted.{AreNoted, known_lasts, noted as noted_with}
use Rattle.ha_engine.specs.Reloads.{lasts_at}
use Rattle.ha_engine.specs.Told.{IsFollowed, IsTold}
use Rattle.ha_engine.proofs.BeginLemmas.{boot-numbers}
use Rattle.ha_engine.proofs.BootLemmas.{booted, followed-boot, noted-boot, told-boot}
use Rattle.ha_engine.proofs.boot.first_machine.Goals as goal

pub open-requires : goal.open-requires
open-requires c =
    let h = c.requires.boots in
    let is = c.as_slice.ensures.value ∙ h.journal_is in
    subst (λ (i : Journal). Opens i 0 c.args.numbers) (sym is)
    (record {
      c = h.config;
      config_is = refl;
      sound = h.sound;
      numbered = boot-numbers h.text h.config h.stored c.args.start c.args.zone (first_carry (of_automations h.config.automations h.last)) c.args.numbers (c.requires.numbers ∙ ap numbers_in h.journal_is);
    })

pub first_lasts-requires : goal.first_lasts-requires
first_lasts-requires c =
    let h = c.requires.boots in
    let is = c.as_slice-2.ensures.value ∙ h.journal_is in
    let x : Entry = Boot h.text h.config h.stored c.args.start c.args.zone (first_carry (of_automations h.config.automations h.last)) in
    (x, (λ i. slice_get (is i) 0), tt)

pub begin_first-requires-clause-begun : goal.begin_first-requires-clause-begun
begin_first-requires-clause-begun c =
    let h = c.requires.boots in
    subst (λ (i : Journal). Begun i c.args.switches c.args.zone c.args.start) (sym c.as_slice-3.ensures.value)
    (record {
      text = h.text;
      config = h.config;
      stored = h.stored;
      carry = first_carry (of_automations h.config.automations h.last);
      journal_is = h.journal_is;
      sound = h.sound;
      zone_read = h.zone_read;
      in_time = h.in_time;
      switches_stand = h.switches_stand;
    })

pub begin_first-requires-clause-numbers : goal.begin_first-requires-clause-numbers
begin_first-requires-clause-numbers c = c.requires.numbers ∙ ap numbers_in (sym c.as_slice-3.ensures.value)

pub begin_first-requires-clause-holds : goal.begin_first-requires-clause-holds
begin_first-requires-clause-holds c =
    let h = c.requires.boots in
    let k : Journal = booted h.text h.config h.stored c.args.start c.args.zone h.last in
    let is = c.as_slice.ensures.value ∙ h.journal_is in
    let own : Holds k (force k) c.in_ok-book.book
    = subst (λ (i : Journal). Holds i (force k) c.in_ok-book.book) is (c.in_ok-book.ensures h.config (subst (λ (i : Journal). option_map (in_place_of h.config) (config_at i 0) ≡ Some h.config) (sym is) refl)) in
    subst (λ (i : Journal). Holds i (force i) c.in_ok-book.book) (sym (c.as_slice-3.ensures.value ∙ h.journal_is)) own

pub invariant_of-result : goal.invariant_of-result
invariant_of-result c =
    let h = c.requires.boots in
    let k : Journal = booted h.text h.config h.stored c.args.start c.args.zone h.last in
    let is : c.args.journal.items ≡ k = h.journal_is in
    let at : c.as_slice-3.result.now ≡ k = c.as_slice-3.ensures.value ∙ is in
    let own : c.in_ok-runs.runs.list ≡ records_of k = c.in_ok-runs.ensures.runs ∙ (λ i. records_of (at i)) in
    let there = c.as_slice.ensures.value ∙ is in
    let holds : Holds k (force k) c.in_ok-book.book
    = subst (λ (i : Journal). Holds i (force k) c.in_ok-book.book) there (c.in_ok-book.ensures h.config (subst (λ (i : Journal). option_map (in_place_of h.config) (config_at i 0) ≡ Some h.config) (sym there) refl)) in
    let lasts : c.in_ok-lasts.lasts.items ≡ known_lasts [] c.in_ok-book.book.names (of_automations h.config.automations h.last)
    = c.in_ok-lasts.ensures ∙ (λ i. known_lasts [] c.in_ok-book.book.names (lasts_at ((c.as_slice-2.ensures.value ∙ is) i) 0)) in
    let noted = c.note_lasts-moved.ensures.lasts ∙ (λ i. noted_with c.args.start c.in_ok-runs.runs.firsts c.in_ok-runs.runs.list (lasts i)) in
    let kept = subst (λ (i : Journal). Kept i c.in_ok-runs.runs.list c.in_ok-runs.parts) at c.in_ok-runs.ensures.kept in
    record {
      told = subst (λ (i : Journal). IsTold i c.first.result c.in_ok-book.book c.in_ok-runs.runs) (sym is)
          (told-boot h.text h.config h.stored c.args.start c.args.zone h.sound h.last h.moments c.in_ok-runs.runs c.first.result c.in_ok-book.book own c.in_ok-runs.ensures.closed c.first.ensures holds c.in_ok-runs.ensures.firsts);
      reloads_are = (λ i. count_by is_reload (sym is i));
      followed = λ e. subst (λ (i : Journal). IsFollowed i c.in_ok-book.book c.in_ok-runs.runs c.in_ok-runs.parts c.note_lasts-moved.new.lasts.items true) (sym is)
          (followed-boot h.text h.config h.stored c.args.start c.args.zone h.sound h.last h.moments c.in_ok-runs.runs c.first.result c.in_ok-book.book own c.in_ok-runs.ensures.closed c.first.ensures holds c.in_ok-runs.ensures.firsts
          c.in_ok-runs.parts c.note_lasts-moved.new.lasts.items kept noted);
      noted = λ e. subst (λ (i : Journal). AreNoted i c.note_lasts-moved.new.lasts.items c.note_lasts-moved.result) (sym is)
          (noted-boot h.text h.config h.stored c.args.start c.args.zone h.sound h.last h.moments c.in_ok-runs.runs c.first.result c.in_ok-book.book own c.in_ok-runs.ensures.closed c.first.ensures holds c.in_ok-runs.ensures.firsts
          c.note_lasts-moved.new.lasts.items c.note_lasts-moved.result h.in_time noted);
      stored = λ e. (λ i. last_is is_reload (is i));
      ordered = λ e. c.requires.order;
    }

pub returns-clause-runs : goal.returns-clause-runs
returns-clause-runs c =
    let h = c.requires.boots in
    let k : Journal = booted h.text h.config h.stored c.args.start c.args.zone h.last in
    let is : c.args.journal.items ≡ k = h.journal_is in
    let at : c.as_slice-3.result.now ≡ k = c.as_slice-3.ensures.value ∙ is in
    let own : c.in_ok-runs.runs.list ≡ records_of k = c.in_ok-runs.ensures.runs ∙ (λ i. records_of (at i)) in
    let there = c.as_slice.ensures.value ∙ is in
    let holds : Holds k (force k) c.in_ok-book.book
    = subst (λ (i : Journal). Holds i (force k) c.in_ok-book.book) there (c.in_ok-book.ensures h.config (subst (λ (i : Journal). option_map (in_place_of h.config) (config_at i 0) ≡ Some h.config) (sym there) refl)) in
    (told-boot h.text h.config h.stored c.args.start c.args.zone h.sound h.last h.moments c.in_ok-runs.runs c.first.result c.in_ok-book.book own c.in_ok-runs.ensures.closed c.first.ensures holds c.in_ok-runs.ensures.firsts).right.records_are
    ∙ ap records_whole (sym is)

pub returns-clause-right : goal.returns-clause-right
returns-clause-right c =
    let h = c.requires.boots in
    let k : Journal = booted h.text h.config h.stored c.args.start c.args.zone h.last in
    let is : c.args.journal.items ≡ k = h.journal_is in
    let at : c.as_slice-3.result.now ≡ k = c.as_slice-3.ensures.value ∙ is in
    let own : c.in_ok-runs.runs.list ≡ records_of k = c.in_ok-runs.ensures.runs ∙ (λ i. records_of (at i)) in
    let there = c.as_slice.ensures.value ∙ is in
    let holds : Holds k (force k) c.in_ok-book.book
    = subst (λ (i : Journal). Holds i (force k) c.in_ok-book.book) there (c.in_ok-book.ensures h.config (subst (λ (i : Journal). option_map (in_place_of h.config) (config_at i 0) ≡ Some h.config) (sym there) refl)) in
    subst (λ (i : Journal). RightWhole i (all_of c.in_ok-runs.runs.closed c.in_ok-runs.runs.list)) (sym is)
    (told-boot h.text h.config h.stored c.args.start c.args.zone h.sound h.last h.moments c.in_ok-runs.runs c.first.result c.in_ok-book.book own c.in_ok-runs.ensures.closed c.first.ensures holds c.in_ok-runs.ensures.firsts).right
