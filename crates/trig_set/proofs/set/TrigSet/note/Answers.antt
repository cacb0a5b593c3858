use Rattle.std.proofs.Common.{◌≡◌, ◌<◌, ◌∙◌, ◌++◌, ap, sym, subst, length, None, arith}
use Rattle.std.specs.Prelude.{MatchOption, map, nat_lt, slice_get, if◌then◌else◌}
use Rattle.ha_journal.specs.Entries.{opens_segment}
use Rattle.ha_journal.specs.Moves.{report_number}
use Rattle.ha_journal.specs.Journal.{zone_of, more}
use Rattle.ha_past.specs.Looks.{or_else}
use Rattle.trig_set.specs.Scenes.{AreShifts}
use Rattle.ha_past.specs.Firings.{firings}
use Rattle.trig_set.specs.Known.{AreKnown}
use Rattle.trig_set.specs.Noted.{AreNoted}
use Rattle.trig_set.specs.Queued.{HasDue}
use Rattle.trig_set.specs.Table.{number_at}
use Rattle.trig_set.specs.Order.{owner_of}
use Rattle.trig_set.specs.Stands.{AllOwners, OwnerStands, attached}
use Rattle.ha_journal.proofs.HeldLaws.{latest-more}
use Rattle.ha_journal.proofs.MoreLemmas.{length-more}
use Rattle.trig_set.proofs.SetLemmas.{zone-next, any-at, each-owner, now-seen}
use Rattle.trig_set.proofs.set.TrigSet.note.Goals as goal

pub returns-clause-stands : goal.returns-clause-stands
returns-clause-stands g c j stands next =
    let r = c.open.ensures.rest in
    let items = ap (λ s. s.owners) r in
    let known = subst (λ s. AreKnown s.index (attached s)) (sym r) stands.known in
    let noted = subst (λ s. AreNoted s.recent (length j) (attached s)) (sym r) stands.noted in
    let queued = subst (λ s. AllOwners s.owners (HasDue s.queue)) (sym r) stands.queued in
    let to-is = c.now-to.ensures ∙ (λ i. (next.sees i).now) ∙ now-seen (more j c.args.entry.now) in
    let zone = zone-next j c.args.entry.now c.args.self.now.zone c.open.new.self.zone next.journal next.zone stands.zone c.in_ok-open.ensures.boot in
    record {
      owners = c.in_ok-note.ensures.stands j
          (each-owner _ _ (λ a n at. record {
            at = next.at;
            journal = next.journal;
            shifts = λ lt. subst (λ l. AreShifts l j c.args.entry.now) (sym (c.in_ok-changes.ensures ∙ c.as_slice.ensures))
                (c.in_ok-shifts.ensures j (record {
                  sees = next.sees;
                  listed = next.listed (any-at c.args.place c.args.self.now.owners n a (ap (λ l. slice_get l n) (sym items) ∙ at) (ap (nat_lt a.since) next.at ∙ lt));
                  apart = next.apart;
                  helped = next.helped;
                  events_are = c.in_ok-given.ensures ∙ c.as_slice-listed.ensures ∙ next.events_are;
                }));
            events = c.in_ok-given.ensures ∙ c.as_slice-listed.ensures ∙ next.events_are;
            zone = subst (λ o. MatchOption o ⊥ (λ z. z ≡ zone_of (more j c.args.entry.now))) (sym c.as_ref.ensures.value) zone;
            from = ap (λ s. s.now) r ∙ stands.at;
            to = to-is;
            numbers = λ e name. ap (λ s. number_at s.numbers e name) r ∙ stands.numbers e name;
          })) next.sees (subst (λ l. AllOwners l (OwnerStands j)) (sym items) stands.owners) known noted queued;
      known = subst (AreKnown c.open.new.self.index) (sym c.note.ensures.owners) known;
      noted = subst (AreNoted c.note-3.new.self (length (more j c.args.entry.now))) (sym c.note.ensures.owners)
          (c.note-3.ensures (length (more j c.args.entry.now)) (attached c.open.new.self)
          (subst (λ p. p < length (more j c.args.entry.now)) (sym next.at) (omega (arith, length-more j c.args.entry.now)))
          (subst (λ p. AreNoted c.open.new.self.recent p (attached c.open.new.self)) (sym next.at) noted));
      queued = c.in_ok-note.ensures.queued known.ascend queued;
      at = to-is;
      zone = λ h. zone;
      numbers = λ e name.
          c.in_ok-note-2.ensures e name
          ∙ (λ i. if opens_segment c.args.entry.now then None else or_else (report_number e name c.args.entry.now) ((ap (λ s. number_at s.numbers e name) r ∙ stands.numbers e name) i))
          ∙ sym (latest-more j c.args.entry.now e name);
    }

pub returns-clause-fired : goal.returns-clause-fired
returns-clause-fired g c j stands next =
    let r = c.open.ensures.rest in
    let items = ap (λ s. s.owners) r in
    let known = subst (λ s. AreKnown s.index (attached s)) (sym r) stands.known in
    let noted = subst (λ s. AreNoted s.recent (length j) (attached s)) (sym r) stands.noted in
    let queued = subst (λ s. AllOwners s.owners (HasDue s.queue)) (sym r) stands.queued in
    let to-is = c.now-to.ensures ∙ (λ i. (next.sees i).now) ∙ now-seen (more j c.args.entry.now) in
    let zone = zone-next j c.args.entry.now c.args.self.now.zone c.open.new.self.zone next.journal next.zone stands.zone c.in_ok-open.ensures.boot in
    c.in_ok-note.ensures.fired j
    (each-owner _ _ (λ a n at. record {
      at = next.at;
      journal = next.journal;
      shifts = λ lt. subst (λ l. AreShifts l j c.args.entry.now) (sym (c.in_ok-changes.ensures ∙ c.as_slice.ensures))
          (c.in_ok-shifts.ensures j (record {
            sees = next.sees;
            listed = next.listed (any-at c.args.place c.args.self.now.owners n a (ap (λ l. slice_get l n) (sym items) ∙ at) (ap (nat_lt a.since) next.at ∙ lt));
            apart = next.apart;
            helped = next.helped;
            events_are = c.in_ok-given.ensures ∙ c.as_slice-listed.ensures ∙ next.events_are;
          }));
      events = c.in_ok-given.ensures ∙ c.as_slice-listed.ensures ∙ next.events_are;
      zone = subst (λ o. MatchOption o ⊥ (λ z. z ≡ zone_of (more j c.args.entry.now))) (sym c.as_ref.ensures.value) zone;
      from = ap (λ s. s.now) r ∙ stands.at;
      to = to-is;
      numbers = λ e name. ap (λ s. number_at s.numbers e name) r ∙ stands.numbers e name;
    })) next.sees (subst (λ l. AllOwners l (OwnerStands j)) (sym items) stands.owners) known noted queued
    ∙ (λ i. c.make-fired.ensures i ++ firings (more j c.args.entry.now) (sym next.at i) (map owner_of (items i)))
