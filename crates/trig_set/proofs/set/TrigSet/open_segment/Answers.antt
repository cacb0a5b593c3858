use Rattle.std.proofs.Common.{◌≡◌, [], ◌∷◌, ◌++◌, ◌∙◌, ap, map, subst, sym, None, arith}
use Rattle.std.specs.Prelude.{MatchOption, if◌then◌else◌}
use Rattle.ha_journal.specs.Journal.{zone_of}
use Rattle.ha_journal.specs.Moves.{report_number}
use Rattle.ha_journal.proofs.HeldLaws.{latest-more}
use Rattle.ha_past.specs.Firings.{firings}
use Rattle.ha_past.specs.Looks.{or_else}
use Rattle.trig_set.specs.Known.{AreKnown}
use Rattle.trig_set.specs.Noted.{AreNoted}
use Rattle.trig_set.specs.Order.{owner_of}
use Rattle.trig_set.specs.Queued.{HasDue}
use Rattle.trig_set.specs.Stands.{AllOwners, OwnerStands, attached}
use Rattle.trig_set.specs.Table.{number_at}
use Rattle.trig_set.proofs.OpeningLemmas.{boot-opens}
use Rattle.trig_set.proofs.SetLemmas.{now-seen}
use Rattle.trig_set.proofs.set.TrigSet.open_segment.Goals as goal

pub returns-clause-stands : goal.returns-clause-stands
returns-clause-stands g c x stands opens =
    let r = c.set_zone.ensures.rest in
    let items = ap (λ s. s.owners) r in
    let known = subst (λ s. AreKnown s.index (attached s)) (sym r) stands.known in
    let noted = subst (λ s. AreNoted s.recent 0 (attached s)) (sym r) stands.noted in
    let queued = subst (λ s. AllOwners s.owners (HasDue s.queue)) (sym r) stands.queued in
    record {
      owners = c.in_ok-open_all.ensures.stands x opens.boot opens.sees (subst (λ l. AllOwners l (OwnerStands [])) (sym items) stands.owners);
      known = subst (AreKnown c.set_zone.new.self.index) (sym c.open_all.ensures.owners) known;
      noted = subst (AreNoted c.note.new.self 1) (sym c.open_all.ensures.owners) (c.note.ensures 1 (attached c.set_zone.new.self) (omega arith) noted);
      queued = c.in_ok-open_all.ensures.queued c.set_zone.new.self.queue queued;
      at = c.now-self.ensures ∙ (λ i. (opens.sees i).now) ∙ now-seen (x ∷ []);
      zone = λ h. subst (λ o. MatchOption o ⊥ (λ z. z ≡ zone_of (x ∷ []))) (sym c.in_ok-set_zone.ensures.zone) (sym opens.zone);
      numbers = λ e name.
          ap (λ s. number_at s.numbers e name) r
          ∙ stands.numbers e name
          ∙ sym (latest-more [] x e name ∙ (λ i. if boot-opens x opens.boot i then None else or_else (report_number e name x) None));
    }

pub returns-clause-fired : goal.returns-clause-fired
returns-clause-fired g c x stands opens =
    let r = c.set_zone.ensures.rest in
    let items = ap (λ s. s.owners) r in
    c.in_ok-open_all.ensures.fired x opens.boot opens.sees (subst (λ l. AllOwners l (OwnerStands [])) (sym items) stands.owners)
    ∙ (λ i. c.make-fired.ensures i ++ firings (x ∷ []) 0 (map owner_of (items i)))
