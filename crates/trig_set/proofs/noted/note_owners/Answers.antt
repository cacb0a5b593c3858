use Rattle.std.proofs.Common.{◌≡◌, ◌∙◌, ◌++◌, ap, sym, subst, length, map, true}
use Rattle.trig_set.specs.Known.{AreKnown}
use Rattle.trig_set.specs.Noted.{AreNoted}
use Rattle.trig_set.specs.Order.{ascend, owner_of}
use Rattle.trig_set.specs.Queued.{HasDue}
use Rattle.trig_set.specs.Scenes.{Shows}
use Rattle.ha_past.specs.Firings.{firings}
use Rattle.trig_set.specs.Stands.{AllOwners, OwnerStands}
use Rattle.ha_journal.specs.Journal.{more}
use Rattle.trig_set.proofs.OnLemmas.{on-then}
use Rattle.trig_set.proofs.OwnersLemmas.{owners-fire, written}
use Rattle.trig_set.proofs.noted.note_owners.Goals as goal

pub returns-clause-stands : goal.returns-clause-stands
returns-clause-stands g c =
    let v = c.as_mut_slice.ensures.value in
    on-then _ _ c.note_list.result
    (λ f j shows sees all known noted queued.
    subst (λ l. AllOwners l (OwnerStands (more j c.args.scene.now.entry.now))) (sym (written c.args.owners.now.len c.note_list.new.owners c.args.owners.now.items (c.args.owners.now.ok.0 ∙ ap length (sym v) ∙ sym c.note_list.auto.owners)))
    (f j (subst (λ l. AllOwners l (λ a. Shows c.args.scene.now j a.since)) (sym v) shows) sees (subst (λ l. AllOwners l (OwnerStands j)) (sym v) all) (subst (λ l. AreKnown c.args.index.now (map owner_of l)) (sym v) known) (subst (λ l. AreNoted c.args.recent.now (length j) (map owner_of l)) (sym v) noted) (subst (λ l. AllOwners l (HasDue c.args.queue.now)) (sym v) queued)))
    c.note_list.ensures.stands

pub returns-clause-fired : goal.returns-clause-fired
returns-clause-fired g c =
    let v = c.as_mut_slice.ensures.value in
    on-then _ _ c.note_list.result
    (λ f j shows sees all known noted queued.
    f j (subst (λ l. AllOwners l (λ a. Shows c.args.scene.now j a.since)) (sym v) shows) sees (subst (λ l. AllOwners l (OwnerStands j)) (sym v) all) (subst (λ l. AreKnown c.args.index.now (map owner_of l)) (sym v) known) (subst (λ l. AreNoted c.args.recent.now (length j) (map owner_of l)) (sym v) noted) (subst (λ l. AllOwners l (HasDue c.args.queue.now)) (sym v) queued)
    ∙ (λ i. c.args.fired.now ++ owners-fire j c.args.scene.now.entry.now c.as_mut_slice.result.now i)
    ∙ (λ i. c.args.fired.now ++ firings (more j c.args.scene.now.entry.now) (length j) (map owner_of (v i))))
    c.note_list.ensures.fired

pub returns-clause-queued : goal.returns-clause-queued
returns-clause-queued g c =
    let v = c.as_mut_slice.ensures.value in
    on-then _ _ c.note_list.result
    (λ f asc queued.
    subst (λ l. AllOwners l (HasDue c.note_list.new.queue)) (sym (written c.args.owners.now.len c.note_list.new.owners c.args.owners.now.items (c.args.owners.now.ok.0 ∙ ap length (sym v) ∙ sym c.note_list.auto.owners)))
    (f (subst (λ l. ascend (map owner_of l) ≡ true) (sym v) asc) (subst (λ l. AllOwners l (HasDue c.args.queue.now)) (sym v) queued)))
    c.note_list.ensures.queued
