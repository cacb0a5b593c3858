-- A report of an entity that concerns nobody.
use Rattle.std.proofs.Common.{◌≡◌, ℕ, zero, suc, List, [], ◌∷◌, ◌++◌, length, map, Bool, true, false, refl, sym, ap, subst, ◌∙◌, arith}
use Rattle.std.specs.Prelude.{Option, Some, None, MatchOption, flat_map, nat_lt, option_map, slice_get, if◌then◌else◌}
use Rattle.ha_value.specs.declared.value.EntityId.{EntityId}
use Rattle.ha_config.specs.declared.command.Cmd.{Cmd}
use Rattle.ha_journal.specs.declared.entry.Entry.{Entry}
use Rattle.ha_journal.specs.declared.entry.Entry.TheVariants.{Line}
use Rattle.ha_sight.specs.declared.state.StateObject.{StateObject}
use Rattle.ha_sight.specs.Conditions.{number_watched}
use Rattle.ha_journal.specs.Journal.{Journal, now, zone_of, more}
use Rattle.ha_sight.specs.Sight.{Sight}
use Rattle.ha_journal.specs.States.{states}
use Rattle.ha_config.specs.Words.{Text, Pairs, same_entity}
use Rattle.ha_config.proofs.EqualLemmas.{entity-sound}
use Rattle.ha_journal.specs.Moves.{latest_number}
use Rattle.ha_journal.proofs.EventLaws.{helps-none, number-own}
use Rattle.ha_journal.proofs.HeldLaws.{latest-more}
use Rattle.ha_journal.proofs.MoreLemmas.{length-more}
use Rattle.ha_past.specs.Firings.{firings, firings_of}
use Rattle.ha_past.specs.Looks.{or_else}
use Rattle.event_bus.specs.Lists.{has}
use Rattle.event_bus.specs.Subjects.{Subject, knows}
use Rattle.trig_set.specs.declared.owners.Attached.{Attached}
use Rattle.trig_set.specs.declared.set.TrigSet.{TrigSet}
use Rattle.trig_set.specs.Known.{AreKnown}
use Rattle.trig_set.specs.Left.{Leaves}
use Rattle.trig_set.specs.Next.{AreListed, IsNext, reports}
use Rattle.trig_set.specs.Noted.{AreNoted}
use Rattle.trig_set.specs.Order.{owner_of}
use Rattle.trig_set.specs.Queued.{HasDue}
use Rattle.trig_set.specs.Stands.{AllOwners, OwnerStands, StandsFor, attached}
use Rattle.trig_set.specs.Table.{number_at}
use Rattle.trig_set.proofs.CalmLemmas.{never}
use Rattle.trig_set.proofs.ConcernLemmas.{IsApart, apart-stands, both-at}
use Rattle.trig_set.proofs.NotedLemmas.{noted-along, noted-at}
use Rattle.trig_set.proofs.SetLemmas.{any-at, each-owner, zone-next}

-- where no owner fires, nothing does
none-fire : (k : Journal) (p : ℕ) (owners : List Attached) → AllOwners owners (λ a. firings_of k p (owner_of a) ≡ []) → firings k p (map owner_of owners) ≡ []
none-fire k p [] f = refl
none-fire k p (a ∷ rest) f = (λ i. f zero i ++ flat_map (firings_of k p) (map owner_of rest)) ∙ none-fire k p rest (λ n. f (suc n))

module _ (s : TrigSet) (e : EntityId) (text : Text) (attributes : Pairs) (left : Leaves s e) (j : Journal) (k n place : ℕ) (old : Option StateObject) (seen : Sight) (stands : StandsFor s j)
    (next : IsNext j place (Line k n (Cmd.Report e text attributes)) ((e, old) ∷ []) [] seen (attached s)) where
  abbrev x : Entry
  x = Line k n (Cmd.Report e text attributes)

  -- another entity that concerns somebody is as before, and not reported
  others : (m : ℕ) (f : EntityId) → knows s.index (Subject.Entity f) m ≡ true → AreListed j x ((e, old) ∷ []) → (states (more j x) f ≡ states j f) × (reports f x ≡ false)
  others m f given listed = by (same_entity e f) refl (listed f)
    where
      by : (b : Bool) → same_entity e f ≡ b
          → MatchOption (option_map {T = EntityId × Option StateObject} {U = Option StateObject} (λ p. p.1) (if b then Some (e, old) else None)) ((states (more j x) f ≡ states j f) × (reports f x ≡ false)) (λ was. was ≡ states j f)
          → (states (more j x) f ≡ states j f) × (reports f x ≡ false)
      by true same h = absurd (never (knows s.index (Subject.Entity f) m) given (subst (λ g. knows s.index (Subject.Entity g) m ≡ false) (entity-sound e f same) (left.entity m)))
      by false other h = h

  late-at : (a : Attached) (m : ℕ) → slice_get s.owners m ≡ Some a → nat_lt a.since (length j) ≡ true
  late-at a m at =
      let told : has s.recent.owners a.owner ≡ false → nat_lt a.since (length j) ≡ true
      = subst (λ o. MatchOption o (Unit {0}) (λ b. has s.recent.owners b.owner ≡ false → nat_lt b.since (length j) ≡ true)) at (noted-at s.recent (length j) s.owners m stands.noted) in
      told (left.recent a.owner)

  apart : (a : Attached) (m : ℕ) → slice_get s.owners m ≡ Some a → IsApart s.index s.queue j x a.owner a.since
  apart a m at = record {
    within = refl;
    journal = next.journal;
    entries = left.entries a.owner;
    late = late-at a m at;
    events = tt;
    timed = λ k. subst (λ vs. MatchOption (slice_get vs k) (Unit {0}) (λ v. knows s.index (Subject.Event v.kind) a.owner ≡ false)) (sym (helps-none j x refl refl)) tt;
    entities = λ f given lt. others a.owner f given (next.listed (any-at place s.owners m a at (ap (nat_lt a.since) next.at ∙ lt)));
    times = λ moment. absurd (never false moment refl);
    later = λ moment. absurd (never false moment refl);
  }

  all-apart : AllOwners s.owners (λ a. IsApart s.index s.queue j x a.owner a.since)
  all-apart = each-owner s.owners (λ a. IsApart s.index s.queue j x a.owner a.since) apart

  -- LAW: nothing fires
  pub left-fires : firings (more j x) place (attached s) ≡ []
  left-fires = (λ i. firings (more j x) (next.at i) (attached s)) ∙ none-fire (more j x) (length j) s.owners quiet
    where
      quiet : AllOwners s.owners (λ a. firings_of (more j x) (length j) (owner_of a) ≡ [])
      quiet m = by (slice_get s.owners m) (both-at s.index s.queue j x s.owners stands.known stands.owners stands.queued m (all-apart m))
        where
          by : (o : Option Attached) → MatchOption o (Unit {0}) (λ a. OwnerStands (more j x) a × (firings_of (more j x) (length j) (owner_of a) ≡ []))
              → MatchOption o (Unit {0}) (λ a. firings_of (more j x) (length j) (owner_of a) ≡ [])
          by None b = tt
          by (Some a) b = b.1

  -- LAW: with the numbers of the report, and Now, the set stands for the journal with it
  pub left-stands : (s' : TrigSet) → s'.owners ≡ s.owners → s'.index ≡ s.index → s'.recent ≡ s.recent → s'.queue ≡ s.queue → s'.zone ≡ s.zone → s'.now ≡ now (more j x)
      → ((f : EntityId) (name : Option Text) → number_at s'.numbers f name ≡ or_else (if same_entity e f then number_watched name text attributes else None) (number_at s.numbers f name))
      → StandsFor s' (more j x)
  left-stands s' owners index recent queue zone at numbers = record {
    owners = subst (λ l. AllOwners l (OwnerStands (more j x))) (sym owners)
        (λ m. apart-stands s.index s.queue j x s.owners stands.known stands.owners stands.queued m (all-apart m));
    known = subst (λ i. AreKnown i (attached s')) (sym index) (subst (λ l. AreKnown s.index (map owner_of l)) (sym owners) stands.known);
    noted = subst (λ r. AreNoted r (length (more j x)) (attached s')) (sym recent)
        (subst (λ l. AreNoted s.recent (length (more j x)) (map owner_of l)) (sym owners)
        (noted-along s.recent s.recent (λ n h. h) (omega arith) (length j) (length (more j x)) (attached s) (omega (arith, length-more j x)) stands.noted));
    queued = subst (λ q. AllOwners s'.owners (HasDue q)) (sym queue) (subst (λ l. AllOwners l (HasDue s.queue)) (sym owners) stands.queued);
    at = at;
    zone = λ h. subst (λ o. MatchOption o ⊥ (λ z. z ≡ zone_of (more j x))) (sym zone) (zone-next j x s.zone s.zone next.journal next.zone stands.zone refl);
    numbers = λ f name.
        numbers f name
        ∙ (λ i. or_else (if same_entity e f then number_watched name text attributes else None) (stands.numbers f name i))
        ∙ (λ i. or_else (sym (number-own f name x refl) i) (latest_number f name j))
        ∙ sym (latest-more j x f name);
  }
