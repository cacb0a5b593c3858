-- What a set keeps goes on with the next entry.
use Rattle.std.proofs.Common.{◌≡◌, ℕ, zero, suc, List, [], ◌∷◌, ◌++◌, length, map, Bool, true, false, refl, sym, ap, subst, ◌∙◌, arith}
use Rattle.std.specs.Prelude.{Option, Some, None, IsSome, MatchOption, slice_get, nat_lt, ◌||◌}
use Rattle.std.proofs.lemmas.List.{take_all}
use Rattle.ha_clock.specs.Zone as clock
use Rattle.ha_journal.specs.declared.entry.Entry.{Entry}
use Rattle.ha_journal.specs.declared.entry.Entry.TheVariants.{Boot, Line, Step, Again}
use Rattle.ha_config.specs.Words.{Text, EachFrom}
use Rattle.ha_journal.specs.Entries.{boot_of, BeginsSegment}
use Rattle.ha_journal.specs.Journal.{Journal, IsJournal, HasEntry, zone_of, now, more}
use Rattle.ha_journal.specs.Moves.{sight}
use Rattle.trig_set.specs.declared.owners.Attached.{Attached}
use Rattle.trig_set.specs.Next.{has_earlier}
use Rattle.trig_set.specs.Order.{owner_of}
use Rattle.trig_set.specs.Reads.{AreRead}
use Rattle.trig_set.specs.Stands.{AllOwners, AtOwner, OwnerStands}

-- the last entry of a journal that has others is no Boot and no Again
each-last : (n : ℕ) (xs : List Entry) (x : Entry) → EachFrom (λ n x. ¬ BeginsSegment x) n (xs ++ (x ∷ [])) → BeginsSegment x → ⊥
each-last n [] x h = h.0
each-last n (y ∷ ys) x h = each-last (suc n) ys x h.1

-- LAW: the zone that is kept is the journal's
pub zone-next : (j : Journal) (x : Entry) (old new : Option Text) → IsJournal (more j x) → IsSome (clock.zone_of (zone_of (more j x)))
    → (HasEntry j → MatchOption old ⊥ (λ z. z ≡ zone_of j))
    → MatchOption (boot_of x) (new ≡ old) (λ b. IsSome (clock.zone_of b.zone) → new ≡ Some b.zone)
    → MatchOption new ⊥ (λ z. z ≡ zone_of (more j x))
zone-next [] (Boot text config stored start zone carry) old new journal some was is = subst (λ o. MatchOption o ⊥ (λ z. z ≡ zone)) (sym (is some)) refl
zone-next [] (Line source number cmd) old new journal some was is = absurd journal.0
zone-next [] (Again number start stored carry) old new journal some was is = absurd journal.0
zone-next [] (Step worker serial branch item) old new journal some was is = absurd journal.0
zone-next (y ∷ ys) (Boot text config stored start zone carry) old new journal some was is = absurd (each-last 1 ys (Boot text config stored start zone carry) journal.1 tt)
zone-next (y ∷ ys) (Again number start stored carry) old new journal some was is = absurd (each-last 1 ys (Again number start stored carry) journal.1 tt)
zone-next (y ∷ ys) (Line source number cmd) old new journal some was is = subst (λ o. MatchOption o ⊥ (λ z. z ≡ zone_of (y ∷ ys))) (sym is) (was tt)
zone-next (y ∷ ys) (Step worker serial branch item) old new journal some was is = subst (λ o. MatchOption o ⊥ (λ z. z ≡ zone_of (y ∷ ys))) (sym is) (was tt)

-- an owner that was attached earlier is among them
pub any-at : (place : ℕ) (owners : List Attached) (n : ℕ) (a : Attached) → slice_get owners n ≡ Some a → nat_lt a.since place ≡ true → has_earlier place (map owner_of owners) ≡ true
any-at place [] n a at lt = absurd (let bad : ◌≡◌ {A = Option Attached} None (Some a) = at in cc)
any-at place (b ∷ bs) zero a at lt = (let e : b ≡ a = cc in (λ i. nat_lt ((e i).since) place || has_earlier place (map owner_of bs)) ∙ (λ i. lt i || has_earlier place (map owner_of bs)))
any-at place (b ∷ bs) (suc n) a at lt = (λ i. nat_lt b.since place || any-at place bs n a at lt i) ∙ by (nat_lt b.since place)
  where
    by : (b : Bool) → (b || true) ≡ true
    by true = refl
    by false = refl

pub each-owner : (owners : List Attached) (Q : Attached → Type 0) → ((a : Attached) (n : ℕ) → slice_get owners n ≡ Some a → Q a) → AllOwners owners Q
each-owner owners Q f n = by (slice_get owners n) refl
  where
    by : (o : Option Attached) → slice_get owners n ≡ o → MatchOption o (Unit {0}) Q
    by None e = tt
    by (Some a) e = f a n e

-- of each owner it is kept what its templates read
pub reads-of : (owners : List Attached) (j : Journal) → AllOwners owners (OwnerStands j) → (n : ℕ) → AtOwner owners n (λ a. AreRead a.triggers a.reads)
reads-of owners j stand n = by (slice_get owners n) (stand n)
  where
    by : (o : Option Attached) → MatchOption o (Unit {0}) (OwnerStands j) → MatchOption o (Unit {0}) (λ a. AreRead a.triggers a.reads)
    by None k = tt
    by (Some a) k = k.reads

pub now-seen : (k : Journal) → (sight k (length k)).now ≡ now k
now-seen k = ap now (take_all (length k) k (omega arith))
