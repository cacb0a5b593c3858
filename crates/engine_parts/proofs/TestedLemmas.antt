-- The waits whose templates the last entry does not test: these are not true.
use Rattle.std.proofs.Common.{◌≡◌, ◌∙◌, ℕ, zero, suc, ◌+◌, ◌-◌, ◌<◌, List, [], ◌∷◌, length, take, get_or, All, Bool, true, false, refl, sym, ap, arith, Option}
use Rattle.std.specs.Prelude.{Some, None, MatchOption, is_some, nat_eq, nat_lt, ◌||◌, if◌then◌else◌}
use Rattle.std.proofs.lemmas.Bool.{lt-ltb}
use Rattle.std.proofs.lemmas.List.{take_all}
use Rattle.ha_value.specs.declared.value.EntityId.{EntityId}
use Rattle.ha_config.specs.Words.{same_entity}
use Rattle.ha_journal.specs.declared.entry.Entry.{Entry}
use Rattle.ha_journal.specs.Journal.{Journal, last_place, more}
use Rattle.ha_journal.specs.Moves.{sight}
use Rattle.ha_journal.specs.States.{states}
use Rattle.ha_past.specs.Firings.{Owner, owner_named}
use Rattle.ha_sight.specs.declared.state.StateObject.{StateObject}
use Rattle.ha_sight.specs.Sight.{Sight}
use Rattle.tpl_reads.specs.Agree.{Agree}
use Rattle.trig_set.specs.Next.{AreListed, Listed, has_earlier, lists, reports, state_listed}
use Rattle.trig_set.specs.Stands as triggers
use Rattle.trig_set.specs.declared.set.TrigSet.{TrigSet}
use Rattle.wait_set.specs.declared.asked.Asked.{Asked}
use Rattle.wait_set.specs.Asked.{WaitTable}
use Rattle.wait_set.specs.Tested.{IsSpared, TestedOrQuiet, TestedOrSpared}
use Rattle.wait_set.proofs.QuietLemmas.{quiet-one, stands-at}
use Rattle.engine_parts.specs.Kept.{AreOwned, IsOwned}
use Rattle.engine_parts.specs.Runs.{first_wait}
use Rattle.engine_parts.specs.Stages.{Untold}
use Rattle.engine_parts.proofs.NoteEntry.{last-at}
use Rattle.engine_parts.proofs.TextLemmas.{lists-is}

-- ---- entities, one after the other

or-true : (b : Bool) → (b || true) ≡ true
or-true true = refl
or-true false = refl

or-turned : (a b c : Bool) → (a || (b || c)) ≡ (b || (a || c))
or-turned true true c = refl
or-turned true false c = refl
or-turned false true c = refl
or-turned false false c = refl

take-none : (l : Listed) → take 0 l ≡ []
take-none [] = refl
take-none (p ∷ ps) = refl

-- LEMMA: before the first nothing is listed
pub lists-none : (l : Listed) (e : EntityId) → lists (take 0 l) e ≡ false
lists-none l e = ap (λ (m : Listed). lists m e) (take-none l)

-- LEMMA: and one entity more
pub lists-more : (l : Listed) (at : ℕ) (y : EntityId) → at < length l → ((d : EntityId × Option StateObject) → y ≡ (get_or l at d).0) → (e : EntityId)
    → lists (take (at + 1) l) e ≡ (same_entity y e || lists (take at l) e)
lists-more l at y lt own e = (let one : at + 1 ≡ suc at = omega arith in λ i. lists (take (one i) l) e) ∙ go l at lt own
  where
    go : (l : Listed) (at : ℕ) → at < length l → ((d : EntityId × Option StateObject) → y ≡ (get_or l at d).0) → lists (take (suc at) l) e ≡ (same_entity y e || lists (take at l) e)
    go [] at lt own = absurd (omega (arith, lt))
    go (p ∷ ps) zero lt own = (λ i. same_entity (sym (own p) i) e || lists-none ps e i)
    go (p ∷ ps) (suc at) lt own = (λ i. same_entity p.0 e || go ps at (omega (arith, lt)) own i) ∙ or-turned (same_entity p.0 e) (same_entity y e) (lists (take at ps) e)

-- LEMMA: the same waits are tested or spared where the same entities change
pub spared-as : (from : ℕ) (changes changes' : EntityId → Bool) (tested : ℕ → Bool) (asks : List Asked) → ((e : EntityId) → changes' e ≡ changes e)
    → All (TestedOrSpared from changes tested) asks → All (TestedOrSpared from changes' tested) asks
spared-as from changes changes' tested asks same all n d lt t none test off =
    (let spared = all n d lt t none test off in
    record { before = spared.before; read = spared.read; read_is = spared.read_is; same = λ e there. same e ∙ spared.same e there })

-- ---- an entity that is not listed

-- its state stays
unlisted-same : (j : Journal) (x : Entry) (before : Listed) (e : EntityId) → AreListed j x before → lists before e ≡ false → states (more j x) e ≡ states j e
unlisted-same j x before e listed off = by (state_listed before e) (sym (lists-is before e) ∙ off) (listed e)
  where
    by : (o : Option (Option StateObject)) → is_some o ≡ false → MatchOption o ((states (more j x) e ≡ states j e) × (reports e x ≡ false)) (λ old. old ≡ states j e) → states (more j x) e ≡ states j e
    by None off h = h.0
    by (Some s) off h = absurd (let bad : ◌≡◌ {A = Bool} true false = off in cc)

-- ---- who is attached since before

earlier-named : (o p : ℕ) (owner : Owner) (os : List Owner) → owner_named o os ≡ Some owner → nat_lt owner.since p ≡ true → has_earlier p os ≡ true
earlier-named o p owner [] found lt = absurd (let bad : ◌≡◌ {A = Option Owner} None (Some owner) = found in cc)
earlier-named o p owner (x ∷ xs) found lt = by (nat_eq x.owner o) (earlier-named o p owner xs) found
  where
    by : (b : Bool) → (owner_named o xs ≡ Some owner → nat_lt owner.since p ≡ true → has_earlier p xs ≡ true) → (if b then Some x else owner_named o xs) ≡ Some owner → has_earlier p (x ∷ xs) ≡ true
    by true rest is = (let same : x ≡ owner = cc in (λ i. nat_lt (same i).since p || has_earlier p xs) ∙ (λ i. lt i || has_earlier p xs))
    by false rest is = ap (λ b. nat_lt x.since p || b) (rest is lt) ∙ or-true (nat_lt x.since p)

owned-at : (n : ℕ) (os : List Owner) (asks : List Asked) (i : ℕ) (d : Asked) → i < length asks → AreOwned n os asks → IsOwned n os (get_or asks i d)
owned-at n os [] i d lt owned = absurd (omega (arith, lt))
owned-at n os (a ∷ asks) zero d lt owned = owned.0
owned-at n os (a ∷ asks) (suc i) d lt owned = owned-at n os asks i d (omega (arith, lt)) owned.1

-- LAW: those that are not tested are not true in what is seen after the last entry
pub tested-quiet : (k : Journal) (t : TrigSet) (w : WaitTable) (before : Listed) (h : Untold k t w before) (seen : Sight) (tested : ℕ → Bool) → seen ≡ sight k (length k)
    → All (TestedOrSpared (first_wait + last_place k) (lists before) tested) w.asks → All (TestedOrQuiet seen tested) w.asks
tested-quiet k t w before h seen tested sees all n d lt u none test off =
    quiet-one h.j seen a u spared.read (stands-at h.j w.asks n d lt h.waits_stand) begun none test spared.read_is agree
  where
    a : Asked
    a = get_or w.asks n d

    spared : IsSpared (first_wait + last_place k) (lists before) a u
    spared = all n d lt u none test off

    owned : IsOwned (length k) (triggers.attached t) a
    owned = owned-at (length k) (triggers.attached t) w.asks n d lt h.owned.waits_owned

    begun : a.place < length h.j
    begun = (let one = last-at k t w before h in let own = owned.owner_is in let less = spared.before in omega (arith, one, own, less))

    earlier : has_earlier (length h.j) (triggers.attached t) ≡ true
    earlier =
        earlier-named a.owner (length h.j) (record { owner = a.owner; triggers = a.ask.triggers; since = a.place }) (triggers.attached t) (owned.attached none) (lt-ltb a.place (length h.j) begun)

    agree : Agree (sight h.j (length h.j)) seen spared.read
    agree e there =
        (λ i. states (take_all (length h.j) h.j (omega arith) i) e)
        ∙ sym (unlisted-same h.j h.x before e (h.listed earlier) (spared.same e there))
        ∙ (λ i. states (sym (take_all (length (more h.j h.x)) (more h.j h.x) (omega arith)) i) e)
        ∙ ap (λ (s : Sight). s.states e) (sym (sees ∙ ap (λ (i : Journal). sight i (length i)) h.journal_is))
