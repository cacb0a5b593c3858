-- A wait and a delay that a step began are taken in.
use Rattle.std.proofs.Common.{◌≡◌, ℕ, suc, ◌+◌, ◌<◌, ◌≤◌, List, [], ◌∷◌, ◌++◌, length, filter, Bool, true, false, refl, sym, ap, subst, ◌∙◌, rules, arith}
use Rattle.std.specs.Prelude.{Option, Some, None, not, nat_eq, nat_lt, ◌||◌, if◌then◌else◌}
use Rattle.std.specs.List.{list_any}
use Rattle.ha_sight.specs.declared.waiting.WaitAsk.{WaitAsk}
use Rattle.ha_journal.specs.Journal.{Journal}
use Rattle.ha_journal.proofs.MoreLemmas.{length-more}
use Rattle.ha_past.specs.Firings.{Owner, owner_named, placed}
use Rattle.trig_set.specs.Next.{Listed, has_earlier}
use Rattle.trig_set.specs.declared.set.TrigSet.{TrigSet}
use Rattle.trig_set.specs.Stands as triggers
use Rattle.wait_set.specs.declared.asked.Asked.{Asked}
use Rattle.wait_set.specs.Asked.{WaitTable, added, is_of}
use Rattle.wait_set.specs.Stands as waits
use Rattle.wait_set.specs.Timers.{AreApart}
use Rattle.engine_parts.specs.Kept.{AreOwned}
use Rattle.engine_parts.specs.Owners.{AreAscending, AreBelow, is_automation}
use Rattle.engine_parts.specs.Stages.{Untold}
use Rattle.engine_parts.specs.Runs.{first_wait}

-- ---- an owner above all others

module _ (o : Owner) where
  -- it stands at the end
  pub placed-last : (os : List Owner) → AreBelow o.owner os → placed o os ≡ os ++ (o ∷ [])
  placed-last [] h = refl
  placed-last (x ∷ os) h = (λ i. if above x.owner (omega (arith, h.0)) i then o ∷ x ∷ os else x ∷ placed o os) ∙ ap (λ l. x ∷ l) (placed-last os h.1)
    where
      above : (m : ℕ) → m ≤ o.owner → nat_lt o.owner m ≡ false
      above m le = search (rules, le)

  pub none-named : (os : List Owner) → AreBelow o.owner os → owner_named o.owner os ≡ None
  none-named [] h = refl
  none-named (x ∷ os) h = (λ i. if apart x.owner h.0 i then Some x else owner_named o.owner os) ∙ none-named os h.1
    where
      apart : (m : ℕ) → m < o.owner → nat_eq m o.owner ≡ false
      apart m lt = search (rules, lt)

  self : nat_eq o.owner o.owner ≡ true
  self = search rules

  -- it is found, and all that were found before
  pub named-last : (os : List Owner) → AreBelow o.owner os → owner_named o.owner (os ++ (o ∷ [])) ≡ Some o
  named-last [] h = (λ i. if self i then Some o else None)
  named-last (x ∷ os) h = (λ i. if apart x.owner h.0 i then Some x else owner_named o.owner (os ++ (o ∷ []))) ∙ named-last os h.1
    where
      apart : (m : ℕ) → m < o.owner → nat_eq m o.owner ≡ false
      apart m lt = search (rules, lt)

  pub named-still : (n : ℕ) (os : List Owner) (w : Owner) → owner_named n os ≡ Some w → owner_named n (os ++ (o ∷ [])) ≡ Some w
  named-still n [] w h = absurd (let bad : ◌≡◌ {A = Option Owner} None (Some w) = h in cc)
  named-still n (x ∷ os) w h = by (nat_eq x.owner n) h (named-still n os w)
    where
      by : (c : Bool) → (if c then Some x else owner_named n os) ≡ Some w → (owner_named n os ≡ Some w → owner_named n (os ++ (o ∷ [])) ≡ Some w)
          → (if c then Some x else owner_named n (os ++ (o ∷ []))) ≡ Some w
      by true e rec = e
      by false e rec = rec e

  ascend-last : (n : ℕ) (os : List Owner) → n ≤ o.owner → AreBelow o.owner os → AreAscending n os → AreAscending n (os ++ (o ∷ []))
  ascend-last n [] le h a = (le, tt)
  ascend-last n (x ∷ os) le h a = (a.0, ascend-last (suc x.owner) os (omega (arith, h.0)) h.1 a.1)

  below-last : (m : ℕ) (os : List Owner) → o.owner < m → AreBelow m os → AreBelow m (os ++ (o ∷ []))
  below-last m [] lt h = (lt, tt)
  below-last m (x ∷ os) lt h = (h.0, below-last m os lt h.1)

  high : first_wait ≤ o.owner → nat_lt o.owner first_wait ≡ false
  high le = search (rules, le)

  automations-last : (os : List Owner) → first_wait ≤ o.owner → filter is_automation (os ++ (o ∷ [])) ≡ filter is_automation os
  automations-last [] le = (λ i. if high le i then o ∷ [] else [])
  automations-last (x ∷ os) le = (λ i. if is_automation x then x ∷ automations-last os le i else automations-last os le i)

  -- one that is not attached earlier is no earlier owner
  earlier-last : (n : ℕ) (os : List Owner) → nat_lt o.since n ≡ false → has_earlier n (os ++ (o ∷ [])) ≡ has_earlier n os
  earlier-last n [] e = (λ i. e i || false)
  earlier-last n (x ∷ os) e = (λ i. nat_lt x.since n || earlier-last n os e i)

-- ---- the waits

or-left : (a b : Bool) → (a || b) ≡ false → a ≡ false
or-left true b h = absurd (let bad : ◌≡◌ {A = Bool} true false = h in cc)
or-left false b h = refl

or-right : (a b : Bool) → (a || b) ≡ false → b ≡ false
or-right true b h = absurd (let bad : ◌≡◌ {A = Bool} true false = h in cc)
or-right false b h = h

or-false : (a b : Bool) → a ≡ false → b ≡ false → (a || b) ≡ false
or-false a b p q = (λ i. p i || q i)

-- no wait has an owner that is above those of all places
pub none-early : (n place : ℕ) (owners : List Owner) (asks : List Asked) → n ≤ place → AreOwned n owners asks → list_any (λ a. nat_eq a.owner (first_wait + place)) asks ≡ false
none-early n place owners [] le h = refl
none-early n place owners (a ∷ asks) le h =
    or-false (nat_eq a.owner (first_wait + place)) (list_any (λ b. nat_eq b.owner (first_wait + place)) asks) (apart a.owner (first_wait + place) (omega (arith, h.0.owner_is, h.0.early, le))) (none-early n place owners asks le h.1)
  where
    apart : (x y : ℕ) → x < y → nat_eq x y ≡ false
    apart x y lt = search (rules, lt)

module _ (a : Asked) where
  none-left : (o : ℕ) (asks : List Asked) → list_any (λ b. nat_eq b.owner o) asks ≡ false → list_any (λ b. nat_eq b.owner o) (filter (λ b. not (is_of a.ask.serial a.ask.branch b)) asks) ≡ false
  none-left o [] h = refl
  none-left o (b ∷ asks) h = by (is_of a.ask.serial a.ask.branch b) (none-left o asks (or-right (nat_eq b.owner o) (list_any (λ c. nat_eq c.owner o) asks) h))
    where
      rest : List Asked
      rest = filter (λ c. not (is_of a.ask.serial a.ask.branch c)) asks

      by : (c : Bool) → list_any (λ d. nat_eq d.owner o) rest ≡ false → list_any (λ d. nat_eq d.owner o) (if not c then b ∷ rest else rest) ≡ false
      by true e = e
      by false e = or-false (nat_eq b.owner o) (list_any (λ d. nat_eq d.owner o) rest) (or-left (nat_eq b.owner o) (list_any (λ d. nat_eq d.owner o) asks) h) e

  any-snoc : (o : ℕ) (asks : List Asked) → nat_eq a.owner o ≡ false → list_any (λ b. nat_eq b.owner o) asks ≡ false → list_any (λ b. nat_eq b.owner o) (asks ++ (a ∷ [])) ≡ false
  any-snoc o [] e h = or-false (nat_eq a.owner o) false e refl
  any-snoc o (b ∷ asks) e h =
      or-false (nat_eq b.owner o) (list_any (λ c. nat_eq c.owner o) (asks ++ (a ∷ []))) (or-left (nat_eq b.owner o) (list_any (λ c. nat_eq c.owner o) asks) h)
      (any-snoc o asks e (or-right (nat_eq b.owner o) (list_any (λ c. nat_eq c.owner o) asks) h))

  -- LAW: its owner is apart from the others
  pub apart-added : (asks : List Asked) → list_any (λ b. nat_eq b.owner a.owner) asks ≡ false → AreApart asks → AreApart (added a asks)
  apart-added asks early apart = snoc (filter (λ b. not (is_of a.ask.serial a.ask.branch b)) asks) (none-left a.owner asks early) (left asks apart)
    where
      left : (l : List Asked) → AreApart l → AreApart (filter (λ b. not (is_of a.ask.serial a.ask.branch b)) l)
      left [] h = tt
      left (b ∷ l) h = by (is_of a.ask.serial a.ask.branch b) (left l h.1)
        where
          by : (c : Bool) → AreApart (filter (λ d. not (is_of a.ask.serial a.ask.branch d)) l)
              → AreApart (if not c then b ∷ filter (λ d. not (is_of a.ask.serial a.ask.branch d)) l else filter (λ d. not (is_of a.ask.serial a.ask.branch d)) l)
          by true rest = rest
          by false rest = (none-left b.owner l h.0, rest)

      turned : (x y : ℕ) → nat_eq x y ≡ false → nat_eq y x ≡ false
      turned x y e = search (rules, e)

      snoc : (l : List Asked) → list_any (λ b. nat_eq b.owner a.owner) l ≡ false → AreApart l → AreApart (l ++ (a ∷ []))
      snoc [] e h = (refl, tt)
      snoc (b ∷ l) e h = (
        any-snoc b.owner l (turned b.owner a.owner (or-left (nat_eq b.owner a.owner) (list_any (λ c. nat_eq c.owner a.owner) l) e)) h.0,
        snoc l (or-right (nat_eq b.owner a.owner) (list_any (λ c. nat_eq c.owner a.owner) l) e) h.1,
      )

  -- LAW: all waits are owned
  pub owned-added : (n : ℕ) (o : Owner) (os : List Owner) (asks : List Asked) → AreBelow o.owner os → a.owner ≡ first_wait + a.place → a.place < n
      → o ≡ record { owner = a.owner; triggers = a.ask.triggers; since = a.place } → AreOwned n os asks → AreOwned n (os ++ (o ∷ [])) (added a asks)
  owned-added n o os asks below owner early is owned = snoc (filter (λ b. not (is_of a.ask.serial a.ask.branch b)) asks) (left asks owned)
    where
      left : (l : List Asked) → AreOwned n os l → AreOwned n os (filter (λ b. not (is_of a.ask.serial a.ask.branch b)) l)
      left [] h = tt
      left (b ∷ l) h = by (is_of a.ask.serial a.ask.branch b) (left l h.1)
        where
          by : (c : Bool) → AreOwned n os (filter (λ d. not (is_of a.ask.serial a.ask.branch d)) l)
              → AreOwned n os (if not c then b ∷ filter (λ d. not (is_of a.ask.serial a.ask.branch d)) l else filter (λ d. not (is_of a.ask.serial a.ask.branch d)) l)
          by true rest = rest
          by false rest = (h.0, rest)

      snoc : (l : List Asked) → AreOwned n os l → AreOwned n (os ++ (o ∷ [])) (l ++ (a ∷ []))
      snoc [] h = (
        record {
          owner_is = owner;
          early = early;
          attached = λ e. ap (λ q. owner_named q (os ++ (o ∷ []))) (sym (ap (λ y. y.owner) is)) ∙ named-last o os below ∙ ap (λ y. Some y) is;
        },
        tt,
      )
      snoc (b ∷ l) h = (
        record {
          owner_is = h.0.owner_is;
          early = h.0.early;
          attached = λ e. named-still o b.owner os (record { owner = b.owner; triggers = b.ask.triggers; since = b.place }) (h.0.attached e);
        },
        snoc l h.1,
      )

-- ---- all of it

-- LAW: a wait that began at the last place is taken in before the parts are told of the entry
pub untold-taken : (k : Journal) (t t' : TrigSet) (w w' : WaitTable) (before : Listed) (h : Untold k t w before) (place : ℕ) (ask : WaitAsk) → length h.j ≡ place
    → AreBelow (first_wait + place) (triggers.attached t) → list_any (λ a. nat_eq a.owner (first_wait + place)) w.asks ≡ false
    → triggers.attached t' ≡ placed (record { owner = first_wait + place; triggers = ask.triggers; since = place }) (triggers.attached t)
    → w'.asks ≡ added (record { owner = first_wait + place; place = place; ask = ask; end = None }) w.asks → triggers.StandsFor t' h.j → waits.StandsFor w'.asks h.j → Untold k t' w' before
untold-taken k t t' w w' before h place ask at below early attached asks t_stands w_stands =
    let o : Owner = record { owner = first_wait + place; triggers = ask.triggers; since = place } in
    let a : Asked = record { owner = first_wait + place; place = place; ask = ask; end = None } in
    let os : List Owner = triggers.attached t in
    let is : triggers.attached t' ≡ os ++ (o ∷ []) = attached ∙ placed-last o os below in
    let size : length k ≡ suc place = ap length h.journal_is ∙ length-more h.j h.x ∙ ap suc at in
    let here : nat_lt place (length h.j) ≡ false = not-below place (length h.j) (omega (arith, at)) in
    record {
      j = h.j;
      x = h.x;
      journal_is = h.journal_is;
      journal = h.journal;
      some = h.some;
      triggers_stand = t_stands;
      waits_stand = w_stands;
      owned = record {
        automations_attached = ap (filter is_automation) is ∙ automations-last o os (omega arith) ∙ h.owned.automations_attached;
        ascend = subst (AreAscending 0) (sym is) (ascend-last o 0 os (omega arith) below h.owned.ascend);
        early = subst (AreBelow (first_wait + length k)) (sym is) (below-last o (first_wait + length k) os (omega (arith, size)) h.owned.early);
        waits_owned = subst (λ (l : List Owner). AreOwned (length k) l w'.asks) (sym is)
            (subst (AreOwned (length k) (os ++ (o ∷ []))) (sym asks) (owned-added a (length k) o os w.asks below refl (omega (arith, size)) refl h.owned.waits_owned));
        apart = subst AreApart (sym asks) (apart-added a w.asks early h.owned.apart);
      };
      listed = λ earlier. h.listed (sym (ap (has_earlier (length h.j)) is ∙ earlier-last o (length h.j) os here) ∙ earlier);
      apart = h.apart;
      helped = h.helped;
    }
  where
    not-below : (x y : ℕ) → y ≤ x → nat_lt x y ≡ false
    not-below x y le = search (rules, le)
