-- The triggers of automations that an entry turns, one after the other.
use Rattle.std.proofs.Common.{◌≡◌, ℕ, suc, ◌-◌, ◌<◌, inl, inr, List, [], ◌∷◌, length, take, filter, Bool, true, false, refl, sym, ap, ◌∙◌, arith}
use Rattle.std.specs.Prelude.{◌⊎◌, None, Some, not, nat_eq, ◌&&◌, ◌||◌, flat_map, if◌then◌else◌}
use Rattle.std.specs.List.{enumerate_from}
use Rattle.std.proofs.lemmas.List.{take_all}
use Rattle.ha_config.specs.declared.config.Automation.{Automation}
use Rattle.ha_config.specs.Names.{unit_of}
use Rattle.ha_config.specs.Numbered.{has_number}
use Rattle.ha_journal.specs.declared.entry.Entry.{Entry}
use Rattle.ha_journal.specs.Entries.{opens_segment, reload_in}
use Rattle.ha_journal.specs.Journal.{Journal, HasEntry, in_force, more, units}
use Rattle.ha_journal.specs.Switches.{is_on, since}
use Rattle.ha_journal.proofs.ForceLaws.{in-force-more, units-more}
use Rattle.ha_journal.proofs.MoreLemmas.{length-more}
use Rattle.ha_journal.proofs.SinceLaws.{enters, enters-none, since-more}
use Rattle.ha_past.specs.Firings.{Owner, owner_named, placed, without_owner}
use Rattle.engine_parts.specs.Owners.{AreAscending, is_automation, owners_on}
use Rattle.engine_parts.specs.Runs.{first_wait}
use Rattle.engine_entry.specs.Turned.{OwnersBetween, is_target, less, owner_at, owner_in, stage}
use Rattle.engine_entry.proofs.PlaceLemmas.{Gives, automation-named, automations-lost, automations-placed, eq-of, eq-self, flat-same, none-named, placed-in, taken-out}

pub own-gives : (i : Journal) → Gives (owner_in i)
own-gives i y = by (has_number (in_force i) y.0 && is_on i y.0) (record { owner = y.0; triggers = y.1.triggers; since = since i y.0 }) refl
  where
    by : (b : Bool) (own : Owner) → own.owner ≡ y.0 → ((if b then own ∷ [] else []) ≡ []) ⊎ ((o : Owner) × ((if b then own ∷ [] else []) ≡ o ∷ []) × (o.owner ≡ y.0))
    by true own e = inr (own, refl, e)
    by false own e = inl refl

pub whole : (i : Journal) → 0 < length i → take (suc (length i - 1)) i ≡ i
whole i lt = take_all (suc (length i - 1)) i (omega (arith, lt))

-- the owners after a journal are those of the automations in force that are on
pub owners-whole : (i : Journal) → 0 < length i → owners_on i (length i - 1) ≡ flat_map (owner_in i) (enumerate_from 0 (units i))
owners-whole i lt = (λ n. flat_map (owner_in (whole i lt n)) (enumerate_from 0 (units (whole i lt n))))

module _ (j : Journal) (x : Entry) (some : HasEntry j) (reloads : reload_in x ≡ None) where
  force-same : in_force (more j x) ≡ in_force j
  force-same = sym (in-force-more j x some reloads)

  -- LAW: one that is left as it was has the same owner
  pub same-owner : opens_segment x ≡ false → (y : ℕ × Automation) → is_on (more j x) y.0 ≡ is_on j y.0 → owner_in (more j x) y ≡ owner_in j y
  same-owner opens y same =
      (let at : since (more j x) y.0 ≡ since j y.0
      = since-more j x y.0 ∙ (λ i. if opens i || enters-none j x y.0 some reloads i || (not (is_on j y.0) && same i) then length j else since j y.0) ∙ by (is_on j y.0) in
      λ i. if has_number (force-same i) y.0 && same i then record { owner = y.0; triggers = y.1.triggers; since = at i } ∷ [] else [])
    where
      by : (b : Bool) → (if false || false || (not b && b) then length j else since j y.0) ≡ since j y.0
      by true = refl
      by false = refl

  -- one that is not in force has none
  unknown-owner : (y : ℕ × Automation) → has_number (in_force j) y.0 ≡ false → owner_in (more j x) y ≡ owner_in j y
  unknown-owner y none =
      (λ i. if ((λ k. has_number (force-same k) y.0) ∙ none) i && is_on (more j x) y.0 then record { owner = y.0; triggers = y.1.triggers; since = since (more j x) y.0 } ∷ [] else [])
      ∙ sym (λ i. if none i && is_on j y.0 then record { owner = y.0; triggers = y.1.triggers; since = since j y.0 } ∷ [] else [])

  module _ (left : ℕ → Bool) where
    stage-gives : Gives (owner_at left j (more j x))
    stage-gives y = own-gives (stage left j (more j x) y.0) y

    -- LAW: those that are not left are as they were
    pub owners-begin : opens_segment x ≡ false → 0 < length j → ((a : ℕ) → has_number (in_force j) a ≡ true → left a ≡ false → is_on (more j x) a ≡ is_on j a) → (os : List Owner) → filter is_automation os ≡ owners_on j (length j - 1)
        → OwnersBetween j (more j x) left os
    owners-begin opens long others os h = h ∙ owners-whole j long ∙ flat-same (owner_in j) (owner_at left j (more j x)) (λ y. by y (left y.0) refl (has_number (in_force j) y.0) refl) (enumerate_from 0 (units j))
      where
        by : (y : ℕ × Automation) (b : Bool) → left y.0 ≡ b → (c : Bool) → has_number (in_force j) y.0 ≡ c → owner_in j y ≡ owner_in (if b then j else more j x) y
        by y true e c f = refl
        by y false e true f = sym (same-owner opens y (others y.0 f e))
        by y false e false f = sym (unknown-owner y f)

    -- LAW: one whose switch stays is done
    pub owners-stay : opens_segment x ≡ false → (a : ℕ) → is_on (more j x) a ≡ is_on j a → (os : List Owner) → OwnersBetween j (more j x) left os → OwnersBetween j (more j x) (less left a) os
    owners-stay opens a same os h =
        h ∙ flat-same (owner_at left j (more j x)) (owner_at (less left a) j (more j x)) (λ y. by y (left y.0) (nat_eq y.0 a) refl) (enumerate_from 0 (units j))
      where
        by : (y : ℕ × Automation) (b c : Bool) → nat_eq y.0 a ≡ c → owner_in (if b then j else more j x) y ≡ owner_in (if b && not c then j else more j x) y
        by y true true e = sym (same-owner opens y (ap (is_on (more j x)) (eq-of y.0 a e) ∙ same ∙ sym (ap (is_on j) (eq-of y.0 a e))))
        by y true false e = refl
        by y false c e = refl

    others-same : (a : ℕ) (y : ℕ × Automation) → nat_eq y.0 a ≡ false → owner_at (less left a) j (more j x) y ≡ owner_at left j (more j x) y
    others-same a y e = (λ i. owner_in (if left y.0 && not (e i) then j else more j x) y) ∙ by (left y.0)
      where
        by : (b : Bool) → owner_in (if b && true then j else more j x) y ≡ owner_in (if b then j else more j x) y
        by true = refl
        by false = refl

    own-done : (a : ℕ) → less left a a ≡ false
    own-done a = (λ i. left a && not (eq-self a i)) ∙ by (left a)
      where
        by : (b : Bool) → (b && false) ≡ false
        by true = refl
        by false = refl

    and-none : (b : Bool) → (b && false) ≡ false
    and-none true = refl
    and-none false = refl

    module _ (a : ℕ) (is_left : left a ≡ true) where
      off-none : is_on j a ≡ false → (y : ℕ × Automation) → nat_eq y.0 a ≡ true → owner_at left j (more j x) y ≡ []
      off-none off y e =
          (let here : y.0 ≡ a = eq-of y.0 a e in
          (λ i. owner_in (if ap left here i then j else more j x) y) ∙ (λ i. owner_in (if is_left i then j else more j x) y)
          ∙ (λ i. if has_number (in_force j) y.0 && (ap (is_on j) here ∙ off) i then record { owner = y.0; triggers = y.1.triggers; since = since j y.0 } ∷ [] else [])
          ∙ (λ i. if and-none (has_number (in_force j) y.0) i then record { owner = y.0; triggers = y.1.triggers; since = since j y.0 } ∷ [] else []))

      -- LAW: one that was off is not named
      pub owner-none : is_on j a ≡ false → a < first_wait → (os : List Owner) → OwnersBetween j (more j x) left os → owner_named a os ≡ None
      owner-none off low os h = automation-named a os low ∙ ap (owner_named a) h ∙ none-named a (owner_at left j (more j x)) (owner_at left j (more j x)) stage-gives (off-none off) (enumerate_from 0 (units j))

      -- LAW: one in force that is turned on is one owner more
      pub owners-on : has_number (in_force j) a ≡ true → is_on j a ≡ false → is_on (more j x) a ≡ true → a < first_wait → (y : Automation) → unit_of (units j) a ≡ Some y → (os : List Owner) → AreAscending 0 os → OwnersBetween j (more j x) left os
          → OwnersBetween j (more j x) (less left a) (placed (record { owner = a; triggers = y.triggers; since = length j }) os)
      owners-on known off on low y here os ascend h =
          automations-placed own 0 os ascend low ∙ ap (placed own) h
          ∙ placed-in own (owner_at left j (more j x)) (owner_at (less left a) j (more j x)) stage-gives (others-same a) 0 a (units j) y (omega arith) here (off-none off (a, y) (eq-self a)) now-on
        where
          own : Owner
          own = record { owner = a; triggers = y.triggers; since = length j }

          at : since (more j x) a ≡ length j
          at = since-more j x a ∙ (λ i. if opens_segment x || enters j x a || (not (off i) && on i) then length j else since j a) ∙ by (opens_segment x) (enters j x a)
            where
              by : (b c : Bool) → (if b || c || true then length j else since j a) ≡ length j
              by true c = refl
              by false true = refl
              by false false = refl

          now-on : owner_at (less left a) j (more j x) (a, y) ≡ own ∷ []
          now-on =
              (λ i. owner_in (if own-done a i then j else more j x) (a, y))
              ∙ (λ i. if ((λ k. has_number (force-same k) a) ∙ known) i && on i then record { owner = a; triggers = y.triggers; since = at i } ∷ [] else [])

    -- LAW: one that is turned off is one owner less
    pub owners-off : (a : ℕ) → is_on (more j x) a ≡ false → (os : List Owner) → OwnersBetween j (more j x) left os → OwnersBetween j (more j x) (less left a) (without_owner a os)
    owners-off a off os h =
        automations-lost a os ∙ ap (without_owner a) h
        ∙ taken-out a (owner_at left j (more j x)) (owner_at (less left a) j (more j x)) stage-gives (others-same a) now-off (enumerate_from 0 (units j))
      where
        now-off : (y : ℕ × Automation) → nat_eq y.0 a ≡ true → owner_at (less left a) j (more j x) y ≡ []
        now-off y e =
            (let here : y.0 ≡ a = eq-of y.0 a e in
            (λ i. owner_in (if less left a (here i) then j else more j x) y) ∙ (λ i. owner_in (if own-done a i then j else more j x) y)
            ∙ (λ i. if has_number (in_force (more j x)) y.0 && (ap (is_on (more j x)) here ∙ off) i then record { owner = y.0; triggers = y.1.triggers; since = since (more j x) y.0 } ∷ [] else [])
            ∙ (λ i. if and-none (has_number (in_force (more j x)) y.0) i then record { owner = y.0; triggers = y.1.triggers; since = since (more j x) y.0 } ∷ [] else []))

  -- LAW: when none is left they are those behind the entry
  pub owners-end : (os : List Owner) → OwnersBetween j (more j x) (is_target []) os → filter is_automation os ≡ owners_on (more j x) (length (more j x) - 1)
  owners-end os h =
      h ∙ (λ i. flat_map (owner_in (more j x)) (enumerate_from 0 (units-more j x some reloads i))) ∙ sym (owners-whole (more j x) (omega (arith, length-more j x)))
