-- The triggers of the automations behind a Reload: those of the old ones go, and those of the new ones that are on are attached.
use Rattle.std.proofs.Common.{◌≡◌, ℕ, suc, ◌+◌, ◌-◌, ◌<◌, ◌≤◌, List, [], ◌∷◌, length, filter, Bool, true, false, refl, sym, ap, subst, ◌∙◌, rules, arith}
use Rattle.std.specs.Prelude.{Option, Some, None, not, nat_eq, nat_le, nat_lt, flat_map, ◌&&◌, ◌||◌, if◌then◌else◌}
use Rattle.std.specs.List.{enumerate_from}
use Rattle.std.specs.Option.{option_map_or}
use Rattle.ha_config.specs.declared.config.Automation.{Automation}
use Rattle.ha_config.specs.declared.config.Config.{Config}
use Rattle.ha_config.specs.Equality.{same_automation, same_script}
use Rattle.ha_config.specs.Numbered.{AreUnits, has_number, keeps_number, kept_number, numbered}
use Rattle.ha_config.specs.Units.{as_unit}
use Rattle.ha_config.proofs.ListLemmas.{some-same, true-false}
use Rattle.ha_config.proofs.NumberedLemmas.{kept-numbers, number-below, numbered-kept, numbered-new}
use Rattle.ha_journal.specs.declared.entry.Entry.{Entry}
use Rattle.ha_journal.specs.Entries.{opens_segment, reload_in}
use Rattle.ha_journal.specs.Force.{IsAlike, force}
use Rattle.ha_journal.specs.Journal.{HasEntry, Journal, configured, in_force, more, units}
use Rattle.ha_journal.specs.Switches.{is_on, since}
use Rattle.ha_journal.proofs.ForceLaws.{in-force-units, more-units, scripts-units, unit-more}
use Rattle.ha_journal.proofs.MoreLemmas.{length-more}
use Rattle.ha_journal.proofs.SinceLaws.{enters, on-kept, since-enters, since-kept}
use Rattle.ha_past.specs.Firings.{Owner, owner_named, placed, without_owner}
use Rattle.ha_sight.specs.Sight.{Automations, switch_at}
use Rattle.conf_reload.specs.declared.outcome.Plan.{Plan}
use Rattle.conf_reload.specs.Plan.{IsPlan}
use Rattle.switch_book.specs.Book as switches
use Rattle.switch_book.proofs.SwitchLaws.{switch-of-journal}
use Rattle.wait_set.specs.declared.asked.Asked.{Asked}
use Rattle.engine_parts.specs.Kept.{AreOwned}
use Rattle.engine_parts.specs.Numbers.{AreFew, numbers_in}
use Rattle.engine_parts.specs.Owners.{AreAscending, AreBelow, is_automation, owners_on}
use Rattle.engine_parts.specs.Runs.{first_wait}
use Rattle.engine_parts.proofs.DetachLemmas.{below-more, below-without}
use Rattle.engine_parts.proofs.OrderLemmas.{unit-low}
use Rattle.engine_parts.proofs.RuleLemmas.{Rules, numbers_of}
use Rattle.engine_entry.specs.Reloaded.{AreFresh, is_new_on, with_new, with_one, without_all}
use Rattle.engine_entry.specs.Turned.{owner_in}
use Rattle.engine_entry.proofs.PlaceLemmas.{automation-named, below-placed, eq-self}
use Rattle.engine_entry.proofs.ReloadNumbers.{among, any-number, gone-are, gone-kept, gone-lost, keeps-there, kept-behind, rules-behind}
use Rattle.engine_entry.proofs.TurnedOwners.{own-gives, owners-whole}
use Rattle.engine_entry.proofs.NumberedOwners.{ascend-filtered, ascend-given, filtered-low, found, found-none, found-some, owner-found, owner_of, owners-same}
use Rattle.engine_entry.proofs.ReloadSteps.{ascend-all, ascend-new, named-all, new-none, new-off, new-on, none-left}

below : (a b : ℕ) → a < b → nat_eq a b ≡ false
below a b lt = search rules

least-of : (a b : ℕ) → nat_le a b ≡ true → a ≤ b
least-of a b e = search (rules, e)

most-of : (a b : ℕ) → nat_le a b ≡ false → b < a
most-of a b e = search (rules, e)

less-of : (a b : ℕ) → nat_lt a b ≡ true → a < b
less-of a b e = search (rules, e)

not-less-of : (a b : ℕ) → nat_lt a b ≡ false → b ≤ a
not-less-of a b e = search (rules, e)

is-less : (a b : ℕ) → a < b → nat_lt a b ≡ true
is-less a b lt = search (rules, lt)

not-less : (a b : ℕ) → b ≤ a → nat_lt a b ≡ false
not-less a b le = search (rules, le)

-- ---- the numbers that come into force

fresh-numbered : (equal : Automation → Automation → Bool) (old : Rules) (least free : ℕ) (ys : List Automation) (os : List Owner) → least ≤ free → ((m : ℕ) → has_number old m ≡ true → m < least)
    → ((m : ℕ) → has_number (numbered equal old free ys) m ≡ true → least ≤ m → owner_named m os ≡ None) → AreFresh least os (numbers_of (numbered equal old free ys))
fresh-numbered equal old least free [] os le low none = tt
fresh-numbered equal old least free (y ∷ ys) os le low none =
    by (kept_number equal old y) refl (fresh-numbered equal old least free ys os le low) (fresh-numbered equal old least (suc free) ys os (omega (arith, le)) low)
  where
    or-true : (b : Bool) → (b || true) ≡ true
    or-true true = refl
    or-true false = refl

    -- what is kept is no new one
    kept-low : (n : ℕ) → kept_number equal old y ≡ Some n → n < least
    kept-low n e = low n (keeps-there equal old (y ∷ []) n ((λ i. option_map_or (λ m. nat_eq m n) (e i) false || false) ∙ (λ i. eq-self n i || false)))

    once : among free (numbers_of (numbered equal old (suc free) ys)) ≡ false
    once =
        any-number (numbered equal old (suc free) ys) free ∙ kept-numbers equal old (suc free) ys free (omega arith) ∙ unkept (keeps_number equal old ys free) refl
      where
        unkept : (b : Bool) → keeps_number equal old ys free ≡ b → b ≡ false
        unkept true e = (let there = low free (keeps-there equal old ys free e) in absurd (omega (arith, there, le)))
        unkept false e = refl

    by : (o : Option ℕ) → kept_number equal old y ≡ o
        → (((m : ℕ) → has_number (numbered equal old free ys) m ≡ true → least ≤ m → owner_named m os ≡ None) → AreFresh least os (numbers_of (numbered equal old free ys)))
        → (((m : ℕ) → has_number (numbered equal old (suc free) ys) m ≡ true → least ≤ m → owner_named m os ≡ None) → AreFresh least os (numbers_of (numbered equal old (suc free) ys)))
        → AreFresh least os (numbers_of (numbered equal old free (y ∷ ys)))
    by (Some n) e rest later =
        (let are : numbered equal old free (y ∷ ys) ≡ (n, y) ∷ numbered equal old free ys = numbered-kept equal old free y ys n e in
        subst (λ (l : Rules). AreFresh least os (numbers_of l)) (sym are) (
          λ ge. absurd (let lt = kept-low n e in let more_than = least-of least n ge in omega (arith, lt, more_than)),
          rest (λ m h ge. none m (ap (λ (l : Rules). has_number l m) are ∙ ap (λ b. nat_eq n m || b) h ∙ or-true (nat_eq n m)) ge),
        ))
    by None e rest later =
        (let are : numbered equal old free (y ∷ ys) ≡ (free, y) ∷ numbered equal old (suc free) ys = numbered-new equal old free y ys e in
        subst (λ (l : Rules). AreFresh least os (numbers_of l)) (sym are) (
          λ ge. (none free (ap (λ (l : Rules). has_number l free) are ∙ (λ i. eq-self free i || has_number (numbered equal old (suc free) ys) free)) le, once),
          later (λ m h ge. none m (ap (λ (l : Rules). has_number l m) are ∙ ap (λ b. nat_eq free m || b) h ∙ or-true (nat_eq free m)) ge),
        ))

-- ---- all of it

below-all : (ns : List ℕ) (n : ℕ) (os : List Owner) → AreBelow n os → AreBelow n (without_all ns os)
below-all [] n os h = h
below-all (a ∷ ns) n os h = below-all ns n (without_owner a os) (below-without a n os h)

below-new : (s : Automations) (free place n : ℕ) (ps : Rules) (os : List Owner) → ((m : ℕ) → has_number ps m ≡ true → m < n) → AreBelow n os → AreBelow n (with_new s free place ps os)
below-new s free place n [] os low h = h
below-new s free place n (p ∷ ps) os low h =
    below-new s free place n ps (with_one s free place p os) (λ m e. low m (ap (λ b. nat_eq p.0 m || b) e ∙ or-true (nat_eq p.0 m))) (by (is_new_on s free p.0))
  where
    or-true : (b : Bool) → (b || true) ≡ true
    or-true true = refl
    or-true false = refl

    by : (b : Bool) → AreBelow n (if b then placed (record { owner = p.0; triggers = p.1.triggers; since = place }) os else os)
    by true = below-placed (record { owner = p.0; triggers = p.1.triggers; since = place }) n os (low p.0 (λ i. eq-self p.0 i || has_number ps p.0)) h
    by false = h

module _ (j : Journal) (x : Entry) (old new : Config) (numbers : List ℕ) (free : ℕ) (plan : Plan) (named : numbers ≡ numbers_in j) (is : IsAlike old (configured j)) (planned : IsPlan old numbers free new plan)
    (some : HasEntry j) (reloads : reload_in x ≡ Some new) (opens : opens_segment x ≡ false) (free_is : free ≡ length (units j)) (few : AreFew (more j x)) where
  abbrev k : Journal
  k = more j x

  abbrev rules_new : Rules
  rules_new = in_force k

  long : 0 < length j
  long = has j some
    where
      has : (l : Journal) → HasEntry l → 0 < length l
      has [] h = absurd h
      has (y ∷ ys) h = omega arith

  -- numbers of automations are below those of the owners of waits
  pub low-new : (m : ℕ) → has_number rules_new m ≡ true → m < first_wait
  low-new m h = unit-low k m few (number-below (λ (z : Automation). z) (units k) rules_new m (in-force-units k) h)

  known : (m : ℕ) → has_number (in_force j) m ≡ true → m < length (units j)
  known m h = number-below (λ (z : Automation). z) (units j) (in_force j) m (in-force-units j) h

  low-old : (m : ℕ) → m < length (units j) → m < first_wait
  low-old m lt = unit-low k m few (omega (arith, lt, more-units j x))

  high-none : {A : Type 0} (unit : A → Automation) (ps : List (ℕ × A)) (m : ℕ) → AreUnits unit (units j) ps → first_wait ≤ m → has_number ps m ≡ false
  high-none unit ps m are le = by (has_number ps m) refl
    where
      by : (b : Bool) → has_number ps m ≡ b → b ≡ false
      by true e = (let lt = low-old m (number-below unit (units j) ps m are e) in absurd (omega (arith, lt, le)))
      by false e = refl

  high-new : (m : ℕ) → first_wait ≤ m → has_number rules_new m ≡ false
  high-new m le = by (has_number rules_new m) refl
    where
      by : (b : Bool) → has_number rules_new m ≡ b → b ≡ false
      by true e = (let lt = low-new m e in absurd (omega (arith, lt, le)))
      by false e = refl

  -- no wait goes
  high-gone : (m : ℕ) → first_wait ≤ m → among m plan.gone ≡ false
  high-gone m le =
      gone-are j old new numbers free plan named is planned m
      ∙ (λ i. (not (keeps_number same_automation (in_force j) new.automations m) && high-none (λ (z : Automation). z) (in_force j) m (in-force-units j) le i)
      || (not (keeps_number same_script (force j).scripts new.scripts m) && high-none as_unit (force j).scripts m (scripts-units j) le i))
      ∙ none (not (keeps_number same_automation (in_force j) new.automations m)) (not (keeps_number same_script (force j).scripts new.scripts m))
    where
      none : (a b : Bool) → ((a && false) || (b && false)) ≡ false
      none true true = refl
      none true false = refl
      none false true = refl
      none false false = refl

  module _ (s : Automations) (stands : switches.StandsFor s k) (os : List Owner) (ascend : AreAscending 0 os) (on : filter is_automation os ≡ owners_on j (length j - 1)) where
    abbrev less_gone : List Owner
    less_gone = without_all plan.gone os

    -- the owner of a number before the Reload
    owner-old : (m : ℕ) → m < first_wait → owner_named m os ≡ owner_of j m (found m (in_force j))
    owner-old m lt = automation-named m os lt ∙ (λ i. owner_named m ((on ∙ owners-whole j long) i)) ∙ owner-found j m

    none-there : (i : Journal) (m : ℕ) → has_number (in_force i) m ≡ false → owner_of i m (found m (in_force i)) ≡ None
    none-there i m none = by (found m (in_force i)) refl
      where
        by : (o : Option (ℕ × Automation)) → found m (in_force i) ≡ o → owner_of i m o ≡ None
        by None e = refl
        by (Some q) e = (let f = found-some m (units i) (in_force i) q (in-force-units i) e in absurd (true-false (sym f.there ∙ none)))

    new-apart : (m : ℕ) → free ≤ m → has_number (in_force j) m ≡ false
    new-apart m le = by (has_number (in_force j) m) refl
      where
        by : (b : Bool) → has_number (in_force j) m ≡ b → b ≡ false
        by true e = (let lt = known m e in absurd (omega (arith, lt, le, free_is)))
        by false e = refl

    -- no owner has a new number
    none-new : (m : ℕ) → free ≤ m → m < first_wait → owner_named m less_gone ≡ None
    none-new m le lt = none-left m plan.gone os (owner-old m lt ∙ none-there j m (new-apart m le))

    -- LAW: no new number has an owner
    pub fresh-behind : AreFresh free less_gone (numbers_of rules_new)
    fresh-behind =
        (let are = rules-behind j old new numbers free plan named is planned x some reloads free_is in
        subst (λ (l : Rules). AreFresh free less_gone (numbers_of l)) (sym are)
        (fresh-numbered same_automation (in_force j) free (length (units j)) new.automations less_gone (omega (arith, free_is)) (λ m h. (let lt = known m h in omega (arith, lt, free_is)))
        (λ m h le. none-new m le (low-new m (ap (λ (l : Rules). has_number l m) are ∙ h)))))

    abbrev behind : List Owner
    behind = with_new s free (length j) rules_new less_gone

    switch-known : (m : ℕ) → has_number rules_new m ≡ true → switch_at s m ≡ Some (is_on k m)
    switch-known m there = switch-of-journal s k stands m ∙ (λ i. if there i then Some (is_on k m) else None)

    enters-new : (m : ℕ) → free ≤ m → has_number rules_new m ≡ true → enters j x m ≡ true
    enters-new m le there =
        (let lt = number-below (λ (z : Automation). z) (units k) rules_new m (in-force-units k) there in
        λ i. not (not-less m (length (units j)) (omega (arith, le, free_is)) i) && is-less m (length (units k)) lt i)

    -- one that is kept
    owner-kept : (m : ℕ) → m < length (units j) → has_number (in_force j) m ≡ true → has_number rules_new m ≡ true → owner_of j m (found m (in_force j)) ≡ owner_of k m (found m rules_new)
    owner-kept m lt there here = by (found m (in_force j)) refl (found m rules_new) refl
      where
        by : (o : Option (ℕ × Automation)) → found m (in_force j) ≡ o → (p : Option (ℕ × Automation)) → found m rules_new ≡ p → owner_of j m o ≡ owner_of k m p
        by None e p f = absurd (true-false (sym there ∙ found-none m (in_force j) e))
        by (Some q) e None f = absurd (true-false (sym here ∙ found-none m rules_new f))
        by (Some q) e (Some r) f =
            (let one = found-some m (units j) (in_force j) q (in-force-units j) e in
            let two = found-some m (units k) rules_new r (in-force-units k) f in
            let same : q.1 ≡ r.1 = some-same q.1 r.1 (sym one.unit ∙ sym (unit-more j x m lt) ∙ two.unit) in
            let flag : is_on k m ≡ is_on j m = on-kept j x new m some reloads lt in
            let at : since k m ≡ since j m = since-kept j x new m some reloads opens lt in
            λ i. if sym flag i then Some (record { owner = m; triggers = (same i).triggers; since = sym at i }) else None)

    owner-behind : (m : ℕ) → m < first_wait → owner_named m behind ≡ owner_of k m (found m rules_new)
    owner-behind m low = by (nat_le free m) refl
      where
        was-known : (c : Bool) → keeps_number same_automation (in_force j) new.automations m ≡ c → m < length (units j) → owner_named m less_gone ≡ owner_of k m (found m rules_new)
        was-known true keeps lt =
            named-all m plan.gone os
            ∙ (λ i. if gone-kept j old new numbers free plan named is planned m keeps i then None else owner_named m os)
            ∙ owner-old m low
            ∙ owner-kept m lt (keeps-there same_automation (in_force j) new.automations m keeps) (kept-behind j old new numbers free plan named is planned x some reloads free_is m lt ∙ keeps)
        was-known false lost lt =
            named-all m plan.gone os
            ∙ went (has_number (in_force j) m) refl
            ∙ sym (none-there k m (kept-behind j old new numbers free plan named is planned x some reloads free_is m lt ∙ lost))
          where
            none : (b : Bool) (o : Option Owner) → o ≡ None → (if b then None else o) ≡ None
            none true o e = refl
            none false o e = e

            went : (b : Bool) → has_number (in_force j) m ≡ b → (if among m plan.gone then None else owner_named m os) ≡ None
            went true there = (λ i. if gone-lost j old new numbers free plan named is planned m there lost i then None else owner_named m os)
            went false there = none (among m plan.gone) (owner_named m os) (owner-old m low ∙ none-there j m there)

        is-new : (e : nat_le free m ≡ true) (o : Option (ℕ × Automation)) → found m rules_new ≡ o → owner_named m behind ≡ owner_of k m o
        is-new e None f = new-none s free (length j) m rules_new less_gone (found-none m rules_new f) ∙ none-new m (least-of free m e) low
        is-new e (Some q) f = turned (is_on k m) refl
          where
            there : has_number rules_new m ≡ true
            there = (let g = found-some m (units k) rules_new q (in-force-units k) f in g.there)

            at : since k m ≡ length j
            at = since-enters j x m (enters-new m (least-of free m e) there)

            flag : is_new_on s free m ≡ is_on k m
            flag = (λ i. e i && option_map_or (λ b. b) (switch-known m there i) false)

            turned : (b : Bool) → is_on k m ≡ b → owner_named m behind ≡ (if b then Some (record { owner = m; triggers = q.1.triggers; since = since k m }) else None)
            turned true on' =
                new-on s free (length j) m q rules_new less_gone (flag ∙ on') fresh-behind (none-new m (least-of free m e) low) f
                ∙ (λ i. Some (record { owner = m; triggers = q.1.triggers; since = sym at i }))
            turned false on' = new-off s free (length j) m rules_new less_gone (flag ∙ on') ∙ none-new m (least-of free m e) low

        by : (b : Bool) → nat_le free m ≡ b → owner_named m behind ≡ owner_of k m (found m rules_new)
        by true e = is-new e (found m rules_new) refl
        by false e =
            (let lt = most-of free m e in
            let off : is_new_on s free m ≡ false = (λ i. e i && option_map_or (λ b. b) (switch_at s m) false) in
            new-off s free (length j) m rules_new less_gone off ∙ was-known (keeps_number same_automation (in_force j) new.automations m) refl (omega (arith, lt, free_is)))

    -- LAW: the owners ascend
    pub ascend-behind : AreAscending 0 behind
    ascend-behind = ascend-new s free (length j) 0 rules_new less_gone refl fresh-behind (ascend-all plan.gone 0 os ascend)

    -- LAW: the automations in force that are on have their triggers attached
    pub owners-behind : filter is_automation behind ≡ owners_on k (length k - 1)
    owners-behind =
        owners-same 0 (filter is_automation behind) (flat_map (owner_in k) (enumerate_from 0 (units k))) (ascend-filtered 0 behind ascend-behind) (ascend-given (owner_in k) (own-gives k) 0 (units k)) (λ m le. by m (nat_lt m first_wait) refl)
        ∙ sym (owners-whole k (omega (arith, length-more j x)))
      where
        by : (m : ℕ) (b : Bool) → nat_lt m first_wait ≡ b → owner_named m (filter is_automation behind) ≡ owner_named m (flat_map (owner_in k) (enumerate_from 0 (units k)))
        by m true e = (let low = less-of m first_wait e in sym (automation-named m behind low) ∙ owner-behind m low ∙ sym (owner-found k m))
        by m false e =
            (let high = not-less-of m first_wait e in filtered-low m behind high ∙ sym (none-there k m (high-new m high)) ∙ sym (owner-found k m))

    -- LAW: they are below what comes later
    pub below-behind : AreBelow (first_wait + length j) os → AreBelow (first_wait + length k) behind
    below-behind early =
        below-new s free (length j) (first_wait + length k) rules_new less_gone (λ m h. (let lt = low-new m h in omega (arith, lt)))
        (below-all plan.gone (first_wait + length k) os (below-more (first_wait + length j) (first_wait + length k) os (omega (arith, length-more j x)) early))

    -- LAW: the waits have theirs
    pub owned-behind : (asks : List Asked) → AreOwned (length j) os asks → AreOwned (length k) behind asks
    owned-behind [] h = tt
    owned-behind (a ∷ asks) h = (
      record {
        owner_is = h.0.owner_is;
        early = omega (arith, h.0.early, length-more j x);
        attached = λ pending.
            (let high : first_wait ≤ a.owner = omega (arith, h.0.owner_is) in
            new-none s free (length j) a.owner rules_new less_gone (high-new a.owner high)
            ∙ named-all a.owner plan.gone os
            ∙ (λ i. if high-gone a.owner high i then None else owner_named a.owner os)
            ∙ h.0.attached pending);
      },
      owned-behind asks h.1,
    )
