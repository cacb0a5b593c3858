-- The automations of a Boot or a Restart, which are all set anew.
use Rattle.std.proofs.Common.{◌≡◌, ℕ, suc, ◌+◌, ◌-◌, ◌<◌, ◌≤◌, inl, inr, List, [], ◌∷◌, ◌++◌, length, filter, Bool, true, false, refl, sym, ap, subst, ◌∙◌, rules, arith, append_assoc}
use Rattle.std.proofs.lemmas.Option.{slice_get_within}
use Rattle.std.specs.Prelude.{◌⊎◌, Option, Some, None, not, nat_eq, nat_le, nat_lt, codes, ◌&&◌, ◌||◌, flat_map, is_some, option_map, slice_get, if◌then◌else◌}
use Rattle.std.specs.List.{enumerate_from}
use Rattle.std.specs.Option.{option_map_or}
use Rattle.ha_value.specs.declared.value.EntityId.{EntityId}
use Rattle.ha_config.specs.declared.config.Automation.{Automation}
use Rattle.ha_journal.specs.declared.entry.Entry.{Entry}
use Rattle.ha_journal.specs.Entries.{opens_segment}
use Rattle.ha_journal.specs.Journal.{Journal, automations, in_force, now, more, configured, units}
use Rattle.ha_config.specs.Names.{automation_named, named_among}
use Rattle.ha_config.specs.Numbered.{has_number}
use Rattle.ha_journal.specs.States.{states}
use Rattle.ha_journal.specs.Switches.{is_on, same_switch, since, switch_named}
use Rattle.ha_config.specs.Words.{Text, same, same_entity}
use Rattle.ha_config.proofs.EqualLemmas.{same-sound}
use Rattle.ha_config.proofs.ListLemmas.{append-nil}
use Rattle.ha_journal.proofs.SinceLaws.{enters, since-more}
use Rattle.ha_past.specs.Firings.{Owner, owner_named, placed}
use Rattle.state_table.specs.Anew.{is_automation as is_of_automation, switch_object}
use Rattle.state_laws.specs.Stands.{is_named, sets_anew, turns}
use Rattle.state_laws.specs.Stands.{StandsBut, StandsFor}
use Rattle.state_table.specs.declared.table.StateTable.{StateTable}
use Rattle.state_laws.proofs.StateLaws.{states-anew}
use Rattle.trig_set.specs.Next.{has_earlier}
use Rattle.trig_set.specs.Stands as triggers
use Rattle.trig_set.specs.declared.set.TrigSet.{TrigSet}
use Rattle.engine_parts.specs.Kept.{AreSound}
use Rattle.engine_entry.specs.Opened.{AllOpened, Opened, left_from, owner_below, owner_open, placed_rules}
use Rattle.engine_parts.specs.Owners.{AreAscending, AreBelow, is_automation}
use Rattle.engine_parts.specs.Runs.{first_wait}
use Rattle.engine_entry.specs.Turned.{entity_named, is_left, owner_in}
use Rattle.engine_entry.proofs.NamedLemmas.{found-named, named-own, same-self, sound-distinct, sound-few}
use Rattle.engine_entry.proofs.PlaceLemmas.{Gives, eq-of, flat-range, flat-same, none-named, placed-in}
use Rattle.engine_entry.proofs.TurnedStates.{id_of}

-- the id of an automation is no other's, by their places
id-apart-placed : (all : List Automation) (a b : ℕ) (y : Automation) (e : EntityId) → slice_get all a ≡ Some y → is_of_automation e ≡ true → automation_named all e.object ≡ Some b → same_entity (id_of y) e ≡ false → nat_eq b a ≡ false
id-apart-placed all a b y e here auto named other = by (nat_eq b a) refl
  where
    by : (c : Bool) → nat_eq b a ≡ c → c ≡ false
    by true at =
        (let found = found-named all e.object b named in
        let own : Some found.automation ≡ Some y = sym found.here ∙ ap (slice_get all) (eq-of b a at) ∙ here in
        let self : found.automation ≡ y = cc in
        let object : y.name ≡ e.object = ap (λ (z : Automation). z.name) (sym self) ∙ found.name_is in
        let domain : codes "automation" ≡ e.domain = sym (same-sound e.domain (codes "automation") auto) in
        let is : same_entity (id_of y) e ≡ true = (λ i. same (codes "automation") (sym domain i) && same y.name (sym object i)) ∙ (λ i. same-self (codes "automation") i && same-self y.name i) in
        let bad : ◌≡◌ {A = Bool} true false = sym is ∙ other in cc)
    by false at = refl

is-most : (a b : ℕ) → a ≤ b → nat_le a b ≡ true
is-most a b h = search (rules, h)

not-most : (a b : ℕ) → b < a → nat_le a b ≡ false
not-most a b h = search (rules, h)

-- ---- the owners

open-gives : (k : Journal) → Gives (owner_open k)
open-gives k y = by (is_on k y.0) (record { owner = y.0; triggers = y.1.triggers; since = since k y.0 }) refl
  where
    by : (b : Bool) (own : Owner) → own.owner ≡ y.0 → ((if b then own ∷ [] else []) ≡ []) ⊎ ((o : Owner) × ((if b then own ∷ [] else []) ≡ o ∷ []) × (o.owner ≡ y.0))
    by true own e = inr (own, refl, e)
    by false own e = inl refl

below-gives : (k : Journal) (n : ℕ) → Gives (owner_below k n)
below-gives k n y = by (left_from n y.0)
  where
    by : (b : Bool) → ((if b then [] else owner_open k y) ≡ []) ⊎ ((o : Owner) × ((if b then [] else owner_open k y) ≡ o ∷ []) × (o.owner ≡ y.0))
    by true = inl refl
    by false = open-gives k y

-- one more is set
below-same : (k : Journal) (n : ℕ) (y : ℕ × Automation) → nat_eq y.0 n ≡ false → owner_below k (n + 1) y ≡ owner_below k n y
below-same k n y e = (λ i. if same y.0 e i then [] else owner_open k y)
  where
    same : (a : ℕ) → nat_eq a n ≡ false → nat_le (n + 1) a ≡ nat_le n a
    same a e = search (rules, e)

below-none : (k : Journal) (n : ℕ) (y : ℕ × Automation) → nat_eq y.0 n ≡ true → owner_below k n y ≡ []
below-none k n y e = (λ i. if is-most n y.0 (omega (arith, eq-of y.0 n e)) i then [] else owner_open k y)

below-own : (k : Journal) (n : ℕ) (y : Automation) → owner_below k (n + 1) (n, y) ≡ owner_open k (n, y)
below-own k n y = (λ i. if not-most (n + 1) n (omega arith) i then [] else owner_open k (n, y))

module _ (j : Journal) (x : Entry) (opens : opens_segment x ≡ true) (numbered : in_force (more j x) ≡ placed_rules (more j x)) where
  abbrev k : Journal
  k = more j x

  -- LAW: all are on since the entry
  pub since-open : (a : ℕ) → since k a ≡ length j
  since-open a = since-more j x a ∙ (λ i. if opens i || enters j x a || (not (is_on j a) && is_on k a) then length j else since j a)

  -- LAW: one that is to be set is not named
  pub open-none : (n : ℕ) (os : List Owner) → os ≡ flat_map (owner_below k n) (placed_rules k) → owner_named n os ≡ None
  open-none n os h = ap (owner_named n) h ∙ none-named n (owner_below k n) (owner_below k n) (below-gives k n) (below-none k n) (placed_rules k)

  -- LAW: with one more that is on
  pub open-on : (n : ℕ) (y : Automation) → slice_get (automations k) n ≡ Some y → is_on k n ≡ true → (os : List Owner) → os ≡ flat_map (owner_below k n) (placed_rules k)
      → placed (record { owner = n; triggers = y.triggers; since = length j }) os ≡ flat_map (owner_below k (n + 1)) (placed_rules k)
  open-on n y here on os h =
      let own : Owner = record { owner = n; triggers = y.triggers; since = length j } in
      ap (placed own) h
      ∙ placed-in own (owner_below k n) (owner_below k (n + 1)) (below-gives k n) (below-same k n) 0 n (automations k) y (omega arith) here (below-none k n (n, y) (self n))
      (below-own k n y ∙ (λ i. if on i then record { owner = n; triggers = y.triggers; since = since-open n i } ∷ [] else []))
    where
      self : (a : ℕ) → nat_eq a a ≡ true
      self a = search rules

  -- LAW: and with one more that is off
  pub open-off : (n : ℕ) → is_on k n ≡ false → (os : List Owner) → os ≡ flat_map (owner_below k n) (placed_rules k) → os ≡ flat_map (owner_below k (n + 1)) (placed_rules k)
  open-off n off os h = h ∙ flat-same (owner_below k n) (owner_below k (n + 1)) (λ y. by y (nat_eq y.0 n) refl) (placed_rules k)
    where
      by : (y : ℕ × Automation) (b : Bool) → nat_eq y.0 n ≡ b → owner_below k n y ≡ owner_below k (n + 1) y
      by y false e = sym (below-same k n y e)
      by y true e =
          (let here : y.0 ≡ n = eq-of y.0 n e in
          below-none k n y e
          ∙ sym (λ i. if (ap is_on-k here ∙ off) i then record { owner = y.0; triggers = y.1.triggers; since = since k y.0 } ∷ [] else [])
          ∙ sym (λ i. if not-most (n + 1) y.0 (omega (arith, here)) i then [] else owner_open k y))
        where
          is_on-k : ℕ → Bool
          is_on-k a = is_on k a

  -- ---- the states

  module _ (sound : AreSound k) (n : ℕ) (y : Automation) (here : slice_get (automations k) n ≡ Some y) where
    own-named : automation_named (automations k) y.name ≡ Some n
    own-named = named-own (automations k) n y (sound-distinct (configured k) sound) here

    -- LAW: the state of an automation
    pub open-state : states k (entity_named y.name) ≡ Some (switch_object (is_on k n) (now k))
    open-state = states-anew j (id_of y) x anew ∙ (λ i. option_map (λ on. switch_object on (now k)) (named i))
      where
        named : switch_named k y.name ≡ Some (is_on k n)
        named = (λ i. option_map (is_on k) (named_among (numbered i) y.name)) ∙ (λ i. option_map (is_on k) (own-named i))

        or-true : (b : Bool) → (b || true) ≡ true
        or-true true = refl
        or-true false = refl

        there : is_named j x y.name ≡ true
        there = (λ i. is_some (switch_named j y.name) || is_some (named i)) ∙ or-true (is_some (switch_named j y.name))

        anew : sets_anew j x (id_of y) ≡ true
        anew = (λ i. (same-self (codes "automation") i && there i) && (opens i || not (same_switch (switch_named j y.name) (switch_named k y.name))))

    -- LAW: with it, those above it are left
    pub open-left : (e : EntityId) → is_left (placed_rules k) (left_from (n + 1)) e ≡ false → (is_left (placed_rules k) (left_from n) e && not (same_entity (entity_named y.name) e)) ≡ false
    open-left e h = by (is_of_automation e) refl (automation_named (automations k) e.object) refl
      where
        none : (b : Bool) → (false && b) ≡ false
        none b = refl

        above : (b : ℕ) → nat_le (n + 1) b ≡ false → nat_eq b n ≡ false → nat_le n b ≡ false
        above b g f = search (rules, g, f)

        one : (b : ℕ) → is_of_automation e ≡ true → automation_named (automations k) e.object ≡ Some b → nat_le (n + 1) b ≡ false → (c : Bool) → same_entity (entity_named y.name) e ≡ c → (nat_le n b && not c) ≡ false
        one b p q g true f = off (nat_le n b)
          where
            off : (u : Bool) → (u && false) ≡ false
            off true = refl
            off false = refl
        one b p q g false f = (λ i. above b g (id-apart-placed (automations k) n b y e here p q f) i && true)

        by : (c : Bool) → is_of_automation e ≡ c → (o : Option ℕ) → automation_named (automations k) e.object ≡ o → (is_left (placed_rules k) (left_from n) e && not (same_entity (entity_named y.name) e)) ≡ false
        by false p o q = (λ i. (p i && option_map_or (left_from n) (automation_named (automations k) e.object) false) && not (same_entity (entity_named y.name) e))
        by true p None q = (λ i. (p i && option_map_or (left_from n) (q i) false) && not (same_entity (entity_named y.name) e))
        by true p (Some b) q =
            (λ i. (p i && option_map_or (left_from n) (q i) false) && not (same_entity (entity_named y.name) e))
            ∙ one b p q (sym (λ i. p i && option_map_or (left_from (n + 1)) (q i) false) ∙ h) (same_entity (entity_named y.name) e) refl

  -- LAW: an automation is set
  pub open-next : AreSound k → (n : ℕ) (y : Automation) → slice_get (automations k) n ≡ Some y → (table table' : StateTable) (t t' : TrigSet)
      → StandsBut (λ e. is_left (placed_rules k) (left_from n) e && not (same_entity (entity_named y.name) e)) table' k
      → triggers.attached t' ≡ (if is_on k n then placed (record { owner = n; triggers = y.triggers; since = length j }) (triggers.attached t) else triggers.attached t) → triggers.StandsFor t' j
      → Opened j x n table t → Opened j x (n + 1) table' t'
  open-next sound n y here table table' t t' stand attached' stands' h = record {
    stand = λ e left. stand e (open-left sound n y here e left);
    owners = attached' ∙ by (is_on k n) refl;
    triggers_stand = stands';
  }
    where
      by : (b : Bool) → is_on k n ≡ b → (if b then placed (record { owner = n; triggers = y.triggers; since = length j }) (triggers.attached t) else triggers.attached t) ≡ flat_map (owner_below k (n + 1)) (placed_rules k)
      by true on = open-on n y here on (triggers.attached t) h.owners
      by false off = open-off n off (triggers.attached t) h.owners

  -- ---- the end

  -- LAW: when none is left
  pub open-end : (n : ℕ) → length (automations k) ≤ n → (table : StateTable) (t : TrigSet) → Opened j x n table t → AllOpened j x table t
  open-end n most table t h = record {
    stand = λ e. h.stand e (none e (is_of_automation e) (automation_named (automations k) e.object) refl);
    owners = h.owners ∙ flat-range (owner_below k n) (owner_open k) 0 (automations k) (λ i y lt. (λ m. if not-most n i (omega (arith, lt, most)) m then [] else owner_open k (i, y)));
    triggers_stand = h.triggers_stand;
  }
    where
      none : (e : EntityId) (b : Bool) (o : Option ℕ) → automation_named (automations k) e.object ≡ o → (b && option_map_or (left_from n) o false) ≡ false
      none e false o q = refl
      none e true None q = refl
      none e true (Some a) q =
          (let found = found-named (automations k) e.object a q in
          let within : a < length (automations k) = slice_get_within (automations k) a found.automation found.here in
          not-most n a (omega (arith, within, most)))

  -- LAW: the begin
  pub open-begin : ((name : Text) → switch_named j name ≡ None) → (table : StateTable) (t : TrigSet) → StandsBut (sets_anew j x) table k → triggers.attached t ≡ [] → triggers.StandsFor t j → Opened j x 0 table t
  open-begin nobody table t stand none stands = record {
    stand = λ e left. stand e (by e (is_of_automation e) refl (automation_named (automations k) e.object) refl left);
    owners = none ∙ sym (flat-none (placed_rules k));
    triggers_stand = stands;
  }
    where
      and-none : (a b : Bool) → ((a && false) && b) ≡ false
      and-none true b = refl
      and-none false b = refl

      by : (e : EntityId) (b : Bool) → is_of_automation e ≡ b → (o : Option ℕ) → automation_named (automations k) e.object ≡ o → (is_of_automation e && option_map_or (left_from 0) (automation_named (automations k) e.object) false) ≡ false
          → sets_anew j x e ≡ false
      by e false p o q h = (λ i. (p i && is_named j x e.object) && turns j x e.object)
      by e true p None q h =
          (let none-there : switch_named k e.object ≡ None = (λ i. option_map (is_on k) (named_among (numbered i) e.object)) ∙ (λ i. option_map (is_on k) (q i)) in
          let unnamed : is_named j x e.object ≡ false = (λ i. is_some (nobody e.object i) || is_some (none-there i)) in
          (λ i. (is_of_automation e && unnamed i) && turns j x e.object) ∙ and-none (is_of_automation e) (turns j x e.object))
      by e true p (Some a) q h =
          absurd (let bad : ◌≡◌ {A = Bool} true false = sym ((λ i. p i && option_map_or (left_from 0) (q i) false) ∙ is-most 0 a (omega arith)) ∙ h in cc)

      flat-none : (ys : List (ℕ × Automation)) → flat_map (owner_below k 0) ys ≡ []
      flat-none [] = refl
      flat-none (y ∷ ys) = (λ i. (if is-most 0 y.0 (omega arith) i then [] else owner_open k y) ++ flat-none ys i)

  -- ---- the owners of all

  module _ (n : ℕ) where
    own-one : (y : Automation) → (owner_open k (n, y) ≡ []) ⊎ ((o : Owner) × (owner_open k (n, y) ≡ o ∷ []) × (o.owner ≡ n) × (o.since ≡ length j))
    own-one y = by (is_on k n) (record { owner = n; triggers = y.triggers; since = since k n }) refl (since-open n)
      where
        by : (b : Bool) (own : Owner) → own.owner ≡ n → own.since ≡ length j → ((if b then own ∷ [] else []) ≡ []) ⊎ ((o : Owner) × ((if b then own ∷ [] else []) ≡ o ∷ []) × (o.owner ≡ n) × (o.since ≡ length j))
        by true own e f = inr (own, refl, e, f)
        by false own e f = inl refl

  all-ascend : (n : ℕ) (all : List Automation) → AreAscending n (flat_map (owner_open k) (enumerate_from n all))
  all-ascend n [] = tt
  all-ascend n (y ∷ ys) = by (owner_open k (n, y)) (own-one n y) (all-ascend (n + 1) ys)
    where
      by : (l : List Owner) → (l ≡ []) ⊎ ((o : Owner) × (l ≡ o ∷ []) × (o.owner ≡ n) × (o.since ≡ length j)) → AreAscending (n + 1) (flat_map (owner_open k) (enumerate_from (n + 1) ys)) → AreAscending n (l ++ flat_map (owner_open k) (enumerate_from (n + 1) ys))
      by l (inl e) rest = subst (λ (m : List Owner). AreAscending n (m ++ flat_map (owner_open k) (enumerate_from (n + 1) ys))) (sym e) (lower (flat_map (owner_open k) (enumerate_from (n + 1) ys)) rest)
        where
          lower : (os : List Owner) → AreAscending (n + 1) os → AreAscending n os
          lower [] h = tt
          lower (o ∷ os) h = (omega (arith, h.0), h.1)
      by l (inr (o, e, own, since')) rest =
          subst (λ (m : List Owner). AreAscending n (m ++ flat_map (owner_open k) (enumerate_from (n + 1) ys))) (sym e)
          (omega (arith, own), (let at : n + 1 ≡ suc o.owner = omega (arith, own) in subst (λ m. AreAscending m (flat_map (owner_open k) (enumerate_from (n + 1) ys))) at rest))

  all-below : (m n : ℕ) (all : List Automation) → n + length all ≤ m → AreBelow m (flat_map (owner_open k) (enumerate_from n all))
  all-below m n [] le = tt
  all-below m n (y ∷ ys) le = by (owner_open k (n, y)) (own-one n y) (all-below m (n + 1) ys (omega (arith, le)))
    where
      by : (l : List Owner) → (l ≡ []) ⊎ ((o : Owner) × (l ≡ o ∷ []) × (o.owner ≡ n) × (o.since ≡ length j)) → AreBelow m (flat_map (owner_open k) (enumerate_from (n + 1) ys)) → AreBelow m (l ++ flat_map (owner_open k) (enumerate_from (n + 1) ys))
      by l (inl e) rest = subst (λ (q : List Owner). AreBelow m (q ++ flat_map (owner_open k) (enumerate_from (n + 1) ys))) (sym e) rest
      by l (inr (o, e, own, since')) rest = subst (λ (q : List Owner). AreBelow m (q ++ flat_map (owner_open k) (enumerate_from (n + 1) ys))) (sym e) (omega (arith, own, le), rest)

  all-late : (n : ℕ) (all : List Automation) → has_earlier (length j) (flat_map (owner_open k) (enumerate_from n all)) ≡ false
  all-late n [] = refl
  all-late n (y ∷ ys) = by (owner_open k (n, y)) (own-one n y) (all-late (n + 1) ys)
    where
      not-less : (a b : ℕ) → a ≡ b → nat_lt a b ≡ false
      not-less a b e = search (rules, e)

      by : (l : List Owner) → (l ≡ []) ⊎ ((o : Owner) × (l ≡ o ∷ []) × (o.owner ≡ n) × (o.since ≡ length j)) → has_earlier (length j) (flat_map (owner_open k) (enumerate_from (n + 1) ys)) ≡ false
          → has_earlier (length j) (l ++ flat_map (owner_open k) (enumerate_from (n + 1) ys)) ≡ false
      by l (inl e) rest = (λ i. has_earlier (length j) (e i ++ flat_map (owner_open k) (enumerate_from (n + 1) ys))) ∙ rest
      by l (inr (o, e, own, since')) rest = (λ i. has_earlier (length j) (e i ++ flat_map (owner_open k) (enumerate_from (n + 1) ys))) ∙ (λ i. not-less o.since (length j) since' i || rest i)

  low-all : (os : List Owner) → AreBelow first_wait os → filter is_automation os ≡ os
  low-all [] h = refl
  low-all (o ∷ os) h = (λ i. if is-less o.owner h.0 i then o ∷ low-all os h.1 i else low-all os h.1 i)
    where
      is-less : (a : ℕ) → a < first_wait → nat_lt a first_wait ≡ true
      is-less a lt = search (rules, lt)

  module _ (sound : AreSound k) (table : StateTable) (t : TrigSet) (h : AllOpened j x table t) where
    few : AreBelow first_wait (triggers.attached t)
    few = subst (AreBelow first_wait) (sym h.owners) (all-below first_wait 0 (automations k) (omega (arith, sound-few (configured k) sound)))

    -- LAW: the owners ascend, are automations, and none was attached earlier
    pub opened-ascend : AreAscending 0 (triggers.attached t)
    opened-ascend = subst (AreAscending 0) (sym h.owners) (all-ascend 0 (automations k))

    pub opened-below : (m : ℕ) → first_wait ≤ m → AreBelow m (triggers.attached t)
    opened-below m le = subst (AreBelow m) (sym h.owners) (all-below m 0 (automations k) (omega (arith, le, sound-few (configured k) sound)))

    pub opened-automations : filter is_automation (triggers.attached t) ≡ flat_map (owner_open k) (placed_rules k)
    opened-automations = low-all (triggers.attached t) few ∙ h.owners

    pub opened-late : has_earlier (length j) (triggers.attached t) ≡ false
    opened-late = ap (has_earlier (length j)) h.owners ∙ all-late 0 (automations k)

-- ---- the owners after the entry

module _ (k : Journal) (numbered : in_force k ≡ placed_rules k) (behind : List Automation) (units_are : units k ≡ automations k ++ behind) where
  known-from : (n m : ℕ) (all : List Automation) → n ≤ m → m < n + length all → has_number (enumerate_from n all) m ≡ true
  known-from n m [] le lt = absurd (omega (arith, le, lt))
  known-from n m (y ∷ ys) le lt = by (nat_eq n m) refl (λ above. known-from (n + 1) m ys above (omega (arith, lt)))
    where
      above : nat_eq n m ≡ false → n + 1 ≤ m
      above e = search (rules, le, e)

      by : (b : Bool) → nat_eq n m ≡ b → (n + 1 ≤ m → has_number (enumerate_from (n + 1) ys) m ≡ true) → (b || has_number (enumerate_from (n + 1) ys) m) ≡ true
      by true e rest = refl
      by false e rest = rest (above e)

  unknown-from : (n m : ℕ) (all : List Automation) → n + length all ≤ m → has_number (enumerate_from n all) m ≡ false
  unknown-from n m [] le = refl
  unknown-from n m (y ∷ ys) le = (λ i. apart i || unknown-from (n + 1) m ys (omega (arith, le)) i)
    where
      apart : nat_eq n m ≡ false
      apart = search (rules, le)

  rules-open : (n : ℕ) (all : List Automation) → n + length all ≤ length (automations k) → flat_map (owner_in k) (enumerate_from n all) ≡ flat_map (owner_open k) (enumerate_from n all)
  rules-open n [] le = refl
  rules-open n (y ∷ ys) le =
      (let there : has_number (in_force k) n ≡ true = (λ i. has_number (numbered i) n) ∙ known-from 0 n (automations k) (omega arith) (omega (arith, le)) in
      λ i. (if there i && is_on k n then record { owner = n; triggers = y.triggers; since = since k n } ∷ [] else []) ++ rules-open (n + 1) ys (omega (arith, le)) i)

  none-behind : (n : ℕ) (all : List Automation) → length (automations k) ≤ n → flat_map (owner_in k) (enumerate_from n all) ≡ []
  none-behind n [] le = refl
  none-behind n (y ∷ ys) le =
      (let gone : has_number (in_force k) n ≡ false = (λ i. has_number (numbered i) n) ∙ unknown-from 0 n (automations k) (omega (arith, le)) in
      λ i. (if gone i && is_on k n then record { owner = n; triggers = y.triggers; since = since k n } ∷ [] else []) ++ none-behind (n + 1) ys (omega (arith, le)) i)

  split : (n : ℕ) (xs ys : List Automation) → flat_map (owner_in k) (enumerate_from n (xs ++ ys)) ≡ flat_map (owner_in k) (enumerate_from n xs) ++ flat_map (owner_in k) (enumerate_from (n + length xs) ys)
  split n [] ys = (let same : n ≡ n + 0 = omega arith in λ i. flat_map (owner_in k) (enumerate_from (same i) ys))
  split n (x ∷ xs) ys =
      ap (λ l. owner_in k (n, x) ++ l) (split (n + 1) xs ys)
      ∙ (let at : n + 1 + length xs ≡ n + suc (length xs) = omega arith in λ i. owner_in k (n, x) ++ (flat_map (owner_in k) (enumerate_from (n + 1) xs) ++ flat_map (owner_in k) (enumerate_from (at i) ys)))
      ∙ sym (append_assoc (owner_in k (n, x)) (flat_map (owner_in k) (enumerate_from (n + 1) xs)) (flat_map (owner_in k) (enumerate_from (n + suc (length xs)) ys)))

  -- LAW: the owners after the entry are those of the automations that are on
  pub owners-opened : flat_map (owner_in k) (enumerate_from 0 (units k)) ≡ flat_map (owner_open k) (placed_rules k)
  owners-opened =
      (λ i. flat_map (owner_in k) (enumerate_from 0 (units_are i))) ∙ split 0 (automations k) behind
      ∙ (λ i. rules-open 0 (automations k) (omega arith) i ++ none-behind (0 + length (automations k)) behind (omega arith) i)
      ∙ append-nil (flat_map (owner_open k) (placed_rules k))

got-within : (all : List Automation) (n : ℕ) (y : Automation) → slice_get all n ≡ Some y → n < length all
got-within all n y e = slice_get_within all n y e

-- LAW: the place of an automation is its number
pub opened-known : (k : Journal) → in_force k ≡ placed_rules k → (n : ℕ) (y : Automation) → slice_get (automations k) n ≡ Some y → has_number (in_force k) n ≡ true
opened-known k numbered n y e = (λ i. has_number (numbered i) n) ∙ there 0 n (automations k) (omega arith) (omega (arith, got-within (automations k) n y e))
  where
    there : (m a : ℕ) (all : List Automation) → m ≤ a → a < m + length all → has_number (enumerate_from m all) a ≡ true
    there m a [] le lt = absurd (omega (arith, le, lt))
    there m a (z ∷ zs) le lt = by (nat_eq m a) refl (λ above. there (m + 1) a zs above (omega (arith, lt)))
      where
        above : nat_eq m a ≡ false → m + 1 ≤ a
        above f = search (rules, le, f)

        by : (b : Bool) → nat_eq m a ≡ b → (m + 1 ≤ a → has_number (enumerate_from (m + 1) zs) a ≡ true) → (b || has_number (enumerate_from (m + 1) zs) a) ≡ true
        by true f rec = refl
        by false f rec = rec (above f)
