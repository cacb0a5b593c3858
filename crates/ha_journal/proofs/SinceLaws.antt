-- Where a switch stays and since when it is on, with one more entry.
use Rattle.std.proofs.Common.{◌≡◌, ℕ, zero, suc, ◌<◌, ◌≤◌, ◌-◌, [], ◌∷◌, length, take, Bool, true, false, refl, sym, ap, ◌∙◌, rules, arith, Option}
use Rattle.std.specs.Prelude.{Some, None, not, nat_lt, option_map, unwrap_or, ◌&&◌, ◌||◌, if◌then◌else◌}
use Rattle.std.specs.Option.{option_map_or}
use Rattle.std.proofs.lemmas.List.{take-append-le, take_all}
use Rattle.ha_config.specs.declared.config.Config.{Config}
use Rattle.ha_config.specs.Names.{name_of, named_among}
use Rattle.ha_config.specs.Words.{Text, last_below}
use Rattle.ha_journal.specs.declared.entry.Entry.{Entry}
use Rattle.ha_journal.specs.Entries.{Turning, turning, opens_segment, reload_in}
use Rattle.ha_journal.specs.Journal.{Journal, HasEntry, in_force, more, units}
use Rattle.ha_journal.specs.Switches.{enters_at, is_on, name_switched_at, on_turned, opens_at, same_switch, since, switch_named, switched_at}
use Rattle.ha_journal.proofs.ForceLaws.{in-force-more, units-more}
use Rattle.ha_journal.proofs.MoreLemmas.{length-more, through-more, through-last}
use Rattle.ha_journal.proofs.SwitchLemmas.{brought, leaves-none, on-known, on-more}
use Rattle.ha_config.proofs.ListLemmas.{get-more, get-last}

-- ---- the parts of a journal with one more entry

pub take-more : (j : Journal) (x : Entry) (n : ℕ) → n ≤ length j → take n (more j x) ≡ take n j
take-more j x n le = take-append-le n j (x ∷ []) le

pub take-before : (j : Journal) (x : Entry) → take (length j) (more j x) ≡ j
take-before j x = take-more j x (length j) (omega arith) ∙ take_all (length j) j (omega arith)

-- ---- switches

-- LAW: an entry that turns no switch leaves each as it was
pub on-left : (j : Journal) (x : Entry) (a : ℕ) → HasEntry j → turning x ≡ Turning.Leaves → is_on (more j x) a ≡ is_on j a
on-left j x a h leaves = on-more j x a h (leaves-none x leaves) ∙ (λ i. on_turned (units j) a (is_on j a) (leaves i))

-- at place n there is a Boot or a Restart, or the automation comes into force, or the switch turns on
abbrev turned_on_at : Journal → ℕ → ℕ → Bool
turned_on_at j a n = opens_at j n || enters_at j a n || (not (is_on (take n j) a) && is_on (take (suc n) j) a)

-- the entry brings the automation into force
abbrev pub enters : Journal → Entry → ℕ → Bool
enters j x a = not (nat_lt a (length (units j))) && nat_lt a (length (units (more j x)))

last_below-same : (f g : ℕ → Bool) (m : ℕ) → ((n : ℕ) → n < m → f n ≡ g n) → last_below f m ≡ last_below g m
last_below-same f g zero h = refl
last_below-same f g (suc m) h = (λ i. if h m (omega arith) i then Some m else last_below-same f g m (λ n lt. h n (omega arith)) i)

turned-more : (j : Journal) (x : Entry) (a n : ℕ) → n < length j → turned_on_at (more j x) a n ≡ turned_on_at j a n
turned-more j x a n lt =
    (λ i. option_map_or opens_segment (get-more j x n lt i) false
    || (not (nat_lt a (length (units (take-more j x n (omega arith) i)))) && nat_lt a (length (units (through-more j x n lt i))))
    || (not (is_on (take-more j x n (omega arith) i) a) && is_on (through-more j x n lt i) a))

turned-last : (j : Journal) (x : Entry) (a : ℕ) → turned_on_at (more j x) a (length j) ≡ (opens_segment x || enters j x a || (not (is_on j a) && is_on (more j x) a))
turned-last j x a =
    (λ i. option_map_or opens_segment (get-last j x i) false
    || (not (nat_lt a (length (units (take-before j x i)))) && nat_lt a (length (units (through-last j x i))))
    || (not (is_on (take-before j x i) a) && is_on (through-last j x i) a))

-- LAW: since when an automation is on, with one more entry
pub since-more : (j : Journal) (x : Entry) (a : ℕ) → since (more j x) a ≡ (if opens_segment x || enters j x a || (not (is_on j a) && is_on (more j x) a) then length j else since j a)
since-more j x a =
    (λ i. unwrap_or (last_below (turned_on_at (more j x) a) (length-more j x i)) 0)
    ∙ (λ i. unwrap_or (if turned-last j x a i then Some (length j) else last_below-same (turned_on_at (more j x) a) (turned_on_at j a) (length j) (turned-more j x a) i) 0)
    ∙ by (opens_segment x || enters j x a || (not (is_on j a) && is_on (more j x) a))
  where
    by : (b : Bool) → unwrap_or (if b then Some (length j) else last_below (turned_on_at j a) (length j)) 0 ≡ (if b then length j else since j a)
    by true = refl
    by false = refl

is-less : (a b : ℕ) → a < b → nat_lt a b ≡ true
is-less a b lt = search (rules, lt)

not-and : (b : Bool) → (not b && b) ≡ false
not-and true = refl
not-and false = refl

-- what is known before comes into force no more, and without a Reload nothing does
pub enters-known : (j : Journal) (x : Entry) (a : ℕ) → a < length (units j) → enters j x a ≡ false
enters-known j x a lt = (λ i. not (is-less a (length (units j)) lt i) && nat_lt a (length (units (more j x))))

pub enters-none : (j : Journal) (x : Entry) (a : ℕ) → HasEntry j → reload_in x ≡ None → enters j x a ≡ false
enters-none j x a h none =
    (λ i. not (nat_lt a (length (units j))) && nat_lt a (length (sym (units-more j x h none) i))) ∙ not-and (nat_lt a (length (units j)))

-- LAW: of a kept automation a Reload changes neither the switch nor since when it is on
pub on-kept : (j : Journal) (x : Entry) (c : Config) (a : ℕ) → HasEntry j → reload_in x ≡ Some c → a < length (units j) → is_on (more j x) a ≡ is_on j a
on-kept j x c a h e lt = on-known j x a h lt ∙ brought x c e (λ t. on_turned (units j) a (is_on j a) t)

pub since-kept : (j : Journal) (x : Entry) (c : Config) (a : ℕ) → HasEntry j → reload_in x ≡ Some c → opens_segment x ≡ false → a < length (units j) → since (more j x) a ≡ since j a
since-kept j x c a h e opens lt =
    since-more j x a
    ∙ (λ i. if opens i || enters-known j x a lt i || (not (is_on j a) && on-kept j x c a h e lt i) then length j else since j a)
    ∙ by (is_on j a)
  where
    by : (b : Bool) → (if false || false || (not b && b) then length j else since j a) ≡ since j a
    by true = refl
    by false = refl

-- LAW: an automation that a Reload brings into force is on since then
pub since-enters : (j : Journal) (x : Entry) (a : ℕ) → enters j x a ≡ true → since (more j x) a ≡ length j
since-enters j x a e =
    since-more j x a ∙ (λ i. if opens_segment x || e i || (not (is_on j a) && is_on (more j x) a) then length j else since j a) ∙ by (opens_segment x)
  where
    by : (b : Bool) → (if b || true || (not (is_on j a) && is_on (more j x) a) then length j else since j a) ≡ length j
    by true = refl
    by false = refl

-- LAW: an entry that turns no switch, and is no Boot or Restart, leaves it as it was
pub since-left : (j : Journal) (x : Entry) (a : ℕ) → HasEntry j → turning x ≡ Turning.Leaves → opens_segment x ≡ false → since (more j x) a ≡ since j a
since-left j x a h leaves opens =
    since-more j x a
    ∙ (λ i. if opens i || enters-none j x a h (leaves-none x leaves) i || (not (is_on j a) && on-left j x a h leaves i) then length j else since j a)
    ∙ by (is_on j a)
  where
    by : (b : Bool) → (if false || false || (not b && b) then length j else since j a) ≡ since j a
    by true = refl
    by false = refl

-- at place n there is a Boot or a Restart, or the switch of the name changes
abbrev changed_at : Journal → Text → ℕ → Bool
changed_at j name n = opens_at j n || not (same_switch (switch_named (take n j) name) (switch_named (take (suc n) j) name))

changed-more : (j : Journal) (x : Entry) (name : Text) (n : ℕ) → n < length j → changed_at (more j x) name n ≡ changed_at j name n
changed-more j x name n lt =
    (λ i. option_map_or opens_segment (get-more j x n lt i) false || not (same_switch (switch_named (take-more j x n (omega arith) i) name) (switch_named (through-more j x n lt i) name)))

-- LAW: nor does it change the switch of a name
pub named-left : (j : Journal) (x : Entry) (name : Text) → HasEntry j → turning x ≡ Turning.Leaves → switch_named (more j x) name ≡ switch_named j name
named-left j x name h leaves =
    (λ i. option_map (is_on (more j x)) (named_among (sym (in-force-more j x h (leaves-none x leaves)) i) name))
    ∙ by (named_among (in_force j) name)
  where
    by : (o : Option ℕ) → option_map (is_on (more j x)) o ≡ option_map (is_on j) o
    by None = refl
    by (Some a) = ap Some (on-left j x a h leaves)

changed-last : (j : Journal) (x : Entry) (name : Text) → HasEntry j → turning x ≡ Turning.Leaves → opens_segment x ≡ false → changed_at (more j x) name (length j) ≡ false
changed-last j x name h leaves opens =
    (λ i. option_map_or opens_segment (get-last j x i) false || not (same_switch (switch_named (take-before j x i) name) (switch_named (through-last j x i) name)))
    ∙ (λ i. opens i || not (same_switch (switch_named j name) (named-left j x name h leaves i)))
    ∙ by (switch_named j name)
  where
    by : (b : Option Bool) → (false || not (same_switch b b)) ≡ false
    by None = refl
    by (Some true) = refl
    by (Some false) = refl

-- it is a place of the journal
last_below-within : (test : ℕ → Bool) (m : ℕ) → unwrap_or (last_below test m) 0 ≤ m - 1
last_below-within test zero = omega arith
last_below-within test (suc m) = by (test m) (last_below-within test m)
  where
    by : (b : Bool) → unwrap_or (last_below test m) 0 ≤ m - 1 → unwrap_or (if b then Some m else last_below test m) 0 ≤ suc m - 1
    by true below = omega arith
    by false below = omega (arith, below)

-- LAW: the latest entry that changed the switch of a name, or brought the name into force, with one more entry
pub name-switched-more : (j : Journal) (x : Entry) (name : Text) → name_switched_at (more j x) name
    ≡ (if opens_segment x || not (same_switch (switch_named j name) (switch_named (more j x) name)) then length j else name_switched_at j name)
name-switched-more j x name =
    (λ i. unwrap_or (last_below (changed_at (more j x) name) (length-more j x i)) 0)
    ∙ (λ i. unwrap_or (if last i then Some (length j) else last_below-same (changed_at (more j x) name) (changed_at j name) (length j) (changed-more j x name) i) 0)
    ∙ by (opens_segment x || not (same_switch (switch_named j name) (switch_named (more j x) name)))
  where
    last : changed_at (more j x) name (length j) ≡ (opens_segment x || not (same_switch (switch_named j name) (switch_named (more j x) name)))
    last = (λ i. option_map_or opens_segment (get-last j x i) false || not (same_switch (switch_named (take-before j x i) name) (switch_named (through-last j x i) name)))

    by : (b : Bool) → unwrap_or (if b then Some (length j) else last_below (changed_at j name) (length j)) 0 ≡ (if b then length j else name_switched_at j name)
    by true = refl
    by false = refl

pub name-switched-within : (j : Journal) (name : Text) → HasEntry j → name_switched_at j name < length j
name-switched-within [] name h = absurd h
name-switched-within (e ∷ es) name h = omega (arith, last_below-within (changed_at (e ∷ es) name) (length (e ∷ es)))

-- LAW: such an entry is not the latest that changed the switch
pub switched-left : (j : Journal) (x : Entry) (a : ℕ) → HasEntry j → turning x ≡ Turning.Leaves → opens_segment x ≡ false → switched_at (more j x) a ≡ switched_at j a
switched-left j x a h leaves opens =
    (let name : Text = name_of (units j) a in
    (λ i. name_switched_at (more j x) (name_of (sym (units-more j x h (leaves-none x leaves)) i) a))
    ∙ (λ i. unwrap_or (last_below (changed_at (more j x) name) (length-more j x i)) 0)
    ∙ (λ i. unwrap_or (if changed-last j x name h leaves opens i then Some (length j) else last_below-same (changed_at (more j x) name) (changed_at j name) (length j) (changed-more j x name) i) 0))

pub switched-within : (j : Journal) (a : ℕ) → HasEntry j → switched_at j a < length j
switched-within [] a h = absurd h
switched-within (e ∷ es) a h = omega (arith, last_below-within (changed_at (e ∷ es) (name_of (units (e ∷ es)) a)) (length (e ∷ es)))
