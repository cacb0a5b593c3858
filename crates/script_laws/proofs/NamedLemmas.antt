-- Each automation and each script whose number a call's item names is one that its place sees.
use Rattle.std.proofs.Common.{◌≡◌, ◌∙◌, ℕ, Bool, true, false, List, [], ◌∷◌, map, refl, ap, rules, subst}
use Rattle.std.specs.Prelude.{Option, Some, None, Ok, Err, not, ◌&&◌, ◌||◌, filter_map, find, nat_eq, ok_or, option_map, codes, drop, if◌then◌else◌}
use Rattle.std.specs.List.{cons_option, list_all, starts_with}
use Rattle.std.specs.Option.{option_map_or}
use Rattle.ha_value.specs.declared.value.EntityId.{EntityId}
use Rattle.ha_config.specs.declared.template.Template.{Template}
use Rattle.ha_config.specs.declared.config.Form.{Form}
use Rattle.ha_config.specs.Words.{Pairs, Text, same}
use Rattle.ha_config.proofs.EqualLemmas.{and_left, and_right}
use Rattle.ha_config.proofs.ListLemmas.{none-some, some-same}
use Rattle.ha_sight.specs.declared.item.Item.{Item}
use Rattle.ha_sight.specs.declared.steps.Inner.{Inner}
use Rattle.ha_sight.specs.Calls.{Checked, automation_at, automations_of, call_item, checked_then, done_by, fields_of, flag_named, item_of, item_or_failed, service_of, switched_to, targets_of, template_fault, was_on}
use Rattle.ha_sight.specs.Inner.{Scripts, inner_of, inner_of_helpers, number_named, own_item, script_at, script_called, scripts_named, variables_in}
use Rattle.ha_sight.specs.Once.{each_number_once, without_number}
use Rattle.ha_sight.specs.Sight.{Automations, Sight}
use Rattle.script_laws.specs.Stands.{is_automation_in, is_script_in, names_in, sees_named}
use Rattle.script_laws.proofs.HelpedLemmas.{helped-cases}

-- ---- tests of lists

both : (a b : Bool) → a ≡ true → b ≡ true → (a && b) ≡ true
both true b p q = q
both false b p q = p

or-later : (a b : Bool) → b ≡ true → (a || b) ≡ true
or-later true b h = refl
or-later false b h = h

or-here : (m n : ℕ) (b : Bool) → m ≡ n → (nat_eq m n || b) ≡ true
or-here m n b e = (let h : nat_eq m n ≡ true = search (rules, e) in (λ i. h i || b))

module _ (test : ℕ → Bool) where
  all-without : (n : ℕ) (ns : List ℕ) → list_all test ns ≡ true → list_all test (without_number n ns) ≡ true
  all-without n [] h = refl
  all-without n (x ∷ xs) h = by (nat_eq n x) (all-without n xs (and_right (test x) (list_all test xs) h))
    where
      by : (b : Bool) → list_all test (without_number n xs) ≡ true → list_all test (if b then without_number n xs else x ∷ without_number n xs) ≡ true
      by true later = later
      by false later = both (test x) (list_all test (without_number n xs)) (and_left (test x) (list_all test xs) h) later

  all-once : (ns : List ℕ) → list_all test ns ≡ true → list_all test (each_number_once ns) ≡ true
  all-once [] h = refl
  all-once (n ∷ ns) h =
      both (test n) (list_all test (without_number n (each_number_once ns))) (and_left (test n) (list_all test ns) h)
      (all-without n (each_number_once ns) (all-once ns (and_right (test n) (list_all test ns) h)))

  -- numbers that are found pass the test where each one does
  all-found : {X : Type 0} (f : X → Option ℕ) → ((x : X) (n : ℕ) → f x ≡ Some n → test n ≡ true) → (xs : List X) → list_all test (filter_map f xs) ≡ true
  all-found f passes [] = refl
  all-found f passes (x ∷ xs) = by (f x) refl (all-found f passes xs)
    where
      by : (o : Option ℕ) → f x ≡ o → list_all test (filter_map f xs) ≡ true → list_all test (cons_option o (filter_map f xs)) ≡ true
      by None is later = later
      by (Some n) is later = both (test n) (list_all test (filter_map f xs)) (passes x n is) later

  all-switched : (f : ℕ → ℕ × Bool × Bool) → ((n : ℕ) → (f n).0 ≡ n) → (ns : List ℕ) → list_all test ns ≡ true → list_all (λ (t : ℕ × Bool × Bool). test t.0) (map f ns) ≡ true
  all-switched f own [] h = refl
  all-switched f own (n ∷ ns) h =
      both (test (f n).0) (list_all (λ (t : ℕ × Bool × Bool). test t.0) (map f ns)) (ap test (own n) ∙ and_left (test n) (list_all test ns) h)
      (all-switched f own ns (and_right (test n) (list_all test ns) h))

-- ---- what is named is there

script-named : (scripts : Scripts) (name : Text) (n : ℕ) → number_named scripts name ≡ Some n → is_script_in scripts n ≡ true
script-named [] name n e = absurd (none-some n e)
script-named (p ∷ ps) name n e = by (same p.0 name) e (script-named ps name n)
  where
    by : (b : Bool) → (if b then Some p.1 else number_named ps name) ≡ Some n → (number_named ps name ≡ Some n → is_script_in ps n ≡ true) → (nat_eq p.1 n || is_script_in ps n) ≡ true
    by true e later = or-here p.1 n (is_script_in ps n) (some-same p.1 n e)
    by false e later = or-later (nat_eq p.1 n) (is_script_in ps n) (later e)

script-target : (scripts : Scripts) (e : EntityId) (n : ℕ) → script_at scripts e ≡ Some n → is_script_in scripts n ≡ true
script-target scripts e n h = by (same e.domain (codes "script")) h
  where
    by : (b : Bool) → (if b then number_named scripts e.object else None) ≡ Some n → is_script_in scripts n ≡ true
    by true h = script-named scripts e.object n h
    by false h = absurd (none-some n h)

script-service : (scripts : Scripts) (service : Text) (n : ℕ) → script_called scripts service ≡ Some n → is_script_in scripts n ≡ true
script-service scripts service n h = by (starts_with nat_eq service (codes "script.")) h
  where
    by : (b : Bool) → (if b then number_named scripts (drop 7 service) else None) ≡ Some n → is_script_in scripts n ≡ true
    by true h = script-named scripts (drop 7 service) n h
    by false h = absurd (none-some n h)

scripts-in : (scripts : Scripts) (targets : List EntityId) → list_all (is_script_in scripts) (scripts_named scripts targets) ≡ true
scripts-in scripts targets =
    all-once (is_script_in scripts) (filter_map (script_at scripts) targets) (all-found (is_script_in scripts) (script_at scripts) (script-target scripts) targets)

automation-found : (test : ℕ × Text × Bool → Bool) (all : Automations) (p : ℕ × Text × Bool) → find test all ≡ Some p → is_automation_in all p.0 ≡ true
automation-found test [] p e = absurd (none-some p e)
automation-found test (q ∷ qs) p e = by (test q) e (automation-found test qs p)
  where
    by : (b : Bool) → (if b then Some q else find test qs) ≡ Some p → (find test qs ≡ Some p → is_automation_in qs p.0 ≡ true) → (nat_eq q.0 p.0 || is_automation_in qs p.0) ≡ true
    by true e later = or-here q.0 p.0 (is_automation_in qs p.0) (ap (λ (z : ℕ × Text × Bool). z.0) (some-same q p e))
    by false e later = or-later (nat_eq q.0 p.0) (is_automation_in qs p.0) (later e)

automation-target : (all : Automations) (e : EntityId) (n : ℕ) → automation_at all e ≡ Some n → is_automation_in all n ≡ true
automation-target all e n h = by (same e.domain (codes "automation")) h
  where
    found : (o : Option (ℕ × Text × Bool)) → find (λ (p : ℕ × Text × Bool). same p.1 e.object) all ≡ o → option_map (λ (p : ℕ × Text × Bool). p.0) o ≡ Some n → is_automation_in all n ≡ true
    found None is h = absurd (none-some n h)
    found (Some p) is h = subst (λ (m : ℕ). is_automation_in all m ≡ true) (some-same p.0 n h) (automation-found (λ (q : ℕ × Text × Bool). same q.1 e.object) all p is)

    by : (b : Bool) → (if b then option_map (λ (p : ℕ × Text × Bool). p.0) (find (λ (p : ℕ × Text × Bool). same p.1 e.object) all) else None) ≡ Some n → is_automation_in all n ≡ true
    by true h = found (find (λ (p : ℕ × Text × Bool). same p.1 e.object) all) refl h
    by false h = absurd (none-some n h)

automations-in : (all : Automations) (targets : List EntityId) → list_all (is_automation_in all) (automations_of all targets) ≡ true
automations-in all targets =
    all-once (is_automation_in all) (filter_map (automation_at all) targets) (all-found (is_automation_in all) (automation_at all) (automation-target all) targets)

-- ---- the items of calls

abbrev NamedIn : Automations → Scripts → Option Item → Type 0
NamedIn all scripts None = Unit {0}
NamedIn all scripts (Some item) = names_in all scripts item ≡ true

own-named : (all : Automations) (scripts : Scripts) (name : Text) (es : List EntityId) (ps : Pairs) → NamedIn all scripts (own_item scripts name es ps)
own-named all [] name es ps = tt
own-named all (s ∷ ss) name es ps =
    by (same name (codes "script.turn_on")) (same name (codes "script.turn_off")) (same name (codes "script.toggle")) (script_called (s ∷ ss) name) refl
  where
    by : (a b c : Bool) (o : Option ℕ) → script_called (s ∷ ss) name ≡ o → NamedIn all (s ∷ ss) (
        if a then Some (Item.Started (scripts_named (s ∷ ss) es) (variables_in ps) false)
        else if b then Some (Item.Halted (scripts_named (s ∷ ss) es))
        else if c then None
        else option_map (λ n. Item.Started (n ∷ []) ps true) o)
    by true b c o is = scripts-in (s ∷ ss) es
    by false true c o is = scripts-in (s ∷ ss) es
    by false false true o is = tt
    by false false false None is = tt
    by false false false (Some n) is = both (is_script_in (s ∷ ss) n) true (script-service (s ∷ ss) name n is) refl

outer-named : (all : Automations) (scripts : Scripts) (name : Text) (es : List EntityId) (ps : Pairs) → names_in all scripts (item_of all name es ps) ≡ true
outer-named all scripts name es ps =
    by (same name (codes "automation.turn_on")) (same name (codes "automation.turn_off")) (same name (codes "automation.toggle")) (same name (codes "automation.trigger"))
  where
    by : (a b c d : Bool) → names_in all scripts (
        if a then Item.Switched (map (switched_to true ps) (automations_of all es))
        else if b then Item.Switched (map (switched_to false ps) (automations_of all es))
        else if c then Item.Switched (map (λ n. switched_to (not (was_on all n)) ps n) (automations_of all es))
        else if d then Item.Triggered (automations_of all es) (flag_named (codes "skip_condition") ps)
        else Item.Call name es ps) ≡ true
    by true b c d = all-switched (is_automation_in all) (switched_to true ps) (λ n. refl) (automations_of all es) (automations-in all es)
    by false true c d = all-switched (is_automation_in all) (switched_to false ps) (λ n. refl) (automations_of all es) (automations-in all es)
    by false false true d = all-switched (is_automation_in all) (λ n. switched_to (not (was_on all n)) ps n) (λ n. refl) (automations_of all es) (automations-in all es)
    by false false false true = automations-in all es
    by false false false false = refl

-- LEMMA: what a call's item names is seen
pub call-sees : (s : Sight) (env : Pairs) (service : Template) (target : List Template) (fields : List (Text × Form)) → sees_named s (call_item s env service target fields) ≡ true
call-sees s env service target fields = by-service (service_of s env service)
  where
    by-own : (name : Text) (es : List EntityId) (ps : Pairs) (o : Option Item) → NamedIn s.automations s.scripts o
        → sees_named s (item_or_failed s env (done_by (option_map_or Inner.Does o (inner_of_helpers s name es ps)) (item_of s.automations name es ps))) ≡ true
    by-own name es ps None h =
        helped-cases s name es ps (item_of s.automations name es ps) (λ r. sees_named s (item_or_failed s env r) ≡ true)
        (outer-named s.automations s.scripts name es ps) (λ changes made. refl) (λ code. refl)
    by-own name es ps (Some item) h = h

    by-fields : (name : Text) (es : List EntityId) (r : Checked Pairs)
        → sees_named s (item_or_failed s env (checked_then (λ ps. done_by (inner_of s name es ps) (item_of s.automations name es ps)) r)) ≡ true
    by-fields name es (Ok ps) = by-own name es ps (own_item s.scripts name es ps) (own-named s.automations s.scripts name es ps)
    by-fields name es (Err code) = refl

    by-targets : (name : Text) (r : Checked (List EntityId))
        → sees_named s (item_or_failed s env (checked_then (λ es. checked_then (λ ps. done_by (inner_of s name es ps) (item_of s.automations name es ps)) (ok_or (fields_of s env fields) template_fault)) r)) ≡ true
    by-targets name (Ok es) = by-fields name es (ok_or (fields_of s env fields) template_fault)
    by-targets name (Err code) = refl

    by-service : (r : Checked Text)
        → sees_named s (item_or_failed s env (checked_then (λ n. checked_then (λ es. checked_then (λ ps. done_by (inner_of s n es ps) (item_of s.automations n es ps)) (ok_or (fields_of s env fields) template_fault)) (targets_of s env target)) r)) ≡ true
    by-service (Ok name) = by-targets name (targets_of s env target)
    by-service (Err code) = refl
