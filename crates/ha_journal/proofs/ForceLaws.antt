-- What is in force with one more entry: an entry that is no Reload changes nothing of it, and a number has its unit for ever.
use Rattle.std.proofs.Common.{◌≡◌, ℕ, suc, ◌+◌, ◌<◌, ◌≤◌, List, [], ◌∷◌, ◌++◌, length, take, drop, map, Bool, true, false, refl, sym, ap, subst, ◌∙◌, arith, append_assoc, length-append, Option}
use Rattle.std.specs.Prelude.{Some, None, slice_get, fold, ◌||◌}
use Rattle.std.specs.List.{enumerate_from}
use Rattle.std.specs.Option.{option_map_or}
use Rattle.std.proofs.lemmas.List.{take-append-drop, take-take}
use Rattle.ha_config.specs.declared.config.Automation.{Automation}
use Rattle.ha_config.specs.declared.config.Config.{Config}
use Rattle.ha_config.specs.declared.config.Script.{Script}
use Rattle.ha_config.specs.Equality.{same_automation, same_script}
use Rattle.ha_config.specs.Names.{names_of, unit_of}
use Rattle.ha_config.specs.Numbered.{AreUnits, has_number, keeps_number, numbered}
use Rattle.ha_config.specs.Units.{as_unit}
use Rattle.ha_config.specs.Words.{Text}
use Rattle.ha_config.proofs.EqualityLemmas.{rule-sound, script-sound}
use Rattle.ha_config.proofs.ListLemmas.{append-nil}
use Rattle.ha_config.proofs.NumberedLemmas.{get-front, kept-numbers, length-front, map-itself, number-below, numbered-are, units-front, units-numbered, units-opened}
use Rattle.ha_journal.specs.declared.entry.Entry.{Entry}
use Rattle.ha_journal.specs.Entries.{Opening, boot_of, reload_in}
use Rattle.ha_journal.specs.Force.{Force, first_force, force, force_after, has_unit, in_place_of, new_rules, new_scripts, nothing, opened, reloaded}
use Rattle.ha_journal.specs.Journal.{HasEntry, Journal, automations, configured, helpers, in_force, more, names, scripts, scripts_in, through, units}

fold-snoc : {A B : Type 0} (f : B → A → B) (b : B) (xs : List A) (x : A) → fold f b (xs ++ (x ∷ [])) ≡ f (fold f b xs) x
fold-snoc f b [] x = refl
fold-snoc f b (y ∷ ys) x = fold-snoc f (f b y) ys x

-- ---- with one more entry

-- LAW: what is in force with one more entry
pub force-more : (j : Journal) (x : Entry) → HasEntry j → force (more j x) ≡ force_after (force j) x
force-more [] x h = absurd h
force-more (e ∷ es) x h = fold-snoc force_after (first_force e) es x

-- LAW: an entry that is no Reload changes nothing of it
pub force-still : (j : Journal) (x : Entry) → HasEntry j → reload_in x ≡ None → force j ≡ force (more j x)
force-still j x h none = sym (force-more j x h ∙ (λ i. option_map_or (reloaded (force j)) (none i) (force j)))

pub configured-more : (j : Journal) (x : Entry) → HasEntry j → reload_in x ≡ None → configured j ≡ configured (more j x)
configured-more j x h none = ap (λ (f : Force). f.config) (force-still j x h none)

pub automations-more : (j : Journal) (x : Entry) → HasEntry j → reload_in x ≡ None → automations j ≡ automations (more j x)
automations-more j x h none = ap (λ (f : Force). f.config.automations) (force-still j x h none)

pub scripts-more : (j : Journal) (x : Entry) → HasEntry j → reload_in x ≡ None → scripts j ≡ scripts (more j x)
scripts-more j x h none = ap (λ (f : Force). f.config.scripts) (force-still j x h none)

pub in-force-more : (j : Journal) (x : Entry) → HasEntry j → reload_in x ≡ None → in_force j ≡ in_force (more j x)
in-force-more j x h none = ap (λ (f : Force). f.rules) (force-still j x h none)

pub scripts-in-more : (j : Journal) (x : Entry) → HasEntry j → reload_in x ≡ None → scripts_in j ≡ scripts_in (more j x)
scripts-in-more j x h none = (λ i. map {A = ℕ × Script} {B = Text × ℕ} (λ p. (p.1.name, p.0)) (force-still j x h none i).scripts)

pub units-more : (j : Journal) (x : Entry) → HasEntry j → reload_in x ≡ None → units j ≡ units (more j x)
units-more j x h none = ap (λ (f : Force). f.units) (force-still j x h none)

pub names-more : (j : Journal) (x : Entry) → HasEntry j → reload_in x ≡ None → names j ≡ names (more j x)
names-more j x h none = ap names_of (units-more j x h none)

-- no entry changes the helpers
helpers-after : (f : Force) (x : Entry) → (force_after f x).config.helpers ≡ f.config.helpers
helpers-after f x = by (reload_in x)
  where
    by : (o : Option Config) → (option_map_or (reloaded f) o f).config.helpers ≡ f.config.helpers
    by None = refl
    by (Some c) = refl

helpers-kept : (f : Force) (es : List Entry) → (fold force_after f es).config.helpers ≡ f.config.helpers
helpers-kept f [] = refl
helpers-kept f (x ∷ es) = helpers-kept (force_after f x) es ∙ helpers-after f x

helpers-first : (o : Option Opening) → (option_map_or (λ b. opened b.config) o nothing).config.helpers ≡ option_map_or (λ b. b.config.helpers) o []
helpers-first None = refl
helpers-first (Some b) = refl

-- LAW: the configuration in force has the helpers of the Boot
pub helpers-are : (j : Journal) → (configured j).helpers ≡ helpers j
helpers-are [] = refl
helpers-are (e ∷ es) = helpers-kept (first_force e) es ∙ helpers-first (boot_of e)

-- LAW: the configuration in force after a Reload is the one that it brings
pub force-reloaded : (j : Journal) (x : Entry) (c : Config) → HasEntry j → reload_in x ≡ Some c → force (more j x) ≡ reloaded (force j) c
force-reloaded j x c h e = force-more j x h ∙ (λ i. option_map_or (reloaded (force j)) (e i) (force j))

pub configured-reloaded : (j : Journal) (x : Entry) (c : Config) → HasEntry j → reload_in x ≡ Some c → configured (more j x) ≡ in_place_of (configured j) c
configured-reloaded j x c h e = ap (λ (f : Force). f.config) (force-reloaded j x c h e)

-- ---- a number has its unit for ever

-- what a Reload brings, behind the units that were
abbrev pub entered : Force → Option Config → List Automation
entered f c = option_map_or (λ k. new_rules f k ++ map as_unit (new_scripts f k)) c []

units-after : (f : Force) (c : Option Config) → (option_map_or (reloaded f) c f).units ≡ f.units ++ entered f c
units-after f (Some k) = append_assoc f.units (new_rules f k) (map as_unit (new_scripts f k))
units-after f None = sym (append-nil f.units)

-- LAW: the units that were in force at some time stand in front of those that an entry brings
pub units-grow : (j : Journal) (x : Entry) → HasEntry j → units (more j x) ≡ units j ++ entered (force j) (reload_in x)
units-grow j x h = ap (λ (f : Force). f.units) (force-more j x h) ∙ units-after (force j) (reload_in x)

-- LAW: a number has the same unit in every longer journal
pub unit-more : (j : Journal) (x : Entry) (a : ℕ) → a < length (units j) → unit_of (units (more j x)) a ≡ unit_of (units j) a
unit-more [] x a lt = absurd (omega (arith, lt))
unit-more (e ∷ es) x a lt =
    ap (λ (us : List Automation). slice_get us a) (units-grow (e ∷ es) x tt) ∙ get-front (units (e ∷ es)) (entered (force (e ∷ es)) (reload_in x)) a lt

pub more-units : (j : Journal) (x : Entry) → length (units j) ≤ length (units (more j x))
more-units [] x = omega arith
more-units (e ∷ es) x =
    subst (λ (us : List Automation). length (units (e ∷ es)) ≤ length us) (sym (units-grow (e ∷ es) x tt)) (length-front (units (e ∷ es)) (entered (force (e ∷ es)) (reload_in x)))

-- LAW: so it is behind any more entries
pub unit-longer : (j behind : Journal) (a : ℕ) → a < length (units j) → unit_of (units (j ++ behind)) a ≡ unit_of (units j) a
unit-longer j [] a lt = (λ i. unit_of (units (append-nil j i)) a)
unit-longer j (x ∷ xs) a lt =
    (λ i. unit_of (units (sym (append_assoc j (x ∷ []) xs) i)) a)
    ∙ unit-longer (more j x) xs a (omega (arith, lt, more-units j x))
    ∙ unit-more j x a lt

pub units-longer : (j behind : Journal) → length (units j) ≤ length (units (j ++ behind))
units-longer j [] = subst (λ (l : Journal). length (units j) ≤ length (units l)) (sym (append-nil j)) (omega arith)
units-longer j (x ∷ xs) =
    subst (λ (l : Journal). length (units j) ≤ length (units l)) (append_assoc j (x ∷ []) xs) (omega (arith, more-units j x, units-longer (more j x) xs))

-- LAW: a number that was known at a place has its unit there
pub unit-front : (k : Journal) (m a : ℕ) → a < length (units (take m k)) → unit_of (units k) a ≡ unit_of (units (take m k)) a
unit-front k m a lt = (λ i. unit_of (units (sym (take-append-drop m k) i)) a) ∙ unit-longer (take m k) (drop m k) a lt

pub front-units : (k : Journal) (m : ℕ) → length (units (take m k)) ≤ length (units k)
front-units k m = subst (λ (l : Journal). length (units (take m k)) ≤ length (units l)) (take-append-drop m k) (units-longer (take m k) (drop m k))

pub unit-between : (k : Journal) (p q a : ℕ) → p ≤ q → a < length (units (through k p)) → unit_of (units (through k q)) a ≡ unit_of (units k) a
unit-between k p q a le lt =
    let cut : take (suc p) (through k q) ≡ through k p = take-take (suc p) (suc q) k (omega (arith, le)) in
    unit-front (through k q) (suc p) a (subst (λ (l : Journal). a < length (units l)) (sym cut) lt)
    ∙ (λ i. unit_of (units (cut i)) a)
    ∙ sym (unit-front k (suc p) a lt)

-- ---- the numbers of those in force

-- each automation and each script in force has its number among the units
abbrev pub IsNumbered : Force → Type 0
IsNumbered f = AreUnits (λ (x : Automation). x) f.units f.rules × AreUnits as_unit f.units f.scripts

opened-numbered : (c : Config) → IsNumbered (opened c)
opened-numbered c =
    let rules : AreUnits (λ (x : Automation). x) c.automations (enumerate_from 0 c.automations)
    = subst (λ (us : List Automation). AreUnits (λ (x : Automation). x) us (enumerate_from 0 c.automations)) (map-itself c.automations) (units-opened (λ (x : Automation). x) [] c.automations 0 refl) in
    (units-front (λ (x : Automation). x) c.automations (map as_unit c.scripts) (enumerate_from 0 c.automations) rules, units-opened as_unit c.automations c.scripts (length c.automations) refl)

reloaded-numbered : (f : Force) (c : Config) → IsNumbered f → IsNumbered (reloaded f c)
reloaded-numbered f c h =
    let us : List Automation = f.units ++ new_rules f c in
    let behind : List Automation = map as_unit (new_scripts f c) in
    let rules : AreUnits (λ (x : Automation). x) us (numbered same_automation f.rules (length f.units) c.automations)
    = subst (λ (new : List Automation). AreUnits (λ (x : Automation). x) (f.units ++ new) (numbered same_automation f.rules (length f.units) c.automations)) (map-itself (new_rules f c))
    (units-numbered (λ (x : Automation). x) same_automation rule-sound f.units f.rules (length f.units) c.automations refl h.0) in
    let scripts : AreUnits as_unit (us ++ behind) (numbered same_script f.scripts (length f.units + length (new_rules f c)) c.scripts)
    = units-numbered as_unit same_script script-sound us f.scripts (length f.units + length (new_rules f c)) c.scripts (length-append f.units (new_rules f c))
    (units-front as_unit f.units (new_rules f c) f.scripts h.1) in
    (units-front (λ (x : Automation). x) us behind (numbered same_automation f.rules (length f.units) c.automations) rules, scripts)

numbered-after : (f : Force) (o : Option Config) → IsNumbered f → IsNumbered (option_map_or (reloaded f) o f)
numbered-after f None h = h
numbered-after f (Some c) h = reloaded-numbered f c h

numbered-fold : (f : Force) (es : List Entry) → IsNumbered f → IsNumbered (fold force_after f es)
numbered-fold f [] h = h
numbered-fold f (e ∷ es) h = numbered-fold (force_after f e) es (numbered-after f (reload_in e) h)

numbered-first : (o : Option Opening) → IsNumbered (option_map_or (λ b. opened b.config) o nothing)
numbered-first None = (tt, tt)
numbered-first (Some b) = opened-numbered b.config

pub is-numbered : (j : Journal) → IsNumbered (force j)
is-numbered [] = (tt, tt)
is-numbered (e ∷ es) = numbered-fold (first_force e) es (numbered-first (boot_of e))

-- LAW: each automation in force has its number among all units, and so has each script
pub in-force-units : (j : Journal) → AreUnits (λ (x : Automation). x) (units j) (in_force j)
in-force-units j = (is-numbered j).0

pub scripts-units : (j : Journal) → AreUnits as_unit (units j) (force j).scripts
scripts-units j = (is-numbered j).1

-- LAW: what is in force is one of the units
pub in-force-below : (j : Journal) (a : ℕ) → has_unit (force j) a ≡ true → a < length (units j)
in-force-below j a h = by (has_number (in_force j) a) refl h
  where
    by : (b : Bool) → has_number (in_force j) a ≡ b → (b || has_number (force j).scripts a) ≡ true → a < length (units j)
    by true e h = number-below (λ (x : Automation). x) (units j) (in_force j) a (in-force-units j) e
    by false e h = number-below as_unit (units j) (force j).scripts a (scripts-units j) h

-- ---- the configuration in force

numbers-off : {A : Type 0} (n : ℕ) (xs : List A) → map {A = ℕ × A} {B = A} (λ p. p.1) (enumerate_from n xs) ≡ xs
numbers-off n [] = refl
numbers-off n (x ∷ xs) = ap (λ l. x ∷ l) (numbers-off (n + 1) xs)

-- without their numbers the automations in force are those of the configuration, and so are the scripts
abbrev IsConfigured : Force → Type 0
IsConfigured f =
    (map {A = ℕ × Automation} {B = Automation} (λ p. p.1) f.rules ≡ f.config.automations)
    × (map {A = ℕ × Script} {B = Script} (λ p. p.1) f.scripts ≡ f.config.scripts)

configured-after : (f : Force) (o : Option Config) → IsConfigured f → IsConfigured (option_map_or (reloaded f) o f)
configured-after f None h = h
configured-after f (Some c) h = (
  numbered-are same_automation f.rules (length f.units) c.automations,
  numbered-are same_script f.scripts (length f.units + length (new_rules f c)) c.scripts,
)

configured-fold : (f : Force) (es : List Entry) → IsConfigured f → IsConfigured (fold force_after f es)
configured-fold f [] h = h
configured-fold f (e ∷ es) h = configured-fold (force_after f e) es (configured-after f (reload_in e) h)

configured-first : (o : Option Opening) → IsConfigured (option_map_or (λ b. opened b.config) o nothing)
configured-first None = (refl, refl)
configured-first (Some b) = (numbers-off 0 b.config.automations, numbers-off (length b.config.automations) b.config.scripts)

is-configured : (j : Journal) → IsConfigured (force j)
is-configured [] = (refl, refl)
is-configured (e ∷ es) = configured-fold (first_force e) es (configured-first (boot_of e))

-- LAW: the automations in force are those of the configuration in force, in its order, and so are the scripts
pub in-force-are : (j : Journal) → map {A = ℕ × Automation} {B = Automation} (λ p. p.1) (in_force j) ≡ automations j
in-force-are j = (is-configured j).0

pub scripts-are : (j : Journal) → map {A = ℕ × Script} {B = Script} (λ p. p.1) (force j).scripts ≡ scripts j
scripts-are j = (is-configured j).1

-- ---- which numbers are kept

-- LAW: of the numbers that were there those are in force after a Reload that a unit of its configuration keeps
pub kept-in-force : (f : Force) (c : Config) (n : ℕ) → n < length f.units
    → has_unit (reloaded f c) n ≡ (keeps_number same_automation f.rules c.automations n || keeps_number same_script f.scripts c.scripts n)
kept-in-force f c n lt =
    let rules = kept-numbers same_automation f.rules (length f.units) c.automations n lt in
    let scripts = kept-numbers same_script f.scripts (length f.units + length (new_rules f c)) c.scripts n (omega (arith, lt)) in
    (λ i. rules i || scripts i)
