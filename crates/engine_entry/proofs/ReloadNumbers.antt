-- The numbers of what comes into force with a Reload, by the plan.
use Rattle.std.proofs.Common.{◌≡◌, ℕ, suc, ◌+◌, ◌<◌, ◌≤◌, ◌⊎◌, inl, inr, List, [], ◌∷◌, ◌++◌, length, map, filter, take, drop, Bool, true, false, refl, sym, ap, subst, ◌∙◌, rules, arith, Option, append_assoc, length-append}
use Rattle.std.specs.Prelude.{Some, None, not, nat_eq, nat_lt, zip, ◌&&◌, ◌||◌, if◌then◌else◌}
use Rattle.std.specs.List.{enumerate_from, list_any}
use Rattle.std.specs.Option.{option_map_or}
use Rattle.ha_config.specs.declared.config.Automation.{Automation}
use Rattle.ha_config.specs.declared.config.Config.{Config}
use Rattle.ha_config.specs.declared.config.Script.{Script}
use Rattle.ha_config.specs.Equality.{same_automation, same_script}
use Rattle.ha_config.specs.Numbered.{AreUnits, fresh, has_number, keeps_number, kept_number, numbered}
use Rattle.ha_config.specs.Units.{as_unit}
use Rattle.ha_config.proofs.ListLemmas.{append-nil, true-false}
use Rattle.ha_config.proofs.NumberedLemmas.{fresh-kept, fresh-new, kept-numbers, kept-there, number-below, numbered-kept, numbered-new}
use Rattle.ha_journal.specs.declared.entry.Entry.{Entry}
use Rattle.ha_journal.specs.Entries.{Opening, boot_of, reload_in}
use Rattle.ha_journal.specs.Force.{Force, IsAlike, force, new_rules, new_scripts, nothing, opened, reloaded}
use Rattle.ha_journal.specs.Journal.{HasEntry, Journal, automations, configured, in_force, more, units}
use Rattle.ha_journal.proofs.ForceLaws.{force-more, force-reloaded, in-force-are, in-force-units, scripts-are, scripts-units}
use Rattle.conf_reload.specs.declared.outcome.Plan.{Plan}
use Rattle.conf_reload.specs.Plan.{IsPlan, gone_of, numbers_of, rule_numbers as rules_first, rules_in, script_numbers as scripts_behind, scripts_in}
use Rattle.engine_parts.specs.Numbers.{numbers_in, rule_numbers}
use Rattle.engine_parts.proofs.ViewLemmas.{drop-front, take-front, zip-all}
use Rattle.engine_entry.proofs.PlaceLemmas.{eq-of}

less-of : (a b : ℕ) → nat_lt a b ≡ true → a < b
less-of a b e = search (rules, e)

-- ---- where a number comes from

-- LAW: a number that comes into force is an old one, or one of the new ones
pub numbered-where : {A : Type 0} (equal : A → A → Bool) (old : List (ℕ × A)) (free : ℕ) (ys : List A) (m : ℕ) → has_number (numbered equal old free ys) m ≡ true
    → (has_number old m ≡ true) ⊎ ((free ≤ m) × (m < free + length (fresh equal old ys)))
numbered-where equal old free [] m h = absurd (true-false (sym h))
numbered-where {A} equal old free (y ∷ ys) m h = by (kept_number equal old y) refl (numbered-where equal old free ys m) (numbered-where equal old (suc free) ys m)
  where
    here : (n : ℕ) (rest : List (ℕ × A)) → has_number ((n, y) ∷ rest) m ≡ true → (n ≡ m) ⊎ (has_number rest m ≡ true)
    here n rest e = tested (nat_eq n m) refl e
      where
        tested : (b : Bool) → nat_eq n m ≡ b → (b || has_number rest m) ≡ true → (n ≡ m) ⊎ (has_number rest m ≡ true)
        tested true is f = inl (eq-of n m is)
        tested false is f = inr f

    by : (o : Option ℕ) → kept_number equal old y ≡ o
        → (has_number (numbered equal old free ys) m ≡ true → (has_number old m ≡ true) ⊎ ((free ≤ m) × (m < free + length (fresh equal old ys))))
        → (has_number (numbered equal old (suc free) ys) m ≡ true → (has_number old m ≡ true) ⊎ ((suc free ≤ m) × (m < suc free + length (fresh equal old ys))))
        → (has_number old m ≡ true) ⊎ ((free ≤ m) × (m < free + length (fresh equal old (y ∷ ys))))
    by (Some n) e rest later = one (here n (numbered equal old free ys) (ap (λ (l : List (ℕ × A)). has_number l m) (sym (numbered-kept equal old free y ys n e)) ∙ h))
      where
        same : length (fresh equal old (y ∷ ys)) ≡ length (fresh equal old ys)
        same = ap (λ (l : List A). length l) (fresh-kept equal old y ys n e)

        wide : (has_number old m ≡ true) ⊎ ((free ≤ m) × (m < free + length (fresh equal old ys))) → (has_number old m ≡ true) ⊎ ((free ≤ m) × (m < free + length (fresh equal old (y ∷ ys))))
        wide (inl g) = inl g
        wide (inr g) = inr (g.0, omega (arith, g.1, same))

        one : (n ≡ m) ⊎ (has_number (numbered equal old free ys) m ≡ true) → (has_number old m ≡ true) ⊎ ((free ≤ m) × (m < free + length (fresh equal old (y ∷ ys))))
        one (inl is) = inl (subst (λ q. has_number old q ≡ true) is (kept-there equal old y n e))
        one (inr g) = wide (rest g)
    by None e rest later = one (here free (numbered equal old (suc free) ys) (ap (λ (l : List (ℕ × A)). has_number l m) (sym (numbered-new equal old free y ys e)) ∙ h))
      where
        longer : length (fresh equal old (y ∷ ys)) ≡ suc (length (fresh equal old ys))
        longer = ap (λ (l : List A). length l) (fresh-new equal old y ys e)

        wide : (has_number old m ≡ true) ⊎ ((suc free ≤ m) × (m < suc free + length (fresh equal old ys))) → (has_number old m ≡ true) ⊎ ((free ≤ m) × (m < free + length (fresh equal old (y ∷ ys))))
        wide (inl g) = inl g
        wide (inr g) = inr (omega (arith, g.0), omega (arith, g.1, longer))

        one : (free ≡ m) ⊎ (has_number (numbered equal old (suc free) ys) m ≡ true) → (has_number old m ≡ true) ⊎ ((free ≤ m) × (m < free + length (fresh equal old (y ∷ ys))))
        one (inl is) = inr (omega (arith, is), omega (arith, is, longer))
        one (inr g) = wide (later g)

enumerated-where : {A : Type 0} (n : ℕ) (xs : List A) (m : ℕ) → has_number (enumerate_from n xs) m ≡ true → (n ≤ m) × (m < n + length xs)
enumerated-where n [] m h = absurd (true-false (sym h))
enumerated-where n (x ∷ xs) m h = by (nat_eq n m) refl h (enumerated-where (n + 1) xs m)
  where
    by : (b : Bool) → nat_eq n m ≡ b → (b || has_number (enumerate_from (n + 1) xs) m) ≡ true → (has_number (enumerate_from (n + 1) xs) m ≡ true → (n + 1 ≤ m) × (m < n + 1 + length xs)) → (n ≤ m) × (m < n + suc (length xs))
    by true e f rest = (let is = eq-of n m e in (omega (arith, is), omega (arith, is)))
    by false e f rest = (let g = rest f in (omega (arith, g.0), omega (arith, g.1)))

-- ---- automations and scripts have different numbers

abbrev AreApart : Force → Type 0
AreApart f = (m : ℕ) → has_number f.rules m ≡ true → has_number f.scripts m ≡ false

opened-apart : (c : Config) → AreApart (opened c)
opened-apart c m h = by (has_number (enumerate_from (length c.automations) c.scripts) m) refl
  where
    by : (b : Bool) → has_number (enumerate_from (length c.automations) c.scripts) m ≡ b → b ≡ false
    by true g = (let low = enumerated-where 0 c.automations m h in let high = enumerated-where (length c.automations) c.scripts m g in absurd (omega (arith, low.1, high.0)))
    by false g = refl

reloaded-apart : (f : Force) (c : Config) → AreUnits (λ (x : Automation). x) f.units f.rules → AreUnits as_unit f.units f.scripts → AreApart f → AreApart (reloaded f c)
reloaded-apart f c rules scripts apart m h = by (has_number (numbered same_script f.scripts (length f.units + length (new_rules f c)) c.scripts) m) refl
  where
    one : (has_number f.rules m ≡ true) ⊎ ((length f.units ≤ m) × (m < length f.units + length (fresh same_automation f.rules c.automations)))
        → (has_number f.scripts m ≡ true) ⊎ ((length f.units + length (new_rules f c) ≤ m) × (m < length f.units + length (new_rules f c) + length (fresh same_script f.scripts c.scripts))) → ⊥
    one (inl a) (inl b) = absurd (true-false (sym b ∙ apart m a))
    one (inl a) (inr b) = (let low = number-below (λ (x : Automation). x) f.units f.rules m rules a in absurd (omega (arith, low, b.0)))
    one (inr a) (inl b) = (let low = number-below as_unit f.units f.scripts m scripts b in absurd (omega (arith, low, a.0)))
    one (inr a) (inr b) = absurd (omega (arith, a.1, b.0))

    by : (b : Bool) → has_number (numbered same_script f.scripts (length f.units + length (new_rules f c)) c.scripts) m ≡ b → b ≡ false
    by true g = absurd (one (numbered-where same_automation f.rules (length f.units) c.automations m h) (numbered-where same_script f.scripts (length f.units + length (new_rules f c)) c.scripts m g))
    by false g = refl

after-apart : (f : Force) (o : Option Config) → AreUnits (λ (x : Automation). x) f.units f.rules → AreUnits as_unit f.units f.scripts → AreApart f → AreApart (option_map_or (reloaded f) o f)
after-apart f None rules scripts apart = apart
after-apart f (Some c) rules scripts apart = reloaded-apart f c rules scripts apart

more-apart : (j : Journal) (x : Entry) → HasEntry j → AreApart (force j) → AreApart (force (more j x))
more-apart j x some apart = subst AreApart (sym (force-more j x some)) (after-apart (force j) (reload_in x) (in-force-units j) (scripts-units j) apart)

longer-apart : (j : Journal) (es : List Entry) → HasEntry j → AreApart (force j) → AreApart (force (j ++ es))
longer-apart j [] some apart = subst (λ (l : Journal). AreApart (force l)) (sym (append-nil j)) apart
longer-apart j (x ∷ xs) some apart =
    subst (λ (l : Journal). AreApart (force l)) (append_assoc j (x ∷ []) xs) (longer-apart (more j x) xs (has j some) (more-apart j x some apart))
  where
    has : (l : Journal) → HasEntry l → HasEntry (more l x)
    has [] h = absurd h
    has (y ∷ ys) h = tt

-- LAW: no script in force has the number of an automation in force
pub are-apart : (j : Journal) (m : ℕ) → has_number (in_force j) m ≡ true → has_number (force j).scripts m ≡ false
are-apart [] m h = refl
are-apart (e ∷ es) m h = longer-apart (e ∷ []) es tt (λ n g. by (boot_of e) refl n g) m h
  where
    by : (o : Option Opening) → boot_of e ≡ o → AreApart (option_map_or (λ b. opened b.config) o nothing)
    by None q n g = refl
    by (Some b) q n g = opened-apart b.config n g

-- ---- which numbers go

abbrev pub among : ℕ → List ℕ → Bool
among m ns = list_any (λ n. nat_eq n m) ns

-- of numbers that are picked by a test one is there where it was there, and is picked
picked-any : (test : ℕ → Bool) (ns : List ℕ) (m : ℕ) → among m (filter test ns) ≡ (test m && among m ns)
picked-any test [] m = none (test m)
  where
    none : (b : Bool) → false ≡ (b && false)
    none true = refl
    none false = refl
picked-any test (n ∷ ns) m = by (test n) refl (nat_eq n m) refl (picked-any test ns m)
  where
    both : (b : Bool) → (b && true) ≡ b
    both true = refl
    both false = refl

    here : (b : Bool) → nat_eq n m ≡ true → test n ≡ b → test m ≡ b
    here b is picks = ap test (sym (eq-of n m is)) ∙ picks

    by : (b : Bool) → test n ≡ b → (c : Bool) → nat_eq n m ≡ c → among m (filter test ns) ≡ (test m && among m ns)
        → among m (if b then n ∷ filter test ns else filter test ns) ≡ (test m && (c || among m ns))
    by true picks true is rest = (λ i. is i || among m (filter test ns)) ∙ sym (here true is picks) ∙ sym (both (test m))
    by true picks false is rest = (λ i. is i || among m (filter test ns)) ∙ rest
    by false picks true is rest = rest ∙ (λ i. here false is picks i && among m ns) ∙ sym (here false is picks) ∙ sym (both (test m))
    by false picks false is rest = rest

append-any : (m : ℕ) (xs ys : List ℕ) → among m (xs ++ ys) ≡ (among m xs || among m ys)
append-any m [] ys = refl
append-any m (x ∷ xs) ys = by (nat_eq x m) (append-any m xs ys)
  where
    by : (b : Bool) → among m (xs ++ ys) ≡ (among m xs || among m ys) → (b || among m (xs ++ ys)) ≡ ((b || among m xs) || among m ys)
    by true e = refl
    by false e = e

pub any-number : {A : Type 0} (ps : List (ℕ × A)) (m : ℕ) → among m (map {A = ℕ × A} {B = ℕ} (λ p. p.0) ps) ≡ has_number ps m
any-number [] m = refl
any-number (p ∷ ps) m = ap (λ b. nat_eq p.0 m || b) (any-number ps m)

-- a number goes where it is in force, and none keeps it
gone-any : {A : Type 0} (equal : A → A → Bool) (ps : List (ℕ × A)) (ys : List A) (m : ℕ)
    → among m (gone_of equal ps (map {A = ℕ × A} {B = ℕ} (λ p. p.0) ps) ys) ≡ (not (keeps_number equal ps ys m) && has_number ps m)
gone-any {A} equal ps ys m =
    picked-any (λ n. not (keeps_number equal ps ys n)) (map {A = ℕ × A} {B = ℕ} (λ p. p.0) ps) m ∙ ap (λ b. not (keeps_number equal ps ys m) && b) (any-number ps m)

-- ---- what the plan says

module _ (j : Journal) (old new : Config) (numbers : List ℕ) (free : ℕ) (plan : Plan) (named : numbers ≡ numbers_in j) (is : IsAlike old (configured j)) (planned : IsPlan old numbers free new plan) where
  rules-same : old.automations ≡ map {A = ℕ × Automation} {B = Automation} (λ p. p.1) (in_force j)
  rules-same = ap (λ (c : Config). c.automations) is ∙ sym (in-force-are j)

  scripts-same : old.scripts ≡ map {A = ℕ × Script} {B = Script} (λ p. p.1) (force j).scripts
  scripts-same = ap (λ (c : Config). c.scripts) is ∙ sym (scripts-are j)

  abbrev own_scripts : List ℕ
  own_scripts = map {A = ℕ × Script} {B = ℕ} (λ p. p.0) (force j).scripts

  first-are : rules_first old numbers ≡ rule_numbers j
  first-are = (λ i. take (length (rules-same i)) (named i)) ∙ take-front (in_force j) own_scripts

  behind-are : scripts_behind old numbers ≡ own_scripts
  behind-are = (λ i. drop (length (rules-same i)) (named i)) ∙ drop-front (in_force j) own_scripts

  rules-are : rules_in old numbers ≡ in_force j
  rules-are = (λ i. zip (first-are i) (rules-same i)) ∙ zip-all (in_force j)

  in-scripts : scripts_in old numbers ≡ (force j).scripts
  in-scripts = (λ i. zip (behind-are i) (scripts-same i)) ∙ zip-all (force j).scripts

  -- LAW: a number goes where it is an automation's, or a script's, that none keeps
  pub gone-are : (m : ℕ) → among m plan.gone
      ≡ ((not (keeps_number same_automation (in_force j) new.automations m) && has_number (in_force j) m)
      || (not (keeps_number same_script (force j).scripts new.scripts m) && has_number (force j).scripts m))
  gone-are m =
      ap (among m) planned.gone_are
      ∙ (λ i. among m (gone_of same_automation (rules-are i) (first-are i) new.automations ++ gone_of same_script (in-scripts i) (behind-are i) new.scripts))
      ∙ append-any m (gone_of same_automation (in_force j) (rule_numbers j) new.automations) (gone_of same_script (force j).scripts own_scripts new.scripts)
      ∙ (λ i. gone-any same_automation (in_force j) new.automations m i || gone-any same_script (force j).scripts new.scripts m i)

  module _ (x : Entry) (some : HasEntry j) (reloads : reload_in x ≡ Some new) (free_is : free ≡ length (units j)) where
    -- LAW: its numbers are those behind the Reload, and so is the next free one
    pub numbers-behind : plan.numbers ≡ numbers_in (more j x)
    numbers-behind =
        planned.numbers_are
        ∙ (λ i. numbers_of (numbered same_automation (rules-are i) (free_is i) new.automations)
        ++ numbers_of (numbered same_script (in-scripts i) (free_is i + length (fresh same_automation (rules-are i) new.automations)) new.scripts))
        ∙ (λ i. map {A = ℕ × Automation} {B = ℕ} (λ p. p.0) (sym (force-reloaded j x new some reloads) i).rules ++ map {A = ℕ × Script} {B = ℕ} (λ p. p.0) (sym (force-reloaded j x new some reloads) i).scripts)

    pub free-behind : plan.free ≡ length (units (more j x))
    free-behind =
        planned.free_is
        ∙ (λ i. free_is i + length (fresh same_automation (rules-are i) new.automations) + length (fresh same_script (in-scripts i) new.scripts))
        ∙ counted
        ∙ (λ i. length (sym (force-reloaded j x new some reloads) i).units)
      where
        mapped : (ss : List Script) → length (map as_unit ss) ≡ length ss
        mapped [] = refl
        mapped (s ∷ ss) = ap suc (mapped ss)

        counted : length (units j) + length (new_rules (force j) new) + length (new_scripts (force j) new) ≡ length ((units j ++ new_rules (force j) new) ++ map as_unit (new_scripts (force j) new))
        counted =
            let all = length-append (units j ++ new_rules (force j) new) (map as_unit (new_scripts (force j) new)) in
            let rules = length-append (units j) (new_rules (force j) new) in
            let scripts = mapped (new_scripts (force j) new) in
            omega (arith, all, rules, scripts)

    -- LAW: those in force behind it are the new automations with these numbers
    pub rules-behind : in_force (more j x) ≡ numbered same_automation (in_force j) (length (units j)) new.automations
    rules-behind = (λ i. (force-reloaded j x new some reloads i).rules)

    -- LAW: of the old numbers those are in force that one keeps
    pub kept-behind : (m : ℕ) → m < length (units j) → has_number (in_force (more j x)) m ≡ keeps_number same_automation (in_force j) new.automations m
    kept-behind m lt = (λ i. has_number (rules-behind i) m) ∙ kept-numbers same_automation (in_force j) (length (units j)) new.automations m lt

-- ---- a number that is kept was there

-- LAW: so it is
pub keeps-there : {A : Type 0} (equal : A → A → Bool) (old : List (ℕ × A)) (ys : List A) (m : ℕ) → keeps_number equal old ys m ≡ true → has_number old m ≡ true
keeps-there equal old [] m h = absurd (true-false (sym h))
keeps-there {A} equal old (y ∷ ys) m h = by (kept_number equal old y) refl h (keeps-there equal old ys m)
  where
    by : (o : Option ℕ) → kept_number equal old y ≡ o → (option_map_or (λ n. nat_eq n m) o false || keeps_number equal old ys m) ≡ true
        → (keeps_number equal old ys m ≡ true → has_number old m ≡ true) → has_number old m ≡ true
    by None e f rest = rest f
    by (Some n) e f rest = tested (nat_eq n m) refl f
      where
        tested : (b : Bool) → nat_eq n m ≡ b → (b || keeps_number equal old ys m) ≡ true → has_number old m ≡ true
        tested true at g = subst (λ q. has_number old q ≡ true) (eq-of n m at) (kept-there equal old y n e)
        tested false at g = rest g

-- LAW: what is kept goes not, and of what was in force what is not kept goes
pub gone-kept : (j : Journal) (old new : Config) (numbers : List ℕ) (free : ℕ) (plan : Plan) → numbers ≡ numbers_in j → IsAlike old (configured j) → IsPlan old numbers free new plan
    → (m : ℕ) → keeps_number same_automation (in_force j) new.automations m ≡ true → among m plan.gone ≡ false
gone-kept j old new numbers free plan named is planned m keeps =
    (let there = keeps-there same_automation (in_force j) new.automations m keeps in
    gone-are j old new numbers free plan named is planned m
    ∙ (λ i. (not (keeps i) && has_number (in_force j) m) || (not (keeps_number same_script (force j).scripts new.scripts m) && are-apart j m there i))
    ∙ none (not (keeps_number same_script (force j).scripts new.scripts m)))
  where
    none : (b : Bool) → (false || (b && false)) ≡ false
    none true = refl
    none false = refl

pub gone-lost : (j : Journal) (old new : Config) (numbers : List ℕ) (free : ℕ) (plan : Plan) → numbers ≡ numbers_in j → IsAlike old (configured j) → IsPlan old numbers free new plan
    → (m : ℕ) → has_number (in_force j) m ≡ true → keeps_number same_automation (in_force j) new.automations m ≡ false → among m plan.gone ≡ true
gone-lost j old new numbers free plan named is planned m there lost =
    gone-are j old new numbers free plan named is planned m
    ∙ (λ i. (not (lost i) && there i) || (not (keeps_number same_script (force j).scripts new.scripts m) && has_number (force j).scripts m))
