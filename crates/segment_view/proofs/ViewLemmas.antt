-- What is seen of a segment as it lies in the flat list.
use Rattle.std.proofs.Common.{◌≡◌, ℕ, zero, suc, ◌+◌, ◌-◌, ◌<◌, ◌≤◌, List, [], ◌∷◌, ◌++◌, length, take, drop, Bool, true, false, refl, sym, ap, subst, ◌∙◌, rules, arith, Option}
use Rattle.std.specs.Prelude.{map, nat_eq, slice_get, option_map, Some, None, ◌||◌}
use Rattle.std.specs.List.{list_any}
use Rattle.std.proofs.lemmas.Option.{slice_get-map}
use Rattle.std.specs.Option.{option_map_or}
use Rattle.ha_config.specs.declared.config.Automation.{Automation}
use Rattle.ha_config.specs.declared.config.Config.{Config}
use Rattle.ha_config.specs.declared.config.Script.{Script}
use Rattle.ha_config.specs.Names.{unit_of}
use Rattle.ha_config.specs.Numbered.{AreUnits, has_number}
use Rattle.ha_config.proofs.ListLemmas.{get-last, none-some, some-same, true-false}
use Rattle.ha_config.proofs.NumberedLemmas.{length-front}
use Rattle.ha_journal.specs.Force.{force}
use Rattle.ha_journal.specs.Journal.{HasEntry, Journal, configured, helpers, in_force, more, units}
use Rattle.ha_journal.proofs.ForceLaws.{helpers-are, in-force-are, in-force-units}
use Rattle.ha_journal.specs.declared.carry.Carry.{Carry}
use Rattle.ha_journal.specs.declared.entry.Entry.{Entry}
use Rattle.ha_journal.specs.declared.entry.Entry.TheVariants.{Boot, Line, Step, Again}
use Rattle.ha_config.specs.Words.{Text}
use Rattle.ha_journal.specs.Entries.{IsBoot, Opening, Reopening, again_in, boot_of, step_of}
use Rattle.ha_whole.specs.Segments.{boot_again, counted_from}
use Rattle.unit_book.specs.declared.book.UnitBook.{UnitBook}
use Rattle.unit_book.specs.Book.{Holds, config_at}
use Rattle.segment_view.specs.Views.{HasBoot, IsHeld, IsShown, IsStepper, seen_at, seen_behind, seen_from, stands, step_at}

pub length-seen : (boot : Entry) (config : Config) (opening : Entry) (settled : List Entry) (base : ℕ) → length settled + 1 ≡ length (seen_behind boot config opening settled base)
length-seen boot config opening settled base = omega (arith, length-counted settled)
  where
    length-counted : (xs : List Entry) → length (map {A = Entry} {B = Entry} (counted_from base) xs) ≡ length xs
    length-counted [] = refl
    length-counted (x ∷ xs) = omega (arith, length-counted xs)

equal-self : (a : ℕ) → nat_eq a a ≡ true
equal-self a = search rules

behind-at : (boot : Entry) (config : Config) (opening : Entry) (settled : List Entry) (base p s : ℕ) → (p ≡ 0 → ⊥)
    → step_at (seen_behind boot config opening settled base) s p ≡ option_map_or (λ x. option_map_or (λ t. nat_eq t.serial s) (step_of x) false) (option_map (counted_from base) (slice_get settled (p - 1))) false
behind-at boot config opening settled base zero s h = absurd (h refl)
behind-at boot config opening settled base (suc p) s h =
    let e : p ≡ suc p - 1 = omega arith in
    (λ i. option_map_or (λ x. option_map_or (λ t. nat_eq t.serial s) (step_of x) false) (slice_get-map (counted_from base) settled p i) false)
    ∙ (λ i. option_map_or (λ x. option_map_or (λ t. nat_eq t.serial s) (step_of x) false) (option_map (counted_from base) (slice_get settled (e i))) false)

-- a Boot is one with its fields
pub no-other : (x : Entry) → IsBoot x → ((text : Text) (config : Config) (stored : Option (List (Text × Bool))) (start : ℕ) (zone : Text) (carry : Carry) → x ≡ Boot text config stored start zone carry → ⊥) → ⊥
no-other (Boot text config stored start zone carry) h f = f text config stored start zone carry refl
no-other (Line source number cmd) h f = h
no-other (Step worker serial branch item) h f = h
no-other (Again number start stored carry) h f = h

-- ---- the run whose Step stands at a place

abbrev told : ℕ → ℕ → Option Entry → Bool
told base s o = option_map_or (λ x. option_map_or (λ t. nat_eq t.serial s) (step_of x) false) (option_map (counted_from base) o) false

abbrev pub IsTold : ℕ → Option Entry → Option ℕ → Type 0
IsTold base o None = (s : ℕ) → told base s o ≡ false
IsTold base o (Some r) = told base r o ≡ true

pub told-none : (base : ℕ) → IsTold base None None
told-none base s = refl

pub told-some : (base : ℕ) (x : Entry) → IsTold base (Some x) (option_map (λ s. s.serial - base) (step_of x))
told-some base (Boot text config stored start zone carry) = λ s. refl
told-some base (Line source number cmd) = λ s. refl
told-some base (Step worker serial branch item) = equal-self (serial - base)
told-some base (Again number start stored carry) = λ s. refl

-- LAW: it is told by the entries behind the opening
pub stepper-behind : (boot : Entry) (config : Config) (opening : Entry) (settled : List Entry) (base p : ℕ) → (p ≡ 0 → ⊥) → (o : Option Entry) → slice_get settled (p - 1) ≡ o
    → (r : Option ℕ) → IsTold base o r → IsStepper (seen_behind boot config opening settled base) p r
stepper-behind boot config opening settled base p h o is None t = λ s. behind-at boot config opening settled base p s h ∙ (λ i. told base s (is i)) ∙ t s
stepper-behind boot config opening settled base p h o is (Some r) t = behind-at boot config opening settled base p r h ∙ (λ i. told base r (is i)) ∙ t

-- LAW: an opening is no Step
pub stepper-first : (boot : Entry) (config : Config) (opening : Entry) (settled : List Entry) (base : ℕ) → IsBoot boot → IsStepper (seen_behind boot config opening settled base) 0 None
stepper-first (Boot text config stored start zone carry) given (Boot text' config' stored' start' zone' carry') settled base h s = refl
stepper-first (Boot text config stored start zone carry) given (Line source number cmd) settled base h s = refl
stepper-first (Boot text config stored start zone carry) given (Step worker serial branch item) settled base h s = refl
stepper-first (Boot text config stored start zone carry) given (Again number start' stored' carry') settled base h s = refl
stepper-first (Line source number cmd) given opening settled base h s = absurd h
stepper-first (Step worker serial branch item) given opening settled base h s = absurd h
stepper-first (Again number start stored carry) given opening settled base h s = absurd h

-- ---- the automations in force by their numbers

pair-at : (us : List Automation) (ps : List (ℕ × Automation)) (at n : ℕ) (x : Automation) → AreUnits (λ (y : Automation). y) us ps
    → slice_get (map {A = ℕ × Automation} {B = ℕ} (λ p. p.0) ps) at ≡ Some n → slice_get (map {A = ℕ × Automation} {B = Automation} (λ p. p.1) ps) at ≡ Some x → unit_of us n ≡ Some x
pair-at us [] at n x h here there = absurd (none-some n here)
pair-at us (p ∷ ps) zero n x h here there = subst (λ m. unit_of us m ≡ Some x) (some-same p.0 n here) (h.0 ∙ there)
pair-at us (p ∷ ps) (suc at) n x h here there = pair-at us ps at n x h.1 here there

numbers-any : (ps : List (ℕ × Automation)) (n : ℕ) → list_any (λ m. nat_eq m n) (map {A = ℕ × Automation} {B = ℕ} (λ p. p.0) ps) ≡ has_number ps n
numbers-any [] n = refl
numbers-any (p ∷ ps) n = ap (λ b. nat_eq p.0 n || b) (numbers-any ps n)

pairs-length : (ps : List (ℕ × Automation)) → length (map {A = ℕ × Automation} {B = ℕ} (λ p. p.0) ps) ≡ length (map {A = ℕ × Automation} {B = Automation} (λ p. p.1) ps)
pairs-length [] = refl
pairs-length (p ∷ ps) = ap suc (pairs-length ps)

take-whole : {X : Type 0} (xs ys : List X) (n : ℕ) → n ≡ length xs → take n (xs ++ ys) ≡ xs
take-whole {X} xs ys n e = (λ i. take (e i) (xs ++ ys)) ∙ whole xs
  where
    whole : (zs : List X) → take (length zs) (zs ++ ys) ≡ zs
    whole [] = refl
    whole (z ∷ zs) = ap (λ l. z ∷ l) (whole zs)

-- the numbers of the automations stand first
pub rule-numbers : (j : Journal) (config : Config) (numbers : List ℕ) (n : ℕ) → IsShown j config numbers → n ≡ length config.automations
    → take n numbers ≡ map {A = ℕ × Automation} {B = ℕ} (λ p. p.0) (in_force j)
rule-numbers j config numbers n h is =
    let ps : List (ℕ × Automation) = in_force j in
    let count : n ≡ length (map {A = ℕ × Automation} {B = ℕ} (λ p. p.0) ps)
    = is ∙ ap (λ (c : Config). length c.automations) h.config_is ∙ ap length (sym (in-force-are j)) ∙ sym (pairs-length ps) in
    ap (take n) h.numbers_are ∙ take-whole (map {A = ℕ × Automation} {B = ℕ} (λ p. p.0) ps) (map {A = ℕ × Script} {B = ℕ} (λ p. p.0) (force j).scripts) n count

-- LAW: where a number stands among these, the automation of the number stands in the configuration
pub rule-there : (j : Journal) (config : Config) (numbers : List ℕ) (n at a : ℕ) (x : Automation) → IsShown j config numbers → n ≡ length config.automations
    → slice_get (take n numbers) at ≡ Some a → slice_get config.automations at ≡ Some x → unit_of (units j) a ≡ Some x
rule-there j config numbers n at a x h is here there =
    pair-at (units j) (in_force j) at a x (in-force-units j)
    ((λ i. slice_get (sym (rule-numbers j config numbers n h is) i) at) ∙ here)
    ((λ i. slice_get ((in-force-are j ∙ ap (λ (c : Config). c.automations) (sym h.config_is)) i) at) ∙ there)

-- LAW: and where it stands nowhere, no automation in force has it
pub rule-missing : (j : Journal) (config : Config) (numbers : List ℕ) (n a : ℕ) → IsShown j config numbers → n ≡ length config.automations
    → list_any (λ m. nat_eq m a) (take n numbers) ≡ false → has_number (in_force j) a ≡ false
rule-missing j config numbers n a h is none =
    sym (numbers-any (in_force j) a) ∙ (λ i. list_any (λ m. nat_eq m a) (sym (rule-numbers j config numbers n h is) i)) ∙ none

pub rule-within : (j : Journal) (config : Config) (numbers : List ℕ) → IsShown j config numbers → length config.automations ≤ length numbers
rule-within j config numbers h =
    let ps : List (ℕ × Automation) = in_force j in
    let behind : List ℕ = map {A = ℕ × Script} {B = ℕ} (λ p. p.0) (force j).scripts in
    let count : length config.automations ≡ length (map {A = ℕ × Automation} {B = ℕ} (λ p. p.0) ps)
    = ap (λ (c : Config). length c.automations) h.config_is ∙ ap length (sym (in-force-are j)) ∙ sym (pairs-length ps) in
    let whole = ap length h.numbers_are in
    let front = length-front (map {A = ℕ × Automation} {B = ℕ} (λ p. p.0) ps) behind in
    omega (arith, count, whole, front)

-- ---- numbers by their places

eq-of : (a b : ℕ) → nat_eq a b ≡ true → a ≡ b
eq-of a b e = search (rules, e)

pub stands-there : (o : Option ℕ) (a : ℕ) → stands a o ≡ true → o ≡ Some a
stands-there None a e = absurd (true-false (sym e))
stands-there (Some m) a e = ap Some (eq-of m a e)

pub any-next : (xs : List ℕ) (n a : ℕ) → n < length xs → stands a (slice_get xs n) ≡ false → list_any (λ m. nat_eq m a) (drop (n + 1) xs) ≡ list_any (λ m. nat_eq m a) (drop n xs)
any-next xs n a lt e = (let one : n + 1 ≡ suc n = omega arith in λ i. list_any (λ m. nat_eq m a) (drop (one i) xs)) ∙ by xs n lt e
  where
    by : (ys : List ℕ) (k : ℕ) → k < length ys → stands a (slice_get ys k) ≡ false → list_any (λ m. nat_eq m a) (drop (suc k) ys) ≡ list_any (λ m. nat_eq m a) (drop k ys)
    by [] k lt e = absurd (omega (arith, lt))
    by (y ∷ ys) zero lt e = λ i. sym e i || list_any (λ m. nat_eq m a) ys
    by (y ∷ ys) (suc k) lt e = by ys k (omega (arith, lt)) e

pub any-past : (xs : List ℕ) (n a : ℕ) → length xs ≤ n → list_any (λ m. nat_eq m a) (drop n xs) ≡ false
any-past [] zero a le = refl
any-past [] (suc n) a le = refl
any-past (x ∷ xs) zero a le = absurd (omega (arith, le))
any-past (x ∷ xs) (suc n) a le = any-past xs n a (omega (arith, le))

pub within-taken : (xs : List ℕ) (n at a : ℕ) → slice_get (take n xs) at ≡ Some a → at < n
within-taken xs zero at a e = absurd (none-some a e)
within-taken [] (suc n) at a e = absurd (none-some a e)
within-taken (x ∷ xs) (suc n) zero a e = omega arith
within-taken (x ∷ xs) (suc n) (suc at) a e = (let rest = within-taken xs n at a e in omega (arith, rest))

-- ---- the last entry of all stands last

front-of : (j : Journal) (x : Entry) (n : ℕ) → n ≡ length j → take n (more j x) ≡ j
front-of j x n e = take-whole {X = Entry} j (x ∷ []) n e

last-of : (j : Journal) (x y : Entry) (n : ℕ) → n ≡ length j → slice_get (more j x) n ≡ Some y → y ≡ x
last-of j x y n e there = some-same y x (sym there ∙ (λ i. slice_get (more j x) (e i)) ∙ get-last j x)

has-more : (k : Journal) (x : Entry) → HasEntry (more k x)
has-more [] x = tt
has-more (y ∷ k) x = tt

pub last-at : (es : List Entry) (j : Journal) (x : Entry) → es ≡ more j x → length es - 1 ≡ length j
last-at es j x is = (let whole = ap length is in let one = by j in omega (arith, whole, one))
  where
    by : (l : Journal) → length (more l x) ≡ length l + 1
    by [] = omega arith
    by (y ∷ l) = omega (arith, by l)

-- LAW: the segment with the last entry, as it lies in the list
pub seen-last : (es : List Entry) (j k : Journal) (front base at : ℕ) (x y : Entry) → es ≡ more j x → at ≡ length j → k ≡ seen_at (take at es) front base → slice_get es at ≡ Some y
    → more k y ≡ more (seen_at j front base) x
seen-last es j k front base at x y is end seen there = λ i. more (entries i) (last i)
  where
    entries : k ≡ seen_at j front base
    entries = seen ∙ (λ i. seen_at (take at (is i)) front base) ∙ (λ i. seen_at (front-of j x at end i) front base)

    last : y ≡ x
    last = last-of j x y at end ((λ i. slice_get (sym is i) at) ∙ there)

pub held-last : (es : List Entry) (j k : Journal) (front base at : ℕ) (x y : Entry) (b : UnitBook) → es ≡ more j x → at ≡ length j → k ≡ seen_at (take at es) front base → slice_get es at ≡ Some y
    → Holds es (force (more (seen_at j front base) x)) b → IsHeld es (more k y) b
held-last es j k front base at x y b is end seen there holds = record {
  some = has-more k y;
  holds = subst (λ (l : Journal). Holds es (force l) b) (sym (seen-last es j k front base at x y is end seen there)) holds;
}

pub boot-front : (es : List Entry) (n : ℕ) → HasBoot es → 0 < n → HasBoot (take n es)
boot-front [] n h lt = absurd h
boot-front (e ∷ es) zero h lt = absurd (omega (arith, lt))
boot-front (e ∷ es) (suc n) h lt = h

pub length-taken : {X : Type 0} (xs : List X) (n : ℕ) → n ≤ length xs → length (take n xs) ≡ n
length-taken xs zero le = refl
length-taken [] (suc n) le = absurd (omega (arith, le))
length-taken (x ∷ xs) (suc n) le = (let rest = length-taken xs n (omega (arith, le)) in omega (arith, rest))

-- ---- the helpers of the boot

pub boot-config : (es : List Entry) → HasBoot es → (c : Config) × (config_at es 0 ≡ Some c)
boot-config [] h = absurd h
boot-config (Boot text config stored start zone carry ∷ es) h = (config, refl)
boot-config (Line source number cmd ∷ es) h = absurd h
boot-config (Step worker serial branch item ∷ es) h = absurd h
boot-config (Again number start stored carry ∷ es) h = absurd h

again-helpers : (b : Opening) (config : Config) (boot : Entry) → config.helpers ≡ b.config.helpers → boot_of boot ≡ Some b → (o : Option Reopening)
    → option_map_or (λ c. c.config.helpers) (boot_of (option_map_or (λ a. boot_again a b config) o boot)) [] ≡ b.config.helpers
again-helpers b config boot same is None = λ i. option_map_or (λ (c : Opening). c.config.helpers) (is i) []
again-helpers b config boot same is (Some a) = same

-- LAW: a segment has the helpers of the boot
pub helpers-seen : (es : List Entry) (front base : ℕ) (c : Config) → HasBoot es → front < length es → config_at es 0 ≡ Some c → c.helpers ≡ helpers (seen_at es front base)
helpers-seen [] front base c h lt e = absurd h
helpers-seen (Line source number cmd ∷ es) front base c h lt e = absurd h
helpers-seen (Step worker serial branch item ∷ es) front base c h lt e = absurd h
helpers-seen (Again number start stored carry ∷ es) front base c h lt e = absurd h
helpers-seen (Boot text config stored start zone carry ∷ es) zero base c h lt e = ap (λ (d : Config). d.helpers) (sym (some-same config c e))
helpers-seen (Boot text config stored start zone carry ∷ es) (suc n) base c h lt e = ap (λ (d : Config). d.helpers) (sym (some-same config c e)) ∙ by (drop n es) (left es n (omega (arith, lt)))
  where
    boot : Entry
    boot = Boot text config stored start zone carry

    before : Journal
    before = boot ∷ take n es

    left : (l : List Entry) (m : ℕ) → m < length l → 0 < length (drop m l)
    left [] m lt = absurd (omega (arith, lt))
    left (x ∷ l) zero lt = omega arith
    left (x ∷ l) (suc m) lt = left l m (omega (arith, lt))

    by : (l : List Entry) → 0 < length l → config.helpers ≡ helpers (seen_from boot (configured before) l base)
    by [] lt = absurd (omega (arith, lt))
    by (x ∷ l) lt = sym (again-helpers (record { text = text; config = config; stored = stored; start = start; zone = zone; carry = carry }) (configured before) boot (helpers-are before) refl (again_in x))
