-- What the functions of the book need.
use Rattle.std.proofs.Common.{◌≡◌, ℕ, zero, suc, ◌+◌, ◌<◌, ◌≤◌, List, [], ◌∷◌, ◌++◌, length, drop, get_or, map, Bool, true, false, ◌&&◌, refl, sym, ap, ap₂, ◌∙◌, arith, drop-cons, true≢false}
use Rattle.std.specs.Prelude.{Option, Some, if◌then◌else◌, find, nat_eq, nat_le, option_map, slice_index_or, slice_set, zip}
use Rattle.std.specs.List.{enumerate_from, list_all}
use Rattle.std.proofs.lemmas.Bool.Decides.{nat_tests}
use Rattle.ha_value.specs.Ids.{is_name}
use Rattle.ha_config.specs.declared.config.Automation.{Automation}
use Rattle.ha_config.specs.Words.{Text, same}
use Rattle.ha_config.specs.ValueFacts.{all_distinct, keys_of}
use Rattle.ha_config.specs.Sound.{are_sound_automations, is_sound_automation, are_sound_actions}
use Rattle.ha_config.specs.Names.{names_of, stored_switch}
use Rattle.ha_config.proofs.ListLemmas.{append-nil}
use Rattle.ha_sight.specs.Sight.{Automations, switch_at}
use Rattle.store_text.specs.Store.{Switches, AreStorable, by_names}
use Rattle.switch_book.specs.Book.{Switch, each_from, goes_on, opening, reloaded, reset, restarted, restored, with_switch}

pub next-item : {X : Type 0} (xs : List X) (i : ℕ) (x : X) → i < length xs → x ≡ get_or xs i x → drop i xs ≡ x ∷ drop (suc i) xs
next-item xs i x lt is = drop-cons xs i x lt ∙ (λ k. sym is k ∷ drop (suc i) xs)

-- ---- the stored switch of a name, pair by pair

pub pair-found : (name : Text) (xs : Switches) (i : ℕ) (x : Text × Bool) → i < length xs → x ≡ get_or xs i x → same x.0 name ≡ true → Some x.1 ≡ stored_switch name (drop i xs)
pair-found name xs i x lt is e =
    (λ k. if sym e k then Some x.1 else stored_switch name (drop (suc i) xs)) ∙ (λ k. stored_switch name (sym (next-item xs i x lt is) k))

pub pair-passed : (name : Text) (xs : Switches) (i : ℕ) (x : Text × Bool) → i < length xs → x ≡ get_or xs i x → same x.0 name ≡ false → stored_switch name (drop (suc i) xs) ≡ stored_switch name (drop i xs)
pair-passed name xs i x lt is e =
    (λ k. if sym e k then Some x.1 else stored_switch name (drop (suc i) xs)) ∙ (λ k. stored_switch name (sym (next-item xs i x lt is) k))

-- ---- the switch of a name, and of a number, one by one

pub name-found : (name : Text) (xs : Automations) (i : ℕ) (x : Switch) → i < length xs → x ≡ get_or xs i x → same x.1 name ≡ true → Some x.2 ≡ stored_switch name (by_names (drop i xs))
name-found name xs i x lt is e =
    (λ k. if sym e k then Some x.2 else stored_switch name (by_names (drop (suc i) xs))) ∙ (λ k. stored_switch name (by_names (sym (next-item xs i x lt is) k)))

pub name-passed : (name : Text) (xs : Automations) (i : ℕ) (x : Switch) → i < length xs → x ≡ get_or xs i x → same x.1 name ≡ false
    → stored_switch name (by_names (drop (suc i) xs)) ≡ stored_switch name (by_names (drop i xs))
name-passed name xs i x lt is e =
    (λ k. if sym e k then Some x.2 else stored_switch name (by_names (drop (suc i) xs))) ∙ (λ k. stored_switch name (by_names (sym (next-item xs i x lt is) k)))

abbrev first_of : (b : Bool) → Switch → Automations → ℕ → Option Bool
first_of b x rest n = option_map {T = Switch} {U = Bool} (λ q. q.2) (if b then Some x else find (λ q. nat_eq q.0 n) rest)

pub number-found : (n : ℕ) (xs : Automations) (i : ℕ) (x : Switch) → i < length xs → x ≡ get_or xs i x → nat_eq x.0 n ≡ true → Some x.2 ≡ switch_at (drop i xs) n
number-found n xs i x lt is e =
    (λ k. first_of (sym e k) x (drop (suc i) xs) n) ∙ (λ k. switch_at (sym (next-item xs i x lt is) k) n)

pub number-passed : (n : ℕ) (xs : Automations) (i : ℕ) (x : Switch) → i < length xs → x ≡ get_or xs i x → nat_eq x.0 n ≡ false → switch_at (drop (suc i) xs) n ≡ switch_at (drop i xs) n
number-passed n xs i x lt is e =
    (λ k. first_of (sym e k) x (drop (suc i) xs) n) ∙ (λ k. switch_at (sym (next-item xs i x lt is) k) n)

-- ---- a list whose items are changed one after the other

-- the first k items are changed
abbrev pub each_to : {X : Type 0} → (ℕ → X → X) → ℕ → ℕ → List X → List X
each_to f n zero xs = xs
each_to f n (suc k) [] = []
each_to f n (suc k) (x ∷ xs) = f n x ∷ each_to f (suc n) k xs

pub to-length : {X : Type 0} (f : ℕ → X → X) (n k : ℕ) (xs : List X) → length (each_to f n k xs) ≡ length xs
to-length f n zero xs = refl
to-length f n (suc k) [] = refl
to-length f n (suc k) (x ∷ xs) = ap suc (to-length f (suc n) k xs)

to-all : {X : Type 0} (f : ℕ → X → X) (n k : ℕ) (xs : List X) → length xs ≤ k → each_to f n k xs ≡ each_from f n xs
to-all f n zero [] le = refl
to-all f n zero (x ∷ xs) le = absurd (omega (arith, le))
to-all f n (suc k) [] le = refl
to-all f n (suc k) (x ∷ xs) le = λ i. f n x ∷ to-all f (suc n) k xs (omega (arith, le)) i

to-next : {X : Type 0} (f : ℕ → X → X) (n k : ℕ) (xs : List X) (p : X) → k < length xs → p ≡ slice_index_or (each_to f n k xs) k p
    → slice_set (each_to f n k xs) k (f (n + k) p) ≡ each_to f n (suc k) xs
to-next f n k [] p lt is = absurd (omega (arith, lt))
to-next f n zero (x ∷ xs) p lt is = (let e : n + 0 ≡ n = omega arith in λ i. f (e i) (is i) ∷ xs)
to-next f n (suc k) (x ∷ xs) p lt is =
    (let e : n + suc k ≡ suc n + k = omega arith in
    (λ i. f n x ∷ slice_set (each_to f (suc n) k xs) k (f (e i) p))
    ∙ (λ i. f n x ∷ to-next f (suc n) k xs p (omega (arith, lt)) is i))

item-at : {X : Type 0} (xs : List X) (k : ℕ) → k < length xs → (p : X) × (p ≡ slice_index_or xs k p)
item-at [] k lt = absurd (omega (arith, lt))
item-at (x ∷ xs) zero lt = (x, refl)
item-at (x ∷ xs) (suc k) lt = item-at xs k (omega (arith, lt))

-- LAW: one more is changed
pub one-changed : {X : Type 0} (f : ℕ → X → X) (k : ℕ) (xs old new : List X) → k < length old → old ≡ each_to f 0 k xs
    → ((p : X) → p ≡ slice_index_or old k p → new ≡ slice_set old k (f k p)) → new ≡ each_to f 0 (k + 1) xs
one-changed f k xs old new lt before change =
    (let one = item-at old k lt in
    let within : k < length xs = omega (arith, lt, ap length before, to-length f 0 k xs) in
    let zero-plus : k ≡ 0 + k = omega arith in
    let more : suc k ≡ k + 1 = omega arith in
    change one.0 one.1
    ∙ (λ i. slice_set (before i) k (f (zero-plus i) one.0))
    ∙ to-next f 0 k xs one.0 within (one.1 ∙ (λ i. slice_index_or (before i) k one.0))
    ∙ (λ i. each_to f 0 (more i) xs))

-- LAW: then all are
pub all-changed : {X : Type 0} (f : ℕ → X → X) (k : ℕ) (xs old : List X) → length old ≤ k → old ≡ each_to f 0 k xs → old ≡ each_from f 0 xs
all-changed f k xs old past before = before ∙ to-all f 0 k xs (omega (arith, past, ap length before, to-length f 0 k xs))

each-mapped : {X : Type 0} (f : X → X) (n : ℕ) (xs : List X) → each_from (λ _. f) n xs ≡ map f xs
each-mapped f n [] = refl
each-mapped f n (x ∷ xs) = λ i. f x ∷ each-mapped f (suc n) xs i

pub all-mapped : {X : Type 0} (f : X → X) (k : ℕ) (xs old : List X) → length old ≤ k → old ≡ each_to (λ _. f) 0 k xs → old ≡ map f xs
all-mapped f k xs old past before = all-changed (λ _. f) k xs old past before ∙ each-mapped f 0 xs

-- ---- what is made one by one

snoc-append : {X : Type 0} (xs : List X) (x : X) (ys : List X) → (xs ++ (x ∷ [])) ++ ys ≡ xs ++ (x ∷ ys)
snoc-append [] x ys = refl
snoc-append (y ∷ xs) x ys = λ i. y ∷ snoc-append xs x ys i

pub drop-past : {X : Type 0} (k : ℕ) (xs : List X) → length xs ≤ k → drop k xs ≡ []
drop-past zero [] le = refl
drop-past zero (x ∷ xs) le = absurd (omega (arith, le))
drop-past (suc k) [] le = refl
drop-past (suc k) (x ∷ xs) le = drop-past k xs (omega (arith, le))

module _ (stored : Option Switches) (all : List Automation) where
  abbrev pub left_at : ℕ → Automations
  left_at n = map {A = ℕ × Automation} {B = Switch} (λ p. (p.0, p.1.name, opening stored p.1)) (enumerate_from n (drop n all))

  -- LAW: one more is opened
  pub opened-more : (n : ℕ) (x : Automation) (old new : Automations) → n < length all → x ≡ get_or all n x → old ++ left_at n ≡ restored stored all
      → new ≡ old ++ ((n, x.name, opening stored x) ∷ []) → new ++ left_at (n + 1) ≡ restored stored all
  opened-more n x old new lt is before made =
      (let more : n + 1 ≡ suc n = omega arith in
      (λ i. made i ++ map {A = ℕ × Automation} {B = Switch} (λ p. (p.0, p.1.name, opening stored p.1)) (enumerate_from (n + 1) (drop (more i) all)))
      ∙ snoc-append old (n, x.name, opening stored x) _
      ∙ (λ i. old ++ map {A = ℕ × Automation} {B = Switch} (λ p. (p.0, p.1.name, opening stored p.1)) (enumerate_from n (sym (next-item all n x lt is) i)))
      ∙ before)

  -- LAW: then all are
  pub opened-done : (n : ℕ) (made : Automations) → length all ≤ n → made ++ left_at n ≡ restored stored all → made ≡ restored stored all
  opened-done n made past before =
      sym (append-nil made)
      ∙ (λ i. made ++ map {A = ℕ × Automation} {B = Switch} (λ p. (p.0, p.1.name, opening stored p.1)) (enumerate_from n (sym (drop-past n all past) i)))
      ∙ before

pub number-there : (ns : List ℕ) (n a : ℕ) → n < length ns → a ≡ get_or ns n 0 → a ≡ get_or ns n a
number-there [] n a lt is = absurd (omega (arith, lt))
number-there (x ∷ ns) zero a lt is = is
number-there (x ∷ ns) (suc n) a lt is = number-there ns n a (omega (arith, lt)) is

module _ (s : Automations) (numbers : List ℕ) (all : List Automation) where
  abbrev pub behind_at : ℕ → Automations
  behind_at n = reloaded s (zip (drop n numbers) (drop n all))

  -- LAW: one more comes into force
  pub entered-more : (n a : ℕ) (x : Automation) (old new : Automations) → n < length all → length all ≤ length numbers → a ≡ get_or numbers n a → x ≡ get_or all n x
      → old ++ behind_at n ≡ reloaded s (zip numbers all) → new ≡ old ++ ((a, x.name, goes_on s (a, x)) ∷ []) → new ++ behind_at (n + 1) ≡ reloaded s (zip numbers all)
  entered-more n a x old new lt le number is before made =
      (let more : n + 1 ≡ suc n = omega arith in
      (λ i. made i ++ reloaded s (zip (drop (more i) numbers) (drop (more i) all)))
      ∙ snoc-append old (a, x.name, goes_on s (a, x)) _
      ∙ (λ i. old ++ reloaded s (zip (sym (next-item numbers n a (omega (arith, lt, le)) number) i) (sym (next-item all n x lt is) i)))
      ∙ before)

  zip-none : (ns : List ℕ) (xs : List Automation) → length xs ≤ 0 → zip ns xs ≡ []
  zip-none [] xs le = refl
  zip-none (n ∷ ns) [] le = refl
  zip-none (n ∷ ns) (x ∷ xs) le = absurd (omega (arith, le))

  -- LAW: then all do
  pub entered-done : (n : ℕ) (made : Automations) → length all ≤ n → made ++ behind_at n ≡ reloaded s (zip numbers all) → made ≡ reloaded s (zip numbers all)
  entered-done n made past before =
      sym (append-nil made)
      ∙ (λ i. made ++ reloaded s (sym (zip-none (drop n numbers) (drop n all) (omega (arith, ap length (drop-past n all past)))) i))
      ∙ before

-- ---- names that are stored

first : (a b : Bool) → (a && b) ≡ true → a ≡ true
first true b h = refl
first false b h = absurd (true≢false (sym h))

second : (a b : Bool) → (a && b) ≡ true → b ≡ true
second true b h = h
second false b h = absurd (true≢false (sym h))

named : (x : Automation) → is_sound_automation x ≡ true → is_name x.name ≡ true
named x h = first (is_name x.name) _ (first _ _ (first _ _ (first _ _ (first _ (are_sound_actions x.actions) h))))

pub all-named : (all : List Automation) → list_all is_sound_automation all ≡ true → list_all is_name (names_of all) ≡ true
all-named [] h = refl
all-named (x ∷ xs) h = ap₂ ◌&&◌ (named x (first (is_sound_automation x) (list_all is_sound_automation xs) h)) (all-named xs (second (is_sound_automation x) (list_all is_sound_automation xs) h))

names-opened : (stored : Option Switches) (n : ℕ) (all : List Automation)
    → keys_of (by_names (map {A = ℕ × Automation} {B = Switch} (λ p. (p.0, p.1.name, opening stored p.1)) (enumerate_from n all))) ≡ names_of all
names-opened stored n [] = refl
names-opened stored n (x ∷ xs) = λ i. x.name ∷ names-opened stored (n + 1) xs i

names-entered : (s : Automations) (numbers : List ℕ) (all : List Automation) → length all ≤ length numbers → keys_of (by_names (reloaded s (zip numbers all))) ≡ names_of all
names-entered s [] [] le = refl
names-entered s (n ∷ ns) [] le = refl
names-entered s [] (x ∷ xs) le = absurd (omega (arith, le))
names-entered s (n ∷ ns) (x ∷ xs) le = λ i. x.name ∷ names-entered s ns xs (omega (arith, le)) i

-- LAW: the names of sound automations can be stored
pub storable-named : (all : List Automation) (s : Switches) → are_sound_automations all ≡ true → keys_of s ≡ names_of all → AreStorable s
storable-named all s h names = record {
  distinct = ap all_distinct names ∙ second _ (all_distinct (names_of all)) (first _ (list_all is_sound_automation all) h);
  ids = ap (list_all is_name) names ∙ all-named all (second _ (list_all is_sound_automation all) h);
}

pub storable-restored : (all : List Automation) (stored : Option Switches) → are_sound_automations all ≡ true → AreStorable (by_names (restored stored all))
storable-restored all stored h = storable-named all (by_names (restored stored all)) h (names-opened stored 0 all)

pub storable-reloaded : (all : List Automation) (s : Automations) (numbers : List ℕ) → are_sound_automations all ≡ true → length all ≤ length numbers → AreStorable (by_names (reloaded s (zip numbers all)))
storable-reloaded all s numbers h le = storable-named all (by_names (reloaded s (zip numbers all))) h (names-entered s numbers all le)

within : (m n : ℕ) → nat_le m n ≡ true → m ≤ n
within m n h = grind (arith, nat_tests)

-- LAW: there are no more than so many sound automations
pub few-automations : (all : List Automation) → are_sound_automations all ≡ true → length all ≤ 1_024
few-automations all h = within (length all) 1_024 (first _ (all_distinct (names_of all)) (first _ (list_all is_sound_automation all) h))

-- ---- names stay where switches change

names-turned : (a : ℕ) (on : Bool) (s : Automations) → keys_of (by_names (with_switch a on s)) ≡ keys_of (by_names s)
names-turned a on [] = refl
names-turned a on (p ∷ s) = λ i. p.1 ∷ names-turned a on s i

storable-same : (s t : Switches) → keys_of t ≡ keys_of s → AreStorable s → AreStorable t
storable-same s t e h = record { distinct = ap all_distinct e ∙ h.distinct; ids = ap (list_all is_name) e ∙ h.ids }

pub storable-turned : (a : ℕ) (on : Bool) (s : Automations) → AreStorable (by_names s) → AreStorable (by_names (with_switch a on s))
storable-turned a on s h = storable-same (by_names s) (by_names (with_switch a on s)) (names-turned a on s) h

names-reset : (all : List Automation) (n : ℕ) (s : Automations) → keys_of (by_names (each_from (reset all) n s)) ≡ keys_of (by_names s)
names-reset all n [] = refl
names-reset all n (p ∷ s) = λ i. p.1 ∷ names-reset all (suc n) s i

pub storable-restarted : (all : List Automation) (s : Automations) → AreStorable (by_names s) → AreStorable (by_names (restarted all s))
storable-restarted all s h = storable-same (by_names s) (by_names (restarted all s)) (names-reset all 0 s) h
