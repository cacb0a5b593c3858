-- Lists that are made item by item, and what a book has where a configuration comes into force.
use Rattle.std.proofs.Common.{◌≡◌, ℕ, zero, suc, ◌+◌, ◌<◌, ◌≤◌, List, [], ◌∷◌, ◌++◌, length, map, take, drop, get_or, Bool, true, false, refl, sym, ap, subst, ◌∙◌, arith}
use Rattle.std.specs.Prelude.{Some, nat_lt, slice_get, option_and_then, if◌then◌else◌}
use Rattle.std.specs.Option.{option_map_or}
use Rattle.ha_config.specs.declared.config.Automation.{Automation}
use Rattle.ha_config.specs.declared.config.Config.{Config}
use Rattle.ha_config.specs.Names.{names_of, unit_of}
use Rattle.ha_config.specs.Units.{as_unit, units_of}
use Rattle.ha_config.specs.Words.{Text, same}
use Rattle.ha_config.proofs.ListLemmas.{get-last, none-some, some-same}
use Rattle.ha_journal.specs.declared.entry.Entry.{Entry}
use Rattle.ha_journal.specs.declared.entry.Entry.TheVariants.{Boot, Line, Step, Again}
use Rattle.ha_journal.specs.Entries.{reload_in}
use Rattle.ha_journal.specs.Force.{Force, force, new_rules, new_scripts, reloaded}
use Rattle.unit_book.specs.declared.book.UnitBook.{UnitBook}
use Rattle.unit_book.specs.Book.{AreAt, Origin, brought, config_at, config_in, first_from, firsts_of, unit_at}
use Rattle.unit_book.specs.Opens.{IsMade, Opens, Reloads}
use Rattle.unit_book.proofs.BookLemmas.{at-front, at-join, at-length}
use Rattle.unit_book.proofs.GrownLemmas.{brought-at, firsts-front, names-append, new-first, new-reloaded, new_units, numbers-many}

-- ---- one more item

next-mapped : {A B : Type 0} (f : A → B) (xs : List A) (n : ℕ) (d : A) → n < length xs → take (suc n) (map f xs) ≡ take n (map f xs) ++ (f (get_or xs n d) ∷ [])
next-mapped f [] n d lt = absurd (omega (arith, lt))
next-mapped f (x ∷ xs) zero d lt = refl
next-mapped f (x ∷ xs) (suc n) d lt = ap (λ l. f x ∷ l) (next-mapped f xs n d (omega (arith, lt)))

pub made-more : {A B : Type 0} (f : A → B) (xs : List A) (n : ℕ) (d : A) (old new : List B) (y : B) → n < length xs → old ≡ take n (map f xs) → y ≡ f (get_or xs n d) → new ≡ old ++ (y ∷ []) → new ≡ take (n + 1) (map f xs)
made-more f xs n d old new y lt before here is = is ∙ (λ i. before i ++ (here i ∷ [])) ∙ sym (next-mapped f xs n d lt) ∙ (let one : suc n ≡ n + 1 = omega arith in λ i. take (one i) (map f xs))

whole-mapped : {A B : Type 0} (f : A → B) (xs : List A) (n : ℕ) → length xs ≤ n → take n (map f xs) ≡ map f xs
whole-mapped f [] zero le = refl
whole-mapped f [] (suc n) le = refl
whole-mapped f (x ∷ xs) zero le = absurd (omega (arith, le))
whole-mapped f (x ∷ xs) (suc n) le = ap (λ l. f x ∷ l) (whole-mapped f xs n (omega (arith, le)))

pub made-done : {A B : Type 0} (f : A → B) (xs : List A) (n : ℕ) (made : List B) → length xs ≤ n → made ≡ take n (map f xs) → made ≡ map f xs
made-done f xs n made le is = is ∙ whole-mapped f xs n le

pub taken-more : {A : Type 0} (xs : List A) (n : ℕ) (d : A) (old new : List A) (y : A) → n < length xs → old ≡ take n xs → y ≡ get_or xs n d → new ≡ old ++ (y ∷ []) → new ≡ take (n + 1) xs
taken-more xs n d old new y lt before here is = is ∙ (λ i. before i ++ (here i ∷ [])) ∙ sym (next xs n d lt) ∙ (let one : suc n ≡ n + 1 = omega arith in λ i. take (one i) xs)
  where
    next : {A : Type 0} (xs : List A) (n : ℕ) (d : A) → n < length xs → take (suc n) xs ≡ take n xs ++ (get_or xs n d ∷ [])
    next [] n d lt = absurd (omega (arith, lt))
    next (x ∷ xs) zero d lt = refl
    next (x ∷ xs) (suc n) d lt = ap (λ l. x ∷ l) (next xs n d (omega (arith, lt)))

pub taken-all : {A : Type 0} (xs : List A) (n : ℕ) → length xs ≤ n → take n xs ≡ xs
taken-all [] zero le = refl
taken-all [] (suc n) le = refl
taken-all (x ∷ xs) zero le = absurd (omega (arith, le))
taken-all (x ∷ xs) (suc n) le = ap (λ l. x ∷ l) (taken-all xs n (omega (arith, le)))

-- ---- where units stand

brought-next : (place free at : ℕ) (ns : List ℕ) (n d : ℕ) → n < length ns
    → brought place free at (take (suc n) ns) ≡ brought place free at (take n ns) ++ (if nat_lt (get_or ns n d) free then [] else (place, at + n) ∷ [])
brought-next place free at [] n d lt = absurd (omega (arith, lt))
brought-next place free at (m ∷ ns) zero d lt = (let first : at + 0 ≡ at = omega arith in λ i. if nat_lt m free then [] else (place, sym first i) ∷ [])
brought-next place free at (m ∷ ns) (suc n) d lt =
    by _ _ _ (place, at) (nat_lt m free) (brought-next place free (suc at) ns n d (omega (arith, lt)) ∙ (let next : suc at + n ≡ at + suc n = omega arith in
    λ i. brought place free (suc at) (take n ns) ++ (if nat_lt (get_or ns n d) free then [] else (place, next i) ∷ [])))
  where
    by : (P Q R : List Origin) (o : Origin) (b : Bool) → P ≡ Q ++ R → (if b then P else o ∷ P) ≡ (if b then Q else o ∷ Q) ++ R
    by P Q R o true e = e
    by P Q R o false e = ap (λ l. o ∷ l) e

pub brought-more : (place free : ℕ) (ns : List ℕ) (n d : ℕ) → n < length ns
    → brought place free 0 (take (n + 1) ns) ≡ brought place free 0 (take n ns) ++ (if nat_lt (get_or ns n d) free then [] else (place, n) ∷ [])
brought-more place free ns n d lt =
    (let one : n + 1 ≡ suc n = omega arith in λ i. brought place free 0 (take (one i) ns)) ∙ brought-next place free 0 ns n d lt
    ∙ (let none : 0 + n ≡ n = omega arith in λ i. brought place free 0 (take n ns) ++ (if nat_lt (get_or ns n d) free then [] else (place, none i) ∷ []))

-- ---- the first of a name

pub first-step : (name : Text) (xs : List Text) (k n : ℕ) (d : Text) → n < length xs → first_from k name (drop n xs) ≡ if same (get_or xs n d) name then k else first_from (suc k) name (drop (suc n) xs)
first-step name [] k n d lt = absurd (omega (arith, lt))
first-step name (x ∷ xs) k zero d lt = refl
first-step name (x ∷ xs) k (suc n) d lt = first-step name xs k n d (omega (arith, lt))

pub first-there : (name : Text) (xs : List Text) (n : ℕ) (d : Text) → n < length xs → same (get_or xs n d) name ≡ true → first_from n name (drop n xs) ≡ n
first-there name xs n d lt e = first-step name xs n n d lt ∙ (λ i. if e i then n else first_from (suc n) name (drop (suc n) xs))

pub first-next : (name : Text) (xs : List Text) (n : ℕ) (d : Text) → n < length xs → same (get_or xs n d) name ≡ false → first_from n name (drop n xs) ≡ first_from (n + 1) name (drop (n + 1) xs)
first-next name xs n d lt e = first-step name xs n n d lt ∙ (λ i. if e i then n else first_from (suc n) name (drop (suc n) xs))
    ∙ (let next : suc n ≡ n + 1 = omega arith in λ i. first_from (next i) name (drop (next i) xs))

pub first-none : (name : Text) (xs : List Text) (n : ℕ) → n ≤ length xs → length xs ≤ n → first_from n name (drop n xs) ≡ length xs
first-none name xs n ge le = ap (first_from n name) (past xs n le) ∙ (let end : n ≡ length xs = omega (arith, ge, le) in end)
  where
    past : {A : Type 0} (xs : List A) (n : ℕ) → length xs ≤ n → drop n xs ≡ []
    past [] zero le = refl
    past [] (suc n) le = refl
    past (x ∷ xs) zero le = absurd (omega (arith, le))
    past (x ∷ xs) (suc n) le = past xs n (omega (arith, le))

-- what is known of a name is its first
pub known-here : (known : List ℕ) (names : List Text) (at first : ℕ) (name : Text) → known ≡ take (length known) (firsts_of names) → slice_get known at ≡ Some first → slice_get names at ≡ Some name → first ≡ first_from 0 name names
known-here known names at first name is here there =
    some-same first (first_from 0 name names)
    (sym (taken-get (firsts_of names) (length known) at first ((λ i. slice_get (sym is i) at) ∙ here)) ∙ mapped-get (λ x. first_from 0 x names) names at name there)
  where
    taken-get : (xs : List ℕ) (k m x : ℕ) → slice_get (take k xs) m ≡ Some x → slice_get xs m ≡ Some x
    taken-get xs zero m x e = absurd (none-some x e)
    taken-get [] (suc k) m x e = absurd (none-some x e)
    taken-get (y ∷ xs) (suc k) zero x e = e
    taken-get (y ∷ xs) (suc k) (suc m) x e = taken-get xs k m x e

    mapped-get : {A B : Type 0} (f : A → B) (xs : List A) (m : ℕ) (x : A) → slice_get xs m ≡ Some x → slice_get (map f xs) m ≡ Some (f x)
    mapped-get f [] m x e = absurd (none-some x e)
    mapped-get f (y ∷ xs) zero x e = ap (λ z. Some (f z)) (some-same y x e)
    mapped-get f (y ∷ xs) (suc m) x e = mapped-get f xs m x e

-- ---- names by origins

at-place : (es : List Entry) (os : List Origin) (us : List Automation) (n : ℕ) (d : Origin) → AreAt es os us → n < length os → (u : Automation) × (unit_at es (get_or os n d) ≡ Some u) × (slice_get us n ≡ Some u)
at-place es [] us n d h lt = absurd (omega (arith, lt))
at-place es (o ∷ os) [] n d h lt = absurd h
at-place es (o ∷ os) (u ∷ us) zero d h lt = (u, h.0, refl)
at-place es (o ∷ os) (u ∷ us) (suc n) d h lt = at-place es os us n d h.2 (omega (arith, lt))

pub unit-there : (es : List Entry) (os : List Origin) (us : List Automation) (n : ℕ) (d : Origin) → AreAt es os us → n < length os → (u : Automation) × (unit_at es (get_or os n d) ≡ Some u)
unit-there es os us n d h lt = let got = at-place es os us n d h lt in (got.0, got.1)

got-there : {A : Type 0} (xs : List A) (n : ℕ) (x : A) → slice_get xs n ≡ Some x → get_or xs n x ≡ x
got-there [] n x e = absurd (none-some x e)
got-there (y ∷ ys) zero x e = some-same y x e
got-there (y ∷ ys) (suc n) x e = got-there ys n x e

pub name-more : (es : List Entry) (os : List Origin) (us : List Automation) (n : ℕ) (d : Origin) (old new : List Text) (name : Text) → AreAt es os us → n < length os → old ≡ take n (names_of us)
    → name ≡ option_map_or {T = Automation} {U = Text} (λ (u : Automation). u.name) (unit_at es (get_or os n d)) [] → new ≡ old ++ (name ∷ []) → new ≡ take (n + 1) (names_of us)
name-more es os us n d old new name h lt before told is =
    let got = at-place es os us n d h lt in
    let many = at-length es os us h in
    made-more {A = Automation} {B = Text} (λ u. u.name) us n got.0 old new name (omega (arith, lt, many)) before
    (told ∙ (λ i. option_map_or {T = Automation} {U = Text} (λ (u : Automation). u.name) (got.1 i) []) ∙ (λ i. (sym (got-there us n got.0 got.2) i).name)) is

pub names-done : (es : List Entry) (os : List Origin) (us : List Automation) (n : ℕ) (made : List Text) → AreAt es os us → length os ≤ n → made ≡ take n (names_of us) → made ≡ names_of us
names-done es os us n made h le is = let many = at-length es os us h in made-done {A = Automation} {B = Text} (λ u. u.name) us n made (omega (arith, le, many)) is

-- ---- a configuration that comes into force

pub opens-at : (es : List Entry) (at : ℕ) (numbers : List ℕ) (h : Opens es at numbers) → AreAt es (brought at 0 0 numbers) (units_of h.c)
opens-at es at numbers h = subst (AreAt es (brought at 0 0 numbers)) (new-first numbers (units_of h.c) h.numbered)
    (brought-at es at 0 0 h.c h.config_is h.sound numbers (units_of h.c) h.numbered (λ i u e. (let none : 0 + i ≡ i = omega arith in subst (λ m. unit_of (units_of h.c) m ≡ Some u) (sym none) e)))

said-in : (x : Entry) (c : Config) → reload_in x ≡ Some c → config_in x ≡ Some c
said-in (Boot text config stored start zone carry) c e = absurd (none-some c e)
said-in (Line source number cmd) c e = e
said-in (Step worker serial branch item) c e = absurd (none-some c e)
said-in (Again number start stored carry) c e = absurd (none-some c e)

pub joined : {A : Type 0} (xs ys zs : List A) → xs ++ (ys ++ zs) ≡ (xs ++ ys) ++ zs
joined [] ys zs = refl
joined (x ∷ xs) ys zs = ap (λ l. x ∷ l) (joined xs ys zs)

module _ (es : List Entry) (numbers : List ℕ) (b : UnitBook) (h : Reloads es numbers b) where
  last : ℕ
  last = length h.j

  pub reloads-config : config_at es (length h.j) ≡ Some h.c
  reloads-config = ap (λ l. option_and_then config_in (slice_get l (length h.j))) h.journal_is
      ∙ ap (option_and_then config_in) (get-last h.j h.x) ∙ said-in h.x h.c h.reloads

  pub reloads-last : length es ≡ length h.j + 1
  reloads-last = ap length h.journal_is ∙ by h.j
    where
      by : (l : List Entry) → length (l ++ (h.x ∷ [])) ≡ length l + 1
      by [] = omega arith
      by (e ∷ l) = omega (arith, by l)

  -- all units stand at their origins behind it
  pub reloads-at : AreAt es (b.origins.items ++ brought (length h.j) (length b.origins.items) 0 numbers) (reloaded (force h.s) h.c).units
  reloads-at =
      let f : Force = force h.s in
      let many : length b.origins.items ≡ length f.units = at-length h.j b.origins.items f.units h.holds.units_are in
      let count : length numbers ≡ length (units_of h.c) = ap length h.numbers_are ∙ numbers-many h.s h.c in
      let own : new_units (length b.origins.items) numbers (units_of h.c) ≡ new_rules f h.c ++ map as_unit (new_scripts f h.c)
      = (λ i. new_units (many i) (h.numbers_are i) (units_of h.c)) ∙ new-reloaded h.s h.c in
      let old : AreAt es b.origins.items f.units = subst (λ l. AreAt l b.origins.items f.units) (sym h.journal_is) (at-front h.j (h.x ∷ []) b.origins.items f.units h.holds.units_are) in
      let new : AreAt es (brought (length h.j) (length b.origins.items) 0 numbers) (new_rules f h.c ++ map as_unit (new_scripts f h.c))
      = subst (AreAt es (brought (length h.j) (length b.origins.items) 0 numbers)) own
      (brought-at es (length h.j) (length b.origins.items) 0 h.c reloads-config h.sound numbers (units_of h.c) count (λ i u e. (let none : 0 + i ≡ i = omega arith in subst (λ m. unit_of (units_of h.c) m ≡ Some u) (sym none) e))) in
      subst (AreAt es (b.origins.items ++ brought (length h.j) (length b.origins.items) 0 numbers)) (joined f.units (new_rules f h.c) (map as_unit (new_scripts f h.c)))
      (at-join es b.origins.items (brought (length h.j) (length b.origins.items) 0 numbers) f.units (new_rules f h.c ++ map as_unit (new_scripts f h.c)) old new)

  -- the firsts of the names before it are known
  pub reloads-known : b.firsts.items ≡ take (length b.firsts.items) (firsts_of (names_of (reloaded (force h.s) h.c).units))
  reloads-known =
      let f : Force = force h.s in
      let first : b.firsts.items ≡ firsts_of (names_of f.units) = h.holds.firsts_are ∙ ap firsts_of h.holds.names_are in
      let behind : List Automation = new_rules f h.c ++ map as_unit (new_scripts f h.c) in
      firsts-front (names_of f.units) (names_of behind) b.firsts.items first
      ∙ (λ i. take (length b.firsts.items) (firsts_of (sym (names-append f.units behind) i)))
      ∙ (λ i. take (length b.firsts.items) (firsts_of (names_of (joined f.units (new_rules f h.c) (map as_unit (new_scripts f h.c)) i))))

  pub reloads-made : IsMade es (b.origins.items ++ brought (length h.j) (length b.origins.items) 0 numbers) b.firsts.items
  reloads-made = record { us = (reloaded (force h.s) h.c).units; units_are = reloads-at; few = h.few; known_are = reloads-known }
