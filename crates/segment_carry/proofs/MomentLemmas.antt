-- When automations last triggered, in the order of their names: what the store keeps of it.
use Rattle.std.proofs.Common.{◌≡◌, ◌∙◌, refl, sym, ap, ℕ, zero, ◌+◌, suc, ◌<◌, Bool, true, false, Option, List, [], ◌∷◌, length, map, ◌||◌, arith, true≢false}
use Rattle.std.specs.Prelude.{Some, None, filter_map, nat_le, not, option_map, slice_get, unwrap_or, if◌then◌else◌, ◌&&◌}
use Rattle.std.specs.List.{cons_option, enumerate_from, list_all, list_any}
use Rattle.std.specs.Option.{option_map_or}
use Rattle.std.proofs.lemmas.Option.{slice_get-map}
use Rattle.ha_value.specs.Ids.{is_name}
use Rattle.ha_clock.specs.Local.{last_moment}
use Rattle.ha_config.specs.declared.config.Automation.{Automation}
use Rattle.ha_config.specs.StoreText.{in_name_order, placed_by_name}
use Rattle.ha_config.specs.Words.{Text, comes_before, same}
use Rattle.ha_config.specs.ValueFacts.{all_distinct, keys_of}
use Rattle.ha_config.proofs.EqualLemmas.{and_left, and_right}
use Rattle.ha_journal.specs.Journal.{Journal, automations, in_force}
use Rattle.ha_journal.proofs.ForceLaws.{in-force-are}
use Rattle.ha_whole.specs.Lasts.{last_triggered, lasts}
use Rattle.ha_whole.specs.Named.{named}
use Rattle.store_text.specs.Store.{AreMoments}
use Rattle.store_text.proofs.OrderLemmas.{all-in_name_order}
use Rattle.ha_config.specs.Names.{name_of, names_of}
use Rattle.switch_book.proofs.StoredLaws.{ordered-in_name_order}
use Rattle.segment_carry.specs.ByName.{by_name, listed}
use Rattle.whole_laws.proofs.NamedLemmas.{named-in-order}
use Rattle.segment_carry.proofs.ByNameLemmas.{given, given-each, listed-by-name}
use Rattle.segment_carry.proofs.ListedLemmas.{listed-apart, listed-found}

-- ---- what is listed of automations

listed-all : {X : Type 0} (test : Text → Bool) (value : ℕ → Option X) (n : ℕ) (xs : List Automation) → list_all test (names_of xs) ≡ true → list_all test (keys_of (filter_map (given value) (enumerate_from n xs))) ≡ true
listed-all test value n [] h = refl
listed-all {X} test value n (x ∷ xs) h =
    by (value n) (and_left (test x.name) (list_all test (names_of xs)) h) (listed-all test value (n + 1) xs (and_right (test x.name) (list_all test (names_of xs)) h))
  where
    by : (o : Option X) → test x.name ≡ true → list_all test (keys_of (filter_map (given value) (enumerate_from (n + 1) xs))) ≡ true
        → list_all test (keys_of (cons_option (option_map {T = X} {U = Text × X} (λ v. (x.name, v)) o) (filter_map (given value) (enumerate_from (n + 1) xs)))) ≡ true
    by None here later = later
    by (Some v) here later = (λ i. here i && later i)

either : (a b : Bool) → (a || b) ≡ false → (a ≡ false) × (b ≡ false)
either true b h = absurd (true≢false h)
either false b h = (refl, h)

distinct-parts : (a b : Bool) → (not a && b) ≡ true → (a ≡ false) × (b ≡ true)
distinct-parts true b h = absurd (true≢false (sym h))
distinct-parts false b h = (refl, h)

listed-none : {X : Type 0} (test : Text → Bool) (value : ℕ → Option X) (n : ℕ) (xs : List Automation) → list_any test (names_of xs) ≡ false → list_any test (keys_of (filter_map (given value) (enumerate_from n xs))) ≡ false
listed-none test value n [] h = refl
listed-none {X} test value n (x ∷ xs) h =
    let parts = either (test x.name) (list_any test (names_of xs)) h in
    by (value n) parts.0 (listed-none test value (n + 1) xs parts.1)
  where
    by : (o : Option X) → test x.name ≡ false → list_any test (keys_of (filter_map (given value) (enumerate_from (n + 1) xs))) ≡ false
        → list_any test (keys_of (cons_option (option_map {T = X} {U = Text × X} (λ v. (x.name, v)) o) (filter_map (given value) (enumerate_from (n + 1) xs)))) ≡ false
    by None here later = later
    by (Some v) here later = (λ i. here i || later i)

-- their names differ where those of the automations do
listed-distinct : {X : Type 0} (value : ℕ → Option X) (n : ℕ) (xs : List Automation) → all_distinct (names_of xs) ≡ true → all_distinct (keys_of (filter_map (given value) (enumerate_from n xs))) ≡ true
listed-distinct value n [] h = refl
listed-distinct {X} value n (x ∷ xs) h =
    let parts = distinct-parts (list_any (same x.name) (names_of xs)) (all_distinct (names_of xs)) h in
    by (value n) (listed-none (same x.name) value (n + 1) xs parts.0) (listed-distinct value (n + 1) xs parts.1)
  where
    by : (o : Option X) → list_any (same x.name) (keys_of (filter_map (given value) (enumerate_from (n + 1) xs))) ≡ false → all_distinct (keys_of (filter_map (given value) (enumerate_from (n + 1) xs))) ≡ true
        → all_distinct (keys_of (cons_option (option_map {T = X} {U = Text × X} (λ v. (x.name, v)) o) (filter_map (given value) (enumerate_from (n + 1) xs)))) ≡ true
    by None none later = later
    by (Some v) none later = (λ i. not (none i) && later i)

-- and their values pass where each there is does
listed-values : {X : Type 0} (test : X → Bool) (value : ℕ → Option X) (n : ℕ) (xs : List Automation) → ((i : ℕ) → i < length xs → option_map_or test (value (n + i)) true ≡ true)
    → list_all (λ (p : Text × X). test p.1) (filter_map (given value) (enumerate_from n xs)) ≡ true
listed-values test value n [] h = refl
listed-values {X} test value n (x ∷ xs) h =
    let e : n ≡ n + 0 = omega arith in
    let here : option_map_or test (value n) true ≡ true = (λ i. option_map_or test (value (e i)) true) ∙ h 0 (omega arith) in
    by (value n) here (listed-values test value (n + 1) xs (λ i lt. (let f : (n + 1) + i ≡ n + suc i = omega arith in (λ j. option_map_or test (value (f j)) true) ∙ h (suc i) (omega (arith, lt)))))
  where
    by : (o : Option X) → option_map_or test o true ≡ true → list_all (λ (p : Text × X). test p.1) (filter_map (given value) (enumerate_from (n + 1) xs)) ≡ true
        → list_all (λ (p : Text × X). test p.1) (cons_option (option_map {T = X} {U = Text × X} (λ v. (x.name, v)) o) (filter_map (given value) (enumerate_from (n + 1) xs))) ≡ true
    by None here later = later
    by (Some v) here later = (λ i. here i && later i)

-- ---- in the order of the names

swap : (a b c : Bool) → (b && (a && c)) ≡ (a && (b && c))
swap true b c = refl
swap false true c = refl
swap false false c = refl

pairs-placed : {X : Type 0} (test : Text × X → Bool) (p : Text × X) (ps : List (Text × X)) → list_all test (placed_by_name p ps) ≡ (test p && list_all test ps)
pairs-placed test p [] = refl
pairs-placed test p (q ∷ qs) = by (comes_before p.0 q.0) (pairs-placed test p qs)
  where
    by : (b : Bool) → list_all test (placed_by_name p qs) ≡ (test p && list_all test qs) → list_all test (if b then p ∷ q ∷ qs else q ∷ placed_by_name p qs) ≡ (test p && (test q && list_all test qs))
    by true later = refl
    by false later = ap (λ c. test q && c) later ∙ swap (test p) (test q) (list_all test qs)

pairs-in-order : {X : Type 0} (test : Text × X → Bool) (ps : List (Text × X)) → list_all test (in_name_order ps) ≡ list_all test ps
pairs-in-order test [] = refl
pairs-in-order test (p ∷ ps) = pairs-placed test p (in_name_order ps) ∙ ap (λ c. test p && c) (pairs-in-order test ps)

-- ---- when the automations in force last triggered

got-name : (f : Text → Option ℕ) (all : List Automation) (ls : List (Option ℕ)) → ls ≡ map {A = Automation} {B = Option ℕ} (λ x. f x.name) all
    → (i : ℕ) (x : Automation) → slice_get all i ≡ Some x → unwrap_or (slice_get ls i) None ≡ f x.name
got-name f all ls is i x at =
    (λ k. unwrap_or (slice_get (is k) i) None)
    ∙ ap (λ o. unwrap_or o None) (slice_get-map {A = Automation} {B = Option ℕ} (λ x. f x.name) all i)
    ∙ (λ k. unwrap_or (option_map {T = Automation} {U = Option ℕ} (λ x. f x.name) (at k)) None)

-- of the automations in force what each has, by their places and without their numbers
lasts-placed : (s : Journal) (f : ℕ → Option ℕ) → ((i : ℕ) (x : Automation) → slice_get (automations s) i ≡ Some x → f i ≡ last_triggered s x.name)
    → filter_map (given f) (enumerate_from 0 (automations s)) ≡ lasts s
lasts-placed s f at =
    (let are = in-force-are s in
    (λ i. filter_map (given f) (enumerate_from 0 (sym are i)))
    ∙ given-each {Y = ℕ × Automation} {X = ℕ} (λ p. p.1) (λ p. last_triggered s p.1.name) f 0 (in_force s)
    (λ i p is. (let e : 0 + i ≡ i = omega arith in
    ap f e ∙ at i p.1 ((λ k. slice_get (sym are k) i) ∙ slice_get-map {A = ℕ × Automation} {B = Automation} (λ p. p.1) (in_force s) i ∙ ap (option_map {T = ℕ × Automation} {U = Automation} (λ p. p.1)) is))))

-- LAW: the moments that the engine has by automation, listed by name, are those that the store keeps
pub moments-listed : (s : Journal) (ls : List (Option ℕ)) → ls ≡ map {A = Automation} {B = Option ℕ} (λ x. last_triggered s x.name) (automations s)
    → listed (names_of (automations s)) (λ a. unwrap_or (slice_get ls a) None) (by_name (names_of (automations s))) ≡ in_name_order (lasts s)
moments-listed s ls is =
    listed-by-name (automations s) (λ a. unwrap_or (slice_get ls a) None)
    ∙ ap in_name_order (lasts-placed s (λ a. unwrap_or (slice_get ls a) None) (got-name (last_triggered s) (automations s) ls is))

lasts-at : (s : Journal) → filter_map (given (λ a. last_triggered s (name_of (automations s) a))) (enumerate_from 0 (automations s)) ≡ lasts s
lasts-at s = lasts-placed s (λ a. last_triggered s (name_of (automations s) a)) (λ i x is. (λ k. last_triggered s (option_map_or (λ (y : Automation). y.name) (is k) [])))

-- LAW: and they can be stored
pub moments-storable : (s : Journal) → all_distinct (names_of (automations s)) ≡ true → list_all is_name (names_of (automations s)) ≡ true
    → ((a : ℕ) → a < length (automations s) → option_map_or (λ at. nat_le at last_moment) (last_triggered s (name_of (automations s) a)) true ≡ true) → AreMoments (in_name_order (lasts s))
moments-storable s distinct ids in_time =
    let f : ℕ → Option ℕ = λ a. last_triggered s (name_of (automations s) a) in
    record {
      ordered = ordered-in_name_order (lasts s) ((λ i. all_distinct (keys_of (sym (lasts-at s) i))) ∙ listed-distinct f 0 (automations s) distinct);
      ids = all-in_name_order is_name (lasts s) ∙ (λ i. list_all is_name (keys_of (sym (lasts-at s) i))) ∙ listed-all is_name f 0 (automations s) ids;
      in_time =
          pairs-in-order (λ (p : Text × ℕ). nat_le p.1 last_moment) (lasts s)
          ∙ (λ i. list_all (λ (p : Text × ℕ). nat_le p.1 last_moment) (sym (lasts-at s) i))
          ∙ listed-values (λ at. nat_le at last_moment) f 0 (automations s)
          (λ i lt. (let e : 0 + i ≡ i = omega arith in (λ j. option_map_or (λ at. nat_le at last_moment) (f (e j)) true) ∙ in_time i lt));
    }

-- ---- found again

get-within : {X : Type 0} (xs : List X) (i : ℕ) → i < length xs → (x : X) × (slice_get xs i ≡ Some x)
get-within [] i lt = absurd (omega (arith, lt))
get-within (x ∷ xs) zero lt = (x, refl)
get-within (x ∷ xs) (suc i) lt = get-within xs i (omega (arith, lt))

-- LAW: what is found under the name of an automation, in the order of the names, is when it last triggered
pub found-moments : (s : Journal) → all_distinct (names_of (automations s)) ≡ true → (a : ℕ) → a < length (automations s)
    → named (name_of (automations s) a) (in_name_order (lasts s)) ≡ last_triggered s (name_of (automations s) a)
found-moments s d a lt =
    let all : List Automation = automations s in
    let f : ℕ → Option ℕ = λ b. last_triggered s (name_of (automations s) b) in
    let one = get-within all a lt in
    let name : name_of all a ≡ one.0.name = (λ i. option_map_or (λ (x : Automation). x.name) (one.1 i) []) in
    (λ i. named (name i) (in_name_order (sym (lasts-at s) i)))
    ∙ named-in-order (filter_map (given f) (enumerate_from 0 all)) one.0.name (listed-apart f all d)
    ∙ listed-found f all a one.0 d one.1
