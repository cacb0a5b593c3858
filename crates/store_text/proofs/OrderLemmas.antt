-- Switches and moments in the order of their names, as objects and as a text.
use Rattle.std.proofs.Common.{◌≡◌, ◌∙◌, ap, ap₂, refl, sym, ℕ, Bool, true, false, List, [], ◌∷◌, ◌++◌, map, ◌+◌, ◌/◌, ◌%◌, ◌<◌, ◌&&◌, ◌||◌, not, Option, Some, Ordering, Less, Equal, Greater, arith, ◌≤◌, zero, append_assoc, true≢false, rules, length, get_or}
use Rattle.std.specs.Prelude.{nat_eq, nat_le, nat_lt, if◌then◌else◌, codes, option_map, option_and_then, flat_map, unsigned_abs}
use Rattle.std.specs.Prelude.{suc, max, IsUtf8, Ok, Err}
use Rattle.std.specs.Str.{IsAscii}
use Rattle.std.proofs.lemmas.Str.{IsUtf8-from_ascii, is_utf8-from_IsUtf8}
use Rattle.std.proofs.lemmas.Bool.Decides.{nat_tests}
use Rattle.std.specs.Fmt.{digits}
use Rattle.std.proofs.lemmas.Map.Text.{is_eq-slice_cmp}
use Rattle.std.specs.Ordering.{nat_cmp, is_lt, is_eq, match_ordering}
use Rattle.std.specs.Cmp.Lexicographic.{slice_cmp}
use Rattle.std.specs.List.{list_all, list_any}
use Rattle.json.specs.Print.{escape_byte, escape, token_text}
use Rattle.json.specs.Print as json
use Rattle.json.specs.Token.{Token}
use Rattle.serde_json.specs.Data.{Data, boolean, number, object, unsigned, Members, no_members, member, put, depth, members_depth}
use Rattle.serde_json.specs.Find.{as_bool}
use Rattle.serde_json.specs.Read.{read, max_depth}
use Rattle.serde_json.specs.Written.{compact_text, members_text, has_float, members_have_float}
use Rattle.serde_json.proofs.OnLiterals.{serde_json_on_literals}
use Rattle.ha_value.specs.Ids.{is_name, is_name_byte}
use Rattle.ha_config.specs.Words.{Text, comes_before, same}
use Rattle.ha_config.specs.ValueFacts.{all_distinct, keys_of}
use Rattle.ha_clock.proofs.RoundTrip.{moment_read}
use Rattle.ha_clock.specs.Local.{last_moment}
use Rattle.ha_clock.specs.Print.{civil_text, day_on, digit, moment_text, months_on, year_on}
use Rattle.ha_config.specs.Sound.{are_in_name_order}
use Rattle.ha_config.specs.StoreText.{placed_by_name, in_name_order, moments_text, switches_text, store_of}
use Rattle.ha_config.specs.ValueText.{quoted, escaped_byte, comma_joined, pair_text, flag_text, map_text}
use Rattle.store_text.specs.Store.{AreMoments, AreStorable, Moments, Switches, as_moment, both_of, flags_of, moment_data, moments_of, of_data, put_all, put_moments, store_data, stored_in, values_of}
use Rattle.store_text.proofs.FlagLemmas.{is_lt-comes_before}

-- each value reads as it was
abbrev AllRead : {X : Type 0} → (X → Data) → (Data → Option X) → List (Text × X) → Type 0
AllRead data_of form [] = Unit {0}
AllRead data_of form (p ∷ ps) = (form (data_of p.1) ≡ Some p.1) × AllRead data_of form ps

-- pairs as an object's members
abbrev pub members_of : {X : Type 0} → (X → Data) → List (Text × X) → Members
members_of data_of [] = no_members
members_of data_of (p ∷ ps) = member p.0 (data_of p.1) (members_of data_of ps)

abbrev pub members_from : Switches → Members
members_from s = members_of boolean s

-- what is read of them, where each value reads as it was
pub values-members_of : {X : Type 0} (data_of : X → Data) (form : Data → Option X) (ps : List (Text × X)) → AllRead data_of form ps → values_of form (members_of data_of ps) ≡ Some ps
values-members_of data_of form [] h = refl
values-members_of {X} data_of form (p ∷ ps) h =
    ap (λ o. option_and_then (λ x. option_map (λ rest. (p.0, x) ∷ rest) (values_of form (members_of data_of ps))) o) h.0
    ∙ ap (option_map {T = List (Text × X)} {U = List (Text × X)} (λ rest. p ∷ rest)) (values-members_of data_of form ps h.1)

flags-read : (s : Switches) → AllRead boolean as_bool s
flags-read [] = tt
flags-read (p ∷ ps) = (refl, flags-read ps)

pub flags-members_from : (s : Switches) → flags_of (members_from s) ≡ Some s
flags-members_from s = values-members_of boolean as_bool s (flags-read s)

-- ---- an object keeps its members in order

or_false : (a b : Bool) → (a || b) ≡ false → (a ≡ false) × (b ≡ false)
or_false true b h = absurd (true≢false h)
or_false false b h = (refl, h)

pub put-members_from : (p : Text × Bool) (ps : Switches) → list_any (same p.0) (keys_of ps) ≡ false → put p.0 (boolean p.1) (members_from ps) ≡ members_from (placed_by_name p ps)
put-members_from p [] h = refl
put-members_from p (q ∷ qs) h =
    let apart = or_false (same p.0 q.0) (list_any (same p.0) (keys_of qs)) h in
    by (slice_cmp nat_cmp p.0 q.0) refl apart.0 (put-members_from p qs apart.1)
  where
    by : (o : Ordering) → slice_cmp nat_cmp p.0 q.0 ≡ o → same p.0 q.0 ≡ false → put p.0 (boolean p.1) (members_from qs) ≡ members_from (placed_by_name p qs)
        → match_ordering o (member p.0 (boolean p.1) (member q.0 (boolean q.1) (members_from qs))) (member q.0 (boolean p.1) (members_from qs)) (member q.0 (boolean q.1) (put p.0 (boolean p.1) (members_from qs)))
        ≡ members_from (if comes_before p.0 q.0 then p ∷ q ∷ qs else q ∷ placed_by_name p qs)
    by Less e apart later = (let t : comes_before p.0 q.0 ≡ true = sym (is_lt-comes_before p.0 q.0 _ refl) ∙ ap is_lt e in ap (λ b. members_from (if b then p ∷ q ∷ qs else q ∷ placed_by_name p qs)) (sym t))
    by Equal e apart later = absurd (true≢false (sym (sym apart ∙ sym (is_eq-slice_cmp p.0 q.0) ∙ ap is_eq e)))
    by Greater e apart later =
        (let f : comes_before p.0 q.0 ≡ false = sym (is_lt-comes_before p.0 q.0 _ refl) ∙ ap is_lt e in
        ap (member q.0 (boolean q.1)) later ∙ ap (λ b. members_from (if b then p ∷ q ∷ qs else q ∷ placed_by_name p qs)) (sym f))

-- ---- names among those in order

swapped : (a b c : Bool) → (b || (a || c)) ≡ (a || (b || c))
swapped true true c = refl
swapped true false c = refl
swapped false b c = refl

any-placed : {X : Type 0} (test : Text → Bool) (p : Text × X) (ps : List (Text × X)) → list_any test (keys_of (placed_by_name p ps)) ≡ (test p.0 || list_any test (keys_of ps))
any-placed test p [] = refl
any-placed test p (q ∷ qs) = by (comes_before p.0 q.0) (any-placed test p qs)
  where
    by : (b : Bool) → list_any test (keys_of (placed_by_name p qs)) ≡ (test p.0 || list_any test (keys_of qs))
        → list_any test (keys_of (if b then p ∷ q ∷ qs else q ∷ placed_by_name p qs)) ≡ (test p.0 || (test q.0 || list_any test (keys_of qs)))
    by true later = refl
    by false later = ap (λ c. test q.0 || c) later ∙ swapped (test p.0) (test q.0) (list_any test (keys_of qs))

pub any-in_name_order : {X : Type 0} (test : Text → Bool) (ps : List (Text × X)) → list_any test (keys_of (in_name_order ps)) ≡ list_any test (keys_of ps)
any-in_name_order test [] = refl
any-in_name_order test (p ∷ ps) = any-placed test p (in_name_order ps) ∙ ap (λ c. test p.0 || c) (any-in_name_order test ps)

distinct_parts : (a b : Bool) → (not a && b) ≡ true → (a ≡ false) × (b ≡ true)
distinct_parts true b h = absurd (true≢false (sym h))
distinct_parts false b h = (refl, h)

pub distinct-parts : {X : Type 0} (p : Text × X) (ps : List (Text × X)) → all_distinct (keys_of (p ∷ ps)) ≡ true → (list_any (same p.0) (keys_of ps) ≡ false) × (all_distinct (keys_of ps) ≡ true)
distinct-parts p ps h = distinct_parts (list_any (same p.0) (keys_of ps)) (all_distinct (keys_of ps)) h

-- LAW: flags put into an object stand there in the order of their names
pub put_all-in_name_order : (ps : Switches) → all_distinct (keys_of ps) ≡ true → put_all ps ≡ members_from (in_name_order ps)
put_all-in_name_order [] h = refl
put_all-in_name_order (p ∷ ps) h =
    let parts = distinct-parts p ps h in
    ap (put p.0 (boolean p.1)) (put_all-in_name_order ps parts.1)
    ∙ put-members_from p (in_name_order ps) (any-in_name_order (same p.0) ps ∙ parts.0)

-- ---- their text

and_true : (a b : Bool) → (a && b) ≡ true → (a ≡ true) × (b ≡ true)
and_true true b h = (refl, h)
and_true false b h = absurd (true≢false (sym h))

differs : (c n : ℕ) → (c ≡ n → ⊥) → nat_eq c n ≡ false
differs c n h = search (rules, h)

name_byte_bounds : (c : ℕ) → is_name_byte c ≡ true → (48 ≤ c) × (c ≡ 92 → ⊥)
name_byte_bounds c h = (grind (arith, nat_tests), λ e. grind (arith, nat_tests))

json_plain : (c : ℕ) → 35 ≤ c → (c ≡ 92 → ⊥) → escape_byte c ≡ c ∷ []
unfolding escape_byte
json_plain c low other =
    let a : nat_eq c 34 ≡ false = differs c 34 (λ e. omega (arith, e)) in
    let b : nat_eq c 92 ≡ false = differs c 92 other in
    let d : nat_eq c 8 ≡ false = differs c 8 (λ e. omega (arith, e)) in
    let f : nat_eq c 12 ≡ false = differs c 12 (λ e. omega (arith, e)) in
    let g : nat_eq c 10 ≡ false = differs c 10 (λ e. omega (arith, e)) in
    let i : nat_eq c 13 ≡ false = differs c 13 (λ e. omega (arith, e)) in
    let k : nat_eq c 9 ≡ false = differs c 9 (λ e. omega (arith, e)) in
    let l : nat_lt c 32 ≡ false = search (rules, low) in
    rw (a, b, d, f, g, i, k, l) refl

model_plain : (c : ℕ) → 35 ≤ c → (c ≡ 92 → ⊥) → escaped_byte c ≡ c ∷ []
model_plain c low other =
    let a : nat_eq c 34 ≡ false = differs c 34 (λ e. omega (arith, e)) in
    let b : nat_eq c 92 ≡ false = differs c 92 other in
    let g : nat_eq c 10 ≡ false = differs c 10 (λ e. omega (arith, e)) in
    let i : nat_eq c 13 ≡ false = differs c 13 (λ e. omega (arith, e)) in
    let k : nat_eq c 9 ≡ false = differs c 9 (λ e. omega (arith, e)) in
    let l : nat_lt c 32 ≡ false = search (rules, low) in
    rw (a, b, g, i, k, l) refl

same_escape : (t : Text) → list_all is_name_byte t ≡ true → escape t ≡ flat_map escaped_byte t
same_escape [] h = refl
same_escape (c ∷ cs) h =
    let parts = and_true (is_name_byte c) (list_all is_name_byte cs) h in
    let bounds = name_byte_bounds c parts.0 in
    ap₂ ◌++◌ (json_plain c (omega (arith, bounds.0)) bounds.1 ∙ sym (model_plain c (omega (arith, bounds.0)) bounds.1)) (same_escape cs parts.1)

-- a name needs no escapes
same_quoted : (t : Text) → is_name t ≡ true → json.quoted t ≡ quoted t
same_quoted [] h = absurd (true≢false (sym h))
same_quoted (c ∷ cs) h = ap (λ s. 34 ∷ (s ++ 34 ∷ [])) (same_escape (c ∷ cs) h)

same_flag_text : (b : Bool) → token_text (Token.boolean b) ≡ flag_text b
same_flag_text true = refl
same_flag_text false = refl

last_shown : (k s : Text) → k ++ 58 ∷ (s ++ 125 ∷ []) ≡ (k ++ 58 ∷ s) ++ 125 ∷ []
last_shown k s = sym (append_assoc k (58 ∷ s) (125 ∷ []))

more_shown : (k s more : Text) → k ++ 58 ∷ (s ++ 44 ∷ (more ++ 125 ∷ [])) ≡ ((k ++ 58 ∷ s) ++ 44 ∷ more) ++ 125 ∷ []
more_shown k s more = sym (append_assoc (k ++ 58 ∷ s) (44 ∷ more) (125 ∷ []) ∙ append_assoc k (58 ∷ s) (44 ∷ (more ++ 125 ∷ [])))

module _ {X : Type 0} (data_of : X → Data) (text_of : X → Text) (same : (x : X) → compact_text (data_of x) ≡ text_of x) where
  abbrev shown : List (Text × X) → List Text
  shown ps = map {A = Text × Text} {B = Text} (λ p. pair_text p.0 p.1) (map {A = Text × X} {B = Text × Text} (λ p. (p.0, text_of p.1)) ps)

  text-members_of : (ps : List (Text × X)) → list_all is_name (keys_of ps) ≡ true → members_text false (members_of data_of ps) ≡ comma_joined (shown ps) ++ 125 ∷ []
  text-members_of [] h = refl
  text-members_of (p ∷ []) h =
      let parts = and_true (is_name p.0) true h in
      ap₂ (λ k s. k ++ 58 ∷ (s ++ 125 ∷ [])) (same_quoted p.0 parts.0) (same p.1) ∙ last_shown (quoted p.0) (text_of p.1)
  text-members_of (p ∷ q ∷ qs) h =
      let parts = and_true (is_name p.0) (list_all is_name (keys_of (q ∷ qs))) h in
      ap₂ (λ k s. k ++ 58 ∷ (s ++ 44 ∷ members_text false (members_of data_of (q ∷ qs)))) (same_quoted p.0 parts.0) (same p.1)
      ∙ ap (λ t. quoted p.0 ++ 58 ∷ (text_of p.1 ++ 44 ∷ t)) (text-members_of (q ∷ qs) parts.1)
      ∙ more_shown (quoted p.0) (text_of p.1) (comma_joined (shown (q ∷ qs)))

  -- LAW: the text of an object whose keys are object ids
  pub object_text : (ps : List (Text × X)) → list_all is_name (keys_of ps) ≡ true → 123 ∷ members_text false (members_of data_of ps) ≡ map_text (map {A = Text × X} {B = Text × Text} (λ p. (p.0, text_of p.1)) ps)
  object_text ps h = ap (λ t. 123 ∷ t) (text-members_of ps h)

-- ---- the text of a moment needs no escapes

data Plain : List ℕ → Type 0 where
  end : Plain []
  sign : {b : ℕ} {bs : List ℕ} → 35 ≤ b → b < 92 → Plain bs → Plain (b ∷ bs)

plain_escape : (t : Text) → Plain t → escape t ≡ flat_map escaped_byte t
plain_escape [] h = refl
plain_escape (c ∷ cs) (sign low high h) =
    let other : c ≡ 92 → ⊥ = λ e. omega (arith, e, high) in
    ap₂ ◌++◌ (json_plain c low other ∙ sym (model_plain c low other)) (plain_escape cs h)

plain_ascii : (t : Text) → Plain t → IsAscii t
plain_ascii [] h i = omega arith
plain_ascii (c ∷ cs) (sign low high h) zero = omega (arith, high)
plain_ascii (c ∷ cs) (sign low high h) (suc i) = plain_ascii cs h i

one : (n : ℕ) {t : Text} → Plain t → Plain (digit n ∷ t)
one n h = sign (omega arith) (omega arith) h

two : (n m : ℕ) {t : Text} → Plain t → Plain (digit n ∷ digit m ∷ t)
two n m h = one n (one m h)

civil_plain : (y m d t : ℕ) → Plain (civil_text y m d t)
civil_plain y m d t =
    two (y / 1000) (y / 100) (two (y / 10) y (sign (omega arith) (omega arith) (two (m / 10) m (sign (omega arith) (omega arith) (two (d / 10) d
    (sign (omega arith) (omega arith) (two (t / 36_000_000) (t / 3_600_000) (sign (omega arith) (omega arith)
    (two (t / 60_000 % 60 / 10) (t / 60_000 % 60) (sign (omega arith) (omega arith) (two (t / 1000 % 60 / 10) (t / 1000 % 60)
    (sign (omega arith) (omega arith) (two (t / 100) (t / 10) (one t (sign (omega arith) (omega arith) end)))))))))))))))

moment_plain : (at : ℕ) → Plain (moment_text at)
unfolding moment_text
moment_plain at =
    let day = at / 86_400_000 in
    civil_plain (unsigned_abs (year_on day)) (months_on day + 1) (day_on day) (at % 86_400_000)

pub moment_utf8 : (at : ℕ) → IsUtf8 (moment_text at)
moment_utf8 at = IsUtf8-from_ascii (moment_text at) (plain_ascii (moment_text at) (moment_plain at))

pub moment_quoted : (at : ℕ) → compact_text (moment_data at) ≡ quoted (moment_text at)
moment_quoted at = ap (λ s. 34 ∷ (s ++ 34 ∷ [])) (plain_escape (moment_text at) (moment_plain at))

-- ---- moments put into an object

-- what is put in front of all stands there
put-first : (p : Text × ℕ) (ps : Moments) → are_in_name_order (p ∷ ps) ≡ true → put p.0 (moment_data p.1) (members_of moment_data ps) ≡ member p.0 (moment_data p.1) (members_of moment_data ps)
put-first p [] h = refl
put-first p (q ∷ qs) h = by (slice_cmp nat_cmp p.0 q.0) refl (and_true (comes_before p.0 q.0) (are_in_name_order (q ∷ qs)) h).0
  where
    by : (o : Ordering) → slice_cmp nat_cmp p.0 q.0 ≡ o → comes_before p.0 q.0 ≡ true
        → match_ordering o (member p.0 (moment_data p.1) (member q.0 (moment_data q.1) (members_of moment_data qs))) (member q.0 (moment_data p.1) (members_of moment_data qs)) (member q.0 (moment_data q.1) (put p.0 (moment_data p.1) (members_of moment_data qs)))
        ≡ member p.0 (moment_data p.1) (member q.0 (moment_data q.1) (members_of moment_data qs))
    by Less e before = refl
    by Equal e before = absurd (true≢false (sym before ∙ sym (is_lt-comes_before p.0 q.0 _ refl) ∙ ap is_lt e))
    by Greater e before = absurd (true≢false (sym before ∙ sym (is_lt-comes_before p.0 q.0 _ refl) ∙ ap is_lt e))

rest-in-order : (p : Text × ℕ) (ps : Moments) → are_in_name_order (p ∷ ps) ≡ true → are_in_name_order ps ≡ true
rest-in-order p [] h = refl
rest-in-order p (q ∷ qs) h = (and_true (comes_before p.0 q.0) (are_in_name_order (q ∷ qs)) h).1

pub put-moments : (ms : Moments) → are_in_name_order ms ≡ true → put_moments ms ≡ members_of moment_data ms
put-moments [] h = refl
put-moments (p ∷ ps) h = ap (put p.0 (moment_data p.1)) (put-moments ps (rest-in-order p ps h)) ∙ put-first p ps h

no-more : (a b : ℕ) → nat_le a b ≡ true → a ≤ b
no-more a b h = grind (arith, nat_tests)

moments-read : (ms : Moments) → list_all (λ p. nat_le p.1 last_moment) ms ≡ true → AllRead moment_data as_moment ms
moments-read [] h = tt
moments-read (p ∷ ps) h =
    let parts = and_true (nat_le p.1 last_moment) (list_all (λ p. nat_le p.1 last_moment) ps) h in
    (moment_read p.1 (no-more p.1 last_moment parts.0), moments-read ps parts.1)

-- none is past the last one that has a text
pub moment-at : (ms : Moments) (k : ℕ) (d : Text × ℕ) → list_all (λ p. nat_le p.1 last_moment) ms ≡ true → k < length ms → (get_or ms k d).1 ≤ last_moment
moment-at [] k d h within = absurd (omega (arith, within))
moment-at (p ∷ ps) zero d h within = no-more p.1 last_moment (and_true (nat_le p.1 last_moment) (list_all (λ p. nat_le p.1 last_moment) ps) h).0
moment-at (p ∷ ps) (suc k) d h within = moment-at ps k d (and_true (nat_le p.1 last_moment) (list_all (λ p. nat_le p.1 last_moment) ps) h).1 (omega (arith, within))

-- ---- the whole text

abbrev data_with : Members → Members → Data
data_with last flags =
    object (member (codes "last") (object last) (member (codes "switches") (object flags) (member (codes "version") (number (unsigned 2)) no_members)))

in-order : (s : Switches) (ms : Moments) → all_distinct (keys_of s) ≡ true → are_in_name_order ms ≡ true → store_data s ms ≡ data_with (members_of moment_data ms) (members_from (in_name_order s))
in-order s ms h o = ap₂ data_with (put-moments ms o) (put_all-in_name_order s h)

flat : {X : Type 0} (data_of : X → Data) → ((x : X) → has_float (data_of x) ≡ false) → (ps : List (Text × X)) → members_have_float (members_of data_of ps) ≡ false
flat data_of h [] = refl
flat data_of h (p ∷ ps) = ap₂ ◌||◌ (h p.1) (flat data_of h ps)

shallow : {X : Type 0} (data_of : X → Data) → ((x : X) → depth (data_of x) ≡ 0) → (ps : List (Text × X)) → members_depth (members_of data_of ps) ≡ 0
shallow data_of h [] = refl
shallow data_of h (p ∷ ps) = ap₂ max (h p.1) (shallow data_of h ps)

data_flat : (s : Switches) (ms : Moments) → has_float (data_with (members_of moment_data ms) (members_from s)) ≡ false
data_flat s ms = ap₂ (λ a b. a || (b || false)) (flat moment_data (λ at. refl) ms) (flat boolean (λ b. refl) s)

data_depth : (s : Switches) (ms : Moments) → depth (data_with (members_of moment_data ms) (members_from s)) ≡ 2
data_depth s ms = ap₂ (λ m n. suc (max (suc m) (max (suc n) 0))) (shallow moment_data (λ at. refl) ms) (shallow boolean (λ b. refl) s)

joined : (l s : Text) → codes "{\"last\":" ++ (l ++ (codes ",\"switches\":" ++ (s ++ codes ",\"version\":2}")))
    ≡ codes "{\"last\":" ++ ((l ++ (codes ",\"switches\":" ++ (s ++ codes ",\"version\":2"))) ++ codes "}")
joined l s =
    ap (λ t. codes "{\"last\":" ++ (l ++ (codes ",\"switches\":" ++ t))) (sym (append_assoc s (codes ",\"version\":2") (codes "}")))
    ∙ ap (λ t. codes "{\"last\":" ++ t) (sym (append_assoc l (codes ",\"switches\":" ++ (s ++ codes ",\"version\":2")) (codes "}")))

data_text : (s : Switches) (ms : Moments) → list_all is_name (keys_of (in_name_order s)) ≡ true → list_all is_name (keys_of ms) ≡ true
    → compact_text (data_with (members_of moment_data ms) (members_from (in_name_order s))) ≡ store_of s ms
unfolding serde_json_on_literals digits
data_text s ms h k =
    ap₂ (λ l t. codes "{\"last\":" ++ (l ++ (codes ",\"switches\":" ++ (t ++ codes ",\"version\":2}"))))
    (object_text moment_data (λ at. quoted (moment_text at)) moment_quoted ms k)
    (object_text boolean flag_text same_flag_text (in_name_order s) h)
    ∙ joined (moments_text ms) (switches_text (in_name_order s))

all-placed : {X : Type 0} (test : Text → Bool) (p : Text × X) (ps : List (Text × X)) → list_all test (keys_of (placed_by_name p ps)) ≡ (test p.0 && list_all test (keys_of ps))
all-placed test p [] = refl
all-placed test p (q ∷ qs) = by (comes_before p.0 q.0) (all-placed test p qs)
  where
    swap : (a b c : Bool) → (b && (a && c)) ≡ (a && (b && c))
    swap true b c = refl
    swap false true c = refl
    swap false false c = refl

    by : (b : Bool) → list_all test (keys_of (placed_by_name p qs)) ≡ (test p.0 && list_all test (keys_of qs))
        → list_all test (keys_of (if b then p ∷ q ∷ qs else q ∷ placed_by_name p qs)) ≡ (test p.0 && (test q.0 && list_all test (keys_of qs)))
    by true later = refl
    by false later = ap (λ c. test q.0 && c) later ∙ swap (test p.0) (test q.0) (list_all test (keys_of qs))

pub all-in_name_order : {X : Type 0} (test : Text → Bool) (ps : List (Text × X)) → list_all test (keys_of (in_name_order ps)) ≡ list_all test (keys_of ps)
all-in_name_order test [] = refl
all-in_name_order test (p ∷ ps) = all-placed test p (in_name_order ps) ∙ ap (λ c. test p.0 && c) (all-in_name_order test ps)

-- LAW: what `serde_json` writes of storable switches and moments is their store text
pub text_written : (s : Switches) (ms : Moments) (d : Data) (t : Text) → AreStorable s → AreMoments ms → d ≡ store_data s ms → (has_float d ≡ false → t ≡ compact_text d) → t ≡ store_of s ms
text_written s ms d t ok last e h =
    let ordered = e ∙ in-order s ms ok.distinct last.ordered in
    h (ap has_float ordered ∙ data_flat (in_name_order s) ms) ∙ ap compact_text ordered ∙ data_text s ms (all-in_name_order is_name s ∙ ok.ids) last.ids

of-data_with : (l s : Members) → of_data (Some (data_with l s)) ≡ both_of (flags_of s) (moments_of l)
unfolding serde_json_on_literals
of-data_with l s = refl

-- LAW: what is read from that text are the switches in the order of their names, and the moments
pub text_read : (s : Switches) (ms : Moments) (d : Data) (t : Text) → AreStorable s → AreMoments ms → IsUtf8 t → d ≡ store_data s ms → (depth d ≤ max_depth → read t ≡ Some d) → stored_in t ≡ Ok (record { switches = in_name_order s; last = ms })
unfolding stored_in
text_read s ms d t ok last utf8 e h =
    let ordered = e ∙ in-order s ms ok.distinct last.ordered in
    let deep : depth d ≡ 2 = ap depth ordered ∙ data_depth (in_name_order s) ms in
    let small : depth d ≤ max_depth = omega (arith, deep) in
    ap (λ b. if b then of_data (read t) else Err 1) (is_utf8-from_IsUtf8 t utf8)
    ∙ ap of_data (h small ∙ ap (λ (x : Data). Some x) ordered)
    ∙ of-data_with (members_of moment_data ms) (members_from (in_name_order s))
    ∙ ap₂ both_of (flags-members_from (in_name_order s)) (values-members_of moment_data as_moment ms (moments-read ms last.in_time))
