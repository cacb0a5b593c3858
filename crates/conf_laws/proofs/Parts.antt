-- What holds of each value that is read: of parts that are joined, of fields, and of lists.
use Rattle.std.proofs.Common.{◌≡◌, refl, ℕ, ◌+◌, ◌≤◌, Bool, true, false, cond, List, [], ◌∷◌, length, Option, Some, None, Ok, Err, arith, length-append}
use Rattle.std.specs.Prelude.{option_and_then}
use Rattle.std.specs.List.{list_all}
use Rattle.ha_config.specs.Sound.{if_there}
use Rattle.yaml_scan.specs.declared.fault.Code.{Code}
use Rattle.yaml_tree.specs.declared.node.Node.{Node}
use Rattle.yaml_tree.specs.declared.node.NodeKind.TheOpen.{NodeKind-F}
use Rattle.yaml_tree.specs.Readers.{Shape, line_of, shape_of, is_null}
use Rattle.conf_field.specs.declared.key.Key.{Key}
use Rattle.conf_field.specs.declared.table.Row.{Row}
use Rattle.conf_field.specs.Holds.{Holds, Each, IfThere}
use Rattle.conf_field.specs.Readings.{Read, both, made, bad, or_bad, behind, each, each_behind, keep, kept_behind, kept, alone, and_maybe}
use Rattle.conf_field.specs.Fields.{Meaning, Pair, field, get, names, need, optional, row, value, wanted}
use Rattle.conf_field.specs.Kinds.{in_scalar, scalar, several, several_by, unless_null}
use Rattle.conf_field.specs.Sizes.{IsSoundTree}
use Rattle.conf_laws.proofs.Joined.{one_more, pair}
use Rattle.conf_laws.proofs.Down.{AreSoundPairs, IsSoundPair, IsSoundShape, found_each, most, sound_inside}

abbrev pub Passes : {A : Type 0} → (A → Bool) → A → Type 0
Passes test a = test a ≡ true

abbrev pub Anything : {A : Type 0} → A → Type 0
Anything a = Unit {0}

abbrev pub Two : {A B : Type 0} → (A → Type 0) → (B → Type 0) → A × B → Type 0
Two P Q x = P x.0 × Q x.1

pub anything : {A : Type 0} (r : Read A) → Holds Anything r
anything (Ok a) = tt
anything (Err f) = tt

pub joined : {A B : Type 0} (P : A → Type 0) (Q : B → Type 0) (a : Read A) (b : Read B) → Holds P a → Holds Q b → Holds (Two P Q) (both a b)
joined P Q (Ok a) (Ok b) p q = (p, q)
joined P Q (Ok a) (Err g) p q = tt
joined P Q (Err f) (Ok b) p q = tt
joined P Q (Err f) (Err g) p q = tt

pub made_of : {A B : Type 0} (P : A → Type 0) (Q : B → Type 0) (f : A → B) (r : Read A) → ((x : A) → P x → Q (f x)) → Holds P r → Holds Q (made f r)
made_of P Q f (Ok a) k p = k a p
made_of P Q f (Err e) k p = tt

pub weaker : {A : Type 0} (P Q : A → Type 0) (r : Read A) → ((x : A) → P x → Q x) → Holds P r → Holds Q r
weaker P Q (Ok a) k p = k a p
weaker P Q (Err e) k p = tt

-- ---- by a test, and by a value that may be there

pub either_way : {A : Type 0} (P : A → Type 0) (b : Bool) (x y : Read A) → Holds P x → Holds P y → Holds P (cond b x y)
either_way P true x y h k = h
either_way P false x y h k = k

pub if_some : {A : Type 0} (P : A → Type 0) (line : ℕ) (c : Code) (o : Option A) → ((a : A) → o ≡ Some a → P a) → Holds P (or_bad line c o)
if_some P line c (Some a) h = h a refl
if_some P line c None h = tt

pub of_scalar : {A : Type 0} (P : A → Type 0) (c : Code) (read : List ℕ → Option A) → ((t : List ℕ) (a : A) → read t ≡ Some a → P a) → (line : ℕ) (n : Node) → Holds P (in_scalar c read line n)
of_scalar {A} P c read h line n = by (scalar n)
  where
    by : (o : Option (List ℕ)) → Holds P (or_bad line c (option_and_then read o))
    by (Some t) = if_some P line c (read t) (h t)
    by None = tt

-- ---- fields of a sound map

-- the kind gives this of each sound node
abbrev pub Reads : {A : Type 0} → (A → Type 0) → Meaning A → Type 0
Reads P read = (line : ℕ) (n : Node) → IsSoundTree n → Holds P (read line n)

pub null_apart : {A : Type 0} (P : A → Type 0) (c : Code) (read : Node → Read A) → ((n : Node) → IsSoundTree n → Holds P (read n)) → Reads P (unless_null c read)
null_apart P c read h line n s = either_way P (is_null n) (bad line c) (read n) tt (h n s)

pub field_sound : (r : Row) (ps : List Pair) → AreSoundPairs ps → IfThere IsSoundPair (field r ps)
field_sound r ps h = found_each IsSoundPair (λ p. names r p.0) ps h.each

pub of_wanted : {A : Type 0} (P : A → Type 0) (c : Code) (read : Meaning A) → Reads P read → (line : ℕ) (o : Option Pair) → IfThere IsSoundPair o → Holds P (wanted c read line o)
of_wanted P c read h line (Some p) s = h _ p.2 s.0
of_wanted P c read h line None s = tt

pub of_optional : {A : Type 0} (P : A → Type 0) (read : Meaning A) → Reads P read → (o : Option Pair) → IfThere IsSoundPair o → Holds (IfThere P) (optional read o)
of_optional P read h None s = tt
of_optional P read h (Some p) s = made_of P (IfThere P) Some (value read p) (λ a k. k) (h _ p.2 s.0)

pub of_need : {A : Type 0} (P : A → Type 0) (read : Meaning A) → Reads P read → (k : Key) (line : ℕ) (ps : List Pair) → AreSoundPairs ps → Holds P (need k line ps read)
of_need P read h k line ps s = of_wanted P _ read h line (field (row k) ps) (field_sound (row k) ps s)

pub of_get : {A : Type 0} (P : A → Type 0) (read : Meaning A) → Reads P read → (k : Key) (ps : List Pair) → AreSoundPairs ps → Holds (IfThere P) (get k ps read)
of_get P read h k ps s = of_optional P read h (field (row k) ps) (field_sound (row k) ps s)

-- ---- lists

-- so many members, and each passes
abbrev pub AllOf : {A : Type 0} → (A → Bool) → ℕ → List A → Type 0
AllOf test n xs = (list_all test xs ≡ true) × (length xs ≤ n)

pub one_item : {A : Type 0} (test : A → Bool) (r : Read A) → Holds (Passes test) r → Holds (AllOf test 1) (made (λ a. a ∷ []) r)
one_item test r h = made_of (Passes test) (AllOf test 1) (λ a. a ∷ []) r (λ a k. (pair (test a) true k refl, omega arith)) h

behind_one : {A : Type 0} (test : A → Bool) (n : ℕ) (before : Read (List A)) (r : Read A) → Holds (AllOf test n) before → Holds (Passes test) r → Holds (AllOf test (n + 1)) (behind before r)
behind_one test n (Ok xs) (Ok x) p q = (one_more test xs x p.0 q, omega (arith, length-append xs (x ∷ []), p.1))
behind_one test n (Ok xs) (Err g) p q = tt
behind_one test n (Err f) (Ok x) p q = tt
behind_one test n (Err f) (Err g) p q = tt

pub grown : {A : Type 0} (test : A → Bool) (n m : ℕ) (r : Read (List A)) → n ≤ m → Holds (AllOf test n) r → Holds (AllOf test m) r
grown test n m r le h = weaker (AllOf test n) (AllOf test m) r (λ xs k. (k.0, omega (arith, k.1))) h

pub each_of : {X A : Type 0} (test : A → Bool) (read : X → Read A) (n : ℕ) (before : Read (List A)) (xs : List X)
    → Holds (AllOf test n) before → Each (λ x. Holds (Passes test) (read x)) xs → Holds (AllOf test (n + length xs)) (each_behind read before xs)
unfolding each_behind
each_of test read n before [] h all = grown test n (n + 0) before (omega arith) h
each_of test read n before (x ∷ xs) h all =
    grown test (n + 1 + length xs) (n + length (x ∷ xs)) (each_behind read (behind before (read x)) xs) (omega arith)
    (each_of test read (n + 1) (behind before (read x)) xs (behind_one test n before (read x) h all.0) all.1)

pub all_items : {X A : Type 0} (test : A → Bool) (read : X → Read A) (xs : List X) → Each (λ x. Holds (Passes test) (read x)) xs → Holds (AllOf test (length xs)) (each read xs)
all_items test read xs all = grown test (0 + length xs) (length xs) (each read xs) (omega arith) (each_of test read 0 (Ok []) xs (refl, omega arith) all)

maybe_one : {A : Type 0} (test : A → Bool) (n : ℕ) (xs : List A) (o : Option A) → AllOf test n xs → IfThere (Passes test) o → AllOf test (n + 1) (and_maybe xs o)
maybe_one test n xs None p q = (p.0, omega (arith, p.1))
maybe_one test n xs (Some x) p q = (one_more test xs x p.0 q, omega (arith, length-append xs (x ∷ []), p.1))

pub keep_one : {A : Type 0} (test : A → Bool) (n : ℕ) (before : Read (List A)) (r : Read (Option A)) → Holds (AllOf test n) before → Holds (IfThere (Passes test)) r → Holds (AllOf test (n + 1)) (keep before r)
keep_one test n (Ok xs) (Ok o) p q = maybe_one test n xs o p q
keep_one test n (Ok xs) (Err g) p q = tt
keep_one test n (Err f) (Ok o) p q = tt
keep_one test n (Err f) (Err g) p q = tt

pub kept_of : {X A : Type 0} (test : A → Bool) (read : X → Read (Option A)) (n : ℕ) (before : Read (List A)) (xs : List X)
    → Holds (AllOf test n) before → Each (λ x. Holds (IfThere (Passes test)) (read x)) xs → Holds (AllOf test (n + length xs)) (kept_behind read before xs)
unfolding kept_behind
kept_of test read n before [] h all = grown test n (n + 0) before (omega arith) h
kept_of test read n before (x ∷ xs) h all =
    grown test (n + 1 + length xs) (n + length (x ∷ xs)) (kept_behind read (keep before (read x)) xs) (omega arith)
    (kept_of test read (n + 1) (keep before (read x)) xs (keep_one test n before (read x) h all.0) all.1)

pub kept_items : {X A : Type 0} (test : A → Bool) (read : X → Read (Option A)) (xs : List X) → Each (λ x. Holds (IfThere (Passes test)) (read x)) xs → Holds (AllOf test (length xs)) (kept read xs)
kept_items test read xs all = grown test (0 + length xs) (length xs) (kept read xs) (omega arith) (kept_of test read 0 (Ok []) xs (refl, omega arith) all)

pub alone_of : {A : Type 0} (test : A → Bool) (r : Read (Option A)) → Holds (IfThere (Passes test)) r → Holds (AllOf test 1) (alone r)
alone_of test r h = made_of (IfThere (Passes test)) (AllOf test 1) (and_maybe []) r (λ o k. maybe_one test 0 [] o (refl, omega arith) k) h

-- each of a list of nodes, where each sound one gives it
pub each_node : {P Q : Node → Type 0} → ((n : Node) → P n → Q n) → (ns : List Node) → Each P ns → Each Q ns
each_node h [] all = tt
each_node h (n ∷ ns) all = (h n all.0, each_node h ns all.1)

-- one, or a list of them
pub one_or_more : {A : Type 0} (test : A → Bool) (read : Meaning A) → Reads (Passes test) read → Reads (AllOf test most) (several read)
one_or_more {A} test read h line n s = by (shape_of n) (sound_inside n s)
  where
    by : (shape : Shape) → IsSoundShape shape → Holds (AllOf test most) (several_by read line n shape)
    by (NodeKind-F.Scalar t plain) k = grown test 1 most (made (λ a. a ∷ []) (read line n)) (omega arith) (one_item test (read line n) (h line n s))
    by (NodeKind-F.List items) k =
        grown test (length items) most (each (λ item. read (line_of item) item) items) (omega (arith, k.few))
        (all_items test (λ item. read (line_of item) item) items (each_node {P = IsSoundTree} {Q = λ x. Holds (Passes test) (read (line_of x) x)} (λ x p. h (line_of x) x p) items k.each))
    by (NodeKind-F.Map pairs) k = grown test 1 most (made (λ a. a ∷ []) (read line n)) (omega arith) (one_item test (read line n) (h line n s))

-- ---- what is known of a reading

pub record Known (A : Type 0) : Type 1 where
  pub read : Read A
  pub what : A → Type 0
  pub holds : Holds what read

abbrev pub known : {A : Type 0} → (P : A → Type 0) → (r : Read A) → Holds P r → Known A
known P r h = record { read = r; what = P; holds = h }

abbrev pub unknown : {A : Type 0} → Read A → Known A
unknown r = record { read = r; what = Anything; holds = anything r }

abbrev pub with : {A B : Type 0} → Known A → Known B → Known (A × B)
with a b = record { read = both a.read b.read; what = Two a.what b.what; holds = joined a.what b.what a.read b.read a.holds b.holds }

pub finish : {A B : Type 0} (k : Known A) (Q : B → Type 0) (f : A → B) → ((x : A) → k.what x → Q (f x)) → Holds Q (made f k.read)
finish k Q f h = made_of k.what Q f k.read h k.holds

pub there : {A : Type 0} (test : A → Bool) (o : Option A) → IfThere (Passes test) o → if_there test o ≡ true
there test None h = refl
there test (Some a) h = h
