-- The helpers that are read of a sound tree are sound.
use Rattle.std.proofs.Common.{◌≡◌, ◌∙◌, ap, sym, subst, refl, ℕ, zero, suc, ◌+◌, ◌≤◌, Bool, true, false, List, [], ◌∷◌, ◌++◌, length, map, Option, Some, None, Ok, Err, ℤ, pos, arith, length-append, inl, inr}
use Rattle.std.specs.Prelude.{◌==◌, ◌&&◌, ◌||◌, not, if◌then◌else◌, nat_le, int_le, neg_ℤ, bytes_eq, codes, flat_map, option_map, option_and_then, slice_get, unwrap_or}
use Rattle.std.specs.List.{list_all, list_any}
use Rattle.std.specs.Option.{option_map_or}
use Rattle.std.proofs.lemmas.Bool.{and_parts, le-leb, leb-true}
use Rattle.std.proofs.lemmas.List.{append_cancel_left, length-map, map-append}
use Rattle.std.proofs.lemmas.List.Folds.{list_any-append}
use Rattle.std.proofs.lemmas.Option.{slice_get_cases}
use Rattle.std.proofs.lemmas.Slice.Eq.{bytes_eq-Decides}
use Rattle.ha_value.specs.Ids.{entity_text, is_name}
use Rattle.ha_clock.specs.SpanText.{number_of}
use Rattle.ha_config.specs.declared.helper.Helper.{Helper}
use Rattle.ha_config.specs.declared.helper.HelperKind.{HelperKind}
use Rattle.ha_config.specs.Sound.{are_sound_helpers, is_sound_helper, is_sound_kind, is_whole_in_range}
use Rattle.ha_config.specs.ValueFacts.{all_distinct}
use Rattle.ha_config.specs.Words.{same}
use Rattle.yaml_scan.specs.declared.fault.Code.TheVariants as code
use Rattle.yaml_tree.specs.declared.node.NodeKind.TheOpen.{NodeKind-F}
use Rattle.yaml_tree.specs.Readers.{Shape, shape_of, is_null_word}
use Rattle.conf_field.specs.declared.key.Key.{Key}
use Rattle.conf_field.specs.declared.key.Key.TheVariants as key
use Rattle.conf_field.specs.Holds.{Holds, Each, IfThere}
use Rattle.conf_field.specs.Keys.{text_of}
use Rattle.conf_field.specs.Readings.{Read, bad, behind, each, each_behind, fault, made, unless}
use Rattle.conf_field.specs.Fields.{Pair, field, get, keys, names, optional, place, row, value}
use Rattle.conf_field.specs.Kinds.{flag, within}
use Rattle.conf_field.specs.Spans.{span}
use Rattle.conf_laws.proofs.Joined.{both_lists, one_more, pair}
use Rattle.conf_laws.proofs.Down.{AreSoundPairs, IsSoundPair, IsSoundShape, sound_inside}
use Rattle.conf_laws.proofs.Parts.{either_way, field_sound, finish, known, made_of, of_get, of_scalar, unknown, weaker, with}
use Rattle.conf_auto.specs.HelperMaps.{bound, counter_kind, counter_rows, first_number, flag_kind, flag_rows, helper, helpers_in, helpers_of, id_fault, in_map, in_order, is_apt, made_counter, made_flag, made_timer, most, named, named_by, numbers, or_none, pairs_by, passing, second_of, shape_pairs, signed, step_number, timer_kind, timer_rows, too_many, whole_from}

-- ---- what each kind is

-- a map's pairs of which there are none
none_pairs : AreSoundPairs []
none_pairs = record { distinct = refl; each = tt; few = omega arith }

-- of a kind of this domain
abbrev OfDomain : List ℕ → HelperKind → Type 0
OfDomain d k = is_sound_kind d k ≡ true

flag_sound : (line : ℕ) (ps : List Pair) → AreSoundPairs ps → Holds (OfDomain (codes "input_boolean")) (flag_kind line ps)
flag_sound line ps s = finish (with (unknown (keys flag_rows ps)) (unknown (get key.Initial ps flag))) (OfDomain (codes "input_boolean")) made_flag (λ x h. refl)

timer_sound : (line : ℕ) (ps : List Pair) → AreSoundPairs ps → Holds (OfDomain (codes "timer")) (timer_kind line ps)
timer_sound line ps s = finish (with (unknown (keys timer_rows ps)) (unknown (get key.Duration ps span))) (OfDomain (codes "timer")) made_timer (λ x h. refl)

-- ---- the numbers of a counter

abbrev InRange : ℤ → Type 0
InRange z = is_whole_in_range z ≡ true

abbrev IsStep : ℤ → Type 0
IsStep z = InRange z × (int_le (pos 1) z ≡ true)

-- what is within two numbers
within_is : (low n m : ℕ) → within low most n ≡ Some m → (m ≡ n) × (low ≤ m) × (nat_le m most ≡ true)
within_is low n m h = by (nat_le low n && nat_le n most) refl h
  where
    by : (b : Bool) → (nat_le low n && nat_le n most) ≡ b → (if b then Some n else None) ≡ Some m → (m ≡ n) × (low ≤ m) × (nat_le m most ≡ true)
    by true e k =
        let is : n ≡ m = cc in
        let two = and_parts (nat_le low n) (nat_le n most) e in
        (sym is, subst (λ q. low ≤ q) is (leb-true low n two.0), subst (λ q. nat_le q most ≡ true) is two.1)
    by false e k = absurd cc

one_within : (low : ℕ) (o : Option ℕ) (z : ℤ) → option_map pos (option_and_then (within low most) o) ≡ Some z → (n : ℕ) × (z ≡ pos n) × (low ≤ n) × (nat_le n most ≡ true)
one_within low None z h = absurd cc
one_within low (Some n) z h = by (within low most n) refl h
  where
    by : (p : Option ℕ) → within low most n ≡ p → option_map pos p ≡ Some z → (m : ℕ) × (z ≡ pos m) × (low ≤ m) × (nat_le m most ≡ true)
    by None e k = absurd cc
    by (Some m) e k = (let is : pos m ≡ z = cc in let w = within_is low n m e in (m, sym is, w.1, w.2))

first_sound : (t : List ℕ) (z : ℤ) → whole_from 0 t ≡ Some z → InRange z
first_sound t z h = (let w = one_within 0 (number_of t) z h in subst InRange (sym w.1) w.3)

step_sound : (t : List ℕ) (z : ℤ) → whole_from 1 t ≡ Some z → IsStep z
step_sound t z h = (let w = one_within 1 (number_of t) z h in subst IsStep (sym w.1) (w.3, le-leb 1 w.0 w.2))

turned : (m : ℕ) → nat_le m most ≡ true → InRange (neg_ℤ (pos m))
turned zero le = le
turned (suc m) le = le

most_most : nat_le most most ≡ true
most_most = le-leb most most (omega arith)

-- one below zero
below : (o : Option ℕ) (z : ℤ) → option_map (λ n. neg_ℤ (pos n)) (option_and_then (within 0 most) o) ≡ Some z → InRange z
below None z h = absurd cc
below (Some n) z h = by (within 0 most n) refl h
  where
    by : (p : Option ℕ) → within 0 most n ≡ p → option_map (λ m. neg_ℤ (pos m)) p ≡ Some z → InRange z
    by None e k = absurd cc
    by (Some m) e k = (let is : neg_ℤ (pos m) ≡ z = cc in subst InRange is (turned m (within_is 0 n m e).2))

bound_sound : (t : List ℕ) (z : ℤ) → signed t ≡ Some z → InRange z
bound_sound [] z h = absurd cc
bound_sound (b ∷ bs) z h = by (b == 45) h
  where
    by : (c : Bool) → (if c then option_map (λ n. neg_ℤ (pos n)) (option_and_then (within 0 most) (number_of bs)) else whole_from 0 (b ∷ bs)) ≡ Some z → InRange z
    by true k = below (number_of bs) z k
    by false k = first_sound (b ∷ bs) z k

-- a counter's parts that are read, and the counter of them where its bounds fit
counter_made : (initial step least greatest : ℤ) → InRange initial → IsStep step → InRange least → InRange greatest → is_apt (HelperKind.Counter initial step least greatest) ≡ true
    → OfDomain (codes "counter") (HelperKind.Counter initial step least greatest)
counter_made initial step least greatest i s l g apt =
    let two = and_parts (int_le least initial) (int_le initial greatest) apt in
    let a = pair (is_whole_in_range initial) (is_whole_in_range step) i s.0 in
    let b = pair (is_whole_in_range initial && is_whole_in_range step) (is_whole_in_range least) a l in
    let c = pair (is_whole_in_range initial && is_whole_in_range step && is_whole_in_range least) (is_whole_in_range greatest) b g in
    let d = pair (is_whole_in_range initial && is_whole_in_range step && is_whole_in_range least && is_whole_in_range greatest) (int_le (pos 1) step) c s.1 in
    let e = pair (is_whole_in_range initial && is_whole_in_range step && is_whole_in_range least && is_whole_in_range greatest && int_le (pos 1) step) (int_le least initial) d two.0 in
    pair (is_whole_in_range initial && is_whole_in_range step && is_whole_in_range least && is_whole_in_range greatest && int_le (pos 1) step && int_le least initial) (int_le initial greatest) e two.1

or_default : (P : ℤ → Type 0) (o : Option ℤ) (z : ℤ) → IfThere P o → P z → P (unwrap_or o z)
or_default P (Some y) z h d = h
or_default P None z h d = d

abbrev FitsIn : HelperKind → Type 0
FitsIn k = is_apt k ≡ true → OfDomain (codes "counter") k

numbers_sound : (ps : List Pair) → AreSoundPairs ps → Holds FitsIn (made made_counter (numbers ps))
numbers_sound ps s =
    finish
    (with (known (IfThere InRange) (get key.Initial ps first_number) (of_get InRange first_number (λ line n k. of_scalar InRange code.Number (whole_from 0) first_sound line n) key.Initial ps s))
    (with (known (IfThere IsStep) (get key.Step ps step_number) (of_get IsStep step_number (λ line n k. of_scalar IsStep code.Number (whole_from 1) step_sound line n) key.Step ps s))
    (with (known (IfThere InRange) (get key.Minimum ps bound) (of_get InRange bound (λ line n k. of_scalar InRange code.Number signed bound_sound line n) key.Minimum ps s))
    (known (IfThere InRange) (get key.Maximum ps bound) (of_get InRange bound (λ line n k. of_scalar InRange code.Number signed bound_sound line n) key.Maximum ps s)))))
    FitsIn made_counter
    (λ x h apt. counter_made (unwrap_or x.0 (pos 0)) (unwrap_or x.1.0 (pos 1)) (unwrap_or x.1.1.0 (neg_ℤ (pos most))) (unwrap_or x.1.1.1 (pos most))
    (or_default InRange x.0 (pos 0) h.0 refl) (or_default IsStep x.1.0 (pos 1) h.1.0 (refl, refl)) (or_default InRange x.1.1.0 (neg_ℤ (pos most)) h.1.1.0 (turned most most_most)) (or_default InRange x.1.1.1 (pos most) h.1.1.1 most_most) apt)

passing_sound : (line : ℕ) (r : Read HelperKind) → Holds FitsIn r → Holds (OfDomain (codes "counter")) (passing is_apt (fault line code.Number) r)
passing_sound line (Ok k) h = by (is_apt k) h
  where
    by : (b : Bool) → (b ≡ true → OfDomain (codes "counter") k) → Holds (OfDomain (codes "counter")) (if b then Ok k else Err (fault line code.Number))
    by true f = f refl
    by false f = tt
passing_sound line (Err g) h = tt

counter_sound : (line : ℕ) (ps : List Pair) → AreSoundPairs ps → Holds (OfDomain (codes "counter")) (counter_kind line ps)
counter_sound line ps s =
    finish
    (with (unknown (keys counter_rows ps))
    (known (OfDomain (codes "counter")) (passing is_apt (fault line code.Number) (made made_counter (numbers ps))) (passing_sound line (made made_counter (numbers ps)) (numbers_sound ps s))))
    (OfDomain (codes "counter")) second_of (λ x h. h.1)

-- ---- the helpers of one key

abbrev text : Helper → List ℕ
text h = entity_text h.entity

abbrev key_of : Pair → List ℕ
key_of p = p.0

-- the text of an id of the domain
abbrev front : List ℕ → List ℕ → List ℕ
front d k = d ++ 46 ∷ k

id_holds : (p : Pair) → Holds (λ u. is_name p.0 ≡ true) (unless (id_fault p))
id_holds p = by (is_name p.0)
  where
    by : (b : Bool) → Holds (λ (u : Unit {0}). b ≡ true) (unless (if b then None else Some (fault p.1 code.EntityId)))
    by true = refl
    by false = tt

module _ (d : List ℕ) (read : ℕ → List Pair → Read HelperKind) (domain : is_name d ≡ true) (kinds : (line : ℕ) (ps : List Pair) → AreSoundPairs ps → Holds (OfDomain d) (read line ps)) where
  map_sound : (line n : ℕ) (shape : Shape) → IsSoundShape shape → Holds (OfDomain d) (pairs_by (read line) n shape)
  map_sound line n (NodeKind-F.Scalar t plain) s = either_way (OfDomain d) (plain && is_null_word t) (read line []) (bad n code.Kind) (kinds line [] none_pairs) tt
  map_sound line n (NodeKind-F.List items) s = tt
  map_sound line n (NodeKind-F.Map pairs) s = kinds line pairs s

  -- the helper of a pair is sound, and has the id of the key
  abbrev IsOf : Pair → Helper → Type 0
  IsOf p h = (is_sound_helper h ≡ true) × (text h ≡ front d p.0)

  helper_of_pair : (p : Pair) → IsSoundPair p → Holds (IsOf p) (helper d read p)
  helper_of_pair p s =
      finish
      (with (known (λ u. is_name p.0 ≡ true) (unless (id_fault p)) (id_holds p))
      (known (OfDomain d) (in_map (read p.1) (place p) p.2) (map_sound p.1 (place p) (shape_of p.2) (sound_inside p.2 s.0))))
      (IsOf p) (named d p)
      (λ x h. (pair (is_name d && is_name p.0) (is_sound_kind d x.1) (pair (is_name d) (is_name p.0) domain h.0) h.1, refl))

  -- each is sound, and these are their ids
  abbrev Named : List (List ℕ) → List Helper → Type 0
  Named keys' hs = (list_all is_sound_helper hs ≡ true) × (map text hs ≡ map (front d) keys')

  one_named : (before : Read (List Helper)) (r : Read Helper) (done : List (List ℕ)) (p : Pair) → Holds (Named done) before → Holds (IsOf p) r → Holds (Named (done ++ (p.0 ∷ []))) (behind before r)
  one_named (Ok hs) (Ok h) done p a b =
      (one_more is_sound_helper hs h a.0 b.0, map-append text hs (h ∷ []) ∙ (λ i. a.1 i ++ (b.1 i ∷ [])) ∙ sym (map-append (front d) done (p.0 ∷ [])))
  one_named (Ok hs) (Err g) done p a b = tt
  one_named (Err f) (Ok h) done p a b = tt
  one_named (Err f) (Err g) done p a b = tt

  along : (before : Read (List Helper)) (done : List (List ℕ)) (ps : List Pair) → Holds (Named done) before → Each IsSoundPair ps → Holds (Named (done ++ map key_of ps)) (each_behind (helper d read) before ps)
  unfolding each_behind
  along before done [] h s = weaker (Named done) (Named (done ++ [])) before (λ hs k. (k.0, k.1 ∙ ap (map (front d)) (sym (none_more done)))) h
    where
      none_more : (xs : List (List ℕ)) → xs ++ [] ≡ xs
      none_more [] = refl
      none_more (x ∷ xs) = ap (λ l. x ∷ l) (none_more xs)
  along before done (p ∷ ps) h s =
      weaker (Named ((done ++ (p.0 ∷ [])) ++ map key_of ps)) (Named (done ++ map key_of (p ∷ ps))) (each_behind (helper d read) (behind before (helper d read p)) ps)
      (λ hs k. (k.0, k.1 ∙ ap (map (front d)) (moved done p.0 (map key_of ps))))
      (along (behind before (helper d read p)) (done ++ (p.0 ∷ [])) ps (one_named before (helper d read p) done p h (helper_of_pair p s.0)) s.1)
    where
      moved : (xs : List (List ℕ)) (k : List ℕ) (ys : List (List ℕ)) → (xs ++ (k ∷ [])) ++ ys ≡ xs ++ (k ∷ ys)
      moved [] k ys = refl
      moved (x ∷ xs) k ys = ap (λ l. x ∷ l) (moved xs k ys)

  -- the helpers under a key: each is sound, their ids have distinct names, and there are at most as many as the key's value has pairs
  record AreUnder (n : ℕ) (hs : List Helper) : Type 0 where
    each : list_all is_sound_helper hs ≡ true
    ids : List (List ℕ)
    distinct : all_distinct ids ≡ true
    texts : map text hs ≡ map (front d) ids
    few : length hs ≤ n

  none_under : (n : ℕ) → AreUnder n []
  none_under n = record { each = refl; ids = []; distinct = refl; texts = refl; few = omega arith }

  pairs_under : (ps : List Pair) → AreSoundPairs ps → Holds (AreUnder (length ps)) (each (helper d read) ps)
  pairs_under ps s =
      weaker (Named (map key_of ps)) (AreUnder (length ps)) (each (helper d read) ps)
      (λ hs k. record {
        each = k.0;
        ids = map key_of ps;
        distinct = s.distinct;
        texts = k.1;
        few = omega (arith, ap length k.1, length-map hs text, length-map (map key_of ps) (front d), length-map ps key_of);
      })
      (along (Ok []) [] ps (refl, refl) s.each)

  under_shape : (line : ℕ) (shape : Shape) → IsSoundShape shape → Holds (AreUnder (length (shape_pairs shape))) (pairs_by (each (helper d read)) line shape)
  under_shape line (NodeKind-F.Scalar t plain) s = either_way (AreUnder 0) (plain && is_null_word t) (each (helper d read) []) (bad line code.Kind) (pairs_under [] none_pairs) tt
  under_shape line (NodeKind-F.List items) s = tt
  under_shape line (NodeKind-F.Map pairs) s = pairs_under pairs s

-- how many helpers a field names
abbrev count_in : Option Pair → ℕ
count_in o = option_map_or (λ p. length (shape_pairs (shape_of p.2))) o 0

module _ (d : List ℕ) (read : ℕ → List Pair → Read HelperKind) (domain : is_name d ≡ true) (kinds : (line : ℕ) (ps : List Pair) → AreSoundPairs ps → Holds (OfDomain d) (read line ps)) where
  abbrev UnderField : Option Pair → Option (List Helper) → Type 0
  UnderField o v = AreUnder d read domain kinds (count_in o) (or_none v)

  get_under : (k : Key) (ps : List Pair) → AreSoundPairs ps → Holds (UnderField (field (row k) ps)) (get k ps (helpers_of d read))
  get_under k ps s = by (field (row k) ps) (field_sound (row k) ps s)
    where
      by : (o : Option Pair) → IfThere IsSoundPair o → Holds (UnderField o) (optional (helpers_of d read) o)
      by None h = none_under d read domain kinds 0
      by (Some p) h =
          made_of (AreUnder d read domain kinds (count_in (Some p))) (UnderField (Some p)) Some (value (helpers_of d read) p) (λ hs u. u)
          (under_shape d read domain kinds (place p) (shape_of p.2) (sound_inside p.2 h.0))

-- ---- how many there are

-- a key that is of one row is of no other
apart : (k l : Key) (t : List ℕ) → (names (row l) (text_of k) ≡ false) → names (row k) t ≡ true → names (row l) t ≡ false
apart k l t other here = (let is : text_of k ≡ t = (bytes_eq-Decides (text_of k) t).0 (or_right (bytes_eq (text_of k) t) here) in ap (names (row l)) (sym is) ∙ other)
  where
    or_right : (b : Bool) → (b || false) ≡ true → b ≡ true
    or_right true h = refl
    or_right false h = absurd cc

module _ where
  abbrev r1 : Key
  r1 = key.InputBoolean

  abbrev r2 : Key
  r2 = key.Counter

  abbrev r3 : Key
  r3 = key.Timer

  abbrev total_in : List Pair → ℕ
  total_in ps = count_in (field (row r1) ps) + count_in (field (row r2) ps) + count_in (field (row r3) ps)

  abbrev here_in : Pair → List Pair
  here_in p = shape_pairs (shape_of p.2)

  abbrev first_or : Pair → Bool → ℕ → ℕ
  first_or p b n = if b then length (here_in p) else n

  -- the helpers of the first field of each key are among those that are named
  fields_within : (ps : List Pair) → total_in ps ≤ length (flat_map named_by ps)
  fields_within [] = omega arith
  fields_within (p ∷ ps) = by (names (row r1) p.0) (names (row r2) p.0) (names (row r3) p.0) refl refl refl (fields_within ps)
    where
      sum : length (named_by p ++ flat_map named_by ps) ≡ length (named_by p) + length (flat_map named_by ps)
      sum = length-append (named_by p) (flat_map named_by ps)

      field_by : (k : Key) (b : Bool) → names (row k) p.0 ≡ b → count_in (field (row k) (p ∷ ps)) ≡ first_or p b (count_in (field (row k) ps))
      field_by k true e = (λ i. count_in (if e i then Some p else field (row k) ps))
      field_by k false e = (λ i. count_in (if e i then Some p else field (row k) ps))

      named : (a b c : Bool) → names (row r1) p.0 ≡ a → names (row r2) p.0 ≡ b → names (row r3) p.0 ≡ c → named_by p ≡ (if a || (b || (c || false)) then here_in p else [])
      named a b c x y z = (λ i. if x i || (y i || (z i || false)) then here_in p else [])

      by : (a b c : Bool) → names (row r1) p.0 ≡ a → names (row r2) p.0 ≡ b → names (row r3) p.0 ≡ c → total_in ps ≤ length (flat_map named_by ps) → total_in (p ∷ ps) ≤ length (named_by p ++ flat_map named_by ps)
      by true b c x y z rest =
          let no2 = apart r1 r2 p.0 refl x in
          let no3 = apart r1 r3 p.0 refl x in
          omega (arith, sum, ap length (named true b c x y z), field_by r1 true x, field_by r2 false no2, field_by r3 false no3, rest)
      by false true c x y z rest =
          let no3 = apart r2 r3 p.0 refl y in
          omega (arith, sum, ap length (named false true c x y z), field_by r1 false x, field_by r2 true y, field_by r3 false no3, rest)
      by false false true x y z rest =
          omega (arith, sum, ap length (named false false true x y z), field_by r1 false x, field_by r2 false y, field_by r3 true z, rest)
      by false false false x y z rest =
          omega (arith, sum, ap length (named false false false x y z), field_by r1 false x, field_by r2 false y, field_by r3 false z, rest)

limit_holds : (ps : List Pair) → Holds (λ u. length (flat_map named_by ps) ≤ 1_024) (unless (too_many ps))
limit_holds ps = elim (slice_get_cases (flat_map named_by ps) 1_024).1 [ inl found ↦ over found.0 found.2 | inr past ↦ within_it past.0 past.1 ]
  where
    over : (p : Pair) → slice_get (flat_map named_by ps) 1_024 ≡ Some p → Holds (λ (u : Unit {0}). length (flat_map named_by ps) ≤ 1_024) (unless (too_many ps))
    over p e = subst (λ (o : Option Pair). Holds (λ (u : Unit {0}). length (flat_map named_by ps) ≤ 1_024) (unless (option_map (λ (x : Pair). fault (place x) code.Limit) o))) (sym e) tt

    within_it : length (flat_map named_by ps) ≤ 1_024 → slice_get (flat_map named_by ps) 1_024 ≡ None → Holds (λ (u : Unit {0}). length (flat_map named_by ps) ≤ 1_024) (unless (too_many ps))
    within_it le e = subst (λ (o : Option Pair). Holds (λ (u : Unit {0}). length (flat_map named_by ps) ≤ 1_024) (unless (option_map (λ (x : Pair). fault (place x) code.Limit) o))) (sym e) le

-- ---- their ids are distinct

agree : (p q : Bool) → (p ≡ true → q ≡ true) → (q ≡ true → p ≡ true) → p ≡ q
agree true q h k = sym (h refl)
agree false true h k = k refl
agree false false h k = refl

same_front : (d a b : List ℕ) → same (front d a) (front d b) ≡ same a b
same_front d a b =
    agree (same (front d a) (front d b)) (same a b)
    (λ h. (bytes_eq-Decides a b).1 (tail (append_cancel_left d (46 ∷ a) (46 ∷ b) ((bytes_eq-Decides (front d a) (front d b)).0 h))))
    (λ h. (bytes_eq-Decides (front d a) (front d b)).1 (ap (front d) ((bytes_eq-Decides a b).0 h)))
  where
    tail : 46 ∷ a ≡ 46 ∷ b → a ≡ b
    tail e = cc

any_front : (d k : List ℕ) (ks : List (List ℕ)) → list_any (same (front d k)) (map (front d) ks) ≡ list_any (same k) ks
any_front d k [] = refl
any_front d k (x ∷ ks) = (λ i. same_front d k x i || any_front d k ks i)

distinct_front : (d : List ℕ) (ks : List (List ℕ)) → all_distinct ks ≡ true → all_distinct (map (front d) ks) ≡ true
distinct_front d [] h = refl
distinct_front d (k ∷ ks) h =
    let parts = and_parts (not (list_any (same k) ks)) (all_distinct ks) h in
    pair (not (list_any (same (front d k)) (map (front d) ks))) (all_distinct (map (front d) ks)) (ap not (any_front d k ks) ∙ parts.0) (distinct_front d ks parts.1)

-- a list behind one of which it has no member
distinct_both : (xs ys : List (List ℕ)) → all_distinct xs ≡ true → all_distinct ys ≡ true → Each (λ x. list_any (same x) ys ≡ false) xs → all_distinct (xs ++ ys) ≡ true
distinct_both [] ys a b h = b
distinct_both (x ∷ xs) ys a b h =
    let parts = and_parts (not (list_any (same x) xs)) (all_distinct xs) a in
    pair (not (list_any (same x) (xs ++ ys))) (all_distinct (xs ++ ys))
    (ap not (list_any-append (same x) xs ys) ∙ both_not (list_any (same x) xs) (list_any (same x) ys) parts.0 h.0)
    (distinct_both xs ys parts.1 b h.1)
  where
    both_not : (p q : Bool) → not p ≡ true → q ≡ false → not (p || q) ≡ true
    both_not true q n e = absurd cc
    both_not false q n e = ap not e

-- ids of two domains
module _ (d e : List ℕ) (differ : (a b : List ℕ) → same (front d a) (front e b) ≡ false) where
  none_of : (a : List ℕ) (ks : List (List ℕ)) → list_any (same (front d a)) (map (front e) ks) ≡ false
  none_of a [] = refl
  none_of a (k ∷ ks) = (λ i. differ a k i || list_any (same (front d a)) (map (front e) ks)) ∙ none_of a ks

  each_none : (as' ks : List (List ℕ)) → Each (λ x. list_any (same x) (map (front e) ks) ≡ false) (map (front d) as')
  each_none [] ks = tt
  each_none (a ∷ as') ks = (none_of a ks, each_none as' ks)

each_of_both : (ys : List (List ℕ)) (xs zs : List (List ℕ)) → Each (λ x. list_any (same x) ys ≡ false) xs → Each (λ x. list_any (same x) ys ≡ false) zs → Each (λ x. list_any (same x) ys ≡ false) (xs ++ zs)
each_of_both ys [] zs a b = b
each_of_both ys (x ∷ xs) zs a b = (a.0, each_of_both ys xs zs a.1 b)

flag_counter : (a b : List ℕ) → same (front (codes "input_boolean") a) (front (codes "counter") b) ≡ false
flag_counter a b = refl

flag_timer : (a b : List ℕ) → same (front (codes "input_boolean") a) (front (codes "timer") b) ≡ false
flag_timer a b = refl

counter_timer : (a b : List ℕ) → same (front (codes "counter") a) (front (codes "timer") b) ≡ false
counter_timer a b = refl

-- ---- all of them

abbrev pub SoundHelpers : List Helper → Type 0
SoundHelpers hs = are_sound_helpers hs ≡ true

abbrev Flags : ℕ → List Helper → Type 0
Flags = AreUnder (codes "input_boolean") flag_kind refl flag_sound

abbrev Counters : ℕ → List Helper → Type 0
Counters = AreUnder (codes "counter") counter_kind refl counter_sound

abbrev Timers : ℕ → List Helper → Type 0
Timers = AreUnder (codes "timer") timer_kind refl timer_sound

all_sound : (l m n : ℕ) (fs cs ts : List Helper) → l + m + n ≤ 1_024 → Flags l fs → Counters m cs → Timers n ts → SoundHelpers (fs ++ cs ++ ts)
all_sound l m n fs cs ts few f c t =
    let hs : List Helper = fs ++ cs ++ ts in
    let count : length hs ≤ 1_024 = omega (arith, few, f.few, c.few, t.few, length-append (fs ++ cs) ts, length-append fs cs) in
    let F = map (front (codes "input_boolean")) f.ids in
    let C = map (front (codes "counter")) c.ids in
    let T = map (front (codes "timer")) t.ids in
    let texts : map text hs ≡ F ++ C ++ T
    = map-append text (fs ++ cs) ts ∙ (λ i. map-append text fs cs i ++ map text ts) ∙ (λ i. f.texts i ++ c.texts i ++ t.texts i) in
    let two = distinct_both F C (distinct_front (codes "input_boolean") f.ids f.distinct) (distinct_front (codes "counter") c.ids c.distinct)
    (each_none (codes "input_boolean") (codes "counter") flag_counter f.ids c.ids) in
    let three = distinct_both (F ++ C) T two (distinct_front (codes "timer") t.ids t.distinct)
    (each_of_both T F C (each_none (codes "input_boolean") (codes "timer") flag_timer f.ids t.ids) (each_none (codes "counter") (codes "timer") counter_timer c.ids t.ids)) in
    pair (nat_le (length hs) 1_024 && all_distinct (map text hs)) (list_all is_sound_helper hs)
    (pair (nat_le (length hs) 1_024) (all_distinct (map text hs)) (le-leb (length hs) 1_024 count) (ap all_distinct texts ∙ three))
    (both_lists is_sound_helper (fs ++ cs) ts (both_lists is_sound_helper fs cs f.each c.each) t.each)

-- LAW: what stands under the keys of helpers is sound
pub helpers_sound : (ps : List Pair) → AreSoundPairs ps → Holds SoundHelpers (helpers_in ps)
helpers_sound ps s =
    let l = count_in (field (row key.InputBoolean) ps) in
    let m = count_in (field (row key.Counter) ps) in
    let n = count_in (field (row key.Timer) ps) in
    finish
    (with (known (λ u. length (flat_map named_by ps) ≤ 1_024) (unless (too_many ps)) (limit_holds ps))
    (with (known (λ v. Flags l (or_none v)) (get key.InputBoolean ps (helpers_of (codes "input_boolean") flag_kind)) (get_under (codes "input_boolean") flag_kind refl flag_sound key.InputBoolean ps s))
    (with (known (λ v. Counters m (or_none v)) (get key.Counter ps (helpers_of (codes "counter") counter_kind)) (get_under (codes "counter") counter_kind refl counter_sound key.Counter ps s))
    (known (λ v. Timers n (or_none v)) (get key.Timer ps (helpers_of (codes "timer") timer_kind)) (get_under (codes "timer") timer_kind refl timer_sound key.Timer ps s)))))
    SoundHelpers in_order
    (λ x h. all_sound l m n (or_none x.1.0) (or_none x.1.1.0) (or_none x.1.1.1) (omega (arith, fields_within ps, h.0)) h.1.0 h.1.1.0 h.1.1.1)
