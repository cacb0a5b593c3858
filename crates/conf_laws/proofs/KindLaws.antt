-- What holds of the values of each kind.
use Rattle.std.proofs.Common.{◌≡◌, subst, refl, ℕ, ◌+◌, ◌*◌, ◌-◌, ◌≤◌, ◌<◌, Bool, true, false, cond, List, [], ◌∷◌, ◌++◌, length, Option, Some, None, Result, Ok, Err, arith, length-append}
use Rattle.std.specs.Prelude.{◌&&◌, ◌==◌, nat_lt}
use Rattle.std.proofs.lemmas.Bool.{and_parts, lt-ltb, ltb-true}
use Rattle.ha_value.specs.declared.value.EntityId.{EntityId as Id}
use Rattle.ha_value.specs.Ids.{read_entity}
use Rattle.ha_value.specs.Lists.{before_first, after_first}
use Rattle.ha_value.specs.Numbers.{is_in_range, read_number}
use Rattle.ha_config.specs.Sound.{is_second_of_day, is_short}
use Rattle.yaml_scan.specs.declared.fault.Fault.{Fault}
use Rattle.yaml_scan.specs.declared.fault.Code.TheVariants as code
use Rattle.yaml_scan.specs.Words.{trimmed, without_blanks}
use Rattle.yaml_tree.specs.declared.node.Node.{Node}
use Rattle.yaml_tree.specs.declared.node.NodeKind.TheOpen.{NodeKind-F}
use Rattle.yaml_tree.specs.Readers.{Shape, line_of, shape_of, is_null_word, text as text_of, text_by, texts as texts_of, texts_by, texts_from, then_more}
use Rattle.yaml_tree.specs.Entities.{Ids, entities as entities_of, ids_by, items_ids, part_id, some_ids, split_by, split_from, text_ids, then_ids, with_id}
use Rattle.conf_field.specs.Holds.{Holds}
use Rattle.conf_field.specs.Kinds.{behind_hours, entities, number, one_or_two, second_of, texts, time, time_of, two}
use Rattle.conf_field.specs.Sizes.{IsSoundTree, size, total}
use Rattle.conf_laws.proofs.Values.{read_in_range}
use Rattle.conf_laws.proofs.Joined.{short}
use Rattle.conf_laws.proofs.Down.{IsSoundShape, most, size-out, size_by, sound_inside}
use Rattle.conf_laws.proofs.Parts.{Passes, Reads, either_way, null_apart, of_scalar, weaker}

-- ---- texts

abbrev pub AtMost : {A : Type 0} → ℕ → List A → Type 0
AtMost n xs = length xs ≤ n

then_holds : (P : List (List ℕ) → Type 0) (r : Result (List ℕ) Fault) (more : List ℕ → Result (List (List ℕ)) Fault) → ((t : List ℕ) → Holds P (more t)) → Holds P (then_more r more)
then_holds P (Ok t) more h = h t
then_holds P (Err f) more h = tt

texts_count : (found : List (List ℕ)) (ns : List Node) → Holds (AtMost (length found + length ns)) (texts_from found ns)
unfolding texts_from
texts_count found [] = omega arith
texts_count found (n ∷ ns) =
    then_holds (AtMost (length found + length (n ∷ ns))) (text_of n) (λ t. texts_from (found ++ t ∷ []) ns)
    (λ t. weaker (AtMost (length (found ++ t ∷ []) + length ns)) (AtMost (length found + length (n ∷ ns))) (texts_from (found ++ t ∷ []) ns)
    (λ ts k. omega (arith, k, length-append found (t ∷ []))) (texts_count (found ++ t ∷ []) ns))

few_texts : (n : Node) → IsSoundTree n → Holds (AtMost most) (texts_of n)
few_texts n s = by (shape_of n) (sound_inside n s)
  where
    by : (shape : Shape) → IsSoundShape shape → Holds (AtMost most) (texts_by n shape)
    by (NodeKind-F.Scalar t plain) k = then_holds (AtMost most) (text_of n) (λ x. Ok (x ∷ [])) (λ x. omega arith)
    by (NodeKind-F.List items) k = weaker (AtMost (0 + length items)) (AtMost most) (texts_from [] items) (λ ts l. omega (arith, l, k.few)) (texts_count [] items)
    by (NodeKind-F.Map pairs) k = tt

pub short_most : {A : Type 0} (xs : List A) → length xs ≤ most → is_short xs ≡ true
short_most xs h = short xs (omega (arith, h))

pub short_texts : Reads (Passes is_short) texts
short_texts line n s =
    weaker (AtMost most) (Passes is_short) (texts line n) (λ ts k. short_most ts k) (null_apart (AtMost most) code.Kind texts_of few_texts line n s)

-- ---- entity ids

then_ids_hold : (P : List Id → Type 0) (Q : List Id → Type 0) (r : Ids) (more : List Id → Ids) → Holds Q r → ((ids : List Id) → Q ids → Holds P (more ids)) → Holds P (then_ids r more)
then_ids_hold P Q (Ok ids) more q h = h ids q
then_ids_hold P Q (Err f) more q h = tt

one_id : (line : ℕ) (found : List Id) (o : Option Id) → Holds (AtMost (length found + 1)) (with_id line found o)
one_id line found (Some id) = omega (arith, length-append found (id ∷ []))
one_id line found None = tt

split_count : (line : ℕ) (found : List Id) (part rest : List ℕ) → Holds (AtMost (length found + 1 + length rest)) (split_from line found part rest)
unfolding split_from
split_count line found part [] =
    weaker (AtMost (length found + 1)) (AtMost (length found + 1 + 0)) (part_id line found part) (λ ids k. omega (arith, k)) (one_id line found (read_entity (trimmed (without_blanks part))))
split_count line found part (b ∷ rest) =
    either_way (AtMost (length found + 1 + length (b ∷ rest))) (b == 44) (then_ids (part_id line found part) (λ ids. split_from line ids [] rest)) (split_from line found (part ++ b ∷ []) rest)
    (then_ids_hold (AtMost (length found + 1 + length (b ∷ rest))) (AtMost (length found + 1)) (part_id line found part) (λ ids. split_from line ids [] rest) (one_id line found (read_entity (trimmed (without_blanks part))))
    (λ ids k. weaker (AtMost (length ids + 1 + length rest)) (AtMost (length found + 1 + length (b ∷ rest))) (split_from line ids [] rest) (λ all l. omega (arith, k, l)) (split_count line ids [] rest)))
    (weaker (AtMost (length found + 1 + length rest)) (AtMost (length found + 1 + length (b ∷ rest))) (split_from line found (part ++ b ∷ []) rest) (λ all l. omega (arith, l)) (split_count line found (part ++ b ∷ []) rest))

text_size : (n : Node) → Holds (λ (t : List ℕ). 1 + length t ≤ size n) (text_of n)
text_size n = by (shape_of n) (size-out n)
  where
    by : (s : Shape) → size n ≡ size_by s → Holds (λ (t : List ℕ). 1 + length t ≤ size n) (text_by (line_of n) s)
    by (NodeKind-F.Scalar t plain) h = either_way (λ (t : List ℕ). 1 + length t ≤ size n) (plain && is_null_word t) (Err _) (Ok t) tt (omega (arith, h))
    by (NodeKind-F.List items) h = tt
    by (NodeKind-F.Map pairs) h = tt

text_count : (found : List Id) (n : Node) → Holds (AtMost (length found + size n)) (text_ids found n)
text_count found n = by (text_of n) (text_size n)
  where
    by : (r : Result (List ℕ) Fault) → Holds (λ (t : List ℕ). 1 + length t ≤ size n) r → Holds (AtMost (length found + size n)) (split_by (line_of n) found r)
    by (Ok t) h =
        weaker (AtMost (length found + 1 + length t)) (AtMost (length found + size n)) (split_from (line_of n) found [] t) (λ ids k. omega (arith, k, h)) (split_count (line_of n) found [] t)
    by (Err f) h = tt

items_count : (found : List Id) (ns : List Node) → Holds (AtMost (length found + total size ns)) (items_ids found ns)
unfolding items_ids
items_count found [] = omega arith
items_count found (n ∷ ns) =
    then_ids_hold (AtMost (length found + total size (n ∷ ns))) (AtMost (length found + size n)) (text_ids found n) (λ ids. items_ids ids ns) (text_count found n)
    (λ ids k. weaker (AtMost (length ids + total size ns)) (AtMost (length found + total size (n ∷ ns))) (items_ids ids ns) (λ all l. omega (arith, k, l)) (items_count ids ns))

some_hold : (P : List Id → Type 0) (line : ℕ) (r : Ids) → Holds P r → Holds P (some_ids line r)
some_hold P line (Ok []) h = tt
some_hold P line (Ok (id ∷ ids)) h = h
some_hold P line (Err f) h = tt

-- no more ids than the node has bytes and nodes
pub few_ids : (n : Node) → Holds (AtMost (size n)) (entities_of n)
few_ids n = by (shape_of n) (size-out n)
  where
    by : (s : Shape) → size n ≡ size_by s → Holds (AtMost (size n)) (ids_by n s)
    by (NodeKind-F.Scalar t plain) h = weaker (AtMost (0 + size n)) (AtMost (size n)) (text_ids [] n) (λ ids k. omega (arith, k)) (text_count [] n)
    by (NodeKind-F.List items) h =
        some_hold (AtMost (size n)) (line_of n) (items_ids [] items)
        (weaker (AtMost (0 + total size items)) (AtMost (size n)) (items_ids [] items) (λ ids k. omega (arith, k, h)) (items_count [] items))
    by (NodeKind-F.Map pairs) h = tt

pub short_entities : Reads (Passes is_short) entities
short_entities line n s =
    null_apart (Passes is_short) code.EntityId entities_of
    (λ m k. weaker (AtMost (size m)) (Passes is_short) (entities_of m) (λ ids l. short ids (omega (arith, l, k.small))) (few_ids m)) line n s

-- ---- numbers and times

pub ranged_number : Reads (Passes is_in_range) number
ranged_number line n s = of_scalar (Passes is_in_range) code.Number read_number read_in_range line n

seconds_below : (h m s : ℕ) → h < 24 → m < 60 → s < 60 → h * 3600 + m * 60 + s < 86_400
seconds_below h m s p q r = omega arith

day_second : (h m s : Option ℕ) (n : ℕ) → second_of h m s ≡ Some n → is_second_of_day n ≡ true
day_second (Some h) (Some m) (Some s) n e = by (nat_lt h 24 && (nat_lt m 60 && nat_lt s 60)) refl e
  where
    by : (b : Bool) → (nat_lt h 24 && (nat_lt m 60 && nat_lt s 60)) ≡ b → cond b (Some (h * 3600 + m * 60 + s)) None ≡ Some n → is_second_of_day n ≡ true
    by true t k =
        let one = and_parts (nat_lt h 24) (nat_lt m 60 && nat_lt s 60) t in
        let more = and_parts (nat_lt m 60) (nat_lt s 60) one.1 in
        let is : h * 3600 + m * 60 + s ≡ n = cc in
        lt-ltb n 86_400 (subst (λ x. x < 86_400) is (seconds_below h m s (ltb-true h 24 one.0) (ltb-true m 60 more.0) (ltb-true s 60 more.1)))
    by false t k = cc
day_second (Some h) (Some m) None n e = cc
day_second (Some h) None s n e = cc
day_second None m s n e = cc

pub second_in_day : (t : List ℕ) (n : ℕ) → time_of t ≡ Some n → is_second_of_day n ≡ true
second_in_day t n e = by (one_or_two (before_first 58 t)) (after_first 58 t) e
  where
    last : (h m : Option ℕ) (o : Option (List ℕ)) → elim o [ None ↦ second_of h m (Some 0) | Some s ↦ second_of h m (two s) ] ≡ Some n → is_second_of_day n ≡ true
    last h m None k = day_second h m (Some 0) n k
    last h m (Some s) k = day_second h m (two s) n k

    by : (h : Option ℕ) (o : Option (List ℕ)) → behind_hours h o ≡ Some n → is_second_of_day n ≡ true
    by h None k = cc
    by h (Some rest) k = last h (two (before_first 58 rest)) (after_first 58 rest) k

pub time_in_day : Reads (Passes is_second_of_day) time
time_in_day line n s = of_scalar (Passes is_second_of_day) code.Time time_of second_in_day line n
