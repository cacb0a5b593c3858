-- Values of any shape that are read, without templates, are plain; so is a map of them.
use Rattle.std.proofs.Common.{◌≡◌, ◌∙◌, ap, sym, subst, refl, ℕ, ◌+◌, Bool, true, false, List, [], ◌∷◌, ◌++◌, length, map, Option, Some, None, Ok, Err, arith, append_assoc}
use Rattle.std.specs.Prelude.{◌&&◌, option_map}
use Rattle.std.specs.List.{list_all}
use Rattle.std.proofs.lemmas.List.{length-map}
use Rattle.ha_value.specs.declared.value.Num.{Num}
use Rattle.ha_value.specs.declared.value.Value.{Value}
use Rattle.ha_value.specs.declared.value.Value.TheVariants as values
use Rattle.ha_value.specs.Numbers.{read_number}
use Rattle.ha_config.specs.ValueFacts.{all_distinct, are_sound_pairs, is_sound_value}
use Rattle.ha_config.specs.Sound.{all_short, has_short_lists, is_plain_value}
use Rattle.yaml_scan.specs.declared.fault.Code.TheVariants as code
use Rattle.yaml_tree.specs.declared.node.Node.{Node}
use Rattle.yaml_tree.specs.declared.node.NodeKind.TheOpen.{NodeKind-F}
use Rattle.yaml_tree.specs.Readers.{Shape, line_of, shape_of, is_null_word}
use Rattle.conf_field.specs.Holds.{Holds, Each}
use Rattle.conf_field.specs.Readings.{Read, made, or_bad, behind, each, each_behind}
use Rattle.conf_field.specs.Fields.{Pair}
use Rattle.conf_field.specs.Kinds.{flag_of, holds_template}
use Rattle.conf_field.specs.Trees.{Fields, data_by, fields_of}
use Rattle.conf_field.specs.Values.{bare_value, data_without_templates, is_number_form, number_or_text, plain_by, scalar_value, value_of}
use Rattle.conf_field.specs.Sizes.{IsSoundTree}
use Rattle.conf_field.proofs.TreeLaws.{tree-out, tree_by}
use Rattle.conf_laws.proofs.Joined.{all_passed, apart, one_more, pair}
use Rattle.conf_laws.proofs.Values.{PairsPlain, flag_plain, items_plain, null_plain, number_plain, pairs_plain, read_in_range, text_plain}
use Rattle.conf_laws.proofs.Down.{AreSoundPairs, EachInside, IsSoundPair, IsSoundShape, down, sound_inside}
use Rattle.conf_laws.proofs.Parts.{AllOf, Passes, Reads, all_items, either_way, made_of}

-- ---- the keys of a map stay

-- each value passes, and the keys are these
abbrev pub Keyed : {A : Type 0} → (A → Bool) → List (List ℕ) → Fields A → Type 0
Keyed test keys ps = (list_all (λ p. test p.1) ps ≡ true) × (map (λ p. p.0) ps ≡ keys)

keys_more : {A : Type 0} (xs : Fields A) (p : List ℕ × A) → map (λ (q : List ℕ × A). q.0) (xs ++ p ∷ []) ≡ map (λ q. q.0) xs ++ p.0 ∷ []
keys_more [] p = refl
keys_more (x ∷ xs) p = ap (λ ks. x.0 ∷ ks) (keys_more xs p)

keyed_behind : {A : Type 0} (test : A → Bool) (keys : List (List ℕ)) (key : List ℕ) (before : Read (Fields A)) (r : Read A)
    → Holds (Keyed test keys) before → Holds (Passes test) r → Holds (Keyed test (keys ++ key ∷ [])) (behind before (made (λ v. (key, v)) r))
keyed_behind test keys key (Ok xs) (Ok v) p q =
    (one_more (λ y. test y.1) xs (key, v) p.0 q, keys_more xs (key, v) ∙ ap (λ ks. ks ++ key ∷ []) p.1)
keyed_behind test keys key (Ok xs) (Err g) p q = tt
keyed_behind test keys key (Err f) (Ok v) p q = tt
keyed_behind test keys key (Err f) (Err g) p q = tt

keyed_from : {A : Type 0} (test : A → Bool) (read : Node → Read A) (keys : List (List ℕ)) (before : Read (Fields A)) (ps : List Pair)
    → Holds (Keyed test keys) before → Each (λ (p : Pair). Holds (Passes test) (read p.2)) ps
    → Holds (Keyed test (keys ++ map (λ (p : Pair). p.0) ps)) (each_behind (λ (p : Pair). made (λ v. (p.0, v)) (read p.2)) before ps)
unfolding each_behind
keyed_from test read keys before [] h all = subst (λ ks. Holds (Keyed test ks) before) (sym (no_more keys)) h
  where
    no_more : (ks : List (List ℕ)) → ks ++ [] ≡ ks
    no_more [] = refl
    no_more (k ∷ ks) = ap (λ x. k ∷ x) (no_more ks)
keyed_from test read keys before (p ∷ ps) h all =
    let rest = each_behind (λ (q : Pair). made (λ v. (q.0, v)) (read q.2)) (behind before (made (λ v. (p.0, v)) (read p.2))) ps in
    subst (λ ks. Holds (Keyed test ks) rest) (append_assoc keys (p.0 ∷ []) (map (λ (q : Pair). q.0) ps))
    (keyed_from test read (keys ++ p.0 ∷ []) (behind before (made (λ v. (p.0, v)) (read p.2))) ps (keyed_behind test keys p.0 before (read p.2) h all.0) all.1)

pub fields_keyed : {A : Type 0} (test : A → Bool) (read : Node → Read A) (ps : List Pair) → Each (λ (p : Pair). Holds (Passes test) (read p.2)) ps
    → Holds (Keyed test (map (λ (p : Pair). p.0) ps)) (fields_of read ps)
fields_keyed test read ps all = keyed_from test read [] (Ok []) ps (refl, refl) all

-- ---- values

abbrev pub Plain : Value → Type 0
Plain v = is_plain_value v ≡ true

number_holds : (line : ℕ) (t : List ℕ) (o : Option Num) → read_number t ≡ o → Holds Plain (or_bad line code.Number (option_map values.Number o))
number_holds line t (Some n) h = number_plain n (read_in_range t n h)
number_holds line t None h = tt

plain_holds : (line : ℕ) (t : List ℕ) (o : Option Bool) → Holds Plain (plain_by line t o)
plain_holds line t (Some b) = flag_plain b
plain_holds line t None =
    either_way Plain (is_null_word t) (Ok values.Null) (number_or_text line t) null_plain
    (either_way Plain (is_number_form t) (or_bad line code.Number (option_map values.Number (read_number t))) (Ok (values.Text t)) (number_holds line t (read_number t) refl) (text_plain t))

pub bare_plain : (line : ℕ) (t : List ℕ) (plain : Bool) → Holds Plain (bare_value line t plain)
bare_plain line t true = plain_holds line t (flag_of t)
bare_plain line t false = text_plain t

scalar_plain : (line : ℕ) (t : List ℕ) (plain : Bool) → Holds Plain (scalar_value line t plain)
scalar_plain line t plain = either_way Plain (holds_template t) (Err _) (bare_value line t plain) tt (bare_plain line t plain)

-- from all keyed values of a sound map
pub keyed_pairs : (pairs : List Pair) (ps : Fields Value) → AreSoundPairs pairs → Keyed is_plain_value (map (λ (p : Pair). p.0) pairs) ps → PairsPlain ps
keyed_pairs pairs ps s k =
    (ap all_distinct k.1 ∙ s.distinct, k.0, omega (arith, s.few, ap length k.1, length-map ps (λ (p : List ℕ × Value). p.0), length-map pairs (λ (p : Pair). p.0)))

abbrev ValueSound : Node → Type 0
ValueSound n = IsSoundTree n → Holds Plain (value_of n)

pairs_given : (ps : List Pair) → Each IsSoundPair ps → Each (λ (p : Pair). ValueSound p.2) ps → Each (λ (p : Pair). Holds Plain (value_of p.2)) ps
pairs_given [] s h = tt
pairs_given (p ∷ ps) s h = (h.0 s.0.0, pairs_given ps s.1 h.1)

items_given : (ns : List Node) → Each IsSoundTree ns → Each ValueSound ns → Each (λ n. Holds Plain (value_of n)) ns
items_given [] s h = tt
items_given (n ∷ ns) s h = (h.0 s.0, items_given ns s.1 h.1)

value_by : (line : ℕ) (s : Shape) → IsSoundShape s → EachInside ValueSound s → Holds Plain (tree_by scalar_value values.Items values.Pairs line s)
value_by line (NodeKind-F.Scalar t plain) s h = scalar_plain line t plain
value_by line (NodeKind-F.List items) s h =
    made_of (AllOf is_plain_value (length items)) Plain values.Items (each value_of items) (λ vs k. items_plain vs k.0 (omega (arith, k.1, s.few)))
    (all_items is_plain_value value_of items (items_given items s.each h))
value_by line (NodeKind-F.Map pairs) s h =
    made_of (Keyed is_plain_value (map (λ (p : Pair). p.0) pairs)) Plain values.Pairs (fields_of value_of pairs) (λ vs k. pairs_plain vs (keyed_pairs pairs vs s k))
    (fields_keyed is_plain_value value_of pairs (pairs_given pairs s.each h))

pub value_plain : (n : Node) → IsSoundTree n → Holds Plain (value_of n)
value_plain = down ValueSound (λ n h s.
    subst (Holds Plain) (sym (tree-out scalar_value values.Items values.Pairs n)) (value_by (line_of n) (shape_of n) (sound_inside n s) h))

-- ---- data

abbrev pub is_plain_data : Fields Value → Bool
is_plain_data ps = are_sound_pairs ps && all_short (λ p. has_short_lists p.1) ps

plain_data : (ps : Fields Value) → PairsPlain ps → is_plain_data ps ≡ true
plain_data ps h =
    let two = apart (λ (p : List ℕ × Value). is_sound_value p.1) (λ (p : List ℕ × Value). has_short_lists p.1) ps h.1 in
    pair (are_sound_pairs ps) (all_short (λ p. has_short_lists p.1) ps)
    (pair (all_distinct (map (λ (p : List ℕ × Value). p.0) ps)) (list_all (λ (p : List ℕ × Value). is_sound_value p.1) ps) h.0 two.0)
    (all_passed (λ (p : List ℕ × Value). has_short_lists p.1) ps two.1 h.2)

all_pairs : (ps : List Pair) → Each IsSoundPair ps → Each (λ (p : Pair). Holds Plain (value_of p.2)) ps
all_pairs [] s = tt
all_pairs (p ∷ ps) s = (value_plain p.2 s.0.0, all_pairs ps s.1)

data_holds : (line : ℕ) (s : Shape) → IsSoundShape s → Holds (Passes is_plain_data) (data_by value_of line s)
data_holds line (NodeKind-F.Scalar t plain) s = either_way (Passes is_plain_data) (plain && is_null_word t) (Ok []) (Err _) refl tt
data_holds line (NodeKind-F.List items) s = tt
data_holds line (NodeKind-F.Map pairs) s =
    holds_of (fields_of value_of pairs) (fields_keyed is_plain_value value_of pairs (all_pairs pairs s.each))
  where
    holds_of : (r : Read (Fields Value)) → Holds (Keyed is_plain_value (map (λ (p : Pair). p.0) pairs)) r → Holds (Passes is_plain_data) r
    holds_of (Ok ps) k = plain_data ps (keyed_pairs pairs ps s k)
    holds_of (Err f) k = tt

pub data_plain : Reads (Passes is_plain_data) data_without_templates
data_plain line n s = data_holds line (shape_of n) (sound_inside n s)
