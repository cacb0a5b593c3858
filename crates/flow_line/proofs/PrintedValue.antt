-- What is printed of a value is in the grammar, as that value.
use Rattle.std.proofs.Common.{◌≡◌, ℕ, zero, suc, ◌≤◌, Bool, true, false, not, ◌&&◌, ◌||◌, List, [], ◌∷◌, ◌++◌, map, Some, None, refl, sym, ap, subst, ◌∙◌, append_assoc, arith, IsUtf8}
use Rattle.std.specs.Prelude.{codes, flat_map}
use Rattle.std.specs.Char.{is_ascii_digit}
use Rattle.std.specs.List.{list_all, list_any}
use Rattle.std.specs.Str.{is_utf8}
use Rattle.std.proofs.lemmas.Bool.{and_parts}
use Rattle.std.proofs.lemmas.Bool.Decides.{nat_tests}
use Rattle.std.proofs.lemmas.Str.{IsUtf8-from_is_utf8}
use Rattle.ha_value.specs.declared.value.Num.{Num}
use Rattle.ha_value.specs.declared.value.Value
use Rattle.ha_value.specs.declared.value.Value.{Value}
use Rattle.ha_value.specs.declared.value.Value.TheVariants.{rolls-Null, rolls-Flag, rolls-Number, rolls-Text, rolls-Items, rolls-Pairs}
use Rattle.ha_value.specs.declared.value.Value.TheOpen.{Value-F}
use Rattle.ha_value.specs.declared.value.Value.TheViews.{roll-Value}
use Rattle.ha_value.specs.declared.value.Value.TheFolds.{ind-Value, map-Value}
use Rattle.ha_value.specs.Numbers.{is_in_range, print_number}
use Rattle.std.proofs.lemmas.List.{append-nil}
use Rattle.ha_config.specs.Words.{Text, Pairs, same}
use Rattle.ha_config.specs.ValueText.{comma_joined, deepest, depth_of, depth_step, escaped_byte, pair_text, print_step, print_value, quoted}
use Rattle.ha_config.specs.ValueFacts.{all_distinct, keys_of, is_sound_value, sound_step, utf8_step, has_utf8_texts}
use Rattle.ha_config.proofs.ValueRolls.{depth_of-roll, is_sound_value-roll, print_value-roll}
use Rattle.reading.specs.Bytes.{skip, is_blank}
use Rattle.reading.specs.Spelling.{IsClosed}
use Rattle.std.specs.Prelude.{◌==◌}
use Rattle.ha_value.specs.Numbers.{begins_number}
use Rattle.flow_line.specs.Reading.{has_key}
use Rattle.flow_line.specs.Grammar.{IsString, IsPair, pair, IsValueOver, null, yes, no, numeric, text, list, map as map_of, IsValue, IsDocument}
use Rattle.flow_line.proofs.Sound.{utf8-roll}
use Rattle.flow_line.proofs.Numbers.{number_front}
use Rattle.flow_line.proofs.Whole.{InRange}
use Rattle.flow_line.proofs.PrintedText.{Stops, shown_number, shown_string}
use Rattle.flow_line.proofs.Joined.{each_pair}
use Rattle.flow_line.proofs.PrintedRows.{closed_shown, no_blank}

-- a value's spelling, behind which no number text goes on
abbrev Good : ℕ → Value → Type 0
Good depth v = (rest : List ℕ) → Stops rest → IsValue InRange depth (print_value v ++ rest) v rest

-- ---- how spellings begin

number_not_blank : (b : ℕ) → begins_number b ≡ true → is_blank b ≡ false
number_not_blank b h = grind (arith, nat_tests)

over_begins : {Items_ : List ℕ → List Value → List ℕ → Type 0} {Map_ : List ℕ → Pairs → List ℕ → Type 0} {t rest : List ℕ} {v : Value} → IsValueOver InRange Items_ Map_ t v rest → skip t ≡ t
over_begins (null {rest = r}) = no_blank 110 _ refl
over_begins (yes {rest = r}) = no_blank 116 _ refl
over_begins (no {rest = r}) = no_blank 102 _ refl
over_begins (numeric {t = t} {rest = r} n) =
    let f = number_front n in
    subst (λ (u : List ℕ). skip u ≡ u) (sym f.2) (no_blank f.0 (f.1 ++ r) (number_not_blank f.0 f.3))
over_begins (text s) = no_blank 34 _ refl
over_begins (list l) = no_blank 91 _ refl
over_begins (map_of l) = no_blank 123 _ refl

value_begins : (depth : ℕ) (t : List ℕ) (v : Value) (rest : List ℕ) → IsValue InRange depth t v rest → skip t ≡ t
unfolding IsValue
value_begins zero t v rest h = over_begins h
value_begins (suc depth) t v rest h = over_begins h

-- ---- lists

abbrev AllGood : ℕ → List Value → Type 0
AllGood depth [] = Unit {0}
AllGood depth (v ∷ vs) = Good depth v × AllGood depth vs

good_at : (depth : ℕ) (all found : List Value) (x : Value) (after : List Value) → AllGood depth all → found ++ x ∷ after ≡ all → Good depth x
good_at depth [] [] x after g e = absurd cc
good_at depth [] (f ∷ found) x after g e = absurd cc
good_at depth (v ∷ vs) [] x after g e = let is : v ≡ x = cc in subst (Good depth) is g.0
good_at depth (v ∷ vs) (f ∷ found) x after g e = let rest : found ++ x ∷ after ≡ vs = cc in good_at depth vs found x after g.1 rest

stops_at : (b : ℕ) (rest : List ℕ) → is_ascii_digit b ≡ false → (b == 46) ≡ false → Stops (b ∷ rest)
stops_at b rest d p None = rw (d, p) refl
stops_at b rest d p (Some places) = d

items_shown : (depth : ℕ) (vs : List Value) → AllGood depth vs → (rest : List ℕ) → IsClosed 93 (λ found. IsValue InRange depth) (comma_joined (map print_value vs) ++ 93 ∷ rest) vs rest
items_shown depth vs g rest =
    closed_shown 93 (λ found. IsValue InRange depth) print_value (λ r. stops_at 93 r refl refl) refl (λ found t x r h. value_begins depth t x r h) vs (λ found x after e. good_at depth vs found x after g e) rest

-- ---- maps

abbrev AllGoodPairs : ℕ → Pairs → Type 0
AllGoodPairs depth [] = Unit {0}
AllGoodPairs depth (p ∷ ps) = (Good depth p.1 × IsUtf8 p.0) × AllGoodPairs depth ps

pair_at : (depth : ℕ) (all found : Pairs) (x : Text × Value) (after : Pairs) → AllGoodPairs depth all → found ++ x ∷ after ≡ all → Good depth x.1 × IsUtf8 x.0
pair_at depth [] [] x after g e = absurd cc
pair_at depth [] (f ∷ found) x after g e = absurd cc
pair_at depth (p ∷ ps) [] x after g e = let is : p ≡ x = cc in subst (λ (q : Text × Value). Good depth q.1 × IsUtf8 q.0) is g.0
pair_at depth (p ∷ ps) (f ∷ found) x after g e = let rest : found ++ x ∷ after ≡ ps = cc in pair_at depth ps found x after g.1 rest

neither : (a b : Bool) → (a || b) ≡ false → (a ≡ false) × (b ≡ false)
neither true b h = absurd cc
neither false b h = (refl, h)

no_other : (a b : Bool) → a ≡ false → b ≡ false → (a || b) ≡ false
no_other true b p q = p
no_other false b p q = q

not_true : (b : Bool) → not b ≡ true → b ≡ false
not_true true h = absurd cc
not_true false h = refl

other_key : (t : Text) (found : Pairs) (x : Text × Value) (after : Pairs) → list_any (same t) (keys_of (found ++ x ∷ after)) ≡ false → same t x.0 ≡ false
other_key t [] x after h = (neither (same t x.0) _ h).0
other_key t (p ∷ found) x after h = other_key t found x after (neither (same t p.0) _ h).1

not_found : (found : Pairs) (x : Text × Value) (after : Pairs) → all_distinct (keys_of (found ++ x ∷ after)) ≡ true → has_key found x.0 ≡ false
not_found [] x after h = refl
not_found (p ∷ found) x after h =
    let d = and_parts (not (list_any (same p.0) (keys_of (found ++ x ∷ after)))) (all_distinct (keys_of (found ++ x ∷ after))) h in
    no_other (same p.0 x.0) (has_key found x.0) (other_key p.0 found x after (not_true _ d.0)) (not_found found x after d.1)

abbrev shown_pair : Text × Value → Text
shown_pair p = pair_text p.0 (print_value p.1)

pair_is_shown : (depth : ℕ) (found : Pairs) (x : Text × Value) (rest : List ℕ) → Good depth x.1 → IsUtf8 x.0 → has_key found x.0 ≡ false → Stops rest
    → IsPair (IsValue InRange depth) found (shown_pair x ++ rest) x rest
pair_is_shown depth found x rest good utf8 fresh stops =
    let key : List ℕ = flat_map escaped_byte x.0 in
    let behind : List ℕ = print_value x.1 ++ rest in
    let value = good rest stops in
    let parts : ((key ++ 34 ∷ []) ++ 58 ∷ print_value x.1) ++ rest ≡ key ++ 34 ∷ 58 ∷ behind =
    append_assoc (key ++ 34 ∷ []) (58 ∷ print_value x.1) rest ∙ append_assoc key (34 ∷ []) (58 ∷ behind) in
    subst (λ (t : List ℕ). IsPair (IsValue InRange depth) found (34 ∷ t) x rest) (sym parts)
    (pair (shown_string x.0 (58 ∷ behind) utf8) fresh (no_blank 58 behind refl) (subst (λ (t : List ℕ). IsValue InRange depth t x.1 rest) (sym (value_begins depth behind x.1 rest value)) value))

pair_begins : (depth : ℕ) (found : Pairs) (t : List ℕ) (x : Text × Value) (rest : List ℕ) → IsPair (IsValue InRange depth) found t x rest → skip t ≡ t
pair_begins depth found t x rest (pair s n c i) = no_blank 34 _ refl

pairs_shown : (depth : ℕ) (ps : Pairs) → AllGoodPairs depth ps → all_distinct (keys_of ps) ≡ true → (rest : List ℕ)
    → IsClosed 125 (IsPair (IsValue InRange depth)) (comma_joined (map shown_pair ps) ++ 125 ∷ rest) ps rest
pairs_shown depth ps g d rest =
    closed_shown 125 (IsPair (IsValue InRange depth)) shown_pair (λ r. stops_at 125 r refl refl) refl (pair_begins depth) ps
    (λ found x after e r s. let here = pair_at depth ps found x after g e in pair_is_shown depth found x r here.0 here.1 (not_found found x after (ap (λ (q : Pairs). all_distinct (keys_of q)) e ∙ d)) s) rest

-- ---- by induction on the value

abbrev Prints : Value → Type 0
Prints v = (depth : ℕ) → depth_of v ≤ depth → is_sound_value v ≡ true → has_utf8_texts v ≡ true → Good depth v

abbrev Printed : Type 0
Printed = (v : Value) × Prints v

all_good : (depth : ℕ) (ys : List Printed) → deepest (map depth_of (map (λ (e : Printed). e.0) ys)) ≤ depth → list_all (λ b. b) (map is_sound_value (map (λ (e : Printed). e.0) ys)) ≡ true
    → list_all (λ b. b) (map has_utf8_texts (map (λ (e : Printed). e.0) ys)) ≡ true → AllGood depth (map (λ (e : Printed). e.0) ys)
all_good depth [] d s u = tt
all_good depth (y ∷ ys) d s u =
    let p = and_parts (is_sound_value y.0) _ s in
    let q = and_parts (has_utf8_texts y.0) _ u in
    (y.1 depth (omega arith) p.0 q.0, all_good depth ys (omega arith) p.1 q.1)

abbrev named : Text × Printed → Text × Value
named p = (p.0, p.1.0)

all_good_pairs : (depth : ℕ) (ys : List (Text × Printed)) → deepest (map (λ (p : Text × ℕ). p.1) (map (λ (p : Text × Value). (p.0, depth_of p.1)) (map named ys))) ≤ depth
    → list_all (λ (p : Text × Bool). p.1) (map (λ (p : Text × Value). (p.0, is_sound_value p.1)) (map named ys)) ≡ true
    → list_all (λ (p : Text × Bool). is_utf8 p.0 && p.1) (map (λ (p : Text × Value). (p.0, has_utf8_texts p.1)) (map named ys)) ≡ true → AllGoodPairs depth (map named ys)
all_good_pairs depth [] d s u = tt
all_good_pairs depth (y ∷ ys) d s u =
    let p = and_parts (is_sound_value y.1.0) _ s in
    let q = and_parts (is_utf8 y.0 && has_utf8_texts y.1.0) _ u in
    let r = and_parts (is_utf8 y.0) (has_utf8_texts y.1.0) q.0 in
    ((y.1.1 depth (omega arith) p.0 r.1, IsUtf8-from_is_utf8 y.0 r.0), all_good_pairs depth ys (omega arith) p.1 q.1)

print_of : (x : Value-F Value) (v : Value) → roll-Value x ≡ v → print_value v ≡ print_step (map-Value Value Text print_value x)
print_of x v is = ap print_value (sym is) ∙ print_value-roll x

sound_of : (x : Value-F Value) (v : Value) → roll-Value x ≡ v → is_sound_value v ≡ true → sound_step (map-Value Value Bool is_sound_value x) ≡ true
sound_of x v is s = sym (ap is_sound_value (sym is) ∙ is_sound_value-roll x) ∙ s

utf8_of : (x : Value-F Value) (v : Value) → roll-Value x ≡ v → has_utf8_texts v ≡ true → utf8_step (map-Value Value Bool has_utf8_texts x) ≡ true
utf8_of x v is u = sym (ap has_utf8_texts (sym is) ∙ utf8-roll x) ∙ u

depth_is : (x : Value-F Value) (v : Value) → roll-Value x ≡ v → depth_of v ≡ depth_step (map-Value Value ℕ depth_of x)
depth_is x v is = ap depth_of (sym is) ∙ depth_of-roll x

leaf : (x : Value-F Value) (v : Value) (t : Text) → roll-Value x ≡ v → print_step (map-Value Value Text print_value x) ≡ t → (depth : ℕ)
    → ((rest : List ℕ) → Stops rest → IsValue InRange depth (t ++ rest) v rest) → Good depth v
leaf x v t is shown depth spelled rest stops = subst (λ (u : Text). IsValue InRange depth (u ++ rest) v rest) (sym (print_of x v is ∙ shown)) (spelled rest stops)

null_spelled : (depth : ℕ) (rest : List ℕ) → IsValue InRange depth (codes "null" ++ rest) Value.Null rest
unfolding IsValue
null_spelled zero rest = null
null_spelled (suc depth) rest = null

true_spelled : (depth : ℕ) (rest : List ℕ) → IsValue InRange depth (codes "true" ++ rest) (Value.Flag true) rest
unfolding IsValue
true_spelled zero rest = yes
true_spelled (suc depth) rest = yes

false_spelled : (depth : ℕ) (rest : List ℕ) → IsValue InRange depth (codes "false" ++ rest) (Value.Flag false) rest
unfolding IsValue
false_spelled zero rest = no
false_spelled (suc depth) rest = no

number_spelled : (depth : ℕ) (n : Num) (rest : List ℕ) → is_in_range n ≡ true → Stops rest → IsValue InRange depth (print_number n ++ rest) (Value.Number n) rest
unfolding IsValue
number_spelled zero n rest r s = numeric (shown_number n rest r s)
number_spelled (suc depth) n rest r s = numeric (shown_number n rest r s)

text_of_string : (depth : ℕ) (t s rest : List ℕ) → IsString t s rest → IsValue InRange depth (34 ∷ t) (Value.Text s) rest
unfolding IsValue
text_of_string zero t s rest h = text h
text_of_string (suc depth) t s rest h = text h

text_spelled : (depth : ℕ) (s rest : List ℕ) → IsUtf8 s → IsValue InRange depth (quoted s ++ rest) (Value.Text s) rest
text_spelled depth s rest u =
    subst (λ (t : List ℕ). IsValue InRange depth (34 ∷ t) (Value.Text s) rest) (sym (append_assoc (flat_map escaped_byte s) (34 ∷ []) rest))
    (text_of_string depth (flat_map escaped_byte s ++ 34 ∷ rest) s rest (shown_string s rest u))

list_spelled : (depth : ℕ) (t : List ℕ) (vs : List Value) (rest : List ℕ) → IsClosed 93 (λ found. IsValue InRange depth) t vs rest → IsValue InRange (suc depth) (91 ∷ t) (Value.Items vs) rest
unfolding IsValue
list_spelled depth t vs rest h = list h

map_spelled : (depth : ℕ) (t : List ℕ) (ps : Pairs) (rest : List ℕ) → IsClosed 125 (IsPair (IsValue InRange depth)) t ps rest → IsValue InRange (suc depth) (123 ∷ t) (Value.Pairs ps) rest
unfolding IsValue
map_spelled depth t ps rest h = map_of h

items_layer : (ys : List Printed) → Prints (Value.Items (map (λ (e : Printed). e.0) ys))
items_layer ys zero d s u =
    let vs : List Value = map (λ (e : Printed). e.0) ys in
    let deep = depth_is (Value-F.Items vs) (Value.Items vs) (rolls-Items vs) in absurd (omega (arith, deep))
items_layer ys (suc depth) d s u = λ rest stops.
    let vs : List Value = map (λ (e : Printed). e.0) ys in
    let is = rolls-Items vs in
    let deep : depth_of (Value.Items vs) ≡ suc (deepest (map depth_of vs)) = depth_is (Value-F.Items vs) (Value.Items vs) is in
    let good = all_good depth ys (omega (arith, deep)) (sound_of (Value-F.Items vs) (Value.Items vs) is s) (utf8_of (Value-F.Items vs) (Value.Items vs) is u) in
    let joined : List ℕ = comma_joined (map print_value vs) in
    let parts : print_value (Value.Items vs) ++ rest ≡ 91 ∷ (joined ++ 93 ∷ rest) =
    ap (λ (t : List ℕ). t ++ rest) (print_of (Value-F.Items vs) (Value.Items vs) is) ∙ ap (λ (t : List ℕ). 91 ∷ t) (append_assoc joined (93 ∷ []) rest) in
    subst (λ (t : List ℕ). IsValue InRange (suc depth) t (Value.Items vs) rest) (sym parts) (list_spelled depth (joined ++ 93 ∷ rest) vs rest (items_shown depth vs good rest))

keys_stay : (ps : Pairs) → keys_of (map (λ (p : Text × Value). (p.0, is_sound_value p.1)) ps) ≡ keys_of ps
keys_stay [] = refl
keys_stay (p ∷ ps) = ap (λ (r : List Text). p.0 ∷ r) (keys_stay ps)

pairs_layer : (ys : List (Text × Printed)) → Prints (Value.Pairs (map named ys))
pairs_layer ys zero d s u =
    let ps : Pairs = map named ys in
    let deep = depth_is (Value-F.Pairs ps) (Value.Pairs ps) (rolls-Pairs ps) in absurd (omega (arith, deep))
pairs_layer ys (suc depth) d s u = λ rest stops.
    let ps : Pairs = map named ys in
    let is = rolls-Pairs ps in
    let deep : depth_of (Value.Pairs ps) ≡ suc (deepest (map (λ (p : Text × ℕ). p.1) (map (λ (p : Text × Value). (p.0, depth_of p.1)) ps))) = depth_is (Value-F.Pairs ps) (Value.Pairs ps) is in
    let sound = and_parts (all_distinct (keys_of (map (λ (p : Text × Value). (p.0, is_sound_value p.1)) ps))) _ (sound_of (Value-F.Pairs ps) (Value.Pairs ps) is s) in
    let good = all_good_pairs depth ys (omega (arith, deep)) sound.1 (utf8_of (Value-F.Pairs ps) (Value.Pairs ps) is u) in
    let distinct : all_distinct (keys_of ps) ≡ true = ap all_distinct (sym (keys_stay ps)) ∙ sound.0 in
    let joined : List ℕ = comma_joined (map shown_pair ps) in
    let parts : print_value (Value.Pairs ps) ++ rest ≡ 123 ∷ (joined ++ 125 ∷ rest) =
    ap (λ (t : List ℕ). t ++ rest) (print_of (Value-F.Pairs ps) (Value.Pairs ps) is ∙ ap (λ (t : List Text). 123 ∷ (comma_joined t ++ 125 ∷ [])) (sym (each_pair ps))) ∙ ap (λ (t : List ℕ). 123 ∷ t) (append_assoc joined (125 ∷ []) rest) in
    subst (λ (t : List ℕ). IsValue InRange (suc depth) t (Value.Pairs ps) rest) (sym parts) (map_spelled depth (joined ++ 125 ∷ rest) ps rest (pairs_shown depth ps good distinct rest))

layer : (y : Value-F Printed) → Prints (roll-Value (map-Value Printed Value (λ e. e.0) y))
layer Value-F.Null = subst Prints (sym rolls-Null) (λ depth d s u. leaf Value-F.Null Value.Null (codes "null") rolls-Null refl depth (λ rest stops. null_spelled depth rest))
layer (Value-F.Flag true) = subst Prints (sym (rolls-Flag true)) (λ depth d s u. leaf (Value-F.Flag true) (Value.Flag true) (codes "true") (rolls-Flag true) refl depth (λ rest stops. true_spelled depth rest))
layer (Value-F.Flag false) = subst Prints (sym (rolls-Flag false)) (λ depth d s u. leaf (Value-F.Flag false) (Value.Flag false) (codes "false") (rolls-Flag false) refl depth (λ rest stops. false_spelled depth rest))
layer (Value-F.Number n) =
    subst Prints (sym (rolls-Number n)) (λ depth d s u. leaf (Value-F.Number n) (Value.Number n) (print_number n) (rolls-Number n) refl depth
    (λ rest stops. number_spelled depth n rest (sound_of (Value-F.Number n) (Value.Number n) (rolls-Number n) s) stops))
layer (Value-F.Text t) =
    subst Prints (sym (rolls-Text t)) (λ depth d s u. leaf (Value-F.Text t) (Value.Text t) (quoted t) (rolls-Text t) refl depth
    (λ rest stops. text_spelled depth t rest (IsUtf8-from_is_utf8 t (utf8_of (Value-F.Text t) (Value.Text t) (rolls-Text t) u))))
layer (Value-F.Items ys) = subst Prints (sym (rolls-Items (map (λ (e : Printed). e.0) ys))) (items_layer ys)
layer (Value-F.Pairs ys) = subst Prints (sym (rolls-Pairs (map named ys))) (pairs_layer ys)

prints : (v : Value) → Prints v
prints = ind-Value Prints (λ x y is. subst (λ z. Prints (roll-Value z)) is (layer y))

stops_end : Stops []
stops_end None = refl
stops_end (Some places) = refl

pub print_is_spelled : (v : Value) → depth_of v ≤ 32 → is_sound_value v ≡ true → has_utf8_texts v ≡ true → IsDocument (print_value v) v
print_is_spelled v d s u = subst (λ (t : List ℕ). IsValue InRange 32 t v []) (append-nil (print_value v)) (prints v 32 d s u [] stops_end)
