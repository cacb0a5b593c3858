-- A value in the grammar: its numbers are in range, the keys of each map are distinct, its texts are UTF-8, and it is nested only so deep.
use Rattle.std.proofs.Common.{◌≡◌, ℕ, zero, suc, ◌≤◌, Bool, true, false, not, ◌&&◌, ◌||◌, List, [], ◌∷◌, ◌++◌, map, refl, sym, ap, ◌∙◌, arith}
use Rattle.std.specs.List.{list_all, list_any}
use Rattle.std.specs.Prelude.{IsUtf8, encode_utf8}
use Rattle.std.specs.Str.{is_utf8, encode_utf8_all}
use Rattle.std.proofs.lemmas.Str.{IsUtf8-append, IsUtf8-encode, IsUtf8-nil, is_utf8-from_IsUtf8}
use Rattle.std.proofs.lemmas.Bool.{and_parts}
use Rattle.reading.specs.Spelling.{IsRow, last, more, IsClosed, empty, items}
use Rattle.ha_value.specs.declared.value.Num.{Num}
use Rattle.ha_value.specs.declared.value.Value
use Rattle.ha_value.specs.declared.value.Value.{Value}
use Rattle.ha_value.specs.declared.value.Value.TheVariants.{rolls-Null, rolls-Flag, rolls-Number, rolls-Text, rolls-Items, rolls-Pairs}
use Rattle.ha_value.specs.declared.value.Value.TheViews.{roll-Value, out-Value}
use Rattle.ha_value.specs.declared.value.Value.TheFolds.{map-Value, fold-roll-Value, fold_out-Value}
use Rattle.ha_value.specs.declared.value.Value.TheOpen.{Value-F}
use Rattle.ha_value.specs.Numbers.{is_in_range}
use Rattle.ha_config.specs.Words.{Text, Pairs, same}
use Rattle.ha_config.specs.ValueText.{deepest, depth_of, depth_step, pairs_depth}
use Rattle.ha_config.specs.ValueFacts.{all_distinct, keys_of, is_sound_value, sound_step, are_sound_pairs, utf8_step, has_utf8_texts, have_utf8_texts}
use Rattle.ha_config.proofs.ValueRolls.{depth_of-roll, is_sound_value-roll}
use Rattle.flow_line.specs.Reading.{has_key}
use Rattle.flow_line.specs.Command.{IsLineMap}
use Rattle.flow_line.proofs.Characters.{is_scalar}
use Rattle.flow_line.specs.Grammar.{IsString, string, IsCharacters, close, more as more_characters, number, IsPair, pair, IsValueOver, null, yes, no, numeric, text, list, map as map_of, IsValue, IsDocument}

pub record Sound (depth : ℕ) (v : Value) : Type 0 where
  pub sound : is_sound_value v ≡ true
  pub deep : depth_of v ≤ depth
  pub utf8 : has_utf8_texts v ≡ true

-- ---- texts

characters_utf8 : {t cs rest : List ℕ} → IsCharacters t cs rest → IsUtf8 (encode_utf8_all cs)
characters_utf8 close = IsUtf8-nil
characters_utf8 (more_characters {cs = cs} {c = c} one others) = IsUtf8-append (encode_utf8 c) (encode_utf8_all cs) (IsUtf8-encode c (is_scalar one)) (characters_utf8 others)

string_utf8 : {t s rest : List ℕ} → IsString t s rest → is_utf8 s ≡ true
string_utf8 (string {cs = cs} h) = is_utf8-from_IsUtf8 (encode_utf8_all cs) (characters_utf8 h)

pub utf8-roll : (x : Value-F Value) → has_utf8_texts (roll-Value x) ≡ utf8_step (map-Value Value Bool has_utf8_texts x)
utf8-roll x = fold-roll-Value Bool utf8_step x

pub utf8-out : (v : Value) → has_utf8_texts v ≡ utf8_step (map-Value Value Bool has_utf8_texts (out-Value v))
utf8-out v = fold_out-Value Bool utf8_step v

-- ---- lists

abbrev AllSound : ℕ → List Value → Type 0
AllSound depth [] = Unit {0}
AllSound depth (v ∷ vs) = Sound depth v × AllSound depth vs

both : (a b : Bool) → a ≡ true → b ≡ true → (a && b) ≡ true
both true b p q = q
both false b p q = p

one_more : (depth : ℕ) (vs : List Value) (v : Value) → AllSound depth vs → Sound depth v → AllSound depth (vs ++ v ∷ [])
one_more depth [] v h s = (s, tt)
one_more depth (w ∷ vs) v h s = (h.0, one_more depth vs v h.1 s)

all_sound : (depth : ℕ) (vs : List Value) → AllSound depth vs → list_all (λ b. b) (map is_sound_value vs) ≡ true
all_sound depth [] h = refl
all_sound depth (v ∷ vs) h = both _ _ h.0.sound (all_sound depth vs h.1)

all_utf8 : (depth : ℕ) (vs : List Value) → AllSound depth vs → list_all (λ b. b) (map has_utf8_texts vs) ≡ true
all_utf8 depth [] h = refl
all_utf8 depth (v ∷ vs) h = both _ _ h.0.utf8 (all_utf8 depth vs h.1)

all_deep : (depth : ℕ) (vs : List Value) → AllSound depth vs → deepest (map depth_of vs) ≤ depth
all_deep depth [] h = omega arith
all_deep depth (v ∷ vs) h = let here = h.0.deep in let there = all_deep depth vs h.1 in omega arith

sound_items : (vs : List Value) → is_sound_value (Value.Items vs) ≡ list_all (λ b. b) (map is_sound_value vs)
sound_items vs = ap is_sound_value (sym (rolls-Items vs)) ∙ is_sound_value-roll (Value-F.Items vs)

deep_items : (vs : List Value) → depth_of (Value.Items vs) ≡ suc (deepest (map depth_of vs))
deep_items vs = ap depth_of (sym (rolls-Items vs)) ∙ depth_of-roll (Value-F.Items vs)

utf8_items : (vs : List Value) → has_utf8_texts (Value.Items vs) ≡ list_all (λ b. b) (map has_utf8_texts vs)
utf8_items vs = ap has_utf8_texts (sym (rolls-Items vs)) ∙ utf8-roll (Value-F.Items vs)

list_is_sound : (depth : ℕ) (vs : List Value) → AllSound depth vs → Sound (suc depth) (Value.Items vs)
list_is_sound depth vs h = record { sound = sound_items vs ∙ all_sound depth vs h; deep = (let e = deep_items vs in let l = all_deep depth vs h in omega arith); utf8 = utf8_items vs ∙ all_utf8 depth vs h }

-- ---- maps

values_of : Pairs → List Value
values_of ps = map (λ (p : Text × Value). p.1) ps

pub record SoundPairs (depth : ℕ) (ps : Pairs) : Type 0 where
  pub distinct : all_distinct (keys_of ps) ≡ true
  pub sound : list_all (λ (p : Text × Value). is_sound_value p.1) ps ≡ true
  pub deep : deepest (map (λ (p : Text × Value). depth_of p.1) ps) ≤ depth
  pub utf8 : have_utf8_texts ps ≡ true

neither : (a b : Bool) → (a || b) ≡ false → (a ≡ false) × (b ≡ false)
neither true b h = absurd cc
neither false b h = (refl, h)

no_other : (a b : Bool) → a ≡ false → b ≡ false → (a || b) ≡ false
no_other true b p q = p
no_other false b p q = q

still_none : (t key : Text) (v : Value) (ps : Pairs) → list_any (same t) (keys_of ps) ≡ false → same t key ≡ false → list_any (same t) (keys_of (ps ++ (key, v) ∷ [])) ≡ false
still_none t key v [] h e = no_other (same t key) false e refl
still_none t key v (p ∷ ps) h e = let n = neither (same t p.0) (list_any (same t) (keys_of ps)) h in no_other (same t p.0) _ n.0 (still_none t key v ps n.1 e)

not_true : (b : Bool) → not b ≡ true → b ≡ false
not_true true h = absurd cc
not_true false h = refl

not_false : (b : Bool) → b ≡ false → not b ≡ true
not_false true h = absurd cc
not_false false h = refl

one_key_more : (key : Text) (v : Value) (ps : Pairs) → all_distinct (keys_of ps) ≡ true → has_key ps key ≡ false → all_distinct (keys_of (ps ++ (key, v) ∷ [])) ≡ true
one_key_more key v [] h e = refl
one_key_more key v (p ∷ ps) h e =
    let n = neither (same p.0 key) (has_key ps key) e in
    let d = and_parts (not (list_any (same p.0) (keys_of ps))) (all_distinct (keys_of ps)) h in
    both _ _ (not_false _ (still_none p.0 key v ps (not_true _ d.0) n.0)) (one_key_more key v ps d.1 n.1)

one_sound_more : (key : Text) (v : Value) (ps : Pairs) → list_all (λ (p : Text × Value). is_sound_value p.1) ps ≡ true → is_sound_value v ≡ true
    → list_all (λ (p : Text × Value). is_sound_value p.1) (ps ++ (key, v) ∷ []) ≡ true
one_sound_more key v [] h s = both _ _ s refl
one_sound_more key v (p ∷ ps) h s = let d = and_parts (is_sound_value p.1) (list_all (λ (p : Text × Value). is_sound_value p.1) ps) h in both _ _ d.0 (one_sound_more key v ps d.1 s)

one_utf8_more : (key : Text) (v : Value) (ps : Pairs) → have_utf8_texts ps ≡ true → is_utf8 key ≡ true → has_utf8_texts v ≡ true → have_utf8_texts (ps ++ (key, v) ∷ []) ≡ true
one_utf8_more key v [] h k s = both _ _ (both _ _ k s) refl
one_utf8_more key v (p ∷ ps) h k s = let d = and_parts (is_utf8 p.0 && has_utf8_texts p.1) (have_utf8_texts ps) h in both _ _ d.0 (one_utf8_more key v ps d.1 k s)

one_depth_more : (depth : ℕ) (key : Text) (v : Value) (ps : Pairs) → deepest (map (λ (p : Text × Value). depth_of p.1) ps) ≤ depth → depth_of v ≤ depth
    → deepest (map (λ (p : Text × Value). depth_of p.1) (ps ++ (key, v) ∷ [])) ≤ depth
one_depth_more depth key v [] h s = omega arith
one_depth_more depth key v (p ∷ ps) h s = let r = one_depth_more depth key v ps (omega arith) s in omega arith

one_pair_more : (depth : ℕ) (key : Text) (v : Value) (ps : Pairs) → SoundPairs depth ps → has_key ps key ≡ false → is_utf8 key ≡ true → Sound depth v → SoundPairs depth (ps ++ (key, v) ∷ [])
one_pair_more depth key v ps h e k s = record { distinct = one_key_more key v ps h.distinct e; sound = one_sound_more key v ps h.sound s.sound; deep = one_depth_more depth key v ps h.deep s.deep; utf8 = one_utf8_more key v ps h.utf8 k s.utf8 }

keys_stay : (ps : Pairs) → keys_of (map (λ (p : Text × Value). (p.0, is_sound_value p.1)) ps) ≡ keys_of ps
keys_stay [] = refl
keys_stay (p ∷ ps) = ap (λ (r : List Text). p.0 ∷ r) (keys_stay ps)

flags_stay : (ps : Pairs) → list_all (λ (p : Text × Bool). p.1) (map (λ (p : Text × Value). (p.0, is_sound_value p.1)) ps) ≡ list_all (λ (p : Text × Value). is_sound_value p.1) ps
flags_stay [] = refl
flags_stay (p ∷ ps) = ap (λ (r : Bool). is_sound_value p.1 && r) (flags_stay ps)

utf8_stay : (ps : Pairs) → list_all (λ (p : Text × Bool). is_utf8 p.0 && p.1) (map (λ (p : Text × Value). (p.0, has_utf8_texts p.1)) ps) ≡ have_utf8_texts ps
utf8_stay [] = refl
utf8_stay (p ∷ ps) = ap (λ (r : Bool). (is_utf8 p.0 && has_utf8_texts p.1) && r) (utf8_stay ps)

depths_stay : (ps : Pairs) → map (λ (p : Text × ℕ). p.1) (map (λ (p : Text × Value). (p.0, depth_of p.1)) ps) ≡ map (λ (p : Text × Value). depth_of p.1) ps
depths_stay [] = refl
depths_stay (p ∷ ps) = ap (λ (r : List ℕ). depth_of p.1 ∷ r) (depths_stay ps)

pub sound_layer : (ps : Pairs) → sound_step (map-Value Value Bool is_sound_value (Value-F.Pairs ps)) ≡ are_sound_pairs ps
sound_layer ps =
    ap (λ (r : List Text). all_distinct r && list_all (λ (p : Text × Bool). p.1) (map (λ (p : Text × Value). (p.0, is_sound_value p.1)) ps)) (keys_stay ps)
    ∙ ap (λ (r : Bool). all_distinct (keys_of ps) && r) (flags_stay ps)

pub utf8_layer : (ps : Pairs) → utf8_step (map-Value Value Bool has_utf8_texts (Value-F.Pairs ps)) ≡ have_utf8_texts ps
utf8_layer ps = utf8_stay ps

pub deep_layer : (ps : Pairs) → depth_step (map-Value Value ℕ depth_of (Value-F.Pairs ps)) ≡ pairs_depth ps
deep_layer ps = ap (λ (r : List ℕ). suc (deepest r)) (depths_stay ps)

sound_pairs : (ps : Pairs) → is_sound_value (Value.Pairs ps) ≡ are_sound_pairs ps
sound_pairs ps = ap is_sound_value (sym (rolls-Pairs ps)) ∙ is_sound_value-roll (Value-F.Pairs ps) ∙ sound_layer ps

deep_pairs : (ps : Pairs) → depth_of (Value.Pairs ps) ≡ pairs_depth ps
deep_pairs ps = ap depth_of (sym (rolls-Pairs ps)) ∙ depth_of-roll (Value-F.Pairs ps) ∙ deep_layer ps

utf8_pairs : (ps : Pairs) → has_utf8_texts (Value.Pairs ps) ≡ have_utf8_texts ps
utf8_pairs ps = ap has_utf8_texts (sym (rolls-Pairs ps)) ∙ utf8-roll (Value-F.Pairs ps) ∙ utf8_layer ps

map_is_sound : (depth : ℕ) (ps : Pairs) → SoundPairs depth ps → Sound (suc depth) (Value.Pairs ps)
map_is_sound depth ps h = record { sound = sound_pairs ps ∙ both _ _ h.distinct h.sound; deep = (let e = deep_pairs ps in let l = h.deep in omega arith); utf8 = utf8_pairs ps ∙ h.utf8 }

-- ---- values in the grammar

abbrev InRange : Num → Type 0
InRange n = is_in_range n ≡ true

row_items : (depth : ℕ) → ((t : List ℕ) (v : Value) (rest : List ℕ) → IsValue InRange depth t v rest → Sound depth v)
    → {found all : List Value} {t rest : List ℕ} → AllSound depth found → IsRow 93 (λ found. IsValue InRange depth) found t all rest → AllSound depth all
row_items depth each {found} {all} {t} {rest} h (last {x = x} {text = u} {after = a} i e) = one_more depth found x h (each u x a i)
row_items depth each {found} {all} {t} {rest} h (more {x = x} {text = u} {after = a} i e r) = row_items depth each (one_more depth found x h (each u x a i)) r

row_pairs : (depth : ℕ) → ((t : List ℕ) (v : Value) (rest : List ℕ) → IsValue InRange depth t v rest → Sound depth v)
    → {found all : Pairs} {t rest : List ℕ} → SoundPairs depth found → IsRow 125 (IsPair (IsValue InRange depth)) found t all rest → SoundPairs depth all
row_pairs depth each {found} {all} {t} {rest} h (last {x = x} (pair {key = k} {behind = b} {rest = r} {v = v} s n c i) e) = one_pair_more depth k v found h n (string_utf8 s) (each _ v r i)
row_pairs depth each {found} {all} {t} {rest} h (more {x = x} (pair {key = k} {behind = b} {rest = r} {v = v} s n c i) e m) = row_pairs depth each (one_pair_more depth k v found h n (string_utf8 s) (each _ v r i)) m

leaf : (depth : ℕ) (x : Value-F Value) (v : Value) → roll-Value x ≡ v → sound_step (map-Value Value Bool is_sound_value x) ≡ true → depth_step (map-Value Value ℕ depth_of x) ≡ 0
    → utf8_step (map-Value Value Bool has_utf8_texts x) ≡ true → Sound depth v
leaf depth x v is s d u =
    let flat : depth_of v ≡ 0 = ap depth_of (sym is) ∙ depth_of-roll x ∙ d in
    record { sound = ap is_sound_value (sym is) ∙ is_sound_value-roll x ∙ s; deep = omega (arith, flat); utf8 = ap has_utf8_texts (sym is) ∙ utf8-roll x ∙ u }

over_sound : {Items_ : List ℕ → List Value → List ℕ → Type 0} {Map_ : List ℕ → Pairs → List ℕ → Type 0} (depth : ℕ)
    → ((t : List ℕ) (vs : List Value) (rest : List ℕ) → Items_ t vs rest → Sound depth (Value.Items vs)) → ((t : List ℕ) (ps : Pairs) (rest : List ℕ) → Map_ t ps rest → Sound depth (Value.Pairs ps))
    → {t rest : List ℕ} {v : Value} → IsValueOver InRange Items_ Map_ t v rest → Sound depth v
over_sound depth lists maps null = leaf depth Value-F.Null Value.Null rolls-Null refl refl refl
over_sound depth lists maps yes = leaf depth (Value-F.Flag true) (Value.Flag true) (rolls-Flag true) refl refl refl
over_sound depth lists maps no = leaf depth (Value-F.Flag false) (Value.Flag false) (rolls-Flag false) refl refl refl
over_sound depth lists maps (numeric (number u {n = n} e x a)) = leaf depth (Value-F.Number n) (Value.Number n) (rolls-Number n) a refl refl
over_sound depth lists maps (text {s = s} t) = leaf depth (Value-F.Text s) (Value.Text s) (rolls-Text s) refl refl (string_utf8 t)
over_sound depth lists maps (list {t = u} {rest = r} {vs = vs} l) = lists u vs r l
over_sound depth lists maps (map_of {t = u} {rest = r} {ps = ps} l) = maps u ps r l

closed_items : (depth : ℕ) → ((t : List ℕ) (v : Value) (rest : List ℕ) → IsValue InRange depth t v rest → Sound depth v)
    → (t : List ℕ) (vs : List Value) (rest : List ℕ) → IsClosed 93 (λ found. IsValue InRange depth) t vs rest → Sound (suc depth) (Value.Items vs)
closed_items depth each t vs rest (empty e) = list_is_sound depth [] tt
closed_items depth each t vs rest (items r) = list_is_sound depth vs (row_items depth each tt r)

closed_pairs : (depth : ℕ) → ((t : List ℕ) (v : Value) (rest : List ℕ) → IsValue InRange depth t v rest → Sound depth v)
    → (t : List ℕ) (ps : Pairs) (rest : List ℕ) → IsClosed 125 (IsPair (IsValue InRange depth)) t ps rest → Sound (suc depth) (Value.Pairs ps)
closed_pairs depth each t ps rest (empty e) = map_is_sound depth [] (record { distinct = refl; sound = refl; deep = omega arith; utf8 = refl })
closed_pairs depth each t ps rest (items r) = map_is_sound depth ps (row_pairs depth each (record { distinct = refl; sound = refl; deep = omega arith; utf8 = refl }) r)

value_is_sound : (depth : ℕ) (t : List ℕ) (v : Value) (rest : List ℕ) → IsValue InRange depth t v rest → Sound depth v
unfolding IsValue
value_is_sound zero t v rest h = over_sound 0 (λ t vs rest n. elim n [ ]) (λ t ps rest n. elim n [ ]) h
value_is_sound (suc depth) t v rest h = over_sound (suc depth) (closed_items depth (value_is_sound depth)) (closed_pairs depth (value_is_sound depth)) h

pub document_is_sound : (t : List ℕ) (v : Value) → IsDocument t v → Sound 32 v
document_is_sound t v h = value_is_sound 32 t v [] h

pub line_map : (t : List ℕ) (ps : Pairs) → IsDocument t (Value.Pairs ps) → IsLineMap ps
line_map t ps h =
    let s = document_is_sound t (Value.Pairs ps) h in
    record { sound = sym (sound_pairs ps) ∙ s.sound; deep = (let e = deep_pairs ps in let l = s.deep in omega arith); utf8 = sym (utf8_pairs ps) ∙ s.utf8 }
