-- A map that was read of a text, pair by pair: its numbers are in range, its keys are distinct, its texts are UTF-8, and it is nested
-- at most 32 deep.
use Rattle.std.proofs.Common.{◌≡◌, suc, ◌≤◌, Bool, true, false, not, ◌&&◌, [], ◌∷◌, refl, sym, ap, ◌∙◌, arith}
use Rattle.std.specs.Str.{is_utf8}
use Rattle.std.specs.List.{list_all, list_any}
use Rattle.std.proofs.lemmas.Bool.{and_parts}
use Rattle.ha_value.specs.declared.value.Value
use Rattle.ha_value.specs.declared.value.Value.{Value}
use Rattle.ha_value.specs.declared.value.Value.TheOpen.{Value-F}
use Rattle.ha_value.specs.declared.value.Value.TheVariants.{rolls-Flag, rolls-Pairs, rolls-Text}
use Rattle.ha_config.specs.Words.{Text, Pairs, same}
use Rattle.ha_config.specs.ValueText.{depth_of, pairs_depth}
use Rattle.ha_config.specs.ValueFacts.{all_distinct, keys_of, is_sound_value, are_sound_pairs, has_utf8_texts, have_utf8_texts, AreFairPairs}
use Rattle.ha_config.proofs.ValueRolls.{depth_of-roll, is_sound_value-roll}
use Rattle.flow_line.specs.Command.{IsLineMap}
use Rattle.flow_line.proofs.Sound.{deep_layer, sound_layer, utf8_layer, utf8-roll}

-- ---- single values

pub record Fine (v : Value) : Type 0 where
  pub sound : is_sound_value v ≡ true
  pub deep : suc (depth_of v) ≤ 32
  pub utf8 : has_utf8_texts v ≡ true

text_utf8 : (t : Text) → has_utf8_texts (Value.Text t) ≡ is_utf8 t
text_utf8 t = ap has_utf8_texts (sym (rolls-Text t)) ∙ utf8-roll (Value-F.Text t)

pub text_fine : (t : Text) → is_utf8 t ≡ true → Fine (Value.Text t)
text_fine t u =
    let flat : depth_of (Value.Text t) ≡ 0 = ap depth_of (sym (rolls-Text t)) ∙ depth_of-roll (Value-F.Text t) in
    record { sound = ap is_sound_value (sym (rolls-Text t)) ∙ is_sound_value-roll (Value-F.Text t); deep = omega (arith, flat); utf8 = text_utf8 t ∙ u }

pub flag_fine : (b : Bool) → Fine (Value.Flag b)
flag_fine b =
    let flat : depth_of (Value.Flag b) ≡ 0 = ap depth_of (sym (rolls-Flag b)) ∙ depth_of-roll (Value-F.Flag b) in
    record { sound = ap is_sound_value (sym (rolls-Flag b)) ∙ is_sound_value-roll (Value-F.Flag b); deep = omega (arith, flat); utf8 = ap has_utf8_texts (sym (rolls-Flag b)) ∙ utf8-roll (Value-F.Flag b) }

pub map_sound : (ps : Pairs) → is_sound_value (Value.Pairs ps) ≡ are_sound_pairs ps
map_sound ps = ap is_sound_value (sym (rolls-Pairs ps)) ∙ is_sound_value-roll (Value-F.Pairs ps) ∙ sound_layer ps

pub map_deep : (ps : Pairs) → depth_of (Value.Pairs ps) ≡ pairs_depth ps
map_deep ps = ap depth_of (sym (rolls-Pairs ps)) ∙ depth_of-roll (Value-F.Pairs ps) ∙ deep_layer ps

pub map_utf8 : (ps : Pairs) → has_utf8_texts (Value.Pairs ps) ≡ have_utf8_texts ps
map_utf8 ps = ap has_utf8_texts (sym (rolls-Pairs ps)) ∙ utf8-roll (Value-F.Pairs ps) ∙ utf8_layer ps

pub map_fine : (a : Pairs) → AreFairPairs a → Fine (Value.Pairs a)
map_fine a fair = let deep = map_deep a in let low = fair.2 in record { sound = map_sound a ∙ fair.0; deep = omega (arith, deep, low); utf8 = map_utf8 a ∙ fair.1 }

-- ---- one pair more

both : (a b : Bool) → a ≡ true → b ≡ true → (a && b) ≡ true
both true b p q = q
both false b p q = p

pub no_pair : IsLineMap []
no_pair = record { sound = refl; deep = omega arith; utf8 = refl }

-- a pair before others, whose key is none of theirs
pub pair_more : (key : Text) (v : Value) (ps : Pairs) → list_any (same key) (keys_of ps) ≡ false → is_utf8 key ≡ true → Fine v → IsLineMap ps → IsLineMap ((key, v) ∷ ps)
pair_more key v ps fresh u fine line =
    let parts = and_parts (all_distinct (keys_of ps)) (list_all (λ (p : Text × Value). is_sound_value p.1) ps) line.sound in
    record {
      sound = both _ _ (both _ _ (ap not fresh) parts.0) (both _ _ fine.sound parts.1);
      deep = (let here = fine.deep in let there = line.deep in omega arith);
      utf8 = both _ _ (both _ _ u fine.utf8) line.utf8;
    }

-- the pairs behind the first one
pub pair_less : (p : Text × Value) (ps : Pairs) → IsLineMap (p ∷ ps) → IsLineMap ps
pair_less p ps line =
    let parts = and_parts (all_distinct (keys_of (p ∷ ps))) (list_all (λ (q : Text × Value). is_sound_value q.1) (p ∷ ps)) line.sound in
    let keys = and_parts (not (list_any (same p.0) (keys_of ps))) (all_distinct (keys_of ps)) parts.0 in
    let values = and_parts (is_sound_value p.1) (list_all (λ (q : Text × Value). is_sound_value q.1) ps) parts.1 in
    let texts = and_parts (is_utf8 p.0 && has_utf8_texts p.1) (have_utf8_texts ps) line.utf8 in
    record { sound = both _ _ keys.1 values.1; deep = (let deep = line.deep in omega arith); utf8 = texts.1 }

-- the first pair's value
pub first_fine : (p : Text × Value) (ps : Pairs) → IsLineMap (p ∷ ps) → Fine p.1
first_fine p ps line =
    let parts = and_parts (all_distinct (keys_of (p ∷ ps))) (list_all (λ (q : Text × Value). is_sound_value q.1) (p ∷ ps)) line.sound in
    let values = and_parts (is_sound_value p.1) (list_all (λ (q : Text × Value). is_sound_value q.1) ps) parts.1 in
    let texts = and_parts (is_utf8 p.0 && has_utf8_texts p.1) (have_utf8_texts ps) line.utf8 in
    let own = and_parts (is_utf8 p.0) (has_utf8_texts p.1) texts.0 in
    record { sound = values.0; deep = (let deep = line.deep in omega arith); utf8 = own.1 }

pub first_text : (key t : Text) (ps : Pairs) → IsLineMap ((key, Value.Text t) ∷ ps) → is_utf8 t ≡ true
first_text key t ps line = sym (text_utf8 t) ∙ (first_fine (key, Value.Text t) ps line).utf8

pub first_map : (key : Text) (a ps : Pairs) → IsLineMap ((key, Value.Pairs a) ∷ ps) → AreFairPairs a
first_map key a ps line =
    let fine = first_fine (key, Value.Pairs a) ps line in
    (sym (map_sound a) ∙ fine.sound, sym (map_utf8 a) ∙ fine.utf8, (let deep = map_deep a in let low = fine.deep in omega arith))
