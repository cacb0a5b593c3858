-- The scripts that are read of a sound tree are sound.
use Rattle.std.proofs.Common.{◌≡◌, ◌∙◌, ap, sym, subst, refl, ℕ, ◌≤◌, Bool, true, false, List, [], ◌∷◌, ◌++◌, length, map, Option, Some, None, Ok, Err, arith, append_assoc, append-nil, inl, inr}
use Rattle.std.specs.Prelude.{◌&&◌, if◌then◌else◌, nat_le, unwrap_or, option_map, slice_get}
use Rattle.std.specs.List.{list_all}
use Rattle.std.proofs.lemmas.Bool.{and_parts, le-leb}
use Rattle.std.proofs.lemmas.List.{length-map, map-append}
use Rattle.std.proofs.lemmas.Option.{slice_get_cases}
use Rattle.ha_value.specs.Ids.{is_name}
use Rattle.ha_config.specs.declared.config.Action.{Action}
use Rattle.ha_config.specs.declared.config.Script.{Script}
use Rattle.ha_config.specs.ValueFacts.{all_distinct}
use Rattle.ha_config.specs.Sound.{are_sound_actions, are_sound_scripts, is_sound_script}
use Rattle.yaml_scan.specs.declared.fault.Code.TheVariants as code
use Rattle.yaml_tree.specs.declared.node.NodeKind.TheOpen.{NodeKind-F}
use Rattle.yaml_tree.specs.Readers.{Shape, shape_of, is_null_word}
use Rattle.conf_field.specs.declared.key.Key.TheVariants as key
use Rattle.conf_field.specs.Holds.{Holds, Each, IfThere}
use Rattle.conf_field.specs.Readings.{Read, bad, behind, each, each_behind, fault, unless}
use Rattle.conf_field.specs.Fields.{Pair, get, keys, need, place}
use Rattle.conf_laws.proofs.Joined.{one_more, pair}
use Rattle.conf_laws.proofs.Down.{AreSoundPairs, IsSoundPair, IsSoundShape, sound_inside}
use Rattle.conf_laws.proofs.Parts.{Passes, Reads, either_way, finish, known, of_get, of_need, unknown, weaker, with}
use Rattle.conf_auto.specs.Automations.{actions_in, mode, most_runs, script_of}
use Rattle.conf_auto.specs.Scripts.{Settings, at_most, build, made_named, made_script, made_scripts, name_fault, named, rows, script, script_by, script_map, scripts, scripts_by}
use Rattle.sound_laws.proofs.SoundParts.{default_runs, in_most, reads_runs, reads_script, script_sound}

-- ---- one script

abbrev SoundActions : List Action → Type 0
SoundActions actions = are_sound_actions actions ≡ true

built_sound : (name : List ℕ) (actions : List Action) (settings : Settings) → is_name name ≡ true → SoundActions actions → in_most (unwrap_or settings.1 10) ≡ true
    → is_sound_script (build name actions settings) ≡ true
built_sound name actions settings n a m =
    let max = unwrap_or settings.1 10 in
    let two = and_parts (nat_le 1 max) (nat_le max 1_000) m in
    pair (is_name name && nat_le 1 max && nat_le max 1_000) (are_sound_actions actions)
    (pair (is_name name && nat_le 1 max) (nat_le max 1_000) (pair (is_name name) (nat_le 1 max) n two.0) two.1) a

-- it has this name, and is sound where that is one
abbrev IsNamed : List ℕ → Script → Type 0
IsNamed name s = (s.name ≡ name) × (is_name name ≡ true → is_sound_script s ≡ true)

map_named : (name : List ℕ) (line : ℕ) (ps : List Pair) → AreSoundPairs ps → Holds (IsNamed name) (script_map name line ps)
map_named name line ps s =
    finish
    (with (unknown (keys rows ps))
    (with (known SoundActions (need key.Sequence line ps actions_in) (of_need SoundActions actions_in reads_script key.Sequence line ps s))
    (with (unknown (get key.Mode ps mode)) (known (IfThere (Passes in_most)) (get key.Max ps most_runs) (of_get (Passes in_most) most_runs reads_runs key.Max ps s)))))
    (IsNamed name) (made_script name)
    (λ x h. (refl, λ n. built_sound name (script_of x.1.0) x.1.1 n (script_sound x.1.0 h.1.0) (default_runs x.1.1.1 h.1.1.1)))

shape_named : (name : List ℕ) (line : ℕ) (shape : Shape) → IsSoundShape shape → Holds (IsNamed name) (script_by name line shape)
shape_named name line (NodeKind-F.Scalar t plain) s = tt
shape_named name line (NodeKind-F.List items) s = tt
shape_named name line (NodeKind-F.Map pairs) s = map_named name line pairs s

name_holds : (p : Pair) → Holds (λ u. is_name p.0 ≡ true) (unless (name_fault p))
name_holds p = by (is_name p.0)
  where
    by : (b : Bool) → Holds (λ (u : Unit {0}). b ≡ true) (unless (if b then None else Some (fault p.1 code.EntityId)))
    by true = refl
    by false = tt

-- a script of a pair is sound, and has the name that the key is
abbrev IsOf : Pair → Script → Type 0
IsOf p s = (is_sound_script s ≡ true) × (s.name ≡ p.0)

script_of_pair : (p : Pair) → IsSoundPair p → Holds (IsOf p) (script p)
script_of_pair p s =
    finish
    (with (known (λ u. is_name p.0 ≡ true) (unless (name_fault p)) (name_holds p))
    (known (IsNamed p.0) (script_by p.0 (place p) (shape_of p.2)) (shape_named p.0 (place p) (shape_of p.2) (sound_inside p.2 s.0))))
    (IsOf p) made_named (λ x h. (h.1.1 h.0, h.1.0))

-- ---- all of them

abbrev names : List Script → List (List ℕ)
names ss = map (λ (s : Script). s.name) ss

abbrev key_of : Pair → List ℕ
key_of p = p.0

-- each is sound, and these are their names
abbrev Named : List (List ℕ) → List Script → Type 0
Named keys' ss = (list_all is_sound_script ss ≡ true) × (names ss ≡ keys')

one_named : (before : Read (List Script)) (r : Read Script) (done : List (List ℕ)) (p : Pair) → Holds (Named done) before → Holds (IsOf p) r → Holds (Named (done ++ (p.0 ∷ []))) (behind before r)
one_named (Ok ss) (Ok s) done p h k = (one_more is_sound_script ss s h.0 k.0, map-append (λ (x : Script). x.name) ss (s ∷ []) ∙ (λ i. h.1 i ++ (k.1 i ∷ [])))
one_named (Ok ss) (Err g) done p h k = tt
one_named (Err f) (Ok s) done p h k = tt
one_named (Err f) (Err g) done p h k = tt

along : (before : Read (List Script)) (done : List (List ℕ)) (ps : List Pair) → Holds (Named done) before → Each IsSoundPair ps → Holds (Named (done ++ map key_of ps)) (each_behind script before ps)
unfolding each_behind
along before done [] h s = weaker (Named done) (Named (done ++ [])) before (λ ss k. (k.0, k.1 ∙ sym (append-nil done))) h
along before done (p ∷ ps) h s =
    weaker (Named ((done ++ (p.0 ∷ [])) ++ map key_of ps)) (Named (done ++ map key_of (p ∷ ps))) (each_behind script (behind before (script p)) ps)
    (λ ss k. (k.0, k.1 ∙ append_assoc done (p.0 ∷ []) (map key_of ps)))
    (along (behind before (script p)) (done ++ (p.0 ∷ [])) ps (one_named before (script p) done p h (script_of_pair p s.0)) s.1)

limit_holds : (ps : List Pair) → Holds (λ u. length ps ≤ 1_024) (unless (at_most 1_024 ps))
limit_holds ps = elim (slice_get_cases ps 1_024).1 [ inl found ↦ over found.0 found.2 | inr past ↦ within_it past.0 past.1 ]
  where
    over : (p : Pair) → slice_get ps 1_024 ≡ Some p → Holds (λ (u : Unit {0}). length ps ≤ 1_024) (unless (at_most 1_024 ps))
    over p e = subst (λ (o : Option Pair). Holds (λ (u : Unit {0}). length ps ≤ 1_024) (unless (option_map (λ (x : Pair). fault (place x) code.Limit) o))) (sym e) tt

    within_it : length ps ≤ 1_024 → slice_get ps 1_024 ≡ None → Holds (λ (u : Unit {0}). length ps ≤ 1_024) (unless (at_most 1_024 ps))
    within_it le e = subst (λ (o : Option Pair). Holds (λ (u : Unit {0}). length ps ≤ 1_024) (unless (option_map (λ (x : Pair). fault (place x) code.Limit) o))) (sym e) le

abbrev pub SoundScripts : List Script → Type 0
SoundScripts ss = are_sound_scripts ss ≡ true

all_sound : (ps : List Pair) (ss : List Script) → all_distinct (map key_of ps) ≡ true → length ps ≤ 1_024 → Named (map key_of ps) ss → SoundScripts ss
all_sound ps ss distinct few h =
    let count : length ss ≤ 1_024 = omega (arith, few, ap length h.1, length-map ss (λ (s : Script). s.name), length-map ps key_of) in
    pair (nat_le (length ss) 1_024 && all_distinct (names ss)) (list_all is_sound_script ss)
    (pair (nat_le (length ss) 1_024) (all_distinct (names ss)) (le-leb (length ss) 1_024 count) (ap all_distinct h.1 ∙ distinct)) h.0

named_sound : (ps : List Pair) → AreSoundPairs ps → Holds SoundScripts (named ps)
named_sound ps s =
    finish
    (with (known (λ u. length ps ≤ 1_024) (unless (at_most 1_024 ps)) (limit_holds ps))
    (known (Named (map key_of ps)) (each script ps) (along (Ok []) [] ps (refl, refl) s.each)))
    SoundScripts made_scripts (λ x h. all_sound ps x.1 s.distinct h.0 h.1)

shape_sound : (line : ℕ) (shape : Shape) → IsSoundShape shape → Holds SoundScripts (scripts_by line shape)
shape_sound line (NodeKind-F.Scalar t plain) s = either_way SoundScripts (plain && is_null_word t) (Ok []) (bad line code.Kind) refl tt
shape_sound line (NodeKind-F.List items) s = tt
shape_sound line (NodeKind-F.Map pairs) s = named_sound pairs s

-- LAW: what stands under the key of scripts is sound
pub reads_scripts : Reads SoundScripts scripts
reads_scripts line n s = shape_sound line (shape_of n) (sound_inside n s)
