-- The value of a trace's first line: it is printed as the line, is read from it, and has the line's parts.
use Rattle.std.proofs.Common.{◌≡◌, ℕ, suc, ◌≤◌, Bool, true, List, [], ◌∷◌, ◌++◌, map, max, refl, sym, ap, subst, ◌∙◌, rules, arith}
use Rattle.std.specs.Prelude.{◌&&◌, nat_le, Option, Some, None, IsSome, Result, Ok, Err, codes, option_map, option_and_then}
use Rattle.ha_clock.specs.Zone.{zone_of}
use Rattle.ha_texts.proofs.TraceLemmas.{moment_ascii}
use Rattle.std.proofs.lemmas.Str.{IsUtf8-from_ascii, is_utf8-from_IsUtf8}
use Rattle.ha_config.proofs.EqualLemmas.{and_left, and_right}
use Rattle.flow_line.specs.Grammar.{IsDocument}
use Rattle.flow_line.proofs.PrintedValue.{print_is_spelled}
use Rattle.ha_replay.specs.declared.boot.BootLine.{BootLine}
use Rattle.ha_replay.specs.declared.fault.TraceFault.{TraceFault}
use Rattle.std.specs.List.{list_all}
use Rattle.std.specs.Str.{chars, is_utf8}
use lib.Utf8.{encode}
use Rattle.ha_value.specs.declared.value.Value.{Value}
use Rattle.ha_value.specs.declared.value.Value.TheOpen.{Value-F}
use Rattle.ha_value.specs.declared.value.Value.TheViews.{out-Value, out-roll-Value, roll-Value}
use Rattle.ha_value.specs.declared.value.Value.TheFolds.{fold-roll-Value, map-Value}
use Rattle.ha_config.proofs.ValueRolls.{depth_of-roll, is_sound_value-roll, print_value-roll}
use Rattle.ha_clock.specs.Local.{last_moment}
use Rattle.ha_clock.specs.MomentText.{moment_of}
use Rattle.ha_clock.specs.Print.{moment_text}
use Rattle.ha_clock.proofs.RoundTrip.{moment_read}
use Rattle.ha_config.specs.declared.config.Config.{Config}
use Rattle.ha_journal.specs.declared.entry.Entry.{Entry}
use Rattle.ha_config.specs.Words.{Pairs, Text}
use Rattle.ha_config.specs.ValueFacts.{all_distinct, has_utf8_texts, is_sound_value, keys_of, utf8_step}
use Rattle.ha_config.specs.ValueText.{deepest, depth_of, flag_text, map_text, print_value, quoted}
use Rattle.ha_config.specs.CheckText.{as_line}
use Rattle.ha_config.specs.StoreText.{stored_text, moments_text}
use Rattle.ha_config.specs.Sound.{are_in_name_order}
use Rattle.ha_journal.specs.Entries.{first_carry}
use Rattle.ha_journal.specs.EntryText.{boot_pairs, trace_line}
use Rattle.ha_replay.specs.Boots.{HasUtf8, IsBootLine, Moments, Reads, ReadsFrom, Switches, are_in_time, are_stored, have_utf8_names, last_of, moments_of, parts, parts_in, flag_of, stored_of, switches_of, text_of}
use Rattle.ha_replay.proofs.OrderLemmas.{ordered-distinct}
use Rattle.ha_replay.proofs.TextLemmas.{same-line}

abbrev text_value : Text → Value
text_value t = roll-Value (Value-F.Text t)

abbrev flag_pairs : Switches → Pairs
flag_pairs ps = map (λ p. (p.0, roll-Value (Value-F.Flag p.1))) ps

abbrev stored_value : Option Switches → Value
stored_value None = roll-Value Value-F.Null
stored_value (Some ps) = roll-Value (Value-F.Pairs (flag_pairs ps))

abbrev moment_pairs : Moments → Pairs
moment_pairs ps = map (λ p. (p.0, text_value (moment_text p.1))) ps

abbrev last_value : Moments → Value
last_value ps = roll-Value (Value-F.Pairs (moment_pairs ps))

-- behind those of the configuration and the switches
abbrev last_values : Moments → Pairs
last_values [] = []
last_values (p ∷ ps) = (codes "last", last_value (p ∷ ps)) ∷ []

abbrev inner_pairs : BootLine → Pairs
inner_pairs b =
    (codes "config", text_value b.text) ∷ (codes "stored", stored_value b.stored) ∷ last_values b.last ++ (codes "start", text_value (moment_text b.start)) ∷ (codes "zone", text_value b.zone) ∷ []

abbrev inner_value : BootLine → Value
inner_value b = roll-Value (Value-F.Pairs (inner_pairs b))

abbrev pub value_of : BootLine → Value
value_of b = roll-Value (Value-F.Pairs ((codes "boot", inner_value b) ∷ []))

-- ---- what is printed

-- a first line with these parts
abbrev line_of : Text → Option Switches → ℕ → Text → Moments → BootLine
line_of text stored start zone last = record { text = text; stored = stored; start = start; zone = zone; last = last }

text-printed : (t : Text) → print_value (text_value t) ≡ quoted t
text-printed t = print_value-roll (Value-F.Text t)

flags-printed : (ps : Switches) → map {A = Text × Value} {B = Text × Text} (λ p. (p.0, print_value p.1)) (flag_pairs ps) ≡ map {A = Text × Bool} {B = Text × Text} (λ p. (p.0, flag_text p.1)) ps
flags-printed [] = refl
flags-printed (p ∷ ps) = (λ i. (p.0, print_value-roll (Value-F.Flag p.1) i) ∷ flags-printed ps i)

stored-printed : (stored : Option Switches) → print_value (stored_value stored) ≡ stored_text stored
stored-printed None = print_value-roll Value-F.Null
stored-printed (Some ps) = print_value-roll (Value-F.Pairs (flag_pairs ps)) ∙ ap map_text (flags-printed ps)

moments-printed : (ps : Moments) → map {A = Text × Value} {B = Text × Text} (λ p. (p.0, print_value p.1)) (moment_pairs ps) ≡ map {A = Text × ℕ} {B = Text × Text} (λ p. (p.0, quoted (moment_text p.1))) ps
moments-printed [] = refl
moments-printed (p ∷ ps) = (λ i. (p.0, text-printed (moment_text p.1) i) ∷ moments-printed ps i)

last-printed : (ps : Moments) → print_value (last_value ps) ≡ moments_text ps
last-printed ps = print_value-roll (Value-F.Pairs (moment_pairs ps)) ∙ ap map_text (moments-printed ps)

inner-printed : (text : Text) (stored : Option Switches) (start : ℕ) (zone : Text) (last : Moments)
    → print_value (inner_value (line_of text stored start zone last)) ≡ map_text (boot_pairs text stored last start zone)
inner-printed text stored start zone [] =
    print_value-roll (Value-F.Pairs (inner_pairs (line_of text stored start zone [])))
    ∙ (λ i. map_text ((codes "config", text-printed text i) ∷ (codes "stored", stored-printed stored i) ∷ (codes "start", text-printed (moment_text start) i) ∷ (codes "zone", text-printed zone i) ∷ []))
inner-printed text stored start zone (m ∷ ms) =
    print_value-roll (Value-F.Pairs (inner_pairs (line_of text stored start zone (m ∷ ms))))
    ∙ (λ i. map_text ((codes "config", text-printed text i) ∷ (codes "stored", stored-printed stored i) ∷ (codes "last", last-printed (m ∷ ms) i) ∷ (codes "start", text-printed (moment_text start) i)
    ∷ (codes "zone", text-printed zone i) ∷ []))

-- the line of a Boot is what is printed of its value
pub boot-printed : (all : List Text) (config : Config) (b : BootLine)
    → trace_line all (Entry.Boot b.text config b.stored b.start b.zone (first_carry b.last)) ≡ as_line (print_value (value_of b))
boot-printed all config b =
    sym (ap as_line (print_value-roll (Value-F.Pairs ((codes "boot", inner_value b) ∷ [])) ∙ (λ i. map_text ((codes "boot", inner-printed b.text b.stored b.start b.zone b.last i) ∷ []))))

-- ---- what is read

flags-read : (ps : Switches) → switches_of (flag_pairs ps) ≡ Some ps
flags-read [] = refl
flags-read (p ∷ ps) = (λ i. option_and_then (λ (b : Bool). option_map (λ (rest : Switches). (p.0, b) ∷ rest) (flags-read ps i)) (flag_of (out-roll-Value (Value-F.Flag p.1) i)))

stored-read : (stored : Option Switches) → stored_of (out-Value (stored_value stored)) ≡ Some stored
stored-read None = ap stored_of (out-roll-Value Value-F.Null)
stored-read (Some ps) = ap stored_of (out-roll-Value (Value-F.Pairs (flag_pairs ps))) ∙ ap (option_map Some) (flags-read ps)

moments-read : (ps : Moments) → are_in_time ps ≡ true → moments_of (moment_pairs ps) ≡ Some ps
moments-read [] h = refl
moments-read (p ∷ ps) h =
    let here : option_and_then moment_of (text_of (out-Value (text_value (moment_text p.1)))) ≡ Some p.1
    = (λ i. option_and_then moment_of (text_of (out-roll-Value (Value-F.Text (moment_text p.1)) i))) ∙ moment_read p.1 (no-more p.1 last_moment (and_left (nat_le p.1 last_moment) (are_in_time ps) h)) in
    λ i. option_and_then (λ (at : ℕ). option_map (λ (rest : Moments). (p.0, at) ∷ rest) (moments-read ps (and_right (nat_le p.1 last_moment) (are_in_time ps) h) i)) (here i)
  where
    no-more : (a b : ℕ) → nat_le a b ≡ true → a ≤ b
    no-more a b e = search (rules, e)

last-read : (ps : Moments) → are_in_time ps ≡ true → last_of (out-Value (last_value ps)) ≡ Some ps
last-read ps h = ap last_of (out-roll-Value (Value-F.Pairs (moment_pairs ps))) ∙ moments-read ps h

-- the parts that a value with moments names, where these are read of theirs
with-last : (text : Text) (stored : Option Switches) (start : ℕ) (zone : Text) (last : Moments) (v : Value) → start ≤ last_moment → last_of (out-Value v) ≡ Some last
    → parts_in (roll-Value (Value-F.Pairs ((
      codes "boot",
      roll-Value (Value-F.Pairs ((codes "config", text_value text) ∷ (codes "stored", stored_value stored) ∷ (codes "last", v) ∷ (codes "start", text_value (moment_text start))
          ∷ (codes "zone", text_value zone) ∷ [])),
    ) ∷ [])))
    ≡ Some (parts text stored start zone last)
unfolding parts_in
with-last text stored start zone last v le moments =
    let moment = moment_read start le in
    let kept = stored-read stored in
    simp (out-roll-Value, moment, kept, moments)

-- the parts that the value names are those that it was made of
parts-read : (text : Text) (stored : Option Switches) (start : ℕ) (zone : Text) (last : Moments) → start ≤ last_moment → are_in_time last ≡ true
    → parts_in (value_of (line_of text stored start zone last)) ≡ Some (parts text stored start zone last)
unfolding parts_in
parts-read text stored start zone [] le h =
    let moment = moment_read start le in
    let kept = stored-read stored in
    simp (out-roll-Value, moment, kept)
parts-read text stored start zone (m ∷ ms) le h = with-last text stored start zone (m ∷ ms) (last_value (m ∷ ms)) le (last-read (m ∷ ms) h)

pub boot-parts : (b : BootLine) → b.start ≤ last_moment → are_in_time b.last ≡ true → parts_in (value_of b) ≡ Some (parts b.text b.stored b.start b.zone b.last)
boot-parts b le h = parts-read b.text b.stored b.start b.zone b.last le h

-- ---- the value is one that is read back

flags-flat : (ps : Switches) → deepest (map {A = Text × ℕ} {B = ℕ} (λ p. p.1) (map {A = Text × Value} {B = Text × ℕ} (λ p. (p.0, depth_of p.1)) (flag_pairs ps))) ≡ 0
flags-flat [] = refl
flags-flat (p ∷ ps) = (λ i. max (depth_of-roll (Value-F.Flag p.1) i) (flags-flat ps i))

stored-depth : (stored : Option Switches) → depth_of (stored_value stored) ≤ 1
stored-depth None = (let e : depth_of (stored_value None) ≡ 0 = depth_of-roll Value-F.Null in omega (arith, e))
stored-depth (Some ps) =
    let e : depth_of (stored_value (Some ps)) ≡ 1 = depth_of-roll (Value-F.Pairs (flag_pairs ps)) ∙ ap (λ n. suc n) (flags-flat ps) in
    omega (arith, e)

text-depth : (t : Text) → depth_of (text_value t) ≡ 0
text-depth t = depth_of-roll (Value-F.Text t)

moments-flat : (ps : Moments) → deepest (map {A = Text × ℕ} {B = ℕ} (λ p. p.1) (map {A = Text × Value} {B = Text × ℕ} (λ p. (p.0, depth_of p.1)) (moment_pairs ps))) ≡ 0
moments-flat [] = refl
moments-flat (p ∷ ps) = (λ i. max (text-depth (moment_text p.1) i) (moments-flat ps i))

last-depth : (ps : Moments) → depth_of (last_value ps) ≡ 1
last-depth ps = depth_of-roll (Value-F.Pairs (moment_pairs ps)) ∙ ap (λ n. suc n) (moments-flat ps)

inner-depth : (text : Text) (stored : Option Switches) (start : ℕ) (zone : Text) (last : Moments) → depth_of (inner_value (line_of text stored start zone last)) ≤ 2
inner-depth text stored start zone [] =
    let e : depth_of (inner_value (line_of text stored start zone [])) ≡ suc (max (depth_of (text_value text)) (max (depth_of (stored_value stored)) (max (depth_of (text_value (moment_text start))) (max (depth_of (text_value zone)) 0))))
    = depth_of-roll (Value-F.Pairs (inner_pairs (line_of text stored start zone []))) in
    omega (arith, e, text-depth text, stored-depth stored, text-depth (moment_text start), text-depth zone)
inner-depth text stored start zone (m ∷ ms) =
    let e : depth_of (inner_value (line_of text stored start zone (m ∷ ms)))
    ≡ suc (max (depth_of (text_value text)) (max (depth_of (stored_value stored)) (max (depth_of (last_value (m ∷ ms))) (max (depth_of (text_value (moment_text start))) (max (depth_of (text_value zone)) 0)))))
    = depth_of-roll (Value-F.Pairs (inner_pairs (line_of text stored start zone (m ∷ ms)))) in
    omega (arith, e, text-depth text, stored-depth stored, last-depth (m ∷ ms), text-depth (moment_text start), text-depth zone)

pub boot-depth : (b : BootLine) → depth_of (value_of b) ≤ 32
boot-depth b =
    let e : depth_of (value_of b) ≡ suc (max (depth_of (inner_value b)) 0) = depth_of-roll (Value-F.Pairs ((codes "boot", inner_value b) ∷ [])) in
    omega (arith, e, inner-depth b.text b.stored b.start b.zone b.last)

abbrev sound_pairs : Pairs → List (Text × Bool)
sound_pairs ps = map {A = Text × Value} {B = Text × Bool} (λ p. (p.0, is_sound_value p.1)) ps

flags-sound : (ps : Switches) → list_all (λ p. p.1) (sound_pairs (flag_pairs ps)) ≡ true
flags-sound [] = refl
flags-sound (p ∷ ps) = (λ i. is_sound_value-roll (Value-F.Flag p.1) i && flags-sound ps i)

flags-keys : (ps : Switches) → keys_of (sound_pairs (flag_pairs ps)) ≡ keys_of ps
flags-keys [] = refl
flags-keys (p ∷ ps) = ap (λ l. p.0 ∷ l) (flags-keys ps)

stored-sound : (stored : Option Switches) → are_stored stored ≡ true → is_sound_value (stored_value stored) ≡ true
stored-sound None h = is_sound_value-roll Value-F.Null
stored-sound (Some ps) h =
    is_sound_value-roll (Value-F.Pairs (flag_pairs ps)) ∙ (λ i. all_distinct (flags-keys ps i) && flags-sound ps i) ∙ (λ i. ordered-distinct ps h i && true)

text-sound : (t : Text) → is_sound_value (text_value t) ≡ true
text-sound t = is_sound_value-roll (Value-F.Text t)

moments-sound : (ps : Moments) → list_all (λ p. p.1) (sound_pairs (moment_pairs ps)) ≡ true
moments-sound [] = refl
moments-sound (p ∷ ps) = (λ i. text-sound (moment_text p.1) i && moments-sound ps i)

moments-keys : (ps : Moments) → keys_of (sound_pairs (moment_pairs ps)) ≡ keys_of ps
moments-keys [] = refl
moments-keys (p ∷ ps) = ap (λ l. p.0 ∷ l) (moments-keys ps)

last-sound : (ps : Moments) → are_in_name_order ps ≡ true → is_sound_value (last_value ps) ≡ true
last-sound ps h =
    is_sound_value-roll (Value-F.Pairs (moment_pairs ps)) ∙ (λ i. all_distinct (moments-keys ps i) && moments-sound ps i) ∙ (λ i. ordered-distinct ps h i && true)

inner-sound : (text : Text) (stored : Option Switches) (start : ℕ) (zone : Text) (last : Moments) → are_stored stored ≡ true → are_in_name_order last ≡ true → is_sound_value (inner_value (line_of text stored start zone last)) ≡ true
inner-sound text stored start zone [] h o =
    is_sound_value-roll (Value-F.Pairs (inner_pairs (line_of text stored start zone [])))
    ∙ (λ i. true && (text-sound text i && (stored-sound stored h i && (text-sound (moment_text start) i && (text-sound zone i && true)))))
inner-sound text stored start zone (m ∷ ms) h o =
    is_sound_value-roll (Value-F.Pairs (inner_pairs (line_of text stored start zone (m ∷ ms))))
    ∙ (λ i. true && (text-sound text i && (stored-sound stored h i && (last-sound (m ∷ ms) o i && (text-sound (moment_text start) i && (text-sound zone i && true))))))

pub boot-sound : (b : BootLine) → are_stored b.stored ≡ true → are_in_name_order b.last ≡ true → is_sound_value (value_of b) ≡ true
boot-sound b h o = is_sound_value-roll (Value-F.Pairs ((codes "boot", inner_value b) ∷ [])) ∙ (λ i. true && (inner-sound b.text b.stored b.start b.zone b.last h o i && true))

utf8-roll : (x : Value-F Value) → has_utf8_texts (roll-Value x) ≡ utf8_step (map-Value Value Bool has_utf8_texts x)
utf8-roll x = fold-roll-Value Bool utf8_step x

abbrev utf8_pairs : Pairs → List (Text × Bool)
utf8_pairs ps = map {A = Text × Value} {B = Text × Bool} (λ p. (p.0, has_utf8_texts p.1)) ps

flags-utf8 : (ps : Switches) → list_all (λ p. is_utf8 p.0) ps ≡ true → list_all (λ p. is_utf8 p.0 && p.1) (utf8_pairs (flag_pairs ps)) ≡ true
flags-utf8 [] h = refl
flags-utf8 (p ∷ ps) h =
    (λ i. (and_left (is_utf8 p.0) (list_all (λ q. is_utf8 q.0) ps) h i && utf8-roll (Value-F.Flag p.1) i) && flags-utf8 ps (and_right (is_utf8 p.0) (list_all (λ q. is_utf8 q.0) ps) h) i)

stored-utf8 : (stored : Option Switches) → have_utf8_names stored ≡ true → has_utf8_texts (stored_value stored) ≡ true
stored-utf8 None h = utf8-roll Value-F.Null
stored-utf8 (Some ps) h = utf8-roll (Value-F.Pairs (flag_pairs ps)) ∙ flags-utf8 ps h

text-utf8 : (t : Text) → is_utf8 t ≡ true → has_utf8_texts (text_value t) ≡ true
text-utf8 t e = utf8-roll (Value-F.Text t) ∙ e

-- the text of a moment is UTF-8
moment-utf8 : (at : ℕ) → is_utf8 (moment_text at) ≡ true
moment-utf8 at = is_utf8-from_IsUtf8 (moment_text at) (IsUtf8-from_ascii (moment_text at) (moment_ascii at))

-- the keys
key-boot : is_utf8 (codes "boot") ≡ true
unfolding is_utf8 chars encode
key-boot = refl

key-config : is_utf8 (codes "config") ≡ true
unfolding is_utf8 chars encode
key-config = refl

key-stored : is_utf8 (codes "stored") ≡ true
unfolding is_utf8 chars encode
key-stored = refl

key-start : is_utf8 (codes "start") ≡ true
unfolding is_utf8 chars encode
key-start = refl

key-zone : is_utf8 (codes "zone") ≡ true
unfolding is_utf8 chars encode
key-zone = refl

key-last : is_utf8 (codes "last") ≡ true
unfolding is_utf8 chars encode
key-last = refl

moments-utf8 : (ps : Moments) → list_all (λ p. is_utf8 p.0) ps ≡ true → list_all (λ p. is_utf8 p.0 && p.1) (utf8_pairs (moment_pairs ps)) ≡ true
moments-utf8 [] h = refl
moments-utf8 (p ∷ ps) h =
    (λ i. (and_left (is_utf8 p.0) (list_all (λ q. is_utf8 q.0) ps) h i && text-utf8 (moment_text p.1) (moment-utf8 p.1) i) && moments-utf8 ps (and_right (is_utf8 p.0) (list_all (λ q. is_utf8 q.0) ps) h) i)

last-utf8 : (ps : Moments) → list_all (λ p. is_utf8 p.0) ps ≡ true → has_utf8_texts (last_value ps) ≡ true
last-utf8 ps h = utf8-roll (Value-F.Pairs (moment_pairs ps)) ∙ moments-utf8 ps h

inner-utf8 : (text : Text) (stored : Option Switches) (start : ℕ) (zone : Text) (last : Moments) → HasUtf8 (line_of text stored start zone last) → has_utf8_texts (inner_value (line_of text stored start zone last)) ≡ true
inner-utf8 text stored start zone [] u =
    utf8-roll (Value-F.Pairs (inner_pairs (line_of text stored start zone [])))
    ∙ (λ i. (key-config i && text-utf8 text u.text i)
    && ((key-stored i && stored-utf8 stored u.names i) && ((key-start i && text-utf8 (moment_text start) (moment-utf8 start) i) && ((key-zone i && text-utf8 zone u.zone i) && true))))
inner-utf8 text stored start zone (m ∷ ms) u =
    utf8-roll (Value-F.Pairs (inner_pairs (line_of text stored start zone (m ∷ ms))))
    ∙ (λ i. (key-config i && text-utf8 text u.text i)
    && ((key-stored i && stored-utf8 stored u.names i)
    && ((key-last i && last-utf8 (m ∷ ms) u.last_names i) && ((key-start i && text-utf8 (moment_text start) (moment-utf8 start) i) && ((key-zone i && text-utf8 zone u.zone i) && true)))))

boot-utf8 : (b : BootLine) → HasUtf8 b → has_utf8_texts (value_of b) ≡ true
boot-utf8 b u = utf8-roll (Value-F.Pairs ((codes "boot", inner_value b) ∷ [])) ∙ (λ i. (key-boot i && inner-utf8 b.text b.stored b.start b.zone b.last (record { text = u.text; names = u.names; zone = u.zone; last_names = u.last_names }) i) && true)

-- ---- lines

abbrev no_automation : Config
no_automation = record { automations = []; scripts = []; helpers = [] }

-- the line of a first entry is what is printed of its value
line-printed : (line : Text) (b : BootLine) → IsBootLine line b → line ≡ print_value (value_of b)
line-printed line b is = same-line line (print_value (value_of b)) (is.line_is no_automation ∙ boot-printed [] no_automation b)

-- LAW: the line of a first entry is a value in the notation
pub boot-spelled : (line : Text) (b : BootLine) → IsBootLine line b → HasUtf8 b → IsDocument line (value_of b)
boot-spelled line b is u = subst (λ t. IsDocument t (value_of b)) (sym (line-printed line b is))
    (print_is_spelled (value_of b) (boot-depth b) (boot-sound b is.ordered is.last_ordered) (boot-utf8 b u))

-- what is read of the parts of a value is read of the line
pub reads-line : (line : Text) (value : Value) (r : Result BootLine TraceFault) → ((v : Value) → IsDocument line v → value ≡ v) → ReadsFrom (parts_in value) line r → Reads line r
reads-line line value (Ok b) only h =
    let p = h.0 in
    let are = h.2 in
    let of = h.3 in
    record {
      line_is = λ config. are.line_is ∙ (λ i. trace_line [] (Entry.Boot (of.0 i) no_automation (of.1 i) (of.2 i) (of.3 i) (first_carry (of.4 i))));
      start = subst (λ n. n ≤ last_moment) of.2 are.start;
      zone = subst (λ z. IsSome (zone_of z)) of.3 are.zone;
      ordered = (λ i. are_stored (sym of.1 i)) ∙ are.ordered;
      last_ordered = (λ i. are_in_name_order (sym of.4 i)) ∙ are.last_ordered;
      last_in_time = (λ i. are_in_time (sym of.4 i)) ∙ are.last_in_time;
    }
reads-line line value (Err TraceFault.Refused) only h = λ b is u.
    let same = only (value_of b) (boot-spelled line b is u) in
    h (parts b.text b.stored b.start b.zone b.last) (ap parts_in same ∙ boot-parts b is.start is.last_in_time)
    (record { line_is = is.line_is no_automation; start = is.start; zone = is.zone; ordered = is.ordered; last_ordered = is.last_ordered; last_in_time = is.last_in_time })
reads-line line value (Err TraceFault.Full) only h = h
reads-line line value (Err TraceFault.Memory) only h = tt
