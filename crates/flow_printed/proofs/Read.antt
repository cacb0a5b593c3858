-- A command that is fair but for its automation is read of its print.
use Rattle.std.proofs.Common.{◌≡◌, ℕ, zero, suc, ◌≤◌, Bool, true, false, cond, [], ◌∷◌, drop, Some, None, refl, sym, ap, subst, ◌∙◌, inl, inr, arith}
use Rattle.std.specs.Prelude.{codes, nat_eq, nat_le, ◌&&◌, ◌||◌, ◌⊎◌, ◌++◌, ◌≢◌, IsUtf8}
use Rattle.std.specs.Fmt.{decimal, digits}
use Rattle.std.specs.Str.{chars, is_utf8, IsAscii}
use Rattle.std.proofs.lemmas.Bool.{and_parts, false_from_ne_true, leb-true}
use Rattle.std.proofs.lemmas.Bool.Decides.{nat_tests}
use Rattle.std.proofs.lemmas.Fmt.{IsAscii-decimal}
use Rattle.std.proofs.lemmas.Slice.Eq.{bytes_eq-Decides}
use Rattle.std.proofs.lemmas.Str.{is_utf8-from_IsUtf8, IsUtf8-append, IsUtf8-from_ascii, IsUtf8-from_is_utf8}
use lib.Utf8.{encode}
use Rattle.ha_value.specs.declared.value.EntityId.{EntityId}
use Rattle.ha_value.specs.declared.value.Value
use Rattle.ha_value.specs.declared.value.Value.{Value}
use Rattle.ha_value.specs.Ids.{entity_text, is_entity, is_name, read_entity}
use Rattle.ha_value.proofs.CutLemmas.{name_utf8}
use Rattle.ha_value.proofs.PrintLemmas.{id_is_read}
use Rattle.ha_clock.specs.Local.{last_moment}
use Rattle.ha_clock.specs.MomentText.{moment_of}
use Rattle.ha_clock.specs.Print.{moment_text}
use Rattle.ha_clock.proofs.RoundTrip.{moment_read}
use Rattle.ha_config.specs.declared.command.Cmd.{Cmd}
use Rattle.ha_config.specs.Words.{Text, Pairs, same, characters}
use Rattle.ha_config.specs.ValueFacts.{AreFairPairs}
use Rattle.ha_config.specs.Fair.{IsReportable, is_refusal}
use Rattle.ha_config.specs.CommandText.{line_code}
use Rattle.flow_line.specs.Command.{IsLineMap}
use Rattle.flow_printed.specs.Map.{alone, automation, cmd_of_map, code_in, event_of, flag_at, gone_of, is_automation, map_at, moment_of_map, printed_moment, refused_of, reload_of, report_of, reportable, short_state, switch_of, text_at, trigger_of, turned}
use Rattle.flow_printed.specs.Printed.{IsFairButForName}
use Rattle.flow_printed.proofs.Fronts.{binds, flag_taken, map_taken, same_text, text_taken}
use Rattle.flow_printed.proofs.Maps.{flag_fine, map_fine, no_pair, pair_more, text_fine}
use Rattle.flow_printed.proofs.Shown.{moment_ascii, pairs_of, turned_word}

-- ---- the parts

id_read : (e : EntityId) → IsReportable e → reportable (read_entity (entity_text e)) ≡ Some e
id_read e own =
    ap reportable (id_is_read e own.0) ∙ ap (λ (b : Bool). cond b None (Some e)) (false_from_ne_true (is_automation e) (λ h. own.1 ((bytes_eq-Decides e.domain (codes "automation")).0 h)))

name_read : (name : Text) → is_name name ≡ true → automation (read_entity (codes "automation." ++ name)) ≡ Some name
name_read name form = ap automation (id_is_read (record { domain = codes "automation"; object = name }) form)

state_read : (text : Text) → characters text ≤ 255 → short_state text ≡ Some text
state_read text few = let fits : nat_le (characters text) 255 ≡ true = grind (arith, nat_tests) in ap (λ (b : Bool). cond b (Some text) None) fits

turned_read : (on : Bool) → turned (turned_word on) ≡ Some on
turned_read true = refl
turned_read false = refl

moment_shown : (at : ℕ) → at ≤ last_moment → printed_moment (moment_text at) ≡ Some at
moment_shown at time =
    binds (moment_of (moment_text at)) (λ (m : ℕ). cond (same (moment_text m) (moment_text at)) (Some m) None) at (Some at) (moment_read at time)
    (ap (λ (b : Bool). cond b (Some at) None) (same_text (moment_text at)))

low_read : (code : ℕ) → 1 ≤ code → code ≤ 14 → (code ≢ 11) → code_in (line_code code) ≡ Some code
unfolding digits
low_read zero low high other = absurd (omega arith)
low_read (suc zero) low high other = refl
low_read (suc (suc zero)) low high other = refl
low_read (suc (suc (suc zero))) low high other = refl
low_read (suc (suc (suc (suc zero)))) low high other = refl
low_read (suc (suc (suc (suc (suc zero))))) low high other = refl
low_read (suc (suc (suc (suc (suc (suc zero)))))) low high other = refl
low_read (suc (suc (suc (suc (suc (suc (suc zero))))))) low high other = refl
low_read (suc (suc (suc (suc (suc (suc (suc (suc zero)))))))) low high other = refl
low_read (suc (suc (suc (suc (suc (suc (suc (suc (suc zero))))))))) low high other = refl
low_read (suc (suc (suc (suc (suc (suc (suc (suc (suc (suc zero)))))))))) low high other = refl
low_read (suc (suc (suc (suc (suc (suc (suc (suc (suc (suc (suc zero))))))))))) low high other = absurd (other refl)
low_read (suc (suc (suc (suc (suc (suc (suc (suc (suc (suc (suc (suc zero)))))))))))) low high other = refl
low_read (suc (suc (suc (suc (suc (suc (suc (suc (suc (suc (suc (suc (suc zero))))))))))))) low high other = refl
low_read (suc (suc (suc (suc (suc (suc (suc (suc (suc (suc (suc (suc (suc (suc zero)))))))))))))) low high other = refl
low_read (suc (suc (suc (suc (suc (suc (suc (suc (suc (suc (suc (suc (suc (suc (suc n))))))))))))))) low high other = absurd (omega arith)

-- the codes of refused lines
code_bounds : (code : ℕ) → is_refusal code ≡ true → (1 ≤ code) × (code ≤ 14) × (code ≢ 11)
code_bounds code told = by (nat_le 1 code && nat_le code 10) (λ h. low h) told
  where
    low : (nat_le 1 code && nat_le code 10) ≡ true → (1 ≤ code) × (code ≤ 10)
    low h = let parts = and_parts (nat_le 1 code) (nat_le code 10) h in (leb-true 1 code parts.0, leb-true code 10 parts.1)

    by : (b : Bool) → (b ≡ true → (1 ≤ code) × (code ≤ 10)) → (b || (nat_le 12 code && nat_le code 14)) ≡ true → (1 ≤ code) × (code ≤ 14) × (code ≢ 11)
    by true below h = let own = below refl in (own.0, omega (arith, own.1), λ e. absurd (omega (arith, own.1, e)))
    by false below h =
        let parts = and_parts (nat_le 12 code) (nat_le code 14) h in
        let first = leb-true 12 code parts.0 in
        (omega (arith, first), leb-true code 14 parts.1, λ e. absurd (omega (arith, first, e)))

code_read : (code : ℕ) → is_refusal code ≡ true → code_in (line_code code) ≡ Some code
code_read code told = let own = code_bounds code told in low_read code own.0 own.1 own.2

-- ---- its pairs are read

report_read : (e : EntityId) (text : Text) (a : Pairs) → IsReportable e → characters text ≤ 255 → report_of (pairs_of (Cmd.Report e text a)) ≡ Some (Cmd.Report e text a)
unfolding report_of
report_read e text a own few =
    let ps = pairs_of (Cmd.Report e text a) in
    binds (text_at (codes "report") ps) _ (entity_text e) _ (text_taken (codes "report") (entity_text e) (drop 1 ps))
    (binds (text_at (codes "state") (drop 1 ps)) _ text _ (text_taken (codes "state") text (drop 1 (drop 1 ps)))
    (binds (map_at (codes "attributes") (drop 1 (drop 1 ps))) _ a _ (map_taken (codes "attributes") a [])
    (binds (reportable (read_entity (entity_text e))) _ e _ (id_read e own)
    (binds (short_state text) _ text _ (state_read text few) refl))))

gone_read : (e : EntityId) → IsReportable e → gone_of (pairs_of (Cmd.Gone e)) ≡ Some (Cmd.Gone e)
unfolding gone_of
gone_read e own =
    binds (text_at (codes "gone") (pairs_of (Cmd.Gone e))) _ (entity_text e) _ (text_taken (codes "gone") (entity_text e) [])
    (binds (reportable (read_entity (entity_text e))) _ e _ (id_read e own) refl)

event_read : (kind : Text) (a : Pairs) → event_of (pairs_of (Cmd.Event kind a)) ≡ Some (Cmd.Event kind a)
unfolding event_of
event_read kind a =
    let ps = pairs_of (Cmd.Event kind a) in
    binds (text_at (codes "event") ps) _ kind _ (text_taken (codes "event") kind (drop 1 ps))
    (binds (map_at (codes "data") (drop 1 ps)) _ a _ (map_taken (codes "data") a []) refl)

moment_read_back : (at : ℕ) → at ≤ last_moment → moment_of_map (pairs_of (Cmd.Moment at)) ≡ Some (Cmd.Moment at)
unfolding moment_of_map
moment_read_back at time =
    binds (text_at (codes "moment") (pairs_of (Cmd.Moment at))) _ (moment_text at) _ (text_taken (codes "moment") (moment_text at) [])
    (binds (printed_moment (moment_text at)) _ at _ (moment_shown at time) refl)

switch_read : (name : Text) (on stop : Bool) → is_name name ≡ true → switch_of (pairs_of (Cmd.Switch name on stop)) ≡ Some (Cmd.Switch name on stop)
unfolding switch_of
switch_read name on stop form =
    let ps = pairs_of (Cmd.Switch name on stop) in
    binds (text_at (codes "switch") ps) _ (codes "automation." ++ name) _ (text_taken (codes "switch") (codes "automation." ++ name) (drop 1 ps))
    (binds (text_at (codes "to") (drop 1 ps)) _ (turned_word on) _ (text_taken (codes "to") (turned_word on) (drop 1 (drop 1 ps)))
    (binds (flag_at (codes "stop_actions") (drop 1 (drop 1 ps))) _ stop _ (flag_taken (codes "stop_actions") stop [])
    (binds (turned (turned_word on)) _ on _ (turned_read on)
    (binds (automation (read_entity (codes "automation." ++ name))) _ name _ (name_read name form) refl))))

trigger_read : (name : Text) (skip : Bool) → is_name name ≡ true → trigger_of (pairs_of (Cmd.Trigger name skip)) ≡ Some (Cmd.Trigger name skip)
unfolding trigger_of
trigger_read name skip form =
    let ps = pairs_of (Cmd.Trigger name skip) in
    binds (text_at (codes "trigger") ps) _ (codes "automation." ++ name) _ (text_taken (codes "trigger") (codes "automation." ++ name) (drop 1 ps))
    (binds (flag_at (codes "skip_condition") (drop 1 ps)) _ skip _ (flag_taken (codes "skip_condition") skip [])
    (binds (automation (read_entity (codes "automation." ++ name))) _ name _ (name_read name form) refl))

reload_read : (text : Text) → reload_of (pairs_of (Cmd.Reload text None)) ≡ Some (Cmd.Reload text None)
unfolding reload_of
reload_read text = binds (text_at (codes "reload") (pairs_of (Cmd.Reload text None))) _ text _ (text_taken (codes "reload") text []) refl

refused_read : (code : ℕ) → is_refusal code ≡ true → refused_of (pairs_of (Cmd.Refused code)) ≡ Some (Cmd.Refused code)
unfolding refused_of
refused_read code told =
    binds (text_at (codes "refused") (pairs_of (Cmd.Refused code))) _ (line_code code) _ (text_taken (codes "refused") (line_code code) [])
    (binds (code_in (line_code code)) _ code _ (code_read code told) refl)

alone_read : (key : Text) → alone key ((key, Value.Flag true) ∷ []) ≡ Some tt
unfolding alone
alone_read key = binds (flag_at key ((key, Value.Flag true) ∷ [])) _ true _ (flag_taken key true []) refl

pub read_of_map : (c : Cmd) → IsFairButForName c → cmd_of_map (pairs_of c) ≡ Some c
unfolding cmd_of_map
read_of_map (Cmd.Report e text a) fair = report_read e text a fair.0 fair.2
read_of_map (Cmd.Gone e) fair = gone_read e fair
read_of_map (Cmd.Event kind a) fair = event_read kind a
read_of_map (Cmd.Moment at) fair = moment_read_back at fair
read_of_map (Cmd.Switch name on stop) fair = switch_read name on stop fair
read_of_map (Cmd.Trigger name skip) fair = trigger_read name skip fair
read_of_map Cmd.Restart fair = binds (alone (codes "restart") (pairs_of Cmd.Restart)) _ tt _ (alone_read (codes "restart")) refl
read_of_map (Cmd.Reload text None) fair = reload_read text
read_of_map (Cmd.Reload text (Some config)) fair = absurd (let e = fair.1 in cc)
read_of_map (Cmd.Refused code) fair = refused_read code fair
read_of_map Cmd.Lost fair = binds (alone (codes "lost") (pairs_of Cmd.Lost)) _ tt _ (alone_read (codes "lost")) refl
read_of_map Cmd.TooLong fair = binds (alone (codes "too_long") (pairs_of Cmd.TooLong)) _ tt _ (alone_read (codes "too_long")) refl

-- ---- its pairs are a line's map

of_ascii : (t : Text) → IsAscii t → is_utf8 t ≡ true
of_ascii t a = is_utf8-from_IsUtf8 t (IsUtf8-from_ascii t a)

joined_utf8 : (s t : Text) → is_utf8 s ≡ true → IsUtf8 t → is_utf8 (s ++ t) ≡ true
joined_utf8 s t u w = is_utf8-from_IsUtf8 (s ++ t) (IsUtf8-append s t (IsUtf8-from_is_utf8 s u) w)

abbrev IsWord : Text → Type 0
IsWord t = is_utf8 t ≡ true

report_word : IsWord (codes "report")
unfolding is_utf8 chars encode
report_word = refl

state_word : IsWord (codes "state")
unfolding is_utf8 chars encode
state_word = refl

attributes_word : IsWord (codes "attributes")
unfolding is_utf8 chars encode
attributes_word = refl

gone_word : IsWord (codes "gone")
unfolding is_utf8 chars encode
gone_word = refl

event_word : IsWord (codes "event")
unfolding is_utf8 chars encode
event_word = refl

data_word : IsWord (codes "data")
unfolding is_utf8 chars encode
data_word = refl

moment_word : IsWord (codes "moment")
unfolding is_utf8 chars encode
moment_word = refl

switch_word : IsWord (codes "switch")
unfolding is_utf8 chars encode
switch_word = refl

to_word : IsWord (codes "to")
unfolding is_utf8 chars encode
to_word = refl

turned_utf8 : (on : Bool) → IsWord (turned_word on)
unfolding is_utf8 chars encode
turned_utf8 true = refl
turned_utf8 false = refl

stop_word : IsWord (codes "stop_actions")
unfolding is_utf8 chars encode
stop_word = refl

trigger_word : IsWord (codes "trigger")
unfolding is_utf8 chars encode
trigger_word = refl

skip_word : IsWord (codes "skip_condition")
unfolding is_utf8 chars encode
skip_word = refl

restart_word : IsWord (codes "restart")
unfolding is_utf8 chars encode
restart_word = refl

reload_word : IsWord (codes "reload")
unfolding is_utf8 chars encode
reload_word = refl

refused_word : IsWord (codes "refused")
unfolding is_utf8 chars encode
refused_word = refl

lost_word : IsWord (codes "lost")
unfolding is_utf8 chars encode
lost_word = refl

too_long_word : IsWord (codes "too_long")
unfolding is_utf8 chars encode
too_long_word = refl

front_word : IsWord (codes "automation.")
unfolding is_utf8 chars encode
front_word = refl

letter_word : IsWord (codes "L")
unfolding is_utf8 chars encode
letter_word = refl

dot_word : IsWord (codes ".")
unfolding is_utf8 chars encode
dot_word = refl

id_utf8 : (e : EntityId) → is_entity e ≡ true → IsWord (entity_text e)
id_utf8 e form =
    let parts = and_parts (is_name e.domain) (is_name e.object) form in
    is_utf8-from_IsUtf8 (entity_text e) (IsUtf8-append e.domain (46 ∷ e.object) (name_utf8 e.domain parts.0) (IsUtf8-append (46 ∷ []) e.object (IsUtf8-from_is_utf8 (codes ".") dot_word) (name_utf8 e.object parts.1)))

name_word : (name : Text) → is_name name ≡ true → IsWord (codes "automation." ++ name)
name_word name form = joined_utf8 (codes "automation.") name front_word (name_utf8 name form)

few_codes : (code : ℕ) → is_refusal code ≡ true → code ≤ 14
few_codes code told = (code_bounds code told).1

code_word : (code : ℕ) → code ≤ 14 → IsWord (line_code code)
code_word code high = joined_utf8 (codes "L") (decimal code) letter_word (IsUtf8-from_ascii (decimal code) (IsAscii-decimal code (omega arith)))

one_flag : (key : Text) (b : Bool) → IsWord key → IsLineMap ((key, Value.Flag b) ∷ [])
one_flag key b u = pair_more key (Value.Flag b) [] refl u (flag_fine b) no_pair

one_text : (key t : Text) → IsWord key → IsWord t → IsLineMap ((key, Value.Text t) ∷ [])
one_text key t u w = pair_more key (Value.Text t) [] refl u (text_fine t w) no_pair

one_map : (key : Text) (a : Pairs) → IsWord key → AreFairPairs a → IsLineMap ((key, Value.Pairs a) ∷ [])
one_map key a u fair = pair_more key (Value.Pairs a) [] refl u (map_fine a fair) no_pair

pub line_of_fair : (c : Cmd) → IsFairButForName c → IsLineMap (pairs_of c)
line_of_fair (Cmd.Report e text a) fair =
    pair_more (codes "report") (Value.Text (entity_text e)) _ refl report_word (text_fine (entity_text e) (id_utf8 e fair.0.0))
    (pair_more (codes "state") (Value.Text text) _ refl state_word (text_fine text fair.1) (one_map (codes "attributes") a attributes_word fair.3))
line_of_fair (Cmd.Gone e) fair = one_text (codes "gone") (entity_text e) gone_word (id_utf8 e fair.0)
line_of_fair (Cmd.Event kind a) fair = pair_more (codes "event") (Value.Text kind) _ refl event_word (text_fine kind fair.0) (one_map (codes "data") a data_word fair.1)
line_of_fair (Cmd.Moment at) fair = one_text (codes "moment") (moment_text at) moment_word (of_ascii (moment_text at) (moment_ascii at))
line_of_fair (Cmd.Switch name on stop) fair =
    pair_more (codes "switch") (Value.Text (codes "automation." ++ name)) _ refl switch_word (text_fine (codes "automation." ++ name) (name_word name fair))
    (pair_more (codes "to") (Value.Text (turned_word on)) _ refl to_word (text_fine (turned_word on) (turned_utf8 on)) (one_flag (codes "stop_actions") stop stop_word))
line_of_fair (Cmd.Trigger name skip) fair =
    pair_more (codes "trigger") (Value.Text (codes "automation." ++ name)) _ refl trigger_word (text_fine (codes "automation." ++ name) (name_word name fair))
    (one_flag (codes "skip_condition") skip skip_word)
line_of_fair Cmd.Restart fair = one_flag (codes "restart") true restart_word
line_of_fair (Cmd.Reload text config) fair = one_text (codes "reload") text reload_word fair.0
line_of_fair (Cmd.Refused code) fair = one_text (codes "refused") (line_code code) refused_word (code_word code (few_codes code fair))
line_of_fair Cmd.Lost fair = one_flag (codes "lost") true lost_word
line_of_fair Cmd.TooLong fair = one_flag (codes "too_long") true too_long_word
