-- No line of a trace has an LF inside.
use Rattle.std.proofs.Common.{◌≡◌, ◌∙◌, sym, subst, refl, ℕ, zero, suc, ◌+◌, ◌/◌, ◌%◌, ◌<◌, List, [], ◌∷◌, ◌++◌, map, Bool, true, false, rules, arith}
use Rattle.std.proofs.lemmas.List.Folds.{list_all-append}
use Rattle.std.specs.Char.{digit_char}
use Rattle.std.specs.Fmt.{digit_glyph, digits, digits_onto, signed_decimal}
use Rattle.std.specs.List.{list_all}
use Rattle.std.specs.Prelude.{◌&&◌, ◌==◌, not, nat_eq, nat_lt, ℤ, pos, negsuc, unsigned_abs, None, Some, Option, codes, decimal, flat_map, if◌then◌else◌}
use Rattle.ha_value.specs.declared.value.Num.{Num}
use Rattle.ha_value.specs.declared.value.Value.{Value}
use Rattle.ha_value.specs.declared.value.Value.TheOpen.{Value-F}
use Rattle.ha_value.specs.declared.value.Value.TheViews.{roll-Value}
use Rattle.ha_value.specs.declared.value.Value.TheFolds.{ind-Value, map-Value}
use Rattle.ha_value.specs.Ids.{entity_text}
use Rattle.ha_value.specs.Lists.{before_end}
use Rattle.ha_value.specs.Numbers.{digit, is_digit_zero, places_text, print_number, sign_text}
use Rattle.ha_clock.specs.Print.{moment_text}
use Rattle.ha_config.specs.declared.command.Cmd.{Cmd}
use Rattle.ha_journal.specs.declared.entry.Entry.{Entry}
use Rattle.ha_journal.specs.declared.entry.Entry.TheVariants.{Boot, Line, Step, Again}
use Rattle.ha_sight.specs.declared.item.Item.{Item}
use Rattle.ha_config.specs.Words.{Pairs, Text}
use Rattle.ha_config.specs.Names.{name_in}
use Rattle.ha_config.specs.ValueText.{comma_joined, escaped_byte, flag_text, list_text, map_text, pair_text, print_pairs, print_step, print_value, quoted}
use Rattle.ha_sight.specs.declared.helped.HelperChange.{HelperChange}
use Rattle.ha_sight.specs.ItemText.{call_pairs, change_text, event_or_null, failure_code, item_text, span_or_null, switched_text, script_name, script_text}
use Rattle.ha_config.specs.CommandText.{cmd_text, id_text, line_code, one_key}
use Rattle.ha_config.specs.CheckText.{as_line}
use Rattle.ha_journal.specs.EntryText.{boot_pairs, end_line, trace_line}
use Rattle.ha_config.specs.StoreText.{stored_text}
use Rattle.ha_config.proofs.EqualLemmas.{and_left, and_right}
use Rattle.ha_config.proofs.ValueRolls.{print_value-roll}
use Rattle.trace_laws.specs.Lines.{is_one_line}

abbrev no_feed : ℕ → Bool
no_feed c = not (nat_eq c 10)

abbrev IsLine : Text → Type 0
IsLine t = is_one_line t ≡ true

joined : (a b : Text) → IsLine a → IsLine b → IsLine (a ++ b)
joined a b h g = list_all-append no_feed a b ∙ (λ i. h i && g i)

with_last : (a : Text) (c : ℕ) → no_feed c ≡ true → IsLine a → IsLine (a ++ (c ∷ []))
with_last a c e h = joined a (c ∷ []) h (λ i. e i && true)

-- ---- bytes over 10

over : (c : ℕ) → 10 < c → no_feed c ≡ true
over c lt = (λ i. not (other c lt i))
  where
    other : (c : ℕ) → 10 < c → nat_eq c 10 ≡ false
    other c lt = search (rules, lt)

hex : (d : ℕ) → no_feed (digit_char d) ≡ true
hex d = by (nat_lt d 10)
  where
    by : (b : Bool) → no_feed (if b then 48 + d else 87 + d) ≡ true
    by true = over (48 + d) (omega arith)
    by false = over (87 + d) (omega arith)

glyph : (d : ℕ) → no_feed (digit_glyph false d) ≡ true
glyph d = by (nat_lt d 10)
  where
    by : (b : Bool) → no_feed (if b then 48 + d else 87 + d) ≡ true
    by true = over (48 + d) (omega arith)
    by false = over (87 + d) (omega arith)

-- ---- numbers

either : (b : Bool) (s t : List ℕ) → IsLine s → IsLine t → IsLine (if b then s else t)
either true s t h g = h
either false s t h g = g

onto : (k n : ℕ) (after : List ℕ) → IsLine after → IsLine (digits_onto k 10 false n after)
onto zero n after h = h
onto (suc k) n after h =
    let more : List ℕ = digit_glyph false (n % 10) ∷ after in
    let longer : IsLine more = (λ i. glyph (n % 10) i && h i) in
    either (n / 10 == 0) more (digits_onto k 10 false (n / 10) more) longer (onto k (n / 10) more longer)

decimal_line : (n : ℕ) → IsLine (decimal n)
unfolding digits
decimal_line n = onto 64 n [] refl

signed_line : (z : ℤ) → IsLine (signed_decimal z)
signed_line (pos n) = decimal_line n
signed_line (negsuc n) = decimal_line (suc n)

sign_line : (z : ℤ) → IsLine (sign_text z)
sign_line (pos n) = refl
sign_line (negsuc n) = refl

before_line : (test : ℕ → Bool) (xs : List ℕ) → IsLine xs → IsLine (before_end test xs)
before_line test [] h = refl
before_line test (x ∷ xs) h =
    let rest = before_line test xs (and_right (no_feed x) (is_one_line xs) h) in
    either (list_all test (x ∷ xs)) [] (x ∷ before_end test xs) refl (λ i. and_left (no_feed x) (is_one_line xs) h i && rest i)

digit_line : (n : ℕ) → no_feed (digit n) ≡ true
digit_line n = over (48 + n % 10) (omega arith)

places_line : (n : ℕ) → IsLine (places_text n)
places_line n =
    let five : IsLine (digit (n / 10_000) ∷ digit (n / 1_000) ∷ digit (n / 100) ∷ digit (n / 10) ∷ digit n ∷ [])
    = (λ i. digit_line (n / 10_000) i && (digit_line (n / 1_000) i && (digit_line (n / 100) i && (digit_line (n / 10) i && (digit_line n i && true))))) in
    (λ i. digit_line (n / 100_000) i && before_line is_digit_zero (digit (n / 10_000) ∷ digit (n / 1_000) ∷ digit (n / 100) ∷ digit (n / 10) ∷ digit n ∷ []) five i)

number_line : (n : Num) → IsLine (print_number n)
unfolding print_number
number_line (Num.Whole z) = signed_line z
number_line (Num.Fixed z) =
    joined (sign_text z ++ decimal (unsigned_abs z / 1_000_000)) (46 ∷ places_text (unsigned_abs z % 1_000_000))
    (joined (sign_text z) (decimal (unsigned_abs z / 1_000_000)) (sign_line z) (decimal_line (unsigned_abs z / 1_000_000))) (places_line (unsigned_abs z % 1_000_000))

-- ---- texts in quotes

abbrev escaped_by : Bool → Bool → Bool → Bool → Bool → Bool → ℕ → Text
escaped_by quote slash feed return tab low c =
    if quote then codes "\\\""
    else if slash then codes "\\\\"
    else if feed then codes "\\n"
    else if return then codes "\\r"
    else if tab then codes "\\t"
    else if low then codes "\\u00" ++ (digit_char (c / 16) ∷ digit_char (c % 16) ∷ [])
    else c ∷ []

escaped : (c : ℕ) → IsLine (escaped_byte c)
escaped c = by (nat_eq c 34) (nat_eq c 92) (nat_eq c 10) (nat_eq c 13) (nat_eq c 9) (nat_lt c 32) (λ e i. not (e i))
  where
    by : (quote slash feed return tab low : Bool) → (feed ≡ false → no_feed c ≡ true) → IsLine (escaped_by quote slash feed return tab low c)
    by true slash feed return tab low f = refl
    by false true feed return tab low f = refl
    by false false true return tab low f = refl
    by false false false true tab low f = refl
    by false false false false true low f = refl
    by false false false false false true f = (λ i. hex (c / 16) i && (hex (c % 16) i && true))
    by false false false false false false f = (λ i. f refl i && true)

escaped_line : (t : Text) → IsLine (flat_map escaped_byte t)
escaped_line [] = refl
escaped_line (c ∷ cs) = joined (escaped_byte c) (flat_map escaped_byte cs) (escaped c) (escaped_line cs)

quoted_line : (t : Text) → IsLine (quoted t)
quoted_line t = with_last (flat_map escaped_byte t) 34 refl (escaped_line t)

flag_line : (b : Bool) → IsLine (flag_text b)
flag_line true = refl
flag_line false = refl

-- ---- lists and maps

abbrev AllLines : List Text → Type 0
AllLines [] = Unit {0}
AllLines (t ∷ ts) = IsLine t × AllLines ts

abbrev AllShown : List (Text × Text) → Type 0
AllShown [] = Unit {0}
AllShown (p ∷ ps) = IsLine p.1 × AllShown ps

commas : (ts : List Text) → AllLines ts → IsLine (comma_joined ts)
commas [] h = refl
commas (t ∷ []) h = h.0
commas (t ∷ u ∷ ts) h = joined t (44 ∷ comma_joined (u ∷ ts)) h.0 (commas (u ∷ ts) h.1)

list_line : (ts : List Text) → AllLines ts → IsLine (list_text ts)
list_line ts h = with_last (comma_joined ts) 93 refl (commas ts h)

pairs_lines : (ps : List (Text × Text)) → AllShown ps → AllLines (map {A = Text × Text} {B = Text} (λ p. pair_text p.0 p.1) ps)
pairs_lines [] h = tt
pairs_lines (p ∷ ps) h = (joined (quoted p.0) (58 ∷ p.1) (quoted_line p.0) h.0, pairs_lines ps h.1)

map_line : (ps : List (Text × Text)) → AllShown ps → IsLine (map_text ps)
map_line ps h = with_last (comma_joined (map {A = Text × Text} {B = Text} (λ p. pair_text p.0 p.1) ps)) 125 refl (commas _ (pairs_lines ps h))

all_lines : {X : Type 0} (f : X → Text) (xs : List X) → ((x : X) → IsLine (f x)) → AllLines (map f xs)
all_lines f [] h = tt
all_lines f (x ∷ xs) h = (h x, all_lines f xs h)

-- ---- values

abbrev Printed : Type 0
Printed = (v : Value) × IsLine (print_value v)

abbrev named : Text × Printed → Text × Value
named p = (p.0, p.1.0)

items_lines : (ys : List Printed) → AllLines (map print_value (map (λ (e : Printed). e.0) ys))
items_lines [] = tt
items_lines (y ∷ ys) = (y.1, items_lines ys)

values_shown : (ys : List (Text × Printed)) → AllShown (map {A = Text × Value} {B = Text × Text} (λ p. (p.0, print_value p.1)) (map named ys))
values_shown [] = tt
values_shown (y ∷ ys) = (y.1.1, values_shown ys)

layer : (y : Value-F Printed) → IsLine (print_step (map-Value Value Text print_value (map-Value Printed Value (λ e. e.0) y)))
layer Value-F.Null = refl
layer (Value-F.Flag b) = flag_line b
layer (Value-F.Number n) = number_line n
layer (Value-F.Text t) = quoted_line t
layer (Value-F.Items ys) = list_line (map print_value (map (λ (e : Printed). e.0) ys)) (items_lines ys)
layer (Value-F.Pairs ys) = map_line (map {A = Text × Value} {B = Text × Text} (λ p. (p.0, print_value p.1)) (map named ys)) (values_shown ys)

value_line : (v : Value) → IsLine (print_value v)
value_line = ind-Value (λ v. IsLine (print_value v)) (λ x y is. subst (λ z. IsLine (print_value (roll-Value z))) is
    (subst IsLine (sym (print_value-roll (map-Value Printed Value (λ e. e.0) y))) (layer y)))

pairs_shown : (ps : Pairs) → AllShown (map {A = Text × Value} {B = Text × Text} (λ p. (p.0, print_value p.1)) ps)
pairs_shown [] = tt
pairs_shown (p ∷ ps) = (value_line p.1, pairs_shown ps)

pairs_line : (ps : Pairs) → IsLine (print_pairs ps)
pairs_line ps = map_line (map {A = Text × Value} {B = Text × Text} (λ p. (p.0, print_value p.1)) ps) (pairs_shown ps)

-- ---- commands and items

cmd_line : (c : Cmd) → IsLine (cmd_text c)
cmd_line (Cmd.Report entity text attributes) = map_line ((codes "report", id_text entity) ∷ (codes "state", quoted text) ∷ (codes "attributes", print_pairs attributes) ∷ [])
    (quoted_line (entity_text entity), (quoted_line text, (pairs_line attributes, tt)))
cmd_line (Cmd.Gone entity) = map_line ((codes "gone", id_text entity) ∷ []) (quoted_line (entity_text entity), tt)
cmd_line (Cmd.Event kind pairs) = map_line ((codes "event", quoted kind) ∷ (codes "data", print_pairs pairs) ∷ []) (quoted_line kind, (pairs_line pairs, tt))
cmd_line (Cmd.Moment at) = map_line ((codes "moment", quoted (moment_text at)) ∷ []) (quoted_line (moment_text at), tt)
cmd_line (Cmd.Switch name on stop) = by on
  where
    by : (on : Bool) → IsLine (cmd_text (Cmd.Switch name on stop))
    by true = map_line ((codes "switch", quoted (codes "automation." ++ name)) ∷ (codes "to", quoted (codes "on")) ∷ (codes "stop_actions", flag_text stop) ∷ [])
        (quoted_line (codes "automation." ++ name), (quoted_line (codes "on"), (flag_line stop, tt)))
    by false = map_line ((codes "switch", quoted (codes "automation." ++ name)) ∷ (codes "to", quoted (codes "off")) ∷ (codes "stop_actions", flag_text stop) ∷ [])
        (quoted_line (codes "automation." ++ name), (quoted_line (codes "off"), (flag_line stop, tt)))
cmd_line (Cmd.Trigger name skip) = map_line ((codes "trigger", quoted (codes "automation." ++ name)) ∷ (codes "skip_condition", flag_text skip) ∷ [])
    (quoted_line (codes "automation." ++ name), (flag_line skip, tt))
cmd_line Cmd.Restart = refl
cmd_line (Cmd.Reload text config) = map_line ((codes "reload", quoted text) ∷ []) (quoted_line text, tt)
cmd_line (Cmd.Refused code) = map_line ((codes "refused", quoted (line_code code)) ∷ []) (quoted_line (line_code code), tt)
cmd_line Cmd.Lost = refl
cmd_line Cmd.TooLong = refl

switched_line : (all : List Text) (s : ℕ × Bool × Bool) → IsLine (switched_text all s)
switched_line all s = map_line ((codes "automation", quoted (name_in all s.0)) ∷ (codes "on", flag_text s.1) ∷ (codes "stop", flag_text s.2) ∷ [])
    (quoted_line (name_in all s.0), (flag_line s.1, (flag_line s.2, tt)))

one_line_key : (key shown : Text) → IsLine shown → IsLine (one_key key shown)
one_line_key key shown h = map_line ((key, shown) ∷ []) (h, tt)

scripts_line : (all : List Text) (scripts : List ℕ) → IsLine (list_text (map (script_text all) scripts))
scripts_line all scripts = list_line (map (script_text all) scripts) (all_lines (script_text all) scripts (λ a. quoted_line (script_name (name_in all a))))

change_line : (c : HelperChange) → IsLine (change_text c)
change_line c =
    map_line ((codes "entity", id_text c.entity) ∷ (codes "text", quoted c.text) ∷ (codes "span", span_or_null c.span) ∷ (codes "event", event_or_null c.event) ∷ [])
    (quoted_line (entity_text c.entity), (quoted_line c.text, (span_line c.span, (event_line c.event, tt))))
  where
    span_line : (o : Option ℕ) → IsLine (span_or_null o)
    span_line None = refl
    span_line (Some n) = decimal_line n

    event_line : (o : Option Text) → IsLine (event_or_null o)
    event_line None = refl
    event_line (Some t) = quoted_line t

item_line : (all : List Text) (item : Item) → IsLine (item_text all item)
item_line all Item.Nothing = refl
item_line all (Item.Call service target fields) = one_line_key (codes "call") (map_text (call_pairs service target fields))
    (map_line (call_pairs service target fields) (quoted_line service, (list_line (map id_text target) (all_lines id_text target (λ e. quoted_line (entity_text e))), (pairs_line fields, tt))))
item_line all (Item.Fired kind pairs) = one_line_key (codes "fired") (map_text ((codes "event", quoted kind) ∷ (codes "data", print_pairs pairs) ∷ []))
    (map_line ((codes "event", quoted kind) ∷ (codes "data", print_pairs pairs) ∷ []) (quoted_line kind, (pairs_line pairs, tt)))
item_line all (Item.Switched targets) = one_line_key (codes "switched") (list_text (map (switched_text all) targets))
    (list_line (map (switched_text all) targets) (all_lines (switched_text all) targets (switched_line all)))
item_line all (Item.Triggered automations skip) =
    let names : List Text = map (λ a. quoted (name_in all a)) automations in
    let shown : List (Text × Text) = (codes "automations", list_text names) ∷ (codes "skip_condition", flag_text skip) ∷ [] in
    one_line_key (codes "triggered") (map_text shown)
    (map_line shown (list_line names (all_lines (λ a. quoted (name_in all a)) automations (λ a. quoted_line (name_in all a))), (flag_line skip, tt)))
item_line all (Item.Started scripts fields waits) =
    let shown : List (Text × Text) = (codes "scripts", list_text (map (script_text all) scripts)) ∷ (codes "data", print_pairs fields) ∷ (codes "waits", flag_text waits) ∷ [] in
    one_line_key (codes "started") (map_text shown) (map_line shown (scripts_line all scripts, (pairs_line fields, (flag_line waits, tt))))
item_line all (Item.Halted scripts) = one_line_key (codes "halted") (list_text (map (script_text all) scripts)) (scripts_line all scripts)
item_line all (Item.Helped changes) = one_line_key (codes "helped") (list_text (map change_text changes)) (list_line (map change_text changes) (all_lines change_text changes change_line))
item_line all (Item.Failed code) = one_line_key (codes "failed") (quoted (failure_code code)) (quoted_line (failure_code code))

-- ---- lines

-- a line with its end, and no other LF
pub record HasOneFeed (shown : Text) : Type 0 where
  pub line : Text
  pub shown_is : as_line line ≡ shown
  pub one_line : is_one_line line ≡ true

switches_shown : (ps : List (Text × Bool)) → AllShown (map {A = Text × Bool} {B = Text × Text} (λ p. (p.0, flag_text p.1)) ps)
switches_shown [] = tt
switches_shown (p ∷ ps) = (flag_line p.1, switches_shown ps)

stored_line : (stored : Option (List (Text × Bool))) → IsLine (stored_text stored)
stored_line None = refl
stored_line (Some ps) = map_line (map {A = Text × Bool} {B = Text × Text} (λ p. (p.0, flag_text p.1)) ps) (switches_shown ps)

moments_shown : (ps : List (Text × ℕ)) → AllShown (map {A = Text × ℕ} {B = Text × Text} (λ p. (p.0, quoted (moment_text p.1))) ps)
moments_shown [] = tt
moments_shown (p ∷ ps) = (quoted_line (moment_text p.1), moments_shown ps)

boot_line : (text : Text) (stored : Option (List (Text × Bool))) (last : List (Text × ℕ)) (start : ℕ) (zone : Text) → AllShown (boot_pairs text stored last start zone)
boot_line text stored [] start zone = (quoted_line text, (stored_line stored, (quoted_line (moment_text start), (quoted_line zone, tt))))
boot_line text stored (p ∷ ps) start zone = (
  quoted_line text,
  (
    stored_line stored,
    (
      map_line (map {A = Text × ℕ} {B = Text × Text} (λ q. (q.0, quoted (moment_text q.1))) (p ∷ ps)) (moments_shown (p ∷ ps)),
      (quoted_line (moment_text start), (quoted_line zone, tt)),
    ),
  ),
)

-- LAW: the line of an entry has one LF, its end
pub entry_feed : (all : List Text) (x : Entry) → HasOneFeed (trace_line all x)
entry_feed all (Boot text config stored start zone carry) =
    let inner : List (Text × Text) = boot_pairs text stored carry.last start zone in
    record {
      line = one_key (codes "boot") (map_text inner);
      shown_is = refl;
      one_line = one_line_key (codes "boot") (map_text inner) (map_line inner (boot_line text stored carry.last start zone));
    }
entry_feed all (Line source number cmd) =
    let shown : List (Text × Text) = (codes "source", decimal source) ∷ (codes "number", decimal number) ∷ (codes "cmd", cmd_text cmd) ∷ [] in
    record { line = map_text shown; shown_is = refl; one_line = map_line shown (decimal_line source, (decimal_line number, (cmd_line cmd, tt))) }
entry_feed all (Step worker serial branch item) =
    let shown : List (Text × Text) = (codes "worker", decimal worker) ∷ (codes "run", decimal serial) ∷ (codes "branch", list_text (map decimal branch)) ∷ (codes "item", item_text all item) ∷ [] in
    record {
      line = map_text shown;
      shown_is = refl;
      one_line = map_line shown (decimal_line worker, (decimal_line serial, (list_line (map decimal branch) (all_lines decimal branch decimal_line), (item_line all item, tt))));
    }
entry_feed all (Again number start stored carry) =
    record { line = one_key (codes "again") (decimal number); shown_is = refl; one_line = one_line_key (codes "again") (decimal number) (decimal_line number) }

-- LAW: so has the end line
pub end_feed : (n : ℕ) → HasOneFeed (end_line n)
end_feed n = record { line = one_key (codes "end") (decimal n); shown_is = refl; one_line = one_line_key (codes "end") (decimal n) (decimal_line n) }
