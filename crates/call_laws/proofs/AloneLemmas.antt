-- Where no script was in force, no entry names one.
use Rattle.std.proofs.Common.{◌≡◌, ◌⊎◌, ℕ, zero, suc, ◌<◌, ◌≤◌, Bool, true, false, List, [], ◌∷◌, ◌++◌, inl, inr, length, take, refl, sym, subst, ◌∙◌, arith, append_assoc}
use Rattle.std.specs.Prelude.{Option, Some, None, ◌||◌, nat_eq, nat_le, map, option_and_then}
use Rattle.std.specs.List.{list_any}
use Rattle.std.specs.Option.{option_map_or}
use Rattle.std.proofs.Math.Seq.{take-length}
use Rattle.std.proofs.lemmas.Bool.Decides.{leb_tells}
use Rattle.std.proofs.lemmas.List.{take-append-le, take_all}
use Rattle.ha_value.specs.declared.value.EntityId.{EntityId}
use Rattle.ha_config.specs.declared.command.Cmd.{Cmd}
use Rattle.ha_config.specs.declared.config.Automation.{Automation}
use Rattle.ha_config.specs.declared.config.Script.{Script}
use Rattle.ha_config.specs.Numbered.{has_number}
use Rattle.ha_config.specs.Words.{EachAfter, Pairs, Text, last_of}
use Rattle.ha_config.proofs.ListLemmas.{none-some, some-same}
use Rattle.ha_sight.specs.declared.item.Item.{Item}
use Rattle.ha_sight.specs.declared.steps.Inner.{Inner}
use Rattle.ha_sight.specs.Inner.{inner_of, inner_of_helpers, own_item}
use Rattle.ha_sight.specs.Scripts.{Outcome, Spot, is_open}
use Rattle.ha_journal.specs.declared.entry.Entry.{Entry}
use Rattle.ha_journal.specs.declared.entry.Entry.TheVariants.{Boot, Line, Step, Again}
use Rattle.ha_journal.specs.Entries.{Asked, asked_in, halted_in, turning}
use Rattle.ha_journal.specs.Force.{force, has_unit}
use Rattle.ha_journal.specs.Journal.{Journal, helpers, in_force, scripts, scripts_in, units}
use Rattle.ha_journal.specs.Helpers.{known, last_change}
use Rattle.ha_journal.proofs.ForceLaws.{scripts-are}
use Rattle.ha_config.specs.declared.helper.Helper.{Helper}
use Rattle.ha_sight.proofs.HelperCalls.{scripts-alone}
use Rattle.ha_journal.specs.Moves.{sight}
use Rattle.ha_model.specs.declared.record.Record.{Record}
use Rattle.ha_model.specs.Lawful.{IsRightEntry, Right}
use Rattle.ha_model.specs.Records.{Records, actions_of, ran, spots, stops, stops_turned}
use Rattle.script_laws.specs.Stands.{EachStands, NamesNoScript}
use Rattle.script_laws.proofs.ByScript.{script-stands, script-used}
use Rattle.call_laws.specs.Called.{HasNoScripts, NamesNone}
use Rattle.call_laws.proofs.PlaceLemmas.{ArePlaced, spots-placed, take-front}

or-false : (b : Bool) → (b || false) ≡ b
or-false true = refl
or-false false = refl

abbrev IsMade : {Z : Type 0} → List Z → Type 0
IsMade [] = ⊥
IsMade (z ∷ zs) = Unit {0}

map-none : {X Y : Type 0} (f : X → Y) (xs : List X) → map f xs ≡ [] → xs ≡ []
map-none f [] h = refl
map-none f (x ∷ xs) h = absurd (subst IsMade h tt)

none-in-force : (j : Journal) → scripts j ≡ [] → (force j).scripts ≡ []
none-in-force j none = map-none {X = ℕ × Script} {Y = Script} (λ p. p.1) (force j).scripts (scripts-are j ∙ none)

-- LAW: what is in force are automations
pub units-alone : (j : Journal) (a : ℕ) → scripts j ≡ [] → has_unit (force j) a ≡ has_number (in_force j) a
units-alone j a none = (λ i. has_number (in_force j) a || has_number (none-in-force j none i) a) ∙ or-false (has_number (in_force j) a)

pub scripts-seen : (j : Journal) → scripts j ≡ [] → scripts_in j ≡ []
scripts-seen j none = (λ i. map (λ (p : ℕ × Script). (p.1.name, p.0)) (none-in-force j none i))

helpers-before : (n : ℕ) (j : Journal) → helpers j ≡ [] → helpers (take n j) ≡ []
helpers-before zero j none = refl
helpers-before (suc n) [] none = refl
helpers-before (suc n) (e ∷ es) none = none

helpers-seen : (j : Journal) (n : ℕ) → helpers j ≡ [] → known (take n j) ≡ []
helpers-seen j n none = (λ i. map (λ (h : Helper). record { helper = h; last = last_change (take n j) h.entity }) (helpers-before n j none i))

-- LAW: a call is the core's own only where it is one of helpers
pub calls-helped : (j : Journal) (n : ℕ) (service : Text) (targets : List EntityId) (fields : Pairs) → scripts (take n j) ≡ [] → inner_of (sight j n) service targets fields ≡ inner_of_helpers (sight j n) service targets fields
calls-helped j n service targets fields none =
    (λ i. option_map_or Inner.Does (own_item (scripts-seen (take n j) none i) service targets fields) (inner_of_helpers (sight j n) service targets fields))

-- LAW: none is, where there are no helpers either
pub calls-alone : (j : Journal) (n : ℕ) (service : Text) (targets : List EntityId) (fields : Pairs) → scripts (take n j) ≡ [] → helpers j ≡ [] → inner_of (sight j n) service targets fields ≡ Inner.Outer
calls-alone j n service targets fields none unhelped =
    scripts-alone (sight j n) service targets fields (helpers-seen j n unhelped)
    ∙ (λ i. option_map_or Inner.Does (own_item (scripts-seen (take n j) none i) service targets fields) Inner.Outer)

-- ---- what the places of a run see

-- so it is in front of a place
pub none-front : (d xs : Journal) → HasNoScripts (d ++ xs) → HasNoScripts d
none-front d xs none n = by (leb_tells n (length d))
  where
    by : ((nat_le n (length d) ≡ true) × (n ≤ length d)) ⊎ ((nat_le n (length d) ≡ false) × (length d < n)) → scripts (take n d) ≡ []
    by (inl (t, le)) = (λ i. scripts (sym (take-append-le n d xs le) i)) ∙ none n
    by (inr (f, lt)) = (let all = take_all n d (omega (arith, lt)) in λ i. scripts (all i)) ∙ (λ i. scripts (sym (take-front d xs) i)) ∙ none (length d)

pub scripts-here : (d : Journal) → scripts d ≡ [] → scripts_in (take (length d) d) ≡ []
scripts-here d none = scripts-seen (take (length d) d) ((λ i. scripts (take-length d i)) ∙ none)

abbrev SeeNone : List Spot → Type 0
SeeNone [] = Unit {0}
SeeNone (s ∷ ps) = (s.sight.scripts ≡ []) × SeeNone ps

see-none : (j : Journal) → HasNoScripts j → (ps : List Spot) → ArePlaced j ps → SeeNone ps
see-none j none [] placed = tt
see-none j none (s ∷ ps) placed =
    ((λ i. (placed.0 i).sight.scripts) ∙ scripts-here (take s.place j) (none s.place), see-none j none ps placed.1)

-- so the last item names none
last-names : (unended : Bool) (ps : List Spot) (items : List Item) (item : Item) → length items ≡ length ps → SeeNone ps → EachStands unended ps items → last_of items ≡ Some item → NamesNoScript item
last-names unended ps [] item len see h e = absurd (none-some item e)
last-names unended [] (x ∷ items) item len see h e = absurd (omega (arith, len))
last-names unended (p ∷ ps) (x ∷ []) item len see h e = subst NamesNoScript (some-same x item e) (h.0.names see.0)
last-names unended (p ∷ ps) (x ∷ y ∷ items) item len see h e = last-names unended ps (y ∷ items) item (omega (arith, len)) see.1 h.1 e

step-names : (k : Journal) (r : Record) (item : Item) → HasNoScripts k → (o : Option Outcome) → ran k r ≡ o → option_and_then (λ x. last_of x.items) o ≡ Some item → NamesNoScript item
step-names k r item none None f e = absurd (none-some item e)
step-names k r item none (Some o) f e =
    let ps : List Spot = spots k r.serial in
    last-names (is_open o.status) ps o.items item (script-used (actions_of (units k) r.automation) r.env ps o f) (see-none k none ps (spots-placed k r.serial))
    (script-stands (actions_of (units k) r.automation) r.env ps o f) e

-- ---- along a journal

each-names : (rs : Records) (j : Journal) → HasNoScripts j → (before xs : Journal) → before ++ xs ≡ j → EachAfter (IsRightEntry rs) before xs → EachAfter (λ d x. NamesNone x) before xs
each-names rs j none before [] e h = tt
each-names rs j none before (x ∷ xs) e h =
    let along : (before ++ (x ∷ [])) ++ xs ≡ j = append_assoc before (x ∷ []) xs ∙ e in
    (by x h.0 (none-front (before ++ (x ∷ [])) xs (subst HasNoScripts (sym along) none)), each-names rs j none (before ++ (x ∷ [])) xs along h.1)
  where
    by : (x : Entry) → IsRightEntry rs before x → HasNoScripts (before ++ (x ∷ [])) → NamesNone x
    by (Boot text config stored start zone carry) right none = tt
    by (Again number start stored carry) right none = tt
    by (Line source number cmd) right none = tt
    by (Step worker serial branch item) right none =
        let k : Journal = before ++ (Step worker serial branch item ∷ []) in
        step-names k right.0 item none (ran k right.0) refl right.3.item_is

-- LAW: no entry of a right journal names a script
pub entries-alone : (j : Journal) (rs : Records) → Right j rs → HasNoScripts j → EachAfter (λ before x. NamesNone x) [] j
entries-alone j rs right none = each-names rs j none [] j refl right.entries

-- ---- an entry that names none

-- LAW: it asks for none
pub asks-none : (x : Entry) (chosen : List ℕ) (fields : Pairs) → NamesNone x → asked_in x ≡ Asked.OfScripts chosen fields → ⊥
asks-none (Boot text config stored start zone carry) chosen fields h e = cc
asks-none (Again number start stored carry) chosen fields h e = cc
asks-none (Step worker serial branch (Item.Started scripts given waits)) chosen fields h e = absurd h
asks-none (Step worker serial branch (Item.Halted scripts)) chosen fields h e = absurd h
asks-none (Step worker serial branch (Item.Helped changes)) chosen fields h e = cc
asks-none (Step worker serial branch Item.Nothing) chosen fields h e = cc
asks-none (Step worker serial branch (Item.Call service target given)) chosen fields h e = cc
asks-none (Step worker serial branch (Item.Fired kind pairs)) chosen fields h e = cc
asks-none (Step worker serial branch (Item.Switched targets)) chosen fields h e = cc
asks-none (Step worker serial branch (Item.Triggered named skip)) chosen fields h e = cc
asks-none (Step worker serial branch (Item.Failed code)) chosen fields h e = cc
asks-none (Line source number (Cmd.Report entity text attributes)) chosen fields h e = cc
asks-none (Line source number (Cmd.Gone entity)) chosen fields h e = cc
asks-none (Line source number (Cmd.Event kind pairs)) chosen fields h e = cc
asks-none (Line source number (Cmd.Moment at)) chosen fields h e = cc
asks-none (Line source number (Cmd.Switch name on stop)) chosen fields h e = cc
asks-none (Line source number (Cmd.Trigger name skip)) chosen fields h e = cc
asks-none (Line source number Cmd.Restart) chosen fields h e = cc
asks-none (Line source number (Cmd.Reload text config)) chosen fields h e = cc
asks-none (Line source number (Cmd.Refused code)) chosen fields h e = cc
asks-none (Line source number Cmd.Lost) chosen fields h e = cc
asks-none (Line source number Cmd.TooLong) chosen fields h e = cc

halts-none : (x : Entry) → NamesNone x → halted_in x ≡ []
halts-none (Boot text config stored start zone carry) h = refl
halts-none (Again number start stored carry) h = refl
halts-none (Line source number cmd) h = refl
halts-none (Step worker serial branch (Item.Started scripts fields waits)) h = absurd h
halts-none (Step worker serial branch (Item.Halted scripts)) h = absurd h
halts-none (Step worker serial branch (Item.Helped changes)) h = refl
halts-none (Step worker serial branch Item.Nothing) h = refl
halts-none (Step worker serial branch (Item.Call service target fields)) h = refl
halts-none (Step worker serial branch (Item.Fired kind pairs)) h = refl
halts-none (Step worker serial branch (Item.Switched targets)) h = refl
halts-none (Step worker serial branch (Item.Triggered named skip)) h = refl
halts-none (Step worker serial branch (Item.Failed code)) h = refl

-- LAW: and ends runs by switches alone
pub stops-none : (x : Entry) (all : List Automation) (a : ℕ) → NamesNone x → stops all a x ≡ stops_turned all a (turning x)
stops-none x all a h = (λ i. stops_turned all a (turning x) || list_any (nat_eq a) (halts-none x h i)) ∙ or-false (stops_turned all a (turning x))
