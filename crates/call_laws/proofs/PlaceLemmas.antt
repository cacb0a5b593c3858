-- Each place of a run is the next place of the entries before it; so a caller goes on where they tell that the called run has ended.
use Rattle.std.proofs.Common.{◌≡◌, ℕ, Bool, true, false, List, [], ◌∷◌, ◌++◌, length, take, refl, sym, ap, subst, ◌∙◌, append_assoc}
use Rattle.std.specs.Prelude.{Option, Some, None, nat_eq, option_map, if◌then◌else◌, bytes_eq}
use Rattle.std.specs.Option.{option_map_or}
use Rattle.ha_config.proofs.ListLemmas.{none-some}
use Rattle.ha_sight.specs.declared.item.Item.{Item}
use Rattle.ha_sight.specs.declared.waiting.WaitEnd.{WaitEnd}
use Rattle.ha_sight.specs.Scripts.{Branch, Outcome, Spot, call_ask, is_open}
use Rattle.ha_journal.specs.declared.entry.Entry.{Entry}
use Rattle.ha_journal.specs.Entries.{Stepped, step_of}
use Rattle.ha_journal.specs.Journal.{Journal, units}
use Rattle.ha_model.specs.declared.record.Record.{Record}
use Rattle.ha_model.specs.Records.{actions_of, call_end, next_spot, ran, records_of, spot_of, spot_with, spots, spots_from}
use Rattle.script_laws.specs.Stands.{EachStands, GoesOn, next_in}
use Rattle.script_laws.proofs.ByScript.{script-stands}
use Rattle.call_laws.specs.Called.{CallersWait, GoesOnBehind}

-- a place of a journal with what the entries before it tell
abbrev pub IsPlaced : Journal → Spot → Type 0
IsPlaced j s = s ≡ next_spot (take s.place j) s.branch

abbrev pub ArePlaced : Journal → List Spot → Type 0
ArePlaced j [] = Unit {0}
ArePlaced j (s ∷ ps) = IsPlaced j s × ArePlaced j ps

placed-append : (j : Journal) (ps qs : List Spot) → ArePlaced j ps → ArePlaced j qs → ArePlaced j (ps ++ qs)
placed-append j [] qs h g = g
placed-append j (p ∷ ps) qs h g = (h.0, placed-append j ps qs h.1 g)

pub take-front : (before xs : Journal) → take (length before) (before ++ xs) ≡ before
take-front [] xs = refl
take-front (y ∷ ys) xs = ap (λ t. y ∷ t) (take-front ys xs)

place-of : (serial : ℕ) (before xs : Journal) (x : Entry) → ArePlaced (before ++ xs) (spot_of serial before x)
place-of serial before xs x = by (step_of x)
  where
    here : (branch : Branch) (c : Bool) → ArePlaced (before ++ xs) (if c then spot_with (call_end (records_of before)) before branch ∷ [] else [])
    here branch true = ((λ i. next_spot (sym (take-front before xs) i) branch), tt)
    here branch false = tt

    by : (o : Option Stepped) → ArePlaced (before ++ xs) (option_map_or (λ s. if nat_eq s.serial serial then spot_with (call_end (records_of before)) before s.branch ∷ [] else []) o [])
    by None = tt
    by (Some s) = here s.branch (nat_eq s.serial serial)

places-from : (serial : ℕ) (before xs : Journal) → ArePlaced (before ++ xs) (spots_from serial before xs)
places-from serial before [] = tt
places-from serial before (x ∷ xs) =
    placed-append (before ++ (x ∷ xs)) (spot_of serial before x) (spots_from serial (before ++ (x ∷ [])) xs) (place-of serial before (x ∷ xs) x)
    (subst (λ j. ArePlaced j (spots_from serial (before ++ (x ∷ [])) xs)) (append_assoc before (x ∷ []) xs) (places-from serial (before ++ (x ∷ [])) xs))

pub spots-placed : (j : Journal) (serial : ℕ) → ArePlaced j (spots j serial)
spots-placed j serial = places-from serial [] j

-- ---- where a caller goes on

abbrev MayBePlaced : Journal → Option Spot → Type 0
MayBePlaced j None = Unit {0}
MayBePlaced j (Some s) = IsPlaced j s

next-placed : (j : Journal) (b : Branch) (ps : List Spot) → ArePlaced j ps → MayBePlaced j (next_in b ps)
next-placed j b [] h = tt
next-placed j b (s ∷ ps) h = by (bytes_eq s.branch b) (next-placed j b ps h.1)
  where
    by : (c : Bool) → MayBePlaced j (next_in b ps) → MayBePlaced j (if c then Some s else next_in b ps)
    by true later = h.0
    by false later = later

ended-of : (f : ℕ → WaitEnd) (o : Option ℕ) (e : WaitEnd) → option_map f o ≡ Some e → (q : ℕ) × (o ≡ Some q)
ended-of f None e h = absurd (none-some e h)
ended-of f (Some q) e h = (q, refl)

goes-behind : (j : Journal) (unended : Bool) (p : ℕ) (o : Option Spot) → MayBePlaced j o → GoesOn unended p o → GoesOnBehind j unended p o
goes-behind j unended p None placed h = h
goes-behind j unended p (Some s) placed h =
    let told = call_end (records_of (take s.place j)) p in
    ended-of (λ q. record { place = q; done = true; remaining = None; trigger = None }) told h.1 (sym (λ i. (placed i).wait_end (call_ask h.0) p) ∙ h.2)

callers-wait : (j : Journal) (unended : Bool) (ps : List Spot) (items : List Item) → ArePlaced j ps → EachStands unended ps items → CallersWait j unended ps items
callers-wait j unended [] items placed h = tt
callers-wait j unended (p ∷ ps) [] placed h = tt
callers-wait j unended (p ∷ ps) (x ∷ items) placed h =
    ((λ w. goes-behind j unended p.place (next_in p.branch ps) (next-placed j p.branch ps placed.1) (h.0.waits w)), callers-wait j unended ps items placed.1 h.1)

-- LAW: a caller goes on where the called run has ended
pub run-waits : (j : Journal) (r : Record) (o : Outcome) → ran j r ≡ Some o → CallersWait j (is_open o.status) (spots j r.serial) o.items
run-waits j r o e =
    callers-wait j (is_open o.status) (spots j r.serial) o.items (spots-placed j r.serial)
    (script-stands (actions_of (units j) r.automation) r.env (spots j r.serial) o e)
