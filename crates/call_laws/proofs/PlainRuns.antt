-- Where no script was in force, a run gives what it gives on places that know of no called runs.
use Rattle.std.proofs.Common.{◌≡◌, ℕ, Bool, true, false, List, [], ◌∷◌, ◌++◌, length, take, map, refl, sym, ap, subst, ◌∙◌, append_assoc}
use Rattle.std.specs.Prelude.{Option, Some, None, nat_eq, option_map, if◌then◌else◌}
use Rattle.std.specs.Option.{option_map_or}
use Rattle.ha_sight.specs.declared.waiting.WaitEnd.{WaitEnd}
use Rattle.ha_sight.specs.Scripts.{Branch, Spot, whole}
use Rattle.ha_journal.specs.declared.entry.Entry.{Entry}
use Rattle.ha_journal.specs.Entries.{Stepped, step_of}
use Rattle.ha_journal.specs.Journal.{Journal, scripts, units}
use Rattle.ha_model.specs.declared.record.Record.{Record}
use Rattle.ha_model.specs.Records.{actions_of, call_end, ran, records_of, spot_of, spot_with, spots_from}
use Rattle.script_laws.specs.Plain.{SeeNone, told_of}
use Rattle.script_laws.proofs.ByPlain.{script-plain}
use Rattle.call_laws.specs.Plain.{plain_ran, plain_spot, plain_spot_of, plain_spots, plain_spots_from}
use Rattle.call_laws.specs.Called.{HasNoScripts}
use Rattle.call_laws.proofs.AloneLemmas.{scripts-here}
use Rattle.call_laws.proofs.PlaceLemmas.{take-front}

-- what the entries before place n tell of the run that was called at place p
abbrev told_in : Journal → ℕ → ℕ → Option WaitEnd
told_in j n p = option_map (λ q. record { place = q; done = true; remaining = None; trigger = None }) (call_end (records_of (take n j)) p)

abbrev heard : Journal → List Spot → List Spot
heard j ps = map (told_of (told_in j)) ps

heard-append : (j : Journal) (ps qs : List Spot) → heard j (ps ++ qs) ≡ heard j ps ++ heard j qs
heard-append j [] qs = refl
heard-append j (p ∷ ps) qs = ap (λ t. told_of (told_in j) p ∷ t) (heard-append j ps qs)

spot-heard : (serial : ℕ) (before xs : Journal) (x : Entry) → spot_of serial before x ≡ heard (before ++ xs) (plain_spot_of serial before x)
spot-heard serial before xs x = by (step_of x)
  where
    here : (branch : Branch) (c : Bool)
        → (if c then spot_with (call_end (records_of before)) before branch ∷ [] else []) ≡ heard (before ++ xs) (if c then plain_spot before branch ∷ [] else [])
    here branch true = (λ i. spot_with (call_end (records_of (sym (take-front before xs) i))) before branch ∷ [])
    here branch false = refl

    by : (o : Option Stepped)
        → option_map_or (λ s. if nat_eq s.serial serial then spot_with (call_end (records_of before)) before s.branch ∷ [] else []) o []
        ≡ heard (before ++ xs) (option_map_or (λ s. if nat_eq s.serial serial then plain_spot before s.branch ∷ [] else []) o [])
    by None = refl
    by (Some s) = here s.branch (nat_eq s.serial serial)

spots-heard : (serial : ℕ) (before xs : Journal) → spots_from serial before xs ≡ heard (before ++ xs) (plain_spots_from serial before xs)
spots-heard serial before [] = refl
spots-heard serial before (x ∷ xs) =
    let j : Journal = before ++ (x ∷ xs) in
    let later : spots_from serial (before ++ (x ∷ [])) xs ≡ heard j (plain_spots_from serial (before ++ (x ∷ [])) xs)
    = spots-heard serial (before ++ (x ∷ [])) xs ∙ (λ i. heard (append_assoc before (x ∷ []) xs i) (plain_spots_from serial (before ++ (x ∷ [])) xs)) in
    (λ i. spot-heard serial before (x ∷ xs) x i ++ later i)
    ∙ sym (heard-append j (plain_spot_of serial before x) (plain_spots_from serial (before ++ (x ∷ [])) xs))

-- ---- they see no script

see-append : (ps qs : List Spot) → SeeNone ps → SeeNone qs → SeeNone (ps ++ qs)
see-append [] qs h g = g
see-append (p ∷ ps) qs h g = (h.0, see-append ps qs h.1 g)

spot-sees : (serial : ℕ) (before : Journal) (x : Entry) → scripts before ≡ [] → SeeNone (plain_spot_of serial before x)
spot-sees serial before x none = by (step_of x)
  where
    here : (branch : Branch) (c : Bool) → SeeNone (if c then plain_spot before branch ∷ [] else [])
    here branch true = (scripts-here before none, tt)
    here branch false = tt

    by : (o : Option Stepped) → SeeNone (option_map_or (λ s. if nat_eq s.serial serial then plain_spot before s.branch ∷ [] else []) o [])
    by None = tt
    by (Some s) = here s.branch (nat_eq s.serial serial)

spots-see : (serial : ℕ) (before xs : Journal) → HasNoScripts (before ++ xs) → SeeNone (plain_spots_from serial before xs)
spots-see serial before [] none = tt
spots-see serial before (x ∷ xs) none =
    let front : scripts before ≡ [] = (λ i. scripts (sym (take-front before (x ∷ xs)) i)) ∙ none (length before) in
    see-append (plain_spot_of serial before x) (plain_spots_from serial (before ++ (x ∷ [])) xs) (spot-sees serial before x front)
    (spots-see serial (before ++ (x ∷ [])) xs (subst HasNoScripts (sym (append_assoc before (x ∷ []) xs)) none))

-- LAW: what a run gives
pub runs-plain : (j : Journal) (r : Record) → HasNoScripts j → ran j r ≡ plain_ran j r
runs-plain j r none =
    (λ i. whole (actions_of (units j) r.automation) r.env (spots-heard r.serial [] j i))
    ∙ script-plain (told_in j) (actions_of (units j) r.automation) r.env (plain_spots j r.serial) (spots-see r.serial [] j none)
