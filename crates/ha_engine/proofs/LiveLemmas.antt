-- The live runs of an automation, and their replacement.
use Rattle.std.proofs.Common.{◌≡◌, ℕ, zero, suc, ◌+◌, ◌-◌, ◌<◌, ◌≤◌, List, [], ◌∷◌, ◌++◌, length, take, Bool, true, false, refl, sym, ap, subst, ◌∙◌, rules, arith}
use Rattle.std.proofs.Math.Path.{fun_ext}
use Rattle.std.specs.Prelude.{Option, Some, None, is_none, nat_eq, slice_get, option_map, ◌&&◌, ◌||◌, if◌then◌else◌}
use Rattle.std.specs.List.{list_any}
use Rattle.ha_model.specs.declared.record.EndCause.{EndCause}
use Rattle.ha_model.specs.declared.record.Record.{Record}
use Rattle.ha_journal.specs.Journal.{Journal}
use Rattle.ha_model.specs.Records.{Records}
use Rattle.ha_config.specs.Words.{or_else}
use Rattle.ha_model.specs.RunSteps.{ends_for, replace_all}
use Rattle.run_modes.specs.Fits.{AreNumbered}
use Rattle.run_modes.specs.Table.{is_live, live_of}
use Rattle.engine_parts.specs.declared.parts.Parts.{Parts}
use Rattle.ha_engine.specs.Admits.{are_in}
use Rattle.engine_parts.specs.Kept.{Gone, Going, nobody}
use Rattle.ha_ready.specs.RunPast.{AllPast, EndBefore}
use Rattle.engine_parts.specs.Records.{AreEnded, EndsIf, also}

-- ---- one after the other goes

any-snoc : (xs : List ℕ) (s q : ℕ) → (list_any (nat_eq q) xs || nat_eq q s) ≡ list_any (nat_eq q) (xs ++ (s ∷ []))
any-snoc [] s q = by (nat_eq q s)
  where
    by : (b : Bool) → b ≡ (b || false)
    by true = refl
    by false = refl
any-snoc (x ∷ xs) s q = by (nat_eq q x) (any-snoc xs s q)
  where
    by : (b : Bool) → (list_any (nat_eq q) xs || nat_eq q s) ≡ list_any (nat_eq q) (xs ++ (s ∷ [])) → ((b || list_any (nat_eq q) xs) || nat_eq q s) ≡ (b || list_any (nat_eq q) (xs ++ (s ∷ [])))
    by true e = refl
    by false e = e

-- LAW: the same runs went
pub going-as : (gone gone' : Gone) (k : Journal) (rs : Records) (p : Parts) → ((q : ℕ) → gone q ≡ gone' q) → Going gone k rs p → Going gone' k rs p
going-as gone gone' k rs p same h = subst (λ (g : Gone). Going g k rs p) (fun_ext same) h

take-suc : (xs : List ℕ) (i s : ℕ) → slice_get xs i ≡ Some s → take (suc i) xs ≡ take i xs ++ (s ∷ [])
take-suc [] i s e = absurd (let bad : ◌≡◌ {A = Option ℕ} None (Some s) = e in cc)
take-suc (x ∷ xs) zero s e = (let same : x ≡ s = cc in λ i. same i ∷ [])
take-suc (x ∷ xs) (suc i) s e = ap (λ l. x ∷ l) (take-suc xs i s e)

take-next : (xs : List ℕ) (i s : ℕ) → slice_get xs i ≡ Some s → take (i + 1) xs ≡ take i xs ++ (s ∷ [])
take-next xs i s e = (let n : i + 1 ≡ suc i = omega arith in ap (λ m. take m xs) n ∙ take-suc xs i s e)

pub going-next : (k : Journal) (rs : Records) (p : Parts) (xs : List ℕ) (i s : ℕ) → slice_get xs i ≡ Some s → Going (also (are_in (take i xs)) s) k rs p → Going (are_in (take (i + 1) xs)) k rs p
going-next k rs p xs i s e h =
    going-as (also (are_in (take i xs)) s) (are_in (take (i + 1) xs)) k rs p (λ q. any-snoc (take i xs) s q ∙ ap (list_any (nat_eq q)) (sym (take-next xs i s e))) h

none-behind : (xs : List ℕ) (i : ℕ) → slice_get xs i ≡ None → take i xs ≡ xs
none-behind [] zero e = refl
none-behind [] (suc i) e = refl
none-behind (x ∷ xs) zero e = absurd (let bad : ◌≡◌ {A = Option ℕ} (Some x) None = e in cc)
none-behind (x ∷ xs) (suc i) e = ap (λ l. x ∷ l) (none-behind xs i e)

all-taken : (xs : List ℕ) (i : ℕ) → length xs ≤ i → take i xs ≡ xs
all-taken [] zero le = refl
all-taken [] (suc i) le = refl
all-taken (x ∷ xs) zero le = absurd (omega (arith, le))
all-taken (x ∷ xs) (suc i) le = ap (λ l. x ∷ l) (all-taken xs i (omega (arith, le)))

pub going-whole : (k : Journal) (rs : Records) (p : Parts) (xs : List ℕ) (i : ℕ) → slice_get xs i ≡ None → Going (are_in (take i xs)) k rs p → Going (are_in xs) k rs p
going-whole k rs p xs i e h = subst (λ (l : List ℕ). Going (are_in l) k rs p) (none-behind xs i e) h

pub going-all : (k : Journal) (rs : Records) (p : Parts) (xs : List ℕ) (i : ℕ) → length xs ≤ i → Going (are_in (take i xs)) k rs p → Going (are_in xs) k rs p
going-all k rs p xs i le h = subst (λ (l : List ℕ). Going (are_in l) k rs p) (all-taken xs i le) h

-- ---- the serials of the live runs

pub live-fewer : (a : ℕ) (rs : Records) → length (live_of a rs) ≤ length rs
live-fewer a [] = omega arith
live-fewer a (r ∷ rs) = by (is_live a r) (live-fewer a rs)
  where
    by : (b : Bool) → length (live_of a rs) ≤ length rs → length (if b then r.serial ∷ live_of a rs else live_of a rs) ≤ suc (length rs)
    by true h = omega (arith, h)
    by false h = omega (arith, h)

pub live-range : (a n i s : ℕ) (rs : Records) → AreNumbered n rs → slice_get (live_of a rs) i ≡ Some s → (n < s) × (s ≤ n + length rs)
live-range a n i s [] num e = absurd (let bad : ◌≡◌ {A = Option ℕ} None (Some s) = e in cc)
live-range a n i s (r ∷ rs) num e = by (is_live a r) i e (λ m later. live-range a (suc n) m s rs num.1 later)
  where
    by : (b : Bool) (i : ℕ) → slice_get (if b then r.serial ∷ live_of a rs else live_of a rs) i ≡ Some s → ((m : ℕ) → slice_get (live_of a rs) m ≡ Some s → (suc n < s) × (s ≤ suc n + length rs)) → (n < s) × (s ≤ n + suc (length rs))
    by true zero is rec = (let same : r.serial ≡ s = cc in (omega (arith, same, num.0), omega (arith, same, num.0)))
    by true (suc m) is rec = (let later = rec m is in (omega (arith, later.0), omega (arith, later.1)))
    by false m is rec = (let later = rec m is in (omega (arith, later.0), omega (arith, later.1)))

low-not-live : (a n q : ℕ) (rs : Records) → AreNumbered n rs → q ≤ n → are_in (live_of a rs) q ≡ false
low-not-live a n q [] num le = refl
low-not-live a n q (r ∷ rs) num le = by (is_live a r) (low-not-live a (suc n) q rs num.1 (omega (arith, le)))
  where
    apart : (x y : ℕ) → x < y → nat_eq x y ≡ false
    apart x y lt = search (rules, lt)

    by : (b : Bool) → are_in (live_of a rs) q ≡ false → list_any (nat_eq q) (if b then r.serial ∷ live_of a rs else live_of a rs) ≡ false
    by true h = (λ i. apart q r.serial (omega (arith, le, num.0)) i || h i)
    by false h = h

-- those that went are the live ones
abbrev pub AreLive : Gone → ℕ → Records → Type 0
AreLive gone a [] = Unit {0}
AreLive gone a (r ∷ rs) = (gone r.serial ≡ is_live a r) × AreLive gone a rs

live-more : (s a n : ℕ) (L : List ℕ) (rs : Records) → AreNumbered n rs → s ≤ n → AreLive (are_in L) a rs → AreLive (are_in (s ∷ L)) a rs
live-more s a n L [] num le h = tt
live-more s a n L (r ∷ rs) num le h =
    ((λ i. apart r.serial s (omega (arith, num.0, le)) i || are_in L r.serial) ∙ h.0, live-more s a (suc n) L rs num.1 (omega (arith, le)) h.1)
  where
    apart : (x y : ℕ) → y < x → nat_eq x y ≡ false
    apart x y lt = search (rules, lt)

pub all-live : (a n : ℕ) (rs : Records) → AreNumbered n rs → AreLive (are_in (live_of a rs)) a rs
all-live a n [] num = tt
all-live a n (r ∷ rs) num = by (is_live a r) refl (all-live a (suc n) rs num.1)
  where
    self : (q : ℕ) → nat_eq q q ≡ true
    self q = search rules

    by : (b : Bool) → is_live a r ≡ b → AreLive (are_in (live_of a rs)) a rs
        → (list_any (nat_eq r.serial) (if b then r.serial ∷ live_of a rs else live_of a rs) ≡ is_live a r) × AreLive (are_in (if b then r.serial ∷ live_of a rs else live_of a rs)) a rs
    by true e h = ((λ i. self r.serial i || are_in (live_of a rs) r.serial) ∙ sym e, live-more r.serial a (suc n) (live_of a rs) rs num.1 (omega (arith, num.0)) h)
    by false e h = (low-not-live a (suc n) r.serial rs num.1 (omega (arith, num.0)) ∙ sym e, h)

-- ---- their replacement

replaced-one : (a p : ℕ) (r : Record) (b : Bool) → b ≡ is_live a r → EndsIf b p r (ends_for p (if nat_eq r.automation a then Some EndCause.Replaced else None) r)
replaced-one a p r b is = by (nat_eq r.automation a) r.end b is
  where
    by : (c : Bool) (e : Option (ℕ × EndCause)) (b : Bool) → b ≡ (c && is_none e)
        → EndsIf b p (record r { end = e }) (record r { end = or_else e (option_map {T = EndCause} (λ x. (p, x)) (if c then Some EndCause.Replaced else None)) })
    by true None true is = (record { serial = refl; automation = refl; env = refl }, refl, refl)
    by true None false is = absurd (let bad : ◌≡◌ {A = Bool} false true = is in cc)
    by true (Some e) true is = absurd (let bad : ◌≡◌ {A = Bool} true false = is in cc)
    by true (Some e) false is = (record { script = record { serial = refl; automation = refl; env = refl }; begin = refl; end = refl }, refl)
    by false None true is = absurd (let bad : ◌≡◌ {A = Bool} true false = is in cc)
    by false None false is = (record { script = record { serial = refl; automation = refl; env = refl }; begin = refl; end = refl }, refl)
    by false (Some e) true is = absurd (let bad : ◌≡◌ {A = Bool} true false = is in cc)
    by false (Some e) false is = (record { script = record { serial = refl; automation = refl; env = refl }; begin = refl; end = refl }, refl)

replaced-each : (gone : Gone) (a p : ℕ) (rs : Records) → AreLive gone a rs → AreEnded gone p rs (replace_all a p rs)
replaced-each gone a p [] h = tt
replaced-each gone a p (r ∷ rs) h = (replaced-one a p r (gone r.serial) h.0, replaced-each gone a p rs h.1)

-- LAW: the live runs of an automation end, and the others are the same
pub replaced-ended : (a p n : ℕ) (rs : Records) → AreNumbered n rs → AreEnded (are_in (live_of a rs)) p rs (replace_all a p rs)
replaced-ended a p n rs num = replaced-each (are_in (live_of a rs)) a p rs (all-live a n rs num)

pub same-ended : (p : ℕ) (rs : Records) → AreEnded nobody p rs rs
same-ended p [] = tt
same-ended p (r ∷ rs) = ((record { script = record { serial = refl; automation = refl; env = refl }; begin = refl; end = refl }, refl), same-ended p rs)

pub replaced-numbered : (a p n : ℕ) (rs : Records) → AreNumbered n rs → AreNumbered n (replace_all a p rs)
replaced-numbered a p n [] num = tt
replaced-numbered a p n (r ∷ rs) num = (num.0, replaced-numbered a p (suc n) rs num.1)

pub replaced-length : (a p : ℕ) (rs : Records) → length (replace_all a p rs) ≡ length rs
replaced-length a p [] = refl
replaced-length a p (r ∷ rs) = ap suc (replaced-length a p rs)

pub replaced-past : (a p n : ℕ) (rs : Records) → p < n → AllPast n rs → AllPast n (replace_all a p rs)
replaced-past a p n [] lt h = tt
replaced-past a p n (r ∷ rs) lt h = (record { place = h.0.place; begin = h.0.begin; end = by (nat_eq r.automation a) r.end h.0.end }, replaced-past a p n rs lt h.1)
  where
    by : (c : Bool) (e : Option (ℕ × EndCause)) → EndBefore n e → EndBefore n (or_else e (option_map {T = EndCause} (λ x. (p, x)) (if c then Some EndCause.Replaced else None)))
    by c (Some e) past = past
    by true None past = lt
    by false None past = tt
