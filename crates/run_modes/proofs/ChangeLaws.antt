-- What each call does to the record with a serial.
use Rattle.std.proofs.Common.{◌≡◌, ℕ, zero, suc, ◌+◌, ◌-◌, ◌<◌, ◌≤◌, [], ◌∷◌, ◌++◌, length, map, Bool, true, false, Option, refl, sym, ap, subst, ◌∙◌, rules, arith}
use Rattle.std.specs.Prelude.{Some, None, nat_eq, is_none, slice_get, option_map, if◌then◌else◌}
use Rattle.std.specs.Option.{option_map_or}
use Rattle.std.proofs.lemmas.Option.{slice_get-map}
use Rattle.ha_config.specs.declared.config.Mode.{Mode}
use Rattle.ha_model.specs.declared.record.EndCause.{EndCause}
use Rattle.ha_model.specs.declared.record.Record.{Record}
use Rattle.ha_config.specs.Words.{Pairs, or_else}
use Rattle.ha_model.specs.Lawful.{record_of}
use Rattle.ha_model.specs.Records.{Records, lets_in, live_count}
use Rattle.ha_model.specs.RunSteps.{joined, replace_all}
use Rattle.run_modes.specs.Changes.{after_attempt, after_call, after_end, after_stop}
use Rattle.run_modes.specs.Fits.{AreNumbered}
use Rattle.run_modes.specs.Table.{attempted, begin_first, begins_at, begun_by, called_on, ended_at, end_one, is_live, is_stopped, new_run, stopped, waiting_first}
use Rattle.run_modes.proofs.TableLemmas.{replaced, numbered-snoc}

-- ---- a call and a stop

pub called-record : (serial s : ℕ) (rs : Records) → record_of (called_on serial rs) s ≡ option_map (after_call serial) (record_of rs s)
called-record serial s rs = slice_get-map {A = Record} {B = Record} (after_call serial) rs (s - 1)

pub stopped-record : (which : Option ℕ) (s place : ℕ) (cause : EndCause) (rs : Records) → record_of (stopped which place cause rs) s ≡ option_map (after_stop which place cause) (record_of rs s)
stopped-record which s place cause rs = slice_get-map {A = Record} {B = Record} (after_stop which place cause) rs (s - 1)

-- ---- an end

differs : (m n : ℕ) → m < n → nat_eq n m ≡ false
differs m n h = search rules

below : (m n : ℕ) → n < m → nat_eq n m ≡ false
below m n h = search rules

abbrev IsAbove : ℕ → Option ℕ → Type 0
IsAbove n None = Unit {0}
IsAbove n (Some s) = n < s

abbrev IsWithin : ℕ → Option ℕ → Type 0
IsWithin n None = Unit {0}
IsWithin n (Some s) = s ≤ n

above-more : (n : ℕ) (o : Option ℕ) → IsAbove (suc n) o → IsAbove n o
above-more n None h = tt
above-more n (Some s) h = omega arith

-- a record behind those is none of them
not-next : (s : ℕ) (o : Option ℕ) → IsAbove s o → option_map_or (nat_eq s) o false ≡ false
not-next s None h = refl
not-next s (Some t) h = below t s h

not-last : (s n : ℕ) (o : Option ℕ) → n < s → IsWithin n o → option_map_or (nat_eq s) o false ≡ false
not-last s n None lt h = refl
not-last s n (Some t) lt h = differs t s (omega arith)

waits-above : (a n : ℕ) (rs : Records) → AreNumbered n rs → IsAbove n (waiting_first a rs)
waits-above a n [] h = tt
waits-above a n (r ∷ rs) h = by (is_live a r) (is_none r.begin) (waits-above a (suc n) rs h.1)
  where
    by : (live unbegun : Bool) → IsAbove (suc n) (waiting_first a rs) → IsAbove n (if live then (if unbegun then Some r.serial else None) else waiting_first a rs)
    by true true later = omega (arith, h.0)
    by true false later = tt
    by false b later = above-more n (waiting_first a rs) later

begins-above : (serial n : ℕ) (rs : Records) → AreNumbered n rs → IsAbove n (begun_by serial rs)
begins-above serial n [] h = tt
begins-above serial n (r ∷ rs) h = by (nat_eq r.serial serial) (begins-above serial (suc n) rs h.1)
  where
    by : (b : Bool) → IsAbove (suc n) (begun_by serial rs) → IsAbove n (if b then waiting_first r.automation rs else begun_by serial rs)
    by true later = above-more n (waiting_first r.automation rs) (waits-above r.automation (suc n) rs h.1)
    by false later = above-more n (begun_by serial rs) later

module _ (place : ℕ) (cause : EndCause) where
  -- a record with a serial of its own is the same
  stays : (serial : ℕ) (next : Option ℕ) (r : Record) → nat_eq r.serial serial ≡ false → option_map_or (nat_eq r.serial) next false ≡ false → r ≡ after_end serial place cause next r
  stays serial next r e f = sym (
      ap (λ b. if b then record r { end = Some (place, cause) } else (if option_map_or (nat_eq r.serial) next false then begins_at place r else r)) e
      ∙ ap (λ b. if b then begins_at place r else r) f)

  all-stay : (serial n : ℕ) (next : Option ℕ) (rs : Records) (i : ℕ) → serial ≤ n → IsWithin n next → AreNumbered n rs → slice_get rs i ≡ option_map (after_end serial place cause next) (slice_get rs i)
  all-stay serial n next [] i le within h = refl
  all-stay serial n next (r ∷ rs) zero le within h =
      ap (λ x. Some x) (stays serial next r (differs serial r.serial (omega (arith, h.0))) (not-last r.serial n next (omega (arith, h.0)) within))
  all-stay serial n next (r ∷ rs) (suc i) le within h = all-stay serial (suc n) next rs i (omega arith) (wider next within) h.1
    where
      wider : (o : Option ℕ) → IsWithin n o → IsWithin (suc n) o
      wider None h = tt
      wider (Some s) h = omega arith

  begun : (o : Option ℕ) (r : Record) → r.begin ≡ o → is_none o ≡ false → begins_at place r ≡ r
  begun None r e f = absurd (cc)
  begun (Some b) r e f = ap (λ o. record r { begin = or_else o (Some place) }) e ∙ ap (λ o. record r { begin = o }) (sym e)

  first-begins : (serial a n : ℕ) (rs : Records) (i : ℕ) → serial ≤ n → AreNumbered n rs → slice_get (begin_first a place rs) i ≡ option_map (after_end serial place cause (waiting_first a rs)) (slice_get rs i)
  first-begins serial a n [] i le h = refl
  first-begins serial a n (r ∷ rs) i le h = by (is_live a r) (is_none r.begin) refl i (λ k. first-begins serial a (suc n) rs k (omega arith) h.1)
    where
      other : nat_eq r.serial serial ≡ false
      other = differs serial r.serial (omega (arith, h.0))

      itself : nat_eq r.serial r.serial ≡ true
      itself = search rules

      by : (live unbegun : Bool) → is_none r.begin ≡ unbegun → (i : ℕ)
          → ((k : ℕ) → slice_get (begin_first a place rs) k ≡ option_map (after_end serial place cause (waiting_first a rs)) (slice_get rs k))
          → slice_get (if live then begins_at place r ∷ rs else r ∷ begin_first a place rs) i
          ≡ option_map (after_end serial place cause (if live then (if unbegun then Some r.serial else None) else waiting_first a rs)) (slice_get (r ∷ rs) i)
      by true true e zero later = ap (λ x. Some x) (sym (
          ap (λ b. if b then record r { end = Some (place, cause) } else (if nat_eq r.serial r.serial then begins_at place r else r)) other
          ∙ ap (λ b. if b then begins_at place r else r) itself))
      by true true e (suc i) later = all-stay serial (suc n) (Some r.serial) rs i (omega arith) (omega (arith, h.0)) h.1
      by true false e zero later = ap (λ x. Some x) (begun r.begin r refl e ∙ stays serial None r other refl)
      by true false e (suc i) later = all-stay serial (suc n) None rs i (omega arith) tt h.1
      by false b e zero later = ap (λ x. Some x) (stays serial (waiting_first a rs) r other (not-next r.serial (waiting_first a rs) (serial-above (waiting_first a rs) (waits-above a (suc n) rs h.1))))
        where
          serial-above : (o : Option ℕ) → IsAbove (suc n) o → IsAbove r.serial o
          serial-above None k = tt
          serial-above (Some s) k = omega (arith, h.0)
      by false b e (suc i) later = later i

  ended-at : (serial n : ℕ) (rs : Records) (i : ℕ) → AreNumbered n rs → slice_get (ended_at serial place cause rs) i ≡ option_map (after_end serial place cause (begun_by serial rs)) (slice_get rs i)
  ended-at serial n [] i h = refl
  ended-at serial n (r ∷ rs) i h = by (nat_eq r.serial serial) refl i (λ k. ended-at serial (suc n) rs k h.1)
    where
      same-serial : (m k : ℕ) → nat_eq m k ≡ true → m ≡ k
      same-serial m k e = search rules

      by : (b : Bool) → nat_eq r.serial serial ≡ b → (i : ℕ) → ((k : ℕ) → slice_get (ended_at serial place cause rs) k ≡ option_map (after_end serial place cause (begun_by serial rs)) (slice_get rs k))
          → slice_get (if b then record r { end = Some (place, cause) } ∷ begin_first r.automation place rs else r ∷ ended_at serial place cause rs) i
          ≡ option_map (after_end serial place cause (if b then waiting_first r.automation rs else begun_by serial rs)) (slice_get (r ∷ rs) i)
      by true e zero later = ap (λ x. Some x) (sym (ap (λ b. if b then record r { end = Some (place, cause) } else (if option_map_or (nat_eq r.serial) (waiting_first r.automation rs) false then begins_at place r else r)) e))
      by true e (suc i) later = first-begins serial r.automation (suc n) rs i (omega (arith, h.0, same-serial r.serial serial e)) h.1
      by false e zero later = ap (λ x. Some x) (stays serial (begun_by serial rs) r e (not-next r.serial (begun_by serial rs) (serial-above (begun_by serial rs) (begins-above serial (suc n) rs h.1))))
        where
          serial-above : (o : Option ℕ) → IsAbove (suc n) o → IsAbove r.serial o
          serial-above None k = tt
          serial-above (Some s) k = omega (arith, h.0)
      by false e (suc i) later = later i

pub ended-record : (serial s place : ℕ) (cause : EndCause) (rs : Records) → AreNumbered 0 rs → record_of (ended_at serial place cause rs) s ≡ option_map (after_end serial place cause (begun_by serial rs)) (record_of rs s)
ended-record serial s place cause rs h = ended-at place cause serial 0 rs (s - 1) h

-- ---- an attempt

get-replaced : (a place : ℕ) (rs : Records) (i : ℕ) → slice_get (replace_all a place rs) i ≡ option_map (after_attempt a Mode.Restart place) (slice_get rs i)
get-replaced a place rs i = ap (λ xs. slice_get xs i) (sym (replaced a place rs)) ∙ slice_get-map {A = Record} {B = Record} (after_attempt a Mode.Restart place) rs i

option-same : (o : Option Record) → o ≡ option_map (λ r. r) o
option-same None = refl
option-same (Some r) = refl

front : (rs more : Records) (i : ℕ) → i < length rs → slice_get (rs ++ more) i ≡ slice_get rs i
front [] more i h = absurd (omega arith)
front (r ∷ rs) more zero h = refl
front (r ∷ rs) more (suc i) h = front rs more i (omega arith)

back : (rs : Records) (x : Record) → slice_get (rs ++ (x ∷ [])) (length rs) ≡ Some x
back [] x = refl
back (r ∷ rs) x = back rs x

length-replaced : (a place : ℕ) (rs : Records) → length (replace_all a place rs) ≡ length rs
length-replaced a place [] = refl
length-replaced a place (r ∷ rs) = ap suc (length-replaced a place rs)

pub attempted-record : (a max place order number s : ℕ) (mode : Mode) (env : Pairs) (rs : Records) → lets_in mode max (live_count a rs) ≡ true → 0 < s → s ≤ length rs
    → record_of (attempted a mode max place order number env rs) s ≡ option_map (after_attempt a mode place) (record_of rs s)
attempted-record a max place order number s mode env rs h some le =
    ap (λ b. record_of (if b then joined mode a place rs (new_run rs a mode place order number env) else rs) s) h ∙ by mode (new_run rs a mode place order number env)
  where
    by : (mode : Mode) (new : Record) → record_of (joined mode a place rs new) s ≡ option_map (after_attempt a mode place) (record_of rs s)
    by Mode.Single new = front rs (new ∷ []) (s - 1) (omega arith) ∙ option-same (record_of rs s)
    by Mode.Restart new = front (replace_all a place rs) (new ∷ []) (s - 1) (omega (arith, length-replaced a place rs)) ∙ get-replaced a place rs (s - 1)
    by Mode.Queued new = front rs (new ∷ []) (s - 1) (omega arith) ∙ option-same (record_of rs s)
    by Mode.Parallel new = front rs (new ∷ []) (s - 1) (omega arith) ∙ option-same (record_of rs s)

pub attempted-newest : (a max place order number : ℕ) (mode : Mode) (env : Pairs) (rs : Records) → lets_in mode max (live_count a rs) ≡ true
    → record_of (attempted a mode max place order number env rs) (suc (length rs)) ≡ Some (new_run rs a mode place order number env)
attempted-newest a max place order number mode env rs h =
    ap (λ b. record_of (if b then joined mode a place rs (new_run rs a mode place order number env) else rs) (suc (length rs))) h ∙ by mode (new_run rs a mode place order number env)
  where
    at : suc (length rs) - 1 ≡ length rs
    at = omega arith

    by : (mode : Mode) (new : Record) → record_of (joined mode a place rs new) (suc (length rs)) ≡ Some new
    by Mode.Single new = ap (slice_get (rs ++ (new ∷ []))) at ∙ back rs new
    by Mode.Restart new = ap (slice_get (replace_all a place rs ++ (new ∷ []))) (at ∙ sym (length-replaced a place rs)) ∙ back (replace_all a place rs) new
    by Mode.Queued new = ap (slice_get (rs ++ (new ∷ []))) at ∙ back rs new
    by Mode.Parallel new = ap (slice_get (rs ++ (new ∷ []))) at ∙ back rs new

-- ---- the numbers

map-numbered : (f : Record → Record) → ((r : Record) → (f r).serial ≡ r.serial) → (n : ℕ) (rs : Records) → AreNumbered n rs → AreNumbered n (map f rs)
map-numbered f same n [] h = tt
map-numbered f same n (r ∷ rs) h = (same r ∙ h.0, map-numbered f same (suc n) rs h.1)

pub stopped-numbered : (which : Option ℕ) (place : ℕ) (cause : EndCause) (rs : Records) → AreNumbered 0 rs → AreNumbered 0 (stopped which place cause rs)
stopped-numbered which place cause rs h = map-numbered (after_stop which place cause) (λ r. by r (is_stopped which r)) 0 rs h
  where
    by : (r : Record) (b : Bool) → (if b then end_one true place cause r else r).serial ≡ r.serial
    by r true = refl
    by r false = refl

replaced-numbered : (a place : ℕ) (rs : Records) → AreNumbered 0 rs → AreNumbered 0 (replace_all a place rs)
replaced-numbered a place rs h =
    let P : Records → Type 0 = λ xs. AreNumbered 0 xs in
    subst P (replaced a place rs) (map-numbered (after_attempt a Mode.Restart place) (λ r. by r (is_live a r)) 0 rs h)
  where
    by : (r : Record) (b : Bool) → (if b then record r { end = Some (place, EndCause.Replaced) } else r).serial ≡ r.serial
    by r true = refl
    by r false = refl

pub attempted-numbered : (a max place order number : ℕ) (mode : Mode) (env : Pairs) (rs : Records) → AreNumbered 0 rs → AreNumbered 0 (attempted a mode max place order number env rs)
attempted-numbered a max place order number mode env rs h = by (lets_in mode max (live_count a rs)) mode (new_run rs a mode place order number env) refl
  where
    by : (b : Bool) (mode : Mode) (new : Record) → new.serial ≡ suc (length rs) → AreNumbered 0 (if b then joined mode a place rs new else rs)
    by false mode new e = h
    by true Mode.Single new e = numbered-snoc 0 rs new h (omega (arith, e))
    by true Mode.Restart new e = numbered-snoc 0 (replace_all a place rs) new (replaced-numbered a place rs h) (omega (arith, e, length-replaced a place rs))
    by true Mode.Queued new e = numbered-snoc 0 rs new h (omega (arith, e))
    by true Mode.Parallel new e = numbered-snoc 0 rs new h (omega (arith, e))
