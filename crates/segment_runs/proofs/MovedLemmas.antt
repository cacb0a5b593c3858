-- What is told of records that stand behind those of closed segments, and records taken back.
use Rattle.std.proofs.Common.{◌≡◌, ℕ, zero, suc, ◌+◌, ◌-◌, ◌<◌, ◌≤◌, List, [], ◌∷◌, ◌++◌, length, Bool, true, false, refl, ap, ◌∙◌, rules, arith, Option, length-append, subst}
use Rattle.std.specs.Prelude.{Some, None, ◌&&◌, is_none, map, nat_eq, option_map, if◌then◌else◌}
use Rattle.ha_config.specs.declared.config.Mode.{Mode}
use Rattle.ha_model.specs.declared.record.EndCause.{EndCause}
use Rattle.ha_model.specs.declared.record.Record.{Record}
use Rattle.ha_model.specs.Records.{Records, lets_in, live_count}
use Rattle.run_modes.specs.declared.admission.Admission.{Admission}
use Rattle.run_modes.specs.Fits.{AreNumbered}
use Rattle.run_modes.specs.Lanes.{first_of}
use Rattle.run_modes.specs.Table.{admission, begun_by, is_live, live_of, told, waiting_first}
use Rattle.segment_runs.specs.Goes.{AllEnded, SerialsTo, moved, moved_all}
use Rattle.segment_runs.proofs.TableShift.{count-behind, live-behind}
use Rattle.segment_runs.specs.Segment.{taken_back}
use Rattle.segment_runs.specs.Told.{lowered, raised}

cut-off : (n a : ℕ) → (n + a) - n ≡ a
cut-off n a = omega arith

eq-shift : (n a b : ℕ) → nat_eq (n + a) (n + b) ≡ nat_eq a b
eq-shift zero a b = (let e : 0 + a ≡ a = omega arith in let f : 0 + b ≡ b = omega arith in λ i. nat_eq (e i) (f i))
eq-shift (suc n) a b = search (rules, eq-shift n a b)

begin-shift : (n : ℕ) (o : Option ℕ) → is_none (option_map (λ p. n + p) o) ≡ is_none o
begin-shift n None = refl
begin-shift n (Some p) = refl

end-shift : (n : ℕ) (o : Option (ℕ × EndCause)) → is_none {T = ℕ × EndCause} (option_map {T = ℕ × EndCause} {U = ℕ × EndCause} (λ e. (n + e.0, e.1)) o) ≡ is_none o
end-shift n None = refl
end-shift n (Some e) = refl

-- ---- there and back

back-place : (n : ℕ) (o : Option ℕ) → option_map (λ p. p - n) (option_map (λ p. n + p) o) ≡ o
back-place n None = refl
back-place n (Some p) = (λ i. Some (cut-off n p i))

back-end : (n : ℕ) (o : Option (ℕ × EndCause)) → option_map {T = ℕ × EndCause} (λ e. (e.0 - n, e.1)) (option_map {T = ℕ × EndCause} (λ e. (n + e.0, e.1)) o) ≡ o
back-end n None = refl
back-end n (Some e) = (λ i. Some (cut-off n e.0 i, e.1))

module _ (n base : ℕ) (num : ℕ → ℕ) where
  back-moved : (r : Record) → taken_back n base num (moved n base num r) ≡ r
  back-moved r = λ i. record r {
    serial = cut-off base r.serial i;
    number = cut-off (num r.automation) r.number i;
    place = cut-off n r.place i;
    begin = back-place n r.begin i;
    end = back-end n r.end i;
  }

  pub back-all : (rs : Records) → map {A = Record} {B = Record} (taken_back n base num) (moved_all n base num rs) ≡ rs
  back-all [] = refl
  back-all (r ∷ rs) = (λ i. back-moved r i ∷ back-all rs i)

  pub length-moved : (rs : Records) → length (moved_all n base num rs) ≡ length rs
  length-moved [] = refl
  length-moved (r ∷ rs) = omega (arith, length-moved rs)

  -- ---- serials

  pub own-numbered : (k : ℕ) (rs : Records) → AreNumbered (base + k) (moved_all n base num rs) → AreNumbered k rs
  own-numbered k [] h = tt
  own-numbered k (r ∷ rs) h =
      (omega (arith, h.0), own-numbered (suc k) rs (let e : suc (base + k) ≡ base + suc k = omega arith in subst (λ m. AreNumbered m (moved_all n base num rs)) e h.1))

  -- ---- who begins where one ends

  waiting-moved : (a : ℕ) (rs : Records) → waiting_first a (moved_all n base num rs) ≡ option_map (λ s. base + s) (waiting_first a rs)
  waiting-moved a [] = refl
  waiting-moved a (r ∷ rs) =
      (λ i. if nat_eq r.automation a && end-shift n r.end i then (if begin-shift n r.begin i then Some (base + r.serial) else None) else waiting-moved a rs i)
      ∙ by (is_live a r) (is_none r.begin)
    where
      by : (live unbegun : Bool) → (if live then (if unbegun then Some (base + r.serial) else None) else option_map (λ s. base + s) (waiting_first a rs))
          ≡ option_map (λ s. base + s) (if live then (if unbegun then Some r.serial else None) else waiting_first a rs)
      by true true = refl
      by true false = refl
      by false unbegun = refl

  begun-moved : (serial : ℕ) (rs : Records) → begun_by (base + serial) (moved_all n base num rs) ≡ option_map (λ s. base + s) (begun_by serial rs)
  begun-moved serial [] = refl
  begun-moved serial (r ∷ rs) =
      (λ i. if eq-shift base r.serial serial i then waiting-moved r.automation rs i else begun-moved serial rs i) ∙ by (nat_eq r.serial serial)
    where
      by : (b : Bool) → (if b then option_map (λ s. base + s) (waiting_first r.automation rs) else option_map (λ s. base + s) (begun_by serial rs))
          ≡ option_map (λ s. base + s) (if b then waiting_first r.automation rs else begun_by serial rs)
      by true = refl
      by false = refl

  not-own : (r : Record) (serial : ℕ) → r.serial ≤ base → 0 < serial → nat_eq r.serial (base + serial) ≡ false
  not-own r serial le more = (let lt : r.serial < (base + serial) = omega (arith, le, more) in search (rules, lt))

  pub begun-behind : (serial : ℕ) (c rs : Records) → SerialsTo base c → 0 < serial → begun_by (base + serial) (c ++ moved_all n base num rs) ≡ option_map (λ s. base + s) (begun_by serial rs)
  begun-behind serial [] rs h more = begun-moved serial rs
  begun-behind serial (r ∷ c) rs h more =
      (λ i. if not-own r serial h.0 more i then waiting_first r.automation (c ++ moved_all n base num rs) else begun-behind serial c rs h.1 more i)

-- ---- serials taken back

pub back-serial : (base : ℕ) (o : Option ℕ) → option_map (λ s. s - base) (option_map (λ s. base + s) o) ≡ o
back-serial base o = back-place base o

first-raised : (base : ℕ) (ss : List ℕ) → first_of (map {A = ℕ} {B = ℕ} (λ q. base + q) ss) ≡ option_map (λ q. base + q) (first_of ss)
first-raised base [] = refl
first-raised base (s ∷ ss) = refl

told-raised : (base : ℕ) (mode : Mode) (serial : ℕ) (old : Option ℕ) → told mode (base + serial) (option_map (λ q. base + q) old) ≡ raised base (told mode serial old)
told-raised base Mode.Single serial None = refl
told-raised base Mode.Single serial (Some q) = refl
told-raised base Mode.Restart serial None = refl
told-raised base Mode.Restart serial (Some q) = refl
told-raised base Mode.Queued serial None = refl
told-raised base Mode.Queued serial (Some q) = refl
told-raised base Mode.Parallel serial None = refl
told-raised base Mode.Parallel serial (Some q) = refl

lowered-raised : (base : ℕ) (told : Admission) → lowered base (raised base told) ≡ told
lowered-raised base (Admission.Begun s) = (λ i. Admission.Begun (cut-off base s i))
lowered-raised base (Admission.Queued s) = (λ i. Admission.Queued (cut-off base s i))
lowered-raised base (Admission.Replaces s old) = (λ i. Admission.Replaces (cut-off base s i) (cut-off base old i))
lowered-raised base Admission.Refused = refl

-- what an attempt is told behind ended records, taken back, is what the segment's own table tells
pub admission-behind : (n base : ℕ) (num : ℕ → ℕ) (a : ℕ) (mode : Mode) (max : ℕ) (c rs : Records) → AllEnded c → base ≡ length c
    → lowered base (admission a mode max (c ++ moved_all n base num rs)) ≡ admission a mode max rs
admission-behind n base num a mode max c rs ended is =
    let serial : suc (length (c ++ moved_all n base num rs)) ≡ base + suc (length rs) = omega (arith, length-append c (moved_all n base num rs), length-moved n base num rs, is) in
    let oldest : first_of (live_of a (c ++ moved_all n base num rs)) ≡ option_map (λ q. base + q) (first_of (live_of a rs)) = ap first_of (live-behind n base num a c rs ended) ∙ first-raised base (live_of a rs) in
    (λ i. lowered base (if lets_in mode max (count-behind n base num a c rs ended i) then told mode (serial i) (oldest i) else Admission.Refused))
    ∙ by (lets_in mode max (live_count a rs))
  where
    by : (b : Bool) → lowered base (if b then told mode (base + suc (length rs)) (option_map (λ q. base + q) (first_of (live_of a rs))) else Admission.Refused)
        ≡ (if b then told mode (suc (length rs)) (first_of (live_of a rs)) else Admission.Refused)
    by true = ap (lowered base) (told-raised base mode (suc (length rs)) (first_of (live_of a rs))) ∙ lowered-raised base (told mode (suc (length rs)) (first_of (live_of a rs)))
    by false = refl
