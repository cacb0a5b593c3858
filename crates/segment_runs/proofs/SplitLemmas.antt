-- A table that stands over one list of all records, call by call.
use Rattle.std.proofs.Common.{◌≡◌, ℕ, zero, suc, ◌+◌, ◌-◌, ◌<◌, ◌≤◌, ◌^◌, List, [], ◌∷◌, ◌++◌, length, refl, sym, ap, subst, ◌∙◌, arith, Option, length-append}
use Rattle.std.specs.Prelude.{Some, drop, map, option_map, slice_get, take}
use Rattle.std.proofs.lemmas.Option.{slice_get-map}
use Rattle.ha_config.specs.Words.{Pairs}
use Rattle.ha_config.specs.declared.config.Mode.{Mode}
use Rattle.ha_model.specs.declared.record.EndCause.{EndCause}
use Rattle.ha_model.specs.declared.record.Record.{Record}
use Rattle.ha_model.specs.Lawful.{record_of}
use Rattle.ha_model.specs.Records.{Records}
use Rattle.run_modes.specs.Fits.{AreNumbered}
use Rattle.run_modes.specs.Table.{admission, attempted, begun_by, called_on, ended_at, live_of, stopped}
use Rattle.run_modes.proofs.ChangeLaws.{attempted-numbered, stopped-numbered}
use Rattle.run_modes.proofs.EndLemmas.{ended-numbered}
use Rattle.run_modes.proofs.StopLemmas.{called-numbered}
use Rattle.run_modes.proofs.TableLemmas.{read-within, serial-at}
use Rattle.segment_runs.specs.Goes.{GoesOn, SerialsTo, moved, moved_all}
use Rattle.segment_runs.proofs.TableShift.{attempted-behind, called-behind, ended-behind, live-behind, stopped-behind}
use Rattle.segment_runs.specs.Segment.{Closed, Splits, StandsOver, all_of, closed_in, number_at, own_in, taken_back}
use Rattle.segment_runs.specs.Told.{lowered}
use Rattle.segment_runs.proofs.MovedLemmas.{admission-behind, back-all, back-serial, begun-behind, length-moved, own-numbered}

take-all : (xs ys : Records) → take (length xs) (xs ++ ys) ≡ xs
take-all [] ys = refl
take-all (x ∷ xs) ys = (λ i. x ∷ take-all xs ys i)

drop-all : (xs ys : Records) → drop (length xs) (xs ++ ys) ≡ ys
drop-all [] ys = refl
drop-all (x ∷ xs) ys = drop-all xs ys

pub length-taken : (m : ℕ) (xs : Records) → m ≤ length xs → length (take m xs) ≡ m
length-taken zero xs h = refl
length-taken (suc m) [] h = absurd (omega (arith, h))
length-taken (suc m) (x ∷ xs) h = (let e = length-taken m xs (omega (arith, h)) in omega (arith, e))

get-behind : (xs ys : Records) (k : ℕ) → slice_get (xs ++ ys) (length xs + k) ≡ slice_get ys k
get-behind [] ys k = (let e : 0 + k ≡ k = omega arith in λ i. slice_get ys (e i))
get-behind (x ∷ xs) ys k = (let e : length (x ∷ xs) + k ≡ suc (length xs + k) = omega arith in ap (slice_get (x ∷ (xs ++ ys))) e ∙ get-behind xs ys k)

serials-to : (k : ℕ) (xs ys : Records) → AreNumbered k (xs ++ ys) → SerialsTo (k + length xs) xs
serials-to k [] ys h = tt
serials-to k (x ∷ xs) ys h =
    (omega (arith, h.0), (let e : suc k + length xs ≡ k + length (x ∷ xs) = omega arith in subst (λ m. SerialsTo m xs) e (serials-to (suc k) xs ys h.1)))

numbered-behind : (k : ℕ) (xs ys : Records) → AreNumbered k (xs ++ ys) → AreNumbered (k + length xs) ys
numbered-behind k [] ys h = (let e : k ≡ k + 0 = omega arith in subst (λ m. AreNumbered m ys) e h)
numbered-behind k (x ∷ xs) ys h = (let e : suc k + length xs ≡ k + length (x ∷ xs) = omega arith in subst (λ m. AreNumbered m ys) e (numbered-behind (suc k) xs ys h.1))

-- ---- a list that splits so

module _ (rs : Records) (c : Closed) (own : Records) (s : Splits rs c own) where
  abbrev base : ℕ
  base = length c.records

  abbrev num : ℕ → ℕ
  num = number_at c.numbers

  goes : GoesOn base c.records
  goes = record {
    ended = s.ended;
    serials = refl;
  }

  numbered-all : AreNumbered 0 (all_of c own)
  numbered-all = subst (AreNumbered 0) s.is s.numbered

  serials : SerialsTo base c.records
  serials = (let e : 0 + base ≡ base = omega arith in subst (λ m. SerialsTo m c.records) e (serials-to 0 c.records (moved_all c.entries base num own) numbered-all))

  pub numbered-own : AreNumbered 0 own
  numbered-own =
      own-numbered c.entries base num 0 own (let e : 0 + base ≡ base + 0 = omega arith in subst (λ m. AreNumbered m (moved_all c.entries base num own)) e (numbered-behind 0 c.records (moved_all c.entries base num own) numbered-all))

  pub closed-seen : closed_in c.entries base c.numbers rs ≡ c
  closed-seen = (λ i. record { records = (ap (take base) s.is ∙ take-all c.records (moved_all c.entries base num own)) i; entries = c.entries; numbers = c.numbers })

  pub own-seen : own_in c.entries base c.numbers rs ≡ own
  own-seen =
      (λ i. map {A = Record} {B = Record} (taken_back c.entries base num) ((ap (drop base) s.is ∙ drop-all c.records (moved_all c.entries base num own)) i))
      ∙ back-all c.entries base num own

  pub length-all : length rs ≡ base + length own
  length-all = (let e = ap length s.is in omega (arith, e, length-append c.records (moved_all c.entries base num own), length-moved c.entries base num own))

  -- ---- a record

  pub serial-within : (serial : ℕ) (r : Record) → record_of own serial ≡ Some r → r.serial ≡ serial → (0 < serial) × ((base + serial) ≤ length rs)
  serial-within serial r found is =
      let at = serial-at 0 (serial - 1) own r numbered-own found in
      let lt = read-within own (serial - 1) r found in
      (omega (arith, at, is), omega (arith, at, is, lt, length-all))

  pub record-behind : (serial : ℕ) → 0 < serial → record_of rs (base + serial) ≡ option_map (moved c.entries base num) (record_of own serial)
  record-behind serial more =
      let e : (base + serial) - 1 ≡ base + (serial - 1) = omega (arith, more) in
      (λ i. slice_get (s.is i) (e i))
      ∙ get-behind c.records (moved_all c.entries base num own) (serial - 1)
      ∙ slice_get-map {A = Record} {B = Record} (moved c.entries base num) own (serial - 1)

  -- ---- the calls

  pub called-splits : (serial : ℕ) → 0 < serial → Splits (called_on (base + serial) rs) c (called_on serial own)
  called-splits serial more = record {
    is = ap (called_on (base + serial)) s.is ∙ called-behind c.entries base num serial c.records own serials more;
    ended = s.ended;
    numbered = called-numbered (base + serial) 0 rs s.numbered;
  }

  pub ended-splits : (serial place : ℕ) (cause : EndCause) → 0 < serial → Splits (ended_at (base + serial) (c.entries + place) cause rs) c (ended_at serial place cause own)
  ended-splits serial place cause more = record {
    is = ap (ended_at (base + serial) (c.entries + place) cause) s.is ∙ ended-behind c.entries base num serial place cause c.records own serials more;
    ended = s.ended;
    numbered = ended-numbered (c.entries + place) cause (base + serial) 0 rs s.numbered;
  }

  pub begun-own : (serial : ℕ) → 0 < serial → option_map (λ q. q - base) (begun_by (base + serial) rs) ≡ begun_by serial own
  begun-own serial more =
      ap (λ l. option_map (λ q. q - base) (begun_by (base + serial) l)) s.is
      ∙ ap (option_map (λ q. q - base)) (begun-behind c.entries base num serial c.records own serials more)
      ∙ back-serial base (begun_by serial own)

  pub stopped-splits : (which : Option ℕ) (place : ℕ) (cause : EndCause) → Splits (stopped which (c.entries + place) cause rs) c (stopped which place cause own)
  stopped-splits which place cause = record {
    is = ap (stopped which (c.entries + place) cause) s.is ∙ stopped-behind c.entries base num which place cause c.records own s.ended;
    ended = s.ended;
    numbered = stopped-numbered which (c.entries + place) cause rs s.numbered;
  }

  pub attempted-splits : (a : ℕ) (mode : Mode) (max place order number : ℕ) (env : Pairs)
      → Splits (attempted a mode max (c.entries + place) order (num a + number) env rs) c (attempted a mode max place order number env own)
  attempted-splits a mode max place order number env = record {
    is = ap (attempted a mode max (c.entries + place) order (num a + number) env) s.is ∙ attempted-behind c.entries base num a mode max place order number env c.records own goes;
    ended = s.ended;
    numbered = attempted-numbered a max (c.entries + place) order (num a + number) mode env rs s.numbered;
  }

  pub admission-own : (a : ℕ) (mode : Mode) (max : ℕ) → lowered base (admission a mode max rs) ≡ admission a mode max own
  admission-own a mode max = ap (λ l. lowered base (admission a mode max l)) s.is ∙ admission-behind c.entries base num a mode max c.records own s.ended refl

  pub live-own : (a at : ℕ) → option_map (λ q. q - base) (slice_get (live_of a rs) at) ≡ slice_get (live_of a own) at
  live-own a at =
      ap (λ l. option_map (λ q. q - base) (slice_get (live_of a l) at)) s.is
      ∙ ap (λ l. option_map (λ q. q - base) (slice_get l at)) (live-behind c.entries base num a c.records own s.ended)
      ∙ ap (option_map (λ q. q - base)) (slice_get-map {A = ℕ} {B = ℕ} (λ q. base + q) (live_of a own) at)
      ∙ back-serial base (slice_get (live_of a own) at)

-- ---- what a table stands over

-- what is seen of another list that splits alike
pub record Stands (front base : ℕ) (numbers : List ℕ) (rs : Records) (c : Closed) (own : Records) : Type 0 where
  pub over : StandsOver front base numbers rs
  pub closed : closed_in front base numbers rs ≡ c
  pub list : own_in front base numbers rs ≡ own

pub stands : (front base : ℕ) (numbers : List ℕ) (rs : Records) (c : Closed) (own : Records) → Splits rs c own → c.entries ≡ front → length c.records ≡ base → c.numbers ≡ numbers → front < 2 ^ 63
    → Stands front base numbers rs c own
stands front base numbers rs c own s at is numbers_are most =
    let closed : closed_in front base numbers rs ≡ c = (λ i. closed_in (sym at i) (sym is i) (sym numbers_are i) rs) ∙ closed-seen rs c own s in
    let list : own_in front base numbers rs ≡ own = (λ i. own_in (sym at i) (sym is i) (sym numbers_are i) rs) ∙ own-seen rs c own s in
    record {
      over = record {
        splits = subst (λ x. Splits rs (closed_in front base numbers rs) x) (sym list) (subst (λ x. Splits rs x own) (sym closed) s);
        within = omega (arith, length-all rs c own s, is);
        most = most;
      };
      closed = closed;
      list = list;
    }
