-- What a table that stands over the records of all segments tells of its own, and what each call leaves.
use Rattle.std.proofs.Common.{◌≡◌, ℕ, ◌+◌, ◌-◌, ◌<◌, ◌≤◌, ◌^◌, List, [], ◌∷◌, ◌++◌, length, refl, sym, ap, subst, ◌∙◌, arith, Option, Ok, Err}
use Rattle.std.specs.Prelude.{Some, None, Result, OnOk, OnErr, IfOk, IsOk, is_none, false, drop, option_map, slice_get}
use Rattle.std.proofs.lemmas.Option.{slice_get-map}
use Rattle.ha_config.proofs.ListLemmas.{append-nil}
use Rattle.ha_config.specs.Words.{Pairs}
use Rattle.ha_config.specs.declared.config.Mode.{Mode}
use Rattle.ha_model.specs.declared.record.EndCause.{EndCause}
use Rattle.ha_model.specs.declared.record.Record.{Record}
use Rattle.ha_model.specs.Lawful.{record_of}
use Rattle.ha_model.specs.Records.{Records}
use Rattle.run_modes.specs.declared.admission.Admission.{Admission}
use Rattle.run_modes.specs.Table.{HasBegun, admission, attempted, begun_by, called_on, ended_at, live_of, stopped}
use Rattle.segment_runs.specs.Goes.{AllEnded, CountAlike, moved, moved_all}
use Rattle.segment_runs.specs.Segment.{Closed, Splits, StandsOver, all_of, closed_in, number_at, own_in, taken_back}
use Rattle.segment_runs.specs.Told.{answered, lowered}
use Rattle.segment_runs.proofs.SplitLemmas.{Stands, admission-own, attempted-splits, begun-own, called-splits, ended-splits, length-all, length-taken, live-own, record-behind, serial-within, stands, stopped-splits}

has-moved : (n : ℕ) (o : Option ℕ) → HasBegun o → HasBegun (option_map (λ p. n + p) o)
has-moved n None h = h
has-moved n (Some p) h = tt

-- moved records that have ended, behind others
ended-both : (n base : ℕ) (num : ℕ → ℕ) (xs rs : Records) → AllEnded xs → AllEnded rs → AllEnded (xs ++ moved_all n base num rs)
ended-both n base num [] [] hx h = tt
ended-both n base num [] (r ∷ rs) hx h = (by r.end h.0, ended-both n base num [] rs hx h.1)
  where
    by : (e : Option (ℕ × EndCause)) → is_none e ≡ false → is_none {T = ℕ × EndCause} (option_map {T = ℕ × EndCause} {U = ℕ × EndCause} (λ e. (n + e.0, e.1)) e) ≡ false
    by None h = h
    by (Some e) h = refl
ended-both n base num (x ∷ xs) rs hx h = (hx.0, ended-both n base num xs rs hx.1 h)

-- a table of no runs
pub over-none : (rs : Records) (numbers : List ℕ) → rs ≡ [] → numbers ≡ [] → Stands 0 0 numbers rs (record { records = []; entries = 0; numbers = [] }) []
over-none rs numbers e f =
    subst (λ l. Stands 0 0 numbers l (record { records = []; entries = 0; numbers = [] }) []) (sym e)
    (stands 0 0 numbers [] (record { records = []; entries = 0; numbers = [] }) [] (record { is = refl; ended = tt; numbered = tt }) refl refl (sym f) (omega arith))

-- a live record that has begun, and one that may make a call more
abbrev pub MayEnd : Records → ℕ → Type 0
MayEnd rs serial = (r : Record) × (record_of rs serial ≡ Some r) × (r.serial ≡ serial) × HasBegun r.begin × (r.end ≡ None)

abbrev pub MayCall : Records → ℕ → Type 0
MayCall rs serial = (r : Record) × (record_of rs serial ≡ Some r) × (r.serial ≡ serial) × (r.calls < 2 ^ 64 - 1)

module _ (front base : ℕ) (numbers : List ℕ) (rs : Records) (over : StandsOver front base numbers rs) where
  abbrev pub closed : Closed
  closed = closed_in front base numbers rs

  abbrev pub own : Records
  own = own_in front base numbers rs

  is-base : length closed.records ≡ base
  is-base = length-taken base rs over.within

  pub over-length : length rs ≡ base + length own
  over-length = (let e = length-all rs closed own over.splits in omega (arith, e, is-base))

  pub over-serial : (serial : ℕ) (r : Record) → record_of own serial ≡ Some r → r.serial ≡ serial → (0 < serial) × ((base + serial) ≤ length rs)
  over-serial serial r found is =
      (let w = serial-within rs closed own over.splits serial r found is in
      let more = w.0 in
      let most = w.1 in
      (more, omega (arith, most, is-base)))

  over-record : (serial : ℕ) (r : Record) → record_of own serial ≡ Some r → r.serial ≡ serial → record_of rs (base + serial) ≡ Some (moved front (length closed.records) (number_at numbers) r)
  over-record serial r found is =
      (λ i. record_of rs (sym is-base i + serial))
      ∙ record-behind rs closed own over.splits serial (over-serial serial r found is).0
      ∙ ap (option_map (moved front (length closed.records) (number_at numbers))) found

  pub over-may-end : (serial : ℕ) → MayEnd own serial → MayEnd rs (base + serial)
  over-may-end serial h = (
    moved front (length closed.records) (number_at numbers) h.0,
    over-record serial h.0 h.1 h.2,
    (λ i. is-base i + h.2 i),
    has-moved front h.0.begin h.3,
    ap (option_map {T = ℕ × EndCause} (λ e. (front + e.0, e.1))) h.4,
  )

  pub over-may-call : (serial : ℕ) → MayCall own serial → MayCall rs (base + serial)
  over-may-call serial h = (
    moved front (length closed.records) (number_at numbers) h.0,
    over-record serial h.0 h.1 h.2,
    (λ i. is-base i + h.2 i),
    h.3,
  )

  -- ---- what each call leaves

  pub over-called : (serial : ℕ) → 0 < serial → Stands front base numbers (called_on (base + serial) rs) closed (called_on serial own)
  over-called serial more =
      stands front base numbers (called_on (base + serial) rs) closed (called_on serial own)
      (subst (λ b. Splits (called_on (b + serial) rs) closed (called_on serial own)) is-base (called-splits rs closed own over.splits serial more))
      refl is-base refl over.most

  pub over-ended : (serial place : ℕ) (cause : EndCause) → 0 < serial → Stands front base numbers (ended_at (base + serial) (front + place) cause rs) closed (ended_at serial place cause own)
  over-ended serial place cause more =
      stands front base numbers (ended_at (base + serial) (front + place) cause rs) closed (ended_at serial place cause own)
      (subst (λ b. Splits (ended_at (b + serial) (front + place) cause rs) closed (ended_at serial place cause own)) is-base (ended-splits rs closed own over.splits serial place cause more))
      refl is-base refl over.most

  pub over-stopped : (which : Option ℕ) (place : ℕ) (cause : EndCause) → Stands front base numbers (stopped which (front + place) cause rs) closed (stopped which place cause own)
  over-stopped which place cause =
      stands front base numbers (stopped which (front + place) cause rs) closed (stopped which place cause own) (stopped-splits rs closed own over.splits which place cause) refl is-base refl over.most

  pub over-attempted : (a : ℕ) (mode : Mode) (max place order number : ℕ) (env : Pairs)
      → Stands front base numbers (attempted a mode max (front + place) order (number_at numbers a + number) env rs) closed (attempted a mode max place order number env own)
  over-attempted a mode max place order number env =
      stands front base numbers (attempted a mode max (front + place) order (number_at numbers a + number) env rs) closed (attempted a mode max place order number env own)
      (attempted-splits rs closed own over.splits a mode max place order number env) refl is-base refl over.most

  -- the same list again
  pub over-same : (rs' : Records) → rs' ≡ rs → Stands front base numbers rs' closed own
  over-same rs' e = subst (λ l. Stands front base numbers l closed own) (sym e) (stands front base numbers rs closed own over.splits refl is-base refl over.most)

  -- ---- what it tells

  pub over-begun : (serial : ℕ) → 0 < serial → option_map (λ q. q - base) (begun_by (base + serial) rs) ≡ begun_by serial own
  over-begun serial more = (λ i. option_map (λ q. q - sym is-base i) (begun_by (sym is-base i + serial) rs)) ∙ begun-own rs closed own over.splits serial more

  pub over-admission : (a : ℕ) (mode : Mode) (max : ℕ) → lowered base (admission a mode max rs) ≡ admission a mode max own
  over-admission a mode max = (λ i. lowered (sym is-base i) (admission a mode max rs)) ∙ admission-own rs closed own over.splits a mode max

  pub over-live : (a at : ℕ) → option_map (λ q. q - base) (slice_get (live_of a rs) at) ≡ slice_get (live_of a own) at
  over-live a at = (λ i. option_map (λ q. q - sym is-base i) (slice_get (live_of a rs) at)) ∙ live-own rs closed own over.splits a at

  pub over-automation : (serial : ℕ) → option_map (λ (r : Record). r.automation) (slice_get (drop base rs) (serial - 1)) ≡ option_map (λ (r : Record). r.automation) (record_of own serial)
  over-automation serial =
      by (slice_get (drop base rs) (serial - 1))
      ∙ ap (option_map (λ (r : Record). r.automation)) (sym (slice_get-map {A = Record} {B = Record} (taken_back front base (number_at numbers)) (drop base rs) (serial - 1)))
    where
      by : (o : Option Record) → option_map (λ (r : Record). r.automation) o ≡ option_map (λ (r : Record). r.automation) (option_map (taken_back front base (number_at numbers)) o)
      by None = refl
      by (Some r) = refl

  -- ---- the segment is closed

  pub over-close : (to count : ℕ) (next : List ℕ) → count ≡ length rs → AllEnded own → to < 2 ^ 63 → Stands to count next rs (record { records = all_of closed own; entries = to; numbers = next }) []
  over-close to count next is ended most =
      stands to count next rs (record { records = all_of closed own; entries = to; numbers = next }) []
      (record {
        is = over.splits.is ∙ sym (append-nil (all_of closed own));
        ended = ended-both closed.entries (length closed.records) (number_at numbers) closed.records own over.splits.ended ended;
        numbered = over.splits.numbered;
      })
      refl (ap length (sym over.splits.is) ∙ sym is) refl most

  -- ---- other units come into force

  alike-moved : (new : List ℕ) (n b : ℕ) (xs : Records) → CountAlike (number_at numbers) (number_at new) xs → moved_all n b (number_at numbers) xs ≡ moved_all n b (number_at new) xs
  alike-moved new n b [] h = refl
  alike-moved new n b (x ∷ xs) h =
      λ i. record (moved n b (number_at numbers) x) { number = h.0 i + x.number } ∷ alike-moved new n b xs h.1 i

  pub over-enter : (new : List ℕ) → CountAlike (number_at numbers) (number_at new) own → Stands front base new rs (record closed { numbers = new }) own
  over-enter new alike =
      stands front base new rs (record closed { numbers = new }) own
      (record {
        is = over.splits.is ∙ (λ i. closed.records ++ alike-moved new closed.entries (length closed.records) own alike i);
        ended = over.splits.ended;
        numbered = over.splits.numbered;
      })
      refl is-base refl over.most

  -- ---- an attempt, which may want memory

  module _ {E : Type 0} (told : Result Admission E) (rs' : Records) (a : ℕ) (mode : Mode) (max place order whole number : ℕ) (env : Pairs) (whole_is : whole ≡ number_at numbers a + number) where
    attempted-so : Stands front base numbers (attempted a mode max (front + place) order whole env rs) closed (attempted a mode max place order number env own)
    attempted-so = subst (λ w. Stands front base numbers (attempted a mode max (front + place) order w env rs) closed (attempted a mode max place order number env own)) (sym whole_is) (over-attempted a mode max place order number env)

    pub told-stands : OnOk told (rs' ≡ attempted a mode max (front + place) order whole env rs) → OnErr told (rs' ≡ rs) → StandsOver front base numbers rs' × (closed_in front base numbers rs' ≡ closed)
    told-stands = by told
      where
        by : (r : Result Admission E) → OnOk r (rs' ≡ attempted a mode max (front + place) order whole env rs) → OnErr r (rs' ≡ rs) → StandsOver front base numbers rs' × (closed_in front base numbers rs' ≡ closed)
        by (Ok t) e lost = (let s = subst (λ l. Stands front base numbers l closed (attempted a mode max place order number env own)) (sym e) (attempted-so) in (s.over, s.closed))
        by (Err x) made e = (let s = over-same rs' e in (s.over, s.closed))

    pub told-ok : OnOk told (rs' ≡ attempted a mode max (front + place) order whole env rs) → OnOk (answered base told) (own_in front base numbers rs' ≡ attempted a mode max place order number env own)
    told-ok = by told
      where
        by : (r : Result Admission E) → OnOk r (rs' ≡ attempted a mode max (front + place) order whole env rs) → OnOk (answered base r) (own_in front base numbers rs' ≡ attempted a mode max place order number env own)
        by (Ok t) e = ap (own_in front base numbers) e ∙ (attempted-so).list
        by (Err x) e = tt

    pub told-err : OnErr told (rs' ≡ rs) → OnErr (answered base told) (own_in front base numbers rs' ≡ own)
    told-err = by told
      where
        by : (r : Result Admission E) → OnErr r (rs' ≡ rs) → OnErr (answered base r) (own_in front base numbers rs' ≡ own)
        by (Ok t) e = tt
        by (Err x) e = ap (own_in front base numbers) e

    pub told-answer : IfOk told (λ t. t ≡ admission a mode max rs) → IfOk (answered base told) (λ t. t ≡ admission a mode max own)
    told-answer = by told
      where
        by : (r : Result Admission E) → IfOk r (λ t. t ≡ admission a mode max rs) → IfOk (answered base r) (λ t. t ≡ admission a mode max own)
        by (Ok t) e = ap (lowered base) e ∙ over-admission a mode max
        by (Err x) e = tt

    pub told-succeeds : IsOk told → IsOk (answered base told)
    told-succeeds = by told
      where
        by : (r : Result Admission E) → IsOk r → IsOk (answered base r)
        by (Ok t) h = h
        by (Err x) h = h
