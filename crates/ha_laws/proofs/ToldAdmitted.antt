-- The records are those of the admitted attempts, by the number of earlier ones that have no end up to that place.
use Rattle.std.proofs.Common.{◌≡◌, ℕ, zero, suc, ◌+◌, ◌<◌, ◌≤◌, ◌⊎◌, inl, inr, List, [], ◌∷◌, ◌++◌, length, take, map, Bool, true, false, cond, refl, sym, ap, subst, ◌∙◌, arith, Option, append_assoc, append-nil}
use Rattle.std.specs.Prelude.{Some, None, not, slice_get, is_some, is_none, nat_eq, nat_le, fold, ◌&&◌, if◌then◌else◌}
use Rattle.std.specs.Option.{option_map_or}
use Rattle.std.proofs.lemmas.Bool.Decides.{leb_tells}
use Rattle.std.proofs.lemmas.Bool.{eqb-true}
use Rattle.std.proofs.lemmas.List.{length-take-le}
use Rattle.ha_config.specs.declared.config.Automation.{Automation}
use Rattle.ha_config.specs.declared.config.Mode.{Mode}
use Rattle.ha_model.specs.declared.record.EndCause.{EndCause}
use Rattle.ha_model.specs.declared.record.Record.{Record}
use Rattle.ha_journal.specs.Journal.{Journal, through, last_place, units}
use Rattle.ha_journal.specs.Attempts.{Attempt, passing}
use Rattle.ha_model.specs.Records.{Records, mode_of, max_of, lets_in, is_restart_mode, next_place, live_count, lets_in_after, new_record, records_of, last_record, begin_of, calls_of}
use Rattle.ha_config.specs.Names.{name_of}
use Rattle.ha_config.specs.Words.{or_else, same}
use Rattle.ha_laws.specs.Told.{Tried, tried_at, passing_below, has_ended_by, is_unended, unended_count, is_admitted, IsRecordOf, HaveRecords, units_then}
use Rattle.ha_model.proofs.RecordLaws.{at_place, last-through}
use Rattle.ha_model.proofs.RecordGrowth.{EndBelow, below-ends, is-at-most, is-over}
use Rattle.ha_model.proofs.FoldLaws.{records-passes}
use Rattle.ha_model.proofs.Passes.{own_end, replaced, end_here, end_below, with_ends, admitted, bare_below, bare, with_begins, by_passes}
use Rattle.ha_journal.proofs.ForceLaws.{unit-front}

-- ---- modes at a place

none-behind : {X : Type 0} (xs : List X) (n : ℕ) → length xs ≤ n → slice_get xs n ≡ None
none-behind [] n le = refl
none-behind (x ∷ xs) zero le = absurd (omega (arith, le))
none-behind (x ∷ xs) (suc n) le = none-behind xs n (omega (arith, le))

-- LAW: a unit that is not of mode restart was not of that mode at a place before either
pub restart-front : (j : Journal) (p a : ℕ) → is_restart_mode (mode_of (units j) a) ≡ false → is_restart_mode (mode_of (units (through j p)) a) ≡ false
restart-front j p a m = by (leb_tells (suc a) (length (units (through j p))))
  where
    by : ((nat_le (suc a) (length (units (through j p))) ≡ true) × (suc a ≤ length (units (through j p)))) ⊎ ((nat_le (suc a) (length (units (through j p))) ≡ false) × (length (units (through j p)) < suc a))
        → is_restart_mode (mode_of (units (through j p)) a) ≡ false
    by (inl (t, lt)) = (let e = sym (unit-front j (suc p) a lt) in λ i. is_restart_mode (option_map_or (λ (x : Automation). x.mode) (e i) Mode.Single)) ∙ m
    by (inr (f, lt)) =
        (let e = none-behind (units (through j p)) a (omega (arith, lt)) in λ i. is_restart_mode (option_map_or (λ (x : Automation). x.mode) (e i) Mode.Single))

-- ---- ends, in an automation that is not of mode restart

-- the next record then ends nothing
pub end-any-next : (j : Journal) (r : Record) (next : Option ℕ) (n : ℕ) → is_restart_mode (mode_of (units j) r.automation) ≡ false → end_below j r next n ≡ end_below j r None n
end-any-next j r next zero m = refl
end-any-next j r next (suc p) m =
    (λ i. or_else (end-any-next j r next p m i) (at_place (last_place (through j p)) (or_else (own_end (through j p) r) (none next i))))
    ∙ (λ i. or_else (end_below j r None p) (at_place (last_place (through j p)) (or_else (own_end (through j p) r) (sym (none None) i))))
  where
    not_restart : is_restart_mode (mode_of (units (through j p)) r.automation) ≡ false
    not_restart = restart-front j p r.automation m

    none : (next : Option ℕ) → replaced (through j p) r next ≡ None
    none next = (λ i. if not_restart i && option_map_or (λ q. nat_eq q (last_place (through j p))) next false then Some EndCause.Replaced else None)

pub take-take : {X : Type 0} (m n : ℕ) (xs : List X) → m ≤ n → take m (take n xs) ≡ take m xs
take-take zero n xs le = refl
take-take (suc m) zero xs le = absurd (omega arith)
take-take (suc m) (suc n) [] le = refl
take-take (suc m) (suc n) (x ∷ xs) le = ap (λ l. x ∷ l) (take-take m n xs (omega arith))

pub end-through : (j : Journal) (r : Record) (next : Option ℕ) (p n : ℕ) → n ≤ suc p → end_below (through j p) r next n ≡ end_below j r next n
end-through j r next p zero le = refl
end-through j r next p (suc q) le =
    (let e = take-take (suc q) (suc p) j le in λ i. or_else (end-through j r next p q (omega arith) i) (end_here (e i) r next))

-- whether a record has ended by a place is told by the entries up to there
pub ended-by : (j : Journal) (r : Record) (next : Option ℕ) (p n : ℕ) → suc p ≤ n → n ≤ length j → option_map_or (λ e. nat_le e.0 p) (end_below j r next n) false ≡ is_some (end_below j r next (suc p))
ended-by j r next p zero le h = absurd (omega arith)
ended-by j r next p (suc m) le h = by (leb_tells (suc p) m) (λ le'. ended-by j r next p m le' (omega arith))
  where
    within : (e : Option (ℕ × EndCause)) → EndBelow (suc p) e → option_map_or (λ e. nat_le e.0 p) e false ≡ is_some e
    within None b = refl
    within (Some e) b = is-at-most e.0 p (omega arith)

    later : p < m → (e : Option (ℕ × EndCause)) (o : Option EndCause) → option_map_or (λ e. nat_le e.0 p) e false ≡ is_some (end_below j r next (suc p))
        → option_map_or (λ e. nat_le e.0 p) (or_else e (at_place (last_place (through j m)) o)) false ≡ is_some (end_below j r next (suc p))
    later lt (Some e) o ih = ih
    later lt None None ih = ih
    later lt None (Some c) ih = is-over (last_place (through j m)) p (omega (arith, last-through j m h)) ∙ ih

    by : ((nat_le (suc p) m ≡ true) × (suc p ≤ m)) ⊎ ((nat_le (suc p) m ≡ false) × (m < suc p))
        → (suc p ≤ m → option_map_or (λ e. nat_le e.0 p) (end_below j r next m) false ≡ is_some (end_below j r next (suc p)))
        → option_map_or (λ e. nat_le e.0 p) (end_below j r next (suc m)) false ≡ is_some (end_below j r next (suc p))
    by (inl (t, le')) ih = later (omega arith) (end_below j r next m) (or_else (own_end (through j m) r) (replaced (through j m) r next)) (ih le')
    by (inr (f, lt)) ih =
        (let same : suc m ≡ suc p = omega arith in
        (λ i. option_map_or (λ e. nat_le e.0 p) (end_below j r next (same i)) false) ∙ within (end_below j r next (suc p)) (below-ends j r next (suc p) (omega arith)))

-- ---- a record with its end and begin, against the bare one

pub record Alike (j : Journal) (f r : Record) : Type 0 where
  pub serial : f.serial ≡ r.serial
  pub automation : f.automation ≡ r.automation
  pub number : f.number ≡ r.number
  pub place : f.place ≡ r.place
  pub order : f.order ≡ r.order
  pub env : f.env ≡ r.env
  pub ends : (p : ℕ) → p < length j → is_restart_mode (mode_of (units (through j p)) r.automation) ≡ false → has_ended_by p f ≡ is_some (end_below j r None (suc p))

abbrev pub AllAlike : Journal → Records → Records → Type 0
AllAlike j [] [] = Unit {0}
AllAlike j [] (r ∷ rs) = ⊥
AllAlike j (f ∷ fs) [] = ⊥
AllAlike j (f ∷ fs) (r ∷ rs) = Alike j f r × AllAlike j fs rs

-- in a unit that is not of mode restart so far, the next record ended nothing so far
alone-through : (j : Journal) (r : Record) (next : Option ℕ) (p : ℕ) → is_restart_mode (mode_of (units (through j p)) r.automation) ≡ false → end_below j r next (suc p) ≡ end_below j r None (suc p)
alone-through j r next p m =
    sym (end-through j r next p (suc p) (omega arith)) ∙ end-any-next (through j p) r next (suc p) m ∙ end-through j r None p (suc p) (omega arith)

alike-one : (j : Journal) (r : Record) (next b : Option ℕ) (c : ℕ) → Alike j (record r { end = end_below j r next (length j); begin = b; calls = c }) r
alike-one j r next b c = record {
  serial = refl;
  automation = refl;
  number = refl;
  place = refl;
  order = refl;
  env = refl;
  ends = λ p lt m. ended-by j r next p (length j) lt (omega arith) ∙ (λ i. is_some (alone-through j r next p m i));
}

pub all-alike : (j : Journal) (before rs : Records) → AllAlike j (with_begins j before (with_ends j rs)) rs
all-alike j before [] = tt
all-alike j before (r ∷ rs) =
    let e : Record = record r { end = end_below j r (next_place r.automation rs) (length j) } in
    (alike-one j r (next_place r.automation rs) (begin_of (mode_of (units j) r.automation) (last_record r.automation before) e) (calls_of j r.serial), all-alike j (e ∷ before) rs)

-- ---- counts

count-alike : (j : Journal) (a p : ℕ) → p < length j → is_restart_mode (mode_of (units (through j p)) a) ≡ false → (fs rs : Records) → AllAlike j fs rs → (m : ℕ)
    → fold (λ n r. n + cond (is_unended a p r) 1 0) m fs ≡ fold (λ n r. n + cond (nat_eq r.automation a && is_none r.end) 1 0) m (with_ends (through j p) rs)
count-alike j a p lt mode [] [] h m = refl
count-alike j a p lt mode [] (r ∷ rs) h m = absurd h
count-alike j a p lt mode (f ∷ fs) [] h m = absurd h
count-alike j a p lt mode (f ∷ fs) (r ∷ rs) h m =
    (λ i. fold (λ n r. n + cond (is_unended a p r) 1 0) (m + cond (both i) 1 0) fs)
    ∙ count-alike j a p lt mode fs rs h.1 (m + cond (nat_eq r.automation a && is_none now) 1 0)
  where
    now : Option (ℕ × EndCause)
    now = end_below (through j p) r (next_place r.automation rs) (length (through j p))

    not_restart : nat_eq r.automation a ≡ true → is_restart_mode (mode_of (units (through j p)) r.automation) ≡ false
    not_restart e = (λ i. is_restart_mode (mode_of (units (through j p)) (eqb-true r.automation a e i))) ∙ mode

    here : nat_eq r.automation a ≡ true → now ≡ end_below j r None (suc p)
    here e =
        let len : length (through j p) ≡ suc p = length-take-le (suc p) j lt in
        end-any-next (through j p) r (next_place r.automation rs) (length (through j p)) (not_restart e)
        ∙ (λ i. end_below (through j p) r None (len i)) ∙ end-through j r None p (suc p) (omega arith)

    by : (b : Bool) → nat_eq r.automation a ≡ b → (b && not (has_ended_by p f)) ≡ (b && is_none now)
    by false e = refl
    by true e = (let ends = h.0.ends p lt (not_restart e) in λ i. not (ends i)) ∙ (λ i. not (is_some (sym (here e) i)))

    both : is_unended a p f ≡ (nat_eq r.automation a && is_none now)
    both = (λ i. nat_eq (h.0.automation i) a && not (has_ended_by p f)) ∙ by (nat_eq r.automation a) refl

pub admitted-alike : (j : Journal) (t : Tried) → t.place < length j → (fs rs : Records) → AllAlike j fs rs
    → is_admitted (units_then j t) fs t ≡ lets_in_after (units_then j t) (with_ends (through j t.place) rs) t.attempt.automation
admitted-alike j t lt fs rs h = by (mode_of us a) refl
  where
    us : List Automation
    us = units_then j t

    a : ℕ
    a = t.attempt.automation

    counted : is_restart_mode (mode_of us a) ≡ false → (m : Mode) → lets_in m (max_of us a) (unended_count a t.place fs) ≡ lets_in m (max_of us a) (live_count a (with_ends (through j t.place) rs))
    counted e m = (let c = count-alike j a t.place lt e fs rs h 0 in λ i. lets_in m (max_of us a) (c i))

    by : (m : Mode) → mode_of us a ≡ m → is_admitted us fs t ≡ lets_in (mode_of us a) (max_of us a) (live_count a (with_ends (through j t.place) rs))
    by Mode.Single e = counted (λ i. is_restart_mode (e i)) (mode_of us a)
    by Mode.Queued e = counted (λ i. is_restart_mode (e i)) (mode_of us a)
    by Mode.Parallel e = counted (λ i. is_restart_mode (e i)) (mode_of us a)
    by Mode.Restart e =
        (λ i. lets_in (e i) (max_of us a) (unended_count a t.place fs))
        ∙ (λ i. lets_in (sym e i) (max_of us a) (live_count a (with_ends (through j t.place) rs)))

-- ---- the bare records, attempt by attempt

abbrev pub new_of : Journal → Records → Tried → Record
new_of j before t = new_record (through j t.place) before (t.order, t.attempt)

abbrev pub let_in_at : Journal → Records → Tried → Bool
let_in_at j before t = lets_in_after (units (through j t.place)) (with_ends (through j t.place) before) t.attempt.automation

abbrev pub admit_each : Journal → Records → List Tried → Records
admit_each j before [] = []
admit_each j before (t ∷ ts) = if let_in_at j before t then new_of j before t ∷ admit_each j (before ++ (new_of j before t ∷ [])) ts else admit_each j before ts

admitted-each : (j : Journal) (p : ℕ) (before : Records) (xs : List (ℕ × Attempt)) → admitted (through j p) before xs ≡ before ++ admit_each j before (map (tried_at p) xs)
admitted-each j p before [] = sym (append-nil before)
admitted-each j p before (x ∷ xs) = by (let_in_at j before (tried_at p x)) (λ bs. admitted-each j p bs xs)
  where
    new : Record
    new = new_of j before (tried_at p x)

    by : (b : Bool) → ((bs : Records) → admitted (through j p) bs xs ≡ bs ++ admit_each j bs (map (tried_at p) xs)) → admitted (through j p) (if b then before ++ (new ∷ []) else before) xs
        ≡ before ++ (if b then new ∷ admit_each j (before ++ (new ∷ [])) (map (tried_at p) xs) else admit_each j before (map (tried_at p) xs))
    by true ih = ih (before ++ (new ∷ [])) ∙ append_assoc before (new ∷ []) (admit_each j (before ++ (new ∷ [])) (map (tried_at p) xs))
    by false ih = ih before

each-append : (j : Journal) (before : Records) (ts us : List Tried) → admit_each j before (ts ++ us) ≡ admit_each j before ts ++ admit_each j (before ++ admit_each j before ts) us
each-append j before [] us = (λ i. admit_each j (sym (append-nil before) i) us)
each-append j before (t ∷ ts) us = by (let_in_at j before t) (λ bs. each-append j bs ts us)
  where
    new : Record
    new = new_of j before t

    by : (b : Bool) → ((bs : Records) → admit_each j bs (ts ++ us) ≡ admit_each j bs ts ++ admit_each j (bs ++ admit_each j bs ts) us)
        → (if b then new ∷ admit_each j (before ++ (new ∷ [])) (ts ++ us) else admit_each j before (ts ++ us))
        ≡ (if b then new ∷ admit_each j (before ++ (new ∷ [])) ts else admit_each j before ts)
        ++ admit_each j (before ++ (if b then new ∷ admit_each j (before ++ (new ∷ [])) ts else admit_each j before ts)) us
    by true ih =
        (λ i. new ∷ ih (before ++ (new ∷ [])) i)
        ∙ (let e = append_assoc before (new ∷ []) (admit_each j (before ++ (new ∷ [])) ts) in λ i. new ∷ (admit_each j (before ++ (new ∷ [])) ts ++ admit_each j (e i) us))
    by false ih = ih before

pub bare-each : (j : Journal) (n : ℕ) → bare_below j n ≡ admit_each j [] (passing_below j n)
bare-each j zero = refl
bare-each j (suc p) =
    let us = map (tried_at p) (passing (through j p)) in
    admitted-each j p (bare_below j p) (passing (through j p))
    ∙ (λ i. bare-each j p i ++ admit_each j (bare-each j p i) us)
    ∙ sym (each-append j [] (passing_below j p) us)

-- ---- the law

abbrev pub AllBelowPlace : ℕ → List Tried → Type 0
AllBelowPlace n [] = Unit {0}
AllBelowPlace n (t ∷ ts) = (t.place < n) × AllBelowPlace n ts

below-append : (n : ℕ) (ts us : List Tried) → AllBelowPlace n ts → AllBelowPlace n us → AllBelowPlace n (ts ++ us)
below-append n [] us h g = g
below-append n (t ∷ ts) us h g = (h.0, below-append n ts us h.1 g)

below-tried : (n p : ℕ) → p < n → (xs : List (ℕ × Attempt)) → AllBelowPlace n (map (tried_at p) xs)
below-tried n p lt [] = tt
below-tried n p lt (x ∷ xs) = (lt, below-tried n p lt xs)

pub below-passing : (j : Journal) (n m : ℕ) → m ≤ n → AllBelowPlace n (passing_below j m)
below-passing j n zero le = tt
below-passing j n (suc p) le = below-append n (passing_below j p) (map (tried_at p) (passing (through j p))) (below-passing j n p (omega arith)) (below-tried n p (omega arith) (passing (through j p)))

alike-snoc : (j : Journal) (fs rs : Records) (f r : Record) → AllAlike j fs rs → Alike j f r → AllAlike j (fs ++ (f ∷ [])) (rs ++ (r ∷ []))
alike-snoc j [] [] f r h g = (g, tt)
alike-snoc j [] (y ∷ ys) f r h g = absurd h
alike-snoc j (x ∷ xs) [] f r h g = absurd h
alike-snoc j (x ∷ xs) (y ∷ ys) f r h g = (h.0, alike-snoc j xs ys f r h.1 g)

length-alike : (j : Journal) (fs rs : Records) → AllAlike j fs rs → length fs ≡ length rs
length-alike j [] [] h = refl
length-alike j [] (y ∷ ys) h = absurd h
length-alike j (x ∷ xs) [] h = absurd h
length-alike j (x ∷ xs) (y ∷ ys) h = (λ i. suc (length-alike j xs ys h.1 i))

numbers-alike : (j : Journal) (test : ℕ → Bool) (fs rs : Records) → AllAlike j fs rs → (m : ℕ) → fold (λ n r. n + cond (test r.automation) 1 0) m fs ≡ fold (λ n r. n + cond (test r.automation) 1 0) m rs
numbers-alike j test [] [] h m = refl
numbers-alike j test [] (y ∷ ys) h m = absurd h
numbers-alike j test (x ∷ xs) [] h m = absurd h
numbers-alike j test (x ∷ xs) (y ∷ ys) h m =
    (λ i. fold (λ n r. n + cond (test r.automation) 1 0) (m + cond (test (h.0.automation i)) 1 0) xs) ∙ numbers-alike j test xs ys h.1 (m + cond (test y.automation) 1 0)

record-of : (j : Journal) (t : Tried) → t.place < length j → (fs rs : Records) (f : Record) → AllAlike j fs rs → Alike j f (new_of j rs t) → IsRecordOf (units_then j t) fs t f
record-of j t lt fs rs f h g = record {
  serial = g.serial ∙ (λ i. suc (sym (length-alike j fs rs h) i));
  automation = g.automation;
  number = g.number ∙ (let c = sym (numbers-alike j (λ a. same (name_of (units_then j t) a) (name_of (units_then j t) t.attempt.automation)) fs rs h 0) in λ i. suc (c i));
  place = g.place ∙ last-through j t.place lt;
  order = g.order;
  env = g.env;
}

have-records : (j : Journal) (ts : List Tried) → AllBelowPlace (length j) ts → (before bare_before fs : Records) → AllAlike j before bare_before → AllAlike j fs (admit_each j bare_before ts)
    → HaveRecords j before ts fs
have-records j [] below before bs [] h g = tt
have-records j [] below before bs (f ∷ fs) h g = absurd g
have-records j (t ∷ ts) below before bs fs h g = by (let_in_at j bs t) (admitted-alike j t below.0 before bs h) (have-records j ts below.1) fs g
  where
    new : Record
    new = new_of j bs t

    by : (b : Bool) → is_admitted (units_then j t) before t ≡ b
        → ((before' bs' fs : Records) → AllAlike j before' bs' → AllAlike j fs (admit_each j bs' ts) → HaveRecords j before' ts fs) → (fs : Records)
        → AllAlike j fs (if b then new ∷ admit_each j (bs ++ (new ∷ [])) ts else admit_each j bs ts) → HaveRecords j before (t ∷ ts) fs
    by true e ih [] g = absurd g
    by true e ih (f ∷ fs) g = inl (e, record-of j t below.0 before bs f h g.0, ih (before ++ (f ∷ [])) (bs ++ (new ∷ [])) fs (alike-snoc j before bs f new h g.0) g.1)
    by false e ih [] g = (e, ih before bs [] h g)
    by false e ih (f ∷ fs) g = inr (e, ih before bs (f ∷ fs) h g)

-- LAW: exactly the admitted attempts have records
pub records-admitted : (j : Journal) → HaveRecords j [] (passing_below j (length j)) (records_of j)
records-admitted j =
    subst (HaveRecords j [] (passing_below j (length j))) (sym (records-passes j))
    (have-records j (passing_below j (length j)) (below-passing j (length j) (length j) (omega arith)) [] [] (by_passes j) tt
    (subst (λ rs. AllAlike j (by_passes j) rs) (bare-each j (length j)) (all-alike j [] (bare j))))
