-- On right journals each record begins and ends as the rules say. In mode queued the runs of an automation end in their order, so whether an
-- earlier one has not ended is told by the one just before.
use Rattle.std.proofs.Common.{◌≡◌, ℕ, zero, suc, ◌<◌, ◌≤◌, List, [], ◌∷◌, ◌++◌, length, Bool, true, false, refl, sym, ap, subst, ◌∙◌, rules, arith, Option, append_assoc}
use Rattle.std.specs.Prelude.{Some, None, not, slice_get, is_some, nat_eq, nat_le, nat_lt, option_map, option_and_then, ◌&&◌, ◌||◌, if◌then◌else◌}
use Rattle.std.specs.List.{list_any}
use Rattle.std.specs.Option.{option_map_or}
use Rattle.std.proofs.lemmas.Bool.{eqb-true, leb-true}
use Rattle.std.proofs.lemmas.List.Folds.{list_any-append}
use Rattle.ha_config.specs.declared.config.Mode.{Mode}
use Rattle.ha_model.specs.declared.record.EndCause.{EndCause}
use Rattle.ha_model.specs.declared.record.Record.{Record}
use Rattle.ha_journal.specs.Journal.{Journal, through, last_place, units}
use Rattle.ha_journal.specs.Attempts.{Attempt, passing}
use Rattle.ha_model.specs.Records.{Records, mode_of, own_cause, is_restart_mode, ended_by_script, script_end, ran, last_is, is_step_of, next_place, lets_in_after, new_record, records_of, last_record, begin_of, begin_behind, calls_of}
use Rattle.ha_config.specs.Words.{or_else}
use Rattle.ha_model.specs.Lawful.{Right}
use Rattle.ha_laws.specs.Told.{has_ended_by, is_unended, outer_cause, cause_at, first_below, last_among, begins_behind, told_begin, AreTold, AreNear, ByTheRules}
use Rattle.ha_config.proofs.EqualLemmas.{and_left}
use Rattle.ha_model.proofs.RecordLaws.{at_place, last-through}
use Rattle.ha_model.proofs.RecordGrowth.{AllBelow, is-at-most}
use Rattle.ha_config.proofs.ListLemmas.{true-false, none-some, some-same}
use Rattle.ha_model.proofs.RunLaws.{is-below}
use Rattle.ha_model.proofs.StepLaws.{serial-at}
use Rattle.ha_model.proofs.FoldLaws.{records-passes}
use Rattle.ha_model.proofs.Passes.{own_end, replaced, end_here, end_below, with_ends, admitted, bare_below, bare, ended, with_begins}
use Rattle.ha_laws.proofs.ToldAdmitted.{ended-by, end-any-next, records-admitted, restart-front}
use Rattle.ha_laws.proofs.ToldSteps.{step-runs, begins-late}

pub below : (a b : ℕ) → nat_lt a b ≡ true → a < b
below a b h = leb-true (suc a) b h

not-below : (a b : ℕ) → b ≤ a → nat_lt a b ≡ false
not-below a b le = search rules

-- ---- places do not fall along the records

abbrev pub SortedFrom : ℕ → Records → Type 0
SortedFrom m [] = Unit {0}
SortedFrom m (r ∷ rs) = (m ≤ r.place) × SortedFrom r.place rs

pub record SortedTo (n : ℕ) (rs : Records) : Type 0 where
  pub sorted : SortedFrom 0 rs
  pub within : AllBelow n rs

sorted-snoc : (m n : ℕ) (rs : Records) (r : Record) → m ≤ n → SortedFrom m rs → AllBelow (suc n) rs → r.place ≡ n → SortedFrom m (rs ++ (r ∷ []))
sorted-snoc m n [] r le h b e = (omega (arith, e), tt)
sorted-snoc m n (y ∷ ys) r le h b e = (h.0, sorted-snoc y.place n ys r (omega (arith, b.0)) h.1 b.1 e)

within-snoc : (n : ℕ) (rs : Records) (r : Record) → AllBelow n rs → r.place < n → AllBelow n (rs ++ (r ∷ []))
within-snoc n [] r h lt = (lt, tt)
within-snoc n (y ∷ ys) r h lt = (h.0, within-snoc n ys r h.1 lt)

within-more : (n : ℕ) (rs : Records) → AllBelow n rs → AllBelow (suc n) rs
within-more n [] h = tt
within-more n (y ∷ ys) h = (omega (arith, h.0), within-more n ys h.1)

sorted-admitted : (k : Journal) (p : ℕ) → last_place k ≡ p → (rs : Records) (xs : List (ℕ × Attempt)) → SortedTo (suc p) rs → SortedTo (suc p) (admitted k rs xs)
sorted-admitted k p e rs [] h = h
sorted-admitted k p e rs (x ∷ xs) h = sorted-admitted k p e (if lets_in_after (units k) (with_ends k rs) x.1.automation then rs ++ (new_record k rs x ∷ []) else rs) xs (by (lets_in_after (units k) (with_ends k rs) x.1.automation))
  where
    by : (b : Bool) → SortedTo (suc p) (if b then rs ++ (new_record k rs x ∷ []) else rs)
    by true = record { sorted = sorted-snoc 0 p rs (new_record k rs x) (omega arith) h.sorted h.within e; within = within-snoc (suc p) rs (new_record k rs x) h.within (omega (arith, e)) }
    by false = h

pub sorted-bare : (j : Journal) (n : ℕ) → n ≤ length j → SortedTo n (bare_below j n)
sorted-bare j zero le = record { sorted = tt; within = tt }
sorted-bare j (suc p) le =
    let before = sorted-bare j p (omega arith) in
    sorted-admitted (through j p) p (last-through j p le) (bare_below j p) (passing (through j p)) (record { sorted = before.sorted; within = within-more p (bare_below j p) before.within })

-- ---- ends

or-assoc : {X : Type 0} (a b c : Option X) → or_else (or_else a b) c ≡ or_else a (or_else b c)
or-assoc None b c = refl
or-assoc (Some x) b c = refl

-- an end of a record with its fields set is the bare record's
pub ends-told : (j : Journal) (r : Record) (e : Option (ℕ × EndCause)) (b : Option ℕ) (c : ℕ) (next : Option ℕ)
    → ((p : ℕ) → p < length j → last_is (is_step_of r.serial) (through j p) ≡ true → r.place < p)
    → (n : ℕ) → n ≤ length j → end_below j r next n ≡ first_below (cause_at j (record r { end = e; begin = b; calls = c }) next) n
ends-told j r e b c next late zero le = refl
ends-told j r e b c next late (suc p) le =
    (λ i. or_else (ends-told j r e b c next late p (omega arith) i) (here i))
  where
    k : Journal
    k = through j p

    place : last_place k ≡ p
    place = last-through j p le

    replaced_told : replaced k r next ≡ (if is_restart_mode (mode_of (units k) r.automation) && option_map_or (λ q. nat_eq q p) next false then Some EndCause.Replaced else None)
    replaced_told = (λ i. if is_restart_mode (mode_of (units k) r.automation) && option_map_or (λ q. nat_eq q (place i)) next false then Some EndCause.Replaced else None)

    own : (t : Bool) → nat_lt r.place p ≡ t → (s : Bool) → last_is (is_step_of r.serial) k ≡ s
        → (if t then or_else (if s then option_and_then (λ o. script_end o.status) (ran k r) else None) (outer_cause k r) else None)
        ≡ or_else (if s then option_and_then (λ o. script_end o.status) (ran k r) else None) (if t then outer_cause k r else None)
    own true e' s f = refl
    own false e' false f = refl
    own false e' true f = absurd (true-false (sym (is-below r.place p (late p le f)) ∙ e'))

    own_told : own_end k r ≡ or_else (ended_by_script k r) (if nat_lt r.place p then outer_cause k r else None)
    own_told = (λ i. if nat_lt r.place (place i) then own_cause k r else None) ∙ own (nat_lt r.place p) refl (last_is (is_step_of r.serial) k) refl

    here : end_here k r next ≡ option_map {T = EndCause} {U = ℕ × EndCause} (λ x. (p, x)) (cause_at j (record r { end = e; begin = b; calls = c }) next p)
    here =
        (λ i. option_map {T = EndCause} {U = ℕ × EndCause} (λ x. (place i, x)) (or_else (own_told i) (replaced_told i)))
        ∙ (λ i. option_map {T = EndCause} {U = ℕ × EndCause} (λ x. (p, x)) (or-assoc (ended_by_script k r) (if nat_lt r.place p then outer_cause k r else None)
        (if is_restart_mode (mode_of (units k) r.automation) && option_map_or (λ q. nat_eq q p) next false then Some EndCause.Replaced else None) i))

-- in an automation that is not of mode restart, an end at q is the entry's own
record OwnEnd (j : Journal) (r : Record) (n q : ℕ) (c : EndCause) : Type 0 where
  early : q < n
  cause : own_end (through j q) r ≡ Some c

own-of : (j : Journal) (r : Record) (n : ℕ) → n ≤ length j → is_restart_mode (mode_of (units j) r.automation) ≡ false → (q : ℕ) (c : EndCause) → end_below j r None n ≡ Some (q, c) → OwnEnd j r n q c
own-of j r zero le m q c h = absurd (none-some (q, c) h)
own-of j r (suc p) le m q c h = by (end_below j r None p) refl (own_end (through j p) r) refl (λ e. own-of j r p (omega arith) m q c e) (plain ∙ h)
  where
    plain : or_else (end_below j r None p) (at_place p (own_end (through j p) r)) ≡ end_below j r None (suc p)
    plain =
        let none : replaced (through j p) r None ≡ None
        = (λ i. if restart-front j p r.automation m i && false then Some EndCause.Replaced else None) in
        let or_none : or_else (own_end (through j p) r) None ≡ own_end (through j p) r = both (own_end (through j p) r) in
        (λ i. or_else (end_below j r None p) (at_place (sym (last-through j p le) i) (sym or_none i)))
        ∙ (λ i. or_else (end_below j r None p) (at_place (last_place (through j p)) (or_else (own_end (through j p) r) (sym none i))))
      where
        both : {X : Type 0} (a : Option X) → or_else a None ≡ a
        both None = refl
        both (Some x) = refl

    by : (e : Option (ℕ × EndCause)) → end_below j r None p ≡ e → (o : Option EndCause) → own_end (through j p) r ≡ o
        → (end_below j r None p ≡ Some (q, c) → OwnEnd j r p q c) → or_else e (at_place p o) ≡ Some (q, c) → OwnEnd j r (suc p) q c
    by (Some x) e o f ih h = (let one = ih (e ∙ h) in record { early = omega (arith, one.early); cause = one.cause })
    by None e None f ih h = absurd (none-some (q, c) h)
    by None e (Some c') f ih h =
        let same : (p, c') ≡ (q, c) = some-same (p, c') (q, c) h in
        record { early = omega (arith, ap (λ x. x.0) same); cause = (λ i. own_end (through j (sym (ap (λ x. x.0) same) i)) r) ∙ f ∙ (λ i. Some (same i).1) }

-- where its own entry ends it at q, it has ended by q
owns-end : (j : Journal) (r : Record) (q : ℕ) → q < length j → is_restart_mode (mode_of (units j) r.automation) ≡ false → (next : Option ℕ) (c : EndCause) → own_end (through j q) r ≡ Some c
    → option_map_or (λ e. nat_le e.0 q) (end_below j r next (length j)) false ≡ true
owns-end j r q lt m next c h =
    (λ i. option_map_or (λ e. nat_le e.0 q) (end-any-next j r next (length j) m i) false)
    ∙ ended-by j r None q (length j) lt (omega arith)
    ∙ (λ i. is_some (or_else (end_below j r None q) (at_place (last_place (through j q)) (or_else (h i) (replaced (through j q) r None)))))
    ∙ there (end_below j r None q)
  where
    there : (e : Option (ℕ × EndCause)) → is_some (or_else e (Some (last_place (through j q), c))) ≡ true
    there None = refl
    there (Some x) = refl

-- ---- what is known of the records before one

pub record Past (j : Journal) (m : ℕ) (x : Record) : Type 0 where
  pub place : x.place ≤ m
  pub ends : (q : ℕ) → q < length j → is_restart_mode (mode_of (units j) x.automation) ≡ false → (c : EndCause) → own_end (through j q) x ≡ Some c → has_ended_by q x ≡ true

abbrev pub AllPast : Journal → ℕ → Records → Type 0
AllPast j m [] = Unit {0}
AllPast j m (x ∷ xs) = Past j m x × AllPast j m xs

pub past-later : (j : Journal) (m n : ℕ) → m ≤ n → (xs : Records) → AllPast j m xs → AllPast j n xs
past-later j m n le [] h = tt
past-later j m n le (x ∷ xs) h = (record { place = omega (arith, h.0.place); ends = h.0.ends }, past-later j m n le xs h.1)

record PastOf (j : Journal) (m a : ℕ) (x : Record) : Type 0 where
  past : Past j m x
  automation : x.automation ≡ a

past-last : (j : Journal) (m a : ℕ) (xs : Records) (y : Record) → AllPast j m xs → last_record a xs ≡ Some y → PastOf j m a y
past-last j m a [] y h e = absurd (none-some y e)
past-last j m a (x ∷ xs) y h e = by (nat_eq x.automation a) refl (past-last j m a xs y h.1) e
  where
    by : (b : Bool) → nat_eq x.automation a ≡ b → (last_record a xs ≡ Some y → PastOf j m a y) → (if b then Some x else last_record a xs) ≡ Some y → PastOf j m a y
    by true f ih e = subst (PastOf j m a) (some-same x y e) (record { past = h.0; automation = eqb-true x.automation a f })
    by false f ih e = ih e

none-unended : (a p : ℕ) (xs : Records) → last_record a xs ≡ None → list_any (is_unended a p) xs ≡ false
none-unended a p [] h = refl
none-unended a p (x ∷ xs) h = by (nat_eq x.automation a) (none-unended a p xs) h
  where
    by : (b : Bool) → (last_record a xs ≡ None → list_any (is_unended a p) xs ≡ false) → (if b then Some x else last_record a xs) ≡ None → ((b && not (has_ended_by p x)) || list_any (is_unended a p) xs) ≡ false
    by true ih h = absurd (none-some x (sym h))
    by false ih h = ih h

last-unended : (a p : ℕ) (xs : Records) (y : Record) → last_record a xs ≡ Some y → has_ended_by p y ≡ false → list_any (is_unended a p) xs ≡ true
last-unended a p [] y h g = absurd (none-some y h)
last-unended a p (x ∷ xs) y h g = by (nat_eq x.automation a) (last-unended a p xs y) h
  where
    by : (b : Bool) → (last_record a xs ≡ Some y → has_ended_by p y ≡ false → list_any (is_unended a p) xs ≡ true) → (if b then Some x else last_record a xs) ≡ Some y
        → ((b && not (has_ended_by p x)) || list_any (is_unended a p) xs) ≡ true
    by true ih h = (λ i. not (((λ k. has_ended_by p (some-same x y h k)) ∙ g) i) || list_any (is_unended a p) xs)
    by false ih h = ih h g

-- the end of a record, if there is one
abbrev pub end_in : Option Record → Option (Option (ℕ × EndCause))
end_in o = option_map {T = Record} {U = Option (ℕ × EndCause)} (λ x. x.end) o

pub end-or-none : (o o' : Option Record) → end_in o ≡ end_in o' → option_map_or (λ x. x.end) o None ≡ option_map_or (λ x. x.end) o' None
end-or-none o o' h = back o ∙ (λ i. option_map_or (λ z. z) (h i) None) ∙ sym (back o')
  where
    back : (o : Option Record) → option_map_or (λ x. x.end) o None ≡ option_map_or (λ z. z) (end_in o) None
    back None = refl
    back (Some x) = refl

-- a begin looks at the end of the record before it alone
abbrev begin_by : Mode → ℕ → Option (ℕ × EndCause) → Option (Option (ℕ × EndCause)) → Option ℕ
begin_by Mode.Queued p own (Some z) = begin_behind p own z
begin_by Mode.Queued p own None = Some p
begin_by Mode.Single p own o = Some p
begin_by Mode.Restart p own o = Some p
begin_by Mode.Parallel p own o = Some p

begin-by : (m : Mode) (o : Option Record) (r : Record) → begin_of m o r ≡ begin_by m r.place r.end (end_in o)
begin-by Mode.Single o r = refl
begin-by Mode.Restart o r = refl
begin-by Mode.Parallel o r = refl
begin-by Mode.Queued None r = refl
begin-by Mode.Queued (Some x) r = refl

-- the invariants of a walk along the records: of those so far, the last one first, and of the same with their begins and calls, in order
pub record Carried (j : Journal) (m : ℕ) (back told : Records) : Type 0 where
  pub past : AllPast j m back
  pub unended : (a p : ℕ) → list_any (is_unended a p) told ≡ list_any (is_unended a p) back
  pub last : (a : ℕ) → end_in (last_among a told) ≡ end_in (last_record a back)
  pub queue : (a p : ℕ) (y : Record) → mode_of (units j) a ≡ Mode.Queued → last_record a back ≡ Some y → has_ended_by p y ≡ true → list_any (is_unended a p) back ≡ false

last-snoc : (a : ℕ) (xs : Records) (x : Record) → last_among a (xs ++ (x ∷ [])) ≡ or_else (if nat_eq x.automation a then Some x else None) (last_among a xs)
last-snoc a [] x = by (nat_eq x.automation a)
  where
    by : (b : Bool) → or_else None (if b then Some x else None) ≡ or_else (if b then Some x else None) None
    by true = refl
    by false = refl
last-snoc a (y ∷ ys) x = (λ i. or_else (last-snoc a ys x i) (if nat_eq y.automation a then Some y else None)) ∙ or-assoc (if nat_eq x.automation a then Some x else None) (last_among a ys) (if nat_eq y.automation a then Some y else None)

ended-later : (q p : ℕ) → q ≤ p → (o : Option (ℕ × EndCause)) → option_map_or (λ e. nat_le e.0 q) o false ≡ true → option_map_or (λ e. nat_le e.0 p) o false ≡ true
ended-later q p le None h = absurd (true-false (sym h))
ended-later q p le (Some e) h = is-at-most e.0 p (omega (arith, leb-true e.0 q h))

or-back : (a b : Bool) → (a || b) ≡ (b || a)
or-back true true = refl
or-back true false = refl
or-back false true = refl
or-back false false = refl

-- ---- one record

module _ (j : Journal) (r : Record) (next : Option ℕ) (back told : Records) where
  abbrev pub E : Option (ℕ × EndCause)
  E = end_below j r next (length j)

  abbrev pub e : Record
  e = record r { end = E }

  abbrev pub M : Mode
  M = mode_of (units j) r.automation

  abbrev pub B : Option ℕ
  B = begin_of M (last_record r.automation back) e

  abbrev pub f : Record
  f = record e { begin = B; calls = calls_of j r.serial }

  -- it makes its Steps after its begin
  abbrev pub RunsAt : Type 0
  RunsAt = (q : ℕ) → q < length j → last_is (is_step_of r.serial) (through j q) ≡ true → option_map_or (λ b. nat_lt b q) B false ≡ true

  pub late : RunsAt → (q : ℕ) → q < length j → last_is (is_step_of r.serial) (through j q) ≡ true → r.place < q
  late runs q lt step = begins-late M (last_record r.automation back) e q (runs q lt step)

  -- in mode queued: where it has ended, the one before it has ended too
  in-order : RunsAt → AllPast j r.place back → M ≡ Mode.Queued → (y : Record) → last_record r.automation back ≡ Some y → (p : ℕ) → has_ended_by p e ≡ true → has_ended_by p y ≡ true
  in-order runs past queued y previous p h = by E refl h
    where
      not_restart : is_restart_mode M ≡ false
      not_restart = (λ i. is_restart_mode (queued i))

      of_y : PastOf j r.place r.automation y
      of_y = past-last j r.place r.automation back y past previous

      y_not_restart : is_restart_mode (mode_of (units j) y.automation) ≡ false
      y_not_restart = (λ i. is_restart_mode (mode_of (units j) (of_y.automation i))) ∙ not_restart

      -- it began behind that one
      begun : (q : ℕ) (c : EndCause) → E ≡ Some (q, c) → option_map_or (λ b. nat_lt b q) B false ≡ true → has_ended_by q y ≡ true
      begun q c ended b = by_end y.end refl ((λ i. option_map_or (λ b. nat_lt b q) (begin_of (sym queued i) (sym previous i) e) false) ∙ b)
        where
          own : (z : ℕ × EndCause) → (t : Bool) → nat_le q z.0 ≡ t → option_map_or (λ b. nat_lt b q) (if t then None else Some z.0) false ≡ true → nat_le z.0 q ≡ true
          own z true g b = absurd (true-false (sym b))
          own z false g b = is-at-most z.0 q (omega (arith, below z.0 q b))

          split : (z : ℕ × EndCause) (t : Bool) → nat_le z.0 r.place ≡ t
              → option_map_or (λ b. nat_lt b q) (if t then Some r.place else if option_map_or (λ x. nat_le x.0 z.0) E false then None else Some z.0) false ≡ true → nat_le z.0 q ≡ true
          split z true g b = is-at-most z.0 q (omega (arith, leb-true z.0 r.place g, below r.place q b))
          split z false g b = own z (nat_le q z.0) refl ((λ i. option_map_or (λ b. nat_lt b q) (if option_map_or (λ x. nat_le x.0 z.0) (sym ended i) false then None else Some z.0) false) ∙ b)

          by_end : (o : Option (ℕ × EndCause)) → y.end ≡ o → option_map_or (λ b. nat_lt b q) (begin_behind r.place E o) false ≡ true → has_ended_by q y ≡ true
          by_end None g b = absurd (true-false (sym b))
          by_end (Some z) g b = (λ i. option_map_or (λ e. nat_le e.0 q) (g i) false) ∙ split z (nat_le z.0 r.place) refl b

      -- why it ended at q
      caused : (q : ℕ) (c : EndCause) → E ≡ Some (q, c) → q < length j → own_end (through j q) r ≡ Some c → has_ended_by q y ≡ true
      caused q c ended lt own = after (nat_lt r.place (last_place (through j q))) refl own
        where
          outer : (o : Option EndCause) → r.place < last_place (through j q) → outer_cause (through j q) r ≡ Some c → ended_by_script (through j q) y ≡ o → has_ended_by q y ≡ true
          outer None lt' g s = of_y.past.ends q lt y_not_restart c
              ((let t = is-below y.place (last_place (through j q)) (omega (arith, of_y.past.place)) in λ i. if t i then or_else (s i) (outer_cause (through j q) y) else None)
              ∙ (λ i. outer_cause (through j q) (record r { automation = of_y.automation i })) ∙ g)
          outer (Some c') lt' g s = of_y.past.ends q lt y_not_restart c'
              (let t = is-below y.place (last_place (through j q)) (omega (arith, of_y.past.place)) in λ i. if t i then or_else (s i) (outer_cause (through j q) y) else None)

          by_script : (s : Bool) → last_is (is_step_of r.serial) (through j q) ≡ s → r.place < last_place (through j q)
              → or_else (if s then option_and_then (λ o. script_end o.status) (ran (through j q) r) else None) (outer_cause (through j q) r) ≡ Some c → has_ended_by q y ≡ true
          by_script true g lt' h = begun q c ended (runs q lt g)
          by_script false g lt' h = outer (ended_by_script (through j q) y) lt' h refl

          after : (t : Bool) → nat_lt r.place (last_place (through j q)) ≡ t → (if t then own_cause (through j q) r else None) ≡ Some c → has_ended_by q y ≡ true
          after false g h = absurd (none-some c h)
          after true g h = by_script (last_is (is_step_of r.serial) (through j q)) refl (below r.place (last_place (through j q)) g) h

      by : (o : Option (ℕ × EndCause)) → E ≡ o → option_map_or (λ e. nat_le e.0 p) o false ≡ true → has_ended_by p y ≡ true
      by None g h = absurd (true-false (sym h))
      by (Some (q, c)) g h =
          let own : OwnEnd j r (length j) q c = own-of j r (length j) (omega arith) not_restart q c (sym (end-any-next j r next (length j) not_restart) ∙ g) in
          ended-later q p (leb-true q p h) y.end (caused q c g own.early own.cause)

  -- its begin
  pub begins : Carried j r.place back told → B ≡ told_begin M told f
  begins carried = by M refl
    where
      queued : M ≡ Mode.Queued → (o : Option Record) → last_record r.automation back ≡ o → begin_of Mode.Queued o e
          ≡ (if list_any (is_unended r.automation r.place) back then begins_behind E (option_map_or (λ x. x.end) o None) else Some r.place)
      queued m None h = (λ i. if sym (none-unended r.automation r.place back h) i then begins_behind E None else Some r.place)
      queued m (Some y) h = end_of y.end refl
        where
          split : (z : ℕ × EndCause) → y.end ≡ Some z → (t : Bool) → nat_le z.0 r.place ≡ t
              → (if t then Some r.place else if option_map_or (λ x. nat_le x.0 z.0) E false then None else Some z.0)
              ≡ (if list_any (is_unended r.automation r.place) back then begins_behind E (Some z) else Some r.place)
          split z g true u =
              let quiet = carried.queue r.automation r.place y m h ((λ i. option_map_or (λ e. nat_le e.0 r.place) (g i) false) ∙ u) in
              (λ i. if sym quiet i then begins_behind E (Some z) else Some r.place)
          split z g false u =
              let open' = last-unended r.automation r.place back y h ((λ i. option_map_or (λ e. nat_le e.0 r.place) (g i) false) ∙ u) in
              (λ i. if sym open' i then begins_behind E (Some z) else Some r.place)

          end_of : (o : Option (ℕ × EndCause)) → y.end ≡ o → begin_behind r.place E y.end ≡ (if list_any (is_unended r.automation r.place) back then begins_behind E y.end else Some r.place)
          end_of None g =
              let open' = last-unended r.automation r.place back y h (λ i. option_map_or (λ e. nat_le e.0 r.place) (g i) false) in
              (λ i. begin_behind r.place E (g i)) ∙ (λ i. if sym open' i then begins_behind E None else Some r.place)
              ∙ (λ i. if list_any (is_unended r.automation r.place) back then begins_behind E (sym g i) else Some r.place)
          end_of (Some z) g =
              (λ i. begin_behind r.place E (g i)) ∙ split z g (nat_le z.0 r.place) refl
              ∙ (λ i. if list_any (is_unended r.automation r.place) back then begins_behind E (sym g i) else Some r.place)

      by : (m : Mode) → M ≡ m → begin_of M (last_record r.automation back) e ≡ told_begin M told f
      by Mode.Single h = (λ i. begin_of (h i) (last_record r.automation back) e) ∙ (λ i. told_begin (sym h i) told f)
      by Mode.Restart h = (λ i. begin_of (h i) (last_record r.automation back) e) ∙ (λ i. told_begin (sym h i) told f)
      by Mode.Parallel h = (λ i. begin_of (h i) (last_record r.automation back) e) ∙ (λ i. told_begin (sym h i) told f)
      by Mode.Queued h =
          (λ i. begin_of (h i) (last_record r.automation back) e)
          ∙ queued h (last_record r.automation back) refl
          ∙ (let ends = end-or-none (last_record r.automation back) (last_among r.automation told) (sym (carried.last r.automation)) in λ i. if sym (carried.unended r.automation r.place) i then begins_behind E (ends i) else Some r.place)
          ∙ (λ i. told_begin (sym h i) told f)

  -- told by the one before it alone
  begins-near : Carried j r.place back told → B ≡ begin_of M (last_among r.automation told) f
  begins-near carried =
      begin-by M (last_record r.automation back) e ∙ (λ i. begin_by M r.place E (sym (carried.last r.automation) i)) ∙ sym (begin-by M (last_among r.automation told) f)

  -- the invariants with this record
  pub carry : RunsAt → Carried j r.place back told → Carried j r.place (e ∷ back) (told ++ (f ∷ []))
  carry runs carried = record {
    past = (record { place = omega arith; ends = λ q lt m c h. owns-end j r q lt m next c h }, carried.past);
    unended = λ a p. list_any-append (is_unended a p) told (f ∷ []) ∙ or-back (list_any (is_unended a p) told) (is_unended a p f || false) ∙ (λ i. or_false (is_unended a p f) i || carried.unended a p i);
    last = λ a. (λ i. end_in (last-snoc a told f i)) ∙ last_one a (nat_eq r.automation a);
    queue = λ a p y m h ended. queue a p y m (nat_eq r.automation a) refl h ended;
  }
    where
      or_false : (b : Bool) → (b || false) ≡ b
      or_false true = refl
      or_false false = refl

      last_one : (a : ℕ) (b : Bool) → end_in (or_else (if b then Some f else None) (last_among a told)) ≡ end_in (if b then Some e else last_record a back)
      last_one a true = refl
      last_one a false = carried.last a

      queue : (a p : ℕ) (y : Record) → mode_of (units j) a ≡ Mode.Queued → (b : Bool) → nat_eq r.automation a ≡ b → (if b then Some e else last_record a back) ≡ Some y → has_ended_by p y ≡ true
          → ((b && not (has_ended_by p e)) || list_any (is_unended a p) back) ≡ false
      queue a p y m false g h ended = carried.queue a p y m h ended
      queue a p y m true g h ended =
          let done : has_ended_by p e ≡ true = (λ i. has_ended_by p (some-same e y h i)) ∙ ended in
          let same : r.automation ≡ a = eqb-true r.automation a g in
          (λ i. not (done i) || list_any (is_unended a p) back) ∙ rest same done (last_record a back) refl
        where
          rest : r.automation ≡ a → has_ended_by p e ≡ true → (o : Option Record) → last_record a back ≡ o → list_any (is_unended a p) back ≡ false
          rest same done None g = none-unended a p back g
          rest same done (Some z) g =
              carried.queue a p z m g (in-order runs carried.past ((λ i. mode_of (units j) (same i)) ∙ m) z ((λ i. last_record (same i) back) ∙ g) p done)

-- ---- all records

next-begins : (j k : Journal) (a : ℕ) (before rs : Records) → next_place a (with_begins j before (with_ends k rs)) ≡ next_place a rs
next-begins j k a before [] = refl
next-begins j k a before (r ∷ rs) =
    (λ i. if nat_eq r.automation a then Some r.place else next-begins j k a (record r { end = end_below k r (next_place r.automation rs) (length k) } ∷ before) rs i)

pub get-middle : {X : Type 0} (xs : List X) (x : X) (ys : List X) → slice_get (xs ++ (x ∷ ys)) (length xs) ≡ Some x
get-middle [] x ys = refl
get-middle (z ∷ zs) x ys = get-middle zs x ys

told-from : (j : Journal) (right : Right j (records_of j)) (m : ℕ) (rs back told : Records) → SortedFrom m rs → Carried j m back told → records_of j ≡ told ++ with_begins j back (with_ends j rs)
    → AreTold j told (with_begins j back (with_ends j rs)) × AreNear j told (with_begins j back (with_ends j rs))
told-from j right m [] back told sorted carried whole = (tt, tt)
told-from j right m (r ∷ rs) back told sorted carried whole =
    let next = next_place r.automation rs in
    let one = e j r next back told in
    let made = f j r next back told in
    let index : slice_get (records_of j) (length told) ≡ Some made
    = (λ i. slice_get (whole i) (length told)) ∙ get-middle told made (with_begins j (one ∷ back) (with_ends j rs)) in
    let runs : RunsAt j r next back told = λ q lt step.
    and_left (option_map_or (λ b. nat_lt b q) (B j r next back told) false) (option_map_or (λ e. nat_le q e.0) (E j r next back told) true)
    (step-runs j (records_of j) (length told) q made right.entries lt index (serial-at j (length told) made index) step) in
    let here : Carried j r.place back told = record { past = past-later j m r.place sorted.0 back carried.past; unended = carried.unended; last = carried.last; queue = carried.queue } in
    let rest = told-from j right r.place rs (one ∷ back) (told ++ (made ∷ [])) sorted.1 (carry j r next back told runs here)
    (whole ∙ sym (append_assoc told (made ∷ []) (with_begins j (one ∷ back) (with_ends j rs)))) in (
      (
        record {
          begin = begins j r next back told here;
          end = ends-told j r (end_below j r next (length j)) made.begin made.calls next (late j r next back told runs) (length j) (omega arith)
              ∙ (λ i. first_below (cause_at j made (sym (next-begins j j r.automation (one ∷ back) rs) i)) (length j));
          calls = refl;
        },
        rest.0,
      ),
      (begins-near j r next back told here, rest.1),
    )

both-told : (j : Journal) → Right j (records_of j) → AreTold j [] (records_of j) × AreNear j [] (records_of j)
both-told j right =
    subst (λ l. AreTold j [] l × AreNear j [] l) (sym (records-passes j))
    (told-from j right 0 (bare j) [] [] (sorted-bare j (length j) (omega arith)).sorted
    (record { past = tt; unended = λ a p. refl; last = λ a. refl; queue = λ a p y m h. absurd (none-some y h) }) (records-passes j))

-- LAW: on a right journal the records are those of the rules
pub by-the-rules : (j : Journal) (rs : Records) → Right j rs → ByTheRules j rs
by-the-rules j rs right =
    subst (ByTheRules j) (sym right.records_are)
    (record { admitted = records-admitted j; told = (both-told j (subst (Right j) right.records_are right)).0 })

-- LAW: and each begin is told by the record just before
pub by-the-one-before : (j : Journal) (rs : Records) → Right j rs → AreNear j [] rs
by-the-one-before j rs right = subst (AreNear j []) (sym right.records_are) (both-told j (subst (Right j) right.records_are right)).1
