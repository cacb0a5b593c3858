-- The table after the calls and ends of an entry, where begins and calls are kept up at once, is the one where they are settled at the end.
use Rattle.std.proofs.Common.{◌≡◌, ℕ, zero, suc, ◌+◌, ◌<◌, ◌≤◌, List, [], ◌∷◌, map, Bool, true, false, refl, sym, ap, subst, ◌∙◌, rules, arith, Option}
use Rattle.std.specs.Prelude.{Some, None, slice_get, nat_eq, nat_lt, is_none, option_map, ◌&&◌, ◌||◌, if◌then◌else◌}
use Rattle.std.specs.Option.{option_map_or}
use Rattle.std.proofs.lemmas.Bool.{eqb-true}
use Rattle.ha_config.specs.declared.config.Mode.{Mode}
use Rattle.ha_config.specs.declared.config.Automation.{Automation}
use Rattle.ha_model.specs.declared.record.EndCause.{EndCause}
use Rattle.ha_model.specs.declared.record.Record.{Record}
use Rattle.ha_model.specs.Records.{Records, mode_of, last_record}
use Rattle.ha_config.specs.Words.{or_else}
use Rattle.ha_model.specs.RunSteps.{ends_for, begins_here}
use Rattle.ha_model.proofs.RecordGrowth.{EndBelow}
use Rattle.run_modes.specs.Table.{is_live, end_one, begin_kept, begins_at, begin_first, ended_at}
use Rattle.ha_laws.specs.Order.{InOrderBehind}
use Rattle.run_modes.specs.Fits.{AreNumbered}
use Rattle.run_laws.proofs.OldLaws.{BeginBelow, BegunIn, OldOne, AllOld}

not-equal : (a b : ℕ) → a < b → nat_eq a b ≡ false
not-equal a b lt = search rules

not-above : (a b : ℕ) → b < a → nat_eq a b ≡ false
not-above a b lt = search rules

is-below : (a b : ℕ) → a < b → nat_lt a b ≡ true
is-below a b lt = search rules

equal-self : (a : ℕ) → nat_eq a a ≡ true
equal-self a = search rules

or-none : {X : Type 0} (a : Option X) → or_else a None ≡ a
or-none None = refl
or-none (Some x) = refl

and-false : (b : Bool) → (b && false) ≡ false
and-false true = refl
and-false false = refl

-- the record before ends here
abbrev pub is_here : ℕ → Option Record → Bool
is_here p None = false
is_here p (Some x) = option_map_or (λ e. nat_eq e.0 p) x.end false

-- a record that has an end begins nowhere anew
ended-begins-not : (p : ℕ) (m : Mode) (previous : Option Record) (x : ℕ × EndCause) → begins_here p m previous (Some x) ≡ None
ended-begins-not p Mode.Single previous x = refl
ended-begins-not p Mode.Restart previous x = refl
ended-begins-not p Mode.Parallel previous x = refl
ended-begins-not p Mode.Queued None x = refl
ended-begins-not p Mode.Queued (Some y) x = (λ i. if and-false (option_map_or (λ e. nat_eq e.0 p) y.end false) i then Some p else None)

-- nor one behind a record that does not end here
quiet-begins-not : (p : ℕ) (m : Mode) (previous : Option Record) (own : Option (ℕ × EndCause)) → (m ≡ Mode.Queued → is_here p previous ≡ false) → begins_here p m previous own ≡ None
quiet-begins-not p Mode.Single previous own h = refl
quiet-begins-not p Mode.Restart previous own h = refl
quiet-begins-not p Mode.Parallel previous own h = refl
quiet-begins-not p Mode.Queued None own h = refl
quiet-begins-not p Mode.Queued (Some y) own h = (λ i. if h refl i && is_none own then Some p else None)

-- a begin before this place is kept
begin-kept : (all : List Automation) (p : ℕ) (r : Record) → OldOne all p r → begin_kept p r ≡ r.begin
begin-kept all p r old = by r.begin refl old.begin
  where
    by : (b : Option ℕ) → r.begin ≡ b → BeginBelow p b → begin_kept p r ≡ r.begin
    by None g h = (λ i. if nat_lt r.place p && option_map_or (λ b. nat_eq b p) (g i) false then None else r.begin) ∙ (λ i. if and-false (nat_lt r.place p) i then None else r.begin)
    by (Some b) g h =
        (λ i. if nat_lt r.place p && option_map_or (λ b. nat_eq b p) (g i) false then None else r.begin)
        ∙ (λ i. if nat_lt r.place p && not-equal b p h i then None else r.begin)
        ∙ (λ i. if and-false (nat_lt r.place p) i then None else r.begin)

-- and one at this place, that another's end gave, is not
begin-lost : (all : List Automation) (p : ℕ) (r : Record) → OldOne all p r → begin_kept p (begins_at p r) ≡ r.begin
begin-lost all p r old = by r.begin refl old.begin
  where
    by : (b : Option ℕ) → r.begin ≡ b → BeginBelow p b → (if nat_lt r.place p && option_map_or (λ b. nat_eq b p) (or_else r.begin (Some p)) false then None else or_else r.begin (Some p)) ≡ r.begin
    by None g h =
        (λ i. if is-below r.place p old.place i && option_map_or (λ b. nat_eq b p) (or_else (g i) (Some p)) false then None else or_else (g i) (Some p))
        ∙ (λ i. if true && equal-self p i then None else Some p) ∙ sym g
    by (Some b) g h =
        (λ i. if nat_lt r.place p && option_map_or (λ b. nat_eq b p) (or_else (g i) (Some p)) false then None else or_else (g i) (Some p))
        ∙ (λ i. if nat_lt r.place p && not-equal b p h i then None else Some b)
        ∙ (λ i. if and-false (nat_lt r.place p) i then None else Some b) ∙ sym g

abbrev made : Record → Option ℕ → Option (ℕ × EndCause) → Record
made r b e = record r { begin = b; end = e }

-- what a stop for this cause makes of a record
abbrev pub stop_by : ℕ → Option EndCause → Record → Record
stop_by p None r = r
stop_by p (Some c) r = end_one true p c r

module _ (all : List Automation) (p s : ℕ) (cause : Option EndCause) (stop : ℕ → Option EndCause) where
  abbrev pub own : Record → Option EndCause
  own r = if nat_eq r.serial s then cause else None

  abbrev pub ending : Record → Option EndCause
  ending r = or_else (own r) (stop r.automation)

  abbrev ended_for : Record → Record
  ended_for r = ends_for p (ending r) r

  -- with the begin that the one before it, and its own end, give it here
  abbrev pub begun_behind : Records → Record → Record
  begun_behind back r = record r { begin = or_else r.begin (begins_here p (mode_of all r.automation) (last_record r.automation back) r.end) }

  abbrev pub lazy : Records → Records → Records
  lazy back [] = []
  lazy back (r ∷ rs) = begun_behind back (ended_for r) ∷ lazy (begun_behind back (ended_for r) ∷ back) rs

  -- what the stops make of a record
  abbrev pub stopper : Record → Record
  stopper r = if is_none r.end then stop_by p (stop r.automation) r else r

  -- the record before one of an automation of mode queued, that is not stopped, does not end here
  abbrev pub Quiet : Records → Type 0
  Quiet back = (a : ℕ) → stop a ≡ None → mode_of all a ≡ Mode.Queued → is_here p (last_record a back) ≡ false

  -- ---- a record whose own run does not end here

  plain-one : (back : Records) (r : Record) → own r ≡ None → OldOne all p r → (stop r.automation ≡ None → mode_of all r.automation ≡ Mode.Queued → is_here p (last_record r.automation back) ≡ false)
      → begun_behind back (ended_for r) ≡ stopper r
  plain-one back r bare old quiet = by r.end refl (stop r.automation) refl
    where
      by : (e : Option (ℕ × EndCause)) → r.end ≡ e → (c : Option EndCause) → stop r.automation ≡ c → begun_behind back (ended_for r) ≡ stopper r
      by (Some x) g c h =
          (λ i. made r (or_else r.begin (begins_here p (mode_of all r.automation) (last_record r.automation back) (or_else (g i) (option_map {T = EndCause} (λ c. (p, c)) (ending r))))) (or_else (g i) (option_map {T = EndCause} (λ c. (p, c)) (ending r))))
          ∙ (λ i. made r (or_else r.begin (ended-begins-not p (mode_of all r.automation) (last_record r.automation back) x i)) (Some x))
          ∙ (λ i. made r (or-none r.begin i) (sym g i))
          ∙ (λ i. if is_none (sym g i) then stop_by p (stop r.automation) r else r)
      by None g None h =
          (λ i. made r (or_else r.begin (begins_here p (mode_of all r.automation) (last_record r.automation back) (or_else (g i) (option_map {T = EndCause} (λ c. (p, c)) (or_else (bare i) (h i)))))) (or_else (g i) (option_map {T = EndCause} (λ c. (p, c)) (or_else (bare i) (h i)))))
          ∙ (λ i. made r (or_else r.begin (quiet-begins-not p (mode_of all r.automation) (last_record r.automation back) None (quiet h) i)) None)
          ∙ (λ i. made r (or-none r.begin i) (sym g i))
          ∙ (λ i. if is_none (sym g i) then stop_by p (sym h i) r else r)
      by None g (Some c) h =
          (λ i. made r (or_else r.begin (begins_here p (mode_of all r.automation) (last_record r.automation back) (or_else (g i) (option_map {T = EndCause} (λ c. (p, c)) (or_else (bare i) (h i)))))) (or_else (g i) (option_map {T = EndCause} (λ c. (p, c)) (or_else (bare i) (h i)))))
          ∙ (λ i. made r (or_else r.begin (ended-begins-not p (mode_of all r.automation) (last_record r.automation back) (p, c) i)) (Some (p, c)))
          ∙ (λ i. made r ((or-none r.begin ∙ sym (begin-kept all p r old)) i) (Some (p, c)))
          ∙ (λ i. if is_none (sym g i) then stop_by p (sym h i) r else r)

  -- behind it all is as quiet
  not-here : (r : Record) → OldOne all p r → stop r.automation ≡ None → is_here p (Some (stopper r)) ≡ false
  not-here r old h = by r.end refl old.end
    where
      by : (e : Option (ℕ × EndCause)) → r.end ≡ e → EndBelow p e → is_here p (Some (if is_none r.end then stop_by p (stop r.automation) r else r)) ≡ false
      by None g b = (λ i. is_here p (Some (if is_none (g i) then stop_by p (h i) r else r))) ∙ (λ i. option_map_or (λ e. nat_eq e.0 p) (g i) false)
      by (Some x) g b = (λ i. is_here p (Some (if is_none (g i) then stop_by p (stop r.automation) r else r))) ∙ (λ i. option_map_or (λ e. nat_eq e.0 p) (g i) false) ∙ not-equal x.0 p b

  stopped-automation : (r : Record) → (stopper r).automation ≡ r.automation
  stopped-automation r = by (is_none r.end) (stop r.automation)
    where
      by : (b : Bool) (c : Option EndCause) → (if b then stop_by p c r else r).automation ≡ r.automation
      by true None = refl
      by true (Some c) = refl
      by false c = refl

  quiet-more : (back : Records) (r : Record) → OldOne all p r → Quiet back → Quiet (stopper r ∷ back)
  quiet-more back r old quiet a h m = by (nat_eq r.automation a) refl
    where
      by : (b : Bool) → nat_eq r.automation a ≡ b → is_here p (if nat_eq (stopper r).automation a then Some (stopper r) else last_record a back) ≡ false
      by true e =
          (λ i. is_here p (if ((λ i. nat_eq (stopped-automation r i) a) ∙ e) i then Some (stopper r) else last_record a back))
          ∙ not-here r old (ap stop (eqb-true r.automation a e) ∙ h)
      by false e = (λ i. is_here p (if ((λ i. nat_eq (stopped-automation r i) a) ∙ e) i then Some (stopper r) else last_record a back)) ∙ quiet a h m

  abbrev pub NoOwn : Records → Type 0
  NoOwn [] = Unit {0}
  NoOwn (r ∷ rs) = (own r ≡ None) × NoOwn rs

  -- LEMMA: where no run of these ends by itself, settling is stopping
  pub plain : (back rs : Records) → NoOwn rs → AllOld all p rs → Quiet back → lazy back rs ≡ map {A = Record} {B = Record} stopper rs
  plain back [] bare old quiet = refl
  plain back (r ∷ rs) bare old quiet =
      let one = plain-one back r bare.0 old.0 (quiet r.automation) in
      (λ i. one i ∷ lazy (one i ∷ back) rs) ∙ ap (λ t. stopper r ∷ t) (plain (stopper r ∷ back) rs bare.1 old.1 (quiet-more back r old.0 quiet))

  -- ---- the run that ends, and those behind it

  -- no record is numbered s behind here
  abbrev NotNumbered : Records → Type 0
  NotNumbered [] = Unit {0}
  NotNumbered (r ∷ rs) = (nat_eq r.serial s ≡ false) × NotNumbered rs

  numbered-past : (n : ℕ) (rs : Records) → AreNumbered n rs → s ≤ n → NotNumbered rs
  numbered-past n [] h le = tt
  numbered-past n (r ∷ rs) h le = (not-above r.serial s (omega (arith, h.0)), numbered-past (suc n) rs h.1 (omega arith))

  no-own : (rs : Records) → NotNumbered rs → NoOwn rs
  no-own [] h = tt
  no-own (r ∷ rs) h = ((λ i. if h.0 i then cause else None), no-own rs h.1)

  -- where all have begun, none begins
  begun-first : (a : ℕ) (m : Mode) → mode_of all a ≡ m → (m ≡ Mode.Queued → ⊥) → (rs : Records) → AllOld all p rs → begin_first a p rs ≡ rs
  begun-first a m e not_queued [] old = refl
  begun-first a m e not_queued (r ∷ rs) old = by (nat_eq r.automation a) refl (is_none r.end) (begun-first a m e not_queued rs old.1)
    where
      one : (m : Mode) → (m ≡ Mode.Queued → ⊥) → (b : Option ℕ) → BegunIn m b → or_else b (Some p) ≡ b
      one Mode.Queued q b h = absurd (q refl)
      one Mode.Single q None h = absurd h
      one Mode.Single q (Some b) h = refl
      one Mode.Restart q None h = absurd h
      one Mode.Restart q (Some b) h = refl
      one Mode.Parallel q None h = absurd h
      one Mode.Parallel q (Some b) h = refl

      by : (b : Bool) → nat_eq r.automation a ≡ b → (c : Bool) → begin_first a p rs ≡ rs → (if b && c then begins_at p r ∷ rs else r ∷ begin_first a p rs) ≡ r ∷ rs
      by true f true ih =
          (λ i. record r { begin = one m not_queued r.begin (subst (λ m. BegunIn m r.begin) (ap (mode_of all) (eqb-true r.automation a f) ∙ e) old.0.begun) i } ∷ rs)
      by true f false ih = ap (λ t. r ∷ t) ih
      by false f c ih = ap (λ t. r ∷ t) ih

  -- the record behind the one that ended, in mode queued: it begins, or a stop ends it too
  next-one : (back : Records) (r : Record) → own r ≡ None → OldOne all p r → r.end ≡ None → mode_of all r.automation ≡ Mode.Queued → is_here p (last_record r.automation back) ≡ true
      → begun_behind back (ended_for r) ≡ stopper (begins_at p r)
  next-one back r bare old live queued here = by (stop r.automation) refl
    where
      starts : (o : Option Record) → is_here p o ≡ true → begins_here p Mode.Queued o None ≡ Some p
      starts None e = cc
      starts (Some y) e = (λ i. if e i && true then Some p else None)

      by : (c : Option EndCause) → stop r.automation ≡ c → begun_behind back (ended_for r) ≡ stopper (begins_at p r)
      by None h =
          (λ i. made r (or_else r.begin (begins_here p (queued i) (last_record r.automation back) (or_else (live i) (option_map {T = EndCause} (λ c. (p, c)) (or_else (bare i) (h i)))))) (or_else (live i) (option_map {T = EndCause} (λ c. (p, c)) (or_else (bare i) (h i)))))
          ∙ (λ i. made r (or_else r.begin (starts (last_record r.automation back) here i)) (sym live i))
          ∙ (λ i. if is_none (sym live i) then stop_by p (sym h i) (begins_at p r) else begins_at p r)
      by (Some c) h =
          (λ i. made r (or_else r.begin (begins_here p (mode_of all r.automation) (last_record r.automation back) (or_else (live i) (option_map {T = EndCause} (λ c. (p, c)) (or_else (bare i) (h i)))))) (or_else (live i) (option_map {T = EndCause} (λ c. (p, c)) (or_else (bare i) (h i)))))
          ∙ (λ i. made r (or_else r.begin (ended-begins-not p (mode_of all r.automation) (last_record r.automation back) (p, c) i)) (Some (p, c)))
          ∙ (λ i. made r ((or-none r.begin ∙ sym (begin-lost all p r old)) i) (Some (p, c)))
          ∙ (λ i. if is_none (sym live i) then stop_by p (sym h i) (begins_at p r) else begins_at p r)

  -- behind it all is quiet
  next-not-here : (r : Record) → r.end ≡ None → stop r.automation ≡ None → is_here p (Some (stopper (begins_at p r))) ≡ false
  next-not-here r live h = (λ i. is_here p (Some (if is_none (live i) then stop_by p (h i) (begins_at p r) else begins_at p r))) ∙ (λ i. option_map_or (λ e. nat_eq e.0 p) (live i) false)

  begun-automation : (r : Record) → (stopper (begins_at p r)).automation ≡ r.automation
  begun-automation r = stopped-automation (begins_at p r)

  -- quiet but for one automation, of which the last one ended here
  abbrev QuietBut : ℕ → Records → Type 0
  QuietBut q back = (a : ℕ) → nat_eq q a ≡ false → stop a ≡ None → mode_of all a ≡ Mode.Queued → is_here p (last_record a back) ≡ false

  other-more : (q : ℕ) (back : Records) (r r' : Record) → r'.automation ≡ r.automation → (nat_eq q r.automation ≡ false → stop r.automation ≡ None → is_here p (Some r') ≡ false) → QuietBut q back → QuietBut q (r' ∷ back)
  other-more q back r r' same here quiet a other h m = by (nat_eq r.automation a) refl
    where
      by : (b : Bool) → nat_eq r.automation a ≡ b → is_here p (if nat_eq r'.automation a then Some r' else last_record a back) ≡ false
      by true e =
          (λ i. is_here p (if ((λ i. nat_eq (same i) a) ∙ e) i then Some r' else last_record a back))
          ∙ here ((λ i. nat_eq q (eqb-true r.automation a e i)) ∙ other) (ap stop (eqb-true r.automation a e) ∙ h)
      by false e = (λ i. is_here p (if ((λ i. nat_eq (same i) a) ∙ e) i then Some r' else last_record a back)) ∙ quiet a other h m

  -- behind the run that ended, in an automation of mode queued
  behind : (q : ℕ) (live : ℕ → Bool) (back rs : Records) → mode_of all q ≡ Mode.Queued → live q ≡ true → NotNumbered rs → AllOld all p rs → InOrderBehind all live rs → QuietBut q back
      → is_here p (last_record q back) ≡ true → lazy back rs ≡ map {A = Record} {B = Record} stopper (begin_first q p rs)
  behind q live back [] queued alive bare old order quiet here = refl
  behind q live back (r ∷ rs) queued alive bare old order quiet here =
      by (λ alive' quiet' here'. behind q (λ a. is_live a r || live a) (stopper r ∷ back) rs queued alive' bare.1 old.1 order.1 quiet' here') (nat_eq r.automation q) refl
    where
      own_none : own r ≡ None
      own_none = (λ i. if bare.0 i then cause else None)

      back-other : (b : Bool) → nat_eq r.automation q ≡ b → nat_eq q r.automation ≡ b
      back-other true e = search (rules, e)
      back-other false e = search (rules, e)

      by : ((is_live q r || live q) ≡ true → QuietBut q (stopper r ∷ back) → is_here p (last_record q (stopper r ∷ back)) ≡ true → lazy (stopper r ∷ back) rs ≡ map {A = Record} {B = Record} stopper (begin_first q p rs))
          → (b : Bool) → nat_eq r.automation q ≡ b → lazy back (r ∷ rs) ≡ map {A = Record} {B = Record} stopper (if nat_eq r.automation q && is_none r.end then begins_at p r ∷ rs else r ∷ begin_first q p rs)
      by ih true e =
          let same = eqb-true r.automation q e in
          let mode : mode_of all r.automation ≡ Mode.Queued = ap (mode_of all) same ∙ queued in
          let none : r.end ≡ None = order.0 mode (ap live same ∙ alive) in
          let one = next-one back r own_none old.0 none mode ((λ i. is_here p (last_record (same i) back)) ∙ here) in
          let quiet' : Quiet (stopper (begins_at p r) ∷ back) = λ a h m. now a h m (nat_eq r.automation a) refl none in
          (λ i. one i ∷ lazy (one i ∷ back) rs)
          ∙ ap (λ t. stopper (begins_at p r) ∷ t) (plain (stopper (begins_at p r) ∷ back) rs (no-own rs bare.1) old.1 quiet')
          ∙ (λ i. map {A = Record} {B = Record} stopper (if sym e i && is_none (sym none i) then begins_at p r ∷ rs else r ∷ begin_first q p rs))
        where
          now : (a : ℕ) → stop a ≡ None → mode_of all a ≡ Mode.Queued → (b : Bool) → nat_eq r.automation a ≡ b → r.end ≡ None
              → is_here p (if nat_eq (stopper (begins_at p r)).automation a then Some (stopper (begins_at p r)) else last_record a back) ≡ false
          now a h m true f none =
              (λ i. is_here p (if ((λ i. nat_eq (begun-automation r i) a) ∙ f) i then Some (stopper (begins_at p r)) else last_record a back))
              ∙ next-not-here r none (ap stop (eqb-true r.automation a f) ∙ h)
          now a h m false f none =
              (λ i. is_here p (if ((λ i. nat_eq (begun-automation r i) a) ∙ f) i then Some (stopper (begins_at p r)) else last_record a back))
              ∙ quiet a ((λ i. nat_eq (sym (eqb-true r.automation q e) i) a) ∙ f) h m
      by ih false e =
          let one = plain-one back r own_none old.0 (quiet r.automation (back-other false e)) in
          let still : last_record q (stopper r ∷ back) ≡ last_record q back = (λ i. if ((λ i. nat_eq (stopped-automation r i) q) ∙ e) i then Some (stopper r) else last_record q back) in
          let alive' : (is_live q r || live q) ≡ true = (λ i. (e i && is_none r.end) || live q) ∙ alive in
          let rest = ih alive' (other-more q back r (stopper r) (stopped-automation r) (λ o h. not-here r old.0 h) quiet) (ap (is_here p) still ∙ here) in
          (λ i. one i ∷ lazy (one i ∷ back) rs) ∙ ap (λ t. stopper r ∷ t) rest
          ∙ (λ i. map {A = Record} {B = Record} stopper (if sym e i && is_none r.end then begins_at p r ∷ rs else r ∷ begin_first q p rs))

  -- LEMMA: the run with this serial ends by itself, the next one of its automation begins, and then the stops come
  pub ends-at : (c : EndCause) → cause ≡ Some c → (live : ℕ → Bool) (back rs : Records) (n i : ℕ) (r : Record) → AreNumbered n rs → slice_get rs i ≡ Some r → s ≡ suc (n + i) → r.end ≡ None
      → AllOld all p rs → InOrderBehind all live rs → Quiet back → lazy back rs ≡ map {A = Record} {B = Record} stopper (ended_at s p c rs)
  ends-at c is live back [] n i r numbered found at alive old order quiet = cc
  ends-at c is live back (y ∷ ys) n zero r numbered found at alive old order quiet =
      let same : y ≡ r = cc in
      let serial : nat_eq y.serial s ≡ true = equal y.serial s (omega (arith, numbered.0, at)) in
      let none : y.end ≡ None = ap (λ z. z.end) same ∙ alive in
      let ended : Record = record y { end = Some (p, c) } in
      let one : begun_behind back (ended_for y) ≡ ended
      = (λ i. made y (or_else y.begin (begins_here p (mode_of all y.automation) (last_record y.automation back) (or_else (none i) (option_map {T = EndCause} (λ c. (p, c)) (or_else (if serial i then is i else None) (stop y.automation))))))
      (or_else (none i) (option_map {T = EndCause} (λ c. (p, c)) (or_else (if serial i then is i else None) (stop y.automation)))))
      ∙ (λ i. made y (or_else y.begin (ended-begins-not p (mode_of all y.automation) (last_record y.automation back) (p, c) i)) (Some (p, c)))
      ∙ (λ i. made y (or-none y.begin i) (Some (p, c))) in
      let left = past (suc n) ys numbered.1 (omega (arith, at)) in
      (λ i. one i ∷ lazy (one i ∷ back) ys)
      ∙ ap (λ t. ended ∷ t) (by none left (mode_of all y.automation) refl)
      ∙ (λ i. map {A = Record} {B = Record} stopper (if sym serial i then record y { end = Some (p, c) } ∷ begin_first y.automation p ys else y ∷ ended_at s p c ys))
    where
      equal : (a b : ℕ) → a ≡ b → nat_eq a b ≡ true
      equal a b e = search (rules, e)

      past : (n : ℕ) (rs : Records) → AreNumbered n rs → s ≤ n → NotNumbered rs
      past n rs h le = numbered-past n rs h le

      here : is_here p (if nat_eq y.automation y.automation then Some (record y { end = Some (p, c) }) else last_record y.automation back) ≡ true
      here = (λ i. is_here p (if equal-self y.automation i then Some (record y { end = Some (p, c) }) else last_record y.automation back)) ∙ equal-self p

      but : QuietBut y.automation (record y { end = Some (p, c) } ∷ back)
      but = λ a other h m. (λ i. is_here p (if other i then Some (record y { end = Some (p, c) }) else last_record a back)) ∙ quiet a h m

      others : NotNumbered ys → (m : Mode) → mode_of all y.automation ≡ m → (m ≡ Mode.Queued → ⊥) → lazy (record y { end = Some (p, c) } ∷ back) ys ≡ map {A = Record} {B = Record} stopper (begin_first y.automation p ys)
      others left m e not_queued =
          plain (record y { end = Some (p, c) } ∷ back) ys (no-own ys left) old.1 (λ a h q. elsewhere a h q (nat_eq y.automation a) refl)
          ∙ ap (map {A = Record} {B = Record} stopper) (sym (begun-first y.automation m e not_queued ys old.1))
        where
          elsewhere : (a : ℕ) → stop a ≡ None → mode_of all a ≡ Mode.Queued → (b : Bool) → nat_eq y.automation a ≡ b → is_here p (if nat_eq y.automation a then Some (record y { end = Some (p, c) }) else last_record a back) ≡ false
          elsewhere a h q true f = absurd (not_queued (sym e ∙ ap (mode_of all) (eqb-true y.automation a f) ∙ q))
          elsewhere a h q false f = (λ i. is_here p (if f i then Some (record y { end = Some (p, c) }) else last_record a back)) ∙ quiet a h q

      by : y.end ≡ None → NotNumbered ys → (m : Mode) → mode_of all y.automation ≡ m → lazy (record y { end = Some (p, c) } ∷ back) ys ≡ map {A = Record} {B = Record} stopper (begin_first y.automation p ys)
      by none left Mode.Queued e =
          let alive' : (is_live y.automation y || live y.automation) ≡ true = (λ i. (equal-self y.automation i && is_none (none i)) || live y.automation) in
          behind y.automation (λ a. is_live a y || live a) (record y { end = Some (p, c) } ∷ back) ys e alive' left old.1 order.1 but here
      by none left Mode.Single e = others left Mode.Single e (λ h. cc)
      by none left Mode.Restart e = others left Mode.Restart e (λ h. cc)
      by none left Mode.Parallel e = others left Mode.Parallel e (λ h. cc)
  ends-at c is live back (y ∷ ys) n (suc i) r numbered found at alive old order quiet =
      let serial : nat_eq y.serial s ≡ false = not-equal y.serial s (omega (arith, numbered.0, at)) in
      let one = plain-one back y (λ k. if serial k then cause else None) old.0 (quiet y.automation) in
      let rest = ends-at c is (λ a. is_live a y || live a) (stopper y ∷ back) ys (suc n) i r numbered.1 found (omega (arith, at)) alive old.1 order.1 (quiet-more back y old.0 quiet) in
      (λ k. one k ∷ lazy (one k ∷ back) ys) ∙ ap (λ t. stopper y ∷ t) rest
      ∙ (λ k. map {A = Record} {B = Record} stopper (if sym serial k then record y { end = Some (p, c) } ∷ begin_first y.automation p ys else y ∷ ended_at s p c ys))
