-- The attempts of an entry in turn: where begins are kept up at once, the table is the one where they are settled at the end.
use Rattle.std.proofs.Common.{◌≡◌, ℕ, suc, ◌+◌, ◌<◌, List, [], ◌∷◌, ◌++◌, length, Bool, true, false, cond, refl, sym, ap, subst, ◌∙◌, rules, arith, Option, length-append}
use Rattle.std.specs.Prelude.{Some, None, not, nat_eq, is_none, fold, option_map, ◌&&◌, ◌||◌, if◌then◌else◌}
use Rattle.std.specs.Option.{option_map_or}
use Rattle.std.proofs.lemmas.Bool.{eqb-true}
use Rattle.ha_config.specs.declared.config.Mode.{Mode}
use Rattle.ha_config.specs.declared.config.Automation.{Automation}
use Rattle.ha_model.specs.declared.record.EndCause.{EndCause}
use Rattle.ha_model.specs.declared.record.Record.{Record}
use Rattle.ha_journal.specs.Journal.{Journal, last_place, units}
use Rattle.ha_journal.specs.Attempts.{Attempt}
use Rattle.ha_model.specs.Records.{Records, mode_of, max_of, last_record, begin_of, begin_behind, is_restart_mode, calls_of, lets_in, lets_in_after, live_count, new_record}
use Rattle.ha_config.specs.Names.{name_of}
use Rattle.ha_config.specs.Words.{or_else, same}
use Rattle.ha_model.specs.RunSteps.{ends_for, replace_all, begins_here, begin_at, settled, joined, attempt_all}
use Rattle.ha_model.proofs.RecordGrowth.{EndBelow, is-at-most}
use Rattle.run_modes.specs.Table.{is_live, begin_now, new_run}
use Rattle.ha_laws.specs.Order.{InOrderBehind, InOrder}
use Rattle.run_modes.specs.Calls.{all_tried, run_number, tried}
use Rattle.run_laws.proofs.CallLaws.{LastAlike}

equal-self : (a : ℕ) → nat_eq a a ≡ true
equal-self a = search rules

abbrev IsRestart : Mode → Type 0
IsRestart Mode.Restart = Unit {0}
IsRestart _ = ⊥

abbrev IsQueued : Mode → Type 0
IsQueued Mode.Queued = Unit {0}
IsQueued _ = ⊥

-- an automation has one mode
apart : (all : List Automation) (a b : ℕ) → mode_of all a ≡ Mode.Restart → mode_of all b ≡ Mode.Queued → nat_eq b a ≡ false
apart all a b r q = by (nat_eq b a) refl
  where
    by : (c : Bool) → nat_eq b a ≡ c → c ≡ false
    by true e = (let f : Mode.Restart ≡ Mode.Queued = sym r ∙ ap (mode_of all) (sym (eqb-true b a e)) ∙ q in absurd (subst IsRestart f tt))
    by false e = refl

-- the records so far, the last one first
abbrev pub pushed : Records → Records → Records
pushed [] back = back
pushed (r ∷ rs) back = pushed rs (r ∷ back)

abbrev pub EndsBelow : ℕ → Records → Type 0
EndsBelow n [] = Unit {0}
EndsBelow n (r ∷ rs) = EndBelow n r.end × EndsBelow n rs

abbrev LastBelow : ℕ → Option Record → Type 0
LastBelow n None = Unit {0}
LastBelow n (Some x) = EndBelow n x.end

last-below : (n a : ℕ) (rs : Records) → EndsBelow n rs → LastBelow n (last_record a rs)
last-below n a [] h = tt
last-below n a (r ∷ rs) h = by (nat_eq r.automation a) (last-below n a rs h.1)
  where
    by : (b : Bool) → LastBelow n (last_record a rs) → LastBelow n (if b then Some r else last_record a rs)
    by true g = h.0
    by false g = g

pushed-below : (n : ℕ) (rs back : Records) → EndsBelow n rs → EndsBelow n back → EndsBelow n (pushed rs back)
pushed-below n [] back h g = g
pushed-below n (r ∷ rs) back h g = pushed-below n rs (r ∷ back) h.1 (h.0, g)

below-snoc : (n : ℕ) (rs : Records) (r : Record) → EndsBelow n rs → EndBelow n r.end → EndsBelow n (rs ++ (r ∷ []))
below-snoc n [] r h g = (g, tt)
below-snoc n (y ∷ ys) r h g = (h.0, below-snoc n ys r h.1 g)

below-replaced : (p a : ℕ) (rs : Records) → EndsBelow (suc p) rs → EndsBelow (suc p) (replace_all a p rs)
below-replaced p a [] h = tt
below-replaced p a (r ∷ rs) h = (one r.end (nat_eq r.automation a) h.0, below-replaced p a rs h.1)
  where
    one : (e : Option (ℕ × EndCause)) (b : Bool) → EndBelow (suc p) e → EndBelow (suc p) (or_else e (option_map {T = EndCause} (λ c. (p, c)) (if b then Some EndCause.Replaced else None)))
    one (Some x) b h = h
    one None true h = omega arith
    one None false h = tt

-- ---- who is live so far

abbrev live_after : Bool → ℕ → Records → Bool
live_after b a [] = b
live_after b a (r ∷ rs) = live_after (is_live a r || b) a rs

counted-live : (a n : ℕ) (rs : Records) → nat_eq (fold (λ n r. n + cond (is_live a r) 1 0) n rs) 0 ≡ not (live_after (not (nat_eq n 0)) a rs)
counted-live a n [] = sym (twice (nat_eq n 0))
  where
    twice : (b : Bool) → not (not b) ≡ b
    twice true = refl
    twice false = refl
counted-live a n (r ∷ rs) = by (is_live a r) (λ m. counted-live a m rs)
  where
    some : nat_eq (n + 1) 0 ≡ false
    some = search rules

    same : n + 0 ≡ n
    same = omega arith

    by : (b : Bool) → ((m : ℕ) → nat_eq (fold (λ n r. n + cond (is_live a r) 1 0) m rs) 0 ≡ not (live_after (not (nat_eq m 0)) a rs))
        → nat_eq (fold (λ n r. n + cond (is_live a r) 1 0) (n + cond b 1 0) rs) 0 ≡ not (live_after (b || not (nat_eq n 0)) a rs)
    by true ih = ih (n + 1) ∙ (λ i. not (live_after (not (some i)) a rs))
    by false ih = ih (n + 0) ∙ (λ i. not (live_after (not (nat_eq (same i) 0)) a rs))

-- the last record of an automation is live exactly where one is
abbrev Tells : Option Record → Bool → Type 0
Tells None b = b ≡ false
Tells (Some x) b = is_none x.end ≡ b

queue-tells : (all : List Automation) (a : ℕ) → mode_of all a ≡ Mode.Queued → (live : ℕ → Bool) (back rs : Records) → InOrderBehind all live rs → Tells (last_record a back) (live a) → Tells (last_record a (pushed rs back)) (live_after (live a) a rs)
queue-tells all a queued live back [] order h = h
queue-tells all a queued live back (r ∷ rs) order h =
    queue-tells all a queued (λ q. is_live q r || live q) (r ∷ back) rs order.1 (by (nat_eq r.automation a) refl (live a) refl h)
  where
    by : (b : Bool) → nat_eq r.automation a ≡ b → (c : Bool) → live a ≡ c → Tells (last_record a back) c → Tells (if b then Some r else last_record a back) ((b && is_none r.end) || c)
    by true e true f h =
        let same = eqb-true r.automation a e in
        let none = order.0 (ap (mode_of all) same ∙ queued) (ap live same ∙ f) in
        (λ i. is_none (none i)) ∙ (λ i. is_none (sym none i) || true)
    by true e false f h = sym (or-false (is_none r.end))
      where
        or-false : (b : Bool) → (b || false) ≡ b
        or-false true = refl
        or-false false = refl
    by false e c f h = h

-- so a new record begins by whether one is live
begin-told : (p : ℕ) (m : Mode) (previous : Option Record) (n : ℕ) (b : Bool) (r : Record) → r.place ≡ p → r.end ≡ None → LastBelow (suc p) previous → (m ≡ Mode.Queued → Tells previous b) → nat_eq n 0 ≡ not b
    → begin_of m previous r ≡ begin_now m n p
begin-told p Mode.Single previous n b r at none below tells count = ap (λ q. Some q) at
begin-told p Mode.Restart previous n b r at none below tells count = ap (λ q. Some q) at
begin-told p Mode.Parallel previous n b r at none below tells count = ap (λ q. Some q) at
begin-told p Mode.Queued None n b r at none below tells count = ap (λ q. Some q) at ∙ (λ i. if sym (count ∙ ap not (tells refl)) i then Some p else None)
begin-told p Mode.Queued (Some x) n b r at none below tells count = by x.end refl below
  where
    by : (e : Option (ℕ × EndCause)) → x.end ≡ e → EndBelow (suc p) e → begin_behind r.place r.end x.end ≡ (if nat_eq n 0 then Some p else None)
    by None g h = (λ i. begin_behind r.place r.end (g i)) ∙ (λ i. if sym (count ∙ ap not (sym (tells refl) ∙ (λ i. is_none (g i)))) i then Some p else None)
    by (Some y) g h =
        (λ i. begin_behind (at i) (none i) (g i)) ∙ (λ i. if is-at-most y.0 p (omega arith) i then Some p else Some y.0)
        ∙ (λ i. if sym (count ∙ ap not (sym (tells refl) ∙ (λ i. is_none (g i)))) i then Some p else None)

-- ---- a replaced run

replaced-queued : (all : List Automation) (p a : ℕ) → mode_of all a ≡ Mode.Restart → (r : Record) → mode_of all r.automation ≡ Mode.Queued
    → or_else r.end (option_map {T = EndCause} (λ c. (p, c)) (if nat_eq r.automation a then Some EndCause.Replaced else None)) ≡ r.end
replaced-queued all p a restart r queued = (λ i. or_else r.end (option_map {T = EndCause} (λ c. (p, c)) (if apart all a r.automation restart queued i then Some EndCause.Replaced else None))) ∙ or-none r.end
  where
    or-none : (e : Option (ℕ × EndCause)) → or_else e None ≡ e
    or-none None = refl
    or-none (Some x) = refl

begin-alike : (p : ℕ) (m : Mode) (x y : Option Record) (r r' : Record) → r'.place ≡ r.place → r'.begin ≡ r.begin → (m ≡ Mode.Queued → LastAlike x y) → (m ≡ Mode.Queued → r'.end ≡ r.end) → begin_at p m x r' ≡ begin_at p m y r
begin-alike p Mode.Single x y r r' at begun alike ended = (λ i. if nat_eq (at i) p then Some (at i) else or_else (begun i) None)
begin-alike p Mode.Restart x y r r' at begun alike ended = (λ i. if nat_eq (at i) p then Some (at i) else or_else (begun i) None)
begin-alike p Mode.Parallel x y r r' at begun alike ended = (λ i. if nat_eq (at i) p then Some (at i) else or_else (begun i) None)
begin-alike p Mode.Queued None None r r' at begun alike ended = (λ i. if nat_eq (at i) p then Some (at i) else or_else (begun i) None)
begin-alike p Mode.Queued None (Some y) r r' at begun alike ended = absurd (alike refl)
begin-alike p Mode.Queued (Some x) None r r' at begun alike ended = absurd (alike refl)
begin-alike p Mode.Queued (Some x) (Some y) r r' at begun alike ended =
    let e = alike refl in
    let own = ended refl in
    (λ i. if nat_eq (at i) p then begin_behind (at i) (own i) (e i) else or_else (begun i) (if option_map_or (λ e. nat_eq e.0 p) (e i) false && is_none (own i) then Some p else None))

module _ (k : Journal) where
  abbrev settle : Records → Record → Record
  settle back r = record r { begin = begin_at (last_place k) (mode_of (units k) r.automation) (last_record r.automation back) r; calls = calls_of k r.serial }

  settled-snoc : (back rs : Records) (new : Record) → settled k back (rs ++ (new ∷ [])) ≡ settled k back rs ++ (settle (pushed rs back) new ∷ [])
  settled-snoc back [] new = refl
  settled-snoc back (r ∷ rs) new = ap (λ t. settle back r ∷ t) (settled-snoc (r ∷ back) rs new)

  -- two lists that tell the same of units of mode queued
  SameQueued : Records → Records → Type 0
  SameQueued back back' = (b : ℕ) → mode_of (units k) b ≡ Mode.Queued → LastAlike (last_record b back) (last_record b back')

  settled-replaced : (a q : ℕ) → mode_of (units k) a ≡ Mode.Restart → (back' back rs : Records) → SameQueued back' back → settled k back' (replace_all a q rs) ≡ replace_all a q (settled k back rs)
  unfolding SameQueued
  settled-replaced a q restart back' back [] alike = refl
  settled-replaced a q restart back' back (r ∷ rs) alike =
      let cause = if nat_eq r.automation a then Some EndCause.Replaced else None in
      let now = ends_for q (if nat_eq r.automation a then Some EndCause.Replaced else None) r in
      let begin = begin-alike (last_place k) (mode_of (units k) r.automation) (last_record r.automation back') (last_record r.automation back) r now refl refl (alike r.automation) (replaced-queued (units k) q a restart r) in
      (λ i. record now { begin = begin i; calls = calls_of k r.serial } ∷ settled k (now ∷ back') (replace_all a q rs))
      ∙ ap (λ t. ends_for q (if nat_eq r.automation a then Some EndCause.Replaced else None) (settle back r) ∷ t) (settled-replaced a q restart (now ∷ back') (r ∷ back) rs (λ b queued. more b queued (nat_eq r.automation b) refl (alike b queued)))
    where
      more : (b : ℕ) → mode_of (units k) b ≡ Mode.Queued → (c : Bool) → nat_eq r.automation b ≡ c → LastAlike (last_record b back') (last_record b back)
          → LastAlike (if c then Some (ends_for q (if nat_eq r.automation a then Some EndCause.Replaced else None) r) else last_record b back') (if c then Some r else last_record b back)
      more b queued true e h = replaced-queued (units k) q a restart r (ap (mode_of (units k)) (eqb-true r.automation b e) ∙ queued)
      more b queued false e h = h

  nothing_before : (x : ℕ × Attempt) → SameQueued [] []
  unfolding SameQueued
  nothing_before x b queued = tt

  -- what is counted is the same
  settled-length : (back rs : Records) → length (settled k back rs) ≡ length rs
  settled-length back [] = refl
  settled-length back (r ∷ rs) = ap suc (settled-length (r ∷ back) rs)

  settled-count : (test : ℕ → Bool) (n : ℕ) (back rs : Records) → fold (λ n r. n + cond (test r.automation) 1 0) n (settled k back rs) ≡ fold (λ n r. n + cond (test r.automation) 1 0) n rs
  settled-count test n back [] = refl
  settled-count test n back (r ∷ rs) = settled-count test (n + cond (test r.automation) 1 0) (r ∷ back) rs

  settled-live : (a n : ℕ) (back rs : Records) → fold (λ n r. n + cond (is_live a r) 1 0) n (settled k back rs) ≡ fold (λ n r. n + cond (is_live a r) 1 0) n rs
  settled-live a n back [] = refl
  settled-live a n back (r ∷ rs) = settled-live a (n + cond (is_live a r) 1 0) (r ∷ back) rs

  pub settled-order : (live : ℕ → Bool) (back rs : Records) → InOrderBehind (units k) live (settled k back rs) → InOrderBehind (units k) live rs
  settled-order live back [] h = tt
  settled-order live back (r ∷ rs) h = (h.0, settled-order (λ a. is_live a r || live a) (r ∷ back) rs h.1)

length-replaced : (a p : ℕ) (rs : Records) → length (replace_all a p rs) ≡ length rs
length-replaced a p [] = refl
length-replaced a p (r ∷ rs) = ap suc (length-replaced a p rs)

-- ---- the order of a longer table is that of a shorter one

order-prefix : (all : List Automation) (live : ℕ → Bool) (rs : Records) (new : Record) → InOrderBehind all live (rs ++ (new ∷ [])) → InOrderBehind all live rs
order-prefix all live [] new h = tt
order-prefix all live (r ∷ rs) new h = (h.0, order-prefix all (λ a. is_live a r || live a) rs new h.1)

order-before : (all : List Automation) (a q : ℕ) → mode_of all a ≡ Mode.Restart → (live' live : ℕ → Bool) (rs : Records) → ((b : ℕ) → mode_of all b ≡ Mode.Queued → live' b ≡ live b)
    → InOrderBehind all live' (replace_all a q rs) → InOrderBehind all live rs
order-before all a q restart live' live [] same h = tt
order-before all a q restart live' live (r ∷ rs) same h = (
  λ queued alive. sym (replaced-queued all q a restart r queued) ∙ h.0 queued (same r.automation queued ∙ alive),
  order-before all a q restart (λ b. is_live b (ends_for q (if nat_eq r.automation a then Some EndCause.Replaced else None) r) || live' b) (λ b. is_live b r || live b) rs (λ b queued. more b queued (nat_eq r.automation b) refl) h.1,
)
  where
    more : (b : ℕ) → mode_of all b ≡ Mode.Queued → (c : Bool) → nat_eq r.automation b ≡ c
        → ((c && is_none (or_else r.end (option_map {T = EndCause} (λ c. (q, c)) (if nat_eq r.automation a then Some EndCause.Replaced else None)))) || live' b) ≡ ((c && is_none r.end) || live b)
    more b queued true e = (λ i. is_none (replaced-queued all q a restart r (ap (mode_of all) (eqb-true r.automation b e) ∙ queued) i) || same b queued i)
    more b queued false e = same b queued

order-joined : (all : List Automation) (a p : ℕ) (m : Mode) → mode_of all a ≡ m → (rs : Records) (new : Record) → InOrder all (joined m a p rs new) → InOrder all rs
order-joined all a p Mode.Restart e rs new h = order-before all a p e (λ b. false) (λ b. false) rs (λ b q. refl) (order-prefix all (λ b. false) (replace_all a p rs) new h)
order-joined all a p Mode.Single e rs new h = order-prefix all (λ b. false) rs new h
order-joined all a p Mode.Queued e rs new h = order-prefix all (λ b. false) rs new h
order-joined all a p Mode.Parallel e rs new h = order-prefix all (λ b. false) rs new h

-- an attempt of the last entry, with its order there
abbrev Tried : Type 0
Tried = ℕ × Attempt

module _ (k : Journal) where
  abbrev mode_in : Tried → Mode
  mode_in x = mode_of (units k) x.1.automation

  abbrev next : Records → Tried → Records
  next rs x = if lets_in_after (units k) rs x.1.automation then joined (mode_of (units k) x.1.automation) x.1.automation (last_place k) rs (new_record k rs x) else rs

  order-now : (rs : Records) (xs : List Tried) → InOrder (units k) (attempt_all k rs xs) → InOrder (units k) rs
  order-now rs [] h = h
  order-now rs (x ∷ xs) h = by (lets_in_after (units k) rs x.1.automation) (order-now (next rs x) xs h)
    where
      by : (b : Bool) → InOrder (units k) (if b then joined (mode_of (units k) x.1.automation) x.1.automation (last_place k) rs (new_record k rs x) else rs) → InOrder (units k) rs
      by true g = order-joined (units k) x.1.automation (last_place k) (mode_of (units k) x.1.automation) refl rs (new_record k rs x) g
      by false g = g

  -- the record of an admitted attempt, as it begins
  new-settled : (rs : Records) (x : Tried) → InOrder (units k) rs → EndsBelow (suc (last_place k)) rs → calls_of k (suc (length rs)) ≡ 0
      → new_run (settled k [] rs) x.1.automation (mode_of (units k) x.1.automation) (last_place k) x.0 (run_number k (settled k [] rs) x) x.1.env ≡ settle k (pushed rs []) (new_record k rs x)
  new-settled rs x order below calls =
      let a = x.1.automation in
      let m = mode_of (units k) x.1.automation in
      let p = last_place k in
      let n = live_count x.1.automation (settled k [] rs) in
      let count : nat_eq (live_count x.1.automation (settled k [] rs)) 0 ≡ not (live_after false x.1.automation rs)
      = (λ i. nat_eq (settled-live k x.1.automation 0 [] rs i) 0) ∙ counted-live x.1.automation 0 rs in
      let begin : begin_of (mode_of (units k) x.1.automation) (last_record x.1.automation (pushed rs [])) (new_record k rs x) ≡ begin_now (mode_of (units k) x.1.automation) (live_count x.1.automation (settled k [] rs)) (last_place k)
      = begin-told (last_place k) (mode_of (units k) x.1.automation) (last_record x.1.automation (pushed rs [])) (live_count x.1.automation (settled k [] rs)) (live_after false x.1.automation rs) (new_record k rs x) refl refl
      (last-below (suc (last_place k)) x.1.automation (pushed rs []) (pushed-below (suc (last_place k)) rs [] below tt))
      (λ queued. queue-tells (units k) x.1.automation queued (λ b. false) [] rs order refl) count in
      (λ i. record (new_record k rs x) {
        serial = suc (settled-length k [] rs i);
        number = suc (settled-count k (λ a. same (name_of (units k) a) (name_of (units k) x.1.automation)) 0 [] rs i);
        begin = sym begin i;
        calls = sym calls i;
      })
      ∙ (λ i. record (new_record k rs x) {
        begin = if sym (equal-self (last_place k)) i then begin_of (mode_of (units k) x.1.automation) (last_record x.1.automation (pushed rs [])) (new_record k rs x)
            else or_else None (begins_here (last_place k) (mode_of (units k) x.1.automation) (last_record x.1.automation (pushed rs [])) None);
        calls = calls_of k (suc (length rs));
      })

  joined-settled : (m : Mode) (rs : Records) (x : Tried) → mode_of (units k) x.1.automation ≡ m → InOrder (units k) rs → EndsBelow (suc (last_place k)) rs → calls_of k (suc (length rs)) ≡ 0
      → joined m x.1.automation (last_place k) (settled k [] rs) (new_run (settled k [] rs) x.1.automation (mode_of (units k) x.1.automation) (last_place k) x.0 (run_number k (settled k [] rs) x) x.1.env)
      ≡ settled k [] (joined m x.1.automation (last_place k) rs (new_record k rs x))
  joined-settled m rs x e order below calls = by m e (new-settled rs x order below calls)
    where
      new : Record
      new = new_run (settled k [] rs) x.1.automation (mode_of (units k) x.1.automation) (last_place k) x.0 (run_number k (settled k [] rs) x) x.1.env

      plain : new_run (settled k [] rs) x.1.automation (mode_of (units k) x.1.automation) (last_place k) x.0 (run_number k (settled k [] rs) x) x.1.env ≡ settle k (pushed rs []) (new_record k rs x)
          → settled k [] rs ++ (new_run (settled k [] rs) x.1.automation (mode_of (units k) x.1.automation) (last_place k) x.0 (run_number k (settled k [] rs) x) x.1.env ∷ []) ≡ settled k [] (rs ++ (new_record k rs x ∷ []))
      plain one = (λ i. settled k [] rs ++ (one i ∷ [])) ∙ sym (settled-snoc k [] rs (new_record k rs x))

      begins : mode_of (units k) x.1.automation ≡ Mode.Restart → (back back' : Records) → settle k back (new_record k rs x) ≡ settle k back' (new_record k rs x)
      begins e back back' =
          (λ i. record (new_record k rs x) { begin = begin_at (last_place k) (e i) (last_record x.1.automation back) (new_record k rs x); calls = calls_of k (suc (length rs)) })
          ∙ (λ i. record (new_record k rs x) { begin = begin_at (last_place k) (sym e i) (last_record x.1.automation back') (new_record k rs x); calls = calls_of k (suc (length rs)) })

      by : (m : Mode) → mode_of (units k) x.1.automation ≡ m → new_run (settled k [] rs) x.1.automation (mode_of (units k) x.1.automation) (last_place k) x.0 (run_number k (settled k [] rs) x) x.1.env ≡ settle k (pushed rs []) (new_record k rs x)
          → joined m x.1.automation (last_place k) (settled k [] rs) (new_run (settled k [] rs) x.1.automation (mode_of (units k) x.1.automation) (last_place k) x.0 (run_number k (settled k [] rs) x) x.1.env)
          ≡ settled k [] (joined m x.1.automation (last_place k) rs (new_record k rs x))
      by Mode.Single e one = plain one
      by Mode.Queued e one = plain one
      by Mode.Parallel e one = plain one
      by Mode.Restart e one =
          (λ i. sym (settled-replaced k x.1.automation (last_place k) e [] [] rs (nothing_before k x)) i ++ ((one ∙ begins e (pushed rs []) (pushed (replace_all x.1.automation (last_place k) rs) [])) i ∷ []))
          ∙ sym (settled-snoc k [] (replace_all x.1.automation (last_place k) rs) (new_record k rs x))

  next-settled : (rs : Records) (x : Tried) → InOrder (units k) rs → EndsBelow (suc (last_place k)) rs → calls_of k (suc (length rs)) ≡ 0 → tried k (settled k [] rs) x ≡ settled k [] (next rs x)
  next-settled rs x order below calls =
      (λ i. if lets_in (mode_of (units k) x.1.automation) (max_of (units k) x.1.automation) (settled-live k x.1.automation 0 [] rs i)
      then joined (mode_of (units k) x.1.automation) x.1.automation (last_place k) (settled k [] rs) (new_run (settled k [] rs) x.1.automation (mode_of (units k) x.1.automation) (last_place k) x.0 (run_number k (settled k [] rs) x) x.1.env)
      else settled k [] rs)
      ∙ by (lets_in_after (units k) rs x.1.automation)
    where
      by : (b : Bool) → (if b then joined (mode_of (units k) x.1.automation) x.1.automation (last_place k) (settled k [] rs) (new_run (settled k [] rs) x.1.automation (mode_of (units k) x.1.automation) (last_place k) x.0 (run_number k (settled k [] rs) x) x.1.env) else settled k [] rs)
          ≡ settled k [] (if b then joined (mode_of (units k) x.1.automation) x.1.automation (last_place k) rs (new_record k rs x) else rs)
      by true = joined-settled (mode_of (units k) x.1.automation) rs x refl order below calls
      by false = refl

  -- THE LAW of the attempts
  pub attempts-settled : (rs : Records) (xs : List Tried) → InOrder (units k) (attempt_all k rs xs) → EndsBelow (suc (last_place k)) rs → ((s : ℕ) → length rs < s → calls_of k s ≡ 0)
      → all_tried k (settled k [] rs) xs ≡ settled k [] (attempt_all k rs xs)
  attempts-settled rs [] order below calls = refl
  attempts-settled rs (x ∷ xs) order below calls =
      (λ i. all_tried k (next-settled rs x (order-now rs (x ∷ xs) order) below (calls (suc (length rs)) (omega arith)) i) xs)
      ∙ attempts-settled (next rs x) xs order (below-next (lets_in_after (units k) rs x.1.automation)) (calls-next (lets_in_after (units k) rs x.1.automation))
    where
      below-next : (b : Bool) → EndsBelow (suc (last_place k)) (if b then joined (mode_of (units k) x.1.automation) x.1.automation (last_place k) rs (new_record k rs x) else rs)
      below-next false = below
      below-next true = joined-below (is_restart_mode (mode_of (units k) x.1.automation))
        where
          joined-below : (b : Bool) → EndsBelow (suc (last_place k)) ((if b then replace_all x.1.automation (last_place k) rs else rs) ++ (new_record k rs x ∷ []))
          joined-below true = below-snoc (suc (last_place k)) (replace_all x.1.automation (last_place k) rs) (new_record k rs x) (below-replaced (last_place k) x.1.automation rs below) tt
          joined-below false = below-snoc (suc (last_place k)) rs (new_record k rs x) below tt

      calls-next : (b : Bool) (s : ℕ) → length (if b then joined (mode_of (units k) x.1.automation) x.1.automation (last_place k) rs (new_record k rs x) else rs) < s → calls_of k s ≡ 0
      calls-next false s lt = calls s lt
      calls-next true s lt = longer (is_restart_mode (mode_of (units k) x.1.automation)) lt
        where
          longer : (b : Bool) → length ((if b then replace_all x.1.automation (last_place k) rs else rs) ++ (new_record k rs x ∷ [])) < s → calls_of k s ≡ 0
          longer true lt = calls s (omega (arith, lt, length-append (replace_all x.1.automation (last_place k) rs) (new_record k rs x ∷ []), length-replaced x.1.automation (last_place k) rs))
          longer false lt = calls s (omega (arith, lt, length-append rs (new_record k rs x ∷ [])))
