-- A table of runs that goes on behind records that have all ended: each call changes the records behind them as it changes a table of
-- these alone.
use Rattle.std.proofs.Common.{◌≡◌, ℕ, zero, suc, ◌+◌, ◌-◌, ◌<◌, ◌≤◌, [], ◌∷◌, ◌++◌, length, Bool, true, false, refl, sym, ◌∙◌, rules, arith, Option, append_assoc, length-append}
use Rattle.std.specs.Prelude.{Some, None, cond, is_none, ◌&&◌, count_by, map, nat_eq, nat_lt, option_map, if◌then◌else◌}
use Rattle.std.specs.Option.{option_map_or}
use Rattle.std.proofs.lemmas.List.Sums.{sum_by-append, sum_by-cons}
use Rattle.ha_config.specs.declared.config.Mode.{Mode}
use Rattle.ha_config.proofs.ListLemmas.{true-false}
use Rattle.ha_model.specs.declared.record.EndCause.{EndCause}
use Rattle.ha_model.specs.declared.record.Record.{Record}
use Rattle.ha_config.specs.Words.{Pairs, or_else}
use Rattle.ha_model.specs.Records.{Records, is_restart_mode, lets_in, live_count}
use Rattle.ha_model.specs.RunSteps.{joined, replace_all}
use Rattle.segment_runs.specs.Goes.{AllEnded, GoesOn, SerialsTo, moved, moved_all}
use Rattle.run_modes.specs.Table.{attempted, begin_first, begin_kept, begin_now, begins_at, called_on, end_one, ended_at, is_live, is_stopped, live_of, new_run, stopped}

eq-shift : (n a b : ℕ) → nat_eq (n + a) (n + b) ≡ nat_eq a b
eq-shift zero a b = (let e : 0 + a ≡ a = omega arith in let f : 0 + b ≡ b = omega arith in λ i. nat_eq (e i) (f i))
eq-shift (suc n) a b = search (rules, eq-shift n a b)

end-shift : (n : ℕ) (o : Option (ℕ × EndCause)) → is_none {T = ℕ × EndCause} (option_map {T = ℕ × EndCause} {U = ℕ × EndCause} (λ e. (n + e.0, e.1)) o) ≡ is_none o
end-shift n None = refl
end-shift n (Some e) = refl

live-shift : (n base : ℕ) (num : ℕ → ℕ) (a : ℕ) (r : Record) → is_live a (moved n base num r) ≡ is_live a r
live-shift n base num a r = (λ i. nat_eq r.automation a && end-shift n r.end i)

not-live : (a : ℕ) (r : Record) → is_none r.end ≡ false → is_live a r ≡ false
not-live a r h = (λ i. nat_eq r.automation a && h i) ∙ by (nat_eq r.automation a)
  where
    by : (b : Bool) → (b && false) ≡ false
    by true = refl
    by false = refl

-- ---- counts

module _ (n base : ℕ) (num : ℕ → ℕ) where
  live-placed : (a : ℕ) (rs : Records) → live_of a (moved_all n base num rs) ≡ map {A = ℕ} {B = ℕ} (λ q. base + q) (live_of a rs)
  live-placed a [] = refl
  live-placed a (r ∷ rs) =
      (λ i. if live-shift n base num a r i then (base + r.serial) ∷ live-placed a rs i else live-placed a rs i) ∙ by (is_live a r)
    where
      by : (b : Bool) → (if b then (base + r.serial) ∷ map {A = ℕ} {B = ℕ} (λ q. base + q) (live_of a rs) else map {A = ℕ} {B = ℕ} (λ q. base + q) (live_of a rs))
          ≡ map {A = ℕ} {B = ℕ} (λ q. base + q) (if b then r.serial ∷ live_of a rs else live_of a rs)
      by true = refl
      by false = refl

  -- LAW: the live serials behind ended records are those of the table alone
  pub live-behind : (a : ℕ) (c rs : Records) → AllEnded c → live_of a (c ++ moved_all n base num rs) ≡ map {A = ℕ} {B = ℕ} (λ q. base + q) (live_of a rs)
  live-behind a [] rs h = live-placed a rs
  live-behind a (r ∷ c) rs h = (λ i. if not-live a r h.0 i then r.serial ∷ live_of a (c ++ moved_all n base num rs) else live_of a (c ++ moved_all n base num rs)) ∙ live-behind a c rs h.1

  -- ---- a call

  called-placed : (serial : ℕ) (rs : Records) → called_on (base + serial) (moved_all n base num rs) ≡ moved_all n base num (called_on serial rs)
  called-placed serial [] = refl
  called-placed serial (r ∷ rs) = (λ i. step i ∷ called-placed serial rs i)
    where
      by : (b : Bool) → (if b then record (moved n base num r) { calls = suc r.calls } else moved n base num r) ≡ moved n base num (if b then record r { calls = suc r.calls } else r)
      by true = refl
      by false = refl

      step : (if nat_eq (base + r.serial) (base + serial) then record (moved n base num r) { calls = suc r.calls } else moved n base num r)
          ≡ moved n base num (if nat_eq r.serial serial then record r { calls = suc r.calls } else r)
      step = (λ i. if eq-shift (base) r.serial serial i then record (moved n base num r) { calls = suc r.calls } else moved n base num r) ∙ by (nat_eq r.serial serial)

  -- ---- an end

  begin-placed : (place : ℕ) (r : Record) → begins_at (n + place) (moved n base num r) ≡ moved n base num (begins_at place r)
  begin-placed place r = by r.begin
    where
      by : (b : Option ℕ) → record (moved n base num r) { begin = or_else (option_map (λ p. n + p) b) (Some (n + place)) } ≡ record (moved n base num r) { begin = option_map (λ p. n + p) (or_else b (Some place)) }
      by None = refl
      by (Some p) = refl

  first-placed : (a place : ℕ) (rs : Records) → begin_first a (n + place) (moved_all n base num rs) ≡ moved_all n base num (begin_first a place rs)
  first-placed a place [] = refl
  first-placed a place (r ∷ rs) =
      (λ i. if live-shift n base num a r i then begin-placed place r i ∷ moved_all n base num rs else moved n base num r ∷ first-placed a place rs i) ∙ by (is_live a r)
    where
      by : (b : Bool) → (if b then moved n base num (begins_at place r) ∷ moved_all n base num rs else moved n base num r ∷ moved_all n base num (begin_first a place rs))
          ≡ moved_all n base num (if b then begins_at place r ∷ rs else r ∷ begin_first a place rs)
      by true = refl
      by false = refl

  ended-placed : (serial place : ℕ) (cause : EndCause) (rs : Records) → ended_at (base + serial) (n + place) cause (moved_all n base num rs) ≡ moved_all n base num (ended_at serial place cause rs)
  ended-placed serial place cause [] = refl
  ended-placed serial place cause (r ∷ rs) =
      (λ i. if eq-shift (base) r.serial serial i then record (moved n base num r) { end = Some (n + place, cause) } ∷ first-placed r.automation place rs i else moved n base num r ∷ ended-placed serial place cause rs i)
      ∙ by (nat_eq r.serial serial)
    where
      by : (b : Bool)
          → (if b then record (moved n base num r) { end = Some (n + place, cause) } ∷ moved_all n base num (begin_first r.automation place rs) else moved n base num r ∷ moved_all n base num (ended_at serial place cause rs))
          ≡ moved_all n base num (if b then record r { end = Some (place, cause) } ∷ begin_first r.automation place rs else r ∷ ended_at serial place cause rs)
      by true = refl
      by false = refl

  not-own : (r : Record) (serial : ℕ) → r.serial ≤ base → 0 < serial → nat_eq r.serial (base + serial) ≡ false
  not-own r serial le more = (let lt : r.serial < (base + serial) = omega (arith, le, more) in search (rules, lt))

  -- LAW: an end behind the records of closed segments is one of the table alone
  pub ended-behind : (serial place : ℕ) (cause : EndCause) (c rs : Records) → SerialsTo (base) c → 0 < serial
      → ended_at (base + serial) (n + place) cause (c ++ moved_all n base num rs) ≡ c ++ moved_all n base num (ended_at serial place cause rs)
  ended-behind serial place cause [] rs h more = ended-placed serial place cause rs
  ended-behind serial place cause (r ∷ c) rs h more =
      (λ i. if not-own r serial h.0 more i then record r { end = Some (n + place, cause) } ∷ begin_first r.automation (n + place) (c ++ moved_all n base num rs) else r ∷ ended-behind serial place cause c rs h.1 more i)

  -- LAW: and so is a call that is counted
  pub called-behind : (serial : ℕ) (c rs : Records) → SerialsTo (base) c → 0 < serial → called_on (base + serial) (c ++ moved_all n base num rs) ≡ c ++ moved_all n base num (called_on serial rs)
  called-behind serial [] rs h more = called-placed serial rs
  called-behind serial (r ∷ c) rs h more = (λ i. (if not-own r serial h.0 more i then record r { calls = suc r.calls } else r) ∷ called-behind serial c rs h.1 more i)

  -- ---- an attempt

  count-placed : (p : Record → Bool) → ((r : Record) → p (moved n base num r) ≡ p r) → (rs : Records) → count_by p (moved_all n base num rs) ≡ count_by p rs
  count-placed p same [] = refl
  count-placed p same (r ∷ rs) =
      sum_by-cons (λ x. cond (p x) 1 0) (moved n base num r) (moved_all n base num rs)
      ∙ (λ i. cond (same r i) 1 0 + count-placed p same rs i)
      ∙ sym (sum_by-cons (λ x. cond (p x) 1 0) r rs)

  replace-placed : (a place : ℕ) (rs : Records) → replace_all a (n + place) (moved_all n base num rs) ≡ moved_all n base num (replace_all a place rs)
  replace-placed a place [] = refl
  replace-placed a place (r ∷ rs) = (λ i. one (nat_eq r.automation a) r.end i ∷ replace-placed a place rs i)
    where
      one : (b : Bool) (e : Option (ℕ × EndCause))
          → record (moved n base num r) { end = or_else (option_map {T = ℕ × EndCause} (λ e. (n + e.0, e.1)) e) (option_map {T = EndCause} (λ c. (n + place, c)) (if b then Some EndCause.Replaced else None)) }
          ≡ record (moved n base num r) { end = option_map {T = ℕ × EndCause} (λ e. (n + e.0, e.1)) (or_else e (option_map {T = EndCause} (λ c. (place, c)) (if b then Some EndCause.Replaced else None))) }
      one true None = refl
      one false None = refl
      one true (Some e) = refl
      one false (Some e) = refl

  begin-now-placed : (mode : Mode) (live place : ℕ) → begin_now mode live (n + place) ≡ option_map (λ p. n + p) (begin_now mode live place)
  begin-now-placed Mode.Single live place = refl
  begin-now-placed Mode.Restart live place = refl
  begin-now-placed Mode.Parallel live place = refl
  begin-now-placed Mode.Queued live place = by (nat_eq live 0)
    where
      by : (b : Bool) → (if b then Some (n + place) else None) ≡ option_map (λ p. n + p) (if b then Some place else None)
      by true = refl
      by false = refl

  length-placed : (rs : Records) → length (moved_all n base num rs) ≡ length rs
  length-placed [] = refl
  length-placed (r ∷ rs) = omega (arith, length-placed rs)

  -- ---- a stop

  kept-placed : (place : ℕ) (r : Record) → begin_kept (n + place) (moved n base num r) ≡ option_map (λ p. n + p) (begin_kept place r)
  kept-placed place r = by r.begin
    where
      lt-shift : (k a b : ℕ) → nat_lt (k + a) (k + b) ≡ nat_lt a b
      lt-shift zero a b = (let e : 0 + a ≡ a = omega arith in let f : 0 + b ≡ b = omega arith in λ i. nat_lt (e i) (f i))
      lt-shift (suc k) a b = search (rules, lt-shift k a b)

      by : (b : Option ℕ) → (if nat_lt (n + r.place) (n + place) && option_map_or (λ q. nat_eq q (n + place)) (option_map (λ p. n + p) b) false then None else option_map (λ p. n + p) b)
          ≡ option_map (λ p. n + p) (if nat_lt r.place place && option_map_or (λ q. nat_eq q place) b false then None else b)
      by None = choose (nat_lt (n + r.place) (n + place) && false) (nat_lt r.place place && false)
        where
          choose : (x y : Bool) → (if x then None else None) ≡ option_map (λ p. n + p) (if y then None else None)
          choose true true = refl
          choose true false = refl
          choose false true = refl
          choose false false = refl
      by (Some q) = (λ i. if lt-shift n r.place place i && eq-shift n q place i then None else Some (n + q)) ∙ choose (nat_lt r.place place && nat_eq q place)
        where
          choose : (x : Bool) → (if x then None else Some (n + q)) ≡ option_map (λ p. n + p) (if x then None else Some q)
          choose true = refl
          choose false = refl

  end-one-placed : (place : ℕ) (cause : EndCause) (r : Record) → end_one true (n + place) cause (moved n base num r) ≡ moved n base num (end_one true place cause r)
  end-one-placed place cause r = (λ i. record (moved n base num r) { begin = kept-placed place r i; end = Some (n + place, cause) })

  stopped-shift : (which : Option ℕ) (r : Record) → is_stopped which (moved n base num r) ≡ is_stopped which r
  stopped-shift None r = end-shift n r.end
  stopped-shift (Some a) r = live-shift n base num a r

  stopped-placed : (which : Option ℕ) (place : ℕ) (cause : EndCause) (rs : Records) → stopped which (n + place) cause (moved_all n base num rs) ≡ moved_all n base num (stopped which place cause rs)
  stopped-placed which place cause [] = refl
  stopped-placed which place cause (r ∷ rs) =
      (λ i. (if stopped-shift which r i then end-one-placed place cause r i else moved n base num r) ∷ stopped-placed which place cause rs i)
      ∙ (λ i. by (is_stopped which r) i ∷ moved_all n base num (stopped which place cause rs))
    where
      by : (b : Bool) → (if b then moved n base num (end_one true place cause r) else moved n base num r) ≡ moved n base num (if b then end_one true place cause r else r)
      by true = refl
      by false = refl

  ended-not-stopped : (which : Option ℕ) (r : Record) → is_none r.end ≡ false → is_stopped which r ≡ false
  ended-not-stopped None r h = h
  ended-not-stopped (Some a) r h = not-live a r h

  -- LAW: a stop behind ended records stops what it stops in the table alone
  pub stopped-behind : (which : Option ℕ) (place : ℕ) (cause : EndCause) (c rs : Records) → AllEnded c
      → stopped which (n + place) cause (c ++ moved_all n base num rs) ≡ c ++ moved_all n base num (stopped which place cause rs)
  stopped-behind which place cause [] rs h = stopped-placed which place cause rs
  stopped-behind which place cause (r ∷ c) rs h =
      (λ i. (if ended-not-stopped which r h.0 i then end_one true (n + place) cause r else r) ∷ stopped-behind which place cause c rs h.1 i)

  -- ---- behind records that have ended

  none-live : (a : ℕ) (c : Records) → AllEnded c → live_count a c ≡ 0
  none-live a [] h = refl
  none-live a (r ∷ c) h =
      sum_by-cons (λ x. cond (nat_eq x.automation a && is_none x.end) 1 0) r c
      ∙ (λ i. cond (not-live a r h.0 i) 1 0 + none-live a c h.1 i)

  pub count-behind : (a : ℕ) (c rs : Records) → AllEnded c → live_count a (c ++ moved_all n base num rs) ≡ live_count a rs
  count-behind a c rs h =
      sum_by-append (λ x. cond (nat_eq x.automation a && is_none x.end) 1 0) c (moved_all n base num rs)
      ∙ (λ i. none-live a c h i + count-placed (λ x. nat_eq x.automation a && is_none x.end) (live-shift n base num a) rs i)
      ∙ zero-plus (live_count a rs)
    where
      zero-plus : (m : ℕ) → 0 + m ≡ m
      zero-plus m = omega arith

  replace-behind : (a place : ℕ) (c rs : Records) → AllEnded c → replace_all a (n + place) (c ++ moved_all n base num rs) ≡ c ++ moved_all n base num (replace_all a place rs)
  replace-behind a place [] rs h = replace-placed a place rs
  replace-behind a place (r ∷ c) rs h = (λ i. stays r.end h.0 i ∷ replace-behind a place c rs h.1 i)
    where
      stays : (e : Option (ℕ × EndCause)) → is_none e ≡ false → record r { end = or_else e (option_map {T = EndCause} (λ c. (n + place, c)) (if nat_eq r.automation a then Some EndCause.Replaced else None)) } ≡ record r { end = e }
      stays None h = absurd (true-false h)
      stays (Some e) h = refl

  new-behind : (a : ℕ) (mode : Mode) (place order number : ℕ) (env : Pairs) (c rs : Records) → GoesOn base c
      → new_run (c ++ moved_all n base num rs) a mode (n + place) order (num a + number) env ≡ moved n base num (new_run rs a mode place order number env)
  new-behind a mode place order number env c rs g =
      let serial : suc (length (c ++ moved_all n base num rs)) ≡ base + suc (length rs) = omega (arith, length-append c (moved_all n base num rs), length-placed rs, g.serials) in
      (λ i. record {
        serial = serial i;
        automation = a;
        number = num a + number;
        place = n + place;
        order = order;
        env = env;
        begin = ((λ i. begin_now mode (count-behind a c rs g.ended i) (n + place)) ∙ begin-now-placed mode (live_count a rs) place) i;
        end = None;
        calls = 0;
      })

  joined-behind : (mode : Mode) (a place : ℕ) (c rs : Records) (new : Record) → AllEnded c
      → joined mode a (n + place) (c ++ moved_all n base num rs) (moved n base num new) ≡ c ++ moved_all n base num (joined mode a place rs new)
  joined-behind mode a place c rs new h = by (is_restart_mode mode)
    where
      tail : (xs : Records) → (c ++ moved_all n base num xs) ++ (moved n base num new ∷ []) ≡ c ++ moved_all n base num (xs ++ (new ∷ []))
      tail xs = append_assoc c (moved_all n base num xs) (moved n base num new ∷ []) ∙ (λ i. c ++ snoc xs i)
        where
          snoc : (xs : Records) → moved_all n base num xs ++ (moved n base num new ∷ []) ≡ moved_all n base num (xs ++ (new ∷ []))
          snoc [] = refl
          snoc (x ∷ xs) = (λ i. moved n base num x ∷ snoc xs i)

      by : (b : Bool) → (if b then replace_all a (n + place) (c ++ moved_all n base num rs) else c ++ moved_all n base num rs) ++ (moved n base num new ∷ []) ≡ c ++ moved_all n base num ((if b then replace_all a place rs else rs) ++ (new ∷ []))
      by true = (λ i. replace-behind a place c rs h i ++ (moved n base num new ∷ [])) ∙ tail (replace_all a place rs)
      by false = tail rs

  -- LAW: an attempt behind ended records is one of the table alone
  pub attempted-behind : (a : ℕ) (mode : Mode) (max place order number : ℕ) (env : Pairs) (c rs : Records) → GoesOn base c
      → attempted a mode max (n + place) order (num a + number) env (c ++ moved_all n base num rs) ≡ c ++ moved_all n base num (attempted a mode max place order number env rs)
  attempted-behind a mode max place order number env c rs g =
      (λ i. if lets_in mode max (count-behind a c rs g.ended i) then joined mode a (n + place) (c ++ moved_all n base num rs) (new-behind a mode place order number env c rs g i) else c ++ moved_all n base num rs)
      ∙ by (lets_in mode max (live_count a rs))
    where
      by : (b : Bool) → (if b then joined mode a (n + place) (c ++ moved_all n base num rs) (moved n base num (new_run rs a mode place order number env)) else c ++ moved_all n base num rs)
          ≡ c ++ moved_all n base num (if b then joined mode a place rs (new_run rs a mode place order number env) else rs)
      by true = joined-behind mode a place c rs (new_run rs a mode place order number env) g.ended
      by false = refl
