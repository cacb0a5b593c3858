-- One run ends, and the next live one of its automation begins.
use Rattle.std.proofs.Common.{◌≡◌, ℕ, zero, suc, ◌+◌, ◌-◌, ◌<◌, ◌≤◌, List, [], ◌∷◌, length, set, get_or, Bool, true, false, refl, ap, sym, subst, length-set, ◌∙◌, rules, arith, Option}
use Rattle.std.specs.Prelude.{Some, None, IfSome, cond, nat_eq, slice_get, is_none, fold, ◌&&◌, if◌then◌else◌}
use Rattle.ha_model.specs.declared.record.EndCause.{EndCause}
use Rattle.ha_model.specs.declared.record.Record.{Record}
use Rattle.ha_model.specs.Records.{Records}
use Rattle.ha_config.specs.Words.{or_else}
use Rattle.run_modes.specs.declared.lanes.Lane.{Lane}
use Rattle.run_modes.specs.Lanes.{made_in, live_in, ChangesLane, without, behind, first_of}
use Rattle.run_modes.specs.Table.{is_live, live_of, begin_first, begins_at, ended_at, waiting_first, begun_by}
use Rattle.run_modes.specs.Fits.{AreNumbered, Fits}
use Rattle.run_modes.proofs.TableLemmas.{fits-changed, record-at}

not-equal : (a b : ℕ) → a < b → nat_eq a b ≡ false
not-equal a b lt = search rules

not-equal-above : (a b : ℕ) → b < a → nat_eq a b ≡ false
not-equal-above a b lt = search rules

equal-self : (a b : ℕ) → a ≡ b → nat_eq a b ≡ true
equal-self a b e = search (rules, e)

-- ---- the first live run begins

module _ (a p : ℕ) where
  abbrev pub begins : Record → Record
  begins r = record r { begin = or_else r.begin (Some p) }

  -- it stands at the place of the first live serial
  record FirstBegins (n s : ℕ) (rs : Records) : Type 0 where
    at : ℕ
    serial : s ≡ suc (n + at)
    within : at < length rs
    begun : (r : Record) → r ≡ get_or rs at r → begin_first a p rs ≡ set rs at (begins r)
    told : (r : Record) → r ≡ get_or rs at r → waiting_first a rs ≡ (if is_none r.begin then Some s else None)

  first-begins : (n s : ℕ) (rs : Records) → AreNumbered n rs → first_of (live_of a rs) ≡ Some s → FirstBegins n s rs
  first-begins n s [] numbered e = absurd (none e)
    where
      none : None ≡ Some s → ⊥
      none e = cc
  first-begins n s (y ∷ ys) numbered e = by (first-begins (suc n) s ys numbered.1) (is_live a y) refl e
    where
      by : (first_of (live_of a ys) ≡ Some s → FirstBegins (suc n) s ys) → (b : Bool) → is_live a y ≡ b → first_of (if b then y.serial ∷ live_of a ys else live_of a ys) ≡ Some s → FirstBegins n s (y ∷ ys)
      by ih true f h =
          let e : y.serial ≡ s = cc in
          record {
            at = 0;
            serial = omega (arith, e, numbered.0);
            within = omega arith;
            begun = λ r is. (λ i. if f i then begins y ∷ ys else y ∷ begin_first a p ys) ∙ (λ i. begins (sym is i) ∷ ys);
            told = λ r is. (λ i. if f i then (if is_none y.begin then Some y.serial else None) else waiting_first a ys) ∙ (λ i. if is_none (sym is i).begin then Some (e i) else None);
          }
      by ih false f h =
          let rest = ih h in
          record {
            at = suc rest.at;
            serial = omega (arith, rest.serial);
            within = omega (arith, rest.within);
            begun = λ r is. (λ i. if f i then begins y ∷ ys else y ∷ begin_first a p ys) ∙ ap (λ t. y ∷ t) (rest.begun r is);
            told = λ r is. (λ i. if f i then (if is_none y.begin then Some y.serial else None) else waiting_first a ys) ∙ rest.told r is;
          }

  none-begins : (rs : Records) → first_of (live_of a rs) ≡ None → (begin_first a p rs ≡ rs) × (waiting_first a rs ≡ None)
  none-begins [] e = (refl, refl)
  none-begins (y ∷ ys) e = by (none-begins ys) (is_live a y) e
    where
      by : (first_of (live_of a ys) ≡ None → (begin_first a p ys ≡ ys) × (waiting_first a ys ≡ None)) → (b : Bool) → first_of (if b then y.serial ∷ live_of a ys else live_of a ys) ≡ None
          → ((if b then begins y ∷ ys else y ∷ begin_first a p ys) ≡ y ∷ ys) × ((if b then (if is_none y.begin then Some y.serial else None) else waiting_first a ys) ≡ None)
      by ih true h = absurd (some h)
        where
          some : Some y.serial ≡ None → ⊥
          some h = cc
      by ih false h = (let rest = ih h in (ap (λ t. y ∷ t) rest.0, rest.1))

  -- it changes nothing else
  begin-live : (q : ℕ) (rs : Records) → live_of q (begin_first a p rs) ≡ live_of q rs
  begin-live q [] = refl
  begin-live q (y ∷ ys) = by (begin-live q ys) (is_live a y)
    where
      by : live_of q (begin_first a p ys) ≡ live_of q ys → (b : Bool) → live_of q (if b then begins y ∷ ys else y ∷ begin_first a p ys) ≡ live_of q (y ∷ ys)
      by ih true = refl
      by ih false = (λ i. if is_live q y then y.serial ∷ ih i else ih i)

  begin-count : (q n : ℕ) (rs : Records) → fold (λ n r. n + cond (nat_eq r.automation q) 1 0) n (begin_first a p rs) ≡ fold (λ n r. n + cond (nat_eq r.automation q) 1 0) n rs
  begin-count q n [] = refl
  begin-count q n (y ∷ ys) = by (λ m. begin-count q m ys) (is_live a y)
    where
      by : ((m : ℕ) → fold (λ n r. n + cond (nat_eq r.automation q) 1 0) m (begin_first a p ys) ≡ fold (λ n r. n + cond (nat_eq r.automation q) 1 0) m ys) → (b : Bool)
          → fold (λ n r. n + cond (nat_eq r.automation q) 1 0) n (if b then begins y ∷ ys else y ∷ begin_first a p ys) ≡ fold (λ n r. n + cond (nat_eq r.automation q) 1 0) n (y ∷ ys)
      by ih true = refl
      by ih false = ih (n + cond (nat_eq y.automation q) 1 0)

  begin-numbered : (n : ℕ) (rs : Records) → AreNumbered n rs → AreNumbered n (begin_first a p rs)
  begin-numbered n [] h = tt
  begin-numbered n (y ∷ ys) h = by (begin-numbered (suc n) ys h.1) (is_live a y)
    where
      by : AreNumbered (suc n) (begin_first a p ys) → (b : Bool) → AreNumbered n (if b then begins y ∷ ys else y ∷ begin_first a p ys)
      by ih true = h
      by ih false = (h.0, ih)

-- ---- a run ends

serial-after : (n i : ℕ) (rs : Records) (r : Record) → AreNumbered n rs → slice_get rs i ≡ Some r → n < r.serial
serial-after n i [] r numbered found = absurd (none found)
  where
    none : None ≡ Some r → ⊥
    none e = cc
serial-after n zero (y ∷ ys) r numbered found = (let same : y ≡ r = cc in omega (arith, numbered.0, ap (λ z. z.serial) same))
serial-after n (suc i) (y ∷ ys) r numbered found = (let more = serial-after (suc n) i ys r numbered.1 found in omega (arith, more))

module _ (p : ℕ) (cause : EndCause) where
  abbrev pub ends : Record → Record
  ends r = record r { end = Some (p, cause) }

  -- the list after the run with index i ended, by who begins
  abbrev pub Ended : ℕ → ℕ → ℕ → ℕ → Records → Record → Option ℕ → Type 0
  Ended a n s i rs r None = (ended_at s p cause rs ≡ set rs i (ends r)) × (begun_by s rs ≡ None)
  Ended a n s i rs r (Some next) =
      (at : ℕ) × (next ≡ suc (n + at)) × (at < length rs)
      × ((q : Record) → q ≡ get_or (set rs i (ends r)) at q → (ended_at s p cause rs ≡ set (set rs i (ends r)) at (begins a p q)) × (begun_by s rs ≡ (if is_none q.begin then Some next else None)))

  ended-more : (a n s i : ℕ) (y : Record) (ys : Records) (r : Record) (o : Option ℕ) → nat_eq y.serial s ≡ false → Ended a (suc n) s i ys r o → Ended a n s (suc i) (y ∷ ys) r o
  ended-more a n s i y ys r None e h =
      ((λ k. if e k then ends y ∷ begin_first y.automation p ys else y ∷ ended_at s p cause ys) ∙ ap (λ t. y ∷ t) h.0, (λ k. if e k then waiting_first y.automation ys else begun_by s ys) ∙ h.1)
  ended-more a n s i y ys r (Some next) e h = (
    suc h.0,
    omega (arith, h.1),
    omega (arith, h.2),
    λ q is.
        let one = h.3 q is in
        ((λ k. if e k then ends y ∷ begin_first y.automation p ys else y ∷ ended_at s p cause ys) ∙ ap (λ t. y ∷ t) one.0, (λ k. if e k then waiting_first y.automation ys else begun_by s ys) ∙ one.1),
  )

  run-ended : (a n i : ℕ) (rs : Records) (r : Record) → AreNumbered n rs → slice_get rs i ≡ Some r → r.automation ≡ a → r.end ≡ None → Ended a n r.serial i rs r (first_of (behind r.serial (live_of a rs)))
  run-ended a n i [] r numbered found auto live = absurd (none found)
    where
      none : None ≡ Some r → ⊥
      none e = cc
  run-ended a n zero (y ∷ ys) r numbered found auto live =
      let same : y ≡ r = cc in
      let own : nat_eq y.serial r.serial ≡ true = equal-self y.serial r.serial (ap (λ z. z.serial) same) in
      let is : is_live a y ≡ true = (λ k. nat_eq ((ap (λ z. z.automation) same ∙ auto) k) a && is_none ((ap (λ z. z.end) same ∙ live) k)) ∙ (λ k. equal-self a a refl k && true) in
      let left : first_of (behind r.serial (live_of a (y ∷ ys))) ≡ first_of (live_of a ys)
      = (λ k. first_of (behind r.serial (if is k then y.serial ∷ live_of a ys else live_of a ys))) ∙ (λ k. first_of (if own k then live_of a ys else behind r.serial (live_of a ys))) in
      let whole : ended_at r.serial p cause (y ∷ ys) ≡ ends r ∷ begin_first a p ys
      = (λ k. if own k then ends y ∷ begin_first y.automation p ys else y ∷ ended_at r.serial p cause ys) ∙ (λ k. ends (same k) ∷ begin_first ((ap (λ z. z.automation) same ∙ auto) k) p ys) in
      let said : begun_by r.serial (y ∷ ys) ≡ waiting_first a ys
      = (λ k. if own k then waiting_first y.automation ys else begun_by r.serial ys) ∙ (λ k. waiting_first ((ap (λ z. z.automation) same ∙ auto) k) ys) in
      subst (Ended a n r.serial 0 (y ∷ ys) r) (sym left) (by whole said (first_of (live_of a ys)) refl)
    where
      by : ended_at r.serial p cause (y ∷ ys) ≡ ends r ∷ begin_first a p ys → begun_by r.serial (y ∷ ys) ≡ waiting_first a ys → (o : Option ℕ) → first_of (live_of a ys) ≡ o → Ended a n r.serial 0 (y ∷ ys) r o
      by whole said None f = (let none = none-begins a p ys f in (whole ∙ ap (λ t. ends r ∷ t) none.0, said ∙ none.1))
      by whole said (Some next) f =
          let first = first-begins a p (suc n) next ys numbered.1 f in (
            suc first.at,
            omega (arith, first.serial),
            omega (arith, first.within),
            λ q is. (whole ∙ ap (λ t. ends r ∷ t) (first.begun q is), said ∙ first.told q is),
          )
  run-ended a n (suc i) (y ∷ ys) r numbered found auto live =
      let rest = run-ended a (suc n) i ys r numbered.1 found auto live in
      let other : nat_eq y.serial r.serial ≡ false = not-equal y.serial r.serial (omega (arith, numbered.0, serial-after (suc n) i ys r numbered.1 found)) in
      let left : first_of (behind r.serial (live_of a (y ∷ ys))) ≡ first_of (behind r.serial (live_of a ys)) = past other (is_live a y) in
      subst (Ended a n r.serial (suc i) (y ∷ ys) r) (sym left) (ended-more a n r.serial i y ys r (first_of (behind r.serial (live_of a ys))) other rest)
    where
      past : nat_eq y.serial r.serial ≡ false → (b : Bool) → first_of (behind r.serial (if b then y.serial ∷ live_of a ys else live_of a ys)) ≡ first_of (behind r.serial (live_of a ys))
      past e true = (λ k. first_of (if e k then live_of a ys else behind r.serial (live_of a ys)))
      past e false = refl

  -- what is live then
  ended-live : (a n i q : ℕ) (rs : Records) (r : Record) → AreNumbered n rs → slice_get rs i ≡ Some r → r.automation ≡ a → r.end ≡ None
      → live_of q (ended_at r.serial p cause rs) ≡ (if nat_eq a q then without r.serial (live_of q rs) else live_of q rs)
  ended-live a n i q [] r numbered found auto live = absurd (none found)
    where
      none : None ≡ Some r → ⊥
      none e = cc
  ended-live a n zero q (y ∷ ys) r numbered found auto live =
      let same : y ≡ r = cc in
      let own : nat_eq y.serial r.serial ≡ true = equal-self y.serial r.serial (ap (λ z. z.serial) same) in
      let here : nat_eq y.automation q ≡ nat_eq a q = (λ k. nat_eq ((ap (λ z. z.automation) same ∙ auto) k) q) in
      let alive : is_none y.end ≡ true = (λ k. is_none ((ap (λ z. z.end) same ∙ live) k)) in
      (λ k. live_of q (if own k then ends y ∷ begin_first y.automation p ys else y ∷ ended_at r.serial p cause ys))
      ∙ (λ k. if here k && false then y.serial ∷ live_of q (begin_first y.automation p ys) else live_of q (begin_first y.automation p ys))
      ∙ by own (nat_eq a q)
      ∙ (λ k. if nat_eq a q then without r.serial (if sym here k && sym alive k then y.serial ∷ live_of q ys else live_of q ys) else (if sym here k && sym alive k then y.serial ∷ live_of q ys else live_of q ys))
    where
      by : nat_eq y.serial r.serial ≡ true → (b : Bool) → (if b && false then y.serial ∷ live_of q (begin_first y.automation p ys) else live_of q (begin_first y.automation p ys))
          ≡ (if b then without r.serial (if b && true then y.serial ∷ live_of q ys else live_of q ys) else (if b && true then y.serial ∷ live_of q ys else live_of q ys))
      by own true = begin-live y.automation p q ys ∙ (λ k. if sym own k then live_of q ys else y.serial ∷ without r.serial (live_of q ys))
      by own false = begin-live y.automation p q ys
  ended-live a n (suc i) q (y ∷ ys) r numbered found auto live =
      let other : nat_eq y.serial r.serial ≡ false = not-equal y.serial r.serial (omega (arith, numbered.0, serial-after (suc n) i ys r numbered.1 found)) in
      (λ k. live_of q (if other k then ends y ∷ begin_first y.automation p ys else y ∷ ended_at r.serial p cause ys))
      ∙ (λ k. if is_live q y then y.serial ∷ ended-live a (suc n) i q ys r numbered.1 found auto live k else ended-live a (suc n) i q ys r numbered.1 found auto live k)
      ∙ by other (is_live q y) (nat_eq a q)
    where
      by : nat_eq y.serial r.serial ≡ false → (b c : Bool) → (if b then y.serial ∷ (if c then without r.serial (live_of q ys) else live_of q ys) else (if c then without r.serial (live_of q ys) else live_of q ys))
          ≡ (if c then without r.serial (if b then y.serial ∷ live_of q ys else live_of q ys) else (if b then y.serial ∷ live_of q ys else live_of q ys))
      by e true true = (λ k. if sym e k then live_of q ys else y.serial ∷ without r.serial (live_of q ys))
      by e true false = refl
      by e false true = refl
      by e false false = refl

  ended-count : (s q n : ℕ) (rs : Records) → fold (λ n r. n + cond (nat_eq r.automation q) 1 0) n (ended_at s p cause rs) ≡ fold (λ n r. n + cond (nat_eq r.automation q) 1 0) n rs
  ended-count s q n [] = refl
  ended-count s q n (y ∷ ys) = by (λ m. ended-count s q m ys) (nat_eq y.serial s)
    where
      by : ((m : ℕ) → fold (λ n r. n + cond (nat_eq r.automation q) 1 0) m (ended_at s p cause ys) ≡ fold (λ n r. n + cond (nat_eq r.automation q) 1 0) m ys) → (b : Bool)
          → fold (λ n r. n + cond (nat_eq r.automation q) 1 0) n (if b then ends y ∷ begin_first y.automation p ys else y ∷ ended_at s p cause ys) ≡ fold (λ n r. n + cond (nat_eq r.automation q) 1 0) n (y ∷ ys)
      by ih true = begin-count y.automation p q (n + cond (nat_eq y.automation q) 1 0) ys
      by ih false = ih (n + cond (nat_eq y.automation q) 1 0)

  pub ended-numbered : (s n : ℕ) (rs : Records) → AreNumbered n rs → AreNumbered n (ended_at s p cause rs)
  ended-numbered s n [] h = tt
  ended-numbered s n (y ∷ ys) h = by (ended-numbered s (suc n) ys h.1) (nat_eq y.serial s)
    where
      by : AreNumbered (suc n) (ended_at s p cause ys) → (b : Bool) → AreNumbered n (if b then ends y ∷ begin_first y.automation p ys else y ∷ ended_at s p cause ys)
      by ih true = (h.0, begin-numbered y.automation p (suc n) ys h.1)
      by ih false = (h.0, ih)

  pub ended-fits : (rs : Records) (ls ls' : List Lane) (i : ℕ) (r : Record) → Fits rs ls → slice_get rs i ≡ Some r → r.end ≡ None
      → ChangesLane ls ls' r.automation (made_in r.automation ls) (without r.serial (live_in r.automation ls)) → Fits (ended_at r.serial p cause rs) ls'
  ended-fits rs ls ls' i r fits found live change =
      let said = λ (q : ℕ). ended-live r.automation 0 i q rs r fits.numbered found refl live in
      fits-changed rs (ended_at r.serial p cause rs) ls ls' r.automation (made_in r.automation ls) (without r.serial (live_in r.automation ls)) fits change
      (ended-numbered r.serial 0 rs fits.numbered)
      (fits.made r.automation ∙ sym (ended-count r.serial r.automation 0 rs))
      (ap (without r.serial) (fits.live r.automation) ∙ (λ k. if sym (equal-self r.automation r.automation refl) k then without r.serial (live_of r.automation rs) else live_of r.automation rs) ∙ sym (said r.automation))
      (λ q e. (ended-count r.serial q 0 rs, said q ∙ (λ k. if e k then without r.serial (live_of q rs) else live_of q rs)))

  -- the list and the answer, as the code makes them: the run at i ends, and then the one that is next begins, if it has not begun
  pub ended-written : (rs : Records) (i : ℕ) (r : Record) → AreNumbered 0 rs → slice_get rs i ≡ Some r → r.end ≡ None → Ended r.automation 0 r.serial i rs r (first_of (behind r.serial (live_of r.automation rs)))
  ended-written rs i r numbered found live = run-ended r.automation 0 i rs r numbered found refl live

  pub next-within : (a s i : ℕ) (rs rs1 : Records) (r : Record) (next : Option ℕ) → Ended a 0 s i rs r next → rs1 ≡ set rs i (ends r) → IfSome next (λ n. (1 ≤ n) × (n - 1 < length rs1))
  next-within a s i rs rs1 r None h is = tt
  next-within a s i rs rs1 r (Some n) h is = (omega (arith, h.1), omega (arith, h.1, h.2, ap length is, length-set rs i (ends r)))

  pub run-written : (a s i : ℕ) (rs rs1 rs2 : Records) (r : Record) (next answer : Option ℕ) → Ended a 0 s i rs r next → rs1 ≡ set rs i (ends r)
      → (next ≡ None → (rs2 ≡ rs1) × (answer ≡ None))
      → ((n : ℕ) (q : Record) → next ≡ Some n → q ≡ get_or rs1 (n - 1) q → (rs2 ≡ set rs1 (n - 1) (begins_at p q)) × (answer ≡ (if is_none q.begin then Some n else None)))
      → (rs2 ≡ ended_at s p cause rs) × (answer ≡ begun_by s rs)
  run-written a s i rs rs1 rs2 r None answer h is none some = (let n = none refl in (n.0 ∙ is ∙ sym h.0, n.1 ∙ sym h.1))
  run-written a s i rs rs1 rs2 r (Some n) answer h is none some =
      let place : h.0 ≡ n - 1 = omega (arith, h.1) in
      let one = record-at h.0 (set rs i (ends r)) (omega (arith, h.2, length-set rs i (ends r))) in
      let read : one.0 ≡ get_or rs1 (n - 1) one.0 = one.1 ∙ (λ k. get_or (sym is k) (place k) one.0) in
      let written = some n one.0 refl read in
      let told = h.3 one.0 one.1 in
      (written.0 ∙ (λ k. set (is k) (sym place k) (begins_at p one.0)) ∙ sym told.0, written.1 ∙ sym told.1)
