-- How the records change, and that what stands beside them still fits.
use Rattle.std.proofs.Common.{◌≡◌, ℕ, zero, suc, ◌+◌, ◌-◌, ◌<◌, ◌≤◌, List, [], ◌∷◌, ◌++◌, length, map, set, get_or, Bool, true, false, refl, ap, sym, subst, ◌∙◌, rules, arith, Option}
use Rattle.std.specs.Prelude.{Some, None, cond, nat_eq, slice_get, is_none, count_by, fold, ◌&&◌, if◌then◌else◌}
use Rattle.std.proofs.lemmas.Bool.{eqb-true}
use Rattle.ha_model.specs.declared.record.EndCause.{EndCause}
use Rattle.ha_model.specs.declared.record.Record.{Record}
use Rattle.ha_model.specs.Records.{Records, live_count}
use Rattle.ha_config.specs.Words.{or_else}
use Rattle.ha_model.specs.RunSteps.{ends_for, replace_all}
use Rattle.run_modes.specs.declared.lanes.Lane.{Lane}
use Rattle.run_modes.specs.Lanes.{made_in, live_in, ChangesLane}
use Rattle.run_modes.specs.Table.{is_live, live_of, ended_live, end_one}
use Rattle.run_modes.specs.Fits.{AreNumbered, Fits}

equal-self : (a : ℕ) → nat_eq a a ≡ true
equal-self a = search rules

-- ---- the first live run of an automation ends

module _ (a : ℕ) (undo : Bool) (p : ℕ) (cause : EndCause) where
  abbrev ends : Record → Record
  ends r = end_one undo p cause r

  -- what is said of the list after its first live run of the automation, with this serial, ended
  record FirstEnds (n s : ℕ) (ss : List ℕ) (rs : Records) : Type 0 where
    at : ℕ
    serial : s ≡ suc (n + at)
    within : at < length rs
    live : (r : Record) → r ≡ get_or rs at r → live_of a (set rs at (ends r)) ≡ ss
    same : (r : Record) → r ≡ get_or rs at r → ended_live a undo p cause (set rs at (ends r)) ≡ ended_live a undo p cause rs
    numbered : (r : Record) → r ≡ get_or rs at r → AreNumbered n (set rs at (ends r))

  -- an ended run is live no more
  ended-not-live : (q : ℕ) (r : Record) → is_live q (ends r) ≡ false
  ended-not-live q r = both (nat_eq r.automation q)
    where
      both : (b : Bool) → (b && false) ≡ false
      both true = refl
      both false = refl

  first-ends : (n s : ℕ) (ss : List ℕ) (rs : Records) → AreNumbered n rs → live_of a rs ≡ s ∷ ss → FirstEnds n s ss rs
  first-ends n s ss [] numbered e = absurd (none e)
    where
      none : [] ≡ s ∷ ss → ⊥
      none e = cc
  first-ends n s ss (y ∷ ys) numbered e = by (λ h. first-ends (suc n) s ss ys numbered.1 h) (is_live a y) refl e
    where
      gone : (r : Record) → is_live a (ends r) ≡ false
      gone r = ended-not-live a r

      by : (live_of a ys ≡ s ∷ ss → FirstEnds (suc n) s ss ys) → (b : Bool) → is_live a y ≡ b → (if b then y.serial ∷ live_of a ys else live_of a ys) ≡ s ∷ ss → FirstEnds n s ss (y ∷ ys)
      by ih true f h = record {
        at = 0;
        serial = (let e : y.serial ≡ s = cc in omega (arith, e, numbered.0));
        within = omega arith;
        live = λ r is. (λ i. if gone r i then r.serial ∷ live_of a ys else live_of a ys) ∙ (let e : live_of a ys ≡ ss = cc in e);
        same = λ r is. (λ i. (if gone r i then ends (ends r) else ends r) ∷ ended_live a undo p cause ys) ∙ (λ i. (if sym f i then ends (is i) else is i) ∷ ended_live a undo p cause ys);
        numbered = λ r is. ((λ i. (is i).serial) ∙ numbered.0, numbered.1);
      }
      by ih false f h =
          let rest = ih h in
          record {
            at = suc rest.at;
            serial = omega (arith, rest.serial);
            within = omega (arith, rest.within);
            live = λ r is. (λ i. if f i then y.serial ∷ live_of a (set ys rest.at (ends r)) else live_of a (set ys rest.at (ends r))) ∙ rest.live r is;
            same = λ r is. (λ i. (if is_live a y then ends y else y) ∷ rest.same r is i);
            numbered = λ r is. (numbered.0, rest.numbered r is);
          }

  -- where none is live, none ends
  pub none-ends : (rs : Records) → live_of a rs ≡ [] → ended_live a undo p cause rs ≡ rs
  none-ends [] e = refl
  none-ends (y ∷ ys) e = by (none-ends ys) (is_live a y) e
    where
      by : (live_of a ys ≡ [] → ended_live a undo p cause ys ≡ ys) → (b : Bool) → (if b then y.serial ∷ live_of a ys else live_of a ys) ≡ [] → (if b then ends y else y) ∷ ended_live a undo p cause ys ≡ y ∷ ys
      by ih true f = absurd (some f)
        where
          some : y.serial ∷ live_of a ys ≡ [] → ⊥
          some f = cc
      by ih false f = ap (λ t. y ∷ t) (ih f)

  pub first-within : (s : ℕ) (ss : List ℕ) (rs : Records) → AreNumbered 0 rs → live_of a rs ≡ s ∷ ss → (1 ≤ s) × (s - 1 < length rs)
  first-within s ss rs numbered e = (let first = first-ends 0 s ss rs numbered e in (omega (arith, first.serial), omega (arith, first.serial, first.within)))

pub record-at : (i : ℕ) (rs : Records) → i < length rs → (r : Record) × (r ≡ get_or rs i r)
record-at i [] lt = absurd (omega arith)
record-at zero (r ∷ rs) lt = (r, refl)
record-at (suc i) (r ∷ rs) lt = record-at i rs (omega arith)

pub first-ended : (a : ℕ) (undo : Bool) (p : ℕ) (cause : EndCause) (s : ℕ) (ss : List ℕ) (rs rs' : Records) → AreNumbered 0 rs → live_of a rs ≡ s ∷ ss
    → ((r : Record) → r ≡ get_or rs (s - 1) r → rs' ≡ set rs (s - 1) (end_one undo p cause r))
    → (ended_live a undo p cause rs' ≡ ended_live a undo p cause rs) × (ss ≡ live_of a rs') × AreNumbered 0 rs'
first-ended a undo p cause s ss rs rs' numbered e written =
    let first = first-ends a undo p cause 0 s ss rs numbered e in
    let here : first.at ≡ s - 1 = omega (arith, first.serial) in
    let one = record-at first.at rs first.within in
    let is : rs' ≡ set rs first.at (end_one undo p cause one.0) = written one.0 (subst (λ i. one.0 ≡ get_or rs i one.0) here one.1) ∙ (λ i. set rs (sym here i) (end_one undo p cause one.0)) in (
      ap (ended_live a undo p cause) is ∙ first.same one.0 one.1,
      sym (first.live one.0 one.1) ∙ ap (live_of a) (sym is),
      subst (AreNumbered 0) (sym is) (first.numbered one.0 one.1),
    )

-- ---- what fits still fits

abbrev pub count_of : ℕ → Records → ℕ
count_of a rs = count_by (λ r. nat_eq r.automation a) rs

-- records that say the same of another automation
abbrev pub SaysTheSame : ℕ → Records → Records → Type 0
SaysTheSame q rs rs' = (count_of q rs' ≡ count_of q rs) × (live_of q rs' ≡ live_of q rs)

pub fits-changed : (rs rs' : Records) (ls ls' : List Lane) (a m : ℕ) (ss : List ℕ) → Fits rs ls → ChangesLane ls ls' a m ss → AreNumbered 0 rs' → m ≡ count_of a rs' → ss ≡ live_of a rs'
    → ((q : ℕ) → nat_eq a q ≡ false → SaysTheSame q rs rs') → Fits rs' ls'
fits-changed rs rs' ls ls' a m ss fits change numbered count live others = record {
  numbered = numbered;
  apart = change.apart fits.apart;
  made = λ q. change.made q ∙ made_by q (nat_eq a q) refl;
  live = λ q. change.live q ∙ live_by q (nat_eq a q) refl;
}
  where
    made_by : (q : ℕ) (b : Bool) → nat_eq a q ≡ b → (if b then m else made_in q ls) ≡ count_of q rs'
    made_by q true e = count ∙ (λ i. count_of (eqb-true a q e i) rs')
    made_by q false e = fits.made q ∙ sym (others q e).0

    live_by : (q : ℕ) (b : Bool) → nat_eq a q ≡ b → (if b then ss else live_in q ls) ≡ live_of q rs'
    live_by q true e = live ∙ (λ i. live_of (eqb-true a q e i) rs')
    live_by q false e = fits.live q ∙ sym (others q e).1

-- the count looks at units alone
count-map : (f : Record → Record) → ((r : Record) → (f r).automation ≡ r.automation) → (q : ℕ) (rs : Records) → count_of q (map f rs) ≡ count_of q rs
count-map f same q rs = go 0 rs
  where
    go : (n : ℕ) (rs : Records) → fold (λ n r. n + cond (nat_eq r.automation q) 1 0) n (map f rs) ≡ fold (λ n r. n + cond (nat_eq r.automation q) 1 0) n rs
    go n [] = refl
    go n (r ∷ rs) = (λ i. fold (λ n r. n + cond (nat_eq r.automation q) 1 0) (n + cond (nat_eq (same r i) q) 1 0) (map f rs)) ∙ go (n + cond (nat_eq r.automation q) 1 0) rs

end-automation : (a : ℕ) (undo : Bool) (p : ℕ) (cause : EndCause) (r : Record) → (if is_live a r then end_one undo p cause r else r).automation ≡ r.automation
end-automation a undo p cause r = by (is_live a r)
  where
    by : (b : Bool) → (if b then end_one undo p cause r else r).automation ≡ r.automation
    by true = refl
    by false = refl

and-left : (b c : Bool) → (b && c) ≡ true → b ≡ true
and-left true c e = refl
and-left false c e = cc

and-right : (b c : Bool) → (b && c) ≡ true → c ≡ true
and-right true c e = e
and-right false c e = cc

pub live-others : (a : ℕ) (undo : Bool) (p : ℕ) (cause : EndCause) (q : ℕ) → nat_eq a q ≡ false → (rs : Records) → live_of q (ended_live a undo p cause rs) ≡ live_of q rs
live-others a undo p cause q e [] = refl
live-others a undo p cause q e (r ∷ rs) = by (live-others a undo p cause q e rs) (is_live a r) refl
  where
    other : is_live a r ≡ true → nat_eq r.automation q ≡ false
    other f = (λ i. nat_eq (eqb-true r.automation a (and-left (nat_eq r.automation a) (is_none r.end) f) i) q) ∙ e

    by : live_of q (ended_live a undo p cause rs) ≡ live_of q rs → (b : Bool) → is_live a r ≡ b → live_of q ((if b then end_one undo p cause r else r) ∷ ended_live a undo p cause rs) ≡ live_of q (r ∷ rs)
    by ih false f = (λ i. if is_live q r then r.serial ∷ ih i else ih i)
    by ih true f =
        (λ i. if other f i && false then r.serial ∷ live_of q (ended_live a undo p cause rs) else live_of q (ended_live a undo p cause rs)) ∙ ih
        ∙ (λ i. if sym (other f) i && is_none r.end then r.serial ∷ live_of q rs else live_of q rs)

pub ended-fits : (rs rs' : Records) (ls ls' : List Lane) (a : ℕ) (undo : Bool) (p : ℕ) (cause : EndCause) → Fits rs ls → ChangesLane ls ls' a (made_in a ls) [] → AreNumbered 0 rs'
    → [] ≡ live_of a rs' → rs' ≡ ended_live a undo p cause rs → Fits rs' ls'
ended-fits rs rs' ls ls' a undo p cause fits change numbered none is =
    let count : (q : ℕ) → count_of q rs' ≡ count_of q rs
    = λ q. ap (count_of q) is ∙ count-map (λ r. if is_live a r then end_one undo p cause r else r) (end-automation a undo p cause) q rs in
    fits-changed rs rs' ls ls' a (made_in a ls) [] fits change numbered (fits.made a ∙ sym (count a)) none
    (λ q e. (count q, ap (live_of q) is ∙ live-others a undo p cause q e rs))

-- ---- what is read at an index

pub read-at : (rs : Records) (i : ℕ) (r : Record) → slice_get rs i ≡ Some r → (d : Record) → get_or rs i d ≡ r
read-at [] i r e d = cc
read-at (y ∷ ys) zero r e d = cc
read-at (y ∷ ys) (suc i) r e d = read-at ys i r e d

pub read-within : (rs : Records) (i : ℕ) (r : Record) → slice_get rs i ≡ Some r → i < length rs
read-within [] i r e = cc
read-within (y ∷ ys) zero r e = omega arith
read-within (y ∷ ys) (suc i) r e = omega (arith, read-within ys i r e)

-- the record at an index, and the same at another way of reading it
pub read-some : (rs : Records) (i : ℕ) → i < length rs → (d : Record) → slice_get rs i ≡ Some (get_or rs i d)
read-some [] i lt d = absurd (omega arith)
read-some (y ∷ ys) zero lt d = refl
read-some (y ∷ ys) (suc i) lt d = read-some ys i (omega arith) d

pub serial-at : (n i : ℕ) (rs : Records) (r : Record) → AreNumbered n rs → slice_get rs i ≡ Some r → r.serial ≡ suc (n + i)
serial-at n i [] r numbered e = cc
serial-at n zero (y ∷ ys) r numbered e = (let same : y ≡ r = cc in omega (arith, numbered.0, ap (λ z. z.serial) same))
serial-at n (suc i) (y ∷ ys) r numbered e = omega (arith, serial-at (suc n) i ys r numbered.1 e)

-- ---- an attempt

live-counted : (a n : ℕ) (rs : Records) → fold (λ n r. n + cond (is_live a r) 1 0) n rs ≡ n + length (live_of a rs)
live-counted a n [] = omega arith
live-counted a n (r ∷ rs) = by (is_live a r) (λ m. live-counted a m rs)
  where
    by : (b : Bool) → ((m : ℕ) → fold (λ n r. n + cond (is_live a r) 1 0) m rs ≡ m + length (live_of a rs)) → fold (λ n r. n + cond (is_live a r) 1 0) (n + cond b 1 0) rs ≡ n + length (if b then r.serial ∷ live_of a rs else live_of a rs)
    by true ih = ih (n + 1) ∙ omega arith
    by false ih = ih (n + 0) ∙ omega arith

pub live-length : (a : ℕ) (rs : Records) → live_count a rs ≡ length (live_of a rs)
live-length a rs = live-counted a 0 rs ∙ omega arith

pub replaced : (a p : ℕ) (rs : Records) → ended_live a false p EndCause.Replaced rs ≡ replace_all a p rs
replaced a p [] = refl
replaced a p (r ∷ rs) = (λ i. by (nat_eq r.automation a) r.end refl i ∷ replaced a p rs i)
  where
    by : (b : Bool) (e : Option (ℕ × EndCause)) → r.end ≡ e → (if b && is_none e then end_one false p EndCause.Replaced r else r) ≡ ends_for p (if b then Some EndCause.Replaced else None) r
    by true None f = (λ i. record r { end = or_else (sym f i) (Some (p, EndCause.Replaced)) })
    by true (Some x) f = (λ i. record r { end = f i }) ∙ (λ i. record r { end = or_else (sym f i) (Some (p, EndCause.Replaced)) })
    by false None f = (λ i. record r { end = f i }) ∙ (λ i. record r { end = or_else (sym f i) None })
    by false (Some x) f = (λ i. record r { end = f i }) ∙ (λ i. record r { end = or_else (sym f i) None })

-- nothing is live: nothing is replaced
pub none-replaced : (a p : ℕ) (rs : Records) → live_of a rs ≡ [] → rs ≡ replace_all a p rs
none-replaced a p rs e = sym (none-ends a false p EndCause.Replaced rs e) ∙ replaced a p rs

abbrev pub Appended : Records → Record → Records
Appended rs new = rs ++ new ∷ []

pub numbered-snoc : (n : ℕ) (rs : Records) (new : Record) → AreNumbered n rs → new.serial ≡ suc (n + length rs) → AreNumbered n (Appended rs new)
numbered-snoc n [] new h e = (omega (arith, e), tt)
numbered-snoc n (y ∷ ys) new h e = (h.0, numbered-snoc (suc n) ys new h.1 (omega (arith, e)))

live-snoc : (q : ℕ) (rs : Records) (new : Record) → live_of q (Appended rs new) ≡ live_of q rs ++ live_of q (new ∷ [])
live-snoc q [] new = refl
live-snoc q (y ∷ ys) new = by (is_live q y) (live-snoc q ys new)
  where
    by : (b : Bool) → live_of q (Appended ys new) ≡ live_of q ys ++ live_of q (new ∷ []) → (if b then y.serial ∷ live_of q (Appended ys new) else live_of q (Appended ys new)) ≡ (if b then y.serial ∷ live_of q ys else live_of q ys) ++ live_of q (new ∷ [])
    by true ih = ap (λ t. y.serial ∷ t) ih
    by false ih = ih

count-snoc : (q n : ℕ) (rs : Records) (new : Record) → fold (λ n r. n + cond (nat_eq r.automation q) 1 0) n (Appended rs new) ≡ fold (λ n r. n + cond (nat_eq r.automation q) 1 0) n rs + cond (nat_eq new.automation q) 1 0
count-snoc q n [] new = refl
count-snoc q n (y ∷ ys) new = count-snoc q (n + cond (nat_eq y.automation q) 1 0) ys new

plus-nil : (xs : List ℕ) → xs ++ [] ≡ xs
plus-nil [] = refl
plus-nil (x ∷ xs) = ap (λ t. x ∷ t) (plus-nil xs)

pub admitted-fits : (rs : Records) (ls ls' : List Lane) (new : Record) → Fits rs ls → new.serial ≡ suc (length rs) → new.end ≡ None
    → ChangesLane ls ls' new.automation (suc (made_in new.automation ls)) (live_in new.automation ls ++ new.serial ∷ []) → Fits (Appended rs new) ls'
admitted-fits rs ls ls' new fits serial live change =
    fits-changed rs (Appended rs new) ls ls' new.automation (suc (made_in new.automation ls)) (live_in new.automation ls ++ new.serial ∷ []) fits change
    (numbered-snoc 0 rs new fits.numbered (omega (arith, serial)))
    (ap suc (fits.made new.automation) ∙ one-more ∙ sym (count-snoc new.automation 0 rs new))
    ((λ i. fits.live new.automation i ++ new.serial ∷ []) ∙ own ∙ sym (live-snoc new.automation rs new))
    (λ q e. (count-snoc q 0 rs new ∙ none q e, live-snoc q rs new ∙ other q e))
  where
    self : nat_eq new.automation new.automation ≡ true
    self = equal-self new.automation

    one-more : suc (count_of new.automation rs) ≡ count_of new.automation rs + cond (nat_eq new.automation new.automation) 1 0
    one-more = (let t : count_of new.automation rs + 1 ≡ suc (count_of new.automation rs) = omega arith in sym t ∙ (λ i. count_of new.automation rs + cond (sym self i) 1 0))

    own : live_of new.automation rs ++ new.serial ∷ [] ≡ live_of new.automation rs ++ live_of new.automation (new ∷ [])
    own = (λ i. live_of new.automation rs ++ (if sym self i && is_none (sym live i) then new.serial ∷ [] else []))

    none : (q : ℕ) → nat_eq new.automation q ≡ false → count_of q rs + cond (nat_eq new.automation q) 1 0 ≡ count_of q rs
    none q e = (λ i. count_of q rs + cond (e i) 1 0) ∙ zero-more (count_of q rs)
      where
        zero-more : (m : ℕ) → m + 0 ≡ m
        zero-more m = omega arith

    other : (q : ℕ) → nat_eq new.automation q ≡ false → live_of q rs ++ live_of q (new ∷ []) ≡ live_of q rs
    other q e = (λ i. live_of q rs ++ (if e i && is_none new.end then new.serial ∷ [] else [])) ∙ plus-nil (live_of q rs)

pub live-at-most : (a : ℕ) (rs : Records) → length (live_of a rs) ≤ length rs
live-at-most a [] = omega arith
live-at-most a (r ∷ rs) = by (is_live a r) (live-at-most a rs)
  where
    by : (b : Bool) → length (live_of a rs) ≤ length rs → length (if b then r.serial ∷ live_of a rs else live_of a rs) ≤ suc (length rs)
    by true ih = omega (arith, ih)
    by false ih = omega (arith, ih)

count-at-most : (a n : ℕ) (rs : Records) → fold (λ n r. n + cond (nat_eq r.automation a) 1 0) n rs ≤ n + length rs
count-at-most a n [] = omega arith
count-at-most a n (r ∷ rs) = by (nat_eq r.automation a) (λ m. count-at-most a m rs)
  where
    by : (b : Bool) → ((m : ℕ) → fold (λ n r. n + cond (nat_eq r.automation a) 1 0) m rs ≤ m + length rs) → fold (λ n r. n + cond (nat_eq r.automation a) 1 0) (n + cond b 1 0) rs ≤ n + suc (length rs)
    by true ih = omega (arith, ih (n + 1))
    by false ih = omega (arith, ih (n + 0))

pub made-at-most : (a : ℕ) (rs : Records) → count_of a rs ≤ length rs
made-at-most a rs = omega (arith, count-at-most a 0 rs)
