-- A record among those of the whole journal, and taken back into its segment.
use Rattle.std.proofs.Common.{◌≡◌, ℕ, zero, suc, ◌+◌, ◌-◌, ◌<◌, ◌≤◌, inl, inr, [], ◌∷◌, ◌++◌, Bool, true, false, refl, sym, ◌∙◌, rules, arith, Option}
use Rattle.std.specs.Prelude.{Some, None, ◌&&◌, ◌⊎◌, nat_lt, nat_le, map, drop, option_map}
use Rattle.std.specs.Option.{option_map_or}
use Rattle.ha_model.specs.declared.record.EndCause.{EndCause}
use Rattle.ha_model.specs.declared.record.Record.{Record}
use Rattle.ha_journal.specs.Journal.{Journal, units}
use Rattle.ha_config.specs.Names.{name_of}
use Rattle.ha_model.specs.Records.{Records}
use Rattle.ha_model.specs.Lawful.{is_running}
use Rattle.ha_whole.specs.Segments.{carried, carried_number}
use Rattle.ha_whole.specs.Whole.{placed, placed_all, taken_back}
use Rattle.ha_model.proofs.AppendLemmas.{SameUpTo}

-- ---- tests of numbers

by-order : (a b : ℕ) → (a < b) ⊎ (b ≤ a)
by-order zero zero = inr (omega arith)
by-order zero (suc b) = inl (omega arith)
by-order (suc a) zero = inr (omega arith)
by-order (suc a) (suc b) = by (by-order a b)
  where
    by : (a < b) ⊎ (b ≤ a) → (suc a < suc b) ⊎ (suc b ≤ suc a)
    by (inl h) = inl (omega (arith, h))
    by (inr h) = inr (omega (arith, h))

lt-yes : (a b : ℕ) → a < b → nat_lt a b ≡ true
lt-yes a b h = search rules

lt-no : (a b : ℕ) → b ≤ a → nat_lt a b ≡ false
lt-no a b h = search rules

le-yes : (a b : ℕ) → a ≤ b → nat_le a b ≡ true
le-yes a b h = search rules

le-no : (a b : ℕ) → b < a → nat_le a b ≡ false
le-no a b h = search rules

lt-placed : (n b m : ℕ) → nat_lt (n + b) m ≡ nat_lt b (m - n)
lt-placed n b m = by (by-order (n + b) m)
  where
    by : ((n + b) < m) ⊎ (m ≤ (n + b)) → nat_lt (n + b) m ≡ nat_lt b (m - n)
    by (inl h) = lt-yes (n + b) m h ∙ sym (lt-yes b (m - n) (omega (arith, h)))
    by (inr h) = lt-no (n + b) m h ∙ sym (lt-no b (m - n) (omega (arith, h)))

le-placed : (n e m : ℕ) → nat_le m (n + e) ≡ nat_le (m - n) e
le-placed n e m = by (by-order (n + e) m)
  where
    by : ((n + e) < m) ⊎ (m ≤ (n + e)) → nat_le m (n + e) ≡ nat_le (m - n) e
    by (inl h) = le-no m (n + e) h ∙ sym (le-no (m - n) e (omega (arith, h)))
    by (inr h) = le-yes m (n + e) h ∙ sym (le-yes (m - n) e (omega (arith, h)))

lt-back : (n b m : ℕ) → nat_lt (b - n) (suc m) ≡ nat_lt b (n + suc m)
lt-back n b m = by (by-order b (n + suc m))
  where
    by : (b < (n + suc m)) ⊎ ((n + suc m) ≤ b) → nat_lt (b - n) (suc m) ≡ nat_lt b (n + suc m)
    by (inl h) = lt-yes (b - n) (suc m) (omega (arith, h)) ∙ sym (lt-yes b (n + suc m) h)
    by (inr h) = lt-no (b - n) (suc m) (omega (arith, h)) ∙ sym (lt-no b (n + suc m) h)

le-back : (n e m : ℕ) → nat_le (suc m) (e - n) ≡ nat_le (n + suc m) e
le-back n e m = by (by-order e (n + suc m))
  where
    by : (e < (n + suc m)) ⊎ ((n + suc m) ≤ e) → nat_le (suc m) (e - n) ≡ nat_le (n + suc m) e
    by (inl h) = le-no (suc m) (e - n) (omega (arith, h)) ∙ sym (le-no (n + suc m) e h)
    by (inr h) = le-yes (suc m) (e - n) (omega (arith, h)) ∙ sym (le-yes (n + suc m) e h)

-- ---- whether it runs

begun_by : ℕ → Option ℕ → Bool
begun_by m o = option_map_or (λ b. nat_lt b m) o false

lasts_to : ℕ → Option (ℕ × EndCause) → Bool
lasts_to m o = option_map_or (λ e. nat_le m e.0) o true

abbrev runs : ℕ → Option ℕ → Option (ℕ × EndCause) → Bool
runs m b e = option_map_or (λ b. nat_lt b m) b false && option_map_or (λ e. nat_le m e.0) e true

-- a placed record runs where it ran in its segment
pub placed-running : (n : ℕ) (s : Journal) (r : Record) (m : ℕ) → is_running m (placed n s r) ≡ is_running (m - n) r
placed-running n s r m = by r.begin r.end
  where
    by : (b : Option ℕ) (e : Option (ℕ × EndCause)) → runs m (option_map (λ p. n + p) b) (option_map (λ e. (n + e.0, e.1)) e) ≡ runs (m - n) b e
    by None None = refl
    by None (Some e) = refl
    by (Some b) None = (λ i. lt-placed n b m i && true)
    by (Some b) (Some e) = (λ i. lt-placed n b m i && le-placed n e.0 m i)

-- nothing runs at the front
pub never-first : (r : Record) → is_running 0 r ≡ false
never-first r = by r.begin r.end
  where
    by : (b : Option ℕ) (e : Option (ℕ × EndCause)) → runs 0 b e ≡ false
    by None e = refl
    by (Some b) e = (let no : nat_lt b 0 ≡ false = lt-no b 0 (omega arith) in λ i. no i && option_map_or (λ e. nat_le 0 e.0) e true)

-- one that is taken back runs behind the front where it ran
pub back-running : (n : ℕ) (s : Journal) (r : Record) (m : ℕ) → is_running (suc m) (taken_back n s r) ≡ is_running (n + suc m) r
back-running n s r m = by r.begin r.end
  where
    by : (b : Option ℕ) (e : Option (ℕ × EndCause)) → runs (suc m) (option_map (λ p. p - n) b) (option_map (λ e. (e.0 - n, e.1)) e) ≡ runs (n + suc m) b e
    by None None = refl
    by None (Some e) = refl
    by (Some b) None = (λ i. lt-back n b m i && true)
    by (Some b) (Some e) = (λ i. lt-back n b m i && le-back n e.0 m i)

-- ---- there and back

cut-off : (n a : ℕ) → (n + a) - n ≡ a
cut-off n a = omega arith

back-place : (n : ℕ) (o : Option ℕ) → option_map (λ p. p - n) (option_map (λ p. n + p) o) ≡ o
back-place n None = refl
back-place n (Some p) = (λ i. Some (cut-off n p i))

back-end : (n : ℕ) (o : Option (ℕ × EndCause)) → option_map {T = ℕ × EndCause} (λ e. (e.0 - n, e.1)) (option_map {T = ℕ × EndCause} (λ e. (n + e.0, e.1)) o) ≡ o
back-end n None = refl
back-end n (Some e) = (λ i. Some (cut-off n e.0 i, e.1))

pub back-placed : (n : ℕ) (s : Journal) (r : Record) → taken_back n s (placed n s r) ≡ r
back-placed n s r = λ i. record r {
  serial = cut-off (carried s) r.serial i;
  number = cut-off (carried_number s (name_of (units s) r.automation)) r.number i;
  place = cut-off n r.place i;
  begin = back-place n r.begin i;
  end = back-end n r.end i;
}

abbrev back_all : ℕ → Journal → Records → Records
back_all n s rs = map {A = Record} {B = Record} (taken_back n s) rs

pub back-placed-all : (n : ℕ) (s : Journal) (rs : Records) → back_all n s (placed_all n s rs) ≡ rs
back-placed-all n s [] = refl
back-placed-all n s (r ∷ rs) = (λ i. back-placed n s r i ∷ back-placed-all n s rs i)

-- ---- the same up to a place

-- placed records are the same up to where their segment's are
pub same-placed : (n m : ℕ) (s s' : Journal) → carried s ≡ carried s' → (rs rs' : Records) → SameUpTo m rs rs' → SameUpTo (n + m) (placed_all n s rs) (placed_all n s' rs')
same-placed n m s s' c [] [] h = tt
same-placed n m s s' c [] (r' ∷ rs') h = ((λ k le. placed-running n s' r' k ∙ h.0 (k - n) (omega (arith, le))), same-placed n m s s' c [] rs' h.1)
same-placed n m s s' c (r ∷ rs) [] h = absurd h
same-placed n m s s' c (r ∷ rs) (r' ∷ rs') h = (
  record {
    serial = (λ i. c i + h.0.serial i);
    automation = h.0.automation;
    env = h.0.env;
    running = λ k le. placed-running n s r k ∙ h.0.running (k - n) (omega (arith, le)) ∙ sym (placed-running n s' r' k);
  },
  same-placed n m s s' c rs rs' h.1,
)

-- records of which none has begun by its front
pub same-later : (n : ℕ) (s : Journal) (rs : Records) → SameUpTo n [] (placed_all n s rs)
same-later n s [] = tt
same-later n s (r ∷ rs) =
    ((λ k le. (let z : k - n ≡ 0 = omega (arith, le) in placed-running n s r k ∙ (λ i. is_running (z i) r) ∙ never-first r)), same-later n s rs)

-- behind what is the same on both sides
pub same-behind : (n : ℕ) (front rs rs' : Records) → SameUpTo n rs rs' → SameUpTo n (front ++ rs) (front ++ rs')
same-behind n [] rs rs' h = h
same-behind n (r ∷ front) rs rs' h = (record { serial = refl; automation = refl; env = refl; running = λ m le. refl }, same-behind n front rs rs' h)

same-none : (n c : ℕ) (rs : Records) → SameUpTo n [] rs → SameUpTo n [] (drop c rs)
same-none n zero rs h = h
same-none n (suc c) [] h = tt
same-none n (suc c) (r ∷ rs) h = same-none n c rs h.1

pub same-drop : (n c : ℕ) (rs rs' : Records) → SameUpTo n rs rs' → SameUpTo n (drop c rs) (drop c rs')
same-drop n zero rs rs' h = h
same-drop n (suc c) [] [] h = tt
same-drop n (suc c) [] (r' ∷ rs') h = same-none n c rs' h.1
same-drop n (suc c) (r ∷ rs) [] h = absurd h
same-drop n (suc c) (r ∷ rs) (r' ∷ rs') h = same-drop n c rs rs' h.1

running-back : (n m : ℕ) (s : Journal) (r r' : Record) → ((k : ℕ) → k ≤ n + m → is_running k r ≡ is_running k r') → (k : ℕ) → k ≤ m → is_running k (taken_back n s r) ≡ is_running k (taken_back n s r')
running-back n m s r r' h zero le = never-first (taken_back n s r) ∙ sym (never-first (taken_back n s r'))
running-back n m s r r' h (suc k) le = back-running n s r k ∙ h (n + suc k) (omega (arith, le)) ∙ sym (back-running n s r' k)

stopped-back : (n m : ℕ) (s : Journal) (r : Record) → ((k : ℕ) → k ≤ n + m → is_running k r ≡ false) → (k : ℕ) → k ≤ m → is_running k (taken_back n s r) ≡ false
stopped-back n m s r h zero le = never-first (taken_back n s r)
stopped-back n m s r h (suc k) le = back-running n s r k ∙ h (n + suc k) (omega (arith, le))

pub same-back : (n m : ℕ) (s : Journal) (rs rs' : Records) → SameUpTo (n + m) rs rs' → SameUpTo m (back_all n s rs) (back_all n s rs')
same-back n m s [] [] h = tt
same-back n m s [] (r' ∷ rs') h = (stopped-back n m s r' h.0, same-back n m s [] rs' h.1)
same-back n m s (r ∷ rs) [] h = absurd h
same-back n m s (r ∷ rs) (r' ∷ rs') h = (
  record {
    serial = (λ i. h.0.serial i - carried s);
    automation = h.0.automation;
    env = h.0.env;
    running = running-back n m s r r' h.0.running;
  },
  same-back n m s rs rs' h.1,
)
