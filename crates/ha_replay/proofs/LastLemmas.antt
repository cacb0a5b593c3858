-- The last line of a source tells the number of its next one, and whether the source is shut.
use Rattle.std.proofs.Common.{◌≡◌, ◌∙◌, ap, sym, subst, refl, ℕ, zero, suc, ◌+◌, ◌<◌, List, [], ◌∷◌, ◌++◌, ◌≤◌, length, get_or, drop, take, drop-cons, cond, Bool, true, false, arith, rules, append_assoc}
use Rattle.std.proofs.lemmas.List.Folds.{list_any-append}
use Rattle.std.proofs.lemmas.List.Sums.{sum_by-append}
use Rattle.std.specs.Prelude.{◌||◌, ◌&&◌, Option, None, Some, nat_eq, count_by, if◌then◌else◌}
use Rattle.std.specs.List.{list_any}
use Rattle.ha_journal.specs.declared.entry.Entry.{Entry}
use Rattle.ha_journal.specs.declared.entry.Entry.TheVariants.{Boot, Line, Step, Again}
use Rattle.ha_config.specs.Words.{EachAfter}
use Rattle.ha_config.specs.Fair.{shuts_source}
use Rattle.ha_journal.specs.Journal.{Journal}
use Rattle.ha_model.specs.Records.{Records}
use Rattle.ha_model.specs.Lawful.{is_line_of, shuts}
use Rattle.ha_whole.specs.Whole.{IsTurn}
use Rattle.ha_config.proofs.ListLemmas.{append-nil, none-some, some-same}
use Rattle.ha_replay.specs.Steps.{line_by}

count-join : {X : Type 0} (p : X → Bool) (xs ys : List X) → count_by p (xs ++ ys) ≡ count_by p xs + count_by p ys
count-join p xs ys = sum_by-append (λ x. cond (p x) 1 0) xs ys

count-own : {X : Type 0} (p : X → Bool) (x : X) (xs : List X) → p x ≡ true → count_by p (x ∷ xs) ≡ 1 + count_by p xs
count-own p x xs e = count-join p (x ∷ []) xs ∙ (λ i. (0 + cond {A = ℕ} (e i) 1 0) + count_by p xs)

count-other : {X : Type 0} (p : X → Bool) (x : X) (xs : List X) → p x ≡ false → count_by p (x ∷ xs) ≡ count_by p xs
count-other p x xs e =
    let h : count_by p (x ∷ xs) ≡ 0 + count_by p xs = count-join p (x ∷ []) xs ∙ (λ i. (0 + cond {A = ℕ} (e i) 1 0) + count_by p xs) in
    omega (arith, h)

abbrev picked : Bool → ℕ → Bool → Option (ℕ × Bool)
picked b n s = if b then Some (n, s) else None

both : (s : Bool) → (s && true) ≡ s
both true = refl
both false = refl

-- ---- one entry

record NoLine (k : ℕ) (x : Entry) : Type 0 where
  is_none : is_line_of k x ≡ false
  opens : shuts k x ≡ false

no-line : (k : ℕ) (x : Entry) → line_by k x ≡ None → NoLine k x
no-line k (Boot text config stored start zone carry) e = record { is_none = refl; opens = refl }
no-line k (Again number start stored carry) e = record { is_none = refl; opens = refl }
no-line k (Step worker serial branch item) e = record { is_none = refl; opens = refl }
no-line k (Line q n cmd) e = by (nat_eq q k) (shuts_source cmd) refl e
  where
    by : (b s : Bool) → nat_eq q k ≡ b → picked b n s ≡ None → NoLine k (Line q n cmd)
    by true s is e = absurd (none-some (n, s) (sym e))
    by false s is e = record { is_none = is; opens = search (rules, is) }

-- the entry is this line of the source, which the number and the source before tell
record OwnLine (k n : ℕ) (shut : Bool) (before : Journal) (x : Entry) : Type 0 where
  is_own : is_line_of k x ≡ true
  shuts_is : shuts k x ≡ shut
  number : n ≡ count_by (is_line_of k) before
  unshut : list_any (shuts k) before ≡ false

own-line : (rs : Records) (k n : ℕ) (shut : Bool) (before : Journal) (x : Entry) → IsTurn rs before x → line_by k x ≡ Some (n, shut) → OwnLine k n shut before x
own-line rs k n shut before (Boot text config stored start zone carry) turn e = absurd (none-some (n, shut) e)
own-line rs k n shut before (Again number start stored carry) turn e = absurd (none-some (n, shut) e)
own-line rs k n shut before (Step worker serial branch item) turn e = absurd (none-some (n, shut) e)
own-line rs k n shut before (Line q m cmd) turn e = by (nat_eq q k) (shuts_source cmd) refl refl e
  where
    by : (b s : Bool) → nat_eq q k ≡ b → shuts_source cmd ≡ s → picked b m s ≡ Some (n, shut) → OwnLine k n shut before (Line q m cmd)
    by false s is shut_is e = absurd (none-some (n, shut) e)
    by true s is shut_is e =
        let pair : (m, s) ≡ (n, shut) = some-same (m, s) (n, shut) e in
        let same : q ≡ k = search (rules, is) in
        record {
          is_own = is;
          shuts_is = (λ i. shut_is i && is i) ∙ both s ∙ (λ i. (pair i).1);
          number = (λ i. (sym pair i).0) ∙ turn.2 ∙ (λ i. count_by (is_line_of (same i)) before);
          unshut = (λ i. list_any (shuts (sym same i)) before) ∙ turn.3;
        }

-- what a journal says of a source, by its last line there
pub record Said (k n : ℕ) (shut : Bool) (j : Journal) : Type 0 where
  pub next : count_by (is_line_of k) j ≡ n + 1
  pub shut_is : list_any (shuts k) j ≡ shut

said-by : (k n : ℕ) (shut : Bool) (front behind : Journal) (x : Entry) → OwnLine k n shut front x → count_by (is_line_of k) behind ≡ 0 → list_any (shuts k) behind ≡ false
    → Said k n shut (front ++ (x ∷ behind))
said-by k n shut front behind x own none open' = record {
  next = (let join = count-join (is_line_of k) front (x ∷ behind) in
      let one = count-own (is_line_of k) x behind own.is_own in
      omega (arith, join, one, none, own.number));
  shut_is = list_any-append (shuts k) front (x ∷ behind) ∙ (λ i. own.unshut i || (own.shuts_is i || open' i)) ∙ or-false shut;
}
  where
    or-false : (b : Bool) → (false || (b || false)) ≡ b
    or-false true = refl
    or-false false = refl

-- ---- a place of the journal

each-at : {X : Type 0} (P : List X → X → Type 0) (before xs : List X) (a : ℕ) (d : X) → a < length xs → EachAfter P before xs → P (before ++ take a xs) (get_or xs a d)
each-at P before [] a d lt h = absurd (nothing-less a lt)
  where
    nothing-less : (a : ℕ) → a < 0 → ⊥
    nothing-less a lt = omega (arith, lt)
each-at P before (x ∷ xs) zero d lt h = subst (λ l. P l x) (sym (append-nil before)) h.0
each-at P before (x ∷ xs) (suc a) d lt h = subst (λ l. P l (get_or xs a d)) (append_assoc before (x ∷ []) (take a xs)) (each-at P (before ++ (x ∷ [])) xs a d (omega (arith, lt)) h.1)

pub parts-at : {X : Type 0} (xs : List X) (a : ℕ) (d : X) → a < length xs → take a xs ++ (get_or xs a d ∷ drop (suc a) xs) ≡ xs
parts-at [] a d lt = absurd (nothing-less a lt)
  where
    nothing-less : (a : ℕ) → a < 0 → ⊥
    nothing-less a lt = omega (arith, lt)
parts-at (x ∷ xs) zero d lt = refl
parts-at (x ∷ xs) (suc a) d lt = ap (λ l. x ∷ l) (parts-at xs a d (omega (arith, lt)))

-- no line of the source, and nothing that shuts it, stands from this place on
pub record NoneFrom (k a : ℕ) (j : Journal) : Type 0 where
  pub count : count_by (is_line_of k) (drop a j) ≡ 0
  pub opens : list_any (shuts k) (drop a j) ≡ false

pub none-at-end : (k : ℕ) (j : Journal) (a : ℕ) → length j ≤ a → NoneFrom k a j
none-at-end k [] zero le = record { count = refl; opens = refl }
none-at-end k [] (suc a) le = record { count = refl; opens = refl }
none-at-end k (x ∷ j) zero le = absurd (more-than-none (length j) le)
  where
    more-than-none : (n : ℕ) → suc n ≤ 0 → ⊥
    more-than-none n le = omega (arith, le)
none-at-end k (x ∷ j) (suc a) le = (let rest = none-at-end k j a (omega (arith, le)) in record { count = rest.count; opens = rest.opens })

pub none-before : (k : ℕ) (j : Journal) (a b : ℕ) (d : Entry) → a < length j → b ≡ suc a → line_by k (get_or j a d) ≡ None → NoneFrom k b j → NoneFrom k a j
none-before k j a b d lt e none rest =
    let own = no-line k (get_or j a d) none in
    let split = drop-cons j a d lt in
    record {
      count = ap (count_by (is_line_of k)) split ∙ count-other (is_line_of k) (get_or j a d) (drop (suc a) j) own.is_none ∙ (λ i. count_by (is_line_of k) (drop (sym e i) j)) ∙ rest.count;
      opens = ap (list_any (shuts k)) split ∙ (λ i. own.opens i || list_any (shuts k) (drop (suc a) j)) ∙ (λ i. list_any (shuts k) (drop (sym e i) j)) ∙ rest.opens;
    }

-- where none stands from the first place on, the source has no line
pub none-at-all : (k : ℕ) (j : Journal) (a : ℕ) → a ≡ 0 → NoneFrom k a j → (0 ≡ count_by (is_line_of k) j) × (list_any (shuts k) j ≡ false)
none-at-all k j a e h = (sym h.count ∙ (λ i. count_by (is_line_of k) (drop (e i) j)), (λ i. list_any (shuts k) (drop (sym e i) j)) ∙ h.opens)

-- LAW: the last line of the source tells what the whole journal says of it
pub said-at : (rs : Records) (k n : ℕ) (shut : Bool) (j : Journal) (a b : ℕ) (d : Entry) → a < length j → b ≡ suc a → EachAfter (IsTurn rs) [] j → line_by k (get_or j a d) ≡ Some (n, shut) → NoneFrom k b j
    → Said k n shut j
said-at rs k n shut j a b d lt e turns found rest =
    let own = own-line rs k n shut (take a j) (get_or j a d) (each-at (IsTurn rs) [] j a d lt turns) found in
    subst (Said k n shut) (parts-at j a d lt)
    (said-by k n shut (take a j) (drop (suc a) j) (get_or j a d) own ((λ i. count_by (is_line_of k) (drop (sym e i) j)) ∙ rest.count) ((λ i. list_any (shuts k) (drop (sym e i) j)) ∙ rest.opens))
