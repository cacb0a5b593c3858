-- When automations last triggered, where a Reload brings more units.
use Rattle.std.proofs.Common.{◌≡◌, ℕ, zero, suc, ◌+◌, ◌-◌, ◌<◌, ◌≤◌, List, [], ◌∷◌, ◌++◌, length, length-append, map, filter, take, drop, Bool, true, false, refl, sym, ap, subst, ◌∙◌, rules, arith, Option}
use Rattle.std.specs.Prelude.{Some, None, nat_lt, option_map, slice_get, unwrap_or, if◌then◌else◌}
use Rattle.ha_config.specs.Words.{Text, last_of, or_else, same}
use Rattle.ha_config.proofs.ListLemmas.{true-false}
use Rattle.ha_journal.specs.declared.entry.Entry.{Entry}
use Rattle.ha_journal.specs.Journal.{Journal, more, names, now, through}
use Rattle.ha_model.specs.declared.record.Record.{Record}
use Rattle.ha_model.specs.Lawful.{Right}
use Rattle.ha_model.specs.Records.{Records, records_of}
use Rattle.ha_model.proofs.KnownLaws.{AllKnown, all-known}
use Rattle.ha_whole.specs.Lasts.{last_run, last_triggered, lasts_carried}
use Rattle.ha_whole.specs.Named.{named}
use Rattle.named_runs.specs.Named.{first_in}
use Rattle.unit_book.specs.declared.book.UnitBook.{UnitBook}
use Rattle.unit_book.specs.Book.{first_from, firsts_of}
use Rattle.unit_book.proofs.FirstLemmas.{first, first-at, first-found, first-named, first-within, firsts-many, names-many, text_at}
use Rattle.unit_book.proofs.GrownLemmas.{firsts-front}
use Rattle.ha_engine.specs.Noted.{known_lasts, noted}
use Rattle.ha_engine.specs.Told.{AreLasts}
use Rattle.ha_engine.proofs.LastsLemmas.{AreBy, by-alike, by-lasts, drop-known, grown-by, last_by, lasts-by, named_so, noted-is, run-named, with_runs}

-- ---- names that were there, and more

front-text : (ns new : List Text) (a : ℕ) → a < length ns → text_at (ns ++ new) a ≡ text_at ns a
front-text [] new a lt = absurd (omega (arith, lt))
front-text (n ∷ ns) new zero lt = refl
front-text (n ∷ ns) new (suc a) lt = front-text ns new a (omega (arith, lt))

-- runs of those that were there are of the same names
known-so : (ns new : List Text) (name : Text) (rs : Records) → AllKnown (length ns) rs → last_by (named_so (ns ++ new) name) rs ≡ last_by (named_so ns name) rs
known-so ns new name rs known = ap last_of (by rs known)
  where
    by : (rs : Records) → AllKnown (length ns) rs → filter (λ (r : Record). named_so (ns ++ new) name r.automation) rs ≡ filter (λ (r : Record). named_so ns name r.automation) rs
    by [] h = refl
    by (r ∷ rs) h = (λ i. if same (front-text ns new r.automation h.0 i) name then r ∷ by rs h.1 i else by rs h.1 i)

-- the first of a name that was there is the same
front-first : (ns new : List Text) (a : ℕ) → a < length ns → first (ns ++ new) a ≡ first ns a
front-first ns new a lt =
    (let many = firsts-many ns in
    let is : firsts_of ns ≡ take (length (firsts_of ns)) (firsts_of (ns ++ new)) = firsts-front ns new (firsts_of ns) refl in
    ap (λ o. unwrap_or o a) (sym (taken (firsts_of (ns ++ new)) (length (firsts_of ns)) a (omega (arith, lt, many))) ∙ (λ i. slice_get (sym is i) a)))
  where
    taken : (zs : List ℕ) (m i : ℕ) → i < m → slice_get (take m zs) i ≡ slice_get zs i
    taken zs zero i g = absurd (omega (arith, g))
    taken [] (suc m) i g = refl
    taken (z ∷ zs) (suc m) zero g = refl
    taken (z ∷ zs) (suc m) (suc i) g = taken zs m i (omega (arith, g))

-- the first of a first is itself
first-twice : (names : List Text) (a : ℕ) → a < length names → first names (first names a) ≡ first names a
first-twice names a lt = first-at names (first names a) (first-within names a lt) ∙ (λ i. first_from 0 (first-named names a lt i) names) ∙ sym (first-at names a lt)

front-from : (name : Text) (new xs : List Text) (k c : ℕ) → c < length xs → same (text_at xs c) name ≡ true → first_from k name (xs ++ new) ≡ first_from k name xs
front-from name new [] k c g e = absurd (omega (arith, g))
front-from name new (x ∷ xs) k c g e = one (same x name) refl c g e (λ c g e. front-from name new xs (suc k) c g e)
  where
    one : (d : Bool) → same x name ≡ d → (c : ℕ) → c < suc (length xs) → same (text_at (x ∷ xs) c) name ≡ true
        → ((c : ℕ) → c < length xs → same (text_at xs c) name ≡ true → first_from (suc k) name (xs ++ new) ≡ first_from (suc k) name xs)
        → (if d then k else first_from (suc k) name (xs ++ new)) ≡ (if d then k else first_from (suc k) name xs)
    one true f c g e rest = refl
    one false f zero g e rest = absurd (true-false (sym e ∙ f))
    one false f (suc c) g e rest = rest c (omega (arith, g)) e

-- where the first of a name is one of the new ones no old one has it
none-front : (ns new : List Text) (a : ℕ) → a < length (ns ++ new) → length ns ≤ first (ns ++ new) a → (b : ℕ) → b < length ns → same (text_at ns b) (text_at (ns ++ new) a) ≡ false
none-front ns new a lt past b less = by (same (text_at ns b) (text_at (ns ++ new) a)) refl
  where
    all : List Text
    all = ns ++ new

    by : (c : Bool) → same (text_at ns b) (text_at all a) ≡ c → c ≡ false
    by false e = refl
    by true e =
        let got = first-found (text_at all a) ns 0 b less e in
        let there : first_from 0 (text_at all a) all ≡ first_from 0 (text_at all a) ns = front-from (text_at all a) new ns 0 b less e in
        absurd (omega (arith, past, first-at all a lt, there, got.1, got.2))

-- ---- the moments

known-grown : (ls : List (Option ℕ)) (ns new : List Text) (carried : List (Text × ℕ)) → length ls ≡ length ns → known_lasts ls (ns ++ new) carried ≡ ls ++ map (λ name. named name carried) new
known-grown [] [] [] carried e = refl
known-grown [] [] (x ∷ xs) carried e = refl
known-grown [] (n ∷ ns) new carried e = absurd (omega (arith, e))
known-grown (l ∷ ls) [] new carried e = absurd (omega (arith, e))
known-grown (l ∷ ls) (n ∷ ns) new carried e = ap (λ q. l ∷ q) (known-grown ls ns new carried (omega (arith, e)))

front-get : {X : Type 0} (xs ys : List X) (n : ℕ) → n < length xs → slice_get (xs ++ ys) n ≡ slice_get xs n
front-get [] ys n lt = absurd (omega (arith, lt))
front-get (x ∷ xs) ys zero lt = refl
front-get (x ∷ xs) ys (suc n) lt = front-get xs ys n (omega (arith, lt))

behind-get : (ls : List (Option ℕ)) (ns new : List Text) (carried : List (Text × ℕ)) (n : ℕ) → length ls ≡ length ns → length ns ≤ n → n < length (ns ++ new)
    → slice_get (ls ++ map (λ name. named name carried) new) n ≡ Some (named (text_at (ns ++ new) n) carried)
behind-get [] [] [] carried n e past lt = absurd (omega (arith, lt))
behind-get [] [] (x ∷ xs) carried zero e past lt = refl
behind-get [] [] (x ∷ xs) carried (suc n) e past lt = behind-get [] [] xs carried n refl (omega arith) (omega (arith, lt))
behind-get [] (m ∷ ns) new carried n e past lt = absurd (omega (arith, e))
behind-get (l ∷ ls) [] new carried n e past lt = absurd (omega (arith, e))
behind-get (l ∷ ls) (m ∷ ns) new carried zero e past lt = absurd (omega (arith, past))
behind-get (l ∷ ls) (m ∷ ns) new carried (suc n) e past lt = behind-get ls ns new carried n (omega (arith, e)) (omega (arith, past)) (omega (arith, lt))

below-of : (a b : ℕ) → nat_lt a b ≡ true → a < b
below-of a b h = search (rules, h)

above-of : (a b : ℕ) → nat_lt a b ≡ false → b ≤ a
above-of a b h = search (rules, h)

-- LAW: those of more names are the known ones, and what is carried for the new names
pub grown-by-names : (ns new : List Text) (ls : List (Option ℕ)) (carried : List (Text × ℕ)) (v : Text → Option ℕ) → AreBy ns ls v
    → ((name : Text) → ((b : ℕ) → b < length ns → same (text_at ns b) name ≡ false) → v name ≡ named name carried) → AreBy (ns ++ new) (known_lasts ls (ns ++ new) carried) v
grown-by-names ns new ls carried v h none = record { whole = whole; each = each }
  where
    all : List Text
    all = ns ++ new

    are : known_lasts ls all carried ≡ ls ++ map (λ name. named name carried) new
    are = known-grown ls ns new carried h.whole

    many : (xs : List Text) → length (map (λ name. named name carried) xs) ≡ length xs
    many [] = refl
    many (x ∷ xs) = ap suc (many xs)

    whole : length (known_lasts ls all carried) ≡ length all
    whole =
        (let one = ap length are in
        let two = length-append ls (map (λ name. named name carried) new) in
        let three = length-append ns new in
        let four = many new in
        omega (arith, one, two, three, four, h.whole))

    each : (a : ℕ) → a < length all → slice_get (known_lasts ls all carried) (first_in (firsts_of all) a) ≡ Some (v (text_at all a))
    each a lt = (λ i. slice_get (are i) (first all a)) ∙ by (nat_lt (first all a) (length ns)) refl
      where
        by : (b : Bool) → nat_lt (first all a) (length ns) ≡ b → slice_get (ls ++ map (λ name. named name carried) new) (first all a) ≡ Some (v (text_at all a))
        by true e =
            let less : first all a < length ns = below-of (first all a) (length ns) e in
            let own : first ns (first all a) ≡ first all a = sym (front-first ns new (first all a) less) ∙ first-twice all a lt in
            let text : text_at ns (first all a) ≡ text_at all a = sym (front-text ns new (first all a) less) ∙ first-named all a lt in
            front-get ls (map (λ name. named name carried) new) (first all a) (omega (arith, less, h.whole))
            ∙ (λ i. slice_get ls (sym own i)) ∙ h.each (first all a) less ∙ (λ i. Some (v (text i)))
        by false e =
            let past : length ns ≤ first all a = above-of (first all a) (length ns) e in
            behind-get ls ns new carried (first all a) h.whole past (first-within all a lt)
            ∙ (λ i. Some (named (first-named all a lt i) carried))
            ∙ ap Some (sym (none (text_at all a) (none-front ns new a lt past)))

-- ---- a name that nobody had

last-none : (ns : List Text) (name : Text) (rs : Records) → AllKnown (length ns) rs → ((b : ℕ) → b < length ns → same (text_at ns b) name ≡ false) → last_by (named_so ns name) rs ≡ None
last-none ns name rs known none = ap last_of (by rs known)
  where
    by : (rs : Records) → AllKnown (length ns) rs → filter (λ (r : Record). named_so ns name r.automation) rs ≡ []
    by [] h = refl
    by (r ∷ rs) h = (λ i. if none r.automation h.0 i then r ∷ filter (λ (q : Record). named_so ns name q.automation) rs else filter (λ (q : Record). named_so ns name q.automation) rs) ∙ by rs h.1

module _ (s : Journal) (y : Entry) (right : Right s (records_of s)) (new : List Text) (grown : names (more s y) ≡ names s ++ new) where
  abbrev k : Journal
  k = more s y

  abbrev rs : Records
  rs = records_of s

  rs-known : AllKnown (length (names s)) rs
  rs-known = subst (λ n. AllKnown n rs) (sym (names-many s)) (all-known s)

  none-triggered : (name : Text) → ((b : ℕ) → b < length (names s) → same (text_at (names s) b) name ≡ false) → last_triggered s name ≡ named name (lasts_carried s)
  none-triggered name none =
      (λ i. or_else (option_map (λ (r : Record). now (through s r.place)) ((run-named s name rs ∙ last-none (names s) name rs rs-known none) i)) (named name (lasts_carried s)))

  runs-same : (name : Text) → last_run s name rs ≡ last_by (named_so (names k) name) rs
  runs-same name = run-named s name rs ∙ sym (known-so (names s) new name rs rs-known) ∙ (λ i. last_by (named_so (sym grown i) name) rs)

  -- LAW: the moments with those of the runs that were admitted at the entry
  pub lasts-reloaded : (u n : UnitBook) (ls : List (Option ℕ)) → u.firsts.items ≡ firsts_of (names s) → n.firsts.items ≡ firsts_of (names k) → AreLasts s u ls
      → AreLasts k n (noted (now k) n.firsts.items (drop (length rs) (records_of k)) (known_lasts ls (names k) (lasts_carried s)))
  lasts-reloaded u n ls firsts firsts-k h =
      let all : List (Option ℕ) = known_lasts ls (names k) (lasts_carried s) in
      let known : AllKnown (length (names k)) (drop (length rs) (records_of k)) = drop-known (length (names k)) (length rs) (records_of k) (subst (λ m. AllKnown m (records_of k)) (sym (names-many k)) (all-known k)) in
      let by_names : AreBy (names k) all (last_triggered s)
      = subst (λ ns. AreBy ns (known_lasts ls ns (lasts_carried s)) (last_triggered s)) (sym grown)
      (grown-by-names (names s) new ls (lasts_carried s) (last_triggered s) (lasts-by s u ls firsts h) none-triggered) in
      by-lasts k n (noted (now k) n.firsts.items (drop (length rs) (records_of k)) all) firsts-k
      (by-alike (names k) (noted (now k) n.firsts.items (drop (length rs) (records_of k)) all) (with_runs (now k) (names k) (drop (length rs) (records_of k)) (last_triggered s)) (last_triggered k)
      (λ name. sym (grown-by s y right name (runs-same name)))
      (subst (λ fs. AreBy (names k) (noted (now k) fs (drop (length rs) (records_of k)) all) (with_runs (now k) (names k) (drop (length rs) (records_of k)) (last_triggered s))) (sym firsts-k)
      (noted-is (now k) (names k) (drop (length rs) (records_of k)) all (last_triggered s) known by_names)))
