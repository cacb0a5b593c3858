-- When automations last triggered, with one entry more.
use Rattle.std.proofs.Common.{◌≡◌, ℕ, zero, suc, ◌+◌, ◌-◌, ◌<◌, ◌≤◌, List, [], ◌∷◌, ◌++◌, length, map, filter, drop, Bool, true, false, refl, sym, ap, subst, ◌∙◌, rules, arith}
use Rattle.std.proofs.lemmas.Bool.Decides.{nat_tests}
use Rattle.std.specs.Prelude.{nat_eq, slice_get, slice_set, Option, Some, None, option_map, if◌then◌else◌}
use Rattle.ha_journal.specs.declared.entry.Entry.{Entry}
use Rattle.ha_config.specs.declared.config.Mode.{Mode}
use Rattle.ha_config.specs.Words.{Text, last_of, numbers_from, or_else, same}
use Rattle.ha_sight.specs.Scripts.{Spot}
use Rattle.ha_journal.specs.Attempts.{Attempt, passing}
use Rattle.ha_journal.specs.Journal.{HasEntry, Journal, last_place, more, names, now, through, units}
use Rattle.ha_journal.specs.Entries.{reload_in}
use Rattle.ha_journal.proofs.ForceLaws.{names-more}
use Rattle.ha_journal.proofs.MoreLemmas.{has-entry, length-more, through-last, through-more}
use Rattle.ha_model.specs.declared.record.Record.{Record}
use Rattle.ha_model.specs.Records.{Records, is_restart_mode, lets_in_after, mode_of, new_record, own_ends_on, records_of, spots}
use Rattle.ha_model.specs.RecordSteps.{records_after}
use Rattle.ha_model.specs.RunSteps.{attempt_all, joined, replace_all, settled}
use Rattle.ha_model.specs.Lawful.{Right}
use Rattle.ha_model.proofs.FoldLaws.{records-more}
use Rattle.ha_model.proofs.KnownLaws.{AllKnown, all-known}
use Rattle.ha_whole.specs.Lasts.{last_run, last_triggered, lasts_carried}
use Rattle.ha_whole.specs.Named.{named}
use Rattle.ha_ready.specs.RunPast.{AllPast}
use Rattle.ha_ready.proofs.RunPast.{all-past}
use Rattle.named_runs.specs.Named.{first_in}
use Rattle.unit_book.specs.declared.book.UnitBook.{UnitBook}
use Rattle.unit_book.specs.Book.{firsts_of}
use Rattle.unit_book.proofs.FirstLemmas.{first-named, first-same, first-within, names-many, text-name, text_at}
use Rattle.ha_engine.specs.Begun.{IsBegun}
use Rattle.ha_engine.specs.Noted.{noted}
use Rattle.ha_engine.specs.Told.{AreLasts}

-- ---- the records behind one more entry

-- all are of this place
abbrev AllAt : ℕ → Records → Type 0
AllAt p [] = Unit {0}
AllAt p (r ∷ rs) = (r.place ≡ p) × AllAt p rs

-- the first records have their automations and places, and those behind them are of this one
abbrev Grows : ℕ → Records → Records → Type 0
Grows p [] rs' = AllAt p rs'
Grows p (r ∷ rs) [] = ⊥
Grows p (r ∷ rs) (r' ∷ rs') = (r.automation ≡ r'.automation) × (r.place ≡ r'.place) × Grows p rs rs'

at-same : (p : ℕ) (rs : Records) → Grows p rs rs
at-same p [] = tt
at-same p (r ∷ rs) = (refl, refl, at-same p rs)

at-ends : (p : ℕ) (places : ℕ → List Spot) (k : Journal) (a b : Records) → Grows p a b → Grows p a (own_ends_on places k b)
at-ends p places k [] [] h = tt
at-ends p places k [] (y ∷ ys) h = (h.0, at-ends p places k [] ys h.1)
at-ends p places k (x ∷ xs) [] h = absurd h
at-ends p places k (x ∷ xs) (y ∷ ys) h = (h.0, h.1, at-ends p places k xs ys h.2)

at-replaced : (p n q : ℕ) (a b : Records) → Grows p a b → Grows p a (replace_all n q b)
at-replaced p n q [] [] h = tt
at-replaced p n q [] (y ∷ ys) h = (h.0, at-replaced p n q [] ys h.1)
at-replaced p n q (x ∷ xs) [] h = absurd h
at-replaced p n q (x ∷ xs) (y ∷ ys) h = (h.0, h.1, at-replaced p n q xs ys h.2)

at-snoc : (p : ℕ) (a b : Records) (new : Record) → new.place ≡ p → Grows p a b → Grows p a (b ++ (new ∷ []))
at-snoc p [] [] new e h = (e, tt)
at-snoc p [] (y ∷ ys) new e h = (h.0, at-snoc p [] ys new e h.1)
at-snoc p (x ∷ xs) [] new e h = absurd h
at-snoc p (x ∷ xs) (y ∷ ys) new e h = (h.0, h.1, at-snoc p xs ys new e h.2)

at-settled : (p : ℕ) (k : Journal) (before a b : Records) → Grows p a b → Grows p a (settled k before b)
at-settled p k before [] [] h = tt
at-settled p k before [] (y ∷ ys) h = (h.0, at-settled p k (y ∷ before) [] ys h.1)
at-settled p k before (x ∷ xs) [] h = absurd h
at-settled p k before (x ∷ xs) (y ∷ ys) h = (h.0, h.1, at-settled p k (y ∷ before) xs ys h.2)

at-joined : (p : ℕ) (mode : Mode) (n q : ℕ) (a b : Records) (new : Record) → new.place ≡ p → Grows p a b → Grows p a (joined mode n q b new)
at-joined p mode n q a b new e h = by (is_restart_mode mode)
  where
    by : (c : Bool) → Grows p a ((if c then replace_all n q b else b) ++ (new ∷ []))
    by true = at-snoc p a (replace_all n q b) new e (at-replaced p n q a b h)
    by false = at-snoc p a b new e h

at-attempts : (k : Journal) (a b : Records) (xs : List (ℕ × Attempt)) → Grows (last_place k) a b → Grows (last_place k) a (attempt_all k b xs)
at-attempts k a b [] h = h
at-attempts k a b (x ∷ xs) h = at-attempts k a (if lets_in_after (units k) b x.1.automation then one else b) xs (by (lets_in_after (units k) b x.1.automation))
  where
    one : Records
    one = joined (mode_of (units k) x.1.automation) x.1.automation (last_place k) b (new_record k b x)

    by : (c : Bool) → Grows (last_place k) a (if c then one else b)
    by true = at-joined (last_place k) (mode_of (units k) x.1.automation) x.1.automation (last_place k) a b (new_record k b x) refl h
    by false = h

grows-after : (j : Journal) (rs : Records) (x : Entry) → Grows (last_place (more j x)) rs (records_after j rs x)
grows-after j rs x =
    at-settled (last_place (more j x)) (more j x) [] rs _
    (at-attempts (more j x) rs _ (passing (more j x)) (at-ends (last_place (more j x)) (spots (more j x)) (more j x) rs rs (at-same (last_place (more j x)) rs)))

-- LAW: with one entry more records keep their automations and places, and new ones are of its place
grows : (j : Journal) (x : Entry) → Grows (length j) (records_of j) (records_of (more j x))
grows j x =
    let at : last_place (more j x) ≡ length j = omega (arith, length-more j x) in
    subst (λ n. Grows n (records_of j) (records_of (more j x))) at
    (subst (Grows (last_place (more j x)) (records_of j)) (sym (records-more j x)) (grows-after j (records_of j) x))

-- ---- the last one of an automation

pub or-each : {X Y : Type 0} (h : X → Y) (a b : Option X) → option_map h (or_else a b) ≡ or_else (option_map h a) (option_map h b)
or-each h None b = refl
or-each h (Some x) b = refl

or-joins : {X : Type 0} (a b c : Option X) → or_else (or_else a b) c ≡ or_else a (or_else b c)
or-joins None b c = refl
or-joins (Some x) b c = refl

or-none : {X : Type 0} (a : Option X) → a ≡ or_else a None
or-none None = refl
or-none (Some x) = refl

last-there : {X : Type 0} (y : X) (ys : List X) (other : Option X) → last_of (y ∷ ys) ≡ or_else (last_of (y ∷ ys)) other
last-there y [] other = refl
last-there y (z ∷ zs) other = last-there z zs other

last-cons : {X : Type 0} (x : X) (xs : List X) → last_of (x ∷ xs) ≡ or_else (last_of xs) (Some x)
last-cons x [] = refl
last-cons x (y ∷ ys) = last-there y ys (Some x)

-- the last of the units that pass
abbrev pub last_by : (ℕ → Bool) → Records → Option Record
last_by test rs = last_of (filter (λ (r : Record). test r.automation) rs)

abbrev pub one_if : Bool → Record → Option Record
one_if true r = Some r
one_if false r = None

-- the last one with one more before them
pub run-cons : (test : ℕ → Bool) (r : Record) (rs : Records) → last_by test (r ∷ rs) ≡ or_else (last_by test rs) (one_if (test r.automation) r)
run-cons test r rs = by (test r.automation)
  where
    tail : Records
    tail = filter (λ (q : Record). test q.automation) rs

    by : (b : Bool) → last_of (if b then r ∷ tail else tail) ≡ or_else (last_of tail) (one_if b r)
    by true = last-cons r tail
    by false = or-none (last_of tail)

-- ---- their moments

-- of records of this place
at-one : (f : ℕ → ℕ) (p : ℕ) (test : ℕ → Bool) (rs : Records) → AllAt p rs → option_map (λ (r : Record). f r.place) (last_by test rs) ≡ option_map (λ (r : Record). f p) (last_by test rs)
at-one f p test [] h = refl
at-one f p test (r ∷ rs) h =
    ap (option_map (λ (q : Record). f q.place)) (run-cons test r rs)
    ∙ or-each (λ (q : Record). f q.place) (last_by test rs) (one_if (test r.automation) r)
    ∙ (λ i. or_else (at-one f p test rs h.1 i) (by (test r.automation) i))
    ∙ sym (or-each (λ (q : Record). f p) (last_by test rs) (one_if (test r.automation) r))
    ∙ sym (ap (option_map (λ (q : Record). f p)) (run-cons test r rs))
  where
    by : (b : Bool) → option_map (λ (q : Record). f q.place) (one_if b r) ≡ option_map (λ (q : Record). f p) (one_if b r)
    by true = ap (λ n. Some (f n)) h.0
    by false = refl

-- of records that grew: the new ones, else those before
grown-last : (f g : ℕ → ℕ) (p : ℕ) (test : ℕ → Bool) → ((q : ℕ) → q < p → f q ≡ g q) → (rs rs' : Records) → AllPast p rs → Grows p rs rs'
    → option_map (λ (r : Record). f r.place) (last_by test rs') ≡ or_else (option_map (λ (r : Record). f p) (last_by test (drop (length rs) rs'))) (option_map (λ (r : Record). g r.place) (last_by test rs))
grown-last f g p test same [] rs' past h = at-one f p test rs' h ∙ or-none (option_map (λ (r : Record). f p) (last_by test rs'))
grown-last f g p test same (r ∷ rs) [] past h = absurd h
grown-last f g p test same (r ∷ rs) (r' ∷ rs') past h =
    ap (option_map (λ (q : Record). f q.place)) (run-cons test r' rs')
    ∙ or-each (λ (q : Record). f q.place) (last_by test rs') (one_if (test r'.automation) r')
    ∙ (λ i. or_else (grown-last f g p test same rs rs' past.1 h.2 i) (one i))
    ∙ or-joins (option_map (λ (q : Record). f p) (last_by test (drop (length rs) rs'))) (option_map (λ (q : Record). g q.place) (last_by test rs)) (option_map (λ (q : Record). g q.place) (one_if (test r.automation) r))
    ∙ (λ i. or_else (option_map (λ (q : Record). f p) (last_by test (drop (length rs) rs'))) (sym (or-each (λ (q : Record). g q.place) (last_by test rs) (one_if (test r.automation) r)) i))
    ∙ (λ i. or_else (option_map (λ (q : Record). f p) (last_by test (drop (length rs) rs'))) (option_map (λ (q : Record). g q.place) (sym (run-cons test r rs) i)))
  where
    by : (b : Bool) → option_map (λ (q : Record). f q.place) (one_if b r') ≡ option_map (λ (q : Record). g q.place) (one_if b r)
    by true = ap Some (ap f (sym h.1) ∙ same r.place past.0.place)
    by false = refl

    one : option_map (λ (q : Record). f q.place) (one_if (test r'.automation) r') ≡ option_map (λ (q : Record). g q.place) (one_if (test r.automation) r)
    one = (λ i. option_map (λ (q : Record). f q.place) (one_if (test (sym h.0 i)) r')) ∙ by (test r.automation)

-- ---- the list of moments

eq-of : (a b : ℕ) → nat_eq a b ≡ true → a ≡ b
eq-of a b e = search (rules, e)

pub apart-of : (a b : ℕ) → (a ≡ b → ⊥) → nat_eq a b ≡ false
apart-of a b h = by (nat_eq a b) refl
  where
    by : (c : Bool) → nat_eq a b ≡ c → c ≡ false
    by true e = absurd (h (eq-of a b e))
    by false e = refl

pub each-number : {X : Type 0} (v w : ℕ → X) (low n : ℕ) → ((a : ℕ) → low ≤ a → a < low + n → v a ≡ w a) → map v (numbers_from low n) ≡ map w (numbers_from low n)
each-number v w low zero h = refl
each-number v w low (suc n) h = (λ i. h low (omega arith) (omega arith) i ∷ each-number v w (low + 1) n (λ a le lt. h a (omega (arith, le)) (omega (arith, lt))) i)

pub next-equal : (a b : ℕ) → nat_eq a b ≡ nat_eq (suc a) (suc b)
next-equal a b = grind (arith, nat_tests)

pub set-there : {X : Type 0} (xs : List X) (a b : ℕ) (x : X) → b < length xs → slice_get (slice_set xs a x) b ≡ (if nat_eq a b then Some x else slice_get xs b)
set-there [] a b x lt = absurd (omega (arith, lt))
set-there (y ∷ ys) zero zero x lt = refl
set-there (y ∷ ys) zero (suc b) x lt = (λ i. if sym (apart-of 0 (suc b) (λ e. omega (arith, e))) i then Some x else slice_get ys b)
set-there (y ∷ ys) (suc a) zero x lt = (λ i. if sym (apart-of (suc a) 0 (λ e. omega (arith, e))) i then Some x else Some y)
set-there (y ∷ ys) (suc a) (suc b) x lt = set-there ys a b x (omega (arith, lt)) ∙ (λ i. if next-equal a b i then Some x else slice_get ys b)

pub set-length : {X : Type 0} (xs : List X) (a : ℕ) (x : X) → length (slice_set xs a x) ≡ length xs
set-length [] zero x = refl
set-length [] (suc a) x = refl
set-length (y ∷ ys) zero x = refl
set-length (y ∷ ys) (suc a) x = ap suc (set-length ys a x)

-- each name's value stands at its first unit
pub record AreBy (names : List Text) (ls : List (Option ℕ)) (v : Text → Option ℕ) : Type 0 where
  pub whole : length ls ≡ length names
  pub each : (a : ℕ) → a < length names → slice_get ls (first_in (firsts_of names) a) ≡ Some (v (text_at names a))

-- whether a unit has this name
abbrev pub named_so : List Text → Text → ℕ → Bool
named_so names name a = same (text_at names a) name

-- one of a name is given
abbrev pub put_at : Text → Option ℕ → (Text → Option ℕ) → Text → Option ℕ
put_at name x v n = if same name n then x else v n

pub set-by : (names : List Text) (ls : List (Option ℕ)) (v : Text → Option ℕ) (q : ℕ) (x : Option ℕ) → q < length names → AreBy names ls v → AreBy names (slice_set ls (first_in (firsts_of names) q) x) (put_at (text_at names q) x v)
set-by names ls v q x lq h = record {
  whole = set-length ls (first_in (firsts_of names) q) x ∙ h.whole;
  each = λ a la. set-there ls (first_in (firsts_of names) q) (first_in (firsts_of names) a) x (let within = first-within names a la in omega (arith, within, h.whole))
      ∙ (λ i. if first-same names q a lq la i then Some x else h.each a la i) ∙ by x (same (text_at names q) (text_at names a)) (v (text_at names a));
}
  where
    by : (x : Option ℕ) (b : Bool) (o : Option ℕ) → (if b then Some x else Some o) ≡ Some (if b then x else o)
    by x true o = refl
    by x false o = refl

-- those of which one of these runs is, else what they were
abbrev pub with_runs : ℕ → List Text → Records → (Text → Option ℕ) → Text → Option ℕ
with_runs at names rs v name = or_else (option_map (λ (r : Record). at) (last_by (named_so names name) rs)) (v name)

pub with-one : (at : ℕ) (names : List Text) (r : Record) (rs : Records) (v : Text → Option ℕ) (name : Text)
    → with_runs at names rs (put_at (text_at names r.automation) (Some at) v) name ≡ with_runs at names (r ∷ rs) v name
with-one at names r rs v name =
    by (option_map (λ (s : Record). at) (last_by (named_so names name) rs)) (same (text_at names r.automation) name) (v name)
    ∙ (λ i. or_else (sym (or-each (λ (s : Record). at) (last_by (named_so names name) rs) (one_if (same (text_at names r.automation) name) r)) i) (v name))
    ∙ (λ i. or_else (option_map (λ (s : Record). at) (sym (run-cons (named_so names name) r rs) i)) (v name))
  where
    by : (o : Option ℕ) (b : Bool) (q : Option ℕ) → or_else o (if b then Some at else q) ≡ or_else (or_else o (option_map (λ (s : Record). at) (one_if b r))) q
    by None true q = refl
    by None false q = refl
    by (Some x) b q = refl

pub by-alike : (names : List Text) (ls : List (Option ℕ)) (v w : Text → Option ℕ) → ((name : Text) → v name ≡ w name) → AreBy names ls v → AreBy names ls w
by-alike names ls v w alike h = record { whole = h.whole; each = λ a la. h.each a la ∙ ap Some (alike (text_at names a)) }

-- LAW: where runs of known units were admitted
pub noted-is : (at : ℕ) (names : List Text) (rs : Records) (ls : List (Option ℕ)) (v : Text → Option ℕ) → AllKnown (length names) rs → AreBy names ls v → AreBy names (noted at (firsts_of names) rs ls) (with_runs at names rs v)
noted-is at names [] ls v known h = h
noted-is at names (r ∷ rs) ls v known h =
    by-alike names (noted at (firsts_of names) (r ∷ rs) ls) (with_runs at names rs (put_at (text_at names r.automation) (Some at) v)) (with_runs at names (r ∷ rs) v) (with-one at names r rs v)
    (noted-is at names rs (slice_set ls (first_in (firsts_of names) r.automation) (Some at)) (put_at (text_at names r.automation) (Some at) v) known.1
    (set-by names ls v r.automation (Some at) known.0 h))

-- ---- as the engine has them

-- LAW: the moments of an engine are those by names
pub lasts-by : (s : Journal) (u : UnitBook) (ls : List (Option ℕ)) → u.firsts.items ≡ firsts_of (names s) → AreLasts s u ls → AreBy (names s) ls (last_triggered s)
lasts-by s u ls firsts h = record {
  whole = h.whole ∙ sym (names-many s);
  each = λ a la. (λ i. slice_get ls (first_in (sym firsts i) a)) ∙ h.last a (let many = names-many s in omega (arith, la, many)) ∙ (λ i. Some (last_triggered s (sym (text-name (units s) a) i)));
}

pub by-lasts : (s : Journal) (u : UnitBook) (ls : List (Option ℕ)) → u.firsts.items ≡ firsts_of (names s) → AreBy (names s) ls (last_triggered s) → AreLasts s u ls
by-lasts s u ls firsts h = record {
  whole = h.whole ∙ names-many s;
  last = λ a la. (λ i. slice_get ls (first_in (firsts i) a)) ∙ h.each a (let many = names-many s in omega (arith, la, many)) ∙ (λ i. Some (last_triggered s (text-name (units s) a i)));
}

-- ---- one entry more

pub carried-same : (s : Journal) (y : Entry) → HasEntry s → lasts_carried (more s y) ≡ lasts_carried s
carried-same [] y h = absurd h
carried-same (e ∷ es) y h = refl

pub drop-known : (n m : ℕ) (rs : Records) → AllKnown n rs → AllKnown n (drop m rs)
drop-known n zero [] h = h
drop-known n (suc m) [] h = h
drop-known n zero (r ∷ rs) h = h
drop-known n (suc m) (r ∷ rs) h = drop-known n m rs h.1

-- the test of a name goes by the names of units
pub run-named : (j : Journal) (name : Text) (rs : Records) → last_run j name rs ≡ last_by (named_so (names j) name) rs
run-named j name rs = (λ i. last_of (filter (λ (r : Record). same (sym (text-name (units j) r.automation) i) name) rs))

-- with what an entry admitted, where the runs before it are of the same names
pub grown-by : (s : Journal) (y : Entry) → Right s (records_of s) → (name : Text) → last_run s name (records_of s) ≡ last_by (named_so (names (more s y)) name) (records_of s)
    → last_triggered (more s y) name ≡ with_runs (now (more s y)) (names (more s y)) (drop (length (records_of s)) (records_of (more s y))) (last_triggered s) name
grown-by s y right name before =
    let k : Journal = more s y in
    let rs : Records = records_of s in
    let rs' : Records = records_of k in
    let at-last : now (through k (length s)) ≡ now k = ap now (through-last s y) in
    let test : ℕ → Bool = named_so (names k) name in
    (λ i. or_else (option_map (λ (r : Record). now (through k r.place)) (run-named k name rs' i)) (named name (lasts_carried k)))
    ∙ (λ i. or_else (grown-last (λ q. now (through k q)) (λ q. now (through s q)) (length s) test (λ q lt. ap now (through-more s y q lt)) rs rs' (all-past s rs right) (grows s y) i)
    (named name (carried-same s y (has-entry s right.journal) i)))
    ∙ or-joins (option_map (λ (r : Record). now (through k (length s))) (last_by test (drop (length rs) rs'))) (option_map (λ (r : Record). now (through s r.place)) (last_by test rs)) (named name (lasts_carried s))
    ∙ (λ i. or_else (option_map (λ (r : Record). at-last i) (last_by test (drop (length rs) rs')))
    (or_else (option_map (λ (r : Record). now (through s r.place)) (sym before i)) (named name (lasts_carried s))))

module _ (s : Journal) (y : Entry) (right : Right s (records_of s)) (none : reload_in y ≡ None) where
  has : HasEntry s
  has = has-entry s right.journal

  abbrev k : Journal
  k = more s y

  abbrev rs : Records
  rs = records_of s

  abbrev rs' : Records
  rs' = records_of k

  at-last : now (through k (length s)) ≡ now k
  at-last = ap now (through-last s y)

  all-names : names s ≡ names k
  all-names = names-more s y has none

  pub last-more : (name : Text) → last_triggered k name ≡ with_runs (now k) (names k) (drop (length rs) rs') (last_triggered s) name
  last-more name =
      let test : ℕ → Bool = named_so (names k) name in
      let before : last_run s name rs ≡ last_by test rs = run-named s name rs ∙ (λ i. last_by (named_so (all-names i) name) rs) in
      (λ i. or_else (option_map (λ (r : Record). now (through k r.place)) (run-named k name rs' i)) (named name (lasts_carried k)))
      ∙ (λ i. or_else (grown-last (λ q. now (through k q)) (λ q. now (through s q)) (length s) test (λ q lt. ap now (through-more s y q lt)) rs rs' (all-past s rs right) (grows s y) i) (named name (carried-same s y has i)))
      ∙ or-joins (option_map (λ (r : Record). now (through k (length s))) (last_by test (drop (length rs) rs'))) (option_map (λ (r : Record). now (through s r.place)) (last_by test rs)) (named name (lasts_carried s))
      ∙ (λ i. or_else (option_map (λ (r : Record). at-last i) (last_by test (drop (length rs) rs')))
      (or_else (option_map (λ (r : Record). now (through s r.place)) (sym before i)) (named name (lasts_carried s))))

  -- LAW: the moments with those of the runs that were admitted at the entry
  pub lasts-more : (u : UnitBook) (ls : List (Option ℕ)) → u.firsts.items ≡ firsts_of (names s) → AreLasts s u ls → AreLasts k u (noted (now k) u.firsts.items (drop (length rs) rs') ls)
  lasts-more u ls firsts h =
      let firsts-k : u.firsts.items ≡ firsts_of (names k) = firsts ∙ ap firsts_of all-names in
      let known : AllKnown (length (names k)) (drop (length rs) rs') = drop-known (length (names k)) (length rs) rs' (subst (λ n. AllKnown n rs') (sym (names-many k)) (all-known k)) in
      by-lasts k u (noted (now k) u.firsts.items (drop (length rs) rs') ls) firsts-k
      (by-alike (names k) (noted (now k) u.firsts.items (drop (length rs) rs') ls) (with_runs (now k) (names k) (drop (length rs) rs') (last_triggered s)) (last_triggered k) (λ name. sym (last-more name))
      (subst (λ fs. AreBy (names k) (noted (now k) fs (drop (length rs) rs') ls) (with_runs (now k) (names k) (drop (length rs) rs') (last_triggered s))) (sym firsts-k)
      (noted-is (now k) (names k) (drop (length rs) rs') ls (last_triggered s) known
      (subst (λ ns. AreBy ns ls (last_triggered s)) all-names (lasts-by s u ls firsts h)))))

-- ---- an opening

first-at : (x : Entry) → AllAt 0 (records_of (x ∷ []))
unfolding records_of
first-at x = grows [] x

pub last-opened : (k : Journal) → IsBegun k → (name : Text) → last_triggered k name ≡ with_runs (now k) (names k) (records_of k) (λ n. named n (lasts_carried k)) name
last-opened [] h name = absurd h
last-opened (x ∷ y ∷ es) h name = absurd h
last-opened (x ∷ []) h name =
    (let k : Journal = x ∷ [] in
    (λ i. or_else (option_map (λ (r : Record). now (through k r.place)) (run-named k name (records_of k) i)) (named name (lasts_carried k)))
    ∙ (λ i. or_else (at-one (λ q. now (through k q)) 0 (named_so (names k) name) (records_of k) (first-at x) i) (named name (lasts_carried k))))

-- moments that are carried by name
pub carried-by : (ns : List Text) (carried : List (Text × ℕ)) → AreBy ns (map (λ name. named name carried) ns) (λ name. named name carried)
carried-by ns carried = record { whole = many ns; each = λ a la. there ns (first_in (firsts_of ns) a) (first-within ns a la) ∙ (λ i. Some (named (first-named ns a la i) carried)) }
  where
    many : (xs : List Text) → length (map (λ name. named name carried) xs) ≡ length xs
    many [] = refl
    many (x ∷ xs) = ap suc (many xs)

    there : (xs : List Text) (a : ℕ) → a < length xs → slice_get (map (λ name. named name carried) xs) a ≡ Some (named (text_at xs a) carried)
    there [] a lt = absurd (omega (arith, lt))
    there (x ∷ xs) zero lt = refl
    there (x ∷ xs) (suc a) lt = there xs a (omega (arith, lt))

-- LAW: behind an opening, with the runs that were admitted there, where the moments before are those that it carries by name
pub lasts-opened : (k : Journal) (u : UnitBook) → IsBegun k → u.firsts.items ≡ firsts_of (names k) → AreLasts k u (noted (now k) u.firsts.items (records_of k) (map (λ name. named name (lasts_carried k)) (names k)))
lasts-opened k u begun firsts =
    let ls : List (Option ℕ) = map (λ name. named name (lasts_carried k)) (names k) in
    let known : AllKnown (length (names k)) (records_of k) = subst (λ n. AllKnown n (records_of k)) (sym (names-many k)) (all-known k) in
    by-lasts k u (noted (now k) u.firsts.items (records_of k) ls) firsts
    (by-alike (names k) (noted (now k) u.firsts.items (records_of k) ls) (with_runs (now k) (names k) (records_of k) (λ name. named name (lasts_carried k))) (last_triggered k) (λ name. sym (last-opened k begun name))
    (subst (λ fs. AreBy (names k) (noted (now k) fs (records_of k) ls) (with_runs (now k) (names k) (records_of k) (λ name. named name (lasts_carried k)))) (sym firsts)
    (noted-is (now k) (names k) (records_of k) ls (λ name. named name (lasts_carried k)) known (carried-by (names k) (lasts_carried k)))))
