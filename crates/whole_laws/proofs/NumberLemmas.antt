-- The records of a journal with one put more have the units and numbers that they had, and more behind them.
use Rattle.std.proofs.Common.{◌≡◌, ℕ, ◌+◌, ◌<◌, ◌≤◌, List, [], ◌∷◌, ◌++◌, length, Bool, true, false, refl, sym, subst, ◌∙◌, arith}
use Rattle.std.specs.Prelude.{Some, None, if◌then◌else◌}
use Rattle.std.specs.Option.{option_map_or}
use Rattle.ha_config.specs.declared.config.Automation.{Automation}
use Rattle.ha_journal.specs.declared.entry.Entry.{Entry}
use Rattle.ha_config.specs.Words.{Text}
use Rattle.ha_config.specs.Names.{name_of}
use Rattle.ha_journal.specs.Attempts.{Attempt, passing}
use Rattle.ha_journal.specs.Entries.{Reopening, again_in}
use Rattle.ha_journal.specs.Journal.{HasEntry, Journal, last_place, more, units}
use Rattle.ha_laws.specs.OneRun.{SameNumbers}
use Rattle.ha_model.specs.Records as all
use Rattle.ha_config.specs.declared.config.Mode.{Mode}
use Rattle.ha_sight.specs.Scripts.{Spot}
use Rattle.ha_model.specs.declared.record.Record.{Record}
use Rattle.ha_model.specs.Records.{Records, is_restart_mode, lets_in_after, mode_of, new_record, own_ends_on, spots}
use Rattle.ha_model.specs.RunSteps.{attempt_all, joined, replace_all, settled}
use Rattle.ha_model.specs.RecordSteps.{records_after}
use Rattle.ha_laws.proofs.CallGrowth.{numbers-append, numbers-same}
use Rattle.ha_journal.proofs.ForceLaws.{unit-more}
use Rattle.ha_journal.proofs.MoreLemmas.{has-entry}
use Rattle.ha_model.proofs.KnownLaws.{AllKnown, all-known}
use Rattle.ha_model.proofs.FoldLaws.{records-more}
use Rattle.ha_whole.specs.Segments.{alone, carried_number, cut, entries_in, front, segment, segments}
use Rattle.ha_whole.specs.Whole.{Right, again_of, placed_all, put, records_from, records_of}
use Rattle.whole_laws.specs.Puts.{IsPut}
use Rattle.whole_laws.proofs.CutLemmas.{IsCut, closed-again, closed-on, closed_records, is-cut, records-cut, segment-on}
use Rattle.whole_laws.proofs.PutLemmas.{by-way}

abbrev Keeps : Records → Records → Type 0
Keeps = SameNumbers

-- ---- in one segment

with-own-ends : (places : ℕ → List Spot) (k : Journal) (a b : Records) → Keeps a b → Keeps a (own_ends_on places k b)
with-own-ends places k [] b h = tt
with-own-ends places k (x ∷ xs) [] h = absurd h
with-own-ends places k (x ∷ xs) (y ∷ ys) h = (h.0, h.1, with-own-ends places k xs ys h.2)

with-replaced : (n p : ℕ) (a b : Records) → Keeps a b → Keeps a (replace_all n p b)
with-replaced n p [] b h = tt
with-replaced n p (x ∷ xs) [] h = absurd h
with-replaced n p (x ∷ xs) (y ∷ ys) h = (h.0, h.1, with-replaced n p xs ys h.2)

with-more : (a b c : Records) → Keeps a b → Keeps a (b ++ c)
with-more [] b c h = tt
with-more (x ∷ xs) [] c h = absurd h
with-more (x ∷ xs) (y ∷ ys) c h = (h.0, h.1, with-more xs ys c h.2)

with-settled : (k : Journal) (before a b : Records) → Keeps a b → Keeps a (settled k before b)
with-settled k before [] b h = tt
with-settled k before (x ∷ xs) [] h = absurd h
with-settled k before (x ∷ xs) (y ∷ ys) h = (h.0, h.1, with-settled k (y ∷ before) xs ys h.2)

with-joined : (mode : Mode) (n p : ℕ) (a b : Records) (new : Record) → Keeps a b → Keeps a (joined mode n p b new)
with-joined mode n p a b new h = by (is_restart_mode mode)
  where
    by : (c : Bool) → Keeps a ((if c then replace_all n p b else b) ++ (new ∷ []))
    by true = with-more a (replace_all n p b) (new ∷ []) (with-replaced n p a b h)
    by false = with-more a b (new ∷ []) h

with-attempts : (k : Journal) (a b : Records) (xs : List (ℕ × Attempt)) → Keeps a b → Keeps a (attempt_all k b xs)
with-attempts k a b [] h = h
with-attempts k a b (x ∷ xs) h = with-attempts k a (if lets_in_after (units k) b x.1.automation then one else b) xs (by (lets_in_after (units k) b x.1.automation))
  where
    one : Records
    one = joined (mode_of (units k) x.1.automation) x.1.automation (last_place k) b (new_record k b x)

    by : (c : Bool) → Keeps a (if c then one else b)
    by true = with-joined (mode_of (units k) x.1.automation) x.1.automation (last_place k) a b (new_record k b x) h
    by false = h

numbers-after : (j : Journal) (rs : Records) (x : Entry) → SameNumbers rs (records_after j rs x)
numbers-after j rs x =
    with-settled (more j x) [] rs _ (with-attempts (more j x) rs _ (passing (more j x)) (with-own-ends (spots (more j x)) (more j x) rs rs (numbers-same rs)))

-- ---- among all

numbers-behind : (front rs rs' : Records) → Keeps rs rs' → Keeps (front ++ rs) (front ++ rs')
numbers-behind [] rs rs' h = h
numbers-behind (r ∷ front) rs rs' h = (refl, refl, numbers-behind front rs rs' h)

-- placed records of segments that took over the same numbers, whose units have the same names
numbers-placed : (n n' : ℕ) (s s' : Journal) → ((a : ℕ) → a < length (units s) → name_of (units s) a ≡ name_of (units s') a) → ((name : Text) → carried_number s name ≡ carried_number s' name)
    → (rs rs' : Records) → AllKnown (length (units s)) rs → Keeps rs rs' → Keeps (placed_all n s rs) (placed_all n' s' rs')
numbers-placed n n' s s' names c [] rs' known h = tt
numbers-placed n n' s s' names c (r ∷ rs) [] known h = absurd h
numbers-placed n n' s s' names c (r ∷ rs) (r' ∷ rs') known h =
    let name : name_of (units s) r.automation ≡ name_of (units s') r'.automation
    = names r.automation known.0 ∙ (λ i. name_of (units s') (h.0 i)) in (
      h.0,
      (λ i. c (name i) i + h.1 i),
      numbers-placed n n' s s' names c rs rs' known.1 h.2,
    )

name-on : (s : Journal) (x : Entry) (a : ℕ) → a < length (units s) → name_of (units s) a ≡ name_of (units (more s x)) a
name-on s x a lt = (let e = sym (unit-more s x a lt) in λ i. option_map_or (λ (y : Automation). y.name) (e i) [])

number-on : (s : Journal) (x : Entry) → HasEntry s → (name : Text) → carried_number s name ≡ carried_number (more s x) name
number-on [] x h name = absurd h
number-on (e ∷ es) x h name = refl

-- LAW: with one entry more that opens no segment
pub numbers-on : (j : Journal) (x : Entry) → IsCut j → again_in x ≡ None → SameNumbers (records_of j) (records_of (more j x))
numbers-on j x c e =
    let s = segment j in
    let y = alone s x in
    let has = has-entry s c.alone in
    let on : segment (more j x) ≡ more s y = segment-on j x e in
    let closed = closed-on j x e in
    let one : SameNumbers (all.records_of s) (all.records_of (more s y)) = subst (SameNumbers (all.records_of s)) (sym (records-more s y)) (numbers-after s (all.records_of s) y) in
    let both = numbers-behind (closed_records j) _ _ (numbers-placed (front j) (front j) s (more s y) (name-on s y) (number-on s y has) (all.records_of s) (all.records_of (more s y)) (all-known s) one) in
    let new : records_of (more j x) ≡ closed_records j ++ placed_all (front j) (more s y) (all.records_of (more s y))
    = records-cut (more j x) ∙ (λ i. records_from 0 (closed i) ++ placed_all (entries_in (closed i)) (on i) (all.records_of (on i))) in
    subst (SameNumbers (records_of j)) (sym new) (subst (λ rs. SameNumbers rs (closed_records j ++ placed_all (front j) (more s y) (all.records_of (more s y)))) (sym (records-cut j)) both)

-- LAW: with one that opens a segment
pub numbers-again : (j : Journal) (x : Entry) (a : Reopening) → again_in x ≡ Some a → SameNumbers (records_of j) (records_of (more j x))
numbers-again j x a e =
    let s = segment (more j x) in
    let closed : (cut (more j x)).closed ≡ segments j = closed-again j x a e in
    let later = placed_all (entries_in (cut (more j x)).closed) s (all.records_of s) in
    let new : records_of (more j x) ≡ records_of j ++ later = records-cut (more j x) ∙ (λ i. records_from 0 (closed i) ++ later) in
    subst (SameNumbers (records_of j)) (sym new) (numbers-append (records_of j) later)

pub numbers-then : (a b c : Records) → SameNumbers a b → SameNumbers b c → SameNumbers a c
numbers-then [] b c g h = tt
numbers-then (x ∷ xs) [] c g h = absurd g
numbers-then (x ∷ xs) (y ∷ ys) [] g h = absurd h
numbers-then (x ∷ xs) (y ∷ ys) (z ∷ zs) g h = (g.0 ∙ h.0, g.1 ∙ h.1, numbers-then xs ys zs g.2 h.2)

pub numbers-put : (j : Journal) (x : Entry) → IsCut j → IsPut x → SameNumbers (records_of j) (records_of (put j x))
numbers-put j x c p = by-way (λ k. SameNumbers (records_of j) (records_of k)) j x (λ e. numbers-on j x c p.none)
    (λ e. numbers-then (records_of j) (records_of (more j x)) (records_of (more (more j x) (again_of (more j x)))) (numbers-on j x c p.none) (numbers-again (more j x) (again_of (more j x)) _ refl))

-- LAW: the records of right journals, of which one has one put more
pub numbers-more : (j : Journal) (x : Entry) (rs rs' : Records) → IsPut x → Right j rs → Right (put j x) rs' → SameNumbers rs rs'
numbers-more j x rs rs' p right right' =
    subst (SameNumbers rs) (sym right'.records_are) (subst (λ l. SameNumbers l (records_of (put j x))) (sym right.records_are) (numbers-put j x (is-cut j right.journal.entries) p))

-- there are no fewer
pub numbers-length : (a b : Records) → SameNumbers a b → length a ≤ length b
numbers-length [] b h = omega arith
numbers-length (x ∷ xs) [] h = absurd h
numbers-length (x ∷ xs) (y ∷ ys) h = let n = numbers-length xs ys h.2 in omega (arith, n)
