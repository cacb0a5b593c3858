-- The calls of a run are those that its segment alone has; so the record of a call's step has counted it, and the calls' text stays where
-- records grow.
use Rattle.std.proofs.Common.{◌≡◌, ℕ, zero, suc, ◌+◌, ◌-◌, ◌<◌, List, [], ◌∷◌, ◌++◌, length, drop, true, false, cond, refl, sym, ap, subst, ◌∙◌, rules, arith, append_assoc, Option}
use Rattle.std.specs.Prelude.{Some, None, ◌&&◌, map, nat_eq, slice_get, is_some}
use Rattle.std.specs.Option.{option_map_or}
use Rattle.std.proofs.lemmas.Bool.{eq-eqb}
use Rattle.std.proofs.lemmas.Option.{slice_get_within}
use Rattle.ha_journal.specs.declared.entry.Entry.{Entry}
use Rattle.ha_journal.specs.declared.entry.Entry.TheVariants.{Boot, Line, Step, Again}
use Rattle.ha_sight.specs.declared.item.Item.{Item}
use Rattle.ha_model.specs.declared.record.Record.{Record}
use Rattle.ha_config.specs.Words.{EachAfter}
use Rattle.ha_sight.specs.Items.{Called, call_in, is_call}
use Rattle.ha_journal.specs.Entries.{Reopening, again_in, IsBoot}
use Rattle.ha_journal.specs.Journal.{HasEntry, Journal, more}
use Rattle.ha_journal.specs.EntryText.{texts_after}
use Rattle.ha_model.specs.Records as all
use Rattle.ha_model.specs.Records.{Records, calls_of, is_call_of}
use Rattle.ha_model.proofs.FoldLaws.{records-passes}
use Rattle.ha_model.proofs.Passes.{ended, with_begins}
use Rattle.ha_model.specs.Lawful as one
use Rattle.ha_model.specs.Lawful.{record_of}
use Rattle.ha_model.specs.Texts.{call_of_step}
use Rattle.ha_whole.specs.Trace.{call_text, call_text_of, names}
use Rattle.ha_config.proofs.ListLemmas.{append-nil, none-some, some-same}
use Rattle.ha_journal.proofs.MoreLemmas.{has-entry}
use Rattle.ha_model.proofs.AppendLemmas.{SameUpTo}
use Rattle.ha_model.proofs.LastEntry.{calls-more, no-calls}
use Rattle.ha_model.proofs.StepLaws.{serial-at}
use Rattle.ha_laws.specs.OneRun.{SameNumbers}
use Rattle.ha_laws.proofs.CallGrowth.{step-same}
use Rattle.ha_laws.proofs.PrefixLaws.{has-more}
use Rattle.ha_laws.proofs.RightMore.{each-last}
use Rattle.ha_whole.specs.Segments.{alone, carried, counted_from, front, segment}
use Rattle.ha_whole.specs.Whole.{IsBehind, IsFirst, IsRightEntry, Right, placed, placed_all, records_from, records_of, taken_back}
use Rattle.whole_laws.proofs.CutLemmas.{IsCut, carried-on, closed-again, closed_records, cut-behind, cut-first, is-cut, records-cut, reopens, segment-again, segment-on}
use Rattle.whole_laws.proofs.EachLemmas.{Segs, first-segs, right-alone, segs-behind}
use Rattle.whole_laws.proofs.PrefixLemmas.{records-prefix}

eq-shift : (n a b : ℕ) → nat_eq (n + a) (n + b) ≡ nat_eq a b
eq-shift zero a b = (let e : 0 + a ≡ a = omega arith in let f : 0 + b ≡ b = omega arith in λ i. nat_eq (e i) (f i))
eq-shift (suc n) a b = search (rules, eq-shift n a b)

-- the serial of a right step counts from 1
steps-from-1 : (s : Journal) (k t : ℕ) (branch : List ℕ) (item : Item) → one.IsRightEntry (all.records_of s) s (Step k t branch item) → 0 < t
steps-from-1 s k t branch item h =
    let numbered : h.0.serial ≡ suc (t - 1) = serial-at s (t - 1) h.0 h.1 in
    omega (arith, numbered, h.2)

-- ---- the calls of a run of the last segment

-- a call of the run in all entries is one of it in the segment
same-call : (c q : ℕ) (s : Journal) (x : Entry) → one.IsRightEntry (all.records_of s) s (counted_from c x) → is_call_of (c + q) x ≡ is_call_of q (counted_from c x)
same-call c q s (Boot text config stored start zone carry) h = refl
same-call c q s (Line source number cmd) h = refl
same-call c q s (Again number start stored carry) h = refl
same-call c q s (Step k serial branch item) h =
    let some = steps-from-1 s k (serial - c) branch item h in
    let e : serial ≡ c + (serial - c) = omega (arith, some) in
    (λ i. (((λ i. nat_eq (e i) (c + q)) ∙ eq-shift c (serial - c) q) i) && is_call item)

record Calls (d : Journal) : Type 0 where
  segs : Segs d
  own_calls : (q : ℕ) → 0 < q → calls_of d (carried (segment d) + q) ≡ calls_of (segment d) q

calls-on : (d : Journal) (x : Entry) → IsCut d → again_in x ≡ None → one.IsRightEntry (all.records_of (segment d)) (segment d) (alone (segment d) x)
    → ((q : ℕ) → 0 < q → calls_of d (carried (segment d) + q) ≡ calls_of (segment d) q) → (q : ℕ) → 0 < q → calls_of (more d x) (carried (segment (more d x)) + q) ≡ calls_of (segment (more d x)) q
calls-on d x c none right g q lt =
    let s = segment d in
    let y = alone s x in
    let on : segment (more d x) ≡ more s y = segment-on d x none in
    let base : carried (segment (more d x)) ≡ carried s = (λ i. carried (on i)) ∙ carried-on s y (has-entry s c.alone) in
    (λ i. calls_of (more d x) (base i + q))
    ∙ calls-more d x (carried s + q)
    ∙ (λ i. g q lt i + cond (same-call (carried s) q s x right i) 1 0)
    ∙ sym (calls-more s y q)
    ∙ (λ i. calls_of (sym on i) q)

boot-calls : (b : Entry) → IsBoot b → (q : ℕ) → calls_of (b ∷ []) q ≡ 0
boot-calls (Boot text config stored start zone carry) h q = refl
boot-calls (Line source number cmd) h q = absurd h
boot-calls (Step worker serial branch item) h q = absurd h
boot-calls (Again number start stored carry) h q = absurd h

again-calls : (d : Journal) (x : Entry) (a : Reopening) (q : ℕ) → again_in x ≡ Some a → is_call_of q x ≡ false
again-calls d (Boot text config stored start zone carry) a q e = refl
again-calls d (Line source number cmd) a q e = refl
again-calls d (Step worker serial branch item) a q e = absurd (none-some a e)
again-calls d (Again number start stored carry) a q e = refl

length-all : (n : ℕ) (s : Journal) (rs : Records) → length (placed_all n s rs) ≡ length rs
length-all n s [] = refl
length-all n s (r ∷ rs) = ap suc (length-all n s rs)

length-both : (xs ys : Records) → length (xs ++ ys) ≡ length xs + length ys
length-both [] ys = omega arith
length-both (x ∷ xs) ys = let e = length-both xs ys in omega (arith, e)

-- how many runs there are
total : (d : Journal) → IsCut d → length (records_of d) ≡ carried (segment d) + length (all.records_of (segment d))
total d c =
    let s = segment d in
    let e = ap length (records-cut d) in
    let f = length-both (closed_records d) (placed_all (front d) s (all.records_of s)) in
    let g = length-all (front d) s (all.records_of s) in
    let h = c.carried_is in
    omega (arith, e, f, g, h)

calls-again : (d : Journal) (x : Entry) (a : Reopening) → IsCut d → IsCut (more d x) → again_in x ≡ Some a → one.Right (segment d) (all.records_of (segment d))
    → ((q : ℕ) → 0 < q → calls_of d (carried (segment d) + q) ≡ calls_of (segment d) q) → (q : ℕ) → 0 < q → calls_of (more d x) (carried (segment (more d x)) + q) ≡ calls_of (segment (more d x)) q
calls-again d x a c c' e right g q lt =
    let s = segment d in
    let n = length (all.records_of s) in
    let o = reopens s a c.alone in
    let on : segment (more d x) ≡ o.boot ∷ [] = segment-again d x a e ∙ o.is in
    let base : carried (segment (more d x)) ≡ length (records_of d) = c'.carried_is ∙ (λ i. length (records_from 0 (closed-again d x a e i))) in
    let long = total d c in
    let there : carried (segment (more d x)) + q ≡ carried s + (n + q) = omega (arith, base, long) in
    (λ i. calls_of (more d x) (there i))
    ∙ calls-more d x (carried s + (n + q))
    ∙ (λ i. g (n + q) (omega (arith, lt)) i + cond (again-calls d x a (carried s + (n + q)) e i) 1 0)
    ∙ (let z = no-calls s (all.records_of s) right (n + q) (omega (arith, lt)) in omega (arith, z))
    ∙ sym ((λ i. calls_of (on i) q) ∙ boot-calls o.boot o.is_boot q)

calls-behind : (d : Journal) (rs : Records) (x : Entry) → IsCut d → HasEntry d → IsBehind d x → SameUpTo (length d) (records_of d) rs → IsRightEntry rs d x → Calls d → Calls (more d x)
calls-behind d rs (Boot text config stored start zone carry) c has b same h g = absurd b
calls-behind d rs (Line source number cmd) c has b same h g = record {
  segs = segs-behind d rs (Line source number cmd) c b same h g.segs;
  own_calls = calls-on d (Line source number cmd) c refl (right-alone d rs (Line source number cmd) c same h) g.own_calls;
}
calls-behind d rs (Step worker serial branch item) c has b same h g = record {
  segs = segs-behind d rs (Step worker serial branch item) c b same h g.segs;
  own_calls = calls-on d (Step worker serial branch item) c refl (right-alone d rs (Step worker serial branch item) c same h) g.own_calls;
}
calls-behind d rs (Again number start stored carry) c has b same h g = record {
  segs = segs-behind d rs (Again number start stored carry) c b same h g.segs;
  own_calls =
      calls-again d (Again number start stored carry) (record { number = number; start = start; stored = stored; carry = carry }) c
      (cut-behind d (Again number start stored carry) c has b) refl g.segs.last g.own_calls;
}

calls-from : (d xs : Journal) (rs : Records) → IsCut d → HasEntry d → rs ≡ records_of (d ++ xs) → EachAfter IsBehind d xs → EachAfter (IsRightEntry rs) d xs → Calls d → Calls (d ++ xs)
calls-from d [] rs c has e b h g = subst Calls (sym (append-nil d)) g
calls-from d (x ∷ xs) rs c has e b h g =
    let same : SameUpTo (length d) (records_of d) rs = subst (SameUpTo (length d) (records_of d)) (sym e) (records-prefix d (x ∷ xs) c has b) in
    subst Calls (append_assoc d (x ∷ []) xs)
    (calls-from (more d x) xs rs (cut-behind d x c has b.0) (has-more d x has) (e ∙ (λ i. records_of (sym (append_assoc d (x ∷ []) xs) i))) b.1 h.1 (calls-behind d rs x c has b.0 same h.0 g))

first-calls : (e : Entry) → IsFirst e → Calls (e ∷ [])
first-calls (Boot text config stored start zone carry) h = record { segs = first-segs (Boot text config stored start zone carry) h; own_calls = λ q lt. refl }
first-calls (Line source number cmd) h = absurd h
first-calls (Step worker serial branch item) h = absurd h
first-calls (Again number start stored carry) h = absurd h

all-calls : (j : Journal) (rs : Records) → Right j rs → Calls j
all-calls [] rs h = absurd h.journal.entries
all-calls (e ∷ es) rs h = let b = h.journal.entries in calls-from (e ∷ []) es rs (cut-first e b.0) tt h.records_are b.1 h.entries.1 (first-calls e b.0)

-- LAW: the calls of a run of the last segment are those that the segment alone has
pub calls-alone : (j : Journal) (rs : Records) → Right j rs → (q : ℕ) → 0 < q → calls_of j (carried (segment j) + q) ≡ calls_of (segment j) q
calls-alone j rs h = (all-calls j rs h).own_calls

-- ---- the record of a step

-- a record counts the calls of its serial
counted : (k : Journal) (b rs : Records) (i : ℕ) (r : Record) → slice_get (with_begins k b rs) i ≡ Some r → r.calls ≡ calls_of k r.serial
counted k b [] i r e = absurd (none-some r e)
counted k b (y ∷ ys) zero r e = let same = some-same _ r e in sym (ap (λ z. z.calls) same) ∙ ap (λ z. calls_of k z.serial) same
counted k b (y ∷ ys) (suc i) r e = counted k (y ∷ b) ys i r e

get-behind : (xs ys : Records) (i : ℕ) → slice_get (xs ++ ys) (length xs + i) ≡ slice_get ys i
get-behind [] ys i = (let e : 0 + i ≡ i = omega arith in λ k. slice_get ys (e k))
get-behind (x ∷ xs) ys i = (let e : length (x ∷ xs) + i ≡ suc (length xs + i) = omega arith in λ k. slice_get (x ∷ (xs ++ ys)) (e k)) ∙ get-behind xs ys i

get-placed : (n : ℕ) (s : Journal) (rs : Records) (i : ℕ) (r : Record) → slice_get rs i ≡ Some r → slice_get (placed_all n s rs) i ≡ Some (placed n s r)
get-placed n s [] i r e = absurd (none-some r e)
get-placed n s (y ∷ ys) zero r e = ap (λ z. Some (placed n s z)) (some-same y r e)
get-placed n s (y ∷ ys) (suc i) r e = get-placed n s ys i r e

-- LAW: behind a step that calls, the record of its run has counted that call
pub call-counted : (before : Journal) (k serial : ℕ) (branch : List ℕ) (item : Item) (rs : Records) → Right (more before (Step k serial branch item)) rs → (r : Record)
    → record_of rs serial ≡ Some r → is_some (call_in item) ≡ true → r.calls ≡ suc (calls_of before serial)
call-counted before k serial branch item rs right r found call =
    let x : Entry = Step k serial branch item in
    let j : Journal = more before x in
    let s = segment before in
    let c = is-cut j right.journal.entries in
    let t = serial - carried s in
    let y = alone s x in
    let on : segment j ≡ more s y = segment-on before x refl in
    let last : one.Right (more s y) (all.records_of (more s y)) = subst (λ (z : Journal). one.Right z (all.records_of z)) on (all-calls j rs right).segs.last in
    let own_records = all.records_of (more s y) in
    let known : one.IsRightEntry own_records s y = each-last (one.IsRightEntry own_records) [] s y last.entries in
    let has : HasEntry s = alone-had s k t branch item own_records last in
    let base : carried (segment j) ≡ carried s = (λ i. carried (on i)) ∙ carried-on s y has in
    let numbered : known.0.serial ≡ suc (t - 1) = serial-at (more s y) (t - 1) known.0 known.1 in
    let some : 0 < t = omega (arith, numbered, known.2) in
    let serial_is : serial ≡ carried s + t = omega (arith, some) in
    let at : serial - 1 ≡ length (closed_records j) + (t - 1) = (let ci = c.carried_is in omega (arith, some, serial_is, ci, base)) in
    let n = front j in
    let there : slice_get (placed_all n (segment j) (all.records_of (segment j))) (t - 1) ≡ Some (placed n (segment j) known.0)
    = get-placed n (segment j) (all.records_of (segment j)) (t - 1) known.0 ((λ i. slice_get (all.records_of (on i)) (t - 1)) ∙ known.1) in
    let same : r ≡ placed n (segment j) known.0 = some-same r (placed n (segment j) known.0)
    (sym found ∙ (λ i. slice_get ((right.records_are ∙ records-cut j) i) (at i)) ∙ get-behind (closed_records j) (placed_all n (segment j) (all.records_of (segment j))) (t - 1) ∙ there) in
    let count : known.0.calls ≡ calls_of (more s y) t = counted (more s y) [] (ended (more s y)) (t - 1) known.0 (ap (λ (xs : Records). slice_get xs (t - 1)) (sym (records-passes (more s y))) ∙ known.1)
    ∙ (λ i. calls_of (more s y) (known.2 i)) in
    let here : is_call_of serial x ≡ true = (λ i. eq-eqb serial serial refl i && call i) in
    ap (λ (z : Record). z.calls) same
    ∙ count
    ∙ (λ i. calls_of (sym on i) t)
    ∙ sym (calls-alone j rs right t some)
    ∙ (λ i. calls_of j ((base i) + t))
    ∙ (λ i. calls_of j (sym serial_is i))
    ∙ calls-more before x serial
    ∙ (λ i. calls_of before serial + cond (here i) 1 0)
    ∙ (omega arith)
  where
    alone-had : (s : Journal) (k t : ℕ) (branch : List ℕ) (item : Item) (rs : Records) → one.Right (more s (Step k t branch item)) rs → HasEntry s
    alone-had [] k t branch item rs h = absurd h.journal.0
    alone-had (e ∷ es) k t branch item rs h = tt

-- ---- the calls' text where records grow

length-back : (n : ℕ) (s : Journal) (rs : Records) → length (map {A = Record} {B = Record} (taken_back n s) rs) ≡ length rs
length-back n s [] = refl
length-back n s (r ∷ rs) = ap suc (length-back n s rs)

found-within : (n : ℕ) (s : Journal) (c i : ℕ) (rs : Records) (r : Record) → slice_get (map {A = Record} {B = Record} (taken_back n s) (drop c rs)) i ≡ Some r → c + i < length rs
found-within n s zero i rs r e = (let lt = slice_get_within (map {A = Record} {B = Record} (taken_back n s) rs) i r e in let same = length-back n s rs in omega (arith, lt, same))
found-within n s (suc c) i [] r e = absurd (none-some r e)
found-within n s (suc c) i (x ∷ xs) r e = (let lt = found-within n s c i xs r e in omega (arith, lt))

get-there : (rs : Records) (i : ℕ) → i < length rs → (r : Record) × (slice_get rs i ≡ Some r)
get-there [] i lt = absurd (omega (arith, lt))
get-there (r ∷ rs) zero lt = (r, refl)
get-there (r ∷ rs) (suc i) lt = get-there rs i (omega (arith, lt))

module _ (rs rs' : Records) (same : SameNumbers rs rs') where
  text-same : (before : Journal) (x : Entry) → IsRightEntry rs before x → call_text_of rs before x ≡ call_text_of rs' before x
  text-same before (Boot text config stored start zone carry) h = refl
  text-same before (Again number start stored carry) h = refl
  text-same before (Line source number cmd) h = refl
  text-same before (Step worker serial branch item) h = by (call_in item)
    where
      by : (o : Option Called) → option_map_or (call_of_step (names before) rs before (record { worker = worker; serial = serial; branch = branch; item = item })) o []
          ≡ option_map_or (call_of_step (names before) rs' before (record { worker = worker; serial = serial; branch = branch; item = item })) o []
      by None = refl
      by (Some call) =
          let c = carried (segment before) in
          let within = found-within (front before) (segment before) c ((serial - c) - 1) rs h.0 h.1 in
          let there = get-there rs (serial - 1) (omega (arith, within)) in
          step-same (names before) before (record { worker = worker; serial = serial; branch = branch; item = item }) call rs rs' there.0 same there.1

  texts-same : (before xs : Journal) → EachAfter (IsRightEntry rs) before xs → texts_after (call_text_of rs) before xs ≡ texts_after (call_text_of rs') before xs
  texts-same before [] h = refl
  texts-same before (x ∷ xs) h = (λ i. text-same before x h.0 i ++ texts-same (before ++ (x ∷ [])) xs h.1 i)

-- LAW: the calls' text of a right journal is the same by records that have grown
pub calls-same : (j : Journal) (rs rs' : Records) → Right j rs → SameNumbers rs rs' → call_text j rs ≡ call_text j rs'
calls-same j rs rs' right same = texts-same rs rs' same [] j right.entries
