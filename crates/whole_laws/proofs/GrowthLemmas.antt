-- What the records of a whole journal are with one more entry, and which of them are its last segment's.
use Rattle.std.proofs.Common.{◌≡◌, ℕ, ◌+◌, ◌-◌, [], ◌++◌, length, refl, sym, subst, ◌∙◌}
use Rattle.std.specs.Prelude.{None, Some, drop, map}
use Rattle.std.proofs.Math.Seq.{drop-append_seam}
use Rattle.ha_journal.specs.declared.entry.Entry.{Entry}
use Rattle.ha_journal.specs.declared.entry.Entry.TheVariants.{Boot, Line, Step, Again}
use Rattle.ha_model.specs.declared.record.Record.{Record}
use Rattle.ha_journal.specs.Entries.{Reopening, again_in}
use Rattle.ha_journal.specs.Journal.{Journal, more}
use Rattle.ha_journal.specs.Journal as one
use Rattle.ha_model.specs.Records as all
use Rattle.ha_model.specs.Records.{Records}
use Rattle.ha_whole.specs.Segments.{alone, carried, cut, entries_in, front, segment, segments}
use Rattle.ha_whole.specs.Whole.{own, placed_all, records_from, records_of, taken_back}
use Rattle.ha_config.proofs.ListLemmas.{append-nil}
use Rattle.ha_model.proofs.AppendLemmas.{SameUpTo}
use Rattle.ha_journal.proofs.MoreLemmas.{has-entry}
use Rattle.ha_model.proofs.FoldLaws.{records-same}
use Rattle.whole_laws.proofs.CutLemmas.{IsCut, closed_records, closed-again, closed-on, entries-snoc, records-cut, segment-on, carried-on}
use Rattle.whole_laws.proofs.OwnLemmas.{back-placed-all, same-back, same-behind, same-drop, same-later, same-placed}

abbrev back : ℕ → Journal → Records → Records
back n s rs = map {A = Record} {B = Record} (taken_back n s) rs

-- LAW: of the records of a journal those behind as many as its last segment carries are that segment's own
pub own-is : (j : Journal) → IsCut j → own j (records_of j) ≡ all.records_of (segment j)
own-is j c =
    let s = segment j in
    let placed = placed_all (front j) s (all.records_of s) in
    (λ i. back (front j) s (drop (c.carried_is i) (records-cut j i)))
    ∙ (λ i. back (front j) s (drop-append_seam (closed_records j) placed i))
    ∙ back-placed-all (front j) s (all.records_of s)

-- ---- one more entry

same-on : (j : Journal) (x : Entry) → IsCut j → again_in x ≡ None → SameUpTo (length j) (records_of j) (records_of (more j x))
same-on j x c e =
    let s = segment j in
    let y = alone s x in
    let has = has-entry s c.alone in
    let on : segment (more j x) ≡ more s y = segment-on j x e in
    let closed = closed-on j x e in
    let one = same-placed (front j) (length s) s (more s y) (sym (carried-on s y has)) (all.records_of s) (all.records_of (more s y)) (records-same s y has) in
    let both : SameUpTo (front j + length s) (closed_records j ++ placed_all (front j) s (all.records_of s)) (closed_records j ++ placed_all (front j) (more s y) (all.records_of (more s y)))
    = same-behind (front j + length s) (closed_records j) (placed_all (front j) s (all.records_of s)) (placed_all (front j) (more s y) (all.records_of (more s y))) one in
    let new : records_of (more j x) ≡ closed_records j ++ placed_all (front j) (more s y) (all.records_of (more s y))
    = records-cut (more j x) ∙ (λ i. records_from 0 (closed i) ++ placed_all (entries_in (closed i)) (on i) (all.records_of (on i))) in
    subst (λ rs. SameUpTo (length j) (records_of j) rs) (sym new)
    (subst (λ rs. SameUpTo (length j) rs (closed_records j ++ placed_all (front j) (more s y) (all.records_of (more s y)))) (sym (records-cut j))
    (subst (λ n. SameUpTo n (closed_records j ++ placed_all (front j) s (all.records_of s)) (closed_records j ++ placed_all (front j) (more s y) (all.records_of (more s y)))) c.length_is both))

same-again : (j : Journal) (x : Entry) (a : Reopening) → IsCut j → again_in x ≡ Some a → SameUpTo (length j) (records_of j) (records_of (more j x))
same-again j x a c e =
    let s' = segment (more j x) in
    let closed : (cut (more j x)).closed ≡ segments j = closed-again j x a e in
    let n' : entries_in (segments j) ≡ length j = entries-snoc (cut j).closed (segment j) ∙ c.length_is in
    let later = placed_all (length j) s' (all.records_of s') in
    let new : records_of (more j x) ≡ records_of j ++ later
    = records-cut (more j x) ∙ (λ i. records_from 0 (closed i) ++ placed_all (entries_in (closed i)) s' (all.records_of s')) ∙ (λ i. records_of j ++ placed_all (n' i) s' (all.records_of s')) in
    subst (λ rs. SameUpTo (length j) (records_of j) rs) (sym new)
    (subst (λ rs. SameUpTo (length j) rs (records_of j ++ later)) (append-nil (records_of j)) (same-behind (length j) (records_of j) [] later (same-later (length j) s' (all.records_of s'))))

-- LAW: what the records of a journal say up to its end, those with one more entry say too
pub records-same-more : (j : Journal) (x : Entry) → IsCut j → SameUpTo (length j) (records_of j) (records_of (more j x))
records-same-more j (Boot text config stored start zone carry) c = same-on j (Boot text config stored start zone carry) c refl
records-same-more j (Line source number cmd) c = same-on j (Line source number cmd) c refl
records-same-more j (Step worker serial branch item) c = same-on j (Step worker serial branch item) c refl
records-same-more j (Again number start stored carry) c =
    same-again j (Again number start stored carry) (record { number = number; start = start; stored = stored; carry = carry }) c refl

-- what is the same of all is the same of the last segment's own
pub own-same : (j : Journal) (rs rs' : Records) → IsCut j → SameUpTo (length j) rs rs' → SameUpTo (length (segment j)) (own j rs) (own j rs')
own-same j rs rs' c h =
    same-back (front j) (length (segment j)) (segment j) (drop (carried (segment j)) rs) (drop (carried (segment j)) rs')
    (same-drop (front j + length (segment j)) (carried (segment j)) rs rs' (subst (λ n. SameUpTo n rs rs') (sym c.length_is) h))
