-- What the opening of the last segment took over, where it stands in the list of all entries.
use Rattle.std.proofs.Common.{◌≡◌, ℕ, ◌+◌, List, [], ◌∷◌, ◌++◌, length, map, refl, sym, subst, ◌∙◌, append_assoc}
use Rattle.std.specs.Prelude.{None, Some, option_map, slice_get, unwrap_or}
use Rattle.std.specs.Option.{option_map_or}
use Rattle.ha_config.specs.Words.{EachAfter, Text}
use Rattle.ha_config.proofs.ListLemmas.{append-nil, get-last}
use Rattle.ha_config.proofs.NumberedLemmas.{get-front, get-within}
use Rattle.ha_journal.specs.declared.carry.Carry.{Carry}
use Rattle.ha_journal.specs.declared.entry.Entry.{Entry}
use Rattle.ha_journal.specs.declared.entry.Entry.TheVariants.{Boot, Line, Step, Again}
use Rattle.ha_journal.specs.Entries.{BeginsSegment, Reopening, again_in}
use Rattle.ha_journal.specs.Journal.{Journal, HasEntry, more}
use Rattle.ha_journal.specs.Journal as one
use Rattle.ha_journal.proofs.MoreLemmas.{has-entry}
use Rattle.ha_whole.specs.Lasts.{lasts_carried}
use Rattle.ha_whole.specs.Named.{named}
use Rattle.ha_whole.specs.Segments.{alone, carried_number, cut, entries_in, front, reopened, segment, segments}
use Rattle.ha_whole.specs.Whole.{AreEntries, IsBehind, IsFirst, again_of, carry_of, numbers_carried}
use Rattle.whole_laws.proofs.CutLemmas.{IsCut, closed-again, closed-on, cut-behind, cut-first, entries-snoc, segment-again, segment-on}
use Rattle.segment_carry.specs.Sources.{carry_in}
use Rattle.segment_carry.proofs.LastLemmas.{carried-is}
use Rattle.ha_engine.specs.declared.bounds.Bounds.{Bounds}
use Rattle.ha_engine.specs.Lies.{Lies}
use Rattle.ha_engine.specs.Reloads.{lasts_at, numbers_at}

pub record Opened (k : Journal) : Type 0 where
  pub opening : Entry
  pub there : slice_get k (front k) ≡ Some opening
  pub begins : BeginsSegment opening
  pub last_is : lasts_carried (segment k) ≡ (carry_in opening).last
  pub numbers_are : numbers_carried (segment k) ≡ (carry_in opening).numbers

opened-first : (e : Entry) → IsFirst e → Opened (e ∷ [])
opened-first (Boot text config stored start zone carry) h = record { opening = Boot text config stored start zone carry; there = refl; begins = tt; last_is = refl; numbers_are = refl }
opened-first (Line source number cmd) h = absurd h
opened-first (Step worker serial branch item) h = absurd h
opened-first (Again number start stored carry) h = absurd h

lasts-more : (s : Journal) (x : Entry) → HasEntry s → lasts_carried (more s x) ≡ lasts_carried s
lasts-more [] x h = absurd h
lasts-more (e ∷ es) x h = refl

numbers-more : (s : Journal) (x : Entry) → HasEntry s → numbers_carried (more s x) ≡ numbers_carried s
numbers-more [] x h = absurd h
numbers-more (e ∷ es) x h = refl

opened-on : (k : Journal) (x : Entry) → IsCut k → again_in x ≡ None → Opened k → Opened (more k x)
opened-on k x c none h =
    let s : Journal = segment k in
    let same : front (more k x) ≡ front k = (λ i. entries_in (closed-on k x none i)) in
    let on : segment (more k x) ≡ more s (alone s x) = segment-on k x none in
    let has : HasEntry s = has-entry s c.alone in
    record {
      opening = h.opening;
      there = (λ i. slice_get (more k x) (same i)) ∙ get-front k (x ∷ []) (front k) (get-within k (front k) h.opening h.there) ∙ h.there;
      begins = h.begins;
      last_is = (λ i. lasts_carried (on i)) ∙ lasts-more s (alone s x) has ∙ h.last_is;
      numbers_are = (λ i. numbers_carried (on i)) ∙ numbers-more s (alone s x) has ∙ h.numbers_are;
    }

reopened-last : (s : Journal) (a : Reopening) → one.IsJournal s → lasts_carried (reopened s a) ≡ a.carry.last
reopened-last [] a h = absurd h
reopened-last (Boot text config stored start zone carry ∷ es) a h = refl
reopened-last (Line source number cmd ∷ es) a h = absurd h.0
reopened-last (Step worker serial branch item ∷ es) a h = absurd h.0
reopened-last (Again number start stored carry ∷ es) a h = absurd h.0

reopened-numbers : (s : Journal) (a : Reopening) → one.IsJournal s → numbers_carried (reopened s a) ≡ a.carry.numbers
reopened-numbers [] a h = absurd h
reopened-numbers (Boot text config stored start zone carry ∷ es) a h = refl
reopened-numbers (Line source number cmd ∷ es) a h = absurd h.0
reopened-numbers (Step worker serial branch item ∷ es) a h = absurd h.0
reopened-numbers (Again number start stored carry ∷ es) a h = absurd h.0

opened-again : (k : Journal) → IsCut k → Opened (more k (again_of k))
opened-again k c =
    let x : Entry = again_of k in
    let s : Journal = segment k in
    let a : Reopening = record { number = _; start = _; stored = _; carry = carry_of k } in
    let closed : (cut (more k x)).closed ≡ segments k = closed-again k x a refl in
    let at : front (more k x) ≡ length k = (λ i. entries_in (closed i)) ∙ entries-snoc (cut k).closed s ∙ c.length_is in
    record {
      opening = x;
      there = (λ i. slice_get (more k x) (at i)) ∙ get-last k x;
      begins = tt;
      last_is = (λ i. lasts_carried (segment-again k x a refl i)) ∙ reopened-last s a c.alone;
      numbers_are = (λ i. numbers_carried (segment-again k x a refl i)) ∙ reopened-numbers s a c.alone;
    }

opened-behind : (k : Journal) (x : Entry) → IsCut k → IsBehind k x → Opened k → Opened (more k x)
opened-behind k (Boot text config stored start zone carry) c b h = absurd b
opened-behind k (Line source number cmd) c b h = opened-on k (Line source number cmd) c refl h
opened-behind k (Step worker serial branch item) c b h = opened-on k (Step worker serial branch item) c refl h
opened-behind k (Again number start stored carry) c b h = subst (λ y. Opened (more k y)) (sym b.1) (opened-again k c)

has-more : (j : Journal) (x : Entry) → HasEntry j → HasEntry (more j x)
has-more [] x h = absurd h
has-more (e ∷ es) x h = tt

opened-from : (before xs : Journal) → IsCut before → HasEntry before → EachAfter IsBehind before xs → Opened before → Opened (before ++ xs)
opened-from before [] c has b h = subst Opened (sym (append-nil before)) h
opened-from before (x ∷ xs) c has b h =
    subst Opened (append_assoc before (x ∷ []) xs)
    (opened-from (more before x) xs (cut-behind before x c has b.0) (has-more before x has) b.1 (opened-behind before x c b.0 h))

-- LAW: the opening stands behind the closed segments, and the last one has what it took over
pub opened-of : (k : Journal) → AreEntries k → Opened k
opened-of [] h = absurd h
opened-of (e ∷ es) h = opened-from (e ∷ []) es (cut-first e h.0) tt h.1 (opened-first e h.0)

-- ---- where the engine looks for it

module _ (k : Journal) (b : Bounds) (h : Lies k b) where
  opened : Opened k
  opened = opened-of k h.entries

  pub opening-found : (e : Entry) × (slice_get k b.front ≡ Some e) × BeginsSegment e
  opening-found = (opened.opening, (λ i. slice_get k (h.front_is i)) ∙ opened.there, opened.begins)

  pub lasts-found : lasts_at k b.front ≡ lasts_carried (segment k)
  lasts-found =
      (λ i. lasts_at k (h.front_is i)) ∙ (λ i. option_map_or (λ (v : Carry). v.last) (option_map carry_in (opened.there i)) []) ∙ sym opened.last_is

  pub numbers-found : numbers_at k b.front ≡ numbers_carried (segment k)
  numbers-found =
      (λ i. numbers_at k (h.front_is i)) ∙ (λ i. option_map_or (λ (v : Carry). v.numbers) (option_map carry_in (opened.there i)) []) ∙ sym opened.numbers_are

-- LAW: what was carried for a name is what the segment has
pub numbers-named : (s : Journal) (numbers : List (Text × ℕ)) (names : List Text) → numbers ≡ numbers_carried s → map (λ name. unwrap_or (named name numbers) 0) names ≡ map (carried_number s) names
numbers-named s numbers names is = by names
  where
    by : (ns : List Text) → map (λ name. unwrap_or (named name numbers) 0) ns ≡ map (carried_number s) ns
    by [] = refl
    by (n ∷ ns) = (λ i. ((λ j. unwrap_or (named n (is j)) 0) ∙ sym (carried-is s n)) i ∷ by ns i)
