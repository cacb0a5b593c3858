-- What a journal within its bounds begins with is within them, and had room for what stands next.
use Rattle.std.proofs.Common.{◌≡◌, ◌∙◌, ap, sym, subst, refl, ℕ, suc, ◌+◌, ◌<◌, ◌≤◌, inl, inr, List, [], ◌∷◌, ◌++◌, length, Bool, true, arith, append_assoc, append-nil, length-append}
use Rattle.std.specs.Prelude.{Option, None, Some}
use Rattle.ha_journal.specs.declared.entry.Entry.{Entry}
use Rattle.ha_journal.specs.Entries.{Reopening, again_in, is_restart}
use Rattle.ha_journal.specs.Journal.{Journal, more}
use Rattle.ha_journal.proofs.MoreLemmas.{length-more}
use Rattle.ha_config.proofs.ListLemmas.{true-false}
use Rattle.ha_whole.specs.Segments.{alone, cut, segment, segments}
use Rattle.ha_whole.specs.Whole.{AreShort, CannotRestart, HasRoom, IsWithin, LacksRoom, again_of, carry_of, most_entries, most_in_segment, most_segments, put}
use Rattle.whole_laws.proofs.CutLemmas.{closed-again, closed-on, segment-on}
use Rattle.whole_laws.proofs.PutLemmas.{Once, Twice, Way, way-of}

short_front : (ss : List Journal) (s : Journal) → AreShort (ss ++ (s ∷ [])) → AreShort ss
short_front [] s h = tt
short_front (t ∷ ss) s h = (h.0, short_front ss s h.1)

short_last : (ss : List Journal) (s : Journal) → AreShort (ss ++ (s ∷ [])) → length s ≤ most_in_segment
short_last [] s h = h.0
short_last (t ∷ ss) s h = short_last ss s h.1

short_less : (ss : List Journal) (s t : Journal) → length s ≤ length t → AreShort (ss ++ (t ∷ [])) → AreShort (ss ++ (s ∷ []))
short_less [] s t le h = (omega (arith, le, h.0), tt)
short_less (u ∷ ss) s t le h = (h.0, short_less ss s t le h.1)

count : (ss : List Journal) (s : Journal) → length (ss ++ (s ∷ [])) ≡ suc (length ss)
count ss s = omega (arith, length-append ss (s ∷ []))

module _ (j : Journal) (x : Entry) where
  -- with an entry that opens no segment
  module _ (none : again_in x ≡ None) where
    longer : length (segment (more j x)) ≡ suc (length (segment j))
    longer = ap length (segment-on j x none) ∙ length-more (segment j) (alone (segment j) x)

    short_on : AreShort (segments (more j x)) → AreShort (segments j)
    short_on h = short_less (cut j).closed (segment j) (segment (more j x)) (omega (arith, longer)) (subst (λ ss. AreShort (ss ++ (segment (more j x) ∷ []))) (closed-on j x none) h)

    same_count : length (segments (more j x)) ≡ length (segments j)
    same_count = (let n = ap length (closed-on j x none) in omega (arith, n, count (cut (more j x)).closed (segment (more j x)), count (cut j).closed (segment j)))

  -- with one that opens one
  module _ (a : Reopening) (some : again_in x ≡ Some a) where
    short_again : AreShort (segments (more j x)) → AreShort (segments j)
    short_again h = subst AreShort (closed-again j x a some) (short_front (cut (more j x)).closed (segment (more j x)) h)

    more_count : length (segments (more j x)) ≡ suc (length (segments j))
    more_count = (let n = ap length (closed-again j x a some) in omega (arith, n, count (cut (more j x)).closed (segment (more j x))))

within_less : (j : Journal) (x : Entry) → IsWithin (more j x) → IsWithin j
within_less j x h = by (again_in x) refl
  where
    by : (o : Option Reopening) → again_in x ≡ o → IsWithin j
    by None e = record { segment_room = short_on j x e h.segment_room; room = omega (arith, length-more j x, h.room); segments_room = omega (arith, same_count j x e, h.segments_room) }
    by (Some a) e = record { segment_room = short_again j x a e h.segment_room; room = omega (arith, length-more j x, h.room); segments_room = omega (arith, more_count j x a e, h.segments_room) }

-- LAW: what a journal within its bounds begins with is within them
pub within_front : (j ys : Journal) → IsWithin (j ++ ys) → IsWithin j
within_front j [] h = subst IsWithin (append-nil j) h
within_front j (y ∷ ys) h = within_less j y (within_front (more j y) ys (subst IsWithin (sym (append_assoc j (y ∷ []) ys)) h))

room_on : (j : Journal) (x : Entry) (b : Bool) → again_in x ≡ None → IsWithin (more j x) → (b ≡ true → (suc (length j) < most_entries) × (length (segments j) < most_segments)) → HasRoom j b
room_on j x b none h restart = record {
  segment_room = (let n = longer j x none in let low = short_last (cut (more j x)).closed (segment (more j x)) h.segment_room in omega (arith, n, low));
  room = omega (arith, length-more j x, h.room);
  restart = restart;
}

-- LAW: a journal that is within its bounds with one put more had room for it
pub had_room : (j : Journal) (x : Entry) → again_in x ≡ None → IsWithin (put j x) → HasRoom j (is_restart x)
had_room j x none h = by (way-of j x)
  where
    by : Way j x → HasRoom j (is_restart x)
    by (Once e is) = room_on j x (is_restart x) none (subst IsWithin is h) (λ holds. absurd (true-false (sym holds ∙ e)))
    by (Twice e is) =
        let k : Journal = more j x in
        let all : IsWithin (more k (again_of k)) = subst IsWithin is h in
        let one = same_count j x none in
        let a : Reopening = record { number = _; start = _; stored = _; carry = carry_of k } in
        let two = more_count k (again_of k) a refl in
        room_on j x (is_restart x) none (within_less k (again_of k) all)
        (λ holds. (omega (arith, all.room, length-more k (again_of k), length-more j x), omega (arith, all.segments_room, one, two)))

not_both : (a m : ℕ) → a < m → a ≡ m → ⊥
not_both a m lt e = omega (arith, lt, e)

-- there is room, or there is none
pub room_or_none : (j : Journal) (b : Bool) → HasRoom j b → LacksRoom j b → ⊥
room_or_none j b room (inl (inl full)) = not_both (length (segment j)) most_in_segment room.segment_room full
room_or_none j b room (inl (inr full)) = not_both (length j) most_entries room.room full
room_or_none j b room (inr cannot) = by cannot.1 (room.restart cannot.0)
  where
    by : CannotRestart j → (suc (length j) < most_entries) × (length (segments j) < most_segments) → ⊥
    by (inl full) r = not_both (suc (length j)) most_entries r.0 full
    by (inr full) r = not_both (length (segments j)) most_segments r.1 full
