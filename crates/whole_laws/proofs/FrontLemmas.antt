-- What a lawful journal begins with, up to any of its entries, is lawful, opened where it ends with a Restart.
use Rattle.std.proofs.Common.{◌≡◌, ℕ, ◌+◌, ◌-◌, ◌<◌, ◌≤◌, inl, inr, List, [], ◌∷◌, ◌++◌, length, Bool, true, false, refl, sym, subst, ◌∙◌, arith, append_assoc, length-append}
use Rattle.std.specs.Prelude.{◌&&◌, if◌then◌else◌}
use Rattle.std.specs.List.{list_all}
use Rattle.ha_journal.specs.declared.entry.Entry.{Entry}
use Rattle.ha_journal.specs.declared.entry.Entry.TheVariants.{Boot, Line, Step, Again}
use Rattle.ha_config.specs.Words.{EachAfter, EachWith}
use Rattle.ha_journal.specs.Journal.{Journal, HasEntry, more}
use Rattle.ha_model.specs.Records.{Records}
use Rattle.ha_model.specs.Lawful as one
use Rattle.ha_model.specs.Lawful.{is_by_worker_0}
use Rattle.ha_whole.specs.Segments.{alone, segment}
use Rattle.ha_whole.specs.Whole.{AreEntries, IsBehind, IsDue, IsFirst, IsRightEntry, IsTurn, Lawful, again_of, ends_segment, opened, own, records_of}
use Rattle.ha_config.proofs.ListLemmas.{append-nil, true-false}
use Rattle.ha_model.proofs.AppendLemmas.{SameUpTo}
use Rattle.ha_config.proofs.EqualLemmas.{and_left, and_right}
use Rattle.whole_laws.proofs.CutLemmas.{IsCut, cut-behind, cut-first, is-cut}
use Rattle.whole_laws.proofs.GrowthLemmas.{own-same}
use Rattle.ha_laws.proofs.PrefixLaws.{has-more, same-less}
use Rattle.whole_laws.proofs.PrefixLemmas.{ready-told, records-prefix, rested-told}
use Rattle.ha_laws.proofs.RightMore.{right-back}
use Rattle.whole_laws.proofs.LiftLemmas.{ends-more}

each-front : {X : Type 0} (P : List X → X → Type 0) (before xs ys : List X) → EachAfter P before (xs ++ ys) → EachAfter P before xs
each-front P before [] ys h = tt
each-front P before (x ∷ xs) ys h = (h.0, each-front P (before ++ (x ∷ [])) xs ys h.1)

each-behind : {X : Type 0} (P : List X → X → Type 0) (before xs ys : List X) → EachAfter P before (xs ++ ys) → EachAfter P (before ++ xs) ys
each-behind P before [] ys h = subst (λ l. EachAfter P l ys) (sym (append-nil before)) h
each-behind P before (x ∷ xs) ys h = subst (λ l. EachAfter P l ys) (append_assoc before (x ∷ []) xs) (each-behind P (before ++ (x ∷ [])) xs ys h.1)

-- ---- told back

turn-back : (j : Journal) (rs rs' : Records) → IsCut j → SameUpTo (length j) rs rs' → (x : Entry) → IsTurn rs' j x → IsTurn rs j x
turn-back j rs rs' c s (Boot text config stored start zone carry) h = tt
turn-back j rs rs' c s (Line k number cmd) h = (h.0, rested-told j rs rs' c s k ∙ h.1, h.2, h.3, h.4)
turn-back j rs rs' c s (Step k serial branch item) h =
    let e = ready-told j rs rs' c s in
    (subst (λ l. 0 < length l) (sym e) h.0, (λ i. one.pick k (e i)) ∙ h.1)
turn-back j rs rs' c s (Again number start stored carry) h = tt

right-back-whole : (j : Journal) (rs rs' : Records) → IsCut j → SameUpTo (length j) rs rs' → (x : Entry) → IsRightEntry rs' j x → IsRightEntry rs j x
right-back-whole j rs rs' c s x h = right-back (length (segment j)) (own j rs) (own j rs') (own-same j rs rs' c s) (segment j) (alone (segment j) x) refl h

all-front : (xs ys : List Entry) → list_all is_by_worker_0 (xs ++ ys) ≡ true → list_all is_by_worker_0 xs ≡ true
all-front [] ys h = refl
all-front (x ∷ xs) ys h = both (is_by_worker_0 x) (list_all is_by_worker_0 xs) (and_left (is_by_worker_0 x) (list_all is_by_worker_0 (xs ++ ys)) h) (all-front xs ys (and_right (is_by_worker_0 x) (list_all is_by_worker_0 (xs ++ ys)) h))
  where
    both : (a b : Bool) → a ≡ true → b ≡ true → (a && b) ≡ true
    both true b p q = q
    both false b p q = absurd (true-false (sym p))

due-back : (j : Journal) (rs rs' : Records) → IsCut j → SameUpTo (length j) rs rs' → (x : Entry) (behind ys : List Entry) → IsDue rs' j (x ∷ (behind ++ ys)) → IsDue rs j (x ∷ behind)
due-back j rs rs' c s (Boot text config stored start zone carry) behind ys h = tt
due-back j rs rs' c s (Line k number cmd) behind ys h = tt
due-back j rs rs' c s (Step k serial branch item) behind ys (inl busy) = inl (rested-told j rs rs' c s k ∙ busy)
due-back j rs rs' c s (Step k serial branch item) behind ys (inr (zero_k, closing)) = inr (zero_k, all-front behind ys closing)
due-back j rs rs' c s (Again number start stored carry) behind ys h = tt

-- ---- along a front

module _ (n : ℕ) (rs rs' : Records) (same : SameUpTo n rs rs') where
  each-back : (P : Records → Journal → Entry → Type 0) → ((d : Journal) → IsCut d → SameUpTo (length d) rs rs' → (x : Entry) → P rs' d x → P rs d x)
      → (before xs ys : Journal) → IsCut before → HasEntry before → EachAfter IsBehind before xs → length before + length xs ≤ n → EachAfter (P rs') before (xs ++ ys) → EachAfter (P rs) before xs
  each-back P f before [] ys c h b le p = tt
  each-back P f before (x ∷ xs) ys c h b le p = (
    f before c (same-less n (length before) (omega arith) rs rs' same) x p.0,
    each-back P f (more before x) xs ys (cut-behind before x c h b.0) (has-more before x h) b.1 (omega (arith, length-append before (x ∷ []))) p.1,
  )

  closed-back : (before xs ys : Journal) → IsCut before → HasEntry before → EachAfter IsBehind before xs → length before + length xs ≤ n → EachWith (IsDue rs') before (xs ++ ys) → EachWith (IsDue rs) before xs
  closed-back before [] ys c h b le p = tt
  closed-back before (x ∷ xs) ys c h b le p = (
    due-back before rs rs' c (same-less n (length before) (omega arith) rs rs' same) x xs ys p.0,
    closed-back (more before x) xs ys (cut-behind before x c h b.0) (has-more before x h) b.1 (omega (arith, length-append before (x ∷ []))) p.1,
  )

first-right : (rs : Records) (e : Entry) → IsFirst e → IsRightEntry rs [] e
first-right rs (Boot text config stored start zone carry) h = tt
first-right rs (Line source number cmd) h = absurd h
first-right rs (Step worker serial branch item) h = absurd h
first-right rs (Again number start stored carry) h = absurd h

first-turn : (rs : Records) (e : Entry) → IsFirst e → IsTurn rs [] e
first-turn rs (Boot text config stored start zone carry) h = tt
first-turn rs (Line source number cmd) h = absurd h
first-turn rs (Step worker serial branch item) h = absurd h
first-turn rs (Again number start stored carry) h = absurd h

first-due : (rs : Records) (e : Entry) (es : Journal) → IsFirst e → IsDue rs [] (e ∷ es)
first-due rs (Boot text config stored start zone carry) es h = tt
first-due rs (Line source number cmd) es h = absurd h
first-due rs (Step worker serial branch item) es h = absurd h
first-due rs (Again number start stored carry) es h = absurd h

front-at : (j ys : Journal) (rs : Records) → HasEntry j → ends_segment j ≡ false → Lawful (j ++ ys) rs → Lawful j (records_of j)
front-at [] ys rs has e h = absurd has
front-at (x ∷ xs) ys rs has e h =
    let all = h.right.journal.entries in
    let b : EachAfter IsBehind (x ∷ []) xs = each-front IsBehind (x ∷ []) xs ys all.1 in
    let c1 = cut-first x all.0 in
    let c = is-cut (x ∷ xs) (all.0, b) in
    let n = length (x ∷ xs) in
    let later : EachAfter IsBehind (x ∷ xs) ys = each-behind IsBehind (x ∷ []) xs ys all.1 in
    let same : SameUpTo n (records_of (x ∷ xs)) rs = subst (SameUpTo n (records_of (x ∷ xs))) (sym h.right.records_are) (records-prefix (x ∷ xs) ys c tt later) in
    record {
      right = record {
        journal = record { entries = (all.0, b); opened = e };
        records_are = refl;
        entries = (
          first-right (records_of (x ∷ xs)) x all.0,
          each-back n (records_of (x ∷ xs)) rs same (λ rs. IsRightEntry rs) (λ d c s y p. right-back-whole d (records_of (x ∷ xs)) rs c s y p) (x ∷ []) xs ys c1 tt b (omega arith) h.right.entries.1,
        );
      };
      turns = (
        first-turn (records_of (x ∷ xs)) x all.0,
        each-back n (records_of (x ∷ xs)) rs same (λ rs. IsTurn rs) (λ d c s y p. turn-back d (records_of (x ∷ xs)) rs c s y p) (x ∷ []) xs ys c1 tt b (omega arith) h.turns.1,
      );
      closed = (first-due (records_of (x ∷ xs)) x xs all.0, closed-back n (records_of (x ∷ xs)) rs same (x ∷ []) xs ys c1 tt b (omega arith) h.closed.1);
    }

-- behind a Restart its Again stands
again-behind : (j : Journal) (y : Entry) → ends_segment j ≡ true → IsBehind j y → y ≡ again_of j
again-behind j (Boot text config stored start zone carry) e h = absurd h
again-behind j (Line source number cmd) e h = absurd (true-false (sym e ∙ h))
again-behind j (Step worker serial branch item) e h = absurd (true-false (sym e ∙ h))
again-behind j (Again number start stored carry) e h = h.1

behind-first : (j ys : Journal) → HasEntry j → AreEntries (j ++ ys) → EachAfter IsBehind j ys
behind-first [] ys has h = absurd has
behind-first (x ∷ xs) ys has h = each-behind IsBehind (x ∷ []) xs ys h.1

-- LAW: what a lawful journal begins with is lawful, opened where it ends with a Restart
pub front-lawful : (j ys : Journal) (rs : Records) → HasEntry j → Lawful (j ++ ys) rs → Lawful (opened j) (records_of (opened j))
front-lawful j ys rs has h = by (ends_segment j) refl
  where
    again : (ys : Journal) → ends_segment j ≡ true → Lawful (j ++ ys) rs → Lawful (more j (again_of j)) (records_of (more j (again_of j)))
    again [] e h = absurd (true-false (sym e ∙ (λ i. ends_segment (sym (append-nil j) i)) ∙ h.right.journal.opened))
    again (y ∷ ys) e h =
        let is : y ≡ again_of j = again-behind j y e (behind-first j (y ∷ ys) has h.right.journal.entries).0 in
        let moved : Lawful (more j (again_of j) ++ ys) rs = subst (λ l. Lawful l rs) (sym (append_assoc j (again_of j ∷ []) ys)) (subst (λ z. Lawful (j ++ (z ∷ ys)) rs) is h) in
        front-at (more j (again_of j)) ys rs (has-more j (again_of j) has) (ends-more j (again_of j)) moved

    by : (b : Bool) → ends_segment j ≡ b → Lawful (if b then more j (again_of j) else j) (records_of (if b then more j (again_of j) else j))
    by false e = front-at j ys rs has e h
    by true e = again ys e h
