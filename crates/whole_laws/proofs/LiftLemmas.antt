-- One put more: from the last segment to the whole, and along the order of turns.
use Rattle.std.proofs.Common.{◌≡◌, ℕ, ◌+◌, ◌-◌, inl, List, [], ◌∷◌, ◌++◌, length, Bool, true, false, refl, sym, subst, ◌∙◌, arith}
use Rattle.std.specs.Prelude.{map, if◌then◌else◌}
use Rattle.ha_journal.specs.declared.entry.Entry.{Entry}
use Rattle.ha_journal.specs.declared.entry.Entry.TheVariants.{Boot, Line, Step, Again}
use Rattle.ha_config.specs.Words.{EachAfter, EachWith}
use Rattle.ha_journal.specs.Entries.{is_restart}
use Rattle.ha_journal.specs.Journal.{Journal, HasEntry, more}
use Rattle.ha_sight.specs.Scripts.{Branch}
use Rattle.ha_model.specs.Records as all
use Rattle.ha_model.specs.Records.{Records}
use Rattle.ha_model.specs.Lawful as one
use Rattle.ha_whole.specs.Segments.{alone, carried, segment}
use Rattle.ha_whole.specs.Whole.{AreEntries, IsBehind, IsFirst, IsJournal, Right, Running, IsBusy, IsDue, IsOpen, IsRightEntry, IsTurn, again_of, ends_segment, is_quiet, is_rested, opened, own, put, ready, records_of}
use Rattle.ha_config.proofs.ListLemmas.{none-some}
use Rattle.ha_model.proofs.AppendLemmas.{each-snoc, SameUpTo}
use Rattle.ha_model.proofs.LastEntry.{last-is}
use Rattle.ha_model.proofs.FoldLaws.{records-same}
use Rattle.ha_journal.proofs.MoreLemmas.{length-more, has-entry}
use Rattle.ha_laws.proofs.RightMore.{each-last, right-back}
use Rattle.whole_laws.specs.Puts.{IsPut}
use Rattle.whole_laws.proofs.CutLemmas.{IsCut, cut-first, cut-on, is-cut}
use Rattle.whole_laws.proofs.GrowthLemmas.{own-is, records-same-more}
use Rattle.ha_laws.proofs.PrefixLaws.{same-less, same-trans}
use Rattle.whole_laws.proofs.PrefixLemmas.{busy-told, each-cut, right-told, turn-told}

-- ---- what is told by the records of the last segment alone

-- LAW: the quiet, the ready pairs and who is rested are those of the last segment alone
pub quiet-is : (j : Journal) (rs : Records) → IsCut j → rs ≡ records_of j → is_quiet rs j ≡ one.is_quiet (all.records_of (segment j)) (segment j)
quiet-is j rs c e = (λ i. is_quiet (e i) j) ∙ (λ i. one.is_quiet (own-is j c i) (segment j))

pub rested-is : (j : Journal) (rs : Records) → IsCut j → rs ≡ records_of j → (k : ℕ) → is_rested rs k j ≡ one.is_rested (all.records_of (segment j)) k (segment j)
rested-is j rs c e k = (λ i. is_rested (e i) k j) ∙ (λ i. one.is_rested (own-is j c i) k (segment j))

abbrev raised : ℕ → List (ℕ × Branch) → List (ℕ × Branch)
raised n ps = map {A = ℕ × Branch} {B = ℕ × Branch} (λ p. (n + p.0, p.1)) ps

pub ready-is : (j : Journal) (rs : Records) → IsCut j → rs ≡ records_of j → ready rs j ≡ raised (carried (segment j)) (one.ready (all.records_of (segment j)) (segment j))
ready-is j rs c e = (λ i. ready (e i) j) ∙ (λ i. raised (carried (segment j)) (one.ready (own-is j c i) (segment j)))

-- ---- an entry that a put appends

pub ends-more : (j : Journal) (x : Entry) → ends_segment (more j x) ≡ is_restart x
ends-more j x = last-is is_restart j x

pub same-put : (j : Journal) (x : Entry) → IsCut j → HasEntry j → IsPut x → SameUpTo (length j) (records_of j) (records_of (put j x))
same-put j x c h p = by (ends_segment (more j x)) refl
  where
    one-more : SameUpTo (length j) (records_of j) (records_of (more j x))
    one-more = records-same-more j x c

    k : Journal
    k = more j x

    by : (b : Bool) → ends_segment (more j x) ≡ b → SameUpTo (length j) (records_of j) (records_of (if b then more (more j x) (again_of (more j x)) else more j x))
    by false e = one-more
    by true e =
        same-trans (length j) (records_of j) (records_of (more j x)) (records_of (more (more j x) (again_of (more j x)))) one-more
        (same-less (length (more j x)) (length j) (omega (arith, length-more j x)) (records_of (more j x)) (records_of (more (more j x) (again_of (more j x))))
        (records-same-more (more j x) (again_of (more j x)) (cut-on j x c h p.none p.not_boot)))

-- ---- a fact of each entry, told by the records up to it

module _ (P : Records → Journal → Entry → Type 0) (told : (d : Journal) (rs rs' : Records) → IsCut d → SameUpTo (length d) rs rs' → (x : Entry) → P rs d x → P rs' d x)
    (first : (rs : Records) (e : Entry) → IsFirst e → P rs [] e) (free : (rs : Records) (d k : Journal) → P rs d (again_of k)) where
  each-told : (j : Journal) (rs rs' : Records) → AreEntries j → SameUpTo (length j) rs rs' → EachAfter (P rs) [] j → EachAfter (P rs') [] j
  each-told [] rs rs' b s h = absurd b
  each-told (e ∷ es) rs rs' b s h = (
    first rs' e b.0,
    each-cut (P rs) (P rs') (length (e ∷ es)) (λ d y c has lt p. told d rs rs' c (same-less (length (e ∷ es)) (length d) (omega (arith, lt)) rs rs' s) y p)
        (e ∷ []) es (cut-first e b.0) tt b.1 (omega arith) h.1,
  )

  -- with one put more
  pub each-put : (j : Journal) (rs : Records) (x : Entry) → AreEntries j → HasEntry j → IsPut x → rs ≡ records_of j → EachAfter (P rs) [] j → P rs j x
      → EachAfter (P (records_of (put j x))) [] (put j x)
  each-put j rs x b has p e h hx = by (ends_segment (more j x))
    where
      new : Records
      new = records_of (put j x)

      same : SameUpTo (length j) rs (records_of (put j x))
      same = subst (λ l. SameUpTo (length j) l (records_of (put j x))) (sym e) (same-put j x (is-cut j b) has p)

      on : EachAfter (P (records_of (put j x))) [] (more j x)
      on = each-snoc (P (records_of (put j x))) [] j x (each-told j rs (records_of (put j x)) b same h) (told j rs (records_of (put j x)) (is-cut j b) same x hx)

      by : (b : Bool) → EachAfter (P (records_of (put j x))) [] (if b then more (more j x) (again_of (more j x)) else more j x)
      by false = on
      by true = each-snoc (P (records_of (put j x))) [] (more j x) (again_of (more j x)) on (free (records_of (put j x)) (more j x) (more j x))

pub turn-first : (rs : Records) (e : Entry) → IsFirst e → IsTurn rs [] e
turn-first rs (Boot text config stored start zone carry) h = tt
turn-first rs (Line source number cmd) h = absurd h
turn-first rs (Step worker serial branch item) h = absurd h
turn-first rs (Again number start stored carry) h = absurd h

busy-first : (rs : Records) (e : Entry) → IsFirst e → IsBusy rs [] e
busy-first rs (Boot text config stored start zone carry) h = tt
busy-first rs (Line source number cmd) h = absurd h
busy-first rs (Step worker serial branch item) h = absurd h
busy-first rs (Again number start stored carry) h = absurd h

right-first : (rs : Records) (e : Entry) → IsFirst e → IsRightEntry rs [] e
right-first rs (Boot text config stored start zone carry) h = tt
right-first rs (Line source number cmd) h = absurd h
right-first rs (Step worker serial branch item) h = absurd h
right-first rs (Again number start stored carry) h = absurd h

open-closed : (rs : Records) (before xs : Journal) → EachAfter (IsBusy rs) before xs → EachWith (IsDue rs) before xs
open-closed rs before [] h = tt
open-closed rs before (Boot text config stored start zone carry ∷ xs) h = (tt, open-closed rs (before ++ (Boot text config stored start zone carry ∷ [])) xs h.1)
open-closed rs before (Line k number cmd ∷ xs) h = (tt, open-closed rs (before ++ (Line k number cmd ∷ [])) xs h.1)
open-closed rs before (Step k serial branch item ∷ xs) h = (inl h.0, open-closed rs (before ++ (Step k serial branch item ∷ [])) xs h.1)
open-closed rs before (Again number start stored carry ∷ xs) h = (tt, open-closed rs (before ++ (Again number start stored carry ∷ [])) xs h.1)

pub entries-have : (j : Journal) → AreEntries j → HasEntry j
entries-have [] h = absurd h
entries-have (e ∷ es) h = tt

-- LAW: a lawful journal without closing steps, and right with one put more whose turn it is and whose worker is busy, is so with the new
-- records
pub right-runs : (j : Journal) (rs rs' : Records) (x : Entry) → Running j rs → IsPut x → Right (put j x) rs' → IsTurn rs j x → IsBusy rs j x → Running (put j x) rs'
right-runs j rs rs' x run p new turn busy =
    let old = run.lawful.right in
    let b = old.journal.entries in
    let has = entries-have j b in
    let turns = each-put (λ rs. IsTurn rs) turn-told turn-first (λ rs d k. tt) j rs x b has p old.records_are run.lawful.turns turn in
    let is_open = each-put (λ rs. IsBusy rs) busy-told busy-first (λ rs d k. tt) j rs x b has p old.records_are run.is_open busy in
    let e = sym new.records_are in
    let opens : IsOpen rs' (put j x) = subst (λ l. EachAfter (IsBusy l) [] (put j x)) e is_open in
    record {
      lawful = record {
        right = new;
        turns = subst (λ l. EachAfter (IsTurn l) [] (put j x)) e turns;
        closed = open-closed rs' [] (put j x) opens;
      };
      is_open = opens;
    }

-- ---- from the last segment to the whole

behind-put : (j : Journal) (x : Entry) → IsPut x → ends_segment j ≡ false → IsBehind j x
behind-put j (Boot text config stored start zone carry) p e = absurd (p.not_boot tt)
behind-put j (Line source number cmd) p e = e
behind-put j (Step worker serial branch item) p e = e
behind-put j (Again number start stored carry) p e = absurd (none-some _ (sym p.none))

behind-snoc : (j : Journal) (x : Entry) → AreEntries j → IsBehind j x → AreEntries (more j x)
behind-snoc [] x b h = absurd b
behind-snoc (e ∷ es) x b h = (b.0, each-snoc IsBehind (e ∷ []) es x b.1 h)

entries-put : (j : Journal) (x : Entry) → IsPut x → IsJournal j → IsJournal (put j x)
entries-put j x p h = by (ends_segment (more j x)) refl
  where
    on : AreEntries (more j x)
    on = behind-snoc j x h.entries (behind-put j x p h.opened)

    by : (b : Bool) → ends_segment (more j x) ≡ b → IsJournal (if b then more (more j x) (again_of (more j x)) else more j x)
    by false e = record { entries = on; opened = e }
    by true e = record {
      entries = behind-snoc (more j x) (again_of (more j x)) on (e, refl);
      opened = ends-more (more j x) (again_of (more j x));
    }

-- LAW: a right journal is right with one put more where its last segment is, read alone
pub right-lifts : (j : Journal) (rs srs : Records) (x : Entry) → IsPut x → Right j rs → one.Right (more (segment j) (alone (segment j) x)) srs → Right (put j x) (records_of (put j x))
right-lifts j rs srs x p right new =
    let b = right.journal.entries in
    let c = is-cut j b in
    let s = segment j in
    let y = alone s x in
    let has = entries-have j b in
    let last : one.IsRightEntry srs s y = each-last (one.IsRightEntry srs) [] s y new.entries in
    let same : SameUpTo (length s) (all.records_of s) srs
    = subst (SameUpTo (length s) (all.records_of s)) (sym new.records_are) (records-same s y (has-entry s c.alone)) in
    let old : one.IsRightEntry (all.records_of s) s y = right-back (length s) (all.records_of s) srs same s y refl last in
    let own_is : own j rs ≡ all.records_of s = (λ i. own j (right.records_are i)) ∙ own-is j c in
    let here : IsRightEntry rs j x = subst (λ l. one.IsRightEntry l s y) (sym own_is) old in
    record {
      journal = entries-put j x p right.journal;
      records_are = refl;
      entries = each-put (λ rs. IsRightEntry rs) right-told right-first (λ rs d k. tt) j rs x b has p right.records_are right.entries here;
    }
