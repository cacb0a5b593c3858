-- What the records of a prefix say up to its end, those of the whole say too; and facts of each place carried from one list of records to
-- another.
use Rattle.std.proofs.Common.{◌≡◌, ℕ, ◌+◌, ◌-◌, ◌<◌, ◌≤◌, List, [], ◌∷◌, ◌++◌, length, sym, subst, ◌∙◌, arith, append_assoc, length-append}
use Rattle.std.specs.Prelude.{map}
use Rattle.ha_journal.specs.declared.entry.Entry.{Entry}
use Rattle.ha_journal.specs.declared.entry.Entry.TheVariants.{Boot, Line, Step, Again}
use Rattle.ha_config.specs.Words.{EachAfter}
use Rattle.ha_journal.specs.Journal.{Journal, HasEntry, more}
use Rattle.ha_sight.specs.Scripts.{Branch}
use Rattle.ha_model.specs.Records.{Records}
use Rattle.ha_model.specs.Lawful as one
use Rattle.ha_whole.specs.Segments.{alone, carried, segment}
use Rattle.ha_whole.specs.Whole.{IsBehind, own, records_of, ready, is_quiet, is_rested, IsRightEntry, IsTurn, IsBusy}
use Rattle.ha_config.proofs.ListLemmas.{append-nil}
use Rattle.ha_model.proofs.AppendLemmas.{SameUpTo, ready-same}
use Rattle.ha_journal.proofs.MoreLemmas.{length-more}
use Rattle.ha_model.proofs.LawfulLaws as one_laws
use Rattle.ha_laws.proofs.PrefixLaws.{has-more, same-less, same-refl, same-trans}
use Rattle.whole_laws.proofs.CutLemmas.{IsCut, cut-behind}
use Rattle.whole_laws.proofs.GrowthLemmas.{own-same, records-same-more}

-- LAW: what the records of a prefix say up to its end, those of the whole say too
pub records-prefix : (j : Journal) (ys : List Entry) → IsCut j → HasEntry j → EachAfter IsBehind j ys → SameUpTo (length j) (records_of j) (records_of (j ++ ys))
records-prefix j [] c h b = subst (λ l. SameUpTo (length j) (records_of j) (records_of l)) (sym (append-nil j)) (same-refl (length j) (records_of j))
records-prefix j (y ∷ ys) c h b =
    let one = records-same-more j y c in
    let rest = records-prefix (more j y) ys (cut-behind j y c h b.0) (has-more j y h) b.1 in
    let all : SameUpTo (length j) (records_of j) (records_of (more j y ++ ys))
    = same-trans (length j) (records_of j) (records_of (more j y)) (records_of (more j y ++ ys)) one
    (same-less (length (more j y)) (length j) (omega (arith, length-more j y)) (records_of (more j y)) (records_of (more j y ++ ys)) rest) in
    subst (λ l. SameUpTo (length j) (records_of j) (records_of l)) (append_assoc j (y ∷ []) ys) all

-- ---- told by the records up to the place

abbrev raised : ℕ → List (ℕ × Branch) → List (ℕ × Branch)
raised n ps = map {A = ℕ × Branch} {B = ℕ × Branch} (λ p. (n + p.0, p.1)) ps

-- LAW: who may step at a place is told by the records up to there
pub ready-told : (j : Journal) (rs rs' : Records) → IsCut j → SameUpTo (length j) rs rs' → ready rs j ≡ ready rs' j
ready-told j rs rs' c s =
    let n = length (segment j) in
    (λ i. raised (carried (segment j)) (ready-same n (own j rs) (own j rs') (own-same j rs rs' c s) (segment j) (omega arith) i))

pub quiet-told : (j : Journal) (rs rs' : Records) → IsCut j → SameUpTo (length j) rs rs' → is_quiet rs j ≡ is_quiet rs' j
quiet-told j rs rs' c s =
    let n = length (segment j) in
    (λ i. one.is_empty (ready-same n (own j rs) (own j rs') (own-same j rs rs' c s) (segment j) (omega arith) i))

pub rested-told : (j : Journal) (rs rs' : Records) → IsCut j → SameUpTo (length j) rs rs' → (k : ℕ) → is_rested rs k j ≡ is_rested rs' k j
rested-told j rs rs' c s k = one_laws.rested-same (length (segment j)) (own j rs) (own j rs') (own-same j rs rs' c s) k (segment j) (omega arith)

pub right-told : (j : Journal) (rs rs' : Records) → IsCut j → SameUpTo (length j) rs rs' → (x : Entry) → IsRightEntry rs j x → IsRightEntry rs' j x
right-told j rs rs' c s x h =
    one_laws.right-same (length (segment j)) (own j rs) (own j rs') (own-same j rs rs' c s) (segment j) (alone (segment j) x) (omega arith) h

pub turn-told : (j : Journal) (rs rs' : Records) → IsCut j → SameUpTo (length j) rs rs' → (x : Entry) → IsTurn rs j x → IsTurn rs' j x
turn-told j rs rs' c s (Boot text config stored start zone carry) h = tt
turn-told j rs rs' c s (Line k number cmd) h = (h.0, sym (rested-told j rs rs' c s k) ∙ h.1, h.2, h.3, h.4)
turn-told j rs rs' c s (Step k serial branch item) h =
    let e = ready-told j rs rs' c s in
    (subst (λ l. 0 < length l) e h.0, (λ i. one.pick k (sym e i)) ∙ h.1)
turn-told j rs rs' c s (Again number start stored carry) h = tt

pub busy-told : (j : Journal) (rs rs' : Records) → IsCut j → SameUpTo (length j) rs rs' → (x : Entry) → IsBusy rs j x → IsBusy rs' j x
busy-told j rs rs' c s (Boot text config stored start zone carry) h = tt
busy-told j rs rs' c s (Line k number cmd) h = tt
busy-told j rs rs' c s (Step k serial branch item) h = sym (rested-told j rs rs' c s k) ∙ h
busy-told j rs rs' c s (Again number start stored carry) h = tt

-- ---- at each place of a journal

-- a fact of each place below n becomes another, where each front is a journal so far
pub each-cut : (P Q : Journal → Entry → Type 0) (n : ℕ) → ((d : Journal) (y : Entry) → IsCut d → HasEntry d → length d < n → P d y → Q d y)
    → (before xs : Journal) → IsCut before → HasEntry before → EachAfter IsBehind before xs → length before + length xs ≤ n → EachAfter P before xs → EachAfter Q before xs
each-cut P Q n f before [] c h b le p = tt
each-cut P Q n f before (y ∷ ys) c h b le p = (
  f before y c h (omega arith) p.0,
  each-cut P Q n f (more before y) ys (cut-behind before y c h b.0) (has-more before y h) b.1 (omega (arith, length-append before (y ∷ []))) p.1,
)
