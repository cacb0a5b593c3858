-- A lawful journal stays lawful with a step of worker 0, be it a closing one.
use Rattle.std.proofs.Common.{◌≡◌, ℕ, ◌+◌, ◌≤◌, inl, inr, [], ◌∷◌, ◌++◌, length, true, refl, sym, subst, ◌∙◌, arith, append_assoc, length-append}
use Rattle.std.specs.Prelude.{◌&&◌, if◌then◌else◌}
use Rattle.ha_sight.specs.declared.item.Item.{Item}
use Rattle.ha_journal.specs.declared.entry.Entry.{Entry}
use Rattle.ha_journal.specs.declared.entry.Entry.TheVariants.{Boot, Line, Step, Again}
use Rattle.ha_config.specs.Words.{EachAfter, EachWith}
use Rattle.ha_journal.specs.Journal.{Journal, HasEntry, more}
use Rattle.ha_sight.specs.Scripts.{Branch}
use Rattle.ha_model.specs.Records.{Records}
use Rattle.ha_model.specs.Lawful.{is_by_worker_0}
use Rattle.ha_whole.specs.Whole.{IsBehind, IsDue, IsFirst, IsTurn, Lawful, Right, again_of, put, records_of}
use Rattle.ha_config.proofs.ListLemmas.{append-nil}
use Rattle.ha_model.proofs.AppendLemmas.{SameUpTo}
use Rattle.ha_journal.proofs.StateLemmas.{all-snoc}
use Rattle.whole_laws.specs.Puts.{IsPut}
use Rattle.whole_laws.proofs.CutLemmas.{IsCut, cut-behind, cut-first, is-cut}
use Rattle.ha_laws.proofs.PrefixLaws.{has-more, same-less}
use Rattle.whole_laws.proofs.PrefixLemmas.{rested-told, turn-told}
use Rattle.whole_laws.proofs.LiftLemmas.{each-put, ends-more, same-put, turn-first}

due-more : (d : Journal) (rs rs' : Records) → IsCut d → SameUpTo (length d) rs rs' → (x y : Entry) (behind : Journal) → is_by_worker_0 x ≡ true → IsDue rs d (y ∷ behind) → IsDue rs' d (y ∷ (behind ++ (x ∷ [])))
due-more d rs rs' c s x (Boot text config stored start zone carry) behind e h = tt
due-more d rs rs' c s x (Line k number cmd) behind e h = tt
due-more d rs rs' c s x (Step k serial branch item) behind e (inl busy) = inl (sym (rested-told d rs rs' c s k) ∙ busy)
due-more d rs rs' c s x (Step k serial branch item) behind e (inr (zero_k, closing)) =
    inr (zero_k, all-snoc is_by_worker_0 behind x true e ∙ (λ i. closing i && true))
due-more d rs rs' c s x (Again number start stored carry) behind e h = tt

module _ (n : ℕ) (rs rs' : Records) (same : SameUpTo n rs rs') (x : Entry) (by_0 : is_by_worker_0 x ≡ true) where
  closed-more : (before xs : Journal) → IsCut before → HasEntry before → EachAfter IsBehind before xs → length before + length xs ≤ n
      → EachWith (IsDue rs) before xs → IsDue rs' (before ++ xs) (x ∷ []) → EachWith (IsDue rs') before (xs ++ (x ∷ []))
  closed-more before [] c h b le p last = (subst (λ l. IsDue rs' l (x ∷ [])) (append-nil before) last, tt)
  closed-more before (y ∷ ys) c h b le p last = (
    due-more before rs rs' c (same-less n (length before) (omega arith) rs rs' same) x y ys by_0 p.0,
    closed-more (more before y) ys (cut-behind before y c h b.0) (has-more before y h) b.1 (omega (arith, length-append before (y ∷ []))) p.1
        (subst (λ l. IsDue rs' l (x ∷ [])) (sym (append_assoc before (y ∷ []) ys)) last),
  )

due-first : (rs : Records) (e : Entry) (es : Journal) → IsFirst e → IsDue rs [] (e ∷ es)
due-first rs (Boot text config stored start zone carry) es h = tt
due-first rs (Line source number cmd) es h = absurd h
due-first rs (Step worker serial branch item) es h = absurd h
due-first rs (Again number start stored carry) es h = absurd h

pub put-step : (j : Journal) (k serial : ℕ) (branch : Branch) (item : Item) → put j (Step k serial branch item) ≡ more j (Step k serial branch item)
put-step j k serial branch item =
    let x : Entry = Step k serial branch item in
    (λ i. if ends-more j x i then more (more j x) (again_of (more j x)) else more j x)

closes : (e : Entry) (es : Journal) (rs rs' : Records) (x : Entry) → Lawful (e ∷ es) rs → SameUpTo (length (e ∷ es)) rs rs' → is_by_worker_0 x ≡ true → IsDue rs' (e ∷ es) (x ∷ []) → EachWith (IsDue rs') [] ((e ∷ es) ++ (x ∷ []))
closes e es rs rs' x h same by_0 last =
    let b = h.right.journal.entries in (
      due-first rs' e (es ++ (x ∷ [])) b.0,
      closed-more (length (e ∷ es)) rs rs' same x by_0 (e ∷ []) es (cut-first e b.0) tt b.1 (omega arith) h.closed.1 last,
    )

-- LAW: a lawful journal, and right with one more step of worker 0 whose turn it is, is lawful with the new records
pub right-closes : (j : Journal) (rs rs' : Records) (serial : ℕ) (branch : Branch) (item : Item) → Lawful j rs → Right (more j (Step 0 serial branch item)) rs' → IsTurn rs j (Step 0 serial branch item)
    → Lawful (more j (Step 0 serial branch item)) rs'
right-closes [] rs rs' serial branch item h new turn = absurd h.right.journal.entries
right-closes (e ∷ es) rs rs' serial branch item h new turn =
    let j : Journal = e ∷ es in
    let x : Entry = Step 0 serial branch item in
    let b = h.right.journal.entries in
    let p : IsPut x = record { none = refl; not_boot = λ q. q } in
    let whole : put j x ≡ more j x = put-step j 0 serial branch item in
    let new_is : records_of (put j x) ≡ rs' = (λ i. records_of (whole i)) ∙ sym new.records_are in
    let same : SameUpTo (length j) rs rs' = subst (SameUpTo (length j) rs) new_is (subst (λ l. SameUpTo (length j) l (records_of (put j x))) (sym h.right.records_are) (same-put j x (is-cut j b) tt p)) in
    let turns : EachAfter (IsTurn (records_of (put j x))) [] (put j x) = each-put (λ rs. IsTurn rs) turn-told turn-first (λ rs d k. tt) j rs x b tt p h.right.records_are h.turns turn in
    record {
      right = new;
      turns = subst (λ l. EachAfter (IsTurn rs') [] l) whole (subst (λ l. EachAfter (IsTurn l) [] (put j x)) new_is turns);
      closed = closes e es rs rs' x h same refl (inr (refl, refl));
    }
