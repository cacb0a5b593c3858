-- The waits, of which some are noted one after the other, and the others are still.
use Rattle.std.proofs.Common.{◌≡◌, ℕ, zero, suc, ◌+◌, ◌<◌, ◌≤◌, List, [], ◌∷◌, ◌++◌, length, take, drop, set, get_or, Bool, true, false, refl, sym, ap, subst, ◌∙◌, arith, append_assoc, option_to_list}
use Rattle.std.specs.Prelude.{is_none, is_some, ◌&&◌, if◌then◌else◌}
use Rattle.std.proofs.lemmas.Option.{slice_get_read}
use Rattle.ha_journal.specs.declared.firing.Firing.{Firing}
use Rattle.ha_sight.specs.Sight.{Sight}
use Rattle.wait_set.specs.declared.asked.Asked.{Asked}
use Rattle.wait_set.specs.Asked.{ended_at, ends_in, noted, noted_at, noted_one, owners_ended}
use Rattle.wait_set.specs.Concern.{IsStill}
use Rattle.wait_set.proofs.TimedLemmas.{owners-cons}

one-more : (i : ℕ) → suc i ≡ i + 1
one-more i = search arith

module _ (q : ℕ) (s : Sight) (fired : List Firing) where
  -- ---- one is noted

  pub set-noted : (i : ℕ) (asks : List Asked) (x y : Asked) → i < length asks → x ≡ get_or asks i x → y ≡ noted_one q s fired x → set asks i y ≡ noted_at q s fired i asks
  set-noted i [] x y lt is same = absurd (omega arith)
  set-noted zero (a ∷ asks) x y lt is same = (λ k. (same ∙ ap (noted_one q s fired) is) k ∷ asks)
  set-noted (suc i) (a ∷ asks) x y lt is same = ap (λ t. a ∷ t) (set-noted i asks x y (omega arith) is same)

  pub none-noted : (i : ℕ) (asks : List Asked) → length asks ≤ i → noted_at q s fired i asks ≡ asks
  none-noted zero [] le = refl
  none-noted (suc i) [] le = refl
  none-noted zero (a ∷ asks) le = absurd (omega (arith, le))
  none-noted (suc i) (a ∷ asks) le = ap (λ t. a ∷ t) (none-noted i asks (omega (arith, le)))

  pub none-ends : (i : ℕ) (asks : List Asked) → length asks ≤ i → ended_at q s fired i asks ≡ []
  none-ends zero [] le = refl
  none-ends (suc i) [] le = refl
  none-ends zero (a ∷ asks) le = absurd (omega (arith, le))
  none-ends (suc i) (a ∷ asks) le = none-ends i asks (omega (arith, le))

  pub one-ends : (i : ℕ) (asks : List Asked) (x y : Asked) (e : Bool) → i < length asks → x ≡ get_or asks i x → y ≡ noted_one q s fired x → (is_none x.end && is_some y.end) ≡ e
      → ended_at q s fired i asks ≡ (if e then x.owner ∷ [] else [])
  one-ends i asks x y e lt is same ends =
      (λ k. owners_ended q s fired (option_to_list (slice_get_read asks (length asks) i x refl lt is k)))
      ∙ owners-cons q s fired x [] e ((λ k. is_none x.end && is_some (sym same k).end) ∙ ends)

  pub length-noted : (i : ℕ) (asks : List Asked) → length (noted_at q s fired i asks) ≡ length asks
  length-noted zero [] = refl
  length-noted (suc i) [] = refl
  length-noted zero (a ∷ asks) = refl
  length-noted (suc i) (a ∷ asks) = ap (λ n. suc n) (length-noted i asks)

  pub behind-noted : (i n : ℕ) (d : Asked) (asks : List Asked) → i < n → get_or (noted_at q s fired i asks) n d ≡ get_or asks n d
  behind-noted zero n d [] lt = refl
  behind-noted (suc i) n d [] lt = refl
  behind-noted zero zero d (a ∷ asks) lt = absurd (omega (arith, lt))
  behind-noted zero (suc n) d (a ∷ asks) lt = refl
  behind-noted (suc i) zero d (a ∷ asks) lt = absurd (omega (arith, lt))
  behind-noted (suc i) (suc n) d (a ∷ asks) lt = behind-noted i n d asks (omega (arith, lt))

  -- ---- the walk

  next : (i : ℕ) (asks : List Asked) → take (suc i) (noted_at q s fired i asks) ++ noted q s fired (drop (suc i) (noted_at q s fired i asks)) ≡ take i asks ++ noted q s fired (drop i asks)
  next zero [] = refl
  next (suc i) [] = refl
  next zero (a ∷ asks) = refl
  next (suc i) (a ∷ asks) = ap (λ t. a ∷ t) (next i asks)

  -- LEMMA: the waits before a place are noted, and those from it on are to be
  pub noted-next : (i : ℕ) (asks : List Asked) → take (i + 1) (noted_at q s fired i asks) ++ noted q s fired (drop (i + 1) (noted_at q s fired i asks)) ≡ take i asks ++ noted q s fired (drop i asks)
  noted-next i asks = subst (λ n. take n (noted_at q s fired i asks) ++ noted q s fired (drop n (noted_at q s fired i asks)) ≡ take i asks ++ noted q s fired (drop i asks)) (one-more i) (next i asks)

  split : (a : Asked) (asks : List Asked) → owners_ended q s fired (a ∷ asks) ≡ owners_ended q s fired (a ∷ []) ++ owners_ended q s fired asks
  split a asks = owners-cons q s fired a asks (ends_in q s fired a) refl ∙ by (ends_in q s fired a) ∙ (λ k. sym (owners-cons q s fired a [] (ends_in q s fired a) refl) k ++ owners_ended q s fired asks)
    where
      by : (e : Bool) → (if e then a.owner ∷ owners_ended q s fired asks else owners_ended q s fired asks) ≡ (if e then a.owner ∷ [] else []) ++ owners_ended q s fired asks
      by true = refl
      by false = refl

  end-next : (i : ℕ) (asks : List Asked) → owners_ended q s fired (drop i asks) ≡ ended_at q s fired i asks ++ owners_ended q s fired (drop (suc i) (noted_at q s fired i asks))
  end-next zero [] = refl
  end-next (suc i) [] = refl
  end-next zero (a ∷ asks) = split a asks
  end-next (suc i) (a ∷ asks) = end-next i asks

  -- LEMMA: and so for the owners of those that end
  pub ended-next : (i : ℕ) (asks : List Asked) (before after : List ℕ) → after ≡ before ++ ended_at q s fired i asks
      → after ++ owners_ended q s fired (drop (i + 1) (noted_at q s fired i asks)) ≡ before ++ owners_ended q s fired (drop i asks)
  ended-next i asks before after is =
      (λ k. is k ++ owners_ended q s fired (drop (sym (one-more i) k) (noted_at q s fired i asks)))
      ∙ append_assoc before (ended_at q s fired i asks) (owners_ended q s fired (drop (suc i) (noted_at q s fired i asks)))
      ∙ (λ k. before ++ sym (end-next i asks) k)

  -- ---- those that are still

  -- the waits from one place up to another are still
  abbrev pub Still : List Asked → ℕ → ℕ → Type 0
  Still asks low high = (n : ℕ) (d : Asked) → low ≤ n → n < high → n < length asks → IsStill q s fired (get_or asks n d)

  behind : (a : Asked) (asks : List Asked) (high : ℕ) → Still (a ∷ asks) 0 (suc high) → Still asks 0 high
  behind a asks high h n d from under within = h (suc n) d (omega arith) (omega (arith, under)) (omega (arith, within))

  below : (a : Asked) (asks : List Asked) (low high : ℕ) → Still (a ∷ asks) (suc low) (suc high) → Still asks low high
  below a asks low high h n d from under within = h (suc n) d (omega (arith, from)) (omega (arith, under)) (omega (arith, within))

  -- LEMMA: the walk skips those that are still
  pub noted-skip : (asks : List Asked) (low high : ℕ) → low ≤ high → Still asks low high → take high asks ++ noted q s fired (drop high asks) ≡ take low asks ++ noted q s fired (drop low asks)
  noted-skip [] zero zero le h = refl
  noted-skip [] zero (suc high) le h = refl
  noted-skip [] (suc low) zero le h = refl
  noted-skip [] (suc low) (suc high) le h = refl
  noted-skip (a ∷ asks) zero zero le h = refl
  noted-skip (a ∷ asks) zero (suc high) le h = ap (λ t. a ∷ t) (noted-skip asks zero high (omega arith) (behind a asks high h)) ∙ (λ k. sym ((h 0 a (omega arith) (omega arith) (omega arith)).noted) k ∷ noted q s fired asks)
  noted-skip (a ∷ asks) (suc low) zero le h = absurd (omega (arith, le))
  noted-skip (a ∷ asks) (suc low) (suc high) le h = ap (λ t. a ∷ t) (noted-skip asks low high (omega (arith, le)) (below a asks low high h))

  pub ended-skip : (asks : List Asked) (low high : ℕ) → low ≤ high → Still asks low high → owners_ended q s fired (drop high asks) ≡ owners_ended q s fired (drop low asks)
  ended-skip [] zero zero le h = refl
  ended-skip [] zero (suc high) le h = refl
  ended-skip [] (suc low) zero le h = refl
  ended-skip [] (suc low) (suc high) le h = refl
  ended-skip (a ∷ asks) zero zero le h = refl
  ended-skip (a ∷ asks) zero (suc high) le h = ended-skip asks zero high (omega arith) (behind a asks high h) ∙ sym (owners-cons q s fired a asks false ((h 0 a (omega arith) (omega arith) (omega arith)).ends))
  ended-skip (a ∷ asks) (suc low) zero le h = absurd (omega (arith, le))
  ended-skip (a ∷ asks) (suc low) (suc high) le h = ended-skip asks low high (omega (arith, le)) (below a asks low high h)

  -- LEMMA: where all that are left are still, the walk is done
  pub noted-done : (asks : List Asked) (low : ℕ) → Still asks low (length asks) → asks ≡ take low asks ++ noted q s fired (drop low asks)
  noted-done [] zero h = refl
  noted-done [] (suc low) h = refl
  noted-done (a ∷ asks) zero h = ap (λ t. a ∷ t) (noted-done asks zero (behind a asks (length asks) h)) ∙ (λ k. sym ((h 0 a (omega arith) (omega arith) (omega arith)).noted) k ∷ noted q s fired asks)
  noted-done (a ∷ asks) (suc low) h = ap (λ t. a ∷ t) (noted-done asks low (below a asks low (length asks) h))

  pub ended-done : (asks : List Asked) (low : ℕ) → Still asks low (length asks) → owners_ended q s fired (drop low asks) ≡ []
  ended-done [] zero h = refl
  ended-done [] (suc low) h = refl
  ended-done (a ∷ asks) zero h = owners-cons q s fired a asks false ((h 0 a (omega arith) (omega arith) (omega arith)).ends) ∙ ended-done asks zero (behind a asks (length asks) h)
  ended-done (a ∷ asks) (suc low) h = ended-done asks low (below a asks low (length asks) h)
