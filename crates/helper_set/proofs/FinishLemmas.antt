-- The timers that are due are those that finish, in the order of the configuration; and what is kept at the Boot.
use Rattle.std.proofs.Common.{◌≡◌, ℕ, suc, ◌+◌, List, [], ◌∷◌, ◌++◌, length, map, Bool, true, false, refl, sym, ap, subst, ◌∙◌, arith}
use Rattle.std.specs.Prelude.{Option, Some, None, MatchOption, nat_le, filter, flat_map, slice_get, option_and_then, ◌&&◌, if◌then◌else◌}
use Rattle.std.specs.Option.{option_map_or}
use Rattle.ha_value.specs.declared.value.EntityId.{EntityId}
use Rattle.ha_config.specs.declared.helper.Helper.{Helper}
use Rattle.ha_journal.specs.declared.entry.Entry.{Entry}
use Rattle.ha_config.specs.Words.{numbers_from, up_to}
use Rattle.ha_journal.specs.Entries.{is_moment}
use Rattle.ha_journal.specs.Helpers.{comes, due_in, finished, finishes}
use Rattle.ha_journal.specs.Journal.{Journal, helpers, now, more}
use Rattle.timer_queue.specs.Timers.{Timer}
use Rattle.helper_set.specs.declared.kept.Kept.{Kept}
use Rattle.helper_set.specs.Kept.{At, KeepsIt, Stands}
use Rattle.helper_set.specs.Passes.{entity_at, is_over, over_at}

-- what numbers give, one after the other, is what the members of a list give that pass
numbers-give : (test : Helper → Bool) (f : ℕ → List EntityId) (hs : List Helper) (low : ℕ)
    → ((n : ℕ) (h : Helper) → slice_get hs n ≡ Some h → f (low + n) ≡ (if test h then h.entity ∷ [] else []))
    → flat_map f (numbers_from low (length hs)) ≡ map (λ h. h.entity) (filter test hs)
numbers-give test f [] low gives = refl
numbers-give test f (h ∷ hs) low gives =
    (let z : low ≡ low + 0 = omega arith in λ i. f (z i) ++ flat_map f (numbers_from (low + 1) (length hs)))
    ∙ (λ i. gives 0 h refl i ++ flat_map f (numbers_from (low + 1) (length hs)))
    ∙ (λ i. (if test h then h.entity ∷ [] else []) ++ numbers-give test f hs (low + 1) rest i)
    ∙ by (test h)
  where
    rest : (n : ℕ) (g : Helper) → slice_get hs n ≡ Some g → f (low + 1 + n) ≡ (if test g then g.entity ∷ [] else [])
    rest n g get = (let z : low + 1 + n ≡ low + suc n = omega arith in ap f z) ∙ gives (suc n) g get

    by : (b : Bool) → (if b then h.entity ∷ [] else []) ++ map (λ h. h.entity) (filter test hs) ≡ map (λ h. h.entity) (if b then h ∷ filter test hs else filter test hs)
    by true = refl
    by false = refl

-- as many are kept as are configured
same-length : (P : Helper → Kept → Type 0) (hs : List Helper) (kept : List Kept) → ((n : ℕ) → At hs kept n P) → length kept ≡ length hs
same-length P [] [] h = refl
same-length P [] (k ∷ ks) h = absurd (let bad : ◌≡◌ {A = Option Kept} (Some k) None = h 0 in cc)
same-length P (a ∷ hs) [] h = absurd (h 0)
same-length P (a ∷ hs) (k ∷ ks) h = ap suc (same-length P hs ks (λ n. h (suc n)))

module _ (j : Journal) (x : Entry) (kept : List Kept) (timers : List Timer) (stands : Stands kept timers j) (at : ℕ) (moment : is_moment x ≡ true) (is : at ≡ now (more j x)) where
  over-is : (n : ℕ) (h : Helper) → slice_get (helpers j) n ≡ Some h → is_over at timers n ≡ finishes j x h
  over-is n h a =
      (λ i. option_map_or (λ due. nat_le due (is i)) ((stands.timed n ∙ ap (option_and_then (λ h. due_in j h.entity)) a) i) false) ∙ by (due_in j h.entity)
    where
      by : (o : Option ℕ) → option_map_or (λ due. nat_le due (now (more j x))) o false ≡ option_map_or (λ due. comes due (now (more j x), x)) o false
      by None = refl
      by (Some d) = (λ i. sym moment i && nat_le d (now (more j x)))

  entity-is : (n : ℕ) (h : Helper) → slice_get (helpers j) n ≡ Some h → entity_at kept n ≡ h.entity ∷ []
  entity-is n h a = by (slice_get kept n) (subst (λ o. MatchOption o (slice_get kept n ≡ None) (λ h. MatchOption (slice_get kept n) ⊥ (KeepsIt j h))) a (stands.each n))
    where
      by : (o : Option Kept) → MatchOption o ⊥ (KeepsIt j h) → option_map_or (λ k. k.helper.entity ∷ []) o [] ≡ h.entity ∷ []
      by None t = absurd t
      by (Some k) t = (λ i. (t.helper i).entity ∷ [])

  -- LAW: the helpers whose timers are due, in order of their places, are those that finish, as configured
  pub over-finished : flat_map (over_at at timers kept) (up_to (length kept)) ≡ finished j x
  over-finished =
      (λ i. flat_map (over_at at timers kept) (up_to (same-length (KeepsIt j) (helpers j) kept stands.each i)))
      ∙ numbers-give (finishes j x) (over_at at timers kept) (helpers j) 0 gives
    where
      gives : (n : ℕ) (h : Helper) → slice_get (helpers j) n ≡ Some h → over_at at timers kept (0 + n) ≡ (if finishes j x h then h.entity ∷ [] else [])
      gives n h a =
          (let z : 0 + n ≡ n = omega arith in λ i. over_at at timers kept (z i))
          ∙ (λ i. if over-is n h a i then entity-is n h a i else [])
