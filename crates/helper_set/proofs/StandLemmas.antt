-- What is kept stands for a journal with one more entry.
use Rattle.std.proofs.Common.{◌≡◌, ℕ, zero, suc, ◌+◌, ◌≤◌, List, [], ◌∷◌, length, Bool, true, false, cond, refl, sym, ap, subst, ◌∙◌, arith}
use Rattle.std.specs.Prelude.{Option, Some, None, MatchOption, not, nat_eq, nat_lt, nat_le, find, slice_get, option_map, option_and_then, codes, ◌&&◌, if◌then◌else◌}
use Rattle.std.specs.List.{position_or_len}
use Rattle.std.specs.Option.{option_map_or}
use Rattle.std.proofs.lemmas.Bool.Decides.{nat_tests}
use Rattle.ha_value.specs.declared.value.EntityId.{EntityId}
use Rattle.ha_config.specs.declared.helper.Helper.{Helper}
use Rattle.ha_sight.specs.declared.helped.HelperChange.{HelperChange}
use Rattle.ha_journal.specs.declared.entry.Entry.{Entry}
use Rattle.ha_config.specs.Words.{same_entity}
use Rattle.ha_journal.specs.Entries.{change_of, changes_in, is_moment}
use Rattle.ha_sight.specs.Known.{due_of}
use Rattle.ha_journal.specs.Helpers.{comes, due_in, finishes, last_change, text_of}
use Rattle.ha_journal.specs.Journal.{Journal, HasEntry, helpers, now, more}
use Rattle.ha_journal.specs.HelperSteps.{changed_with, due_with, text_with}
use Rattle.ha_config.proofs.EqualLemmas.{entity-sound}
use Rattle.ha_journal.proofs.HelperLaws.{due-more, last-change-more, text-more}
use Rattle.ha_journal.proofs.MoreLemmas.{helpers-more}
use Rattle.ha_journal.proofs.StateLemmas.{now-snoc}
use Rattle.timer_queue.specs.Timers.{Timer, due_of as timer_of}
use Rattle.helper_set.specs.declared.kept.Kept.{Kept}
use Rattle.helper_set.specs.declared.kept.Last.{Last}
use Rattle.helper_set.specs.Kept.{AreApart, At, IsTimely, KeepsIt, Stands, place_in}
use Rattle.helper_set.specs.Changes.{Changes, change_among, is_at_place, kept_with, timer_with}
use Rattle.helper_set.specs.Passes.{Passes, idled, is_over}

-- ---- places

abbrev id_of : Option Kept → Option EntityId
id_of o = option_map (λ k. k.helper.entity) o

-- two lists that have the same ids at each place
abbrev pub SameIds : List Kept → List Kept → Type 0
SameIds xs ys = (n : ℕ) → id_of (slice_get ys n) ≡ id_of (slice_get xs n)

same-length : (xs ys : List Kept) → SameIds xs ys → length ys ≡ length xs
same-length [] [] h = refl
same-length [] (y ∷ ys) h = absurd (let bad : ◌≡◌ {A = Option EntityId} (Some y.helper.entity) None = h 0 in cc)
same-length (x ∷ xs) [] h = absurd (let bad : ◌≡◌ {A = Option EntityId} None (Some x.helper.entity) = h 0 in cc)
same-length (x ∷ xs) (y ∷ ys) h = ap suc (same-length xs ys (λ n. h (suc n)))

abbrev named_so : EntityId → Kept → Bool
named_so e k = same_entity k.helper.entity e

same-at : (e : EntityId) (xs ys : List Kept) → SameIds xs ys → position_or_len (named_so e) ys ≡ position_or_len (named_so e) xs
same-at e [] [] h = refl
same-at e [] (y ∷ ys) h = absurd (let bad : ◌≡◌ {A = Option EntityId} (Some y.helper.entity) None = h 0 in cc)
same-at e (x ∷ xs) [] h = absurd (let bad : ◌≡◌ {A = Option EntityId} None (Some x.helper.entity) = h 0 in cc)
same-at e (x ∷ xs) (y ∷ ys) h =
    let id : y.helper.entity ≡ x.helper.entity = (let q : ◌≡◌ {A = Option EntityId} (Some y.helper.entity) (Some x.helper.entity) = h 0 in cc) in
    (λ i. cond (not (same_entity (id i) e)) (1 + same-at e xs ys (λ n. h (suc n)) i) 0)

-- LAW: an id has the same place in both
pub same-place : (e : EntityId) (xs ys : List Kept) → SameIds xs ys → place_in ys e ≡ place_in xs e
same-place e xs ys h = (let at = same-at e xs ys h in let len = same-length xs ys h in λ i. cond (nat_lt (at i) (len i)) (Some (at i)) None)

pub apart-same : (xs ys : List Kept) → SameIds xs ys → AreApart xs → AreApart ys
apart-same xs ys same apart n = by (slice_get xs n) (slice_get ys n) (same n) (apart n)
  where
    by : (o p : Option Kept) → id_of p ≡ id_of o → MatchOption o (Unit {0}) (λ k. place_in xs k.helper.entity ≡ Some n) → MatchOption p (Unit {0}) (λ k. place_in ys k.helper.entity ≡ Some n)
    by o None e a = tt
    by None (Some k) e a = absurd (let bad : ◌≡◌ {A = Option EntityId} (Some k.helper.entity) None = e in cc)
    by (Some x) (Some k) e a =
        (let id : k.helper.entity ≡ x.helper.entity = (let q : ◌≡◌ {A = Option EntityId} (Some k.helper.entity) (Some x.helper.entity) = e in cc) in
        same-place k.helper.entity xs ys same ∙ ap (place_in xs) id ∙ a)

-- what stands at the place of an id has it
found-at : (e : EntityId) (xs : List Kept) (k : Kept) (n : ℕ) → position_or_len (named_so e) xs ≡ n → slice_get xs n ≡ Some k → same_entity k.helper.entity e ≡ true
found-at e [] k n at get = absurd (let bad : ◌≡◌ {A = Option Kept} None (Some k) = get in cc)
found-at e (x ∷ xs) k n at get = by (named_so e x) refl n at get (found-at e xs k)
  where
    by : (b : Bool) → named_so e x ≡ b → (n : ℕ) → cond (not b) (1 + position_or_len (named_so e) xs) 0 ≡ n → slice_get (x ∷ xs) n ≡ Some k
        → ((m : ℕ) → position_or_len (named_so e) xs ≡ m → slice_get xs m ≡ Some k → same_entity k.helper.entity e ≡ true) → same_entity k.helper.entity e ≡ true
    by true h zero at get rest = (let q : x ≡ k = cc in subst (λ (y : Kept). same_entity y.helper.entity e ≡ true) q h)
    by true h (suc n) at get rest = absurd (omega (arith, at))
    by false h zero at get rest = absurd (omega (arith, at))
    by false h (suc n) at get rest = rest n (omega (arith, at)) get

nat-same : (n : ℕ) → nat_eq n n ≡ true
nat-same n = grind (arith, nat_tests)

nat-is : (a b : ℕ) → nat_eq a b ≡ true → a ≡ b
nat-is a b h = grind (arith, nat_tests, h)

entity-back : (a b : EntityId) → same_entity a b ≡ true → same_entity b a ≡ true
entity-back a b h = (let e = entity-sound a b h in subst (λ x. same_entity x a ≡ true) e (subst (λ x. same_entity a x ≡ true) (sym e) h))

-- LAW: the place of an id is this one exactly where the helper there has it
pub at-place : (xs : List Kept) → AreApart xs → (e : EntityId) (n : ℕ) (k : Kept) → slice_get xs n ≡ Some k → is_at_place (place_in xs e) n ≡ same_entity e k.helper.entity
at-place xs apart e n k get = by (same_entity e k.helper.entity) refl
  where
    own : place_in xs k.helper.entity ≡ Some n
    own = subst (λ o. MatchOption o (Unit {0}) (λ k. place_in xs k.helper.entity ≡ Some n)) get (apart n)

    other : (o : Option ℕ) → place_in xs e ≡ o → same_entity e k.helper.entity ≡ false → is_at_place o n ≡ false
    other None p no_id = refl
    other (Some m) p no_id = hit (nat_eq m n) refl
      where
        within : (b : Bool) (a : ℕ) → cond b (Some a) None ≡ Some m → a ≡ m
        within true a q = cc
        within false a q = absurd (let bad : ◌≡◌ {A = Option ℕ} None (Some m) = q in cc)

        hit : (b : Bool) → nat_eq m n ≡ b → b ≡ false
        hit false h = refl
        hit true h =
            let at : position_or_len (named_so e) xs ≡ n = within (nat_lt (position_or_len (named_so e) xs) (length xs)) (position_or_len (named_so e) xs) p ∙ nat-is m n h in
            let found = entity-back k.helper.entity e (found-at e xs k n at get) in
            absurd (let bad : ◌≡◌ {A = Bool} true false = sym found ∙ no_id in cc)

    by : (b : Bool) → same_entity e k.helper.entity ≡ b → is_at_place (place_in xs e) n ≡ b
    by true h = (λ i. is_at_place (place_in xs (entity-sound e k.helper.entity h i)) n) ∙ (λ i. is_at_place (own i) n) ∙ nat-same n
    by false h = other (place_in xs e) refl h

-- ---- changes, the last one first

with-id : (at : ℕ) (o : Option HelperChange) (k : Kept) → (kept_with at o k).helper.entity ≡ k.helper.entity
with-id at None k = refl
with-id at (Some c) k = refl

pub changes-same : (at : ℕ) (cs : List HelperChange) (before after : List Timer) (old new : List Kept) → Changes at cs before after old new → SameIds old new
changes-same at cs before after old new h n = ap id_of (h.kept n) ∙ by (slice_get old n)
  where
    by : (o : Option Kept) → id_of (option_map (λ k. kept_with at (change_among cs k) k) o) ≡ id_of o
    by None = refl
    by (Some k) = ap Some (with-id at (change_among cs k) k)

pub changes-none : (at : ℕ) (timers : List Timer) (kept : List Kept) → Changes at [] timers timers kept kept
changes-none at timers kept = record { kept = λ n. by (slice_get kept n); timers = λ n. by_timer n (slice_get kept n) }
  where
    by : (o : Option Kept) → o ≡ option_map (λ k. kept_with at None k) o
    by None = refl
    by (Some k) = refl

    by_timer : (n : ℕ) (o : Option Kept) → timer_of n timers ≡ timer_with at (option_and_then (change_among []) o) (timer_of n timers)
    by_timer n None = refl
    by_timer n (Some k) = refl

-- LAW: one change more, in front of those that were made
pub changes-more : (at : ℕ) (c : HelperChange) (cs : List HelperChange) (before mid after : List Timer) (old now_kept new : List Kept) → AreApart old
    → Changes at cs before mid old now_kept
    → ((n : ℕ) → slice_get new n ≡ (if is_at_place (place_in now_kept c.entity) n then option_map (kept_with at (Some c)) (slice_get now_kept n) else slice_get now_kept n))
    → ((n : ℕ) → timer_of n after ≡ (if is_at_place (place_in now_kept c.entity) n then timer_with at (Some c) None else timer_of n mid))
    → Changes at (c ∷ cs) before after old new
changes-more at c cs before mid after old now_kept new apart h kept timers = record { kept = each; timers = dues }
  where
    same_ids : SameIds old now_kept
    same_ids = changes-same at cs before mid old now_kept h

    place : place_in now_kept c.entity ≡ place_in old c.entity
    place = same-place c.entity old now_kept same_ids

    twice : (o : Option HelperChange) (k : Kept) → kept_with at (Some c) (kept_with at o k) ≡ kept_with at (Some c) k
    twice None k = refl
    twice (Some d) k = refl

    here : (k : Kept) (b : Bool) → (if b then option_map (kept_with at (Some c)) (Some (kept_with at (change_among cs k) k)) else Some (kept_with at (change_among cs k) k))
        ≡ Some (kept_with at (if b then Some c else change_among cs k) k)
    here k true = ap Some (twice (change_among cs k) k)
    here k false = refl

    nowhere : (b : Bool) → (if b then option_map (kept_with at (Some c)) None else None) ≡ None
    nowhere true = refl
    nowhere false = refl

    each : (n : ℕ) → slice_get new n ≡ option_map (λ k. kept_with at (change_among (c ∷ cs) k) k) (slice_get old n)
    each n =
        kept n
        ∙ (λ i. if is_at_place (place i) n then option_map (kept_with at (Some c)) (h.kept n i) else h.kept n i)
        ∙ by (slice_get old n) refl
      where
        by : (o : Option Kept) → slice_get old n ≡ o
            → (if is_at_place (place_in old c.entity) n then option_map (kept_with at (Some c)) (option_map (λ k. kept_with at (change_among cs k) k) o) else option_map (λ k. kept_with at (change_among cs k) k) o)
            ≡ option_map (λ k. kept_with at (change_among (c ∷ cs) k) k) o
        by None get = nowhere (is_at_place (place_in old c.entity) n)
        by (Some k) get =
            (λ i. if at-place old apart c.entity n k get i then option_map (kept_with at (Some c)) (Some (kept_with at (change_among cs k) k)) else Some (kept_with at (change_among cs k) k))
            ∙ here k (same_entity c.entity k.helper.entity)

    due_here : (n : ℕ) (k : Kept) (b : Bool) → (if b then timer_with at (Some c) None else timer_with at (change_among cs k) (timer_of n before))
        ≡ timer_with at (if b then Some c else change_among cs k) (timer_of n before)
    due_here n k true = refl
    due_here n k false = refl

    -- nobody stands at the place of an id that is not there
    beyond : (n : ℕ) → slice_get old n ≡ None → is_at_place (place_in old c.entity) n ≡ false
    beyond n none = past (position_or_len (named_so c.entity) old) (nat_lt (position_or_len (named_so c.entity) old) (length old)) refl
      where
        long : (xs : List Kept) (m : ℕ) → slice_get xs m ≡ None → length xs ≤ m
        long [] m q = omega arith
        long (x ∷ xs) zero q = absurd (let bad : ◌≡◌ {A = Option Kept} (Some x) None = q in cc)
        long (x ∷ xs) (suc m) q = omega (arith, long xs m q)

        differ : (a m : ℕ) → nat_lt a m ≡ true → m ≤ n → nat_eq a n ≡ false
        differ a m lt le = grind (arith, nat_tests, lt, le)

        past : (a : ℕ) (b : Bool) → nat_lt a (length old) ≡ b → is_at_place (cond b (Some a) None) n ≡ false
        past a true lt = differ a (length old) lt (long old n none)
        past a false lt = refl

    dues : (n : ℕ) → timer_of n after ≡ timer_with at (option_and_then (change_among (c ∷ cs)) (slice_get old n)) (timer_of n before)
    dues n =
        timers n
        ∙ (λ i. if is_at_place (place i) n then timer_with at (Some c) None else h.timers n i)
        ∙ by (slice_get old n) refl
      where
        by : (o : Option Kept) → slice_get old n ≡ o
            → (if is_at_place (place_in old c.entity) n then timer_with at (Some c) None else timer_with at (option_and_then (change_among cs) o) (timer_of n before))
            ≡ timer_with at (option_and_then (change_among (c ∷ cs)) o) (timer_of n before)
        by None get = (λ i. if beyond n get i then timer_with at (Some c) None else timer_of n before)
        by (Some k) get =
            (λ i. if at-place old apart c.entity n k get i then timer_with at (Some c) None else timer_with at (change_among cs k) (timer_of n before))
            ∙ due_here n k (same_entity c.entity k.helper.entity)

-- ---- a helper with one more entry

finishes-not : (j : Journal) (x : Entry) (h : Helper) → is_moment x ≡ false → finishes j x h ≡ false
finishes-not j x h other = by (due_in j h.entity)
  where
    by : (o : Option ℕ) → option_map_or (λ due. comes due (now (more j x), x)) o false ≡ false
    by None = refl
    by (Some due) = (λ i. other i && nat_le due (now (more j x)))

timely-on : (a b : ℕ) (k : Kept) → a ≤ b → IsTimely a k → IsTimely b k
timely-on a b k le h = by k.last h
  where
    by : (o : Option Last) → MatchOption o (Unit {0}) (λ l. l.at ≤ a) → MatchOption o (Unit {0}) (λ l. l.at ≤ b)
    by None t = tt
    by (Some l) t = omega (arith, t, le)

later : (j : Journal) (x : Entry) → now j ≤ now (more j x)
later j x = omega (arith, now-snoc j x)

module _ (j : Journal) (x : Entry) (some : HasEntry j) (kept new : List Kept) (timers after : List Timer) (stands : Stands kept timers j) where
  abbrev at_end : ℕ
  at_end = now (more j x)

  -- what holds of each helper before, and what is kept of it then, gives what holds of it after
  carried : ((h : Helper) (k : Kept) (n : ℕ) → slice_get (helpers j) n ≡ Some h → slice_get kept n ≡ Some k → KeepsIt j h k → MatchOption (slice_get new n) ⊥ (KeepsIt (more j x) h))
      → ((n : ℕ) → slice_get kept n ≡ None → slice_get new n ≡ None) → (n : ℕ) → At (helpers (more j x)) new n (KeepsIt (more j x))
  carried step gone n = subst (λ hs. At hs new n (KeepsIt (more j x))) (helpers-more j x some) (by (slice_get (helpers j) n) refl (stands.each n))
    where
      two : (h : Helper) (o : Option Kept) → slice_get (helpers j) n ≡ Some h → slice_get kept n ≡ o → MatchOption o ⊥ (KeepsIt j h) → MatchOption (slice_get new n) ⊥ (KeepsIt (more j x) h)
      two h None a b t = absurd t
      two h (Some k) a b t = step h k n a b t

      by : (o : Option Helper) → slice_get (helpers j) n ≡ o → MatchOption o (slice_get kept n ≡ None) (λ h. MatchOption (slice_get kept n) ⊥ (KeepsIt j h))
          → MatchOption o (slice_get new n ≡ None) (λ h. MatchOption (slice_get new n) ⊥ (KeepsIt (more j x) h))
      by None a t = gone n t
      by (Some h) a t = two h (slice_get kept n) a refl t

  module _ (cs : List HelperChange) (at : ℕ) (changes : changes_in x ≡ cs) (still : is_moment x ≡ false) (is : at ≡ at_end) (made : Changes at cs timers after kept new) where
    change-is : (h : Helper) (k : Kept) → KeepsIt j h k → change_among cs k ≡ change_of h.entity x
    change-is h k t = (λ i. find (λ c. same_entity c.entity (t.helper i).entity) (sym changes i))

    changed-kept : (h : Helper) (k : Kept) (o : Option HelperChange) → o ≡ change_of h.entity x → KeepsIt j h k → KeepsIt (more j x) h (kept_with at o k)
    changed-kept h k None e t = record {
      helper = t.helper;
      text = t.text ∙ sym (text-more j x h ∙ (λ i. text_with (sym e i) (if finishes-not j x h still i then codes "idle" else text_of j h)));
      last = t.last ∙ sym (last-change-more j x h.entity ∙ (λ i. changed_with (sym e i) at_end (last_change j h.entity)));
      timely = timely-on (now j) at_end k (later j x) t.timely;
    }
    changed-kept h k (Some c) e t = record {
      helper = t.helper;
      text = sym (text-more j x h ∙ (λ i. text_with (sym e i) (if finishes j x h then codes "idle" else text_of j h)));
      last = (λ i. Some (record { change = c; at = is i })) ∙ sym (last-change-more j x h.entity ∙ (λ i. changed_with (sym e i) at_end (last_change j h.entity)));
      timely = omega (arith, is);
    }

    due-kept : (h : Helper) (due : Option ℕ) (o : Option HelperChange) → o ≡ change_of h.entity x → due ≡ due_in j h.entity → timer_with at o due ≡ due_in (more j x) h.entity
    due-kept h due None e d = d ∙ sym (due-more j x h.entity ∙ (λ i. due_with j x h.entity (sym e i)) ∙ by (due_in j h.entity))
      where
        by : (o : Option ℕ) → option_and_then (λ due. if comes due (at_end, x) then None else Some due) o ≡ o
        by None = refl
        by (Some d) = (λ i. if still i && nat_le d at_end then None else Some d)
    due-kept h due (Some c) e d = (λ i. due_of (record { change = c; at = is i })) ∙ sym (due-more j x h.entity ∙ (λ i. due_with j x h.entity (sym e i)))

    -- LAW: with the changes of the entry made, it stands for the journal with the entry
    pub changes-stand : Stands new after (more j x)
    changes-stand = record {
      apart = apart-same kept new (changes-same at cs timers after kept new made) stands.apart;
      each = carried
          (λ h k n a b t. subst (λ o. MatchOption o ⊥ (KeepsIt (more j x) h)) (sym (made.kept n ∙ ap (option_map (λ k. kept_with at (change_among cs k) k)) b)) (changed-kept h k (change_among cs k) (change-is h k t) t))
          (λ n none. made.kept n ∙ ap (option_map (λ k. kept_with at (change_among cs k) k)) none);
      timed = λ n. made.timers n ∙ dues n (slice_get (helpers j) n) refl (stands.each n) ∙ (λ i. option_and_then (λ h. due_in (more j x) h.entity) (slice_get (helpers-more j x some i) n));
    }
      where
        dues : (n : ℕ) (o : Option Helper) → slice_get (helpers j) n ≡ o → MatchOption o (slice_get kept n ≡ None) (λ h. MatchOption (slice_get kept n) ⊥ (KeepsIt j h))
            → timer_with at (option_and_then (change_among cs) (slice_get kept n)) (timer_of n timers) ≡ option_and_then (λ h. due_in (more j x) h.entity) (slice_get (helpers j) n)
        dues n None a t =
            (λ i. timer_with at (option_and_then (change_among cs) (t i)) (timer_of n timers)) ∙ stands.timed n ∙ ap (option_and_then (λ h. due_in j h.entity)) a ∙ sym (ap (option_and_then (λ h. due_in (more j x) h.entity)) a)
        dues n (Some h) a t = two (slice_get kept n) refl t
          where
            two : (o : Option Kept) → slice_get kept n ≡ o → MatchOption o ⊥ (KeepsIt j h)
                → timer_with at (option_and_then (change_among cs) (slice_get kept n)) (timer_of n timers) ≡ option_and_then (λ h. due_in (more j x) h.entity) (slice_get (helpers j) n)
            two None b u = absurd u
            two (Some k) b u =
                (λ i. timer_with at (option_and_then (change_among cs) (b i)) (timer_of n timers))
                ∙ due-kept h (timer_of n timers) (change_among cs k) (change-is h k u) (stands.timed n ∙ ap (option_and_then (λ h. due_in j h.entity)) a)
                ∙ sym (ap (option_and_then (λ h. due_in (more j x) h.entity)) a)

  module _ (at : ℕ) (changes : changes_in x ≡ []) (moment : is_moment x ≡ true) (is : at ≡ at_end) (passed : Passes at timers after kept new) where
    none-changes : (e : EntityId) → change_of e x ≡ None
    none-changes e = ap (find (λ c. same_entity c.entity e)) changes

    -- the timer at a place is over where its helper finishes
    over-is : (n : ℕ) (h : Helper) → slice_get (helpers j) n ≡ Some h → is_over at timers n ≡ finishes j x h
    over-is n h a =
        (λ i. option_map_or (λ due. nat_le due (is i)) ((stands.timed n ∙ ap (option_and_then (λ h. due_in j h.entity)) a) i) false) ∙ by (due_in j h.entity)
      where
        by : (o : Option ℕ) → option_map_or (λ due. nat_le due at_end) o false ≡ option_map_or (λ due. comes due (at_end, x)) o false
        by None = refl
        by (Some d) = (λ i. sym moment i && nat_le d at_end)

    passed-kept : (h : Helper) (k : Kept) (b : Bool) → b ≡ finishes j x h → KeepsIt j h k → KeepsIt (more j x) h (if b then idled k else k)
    passed-kept h k true e t = record {
      helper = t.helper;
      text = sym (text-more j x h ∙ (λ i. text_with (none-changes h.entity i) (if sym e i then codes "idle" else text_of j h)));
      last = t.last ∙ sym (last-change-more j x h.entity ∙ (λ i. changed_with (none-changes h.entity i) at_end (last_change j h.entity)));
      timely = timely-on (now j) at_end k (later j x) t.timely;
    }
    passed-kept h k false e t = record {
      helper = t.helper;
      text = t.text ∙ sym (text-more j x h ∙ (λ i. text_with (none-changes h.entity i) (if sym e i then codes "idle" else text_of j h)));
      last = t.last ∙ sym (last-change-more j x h.entity ∙ (λ i. changed_with (none-changes h.entity i) at_end (last_change j h.entity)));
      timely = timely-on (now j) at_end k (later j x) t.timely;
    }

    chosen : (b : Bool) (k : Kept) → (if b then option_map idled (Some k) else Some k) ≡ Some (if b then idled k else k)
    chosen true k = refl
    chosen false k = refl

    never : (b : Bool) → (if b then option_map idled None else None) ≡ None
    never true = refl
    never false = refl

    due-left : (o : Option ℕ) → (if option_map_or (λ due. nat_le due at) o false then None else o) ≡ option_and_then (λ due. if comes due (at_end, x) then None else Some due) o
    due-left None = refl
    due-left (Some d) = (λ i. if sym moment i && nat_le d (is i) then None else Some d)

    -- LAW: with the timers that are due finished, it stands for the journal with the moment
    pub passes-stand : Stands new after (more j x)
    passes-stand = record {
      apart = apart-same kept new same_ids stands.apart;
      each = carried
          (λ h k n a b t. subst (λ o. MatchOption o ⊥ (KeepsIt (more j x) h))
          (sym (passed.kept n ∙ (λ i. if is_over at timers n then option_map idled (b i) else b i) ∙ chosen (is_over at timers n) k))
          (passed-kept h k (is_over at timers n) (over-is n h a) t))
          (λ n none. passed.kept n ∙ (λ i. if is_over at timers n then option_map idled (none i) else none i) ∙ never (is_over at timers n));
      timed = λ n. passed.timers n ∙ dues n (slice_get (helpers j) n) refl ∙ (λ i. option_and_then (λ h. due_in (more j x) h.entity) (slice_get (helpers-more j x some i) n));
    }
      where
        same_ids : SameIds kept new
        same_ids n = ap id_of (passed.kept n) ∙ by (is_over at timers n) (slice_get kept n)
          where
            by : (b : Bool) (o : Option Kept) → id_of (if b then option_map idled o else o) ≡ id_of o
            by true None = refl
            by true (Some k) = refl
            by false o = refl

        dues : (n : ℕ) (o : Option Helper) → slice_get (helpers j) n ≡ o → (if is_over at timers n then None else timer_of n timers) ≡ option_and_then (λ h. due_in (more j x) h.entity) (slice_get (helpers j) n)
        dues n o a =
            due-left (timer_of n timers)
            ∙ ap (option_and_then (λ due. if comes due (at_end, x) then None else Some due)) (stands.timed n)
            ∙ (λ i. option_and_then (λ due. if comes due (at_end, x) then None else Some due) (option_and_then (λ h. due_in j h.entity) (a i)))
            ∙ by o
            ∙ sym (ap (option_and_then (λ h. due_in (more j x) h.entity)) a)
          where
            by : (o : Option Helper) → option_and_then (λ due. if comes due (at_end, x) then None else Some due) (option_and_then (λ h. due_in j h.entity) o) ≡ option_and_then (λ h. due_in (more j x) h.entity) o
            by None = refl
            by (Some h) = sym (due-more j x h.entity ∙ (λ i. due_with j x h.entity (none-changes h.entity i)))
