-- What stands at the end of a journal with one put more, and behind which entries an Again stands.
use Rattle.std.proofs.Common.{◌≡◌, ◌∙◌, ap, sym, subst, refl, ◌-◌, List, [], ◌∷◌, ◌++◌, length, take, Bool, true, false, arith, append_assoc}
use Rattle.std.proofs.Math.Seq.{take-append_seam}
use Rattle.std.specs.Prelude.{if◌then◌else◌}
use Rattle.ha_journal.specs.declared.entry.Entry.{Entry}
use Rattle.ha_journal.specs.declared.entry.Entry.TheVariants.{Boot, Line, Step, Again}
use Rattle.ha_config.specs.Words.{EachAfter, EachWith}
use Rattle.ha_journal.specs.Entries.{is_again, is_restart}
use Rattle.ha_journal.specs.Journal.{Journal, HasEntry, more}
use Rattle.ha_model.specs.Records.{last_is}
use Rattle.ha_config.proofs.ListLemmas.{append-nil, true-false}
use Rattle.ha_journal.proofs.MoreLemmas.{length-more}
use Rattle.ha_laws.proofs.RightMore.{each-last}
use Rattle.ha_model.proofs.LastEntry as last
use Rattle.ha_whole.specs.Whole.{AreEntries, IsBehind, IsFirst, again_of, appended, ends_segment, put}
use Rattle.whole_laws.proofs.LiftLemmas.{entries-have}
use Rattle.whole_laws.proofs.PutLemmas.{put-appends, put-on, put-restart}

-- ---- two parts of a list

pub each-front : {X : Type 0} (P : List X → X → Type 0) (before xs ys : List X) → EachAfter P before (xs ++ ys) → EachAfter P before xs
each-front P before [] ys h = tt
each-front P before (x ∷ xs) ys h = (h.0, each-front P (before ++ (x ∷ [])) xs ys h.1)

pub each-behind : {X : Type 0} (P : List X → X → Type 0) (before xs ys : List X) → EachAfter P before (xs ++ ys) → EachAfter P (before ++ xs) ys
each-behind P before [] ys h = subst (λ l. EachAfter P l ys) (sym (append-nil before)) h
each-behind P before (x ∷ xs) ys h = subst (λ l. EachAfter P l ys) (append_assoc before (x ∷ []) xs) (each-behind P (before ++ (x ∷ [])) xs ys h.1)

pub with-behind : {X : Type 0} (P : List X → List X → Type 0) (before xs ys : List X) → EachWith P before (xs ++ ys) → EachWith P (before ++ xs) ys
with-behind P before [] ys h = subst (λ l. EachWith P l ys) (sym (append-nil before)) h
with-behind P before (x ∷ xs) ys h = subst (λ l. EachWith P l ys) (append_assoc before (x ∷ []) xs) (with-behind P (before ++ (x ∷ [])) xs ys h.1)

-- ---- one put

-- of what one put appends its entry is the first
pub put-first : (P : Journal → Entry → Type 0) (j : Journal) (x : Entry) → EachAfter P [] (put j x) → P j x
put-first P j x h = by (is_restart x) (each-behind P [] j (appended j x) (subst (EachAfter P []) (put-appends j x) h))
  where
    by : (b : Bool) → EachAfter P j (if b then x ∷ again_of (more j x) ∷ [] else x ∷ []) → P j x
    by true h = h.0
    by false h = h.0

-- behind what it stands
pub behind-of : (j : Journal) (x : Entry) → HasEntry j → AreEntries (put j x) → IsBehind j x
behind-of [] x has h = absurd has
behind-of (e ∷ es) x has h = by (is_restart x) (each-behind IsBehind (e ∷ []) es (appended (e ∷ es) x) (subst AreEntries (put-appends (e ∷ es) x) h).1)
  where
    by : (b : Bool) → EachAfter IsBehind (e ∷ es) (if b then x ∷ again_of (more (e ∷ es) x) ∷ [] else x ∷ []) → IsBehind (e ∷ es) x
    by true h = h.0
    by false h = h.0

-- without its last entry
pub front-of : (j : Journal) (x : Entry) → take (length (more j x) - 1) (more j x) ≡ j
front-of j x =
    let n : length (more j x) - 1 ≡ length j = omega (arith, length-more j x) in
    (λ i. take (n i) (more j x)) ∙ take-append_seam j (x ∷ [])

pub front-is : (k j : Journal) (x : Entry) → k ≡ more j x → take (length k - 1) k ≡ j
front-is k j x e = (λ i. take (length (e i) - 1) (e i)) ∙ front-of j x

-- the entries whose lines are taken, where the Again of a Restart is due
pub told-put : (j : Journal) (x : Entry) (b : Bool) → is_restart x ≡ b → (if b then take (length (put j x) - 1) (put j x) else put j x) ≡ more j x
told-put j x true e = front-is (put j x) (more j x) (again_of (more j x)) (put-restart j x e)
told-put j x false e = put-on j x e

pub again-put : (j : Journal) (x : Entry) → is_restart x ≡ true → last_is is_again (put j x) ≡ true
again-put j x e = (λ i. last_is is_again (put-restart j x e i)) ∙ last.last-is is_again (more j x) (again_of (more j x))

-- ---- an Again

-- behind a Restart its Again stands
pub again-behind : (j : Journal) (y : Entry) → ends_segment j ≡ true → IsBehind j y → y ≡ again_of j
again-behind j (Boot text config stored start zone carry) e h = absurd h
again-behind j (Line source number cmd) e h = absurd (true-false (sym e ∙ h))
again-behind j (Step worker serial branch item) e h = absurd (true-false (sym e ∙ h))
again-behind j (Again number start stored carry) e h = h.1

-- a journal that ends with an Again, and the entries before it, which end with its Restart
pub record AgainLast (j : Journal) : Type 0 where
  pub front : Journal
  pub has : HasEntry front
  pub ends : ends_segment front ≡ true
  pub is : j ≡ more front (again_of front)
  pub front_is : take (length j - 1) j ≡ front

has-last : (j : Journal) → HasEntry j → (b : Journal) × (y : Entry) × (j ≡ more b y)
has-last [] h = absurd h
has-last (e ∷ []) h = ([], e, refl)
has-last (e ∷ f ∷ es) h = (let rest = has-last (f ∷ es) tt in (e ∷ rest.0, rest.1, ap (λ (l : Journal). e ∷ l) rest.2))

pub first-plain : (e : Entry) → IsFirst e → is_again e ≡ false
first-plain (Boot text config stored start zone carry) h = refl
first-plain (Line source number cmd) h = absurd h
first-plain (Step worker serial branch item) h = absurd h
first-plain (Again number start stored carry) h = absurd h

again-ends : (b : Journal) (y : Entry) → IsBehind b y → is_again y ≡ true → ends_segment b ≡ true
again-ends b (Boot text config stored start zone carry) h holds = absurd h
again-ends b (Line source number cmd) h holds = absurd (true-false (sym holds))
again-ends b (Step worker serial branch item) h holds = absurd (true-false (sym holds))
again-ends b (Again number start stored carry) h holds = h.0

pub again-last : (j : Journal) → AreEntries j → last_is is_again j ≡ true → AgainLast j
again-last j h holds = by (has-last j (entries-have j h))
  where
    with-front : (b : Journal) (y : Entry) → j ≡ more b y → AreEntries (more b y) → is_again y ≡ true → AgainLast j
    with-front [] y is h holds = absurd (true-false (sym holds ∙ first-plain y h.0))
    with-front (e ∷ es) y is h holds =
        let behind : IsBehind (e ∷ es) y = each-last IsBehind (e ∷ []) es y h.1 in
        let ends = again-ends (e ∷ es) y behind holds in
        let again : y ≡ again_of (e ∷ es) = again-behind (e ∷ es) y ends behind in
        record { front = e ∷ es; has = tt; ends = ends; is = is ∙ (λ i. more (e ∷ es) (again i)); front_is = front-is j (e ∷ es) y is }

    by : (b : Journal) × (y : Entry) × (j ≡ more b y) → AgainLast j
    by (b, y, is) = with-front b y is (subst AreEntries is h) (sym (last.last-is is_again b y) ∙ (λ i. last_is is_again (sym is i)) ∙ holds)
