-- How items stand among their places, at each way in which parts are put together.
use Rattle.std.proofs.Common.{◌≡◌, ℕ, zero, suc, ◌+◌, ◌<◌, Bool, true, false, List, [], ◌∷◌, ◌++◌, length, refl, sym, subst, ◌∙◌, rules, arith, length-append}
use Rattle.std.specs.Prelude.{Option, Some, None, nat_eq, unwrap_or, slice_get, if◌then◌else◌, bytes_eq}
use Rattle.std.proofs.lemmas.Slice.Eq.{bytes_eq-Decides}
use Rattle.ha_sight.specs.declared.item.Item.{Item}
use Rattle.ha_sight.specs.Items.{awaits_end, changes_by}
use Rattle.ha_sight.specs.Scripts.{Branch, Spot, on_side, side, take_item}
use Rattle.ha_config.specs.Words.{last_of}
use Rattle.ha_config.proofs.ListLemmas.{none-some, some-same, true-false}
use Rattle.script_laws.specs.Made.{AreMade}
use Rattle.script_laws.specs.Stands.{EachStands, GoesOn, NamesNoScript, Stands, next_in, sees_named}

-- an item that waits for no run, names none where no script is seen, whose changes are made of what is seen, and that names what is seen
abbrev pub IsStill : Spot → Item → Type 0
IsStill p item = (awaits_end item ≡ false) × (p.sight.scripts ≡ [] → NamesNoScript item) × AreMade p.sight (changes_by item) × (sees_named p.sight item ≡ true)

pub still-stands : (unended : Bool) (p : Spot) (item : Item) (behind : List Spot) → IsStill p item → Stands unended p item behind
still-stands unended p item behind h = record { waits = λ e. absurd (true-false (sym e ∙ h.0)); names = h.1; helps = h.2; sees = h.3 }

-- ---- more places behind

goes-longer : (unended : Bool) (n : ℕ) (b : Branch) (ps qs : List Spot) → GoesOn false n (next_in b ps) → GoesOn unended n (next_in b (ps ++ qs))
goes-longer unended n b [] qs h = absurd (true-false (sym h))
goes-longer unended n b (s ∷ ps) qs h = by (bytes_eq s.branch b) h (goes-longer unended n b ps qs)
  where
    by : (c : Bool) → GoesOn false n (if c then Some s else next_in b ps) → (GoesOn false n (next_in b ps) → GoesOn unended n (next_in b (ps ++ qs)))
        → GoesOn unended n (if c then Some s else next_in b (ps ++ qs))
    by true h later = h
    by false h later = later h

pub stand-append : (unended : Bool) (ps qs : List Spot) (xs ys : List Item) → length xs ≡ length ps → EachStands false ps xs → EachStands unended qs ys → EachStands unended (ps ++ qs) (xs ++ ys)
stand-append unended [] qs [] ys e h g = g
stand-append unended [] qs (x ∷ xs) ys e h g = absurd (omega (arith, e))
stand-append unended (p ∷ ps) qs [] ys e h g = absurd (omega (arith, e))
stand-append unended (p ∷ ps) qs (x ∷ xs) ys e h g =
    (record { waits = λ w. goes-longer unended p.place p.branch ps qs (h.0.waits w); names = h.0.names; helps = h.0.helps; sees = h.0.sees }, stand-append unended ps qs xs ys (omega (arith, e)) h.1 g)

-- the last item is that of the last place
pub last-stands : (unended : Bool) (ps : List Spot) (q : Spot) (items : List Item) (item : Item) → length items ≡ length (ps ++ (q ∷ [])) → EachStands unended (ps ++ (q ∷ [])) items
    → last_of items ≡ Some item → Stands unended q item []
last-stands unended [] q [] item len h e = absurd (none-some item e)
last-stands unended [] q (x ∷ []) item len h e = subst (λ (z : Item). Stands unended q z []) (some-same x item e) h.0
last-stands unended [] q (x ∷ y ∷ items) item len h e = absurd (omega (arith, len))
last-stands unended (p ∷ ps) q [] item len h e = absurd (none-some item e)
last-stands unended (p ∷ ps) q (x ∷ []) item len h e = (let long = length-append ps (q ∷ []) in absurd (omega (arith, len, long)))
last-stands unended (p ∷ ps) q (x ∷ y ∷ items) item len h e = last-stands unended ps q (y ∷ items) item (omega (arith, len)) h.1 e

-- ---- where a list is open, all may be

goes-open : (unended : Bool) (n : ℕ) (o : Option Spot) → GoesOn unended n o → GoesOn true n o
goes-open unended n None h = refl
goes-open unended n (Some s) h = h

pub stand-open : (unended : Bool) (ps : List Spot) (xs : List Item) → EachStands unended ps xs → EachStands true ps xs
stand-open unended [] xs h = tt
stand-open unended (p ∷ ps) [] h = tt
stand-open unended (p ∷ ps) (x ∷ xs) h =
    (record { waits = λ w. goes-open unended p.place (next_in p.branch ps) (h.0.waits w); names = h.0.names; helps = h.0.helps; sees = h.0.sees }, stand-open unended ps xs h.1)

none-stand : (unended : Bool) (ps : List Spot) → EachStands unended ps []
none-stand unended [] = tt
none-stand unended (p ∷ ps) = tt

-- ---- lists beside each other

-- each list's items stand among the places of its side
abbrev pub SidesStand : Bool → Branch → ℕ → List Spot → List (List Item) → Type 0
SidesStand unended b k ps [] = Unit {0}
SidesStand unended b k ps (xs ∷ more) = EachStands unended (on_side b k ps) xs × SidesStand unended b (suc k) ps more

module _ (b : Branch) (s : Spot) (ps : List Spot) where
  on-it : (k : ℕ) → side b s ≡ k → on_side b k (s ∷ ps) ≡ s ∷ on_side b k ps
  on-it k e = (let h : nat_eq (side b s) k ≡ true = search rules in rw h refl)

  off-it : (k : ℕ) → (side b s ≡ k → ⊥) → on_side b k (s ∷ ps) ≡ on_side b k ps
  off-it k e = (let h : nat_eq (side b s) k ≡ false = search rules in rw h refl)

  later-sides : (unended : Bool) (k : ℕ) (lists : List (List Item)) → side b s < k → SidesStand unended b k (s ∷ ps) lists → SidesStand unended b k ps lists
  later-sides unended k [] lt h = tt
  later-sides unended k (xs ∷ more) lt h =
      (subst (λ q. EachStands unended q xs) (off-it k (λ e. omega (arith, e, lt))) h.0, later-sides unended (suc k) more (omega (arith, lt)) h.1)

-- the next place of a branch is on the branch's side
next-on-side : (b c : Branch) (k : ℕ) → ((s : Spot) → bytes_eq s.branch c ≡ true → nat_eq (side b s) k ≡ true) → (ps : List Spot) → next_in c (on_side b k ps) ≡ next_in c ps
next-on-side b c k within [] = refl
next-on-side b c k within (s ∷ ps) = by (nat_eq (side b s) k) refl (bytes_eq s.branch c) refl (next-on-side b c k within ps)
  where
    by : (t : Bool) → nat_eq (side b s) k ≡ t → (u : Bool) → bytes_eq s.branch c ≡ u → next_in c (on_side b k ps) ≡ next_in c ps
        → next_in c (if t then s ∷ on_side b k ps else on_side b k ps) ≡ (if u then Some s else next_in c ps)
    by true e true f ih = (λ i. if f i then Some s else next_in c (on_side b k ps))
    by true e false f ih = (λ i. if f i then Some s else next_in c (on_side b k ps)) ∙ ih
    by false e true f ih = absurd (true-false (sym (within s f) ∙ e))
    by false e false f ih = ih

-- what a place takes of the lists stands behind it, and the rest among the places behind
abbrev ItemStands : Bool → Spot → List Spot → Option Item → Type 0
ItemStands unended s ps None = Unit {0}
ItemStands unended s ps (Some x) = Stands unended s x ps

module _ (unended : Bool) (b : Branch) (s : Spot) (ps : List Spot) where
  abbrev pub TakenStand : ℕ → Option Item × List (List Item) → Type 0
  TakenStand k r = ItemStands unended s ps r.0 × SidesStand unended b k ps r.1

  own-side : (k : ℕ) → side b s ≡ k → (q : Spot) → bytes_eq q.branch s.branch ≡ true → nat_eq (side b q) k ≡ true
  own-side k e q same =
      let alike : q.branch ≡ s.branch = (bytes_eq-Decides q.branch s.branch).0 same in
      let at : side b q ≡ k = (λ i. unwrap_or (slice_get (alike i) (length b)) 0) ∙ e in
      search (rules, at)

  pub taken-stand : (k d : ℕ) (lists : List (List Item)) → side b s ≡ k + d → SidesStand unended b k (s ∷ ps) lists → TakenStand k (take_item d lists)
  taken-stand k zero [] e h = (tt, tt)
  taken-stand k (suc d) [] e h = (tt, tt)
  taken-stand k zero ([] ∷ more) e h = (tt, (none-stand unended (on_side b k ps), later-sides b s ps unended (suc k) more (omega (arith, e)) h.1))
  taken-stand k zero ((x ∷ xs) ∷ more) e h =
      let at : side b s ≡ k = omega (arith, e) in
      let own : EachStands unended (s ∷ on_side b k ps) (x ∷ xs) = subst (λ q. EachStands unended q (x ∷ xs)) (on-it b s ps k at) h.0 in (
        record { waits = λ w. subst (GoesOn unended s.place) (next-on-side b s.branch k (own-side k at) ps) (own.0.waits w); names = own.0.names; helps = own.0.helps; sees = own.0.sees },
        (own.1, later-sides b s ps unended (suc k) more (omega (arith, e)) h.1),
      )
  taken-stand k (suc d) (xs ∷ more) e h =
      let t = taken-stand (suc k) d more (omega (arith, e)) h.1 in
      (t.0, (subst (λ q. EachStands unended q xs) (off-it b s ps k (λ z. omega (arith, z, e))) h.0, t.1))
