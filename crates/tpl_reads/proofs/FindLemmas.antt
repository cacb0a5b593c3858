-- What is found, one after the other.
use Rattle.std.proofs.Common.{◌≡◌, ◌∙◌, ap, ℕ, zero, suc, ◌+◌, ◌<◌, ◌≤◌, Bool, true, false, List, [], ◌∷◌, ◌++◌, length, get_or, take, map, refl, sym, subst, arith, append_assoc, append-nil}
use Rattle.std.specs.Prelude.{Some, None, option_map, Result, Ok, Err}
use Rattle.std.proofs.lemmas.List.{take_more}
use Rattle.ha_value.specs.declared.value.EntityId.{EntityId}
use Rattle.ha_sight.specs.Rules.{each_once}
use Rattle.tpl_reads.specs.Finds.{Found, Finds}
use Rattle.tpl_reads.specs.Reads.{Written, all_of, both}

-- ---- entities that are written, one after the other

pub both-nil : (w : Written) → both w (Some []) ≡ w
both-nil None = refl
both-nil (Some es) = ap Some (append-nil es)

nil-both : (w : Written) → both (Some []) w ≡ w
nil-both None = refl
nil-both (Some es) = refl

pub both-none : (w : Written) → both w None ≡ None
both-none None = refl
both-none (Some es) = refl

both-assoc : (x y z : Written) → both x (both y z) ≡ both (both x y) z
both-assoc None y z = refl
both-assoc (Some es) None z = refl
both-assoc (Some es) (Some fs) None = refl
both-assoc (Some es) (Some fs) (Some gs) = ap Some (sym (append_assoc es fs gs))

module _ {X : Type 0} (f : X → Written) where
  all-snoc : (ys : List X) (x : X) → all_of (map f (ys ++ (x ∷ []))) ≡ both (all_of (map f ys)) (f x)
  all-snoc [] x = both-nil (f x) ∙ sym (nil-both (f x))
  all-snoc (y ∷ ys) x = ap (both (f y)) (all-snoc ys x) ∙ both-assoc (f y) (all_of (map f ys)) (f x)

  none-at : (xs : List X) (i : ℕ) (x : X) → i < length xs → x ≡ get_or xs i x → f x ≡ None → all_of (map f xs) ≡ None
  none-at [] i x lt is e = absurd (omega (arith, lt))
  none-at (y ∷ ys) zero x lt is e = ap (λ w. both w (all_of (map f ys))) (ap f (sym is) ∙ e)
  none-at (y ∷ ys) (suc i) x lt is e = ap (both (f y)) (none-at ys i x (omega (arith, lt)) is e) ∙ both-none (f y)

-- ---- what is found

-- nothing more
pub finds-none : (old : List EntityId) → Finds {Y = Unit {0}} old old (Some []) (Ok true)
finds-none old start h = ap Some (ap each_once (append-nil start) ∙ sym h)

pub along-none : (old : List EntityId) (w : Written) → w ≡ Some [] → Finds {Y = Unit {0}} old old w (Ok true)
along-none old w e = subst (λ (y : Written). Finds {Y = Unit {0}} old old y (Ok true)) (sym e) (finds-none old)

pub along-true : (old new : List EntityId) (w z : Written) → w ≡ z → Finds {Y = Unit {0}} old new w (Ok true) → Finds {Y = Unit {0}} old new z (Ok true)
along-true old new w z e h = subst (λ (y : Written). Finds {Y = Unit {0}} old new y (Ok true)) e h

-- of what is the same
pub finds-along : {Y : Type 0} (old new : List EntityId) (w z : Written) (r : Result Bool Y) → w ≡ z → Finds old new w r → Finds old new z r
finds-along old new w z r e h = subst (λ (y : Written). Finds old new y r) e h

found-by : {Y : Type 0} (start mid new es : List EntityId) (y : Written) (r : Result Bool Y) → each_once (start ++ es) ≡ mid → Finds mid new y r → Found start new (both (Some es) y) r
found-by start mid new es None (Ok true) e h = absurd (nothing (h (start ++ es) (sym e)))
  where
    nothing : None ≡ Some new → ⊥
    nothing k = absurd (cc)
found-by start mid new es (Some fs) (Ok true) e h = ap Some (ap each_once (sym (append_assoc start es fs))) ∙ h (start ++ es) (sym e)
found-by start mid new es y (Ok false) e h = ap (both (Some es)) (h (start ++ es) (sym e))
found-by start mid new es y (Err fault) e h = tt

-- LAW: what is found behind what was found before
pub found-both : {Y : Type 0} (start mid new : List EntityId) (x y : Written) (r : Result Bool Y) → Found {Y = Unit {0}} start mid x (Ok true) → Finds mid new y r → Found start new (both x y) r
found-both start mid new None y r h k = absurd (cc)
found-both start mid new (Some es) y r h k = let e : each_once (start ++ es) ≡ mid = cc in found-by start mid new es y r e k

-- LAW: the same, by what was told of what was found before
pub then-true : {Y Z : Type 0} (start old new : List EntityId) (given y : Written) (before : Result Bool Z) (r : Result Bool Y) (b : Bool) → before ≡ Ok b → b ≡ true
    → Found start old given before → Finds old new y r → Found start new (both given y) r
then-true {Z = Z} start old new given y before r b is t h k =
    found-both start old new given y r (subst (λ (q : Result Bool Z). Found start old given q) (is ∙ ap Ok t) h) k

pub then-false : {Z : Type 0} (start old new : List EntityId) (given y : Written) (before : Result Bool Z) (b : Bool) → before ≡ Ok b → b ≡ false
    → Found start old given before → Found {Y = Unit {0}} start new (both given y) (Ok false)
then-false {Z = Z} start old new given y before b is f h = ap (λ w. both w y) (subst (λ (q : Result Bool Z). Found start old given q) (is ∙ ap Ok f) h)

-- ---- a loop

module _ {X : Type 0} (f : X → Written) (xs : List X) where
  -- behind what was found at first stand those of the first i
  abbrev pub Goes : ℕ → List EntityId → List EntityId → Type 0
  Goes i old new = Finds {Y = Unit {0}} old new (all_of (map f (take i xs))) (Ok true)

  front-more : (i : ℕ) (x : X) → i < length xs → x ≡ get_or xs i x → both (all_of (map f (take i xs))) (f x) ≡ all_of (map f (take (i + 1) xs))
  front-more i x lt is =
      sym (ap (λ l. all_of (map f l)) (take_more xs i x lt ∙ ap (λ y. take i xs ++ (y ∷ [])) (sym is)) ∙ all-snoc f (take i xs) x)

  take-past : {Z : Type 0} (n : ℕ) (zs : List Z) → length zs ≤ n → take n zs ≡ zs
  take-past zero [] le = refl
  take-past zero (z ∷ zs) le = absurd (omega (arith, le))
  take-past (suc n) [] le = refl
  take-past (suc n) (z ∷ zs) le = ap (λ l. z ∷ l) (take-past n zs (omega (arith, le)))

  module _ {Y : Type 0} (i : ℕ) (x : X) (old mid new : List EntityId) (goes : Goes i old mid) (lt : i < length xs) (is : x ≡ get_or xs i x) (b : Bool) (r : Result Bool Y) (e : r ≡ Ok b) (finds : Finds mid new (f x) r) where
    pub goes-more : b ≡ true → Goes (i + 1) old new
    goes-more t start h =
        subst (λ (w : Written). Found {Y = Unit {0}} start new w (Ok true)) (front-more i x lt is)
        (found-both {Y = Unit {0}} start mid new (all_of (map f (take i xs))) (f x) (Ok true) (goes start h)
        (λ s k. subst (λ (q : Result Bool Y). Found s new (f x) q) (e ∙ ap Ok t) (finds s k)))

    pub goes-false : b ≡ false → Finds {Y = Unit {0}} old new (all_of (map f xs)) (Ok false)
    goes-false f' start h = by (all_of (map f (take i xs))) (goes start h)
      where
        missing : (es : List EntityId) → each_once (start ++ es) ≡ mid → f x ≡ None
        missing es k = subst (λ (q : Result Bool Y). Found (start ++ es) new (f x) q) (e ∙ ap Ok f') (finds (start ++ es) (sym k))

        by : (w : Written) → option_map (λ es. each_once (start ++ es)) w ≡ Some mid → all_of (map f xs) ≡ None
        by None k = absurd (cc)
        by (Some es) k = let m : each_once (start ++ es) ≡ mid = cc in none-at f xs i x lt is (missing es m)

  pub goes-all : (i : ℕ) (old new : List EntityId) → Goes i old new → length xs ≤ i → Finds {Y = Unit {0}} old new (all_of (map f xs)) (Ok true)
  goes-all i old new goes le start h = subst (λ (l : List X). option_map (λ es. each_once (start ++ es)) (all_of (map f l)) ≡ Some new) (take-past i xs le) (goes start h)
