-- Lists that are gone through, with what is collected.
use Rattle.std.proofs.Common.{◌≡◌, ℕ, zero, suc, ◌+◌, ◌<◌, List, [], ◌∷◌, ◌++◌, length, take, drop, map, get_or, refl, sym, ap, ◌∙◌, arith, append_assoc, append-nil}
use Rattle.std.specs.Prelude.{Option, Some, None, filter_map, flat_map, slice_set}
use Rattle.std.specs.List.{cons_option}

cons-append : {X : Type 0} (o : Option X) (xs ys : List X) → cons_option o (xs ++ ys) ≡ cons_option o xs ++ ys
cons-append None xs ys = refl
cons-append (Some x) xs ys = refl

module _ {X : Type 0} (g : X → X) (d : X) where
  abbrev pub gone : ℕ → List X → List X
  gone n xs = map g (take n xs) ++ drop n xs

  got : (xs : List X) (n : ℕ) → n < length xs → get_or (gone n xs) n d ≡ get_or xs n d
  got [] n lt = absurd (omega (arith, lt))
  got (x ∷ xs) zero lt = refl
  got (x ∷ xs) (suc n) lt = got xs n (omega (arith, lt))

  set-next : (xs : List X) (n : ℕ) → n < length xs → slice_set (gone n xs) n (g (get_or xs n d)) ≡ gone (suc n) xs
  set-next [] n lt = absurd (omega (arith, lt))
  set-next (x ∷ xs) zero lt = refl
  set-next (x ∷ xs) (suc n) lt = (λ i. g x ∷ set-next xs n (omega (arith, lt)) i)

  -- one more of them is gone through
  pub goes-spots : (xs cur : List X) (n : ℕ) (v : X) → n < length xs → cur ≡ gone n xs → v ≡ g (get_or cur n d) → slice_set cur n v ≡ gone (n + 1) xs
  goes-spots xs cur n v lt is e =
      (λ i. slice_set (is i) n ((e ∙ ap (λ l. g (get_or l n d)) is ∙ ap g (got xs n lt)) i))
      ∙ set-next xs n lt ∙ (let q : suc n ≡ n + 1 = omega arith in λ i. gone (q i) xs)

-- one thing at most is collected of each
pub found-next : {X Y : Type 0} (f : X → Option Y) (d : X) (xs : List X) (n : ℕ) → n < length xs → filter_map f (take (suc n) xs) ≡ filter_map f (take n xs) ++ cons_option (f (get_or xs n d)) []
found-next f d [] n lt = absurd (omega (arith, lt))
found-next f d (x ∷ xs) zero lt = refl
found-next f d (x ∷ xs) (suc n) lt = (λ i. cons_option (f x) (found-next f d xs n (omega (arith, lt)) i)) ∙ cons-append (f x) (filter_map f (take n xs)) (cons_option (f (get_or xs n d)) [])

module _ {X Y : Type 0} (f : X → Option Y) (g : X → X) (d : X) where
  pub goes-found : (xs cur : List X) (n : ℕ) (before old new : List Y) → n < length xs → cur ≡ gone g d n xs → old ≡ before ++ filter_map f (take n xs) → new ≡ old ++ cons_option (f (get_or cur n d)) []
      → new ≡ before ++ filter_map f (take (n + 1) xs)
  goes-found xs cur n before old new lt is was e =
      e ∙ (λ i. was i ++ cons_option (f ((ap (λ l. get_or l n d) is ∙ got g d xs n lt) i)) [])
      ∙ append_assoc before (filter_map f (take n xs)) (cons_option (f (get_or xs n d)) [])
      ∙ (λ i. before ++ sym (found-next f d xs n lt) i)
      ∙ (let q : suc n ≡ n + 1 = omega arith in λ i. before ++ filter_map f (take (q i) xs))

-- several things are
module _ {X Y : Type 0} (f : X → List Y) (g : X → X) (d : X) where
  lists-next : (xs : List X) (n : ℕ) → n < length xs → flat_map f (take (suc n) xs) ≡ flat_map f (take n xs) ++ f (get_or xs n d)
  lists-next [] n lt = absurd (omega (arith, lt))
  lists-next (x ∷ xs) zero lt = append-nil (f x)
  lists-next (x ∷ xs) (suc n) lt = (λ i. f x ++ lists-next xs n (omega (arith, lt)) i) ∙ sym (append_assoc (f x) (flat_map f (take n xs)) (f (get_or xs n d)))

  pub goes-lists : (xs cur : List X) (n : ℕ) (before old new : List Y) → n < length xs → cur ≡ gone g d n xs → old ≡ before ++ flat_map f (take n xs) → new ≡ old ++ f (get_or cur n d)
      → new ≡ before ++ flat_map f (take (n + 1) xs)
  goes-lists xs cur n before old new lt is was e =
      e ∙ (λ i. was i ++ f ((ap (λ l. get_or l n d) is ∙ got g d xs n lt) i))
      ∙ append_assoc before (flat_map f (take n xs)) (f (get_or xs n d))
      ∙ (λ i. before ++ sym (lists-next xs n lt) i)
      ∙ (let q : suc n ≡ n + 1 = omega arith in λ i. before ++ flat_map f (take (q i) xs))
