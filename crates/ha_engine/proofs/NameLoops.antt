-- What the loops find that go through names, and through pairs under them.
use Rattle.std.proofs.Common.{◌≡◌, ℕ, zero, suc, ◌+◌, ◌<◌, ◌≤◌, List, [], ◌∷◌, ◌++◌, length, map, take, drop, get_or, true, false, refl, sym, ap, ◌∙◌, arith, Option}
use Rattle.std.specs.Prelude.{None, Some, slice_get, unwrap_or, if◌then◌else◌}
use Rattle.std.proofs.lemmas.List.{drop_all, map_more, take_all}
use Rattle.ha_config.specs.Words.{Text, same}
use Rattle.ha_whole.specs.Named.{named}
use Rattle.ha_engine.specs.Noted.{known_lasts}
use Rattle.ha_engine.proofs.KeptLemmas.{drop-next}

-- ---- the pair of a name

module _ {X : Type 0} (name : Text) (ps : List (Text × X)) (i : ℕ) where
  abbrev left : Option X
  left = named {X = X} name (drop i ps)

  head-is : (p : Text × X) → i < length ps → p ≡ get_or ps i p → left ≡ (if same p.0 name then Some p.1 else named {X = X} name (drop (i + 1) ps))
  head-is p lt is = (λ k. named {X = X} name (drop-next ps i p lt k)) ∙ (λ k. named {X = X} name (sym is k ∷ drop (i + 1) ps))

  -- LAW: the next one has it
  pub pair-found : (p : Text × X) → i < length ps → p ≡ get_or ps i p → same p.0 name ≡ true → left ≡ Some p.1
  pair-found p lt is e = head-is p lt is ∙ (λ k. if e k then Some p.1 else named {X = X} name (drop (i + 1) ps))

  -- LAW: or it does not
  pub pair-passed : (p : Text × X) → i < length ps → p ≡ get_or ps i p → same p.0 name ≡ false → named {X = X} name (drop (i + 1) ps) ≡ left
  pair-passed p lt is e = sym (head-is p lt is ∙ (λ k. if e k then Some p.1 else named {X = X} name (drop (i + 1) ps)))

  -- LAW: behind all there is none
  pub pair-none : length ps ≤ i → left ≡ None
  pair-none le = (λ k. named {X = X} name (drop_all i ps le k))

-- ---- one value more of each

-- LAW: the value of the next one is behind those before it
pub each-more : {X Y : Type 0} (f : X → Y) (xs : List X) (i : ℕ) (x : X) (old new : List Y) (v : Y) → i < length xs → old ≡ map f (take i xs) → x ≡ get_or xs i x → v ≡ f x → new ≡ old ++ (v ∷ []) → new ≡ map f (take (i + 1) xs)
each-more f xs i x old new v lt before here value is =
    is ∙ (λ k. before k ++ (value ∙ ap f here) k ∷ []) ∙ sym (map_more f xs i x lt)

-- LAW: and behind the last one these are all
pub each-done : {X Y : Type 0} (f : X → Y) (xs : List X) (i : ℕ) (made : List Y) → length xs ≤ i → made ≡ map f (take i xs) → made ≡ map f xs
each-done f xs i made le is = is ∙ (λ k. map f (take_all i xs le k))

-- ---- moments by names

none-there : {X : Type 0} (i : ℕ) → slice_get {X = X} [] i ≡ None
none-there zero = refl
none-there (suc i) = refl

known-fresh : (names : List Text) (carried : List (Text × ℕ)) → known_lasts [] names carried ≡ map (λ name. named name carried) names
known-fresh [] carried = refl
known-fresh (x ∷ xs) carried = refl

-- LAW: of no names there are none
pub known-none : (known : List (Option ℕ)) (carried : List (Text × ℕ)) → known_lasts known [] carried ≡ []
known-none [] carried = refl
known-none (k ∷ ks) carried = refl

known-more : (known : List (Option ℕ)) (names : List Text) (carried : List (Text × ℕ)) (n : ℕ) (d : Text) → n < length names
    → known_lasts known (take (n + 1) names) carried ≡ known_lasts known (take n names) carried ++ (unwrap_or (slice_get known n) (named (get_or names n d) carried) ∷ [])
known-more known [] carried n d lt = absurd (omega (arith, lt))
known-more [] (x ∷ xs) carried zero d lt = refl
known-more [] (x ∷ xs) carried (suc n) d lt =
    (let next : suc n + 1 ≡ suc (n + 1) = omega arith in
    (λ k. known_lasts [] (take (next k) (x ∷ xs)) carried)
    ∙ ap (λ l. named x carried ∷ l)
    (sym (known-fresh (take (n + 1) xs) carried)
    ∙ known-more [] xs carried n d (omega (arith, lt))
    ∙ (λ k. known-fresh (take n xs) carried k ++ (unwrap_or ((none-there n ∙ sym (none-there (suc n))) k) (named (get_or xs n d) carried) ∷ []))))
known-more (m ∷ known) (x ∷ xs) carried zero d lt = (λ k. m ∷ known-none known carried k)
known-more (m ∷ known) (x ∷ xs) carried (suc n) d lt =
    (let next : suc n + 1 ≡ suc (n + 1) = omega arith in
    (λ k. known_lasts (m ∷ known) (take (next k) (x ∷ xs)) carried) ∙ ap (λ l. m ∷ l) (known-more known xs carried n d (omega (arith, lt))))

-- LAW: one name more has its moment behind the others
pub known-step : (known : List (Option ℕ)) (names : List Text) (carried : List (Text × ℕ)) (n : ℕ) (x : Text) (old new : List (Option ℕ)) (last : Option ℕ) → n < length names
    → old ≡ known_lasts known (take n names) carried → x ≡ get_or names n x → last ≡ unwrap_or (slice_get known n) (named x carried) → new ≡ old ++ (last ∷ [])
    → new ≡ known_lasts known (take (n + 1) names) carried
known-step known names carried n x old new last lt before here value is =
    is ∙ (λ k. before k ++ ((value ∙ (λ m. unwrap_or (slice_get known n) (named (here m) carried))) k ∷ [])) ∙ sym (known-more known names carried n x lt)

-- LAW: behind the last name these are all
pub known-done : (known : List (Option ℕ)) (names : List Text) (carried : List (Text × ℕ)) (n : ℕ) (made : List (Option ℕ)) → length names ≤ n → made ≡ known_lasts known (take n names) carried → made ≡ known_lasts known names carried
known-done known names carried n made le is = is ∙ (λ k. known_lasts known (take_all n names le k) carried)
