-- Lists gone through from the front.
use Rattle.std.proofs.Common.{◌≡◌, ◌∙◌, ap, ℕ, zero, suc, ◌+◌, ◌<◌, Bool, refl, List, [], ◌∷◌, ◌++◌, length, get_or, take, drop, map, sym, arith, drop-cons}
use Rattle.std.proofs.lemmas.List.{take_more}
use Rattle.std.specs.Prelude.{Option, Some, None, filter_map, ◌&&◌}
use Rattle.std.specs.List.{cons_option, list_all}
use Rattle.std.specs.Option.{option_to_list}

map-snoc : {X Y : Type 0} (f : X → Y) (xs : List X) (x : X) → map f (xs ++ (x ∷ [])) ≡ map f xs ++ (f x ∷ [])
map-snoc f [] x = refl
map-snoc f (y ∷ ys) x = (λ i. f y ∷ map-snoc f ys x i)

pub map-more : {X Y : Type 0} (f : X → Y) (xs : List X) (i : ℕ) (x : X) → i < length xs → x ≡ get_or xs i x → map f (take (i + 1) xs) ≡ map f (take i xs) ++ (f x ∷ [])
map-more f xs i x lt is = ap (map f) (take_more xs i x lt ∙ (λ k. take i xs ++ (sym is k ∷ []))) ∙ map-snoc f (take i xs) x

behind : {Y : Type 0} (a b c : List Y) (o : Option Y) → a ≡ b ++ c → cons_option o a ≡ cons_option o b ++ c
behind a b c None h = h
behind a b c (Some w) h = ap (λ l. w ∷ l) h

filter-snoc : {X Y : Type 0} (f : X → Option Y) (xs : List X) (x : X) → filter_map f (xs ++ (x ∷ [])) ≡ filter_map f xs ++ option_to_list (f x)
filter-snoc {X} {Y} f [] x = by (f x)
  where
    by : (o : Option Y) → cons_option o [] ≡ [] ++ option_to_list o
    by None = refl
    by (Some y) = refl
filter-snoc f (y ∷ ys) x = behind (filter_map f (ys ++ (x ∷ []))) (filter_map f ys) (option_to_list (f x)) (f y) (filter-snoc f ys x)

pub filter-more : {X Y : Type 0} (f : X → Option Y) (xs : List X) (i : ℕ) (x : X) → i < length xs → x ≡ get_or xs i x → filter_map f (take (i + 1) xs) ≡ filter_map f (take i xs) ++ option_to_list (f x)
filter-more f xs i x lt is = ap (filter_map f) (take_more xs i x lt ∙ (λ k. take i xs ++ (sym is k ∷ []))) ∙ filter-snoc f (take i xs) x

pub same-or : (xs : List ℕ) (n d e : ℕ) → n < length xs → get_or xs n d ≡ get_or xs n e
same-or [] n d e lt = absurd (omega (arith, lt))
same-or (y ∷ ys) zero d e lt = refl
same-or (y ∷ ys) (suc n) d e lt = same-or ys n d e (omega (arith, lt))

-- one more of a list from the back, where the list is gone through from the front
pub all-from : (f : ℕ → Bool) (xs : List ℕ) (i : ℕ) (b : Bool) → i < length xs → f (get_or xs i 0) ≡ b → list_all f (drop i xs) ≡ (b && list_all f (drop (i + 1) xs))
all-from f xs i b lt is =
    ap (list_all f) (drop-cons xs i 0 lt) ∙ (λ k. is k && list_all f (drop (suc i) xs))
    ∙ (let e : suc i ≡ i + 1 = omega arith in ap (λ m. b && list_all f (drop m xs)) e)
