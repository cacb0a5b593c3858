-- Items with commas between them.
use Rattle.std.proofs.Common.{◌≡◌, ℕ, ◌+◌, ◌<◌, ◌≤◌, List, [], ◌∷◌, ◌++◌, length, take, get_or, map, refl, sym, ap, ◌∙◌, append_assoc, arith}
use Rattle.std.proofs.lemmas.List.{take_more, take_all, length-take-le, length-map, map-append}
use Rattle.ha_value.specs.declared.value.Value
use Rattle.ha_value.specs.declared.value.Value.{Value}
use Rattle.ha_value.specs.declared.value.Value.TheVariants.{rolls-Pairs}
use Rattle.ha_value.specs.declared.value.Value.TheOpen.{Value-F}
use Rattle.ha_config.proofs.ValueRolls.{print_value-roll}
use Rattle.ha_config.specs.Words.{Text, Pairs}
use Rattle.ha_config.specs.ValueText.{comma_joined, pair_text, print_pairs, print_value, quoted}
use Rattle.flow_line.specs.Print.{comma_at}

joined_more : (xs : List Text) (x : Text) → comma_joined (xs ++ x ∷ []) ≡ comma_joined xs ++ (comma_at (length xs) ++ x)
joined_more [] x = refl
joined_more (y ∷ []) x = refl
joined_more (y ∷ z ∷ zs) x = ap (λ (r : Text). y ++ 44 ∷ r) (joined_more (z ∷ zs) x) ∙ sym (append_assoc y (44 ∷ comma_joined (z ∷ zs)) (44 ∷ x))

-- one item more, behind the comma that stands before it
pub one_further : {X : Type 0} (shown : X → Text) (old now mid new : Text) (xs : List X) (i : ℕ) (x : X) → i < length xs → x ≡ get_or xs i x
    → now ≡ old ++ comma_joined (map shown (take i xs)) → mid ≡ now ++ comma_at i → new ≡ mid ++ shown x → new ≡ old ++ comma_joined (map shown (take (i + 1) xs))
one_further {X} shown old now mid new xs i x within here before comma after =
    let row : List Text = map shown (take i xs) in
    let count : length row ≡ i = length-map (take i xs) shown ∙ length-take-le i xs (omega arith) in
    let all : map shown (take (i + 1) xs) ≡ row ++ shown x ∷ [] = ap (map shown) (take_more xs i x within ∙ ap (λ (z : X). take i xs ++ z ∷ []) (sym here)) ∙ map-append shown (take i xs) (x ∷ []) in
    after ∙ ap (λ (r : Text). r ++ shown x) (comma ∙ ap (λ (r : Text). r ++ comma_at i) before)
    ∙ append_assoc (old ++ comma_joined row) (comma_at i) (shown x) ∙ append_assoc old (comma_joined row) (comma_at i ++ shown x)
    ∙ ap (λ (r : Text). old ++ r) (ap (λ (n : ℕ). comma_joined row ++ (comma_at n ++ shown x)) (sym count) ∙ sym (joined_more row (shown x)) ∙ ap comma_joined (sym all))

-- a key, a colon and a value were printed
pub pair_shown : (mid keyed colon new key : Text) (v : Value) → keyed ≡ mid ++ quoted key → colon ≡ keyed ++ 58 ∷ [] → new ≡ colon ++ print_value v → new ≡ mid ++ pair_text key (print_value v)
pair_shown mid keyed colon new key v a b c =
    c ∙ ap (λ (r : Text). r ++ print_value v) (b ∙ ap (λ (r : Text). r ++ 58 ∷ []) a)
    ∙ append_assoc (mid ++ quoted key) (58 ∷ []) (print_value v) ∙ append_assoc mid (quoted key) (58 ∷ print_value v)

-- all items were printed, and the closing sign behind them
pub all_joined : {X : Type 0} (shown : X → Text) (left right : ℕ) (old begun now new : Text) (xs : List X) (i : ℕ) → length xs ≤ i → begun ≡ old ++ left ∷ []
    → now ≡ begun ++ comma_joined (map shown (take i xs)) → new ≡ now ++ right ∷ [] → new ≡ old ++ left ∷ (comma_joined (map shown xs) ++ right ∷ [])
all_joined {X} shown left right old begun now new xs i past first before after =
    after ∙ ap (λ (r : Text). r ++ right ∷ []) (before ∙ ap (λ (r : List X). begun ++ comma_joined (map shown r)) (take_all i xs past) ∙ ap (λ (r : Text). r ++ comma_joined (map shown xs)) first)
    ∙ append_assoc (old ++ left ∷ []) (comma_joined (map shown xs)) (right ∷ []) ∙ append_assoc old (left ∷ []) (comma_joined (map shown xs) ++ right ∷ [])

-- the pairs of a map, each printed as it stands there
pub each_pair : (ps : Pairs) → map (λ (p : Text × Value). pair_text p.0 (print_value p.1)) ps ≡ map (λ (p : Text × Text). pair_text p.0 p.1) (map (λ (p : Text × Value). (p.0, print_value p.1)) ps)
each_pair [] = refl
each_pair (p ∷ ps) = ap (λ (r : List Text). pair_text p.0 (print_value p.1) ∷ r) (each_pair ps)

pub of_pairs : (ps : Pairs) → print_value (Value.Pairs ps) ≡ print_pairs ps
of_pairs ps = ap print_value (sym (rolls-Pairs ps)) ∙ print_value-roll (Value-F.Pairs ps)
