-- The branches that may step, list by list.
use Rattle.std.proofs.Common.{◌≡◌, ℕ, suc, ◌+◌, ◌<◌, List, [], ◌∷◌, ◌++◌, length, map, drop, get_or, refl, sym, ap, ◌∙◌, arith, append_assoc}
use Rattle.ha_config.specs.declared.config.Action.{Action}
use Rattle.ha_sight.specs.Scripts.{Branch}
use Rattle.script_step.specs.declared.strand.Strand.{Strand}
use Rattle.script_step.specs.Continuation.{nth_list}
use Rattle.script_step.specs.Ready.{Ends, readies, readies_from}
use Rattle.script_step.proofs.KindLemmas.{drop-get, found}

map-append : {X Y : Type 0} (f : X → Y) (xs ys : List X) → map f (xs ++ ys) ≡ map f xs ++ map f ys
map-append f [] ys = refl
map-append f (x ∷ xs) ys = ap (λ l. f x ∷ l) (map-append f xs ys)

below-list : (branch : Branch) (i : ℕ) (cs : List Branch) → map (λ c. branch ++ c) (map (λ c. i ∷ c) cs) ≡ map (λ c. (branch ++ (i ∷ [])) ++ c) cs
below-list branch i [] = refl
below-list branch i (c ∷ cs) = (λ k. sym (append_assoc branch (i ∷ []) c) k ∷ below-list branch i cs k)

pub ready-next : (xs : List Strand) (i : ℕ) (x : Strand) (branch : Branch) (lists : List (List Action)) (now : ℕ) (ends : Ends) (base old new : List Branch)
    → i < length xs → x ≡ get_or xs i x
    → base ≡ old ++ map (λ c. branch ++ c) (readies_from i (map readies (drop i xs)) lists now (λ c. ends (branch ++ c)))
    → new ≡ old ++ map (λ c. (branch ++ (i ∷ [])) ++ c) (readies x (nth_list lists i) now (λ c. ends ((branch ++ (i ∷ [])) ++ c)))
    → base ≡ new ++ map (λ c. branch ++ c) (readies_from (i + 1) (map readies (drop (i + 1) xs)) lists now (λ c. ends (branch ++ c)))
ready-next xs i x branch lists now ends base old new lt is inv made =
    let n : suc i ≡ i + 1 = omega arith in
    let own = readies x (nth_list lists i) now (λ c. ends (branch ++ (i ∷ c))) in
    let later = readies_from (suc i) (map readies (drop (i + 1) xs)) lists now (λ c. ends (branch ++ c)) in
    inv
    ∙ (λ k. old ++ map (λ c. branch ++ c) (readies_from i (map readies (drop-get xs i x (found xs i x lt is) k)) lists now (λ c. ends (branch ++ c))))
    ∙ (λ k. old ++ map-append (λ c. branch ++ c) (map (λ c. i ∷ c) own) later k)
    ∙ (λ k. old ++ (below-list branch i own k ++ map (λ c. branch ++ c) later))
    ∙ (λ k. old ++ (map (λ c. (branch ++ (i ∷ [])) ++ c) (readies x (nth_list lists i) now (λ c. ends (sym (append_assoc branch (i ∷ []) c) k))) ++ map (λ c. branch ++ c) later))
    ∙ sym (append_assoc old (map (λ c. (branch ++ (i ∷ [])) ++ c) (readies x (nth_list lists i) now (λ c. ends ((branch ++ (i ∷ [])) ++ c)))) (map (λ c. branch ++ c) later))
    ∙ (λ k. sym made k ++ map (λ c. branch ++ c) (readies_from (n k) (map readies (drop (i + 1) xs)) lists now (λ c. ends (branch ++ c))))

pub map-same : (cs : List Branch) → map (λ c. c) cs ≡ cs
map-same [] = refl
map-same (c ∷ cs) = ap (λ l. c ∷ l) (map-same cs)
