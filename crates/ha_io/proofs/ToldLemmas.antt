-- What several calls do to contents that may be told.
use Rattle.std.proofs.Common.{◌≡◌, ◌∙◌, ℕ, List, [], ◌++◌, Option, None, Some, ap, refl, sym, append-nil, append_assoc}
use Rattle.std.specs.Option.{option_map}
use Rattle.ha_io.specs.Told.{Gives, Takes}

pub Gives-nothing : (left : Option (List ℕ)) → Gives left [] left
Gives-nothing None = refl
Gives-nothing (Some rest) = refl

-- what two reads gave, one after the other
pub Gives-Gives : (before between after : Option (List ℕ)) (xs ys : List ℕ) → Gives before xs between → Gives between ys after → Gives before (xs ++ ys) after
Gives-Gives before between None xs ys first second = first ∙ ap (option_map (λ rest. xs ++ rest)) second
Gives-Gives before between (Some rest) xs ys first second =
    first ∙ (ap (option_map (λ rest. xs ++ rest)) second ∙ ap Some (sym (append_assoc xs ys rest)))

pub Takes-nothing : (written : Option (List ℕ)) → Takes written [] written
Takes-nothing None = refl
Takes-nothing (Some all) = ap Some (sym (append-nil all))

-- what two writes took, one after the other
pub Takes-Takes : (before between after : Option (List ℕ)) (xs ys : List ℕ) → Takes before xs between → Takes between ys after → Takes before (xs ++ ys) after
Takes-Takes None between after xs ys first second = second ∙ ap (option_map (λ all. all ++ ys)) first
Takes-Takes (Some all) between after xs ys first second =
    second ∙ (ap (option_map (λ all. all ++ ys)) first ∙ ap Some (append_assoc all xs ys))

-- where the bytes to come are told, they begin with those that were read, and the rest is told
pub Gives-told : (before after : Option (List ℕ)) (xs all : List ℕ) → Gives before xs after → before ≡ Some all → (rest : List ℕ) × (after ≡ Some rest) × (all ≡ xs ++ rest)
Gives-told before None xs all gives told = cc
Gives-told before (Some rest) xs all gives told = (rest, refl, cc)
