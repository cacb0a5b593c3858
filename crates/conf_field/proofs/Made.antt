-- What is said of the parts of a reading.
use Rattle.std.proofs.Common.{◌≡◌, ◌<◌, ◌+◌, ℕ, List, [], ◌∷◌, map, length, drop, get_or, Option, Ok, Err, refl, ap, ◌∙◌}
use Rattle.std.proofs.lemmas.List.{drop_more}
use Rattle.yaml_scan.specs.Answers.{Gives}
use Rattle.yaml_scan.specs.declared.fault.YamlFault.{YamlFault}
use Rattle.yaml_scan.specs.declared.fault.YamlFault.TheVariants as yaml
use Rattle.conf_field.specs.Readings.{Read, made, behind, each_behind, keep, kept_behind}

-- what is made of a part that is at fault is at fault alike
pub made_err : {A B : Type 0} (f : A → B) (m : Read A) (e : YamlFault) → Gives m (Err e) → Gives (made f m) (Err e)
made_err f m (yaml.Bad line code) h = ap (made f) h
made_err f m yaml.Memory h = tt

pub made_ok : {A B : Type 0} (f : A → B) (m : Read A) (x : A) → m ≡ Ok x → made f m ≡ Ok (f x)
made_ok f m x h = ap (made f) h

-- one item further: what the rest gives behind this one is what it gave from here
pub one_more : {X A : Type 0} (read : X → Read A) (before : Read (List A)) (xs : List X) (i : ℕ) (x : X)
    → i < length xs → get_or xs i x ≡ x → each_behind read before (drop i xs) ≡ each_behind read (behind before (read x)) (drop (i + 1) xs)
unfolding each_behind
one_more read before xs i x within here =
    ap (each_behind read before) (drop_more xs i x within ∙ ap (λ v. v ∷ drop (i + 1) xs) here)

pub kept_more : {X A : Type 0} (read : X → Read (Option A)) (before : Read (List A)) (xs : List X) (i : ℕ) (x : X)
    → i < length xs → get_or xs i x ≡ x → kept_behind read before (drop i xs) ≡ kept_behind read (keep before (read x)) (drop (i + 1) xs)
unfolding kept_behind
kept_more read before xs i x within here =
    ap (kept_behind read before) (drop_more xs i x within ∙ ap (λ v. v ∷ drop (i + 1) xs) here)

pub kept_changed : {X Y A : Type 0} (read : Y → Read (Option A)) (g : X → Y) (before : Read (List A)) (xs : List X)
    → kept_behind read before (map g xs) ≡ kept_behind (λ x. read (g x)) before xs
unfolding kept_behind
kept_changed read g before [] = refl
kept_changed read g before (x ∷ xs) = kept_changed read g (keep before (read (g x))) xs
