-- Lists whose members are valued one after the other, as far as a loop over them has come.
use Rattle.std.proofs.Common.{◌≡◌, ◌∙◌, ap, ℕ, zero, suc, ◌+◌, ◌<◌, ◌≤◌, refl, List, [], ◌∷◌, ◌++◌, length, get_or, drop, sym, arith, drop-cons, append_assoc, append-nil}
use Rattle.std.specs.Prelude.{Option, Some, None, Err, slice_get, option_map, option_and_then}
use Rattle.ha_sight.specs.declared.faults.TplFault.{TplFault}
use Rattle.script_step.specs.Fields.{Gives, Puts}

-- the values of the members, or none
abbrev pub each : {X Y : Type 0} → (X → Option Y) → List X → Option (List Y)
each value [] = Some []
each value (x ∷ xs) = option_and_then (λ v. option_map (λ vs. v ∷ vs) (each value xs)) (value x)

abbrev pub behind : {Y : Type 0} → List Y → Option (List Y) → Option (List Y)
behind vs o = option_map (λ ws. vs ++ ws) o

-- the values so far, and those of the rest, are all
abbrev pub Goes : {X Y : Type 0} → (X → Option Y) → List X → List X → List Y → Type 0
Goes value xs rest vs = each value xs ≡ behind vs (each value rest)

pub behind-nothing : {Y : Type 0} (o : Option (List Y)) → o ≡ behind [] o
behind-nothing None = refl
behind-nothing (Some vs) = refl

more-behind : {Y : Type 0} (vs new : List Y) (v : Option Y) (rest : Option (List Y)) → option_map (λ w. vs ++ (w ∷ [])) v ≡ Some new
    → behind vs (option_and_then (λ w. option_map (λ ws. w ∷ ws) rest) v) ≡ behind new rest
more-behind vs new None rest e = absurd (cc)
more-behind vs new (Some v) None e = refl
more-behind vs new (Some v) (Some ws) e = (let f : vs ++ (v ∷ []) ≡ new = cc in ap Some (sym (append_assoc vs (v ∷ []) ws) ∙ ap (λ l. l ++ ws) f))

pub goes-first : {X Y : Type 0} (value : X → Option Y) (xs : List X) → Goes value xs xs []
goes-first value xs = behind-nothing (each value xs)

pub goes-more : {X Y : Type 0} (value : X → Option Y) (xs rest more : List X) (vs new : List Y) (x : X) → Goes value xs rest vs → rest ≡ x ∷ more
    → option_map (λ v. vs ++ (v ∷ [])) (value x) ≡ Some new → Goes value xs more new
goes-more value xs rest more vs new x known is made = known ∙ ap (λ l. behind vs (each value l)) is ∙ more-behind vs new (value x) (each value more) made

pub goes-fault : {X Y : Type 0} (value : X → Option Y) (xs rest more : List X) (vs : List Y) (x : X) → Goes value xs rest vs → rest ≡ x ∷ more
    → value x ≡ None → each value xs ≡ None
goes-fault value xs rest more vs x known is none =
    known ∙ ap (λ l. behind vs (each value l)) is ∙ (λ k. behind vs (option_and_then (λ v. option_map (λ ws. v ∷ ws) (each value more)) (none k)))

pub goes-all : {X Y : Type 0} (value : X → Option Y) (xs rest : List X) (vs : List Y) → Goes value xs rest vs → rest ≡ [] → each value xs ≡ Some vs
goes-all value xs rest vs known is = known ∙ ap (λ l. behind vs (each value l)) is ∙ ap Some (append-nil vs)

pub drop-at : {X : Type 0} (xs : List X) (i : ℕ) (x : X) → i < length xs → x ≡ get_or xs i x → drop i xs ≡ x ∷ drop (i + 1) xs
drop-at xs i x lt is = (let e : suc i ≡ i + 1 = omega arith in drop-cons xs i x lt ∙ (λ k. sym is k ∷ drop (e k) xs))

pub get-at : {X : Type 0} (xs : List X) (i : ℕ) (x : X) → i < length xs → x ≡ get_or xs i x → slice_get xs i ≡ Some x
get-at [] i x lt is = absurd (omega (arith, lt))
get-at (y ∷ ys) zero x lt is = ap Some (sym is)
get-at (y ∷ ys) (suc i) x lt is = get-at ys i x (omega (arith, lt)) is

pub drop-past : {X : Type 0} (n : ℕ) (xs : List X) → length xs ≤ n → drop n xs ≡ []
drop-past zero [] le = refl
drop-past zero (x ∷ xs) le = absurd (omega arith)
drop-past (suc n) [] le = refl
drop-past (suc n) (x ∷ xs) le = drop-past n xs (omega arith)

-- a member that is a fault makes the list one
pub fault-gives : (X Z : Type 0) (fault : TplFault) (old new : List X) (given : Option X) (all : Option Z) → Puts {X = X} {Y = Unit {0}} old new given (Err fault) → (given ≡ None → all ≡ None)
    → Gives {X = Z} (Err fault) all
fault-gives X Z TplFault.Fault old new given all h f = f h
fault-gives X Z TplFault.Memory old new given all h f = tt

pub some-left : {X : Type 0} (xs : List X) (i : ℕ) → i < length xs → (x : X) × (drop i xs ≡ x ∷ drop (i + 1) xs)
some-left [] i lt = absurd (omega (arith, lt))
some-left (x ∷ xs) zero lt = (x, refl)
some-left (x ∷ xs) (suc i) lt =
    let w = some-left xs i (omega (arith, lt)) in
    let z : suc (i + 1) ≡ suc i + 1 = omega arith in
    (w.0, w.1 ∙ (λ k. w.0 ∷ drop (z k) (x ∷ xs)))
