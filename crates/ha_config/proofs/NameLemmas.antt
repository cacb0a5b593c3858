-- The last pair of a name, and names by their numbers.
use Rattle.std.proofs.Common.{◌≡◌, ◌∙◌, ap, ℕ, zero, suc, List, ◌+◌, ◌-◌, ◌<◌, ◌≤◌, true, false, refl, [], ◌∷◌, ◌++◌, length, get_or, take, sym, arith}
use Rattle.std.proofs.lemmas.List.{take_more}
use Rattle.std.specs.Prelude.{Some, None}
use Rattle.ha_value.specs.declared.value.Value.{Value}
use Rattle.ha_config.specs.declared.config.Automation.{Automation}
use Rattle.ha_config.specs.Names.{name_in, name_of, names_of}
use Rattle.ha_config.specs.Words.{Text, Pairs, same, last_pair}

module _ (key : Text) where
  last-this : (ps : Pairs) (p : Text × Value) → same p.0 key ≡ true → last_pair key (ps ++ p ∷ []) ≡ Some p.1
  last-this [] p h = rw h refl
  last-this (q ∷ qs) p h = rw (last-this qs p h) refl

  last-before : (ps : Pairs) (p : Text × Value) → same p.0 key ≡ false → last_pair key (ps ++ p ∷ []) ≡ last_pair key ps
  last-before [] p h = rw h refl
  last-before (q ∷ qs) p h = rw (last-before qs p h) refl

  -- a name that was set, and one that was not
  pub last-second : (ps qs : Pairs) (v : Value) → last_pair key qs ≡ Some v → last_pair key (ps ++ qs) ≡ Some v
  last-second [] qs v h = h
  last-second (p ∷ ps) qs v h = rw (last-second ps qs v h) refl

  pub last-first : (ps qs : Pairs) → last_pair key qs ≡ None → last_pair key (ps ++ qs) ≡ last_pair key ps
  last-first [] qs h = h
  last-first (p ∷ ps) qs h = rw (last-first ps qs h) refl

  module _ (ps : Pairs) (i : ℕ) (p : Text × Value) (some : 0 < i) (within : i ≤ length ps) (is : p ≡ get_or ps (i - 1) p) (known : last_pair key ps ≡ last_pair key (take i ps)) where
    front : take i ps ≡ take (i - 1) ps ++ p ∷ []
    front =
        (let e : i ≡ i - 1 + 1 = omega arith in ap (λ n. take n ps) e)
        ∙ take_more ps (i - 1) p (omega arith) ∙ (λ k. take (i - 1) ps ++ sym is k ∷ [])

    -- the pair before this place has the name, and it has not
    pub last-found : same p.0 key ≡ true → Some p.1 ≡ last_pair key ps
    last-found h = sym (known ∙ ap (last_pair key) front ∙ last-this (take (i - 1) ps) p h)

    pub last-passed : same p.0 key ≡ false → last_pair key ps ≡ last_pair key (take (i - 1) ps)
    last-passed h = known ∙ ap (last_pair key) front ∙ last-before (take (i - 1) ps) p h

-- the name of a number, among the names of all
pub name-in-of : (all : List Automation) (a : ℕ) → name_in (names_of all) a ≡ name_of all a
name-in-of [] a = refl
name-in-of (x ∷ all) zero = refl
name-in-of (x ∷ all) (suc a) = name-in-of all a
