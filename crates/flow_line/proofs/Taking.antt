-- A key's value by its place, and the other keys' values where it is changed.
use Rattle.std.proofs.Common.{◌≡◌, ℕ, zero, suc, ◌+◌, ◌≤◌, Bool, true, false, not, cond, [], ◌∷◌, length, Option, Some, None, refl, sym, ap, subst, ◌∙◌, arith}
use Rattle.std.specs.Prelude.{nat_lt, position, slice_get, slice_set, option_map}
use Rattle.std.specs.List.{position_or_len}
use Rattle.std.proofs.lemmas.Bool.{ltb-false}
use Rattle.std.proofs.lemmas.Option.{slice_get_past}
use Rattle.std.proofs.lemmas.Slice.Eq.{bytes_eq-Decides}
use Rattle.ha_value.specs.declared.value.Value.{Value}
use Rattle.ha_config.specs.Words.{Text, Pairs, same, first_pair}

abbrev place : Text → Pairs → ℕ
place key ps = position_or_len (λ (p : Text × Value). same p.0 key) ps

next : (n : ℕ) → suc n ≡ 1 + n
next n = omega arith

first_at : (key : Text) (ps : Pairs) → first_pair key ps ≡ option_map (λ (p : Text × Value). p.1) (slice_get ps (place key ps))
first_at key [] = refl
first_at key (p ∷ ps) =
    elim (same p.0 key) as (λ b. cond b (Some p.1) (first_pair key ps) ≡ option_map (λ (q : Text × Value). q.1) (slice_get (p ∷ ps) (cond (not b) (1 + place key ps) 0))) [
      | true ↦ refl
      | false ↦ first_at key ps ∙ ap (λ (n : ℕ). option_map (λ (q : Text × Value). q.1) (slice_get (p ∷ ps) n)) (next (place key ps))
    ]

-- what stands at the place of a key has that key
has_it : (key : Text) (ps : Pairs) (x : Text × Value) → slice_get ps (place key ps) ≡ Some x → same x.0 key ≡ true
has_it key [] x g = absurd cc
has_it key (p ∷ ps) x g =
    (elim (same p.0 key) as (λ b. same p.0 key ≡ b → slice_get (p ∷ ps) (cond (not b) (1 + place key ps) 0) ≡ Some x → same x.0 key ≡ true) [
      | true ↦ λ e h. let is : p ≡ x = cc in ap (λ (q : Text × Value). same q.0 key) (sym is) ∙ e
      | false ↦ λ e h. has_it key ps x (ap (λ (n : ℕ). slice_get (p ∷ ps) n) (next (place key ps)) ∙ h)
    ]) refl g

at_of : (b : Bool) (n i : ℕ) → Some i ≡ cond b (Some n) None → n ≡ i
at_of true n i e = cc
at_of false n i e = cc

past_of : (b : Bool) (n : ℕ) → None ≡ cond b (Some n) None → b ≡ false
past_of true n e = cc
past_of false n e = refl

-- a key that is missing
pub absent : (key : Text) (ps : Pairs) → None ≡ position (λ (p : Text × Value). same p.0 key) ps → None ≡ first_pair key ps
absent key ps e =
    let past : length ps ≤ place key ps = ltb-false (place key ps) (length ps) (past_of (nat_lt (place key ps) (length ps)) (place key ps) e) in
    sym (first_at key ps ∙ ap (option_map (λ (p : Text × Value). p.1)) (slice_get_past ps (place key ps) past))

-- a key that is there
pub present : (key : Text) (ps : Pairs) (i : ℕ) (x : Text × Value) → Some i ≡ position (λ (p : Text × Value). same p.0 key) ps → slice_get ps i ≡ Some x
    → Some x.1 ≡ first_pair key ps
present key ps i x e g =
    let at = at_of (nat_lt (place key ps) (length ps)) (place key ps) i e in
    sym (first_at key ps ∙ ap (λ (n : ℕ). option_map (λ (p : Text × Value). p.1) (slice_get ps n)) at ∙ ap (option_map (λ (p : Text × Value). p.1)) g)

first_set : (k : Text) (ps : Pairs) (i : ℕ) (x : Text × Value) (v : Value) → slice_get ps i ≡ Some x → same x.0 k ≡ false
    → first_pair k (slice_set ps i (x.0, v)) ≡ first_pair k ps
first_set k [] i x v g apart = refl
first_set k (p ∷ ps) zero x v g apart =
    let is : p ≡ x = cc in
    ap (λ (b : Bool). cond b (Some v) (first_pair k ps)) apart ∙ ap (λ (b : Bool). cond b (Some p.1) (first_pair k ps)) (sym (ap (λ (q : Text × Value). same q.0 k) is ∙ apart))
first_set k (p ∷ ps) (suc i) x v g apart = ap (λ (r : Option Value). cond (same p.0 k) (Some p.1) r) (first_set k ps i x v g apart)

-- the value of another key stays where one is changed
pub beside : (k j : Text) (ps : Pairs) (i : ℕ) (x : Text × Value) (v : Value) → Some i ≡ position (λ (p : Text × Value). same p.0 j) ps → slice_get ps i ≡ Some x
    → same j k ≡ false → first_pair k (slice_set ps i (x.0, v)) ≡ first_pair k ps
beside k j ps i x v e g apart =
    let at = at_of (nat_lt (place j ps) (length ps)) (place j ps) i e in
    let own = has_it j ps x (ap (λ (n : ℕ). slice_get ps n) at ∙ g) in
    first_set k ps i x v g (subst (λ (u : Text). same u k ≡ false) (sym ((bytes_eq-Decides x.0 j).0 own)) apart)
