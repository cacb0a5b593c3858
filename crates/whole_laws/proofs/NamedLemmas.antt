-- A list of pairs in the order of their names has the same value for each name.
use Rattle.std.proofs.Common.{◌≡◌, List, [], ◌∷◌, Bool, true, false, refl, sym, ◌∙◌}
use Rattle.std.specs.Prelude.{Some, None, if◌then◌else◌}
use Rattle.ha_config.specs.Words.{Text, same, comes_before}
use Rattle.ha_whole.specs.Named.{in_name_order, named, placed_by_name}
use Rattle.ha_config.proofs.EqualLemmas.{same-refl, same-sound}
use Rattle.ha_config.proofs.ListLemmas.{none-some}
use Rattle.whole_laws.specs.Apart.{AreApart}

-- the name of one is not that of the other
not-both : {X : Type 0} (p q : Text × X) (qs : List (Text × X)) (name : Text) → named p.0 (q ∷ qs) ≡ None → same q.0 name ≡ true → same p.0 name ≡ true → ⊥
not-both p q qs name h is_q is_p =
    let e : q.0 ≡ p.0 = same-sound q.0 name is_q ∙ sym (same-sound p.0 name is_p) in
    none-some q.1 (sym h ∙ (λ i. if same (e i) p.0 then Some q.1 else named p.0 qs) ∙ (λ i. if same-refl p.0 i then Some q.1 else named p.0 qs))

named-behind : {X : Type 0} (p q : Text × X) (qs : List (Text × X)) → named p.0 (q ∷ qs) ≡ None → named p.0 qs ≡ None
named-behind p q qs h = by (same q.0 p.0) h
  where
    by : (b : Bool) → (if b then Some q.1 else named p.0 qs) ≡ None → named p.0 qs ≡ None
    by true h = absurd (none-some q.1 (sym h))
    by false h = h

named-placed : {X : Type 0} (p : Text × X) (qs : List (Text × X)) (name : Text) → named p.0 qs ≡ None → named name (placed_by_name p qs) ≡ (if same p.0 name then Some p.1 else named name qs)
named-placed p [] name h = refl
named-placed p (q ∷ qs) name h = by (comes_before p.0 q.0) (named-placed p qs name (named-behind p q qs h))
  where
    turn : (a b : Bool) → same p.0 name ≡ a → same q.0 name ≡ b → (if b then Some q.1 else (if a then Some p.1 else named name qs)) ≡ (if a then Some p.1 else (if b then Some q.1 else named name qs))
    turn true true x y = absurd (not-both p q qs name h y x)
    turn true false x y = refl
    turn false true x y = refl
    turn false false x y = refl

    by : (b : Bool) → named name (placed_by_name p qs) ≡ (if same p.0 name then Some p.1 else named name qs)
        → named name (if b then p ∷ q ∷ qs else q ∷ placed_by_name p qs) ≡ (if same p.0 name then Some p.1 else named name (q ∷ qs))
    by true rest = refl
    by false rest =
        (λ i. if same q.0 name then Some q.1 else rest i)
        ∙ turn (same p.0 name) (same q.0 name) refl refl

-- LAW: names that differ keep their values where the pairs are put in order
pub named-in-order : {X : Type 0} (ps : List (Text × X)) (name : Text) → AreApart ps → named name (in_name_order ps) ≡ named name ps
named-in-order [] name h = refl
named-in-order (p ∷ ps) name h =
    named-placed p (in_name_order ps) name (named-in-order ps p.0 h.1 ∙ h.0)
    ∙ (λ i. if same p.0 name then Some p.1 else named-in-order ps name h.1 i)
