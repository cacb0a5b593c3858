-- The order of faults, and the least of three.
use Rattle.std.proofs.Common.{◌≡◌, ℕ, ◌≤◌, ◌<◌, Bool, true, false, cond, ◌||◌, ◌&&◌, ◌⊎◌, inl, inr, Option, Some, None, refl, sym, ap, subst, ◌∙◌, arith}
use Rattle.std.specs.Prelude.{◌==◌, nat_lt, if◌then◌else◌}
use Rattle.std.proofs.lemmas.Bool.{ltb-true, ltb-false, eqb-true, eq-eqb}
use Rattle.yaml_scan.specs.declared.fault.Fault.{Fault}
use Rattle.yaml_scan.specs.declared.fault.Code.{Code}
use Rattle.yaml_scan.specs.declared.fault.Code.TheVariants as codes
use Rattle.yaml_scan.specs.Codes.{number_of}
use Rattle.yaml_scan.specs.Lines.{least}
use Rattle.yaml_laws.specs.Refused.{NoLater}

pub tested : (b : Bool) → (b ≡ true) ⊎ (b ≡ false)
tested true = inl refl
tested false = inr refl

pub less_or_same : (m n : ℕ) → m ≤ n → (m < n) ⊎ (m ≡ n)
less_or_same m n le = elim (tested (nat_lt m n)) [
  | inl h ↦ inl (ltb-true m n h)
  | inr h ↦ inr (let ge = ltb-false m n h in omega (arith, le, ge))
]

pub no_later_itself : (f : Fault) → NoLater f f
no_later_itself f = inr (refl, omega arith)

pub no_later_than : (f g h : Fault) → NoLater f g → NoLater g h → NoLater f h
no_later_than f g h (inl p) (inl q) = inl (omega (arith, p, q))
no_later_than f g h (inl p) (inr q) = let e = q.0 in inl (omega (arith, p, e))
no_later_than f g h (inr p) (inl q) = let e = p.0 in inl (omega (arith, e, q))
no_later_than f g h (inr p) (inr q) = let e = p.0 in let e' = q.0 in let c = p.1 in let c' = q.1 in inr (omega (arith, e, e'), omega (arith, c, c'))

-- ---- the number of a code tells it

code_of : ℕ → Code
code_of n =
    if n == 1 then codes.Tab else (if n == 2 then codes.Structure else (if n == 3 then codes.LeftOut else (if n == 4 then codes.RepeatedKey else
    (if n == 5 then codes.UnknownKey else (if n == 6 then codes.MissingKey else (if n == 7 then codes.Kind else (if n == 8 then codes.EntityId else
    (if n == 9 then codes.Time else (if n == 10 then codes.Number else (if n == 11 then codes.Template else (if n == 12 then codes.Limit else
    (if n == 13 then codes.NotUtf8 else codes.UnknownKind))))))))))))

told_by : (c : Code) → code_of (number_of c) ≡ c
unfolding code_of
told_by codes.Tab = refl
told_by codes.Structure = refl
told_by codes.LeftOut = refl
told_by codes.RepeatedKey = refl
told_by codes.UnknownKey = refl
told_by codes.MissingKey = refl
told_by codes.Kind = refl
told_by codes.EntityId = refl
told_by codes.Time = refl
told_by codes.Number = refl
told_by codes.Template = refl
told_by codes.Limit = refl
told_by codes.NotUtf8 = refl
told_by codes.UnknownKind = refl

pub same_code : (c d : Code) → number_of c ≡ number_of d → c ≡ d
same_code c d e = sym (told_by c) ∙ ap code_of e ∙ told_by d

fault_is : (f g : Fault) → f.line ≡ g.line → f.code ≡ g.code → f ≡ g
fault_is f g e e' = rw (e, e') refl

pub both_no_later : (f g : Fault) → NoLater f g → NoLater g f → f ≡ g
both_no_later f g (inl p) (inl q) = absurd (omega (arith, p, q))
both_no_later f g (inl p) (inr q) = absurd (let e = q.0 in omega (arith, p, e))
both_no_later f g (inr p) (inl q) = absurd (let e = p.0 in omega (arith, e, q))
both_no_later f g (inr p) (inr q) = fault_is f g p.0 (same_code f.code g.code (let c = p.1 in let c' = q.1 in omega (arith, c, c')))

-- ---- the least

abbrev later_test : Fault → Fault → Bool
later_test f g = nat_lt g.line f.line || (g.line == f.line && nat_lt (number_of g.code) (number_of f.code))

and_parts : (a b : Bool) → (a && b) ≡ true → (a ≡ true) × (b ≡ true)
and_parts true true e = (refl, refl)
and_parts true false e = absurd cc
and_parts false b e = absurd cc

test_true : (f g : Fault) → later_test f g ≡ true → NoLater g f
test_true f g e =
    elim (tested (nat_lt g.line f.line)) [
      | inl h ↦ inl (ltb-true g.line f.line h)
      | inr h ↦
          let p = and_parts (g.line == f.line) (nat_lt (number_of g.code) (number_of f.code)) (rw h at e) in
          let c = ltb-true (number_of g.code) (number_of f.code) p.1 in
          inr (eqb-true g.line f.line p.0, omega (arith, c))
    ]

test_false : (f g : Fault) → later_test f g ≡ false → NoLater f g
test_false f g e =
    elim (tested (nat_lt g.line f.line)) [
      | inl h ↦ absurd (let q : true ≡ false = sym (rw h refl) ∙ e in cc)
      | inr h ↦ elim (tested (g.line == f.line)) [
        | inl k ↦
            let e' : nat_lt (number_of g.code) (number_of f.code) ≡ false = rw (h, k) at e in
            inr (sym (eqb-true g.line f.line k), ltb-false (number_of g.code) (number_of f.code) e')
        | inr k ↦
            let le = ltb-false g.line f.line h in
            inl (elim (less_or_same f.line g.line le) [
              | inl lt ↦ lt
              | inr same ↦ absurd (let q : true ≡ false = sym (eq-eqb g.line f.line (sym same)) ∙ k in cc)
            ])
      ]
    ]

pub least_in : (x y : Option Fault) (f : Fault) → least x y ≡ Some f → (x ≡ Some f) ⊎ (y ≡ Some f)
least_in None y f e = inr e
least_in (Some g) None f e = inl e
least_in (Some g) (Some h) f e = by (later_test g h) e
  where
    by : (b : Bool) → cond b (Some h) (Some g) ≡ Some f → (Some g ≡ Some f) ⊎ (Some h ≡ Some f)
    by true e = inr e
    by false e = inl e

some_is : (f g : Fault) → Some f ≡ Some g → f ≡ g
some_is f g e = cc

pub least_left : (x y : Option Fault) (f g : Fault) → least x y ≡ Some f → x ≡ Some g → NoLater f g
least_left None y f g e i = absurd cc
least_left (Some a) None f g e i = subst (λ (z : Fault). NoLater f z) (some_is f g (sym e ∙ i)) (no_later_itself f)
least_left (Some a) (Some b) f g e i =
    subst (λ (z : Fault). NoLater f z) (some_is a g i) (elim (tested (later_test a b)) [
      | inl h ↦ subst (λ (z : Fault). NoLater z a) (some_is b f (rw h at e)) (test_true a b h)
      | inr h ↦ subst (λ (z : Fault). NoLater z a) (some_is a f (rw h at e)) (no_later_itself a)
    ])

pub least_right : (x y : Option Fault) (f g : Fault) → least x y ≡ Some f → y ≡ Some g → NoLater f g
least_right None y f g e i = subst (λ (z : Fault). NoLater f z) (some_is f g (sym e ∙ i)) (no_later_itself f)
least_right (Some a) None f g e i = absurd cc
least_right (Some a) (Some b) f g e i =
    subst (λ (z : Fault). NoLater f z) (some_is b g i) (elim (tested (later_test a b)) [
      | inl h ↦ subst (λ (z : Fault). NoLater z b) (some_is b f (rw h at e)) (no_later_itself b)
      | inr h ↦ subst (λ (z : Fault). NoLater z b) (some_is a f (rw h at e)) (test_false a b h)
    ])

pub least_some : (x y : Option Fault) (g : Fault) → (x ≡ Some g) ⊎ (y ≡ Some g) → (f : Fault) × (least x y ≡ Some f)
least_some None None g (inl e) = absurd cc
least_some None None g (inr e) = absurd cc
least_some None (Some h) g e = (h, refl)
least_some (Some a) None g e = (a, refl)
least_some (Some a) (Some b) g e = by (later_test a b)
  where
    by : (c : Bool) → (f : Fault) × (cond c (Some b) (Some a) ≡ Some f)
    by true = (b, refl)
    by false = (a, refl)

pub is_structure : (c : Code) → (c ≡ codes.Structure) ⊎ (c ≡ codes.Structure → ⊥)
is_structure c = elim (tested (number_of c == 2)) [
  | inl h ↦ inl (same_code c codes.Structure (eqb-true (number_of c) 2 h))
  | inr h ↦ inr (λ e. let q : true ≡ false = sym (eq-eqb (number_of c) 2 (ap number_of e)) ∙ h in cc)
]
