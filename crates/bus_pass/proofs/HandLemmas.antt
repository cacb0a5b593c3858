-- Of a list of hands, one at each port, and of options.
use Rattle.std.proofs.Common.{◌≡◌, ◌≢◌, ℕ, zero, suc, ◌==◌, ◌<◌, ◌⊎◌, Bool, cond, List, [], ◌∷◌, ◌++◌, length, set, Option, Some, None, sym, refl, ap, ◌∙◌, subst, inl, inr, ⊎_elim, arith}
use Rattle.std.specs.Prelude.{IsSomeAnd}
use Rattle.std.proofs.lemmas.Bool.Decides.{eqb_tells}
use mathlib.Core.Option.{some, some-injective, some-ne-none}
use mathlib.Core.Option as maybe
use lib.ListN.{get_elem?}
use Rattle.atomic_table.proofs.Lists.{at_set}
use Rattle.ha_journal.specs.declared.entry.Entry.{Entry}
use Rattle.bus_turn.specs.declared.fault.BusFault.{BusFault}
use Rattle.bus_pass.specs.Rule.{heard_by}
use Rattle.bus_pass.specs.declared.hand.Hand.{Hand}

abbrev pub Every : (ℕ → Hand → Type 0) → List Hand → Type 0
Every F views = (port : ℕ) (v : Hand) → get_elem? views port ≡ some v → F port v

pub every_set : (F : ℕ → Hand → Type 0) (views : List Hand) (port : ℕ) (w : Hand) → F port w → ((j : ℕ) (u : Hand) → j ≢ port → get_elem? views j ≡ some u → F j u) → Every F (set views port w)
every_set F views port w mine others j u e = ⊎_elim (λ (x : (j ≡ port) × (w ≡ u)). subst (λ (y : ℕ × Hand). F y.0 y.1) (λ i. (sym x.0 i, x.1 i)) mine)
    (λ (x : (j ≢ port) × (get_elem? views j ≡ some u)). others j u x.0 x.1) (at_set views port j w u e)

pub at_end : (l : List Hand) (a b : Hand) (j : ℕ) → get_elem? l j ≢ some b → get_elem? (l ++ a ∷ []) j ≡ some b → j ≡ length l
at_end [] a b zero n e = refl
at_end [] a b (suc j) n e = absurd (some-ne-none b (sym e))
at_end (x ∷ xs) a b zero n e = absurd (n e)
at_end (x ∷ xs) a b (suc j) n e = ap suc (at_end xs a b j n e)

-- the number of a view that is there is below the number of views
pub below : (l : List Hand) (a : Hand) (j : ℕ) → get_elem? l j ≡ some a → j < length l
below [] a j e = absurd (some-ne-none a (sym e))
below (x ∷ xs) a zero e = omega arith
below (x ∷ xs) a (suc j) e = omega (arith, below xs a j e)

pub some_none : {A B : Type 0} (a : A) → Some a ≡ None → B
some_none a e = absurd (cc)

pub some_same : {A : Type 0} {a b : A} → Some a ≡ Some b → a ≡ b
some_same e = cc

pub cons_nil : {A B : Type 0} {a : A} {rest : List A} → a ∷ rest ≡ [] → B
cons_nil e = absurd (cc)

pub rests : {holder : maybe.Option ℕ} {port : ℕ} (v : Hand) (old : List Entry) → v.taken ≡ Some old → (v.taken ≡ None) ⊎ (holder ≡ some port) → holder ≡ some port
rests v old is h = ⊎_elim (λ a. some_none old (sym is ∙ a)) (λ b. b) h

pub moves : (a b x y : ℕ) → ((a ≡ b) × (cond (a == b) x y ≡ x)) ⊎ ((a ≢ b) × (cond (a == b) x y ≡ y))
moves a b x y = ⊎_elim (λ t. inl (t.1, ap (λ (c : Bool). cond c x y) t.0)) (λ t. inr (t.1, ap (λ (c : Bool). cond c x y) t.0)) (eqb_tells a b)

pub moved : (a b x y : ℕ) → a ≡ b → cond (a == b) x y ≡ x
moved a b x y e = ⊎_elim (λ t. t.1) (λ t. absurd (t.0 e)) (moves a b x y)

pub stayed : (a b x y : ℕ) → a ≢ b → cond (a == b) x y ≡ y
stayed a b x y n = ⊎_elim (λ t. absurd (n t.0)) (λ t. t.1) (moves a b x y)

pub at_snoc_place : (l : List Hand) (a b : Hand) (j : ℕ) → get_elem? (l ++ a ∷ []) j ≡ some b → (get_elem? l j ≡ some b) ⊎ ((j ≡ length l) × (a ≡ b))
at_snoc_place [] a b zero e = inr (refl, some-injective a b e)
at_snoc_place [] a b (suc j) e = absurd (some-ne-none b (sym e))
at_snoc_place (x ∷ xs) a b zero e = inl e
at_snoc_place (x ∷ xs) a b (suc j) e = ⊎_elim (λ t. inl t) (λ t. inr (ap suc t.0, t.1)) (at_snoc_place xs a b j e)

-- ---- options

pub some_and : {A : Type 0} (P : A → Type 0) (o : Option A) → IsSomeAnd o P → (a : A) × (o ≡ Some a) × P a
some_and P None h = absurd h
some_and P (Some a) h = (a, refl, h)

pub never : {A B : Type 0} (a : A) → None ≡ Some a → B
never a e = absurd (cc)

pub heard_either : (a b : Option BusFault) (f : BusFault) → heard_by a b ≡ Some f → (a ≡ Some f) ⊎ (b ≡ Some f)
heard_either None b f e = inr e
heard_either (Some g) b f e = inl e
