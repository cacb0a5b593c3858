-- `same_value` tells whether two values are equal.
use Rattle.std.proofs.Common.{◌≡◌, List, [], ◌∷◌, ◌&&◌, map, Bool, true, false, refl, sym, ap, subst, ◌∙◌, rules}
use Rattle.std.specs.Prelude.{ℤ, pos, negsuc, IsTrue, ◌↔◌}
use Rattle.std.proofs.lemmas.Bool.{eqb-true}
use Rattle.std.proofs.lemmas.Slice.Eq.{bytes_eq-Decides}
use Rattle.ha_value.specs.declared.value.Num.{Num}
use Rattle.ha_value.specs.declared.value.Value.{Value}
use Rattle.ha_value.specs.declared.value.Value.TheOpen.{Value-F}
use Rattle.ha_value.specs.declared.value.Value.TheViews.{out-Value, roll-Value, roll-out-Value, out-roll-Value}
use Rattle.ha_value.specs.declared.value.Value.TheFolds.{ind-Value, map-Value}
use Rattle.ha_value.specs.declared.value.EntityId.{EntityId}
use Rattle.ha_config.specs.Words.{Text, Pairs, same, same_entity}
use Rattle.ha_config.specs.Equal.{same_value, same_layer, same_flag, same_num, each_same, each_pair_same, same_pairs}
use Rattle.ha_config.specs.Numbers.{same_int}
use Rattle.ha_config.proofs.ValueRolls.{same_value-roll}

pub and_left : (a b : Bool) → (a && b) ≡ true → a ≡ true
and_left true b h = refl
and_left false b h = cc

pub and_right : (a b : Bool) → (a && b) ≡ true → b ≡ true
and_right true b h = h
and_right false b h = cc

pub same-sound : (a b : Text) → same a b ≡ true → a ≡ b
same-sound a b h = search (rules, bytes_eq-Decides)

pub same-refl : (a : Text) → same a a ≡ true
same-refl a = search (rules, bytes_eq-Decides)

flag-sound : (a b : Bool) → same_flag a b ≡ true → a ≡ b
flag-sound true true h = refl
flag-sound true false h = cc
flag-sound false true h = cc
flag-sound false false h = refl

int-sound : (a b : ℤ) → same_int a b ≡ true → a ≡ b
int-sound (pos a) (pos b) h = ap pos (eqb-true a b h)
int-sound (pos a) (negsuc b) h = cc
int-sound (negsuc a) (pos b) h = cc
int-sound (negsuc a) (negsuc b) h = ap negsuc (eqb-true a b h)

num-sound : (a b : Num) → same_num a b ≡ true → a ≡ b
num-sound (Num.Whole a) (Num.Whole b) h = ap (λ z. Num.Whole z) (int-sound a b h)
num-sound (Num.Whole a) (Num.Fixed b) h = cc
num-sound (Num.Fixed a) (Num.Whole b) h = cc
num-sound (Num.Fixed a) (Num.Fixed b) h = ap (λ z. Num.Fixed z) (int-sound a b h)

abbrev IsSound : Value → Type 0
IsSound v = (w : Value) → same_value v w ≡ true → v ≡ w

abbrev Sound : Type 0
Sound = (v : Value) × IsSound v

items-sound : (ys : List Sound) (ws : List Value) → each_same (map same_value (map (λ e. e.0) ys)) ws ≡ true → map (λ e. e.0) ys ≡ ws
items-sound [] [] h = refl
items-sound [] (w ∷ ws) h = cc
items-sound (y ∷ ys) [] h = cc
items-sound (y ∷ ys) (w ∷ ws) h =
    let here = y.1 w (and_left _ _ h) in
    let there = items-sound ys ws (and_right (same_value y.0 w) _ h) in cc

abbrev named : Text × Sound → Text × Value
named p = (p.0, p.1.0)

abbrev test_of : Text × Value → Text × (Value → Bool)
test_of p = (p.0, same_value p.1)

pairs-sound : (ys : List (Text × Sound)) (ws : Pairs) → each_pair_same (map test_of (map named ys)) ws ≡ true → map named ys ≡ ws
pairs-sound [] [] h = refl
pairs-sound [] (w ∷ ws) h = cc
pairs-sound (y ∷ ys) [] h = cc
pairs-sound (y ∷ ys) (w ∷ ws) h =
    let name = same-sound y.0 w.0 (and_left _ _ (and_left _ _ h)) in
    let here = y.1.1 w.1 (and_right (same y.0 w.0) _ (and_left _ _ h)) in
    let there = pairs-sound ys ws (and_right (same y.0 w.0 && same_value y.1.0 w.1) _ h) in
    let head : named y ≡ w = (λ i. (name i, here i)) in
    cc

abbrev below : Value-F Sound → Value-F Value
below = map-Value Sound Value (λ e. e.0)

layer-sound : (y : Value-F Sound) (z : Value-F Value) → same_layer (map-Value Value (Value → Bool) same_value (below y)) z ≡ true → below y ≡ z
layer-sound Value-F.Null Value-F.Null h = refl
layer-sound (Value-F.Flag a) (Value-F.Flag b) h = ap (λ v. Value-F.Flag v) (flag-sound a b h)
layer-sound (Value-F.Number a) (Value-F.Number b) h = ap (λ v. Value-F.Number v) (num-sound a b h)
layer-sound (Value-F.Text a) (Value-F.Text b) h = ap (λ v. Value-F.Text v) (same-sound a b h)
layer-sound (Value-F.Items a) (Value-F.Items b) h = ap (λ v. Value-F.Items v) (items-sound a b h)
layer-sound (Value-F.Pairs a) (Value-F.Pairs b) h = ap (λ v. Value-F.Pairs v) (pairs-sound a b h)
layer-sound y z h = cc

rolled-sound : (y : Value-F Sound) → IsSound (roll-Value (below y))
rolled-sound y w h = ap roll-Value (layer-sound y (out-Value w) (sym (same_value-roll (below y) w) ∙ h)) ∙ roll-out-Value w

pub same_value-sound : (v : Value) → IsSound v
same_value-sound = ind-Value IsSound (λ x y is. subst (λ z. IsSound (roll-Value z)) is (rolled-sound y))

pub same_pairs-sound : (a b : Pairs) → same_pairs a b ≡ true → a ≡ b
same_pairs-sound [] [] h = refl
same_pairs-sound [] (w ∷ ws) h = cc
same_pairs-sound (y ∷ ys) [] h = cc
same_pairs-sound (y ∷ ys) (w ∷ ws) h =
    let name = same-sound y.0 w.0 (and_left _ _ (and_left _ _ h)) in
    let here = same_value-sound y.1 w.1 (and_right (same y.0 w.0) _ (and_left _ _ h)) in
    let there = same_pairs-sound ys ws (and_right (same y.0 w.0 && same_value y.1 w.1) _ h) in
    let head : y ≡ w = (λ i. (name i, here i)) in
    cc

both : (a b : Bool) → a ≡ true → b ≡ true → (a && b) ≡ true
both true true p q = refl
both true false p q = q
both false b p q = p

flag-refl : (a : Bool) → same_flag a a ≡ true
flag-refl true = refl
flag-refl false = refl

int-refl : (a : ℤ) → same_int a a ≡ true
int-refl (pos a) = search rules
int-refl (negsuc a) = search rules

num-refl : (a : Num) → same_num a a ≡ true
num-refl (Num.Whole a) = int-refl a
num-refl (Num.Fixed a) = int-refl a

abbrev IsSame : Value → Type 0
IsSame v = same_value v v ≡ true

abbrev Same : Type 0
Same = (v : Value) × IsSame v

items-refl : (ys : List Same) → each_same (map same_value (map (λ e. e.0) ys)) (map (λ e. e.0) ys) ≡ true
items-refl [] = refl
items-refl (y ∷ ys) = both _ _ y.1 (items-refl ys)

abbrev named_same : Text × Same → Text × Value
named_same p = (p.0, p.1.0)

pairs-refl : (ys : List (Text × Same)) → each_pair_same (map test_of (map named_same ys)) (map named_same ys) ≡ true
pairs-refl [] = refl
pairs-refl (y ∷ ys) = both _ _ (both _ _ (same-refl y.0) y.1.1) (pairs-refl ys)

layer-refl : (y : Value-F Same) → same_layer (map-Value Value (Value → Bool) same_value (map-Value Same Value (λ e. e.0) y)) (map-Value Same Value (λ e. e.0) y) ≡ true
layer-refl Value-F.Null = refl
layer-refl (Value-F.Flag a) = flag-refl a
layer-refl (Value-F.Number a) = num-refl a
layer-refl (Value-F.Text a) = same-refl a
layer-refl (Value-F.Items a) = items-refl a
layer-refl (Value-F.Pairs a) = pairs-refl a

rolled-refl : (y : Value-F Same) → IsSame (roll-Value (map-Value Same Value (λ e. e.0) y))
rolled-refl y =
    let x = map-Value Same Value (λ e. e.0) y in
    same_value-roll x (roll-Value x) ∙ ap (same_layer (map-Value Value (Value → Bool) same_value x)) (out-roll-Value x) ∙ layer-refl y

pub same_value-refl : (v : Value) → IsSame v
same_value-refl = ind-Value IsSame (λ x y is. subst (λ z. IsSame (roll-Value z)) is (rolled-refl y))

pub same_pairs-refl : (a : Pairs) → same_pairs a a ≡ true
same_pairs-refl [] = refl
same_pairs-refl (y ∷ ys) = both _ _ (both _ _ (same-refl y.0) (same_value-refl y.1)) (same_pairs-refl ys)

-- two tests of one fact agree
pub decided : {P : Type 0} (r b : Bool) → (IsTrue r ↔ P) → (b ≡ true → P) → (P → b ≡ true) → r ≡ b
decided true true h f g = refl
decided true false h f g = sym (g (h.0 refl))
decided false true h f g = h.1 (f refl)
decided false false h f g = refl

pub same_pairs-along : (a b : Pairs) → a ≡ b → same_pairs a b ≡ true
same_pairs-along a b e = subst (λ x. same_pairs a x ≡ true) e (same_pairs-refl a)

pub entity-sound : (a b : EntityId) → same_entity a b ≡ true → a ≡ b
entity-sound a b h =
    let d = same-sound a.domain b.domain (and_left _ _ h) in
    let o = same-sound a.object b.object (and_right (same a.domain b.domain) _ h) in
    (λ i. record { domain = d i; object = o i })

pub entity-refl : (a : EntityId) → same_entity a a ≡ true
entity-refl a = both _ _ (same-refl a.domain) (same-refl a.object)

pub entity-along : (a b : EntityId) → a ≡ b → same_entity a b ≡ true
entity-along a b e = subst (λ (x : EntityId). same_entity a x ≡ true) e (entity-refl a)
