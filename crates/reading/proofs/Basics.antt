-- What a rule that did not fail gives, and what a rule is to a spelling.
use Rattle.std.proofs.Common.{◌≡◌, ◌<◌, Bool, true, false, cond, ◌⊎◌, List, length, Ok, Err, refl, ap, subst, inl, inr}
use Rattle.reading.specs.declared.fault.Bad.{Bad}
use Rattle.reading.specs.declared.fault.Stop.{Stop}
use Rattle.reading.specs.declared.fault.Stop.TheVariants as stops
use Rattle.reading.specs.Answer.{◌>>=◌, Answer, Rule, Gives, made, stop}

-- the value of a step that did not fail
pub bind_ok : {T F A B : Type 0} (r : Answer T F A) (f : A × List T → Answer T F B) (y : B × List T) → (r >>= f) ≡ Ok y → (x : A × List T) × (r ≡ Ok x) × (f x ≡ Ok y)
bind_ok (Ok x) f y e = (x, refl, e)
bind_ok (Err d) f y e = absurd cc

abbrev pub done : {T F A : Type 0} → A × List T → Answer T F A
done x = Ok x

abbrev pub bad : {T F A : Type 0} → F → Answer T F A
bad f = Err f

ok_is : {T F A : Type 0} (x y : A × List T) → done {F = F} x ≡ done y → x ≡ y
ok_is x y e = cc

-- the parts of two equal answers
pub ok_parts : {T F A : Type 0} (x y : A × List T) → done {F = F} x ≡ done y → (x.0 ≡ y.0) × (x.1 ≡ y.1)
ok_parts {T} {F} {A} x y e = (ap (λ (p : A × List T). p.0) (ok_is x y e), ap (λ (p : A × List T). p.1) (ok_is x y e))

pub made_ok : {T F A B : Type 0} (f : A → B) (r : Answer T F A) (y : B) (rest : List T) → made f r ≡ Ok (y, rest) → (x : A) × (r ≡ Ok (x, rest)) × (f x ≡ y)
made_ok {T} {F} f (Ok x) y rest e = let p = ok_parts {F = F} (f x.0, x.1) (y, rest) e in (x.0, ap (λ (r : List T). done (x.0, r)) p.1, p.0)
made_ok f (Err d) y rest e = absurd cc

err_is : {T F A : Type 0} (f g : F) → bad {T = T} {A = A} f ≡ bad g → f ≡ g
err_is f g e = cc

-- where a fault of two steps comes from
pub bind_err : {T F A B : Type 0} (r : Answer T F A) (q : A × List T → Answer T F B) (f : F) → (r >>= q) ≡ Err f → (r ≡ Err f) ⊎ ((x : A × List T) × (r ≡ Ok x) × (q x ≡ Err f))
bind_err (Ok x) q f e = inr (x, refl, e)
bind_err {T} {F} {B = B} (Err g) q f e = inl (ap (λ (b : F). bad b) (err_is {T = T} {A = B} g f e))

pub made_err : {T F A B : Type 0} (m : A → B) (r : Answer T F A) (f : F) → made m r ≡ Err f → r ≡ Err f
made_err m (Ok x) f e = absurd cc
made_err {T} {F} {B = B} m (Err g) f e = ap (λ (b : F). bad b) (err_is {T = T} {A = B} g f e)

pub stop_left : {T C A : Type 0} (c : C) (t : List T) (f : Bad C) → stop {A = A} c t ≡ Err f → f.left ≡ length t
stop_left {T} {C} {A} c t f e = ap (λ (b : Bad C). b.left) (sym (err_is {T = T} {A = A} (record { left = length t; code = c }) f e)) where
  sym : {X : Type 0} {x y : X} → x ≡ y → y ≡ x
  sym {X} {x} {y} p = subst (λ (z : X). z ≡ x) p refl

pub chosen_is : (b : Bool) → (b ≡ true) ⊎ (b ≡ false)
chosen_is true = inl refl
chosen_is false = inr refl

-- a test that did not fail
pub chosen : {A : Type 0} (b : Bool) (x y z : A) → cond b x y ≡ z → ((b ≡ true) × (x ≡ z)) ⊎ ((b ≡ false) × (y ≡ z))
chosen true x y z e = inl (refl, e)
chosen false x y z e = inr (refl, e)

-- what a method gave that stopped at a fault
pub given_fault : {T F A : Type 0} (answer : Answer T F A) (new : List T) (s : Stop F) (f : F) → s ≡ stops.Fault f → Gives {A = A} answer (Err s) new → answer ≡ Err f
given_fault {T} {F} {A} answer new s f e given = subst (λ (x : Stop F). Gives {A = A} answer (Err x) new) e given

-- ---- a rule and a spelling

-- what is read is spelled so
unfoldable pub Sound : {T F A : Type 0} → Rule T F A → (List T → A → List T → Type 0) → Type 0
Sound {T} {F} {A} rule Spelling = (t : List T) (x : A) (rest : List T) → rule t ≡ Ok (x, rest) → Spelling t x rest

-- what is spelled so is read
unfoldable pub Complete : {T F A : Type 0} → Rule T F A → (List T → A → List T → Type 0) → Type 0
Complete {T} {F} {A} rule Spelling = (t : List T) (x : A) (rest : List T) → Spelling t x rest → rule t ≡ Ok (x, rest)

-- a spelling has a token at least
unfoldable pub Longer : {T A : Type 0} → (List T → A → List T → Type 0) → Type 0
Longer {T} {A} Spelling = (t : List T) (x : A) (rest : List T) → Spelling t x rest → length rest < length t

-- what is read has a token at least
abbrev pub IsShorter : {T F A : Type 0} → Rule T F A → Type 0
IsShorter {T} {F} {A} rule = (t : List T) (x : A) (rest : List T) → rule t ≡ Ok (x, rest) → length rest < length t
