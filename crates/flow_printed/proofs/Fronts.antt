-- What the first pair of a map is, where its value was taken.
use Rattle.std.proofs.Common.{◌≡◌, Bool, true, cond, [], ◌∷◌, drop, Option, Some, None, refl, sym, ap, ◌∙◌, inl, inr}
use Rattle.std.proofs.lemmas.Slice.Eq.{bytes_eq-Decides}
use Rattle.reading.proofs.Basics.{chosen}
use Rattle.ha_value.specs.declared.value.Value
use Rattle.ha_value.specs.declared.value.Value.{Value}
use Rattle.ha_value.specs.declared.value.Value.TheOpen.{Value-F}
use Rattle.ha_value.specs.declared.value.Value.TheViews.{out-Value, roll-Value, roll-out-Value}
use Rattle.ha_value.specs.declared.value.Value.TheVariants.{outs-Flag, outs-Pairs, outs-Text, rolls-Flag, rolls-Pairs, rolls-Text}
use Rattle.ha_config.specs.Words.{Text, Pairs, same}
use Rattle.flow_printed.specs.Map.{◌>>=◌, ended, flag_at, flag_in, front_value, map_at, map_in, text_at, text_in}

-- ---- steps that may give nothing

pub bound : {X Y : Type 0} (o : Option X) (f : X → Option Y) (y : Y) → (o >>= f) ≡ Some y → (x : X) × (o ≡ Some x) × (f x ≡ Some y)
bound None f y e = absurd cc
bound (Some x) f y e = (x, refl, e)

pub binds : {X Y : Type 0} (o : Option X) (f : X → Option Y) (x : X) (r : Option Y) → o ≡ Some x → f x ≡ r → (o >>= f) ≡ r
binds o f x r e h = ap (λ p. p >>= f) e ∙ h

pub some_is : {X : Type 0} (x y : X) → Some x ≡ Some y → x ≡ y
some_is x y e = cc

pub same_text : (t : Text) → same t t ≡ true
same_text t = (bytes_eq-Decides t t).1 refl

-- ---- what was taken

front_is : (key : Text) (ps : Pairs) (v : Value) → front_value key ps ≡ Some v → ps ≡ (key, v) ∷ drop 1 ps
front_is key [] v e = absurd cc
front_is key (p ∷ ps) v e = elim (chosen (same p.0 key) (Some p.1) None (Some v) e) [
  | inl h ↦ ap (λ (k : Text). (k, p.1) ∷ ps) ((bytes_eq-Decides p.0 key).0 h.0) ∙ ap (λ (w : Value). (key, w) ∷ ps) (some_is p.1 v h.1)
  | inr h ↦ absurd (let k = h.1 in cc)
]

value_is : (v : Value) (x : Value-F Value) (w : Value) → out-Value v ≡ x → roll-Value x ≡ w → v ≡ w
value_is v x w e is = sym (roll-out-Value v) ∙ ap roll-Value e ∙ is

text_layer : (x : Value-F Value) (t : Text) → text_in x ≡ Some t → x ≡ Value-F.Text t
text_layer (Value-F.Text u) t e = cc
text_layer Value-F.Null t e = absurd cc
text_layer (Value-F.Flag b) t e = absurd cc
text_layer (Value-F.Number n) t e = absurd cc
text_layer (Value-F.Items vs) t e = absurd cc
text_layer (Value-F.Pairs ps) t e = absurd cc

flag_layer : (x : Value-F Value) (b : Bool) → flag_in x ≡ Some b → x ≡ Value-F.Flag b
flag_layer (Value-F.Flag a) b e = cc
flag_layer Value-F.Null b e = absurd cc
flag_layer (Value-F.Text t) b e = absurd cc
flag_layer (Value-F.Number n) b e = absurd cc
flag_layer (Value-F.Items vs) b e = absurd cc
flag_layer (Value-F.Pairs ps) b e = absurd cc

map_layer : (x : Value-F Value) (a : Pairs) → map_in x ≡ Some a → x ≡ Value-F.Pairs a
map_layer (Value-F.Pairs ps) a e = cc
map_layer Value-F.Null a e = absurd cc
map_layer (Value-F.Flag b) a e = absurd cc
map_layer (Value-F.Number n) a e = absurd cc
map_layer (Value-F.Text t) a e = absurd cc
map_layer (Value-F.Items vs) a e = absurd cc

pub text_front : (key : Text) (ps : Pairs) (t : Text) → text_at key ps ≡ Some t → ps ≡ (key, Value.Text t) ∷ drop 1 ps
text_front key ps t e =
    let b = bound (front_value key ps) (λ v. text_in (out-Value v)) t e in
    front_is key ps b.0 b.1 ∙ ap (λ (v : Value). (key, v) ∷ drop 1 ps) (value_is b.0 (Value-F.Text t) (Value.Text t) (text_layer (out-Value b.0) t b.2) (rolls-Text t))

pub flag_front : (key : Text) (ps : Pairs) (f : Bool) → flag_at key ps ≡ Some f → ps ≡ (key, Value.Flag f) ∷ drop 1 ps
flag_front key ps f e =
    let b = bound (front_value key ps) (λ v. flag_in (out-Value v)) f e in
    front_is key ps b.0 b.1 ∙ ap (λ (v : Value). (key, v) ∷ drop 1 ps) (value_is b.0 (Value-F.Flag f) (Value.Flag f) (flag_layer (out-Value b.0) f b.2) (rolls-Flag f))

pub map_is : (v : Value) (a : Pairs) → map_in (out-Value v) ≡ Some a → v ≡ Value.Pairs a
map_is v a e = value_is v (Value-F.Pairs a) (Value.Pairs a) (map_layer (out-Value v) a e) (rolls-Pairs a)

pub map_front : (key : Text) (ps a : Pairs) → map_at key ps ≡ Some a → ps ≡ (key, Value.Pairs a) ∷ drop 1 ps
map_front key ps a e =
    let b = bound (front_value key ps) (λ v. map_in (out-Value v)) a e in
    front_is key ps b.0 b.1 ∙ ap (λ (v : Value). (key, v) ∷ drop 1 ps) (map_is b.0 a b.2)

pub none_left : (ps : Pairs) (u : Unit {0}) → ended ps ≡ Some u → ps ≡ []
none_left [] u e = refl
none_left (p ∷ ps) u e = absurd cc

-- ---- what is taken

front_found : (key : Text) (v : Value) (ps : Pairs) → front_value key ((key, v) ∷ ps) ≡ Some v
front_found key v ps = ap (λ (b : Bool). cond b (Some v) None) (same_text key)

pub text_taken : (key t : Text) (ps : Pairs) → text_at key ((key, Value.Text t) ∷ ps) ≡ Some t
text_taken key t ps = binds (front_value key ((key, Value.Text t) ∷ ps)) (λ v. text_in (out-Value v)) (Value.Text t) (Some t) (front_found key (Value.Text t) ps) (ap text_in (outs-Text t))

pub flag_taken : (key : Text) (f : Bool) (ps : Pairs) → flag_at key ((key, Value.Flag f) ∷ ps) ≡ Some f
flag_taken key f ps = binds (front_value key ((key, Value.Flag f) ∷ ps)) (λ v. flag_in (out-Value v)) (Value.Flag f) (Some f) (front_found key (Value.Flag f) ps) (ap flag_in (outs-Flag f))

pub map_taken : (key : Text) (a ps : Pairs) → map_at key ((key, Value.Pairs a) ∷ ps) ≡ Some a
map_taken key a ps = binds (front_value key ((key, Value.Pairs a) ∷ ps)) (λ v. map_in (out-Value v)) (Value.Pairs a) (Some a) (front_found key (Value.Pairs a) ps) (ap map_in (outs-Pairs a))
