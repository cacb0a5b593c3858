-- What a function gives in two sights that agree on what its first argument names.
use Rattle.std.proofs.Common.{◌≡◌, ap, ℕ, Bool, true, false, List, [], ◌∷◌, ◌++◌, refl, subst}
use Rattle.std.specs.Prelude.{Option, Some, None, not, ◌&&◌, ◌||◌, nat_eq, codes, option_map, option_and_then, option_to_list, unwrap_or, if◌then◌else◌}
use Rattle.std.specs.Option.{option_map_or}
use Rattle.ha_value.specs.declared.value.EntityId.{EntityId}
use Rattle.ha_value.specs.declared.value.Value.{Value}
use Rattle.ha_value.specs.declared.value.Value.TheOpen.{Value-F}
use Rattle.ha_value.specs.declared.value.Value.TheVariants.{Items, outs-Null, outs-Text, outs-Items}
use Rattle.ha_value.specs.declared.value.Value.TheViews.{out-Value}
use Rattle.ha_value.specs.Truth.{truth}
use Rattle.ha_value.specs.Ids.{read_entity}
use Rattle.ha_config.specs.Words.{Text, same, first_pair}
use Rattle.ha_config.specs.Equal.{equal_value}
use Rattle.ha_sight.specs.FunctionNumbers as function
use Rattle.ha_sight.specs.Sight.{Sight}
use Rattle.ha_sight.specs.Filters.{applied, attribute_is, attribute_of, attribute_or_null, by_count, extreme, function_one, function_two, function_three, has_value, is_number, is_state, state_named, state_text, text_is_one, to_int, to_float}
use Rattle.ha_sight.specs.Values.{flag, text_of}
use Rattle.ha_config.specs.Numbers.{less}
use Rattle.tpl_reads.specs.Reads.{Written, both, ids_in, looks_up}

-- ---- several entities

module _ (a b : Sight) where
  -- the sights agree on all of them
  abbrev pub AgreeAll : List EntityId → Type 0
  AgreeAll [] = Unit {0}
  AgreeAll (e ∷ es) = (a.states e ≡ b.states e) × AgreeAll es

  -- they are all written, and the sights agree on them
  abbrev pub On : Written → Type 0
  On None = ⊥
  On (Some es) = AgreeAll es

  agree-parts : (xs ys : List EntityId) → AgreeAll (xs ++ ys) → AgreeAll xs × AgreeAll ys
  agree-parts [] ys h = (tt, h)
  agree-parts (x ∷ xs) ys h = ((h.0, (agree-parts xs ys h.1).0), (agree-parts xs ys h.1).1)

  pub on-both : (x y : Written) → On (both x y) → On x × On y
  on-both None y h = absurd h
  on-both (Some xs) None h = absurd h
  on-both (Some xs) (Some ys) h = agree-parts xs ys h

  -- ---- texts that name the same state in both

  -- where the value is a text, both see the same state of the entity that it names, if it names one
  abbrev pub Alike : Value → Type 0
  Alike v = (t : Text) → text_of v ≡ Some t → state_named a t ≡ state_named b t

  abbrev pub AllAlike : List Value → Type 0
  AllAlike [] = Unit {0}
  AllAlike (v ∷ vs) = Alike v × AllAlike vs

  state-of : (o : Option EntityId) → AgreeAll (option_to_list o) → option_and_then a.states o ≡ option_and_then b.states o
  state-of None h = refl
  state-of (Some e) h = h.0

  pub ids-alike : (v : Value) → AgreeAll (ids_in v) → Alike v
  ids-alike v h t is = state-of (read_entity t) (subst (λ (o : Option Text). AgreeAll (option_to_list (option_and_then read_entity o))) is h)

  -- a value that is no text
  pub no-text : (v : Value) → text_of v ≡ None → Alike v
  no-text v none t is = absurd (apart (text_of v) none is)
    where
      apart : (o : Option Text) → o ≡ None → o ≡ Some t → ⊥
      apart o n s = absurd (cc)

  pub null-alike : Alike Value.Null
  null-alike = no-text Value.Null (simp outs-Null)

  pub items-alike : (vs : List Value) → Alike (Items vs)
  items-alike vs = no-text (Items vs) (simp outs-Items)

  -- the empty text is no id
  pub empty-alike : Alike (Value.Text [])
  unfolding read_entity
  empty-alike t is = subst (λ (u : Text). state_named a u ≡ state_named b u) (by (text_of (Value.Text [])) (simp outs-Text) is) refl
    where
      by : (o : Option Text) → o ≡ Some [] → o ≡ Some t → [] ≡ t
      by o e f = cc

  -- ---- functions

  under : {Y : Type 0} (f g : Text → Option Y) (o : Option Text) → ((t : Text) → o ≡ Some t → f t ≡ g t) → option_and_then f o ≡ option_and_then g o
  under f g None h = refl
  under f g (Some t) h = h t refl

  mapped : {Y : Type 0} (f g : Text → Y) (o : Option Text) → ((t : Text) → o ≡ Some t → f t ≡ g t) → option_map f o ≡ option_map g o
  mapped f g None h = refl
  mapped f g (Some t) h = ap Some (h t refl)

  one-of-same : (w : Value-F Value) (t : Text) → text_is_one a w t ≡ text_is_one b w t
  one-of-same Value-F.Null t = refl
  one-of-same (Value-F.Flag x) t = refl
  one-of-same (Value-F.Number n) t = refl
  one-of-same (Value-F.Text s) t = refl
  one-of-same (Value-F.Items vs) t = refl
  one-of-same (Value-F.Pairs ps) t = refl

  module _ (t : Text) (e : state_named a t ≡ state_named b t) where
    text-same : state_text a t ≡ state_text b t
    text-same = λ i. option_map_or (λ o. o.text) (e i) (codes "unknown")

    has-same : has_value a t ≡ has_value b t
    has-same = λ i. option_map_or (λ o. not (same o.text (codes "unknown")) && not (same o.text (codes "unavailable"))) (e i) false

    attribute-same : (name : Text) → attribute_of a t name ≡ attribute_of b t name
    attribute-same name = λ i. option_and_then (λ o. first_pair name o.attributes) (e i)

    state-same : (w : Value-F Value) → is_state a t w ≡ is_state b t w
    state-same w = λ i.
        option_and_then (λ one. Some (option_map_or (λ o. unwrap_or (one-of-same w o.text i) false) (e i) false)) (one-of-same w [] i)

  module _ (name : ℕ) (x : Value) (alike : Alike x) where
    one-alike : function_one a name x ≡ function_one b name x
    one-alike =
        let texts = mapped (λ t. Value.Text (state_text a t)) (λ t. Value.Text (state_text b t)) (text_of x) (λ t is i. Value.Text (text-same t (alike t is) i)) in
        let flags = mapped (λ t. Value.Flag (has_value a t)) (λ t. Value.Flag (has_value b t)) (text_of x) (λ t is i. Value.Flag (has-same t (alike t is) i)) in
        λ i.
        if nat_eq name function.states then texts i
        else if nat_eq name function.has_value then flags i
        else if nat_eq name function.int then to_int x []
        else if nat_eq name function.float then to_float x []
        else if nat_eq name function.is_number then flag (is_number (out-Value x))
        else None

    two-alike : (y : Value) → function_two a name x y ≡ function_two b name x y
    two-alike y =
        let attributes = under (λ t. option_map (λ n. attribute_or_null a t n) (text_of y)) (λ t. option_map (λ n. attribute_or_null b t n) (text_of y)) (text_of x)
        (λ t is i. option_map (λ n. unwrap_or (attribute-same t (alike t is) n i) Value.Null) (text_of y)) in
        let tests = under (λ t. option_and_then flag (is_state a t (out-Value y))) (λ t. option_and_then flag (is_state b t (out-Value y))) (text_of x)
        (λ t is i. option_and_then flag (state-same t (alike t is) (out-Value y) i)) in
        λ i.
        if nat_eq name function.state_attr then attributes i
        else if nat_eq name function.is_state then tests i
        else if nat_eq name function.int then to_int x (y ∷ [])
        else if nat_eq name function.float then to_float x (y ∷ [])
        else None

    three-alike : (y z : Value) → function_three a name x y z ≡ function_three b name x y z
    three-alike y z =
        let tests = under (λ t. option_map (λ n. Value.Flag (attribute_is a t n z)) (text_of y)) (λ t. option_map (λ n. Value.Flag (attribute_is b t n z)) (text_of y)) (text_of x)
        (λ t is i. option_map (λ n. Value.Flag (option_map_or (equal_value z) (attribute-same t (alike t is) n i) false)) (text_of y)) in
        λ i.
        if nat_eq name function.is_state_attr then tests i
        else if nat_eq name function.iif then Some (if truth x then y else z)
        else None

    count-alike : (more : List Value) → by_count a name (x ∷ more) ≡ by_count b name (x ∷ more)
    count-alike [] = one-alike
    count-alike (y ∷ []) = two-alike y
    count-alike (y ∷ z ∷ []) = three-alike y z
    count-alike (y ∷ z ∷ w ∷ more) = refl

  counted : (name : ℕ) (vs : List Value) → by_count a name vs ≡ by_count b name vs → applied a name vs ≡ applied b name vs
  counted name vs e = λ i.
      if nat_eq name function.min then extreme (λ x n. less x n) vs
      else if nat_eq name function.max then extreme (λ x n. less n x) vs
      else e i

  -- LAW: a function whose first argument names the same state in both sights gives the same value
  pub applied-alike : (name : ℕ) (x : Value) (more : List Value) → Alike x → applied a name (x ∷ more) ≡ applied b name (x ∷ more)
  applied-alike name x more alike = counted name (x ∷ more) (count-alike name x alike more)

  pub applied-none : (name : ℕ) → applied a name [] ≡ applied b name []
  applied-none name = counted name [] refl

  -- ---- the functions that look nothing up

  neither : (p q : Bool) → (p || q) ≡ false → (p ≡ false) × (q ≡ false)
  neither true q h = absurd (cc)
  neither false q h = (refl, h)

  skip : {X : Type 0} (p : Bool) (x y r : X) → p ≡ false → (if p then x else r) ≡ (if p then y else r)
  skip true x y r h = absurd (cc)
  skip false x y r h = refl

  skip-two : {X : Type 0} (p q : Bool) (x y u v r : X) → p ≡ false → q ≡ false → (if p then x else if q then u else r) ≡ (if p then y else if q then v else r)
  skip-two true q x y u v r h k = absurd (cc)
  skip-two false true x y u v r h k = absurd (cc)
  skip-two false false x y u v r h k = refl

  module _ (name : ℕ) (h : looks_up name ≡ false) where
    abbrev first_two : Bool
    first_two = nat_eq name function.states || nat_eq name function.state_attr

    abbrev first_three : Bool
    first_three = first_two || nat_eq name function.is_state

    abbrev first_four : Bool
    first_four = first_three || nat_eq name function.is_state_attr

    of_five : (first_four ≡ false) × (nat_eq name function.has_value ≡ false)
    of_five = neither first_four (nat_eq name function.has_value) h

    of_four : (first_three ≡ false) × (nat_eq name function.is_state_attr ≡ false)
    of_four = neither first_three (nat_eq name function.is_state_attr) of_five.0

    of_three : (first_two ≡ false) × (nat_eq name function.is_state ≡ false)
    of_three = neither first_two (nat_eq name function.is_state) of_four.0

    of_two : (nat_eq name function.states ≡ false) × (nat_eq name function.state_attr ≡ false)
    of_two = neither (nat_eq name function.states) (nat_eq name function.state_attr) of_three.0

    one-same : (x : Value) → function_one a name x ≡ function_one b name x
    one-same x =
        skip-two (nat_eq name function.states) (nat_eq name function.has_value) (option_map (λ t. Value.Text (state_text a t)) (text_of x)) (option_map (λ t. Value.Text (state_text b t)) (text_of x))
        (option_map (λ t. Value.Flag (has_value a t)) (text_of x)) (option_map (λ t. Value.Flag (has_value b t)) (text_of x))
        (if nat_eq name function.int then to_int x []
        else if nat_eq name function.float then to_float x []
        else if nat_eq name function.is_number then flag (is_number (out-Value x))
        else None)
        of_two.0 of_five.1

    two-same : (x y : Value) → function_two a name x y ≡ function_two b name x y
    two-same x y =
        skip-two (nat_eq name function.state_attr) (nat_eq name function.is_state)
        (option_and_then (λ t. option_map (λ n. attribute_or_null a t n) (text_of y)) (text_of x))
        (option_and_then (λ t. option_map (λ n. attribute_or_null b t n) (text_of y)) (text_of x))
        (option_and_then (λ t. option_and_then flag (is_state a t (out-Value y))) (text_of x))
        (option_and_then (λ t. option_and_then flag (is_state b t (out-Value y))) (text_of x))
        (if nat_eq name function.int then to_int x (y ∷ [])
        else if nat_eq name function.float then to_float x (y ∷ [])
        else None)
        of_two.1 of_three.1

    three-same : (x y z : Value) → function_three a name x y z ≡ function_three b name x y z
    three-same x y z =
        skip (nat_eq name function.is_state_attr)
        (option_and_then (λ t. option_map (λ n. Value.Flag (attribute_is a t n z)) (text_of y)) (text_of x))
        (option_and_then (λ t. option_map (λ n. Value.Flag (attribute_is b t n z)) (text_of y)) (text_of x))
        (if nat_eq name function.iif then Some (if truth x then y else z) else None)
        of_four.1

    count-same : (vs : List Value) → by_count a name vs ≡ by_count b name vs
    count-same [] = refl
    count-same (x ∷ []) = one-same x
    count-same (x ∷ y ∷ []) = two-same x y
    count-same (x ∷ y ∷ z ∷ []) = three-same x y z
    count-same (w ∷ x ∷ y ∷ z ∷ more) = refl

    -- LAW: a function that looks nothing up gives the same value in any two sights
    pub applied-same : (vs : List Value) → applied a name vs ≡ applied b name vs
    applied-same vs = counted name vs (count-same vs)
