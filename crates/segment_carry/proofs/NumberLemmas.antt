-- Numbers under names: what is put under names in their order is what each name has.
use Rattle.std.proofs.Common.{◌≡◌, ◌∙◌, ap, ap₂, refl, sym, ℕ, suc, ◌+◌, Bool, true, false, Option, List, [], ◌∷◌, ◌++◌, ◌||◌, ◌&&◌, not, arith, inl, inr}
use Rattle.std.specs.Prelude.{Some, None, ◌⊎◌, is_some, nat_eq, slice_get, if◌then◌else◌}
use Rattle.std.specs.List.{list_any}
use Rattle.std.proofs.lemmas.Bool.Decides.{nat_tests}
use Rattle.ha_config.specs.Sound.{are_in_name_order}
use Rattle.ha_config.specs.ValueFacts.{all_distinct, keys_of}
use Rattle.ha_config.specs.Words.{Text, comes_before, or_else, same}
use Rattle.ha_config.proofs.EqualLemmas.{and_left, and_right, same-refl, same-sound}
use Rattle.ha_config.proofs.ListLemmas.{none-some, some-same, true-false}
use Rattle.ha_whole.specs.Named.{last_of_each, named}
use Rattle.whole_laws.specs.Apart.{AreApart}
use Rattle.segment_carry.specs.ByName.{numbers_with, with_number, with_some}
use Rattle.segment_carry.proofs.ByNameLemmas.{before-itself, further, or-before}

turned : (s t : Text) → same s t ≡ false → same t s ≡ false
turned s t h = by (same t s) refl
  where
    by : (b : Bool) → same t s ≡ b → same t s ≡ false
    by true e = absurd (true-false (sym (sym h ∙ (λ i. same (sym (same-sound t s e) i) t) ∙ same-refl t)))
    by false e = e

-- what comes before a text is another one
before-other : (a b : Text) → comes_before a b ≡ true → same a b ≡ false
before-other a b h = by (same a b) refl
  where
    by : (c : Bool) → same a b ≡ c → same a b ≡ false
    by true e = absurd (true-false (sym h ∙ (λ i. comes_before a (sym (same-sound a b e) i)) ∙ before-itself a))
    by false e = e

-- of two texts that are one both are another one alike
same-both : (a b t : Text) → same a b ≡ true → same a t ≡ same b t
same-both a b t e = λ i. same (same-sound a b e i) t

-- ---- one more number

named-with : (name : Text) (n : ℕ) (ps : List (Text × ℕ)) (t : Text) → named t (with_number name n ps) ≡ (if same name t then Some n else named t ps)
named-with name n [] t = refl
named-with name n (p ∷ ps) t = by (comes_before p.0 name) (same p.0 name) refl refl (named-with name n ps t)
  where
    turn : (a b : Bool) → same p.0 t ≡ a → same name t ≡ b → comes_before p.0 name ≡ true
        → (if a then Some p.1 else (if b then Some n else named t ps)) ≡ (if b then Some n else (if a then Some p.1 else named t ps))
    turn true true x y h =
        absurd (let e : p.0 ≡ name = same-sound p.0 t x ∙ sym (same-sound name t y) in true-false (sym h ∙ (λ i. comes_before (e i) name) ∙ before-itself name))
    turn true false x y h = refl
    turn false true x y h = refl
    turn false false x y h = refl

    one : (b : Bool) → same name t ≡ b → same p.0 t ≡ b → (if b then Some n else named t ps) ≡ (if b then Some n else (if same p.0 t then Some p.1 else named t ps))
    one true x y = refl
    one false x y = λ i. if sym y i then Some p.1 else named t ps

    by : (c d : Bool) → comes_before p.0 name ≡ c → same p.0 name ≡ d → named t (with_number name n ps) ≡ (if same name t then Some n else named t ps)
        → named t (if c then p ∷ with_number name n ps else (if d then (name, n) ∷ ps else (name, n) ∷ p ∷ ps)) ≡ (if same name t then Some n else (if same p.0 t then Some p.1 else named t ps))
    by true d e f rest = (λ i. if same p.0 t then Some p.1 else rest i) ∙ turn (same p.0 t) (same name t) refl refl e
    by false true e f rest = one (same name t) refl (same-both p.0 name t f)
    by false false e f rest = refl

rest-ordered : (q : Text × ℕ) (qs : List (Text × ℕ)) → are_in_name_order (q ∷ qs) ≡ true → are_in_name_order qs ≡ true
rest-ordered q [] o = refl
rest-ordered q (r ∷ rs) o = and_right (comes_before q.0 r.0) (are_in_name_order (r ∷ rs)) o

-- before q stands what follows it, and what is put there
with-behind : (q : Text × ℕ) (name : Text) (n : ℕ) (qs : List (Text × ℕ)) → comes_before q.0 name ≡ true → are_in_name_order (q ∷ qs) ≡ true → are_in_name_order (with_number name n qs) ≡ true
    → are_in_name_order (q ∷ with_number name n qs) ≡ true
with-behind q name n [] h o later = ap (λ b. b && true) h
with-behind q name n (r ∷ rs) h o later = by (comes_before r.0 name) (same r.0 name) later
  where
    by : (c d : Bool) → are_in_name_order (if c then r ∷ with_number name n rs else (if d then (name, n) ∷ rs else (name, n) ∷ r ∷ rs)) ≡ true
        → are_in_name_order (q ∷ (if c then r ∷ with_number name n rs else (if d then (name, n) ∷ rs else (name, n) ∷ r ∷ rs))) ≡ true
    by true d later = ap₂ ◌&&◌ (and_left (comes_before q.0 r.0) (are_in_name_order (r ∷ rs)) o) later
    by false true later = ap₂ ◌&&◌ h later
    by false false later = ap₂ ◌&&◌ h later

renamed : (name : Text) (n : ℕ) (p : Text × ℕ) (ps : List (Text × ℕ)) → p.0 ≡ name → are_in_name_order (p ∷ ps) ≡ true → are_in_name_order {X = ℕ} ((name, n) ∷ ps) ≡ true
renamed name n p [] e o = refl
renamed name n p (q ∷ qs) e o = (λ i. comes_before (sym e i) q.0 && are_in_name_order (q ∷ qs)) ∙ o

pub ordered-with : (name : Text) (n : ℕ) (ps : List (Text × ℕ)) → are_in_name_order ps ≡ true → are_in_name_order (with_number name n ps) ≡ true
ordered-with name n [] o = refl
ordered-with name n (p ∷ ps) o = by (comes_before p.0 name) (same p.0 name) refl refl (ordered-with name n ps (rest-ordered p ps o))
  where
    by : (c d : Bool) → comes_before p.0 name ≡ c → same p.0 name ≡ d → are_in_name_order (with_number name n ps) ≡ true
        → are_in_name_order (if c then p ∷ with_number name n ps else (if d then (name, n) ∷ ps else (name, n) ∷ p ∷ ps)) ≡ true
    by true d e f rest = with-behind p name n ps e o rest
    by false true e f rest = renamed name n p ps (same-sound p.0 name f) o
    by false false e f rest = ap₂ ◌&&◌ (or-before p.0 name f e) o

-- ---- pairs in the order of their names are told by what each name has

none-before : (t : Text) (qs : List (Text × ℕ)) (q : Text × ℕ) → comes_before t q.0 ≡ true → are_in_name_order (q ∷ qs) ≡ true → named t (q ∷ qs) ≡ None
none-before t [] q h o = λ i. if turned t q.0 (before-other t q.0 h) i then Some q.1 else None
none-before t (r ∷ rs) q h o =
    (λ i. if turned t q.0 (before-other t q.0 h) i then Some q.1 else named t (r ∷ rs))
    ∙ none-before t rs r (further t q.0 r.0 h (and_left (comes_before q.0 r.0) (are_in_name_order (r ∷ rs)) o)) (rest-ordered q (r ∷ rs) o)

none-behind : (p : Text × ℕ) (ps : List (Text × ℕ)) → are_in_name_order (p ∷ ps) ≡ true → named p.0 ps ≡ None
none-behind p [] o = refl
none-behind p (q ∷ qs) o = none-before p.0 qs q (and_left (comes_before p.0 q.0) (are_in_name_order (q ∷ qs)) o) (rest-ordered p (q ∷ qs) o)

named-first : (p : Text × ℕ) (ps : List (Text × ℕ)) → named p.0 (p ∷ ps) ≡ Some p.1
named-first p ps = λ i. if same-refl p.0 i then Some p.1 else named p.0 ps

-- LAW: pairs in the order of their names that have the same under each name are the same
pub ordered-same : (ps qs : List (Text × ℕ)) → are_in_name_order ps ≡ true → are_in_name_order qs ≡ true → ((t : Text) → named t ps ≡ named t qs) → ps ≡ qs
ordered-same [] [] o u h = refl
ordered-same [] (q ∷ qs) o u h = absurd (none-some q.1 (h q.0 ∙ named-first q qs))
ordered-same (p ∷ ps) [] o u h = absurd (none-some p.1 (sym (h p.0) ∙ named-first p ps))
ordered-same (p ∷ ps) (q ∷ qs) o u h =
    by (comes_before p.0 q.0) (same p.0 q.0) refl refl (λ g. ordered-same ps qs (rest-ordered p ps o) (rest-ordered q qs u) g)
  where
    later : p.0 ≡ q.0 → (t : Text) → named t ps ≡ named t qs
    later e t = choose (same p.0 t) refl
      where
        gone : (b : Bool) → same p.0 t ≡ true → named t ps ≡ named t qs
        gone b x =
            (λ i. named (sym (same-sound p.0 t x) i) ps) ∙ none-behind p ps o ∙ sym (none-behind q qs u) ∙ (λ i. named ((sym e ∙ same-sound p.0 t x) i) qs)

        choose : (b : Bool) → same p.0 t ≡ b → named t ps ≡ named t qs
        choose true x = gone true x
        choose false x =
            (λ i. if sym x i then Some p.1 else named t ps) ∙ h t ∙ (λ i. if same (sym e i) t then Some q.1 else named t qs) ∙ (λ i. if x i then Some q.1 else named t qs)

    by : (c d : Bool) → comes_before p.0 q.0 ≡ c → same p.0 q.0 ≡ d → (((t : Text) → named t ps ≡ named t qs) → ps ≡ qs) → p ∷ ps ≡ q ∷ qs
    by true d x y rest = absurd (none-some p.1 (sym (none-before p.0 qs q x u) ∙ sym (h p.0) ∙ named-first p ps))
    by false false x y rest = absurd (none-some q.1 (sym (none-before q.0 ps p (or-before p.0 q.0 y x) o) ∙ h q.0 ∙ named-first q qs))
    by false true x y rest =
        (let e : p.0 ≡ q.0 = same-sound p.0 q.0 y in
        let value : p.1 ≡ q.1 = some-same p.1 q.1 (sym (named-first p ps) ∙ h p.0 ∙ (λ i. named (e i) (q ∷ qs)) ∙ named-first q qs) in
        λ i. (e i, value i) ∷ rest (later e) i)

-- ---- the last one of each name

abbrev pub last_named : {X : Type 0} → Text → List (Text × X) → Option X
last_named t [] = None
last_named t (p ∷ ps) = or_else (last_named t ps) (if same p.0 t then Some p.1 else None)

none-last : {X : Type 0} (t : Text) (ps : List (Text × X)) → named t ps ≡ None → last_named t ps ≡ None
none-last t [] h = refl
none-last {X} t (p ∷ ps) h = by (same p.0 t) h (none-last t ps)
  where
    by : (b : Bool) → (if b then Some p.1 else named t ps) ≡ None → (named t ps ≡ None → last_named t ps ≡ None) → or_else (last_named t ps) (if b then Some p.1 else None) ≡ None
    by true h rest = absurd (none-some p.1 (sym h))
    by false h rest = λ i. or_else (rest h i) None

last-there : {X : Type 0} (t : Text) (ps : List (Text × X)) → is_some (named t ps) ≡ true → (v : X) × (last_named t ps ≡ Some v)
last-there t [] h = absurd (true-false (sym h))
last-there {X} t (p ∷ ps) h = by (same p.0 t) h (last-there t ps)
  where
    front : (o : Option X) → (v : X) × (or_else o (Some p.1) ≡ Some v)
    front None = (p.1, refl)
    front (Some v) = (v, refl)

    by : (b : Bool) → is_some (if b then Some p.1 else named t ps) ≡ true → (is_some (named t ps) ≡ true → (v : X) × (last_named t ps ≡ Some v))
        → (v : X) × (or_else (last_named t ps) (if b then Some p.1 else None) ≡ Some v)
    by true h rest = front (last_named t ps)
    by false h rest = (let one = rest h in (one.0, (λ i. or_else (one.1 i) None)))

else-none : {X : Type 0} (o : Option X) → or_else o None ≡ o
else-none None = refl
else-none (Some x) = refl

pub else-assoc : {X : Type 0} (a b c : Option X) → or_else (or_else a b) c ≡ or_else a (or_else b c)
else-assoc None b c = refl
else-assoc (Some x) b c = refl

-- LAW: of each name the last value stays
pub named-last : {X : Type 0} (t : Text) (ps : List (Text × X)) → named t (last_of_each ps) ≡ last_named t ps
named-last t [] = refl
named-last {X} t (p ∷ ps) = by (is_some (named p.0 ps)) refl (same p.0 t) refl (named-last t ps)
  where
    over : is_some (named p.0 ps) ≡ true → same p.0 t ≡ true → last_named t ps ≡ or_else (last_named t ps) (Some p.1)
    over h e = (let one = last-there t ps ((λ i. is_some (named (sym (same-sound p.0 t e) i) ps)) ∙ h) in one.1 ∙ (λ i. or_else (sym one.1 i) (Some p.1)))

    alone : is_some (named p.0 ps) ≡ false → same p.0 t ≡ true → Some p.1 ≡ or_else (last_named t ps) (Some p.1)
    alone h e = (λ i. or_else (sym (none-last t ps (none-of (named t ps) ((λ i. is_some (named (sym (same-sound p.0 t e) i) ps)) ∙ h))) i) (Some p.1))
      where
        none-of : (o : Option X) → is_some o ≡ false → o ≡ None
        none-of None h = refl
        none-of (Some v) h = absurd (true-false h)

    by : (c : Bool) → is_some (named p.0 ps) ≡ c → (d : Bool) → same p.0 t ≡ d → named t (last_of_each ps) ≡ last_named t ps
        → named t (if c then last_of_each ps else p ∷ last_of_each ps) ≡ or_else (last_named t ps) (if same p.0 t then Some p.1 else None)
    by true h true e rest = rest ∙ over h e ∙ (λ i. or_else (last_named t ps) (if sym e i then Some p.1 else None))
    by true h false e rest = rest ∙ sym (else-none (last_named t ps)) ∙ (λ i. or_else (last_named t ps) (if sym e i then Some p.1 else None))
    by false h true e rest =
        (λ i. if e i then Some p.1 else named t (last_of_each ps)) ∙ alone h e ∙ (λ i. or_else (last_named t ps) (if sym e i then Some p.1 else None))
    by false h false e rest =
        (λ i. if e i then Some p.1 else rest i) ∙ sym (else-none (last_named t ps)) ∙ (λ i. or_else (last_named t ps) (if sym e i then Some p.1 else None))

pub last-append : {X : Type 0} (t : Text) (xs ys : List (Text × X)) → last_named t (xs ++ ys) ≡ or_else (last_named t ys) (last_named t xs)
last-append t [] ys = sym (else-none (last_named t ys))
last-append t (x ∷ xs) ys =
    (λ i. or_else (last-append t xs ys i) (if same x.0 t then Some x.1 else None)) ∙ else-assoc (last_named t ys) (last_named t xs) (if same x.0 t then Some x.1 else None)

pub last-ordered : (t : Text) (ps : List (Text × ℕ)) → are_in_name_order ps ≡ true → last_named t ps ≡ named t ps
last-ordered t [] o = refl
last-ordered t (p ∷ ps) o = by (same p.0 t) refl (last-ordered t ps (rest-ordered p ps o))
  where
    by : (b : Bool) → same p.0 t ≡ b → last_named t ps ≡ named t ps → or_else (last_named t ps) (if b then Some p.1 else None) ≡ (if b then Some p.1 else named t ps)
    by true e rest =
        (λ i. or_else (rest i) (Some p.1)) ∙ (λ i. or_else (named (sym (same-sound p.0 t e) i) ps) (Some p.1)) ∙ (λ i. or_else (none-behind p ps o i) (Some p.1))
    by false e rest = else-none (last_named t ps) ∙ rest

pub apart-last : {X : Type 0} (ps : List (Text × X)) → AreApart (last_of_each ps)
apart-last [] = tt
apart-last {X} (p ∷ ps) = by (is_some (named p.0 ps)) refl (apart-last ps)
  where
    none-of : (o : Option X) → is_some o ≡ false → o ≡ None
    none-of None h = refl
    none-of (Some v) h = absurd (true-false h)

    by : (c : Bool) → is_some (named p.0 ps) ≡ c → AreApart (last_of_each ps) → AreApart (if c then last_of_each ps else p ∷ last_of_each ps)
    by true h rest = rest
    by false h rest = (named-last p.0 ps ∙ none-last p.0 ps (none-of (named p.0 ps) h), rest)

pub apart-distinct : {X : Type 0} (ps : List (Text × X)) → AreApart ps → all_distinct (keys_of ps) ≡ true
apart-distinct [] h = refl
apart-distinct {X} (p ∷ ps) h = λ i. not (absent ps h.0 i) && apart-distinct ps h.1 i
  where
    absent : (qs : List (Text × X)) → named p.0 qs ≡ None → list_any (same p.0) (keys_of qs) ≡ false
    absent [] e = refl
    absent (q ∷ qs) e = by (same q.0 p.0) refl e (absent qs)
      where
        by : (b : Bool) → same q.0 p.0 ≡ b → (if b then Some q.1 else named p.0 qs) ≡ None → (named p.0 qs ≡ None → list_any (same p.0) (keys_of qs) ≡ false)
            → (same p.0 q.0 || list_any (same p.0) (keys_of qs)) ≡ false
        by true f e rest = absurd (none-some q.1 (sym e))
        by false f e rest = λ i. turned q.0 p.0 f i || rest e i

-- ---- those of several names, put in turn

module _ (value : Text → Option ℕ) (whole : Text → ℕ) (full : (t : Text) → (whole t ≡ 0 → ⊥) → value t ≡ Some (whole t)) (number : ℕ → ℕ) where
  -- each name has its value, or one of these that are to come has it
  abbrev Told : List Text → List (Text × ℕ) → Text → Type 0
  Told names ps t = (named t ps ≡ value t) ⊎ ((list_any (same t) names ≡ true) × (whole t ≡ 0 → ⊥))

  pub with-told : (n : ℕ) (names : List Text) (ps : List (Text × ℕ)) → ((i : ℕ) (t : Text) → slice_get names i ≡ Some t → number (n + i) ≡ whole t) → ((t : Text) → Told names ps t)
      → (t : Text) → named t (numbers_with number n names ps) ≡ value t
  with-told n [] ps at told t = by (told t)
    where
      by : Told [] ps t → named t ps ≡ value t
      by (inl e) = e
      by (inr g) = absurd (true-false (sym g.0))
  with-told n (name ∷ names) ps at told u =
      with-told (suc n) names (with_some name (number n) ps)
      (λ i t is. (let e : suc n + i ≡ n + suc i = omega arith in ap number e ∙ at (suc i) t is)) next u
    where
      here : number n ≡ whole name
      here = (let e : n ≡ n + 0 = omega arith in ap number e ∙ at 0 name refl)

      is-zero : (m : ℕ) → nat_eq m 0 ≡ true → m ≡ 0
      is-zero m h = grind (arith, nat_tests)

      not-zero : (m : ℕ) → nat_eq m 0 ≡ false → m ≡ 0 → ⊥
      not-zero m h e = true-false ((λ i. nat_eq (sym e i) 0) ∙ h)

      next : (t : Text) → Told names (with_some name (number n) ps) t
      next t = by (nat_eq (number n) 0) refl (same name t) refl (told t)
        where
          stays : nat_eq (number n) 0 ≡ true → named t (with_some name (number n) ps) ≡ named t ps
          stays z = λ i. named t (if z i then ps else with_number name (number n) ps)

          put : nat_eq (number n) 0 ≡ false → named t (with_some name (number n) ps) ≡ (if same name t then Some (number n) else named t ps)
          put z = (λ i. named t (if z i then ps else with_number name (number n) ps)) ∙ named-with name (number n) ps t

          behind : same name t ≡ false → list_any (same t) (name ∷ names) ≡ true → list_any (same t) names ≡ true
          behind e any = (λ i. sym (turned name t e) i || list_any (same t) names) ∙ any

          by : (z : Bool) → nat_eq (number n) 0 ≡ z → (e : Bool) → same name t ≡ e → Told (name ∷ names) ps t → Told names (with_some name (number n) ps) t
          by true z e f (inl g) = inl (stays z ∙ g)
          by true z true f (inr g) = absurd (g.1 (sym (ap whole (same-sound name t f)) ∙ sym here ∙ is-zero (number n) z))
          by true z false f (inr g) = inr (behind f g.0, g.1)
          by false z true f g =
              (let e : name ≡ t = same-sound name t f in
              let k : number n ≡ whole t = here ∙ ap whole e in
              inl (put z ∙ (λ i. if f i then Some (number n) else named t ps) ∙ ap (λ m. Some m) k ∙ sym (full t (λ zero_is. not-zero (number n) z (k ∙ zero_is)))))
          by false z false f (inl g) = inl (put z ∙ (λ i. if f i then Some (number n) else named t ps) ∙ g)
          by false z false f (inr g) = inr (behind f g.0, g.1)

pub ordered-all : (number : ℕ → ℕ) (n : ℕ) (names : List Text) (ps : List (Text × ℕ)) → are_in_name_order ps ≡ true → are_in_name_order (numbers_with number n names ps) ≡ true
ordered-all number n [] ps o = o
ordered-all number n (name ∷ names) ps o = ordered-all number (suc n) names (with_some name (number n) ps) (by (nat_eq (number n) 0))
  where
    by : (b : Bool) → are_in_name_order (if b then ps else with_number name (number n) ps) ≡ true
    by true = o
    by false = ordered-with name (number n) ps o
