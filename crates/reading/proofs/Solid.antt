-- Rules that look at nothing behind what they take, as those for a word or a character: whatever may follow what they took, a
-- fault depends on the token that it is at alone, and what stands before it can be gone on with.
use Rattle.std.proofs.Common.{◌≡◌, ℕ, ◌≤◌, Bool, true, false, cond, ◌⊎◌, List, [], ◌∷◌, ◌++◌, length, drop, Ok, Err, refl, sym, ap, subst, ◌∙◌, append_assoc, length-append, arith, inl, inr}
use Rattle.std.specs.Prelude.{◌==◌}
use Rattle.std.proofs.lemmas.Bool.{eq-eqb}
use Rattle.reading.specs.declared.fault.Bad.{Bad}
use Rattle.reading.specs.Answer.{◌>>=◌, Answer, Rule, stop, front}
use Rattle.reading.specs.Bytes.{expect}
use Rattle.reading.proofs.Basics.{chosen_is}
use Rattle.reading.proofs.Bytes.{nothing_at, token_at}

-- what was read may be followed by anything
pub record Taken {T F A : Type 0} (rule : Rule T F A) (text : List T) (x : A) (rest : List T) : Type 0 where
  pub taken : List T
  pub parts : text ≡ taken ++ rest
  pub again : (other : List T) → rule (taken ++ other) ≡ Ok (x, other)

-- a fault of this code depends on the token that it is at, and what is before it can be gone on with
pub record Halted {T C A : Type 0} (code : C) (rule : Rule T (Bad C) A) (text : List T) (f : Bad C) : Type 0 where
  pub before : List T
  pub rest : List T
  pub parts : text ≡ before ++ rest
  pub left : f.left ≡ length rest
  pub coded : f.code ≡ code
  pub again : (other : List T) → front other ≡ front rest → rule (before ++ other) ≡ Err (record { left = length other; code = f.code })
  pub more : List T
  pub x : A
  pub goes_on : (other : List T) → rule (before ++ (more ++ other)) ≡ Ok (x, other)

abbrev pub IsSolid : {T C A : Type 0} → C → Rule T (Bad C) A → List T → Answer T (Bad C) A → Type 0
IsSolid code rule text (Ok x) = Taken rule text x.0 x.1
IsSolid code rule text (Err f) = Halted code rule text f

unfoldable pub Solid : {T C A : Type 0} → C → Rule T (Bad C) A → Type 0
Solid {T} {C} {A} code rule = (text : List T) → IsSolid code rule text (rule text)

module _ {T C A : Type 0} (code : C) (rule : Rule T (Bad C) A) where
  by_nothing : (a : Answer T (Bad C) A) → IsSolid code rule [] a → (more : List T) × (x : A) × ((other : List T) → rule (more ++ other) ≡ Ok (x, other))
  by_nothing (Ok x) l = (l.taken, x.0, l.again)
  by_nothing (Err f) l = (l.before ++ l.more, l.x, λ other. ap rule (append_assoc l.before l.more other) ∙ l.goes_on other)

  -- some text is read
  pub some_text : Solid code rule → (more : List T) × (x : A) × ((other : List T) → rule (more ++ other) ≡ Ok (x, other))
  unfolding Solid
  some_text solid = by_nothing (rule []) (solid [])

module _ {T C A B : Type 0} (code : C) (p : Rule T (Bad C) A) (q : A → Rule T (Bad C) B) where
  abbrev both : Rule T (Bad C) B
  both t = p t >>= λ x. q x.0 x.1

  second : (t : List T) (x : A) (rest : List T) → Taken p t x rest → (b : Answer T (Bad C) B) → IsSolid code (q x) rest b → IsSolid code both t b
  second t x rest l (Ok y) m = record {
    taken = l.taken ++ m.taken;
    parts = l.parts ∙ ap (λ (r : List T). l.taken ++ r) m.parts ∙ sym (append_assoc l.taken m.taken y.1);
    again = λ other. ap both (append_assoc l.taken m.taken other) ∙ rw (l.again (m.taken ++ other)) (m.again other);
  }
  second t x rest l (Err e) m = record {
    before = l.taken ++ m.before;
    rest = m.rest;
    parts = l.parts ∙ ap (λ (r : List T). l.taken ++ r) m.parts ∙ sym (append_assoc l.taken m.before m.rest);
    left = m.left;
    coded = m.coded;
    again = λ other h. ap both (append_assoc l.taken m.before other) ∙ rw (l.again (m.before ++ other)) (m.again other h);
    more = m.more;
    x = m.x;
    goes_on = λ other. ap both (append_assoc l.taken m.before (m.more ++ other)) ∙ rw (l.again (m.before ++ (m.more ++ other))) (m.goes_on other);
  }

  first : (t : List T) → ((x : A) → Solid code (q x)) → (a : Answer T (Bad C) A) → IsSolid code p t a → IsSolid code both t (a >>= λ x. q x.0 x.1)
  unfolding Solid
  first t sq (Ok x) l = second t x.0 x.1 l (q x.0 x.1) (sq x.0 x.1)
  first t sq (Err e) l =
      let d = some_text code (q l.x) (sq l.x) in
      record {
        before = l.before;
        rest = l.rest;
        parts = l.parts;
        left = l.left;
        coded = l.coded;
        again = λ other h. rw (l.again other h) refl;
        more = l.more ++ d.0;
        x = d.1;
        goes_on = λ other. ap (λ (u : List T). both (l.before ++ u)) (append_assoc l.more d.0 other) ∙ rw (l.goes_on (d.0 ++ other)) (d.2 other);
      }

  pub bind_solid : Solid code p → ((x : A) → Solid code (q x)) → Solid code both
  unfolding Solid
  bind_solid sp sq t = first t sq (p t) (sp t)

pub ok_solid : (T : Type 0) {C A : Type 0} (code : C) (x : A) → Solid code (λ (t : List T). Ok (x, t))
unfolding Solid
ok_solid T code x t = record { taken = []; parts = refl; again = λ other. refl }

pub chosen_solid : {T C A : Type 0} (code : C) (p q : Rule T (Bad C) A) → Solid code p → Solid code q → (c : Bool) → Solid code (λ t. cond c (p t) (q t))
chosen_solid code p q sp sq true = sp
chosen_solid code p q sp sq false = sq

-- a rule that takes the token b, and then goes on as another does
pub behind : {T C A : Type 0} (code : C) (p q : Rule T (Bad C) A) (b : T) (t : List T) → ((u : List T) → q (b ∷ u) ≡ p u) → (a : Answer T (Bad C) A) → IsSolid code p t a → IsSolid code q (b ∷ t) a
behind {T} code p q b t same (Ok x) l = record { taken = b ∷ l.taken; parts = ap (λ (r : List T). b ∷ r) l.parts; again = λ other. same (l.taken ++ other) ∙ l.again other }
behind {T} code p q b t same (Err f) l =
    record {
      before = b ∷ l.before;
      rest = l.rest;
      parts = ap (λ (r : List T). b ∷ r) l.parts;
      left = l.left;
      coded = l.coded;
      again = λ other h. same (l.before ++ other) ∙ l.again other h;
      more = l.more;
      x = l.x;
      goes_on = λ other. same (l.before ++ (l.more ++ other)) ∙ l.goes_on other;
    }

-- ---- a rule that may stop at the first token: some text is read

module _ {T C A : Type 0} (rule : Rule T (Bad C) A) (code : C) (more : List T) (x : A) (read : (other : List T) → rule (more ++ other) ≡ Ok (x, other)) where
  pub halts_at : (b : T) (t : List T) → ((u : List T) → rule (b ∷ u) ≡ stop code (b ∷ u)) → IsSolid code rule (b ∷ t) (stop code (b ∷ t))
  halts_at b t same = record {
    before = [];
    rest = b ∷ t;
    parts = refl;
    left = refl;
    coded = refl;
    again = λ other h. subst (λ (r : List T). rule r ≡ Err (record { left = length r; code = code })) (sym (token_at b other h)) (same (drop 1 other));
    more = more;
    x = x;
    goes_on = read;
  }

  pub halts_at_end : rule [] ≡ stop code [] → IsSolid code rule [] (stop code [])
  halts_at_end same = record {
    before = [];
    rest = [];
    parts = refl;
    left = refl;
    coded = refl;
    again = λ other h. subst (λ (r : List T). rule r ≡ Err (record { left = length r; code = code })) (sym (nothing_at other h)) same;
    more = more;
    x = x;
    goes_on = read;
  }

  -- a rule of one token
  pub one_solid : rule [] ≡ stop code [] → ((b : T) → ((y : A) × ((u : List T) → rule (b ∷ u) ≡ Ok (y, u))) ⊎ ((u : List T) → rule (b ∷ u) ≡ stop code (b ∷ u))) → Solid code rule
  unfolding Solid
  one_solid none some [] = subst (λ (a : Answer T (Bad C) A). IsSolid code rule [] a) (sym none) (halts_at_end none)
  one_solid none some (b ∷ t) = elim (some b) [
    | inl k ↦ subst (λ (a : Answer T (Bad C) A). IsSolid code rule (b ∷ t) a) (sym (k.1 t)) (record { taken = b ∷ []; parts = refl; again = k.1 })
    | inr k ↦ subst (λ (a : Answer T (Bad C) A). IsSolid code rule (b ∷ t) a) (sym (k t)) (halts_at b t k)
  ]

-- a rule has faults of its one code
pub only_of : {T C A : Type 0} (code : C) (rule : Rule T (Bad C) A) → Solid code rule → (t : List T) (f : Bad C) → rule t ≡ Err f → f.code ≡ code
unfolding Solid
only_of {T} {C} {A} code rule solid t f e = let h : Halted code rule t f = subst (λ (a : Answer T (Bad C) A). IsSolid code rule t a) e (solid t) in h.coded

-- a fault stands within the text
pub stops_within : {T C A : Type 0} (code : C) (rule : Rule T (Bad C) A) → Solid code rule → (t : List T) (f : Bad C) → rule t ≡ Err f → f.left ≤ length t
unfolding Solid
stops_within {T} {C} {A} code rule solid t f e =
    let h : Halted code rule t f = subst (λ (a : Answer T (Bad C) A). IsSolid code rule t a) e (solid t) in
    omega (arith, h.left, ap length h.parts, length-append h.before h.rest)

-- ---- a rule that goes on as another does where this token is the first

module _ {T C A : Type 0} (code : C) (p q : Rule T (Bad C) A) (b : T) (same : (u : List T) → q (b ∷ u) ≡ p (b ∷ u)) where
  same_at : (d : T) (u : List T) → b ≡ d → q (d ∷ u) ≡ p (d ∷ u)
  same_at d u e = subst (λ (c : T). q (c ∷ u) ≡ p (c ∷ u)) e (same u)

  module _ (none : p [] ≡ stop code []) (more : List T) (x : A) (read : (other : List T) → q (more ++ other) ≡ Ok (x, other)) where
    read_alike : (t : List T) (y : A) (rest taken : List T) → b ∷ t ≡ taken ++ rest → ((other : List T) → p (taken ++ other) ≡ Ok (y, other)) → Taken q (b ∷ t) y rest
    read_alike t y rest [] parts again = absurd (let e : stop code [] ≡ Ok (y, []) = sym none ∙ again [] in cc)
    read_alike t y rest (d ∷ taken) parts again = let first : b ≡ d = cc in record { taken = d ∷ taken; parts = parts; again = λ other. same_at d (taken ++ other) first ∙ again other }

    halts_alike : (t : List T) (f : Bad C) (before : List T) (l : Halted code p (b ∷ t) f) → before ≡ l.before → Halted code q (b ∷ t) f
    halts_alike t f [] l e =
        let whole : b ∷ t ≡ l.rest = l.parts ∙ ap (λ (u : List T). u ++ l.rest) (sym e) in
        record {
          before = [];
          rest = b ∷ t;
          parts = refl;
          left = l.left ∙ ap length (sym whole);
          coded = l.coded;
          again = λ other h.
              let here : other ≡ b ∷ drop 1 other = token_at b other h in
              let stops : p other ≡ Err (record { left = length other; code = f.code }) = ap (λ (u : List T). p (u ++ other)) e ∙ l.again other (h ∙ ap front whole) in
              (ap q here ∙ same (drop 1 other) ∙ ap p (sym here)) ∙ stops;
          more = more;
          x = x;
          goes_on = read;
        }
    halts_alike t f (d ∷ before) l e =
        let first : b ≡ d = let w : b ∷ t ≡ d ∷ (before ++ l.rest) = l.parts ∙ ap (λ (u : List T). u ++ l.rest) (sym e) in cc in
        record {
          before = d ∷ before;
          rest = l.rest;
          parts = l.parts ∙ ap (λ (u : List T). u ++ l.rest) (sym e);
          left = l.left;
          coded = l.coded;
          again = λ other h. same_at d (before ++ other) first ∙ ap (λ (u : List T). p (u ++ other)) e ∙ l.again other h;
          more = l.more;
          x = l.x;
          goes_on = λ other. same_at d (before ++ (l.more ++ other)) first ∙ ap (λ (u : List T). p (u ++ (l.more ++ other))) e ∙ l.goes_on other;
        }

    by_answer : (t : List T) (a : Answer T (Bad C) A) → IsSolid code p (b ∷ t) a → IsSolid code q (b ∷ t) a
    by_answer t (Ok y) l = read_alike t y.0 y.1 l.taken l.parts l.again
    by_answer t (Err f) l = halts_alike t f l.before l refl

    pub alike_solid : Solid code p → (t : List T) → IsSolid code q (b ∷ t) (p (b ∷ t))
    unfolding Solid
    alike_solid solid t = by_answer t (p (b ∷ t)) (solid (b ∷ t))

-- ---- a word

expect_itself : {C : Type 0} (code : C) (ws r : List ℕ) → expect code ws (ws ++ r) ≡ Ok (tt, r)
unfolding expect
expect_itself code [] r = refl
expect_itself code (w ∷ ws) r = rw (eq-eqb w w refl) (expect_itself code ws r)

pub expect_solid : {C : Type 0} (code : C) (ws : List ℕ) → Solid code (expect code ws)
unfolding Solid expect
expect_solid code [] t = record { taken = []; parts = refl; again = λ other. refl }
expect_solid code (w ∷ ws) [] = halts_at_end (expect code (w ∷ ws)) code (w ∷ ws) tt (expect_itself code (w ∷ ws)) refl
expect_solid code (w ∷ ws) (b ∷ t) =
    elim (chosen_is (b == w)) [
      | inl h ↦ rw h (behind code (expect code ws) (expect code (w ∷ ws)) b t (λ u. rw h refl) (expect code ws t) (expect_solid code ws t))
      | inr h ↦ rw h (halts_at (expect code (w ∷ ws)) code (w ∷ ws) tt (expect_itself code (w ∷ ws)) b t (λ u. rw h refl))
    ]
