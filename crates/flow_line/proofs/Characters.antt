-- The characters of strings and their grammar.
use Rattle.std.proofs.Common.{◌≡◌, ℕ, suc, ◌+◌, ◌*◌, ◌≤◌, ◌<◌, Bool, true, false, cond, not, ◌&&◌, ◌⊎◌, List, [], ◌∷◌, ◌++◌, Option, Some, None, Ok, refl, sym, ap, subst, ◌∙◌, arith, inl, inr}
use Rattle.std.specs.Prelude.{◌==◌, nat_le, nat_lt, codes, encode_utf8}
use Rattle.std.specs.Char.{IsScalar}
use Rattle.std.specs.Char.Utf16.{is_high_surrogate, is_low_surrogate, surrogate_pair_char}
use Rattle.std.proofs.lemmas.Bool.{and_parts, cases_lt, leb-true, le-leb, eqb-true, eq-eqb}
use Rattle.reading.specs.Answer.{◌>>=◌, front, stop}
use Rattle.reading.specs.Bytes.{expect}
use Rattle.reading.specs.Characters.{character as utf8_character}
use Rattle.reading.proofs.Basics.{bind_ok, ok_parts, chosen, chosen_is}
use Rattle.reading.proofs.Bytes.{expect_found}
use Rattle.reading.proofs.Characters.{first_byte, character_found as utf8_found}
use Rattle.flow_line.specs.declared.fault.Code.TheVariants.{Syntax}
use Rattle.flow_line.specs.Bytes.{is_in, stands_as_is, hex_value, unescaped}
use Rattle.flow_line.specs.Text.{hex_in, high_digits, unit, unicode, short_escape, escape, character}
use Rattle.flow_line.specs.Grammar.{IsUnit, unit as unit_of, IsCharacter, itself, short, whole, halves}
use Rattle.flow_line.proofs.ByteRanges.{Fault, in_parts}
use lib.Utf8.{low_scalar}

differ : (b : Bool) → b ≡ false → b ≡ true → ⊥
differ b e h = let k : true ≡ false = sym h ∙ e in cc

-- ---- escapes

pub record Digit (low high : ℕ) (t : List ℕ) (x : ℕ) (rest : List ℕ) : Type 0 where
  pub b : ℕ
  pub parts : t ≡ b ∷ rest
  pub at_least : low ≤ x
  pub at_most : x ≤ high
  pub value : x ≡ hex_value b

pub hex_found : (low high : ℕ) (t : List ℕ) (x : ℕ) (rest : List ℕ) → hex_in low high (front t) t ≡ Ok (x, rest) → Digit low high t x rest
hex_found low high [] x rest e = absurd cc
hex_found low high (b ∷ t) x rest e =
    elim (chosen (is_in low high (hex_value b)) (Ok (hex_value b, t)) (stop Syntax (b ∷ t)) (Ok (x, rest)) e) [
      | inl h ↦
          let p = ok_parts {F = Fault} (hex_value b, t) (x, rest) h.1 in
          let r = in_parts low high (hex_value b) h.0 in
          record { b = b; parts = ap (λ (u : List ℕ). b ∷ u) p.1; at_least = subst (λ (z : ℕ). low ≤ z) p.0 r.0; at_most = subst (λ (z : ℕ). z ≤ high) p.0 r.1; value = sym p.0 }
      | inr h ↦ absurd (let k = h.1 in cc)
    ]

-- four digits, the first two of them in their ranges
pub record Unit4 (low : Bool) (t : List ℕ) (u : ℕ) (rest : List ℕ) : Type 0 where
  pub a : ℕ
  pub b : ℕ
  pub c : ℕ
  pub d : ℕ
  pub parts : t ≡ a ∷ b ∷ c ∷ d ∷ rest
  pub least_a : cond low 13 0 ≤ hex_value a
  pub most_a : hex_value a ≤ cond low 13 15
  pub least_b : cond low 12 0 ≤ hex_value b
  pub most_b : hex_value b ≤ cond (hex_value a == 13 && not low) 11 15
  pub most_c : hex_value c ≤ 15
  pub most_d : hex_value d ≤ 15
  pub value : u ≡ (hex_value a * 16 + hex_value b) * 256 + hex_value c * 16 + hex_value d

pub unit_found : (low : Bool) (t : List ℕ) (u : ℕ) (rest : List ℕ) → unit low t ≡ Ok (u, rest) → Unit4 low t u rest
unfolding unit high_digits
unit_found low t u rest e =
    let h = bind_ok (high_digits low t) (λ h. hex_in 0 15 (front h.1) h.1 >>= λ c. hex_in 0 15 (front c.1) c.1 >>= λ d. Ok (h.0 * 256 + c.0 * 16 + d.0, d.1)) (u, rest) e in
    let k = bind_ok (hex_in 0 15 (front h.0.1) h.0.1) (λ c. hex_in 0 15 (front c.1) c.1 >>= λ d. Ok (h.0.0 * 256 + c.0 * 16 + d.0, d.1)) (u, rest) h.2 in
    let l = bind_ok (hex_in 0 15 (front k.0.1) k.0.1) (λ d. Ok (h.0.0 * 256 + k.0.0 * 16 + d.0, d.1)) (u, rest) k.2 in
    let m = ok_parts {F = Fault} (h.0.0 * 256 + k.0.0 * 16 + l.0.0, l.0.1) (u, rest) l.2 in
    let x = bind_ok (hex_in (cond low 13 0) (cond low 13 15) (front t) t) (λ a. hex_in (cond low 12 0) (cond (a.0 == 13 && not low) 11 15) (front a.1) a.1 >>= λ b. Ok (a.0 * 16 + b.0, b.1)) h.0 h.1 in
    let y = bind_ok (hex_in (cond low 12 0) (cond (x.0.0 == 13 && not low) 11 15) (front x.0.1) x.0.1) (λ b. Ok (x.0.0 * 16 + b.0, b.1)) h.0 x.2 in
    let z = ok_parts {F = Fault} (x.0.0 * 16 + y.0.0, y.0.1) h.0 y.2 in
    let da = hex_found (cond low 13 0) (cond low 13 15) t x.0.0 x.0.1 x.1 in
    let db = hex_found (cond low 12 0) (cond (x.0.0 == 13 && not low) 11 15) x.0.1 y.0.0 y.0.1 y.1 in
    let dc = hex_found 0 15 h.0.1 k.0.0 k.0.1 k.1 in
    let dd = hex_found 0 15 k.0.1 l.0.0 l.0.1 l.1 in
    record {
      a = da.b;
      b = db.b;
      c = dc.b;
      d = dd.b;
      parts = da.parts ∙ ap (λ (v : List ℕ). da.b ∷ v) (db.parts ∙ ap (λ (v : List ℕ). db.b ∷ v) (z.1 ∙ dc.parts ∙ ap (λ (v : List ℕ). dc.b ∷ v) (dd.parts ∙ ap (λ (v : List ℕ). dd.b ∷ v) m.1)));
      least_a = subst (λ (v : ℕ). cond low 13 0 ≤ v) da.value da.at_least;
      most_a = subst (λ (v : ℕ). v ≤ cond low 13 15) da.value da.at_most;
      least_b = subst (λ (v : ℕ). cond low 12 0 ≤ v) db.value db.at_least;
      most_b = subst (λ (v : ℕ). hex_value db.b ≤ cond (v == 13 && not low) 11 15) da.value (subst (λ (v : ℕ). v ≤ cond (x.0.0 == 13 && not low) 11 15) db.value db.at_most);
      most_c = subst (λ (v : ℕ). v ≤ 15) dc.value dc.at_most;
      most_d = subst (λ (v : ℕ). v ≤ 15) dd.value dd.at_most;
      value = sym m.0 ∙ (λ i. sym z.0 i * 256 + k.0.0 * 16 + l.0.0) ∙ (λ i. (da.value i * 16 + db.value i) * 256 + dc.value i * 16 + dd.value i);
    }

pub is_unit : (low : Bool) (t : List ℕ) (u : ℕ) (rest : List ℕ) → Unit4 low t u rest → IsUnit t u rest
is_unit low t u rest h =
    let below_a : hex_value h.a ≤ 15 = top low (hex_value h.a) h.most_a in
    let below_b : hex_value h.b ≤ 15 = top_b (hex_value h.a == 13 && not low) (hex_value h.b) h.most_b in
    let four : IsUnit (h.a ∷ h.b ∷ h.c ∷ h.d ∷ rest) ((hex_value h.a * 16 + hex_value h.b) * 256 + hex_value h.c * 16 + hex_value h.d) rest = unit_of (omega arith) (omega arith) (let k = h.most_c in omega arith) (let k = h.most_d in omega arith) in
    subst (λ (v : List ℕ). IsUnit v u rest) (sym h.parts) (subst (λ (v : ℕ). IsUnit (h.a ∷ h.b ∷ h.c ∷ h.d ∷ rest) v rest) (sym h.value) four) where
      top : (low : Bool) (x : ℕ) → x ≤ cond low 13 15 → x ≤ 15
      top true x k = omega arith
      top false x k = k

      top_b : (c : Bool) (x : ℕ) → x ≤ cond c 11 15 → x ≤ 15
      top_b true x k = omega arith
      top_b false x k = k

-- a unit behind which no half is wanted is a character of its own, or the high half of a pair
whole_unit : (t : List ℕ) (u : ℕ) (rest : List ℕ) → Unit4 false t u rest → (u < 56320) ⊎ (57344 ≤ u)
whole_unit t u rest h = go (hex_value h.a) (hex_value h.b) (hex_value h.c) (hex_value h.d) (hex_value h.a == 13) refl h.most_a h.most_b h.most_c h.most_d h.value where
  go : (a b c d : ℕ) (s : Bool) → (a == 13) ≡ s → a ≤ 15 → b ≤ cond (s && true) 11 15 → c ≤ 15 → d ≤ 15 → u ≡ (a * 16 + b) * 256 + c * 16 + d → (u < 56320) ⊎ (57344 ≤ u)
  go a b c d true e p q r s v = let k : a ≡ 13 = eqb-true a 13 e in inl (omega arith)
  go a b c d false e p q r s v = elim (cases_lt a 13) [ inl m ↦ inl (omega arith) | inr m ↦ (let n : ¬ (a ≡ 13) = λ w. differ (a == 13) e (eq-eqb a 13 w) in inr (omega arith)) ]

pub low_unit : (t : List ℕ) (u : ℕ) (rest : List ℕ) → Unit4 true t u rest → (56320 ≤ u) × (u < 57344)
low_unit t u rest h =
    let p = h.least_a in
    let q = h.most_a in
    let r = h.least_b in
    let s = top_b (hex_value h.a == 13 && false) (hex_value h.b) h.most_b in
    let k = h.most_c in
    let l = h.most_d in
    let v = h.value in
    (omega arith, omega arith) where
      top_b : (c : Bool) (x : ℕ) → x ≤ cond c 11 15 → x ≤ 15
      top_b true x k = omega arith
      top_b false x k = k

-- ---- what is read is spelled so

not_in : (low high u : ℕ) → is_in low high u ≡ false → (u < low) ⊎ (high < u)
not_in low high u e = elim (cases_lt u low) [
  | inl m ↦ inl m
  | inr m ↦ elim (cases_lt high u) [
    | inl n ↦ inr n
    | inr n ↦ absurd (differ (is_in low high u) e (rw (le-leb low u m, le-leb u high n) refl))
  ]
]

high_scalar : (c : ℕ) → 57344 ≤ c → c < 1114112 → IsScalar c
high_scalar c l h = by_test (nat_le 57344 c) (le-leb 57344 c l) (nat_le (suc c) 1114112) (le-leb (suc c) 1114112 (omega arith)) (nat_le (suc c) 55296) where
  by_test : (x : Bool) → x ≡ true → (y : Bool) → y ≡ true → (z : Bool) → cond z true (x && y) ≡ true
  by_test x e y f true = refl
  by_test x e y f false = rw (e, f) refl

unit_small : (t : List ℕ) (u : ℕ) (rest : List ℕ) → Unit4 false t u rest → u < 65536
unit_small t u rest h =
    let p = h.most_a in
    let s = top_b (hex_value h.a == 13 && true) (hex_value h.b) h.most_b in
    let k = h.most_c in
    let l = h.most_d in
    let v = h.value in
    omega arith where
      top_b : (c : Bool) (x : ℕ) → x ≤ cond c 11 15 → x ≤ 15
      top_b true x k = omega arith
      top_b false x k = k

pub unicode_found : (t : List ℕ) (u : ℕ) (rest : List ℕ) → unicode t ≡ Ok (u, rest) → IsCharacter (92 ∷ 117 ∷ t) u rest
unfolding unicode
unicode_found t u rest e =
    let a = bind_ok (unit false t) (λ u. cond (is_in 0xD800 0xDBFF u.0) (expect Syntax (codes "\\u") u.1 >>= λ mark. unit true mark.1 >>= λ half. Ok (surrogate_pair_char u.0 half.0, half.1)) (Ok u)) (u, rest) e in
    let first = unit_found false t a.0.0 a.0.1 a.1 in
    elim (chosen (is_in 0xD800 0xDBFF a.0.0) (expect Syntax (codes "\\u") a.0.1 >>= λ mark. unit true mark.1 >>= λ half. Ok (surrogate_pair_char a.0.0 half.0, half.1)) (Ok a.0) (Ok (u, rest)) a.2) [
      | inl h ↦
          let m = bind_ok (expect Syntax (codes "\\u") a.0.1) (λ mark. unit true mark.1 >>= λ half. Ok (surrogate_pair_char a.0.0 half.0, half.1)) (u, rest) h.1 in
          let n = bind_ok (unit true m.0.1) (λ half. Ok (surrogate_pair_char a.0.0 half.0, half.1)) (u, rest) m.2 in
          let p = ok_parts {F = Fault} (surrogate_pair_char a.0.0 n.0.0, n.0.1) (u, rest) n.2 in
          let second = unit_found true m.0.1 n.0.0 n.0.1 n.1 in
          let mark : a.0.1 ≡ 92 ∷ 117 ∷ m.0.1 = expect_found Syntax (codes "\\u") a.0.1 m.0.0 m.0.1 m.1 in
          let r = in_parts 0xD800 0xDBFF a.0.0 h.0 in
          let l = low_unit m.0.1 n.0.0 n.0.1 second in
          let is_high : is_high_surrogate a.0.0 ≡ true = rw (le-leb 0xD800 a.0.0 r.0, le-leb (suc a.0.0) 0xDC00 (let w = r.1 in omega arith)) refl in
          let is_low : is_low_surrogate n.0.0 ≡ true = rw (le-leb 0xDC00 n.0.0 l.0, le-leb (suc n.0.0) 0xE000 (let w = l.1 in omega arith)) refl in
          let here : IsCharacter (92 ∷ 117 ∷ t) (surrogate_pair_char a.0.0 n.0.0) n.0.1 =
          halves (subst (λ (v : List ℕ). IsUnit t a.0.0 v) mark (is_unit false t a.0.0 a.0.1 first)) (is_unit true m.0.1 n.0.0 n.0.1 second) is_high is_low in
          subst (λ (v : List ℕ). IsCharacter (92 ∷ 117 ∷ t) u v) p.1 (subst (λ (v : ℕ). IsCharacter (92 ∷ 117 ∷ t) v n.0.1) p.0 here)
      | inr h ↦
          let p = ok_parts {F = Fault} a.0 (u, rest) h.1 in
          let small = unit_small t a.0.0 a.0.1 first in
          let scalar_u : IsScalar a.0.0 = elim (not_in 0xD800 0xDBFF a.0.0 h.0) [
            | inl m ↦ low_scalar a.0.0 m
            | inr m ↦ elim (whole_unit t a.0.0 a.0.1 first) [ inl n ↦ absurd (omega arith) | inr n ↦ high_scalar a.0.0 n (omega arith) ]
          ] in
          let here : IsCharacter (92 ∷ 117 ∷ t) a.0.0 a.0.1 = whole (is_unit false t a.0.0 a.0.1 first) scalar_u in
          subst (λ (v : List ℕ). IsCharacter (92 ∷ 117 ∷ t) u v) p.1 (subst (λ (v : ℕ). IsCharacter (92 ∷ 117 ∷ t) v a.0.1) p.0 here)
    ]

short_found : (o : Option ℕ) (b : ℕ) (t : List ℕ) (c : ℕ) (rest : List ℕ) → unescaped b ≡ o → short_escape o (b ∷ t) ≡ Ok (c, rest) → IsCharacter (92 ∷ b ∷ t) c rest
short_found None b t c rest o e = absurd cc
short_found (Some d) b t c rest o e =
    let p = ok_parts {F = Fault} (d, t) (c, rest) e in
    subst (λ (v : List ℕ). IsCharacter (92 ∷ b ∷ t) c v) p.1 (subst (λ (v : ℕ). IsCharacter (92 ∷ b ∷ t) v t) p.0 (short o))

pub escape_found : (t : List ℕ) (c : ℕ) (rest : List ℕ) → escape (front t) t ≡ Ok (c, rest) → IsCharacter (92 ∷ t) c rest
escape_found [] c rest e = absurd cc
escape_found (b ∷ t) c rest e =
    elim (chosen (b == 117) (unicode t) (short_escape (unescaped b) (b ∷ t)) (Ok (c, rest)) e) [
      | inl h ↦ subst (λ (x : ℕ). IsCharacter (92 ∷ x ∷ t) c rest) (sym (eqb-true b 117 h.0)) (unicode_found t c rest h.1)
      | inr h ↦ short_found (unescaped b) b t c rest refl h.1
    ]

high_as_is : (c : ℕ) → 128 ≤ c → stands_as_is c ≡ true
high_as_is c h = rw (le-leb 32 c (omega arith), other c 34 (λ k. omega arith), other c 92 (λ k. omega arith)) refl where
  other : (c k : ℕ) → (c ≡ k → ⊥) → (c == k) ≡ false
  other c k h = elim (chosen_is (c == k)) [ inl e ↦ absurd (h (eqb-true c k e)) | inr e ↦ e ]

-- a character and its first byte pass alike
pub as_first : (c b : ℕ) (t rest : List ℕ) → b ∷ t ≡ encode_utf8 c ++ rest → stands_as_is b ≡ stands_as_is c
as_first c b t rest e = elim (first_byte c b t rest e) [ inl h ↦ ap stands_as_is h.0 | inr h ↦ high_as_is b h.0 ∙ sym (high_as_is c h.1) ]

pub character_found : (t : List ℕ) (c : ℕ) (rest : List ℕ) → character t ≡ Ok (c, rest) → IsCharacter t c rest
unfolding character
character_found [] c rest e = absurd cc
character_found (b ∷ t) c rest e =
    elim (chosen (b == 92) (escape (front t) t) (cond (stands_as_is b) (utf8_character Syntax (b ∷ t)) (stop Syntax (b ∷ t))) (Ok (c, rest)) e) [
      | inl h ↦ subst (λ (x : ℕ). IsCharacter (x ∷ t) c rest) (sym (eqb-true b 92 h.0)) (escape_found t c rest h.1)
      | inr h ↦ elim (chosen (stands_as_is b) (utf8_character Syntax (b ∷ t)) (stop Syntax (b ∷ t)) (Ok (c, rest)) h.1) [
        | inl k ↦
            let q = utf8_found Syntax (b ∷ t) c rest k.1 in
            subst (λ (v : List ℕ). IsCharacter v c rest) (sym q.1) (itself q.0 (sym (as_first c b t rest q.1) ∙ k.0))
        | inr k ↦ absurd (let w = k.1 in cc)
      ]
    ]

some_is : (x c : ℕ) → Some x ≡ Some c → x ≡ c
some_is x c e = cc

-- a chain of tests of a byte, each with a code below 55,296
step_small : (t : Bool) (x c : ℕ) (more : Option ℕ) → x < 55296 → cond t (Some x) more ≡ Some c → (more ≡ Some c → c < 55296) → c < 55296
step_small true x c more l e next = subst (λ (y : ℕ). y < 55296) (some_is x c e) l
step_small false x c more l e next = next e

unescaped_small : (b c : ℕ) → unescaped b ≡ Some c → c < 55296
unescaped_small b c e =
    step_small (b == 34) 34 c _ (omega arith) e (λ e. step_small (b == 92) 92 c _ (omega arith) e (λ e. step_small (b == 47) 47 c _ (omega arith) e (λ e. step_small (b == 98) 8 c _ (omega arith) e
    (λ e. step_small (b == 102) 12 c _ (omega arith) e (λ e. step_small (b == 110) 10 c _ (omega arith) e (λ e. step_small (b == 114) 13 c _ (omega arith) e (λ e. step_small (b == 116) 9 c None (omega arith) e (λ e. absurd cc))))))))

-- the code of a character is one
pub is_scalar : {t rest : List ℕ} {c : ℕ} → IsCharacter t c rest → IsScalar c
is_scalar (itself s p) = s
is_scalar (short {b = b} {c = c} e) = low_scalar c (unescaped_small b c e)
is_scalar (whole u s) = s
is_scalar (halves {high = h} {low = l} a b p q) =
    let r = and_parts (nat_le 0xD800 h) (nat_lt h 0xDC00) p in
    let s = and_parts (nat_le 0xDC00 l) (nat_lt l 0xE000) q in
    let r0 = leb-true 0xD800 h r.0 in
    let r1 = leb-true (suc h) 0xDC00 r.1 in
    let s0 = leb-true 0xDC00 l s.0 in
    let s1 = leb-true (suc l) 0xE000 s.1 in
    high_scalar (surrogate_pair_char h l) (omega arith) (omega arith)
