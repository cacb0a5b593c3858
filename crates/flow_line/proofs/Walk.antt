-- The strict reader goes from token to token, past numbers in range alone, up to its fault.
use Rattle.std.proofs.Common.{◌≡◌, ℕ, zero, suc, ◌≤◌, Bool, true, false, cond, ◌||◌, ◌⊎◌, List, [], ◌∷◌, ◌++◌, length, drop, Some, Ok, Err, refl, sym, ap, subst, ◌∙◌, arith, inl, inr}
use Rattle.std.specs.Prelude.{codes, ◌==◌, not}
use Rattle.std.specs.List.{list_all}
use Rattle.std.proofs.lemmas.Bool.{eqb-true, or_cases, and_parts}
use Rattle.ha_value.specs.declared.value.Num.{Num}
use Rattle.ha_value.specs.declared.value.Value.{Value}
use Rattle.ha_value.specs.declared.value.Value.TheVariants.{Null, Flag, Number, Text, Items, Pairs}
use Rattle.ha_value.specs.Numbers.{is_in_range, kept_in_range}
use Rattle.reading.specs.Answer.{◌>>=◌, Answer, front, made, stop}
use Rattle.reading.specs.Bytes.{is_blank, sees, skip, expect}
use Rattle.reading.specs.Rows.{after_item, row, closed_by}
use Rattle.reading.proofs.Basics.{bind_err, chosen_is, ok_parts, Sound, Complete}
use Rattle.reading.proofs.Bytes.{byte_left, expect_found, sees_front}
use Rattle.flow_line.specs.declared.fault.Code.{Code}
use Rattle.flow_line.specs.declared.fault.Code.TheVariants.{Syntax, RepeatedKey, Depth}
use Rattle.ha_value.specs.Numbers.{begins_number}
use Rattle.flow_line.specs.Text.{Reads, text, string}
use Rattle.flow_line.specs.Reading.{numeral, has_key, key, pair, items, Start, of_null, of_true, of_false, quote, bracket, brace, numeric, nothing, start_of, ended}
use Rattle.flow_line.specs.Grammar.{IsNumber, number as number_of}
use Rattle.flow_line.specs.Refused.{IsToken, quoted, numeral as numeral_of, single}
use Rattle.flow_line.proofs.ByteRanges.{Fault}
use Rattle.flow_line.proofs.Found.{string_found}
use Rattle.flow_line.proofs.StringsRead.{string_read}
use Rattle.flow_line.proofs.StringLaws.{text_syntax, text_local}
use Rattle.flow_line.proofs.Shorter.{IsStart, is_start}
use Rattle.flow_line.proofs.Numbers.{number_front, number_found, number_is_read, number_by}
use Rattle.flow_line.proofs.NumberLaws.{numeral_open, numeral_local, range_stops}
use Rattle.flow_line.proofs.Values.{value_over, maps_with, value_with, document_with, all_seen}
use Rattle.flow_line.proofs.Whole.{AnySize, InRange, any_size, keeps_in_range}
use Rattle.flow_line.proofs.Reach.{Inside, local_inside}
use Rattle.flow_line.proofs.Agree.{in_range_only, of_any_size}
use Rattle.flow_line.proofs.OneFault.{no_quote, neither, numeral_ends}

-- tokens whose numbers are in range
pub data Passed : List ℕ → List ℕ → Type 0 where
  none_passed : {t : List ℕ} → Passed t t
  one_passed : {t m rest : List ℕ} → IsToken t m → ((n : Num) (behind : List ℕ) → IsNumber AnySize t n behind → is_in_range n ≡ true) → Passed m rest → Passed t rest

joined : {t u w : List ℕ} → Passed t u → Passed u w → Passed t w
joined none_passed p = p
joined (one_passed here kept others) p = one_passed here kept (joined others p)

-- a fault stands where a token begins, or behind that in what is no token
pub record Met (t : List ℕ) (f : Fault) : Type 0 where
  pub last : List ℕ
  pub so_far : Passed t last
  pub at : (f.left ≡ length last) ⊎ ((f.left ≤ length last) × (f.code ≡ Syntax) × ((rest : List ℕ) → IsToken last rest → ⊥))

Walked : {A : Type 0} → List ℕ → Answer ℕ Fault A → Type 0
Walked t (Ok x) = Passed t x.1
Walked t (Err f) = Met t f

abbrev Walks : {A : Type 0} → Reads A → Type 0
Walks p = (t : List ℕ) → Walked t (p t)

-- ---- single bytes

no_number : (b : ℕ) (t : List ℕ) → begins_number b ≡ false → (n : Num) (behind : List ℕ) → IsNumber AnySize (b ∷ t) n behind → ⊥
no_number b t h n behind here =
    let l = number_front here in
    let same : b ≡ l.0 = (let e = l.2 in cc) in
    let w : true ≡ false = sym l.3 ∙ ap begins_number (sym same) ∙ h in
    cc

abbrev Plain : ℕ → Type 0
Plain b = (b == 34 || begins_number b) ≡ false

byte_passed : {t : List ℕ} (b : ℕ) → Plain b → Passed (b ∷ t) t
byte_passed {t} b h = one_passed (single h) (λ n behind here. absurd (no_number b t (neither (b == 34) (begins_number b) h).1 n behind here)) none_passed

plain_blank : (b : ℕ) → is_blank b ≡ true → Plain b
plain_blank b h = elim (or_cases (b == 32) (b == 9) h) [
  | inl k ↦ ap (λ (x : ℕ). x == 34 || begins_number x) (eqb-true b 32 k)
  | inr k ↦ ap (λ (x : ℕ). x == 34 || begins_number x) (eqb-true b 9 k)
]

blanks_passed : (t : List ℕ) → Passed t (skip t)
unfolding skip
blanks_passed [] = none_passed
blanks_passed (b ∷ t) = elim (chosen_is (is_blank b)) [
  | inl h ↦ rw h (joined (byte_passed b (plain_blank b h)) (blanks_passed t))
  | inr h ↦ rw h none_passed
]

-- ---- rules

walked_on : {A : Type 0} {t u : List ℕ} (a : Answer ℕ Fault A) → Passed t u → Walked u a → Walked t a
unfolding Walked
walked_on (Ok x) p h = joined p h
walked_on (Err f) p m = record { last = m.last; so_far = joined p m.so_far; at = m.at }

bind_walks : {A B : Type 0} (p : Reads A) (q : A → Reads B) → Walks p → ((x : A) → Walks (q x)) → Walks (λ t. p t >>= λ x. q x.0 x.1)
unfolding Walked
bind_walks {A} p q wp wq t = step (p t) (wp t) where
  step : (a : Answer ℕ Fault A) → Walked t a → Walked t (a >>= λ x. q x.0 x.1)
  step (Ok x) h = walked_on (q x.0 x.1) h (wq x.0 x.1)
  step (Err f) h = h

ok_walks : {A : Type 0} (x : A) → Walks (λ t. Ok (x, t))
unfolding Walked
ok_walks x t = none_passed

stop_walks : (A : Type 0) (code : Code) → Walks {A = A} (stop code)
unfolding Walked
stop_walks A code t = record { last = t; so_far = none_passed; at = inl refl }

made_walked : {A B : Type 0} (m : A → B) (t : List ℕ) (a : Answer ℕ Fault A) → Walked t a → Walked t (made m a)
unfolding Walked
made_walked m t (Ok x) h = h
made_walked m t (Err f) h = h

skip_walks : {A : Type 0} (p : Reads A) → Walks p → Walks (λ t. p (skip t))
skip_walks p w t = walked_on (p (skip t)) (blanks_passed t) (w (skip t))

-- behind a byte that stands there
behind_byte : {A : Type 0} (p : Reads A) → Walks p → (b : ℕ) → Plain b → (t : List ℕ) → t ≡ b ∷ drop 1 t → Walked t (p (drop 1 t))
behind_byte p w b h t at = walked_on (p (drop 1 t)) (subst (λ (u : List ℕ). Passed u (drop 1 t)) (sym at) (byte_passed b h)) (w (drop 1 t))

end_walks : {A : Type 0} (end : ℕ) → Plain end → (x : A) (q : Reads A) → Walks q → Walks (λ t. cond (sees end t) (Ok (x, drop 1 t)) (q t))
end_walks end h x q w t = elim (chosen_is (sees end t)) [
  | inl k ↦ rw k (behind_byte (λ u. Ok (x, u)) (ok_walks x) end h t (sees_front end t k))
  | inr k ↦ rw k (w t)
]

abbrev plain_word : List ℕ → Bool
plain_word ws = list_all (λ b. not (b == 34 || begins_number b)) ws

word_walks : (ws : List ℕ) → plain_word ws ≡ true → Walks (expect Syntax ws)
unfolding expect Walked
word_walks [] h t = none_passed
word_walks (w ∷ ws) h [] = record { last = []; so_far = none_passed; at = inl refl }
word_walks (w ∷ ws) h (b ∷ t) = elim (chosen_is (b == w)) [
  | inl k ↦
      let p = and_parts (not (w == 34 || begins_number w)) (list_all (λ b. not (b == 34 || begins_number b)) ws) h in
      let plain : Plain b = subst (λ (x : ℕ). Plain x) (sym (eqb-true b w k)) (is_not (w == 34 || begins_number w) p.0) in
      rw k (walked_on (expect Syntax ws t) (byte_passed b plain) (word_walks ws p.1 t))
  | inr k ↦ rw k (record { last = b ∷ t; so_far = none_passed; at = inl refl })
] where
  is_not : (x : Bool) → not x ≡ true → x ≡ false
  is_not true e = absurd cc
  is_not false e = refl

-- ---- strings

not_both : {A : Type 0} (a : Answer ℕ Fault A) (x : A × List ℕ) (f : Fault) → a ≡ Ok x → a ≡ Err f → ⊥
not_both a x f e g = cc

broken_string : {t rest : List ℕ} (f : Fault) → IsToken t rest → sees 34 t ≡ true → string t ≡ Err f → ⊥
broken_string {t} f (quoted {s = s} {rest = rest} here) at e = not_both (string t) (s, rest) f (string_read here) e
broken_string {t} f (numeral_of {rest = rest} here) at e =
    let l = number_front here in
    let k : true ≡ false = sym at ∙ ap (sees 34) l.2 ∙ no_quote l.0 l.3 in
    cc
broken_string f (single {b = b} h) at e = let k : true ≡ false = sym at ∙ (neither (b == 34) (begins_number b) h).0 in cc

string_walked : (t : List ℕ) (a : Answer ℕ Fault (List ℕ)) → string t ≡ a → Walked t a
unfolding Walked string Inside
string_walked t (Ok x) e =
    let s = string_found t x.0 x.1 e in
    subst (λ (u : List ℕ). Passed u x.1) (sym s.1) (one_passed (quoted s.2) (λ n behind here. absurd (no_number 34 s.0 refl n behind here)) none_passed)
string_walked t (Err f) e = elim (bind_err (expect Syntax (codes "\"") t) (λ q. text q.1) f e) [
  | inl h ↦ record { last = t; so_far = none_passed; at = inl (byte_left Syntax 34 t f h) }
  | inr h ↦
      let at : t ≡ 34 ∷ h.0.1 = expect_found Syntax (codes "\"") t h.0.0 h.0.1 h.1 in
      let within : f.left ≤ length h.0.1 = subst (λ (a : Answer ℕ Fault (List ℕ)). Inside h.0.1 a) h.2 (local_inside text text_local h.0.1) in
      record { last = t; so_far = none_passed; at = inr (omega (arith, ap length at), text_syntax h.0.1 f h.2, λ rest here. broken_string f here (ap (sees 34) at) e) }
]

string_walks : Walks string
string_walks t = string_walked t (string t) refl

key_walks : (found : List (List ℕ × Value)) → Walks (key found)
unfolding key Walked
key_walks found t = by_string (string t) (string_walks t) where
  by_string : (a : Answer ℕ Fault (List ℕ)) → Walked t a → Walked t (a >>= λ k. cond (has_key found k.0) (stop RepeatedKey t) (Ok k))
  by_string (Err f) h = h
  by_string (Ok k) h = elim (chosen_is (has_key found k.0)) [
    | inl e ↦ rw e (record { last = t; so_far = none_passed; at = inl refl })
    | inr e ↦ rw e h
  ]

-- ---- numbers

broken_number : {t rest : List ℕ} (f : Fault) (b : ℕ) → IsToken t rest → front t ≡ Some b → begins_number b ≡ true → numeral t ≡ Err f → ⊥
broken_number f b (quoted here) at h e = let same : 34 ≡ b = cc in let k : true ≡ false = sym h ∙ ap begins_number (sym same) in cc
broken_number {t} f b (numeral_of {rest = rest} here) at h e = not_both (numeral t) (tt, rest) f (numeral_ends here) e
broken_number f b (single {b = c} plain) at h e =
    let same : c ≡ b = cc in
    let k : true ≡ false = sym h ∙ ap begins_number (sym same) ∙ (neither (c == 34) (begins_number c) plain).1 in
    cc

sized_read : Complete of_any_size (IsNumber AnySize)
sized_read = number_is_read any_size AnySize (λ n h. refl)

eased_number : {t rest : List ℕ} {n : Num} → IsNumber InRange t n rest → IsNumber AnySize t n rest
eased_number (number_of u e ends ok) = number_of u e ends tt

range_of : {t rest : List ℕ} {n : Num} → IsNumber InRange t n rest → is_in_range n ≡ true
range_of (number_of u e ends ok) = ok

strict_found : Sound in_range_only (IsNumber InRange)
strict_found = number_found kept_in_range InRange keeps_in_range

number_walked : (b : ℕ) (t : List ℕ) → front t ≡ Some b → begins_number b ≡ true → (a : Answer ℕ Fault Num) → in_range_only t ≡ a → Walked t a
unfolding Walked Sound Complete number_by Inside
number_walked b t at h (Ok x) e =
    let here : IsNumber InRange t x.0 x.1 = strict_found t x.0 x.1 e in
    let same : (n : Num) (behind : List ℕ) → IsNumber AnySize t n behind → x.0 ≡ n =
    λ n behind there. (ok_parts {F = Fault} x (n, behind) (sym (sized_read t x.0 x.1 (eased_number here)) ∙ sized_read t n behind there)).0 in
    one_passed (numeral_of (eased_number here)) (λ n behind there. ap is_in_range (sym (same n behind there)) ∙ range_of here) none_passed
number_walked b t at h (Err f) e = elim (bind_err (numeral t) _ f e) [
  | inl k ↦
      let o = numeral_open t f k in
      let within : f.left ≤ length t = subst (λ (a : Answer ℕ Fault (Unit {0})). Inside t a) k (local_inside numeral numeral_local t) in
      record { last = t; so_far = none_passed; at = inr (within, o.coded, λ rest here. broken_number f b here at h k) }
  | inr k ↦ record { last = t; so_far = none_passed; at = inl (range_stops _ t k.0.1 f k.2) }
]

-- what begins as a number does
numeric_front : (t : List ℕ) → start_of (front t) ≡ numeric → (b : ℕ) × (front t ≡ Some b) × (begins_number b ≡ true)
numeric_front [] e = absurd cc
numeric_front (b ∷ t) e = elim (chosen_is (begins_number b)) [
  | inl h ↦ (b, refl, h)
  | inr h ↦ absurd (other (b == 110) (b == 116) (b == 102) (b == 34) (b == 91) (b == 123) (rw h at e))
] where
  other : (u v w x y z : Bool) → cond u of_null (cond v of_true (cond w of_false (cond x quote (cond y bracket (cond z brace nothing))))) ≡ numeric → ⊥
  other true v w x y z e = cc
  other false true w x y z e = cc
  other false false true x y z e = cc
  other false false false true y z e = cc
  other false false false false true z e = cc
  other false false false false false true e = cc
  other false false false false false false e = cc

-- ---- lists and maps

module _ {A : Type 0} (end : ℕ) (plain : Plain end) (item : List A → Reads A) (walks : (found : List A) → Walks (item found)) where
  row_walks : (n : ℕ) (found : List A) → Walks (row Syntax end item n found)
  unfolding row
  row_walks zero found = stop_walks (List A) Syntax
  row_walks (suc n) found = bind_walks (item found) (λ x. after_item Syntax end (found ++ x ∷ []) (row Syntax end item n (found ++ x ∷ []))) (walks found)
      (λ x.
      let all : List A = found ++ x ∷ [] in
      skip_walks (λ u. cond (sees end u) (Ok (all, drop 1 u)) (expect Syntax (codes ",") u >>= λ comma. row Syntax end item n all (skip comma.1)))
      (end_walks end plain all (λ u. expect Syntax (codes ",") u >>= λ comma. row Syntax end item n all (skip comma.1))
      (bind_walks (expect Syntax (codes ",")) (λ _ u. row Syntax end item n all (skip u)) (word_walks (codes ",") refl) (λ _. skip_walks (row Syntax end item n all) (row_walks n all)))))

  closed_walks : Walks (closed_by Syntax end item)
  unfolding closed_by
  closed_walks =
      skip_walks (λ u. cond (sees end u) (Ok ([], drop 1 u)) (row Syntax end item (suc (length u)) [] u)) (end_walks end plain [] (λ u. row Syntax end item (suc (length u)) [] u) (λ u. row_walks (suc (length u)) [] u))

pair_walks : (val : Reads Value) → Walks val → (found : List (List ℕ × Value)) → Walks (pair val found)
unfolding pair
pair_walks val w found =
    bind_walks (key found) (λ k u. expect Syntax (codes ":") (skip u) >>= λ colon. val (skip colon.1) >>= λ v. Ok ((k, v.0), v.1)) (key_walks found)
    (λ k. skip_walks (λ u. expect Syntax (codes ":") u >>= λ colon. val (skip colon.1) >>= λ v. Ok ((k, v.0), v.1))
    (bind_walks (expect Syntax (codes ":")) (λ _ u. val (skip u) >>= λ v. Ok ((k, v.0), v.1)) (word_walks (codes ":") refl)
    (λ _. skip_walks (λ u. val u >>= λ v. Ok ((k, v.0), v.1)) (bind_walks val (λ v u. Ok ((k, v), u)) w (λ v. ok_walks (k, v))))))

-- ---- values

module _ (t : List ℕ) (lists : Reads (List Value)) (maps : Reads (List (List ℕ × Value))) (lists_walk : t ≡ 91 ∷ drop 1 t → Walked t (lists t)) (maps_walk : t ≡ 123 ∷ drop 1 t → Walked t (maps t)) where
  word_walked : (word : List ℕ) (v : Value) → plain_word word ≡ true → Walked t (made (λ _. v) (expect Syntax word t))
  word_walked word v h = made_walked (λ _. v) t (expect Syntax word t) (word_walks word h t)

  by_start : (s : Start) → start_of (front t) ≡ s → IsStart s t → Walked t (value_over in_range_only s lists maps t)
  unfolding IsStart string expect
  by_start of_null is at = word_walked (codes "null") Null refl
  by_start of_true is at = word_walked (codes "true") (Flag true) refl
  by_start of_false is at = word_walked (codes "false") (Flag false) refl
  by_start quote is at = made_walked Text t (text (drop 1 t)) (subst (λ (a : Answer ℕ Fault (List ℕ)). Walked t a) (ap string at) (string_walks t))
  by_start numeric is at = let n = numeric_front t is in made_walked Number t (in_range_only t) (number_walked n.0 t n.1 n.2 (in_range_only t) refl)
  by_start bracket is at = made_walked Items t (lists t) (lists_walk at)
  by_start brace is at = made_walked Pairs t (maps t) (maps_walk at)
  by_start nothing is at = stop_walks Value Syntax t

  over_walked : Walked t (value_over in_range_only (start_of (front t)) lists maps t)
  over_walked = by_start (start_of (front t)) refl (is_start t)

value_walks : (k : ℕ) → Walks (value_with all_seen in_range_only k)
unfolding value_with items
value_walks zero t = over_walked t (stop Depth) (stop Depth) (λ at. stop_walks (List Value) Depth t) (λ at. stop_walks (List (List ℕ × Value)) Depth t)
value_walks (suc k) t =
    let val : Reads Value = value_with all_seen in_range_only k in
    let in_list : Reads (List Value) = closed_by Syntax 93 (λ found. val) in
    let in_map : Reads (List (List ℕ × Value)) = maps_with all_seen val in
    over_walked t (λ t. in_list (drop 1 t)) (λ t. in_map (drop 1 t)) (λ at. behind_byte in_list (closed_walks 93 refl (λ found. val) (λ found. value_walks k)) 91 refl t at)
    (λ at. behind_byte in_map (closed_walks 125 refl (λ found. pair val found) (λ found. pair_walks val (value_walks k) found)) 123 refl t at)

end_walked : (v : Value) → Walks (λ u. cond (ended (front u)) (Ok (v, u)) (stop Syntax u))
end_walked v t = elim (chosen_is (ended (front t))) [ inl h ↦ rw h (ok_walks v t) | inr h ↦ rw h (stop_walks Value Syntax t) ]

document_walks : (k : ℕ) → Walks (document_with all_seen in_range_only k)
unfolding document_with
document_walks k = bind_walks (value_with all_seen in_range_only k) (λ v u. cond (ended (front u)) (Ok (v, u)) (stop Syntax u)) (value_walks k) end_walked

pub document_met : (k : ℕ) (t : List ℕ) (f : Fault) → document_with all_seen in_range_only k t ≡ Err f → Met t f
unfolding Walked
document_met k t f e = subst (λ (a : Answer ℕ Fault Value). Walked t a) e (document_walks k t)
