-- Two first faults of a text are one: up to the later one a reading goes on, which the earlier one says that there is none of.
use Rattle.std.proofs.Common.{◌≡◌, ℕ, zero, suc, ◌<◌, ◌≤◌, Bool, true, false, cond, ◌||◌, ◌⊎◌, List, [], ◌∷◌, ◌++◌, length, take, drop, Ok, Err, refl, sym, ap, subst, ◌∙◌, append_assoc, length-append, arith, inl, inr}
use Rattle.std.specs.Prelude.{◌==◌}
use Rattle.std.proofs.lemmas.Bool.{eqb-true}
use Rattle.ha_value.specs.declared.value.Num.{Num}
use Rattle.ha_value.specs.declared.value.Value.{Value}
use Rattle.reading.specs.Answer.{Answer, front}
use Rattle.reading.proofs.Basics.{chosen_is}
use Rattle.flow_line.specs.declared.fault.Code.{Code}
use Rattle.flow_line.specs.declared.fault.Code.TheVariants.{Syntax, RepeatedKey, Depth, Range}
use Rattle.ha_value.specs.Numbers.{begins_number}
use Rattle.flow_line.specs.Text.{string}
use Rattle.flow_line.specs.Reading.{numeral}
use Rattle.flow_line.specs.Grammar.{IsNumber, number as number_of, IsUnbounded}
use Rattle.flow_line.specs.Refused.{SameKey, SameNumber, is_bracket, IsToken, quoted, numeral as numeral_of, single, AreTokens, no_token, one_token, IsPlace, MayStand, IsFirstFault}
use Rattle.flow_line.proofs.ByteRanges.{Fault}
use Rattle.flow_line.proofs.Found.{string_longer}
use Rattle.flow_line.proofs.StringsRead.{string_read}
use Rattle.flow_line.proofs.StringLaws.{string_framed}
use Rattle.flow_line.proofs.Numbers.{number_front, number_longer, numeral_read, shape_of}
use Rattle.flow_line.proofs.Whole.{AnySize}
use Rattle.flow_line.proofs.Notation.{a_notation}

-- ---- tokens

left_by : {A : Type 0} → Answer ℕ Fault A → List ℕ
left_by (Ok x) = x.1
left_by (Err f) = []

-- what a token leaves
behind_token : List ℕ → List ℕ
behind_token [] = []
behind_token (b ∷ t) = cond (b == 34) (left_by (string (b ∷ t))) (cond (begins_number b) (left_by (numeral (b ∷ t))) t)

pub no_quote : (b : ℕ) → begins_number b ≡ true → (b == 34) ≡ false
no_quote b h = elim (chosen_is (b == 34)) [
  | inl e ↦ absurd (let w : begins_number b ≡ false = ap begins_number (eqb-true b 34 e) in let k : true ≡ false = sym h ∙ w in cc)
  | inr e ↦ e
]

pub neither : (x y : Bool) → (x || y) ≡ false → (x ≡ false) × (y ≡ false)
neither true y e = absurd (let k : true ≡ false = e in cc)
neither false y e = (refl, e)

pub numeral_ends : {t rest : List ℕ} {n : Num} → IsNumber AnySize t n rest → numeral t ≡ Ok (tt, rest)
numeral_ends (number_of text {rest = rest} {n = n} e ends ok) = numeral_read (shape_of text n e) rest ends

numeric_behind : (b : ℕ) (t : List ℕ) → begins_number b ≡ true → behind_token (b ∷ t) ≡ left_by (numeral (b ∷ t))
unfolding behind_token
numeric_behind b t h = rw (no_quote b h, h) refl

token_leaves : {t rest : List ℕ} → IsToken t rest → behind_token t ≡ rest
unfolding behind_token left_by
token_leaves (quoted here) = ap left_by (string_read here)
token_leaves {t} (numeral_of {rest = rest} here) =
    let l = number_front here in
    ap behind_token l.2 ∙ numeric_behind l.0 (l.1 ++ rest) l.3 ∙ ap (λ (u : List ℕ). left_by (numeral u)) (sym l.2) ∙ ap left_by (numeral_ends here)
token_leaves (single {b = b} {rest = rest} h) = let k = neither (b == 34) (begins_number b) h in rw (k.0, k.1) refl

pub same_rest : {t a b : List ℕ} → IsToken t a → IsToken t b → a ≡ b
same_rest x y = sym (token_leaves x) ∙ token_leaves y

pub token_longer : {t rest : List ℕ} → IsToken t rest → length rest < length t
token_longer (quoted here) = omega (arith, string_longer here)
token_longer (numeral_of here) = number_longer here
token_longer (single h) = omega arith

pub tokens_longer : {t rest : List ℕ} → AreTokens t rest → length rest ≤ length t
tokens_longer no_token = omega arith
tokens_longer (one_token here others) = omega (arith, token_longer here, tokens_longer others)

-- of two places at which tokens begin one is behind the other
pub in_order : {t u w : List ℕ} → AreTokens t u → AreTokens t w → (AreTokens u w) ⊎ (AreTokens w u)
in_order no_token b = inl b
in_order (one_token here others) no_token = inr (one_token here others)
in_order {t} {u} {w} (one_token {middle = m} here others) (one_token {middle = n} there rest) =
    let same : n ≡ m = same_rest there here in
    in_order others (subst (λ (v : List ℕ). AreTokens v w) same rest)

further : {t left behind : List ℕ} → AreTokens t left → IsToken t behind → length left < length t → length left ≤ length behind
further no_token here lt = absurd (omega arith)
further (one_token {middle = m} there others) here lt =
    let same : m ≡ _ = same_rest there here in
    omega (arith, tokens_longer others, ap length same)

pub over_place : (text left : List ℕ) (code : Code) → IsPlace code text left → (t behind : List ℕ) → AreTokens text t → IsToken t behind → length left < length t → length left ≤ length behind
over_place text left code place t behind so_far here lt = by_code code place where
  begun : AreTokens text left → length left ≤ length behind
  begun place = elim (in_order so_far place) [ inl h ↦ further h here lt | inr h ↦ absurd (omega (arith, tokens_longer h)) ]

  by_code : (code : Code) → IsPlace code text left → length left ≤ length behind
  by_code Syntax place = place t behind so_far here lt
  by_code RepeatedKey place = begun place
  by_code Depth place = begun place
  by_code Range place = begun place

-- ---- the earlier of two faults

-- two cuts of a text
pub split_longer : (a b x y : List ℕ) → a ++ x ≡ b ++ y → length y ≤ length x → (mid : List ℕ) × (b ≡ a ++ mid) × (x ≡ mid ++ y)
split_longer [] b x y e h = (b, refl, e)
split_longer (c ∷ a) [] x y e h = absurd (omega (arith, ap length e, length-append a x))
split_longer (c ∷ a) (d ∷ b) x y e h =
    let heads : c ≡ d = cc in
    let tails : a ++ x ≡ b ++ y = cc in
    let k = split_longer a b x y tails h in
    (k.0, (let l = k.1 in cc), k.2)

parts_at : (n : ℕ) (t : List ℕ) → t ≡ take n t ++ drop n t
parts_at zero t = refl
parts_at (suc n) [] = refl
parts_at (suc n) (b ∷ t) = ap (λ (u : List ℕ). b ∷ u) (parts_at n t)

long_left : (p q : ℕ) (t : List ℕ) → p < q → q ≤ length t → length (drop q t) < length (drop p t)
long_left p zero t lt h = absurd (omega arith)
long_left p (suc q) [] lt h = absurd (omega arith)
long_left zero (suc q) (b ∷ t) lt h = omega (arith, dropped q t) where
  dropped : (q : ℕ) (t : List ℕ) → length (drop q t) ≤ length t
  dropped zero t = omega arith
  dropped (suc q) [] = omega arith
  dropped (suc q) (b ∷ t) = omega (arith, dropped q t)
long_left (suc p) (suc q) (b ∷ t) lt h = long_left p q t (omega arith) (omega arith)

pub same_next : (mid x y : List ℕ) → length y < length (mid ++ y) → front (mid ++ x) ≡ front (mid ++ y)
same_next [] x y h = absurd (omega arith)
same_next (b ∷ mid) x y h = refl

differ : {b : Bool} → b ≡ true → b ≡ false → ⊥
differ p q = cc

module _ (text : List ℕ) (p q : ℕ) (lt : p < q) (d : Code) (later : IsFirstFault text q d) where
  abbrev left : List ℕ
  left = drop p text

  abbrev ending : List ℕ
  ending = drop q text

  less : length ending < length left
  less = long_left p q text lt later.within

  -- a reading goes on behind the earlier place with its next byte
  goes_by : (other : List ℕ) × (v : Value) × (front other ≡ front left) × IsUnbounded (take p text ++ other) v
  goes_by =
      let g = later.goes_on in
      let cut = split_longer (take p text) (take q text) left ending (sym (parts_at p text) ∙ parts_at q text) (let l = less in omega arith) in
      let mid : List ℕ = cut.0 in
      let same : take q text ++ g.0 ≡ take p text ++ (mid ++ g.0) = ap (λ (u : List ℕ). u ++ g.0) cut.1 ∙ append_assoc (take p text) mid g.0 in
      let next : front (mid ++ g.0) ≡ front left = same_next mid g.0 ending (let l = less in omega (arith, ap length cut.2)) ∙ ap front (sym cut.2) in
      (mid ++ g.0, g.1, next, subst (λ (u : List ℕ). IsUnbounded u g.1) same g.2)

  -- with its key, which was closed
  goes_key : (k : SameKey left left) → AreTokens text left → (other : List ℕ) × (v : Value) × SameKey left other × IsUnbounded (take p text ++ other) v
  goes_key k place =
      let g = later.goes_on in
      let token : IsToken left k.rest = subst (λ (u : List ℕ). IsToken u k.rest) (sym k.a_is) (quoted k.a_key) in
      let closed : length ending ≤ length k.rest = over_place text ending d later.place left k.rest place token less in
      let n = string_framed k.a_key in
      let front_part : List ℕ = take p text ++ 34 ∷ n.spelling in
      let whole : front_part ++ k.rest ≡ take q text ++ ending =
      append_assoc (take p text) (34 ∷ n.spelling) k.rest ∙ ap (λ (u : List ℕ). take p text ++ 34 ∷ u) (sym n.parts) ∙ ap (λ (u : List ℕ). take p text ++ u) (sym k.a_is) ∙ sym (parts_at p text) ∙ parts_at q text in
      let cut = split_longer front_part (take q text) k.rest ending whole closed in
      let tail : List ℕ = cut.0 ++ g.0 in
      let same : take q text ++ g.0 ≡ take p text ++ 34 ∷ (n.spelling ++ tail) =
      ap (λ (u : List ℕ). u ++ g.0) cut.1 ∙ append_assoc front_part cut.0 g.0 ∙ append_assoc (take p text) (34 ∷ n.spelling) tail in
      let alike : SameKey left (34 ∷ (n.spelling ++ tail)) =
      record { key = k.key; text = k.text; text' = n.spelling ++ tail; rest = k.rest; rest' = tail; a_is = k.a_is; b_is = refl; a_key = k.a_key; b_key = n.again tail } in
      (34 ∷ (n.spelling ++ tail), g.1, alike, subst (λ (u : List ℕ). IsUnbounded u g.1) same g.2)

  no_number : (s : SameNumber left left) → AreTokens text left → ⊥
  no_number s place =
      let ended : length ending ≤ length s.rest = over_place text ending d later.place left s.rest place (numeral_of s.a_number) less in
      differ (later.in_range left s.rest s.n place s.a_number ended) s.too_big

  by_code : (c : Code) → IsFirstFault text p c → ⊥
  by_code Syntax f = let g = goes_by in f.no_more g.0 g.2 32 g.1 (omega arith) (a_notation (take p text ++ g.0) g.1 g.3)
  by_code RepeatedKey f = let g = goes_key f.here f.place in f.no_more g.0 g.2 g.1 g.3
  by_code Depth f = let g = goes_by in f.no_more g.0 (g.2, f.here.1) g.1 g.3
  by_code Range f = no_number f.here f.place

not_earlier : (text : List ℕ) (p q : ℕ) (c d : Code) → IsFirstFault text p c → IsFirstFault text q d → p < q → ⊥
not_earlier text p q c d f g lt = by_code text p q lt d g c f

only_place : (p q : ℕ) → (p < q → ⊥) → (q < p → ⊥) → p ≡ q
only_place zero zero h k = refl
only_place zero (suc q) h k = absurd (h (omega arith))
only_place (suc p) zero h k = absurd (k (omega arith))
only_place (suc p) (suc q) h k = ap suc (only_place p q (λ l. h (omega arith)) (λ l. k (omega arith)))

pub same_place : (text : List ℕ) (p q : ℕ) (c d : Code) → IsFirstFault text p c → IsFirstFault text q d → p ≡ q
same_place text p q c d f g = only_place p q (not_earlier text p q c d f g) (not_earlier text q p d c g f)

-- ---- two faults at a place

no_syntax : (text : List ℕ) (p : ℕ) → IsFirstFault text p Syntax → MayStand (take p text) (drop p text) → ⊥
no_syntax text p f m = f.no_more m.other m.same m.depth m.v m.deep m.goes_on

no_key_bracket : {t : List ℕ} → SameKey t t → is_bracket (front t) ≡ true → ⊥
no_key_bracket k h = let e = ap (λ (u : List ℕ). is_bracket (front u)) k.a_is in let w : true ≡ false = sym h ∙ e in cc

no_key_number : {t : List ℕ} → SameKey t t → SameNumber t t → ⊥
no_key_number {t} k s =
    let l = number_front s.a_number in
    let heads : front (l.0 ∷ (l.1 ++ s.rest)) ≡ front (34 ∷ k.text) = ap front (sym l.2 ∙ k.a_is) in
    let same : l.0 ≡ 34 = cc in
    differ l.3 (ap begins_number same)

no_bracket_number : {t : List ℕ} → is_bracket (front t) ≡ true → SameNumber t t → ⊥
no_bracket_number {t} h s =
    let l = number_front s.a_number in
    let e : is_bracket (front t) ≡ (l.0 == 91 || l.0 == 123) = ap (λ (u : List ℕ). is_bracket (front u)) l.2 in
    differ h (e ∙ rw (no_sign 91 refl, no_sign 123 refl) refl) where
      no_sign : (k : ℕ) → begins_number k ≡ false → ((number_front s.a_number).0 == k) ≡ false
      no_sign k h = elim (chosen_is ((number_front s.a_number).0 == k)) [
        | inl e ↦ absurd (differ (number_front s.a_number).3 (ap begins_number (eqb-true (number_front s.a_number).0 k e) ∙ h))
        | inr e ↦ e
      ]

at_one_place : (text : List ℕ) (p : ℕ) (c d : Code) → IsFirstFault text p c → IsFirstFault text p d → c ≡ d
at_one_place text p Syntax Syntax f g = refl
at_one_place text p Syntax RepeatedKey f g = absurd (no_syntax text p f g.allowed)
at_one_place text p Syntax Depth f g = absurd (no_syntax text p f g.allowed)
at_one_place text p Syntax Range f g = absurd (no_syntax text p f g.allowed)
at_one_place text p RepeatedKey Syntax f g = absurd (no_syntax text p g f.allowed)
at_one_place text p RepeatedKey RepeatedKey f g = refl
at_one_place text p RepeatedKey Depth f g = absurd (no_key_bracket f.here g.here.1)
at_one_place text p RepeatedKey Range f g = absurd (no_key_number f.here g.here)
at_one_place text p Depth Syntax f g = absurd (no_syntax text p g f.allowed)
at_one_place text p Depth RepeatedKey f g = absurd (no_key_bracket g.here f.here.1)
at_one_place text p Depth Depth f g = refl
at_one_place text p Depth Range f g = absurd (no_bracket_number f.here.1 g.here)
at_one_place text p Range Syntax f g = absurd (no_syntax text p g f.allowed)
at_one_place text p Range RepeatedKey f g = absurd (no_key_number g.here f.here)
at_one_place text p Range Depth f g = absurd (no_bracket_number g.here.1 f.here)
at_one_place text p Range Range f g = refl

pub same_code : (text : List ℕ) (p q : ℕ) (c d : Code) → IsFirstFault text p c → IsFirstFault text q d → c ≡ d
same_code text p q c d f g = at_one_place text p c d f (subst (λ (n : ℕ). IsFirstFault text n d) (sym (same_place text p q c d f g)) g)
