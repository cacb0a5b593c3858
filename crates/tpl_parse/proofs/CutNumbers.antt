-- Numbers on two texts that begin alike.
use Rattle.std.proofs.Common.{◌≡◌, ℕ, zero, suc, ◌+◌, ◌-◌, ◌≤◌, ◌<◌, true, false, cond, not, ◌⊎◌, inl, inr, List, [], ◌∷◌, ◌++◌, length, take, drop, Option, Some, None, Ok, refl, sym, ap, ◌∙◌, subst, arith, length-append, append_assoc}
use Rattle.std.specs.Prelude.{◌==◌, ◌&&◌, is_none}
use Rattle.std.specs.List.{list_all}
use Rattle.std.specs.Char.{is_ascii_digit}
use Rattle.std.proofs.Math.ListN.{length-drop}
use Rattle.std.proofs.lemmas.Bool.{and_parts, cases_lt, eqb-true}
use Rattle.ha_value.specs.declared.value.Num.{Num}
use Rattle.ha_value.specs.Numbers.{read_number}
use Rattle.reading.specs.Answer.{front}
use Rattle.reading.proofs.Basics.{chosen_is}
use Rattle.reading.specs.Bytes.{skip_digits}
use Rattle.reading.proofs.Bytes.{length-skip_digits}
use Rattle.tpl_parse.specs.Token.{spaces}
use Rattle.tpl_parse.specs.Literal.{before, is_digit, begins_places, behind_number, number, in_range, before_range_end}
use Rattle.tpl_parse.proofs.Shorter.{length-behind_number}
use Rattle.tpl_parse.proofs.Cut.{Agree, same, fails, late, beyond, begun, agree_is}
use Rattle.tpl_parse.proofs.CutAtoms.{Dotted}

data DigitRun (c : List ℕ) : Type 0 where
  run_ends : (w : List ℕ) (f : ℕ) (v : List ℕ) → list_all is_ascii_digit w ≡ true → c ≡ w ++ f ∷ v → ((x : List ℕ) → skip_digits (c ++ x) ≡ f ∷ (v ++ x)) → DigitRun c
  run_goes : ((x : List ℕ) → skip_digits (c ++ x) ≡ skip_digits x) → DigitRun c

run_more : (b : ℕ) (c : List ℕ) → is_ascii_digit b ≡ true → DigitRun c → DigitRun (b ∷ c)
unfolding skip_digits
run_more b c h (run_ends w f v all is s) = run_ends (b ∷ w) f v (rw h all) (ap (λ (t : List ℕ). b ∷ t) is) (λ x. rw h (s x))
run_more b c h (run_goes s) = run_goes (λ x. rw h (s x))

run_of : (c : List ℕ) → DigitRun c
unfolding skip_digits
run_of [] = run_goes (λ x. refl)
run_of (b ∷ c) = elim (chosen_is (is_ascii_digit b)) [ inl h ↦ run_more b c h (run_of c) | inr h ↦ run_ends [] b c refl refl (λ x. rw h refl) ]

abbrev behind_whole : List ℕ → List ℕ
behind_whole whole = cond (begins_places whole) (skip_digits (drop 1 whole)) whole

-- where the number ends, or that it may go on; a dot at the end of what is known may be its own
data NumberCut (c : List ℕ) : Type 0 where
  number_ends : (v : List ℕ) → length v ≤ length c → ((x : List ℕ) → behind_number (c ++ x) ≡ v ++ x) → NumberCut c
  number_goes : ((x : List ℕ) → length (behind_number (c ++ x)) ≤ length x) → NumberCut c
  number_dot : (w : List ℕ) → list_all is_ascii_digit w ≡ true → c ≡ w ++ 46 ∷ [] → ((x : List ℕ) → (length (behind_number (c ++ x)) ≤ length x) ⊎ (behind_number (c ++ x) ≡ 46 ∷ x)) → NumberCut c

dot_open : (x : List ℕ) → (length (behind_whole (46 ∷ x)) ≤ length x) ⊎ (behind_whole (46 ∷ x) ≡ 46 ∷ x)
dot_open x = elim (chosen_is (is_digit (front x))) [ inl h ↦ inl (rw h (length-skip_digits x)) | inr h ↦ inr (rw h refl) ]

ends_within : (c w v : List ℕ) → c ≡ w ++ v → length v ≤ length c
ends_within c w v is = omega (arith, ap length is, length-append w v)

places_cut : (c : List ℕ) (g : ℕ) (v : List ℕ) → length (g ∷ v) ≤ length c → ((x : List ℕ) → behind_number (c ++ x) ≡ skip_digits (g ∷ (v ++ x))) → DigitRun (g ∷ v) → NumberCut c
places_cut c g v le s (run_ends w f u all is s') = number_ends (f ∷ u) (omega (arith, le, ends_within (g ∷ v) w (f ∷ u) is)) (λ x. s x ∙ s' x)
places_cut c g v le s (run_goes s') = number_goes (λ x. omega (arith, ap length (s x), ap length (s' x), length-skip_digits x))

number_by : (c : List ℕ) → DigitRun c → NumberCut c
number_by c (run_goes s) = number_goes (λ x. omega (arith, ap length (ap behind_whole (s x)), length-behind_number x))
number_by c (run_ends w f [] all is s) = elim (chosen_is (f == 46)) [
  | inl h ↦ number_dot w all (is ∙ ap (λ (z : ℕ). w ++ z ∷ []) (eqb-true f 46 h)) (λ x. rw (s x, eqb-true f 46 h) (dot_open x))
  | inr h ↦ number_ends (f ∷ []) (ends_within c w (f ∷ []) is) (λ x. ap behind_whole (s x) ∙ rw h refl)
]
number_by c (run_ends w f (g ∷ v) all is s) = elim (chosen_is (f == 46 && is_ascii_digit g)) [
  | inl h ↦ places_cut c g v (omega (arith, ends_within c w (f ∷ g ∷ v) is)) (λ x. ap behind_whole (s x) ∙ rw h refl) (run_of (g ∷ v))
  | inr h ↦ number_ends (f ∷ g ∷ v) (ends_within c w (f ∷ g ∷ v) is) (λ x. ap behind_whole (s x) ∙ rw h refl)
]

-- ---- the front of a list

pub take_front : (k : ℕ) (c x : List ℕ) → k ≤ length c → take k (c ++ x) ≡ take k c
take_front zero c x le = refl
take_front (suc k) [] x le = absurd (omega arith)
take_front (suc k) (e ∷ c) x le = ap (λ (t : List ℕ). e ∷ t) (take_front k c x (omega arith))

pub take_take : (k m : ℕ) (t : List ℕ) → k ≤ m → take k (take m t) ≡ take k t
take_take zero m t le = refl
take_take (suc k) zero t le = absurd (omega arith)
take_take (suc k) (suc m) [] le = refl
take_take (suc k) (suc m) (e ∷ t) le = ap (λ (u : List ℕ). e ∷ u) (take_take k m t (omega arith))

pub take_and_drop : (k : ℕ) (t : List ℕ) → take k t ++ drop k t ≡ t
take_and_drop zero t = refl
take_and_drop (suc k) [] = refl
take_and_drop (suc k) (e ∷ t) = ap (λ (u : List ℕ). e ∷ u) (take_and_drop k t)

take_one : (k : ℕ) (t : List ℕ) (b : ℕ) (rest : List ℕ) → drop k t ≡ b ∷ rest → take (suc k) t ≡ take k t ++ b ∷ []
take_one zero [] b rest e = absurd cc
take_one zero (x ∷ t) b rest e = let same' : x ≡ b = cc in ap (λ (z : ℕ). z ∷ []) same'
take_one (suc k) [] b rest e = absurd cc
take_one (suc k) (x ∷ t) b rest e = ap (λ (u : List ℕ). x ∷ u) (take_one k t b rest e)

drop_one : (k : ℕ) (t : List ℕ) (b : ℕ) (rest : List ℕ) → drop k t ≡ b ∷ rest → drop (suc k) t ≡ rest
drop_one zero [] b rest e = absurd cc
drop_one zero (x ∷ t) b rest e = let same' : t ≡ rest = cc in same'
drop_one (suc k) [] b rest e = absurd cc
drop_one (suc k) (x ∷ t) b rest e = drop_one k t b rest e

-- what stands behind a front that was taken
last_is : (m : ℕ) (w x : List ℕ) (b : ℕ) (rest : List ℕ) → drop (length w) (take m (w ++ 46 ∷ x)) ≡ b ∷ rest → b ≡ 46
last_is zero [] x b rest e = absurd cc
last_is zero (y ∷ w) x b rest e = absurd cc
last_is (suc m) [] x b rest e = let same' : 46 ≡ b = cc in sym same'
last_is (suc m) (y ∷ w) x b rest e = last_is m w x b rest e

length_taken : (m : ℕ) (t : List ℕ) → m ≤ length t → length (take m t) ≡ m
length_taken zero t le = refl
length_taken (suc m) [] le = absurd (omega arith)
length_taken (suc m) (e ∷ t) le = ap suc (length_taken m t (omega arith))

all_taken : (w : List ℕ) → take (length w) w ≡ w
all_taken [] = refl
all_taken (x ∷ w) = ap (λ (t : List ℕ). x ∷ t) (all_taken w)

dot_first : (a : List ℕ) → spaces (46 ∷ a) ≡ (46 ∷ []) ++ a
unfolding spaces
dot_first a = refl

pub before_cut : (c d x : List ℕ) → before (c ++ x) (d ++ x) ≡ take (length c - length d) c
before_cut c d x =
    let n : length (c ++ x) - length (d ++ x) ≡ length c - length d = omega (arith, length-append c x, length-append d x) in
    ap (λ (k : ℕ). take k (c ++ x)) n ∙ take_front (length c - length d) c x (omega arith)

last_digit : (e : ℕ) (w : List ℕ) → list_all is_ascii_digit (e ∷ w) ≡ true → (u : List ℕ) × (l : ℕ) × (e ∷ w ≡ u ++ l ∷ []) × (is_ascii_digit l ≡ true)
last_digit e [] h = ([], e, refl, (and_parts (is_ascii_digit e) true h).0)
last_digit e (x ∷ w) h = let m = last_digit x w (and_parts (is_ascii_digit e) (list_all is_ascii_digit (x ∷ w)) h).1 in (e ∷ m.0, m.1, ap (λ (t : List ℕ). e ∷ t) m.2, m.3)

pub digit_not_dot : (l : ℕ) → is_ascii_digit l ≡ true → (l == 46) ≡ false
digit_not_dot l h = elim (chosen_is (l == 46)) [ inl k ↦ absurd (let w : is_ascii_digit 46 ≡ true = subst (λ (z : ℕ). is_ascii_digit z ≡ true) (eqb-true l 46 k) h in cc) | inr k ↦ k ]

-- ---- the first digit out of range

pub data Fired (text : List ℕ) (k : ℕ) : Type 0 where
  fired : (b : ℕ) (rest : List ℕ) → drop k text ≡ b ∷ rest → (b == 46) ≡ false → is_none (read_number (take (suc k) text)) ≡ true → Fired text k

not_dot : (b : ℕ) → not (b == 46) ≡ true → (b == 46) ≡ false
not_dot b h = elim (chosen_is (b == 46)) [ inl k ↦ absurd (let w = rw k at h in cc) | inr k ↦ k ]

fires : (text more : List ℕ) (count : ℕ) → drop count text ≡ more → (before_range_end count text more ≡ count + length more) ⊎ Fired text (before_range_end count text more)
unfolding before_range_end
fires text [] count is = inl (omega arith)
fires text (b ∷ more) count is = elim (chosen_is (not (b == 46) && is_none (read_number (take (suc count) text)))) [
  | inl h ↦ (let p = and_parts (not (b == 46)) (is_none (read_number (take (suc count) text))) h in inr (rw h (fired b more is (not_dot b p.0) p.1)))
  | inr h ↦ rw h (elim (fires text more (suc count) (drop_one count text b more is)) [ inl k ↦ inl (omega (arith, k)) | inr k ↦ inr k ])
]

-- A number that left the range stays out of it, whatever digits follow.
abbrev pub StaysOut : Type 0
StaysOut = (e : ℕ) (p u q : List ℕ) (l : ℕ) → is_ascii_digit e ≡ true → e ∷ p ≡ u ++ l ∷ [] → (l == 46) ≡ false → is_none (read_number (e ∷ (p ++ q))) ≡ false → is_none (read_number (e ∷ p)) ≡ true → ⊥

module _ (stays : StaysOut) where
  clash : (e : ℕ) (c a b : List ℕ) (m n k : ℕ) → is_ascii_digit e ≡ true → suc k ≤ length (e ∷ c) → suc k ≤ m → suc k ≤ n → Fired (take m (e ∷ c ++ a)) k → is_none (read_number (take n (e ∷ c ++ b))) ≡ false → ⊥
  clash e c a b m n k digit le mle nle (fired l rest at dot none) some =
      let x : List ℕ = take m (e ∷ c ++ a) in
      let y : List ℕ = take n (e ∷ c ++ b) in
      let p : take (suc k) x ≡ e ∷ take k c = take_take (suc k) m (e ∷ c ++ a) mle ∙ take_front (suc k) (e ∷ c) a le in
      let q : take (suc k) y ≡ e ∷ take k c = take_take (suc k) n (e ∷ c ++ b) nle ∙ take_front (suc k) (e ∷ c) b le in
      let whole : (e ∷ take k c) ++ drop (suc k) y ≡ y = ap (λ (t : List ℕ). t ++ drop (suc k) y) (sym q) ∙ take_and_drop (suc k) y in
      stays e (take k c) (take k x) (drop (suc k) y) l digit (sym p ∙ take_one k x l rest at) dot (ap (λ (t : List ℕ). is_none (read_number t)) whole ∙ some) (ap (λ (t : List ℕ). is_none (read_number t)) (sym p) ∙ none)

  abbrev digits_of : List ℕ → List ℕ
  digits_of t = before t (behind_number t)

  -- how much is at least the number's
  most : (c x : List ℕ) → length (behind_number (c ++ x)) ≤ length x → length c ≤ length (c ++ x) - length (behind_number (c ++ x))
  most c x le = omega (arith, length-append c x)

  -- where `c` ends with the dot of no number yet, the byte there is a dot
  by_last : (e : ℕ) (c a b : List ℕ) (m n j : ℕ) → is_ascii_digit e ≡ true → length (e ∷ c) ≤ m → j ≤ n → is_none (read_number (take n (e ∷ c ++ b))) ≡ false
      → (k : ℕ) → Fired (take m (e ∷ c ++ a)) k → k < length (e ∷ c) → (j ≡ length (e ∷ c)) ⊎ ((w : List ℕ) × (e ∷ c ≡ w ++ 46 ∷ []) × (j ≡ length w)) → ⊥
  by_last e c a b m n j digit mle jle some k h lt (inl is) = clash e c a b m n k digit (omega arith) (omega arith) (omega arith) h some
  by_last e c a b m n j digit mle jle some k (fired l rest at dot none) lt (inr last) =
      let w : List ℕ = last.0 in
      let is : e ∷ c ≡ w ++ 46 ∷ [] = last.1 in
      let size : length (e ∷ c) ≡ length w + 1 = ap length is ∙ length-append w (46 ∷ []) in
      elim (cases_lt k (length w)) [
        | inl less ↦ clash e c a b m n k digit (omega arith) (omega arith) (omega (arith, last.2)) (fired l rest at dot none) some
        | inr more ↦
            let k_is : k ≡ length w = omega arith in
            let text : e ∷ c ++ a ≡ w ++ 46 ∷ a = ap (λ (t : List ℕ). t ++ a) is ∙ append_assoc w (46 ∷ []) a in
            let here : drop (length w) (take m (w ++ 46 ∷ a)) ≡ l ∷ rest = ap (λ (t : List ℕ). drop (length w) (take m t)) (sym text) ∙ ap (λ (i : ℕ). drop i (take m (e ∷ c ++ a))) (sym k_is) ∙ at in
            let dot_is : l ≡ 46 = last_is m w a l rest here in
            (let v : (46 == 46) ≡ false = subst (λ (z : ℕ). (z == 46) ≡ false) dot_is dot in cc)
      ]

  -- what was not read stops where the texts part, or later
  far : (e : ℕ) (c a b : List ℕ) (m n j : ℕ) → is_ascii_digit e ≡ true → m ≤ length (e ∷ c ++ a) → length (e ∷ c) ≤ m → j ≤ n → is_none (read_number (take n (e ∷ c ++ b))) ≡ false
      → (j ≡ length (e ∷ c)) ⊎ ((w : List ℕ) × (e ∷ c ≡ w ++ 46 ∷ []) × (j ≡ length w))
      → let x : List ℕ = take m (e ∷ c ++ a) in length (e ∷ c) ≤ before_range_end 0 x x
  far e c a b m n j digit within mle jle some last =
      let x : List ℕ = take m (e ∷ c ++ a) in
      elim (fires x x 0 refl) [
        | inl h ↦ omega (arith, h, length_taken m (e ∷ c ++ a) within)
        | inr h ↦ elim (cases_lt (before_range_end 0 x x) (length (e ∷ c))) [
          | inl lt ↦ absurd (by_last e c a b m n j digit mle jle some (before_range_end 0 x x) h lt last)
          | inr le ↦ le
        ]
      ]

  -- a dot at the end that is not the number's
  dot_none : (e : ℕ) (c a b w : List ℕ) (n : ℕ) → is_ascii_digit e ≡ true → list_all is_ascii_digit w ≡ true → e ∷ c ≡ w ++ 46 ∷ [] → length w ≤ n
      → is_none (read_number (take n (e ∷ c ++ b))) ≡ false → is_none (read_number (take (length w) (e ∷ c ++ a))) ≡ true → ⊥
  dot_none e c a b [] n digit all is le some none = let first : e ≡ 46 = cc in let v : is_ascii_digit 46 ≡ true = subst (λ (z : ℕ). is_ascii_digit z ≡ true) first digit in cc
  dot_none e c a b (x ∷ w) n digit all is le some none =
      let y : List ℕ = take n (e ∷ c ++ b) in
      let k : ℕ = length w in
      let size : suc k ≤ length (e ∷ c) = omega (arith, ap length is, length-append (x ∷ w) (46 ∷ [])) in
      let d = last_digit x w all in
      let front_is : e ∷ take k c ≡ x ∷ w = ap (λ (t : List ℕ). take (suc k) t) is ∙ take_front (suc k) (x ∷ w) (46 ∷ []) (omega arith) ∙ ap (λ (t : List ℕ). x ∷ t) (all_taken w) in
      let p : take (suc k) (e ∷ c ++ a) ≡ e ∷ take k c = take_front (suc k) (e ∷ c) a size in
      let q : take (suc k) y ≡ e ∷ take k c = take_take (suc k) n (e ∷ c ++ b) le ∙ take_front (suc k) (e ∷ c) b size in
      let whole : (e ∷ take k c) ++ drop (suc k) y ≡ y = ap (λ (t : List ℕ). t ++ drop (suc k) y) (sym q) ∙ take_and_drop (suc k) y in
      stays e (take k c) d.0 (drop (suc k) y) d.1 digit (front_is ∙ d.2) (digit_not_dot d.1 d.3) (ap (λ (t : List ℕ). is_none (read_number t)) whole ∙ some) (ap (λ (t : List ℕ). is_none (read_number t)) (sym p) ∙ none)

  module _ (a b : List ℕ) where
    ended : (o : Option Num) (w v t u : List ℕ) → Agree Dotted a b (in_range o w t (v ++ a)) (in_range o w u (v ++ b))
    ended (Some n) w v t u = same n v refl refl
    ended None w v t u = fails _ refl

    going : (c dx dy bx by' : List ℕ) (o p : Option Num) → (length bx ≤ length a) ⊎ (bx ≡ 46 ∷ a) → (is_none o ≡ true → is_none p ≡ false → length c ≤ before_range_end 0 dx dx)
        → Agree Dotted a b (in_range o dx (c ++ a) bx) (in_range p dy (c ++ b) by')
    going c dx dy bx by' (Some n) p (inl le) far' = late (beyond le)
    going c dx dy bx by' (Some n) p (inr is) far' = late (begun n (46 ∷ a) (46 ∷ []) (ap (λ (z : List ℕ). Ok (n, z)) is) (dot_first a) refl)
    going c dx dy bx by' None None left far' = fails _ refl
    going c dx dy bx by' None (Some n) left far' = late (beyond (omega (arith, length-drop (before_range_end 0 dx dx) (c ++ a), length-append c a, far' refl refl)))

  pub number_cut : (e : ℕ) (c a b : List ℕ) → is_ascii_digit e ≡ true → Agree Dotted a b (number (e ∷ c ++ a)) (number (e ∷ c ++ b))
  unfolding number
  number_cut e c a b digit =
      let t : List ℕ = e ∷ c ++ a in
      let u : List ℕ = e ∷ c ++ b in
      let m : ℕ = length t - length (behind_number t) in
      let n : ℕ = length u - length (behind_number u) in
      elim (number_by (e ∷ c) (run_of (e ∷ c))) [
        | number_ends v le s ↦
            let w : List ℕ = take (length (e ∷ c) - length v) (e ∷ c) in
            let is : (x : List ℕ) → number (e ∷ c ++ x) ≡ in_range (read_number w) w (e ∷ c ++ x) (v ++ x) = λ x.
            ap (λ (r : List ℕ). in_range (read_number (before (e ∷ c ++ x) r)) (before (e ∷ c ++ x) r) (e ∷ c ++ x) r) (s x) ∙ ap (λ (d : List ℕ). in_range (read_number d) d (e ∷ c ++ x) (v ++ x)) (before_cut (e ∷ c) v x) in
            agree_is (is a) (is b) (ended a b (read_number w) w v t u)
        | number_goes s ↦
            going a b (e ∷ c) (digits_of t) (digits_of u) (behind_number t) (behind_number u) (read_number (digits_of t)) (read_number (digits_of u)) (inl (s a))
            (λ none some. far e c a b m n (length (e ∷ c)) digit (omega arith) (most (e ∷ c) a (s a)) (most (e ∷ c) b (s b)) some (inl refl))
        | number_dot w all is s ↦
            let size : length (e ∷ c) ≡ length w + 1 = ap length is ∙ length-append w (46 ∷ []) in
            let le : length w ≤ n = elim (s b) [
              | inl l ↦ omega (arith, size, most (e ∷ c) b l)
              | inr l ↦ omega (arith, size, ap length l, length-append (e ∷ c) b)
            ] in
            elim (s a) [
              | inl l ↦ going a b (e ∷ c) (digits_of t) (digits_of u) (behind_number t) (behind_number u) (read_number (digits_of t)) (read_number (digits_of u)) (inl l)
                  (λ none some. far e c a b m n (length w) digit (omega arith) (most (e ∷ c) a l) le some (inr (w, is, refl)))
              | inr l ↦
                  let m_is : m ≡ length w = omega (arith, size, ap length l, length-append (e ∷ c) a) in
                  going a b (e ∷ c) (digits_of t) (digits_of u) (behind_number t) (behind_number u) (read_number (digits_of t)) (read_number (digits_of u)) (inr l)
                  (λ none some. absurd (dot_none e c a b w n digit all is le some (ap (λ (i : ℕ). is_none (read_number (take i t))) (sym m_is) ∙ none)))
            ]
      ]
