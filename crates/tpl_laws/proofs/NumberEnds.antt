-- Numbers: what stands before the digit that takes one out of its range is a number, or one with a dot behind it.
use Rattle.std.proofs.Common.{◌≡◌, ℕ, suc, Bool, true, false, not, ◌⊎◌, inl, inr, List, [], ◌∷◌, ◌++◌, length, take, drop, Option, Some, None, refl, sym, ap, ◌∙◌, subst, arith, append_assoc, length-append}
use Rattle.std.specs.Prelude.{◌==◌, ◌&&◌, is_none}
use Rattle.std.specs.Char.{is_ascii_digit}
use Rattle.std.proofs.lemmas.Bool.{and_parts, cond-true, cond-false}
use Rattle.ha_value.specs.declared.value.Num.{Num}
use Rattle.ha_value.specs.Numbers.{read_number}
use Rattle.reading.specs.Answer.{front}
use Rattle.reading.specs.Bytes.{sees, skip_digits}
use Rattle.reading.proofs.Basics.{chosen_is}
use Rattle.reading.proofs.Bytes.{sees_front}
use Rattle.tpl_parse.specs.Literal.{before, behind_number, before_range_end, begins_places, is_digit, in_range, number}
use Rattle.tpl_parse.specs.Grammar.{other, more as one_more, IsDigits, IsNumeral, whole, places, IsNumber, number as number_is}
use Rattle.tpl_parse.proofs.Next.{before_is}
use Rattle.tpl_parse.proofs.Runs.{digits_found, numeral_read}
use Rattle.tpl_laws.proofs.Likes.{Like, like_from}
use Rattle.tpl_laws.proofs.Outcomes.{Still, Grown, Open, Out}
use Rattle.tpl_laws.proofs.Lexical.{AllOf, run_all}
use Rattle.tpl_laws.proofs.Numbers.{digits_by, numeral_again, digit_no_dot, zero_place, one_digit}

-- ---- digits so far, and what is still to come

data Walk : Bool → List ℕ → Type 0 where
  in_units : (b : ℕ) (w : List ℕ) (n : Num) → AllOf is_ascii_digit (b ∷ w) → read_number (b ∷ w) ≡ Some n → Walk false (b ∷ w)
  at_dot : (b : ℕ) (w : List ℕ) (n : Num) → AllOf is_ascii_digit (b ∷ w) → read_number (b ∷ w) ≡ Some n → Walk true (b ∷ (w ++ 46 ∷ []))
  in_places : (b : ℕ) (w : List ℕ) (c : ℕ) (p : List ℕ) (n : Num) → AllOf is_ascii_digit (b ∷ w) → AllOf is_ascii_digit (c ∷ p) → read_number (b ∷ (w ++ 46 ∷ c ∷ p)) ≡ Some n → Walk true (b ∷ (w ++ 46 ∷ c ∷ p))

abbrev Follows : Bool → List ℕ → Type 0
Follows dotted [] = Unit {0}
Follows true (x ∷ v) = (is_ascii_digit x ≡ true) × Follows true v
Follows false (x ∷ v) = ((is_ascii_digit x ≡ true) × Follows false v) ⊎ ((x ≡ 46) × Follows true v)

record Walked (text : List ℕ) (k : ℕ) : Type 0 where
  done : List ℕ
  rest : List ℕ
  parts : text ≡ done ++ rest
  count : k ≡ length done
  dotted : Bool
  walk : Walk dotted done

-- ---- a blank behind them ends a number

all_run : (w o : List ℕ) → AllOf is_ascii_digit w → ((x : List ℕ) → IsDigits o [] o) → IsDigits (w ++ o) w o
all_run [] o a e = e []
all_run (b ∷ w) o a e = one_more a.0 (all_run w o a.1 e)

units_end : (b : ℕ) (w q : List ℕ) (n : Num) → AllOf is_ascii_digit (b ∷ w) → read_number (b ∷ w) ≡ Some n → IsNumber ((b ∷ w) ++ 32 ∷ q) n (32 ∷ q)
units_end b w q n a is = number_is (whole a.0 (all_run (b ∷ w) (32 ∷ q) a (λ x. other refl)) refl) is

places_end : (b : ℕ) (w : List ℕ) (c : ℕ) (p q : List ℕ) (n : Num) → AllOf is_ascii_digit (b ∷ w) → AllOf is_ascii_digit (c ∷ p) → read_number (b ∷ (w ++ 46 ∷ c ∷ p)) ≡ Some n
    → IsNumber ((b ∷ (w ++ 46 ∷ c ∷ p)) ++ 32 ∷ q) n (32 ∷ q)
places_end b w c p q n a d is =
    let one : IsDigits ((b ∷ w) ++ 46 ∷ c ∷ (p ++ 32 ∷ q)) (b ∷ w) (46 ∷ c ∷ (p ++ 32 ∷ q)) = all_run (b ∷ w) (46 ∷ c ∷ (p ++ 32 ∷ q)) a (λ x. other refl) in
    let two : IsDigits ((c ∷ p) ++ 32 ∷ q) (c ∷ p) (32 ∷ q) = all_run (c ∷ p) (32 ∷ q) d (λ x. other refl) in
    let text : (b ∷ (w ++ 46 ∷ c ∷ p)) ++ 32 ∷ q ≡ (b ∷ w) ++ 46 ∷ c ∷ (p ++ 32 ∷ q) = append_assoc (b ∷ w) (46 ∷ c ∷ p) (32 ∷ q) in
    subst (λ (v : List ℕ). IsNumber v n (32 ∷ q)) (sym text) (number_is (places a.0 one d.0 two) is)

walk_end : {dotted : Bool} {done : List ℕ} → Walk dotted done → (m : List ℕ) × (n : Num) × ((q : List ℕ) → IsNumber (done ++ (m ++ 32 ∷ q)) n (32 ∷ q))
walk_end (in_units b w n a is) = ([], n, λ q. units_end b w q n a is)
walk_end (in_places b w c p n a d is) = ([], n, λ q. places_end b w c p q n a d is)
walk_end (at_dot b w n a is) =
    let z = zero_place b w n a is in
    (48 ∷ [], z.0, λ q. subst (λ (v : List ℕ). IsNumber v z.0 (32 ∷ q)) (append_assoc (b ∷ w) (46 ∷ 48 ∷ []) (32 ∷ q) ∙ sym (append_assoc (b ∷ w) (46 ∷ []) (48 ∷ 32 ∷ q))) (places_end b w 48 [] q z.0 a (refl, tt) z.1))

walk_first : {dotted : Bool} {done : List ℕ} → Walk dotted done → (b : ℕ) × (v : List ℕ) × (done ≡ b ∷ v) × ((b == 46) ≡ false)
walk_first (in_units b w n a is) = (b, w, refl, digit_no_dot b a.0)
walk_first (at_dot b w n a is) = (b, w ++ 46 ∷ [], refl, digit_no_dot b a.0)
walk_first (in_places b w c p n a d is) = (b, w ++ 46 ∷ c ∷ p, refl, digit_no_dot b a.0)

-- ---- a step

all_with : (w : List ℕ) (x : ℕ) → AllOf is_ascii_digit w → is_ascii_digit x ≡ true → AllOf is_ascii_digit (w ++ x ∷ [])
all_with [] x a h = (h, tt)
all_with (b ∷ w) x a h = (a.0, all_with w x a.1 h)

abbrev Stepped : List ℕ → ℕ → List ℕ → Type 0
Stepped done x v = (dotted : Bool) × Walk dotted (done ++ x ∷ []) × Follows dotted v

digit_step : {dotted : Bool} {done : List ℕ} → Walk dotted done → (x : ℕ) (n : Num) → is_ascii_digit x ≡ true → read_number (done ++ x ∷ []) ≡ Some n → Walk dotted (done ++ x ∷ [])
digit_step (in_units b w m a is) x n h read = in_units b (w ++ x ∷ []) n (all_with (b ∷ w) x a h) read
digit_step (at_dot b w m a is) x n h read =
    let text : (b ∷ (w ++ 46 ∷ [])) ++ x ∷ [] ≡ b ∷ (w ++ 46 ∷ x ∷ []) = append_assoc (b ∷ w) (46 ∷ []) (x ∷ []) in
    subst (λ (v : List ℕ). Walk true v) (sym text) (in_places b w x [] n a (h, tt) (ap read_number (sym text) ∙ read))
digit_step (in_places b w c p m a d is) x n h read =
    let text : (b ∷ (w ++ 46 ∷ c ∷ p)) ++ x ∷ [] ≡ b ∷ (w ++ 46 ∷ c ∷ (p ++ x ∷ [])) = append_assoc (b ∷ w) (46 ∷ c ∷ p) (x ∷ []) in
    subst (λ (v : List ℕ). Walk true v) (sym text) (in_places b w c (p ++ x ∷ []) n a (all_with (c ∷ p) x d h) (ap read_number (sym text) ∙ read))

dot_step : {done : List ℕ} → Walk false done → Walk true (done ++ 46 ∷ [])
dot_step (in_units b w n a is) = at_dot b w n a is

-- the test passes a dot, and a digit with which a number is read
passed : {dotted : Bool} {done : List ℕ} → Walk dotted done → (x : ℕ) (v : List ℕ) → Follows dotted (x ∷ v) → (o : Option Num) → read_number (done ++ x ∷ []) ≡ o → (not (x == 46) && is_none o) ≡ false → Stepped done x v
passed {dotted} {done} w x v f o read h = by dotted w f where
  no_none : (t : Bool) → t ≡ false → (not t && true) ≡ false → ⊥
  no_none true p q = cc
  no_none false p q = cc

  digit : (m : Bool) → Walk m done → is_ascii_digit x ≡ true → (o' : Option Num) → o' ≡ o → Walk m (done ++ x ∷ [])
  digit m w' d (Some n) e = digit_step w' x n d (read ∙ sym e)
  digit m w' d None e = absurd (no_none (x == 46) (digit_no_dot x d) (ap (λ (p : Option Num). not (x == 46) && is_none p) e ∙ h))

  by : (m : Bool) → Walk m done → Follows m (x ∷ v) → Stepped done x v
  by true w' k = (true, digit true w' k.0 o refl, k.1)
  by false w' (inl k) = (false, digit false w' k.0 o refl, k.1)
  by false w' (inr k) = (true, subst (λ (y : ℕ). Walk true (done ++ y ∷ [])) (sym k.0) (dot_step w'), k.1)

take_next : (done : List ℕ) (x : ℕ) (v : List ℕ) → take (suc (length done)) (done ++ x ∷ v) ≡ done ++ x ∷ []
take_next [] x v = refl
take_next (b ∷ done) x v = ap (λ (t : List ℕ). b ∷ t) (take_next done x v)

walks : (v done : List ℕ) (dotted : Bool) → Walk dotted done → Follows dotted v → Walked (done ++ v) (before_range_end (length done) (done ++ v) v)
unfolding before_range_end
walks [] done dotted w f = record { done = done; rest = []; parts = refl; count = refl; dotted = dotted; walk = w }
walks (x ∷ v) done dotted w f =
    let text : done ++ x ∷ v ≡ (done ++ x ∷ []) ++ v = sym (append_assoc done (x ∷ []) v) in
    let taken : read_number (take (suc (length done)) (done ++ x ∷ v)) ≡ read_number (done ++ x ∷ []) = ap read_number (take_next done x v) in
    let long : length (done ++ x ∷ []) ≡ suc (length done) = omega (arith, length-append done (x ∷ [])) in
    elim (chosen_is (not (x == 46) && is_none (read_number (take (suc (length done)) (done ++ x ∷ v))))) [
      | inl h ↦ rw h (record { done = done; rest = x ∷ v; parts = refl; count = refl; dotted = dotted; walk = w })
      | inr h ↦
          let s = passed w x v f (read_number (take (suc (length done)) (done ++ x ∷ v))) (sym taken) h in
          let next : Walked ((done ++ x ∷ []) ++ v) (before_range_end (length (done ++ x ∷ [])) ((done ++ x ∷ []) ++ v) v) = walks v (done ++ x ∷ []) s.0 s.1 s.2 in
          let same : Walked (done ++ x ∷ v) (before_range_end (suc (length done)) (done ++ x ∷ v) v) = subst (λ (k : ℕ). Walked (done ++ x ∷ v) (before_range_end k (done ++ x ∷ v) v)) long (subst (λ (t : List ℕ). Walked t (before_range_end (length (done ++ x ∷ [])) t v)) (sym text) next) in
          rw h same
    ]

-- from the first digit on
walk_from : (b : ℕ) (v : List ℕ) → is_ascii_digit b ≡ true → Follows false v → Walked (b ∷ v) (before_range_end 0 (b ∷ v) (b ∷ v))
unfolding before_range_end
walk_from b v h f =
    let one = one_digit b h in
    let none : (not (b == 46) && is_none (read_number (b ∷ []))) ≡ false = rw (one.1, digit_no_dot b h) refl in
    rw none (walks v (b ∷ []) false (in_units b [] one.0 (h, tt) one.1) f)

units_follow : (w : List ℕ) → AllOf is_ascii_digit w → Follows false w
units_follow [] a = tt
units_follow (b ∷ w) a = inl (a.0, units_follow w a.1)

places_follow : (w : List ℕ) → AllOf is_ascii_digit w → Follows true w
places_follow [] a = tt
places_follow (b ∷ w) a = (a.0, places_follow w a.1)

dotted_follow : (w p : List ℕ) → AllOf is_ascii_digit w → AllOf is_ascii_digit p → Follows false (w ++ 46 ∷ p)
dotted_follow [] p a d = inr (refl, places_follow p d)
dotted_follow (b ∷ w) p a d = inl (a.0, dotted_follow w p a.1 d)

-- ---- a number

numeral_walk : {t ds rest : List ℕ} → IsNumeral t ds rest → Walked ds (before_range_end 0 ds ds)
numeral_walk (whole {b = b} {text = t} {digits = ds} {rest = rest} first run bare) = by ds (run_all run) (digits_by b t ds rest first run) where
  by : (w : List ℕ) → AllOf is_ascii_digit w → (v : List ℕ) × (w ≡ b ∷ v) → Walked w (before_range_end 0 w w)
  by [] a p = absurd (let k = p.1 in cc)
  by (c ∷ w) a p = walk_from c w a.0 (units_follow w a.1)
numeral_walk (places {b = b} {c = c'} {text = t} {digits = ds} {behind = behind} {places = ps} first run digit run2) = by ds (run_all run) (digits_by b t ds (46 ∷ c' ∷ behind) first run) where
  by : (w : List ℕ) → AllOf is_ascii_digit w → (v : List ℕ) × (w ≡ b ∷ v) → Walked (w ++ 46 ∷ ps) (before_range_end 0 (w ++ 46 ∷ ps) (w ++ 46 ∷ ps))
  by [] a p = absurd (let k = p.1 in cc)
  by (c ∷ w) a p = walk_from c (w ++ 46 ∷ ps) a.0 (dotted_follow w ps a.1 (run_all run2))

digit_front : (t : List ℕ) → is_digit (front t) ≡ true → (c : ℕ) × (behind : List ℕ) × (t ≡ c ∷ behind) × (is_ascii_digit c ≡ true)
digit_front [] e = absurd cc
digit_front (c ∷ behind) e = (c, behind, refl, e)

-- the longest number text
numeral_found : (b : ℕ) (t : List ℕ) → is_ascii_digit b ≡ true → (ds : List ℕ) × IsNumeral (b ∷ t) ds (behind_number (b ∷ t))
numeral_found b t first =
    let w = digits_found (b ∷ t) in
    let left : List ℕ = skip_digits (b ∷ t) in
    elim (chosen_is (begins_places left)) [
      | inr h ↦ (w.0, subst (λ (r : List ℕ). IsNumeral (b ∷ t) w.0 r) (sym (cond-false (begins_places left) (skip_digits (drop 1 left)) left h)) (whole first w.1 h))
      | inl h ↦
          let p = and_parts (sees 46 left) (is_digit (front (drop 1 left))) h in
          let dot = sees_front 46 left p.0 in
          let d = digit_front (drop 1 left) p.1 in
          let v = digits_found (d.0 ∷ d.1) in
          let behind_is : skip_digits (drop 1 left) ≡ skip_digits (d.0 ∷ d.1) = ap skip_digits d.2 in
          let here : IsDigits (b ∷ t) w.0 (46 ∷ d.0 ∷ d.1) = subst (λ (r : List ℕ). IsDigits (b ∷ t) w.0 r) (dot ∙ ap (λ (r : List ℕ). 46 ∷ r) d.2) w.1 in
          (w.0 ++ 46 ∷ v.0, subst (λ (r : List ℕ). IsNumeral (b ∷ t) (w.0 ++ 46 ∷ v.0) r) (sym (cond-true (begins_places left) (skip_digits (drop 1 left)) left h ∙ behind_is)) (places first here d.3 v.1))
    ]

drop_done : (done v : List ℕ) → drop (length done) (done ++ v) ≡ v
drop_done [] v = refl
drop_done (b ∷ done) v = drop_done done v

number_opens : (t ds rest : List ℕ) → IsNumeral t ds rest → Open IsNumber t (record { left = length (drop (before_range_end 0 ds ds) t); code = tt })
number_opens t ds rest h =
    let w = numeral_walk h in
    let e = walk_end w.walk in
    let f = walk_first w.walk in
    let parts : t ≡ w.done ++ (w.rest ++ rest) = (numeral_again h).parts ∙ ap (λ (v : List ℕ). v ++ rest) w.parts ∙ append_assoc w.done w.rest rest in
    let starts : t ≡ f.0 ∷ (f.1 ++ (w.rest ++ rest)) = parts ∙ ap (λ (v : List ℕ). v ++ (w.rest ++ rest)) f.2 in
    record {
      before = w.done;
      rest = w.rest ++ rest;
      parts = parts;
      left = ap (λ (k : ℕ). length (drop k t)) w.count ∙ ap (λ (v : List ℕ). length (drop (length w.done) v)) parts ∙ ap length (drop_done w.done (w.rest ++ rest));
      more = e.0;
      like = λ q. subst (λ (v : List ℕ). Like v (w.done ++ (e.0 ++ 32 ∷ q))) (sym starts) (subst (λ (v : List ℕ). Like (f.0 ∷ (f.1 ++ (w.rest ++ rest))) (v ++ (e.0 ++ 32 ∷ q))) (sym f.2) (like_from f.0 (f.1 ++ (w.rest ++ rest)) (f.1 ++ (e.0 ++ 32 ∷ q)) f.3));
      spelled = λ q. (e.1, e.2 q);
    }

number_takes : {t rest : List ℕ} {n : Num} → IsNumber t n rest → Grown Still IsNumber t n rest
number_takes (number_is {text = t} {digits = ds} {rest = rest} {n = n} numeral read) =
    let k = numeral_again numeral in
    record { before = ds; rest = rest; parts = k.parts; alike = refl; again = λ o l. number_is (k.again o l) read; goes = λ token h. absurd h }

pub number_out : (b : ℕ) (t : List ℕ) → is_ascii_digit b ≡ true → Out Still IsNumber (b ∷ t) (number (b ∷ t))
unfolding number
number_out b t first =
    let k = numeral_found b t first in
    let p = numeral_read k.1 in
    let same : before (b ∷ t) (behind_number (b ∷ t)) ≡ k.0 = before_is k.0 (behind_number (b ∷ t)) p.1 in
    rw same (by k.0 k.1 (read_number k.0) refl) where
      by : (ds : List ℕ) → IsNumeral (b ∷ t) ds (behind_number (b ∷ t)) → (o : Option Num) → read_number ds ≡ o → Out Still IsNumber (b ∷ t) (in_range o ds (b ∷ t) (behind_number (b ∷ t)))
      by ds h (Some n) e = number_takes (number_is h e)
      by ds h None e = number_opens (b ∷ t) ds (behind_number (b ∷ t)) h
