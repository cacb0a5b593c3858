-- A number may be followed by what does not go on with it, one that was begun ends with a zero, and its first fault depends on
-- nothing behind it.
use Rattle.std.proofs.Common.{◌≡◌, ℕ, Bool, true, false, cond, ◌&&◌, List, [], ◌∷◌, ◌++◌, length, take, drop, Option, Some, None, Ok, Err, refl, sym, ap, subst, ◌∙◌, append_assoc, inl, inr}
use Rattle.std.specs.Prelude.{◌==◌, ◌-◌, ◌^◌, ◌*◌}
use Rattle.std.specs.Option.{option_and_then}
use Rattle.std.specs.Char.{is_ascii_digit}
use Rattle.std.specs.List.{list_all}
use Rattle.std.specs.Str.Parse.{digits_value}
use Rattle.std.proofs.lemmas.Bool.{cond-true, and_from, eqb-true}
use Rattle.ha_value.specs.declared.value.Num.{Num}
use Rattle.ha_value.specs.Lists.{some_all, before_first, after_first}
use Rattle.ha_value.specs.Numbers.{has_minus, without_sign, number_from, number_of_text, signed, nearest}
use Rattle.reading.specs.Answer.{Answer, front, stop}
use Rattle.reading.specs.Bytes.{sees, is_blank, skip_digits}
use Rattle.reading.specs.Faults.{ReadsAlike, IsAlike}
use Rattle.reading.proofs.Basics.{bad, bind_err, chosen, chosen_is, stop_left}
use Rattle.reading.proofs.Bytes.{sees_front}
use Rattle.reading.proofs.Frames.{Frames}
use Rattle.reading.proofs.Local.{Local, bind_local, ok_local, stop_local, drop_local, tail_local, chosen_local, look_local, sees_local, further, taken, left_there, done_at_end}
use Rattle.reading.proofs.Opens.{Opens}
use Rattle.flow_line.specs.declared.fault.Code.{Code}
use Rattle.flow_line.specs.declared.fault.Code.TheVariants.{Syntax, Range}
use Rattle.flow_line.specs.Bytes.{is_in}
use Rattle.flow_line.specs.Text.{Reads, byte_in}
use Rattle.flow_line.specs.Reading.{skip_sign, digits, numeral, in_range}
use Rattle.flow_line.specs.Grammar.{extends, IsNumber, number as number_of}
use Rattle.flow_line.specs.Refused.{Like, SameNumber}
use Rattle.flow_line.proofs.ByteRanges.{Fault}
use Rattle.flow_line.proofs.Numbers.{Run, run_end, run_digit, Digits, digits_of, Sign, bare, plus, minus, Numeral, whole, fixed, digits_found, sign_found, behind_sign, numeral_read, shape_of, front_of, no_byte, dot_not, digits_none, digits_some, number_by}
use Rattle.flow_line.proofs.StringLaws.{like_front, IsLocal}

-- what may follow any value
abbrev pub Free : List ℕ → Type 0
Free t = extends None (front t) ≡ false

pub blank_free : (b : ℕ) (r : List ℕ) → is_blank b ≡ true → Free (b ∷ r)
blank_free b r h = elim (chosen_is (is_ascii_digit b)) [
  | inl d ↦ absurd (let k : is_blank b ≡ false = rw (no_byte b 32 d refl, no_byte b 9 d refl) refl in let w : true ≡ false = sym h ∙ k in cc)
  | inr d ↦ elim (chosen_is (b == 46)) [
    | inl e ↦ absurd (let k : is_blank b ≡ false = ap is_blank (eqb-true b 46 e) in let w : true ≡ false = sym h ∙ k in cc)
    | inr e ↦ rw (d, e) refl
  ]
]

free_ends : (o : Option (List ℕ)) (r : List ℕ) → Free r → extends o (front r) ≡ false
free_ends None r h = h
free_ends (Some p) r h = (dot_not r h).0

pub number_framed : {Allowed : Num → Type 0} → Frames Free (IsNumber Allowed)
number_framed t n rest (number_of text e ends ok) = record { spelling = text; parts = refl; again = λ r free. number_of text e (free_ends (after_first 46 text) r free) ok }

-- ---- number text has a number

run_all : {w : List ℕ} → Run w → list_all is_ascii_digit w ≡ true
run_all run_end = refl
run_all (run_digit {b = b} {w = w} d l) = and_from (is_ascii_digit b) (list_all is_ascii_digit w) d (run_all l)

digits_all : {w : List ℕ} → Digits w → some_all is_ascii_digit w ≡ true
digits_all (digits_of {b = b} {w = w} d l) = and_from (is_ascii_digit b) (list_all is_ascii_digit w) d (run_all l)

run_before : {w : List ℕ} → Run w → (before_first 46 w ≡ w) × ((p : List ℕ) → before_first 46 (w ++ 46 ∷ p) ≡ w)
run_before run_end = (refl, λ p. refl)
run_before (run_digit {b = b} {w = w} d l) =
    let m = run_before l in
    (rw (no_byte b 46 d refl) (ap (λ (u : List ℕ). b ∷ u) m.0), λ p. rw (no_byte b 46 d refl) (ap (λ (u : List ℕ). b ∷ u) (m.1 p)))

digits_before : {w : List ℕ} → Digits w → (before_first 46 w ≡ w) × ((p : List ℕ) → before_first 46 (w ++ 46 ∷ p) ≡ w)
digits_before (digits_of d l) = run_before (run_digit d l)

unsigned_is : {s w : List ℕ} → Sign s → Digits w → (v : List ℕ) → without_sign (s ++ (w ++ v)) ≡ w ++ v
unsigned_is bare (digits_of {b = b} d l) v = rw (no_byte b 43 d refl, no_byte b 45 d refl) refl
unsigned_is plus d v = refl
unsigned_is minus d v = refl

unsigned_only : {s w : List ℕ} → Sign s → Digits w → without_sign (s ++ w) ≡ w
unsigned_only bare (digits_of {b = b} d l) = rw (no_byte b 43 d refl, no_byte b 45 d refl) refl
unsigned_only plus d = refl
unsigned_only minus d = refl

pub value_of : {text : List ℕ} {places : Option (List ℕ)} → Numeral text places → (n : Num) × (number_of_text text ≡ Some n)
value_of (whole {s = s} {w = w} is d) =
    let m : Bool = has_minus (s ++ w) in
    let cut : number_of_text (s ++ w) ≡ number_from m (before_first 46 w) (after_first 46 w) = ap (λ (v : List ℕ). number_from m (before_first 46 v) (after_first 46 v)) (unsigned_only is d) in
    let parts : number_from m (before_first 46 w) (after_first 46 w) ≡ number_from m w None = λ i. number_from m ((digits_before d).0 i) (digits_none d i) in
    (Num.Whole (signed m (digits_value 10 w)), cut ∙ parts ∙ cond-true (some_all is_ascii_digit w) _ _ (digits_all d))
value_of (fixed {s = s} {w = w} {p = p} is d q) =
    let text : List ℕ = s ++ (w ++ 46 ∷ p) in
    let m : Bool = has_minus text in
    let cut : number_of_text text ≡ number_from m (before_first 46 (w ++ 46 ∷ p)) (after_first 46 (w ++ 46 ∷ p)) = ap (λ (v : List ℕ). number_from m (before_first 46 v) (after_first 46 v)) (unsigned_is is d (46 ∷ p)) in
    let parts : number_from m (before_first 46 (w ++ 46 ∷ p)) (after_first 46 (w ++ 46 ∷ p)) ≡ number_from m w (Some p) = λ i. number_from m ((digits_before d).1 p i) (digits_some d p i) in
    let both : (some_all is_ascii_digit w && some_all is_ascii_digit p) ≡ true = and_from (some_all is_ascii_digit w) (some_all is_ascii_digit p) (digits_all d) (digits_all q) in
    (Num.Fixed (signed m (nearest (digits_value 10 (w ++ p) * 1_000_000) (10 ^ length p))), cut ∙ parts ∙ cond-true (some_all is_ascii_digit w && some_all is_ascii_digit p) _ _ both)

abbrev AnySize : Num → Type 0
AnySize n = Unit {0}

-- ---- a number that was begun

stop_coded : {A : Type 0} (c : Code) (t : List ℕ) (f : Fault) → stop {A = A} c t ≡ Err f → f.code ≡ c
stop_coded {A} c t f e = ap (λ (b : Fault). b.code) (sym (err_is {A = A} (record { left = length t; code = c }) f e)) where
  err_is : {A : Type 0} (f g : Fault) → bad {T = ℕ} {A = A} f ≡ bad g → f ≡ g
  err_is f g e = cc

byte_stops : (low high : ℕ) (t : List ℕ) (f : Fault) → byte_in low high (front t) t ≡ Err f → (f.left ≡ length t) × (f.code ≡ Syntax)
byte_stops low high [] f e = (stop_left {T = ℕ} {A = ℕ} Syntax [] f e, stop_coded {A = ℕ} Syntax [] f e)
byte_stops low high (b ∷ t) f e = elim (chosen (is_in low high b) (Ok (b, t)) (stop Syntax (b ∷ t)) (Err f) e) [
  | inl h ↦ absurd (let k = h.1 in cc)
  | inr h ↦ (stop_left {T = ℕ} {A = ℕ} Syntax (b ∷ t) f h.1, stop_coded {A = ℕ} Syntax (b ∷ t) f h.1)
]

digits_stop : (t : List ℕ) (f : Fault) → digits t ≡ Err f → (f.left ≡ length t) × (f.code ≡ Syntax)
unfolding digits
digits_stop t f e = elim (bind_err (byte_in 48 57 (front t) t) (λ first. Ok (tt, skip_digits first.1)) f e) [ inl h ↦ byte_stops 48 57 t f h | inr h ↦ absurd (let k = h.2 in cc) ]

-- the fault of a number text, and what ends the text there
pub record OpenNumeral (t : List ℕ) (f : Fault) : Type 0 where
  pub before : List ℕ
  pub rest : List ℕ
  pub parts : t ≡ before ++ rest
  pub left : f.left ≡ length rest
  pub coded : f.code ≡ Syntax
  pub places : Option (List ℕ)
  pub ended : Numeral (before ++ 48 ∷ []) places

nought : Digits (48 ∷ [])
nought = digits_of refl run_end

pub numeral_open : (t : List ℕ) (f : Fault) → numeral t ≡ Err f → OpenNumeral t f
unfolding numeral
numeral_open t f e =
    let s = sign_found t in
    elim (bind_err (digits (skip_sign t)) (λ whole. cond (sees 46 whole.1) (digits (drop 1 whole.1)) (Ok whole)) f e) [
      | inl h ↦ let k = digits_stop (skip_sign t) f h in record { before = s.0; rest = skip_sign t; parts = s.2; left = k.0; coded = k.1; places = None; ended = whole s.1 nought }
      | inr h ↦
          let l = digits_found (skip_sign t) h.0.0 h.0.1 h.1 in
          elim (chosen (sees 46 h.0.1) (digits (drop 1 h.0.1)) (Ok h.0) (Err f) h.2) [
            | inl k ↦
                let m = digits_stop (drop 1 h.0.1) f k.1 in
                let parts : t ≡ (s.0 ++ (l.digits ++ 46 ∷ [])) ++ drop 1 h.0.1 = s.2 ∙ ap (λ (v : List ℕ). s.0 ++ v) (l.parts ∙ ap (λ (v : List ℕ). l.digits ++ v) (sees_front 46 h.0.1 k.0)) ∙ simp append_assoc in
                let same : (s.0 ++ (l.digits ++ 46 ∷ [])) ++ 48 ∷ [] ≡ s.0 ++ (l.digits ++ 46 ∷ 48 ∷ []) = simp append_assoc in
                record { before = s.0 ++ (l.digits ++ 46 ∷ []); rest = drop 1 h.0.1; parts = parts; left = m.0; coded = m.1; places = Some (48 ∷ []); ended = subst (λ (v : List ℕ). Numeral v (Some (48 ∷ []))) (sym same) (fixed s.1 l.are_digits nought) }
            | inr k ↦ absurd (let m = k.1 in cc)
          ]
    ]

pub range_stops : (o : Option Num) (at end : List ℕ) (f : Fault) → in_range o at end ≡ Err f → f.left ≡ length at
range_stops None at end f e = stop_left {T = ℕ} {A = Num} Range at f e
range_stops (Some n) at end f e = absurd cc

module _ (kept : Num → Option Num) where
  pub number_open : Opens Free (number_by kept) (IsNumber AnySize)
  unfolding number_by
  number_open t f e = elim (bind_err (numeral t) (λ end. in_range (option_and_then kept (number_of_text (take (length t - length end.1) t))) t end.1) f e) [
    | inl h ↦
        let o = numeral_open t f h in
        let v = value_of o.ended in
        record {
          before = o.before;
          rest = o.rest;
          parts = o.parts;
          left = o.left;
          more = 48 ∷ [];
          x = v.0;
          spelled = λ r free.
              let ends : extends (after_first 46 (o.before ++ 48 ∷ [])) (front r) ≡ false = free_ends (after_first 46 (o.before ++ 48 ∷ [])) r free in
              subst (λ (u : List ℕ). IsNumber AnySize u v.0 r) (append_assoc o.before (48 ∷ []) r) (number_of (o.before ++ 48 ∷ []) v.1 ends tt);
        }
    | inr h ↦
        let v = value_of (whole bare nought) in
        record {
          before = [];
          rest = t;
          parts = refl;
          left = range_stops (option_and_then kept (number_of_text (take (length t - length h.0.1) t))) t h.0.1 f h.2;
          more = 48 ∷ [];
          x = v.0;
          spelled = λ r free. number_of (48 ∷ []) v.1 (free_ends None r free) tt;
        }
  ]

-- ---- a fault depends on nothing behind it

signs : Reads (Unit {0})
signs t = Ok (tt, skip_sign t)

signs_local : IsLocal signs
unfolding Local signs
signs_local [] = done_at_end Like like_front signs tt refl
signs_local (b ∷ t) = elim (chosen_is (b == 45)) [
  | inl h ↦ rw h (taken Like like_front signs b t tt (λ u. rw h refl))
  | inr h ↦ elim (chosen_is (b == 43)) [
    | inl k ↦ rw (h, k) (taken Like like_front signs b t tt (λ u. rw (h, k) refl))
    | inr k ↦ rw (h, k) (left_there Like like_front signs b t tt (λ u. rw (h, k) refl))
  ]
]

skips : Reads (Unit {0})
skips t = Ok (tt, skip_digits t)

skips_local : IsLocal skips
unfolding Local skips skip_digits
skips_local [] = done_at_end Like like_front skips tt refl
skips_local (b ∷ t) = elim (chosen_is (is_ascii_digit b)) [
  | inl h ↦ rw h (further Like like_front skips skips b t (λ u. rw h refl) (Ok (tt, skip_digits t)) (skips_local t))
  | inr h ↦ rw h (left_there Like like_front skips b t tt (λ u. rw h refl))
]

byte_local : (low high : ℕ) → IsLocal (λ t. byte_in low high (front t) t)
byte_local low high = look_local Like like_front (byte_in low high) each where
  each : (o : Option ℕ) → IsLocal (byte_in low high o)
  each None = stop_local Like like_front ℕ Syntax
  each (Some b) = chosen_local Like like_front (λ t. Ok (b, drop 1 t)) (stop Syntax) (drop_local Like like_front b) (stop_local Like like_front ℕ Syntax) (is_in low high b)

digits_local : IsLocal digits
unfolding digits skips
digits_local = bind_local Like like_front (λ t. byte_in 48 57 (front t) t) (λ _. skips) (byte_local 48 57) (λ _. skips_local)

pub numeral_local : IsLocal numeral
unfolding numeral signs
numeral_local =
    bind_local Like like_front signs (λ _. behind_sign) signs_local
    (λ _. bind_local Like like_front digits (λ x u. cond (sees 46 u) (digits (drop 1 u)) (Ok (x, u))) digits_local
    (λ x. sees_local Like like_front 46 (λ u. digits (drop 1 u)) (λ u. Ok (x, u)) (tail_local Like like_front digits digits_local) (ok_local Like like_front x)))

module _ (kept : Num → Option Num) where
  -- what is told of a number text that was read
  by_text : (text t rest : List ℕ) → numeral t ≡ Ok (tt, rest) → t ≡ text ++ rest → number_by kept t ≡ in_range (option_and_then kept (number_of_text text)) t rest
  unfolding number_by
  by_text text t rest e parts = rw (e, front_of text rest t parts) refl

  by_value : (text t rest : List ℕ) (o : Option Num) → numeral t ≡ Ok (tt, rest) → t ≡ text ++ rest → option_and_then kept (number_of_text text) ≡ o → number_by kept t ≡ in_range o t rest
  by_value text t rest o e parts v = by_text text t rest e parts ∙ ap (λ (o : Option Num). in_range o t rest) v

  number_text : {t rest : List ℕ} {n : Num} → IsNumber AnySize t n rest → (text : List ℕ) × (t ≡ text ++ rest) × (number_of_text text ≡ Some n) × (numeral t ≡ Ok (tt, rest))
  number_text (number_of text {rest = rest} {n = n} e ends ok) = (text, refl, e, numeral_read (shape_of text n e) rest ends)

  number_fails : (t : List ℕ) (f : Fault) → numeral t ≡ Err f → number_by kept t ≡ Err f
  unfolding number_by
  number_fails t f e = rw e refl

  out_of_range : (t other : List ℕ) (o : Option Num) (s : SameNumber t other) → kept s.n ≡ o → number_by kept t ≡ stop Range t → number_by kept other ≡ stop Range other
  out_of_range t other None s k e = let b = number_text s.b_number in by_value b.0 other s.rest' None b.3 b.1 (ap (option_and_then kept) b.2 ∙ k)
  out_of_range t other (Some m) s k e =
      let a = number_text s.a_number in
      let read : number_by kept t ≡ Ok (m, s.rest) = by_value a.0 t s.rest (Some m) a.3 a.1 (ap (option_and_then kept) a.2 ∙ k) in
      absurd (let w : Ok (m, s.rest) ≡ stop Range t = sym read ∙ e in cc)

  by_option : (t rest : List ℕ) (o : Option Num) (l : ReadsAlike numeral t tt rest) → numeral t ≡ Ok (tt, rest) → option_and_then kept (number_of_text l.before) ≡ o → IsAlike Like (number_by kept) t (in_range o t rest)
  by_option t rest (Some n) l e k = record { before = l.before; parts = l.parts; again = λ other h. by_value l.before (l.before ++ other) other (Some n) (l.again other h) refl k }
  by_option t rest None l e k =
      let here : number_by kept t ≡ stop Range t = by_value l.before t rest None e l.parts k in
      record { before = []; rest = t; parts = refl; left = refl; again = λ other s. out_of_range t other (kept s.n) s refl here }

  number_alike : (t : List ℕ) (a : Answer ℕ Fault (Unit {0})) → numeral t ≡ a → IsAlike Like numeral t a → IsAlike Like (number_by kept) t (number_by kept t)
  number_alike t (Err f) e l =
      let here : IsAlike Like (number_by kept) t (Err f) = record { before = l.before; rest = l.rest; parts = l.parts; left = l.left; again = λ other h. number_fails (l.before ++ other) (record { left = length other; code = f.code }) (l.again other h) } in
      subst (λ (b : Answer ℕ Fault Num). IsAlike Like (number_by kept) t b) (sym (number_fails t f e)) here
  number_alike t (Ok x) e l =
      subst (λ (b : Answer ℕ Fault Num). IsAlike Like (number_by kept) t b) (sym (by_value l.before t x.1 (option_and_then kept (number_of_text l.before)) e l.parts refl)) (by_option t x.1 (option_and_then kept (number_of_text l.before)) l e refl)

  pub number_local : IsLocal (number_by kept)
  unfolding Local
  number_local t = number_alike t (numeral t) refl (numeral_local t)
