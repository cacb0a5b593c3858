-- Each slug is a name, and so is a name with a number behind it.
use Rattle.std.proofs.Common.{◌≡◌, ap, refl, ℕ, ◌+◌, ◌≤◌, ◌<◌, ◌^◌, ◌-◌, ◌%◌, Bool, true, false, cond, List, [], ◌∷◌, ◌++◌, arith, decimal, codes}
use Rattle.std.specs.Prelude.{◌&&◌, ◌||◌, nat_le, nat_eq}
use Rattle.std.specs.List.{list_all}
use Rattle.std.specs.Char.{is_ascii_digit, is_ascii_lowercase}
use Rattle.std.proofs.lemmas.Bool.{and_parts, leb-true, le-leb}
use Rattle.std.proofs.lemmas.Fmt.{decimal_by_steps}
use Rattle.ha_value.specs.Ids.{is_name, is_name_byte}
use Rattle.ha_text.specs.Slug.{closed, joined, lower, named, runs, slug, stays}
use Rattle.conf_laws.proofs.Joined.{both_lists, one_more, pair}
use Rattle.conf_auto.specs.Names.{numbered}

abbrev Named : List ℕ → Type 0
Named t = list_all is_name_byte t ≡ true

or_right : (a b : Bool) → b ≡ true → (a || b) ≡ true
or_right true b h = refl
or_right false b h = h

between : (low high b : ℕ) → low ≤ b → b ≤ high → (nat_le low b && nat_le b high) ≡ true
between low high b p q = pair (nat_le low b) (nat_le b high) (le-leb low b p) (le-leb b high q)

a_digit : (b : ℕ) → 48 ≤ b → b ≤ 57 → is_name_byte b ≡ true
a_digit b p q = or_right (is_ascii_lowercase b) (is_ascii_digit b || nat_eq b 95) (ap (λ x. x || nat_eq b 95) (between 48 57 b p q))

a_letter : (b : ℕ) → 97 ≤ b → b ≤ 122 → is_name_byte b ≡ true
a_letter b p q = ap (λ x. x || (is_ascii_digit b || nat_eq b 95)) (between 97 122 b p q)

kept_byte : (b : ℕ) → stays b ≡ true → is_name_byte (lower b) ≡ true
kept_byte b h = by (nat_le 48 b && nat_le b 57) refl (nat_le 65 b && nat_le b 90) refl (nat_le 97 b && nat_le b 122) refl h
  where
    by : (d : Bool) → (nat_le 48 b && nat_le b 57) ≡ d → (u : Bool) → (nat_le 65 b && nat_le b 90) ≡ u → (l : Bool) → (nat_le 97 b && nat_le b 122) ≡ l
        → ((d || u) || l) ≡ true → is_name_byte (cond u (b + 32) b) ≡ true
    by d e true f l g k =
        let p = and_parts (nat_le 65 b) (nat_le b 90) f in
        a_letter (b + 32) (omega (arith, leb-true 65 b p.0)) (omega (arith, leb-true b 90 p.1))
    by true e false f l g k =
        let p = and_parts (nat_le 48 b) (nat_le b 57) e in
        a_digit b (leb-true 48 b p.0) (leb-true b 57 p.1)
    by false e false f true g k =
        let p = and_parts (nat_le 97 b) (nat_le b 122) g in
        a_letter b (leb-true 97 b p.0) (leb-true b 122 p.1)
    by false e false f false g k = absurd cc

abbrev AllNamed : List (List ℕ) → Type 0
AllNamed rs = list_all (λ r. list_all is_name_byte r) rs ≡ true

closed_named : (run : List ℕ) → Named run → AllNamed (closed run)
closed_named [] h = refl
closed_named (b ∷ run) h = pair (list_all is_name_byte (b ∷ run)) true h refl

either_named : (b : Bool) (xs ys : List (List ℕ)) → (b ≡ true → AllNamed xs) → AllNamed ys → AllNamed (cond b xs ys)
either_named true xs ys h k = h refl
either_named false xs ys h k = k

runs_named : (run text : List ℕ) → Named run → AllNamed (runs run text)
unfolding runs
runs_named run [] h = closed_named run h
runs_named run (b ∷ text) h =
    either_named (stays b) (runs (run ++ lower b ∷ []) text) (closed run ++ runs [] text)
    (λ e. runs_named (run ++ lower b ∷ []) text (one_more is_name_byte run (lower b) h (kept_byte b e)))
    (both_lists (λ r. list_all is_name_byte r) (closed run) (runs [] text) (closed_named run h) (runs_named [] text refl))

joined_named : (rs : List (List ℕ)) → AllNamed rs → Named (joined rs)
unfolding joined
joined_named [] h = refl
joined_named (r ∷ []) h = (and_parts (list_all is_name_byte r) true h).0
joined_named (r ∷ s ∷ rs) h =
    let two = and_parts (list_all is_name_byte r) (list_all (λ x. list_all is_name_byte x) (s ∷ rs)) h in
    both_lists is_name_byte r (95 ∷ joined (s ∷ rs)) two.0 (pair (is_name_byte 95) (list_all is_name_byte (joined (s ∷ rs))) refl (joined_named (s ∷ rs) two.1))

named_name : (t : List ℕ) → Named t → is_name (named t) ≡ true
named_name [] h = refl
named_name (b ∷ t) h = h

pub slug_name : (text : List ℕ) → is_name (slug text) ≡ true
slug_name text = named_name (joined (runs [] text)) (joined_named (runs [] text) (runs_named [] text refl))

-- ---- numbers behind names

digits_named : (n : ℕ) → n < 2 ^ 64 → Named (decimal n)
digits_named = decimal_by_steps (λ n ds. Named ds)
    (λ n lt. pair (is_name_byte (48 + n)) true (a_digit (48 + n) (omega arith) (omega arith)) refl)
    (λ n ds le h. one_more is_name_byte ds (48 + n % 10) h (a_digit (48 + n % 10) (omega arith) (omega arith)))

more_name : (xs ys : List ℕ) → is_name xs ≡ true → Named ys → is_name (xs ++ ys) ≡ true
more_name [] ys h k = absurd cc
more_name (x ∷ xs) ys h k = both_lists is_name_byte (x ∷ xs) ys h k

pub numbered_name : (name : List ℕ) (n : ℕ) → is_name name ≡ true → n < 2 ^ 64 → is_name (numbered name n) ≡ true
numbered_name name n h lt = more_name (name ++ codes "_") (decimal n) (more_name name (codes "_") h refl) (digits_named n lt)
