-- Characters: the UTF-8 of one is read as it, and what is read is one. A character looks at nothing behind it, and one that was begun
-- can be ended.
use Rattle.std.proofs.Common.{◌≡◌, ◌⊎◌, ℕ, ◌<◌, ◌≤◌, true, false, cond, List, [], ◌∷◌, ◌++◌, length, drop, Option, Some, None, Ok, slice_index, drop_at, length-append, refl, sym, ap, subst, ◌∙◌, arith, inl, inr}
use Rattle.std.specs.Char.{IsScalar, encode_utf8}
use Rattle.std.specs.Prelude.{◌==◌, ◌||◌}
use Rattle.std.proofs.lemmas.Bool.{cases_lt, cases_Bool, cond-true, cond-false}
use Rattle.std.proofs.lemmas.Bool.Decides.{nat_tests}
use Rattle.std.proofs.lemmas.Str.{encode_ascii, inside_one, length-encode, len_utf8_bounds}
use Rattle.bstr.specs.Utf8.{bad, good, decoded, second, continues}
use Rattle.bstr.proofs.lemmas.PieceLemmas.{size-within, value-1, value-2, value-3, value-4, value-5, value-6, value-7, value-8, value-9, value-10, value-11, value-12}
use Rattle.bstr.proofs.lemmas.EncodeLemmas.{decoded-encode}
use Rattle.bstr.proofs.lemmas.SoundLemmas.{SpellsChar-decoded}
use Rattle.reading.specs.declared.fault.Bad.{Bad}
use Rattle.reading.specs.Answer.{Answer, front, stop}
use Rattle.reading.specs.Characters.{begins_character, decoded_or_stop, character}
use Rattle.reading.proofs.Basics.{ok_parts}
use Rattle.reading.proofs.Bytes.{nothing_at, token_at}
use Rattle.reading.proofs.Solid.{IsSolid, Solid, halts_at, halts_at_end}

-- a character has a byte at least
pub encoded_some : (c : ℕ) → 0 < length (encode_utf8 c)
encoded_some c = omega (arith, length-encode c, (len_utf8_bounds c).0)

-- its first byte is its code, or neither is ASCII
pub first_byte : (c b : ℕ) (text rest : List ℕ) → b ∷ text ≡ encode_utf8 c ++ rest → ((b ≡ c) × (c < 128)) ⊎ ((128 ≤ b) × (128 ≤ c))
first_byte c b text rest e = elim (cases_lt c 128) [
  | inl h ↦ (let w : b ∷ text ≡ c ∷ rest = e ∙ ap (λ (u : List ℕ). u ++ rest) (encode_ascii c h) in let same : b ≡ c = cc in inl (same, h))
  | inr h ↦ elim (cases_lt b 128) [
    | inl k ↦ (let same : c ≡ b = inside_one c rest (b ∷ text) 0 e (encoded_some c) k in absurd (omega arith))
    | inr k ↦ inr (k, h)
  ]
]

pub decoded_within : (bytes : List ℕ) → (decoded bytes).size ≤ length bytes
decoded_within bytes = size-within bytes

module _ {C : Type 0} (code : C) where
  abbrev Read : List ℕ → ℕ → List ℕ → Type 0
  Read text c rest = character code text ≡ Ok (c, rest)

  good_read : (text : List ℕ) (c size : ℕ) → decoded text ≡ good c size → Read text c (drop size text)
  unfolding character
  good_read text c size e = ap (λ d. decoded_or_stop code d.char d.size text) e

  bad_stops : (text : List ℕ) (size : ℕ) → decoded text ≡ bad size → character code text ≡ stop code (cond (begins_character (front text)) (drop size text) text)
  unfolding character
  bad_stops text size e = ap (λ d. decoded_or_stop code d.char d.size text) e

  -- what a character's UTF-8 begins is read as that character
  pub character_read : (c : ℕ) (rest : List ℕ) → IsScalar c → Read (encode_utf8 c ++ rest) c rest
  character_read c rest h =
      let bytes : List ℕ = encode_utf8 c in
      good_read (bytes ++ rest) c (length bytes) (decoded-encode c rest h) ∙ ap (λ (u : List ℕ). Ok (c, u)) (drop_at bytes rest (length bytes) refl)

  -- and what is read is that of a character
  pub character_found : (text : List ℕ) (c : ℕ) (rest : List ℕ) → Read text c rest → IsScalar c × (text ≡ encode_utf8 c ++ rest)
  unfolding character
  character_found text c rest e = by_char (decoded text).char refl e where
    by_char : (o : Option ℕ) → (decoded text).char ≡ o → decoded_or_stop code o (decoded text).size text ≡ Ok (c, rest) → IsScalar c × (text ≡ encode_utf8 c ++ rest)
    by_char None is e = absurd cc
    by_char (Some d) is e =
        let s = SpellsChar-decoded text d is in
        let p = ok_parts {F = Bad C} (d, drop (decoded text).size text) (c, rest) e in
        (subst IsScalar p.0 s.scalar, s.bytes ∙ (λ i. encode_utf8 (p.0 i) ++ p.1 i))

  pub ascii_read : (b : ℕ) (rest : List ℕ) → b < 128 → Read (b ∷ rest) b rest
  ascii_read b rest h = let u : List ℕ = b ∷ rest in good_read u b 1 (value-1 (length u) b (slice_index u 1) (slice_index u 2) (slice_index u 3) (omega arith, h))

  pub none_read : character code [] ≡ stop code []
  unfolding character
  none_read = refl

  pub character_shorter : (text : List ℕ) (c : ℕ) (rest : List ℕ) → Read text c rest → length rest < length text
  character_shorter text c rest e = omega (arith, ap length (character_found text c rest e).1, length-append (encode_utf8 c) rest, encoded_some c)

  -- ---- a character that was begun

  -- bytes that end it, and which it is then
  abbrev Ends : List ℕ → Type 0
  Ends before = (more : List ℕ) × (c : ℕ) × ((other : List ℕ) → Read (before ++ (more ++ other)) c other)

  abbrev Stands : List ℕ → Type 0
  Stands text = IsSolid code (character code) text (character code text)

  begun : (before rest : List ℕ) → ((other : List ℕ) → front other ≡ front rest → character code (before ++ other) ≡ stop code other) → Ends before → Stands (before ++ rest)
  begun before rest again ends = subst (λ (a : Answer ℕ (Bad C) ℕ). IsSolid code (character code) (before ++ rest) a) (sym (again rest refl)) (record {
    before = before;
    rest = rest;
    parts = refl;
    left = refl;
    coded = refl;
    again = again;
    more = ends.0;
    x = ends.1;
    goes_on = ends.2;
  })

  whole : (text : List ℕ) (c size : ℕ) → decoded text ≡ good c size → Stands text
  whole text c size e =
      let r = good_read text c size e in
      let s = character_found text c (drop size text) r in
      subst (λ (a : Answer ℕ (Bad C) ℕ). IsSolid code (character code) text a) (sym r) (record { taken = encode_utf8 c; parts = s.1; again = λ other. character_read c other s.0 })

  -- nothing, or a byte that does not go on, behind what was begun
  at_end : (before : List ℕ) → character code (before ++ []) ≡ stop code [] → (other : List ℕ) → front other ≡ None → character code (before ++ other) ≡ stop code other
  at_end before h other e = subst (λ (u : List ℕ). character code (before ++ u) ≡ stop code u) (sym (nothing_at other e)) h

  at_byte : (before : List ℕ) (b : ℕ) → ((u : List ℕ) → character code (before ++ b ∷ u) ≡ stop code (b ∷ u)) → (other : List ℕ) → front other ≡ Some b → character code (before ++ other) ≡ stop code other
  at_byte before b h other e = subst (λ (u : List ℕ). character code (before ++ u) ≡ stop code u) (sym (token_at b other e)) (h (drop 1 other))

  begins : (b : ℕ) → 0xC2 ≤ b → b ≤ 0xF4 → begins_character (Some b) ≡ true
  begins b low high = grind (arith, nat_tests)

  stops : (before rest : List ℕ) (size : ℕ) → begins_character (front (before ++ rest)) ≡ true → length before ≡ size → decoded (before ++ rest) ≡ bad size → character code (before ++ rest) ≡ stop code rest
  stops before rest size lead same e = bad_stops (before ++ rest) size e ∙ ap (stop code) (cond-true _ _ _ lead ∙ drop_at before rest size same)

  three_end : (b y z : ℕ) → 0xF0 ≤ b → b ≤ 0xF4 → second b y ≡ true → continues z ≡ true → Ends (b ∷ y ∷ z ∷ [])
  three_end b y z low high s t = (0x80 ∷ [], _, λ other. let u : List ℕ = b ∷ y ∷ z ∷ 0x80 ∷ other in good_read u _ 4 (value-12 (length u) b y z 0x80 (omega arith, low, high, s, t, refl)))

  two_end : (b y : ℕ) → 0xE0 ≤ b → b ≤ 0xF4 → second b y ≡ true → Ends (b ∷ y ∷ [])
  two_end b y low high s = elim (cases_lt b 0xF0) [
    | inl h ↦ (0x80 ∷ [], _, λ other. let u : List ℕ = b ∷ y ∷ 0x80 ∷ other in good_read u _ 3 (value-9 (length u) b y 0x80 (slice_index u 3) (omega arith, low, h, s, refl)))
    | inr h ↦ (let more = three_end b y 0x80 h high s refl in (0x80 ∷ more.0, more.1, more.2))
  ]

  -- a second byte for each first one
  next_of : ℕ → ℕ
  next_of b = cond (b == 0xE0 || b == 0xF0) 0xA0 0x80

  next_second : (b : ℕ) → 0xC2 ≤ b → b ≤ 0xF4 → second b (next_of b) ≡ true
  unfolding next_of
  next_second b low high = grind (arith, nat_tests)

  one_end : (b : ℕ) → 0xC2 ≤ b → b ≤ 0xF4 → Ends (b ∷ [])
  one_end b low high =
      let y : ℕ = next_of b in
      let s : second b y ≡ true = next_second b low high in
      elim (cases_lt b 0xE0) [
        | inl h ↦ (y ∷ [], _, λ other. let u : List ℕ = b ∷ y ∷ other in good_read u _ 2 (value-6 (length u) b y (slice_index u 2) (slice_index u 3) (omega arith, low, h, s)))
        | inr h ↦ (let more = two_end b y h high s in (y ∷ more.0, more.1, more.2))
      ]

  letter : (other : List ℕ) → Read (97 ∷ other) 97 other
  letter other = ascii_read 97 other (omega arith)

  no_lead : (b : ℕ) → (0x80 ≤ b) × (b < 0xC2) ⊎ (0xF4 < b) → (u : List ℕ) → character code (b ∷ u) ≡ stop code (b ∷ u)
  no_lead b h u =
      let t : List ℕ = b ∷ u in
      let none : begins_character (Some b) ≡ false = elim h [ inl k ↦ (let low = k.0 in let high = k.1 in grind (arith, nat_tests)) | inr k ↦ grind (arith, nat_tests) ] in
      let is : decoded t ≡ bad 1 = elim h [
        | inl k ↦ value-2 (length t) b (slice_index t 1) (slice_index t 2) (slice_index t 3) (omega arith, k.0, k.1)
        | inr k ↦ value-3 (length t) b (slice_index t 1) (slice_index t 2) (slice_index t 3) (omega arith, k)
      ] in
      bad_stops t 1 is ∙ ap (stop code) (cond-false _ _ _ none)

  -- ---- byte by byte

  behind_three : (b y z : ℕ) (t : List ℕ) → 0xF0 ≤ b → b ≤ 0xF4 → second b y ≡ true → continues z ≡ true → Stands (b ∷ y ∷ z ∷ t)
  behind_three b y z [] low high s r =
      let before : List ℕ = b ∷ y ∷ z ∷ [] in
      begun before [] (at_end before (stops before [] 3 (begins b (omega arith) high) refl (value-10 (length before) b y z (slice_index before 3) (omega arith, low, high, s, r, omega arith)))) (three_end b y z low high s r)
  behind_three b y z (w ∷ t) low high s r = elim (cases_Bool (continues w)) [
    | inl h ↦ (let u : List ℕ = b ∷ y ∷ z ∷ w ∷ t in whole u _ 4 (value-12 (length u) b y z w (omega arith, low, high, s, r, h)))
    | inr h ↦
        let before : List ℕ = b ∷ y ∷ z ∷ [] in
        begun before (w ∷ t) (at_byte before w (λ u. let v : List ℕ = b ∷ y ∷ z ∷ w ∷ u in stops before (w ∷ u) 3 (begins b (omega arith) high) refl (value-11 (length v) b y z w (omega arith, low, high, s, r, h)))) (three_end b y z low high s r)
  ]

  behind_two : (b y : ℕ) (t : List ℕ) → 0xE0 ≤ b → b ≤ 0xF4 → second b y ≡ true → Stands (b ∷ y ∷ t)
  behind_two b y [] low high s =
      let before : List ℕ = b ∷ y ∷ [] in
      begun before [] (at_end before (stops before [] 2 (begins b (omega arith) high) refl (value-7 (length before) b y (slice_index before 2) (slice_index before 3) (omega arith, low, high, s, omega arith)))) (two_end b y low high s)
  behind_two b y (z ∷ t) low high s = elim (cases_Bool (continues z)) [
    | inl h ↦ elim (cases_lt b 0xF0) [
      | inl k ↦ (let u : List ℕ = b ∷ y ∷ z ∷ t in whole u _ 3 (value-9 (length u) b y z (slice_index u 3) (omega arith, low, k, s, h)))
      | inr k ↦ behind_three b y z t k high s h
    ]
    | inr h ↦
        let before : List ℕ = b ∷ y ∷ [] in
        begun before (z ∷ t) (at_byte before z (λ u. let v : List ℕ = b ∷ y ∷ z ∷ u in stops before (z ∷ u) 2 (begins b (omega arith) high) refl (value-8 (length v) b y z (slice_index v 3) (omega arith, low, high, s, h)))) (two_end b y low high s)
  ]

  behind_one : (b : ℕ) (t : List ℕ) → 0xC2 ≤ b → b ≤ 0xF4 → Stands (b ∷ t)
  behind_one b [] low high =
      let before : List ℕ = b ∷ [] in
      begun before [] (at_end before (stops before [] 1 (begins b low high) refl (value-4 (length before) b (slice_index before 1) (slice_index before 2) (slice_index before 3) (omega arith, low, high, omega arith)))) (one_end b low high)
  behind_one b (y ∷ t) low high = elim (cases_Bool (second b y)) [
    | inl h ↦ elim (cases_lt b 0xE0) [
      | inl k ↦ (let u : List ℕ = b ∷ y ∷ t in whole u _ 2 (value-6 (length u) b y (slice_index u 2) (slice_index u 3) (omega arith, low, k, h)))
      | inr k ↦ behind_two b y t k high h
    ]
    | inr h ↦
        let before : List ℕ = b ∷ [] in
        begun before (y ∷ t) (at_byte before y (λ u. let v : List ℕ = b ∷ y ∷ u in stops before (y ∷ u) 1 (begins b low high) refl (value-5 (length v) b y (slice_index v 2) (slice_index v 3) (omega arith, low, high, h)))) (one_end b low high)
  ]

  unled : (b : ℕ) (t : List ℕ) → (0x80 ≤ b) × (b < 0xC2) ⊎ (0xF4 < b) → Stands (b ∷ t)
  unled b t h = subst (λ (a : Answer ℕ (Bad C) ℕ). IsSolid code (character code) (b ∷ t) a) (sym (no_lead b h t)) (halts_at (character code) code (97 ∷ []) 97 letter b t (no_lead b h))

  pub character_solid : Solid code (character code)
  unfolding Solid
  character_solid [] = subst (λ (a : Answer ℕ (Bad C) ℕ). IsSolid code (character code) [] a) (sym none_read) (halts_at_end (character code) code (97 ∷ []) 97 letter none_read)
  character_solid (b ∷ t) = elim (cases_lt b 0x80) [
    | inl h ↦ (let u : List ℕ = b ∷ t in whole u b 1 (value-1 (length u) b (slice_index u 1) (slice_index u 2) (slice_index u 3) (omega arith, h)))
    | inr h ↦ elim (cases_lt b 0xC2) [
      | inl k ↦ unled b t (inl (h, k))
      | inr k ↦ elim (cases_lt 0xF4 b) [ inl l ↦ unled b t (inr l) | inr l ↦ behind_one b t k l ]
    ]
  ]
