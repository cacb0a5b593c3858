-- What is read as a value is spelled as it, and what is spelled is read: at the numbers that a rule for numbers keeps.
use Rattle.std.proofs.Common.{◌≡◌, ℕ, zero, suc, true, false, cond, List, ◌∷◌, ◌++◌, length, drop, Ok, refl, sym, ap, subst, ◌∙◌, arith, inl, inr}
use Rattle.std.specs.Prelude.{codes}
use Rattle.ha_value.specs.declared.value.Num.{Num}
use Rattle.ha_value.specs.declared.value.Value.{Value}
use Rattle.ha_value.specs.declared.value.Value.TheVariants.{Null, Flag, Number, Text, Items, Pairs}
use Rattle.reading.specs.Answer.{◌>>=◌, front, made, stop}
use Rattle.reading.specs.Bytes.{sees, skip, expect}
use Rattle.reading.specs.Rows.{closed_by}
use Rattle.reading.specs.Spelling.{Never, IsClosed}
use Rattle.reading.proofs.Basics.{bind_ok, ok_parts, made_ok, chosen, Sound, Complete, Longer, IsShorter}
use Rattle.reading.proofs.Bytes.{expect_found, length-skip}
use Rattle.reading.proofs.RowLaws.{closed_found, closed_longer, closed_read}
use Rattle.flow_line.specs.declared.fault.Code.TheVariants.{Syntax, RepeatedKey, Depth}
use Rattle.flow_line.specs.Text.{Reads, text, string}
use Rattle.flow_line.specs.Reading.{number, has_key, key, pair, items, pairs, Start, of_null, of_true, of_false, quote, bracket, brace, numeric, nothing, start_of, value_by, value, ended, document}
use Rattle.flow_line.specs.Grammar.{IsString, IsNumber, IsPair, pair as pair_of, IsValueOver, null, yes, no, numeric as number_of, text as text_of, list, map, IsValue}
use Rattle.flow_line.proofs.ByteRanges.{Fault}
use Rattle.flow_line.proofs.Found.{text_found, string_found, string_longer}
use Rattle.flow_line.proofs.StringsRead.{text_read, string_read}
use Rattle.flow_line.proofs.Shorter.{IsStart, is_start}
use Rattle.flow_line.proofs.Numbers.{number_longer, number_starts, number_sees}

-- ---- keys and pairs

pub key_found : (found : List (List ℕ × Value)) (t k rest : List ℕ) → key found t ≡ Ok (k, rest) → (behind : List ℕ) × (t ≡ 34 ∷ behind) × IsString behind k rest × (has_key found k ≡ false)
unfolding key
key_found found t k rest e =
    let a = bind_ok (string t) (λ k. cond (has_key found k.0) (stop RepeatedKey t) (Ok k)) (k, rest) e in
    elim (chosen (has_key found a.0.0) (stop RepeatedKey t) (Ok a.0) (Ok (k, rest)) a.2) [
      | inl h ↦ absurd (let m = h.1 in cc)
      | inr h ↦
          let p = ok_parts {F = Fault} a.0 (k, rest) h.1 in
          let s = string_found t k rest (a.1 ∙ h.1) in
          (s.0, s.1, s.2, ap (has_key found) (sym p.0) ∙ h.0)
    ]

key_read : (found : List (List ℕ × Value)) {t k rest : List ℕ} → IsString t k rest → has_key found k ≡ false → key found (34 ∷ t) ≡ Ok (k, rest)
unfolding key
key_read found name new = rw (string_read name, new) refl

module _ (val : Reads Value) (Val : List ℕ → Value → List ℕ → Type 0) where
  pub pair_found : Sound val Val → (found : List (List ℕ × Value)) → Sound (pair val found) (IsPair Val found)
  unfolding pair Sound
  pair_found sound found t x rest e =
      let a = bind_ok (key found t) (λ k. expect Syntax (codes ":") (skip k.1) >>= λ colon. val (skip colon.1) >>= λ v. Ok ((k.0, v.0), v.1)) (x, rest) e in
      let b = bind_ok (expect Syntax (codes ":") (skip a.0.1)) (λ colon. val (skip colon.1) >>= λ v. Ok ((a.0.0, v.0), v.1)) (x, rest) a.2 in
      let c = bind_ok (val (skip b.0.1)) (λ v. Ok ((a.0.0, v.0), v.1)) (x, rest) b.2 in
      let k = key_found found t a.0.0 a.0.1 a.1 in
      let colon = expect_found Syntax (codes ":") (skip a.0.1) b.0.0 b.0.1 b.1 in
      let p = ok_parts {F = Fault} ((a.0.0, c.0.0), c.0.1) (x, rest) c.2 in
      let here : IsPair Val found (34 ∷ k.0) (a.0.0, c.0.0) c.0.1 = pair_of k.2 k.3 colon (sound (skip b.0.1) c.0.0 c.0.1 c.1) in
      subst (λ (s : List ℕ). IsPair Val found s x rest) (sym k.1) (subst (λ (y : List ℕ × Value). IsPair Val found (34 ∷ k.0) y rest) p.0 (subst (λ (r : List ℕ). IsPair Val found (34 ∷ k.0) (a.0.0, c.0.0) r) p.1 here))

  pub pair_longer : Longer Val → (found : List (List ℕ × Value)) → Longer (IsPair Val found)
  unfolding Longer
  pair_longer longer found t x rest (pair_of {text = s} {key = k} {after = after} {behind = behind} {v = v} name new colon here) =
      omega (arith, string_longer name, length-skip after, ap length colon, length-skip behind, longer (skip behind) v rest here)

  pub pair_read : Complete val Val → (found : List (List ℕ × Value)) → Complete (pair val found) (IsPair Val found)
  unfolding pair expect Complete
  pair_read reads found t x rest (pair_of {text = s} {key = k} {after = after} {behind = behind} {v = v} name new colon here) = rw (key_read found name new, colon, reads (skip behind) v rest here) refl

pub pair_starts : (Val : List ℕ → Value → List ℕ → Type 0) (found : List (List ℕ × Value)) (t : List ℕ) (x : List ℕ × Value) (rest : List ℕ) → IsPair Val found t x rest → sees 125 t ≡ false
pair_starts Val found t x rest (pair_of name new colon here) = refl

-- ---- values whose numbers are read by a rule

module _ (num : Reads Num) where
  abbrev pub value_over : Start → Reads (List Value) → Reads (List (List ℕ × Value)) → Reads Value
  value_over of_null lists maps rest = made (λ _. Null) (expect Syntax (codes "null") rest)
  value_over of_true lists maps rest = made (λ _. Flag true) (expect Syntax (codes "true") rest)
  value_over of_false lists maps rest = made (λ _. Flag false) (expect Syntax (codes "false") rest)
  value_over quote lists maps rest = made Text (text (drop 1 rest))
  value_over bracket lists maps rest = made Items (lists rest)
  value_over brace lists maps rest = made Pairs (maps rest)
  value_over numeric lists maps rest = made Number (num rest)
  value_over nothing lists maps rest = stop Syntax rest

-- ---- values: `seen` says which keys a pair has to differ from, of those before it

module _ (seen : List (List ℕ × Value) → List (List ℕ × Value)) where
  abbrev pub maps_with : Reads Value → Reads (List (List ℕ × Value))
  maps_with val = closed_by Syntax 125 (λ found. pair val (seen found))

  abbrev pub IsMap : (List ℕ → Value → List ℕ → Type 0) → List ℕ → List (List ℕ × Value) → List ℕ → Type 0
  IsMap Val = IsClosed 125 (λ found. IsPair Val (seen found))

  module _ (num : Reads Num) where
    unfoldable pub value_with : ℕ → Reads Value
    value_with zero rest = value_over num (start_of (front rest)) (stop Depth) (stop Depth) rest
    value_with (suc depth) rest = value_over num (start_of (front rest)) (λ rest. items (value_with depth) (drop 1 rest)) (λ rest. maps_with (value_with depth) (drop 1 rest)) rest

    -- the whole text, with so many brackets in one another
    unfoldable pub document_with : ℕ → Reads Value
    document_with depth text = value_with depth text >>= λ v. cond (ended (front v.1)) (Ok v) (stop Syntax v.1)

  unfoldable pub ValueBy : (Num → Type 0) → ℕ → List ℕ → Value → List ℕ → Type 0
  ValueBy Allowed zero = IsValueOver Allowed Never Never
  ValueBy Allowed (suc depth) = IsValueOver Allowed (IsClosed 93 (λ found. ValueBy Allowed depth)) (IsMap (ValueBy Allowed depth))

-- each key differs from all before it
abbrev pub all_seen : List (List ℕ × Value) → List (List ℕ × Value)
all_seen found = found

same_start : (s : Start) (lists : Reads (List Value)) (maps : Reads (List (List ℕ × Value))) (t : List ℕ) → value_by s lists maps t ≡ value_over number s lists maps t
same_start of_null lists maps t = refl
same_start of_true lists maps t = refl
same_start of_false lists maps t = refl
same_start quote lists maps t = refl
same_start bracket lists maps t = refl
same_start brace lists maps t = refl
same_start numeric lists maps t = refl
same_start nothing lists maps t = refl

abbrev pub strict : ℕ → Reads Value
strict = value_with all_seen number

pub value_is : (depth : ℕ) → value depth ≡ strict depth
unfolding value value_with pairs
value_is zero = λ i t. same_start (start_of (front t)) (stop Depth) (stop Depth) t i
value_is (suc depth) =
    let inner = value_is depth in
    let outer : value (suc depth) ≡ (λ (t : List ℕ). value_by (start_of (front t)) (λ rest. items (strict depth) (drop 1 rest)) (λ rest. maps_with all_seen (strict depth) (drop 1 rest)) t) =
    λ i t. value_by (start_of (front t)) (λ rest. items (inner i) (drop 1 rest)) (λ rest. maps_with all_seen (inner i) (drop 1 rest)) t in
    outer ∙ (λ i t. same_start (start_of (front t)) (λ rest. items (strict depth) (drop 1 rest)) (λ rest. maps_with all_seen (strict depth) (drop 1 rest)) t i)

pub document_is : document ≡ document_with all_seen number 32
unfolding document document_with
document_is = let inner = value_is 32 in λ i t. inner i t >>= λ v. cond (ended (front v.1)) (Ok v) (stop Syntax v.1)

pub is_value : (Allowed : Num → Type 0) (depth : ℕ) → IsValue Allowed depth ≡ ValueBy all_seen Allowed depth
unfolding IsValue ValueBy
is_value Allowed zero = refl
is_value Allowed (suc depth) = let inner = is_value Allowed depth in λ i. IsValueOver Allowed (IsClosed 93 (λ found. inner i)) (IsMap all_seen (inner i))

module _ (seen : List (List ℕ × Value) → List (List ℕ × Value)) (num : Reads Num) (Allowed : Num → Type 0) where
  abbrev Val : ℕ → List ℕ → Value → List ℕ → Type 0
  Val = ValueBy seen Allowed

  abbrev val : ℕ → Reads Value
  val = value_with seen num

  module _ (num_sound : Sound num (IsNumber Allowed)) where
    module _ (lists : Reads (List Value)) (maps : Reads (List (List ℕ × Value))) (L : List ℕ → List Value → List ℕ → Type 0) (M : List ℕ → List (List ℕ × Value) → List ℕ → Type 0)
        (lists_sound : (t : List ℕ) (x : List Value) (rest : List ℕ) → lists t ≡ Ok (x, rest) → L (drop 1 t) x rest)
        (maps_sound : (t : List ℕ) (x : List (List ℕ × Value)) (rest : List ℕ) → maps t ≡ Ok (x, rest) → M (drop 1 t) x rest) where
      abbrev Over : List ℕ → Value → List ℕ → Type 0
      Over = IsValueOver Allowed L M

      word_found : (word t rest : List ℕ) (v w : Value) → ((r : List ℕ) → Over (word ++ r) v r) → made (λ _. v) (expect Syntax word t) ≡ Ok (w, rest) → Over t w rest
      word_found word t rest v w spelled e =
          let m = made_ok {F = Fault} (λ _. v) (expect Syntax word t) w rest e in
          subst (λ (s : List ℕ). Over s w rest) (sym (expect_found Syntax word t m.0 rest m.1)) (subst (λ (y : Value). Over (word ++ rest) y rest) m.2 (spelled rest))

      by_start : (s : Start) (t : List ℕ) (v : Value) (rest : List ℕ) → IsStart s t → value_over num s lists maps t ≡ Ok (v, rest) → Over t v rest
      unfolding IsStart Sound
      by_start of_null t v rest at e = word_found (codes "null") t rest Null v (λ r. null) e
      by_start of_true t v rest at e = word_found (codes "true") t rest (Flag true) v (λ r. yes) e
      by_start of_false t v rest at e = word_found (codes "false") t rest (Flag false) v (λ r. no) e
      by_start quote t v rest at e =
          let m = made_ok {F = Fault} Text (text (drop 1 t)) v rest e in
          subst (λ (u : List ℕ). Over u v rest) (sym at) (subst (λ (y : Value). Over (34 ∷ drop 1 t) y rest) m.2 (text_of (text_found (drop 1 t) m.0 rest m.1)))
      by_start bracket t v rest at e =
          let m = made_ok {F = Fault} Items (lists t) v rest e in
          subst (λ (u : List ℕ). Over u v rest) (sym at) (subst (λ (y : Value). Over (91 ∷ drop 1 t) y rest) m.2 (list (lists_sound t m.0 rest m.1)))
      by_start brace t v rest at e =
          let m = made_ok {F = Fault} Pairs (maps t) v rest e in
          subst (λ (u : List ℕ). Over u v rest) (sym at) (subst (λ (y : Value). Over (123 ∷ drop 1 t) y rest) m.2 (map (maps_sound t m.0 rest m.1)))
      by_start numeric t v rest at e =
          let m = made_ok {F = Fault} Number (num t) v rest e in
          subst (λ (y : Value). Over t y rest) m.2 (number_of (num_sound t m.0 rest m.1))
      by_start nothing t v rest at e = absurd (let k = e in cc)

    pub value_found : (depth : ℕ) → Sound (val depth) (Val depth)
    unfolding value_with ValueBy Sound items
    value_found zero t v rest e = by_start (stop Depth) (stop Depth) Never Never (λ t x rest e. absurd cc) (λ t x rest e. absurd cc) (start_of (front t)) t v rest (is_start t) e
    value_found (suc depth) t v rest e =
        by_start (λ t. items (val depth) (drop 1 t)) (λ t. maps_with seen (val depth) (drop 1 t)) (IsClosed 93 (λ found. Val depth)) (IsMap seen (Val depth))
        (λ t. closed_found Syntax 93 (λ found. val depth) (λ found. Val depth) (λ found. value_found depth) (drop 1 t))
        (λ t. closed_found Syntax 125 (λ found. pair (val depth) (seen found)) (λ found. IsPair (Val depth) (seen found)) (λ found. pair_found (val depth) (Val depth) (value_found depth) (seen found)) (drop 1 t))
        (start_of (front t)) t v rest (is_start t) e

  -- ---- what is spelled is longer than what follows

  over_longer : (L : List ℕ → List Value → List ℕ → Type 0) (M : List ℕ → List (List ℕ × Value) → List ℕ → Type 0) → Longer L → Longer M → Longer (IsValueOver Allowed L M)
  unfolding Longer
  over_longer L M l m t v rest null = omega arith
  over_longer L M l m t v rest yes = omega arith
  over_longer L M l m t v rest no = omega arith
  over_longer L M l m t v rest (number_of n) = number_longer n
  over_longer L M l m t v rest (text_of s) = omega (arith, string_longer s)
  over_longer L M l m t v rest (list {t = u} {vs = vs} here) = omega (arith, l u vs rest here)
  over_longer L M l m t v rest (map {t = u} {ps = ps} here) = omega (arith, m u ps rest here)

  pub value_longer : (depth : ℕ) → Longer (Val depth)
  unfolding ValueBy Longer
  value_longer zero = over_longer Never Never (λ t x rest h. elim h [ ]) (λ t x rest h. elim h [ ])
  value_longer (suc depth) =
      over_longer (IsClosed 93 (λ found. Val depth)) (IsMap seen (Val depth)) (closed_longer 93 (λ found. Val depth) (λ found. value_longer depth)) (closed_longer 125 (λ found. IsPair (Val depth) (seen found)) (λ found. pair_longer (val depth) (Val depth) (value_longer depth) (seen found)))

  module _ (num_sound : Sound num (IsNumber Allowed)) where
    pub value_shorter : (depth : ℕ) → IsShorter (val depth)
    unfolding Longer Sound
    value_shorter depth t v rest e = value_longer depth t v rest (value_found num_sound depth t v rest e)

    pub pair_shorter : (depth : ℕ) (found : List (List ℕ × Value)) → IsShorter (pair (val depth) found)
    unfolding Longer Sound
    pair_shorter depth found t x rest e =
        pair_longer (val depth) (Val depth) (value_longer depth) found t x rest (pair_found (val depth) (Val depth) (value_found num_sound depth) found t x rest e)

  -- ---- what is spelled is read

  over_starts : (L : List ℕ → List Value → List ℕ → Type 0) (M : List ℕ → List (List ℕ × Value) → List ℕ → Type 0) (t : List ℕ) (v : Value) (rest : List ℕ) → IsValueOver Allowed L M t v rest → sees 93 t ≡ false
  over_starts L M t v rest null = refl
  over_starts L M t v rest yes = refl
  over_starts L M t v rest no = refl
  over_starts L M t v rest (number_of here) = number_sees 93 refl here
  over_starts L M t v rest (text_of s) = refl
  over_starts L M t v rest (list here) = refl
  over_starts L M t v rest (map here) = refl

  value_starts : (depth : ℕ) (t : List ℕ) (v : Value) (rest : List ℕ) → Val depth t v rest → sees 93 t ≡ false
  unfolding ValueBy
  value_starts zero = over_starts Never Never
  value_starts (suc depth) = over_starts (IsClosed 93 (λ found. Val depth)) (IsMap seen (Val depth))

  module _ (num_reads : Complete num (IsNumber Allowed)) where
    module _ (lists : Reads (List Value)) (maps : Reads (List (List ℕ × Value))) (L : List ℕ → List Value → List ℕ → Type 0) (M : List ℕ → List (List ℕ × Value) → List ℕ → Type 0)
        (lists_read : (t : List ℕ) (x : List Value) (rest : List ℕ) → L t x rest → lists (91 ∷ t) ≡ Ok (x, rest))
        (maps_read : (t : List ℕ) (x : List (List ℕ × Value)) (rest : List ℕ) → M t x rest → maps (123 ∷ t) ≡ Ok (x, rest)) where
      over_read : (t : List ℕ) (v : Value) (rest : List ℕ) → IsValueOver Allowed L M t v rest → value_over num (start_of (front t)) lists maps t ≡ Ok (v, rest)
      unfolding expect Complete
      over_read t v rest null = refl
      over_read t v rest yes = refl
      over_read t v rest no = refl
      over_read t v rest (number_of {n = n} here) = rw (number_starts here, num_reads t n rest here) refl
      over_read t v rest (text_of s) = ap (made Text) (text_read s)
      over_read t v rest (list {t = u} {vs = vs} here) = ap (made Items) (lists_read u vs rest here)
      over_read t v rest (map {t = u} {ps = ps} here) = ap (made Pairs) (maps_read u ps rest here)

    pub value_read : (depth : ℕ) → Complete (val depth) (Val depth)
    unfolding value_with ValueBy Complete items
    value_read zero = over_read (stop Depth) (stop Depth) Never Never (λ t x rest h. elim h [ ]) (λ t x rest h. elim h [ ])
    value_read (suc depth) =
        over_read (λ t. items (val depth) (drop 1 t)) (λ t. maps_with seen (val depth) (drop 1 t)) (IsClosed 93 (λ found. Val depth)) (IsMap seen (Val depth))
        (closed_read Syntax 93 (λ found. val depth) (λ found. Val depth) (λ found. value_read depth) (λ found. value_longer depth) refl refl (λ found. value_starts depth))
        (closed_read Syntax 125 (λ found. pair (val depth) (seen found)) (λ found. IsPair (Val depth) (seen found)) (λ found. pair_read (val depth) (Val depth) (value_read depth) (seen found)) (λ found. pair_longer (val depth) (Val depth) (value_longer depth) (seen found)) refl refl
        (λ found. pair_starts (Val depth) (seen found)))
