-- What is read of a value, and its first fault, depend on nothing behind them.
use Rattle.std.proofs.Common.{◌≡◌, ℕ, zero, suc, true, false, cond, List, [], drop, Ok, Err, refl, sym, ap, ◌∙◌, inl, inr}
use Rattle.std.specs.Prelude.{codes}
use Rattle.ha_value.specs.declared.value.Num.{Num}
use Rattle.ha_value.specs.declared.value.Value.{Value}
use Rattle.ha_value.specs.declared.value.Value.TheVariants.{Null, Flag, Number, Text, Items, Pairs}
use Rattle.reading.specs.Answer.{◌>>=◌, Answer, front, made, stop}
use Rattle.reading.specs.Bytes.{skip, expect}
use Rattle.reading.specs.Faults.{IsAlike}
use Rattle.reading.specs.Rows.{closed_by}
use Rattle.reading.proofs.Basics.{chosen_is, ok_parts, Sound}
use Rattle.reading.proofs.Local.{Local, bind_local, ok_local, stop_local, tail_local, made_local, chosen_local, look_local, skip_local, expect_local, closed_local}
use Rattle.flow_line.specs.declared.fault.Code.TheVariants.{Syntax, RepeatedKey, Depth}
use Rattle.flow_line.specs.Text.{Reads, text, string}
use Rattle.flow_line.specs.Reading.{has_key, key, pair, items, Start, of_null, of_true, of_false, quote, bracket, brace, numeric, nothing, start_of, ended}
use Rattle.flow_line.specs.Grammar.{IsNumber}
use Rattle.flow_line.specs.Refused.{Like, SameKey}
use Rattle.flow_line.proofs.ByteRanges.{Fault}
use Rattle.flow_line.proofs.StringsRead.{string_read}
use Rattle.flow_line.proofs.StringLaws.{like_front, IsLocal, text_local, string_local}
use Rattle.flow_line.proofs.Values.{value_over, maps_with, value_with, document_with, value_shorter, pair_shorter}

module _ (found : List (List ℕ × Value)) where
  same_key : (t k rest other : List ℕ) → string t ≡ Ok (k, rest) → SameKey t other → (rest' : List ℕ) × (string other ≡ Ok (k, rest'))
  same_key t k rest other e l =
      let read : string t ≡ Ok (l.key, l.rest) = ap string l.a_is ∙ string_read l.a_key in
      let same : l.key ≡ k = (ok_parts {F = Fault} (l.key, l.rest) (k, rest) (sym read ∙ e)).0 in
      (l.rest', ap string l.b_is ∙ string_read l.b_key ∙ ap (λ (u : List ℕ). Ok (u, l.rest')) same)

  by_string : (t : List ℕ) (a : Answer ℕ Fault (List ℕ)) → string t ≡ a → IsAlike Like string t a → IsAlike Like (key found) t (a >>= λ k. cond (has_key found k.0) (stop RepeatedKey t) (Ok k))
  unfolding key
  by_string t (Err f) e l = record { before = l.before; rest = l.rest; parts = l.parts; left = l.left; again = λ other h. rw (l.again other h) refl }
  by_string t (Ok k) e l =
      elim (chosen_is (has_key found k.0)) [
        | inl h ↦ rw h (record { before = []; rest = t; parts = refl; left = refl; again = λ other s. let o = same_key t k.0 k.1 other e s in rw (o.1, h) refl })
        | inr h ↦ rw h (record { before = l.before; parts = l.parts; again = λ other s. rw (l.again other s, h) refl })
      ]

  pub key_local : IsLocal (key found)
  unfolding Local key
  key_local t = by_string t (string t) refl (string_local t)

pub pair_local : (val : Reads Value) → IsLocal val → (found : List (List ℕ × Value)) → IsLocal (pair val found)
unfolding pair
pair_local val l found =
    bind_local Like like_front (key found) (λ k u. expect Syntax (codes ":") (skip u) >>= λ colon. val (skip colon.1) >>= λ v. Ok ((k, v.0), v.1)) (key_local found)
    (λ k. skip_local Like like_front (λ u. expect Syntax (codes ":") u >>= λ colon. val (skip colon.1) >>= λ v. Ok ((k, v.0), v.1))
    (bind_local Like like_front (expect Syntax (codes ":")) (λ _ u. val (skip u) >>= λ v. Ok ((k, v.0), v.1)) (expect_local Like like_front Syntax (codes ":"))
    (λ _. skip_local Like like_front (λ u. val u >>= λ v. Ok ((k, v.0), v.1)) (bind_local Like like_front val (λ v u. Ok ((k, v), u)) l (λ v. ok_local Like like_front (k, v))))))

module _ (num : Reads Num) (num_local : IsLocal num) where
  word_local : (word : List ℕ) (v : Value) → IsLocal (λ t. made (λ _. v) (expect Syntax word t))
  word_local word v = made_local Like like_front (λ _. v) (expect Syntax word) (expect_local Like like_front Syntax word)

  by_start : (s : Start) (lists : Reads (List Value)) (maps : Reads (List (List ℕ × Value))) → IsLocal lists → IsLocal maps → IsLocal (value_over num s lists maps)
  by_start of_null lists maps ll lm = word_local (codes "null") Null
  by_start of_true lists maps ll lm = word_local (codes "true") (Flag true)
  by_start of_false lists maps ll lm = word_local (codes "false") (Flag false)
  by_start quote lists maps ll lm = made_local Like like_front Text (λ t. text (drop 1 t)) (tail_local Like like_front text text_local)
  by_start numeric lists maps ll lm = made_local Like like_front Number num num_local
  by_start bracket lists maps ll lm = made_local Like like_front Items lists ll
  by_start brace lists maps ll lm = made_local Like like_front Pairs maps lm
  by_start nothing lists maps ll lm = stop_local Like like_front Value Syntax

  module _ (seen : List (List ℕ × Value) → List (List ℕ × Value)) (Allowed : Num → Type 0) (num_sound : Sound num (IsNumber Allowed)) where
    abbrev val : ℕ → Reads Value
    val = value_with seen num

    pub value_local : (depth : ℕ) → IsLocal (val depth)
    unfolding value_with items
    value_local zero = look_local Like like_front (λ o. value_over num (start_of o) (stop Depth) (stop Depth)) (λ o. by_start (start_of o) (stop Depth) (stop Depth) (stop_local Like like_front (List Value) Depth) (stop_local Like like_front (List (List ℕ × Value)) Depth))
    value_local (suc depth) =
        let lists : Reads (List Value) = λ t. items (val depth) (drop 1 t) in
        let maps : Reads (List (List ℕ × Value)) = λ t. maps_with seen (val depth) (drop 1 t) in
        let list_local : IsLocal lists = tail_local Like like_front (closed_by Syntax 93 (λ found. val depth)) (closed_local Like like_front Syntax 93 (λ found. val depth) (λ found. value_local depth) (λ found. value_shorter seen num Allowed num_sound depth)) in
        let map_local : IsLocal maps =
        tail_local Like like_front (maps_with seen (val depth)) (closed_local Like like_front Syntax 125 (λ found. pair (val depth) (seen found)) (λ found. pair_local (val depth) (value_local depth) (seen found)) (λ found. pair_shorter seen num Allowed num_sound depth (seen found))) in
        look_local Like like_front (λ o. value_over num (start_of o) lists maps) (λ o. by_start (start_of o) lists maps list_local map_local)

    end_local : (v : Value) → IsLocal (λ u. cond (ended (front u)) (Ok (v, u)) (stop Syntax u))
    end_local v = look_local Like like_front (λ o u. cond (ended o) (Ok (v, u)) (stop Syntax u)) (λ o. chosen_local Like like_front (λ u. Ok (v, u)) (stop Syntax) (ok_local Like like_front v) (stop_local Like like_front Value Syntax) (ended o))

    pub document_local : (depth : ℕ) → IsLocal (document_with seen num depth)
    unfolding document_with
    document_local depth = bind_local Like like_front (val depth) (λ v u. cond (ended (front u)) (Ok (v, u)) (stop Syntax u)) (value_local depth) end_local
