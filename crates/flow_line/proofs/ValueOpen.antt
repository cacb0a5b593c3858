-- What stands before the first fault of a value can be gone on with.
use Rattle.std.proofs.Common.{◌≡◌, ℕ, zero, suc, true, false, cond, List, [], ◌∷◌, ◌++◌, length, drop, replicate, Ok, Err, refl, sym, ap, subst, ◌∙◌, append_assoc, inl, inr}
use Rattle.std.specs.Prelude.{codes}
use Rattle.ha_value.specs.declared.value.Num.{Num}
use Rattle.ha_value.specs.declared.value.Value.{Value}
use Rattle.ha_value.specs.declared.value.Value.TheVariants.{Null, Flag, Number, Text, Items, Pairs}
use Rattle.reading.specs.Answer.{◌>>=◌, Answer, front, made, stop}
use Rattle.reading.specs.Bytes.{skip, expect}
use Rattle.reading.specs.Rows.{closed_by}
use Rattle.reading.specs.Spelling.{Never, IsClosed}
use Rattle.reading.proofs.Basics.{bind_err, made_err, chosen, stop_left, Sound}
use Rattle.reading.proofs.Bytes.{expect_found, expect_open, byte_left, skip_none}
use Rattle.reading.proofs.Frames.{blanks_of, byte_at}
use Rattle.reading.proofs.Opens.{Open, Opens, closed_open}
use Rattle.flow_line.specs.declared.fault.Code.TheVariants.{Syntax, RepeatedKey, Depth}
use Rattle.flow_line.specs.Text.{Reads, text, string}
use Rattle.flow_line.specs.Reading.{has_key, key, pair, items, Start, of_null, of_true, of_false, quote, bracket, brace, numeric, nothing, start_of}
use Rattle.flow_line.specs.Grammar.{IsString, IsNumber, IsPair, pair as pair_of, IsValueOver, null, yes, no, numeric as number_of, text as text_of, list, map}
use Rattle.flow_line.proofs.ByteRanges.{Fault}
use Rattle.flow_line.proofs.Shorter.{IsStart, is_start}
use Rattle.flow_line.proofs.NumberLaws.{Free, blank_free}
use Rattle.flow_line.proofs.StringLaws.{OpenString, no_text, text_open, string_framed, fresh}
use Rattle.flow_line.proofs.ValueFrames.{value_framed, value_begins, pair_framed, pair_begins}
use Rattle.flow_line.proofs.Values.{value_over, maps_with, IsMap, ValueBy, value_with, key_found, pair_found, pair_longer, value_found, value_longer}

abbrev null_text : List ℕ
null_text = 110 ∷ 117 ∷ 108 ∷ 108 ∷ []

-- ---- pairs

module _ (val : Reads Value) (Val : List ℕ → Value → List ℕ → Type 0) (begins : (t : List ℕ) (v : Value) (rest : List ℕ) → Val t v rest → skip t ≡ t) (opens : Opens Free val Val)
    (spelled_null : (r : List ℕ) → Val (null_text ++ r) Null r) where
  -- a key, a colon and null
  with_null : (found : List (List ℕ × Value)) (s key r : List ℕ) → IsString s key (58 ∷ (null_text ++ r)) → has_key found key ≡ false → IsPair Val found (34 ∷ s) (key, Null) r
  with_null found s key r name new =
      let value : Val (skip (null_text ++ r)) Null r = subst (λ (v : List ℕ). Val v Null r) (sym (skip_none 110 (117 ∷ 108 ∷ 108 ∷ r) refl)) (spelled_null r) in
      pair_of name new (skip_none 58 (null_text ++ r) refl) value

  -- a pair whose key was begun
  begun_pair : (found : List (List ℕ × Value)) (t u : List ℕ) (f : Fault) → t ≡ 34 ∷ u → OpenString u f → Open Free (IsPair Val found) t f
  begun_pair found t u f at o =
      let w = fresh found o.so_far in
      let key : List ℕ = o.so_far ++ replicate w.0 97 in
      record {
        before = 34 ∷ o.before;
        rest = o.rest;
        parts = at ∙ ap (λ (v : List ℕ). 34 ∷ v) o.parts;
        left = o.left;
        more = o.more ++ (replicate w.0 97 ++ 34 ∷ 58 ∷ null_text);
        x = (key, Null);
        spelled = λ r k.
            let same : (o.more ++ (replicate w.0 97 ++ 34 ∷ 58 ∷ null_text)) ++ r ≡ o.more ++ (replicate w.0 97 ++ 34 ∷ (58 ∷ (null_text ++ r))) = simp append_assoc in
            subst (λ (v : List ℕ). IsPair Val found (34 ∷ (o.before ++ v)) (key, Null) r) (sym same) (with_null found (o.before ++ (o.more ++ (replicate w.0 97 ++ 34 ∷ (58 ∷ (null_text ++ r))))) key r (o.spelled w.0 (58 ∷ (null_text ++ r))) w.1);
      }

  -- a whole pair
  new_pair : (found : List (List ℕ × Value)) (t : List ℕ) (f : Fault) → f.left ≡ length t → Open Free (IsPair Val found) t f
  new_pair found t f left =
      let empty : Fault = record { left = 0; code = Syntax } in
      let o = text_open [] empty no_text in
      let w = fresh found o.so_far in
      let key : List ℕ = o.so_far ++ replicate w.0 97 in
      record {
        before = [];
        rest = t;
        parts = refl;
        left = left;
        more = 34 ∷ (o.before ++ (o.more ++ (replicate w.0 97 ++ 34 ∷ 58 ∷ null_text)));
        x = (key, Null);
        spelled = λ r k.
            let same : (34 ∷ (o.before ++ (o.more ++ (replicate w.0 97 ++ 34 ∷ 58 ∷ null_text)))) ++ r ≡ 34 ∷ (o.before ++ (o.more ++ (replicate w.0 97 ++ 34 ∷ (58 ∷ (null_text ++ r))))) = simp append_assoc in
            subst (λ (v : List ℕ). IsPair Val found v (key, Null) r) (sym same) (with_null found (o.before ++ (o.more ++ (replicate w.0 97 ++ 34 ∷ (58 ∷ (null_text ++ r))))) key r (o.spelled w.0 (58 ∷ (null_text ++ r))) w.1);
      }

  key_open : (found : List (List ℕ × Value)) (t : List ℕ) (f : Fault) → key found t ≡ Err f → Open Free (IsPair Val found) t f
  unfolding key string
  key_open found t f e =
      elim (bind_err (string t) (λ k. cond (has_key found k.0) (stop RepeatedKey t) (Ok k)) f e) [
        | inl h ↦ elim (bind_err (expect Syntax (codes "\"") t) (λ q. text q.1) f h) [
          | inl k ↦ new_pair found t f (byte_left Syntax 34 t f k)
          | inr k ↦ begun_pair found t k.0.1 f (expect_found Syntax (codes "\"") t k.0.0 k.0.1 k.1) (text_open k.0.1 f k.2)
        ]
        | inr h ↦ elim (chosen (has_key found h.0.0) (stop RepeatedKey t) (Ok h.0) (Err f) h.2) [
          | inl k ↦ new_pair found t f (stop_left {T = ℕ} {A = List ℕ} RepeatedKey t f k.1)
          | inr k ↦ absurd (let m = k.1 in cc)
        ]
      ]

  abbrev behind_key : List ℕ → List ℕ → Answer ℕ Fault (List ℕ × Value)
  behind_key k u = expect Syntax (codes ":") (skip u) >>= λ colon. val (skip colon.1) >>= λ v. Ok ((k, v.0), v.1)

  abbrev with_key : List ℕ → Value × List ℕ → Answer ℕ Fault (List ℕ × Value)
  with_key k v = Ok ((k, v.0), v.1)

  -- what follows a new key
  value_after : (found : List (List ℕ × Value)) (t k u : List ℕ) (f : Fault) → key found t ≡ Ok (k, u) → behind_key k u ≡ Err f → Open Free (IsPair Val found) t f
  value_after found t k u f read e =
      let s = key_found found t k u read in
      let n = string_framed s.2 in
      let b = blanks_of Free blank_free u in
      let at : t ≡ 34 ∷ (n.spelling ++ (b.blanks ++ skip u)) = s.1 ∙ ap (λ (v : List ℕ). 34 ∷ v) (n.parts ∙ ap (λ (v : List ℕ). n.spelling ++ v) b.parts) in
      elim (bind_err (expect Syntax (codes ":") (skip u)) (λ colon. val (skip colon.1) >>= with_key k) f e) [
        | inl h ↦ record {
          before = 34 ∷ (n.spelling ++ b.blanks);
          rest = skip u;
          parts = at ∙ ap (λ (v : List ℕ). 34 ∷ v) (sym (append_assoc n.spelling b.blanks (skip u)));
          left = byte_left Syntax 58 (skip u) f h;
          more = 58 ∷ null_text;
          x = (k, Null);
          spelled = λ r m.
              let same : (n.spelling ++ b.blanks) ++ (58 ∷ (null_text ++ r)) ≡ n.spelling ++ (b.blanks ++ 58 ∷ (null_text ++ r)) = append_assoc n.spelling b.blanks (58 ∷ (null_text ++ r)) in
              let value : Val (skip (null_text ++ r)) Null r = subst (λ (v : List ℕ). Val v Null r) (sym (skip_none 110 (117 ∷ 108 ∷ 108 ∷ r) refl)) (spelled_null r) in
              subst (λ (v : List ℕ). IsPair Val found (34 ∷ v) (k, Null) r) (sym same) (pair_of (n.again (b.blanks ++ 58 ∷ (null_text ++ r))) s.3 (byte_at Free blank_free 58 refl b (null_text ++ r)) value);
        }
        | inr h ↦
            let w : List ℕ = h.0.1 in
            let colon : skip u ≡ 58 ∷ w = expect_found Syntax (codes ":") (skip u) h.0.0 w h.1 in
            let d = blanks_of Free blank_free w in
            elim (bind_err (val (skip w)) (with_key k) f h.2) [
              | inl m ↦
                  let o = opens (skip w) f m in
                  let front_part : List ℕ = 34 ∷ (n.spelling ++ (b.blanks ++ 58 ∷ d.blanks)) in
                  record {
                    before = front_part ++ o.before;
                    rest = o.rest;
                    parts = at ∙ ap (λ (v : List ℕ). 34 ∷ (n.spelling ++ (b.blanks ++ v))) (colon ∙ ap (λ (v : List ℕ). 58 ∷ v) (d.parts ∙ ap (λ (v : List ℕ). d.blanks ++ v) o.parts)) ∙ simp append_assoc;
                    left = o.left;
                    more = o.more;
                    x = (k, o.x);
                    spelled = λ r q.
                        let tail : List ℕ = o.before ++ (o.more ++ r) in
                        let v = o.spelled r q in
                        let same : (front_part ++ o.before) ++ (o.more ++ r) ≡ 34 ∷ (n.spelling ++ (b.blanks ++ 58 ∷ (d.blanks ++ tail))) = simp append_assoc in
                        let start : skip (d.blanks ++ tail) ≡ tail = d.skipped tail ∙ begins tail o.x r v in
                        subst (λ (z : List ℕ). IsPair Val found z (k, o.x) r) (sym same)
                        (pair_of (n.again (b.blanks ++ 58 ∷ (d.blanks ++ tail))) s.3 (byte_at Free blank_free 58 refl b (d.blanks ++ tail)) (subst (λ (z : List ℕ). Val z o.x r) (sym start) v));
                  }
              | inr m ↦ absurd (let q = m.2 in cc)
            ]
      ]

  pub pair_open : (found : List (List ℕ × Value)) → Opens Free (pair val found) (IsPair Val found)
  unfolding pair
  pair_open found t f e =
      elim (bind_err (key found t) (λ k. behind_key k.0 k.1) f e) [
        | inl h ↦ key_open found t f h
        | inr h ↦ value_after found t h.0.0 h.0.1 f h.1 h.2
      ]

-- ---- values

module _ (num : Reads Num) (Allowed : Num → Type 0) (num_open : Opens Free num (IsNumber Allowed)) where
  module _ (L : List ℕ → List Value → List ℕ → Type 0) (M : List ℕ → List (List ℕ × Value) → List ℕ → Type 0) where
    abbrev Over : List ℕ → Value → List ℕ → Type 0
    Over = IsValueOver Allowed L M

    nothing_open : (t : List ℕ) (f : Fault) → f.left ≡ length t → Open Free Over t f
    nothing_open t f left = record { before = []; rest = t; parts = refl; left = left; more = null_text; x = Null; spelled = λ r k. null }

    list_open : (t : List ℕ) (f : Fault) → t ≡ 91 ∷ drop 1 t → Open Free L (drop 1 t) f → Open Free Over t f
    list_open t f at o = record { before = 91 ∷ o.before; rest = o.rest; parts = at ∙ ap (λ (u : List ℕ). 91 ∷ u) o.parts; left = o.left; more = o.more; x = Items o.x; spelled = λ r k. list (o.spelled r k) }

    map_open : (t : List ℕ) (f : Fault) → t ≡ 123 ∷ drop 1 t → Open Free M (drop 1 t) f → Open Free Over t f
    map_open t f at o = record { before = 123 ∷ o.before; rest = o.rest; parts = at ∙ ap (λ (u : List ℕ). 123 ∷ u) o.parts; left = o.left; more = o.more; x = Pairs o.x; spelled = λ r k. map (o.spelled r k) }

    word_open : (word t : List ℕ) (v : Value) (f : Fault) → ((r : List ℕ) → Over (word ++ r) v r) → made (λ _. v) (expect Syntax word t) ≡ Err f → Open Free Over t f
    word_open word t v f spelled e =
        let o = expect_open Syntax word t f (made_err (λ _. v) (expect Syntax word t) f e) in
        record { before = o.0; rest = o.2; parts = o.4; left = o.5; more = o.1; x = v; spelled = λ r k. subst (λ (u : List ℕ). Over u v r) (ap (λ (u : List ℕ). u ++ r) o.3 ∙ append_assoc o.0 o.1 r) (spelled r) }

    quote_open : (t : List ℕ) (f : Fault) → t ≡ 34 ∷ drop 1 t → OpenString (drop 1 t) f → Open Free Over t f
    quote_open t f at o =
        record {
          before = 34 ∷ o.before;
          rest = o.rest;
          parts = at ∙ ap (λ (u : List ℕ). 34 ∷ u) o.parts;
          left = o.left;
          more = o.more ++ 34 ∷ [];
          x = Text (o.so_far ++ []);
          spelled = λ r k. subst (λ (u : List ℕ). Over (34 ∷ (o.before ++ u)) (Text (o.so_far ++ [])) r) (sym (append_assoc o.more (34 ∷ []) r)) (text_of (o.spelled 0 r));
        }

    module _ (lists : Reads (List Value)) (maps : Reads (List (List ℕ × Value))) (lists_open : (t : List ℕ) (f : Fault) → t ≡ 91 ∷ drop 1 t → lists t ≡ Err f → Open Free Over t f) (maps_open : (t : List ℕ) (f : Fault) → t ≡ 123 ∷ drop 1 t → maps t ≡ Err f → Open Free Over t f) where
      start_open : (s : Start) (t : List ℕ) (f : Fault) → IsStart s t → value_over num s lists maps t ≡ Err f → Open Free Over t f
      unfolding IsStart
      start_open of_null t f at e = word_open (codes "null") t Null f (λ r. null) e
      start_open of_true t f at e = word_open (codes "true") t (Flag true) f (λ r. yes) e
      start_open of_false t f at e = word_open (codes "false") t (Flag false) f (λ r. no) e
      start_open quote t f at e = quote_open t f at (text_open (drop 1 t) f (made_err Text (text (drop 1 t)) f e))
      start_open numeric t f at e = let o = num_open t f (made_err Number (num t) f e) in record { before = o.before; rest = o.rest; parts = o.parts; left = o.left; more = o.more; x = Number o.x; spelled = λ r k. number_of (o.spelled r k) }
      start_open bracket t f at e = lists_open t f at (made_err Items (lists t) f e)
      start_open brace t f at e = maps_open t f at (made_err Pairs (maps t) f e)
      start_open nothing t f at e = nothing_open t f (stop_left {T = ℕ} {A = Value} Syntax t f e)

  module _ (seen : List (List ℕ × Value) → List (List ℕ × Value)) (num_sound : Sound num (IsNumber Allowed)) where
    abbrev val : ℕ → Reads Value
    val = value_with seen num

    abbrev Val : ℕ → List ℕ → Value → List ℕ → Type 0
    Val = ValueBy seen Allowed

    value_null : (depth : ℕ) (r : List ℕ) → Val depth (null_text ++ r) Null r
    unfolding ValueBy
    value_null zero r = null
    value_null (suc depth) r = null

    pub value_open : (depth : ℕ) → Opens Free (val depth) (Val depth)
    unfolding value_with ValueBy items
    value_open zero t f e =
        start_open Never Never (stop Depth) (stop Depth) (λ t f at e. nothing_open Never Never t f (stop_left {T = ℕ} {A = List Value} Depth t f e)) (λ t f at e. nothing_open Never Never t f (stop_left {T = ℕ} {A = List (List ℕ × Value)} Depth t f e)) (start_of (front t)) t f (is_start t) e
    value_open (suc depth) t f e =
        let L : List ℕ → List Value → List ℕ → Type 0 = IsClosed 93 (λ found. Val depth) in
        let M : List ℕ → List (List ℕ × Value) → List ℕ → Type 0 = IsMap seen (Val depth) in
        let in_list : Opens Free (closed_by Syntax 93 (λ found. val depth)) L =
        closed_open Free blank_free Syntax 93 (λ found. val depth) (λ found. Val depth) (λ found. value_found seen num Allowed num_sound depth) (λ found. value_longer seen num Allowed depth) (λ found. value_framed seen Allowed depth) (λ found. value_begins seen Allowed depth)
        (λ found. value_open depth) (λ r. refl) (λ r. refl) refl in
        let in_pair : (found : List (List ℕ × Value)) → Opens Free (pair (val depth) found) (IsPair (Val depth) found) = pair_open (val depth) (Val depth) (value_begins seen Allowed depth) (value_open depth) (value_null depth) in
        let in_map : Opens Free (maps_with seen (val depth)) M =
        closed_open Free blank_free Syntax 125 (λ found. pair (val depth) (seen found)) (λ found. IsPair (Val depth) (seen found)) (λ found. pair_found (val depth) (Val depth) (value_found seen num Allowed num_sound depth) (seen found))
        (λ found. pair_longer (val depth) (Val depth) (value_longer seen num Allowed depth) (seen found)) (λ found. pair_framed (Val depth) (value_framed seen Allowed depth) (value_begins seen Allowed depth) (seen found)) (λ found. pair_begins (Val depth) (seen found))
        (λ found. in_pair (seen found)) (λ r. refl) (λ r. refl) refl in
        start_open L M (λ t. items (val depth) (drop 1 t)) (λ t. maps_with seen (val depth) (drop 1 t)) (λ t f at e. list_open L M t f at (in_list (drop 1 t) f e)) (λ t f at e. map_open L M t f at (in_map (drop 1 t) f e))
        (start_of (front t)) t f (is_start t) e
