-- A reader that allows more reads what was read, and has the same faults but for those of what it allows. Where the two differ, a key, a
-- bracket or a number begins, and the second one comes further.
use Rattle.std.proofs.Common.{◌≡◌, ℕ, zero, suc, Bool, true, false, cond, ◌⊎◌, List, [], ◌∷◌, ◌++◌, length, take, drop, Option, Some, Ok, Err, refl, sym, ap, subst, ◌∙◌, append_assoc, inl, inr}
use Rattle.std.specs.Prelude.{codes, ◌-◌}
use Rattle.std.specs.Option.{option_and_then}
use Rattle.ha_value.specs.declared.value.Num.{Num}
use Rattle.ha_value.specs.declared.value.Value.{Value}
use Rattle.ha_value.specs.declared.value.Value.TheVariants.{Null, Flag, Number, Text, Items, Pairs}
use Rattle.ha_value.specs.Lists.{after_first}
use Rattle.ha_value.specs.Numbers.{number_of_text, is_in_range, kept_in_range}
use Rattle.reading.specs.Answer.{◌>>=◌, Answer, front, made, stop}
use Rattle.reading.specs.Bytes.{sees, skip, expect}
use Rattle.reading.specs.Faults.{ReadsAlike, IsAlike}
use Rattle.reading.specs.Rows.{after_item, row, closed_by}
use Rattle.reading.proofs.Basics.{chosen_is}
use Rattle.reading.proofs.Frames.{blanks_of}
use Rattle.reading.proofs.Local.{Local, expect_local}
use Rattle.flow_line.specs.declared.fault.Code.{Code}
use Rattle.flow_line.specs.declared.fault.Code.TheVariants.{Syntax, Range}
use Rattle.flow_line.specs.Text.{Reads, text}
use Rattle.flow_line.specs.Reading.{numeral, in_range, key, pair, Start, of_null, of_true, of_false, quote, bracket, brace, numeric, nothing, start_of, ended}
use Rattle.flow_line.specs.Grammar.{extends, IsNumber, number as number_of}
use Rattle.flow_line.specs.Refused.{Like}
use Rattle.flow_line.proofs.ByteRanges.{Fault}
use Rattle.flow_line.proofs.Shorter.{IsStart, is_start}
use Rattle.flow_line.proofs.Numbers.{numeral_found, number_longer, places_of, front_of, number_by}
use Rattle.flow_line.proofs.NumberLaws.{numeral_open, value_of}
use Rattle.flow_line.proofs.Reach.{Insides, Beyond, beyond_on, local_inside, bind_inside, ok_inside, skip_inside, expect_inside, after_inside, row_inside}
use Rattle.flow_line.proofs.StringLaws.{like_front, IsLocal, text_syntax, expect_syntax}
use Rattle.flow_line.proofs.Values.{value_over}
use Rattle.flow_line.proofs.ValueLocal.{key_local}
use Rattle.flow_line.proofs.Whole.{any_size}

-- what a fault speaks of stands at its place, and the other reader comes further where it is the deeper one
pub record Marked {A : Type 0} (Same : Code → Type 0) (Deeper : Type 0) (t : List ℕ) (f : Fault) (b : Answer ℕ Fault A) : Type 0 where
  pub before : List ℕ
  pub rest : List ℕ
  pub parts : t ≡ before ++ rest
  pub left : f.left ≡ length rest
  pub special : Same f.code → ⊥
  pub here : Like f.code rest rest
  pub beyond : Deeper → Beyond f.left b

abbrev Suffix : List ℕ → List ℕ → Type 0
Suffix t u = (a : List ℕ) × (t ≡ a ++ u)

-- what is read leaves an end of the text
rest_of : {A : Type 0} (p : Reads A) → IsLocal p → (t : List ℕ) (x : A × List ℕ) → p t ≡ Ok x → Suffix t x.1
unfolding Local
rest_of {A} p local t x e = let l : ReadsAlike p t x.0 x.1 = subst (λ (a : Answer ℕ Fault A). IsAlike Like p t a) e (local t) in (l.before, l.parts)

beyond_made : {A B : Type 0} (m : A → B) (n : ℕ) (b : Answer ℕ Fault A) → Beyond n b → Beyond n (made m b)
unfolding Beyond
beyond_made m n (Ok x) h = h
beyond_made m n (Err g) h = h

beyond_bound : {A B : Type 0} (q : A → Reads B) → ((x : A) → Insides (q x)) → (n : ℕ) (b : Answer ℕ Fault A) → Beyond n b → Beyond n (b >>= λ x. q x.0 x.1)
unfolding Beyond
beyond_bound q inside n (Ok x) h = beyond_on n x.1 (q x.0 x.1) h (inside x.0 x.1)
beyond_bound q inside n (Err g) h = h

abbrev pub in_range_only : Reads Num
in_range_only = number_by kept_in_range

abbrev pub of_any_size : Reads Num
of_any_size = number_by any_size

-- `Same` says which faults the second reader has too, `Deeper` that it is the deeper one
module _ (Same : Code → Type 0) (Deeper : Type 0) where
  abbrev pub Agrees : {A : Type 0} → List ℕ → Answer ℕ Fault A → Answer ℕ Fault A → Type 0
  Agrees t (Ok x) b = b ≡ Ok x
  Agrees t (Err f) b = (Same f.code × (b ≡ Err f)) ⊎ Marked Same Deeper t f b

  abbrev pub Agree : {A : Type 0} → Reads A → Reads A → Type 0
  Agree p q = (t : List ℕ) → Agrees t (p t) (q t)

  further_on : {A : Type 0} (t u : List ℕ) → Suffix t u → (a b : Answer ℕ Fault A) → Agrees u a b → Agrees t a b
  further_on t u s (Ok x) b h = h
  further_on t u s (Err f) b h = elim h [
    | inl k ↦ inl k
    | inr m ↦ inr (record { before = s.0 ++ m.before; rest = m.rest; parts = s.1 ∙ ap (λ (v : List ℕ). s.0 ++ v) m.parts ∙ sym (append_assoc s.0 m.before m.rest); left = m.left; special = m.special; here = m.here; beyond = m.beyond })
  ]

  pub same_agree : {A : Type 0} (p : Reads A) → ((t : List ℕ) (f : Fault) → p t ≡ Err f → Same f.code) → Agree p p
  same_agree {A} p same t = go (p t) refl where
    go : (a : Answer ℕ Fault A) → p t ≡ a → Agrees t a a
    go (Ok x) e = refl
    go (Err f) e = inl (same t f e, refl)

  ok_agree : {A : Type 0} (x : List ℕ → A × List ℕ) → Agree (λ t. Ok (x t)) (λ t. Ok (x t))
  ok_agree x t = refl

  module _ {A B : Type 0} (p p' : Reads A) (q q' : A → Reads B) where
    bound_mark : ((x : A) → Insides (q' x)) → (t : List ℕ) (f : Fault) (b : Answer ℕ Fault A) → Marked Same Deeper t f b → Marked Same Deeper t f (b >>= λ x. q' x.0 x.1)
    bound_mark inside t f b m = record { before = m.before; rest = m.rest; parts = m.parts; left = m.left; special = m.special; here = m.here; beyond = λ d. beyond_bound q' inside f.left b (m.beyond d) }

    pub bind_agree : IsLocal p → Agree p p' → ((x : A) → Insides (q' x)) → ((x : A) → Agree (q x) (q' x)) → Agree (λ t. p t >>= λ x. q x.0 x.1) (λ t. p' t >>= λ x. q' x.0 x.1)
    bind_agree local ap_ inside aq t = step (p t) (p' t) refl (ap_ t) where
      step : (a b : Answer ℕ Fault A) → p t ≡ a → Agrees t a b → Agrees t (a >>= λ x. q x.0 x.1) (b >>= λ x. q' x.0 x.1)
      step (Ok x) b e h = subst (λ (b : Answer ℕ Fault A). Agrees t (q x.0 x.1) (b >>= λ x. q' x.0 x.1)) (sym h) (further_on t x.1 (rest_of p local t x e) (q x.0 x.1) (q' x.0 x.1) (aq x.0 x.1))
      step (Err f) b e h = elim h [ inl k ↦ inl (k.0, ap (λ (b : Answer ℕ Fault A). b >>= λ x. q' x.0 x.1) k.1) | inr m ↦ inr (bound_mark inside t f b m) ]

  made_at : {A B : Type 0} (m : A → B) (t : List ℕ) (a b : Answer ℕ Fault A) → Agrees t a b → Agrees t (made m a) (made m b)
  made_at m t (Ok x) b h = ap (made m) h
  made_at m t (Err f) b h = elim h [
    | inl k ↦ inl (k.0, ap (made m) k.1)
    | inr k ↦ inr (record { before = k.before; rest = k.rest; parts = k.parts; left = k.left; special = k.special; here = k.here; beyond = λ d. beyond_made m f.left b (k.beyond d) })
  ]

  cond_agree : {A : Type 0} (c : List ℕ → Bool) (p p' q q' : Reads A) → Agree p p' → Agree q q' → Agree (λ t. cond (c t) (p t) (q t)) (λ t. cond (c t) (p' t) (q' t))
  cond_agree c p p' q q' hp hq t = step (c t) where
    step : (b : Bool) → Agrees t (cond b (p t) (q t)) (cond b (p' t) (q' t))
    step true = hp t
    step false = hq t

  skip_agree : {A : Type 0} (p q : Reads A) → Agree p q → Agree (λ t. p (skip t)) (λ t. q (skip t))
  skip_agree p q h t = let b = blanks_of (λ _. Unit {0}) (λ b r k. tt) t in further_on t (skip t) (b.blanks, b.parts) (p (skip t)) (q (skip t)) (h (skip t))

  pub drop_agree : {A : Type 0} (p q : Reads A) → Agree p q → Agree (λ t. p (drop 1 t)) (λ t. q (drop 1 t))
  drop_agree p q h t = further_on t (drop 1 t) (one t) (p (drop 1 t)) (q (drop 1 t)) (h (drop 1 t)) where
    one : (t : List ℕ) → Suffix t (drop 1 t)
    one [] = ([], refl)
    one (b ∷ t) = (b ∷ [], refl)

  module _ (syntax_same : Same Syntax) where
    syntax_agree : {A : Type 0} (p : Reads A) → ((t : List ℕ) (f : Fault) → p t ≡ Err f → f.code ≡ Syntax) → Agree p p
    syntax_agree p only = same_agree p (λ t f e. subst (λ (c : Code). Same c) (sym (only t f e)) syntax_same)

    stop_agree : {A : Type 0} → Agree {A = A} (stop Syntax) (stop Syntax)
    stop_agree t = inl (syntax_same, refl)

    expect_agree : (word : List ℕ) → Agree (expect Syntax word) (expect Syntax word)
    expect_agree word = syntax_agree (expect Syntax word) (expect_syntax word)

    pub end_agree : (v : Value) → Agree (λ u. cond (ended (front u)) (Ok (v, u)) (stop Syntax u)) (λ u. cond (ended (front u)) (Ok (v, u)) (stop Syntax u))
    end_agree v = cond_agree (λ u. ended (front u)) (λ u. Ok (v, u)) (λ u. Ok (v, u)) (stop Syntax) (stop Syntax) (ok_agree (λ u. (v, u))) stop_agree

    -- ---- lists and maps

    module _ {A : Type 0} (end : ℕ) (item item' : List A → Reads A) (local : (found : List A) → IsLocal (item found)) (agree : (found : List A) → Agree (item found) (item' found)) (inside : (found : List A) → Insides (item' found)) where
      row_agree : (n : ℕ) (found : List A) → Agree (row Syntax end item n found) (row Syntax end item' n found)
      unfolding row
      row_agree zero found = stop_agree
      row_agree (suc n) found =
          bind_agree (item found) (item' found) (λ x. after_item Syntax end (found ++ x ∷ []) (row Syntax end item n (found ++ x ∷ []))) (λ x. after_item Syntax end (found ++ x ∷ []) (row Syntax end item' n (found ++ x ∷ []))) (local found) (agree found)
          (λ x. after_inside end (found ++ x ∷ []) (row Syntax end item' n (found ++ x ∷ [])) (row_inside end item' inside n (found ++ x ∷ [])))
          (λ x.
          let all : List A = found ++ x ∷ [] in
          skip_agree (λ u. cond (sees end u) (Ok (all, drop 1 u)) (expect Syntax (codes ",") u >>= λ comma. row Syntax end item n all (skip comma.1))) (λ u. cond (sees end u) (Ok (all, drop 1 u)) (expect Syntax (codes ",") u >>= λ comma. row Syntax end item' n all (skip comma.1)))
          (cond_agree (sees end) (λ u. Ok (all, drop 1 u)) (λ u. Ok (all, drop 1 u)) (λ u. expect Syntax (codes ",") u >>= λ comma. row Syntax end item n all (skip comma.1)) (λ u. expect Syntax (codes ",") u >>= λ comma. row Syntax end item' n all (skip comma.1))
          (ok_agree (λ u. (all, drop 1 u)))
          (bind_agree (expect Syntax (codes ",")) (expect Syntax (codes ",")) (λ _ u. row Syntax end item n all (skip u)) (λ _ u. row Syntax end item' n all (skip u)) (expect_local Like like_front Syntax (codes ",")) (expect_agree (codes ","))
          (λ _. skip_inside (row Syntax end item' n all) (row_inside end item' inside n all)) (λ _. skip_agree (row Syntax end item n all) (row Syntax end item' n all) (row_agree n all)))))

      pub closed_agree : Agree (closed_by Syntax end item) (closed_by Syntax end item')
      unfolding closed_by
      closed_agree =
          skip_agree (λ u. cond (sees end u) (Ok ([], drop 1 u)) (row Syntax end item (suc (length u)) [] u)) (λ u. cond (sees end u) (Ok ([], drop 1 u)) (row Syntax end item' (suc (length u)) [] u))
          (cond_agree (sees end) (λ u. Ok ([], drop 1 u)) (λ u. Ok ([], drop 1 u)) (λ u. row Syntax end item (suc (length u)) [] u) (λ u. row Syntax end item' (suc (length u)) [] u) (ok_agree (λ u. ([], drop 1 u))) (λ u. row_agree (suc (length u)) [] u))

    pub pair_agree : (val val' : Reads Value) → IsLocal val → IsLocal val' → Agree val val' → (found found' : List (List ℕ × Value)) → Agree (key found) (key found') → Agree (pair val found) (pair val' found')
    unfolding pair
    pair_agree val val' local local' agree found found' keys =
        let after_colon : (k : List ℕ) → Insides (λ u. val' (skip u) >>= λ v. Ok ((k, v.0), v.1)) = λ k. skip_inside (λ u. val' u >>= λ v. Ok ((k, v.0), v.1)) (bind_inside val' (λ v u. Ok ((k, v), u)) (local_inside val' local') (λ v. ok_inside (k, v))) in
        bind_agree (key found) (key found') (λ k u. expect Syntax (codes ":") (skip u) >>= λ colon. val (skip colon.1) >>= λ v. Ok ((k, v.0), v.1)) (λ k u. expect Syntax (codes ":") (skip u) >>= λ colon. val' (skip colon.1) >>= λ v. Ok ((k, v.0), v.1)) (key_local found) keys
        (λ k. skip_inside (λ u. expect Syntax (codes ":") u >>= λ colon. val' (skip colon.1) >>= λ v. Ok ((k, v.0), v.1)) (bind_inside (expect Syntax (codes ":")) (λ _ u. val' (skip u) >>= λ v. Ok ((k, v.0), v.1)) (expect_inside (codes ":")) (λ _. after_colon k)))
        (λ k. skip_agree (λ u. expect Syntax (codes ":") u >>= λ colon. val (skip colon.1) >>= λ v. Ok ((k, v.0), v.1)) (λ u. expect Syntax (codes ":") u >>= λ colon. val' (skip colon.1) >>= λ v. Ok ((k, v.0), v.1))
        (bind_agree (expect Syntax (codes ":")) (expect Syntax (codes ":")) (λ _ u. val (skip u) >>= λ v. Ok ((k, v.0), v.1)) (λ _ u. val' (skip u) >>= λ v. Ok ((k, v.0), v.1)) (expect_local Like like_front Syntax (codes ":")) (expect_agree (codes ":")) (λ _. after_colon k)
        (λ _. skip_agree (λ u. val u >>= λ v. Ok ((k, v.0), v.1)) (λ u. val' u >>= λ v. Ok ((k, v.0), v.1)) (bind_agree val val' (λ v u. Ok ((k, v), u)) (λ v u. Ok ((k, v), u)) local agree (λ v. ok_inside (k, v)) (λ v. ok_agree (λ u. ((k, v), u)))))))

    -- ---- numbers, where the second reader keeps those of any size

    module _ (not_range : Same Range → ⊥) where
      number_agree : Agree in_range_only of_any_size
      unfolding number_by Beyond
      number_agree t = go (numeral t) refl where
        by_number : (rest : List ℕ) (n : Num) → IsNumber (λ n. Unit {0}) t n rest → Agrees t (in_range (kept_in_range n) t rest) (in_range (Some n) t rest)
        by_number rest n here = elim (chosen_is (is_in_range n)) [
          | inl h ↦ rw h refl
          | inr h ↦ rw h (inr (record {
            before = [];
            rest = t;
            parts = refl;
            left = refl;
            special = not_range;
            here = record { n = n; rest = rest; rest' = rest; too_big = h; a_number = here; b_number = here; first = refl };
            beyond = λ _. number_longer here;
          }))
        ]

        go : (a : Answer ℕ Fault (Unit {0})) → numeral t ≡ a
            → Agrees t (a >>= λ end. in_range (option_and_then kept_in_range (number_of_text (take (length t - length end.1) t))) t end.1) (a >>= λ end. in_range (option_and_then any_size (number_of_text (take (length t - length end.1) t))) t end.1)
        go (Err f) e = let o = numeral_open t f e in inl (subst (λ (c : Code). Same c) (sym o.coded) syntax_same, refl)
        go (Ok x) e =
            let l = numeral_found t x.0 x.1 e in
            let v = value_of l.shape in
            let text : take (length t - length x.1) t ≡ l.text = front_of l.text x.1 t l.parts in
            let value : number_of_text (take (length t - length x.1) t) ≡ Some v.0 = ap number_of_text text ∙ v.1 in
            let ends : extends (after_first 46 l.text) (front x.1) ≡ false = ap (λ (o : Option (List ℕ)). extends o (front x.1)) (places_of l.shape) ∙ l.ends in
            let here : IsNumber (λ n. Unit {0}) t v.0 x.1 = subst (λ (u : List ℕ). IsNumber (λ n. Unit {0}) u v.0 x.1) (sym l.parts) (number_of l.text v.1 ends tt) in
            subst (λ (o : Option Num). Agrees t (in_range (option_and_then kept_in_range o) t x.1) (in_range (option_and_then any_size o) t x.1)) (sym value) (by_number x.1 v.0 here)

      -- ---- values

      module _ (t : List ℕ) (lists lists' : Reads (List Value)) (maps maps' : Reads (List (List ℕ × Value))) (lists_agree : t ≡ 91 ∷ drop 1 t → Agrees t (lists t) (lists' t)) (maps_agree : t ≡ 123 ∷ drop 1 t → Agrees t (maps t) (maps' t)) where
        word_agrees : (word : List ℕ) (v : Value) → Agrees t (made (λ _. v) (expect Syntax word t)) (made (λ _. v) (expect Syntax word t))
        word_agrees word v = made_at (λ _. v) t (expect Syntax word t) (expect Syntax word t) (expect_agree word t)

        by_start : (s : Start) → IsStart s t → Agrees t (value_over in_range_only s lists maps t) (value_over of_any_size s lists' maps' t)
        unfolding IsStart
        by_start of_null at = word_agrees (codes "null") Null
        by_start of_true at = word_agrees (codes "true") (Flag true)
        by_start of_false at = word_agrees (codes "false") (Flag false)
        by_start quote at = made_at Text t (text (drop 1 t)) (text (drop 1 t)) (drop_agree text text (syntax_agree text text_syntax) t)
        by_start numeric at = made_at Number t (in_range_only t) (of_any_size t) (number_agree t)
        by_start bracket at = made_at Items t (lists t) (lists' t) (lists_agree at)
        by_start brace at = made_at Pairs t (maps t) (maps' t) (maps_agree at)
        by_start nothing at = inl (syntax_same, refl)

        pub over_agree : Agrees t (value_over in_range_only (start_of (front t)) lists maps t) (value_over of_any_size (start_of (front t)) lists' maps' t)
        over_agree = by_start (start_of (front t)) (is_start t)
