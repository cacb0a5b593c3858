-- Two readers that allow more than the strict one: that of the notation alone (numbers of any size, keys that may stand again, brackets as
-- deep as may be), and that of values with numbers of any size.
use Rattle.std.proofs.Common.{◌≡◌, ℕ, zero, suc, ◌<◌, ◌≤◌, true, cond, List, [], ◌∷◌, length, drop, Some, Ok, Err, refl, sym, ap, ◌∙◌, arith, inl, inr}
use Rattle.ha_value.specs.declared.value.Num.{Num}
use Rattle.ha_value.specs.declared.value.Value.{Value}
use Rattle.ha_value.specs.Numbers.{kept_in_range}
use Rattle.reading.specs.Answer.{◌>>=◌, Answer, front, stop}
use Rattle.reading.specs.Rows.{closed_by}
use Rattle.reading.proofs.Basics.{bind_err, chosen, chosen_is, Sound}
use Rattle.reading.proofs.Local.{closed_local}
use Rattle.flow_line.specs.declared.fault.Code.{Code}
use Rattle.flow_line.specs.declared.fault.Code.TheVariants.{Syntax, RepeatedKey, Depth, Range}
use Rattle.flow_line.specs.Text.{Reads, string}
use Rattle.flow_line.specs.Reading.{has_key, key, pair, items, ended}
use Rattle.flow_line.specs.Grammar.{IsNumber}
use Rattle.flow_line.specs.Refused.{Like, is_bracket}
use Rattle.flow_line.proofs.ByteRanges.{Fault}
use Rattle.flow_line.proofs.Found.{string_found, string_longer}
use Rattle.flow_line.proofs.Numbers.{number_found}
use Rattle.flow_line.proofs.NumberLaws.{number_local}
use Rattle.flow_line.proofs.StringLaws.{like_front, IsLocal, string_syntax}
use Rattle.flow_line.proofs.Values.{maps_with, value_with, document_with, all_seen, value_shorter, pair_shorter}
use Rattle.flow_line.proofs.Whole.{AnySize, any_size, keeps_in_range}
use Rattle.flow_line.proofs.ValueLocal.{value_local, pair_local}
use Rattle.flow_line.proofs.Reach.{Insides, Beyond, beyond_on, local_inside, end_inside}
use Rattle.flow_line.proofs.Agree.{in_range_only, of_any_size, Agrees, Agree, same_agree, bind_agree, drop_agree, end_agree, closed_agree, pair_agree, over_agree}

any_kept : (m n : Num) → kept_in_range m ≡ Some n → (m ≡ n) × AnySize n
any_kept m n e = ((keeps_in_range m n e).0, tt)

pub strict_sound : Sound in_range_only (IsNumber AnySize)
strict_sound = number_found kept_in_range AnySize any_kept

some_is : (m n : Num) → Some m ≡ Some n → m ≡ n
some_is m n e = cc

pub sized_sound : Sound of_any_size (IsNumber AnySize)
sized_sound = number_found any_size AnySize (λ m n e. (some_is m n e, tt))

strict_local : (k : ℕ) → IsLocal (value_with all_seen in_range_only k)
strict_local = value_local in_range_only (number_local kept_in_range) all_seen AnySize strict_sound

sized_local : (seen : List (List ℕ × Value) → List (List ℕ × Value)) (k : ℕ) → IsLocal (value_with seen of_any_size k)
sized_local seen = value_local of_any_size (number_local any_size) seen AnySize sized_sound

-- ---- the notation alone

abbrev pub none_seen : List (List ℕ × Value) → List (List ℕ × Value)
none_seen found = []

abbrev pub IsSyntax : Code → Type 0
IsSyntax code = code ≡ Syntax

no_range : IsSyntax Range → ⊥
no_range e = cc

module _ (Deeper : Type 0) where
  abbrev pub Eased : {A : Type 0} → Reads A → Reads A → Type 0
  Eased = Agree IsSyntax Deeper

  key_eased : (found : List (List ℕ × Value)) → Eased (key found) (key [])
  unfolding key Beyond
  key_eased found t = go (string t) refl where
    go : (a : Answer ℕ Fault (List ℕ)) → string t ≡ a → Agrees IsSyntax Deeper t (a >>= λ k. cond (has_key found k.0) (stop RepeatedKey t) (Ok k)) (a >>= λ k. cond (has_key [] k.0) (stop RepeatedKey t) (Ok k))
    go (Err f) e = inl (string_syntax t f e, refl)
    go (Ok k) e = elim (chosen_is (has_key found k.0)) [
      | inl h ↦
          let s = string_found t k.0 k.1 e in
          rw h (inr (record {
            before = [];
            rest = t;
            parts = refl;
            left = refl;
            special = λ e. cc;
            here = record { key = k.0; text = s.0; text' = s.0; rest = k.1; rest' = k.1; a_is = s.1; b_is = s.1; a_key = s.2; b_key = s.2 };
            beyond = λ _. omega (arith, ap length s.1, string_longer s.2);
          }))
      | inr h ↦ rw h refl
    ]

  too_deep : {A : Type 0} (t : List ℕ) (k : ℕ) (b : Answer ℕ Fault A) → is_bracket (Some k) ≡ true → (Deeper → Beyond (length t) b) → t ≡ k ∷ drop 1 t → Agrees IsSyntax Deeper t (stop Depth t) b
  too_deep t k b h beyond at = inr (record { before = []; rest = t; parts = refl; left = refl; special = λ e. cc; here = (refl, ap (λ (u : List ℕ). is_bracket (front u)) at ∙ h); beyond = beyond })

  -- what is read behind a bracket stands past it
  past : {A : Type 0} (p : Reads A) → IsLocal p → (k : ℕ) (t : List ℕ) → t ≡ k ∷ drop 1 t → Beyond (length t) (p (drop 1 t))
  past p local k t at = beyond_on (length t) (drop 1 t) (p (drop 1 t)) (omega (arith, ap length at)) (local_inside p local (drop 1 t))

  value_eased : (k d : ℕ) → k ≤ d → (Deeper → k < d) → Eased (value_with all_seen in_range_only k) (value_with none_seen of_any_size d)
  unfolding value_with items
  value_eased zero zero h deep t =
      let none : Deeper → ⊥ = λ x. (let l = deep x in absurd (omega arith)) in
      over_agree IsSyntax Deeper refl no_range t (stop Depth) (stop Depth) (stop Depth) (stop Depth) (too_deep t 91 (stop Depth t) refl (λ x. absurd (none x))) (too_deep t 123 (stop Depth t) refl (λ x. absurd (none x)))
  value_eased zero (suc d) h deep t =
      let val' : Reads Value = value_with none_seen of_any_size d in
      let in_list : Reads (List Value) = closed_by Syntax 93 (λ found. val') in
      let in_map : Reads (List (List ℕ × Value)) = maps_with none_seen val' in
      let list_local : IsLocal in_list = closed_local Like like_front Syntax 93 (λ found. val') (λ found. sized_local none_seen d) (λ found. value_shorter none_seen of_any_size AnySize sized_sound d) in
      let map_local : IsLocal in_map = closed_local Like like_front Syntax 125 (λ found. pair val' []) (λ found. pair_local val' (sized_local none_seen d) []) (λ found. pair_shorter none_seen of_any_size AnySize sized_sound d []) in
      over_agree IsSyntax Deeper refl no_range t (stop Depth) (λ t. in_list (drop 1 t)) (stop Depth) (λ t. in_map (drop 1 t))
      (λ at. too_deep t 91 (in_list (drop 1 t)) refl (λ _. past in_list list_local 91 t at) at) (λ at. too_deep t 123 (in_map (drop 1 t)) refl (λ _. past in_map map_local 123 t at) at)
  value_eased (suc k) zero h deep t = absurd (omega arith)
  value_eased (suc k) (suc d) h deep t =
      let val : Reads Value = value_with all_seen in_range_only k in
      let val' : Reads Value = value_with none_seen of_any_size d in
      let inside : Insides val' = local_inside val' (sized_local none_seen d) in
      let agree : Eased val val' = value_eased k d (omega arith) (λ x. (let l = deep x in omega arith)) in
      let in_list : Eased (closed_by Syntax 93 (λ found. val)) (closed_by Syntax 93 (λ found. val')) = closed_agree IsSyntax Deeper refl 93 (λ found. val) (λ found. val') (λ found. strict_local k) (λ found. agree) (λ found. inside) in
      let in_map : Eased (maps_with all_seen val) (maps_with none_seen val') =
      closed_agree IsSyntax Deeper refl 125 (λ found. pair val found) (λ found. pair val' []) (λ found. pair_local val (strict_local k) found)
      (λ found. pair_agree IsSyntax Deeper refl val val' (strict_local k) (sized_local none_seen d) agree found [] (key_eased found)) (λ found. local_inside (pair val' []) (pair_local val' (sized_local none_seen d) [])) in
      over_agree IsSyntax Deeper refl no_range t (λ t. items val (drop 1 t)) (λ t. items val' (drop 1 t)) (λ t. maps_with all_seen val (drop 1 t)) (λ t. maps_with none_seen val' (drop 1 t))
      (λ at. drop_agree IsSyntax Deeper (closed_by Syntax 93 (λ found. val)) (closed_by Syntax 93 (λ found. val')) in_list t) (λ at. drop_agree IsSyntax Deeper (maps_with all_seen val) (maps_with none_seen val') in_map t)

  pub document_eased : (k d : ℕ) → k ≤ d → (Deeper → k < d) → Eased (document_with all_seen in_range_only k) (document_with none_seen of_any_size d)
  unfolding document_with
  document_eased k d h deep =
      bind_agree IsSyntax Deeper (value_with all_seen in_range_only k) (value_with none_seen of_any_size d) (λ v u. cond (ended (front u)) (Ok (v, u)) (stop Syntax u)) (λ v u. cond (ended (front u)) (Ok (v, u)) (stop Syntax u))
      (strict_local k) (value_eased k d h deep) end_inside (end_agree IsSyntax Deeper refl)

-- ---- values with numbers of any size

abbrev pub IsOther : Code → Type 0
IsOther code = code ≡ Range → ⊥

other_syntax : IsOther Syntax
other_syntax e = cc

other_depth : IsOther Depth
other_depth e = cc

other_key : IsOther RepeatedKey
other_key e = cc

no_other : IsOther Range → ⊥
no_other h = h refl

abbrev pub Sized : {A : Type 0} → Reads A → Reads A → Type 0
Sized = Agree IsOther ⊥

stop_code : (c : Code) (t : List ℕ) (f : Fault) → stop {A = List ℕ} c t ≡ Err f → c ≡ f.code
stop_code c t f e = cc

key_codes : (found : List (List ℕ × Value)) (t : List ℕ) (f : Fault) → key found t ≡ Err f → IsOther f.code
unfolding key
key_codes found t f e h = elim (bind_err (string t) (λ k. cond (has_key found k.0) (stop RepeatedKey t) (Ok k)) f e) [
  | inl s ↦ other_syntax (sym (string_syntax t f s) ∙ h)
  | inr s ↦ elim (chosen (has_key found s.0.0) (stop RepeatedKey t) (Ok s.0) (Err f) s.2) [
    | inl k ↦ other_key (stop_code RepeatedKey t f k.1 ∙ h)
    | inr k ↦ absurd (let m = k.1 in cc)
  ]
]

stop_sized : {A : Type 0} (t : List ℕ) → Agrees IsOther ⊥ {A = A} t (stop Depth t) (stop Depth t)
stop_sized t = inl (other_depth, refl)

value_sized : (k : ℕ) → Sized (value_with all_seen in_range_only k) (value_with all_seen of_any_size k)
unfolding value_with items
value_sized zero t = over_agree IsOther ⊥ other_syntax no_other t (stop Depth) (stop Depth) (stop Depth) (stop Depth) (λ at. stop_sized t) (λ at. stop_sized t)
value_sized (suc k) t =
    let val : Reads Value = value_with all_seen in_range_only k in
    let val' : Reads Value = value_with all_seen of_any_size k in
    let agree : Sized val val' = value_sized k in
    let in_list : Sized (closed_by Syntax 93 (λ found. val)) (closed_by Syntax 93 (λ found. val')) = closed_agree IsOther ⊥ other_syntax 93 (λ found. val) (λ found. val') (λ found. strict_local k) (λ found. agree) (λ found. local_inside val' (sized_local all_seen k)) in
    let in_map : Sized (maps_with all_seen val) (maps_with all_seen val') =
    closed_agree IsOther ⊥ other_syntax 125 (λ found. pair val found) (λ found. pair val' found) (λ found. pair_local val (strict_local k) found)
    (λ found. pair_agree IsOther ⊥ other_syntax val val' (strict_local k) (sized_local all_seen k) agree found found (same_agree IsOther ⊥ (key found) (key_codes found))) (λ found. local_inside (pair val' found) (pair_local val' (sized_local all_seen k) found)) in
    over_agree IsOther ⊥ other_syntax no_other t (λ t. items val (drop 1 t)) (λ t. items val' (drop 1 t)) (λ t. maps_with all_seen val (drop 1 t)) (λ t. maps_with all_seen val' (drop 1 t))
    (λ at. drop_agree IsOther ⊥ (closed_by Syntax 93 (λ found. val)) (closed_by Syntax 93 (λ found. val')) in_list t) (λ at. drop_agree IsOther ⊥ (maps_with all_seen val) (maps_with all_seen val') in_map t)

pub document_sized : (k : ℕ) → Sized (document_with all_seen in_range_only k) (document_with all_seen of_any_size k)
unfolding document_with
document_sized k =
    bind_agree IsOther ⊥ (value_with all_seen in_range_only k) (value_with all_seen of_any_size k) (λ v u. cond (ended (front u)) (Ok (v, u)) (stop Syntax u)) (λ v u. cond (ended (front u)) (Ok (v, u)) (stop Syntax u))
    (strict_local k) (value_sized k) end_inside (end_agree IsOther ⊥ other_syntax)
