-- The first fault of a whole text: up to it a reading goes on, and at it none does.
use Rattle.std.proofs.Common.{◌≡◌, ℕ, ◌+◌, ◌<◌, ◌≤◌, cond, ◌⊎◌, List, [], ◌++◌, length, take, drop, Ok, Err, refl, sym, ap, subst, ◌∙◌, arith, append_assoc, length-append, inl, inr}
use Rattle.std.proofs.Math.Seq.{take-append_seam, drop-append_seam}
use Rattle.ha_value.specs.declared.value.Num.{Num}
use Rattle.ha_value.specs.declared.value.Value.{Value}
use Rattle.ha_value.specs.Numbers.{kept_in_range}
use Rattle.reading.specs.Answer.{Answer, front, stop}
use Rattle.reading.specs.Faults.{FailsAlike, IsAlike}
use Rattle.reading.proofs.Basics.{bind_err, chosen, stop_left, Sound, Complete}
use Rattle.reading.proofs.Local.{Local, split_same}
use Rattle.reading.proofs.Opens.{Opens}
use Rattle.flow_line.specs.declared.fault.Code.{Code}
use Rattle.flow_line.specs.declared.fault.Code.TheVariants.{Syntax, RepeatedKey, Depth, Range}
use Rattle.flow_line.specs.Text.{Reads}
use Rattle.flow_line.specs.Reading.{ended, document}
use Rattle.flow_line.specs.Grammar.{IsNumber, IsDocument, IsUnbounded}
use Rattle.flow_line.specs.Refused.{IsNotation, Like, IsNone, MayStand, IsNoSyntax, IsFirstFault}
use Rattle.flow_line.proofs.ByteRanges.{Fault}
use Rattle.flow_line.proofs.Numbers.{number_is_read}
use Rattle.flow_line.proofs.NumberLaws.{Free, number_local, number_open}
use Rattle.flow_line.proofs.StringLaws.{IsLocal}
use Rattle.flow_line.proofs.Values.{value_with, document_with, document_is, ValueBy, all_seen, is_value, value_found}
use Rattle.flow_line.proofs.ValueFrames.{value_framed}
use Rattle.flow_line.proofs.ValueLocal.{document_local}
use Rattle.flow_line.proofs.ValueOpen.{value_open}
use Rattle.flow_line.proofs.Whole.{AnySize, any_size, number_is, Family, whole_found, whole_read, no_document}
use Rattle.flow_line.proofs.Reach.{Beyond}
use Rattle.flow_line.proofs.Agree.{in_range_only, of_any_size, Agrees, Marked}
use Rattle.flow_line.proofs.Eased.{none_seen, strict_sound, sized_sound, IsSyntax, IsOther, document_eased, document_sized}
use Rattle.flow_line.proofs.Notation.{is_notation}
use Rattle.flow_line.proofs.OneFault.{split_longer, same_next}
use Rattle.flow_line.proofs.Walk.{document_met}
use Rattle.flow_line.proofs.Places.{in_range_before, place_of}

strict : Reads Value
strict = document_with all_seen in_range_only 32

strict_is : document ≡ strict
unfolding strict
strict_is = document_is ∙ ap (λ (num : Reads Num). document_with all_seen num 32) number_is

-- with numbers of any size
sized : Reads Value
sized = document_with all_seen of_any_size 32

-- the notation alone, with so many brackets in one another
notation : ℕ → Reads Value
notation depth = document_with none_seen of_any_size depth

-- ---- each fault depends on nothing behind it

fails_alike : (rule : Reads Value) → IsLocal rule → (t : List ℕ) (f : Fault) → rule t ≡ Err f → FailsAlike Like rule t f
unfolding Local
fails_alike rule local t f e = subst (λ (a : Answer ℕ Fault Value). IsAlike Like rule t a) e (local t)

strict_local : IsLocal strict
unfolding strict
strict_local = document_local in_range_only (number_local kept_in_range) all_seen AnySize strict_sound 32

sized_local : IsLocal sized
unfolding sized
sized_local = document_local of_any_size (number_local any_size) all_seen AnySize sized_sound 32

notation_local : (depth : ℕ) → IsLocal (notation depth)
unfolding notation
notation_local depth = document_local of_any_size (number_local any_size) none_seen AnySize sized_sound depth

any_read : Complete of_any_size (IsNumber AnySize)
any_read = number_is_read any_size AnySize (λ n h. refl)

not_both : (a : Answer ℕ Fault Value) (x : Value × List ℕ) (f : Fault) → a ≡ Ok x → a ≡ Err f → ⊥
not_both a x f e g = cc

no_notation : (depth : ℕ) (t : List ℕ) (f : Fault) → notation depth t ≡ Err f → (v : Value) → IsNotation depth t v [] → ⊥
unfolding notation
no_notation depth t f e v here =
    let read : notation depth t ≡ Ok (v, []) = whole_read none_seen of_any_size AnySize depth any_read t v (subst (λ (S : Family). S t v []) (is_notation depth) here) in
    not_both (notation depth t) (v, []) f read e

no_unbounded : (t : List ℕ) (f : Fault) → sized t ≡ Err f → (v : Value) → IsUnbounded t v → ⊥
unfolding sized
no_unbounded t f e v here =
    let read : sized t ≡ Ok (v, []) = whole_read all_seen of_any_size AnySize 32 any_read t v (subst (λ (S : Family). S t v []) (is_value AnySize 32) here) in
    not_both (sized t) (v, []) f read e

abbrev ByNotation : ℕ → List ℕ → Fault → Type 0
ByNotation depth t f = ((f.code ≡ Syntax) × (notation depth t ≡ Err f)) ⊎ Marked IsSyntax (32 < depth) t f (notation depth t)

by_notation : (depth : ℕ) → 32 ≤ depth → (t : List ℕ) (f : Fault) → strict t ≡ Err f → ByNotation depth t f
unfolding strict notation
by_notation depth h t f e = subst (λ (a : Answer ℕ Fault Value). Agrees IsSyntax (32 < depth) t a (notation depth t)) e (document_eased (32 < depth) 32 depth h (λ l. l) t)

by_size : (t : List ℕ) (f : Fault) → strict t ≡ Err f → IsOther f.code → sized t ≡ Err f
unfolding strict sized
by_size t f e other = elim (subst (λ (a : Answer ℕ Fault Value). Agrees IsOther ⊥ t a (sized t)) e (document_sized 32 t)) [
  | inl k ↦ k.1
  | inr m ↦ absurd (m.special other)
]

-- ---- up to a fault a reading goes on

pub record OpenText (seen : List (List ℕ × Value) → List (List ℕ × Value)) (depth : ℕ) (t : List ℕ) (f : Fault) : Type 0 where
  pub before : List ℕ
  pub rest : List ℕ
  pub parts : t ≡ before ++ rest
  pub left : f.left ≡ length rest
  pub more : List ℕ
  pub v : Value
  pub spelled : ValueBy seen AnySize depth (before ++ more) v []

module _ (seen : List (List ℕ × Value) → List (List ℕ × Value)) (num : Reads Num) (num_open : Opens Free num (IsNumber AnySize)) (sound : Sound num (IsNumber AnySize)) (depth : ℕ) where
  text_open : (t : List ℕ) (f : Fault) → document_with seen num depth t ≡ Err f → OpenText seen depth t f
  unfolding document_with Sound
  text_open t f e = elim (bind_err (value_with seen num depth t) (λ v. cond (ended (front v.1)) (Ok v) (stop Syntax v.1)) f e) [
    | inl h ↦
        let o = value_open num AnySize num_open seen sound depth t f h in
        record { before = o.before; rest = o.rest; parts = o.parts; left = o.left; more = o.more ++ []; v = o.x; spelled = o.spelled [] refl }
    | inr h ↦ elim (chosen (ended (front h.0.1)) (Ok h.0) (stop Syntax h.0.1) (Err f) h.2) [
      | inl k ↦ absurd (let m = k.1 in cc)
      | inr k ↦
          let l = value_framed seen AnySize depth t h.0.0 h.0.1 (value_found seen num AnySize sound depth t h.0.0 h.0.1 h.1) in
          record { before = l.spelling; rest = h.0.1; parts = l.parts; left = stop_left {T = ℕ} {A = Value} Syntax h.0.1 f k.1; more = []; v = h.0.0; spelled = l.again [] refl }
    ]
  ]

strict_open : (t : List ℕ) (f : Fault) → strict t ≡ Err f → OpenText all_seen 32 t f
unfolding strict
strict_open = text_open all_seen in_range_only (number_open kept_in_range) strict_sound 32

notation_open : (depth : ℕ) (t : List ℕ) (f : Fault) → notation depth t ≡ Err f → OpenText none_seen depth t f
unfolding notation
notation_open = text_open none_seen of_any_size (number_open any_size) sized_sound

-- ---- the first fault

-- the notation goes on with the byte at which a fault stands that is none of the syntax
module _ (t before rest : List ℕ) (f : Fault) (e : strict t ≡ Err f) (parts : t ≡ before ++ rest) (left : f.left ≡ length rest) where
  as_notation : (u : List ℕ) (v : Value) → ValueBy none_seen AnySize 33 u v [] → IsNotation 33 u v []
  as_notation u v here = subst (λ (S : Family). S u v []) (sym (is_notation 33)) here

  by_answer : (a : Answer ℕ Fault Value) → notation 33 t ≡ a → Beyond f.left a → MayStand before rest
  unfolding notation Beyond
  by_answer (Ok x) is beyond =
      let here = (whole_found none_seen of_any_size AnySize 33 sized_sound t x.0 x.1 is).0 in
      record { depth = 33; other = rest; v = x.0; deep = omega arith; same = refl; goes_on = subst (λ (u : List ℕ). IsNotation 33 u x.0 []) parts (as_notation t x.0 here) }
  by_answer (Err g) is beyond =
      let o = notation_open 33 t g is in
      let cut = split_longer before o.before rest o.rest (sym parts ∙ o.parts) (let l = o.left in omega arith) in
      let next : front (cut.0 ++ o.more) ≡ front (cut.0 ++ o.rest) = same_next cut.0 o.more o.rest (let l = o.left in omega (arith, ap length cut.2)) in
      let same : o.before ++ o.more ≡ before ++ (cut.0 ++ o.more) = ap (λ (u : List ℕ). u ++ o.more) cut.1 ∙ append_assoc before cut.0 o.more in
      record { depth = 33; other = cut.0 ++ o.more; v = o.v; deep = omega arith; same = next ∙ ap front (sym cut.2); goes_on = subst (λ (u : List ℕ). IsNotation 33 u o.v []) same (as_notation (o.before ++ o.more) o.v o.spelled) }

  may_stand : (f.code ≡ Syntax → ⊥) → MayStand before rest
  may_stand special = elim (by_notation 33 (omega arith) t f e) [
    | inl k ↦ absurd (special k.0)
    | inr m ↦ by_answer (notation 33 t) refl (m.beyond (omega arith))
  ]

  allowed_by : (code : Code) → f.code ≡ code → IsNoSyntax code before rest
  allowed_by Syntax is = tt
  allowed_by RepeatedKey is = may_stand (λ s. (let d : RepeatedKey ≡ Syntax = sym is ∙ s in cc))
  allowed_by Depth is = may_stand (λ s. (let d : Depth ≡ Syntax = sym is ∙ s in cc))
  allowed_by Range is = may_stand (λ s. (let d : Range ≡ Syntax = sym is ∙ s in cc))

  -- what the fault speaks of begins there
  stands_here : Like f.code rest rest
  stands_here = elim (by_notation 32 (omega arith) t f e) [
    | inl k ↦ subst (λ (c : Code). Like c rest rest) (sym k.0) refl
    | inr m ↦
        let cut = split_same m.before before m.rest rest (sym m.parts ∙ parts) (sym m.left ∙ left) in
        subst (λ (u : List ℕ). Like f.code u u) cut.1 m.here
  ]

  -- a rule that has the fault has it at each text that goes on alike
  fails_there : (rule : Reads Value) → IsLocal rule → rule t ≡ Err f → (other : List ℕ) → Like f.code rest other → rule (before ++ other) ≡ Err (record { left = length other; code = f.code })
  fails_there rule local fails other like =
      let l = fails_alike rule local t f fails in
      let cut = split_same l.before before l.rest rest (sym l.parts ∙ parts) (sym l.left ∙ left) in
      ap (λ (u : List ℕ). rule (u ++ other)) (sym cut.0) ∙ l.again other (subst (λ (u : List ℕ). Like f.code u other) (sym cut.1) like)

  notations_end : (other : List ℕ) → Like f.code rest other → f.code ≡ Syntax → (depth : ℕ) (v : Value) → 32 ≤ depth → IsNotation depth (before ++ other) v [] → ⊥
  notations_end other like syntax depth v h here = elim (by_notation depth h t f e) [
    | inl k ↦ no_notation depth (before ++ other) (record { left = length other; code = f.code }) (fails_there (notation depth) (notation_local depth) k.1 other like) v here
    | inr m ↦ m.special syntax
  ]

  values_end : (other : List ℕ) → Like f.code rest other → IsOther f.code → (v : Value) → IsUnbounded (before ++ other) v → ⊥
  values_end other like kind = no_unbounded (before ++ other) (record { left = length other; code = f.code }) (fails_there sized sized_local (by_size t f e kind) other like)

  documents_end : (other : List ℕ) → Like f.code rest other → (v : Value) → IsDocument (before ++ other) v → ⊥
  documents_end other like = no_document (before ++ other) (record { left = length other; code = f.code }) (ap (λ (rule : Reads Value). rule (before ++ other)) strict_is ∙ fails_there strict strict_local e other like)

  none_by : (code : Code) → f.code ≡ code → (other : List ℕ) → Like f.code rest other → IsNone code (before ++ other)
  none_by Syntax is other like = notations_end other like is
  none_by RepeatedKey is other like = values_end other like (λ s. (let d : RepeatedKey ≡ Range = sym is ∙ s in cc))
  none_by Depth is other like = values_end other like (λ s. (let d : Depth ≡ Range = sym is ∙ s in cc))
  none_by Range is other like = documents_end other like

strict_fault : (t : List ℕ) (f : Fault) → strict t ≡ Err f → (at : ℕ) → at + f.left ≡ length t → IsFirstFault t at f.code
unfolding strict
strict_fault t f e at place =
    let o = strict_open t f e in
    let m = document_met 32 t f e in
    let long : at ≡ length o.before = omega (arith, o.left, ap length o.parts, length-append o.before o.rest) in
    let front_is : o.before ≡ take at t = sym (ap (λ (n : ℕ). take n t) long ∙ ap (take (length o.before)) o.parts ∙ take-append_seam o.before o.rest) in
    let rest_is : o.rest ≡ drop at t = sym (ap (λ (n : ℕ). drop n t) long ∙ ap (drop (length o.before)) o.parts ∙ drop-append_seam o.before o.rest) in
    let parts : t ≡ take at t ++ drop at t = o.parts ∙ ap (λ (u : List ℕ). u ++ o.rest) front_is ∙ ap (λ (u : List ℕ). take at t ++ u) rest_is in
    let left : f.left ≡ length (drop at t) = o.left ∙ ap length rest_is in
    record {
      within = omega arith;
      goes_on = subst (λ (u : List ℕ). (more : List ℕ) × (v : Value) × IsUnbounded (u ++ more) v) front_is (o.more, o.v, subst (λ (S : Family). S (o.before ++ o.more) o.v []) (sym (is_value AnySize 32)) o.spelled);
      in_range = in_range_before t f m (drop at t) left;
      place = place_of t f m (drop at t) left (take at t) parts f.code refl;
      here = stands_here t (take at t) (drop at t) f e parts left;
      allowed = allowed_by t (take at t) (drop at t) f e parts left f.code refl;
      no_more = none_by t (take at t) (drop at t) f e parts left f.code refl;
    }

pub first_fault : (t : List ℕ) (f : Fault) (at : ℕ) → document t ≡ Err f → at + f.left ≡ length t → IsFirstFault t at f.code
first_fault t f at e place = strict_fault t f (ap (λ (rule : Reads Value). rule t) (sym strict_is) ∙ e) at place
