-- Keys and places, signs, filters and operators on two texts that begin alike.
use Rattle.std.proofs.Common.{◌≡◌, ℕ, zero, suc, ◌+◌, ◌-◌, ◌≤◌, ◌<◌, Bool, true, false, cond, not, inl, inr, List, [], ◌∷◌, ◌++◌, length, Option, Some, None, Ok, refl, sym, ap, ◌∙◌, subst, arith}
use Rattle.std.specs.Prelude.{◌==◌, ◌||◌, ◌&&◌, is_some}
use Rattle.std.specs.List.{find}
use Rattle.std.proofs.Math.ListN.{length-drop}
use Rattle.std.proofs.lemmas.Bool.{and_parts, eqb-true, eq-eqb}
use Rattle.ha_config.specs.declared.template.Op.{Op}
use Rattle.ha_config.specs.declared.template.Expr.{Expr}
use Rattle.ha_config.specs.declared.template.Expr
use Rattle.reading.specs.Answer.{◌>>=◌, front, stop}
use Rattle.reading.proofs.Basics.{chosen_is, bind_ok, ok_parts, made_ok}
use Rattle.reading.proofs.Shorter.{bind}
use Rattle.tpl_parse.specs.declared.token.Token.{Token}
use Rattle.tpl_parse.specs.declared.table.Counts.{Counts}
use Rattle.tpl_parse.specs.declared.table.Filter.{Filter}
use Rattle.tpl_parse.specs.declared.expression.Last.{Last}
use Rattle.tpl_parse.specs.declared.expression.Level.{Level}
use Rattle.tpl_parse.specs.declared.expression.Part.{Part}
use Rattle.tpl_parse.specs.Token.{Reads, is_longer, ends_before, spaces, stands, next_is, past, text_of}
use Rattle.tpl_parse.specs.Names.{filter_row}
use Rattle.tpl_parse.specs.Literal.{name, filter_name}
use Rattle.tpl_parse.specs.Reading.{Inner, after_operator, arguments, at_place, atom, chain, enclosed, ending, filter_arguments, filter_turns, filtered, joined, operand, operand_turns, operator, operators, pair, part_turns, product, reached, signed, sum}
use Rattle.tpl_parse.proofs.Tokens.{spaces_twice}
use Rattle.tpl_parse.proofs.Apart.{Quiet}
use Rattle.tpl_parse.proofs.Next.{Fault}
use Rattle.tpl_parse.proofs.Shorter.{Read, Within, Keeps, IsOpen, later, length-spaces, enclosed_keeps, name_keeps, filter_name_keeps, at_place_keeps, part_turns_keeps, signed_keeps, filter_arguments_keeps, filter_turns_keeps, operand_turns_keeps, factor_keeps, product_keeps, joined_keeps, no_longer_than}
use Rattle.tpl_parse.proofs.Ahead.{grows, ahead, is_ahead, any_ahead, all_clear, starts, stands_is, ends_alike}
use Rattle.tpl_parse.proofs.Cut.{Nothing, Late, beyond, begun, Agree, same, fails, late, Local, Skips, Sharp, agree_is, agree_bind, agree_plain, within_then, Split, blank, shown, split, all_blank, nothing, partly, there, other, looks, past_late}
use Rattle.tpl_parse.proofs.CutLexical.{name_cut, filter_name_cut}
use Rattle.tpl_parse.proofs.CutAtoms.{sharp_of, not_sharp, every, any_front, any_back, IsCut, opens_of, enclosed_cut, arguments_cut, sooner, Dotted}

shown_less : (c a : List ℕ) (e : ℕ) (d : List ℕ) → spaces (c ++ a) ≡ e ∷ (d ++ a) → length (e ∷ (d ++ a)) ≤ length (c ++ a)
shown_less c a e d s = omega (arith, ap length s, length-spaces (c ++ a))

-- ---- keys and places

at_place_skips : (inner : Option Inner) (more : Expr → Reads Expr) (base : Expr) → Skips (at_place inner more base)
at_place_skips None more base t = rw (spaces_twice t) refl
at_place_skips (Some inner) more base t = rw (spaces_twice t) refl

at_place_cut : (inner : Option Inner) → IsCut inner → (more more' : Expr → Reads Expr) → ((base : Expr) → Keeps (more base)) → (base : Expr) (c a b : List ℕ)
    → ((x : Expr) (u : List ℕ) → length (u ++ a) < length (c ++ a) → Agree Nothing a b (more x (u ++ a)) (more' x (u ++ b)))
    → Agree Nothing a b (at_place inner more base (c ++ a)) (at_place inner more' base (c ++ b))
at_place_cut None k more more' h base c a b on = elim (split c) [
  | blank s ↦ late (beyond (all_blank (at_place None more base) (at_place_skips None more base) (at_place_keeps None tt more h base) c a (s a)))
  | shown e d s ↦ same base (e ∷ d) (ap (λ (z : List ℕ). Ok (base, z)) (s a)) (ap (λ (z : List ℕ). Ok (base, z)) (s b))
]
at_place_cut (Some inner) k more more' h base c a b on = elim (looks Token.OpenList c) [
  | nothing s ↦ late (beyond (all_blank (at_place (Some inner) more base) (at_place_skips (Some inner) more base) (at_place_keeps (Some inner) k.opens more h base) c a (s a)))
  | partly e d s q ↦ not_sharp Token.OpenList (sharp_of Token.OpenList 91 refl refl) e d q
  | there u n p ↦
      let sharp : Sharp Token.CloseList = sharp_of Token.CloseList 93 refl refl in
      let index : Reads Expr = enclosed inner Token.CloseList in
      rw (n a, n b) (agree_is (ap (λ (z : List ℕ). index z >>= λ index. more (Expr.At base index.0) index.1) (p a)) (ap (λ (z : List ℕ). index z >>= λ index. more' (Expr.At base index.0) index.1) (p b))
      (agree_bind Nothing Nothing a b (λ index. more (Expr.At base index.0) index.1) (λ index. more' (Expr.At base index.0) index.1) (index (u ++ a)) (index (u ++ b))
      (λ x. h (Expr.At base x)) (λ x rest d at q. absurd q)
      (λ x d is. on (Expr.At base x) d (omega (arith, no_longer_than index (enclosed_keeps inner k.opens Token.CloseList) (u ++ a) x (d ++ a) is, sooner Token.OpenList c u a (n a) (p a))))
      (enclosed_cut inner k Token.CloseList sharp refl u a b)))
  | other e d s n ↦ rw (n a, n b) (same base (e ∷ d) (ap (λ (z : List ℕ). Ok (base, z)) (s a)) (ap (λ (z : List ℕ). Ok (base, z)) (s b)))
]

part_skips : (n : ℕ) (inner : Option Inner) (base : Expr) → Skips (part_turns (suc n) inner base)
unfolding part_turns
part_skips n inner base t = rw (spaces_twice t) refl

part_turns_cut : (n m : ℕ) (inner : Option Inner) → IsCut inner → (base : Expr) (c a b : List ℕ) → length (c ++ a) < n → Agree Nothing a b (part_turns n inner base (c ++ a)) (part_turns m inner base (c ++ b))
unfolding part_turns
part_turns_cut zero m inner k base c a b lt = absurd (omega arith)
part_turns_cut (suc n) zero inner k base c a b lt = fails _ refl
part_turns_cut (suc n) (suc m) inner k base c a b lt = elim (looks Token.Dot c) [
  | nothing s ↦ late (beyond (all_blank (part_turns (suc n) inner base) (part_skips n inner base) (part_turns_keeps (suc n) inner (opens_of inner k) base) c a (s a)))
  | partly e d s q ↦ not_sharp Token.Dot (sharp_of Token.Dot 46 refl refl) e d q
  | there u n' p ↦
      rw (n' a, n' b) (agree_is (ap (λ (z : List ℕ). name z >>= λ key. part_turns n inner (Expr.Field base key.0) key.1) (p a)) (ap (λ (z : List ℕ). name z >>= λ key. part_turns m inner (Expr.Field base key.0) key.1) (p b))
      (agree_bind Nothing Nothing a b (λ key. part_turns n inner (Expr.Field base key.0) key.1) (λ key. part_turns m inner (Expr.Field base key.0) key.1) (name (u ++ a)) (name (u ++ b))
      (λ x. part_turns_keeps n inner (opens_of inner k) (Expr.Field base x)) (λ x rest d at q. absurd q)
      (λ x d is. part_turns_cut n m inner k (Expr.Field base x) d a b (omega (arith, no_longer_than name name_keeps (u ++ a) x (d ++ a) is, sooner Token.Dot c u a (n' a) (p a), lt)))
      (name_cut u a b)))
  | other e d s n' ↦
      rw (n' a, n' b) (agree_is (ap (at_place inner (part_turns n inner) base) (s a)) (ap (at_place inner (part_turns m inner) base) (s b))
      (at_place_cut inner k (part_turns n inner) (part_turns m inner) (part_turns_keeps n inner (opens_of inner k)) base (e ∷ d) a b
      (λ x u less. part_turns_cut n m inner k x u a b (omega (arith, less, shown_less c a e d (s a), lt)))))
]

dot_late : (n : ℕ) (inner : Option Inner) → IsOpen inner → (base : Expr) (t a : List ℕ) → spaces t ≡ 46 ∷ a → Within (length a) (part_turns (suc n) inner base t)
unfolding part_turns
dot_late n inner h base t a at =
    let next : next_is Token.Dot t ≡ true = ap (stands Token.Dot) at ∙ stands_is Token.Dot (46 ∷ a) ∙ ends_alike Token.Dot refl (front a) in
    let le : length (past Token.Dot t) ≤ length a = omega (arith, length-drop 1 (spaces t), ap length at) in
    rw next (within_then (length a) (λ key. part_turns n inner (Expr.Field base key.0) key.1) (name (past Token.Dot t)) (λ x. part_turns_keeps n inner h (Expr.Field base x)) (later name name_keeps (past Token.Dot t) (length a) le))

-- ---- operators

abbrev pub firsts : List (Token × Op) → List Token
firsts [] = []
firsts (row ∷ rows) = row.0 ∷ firsts rows

pub data Sees (rows : List (Token × Op)) (c : List ℕ) : Type 0 where
  no_row : ((x : List ℕ) → spaces (c ++ x) ≡ spaces x) → Sees rows c
  row_partly : (e : ℕ) (d : List ℕ) → ((x : List ℕ) → spaces (c ++ x) ≡ e ∷ (d ++ x)) → any_ahead (firsts rows) (e ∷ d) ≡ true → Sees rows c
  row_there : (row : Token × Op) (u : List ℕ) → ((x : List ℕ) → operator rows (c ++ x) ≡ Some row) → ((x : List ℕ) → next_is row.0 (c ++ x) ≡ true) → ((x : List ℕ) → past row.0 (c ++ x) ≡ u ++ x) → Sees rows c
  row_other : (e : ℕ) (d : List ℕ) → ((x : List ℕ) → spaces (c ++ x) ≡ e ∷ (d ++ x)) → ((x : List ℕ) → operator rows (c ++ x) ≡ None) → Sees rows c

next_row : (row : Token × Op) (rows : List (Token × Op)) (c : List ℕ) → ((x : List ℕ) → next_is row.0 (c ++ x) ≡ false) → Sees rows c → Sees (row ∷ rows) c
next_row row rows c n (no_row s) = no_row s
next_row row rows c n (row_partly e d s h) = row_partly e d s (elim (chosen_is (is_ahead row.0 (e ∷ d))) [ inl k ↦ rw k refl | inr k ↦ rw k h ])
next_row row rows c n (row_there r u q n' p) = row_there r u (λ x. rw (n x) (q x)) n' p
next_row row rows c n (row_other e d s q) = row_other e d s (λ x. rw (n x) (q x))

none_seen : (c : List ℕ) → Split c → Sees [] c
none_seen c (blank s) = no_row s
none_seen c (shown e d s) = row_other e d s (λ x. refl)

pub sees_rows : (rows : List (Token × Op)) (c : List ℕ) → Sees rows c
sees_rows [] c = none_seen c (split c)
sees_rows (row ∷ rows) c = elim (looks row.0 c) [
  | nothing s ↦ no_row s
  | partly e d s h ↦ row_partly e d s (rw h refl)
  | there u n p ↦ row_there row u (λ x. rw (n x) refl) n p
  | other e d s n ↦ next_row row rows c n (sees_rows rows c)
]

abbrev pub rows_clear : List Token → List (Token × Op) → Bool
rows_clear tokens [] = true
rows_clear tokens (row ∷ rows) = all_clear tokens row.0 && rows_clear tokens rows

pub operator_late : (tokens : List Token) (rows : List (Token × Op)) (t d a : List ℕ) (row : Token × Op) → spaces t ≡ d ++ a → any_ahead tokens d ≡ true → rows_clear tokens rows ≡ true → operator rows t ≡ Some row
    → length (past row.0 t) ≤ length a
operator_late tokens [] t d a row at h clear e = absurd cc
operator_late tokens (first ∷ rows) t d a row at h clear e =
    let p = and_parts (all_clear tokens first.0) (rows_clear tokens rows) clear in
    elim (chosen_is (next_is first.0 t)) [
      | inl n ↦ (let is : first ≡ row = (let k = rw n at e in cc) in subst (λ (r : Token × Op). length (past r.0 t) ≤ length a) is (past_late tokens first.0 t d a at h p.0 n))
      | inr n ↦ operator_late tokens rows t d a row at h p.1 (rw n at e)
    ]

pub operator_skips : (rows : List (Token × Op)) (t : List ℕ) → operator rows (spaces t) ≡ operator rows t
operator_skips rows t = ap (λ (u : List ℕ). find (λ row. stands row.0 u) rows) (spaces_twice t)

pub quiet_rows : (rows : List (Token × Op)) (t : List ℕ) → operator rows t ≡ None → Quiet (firsts rows) t
quiet_rows [] t e = tt
quiet_rows (row ∷ rows) t e = elim (chosen_is (next_is row.0 t)) [ inl n ↦ absurd (let k = rw n at e in cc) | inr n ↦ (n, quiet_rows rows t (rw n at e)) ]

module _ (E : Part → List ℕ → Type 0) (paired : (op : Op) (left right : Part) (d : List ℕ) → E right d → E (pair op left right) d) (seen : (x : Part) (d : List ℕ) → E x d → any_ahead every d ≡ true) where
  module _ (rows : List (Token × Op)) (operand : Reads Part) (keeps : Keeps operand) (cut : Local E operand) (clear : rows_clear every rows ≡ true) (own : rows_clear (firsts rows) rows ≡ true)
      (ahead_of : (left : Part) (t : List ℕ) (e : ℕ) (d a : List ℕ) → spaces t ≡ e ∷ (d ++ a) → any_ahead (firsts rows) (e ∷ d) ≡ true → operator rows t ≡ None → E left (e ∷ d)) where
    abbrev turns : ℕ → Part → Reads Part
    turns n left = operand_turns n rows operand left

    after_skips : (o : Option (Token × Op)) (more : Part → Reads Part) (left : Part) (t : List ℕ) → after_operator o operand more left (spaces t) ≡ after_operator o operand more left t
    after_skips None more left t = rw (spaces_twice t) refl
    after_skips (Some row) more left t = rw (spaces_twice t) refl

    turns_skip : (n : ℕ) (left : Part) → Skips (turns (suc n) left)
    unfolding operand_turns
    turns_skip n left t = ap (λ (o : Option (Token × Op)). after_operator o operand (turns n) left (spaces t)) (operator_skips rows t) ∙ after_skips (operator rows t) (turns n) left t

    row_late : (n : ℕ) (left : Part) (row : Token × Op) (t a : List ℕ) → length (past row.0 t) ≤ length a → Within (length a) (after_operator (Some row) operand (turns n) left t)
    row_late n left row t a le =
        within_then (length a) (λ right. turns n (pair row.1 left right.0) right.1) (operand (past row.0 t)) (λ x. operand_turns_keeps n rows operand keeps (pair row.1 left x)) (later operand keeps (past row.0 t) (length a) le)

    found_late : (n : ℕ) (left : Part) (tokens : List Token) (t d a : List ℕ) → spaces t ≡ d ++ a → any_ahead tokens d ≡ true → rows_clear tokens rows ≡ true → (operator rows t ≡ None → E left d)
        → (o : Option (Token × Op)) → operator rows t ≡ o → Late E a (after_operator o operand (turns n) left t)
    found_late n left tokens t d a at h c' k None e = begun left (spaces t) d refl (spaces_twice t ∙ at) (k e)
    found_late n left tokens t d a at h c' k (Some row) e = beyond (row_late n left row t a (operator_late tokens rows t d a row at h c' e))

    turn_late : (n : ℕ) → 0 < n → (left : Part) (t d a : List ℕ) → spaces t ≡ d ++ a → E left d → Late E a (turns n left t)
    unfolding operand_turns
    turn_late zero lt left t d a at k = absurd (omega arith)
    turn_late (suc n) lt left t d a at k = found_late n left every t d a at (seen left d k) clear (λ e. k) (operator rows t) refl

    turns_cut : (n m : ℕ) (left : Part) (c a b : List ℕ) → length (c ++ a) < n → Agree E a b (turns n left (c ++ a)) (turns m left (c ++ b))
    unfolding operand_turns
    turns_cut zero m left c a b lt = absurd (omega arith)
    turns_cut (suc n) zero left c a b lt = fails _ refl
    turns_cut (suc n) (suc m) left c a b lt = elim (sees_rows rows c) [
      | no_row s ↦ late (beyond (all_blank (turns (suc n) left) (turns_skip n left) (operand_turns_keeps (suc n) rows operand keeps left) c a (s a)))
      | row_partly e d s h ↦ late (found_late n left (firsts rows) (c ++ a) (e ∷ d) a (s a) h own (λ none. ahead_of left (c ++ a) e d a (s a) h none) (operator rows (c ++ a)) refl)
      | row_there row u q n' p ↦
          let less = sooner row.0 c u a (n' a) (p a) in
          rw (q a, q b) (agree_is (ap (λ (z : List ℕ). operand z >>= λ right. turns n (pair row.1 left right.0) right.1) (p a)) (ap (λ (z : List ℕ). operand z >>= λ right. turns m (pair row.1 left right.0) right.1) (p b))
          (agree_bind E E a b (λ right. turns n (pair row.1 left right.0) right.1) (λ right. turns m (pair row.1 left right.0) right.1) (operand (u ++ a)) (operand (u ++ b))
          (λ x. operand_turns_keeps n rows operand keeps (pair row.1 left x))
          (λ x rest d at k. turn_late n (omega (arith, less, lt)) (pair row.1 left x) rest d a at (paired row.1 left x d k))
          (λ x d is. turns_cut n m (pair row.1 left x) d a b (omega (arith, no_longer_than operand keeps (u ++ a) x (d ++ a) is, less, lt)))
          (cut u a b)))
      | row_other e d s q ↦ rw (q a, q b) (same left (e ∷ d) (ap (λ (z : List ℕ). Ok (left, z)) (s a)) (ap (λ (z : List ℕ). Ok (left, z)) (s b)))
    ]

    pub chain_cut : Local E (chain rows operand)
    unfolding chain
    chain_cut c a b =
        agree_bind E E a b (λ first. turns (suc (length first.1)) first.0 first.1) (λ first. turns (suc (length first.1)) first.0 first.1) (operand (c ++ a)) (operand (c ++ b))
        (λ x m t. operand_turns_keeps (suc (length t)) rows operand keeps x m t)
        (λ x rest d at k. turn_late (suc (length rest)) (omega arith) x rest d a at k)
        (λ x d is. turns_cut (suc (length (d ++ a))) (suc (length (d ++ b))) x d a b (omega arith)) (cut c a b)

-- what a chain's last operand is
module _ (P : Last → Type 0) (rows : List (Token × Op)) (operand : Reads Part) (ends : (t : List ℕ) (x : Part) (rest : List ℕ) → operand t ≡ Ok (x, rest) → P x.last) where
  end_by : (n : ℕ) (left : Part) → P left.last → ((l : Part) → P l.last → (t : List ℕ) (x : Part) (rest : List ℕ) → operand_turns n rows operand l t ≡ Ok (x, rest) → P x.last)
      → (t : List ℕ) (x : Part) (rest : List ℕ) (o : Option (Token × Op)) → after_operator o operand (operand_turns n rows operand) left t ≡ Ok (x, rest) → P x.last
  end_by n left k again t x rest None e = subst (λ (p : Part). P p.last) (ok_parts {F = Fault} (left, spaces t) (x, rest) e).0 k
  end_by n left k again t x rest (Some row) e =
      let m = bind_ok (operand (past row.0 t)) (λ right. operand_turns n rows operand (pair row.1 left right.0) right.1) (x, rest) e in
      again (pair row.1 left m.0.0) (ends (past row.0 t) m.0.0 m.0.1 m.1) m.0.1 x rest m.2

  turns_end : (n : ℕ) (left : Part) → P left.last → (t : List ℕ) (x : Part) (rest : List ℕ) → operand_turns n rows operand left t ≡ Ok (x, rest) → P x.last
  unfolding operand_turns
  turns_end zero left k t x rest e = absurd cc
  turns_end (suc n) left k t x rest e = end_by n left k (λ l h u y r q. turns_end n l h u y r q) t x rest (operator rows t) e

  pub chain_ends : (t : List ℕ) (x : Part) (rest : List ℕ) → chain rows operand t ≡ Ok (x, rest) → P x.last
  unfolding chain
  chain_ends t x rest e =
      let m = bind_ok (operand t) (λ first. operand_turns (suc (length first.1)) rows operand first.0 first.1) (x, rest) e in
      turns_end (suc (length m.0.1)) m.0.0 (ends t m.0.0 m.0.1 m.1) m.0.1 x rest m.2

-- ---- tokens that are the front of one other

-- one byte alone
pub one_front : (token : Token) (x e : ℕ) (d : List ℕ) → ahead token (x ∷ []) (e ∷ d) ≡ true → (e ≡ x) × (d ≡ [])
one_front token x e [] h = elim (chosen_is (x == e)) [ inl k ↦ (sym (eqb-true x e k), refl) | inr k ↦ absurd (let w = rw k at h in cc) ]
one_front token x e (y ∷ d) h = elim (chosen_is (x == e)) [ inl k ↦ absurd (let w = rw k at h in cc) | inr k ↦ absurd (let w = rw k at h in cc) ]

pub two_front : (token : Token) (x y e : ℕ) (d : List ℕ) → grows token ≡ false → ahead token (x ∷ y ∷ []) (e ∷ d) ≡ true → (e ≡ x) × (d ≡ [])
two_front token x y e [] g h = elim (chosen_is (x == e)) [ inl k ↦ (sym (eqb-true x e k), refl) | inr k ↦ absurd (let w = rw k at h in cc) ]
two_front token x y e (z ∷ d) g h = elim (chosen_is (x == e)) [
  | inl k ↦ absurd (none d (rw k at h))
  | inr k ↦ absurd (let w = rw k at h in cc)
] where
  none : (d : List ℕ) → cond (y == z) (ahead token [] d) false ≡ true → ⊥
  none [] h = elim (chosen_is (y == z)) [ inl k ↦ (let w = rw (k, g) at h in cc) | inr k ↦ (let w = rw k at h in cc) ]
  none (v ∷ d) h = elim (chosen_is (y == z)) [ inl k ↦ (let w = rw k at h in cc) | inr k ↦ (let w = rw k at h in cc) ]

-- where the byte stands, the short token or the long one does
pub one_of_two : (short long : Token) (x y : ℕ) → text_of short ≡ x ∷ [] → text_of long ≡ x ∷ y ∷ [] → grows long ≡ false → ((z : ℕ) → is_longer short z ≡ (z == y)) → (t a : List ℕ) → spaces t ≡ x ∷ a
    → next_is short t ≡ false → next_is long t ≡ false → ⊥
one_of_two short long x y s l g longer t a at n m = by_rest a (sym (stands_is short (x ∷ a)) ∙ ap (stands short) (sym at) ∙ n) (sym (stands_is long (x ∷ a)) ∙ ap (stands long) (sym at) ∙ m) where
  by_rest : (a : List ℕ) → starts short (text_of short) (x ∷ a) ≡ false → starts long (text_of long) (x ∷ a) ≡ false → ⊥
  by_rest [] p q = let w = rw (s, eq-eqb x x refl) at p in cc
  by_rest (z ∷ a) p q = elim (chosen_is (z == y)) [
    | inl k ↦
        let w = rw (l, eq-eqb x x refl, eq-eqb y z (sym (eqb-true z y k))) at q in
        let v : ends_before long (front a) ≡ true = ends_alike long g (front a) in
        cc
    | inr k ↦ let w = rw (s, eq-eqb x x refl) at p in let v : not (is_longer short z) ≡ true = ap not (longer z ∙ k) in cc
  ]

-- ---- the levels of operands

-- what a sum leaves may go on with a sign
abbrev pub Signs : Part → List ℕ → Type 0
Signs part d = any_ahead (Token.Minus ∷ Token.Modulo ∷ []) d ≡ true

signs_every : (x : Part) (d : List ℕ) → Signs x d → any_ahead every d ≡ true
signs_every x d h = any_back (Token.Or ∷ Token.And ∷ []) (Token.Minus ∷ Token.Modulo ∷ Token.Equal ∷ Token.Unequal ∷ Token.Is ∷ Token.In ∷ Token.Not ∷ Token.If ∷ Token.Else ∷ []) d (any_front (Token.Minus ∷ Token.Modulo ∷ []) (Token.Equal ∷ Token.Unequal ∷ Token.Is ∷ Token.In ∷ Token.Not ∷ Token.If ∷ Token.Else ∷ []) d h)

slash : (t : List ℕ) (e : ℕ) (d a : List ℕ) → spaces t ≡ e ∷ (d ++ a) → (e ≡ 47) × (d ≡ []) → operator (operators Level.Product) t ≡ None → ⊥
slash t e d a at is none =
    let q = quiet_rows (operators Level.Product) t none in
    let here : spaces t ≡ 47 ∷ a = at ∙ ap (λ (z : ℕ). z ∷ (d ++ a)) is.0 ∙ ap (λ (z : List ℕ). 47 ∷ (z ++ a)) is.1 in
    one_of_two Token.Over Token.Floor 47 47 refl refl refl (λ z. refl) t a here q.1.0 q.1.1.0

product_ahead : (left : Part) (t : List ℕ) (e : ℕ) (d a : List ℕ) → spaces t ≡ e ∷ (d ++ a) → any_ahead (firsts (operators Level.Product)) (e ∷ d) ≡ true → operator (operators Level.Product) t ≡ None → Signs left (e ∷ d)
product_ahead left t e d a at h none = elim (chosen_is (is_ahead Token.Times (e ∷ d))) [
  | inl k ↦ not_sharp Token.Times (sharp_of Token.Times 42 refl refl) e d k
  | inr k ↦ elim (chosen_is (is_ahead Token.Over (e ∷ d))) [
    | inl l ↦ absurd (slash t e d a at (one_front Token.Over 47 e d l) none)
    | inr l ↦ elim (chosen_is (is_ahead Token.Floor (e ∷ d))) [
      | inl m ↦ absurd (slash t e d a at (two_front Token.Floor 47 47 e d refl m) none)
      | inr m ↦ any_back (Token.Minus ∷ []) (Token.Modulo ∷ []) (e ∷ d) (rw (k, l, m) at h)
    ]
  ]
]

joined_ahead : (left : Part) (t : List ℕ) (e : ℕ) (d a : List ℕ) → spaces t ≡ e ∷ (d ++ a) → any_ahead (firsts (operators Level.Join)) (e ∷ d) ≡ true → operator (operators Level.Join) t ≡ None → Signs left (e ∷ d)
joined_ahead left t e d a at h none = elim (chosen_is (is_ahead Token.Join (e ∷ d))) [ inl k ↦ not_sharp Token.Join (sharp_of Token.Join 126 refl refl) e d k | inr k ↦ absurd (let w = rw k at h in cc) ]

sum_ahead : (left : Part) (t : List ℕ) (e : ℕ) (d a : List ℕ) → spaces t ≡ e ∷ (d ++ a) → any_ahead (firsts (operators Level.Sum)) (e ∷ d) ≡ true → operator (operators Level.Sum) t ≡ None → Signs left (e ∷ d)
sum_ahead left t e d a at h none = elim (chosen_is (is_ahead Token.Plus (e ∷ d))) [ inl k ↦ not_sharp Token.Plus (sharp_of Token.Plus 43 refl refl) e d k | inr k ↦ any_front (Token.Minus ∷ []) (Token.Modulo ∷ []) (e ∷ d) (rw k at h) ]

-- ---- signs and filters

plain_arguments : (counts : Counts) (c a b : List ℕ) (e : ℕ) (d : List ℕ) → ((x : List ℕ) → spaces (c ++ x) ≡ e ∷ (d ++ x))
    → Agree {A = List Expr} Nothing a b (cond (counts.least == 0) (Ok ([], spaces (c ++ a))) (stop tt (spaces (c ++ a)))) (cond (counts.least == 0) (Ok ([], spaces (c ++ b))) (stop tt (spaces (c ++ b))))
plain_arguments counts c a b e d s = elim (chosen_is (counts.least == 0)) [
  | inl h ↦ rw h (same [] (e ∷ d) (ap (λ (z : List ℕ). Ok ([], z)) (s a)) (ap (λ (z : List ℕ). Ok ([], z)) (s b)))
  | inr h ↦ rw h (fails _ refl)
]

arguments_skip : (inner : Option Inner) (counts : Counts) → Skips (filter_arguments inner counts)
unfolding filter_arguments
arguments_skip inner counts t = rw (spaces_twice t) refl

filter_arguments_cut : (inner : Option Inner) → IsCut inner → (counts : Counts) → Local Nothing (filter_arguments inner counts)
unfolding filter_arguments
filter_arguments_cut inner k counts c a b = elim (chosen_is (counts.least == 0 || is_some inner)) [
  | inl t ↦ elim (looks Token.OpenGroup c) [
    | nothing s ↦ late (beyond (all_blank (filter_arguments inner counts) (arguments_skip inner counts) (filter_arguments_keeps inner (opens_of inner k) counts) c a (s a)))
    | partly e d s q ↦ not_sharp Token.OpenGroup (sharp_of Token.OpenGroup 40 refl refl) e d q
    | there u n p ↦ rw (t, n a, n b) (agree_is (ap (arguments inner Token.CloseGroup counts) (p a)) (ap (arguments inner Token.CloseGroup counts) (p b)) (arguments_cut inner k Token.CloseGroup (sharp_of Token.CloseGroup 41 refl refl) refl counts u a b))
    | other e d s n ↦ rw (t, n a, n b) (plain_arguments counts c a b e d s)
  ]
  | inr t ↦ elim (split c) [
    | blank s ↦ late (beyond (all_blank (filter_arguments inner counts) (arguments_skip inner counts) (filter_arguments_keeps inner (opens_of inner k) counts) c a (s a)))
    | shown e d s ↦ rw t (plain_arguments counts c a b e d s)
  ]
]

filter_skips : (n : ℕ) (inner : Option Inner) (base : Expr) → Skips (filter_turns (suc n) inner base)
unfolding filter_turns
filter_skips n inner base t = rw (spaces_twice t) refl

abbrev applied : Expr → Filter → List Expr → Expr
applied base filter args = Expr.Filter (filter_row filter).number base args

abbrev with_filter : ℕ → Option Inner → Expr → Filter × List ℕ → Read Expr
with_filter n inner base filter = filter_arguments inner (filter_row filter.0).counts filter.1 >>= λ args. filter_turns n inner (applied base filter.0 args.0) args.1

with_filter_keeps : (n : ℕ) (inner : Option Inner) → IsOpen inner → (base : Expr) (filter : Filter) → Keeps (λ t. with_filter n inner base (filter, t))
with_filter_keeps n inner h base filter m t le = bind (filter_arguments_keeps inner h (filter_row filter).counts m t le) (λ args k. filter_turns_keeps n inner h (applied base filter args.0) m args.1 k)

filter_turns_cut : (n m : ℕ) (inner : Option Inner) → IsCut inner → (base : Expr) (c a b : List ℕ) → length (c ++ a) < n → Agree Nothing a b (filter_turns n inner base (c ++ a)) (filter_turns m inner base (c ++ b))
unfolding filter_turns
filter_turns_cut zero m inner k base c a b lt = absurd (omega arith)
filter_turns_cut (suc n) zero inner k base c a b lt = fails _ refl
filter_turns_cut (suc n) (suc m) inner k base c a b lt = elim (looks Token.Bar c) [
  | nothing s ↦ late (beyond (all_blank (filter_turns (suc n) inner base) (filter_skips n inner base) (filter_turns_keeps (suc n) inner (opens_of inner k) base) c a (s a)))
  | partly e d s q ↦ not_sharp Token.Bar (sharp_of Token.Bar 124 refl refl) e d q
  | there u n' p ↦
      let open' : Bool = is_some inner in
      rw (n' a, n' b) (agree_is (ap (λ (z : List ℕ). filter_name (is_some inner) z >>= λ filter. with_filter n inner base filter) (p a)) (ap (λ (z : List ℕ). filter_name (is_some inner) z >>= λ filter. with_filter m inner base filter) (p b))
      (agree_bind Nothing Nothing a b (λ filter. with_filter n inner base filter) (λ filter. with_filter m inner base filter) (filter_name (is_some inner) (u ++ a)) (filter_name (is_some inner) (u ++ b))
      (with_filter_keeps n inner (opens_of inner k) base) (λ x rest d at q. absurd q)
      (λ f d is.
      agree_bind Nothing Nothing a b (λ args. filter_turns n inner (applied base f args.0) args.1) (λ args. filter_turns m inner (applied base f args.0) args.1)
      (filter_arguments inner (filter_row f).counts (d ++ a)) (filter_arguments inner (filter_row f).counts (d ++ b))
      (λ args. filter_turns_keeps n inner (opens_of inner k) (applied base f args)) (λ x rest v at q. absurd q)
      (λ args v is'. filter_turns_cut n m inner k (applied base f args) v a b (omega (arith, no_longer_than (filter_name (is_some inner)) (filter_name_keeps (is_some inner)) (u ++ a) f (d ++ a) is, no_longer_than (filter_arguments inner (filter_row f).counts) (filter_arguments_keeps inner (opens_of inner k) (filter_row f).counts) (d ++ a) args (v ++ a) is', sooner Token.Bar c u a (n' a) (p a), lt)))
      (filter_arguments_cut inner k (filter_row f).counts d a b))
      (filter_name_cut (is_some inner) u a b)))
  | other e d s n' ↦ rw (n' a, n' b) (same base (e ∷ d) (ap (λ (z : List ℕ). Ok (base, z)) (s a)) (ap (λ (z : List ℕ). Ok (base, z)) (s b)))
]

module _ (atoms : (inner : Option Inner) → IsCut inner → Local Dotted (atom inner)) where
  pub reached_cut : (inner : Option Inner) → IsCut inner → Local Nothing (reached inner)
  unfolding reached
  reached_cut inner k c a b =
      agree_bind Dotted Nothing a b (λ base. part_turns (suc (length base.1)) inner base.0 base.1) (λ base. part_turns (suc (length base.1)) inner base.0 base.1) (atom inner (c ++ a)) (atom inner (c ++ b))
      (λ x m t. part_turns_keeps (suc (length t)) inner (opens_of inner k) x m t)
      (λ x rest d at dot. beyond (dot_late (length rest) inner (opens_of inner k) x rest a (at ∙ ap (λ (z : List ℕ). z ++ a) dot)))
      (λ x d is. part_turns_cut (suc (length (d ++ a))) (suc (length (d ++ b))) inner k x d a b (omega arith)) (atoms inner k c a b)

  signed_skips : (inner : Option Inner) → Skips (signed inner)
  unfolding signed
  signed_skips None t = rw (spaces_twice t) refl
  signed_skips (Some inner) t = rw (spaces_twice t) refl

  pub signed_cut : (inner : Option Inner) → IsCut inner → Local Nothing (signed inner)
  unfolding signed
  signed_cut None k c a b = elim (split c) [
    | blank s ↦ late (beyond (all_blank (signed None) (signed_skips None) (signed_keeps None tt) c a (s a)))
    | shown e d s ↦ agree_is (ap (reached None) (s a)) (ap (reached None) (s b)) (reached_cut None tt (e ∷ d) a b)
  ]
  signed_cut (Some inner) k c a b = elim (split c) [
    | blank s ↦ late (beyond (all_blank (signed (Some inner)) (signed_skips (Some inner)) (signed_keeps (Some inner) k.opens) c a (s a)))
    | shown e d s ↦ elim (chosen_is (e == 45)) [
      | inl h ↦ rw (s a, s b, h) (agree_plain Nothing a b Expr.Negate (inner.signed (d ++ a)) (inner.signed (d ++ b)) (k.signed d a b))
      | inr h ↦ rw (s a, s b, h) (reached_cut (Some inner) k (e ∷ d) a b)
    ]
  ]

  filtered_cut : (inner : Option Inner) → IsCut inner → Local Nothing (filtered inner)
  unfolding filtered
  filtered_cut inner k c a b =
      agree_bind Nothing Nothing a b (λ base. filter_turns (suc (length base.1)) inner base.0 base.1) (λ base. filter_turns (suc (length base.1)) inner base.0 base.1) (signed inner (c ++ a)) (signed inner (c ++ b))
      (λ x m t. filter_turns_keeps (suc (length t)) inner (opens_of inner k) x m t) (λ x rest d at q. absurd q)
      (λ x d is. filter_turns_cut (suc (length (d ++ a))) (suc (length (d ++ b))) inner k x d a b (omega arith)) (signed_cut inner k c a b)

  factor_cut : (inner : Option Inner) → IsCut inner → Local Signs (operand Level.Product inner)
  factor_cut inner k c a b = agree_plain Signs a b (λ e. ending e Last.Operand) (filtered inner (c ++ a)) (filtered inner (c ++ b)) (filtered_cut inner k c a b)

  product_cut : (inner : Option Inner) → IsCut inner → Local Signs (product inner)
  unfolding product
  product_cut inner k = chain_cut Signs (λ op left right d h. h) signs_every (operators Level.Product) (operand Level.Product inner) (factor_keeps inner (opens_of inner k)) (factor_cut inner k) refl refl product_ahead

  joined_cut : (inner : Option Inner) → IsCut inner → Local Signs (joined inner)
  unfolding joined
  joined_cut inner k = chain_cut Signs (λ op left right d h. h) signs_every (operators Level.Join) (product inner) (product_keeps inner (opens_of inner k)) (product_cut inner k) refl refl joined_ahead

  pub sum_cut : (inner : Option Inner) → IsCut inner → Local Signs (sum inner)
  unfolding sum
  sum_cut inner k = chain_cut Signs (λ op left right d h. h) signs_every (operators Level.Sum) (joined inner) (joined_keeps inner (opens_of inner k)) (joined_cut inner k) refl refl sum_ahead

-- a sum ends with an operand
pub sum_ends : (inner : Option Inner) (t : List ℕ) (x : Part) (rest : List ℕ) → sum inner t ≡ Ok (x, rest) → x.last ≡ Last.Operand
unfolding sum joined product
sum_ends inner = chain_ends (λ last. last ≡ Last.Operand) (operators Level.Sum) (joined inner) (chain_ends (λ last. last ≡ Last.Operand) (operators Level.Join) (product inner) (chain_ends (λ last. last ≡ Last.Operand) (operators Level.Product) (operand Level.Product inner) factor_ends)) where
  factor_ends : (t : List ℕ) (x : Part) (rest : List ℕ) → operand Level.Product inner t ≡ Ok (x, rest) → x.last ≡ Last.Operand
  factor_ends t x rest e = let m = made_ok (λ e. ending e Last.Operand) (filtered inner t) x rest e in ap (λ (p : Part). p.last) (sym m.2)
