-- Keys and places, signs, and operators of one level.
use Rattle.std.proofs.Common.{◌≡◌, ℕ, zero, suc, ◌<◌, true, ◌⊎◌, inl, inr, List, [], ◌∷◌, ◌++◌, length, drop, Option, Some, None, refl, sym, ap, ◌∙◌, subst, arith, append_assoc}
use Rattle.ha_value.specs.declared.value.Value.{Value}
use Rattle.ha_config.specs.declared.template.Op.{Op}
use Rattle.ha_config.specs.declared.template.Expr.{Expr}
use Rattle.ha_config.specs.declared.template.Expr
use Rattle.reading.specs.Answer.{◌>>=◌}
use Rattle.reading.specs.Bytes.{sees}
use Rattle.reading.proofs.Basics.{chosen as chosen_of, chosen_is}
use Rattle.reading.proofs.Bytes.{sees_front}
use Rattle.tpl_parse.specs.declared.token.Token.{Token}
use Rattle.tpl_parse.specs.declared.expression.Last.{Last}
use Rattle.tpl_parse.specs.declared.expression.Level.{Level}
use Rattle.tpl_parse.specs.declared.expression.Part.{Part}
use Rattle.tpl_parse.specs.Token.{Reads, spaces, next_is, past, text_of}
use Rattle.tpl_parse.specs.Literal.{name}
use Rattle.tpl_parse.specs.Reading.{Inner, operators, operator, part_of, pair, enclosed, at_place, part_turns, reached, atom, signed, after_operator, operand_turns, chain}
use Rattle.tpl_parse.specs.Grammar.{Takes, Joins, or, and, plus, minus, join, times, over, floor, modulo, an_atom, with_sign, with_parts, more_parts, operands, more_operands, operand_of, Is, chain as chain_is, no_operand, one_operand, negative, unsigned, asked, no_part, one_key, one_place}
use Rattle.tpl_parse.proofs.Tokens.{spaces_twice}
use Rattle.tpl_parse.proofs.Next.{Alike, past_shorter, spaces_within}
use Rattle.tpl_laws.proofs.Likes.{Like}
use Rattle.tpl_laws.proofs.Outcomes.{Gave, Still, tail_of, Grown, Out, like_put, out_bind, out_after, open_as, open_put, out_made, out_put}
use Rattle.tpl_laws.proofs.Tokens.{blanks_of, takes_at, took_token}
use Rattle.tpl_laws.proofs.Lexical.{Named, name_out}
use Rattle.tpl_laws.proofs.Depths.{Deep, deepest, deeper, Parted, PartOut, ExprOut, Enclosed, encloses, enclosed_out, empty_operand, left_shorter}
use Rattle.tpl_laws.proofs.Atoms.{atom_out}

-- where nothing more is read, the phrase ends
pub ended : {A : Type 0} {P : List ℕ → A → List ℕ → Type 0} {u left : List ℕ} (x : A) → Alike u left → ((o : List ℕ) → P o x o) → Grown Still P u x left
ended {u = u} x alike is = record { before = []; rest = u; parts = refl; alike = alike; again = λ o l. is o; goes = λ token k. absurd k }

-- two parts, one behind the other
pub behind_parts : {u v : List ℕ} (b c rest : List ℕ) → u ≡ b ++ v → v ≡ c ++ rest → u ≡ (b ++ c) ++ rest
behind_parts b c rest e f = e ∙ ap (λ (v : List ℕ). b ++ v) f ∙ sym (append_assoc b c rest)

-- ---- keys and places

module _ {d : ℕ} {o : Option Inner} (deep : Deep d o) where
  abbrev AllParts : ℕ → Type 0
  AllParts n = (base : Expr) (t u : List ℕ) → Alike u t → length (spaces t) < n → Out Still (Is (more_parts base) d) u (part_turns n o base t)

  key_out : (n : ℕ) (base : Expr) (t u : List ℕ) → Alike u t → length (spaces t) < suc n → AllParts n → next_is Token.Dot t ≡ true
      → Out Still (Is (more_parts base) d) u (name (past Token.Dot t) >>= λ key. part_turns n o (Expr.Field base key.0) key.1)
  key_out n base t u alike lt again h =
      let k = took_token Token.Dot t u alike h in
      let v : List ℕ = past Token.Dot t in
      out_after Still Named Still (Is (more_parts base) d) u v (λ key. part_turns n o (Expr.Field base key.0) key.1) (name v)
      (λ x left is g.
      out_put Still (Is (more_parts (Expr.Field base x)) d) Still (Is (more_parts base) d) u (k.before ++ g.before) g.rest (behind_parts k.before g.before g.rest k.parts g.parts)
      (λ p r e l is.
      subst (λ (w : List ℕ). Is (more_parts base) d w e r) (sym (append_assoc k.before g.before p)) (one_key (k.again (g.before ++ p) (like_put g.before g.parts l)) (g.again p l) is))
      (λ y token m. m) (part_turns n o (Expr.Field base x) left)
      (again (Expr.Field base x) left g.rest g.alike (omega (arith, left_shorter g, spaces_within v, past_shorter Token.Dot t h, lt))))
      (λ f q. open_put Still Named Still (Is (more_parts base) d) u k.before v k.parts (λ p q x l is. (Expr.Field base x, one_key (k.again p l) is no_part)) f q)
      (name_out v v refl)

place_out : {d : ℕ} {o : Option Inner} (deep : Deep d o) (n : ℕ) (base : Expr) (t u : List ℕ) → Alike u t → length (spaces t) < suc n → AllParts deep n → Out Still (Is (more_parts base) d) u (at_place o (part_turns n o) base (spaces t))
place_out deepest n base t u alike lt again = ended base (alike ∙ sym (spaces_twice t) ∙ sym (spaces_twice (spaces t))) (λ p. no_part)
place_out (deeper {d = d} {inner = inner} sound) n base t u alike lt again = elim (chosen_is (next_is Token.OpenList (spaces t))) [
  | inr h ↦ rw h (ended base (alike ∙ sym (spaces_twice t) ∙ sym (spaces_twice (spaces t))) (λ p. no_part))
  | inl h ↦ rw h (index_out h)
] where
  placed : (b p r : List ℕ) (index e : Expr) → ((a : List ℕ) → Like (past Token.OpenList (spaces t)) a → Takes Token.OpenList (b ++ a) a) → (a : List ℕ) → Like (past Token.OpenList (spaces t)) a → Enclosed d Token.CloseList a index p
      → Is (more_parts (Expr.At base index)) (suc d) p e r → Is (more_parts base) (suc d) (b ++ a) e r
  placed b p r index e opens a l (encloses is end) more = one_place (opens a l) is end more

  index_out : next_is Token.OpenList (spaces t) ≡ true → Out Still (Is (more_parts base) (suc d)) u (enclosed inner Token.CloseList (past Token.OpenList (spaces t)) >>= λ index. part_turns n (Some inner) (Expr.At base index.0) index.1)
  index_out h =
      let k = took_token Token.OpenList (spaces t) u (alike ∙ sym (spaces_twice t)) h in
      let v : List ℕ = past Token.OpenList (spaces t) in
      out_after Still (Enclosed d Token.CloseList) Still (Is (more_parts base) (suc d)) u v (λ index. part_turns n (Some inner) (Expr.At base index.0) index.1) (enclosed inner Token.CloseList v)
      (λ x left is g.
      out_put Still (Is (more_parts (Expr.At base x)) (suc d)) Still (Is (more_parts base) (suc d)) u (k.before ++ g.before) g.rest (behind_parts k.before g.before g.rest k.parts g.parts)
      (λ p r e l is.
      subst (λ (w : List ℕ). Is (more_parts base) (suc d) w e r) (sym (append_assoc k.before g.before p)) (placed k.before p r x e k.again (g.before ++ p) (like_put g.before g.parts l) (g.again p l) is))
      (λ y token m. m) (part_turns n (Some inner) (Expr.At base x) left)
      (again (Expr.At base x) left g.rest g.alike (omega (arith, left_shorter g, spaces_within v, past_shorter Token.OpenList (spaces t) h, ap length (spaces_twice t), lt))))
      (λ f q. open_put Still (Enclosed d Token.CloseList) Still (Is (more_parts base) (suc d)) u k.before v k.parts (λ p q x l is. (Expr.At base x, placed k.before (32 ∷ q) (32 ∷ q) x (Expr.At base x) k.again p l is no_part)) f q)
      (enclosed_out sound Token.CloseList v v refl)

module _ {d : ℕ} {o : Option Inner} (deep : Deep d o) where
  parts_out : (n : ℕ) → AllParts deep n
  unfolding part_turns
  parts_out zero base t u alike lt = absurd (omega arith)
  parts_out (suc n) base t u alike lt = elim (chosen_is (next_is Token.Dot t)) [
    | inl h ↦ rw h (key_out deep n base t u alike lt (parts_out n) h)
    | inr h ↦ rw h (place_out deep n base t u alike lt (parts_out n))
  ]

  reached_out : ExprOut with_parts d (reached o)
  unfolding reached
  reached_out t u alike =
      out_bind Still (Is an_atom d) Still (Is with_parts d) u (λ base. part_turns (suc (length base.1)) o base.0 base.1) (atom o t)
      (λ x left is g.
      out_put Still (Is (more_parts x) d) Still (Is with_parts d) u g.before g.rest g.parts (λ p r e l is. asked (g.again p l) is) (λ y token m. m)
      (part_turns (suc (length left)) o x left) (parts_out (suc (length left)) x left g.rest g.alike (omega (arith, spaces_within left))))
      (λ f h. open_as Still (Is an_atom d) Still (Is with_parts d) u (λ p q x is. (x, asked is no_part)) f h)
      (atom_out deep t u alike)

  unsigned_out : (t u : List ℕ) → Alike u t → Out Still (Is with_sign d) u (reached o (spaces t))
  unsigned_out t u alike =
      out_put Still (Is with_parts d) Still (Is with_sign d) u [] u refl (λ p r e l is. unsigned is) (λ y token m. m) (reached o (spaces t)) (reached_out (spaces t) u (alike ∙ sym (spaces_twice t)))

sign_shown : (b o : List ℕ) → ((p : List ℕ) → spaces (b ++ p) ≡ spaces p) → spaces ((b ++ 45 ∷ []) ++ o) ≡ 45 ∷ o
unfolding spaces
sign_shown b o gone = ap spaces (append_assoc b (45 ∷ []) o) ∙ gone (45 ∷ o)

pub signed_out : {d : ℕ} {o : Option Inner} → Deep d o → ExprOut with_sign d (signed o)
unfolding signed
signed_out deepest t u alike = unsigned_out deepest t u alike
signed_out (deeper {d = d} {inner = inner} sound) t u alike = elim (chosen_is (sees 45 (spaces t))) [
  | inr h ↦ rw h (unsigned_out (deeper sound) t u alike)
  | inl h ↦
      let b = blanks_of u in
      let v : List ℕ = drop 1 (spaces t) in
      let parts : u ≡ (b.blanks ++ 45 ∷ []) ++ v = b.parts ∙ ap (λ (w : List ℕ). b.blanks ++ w) (alike ∙ sees_front 45 (spaces t) h) ∙ sym (append_assoc b.blanks (45 ∷ []) v) in
      rw h (out_made Still (Is with_sign d) Still (Is with_sign (suc d)) u (b.blanks ++ 45 ∷ []) v parts Expr.Negate
      (λ p r e l is. negative (sign_shown b.blanks p b.gone) is) (λ y token m. m) (inner.signed v) (sound.signed v v refl))
]

-- ---- operators

abbrev pub Row : Type 0
Row = Token × Op

abbrev pub AllRows : (Token → Op → Type 0) → List Row → Type 0
AllRows P [] = Unit {0}
AllRows P (row ∷ rows) = P row.0 row.1 × AllRows P rows

some_is : (x y : Row) → Some x ≡ Some y → x ≡ y
some_is x y e = cc

-- an operator that was found stands next and is one of the rows
pub row_found : (P : Token → Op → Type 0) (rows : List Row) (t : List ℕ) (row : Row) → AllRows P rows → operator rows t ≡ Some row → P row.0 row.1 × (next_is row.0 t ≡ true)
row_found P [] t row all e = absurd cc
row_found P (r ∷ rows) t row all e = elim (chosen_of (next_is r.0 t) (Some r) (operator rows t) (Some row) e) [
  | inl h ↦ (let same = some_is r row h.1 in (subst (λ (x : Row). P x.0 x.1) same all.0, ap (λ (x : Row). next_is x.0 t) (sym same) ∙ h.0))
  | inr h ↦ row_found P rows t row all.1 h.1
]

all_join : (level : Level) → AllRows (Joins level) (operators level)
all_join Level.Or = (or, tt)
all_join Level.And = (and, tt)
all_join Level.Sum = (plus, (minus, tt))
all_join Level.Join = (join, tt)
all_join Level.Product = (times, (over, (floor, (modulo, tt))))

abbrev pub plain_part : Expr → Part
plain_part e = part_of e Last.Operand None

module _ (level : Level) (d : ℕ) (rule : Reads Part) (L M : Last → Token → Type 0) (sound : PartOut (operand_of level) (λ x. L x.last) d rule)
    (split : (last : Last) (token : Token) → M last token → L last token ⊎ ((op : Op) × Joins level token op × (tail_of token ≡ 39 ∷ 39 ∷ []))) where
  -- what was read so far, up to the last operand
  record SoFar (whole : List ℕ) (part : Part) (u : List ℕ) : Type 0 where
    b : List ℕ
    parts : whole ≡ b ++ u
    put : (o r : List ℕ) (e : Expr) → Like u o → Is (more_operands level part.expr) d o e r → Is (operands level) d (b ++ o) e r
    goes : (token : Token) → L part.last token → (o q : List ℕ) → Like u o → spaces o ≡ text_of token ++ 32 ∷ (tail_of token ++ 32 ∷ q) → (y : Expr) × Is (operands level) d (b ++ o) y (32 ∷ q)

  no_more : (whole : List ℕ) (part : Part) (u left : List ℕ) → SoFar whole part u → Alike u left → Grown (λ x. M x.last) (Parted (operands level) d) whole part left
  no_more whole part u left f alike = record {
    before = f.b;
    rest = u;
    parts = f.parts;
    alike = alike;
    again = λ o l. f.put o o part.expr l no_operand;
    goes = λ token m o q l at. elim (split part.last token m) [
      | inl k ↦ (let s = f.goes token k o q l at in (plain_part s.0, s.1))
      | inr j ↦
          let right : Is (operand_of level) d (32 ∷ (tail_of token ++ 32 ∷ q)) (Expr.Plain (Value.Text [])) (32 ∷ q) = subst (λ (w : List ℕ). Is (operand_of level) d (32 ∷ (w ++ 32 ∷ q)) (Expr.Plain (Value.Text [])) (32 ∷ q)) (sym j.2) (empty_operand level d q) in
          (plain_part (Expr.Pair j.0 part.expr (Expr.Plain (Value.Text []))), f.put o (32 ∷ q) (Expr.Pair j.0 part.expr (Expr.Plain (Value.Text []))) l (one_operand j.1 (takes_at token o (tail_of token ++ 32 ∷ q) at) right no_operand))
    ];
  }

  abbrev turns : ℕ → Part → List ℕ → Gave Part
  turns n part t = operand_turns n (operators level) rule part t

  module _ (n : ℕ) (again : (whole : List ℕ) (part : Part) (t u : List ℕ) → Alike u t → length (spaces t) < n → SoFar whole part u → Out (λ x. M x.last) (Parted (operands level) d) whole (turns n part t)) where
    one_more : (whole : List ℕ) (part : Part) (t u : List ℕ) → Alike u t → length (spaces t) < suc n → SoFar whole part u → (row : Row) → Joins level row.0 row.1 → next_is row.0 t ≡ true
        → Out (λ x. M x.last) (Parted (operands level) d) whole (rule (past row.0 t) >>= λ right. turns n (pair row.1 part right.0) right.1)
    one_more whole part t u alike lt f row joins h =
        let k = took_token row.0 t u alike h in
        let v : List ℕ = past row.0 t in
        let to_v : whole ≡ (f.b ++ k.before) ++ v = behind_parts f.b k.before v f.parts k.parts in
        out_after (λ x. L x.last) (Parted (operand_of level) d) (λ x. M x.last) (Parted (operands level) d) whole v (λ right. turns n (pair row.1 part right.0) right.1) (rule v)
        (λ x left is g. again whole (pair row.1 part x) left g.rest g.alike (omega (arith, left_shorter g, spaces_within v, past_shorter row.0 t h, lt)) (record {
          b = (f.b ++ k.before) ++ g.before;
          parts = behind_parts (f.b ++ k.before) g.before g.rest to_v g.parts;
          put = λ o r e l is'.
              subst (λ (w : List ℕ). Is (operands level) d w e r) (sym (append_assoc (f.b ++ k.before) g.before o ∙ append_assoc f.b k.before (g.before ++ o)))
              (f.put (k.before ++ (g.before ++ o)) r e (like_put k.before k.parts (like_put g.before g.parts l)) (one_operand joins (k.again (g.before ++ o) (like_put g.before g.parts l)) (g.again o l) is'));
          goes = λ token m o q l at.
              let s = g.goes token m o q l at in
              let e : Expr = Expr.Pair row.1 part.expr s.0.expr in (
                e,
                subst (λ (w : List ℕ). Is (operands level) d w e (32 ∷ q)) (sym (append_assoc (f.b ++ k.before) g.before o ∙ append_assoc f.b k.before (g.before ++ o)))
                    (f.put (k.before ++ (g.before ++ o)) (32 ∷ q) e (like_put k.before k.parts (like_put g.before g.parts l)) (one_operand joins (k.again (g.before ++ o) (like_put g.before g.parts l)) s.1 no_operand)),
              );
        }))
        (λ fault h'. open_put (λ x. L x.last) (Parted (operand_of level) d) (λ x. M x.last) (Parted (operands level) d) whole (f.b ++ k.before) v to_v
        (λ o q x l is'.
        let e : Expr = Expr.Pair row.1 part.expr x.expr in
        (plain_part e, subst (λ (w : List ℕ). Is (operands level) d w e (32 ∷ q)) (sym (append_assoc f.b k.before o)) (f.put (k.before ++ o) (32 ∷ q) e (like_put k.before k.parts l) (one_operand joins (k.again o l) is' no_operand))))
        fault h')
        (sound v v refl)

    turn_by : (whole : List ℕ) (part : Part) (t u : List ℕ) → Alike u t → length (spaces t) < suc n → SoFar whole part u → (o : Option Row) → operator (operators level) t ≡ o
        → Out (λ x. M x.last) (Parted (operands level) d) whole (after_operator o rule (turns n) part t)
    turn_by whole part t u alike lt f None is = no_more whole part u (spaces t) f (alike ∙ sym (spaces_twice t))
    turn_by whole part t u alike lt f (Some row) is = let r = row_found (Joins level) (operators level) t row (all_join level) is in one_more whole part t u alike lt f row r.0 r.1

  turns_out : (n : ℕ) (whole : List ℕ) (part : Part) (t u : List ℕ) → Alike u t → length (spaces t) < n → SoFar whole part u → Out (λ x. M x.last) (Parted (operands level) d) whole (turns n part t)
  unfolding operand_turns
  turns_out zero whole part t u alike lt f = absurd (omega arith)
  turns_out (suc n) whole part t u alike lt f = turn_by n (turns_out n) whole part t u alike lt f (operator (operators level) t) refl

  pub chain_out : PartOut (operands level) (λ x. M x.last) d (chain (operators level) rule)
  unfolding chain
  chain_out t u alike =
      out_bind (λ x. L x.last) (Parted (operand_of level) d) (λ x. M x.last) (Parted (operands level) d) u (λ first. operand_turns (suc (length first.1)) (operators level) rule first.0 first.1) (rule t)
      (λ x left is g. turns_out (suc (length left)) u x left g.rest g.alike (omega (arith, spaces_within left)) (record {
        b = g.before;
        parts = g.parts;
        put = λ o r e l is'. chain_is (g.again o l) is';
        goes = λ token m o q l at. (let s = g.goes token m o q l at in (s.0.expr, chain_is s.1 no_operand));
      }))
      (λ f h. open_as (λ x. L x.last) (Parted (operand_of level) d) (λ x. M x.last) (Parted (operands level) d) u (λ o q x is'. (x, chain_is is' no_operand)) f h)
      (sound t u alike)
