-- Chains of operands, filters, keys, places and signs in the grammar are read.
use Rattle.std.proofs.Common.{◌≡◌, ℕ, suc, zero, ◌≤◌, ◌<◌, Bool, true, false, List, [], ◌∷◌, length, Option, Some, None, Ok, refl, ap, ◌∙◌, arith}
use Rattle.std.specs.Prelude.{◌==◌, ◌||◌, ◌&&◌, nat_le, is_some}
use Rattle.std.proofs.lemmas.Bool.{cond-true, and_parts, leb-true, eq-eqb}
use Rattle.ha_config.specs.declared.template.Op.{Op}
use Rattle.ha_config.specs.declared.template.Expr.{Expr}
use Rattle.ha_config.specs.declared.template.Expr
use Rattle.reading.specs.Answer.{◌>>=◌, Answer}
use Rattle.reading.specs.Bytes.{sees}
use Rattle.reading.proofs.Basics.{made_ok}
use Rattle.tpl_parse.specs.declared.token.Token.{Token}
use Rattle.tpl_parse.specs.declared.table.Counts.{Counts}
use Rattle.tpl_parse.specs.declared.table.Filter.{Filter}
use Rattle.tpl_parse.specs.declared.expression.Level.{Level}
use Rattle.tpl_parse.specs.declared.expression.Part.{Part}
use Rattle.tpl_parse.specs.Token.{spaces, next_is}
use Rattle.tpl_parse.specs.Names.{filter_row, filter_named, may_stand}
use Rattle.tpl_parse.specs.Literal.{filter_or, filter_name, standing as standing_there, name}
use Rattle.tpl_parse.specs.Reading.{operators, operator, after_operator, operand_turns, chain, operand, opened, inside, expression, pair, enclosed, arguments, filter_arguments, filter_turns, filtered, signed, reached, atom, part_turns}
use Rattle.tpl_parse.specs.Grammar.{Takes, Joins, or, and, plus, minus, join, times, over, floor, modulo, IsWord, IsName, Holder, of_filter, allows, counts_of, is_within, more_operands, more_filters, more_parts, in_brackets, Is, no_items, some_items}
use Rattle.tpl_parse.proofs.Tokens.{spaces_twice}
use Rattle.tpl_parse.proofs.Apart.{Quiet, not_at}
use Rattle.tpl_parse.proofs.Next.{Fault, Alike, taken, not_next, quiet_alike, spaces_within}
use Rattle.tpl_parse.proofs.Runs.{word_read, name_read}
use Rattle.tpl_parse.proofs.Continues.{behind_level, behind_filters, behind_parts, Given, GivenPart, Read, Reads as ReadsAll}
use Rattle.tpl_parse.proofs.OnlyChains.{Row, NoneNext, find_row, find_none}

-- ---- operands

quiet_level : (level : Level) (t : List ℕ) → Quiet (behind_level level) t → NoneNext (operators level) t
quiet_level Level.Or t q = (q.0, tt)
quiet_level Level.And t q = (q.0, tt)
quiet_level Level.Sum t q = (q.0, (q.1.0, tt))
quiet_level Level.Join t q = (q.0, tt)
quiet_level Level.Product t q = (q.0, (q.1.0, (q.1.1.0, (q.1.1.1.0, tt))))

standing : {level : Level} {token : Token} {op : Op} → Joins level token op → (t : List ℕ) → next_is token t ≡ true → operator (operators level) t ≡ Some (token, op)
standing or t h = find_row Token.Or Op.Or [] [] t tt h
standing and t h = find_row Token.And Op.And [] [] t tt h
standing plus t h = find_row Token.Plus Op.Plus [] ((Token.Minus, Op.Minus) ∷ []) t tt h
standing minus t h = find_row Token.Minus Op.Minus ((Token.Plus, Op.Plus) ∷ []) [] t (refl, tt) h
standing join t h = find_row Token.Join Op.Join [] [] t tt h
standing times t h = find_row Token.Times Op.Times [] ((Token.Over, Op.Over) ∷ (Token.Floor, Op.Floor) ∷ (Token.Modulo, Op.Modulo) ∷ []) t tt h
standing over t h = find_row Token.Over Op.Over ((Token.Times, Op.Times) ∷ []) ((Token.Floor, Op.Floor) ∷ (Token.Modulo, Op.Modulo) ∷ []) t (refl, tt) h
standing floor t h = find_row Token.Floor Op.Floor ((Token.Times, Op.Times) ∷ (Token.Over, Op.Over) ∷ []) ((Token.Modulo, Op.Modulo) ∷ []) t (refl, (refl, tt)) h
standing modulo t h = find_row Token.Modulo Op.Modulo ((Token.Times, Op.Times) ∷ (Token.Over, Op.Over) ∷ (Token.Floor, Op.Floor) ∷ []) [] t (refl, (refl, (refl, tt))) h

pub chain_read : (level : Level) (d : ℕ) (t : List ℕ) {left e : Expr} {a rest : List ℕ}
    → GivenPart (operand level (opened d) t) left a → ReadsAll (more_operands level left) d a e rest → Quiet (behind_level level) rest → GivenPart (chain (operators level) (operand level (opened d)) t) e rest
unfolding chain
chain_read level d t h r q =
    let m = r h.left h.alike q (suc (length h.left)) h.part (omega (arith, spaces_within h.left)) h.expr in
    record { part = m.part; left = m.left; is = rw h.is m.is; expr = m.expr; alike = m.alike }

module _ (level : Level) (d : ℕ) (t : List ℕ) where
  no_more : (left : Expr) (u : List ℕ) (n : ℕ) (part : Part) → Alike t u → Quiet (behind_level level) u → length (spaces t) < n → part.expr ≡ left → GivenPart (operand_turns n (operators level) (operand level (opened d)) part t) left u
  unfolding operand_turns
  no_more left u zero part alike q lt e = absurd (omega arith)
  no_more left u (suc n) part alike q lt e = record {
    part = part;
    left = spaces t;
    is = ap (λ (o : Option Row). after_operator o (operand level (opened d)) (operand_turns n (operators level) (operand level (opened d))) part t) (find_none (operators level) t (quiet_level level t (quiet_alike (behind_level level) t u alike q)));
    expr = e;
    alike = spaces_twice t ∙ alike;
  }

  one_more : {token : Token} {op : Op} {left right e : Expr} {u a b rest : List ℕ} (n : ℕ) (part : Part)
      → Joins level token op → Alike t u → Takes token u a → GivenPart (operand level (opened d) a) right b → length (spaces b) ≤ length (spaces a)
      → ReadsAll (more_operands level (Expr.Pair op left right)) d b e rest → Quiet (behind_level level) rest → length (spaces t) < n → part.expr ≡ left
      → GivenPart (operand_turns n (operators level) (operand level (opened d)) part t) e rest
  unfolding operand_turns
  one_more zero part j alike i g small r q lt is = absurd (omega arith)
  one_more {token} {op} {u = u} {a = a} {b = b} (suc n) part j alike i g small r q lt is =
      let k = taken {t = t} alike i in
      let m = r g.left g.alike q n (pair op part g.part) (omega (arith, ap length g.alike, small, k.less, ap length alike)) (λ i. Expr.Pair op (is i) (g.expr i)) in
      record {
        part = m.part;
        left = m.left;
        is = ap (λ (o : Option Row). after_operator o (operand level (opened d)) (operand_turns n (operators level) (operand level (opened d))) part t) (standing j t k.next)
            ∙ ap (λ (s : List ℕ). operand level (opened d) s >>= λ right. operand_turns n (operators level) (operand level (opened d)) (pair op part right.0) right.1) k.past_is
            ∙ ap (λ (w : Answer ℕ Fault Part). w >>= λ right. operand_turns n (operators level) (operand level (opened d)) (pair op part right.0) right.1) g.is
            ∙ m.is;
        expr = m.expr;
        alike = m.alike;
      }

pub no_operand_read : (level : Level) (d : ℕ) (t u : List ℕ) (left : Expr) → Alike t u → Quiet (behind_level level) u → Read (more_operands level left) d t left u
no_operand_read level d t u left alike q n part lt e = no_more level d t left u n part alike q lt e

pub one_operand_read : (level : Level) (d : ℕ) (t : List ℕ) {token : Token} {op : Op} {left right e : Expr} {u a b rest : List ℕ}
    → Joins level token op → Alike t u → Takes token u a → GivenPart (operand level (opened d) a) right b → length (spaces b) ≤ length (spaces a)
    → ReadsAll (more_operands level (Expr.Pair op left right)) d b e rest → Quiet (behind_level level) rest → Read (more_operands level left) d t e rest
one_operand_read level d t j alike i g small r q n part lt e = one_more level d t n part j alike i g small r q lt e

-- ---- filters

pub filter_name_read : (opens : Bool) (a : List ℕ) {w b : List ℕ} {filter : Filter} → IsWord (spaces a) w b → filter_named w ≡ Some filter → may_stand opens filter ≡ true → filter_name opens a ≡ Ok (filter, b)
unfolding filter_name
filter_name_read opens a {w} {b} {filter} run e may =
    let r = word_read run in
    ap (λ (o : Option Filter). filter_or opens (standing_there opens o) (spaces a)) (ap filter_named r.word_is ∙ e) ∙ ap (λ (o : Option Filter). filter_or opens o (spaces a)) (cond-true (may_stand opens filter) (Some filter) None may)
    ∙ ap (λ (s : List ℕ). Ok (filter, s)) r.left

pub and_false : (a b : Bool) → b ≡ false → (a && b) ≡ false
and_false true b h = h
and_false false b h = refl

pub and_true : (a b : Bool) → a ≡ true → b ≡ true → (a && b) ≡ true
and_true true b p q = q
and_true false b p q = absurd cc

pub or_some : (a b : Bool) → b ≡ true → (a || b) ≡ true
or_some true b h = refl
or_some false b h = h

pub or_first : (a b : Bool) → a ≡ true → (a || b) ≡ true
or_first true b h = refl
or_first false b h = absurd cc

pub none_least : (counts : Counts) → allows counts 0 ≡ true → (counts.least == 0) ≡ true
none_least counts h = let p = leb-true counts.least 0 (and_parts (nat_le counts.least 0) (is_within counts.most 0) h).0 in eq-eqb counts.least 0 (omega arith)

-- brackets may be opened here: they may be empty, or something more may be open
pub may_open : {holder : Holder} {d : ℕ} {t rest : List ℕ} {e : Expr} → Is (in_brackets holder) d t e rest → ((counts_of holder).least == 0 || is_some (opened d)) ≡ true
unfolding opened
may_open {holder} {d} (no_items k i) = or_first ((counts_of holder).least == 0) (is_some (opened d)) (none_least (counts_of holder) k)
may_open {holder} (some_items a) = or_some ((counts_of holder).least == 0) _ refl

pub filtered_read : (d : ℕ) (t : List ℕ) {base e : Expr} {a rest : List ℕ} → Given (signed (opened d) t) base a → ReadsAll (more_filters base) d a e rest → Quiet behind_filters rest → Given (filtered (opened d) t) e rest
unfolding filtered
filtered_read d t h r q =
    let m = r h.left h.alike q (suc (length h.left)) (omega (arith, spaces_within h.left)) in
    record { left = m.left; is = rw h.is m.is; alike = m.alike }

module _ (d : ℕ) (t : List ℕ) where
  no_filters : (base : Expr) (u : List ℕ) (n : ℕ) → Alike t u → Quiet behind_filters u → length (spaces t) < n → Given (filter_turns n (opened d) base t) base u
  unfolding filter_turns
  no_filters base u zero alike q lt = absurd (omega arith)
  no_filters base u (suc n) alike q lt = record { left = spaces t; is = rw (not_next Token.Bar t u alike q.0) refl; alike = spaces_twice t ∙ alike }

  bare : (base : Expr) {e : Expr} {u a w b rest : List ℕ} {filter : Filter} (n : ℕ)
      → Alike t u → Takes Token.Bar u a → IsWord (spaces a) w b → filter_named w ≡ Some filter → allows (filter_row filter).counts 0 ≡ true → Quiet behind_parts b
      → ReadsAll (more_filters (Expr.Filter (filter_row filter).number base [])) d b e rest → Quiet behind_filters rest → length (spaces t) < n → Given (filter_turns n (opened d) base t) e rest
  unfolding filter_turns filter_arguments
  bare base zero alike i run named few quiet r q lt = absurd (omega arith)
  bare base {e} {u} {a} {w} {b} {rest} {filter} (suc n) alike i run named few quiet r q lt =
      let k = taken {t = t} alike i in
      let none' : (((filter_row filter).counts.least == 0 || is_some (opened d)) && next_is Token.OpenGroup b) ≡ false = and_false ((filter_row filter).counts.least == 0 || is_some (opened d)) (next_is Token.OpenGroup b) quiet.1.1.0 in
      let small : length (spaces b) ≤ length (spaces a) = omega (arith, (word_read run).within, spaces_within b) in
      let m = r (spaces b) (spaces_twice b) q n (omega (arith, ap length (spaces_twice b), small, k.less, ap length alike)) in
      record { left = m.left; is = rw (k.rest_is, k.next, filter_name_read (is_some (opened d)) a run named (or_first ((filter_row filter).counts.least == 0) (is_some (opened d)) (none_least (filter_row filter).counts few)), none', none_least (filter_row filter).counts few) m.is; alike = m.alike }

  applied : (base : Expr) {made' e : Expr} {u a w b c c' rest : List ℕ} {filter : Filter} (n : ℕ)
      → Alike t u → Takes Token.Bar u a → IsWord (spaces a) w b → filter_named w ≡ Some filter → Takes Token.OpenGroup b c
      → ((filter_row filter).counts.least == 0 || is_some (opened d)) ≡ true → Read (in_brackets (of_filter filter base)) d c made' c' → length (spaces c') ≤ length (spaces c)
      → ReadsAll (more_filters made') d c' e rest → Quiet behind_filters rest → length (spaces t) < n → Given (filter_turns n (opened d) base t) e rest
  unfolding filter_turns filter_arguments
  applied base zero alike i run named j open' g small r q lt = absurd (omega arith)
  applied base {made'} {e} {u} {a} {w} {b} {c} {c'} {rest} {filter} (suc n) alike i run named j open' g small r q lt =
      let k = taken {t = t} alike i in
      let l = taken {t = b} refl j in
      let x = made_ok {F = Fault} (λ items. Expr.Filter (filter_row filter).number base items) (arguments (opened d) Token.CloseGroup (filter_row filter).counts c) made' g.left g.is in
      let both' : (((filter_row filter).counts.least == 0 || is_some (opened d)) && next_is Token.OpenGroup b) ≡ true = and_true ((filter_row filter).counts.least == 0 || is_some (opened d)) (next_is Token.OpenGroup b) open' l.next in
      let word_small : length (spaces b) ≤ length (spaces a) = omega (arith, (word_read run).within, spaces_within b) in
      let m = r g.left g.alike q n (omega (arith, ap length g.alike, small, l.less, word_small, k.less, ap length alike)) in
      record {
        left = m.left;
        is = rw (k.rest_is, k.next, filter_name_read (is_some (opened d)) a run named open', both', l.rest_is, x.1) (ap (λ (f : Expr). filter_turns n (opened d) f g.left) x.2 ∙ m.is);
        alike = m.alike;
      }

pub no_filter_read : (d : ℕ) (t u : List ℕ) (base : Expr) → Alike t u → Quiet behind_filters u → Read (more_filters base) d t base u
no_filter_read d t u base alike q n lt = no_filters d t base u n alike q lt

pub bare_filter_read : (d : ℕ) (t : List ℕ) (base : Expr) {e : Expr} {u a w b rest : List ℕ} {filter : Filter}
    → Alike t u → Takes Token.Bar u a → IsWord (spaces a) w b → filter_named w ≡ Some filter → allows (filter_row filter).counts 0 ≡ true → Quiet behind_parts b
    → ReadsAll (more_filters (Expr.Filter (filter_row filter).number base [])) d b e rest → Quiet behind_filters rest → Read (more_filters base) d t e rest
bare_filter_read d t base alike i run named few quiet r q n lt = bare d t base n alike i run named few quiet r q lt

pub one_filter_read : (d : ℕ) (t : List ℕ) (base : Expr) {made' e : Expr} {u a w b c c' rest : List ℕ} {filter : Filter}
    → Alike t u → Takes Token.Bar u a → IsWord (spaces a) w b → filter_named w ≡ Some filter → Takes Token.OpenGroup b c
    → ((filter_row filter).counts.least == 0 || is_some (opened d)) ≡ true → Read (in_brackets (of_filter filter base)) d c made' c' → length (spaces c') ≤ length (spaces c)
    → ReadsAll (more_filters made') d c' e rest → Quiet behind_filters rest → Read (more_filters base) d t e rest
one_filter_read d t base alike i run named j open' g small r q n lt = applied d t base n alike i run named j open' g small r q lt

-- ---- signs

pub negative_read : (d : ℕ) (t u : List ℕ) {e : Expr} {a rest : List ℕ} → Alike t u → spaces u ≡ 45 ∷ a → Given (signed (opened d) a) e rest → Given (signed (opened (suc d)) t) (Expr.Negate e) rest
unfolding signed opened
negative_read d t u {e} {a} alike at h = record { left = h.left; is = rw (alike ∙ at, h.is) refl; alike = h.alike }

pub unsigned_read : (d : ℕ) (t : List ℕ) {e : Expr} {rest : List ℕ} → sees 45 (spaces t) ≡ false → Given (reached (opened d) (spaces t)) e rest → Given (signed (opened d) t) e rest
unfolding signed opened
unsigned_read zero t no_minus h = h
unsigned_read (suc d) t no_minus h = record { left = h.left; is = rw no_minus h.is; alike = h.alike }

-- ---- keys and places

pub enclosed_read : (d : ℕ) (close : Token) (a : List ℕ) {b c : List ℕ} {e : Expr} → GivenPart (expression (opened d) a) e b → Takes close b c → enclosed (inside (opened d)) close a ≡ Ok (e, c)
unfolding enclosed
enclosed_read d close a {c = c} h i = let k = taken {t = h.left} h.alike i in rw (h.is, k.rest_is, k.next) (ap (λ (x : Expr). Ok (x, c)) h.expr)

pub reached_read : (d : ℕ) (t : List ℕ) {base e : Expr} {a rest : List ℕ} → Given (atom (opened d) t) base a → ReadsAll (more_parts base) d a e rest → Quiet behind_parts rest → Given (reached (opened d) t) e rest
unfolding reached
reached_read d t h r q =
    let m = r h.left h.alike q (suc (length h.left)) (omega (arith, spaces_within h.left)) in
    record { left = m.left; is = rw h.is m.is; alike = m.alike }

module _ (t : List ℕ) where
  no_parts : (d : ℕ) (base : Expr) (u : List ℕ) (n : ℕ) → Alike t u → Quiet behind_parts u → length (spaces t) < n → Given (part_turns n (opened d) base t) base u
  unfolding part_turns opened
  no_parts d base u zero alike q lt = absurd (omega arith)
  no_parts zero base u (suc n) alike q lt = record { left = spaces (spaces t); is = rw (not_next Token.Dot t u alike q.0) refl; alike = spaces_twice (spaces t) ∙ spaces_twice t ∙ alike }
  no_parts (suc d) base u (suc n) alike q lt = record {
    left = spaces (spaces t);
    is = rw (not_next Token.Dot t u alike q.0, not_next Token.OpenList (spaces t) u (spaces_twice t ∙ alike) q.1.0) refl;
    alike = spaces_twice (spaces t) ∙ spaces_twice t ∙ alike;
  }

  keyed : (d : ℕ) (base : Expr) {e : Expr} {u a w b rest : List ℕ} (n : ℕ)
      → Alike t u → Takes Token.Dot u a → IsName (spaces a) w b → length b ≤ length (spaces a) → ReadsAll (more_parts (Expr.Field base w)) d b e rest → Quiet behind_parts rest → length (spaces t) < n
      → Given (part_turns n (opened d) base t) e rest
  unfolding part_turns name
  keyed d base zero alike i named small r q lt = absurd (omega arith)
  keyed d base {e} {u} {a} {w} {b} {rest} (suc n) alike i named small r q lt =
      let k = taken {t = t} alike i in
      let m = r b refl q n (omega (arith, spaces_within b, small, k.less, ap length alike)) in
      record { left = m.left; is = rw (k.rest_is, k.next, name_read named) m.is; alike = m.alike }

  placed : (d : ℕ) (base : Expr) {index e : Expr} {u a b c rest : List ℕ} (n : ℕ)
      → Alike t u → Takes Token.OpenList u a → GivenPart (expression (opened d) a) index b → Takes Token.CloseList b c → length (spaces c) ≤ length (spaces a)
      → ReadsAll (more_parts (Expr.At base index)) (suc d) c e rest → Quiet behind_parts rest → length (spaces t) < n → Given (part_turns n (opened (suc d)) base t) e rest
  unfolding part_turns opened
  placed d base zero alike i h j small r q lt = absurd (omega arith)
  placed d base {index} {e} {u} {a} {b} {c} {rest} (suc n) alike i h j small r q lt =
      let k = taken {t = t} alike i in
      let l = taken {t = spaces t} (spaces_twice t ∙ alike) i in
      let m = r c refl q n (omega (arith, small, k.less, ap length alike)) in
      record { left = m.left; is = rw (not_at Token.OpenList Token.Dot (spaces t) refl k.next, l.rest_is, l.next, enclosed_read d Token.CloseList a h j) m.is; alike = m.alike }

pub no_part_read : (d : ℕ) (t u : List ℕ) (base : Expr) → Alike t u → Quiet behind_parts u → Read (more_parts base) d t base u
no_part_read d t u base alike q n lt = no_parts t d base u n alike q lt

pub one_key_read : (d : ℕ) (t : List ℕ) (base : Expr) {e : Expr} {u a w b rest : List ℕ}
    → Alike t u → Takes Token.Dot u a → IsName (spaces a) w b → length b ≤ length (spaces a) → ReadsAll (more_parts (Expr.Field base w)) d b e rest → Quiet behind_parts rest → Read (more_parts base) d t e rest
one_key_read d t base alike i named small r q n lt = keyed t d base n alike i named small r q lt

pub one_place_read : (d : ℕ) (t : List ℕ) (base : Expr) {index e : Expr} {u a b c rest : List ℕ}
    → Alike t u → Takes Token.OpenList u a → GivenPart (expression (opened d) a) index b → Takes Token.CloseList b c → length (spaces c) ≤ length (spaces a)
    → ReadsAll (more_parts (Expr.At base index)) (suc d) c e rest → Quiet behind_parts rest → Read (more_parts base) (suc d) t e rest
one_place_read d t base alike i h j small r q n lt = placed t d base n alike i h j small r q lt
