-- Atoms, and what brackets hold, in the grammar are read.
use Rattle.std.proofs.Common.{◌≡◌, ℕ, suc, zero, ◌≤◌, ◌<◌, Bool, true, false, inl, inr, List, [], ◌∷◌, ◌++◌, length, drop, Option, Some, None, Ok, refl, sym, ap, ◌∙◌, subst, arith, length-append}
use Rattle.std.specs.Prelude.{◌==◌, ◌||◌, ◌&&◌, nat_le, codes}
use Rattle.std.specs.Char.{is_ascii_digit}
use Rattle.std.specs.Str.{bytes_eq}
use Rattle.std.proofs.lemmas.Bool.{cond-true, cond-false, and_parts, leb-true, le-leb, eqb-true}
use Rattle.std.proofs.lemmas.Slice.Eq.{bytes_eq-Decides}
use Rattle.ha_value.specs.declared.value.Value.{Value}
use Rattle.ha_value.specs.declared.value.Num.{Num}
use Rattle.ha_config.specs.declared.template.Expr.{Expr}
use Rattle.reading.specs.Answer.{◌>>=◌, Answer, made, front}
use Rattle.reading.proofs.Basics.{chosen as chosen_of}
use Rattle.tpl_parse.specs.declared.token.Token.{Token}
use Rattle.tpl_parse.specs.declared.table.Function.{Function}
use Rattle.tpl_parse.specs.declared.expression.Part.{Part}
use Rattle.tpl_parse.specs.Token.{spaces, next_is, begins_name, is_reserved}
use Rattle.tpl_parse.specs.Names.{function_named, takes_behind}
use Rattle.tpl_parse.specs.Literal.{string, word, skip_word}
use Rattle.tpl_parse.specs.Reading.{opened, expression, arguments, items_in, item_turns, after_item, constant, not_called, call_or_name, by_word, word_atom, Start, numeric, bracket, group, letter, quoted, start_of, in_group, atom_by, atom}
use Rattle.tpl_parse.specs.Grammar.{Takes, takes, is_quote, IsWord, IsName, IsNumber, whole, places, IsString, end, other, more, name, number as number_is, is_variable, Holder, of_list, of_call, of_filter, closing, counts_of, made_of, is_within, allows, in_brackets, more_items, Is, no_items, last_item, one_item}
use Rattle.tpl_parse.proofs.Tokens.{spaces_twice}
use Rattle.tpl_parse.proofs.Apart.{Quiet, quiet_at, not_at, is_false}
use Rattle.tpl_parse.proofs.Next.{Fault, Alike, taken, not_next, spaces_within}
use Rattle.tpl_parse.proofs.Runs.{word_read, number_read}
use Rattle.tpl_parse.proofs.StringLaws.{string_read}
use Rattle.tpl_parse.proofs.Starts.{stands_front, no_closing, BeginsOperand}
use Rattle.tpl_parse.proofs.Continues.{behind_atom, behind_expression, Given, GivenPart, Read, Reads as ReadsAll}
use Rattle.tpl_parse.proofs.OnlyOperands.{and_false, and_true, none_least, enclosed_read}

-- ---- how atoms begin

same_bytes : (w v : List ℕ) → bytes_eq w v ≡ true → v ≡ w
same_bytes w v h = sym ((bytes_eq-Decides w v).0 h)

either_word : (P : List ℕ → Type 0) (w u v : List ℕ) → P u → P v → (bytes_eq w u || bytes_eq w v) ≡ true → P w
either_word P w u v p q e = by_first (bytes_eq w u) refl e
  where
    by_first : (x : Bool) → bytes_eq w u ≡ x → (x || bytes_eq w v) ≡ true → P w
    by_first true h k = subst P (same_bytes w u h) p
    by_first false h k = subst P (same_bytes w v k) q

-- what holds of the six words holds of every constant
constant_word : (P : List ℕ → Type 0) → P (codes "true") → P (codes "True") → P (codes "false") → P (codes "False") → P (codes "none") → P (codes "None") → (w : List ℕ) (v : Value) → constant w ≡ Some v → P w
constant_word P t t' f f' n n' w v e = elim (chosen_of (bytes_eq w (codes "true") || bytes_eq w (codes "True")) _ _ (Some v) e) [
  | inl h ↦ either_word P w _ _ t t' h.0
  | inr h ↦ elim (chosen_of (bytes_eq w (codes "false") || bytes_eq w (codes "False")) _ _ (Some v) h.1) [
    | inl k ↦ either_word P w _ _ f f' k.0
    | inr k ↦ elim (chosen_of (bytes_eq w (codes "none") || bytes_eq w (codes "None")) _ _ (Some v) k.1) [
      | inl l ↦ either_word P w _ _ n n' l.0
      | inr l ↦ absurd (let m = l.1 in cc)
    ]
  ]
]

constant_start : (w : List ℕ) (v : Value) → constant w ≡ Some v → start_of (front w) ≡ letter
constant_start = constant_word (λ w. start_of (front w) ≡ letter) refl refl refl refl refl refl

constant_reserved : (w : List ℕ) (v : Value) → constant w ≡ Some v → is_reserved w ≡ true
constant_reserved = constant_word (λ w. is_reserved w ≡ true) refl refl refl refl refl refl

no_constant : (w : List ℕ) → is_reserved w ≡ false → constant w ≡ None
no_constant w free = by_value (constant w) refl
  where
    by_value : (o : Option Value) → constant w ≡ o → constant w ≡ None
    by_value None e = e
    by_value (Some v) e = absurd (let k : true ≡ false = sym (constant_reserved w v e) ∙ free in cc)

-- a word's text begins with its first byte
word_front : {t w rest : List ℕ} → IsWord t w rest → (v : Value) → constant w ≡ Some v → front t ≡ front w
word_front end v e = absurd cc
word_front (other h) v e = absurd cc
word_front (more h r) v e = refl

no_digit : (b : ℕ) → begins_name b ≡ true → is_ascii_digit b ≡ true → ⊥
no_digit b h k = grind (arith, h, k)

no_sign_byte : (b c : ℕ) → begins_name b ≡ true → begins_name c ≡ false → (b == c) ≡ false
no_sign_byte b c h f = is_false (b == c) (λ k. let w : true ≡ false = sym h ∙ ap begins_name (eqb-true b c k) ∙ f in cc)

no_quote_byte : (b : ℕ) → begins_name b ≡ true → (b == 34 || b == 39) ≡ false
no_quote_byte b h = rw (no_sign_byte b 34 h refl) (no_sign_byte b 39 h refl)

letter_start : (b : ℕ) → begins_name b ≡ true → start_of (Some b) ≡ letter
letter_start b h =
    cond-false (is_ascii_digit b) _ _ (is_false (is_ascii_digit b) (no_digit b h)) ∙ cond-false (b == 34 || b == 39) _ _ (no_quote_byte b h) ∙ cond-false (b == 91) _ _ (no_sign_byte b 91 h refl)
    ∙ cond-false (b == 40) _ _ (no_sign_byte b 40 h refl) ∙ cond-true (begins_name b) _ _ h

quote_start : (b : ℕ) → is_quote b ≡ true → start_of (Some b) ≡ quoted b
quote_start b h = by_first (b == 34) refl h
  where
    by_first : (x : Bool) → (b == 34) ≡ x → (x || b == 39) ≡ true → start_of (Some b) ≡ quoted b
    by_first true e k = subst (λ (c : ℕ). start_of (Some c) ≡ quoted c) (sym (eqb-true b 34 e)) refl
    by_first false e k = subst (λ (c : ℕ). start_of (Some c) ≡ quoted c) (sym (eqb-true b 39 k)) refl

quote_plain : (b : ℕ) → is_quote b ≡ true → (92 == b) ≡ false
quote_plain b h = is_false (92 == b) (λ k. let w : true ≡ false = sym h ∙ ap is_quote (sym (eqb-true 92 b k)) in cc)

name_start : {t w rest : List ℕ} → IsName t w rest → start_of (front t) ≡ letter
name_start (name {b = b} first run free) = letter_start b first

number_start : {t rest : List ℕ} {n : Num} → IsNumber t n rest → start_of (front t) ≡ numeric
number_start (number_is (whole {b = b} h run bare) e) = cond-true (is_ascii_digit b) _ _ h
number_start (number_is (places {b = b} h run digit run2) e) = cond-true (is_ascii_digit b) _ _ h

-- ---- atoms

-- an atom of this start
started : (d : ℕ) (t u : List ℕ) (start : Start) {e : Expr} {rest : List ℕ} → Alike t u → start_of (front (spaces u)) ≡ start → Given (atom_by start (opened d) (spaces u)) e rest → Given (atom (opened d) t) e rest
unfolding atom
started d t u start alike e g = record {
  left = g.left;
  is = ap (λ (s : List ℕ). atom_by (start_of (front s)) (opened d) s) alike ∙ ap (λ (k : Start). atom_by k (opened d) (spaces u)) e ∙ g.is;
  alike = g.alike;
}

pub number_atom : (d : ℕ) (t u : List ℕ) {n : Num} {rest : List ℕ} → Alike t u → IsNumber (spaces u) n rest → Given (atom (opened d) t) (Expr.Plain (Value.Number n)) rest
number_atom d t u {n} {rest} alike h =
    started d t u numeric alike (number_start h) (record { left = rest; is = ap (made (λ n. Expr.Plain (Value.Number n))) (number_read h); alike = refl })

pub string_atom : (d : ℕ) (t u : List ℕ) {q : ℕ} {a s rest : List ℕ} → Alike t u → spaces u ≡ q ∷ a → is_quote q ≡ true → IsString q a s rest → Given (atom (opened d) t) (Expr.Plain (Value.Text s)) rest
string_atom d t u {q} {a} {s} {rest} alike at is h =
    started d t u (quoted q) alike (ap (λ (v : List ℕ). start_of (front v)) at ∙ quote_start q is) (record {
      left = rest;
      is = ap (λ (v : List ℕ). made (λ t. Expr.Plain (Value.Text t)) (string q (drop 1 v))) at ∙ ap (made (λ t. Expr.Plain (Value.Text t))) (string_read q (quote_plain q is) h);
      alike = refl;
    })

pub constant_atom : (d : ℕ) (t u : List ℕ) {w rest : List ℕ} {v : Value} → Alike t u → IsWord (spaces u) w rest → constant w ≡ Some v → Given (atom (opened d) t) (Expr.Plain v) rest
unfolding word_atom
constant_atom d t u {w} {rest} {v} alike run e =
    let r = word_read run in
    started d t u letter alike (ap start_of (word_front run v e) ∙ constant_start w v e) (record {
      left = rest;
      is = ap (λ (o : Option Value). by_word o (opened d) (word (spaces u)) (skip_word (spaces u))) (ap constant r.word_is ∙ e) ∙ ap (λ (s : List ℕ). Ok (Expr.Plain v, s)) r.left;
      alike = refl;
    })

not_called_read : (f : Function) → is_variable (Some f) ≡ true → (w rest : List ℕ) → not_called f w rest ≡ Ok (Expr.Name w, rest)
not_called_read Function.States h w rest = absurd cc
not_called_read _ h w rest = refl

named : (o : Option Function) (d : ℕ) (w rest : List ℕ) → is_variable o ≡ true → next_is Token.OpenGroup rest ≡ false → Given (call_or_name o (opened d) w rest) (Expr.Name w) rest
unfolding opened
named None d w rest v q = record { left = rest; is = refl; alike = refl }
named (Some f) zero w rest v q = record { left = rest; is = not_called_read f v w rest; alike = refl }
named (Some f) (suc d) w rest v q = record { left = spaces rest; is = rw q (not_called_read f v w (spaces rest)); alike = spaces_twice rest }

word_atom_read : (d : ℕ) (u : List ℕ) {w a rest : List ℕ} {e : Expr} → IsName u w a → Given (call_or_name (function_named w) (opened d) w a) e rest → Given (word_atom (opened d) u) e rest
unfolding word_atom
word_atom_read d u {w} {a} {rest} {e} (name {b = b} {text = t} first run free) g =
    let r = word_read run in
    record {
      left = g.left;
      is = (λ i. by_word (constant (r.word_is i)) (opened d) (r.word_is i) (r.left i)) ∙ ap (λ (o : Option Value). by_word o (opened d) w a) (no_constant w free) ∙ cond-false (is_reserved w) _ _ free ∙ g.is;
      alike = g.alike;
    }

-- a name, and what is read behind it
by_name : (d : ℕ) (t u : List ℕ) {w a rest : List ℕ} {e : Expr} → Alike t u → IsName (spaces u) w a → Given (call_or_name (function_named w) (opened d) w a) e rest → Given (atom (opened d) t) e rest
by_name d t u {w} {a} {rest} {e} alike n g = started d t u letter alike (name_start n) (word_atom_read d (spaces u) n g)

pub name_atom : (d : ℕ) (t u : List ℕ) {w rest : List ℕ} → Alike t u → IsName (spaces u) w rest → is_variable (function_named w) ≡ true → Quiet behind_atom rest → Given (atom (opened d) t) (Expr.Name w) rest
name_atom d t u {w} {rest} alike n v q = by_name d t u alike n (named (function_named w) d w rest v q.0)

needs_one : (f : Function) → allows (counts_of (of_call f)) 0 ≡ true → ⊥
needs_one Function.States h = cc
needs_one _ h = cc

called : (f : Function) (d : ℕ) (w a : List ℕ) {b rest : List ℕ} {e : Expr} → Takes Token.OpenGroup a b → Is (in_brackets (of_call f)) d b e rest → Read (in_brackets (of_call f)) d b e rest → Given (call_or_name (Some f) (opened d) w a) e rest
unfolding opened
called f zero w a i (no_items k j) g = absurd (needs_one f k)
called f (suc d) w a i h g = let k = taken {t = a} refl i in record { left = g.left; is = rw (k.rest_is, k.next) g.is; alike = g.alike }

pub call_atom : (d : ℕ) (t u : List ℕ) {w a b rest : List ℕ} {e : Expr} {f : Function}
    → Alike t u → IsName (spaces u) w a → function_named w ≡ Some f → Takes Token.OpenGroup a b → Is (in_brackets (of_call f)) d b e rest → Read (in_brackets (of_call f)) d b e rest → Given (atom (opened d) t) e rest
call_atom d t u {w} {a} {b} {rest} {e} {f} alike n is i h g = by_name d t u alike n (subst (λ (o : Option Function). Given (call_or_name o (opened d) w a) e rest) (sym is) (called f d w a i h g))

pub list_atom : (d : ℕ) (t u : List ℕ) {a rest : List ℕ} {e : Expr} → Alike t u → Takes Token.OpenList u a → Read (in_brackets of_list) d a e rest → Given (atom (opened d) t) e rest
list_atom d t u alike (takes h) g = started d t u bracket alike (ap start_of (stands_front Token.OpenList 91 [] (spaces u) refl h)) g

in_group_read : (d : ℕ) (v : List ℕ) {b rest : List ℕ} {e : Expr} → GivenPart (expression (opened d) (drop 1 v)) e b → Takes Token.CloseGroup b rest → Given (in_group (opened (suc d)) v) e rest
unfolding opened
in_group_read d v {rest = rest} g j = record { left = rest; is = enclosed_read d Token.CloseGroup (drop 1 v) g j; alike = refl }

pub group_atom : (d : ℕ) (t u : List ℕ) {a b rest : List ℕ} {e : Expr} → Alike t u → Takes Token.OpenGroup u a → GivenPart (expression (opened d) a) e b → Takes Token.CloseGroup b rest → Given (atom (opened (suc d)) t) e rest
group_atom d t u alike (takes h) g j = started (suc d) t u group alike (ap start_of (stands_front Token.OpenGroup 40 [] (spaces u) refl h)) (in_group_read d (spaces u) g j)

-- ---- what brackets hold

pub no_items_read : (holder : Holder) (d : ℕ) (t u : List ℕ) {rest : List ℕ} → Alike t u → allows (counts_of holder) 0 ≡ true → Takes (closing holder) u rest → Read (in_brackets holder) d t (made_of holder []) rest
unfolding arguments
no_items_read holder d t u {rest} alike few i =
    let k = taken {t = t} alike i in
    let c : ((counts_of holder).least == 0 && next_is (closing holder) t) ≡ true = and_true ((counts_of holder).least == 0) (next_is (closing holder) t) (none_least (counts_of holder) few) k.next in
    record { left = rest; is = ap (made (made_of holder)) (cond-true ((counts_of holder).least == 0 && next_is (closing holder) t) _ _ c ∙ ap (λ (r : List ℕ). Ok ([], r)) k.rest_is); alike = refl }

less_of : (most : Option ℕ) (n : ℕ) → is_within most (suc n) ≡ true → takes_behind most n ≡ true
less_of None n h = refl
less_of (Some most) n h = h

less_before : (most : Option ℕ) (n : ℕ) → takes_behind most (suc n) ≡ true → takes_behind most n ≡ true
less_before None n h = refl
less_before (Some most) n h = le-leb (suc n) most (let k = leb-true (suc (suc n)) most h in omega arith)

one_longer : (found : List Expr) (e : Expr) → length (found ++ e ∷ []) ≡ suc (length found)
one_longer found e = omega (arith, length-append found (e ∷ []))

-- an item more may stand there
pub may_follow : {holder : Holder} {found : List Expr} {d : ℕ} {t rest : List ℕ} {e : Expr} → Is (more_items holder found) d t e rest → takes_behind (counts_of holder).most (length found) ≡ true
may_follow {holder} {found} (last_item {e = x} a k i) =
    let p = (and_parts (nat_le (counts_of holder).least (length (found ++ x ∷ []))) (is_within (counts_of holder).most (length (found ++ x ∷ []))) k).1 in
    less_of (counts_of holder).most (length found) (ap (is_within (counts_of holder).most) (sym (one_longer found x)) ∙ p)
may_follow {holder} {found} (one_item {e = x} a i b) =
    less_before (counts_of holder).most (length found) (ap (takes_behind (counts_of holder).most) (sym (one_longer found x)) ∙ may_follow b)

items_in_read : (holder : Holder) (d : ℕ) (v : List ℕ) {e : Expr} {rest : List ℕ} → takes_behind (counts_of holder).most 0 ≡ true
    → Given (made (made_of holder) (item_turns (suc (length v)) (expression (opened d)) (closing holder) (counts_of holder) [] v)) e rest
    → Given (made (made_of holder) (items_in (opened (suc d)) (closing holder) (counts_of holder) v)) e rest
unfolding opened
items_in_read holder d v h g = record { left = g.left; is = ap (made (made_of holder)) (cond-true (takes_behind (counts_of holder).most 0) _ _ h) ∙ g.is; alike = g.alike }

pub some_items_read : (holder : Holder) (d : ℕ) (t u : List ℕ) {e : Expr} {rest : List ℕ} → Alike t u → BeginsOperand u → takes_behind (counts_of holder).most 0 ≡ true → ReadsAll (more_items holder []) d u e rest
    → Read (in_brackets holder) (suc d) t e rest
unfolding arguments
some_items_read holder d t u alike first room r =
    let c : ((counts_of holder).least == 0 && next_is (closing holder) t) ≡ false = and_false ((counts_of holder).least == 0) (next_is (closing holder) t) (not_next (closing holder) t u alike (no_closing holder u first.first)) in
    let g = items_in_read holder d (spaces t) room (r (spaces t) (spaces_twice t ∙ alike) tt (suc (length (spaces t))) (omega (arith, spaces_within (spaces t)))) in
    record { left = g.left; is = ap (made (made_of holder)) (cond-false ((counts_of holder).least == 0 && next_is (closing holder) t) _ _ c) ∙ g.is; alike = g.alike }

pub behind_item : (holder : Holder) (t : List ℕ) → next_is (closing holder) t ≡ true → Quiet behind_expression t
behind_item of_list t h = quiet_at Token.CloseList behind_expression t refl h
behind_item (of_call f) t h = quiet_at Token.CloseGroup behind_expression t refl h
behind_item (of_filter f b) t h = quiet_at Token.CloseGroup behind_expression t refl h

no_close_at_comma : (holder : Holder) (t : List ℕ) → next_is Token.Comma t ≡ true → next_is (closing holder) t ≡ false
no_close_at_comma of_list t h = not_at Token.Comma Token.CloseList (spaces t) refl h
no_close_at_comma (of_call f) t h = not_at Token.Comma Token.CloseGroup (spaces t) refl h
no_close_at_comma (of_filter f b) t h = not_at Token.Comma Token.CloseGroup (spaces t) refl h

module _ (holder : Holder) (d : ℕ) (t : List ℕ) (found : List Expr) where
  abbrev turns : ℕ → List Expr → List ℕ → Answer ℕ Fault (List Expr)
  turns n = item_turns n (expression (opened d)) (closing holder) (counts_of holder)

  abbrev next_turn : ℕ → Part × List ℕ → Answer ℕ Fault (List Expr)
  next_turn n part = after_item (closing holder) (counts_of holder) (turns n) (found ++ part.0.expr ∷ []) part.0 part.1

  ended : {x : Expr} {a rest : List ℕ} (n : ℕ) → GivenPart (expression (opened d) t) x a → allows (counts_of holder) (length (found ++ x ∷ [])) ≡ true → Takes (closing holder) a rest → length (spaces t) < n
      → Given (made (made_of holder) (turns n found t)) (made_of holder (found ++ x ∷ [])) rest
  unfolding item_turns
  ended zero g k i lt = absurd (omega arith)
  ended {x} {a} {rest} (suc n) g k i lt =
      let m = taken {t = g.left} g.alike i in
      let all : List Expr = found ++ g.part.expr ∷ [] in
      let enough : nat_le (counts_of holder).least (length all) ≡ true =
      ap (λ (y : Expr). nat_le (counts_of holder).least (length (found ++ y ∷ []))) g.expr ∙ (and_parts (nat_le (counts_of holder).least (length (found ++ x ∷ []))) (is_within (counts_of holder).most (length (found ++ x ∷ []))) k).0 in
      let c : (nat_le (counts_of holder).least (length all) && next_is (closing holder) g.left) ≡ true = and_true (nat_le (counts_of holder).least (length all)) (next_is (closing holder) g.left) enough m.next in
      record {
        left = rest;
        is = ap (λ (w : Answer ℕ Fault Part). made (made_of holder) (w >>= next_turn n)) g.is
            ∙ ap (made (made_of holder)) (cond-true (nat_le (counts_of holder).least (length all) && next_is (closing holder) g.left) _ _ c)
            ∙ (λ i. Ok (made_of holder (found ++ g.expr i ∷ []), m.rest_is i));
        alike = refl;
      }

  next_item : {x e : Expr} {a b rest : List ℕ} (n : ℕ) → GivenPart (expression (opened d) t) x a → Takes Token.Comma a b → takes_behind (counts_of holder).most (length (found ++ x ∷ [])) ≡ true
      → length (spaces a) ≤ length (spaces t) → ReadsAll (more_items holder (found ++ x ∷ [])) d b e rest → length (spaces t) < n → Given (made (made_of holder) (turns n found t)) e rest
  unfolding item_turns
  next_item zero g i room small r lt = absurd (omega arith)
  next_item {x} {e} {a} {b} {rest} (suc n) g i room small r lt =
      let m = taken {t = g.left} g.alike i in
      let all : List Expr = found ++ g.part.expr ∷ [] in
      let least' : Bool = nat_le (counts_of holder).least (length all) in
      let most' : Bool = takes_behind (counts_of holder).most (length all) in
      let room' : most' ≡ true = ap (λ (y : Expr). takes_behind (counts_of holder).most (length (found ++ y ∷ []))) g.expr ∙ room in
      let c : (least' && next_is (closing holder) g.left) ≡ false = and_false least' (next_is (closing holder) g.left) (no_close_at_comma holder g.left m.next) in
      let c' : (most' && next_is Token.Comma g.left) ≡ true = and_true most' (next_is Token.Comma g.left) room' m.next in
      let k = r b refl tt n (omega (arith, small, m.less)) in
      record {
        left = k.left;
        is = ap (λ (w : Answer ℕ Fault Part). made (made_of holder) (w >>= next_turn n)) g.is
            ∙ ap (made (made_of holder)) (cond-false (least' && next_is (closing holder) g.left) _ _ c ∙ cond-true (most' && next_is Token.Comma g.left) _ _ c' ∙ (λ i. turns n (found ++ g.expr i ∷ []) (m.rest_is i)))
            ∙ k.is;
        alike = k.alike;
      }

pub last_item_read : (holder : Holder) (found : List Expr) (d : ℕ) (t : List ℕ) {x : Expr} {a rest : List ℕ}
    → GivenPart (expression (opened d) t) x a → allows (counts_of holder) (length (found ++ x ∷ [])) ≡ true → Takes (closing holder) a rest → Read (more_items holder found) d t (made_of holder (found ++ x ∷ [])) rest
last_item_read holder found d t g k i n lt = ended holder d t found n g k i lt

pub one_item_read : (holder : Holder) (found : List Expr) (d : ℕ) (t : List ℕ) {x e : Expr} {a b rest : List ℕ}
    → GivenPart (expression (opened d) t) x a → Takes Token.Comma a b → takes_behind (counts_of holder).most (length (found ++ x ∷ [])) ≡ true → length (spaces a) ≤ length (spaces t)
    → ReadsAll (more_items holder (found ++ x ∷ [])) d b e rest → Read (more_items holder found) d t e rest
one_item_read holder found d t g i room small r n lt = next_item holder d t found n g i room small r lt
