-- Atoms.
use Rattle.std.proofs.Common.{◌≡◌, ℕ, zero, suc, Bool, true, false, cond, inl, inr, List, [], ◌∷◌, ◌++◌, length, Option, Some, None, refl, sym, ap, ◌∙◌, subst, arith, append_assoc}
use Rattle.std.specs.Prelude.{◌==◌, ◌||◌}
use Rattle.std.specs.Char.{is_ascii_digit}
use Rattle.std.specs.List.{find}
use Rattle.std.specs.Str.{bytes_eq}
use Rattle.std.proofs.lemmas.Bool.{eqb-true}
use Rattle.std.proofs.lemmas.Slice.Eq.{bytes_eq-Decides}
use Rattle.ha_value.specs.declared.value.Num.{Num}
use Rattle.ha_value.specs.declared.value.Value.{Value}
use Rattle.ha_config.specs.declared.template.Expr.{Expr}
use Rattle.ha_config.specs.declared.template.Expr
use Rattle.reading.specs.Answer.{made, front}
use Rattle.reading.proofs.Basics.{chosen as chosen_of, chosen_is}
use Rattle.tpl_parse.specs.declared.token.Token.{Token}
use Rattle.tpl_parse.specs.declared.table.Function.{Function}
use Rattle.ha_value.specs.Truth.{is_blank_or_break}
use Rattle.tpl_parse.specs.Token.{spaces, next_is, past, begins_name, ends_before, is_reserved}
use Rattle.tpl_parse.specs.Names.{all_functions, function_row, function_named, any_from}
use Rattle.tpl_parse.specs.Literal.{number, string, word, skip_word}
use Rattle.tpl_parse.specs.Reading.{Inner, arguments, constant, not_called, call_or_name, by_word, word_atom, Start, numeric, bracket, group, letter, nothing, quoted, start_of, in_group, atom_by, atom, enclosed}
use Rattle.tpl_parse.specs.Grammar.{is_quote, IsNumber, number as number_is, whole, places, IsString, close, IsWord, IsName, name as name_is, is_variable, of_list, of_call, Is, an_atom, of_number, of_string, of_constant, of_name, of_function, of_items, of_group}
use Rattle.tpl_parse.proofs.Tokens.{spaces_twice}
use Rattle.tpl_parse.proofs.Next.{Fault, Alike}
use Rattle.tpl_parse.proofs.Runs.{word_found}
use Rattle.tpl_laws.proofs.Likes.{Like}
use Rattle.tpl_laws.proofs.Outcomes.{Still, Grown, Open, Out, like_put, open_as, out_made, out_put}
use Rattle.tpl_laws.proofs.Tokens.{blanks_of, solid_at, takes_where, takes_at, took_token, place_open}
use Rattle.tpl_laws.proofs.Lexical.{Variable, IsFree, name_again, name_longer, name_reserved, word_again, word_parts, run_shown, string_out}
use Rattle.tpl_laws.proofs.NumberEnds.{number_out}
use Rattle.tpl_laws.proofs.Depths.{InnerOut, Deep, deepest, deeper, ExprOut, Enclosed, encloses, enclosed_out, brackets_whole, Listed}
use Rattle.tpl_laws.proofs.Items.{Fits, arguments_out}

-- how a byte begins an atom
data View (b : ℕ) : Start → Type 0 where
  a_digit : is_ascii_digit b ≡ true → View b numeric
  a_quote : is_quote b ≡ true → View b (quoted b)
  a_bracket : b ≡ 91 → View b bracket
  a_group : b ≡ 40 → View b group
  a_letter : begins_name b ≡ true → View b letter
  no_start : View b nothing

by_test : (b : ℕ) (x : Bool) (s k : Start) → (x ≡ true → View b s) → (x ≡ false → View b k) → View b (cond x s k)
by_test b true s k p q = p refl
by_test b false s k p q = q refl

view : (b : ℕ) → View b (start_of (Some b))
view b =
    by_test b (is_ascii_digit b) _ _ a_digit (λ _. by_test b (b == 34 || b == 39) _ _ a_quote (λ _. by_test b (b == 91) _ _ (λ h. a_bracket (eqb-true b 91 h)) (λ _.
    by_test b (b == 40) _ _ (λ h. a_group (eqb-true b 40 h)) (λ _. by_test b (begins_name b) _ _ a_letter (λ _. no_start)))))

digit_solid : (b : ℕ) → is_ascii_digit b ≡ true → is_blank_or_break b ≡ false
digit_solid b h = elim (chosen_is (is_blank_or_break b)) [
  | inl k ↦ absurd (grind (arith, h, k))
  | inr k ↦ k
]

number_shown : {t rest : List ℕ} {n : Num} → IsNumber t n rest → spaces t ≡ t
unfolding spaces
number_shown (number_is (whole {b = b} first run free) read) = rw (digit_solid b first) refl
number_shown (number_is (places {b = b} first run digit run2) read) = rw (digit_solid b first) refl

never_grows : (token : Token) → ((b : ℕ) → ends_before token (Some b) ≡ true) → (x : Option ℕ) → ends_before token x ≡ true
never_grows token h None = refl
never_grows token h (Some b) = h b

quote_solid : (b : ℕ) → is_quote b ≡ true → is_blank_or_break b ≡ false
quote_solid b h = elim (chosen_is (is_blank_or_break b)) [
  | inl k ↦ absurd (grind (arith, h, k))
  | inr k ↦ k
]

quote_bare : (b : ℕ) → is_quote b ≡ true → (32 == b) ≡ false
quote_bare b h = elim (chosen_is (32 == b)) [
  | inl k ↦ absurd (let e = eqb-true 32 b k in let w : is_quote 32 ≡ true = subst (λ (x : ℕ). is_quote x ≡ true) (sym e) h in cc)
  | inr k ↦ k
]

-- ---- behind the first byte

module _ (u : List ℕ) (b : ℕ) (s : List ℕ) (at : spaces u ≡ b ∷ s) where
  abbrev blanks : List ℕ
  blanks = (blanks_of u).blanks

  all_parts : u ≡ blanks ++ b ∷ s
  all_parts = (blanks_of u).parts ∙ ap (λ (v : List ℕ). blanks ++ v) at

  byte_parts : u ≡ (blanks ++ b ∷ []) ++ s
  byte_parts = all_parts ∙ sym (append_assoc blanks (b ∷ []) s)

  byte_shown : (is_blank_or_break b ≡ false) → (o : List ℕ) → spaces ((blanks ++ b ∷ []) ++ o) ≡ b ∷ o
  unfolding spaces
  byte_shown h o = ap spaces (append_assoc blanks (b ∷ []) o) ∙ (blanks_of u).gone (b ∷ o) ∙ rw h refl

  no_atom : (d : ℕ) → Open (Is an_atom d) u (record { left = length (b ∷ s); code = tt })
  unfolding spaces
  no_atom d = place_open (Is an_atom d) u [] u refl (b ∷ s) at (32 ∷ 39 ∷ 39 ∷ []) (λ o q l here. (Expr.Plain (Value.Text []), of_string here refl close))

  numeric_out : (d : ℕ) → is_ascii_digit b ≡ true → Out Still (Is an_atom d) u (made (λ n. Expr.Plain (Value.Number n)) (number (b ∷ s)))
  numeric_out d first =
      out_made Still IsNumber Still (Is an_atom d) u blanks (b ∷ s) all_parts (λ n. Expr.Plain (Value.Number n))
      (λ o r n l is. of_number (subst (λ (v : List ℕ). IsNumber v n r) (sym ((blanks_of u).gone o ∙ number_shown is)) is)) (λ y token k. k) (number (b ∷ s)) (number_out b s first)

  quoted_out : (d : ℕ) → is_quote b ≡ true → Out Still (Is an_atom d) u (made (λ t. Expr.Plain (Value.Text t)) (string b s))
  quoted_out d is_q =
      out_made Still (IsString b) Still (Is an_atom d) u (blanks ++ b ∷ []) s byte_parts (λ t. Expr.Plain (Value.Text t))
      (λ o r t l is. of_string (byte_shown (quote_solid b is_q) o) is_q is) (λ y token k. k) (string b s) (string_out b (quote_bare b is_q) s)

-- ---- lists and groups

module _ (u : List ℕ) (s : List ℕ) where
  bracket_out : {d : ℕ} {o : Option Inner} → Deep d o → spaces u ≡ 91 ∷ s → Out Still (Is an_atom d) u (made Expr.List (arguments o Token.CloseList (any_from 0) s))
  bracket_out {d} {o} deep at =
      out_made Still (Listed of_list d) Still (Is an_atom d) u (blanks u 91 s at ++ 91 ∷ []) s (byte_parts u 91 s at) Expr.List
      (λ o' r items l is. of_items (takes_where Token.OpenList ((blanks u 91 s at ++ 91 ∷ []) ++ o') o' (byte_shown u 91 s at refl o') (never_grows Token.OpenList (λ x. refl) (front o'))) is)
      (λ y token k. k) (arguments o Token.CloseList (any_from 0) s) (arguments_out of_list deep (list_fits o) s s refl) where
        list_fits : (o' : Option Inner) → Fits o' (any_from 0)
        list_fits None = refl
        list_fits (Some inner) = tt

  group_out : {d : ℕ} {o : Option Inner} → Deep d o → spaces u ≡ 40 ∷ s → Out Still (Is an_atom d) u (in_group o (40 ∷ s))
  group_out deepest at = no_atom u 40 s at zero
  group_out (deeper {d = d} {inner = inner} sound) at =
      out_put Still (Enclosed d Token.CloseGroup) Still (Is an_atom (suc d)) u (blanks u 40 s at ++ 40 ∷ []) s (byte_parts u 40 s at)
      (λ o r e l is. grouped o r e is) (λ y token k. k) (enclosed inner Token.CloseGroup s) (enclosed_out sound Token.CloseGroup s s refl) where
        grouped : (o r : List ℕ) (e : Expr) → Enclosed d Token.CloseGroup o e r → Is an_atom (suc d) ((blanks u 40 s at ++ 40 ∷ []) ++ o) e r
        grouped o r e (encloses is end) = of_group (takes_where Token.OpenGroup ((blanks u 40 s at ++ 40 ∷ []) ++ o) o (byte_shown u 40 s at refl o) (never_grows Token.OpenGroup (λ x. refl) (front o))) is end

-- ---- words

function_by : (w : List ℕ) (f : Function) (fs : List Function) → find (λ function. bytes_eq (function_row function).name w) fs ≡ Some f → (function_row f).name ≡ w
function_by w f [] e = absurd cc
function_by w f (g ∷ fs) e = elim (chosen_of (bytes_eq (function_row g).name w) (Some g) (find (λ function. bytes_eq (function_row function).name w) fs) (Some f) e) [
  | inl h ↦ (let same : g ≡ f = (let k = h.1 in cc) in ap (λ (x : Function). (function_row x).name) (sym same) ∙ (bytes_eq-Decides (function_row g).name w).0 h.0)
  | inr h ↦ function_by w f fs h.1
]

function_name : (w : List ℕ) (f : Function) → function_named w ≡ Some f → (function_row f).name ≡ w
function_name w f e = function_by w f all_functions e

-- a function goes on as the name of a variable does
function_longer : (w : List ℕ) (f : Function) → function_named w ≡ Some f → IsFree (w ++ 95 ∷ [])
function_longer w f e = subst (λ (v : List ℕ). IsFree (v ++ 95 ∷ [])) (function_name w f e) (each f) where
  each : (g : Function) → IsFree ((function_row g).name ++ 95 ∷ [])
  each Function.States = (refl, refl)
  each _ = (refl, refl)

module _ (u : List ℕ) (b : ℕ) (s : List ℕ) (at : spaces u ≡ b ∷ s) (first : begins_name b ≡ true) where
  abbrev w : List ℕ
  w = word (b ∷ s)

  abbrev left : List ℕ
  left = skip_word (b ∷ s)

  abbrev front_word : List ℕ
  front_word = (blanks_of u).blanks ++ word (b ∷ s)

  variable_atom : (d : ℕ) (f : Fault) → Open Variable u f → Open (Is an_atom d) u f
  variable_atom d f h = open_as Still Variable Still (Is an_atom d) u (λ o q x is. (Expr.Name x, of_name is.0 is.1)) f h

  word_shown : (o : List ℕ) → Like left o → (spaces (front_word ++ o) ≡ w ++ o) × IsWord (w ++ o) w o
  word_shown o l =
      let r = word_again (word_found (b ∷ s)) o l in
      (ap spaces (append_assoc (blanks_of u).blanks w o) ∙ (blanks_of u).gone (w ++ o) ∙ run_shown b s w left first (word_found (b ∷ s)) o, r)

  constant_out : (d : ℕ) (v : Value) → constant w ≡ Some v → Grown Still (Is an_atom d) u (Expr.Plain v) left
  constant_out d v is = record {
    before = front_word;
    rest = left;
    parts = word_parts b s u at first;
    alike = refl;
    again = λ o l. (let p = word_shown o l in of_constant (subst (λ (x : List ℕ). IsWord x w o) (sym p.0) p.1) is);
    goes = λ token k. absurd k;
  }

  module _ (free : is_reserved w ≡ false) where
    named : (o : List ℕ) → Like left o → IsName (spaces (front_word ++ o)) w o
    named o l = let p = word_shown o l in subst (λ (x : List ℕ). IsName x w o) (sym p.0) (name_again (name_is first (word_found (b ∷ s)) free) o l)

    variable_out : (d : ℕ) (left' : List ℕ) → Alike left left' → is_variable (function_named w) ≡ true → Grown Still (Is an_atom d) u (Expr.Name w) left'
    variable_out d left' alike v = record {
      before = front_word;
      rest = left;
      parts = word_parts b s u at first;
      alike = alike;
      again = λ o l. of_name (named o l) v;
      goes = λ token k. absurd k;
    }

    -- `states` needs a call, or is the front of a longer name where none may stand
    uncalled_deepest : (d : ℕ) (f : Function) → function_named w ≡ Some f → Out Still (Is an_atom d) u (not_called f w left)
    uncalled_deepest d Function.States is = variable_atom d _ (name_longer b s u at first (function_longer w Function.States is))
    uncalled_deepest d _ is = variable_out d left refl (ap is_variable is)

    uncalled : (d : ℕ) (f : Function) → function_named w ≡ Some f → Out Still (Is an_atom (suc d)) u (not_called f w (spaces left))
    uncalled d Function.States is =
        let all = brackets_whole (of_call Function.States) d refl in
        place_open (Is an_atom (suc d)) u front_word left (word_parts b s u at first) (spaces left) refl (40 ∷ 32 ∷ all.0)
        (λ o q l here. (let m = all.1 q in (Expr.Function (function_row Function.States).number m.0, of_function (named o l) is (takes_at Token.OpenGroup o (all.0 ++ 32 ∷ q) (here ∙ opening (all.0 ++ 32 ∷ q))) m.1)))
      where
        opening : (q : List ℕ) → spaces (40 ∷ 32 ∷ q) ≡ 40 ∷ 32 ∷ q
        opening q = solid_at (40 ∷ []) (32 ∷ q) refl
    uncalled d _ is = variable_out (suc d) (spaces left) (sym (spaces_twice left)) (ap is_variable is)

    call_out : {d : ℕ} {inner : Inner} → InnerOut d inner → (f : Function) → function_named w ≡ Some f → next_is Token.OpenGroup left ≡ true
        → Out Still (Is an_atom (suc d)) u (made (Expr.Function (function_row f).number) (arguments (Some inner) Token.CloseGroup (function_row f).counts (past Token.OpenGroup left)))
    call_out {d} {inner} sound f is h =
        let k = took_token Token.OpenGroup left left refl h in
        out_made Still (Listed (of_call f) (suc d)) Still (Is an_atom (suc d)) u (front_word ++ k.before) (past Token.OpenGroup left)
        (word_parts b s u at first ∙ ap (λ (v : List ℕ). front_word ++ v) k.parts ∙ sym (append_assoc front_word k.before (past Token.OpenGroup left))) (Expr.Function (function_row f).number)
        (λ o r items l is'.
        subst (λ (v : List ℕ). Is an_atom (suc d) v (Expr.Function (function_row f).number items) r) (sym (append_assoc front_word k.before o))
        (of_function (named (k.before ++ o) (like_put k.before k.parts l)) is (k.again o l) is'))
        (λ y token m. m) (arguments (Some inner) Token.CloseGroup (function_row f).counts (past Token.OpenGroup left))
        (arguments_out (of_call f) (deeper sound) tt (past Token.OpenGroup left) (past Token.OpenGroup left) refl)

    named_out : {d : ℕ} {o : Option Inner} → Deep d o → (k : Option Function) → function_named w ≡ k → Out Still (Is an_atom d) u (call_or_name k o w left)
    named_out {d} deep None is = variable_out d left refl (ap is_variable is)
    named_out {d} deepest (Some f) is = uncalled_deepest d f is
    named_out (deeper {d = d} {inner = inner} sound) (Some f) is = elim (chosen_is (next_is Token.OpenGroup left)) [
      | inl h ↦ rw h (call_out sound f is h)
      | inr h ↦ rw h (uncalled d f is)
    ]

  word_out : {d : ℕ} {o : Option Inner} → Deep d o → (k : Option Value) → constant w ≡ k → Out Still (Is an_atom d) u (by_word k o w left)
  word_out {d} deep (Some v) is = constant_out d v is
  word_out {d} deep None is = elim (chosen_is (is_reserved w)) [
    | inl h ↦ rw h (variable_atom d _ (name_reserved b s u at first h))
    | inr h ↦ rw h (named_out h deep (function_named w) refl)
  ]

-- ---- atoms

by_view : {d : ℕ} {o : Option Inner} → Deep d o → (b : ℕ) (s u : List ℕ) → spaces u ≡ b ∷ s → (k : Start) → View b k → Out Still (Is an_atom d) u (atom_by k o (b ∷ s))
unfolding word_atom
by_view {d} deep b s u at k (a_digit h) = numeric_out u b s at d h
by_view {d} deep b s u at k (a_quote h) = quoted_out u b s at d h
by_view {d} {o} deep b s u at k (a_bracket h) = bracket_out u s deep (at ∙ ap (λ (x : ℕ). x ∷ s) h)
by_view {d} {o} deep b s u at k (a_group h) = subst (λ (x : ℕ). Out Still (Is an_atom d) u (in_group o (x ∷ s))) (sym h) (group_out u s deep (at ∙ ap (λ (x : ℕ). x ∷ s) h))
by_view {d} deep b s u at k (a_letter h) = word_out u b s at h deep (constant (word (b ∷ s))) refl
by_view {d} deep b s u at k no_start = no_atom u b s at d

nothing_there : (d : ℕ) (u : List ℕ) → spaces u ≡ [] → Open (Is an_atom d) u (record { left = 0; code = tt })
unfolding spaces
nothing_there d u at = place_open (Is an_atom d) u [] u refl [] at (32 ∷ 39 ∷ 39 ∷ []) (λ o q l here. (Expr.Plain (Value.Text []), of_string here refl close))

by_front : {d : ℕ} {o : Option Inner} → Deep d o → (s u : List ℕ) → spaces u ≡ s → Out Still (Is an_atom d) u (atom_by (start_of (front s)) o s)
by_front {d} deep [] u at = nothing_there d u at
by_front deep (b ∷ s) u at = by_view deep b s u at (start_of (Some b)) (view b)

pub atom_out : {d : ℕ} {o : Option Inner} → Deep d o → ExprOut an_atom d (atom o)
unfolding atom
atom_out deep t u alike = by_front deep (spaces t) u alike
