-- Characters, strings, words and names.
use Rattle.std.proofs.Common.{◌≡◌, ℕ, zero, suc, ◌≤◌, ◌<◌, Bool, true, false, cond, ◌⊎◌, inl, inr, List, [], ◌∷◌, ◌++◌, length, drop, Option, Some, None, Ok, Err, refl, sym, ap, ◌∙◌, subst, arith, append_assoc, append-nil, length-append}
use Rattle.std.specs.Prelude.{◌==◌, ◌||◌, encode_utf8}
use Rattle.std.specs.List.{list_any}
use Rattle.std.specs.Str.{bytes_eq}
use Rattle.std.proofs.lemmas.Bool.{eqb-true, cases_lt}
use Rattle.std.proofs.lemmas.Slice.Eq.{bytes_eq-Decides}
use Rattle.reading.specs.Answer.{◌>>=◌, front}
use Rattle.reading.specs.Bytes.{sees}
use Rattle.reading.proofs.Basics.{chosen_is}
use Rattle.reading.proofs.Bytes.{sees_front}
use Rattle.reading.proofs.Solid.{Solid, IsSolid, Halted}
use Rattle.reading.proofs.Characters.{character_solid, ascii_read}
use Rattle.tpl_parse.specs.declared.token.Token.{Token}
use Rattle.ha_value.specs.Truth.{is_blank_or_break}
use Rattle.tpl_parse.specs.Token.{begins_name, in_name, is_reserved, spaces, text_of, all_words}
use Rattle.tpl_parse.specs.Literal.{unescaped, escape, escape_at, character, plain_or, string_character, string_turns, string, name, name_at, unreserved, skip_word, word}
use Rattle.tpl_parse.specs.Names.{function_named}
use Rattle.tpl_parse.specs.Grammar.{IsCharacter, character as character_is, IsString, close, escape as escaped, itself, IsRun, end, other, more as one_more, IsWord, IsName, name as name_is, is_variable}
use Rattle.tpl_parse.proofs.Apart.{is_false}
use Rattle.tpl_parse.proofs.Next.{Fault, Alike}
use Rattle.tpl_parse.proofs.Characters.{character_found, character_read, character_some}
use Rattle.tpl_parse.proofs.Runs.{word_found}
use Rattle.tpl_laws.proofs.Likes.{Like, like_blank, like_from}
use Rattle.tpl_laws.proofs.Outcomes.{Gave, Still, Grown, Open, Out, like_put, open_as, out_put}
use Rattle.tpl_laws.proofs.Tokens.{blanks_of, Every, place_open}

-- ---- the longest run

abbrev pub stops_at : (ℕ → Bool) → Option ℕ → Type 0
stops_at allows None = Unit {0}
stops_at allows (Some b) = allows b ≡ false

pub run_stops : {allows : ℕ → Bool} {t w rest : List ℕ} → IsRun allows t w rest → stops_at allows (front rest)
run_stops end = tt
run_stops (other h) = h
run_stops (one_more h r) = run_stops r

pub run_again : {allows : ℕ → Bool} {t w rest : List ℕ} → IsRun allows t w rest → (o : List ℕ) → stops_at allows (front o) → IsRun allows (w ++ o) w o
run_again end [] s = end
run_again end (b ∷ o) s = other s
run_again (other h) [] s = end
run_again (other h) (b ∷ o) s = other s
run_again (one_more h r) o s = one_more h (run_again r o s)

pub stops_like : (allows : ℕ → Bool) (rest o : List ℕ) → allows 32 ≡ false → stops_at allows (front rest) → (front o ≡ front rest) ⊎ (front o ≡ Some 32) → stops_at allows (front o)
stops_like allows rest o none h (inl e) = subst (λ (x : Option ℕ). stops_at allows x) (sym e) h
stops_like allows rest o none h (inr e) = subst (λ (x : Option ℕ). stops_at allows x) (sym e) none

pub run_parts : {allows : ℕ → Bool} {t w rest : List ℕ} → IsRun allows t w rest → t ≡ w ++ rest
run_parts end = refl
run_parts (other h) = refl
run_parts (one_more {b = b} h r) = ap (λ (v : List ℕ). b ∷ v) (run_parts r)

pub word_again : {t w rest : List ℕ} → IsWord t w rest → (o : List ℕ) → Like rest o → IsWord (w ++ o) w o
word_again {rest = rest} r o l = run_again r o (stops_like in_name rest o refl (run_stops r) l.first)

-- ---- names

name_by : (b : ℕ) (t w rest : List ℕ) → begins_name b ≡ true → IsWord (b ∷ t) w rest → (v : List ℕ) × (w ≡ b ∷ v)
name_by b t w rest first (one_more {run = run} h r) = (run, refl)
name_by b t w rest first (other h) = absurd (no_both (begins_name b) _ first h) where
  no_both : (x y : Bool) → x ≡ true → (x || y) ≡ false → ⊥
  no_both true y p q = cc
  no_both false y p q = cc

pub name_again : {t w rest : List ℕ} → IsName t w rest → (o : List ℕ) → Like rest o → IsName (w ++ o) w o
name_again (name_is {b = b} {text = t} {word = w} {rest = rest} first run free) o l =
    let p = name_by b t w rest first run in
    let here : IsWord (b ∷ (p.0 ++ o)) w o = subst (λ (v : List ℕ). IsWord (v ++ o) w o) p.1 (word_again run o l) in
    subst (λ (v : List ℕ). IsName (v ++ o) w o) (sym p.1) (name_is first here free)

not_dot : (b : ℕ) → begins_name b ≡ true → (b == 46) ≡ false
not_dot b h = elim (chosen_is (b == 46)) [
  | inl k ↦ absurd (let e = eqb-true b 46 k in let w : begins_name 46 ≡ true = subst (λ (x : ℕ). begins_name x ≡ true) e h in cc)
  | inr k ↦ k
]

-- a word of the grammar that goes on with `_` is none
every_word : (P : Token → Type 0) (w : List ℕ) (words : List Token) → Every P words → list_any (λ word. bytes_eq (text_of word) w) words ≡ true → (token : Token) × P token × (text_of token ≡ w)
every_word P w [] each h = absurd cc
every_word P w (token ∷ words) each h = elim (chosen_is (bytes_eq (text_of token) w)) [
  | inl k ↦ (token, each.0, (bytes_eq-Decides (text_of token) w).0 k)
  | inr k ↦ every_word P w words each.1 (rw k at h)
]

abbrev pub AllOf : (ℕ → Bool) → List ℕ → Type 0
AllOf allows [] = Unit {0}
AllOf allows (b ∷ w) = (allows b ≡ true) × AllOf allows w

pub run_all : {allows : ℕ → Bool} {t w rest : List ℕ} → IsRun allows t w rest → AllOf allows w
run_all end = tt
run_all (other h) = tt
run_all (one_more h r) = (h, run_all r)

run_longer : (w r : List ℕ) → AllOf in_name w → IsWord (w ++ 95 ∷ 32 ∷ r) (w ++ 95 ∷ []) (32 ∷ r)
run_longer [] r a = one_more refl (other refl)
run_longer (b ∷ w) r a = one_more a.0 (run_longer w r a.1)

abbrev pub IsFree : List ℕ → Type 0
IsFree w = (is_reserved w ≡ false) × (is_variable (function_named w) ≡ true)

reserved_longer : (w : List ℕ) → is_reserved w ≡ true → IsFree (w ++ 95 ∷ [])
reserved_longer w h =
    let p = every_word (λ token. IsFree (text_of token ++ 95 ∷ [])) w all_words
    ((refl, refl), ((refl, refl), ((refl, refl), ((refl, refl), ((refl, refl), ((refl, refl), ((refl, refl), ((refl, refl), ((refl, refl), ((refl, refl), ((refl, refl), ((refl, refl), ((refl, refl), ((refl, refl), ((refl, refl), ((refl, refl), ((refl, refl), tt))))))))))))))))) h in
    subst (λ (v : List ℕ). IsFree (v ++ 95 ∷ [])) p.2 p.1

not_space : (b : ℕ) → begins_name b ≡ true → is_blank_or_break b ≡ false
not_space b h = elim (chosen_is (is_blank_or_break b)) [
  | inl k ↦ absurd (grind (arith, h, k))
  | inr k ↦ k
]

pub name_shown : {t w rest : List ℕ} → IsName t w rest → spaces t ≡ t
unfolding spaces
name_shown (name_is {b = b} first run free) = rw (not_space b first) refl

-- a run that begins a name has no blank before it
pub run_shown : (b : ℕ) (s w left : List ℕ) → begins_name b ≡ true → IsWord (b ∷ s) w left → (o : List ℕ) → spaces (w ++ o) ≡ w ++ o
unfolding spaces
run_shown b s w left first run o = let p = name_by b s w left first run in subst (λ (v : List ℕ). spaces (v ++ o) ≡ v ++ o) (sym p.1) (rw (not_space b first) refl)

-- behind blanks and breaks
abbrev pub Named : List ℕ → List ℕ → List ℕ → Type 0
Named u w rest = IsName (spaces u) w rest

-- the name of a variable
abbrev pub Variable : List ℕ → List ℕ → List ℕ → Type 0
Variable u w rest = IsName (spaces u) w rest × (is_variable (function_named w) ≡ true)

pub one_name : (q : List ℕ) → IsName (97 ∷ 32 ∷ q) (97 ∷ []) (32 ∷ q)
one_name q = name_is refl (one_more refl (other refl)) refl

pub name_to_come : (u s : List ℕ) → spaces u ≡ s → Open Variable u (record { left = length s; code = tt })
unfolding spaces
name_to_come u s at = place_open Variable u [] u refl s at (97 ∷ []) (λ o q l here. (97 ∷ [], (subst (λ (v : List ℕ). IsName v (97 ∷ []) (32 ∷ q)) (sym here) (one_name q), refl)))

pub as_name : (u : List ℕ) (f : Fault) → Open Variable u f → Open Named u f
as_name u f h = open_as Still Variable Still Named u (λ o q x is. (x, is.0)) f h

module _ (b : ℕ) (s u : List ℕ) (at : spaces u ≡ b ∷ s) (first : begins_name b ≡ true) where
  abbrev found_word : List ℕ
  found_word = word (b ∷ s)

  abbrev left_word : List ℕ
  left_word = skip_word (b ∷ s)

  abbrev found_run : IsWord (b ∷ s) (word (b ∷ s)) (skip_word (b ∷ s))
  found_run = word_found (b ∷ s)

  pub word_parts : u ≡ ((blanks_of u).blanks ++ found_word) ++ left_word
  word_parts = (blanks_of u).parts ∙ ap (λ (v : List ℕ). (blanks_of u).blanks ++ v) (at ∙ run_parts found_run) ∙ sym (append_assoc (blanks_of u).blanks found_word left_word)

  pub name_taken : is_reserved found_word ≡ false → Grown Still Named u found_word left_word
  name_taken free =
      let bl = blanks_of u in
      record {
        before = bl.blanks ++ found_word;
        rest = left_word;
        parts = word_parts;
        alike = refl;
        again = λ o l.
            let n = name_again (name_is first found_run free) o l in
            let same : spaces ((bl.blanks ++ found_word) ++ o) ≡ found_word ++ o = ap spaces (append_assoc bl.blanks found_word o) ∙ bl.gone (found_word ++ o) ∙ name_shown n in
            subst (λ (v : List ℕ). IsName v found_word o) (sym same) n;
        goes = λ token k. absurd k;
      }

  pub name_longer : IsFree (found_word ++ 95 ∷ []) → Open Variable u (record { left = length left_word; code = tt })
  name_longer free =
      let bl = blanks_of u in
      let p = name_by b s found_word left_word first found_run in
      let starts : found_word ≡ b ∷ p.0 = p.1 in
      let name_of : (q : List ℕ) → IsName (found_word ++ 95 ∷ 32 ∷ q) (found_word ++ 95 ∷ []) (32 ∷ q) = λ q.
      subst (λ (v : List ℕ). IsName (v ++ 95 ∷ 32 ∷ q) (found_word ++ 95 ∷ []) (32 ∷ q)) (sym starts)
      (name_is first (subst (λ (v : List ℕ). IsWord (v ++ 95 ∷ 32 ∷ q) (found_word ++ 95 ∷ []) (32 ∷ q)) starts (run_longer found_word q (run_all found_run))) free.0) in
      record {
        before = bl.blanks ++ found_word;
        rest = left_word;
        parts = word_parts;
        left = refl;
        more = 95 ∷ [];
        like = λ q.
            let l : Like (b ∷ s) (found_word ++ 95 ∷ 32 ∷ q) = subst (λ (v : List ℕ). Like (b ∷ s) (v ++ 95 ∷ 32 ∷ q)) (sym starts) (like_from b s (p.0 ++ 95 ∷ 32 ∷ q) (not_dot b first)) in
            subst (λ (v : List ℕ). Like u v) (sym (append_assoc bl.blanks found_word (95 ∷ 32 ∷ q))) (like_put bl.blanks (bl.parts ∙ ap (λ (v : List ℕ). bl.blanks ++ v) at) l);
        spelled = λ q.
            let n = name_of q in
            let same : spaces ((bl.blanks ++ found_word) ++ 95 ∷ 32 ∷ q) ≡ found_word ++ 95 ∷ 32 ∷ q = ap spaces (append_assoc bl.blanks found_word (95 ∷ 32 ∷ q)) ∙ bl.gone (found_word ++ 95 ∷ 32 ∷ q) ∙ name_shown n in
            (found_word ++ 95 ∷ [], (subst (λ (v : List ℕ). IsName v (found_word ++ 95 ∷ []) (32 ∷ q)) (sym same) n, free.1));
      }

  pub name_reserved : is_reserved found_word ≡ true → Open Variable u (record { left = length left_word; code = tt })
  name_reserved taken = name_longer (reserved_longer found_word taken)

pub name_out : (t u : List ℕ) → Alike u t → Out Still Named u (name t)
unfolding name unreserved
name_out t u alike = by (spaces t) alike where
  by : (s : List ℕ) → spaces u ≡ s → Out Still Named u (name_at s)
  by [] at = as_name u _ (name_to_come u [] at)
  by (b ∷ s) at = elim (chosen_is (begins_name b)) [
    | inr h ↦ rw h (as_name u _ (name_to_come u (b ∷ s) at))
    | inl h ↦ elim (chosen_is (is_reserved (word (b ∷ s)))) [
      | inl k ↦ rw (h, k) (as_name u _ (name_reserved b s u at h k))
      | inr k ↦ rw (h, k) (name_taken b s u at h k)
    ]
  ]

-- ---- strings

pub char_again : {t c rest : List ℕ} → IsCharacter t c rest → (o : List ℕ) → IsCharacter (c ++ o) c o
char_again (character_is c s) o = character_is c s

pub char_parts : {t c rest : List ℕ} → IsCharacter t c rest → t ≡ c ++ rest
char_parts h = (character_read h).parts

escape_like : (x : ℕ) (a o : List ℕ) → (front o ≡ front a) ⊎ (front o ≡ Some 32) → escape_at (x ∷ a) ≡ None → escape_at (x ∷ o) ≡ None
escape_like x a o (inl e) h = ap (λ (v : Option ℕ). cond (x == 92) (escape v) None) e ∙ h
escape_like x a o (inr e) h = ap (λ (v : Option ℕ). cond (x == 92) (escape v) None) e ∙ nothing (x == 92) where
  nothing : (y : Bool) → cond {A = Option ℕ} y None None ≡ None
  nothing true = refl
  nothing false = refl

-- a character that is itself, whatever goes on alike
itself_again : (quote : ℕ) (c rest o : List ℕ) → 0 < length c → Like rest o → sees quote (c ++ rest) ≡ false → escape_at (c ++ rest) ≡ None → (sees quote (c ++ o) ≡ false) × (escape_at (c ++ o) ≡ None)
itself_again quote [] rest o some l h e = absurd (omega arith)
itself_again quote (x ∷ []) rest o some l h e = (h, escape_like x rest o l.first e)
itself_again quote (x ∷ y ∷ c) rest o some l h e = (h, e)

abbrev Rest : ℕ → List ℕ → List ℕ → List ℕ → List ℕ → Type 0
Rest quote found t s rest = (m : List ℕ) × (s ≡ found ++ m) × IsString quote t m rest

-- no character begins with a byte of ASCII and fails
pub high_byte : (b : ℕ) (w : List ℕ) (f : Fault) → character (b ∷ w) ≡ Err f → 128 ≤ b
high_byte b w f e = elim (cases_lt b 128) [
  | inl lt ↦ absurd (let k = sym (ascii_read tt b w lt) ∙ e in cc)
  | inr le ↦ le
]

pub high_not : (b k : ℕ) → k < 128 → 128 ≤ b → (b == k) ≡ false
high_not b k lt le = is_false (b == k) (λ h. omega (arith, lt, le, eqb-true b k h))

module _ (quote : ℕ) (bare : (32 == quote) ≡ false) where
  blank_close : (found q : List ℕ) → (s : List ℕ) × Rest quote found (32 ∷ quote ∷ 32 ∷ q) s (32 ∷ q)
  blank_close found q =
      let c : IsCharacter (32 ∷ quote ∷ 32 ∷ q) (encode_utf8 32) (quote ∷ 32 ∷ q) = character_found (32 ∷ quote ∷ 32 ∷ q) 32 (quote ∷ 32 ∷ q) (ascii_read tt 32 (quote ∷ 32 ∷ q) (omega arith)) in
      (found ++ (encode_utf8 32 ++ []), (encode_utf8 32 ++ [], refl, itself bare refl c close))

  module _ (n : ℕ) (found t : List ℕ) (no_end : sees quote t ≡ false)
      (again : (found' u : List ℕ) → length u < length t → Out Still (Rest quote found') u (string_turns n quote found' u)) where
    abbrev next : List ℕ × List ℕ → Gave (List ℕ)
    next c = string_turns n quote (found ++ c.0) c.1

    char_fails : (before rest : List ℕ) (f : Fault) → character t ≡ Err f → (l : Halted tt character t f) → before ≡ l.before → Open (Rest quote found) t f
    char_fails [] rest f e l is = record {
      before = [];
      rest = t;
      parts = refl;
      left = l.left ∙ ap length (sym (l.parts ∙ ap (λ (v : List ℕ). v ++ l.rest) (sym is)));
      more = 32 ∷ quote ∷ [];
      like = λ q. like_blank t (quote ∷ 32 ∷ q);
      spelled = λ q. blank_close found q;
    }
    char_fails (b ∷ w) rest f e l is =
        let parts : t ≡ b ∷ (w ++ l.rest) = l.parts ∙ ap (λ (v : List ℕ). v ++ l.rest) (sym is) in
        let high = high_byte b (w ++ l.rest) f (ap character (sym parts) ∙ e) in
        let away : (b == quote) ≡ false = subst (λ (v : List ℕ). sees quote v ≡ false) parts no_end in
        record {
          before = b ∷ w;
          rest = l.rest;
          parts = parts;
          left = l.left;
          more = l.more ++ quote ∷ [];
          like = λ q. subst (λ (v : List ℕ). Like v (b ∷ (w ++ ((l.more ++ quote ∷ []) ++ 32 ∷ q)))) (sym parts) (like_from b (w ++ l.rest) (w ++ ((l.more ++ quote ∷ []) ++ 32 ∷ q)) (high_not b 46 (omega arith) high));
          spelled = λ q.
              let same : (b ∷ w) ++ ((l.more ++ quote ∷ []) ++ 32 ∷ q) ≡ l.before ++ (l.more ++ quote ∷ 32 ∷ q) = ap (λ (v : List ℕ). (b ∷ w) ++ v) (append_assoc l.more (quote ∷ []) (32 ∷ q)) ∙ ap (λ (v : List ℕ). v ++ (l.more ++ quote ∷ 32 ∷ q)) is in
              let c : IsCharacter ((b ∷ w) ++ ((l.more ++ quote ∷ []) ++ 32 ∷ q)) (encode_utf8 l.x) (quote ∷ 32 ∷ q) = character_found ((b ∷ w) ++ ((l.more ++ quote ∷ []) ++ 32 ∷ q)) l.x (quote ∷ 32 ∷ q) (ap character same ∙ l.goes_on (quote ∷ 32 ∷ q)) in
              (found ++ (encode_utf8 l.x ++ []), (encode_utf8 l.x ++ [], refl, itself away (rw (high_not b 92 (omega arith) high) refl) c close));
        }

    char_ok : (x : ℕ) (rest : List ℕ) → escape_at t ≡ None → IsCharacter t (encode_utf8 x) rest → Out Still (Rest quote found) t (next (encode_utf8 x, rest))
    char_ok x rest none is =
        let parts : t ≡ encode_utf8 x ++ rest = char_parts is in
        let some : 0 < length (encode_utf8 x) = character_some is in
        out_put Still (Rest quote (found ++ encode_utf8 x)) Still (Rest quote found) t (encode_utf8 x) rest parts
        (λ o r s l m.
        let two = itself_again quote (encode_utf8 x) rest o some l (subst (λ (v : List ℕ). sees quote v ≡ false) parts no_end) (ap escape_at (sym parts) ∙ none) in
        (encode_utf8 x ++ m.0, m.1 ∙ append_assoc found (encode_utf8 x) m.0, itself two.0 two.1 (char_again is o) m.2))
        (λ y token k. k) (next (encode_utf8 x, rest)) (again (found ++ encode_utf8 x) rest (omega (arith, some, ap length parts, length-append (encode_utf8 x) rest)))

    by_char : escape_at t ≡ None → (r : Gave ℕ) → character t ≡ r → IsSolid tt character t r → Out Still (Rest quote found) t ((r >>= λ c. Ok (encode_utf8 c.0, c.1)) >>= next)
    by_char none (Ok x) e l = char_ok x.0 x.1 none (character_found t x.0 x.1 e)
    by_char none (Err f) e l = char_fails l.before l.rest f e l refl

  escape_out : (n : ℕ) (found t : List ℕ) → sees quote t ≡ false → ((found' u : List ℕ) → length u < length t → Out Still (Rest quote found') u (string_turns n quote found' u))
      → (o : Option ℕ) → escape_at t ≡ o → Out Still (Rest quote found) t (plain_or o t >>= λ c. string_turns n quote (found ++ c.0) c.1)
  unfolding Solid
  escape_out n found t no_end again None e = by_char n found t no_end again e (character t) refl (character_solid tt t)
  escape_out n found [] no_end again (Some meant) e = absurd cc
  escape_out n found (a ∷ []) no_end again (Some meant) e = absurd (never (a == 92) e) where
    never : (y : Bool) → cond y None None ≡ Some meant → ⊥
    never true k = cc
    never false k = cc
  escape_out n found (a ∷ b ∷ t) no_end again (Some meant) e = elim (chosen_is (a == 92)) [
    | inr h ↦ absurd (let k = rw h at e in cc)
    | inl h ↦
        let means : unescaped b ≡ Some meant = rw h at e in
        let is : a ≡ 92 = eqb-true a 92 h in
        let away : (92 == quote) ≡ false = subst (λ (v : ℕ). (v == quote) ≡ false) is no_end in
        out_put Still (Rest quote (found ++ meant ∷ [])) Still (Rest quote found) (a ∷ b ∷ t) (a ∷ b ∷ []) t refl
        (λ o r s l m. (meant ∷ m.0, m.1 ∙ append_assoc found (meant ∷ []) m.0, subst (λ (v : ℕ). IsString quote (v ∷ b ∷ o) (meant ∷ m.0) r) (sym is) (escaped means m.2)))
        (λ y token k. k) (string_turns n quote (found ++ meant ∷ []) t) (again (found ++ meant ∷ []) t (omega arith))
  ]

  string_turns_out : (n : ℕ) (found t : List ℕ) → length t < n → Out Still (Rest quote found) t (string_turns n quote found t)
  unfolding string_turns string_character
  string_turns_out zero found t lt = absurd (omega arith)
  string_turns_out (suc n) found t lt = elim (chosen_is (sees quote t)) [
    | inl h ↦ rw h (record {
      before = quote ∷ [];
      rest = drop 1 t;
      parts = sees_front quote t h;
      alike = refl;
      again = λ o l. ([], sym (append-nil found), close);
      goes = λ token k. absurd k;
    })
    | inr h ↦ rw h (escape_out n found t h (λ found' u less. string_turns_out n found' u (omega (arith, less, lt))) (escape_at t) refl)
  ]

  pub string_out : (t : List ℕ) → Out Still (IsString quote) t (string quote t)
  unfolding string
  string_out t =
      out_put Still (Rest quote []) Still (IsString quote) t [] t refl (λ o r s l m. subst (λ (v : List ℕ). IsString quote o v r) (sym m.1) m.2) (λ y token k. k)
      (string_turns (suc (length t)) quote [] t) (string_turns_out (suc (length t)) [] t (omega arith))
