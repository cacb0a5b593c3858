-- A token that stands next is taken, and what is left is shorter.
use Rattle.std.proofs.Common.{◌≡◌, ℕ, suc, ◌-◌, ◌≤◌, ◌<◌, true, false, cond, List, [], ◌∷◌, ◌++◌, length, take, drop, sym, ap, ◌∙◌, subst, arith, length-append}
use Rattle.std.proofs.lemmas.Bool.{cond-true}
use Rattle.reading.specs.declared.fault.Bad.{Bad}
use Rattle.tpl_parse.specs.declared.token.Token.{Token}
use Rattle.ha_value.specs.Truth.{is_blank_or_break}
use Rattle.tpl_parse.specs.Token.{spaces, stands, next_is, past, behind, text_of}
use Rattle.tpl_parse.specs.Literal.{before}
use Rattle.tpl_parse.specs.Grammar.{Takes, takes}
use Rattle.tpl_parse.proofs.Apart.{Quiet, stands_parts}

abbrev pub Fault : Type 0
Fault = Bad (Unit {0})

-- the two are alike but for blanks and breaks at their fronts
abbrev pub Alike : List ℕ → List ℕ → Type 0
Alike t u = spaces t ≡ spaces u

pub spaces_within : (t : List ℕ) → length (spaces t) ≤ length t
unfolding spaces
spaces_within [] = omega arith
spaces_within (b ∷ t) =
    let h = spaces_within t in
    elim (is_blank_or_break b) as (λ x. length (cond x (spaces t) (b ∷ t)) ≤ length (b ∷ t)) [ true ↦ omega (arith, h) | false ↦ omega arith ]

pub has_text : (token : Token) → 0 < length (text_of token)
has_text Token.Set = omega arith
has_text _ = omega arith

pub past_shorter : (token : Token) (t : List ℕ) → next_is token t ≡ true → length (past token t) < length (spaces t)
past_shorter token t h =
    let p = (stands_parts token (spaces t) h).0 in
    omega (arith, has_text token, ap length p, length-append (text_of token) (past token t))

pub behind_is : (token : Token) (t : List ℕ) → next_is token t ≡ true → behind token t ≡ past token t
behind_is token t h = cond-true (next_is token t) (past token t) (spaces t) h

-- what a token that is taken says of a text that is alike
pub record Taken (token : Token) (t u rest : List ℕ) : Type 0 where
  pub next : next_is token t ≡ true
  pub here : next_is token u ≡ true
  pub rest_is : behind token t ≡ rest
  pub past_is : past token t ≡ rest
  pub shorter : length rest < length (spaces u)
  pub less : length (spaces rest) < length (spaces u)

pub taken : {token : Token} {t u rest : List ℕ} → Alike t u → Takes token u rest → Taken token t u rest
taken {token} {t} {u} alike (takes h) =
    let next : next_is token t ≡ true = ap (stands token) alike ∙ h in
    let same : past token t ≡ past token u = ap (λ (s : List ℕ). drop (length (text_of token)) s) alike in
    let short = past_shorter token u h in
    record { next = next; here = h; rest_is = behind_is token t next ∙ same; past_is = same; shorter = short; less = omega (arith, short, spaces_within (past token u)) }

-- and the other way round
pub took : (token : Token) (t u : List ℕ) → Alike t u → next_is token u ≡ true → Takes token t (behind token u)
took token t u alike h =
    subst (λ (r : List ℕ). Takes token t r) (ap (λ (s : List ℕ). drop (length (text_of token)) s) alike ∙ sym (behind_is token u h)) (takes (ap (stands token) alike ∙ h))

pub not_next : (token : Token) (t u : List ℕ) → Alike t u → next_is token u ≡ false → next_is token t ≡ false
not_next token t u alike h = ap (stands token) alike ∙ h

pub quiet_alike : (tokens : List Token) (t u : List ℕ) → Alike t u → Quiet tokens u → Quiet tokens t
quiet_alike [] t u alike q = tt
quiet_alike (token ∷ tokens) t u alike q = (not_next token t u alike q.0, quiet_alike tokens t u alike q.1)

-- ---- bytes before those that are left

pub before_append : (w rest : List ℕ) → before (w ++ rest) rest ≡ w
before_append [] rest = ap (λ (n : ℕ). take n rest) (let e : length rest - length rest ≡ 0 = omega arith in e)
before_append (b ∷ w) rest =
    let more = before_append w rest in
    let e : length (b ∷ (w ++ rest)) - length rest ≡ suc (length (w ++ rest) - length rest) = omega (arith, length-append w rest) in
    ap (λ (n : ℕ). take n (b ∷ (w ++ rest))) e ∙ ap (λ (l : List ℕ). b ∷ l) more

pub before_is : {t : List ℕ} (w rest : List ℕ) → t ≡ w ++ rest → before t rest ≡ w
before_is w rest e = ap (λ (u : List ℕ). before u rest) e ∙ before_append w rest
