-- Characters and strings, as their methods read them.
use Rattle.std.proofs.Common.{◌≡◌, ℕ, suc, ◌<◌, Bool, true, false, cond, List, [], ◌∷◌, ◌++◌, length, drop, Option, Some, None, Result, Ok, Err, refl, sym, ap, ◌∙◌, arith}
use Rattle.std.specs.Prelude.{encode_utf8}
use Rattle.reading.specs.declared.fault.Stop.{Stop}
use Rattle.reading.specs.declared.fault.Stop.TheVariants as stops
use Rattle.reading.specs.Answer.{◌>>=◌, Answer, Gives, made}
use Rattle.reading.specs.Bytes.{sees}
use Rattle.reading.proofs.Basics.{bind_ok, ok_parts, made_ok, made_err}
use Rattle.tpl_parse.specs.Leaves.{Leaves}
use Rattle.tpl_parse.specs.Token.{Reads}
use Rattle.tpl_parse.specs.Literal.{character, escape_at, plain_or, string_character, string_turns, string}
use Rattle.reading.proofs.Turns.{Continues, begins, ends, goes_on}
use Rattle.tpl_parse.proofs.Utf8.{Fault, character_found}

-- a step that went well
pub then_gives : {A B : Type 0} (step : Answer ℕ Fault A) (x : A × List ℕ) (next : A × List ℕ → Answer ℕ Fault B) (r : Result B (Stop Fault)) (new : List ℕ) → step ≡ Ok x → Gives (next x) r new → Gives (step >>= next) r new
then_gives step x next r new e given = rw e given

-- ---- strings

escaped_shorter : (rest : List ℕ) (meant : ℕ) → escape_at rest ≡ Some meant → length (drop 2 rest) < length rest
escaped_shorter [] meant e = absurd cc
escaped_shorter (b ∷ []) meant e = omega arith
escaped_shorter (b ∷ d ∷ rest) meant e = omega arith

pub string_character_shorter : (rest x after : List ℕ) → string_character rest ≡ Ok (x, after) → length after < length rest
unfolding string_character
string_character_shorter rest x after e = by (escape_at rest) refl e where
  by : (o : Option ℕ) → escape_at rest ≡ o → plain_or o rest ≡ Ok (x, after) → length after < length rest
  by (Some meant) is e = let l = escaped_shorter rest meant is in let p = ok_parts {F = Fault} (meant ∷ [], drop 2 rest) (x, after) e in omega (arith, ap length p.1)
  by None is e =
      let m = bind_ok (character rest) (λ c. Ok (encode_utf8 c.0, c.1)) (x, after) e in
      let p = ok_parts {F = Fault} (encode_utf8 m.0.0, m.0.1) (x, after) m.2 in
      let l = (character_found rest m.0.0 m.0.1 m.1).shorter in
      omega (arith, ap length p.1)

module _ (quote : ℕ) where
  abbrev pub turn : ℕ → List ℕ → Reads (List ℕ)
  turn n found = string_turns n quote found

  pub string_begins : (rest : List ℕ) → Continues turn [] rest (string quote rest)
  unfolding string
  string_begins rest = begins turn [] rest (string quote rest) refl

  module _ (old found rest : List ℕ) (so_far : Continues turn found rest (string quote old)) (seen : Bool) (eaten : List ℕ) (found_is : seen ≡ sees quote rest) (rest_is : eaten ≡ cond (sees quote rest) (drop 1 rest) rest) where
    pub string_ends : seen ≡ true → string quote old ≡ Ok (found, eaten)
    unfolding string_turns
    string_ends h = ends turn found rest (string quote old) so_far (Ok (found, eaten)) (λ n. last n (sym found_is ∙ h)) where
      last : (n : ℕ) → sees quote rest ≡ true → string_turns (suc n) quote found rest ≡ Ok (found, eaten)
      last n s = rw (rest_is, s) refl

    stays : seen ≡ false → eaten ≡ rest
    stays h = rest_is ∙ ap (λ (b : Bool). cond b (drop 1 rest) rest) (sym found_is ∙ h)

    string_failed : (n : ℕ) (f : Fault) → sees quote rest ≡ false → string_character rest ≡ Err f → string_turns (suc n) quote found rest ≡ Err f
    unfolding string_turns
    string_failed n f s g = rw (s, g) refl

    pub string_fails : (e : Stop Fault) (left new : List ℕ) → seen ≡ false → Leaves (made (λ c. found ++ c) (string_character eaten)) (Err e) left new → Gives {A = List ℕ} (string quote old) (Err e) new
    string_fails stops.Memory left new h given = tt
    string_fails (stops.Fault f) left new h given =
        let g : string_character rest ≡ Err f = made_err (λ c. found ++ c) (string_character rest) f (rw (stays h) at given) in
        ends turn found rest (string quote old) so_far (Err f) (λ n. string_failed n f (sym found_is ∙ h) g)

    module _ (all after : List ℕ) (h : seen ≡ false) (given : made (λ c. found ++ c) (string_character eaten) ≡ Ok (all, after)) where
      more : (x : List ℕ) × (string_character rest ≡ Ok (x, after)) × (found ++ x ≡ all)
      more = made_ok (λ c. found ++ c) (string_character rest) all after (rw (stays h) at given)

      pub string_smaller : length after < length rest
      string_smaller = string_character_shorter rest more.0 after more.1

      pub string_goes_on : Continues turn all after (string quote old)
      unfolding string_turns
      string_goes_on = rw (← more.2) (goes_on turn found rest (string quote old) so_far (found ++ more.0) after (λ n. one n (sym found_is ∙ h)) string_smaller) where
        one : (n : ℕ) → sees quote rest ≡ false → string_turns (suc n) quote found rest ≡ string_turns n quote (found ++ more.0) after
        one n s = rw (s, more.1) refl
