-- Characters: what is read is the UTF-8 of a character, and the UTF-8 of a character is read.
use Rattle.std.proofs.Common.{◌≡◌, ℕ, ◌<◌, List, ◌++◌, length, Ok, refl, sym, subst, arith, length-append}
use Rattle.std.specs.Prelude.{encode_utf8}
use Rattle.reading.proofs.Characters.{character_found as utf8_found, character_read as utf8_read, encoded_some}
use Rattle.tpl_parse.specs.Literal.{character}
use Rattle.tpl_parse.specs.Grammar.{IsCharacter, character as character_is}

pub character_found : (t : List ℕ) (c : ℕ) (rest : List ℕ) → character t ≡ Ok (c, rest) → IsCharacter t (encode_utf8 c) rest
character_found t c rest e =
    let q = utf8_found tt t c rest e in
    subst (λ (v : List ℕ). IsCharacter v (encode_utf8 c) rest) (sym q.1) (character_is c q.0)

-- the parts of a character
pub record CharacterRead (t c rest : List ℕ) : Type 0 where
  pub code : ℕ
  pub reads : character t ≡ Ok (code, rest)
  pub is : encode_utf8 code ≡ c
  pub parts : t ≡ c ++ rest

pub character_read : {t c rest : List ℕ} → IsCharacter t c rest → CharacterRead t c rest
character_read (character_is c {rest = rest} s) = record { code = c; reads = utf8_read tt c rest s; is = refl; parts = refl }

pub character_shorter : {t c rest : List ℕ} → IsCharacter t c rest → length rest < length t
character_shorter (character_is c {rest = rest} s) = omega (arith, encoded_some c, length-append (encode_utf8 c) rest)

pub character_some : {t c rest : List ℕ} → IsCharacter t c rest → 0 < length c
character_some (character_is c s) = encoded_some c
